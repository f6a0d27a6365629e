use Rattle.std.proofs.Common.{◌≡◌, ◌+◌, ℕ, List, Some, length, refl, sym, subst, arith}
use Rattle.std.specs.Prelude.{slice_get}
use Rattle.std.proofs.lemmas.Option.{slice_get_read}
use Rattle.vcd_reader.specs.declared.waveform.Change.{Change}
use Rattle.vcd_replay.specs.declared.edges.Edge.{Edge}
use Rattle.vcd_replay.proofs.Walking.{IsWalked, walk_goes_on, walk_ends, walk_finds}
use Rattle.vcd_replay.proofs.edges.edges.Goals as goal
use Rattle.vcd_replay.proofs.edges.edges.Goals.{then-ends_group+in_ok-note, else-ends_group}

pub loop-place-preserved : goal.loop-place-preserved
loop-place-preserved c =
    let changes = c.args.changes.now in
    let clock = c.args.clock in
    let l = c.loop-place in
    let change : Change = c.index-changes-place.result in
    let next = c.next_digit-digit.result in
    let here : slice_get changes l.place ≡ Some change =
    slice_get_read changes (length changes) l.place change refl (omega arith) c.index-changes-place.is in
    let Last : (start before : ℕ) → List Edge → Type 0 = λ start before edges.
    IsWalked changes clock (l.place + 1) start before next edges in
    elim c.if-ends_group.branch [
      | then-ends_group+in_ok-note w ↦
          subst (λ v. Last c.if-ends_group.start c.if-ends_group.before v.items) (sym w.edges-is)
          (subst (λ b. Last c.if-ends_group.start b w.note.new.edges.items) (sym w.before-is)
          (subst (λ s. Last s next w.note.new.edges.items) (sym w.start-is)
          (walk_ends changes clock l.place l.start l.before l.digit next l.edges.items w.note.new.edges.items change
          c.requires.in_order c.requires.bits here
          c.next_digit-digit.ensures.same c.next_digit-digit.ensures.other
          (c.ends_group.ensures.ends w.if-ends_group.true) w.in_ok-note.ensures.noted l.invariant)))
      | else-ends_group w ↦
          let more = c.ends_group.ensures.goes_on w.if-ends_group.false in
          subst (λ v. Last c.if-ends_group.start c.if-ends_group.before v.items) (sym w.edges-is)
          (subst (λ b. Last c.if-ends_group.start b l.edges.items) (sym w.before-is)
          (subst (λ s. Last s l.before l.edges.items) (sym w.start-is)
          (walk_goes_on changes clock l.place l.start l.before l.digit next l.edges.items change c.requires.bits here
          c.next_digit-digit.ensures.same c.next_digit-digit.ensures.other more.0 more.1 more.2 l.invariant)))
    ]

pub returns : goal.returns
returns c = record {
  edges = walk_finds c.args.changes.now c.args.clock c.loop-place.place c.loop-place.start
      c.loop-place.before c.loop-place.digit c.loop-place.edges.items (omega arith) c.loop-place.invariant;
}
