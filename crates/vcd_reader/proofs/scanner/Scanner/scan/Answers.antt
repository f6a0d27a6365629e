use Rattle.std.proofs.Common.{◌≡◌, ℕ, ◌+◌, sym, ◌∙◌, subst, arith, true, false, get_or}
use Rattle.vcd_reader.specs.declared.scanner.Scanner.{Scanner}
use Rattle.vcd_reader.specs.Tokens.{is_blank}
use Rattle.vcd_reader.proofs.ScanSteps.{IsScanned, scan_begins, past_ink_byte, past_blank_byte, failed_at_blank}
use Rattle.vcd_reader.proofs.scanner.Scanner.scan.Goals as goal
use Rattle.vcd_reader.proofs.scanner.Scanner.scan.Goals.{then-is_blank+in_ok-end_token+in-None, else-is_blank}

pub loop-index-init : goal.loop-index-init
loop-index-init c = scan_begins c.args.self.now c.args.piece.now c.requires.fine c.requires.within

pub returns-in-Some : goal.returns-in-Some
returns-in-Some c =
    let blank : is_blank (get_or c.args.piece.now c.loop-index.index 0) ≡ true = sym c.is_blank.ensures.is
    ∙ c.if-is_blank.true in
    record {
      scans = failed_at_blank c.args.self.now c.args.piece.now c.loop-index.start c.loop-index.index
          c.loop-index.self c.end_token.new.self c.in-Some.field-0 c.loop-index.invariant (omega arith) blank
          c.in_ok-end_token.ensures.closes c.in-Some.is;
    }

pub loop-index-preserved : goal.loop-index-preserved
loop-index-preserved c =
    let first = c.args.self.now in
    let piece = c.args.piece.now in
    let index = c.loop-index.index in
    elim c.if-is_blank.branch [
      | then-is_blank+in_ok-end_token+in-None w ↦
          let blank : is_blank (get_or piece index 0) ≡ true = sym c.is_blank.ensures.is ∙ w.if-is_blank.true in
          let P : Scanner → Type 0 = λ now. IsScanned first piece (index + 1) (index + 1) now in
          let Q : ℕ → Type 0 = λ start. IsScanned first piece start (index + 1) c.if-is_blank.self in
          subst Q (sym w.start-is) (subst P (sym w.self-is)
          (past_blank_byte first piece c.loop-index.start index c.loop-index.self w.end_token.new.self
          c.loop-index.invariant (omega arith) blank w.in_ok-end_token.ensures.closes
          w.in_ok-end_token.ensures.empty w.end_token.ensures.at w.in-None.is))
      | else-is_blank w ↦
          let ink : is_blank (get_or piece index 0) ≡ false = sym c.is_blank.ensures.is ∙ w.if-is_blank.false in
          let P : Scanner → Type 0 = λ now. IsScanned first piece c.loop-index.start (index + 1) now in
          let Q : ℕ → Type 0 = λ start. IsScanned first piece start (index + 1) c.if-is_blank.self in
          subst Q (sym w.start-is) (subst P (sym w.self-is)
          (past_ink_byte first piece c.loop-index.start index c.loop-index.self c.loop-index.invariant (omega arith)
          ink))
    ]
