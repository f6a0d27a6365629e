use Rattle.std.proofs.Common.{◌≡◌, ◌<◌, ◌≤◌, [], false, true, List, length, Some, sym, subst, arith}
use Rattle.std.specs.Prelude.{map}
use Rattle.psl_grammar.specs.RawUnit as raw
use Rattle.psl_grammar.specs.UnitView.{item_of}
use Rattle.psl_grammar.specs.declared.items.RawItem.{RawItem}
use Rattle.psl_grammar.specs.declared.symbols.Symbol.{Symbol}
use Rattle.psl_grammar.specs.declared.symbols.Symbol.TheVariants.{CloseBrace}
use Rattle.psl_grammar.specs.Units.{symbols_in, outside, known_after}
use Rattle.unit_reader.specs.inner.Answers.{Halts}
use Rattle.unit_reader.specs.inner.Steps.{is_at}
use Rattle.unit_reader.specs.inner.UnitReaders.{short_at}
use Rattle.unit_reader.proofs.UnitReads.{Way, way_begins, way_turns, way_halts, way_ends, long_symbols}
use Rattle.unit_reader.proofs.units.read_items.Goals as goal

pub items-init : goal.items-init
items-init c = (
  (
    [],
    c.in-Ok.ensures,
    subst (λ (l : List RawItem). Way c.args.text.now c.args.tokens.now c.args.from [] (map item_of l) c.args.from)
        (sym c.new-items.ensures.items) (way_begins c.args.text.now c.args.tokens.now c.args.from),
  ),
  c.requires.place,
)

pub returns-in-Err-read_step-clause-gives : goal.returns-in-Err-read_step-clause-gives
returns-in-Err-read_step-clause-gives c =
    let known = c.items.invariant.0.0 in
    let open_brace : is_at (outside c.args.text.now c.args.tokens.now) c.items.to CloseBrace ≡ false =
    subst (λ (l : List Symbol). is_at l c.items.to CloseBrace ≡ false) c.requires.plain (sym c.items-test.ensures) in
    way_halts c.args.text.now c.args.tokens.now c.in-Err-read_step.error c.args.from known
    (map item_of c.items.items.items) c.items.to
    c.items.invariant.0.2 c.items.invariant.1 open_brace
    (subst (λ (l : List Symbol). Halts c.in-Err-read_step.error (short_at l c.items.to)) c.items.invariant.0.1
    c.in-Err-read_step.ensures.item)

pub items-preserved : goal.items-preserved
items-preserved c =
    let known = c.items.invariant.0.0 in
    let open_brace : is_at (outside c.args.text.now c.args.tokens.now) c.items.to CloseBrace ≡ false =
    subst (λ (l : List Symbol). is_at l c.items.to CloseBrace ≡ false) c.requires.plain (sym c.items-test.ensures) in
    let long = long_symbols c.args.text.now c.args.tokens.now known c.items.symbols.items c.items.invariant.0.1 in
    let some : c.items.to < c.in-Ok-read_step.after = c.in-Ok-read_step.ensures.some in
    let end : c.in-Ok-read_step.after ≤ length c.items.symbols.items = c.in-Ok-read_step.ensures.end in
    let item = item_of c.in-Ok-read_step.item in
    let read : short_at (symbols_in c.args.text.now known c.args.tokens.now) c.items.to
    ≡ Some (item, c.in-Ok-read_step.after) =
    subst (λ (l : List Symbol). short_at l c.items.to ≡ Some (item_of c.in-Ok-read_step.item, c.in-Ok-read_step.after))
    c.items.invariant.0.1 c.in-Ok-read_step.ensures.item in
    let within : c.items.to < length c.args.tokens.now = omega arith in (
      (
        known_after c.args.text.now c.args.tokens.now known item,
        c.in-Ok-read_step.ensures.known known c.items.invariant.0.1,
        subst (λ (l : List raw.RawItem). Way c.args.text.now c.args.tokens.now c.args.from
            (known_after c.args.text.now c.args.tokens.now known item) l c.in-Ok-read_step.after)
            (sym c.in-Ok-put.ensures)
            (way_turns c.args.text.now c.args.tokens.now c.args.from known (map item_of c.items.items.items) item
            c.items.to
            c.in-Ok-read_step.after c.items.invariant.0.2 within open_brace read some),
      ),
      omega arith,
    )

pub returns-clause-gives : goal.returns-clause-gives
returns-clause-gives c =
    let close : is_at (outside c.args.text.now c.args.tokens.now) c.items.to CloseBrace ≡ true =
    subst (λ (l : List Symbol). is_at l c.items.to CloseBrace ≡ true) c.requires.plain (sym c.items-test.ensures) in
    way_ends c.args.text.now c.args.tokens.now c.args.from c.items.invariant.0.0 (map item_of c.items.items.items)
    c.items.to
    c.items.invariant.0.2 close
