use Rattle.std.proofs.Common.{◌≡◌, List, ℕ, Some, None, ap, sym, ◌∙◌, get_or}
use Rattle.psl_model.specs.declared.operators.BinOp.TheVariants.{Add}
use Rattle.verilog_text.specs.Text.{infix_text}
use Rattle.verilog_reader.specs.inner.Pieces.{after_text}
use Rattle.verilog_reader.proofs.Operators.{first_found, first_passed, first_none}
use Rattle.verilog_reader.proofs.symbols.first_infix.Goals as goal

pub returns-in-Some : goal.returns-in-Some
returns-in-Some c =
    let here : after_text (infix_text (get_or c.args.operators.now c.loop-op.op-index Add)) c.args.bytes.now
    ≡ Some c.in-Some.rest.now = ap (λ (s : List ℕ). after_text s c.args.bytes.now) (sym c.infix.ensures)
    ∙ sym c.in-Some.ensures in
    first_found infix_text c.args.operators.now c.args.bytes.now c.loop-op.op-index Add c.in-Some.rest.now
    c.loop-op-test.true c.loop-op.invariant here

pub loop-op-preserved : goal.loop-op-preserved
loop-op-preserved c =
    let here : after_text (infix_text (get_or c.args.operators.now c.loop-op.op-index Add)) c.args.bytes.now ≡ None =
    ap (λ (s : List ℕ). after_text s c.args.bytes.now) (sym c.infix.ensures) ∙ sym c.in_default.ensures in
    first_passed infix_text c.args.operators.now c.args.bytes.now c.loop-op.op-index Add c.loop-op-test.true
    c.loop-op.invariant here

pub returns : goal.returns
returns c =
    first_none infix_text c.args.operators.now c.args.bytes.now c.loop-op.op-index c.loop-op-test.false
    c.loop-op.invariant
