use Rattle.std.proofs.Common.{ap, ◌∙◌}
use Rattle.std.specs.Prelude.{bit_and}
use Rattle.std.proofs.lemmas.Nat.{and_mask}
use Rattle.verilog_cycles.proofs.arithmetic.cut.Goals as goal

pub returns : goal.returns
returns c = ap (bit_and c.args.x) c.ones.ensures ∙ and_mask c.args.x c.args.width
