use Rattle.std.proofs.Common.{◌+◌, ap, sym, ◌∙◌}
use Rattle.psl_model.specs.Value.{binary_value}
use Rattle.verilog_cycles.proofs.Wrapping.{cut_twice}
use Rattle.verilog_cycles.proofs.arithmetic.binary.Goals as goal

pub returns-in-Add : goal.returns-in-Add
returns-in-Add c =
    c.cut.ensures ∙ cut_twice (c.args.x + c.args.y) c.args.context c.requires
    ∙ ap (λ o. binary_value o c.args.context c.args.x c.args.y) (sym c.in-Add.is)
