use Rattle.std.proofs.Common.{slice_get, ap, ◌∙◌}
use Rattle.sequence_circuits.proofs.states.make_state.Goals as goal

pub returns-clause-registers : goal.returns-clause-registers
returns-clause-registers c = c.in_ok-live.ensures.registers ∙ c.in_ok-register.ensures.registers

pub returns-clause-register : goal.returns-clause-register
returns-clause-register c =
    ap (λ rs. slice_get rs c.in_ok-register.register.0) c.in_ok-live.ensures.registers
    ∙ c.in_ok-register.ensures.register

pub returns-clause-net_of : goal.returns-clause-net_of
returns-clause-net_of c =
    c.in_ok-live.ensures.kept.nodes c.in_ok-register.held.0 _ c.in_ok-register.ensures.net_of
