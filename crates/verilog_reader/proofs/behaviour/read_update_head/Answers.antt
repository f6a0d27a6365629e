use Rattle.std.proofs.Common.{Bor, List, ℕ}
use Rattle.verilog_reader.proofs.Steps.{gives_as, head_is}
use Rattle.verilog_reader.proofs.behaviour.read_update_head.Goals as goal

pub returns : goal.returns
returns c =
    gives_as (λ (rest : Bor (List ℕ)). rest.now) c.expect-2.result _ _
    (head_is c.args.number c.args.bytes.now c.in_ok-start.start.now c.in_ok-named.named.now c.in_ok-start.ensures
    c.in_ok-named.ensures) c.expect-2.ensures
