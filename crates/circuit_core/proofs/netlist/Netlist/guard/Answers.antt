use Rattle.std.specs.Prelude.{◌≡◌, ◌≢◌, ◌↔◌, ℕ, List, Some, slice_get}
use Rattle.std.proofs.Common.{ap, ◌∙◌}
use Rattle.std.proofs.lemmas.Result.{IfOk-weaker}
use Rattle.psl_model.specs.View.{expr_of}
use Rattle.psl_model.specs.Value.{own_value}
use Rattle.psl_model.specs.Expr.{Expr}
use Rattle.circuit_core.specs.declared.nodes.Net.{Net}
use Rattle.circuit_core.specs.Netlist.{guard, one_bit}
use Rattle.circuit_core.specs.Run.{On, InEachRun}
use Rattle.circuit_core.proofs.Streams.{guard_stream}
use Rattle.circuit_core.proofs.netlist.Netlist.guard.Goals as goal

pub returns-clause-stream : goal.returns-clause-stream
returns-clause-stream c =
    IfOk-weaker c.put.result _
    (λ (k : Net). InEachRun c.put.new.self (λ inputs run. (n : ℕ) (values : List ℕ) →
    slice_get inputs.trace n ≡ Some values →
    On (run k.0) n ↔ (own_value c.args.self.now.widths values (expr_of c.args.expr.now) ≢ 0)))
    (λ k at. guard_stream c.args.self.now c.put.new.self k.0 (expr_of c.args.expr.now) c.put.ensures.kept
    (at ∙ ap (λ (e : Expr). Some (one_bit (guard e))) c.in_ok-expr.ensures.equal)) c.put.ensures.node
