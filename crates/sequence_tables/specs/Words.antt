-- When a table accepts the words of a core sequence.
use Rattle.std.specs.Prelude.{◌↔◌, ◌≢◌, ℕ, List, All, map}
use Rattle.psl_model.specs.Expr.{Expr}
use Rattle.psl_meaning.specs.Sequence.{CoreSere, Tight}
use Rattle.psl_meaning.specs.Word.{Letter, bottom}
use Rattle.symbol_alphabet.specs.Symbols.{seen_by}
use Rattle.auto_core.specs.Graph.{Graph, graph_machine}
use Rattle.auto_core.specs.Machine.{Accepts}

-- whatever the widths of the signals, a list of valuations and tops is accepted, as it is seen by the symbols, exactly
-- if it tightly satisfies the sequence
abbrev pub AcceptsTight : (symbols : List Expr) → CoreSere → Graph → Type 0
AcceptsTight symbols r g =
    (widths : List ℕ) (w : List Letter) → All (λ a. a ≢ bottom) w →
    Accepts (graph_machine g) (map (seen_by widths symbols) w) ↔ Tight widths r w
