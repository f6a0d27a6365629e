-- The one edge of a leaf.
use Rattle.std.proofs.Common.{◌≡◌, ◌↔◌, ℕ, zero, suc, ◌<◌, Some, List, length, slice_get, refl, arith}
use Rattle.auto_core.specs.declared.labels.Literal.{Literal}
use Rattle.auto_core.specs.Edges.{LeadsTo, PutsEdge, PassesEdge}
use Rattle.auto_core.specs.LiteralSets.{IsLabel, put_all}
use Rattle.auto_core.specs.Machine.{Letter, Passes}
use Rattle.sere_automata.specs.declared.states.LeafState.{LeafState}
use Rattle.sere_automata.specs.declared.states.LeafState.TheVariants.{Start, End}
use Rattle.sere_automata.specs.Leaf.{leaf_edges}

module _ (label : List Literal) where
  leaf_at : (state : LeafState) (place : ℕ) → place < length (leaf_edges label state) →
      slice_get (leaf_edges label state) place ≡ Some (label, End)
  leaf_at Start zero h = refl
  leaf_at Start (suc k) h = absurd (omega arith)
  leaf_at End k h = absurd (omega arith)

  pub leaf_leads : (state : LeafState) (place : ℕ) → place < length (leaf_edges label state) →
      LeadsTo (leaf_edges label state) place End
  leaf_leads state place h = (label, leaf_at state place h)

  pub leaf_puts : (state : LeafState) (place : ℕ) (old new : List Literal) → place < length (leaf_edges label state) →
      IsLabel label → new ≡ put_all label old → PutsEdge (leaf_edges label state) place old new
  leaf_puts state place old new h ordered e = (label, End, leaf_at state place h, (ordered, e))

  pub leaf_passes : (state : LeafState) (place : ℕ) (old new : List Literal) → place < length (leaf_edges label state) →
      ((a : Letter) → Passes new a ↔ (Passes label a × Passes old a)) →
      PassesEdge (leaf_edges label state) place old new
  leaf_passes state place old new h passing = (label, End, leaf_at state place h, passing)
