-- The core sequence as which a sequence that is named anew is counted: its Booleans are named anew, and nothing else.
use Rattle.std.proofs.Common.{◌≡◌, ℕ, zero, suc, ◌-◌, Option, Some, None, refl, ap, ◌∙◌}
use Rattle.psl_model.specs.Expr.{Expr}
use Rattle.psl_model.specs.Sere as sere
use Rattle.psl_meaning.specs.Sequence.{CoreSere, empty, concat, fuse, or, both, star}
use Rattle.psl_meaning.specs.SequenceSugar as sugar
use Rattle.psl_meaning.specs.SequenceSugar.{copies}
use Rattle.psl_rewrite.specs.CoreSere as core
use Rattle.psl_rewrite.specs.Meaning.{meant_core}
use Rattle.port_formulas.specs.Over.{expr_named, sere_named}
use Rattle.sequence_cores.specs.Counted.{copied, ranged, counted_repeat, counted_as, next_with, without}
use Rattle.sequence_tables.specs.Renamed.{renamed}

module _ (f : Expr → Expr) where
  renamed_copies : (k : ℕ) (r : CoreSere) → copies k (renamed f r) ≡ renamed f (copies k r)
  renamed_copies zero r = refl
  renamed_copies (suc zero) r = refl
  renamed_copies (suc (suc k)) r = ap (λ (c : CoreSere). concat c (renamed f r)) (renamed_copies (suc k) r)

  -- the second is the first with its Booleans named anew
  abbrev Alike : core.CoreSere → core.CoreSere → Type 0
  Alike r s = meant_core s ≡ renamed f (meant_core r)

  module _ (r s : core.CoreSere) (alike : Alike r s) where
    copied_alike : (k : ℕ) → Alike (copied k r) (copied k s)
    copied_alike zero = refl
    copied_alike (suc zero) = alike
    copied_alike (suc (suc k)) = ap (copies (suc (suc k))) alike ∙ renamed_copies (suc (suc k)) (meant_core r)

  ranged_alike : (r s : core.CoreSere) → Alike r s → (low more : ℕ) → Alike (ranged low more r) (ranged low more s)
  ranged_alike r s alike low zero = copied_alike r s alike low
  ranged_alike r s alike low (suc more) =
      let optional : Alike (core.or core.empty r) (core.or core.empty s) =
      ap (λ (c : CoreSere). or empty c) alike in
      λ i. concat (copied_alike r s alike low i)
      (copied_alike (core.or core.empty r) (core.or core.empty s) optional (suc more) i)

  repeated_alike : (r s : core.CoreSere) → Alike r s → (low : ℕ) (high : Option ℕ) →
      Alike (counted_repeat low high r) (counted_repeat low high s)
  repeated_alike r s alike low (Some high) = ranged_alike r s alike low (high - low)
  repeated_alike r s alike zero None = ap star alike
  repeated_alike r s alike (suc low) None = λ i. concat (copied_alike r s alike (suc low) i) (star (alike i))

module _ (name : ℕ → ℕ) where
  pub counted_alike : (r : sere.Sere) →
      meant_core (counted_as (sere_named name r)) ≡ renamed (expr_named name) (meant_core (counted_as r))
  counted_alike (sere.bool b) = refl
  counted_alike (sere.concat r s) = λ i. concat (counted_alike r i) (counted_alike s i)
  counted_alike (sere.fuse r s) = λ i. fuse (counted_alike r i) (counted_alike s i)
  counted_alike (sere.or r s) = λ i. or (counted_alike r i) (counted_alike s i)
  counted_alike (sere.both r s) = λ i. both (counted_alike r i) (counted_alike s i)
  counted_alike (sere.meet r s) =
      λ i. or (both (counted_alike r i) (concat (counted_alike s i) sugar.anything))
      (both (concat (counted_alike r i) sugar.anything) (counted_alike s i))
  counted_alike (sere.within r s) =
      λ i. both (concat (concat sugar.anything (counted_alike r i)) sugar.anything) (counted_alike s i)
  counted_alike (sere.repeat r low high) =
      repeated_alike (expr_named name) (counted_as r) (counted_as (sere_named name r)) (counted_alike r) low high
  counted_alike (sere.goto b low high) =
      repeated_alike (expr_named name) (next_with b) (next_with (expr_named name b)) refl low high
  counted_alike (sere.equal b low high) =
      let times = repeated_alike (expr_named name) (next_with b) (next_with (expr_named name b)) refl low high in
      λ i. concat (times i) (renamed (expr_named name) (meant_core (without b)))
