-- The Booleans of the core sequence as which a sequence is counted use the signals that the sequence uses.
use Rattle.std.proofs.Common.{◌≡◌, ℕ, zero, suc, ◌-◌, Bool, true, false, Option, Some, None, List, [], ◌∷◌, ◌++◌, refl}
use Rattle.std.proofs.Common.{subst}
use Rattle.std.specs.Prelude.{All, IsTrue, ◌||◌}
use Rattle.std.proofs.lemmas.List.Elements.{All-append, All-nil, All-cons}
use Rattle.psl_model.specs.Expr.{Expr, unary}
use Rattle.psl_model.specs.declared.operators.UnOp.TheVariants.{Not}
use Rattle.psl_model.specs.Sere as sere
use Rattle.psl_model.specs.Uses.{expr_uses, sere_uses}
use Rattle.psl_meaning.specs.Sequence.{CoreSere, bool, concat, both}
use Rattle.psl_meaning.specs.SequenceSugar as sugar
use Rattle.psl_meaning.specs.SequenceSugar.{copies}
use Rattle.psl_rewrite.specs.CoreSere as core
use Rattle.psl_rewrite.specs.Meaning.{meant_core}
use Rattle.port_formulas.specs.Chosen.{UsesOnly}
use Rattle.sequence_cores.specs.Counted.{copied, ranged, counted_repeat, counted_as, next_with}
use Rattle.sequence_tables.specs.Renamed.{booleans_of}
use Rattle.symbol_alphabet.specs.Symbols.{stripped}
use Rattle.port_steps.proofs.Names.{IsKnown, stripped_uses, or_left, or_right}

-- ---- what holds of the Booleans of a sequence holds of those of its repetitions

module _ (P : Expr → Type 0) where
  abbrev Every : CoreSere → Type 0
  Every r = All P (booleans_of r)

  abbrev EveryCounted : core.CoreSere → Type 0
  EveryCounted r = Every (meant_core r)

  pub of_both : (r s : CoreSere) → Every r → Every s → All P (booleans_of r ++ booleans_of s)
  of_both r s left right = All-append P (booleans_of r) (booleans_of s) left right

  none_every : All P []
  none_every = All-nil P

  copies_every : (k : ℕ) (r : CoreSere) → Every r → Every (copies k r)
  copies_every zero r every = none_every
  copies_every (suc zero) r every = every
  copies_every (suc (suc k)) r every = of_both (copies (suc k) r) r (copies_every (suc k) r every) every

  copied_every : (k : ℕ) (r : core.CoreSere) → EveryCounted r → EveryCounted (copied k r)
  copied_every zero r every = none_every
  copied_every (suc zero) r every = every
  copied_every (suc (suc k)) r every = copies_every (suc (suc k)) (meant_core r) every

  ranged_every : (low more : ℕ) (r : core.CoreSere) → EveryCounted r → EveryCounted (ranged low more r)
  ranged_every low zero r every = copied_every low r every
  ranged_every low (suc more) r every =
      of_both (meant_core (copied low r)) (meant_core (copied (suc more) (core.or core.empty r)))
      (copied_every low r every) (copied_every (suc more) (core.or core.empty r) every)

  pub repeated_every : (low : ℕ) (high : Option ℕ) (r : core.CoreSere) → EveryCounted r →
      EveryCounted (counted_repeat low high r)
  repeated_every low (Some high) r every = ranged_every low (high - low) r every
  repeated_every zero None r every = every
  repeated_every (suc low) None r every =
      of_both (meant_core (copied (suc low) r)) (meant_core r) (copied_every (suc low) r every) every

-- ---- the signals of these Booleans

module _ (places : List ℕ) where
  abbrev Known : Expr → Type 0
  Known e = IsKnown places e

  abbrev AreKnown : CoreSere → Type 0
  AreKnown r = All Known (booleans_of r)

  one_known : (e : Expr) → Known e → All Known (e ∷ [])
  one_known e known = All-cons Known e [] known (All-nil Known)

  stripped_known : (e : Expr) → Known e → Known (stripped e)
  stripped_known e known s used = known s (subst IsTrue (stripped_uses s e) used)

  bool_known : (e : Expr) → Known e → AreKnown (bool e)
  bool_known e known = one_known (stripped e) (stripped_known e known)

  anything_known : AreKnown sugar.anything
  anything_known = bool_known sugar.always_true (λ s used. absurd (let none : false ≡ true = used in cc))

  padded_known : (r : CoreSere) → AreKnown r → AreKnown (concat r sugar.anything)
  padded_known r known = of_both Known r sugar.anything known anything_known

  next_with_known : (b : Expr) → Known b → AreKnown (meant_core (next_with b))
  next_with_known b known =
      of_both Known (bool (unary Not b)) (bool b) (bool_known (unary Not b) known) (bool_known b known)

  left_known : (r s : sere.Sere) → UsesOnly places (λ k. sere_uses k (sere.concat r s)) →
      UsesOnly places (λ k. sere_uses k r)
  left_known r s known k used = known k (or_left (sere_uses k r) (sere_uses k s) used)

  right_known : (r s : sere.Sere) → UsesOnly places (λ k. sere_uses k (sere.concat r s)) →
      UsesOnly places (λ k. sere_uses k s)
  right_known r s known k used = known k (or_right (sere_uses k r) (sere_uses k s) used)

  two_known : (r s : sere.Sere) → AreKnown (meant_core (counted_as r)) → AreKnown (meant_core (counted_as s)) →
      All Known (booleans_of (meant_core (counted_as r)) ++ booleans_of (meant_core (counted_as s)))
  two_known r s left right = of_both Known (meant_core (counted_as r)) (meant_core (counted_as s)) left right

  pub counted_known : (r : sere.Sere) → UsesOnly places (λ k. sere_uses k r) → AreKnown (meant_core (counted_as r))
  counted_known (sere.bool b) known = bool_known b known
  counted_known (sere.concat r s) known =
      two_known r s (counted_known r (left_known r s known)) (counted_known s (right_known r s known))
  counted_known (sere.fuse r s) known =
      two_known r s (counted_known r (left_known r s known)) (counted_known s (right_known r s known))
  counted_known (sere.or r s) known =
      two_known r s (counted_known r (left_known r s known)) (counted_known s (right_known r s known))
  counted_known (sere.both r s) known =
      two_known r s (counted_known r (left_known r s known)) (counted_known s (right_known r s known))
  counted_known (sere.meet r s) known =
      let a = meant_core (counted_as r) in
      let b = meant_core (counted_as s) in
      let left = counted_known r (left_known r s known) in
      let right = counted_known s (right_known r s known) in
      of_both Known (both a (concat b sugar.anything)) (both (concat a sugar.anything) b)
      (of_both Known a (concat b sugar.anything) left (padded_known b right))
      (of_both Known (concat a sugar.anything) b (padded_known a left) right)
  counted_known (sere.within r s) known =
      let a = meant_core (counted_as r) in
      let b = meant_core (counted_as s) in
      let inside = of_both Known sugar.anything a anything_known (counted_known r (left_known r s known)) in
      of_both Known (concat (concat sugar.anything a) sugar.anything) b
      (padded_known (concat sugar.anything a) inside) (counted_known s (right_known r s known))
  counted_known (sere.repeat r low high) known =
      repeated_every Known low high (counted_as r) (counted_known r known)
  counted_known (sere.goto b low high) known =
      repeated_every Known low high (next_with b) (next_with_known b known)
  counted_known (sere.equal b low high) known =
      of_both Known (meant_core (counted_repeat low high (next_with b))) (bool (unary Not b))
      (repeated_every Known low high (next_with b) (next_with_known b known)) (bool_known (unary Not b) known)
