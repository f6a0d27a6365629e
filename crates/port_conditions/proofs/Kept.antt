-- What a formula over the signals that it uses takes over from its formula.
use Rattle.std.proofs.Common.{◌≡◌, ℕ, zero, suc, ◌<◌, ◌≤◌, Bool, true, false, List, ◌∷◌, ◌++◌, length}
use Rattle.std.proofs.Common.{map, replicate, refl, sym, ap, ◌∙◌, subst}
use Rattle.std.specs.Prelude.{◌||◌, ◌&&◌, ◌↔◌, IsTrue}
use Rattle.std.proofs.lemmas.List.{map-append}
use Rattle.psl_model.specs.Expr.{Expr}
use Rattle.psl_model.specs.Sere as sere
use Rattle.psl_model.specs.Formula as formula
use Rattle.psl_model.specs.Formula.{Formula}
use Rattle.psl_model.specs.Uses.{expr_uses, sere_uses, formula_uses}
use Rattle.psl_model.specs.Valid.{IsValid, parentheses}
use Rattle.psl_meaning.specs.Word.{Letter, top}
use Rattle.psl_meaning.specs.Sequence.{Tight}
use Rattle.psl_meaning.specs.SequenceSugar.{core_of}
use Rattle.simple_subset.specs.Subset.{is_boolean, is_plain_sequence, unless, for_some, until_rule, broken_rules}
use Rattle.psl_rewrite.specs.Conditions.{IsAllowed, SereHas, FormulaHas, SereCounts, FormulaCounts, formula_sequences}
use Rattle.psl_rewrite.specs.BaseForm.{suffix_sere}
use Rattle.psl_rewrite.specs.Obligations.{EachObligation, CanHappen, IsContradictory}
use Rattle.port_formulas.specs.Chosen.{chosen, chosen_letter, UsesOnly}
use Rattle.port_formulas.specs.Over.{over_expr, over_sere, over}

-- ---- what is used

either : (a b : Bool) → IsTrue (a || b) → {C : Type 0} → (IsTrue a → C) → (IsTrue b → C) → C
either true b h f g = f refl
either false b h f g = g h

or_left : (a b : Bool) → IsTrue a → IsTrue (a || b)
or_left true b h = refl
or_left false b h = absurd (cc)

or_right : (a b : Bool) → IsTrue b → IsTrue (a || b)
or_right true b h = refl
or_right false b h = h

module _ (widths : List ℕ) (limit place : ℕ)
    (below : (e : Expr) → IsValid widths e → IsTrue (expr_uses place e) → place < length widths) where
  sere_below : (r : sere.Sere) → SereHas (IsAllowed widths limit) r → IsTrue (sere_uses place r) → place < length widths
  sere_below (sere.bool e) h used = below e h.0 used
  sere_below (sere.concat r s) h used =
      either (sere_uses place r) (sere_uses place s) used (sere_below r h.0) (sere_below s h.1)
  sere_below (sere.fuse r s) h used =
      either (sere_uses place r) (sere_uses place s) used (sere_below r h.0) (sere_below s h.1)
  sere_below (sere.or r s) h used =
      either (sere_uses place r) (sere_uses place s) used (sere_below r h.0) (sere_below s h.1)
  sere_below (sere.both r s) h used =
      either (sere_uses place r) (sere_uses place s) used (sere_below r h.0) (sere_below s h.1)
  sere_below (sere.meet r s) h used =
      either (sere_uses place r) (sere_uses place s) used (sere_below r h.0) (sere_below s h.1)
  sere_below (sere.within r s) h used =
      either (sere_uses place r) (sere_uses place s) used (sere_below r h.0) (sere_below s h.1)
  sere_below (sere.repeat r low high) h used = sere_below r h used
  sere_below (sere.goto e low high) h used = below e h.0 used
  sere_below (sere.equal e low high) h used = below e h.0 used

  pub formula_below : (f : Formula) → FormulaHas (IsAllowed widths limit) f → IsTrue (formula_uses place f) →
      place < length widths
  formula_below (formula.bool e) h used = below e h.0 used
  formula_below (formula.not f) h used = formula_below f h used
  formula_below (formula.and f g) h used =
      either (formula_uses place f) (formula_uses place g) used (formula_below f h.0) (formula_below g h.1)
  formula_below (formula.or f g) h used =
      either (formula_uses place f) (formula_uses place g) used (formula_below f h.0) (formula_below g h.1)
  formula_below (formula.implies f g) h used =
      either (formula_uses place f) (formula_uses place g) used (formula_below f h.0) (formula_below g h.1)
  formula_below (formula.iff f g) h used =
      either (formula_uses place f) (formula_uses place g) used (formula_below f h.0) (formula_below g h.1)
  formula_below (formula.seq r s) h used = sere_below r h used
  formula_below (formula.suffix r later f) h used =
      either (sere_uses place r) (formula_uses place f) used (sere_below r h.0) (formula_below f h.1)
  formula_below (formula.always f) h used = formula_below f h used
  formula_below (formula.never f) h used = formula_below f h used
  formula_below (formula.eventually f) h used = formula_below f h used
  formula_below (formula.next s r low high f) h used = formula_below f h used
  formula_below (formula.event on s r low high f) h used =
      either (expr_uses place on) (formula_uses place f) used (below on h.0.0) (formula_below f h.1)
  formula_below (formula.until s overlap f g) h used =
      either (formula_uses place f) (formula_uses place g) used (formula_below f h.0) (formula_below g h.1)
  formula_below (formula.before s overlap f g) h used =
      either (formula_uses place f) (formula_uses place g) used (formula_below f h.0) (formula_below g h.1)
  formula_below (formula.abort f on) h used =
      either (formula_uses place f) (expr_uses place on) used (formula_below f h.0) (below on h.1.0)

-- ---- expressions

module _ (places : List ℕ) (u v : ℕ → Bool) where
  left_only : UsesOnly places (λ s. u s || v s) → UsesOnly places u
  left_only only s h = only s (or_left (u s) (v s) h)

  right_only : UsesOnly places (λ s. u s || v s) → UsesOnly places v
  right_only only s h = only s (or_right (u s) (v s) h)

module _ (places widths : List ℕ) (limit : ℕ)
    (valid : (e : Expr) → UsesOnly places (λ s. expr_uses s e) → IsValid widths e →
    IsValid (chosen places widths) (over_expr places e))
    (depth : (e : Expr) → parentheses (over_expr places e) ≡ parentheses e) where
  abbrev Before : Expr → Type 0
  Before e = IsAllowed widths limit e

  abbrev After : Expr → Type 0
  After e = IsAllowed (chosen places widths) limit e

  allowed : (e : Expr) → UsesOnly places (λ s. expr_uses s e) → Before e → After (over_expr places e)
  allowed e only h = (valid e only h.0, subst (λ (k : ℕ). k ≤ limit) (sym (depth e)) h.1)

  left_sere : (r s : sere.Sere) → UsesOnly places (λ k. sere_uses k r || sere_uses k s) →
      UsesOnly places (λ k. sere_uses k r)
  left_sere r s = left_only places (λ k. sere_uses k r) (λ k. sere_uses k s)

  right_sere : (r s : sere.Sere) → UsesOnly places (λ k. sere_uses k r || sere_uses k s) →
      UsesOnly places (λ k. sere_uses k s)
  right_sere r s = right_only places (λ k. sere_uses k r) (λ k. sere_uses k s)

  left_formula : (f g : Formula) → UsesOnly places (λ k. formula_uses k f || formula_uses k g) →
      UsesOnly places (λ k. formula_uses k f)
  left_formula f g = left_only places (λ k. formula_uses k f) (λ k. formula_uses k g)

  right_formula : (f g : Formula) → UsesOnly places (λ k. formula_uses k f || formula_uses k g) →
      UsesOnly places (λ k. formula_uses k g)
  right_formula f g = right_only places (λ k. formula_uses k f) (λ k. formula_uses k g)

  sere_allowed : (r : sere.Sere) → UsesOnly places (λ s. sere_uses s r) → SereHas (IsAllowed widths limit) r →
      SereHas (IsAllowed (chosen places widths) limit) (over_sere places r)
  sere_allowed (sere.bool e) only h = allowed e only h
  sere_allowed (sere.concat r s) only h =
      (sere_allowed r (left_sere r s only) h.0, sere_allowed s (right_sere r s only) h.1)
  sere_allowed (sere.fuse r s) only h =
      (sere_allowed r (left_sere r s only) h.0, sere_allowed s (right_sere r s only) h.1)
  sere_allowed (sere.or r s) only h =
      (sere_allowed r (left_sere r s only) h.0, sere_allowed s (right_sere r s only) h.1)
  sere_allowed (sere.both r s) only h =
      (sere_allowed r (left_sere r s only) h.0, sere_allowed s (right_sere r s only) h.1)
  sere_allowed (sere.meet r s) only h =
      (sere_allowed r (left_sere r s only) h.0, sere_allowed s (right_sere r s only) h.1)
  sere_allowed (sere.within r s) only h =
      (sere_allowed r (left_sere r s only) h.0, sere_allowed s (right_sere r s only) h.1)
  sere_allowed (sere.repeat r low high) only h = sere_allowed r only h
  sere_allowed (sere.goto e low high) only h = allowed e only h
  sere_allowed (sere.equal e low high) only h = allowed e only h

  pub formula_allowed : (f : Formula) → UsesOnly places (λ s. formula_uses s f) →
      FormulaHas (IsAllowed widths limit) f → FormulaHas (IsAllowed (chosen places widths) limit) (over places f)
  formula_allowed (formula.bool e) only h = allowed e only h
  formula_allowed (formula.not f) only h = formula_allowed f only h
  formula_allowed (formula.and f g) only h =
      (formula_allowed f (left_formula f g only) h.0, formula_allowed g (right_formula f g only) h.1)
  formula_allowed (formula.or f g) only h =
      (formula_allowed f (left_formula f g only) h.0, formula_allowed g (right_formula f g only) h.1)
  formula_allowed (formula.implies f g) only h =
      (formula_allowed f (left_formula f g only) h.0, formula_allowed g (right_formula f g only) h.1)
  formula_allowed (formula.iff f g) only h =
      (formula_allowed f (left_formula f g only) h.0, formula_allowed g (right_formula f g only) h.1)
  formula_allowed (formula.seq r s) only h = sere_allowed r only h
  formula_allowed (formula.suffix r later f) only h = (
    sere_allowed r (left_only places (λ k. sere_uses k r) (λ k. formula_uses k f) only) h.0,
    formula_allowed f (right_only places (λ k. sere_uses k r) (λ k. formula_uses k f) only) h.1,
  )
  formula_allowed (formula.always f) only h = formula_allowed f only h
  formula_allowed (formula.never f) only h = formula_allowed f only h
  formula_allowed (formula.eventually f) only h = formula_allowed f only h
  formula_allowed (formula.next s r low high f) only h = formula_allowed f only h
  formula_allowed (formula.event on s r low high f) only h = (
    allowed on (left_only places (λ k. expr_uses k on) (λ k. formula_uses k f) only) h.0,
    formula_allowed f (right_only places (λ k. expr_uses k on) (λ k. formula_uses k f) only) h.1,
  )
  formula_allowed (formula.until s overlap f g) only h =
      (formula_allowed f (left_formula f g only) h.0, formula_allowed g (right_formula f g only) h.1)
  formula_allowed (formula.before s overlap f g) only h =
      (formula_allowed f (left_formula f g only) h.0, formula_allowed g (right_formula f g only) h.1)
  formula_allowed (formula.abort f on) only h = (
    formula_allowed f (left_only places (λ k. formula_uses k f) (λ k. expr_uses k on) only) h.0,
    allowed on (right_only places (λ k. formula_uses k f) (λ k. expr_uses k on) only) h.1,
  )

-- ---- counts

module _ (places : List ℕ) where
  sere_counts : (r : sere.Sere) → SereCounts r → SereCounts (over_sere places r)
  sere_counts (sere.bool e) h = h
  sere_counts (sere.concat r s) h = (sere_counts r h.0, sere_counts s h.1)
  sere_counts (sere.fuse r s) h = (sere_counts r h.0, sere_counts s h.1)
  sere_counts (sere.or r s) h = (sere_counts r h.0, sere_counts s h.1)
  sere_counts (sere.both r s) h = (sere_counts r h.0, sere_counts s h.1)
  sere_counts (sere.meet r s) h = (sere_counts r h.0, sere_counts s h.1)
  sere_counts (sere.within r s) h = (sere_counts r h.0, sere_counts s h.1)
  sere_counts (sere.repeat r low high) h = (h.0, sere_counts r h.1)
  sere_counts (sere.goto e low high) h = h
  sere_counts (sere.equal e low high) h = h

  pub formula_counts : (f : Formula) → FormulaCounts f → FormulaCounts (over places f)
  formula_counts (formula.bool e) h = h
  formula_counts (formula.not f) h = formula_counts f h
  formula_counts (formula.and f g) h = (formula_counts f h.0, formula_counts g h.1)
  formula_counts (formula.or f g) h = (formula_counts f h.0, formula_counts g h.1)
  formula_counts (formula.implies f g) h = (formula_counts f h.0, formula_counts g h.1)
  formula_counts (formula.iff f g) h = (formula_counts f h.0, formula_counts g h.1)
  formula_counts (formula.seq r s) h = sere_counts r h
  formula_counts (formula.suffix r later f) h = (sere_counts r h.0, formula_counts f h.1)
  formula_counts (formula.always f) h = formula_counts f h
  formula_counts (formula.never f) h = formula_counts f h
  formula_counts (formula.eventually f) h = formula_counts f h
  formula_counts (formula.next s r low high f) h = (h.0, formula_counts f h.1)
  formula_counts (formula.event on s r low high f) h = (h.0, formula_counts f h.1)
  formula_counts (formula.until s overlap f g) h = (formula_counts f h.0, formula_counts g h.1)
  formula_counts (formula.before s overlap f g) h = (formula_counts f h.0, formula_counts g h.1)
  formula_counts (formula.abort f on) h = formula_counts f h

  -- ---- rules of the simple subset

  boolean_over : (f : Formula) → is_boolean (over places f) ≡ is_boolean f
  boolean_over (formula.bool e) = refl
  boolean_over f = refl

  plain_over : (f : Formula) → is_plain_sequence (over places f) ≡ is_plain_sequence f
  plain_over (formula.seq r false) = refl
  plain_over f = refl

  pub rules_over : (f : Formula) → broken_rules (over places f) ≡ broken_rules f
  rules_over (formula.bool e) = refl
  rules_over (formula.not f) = λ i. unless (boolean_over f i) 1 ++ rules_over f i
  rules_over (formula.and f g) = λ i. rules_over f i ++ rules_over g i
  rules_over (formula.or f g) =
      λ i. unless (boolean_over f i || boolean_over g i) 4 ++ rules_over f i ++ rules_over g i
  rules_over (formula.implies f g) = λ i. unless (boolean_over f i) 5 ++ rules_over f i ++ rules_over g i
  rules_over (formula.iff f g) =
      λ i. unless (boolean_over f i && boolean_over g i) 6 ++ rules_over f i ++ rules_over g i
  rules_over (formula.seq r s) = refl
  rules_over (formula.suffix r later f) = rules_over f
  rules_over (formula.always f) = rules_over f
  rules_over (formula.never f) = λ i. unless (boolean_over f i || plain_over f i) 2 ++ rules_over f i
  rules_over (formula.eventually f) = λ i. unless (boolean_over f i || plain_over f i) 3 ++ rules_over f i
  rules_over (formula.next s r low high f) = λ i. for_some r (boolean_over f i) 10 ++ rules_over f i
  rules_over (formula.event on s r low high f) = λ i. for_some r (boolean_over f i) 11 ++ rules_over f i
  rules_over (formula.until s overlap f g) =
      λ i. until_rule overlap (boolean_over f i) (boolean_over g i) ++ rules_over f i ++ rules_over g i
  rules_over (formula.before s overlap f g) =
      λ i. unless (boolean_over f i && boolean_over g i) 9 ++ rules_over f i ++ rules_over g i
  rules_over (formula.abort f on) = rules_over f

  -- ---- sequences

  two_sequences : (f g : Formula) →
      formula_sequences (over places f) ≡ map (over_sere places) (formula_sequences f) →
      formula_sequences (over places g) ≡ map (over_sere places) (formula_sequences g) →
      formula_sequences (over places f) ++ formula_sequences (over places g)
      ≡ map (over_sere places) (formula_sequences f ++ formula_sequences g)
  two_sequences f g left right =
      (λ i. left i ++ right i) ∙ sym (map-append (over_sere places) (formula_sequences f) (formula_sequences g))

  suffix_over : (later : Bool) (r : sere.Sere) →
      suffix_sere later (over_sere places r) ≡ over_sere places (suffix_sere later r)
  suffix_over false r = refl
  suffix_over true r = refl

  pub sequences_over : (f : Formula) →
      formula_sequences (over places f) ≡ map (over_sere places) (formula_sequences f)
  sequences_over (formula.bool e) = refl
  sequences_over (formula.not f) = sequences_over f
  sequences_over (formula.and f g) = two_sequences f g (sequences_over f) (sequences_over g)
  sequences_over (formula.or f g) = two_sequences f g (sequences_over f) (sequences_over g)
  sequences_over (formula.implies f g) = two_sequences f g (sequences_over f) (sequences_over g)
  sequences_over (formula.iff f g) = two_sequences f g (sequences_over f) (sequences_over g)
  sequences_over (formula.seq r s) = refl
  sequences_over (formula.suffix r later f) = λ i. suffix_over later r i ∷ sequences_over f i
  sequences_over (formula.always f) = sequences_over f
  sequences_over (formula.never f) = sequences_over f
  sequences_over (formula.eventually f) = sequences_over f
  sequences_over (formula.next s r low high f) = sequences_over f
  sequences_over (formula.event on s r low high f) = sequences_over f
  sequences_over (formula.until s overlap f g) = two_sequences f g (sequences_over f) (sequences_over g)
  sequences_over (formula.before s overlap f g) = two_sequences f g (sequences_over f) (sequences_over g)
  sequences_over (formula.abort f on) = sequences_over f

-- ---- obligations

module _ (places widths : List ℕ)
    (tight : (r : sere.Sere) (w : List Letter) → UsesOnly places (λ s. sere_uses s r) →
    Tight widths (core_of r) w
    ↔ Tight (chosen places widths) (core_of (over_sere places r)) (map (chosen_letter places) w)) where
  tops : (n : ℕ) → map (chosen_letter places) (replicate n top) ≡ replicate n top
  tops zero = refl
  tops (suc n) = ap (λ (l : List Letter). top ∷ l) (tops n)

  abbrev Old : sere.Sere → Type 0
  Old r = ¬ IsContradictory widths r

  abbrev New : sere.Sere → Type 0
  New r = ¬ IsContradictory (chosen places widths) r

  happens_to : (r : sere.Sere) → UsesOnly places (λ s. sere_uses s r) → CanHappen widths r →
      CanHappen (chosen places widths) (over_sere places r)
  happens_to r only (n, h) = (
    n,
    subst (λ (l : List Letter). Tight (chosen places widths) (core_of (over_sere places r)) l) (tops (suc n))
        ((tight r (replicate (suc n) top) only).0 h),
  )

  happens_back : (r : sere.Sere) → UsesOnly places (λ s. sere_uses s r) →
      CanHappen (chosen places widths) (over_sere places r) → CanHappen widths r
  happens_back r only (n, h) = (
    n,
    (tight r (replicate (suc n) top) only).1
        (subst (λ (l : List Letter). Tight (chosen places widths) (core_of (over_sere places r)) l)
        (sym (tops (suc n))) h),
  )

  one_to : (r : sere.Sere) → UsesOnly places (λ s. sere_uses s r) → Old r → New (over_sere places r)
  one_to r only h none = h (λ can. none (happens_to r only can))

  one_back : (r : sere.Sere) → UsesOnly places (λ s. sere_uses s r) → New (over_sere places r) → Old r
  one_back r only h none = h (λ can. none (happens_back r only can))

  pub obliges_to : (f : Formula) → UsesOnly places (λ s. formula_uses s f) → EachObligation Old f →
      EachObligation New (over places f)
  obliges_to (formula.bool e) only h = tt
  obliges_to (formula.not f) only h = obliges_to f only h
  obliges_to (formula.and f g) only h = (
    obliges_to f (left_only places (λ k. formula_uses k f) (λ k. formula_uses k g) only) h.0,
    obliges_to g (right_only places (λ k. formula_uses k f) (λ k. formula_uses k g) only) h.1,
  )
  obliges_to (formula.or f g) only h = (
    obliges_to f (left_only places (λ k. formula_uses k f) (λ k. formula_uses k g) only) h.0,
    obliges_to g (right_only places (λ k. formula_uses k f) (λ k. formula_uses k g) only) h.1,
  )
  obliges_to (formula.implies f g) only h = (
    obliges_to f (left_only places (λ k. formula_uses k f) (λ k. formula_uses k g) only) h.0,
    obliges_to g (right_only places (λ k. formula_uses k f) (λ k. formula_uses k g) only) h.1,
  )
  obliges_to (formula.iff f g) only h = (
    obliges_to f (left_only places (λ k. formula_uses k f) (λ k. formula_uses k g) only) h.0,
    obliges_to g (right_only places (λ k. formula_uses k f) (λ k. formula_uses k g) only) h.1,
  )
  obliges_to (formula.seq r s) only h = one_to r only h
  obliges_to (formula.suffix r later f) only h =
      obliges_to f (right_only places (λ k. sere_uses k r) (λ k. formula_uses k f) only) h
  obliges_to (formula.always f) only h = obliges_to f only h
  obliges_to (formula.never (formula.seq r s)) only h = tt
  obliges_to (formula.never f) only h = obliges_to f only h
  obliges_to (formula.eventually f) only h = obliges_to f only h
  obliges_to (formula.next s r low high f) only h = obliges_to f only h
  obliges_to (formula.event on s r low high f) only h =
      obliges_to f (right_only places (λ k. expr_uses k on) (λ k. formula_uses k f) only) h
  obliges_to (formula.until s overlap f g) only h = (
    obliges_to f (left_only places (λ k. formula_uses k f) (λ k. formula_uses k g) only) h.0,
    obliges_to g (right_only places (λ k. formula_uses k f) (λ k. formula_uses k g) only) h.1,
  )
  obliges_to (formula.before s overlap f g) only h = (
    obliges_to f (left_only places (λ k. formula_uses k f) (λ k. formula_uses k g) only) h.0,
    obliges_to g (right_only places (λ k. formula_uses k f) (λ k. formula_uses k g) only) h.1,
  )
  obliges_to (formula.abort f on) only h =
      obliges_to f (left_only places (λ k. formula_uses k f) (λ k. expr_uses k on) only) h

  pub obliges_back : (f : Formula) → UsesOnly places (λ s. formula_uses s f) → EachObligation New (over places f) →
      EachObligation Old f
  obliges_back (formula.bool e) only h = tt
  obliges_back (formula.not f) only h = obliges_back f only h
  obliges_back (formula.and f g) only h = (
    obliges_back f (left_only places (λ k. formula_uses k f) (λ k. formula_uses k g) only) h.0,
    obliges_back g (right_only places (λ k. formula_uses k f) (λ k. formula_uses k g) only) h.1,
  )
  obliges_back (formula.or f g) only h = (
    obliges_back f (left_only places (λ k. formula_uses k f) (λ k. formula_uses k g) only) h.0,
    obliges_back g (right_only places (λ k. formula_uses k f) (λ k. formula_uses k g) only) h.1,
  )
  obliges_back (formula.implies f g) only h = (
    obliges_back f (left_only places (λ k. formula_uses k f) (λ k. formula_uses k g) only) h.0,
    obliges_back g (right_only places (λ k. formula_uses k f) (λ k. formula_uses k g) only) h.1,
  )
  obliges_back (formula.iff f g) only h = (
    obliges_back f (left_only places (λ k. formula_uses k f) (λ k. formula_uses k g) only) h.0,
    obliges_back g (right_only places (λ k. formula_uses k f) (λ k. formula_uses k g) only) h.1,
  )
  obliges_back (formula.seq r s) only h = one_back r only h
  obliges_back (formula.suffix r later f) only h =
      obliges_back f (right_only places (λ k. sere_uses k r) (λ k. formula_uses k f) only) h
  obliges_back (formula.always f) only h = obliges_back f only h
  obliges_back (formula.never (formula.seq r s)) only h = tt
  obliges_back (formula.never f) only h = obliges_back f only h
  obliges_back (formula.eventually f) only h = obliges_back f only h
  obliges_back (formula.next s r low high f) only h = obliges_back f only h
  obliges_back (formula.event on s r low high f) only h =
      obliges_back f (right_only places (λ k. expr_uses k on) (λ k. formula_uses k f) only) h
  obliges_back (formula.until s overlap f g) only h = (
    obliges_back f (left_only places (λ k. formula_uses k f) (λ k. formula_uses k g) only) h.0,
    obliges_back g (right_only places (λ k. formula_uses k f) (λ k. formula_uses k g) only) h.1,
  )
  obliges_back (formula.before s overlap f g) only h = (
    obliges_back f (left_only places (λ k. formula_uses k f) (λ k. formula_uses k g) only) h.0,
    obliges_back g (right_only places (λ k. formula_uses k f) (λ k. formula_uses k g) only) h.1,
  )
  obliges_back (formula.abort f on) only h =
      obliges_back f (left_only places (λ k. formula_uses k f) (λ k. expr_uses k on) only) h
