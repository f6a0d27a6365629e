-- Expressions that are named anew: their leading `!` stay, and over the signals that they use they can be told apart.
use Rattle.std.proofs.Common.{◌≡◌, ◌⊎◌, inl, inr, ℕ, ◌<◌, ◌≤◌, Bool, true, false, eqb, List, length, get_or, refl, sym}
use Rattle.std.proofs.Common.{ap, ◌∙◌, arith}
use Rattle.std.specs.Prelude.{slice_index, Contains, IsTrue, ◌||◌, not}
use Rattle.std.proofs.lemmas.Bool.{cases_lt, eq-eqb, eqb-true}
use Rattle.std.proofs.lemmas.List.Sums.{passes_at_first, fails_before_first}
use Rattle.psl_model.specs.Expr.{Expr, whole, bit, part, plain, sized, unary, binary, choice}
use Rattle.psl_model.specs.declared.operators.UnOp.TheVariants.{Not}
use Rattle.psl_model.specs.Uses.{expr_uses}
use Rattle.port_formulas.specs.Chosen.{position_in, UsesOnly}
use Rattle.port_formulas.specs.Over.{expr_named, over_expr}
use Rattle.symbol_alphabet.specs.Symbols.{stripped, is_positive, is_one}
use Rattle.sequence_tables.specs.Renamed.{KeepsLiterals}

-- ---- leading `!`

module _ (name : ℕ → ℕ) where
  stripped_named : (e : Expr) → stripped (expr_named name e) ≡ expr_named name (stripped e)
  stripped_named (unary Not e) = stripped_named e
  stripped_named e = refl

  sign_named : (e : Expr) → is_positive (expr_named name e) ≡ is_positive e
  sign_named (unary Not e) = ap not (sign_named e)
  sign_named e = refl

  one_named : (e : Expr) → is_one (expr_named name e) ≡ is_one e
  one_named (sized width value) = refl
  one_named e = refl

  pub keeps_literals : KeepsLiterals (expr_named name)
  keeps_literals = record { expression = stripped_named; sign = sign_named; one = one_named }

pub stripped_uses : (place : ℕ) (e : Expr) → expr_uses place (stripped e) ≡ expr_uses place e
stripped_uses place (unary Not e) = stripped_uses place e
stripped_uses place e = refl

-- ---- a signal's position among the places

position_within : (places : List ℕ) (s : ℕ) → Contains places s → position_in places s < length places
position_within places s (k, within, here) = pick (cases_lt (position_in places s) (length places))
  where
    pick : (position_in places s < length places) ⊎ (length places ≤ position_in places s) →
        position_in places s < length places
    pick (inl less) = less
    pick (inr past) =
        let fails = fails_before_first (λ place. eqb place s) places k s (omega arith) in
        absurd (let same : eqb (get_or places k s) s ≡ true = ap (λ p. eqb p s) here ∙ eq-eqb s s refl in cc)

place_at_position : (places : List ℕ) (s : ℕ) → Contains places s → slice_index places (position_in places s) ≡ s
place_at_position places s there =
    eqb-true (slice_index places (position_in places s)) s
    (passes_at_first (λ place. eqb place s) places 0 (position_within places s there))

-- ---- what is over the places, named as it was

pub or_left : (a b : Bool) → IsTrue a → IsTrue (a || b)
or_left true b h = refl
or_left false b h = absurd (cc)

pub or_right : (a b : Bool) → IsTrue b → IsTrue (a || b)
or_right true b h = refl
or_right false b h = h

self_used : (s : ℕ) → IsTrue (eqb s s)
self_used s = eq-eqb s s refl

module _ (places : List ℕ) where
  abbrev pub IsKnown : Expr → Type 0
  IsKnown e = UsesOnly places (λ s. expr_uses s e)

  abbrev back : Expr → Expr
  back e = expr_named (λ k. slice_index places k) e

  back_over : (e : Expr) → IsKnown e → back (over_expr places e) ≡ e
  back_over (whole s) known = ap whole (place_at_position places s (known s (self_used s)))
  back_over (bit s n) known = ap (λ k. bit k n) (place_at_position places s (known s (self_used s)))
  back_over (part s high low) known = ap (λ k. part k high low) (place_at_position places s (known s (self_used s)))
  back_over (plain n) known = refl
  back_over (sized w v) known = refl
  back_over (unary op a) known = ap (unary op) (back_over a known)
  back_over (binary op a b) known =
      let left = back_over a (λ s h. known s (or_left (expr_uses s a) (expr_uses s b) h)) in
      let right = back_over b (λ s h. known s (or_right (expr_uses s a) (expr_uses s b) h)) in
      λ i. binary op (left i) (right i)
  back_over (choice t a b) known =
      let others : ℕ → Bool = λ s. expr_uses s a || expr_uses s b in
      let test = back_over t (λ s h. known s (or_left (expr_uses s t) (others s) h)) in
      let first = back_over a (λ s h. known s (or_right (expr_uses s t) (others s)
      (or_left (expr_uses s a) (expr_uses s b) h))) in
      let second = back_over b (λ s h. known s (or_right (expr_uses s t) (others s)
      (or_right (expr_uses s a) (expr_uses s b) h))) in
      λ i. choice (test i) (first i) (second i)

  -- so different expressions stay different
  pub told_apart : (a b : Expr) → IsKnown a → IsKnown b → over_expr places a ≡ over_expr places b → a ≡ b
  told_apart a b known_a known_b same = sym (back_over a known_a) ∙ ap back same ∙ back_over b known_b
