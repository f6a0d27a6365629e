-- An expression over the signals that it uses has the width and the value that it had.
use Rattle.std.proofs.Common.{◌≡◌, ℕ, ◌+◌, ◌<◌, cond, Bool, true, false, List, [], ◌∷◌, length, refl, ap, ◌∙◌}
use Rattle.std.proofs.Common.{eqb, arith, subst}
use Rattle.std.proofs.lemmas.Bool.{eq-eqb, eqb-true}
use Rattle.std.specs.Prelude.{max, ◌==◌, ◌&&◌, ◌||◌, slice_index, Contains, IsTrue}
use Rattle.psl_model.specs.Expr.{Expr, whole, bit, part, plain, sized, unary, binary, choice}
use Rattle.psl_model.specs.Uses.{expr_uses}
use Rattle.psl_model.specs.Valid.{IsValid, is_bare, is_flip, choose_bare, bare_by_both, bare_by_left}
use Rattle.psl_model.specs.Valid.{wants_width, parentheses}
use Rattle.psl_model.specs.Value.{width_of, value_of, own_value, unary_width, binary_width, unary_context, unary_value}
use Rattle.psl_model.specs.Value.{left_context, right_context, binary_value}
use Rattle.port_formulas.specs.Chosen.{chosen, position_in, UsesOnly}
use Rattle.port_formulas.specs.Over.{expr_named, over_expr}
use Rattle.port_formulas.proofs.Parts.{Each, left_each, right_each, first_each, second_each, third_each}
use Rattle.port_formulas.proofs.Places.{chosen_at_position, position_within, length-chosen}

self_used : (s : ℕ) → IsTrue (eqb s s)
self_used s = eq-eqb s s refl

module _ (P : ℕ → Type 0) where
  pub of_left : (a b : Expr) → Each (λ s. expr_uses s a || expr_uses s b) P → Each (λ s. expr_uses s a) P
  of_left a b = left_each P (λ s. expr_uses s a) (λ s. expr_uses s b) (λ s. true)

  pub of_right : (a b : Expr) → Each (λ s. expr_uses s a || expr_uses s b) P → Each (λ s. expr_uses s b) P
  of_right a b = right_each P (λ s. expr_uses s a) (λ s. expr_uses s b) (λ s. true)

  of_test : (t a b : Expr) → Each (λ s. expr_uses s (choice t a b)) P → Each (λ s. expr_uses s t) P
  of_test t a b = first_each P (λ s. expr_uses s t) (λ s. expr_uses s a) (λ s. expr_uses s b)

  of_first : (t a b : Expr) → Each (λ s. expr_uses s (choice t a b)) P → Each (λ s. expr_uses s a) P
  of_first t a b = second_each P (λ s. expr_uses s t) (λ s. expr_uses s a) (λ s. expr_uses s b)

  of_second : (t a b : Expr) → Each (λ s. expr_uses s (choice t a b)) P → Each (λ s. expr_uses s b) P
  of_second t a b = third_each P (λ s. expr_uses s t) (λ s. expr_uses s a) (λ s. expr_uses s b)

-- the new table says of the new name what the old one says of the signal
abbrev Carries : (name : ℕ → ℕ) → (old new : List ℕ) → ℕ → Type 0
Carries name old new s = slice_index new (name s) ≡ slice_index old s

module _ (name : ℕ → ℕ) (us ws : List ℕ) where
  width_named : (e : Expr) → Each (λ s. expr_uses s e) (Carries name us ws) →
      width_of ws (expr_named name e) ≡ width_of us e
  width_named (whole s) same = same s (self_used s)
  width_named (bit s n) same = refl
  width_named (part s h l) same = refl
  width_named (plain n) same = refl
  width_named (sized w v) same = refl
  width_named (unary op a) same = λ i. unary_width op (width_named a same i)
  width_named (binary op a b) same =
      λ i. binary_width op (width_named a (of_left (Carries name us ws) a b same) i)
      (width_named b (of_right (Carries name us ws) a b same) i)
  width_named (choice t a b) same =
      λ i. max (width_named a (of_first (Carries name us ws) t a b same) i)
      (width_named b (of_second (Carries name us ws) t a b same) i)

  value_named : (xs ys : List ℕ) (context : ℕ) (e : Expr) → Each (λ s. expr_uses s e) (Carries name us ws) →
      Each (λ s. expr_uses s e) (Carries name xs ys) →
      value_of ws ys context (expr_named name e) ≡ value_of us xs context e
  value_named xs ys c (whole s) same values = values s (self_used s)
  value_named xs ys c (bit s n) same values =
      ap (λ x. value_of us (x ∷ []) c (bit 0 n)) (values s (self_used s))
  value_named xs ys c (part s h l) same values =
      ap (λ x. value_of us (x ∷ []) c (part 0 h l)) (values s (self_used s))
  value_named xs ys c (plain n) same values = refl
  value_named xs ys c (sized w v) same values = refl
  value_named xs ys c (unary op a) same values =
      let worth : ℕ → ℕ = λ w.
      unary_value op (unary_context op c w) (value_of ws ys (unary_context op c w) (expr_named name a)) in
      let at = unary_context op c (width_of us a) in
      (λ i. worth (width_named a same i)) ∙ (λ i. unary_value op at (value_named xs ys at a same values i))
  value_named xs ys c (binary op a b) same values =
      let worth : ℕ → ℕ → ℕ = λ v w. binary_value op c
      (value_of ws ys (left_context op c v w) (expr_named name a))
      (value_of ws ys (right_context op c v w) (expr_named name b)) in
      let at = left_context op c (width_of us a) (width_of us b) in
      let beside = right_context op c (width_of us a) (width_of us b) in
      let same_left = of_left (Carries name us ws) a b same in
      let same_right = of_right (Carries name us ws) a b same in
      let values_left = of_left (Carries name xs ys) a b values in
      let values_right = of_right (Carries name xs ys) a b values in
      (λ i. worth (width_named a same_left i) (width_named b same_right i))
      ∙ (λ i. binary_value op c
      (value_named xs ys at a same_left values_left i) (value_named xs ys beside b same_right values_right i))
  value_named xs ys c (choice t a b) same values =
      let test : ℕ → ℕ = λ w. value_of ws ys w (expr_named name t) in
      let own = width_of us t in
      let same_test = of_test (Carries name us ws) t a b same in
      let same_first = of_first (Carries name us ws) t a b same in
      let same_second = of_second (Carries name us ws) t a b same in
      let values_test = of_test (Carries name xs ys) t a b values in
      let values_first = of_first (Carries name xs ys) t a b values in
      let values_second = of_second (Carries name xs ys) t a b values in
      (λ i. cond (test (width_named t same_test i) == 0)
      (value_of ws ys c (expr_named name b)) (value_of ws ys c (expr_named name a)))
      ∙ (λ i. cond (value_named xs ys own t same_test values_test i == 0)
      (value_named xs ys c b same_second values_second i) (value_named xs ys c a same_first values_first i))

bare_named : (name : ℕ → ℕ) (e : Expr) → is_bare (expr_named name e) ≡ is_bare e
bare_named name (whole s) = refl
bare_named name (bit s n) = refl
bare_named name (part s h l) = refl
bare_named name (plain n) = refl
bare_named name (sized w v) = refl
bare_named name (unary op a) = λ i. is_flip op && bare_named name a i
bare_named name (binary op a b) =
    λ i. choose_bare (bare_by_both op) (bare_by_left op) (bare_named name a i) (bare_named name b i)
bare_named name (choice t a b) = λ i. bare_named name a i && bare_named name b i

pub parentheses_named : (name : ℕ → ℕ) (e : Expr) → parentheses (expr_named name e) ≡ parentheses e
parentheses_named name (whole s) = refl
parentheses_named name (bit s n) = refl
parentheses_named name (part s h l) = refl
parentheses_named name (plain n) = refl
parentheses_named name (sized w v) = refl
parentheses_named name (unary op a) = λ i. parentheses_named name a i + 1
parentheses_named name (binary op a b) = λ i. max (parentheses_named name a i) (parentheses_named name b i) + 1
parentheses_named name (choice t a b) =
    λ i. max (parentheses_named name t i) (max (parentheses_named name a i) (parentheses_named name b i)) + 1

-- ---- over the signals at the places

module _ (places : List ℕ) where
  chosen_carries : (us : List ℕ) (uses : ℕ → Bool) → UsesOnly places uses →
      Each uses (Carries (position_in places) us (chosen places us))
  chosen_carries us uses only s used = chosen_at_position places us s (only s used)

  pub width_over : (us : List ℕ) (e : Expr) → UsesOnly places (λ s. expr_uses s e) →
      width_of (chosen places us) (over_expr places e) ≡ width_of us e
  width_over us e only =
      width_named (position_in places) us (chosen places us) e (chosen_carries us (λ s. expr_uses s e) only)

  pub value_over : (us xs : List ℕ) (context : ℕ) (e : Expr) → UsesOnly places (λ s. expr_uses s e) →
      value_of (chosen places us) (chosen places xs) context (over_expr places e) ≡ value_of us xs context e
  value_over us xs context e only =
      value_named (position_in places) us (chosen places us) xs (chosen places xs) context e
      (chosen_carries us (λ s. expr_uses s e) only) (chosen_carries xs (λ s. expr_uses s e) only)

  pub own_value_over : (us xs : List ℕ) (e : Expr) → UsesOnly places (λ s. expr_uses s e) →
      own_value (chosen places us) (chosen places xs) (over_expr places e) ≡ own_value us xs e
  own_value_over us xs e only =
      ap (λ w. value_of (chosen places us) (chosen places xs) w (over_expr places e)) (width_over us e only)
      ∙ value_over us xs (width_of us e) e only

  within : (us : List ℕ) (s : ℕ) → Contains places s → position_in places s < length (chosen places us)
  within us s there =
      let same = length-chosen places us in
      let less = position_within places s there in
      omega (arith, same, less)

  pub valid_over : (us : List ℕ) (e : Expr) → UsesOnly places (λ s. expr_uses s e) → IsValid us e →
      IsValid (chosen places us) (over_expr places e)
  valid_over us (whole s) only valid = within us s (only s (self_used s))
  valid_over us (bit s n) only valid =
      let there = only s (self_used s) in
      let here = chosen_at_position places us s there in
      (within us s there, omega (arith, here), omega (arith, here))
  valid_over us (part s h l) only valid =
      let there = only s (self_used s) in
      let here = chosen_at_position places us s there in
      (within us s there, omega (arith, here), omega (arith, here), valid.3)
  valid_over us (plain n) only valid = valid
  valid_over us (sized w v) only valid = valid
  valid_over us (unary op a) only valid = valid_over us a only valid
  valid_over us (binary op a b) only valid = (
    (λ i. wants_width op && (bare_named (position_in places) a i && bare_named (position_in places) b i)) ∙ valid.0,
    valid_over us a (of_left (Contains places) a b only) valid.1,
    valid_over us b (of_right (Contains places) a b only) valid.2,
  )
  valid_over us (choice t a b) only valid = (
    valid_over us t (of_test (Contains places) t a b only) valid.0,
    valid_over us a (of_first (Contains places) t a b only) valid.1,
    valid_over us b (of_second (Contains places) t a b only) valid.2,
  )

-- ---- a valid expression uses the signals of its table alone

used_equal : (s t n : ℕ) → IsTrue (eqb s t) → s < n → t < n
used_equal s t n used less = subst (λ (k : ℕ). k < n) (eqb-true s t used) less

either : (a b : Bool) → IsTrue (a || b) → {C : Type 0} → (IsTrue a → C) → (IsTrue b → C) → C
either true b h f g = f refl
either false b h f g = g h

pub used_below : (us : List ℕ) (e : Expr) (s : ℕ) → IsValid us e → IsTrue (expr_uses s e) → s < length us
used_below us (whole t) s valid used = used_equal t s (length us) used valid
used_below us (bit t n) s valid used = used_equal t s (length us) used valid.0
used_below us (part t h l) s valid used = used_equal t s (length us) used valid.0
used_below us (plain n) s valid used = absurd (cc)
used_below us (sized w v) s valid used = absurd (cc)
used_below us (unary op a) s valid used = used_below us a s valid used
used_below us (binary op a b) s valid used =
    either (expr_uses s a) (expr_uses s b) used (used_below us a s valid.1) (used_below us b s valid.2)
used_below us (choice t a b) s valid used =
    either (expr_uses s t) (expr_uses s a || expr_uses s b) used (used_below us t s valid.0)
    (λ others. either (expr_uses s a) (expr_uses s b) others (used_below us a s valid.1) (used_below us b s valid.2))
