-- What a base form counts over the signals at some places.
use Rattle.std.proofs.Common.{◌≡◌, ℕ, ◌+◌, ◌<◌, ◌≤◌, Bool, true, false, List, [], ◌∷◌, ◌++◌, map, length, refl, sym, ap, ◌∙◌}
use Rattle.std.proofs.Common.{subst}
use Rattle.std.specs.Prelude.{◌↔◌, suc, All}
use Rattle.std.proofs.lemmas.List.{length-map}
use Rattle.std.proofs.lemmas.List.Elements.{All-nil, All-cons, All-head, All-tail}
use Rattle.psl_model.specs.Sere.{Sere}
use Rattle.psl_model.specs.Formula.{Formula, bool, not, and, or, implies, iff, seq, suffix, always, never, eventually}
use Rattle.psl_model.specs.Formula.{next, event, until, before, abort}
use Rattle.psl_model.specs.declared.formulas.Reach.TheVariants as reach
use Rattle.psl_rewrite.specs.Base.{Base}
use Rattle.psl_rewrite.specs.BaseForm.{base_form_of, or_form, suffix_sere}
use Rattle.psl_rewrite.specs.Conditions.{base_sequences}
use Rattle.port_formulas.specs.Over.{formula_named, sere_named}
use Rattle.sequence_cores.specs.Places.{places_of, place_limit, told}
use Rattle.formula_limits.specs.Places.{IsSmall, AreSmall, HasTooManyPlaces, told_number}
use Rattle.formula_limits.specs.Registers.{registers_of}

map_joined : (g : Sere → Sere) (xs ys : List Sere) → map g xs ++ map g ys ≡ map g (xs ++ ys)
map_joined g [] ys = refl
map_joined g (x ∷ xs) ys = ap (λ (zs : List Sere). g x ∷ zs) (map_joined g xs ys)

pub same_suffix : (name : ℕ → ℕ) (later : Bool) (r : Sere) →
    suffix_sere later (sere_named name r) ≡ sere_named name (suffix_sere later r)
same_suffix name false r = refl
same_suffix name true r = refl

-- ---- the sequences

module _ (name : ℕ → ℕ) where
  or_sequences : (f g : Formula) (l r k s : Base) → base_sequences l ≡ map (sere_named name) (base_sequences k) →
      base_sequences r ≡ map (sere_named name) (base_sequences s) →
      base_sequences (or_form (formula_named name f) (formula_named name g) l r)
      ≡ map (sere_named name) (base_sequences (or_form f g k s))
  or_sequences (bool e) g l r k s p q = q
  or_sequences f g l r k s p q = p

  pub same_sequences : (f : Formula) →
      base_sequences (base_form_of (formula_named name f)) ≡ map (sere_named name) (base_sequences (base_form_of f))
  same_sequences (bool e) = refl
  same_sequences (not f) = refl
  same_sequences (and f g) =
      ap (λ (xs : List Sere). xs ++ base_sequences (base_form_of (formula_named name g))) (same_sequences f)
      ∙ ap (λ (xs : List Sere). map (sere_named name) (base_sequences (base_form_of f)) ++ xs) (same_sequences g)
      ∙ map_joined (sere_named name) (base_sequences (base_form_of f)) (base_sequences (base_form_of g))
  same_sequences (or f g) =
      or_sequences f g (base_form_of (formula_named name f)) (base_form_of (formula_named name g)) (base_form_of f)
      (base_form_of g) (same_sequences f) (same_sequences g)
  same_sequences (implies f g) = same_sequences g
  same_sequences (iff f g) = refl
  same_sequences (seq r s) = refl
  same_sequences (suffix r later f) =
      ap (λ (xs : List Sere). suffix_sere later (sere_named name r) ∷ xs) (same_sequences f)
      ∙ ap (λ (s : Sere). s ∷ map (sere_named name) (base_sequences (base_form_of f))) (same_suffix name later r)
  same_sequences (always f) = same_sequences f
  same_sequences (never (seq r s)) = refl
  same_sequences (never f) = refl
  same_sequences (eventually (seq r s)) = refl
  same_sequences (eventually f) = refl
  same_sequences (next s reach.One low high f) = same_sequences f
  same_sequences (next s reach.All low high f) = same_sequences f
  same_sequences (next s reach.Some low high f) = refl
  same_sequences (event on s reach.One low high f) = same_sequences f
  same_sequences (event on s reach.All low high f) = same_sequences f
  same_sequences (event on s reach.Some low high f) = refl
  same_sequences (until s overlap f g) = same_sequences f
  same_sequences (before s false f g) = refl
  same_sequences (before s true f g) = refl
  same_sequences (abort f on) = same_sequences f

-- ---- their places

abbrev first_of : List Sere → Sere → Sere
first_of [] r = r
first_of (s ∷ ss) r = s

abbrev rest_of : List Sere → List Sere
rest_of [] = []
rest_of (s ∷ ss) = ss

record Unmapped (g : Sere → Sere) (xs earlier : List Sere) (large : Sere) : Type 0 where
  pub front : List Sere
  pub one : Sere
  pub rest : List Sere
  pub split : xs ≡ front ++ one ∷ rest
  pub front_is : map g front ≡ earlier
  pub one_is : g one ≡ large

unmapped : (g : Sere → Sere) (xs earlier later : List Sere) (large : Sere) → map g xs ≡ earlier ++ large ∷ later →
    Unmapped g xs earlier large
unmapped g [] [] later large e = absurd (cc (e))
unmapped g [] (b ∷ bs) later large e = absurd (cc (e))
unmapped g (x ∷ xs) [] later large e = record {
  front = [];
  one = x;
  rest = xs;
  split = refl;
  front_is = refl;
  one_is = ap (λ (ys : List Sere). first_of ys large) e;
}
unmapped g (x ∷ xs) (b ∷ bs) later large e =
    let h = unmapped g xs bs later large (ap rest_of e) in
    record {
      front = x ∷ h.front;
      one = h.one;
      rest = h.rest;
      split = ap (λ (ys : List Sere). x ∷ ys) h.split;
      front_is = ap (λ (ys : List Sere). g x ∷ ys) h.front_is
          ∙ ap (λ (y : Sere). y ∷ bs) (ap (λ (ys : List Sere). first_of ys b) e);
      one_is = h.one_is;
    }

module _ (name : ℕ → ℕ) (place : (r : Sere) → places_of (sere_named name r) ≡ places_of r) where
  small_to : (xs : List Sere) → All IsSmall xs → All IsSmall (map (sere_named name) xs)
  small_to [] small = All-nil IsSmall
  small_to (x ∷ xs) small =
      All-cons IsSmall (sere_named name x) (map (sere_named name) xs)
      (subst (λ (n : ℕ). n ≤ place_limit) (sym (place x)) (All-head IsSmall x xs small))
      (small_to xs (All-tail IsSmall x xs small))

  small_from : (xs : List Sere) → All IsSmall (map (sere_named name) xs) → All IsSmall xs
  small_from [] small = All-nil IsSmall
  small_from (x ∷ xs) small =
      All-cons IsSmall x xs
      (subst (λ (n : ℕ). n ≤ place_limit) (place x)
      (All-head IsSmall (sere_named name x) (map (sere_named name) xs) small))
      (small_from xs (All-tail IsSmall (sere_named name x) (map (sere_named name) xs) small))

  pub same_small : (f : Formula) → AreSmall (base_form_of (formula_named name f)) ↔ AreSmall (base_form_of f)
  same_small f = (
    λ small. small_from (base_sequences (base_form_of f)) (subst (All IsSmall) (same_sequences name f) small),
    λ small. subst (All IsSmall) (sym (same_sequences name f)) (small_to (base_sequences (base_form_of f)) small),
  )

  large_to : (f : Formula) (n p : ℕ) → HasTooManyPlaces (base_form_of f) n p →
      HasTooManyPlaces (base_form_of (formula_named name f)) n p
  large_to f n p h =
      let g : Sere → Sere = sere_named name in
      record {
        before = map g h.before;
        large = g h.large;
        later = map g h.later;
        sequences = same_sequences name f ∙ ap (λ (xs : List Sere). map g xs) h.sequences
            ∙ sym (map_joined g h.before (h.large ∷ h.later));
        small = small_to h.before h.small;
        above = subst (λ (m : ℕ). place_limit < m) (sym (place h.large)) h.above;
        is_number = h.is_number ∙ ap (λ (m : ℕ). told_number (suc m)) (sym (length-map h.before g));
        is_places = h.is_places ∙ ap (λ (m : ℕ). told m) (sym (place h.large));
      }

  large_from : (f : Formula) (n p : ℕ) → HasTooManyPlaces (base_form_of (formula_named name f)) n p →
      HasTooManyPlaces (base_form_of f) n p
  large_from f n p h =
      let g : Sere → Sere = sere_named name in
      let u = unmapped g (base_sequences (base_form_of f)) h.before h.later h.large
      (sym (same_sequences name f) ∙ h.sequences) in
      let same : places_of h.large ≡ places_of u.one =
      ap (λ (r : Sere). places_of r) (sym u.one_is) ∙ place u.one in
      record {
        before = u.front;
        large = u.one;
        later = u.rest;
        sequences = u.split;
        small = small_from u.front (subst (All IsSmall) (sym u.front_is) h.small);
        above = subst (λ (m : ℕ). place_limit < m) same h.above;
        is_number = h.is_number
            ∙ ap (λ (m : ℕ). told_number (suc m))
            (ap (λ (xs : List Sere). length xs) (sym u.front_is) ∙ length-map u.front g);
        is_places = h.is_places ∙ ap (λ (m : ℕ). told m) same;
      }

  pub same_large : (f : Formula) (n p : ℕ) →
      HasTooManyPlaces (base_form_of (formula_named name f)) n p ↔ HasTooManyPlaces (base_form_of f) n p
  same_large f n p = (large_from f n p, large_to f n p)

  -- ---- the registers

  suffix_place : (later : Bool) (r : Sere) →
      places_of (suffix_sere later (sere_named name r)) ≡ places_of (suffix_sere later r)
  suffix_place later r =
      ap (λ (s : Sere). places_of s) (same_suffix name later r) ∙ place (suffix_sere later r)

  or_registers : (f g : Formula) (l r k s : Base) → registers_of l ≡ registers_of k → registers_of r ≡ registers_of s →
      registers_of (or_form (formula_named name f) (formula_named name g) l r) ≡ registers_of (or_form f g k s)
  or_registers (bool e) g l r k s p q = q
  or_registers f g l r k s p q = p

  pub same_registers : (f : Formula) →
      registers_of (base_form_of (formula_named name f)) ≡ registers_of (base_form_of f)
  same_registers (bool e) = refl
  same_registers (not f) = refl
  same_registers (and f g) =
      ap (λ (n : ℕ). n + registers_of (base_form_of (formula_named name g))) (same_registers f)
      ∙ ap (λ (n : ℕ). registers_of (base_form_of f) + n) (same_registers g)
  same_registers (or f g) =
      or_registers f g (base_form_of (formula_named name f)) (base_form_of (formula_named name g)) (base_form_of f)
      (base_form_of g) (same_registers f) (same_registers g)
  same_registers (implies f g) = same_registers g
  same_registers (iff f g) = refl
  same_registers (seq r s) = refl
  same_registers (suffix r later f) =
      ap (λ (n : ℕ). n + registers_of (base_form_of (formula_named name f))) (suffix_place later r)
      ∙ ap (λ (n : ℕ). places_of (suffix_sere later r) + n) (same_registers f)
  same_registers (always f) = ap (λ (n : ℕ). 1 + n) (same_registers f)
  same_registers (never (seq r s)) = ap (λ (n : ℕ). 1 + (n + 0)) (place r)
  same_registers (never f) = refl
  same_registers (eventually (seq r s)) = ap (λ (n : ℕ). n + 1) (place r)
  same_registers (eventually f) = refl
  same_registers (next s reach.One low high f) = ap (λ (n : ℕ). low + n) (same_registers f)
  same_registers (next s reach.All low high f) = ap (λ (n : ℕ). high + n) (same_registers f)
  same_registers (next s reach.Some low high f) = refl
  same_registers (event on s reach.One low high f) = ap (λ (n : ℕ). low + n) (same_registers f)
  same_registers (event on s reach.All low high f) = ap (λ (n : ℕ). high + n) (same_registers f)
  same_registers (event on s reach.Some low high f) = refl
  same_registers (until s overlap f g) = ap (λ (n : ℕ). 1 + n) (same_registers f)
  same_registers (before s false f g) = refl
  same_registers (before s true f g) = refl
  same_registers (abort f on) = same_registers f
