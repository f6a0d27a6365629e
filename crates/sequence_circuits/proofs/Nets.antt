-- Lists of nets.
use Rattle.std.proofs.Common.{◌≡◌, ◌≢◌, ℕ, zero, suc, ◌+◌, ◌<◌, List, [], ◌∷◌, ◌++◌, length, map, set, get_or}
use Rattle.std.proofs.Common.{slice_get}
use Rattle.std.proofs.Common.{Some, inl, inr, ◌⊎◌, ◌↔◌, refl, sym, ap, ◌∙◌, subst, arith, replicate}
use Rattle.std.proofs.lemmas.Bool.{cases_lt}
use Rattle.std.proofs.lemmas.List.{get_or-map, get_or-replicate}
use Rattle.circuit_core.specs.declared.nodes.Net.{Net}
use Rattle.circuit_core.specs.Run.{Run, On}
use Rattle.sequence_circuits.specs.Guards.{numbers}
use Rattle.sequence_circuits.specs.inner.Nets.{stream_at}

pub same_or_not : (a b : ℕ) → (a ≡ b) ⊎ (a ≢ b)
same_or_not zero zero = inl refl
same_or_not zero (suc b) = inr (λ e. omega arith)
same_or_not (suc a) zero = inr (λ e. omega arith)
same_or_not (suc a) (suc b) = elim (same_or_not a b) [ inl e ↦ inl (ap suc e) | inr d ↦ inr (λ e. d (omega arith)) ]

pub get_push : {X : Type 0} (xs : List X) (x y : X) (s : ℕ) → slice_get (xs ++ x ∷ []) s ≡ Some y
    → (slice_get xs s ≡ Some y) ⊎ ((s ≡ length xs) × (x ≡ y))
get_push [] x y zero h = inr (refl, cc)
get_push [] x y (suc s) h = absurd (cc)
get_push (z ∷ xs) x y zero h = inl h
get_push (z ∷ xs) x y (suc s) h = elim (get_push xs x y s h) [ inl e ↦ inl e | inr e ↦ inr (ap suc e.0, e.1) ]

module _ {X : Type 0} (f : X → ℕ) where
  -- the number of what stands at a place
  pub number_at : (xs : List X) (s : ℕ) (x : X) → s < length xs → x ≡ get_or xs s x → get_or (map f xs) s 0 ≡ f x
  number_at xs s x lt is = get_or-map f xs s x 0 lt ∙ ap f (sym is)

  pub number_put : (xs : List X) (s : ℕ) (x : X) → s < length xs → get_or (map f (set xs s x)) s 0 ≡ f x
  number_put [] s x lt = absurd (omega arith)
  number_put (y ∷ xs) zero x lt = refl
  number_put (y ∷ xs) (suc s) x lt = number_put xs s x (omega arith)

  pub number_other : (xs : List X) (s t : ℕ) (x : X) → t ≢ s → get_or (map f (set xs s x)) t 0 ≡ get_or (map f xs) t 0
  number_other [] s t x ne = refl
  number_other (y ∷ xs) zero zero x ne = absurd (ne refl)
  number_other (y ∷ xs) zero (suc t) x ne = refl
  number_other (y ∷ xs) (suc s) zero x ne = refl
  number_other (y ∷ xs) (suc s) (suc t) x ne = number_other xs s t x (λ e. ne (ap suc e))

  pub number_before : (xs : List X) (t : ℕ) (x : X) → t < length xs
      → get_or (map f (xs ++ x ∷ [])) t 0 ≡ get_or (map f xs) t 0
  number_before [] t x lt = absurd (omega arith)
  number_before (y ∷ xs) zero x lt = refl
  number_before (y ∷ xs) (suc t) x lt = number_before xs t x (omega arith)

  pub number_last : (xs : List X) (t : ℕ) (x : X) → t ≡ length xs → get_or (map f (xs ++ x ∷ [])) t 0 ≡ f x
  number_last [] zero x e = refl
  number_last [] (suc t) x e = absurd (omega arith)
  number_last (y ∷ xs) zero x e = absurd (omega arith)
  number_last (y ∷ xs) (suc t) x e = number_last xs t x (omega arith)

abbrev pub no_net : Net
no_net = record { 0 = 0 }

-- what the code reads at a place, and the number there
pub number_of : (nets : List Net) (s : ℕ) → (get_or nets s no_net).0 ≡ get_or (numbers nets) s 0
number_of [] s = refl
number_of (k ∷ nets) zero = refl
number_of (k ∷ nets) (suc s) = number_of nets s

-- a stream of the same number is the same
pub on_same : (run : Run) (n a b : ℕ) → a ≡ b → On (run a) n → On (run b) n
on_same run n a b e h = subst (λ (k : ℕ). On (run k) n) e h

pub repeated_off : (run : Run) (n : ℕ) (off : Net) (count s : ℕ) (nets : List Net) → nets ≡ replicate count off
    → s < count → run off.0 n ≡ 0 → ¬ On (stream_at run (numbers nets) s) n
repeated_off run n off count s nets is lt never on =
    let e : get_or nets s no_net ≡ off = ap (λ (ks : List Net). get_or ks s no_net) is
    ∙ get_or-replicate count s off no_net lt in
    on_same run n _ _ (sym (number_of nets s) ∙ ap (λ (k : Net). k.0) e) on never

-- one net of a list is joined with another
pub or_put : (run : Run) (n : ℕ) (nets : List Net) (place : ℕ) (was : Net) (more : ℕ) (joined : Net)
    → place < length nets → was ≡ get_or nets place was → On (run joined.0) n ↔ (On (run was.0) n ⊎ On (run more) n)
    → (s : ℕ) → On (stream_at run (numbers (set nets place joined)) s) n
    ↔ (On (stream_at run (numbers nets) s) n ⊎ ((place ≡ s) × On (run more) n))
or_put run n nets place was more joined lt at joins s =
    elim (same_or_not s place) [
      | inl here ↦ (let there : get_or (numbers (set nets place joined)) s 0 ≡ joined.0 =
          ap (λ (t : ℕ). get_or (numbers (set nets place joined)) t 0) here
          ∙ number_put (λ (k : Net). k.0) nets place joined lt in
          let old : get_or (numbers nets) s 0 ≡ was.0 = ap (λ (t : ℕ). get_or (numbers nets) t 0) here
          ∙ number_at (λ (k : Net). k.0) nets place was lt at in (
            (λ on. elim (joins.0 (on_same run n _ _ there on))
                [ inl h ↦ inl (on_same run n _ _ (sym old) h) | inr h ↦ inr (sym here, h) ]),
            (λ some. on_same run n _ _ (sym there)
                (joins.1 (elim some [ inl h ↦ inl (on_same run n _ _ old h) | inr h ↦ inr h.1 ]))),
          ))
      | inr ne ↦ (let same : get_or (numbers (set nets place joined)) s 0 ≡ get_or (numbers nets) s 0 =
          number_other (λ (k : Net). k.0) nets place s joined ne in (
            (λ on. inl (on_same run n _ _ same on)),
            (λ some. elim some [ inl h ↦ on_same run n _ _ (sym same) h | inr h ↦ absurd (ne (sym h.0)) ]),
          ))
    ]

-- some place below i, and then one more
pub below_push : (i : ℕ) (P : ℕ → Type 0) (before now here : Type 0) → before ↔ ((s : ℕ) × (s < i) × P s)
    → now ↔ (before ⊎ here) → here ↔ P i → now ↔ ((s : ℕ) × (s < i + 1) × P s)
below_push i P before now here befores nows is = (
  (λ h. elim (nows.0 h) [
    | inl b ↦ (let x = befores.0 b in (x.0, omega (arith, x.1), x.2))
    | inr y ↦ (i, omega arith, is.0 y)
  ]),
  (λ x. nows.1 (elim (cases_lt x.0 i) [
    | inl lt ↦ inl (befores.1 (x.0, lt, x.2))
    | inr ge ↦ inr (is.1 (subst P (omega (arith, x.1)) x.2))
  ])),
)
