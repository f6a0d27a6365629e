-- Lists of tops from the start.
use Rattle.std.proofs.Common.{◌≡◌, ◌⊎◌, ℕ, zero, suc, ◌+◌, ◌<◌, List, ◌∷◌, None, Some, length, slice_get, replicate}
use Rattle.std.proofs.Common.{inl, inr, refl, sym, ap, ◌∙◌, subst, arith, add-one}
use Rattle.std.proofs.lemmas.Option.{same_Some}
use Rattle.auto_core.specs.declared.labels.Literal.{Literal}
use Rattle.auto_core.specs.Machine.{Machine, AcceptsFrom}
use Rattle.auto_core.specs.Graph.{IsAlive}
use Rattle.auto_core.proofs.Members.{Contains-from_Among, Among-from_Contains}
use Rattle.auto_core.proofs.Once.{Among-slice_get, slice_get-Among}

-- the first edges of the state lead to no alive state
abbrev pub DeadBelow : Machine ℕ → ℕ → ℕ → Type 0
DeadBelow m state place = (k : ℕ) (label : List Literal) (t : ℕ) → k < place →
    slice_get (m.edges state) k ≡ Some (label, t) → ¬ IsAlive m t

pub dead_more : (m : Machine ℕ) (state place : ℕ) (label : List Literal) (t : ℕ) → DeadBelow m state place →
    slice_get (m.edges state) place ≡ Some (label, t) → (IsAlive m t → ⊥) → DeadBelow m state (place + 1)
dead_more m state place label t before at dead k other u lt there alive = elim (below k place lt) [
  | inl less ↦ before k other u less there alive
  | inr e ↦
      let pair : (other, u) ≡ (label, t) = same_Some (other, u) (label, t) (sym there ∙ ap (slice_get
      (m.edges state)) e ∙ at) in
      dead (subst (IsAlive m) (ap (λ (p : List Literal × ℕ). p.1) pair) alive)
]
  where
    below : (n v : ℕ) → n < v + 1 → (n < v) ⊎ (n ≡ v)
    below zero zero lt = inr refl
    below zero (suc v) lt = inl (omega arith)
    below (suc n) zero lt = absurd (omega arith)
    below (suc n) (suc v) lt = elim (below n v (omega arith)) [
      | inl l ↦ inl (omega (arith, l))
      | inr e ↦ inr
          (ap suc e)
    ]

pub all_dead : (m : Machine ℕ) (state place : ℕ) → DeadBelow m state place → length (m.edges state) ≡ place → (n : ℕ) →
    ¬ AcceptsFrom m state (replicate (n + 1) None)
all_dead m state place dead all n accepts =
    let longer : AcceptsFrom m state (None ∷ replicate n None) = subst (λ (k : ℕ). AcceptsFrom m state
    (replicate k None)) (add-one n) accepts in
    let (label, t, edge, passes, rest) = longer in
    let (k, lt, at) = slice_get-Among (m.edges state) (label, t) (Among-from_Contains (m.edges state)
    (label, t) edge) in
    dead k label t (subst (λ (n : ℕ). k < n) all lt) at (n, rest)

pub some_accepted : (m : Machine ℕ) (state place : ℕ) (label : List Literal) (t : ℕ) →
    slice_get (m.edges state) place ≡ Some (label, t) → IsAlive m t → ((n : ℕ) →
    ¬ AcceptsFrom m state (replicate (n + 1) None)) → ⊥
some_accepted m state place label t at (n, rest) never =
    never n (subst (λ (k : ℕ). AcceptsFrom m state (replicate k None)) (sym (add-one n)) (
      label,
      t,
      Contains-from_Among
          (m.edges state) (label, t) (Among-slice_get (m.edges state) place (label, t) at),
      tt,
      rest,
    ))
