-- Where symbols come from: they were there, or are Booleans of the sequence.
use Rattle.std.proofs.Common.{◌≡◌, sym, subst, Bool, true, false, cond, List, [], ◌∷◌, ◌++◌, inl, inr, ◌⊎◌, Contains}
use Rattle.std.specs.List.{list_any}
use Rattle.psl_model.specs.Expr.{Expr}
use Rattle.psl_rewrite.specs.CoreSere.{CoreSere}
use Rattle.symbol_alphabet.specs.Symbols.{needs_none, same, stripped, with_symbol}
use Rattle.sequence_tables.specs.Booleans.{HasBoolean}
use Rattle.sequence_tables.proofs.Members.{Among-append, Among-from_Contains, Contains-from_Among}

-- each new element was there, or is in P
abbrev pub ComeFrom : (old new : List Expr) → (Expr → Type 0) → Type 0
ComeFrom old new P = (e : Expr) → Contains new e → Contains old e ⊎ P e

abbrev pub Origins : (old new : List Expr) → CoreSere → Type 0
Origins old new r = ComeFrom old new (HasBoolean r)

last_origin : (old : List Expr) (b : Expr) → ComeFrom old (old ++ b ∷ []) (λ e. b ≡ e)
last_origin old b e h =
    elim (Among-append old (b ∷ []) e (Among-from_Contains (old ++ b ∷ []) e h)) [
      | inl k ↦ inl (Contains-from_Among old e k)
      | inr k ↦ elim k [ inl s ↦ inr s | inr n ↦ absurd n ]
    ]

seen_origin : (old : List Expr) (b : Expr) → ComeFrom old (with_symbol old b) (λ e. stripped b ≡ e)
seen_origin old b = two (needs_none b) (list_any (same (stripped b)) old)
  where
    two : (x y : Bool) → ComeFrom old (cond x old (cond y old (old ++ stripped b ∷ []))) (λ e. stripped b ≡ e)
    two true y e h = inl h
    two false true e h = inl h
    two false false e h = last_origin old (stripped b) e h

pub leaf_origin : (old new : List Expr) (b : Expr) → new ≡ with_symbol old b → ComeFrom old new (λ e. stripped b ≡ e)
leaf_origin old new b is =
    subst (λ (s : List Expr). ComeFrom old s (λ e. stripped b ≡ e)) (sym is) (seen_origin old b)

-- ---- of a sequence that is told by its parts

module _ (core whole : CoreSere) (is : core ≡ whole) where
  pub no_origin : (old new : List Expr) → new ≡ old → Origins old new core
  no_origin old new same e h = inl (subst (λ (s : List Expr). Contains s e) same h)

  pub one_origin : (a a' : CoreSere) (old new : List Expr) → a' ≡ a →
      ((e : Expr) → HasBoolean a e → HasBoolean whole e) → Origins old new a' → Origins old new core
  one_origin a a' old new i into from e h =
      elim (from e h) [
        | inl k ↦ inl k
        | inr k ↦ inr (subst (λ (c : CoreSere). HasBoolean c e) (sym is)
            (into e (subst (λ (c : CoreSere). HasBoolean c e) i k)))
      ]

  pub two_origins : (a b a' b' : CoreSere) (old mid new : List Expr) → a' ≡ a → b' ≡ b →
      ((e : Expr) → HasBoolean a e ⊎ HasBoolean b e → HasBoolean whole e) → Origins old mid a' → Origins mid new b' →
      Origins old new core
  two_origins a b a' b' old mid new i k into first then e h =
      elim (one_origin b b' mid new k (λ e h. into e (inr h)) then e h) [
        | inl m ↦ one_origin a a' old mid i (λ e h. into e (inl h)) first e m
        | inr m ↦ inr m
      ]
