-- A look-up after an entry is put.
use Rattle.std.proofs.Common.{◌≡◌, ℕ, Bool, true, false, cond, Option, None, Some, List, [], ◌∷◌, refl, ap, sym, ◌∙◌}
use Rattle.std.specs.Cmp.Lexicographic.{nat_list_eq_equiv}
use Rattle.std.specs.Map.{lookup}
use Rattle.indexmap.specs.IndexMap.{insert_entry}
use Rattle.unit_rules.specs.Known.{same_name}

same_other : (n k e : List ℕ) → same_name k e ≡ true → same_name n k ≡ same_name n e
same_other n k e p =
    nat_list_eq_equiv.symm n k ∙ (nat_list_eq_equiv.congr k e n p ∙ nat_list_eq_equiv.symm e n)

-- a look-up by a name that is the same
pub lookup_same : {V : Type 0} (n k : List ℕ) (es : List (List ℕ × V)) → same_name n k ≡ true
    → lookup (same_name n) es ≡ lookup (same_name k) es
lookup_same n k [] p = refl
lookup_same n k (e ∷ es) p =
    ap (λ b. cond b (Some e.1) (lookup (same_name n) es)) (nat_list_eq_equiv.congr n k e.0 p)
    ∙ ap (λ o. cond (same_name k e.0) (Some e.1) o) (lookup_same n k es p)

pub lookup_insert : {V : Type 0} (n k : List ℕ) (es : List (List ℕ × V)) (v : V)
    → lookup (same_name n) (insert_entry same_name es k v) ≡ cond (same_name n k) (Some v) (lookup (same_name n) es)
lookup_insert n k [] v = refl
lookup_insert n k (e ∷ es) v =
    by (same_name k e.0) refl (same_name n k) refl (same_name n e.0) refl (lookup_insert n k es v)
  where
    by : (a : Bool) → same_name k e.0 ≡ a → (b : Bool) → same_name n k ≡ b → (c : Bool) → same_name n e.0 ≡ c
        → lookup (same_name n) (insert_entry same_name es k v)
        ≡ cond (same_name n k) (Some v) (lookup (same_name n) es)
        → lookup (same_name n) (cond a ((e.0, v) ∷ es) (e ∷ insert_entry same_name es k v))
        ≡ cond b (Some v) (cond c (Some e.1) (lookup (same_name n) es))
    by true p true q true r rest = ap (λ t. cond t (Some v) (lookup (same_name n) es)) r
    by true p false q false r rest = ap (λ t. cond t (Some v) (lookup (same_name n) es)) r
    by true p true q false r rest = absurd (cc (same_other n k e.0 p, q, r))
    by true p false q true r rest = absurd (cc (same_other n k e.0 p, q, r))
    by false p true q true r rest = absurd (cc (nat_list_eq_equiv.congr n k e.0 q, p, r))
    by false p true q false r rest =
        ap (λ t. cond t (Some e.1) (lookup (same_name n) (insert_entry same_name es k v))) r
        ∙ (rest ∙ ap (λ t. cond t (Some v) (lookup (same_name n) es)) q)
    by false p false q true r rest =
        ap (λ t. cond t (Some e.1) (lookup (same_name n) (insert_entry same_name es k v))) r
    by false p false q false r rest =
        ap (λ t. cond t (Some e.1) (lookup (same_name n) (insert_entry same_name es k v))) r
        ∙ (rest ∙ ap (λ t. cond t (Some v) (lookup (same_name n) es)) q)
