-- A new name goes last.
use Rattle.std.proofs.Common.{◌≡◌, Bool, true, false, cond, Some, is_some, List, [], ◌∷◌, ◌++◌}
use Rattle.std.proofs.Common.{refl, ap}
use Rattle.std.specs.List.{list_any}
use Rattle.std.specs.Map.{lookup}
use Rattle.indexmap.specs.IndexMap.{insert_entry}
use Rattle.indexmap.specs.IndexSet.{insert_key}

pub put_new : {K V : Type 0} (eq : K → K → Bool) (es : List (K × V)) (k : K) (v : V) → is_some (lookup (eq k) es)
    ≡ false → insert_entry eq es k v ≡ es ++ (k, v) ∷ []
put_new eq [] k v p = refl
put_new eq (e ∷ es) k v p = by (put_new eq es k v) (eq k e.0) p
  where
    by : (is_some (lookup (eq k) es) ≡ false → insert_entry eq es k v ≡ es ++ (k, v) ∷ []) → (b : Bool)
        → is_some (cond b (Some e.1) (lookup (eq k) es)) ≡ false
        → cond b ((e.0, v) ∷ es) (e ∷ insert_entry eq es k v) ≡ e ∷ (es ++ (k, v) ∷ [])
    by rest true q = absurd (cc q)
    by rest false q = ap (λ more. e ∷ more) (rest q)

pub put_new_key : {K : Type 0} (eq : K → K → Bool) (ks : List K) (k : K) → list_any (eq k) ks ≡ false
    → insert_key eq ks k ≡ ks ++ k ∷ []
put_new_key eq ks k p = search p
