-- The places of names, as items come one after the other.
use Rattle.std.proofs.Common.{◌≡◌, ℕ, zero, suc, ◌+◌, ◌<◌, ◌≤◌, nat_lt, Bool, true, false, cond, Option, None, Some}
use Rattle.std.proofs.Common.{IsSome, IfSome, ◌⊎◌, inl, inr, refl, ap, sym, ◌∙◌, subst, arith, le_refl}
use Rattle.std.proofs.lemmas.Bool.Decides.{nat_tests}
use Rattle.std.specs.Option.{unwrap_or}
use Rattle.psl_units.specs.declared.names.Place.{Place}
use Rattle.psl_units.specs.inner.Places.{body_place, at_place, IsPlace}

last : (upto count : ℕ) → upto ≤ suc count → (upto ≤ count) ⊎ (upto ≡ suc count)
last upto count h = grind arith

below : (a n : ℕ) → a < n → nat_lt a n ≡ true
below a n h = grind (arith, nat_tests)

not_below : (a n : ℕ) → n ≤ a → nat_lt a n ≡ false
not_below a n h = grind (arith, nat_tests)

still_before : (p : Option Place) (count : ℕ) → IfSome p (λ p. p.item < count)
    → body_place p (suc count) ≡ body_place p count
still_before None count h = refl
still_before (Some p) count h =
    ap (λ b. cond b (Some p.body) None) (below p.item (suc count) (omega (arith, h)) ∙ sym (below p.item count h))

-- ---- where the name stands for what it stood for

more_before : (p : Option Place) (count : ℕ) → IfSome p (λ p. p.item < count) → IfSome p (λ p. p.item < suc count)
more_before None count h = tt
more_before (Some p) count h = omega (arith, h)

pub same_place : {T : Type 0} (count : ℕ) (stands worth : ℕ → Option T) (p : Option Place)
    → stands (suc count) ≡ stands count → IsPlace count stands worth p → IsPlace (suc count) stands worth p
same_place count stands worth p e h =
    record {
      body = λ upto le. by upto (last upto count le);
      before = more_before p count h.before;
      earlier = h.earlier;
      declares = h.declares;
    }
  where
    by : (upto : ℕ) → (upto ≤ count) ⊎ (upto ≡ suc count) → stands upto ≡ at_place worth (body_place p upto)
    by upto (inl le) = h.body upto le
    by upto (inr q) =
        ap stands q ∙ (e ∙ (h.body count (le_refl count)
        ∙ ap (at_place worth) (sym (still_before p count h.before) ∙ ap (body_place p) (sym q))))

-- ---- where it is new

some_not_none : {T : Type 0} (o : Option T) → IsSome o → o ≡ None → ⊥
some_not_none None h e = cc h
some_not_none (Some x) h e = cc e

-- a name that stands for nothing stood for nothing before
none_before : {T : Type 0} (count : ℕ) (stands worth : ℕ → Option T) (p : Option Place)
    → IsPlace count stands worth p → stands count ≡ None → (upto : ℕ) → upto ≤ count → stands upto ≡ None
none_before count stands worth None h e upto le = h.body upto le
none_before count stands worth (Some p) h e upto le =
    absurd (some_not_none (worth p.body) h.declares
    (sym (ap (λ b. at_place worth (cond b (Some p.body) None)) (below p.item count h.before))
    ∙ (sym (h.body count (le_refl count)) ∙ e)))

pub new_place : {T : Type 0} (count root : ℕ) (stands worth : ℕ → Option T) (old : Option Place) (v : T)
    → IsPlace count stands worth old → stands count ≡ None → stands (suc count) ≡ Some v → worth root ≡ Some v
    → root ≤ count → IsPlace (suc count) stands worth (Some (record { item = count; body = root }))
new_place count root stands worth old v h none e w le =
    record {
      body = λ upto up. by upto (last upto count up);
      before = omega arith;
      earlier = le;
      declares = let P : Option _ → Type 0 = IsSome in subst P (sym w) refl;
    }
  where
    by : (upto : ℕ) → (upto ≤ count) ⊎ (upto ≡ suc count)
        → stands upto ≡ at_place worth (cond (nat_lt count upto) (Some root) None)
    by upto (inl up) =
        none_before count stands worth old h none upto up
        ∙ sym (ap (λ b. at_place worth (cond b (Some root) None)) (not_below count upto up))
    by upto (inr q) =
        ap stands q ∙ (e ∙ (sym w
        ∙ sym (ap (λ b. at_place worth (cond b (Some root) None)) (below count upto (omega (arith, q))))))

-- ---- the place of a body that is just a name

pub root_worth : {T : Type 0} (k : ℕ) (stands worth : ℕ → Option T) (p : Option Place) (d : T)
    → IsPlace k stands worth p → worth k ≡ Some (unwrap_or (stands k) d)
    → worth (unwrap_or (body_place p k) k) ≡ Some (unwrap_or (stands k) d)
root_worth k stands worth None d h w = w
root_worth k stands worth (Some p) d h w =
    by (nat_lt p.item k) (h.body k (le_refl k)) (worth p.body) refl h.declares
  where
    by : (b : Bool) → stands k ≡ at_place worth (cond b (Some p.body) None) → (o : Option _) → worth p.body ≡ o
        → IsSome o → worth (unwrap_or (cond b (Some p.body) None) k) ≡ Some (unwrap_or (stands k) d)
    by false e o q some = w
    by true e None q some = absurd (cc some)
    by true e (Some x) q some = q ∙ ap (λ o. Some (unwrap_or o d)) (sym (e ∙ q))

pub root_within : (k : ℕ) (p : Option Place) → IfSome p (λ p. p.item < k) → IfSome p (λ p. p.body ≤ p.item)
    → unwrap_or (body_place p k) k ≤ k
root_within k None before earlier = le_refl k
root_within k (Some p) before earlier = by (nat_lt p.item k)
  where
    by : (b : Bool) → unwrap_or (cond b (Some p.body) None) k ≤ k
    by true = omega (arith, before, earlier)
    by false = le_refl k

-- ---- a name that is looked up

pub found_at : {T : Type 0} (count upto : ℕ) (stands worth : ℕ → Option T) (p : Option Place) (place : ℕ)
    → IsPlace count stands worth p → upto ≤ count → body_place p upto ≡ Some place
    → (stands upto ≡ worth place) × IsSome (worth place) × (place < upto)
found_at count upto stands worth None place h le e = absurd (cc e)
found_at count upto stands worth (Some p) place h le e =
    by (nat_lt p.item upto) refl (h.body upto le) e
  where
    by : (b : Bool) → nat_lt p.item upto ≡ b → stands upto ≡ at_place worth (cond b (Some p.body) None)
        → cond b (Some p.body) None ≡ Some place
        → (stands upto ≡ worth place) × IsSome (worth place) × (place < upto)
    by false t q r = absurd (cc r)
    by true t q r =
        let same : p.body ≡ place = cc r in
        (q ∙ ap worth same, subst (λ n. IsSome (worth n)) same h.declares, under same t h.earlier)
      where
        under : p.body ≡ place → nat_lt p.item upto ≡ true → p.body ≤ p.item → place < upto
        under same t le = grind (arith, nat_tests)
