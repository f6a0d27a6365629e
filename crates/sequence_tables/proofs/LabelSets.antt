-- Labels as sets: two with the same members are one.
use Rattle.std.proofs.Common.{◌≡◌, ◌∙◌, ℕ, ◌+◌, ◌*◌, ◌<◌, Bool, true, false, cond, refl, sym, ap, List, [], ◌∷◌, inl}
use Rattle.std.proofs.Common.{inr, ◌++◌, arith}
use Rattle.std.specs.List.{AllByRecursion}
use Rattle.std.proofs.lemmas.Bool.Decides.{nat_tests}
use Rattle.auto_core.specs.declared.labels.Literal.{Literal}
use Rattle.auto_core.specs.LiteralSets.{precedes, IsLabel, put_literal, put_all}
use Rattle.sequence_tables.proofs.Members.{Among}

-- ---- the order of literals as an order of numbers

rank : Literal → ℕ
rank l = 2 * l.symbol + cond l.positive 1 0

below_by_sign : (s : ℕ) (p : Bool) (t : ℕ) (q : Bool) →
    precedes (record { symbol = s; positive = p }) (record { symbol = t; positive = q }) ≡ true →
    2 * s + cond p 1 0 < 2 * t + cond q 1 0
below_by_sign s true t true h = grind (arith, nat_tests)
below_by_sign s true t false h = grind (arith, nat_tests)
below_by_sign s false t true h = grind (arith, nat_tests)
below_by_sign s false t false h = grind (arith, nat_tests)

rank_below : (a b : Literal) → precedes a b ≡ true → rank a < rank b
unfolding rank
rank_below a b h = below_by_sign a.symbol a.positive b.symbol b.positive h

same_parts : (s : ℕ) (p : Bool) (t : ℕ) (q : Bool) → 2 * s + cond p 1 0 ≡ 2 * t + cond q 1 0 →
    ◌≡◌ {A = Literal} (record { symbol = s; positive = p }) (record { symbol = t; positive = q })
same_parts s true t true h = let e : s ≡ t = omega arith in ap (λ (n : ℕ). record { symbol = n; positive = true }) e
same_parts s true t false h = absurd (omega arith)
same_parts s false t true h = absurd (omega arith)
same_parts s false t false h = let e : s ≡ t = omega arith in ap (λ (n : ℕ). record { symbol = n; positive = false }) e

rank_same : (a b : Literal) → rank a ≡ rank b → a ≡ b
unfolding rank
rank_same a b h = same_parts a.symbol a.positive b.symbol b.positive h

-- ---- labels

after_head : (x : Literal) (xs : List Literal) → AllByRecursion (λ m. precedes x m ≡ true) xs → (l : Literal) →
    Among xs l → rank x < rank l
after_head x [] h l k = absurd k
after_head x (y ∷ xs) h l (inl e) =
    let first : rank x < rank y = rank_below x y h.0 in omega (arith, first, ap rank e)
after_head x (y ∷ xs) h l (inr k) = after_head x xs h.1 l k

pub same_label : (xs ys : List Literal) → IsLabel xs → IsLabel ys → ((l : Literal) → Among xs l → Among ys l) →
    ((l : Literal) → Among ys l → Among xs l) → xs ≡ ys
same_label [] [] h k there back = refl
same_label [] (y ∷ ys) h k there back = absurd (back y (inl refl))
same_label (x ∷ xs) [] h k there back = absurd (there x (inl refl))
same_label (x ∷ xs) (y ∷ ys) h k there back =
    let after_x : (l : Literal) → Among xs l → rank x < rank l = after_head x xs h.0 in
    let after_y : (l : Literal) → Among ys l → rank y < rank l = after_head y ys k.0 in
    let heads : rank x ≡ rank y = elim (there x (inl refl)) [
      | inl e ↦ ap rank (sym e)
      | inr f ↦ elim (back y (inl refl))
          [ inl e ↦ ap rank e | inr g ↦ absurd (omega (arith, after_y x f, after_x y g)) ]
    ] in
    let tails : xs ≡ ys = same_label xs ys h.1 k.1
    (λ l f. elim (there l (inr f)) [ inl e ↦ absurd (omega (arith, after_x l f, ap rank e, heads)) | inr g ↦ g ])
    (λ l f. elim (back l (inr f)) [ inl e ↦ absurd (omega (arith, after_y l f, ap rank e, heads)) | inr g ↦ g ]) in
    ap (λ (l : Literal). l ∷ xs) (rank_same x y heads) ∙ ap (λ (s : List Literal). y ∷ s) tails

pub put_append : (xs ys ms : List Literal) → put_all (xs ++ ys) ms ≡ put_all ys (put_all xs ms)
put_append [] ys ms = refl
put_append (x ∷ xs) ys ms = put_append xs ys (put_literal x ms)
