-- The targets of steps, by marks.
use Rattle.std.proofs.Common.{◌≡◌, ◌≢◌, ℕ, zero, suc, ◌+◌, ◌<◌, ◌≤◌, Bool, true, false, eqb, List, [], ◌∷◌, ◌++◌}
use Rattle.std.proofs.Common.{length, take, get_or, set, replicate, Some, inl, inr, ◌⊎◌, ◌↔◌, refl, sym, ap, ◌∙◌}
use Rattle.std.proofs.Common.{subst, arith, All}
use Rattle.std.proofs.lemmas.List.Elements.{All-get_or}
use Rattle.std.proofs.lemmas.Bool.Decides.{Decides-eqb}
use Rattle.std.proofs.lemmas.List.{get_or-set_same, get_or-set_other, length-set, take_more, take_all}
use Rattle.auto_core.specs.declared.labels.Literal.{Literal}
use Rattle.auto_core.specs.Machine.{Passes, value_in}
use Rattle.weak_determinise.proofs.Members.{Among, ByRecursion-among, ByRecursion-from}
use Rattle.weak_determinise.proofs.Once.{Among-append, Among-left, Among-right, told, true-false}
use Rattle.weak_determinise.proofs.Gathering.{more, steps_in-push, Among-steps_to, steps_to-Among}
use Rattle.weak_determinise.specs.inner.Numbers.{IsRising}
use Rattle.weak_determinise.specs.inner.Stepping.{Step, step_to, steps_to, steps_in, IsMarked, AddsMarks, AreMarked}
use Rattle.weak_determinise.specs.inner.Stepping.{IsTarget, AreTargets}

same_or_not : (n k : ℕ) → (n ≡ k) ⊎ (n ≢ k)
same_or_not n k = elim (told (eqb n k))
    [ inl e ↦ inl ((Decides-eqb n k).0 e) | inr e ↦ inr (λ f. true-false (sym ((Decides-eqb n k).1 f) ∙ e)) ]

-- ---- marks

one_mark : (marks : List Bool) (s : ℕ) → s < length marks → (t : ℕ) →
    IsMarked (set marks s true) t ↔ ((t ≡ s) ⊎ IsMarked marks t)
one_mark marks s lt t = elim (same_or_not t s) [
  | inl e ↦ (
    (λ h. inl e),
    (λ h. ap (λ (k : ℕ). get_or (set marks s true) k false) e ∙ get_or-set_same marks s true false lt),
  )
  | inr ne ↦ (
    (λ h. inr (sym (get_or-set_other marks s t true false ne) ∙ h)),
    (λ h. elim h [ inl e ↦ absurd (ne e) | inr k ↦ get_or-set_other marks s t true false ne ∙ k ]),
  )
]

pub no_marks : (marks : List Bool) → AddsMarks (Among []) marks marks
no_marks marks = record {
  size = refl;
  members = λ t. ((λ h. inr h), (λ h. elim h [ inl n ↦ absurd n | inr k ↦ k ]));
}

pub marks_more : (states : List ℕ) (i s : ℕ) (old now new : List Bool) → i < length states → s ≡ get_or states i s →
    AddsMarks (Among (take i states)) old now → s < length old → new ≡ set now s true →
    AddsMarks (Among (take (i + 1) states)) old new
marks_more states i s old now new lt is before below marked =
    subst (AddsMarks (Among (take (i + 1) states)) old) (sym marked) (record {
      size = length-set now s true ∙ before.size;
      members = λ t.
          let here = one_mark now s (let size = before.size in omega (arith, below, size)) t in (
            (λ h. elim (here.0 h) [
              | inl e ↦ inl ((more states i s lt is t).1 (inl e))
              | inr k ↦ elim ((before.members t).0 k) [
                | inl j ↦ inl ((more states i s lt is t).1 (inr j))
                | inr j ↦ inr j
              ]
            ]),
            (λ h. here.1 (elim h [
              | inl j ↦ elim ((more states i s lt is t).0 j) [
                | inl e ↦ inl e
                | inr k ↦ inr ((before.members t).1 (inl k))
              ]
              | inr j ↦ inr ((before.members t).1 (inr j))
            ])),
          );
    })

pub row_marked : (P : Type 0) (row : List ℕ) (old new : List Bool) → P → AddsMarks (Among row) old new →
    AddsMarks (λ t. P × Among row t) old new
row_marked P row old new holds adds = record {
  size = adds.size;
  members = λ t. (
    (λ h. elim ((adds.members t).0 h) [ inl k ↦ inl (holds, k) | inr k ↦ inr k ]),
    (λ h. (adds.members t).1 (elim h [ inl (p, k) ↦ inl k | inr k ↦ inr k ])),
  );
}

pub row_left : (P : Type 0) (row : List ℕ) (marks : List Bool) → (P → ⊥) → AddsMarks (λ t. P × Among row t) marks marks
row_left P row marks fails = record {
  size = refl;
  members = λ t. ((λ h. inr h), (λ h. elim h [ inl (p, k) ↦ absurd (fails p) | inr k ↦ k ]));
}

-- ---- the marked numbers

rising-push : (xs : List ℕ) (s : ℕ) → IsRising xs → ((y : ℕ) → Among xs y → y < s) → IsRising (xs ++ s ∷ [])
rising-push [] s rising below = (tt, tt)
rising-push (x ∷ xs) s rising below = (
  ByRecursion-from (λ z. x < z) (xs ++ s ∷ []) (λ z h. elim (Among-append xs (s ∷ []) z h) [
    | inl k ↦ ByRecursion-among (λ y. x < y) xs z rising.0 k
    | inr k ↦ elim k [ inl e ↦ subst (λ (n : ℕ). x < n) e (below x (inl refl)) | inr n ↦ absurd n ]
  ]),
  rising-push xs s rising.1 (λ y h. below y (inr h)),
)

below_next : (t s : ℕ) → t < s + 1 → (t ≡ s) ⊎ (t < s)
below_next zero zero lt = inl refl
below_next zero (suc s) lt = inr (omega arith)
below_next (suc t) zero lt = absurd (omega arith)
below_next (suc t) (suc s) lt = elim (below_next t s (omega arith)) [
  | inl e ↦ inl (ap suc e)
  | inr l ↦ inr (omega
      (arith, l))
]

pub none_marked : (marks : List Bool) → AreMarked marks 0 []
none_marked marks = record {
  rising = tt;
  members = λ t. ((λ h. absurd h), (λ (lt, is). absurd (omega (arith, lt))));
}

module _ (marks : List Bool) (state : ℕ) where
  pub one_marked : (old new : List ℕ) → AreMarked marks state old → IsMarked marks state → new ≡ old ++ state ∷ [] →
      AreMarked marks (state + 1) new
  one_marked old new before is pushed = subst (AreMarked marks (state + 1)) (sym pushed) (record {
    rising = rising-push old state before.rising (λ y h. ((before.members y).0 h).0);
    members = λ t. (
      (λ h. elim (Among-append old (state ∷ []) t h) [
        | inl k ↦ let (lt, there) = (before.members t).0 k in (omega (arith, lt), there)
        | inr k ↦ elim k [ inl e ↦ (omega (arith, e), subst (IsMarked marks) e is) | inr n ↦ absurd n ]
      ]),
      (λ (lt, there). elim (below_next t state lt) [
        | inl e ↦ Among-right old (state ∷ []) t (inl (sym e))
        | inr l ↦ Among-left old (state ∷ []) t ((before.members t).1 (l, there))
      ]),
    );
  })

  pub one_unmarked : (old : List ℕ) → AreMarked marks state old → (IsMarked marks state → ⊥) →
      AreMarked marks (state + 1) old
  one_unmarked old before out = record {
    rising = before.rising;
    members = λ t. (
      (λ h. let (lt, there) = (before.members t).0 h in (omega (arith, lt), there)),
      (λ (lt, there). elim (below_next t state lt) [
        | inl e ↦ absurd (out (subst (IsMarked marks) e there))
        | inr l ↦ (before.members t).1 (l, there)
      ]),
    );
  }

-- ---- the marks of all rows

unmarked : (n t : ℕ) → IsMarked (replicate n false) t → ⊥
unmarked zero t h = true-false (sym h)
unmarked (suc n) zero h = true-false (sym h)
unmarked (suc n) (suc t) h = unmarked n t h

pub no_rows : (n : ℕ) (ls : List (List Literal)) (rs : List (List ℕ)) (bits : List Bool) (marks : List Bool) →
    marks ≡ replicate n false →
    (t : ℕ) → IsMarked marks t ↔ IsTarget (steps_in (take 0 ls) (take 0 rs)) bits t
no_rows n ls rs bits marks e t = (
  (λ h. absurd (unmarked n t (subst (λ (s : List Bool). IsMarked s t) e h))),
  (λ (step, there, passes, to). absurd there),
)

pub label_known : (count : ℕ) (ls : List (List Literal)) (k : ℕ) (label : List Literal) → k < length ls →
    label ≡ get_or ls k label → All (λ label. All (λ l. l.symbol < count) label) ls → All (λ l. l.symbol < count) label
label_known count ls k label lt at known = subst (All (λ l. l.symbol < count)) (sym at)
    (All-get_or (λ label. All (λ l. l.symbol < count) label) ls k label lt known)

pub row_owned : (count : ℕ) (rs : List (List ℕ)) (k : ℕ) (row : List ℕ) (marks : List Bool) → k < length rs →
    row ≡ get_or rs k row → length marks ≡ count → All (λ row. All (λ s. s < count) row) rs →
    All (λ s. s < length marks) row
row_owned count rs k row marks lt at size owned = subst (λ (n : ℕ). All (λ s. s < n) row) (sym size)
    (subst (All (λ s. s < count)) (sym at) (All-get_or (λ row. All (λ s. s < count) row) rs k row lt owned))

module _ (ls : List (List Literal)) (rs : List (List ℕ)) (bits : List Bool) (even : length ls ≡ length rs) where
  take_even : {X Y : Type 0} (xs : List X) (ys : List Y) (k : ℕ) → length xs ≡ length ys →
      length (take k xs) ≡ length (take k ys)
  take_even xs ys zero e = refl
  take_even [] [] (suc k) e = refl
  take_even [] (y ∷ ys) (suc k) e = absurd (omega arith)
  take_even (x ∷ xs) [] (suc k) e = absurd (omega arith)
  take_even (x ∷ xs) (y ∷ ys) (suc k) e = ap suc (take_even xs ys k (omega arith))

  pub rows_more : (k : ℕ) (label : List Literal) (row : List ℕ) (now new : List Bool) → k < length ls →
      label ≡ get_or ls k label → row ≡ get_or rs k row →
      ((t : ℕ) → IsMarked now t ↔ IsTarget (steps_in (take k ls) (take k rs)) bits t) →
      AddsMarks (λ t. Passes label (Some (value_in bits)) × Among row t) now new →
      (t : ℕ) → IsMarked new t ↔ IsTarget (steps_in (take (k + 1) ls) (take (k + 1) rs)) bits t
  rows_more k label row now new lt at stands before adds t =
      let first : take (k + 1) ls ≡ take k ls ++ label ∷ [] = take_more ls k label lt
      ∙ ap (λ (z : List Literal). take k ls ++ z ∷ []) (sym at) in
      let second : take (k + 1) rs ≡ take k rs ++ row ∷ [] = take_more rs k row (omega (arith, lt, even))
      ∙ ap (λ (z : List ℕ). take k rs ++ z ∷ []) (sym stands) in
      let whole : steps_in (take (k + 1) ls) (take (k + 1) rs) ≡ steps_in (take k ls) (take k rs) ++ steps_to label row
      =
      ap (λ (s : List (List Literal)). steps_in s (take (k + 1) rs)) first
      ∙ ap (steps_in (take k ls ++ label ∷ [])) second
      ∙ steps_in-push (take k ls) (take k rs) label row (take_even ls rs k even) in
      subst (λ (s : List Step). IsMarked new t ↔ IsTarget s bits t) (sym whole) (
        (λ h. elim ((adds.members t).0 h) [
          | inl (passes, there) ↦ (
            step_to label t,
            Among-right (steps_in (take k ls) (take k rs)) (steps_to label row) (step_to label t)
                (steps_to-Among label row t there),
            passes,
            refl,
          )
          | inr j ↦
              let (step, there, passes, to) = (before t).0 j in
              (step, Among-left (steps_in (take k ls) (take k rs)) (steps_to label row) step there, passes, to)
        ]),
        (λ (step, there, passes, to). (adds.members t).1
            (elim (Among-append (steps_in (take k ls) (take k rs)) (steps_to label row) step there) [
              | inl j ↦ inr ((before t).1 (step, j, passes, to))
              | inr j ↦
                  let (same, member) = Among-steps_to label row step j in
                  inl (
                    subst (λ (z : List Literal). Passes z (Some (value_in bits))) same passes,
                    subst (Among row) to member,
                  )
            ])),
      )

  pub targets_found : (k count : ℕ) (marks marks2 : List Bool) (next : List ℕ) → length ls ≤ k →
      length marks ≡ count → marks2 ≡ marks →
      ((t : ℕ) → IsMarked marks t ↔ IsTarget (steps_in (take k ls) (take k rs)) bits t) →
      AreMarked marks2 count next → AreTargets (steps_in ls rs) bits next
  targets_found k count marks marks2 next all size same marked found =
      let whole : steps_in (take k ls) (take k rs) ≡ steps_in ls rs =
      ap (λ (s : List (List Literal)). steps_in s (take k rs)) (take_all k ls all)
      ∙ ap (steps_in ls) (take_all k rs (omega (arith, all, even))) in
      record {
        rising = found.rising;
        members = λ t. (
          (λ h.
              let (lt, is) = (found.members t).0 h in
              subst (λ (s : List Step). IsTarget s bits t) whole ((marked t).0 (subst (λ (s : List Bool). IsMarked s t)
              same is))),
          (λ h.
              let is : IsMarked marks t = (marked t).1 (subst (λ (s : List Step). IsTarget s bits t) (sym whole) h) in
              (found.members t).1 (
                subst (λ (n : ℕ). t < n) size (within marks t is),
                subst (λ (s : List Bool). IsMarked s t)
                    (sym same) is,
              )),
        );
      }
    where
      within : (marks : List Bool) (t : ℕ) → IsMarked marks t → t < length marks
      within [] zero h = absurd (true-false (sym h))
      within [] (suc t) h = absurd (true-false (sym h))
      within (b ∷ bs) zero h = omega arith
      within (b ∷ bs) (suc t) h = let l = within bs t h in omega (arith, l)
