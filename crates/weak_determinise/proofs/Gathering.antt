-- The steps of a set, gathered one after the other.
use Rattle.std.proofs.Common.{◌≡◌, ℕ, zero, suc, ◌+◌, ◌<◌, eqb, List, [], ◌∷◌, ◌++◌, length, take}
use Rattle.std.proofs.Common.{get_or, set, slice_get, Some, All, Contains, inl, inr, ◌⊎◌, ◌↔◌, refl, sym, ap, ◌∙◌}
use Rattle.std.proofs.Common.{subst, arith, append_assoc, length-append, ◌≢◌}
use Rattle.std.specs.List.{position_or_len}
use Rattle.std.proofs.lemmas.List.{take_more, length-set, get_or_default}
use Rattle.std.proofs.lemmas.Bool.Decides.{Decides-eqb}
use Rattle.std.proofs.lemmas.Option.{same_Some, slice_get-get_or, slice_get_within}
use Rattle.indexmap.specs.IndexSet.{insert_key}
use Rattle.auto_core.specs.declared.labels.Literal.{Literal}
use Rattle.auto_core.specs.LiteralSets.{same_label}
use Rattle.auto_core.specs.Machine.{Machine}
use Rattle.auto_core.specs.Graph.{IsAlive}
use Rattle.weak_determinise.proofs.Members.{Among, Contains-from_Among, Among-from_Contains, Among-get_or}
use Rattle.weak_determinise.proofs.Members.{ByRecursion-among}
use Rattle.weak_determinise.proofs.Lists.{All-from_among}
use Rattle.weak_determinise.proofs.Once.{Among-append, Among-left, Among-right, Among-slice_get, slice_get-Among}
use Rattle.weak_determinise.proofs.Once.{append-nil, insert_key-there, insert_key-new, among_or_not, position-Among}
use Rattle.weak_determinise.proofs.Once.{position-absent, told, true-false}
use Rattle.weak_determinise.proofs.SameLabel.{same_label-Decides}
use Rattle.weak_determinise.specs.inner.Numbers.{IsRising, PutsIn}
use Rattle.weak_determinise.specs.inner.Stepping.{Step, step_to, steps_to, steps_in, IsGathered, HasRowFor, PutsStep}
use Rattle.weak_determinise.specs.inner.Stepping.{IsStepAt, TakesStep, AddsSteps, AreSteps, PutsSymbols, AreSymbolsOf}
use Rattle.weak_determinise.specs.inner.Stepping.{AreSymbols, IsRenamed, AreRenamedLabels, AreRenamed}

-- ---- lists

-- one more element of a list has been gone through
pub more : {X : Type 0} (xs : List X) (i : ℕ) (x : X) → i < length xs → x ≡ get_or xs i x → (y : X) →
    Among (take (i + 1) xs) y ↔ ((y ≡ x) ⊎ Among (take i xs) y)
more xs i x lt is y =
    let whole : take (i + 1) xs ≡ take i xs ++ x ∷ [] =
    take_more xs i x lt ∙ ap (λ (z : _). take i xs ++ z ∷ []) (sym is) in (
      (λ h. elim (Among-append (take i xs) (x ∷ []) y (subst (λ (s : List _). Among s y) whole h)) [
        | inl k ↦ inr k
        | inr k ↦ elim k [ inl e ↦ inl (sym e) | inr n ↦ absurd n ]
      ]),
      (λ h. subst (λ (s : List _). Among s y) (sym whole) (elim h [
        | inl e ↦ Among-right (take i xs) (x ∷ []) y (inl (sym e))
        | inr k ↦ Among-left (take i xs) (x ∷ []) y k
      ])),
    )

pub default_same : {X : Type 0} (xs : List X) (i : ℕ) (d : X) → i < length xs →
    get_or xs i d ≡ get_or xs i (get_or xs i d)
default_same xs i d lt = get_or_default xs i d (get_or xs i d) lt

-- ---- steps by their labels

step_is : (step : Step) (label : List Literal) (to : ℕ) → step.label ≡ label → step.to ≡ to → step ≡ step_to label to
step_is step label to a b = λ i. record { label = a i; to = b i }

pub Among-steps_to : (label : List Literal) (row : List ℕ) (step : Step) → Among (steps_to label row) step →
    (step.label ≡ label) × Among row step.to
Among-steps_to label [] step h = absurd h
Among-steps_to label (t ∷ ts) step (inl e) =
    (ap (λ (z : Step). z.label) (sym e), inl (ap (λ (z : Step). z.to) e))
Among-steps_to label (t ∷ ts) step (inr h) =
    let (same, there) = Among-steps_to label ts step h in (same, inr there)

pub steps_to-Among : (label : List Literal) (row : List ℕ) (t : ℕ) → Among row t →
    Among (steps_to label row) (step_to label t)
steps_to-Among label [] t h = absurd h
steps_to-Among label (u ∷ us) t (inl e) = inl (ap (step_to label) e)
steps_to-Among label (u ∷ us) t (inr h) = inr (steps_to-Among label us t h)

-- the same, for any step with the label
steps_to-step : (label : List Literal) (row : List ℕ) (step : Step) → step.label ≡ label → Among row step.to →
    Among (steps_to label row) step
steps_to-step label row step same there =
    subst (Among (steps_to label row)) (sym (step_is step label step.to same refl)) (steps_to-Among label row step.to
    there)

-- a step stands in the row of its label
pub Among-steps_in : (ls : List (List Literal)) (rs : List (List ℕ)) (step : Step) → Among (steps_in ls rs) step →
    (k : ℕ) × (row : List ℕ) × (slice_get ls k ≡ Some step.label) × (slice_get rs k ≡ Some row) × Among row step.to
Among-steps_in [] rs step h = absurd h
Among-steps_in (l ∷ ls) [] step h = absurd h
Among-steps_in (l ∷ ls) (r ∷ rs) step h = elim (Among-append (steps_to l r) (steps_in ls rs) step h) [
  | inl k ↦
      let (same, there) = Among-steps_to l r step k in
      (0, r, ap (λ (z : List Literal). Some z) (sym same), refl, there)
  | inr k ↦
      let (n, row, at, stands, there) = Among-steps_in ls rs step k in
      (suc n, row, at, stands, there)
]

pub steps_in-Among : (ls : List (List Literal)) (rs : List (List ℕ)) (k : ℕ) (label : List Literal) (row : List ℕ)
    (t : ℕ) → slice_get ls k ≡ Some label → slice_get rs k ≡ Some row → Among row t →
    Among (steps_in ls rs) (step_to label t)
steps_in-Among [] rs k label row t at stands there = absurd (let e = at in cc)
steps_in-Among (l ∷ ls) [] k label row t at stands there = absurd (let e = stands in cc)
steps_in-Among (l ∷ ls) (r ∷ rs) zero label row t at stands there =
    Among-left (steps_to l r) (steps_in ls rs) (step_to label t)
    (steps_to-step l r (step_to label t) (sym (same_Some l label at))
    (subst (λ (z : List ℕ). Among z t) (sym (same_Some r row stands)) there))
steps_in-Among (l ∷ ls) (r ∷ rs) (suc k) label row t at stands there =
    Among-right (steps_to l r) (steps_in ls rs) (step_to label t) (steps_in-Among ls rs k label row t at stands there)

-- one more member in a row is one more step
put_in : (ls : List (List Literal)) (rs : List (List ℕ)) (k : ℕ) (label : List Literal) (to : ℕ) (row row' : List ℕ) →
    slice_get ls k ≡ Some label → slice_get rs k ≡ Some row →
    ((t : ℕ) → Among row' t ↔ ((t ≡ to) ⊎ Among row t)) →
    PutsStep label to (steps_in ls rs) (steps_in ls (set rs k row'))
put_in [] rs k label to row row' at stands members step = absurd (let e = at in cc)
put_in (l ∷ ls) [] k label to row row' at stands members step = absurd (let e = stands in cc)
put_in (l ∷ ls) (r ∷ rs) zero label to row row' at stands members step =
    let at_label : l ≡ label = same_Some l label at in
    let at_row : r ≡ row = same_Some r row stands in (
      (λ h. elim (Among-append (steps_to l row') (steps_in ls rs) step h) [
        | inl k ↦
            let (same, there) = Among-steps_to l row' step k in
            elim ((members step.to).0 there) [
              | inl e ↦ inl (step_is step label to (same ∙ at_label) e)
              | inr j ↦ inr (Among-left (steps_to l r) (steps_in ls rs) step
                  (steps_to-step l r step same (subst (λ (z : List ℕ). Among z step.to) (sym at_row) j)))
            ]
        | inr k ↦ inr (Among-right (steps_to l r) (steps_in ls rs) step k)
      ]),
      (λ h. elim h [
        | inl e ↦ Among-left (steps_to l row') (steps_in ls rs) step
            (steps_to-step l row' step (ap (λ (z : Step). z.label) e ∙ sym at_label)
            ((members step.to).1 (inl (ap (λ (z : Step). z.to) e))))
        | inr j ↦ elim (Among-append (steps_to l r) (steps_in ls rs) step j) [
          | inl k ↦
              let (same, there) = Among-steps_to l r step k in
              Among-left (steps_to l row') (steps_in ls rs) step
              (steps_to-step l row' step same
              ((members step.to).1 (inr (subst (λ (z : List ℕ). Among z step.to) at_row there))))
          | inr k ↦ Among-right (steps_to l row') (steps_in ls rs) step k
        ]
      ]),
    )
put_in (l ∷ ls) (r ∷ rs) (suc k) label to row row' at stands members step =
    let rest = put_in ls rs k label to row row' at stands members step in (
      (λ h. elim (Among-append (steps_to l r) (steps_in ls (set rs k row')) step h) [
        | inl j ↦ inr (Among-left (steps_to l r) (steps_in ls rs) step j)
        | inr j ↦ elim (rest.0 j) [ inl e ↦ inl e | inr i ↦ inr (Among-right (steps_to l r) (steps_in ls rs) step i) ]
      ]),
      (λ h. elim h [
        | inl e ↦ Among-right (steps_to l r) (steps_in ls (set rs k row')) step (rest.1 (inl e))
        | inr j ↦ elim (Among-append (steps_to l r) (steps_in ls rs) step j) [
          | inl i ↦ Among-left (steps_to l r) (steps_in ls (set rs k row')) step i
          | inr i ↦ Among-right (steps_to l r) (steps_in ls (set rs k row')) step (rest.1 (inr i))
        ]
      ]),
    )

-- one more label with its row
pub steps_in-push : (ls : List (List Literal)) (rs : List (List ℕ)) (label : List Literal) (row : List ℕ) →
    length ls ≡ length rs → steps_in (ls ++ label ∷ []) (rs ++ row ∷ []) ≡ steps_in ls rs ++ steps_to label row
steps_in-push [] [] label row even = append-nil (steps_to label row)
steps_in-push [] (r ∷ rs) label row even = absurd (omega arith)
steps_in-push (l ∷ ls) [] label row even = absurd (omega arith)
steps_in-push (l ∷ ls) (r ∷ rs) label row even =
    ap (λ (s : List Step). steps_to l r ++ s) (steps_in-push ls rs label row (omega arith))
    ∙ sym (append_assoc (steps_to l r) (steps_in ls rs) (steps_to label row))

-- ---- the row of a label

module _ (label : List Literal) (ls ls' : List (List Literal)) (rs rs' : List (List ℕ)) (place : ℕ)
    (gathered : IsGathered ls rs) (put : ls' ≡ insert_key same_label ls label)
    (number : place ≡ position_or_len (same_label label) ls) where
  pub row_new : place ≡ length rs → rs' ≡ rs ++ [] ∷ [] → HasRowFor label ls rs ls' rs' place
  row_new end pushed =
      let absent : Among ls label → ⊥ = λ h.
      let below = (position-Among same_label same_label-Decides ls label h).0 in
      omega (arith, below, number, end, gathered.even) in
      let longer : ls' ≡ ls ++ label ∷ [] = put ∙ insert_key-new same_label same_label-Decides ls label absent in
      let last : place ≡ length ls = end ∙ sym gathered.even in
      record {
        there = ap (λ (s : List (List Literal)). slice_get s place) longer
            ∙ ap (slice_get (ls ++ label ∷ [])) last ∙ at_end ls label;
        even =
            let a = length-append ls (label ∷ []) in
            let b = length-append rs ([] ∷ []) in
            let c : length ls' ≡ length (ls ++ label ∷ []) = ap (λ (s : List (List Literal)). length s) longer in
            let d : length rs' ≡ length (rs ++ [] ∷ []) = ap (λ (s : List (List ℕ)). length s) pushed in
            omega (arith, a, b, c, d, gathered.even);
        rising = λ row h. elim (Among-append rs ([] ∷ []) row (subst (λ (s : List (List ℕ)). Among s row) pushed h)) [
          | inl k ↦ gathered.rising row k
          | inr k ↦ elim k [ inl e ↦ subst IsRising e tt | inr n ↦ absurd n ]
        ];
        steps =
            ap (λ (s : List (List Literal)). steps_in s rs') longer
            ∙ ap (steps_in (ls ++ label ∷ [])) pushed
            ∙ steps_in-push ls rs label [] gathered.even ∙ append-nil (steps_in ls rs);
        known = λ other h.
            elim (Among-append ls (label ∷ []) other (subst (λ (s : List (List Literal)). Among s other) longer h)) [
              | inl k ↦ inr k
              | inr k ↦ elim k [ inl e ↦ inl (sym e) | inr n ↦ absurd n ]
            ];
      }
    where
      at_end : (xs : List (List Literal)) (x : List Literal) → slice_get (xs ++ x ∷ []) (length xs) ≡ Some x
      at_end [] x = refl
      at_end (y ∷ ys) x = at_end ys x

  pub row_old : (place ≡ length rs → ⊥) → rs' ≡ rs → HasRowFor label ls rs ls' rs' place
  row_old other kept =
      let there : Among ls label = elim (among_or_not same_label same_label-Decides ls label) [
        | inl h ↦ h
        | inr out ↦ absurd (other (number ∙ position-absent same_label same_label-Decides ls label out ∙ gathered.even))
      ] in
      let same : ls' ≡ ls = put ∙ insert_key-there same_label same_label-Decides ls label there in
      record {
        there = ap (λ (s : List (List Literal)). slice_get s place) same ∙ ap (slice_get ls) number
            ∙ (position-Among same_label same_label-Decides ls label there).1;
        even = ap (λ (s : List (List Literal)). length s) same ∙ gathered.even
            ∙ ap (λ (s : List (List ℕ)). length s) (sym kept);
        rising = λ row h. gathered.rising row (subst (λ (s : List (List ℕ)). Among s row) kept h);
        steps = ap (λ (s : List (List Literal)). steps_in s rs') same ∙ ap (steps_in ls) kept;
        known = λ x h. inr (subst (λ (s : List (List Literal)). Among s x) same h);
      }

  pub row_is : (place ≡ length rs → rs' ≡ rs ++ [] ∷ []) → (place ≢ length rs → rs' ≡ rs) →
      HasRowFor label ls rs ls' rs' place
  row_is new old = elim (told (eqb place (length rs))) [
    | inl e ↦ let same = (Decides-eqb place (length rs)).0 e in row_new same (new same)
    | inr e ↦
        let other : place ≢ length rs = λ f. true-false (sym ((Decides-eqb place (length rs)).1 f) ∙ e) in
        row_old other (old other)
  ]

Among-set : (rs : List (List ℕ)) (k : ℕ) (row x : List ℕ) → Among (set rs k row) x → (x ≡ row) ⊎ Among rs x
Among-set [] k row x h = absurd h
Among-set (r ∷ rs) zero row x (inl e) = inl (sym e)
Among-set (r ∷ rs) zero row x (inr h) = inr (inr h)
Among-set (r ∷ rs) (suc k) row x (inl e) = inr (inl e)
Among-set (r ∷ rs) (suc k) row x (inr h) = elim (Among-set rs k row x h) [ inl e ↦ inl e | inr j ↦ inr (inr j) ]

module _ (label : List Literal) (ls ls' : List (List Literal)) (rs rs' : List (List ℕ)) (place : ℕ)
    (has : HasRowFor label ls rs ls' rs' place) where
  pub row_below : place < length rs'
  row_below = let below = slice_get_within ls' place label has.there in omega (arith, below, has.even)

  module _ (to : ℕ) (row row' : List ℕ) (rs'' : List (List ℕ)) (is : row ≡ get_or rs' place row)
      (puts : PutsIn to row row') (new : rs'' ≡ set rs' place row') where
    pub target_put : PutsStep label to (steps_in ls rs) (steps_in ls' rs'')
    target_put =
        let at : slice_get rs' place ≡ Some row = slice_get-get_or rs' place row row_below
        ∙ ap (λ (z : List ℕ). Some z) (sym is) in
        subst (λ (s : List (List ℕ)). PutsStep label to (steps_in ls rs) (steps_in ls' s)) (sym new)
        (subst (λ (s : List Step). PutsStep label to s (steps_in ls' (set rs' place row'))) has.steps
        (put_in ls' rs' place label to row row' has.there at puts.members))

    pub target_gathered : IsGathered ls rs → IsGathered ls' rs''
    target_gathered gathered = record {
      even = has.even ∙ sym (length-set rs' place row') ∙ ap (λ (s : List (List ℕ)). length s) (sym new);
      rising = λ x h. elim (Among-set rs' place row' x (subst (λ (s : List (List ℕ)). Among s x) new h)) [
        | inl e ↦ subst IsRising (sym e) puts.rising
        | inr k ↦ has.rising x k
      ];
      used = λ other h. elim (has.known other h) [
        | inl e ↦ (to, (target_put (step_to other to)).1 (inl (ap (λ (z : List Literal). step_to z to) e)))
        | inr k ↦ let (t, there) = gathered.used other k in (t, (target_put (step_to other t)).1 (inr there))
      ];
    }

-- ---- steps that are put in

module _ (m : Machine ℕ) (state place : ℕ) where
  at_place : (label other : List Literal) (to : ℕ) (step : Step) → slice_get (m.edges state) place ≡ Some (label, to) →
      slice_get (m.edges state) place ≡ Some (step.label, step.to) → step ≡ (record { label = label; to = to })
  at_place label other to step a b =
      let e : (step.label, step.to) ≡ (label, to) = same_Some (step.label, step.to) (label, to) (sym b ∙ a) in
      ap (λ (p : List Literal × ℕ). record { label = p.0; to = p.1 }) e

  pub step_put : (label : List Literal) (to : ℕ) (old new : List Step) →
      slice_get (m.edges state) place ≡ Some (label, to) → IsAlive m to → PutsStep label to old new →
      TakesStep m state place old new
  step_put label to old new at alive puts = record {
    members = λ step. (
      (λ h. elim ((puts step).0 h) [
        | inl e ↦ inl (subst (IsStepAt m state place) (sym e) (at, alive))
        | inr k ↦ inr k
      ]),
      (λ h. (puts step).1 (elim h [
        | inl s ↦ inl (at_place label label to step at s.0)
        | inr k ↦ inr k
      ])),
    );
  }

  pub step_found : (label label2 got : List Literal) (to next : ℕ) (old new : List Step) →
      slice_get (m.edges state) place ≡ Some (label, to) → slice_get (m.edges state) place ≡ Some (label2, next) →
      got ≡ label2 → IsAlive m to → PutsStep got to old new → TakesStep m state place old new
  step_found label label2 got to next old new at at2 same alive puts =
      let e : (label2, next) ≡ (label, to) = same_Some (label2, next) (label, to) (sym at2 ∙ at) in
      let labels : got ≡ label = same ∙ ap (λ (p : List Literal × ℕ). p.0) e in
      step_put label to old new at alive (subst (λ (l : List Literal). PutsStep l to old new) labels puts)

  pub step_left : (label : List Literal) (to : ℕ) (old new : List Step) → slice_get (m.edges state) place ≡ Some
      (label, to) → (IsAlive m to → ⊥) → new ≡ old → TakesStep m state place old new
  step_left label to old new at dead is = record {
    members = λ step.
        subst (λ (s : List Step). Among s step ↔ (IsStepAt m state place step ⊎ Among old step)) (sym is) (
          (λ h. inr h),
          (λ h. elim h [
            | inl s ↦ absurd
                (dead (subst (IsAlive m) (ap (λ (z : Step). z.to) (at_place label label to step at s.0)) s.1))
            | inr k ↦ k
          ]),
        );
  }

  pub steps_more : (old now new : List Step) → AddsSteps m state place old now → TakesStep m state place now new →
      AddsSteps m state (place + 1) old new
  steps_more old now new adds takes = record {
    members = λ step. (
      (λ h. elim ((takes.members step).0 h) [
        | inl s ↦ inl (place, omega arith, s)
        | inr k ↦ elim ((adds.members step).0 k) [
          | inl (p, lt, s) ↦ inl (p, omega (arith, lt), s)
          | inr j ↦ inr j
        ]
      ]),
      (λ h. (takes.members step).1 (elim h [
        | inl (p, lt, s) ↦ elim (before p place lt) [
          | inl e ↦ inl (subst (λ (q : ℕ). IsStepAt m state q step) e s)
          | inr l ↦ inr ((adds.members step).1 (inl (p, l, s)))
        ]
        | inr k ↦ inr ((adds.members step).1 (inr k))
      ])),
    );
  }
    where
      before : (p q : ℕ) → p < q + 1 → (p ≡ q) ⊎ (p < q)
      before zero zero lt = inl refl
      before zero (suc q) lt = inr (omega arith)
      before (suc p) zero lt = absurd (omega arith)
      before (suc p) (suc q) lt = elim (before p q (omega arith)) [
        | inl e ↦ inl (ap suc e)
        | inr l ↦ inr (omega (arith, l))
      ]

pub steps_none : (m : Machine ℕ) (state : ℕ) (old : List Step) → AddsSteps m state 0 old old
steps_none m state old = record {
  members = λ step. (
    (λ h. inr h),
    (λ h. elim h [
      | inl (p, lt, s) ↦ absurd (omega
          (arith, lt))
      | inr k ↦ k
    ]),
  );
}

pub no_states : (m : Machine ℕ) → AreSteps m [] []
no_states m = record { members = λ step. ((λ h. absurd h), (λ (s, there, edge, alive). absurd there)) }

-- all edges of one more state have been gone through
pub state_more : (m : Machine ℕ) (states : List ℕ) (i state : ℕ) (old new : List Step) → i < length states →
    state ≡ get_or states i state → AreSteps m (take i states) old → AddsSteps m state (length (m.edges state)) old new
    → AreSteps m (take (i + 1) states) new
state_more m states i state old new lt is steps adds = record {
  members = λ step. (
    (λ h. elim ((adds.members step).0 h) [
      | inl (p, below, at) ↦ (
        state,
        (more states i state lt is state).1 (inl refl),
        Among-slice_get (m.edges state) p
            (step.label, step.to) at.0,
        at.1,
      )
      | inr k ↦ let (s, there, edge, alive) = (steps.members step).0 k in (
        s,
        (more states i state lt is s).1
            (inr there),
        edge,
        alive,
      )
    ]),
    (λ (s, there, edge, alive). (adds.members step).1 (elim ((more states i state lt is s).0 there) [
      | inl e ↦ let (p, below, at) = slice_get-Among (m.edges s) (step.label, step.to) edge in
          inl (subst (λ (z : ℕ). (p : ℕ) × (p < length (m.edges z)) × IsStepAt m z p step) e (p, below, (at, alive)))
      | inr k ↦ inr ((steps.members step).1 (s, k, edge, alive))
    ])),
  );
}

-- ---- symbols

pub symbols_none : (old : List ℕ) → IsRising old → PutsSymbols [] old old
symbols_none old rising = record {
  rising = rising;
  members = λ x. (
    (λ h. inr h),
    (λ h. elim h [
      | inl
          (l, there, e) ↦ absurd there
      | inr k ↦ k
    ]),
  );
}

pub symbol_more : (label : List Literal) (i : ℕ) (l : Literal) (old now new : List ℕ) → i < length label →
    l ≡ get_or label i l → PutsSymbols (take i label) old now → PutsIn l.symbol now new →
    PutsSymbols (take (i + 1) label) old new
symbol_more label i l old now new lt is puts put = record {
  rising = put.rising;
  members = λ x. (
    (λ h. elim ((put.members x).0 h) [
      | inl e ↦ inl (l, (more label i l lt is l).1 (inl refl), sym e)
      | inr k ↦ elim ((puts.members x).0 k) [
        | inl (n, there, e) ↦ inl (n, (more label i l lt is n).1 (inr there), e)
        | inr j ↦ inr j
      ]
    ]),
    (λ h. (put.members x).1 (elim h [
      | inl (n, there, e) ↦ elim ((more label i l lt is n).0 there) [
        | inl f ↦ inl (sym e ∙ ap (λ (z : Literal). z.symbol) f)
        | inr k ↦ inr ((puts.members x).1 (inl (n, k, e)))
      ]
      | inr k ↦ inr ((puts.members x).1 (inr k))
    ])),
  );
}

pub no_labels : AreSymbolsOf [] []
no_labels = record { rising = tt; members = λ x. ((λ h. absurd h), (λ (label, l, there, among, e). absurd there)) }

pub label_symbols_more : (labels : List (List Literal)) (i : ℕ) (label : List Literal) (old new : List ℕ) →
    i < length labels → label ≡ get_or labels i label → AreSymbolsOf (take i labels) old → PutsSymbols label old new →
    AreSymbolsOf (take (i + 1) labels) new
label_symbols_more labels i label old new lt is symbols puts = record {
  rising = puts.rising;
  members = λ x. (
    (λ h. elim ((puts.members x).0 h) [
      | inl (l, among, e) ↦ (label, l, (more labels i label lt is label).1 (inl refl), among, e)
      | inr k ↦
          let (s, l, there, among, e) = (symbols.members x).0 k in
          (s, l, (more labels i label lt is s).1 (inr there), among, e)
    ]),
    (λ (s, l, there, among, e). (puts.members x).1 (elim ((more labels i label lt is s).0 there) [
      | inl f ↦ inl (l, subst (λ (z : List Literal). Among z l) f among, e)
      | inr k ↦ inr ((symbols.members x).1 (s, l, k, among, e))
    ])),
  );
}

-- the symbols of the labels are those of the steps
pub symbols_are : (ls : List (List Literal)) (rs : List (List ℕ)) (symbols : List ℕ) → IsGathered ls rs →
    AreSymbolsOf ls symbols → AreSymbols (steps_in ls rs) symbols
symbols_are ls rs symbols gathered are = record {
  rising = are.rising;
  members = λ x. (
    (λ h.
        let (label, l, there, among, e) = (are.members x).0 h in
        let (t, step) = gathered.used label there in
        (step_to label t, l, step, among, e)),
    (λ (step, l, there, among, e).
        let (k, row, at, stands, member) = Among-steps_in ls rs step there in
        (are.members x).1 (step.label, l, Among-slice_get ls k step.label at, among, e)),
  );
}

-- ---- labels over places

pub rising_place : (xs : List ℕ) (i j x : ℕ) → IsRising xs → slice_get xs i ≡ Some x → slice_get xs j ≡ Some x → i ≡ j
rising_place [] i j x rising a b = absurd (let e = a in cc)
rising_place (y ∷ ys) zero zero x rising a b = refl
rising_place (y ∷ ys) zero (suc j) x rising a b = let e : y ≡ x = same_Some y x a in let l : y < x = ByRecursion-among
    (λ z. y < z) ys x rising.0 (Among-slice_get ys j x b) in absurd (omega (arith, e, l))
rising_place (y ∷ ys) (suc i) zero x rising a b = let e : y ≡ x = same_Some y x b in let l : y < x = ByRecursion-among
    (λ z. y < z) ys x rising.0 (Among-slice_get ys i x a) in absurd (omega (arith, e, l))
rising_place (y ∷ ys) (suc i) (suc j) x rising a b = ap suc (rising_place ys i j x rising.1 a b)

pub no_literals : (symbols : List ℕ) → IsRenamed symbols [] []
no_literals symbols = record { members = λ r. ((λ h. absurd h), (λ (l, there, at, sign). absurd there)) }

pub literal_more : (symbols : List ℕ) (label : List Literal) (i : ℕ) (l : Literal) (place : ℕ)
    (old new : List Literal) → IsRising symbols → i < length label → l ≡ get_or label i l →
    IsRenamed symbols (take i label) old
    → slice_get symbols place ≡ Some l.symbol → ((r : Literal) → Contains new r ↔ ((r ≡ (record {
      symbol = place;
      positive = l.positive;
    })) ⊎ Contains old r)) → IsRenamed symbols (take (i + 1) label) new
literal_more symbols label i l place old new rising lt is renamed at put = record {
  members = λ r. (
    (λ h. elim ((put r).0 (Contains-from_Among new r h)) [
      | inl e ↦ (
        l,
        (more label i l lt is l).1 (inl refl),
        subst (λ (z : Literal). slice_get symbols z.symbol ≡ Some l.symbol) (sym e) at,
        ap (λ (z : Literal). z.positive) e,
      )
      | inr k ↦ let (n, there, stands, sign) = (renamed.members r).0 (Among-from_Contains old r k) in (
        n,
        (more label i l lt is n).1 (inr there),
        stands,
        sign,
      )
    ]),
    (λ (n, there, stands, sign). Among-from_Contains new r ((put r).1 (elim ((more label i l lt is n).0 there) [
      | inl f ↦
          let here : slice_get symbols r.symbol ≡ Some l.symbol = stands ∙ ap (λ (z : Literal). Some z.symbol) f in
          let number : r.symbol ≡ place = rising_place symbols r.symbol place l.symbol rising here at in
          let signs : r.positive ≡ l.positive = sign ∙ ap (λ (z : Literal). z.positive) f in
          inl (λ j. record { symbol = number j; positive = signs j })
      | inr k ↦ inr (Contains-from_Among old r ((renamed.members r).1 (n, k, stands, sign)))
    ]))),
  );
}

-- the same, for an element by its place
pub symbol_at : (label : List Literal) (i : ℕ) (d : Literal) (old now new : List ℕ) → i < length label →
    PutsSymbols (take i label) old now → PutsIn (get_or label i d).symbol now new →
    PutsSymbols (take (i + 1) label) old new
symbol_at label i d old now new lt puts put = symbol_more label i (get_or label i d) old now new lt
    (default_same label i d lt) puts put

pub literal_at : (symbols : List ℕ) (label : List Literal) (i : ℕ) (d : Literal) (place : ℕ) (old new : List Literal) →
    IsRising symbols → i < length label → IsRenamed symbols (take i label) old
    → slice_get symbols place ≡ Some (get_or label i d).symbol → ((r : Literal) →
    Contains new r ↔ ((r ≡ (record { symbol = place; positive = (get_or label i d).positive })) ⊎ Contains old r)) →
    IsRenamed symbols (take (i + 1) label) new
literal_at symbols label i d place old new rising lt renamed at put = literal_more symbols label i
    (get_or label i d) place old new rising lt (default_same label i d lt) renamed at put

-- ---- all labels over places

renamed_push : (symbols : List ℕ) (ls rs : List (List Literal)) (l r : List Literal) →
    AreRenamedLabels symbols ls rs → IsRenamed symbols l r → AreRenamedLabels symbols (ls ++ l ∷ []) (rs ++ r ∷ [])
renamed_push symbols [] [] l r all here = (here, tt)
renamed_push symbols [] (y ∷ rs) l r all here = absurd all
renamed_push symbols (x ∷ ls) [] l r all here = absurd all
renamed_push symbols (x ∷ ls) (y ∷ rs) l r all here = (all.0, renamed_push symbols ls rs l r all.1 here)

pub none_renamed : (symbols : List ℕ) → AreRenamedLabels symbols [] []
none_renamed symbols = tt

pub renamed_more : (symbols : List ℕ) (labels : List (List Literal)) (i : ℕ) (label renamed : List Literal)
    (old new : List (List Literal)) → i < length labels → label ≡ get_or labels i label →
    AreRenamedLabels symbols (take i labels) old → IsRenamed symbols label renamed → new ≡ old ++ renamed ∷ [] →
    AreRenamedLabels symbols (take (i + 1) labels) new
renamed_more symbols labels i label renamed old new lt is before here pushed =
    let whole : take (i + 1) labels ≡ take i labels ++ label ∷ [] = take_more labels i label lt
    ∙ ap (λ (z : List Literal). take i labels ++ z ∷ []) (sym is) in
    subst (AreRenamedLabels symbols (take (i + 1) labels)) (sym pushed)
    (subst (λ (s : List (List Literal)). AreRenamedLabels symbols s (old ++ renamed ∷ [])) (sym whole)
    (renamed_push symbols (take i labels) old label renamed before here))

pub symbols_there : (labels : List (List Literal)) (symbols : List ℕ) (i : ℕ) (label : List Literal) →
    AreSymbolsOf labels symbols → i < length labels → label ≡ get_or labels i label →
    All (λ l. Among symbols l.symbol) label
symbols_there labels symbols i label are lt is = All-from_among (λ l. Among symbols l.symbol) label (λ l h.
    (are.members l.symbol).1 (label, l, Among-get_or labels i label lt (sym is), h, refl))

pub renamed_even : (symbols : List ℕ) (ls rs : List (List Literal)) → AreRenamedLabels symbols ls rs →
    length rs ≡ length ls
renamed_even symbols [] [] all = refl
renamed_even symbols [] (y ∷ rs) all = absurd all
renamed_even symbols (x ∷ ls) [] all = absurd all
renamed_even symbols (x ∷ ls) (y ∷ rs) all = ap suc (renamed_even symbols ls rs all.1)

pub renamed_from : (symbols : List ℕ) (ls rs : List (List Literal)) → AreRenamedLabels symbols ls rs →
    (r : List Literal) → Among rs r → (l : List Literal) × IsRenamed symbols l r
renamed_from symbols [] [] all r h = absurd h
renamed_from symbols [] (y ∷ rs) all r h = absurd all
renamed_from symbols (x ∷ ls) [] all r h = absurd all
renamed_from symbols (x ∷ ls) (y ∷ rs) all r (inl e) = (x, subst (IsRenamed symbols x) e all.0)
renamed_from symbols (x ∷ ls) (y ∷ rs) all r (inr h) = renamed_from symbols ls rs all.1 r h

-- the steps with renamed labels, in the same rows
module _ (symbols : List ℕ) where
  each_renamed : (ls ns : List (List Literal)) (rows : List (List ℕ)) → AreRenamedLabels symbols ls ns →
      (step : Step) → Among (steps_in ls rows) step →
      (r : Step) × Among (steps_in ns rows) r × IsRenamed symbols step.label r.label × (r.to ≡ step.to)
  each_renamed [] [] rows all step h = absurd h
  each_renamed [] (n ∷ ns) rows all step h = absurd all
  each_renamed (l ∷ ls) [] rows all step h = absurd all
  each_renamed (l ∷ ls) (n ∷ ns) [] all step h = absurd h
  each_renamed (l ∷ ls) (n ∷ ns) (row ∷ rows) all step h =
      elim (Among-append (steps_to l row) (steps_in ls rows) step h) [
        | inl k ↦
            let (same, there) = Among-steps_to l row step k in (
              step_to n step.to,
              Among-left (steps_to n row) (steps_in ns rows) (step_to n step.to) (steps_to-Among n row step.to there),
              subst (λ (z : List Literal). IsRenamed symbols z n) (sym same) all.0,
              refl,
            )
        | inr k ↦
            let (r, there, is, to) = each_renamed ls ns rows all.1 step k in
            (r, Among-right (steps_to n row) (steps_in ns rows) r there, is, to)
      ]

  none_else : (ls ns : List (List Literal)) (rows : List (List ℕ)) → AreRenamedLabels symbols ls ns →
      (r : Step) → Among (steps_in ns rows) r →
      (step : Step) × Among (steps_in ls rows) step × IsRenamed symbols step.label r.label × (r.to ≡ step.to)
  none_else [] [] rows all r h = absurd h
  none_else [] (n ∷ ns) rows all r h = absurd all
  none_else (l ∷ ls) [] rows all r h = absurd all
  none_else (l ∷ ls) (n ∷ ns) [] all r h = absurd h
  none_else (l ∷ ls) (n ∷ ns) (row ∷ rows) all r h =
      elim (Among-append (steps_to n row) (steps_in ns rows) r h) [
        | inl k ↦
            let (same, there) = Among-steps_to n row r k in (
              step_to l r.to,
              Among-left (steps_to l row) (steps_in ls rows) (step_to l r.to) (steps_to-Among l row r.to there),
              subst (λ (z : List Literal). IsRenamed symbols l z) (sym same) all.0,
              refl,
            )
        | inr k ↦
            let (step, there, is, to) = none_else ls ns rows all.1 r k in
            (step, Among-right (steps_to l row) (steps_in ls rows) step there, is, to)
      ]

  pub all_renamed : (ls ns : List (List Literal)) (rows : List (List ℕ)) → AreRenamedLabels symbols ls ns →
      AreRenamed symbols (steps_in ls rows) (steps_in ns rows)
  all_renamed ls ns rows all = record { all = each_renamed ls ns rows all; only = none_else ls ns rows all }

-- ---- nothing gathered yet

pub gathered_none : (ls : List (List Literal)) (rs : List (List ℕ)) → ls ≡ [] → rs ≡ [] → IsGathered ls rs
gathered_none ls rs a b = subst (λ (s : List (List Literal)). IsGathered s rs) (sym a)
    (subst (IsGathered []) (sym b) (record { even = refl; rising = λ row h. absurd h; used = λ label h. absurd h }))

pub steps_of_none : (m : Machine ℕ) (ls : List (List Literal)) (rs : List (List ℕ)) → ls ≡ [] → rs ≡ [] →
    AreSteps m [] (steps_in ls rs)
steps_of_none m ls rs a b = subst (λ (s : List (List Literal)). AreSteps m [] (steps_in s rs)) (sym a)
    (subst (λ (s : List (List ℕ)). AreSteps m [] (steps_in [] s)) (sym b) (no_states m))
