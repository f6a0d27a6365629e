-- How marks spread from the accepting states against the edges.
use Rattle.std.proofs.Common.{◌≡◌, ◌≢◌, ℕ, zero, suc, ◌+◌, ◌<◌, Bool, true, false, not, cond, eqb, IsTrue, List, []}
use Rattle.std.proofs.Common.{◌∷◌, ◌++◌, length, set, filter, take, get_or, count_by, None, replicate, inl, inr}
use Rattle.std.proofs.Common.{◌⊎◌, ◌↔◌, refl, sym, ap, ◌∙◌, subst, arith, All}
use Rattle.std.proofs.lemmas.Bool.Decides.{Decides-eqb}
use Rattle.std.proofs.lemmas.List.{get_or-set_same, get_or-set_other, length-set, take_more}
use Rattle.std.proofs.lemmas.List.Sums.{sum_by-cons}
use Rattle.auto_core.specs.declared.labels.Literal.{Literal}
use Rattle.auto_core.specs.declared.tables.Edge.{Edge}
use Rattle.auto_core.specs.Machine.{AcceptsFrom}
use Rattle.auto_core.specs.Graph.{Graph, graph_machine, edges_from, IsAlive}
use Rattle.auto_core.specs.inner.Searching.{IsMarked, HasSources, Spreads, IsSearch}
use Rattle.auto_core.proofs.Members.{Among, Contains-from_Among, Among-from_Contains}
use Rattle.auto_core.proofs.Once.{told, true-false, Among-append, Among-left, Among-right, Among-filter}
use Rattle.auto_core.proofs.Once.{Among-filter_back}
use Rattle.auto_core.proofs.Steps.{Among-map, map-Among, All-among, All-from_among}

same_or_not : (n k : ℕ) → (n ≡ k) ⊎ (n ≢ k)
same_or_not n k =
    elim (told (eqb n k))
    [ inl e ↦ inl ((Decides-eqb n k).0 e) | inr e ↦ inr (λ f. true-false (sym ((Decides-eqb n k).1 f) ∙ e)) ]

-- ---- one mark

count-set_cell : (xs : List Bool) → count_by not (true ∷ xs) ≡ 0 + count_by not xs
count-set_cell xs = sum_by-cons (λ b. cond (not b) 1 0) true xs

count-clear_cell : (xs : List Bool) → count_by not (false ∷ xs) ≡ 1 + count_by not xs
count-clear_cell xs = sum_by-cons (λ b. cond (not b) 1 0) false xs

count_set : (xs : List Bool) (i : ℕ) → i < length xs → get_or xs i false ≡ false →
    count_by not (set xs i true) + 1 ≡ count_by not xs
count_set [] i lt off = absurd (omega arith)
count_set (true ∷ xs) zero lt off = absurd (true-false off)
count_set (false ∷ xs) zero lt off = omega (arith, count-set_cell xs, count-clear_cell xs)
count_set (true ∷ xs) (suc i) lt off =
    omega (arith, count_set xs i (omega arith) off, count-set_cell (set xs i true), count-set_cell xs)
count_set (false ∷ xs) (suc i) lt off =
    omega (arith, count_set xs i (omega arith) off, count-clear_cell (set xs i true), count-clear_cell xs)

marked_more : (marked : List Bool) (state n : ℕ) → state < length marked → IsMarked marked n →
    IsMarked (set marked state true) n
marked_more marked state n lt h = elim (same_or_not n state) [
  | inl e ↦ ap (λ (k : ℕ). get_or (set marked state true) k false) e ∙ get_or-set_same marked state true false lt
  | inr ne ↦ get_or-set_other marked state n true false ne ∙ h
]

pub spread_new : (marked : List Bool) (work : List ℕ) (state : ℕ) → state < length marked →
    get_or marked state false ≡ false → Spreads (state ∷ []) marked work (set marked state true) (work ++ state ∷ [])
spread_new marked work state lt off = record {
  size = length-set marked state true;
  kept = λ n h. marked_more marked state n lt h;
  all = λ n h. elim h [
    | inl e ↦ ap (λ (k : ℕ). get_or (set marked state true) k false) (sym e)
        ∙ get_or-set_same marked state true false lt
    | inr f ↦ absurd f
  ];
  only = λ n h. elim (same_or_not n state) [
    | inl e ↦ inr (inl (sym e))
    | inr ne ↦ inl (sym (get_or-set_other marked state n true false ne) ∙ h)
  ];
  left = λ n h. Among-left work (state ∷ []) n h;
  added = λ n h. Among-append work (state ∷ []) n h;
  pending = λ n h. elim (same_or_not n state) [
    | inl e ↦ inr (Among-right work (state ∷ []) n (inl (sym e)))
    | inr ne ↦ inl (sym (get_or-set_other marked state n true false ne) ∙ h)
  ];
  count = (let c = count_set marked state lt off in let l = one_longer work state in omega arith);
}
  where
    one_longer : (xs : List ℕ) (x : ℕ) → length (xs ++ x ∷ []) ≡ length xs + 1
    one_longer [] x = refl
    one_longer (y ∷ xs) x = let r = one_longer xs x in omega arith

-- ---- marks one after the other

pub spread_then : (states : List ℕ) (state : ℕ) (m0 : List Bool) (w0 : List ℕ) (m1 : List Bool) (w1 : List ℕ)
    (m2 : List Bool) (w2 : List ℕ)
    → Spreads states m0 w0 m1 w1 → Spreads (state ∷ []) m1 w1 m2 w2 → Spreads (states ++ state ∷ []) m0 w0 m2 w2
spread_then states state m0 w0 m1 w1 m2 w2 before after = record {
  size = after.size ∙ before.size;
  kept = λ n h. after.kept n (before.kept n h);
  all = λ n h. elim (Among-append states (state ∷ []) n h)
      [ inl f ↦ after.kept n (before.all n f) | inr f ↦ after.all n f ];
  only = λ n h. elim (after.only n h) [
    | inl f ↦ elim (before.only n f) [ inl g ↦ inl g | inr g ↦ inr (Among-left states (state ∷ []) n g) ]
    | inr f ↦ inr (Among-right states (state ∷ []) n f)
  ];
  left = λ n h. after.left n (before.left n h);
  added = λ n h. elim (after.added n h) [
    | inl f ↦ elim (before.added n f) [ inl g ↦ inl g | inr g ↦ inr (Among-left states (state ∷ []) n g) ]
    | inr f ↦ inr (Among-right states (state ∷ []) n f)
  ];
  pending = λ n h. elim (after.pending n h) [
    | inl f ↦ elim (before.pending n f) [ inl g ↦ inl g | inr g ↦ inr (after.left n g) ]
    | inr f ↦ inr f
  ];
  count = after.count ∙ before.count;
}

pub spread_more : (states : List ℕ) (i : ℕ) (d : ℕ) (m0 : List Bool) (w0 : List ℕ) (m1 : List Bool) (w1 : List ℕ)
    (m2 : List Bool) (w2 : List ℕ) → i < length states
    → Spreads (take i states) m0 w0 m1 w1 → Spreads (get_or states i d ∷ []) m1 w1 m2 w2 →
    Spreads (take (i + 1) states) m0 w0 m2 w2
spread_more states i d m0 w0 m1 w1 m2 w2 lt before after =
    subst (λ (s : List ℕ). Spreads s m0 w0 m2 w2) (sym (take_more states i d lt))
    (spread_then (take i states) (get_or states i d) m0 w0 m1 w1 m2 w2 before after)

-- ---- the sources

pub source_put : (edges : List Edge) (rows : List (List ℕ)) (edge : Edge) (rows' : List (List ℕ)) →
    HasSources edges rows → edge.to < length rows
    → rows' ≡ set rows edge.to (get_or rows edge.to [] ++ edge.from ∷ []) → HasSources (edges ++ edge ∷ []) rows'
source_put edges rows edge rows' has lt same = subst (HasSources (edges ++ edge ∷ [])) (sym same) (record {
  all = λ e h below. elim (Among-append edges (edge ∷ []) e h) [
    | inl f ↦ (let r = has.all e f (let l = length-set rows edge.to (get_or rows edge.to [] ++ edge.from ∷ []) in
        omega arith) in elim (same_or_not e.to edge.to) [
          | inl to ↦ subst (λ (s : List ℕ). Among s e.from) (sym (here e.to to))
              (Among-left (get_or rows edge.to []) (edge.from ∷ []) e.from
              (subst (λ (k : ℕ). Among (get_or rows k []) e.from) to r))
          | inr ne ↦ subst (λ (s : List ℕ). Among s e.from)
              (sym (get_or-set_other rows edge.to e.to (get_or rows edge.to [] ++ edge.from ∷ []) [] ne)) r
        ])
    | inr f ↦ elim f [
      | inl g ↦ subst (λ (s : List ℕ). Among s e.from) (sym (here e.to (ap (λ (x : Edge). x.to) (sym g))))
          (Among-right (get_or rows edge.to []) (edge.from ∷ []) e.from (inl (ap (λ (x : Edge). x.from) g)))
      | inr g ↦ absurd g
    ]
  ];
  only = λ n p h. elim (same_or_not n edge.to) [
    | inl to ↦ elim (Among-append (get_or rows edge.to []) (edge.from ∷ []) p
        (subst (λ (s : List ℕ). Among s p) (here n to) h)) [
          | inl f ↦ (let (e, there, from, leads) = has.only edge.to p f in
              (e, Among-left edges (edge ∷ []) e there, from, leads ∙ sym to))
          | inr f ↦ elim f [
            | inl g ↦ (edge, Among-right edges (edge ∷ []) edge (inl refl), g, sym to)
            | inr g ↦ absurd g
          ]
        ]
    | inr ne ↦ (let (e, there, from, leads) =
        has.only n p (subst (λ (s : List ℕ). Among s p)
        (get_or-set_other rows edge.to n (get_or rows edge.to [] ++ edge.from ∷ []) [] ne) h) in
        (e, Among-left edges (edge ∷ []) e there, from, leads))
  ];
})
  where
    here : (n : ℕ) → n ≡ edge.to → get_or (set rows edge.to (get_or rows edge.to [] ++ edge.from ∷ [])) n [] ≡
        get_or rows edge.to [] ++ edge.from ∷ []
    here n to = ap (λ (k : ℕ). get_or (set rows edge.to (get_or rows edge.to [] ++ edge.from ∷ [])) k []) to
        ∙ get_or-set_same rows edge.to (get_or rows edge.to [] ++ edge.from ∷ []) [] lt

pub source_more : (edges : List Edge) (i : ℕ) (edge : Edge) (rows rows' : List (List ℕ)) → i < length edges →
    edge ≡ get_or edges i edge → HasSources (take i edges) rows → edge.to < length rows
    → rows' ≡ set rows edge.to (get_or rows edge.to [] ++ edge.from ∷ []) → HasSources (take (i + 1) edges) rows'
source_more edges i edge rows rows' lt is has below same =
    subst (λ (s : List Edge). HasSources s rows') (ap (λ (e : Edge). take i edges ++ e ∷ []) is
    ∙ sym (take_more edges i edge lt)) (source_put (take i edges) rows edge rows' has below same)

-- ---- marks that are right

-- a state before an alive one is alive
alive_before : (g : Graph) (edge : Edge) (n p : ℕ) → Among g.edges edge → edge.from ≡ p → edge.to ≡ n →
    IsAlive (graph_machine g) n → IsAlive (graph_machine g) p
alive_before g edge n p there from to (k, accepted) = (
  suc k,
  (
    edge.label,
    edge.to,
    Contains-from_Among (edges_from p g.edges) (edge.label, edge.to)
        (Among-map (λ (e : Edge). (e.label, e.to)) (filter (λ e. eqb e.from p) g.edges) edge
        (Among-filter_back (λ (e : Edge). eqb e.from p) g.edges edge there ((Decides-eqb edge.from p).1 from))),
    tt,
    subst (λ (i : ℕ). AcceptsFrom (graph_machine g) i (replicate k None)) (sym to) accepted,
  ),
)

pub spread_step : (g : Graph) (rows : List (List ℕ)) (state : ℕ) (row : List ℕ) (marked : List Bool)
    (work0 work : List ℕ) (marked' : List Bool) (work' : List ℕ)
    → HasSources g.edges rows → length rows ≡ length g.accepting → row ≡ get_or rows state [] →
    All (λ e. e.from < length g.accepting × e.to < length g.accepting) g.edges
    → IsSearch g marked work0 → work0 ≡ work ++ state ∷ [] → Spreads row marked work marked' work' →
    IsSearch g marked' work'
spread_step g rows state row marked work0 work marked' work' sources size is between search popped spread = record {
  size = spread.size ∙ search.size;
  inside = λ n h. elim (spread.added n h) [
    | inl f ↦ (let l = search.inside n (old n f) in omega (arith, spread.size))
    | inr f ↦ (let (e, there, from, leads) = source n f in let l =
        (All-among (λ e. e.from < length g.accepting × e.to < length g.accepting) g.edges e between there).0 in
        omega (arith, spread.size, search.size, from))
  ];
  known = λ n h. elim (spread.added n h) [ inl f ↦ spread.kept n (search.known n (old n f)) | inr f ↦ spread.all n f ];
  sound = λ n h. elim (spread.only n h) [
    | inl f ↦ search.sound n f
    | inr f ↦ (let (e, there, from, leads) = source n f in alive_before g e state n there from leads
        (search.sound state (search.known state top)))
  ];
  accepting = λ n h. spread.kept n (search.accepting n h);
  pending = λ n h. elim (spread.pending n h) [
    | inl f ↦ elim (search.pending n f) [
      | inl k ↦ elim (Among-append work (state ∷ []) n (subst (λ (s : List ℕ). Among s n) popped k)) [
        | inl i ↦ inl (spread.left n i)
        | inr i ↦ elim i [
          | inl here ↦ inr (λ e there to. spread.all e.from (subst (λ (s : List ℕ). Among s e.from) (sym is)
              (subst (λ (j : ℕ). Among (get_or rows j []) e.from) (to ∙ sym here)
              (sources.all e there
              (let l = (All-among (λ e. e.from < length g.accepting × e.to < length g.accepting) g.edges e
              between there).1 in omega (arith, size))))))
          | inr out ↦ absurd out
        ]
      ]
      | inr closed ↦ inr (λ e there to. spread.kept e.from (closed e there to))
    ]
    | inr f ↦ inl f
  ];
}
  where
    old : (n : ℕ) → Among work n → Among work0 n
    old n h = subst (λ (s : List ℕ). Among s n) (sym popped) (Among-left work (state ∷ []) n h)

    top : Among work0 state
    top = subst (λ (s : List ℕ). Among s state) (sym popped) (Among-right work (state ∷ []) state (inl refl))

    source : (n : ℕ) → Among row n → (edge : Edge) × Among g.edges edge × (edge.from ≡ n) × (edge.to ≡ state)
    source n h = sources.only state n (subst (λ (s : List ℕ). Among s n) is h)

-- the state that is taken, and the states before it, have marks
pub state_inside : (g : Graph) (marked : List Bool) (work0 work : List ℕ) (state : ℕ) → IsSearch g marked work0 →
    work0 ≡ work ++ state ∷ [] → state < length g.accepting
state_inside g marked work0 work state search popped =
    let l = search.inside state
    (subst (λ (s : List ℕ). Among s state) (sym popped) (Among-right work (state ∷ []) state (inl refl))) in
    omega (arith, search.size)

pub row_inside : (g : Graph) (rows : List (List ℕ)) (state : ℕ) (row : List ℕ) (marked : List Bool) →
    HasSources g.edges rows → row ≡ get_or rows state []
    → All (λ e. e.from < length g.accepting × e.to < length g.accepting) g.edges →
    length marked ≡ length g.accepting → All (λ n. n < length marked) row
row_inside g rows state row marked sources is between size = All-from_among (λ n. n < length marked) row (λ n h.
    let (e, there, from, leads) = sources.only state n (subst (λ (s : List ℕ). Among s n) is h) in
    let l = (All-among (λ e. e.from < length g.accepting × e.to < length g.accepting) g.edges e between there).0 in
    omega (arith, from, size))

-- when no work is left, exactly the alive states are marked
pub marked_alive : (g : Graph) (marked : List Bool) → IsSearch g marked [] →
    (n : ℕ) → IsTrue (get_or marked n false) ↔ IsAlive (graph_machine g) n
marked_alive g marked search n = (search.sound n, λ h. back h.0 n h.1)
  where
    back : (k : ℕ) (n : ℕ) → AcceptsFrom (graph_machine g) n (replicate k None) → IsMarked marked n
    back zero n h = search.accepting n h
    back (suc k) n (label, next, edge, passes, rest) =
        let (e, filtered, parts) = map-Among (λ (e : Edge). (e.label, e.to)) (filter (λ e. eqb e.from n) g.edges)
        (label, next) (Among-from_Contains (edges_from n g.edges) (label, next) edge) in
        let kept = Among-filter (λ (e : Edge). eqb e.from n) g.edges e filtered in
        let from : e.from ≡ n = (Decides-eqb e.from n).0 kept.1 in
        elim (search.pending next (back k next rest)) [
          | inl f ↦ absurd f
          | inr closed ↦ subst (IsMarked marked) from (closed e kept.0 (ap (λ (p : List Literal × ℕ). p.1) parts))
        ]

-- ---- the first marks

pub begun_more : (accepting : List Bool) (i : ℕ) (marked : List Bool) (work : List ℕ) (b : Bool)
    (marked' : List Bool) (work' : List ℕ) → i < length accepting → b ≡ get_or accepting i false
    → marked ≡ take i accepting → ((n : ℕ) → IsMarked marked n → Among work n) →
    ((n : ℕ) → Among work n → (n < i) × IsMarked marked n)
    → marked' ≡ marked ++ b ∷ [] → work' ≡ work ++ cond b (i ∷ []) []
    → (marked' ≡ take (i + 1) accepting) × ((n : ℕ) → IsMarked marked' n → Among work' n) ×
    ((n : ℕ) → Among work' n → (n < i + 1) × IsMarked marked' n)
begun_more accepting i marked work b marked' work' lt is so_far works known mark then = (
  mark ∙ ap (λ (s : List Bool). s ++ b ∷ []) so_far ∙ ap (λ (c : Bool). take i accepting ++ c ∷ []) is
      ∙ sym (take_more accepting i false lt),
  (λ n h. subst (λ (s : List ℕ). Among s n) (sym then) (worked n (subst (λ (s : List Bool). IsMarked s n) mark h))),
  (λ n h. known_more n (subst (λ (s : List ℕ). Among s n) then h)),
)
  where
    long : length marked ≡ i
    long = ap (λ (s : List Bool). length s) so_far ∙ length_take i accepting lt
      where
        length_take : (i : ℕ) (xs : List Bool) → i < length xs → length (take i xs) ≡ i
        length_take zero [] l = refl
        length_take zero (x ∷ xs) l = refl
        length_take (suc i) [] l = absurd (omega arith)
        length_take (suc i) (x ∷ xs) l = ap suc (length_take i xs (omega arith))

    in_front : (xs : List Bool) (x : Bool) (n : ℕ) → n < length xs → get_or (xs ++ x ∷ []) n false ≡ get_or xs n false
    in_front [] x n l = absurd (omega arith)
    in_front (y ∷ xs) x zero l = refl
    in_front (y ∷ xs) x (suc n) l = in_front xs x n (omega arith)

    at_end : (xs : List Bool) (x : Bool) → get_or (xs ++ x ∷ []) (length xs) false ≡ x
    at_end [] x = refl
    at_end (y ∷ xs) x = at_end xs x

    past_end : (xs : List Bool) (x : Bool) (n : ℕ) → length xs < n → get_or (xs ++ x ∷ []) n false ≡ false
    past_end [] x zero l = absurd (omega arith)
    past_end [] x (suc n) l = refl
    past_end (y ∷ xs) x zero l = absurd (omega arith)
    past_end (y ∷ xs) x (suc n) l = past_end xs x n (omega arith)

    placed : (n k : ℕ) → (n < k) ⊎ ((n ≡ k) ⊎ (k < n))
    placed n k = elim (same_or_not n k) [ inl e ↦ inr (inl e) | inr ne ↦ compare n k ne ]
      where
        compare : (n k : ℕ) → n ≢ k → (n < k) ⊎ ((n ≡ k) ⊎ (k < n))
        compare zero zero ne = absurd (ne refl)
        compare zero (suc k) ne = inl (omega arith)
        compare (suc n) zero ne = inr (inr (omega arith))
        compare (suc n) (suc k) ne = elim (compare n k (λ e. ne (ap suc e))) [
          | inl l ↦ inl (omega arith)
          | inr two ↦ elim two [ inl e ↦ inr (inl (ap suc e)) | inr l ↦ inr (inr (omega arith)) ]
        ]

    worked : (n : ℕ) → IsMarked (marked ++ b ∷ []) n → Among (work ++ cond b (i ∷ []) []) n
    worked n h = elim (placed n (length marked)) [
      | inl l ↦ Among-left work (cond b (i ∷ []) []) n (works n (sym (in_front marked b n l) ∙ h))
      | inr two ↦ elim two [
        | inl e ↦ (let on : b ≡ true = sym (at_end marked b) ∙ ap (λ (k : ℕ). get_or (marked ++ b ∷ []) k false)
            (sym e) ∙ h in
            Among-right work (cond b (i ∷ []) []) n
            (subst (λ (c : Bool). Among (cond c (i ∷ []) []) n) (sym on) (inl (sym long ∙ sym e))))
        | inr l ↦ absurd (true-false (sym h ∙ past_end marked b n l))
      ]
    ]

    known_more : (n : ℕ) → Among (work ++ cond b (i ∷ []) []) n → (n < i + 1) × IsMarked marked' n
    known_more n h = elim (Among-append work (cond b (i ∷ []) []) n h) [
      | inl f ↦ (let (l, k) = known n f in (
        omega arith,
        ap (λ (s : List Bool). get_or s n false) mark ∙ in_front marked b n (omega (arith, l, long))
            ∙ k,
      ))
      | inr f ↦ elim (told b) [
        | inl on ↦ elim (subst (λ (c : Bool). Among (cond c (i ∷ []) []) n) on f) [
          | inl e ↦ (
            omega (arith, e),
            ap (λ (s : List Bool). get_or s n false) mark
                ∙ ap (λ (k : ℕ). get_or (marked ++ b ∷ []) k false) (sym e ∙ sym long) ∙ at_end marked b ∙ on,
          )
          | inr g ↦ absurd g
        ]
        | inr off ↦ absurd (subst (λ (c : Bool). Among (cond c (i ∷ []) []) n) off f)
      ]
    ]
