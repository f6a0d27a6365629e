-- Edges gathered by what they have in common, in one cycle.
use Rattle.std.proofs.Common.{◌≡◌, ℕ, zero, suc, ◌+◌, ◌<◌, Bool, true, false, not, cond, List, [], ◌∷◌}
use Rattle.std.proofs.Common.{◌++◌, length, length-append, set, take, get_or, slice_get, Some, All, inl, inr, ◌⊎◌}
use Rattle.std.proofs.Common.{◌↔◌, refl, sym, ap, ◌∙◌, subst, arith}
use Rattle.std.specs.Bool.{Decides}
use Rattle.std.specs.List.{list_any}
use Rattle.std.proofs.lemmas.Bool.{cases_lt, and_parts}
use Rattle.std.proofs.lemmas.Bool.Decides.{nat_tests, Decides-eqb}
use Rattle.std.proofs.lemmas.List.{take_more, get_or-map}
use Rattle.std.proofs.lemmas.List.Elements.{All-push}
use Rattle.std.proofs.lemmas.Option.{slice_get_within, same_Some}
use Rattle.std.proofs.lemmas.Slice.Eq.{slice_eq-Decides}
use Rattle.indexmap.specs.IndexSet.{insert_key}
use Rattle.auto_core.specs.declared.labels.Literal.{Literal}
use Rattle.auto_core.specs.declared.tables.Edge.{Edge}
use Rattle.auto_core.specs.LiteralSets.{same_literal, same_label}
use Rattle.auto_core.specs.Machine.{Letter, Passes}
use Rattle.circuit_core.specs.declared.nodes.Net.{Net}
use Rattle.circuit_core.specs.Run.{Stream, Run, On}
use Rattle.sequence_circuits.specs.declared.edges.Way.{Way}
use Rattle.sequence_circuits.specs.Guards.{numbers}
use Rattle.sequence_circuits.specs.declared.states.State.{State}
use Rattle.sequence_circuits.specs.inner.Nets.{live_nets, stream_at}
use Rattle.sequence_circuits.specs.inner.Edges.{Among, way_of, same_way, Takes, Arrives, IsTaken, IsOneTaken}
use Rattle.sequence_circuits.proofs.Nets.{no_net, number_of, number_at, number_before, number_last, number_put}
use Rattle.sequence_circuits.proofs.Nets.{number_other, same_or_not, on_same, or_put, get_push}

-- ---- `==` of ways

abbrev literal : ℕ → Bool → Literal
literal s p = record { symbol = s; positive = p }

by_sign : (s : ℕ) (p : Bool) (t : ℕ) (q : Bool) → Decides (same_literal (literal s p) (literal t q))
    (literal s p ≡ literal t q)
by_sign s true t true = (
  λ h. let e : s ≡ t = grind (arith, nat_tests) in ap (λ (n : ℕ). literal n true) e,
  λ e. let f : s ≡ t = ap (λ (l : Literal). l.symbol) e in grind (arith, nat_tests),
)
by_sign s true t false =
    (λ h. grind (arith, nat_tests), λ e. let f : true ≡ false = ap (λ (l : Literal). l.positive) e in cc)
by_sign s false t true =
    (λ h. grind (arith, nat_tests), λ e. let f : false ≡ true = ap (λ (l : Literal). l.positive) e in cc)
by_sign s false t false = (
  λ h. let e : s ≡ t = grind (arith, nat_tests) in ap (λ (n : ℕ). literal n false) e,
  λ e. let f : s ≡ t = ap (λ (l : Literal). l.symbol) e in grind (arith, nat_tests),
)

same_literal-Decides : (a b : Literal) → Decides (same_literal a b) (a ≡ b)
same_literal-Decides a b = by_sign a.symbol a.positive b.symbol b.positive

same_label-Decides : (xs ys : List Literal) → Decides (same_label xs ys) (xs ≡ ys)
same_label-Decides xs ys = slice_eq-Decides same_literal-Decides xs ys (same_label xs ys) refl

-- two ways for which `==` answers true are one
pub same_ways : (a b : Way) → same_way a b ≡ true → a ≡ b
same_ways a b h =
    let parts = and_parts (same_label a.label b.label) _ h in
    let labels : a.label ≡ b.label = (same_label-Decides a.label b.label).0 parts.0 in
    let tos : a.to ≡ b.to = (Decides-eqb a.to b.to).0 parts.1 in
    λ i. record { label = labels i; to = tos i }

-- ---- a set of ways with one way more

pub put_new : (ways : List Way) (way : Way) (put : List Way) → put ≡ insert_key same_way ways way
    → list_any (same_way way) ways ≡ false → put ≡ ways ++ way ∷ []
put_new ways way put is absent = is ∙ ap (λ (b : Bool). cond b ways (ways ++ way ∷ [])) absent

pub put_known : (ways : List Way) (way : Way) (put : List Way) → put ≡ insert_key same_way ways way
    → list_any (same_way way) ways ≡ true → put ≡ ways
put_known ways way put is present = is ∙ ap (λ (b : Bool). cond b ways (ways ++ way ∷ [])) present

pub not_false : (b c : Bool) → c ≡ true → c ≡ not b → b ≡ false
not_false true c is same = absurd (let e : true ≡ false = sym is ∙ same in cc)
not_false false c is same = refl

pub not_true : (b c : Bool) → c ≡ false → c ≡ not b → b ≡ true
not_true true c is same = refl
not_true false c is same = absurd (let e : false ≡ true = sym is ∙ same in cc)

all_put : (P : Way → Type 0) (ways : List Way) (way : Way) (b : Bool) → All P ways → P way
    → All P (cond b ways (ways ++ way ∷ []))
all_put P ways way true all one = all
all_put P ways way false all one = All-push P ways way all one

pub all_put_in : (P : Way → Type 0) (ways : List Way) (way : Way) (put : List Way) → put ≡ insert_key same_way ways way
    → All P ways → P way → All P put
all_put_in P ways way put is all one =
    subst (All P) (sym is) (all_put P ways way (list_any (same_way way) ways) all one)

-- ---- what is taken

get_kept : {X : Type 0} (xs : List X) (x y : X) (s : ℕ) → slice_get xs s ≡ Some y → slice_get (xs ++ x ∷ []) s ≡ Some y
get_kept [] x y s h = absurd (cc)
get_kept (z ∷ xs) x y zero h = h
get_kept (z ∷ xs) x y (suc s) h = get_kept xs x y s h

get_end : {X : Type 0} (xs : List X) (x : X) → slice_get (xs ++ x ∷ []) (length xs) ≡ Some x
get_end [] x = refl
get_end (y ∷ xs) x = get_end xs x

-- one of these ways is taken, or one more
abbrev Both : Run → (n : ℕ) → List Way → List Net → Way → (live : ℕ) → Letter → (s : ℕ) → Type 0
Both run n ways sources way live a s =
    IsOneTaken (length ways) ways run (numbers sources) a s n ⊎ IsTaken way (run live) a s n

-- a way more, whose source is at the end
pub taken_push : (run : Run) (n : ℕ) (ways : List Way) (sources : List Net) (way : Way) (live : Net) (put : List Way)
    (new : List Net) (a : Letter) (s : ℕ) → length sources ≡ length ways → put ≡ ways ++ way ∷ []
    → new ≡ sources ++ live ∷ []
    → IsOneTaken (length put) put run (numbers new) a s n
    ↔ (IsOneTaken (length ways) ways run (numbers sources) a s n ⊎ IsTaken way (run live.0) a s n)
taken_push run n ways sources way live put new a s size is_put is_new =
    subst (λ (ws : List Way). IsOneTaken (length ws) ws run (numbers new) a s n ↔ Both run n ways sources way live.0 a
    s) (sym is_put)
    (subst (λ (ks : List Net). IsOneTaken (length (ways ++ way ∷ [])) (ways ++ way ∷ []) run (numbers ks) a s n ↔ Both
    run n ways sources way live.0 a s) (sym is_new)
    (forth, back))
  where
    forth : IsOneTaken (length (ways ++ way ∷ [])) (ways ++ way ∷ []) run (numbers (sources ++ live ∷ [])) a s n →
        Both run n ways sources way live.0 a s
    forth x =
        elim (get_push ways way x.2 x.0 x.3) [
          | inl old ↦ (let lt : x.0 < length ways = slice_get_within ways x.0 x.2 old in
              inl (
                x.0,
                lt,
                x.2,
                old,
                (
                  x.4.0,
                  on_same run n _ _
                      (number_before (λ (k : Net). k.0) sources x.0 live (omega (arith, size))) x.4.1,
                  x.4.2,
                ),
              ))
          | inr last ↦ inr (
            subst (λ (w : Way). w.to ≡ s) (sym last.1) x.4.0,
            on_same run n _ _
                (number_last (λ (k : Net). k.0) sources x.0 live (omega (arith, size, last.0))) x.4.1,
            subst (λ (w : Way). Passes w.label a) (sym last.1) x.4.2,
          )
        ]

    back : Both run n ways sources way live.0 a s
        → IsOneTaken (length (ways ++ way ∷ [])) (ways ++ way ∷ []) run (numbers (sources ++ live ∷ [])) a s n
    back (inl x) = (
      x.0,
      omega (arith, x.1, length-append ways (way ∷ [])),
      x.2,
      get_kept ways way x.2 x.0 x.3,
      (
        x.4.0,
        on_same run n _ _
            (sym (number_before (λ (k : Net). k.0) sources x.0 live (omega (arith, x.1, size)))) x.4.1,
        x.4.2,
      ),
    )
    back (inr x) = (
      length ways,
      omega (arith, length-append ways (way ∷ [])),
      way,
      get_end ways way,
      (
        x.0,
        on_same run n _ _
            (sym (number_last (λ (k : Net). k.0) sources (length ways) live (sym size))) x.1,
        x.2,
      ),
    )

-- a way that is there, whose source takes in one net more
pub taken_join : (run : Run) (n : ℕ) (ways : List Way) (sources : List Net) (way : Way) (live : ℕ) (put : List Way)
    (new : List Net) (place : ℕ) (was joined : Net) (a : Letter) (s : ℕ) → length sources ≡ length ways → put ≡ ways
    → new ≡ set sources place joined → place < length sources → was ≡ get_or sources place was
    → slice_get ways place ≡ Some way → On (run joined.0) n ↔ (On (run was.0) n ⊎ On (run live) n)
    → IsOneTaken (length put) put run (numbers new) a s n
    ↔ (IsOneTaken (length ways) ways run (numbers sources) a s n ⊎ IsTaken way (run live) a s n)
taken_join run n ways sources way live put new place was joined a s size is_put is_new lt at there joins =
    subst (λ (ws : List Way). IsOneTaken (length ws) ws run (numbers new) a s n ↔ Both run n ways sources way live a
    s) (sym is_put)
    (subst (λ (ks : List Net). IsOneTaken (length ways) ways run (numbers ks) a s n ↔ Both run n ways sources way live
    a s) (sym is_new)
    (forth, back))
  where
    old : get_or (numbers sources) place 0 ≡ was.0
    old = number_at (λ (k : Net). k.0) sources place was lt at

    now : get_or (numbers (set sources place joined)) place 0 ≡ joined.0
    now = number_put (λ (k : Net). k.0) sources place joined lt

    forth : IsOneTaken (length ways) ways run (numbers (set sources place joined)) a s n → Both run n ways sources way
        live a s
    forth x =
        elim (same_or_not x.0 place) [
          | inl here ↦ (let on : On (run joined.0) n = on_same run n _ _
              (ap (λ (t : ℕ). get_or (numbers (set sources place joined)) t 0) here ∙ now) x.4.1 in
              let same : x.2 ≡ way = same_Some x.2 way
              (sym x.3 ∙ ap (λ (t : ℕ). slice_get ways t) here ∙ there) in
              elim (joins.0 on) [
                | inl h ↦ inl (
                  x.0,
                  x.1,
                  x.2,
                  x.3,
                  (
                    x.4.0,
                    on_same run n _ _
                        (sym old ∙ ap (λ (t : ℕ). get_or (numbers sources) t 0) (sym here)) h,
                    x.4.2,
                  ),
                )
                | inr h ↦ inr (
                  subst (λ (w : Way). w.to ≡ s) same x.4.0,
                  h,
                  subst (λ (w : Way). Passes w.label a) same x.4.2,
                )
              ])
          | inr ne ↦ inl (
            x.0,
            x.1,
            x.2,
            x.3,
            (
              x.4.0,
              on_same run n _ _
                  (number_other (λ (k : Net). k.0) sources place x.0 joined ne) x.4.1,
              x.4.2,
            ),
          )
        ]

    back : Both run n ways sources way live a s → IsOneTaken (length ways) ways run
        (numbers (set sources place joined)) a s n
    back (inl x) =
        elim (same_or_not x.0 place) [
          | inl here ↦ (
            x.0,
            x.1,
            x.2,
            x.3,
            (
              x.4.0,
              on_same run n _ _
                  (sym now ∙ ap (λ (t : ℕ). get_or (numbers (set sources place joined)) t 0) (sym here))
                  (joins.1 (inl (on_same run n _ _ (ap (λ (t : ℕ). get_or (numbers sources) t 0) here ∙ old) x.4.1))),
              x.4.2,
            ),
          )
          | inr ne ↦ (
            x.0,
            x.1,
            x.2,
            x.3,
            (
              x.4.0,
              on_same run n _ _
                  (sym (number_other (λ (k : Net). k.0) sources place x.0 joined ne)) x.4.1,
              x.4.2,
            ),
          )
        ]
    back (inr x) = (
      place,
      omega (arith, lt, size),
      way,
      there,
      (x.0, on_same run n _ _ (sym now) (joins.1 (inr x.1)), x.2),
    )

-- ---- edges

among_append : {X : Type 0} (xs ys : List X) (x : X) → Among (xs ++ ys) x → Among xs x ⊎ Among ys x
among_append [] ys x h = inr h
among_append (y ∷ xs) ys x (inl e) = inl (inl e)
among_append (y ∷ xs) ys x (inr h) = elim (among_append xs ys x h) [ inl f ↦ inl (inr f) | inr f ↦ inr f ]

among_left : {X : Type 0} (xs ys : List X) (x : X) → Among xs x → Among (xs ++ ys) x
among_left [] ys x h = absurd h
among_left (y ∷ xs) ys x (inl e) = inl e
among_left (y ∷ xs) ys x (inr h) = inr (among_left xs ys x h)

among_right : {X : Type 0} (xs ys : List X) (x : X) → Among ys x → Among (xs ++ ys) x
among_right [] ys x h = h
among_right (y ∷ xs) ys x h = inr (among_right xs ys x h)

-- an edge more
pub edges_more : (edges : List Edge) (i : ℕ) (e : Edge) (live : ℕ → Stream) (letter : Letter) (s n : ℕ)
    (before now : Type 0) → i < length edges → e ≡ get_or edges i e
    → before ↔ Arrives (take i edges) live letter s n → now ↔ (before ⊎ Takes live letter s n e)
    → now ↔ Arrives (take (i + 1) edges) live letter s n
edges_more edges i e live letter s n before now lt is befores nows =
    let more : take (i + 1) edges ≡ take i edges ++ e ∷ [] =
    take_more edges i e lt ∙ ap (λ (f : Edge). take i edges ++ f ∷ []) (sym is) in (
      (λ h. elim (nows.0 h) [
        | inl b ↦ (let x = befores.0 b in (
          x.0,
          subst (λ (es : List Edge). Among es x.0) (sym more) (among_left (take i edges) (e ∷ []) x.0 x.1),
          x.2,
        ))
        | inr t ↦ (
          e,
          subst (λ (es : List Edge). Among es e) (sym more)
              (among_right (take i edges) (e ∷ []) e (inl refl)),
          t,
        )
      ]),
      (λ x. elim (among_append (take i edges) (e ∷ []) x.0 (subst (λ (es : List Edge). Among es x.0) more x.1)) [
        | inl old ↦ nows.1 (inl (befores.1 (x.0, old, x.2)))
        | inr new ↦ elim new
            [ inl same ↦ nows.1 (inr (subst (Takes live letter s n) (sym same) x.2)) | inr none ↦ absurd none ]
      ]),
    )

-- a way before place i + 1 is one before place i, or the one at place i
pub ways_more : (run : Run) (n : ℕ) (ways : List Way) (i : ℕ) (way : Way) (sources : List Net) (a : Letter) (s : ℕ)
    (first before now : Type 0) → slice_get ways i ≡ Some way
    → before ↔ (first ⊎ IsOneTaken i ways run (numbers sources) a s n)
    → now ↔ (before ⊎ IsTaken way (run (get_or sources i no_net).0) a s n)
    → now ↔ (first ⊎ IsOneTaken (i + 1) ways run (numbers sources) a s n)
ways_more run n ways i way sources a s first before now at befores nows = (
  (λ h. elim (nows.0 h) [
    | inl b ↦ elim (befores.0 b) [ inl f ↦ inl f | inr x ↦ inr (x.0, omega (arith, x.1), x.2, x.3, x.4) ]
    | inr t ↦ inr (i, omega arith, way, at, (t.0, on_same run n _ _ (number_of sources i) t.1, t.2))
  ]),
  (λ h. elim h [
    | inl f ↦ nows.1 (inl (befores.1 (inl f)))
    | inr x ↦ elim (cases_lt x.0 i) [
      | inl lt ↦ nows.1 (inl (befores.1 (inr (x.0, lt, x.2, x.3, x.4))))
      | inr ge ↦ (let here : x.0 ≡ i = omega (arith, x.1, ge) in
          let same : x.2 ≡ way = same_Some x.2 way (sym x.3 ∙ ap (λ (t : ℕ). slice_get ways t) here ∙ at) in
          nows.1 (inr (
            subst (λ (w : Way). w.to ≡ s) same x.4.0,
            on_same run n _ _ (ap (λ (t : ℕ). get_or (numbers sources) t 0) here ∙ sym (number_of sources i)) x.4.1,
            subst (λ (w : Way). Passes w.label a) same x.4.2,
          )))
    ]
  ]),
)

-- ---- edges gathered one after the other

pub none_taken : (run : Run) (n : ℕ) (ways : List Way) (sources : List ℕ) (edges : List Edge) (live : ℕ → Stream)
    (a : Letter) (s : ℕ) → ways ≡ []
    → IsOneTaken (length ways) ways run sources a s n ↔ Arrives (take 0 edges) live a s n
none_taken run n ways sources edges live a s none =
    let size : length ways ≡ 0 = ap (λ (ws : List Way). length ws) none in
    ((λ x. absurd (omega (arith, x.1, size))), (λ x. absurd x.1))

taken_edge : (run : Run) (n : ℕ) (states : List State) (e : Edge) (way : Way) (d : State) (a : Letter) (s : ℕ)
    → way ≡ way_of e → e.from < length states → IsTaken way (run (get_or states e.from d).live.0) a s n
    ↔ Takes (stream_at run (live_nets states)) a s n e
taken_edge run n states e way d a s is lt =
    let same : get_or (live_nets states) e.from 0 ≡ (get_or states e.from d).live.0 =
    get_or-map (λ (h : State). h.live.0) states e.from d 0 lt in
    subst (λ (w : Way). IsTaken w (run (get_or states e.from d).live.0) a s n
    ↔ Takes (stream_at run (live_nets states)) a s n e) (sym is)
    ((λ t. (t.0, on_same run n _ _ (sym same) t.1, t.2)), (λ t. (t.0, on_same run n _ _ same t.1, t.2)))

pub gather_more : (run : Run) (n : ℕ) (edges : List Edge) (i : ℕ) (e : Edge) (states : List State) (way : Way)
    (d : State) (a : Letter) (s : ℕ) (before now : Type 0) → i < length edges → e ≡ get_or edges i e → way ≡ way_of e
    → e.from < length states → before ↔ Arrives (take i edges) (stream_at run (live_nets states)) a s n
    → now ↔ (before ⊎ IsTaken way (run (get_or states e.from d).live.0) a s n)
    → now ↔ Arrives (take (i + 1) edges) (stream_at run (live_nets states)) a s n
gather_more run n edges i e states way d a s before now lt at is inside befores nows =
    let t = taken_edge run n states e way d a s is inside in
    edges_more edges i e (stream_at run (live_nets states)) a s n before now lt at befores (
      (λ h. elim (nows.0 h) [ inl b ↦ inl b | inr y ↦ inr (t.0 y) ]),
      (λ h. nows.1 (elim h [ inl b ↦ inl b | inr y ↦ inr (t.1 y) ])),
    )

-- ---- ways taken one after the other

pub way_put : (run : Run) (n : ℕ) (arrivals : List Net) (way : Way) (source : ℕ) (was : Net) (taken : ℕ) (joined : Net)
    (a : Letter) → way.to < length arrivals → was ≡ get_or arrivals way.to was
    → On (run joined.0) n ↔ (On (run was.0) n ⊎ On (run taken) n)
    → On (run taken) n ↔ (On (run source) n × Passes way.label a) → (s : ℕ)
    → On (stream_at run (numbers (set arrivals way.to joined)) s) n
    ↔ (On (stream_at run (numbers arrivals) s) n ⊎ IsTaken way (run source) a s n)
way_put run n arrivals way source was taken joined a lt at joins takes s =
    let o = or_put run n arrivals way.to was taken joined lt at joins s in (
      (λ on. elim (o.0 on) [ inl x ↦ inl x | inr x ↦ (let t = takes.0 x.1 in inr (x.0, t.0, t.1)) ]),
      (λ h. o.1 (elim h [ inl x ↦ inl x | inr x ↦ inr (x.0, takes.1 (x.1, x.2)) ])),
    )

pub all_arrived : (run : Run) (n : ℕ) (ways keys : List Way) (sources sources1 : List Net) (a : Letter) (s : ℕ)
    (first now arrived : Type 0) → ways ≡ keys → sources1 ≡ sources → ¬ first
    → now ↔ (first ⊎ IsOneTaken (length ways) ways run (numbers sources1) a s n)
    → IsOneTaken (length keys) keys run (numbers sources) a s n ↔ arrived → now ↔ arrived
all_arrived run n ways keys sources sources1 a s first now arrived is same none nows gathered =
    let all : now ↔ (first ⊎ IsOneTaken (length keys) keys run (numbers sources) a s n) =
    subst (λ (ws : List Way). now ↔ (first ⊎ IsOneTaken (length ws) ws run (numbers sources) a s n)) is
    (subst (λ (ks : List Net). now ↔ (first ⊎ IsOneTaken (length ways) ways run (numbers ks) a s n)) same nows) in (
      (λ h. elim (all.0 h) [ inl f ↦ absurd (none f) | inr t ↦ gathered.0 t ]),
      (λ h. all.1 (inr (gathered.1 h))),
    )
