-- A walk through the changes that finds the edges.
use Rattle.std.proofs.Common.{zero, suc, ◌≡◌, ◌≢◌, ℕ, ◌+◌, ◌<◌, ◌≤◌, ◌⊎◌, inl, inr, List, [], ◌∷◌, ◌++◌, Option, Some}
use Rattle.std.proofs.Common.{None, length, get_or, AllPairs, refl, sym, ◌∙◌, ap, subst, arith}
use Rattle.std.specs.Prelude.{slice_get, Contains}
use Rattle.std.proofs.lemmas.Bool.{cases_lt}
use Rattle.std.proofs.lemmas.List.{map-append}
use Rattle.std.proofs.lemmas.List.Quantifiers.{all_pairs_push}
use Rattle.std.proofs.lemmas.List.Elements.{Contains-push, Contains-push_cases, Contains-append_left, Contains-get_or}
use Rattle.std.proofs.lemmas.Option.{slice_get_within, slice_get-get_or}
use Rattle.vcd_reader.specs.declared.waveform.Change.{Change}
use Rattle.vcd_reader.specs.Sound.{AreInOrder}
use Rattle.vcd_replay.specs.declared.edges.Edge.{Edge}
use Rattle.vcd_replay.specs.Values.{Before, UpTo, HasDigits, extended}
use Rattle.vcd_replay.specs.Edges.{IsEdge}
use Rattle.vcd_replay.specs.inner.Walk.{Splits, IsLastIn, AreBits, IsDigit, IsNoted, HasEdges, times_of}
use Rattle.vcd_replay.proofs.Fronts.{none_in_front, last_in_front, one_value}

-- some change before the place is at the time
abbrev pub IsReached : List Change → (place t : ℕ) → Type 0
IsReached changes place t = (k : ℕ) × (change : Change) × (slice_get changes k ≡ Some change) × (k < place)
    × (change.time ≡ t)

-- `place` changes are taken, and `start` of them come before the group of equal times that is open
pub record IsWalked (changes : List Change) (clock place start before digit : ℕ) (edges : List Edge) : Type 0 where
  pub within : start ≤ place
  pub finished : length changes ≤ place → place ≤ start
  pub apart : (j k : ℕ) (earlier later : Change) → slice_get changes j ≡ Some earlier → slice_get changes k ≡ Some later
      → j < start → start ≤ k → earlier.time < later.time
  pub together : (j k : ℕ) (one other : Change) → slice_get changes j ≡ Some one → slice_get changes k ≡ Some other
      → start ≤ j → j ≤ place → start ≤ k → k ≤ place → one.time ≡ other.time
  pub before_is : IsDigit changes clock start before
  pub digit_is : IsDigit changes clock place digit
  pub rising : AllPairs (λ earlier later. earlier < later) (times_of edges)
  pub found : (t : ℕ) → Contains (times_of edges) t → IsEdge changes clock t × IsReached changes start t
  pub complete : (t : ℕ) → IsEdge changes clock t → IsReached changes start t → Contains (times_of edges) t
  pub fronts : (k : ℕ) (edge : Edge) → slice_get edges k ≡ Some edge → Splits changes (Before edge.time) edge.start
      × (edge.start ≤ length changes)

abbrev pub change_or : Change → Option Change → Change
change_or other None = other
change_or other (Some change) = change

pub same_change : (changes : List Change) (k : ℕ) (a b : Change) → slice_get changes k ≡ Some a → slice_get changes k
    ≡ Some b → a ≡ b
same_change changes k a b x y = let both : Some a ≡ Some b = sym x ∙ y in ap (change_or a) both

pub same_change_at : (changes : List Change) (j k : ℕ) (a b : Change) → j ≡ k → slice_get changes j ≡ Some a
    → slice_get changes k ≡ Some b → a ≡ b
same_change_at changes j k a b e x y = same_change changes k a b (ap (slice_get changes) (sym e) ∙ x) y

pub walk_begins : (changes : List Change) (clock : ℕ) → IsWalked changes clock 0 0 120 120 []
walk_begins changes clock = record {
  within = omega arith;
  finished = λ h. omega arith;
  apart = λ j k earlier later x y low high. absurd (omega arith);
  together = λ j k one other x y a b c d.
      ap (λ (z : Change). z.time) (same_change_at changes j k one other (omega arith) x y);
  before_is = inl (λ k change at low same. absurd (omega arith), refl);
  digit_is = inl (λ k change at low same. absurd (omega arith), refl);
  rising = λ i j d low high. absurd (omega arith);
  found = λ t h. absurd (omega (arith, h.1));
  complete = λ t edge h. absurd (omega (arith, h.3));
  fronts = λ k edge at. cc;
}

-- a number is another or is not
pub cases_same : (a b : ℕ) → (a ≡ b) ⊎ (a ≢ b)
cases_same a b = elim (cases_lt a b) [
  | inl low ↦ inr (λ e. omega arith)
  | inr high ↦ elim (cases_lt b a) [
    | inl low ↦ inr (λ e. omega arith)
    | inr above ↦ inl (omega arith)
  ]
]

-- a change of another code leaves the last one
pub last_stays : (changes : List Change) (code place : ℕ) (last : Option ℕ) (change : Change) → slice_get changes place
    ≡ Some change
    → change.code ≢ code → IsLastIn changes code place last → IsLastIn changes code (place + 1) last
last_stays changes code place None change here other h = λ k later at low same. elim (cases_lt k place) [
  | inl below ↦ h k later at below same
  | inr high ↦ other (ap (λ (z : Change). z.code) (same_change_at changes place k change later (omega arith) here at)
      ∙ same)
]
last_stays changes code place (Some p) change here other h = (
  h.0,
  h.1,
  omega (arith, h.2),
  h.3,
  λ k later at above low same. elim (cases_lt k place) [
    | inl below ↦ h.4 k later at above below same
    | inr high ↦ other (ap (λ (z : Change). z.code) (same_change_at changes place k change later (omega arith) here at)
        ∙ same)
  ],
)

-- a change of the code is its last one
pub last_comes : (changes : List Change) (code place : ℕ) (change : Change) → slice_get changes place ≡ Some change
    → change.code ≡ code → IsLastIn changes code (place + 1) (Some place)
last_comes changes code place change here same =
    (change, here, omega arith, same, λ k later at above low again. absurd (omega arith))

one_digit : (digits : List ℕ) → length digits ≡ 1 → digits ≡ get_or digits 0 0 ∷ []
one_digit [] h = absurd (omega arith)
one_digit (d ∷ []) h = refl
one_digit (d ∷ e ∷ ds) h = absurd (omega arith)

pub digit_step : (changes : List Change) (code place digit next : ℕ) (change : Change) → AreBits changes code
    → slice_get changes place ≡ Some change → (change.code ≡ code → next ≡ get_or change.digits 0 0)
    → (change.code ≢ code → next ≡ digit)
    → IsDigit changes code place digit → IsDigit changes code (place + 1) next
unfolding last_stays last_comes
digit_step changes code place digit next change bits here same other h = elim (cases_same change.code code) [
  | inl is ↦ inr (
    place,
    last_comes changes code place change here is,
    one_digit change.digits (bits place change here is) ∙ ap (λ (d : ℕ). d ∷ []) (sym (same is)),
  )
  | inr differs ↦ kept differs h
]
  where
    kept : change.code ≢ code → IsDigit changes code place digit → IsDigit changes code (place + 1) next
    kept differs (inl g) = inl (last_stays changes code place None change here differs g.0, other differs ∙ g.1)
    kept differs (inr g) = inr (
      g.0,
      last_stays changes code place (Some g.0) change here differs g.1,
      g.2
          ∙ ap (λ (d : ℕ). d ∷ []) (sym (other differs)),
    )

-- the digit is that of the front
pub digits_from : (changes : List Change) (code place digit : ℕ) (InTime : ℕ → Type 0) → Splits changes InTime place
    → IsDigit changes code place digit → HasDigits changes code 1 InTime (digit ∷ [])
digits_from changes code place digit InTime splits (inl h) =
    inl (none_in_front changes InTime code place splits h.0, ap (λ (d : ℕ). d ∷ []) h.1)
digits_from changes code place digit InTime splits (inr h) = inr (
  (h.1).0,
  last_in_front changes InTime code place h.0 splits h.1,
  sym (ap (extended 1) h.2),
)

-- the changes from `start` up to this one are those at its time
record IsGroup (changes : List Change) (start place : ℕ) (change : Change) : Type 0 where
  here : slice_get changes place ≡ Some change
  within : start ≤ place
  in_order : AreInOrder changes
  apart : (k : ℕ) (earlier : Change) → slice_get changes k ≡ Some earlier → k < start → earlier.time < change.time
  together : (k : ℕ) (other : Change) → slice_get changes k ≡ Some other → start ≤ k → k ≤ place → other.time
      ≡ change.time
  ends : (later : Change) → slice_get changes (place + 1) ≡ Some later → later.time ≢ change.time

behind_group : (changes : List Change) (start place : ℕ) (change : Change) → IsGroup changes start place change
    → (k : ℕ) (later : Change) → slice_get changes k ≡ Some later → place < k → change.time < later.time
behind_group changes start place change g k later at high =
    let inside : k < length changes = slice_get_within changes k later at in
    let first : slice_get changes (place + 1) ≡ Some (get_or changes (place + 1) later) =
    slice_get-get_or changes (place + 1) later (omega arith) in
    let next : Change = get_or changes (place + 1) later in
    let differs : next.time ≢ change.time = g.ends next first in
    let above : change.time ≤ next.time = g.in_order place (place + 1) change next (omega arith) g.here first in
    elim (cases_lt (place + 1) k) [
      | inl low ↦ let more : next.time ≤ later.time = g.in_order (place + 1) k next later low first at in omega arith
      | inr low ↦
          let same : next.time ≡ later.time =
          ap (λ (z : Change). z.time) (same_change_at changes (place + 1) k next later (omega arith) first at) in
          omega arith
    ]

up_to_group : (changes : List Change) (start place : ℕ) (change : Change) → IsGroup changes start place change
    → (k : ℕ) (other : Change) → slice_get changes k ≡ Some other → k < place + 1 → other.time ≤ change.time
up_to_group changes start place change g k other at low = elim (cases_lt k start) [
  | inl below ↦ let less : other.time < change.time = g.apart k other at below in omega arith
  | inr high ↦ let same : other.time ≡ change.time = g.together k other at high (omega arith) in omega arith
]

before_splits : (changes : List Change) (start place : ℕ) (change : Change) → IsGroup changes start place change
    → Splits changes (Before change.time) start
before_splits changes start place change g = record {
  front = λ k other at low. g.apart k other at low;
  behind = λ k other at high now. elim (cases_lt place k) [
    | inl above ↦ let more : change.time < other.time = behind_group changes start place change g k other at above in
        omega arith
    | inr low ↦ let same : other.time ≡ change.time = g.together k other at high low in omega arith
  ];
}

up_to_splits : (changes : List Change) (start place : ℕ) (change : Change) → IsGroup changes start place change
    → Splits changes (UpTo change.time) (place + 1)
up_to_splits changes start place change g = record {
  front = λ k other at low. up_to_group changes start place change g k other at low;
  behind = λ k other at high now. let more : change.time < other.time =
      behind_group changes start place change g k other at (omega arith) in omega arith;
}

group_of : (changes : List Change) (clock place start before digit : ℕ) (edges : List Edge) (change : Change)
    → AreInOrder changes → IsWalked changes clock place start before digit edges → slice_get changes place ≡ Some change
    → ((later : Change) → slice_get changes (place + 1) ≡ Some later → later.time ≢ change.time)
    → IsGroup changes start place change
group_of changes clock place start before digit edges change in_order w here ends = record {
  here = here;
  within = w.within;
  in_order = in_order;
  apart = λ k earlier at low. w.apart k place earlier change at here low w.within;
  together = λ k other at high low. w.together k place other change at here high low w.within (omega arith);
  ends = ends;
}

rises : (changes : List Change) (clock start place before next : ℕ) (change : Change)
    → IsGroup changes start place change
    → IsDigit changes clock start before → IsDigit changes clock (place + 1) next → before ≡ 48 → next ≡ 49
    → IsEdge changes clock change.time
rises changes clock start place before next change g b n low high = record {
  low = subst (λ d. HasDigits changes clock 1 (Before change.time) (d ∷ [])) low
      (digits_from changes clock start before (Before change.time) (before_splits changes start place change g) b);
  high = subst (λ d. HasDigits changes clock 1 (UpTo change.time) (d ∷ [])) high
      (digits_from changes clock (place + 1) next (UpTo change.time) (up_to_splits changes start place change g) n);
}

same_head : (a b : ℕ) → a ∷ [] ≡ b ∷ [] → a ≡ b
same_head a b e = ap (λ (ds : List ℕ). get_or ds 0 0) e

has_risen : (changes : List Change) (clock start place before next : ℕ) (change : Change)
    → IsGroup changes start place change
    → IsDigit changes clock start before → IsDigit changes clock (place + 1) next → IsEdge changes clock change.time
    → (before ≡ 48) × (next ≡ 49)
has_risen changes clock start place before next change g b n edge = (
  same_head before 48 (one_value changes clock 1 (Before change.time) (before ∷ []) (48 ∷ [])
      (digits_from changes clock start before (Before change.time) (before_splits changes start place change g) b)
      edge.low),
  same_head next 49 (one_value changes clock 1 (UpTo change.time) (next ∷ []) (49 ∷ [])
      (digits_from changes clock (place + 1) next (UpTo change.time) (up_to_splits changes start place change g) n)
      edge.high),
)

pub slice_get_push_cases : {X : Type 0} (xs : List X) (y : X) (k : ℕ) (x : X) → slice_get (xs ++ y ∷ []) k ≡ Some x
    → (slice_get xs k ≡ Some x) ⊎ ((k ≡ length xs) × (Some y ≡ Some x))
slice_get_push_cases [] y zero x h = inr (refl, h)
slice_get_push_cases [] y (suc k) x h = absurd cc
slice_get_push_cases (z ∷ zs) y zero x h = inl h
slice_get_push_cases (z ∷ zs) y (suc k) x h = elim (slice_get_push_cases zs y k x h) [
  | inl at ↦ inl at
  | inr at ↦ inr (ap suc at.0, at.1)
]

-- the group goes on
pub walk_goes_on : (changes : List Change) (clock place start before digit next : ℕ) (edges : List Edge)
    (change : Change)
    → AreBits changes clock → slice_get changes place ≡ Some change
    → (change.code ≡ clock → next ≡ get_or change.digits 0 0) → (change.code ≢ clock → next ≡ digit)
    → (later : Change) → slice_get changes (place + 1) ≡ Some later → later.time ≡ change.time
    → IsWalked changes clock place start before digit edges → IsWalked changes clock (place + 1) start before next edges
walk_goes_on changes clock place start before digit next edges change bits here same other later more even w = record {
  within = omega (arith, w.within);
  finished = λ h. let inside : place + 1 < length changes = slice_get_within changes (place + 1) later more in
      omega arith;
  apart = w.apart;
  together = λ j k a b x y j_low j_high k_low k_high. at_time j a x j_low j_high ∙ sym (at_time k b y k_low k_high);
  before_is = w.before_is;
  digit_is = digit_step changes clock place digit next change bits here same other w.digit_is;
  rising = w.rising;
  found = w.found;
  complete = w.complete;
  fronts = w.fronts;
}
  where
    at_time : (j : ℕ) (a : Change) → slice_get changes j ≡ Some a → start ≤ j → j ≤ place + 1 → a.time ≡ change.time
    at_time j a x low high = elim (cases_lt place j) [
      | inl above ↦ ap (λ (z : Change). z.time) (same_change_at changes j (place + 1) a later (omega arith) x more)
          ∙ even
      | inr below ↦ w.together j place a change x here low below w.within (omega arith)
    ]

abbrev pub edge_or : Edge → Option Edge → Edge
edge_or other None = other
edge_or other (Some edge) = edge

-- the group ends, and its edge is noted
pub walk_ends : (changes : List Change) (clock place start before digit next : ℕ) (edges new : List Edge)
    (change : Change)
    → AreInOrder changes → AreBits changes clock → slice_get changes place ≡ Some change
    → (change.code ≡ clock → next ≡ get_or change.digits 0 0) → (change.code ≢ clock → next ≡ digit)
    → ((later : Change) → slice_get changes (place + 1) ≡ Some later → later.time ≢ change.time)
    → IsNoted edges new before next (record { time = change.time; start = start })
    → IsWalked changes clock place start before digit edges
    → IsWalked changes clock (place + 1) (place + 1) next next new
walk_ends changes clock place start before digit next edges new change in_order bits here same other ends noted w =
    subst (λ es. IsWalked changes clock (place + 1) (place + 1) next next es) (sym (taken noted).1) (taken noted).2
  where
    t : ℕ
    t = change.time

    g : IsGroup changes start place change
    g = group_of changes clock place start before digit edges change in_order w here ends

    n : IsDigit changes clock (place + 1) next
    n = digit_step changes clock place digit next change bits here same other w.digit_is

    later_reached : (s : ℕ) → IsReached changes start s → IsReached changes (place + 1) s
    later_reached s r = (r.0, r.1, r.2, omega (arith, r.3, w.within), r.4)

    cases_reached : (s : ℕ) → IsReached changes (place + 1) s → IsReached changes start s ⊎ (s ≡ t)
    cases_reached s r = elim (cases_lt r.0 start) [
      | inl low ↦ inl (r.0, r.1, r.2, low, r.4)
      | inr high ↦ inr (sym r.4 ∙ g.together r.0 r.1 r.2 high (omega (arith, r.3)))
    ]

    walked : (es : List Edge) → AllPairs (λ earlier later. earlier < later) (times_of es)
        → ((s : ℕ) → Contains (times_of es) s → IsEdge changes clock s × IsReached changes (place + 1) s)
        → ((s : ℕ) → IsEdge changes clock s → IsReached changes (place + 1) s → Contains (times_of es) s)
        → ((k : ℕ) (edge : Edge) → slice_get es k ≡ Some edge → Splits changes (Before edge.time) edge.start
        × (edge.start ≤ length changes))
        → IsWalked changes clock (place + 1) (place + 1) next next es
    walked es rising found complete fronts = record {
      within = omega arith;
      finished = λ h. omega arith;
      apart = λ j k earlier later x y low high.
          let a : earlier.time ≤ change.time = up_to_group changes start place change g j earlier x low in
          let b : change.time < later.time = behind_group changes start place change g k later y (omega arith) in
          omega arith;
      together = λ j k a b x y j_low j_high k_low k_high.
          ap (λ (z : Change). z.time) (same_change_at changes j k a b (omega arith) x y);
      before_is = n;
      digit_is = n;
      rising = rising;
      found = found;
      complete = complete;
      fronts = fronts;
    }

    edge : Edge
    edge = record { time = change.time; start = start }

    times : times_of (edges ++ edge ∷ []) ≡ times_of edges ++ t ∷ []
    times = map-append (λ (e : Edge). e.time) edges (edge ∷ [])

    inside : start ≤ length changes
    inside = let low : place < length changes = slice_get_within changes place change here in omega (arith, w.within)

    lower : (k : ℕ) (d : ℕ) → k < length (times_of edges) → get_or (times_of edges) k d < t
    lower k d low =
        let r : IsReached changes start (get_or (times_of edges) k d) =
        (w.found (get_or (times_of edges) k d) (Contains-get_or (times_of edges) k d low)).1 in
        let less : (r.1).time < t = g.apart r.0 r.1 r.2 r.3 in
        omega (arith, r.4)

    added : before ≡ 48 → next ≡ 49 → IsWalked changes clock (place + 1) (place + 1) next next (edges ++ edge ∷ [])
    added low high = walked (edges ++ edge ∷ [])
        (subst (AllPairs (λ earlier later. earlier < later)) (sym times)
        (all_pairs_push (λ earlier later. earlier < later) (times_of edges) t w.rising lower))
        (λ s h. elim (Contains-push_cases (times_of edges) t s (subst (λ ts. Contains ts s) times h)) [
          | inl old ↦ ((w.found s old).0, later_reached s (w.found s old).1)
          | inr is ↦ (
            subst (IsEdge changes clock) is
                (rises changes clock start place before next change g w.before_is n low high),
            (place, change, here, omega arith, is),
          )
        ])
        (λ s e r. subst (λ ts. Contains ts s) (sym times) (elim (cases_reached s r) [
          | inl old ↦ Contains-append_left (times_of edges) (t ∷ []) s (w.complete s e old)
          | inr is ↦ subst (λ v. Contains (times_of edges ++ t ∷ []) v) (sym is) (Contains-push (times_of edges) t)
        ]))
        (λ k e at. elim (slice_get_push_cases edges edge k e at) [
          | inl old ↦ w.fronts k e old
          | inr is ↦ subst (λ (v : Edge). Splits changes (Before v.time) v.start × (v.start ≤ length changes))
              (ap (edge_or edge) is.1) (before_splits changes start place change g, inside)
        ])

    stayed : (¬ ((before ≡ 48) × (next ≡ 49))) → IsWalked changes clock (place + 1) (place + 1) next next edges
    stayed none = walked edges w.rising
        (λ s h. ((w.found s h).0, later_reached s (w.found s h).1))
        (λ s e r. elim (cases_reached s r) [
          | inl old ↦ w.complete s e old
          | inr is ↦ absurd (none (has_risen changes clock start place before next change g w.before_is n
              (subst (IsEdge changes clock) is e)))
        ])
        w.fronts

    taken : IsNoted edges new before next edge → (es : List Edge) × (new ≡ es)
        × IsWalked changes clock (place + 1) (place + 1) next next es
    taken (inl h) = (edges ++ edge ∷ [], h.2, added h.0 h.1)
    taken (inr h) = (edges, h.1, stayed h.0)

-- an edge is where a change is
edge_reached : (changes : List Change) (clock t : ℕ) → IsEdge changes clock t → IsReached changes (length changes) t
edge_reached changes clock t edge = at edge.high
  where
    at : HasDigits changes clock 1 (UpTo t) (49 ∷ []) → IsReached changes (length changes) t
    at (inl h) = absurd (let e : 49 ≡ 120 = same_head 49 120 h.1 in omega arith)
    at (inr h) = elim (cases_lt (h.0).time t) [
      | inl low ↦ absurd (let e : 49 ≡ 48 =
          same_head 49 48 (one_value changes clock 1 (Before t) (49 ∷ []) (48 ∷ []) (inr (
            h.0,
            record {
              place = (h.1).place;
              stands = (h.1).stands;
              same_code = (h.1).same_code;
              in_time = low;
              none_later = λ k later more at same now. (h.1).none_later k later more at same (omega arith);
            },
            h.2,
          )) edge.low) in omega arith)
      | inr high ↦ (
        (h.1).place,
        h.0,
        (h.1).stands,
        slice_get_within changes (h.1).place h.0 (h.1).stands,
        (let up : (h.0).time ≤ t = (h.1).in_time in omega arith),
      )
    ]

pub walk_finds : (changes : List Change) (clock place start before digit : ℕ) (edges : List Edge)
    → length changes ≤ place
    → IsWalked changes clock place start before digit edges → HasEdges changes clock edges
walk_finds changes clock place start before digit edges end w = record {
  edges_are = record {
    rising = w.rising;
    edges = λ t. (
      λ h. (w.found t h).0,
      λ e.
          let r : IsReached changes (length changes) t = edge_reached changes clock t e in
          w.complete t e (r.0, r.1, r.2, omega (arith, r.3, w.finished end, end), r.4),
    );
  };
  fronts = w.fronts;
}
