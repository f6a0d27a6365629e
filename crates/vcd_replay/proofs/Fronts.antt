-- The changes at some times are a front of the list, where times never fall; and digits are determined.
use Rattle.std.proofs.Common.{◌≡◌, ℕ, inl, inr, List, [], ◌∷◌, Option, Some, None, get_or, refl, sym, ◌∙◌, ap, arith}
use Rattle.std.specs.Prelude.{slice_get}
use Rattle.std.proofs.lemmas.Bool.{cases_lt}
use Rattle.vcd_reader.specs.declared.waveform.Change.{Change}
use Rattle.vcd_replay.specs.Values.{Before, UpTo, IsLast, HasNone, HasDigits, extended}
use Rattle.vcd_replay.specs.Edges.{IsEdge}
use Rattle.vcd_replay.specs.inner.Walk.{Splits, IsLastIn}

pub none_in_front : (changes : List Change) (InTime : ℕ → Type 0) (code place : ℕ) → Splits changes InTime place
    → IsLastIn changes code place None → HasNone changes code InTime
none_in_front changes InTime code place splits none k change at same now = elim (cases_lt k place) [
  | inl low ↦ none k change at low same
  | inr high ↦ splits.behind k change at high now
]

pub last_in_front : (changes : List Change) (InTime : ℕ → Type 0) (code place p : ℕ) → Splits changes InTime place
    → (h : IsLastIn changes code place (Some p)) → IsLast changes code InTime h.0
last_in_front changes InTime code place p splits h = record {
  place = p;
  stands = h.1;
  same_code = h.3;
  in_time = splits.front p h.0 h.1 h.2;
  none_later = λ k later more at same now. elim (cases_lt k place) [
    | inl low ↦ h.4 k later at more low same
    | inr high ↦ splits.behind k later at high now
  ];
}

-- of two last changes none is later than the other
same_place : (changes : List Change) (code : ℕ) (InTime : ℕ → Type 0) (a b : Change) (x : IsLast changes code InTime a)
    (y : IsLast changes code InTime b) → x.place ≡ y.place
same_place changes code InTime a b x y = elim (cases_lt x.place y.place) [
  | inl low ↦ absurd (x.none_later y.place b low y.stands y.same_code y.in_time)
  | inr high ↦ elim (cases_lt y.place x.place) [
    | inl low ↦ absurd (y.none_later x.place a low x.stands x.same_code x.in_time)
    | inr above ↦ omega arith
  ]
]

abbrev change_or : Change → Option Change → Change
change_or other None = other
change_or other (Some change) = change

one_last : (changes : List Change) (code : ℕ) (InTime : ℕ → Type 0) (a b : Change) → IsLast changes code InTime a
    → IsLast changes code InTime b → a ≡ b
one_last changes code InTime a b x y =
    let here : slice_get changes x.place ≡ Some b = ap (slice_get changes) (same_place changes code InTime a b x y)
    ∙ y.stands in
    let both : Some a ≡ Some b = sym x.stands ∙ here in
    ap (change_or a) both

-- the digits at some times are determined
pub one_value : (changes : List Change) (code size : ℕ) (InTime : ℕ → Type 0) (x y : List ℕ)
    → HasDigits changes code size InTime x → HasDigits changes code size InTime y → x ≡ y
one_value changes code size InTime x y (inl h) (inl g) = h.1 ∙ sym g.1
one_value changes code size InTime x y (inl h) (inr g) =
    absurd (h.0 (g.1).place g.0 (g.1).stands (g.1).same_code (g.1).in_time)
one_value changes code size InTime x y (inr h) (inl g) =
    absurd (g.0 (h.1).place h.0 (h.1).stands (h.1).same_code (h.1).in_time)
one_value changes code size InTime x y (inr h) (inr g) =
    h.2 ∙ ap (λ (c : Change). extended size c.digits) (one_last changes code InTime h.0 g.0 h.1 g.1) ∙ sym g.2

-- where the same changes are in time, the same digits are there
pub same_digits : (changes : List Change) (code size : ℕ) (P Q : ℕ → Type 0) (digits : List ℕ)
    → ((k : ℕ) (change : Change) → slice_get changes k ≡ Some change → P change.time → Q change.time)
    → ((k : ℕ) (change : Change) → slice_get changes k ≡ Some change → Q change.time → P change.time)
    → HasDigits changes code size P digits → HasDigits changes code size Q digits
same_digits changes code size P Q digits to from (inl h) =
    inl (λ k change at same now. h.0 k change at same (from k change at now), h.1)
same_digits changes code size P Q digits to from (inr h) = inr (
  h.0,
  record {
    place = (h.1).place;
    stands = (h.1).stands;
    same_code = (h.1).same_code;
    in_time = to (h.1).place h.0 (h.1).stands (h.1).in_time;
    none_later = λ k later more at same now. (h.1).none_later k later more at same (from k later at now);
  },
  h.2,
)

zero_is_not_one : (x y : List ℕ) → x ≡ 48 ∷ [] → y ≡ 49 ∷ [] → ¬ (x ≡ y)
zero_is_not_one x y low high same =
    let a : get_or x 0 0 ≡ 48 = ap (λ digits. get_or digits 0 0) low in
    let b : get_or y 0 0 ≡ 49 = ap (λ digits. get_or digits 0 0) high in
    let c : get_or x 0 0 ≡ get_or y 0 0 = ap (λ digits. get_or digits 0 0) same in
    omega arith

-- there is no edge at a time without a change
pub no_edge_between : (changes : List Change) (clock t : ℕ)
    → ((k : ℕ) (change : Change) → slice_get changes k ≡ Some change → ¬ (change.time ≡ t))
    → ¬ IsEdge changes clock t
no_edge_between changes clock t none edge =
    let still : HasDigits changes clock 1 (UpTo t) (48 ∷ []) =
    same_digits changes clock 1 (Before t) (UpTo t) (48 ∷ []) (λ k change at low. omega arith)
    (λ k change at low. let other : ¬ (change.time ≡ t) = none k change at in omega arith) edge.low in
    zero_is_not_one (48 ∷ []) (49 ∷ []) refl refl
    (one_value changes clock 1 (UpTo t) (48 ∷ []) (49 ∷ []) still edge.high)
