-- The table of the last changes by code, and the values that are read from it.
use Rattle.std.proofs.Common.{◌≡◌, ℕ, ◌+◌, ◌<◌, ◌≤◌, inl, inr, List, [], ◌∷◌, ◌++◌, Option, Some, None, MatchOption}
use Rattle.std.proofs.Common.{length, get_or, refl, sym, ◌∙◌, ap, subst, arith}
use Rattle.std.specs.Prelude.{slice_get}
use Rattle.std.proofs.lemmas.Option.{slice_get_within, slice_get-get_or}
use Rattle.std.proofs.lemmas.List.{length_push}
use Rattle.vcd_reader.specs.declared.waveform.Change.{Change}
use Rattle.vcd_replay.specs.Values.{AreKnown, bits_value}
use Rattle.vcd_replay.specs.inner.Walk.{IsLastIn, AreShort, IsTable, HasValue, HasNoValue, AreValues, IsFull}
use Rattle.vcd_replay.proofs.Walking.{same_change, slice_get_push_cases}

latest : (changes : List Change) (last : List (Option ℕ)) (code place at : ℕ) (change : Change)
    → IsTable changes last place
    → code < length last → get_or last code None ≡ Some at → slice_get changes at ≡ Some change
    → (change.code ≡ code) × (at < place)
    × ((k : ℕ) (later : Change) → slice_get changes k ≡ Some later → at < k → k < place → ¬ (later.code ≡ code))
latest changes last code place at change table within is here =
    let h : IsLastIn changes code place (Some at) = subst (λ l. IsLastIn changes code place l) is (table code within) in
    (ap (λ (z : Change). z.code) (same_change changes at change h.0 here h.1) ∙ h.3, h.2, h.4)

pub short_value : (changes : List Change) (last : List (Option ℕ)) (code place at : ℕ) (change : Change)
    → IsTable changes last place
    → code < length last → get_or last code None ≡ Some at → slice_get changes at ≡ Some change → AreShort changes code
    → length change.digits ≤ 64
short_value changes last code place at change table within is here short =
    short at change here (latest changes last code place at change table within is here).0

pub value_from : (changes : List Change) (last : List (Option ℕ)) (code place at : ℕ) (change : Change)
    (result : Option ℕ)
    → IsTable changes last place → code < length last → get_or last code None ≡ Some at → slice_get changes at
    ≡ Some change
    → MatchOption result (¬ AreKnown change.digits)
    (λ value. AreKnown change.digits × (value ≡ bits_value change.digits))
    → MatchOption result (HasNoValue changes code place) (HasValue changes code place)
value_from changes last code place at change None table within is here h =
    let l = latest changes last code place at change table within is here in
    inr (at, (change, here, l.1, l.0, l.2), h)
value_from changes last code place at change (Some value) table within is here h =
    let l = latest changes last code place at change table within is here in
    (at, (change, here, l.1, l.0, l.2), h.0, h.1)

-- a place that stands in a table is that of a change
pub in_table : (changes : List Change) (last : List (Option ℕ)) (code place at : ℕ) → IsTable changes last place
    → code < length last → get_or last code None ≡ Some at → at < length changes
in_table changes last code place at table within is =
    let h : IsLastIn changes code place (Some at) = subst (λ l. IsLastIn changes code place l) is (table code within) in
    slice_get_within changes at h.0 h.1

-- as many values stand in the row as ports are done
pub record IsRowSoFar (changes : List Change) (codes : List ℕ) (place port : ℕ) (row : List ℕ) : Type 0 where
  pub wide : length row ≡ port
  pub each : (k value : ℕ) → slice_get row k ≡ Some value
      → (code : ℕ) × (slice_get codes k ≡ Some code) × HasValue changes code place value

abbrev pub number_or : ℕ → Option ℕ → ℕ
number_or other None = other
number_or other (Some n) = n

pub row_grows : (changes : List Change) (codes : List ℕ) (place port code value : ℕ) (row : List ℕ)
    → IsRowSoFar changes codes place port row
    → slice_get codes port ≡ Some code → HasValue changes code place value
    → IsRowSoFar changes codes place (port + 1) (row ++ value ∷ [])
row_grows changes codes place port code value row r here v = record {
  wide = length_push row value ∙ ap (λ (n : ℕ). n + 1) r.wide;
  each = λ k other at. elim (slice_get_push_cases row value k other at) [
    | inl old ↦ r.each k other old
    | inr is ↦ (
      code,
      ap (slice_get codes) (is.0 ∙ r.wide) ∙ here,
      subst (λ (n : ℕ). HasValue changes code place n) (ap (number_or value) is.1) v,
    )
  ];
}

pub row_starts : (changes : List Change) (codes : List ℕ) (place : ℕ) → IsRowSoFar changes codes place 0 []
row_starts changes codes place = record { wide = refl; each = λ k value at. absurd cc }

pub row_whole : (changes : List Change) (codes : List ℕ) (place port : ℕ) (row : List ℕ) → length codes ≡ port
    → IsRowSoFar changes codes place port row → AreValues changes codes place row
row_whole changes codes place port row end r = record { wide = r.wide ∙ sym end; each = r.each }

pub row_full : (changes : List Change) (codes : List ℕ) (place port p : ℕ) (row : List ℕ)
    → IsRowSoFar changes codes place port row
    → p < port → IsFull changes codes place p
row_full changes codes place port p row r low code at =
    let here : slice_get row p ≡ Some (get_or row p 0) = slice_get-get_or row p 0 (omega (arith, r.wide)) in
    let v = r.each p (get_or row p 0) here in
    let both : Some v.0 ≡ Some code = sym v.1 ∙ at in
    (get_or row p 0, subst (λ (n : ℕ). HasValue changes n place (get_or row p 0)) (ap (number_or 0) both) v.2)
