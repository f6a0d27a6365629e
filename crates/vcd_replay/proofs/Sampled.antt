-- A walk over the edges that samples row by row.
use Rattle.std.proofs.Common.{zero, suc, ◌≡◌, ℕ, ◌+◌, ◌*◌, ◌<◌, ◌≤◌, inl, inr, List, [], ◌∷◌, ◌++◌, Option, Some, None}
use Rattle.std.proofs.Common.{length, take, drop, get_or, refl, sym, ◌∙◌, ap, subst, arith}
use Rattle.std.specs.Prelude.{slice_get}
use Rattle.std.proofs.lemmas.Option.{slice_get_within, slice_get-get_or}
use Rattle.std.proofs.lemmas.List.{take-append-le, drop-append-le, take_all, length-drop, length-append}
use Rattle.std.proofs.Math.Nat.{suc-mul}
use Rattle.vcd_reader.specs.declared.waveform.Change.{Change}
use Rattle.vcd_replay.specs.declared.edges.Edge.{Edge}
use Rattle.vcd_replay.specs.inner.Rows.{rows, IsWhole}
use Rattle.vcd_replay.specs.Sampling.{ComesBefore}
use Rattle.vcd_replay.specs.inner.Walk.{IsTable, AreFronts, AreValues, AreSampled, HasValue, IsFirstBlank, IsBlank}
use Rattle.vcd_replay.specs.inner.Walk.{IsFull, IsRowOf}
use Rattle.vcd_replay.proofs.RowLemmas.{rows_length, row_at}
use Rattle.vcd_replay.proofs.Walking.{edge_or, slice_get_push_cases}
use Rattle.vcd_replay.proofs.Tables.{number_or}

abbrev list_or : List ℕ → Option (List ℕ) → List ℕ
list_or other None = other
list_or other (Some xs) = xs

-- `count` edges are sampled, and `done` changes are in the table
pub record IsSampling (changes : List Change) (edges : List Edge) (codes : List ℕ) (first : List (Option ℕ))
    (count done : ℕ) (last : List (Option ℕ)) (values : List ℕ) : Type 0 where
  pub table : IsTable changes last done
  pub long : length last ≡ length first
  pub ahead : (k : ℕ) (edge : Edge) → slice_get edges k ≡ Some edge → count ≤ k → done ≤ edge.start
  pub sampled : AreSampled changes edges codes count values

pub sampling_starts : (changes : List Change) (edges : List Edge) (codes : List ℕ) (first : List (Option ℕ))
    → IsTable changes first 0
    → IsSampling changes edges codes first 0 0 first []
sampling_starts changes edges codes first table = record {
  table = table;
  long = refl;
  ahead = λ k edge at low. omega arith;
  sampled = record { whole = omega arith; rows_are = λ n row at. absurd cc };
}

rows_push : (ports count : ℕ) (values row : List ℕ) → IsWhole ports count values → length row ≡ ports
    → rows ports (suc count) (values ++ row) ≡ rows ports count values ++ row ∷ []
rows_push ports zero [] row whole wide = ap (λ r. r ∷ []) (take_all ports row (omega arith))
rows_push ports zero (v ∷ values) row whole wide = absurd (omega arith)
rows_push ports (suc count) values row whole wide =
    let long : length values ≡ ports + count * ports = whole
    ∙ (let e : suc count * ports ≡ ports + count * ports = omega (arith, suc-mul count ports) in e) in
    let rest : length (drop ports values) ≡ count * ports = omega (arith, length-drop ports values, long) in
    let fits : ports ≤ length values = omega (arith, long) in
    ap (λ xs. take ports (values ++ row) ∷ rows ports (suc count) xs) (drop-append-le ports values row fits)
    ∙ ap (λ xs. xs ∷ rows ports (suc count) (drop ports values ++ row)) (take-append-le ports values row fits)
    ∙ ap (λ rs. take ports values ∷ rs) (rows_push ports count (drop ports values) row rest wide)

pub row_taken : (changes : List Change) (edges : List Edge) (codes : List ℕ) (count : ℕ) (values row : List ℕ)
    (edge : Edge)
    → AreSampled changes edges codes count values → slice_get edges count ≡ Some edge
    → AreValues changes codes edge.start row
    → AreSampled changes edges codes (count + 1) (values ++ row)
row_taken changes edges codes count values row edge s here v = record {
  whole = length-append values row ∙ (let a : length values ≡ count * length codes = s.whole in let b : length row
      ≡ length codes = v.wide in let e : length values + length row ≡ (count + 1) * length codes =
      omega (arith, a, b, one_more) in e);
  rows_are = λ n other at. elim (slice_get_push_cases (rows (length codes) count values) row n other
      (subst (λ rs. slice_get rs n ≡ Some other) pushed at)) [
        | inl old ↦ s.rows_are n other old
        | inr is ↦ (
          edge,
          ap (slice_get edges) (is.0 ∙ rows_length (length codes) count values) ∙ here,
          subst (AreValues changes codes edge.start) (ap (list_or row) is.1) v,
        )
      ];
}
  where
    pushed : rows (length codes) (count + 1) (values ++ row) ≡ rows (length codes) count values ++ row ∷ []
    pushed = let e : count + 1 ≡ suc count = omega arith in ap (λ (n : ℕ). rows (length codes) n (values ++ row)) e
        ∙ rows_push (length codes) count values row s.whole v.wide

    one_more : (count + 1) * length codes ≡ count * length codes + length codes
    one_more = let e : count + 1 ≡ suc count = omega arith in ap (λ (n : ℕ). n * length codes) e
        ∙ suc-mul count (length codes)

-- each port of a sampled cycle has a value
cycle_full : (changes : List Change) (edges : List Edge) (codes : List ℕ) (count : ℕ) (values : List ℕ)
    → AreSampled changes edges codes count values
    → (n p : ℕ) (other : Edge) → n < count → slice_get edges n ≡ Some other → IsFull changes codes other.start p
cycle_full changes edges codes count values s n p other low at code here =
    let ports : ℕ = length codes in
    let row : List ℕ = take ports (drop (n * ports) values) in
    let r = s.rows_are n row (row_at ports count values n low) in
    let inside : p < ports = slice_get_within codes p code here in
    let value : slice_get row p ≡ Some (get_or row p 0) = slice_get-get_or row p 0 (omega (arith, (r.2).wide)) in
    let v = (r.2).each p (get_or row p 0) value in
    let same : Some v.0 ≡ Some code = sym v.1 ∙ here in
    let one : Some r.0 ≡ Some other = sym r.1 ∙ at in (
      get_or row p 0,
      subst (λ (o : Edge). HasValue changes code o.start (get_or row p 0)) (ap (edge_or other) one)
          (subst (λ (n : ℕ). HasValue changes n (r.0).start (get_or row p 0)) (ap (number_or 0) same) v.2),
    )

pub first_blank : (changes : List Change) (edges : List Edge) (codes : List ℕ) (count port : ℕ) (values : List ℕ)
    (edge : Edge)
    → AreSampled changes edges codes count values → slice_get edges count ≡ Some edge
    → IsBlank changes codes edge.start port
    → ((p : ℕ) → p < port → IsFull changes codes edge.start p) → IsFirstBlank changes edges codes count port
first_blank changes edges codes count port values edge s here blank full = record {
  edge = edge;
  stands = here;
  blank = blank;
  full = λ n p other before at. earlier n p other at before;
}
  where
    earlier : (n p : ℕ) (other : Edge) → slice_get edges n ≡ Some other → ComesBefore n p count port
        → IsFull changes codes other.start p
    earlier n p other at (inl low) = cycle_full changes edges codes count values s n p other low at
    earlier n p other at (inr same) =
        let one : Some edge ≡ Some other = sym here ∙ ap (slice_get edges) (sym same.0) ∙ at in
        subst (λ (o : Edge). IsFull changes codes o.start p) (ap (edge_or edge) one) (full p same.1)

pub sampling_goes_on : (changes : List Change) (edges : List Edge) (codes : List ℕ) (first : List (Option ℕ))
    (count done : ℕ) (last now : List (Option ℕ))
    → (values new : List ℕ) (edge : Edge) → AreFronts changes edges
    → IsSampling changes edges codes first count done last values
    → slice_get edges count ≡ Some edge → IsTable changes now edge.start → length now ≡ length last
    → IsRowOf changes codes edge.start values new None
    → IsSampling changes edges codes first (count + 1) edge.start now new
sampling_goes_on changes edges codes first count done last now values new edge fronts s here table long row = record {
  table = table;
  long = long ∙ s.long;
  ahead = λ k other at high. fronts.rising count k edge other here at (omega arith);
  sampled = subst (AreSampled changes edges codes (count + 1)) (sym row.1)
      (row_taken changes edges codes count values row.0 edge s.sampled here row.2);
}
