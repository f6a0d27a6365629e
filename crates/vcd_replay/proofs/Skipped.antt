-- The edges behind those that are skipped.
use Rattle.std.proofs.Common.{zero, suc, ◌≡◌, ℕ, ◌+◌, ◌-◌, ◌<◌, ◌≤◌, inl, inr, List, [], ◌∷◌, Some, option_map, length}
use Rattle.std.proofs.Common.{drop, get_or, refl, sym, ◌∙◌, ap, arith}
use Rattle.std.specs.Prelude.{slice_get}
use Rattle.std.proofs.lemmas.Bool.{cases_lt}
use Rattle.std.proofs.lemmas.Option.{slice_get_within, slice_get-get_or, slice_get-map, get_or_from_slice_get}
use Rattle.std.proofs.lemmas.List.{length-drop}
use Rattle.psl_model.specs.declared.names.Signal.{Signal}
use Rattle.vcd_reader.specs.declared.waveform.Change.{Change}
use Rattle.vcd_replay.specs.declared.edges.Edge.{Edge}
use Rattle.vcd_replay.specs.inner.Rows.{rows}
use Rattle.vcd_replay.specs.inner.Walk.{HasEdges, AreFronts, AreSampled, IsFirstBlank, times_of}
use Rattle.vcd_replay.specs.inner.TraceView.{TracesEdges, HasBlank}
use Rattle.vcd_replay.proofs.RowLemmas.{rows_length}

pub slice_get_drop : {X : Type 0} (xs : List X) (n k : ℕ) → slice_get (drop n xs) k ≡ slice_get xs (n + k)
slice_get_drop xs zero k = let e : k ≡ 0 + k = omega arith in ap (slice_get xs) e
slice_get_drop [] (suc n) k = refl
slice_get_drop (x ∷ xs) (suc n) k = let e : suc (n + k) ≡ suc n + k = omega arith in slice_get_drop xs n k
    ∙ ap (slice_get (x ∷ xs)) e

pub time_at : (edges : List Edge) (k : ℕ) (edge : Edge) → slice_get edges k ≡ Some edge → slice_get (times_of edges) k
    ≡ Some edge.time
time_at edges k edge at = slice_get-map (λ (e : Edge). e.time) edges k ∙ ap (option_map (λ (e : Edge). e.time)) at

no_change : Change
no_change = record { time = 0; code = 0; digits = [] }

starts_rise : (changes : List Change) (clock : ℕ) (edges : List Edge) → HasEdges changes clock edges
    → (j k : ℕ) (earlier later : Edge)
    → slice_get edges j ≡ Some earlier → slice_get edges k ≡ Some later → j < k → earlier.start ≤ later.start
starts_rise changes clock edges h j k earlier later x y low = elim (cases_lt later.start earlier.start) [
  | inr fine ↦ fine
  | inl wrong ↦
      let a : get_or (times_of edges) j 0 ≡ earlier.time =
      get_or_from_slice_get (times_of edges) j earlier.time 0 (time_at edges j earlier x) in
      let b : get_or (times_of edges) k 0 ≡ later.time =
      get_or_from_slice_get (times_of edges) k later.time 0 (time_at edges k later y) in
      let less : get_or (times_of edges) j 0 < get_or (times_of edges) k 0 =
      (h.edges_are).rising j k 0 low (slice_get_within (times_of edges) k later.time (time_at edges k later y)) in
      let inside : earlier.start ≤ length changes = (h.fronts j earlier x).1 in
      let change : Change = get_or changes later.start no_change in
      let here : slice_get changes later.start ≡ Some change =
      slice_get-get_or changes later.start no_change (omega arith) in
      let early : change.time < earlier.time = ((h.fronts j earlier x).0).front later.start change here wrong in
      absurd (((h.fronts k later y).0).behind later.start change here (omega arith) (omega arith))
]

pub fronts_of : (changes : List Change) (clock skip : ℕ) (edges counted : List Edge) → HasEdges changes clock edges
    → counted ≡ drop skip edges → AreFronts changes counted
fronts_of changes clock skip edges counted h is = record {
  within = λ k edge at. (h.fronts (skip + k) edge (in_all k edge at)).1;
  rising = λ j k earlier later x y low. starts_rise changes clock edges h (skip + j) (skip + k) earlier later
      (in_all j earlier x) (in_all k later y) (omega arith);
}
  where
    in_all : (k : ℕ) (edge : Edge) → slice_get counted k ≡ Some edge → slice_get edges (skip + k) ≡ Some edge
    in_all k edge at = sym (slice_get_drop edges skip k) ∙ ap (λ es. slice_get es k) (sym is) ∙ at

pub traced : (changes : List Change) (clock : ℕ) (codes : List ℕ) (skip : ℕ) (edges counted : List Edge)
    (values : List ℕ) → HasEdges changes clock edges
    → counted ≡ drop skip edges → skip < length edges → AreSampled changes counted codes (length counted) values
    → TracesEdges changes clock codes skip (rows (length codes) (length counted) values)
traced changes clock codes skip edges counted values h is low s = record {
  edges = edges;
  are = h;
  some = low;
  long = let a : length (rows (length codes) (length counted) values) ≡ length counted =
      rows_length (length codes) (length counted) values in
      let b : length counted ≡ length edges - skip = ap length is ∙ length-drop skip edges in omega arith;
  rows_are = λ n row at. let r = s.rows_are n row at in
      (r.0, sym (slice_get_drop edges skip n) ∙ ap (λ es. slice_get es n) (sym is) ∙ r.1, r.2);
}

pub blank_port : (changes : List Change) (codes : List ℕ) (counted : List Edge) (cycle port : ℕ)
    → IsFirstBlank changes counted codes cycle port → port < length codes
blank_port changes codes counted cycle port f = slice_get_within codes port (f.blank).0 (f.blank).1

pub blank_of : (changes : List Change) (clock : ℕ) (codes : List ℕ) (wanted : List Signal) (skip cycle port : ℕ)
    (name : List ℕ) (signal : Signal) (edges counted : List Edge)
    → HasEdges changes clock edges → counted ≡ drop skip edges → slice_get wanted port ≡ Some signal → signal.name
    ≡ name
    → IsFirstBlank changes counted codes cycle port → HasBlank changes clock codes wanted skip cycle name
blank_of changes clock codes wanted skip cycle port name signal edges counted h is here named f = record {
  edges = edges;
  are = h;
  edge = f.edge;
  begins = sym (slice_get_drop edges skip cycle) ∙ ap (λ es. slice_get es cycle) (sym is) ∙ f.stands;
  port = port;
  signal = signal;
  stands = here;
  named = named;
  blank = f.blank;
  full = λ n p other before at. f.full n p other before
      (ap (λ es. slice_get es n) is ∙ slice_get_drop edges skip n ∙ at);
}
