-- What a walk over edges and codes answers is what the definitions of a trace ask for.
use Rattle.std.proofs.Common.{zero, suc, ◌≡◌, ℕ, ◌+◌, ◌-◌, ◌<◌, ◌≤◌, ◌⊎◌, inl, inr, List, [], ◌∷◌, ◌++◌, Option, Some}
use Rattle.std.proofs.Common.{None, Result, Ok, Err, All, length, get_or, refl, sym, ◌∙◌, ap, subst, arith}
use Rattle.std.specs.Prelude.{slice_get}
use Rattle.std.specs.List.{repeat}
use Rattle.std.proofs.lemmas.Bool.{cases_lt}
use Rattle.std.proofs.lemmas.Option.{slice_get_within, slice_get-get_or}
use Rattle.std.proofs.lemmas.List.{length-map}
use Rattle.std.proofs.lemmas.List.Elements.{All-tail}
use Rattle.psl_model.specs.declared.names.Signal.{Signal}
use Rattle.vcd_reader.specs.declared.waveform.Var.{Var}
use Rattle.vcd_reader.specs.declared.waveform.Change.{Change}
use Rattle.vcd_reader.specs.Sound.{IsSound}
use Rattle.vcd_replay.specs.declared.edges.Edge.{Edge}
use Rattle.vcd_replay.specs.declared.trace.SampleError.{SampleError}
use Rattle.vcd_replay.specs.declared.trace.SampleError.TheVariants.{NoScope, MissingSignal, WidthDiffers, NoCycles}
use Rattle.vcd_replay.specs.declared.trace.SampleError.TheVariants.{UnknownValue, OutOfMemory}
use Rattle.vcd_replay.specs.Values.{Before, HasDigits, AreKnown, bits_value, extended, extension}
use Rattle.vcd_replay.specs.Edges.{AreEdges}
use Rattle.vcd_replay.specs.Ports.{IsFirst, IsFor, HasScope, FirstFault}
use Rattle.vcd_replay.specs.inner.PortView.{IsPort, AnswersPort, ArePorts, HasPortFault}
use Rattle.vcd_replay.specs.inner.Walk.{HasEdges, HasValue, HasNoValue, IsFull, AreShort, times_of}
use Rattle.vcd_replay.specs.inner.TraceView.{AnswersTrace}
use Rattle.vcd_replay.specs.Sampling.{Source, signals, IsThere, Samples, IsUnknown, Answers}
use Rattle.vcd_replay.proofs.Fronts.{last_in_front, none_in_front, one_value}
use Rattle.vcd_replay.proofs.Extension.{extended_known, extended_number}
use Rattle.vcd_replay.proofs.Tables.{number_or}
use Rattle.vcd_replay.proofs.PortLists.{signal_or}
use Rattle.vcd_replay.proofs.Skipped.{time_at}

pub change_fits : (vars : List Var) (changes : List Change) (scope : List ℕ) (signal : Signal) (code : ℕ)
    → IsSound (record { vars = vars; changes = changes })
    → IsPort vars scope signal code → (k : ℕ) (change : Change) → slice_get changes k ≡ Some change → change.code ≡ code
    → (0 < length change.digits) × (length change.digits ≤ signal.width)
change_fits vars changes scope signal code lawful p k change at same =
    let sc = lawful.changes k change at in
    let known : slice_get lawful.sizes (p.0).code ≡ Some (p.0).size =
    lawful.vars ((p.1).first).place p.0 ((p.1).first).stands in
    let both : Some sc.size ≡ Some (p.0).size = sym sc.known ∙ ap (slice_get lawful.sizes) (same ∙ sym p.2) ∙ known in
    let size : sc.size ≡ (p.0).size = ap (number_or 0) both in
    (sc.some, omega (arith, sc.fits, size, (p.1).wide))

pub short_ports : (vars : List Var) (changes : List Change) (scope : List ℕ) (wanted : List Signal) (codes : List ℕ)
    → IsSound (record { vars = vars; changes = changes })
    → All (λ (signal : Signal). signal.width ≤ 64) wanted → ArePorts vars scope wanted codes
    → All (λ code. AreShort changes code) codes
short_ports vars changes scope wanted codes lawful narrow ports k d low n change at same =
    let p = ports.each k (get_or codes k d) (slice_get-get_or codes k d low) in
    let f = change_fits vars changes scope p.0 (get_or codes k d) lawful p.2 n change at same in
    let inside : k < length wanted = slice_get_within wanted k p.0 p.1 in
    let both : Some (get_or wanted k p.0) ≡ Some p.0 = sym (slice_get-get_or wanted k p.0 inside) ∙ p.1 in
    let one : get_or wanted k p.0 ≡ p.0 = ap (signal_or p.0) both in
    let width : (p.0).width ≤ 64 = subst (λ (z : Signal). z.width ≤ 64) one (narrow k p.0 inside) in
    omega (arith, f.1)

abbrev clock_signal : Source → Signal
clock_signal s = record { name = s.clock; width = 1 }

pub clock_fault : (s : Source) (error : SampleError) → HasScope s.vars s.scope
    → AnswersPort s.vars s.scope (record { name = s.clock; width = 1 }) (Err error) → Answers s (Err error)
clock_fault s (MissingSignal name) scope h = (
  scope,
  record {
    place = 0;
    stands = refl;
    named = h.1;
    signal = clock_signal s;
    fault = h.0;
    fine_before =
        λ k other low at. absurd (omega arith);
  },
)
clock_fault s (WidthDiffers name) scope h = (
  scope,
  record {
    place = 0;
    stands = refl;
    named = h.1;
    signal = clock_signal s;
    fault = h.0;
    fine_before =
        λ k other low at. absurd (omega arith);
  },
)
clock_fault s OutOfMemory scope h = h
clock_fault s NoScope scope h = absurd h
clock_fault s NoCycles scope h = absurd h
clock_fault s (UnknownValue cycle name) scope h = absurd h

behind_clock : (s : Source) (Fault : Signal → Type 0) (name : List ℕ) (code : ℕ)
    → IsPort s.vars s.scope (record { name = s.clock; width = 1 }) code
    → FirstFault s.vars s.scope s.wanted Fault name → FirstFault s.vars s.scope (signals s) Fault name
behind_clock s Fault name code p f = record {
  place = suc f.place;
  stands = f.stands;
  named = f.named;
  signal = f.signal;
  fault = f.fault;
  fine_before = fine;
}
  where
    fine : (k : ℕ) (other : Signal) → k < suc f.place → slice_get (signals s) k ≡ Some other → (var : Var)
        × IsFor s.vars s.scope other var
    fine zero other low at = subst (λ (z : Signal). (var : Var) × IsFor s.vars s.scope z var)
        (ap (signal_or (clock_signal s)) at) (p.0, p.1)
    fine (suc k) other low at = f.fine_before k other (omega arith) at

pub port_fault : (s : Source) (error : SampleError) (code : ℕ) → HasScope s.vars s.scope
    → IsPort s.vars s.scope (record { name = s.clock; width = 1 }) code
    → HasPortFault s.vars s.scope s.wanted error → Answers s (Err error)
port_fault s (MissingSignal name) code scope p h = (scope, behind_clock s _ name code p h)
port_fault s (WidthDiffers name) code scope p h = (scope, behind_clock s _ name code p h)
port_fault s OutOfMemory code scope p h = h
port_fault s NoScope code scope p h = absurd h
port_fault s NoCycles code scope p h = absurd h
port_fault s (UnknownValue cycle name) code scope p h = absurd h

-- the port of a wanted signal
port_of : (s : Source) (codes : List ℕ) → ArePorts s.vars s.scope s.wanted codes → (k : ℕ) (signal : Signal)
    → slice_get s.wanted k ≡ Some signal
    → (code : ℕ) × (slice_get codes k ≡ Some code) × IsPort s.vars s.scope signal code
port_of s codes ports k signal at =
    let inside : k < length s.wanted = slice_get_within s.wanted k signal at in
    let here : slice_get codes k ≡ Some (get_or codes k 0) = slice_get-get_or codes k 0 (omega (arith, ports.wide)) in
    let p = ports.each k (get_or codes k 0) here in
    let both : Some p.0 ≡ Some signal = sym p.1 ∙ at in (
      get_or codes k 0,
      here,
      subst (λ (z : Signal). IsPort s.vars s.scope z (get_or codes k 0))
          (ap (signal_or signal) both) p.2,
    )

there : (s : Source) (clock : ℕ) (codes : List ℕ) (edges : List Edge)
    → IsPort s.vars s.scope (record { name = s.clock; width = 1 }) clock
    → ArePorts s.vars s.scope s.wanted codes → HasEdges s.changes clock edges → IsThere s (times_of edges)
there s clock codes edges p ports h = record {
  clock = p.0;
  clock_is = p.1;
  each = λ k signal at. let q = port_of s codes ports k signal at in ((q.2).0, (q.2).1);
  edges = subst (λ (n : ℕ). AreEdges s.changes n (times_of edges)) (sym p.2) h.edges_are;
}

-- a value is that of a sample
sample_of : (s : Source) (clock : ℕ) (edges : List Edge) (n k code value : ℕ) (edge : Edge) (signal : Signal)
    → HasEdges s.changes clock edges
    → slice_get edges (s.skip + n) ≡ Some edge → slice_get s.wanted k ≡ Some signal → IsPort s.vars s.scope signal code
    → HasValue s.changes code edge.start value
    → (digits : List ℕ) × Samples s (times_of edges) n k digits × AreKnown digits × (value ≡ bits_value digits)
sample_of s clock edges n k code value edge signal h at here p given =
    let v : HasValue s.changes (p.0).code edge.start value =
    subst (λ (c : ℕ). HasValue s.changes c edge.start value) (sym p.2) given in
    let change : Change = (v.1).0 in (
      extended (p.0).size change.digits,
      record {
        time = edge.time;
        begins = time_at edges (s.skip + n) edge at;
        signal = signal;
        stands = here;
        var = p.0;
        is = p.1;
        holds = inr (
          change,
          last_in_front s.changes (Before edge.time) (p.0).code edge.start v.0
              (h.fronts (s.skip + n) edge at).0 v.1,
          refl,
        );
      },
      extended_known (p.0).size change.digits v.2,
      v.3 ∙ sym (extended_number (p.0).size change.digits v.2),
    )

unknown_x : (size : ℕ) → 0 < size → ¬ AreKnown (repeat size (120 ∷ []))
unknown_x zero pos = absurd (omega arith)
unknown_x (suc n) pos = λ h. elim (h 0 48 (omega arith)) [
  | inl e ↦ omega arith
  | inr e ↦ omega arith
]

known_rest : (xs ys : List ℕ) → AreKnown (xs ++ ys) → AreKnown ys
known_rest [] ys h = h
known_rest (x ∷ xs) ys h = known_rest xs ys (All-tail (λ digit. (digit ≡ 48) ⊎ (digit ≡ 49)) x (xs ++ ys) h)

-- a port without a value has a sample with x or z
unknown_of : (s : Source) (clock : ℕ) (edges : List Edge) (n k code : ℕ) (edge : Edge) (signal : Signal)
    → IsSound (record { vars = s.vars; changes = s.changes })
    → HasEdges s.changes clock edges → slice_get edges (s.skip + n) ≡ Some edge → slice_get s.wanted k ≡ Some signal
    → IsPort s.vars s.scope signal code
    → HasNoValue s.changes code edge.start → IsUnknown s (times_of edges) n k
unknown_of s clock edges n k code edge signal lawful h at here p given =
    by (subst (λ (c : ℕ). HasNoValue s.changes c edge.start) (sym p.2) given)
  where
    sampled : (digits : List ℕ) → HasDigits s.changes (p.0).code (p.0).size (Before edge.time) digits
        → Samples s (times_of edges) n k digits
    sampled digits holds = record {
      time = edge.time;
      begins = time_at edges (s.skip + n) edge at;
      signal =
          signal;
      stands = here;
      var = p.0;
      is = p.1;
      holds = holds;
    }

    known : slice_get lawful.sizes (p.0).code ≡ Some (p.0).size
    known = lawful.vars ((p.1).first).place p.0 ((p.1).first).stands

    by : HasNoValue s.changes (p.0).code edge.start → IsUnknown s (times_of edges) n k
    by (inl none) = (
      repeat (p.0).size (120 ∷ []),
      sampled (repeat (p.0).size (120 ∷ []))
          (inl (
            none_in_front s.changes (Before edge.time) (p.0).code edge.start (h.fronts (s.skip + n) edge at).0 none,
            refl,
          )),
      unknown_x (p.0).size (lawful.each_size (p.0).code (p.0).size known).0,
    )
    by (inr v) = (
      extended (p.0).size ((v.1).0).digits,
      sampled (extended (p.0).size ((v.1).0).digits)
          (inr (
            (v.1).0,
            last_in_front s.changes (Before edge.time) (p.0).code edge.start v.0
                (h.fronts (s.skip + n) edge at).0 v.1,
            refl,
          )),
      λ all. v.2 (known_rest (repeat ((p.0).size - length ((v.1).0).digits) (extension ((v.1).0).digits ∷ []))
          ((v.1).0).digits all),
    )

abbrev var_or : Var → Option Var → Var
var_or other None = other
var_or other (Some var) = var

pub same_first : (vars : List Var) (scope name : List ℕ) (a b : Var) → IsFirst vars scope name a
    → IsFirst vars scope name b → a ≡ b
same_first vars scope name a b x y =
    let place : x.place ≡ y.place = elim (cases_lt x.place y.place) [
      | inl low ↦ absurd (y.none_before x.place a low x.stands x.named)
      | inr high ↦ elim (cases_lt y.place x.place) [
        | inl low ↦ absurd (x.none_before y.place b low y.stands y.named)
        | inr above ↦ omega arith
      ]
    ] in
    let both : Some a ≡ Some b = sym x.stands ∙ ap (slice_get vars) place ∙ y.stands in
    ap (var_or a) both

-- two samples of a cycle and a port have the same digits
pub one_sample : (s : Source) (times : List ℕ) (n k : ℕ) (x y : List ℕ) → Samples s times n k x
    → Samples s times n k y → x ≡ y
one_sample s times n k x y a b =
    let time_both : Some a.time ≡ Some b.time = sym a.begins ∙ b.begins in
    let time : a.time ≡ b.time = ap (number_or 0) time_both in
    let signal_both : Some a.signal ≡ Some b.signal = sym a.stands ∙ b.stands in
    let signal : a.signal ≡ b.signal = ap (signal_or a.signal) signal_both in
    let first : IsFirst s.vars s.scope (b.signal).name a.var =
    subst (λ (z : Signal). IsFirst s.vars s.scope z.name a.var) signal (a.is).first in
    let var : a.var ≡ b.var = same_first s.vars s.scope (b.signal).name a.var b.var first (b.is).first in
    let holds : HasDigits s.changes (b.var).code (b.var).size (Before b.time) x =
    subst (λ (v : Var). HasDigits s.changes v.code v.size (Before b.time) x) var
    (subst (λ (t : ℕ). HasDigits s.changes (a.var).code (a.var).size (Before t) x) time a.holds) in
    one_value s.changes (b.var).code (b.var).size (Before b.time) x y holds b.holds

-- a cycle and a port with a value are known
not_unknown : (s : Source) (clock : ℕ) (codes : List ℕ) (edges : List Edge) (n k : ℕ) → HasEdges s.changes clock edges
    → ArePorts s.vars s.scope s.wanted codes
    → ((edge : Edge) → slice_get edges (s.skip + n) ≡ Some edge → IsFull s.changes codes edge.start k)
    → ¬ IsUnknown s (times_of edges) n k
not_unknown s clock codes edges n k h ports full u =
    let a = u.1 in
    let low : s.skip + n < length (times_of edges) = slice_get_within (times_of edges) (s.skip + n) a.time a.begins in
    let nothing : Edge = record { time = 0; start = 0 } in
    let edge : Edge = get_or edges (s.skip + n) nothing in
    let at : slice_get edges (s.skip + n) ≡ Some edge =
    slice_get-get_or edges (s.skip + n) nothing (omega (arith, length-map edges (λ (e : Edge). e.time))) in
    let q = port_of s codes ports k a.signal a.stands in
    let v = full edge at q.0 q.1 in
    let b = sample_of s clock edges n k q.0 v.0 edge a.signal h at a.stands q.2 v.1 in
    u.2 (subst AreKnown (one_sample s (times_of edges) n k b.0 u.0 b.1 a) b.2)

pub trace_answers : (s : Source) (clock : ℕ) (codes : List ℕ) (result : Result (List (List ℕ)) SampleError)
    → IsSound (record { vars = s.vars; changes = s.changes })
    → IsPort s.vars s.scope (record { name = s.clock; width = 1 }) clock → ArePorts s.vars s.scope s.wanted codes
    → AnswersTrace s.changes clock codes s.wanted s.skip result → Answers s result
trace_answers s clock codes (Ok trace) lawful p ports h = record {
  times = times_of h.edges;
  there = there s clock codes h.edges p ports h.are;
  some = omega (arith, h.some, length-map h.edges (λ (e : Edge). e.time));
  long = h.long ∙ sym (length-map h.edges (λ (e : Edge). e.time));
  rows_are = λ n row at. let r = h.rows_are n row at in record {
    wide = (r.2).wide ∙ ports.wide;
    values = λ k value here.
        let v = (r.2).each k value here in
        let q = ports.each k v.0 v.1 in
        sample_of s clock h.edges n k v.0 value r.0 q.0 h.are r.1 q.1 q.2 v.2;
  };
}
trace_answers s clock codes (Err NoCycles) lawful p ports h = record {
  times = times_of h.edges;
  there = there s clock codes h.edges p ports h.are;
  none = omega (arith, h.none, length-map h.edges (λ (e : Edge). e.time));
}
trace_answers s clock codes (Err (UnknownValue cycle name)) lawful p ports h =
    let q = port_of s codes ports h.port h.signal h.stands in
    let both : Some (h.blank).0 ≡ Some q.0 = sym (h.blank).1 ∙ q.1 in
    let none : HasNoValue s.changes q.0 (h.edge).start =
    subst (λ (c : ℕ). HasNoValue s.changes c (h.edge).start) (ap (number_or 0) both) (h.blank).2 in
    record {
      times = times_of h.edges;
      there = there s clock codes h.edges p ports h.are;
      port = h.port;
      stands = h.stands;
      named = h.named;
      signal = h.signal;
      unknown = unknown_of s clock h.edges cycle h.port q.0 h.edge h.signal lawful h.are h.begins h.stands q.2 none;
      first = λ n k before. not_unknown s clock codes h.edges n k h.are ports (λ edge at. h.full n k edge before at);
    }
trace_answers s clock codes (Err OutOfMemory) lawful p ports h = h
trace_answers s clock codes (Err NoScope) lawful p ports h = absurd h
trace_answers s clock codes (Err (MissingSignal name)) lawful p ports h = absurd h
trace_answers s clock codes (Err (WidthDiffers name)) lawful p ports h = absurd h
