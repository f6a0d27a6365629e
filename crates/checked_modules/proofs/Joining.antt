-- From a netlist that checks a formula, and a module that keeps the netlist's stream, to a module that checks it.
use Rattle.std.specs.Prelude.{ℕ, zero, suc, ◌≡◌, ◌≢◌, ◌↔◌, ◌<◌, ◌-◌, ◌++◌, List, [], ◌∷◌, Option, Some, IsSomeAnd, All}
use Rattle.std.specs.Prelude.{Contains, length, map, replicate, take, slice_get}
use Rattle.std.proofs.Common.{refl, sym, ap, ◌∙◌, subst, arith}
use Rattle.std.proofs.lemmas.List.{length-map, take-map}
use Rattle.std.proofs.lemmas.List.Elements.{All-append, All-from_recursion, All-map, All-replicate, All-take}
use Rattle.psl_model.specs.Formula.{Formula}
use Rattle.psl_model.specs.Value.{FitWidths}
use Rattle.psl_meaning.specs.Word.{Valuation}
use Rattle.psl_meaning.specs.Violation.{WeaklyViolates, Violates}
use Rattle.circuit_core.specs.Netlist.{Netlist}
use Rattle.circuit_core.specs.Starts.{ComesBy}
use Rattle.verilog_text.specs.Module.{Module}
use Rattle.verilog_text.specs.Run.{Cycle, IsRunFromReset, fail_stream, RisesBy}
use Rattle.verilog_text.specs.Stream.{KeepsStream, IsStreamOf, inputs_of}
use Rattle.checker_meaning.specs.Checks.{Checks, IsTrace, values_at, never_ends, ends_last}
use Rattle.circuit_meaning.specs.Checks as circuit
use Rattle.checked_modules.specs.Readings.{ReadsAs}
use Rattle.checked_modules.proofs.Streams.{HasOneBit, Shows, small_output, rises_as_it_comes, contains_as_it_rises}
use Rattle.checked_modules.proofs.Streams.{never_marked, last_marked}

zeros_are_bits : (count : ℕ) → All (λ eot. eot < 2) (replicate count 0)
zeros_are_bits count = All-replicate (λ eot. eot < 2) count 0 (omega arith)

one_is_a_bit : All (λ eot. eot < 2) (1 ∷ [])
one_is_a_bit = All-replicate (λ eot. eot < 2) 1 1 (omega arith)

counted : (trace : List Valuation) → trace ≢ [] → suc (length trace - 1) ≡ length trace
counted [] some = absurd (some refl)
counted (values ∷ trace) some = omega arith

module _ (law : HasOneBit) (m : Netlist) (made : Module) (widths places : List ℕ) (f inner : Formula)
    (reads : ReadsAs widths places m.widths f inner) (checks : circuit.Checks m m.widths inner)
    (keeps : KeepsStream m made) where
  module _ (trace : List Valuation) (eots : List ℕ) (reset : Cycle) (cycles : List Cycle)
      (fits : All (FitWidths widths) trace) (bits : All (λ eot. eot < 2) eots)
      (run : IsRunFromReset made (map (values_at places) trace) eots reset cycles) where
    pub kept : IsStreamOf m (inputs_of (map (values_at places) trace) eots) (fail_stream cycles)
    kept = keeps (map (values_at places) trace) eots reset cycles
        (All-map (FitWidths m.widths) (values_at places) trace (λ k d inside. reads.fits _ (fits k d inside))) bits run

    shows : Shows (length (map (values_at places) trace)) (fail_stream cycles) (kept.run checks.out)
    shows = record {
      at = output;
      small = λ n within. small_output law made reset cycles run.run n (kept.run checks.out n) (output n within);
    }
      where
        P : ℕ → Type 0
        P out = (n : ℕ) → n < length (map (values_at places) trace) →
            slice_get (fail_stream cycles) n ≡ Some (kept.run out n)

        output : P checks.out
        output = subst (λ (o : Option ℕ). IsSomeAnd o P) checks.is_output kept.output

    same_length : length (map (values_at places) trace) ≡ length trace
    same_length = length-map trace (values_at places)

    pub rises_so : (n : ℕ) → n < length trace →
        RisesBy (fail_stream cycles) n ↔ ComesBy (kept.run checks.out) n
    rises_so n within =
        rises_as_it_comes (length (map (values_at places) trace)) (fail_stream cycles) (kept.run checks.out) shows n
        (omega (arith, same_length))

    pub contains_so : (last : ℕ) → suc last ≡ length trace →
        Contains (fail_stream cycles) 1 ↔ ComesBy (kept.run checks.out) last
    contains_so last is_last =
        let length_of : suc last ≡ length (fail_stream cycles) = is_last ∙ sym same_length ∙ sym kept.count in
        let first = contains_as_it_rises (fail_stream cycles) last length_of in
        let second = rises_so last (omega (arith, is_last)) in
        ((λ c. second.0 (first.0 c)), (λ c. first.1 (second.1 c)))

  pub joined : Checks widths places made f
  joined = record {
    rises = λ trace reset cycles is_trace run n within.
        let eots = never_ends trace in
        let bits = zeros_are_bits (length trace) in
        let k = kept trace eots reset cycles is_trace.fits bits run in
        let moved_length : length (map (values_at places) trace) ≡ length trace = length-map trace (values_at places) in
        let comes = rises_so trace eots reset cycles is_trace.fits bits run n within in
        let judged = checks.rises (inputs_of (map (values_at places) trace) eots) k.run k.is_run
        (λ i inside on. on (never_marked (length trace) i)) n (omega (arith, moved_length)) in
        let e : take (suc n) (map (values_at places) trace) ≡ map (values_at places) (take (suc n) trace) =
        take-map (values_at places) (suc n) trace in
        let P : List Valuation → Type 0 = λ ls. WeaklyViolates m.widths inner ls in
        let meaning = reads.weakly (take (suc n) trace) (All-take (FitWidths widths) (suc n) trace is_trace.fits) in (
          (λ r. meaning.1 (subst P e (judged.0 (comes.0 r)))),
          (λ w. comes.1 (judged.1 (subst P (sym e) (meaning.0 w)))),
        );
    ends = λ trace reset cycles is_trace run.
        let eots = ends_last trace in
        let last = length trace - 1 in
        let bits = All-append (λ eot. eot < 2) (replicate last 0) (1 ∷ []) (zeros_are_bits last) one_is_a_bit in
        let k = kept trace eots reset cycles is_trace.fits bits run in
        let is_last : suc last ≡ length trace = counted trace is_trace.not_empty in
        let moved_length : length (map (values_at places) trace) ≡ length trace = length-map trace (values_at places) in
        let comes = contains_so trace eots reset cycles is_trace.fits bits run last is_last in
        let judged = checks.ends (inputs_of (map (values_at places) trace) eots) k.run k.is_run last
        (is_last ∙ sym moved_length) (λ i inside. last_marked last i) in
        let meaning = reads.whole trace is_trace.not_empty is_trace.fits in
        ((λ c. meaning.1 (judged.0 (comes.0 c))), (λ w. comes.1 (judged.1 (meaning.0 w))));
  }
