-- What the runs of the negation checker are: its output is the negation of its port, cycle by cycle.
use Rattle.std.proofs.Common.{◌≡◌, ℕ, zero, suc, ◌%◌, ◌^◌, ◌<◌, ◌≤◌, ◌↔◌, ◌++◌, Bool, true, false, cond, List, [], ◌∷◌}
use Rattle.std.proofs.Common.{map, length, take, refl, ap, sym, ◌∙◌, arith, subst, Some, get_or}
use Rattle.std.specs.Prelude.{◌==◌, slice_get, slice_index, Any, Contains}
use Rattle.std.proofs.lemmas.Bool.Decides.{nat_tests}
use Rattle.std.proofs.lemmas.Nat.{pow_pos}
use Rattle.std.specs.List.{AllByRecursion}
use Rattle.psl_model.specs.declared.names.Signal.{Signal}
use Rattle.psl_model.specs.Expr.{Expr, whole}
use Rattle.psl_model.specs.Formula.{bool, always}
use Rattle.psl_model.specs.Value.{own_value}
use Rattle.psl_meaning.specs.Word.{Valuation}
use Rattle.psl_meaning.specs.Violation.{WeaklyViolates, Violates}
use Rattle.verilog_text.specs.Run.{Cycle, IsSettled, IsRun, IsRunFromReset, HasInputs, HaveInputs, fail_stream, RisesBy}
use Rattle.checker_meaning.specs.Checks.{values_at, Checks, never_ends, ends_last}
use Rattle.checker_meaning.specs.NegationChecker.{negation_checker}

-- the output over these values of the signals
abbrev pub negated : Valuation → ℕ
negated values = cond (slice_index values 0 == 0) 1 0

abbrev pub IsZero : Valuation → Type 0
IsZero values = slice_index values 0 ≡ 0

pub settled_all : (name : List ℕ) (port : Signal) (c : Cycle) (cycles : List Cycle) →
    IsRun (negation_checker name port) (c ∷ cycles) → AllByRecursion (IsSettled (negation_checker name port)) cycles
settled_all name port c [] run = tt
settled_all name port c (d ∷ []) run = (run.2, tt)
settled_all name port c (d ∷ e ∷ cycles) run = (run.2.0, settled_all name port d (e ∷ cycles) run.2)

bit_small : (b : Bool) → (cond b 1 0) % 2 ^ 1 ≡ cond b 1 0
bit_small true = refl
bit_small false = refl

pub output_of : (name : List ℕ) (port : Signal) (values : Valuation) (eot : ℕ) (c : Cycle) →
    HasInputs (values_at (0 ∷ []) values) eot c → IsSettled (negation_checker name port) c → c.fail ≡ negated values
output_of name port values eot c inputs settled =
    settled.fail
    ∙ ap (λ (ports : List ℕ). cond (get_or (ports ++ c.registers ++ c.wires) 0 0 == 0) 1 0 % 2 ^ 1) inputs.ports
    ∙ bit_small (slice_index values 0 == 0)

pub stream_of : (name : List ℕ) (port : Signal) (trace : List Valuation) (eots : List ℕ) (cycles : List Cycle) →
    HaveInputs (map (values_at (0 ∷ [])) trace) eots cycles →
    AllByRecursion (IsSettled (negation_checker name port)) cycles →
    fail_stream cycles ≡ map negated trace
stream_of name port [] [] [] inputs settled = refl
stream_of name port [] [] (c ∷ cycles) inputs settled = absurd inputs
stream_of name port [] (eot ∷ eots) cycles inputs settled = absurd inputs
stream_of name port (values ∷ trace) [] cycles inputs settled = absurd inputs
stream_of name port (values ∷ trace) (eot ∷ eots) [] inputs settled = absurd inputs
stream_of name port (values ∷ trace) (eot ∷ eots) (c ∷ cycles) inputs settled =
    cc (output_of name port values eot c inputs.0 settled.0, stream_of name port trace eots cycles inputs.1 settled.1)

zero_is : (values : Valuation) → negated values ≡ 1 → IsZero values
zero_is values e = grind (arith, nat_tests)

is_one : (values : Valuation) → IsZero values → negated values ≡ 1
is_one values e = rw e refl

-- a list of outputs has a 1 at a place up to n exactly if one of its first n + 1 valuations gives the port 0
pub any_of_rise : (trace : List Valuation) (n k : ℕ) → k ≤ n → slice_get (map negated trace) k ≡ Some 1 →
    Any IsZero (take (suc n) trace)
any_of_rise [] n k le e = cc
any_of_rise (values ∷ trace) n zero le e =
    let is : negated values ≡ 1 = cc in
    (0, values, omega arith, refl, zero_is values is)
any_of_rise (values ∷ trace) zero (suc k) le e = absurd (omega arith)
any_of_rise (values ∷ trace) (suc n) (suc k) le e =
    let lower : k ≤ n = omega arith in
    let found = any_of_rise trace n k lower e in
    (suc found.0, found.1, omega arith, found.3, found.4)

pub rise_of_any : (trace : List Valuation) (n : ℕ) → Any IsZero (take (suc n) trace) → RisesBy (map negated trace) n
rise_of_any trace n found = rise_at trace n found.0 found.1 found.2 found.3 found.4 where
  rise_at : (trace : List Valuation) (n k : ℕ) (x : Valuation) → k < length (take (suc n) trace) →
      get_or (take (suc n) trace) k x ≡ x → IsZero x → RisesBy (map negated trace) n
  rise_at [] n k x lt e p = absurd (omega arith)
  rise_at (values ∷ trace) n zero x lt e p = (0, omega arith, ap Some (is_one values (subst IsZero (sym e) p)))
  rise_at (values ∷ trace) zero (suc k) x lt e p = absurd (omega arith)
  rise_at (values ∷ trace) (suc n) (suc k) x lt e p =
      let lower : k < length (take (suc n) trace) = omega arith in
      let found = rise_at trace n k x lower e p in
      (suc found.0, omega arith, found.2)

pub any_of_one : (trace : List Valuation) → Contains (map negated trace) 1 → Any IsZero trace
any_of_one trace found = any_at trace found.0 found.1 found.2 where
  any_at : (trace : List Valuation) (k : ℕ) → k < length (map negated trace) → get_or (map negated trace) k 1 ≡ 1 →
      Any IsZero trace
  any_at [] k lt e = absurd (omega arith)
  any_at (values ∷ trace) zero lt e = (0, values, omega arith, refl, zero_is values e)
  any_at (values ∷ trace) (suc k) lt e =
      let lower : k < length (map negated trace) = omega arith in
      let found = any_at trace k lower e in
      (suc found.0, found.1, omega arith, found.3, found.4)

pub one_of_any : (trace : List Valuation) → Any IsZero trace → Contains (map negated trace) 1
one_of_any trace found = one_at trace found.0 found.1 found.2 found.3 found.4 where
  one_at : (trace : List Valuation) (k : ℕ) (x : Valuation) → k < length trace → get_or trace k x ≡ x → IsZero x →
      Contains (map negated trace) 1
  one_at [] k x lt e p = absurd (omega arith)
  one_at (values ∷ trace) zero x lt e p = (0, omega arith, is_one values (subst IsZero (sym e) p))
  one_at (values ∷ trace) (suc k) x lt e p =
      let lower : k < length trace = omega arith in
      let found = one_at trace k x lower e p in
      (suc found.0, omega arith, found.2)

-- the output of each run over a trace, whatever `mbac_eot` is
pub run_gives : (name : List ℕ) (port : Signal) (trace : List Valuation) (eots : List ℕ) (reset : Cycle)
    (cycles : List Cycle) →
    IsRunFromReset (negation_checker name port) (map (values_at (0 ∷ [])) trace) eots reset cycles →
    fail_stream cycles ≡ map negated trace
run_gives name port trace eots reset cycles run =
    stream_of name port trace eots cycles run.goes_on (settled_all name port reset cycles run.run)

-- what a list of valuations does to the assertion, by its first valuation of 0
abbrev pub Weakly : Type 0
Weakly = (widths : List ℕ) (e : Expr) (trace : List Valuation) → WeaklyViolates widths (always (bool e)) trace ↔
    Any (λ values. own_value widths values e ≡ 0) trace

abbrev pub Neutrally : Type 0
Neutrally = (widths : List ℕ) (e : Expr) (trace : List Valuation) → Violates widths (always (bool e)) trace ↔
    Any (λ values. own_value widths values e ≡ 0) trace

pub checks : Weakly → Neutrally → (name : List ℕ) (port : Signal) →
    Checks (port.width ∷ []) (0 ∷ []) (negation_checker name port) (always (bool (whole 0)))
checks weakly neutrally name port = record {
  rises = λ trace reset cycles is run n lt.
      let stream = run_gives name port trace (never_ends trace) reset cycles run in
      let law = weakly (port.width ∷ []) (whole 0) (take (suc n) trace) in (
        λ rises. let rises' = subst (λ s. RisesBy s n) stream rises in
            law.1 (any_of_rise trace n rises'.0 rises'.1 rises'.2),
        λ violates. subst (λ s. RisesBy s n) (sym stream) (rise_of_any trace n (law.0 violates)),
      );
  ends = λ trace reset cycles is run.
      let stream = run_gives name port trace (ends_last trace) reset cycles run in
      let law = neutrally (port.width ∷ []) (whole 0) trace in (
        λ one. law.1 (any_of_one trace (subst (λ s. Contains s 1) stream one)),
        λ violates. subst (λ s. Contains s 1) (sym stream) (one_of_any trace (law.0 violates)),
      );
}

-- a cycle after reset, with these values of the signals
abbrev cycle_of : Valuation → (eot : ℕ) → Cycle
cycle_of values eot = record {
  reset = 0;
  end_of_execution = eot;
  ports = values_at (0 ∷ []) values;
  registers = [];
  wires = [];
  fail = cond (slice_index values 0 == 0) 1 0 % 2 ^ 1;
}

abbrev cycles_of : List Valuation → (eots : List ℕ) → List Cycle
cycles_of [] eots = []
cycles_of (values ∷ trace) [] = []
cycles_of (values ∷ trace) (eot ∷ eots) = cycle_of values eot ∷ cycles_of trace eots

-- the cycle of reset, with the port at 0
abbrev reset_cycle : Cycle
reset_cycle = record { reset = 1; end_of_execution = 0; ports = 0 ∷ []; registers = []; wires = []; fail = 1 }

goes_on : (trace : List Valuation) (eots : List ℕ) → length eots ≡ length trace →
    HaveInputs (map (values_at (0 ∷ [])) trace) eots (cycles_of trace eots)
goes_on [] [] same = tt
goes_on [] (eot ∷ eots) same = absurd (omega arith)
goes_on (values ∷ trace) [] same = absurd (omega arith)
goes_on (values ∷ trace) (eot ∷ eots) same =
    let less : length eots ≡ length trace = omega arith in
    (record { reset = refl; end_of_execution = refl; ports = refl }, goes_on trace eots less)

runs : (name : List ℕ) (port : Signal) (trace : List Valuation) (eots : List ℕ) (c : Cycle) →
    IsSettled (negation_checker name port) c →
    IsRun (negation_checker name port) (c ∷ cycles_of trace eots)
runs name port [] eots c settled = settled
runs name port (values ∷ trace) [] c settled = settled
runs name port (values ∷ trace) (eot ∷ eots) c settled =
    (settled, refl, runs name port trace eots (cycle_of values eot) (record { wires = refl; fail = refl }))

-- the checker has a run over each trace
pub has_run : (name : List ℕ) (port : Signal) (trace : List Valuation) (eots : List ℕ) → length eots ≡ length trace →
    (reset : Cycle) × (cycles : List Cycle) ×
    IsRunFromReset (negation_checker name port) (map (values_at (0 ∷ [])) trace) eots reset cycles
has_run name port trace eots same = (
  reset_cycle,
  cycles_of trace eots,
  record {
    run = runs name port trace eots reset_cycle (record { wires = refl; fail = refl });
    begins = record { reset = refl; end_of_execution = omega arith; ports = (pow_pos port.width, tt); registers = tt };
    goes_on = goes_on trace eots same;
  },
)
