-- The small checker is lawful, and its output is the negation of its port.
use Rattle.std.proofs.Common.{◌≡◌, ℕ, zero, suc, ◌%◌, ◌^◌, ◌++◌, List, [], ◌∷◌, refl, ap, ◌∙◌, arith}
use Rattle.std.proofs.Common.{get_or}
use Rattle.std.specs.Prelude.{◌≢◌, ◌==◌, not, codes, All, AllPairs, IfSome, slice_get}
use Rattle.psl_model.specs.Value.{bit_of}
use Rattle.verilog_text.specs.Module.{IsLawful, IsPort, IsRegister, IsWire}
use Rattle.verilog_text.specs.Run.{Cycle, IsSettled, IsRunFromReset, fail_stream}
use Rattle.verilog_text.specs.Examples.{small_checker, one_then_zero}
use Rattle.verilog_text.proofs.PortNames.{a_is_usable}

one : {X : Type 0} (P : X → Type 0) (x : X) → P x → All P (x ∷ [])
one P x holds zero d lt = holds
one P x holds (suc k) d lt = absurd (omega arith)

one_alone : {X : Type 0} (R : X → X → Type 0) (x : X) → AllPairs R (x ∷ [])
one_alone R x i zero d lt within = absurd (omega arith)
one_alone R x i (suc j) d lt within = absurd (omega arith)

wires : (place : ℕ) → IfSome (slice_get small_checker.wires place) (IsWire small_checker place)
wires zero = record {
  width = (omega arith, omega arith);
  value =
      record { valid = omega arith; narrow = omega arith; shallow = omega arith };
}
wires (suc zero) =
    record {
      width = (omega arith, omega arith);
      value =
          record { valid = omega arith; narrow = omega arith; shallow = omega arith };
    }
wires (suc (suc place)) = tt

pub lawful : IsLawful small_checker
lawful = record {
  identifier = (refl, refl);
  prefix = refl;
  report = tt;
  ports = one IsPort (record { name = codes "a"; width = 1 })
      (record { name = a_is_usable; width = (omega arith, omega arith) });
  distinct = one_alone (λ p q. p ≢ q) (codes "a");
  registers = one (IsRegister small_checker) _ (record {
    width = (omega arith, omega arith);
    fits = omega arith;
    next = record { valid = (omega arith, omega arith, omega arith); narrow = omega arith; shallow = omega arith };
  });
  wires = wires;
  fail = record { valid = omega arith; narrow = omega arith; shallow = omega arith };
}

-- the value at a place behind `mbac_rst` and `mbac_eot`
abbrev at : (ports registers wires : List ℕ) → (place : ℕ) → ℕ
at ports registers wires place = get_or (ports ++ registers ++ wires) place 0

-- the output of a settled cycle whose port and register have one value each
output : (c : Cycle) (a r : ℕ) → c.ports ≡ a ∷ [] → c.registers ≡ r ∷ [] → IsSettled small_checker c →
    c.fail ≡ bit_of (bit_of (not (a == 0)) % 2 ^ 1 == 0) % 2 ^ 1 % 2 ^ 1
output c a r port register settled =
    let any : ℕ = bit_of (not (at c.ports c.registers c.wires 0 == 0)) % 2 ^ 1 in
    let none : ℕ = bit_of (at c.ports c.registers c.wires 2 == 0) % 2 ^ 1 in
    let wires : c.wires ≡ any ∷ none ∷ [] = settled.wires in
    let any_is : any ≡ bit_of (not (a == 0)) % 2 ^ 1 =
    ap (λ (ports : List ℕ). bit_of (not (at ports c.registers c.wires 0 == 0)) % 2 ^ 1) port in
    let none_is : none ≡ bit_of (any == 0) % 2 ^ 1 =
    ap (λ (ports : List ℕ). bit_of (at ports c.registers c.wires 2 == 0) % 2 ^ 1) port
    ∙ ap (λ (registers : List ℕ). bit_of (at (a ∷ []) registers c.wires 2 == 0) % 2 ^ 1) register
    ∙ ap (λ (wires : List ℕ). bit_of (at (a ∷ []) (r ∷ []) wires 2 == 0) % 2 ^ 1) wires in
    settled.fail
    ∙ ap (λ (ports : List ℕ). at ports c.registers c.wires 3 % 2 ^ 1) port
    ∙ ap (λ (registers : List ℕ). at (a ∷ []) registers c.wires 3 % 2 ^ 1) register
    ∙ ap (λ (wires : List ℕ). at (a ∷ []) (r ∷ []) wires 3 % 2 ^ 1) wires
    ∙ ap (λ (n : ℕ). n % 2 ^ 1) none_is
    ∙ ap (λ (n : ℕ). bit_of (n == 0) % 2 ^ 1 % 2 ^ 1) any_is

pub stream : (eots : List ℕ) (reset : Cycle) (cycles : List Cycle) →
    IsRunFromReset small_checker one_then_zero eots reset cycles →
    fail_stream cycles ≡ 0 ∷ 1 ∷ []
stream (e ∷ f ∷ []) reset (c ∷ d ∷ []) run =
    let first = output c 1 _ run.goes_on.0.ports run.run.1 run.run.2.0 in
    let second = output d 0 _ run.goes_on.1.0.ports run.run.2.1 run.run.2.2 in
    cc
stream [] reset [] run = absurd run.goes_on
stream [] reset (c ∷ []) run = absurd run.goes_on
stream [] reset (c ∷ d ∷ cycles) run = absurd run.goes_on
stream (e ∷ []) reset [] run = absurd run.goes_on
stream (e ∷ []) reset (c ∷ []) run = absurd run.goes_on.1
stream (e ∷ []) reset (c ∷ d ∷ cycles) run = absurd run.goes_on.1
stream (e ∷ f ∷ eots) reset [] run = absurd run.goes_on
stream (e ∷ f ∷ eots) reset (c ∷ []) run = absurd run.goes_on.1
stream (e ∷ f ∷ g ∷ eots) reset (c ∷ d ∷ []) run = absurd run.goes_on.1.1
stream (e ∷ f ∷ []) reset (c ∷ d ∷ b ∷ cycles) run = absurd run.goes_on.1.1
stream (e ∷ f ∷ g ∷ eots) reset (c ∷ d ∷ b ∷ cycles) run = absurd run.goes_on.1.1
