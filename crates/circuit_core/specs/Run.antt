-- What a netlist does: in each cycle each net has the value of its node's equation. A run gives each net a stream, and
-- the equations name no order.
--     IsRunOf m inputs run     the run meets the equations of the netlist over the inputs
--     InEachRun m P            P of each run over any inputs
--     InEachCycle m P          P of each cycle of each run
use Rattle.std.specs.Prelude.{ℕ, zero, suc, ◌≡◌, ◌≢◌, ◌<◌, Bool, true, false, List, Some, IfSome, length, slice_get}
use Rattle.psl_model.specs.Value.{own_value}
use Rattle.circuit_core.specs.Netlist.{Op, bit, eot, guard, not, and, or, register, Node, Register, Netlist}

-- a value in each cycle
abbrev pub Stream : Type 0
Stream = ℕ → ℕ

-- a stream for each net
abbrev pub Run : Type 0
Run = ℕ → Stream

abbrev pub On : Stream → ℕ → Type 0
On s n = s n ≢ 0

-- the signals' values and that of `mbac_eot`, cycle by cycle; any value but 0 of the latter is read as 1
pub record Inputs : Type 0 where
  pub trace : List (List ℕ)
  pub eot : Stream

abbrev pub number : Bool → ℕ
number true = 1
number false = 0

-- the values of one bit
abbrev pub truth : ℕ → ℕ
truth zero = 0
truth (suc x) = 1

abbrev pub flipped : ℕ → ℕ
flipped zero = 1
flipped (suc x) = 0

abbrev pub both : ℕ → ℕ → ℕ
both zero y = 0
both (suc x) y = truth y

abbrev pub either : ℕ → ℕ → ℕ
either zero y = truth y
either (suc x) y = 1

-- what holds in each cycle of the trace
abbrev pub Throughout : Inputs → (ℕ → Type 0) → Type 0
Throughout inputs P = (n : ℕ) → n < length inputs.trace → P n

-- a register begins with its reset value, and then has what its next had in the cycle before; while it has no next, it
-- is free after the first cycle
pub record IsRegisterStream (inputs : Inputs) (run : Run) (stream : Stream) (r : Register) : Type 0 where
  pub begins : 0 < length inputs.trace → stream 0 ≡ r.initial
  pub goes_on : IfSome r.next (λ next. (n : ℕ) → suc n < length inputs.trace → stream (suc n) ≡ run next n)

-- the stream is that of a node
abbrev pub Equation : Netlist → Inputs → Run → Stream → Op → Type 0
Equation m inputs run stream (bit b) = Throughout inputs (λ n. stream n ≡ number b)
Equation m inputs run stream eot = Throughout inputs (λ n. stream n ≡ truth (inputs.eot n))
Equation m inputs run stream (guard e) =
    (n : ℕ) (values : List ℕ) → slice_get inputs.trace n ≡ Some values →
    stream n ≡ truth (own_value m.widths values e)
Equation m inputs run stream (not a) = Throughout inputs (λ n. stream n ≡ flipped (run a n))
Equation m inputs run stream (and a b) = Throughout inputs (λ n. stream n ≡ both (run a n) (run b n))
Equation m inputs run stream (or a b) = Throughout inputs (λ n. stream n ≡ either (run a n) (run b n))
Equation m inputs run stream (register r) =
    (x : Register) → slice_get m.registers r ≡ Some x → IsRegisterStream inputs run stream x

pub record IsRunOf (m : Netlist) (inputs : Inputs) (run : Run) : Type 0 where
  pub nets : (k : ℕ) (node : Node) → slice_get m.nodes k ≡ Some node → Equation m inputs run (run k) node.op

abbrev pub InEachRun : Netlist → (Inputs → Run → Type 0) → Type 0
InEachRun m P = (inputs : Inputs) (run : Run) → IsRunOf m inputs run → P inputs run

abbrev pub InEachCycle : Netlist → (Run → ℕ → Type 0) → Type 0
InEachCycle m P = InEachRun m (λ inputs run. Throughout inputs (P run))
