-- What a cycle machine does, told by the runs of its module.
--     IsStep m inputs eot before after answer      one cycle without reset
--     AreSteps m inputs eots before answers after  such a cycle for each of the inputs, one after the other
-- `before` and `after` are the values of the registers.
use Rattle.std.specs.Prelude.{◌≡◌, ℕ, Bool, List, [], ◌∷◌, map}
use Rattle.psl_model.specs.Value.{bit_of}
use Rattle.verilog_text.specs.Module.{Module, Register}
use Rattle.verilog_text.specs.Run.{Cycle, IsSettled, Follows, HasInputs}

-- the values of the registers after reset
abbrev pub reset_values : Module → List ℕ
reset_values m = map (λ (r : Register). r.initial) m.registers

-- There is a settled cycle with these inputs and register values. Its output is the answer, and each cycle that follows
-- it has the other register values.
pub record IsStep (m : Module) (inputs : List ℕ) (eot : Bool) (before after : List ℕ) (answer : Bool) : Type 0 where
  pub cycle : Cycle
  pub has_inputs : HasInputs inputs (bit_of eot) cycle
  pub has_registers : cycle.registers ≡ before
  pub settled : IsSettled m cycle
  pub output : cycle.fail ≡ bit_of answer
  pub follows : (next : Cycle) → next.registers ≡ after → Follows m cycle next

abbrev pub AreSteps : (m : Module) → (inputs : List (List ℕ)) → (eots : List Bool) → (before : List ℕ) →
    (answers : List Bool) → (after : List ℕ) → Type 0
AreSteps m [] [] before [] after = before ≡ after
AreSteps m (ports ∷ inputs) (eot ∷ eots) before (answer ∷ answers) after =
    (between : List ℕ) × IsStep m ports eot before between answer × AreSteps m inputs eots between answers after
AreSteps _ _ _ _ _ _ = ⊥
