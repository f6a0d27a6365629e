-- The variables of a scope that stand for the clock and for the wanted signals.
use Rattle.std.specs.Prelude.{◌≡◌, ◌≢◌, ℕ, ◌<◌, List, Some, slice_get}
use Rattle.psl_model.specs.declared.names.Signal.{Signal}
use Rattle.vcd_reader.specs.declared.waveform.Var.{Var}

abbrev pub IsNamed : (scope name : List ℕ) → Var → Type 0
IsNamed scope name var = (var.scope ≡ scope) × (var.name ≡ name)

-- the first variable of that scope and name
pub record IsFirst (vars : List Var) (scope name : List ℕ) (var : Var) : Type 0 where
  pub place : ℕ
  pub stands : slice_get vars place ≡ Some var
  pub named : IsNamed scope name var
  pub none_before : (k : ℕ) (other : Var) → k < place → slice_get vars k ≡ Some other → ¬ IsNamed scope name other

abbrev pub HasNoVariable : List Var → (scope name : List ℕ) → Type 0
HasNoVariable vars scope name = (k : ℕ) (var : Var) → slice_get vars k ≡ Some var → ¬ IsNamed scope name var

abbrev pub HasNoScope : List Var → (scope : List ℕ) → Type 0
HasNoScope vars scope = (k : ℕ) (var : Var) → slice_get vars k ≡ Some var → var.scope ≢ scope

abbrev pub HasScope : List Var → (scope : List ℕ) → Type 0
HasScope vars scope = (k : ℕ) × (var : Var) × (slice_get vars k ≡ Some var) × (var.scope ≡ scope)

-- the variable that a signal is
pub record IsFor (vars : List Var) (scope : List ℕ) (signal : Signal) (var : Var) : Type 0 where
  pub first : IsFirst vars scope signal.name var
  pub wide : var.size ≡ signal.width

-- a variable is there, of another width
pub record DiffersInWidth (vars : List Var) (scope : List ℕ) (signal : Signal) : Type 0 where
  pub var : Var
  pub first : IsFirst vars scope signal.name var
  pub wide : var.size ≢ signal.width

-- each signal before the place is a variable, and with the signal there it stands so
pub record FirstFault (vars : List Var) (scope : List ℕ) (signals : List Signal) (Fault : Signal → Type 0)
    (name : List ℕ) : Type 0 where
  pub place : ℕ
  pub signal : Signal
  pub stands : slice_get signals place ≡ Some signal
  pub named : signal.name ≡ name
  pub fault : Fault signal
  pub fine_before : (k : ℕ) (other : Signal) → k < place → slice_get signals k ≡ Some other → (var : Var)
      × IsFor vars scope other var
