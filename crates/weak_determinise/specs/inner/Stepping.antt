-- What is known of the steps of a set while they are gathered.
use Rattle.std.specs.Prelude.{◌≡◌, ◌<◌, ◌↔◌, ◌⊎◌, ℕ, Bool, true, false, List, [], ◌∷◌, ◌++◌, Some, All, length}
use Rattle.std.specs.Prelude.{slice_get, slice_index_or}
use Rattle.auto_core.specs.declared.labels.Literal.{Literal}
use Rattle.auto_core.specs.Machine.{Machine, Passes, value_in}
use Rattle.auto_core.specs.Graph.{IsAlive}
use Rattle.weak_determinise.specs.declared.marking.Steps.{Steps}
use Rattle.weak_determinise.specs.inner.Among.{Among}
use Rattle.weak_determinise.specs.inner.Numbers.{IsRising}

-- a step with this label to this state
pub record Step : Type 0 where
  pub label : List Literal
  pub to : ℕ

abbrev pub step_to : List Literal → ℕ → Step
step_to label t = record { label = label; to = t }

-- the steps with this label to each of these states
abbrev pub steps_to : List Literal → List ℕ → List Step
steps_to label [] = []
steps_to label (t ∷ ts) = step_to label t ∷ steps_to label ts

-- the steps of labels, each with the row of the states that steps with it lead to
abbrev pub steps_in : List (List Literal) → List (List ℕ) → List Step
steps_in [] rows = []
steps_in (label ∷ labels) [] = []
steps_in (label ∷ labels) (row ∷ rows) = steps_to label row ++ steps_in labels rows

abbrev pub all_steps : Steps → List Step
all_steps steps = steps_in steps.labels.items steps.rows.items

-- ---- gathering

-- each label has a row, in order, and a step
pub record IsGathered (labels : List (List Literal)) (rows : List (List ℕ)) : Type 0 where
  pub even : length labels ≡ length rows
  pub rising : (row : List ℕ) → Among rows row → IsRising row
  pub used : (label : List Literal) → Among labels label →
      (t : ℕ) × Among (steps_in labels rows) (step_to label t)

-- the label has a row at this place, which may be a new one without a member; all else is as it was
pub record HasRowFor (label : List Literal) (labels : List (List Literal)) (rows : List (List ℕ))
    (labels' : List (List Literal)) (rows' : List (List ℕ)) (place : ℕ) : Type 0 where
  pub there : slice_get labels' place ≡ Some label
  pub even : length labels' ≡ length rows'
  pub rising : (row : List ℕ) → Among rows' row → IsRising row
  pub steps : steps_in labels' rows' ≡ steps_in labels rows
  pub known : (other : List Literal) → Among labels' other → (other ≡ label) ⊎ Among labels other

-- the new steps are the old and this one
abbrev pub PutsStep : List Literal → ℕ → List Step → List Step → Type 0
PutsStep label to old new =
    (step : Step) → Among new step ↔ ((step ≡ step_to label to) ⊎ Among old step)

-- the edge at this place of the state is a step, and leads to an alive state
abbrev pub IsStepAt : Machine ℕ → ℕ → ℕ → Step → Type 0
IsStepAt m state place step = (slice_get (m.edges state) place ≡ Some (step.label, step.to)) × IsAlive m step.to

pub record TakesStep (m : Machine ℕ) (state place : ℕ) (old new : List Step) : Type 0 where
  pub members : (step : Step) → Among new step ↔ (IsStepAt m state place step ⊎ Among old step)

-- the steps at the first places of a state's edges are put in
pub record AddsSteps (m : Machine ℕ) (state count : ℕ) (old new : List Step) : Type 0 where
  pub members : (step : Step) → Among new step ↔
      (((place : ℕ) × (place < count) × IsStepAt m state place step) ⊎ Among old step)

-- the steps of these states to alive states
pub record AreSteps (m : Machine ℕ) (states : List ℕ) (steps : List Step) : Type 0 where
  pub members : (step : Step) → Among steps step ↔
      ((s : ℕ) × Among states s × Among (m.edges s) (step.label, step.to) × IsAlive m step.to)

-- ---- symbols

pub record PutsSymbols (label : List Literal) (old new : List ℕ) : Type 0 where
  pub rising : IsRising new
  pub members : (x : ℕ) → Among new x ↔ (((l : Literal) × Among label l × (l.symbol ≡ x)) ⊎ Among old x)

-- the symbols in the labels
pub record AreSymbolsOf (labels : List (List Literal)) (symbols : List ℕ) : Type 0 where
  pub rising : IsRising symbols
  pub members : (x : ℕ) → Among symbols x ↔
      ((label : List Literal) × (l : Literal) × Among labels label × Among label l × (l.symbol ≡ x))

-- the symbols in the labels of the steps
pub record AreSymbols (steps : List Step) (symbols : List ℕ) : Type 0 where
  pub rising : IsRising symbols
  pub members : (x : ℕ) → Among symbols x ↔
      ((step : Step) × (l : Literal) × Among steps step × Among step.label l × (l.symbol ≡ x))

-- the same literals, over the symbols' places
pub record IsRenamed (symbols : List ℕ) (label renamed : List Literal) : Type 0 where
  pub members : (r : Literal) → Among renamed r ↔
      ((l : Literal) × Among label l × (slice_get symbols r.symbol ≡ Some l.symbol) × (r.positive ≡ l.positive))

-- label by label
abbrev pub AreRenamedLabels : List ℕ → List (List Literal) → List (List Literal) → Type 0
AreRenamedLabels symbols [] [] = Unit {0}
AreRenamedLabels symbols [] (r ∷ rs) = ⊥
AreRenamedLabels symbols (l ∷ ls) [] = ⊥
AreRenamedLabels symbols (l ∷ ls) (r ∷ rs) = IsRenamed symbols l r × AreRenamedLabels symbols ls rs

pub record AreRenamed (symbols : List ℕ) (steps renamed : List Step) : Type 0 where
  pub all : (step : Step) → Among steps step →
      (r : Step) × Among renamed r × IsRenamed symbols step.label r.label × (r.to ≡ step.to)
  pub only : (r : Step) → Among renamed r →
      (step : Step) × Among steps step × IsRenamed symbols step.label r.label × (r.to ≡ step.to)

-- ---- targets

-- the steps have symbols below the one number and lead to states below the other
pub record IsFor (symbols states : ℕ) (steps : Steps) : Type 0 where
  pub even : length steps.labels.items ≡ length steps.rows.items
  pub known : All (λ label. All (λ l. l.symbol < symbols) label) steps.labels.items
  pub owned : All (λ row. All (λ s. s < states) row) steps.rows.items

abbrev pub IsMarked : List Bool → ℕ → Type 0
IsMarked marks t = slice_index_or marks t false ≡ true

-- what has this property is marked, and nothing else changes
pub record AddsMarks (P : ℕ → Type 0) (old new : List Bool) : Type 0 where
  pub size : length new ≡ length old
  pub members : (t : ℕ) → IsMarked new t ↔ (P t ⊎ IsMarked old t)

-- the marked numbers below this one
pub record AreMarked (marks : List Bool) (count : ℕ) (next : List ℕ) : Type 0 where
  pub rising : IsRising next
  pub members : (t : ℕ) → Among next t ↔ ((t < count) × IsMarked marks t)

-- a step whose label holds leads to the state
abbrev pub IsTarget : List Step → List Bool → ℕ → Type 0
IsTarget steps bits t = (step : Step) × Among steps step × Passes step.label (Some (value_in bits)) × (step.to ≡ t)

-- the states that steps lead to whose labels hold
pub record AreTargets (steps : List Step) (bits : List Bool) (next : List ℕ) : Type 0 where
  pub rising : IsRising next
  pub members : (t : ℕ) → Among next t ↔ IsTarget steps bits t
