-- The cycles of a run by their numbers.
use Rattle.std.proofs.Common.{◌≡◌, ℕ, zero, suc, List, [], ◌∷◌, length, refl, ap, ◌∙◌, subst, Some}
use Rattle.std.specs.Prelude.{slice_get, slice_index}
use Rattle.verilog_text.specs.Module.{Module}
use Rattle.verilog_text.specs.Run.{Cycle, IsSettled, Follows, IsRun, HasInputs, HaveInputs}

pub settled_at : (m : Module) (cycles : List Cycle) → IsRun m cycles → (n : ℕ) (c : Cycle) →
    slice_get cycles n ≡ Some c → IsSettled m c
settled_at m [] run n c at = absurd (cc)
settled_at m (b ∷ []) run zero c at = let same : b ≡ c = cc in subst (λ (x : Cycle). IsSettled m x) same run
settled_at m (b ∷ []) run (suc n) c at = absurd (cc)
settled_at m (b ∷ d ∷ cycles) run zero c at =
    let same : b ≡ c = cc in subst (λ (x : Cycle). IsSettled m x) same run.0
settled_at m (b ∷ d ∷ cycles) run (suc n) c at = settled_at m (d ∷ cycles) run.2 n c at

pub follows_at : (m : Module) (cycles : List Cycle) → IsRun m cycles → (n : ℕ) (c d : Cycle) →
    slice_get cycles n ≡ Some c → slice_get cycles (suc n) ≡ Some d → Follows m c d
follows_at m [] run n c d at next = absurd (cc)
follows_at m (a ∷ []) run n c d at next = absurd (cc)
follows_at m (a ∷ b ∷ cycles) run zero c d at next =
    let first : a ≡ c = cc in
    let second : b ≡ d = cc in
    subst (λ (y : Cycle). Follows m c y) second (subst (λ (x : Cycle). Follows m x b) first run.1)
follows_at m (a ∷ b ∷ cycles) run (suc n) c d at next = follows_at m (b ∷ cycles) run.2 n c d at next

pub inputs_at : (inputs : List (List ℕ)) (eots : List ℕ) (cycles : List Cycle) → HaveInputs inputs eots cycles →
    (n : ℕ) (values : List ℕ) → slice_get inputs n ≡ Some values →
    (c : Cycle) × (slice_get cycles n ≡ Some c) × HasInputs values (slice_index eots n) c
inputs_at [] eots cycles have n values at = absurd (cc)
inputs_at (v ∷ inputs) [] cycles have n values at = absurd have
inputs_at (v ∷ inputs) (e ∷ eots) [] have n values at = absurd have
inputs_at (v ∷ inputs) (e ∷ eots) (c ∷ cycles) have zero values at =
    let same : v ≡ values = cc in (
      c,
      refl,
      record {
        reset = have.0.reset;
        end_of_execution = have.0.end_of_execution;
        ports = have.0.ports ∙ same;
      },
    )
inputs_at (v ∷ inputs) (e ∷ eots) (c ∷ cycles) have (suc n) values at = inputs_at inputs eots cycles have.1 n values at

pub input_count : (inputs : List (List ℕ)) (eots : List ℕ) (cycles : List Cycle) → HaveInputs inputs eots cycles →
    length cycles ≡ length inputs
input_count [] [] [] have = refl
input_count [] [] (c ∷ cycles) have = absurd have
input_count [] (e ∷ eots) cycles have = absurd have
input_count (v ∷ inputs) [] cycles have = absurd have
input_count (v ∷ inputs) (e ∷ eots) [] have = absurd have
input_count (v ∷ inputs) (e ∷ eots) (c ∷ cycles) have = ap suc (input_count inputs eots cycles have.1)

-- the wires of a cycle, by its number
abbrev pub wires_at : List Cycle → ℕ → List ℕ
wires_at [] n = []
wires_at (c ∷ cycles) zero = c.wires
wires_at (c ∷ cycles) (suc n) = wires_at cycles n

pub wires_are : (cycles : List Cycle) (n : ℕ) (c : Cycle) → slice_get cycles n ≡ Some c →
    wires_at cycles n ≡ c.wires
wires_are [] n c at = absurd (cc)
wires_are (b ∷ cycles) zero c at = let same : b ≡ c = cc in ap (λ (x : Cycle). x.wires) same
wires_are (b ∷ cycles) (suc n) c at = wires_are cycles n c at
