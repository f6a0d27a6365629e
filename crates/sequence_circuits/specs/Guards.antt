-- What the guards show: each symbol has a net, its guard, and in each cycle the symbol is true where its guard is on.
use Rattle.std.specs.Prelude.{ℕ, zero, suc, ◌-◌, Bool, true, false, List, [], ◌∷◌, map, slice_index_or}
use Rattle.circuit_core.specs.declared.nodes.Net.{Net}
use Rattle.circuit_core.specs.Run.{Run}

-- nets as their numbers
abbrev pub numbers : List Net → List ℕ
numbers nets = map (λ k. k.0) nets

-- whether a value of one bit is on
abbrev pub is_on : ℕ → Bool
is_on zero = false
is_on (suc x) = true

-- the truth value of each symbol in cycle n
abbrev pub values_at : Run → (guards : List ℕ) → ℕ → ℕ → Bool
values_at run guards n symbol = is_on (run (slice_index_or guards symbol 0) n)

-- what so many cycles from cycle i on show
abbrev pub cycles_from : {A : Type 0} → (ℕ → A) → (i count : ℕ) → List A
cycles_from at i zero = []
cycles_from at i (suc count) = at i ∷ cycles_from at (suc i) count

-- what the cycles i to n show, one after the other
abbrev pub cycles_to : {A : Type 0} → (ℕ → A) → (i n : ℕ) → List A
cycles_to at i n = cycles_from at i (suc n - i)
