-- A number of copies of a machine, one after the other, as one machine.
use Rattle.std.specs.Prelude.{ℕ, zero, suc, ◌+◌, ◌-◌, ◌==◌, Bool, true, false, ◌&&◌, ◌||◌, if◌then◌else◌, List, []}
use Rattle.std.specs.Prelude.{◌++◌, map}
use Rattle.auto_core.specs.declared.labels.Literal.{Literal}
use Rattle.auto_core.specs.Edges.{renamed}
use Rattle.auto_core.specs.Machine.{Machine}

-- how many of the later copies may begin where one ends: all where the empty list is accepted, else the next
abbrev pub later : (empty : Bool) → (left : ℕ) → ℕ
later empty zero = zero
later true (suc n) = suc n
later false (suc n) = 1

-- the first steps of n copies after copy i
abbrev pub firsts : {S : Type 0} → Machine S → (i n : ℕ) → List (List Literal × (ℕ × S))
firsts m i zero = []
firsts m i (suc n) = map (renamed (λ q. (suc i, q))) (m.edges m.start) ++ firsts m (suc i) n

-- the first steps of the copies that may begin where copy i of k ends
abbrev pub following : {S : Type 0} → Machine S → (k i : ℕ) → List (List Literal × (ℕ × S))
following m k i = firsts m i (later (m.accepts m.start) (k - suc i))

abbrev pub chain_edges : {S : Type 0} → Machine S → ℕ → ℕ × S → List (List Literal × (ℕ × S))
chain_edges m k s =
    map (renamed (λ q. (s.0, q))) (m.edges s.1) ++ (if m.accepts s.1 then following m k s.0 else [])

-- a state is the number of a copy and a state of it
abbrev pub chain_machine : {S : Type 0} → Machine S → ℕ → Machine (ℕ × S)
chain_machine m k = record {
  start = (0, m.start);
  accepts = λ s. m.accepts s.1 && (m.accepts m.start || (s.0 + 1 == k));
  edges = chain_edges m k;
}
