-- Names that a table doesn't have, and ports that differ.
use Rattle.std.proofs.Common.{◌≡◌, ℕ, zero, suc, ◌+◌, ◌<◌, ◌≤◌, Bool, true, false, cond, List, [], ◌∷◌, ◌++◌, length}
use Rattle.std.proofs.Common.{map, get_or, refl, sym, ◌∙◌, arith, Some, None}
use Rattle.std.proofs.lemmas.Bool.Decides.{nat_tests}
use Rattle.std.proofs.lemmas.List.{length-append, length-map}
use Rattle.std.proofs.lemmas.Slice.Eq.{bytes_eq-Decides}
use Rattle.std.specs.Prelude.{◌≢◌, position, nat_eq, nat_lt, not, AllPairs}
use Rattle.std.specs.List.{prefix_len, position_or_len}
use Rattle.std.specs.Cmp.Lexicographic.{pointwise}
use Rattle.psl_model.specs.declared.names.Signal.{Signal}
use Rattle.verilog_reader.specs.inner.Phrases.{place_of}
use Rattle.verilog_reader.specs.inner.Lines.{State, added, add_ports}
use Rattle.verilog_reader.proofs.States.{added_first}

all_pass : {X : Type 0} (q : X → Bool) (xs : List X) → length xs ≤ prefix_len q xs → (k : ℕ) (d : X) → k < length xs →
    q (get_or xs k d) ≡ true
all_pass q [] le k d lt = absurd (omega arith)
all_pass {X} q (x ∷ xs) le k d lt = by_test (q x) refl le k lt (all_pass q xs) where
  by_test : (b : Bool) → q x ≡ b → suc (length xs) ≤ cond b (1 + prefix_len q xs) 0 → (j : ℕ) → j < suc (length xs) →
      (length xs ≤ prefix_len q xs → (i : ℕ) (e : X) → i < length xs → q (get_or xs i e) ≡ true) →
      q (get_or (x ∷ xs) j d) ≡ true
  by_test false e le j lt later = absurd (omega arith)
  by_test true e le zero lt later = e
  by_test true e le (suc j) lt later =
      let more : length xs ≤ prefix_len q xs = omega arith in
      let below : j < length xs = omega arith in
      later more j d below

not_true : (b : Bool) → not b ≡ true → b ≡ false
not_true false e = refl
not_true true e = cc

none_past : (xs : List (List ℕ)) (p : List ℕ → Bool) → position p xs ≡ None → length xs ≤ position_or_len p xs
none_past xs p e = by_test (nat_lt (position_or_len p xs) (length xs)) refl e where
  at_least : (m n : ℕ) → nat_lt m n ≡ false → n ≤ m
  at_least m n e = grind (arith, nat_tests)

  by_test : (b : Bool) → nat_lt (position_or_len p xs) (length xs) ≡ b → cond b (Some (position_or_len p xs)) None
      ≡ None → length xs ≤ position_or_len p xs
  by_test true e some = cc
  by_test false e none = at_least (position_or_len p xs) (length xs) e

false_is_not_true : (b : Bool) → b ≡ false → b ≡ true → ⊥
false_is_not_true b f t = cc

-- a name without a place is none of the table's
pub absent : (names : List (List ℕ)) (name : List ℕ) → place_of names name ≡ None → (k : ℕ) (d : List ℕ) →
    k < length names → get_or names k d ≢ name
unfolding place_of
absent names name none k d lt same =
    let p : List ℕ → Bool = pointwise nat_eq name in
    let passes = all_pass (λ n. not (p n)) names (none_past names p none) k d lt in
    false_is_not_true (p (get_or names k d)) (not_true (p (get_or names k d)) passes)
    ((bytes_eq-Decides name (get_or names k d)).1 (sym same))

front : (names : List (List ℕ)) (name : List ℕ) (k : ℕ) (d : List ℕ) → k < length names →
    get_or (names ++ name ∷ []) k d ≡ get_or names k d
front [] name k d lt = absurd (omega arith)
front (n ∷ names) name zero d lt = refl
front (n ∷ names) name (suc k) d lt = let below : k < length names = omega arith in front names name k d below

last : (names : List (List ℕ)) (name d : List ℕ) → get_or (names ++ name ∷ []) (length names) d ≡ name
last [] name d = refl
last (n ∷ names) name d = last names name d

-- the names of further ports are none of those before
pub apart : (ports : List Signal) (state next : State) → add_ports state ports ≡ Some next → (k : ℕ) (d : List ℕ) →
    k < length state.0 → (j : ℕ) (e : List ℕ) → j < length ports →
    get_or state.0 k d ≢ get_or (map (λ (p : Signal). p.name) ports) j e
apart [] state next made k d lt j e below = absurd (omega arith)
apart (port ∷ ports) state next made k d lt zero e below =
    absent state.0 port.name (added_first port ports state next made).0 k d lt
apart (port ∷ ports) state next made k d lt (suc j) e below =
    let here : k < length (state.0 ++ port.name ∷ []) = omega (arith, length-append state.0 (port.name ∷ [])) in
    let less : j < length ports = omega arith in
    λ same. apart ports (added state port.name port.width) next (added_first port ports state next made).1 k d here j e
    less (front state.0 port.name k d lt ∙ same)

-- the ports' names differ
pub ports_differ : (ports : List Signal) (state next : State) → add_ports state ports ≡ Some next →
    AllPairs (λ p q. p ≢ q) (map (λ (p : Signal). p.name) ports)
ports_differ [] state next made i j d lt below = absurd (omega arith)
ports_differ (port ∷ ports) state next made i zero d lt below = absurd (omega arith)
ports_differ (port ∷ ports) state next made zero (suc j) d lt below =
    let here : length state.0 < length (state.0 ++ port.name ∷ []) =
    omega (arith, length-append state.0 (port.name ∷ [])) in
    let less : j < length ports = omega (arith, length-map ports (λ (p : Signal). p.name)) in
    λ same. apart ports (added state port.name port.width) next (added_first port ports state next made).1
    (length state.0) d here j d less (last state.0 port.name d ∙ same)
ports_differ (port ∷ ports) state next made (suc i) (suc j) d lt below =
    let less : i < j = omega arith in
    let within : j < length (map (λ (p : Signal). p.name) ports) = omega arith in
    ports_differ ports (added state port.name port.width) next (added_first port ports state next made).1 i j d less
    within
