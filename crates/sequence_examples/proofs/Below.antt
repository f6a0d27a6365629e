-- What the tests tell.
use Rattle.std.proofs.Common.{◌≡◌, ◌<◌, ℕ, Bool, true, nat_lt, List, [], ◌∷◌, All, arith}
use Rattle.std.specs.List.{list_all}
use Rattle.std.proofs.lemmas.Bool.{and_parts}
use Rattle.std.proofs.lemmas.Bool.Decides.{nat_tests}
use Rattle.std.proofs.lemmas.List.Elements.{All-nil, All-cons}
use Rattle.auto_core.specs.declared.labels.Literal.{Literal}
use Rattle.auto_core.specs.declared.tables.Edge.{Edge}
use Rattle.first_failure.specs.declared.automaton.FailRow.{FailRow}
use Rattle.sequence_examples.specs.Guarded.{is_below, is_guarded, is_asked}

all_of : {X : Type 0} (p : X → Bool) (P : X → Type 0) → ((x : X) → p x ≡ true → P x) → (xs : List X)
    → list_all p xs ≡ true → All P xs
all_of p P f [] h = All-nil P
all_of p P f (x ∷ xs) h =
    let parts = and_parts (p x) _ h in All-cons P x xs (f x parts.0) (all_of p P f xs parts.1)

below : (s count : ℕ) → nat_lt s count ≡ true → s < count
below s count h = grind (arith, nat_tests)

pub guarded : (count : ℕ) (edges : List Edge) → list_all (is_guarded count) edges ≡ true
    → All (λ e. All (λ l. l.symbol < count) e.label) edges
guarded count edges h =
    all_of (is_guarded count) (λ e. All (λ l. l.symbol < count) e.label)
    (λ e g. all_of (is_below count) (λ l. l.symbol < count) (λ l b. below l.symbol count b) e.label g) edges h

pub asked : (count : ℕ) (rows : List FailRow) → list_all (is_asked count) rows ≡ true
    → All (λ r. All (λ s. s < count) r.symbols) rows
asked count rows h =
    all_of (is_asked count) (λ r. All (λ s. s < count) r.symbols)
    (λ r g. all_of (λ s. nat_lt s count) (λ s. s < count) (λ s b. below s count b) r.symbols g) rows h
