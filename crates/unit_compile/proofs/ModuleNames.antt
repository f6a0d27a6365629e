-- The checkers of a unit have different names: labels differ, numbers differ, and no label begins with a digit.
use Rattle.std.proofs.Common.{◌≡◌, ◌≢◌, ◌⊎◌, inl, inr, ℕ, suc, ◌+◌, ◌<◌, ◌≤◌, ◌^◌, ◌%◌, Bool, true, false, ◌||◌}
use Rattle.std.proofs.Common.{◌&&◌, ◌==◌, Option, None, Some, List, [], ◌∷◌, ◌++◌, All, length, map, refl}
use Rattle.std.proofs.Common.{sym, subst, ◌∙◌, arith, nat_le}
use Rattle.std.proofs.lemmas.Bool.Decides.{nat_tests}
use Rattle.std.proofs.lemmas.Fmt.{decimal_by_steps, decimal_injective}
use Rattle.std.proofs.lemmas.List.{append_cancel_left}
use Rattle.std.proofs.lemmas.List.Elements.{All-nil, All-cons, All-head, All-tail}
use Rattle.std.proofs.lemmas.List.Kept.{AllPairs-cons}
use Rattle.std.specs.List.{AllPairs}
use Rattle.std.specs.Option.{IfSome}
use Rattle.std.specs.Prelude.{IsTrue, codes, decimal}
use Rattle.psl_model.specs.Limits.{unit_text_limit}
use Rattle.psl_model.specs.Names.{IsIdentifier, begins_name, between}
use Rattle.psl_model.specs.Unit.{PslUnit, Directive}
use Rattle.verilog_text.specs.Module.{Module}
use Rattle.checker_meaning.specs.Headline.{call_name}
use Rattle.unit_conditions.specs.Labels.{Differ, HaveOwnLabels}
use Rattle.unit_compile.specs.Made.{IsMade, AreMade}

-- ---- no number is a label

abbrev BeginsDigit : List ℕ → Type 0
BeginsDigit [] = ⊥
BeginsDigit (byte ∷ bytes) = byte ≤ 57

still_digit : (ds more : List ℕ) → BeginsDigit ds → BeginsDigit (ds ++ more)
still_digit [] more h = absurd h
still_digit (d ∷ ds) more h = h

number_begins : (n : ℕ) → n < 2 ^ 64 → BeginsDigit (decimal n)
number_begins n small =
    decimal_by_steps (λ k ds. BeginsDigit ds) (λ k lt. one_digit k lt)
    (λ k ds ten before. still_digit ds ((48 + k % 10) ∷ []) before) n small
  where
    one_digit : (k : ℕ) → k < 10 → 48 + k ≤ 57
    one_digit k lt = omega arith

one_of : (a b : Bool) → a || b ≡ true → (a ≡ true) ⊎ (b ≡ true)
one_of true b h = inl refl
one_of false b h = inr h

above : (low high byte : ℕ) → between low high byte ≡ true → low ≤ byte
above low high byte h = by (nat_le low byte) refl h
  where
    by : (b : Bool) → nat_le low byte ≡ b → b && nat_le byte high ≡ true → low ≤ byte
    by true q r = grind (arith, nat_tests)
    by false q r = absurd (cc r)

is_byte : (a b : ℕ) → (a == b) ≡ true → a ≡ b
is_byte a b h = grind (arith, nat_tests)

letter_above : (byte : ℕ) → IsTrue (begins_name byte) → 57 < byte
letter_above byte h = by (one_of (between 97 122 byte || between 65 90 byte) (byte == 95) h)
  where
    by_letter : (between 97 122 byte ≡ true) ⊎ (between 65 90 byte ≡ true) → 57 < byte
    by_letter (inl low) = let le : 97 ≤ byte = above 97 122 byte low in omega arith
    by_letter (inr high) = let le : 65 ≤ byte = above 65 90 byte high in omega arith

    by : (between 97 122 byte || between 65 90 byte ≡ true) ⊎ ((byte == 95) ≡ true) → 57 < byte
    by (inl letter) = by_letter (one_of (between 97 122 byte) (between 65 90 byte) letter)
    by (inr line) = let e : byte ≡ 95 = is_byte byte 95 line in omega arith

no_identifier : (bytes : List ℕ) → IsIdentifier bytes → BeginsDigit bytes → ⊥
no_identifier [] h d = h
no_identifier (byte ∷ bytes) h d = let high : 57 < byte = letter_above byte h.0 in absurd (omega arith)

no_label : (label : List ℕ) (n : ℕ) → n < 2 ^ 64 → IsIdentifier label → label ≡ decimal n → ⊥
no_label label n small h e =
    no_identifier (decimal n) (subst IsIdentifier e h) (number_begins n small)

-- ---- what directives are called

calls_differ : (m n : ℕ) (label other : Option (List ℕ)) → m < n → n < 2 ^ 64 → IfSome label IsIdentifier
    → IfSome other IsIdentifier → Differ label other → call_name m label ≢ call_name n other
calls_differ m n (Some a) (Some b) lt small h g differ = λ e. differ e
calls_differ m n (Some a) None lt small h g differ = λ e. no_label a n small h e
calls_differ m n None (Some b) lt small h g differ = λ e.
    let less : m < 2 ^ 64 = omega arith in no_label b m less g (sym e)
calls_differ m n None None lt small h g differ = λ e.
    let less : m < 2 ^ 64 = omega arith in
    let same : m ≡ n = decimal_injective m n less small e in absurd (omega arith)

module _ (unit : PslUnit) where
  names_differ : (m n : ℕ) (d e : Directive) (x y : Module) → m < n → n < 2 ^ 64 → IfSome d.label IsIdentifier
      → IfSome e.label IsIdentifier → HaveOwnLabels d e → IsMade unit m d x → IsMade unit n e y → x.name ≢ y.name
  names_differ m n d e x y lt small h g differ p q = λ same.
      calls_differ m n d.label e.label lt small h g differ
      (append_cancel_left (codes "mbac_" ++ unit.name ++ codes "_") (call_name m d.label) (call_name n e.label)
      (sym p.checker.name ∙ same ∙ q.checker.name))

  abbrev pub IsCalled : Directive → Type 0
  IsCalled d = IfSome d.label IsIdentifier

  abbrev pub names_of : List Module → List (List ℕ)
  names_of ms = map (λ (m : Module). m.name) ms

  later_differ : (m from : ℕ) (d : Directive) (x : Module) (ds : List Directive) (ms : List Module) → m < from
      → from + length ds < 2 ^ 64 → IsCalled d → IsMade unit m d x → All IsCalled ds → All (HaveOwnLabels d) ds
      → AreMade unit from ds ms → All (λ name. x.name ≢ name) (names_of ms)
  later_differ m from d x [] [] lt small h p called differ made = All-nil (λ (name : List ℕ). x.name ≢ name)
  later_differ m from d x [] (y ∷ ms) lt small h p called differ made = absurd made
  later_differ m from d x (e ∷ ds) [] lt small h p called differ made = absurd made
  later_differ m from d x (e ∷ ds) (y ∷ ms) lt small h p called differ made =
      let inside : from < 2 ^ 64 = omega arith in
      let next : m < suc from = omega arith in
      let rest : suc from + length ds < 2 ^ 64 = omega arith in
      All-cons (λ (name : List ℕ). x.name ≢ name) y.name (names_of ms)
      (names_differ m from d e x y lt inside h (All-head IsCalled e ds called)
      (All-head (HaveOwnLabels d) e ds differ) p made.0)
      (later_differ m (suc from) d x ds ms next rest h p (All-tail IsCalled e ds called)
      (All-tail (HaveOwnLabels d) e ds differ) made.1)

  heads_apart : (d : Directive) (ds : List Directive) → AllPairs HaveOwnLabels (d ∷ ds) → All (HaveOwnLabels d) ds
  heads_apart d ds h = λ k e lt.
      let first : 0 < suc k = omega arith in
      let inside : suc k < length (d ∷ ds) = omega arith in h 0 (suc k) e first inside

  tails_apart : (d : Directive) (ds : List Directive) → AllPairs HaveOwnLabels (d ∷ ds) → AllPairs HaveOwnLabels ds
  tails_apart d ds h = λ i j e lt within.
      let above_too : suc i < suc j = omega arith in
      let inside : suc j < length (d ∷ ds) = omega arith in h (suc i) (suc j) e above_too inside

  pub all_differ : (from : ℕ) (ds : List Directive) (ms : List Module) → from + length ds < 2 ^ 64 → All IsCalled ds
      → AllPairs HaveOwnLabels ds → AreMade unit from ds ms → AllPairs (λ m n. m ≢ n) (names_of ms)
  all_differ from [] [] small called apart made = λ i j d lt within. absurd (omega arith)
  all_differ from [] (y ∷ ms) small called apart made = absurd made
  all_differ from (d ∷ ds) [] small called apart made = absurd made
  all_differ from (d ∷ ds) (y ∷ ms) small called apart made =
      let rest : suc from + length ds < 2 ^ 64 = omega arith in
      let next : from < suc from = omega arith in
      AllPairs-cons (λ (m n : List ℕ). m ≢ n) y.name (names_of ms)
      (later_differ from (suc from) d y ds ms next rest (All-head IsCalled d ds called) made.0
      (All-tail IsCalled d ds called) (heads_apart d ds apart) made.1)
      (all_differ (suc from) ds ms rest (All-tail IsCalled d ds called) (tails_apart d ds apart) made.1)

pub few_numbers : (n bytes : ℕ) → n ≤ bytes → bytes ≤ unit_text_limit → 1 + n < 2 ^ 64
few_numbers n bytes h g = let e : bytes ≤ 1048576 = g in omega arith
