-- Where the tokens of a text stand, and which bytes they have.
use Rattle.std.proofs.Common.{subst, ◌≡◌, ◌≤◌, ℕ, ◌+◌, ◌-◌, ◌<◌, ◌∙◌, ap, List, [], ◌∷◌, take, drop, length}
use Rattle.std.proofs.Common.{arith, All, length-drop}
use Rattle.std.proofs.lemmas.List.{drop-drop}
use Rattle.std.proofs.lemmas.List.Elements.{All-nil, All-cons}
use Rattle.std.proofs.lemmas.List.Kept.{AllPairs-cons}
use Rattle.std.specs.Prelude.{AllPairs}
use Rattle.psl_lexer.specs.Shapes.{IsToken}
use Rattle.psl_lexer.specs.Splits.{Splits, Faults, ends, gap, token, bad_byte, left_out, name_too_long, behind_gap}
use Rattle.psl_lexer.specs.Splits.{behind_token, IsTaken}
use Rattle.psl_lexer.specs.declared.kinds.LexError.{LexError}
use Rattle.psl_lexer.specs.Order.{EndsBefore, IsSpelled, IsFaultBelow}
use Rattle.psl_lexer.specs.declared.kinds.Kind.{Kind}
use Rattle.psl_lexer.specs.declared.kinds.Token.{Token}
use Rattle.psl_lexer.proofs.Gaps.{gap_fits, lexeme_some}

-- from one offset up to another: one behind the other, none of them empty
abbrev pub StandInRow : (from : ℕ) → List Token → (to : ℕ) → Type 0
StandInRow from [] to = from ≤ to
StandInRow from (t ∷ tokens) to = (from ≤ t.start) × (t.start < t.end) × StandInRow t.end tokens to

from_earlier : (early late : ℕ) (tokens : List Token) (to : ℕ) → early ≤ late → StandInRow late tokens to
    → StandInRow early tokens to
from_earlier early late [] to h row = omega arith
from_earlier early late (t ∷ tokens) to h row = let first : late ≤ t.start = row.0 in (omega arith, row.1, row.2)

-- what is left behind the first bytes ends where all ends
same_end : (offset count : ℕ) (bytes : List ℕ) → count ≤ length bytes
    → offset + count + length (drop count bytes) ≡ offset + length bytes
same_end offset count bytes h = omega (arith, length-drop count bytes)

pub stand : (offset : ℕ) (bytes : List ℕ) (tokens : List Token) → Splits offset bytes tokens
    → StandInRow offset tokens (offset + length bytes)
stand offset bytes tokens ends = omega arith
stand offset bytes tokens (gap n g s) =
    let fits : (0 < n) × (n ≤ length bytes) = gap_fits bytes n g in
    let P : ℕ → Type 0 = λ (end : ℕ). StandInRow (offset + n) tokens end in
    from_earlier offset (offset + n) tokens (offset + length bytes) (omega arith)
    (subst P (same_end offset n bytes fits.1) (stand (offset + n) (drop n bytes) tokens s))
stand offset bytes tokens (token {tokens = rest} n k t is s) =
    let some : 0 < n = lexeme_some bytes n t.longest.is_lexeme in
    let P : ℕ → Type 0 = λ (end : ℕ). StandInRow (offset + n) rest end in (
      omega arith,
      omega arith,
      subst P (same_end offset n bytes t.longest.within) (stand (offset + n) (drop n
          bytes) rest s),
    )

-- the bytes from one place up to another
spelled_here : (text bytes : List ℕ) (offset n : ℕ) (k : Kind) → bytes ≡ drop offset text → IsToken k (take n bytes)
    → IsSpelled text (record { kind = k; start = offset; end = offset + n })
spelled_here text bytes offset n k at is =
    let count : n ≡ offset + n - offset = omega arith in
    let P : List ℕ → Type 0 = λ (part : List ℕ). IsToken k part in
    subst P (ap (λ (m : ℕ). take m bytes) count ∙ ap (λ (b : List ℕ). take (offset + n - offset) b) at) is

further : (text bytes : List ℕ) (offset n : ℕ) → bytes ≡ drop offset text → drop n bytes ≡ drop (offset + n) text
further text bytes offset n at = ap (λ (b : List ℕ). drop n b) at ∙ drop-drop n offset text

pub spelled : (text : List ℕ) (offset : ℕ) (bytes : List ℕ) (tokens : List Token) → bytes ≡ drop offset text
    → Splits offset bytes tokens → All (IsSpelled text) tokens
spelled text offset bytes tokens at ends = All-nil (IsSpelled text)
spelled text offset bytes tokens at (gap n g s) =
    spelled text (offset + n) (drop n bytes) tokens (further text bytes offset n at) s
spelled text offset bytes tokens at (token {tokens = rest} n k t is s) =
    All-cons (IsSpelled text) (record { kind = k; start = offset; end = offset + n }) rest
    (spelled_here text bytes offset n k at is)
    (spelled text (offset + n) (drop n bytes) rest (further text bytes offset n at) s)

row_end : (from : ℕ) (tokens : List Token) (to : ℕ) → StandInRow from tokens to → from ≤ to
row_end from [] to row = row
row_end from (t ∷ tokens) to row =
    let first : from ≤ t.start = row.0 in
    let some : t.start < t.end = row.1 in
    let rest : t.end ≤ to = row_end t.end tokens to row.2 in
    omega arith

pub all_within : (from : ℕ) (tokens : List Token) (to : ℕ) → StandInRow from tokens to
    → All (λ t. (t.start < t.end) × (t.end ≤ to)) tokens
all_within from [] to row = All-nil (λ t. (t.start < t.end) × (t.end ≤ to))
all_within from (t ∷ tokens) to row =
    All-cons (λ t. (t.start < t.end) × (t.end ≤ to)) t tokens (row.1, row_end t.end tokens to row.2)
    (all_within t.end tokens to row.2)

all_behind : (from : ℕ) (tokens : List Token) (to : ℕ) → StandInRow from tokens to → All (λ t. from ≤ t.start) tokens
all_behind from [] to row = All-nil (λ t. from ≤ t.start)
all_behind from (t ∷ tokens) to row =
    let first : from ≤ t.start = row.0 in
    let some : t.start < t.end = row.1 in
    All-cons (λ t. from ≤ t.start) t tokens first (all_behind from tokens to (from_earlier from t.end tokens to
    (omega arith) row.2))

pub all_ascend : (from : ℕ) (tokens : List Token) (to : ℕ) → StandInRow from tokens to → AllPairs EndsBefore tokens
all_ascend from [] to row = λ i j d less inside. absurd (omega arith)
all_ascend from (t ∷ tokens) to row =
    AllPairs-cons EndsBefore t tokens (all_behind t.end tokens to row.2) (all_ascend t.end tokens to row.2)

pub count_within : (from : ℕ) (tokens : List Token) (to : ℕ) → StandInRow from tokens to → from + length tokens ≤ to
count_within from [] to row = let short : from ≤ to = row in omega arith
count_within from (t ∷ tokens) to row =
    let first : from ≤ t.start = row.0 in
    let some : t.start < t.end = row.1 in
    let rest : t.end + length tokens ≤ to = count_within t.end tokens to row.2 in
    omega arith

taken_some : (bytes : List ℕ) (n : ℕ) → IsTaken bytes n → 0 < length bytes
taken_some bytes n t =
    let some : 0 < n = lexeme_some bytes n t.longest.is_lexeme in
    let within : n ≤ length bytes = t.longest.within in
    omega arith

pub fault_below : (offset : ℕ) (bytes : List ℕ) (fault : LexError) → Faults offset bytes fault
    → IsFaultBelow (offset + length bytes) fault
fault_below offset bytes fault (bad_byte bad) = let some : 0 < length bytes = bad.some_byte in omega arith
fault_below offset bytes fault (left_out n t is) =
    let some : 0 < length bytes = taken_some bytes n t in omega arith
fault_below offset bytes fault (name_too_long n t is) =
    let some : 0 < length bytes = taken_some bytes n t in omega arith
fault_below offset bytes fault (behind_gap n g f) =
    let fits : (0 < n) × (n ≤ length bytes) = gap_fits bytes n g in
    let P : ℕ → Type 0 = λ (end : ℕ). IsFaultBelow end fault in
    subst P (same_end offset n bytes fits.1) (fault_below (offset + n) (drop n bytes) fault f)
fault_below offset bytes fault (behind_token n k t is f) =
    let P : ℕ → Type 0 = λ (end : ℕ). IsFaultBelow end fault in
    subst P (same_end offset n bytes t.longest.within) (fault_below (offset + n) (drop n bytes) fault f)
