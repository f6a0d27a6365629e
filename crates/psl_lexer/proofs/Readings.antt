-- Each text splits into tokens or has a fault.
use Rattle.std.proofs.Common.{◌≤◌, ℕ, zero, suc, ◌+◌, ◌<◌, List, [], ◌∷◌, drop, length, arith, inl, inr, ◌⊎◌}
use Rattle.std.proofs.Common.{length-drop}
use Rattle.psl_lexer.specs.Splits.{Splits, Faults, ends, gap, token, bad_byte, left_out, name_too_long, behind_gap}
use Rattle.psl_lexer.specs.Splits.{behind_token}
use Rattle.psl_lexer.specs.inner.Steps.{Stands}
use Rattle.psl_lexer.specs.declared.kinds.Token.{Token}
use Rattle.psl_lexer.specs.declared.kinds.LexError.{LexError}
use Rattle.psl_lexer.specs.declared.kinds.LexError.TheVariants as error
use Rattle.psl_lexer.specs.declared.kinds.Lexeme.TheVariants as lexeme
use Rattle.psl_lexer.specs.declared.stepping.Step.{Step}
use Rattle.psl_lexer.specs.declared.stepping.Step.TheVariants as step
use Rattle.psl_lexer.proofs.Gaps.{gap_fits, lexeme_some}
use Rattle.psl_lexer.proofs.Deciding.{step_here}

abbrev pub HasReading : ℕ → List ℕ → Type 0
HasReading offset bytes =
    ((tokens : List Token) × Splits offset bytes tokens) ⊎ ((fault : LexError) × Faults offset bytes fault)

-- what is left behind some of the first bytes has a reading
abbrev GoesOn : ℕ → List ℕ → Type 0
GoesOn offset bytes =
    (count : ℕ) → 0 < count → count ≤ length bytes → HasReading (offset + count) (drop count bytes)

step_read : (offset : ℕ) (bytes : List ℕ) (s : Step) → Stands s bytes → GoesOn offset bytes → HasReading offset bytes
step_read offset bytes (step.Gap n) g next =
    let fits : (0 < n) × (n ≤ length bytes) = gap_fits bytes n g in
    elim (next n fits.0 fits.1) [
      | inl rest ↦ inl (rest.0, gap n g rest.1)
      | inr fault ↦ inr (fault.0, behind_gap n g fault.1)
    ]
step_read offset bytes (step.Taken (lexeme.Token k) n) t next =
    elim (next n (lexeme_some bytes n t.0.longest.is_lexeme) t.0.longest.within) [
      | inl rest ↦ inl (record { kind = k; start = offset; end = offset + n } ∷ rest.0, token n k t.0 t.1 rest.1)
      | inr fault ↦ inr (fault.0, behind_token n k t.0 t.1 fault.1)
    ]
step_read offset bytes (step.Taken lexeme.LeftOut n) t next = inr (error.LeftOut offset, left_out n t.0 t.1)
step_read offset bytes (step.Taken lexeme.NameTooLong n) t next =
    inr (error.NameTooLong offset, name_too_long n t.0 t.1)
step_read offset bytes step.Bad bad next = inr (error.BadByte offset, bad_byte bad)

pub reading : (most offset : ℕ) (bytes : List ℕ) → length bytes ≤ most → HasReading offset bytes
reading most offset [] h = inl ([], ends)
reading zero offset (b ∷ bytes) h = absurd (omega arith)
reading (suc most) offset (b ∷ bytes) h =
    let here : (s : Step) × Stands s (b ∷ bytes) = step_here (b ∷ bytes) (omega arith) in
    step_read offset (b ∷ bytes) here.0 here.1
    (λ count some fits. reading most (offset + count) (drop count (b ∷ bytes)) (omega (
      arith,
      length-drop count (b
          ∷ bytes),
    )))
