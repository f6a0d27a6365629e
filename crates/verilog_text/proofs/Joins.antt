-- Texts that are added one after the other.
use Rattle.std.proofs.Common.{◌≡◌, ℕ, List, ◌++◌, ap, ◌∙◌, append_assoc, sym, Result, Ok, Err, OnOk}
use Rattle.std.specs.declared.alloc.AllocError.{AllocError}

-- bytes that gained one text and then another have gained both
pub joins : (first second third one two : List ℕ) → second ≡ first ++ one → third ≡ second ++ two →
    third ≡ first ++ (one ++ two)
joins first second third one two once twice = twice ∙ ap (λ (t : List ℕ). t ++ two) once ∙ append_assoc first one two

-- the same where the second text is there only on `Ok`
pub joins_if : (r : Result (Unit {0}) AllocError) (first second third one two : List ℕ) →
    second ≡ first ++ one → OnOk r (third ≡ second ++ two) → OnOk r (third ≡ first ++ (one ++ two))
joins_if (Ok u) first second third one two once twice = joins first second third one two once twice
joins_if (Err e) first second third one two once twice = tt

-- the same where the second text is of two parts, as a text and a line feed
pub joins_parts : (r : Result (Unit {0}) AllocError) (first second third one two three : List ℕ) →
    second ≡ first ++ one → OnOk r (third ≡ second ++ (two ++ three)) → OnOk r (third ≡ first ++ (one ++ two ++ three))
joins_parts (Ok u) first second third one two three once twice =
    joins first second third one (two ++ three) once twice
    ∙ ap (λ (t : List ℕ). first ++ t) (sym (append_assoc one two three))
joins_parts (Err e) first second third one two three once twice = tt
