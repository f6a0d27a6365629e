-- How a message ends that is written in pieces.
use Rattle.std.proofs.Common.{◌≡◌, ℕ, ◌<◌, ◌≤◌, ◌+◌, List, [], ◌∷◌, ◌++◌, take, drop, length, get_or, ap, sym}
use Rattle.std.proofs.Common.{◌∙◌, append-nil}
use Rattle.std.proofs.lemmas.List.{take_more, take-append-drop}
use Rattle.std.proofs.lemmas.Grind.{flat_map-append}
use Rattle.std.specs.Prelude.{Result, Ok, Err, IsErr, codes, decimal}
use Rattle.mbac_top.specs.Call.{Change, FaultRose, WritesPart}
use Rattle.mbac_top.specs.Messages.{numbers_of}
use Rattle.mbac_top.specs.inner.Ending.{EndsWriting}

pub failed : {T E : Type 0} (result : Result T E) (change : Change) (text : List ℕ) → IsErr result →
    WritesPart change text → FaultRose change → change.faults_before ≤ change.faults_after →
    EndsWriting change text result
failed (Ok value) change text is part rose falls = cc
failed (Err error) change text is part rose falls = (part, rose, falls)

abbrev pub number_text : ℕ → List ℕ
number_text number = codes " " ++ decimal number

-- one number more
pub numbers_of-more : (numbers : List ℕ) (place : ℕ) → place < length numbers →
    numbers_of (take (place + 1) numbers) ≡ numbers_of (take place numbers) ++ number_text (get_or numbers place 0)
numbers_of-more numbers place within =
    let number = get_or numbers place 0 in
    ap (λ (all : List ℕ). numbers_of all) (take_more numbers place 0 within)
    ∙ (flat_map-append number_text (take place numbers) (number ∷ [])
    ∙ ap (λ (last : List ℕ). numbers_of (take place numbers) ++ last) (append-nil (number_text number)))

-- the first numbers and the others
pub numbers_of-split : (numbers : List ℕ) (place : ℕ) →
    numbers_of (take place numbers) ++ numbers_of (drop place numbers) ≡ numbers_of numbers
numbers_of-split numbers place =
    sym (flat_map-append number_text (take place numbers) (drop place numbers))
    ∙ ap (λ (all : List ℕ). numbers_of all) (take-append-drop place numbers)
