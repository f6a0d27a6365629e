-- A scan over some bytes.
use Rattle.std.proofs.Common.{◌≡◌, ℕ, suc, ◌+◌, ◌-◌, ◌<◌, ◌≤◌, List, [], ◌∷◌, ◌++◌, Bool, true, false, cond, length}
use Rattle.std.proofs.Common.{take, drop, get_or, refl, sym, ◌∙◌, ap, arith, append_assoc}
use Rattle.std.specs.Prelude.{fold, slice_range}
use Rattle.std.proofs.lemmas.List.{take_more, get_or-drop, take-append-drop, length-drop, take_all}
use Rattle.std.proofs.lemmas.List.Sums.{fold_more}
use Rattle.vcd_reader.specs.declared.waveform.VcdError.{VcdError}
use Rattle.std.proofs.Common.{length-append, Ok, Err, subst}
use Rattle.vcd_reader.specs.inner.State.{State}
use Rattle.vcd_reader.specs.inner.Rules.{Step, next}
use Rattle.vcd_reader.specs.Tokens.{is_blank}
use Rattle.vcd_reader.specs.inner.Scan.{Scan, reads, fails, close, past_blank, past_ink, take_byte, scan_from, stepped}
use Rattle.vcd_reader.specs.inner.Scan.{IsPartWithin, bytes_taken}

pub failed_stays : (error : VcdError) (bytes : List ℕ) → scan_from (fails error) bytes ≡ fails error
unfolding scan_from
failed_stays error [] = refl
failed_stays error (byte ∷ bytes) = rw (bool_same (is_blank byte)) (failed_stays error bytes)
  where
    bool_same : (b : Bool) → cond b (fails error) (fails error) ≡ fails error
    bool_same true = refl
    bool_same false = refl

pub scan_none : (scan : Scan) → scan_from scan [] ≡ scan
unfolding scan_from
scan_none scan = refl

pub scan_cons : (scan : Scan) (byte : ℕ) (bytes : List ℕ)
    → scan_from scan (byte ∷ bytes) ≡ scan_from (take_byte scan byte) bytes
unfolding scan_from
scan_cons scan byte bytes = refl

pub scan_more : (scan : Scan) (bytes : List ℕ) (i : ℕ) → i < length bytes
    → scan_from scan (take (i + 1) bytes) ≡ take_byte (scan_from scan (take i bytes)) (get_or bytes i 0)
unfolding scan_from
scan_more scan bytes i h = fold_more take_byte scan bytes i 0 h

pub scan_append : (scan : Scan) (xs ys : List ℕ) → scan_from scan (xs ++ ys) ≡ scan_from (scan_from scan xs) ys
unfolding scan_from
scan_append scan [] ys = refl
scan_append scan (x ∷ xs) ys = scan_append (take_byte scan x) xs ys

-- a fault before the end is the fault at the end
pub failed_early : (scan : Scan) (bytes : List ℕ) (i : ℕ) (error : VcdError)
    → scan_from scan (take i bytes) ≡ fails error → scan_from scan bytes ≡ fails error
failed_early scan bytes i error h =
    ap (scan_from scan) (sym (take-append-drop i bytes)) ∙ scan_append scan (take i bytes) (drop i bytes)
    ∙ ap (λ s. scan_from s (drop i bytes)) h ∙ failed_stays error (drop i bytes)

grown_part : (bytes : List ℕ) (i start : ℕ) → i < length bytes → start ≤ i
    → slice_range bytes start (i + 1) ≡ slice_range bytes start i ++ get_or bytes i 0 ∷ []
grown_part bytes i start h low =
    let n : ℕ = i - start in
    let more : i + 1 - start ≡ n + 1 = omega arith in
    let place : start + n ≡ i = omega arith in
    let room : n < length (drop start bytes) = omega (arith, length-drop start bytes) in
    let item : get_or (drop start bytes) n 0 ≡ get_or bytes i 0 = get_or-drop start bytes n 0
    ∙ ap (λ j. get_or bytes j 0) place in
    ap (λ (k : ℕ). take k (drop start bytes)) more ∙ take_more (drop start bytes) n 0 room
    ∙ ap (λ b. take n (drop start bytes) ++ b ∷ []) item

pub empty_part : (bytes : List ℕ) (i : ℕ) → slice_range bytes i i ≡ []
empty_part bytes i = ap (λ n. take n (drop i bytes)) zero_difference
  where
    zero_difference : i - i ≡ 0
    zero_difference = omega arith

pub last_part : (bytes : List ℕ) (start : ℕ) → slice_range bytes start (length bytes) ≡ drop start bytes
last_part bytes start = take_all (length bytes - start) (drop start bytes) (omega (arith, length-drop start bytes))

-- one more byte that is no blank
pub one_more_ink : (scan : Scan) (bytes : List ℕ) (i at start : ℕ) (part : List ℕ) (s : State) → i < length bytes
    → start ≤ i
    → scan_from scan (take i bytes) ≡ reads (at + i) (part ++ slice_range bytes start i) s → is_blank (get_or bytes i 0)
    ≡ false
    → scan_from scan (take (i + 1) bytes) ≡ reads (at + (i + 1)) (part ++ slice_range bytes start (i + 1)) s
one_more_ink scan bytes i at start part s h low so ink =
    let grown : slice_range bytes start (i + 1) ≡ slice_range bytes start i ++ get_or bytes i 0 ∷ [] =
    grown_part bytes i start h low in
    let sum : at + i + 1 ≡ at + (i + 1) = omega arith in
    scan_more scan bytes i h ∙ ap (λ x. take_byte x (get_or bytes i 0)) so
    ∙ ap (λ b. cond b (past_blank (close (reads (at + i) (part ++ slice_range bytes start i) s)))
    (reads (at + i + 1) ((part ++ slice_range bytes start i) ++ get_or bytes i 0 ∷ []) s)) ink
    ∙ ap (λ n. reads n ((part ++ slice_range bytes start i) ++ get_or bytes i 0 ∷ []) s) sum
    ∙ ap (λ p. reads (at + (i + 1)) p s) (append_assoc part (slice_range bytes start i) (get_or bytes i 0 ∷ [])
    ∙ ap (λ t. part ++ t) (sym grown))

-- one more byte, which is a blank
pub one_more_blank : (scan : Scan) (bytes : List ℕ) (i : ℕ) (now : Scan) → i < length bytes
    → close (scan_from scan (take i bytes)) ≡ now → is_blank (get_or bytes i 0) ≡ true
    → scan_from scan (take (i + 1) bytes) ≡ past_blank now
one_more_blank scan bytes i now h so blank =
    scan_more scan bytes i h
    ∙ ap (λ b. cond b (past_blank (close (scan_from scan (take i bytes))))
    (past_ink (get_or bytes i 0) (scan_from scan (take i bytes)))) blank
    ∙ ap past_blank so

-- the open token stays a part of the bytes that have come
stepped_within : (at from : ℕ) (step : Step) → IsPartWithin (past_blank (stepped at from step))
stepped_within at from (Ok s) = omega arith
stepped_within at from (Err fault) = tt

blank_within : (scan : Scan) → IsPartWithin (past_blank (close scan))
blank_within (reads at [] s) = omega arith
blank_within (reads at (byte ∷ bytes) s) = stepped_within at (at - length (byte ∷ bytes)) (next s (byte ∷ bytes))
blank_within (fails error) = tt

ink_within : (scan : Scan) (byte : ℕ) → IsPartWithin scan → IsPartWithin (past_ink byte scan)
ink_within (reads at part s) byte h = let more : length (part ++ byte ∷ []) ≡ length part + 1 =
    length-append part (byte ∷ []) in omega arith
ink_within (fails error) byte h = tt

byte_within : (scan : Scan) (byte : ℕ) (b : Bool) → IsPartWithin scan
    → IsPartWithin (cond b (past_blank (close scan)) (past_ink byte scan))
byte_within scan byte true h = blank_within scan
byte_within scan byte false h = ink_within scan byte h

pub scan_within : (scan : Scan) (bytes : List ℕ) → IsPartWithin scan → IsPartWithin (scan_from scan bytes)
scan_within scan [] h = subst IsPartWithin (sym (scan_none scan)) h
scan_within scan (byte ∷ bytes) h =
    subst IsPartWithin (sym (scan_cons scan byte bytes))
    (scan_within (take_byte scan byte) bytes (byte_within scan byte (is_blank byte) h))

-- a scan has taken no more bytes than came
stepped_taken : (at from : ℕ) (step : Step) → bytes_taken (past_blank (stepped at from step)) ≤ at + 1
stepped_taken at from (Ok s) = omega arith
stepped_taken at from (Err fault) = omega arith

blank_taken : (scan : Scan) → bytes_taken (past_blank (close scan)) ≤ bytes_taken scan + 1
blank_taken (reads at [] s) = omega arith
blank_taken (reads at (byte ∷ bytes) s) = stepped_taken at (at - length (byte ∷ bytes)) (next s (byte ∷ bytes))
blank_taken (fails error) = omega arith

ink_taken : (scan : Scan) (byte : ℕ) → bytes_taken (past_ink byte scan) ≤ bytes_taken scan + 1
ink_taken (reads at part s) byte = omega arith
ink_taken (fails error) byte = omega arith

byte_taken : (scan : Scan) (byte : ℕ) (b : Bool)
    → bytes_taken (cond b (past_blank (close scan)) (past_ink byte scan)) ≤ bytes_taken scan + 1
byte_taken scan byte true = blank_taken scan
byte_taken scan byte false = ink_taken scan byte

pub scan_taken : (scan : Scan) (bytes : List ℕ) → bytes_taken (scan_from scan bytes) ≤ bytes_taken scan + length bytes
scan_taken scan [] = let same : bytes_taken (scan_from scan []) ≡ bytes_taken scan = ap bytes_taken (scan_none scan) in
    omega arith
scan_taken scan (byte ∷ bytes) =
    let same : bytes_taken (scan_from scan (byte ∷ bytes)) ≡ bytes_taken (scan_from (take_byte scan byte) bytes) =
    ap bytes_taken (scan_cons scan byte bytes) in
    let rest : bytes_taken (scan_from (take_byte scan byte) bytes) ≤ bytes_taken (take_byte scan byte) + length bytes =
    scan_taken (take_byte scan byte) bytes in
    let one : bytes_taken (take_byte scan byte) ≤ bytes_taken scan + 1 = byte_taken scan byte (is_blank byte) in
    omega arith
