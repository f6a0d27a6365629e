-- The tokens of bytes, and a scan over the bytes.
use Rattle.std.proofs.Common.{◌≡◌, ◌≢◌, ℕ, suc, ◌+◌, ◌-◌, ◌<◌, ◌≤◌, List, [], ◌∷◌, ◌++◌, Bool, true, false, cond}
use Rattle.std.proofs.Common.{length, refl, sym, ◌∙◌, ap, subst, arith, append_assoc, append-nil, length-append}
use Rattle.std.proofs.Common.{Result, Ok, Err}
use Rattle.vcd_reader.specs.declared.waveform.VcdError.{VcdError}
use Rattle.vcd_reader.specs.declared.reading.Fault.{Fault}
use Rattle.vcd_reader.specs.inner.State.{State, start}
use Rattle.vcd_reader.specs.inner.Rules.{Step, next}
use Rattle.vcd_reader.specs.Tokens.{is_blank, Token, AreBlanks, HasNoBlank, IsBehindToken, Begins, AreTokens}
use Rattle.vcd_reader.specs.Telling.{Outcome, fault_at}
use Rattle.vcd_reader.specs.inner.Outcome.{at_text_end, behind, reading}
use Rattle.vcd_reader.specs.inner.Scan.{Scan, reads, fails, stepped, close, past_blank, past_ink, take_byte, scan_from}
use Rattle.vcd_reader.specs.inner.Scan.{end_of, ended}
use Rattle.vcd_reader.proofs.ScanLemmas.{failed_stays, scan_none, scan_cons, scan_append}

pub scan_blanks : (at : ℕ) (s : State) (gap : List ℕ) → AreBlanks gap
    → scan_from (reads at [] s) gap ≡ reads (at + length gap) [] s
scan_blanks at s [] h = scan_none (reads at [] s) ∙ ap (λ n. reads n [] s) (let e : at ≡ at + 0 = omega arith in e)
scan_blanks at s (byte ∷ bytes) h =
    scan_cons (reads at [] s) byte bytes
    ∙ ap (λ b. scan_from (cond b (reads (at + 1) [] s) (reads (at + 1) (byte ∷ []) s)) bytes) h.0
    ∙ scan_blanks (at + 1) s bytes h.1
    ∙ ap (λ n. reads n [] s) (let e : at + 1 + length bytes ≡ at + length (byte ∷ bytes) = omega arith in e)

pub scan_ink : (at : ℕ) (part : List ℕ) (s : State) (text : List ℕ) → HasNoBlank text
    → scan_from (reads at part s) text ≡ reads (at + length text) (part ++ text) s
scan_ink at part s [] h =
    scan_none (reads at part s) ∙ ap (λ n. reads n part s) (let e : at ≡ at + 0 = omega arith in e)
    ∙ ap (λ p. reads (at + 0) p s) (sym (append-nil part))
scan_ink at part s (byte ∷ bytes) h =
    scan_cons (reads at part s) byte bytes
    ∙ ap (λ b. scan_from (cond b (past_blank (close (reads at part s))) (reads (at + 1) (part ++ byte ∷ []) s)) bytes)
    h.0
    ∙ scan_ink (at + 1) (part ++ byte ∷ []) s bytes h.1
    ∙ ap (λ n. reads n ((part ++ byte ∷ []) ++ bytes) s)
    (let e : at + 1 + length bytes ≡ at + length (byte ∷ bytes) = omega arith in e)
    ∙ ap (λ p. reads (at + length (byte ∷ bytes)) p s) (append_assoc part (byte ∷ []) bytes)

-- the end of a token is told by the blank or the end behind it
close_twice : (at from : ℕ) (step : Step) → close (stepped at from step) ≡ stepped at from step
close_twice at from (Ok s) = refl
close_twice at from (Err fault) = refl

close_again : (scan : Scan) → close (close scan) ≡ close scan
close_again (reads at [] s) = refl
close_again (reads at (byte ∷ bytes) s) = close_twice at (at - length (byte ∷ bytes)) (next s (byte ∷ bytes))
close_again (fails error) = refl

pub ended_behind : (scan : Scan) (rest : List ℕ) → IsBehindToken rest
    → ended (scan_from scan rest) ≡ ended (scan_from (close scan) rest)
ended_behind scan [] h =
    ap ended (scan_none scan) ∙ sym (ap end_of (close_again scan)) ∙ sym (ap ended (scan_none (close scan)))
ended_behind scan (byte ∷ bytes) h =
    ap ended (scan_cons scan byte bytes)
    ∙ ap (λ b. ended (scan_from (cond b (past_blank (close scan)) (past_ink byte scan)) bytes)) h
    ∙ ap (λ x. ended (scan_from (past_blank x) bytes)) (sym (close_again scan))
    ∙ sym (ap (λ b. ended (scan_from (cond b (past_blank (close (close scan))) (past_ink byte (close scan))) bytes)) h)
    ∙ sym (ap ended (scan_cons (close scan) byte bytes))

close_text : (at : ℕ) (text : List ℕ) (from : ℕ) (s : State) → text ≢ [] → from ≡ at
    → close (reads (at + length text) text s) ≡ stepped (at + length text) from (next s text)
close_text at [] from s some place = absurd (some refl)
close_text at (byte ∷ bytes) from s some place =
    ap (λ n. stepped (at + length (byte ∷ bytes)) n (next s (byte ∷ bytes)))
    (let e : at + length (byte ∷ bytes) - length (byte ∷ bytes) ≡ from = omega arith in e)

-- behind the gap before a token and the token itself
pub ended_token : (from : ℕ) (s : State) (bytes : List ℕ) (token : Token) (gap rest : List ℕ)
    → Begins from bytes token gap rest
    → ended (scan_from (reads from [] s) bytes)
    ≡ ended (scan_from (stepped (from + length gap + length token.text) token.at (next s token.text)) rest)
ended_token from s bytes token gap rest h =
    let at = from + length gap in
    ap (λ b. ended (scan_from (reads from [] s) b)) h.whole
    ∙ ap ended (scan_append (reads from [] s) gap (token.text ++ rest))
    ∙ ap (λ scan. ended (scan_from scan (token.text ++ rest))) (scan_blanks from s gap h.blanks)
    ∙ ap ended (scan_append (reads at [] s) token.text rest)
    ∙ ap (λ scan. ended (scan_from scan rest)) (scan_ink at [] s token.text h.ink)
    ∙ ended_behind (reads (at + length token.text) token.text s) rest h.behind
    ∙ ap (λ scan. ended (scan_from scan rest)) (close_text at token.text token.at s h.some h.place)

behind_token : (end at from : ℕ) (rest : List ℕ) (tokens : List Token) (step : Step)
    → ((after : State) → ended (scan_from (reads at [] after) rest) ≡ reading end after tokens)
    → ended (scan_from (stepped at from step) rest) ≡ behind step (λ after. reading end after tokens) from
behind_token end at from rest tokens (Ok after) h = h after
behind_token end at from rest tokens (Err fault) h = ap ended (failed_stays (fault_at from fault) rest)

-- a scan of bytes gives the outcome of their tokens
pub ended_reads : (from end : ℕ) (s : State) (bytes : List ℕ) (tokens : List Token) → AreTokens from bytes tokens
    → end ≡ from + length bytes
    → ended (scan_from (reads from [] s) bytes) ≡ reading end s tokens
ended_reads from end s bytes [] h e = ap ended (scan_blanks from s bytes h) ∙ ap (λ n. at_text_end n s) (sym e)
ended_reads from end s bytes (token ∷ tokens) h e =
    let at : ℕ = from + length h.0 + length token.text in
    let whole : length bytes ≡ length h.0 + (length token.text + length h.1) = ap length h.2.whole
    ∙ length-append h.0 (token.text ++ h.1) ∙ ap (λ n. length h.0 + n) (length-append token.text h.1) in
    let last : end ≡ at + length h.1 = omega arith in
    ended_token from s bytes token h.0 h.1 h.2
    ∙ behind_token end at token.at h.1 tokens (next s token.text)
    (λ after. ended_reads at end after h.1 tokens h.3 last)
