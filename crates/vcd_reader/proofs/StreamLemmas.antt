-- What a reader knows, and the scan of its scanner.
use Rattle.std.proofs.Common.{◌≡◌, ℕ, ◌+◌, ◌≤◌, List, [], ◌∷◌, ◌++◌, Bool, true, false, cond, Option, Some, None}
use Rattle.std.proofs.Common.{length, refl, sym, ◌∙◌, ap, subst, arith, Result}
use Rattle.vcd_reader.specs.declared.waveform.Vcd.{Vcd}
use Rattle.vcd_reader.specs.declared.waveform.VcdError.{VcdError}
use Rattle.vcd_reader.specs.inner.State.{start}
use Rattle.vcd_reader.specs.Tokens.{Token, AreTokens}
use Rattle.vcd_reader.specs.inner.Outcome.{reading}
use Rattle.vcd_reader.specs.Telling.{Answers, StandsFor}
use Rattle.vcd_reader.specs.inner.Scan.{Scan, scan_from, first_scan, ended, bytes_taken}
use Rattle.vcd_reader.specs.Stream.{Stream, after, stream_taken}
use Rattle.vcd_reader.proofs.ScanLemmas.{scan_append, scan_taken}
use Rattle.vcd_reader.proofs.TokenLemmas.{ended_reads}
use Rattle.vcd_reader.proofs.TellingLemmas.{reading_is_telling}

-- where memory was there, the reader's stream is its scan
pub kept : (lost : Bool) (scan : Scan) (stream : Stream) → lost ≡ false → cond lost None (Some scan) ≡ stream
    → Some scan ≡ stream
kept lost scan stream fine h = sym (ap (λ b. cond b None (Some scan)) fine) ∙ h

pub fed : (lost : Bool) (old new : Scan) (bytes piece : List ℕ) → lost ≡ false → cond lost None (Some old) ≡ after bytes
    → new ≡ scan_from old piece → cond lost None (Some new) ≡ after (bytes ++ piece)
fed lost old new bytes piece fine h says =
    let stream : Some old ≡ Some (scan_from first_scan bytes) = kept lost old (after bytes) fine h in
    let same : old ≡ scan_from first_scan bytes = cc in
    ap (λ b. cond b None (Some new)) fine
    ∙ ap Some (says ∙ ap (λ scan. scan_from scan piece) same ∙ sym (scan_append first_scan bytes piece))

pub finished : (lost : Bool) (scan : Scan) (bytes : List ℕ) (answer : Result Vcd VcdError) → lost ≡ false
    → cond lost None (Some scan) ≡ after bytes
    → Answers answer (ended scan) → StandsFor bytes answer
finished lost scan bytes answer fine h says = λ tokens are.
    let stream : Some scan ≡ Some (scan_from first_scan bytes) = kept lost scan (after bytes) fine h in
    let same : scan ≡ scan_from first_scan bytes = cc in
    subst (λ outcome. Answers answer outcome)
    (ap ended same ∙ ended_reads 0 (length bytes) start bytes tokens are (omega arith)
    ∙ reading_is_telling (length bytes) tokens) says

pub counted : (lost : Bool) (old new : Scan) (stream : Stream) (piece : List ℕ) → lost ≡ false
    → cond lost None (Some old) ≡ stream
    → new ≡ scan_from old piece → stream_taken (cond lost None (Some new)) ≤ stream_taken stream + length piece
counted lost old new stream piece fine h says =
    let before : bytes_taken old ≡ stream_taken stream = ap stream_taken (kept lost old stream fine h) in
    let now : stream_taken (cond lost None (Some new)) ≡ bytes_taken (scan_from old piece) =
    ap (λ b. stream_taken (cond b None (Some new))) fine ∙ ap bytes_taken says in
    let few : bytes_taken (scan_from old piece) ≤ bytes_taken old + length piece = scan_taken old piece in
    omega arith
