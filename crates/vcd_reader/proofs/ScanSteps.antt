-- A scanner within a piece.
use Rattle.std.proofs.Common.{◌≡◌, ℕ, ◌+◌, ◌<◌, ◌≤◌, List, [], ◌∷◌, ◌++◌, true, false, None, Some, length, take}
use Rattle.std.proofs.Common.{get_or, refl, sym, ◌∙◌, ap, arith, add-zero, append-nil}
use Rattle.std.specs.Prelude.{slice_range}
use Rattle.std.specs.Option.{option_map_or}
use Rattle.std.proofs.Common.{subst}
use Rattle.vcd_reader.specs.declared.scanner.Scanner.{Scanner}
use Rattle.vcd_reader.specs.declared.waveform.VcdError.{VcdError}
use Rattle.vcd_reader.specs.inner.StateView.{state_of}
use Rattle.vcd_reader.specs.Tokens.{is_blank}
use Rattle.vcd_reader.specs.inner.Scan.{Scan, reads, fails, close, past_blank, scan_from}
use Rattle.vcd_reader.specs.inner.ScanView.{scanned, scan_of}
use Rattle.vcd_reader.proofs.ScanLemmas.{failed_early, one_more_ink, one_more_blank, empty_part, scan_none}

-- the scan of a scanner in which no fault has come
abbrev pub own : Scanner → Scan
own s = reads s.at s.partial.items (state_of s.reading)

-- behind the first bytes of a piece, the last of them from `start` on without a blank
pub record IsScanned (first : Scanner) (piece : List ℕ) (start index : ℕ) (now : Scanner) : Type 0 where
  pub fine : now.failed ≡ None
  pub same : now.at ≡ first.at
  pub low : start ≤ index
  pub room : length now.partial.items ≤ first.at + start
  pub scan : scan_from (own first) (take index piece)
      ≡ reads (first.at + index) (now.partial.items ++ slice_range piece start index) (state_of now.reading)

pub scan_begins : (first : Scanner) (piece : List ℕ) → first.failed ≡ None → length first.partial.items ≤ first.at
    → IsScanned first piece 0 0 first
scan_begins first piece fine within = record {
  fine = fine;
  same = refl;
  low = omega arith;
  room = omega arith;
  scan = scan_none (own first) ∙ ap (λ at. reads at first.partial.items (state_of first.reading))
      (sym (add-zero first.at)) ∙ ap (λ part. reads (first.at + 0) part (state_of first.reading))
      (sym (append-nil first.partial.items));
}

pub past_ink_byte : (first : Scanner) (piece : List ℕ) (start index : ℕ) (now : Scanner)
    → IsScanned first piece start index now
    → index < length piece → is_blank (get_or piece index 0) ≡ false → IsScanned first piece start (index + 1) now
past_ink_byte first piece start index now h more ink = record {
  fine = h.fine;
  same = h.same;
  low = let low : start ≤ index = h.low in omega arith;
  room = h.room;
  scan = one_more_ink (own first) piece index first.at start now.partial.items (state_of now.reading) more h.low h.scan
      ink;
}

-- the end of a token, as the scanner tells it
abbrev pub Closes : ℕ → Scanner → List ℕ → Scanner → Type 0
Closes end now part after = scanned end after ≡ close (reads end (now.partial.items ++ part) (state_of now.reading))

closed : (first : Scanner) (piece : List ℕ) (start index : ℕ) (now after : Scanner)
    → IsScanned first piece start index now
    → Closes (now.at + index) now (slice_range piece start index) after
    → close (scan_from (own first) (take index piece)) ≡ scanned (first.at + index) after
closed first piece start index now after h says =
    ap close h.scan ∙ sym (subst (λ at. Closes (at + index) now (slice_range piece start index) after) h.same says)

pub past_blank_byte : (first : Scanner) (piece : List ℕ) (start index : ℕ) (now after : Scanner)
    → IsScanned first piece start index now
    → index < length piece → is_blank (get_or piece index 0) ≡ true
    → Closes (now.at + index) now (slice_range piece start index) after → after.partial.items ≡ [] → after.at ≡ now.at
    → after.failed ≡ None
    → IsScanned first piece (index + 1) (index + 1) after
past_blank_byte first piece start index now after h more blank says empty at fine = record {
  fine = fine;
  same = at ∙ h.same;
  low = omega arith;
  room = let none : length after.partial.items ≡ 0 = ap length empty in omega arith;
  scan =
      one_more_blank (own first) piece index (scanned (first.at + index) after) more
      (closed first piece start index now after h says) blank
      ∙ ap (λ failed. past_blank (option_map_or fails failed
      (reads (first.at + index) after.partial.items (state_of after.reading)))) fine
      ∙ ap (λ at. reads at after.partial.items (state_of after.reading))
      (let sum : first.at + index + 1 ≡ first.at + (index + 1) = omega arith in sum)
      ∙ ap (λ part. reads (first.at + (index + 1)) part (state_of after.reading))
      (sym (ap (λ part. after.partial.items ++ part) (empty_part piece (index + 1))
      ∙ append-nil after.partial.items));
}

failed_scan : (at : ℕ) (after : Scanner) (error : VcdError) → after.failed ≡ Some error → scanned at after ≡ fails error
failed_scan at after error h = ap (λ failed.
    option_map_or fails failed (reads at after.partial.items (state_of after.reading))) h

pub failed_at_blank : (first : Scanner) (piece : List ℕ) (start index : ℕ) (now after : Scanner) (error : VcdError)
    → IsScanned first piece start index now
    → index < length piece → is_blank (get_or piece index 0) ≡ true
    → Closes (now.at + index) now (slice_range piece start index) after → after.failed ≡ Some error
    → scan_of after ≡ scan_from (own first) piece
failed_at_blank first piece start index now after error h more blank says fault =
    let here : scan_from (own first) (take (index + 1) piece) ≡ fails error =
    one_more_blank (own first) piece index (scanned (first.at + index) after) more
    (closed first piece start index now after h says) blank
    ∙ ap past_blank (failed_scan (first.at + index) after error fault)
    in
    failed_scan after.at after error fault ∙ sym (failed_early (own first) piece (index + 1) error here)
