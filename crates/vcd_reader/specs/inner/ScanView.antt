-- What the code's scanner knows.
use Rattle.std.specs.Prelude.{ℕ}
use Rattle.std.specs.Option.{option_map_or}
use Rattle.vcd_reader.specs.declared.scanner.Scanner.{Scanner}
use Rattle.vcd_reader.specs.inner.StateView.{state_of}
use Rattle.vcd_reader.specs.inner.Scan.{Scan, reads, fails}

-- the scan of the code's scanner, where so many bytes have come
abbrev pub scanned : ℕ → Scanner → Scan
scanned at scanner = option_map_or fails scanner.failed (reads at scanner.partial.items (state_of scanner.reading))

abbrev pub scan_of : Scanner → Scan
scan_of scanner = scanned scanner.at scanner
