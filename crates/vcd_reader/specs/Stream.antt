-- What a reader knows after some pieces of a text.
use Rattle.std.specs.Prelude.{ℕ, List, Option, Some, None}
use Rattle.std.specs.Option.{option_map_or}
use Rattle.vcd_reader.specs.inner.Scan.{Scan, scan_from, first_scan, bytes_taken}

-- None: memory was wanting
abbrev pub Stream : Type 0
Stream = Option Scan

-- a reader that has taken these bytes
abbrev pub after : List ℕ → Stream
after bytes = Some (scan_from first_scan bytes)

abbrev pub stream_taken : Stream → ℕ
stream_taken stream = option_map_or bytes_taken stream 0
