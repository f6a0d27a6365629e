-- What a walk over the edges gives.
use Rattle.std.specs.Prelude.{ℕ, List, length}
use Rattle.vcd_reader.specs.declared.waveform.Change.{Change}
use Rattle.vcd_replay.specs.declared.edges.Edge.{Edge}
use Rattle.vcd_replay.specs.declared.samples.Samples.{Samples}
use Rattle.vcd_replay.specs.declared.samples.Samples.TheVariants.{Known, Unknown}
use Rattle.vcd_replay.specs.inner.Walk.{AreSampled, IsFirstBlank}

-- all values, or the first port without one
abbrev pub AreSamples : List Change → List Edge → (codes : List ℕ) → Samples → Type 0
AreSamples changes edges codes (Known values) = AreSampled changes edges codes (length edges) values.items
AreSamples changes edges codes (Unknown cycle port) = IsFirstBlank changes edges codes cycle port
