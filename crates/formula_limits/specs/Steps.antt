-- How many steps the sequences of a base formula have: of each sequence, those of its place graph that leave places
-- which the start place reaches.
--     HasSteps f k      there are k steps
-- Nothing is counted for a sequence that stands as a formula yet: no formula with one is built.
use Rattle.std.specs.Prelude.{ℕ, ◌≡◌, ◌+◌}
use Rattle.psl_model.specs.Sere.{Sere}
use Rattle.psl_rewrite.specs.Base.{Base, bool, and, or_bool, implies, always, next, next_all, next_some, until, event}
use Rattle.psl_rewrite.specs.Base.{event_some, seq, eventually, suffix, abort}
use Rattle.psl_rewrite.specs.Meaning.{meant_core}
use Rattle.sequence_cores.specs.Counted.{counted_as}
use Rattle.sequence_tables.specs.Steps as core

abbrev pub SequenceHasSteps : Sere → ℕ → Type 0
SequenceHasSteps r k = core.HasSteps (meant_core (counted_as r)) k

abbrev pub HasSteps : Base → ℕ → Type 0
HasSteps (bool e) k = k ≡ 0
HasSteps (and f g) k = (m n : ℕ) × HasSteps f m × HasSteps g n × (k ≡ m + n)
HasSteps (or_bool e f) k = HasSteps f k
HasSteps (implies e f) k = HasSteps f k
HasSteps (always f) k = HasSteps f k
HasSteps (next s c f) k = HasSteps f k
HasSteps (next_all s low high f) k = HasSteps f k
HasSteps (next_some s low high e) k = k ≡ 0
HasSteps (until s f e) k = HasSteps f k
HasSteps (event s on low high f) k = HasSteps f k
HasSteps (event_some s on low high e) k = k ≡ 0
HasSteps (seq r s) k = k ≡ 0
HasSteps (eventually r) k = SequenceHasSteps r k
HasSteps (suffix r f) k = (m n : ℕ) × SequenceHasSteps r m × HasSteps f n × (k ≡ m + n)
HasSteps (abort f on) k = HasSteps f k

-- the most steps of a unit
abbrev pub step_limit : ℕ
step_limit = 1000000
