-- How many bits the registers of a base formula's circuit may have.
--     registers_of f    those that the formula takes
--     budget_of f       these, and the one of the directive, which tells the first cycle
-- Nothing is counted for a sequence that stands as a formula yet: no formula with one is built.
use Rattle.std.specs.Prelude.{ℕ, ◌+◌}
use Rattle.psl_rewrite.specs.Base.{Base, bool, and, or_bool, implies, always, next, next_all, next_some, until, event}
use Rattle.psl_rewrite.specs.Base.{event_some, seq, eventually, suffix, abort}
use Rattle.sequence_cores.specs.Places.{places_of}

abbrev pub registers_of : Base → ℕ
registers_of (bool e) = 0
registers_of (and f g) = registers_of f + registers_of g
registers_of (or_bool e f) = registers_of f
registers_of (implies e f) = registers_of f
registers_of (always f) = 1 + registers_of f
registers_of (next s k f) = k + registers_of f
registers_of (next_all s low high f) = high + registers_of f
registers_of (next_some s low high e) = high + 1
registers_of (until s f e) = 1 + registers_of f
registers_of (event s on low high f) = high + registers_of f
registers_of (event_some s on low high e) = high
registers_of (seq r s) = 0
registers_of (eventually r) = places_of r + 1
registers_of (suffix r f) = places_of r + registers_of f
registers_of (abort f on) = registers_of f

abbrev pub budget_of : Base → ℕ
budget_of f = 1 + registers_of f

-- the most register bits of a module
abbrev pub register_limit : ℕ
register_limit = 65536
