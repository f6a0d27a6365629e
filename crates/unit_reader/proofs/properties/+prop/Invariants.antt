use Rattle.std.proofs.Common.{◌+◌, ◌*◌, ◌-◌, ◌≤◌, suc, length}
use Rattle.psl_grammar.specs.View.{prop_of}
use Rattle.psl_grammar.specs.declared.symbols.Symbol.TheVariants.{AndAnd, OrOr}
use Rattle.unit_reader.specs.inner.Steps.{loop}
use Rattle.unit_reader.specs.inner.PropReaders.{goes_at, and_with, or_with, prop_at}
use Rattle.unit_reader.proofs.Loops.{Turns}
use Rattle.unit_reader.proofs.properties.+prop.Given as goal

abbrev pub decreases-open_body : goal.decreases-open_body
decreases-open_body l = l.room * 64

abbrev pub decreases-read_negation : goal.decreases-read_negation
decreases-read_negation l = l.room * 64 + 1

abbrev pub decreases-read_paren_prop : goal.decreases-read_paren_prop
decreases-read_paren_prop l = l.room * 64 + 1

abbrev pub decreases-read_atom : goal.decreases-read_atom
decreases-read_atom l = l.room * 64 + 2

abbrev pub decreases-read_factor : goal.decreases-read_factor
decreases-read_factor l = l.room * 64 + 3

abbrev pub decreases-read_and : goal.decreases-read_and
decreases-read_and l = l.room * 64 + 4

abbrev pub decreases-read_ands : goal.decreases-read_ands
decreases-read_ands l = l.room * 64 + 5

abbrev pub decreases-read_both : goal.decreases-read_both
decreases-read_both l = l.room * 64 + 6

abbrev pub decreases-read_or : goal.decreases-read_or
decreases-read_or l = l.room * 64 + 7

abbrev pub decreases-read_ors : goal.decreases-read_ors
decreases-read_ors l = l.room * 64 + 8

abbrev pub decreases-read_either : goal.decreases-read_either
decreases-read_either l = l.room * 64 + 9

abbrev pub decreases-read_abt : goal.decreases-read_abt
decreases-read_abt l = l.room * 64 + 10

abbrev pub decreases-read_eventually : goal.decreases-read_eventually
decreases-read_eventually l = l.room * 64 + 11

abbrev pub decreases-read_later : goal.decreases-read_later
decreases-read_later l = l.room * 64 + 11

abbrev pub decreases-read_occ : goal.decreases-read_occ
decreases-read_occ l = l.room * 64 + 12

abbrev pub decreases-read_until : goal.decreases-read_until
decreases-read_until l = l.room * 64 + 13

abbrev pub decreases-read_untl : goal.decreases-read_untl
decreases-read_untl l = l.room * 64 + 14

abbrev pub decreases-read_suffix_body : goal.decreases-read_suffix_body
decreases-read_suffix_body l = l.room * 64 + 15

abbrev pub decreases-read_suffix_of : goal.decreases-read_suffix_of
decreases-read_suffix_of l = l.room * 64 + 16

abbrev pub decreases-read_suffix : goal.decreases-read_suffix
decreases-read_suffix l = l.room * 64 + 17

abbrev pub decreases-read_suff : goal.decreases-read_suff
decreases-read_suff l = l.room * 64 + 18

abbrev pub decreases-read_implied : goal.decreases-read_implied
decreases-read_implied l = l.room * 64 + 19

abbrev pub decreases-read_impl : goal.decreases-read_impl
decreases-read_impl l = l.room * 64 + 20

abbrev pub decreases-read_always : goal.decreases-read_always
decreases-read_always l = l.room * 64 + 21

abbrev pub decreases-read_prop : goal.decreases-read_prop
decreases-read_prop l = l.room * 64 + 22

abbrev pub invariant-read_ands-joins : goal.invariant-read_ands-joins
invariant-read_ands-joins l =
    Turns (length l.symbols) (goes_at l.symbols AndAnd) (and_with l.symbols (prop_at l.symbols l.room) l.room)
    (loop (goes_at l.symbols AndAnd) (and_with l.symbols (prop_at l.symbols l.room) l.room) (suc (length l.symbols))
    (prop_of l.fn.first, l.fn.end))
    (prop_of l.left, l.to)
    × (l.fn.end ≤ l.to) × (l.to ≤ length l.symbols)

abbrev pub decreases-read_ands-joins : goal.decreases-read_ands-joins
decreases-read_ands-joins l = length l.symbols - l.to

abbrev pub invariant-read_ors-joins : goal.invariant-read_ors-joins
invariant-read_ors-joins l =
    Turns (length l.symbols) (goes_at l.symbols OrOr) (or_with l.symbols (prop_at l.symbols l.room) l.room)
    (loop (goes_at l.symbols OrOr) (or_with l.symbols (prop_at l.symbols l.room) l.room) (suc (length l.symbols))
    (prop_of l.fn.first, l.fn.end))
    (prop_of l.left, l.to)
    × (l.fn.end ≤ l.to) × (l.to ≤ length l.symbols)

abbrev pub decreases-read_ors-joins : goal.decreases-read_ors-joins
decreases-read_ors-joins l = length l.symbols - l.to
