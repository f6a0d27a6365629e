-- From the declared items and units to the plain ones.
use Rattle.std.specs.Prelude.{map}
use Rattle.psl_grammar.specs.RawUnit as u
use Rattle.psl_grammar.specs.View.{sere_of, prop_of}
use Rattle.psl_grammar.specs.declared.items.RawItem.{RawItem}
use Rattle.psl_grammar.specs.declared.items.RawItem.TheVariants.{Clock, Wire, Sequence, Property, Assert}
use Rattle.psl_grammar.specs.declared.items.RawUnit.{RawUnit}

abbrev pub item_of : RawItem → u.RawItem
item_of (Clock n) = u.clock n
item_of (Wire r ns) = u.wire r ns
item_of (Sequence n b) = u.sequence n (sere_of b)
item_of (Property n b) = u.property n (prop_of b)
item_of (Assert w l b r) = u.assert w l (prop_of b) r

abbrev pub unit_of : RawUnit → u.RawUnit
unit_of raw = record { name = raw.name; items = map item_of raw.items.items }
