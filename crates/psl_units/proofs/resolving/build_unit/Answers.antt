use Rattle.std.proofs.Common.{List, map, subst, sym}
use Rattle.psl_grammar.specs.UnitView.{item_of, unit_of as raw_unit_of}
use Rattle.psl_grammar.specs.declared.items.RawItem.{RawItem}
use Rattle.unit_rules.specs.Source.{Source, source}
use Rattle.unit_rules.specs.Placed.{no_bodies}
use Rattle.psl_units.specs.Before.{AreNew}
use Rattle.psl_units.proofs.resolving.build_unit.Goals as goal

pub names_of-requires : goal.names_of-requires
names_of-requires c =
    let s : Source = source c.args.text.now c.args.tokens.now in
    let P : List RawItem → Type 0 = λ items. AreNew s no_bodies (map item_of items) in
    subst P (sym c.as_slice-items.ensures.value)
    (c.a_lawful_unit_declares_no_name_twice.ensures s (raw_unit_of c.args.raw.now) c.requires.lawful)
