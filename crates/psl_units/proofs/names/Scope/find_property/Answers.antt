use Rattle.std.proofs.Common.{◌≡◌, sym, ◌∙◌}
use Rattle.unit_rules.specs.Source.{source, bytes_at}
use Rattle.psl_units.proofs.FoundLemmas.{property_found, property_not_missing}
use Rattle.psl_units.proofs.names.Scope.find_property.Goals as goal

pub returns-in-Property : goal.returns-in-Property
returns-in-Property c =
    property_found (source c.args.text.now c.args.tokens.now) c.args.self.now
    (bytes_at (source c.args.text.now c.args.tokens.now) c.args.token) c.bytes_at-name.result.now c.in-Some.place
    c.index-self-place.result c.requires c.bytes_at-name.ensures c.index-self-place.is
    c.before-in-Property.result c.in-Property.name c.in-Property.body
    (record {
      items = c.before-in-Property.ensures.items;
      names = c.before-in-Property.ensures.names;
      upto = c.before-in-Property.ensures.upto;
    })
    (sym c.in_ok-place.ensures ∙ c.in-Some.is) c.in-Property.is

pub returns-in_default-items : goal.returns-in_default-items
returns-in_default-items c =
    absurd (property_not_missing (source c.args.text.now c.args.tokens.now) c.args.self.now
    (bytes_at (source c.args.text.now c.args.tokens.now) c.args.token) c.bytes_at-name.result.now c.in-Some.place
    c.index-self-place.result c.requires c.bytes_at-name.ensures c.index-self-place.is
    c.in_default-items.not-Property (sym c.in_ok-place.ensures ∙ c.in-Some.is))
