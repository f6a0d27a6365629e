use Rattle.std.proofs.Common.{◌≡◌, sym, ◌∙◌}
use Rattle.unit_rules.specs.Source.{source, bytes_at}
use Rattle.psl_units.proofs.FoundLemmas.{sequence_found, sequence_not_missing}
use Rattle.psl_units.proofs.names.Scope.find_sequence.Goals as goal

pub returns-in-Sequence : goal.returns-in-Sequence
returns-in-Sequence c =
    sequence_found (source c.args.text.now c.args.tokens.now) c.args.self.now
    (bytes_at (source c.args.text.now c.args.tokens.now) c.args.token) c.bytes_at-name.result.now c.in-Some.place
    c.index-self-place.result c.requires c.bytes_at-name.ensures c.index-self-place.is
    c.before-in-Sequence.result c.in-Sequence.name c.in-Sequence.body
    (record {
      items = c.before-in-Sequence.ensures.items;
      names = c.before-in-Sequence.ensures.names;
      upto = c.before-in-Sequence.ensures.upto;
    })
    (sym c.in_ok-place.ensures ∙ c.in-Some.is) c.in-Sequence.is

pub returns-in_default-items : goal.returns-in_default-items
returns-in_default-items c =
    absurd (sequence_not_missing (source c.args.text.now c.args.tokens.now) c.args.self.now
    (bytes_at (source c.args.text.now c.args.tokens.now) c.args.token) c.bytes_at-name.result.now c.in-Some.place
    c.index-self-place.result c.requires c.bytes_at-name.ensures c.index-self-place.is
    c.in_default-items.not-Sequence (sym c.in_ok-place.ensures ∙ c.in-Some.is))
