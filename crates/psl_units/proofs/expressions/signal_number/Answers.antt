use Rattle.std.proofs.Common.{◌≡◌, sym, ◌∙◌}
use Rattle.std.proofs.lemmas.Map.Entries.{length-keys_of}
use Rattle.std.specs.Map.{keys_of}
use Rattle.unit_rules.specs.Known.{same_name}
use Rattle.psl_units.proofs.Positions.{position_none}
use Rattle.psl_units.proofs.expressions.signal_number.Goals as goal

pub returns-in-None : goal.returns-in-None
returns-in-None c =
    c.len.ensures.len
    ∙ (sym (length-keys_of c.args.signals.now.entries)
    ∙ position_none (same_name c.args.name.now) (keys_of c.args.signals.now.entries)
    (sym c.find_signal.ensures ∙ c.in-None.is))
