use Rattle.std.proofs.Common.{refl}
use Rattle.unit_reader.proofs.Noting.{other_noted}
use Rattle.unit_reader.proofs.namesakes.note_other.Goals as goal

pub returns-clause-noted : goal.returns-clause-noted
returns-clause-noted c =
    other_noted c.args.text.now c.args.tokens.now c.args.place c.args.names
    (record { earlier = c.in_ok-earlier.earlier; latest = c.args.names.latest })
    c.requires.other c.requires.noted c.in_ok-earlier.ensures.put refl
