use Rattle.unit_reader.proofs.Noting.{name_noted}
use Rattle.unit_reader.proofs.namesakes.note_name_at.Goals as goal

pub returns-clause-noted : goal.returns-clause-noted
returns-clause-noted c =
    name_noted c.args.text.now c.args.tokens.now c.args.place c.in_ok-latest.before c.in_ok-name.name c.args.names
    (record { earlier = c.in_ok-earlier.earlier; latest = c.in_ok-latest.latest })
    c.requires.name c.requires.noted c.in_ok-name.ensures.same c.in_ok-latest.ensures.given c.in_ok-latest.ensures.put
    c.in_ok-earlier.ensures.put
