use Rattle.weak_determinise.proofs.Gathering.{row_is}
use Rattle.weak_determinise.proofs.stepping.row_for.Goals as goal

pub returns : goal.returns
returns c = row_is c.args.label c.args.gathered.now.labels.keys _ c.args.gathered.now.rows.items _ c.in_ok-place.place
    c.requires c.in_ok-place.ensures.put c.in_ok-place.ensures.place c.in_ok-add_row.ensures.new
    c.in_ok-add_row.ensures.old
