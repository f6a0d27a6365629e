use Rattle.psl_meaning.proofs.Always.{everywhere_places, places_everywhere}
use Rattle.psl_meaning.proofs.laws.everywhere_is_each_place.Goals as goal

pub returns : goal.returns
returns c widths f w = (everywhere_places widths f w, places_everywhere widths f w)
