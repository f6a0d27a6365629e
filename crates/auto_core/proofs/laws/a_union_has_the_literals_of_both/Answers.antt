use Rattle.auto_core.proofs.LabelLemmas.{Contains-put_all, Passes-put_all, IsLabel-put_all, put_all-nil}
use Rattle.auto_core.proofs.Union.{put_union}
use Rattle.auto_core.proofs.laws.a_union_has_the_literals_of_both.Goals as goal

pub returns-clause-members : goal.returns-clause-members
returns-clause-members c = Contains-put_all

pub returns-clause-passes : goal.returns-clause-passes
returns-clause-passes c = Passes-put_all

pub returns-clause-ordered : goal.returns-clause-ordered
returns-clause-ordered c = IsLabel-put_all

pub returns-clause-joined : goal.returns-clause-joined
returns-clause-joined c = put_union

pub returns-clause-itself : goal.returns-clause-itself
returns-clause-itself c = put_all-nil
