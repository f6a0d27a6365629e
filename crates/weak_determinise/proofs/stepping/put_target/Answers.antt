use Rattle.std.proofs.Common.{sym, refl}
use Rattle.std.proofs.lemmas.Result.{on_ok_weaker}
use Rattle.weak_determinise.proofs.Members.{Among-get_or}
use Rattle.weak_determinise.proofs.Gathering.{row_below, target_put, target_gathered}
use Rattle.weak_determinise.proofs.stepping.put_target.Goals as goal

pub put-requires : goal.put-requires
put-requires c = c.in_ok-place.ensures.rising c.index_mut.result.now
    (Among-get_or _ c.in_ok-place.place c.index_mut.result.now
    (row_below c.args.label _ _ _ _ c.in_ok-place.place c.in_ok-place.ensures) (sym c.index_mut.ensures.value))

pub returns-clause-put : goal.returns-clause-put
returns-clause-put c = on_ok_weaker c.put.result (λ puts.
    target_put c.args.label c.args.gathered.now.labels.keys _ c.args.gathered.now.rows.items _ c.in_ok-place.place
    c.in_ok-place.ensures c.args.to c.index_mut.result.now _ _ c.index_mut.ensures.value puts refl) c.put.ensures

pub returns-clause-gathered : goal.returns-clause-gathered
returns-clause-gathered c = on_ok_weaker c.put.result (λ puts.
    target_gathered c.args.label c.args.gathered.now.labels.keys _ c.args.gathered.now.rows.items _
    c.in_ok-place.place c.in_ok-place.ensures c.args.to c.index_mut.result.now _ _ c.index_mut.ensures.value puts refl
    c.requires) c.put.ensures
