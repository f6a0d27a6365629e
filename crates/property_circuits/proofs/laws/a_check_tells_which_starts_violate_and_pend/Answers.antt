use Rattle.property_circuits.proofs.laws.a_check_tells_which_starts_violate_and_pend.Goals as goal

pub returns-clause-fails : goal.returns-clause-fails
returns-clause-fails c widths trace f start clear fail pend check = check.fails

pub returns-clause-pends : goal.returns-clause-pends
returns-clause-pends c widths trace f start clear fail pend check = check.pends
