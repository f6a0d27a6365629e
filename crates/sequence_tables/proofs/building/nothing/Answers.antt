use Rattle.sequence_tables.proofs.Arms.{if_both}
use Rattle.sequence_tables.proofs.Tables.{empty_stands}
use Rattle.sequence_tables.proofs.building.nothing.Goals as goal

pub returns : goal.returns
returns c =
    if_both c.of_no_letter.result (λ t value words symbols. empty_stands t value words symbols)
    c.of_no_letter.ensures.value c.of_no_letter.ensures.words
