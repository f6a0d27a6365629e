use Rattle.std.proofs.Common.{rules, ◌<◌, length}
use Rattle.mbac_io.proofs.FileLemmas.{file_at-front_taken, file_at-set_other}
use Rattle.mbac_io.proofs.memory_inputs.read_file.Goals as goal

pub returns-clause-taken : goal.returns-clause-taken
returns-clause-taken c =
    let within : c.args.slot < length c.args.files.now.items = search rules in
    file_at-front_taken _ _ _ _ _ _ within c.in-Some.ensures.value c.take_front.ensures.taken c.take_front.ensures.rest

pub returns-clause-others : goal.returns-clause-others
returns-clause-others c = λ other differs. file_at-set_other _ _ _ _ differs
