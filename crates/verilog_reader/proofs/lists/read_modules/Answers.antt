use Rattle.std.proofs.Common.{◌<◌, ◌^◌, [], length, map, arith, subst}
use Rattle.verilog_text.specs.View.{module_of}
use Rattle.verilog_reader.specs.declared.errors.Stop.{Stop}
use Rattle.verilog_reader.specs.inner.Answers.{Halts}
use Rattle.verilog_reader.specs.inner.Lines.{modules_at}
use Rattle.verilog_reader.proofs.ModuleLists.{stand_for}
use Rattle.verilog_reader.proofs.WholeTexts.{one_list, no_list}
use Rattle.verilog_reader.proofs.lists.read_modules.Goals as goal

pub returns-in-Ok-clause-found : goal.returns-in-Ok-clause-found
returns-in-Ok-clause-found c =
    stand_for (length c.args.bytes.now) c.args.bytes.now (map module_of c.in-Ok.modules.items) c.in-Ok.ensures

pub returns-in-Ok-clause-no_other : goal.returns-in-Ok-clause-no_other
returns-in-Ok-clause-no_other c =
    let short : length c.args.bytes.now < 2 ^ 64 = omega arith in
    let read = map module_of c.in-Ok.modules.items in
    λ ms stands. one_list c.args.bytes.now ms read short stands
    (stand_for (length c.args.bytes.now) c.args.bytes.now read c.in-Ok.ensures)

pub returns-in-Err-Wrong-clause-refused : goal.returns-in-Err-Wrong-clause-refused
returns-in-Err-Wrong-clause-refused c =
    let short : length c.args.bytes.now < 2 ^ 64 = omega arith in
    let halts =
    subst (λ (s : Stop). Halts s (modules_at (length c.args.bytes.now) ([], []) c.args.bytes.now))
    c.in-Err-Wrong.field-0-is c.in-Err-Wrong.ensures in
    λ line e. no_list c.args.bytes.now short halts
