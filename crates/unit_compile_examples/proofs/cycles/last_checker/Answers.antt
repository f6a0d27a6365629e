use Rattle.std.proofs.Common.{map}
use Rattle.verilog_text.specs.View.{module_of}
use Rattle.unit_compile_examples.proofs.Lawful.{all_lawful}
use Rattle.unit_compile_examples.proofs.cycles.last_checker.Goals as goal

pub last_of-requires : goal.last_of-requires
last_of-requires c =
    let made = c.in-Ok.ensures.made in
    let unit = made.accepted.unit in
    all_lawful unit 1 unit.directives (map module_of c.in-Ok.found.items) made.made
