use Rattle.std.proofs.Common.{◌+◌, ◌<◌, ◌^◌, map, length, arith}
use Rattle.std.proofs.lemmas.List.{length-map}
use Rattle.psl_grammar.specs.UnitView.{unit_of as raw_unit_of}
use Rattle.psl_model.specs.Unit.{PslUnit}
use Rattle.psl_model.specs.UnitView.{unit_of, directive_of}
use Rattle.verilog_text.specs.View.{module_of}
use Rattle.mbac_compile.specs.Units.{IsWellWorded, IsWellFormed}
use Rattle.psl_units.specs.StandsForUnit.{StandsForUnit}
use Rattle.unit_compile.proofs.Loops.{unmapped}
use Rattle.unit_compile.proofs.Texts.{rule_fault, stands_by, unit_refused, unit_made}
use Rattle.unit_compile.proofs.compiling.tree_modules.Goals as goal

pub modules_of-requires-clause-names : goal.modules_of-requires-clause-names
modules_of-requires-clause-names c =
    let unit : PslUnit = unit_of c.in-Ok.unit in
    let stands : StandsForUnit c.args.text.now unit =
    stands_by c.args.text.now c.args.tokens.now (raw_unit_of c.args.raw.now) unit c.requires.split c.requires.written
    c.in-Ok.ensures.lawful c.in-Ok.ensures.unit in
    c.a_unit_meets_its_conditions.ensures.names c.args.text.now unit stands

pub modules_of-requires-clause-words : goal.modules_of-requires-clause-words
modules_of-requires-clause-words c =
    let unit : PslUnit = unit_of c.in-Ok.unit in
    let stands : StandsForUnit c.args.text.now unit =
    stands_by c.args.text.now c.args.tokens.now (raw_unit_of c.args.raw.now) unit c.requires.split c.requires.written
    c.in-Ok.ensures.lawful c.in-Ok.ensures.unit in
    unmapped IsWellWorded c.in-Ok.unit.directives
    (c.a_unit_meets_its_conditions.ensures.words c.args.text.now unit stands)

pub modules_of-requires-clause-expressions : goal.modules_of-requires-clause-expressions
modules_of-requires-clause-expressions c =
    let unit : PslUnit = unit_of c.in-Ok.unit in
    let stands : StandsForUnit c.args.text.now unit =
    stands_by c.args.text.now c.args.tokens.now (raw_unit_of c.args.raw.now) unit c.requires.split c.requires.written
    c.in-Ok.ensures.lawful c.in-Ok.ensures.unit in
    unmapped (IsWellFormed unit) c.in-Ok.unit.directives
    (c.a_unit_meets_its_conditions.ensures.expressions c.args.text.now unit stands)

pub modules_of-requires-clause-few : goal.modules_of-requires-clause-few
modules_of-requires-clause-few c =
    let unit : PslUnit = unit_of c.in-Ok.unit in
    let stands : StandsForUnit c.args.text.now unit =
    stands_by c.args.text.now c.args.tokens.now (raw_unit_of c.args.raw.now) unit c.requires.split c.requires.written
    c.in-Ok.ensures.lawful c.in-Ok.ensures.unit in
    let few : length unit.directives + 1 < 2 ^ 32 =
    c.a_unit_meets_its_conditions.ensures.few c.args.text.now unit stands c.requires.short in
    omega (arith, few, length-map c.in-Ok.unit.directives directive_of)

pub returns-in-Ok-clause-made : goal.returns-in-Ok-clause-made
returns-in-Ok-clause-made c =
    let unit : PslUnit = unit_of c.in-Ok.unit in
    let stands : StandsForUnit c.args.text.now unit =
    stands_by c.args.text.now c.args.tokens.now (raw_unit_of c.args.raw.now) unit c.requires.split c.requires.written
    c.in-Ok.ensures.lawful c.in-Ok.ensures.unit in
    unit_made c.args.text.now unit stands (λ v. map module_of v.items)
    (λ modules made. c.checkers_have_different_names.ensures c.args.text.now unit modules stands c.requires.short made)
    c.modules_of.result c.modules_of.ensures.made c.modules_of.ensures.taken

pub returns-in-Ok-clause-refused : goal.returns-in-Ok-clause-refused
returns-in-Ok-clause-refused c =
    let unit : PslUnit = unit_of c.in-Ok.unit in
    let stands : StandsForUnit c.args.text.now unit =
    stands_by c.args.text.now c.args.tokens.now (raw_unit_of c.args.raw.now) unit c.requires.split c.requires.written
    c.in-Ok.ensures.lawful c.in-Ok.ensures.unit in
    unit_refused c.args.text.now unit stands (λ v. map module_of v.items) c.modules_of.result
    c.modules_of.ensures.refused

pub returns-in-Err-clause-refused : goal.returns-in-Err-clause-refused
returns-in-Err-clause-refused c =
    rule_fault c.args.text.now c.args.tokens.now (raw_unit_of c.args.raw.now) c.in-Err.error c.rule_refusal.result
    c.requires.split c.requires.written c.in-Err.ensures.refused c.rule_refusal.ensures
