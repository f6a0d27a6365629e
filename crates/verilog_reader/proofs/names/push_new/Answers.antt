use Rattle.verilog_reader.proofs.AddedNames.{pushed_keys, pushed_values}
use Rattle.verilog_reader.proofs.names.push_new.Goals as goal

pub returns-clause-names : goal.returns-clause-names
returns-clause-names c =
    pushed_keys c.args.table.now c.insert.new.self c.args.name c.args.width c.requires.absent
    c.in_ok-insert.ensures.entries

pub returns-clause-widths : goal.returns-clause-widths
returns-clause-widths c =
    pushed_values c.args.table.now c.insert.new.self c.args.name c.args.width c.requires.absent
    c.in_ok-insert.ensures.entries
