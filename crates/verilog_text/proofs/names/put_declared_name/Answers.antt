use Rattle.std.proofs.Common.{◌≤◌, length}
use Rattle.verilog_text.proofs.Places.{numbered_at, none_past}
use Rattle.verilog_text.proofs.names.put_declared_name.Goals as goal

pub returns-in-None-clause-text : goal.returns-in-None-clause-text
returns-in-None-clause-text c =
    let past : length c.args.checker.now.ports ≤ c.args.place =
    none_past c.args.checker.now.ports c.args.place c.in-None.ensures.value in
    rw (numbered_at c.args.checker.now c.args.place past) (rw c.len.ensures at c.put_numbered_name.ensures.text)
