use Rattle.std.proofs.Common.{◌+◌, ◌≤◌, length, sym, arith}
use Rattle.std.proofs.lemmas.List.{append-nil}
use Rattle.verilog_text.proofs.Places.{none_at}
use Rattle.verilog_text.proofs.names.put_numbered_name.Goals as goal

pub returns-else-place-registers-2-clause-text : goal.returns-else-place-registers-2-clause-text
returns-else-place-registers-2-clause-text c =
    let past : length c.args.checker.now.regs + length c.args.checker.now.wires ≤ c.args.place = omega arith in
    rw (none_at c.args.checker.now c.args.place past) (sym (append-nil c.args.out.now.items))
