use Rattle.std.proofs.Common.{◌<◌, sym, arith}
use Rattle.indexmap.specs.IndexMap.{keys, values}
use Rattle.verilog_reader.specs.inner.PhraseView.{read_of}
use Rattle.verilog_reader.proofs.Steps.{gives_as, no_room, grouped, alone}
use Rattle.verilog_reader.proofs.expressions.+expression.Goals as goal

pub read_expression-returns-then-room-eq0 : goal.read_expression-returns-then-room-eq0
read_expression-returns-then-room-eq0 t c =
    gives_as read_of c.read_atom.result _ _
    (no_room (keys c.args.table.now) (values c.args.table.now) c.args.room c.args.bytes.now c.if-room-eq0.true)
    c.read_atom.ensures

pub read_expression-returns-in-Some : goal.read_expression-returns-in-Some
read_expression-returns-in-Some t c =
    let some : 0 < c.args.room = omega arith in
    gives_as read_of c.read_group.result _ _
    (grouped (keys c.args.table.now) (values c.args.table.now) c.args.room c.args.bytes.now c.in-Some.inner.now some
    (sym c.in-Some.ensures)) c.read_group.ensures

pub read_expression-returns-in-None : goal.read_expression-returns-in-None
read_expression-returns-in-None t c =
    gives_as read_of c.read_atom-in-None.result _ _
    (alone (keys c.args.table.now) (values c.args.table.now) c.args.room c.args.bytes.now (sym c.in-None.ensures))
    c.read_atom-in-None.ensures
