-- The state of the code's reader.
use Rattle.vcd_reader.specs.declared.reading.Reading.{Reading}
use Rattle.vcd_reader.specs.inner.State.{State}

abbrev pub state_of : Reading → State
state_of r = record {
  place = r.place;
  path = r.path.items;
  outer = r.outer.items;
  codes = r.codes;
  vars = r.vars.items;
  joined = r.joined.items;
  time = r.time;
  digits = r.digits.items;
  changes = r.changes.items;
}
