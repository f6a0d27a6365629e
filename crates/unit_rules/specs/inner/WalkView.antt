-- From the declared walk to its state.
use Rattle.unit_rules.specs.declared.walk.Walk.{Walk}
use Rattle.unit_rules.specs.inner.TablesView.{known_of}
use Rattle.unit_rules.specs.inner.Judging.{State, state}

abbrev pub state_of : Walk → State
state_of walk = state walk.fault (known_of walk.tables)
