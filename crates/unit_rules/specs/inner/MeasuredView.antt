-- From the declared measures by name to the plain ones.
use Rattle.unit_rules.specs.declared.measures.Measured.{Measured}
use Rattle.unit_rules.specs.inner.Reckoned.{Numbers}

abbrev pub numbers_of : Measured → Numbers
numbers_of measured = record { sequences = measured.sequences.entries; properties = measured.properties.entries }
