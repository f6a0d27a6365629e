-- From the declared tables to what is known.
use Rattle.unit_rules.specs.declared.tables.Tables.{Tables}
use Rattle.unit_rules.specs.Known.{Known}

abbrev pub known_of : Tables → Known
known_of tables = record {
  signals = tables.signals.entries;
  phrases = tables.phrases.keys;
  labels =
      tables.labels.keys;
  directives = tables.directives;
}
