-- A report text of a unit: this project's own bytes and length. It may be empty.
use Rattle.std.specs.Prelude.{◌≤◌, ℕ, List, length, IsTrue}
use Rattle.std.specs.List.{list_all}
use Rattle.psl_model.specs.Limits.{name_limit}
use Rattle.psl_model.specs.Names.{is_report_byte}

pub record IsReportText (text : List ℕ) : Type 0 where
  pub short : length text ≤ name_limit
  pub printable : IsTrue (list_all is_report_byte text)
