-- Tables of names, in which an expression's names are looked up.
use Rattle.std.specs.Prelude.{◌≡◌, ℕ, ◌<◌, ◌≤◌, List, length, Some, slice_index}
use Rattle.psl_model.specs.Limits.{vector_limit}
use Rattle.psl_model.specs.Names.{IsIdentifier}
use Rattle.verilog_text.specs.Text.{name_at}
use Rattle.verilog_reader.specs.inner.Phrases.{place_of}

-- as many names as widths; each name is one, is found at its place, and its width is within the limit
pub record IsTable (names : List (List ℕ)) (widths : List ℕ) : Type 0 where
  pub lengths : length names ≡ length widths
  pub identifiers : (place : ℕ) → place < length names → IsIdentifier (name_at names place)
  pub places : (place : ℕ) → place < length names → place_of names (name_at names place) ≡ Some place
  pub bounded : (place : ℕ) → slice_index widths place ≤ vector_limit
