-- What is known of a unit's names and directives after some of its sites.
use Rattle.std.specs.Prelude.{ℕ, ◌+◌, Bool, ◌||◌, nat_eq, nat_lt, Option, None, Some, is_some, unwrap_or, if◌then◌else◌}
use Rattle.std.specs.Prelude.{List, [], ◌∷◌, ◌++◌, fold}
use Rattle.std.specs.List.{list_any}
use Rattle.std.specs.Map.{lookup}
use Rattle.std.specs.Cmp.Lexicographic.{pointwise}
use Rattle.psl_model.specs.Limits.{vector_limit}
use Rattle.psl_grammar.specs.RawUnit.{RawUnit}
use Rattle.unit_rules.specs.Source.{Source, bytes_at}
use Rattle.unit_rules.specs.Numbers.{number_at}
use Rattle.unit_rules.specs.Sites.{Site, span, declared, used, phrase, label, directive, literal_at, operator, counts}
use Rattle.unit_rules.specs.Sites.{unit_sites}

pub record Known : Type 0 where
  -- the signals in the order of their numbers, each with its width
  pub signals : List (List ℕ × ℕ)
  -- the names of sequences and properties, in their order
  pub phrases : List (List ℕ)
  pub labels : List (List ℕ)
  pub directives : ℕ

abbrev pub nothing : Known
nothing = record { signals = []; phrases = []; labels = []; directives = 0 }

abbrev pub same_name : List ℕ → List ℕ → Bool
same_name = pointwise nat_eq

abbrev pub is_among : List ℕ → List (List ℕ) → Bool
is_among name names = list_any (same_name name) names

abbrev pub is_signal : Known → List ℕ → Bool
is_signal known name = is_some (lookup (same_name name) known.signals)

abbrev pub is_phrase : Known → List ℕ → Bool
is_phrase known name = is_among name known.phrases

-- whether the name has a meaning already
abbrev pub has_meaning : Known → List ℕ → Bool
has_meaning known name = is_signal known name || is_phrase known name

-- how many bits a signal has, and 1 where it isn't known yet
abbrev pub width_of_signal : Known → List ℕ → ℕ
width_of_signal known name = unwrap_or (lookup (same_name name) known.signals) 1

-- how many bits a `wire` of this range gives its names. One that is too wide, which is a fault by itself, counts as one
-- bit.
abbrev pub declared_width : Source → Option (ℕ × ℕ) → ℕ
declared_width s None = 1
declared_width s (Some range) = if nat_lt (number_at s range.0) vector_limit then number_at s range.0 + 1 else 1

-- a new signal gets the next number
abbrev pub with_signal : Known → List ℕ → ℕ → Known
with_signal known name width =
    if has_meaning known name then known
    else record known { signals = known.signals ++ (name, width) ∷ [] }

abbrev pub with_phrase : Known → List ℕ → Known
with_phrase known name =
    if has_meaning known name then known
    else record known { phrases = known.phrases ++ name ∷ [] }

abbrev pub after_site : Source → Known → Site → Known
after_site s known (span high low) = known
after_site s known (declared token range) = with_signal known (bytes_at s token) (declared_width s range)
after_site s known (used token select) = with_signal known (bytes_at s token) 1
after_site s known (phrase token) = with_phrase known (bytes_at s token)
after_site s known (label token) = record known { labels = known.labels ++ bytes_at s token ∷ [] }
after_site s known (directive word) = record known { directives = known.directives + 1 }
after_site s known (literal_at token) = known
after_site s known (operator mark a b) = known
after_site s known (counts mark low high) = known

abbrev pub known_after : Source → Known → List Site → Known
known_after s known sites = fold (after_site s) known sites

-- the signals of a unit by their first places, as declared or used, each with its width
abbrev pub unit_signals : Source → RawUnit → List (List ℕ × ℕ)
unit_signals s raw = (known_after s nothing (unit_sites raw)).signals
