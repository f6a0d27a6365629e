-- The names that are known at a token.
use Rattle.std.specs.Prelude.{ℕ, ◌≡◌, ◌≤◌, Bool, true, false, List, length, nat_eq, unwrap_or}
use Rattle.std.specs.Cmp.Lexicographic.{pointwise}
use Rattle.indexmap.specs.IndexMap.{get}
use Rattle.psl_lexer.specs.declared.kinds.Kind.{Kind}
use Rattle.psl_lexer.specs.declared.kinds.Kind.TheVariants as kind
use Rattle.psl_lexer.specs.declared.kinds.Token.{Token}
use Rattle.psl_grammar.specs.declared.symbols.Symbol.TheVariants as symbol
use Rattle.psl_grammar.specs.Units.{Known, meaning_of}
use Rattle.psl_parser.specs.Seen.{way_to, known_before}
use Rattle.psl_parser.specs.declared.names.Names.{Names}

abbrev pub is_name_kind : Kind → Bool
is_name_kind kind.Name = true
is_name_kind _ = false

-- the bytes of a token are a part of the text
abbrev pub IsPart : (text : List ℕ) → Token → Type 0
IsPart text token = (token.start ≤ token.end) × (token.end ≤ length text)

-- the same names have the same meanings
abbrev pub Knows : Known → Names → Type 0
Knows known names =
    (name : List ℕ) → unwrap_or (get (pointwise nat_eq) names.known name) symbol.Name ≡ meaning_of known name

pub record AreKnown (text : List ℕ) (tokens : List Token) (place : ℕ) (names : Names) : Type 0 where
  pub known : Knows (known_before text tokens place) names
  pub way : (names.braces, names.own) ≡ way_to text tokens place
  pub few : names.braces ≤ place
  pub few_own : names.own ≤ place
