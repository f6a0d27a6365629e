-- Which tokens have the same name, and where the latest of them stands.
use Rattle.std.specs.Prelude.{◌≡◌, ℕ, zero, suc, ◌≤◌, ◌<◌, Bool, true, false, ◌&&◌, nat_eq, List, length, unwrap_or}
use Rattle.std.specs.Prelude.{slice_index_or}
use Rattle.std.specs.Cmp.Lexicographic.{pointwise}
use Rattle.indexmap.specs.IndexMap.{get}
use Rattle.psl_lexer.specs.declared.kinds.Token.{Token}
use Rattle.psl_lexer.specs.declared.kinds.Kind.{Kind}
use Rattle.psl_lexer.specs.declared.kinds.Kind.TheVariants as kind
use Rattle.psl_grammar.specs.declared.symbols.Symbol.{Symbol}
use Rattle.psl_grammar.specs.Units.{bytes_of, no_token}
use Rattle.unit_reader.specs.inner.Steps.{is_at}
use Rattle.unit_reader.specs.declared.namesakes.Namesakes.{Namesakes}

abbrev pub is_name_kind : Kind → Bool
is_name_kind kind.Name = true
is_name_kind _ = false

-- whether a token is a name with these bytes
abbrev pub is_named : (text name : List ℕ) → Token → Bool
is_named text name token = is_name_kind token.kind && pointwise nat_eq name (bytes_of text token)

module _ (text : List ℕ) (tokens : List Token) where
  abbrev pub named_at : (name : List ℕ) → ℕ → Bool
  named_at name k = is_named text name (slice_index_or tokens k no_token)

  -- the place right behind the latest such name before `place`, and 0 where there is none
  pub record IsLatest (name : List ℕ) (place latest : ℕ) : Type 0 where
    pub before : latest ≤ place
    pub behind : (k : ℕ) → latest ≡ suc k → named_at name k ≡ true
    pub no_later : (k : ℕ) → latest ≤ k → k < place → named_at name k ≡ false

  -- the tokens up to a place are noted
  pub record AreNoted (place : ℕ) (names : Namesakes) : Type 0 where
    pub many : length names.earlier.items ≡ place
    pub each : (name : List ℕ) (k : ℕ) → k < place → named_at name k ≡ true
        → IsLatest name k (slice_index_or names.earlier.items k 0)
    pub last : (name : List ℕ) → IsLatest name place (unwrap_or (get (pointwise nat_eq) names.latest name) 0)

-- whether the token right before a place has a meaning, or the place is the first one
abbrev pub has_before : List Symbol → (place : ℕ) → (meaning : Symbol) → Bool
has_before symbols zero meaning = true
has_before symbols (suc k) meaning = is_at symbols k meaning
