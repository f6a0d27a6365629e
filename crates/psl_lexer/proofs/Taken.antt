-- The lexemes of the definition, and those of the code's enum.
use Rattle.std.proofs.Common.{ℕ, List, take, inl, inr}
use Rattle.psl_lexer.specs.Shapes.{IsLexeme}
use Rattle.psl_lexer.specs.Gaps.{OpensComment}
use Rattle.psl_lexer.specs.Splits.{IsTaken}
use Rattle.psl_lexer.specs.inner.Lexemes.{Spells, SpellsLongest}
use Rattle.psl_lexer.specs.declared.kinds.Lexeme.{Lexeme}
use Rattle.psl_lexer.specs.declared.kinds.Lexeme.TheVariants as lexeme

pub lexeme_from : (x : Lexeme) (bytes : List ℕ) → Spells x bytes → IsLexeme bytes
lexeme_from (lexeme.Token kind) bytes s = inl (kind, s)
lexeme_from lexeme.LeftOut bytes s = inr (inl s)
lexeme_from lexeme.NameTooLong bytes s = inr (inr s)

pub lexeme_to : (bytes : List ℕ) → IsLexeme bytes → (x : Lexeme) × Spells x bytes
lexeme_to bytes (inl (kind, s)) = (lexeme.Token kind, s)
lexeme_to bytes (inr (inl s)) = (lexeme.LeftOut, s)
lexeme_to bytes (inr (inr s)) = (lexeme.NameTooLong, s)

pub taken : (x : Lexeme) (bytes : List ℕ) (count : ℕ) → (OpensComment bytes → ⊥) → SpellsLongest x bytes count
    → IsTaken bytes count × Spells x (take count bytes)
taken x bytes count comment longest = (
  record {
    no_comment = comment;
    longest = record {
      within = longest.within;
      is_lexeme = lexeme_from x (take count bytes) longest.is_lexeme;
      none_longer = λ more less within is. let other : (y : Lexeme) × Spells y (take more bytes) =
          lexeme_to (take more bytes) is in longest.no_more more less within other.0 other.1;
    };
  },
  longest.is_lexeme,
)
