-- The lexemes by the enum of the code.
use Rattle.std.specs.Prelude.{◌≡◌, ℕ, ◌<◌, ◌≤◌, List, length, take, Contains}
use Rattle.psl_lexer.specs.Spelling.{word_text, mark_text, left_out_marks}
use Rattle.psl_lexer.specs.Shapes.{IsToken, IsLeftOut, IsTooLong}
use Rattle.psl_lexer.specs.declared.kinds.Kind.TheVariants.{Word, Mark}
use Rattle.psl_lexer.specs.declared.kinds.Lexeme.{Lexeme}
use Rattle.psl_lexer.specs.declared.kinds.Lexeme.TheVariants.{Token, LeftOut, NameTooLong}

-- all of the bytes together are this
abbrev pub Spells : Lexeme → List ℕ → Type 0
Spells (Token kind) bytes = IsToken kind bytes
Spells LeftOut bytes = IsLeftOut bytes
Spells NameTooLong bytes = IsTooLong bytes

-- a word or a mark, or a mark that is left out
abbrev pub IsFixed : Lexeme → List ℕ → Type 0
IsFixed (Token (Word key)) bytes = bytes ≡ word_text key
IsFixed (Token (Mark mark)) bytes = bytes ≡ mark_text mark
IsFixed LeftOut bytes = Contains left_out_marks bytes
IsFixed _ bytes = ⊥

-- no more than so many of the first bytes are anything
abbrev pub HasNoMore : (bytes : List ℕ) (count : ℕ) → Type 0
HasNoMore bytes count = (more : ℕ) → count < more → more ≤ length bytes → (other : Lexeme)
    → ¬ Spells other (take more bytes)

-- the first bytes, so many, are this, and no more of them are anything
pub record SpellsLongest (lexeme : Lexeme) (bytes : List ℕ) (count : ℕ) : Type 0 where
  pub within : count ≤ length bytes
  pub is_lexeme : Spells lexeme (take count bytes)
  pub no_more : HasNoMore bytes count
