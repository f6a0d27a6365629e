-- A text with its tokens: what a token number stands for.
use Rattle.std.specs.Prelude.{ℕ, Bool, true, false, List, slice_range, slice_index_or}
use Rattle.psl_lexer.specs.declared.kinds.Token.{Token}
use Rattle.psl_lexer.specs.declared.kinds.Kind.{Kind}
use Rattle.psl_lexer.specs.declared.kinds.Kind.TheVariants.{Word, Number, Sized, Text}
use Rattle.psl_lexer.specs.declared.kinds.Key.TheVariants.{True}

pub record Source : Type 0 where
  pub text : List ℕ
  pub tokens : List Token

abbrev pub source : List ℕ → List Token → Source
source text tokens = record { text = text; tokens = tokens }

-- what stands past the last token: nothing
abbrev pub no_token : Token
no_token = record { kind = Text; start = 0; «end» = 0 }

abbrev pub token_at : Source → ℕ → Token
token_at s t = slice_index_or s.tokens t no_token

abbrev pub kind_at : Source → ℕ → Kind
kind_at s t = (token_at s t).kind

-- the bytes of a token
abbrev pub bytes_at : Source → ℕ → List ℕ
bytes_at s t = slice_range s.text (token_at s t).start (token_at s t).«end»

abbrev pub is_number : Kind → Bool
is_number Number = true
is_number _ = false

abbrev pub is_sized : Kind → Bool
is_sized Sized = true
is_sized _ = false

abbrev pub is_true_word : Kind → Bool
is_true_word (Word True) = true
is_true_word _ = false
