-- Which tokens are too deep: those that stand in 65 open phrases, and the 2,049th of an item other than `wire`.
use Rattle.std.specs.Prelude.{ℕ, ◌≡◌, ◌+◌, ◌-◌, ◌<◌, ◌≤◌, ◌⊎◌, nat_eq, Bool, true, false, cond, List, length, fold}
use Rattle.std.specs.Prelude.{take, IsTrue}
use Rattle.psl_grammar.specs.declared.symbols.Symbol.{Symbol}
use Rattle.psl_grammar.specs.declared.symbols.Symbol.TheVariants.{OpenBrace, CloseBrace, Semicolon, Wire}
use Rattle.psl_grammar.specs.Symbols.{symbol_at}
use Rattle.psl_grammar.specs.ItemGrammar.{open_phrases_limit, item_limit}
use Rattle.unit_reader.specs.declared.errors.ParseError.{ParseError}
use Rattle.unit_reader.specs.declared.errors.ParseError.TheVariants.{Syntax, TooDeep, OutOfMemory}
use Rattle.psl_parser.specs.Marks.{may_begin}
use Rattle.psl_parser.specs.OpenPhrases.{open_phrases}

-- an item begins behind the `{` of the unit, and behind a `;` in no other braces: here so many were open before
abbrev pub begins_item : (braces : ℕ) → Symbol → Bool
begins_item braces OpenBrace = nat_eq braces 0
begins_item braces Semicolon = nat_eq braces 1
begins_item braces _ = false

abbrev pub braces_behind : (braces : ℕ) → Symbol → ℕ
braces_behind braces OpenBrace = braces + 1
braces_behind braces CloseBrace = braces - 1
braces_behind braces _ = braces

-- how many braces are open behind one more symbol, and how many tokens of the item stand there
abbrev pub behind : ℕ × ℕ → Symbol → ℕ × ℕ
behind way symbol = (braces_behind way.0 symbol, cond (begins_item way.0 symbol) 0 (way.1 + 1))

abbrev pub behind_all : List Symbol → ℕ × ℕ
behind_all symbols = fold behind (0, 0) symbols

-- within the unit's braces, behind as many tokens of an item as it may have
abbrev pub IsItemFull : ℕ × ℕ → Type 0
IsItemFull way = (0 < way.0) × (way.1 ≡ item_limit)

abbrev pub is_wire : Symbol → Bool
is_wire Wire = true
is_wire _ = false

-- the first token of the item is not `wire`
abbrev pub IsOneTooMany : List Symbol → (place : ℕ) → Type 0
IsOneTooMany symbols place =
    IsItemFull (behind_all (take place symbols)) × (is_wire (symbol_at symbols (place - item_limit)) ≡ false)

abbrev pub IsTooDeep : List Symbol → (place : ℕ) → Type 0
IsTooDeep symbols place =
    (place < length symbols) × ((open_phrases_limit < open_phrases symbols place) ⊎ IsOneTooMany symbols place)

abbrev pub NoneTooDeep : List Symbol → (to : ℕ) → Type 0
NoneTooDeep symbols to = (n : ℕ) → n < to → ¬ IsTooDeep symbols n

abbrev pub IsFirstTooDeep : List Symbol → (place : ℕ) → Type 0
IsFirstTooDeep symbols place = IsTooDeep symbols place × NoneTooDeep symbols place

-- the token may begin a phrase, or is one too many of its item
abbrev pub IsDepth : List Symbol → (place : ℕ) → Type 0
IsDepth symbols place = IsTrue (may_begin (symbol_at symbols place)) ⊎ IsOneTooMany symbols place

-- A fault of depth is told of the first token that is too deep. Where that token stands in 65 open phrases, the last
-- of them begins with it, and if no phrase begins with such a symbol, the fault is one of syntax. A fault of syntax is
-- told of a token, or of the end behind the last, and no token before it is too deep.
abbrev pub IsToldRightly : List Symbol → ParseError → Type 0
IsToldRightly symbols (TooDeep token) = IsFirstTooDeep symbols token × IsDepth symbols token
IsToldRightly symbols (Syntax token) = (token ≤ length symbols) × NoneTooDeep symbols token
IsToldRightly symbols OutOfMemory = Unit {0}
