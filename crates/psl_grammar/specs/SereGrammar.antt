-- Which symbols spell a repetition and a sequence: one rule for each line of the grammar. The levels of a sequence:
-- 0 a phrase that is no bool, with its repetitions, 1 elem, 2 `within`, 3 `&` and `&&`, 4 `|`, 5 `:`, 6 `;`.
use Rattle.std.specs.Prelude.{◌≡◌, ℕ, suc, ◌+◌, ◌<◌, Bool, true, false, List, Option, Some, None, IsTrue}
use Rattle.psl_grammar.specs.declared.symbols.Symbol.{Symbol}
use Rattle.psl_grammar.specs.declared.symbols.Symbol.TheVariants.{Number, Colon, CloseBracket, OpenBrace, CloseBrace}
use Rattle.psl_grammar.specs.declared.symbols.Symbol.TheVariants.{RepeatOpen, RepeatPlus, GotoOpen, SequenceName}
use Rattle.psl_grammar.specs.RawExpr.{RawExpr}
use Rattle.psl_grammar.specs.RawSere.{RawSere, bool, named, lone, repeat, join}
use Rattle.psl_grammar.specs.Symbols.{symbol_at, At, is_high, is_pick, sere_level}
use Rattle.psl_grammar.specs.ExprGrammar.{IsBool}

-- number "]" | number ":" ( number | "inf" ) "]"
pub data IsCounts (symbols : List Symbol) : (high : Option ℕ) → (from to : ℕ) → Type 0 where
  single : {i : ℕ} → At symbols i Number → At symbols (i + 1) CloseBracket → IsCounts symbols None i (i + 2)
  range : {i : ℕ} → At symbols i Number → At symbols (i + 1) Colon → IsTrue (is_high (symbol_at symbols (i + 2)))
      → At symbols (i + 3) CloseBracket → IsCounts symbols (Some (i + 2)) i (i + 4)

-- "[*" "]" | "[*" counts | "[+]"
pub data IsTimes (symbols : List Symbol) : (low high : Option ℕ) → (from to : ℕ) → Type 0 where
  any : {i : ℕ} → At symbols i RepeatOpen → At symbols (i + 1) CloseBracket → IsTimes symbols None None i (i + 2)
  counted : {high : Option ℕ} {i j : ℕ} → At symbols i RepeatOpen → IsCounts symbols high (i + 1) j
      → IsTimes symbols (Some (i + 1)) high i j
  some : {i : ℕ} → At symbols i RepeatPlus → IsTimes symbols None None i (i + 1)

-- "[->" "]" | ( "[->" | "[=" ) counts
pub data IsPick (symbols : List Symbol) : (low high : Option ℕ) → (from to : ℕ) → Type 0 where
  first : {i : ℕ} → At symbols i GotoOpen → At symbols (i + 1) CloseBracket → IsPick symbols None None i (i + 2)
  counted : {high : Option ℕ} {i j : ℕ} → IsTrue (is_pick (symbol_at symbols i)) → IsCounts symbols high (i + 1) j
      → IsPick symbols (Some (i + 1)) high i j

-- bool { rep }: `[->` and `[=` follow the bool directly
pub data IsTimed (symbols : List Symbol) (room : ℕ) (braced : Bool) : RawSere → (from to : ℕ) → Type 0 where
  once : {e : RawExpr} {i j : ℕ} → IsBool symbols room braced e i j → IsTimed symbols room braced (bool e) i j
  picked : {e : RawExpr} {low high : Option ℕ} {i m j : ℕ} → IsBool symbols room braced e i m
      → IsPick symbols low high m j → IsTimed symbols room braced (repeat (bool e) m low high) i j
  again : {s : RawSere} {low high : Option ℕ} {i m j : ℕ} → IsTimed symbols room braced s i m
      → IsTimes symbols low high m j → IsTimed symbols room braced (repeat s m low high) i j

pub data IsSere (symbols : List Symbol) : (room level : ℕ) → RawSere → (from to : ℕ) → Type 0 where
  -- "{" cat "}"
  braces : {room : ℕ} {s : RawSere} {i j : ℕ} → At symbols i OpenBrace → IsSere symbols room 6 s (i + 1) j
      → At symbols j CloseBrace → IsSere symbols (suc room) 0 s i (j + 1)
  -- a sequence's name
  name : {room i : ℕ} → At symbols i SequenceName → IsSere symbols room 0 (named i) i (i + 1)
  -- a repetition that stands alone
  alone : {room : ℕ} {low high : Option ℕ} {i j : ℕ} → IsTimes symbols low high i j
      → IsSere symbols room 0 (lone i low high) i j
  -- tight { rep }
  again : {room : ℕ} {s : RawSere} {low high : Option ℕ} {i m j : ℕ} → IsSere symbols room 0 s i m
      → IsTimes symbols low high m j → IsSere symbols room 0 (repeat s m low high) i j
  -- bool { rep }, inside braces
  timed : {room : ℕ} {s : RawSere} {i j : ℕ} → IsTimed symbols room true s i j → IsSere symbols room 1 s i j
  -- left operator right, joined to the left
  joins : {room k : ℕ} {l r : RawSere} {i m j : ℕ} → k < 6 → IsSere symbols room (suc k) l i m
      → sere_level (symbol_at symbols m) ≡ suc k → IsSere symbols room k r (m + 1) j
      → IsSere symbols room (suc k) (join m l r) i j
  -- a phrase of one level is one of each looser level
  looser : {room k : ℕ} {s : RawSere} {i j : ℕ} → IsSere symbols room k s i j → IsSere symbols room (suc k) s i j

-- seq, outside braces: with a bool at least one repetition
pub data IsSeq (symbols : List Symbol) (room : ℕ) : RawSere → (from to : ℕ) → Type 0 where
  tight : {s : RawSere} {i j : ℕ} → IsSere symbols room 0 s i j → IsSeq symbols room s i j
  timed : {s : RawSere} {mark : ℕ} {low high : Option ℕ} {i j : ℕ}
      → IsTimed symbols room false (repeat s mark low high) i j
      → IsSeq symbols room (repeat s mark low high) i j
