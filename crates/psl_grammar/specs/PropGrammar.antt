-- Which symbols spell a property: one rule for each line of the grammar.
--     IsProp symbols room phrase p from to    the symbols from `from` up to `to` spell p as such a phrase; in it no
--                                             token stands in more than `room` open phrases
use Rattle.std.specs.Prelude.{◌≡◌, ℕ, suc, ◌+◌, Bool, true, false, List, Option, Some, None}
use Rattle.psl_grammar.specs.declared.symbols.Symbol.{Symbol}
use Rattle.psl_grammar.specs.declared.symbols.Symbol.TheVariants.{Number, Colon, OpenParenthesis, CloseParenthesis}
use Rattle.psl_grammar.specs.declared.symbols.Symbol.TheVariants.{OpenBracket, CloseBracket, PropertyName, Exclamation}
use Rattle.psl_grammar.specs.declared.symbols.Symbol.TheVariants.{AndAnd, OrOr, Abort, EventuallyStrong, Next}
use Rattle.psl_grammar.specs.declared.symbols.Symbol.TheVariants.{NextRange}
use Rattle.psl_grammar.specs.declared.symbols.Symbol.TheVariants.{Event, EventRange, Until, Suffix, Arrow, DoubleArrow}
use Rattle.psl_grammar.specs.declared.symbols.Symbol.TheVariants.{Always}
use Rattle.psl_grammar.specs.RawExpr.{RawExpr}
use Rattle.psl_grammar.specs.RawSere as sere
use Rattle.psl_grammar.specs.RawSere.{RawSere}
use Rattle.psl_grammar.specs.RawProp as raw
use Rattle.psl_grammar.specs.RawProp.{RawProp}
use Rattle.psl_grammar.specs.Symbols.{At}
use Rattle.psl_grammar.specs.ExprGrammar.{IsExpr, IsBool}
use Rattle.psl_grammar.specs.SereGrammar.{IsSere, IsTimed, IsSeq}

-- "[" number "]"
pub record IsCount (symbols : List Symbol) (i : ℕ) : Type 0 where
  pub opens : At symbols i OpenBracket
  pub number : At symbols (i + 1) Number
  pub closes : At symbols (i + 2) CloseBracket

-- "[" number ":" number "]"
pub record IsRange (symbols : List Symbol) (i : ℕ) : Type 0 where
  pub opens : At symbols i OpenBracket
  pub low : At symbols (i + 1) Number
  pub colon : At symbols (i + 2) Colon
  pub high : At symbols (i + 3) Number
  pub closes : At symbols (i + 4) CloseBracket

-- "(" bool ")"
pub data IsParen (symbols : List Symbol) : (room : ℕ) → RawExpr → (from to : ℕ) → Type 0 where
  paren : {room : ℕ} {e : RawExpr} {i j : ℕ} → At symbols i OpenParenthesis → IsExpr symbols room 10 e (i + 1) j
      → At symbols j CloseParenthesis → IsParen symbols (suc room) e i (j + 1)

-- nextform, but for "eventually!"
pub data IsNextForm (symbols : List Symbol) (room : ℕ)
    : (on : Option RawExpr) → (low high : Option ℕ) → (from to : ℕ) → Type 0 where
  -- "next" | "next!"
  next : {i : ℕ} → At symbols i Next → IsNextForm symbols room None None None i (i + 1)
  -- the same with "[" number "]"
  next_count : {i : ℕ} → At symbols i Next → IsCount symbols (i + 1)
      → IsNextForm symbols room None (Some (i + 2)) None i (i + 4)
  -- ( "next_a" | "next_a!" | "next_e" | "next_e!" ) "[" number ":" number "]"
  next_range : {i : ℕ} → At symbols i NextRange → IsRange symbols (i + 1)
      → IsNextForm symbols room None (Some (i + 2)) (Some (i + 4)) i (i + 6)
  -- ( "next_event" | "next_event!" ) "(" bool ")"
  event : {e : RawExpr} {i m : ℕ} → At symbols i Event → IsParen symbols room e (i + 1) m
      → IsNextForm symbols room (Some e) None None i m
  -- the same with "[" number "]"
  event_count : {e : RawExpr} {i m : ℕ} → At symbols i Event → IsParen symbols room e (i + 1) m → IsCount symbols m
      → IsNextForm symbols room (Some e) (Some (m + 1)) None i (m + 3)
  -- ( "next_event_a" | "next_event_a!" | "next_event_e" | "next_event_e!" ) "(" bool ")" "[" number ":" number "]"
  event_range : {e : RawExpr} {i m : ℕ} → At symbols i EventRange → IsParen symbols room e (i + 1) m
      → IsRange symbols m → IsNextForm symbols room (Some e) (Some (m + 1)) (Some (m + 3)) i (m + 5)

-- The kinds of phrases that properties are made of. A primary is an operand that is no bool, a factor what `&&` joins,
-- a both one factor or several that `&&` joins, and an either one both or several that `||` joins; the others are those
-- of the grammar.
pub data Phrase : Type 0 where
  primary factor both either hdl low abt occ untl suff impl prop : Phrase

-- whether a phrase is of kind B
abbrev pub is_bool : RawProp → Bool
is_bool (raw.bool e) = true
is_bool _ = false

abbrev pub are_bool : RawProp → RawProp → Bool
are_bool (raw.bool d) (raw.bool e) = true
are_bool _ _ = false

pub data IsProp (symbols : List Symbol) : (room : ℕ) → Phrase → RawProp → (from to : ℕ) → Type 0 where
  -- "(" prop ")", where it is no bool
  parens : {room : ℕ} {p : RawProp} {i j : ℕ} → At symbols i OpenParenthesis → IsProp symbols room prop p (i + 1) j
      → is_bool p ≡ false → At symbols j CloseParenthesis → IsProp symbols (suc room) primary p i (j + 1)
  -- a property's name
  named : {room i : ℕ} → At symbols i PropertyName → IsProp symbols room primary (raw.named i) i (i + 1)
  -- tight { rep }
  weak : {room : ℕ} {s : RawSere} {i j : ℕ} → IsSere symbols room 0 s i j
      → IsProp symbols room primary (raw.seq s false) i j
  -- tight { rep } "!"
  strong : {room : ℕ} {s : RawSere} {i j : ℕ} → IsSere symbols room 0 s i j → At symbols j Exclamation
      → IsProp symbols room primary (raw.seq s true) i (j + 1)
  -- "!" operand, which is no bool
  negated : {room : ℕ} {p : RawProp} {i j : ℕ} → At symbols i Exclamation → IsProp symbols room primary p (i + 1) j
      → IsProp symbols (suc room) primary (raw.prefix i p) i j
  -- an operand of `&&`
  factor_bool : {room : ℕ} {e : RawExpr} {i j : ℕ} → IsExpr symbols room 7 e i j
      → IsProp symbols room factor (raw.bool e) i j
  factor_primary : {room : ℕ} {p : RawProp} {i j : ℕ} → IsProp symbols room primary p i j
      → IsProp symbols room factor p i j
  -- left "&&" right, not both of which are bools; joined to the left
  both_bool : {room : ℕ} {e : RawExpr} {i j : ℕ} → IsExpr symbols room 8 e i j
      → IsProp symbols room both (raw.bool e) i j
  both_factor : {room : ℕ} {p : RawProp} {i j : ℕ} → IsProp symbols room factor p i j
      → IsProp symbols room both p i j
  both_and : {room : ℕ} {l r : RawProp} {i m j : ℕ} → IsProp symbols room both l i m → At symbols m AndAnd
      → IsProp symbols room factor r (m + 1) j → are_bool l r ≡ false
      → IsProp symbols room both (raw.binary m l r) i j
  -- left "||" right, not both of which are bools; joined to the left
  either_bool : {room : ℕ} {e : RawExpr} {i j : ℕ} → IsExpr symbols room 9 e i j
      → IsProp symbols room either (raw.bool e) i j
  either_both : {room : ℕ} {p : RawProp} {i j : ℕ} → IsProp symbols room both p i j
      → IsProp symbols room either p i j
  either_or : {room : ℕ} {l r : RawProp} {i m j : ℕ} → IsProp symbols room either l i m → At symbols m OrOr
      → IsProp symbols room both r (m + 1) j → are_bool l r ≡ false
      → IsProp symbols room either (raw.binary m l r) i j
  -- hdl
  hdl_bool : {room : ℕ} {e : RawExpr} {i j : ℕ} → IsExpr symbols room 10 e i j
      → IsProp symbols room hdl (raw.bool e) i j
  hdl_either : {room : ℕ} {p : RawProp} {i j : ℕ} → IsProp symbols room either p i j → IsProp symbols room hdl p i j
  -- low = bool rep { rep } [ "!" ] | hdl
  low_timed : {room : ℕ} {s : RawSere} {mark : ℕ} {low_count high_count : Option ℕ} {i j : ℕ}
      → IsTimed symbols room false (sere.repeat s mark low_count high_count) i j
      → IsProp symbols room low (raw.seq (sere.repeat s mark low_count high_count) false) i j
  low_strong : {room : ℕ} {s : RawSere} {mark : ℕ} {low_count high_count : Option ℕ} {i j : ℕ}
      → IsTimed symbols room false (sere.repeat s mark low_count high_count) i j → At symbols j Exclamation
      → IsProp symbols room low (raw.seq (sere.repeat s mark low_count high_count) true) i (j + 1)
  low_hdl : {room : ℕ} {p : RawProp} {i j : ℕ} → IsProp symbols room hdl p i j → IsProp symbols room low p i j
  -- abt = low { "abort" bool }
  abt_abort : {room : ℕ} {p : RawProp} {e : RawExpr} {i m j : ℕ} → IsProp symbols room abt p i m → At symbols m Abort
      → IsBool symbols room false e (m + 1) j → IsProp symbols room abt (raw.abort p e) i j
  abt_low : {room : ℕ} {p : RawProp} {i j : ℕ} → IsProp symbols room low p i j → IsProp symbols room abt p i j
  -- occ = nextform occ | abt
  occ_eventually : {room : ℕ} {p : RawProp} {i j : ℕ} → At symbols i EventuallyStrong
      → IsProp symbols room occ p (i + 1) j → IsProp symbols (suc room) occ (raw.prefix i p) i j
  occ_next : {room : ℕ} {on : Option RawExpr} {low_count high_count : Option ℕ} {p : RawProp} {i m j : ℕ}
      → IsNextForm symbols (suc room) on low_count high_count i m → IsProp symbols room occ p m j
      → IsProp symbols (suc room) occ (raw.next i on low_count high_count p) i j
  occ_abt : {room : ℕ} {p : RawProp} {i j : ℕ} → IsProp symbols room abt p i j → IsProp symbols room occ p i j
  -- untl = occ [ untilword occ ]
  untl_until : {room : ℕ} {l r : RawProp} {i m j : ℕ} → IsProp symbols room occ l i m → At symbols m Until
      → IsProp symbols room occ r (m + 1) j → IsProp symbols room untl (raw.binary m l r) i j
  untl_occ : {room : ℕ} {p : RawProp} {i j : ℕ} → IsProp symbols room occ p i j → IsProp symbols room untl p i j
  -- suff = seq ( "|->" | "|=>" ) suff | untl
  suff_suffix : {room : ℕ} {s : RawSere} {p : RawProp} {i m j : ℕ} → IsSeq symbols (suc room) s i m
      → At symbols m Suffix → IsProp symbols room suff p (m + 1) j
      → IsProp symbols (suc room) suff (raw.suffix m s p) i j
  suff_untl : {room : ℕ} {p : RawProp} {i j : ℕ} → IsProp symbols room untl p i j → IsProp symbols room suff p i j
  -- impl = suff [ "->" impl | "<->" suff ]
  impl_implies : {room : ℕ} {l r : RawProp} {i m j : ℕ} → IsProp symbols (suc room) suff l i m → At symbols m Arrow
      → IsProp symbols room impl r (m + 1) j → IsProp symbols (suc room) impl (raw.binary m l r) i j
  impl_iff : {room : ℕ} {l r : RawProp} {i m j : ℕ} → IsProp symbols room suff l i m → At symbols m DoubleArrow
      → IsProp symbols room suff r (m + 1) j → IsProp symbols room impl (raw.binary m l r) i j
  impl_suff : {room : ℕ} {p : RawProp} {i j : ℕ} → IsProp symbols room suff p i j → IsProp symbols room impl p i j
  -- prop = ( "always" | "never" ) prop | impl
  prop_always : {room : ℕ} {p : RawProp} {i j : ℕ} → At symbols i Always → IsProp symbols room prop p (i + 1) j
      → IsProp symbols (suc room) prop (raw.prefix i p) i j
  prop_impl : {room : ℕ} {p : RawProp} {i j : ℕ} → IsProp symbols room impl p i j → IsProp symbols room prop p i j
