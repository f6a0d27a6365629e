-- The names, labels and report texts of a unit's items are such tokens.
use Rattle.std.proofs.Common.{ℕ, ◌+◌, List, [], ◌∷◌, ◌++◌, All, Option, None, Some, refl}
use Rattle.psl_lexer.specs.declared.kinds.Token.{Token}
use Rattle.psl_lexer.specs.Order.{IsSpelled}
use Rattle.psl_grammar.specs.declared.symbols.Symbol.{Symbol}
use Rattle.psl_grammar.specs.declared.symbols.Symbol.TheVariants as symbol
use Rattle.psl_grammar.specs.Symbols.{At}
use Rattle.psl_grammar.specs.RawUnit as raw
use Rattle.psl_grammar.specs.RawUnit.{RawItem, RawUnit}
use Rattle.psl_grammar.specs.TreeNames.{SereNames, PropNames}
use Rattle.psl_grammar.specs.ItemGrammar as item
use Rattle.psl_grammar.specs.ItemGrammar.{AnyName, AreNames, IsReport, IsItem}
use Rattle.psl_grammar.specs.Units as units
use Rattle.psl_grammar.specs.Units.{Known, symbols_in, AreItems, IsUnit}
use Rattle.unit_conditions.proofs.Tokens.{NameAt, TextAt, MeanNames, name_in, signal_in, text_in, meant_after}
use Rattle.unit_conditions.proofs.Phrases.{Any, seq_named, prop_named}

abbrev pub AllNamed : (N : ℕ → Type 0) → List ℕ → Type 0
AllNamed N [] = Unit {0}
AllNamed N (n ∷ ns) = N n × AllNamed N ns

abbrev pub IfThere : (P : ℕ → Type 0) → Option ℕ → Type 0
IfThere P None = Unit {0}
IfThere P (Some n) = P n

-- N of each name of a signal and of each label, T of a report
abbrev pub ItemNamed : (N T : ℕ → Type 0) → RawItem → Type 0
ItemNamed N T (raw.clock n) = Unit {0}
ItemNamed N T (raw.wire range names) = AllNamed N names
ItemNamed N T (raw.RawItem.sequence n body) = SereNames N Any body
ItemNamed N T (raw.RawItem.property n body) = PropNames N Any Any body
ItemNamed N T (raw.assert word label body report) = IfThere N label × PropNames N Any Any body × IfThere T report

abbrev pub ItemsNamed : (N T : ℕ → Type 0) → List RawItem → Type 0
ItemsNamed N T [] = Unit {0}
ItemsNamed N T (x ∷ xs) = ItemNamed N T x × ItemsNamed N T xs

named_last : (N : ℕ → Type 0) (ns : List ℕ) (n : ℕ) → AllNamed N ns → N n → AllNamed N (ns ++ n ∷ [])
named_last N [] n h x = (x, tt)
named_last N (m ∷ ns) n h x = (h.0, named_last N ns n h.1 x)

item_last : (N T : ℕ → Type 0) (xs : List RawItem) (x : RawItem) → ItemsNamed N T xs → ItemNamed N T x
    → ItemsNamed N T (xs ++ x ∷ [])
item_last N T [] x h own = (own, tt)
item_last N T (y ∷ xs) x h own = (h.0, item_last N T xs x h.1 own)

module _ (symbols : List Symbol) (N T : ℕ → Type 0) (named : (n : ℕ) → At symbols n symbol.Name → N n)
    (any : (n : ℕ) → AnyName symbols n → N n) (told : (n : ℕ) → At symbols n symbol.Text → T n) where
  names_named : {names : List ℕ} {i j : ℕ} → AreNames symbols names i j → AllNamed N names
  names_named (item.one {i = i} h) = (any i h, tt)
  names_named (item.more {names = names} {m = m} p a h) =
      named_last N names (m + 1) (names_named p) (any (m + 1) h)

  report_told : {report : Option ℕ} {i j : ℕ} → IsReport symbols report i j → IfThere T report
  report_told (item.none a) = tt
  report_told (item.some {i = i} a b c) = told (i + 1) b

  item_named : {x : RawItem} {i j : ℕ} → IsItem symbols x i j → ItemNamed N T x
  item_named (item.clock a b c d e f) = tt
  item_named (item.clock_parens a b c d e f k l) = tt
  item_named (item.wire a n b) = names_named n
  item_named (item.vector a r n b) = names_named n
  item_named (item.sequence a n e p z) = seq_named symbols N named p
  item_named (item.property a n e h z) = prop_named symbols N named h
  item_named (item.assert a h r) = (tt, prop_named symbols N named h, report_told r)
  item_named (item.labelled {i = i} l c a h r) = (any i l, prop_named symbols N named h, report_told r)

module _ (text : List ℕ) (tokens : List Token) (spelled : All (IsSpelled text) tokens) where
  items_named : {known : Known} {items : List RawItem} {i j : ℕ} → AreItems text tokens known items i j
      → MeanNames known × ItemsNamed (NameAt text tokens) (TextAt text tokens) items
  items_named units.none = (λ name. refl, tt)
  items_named (units.more {known = known} {items = items} {item = x} p q short) =
      let before = items_named p in (
        meant_after text tokens known x before.0,
        item_last (NameAt text tokens) (TextAt text tokens) items x before.1
            (item_named (symbols_in text known tokens) (NameAt text tokens) (TextAt text tokens)
            (signal_in text known tokens spelled) (name_in text known tokens spelled)
            (text_in text known tokens before.0 spelled) q),
      )

  pub record UnitNamed (unit : RawUnit) : Type 0 where
    pub name : NameAt text tokens unit.name
    pub items : ItemsNamed (NameAt text tokens) (TextAt text tokens) unit.items

  pub unit_named : (unit : RawUnit) → IsUnit text tokens unit → UnitNamed unit
  unit_named _ (units.plain a n b p c e) =
      record { name = name_in text [] tokens spelled 1 n; items = (items_named p).1 }
  unit_named _ (units.bound a n b n2 c d p f e) =
      record { name = name_in text [] tokens spelled 1 n; items = (items_named p).1 }
