-- Which names of a unit's items were declared by items before.
use Rattle.std.specs.Prelude.{◌≡◌, ℕ, List, [], ◌∷◌, ◌++◌, All}
use Rattle.psl_lexer.specs.declared.kinds.Token.{Token}
use Rattle.psl_grammar.specs.RawSere.{RawSere}
use Rattle.psl_grammar.specs.RawProp.{RawProp}
use Rattle.psl_grammar.specs.RawUnit as raw
use Rattle.psl_grammar.specs.RawUnit.{RawItem}
use Rattle.psl_grammar.specs.TreeNames.{SereNames, PropNames}
use Rattle.psl_grammar.specs.Units.{name_at}

module _ (text : List ℕ) (tokens : List Token) where
  abbrev pub SameName : ℕ → ℕ → Type 0
  SameName m n = name_at text tokens m ≡ name_at text tokens n

  -- an item that declares no name with the bytes of a token
  abbrev pub Spares : (token : ℕ) → RawItem → Type 0
  Spares n (raw.RawItem.sequence m body) = ¬ SameName m n
  Spares n (raw.RawItem.property m body) = ¬ SameName m n
  Spares n item = Unit {0}

  -- the latest item before that declares the name is a `sequence`
  pub record IsSequence (before : List RawItem) (n : ℕ) : Type 0 where
    pub name : ℕ
    pub body : RawSere
    pub earlier : List RawItem
    pub later : List RawItem
    pub listed : before ≡ earlier ++ raw.RawItem.sequence name body ∷ later
    pub same : SameName name n
    pub latest : All (Spares n) later

  -- the latest item before that declares the name is a `property`
  pub record IsProperty (before : List RawItem) (n : ℕ) : Type 0 where
    pub name : ℕ
    pub body : RawProp
    pub earlier : List RawItem
    pub later : List RawItem
    pub listed : before ≡ earlier ++ raw.RawItem.property name body ∷ later
    pub same : SameName name n
    pub latest : All (Spares n) later

  -- no item before declares the name
  abbrev pub IsSignal : (before : List RawItem) → ℕ → Type 0
  IsSignal before n = All (Spares n) before

  -- each name of an item stands for what the items before make of it
  abbrev pub ItemNames : (before : List RawItem) → RawItem → Type 0
  ItemNames before (raw.RawItem.sequence n body) = SereNames (IsSignal before) (IsSequence before) body
  ItemNames before (raw.RawItem.property n body) =
      PropNames (IsSignal before) (IsSequence before) (IsProperty before) body
  ItemNames before (raw.assert word label body report) =
      PropNames (IsSignal before) (IsSequence before) (IsProperty before) body
  ItemNames before item = Unit {0}

  abbrev pub NamesDeclared : (before items : List RawItem) → Type 0
  NamesDeclared before [] = Unit {0}
  NamesDeclared before (x ∷ xs) = ItemNames before x × NamesDeclared (before ++ x ∷ []) xs
