-- Items and units as they are written.
use Rattle.std.specs.Prelude.{ℕ, Option, List}
use Rattle.psl_grammar.specs.RawSere.{RawSere}
use Rattle.psl_grammar.specs.RawProp.{RawProp}

pub data RawItem : Type 0 where
  clock : (name : ℕ) → RawItem
  wire : (range : Option (ℕ × ℕ)) → (names : List ℕ) → RawItem
  sequence : (name : ℕ) → (body : RawSere) → RawItem
  property : (name : ℕ) → (body : RawProp) → RawItem
  assert : (word : ℕ) → (label : Option ℕ) → (body : RawProp) → (report : Option ℕ) → RawItem

pub record RawUnit : Type 0 where
  pub name : ℕ
  pub items : List RawItem
