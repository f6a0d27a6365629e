-- Properties as they are written. Parentheses leave no node.
use Rattle.std.specs.Prelude.{ℕ, ◌+◌, Bool, Option}
use Rattle.psl_grammar.specs.RawExpr.{RawExpr}
use Rattle.psl_grammar.specs.RawSere.{RawSere}

pub data RawProp : Type 0 where
  bool : (expr : RawExpr) → RawProp
  named : (token : ℕ) → RawProp
  seq : (body : RawSere) → (strong : Bool) → RawProp
  prefix : (word : ℕ) → (body : RawProp) → RawProp
  next : (word : ℕ) → (on : Option RawExpr) → (low high : Option ℕ) → (body : RawProp) → RawProp
  binary : (mark : ℕ) → (left right : RawProp) → RawProp
  suffix : (mark : ℕ) → (left : RawSere) → (body : RawProp) → RawProp
  abort : (body : RawProp) → (on : RawExpr) → RawProp

abbrev pub prop_size : RawProp → ℕ
prop_size (bool e) = 1
prop_size (named t) = 1
prop_size (seq r s) = 1
prop_size (prefix w f) = 1 + prop_size f
prop_size (next w e l h f) = 1 + prop_size f
prop_size (binary m f g) = 1 + prop_size f + prop_size g
prop_size (suffix m r f) = 1 + prop_size f
prop_size (abort f e) = 1 + prop_size f
