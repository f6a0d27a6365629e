-- A unit as the list of its sites, in the order in which they are read: each place that a rule on names, numbers or
-- operators speaks of. The rules look at this list alone.
use Rattle.std.specs.Prelude.{ℕ, Option, None, Some, List, [], ◌∷◌, ◌++◌, map}
use Rattle.std.specs.List.{flat_map}
use Rattle.psl_grammar.specs.RawExpr.{RawExpr, name, literal, unary, binary, choice}
use Rattle.psl_grammar.specs.RawSere as s
use Rattle.psl_grammar.specs.RawProp as p
use Rattle.psl_grammar.specs.RawUnit.{RawItem, RawUnit, clock, wire, sequence, property, assert}

pub data Site : Type 0 where
  -- the numbers of a `wire`'s range
  span : (high low : ℕ) → Site
  -- a name that a `wire` declares, with that range
  declared : (token : ℕ) → (range : Option (ℕ × ℕ)) → Site
  -- a signal's place in an expression, with the numbers of its select
  used : (token : ℕ) → (select : Option (ℕ × Option ℕ)) → Site
  -- the name that a `sequence` or `property` item declares
  phrase : (token : ℕ) → Site
  label : (token : ℕ) → Site
  directive : (word : ℕ) → Site
  literal_at : (token : ℕ) → Site
  -- a binary operator between its operands
  operator : (mark : ℕ) → (left right : RawExpr) → Site
  -- the counts that follow a mark or word
  counts : (mark low : ℕ) → (high : Option ℕ) → Site

abbrev pub expr_sites : RawExpr → List Site
expr_sites (name token select) = used token select ∷ []
expr_sites (literal token) = literal_at token ∷ []
expr_sites (unary mark a) = expr_sites a
expr_sites (binary mark a b) = expr_sites a ++ operator mark a b ∷ expr_sites b
expr_sites (choice mark test first second) = expr_sites test ++ (expr_sites first ++ expr_sites second)

abbrev pub count_sites : (mark : ℕ) → (low high : Option ℕ) → List Site
count_sites mark None high = []
count_sites mark (Some low) high = counts mark low high ∷ []

abbrev pub sere_sites : s.RawSere → List Site
sere_sites (s.bool e) = expr_sites e
sere_sites (s.named token) = []
sere_sites (s.lone mark low high) = count_sites mark low high
sere_sites (s.repeat r mark low high) = sere_sites r ++ count_sites mark low high
sere_sites (s.join mark r t) = sere_sites r ++ sere_sites t

abbrev pub on_sites : Option RawExpr → List Site
on_sites None = []
on_sites (Some e) = expr_sites e

abbrev pub prop_sites : p.RawProp → List Site
prop_sites (p.bool e) = expr_sites e
prop_sites (p.named token) = []
prop_sites (p.seq r strong) = sere_sites r
prop_sites (p.prefix word f) = prop_sites f
prop_sites (p.next word on low high f) = on_sites on ++ (count_sites word low high ++ prop_sites f)
prop_sites (p.binary mark f g) = prop_sites f ++ prop_sites g
prop_sites (p.suffix mark r f) = sere_sites r ++ prop_sites f
prop_sites (p.abort f e) = prop_sites f ++ expr_sites e

abbrev pub span_sites : Option (ℕ × ℕ) → List Site
span_sites None = []
span_sites (Some range) = span range.0 range.1 ∷ []

abbrev pub label_sites : Option ℕ → List Site
label_sites None = []
label_sites (Some token) = label token ∷ []

abbrev pub item_sites : RawItem → List Site
item_sites (clock token) = []
item_sites (wire range names) = span_sites range ++ map (λ token. declared token range) names
item_sites (sequence token r) = phrase token ∷ sere_sites r
item_sites (property token f) = phrase token ∷ prop_sites f
item_sites (assert word tag f report) = label_sites tag ++ directive word ∷ prop_sites f

abbrev pub unit_sites : RawUnit → List Site
unit_sites raw = flat_map item_sites raw.items
