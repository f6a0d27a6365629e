-- The tokens that a raw tree names, in reading order, and lists of token numbers that ascend.
use Rattle.std.specs.Prelude.{ℕ, ◌+◌, ◌≤◌, List, [], ◌∷◌, ◌++◌, Option, Some, None}
use Rattle.psl_grammar.specs.RawExpr as e
use Rattle.psl_grammar.specs.RawExpr.{RawExpr}
use Rattle.psl_grammar.specs.RawSere as s
use Rattle.psl_grammar.specs.RawSere.{RawSere}
use Rattle.psl_grammar.specs.RawProp as p
use Rattle.psl_grammar.specs.RawProp.{RawProp}
use Rattle.psl_grammar.specs.RawUnit as u
use Rattle.psl_grammar.specs.RawUnit.{RawItem, RawUnit}

abbrev pub option_tokens : Option ℕ → List ℕ
option_tokens None = []
option_tokens (Some n) = n ∷ []

-- the numbers of a select: the place or the high end, and the low end
abbrev pub select_tokens : Option (ℕ × Option ℕ) → List ℕ
select_tokens None = []
select_tokens (Some x) = x.0 ∷ option_tokens x.1

-- an operator's mark stands between its operands, or before its one operand
abbrev pub expr_tokens : RawExpr → List ℕ
expr_tokens (e.name n select) = n ∷ select_tokens select
expr_tokens (e.literal n) = n ∷ []
expr_tokens (e.unary mark a) = mark ∷ expr_tokens a
expr_tokens (e.binary mark a b) = expr_tokens a ++ mark ∷ expr_tokens b
expr_tokens (e.choice mark test a b) = expr_tokens test ++ mark ∷ (expr_tokens a ++ expr_tokens b)

-- a repetition's mark stands before its counts
abbrev pub counts_tokens : (mark : ℕ) → (low high : Option ℕ) → List ℕ
counts_tokens mark low high = mark ∷ (option_tokens low ++ option_tokens high)

abbrev pub sere_tokens : RawSere → List ℕ
sere_tokens (s.bool a) = expr_tokens a
sere_tokens (s.named n) = n ∷ []
sere_tokens (s.lone mark low high) = counts_tokens mark low high
sere_tokens (s.repeat r mark low high) = sere_tokens r ++ counts_tokens mark low high
sere_tokens (s.join mark r t) = sere_tokens r ++ mark ∷ sere_tokens t

abbrev pub on_tokens : Option RawExpr → List ℕ
on_tokens None = []
on_tokens (Some a) = expr_tokens a

abbrev pub prop_tokens : RawProp → List ℕ
prop_tokens (p.bool a) = expr_tokens a
prop_tokens (p.named n) = n ∷ []
prop_tokens (p.seq r strong) = sere_tokens r
prop_tokens (p.prefix word f) = word ∷ prop_tokens f
prop_tokens (p.next word on low high f) =
    word ∷ (on_tokens on ++ (option_tokens low ++ (option_tokens high ++ prop_tokens f)))
prop_tokens (p.binary mark f g) = prop_tokens f ++ mark ∷ prop_tokens g
prop_tokens (p.suffix mark r f) = sere_tokens r ++ mark ∷ prop_tokens f
prop_tokens (p.abort f a) = prop_tokens f ++ expr_tokens a

abbrev pub range_tokens : Option (ℕ × ℕ) → List ℕ
range_tokens None = []
range_tokens (Some x) = x.0 ∷ x.1 ∷ []

abbrev pub item_tokens : RawItem → List ℕ
item_tokens (u.clock n) = n ∷ []
item_tokens (u.wire range names) = range_tokens range ++ names
item_tokens (u.RawItem.sequence n body) = n ∷ sere_tokens body
item_tokens (u.RawItem.property n body) = n ∷ prop_tokens body
item_tokens (u.assert word label body report) =
    option_tokens label ++ word ∷ (prop_tokens body ++ option_tokens report)

abbrev pub items_tokens : List RawItem → List ℕ
items_tokens [] = []
items_tokens (x ∷ xs) = item_tokens x ++ items_tokens xs

abbrev pub unit_tokens : RawUnit → List ℕ
unit_tokens unit = unit.name ∷ items_tokens unit.items

-- each number is above the one before it, and the first one at least so large
abbrev pub AscendFrom : ℕ → List ℕ → Type 0
AscendFrom least [] = Unit {0}
AscendFrom least (n ∷ ns) = (least ≤ n) × AscendFrom (n + 1) ns
