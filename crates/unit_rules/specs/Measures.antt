-- The depth and the nodes of phrases whose names are put in place.
use Rattle.std.specs.Prelude.{ℕ, ◌+◌, ◌^◌, max, Option, None, Some}
use Rattle.psl_grammar.specs.RawExpr.{RawExpr, name, literal, unary, binary, choice}
use Rattle.psl_grammar.specs.RawSere as sere
use Rattle.psl_grammar.specs.RawProp as prop

-- from this number on depths and nodes aren't told apart
abbrev pub most : ℕ
most = 2 ^ 63

-- 1 for a name, a literal or a lone repetition, and one more than the deepest operand for an operator
abbrev pub expr_depth : RawExpr → ℕ
expr_depth (name token select) = 1
expr_depth (literal token) = 1
expr_depth (unary mark a) = 1 + expr_depth a
expr_depth (binary mark a b) = 1 + max (expr_depth a) (expr_depth b)
expr_depth (choice mark test first second) = 1 + max (expr_depth test) (max (expr_depth first) (expr_depth second))

abbrev pub on_depth : Option RawExpr → ℕ
on_depth None = 0
on_depth (Some e) = expr_depth e

-- a repetition after its operand is an operator
abbrev pub sere_depth : sere.RawSere → ℕ
sere_depth (sere.bool e) = expr_depth e
sere_depth (sere.named token) = 1
sere_depth (sere.lone mark low high) = 1
sere_depth (sere.repeat r mark low high) = 1 + sere_depth r
sere_depth (sere.join mark r t) = 1 + max (sere_depth r) (sere_depth t)

abbrev pub prop_depth : prop.RawProp → ℕ
prop_depth (prop.bool e) = expr_depth e
prop_depth (prop.named token) = 1
prop_depth (prop.seq r strong) = sere_depth r
prop_depth (prop.prefix word f) = 1 + prop_depth f
prop_depth (prop.next word on low high f) = 1 + max (on_depth on) (prop_depth f)
prop_depth (prop.binary mark f g) = 1 + max (prop_depth f) (prop_depth g)
prop_depth (prop.suffix mark r f) = 1 + max (sere_depth r) (prop_depth f)
prop_depth (prop.abort f e) = 1 + max (prop_depth f) (expr_depth e)

-- the operators and the leaves
abbrev pub expr_nodes : RawExpr → ℕ
expr_nodes (name token select) = 1
expr_nodes (literal token) = 1
expr_nodes (unary mark a) = 1 + expr_nodes a
expr_nodes (binary mark a b) = 1 + (expr_nodes a + expr_nodes b)
expr_nodes (choice mark test first second) = 1 + (expr_nodes test + (expr_nodes first + expr_nodes second))

abbrev pub on_nodes : Option RawExpr → ℕ
on_nodes None = 0
on_nodes (Some e) = expr_nodes e

abbrev pub sere_nodes : sere.RawSere → ℕ
sere_nodes (sere.bool e) = expr_nodes e
sere_nodes (sere.named token) = 1
sere_nodes (sere.lone mark low high) = 1
sere_nodes (sere.repeat r mark low high) = 1 + sere_nodes r
sere_nodes (sere.join mark r t) = 1 + (sere_nodes r + sere_nodes t)

abbrev pub prop_nodes : prop.RawProp → ℕ
prop_nodes (prop.bool e) = expr_nodes e
prop_nodes (prop.named token) = 1
prop_nodes (prop.seq r strong) = sere_nodes r
prop_nodes (prop.prefix word f) = 1 + prop_nodes f
prop_nodes (prop.next word on low high f) = 1 + (on_nodes on + prop_nodes f)
prop_nodes (prop.binary mark f g) = 1 + (prop_nodes f + prop_nodes g)
prop_nodes (prop.suffix mark r f) = 1 + (sere_nodes r + prop_nodes f)
prop_nodes (prop.abort f e) = 1 + (prop_nodes f + expr_nodes e)
