-- The depth and the nodes of phrases, reckoned from the numbers of the bodies that names stand for.
use Rattle.std.specs.Prelude.{ℕ, ◌+◌, min, max, Option, None, Some, unwrap_or, List, [], ◌∷◌, ◌++◌}
use Rattle.std.specs.Map.{lookup}
use Rattle.indexmap.specs.IndexMap.{insert_entry}
use Rattle.psl_grammar.specs.RawExpr.{RawExpr, name, literal, unary, binary, choice}
use Rattle.psl_grammar.specs.RawSere as sere
use Rattle.psl_grammar.specs.RawProp as prop
use Rattle.psl_grammar.specs.RawUnit.{RawItem, clock, wire, sequence, property, assert}
use Rattle.unit_rules.specs.declared.measures.Measure.{Measure}
use Rattle.unit_rules.specs.Source.{Source, bytes_at}
use Rattle.unit_rules.specs.Known.{same_name}
use Rattle.unit_rules.specs.Measures.{most, expr_depth, expr_nodes, sere_depth, sere_nodes, prop_depth, prop_nodes}

-- depth and nodes together, each 2^63 where it is at least that
abbrev pub measure : (depth nodes : ℕ) → Measure
measure depth nodes = record { depth = min depth most; nodes = min nodes most }

abbrev pub expr_measure : RawExpr → Measure
expr_measure e = measure (expr_depth e) (expr_nodes e)

abbrev pub sere_measure : sere.RawSere → Measure
sere_measure r = measure (sere_depth r) (sere_nodes r)

abbrev pub prop_measure : prop.RawProp → Measure
prop_measure f = measure (prop_depth f) (prop_nodes f)

-- A leaf, two operands beside each other, and an operator above its operands.
abbrev pub leaf : Measure
leaf = record { depth = 1; nodes = 1 }

abbrev pub no_operand : Measure
no_operand = record { depth = 0; nodes = 0 }

abbrev pub beside : Measure → Measure → Measure
beside a b = record { depth = max a.depth b.depth; nodes = min (a.nodes + b.nodes) most }

abbrev pub above : Measure → Measure
above a = record { depth = min (1 + a.depth) most; nodes = min (1 + a.nodes) most }

-- the numbers of the sequences and properties that some items declare, by name
pub record Numbers : Type 0 where
  pub sequences : List (List ℕ × Measure)
  pub properties : List (List ℕ × Measure)

abbrev pub no_numbers : Numbers
no_numbers = record { sequences = []; properties = [] }

abbrev pub reckoned_expr : RawExpr → Measure
reckoned_expr (name token select) = leaf
reckoned_expr (literal token) = leaf
reckoned_expr (unary mark a) = above (reckoned_expr a)
reckoned_expr (binary mark a b) = above (beside (reckoned_expr a) (reckoned_expr b))
reckoned_expr (choice mark test first second) =
    above (beside (reckoned_expr test) (beside (reckoned_expr first) (reckoned_expr second)))

abbrev pub reckoned_on : Option RawExpr → Measure
reckoned_on None = no_operand
reckoned_on (Some e) = reckoned_expr e

abbrev pub reckoned_sere : Source → List (List ℕ × Measure) → sere.RawSere → Measure
reckoned_sere s numbers (sere.bool e) = reckoned_expr e
reckoned_sere s numbers (sere.named token) = unwrap_or (lookup (same_name (bytes_at s token)) numbers) leaf
reckoned_sere s numbers (sere.lone mark low high) = leaf
reckoned_sere s numbers (sere.repeat r mark low high) = above (reckoned_sere s numbers r)
reckoned_sere s numbers (sere.join mark r t) = above (beside (reckoned_sere s numbers r) (reckoned_sere s numbers t))

abbrev pub reckoned_prop : Source → Numbers → prop.RawProp → Measure
reckoned_prop s numbers (prop.bool e) = reckoned_expr e
reckoned_prop s numbers (prop.named token) = unwrap_or (lookup (same_name (bytes_at s token)) numbers.properties) leaf
reckoned_prop s numbers (prop.seq r strong) = reckoned_sere s numbers.sequences r
reckoned_prop s numbers (prop.prefix word f) = above (reckoned_prop s numbers f)
reckoned_prop s numbers (prop.next word on low high f) = above (beside (reckoned_on on) (reckoned_prop s numbers f))
reckoned_prop s numbers (prop.binary mark f g) = above (beside (reckoned_prop s numbers f) (reckoned_prop s numbers g))
reckoned_prop s numbers (prop.suffix mark r f) =
    above (beside (reckoned_sere s numbers.sequences r) (reckoned_prop s numbers f))
reckoned_prop s numbers (prop.abort f e) = above (beside (reckoned_prop s numbers f) (reckoned_expr e))

abbrev pub numbers_after : Source → Numbers → RawItem → Numbers
numbers_after s numbers (clock token) = numbers
numbers_after s numbers (wire range names) = numbers
numbers_after s numbers (sequence token r) =
    record numbers {
      sequences = insert_entry same_name numbers.sequences (bytes_at s token)
          (reckoned_sere s numbers.sequences r);
    }
numbers_after s numbers (property token f) =
    record numbers {
      properties = insert_entry same_name numbers.properties (bytes_at s token)
          (reckoned_prop s numbers f);
    }
numbers_after s numbers (assert word tag f report) = numbers

-- the numbers of an item's directive, if it is one
abbrev pub reckoned_item : Source → Numbers → RawItem → List Measure
reckoned_item s numbers (clock token) = []
reckoned_item s numbers (wire range names) = []
reckoned_item s numbers (sequence token r) = []
reckoned_item s numbers (property token f) = []
reckoned_item s numbers (assert word tag f report) = reckoned_prop s numbers f ∷ []

-- the numbers of the directives of some items, in their order
abbrev pub reckoned_items : Source → Numbers → List RawItem → List Measure
reckoned_items s numbers [] = []
reckoned_items s numbers (item ∷ items) = reckoned_item s numbers item
    ++ reckoned_items s (numbers_after s numbers item) items
