-- What was read, as plain trees.
use Rattle.std.specs.Prelude.{ℕ, List, Option, Some, None, Vec, map}
use Rattle.std.specs.declared.alloc.Global.{Global}
use Rattle.psl_grammar.specs.RawExpr as e
use Rattle.psl_grammar.specs.RawSere as s
use Rattle.psl_grammar.specs.RawProp as p
use Rattle.psl_grammar.specs.View.{expr_of, sere_of, prop_of}
use Rattle.psl_grammar.specs.declared.properties.RawProp.{RawProp}
use Rattle.psl_grammar.specs.declared.sequences.RawSere as code
use Rattle.psl_grammar.specs.RawUnit as u
use Rattle.psl_grammar.specs.UnitView.{item_of}
use Rattle.psl_grammar.specs.declared.items.RawItem.{RawItem}
use Rattle.unit_reader.specs.declared.next_forms.NextForm.{NextForm}
use Rattle.unit_reader.specs.inner.FormReaders.{Form}
use Rattle.psl_grammar.specs.declared.expressions.RawExpr.{RawExpr}

abbrev pub expr_read : RawExpr × ℕ → e.RawExpr × ℕ
expr_read x = (expr_of x.0, x.1)

abbrev pub sere_read : code.RawSere × ℕ → s.RawSere × ℕ
sere_read x = (sere_of x.0, x.1)

abbrev pub prop_read : RawProp × ℕ → p.RawProp × ℕ
prop_read x = (prop_of x.0, x.1)

abbrev pub on_of : Option RawExpr → Option e.RawExpr
on_of None = None
on_of (Some e) = Some (expr_of e)

abbrev pub form_of : NextForm → Form
form_of f = (on_of f.on, f.low, f.high)

abbrev pub form_read : NextForm × ℕ → Form × ℕ
form_read x = (form_of x.0, x.1)

abbrev pub itself : {A : Type 0} → A → A
itself x = x

abbrev pub item_read : RawItem × ℕ → u.RawItem × ℕ
item_read x = (item_of x.0, x.1)

abbrev pub list_read : Vec ℕ Global × ℕ → List ℕ × ℕ
list_read x = (x.0.items, x.1)

abbrev pub names_read : List ℕ × ℕ → List ℕ × ℕ
names_read x = x

abbrev pub items_read : Vec RawItem Global × ℕ → List u.RawItem × ℕ
items_read x = (map item_of x.0.items, x.1)
