-- From one layer of a raw tree, whose parts are plain trees already, to the plain tree.
use Rattle.std.specs.Prelude.{option_map}
use Rattle.psl_grammar.specs.RawExpr as e
use Rattle.psl_grammar.specs.RawSere as s
use Rattle.psl_grammar.specs.RawProp as p
use Rattle.psl_grammar.specs.declared.expressions.RawExpr.{RawExpr}
use Rattle.psl_grammar.specs.declared.expressions.RawExpr.TheVariants.{Name, Literal, Unary, Binary, Choice}
use Rattle.psl_grammar.specs.declared.sequences.RawSere.{RawSere}
use Rattle.psl_grammar.specs.declared.sequences.RawSere.TheVariants as sv
use Rattle.psl_grammar.specs.declared.properties.RawProp.{RawProp}
use Rattle.psl_grammar.specs.declared.properties.RawProp.TheVariants as pv

abbrev pub expr_of : RawExpr → e.RawExpr
expr_of (Name n c) = e.name n c
expr_of (Literal n) = e.literal n
expr_of (Unary m a) = e.unary m a
expr_of (Binary m a b) = e.binary m a b
expr_of (Choice m t y n) = e.choice m t y n

abbrev pub sere_of : RawSere → s.RawSere
sere_of (sv.Bool a) = s.bool (expr_of a)
sere_of (sv.Name n) = s.named n
sere_of (sv.Lone r) = s.lone r.mark r.low r.high
sere_of (sv.Repeat a r) = s.repeat a r.mark r.low r.high
sere_of (sv.Join m a b) = s.join m a b

abbrev pub prop_of : RawProp → p.RawProp
prop_of (pv.Bool a) = p.bool (expr_of a)
prop_of (pv.Name n) = p.named n
prop_of (pv.Seq r s) = p.seq (sere_of r) s
prop_of (pv.Prefix w f) = p.prefix w f
prop_of (pv.Next w o l h f) = p.next w (option_map expr_of o) l h f
prop_of (pv.Binary m f g) = p.binary m f g
prop_of (pv.Suffix m r f) = p.suffix m (sere_of r) f
prop_of (pv.Abort f a) = p.abort f (expr_of a)
