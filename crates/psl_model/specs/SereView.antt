-- From one layer of a sequence, whose parts are plain trees already, to the plain tree.
use Rattle.psl_model.specs.Sere as tree
use Rattle.psl_model.specs.ExprView.{expr_of}
use Rattle.psl_model.specs.declared.sequences.Sere.{Sere}
use Rattle.psl_model.specs.declared.sequences.Sere.TheVariants.{Bool, Then, Fuse, Or, Both, Meet, Within, Repeat}
use Rattle.psl_model.specs.declared.sequences.Sere.TheVariants.{Goto, Equal}

abbrev pub sere_of : Sere → tree.Sere
sere_of (Bool e) = tree.bool (expr_of e)
sere_of (Then a b) = tree.concat a b
sere_of (Fuse a b) = tree.fuse a b
sere_of (Or a b) = tree.or a b
sere_of (Both a b) = tree.both a b
sere_of (Meet a b) = tree.meet a b
sere_of (Within a b) = tree.within a b
sere_of (Repeat a l h) = tree.repeat a l h
sere_of (Goto e l h) = tree.goto (expr_of e) l h
sere_of (Equal e l h) = tree.equal (expr_of e) l h
