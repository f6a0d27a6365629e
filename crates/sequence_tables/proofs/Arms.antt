-- A table stands for a sequence that is the same.
use Rattle.std.proofs.Common.{◌≡◌, sym, subst, List, ◌++◌}
use Rattle.std.specs.Prelude.{Result, IfOk, Ok, Err}
use Rattle.psl_model.specs.Expr.{Expr}
use Rattle.psl_meaning.specs.Sequence.{CoreSere, empty}
use Rattle.auto_core.specs.Graph.{Graph}
use Rattle.sequence_tables.specs.inner.Built.{Stands}

pub if_both : {T E : Type 0} {P Q R : T → Type 0} (r : Result T E) → ((x : T) → P x → Q x → R x) → IfOk r P →
    IfOk r Q → IfOk r R
if_both (Ok x) f p q = f x p q
if_both (Err e) f p q = tt

pub same_stands : (core r : CoreSere) (s : List Expr) (t : Graph) → core ≡ r →
    ((later : List Expr) → Stands (s ++ later) r t) → (later : List Expr) → Stands (s ++ later) core t
same_stands core r s t e stands later = subst (λ (c : CoreSere). Stands (s ++ later) c t) (sym e) (stands later)

pub nothing_stands : (core : CoreSere) (t : Graph) → core ≡ empty → ((s : List Expr) → Stands s empty t) →
    (s : List Expr) → Stands s core t
nothing_stands core t e stands s = subst (λ (c : CoreSere). Stands s c t) (sym e) (stands s)
