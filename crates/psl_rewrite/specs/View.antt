-- From one layer of a core sequence or a base formula, whose parts are plain trees already, to the plain tree.
use Rattle.psl_model.specs.View.{expr_of, sere_of}
use Rattle.psl_rewrite.specs.Base as base
use Rattle.psl_rewrite.specs.CoreSere as core
use Rattle.psl_rewrite.specs.declared.base.Base as code
use Rattle.psl_rewrite.specs.declared.base.Base.TheVariants as form
use Rattle.psl_rewrite.specs.declared.core_sequences.CoreSere as core_code
use Rattle.psl_rewrite.specs.declared.core_sequences.CoreSere.TheVariants as part

abbrev pub core_of : core_code.CoreSere → core.CoreSere
core_of (part.Bool e) = core.bool (expr_of e)
core_of part.Empty = core.empty
core_of (part.Then r s) = core.concat r s
core_of (part.Fuse r s) = core.fuse r s
core_of (part.Or r s) = core.or r s
core_of (part.Both r s) = core.both r s
core_of (part.Star r) = core.star r
core_of (part.Power r k) = core.power r k

abbrev pub base_of : code.Base → base.Base
base_of (form.Bool e) = base.bool (expr_of e)
base_of (form.And f g) = base.and f g
base_of (form.OrBool e f) = base.or_bool (expr_of e) f
base_of (form.Implies e f) = base.implies (expr_of e) f
base_of (form.Always f) = base.always f
base_of (form.Next s k f) = base.next s k f
base_of (form.NextAll s l h f) = base.next_all s l h f
base_of (form.NextSome s l h e) = base.next_some s l h (expr_of e)
base_of (form.Until s f e) = base.until s f (expr_of e)
base_of (form.Event s b l h f) = base.event s (expr_of b) l h f
base_of (form.EventSome s b l h e) = base.event_some s (expr_of b) l h (expr_of e)
base_of (form.Seq r s) = base.seq (sere_of r) s
base_of (form.Eventually r) = base.eventually (sere_of r)
base_of (form.Suffix r f) = base.suffix (sere_of r) f
base_of (form.Abort f e) = base.abort f (expr_of e)
