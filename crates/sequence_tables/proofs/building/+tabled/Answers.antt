use Rattle.std.proofs.Common.{ap, refl}
use Rattle.std.proofs.lemmas.Result.{IfOk-weaker}
use Rattle.psl_model.specs.View.{expr_of}
use Rattle.psl_meaning.specs.Sequence.{concat, fuse, or, both, star}
use Rattle.psl_meaning.specs.SequenceSugar.{copies}
use Rattle.psl_rewrite.specs.CoreSere as core
use Rattle.psl_rewrite.specs.Meaning.{meant_core}
use Rattle.psl_rewrite.specs.View.{core_of}
use Rattle.sequence_tables.proofs.Arms.{same_stands, nothing_stands}
use Rattle.sequence_tables.proofs.Origins.{one_origin, two_origins}
use Rattle.sequence_tables.proofs.Tables.{one_stands, two_stand}
use Rattle.sequence_tables.proofs.building.+tabled.Goals as goal

pub returns-in-Bool-clause-stands : goal.returns-in-Bool-clause-stands
returns-in-Bool-clause-stands t c =
    IfOk-weaker c.leaf.result _ _
    (λ g made. same_stands (meant_core (core_of c.args.core.now)) _ _ g (ap (λ r. meant_core (core_of r)) c.in-Bool.is)
    made)
    c.leaf.ensures.stands

pub returns-in-Empty-clause-stands : goal.returns-in-Empty-clause-stands
returns-in-Empty-clause-stands t c =
    IfOk-weaker c.nothing.result _ _
    (λ g made later. nothing_stands (meant_core (core_of c.args.core.now)) g
    (ap (λ r. meant_core (core_of r)) c.in-Empty.is) made _)
    c.nothing.ensures

pub returns-in_ok-right-in-Then-clause-stands : goal.returns-in_ok-right-in-Then-clause-stands
returns-in_ok-right-in-Then-clause-stands t c =
    IfOk-weaker c.followed.result _ _
    (λ g made. two_stand (λ a b. concat a b) (meant_core (core_of c.args.core.now)) _ _ _ _ _ _
    c.in_ok-left-in-Then.left c.in_ok-right-in-Then.right g (ap (λ r. meant_core (core_of r)) c.in-Then.is)
    (ap meant_core c.get.ensures.whole_tree)
    (ap meant_core c.get-in-Then.ensures.whole_tree) c.tabled-in-Then.ensures.grows
    c.in_ok-left-in-Then.ensures.stands c.in_ok-right-in-Then.ensures.stands made)
    c.followed.ensures

pub returns-in_ok-right-in-Fuse-clause-stands : goal.returns-in_ok-right-in-Fuse-clause-stands
returns-in_ok-right-in-Fuse-clause-stands t c =
    IfOk-weaker c.overlapped.result _ _
    (λ g made. two_stand (λ a b. fuse a b) (meant_core (core_of c.args.core.now)) _ _ _ _ _ _
    c.in_ok-left-in-Fuse.left c.in_ok-right-in-Fuse.right g (ap (λ r. meant_core (core_of r)) c.in-Fuse.is)
    (ap meant_core c.get-in-Fuse.ensures.whole_tree)
    (ap meant_core c.get-in-Fuse-2.ensures.whole_tree) c.tabled-in-Fuse-2.ensures.grows
    c.in_ok-left-in-Fuse.ensures.stands c.in_ok-right-in-Fuse.ensures.stands made)
    c.overlapped.ensures

pub returns-in_ok-right-in-Or-clause-stands : goal.returns-in_ok-right-in-Or-clause-stands
returns-in_ok-right-in-Or-clause-stands t c =
    IfOk-weaker c.either.result _ _
    (λ g made. two_stand (λ a b. or a b) (meant_core (core_of c.args.core.now)) _ _ _ _ _ _
    c.in_ok-left-in-Or.left c.in_ok-right-in-Or.right g (ap (λ r. meant_core (core_of r)) c.in-Or.is)
    (ap meant_core c.get-in-Or.ensures.whole_tree)
    (ap meant_core c.get-in-Or-2.ensures.whole_tree) c.tabled-in-Or-2.ensures.grows
    c.in_ok-left-in-Or.ensures.stands c.in_ok-right-in-Or.ensures.stands made)
    c.either.ensures

pub returns-in_ok-right-in-Both-clause-stands : goal.returns-in_ok-right-in-Both-clause-stands
returns-in_ok-right-in-Both-clause-stands t c =
    IfOk-weaker c.together.result _ _
    (λ g made. two_stand (λ a b. both a b) (meant_core (core_of c.args.core.now)) _ _ _ _ _ _
    c.in_ok-left-in-Both.left c.in_ok-right-in-Both.right g (ap (λ r. meant_core (core_of r)) c.in-Both.is)
    (ap meant_core c.get-in-Both.ensures.whole_tree)
    (ap meant_core c.get-in-Both-2.ensures.whole_tree) c.tabled-in-Both-2.ensures.grows
    c.in_ok-left-in-Both.ensures.stands c.in_ok-right-in-Both.ensures.stands made)
    c.together.ensures

pub returns-in_ok-body-in-Star-clause-stands : goal.returns-in_ok-body-in-Star-clause-stands
returns-in_ok-body-in-Star-clause-stands t c =
    IfOk-weaker c.again_and_again.result _ _
    (λ g made. one_stands (λ a. star a) (meant_core (core_of c.args.core.now)) _ _ _
    c.in_ok-body-in-Star.body g (ap (λ r. meant_core (core_of r)) c.in-Star.is)
    (ap meant_core c.get-in-Star.ensures.whole_tree)
    c.in_ok-body-in-Star.ensures.stands made)
    c.again_and_again.ensures

pub returns-in_ok-body-in-Power-clause-stands : goal.returns-in_ok-body-in-Power-clause-stands
returns-in_ok-body-in-Power-clause-stands t c =
    IfOk-weaker c.powered.result _ _
    (λ g made. one_stands (λ a. copies c.in-Power.count a) (meant_core (core_of c.args.core.now)) _ _ _
    c.in_ok-body-in-Power.body g (ap (λ r. meant_core (core_of r)) c.in-Power.is)
    (ap meant_core c.get-in-Power.ensures.whole_tree)
    c.in_ok-body-in-Power.ensures.stands made)
    c.powered.ensures

pub returns-in-Bool-clause-origins : goal.returns-in-Bool-clause-origins
returns-in-Bool-clause-origins t c =
    let whole = core.bool (expr_of c.in-Bool.expr) in
    one_origin (core_of c.args.core.now) whole (ap core_of c.in-Bool.is) whole whole c.args.symbols.now
    c.leaf.new.symbols refl (λ e h. h) c.leaf.ensures.origins

pub returns-in_ok-right-in-Then-clause-origins : goal.returns-in_ok-right-in-Then-clause-origins
returns-in_ok-right-in-Then-clause-origins t c =
    two_origins (core_of c.args.core.now) (core.concat c.in-Then.first c.in-Then.second) (ap core_of c.in-Then.is)
    c.in-Then.first c.in-Then.second _ _ c.args.symbols.now c.tabled.new.symbols c.tabled-in-Then.new.symbols
    c.get.ensures.whole_tree c.get-in-Then.ensures.whole_tree (λ e h. h) c.tabled.ensures.origins
    c.tabled-in-Then.ensures.origins

pub returns-in_ok-right-in-Fuse-clause-origins : goal.returns-in_ok-right-in-Fuse-clause-origins
returns-in_ok-right-in-Fuse-clause-origins t c =
    two_origins (core_of c.args.core.now) (core.fuse c.in-Fuse.first c.in-Fuse.second) (ap core_of c.in-Fuse.is)
    c.in-Fuse.first c.in-Fuse.second _ _ c.args.symbols.now c.tabled-in-Fuse.new.symbols c.tabled-in-Fuse-2.new.symbols
    c.get-in-Fuse.ensures.whole_tree c.get-in-Fuse-2.ensures.whole_tree (λ e h. h) c.tabled-in-Fuse.ensures.origins
    c.tabled-in-Fuse-2.ensures.origins

pub returns-in_ok-right-in-Or-clause-origins : goal.returns-in_ok-right-in-Or-clause-origins
returns-in_ok-right-in-Or-clause-origins t c =
    two_origins (core_of c.args.core.now) (core.or c.in-Or.first c.in-Or.second) (ap core_of c.in-Or.is)
    c.in-Or.first c.in-Or.second _ _ c.args.symbols.now c.tabled-in-Or.new.symbols c.tabled-in-Or-2.new.symbols
    c.get-in-Or.ensures.whole_tree c.get-in-Or-2.ensures.whole_tree (λ e h. h) c.tabled-in-Or.ensures.origins
    c.tabled-in-Or-2.ensures.origins

pub returns-in_ok-right-in-Both-clause-origins : goal.returns-in_ok-right-in-Both-clause-origins
returns-in_ok-right-in-Both-clause-origins t c =
    two_origins (core_of c.args.core.now) (core.both c.in-Both.first c.in-Both.second) (ap core_of c.in-Both.is)
    c.in-Both.first c.in-Both.second _ _ c.args.symbols.now c.tabled-in-Both.new.symbols c.tabled-in-Both-2.new.symbols
    c.get-in-Both.ensures.whole_tree c.get-in-Both-2.ensures.whole_tree (λ e h. h) c.tabled-in-Both.ensures.origins
    c.tabled-in-Both-2.ensures.origins
