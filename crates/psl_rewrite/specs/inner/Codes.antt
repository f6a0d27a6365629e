-- How the logic stores core sequences and base formulas: codes, and that no two trees have one code.
use Rattle.std.specs.Prelude.{◌≡◌, refl}
use Rattle.std.specs.Coded.{Coded}
use base.Stored.{Gv, gnil, gnum, gcons}
use Rattle.psl_model.specs.inner.CodeParts.{at, from, number, tags_differ, truth_code, truth_inj}
use Rattle.psl_model.specs.inner.ExprCode.{expr_code, expr_inj}
use Rattle.psl_model.specs.inner.SereCode.{sere_code, sere_inj}
use Rattle.psl_rewrite.specs.CoreSere as core
use Rattle.psl_rewrite.specs.Base as formula

abbrev pub core_code : core.CoreSere → Gv
core_code (core.bool a0) = gcons (gnum 0) (expr_code a0)
core_code core.empty = gcons (gnum 1) gnil
core_code (core.concat a0 a1) = gcons (gnum 2) (gcons (core_code a0) (core_code a1))
core_code (core.fuse a0 a1) = gcons (gnum 3) (gcons (core_code a0) (core_code a1))
core_code (core.or a0 a1) = gcons (gnum 4) (gcons (core_code a0) (core_code a1))
core_code (core.both a0 a1) = gcons (gnum 5) (gcons (core_code a0) (core_code a1))
core_code (core.star a0) = gcons (gnum 6) (core_code a0)
core_code (core.power a0 a1) = gcons (gnum 7) (gcons (core_code a0) (gnum a1))

pub core_inj : (x y : core.CoreSere) → core_code x ≡ core_code y → x ≡ y
core_inj (core.bool a0) (core.bool b0) p = λ i. core.bool (expr_inj a0 b0 (from 1 p) i)
core_inj core.empty core.empty p = refl
core_inj (core.concat a0 a1) (core.concat b0 b1) p =
    λ i. core.concat (core_inj a0 b0 (at 1 p) i) (core_inj a1 b1 (from 2 p) i)
core_inj (core.fuse a0 a1) (core.fuse b0 b1) p =
    λ i. core.fuse (core_inj a0 b0 (at 1 p) i) (core_inj a1 b1 (from 2 p) i)
core_inj (core.or a0 a1) (core.or b0 b1) p = λ i. core.or (core_inj a0 b0 (at 1 p) i) (core_inj a1 b1 (from 2 p) i)
core_inj (core.both a0 a1) (core.both b0 b1) p =
    λ i. core.both (core_inj a0 b0 (at 1 p) i) (core_inj a1 b1 (from 2 p) i)
core_inj (core.star a0) (core.star b0) p = λ i. core.star (core_inj a0 b0 (from 1 p) i)
core_inj (core.power a0 a1) (core.power b0 b1) p = λ i. core.power (core_inj a0 b0 (at 1 p) i) (number (from 2 p) i)
core_inj x y p = absurd (tags_differ (core_code x) (core_code y) refl refl p)

abbrev pub coded_core : Coded core.CoreSere
coded_core = record { code = core_code; inj = core_inj }

abbrev pub base_code : formula.Base → Gv
base_code (formula.bool a0) = gcons (gnum 0) (expr_code a0)
base_code (formula.and a0 a1) = gcons (gnum 1) (gcons (base_code a0) (base_code a1))
base_code (formula.or_bool a0 a1) = gcons (gnum 2) (gcons (expr_code a0) (base_code a1))
base_code (formula.implies a0 a1) = gcons (gnum 3) (gcons (expr_code a0) (base_code a1))
base_code (formula.always a0) = gcons (gnum 4) (base_code a0)
base_code (formula.next a0 a1 a2) = gcons (gnum 5) (gcons (truth_code a0) (gcons (gnum a1) (base_code a2)))
base_code (formula.next_all a0 a1 a2 a3) =
    gcons (gnum 6) (gcons (truth_code a0) (gcons (gnum a1) (gcons (gnum a2) (base_code a3))))
base_code (formula.next_some a0 a1 a2 a3) =
    gcons (gnum 7) (gcons (truth_code a0) (gcons (gnum a1) (gcons (gnum a2) (expr_code a3))))
base_code (formula.until a0 a1 a2) = gcons (gnum 8) (gcons (truth_code a0) (gcons (base_code a1) (expr_code a2)))
base_code (formula.event a0 a1 a2 a3 a4) =
    gcons (gnum 9) (gcons (truth_code a0) (gcons (expr_code a1) (gcons (gnum a2) (gcons (gnum a3) (base_code a4)))))
base_code (formula.event_some a0 a1 a2 a3 a4) =
    gcons (gnum 10) (gcons (truth_code a0) (gcons (expr_code a1) (gcons (gnum a2) (gcons (gnum a3) (expr_code a4)))))
base_code (formula.seq a0 a1) = gcons (gnum 11) (gcons (sere_code a0) (truth_code a1))
base_code (formula.eventually a0) = gcons (gnum 12) (sere_code a0)
base_code (formula.suffix a0 a1) = gcons (gnum 13) (gcons (sere_code a0) (base_code a1))
base_code (formula.abort a0 a1) = gcons (gnum 14) (gcons (base_code a0) (expr_code a1))

pub base_inj : (x y : formula.Base) → base_code x ≡ base_code y → x ≡ y
base_inj (formula.bool a0) (formula.bool b0) p = λ i. formula.bool (expr_inj a0 b0 (from 1 p) i)
base_inj (formula.and a0 a1) (formula.and b0 b1) p =
    λ i. formula.and (base_inj a0 b0 (at 1 p) i) (base_inj a1 b1 (from 2 p) i)
base_inj (formula.or_bool a0 a1) (formula.or_bool b0 b1) p =
    λ i. formula.or_bool (expr_inj a0 b0 (at 1 p) i) (base_inj a1 b1 (from 2 p) i)
base_inj (formula.implies a0 a1) (formula.implies b0 b1) p =
    λ i. formula.implies (expr_inj a0 b0 (at 1 p) i) (base_inj a1 b1 (from 2 p) i)
base_inj (formula.always a0) (formula.always b0) p = λ i. formula.always (base_inj a0 b0 (from 1 p) i)
base_inj (formula.next a0 a1 a2) (formula.next b0 b1 b2) p =
    λ i. formula.next (truth_inj a0 b0 (at 1 p) i) (number (at 2 p) i) (base_inj a2 b2 (from 3 p) i)
base_inj (formula.next_all a0 a1 a2 a3) (formula.next_all b0 b1 b2 b3) p =
    λ i. formula.next_all (truth_inj a0 b0 (at 1 p) i) (number (at 2 p) i) (number (at 3 p) i)
    (base_inj a3 b3 (from 4 p) i)
base_inj (formula.next_some a0 a1 a2 a3) (formula.next_some b0 b1 b2 b3) p =
    λ i. formula.next_some (truth_inj a0 b0 (at 1 p) i) (number (at 2 p) i) (number (at 3 p) i)
    (expr_inj a3 b3 (from 4 p) i)
base_inj (formula.until a0 a1 a2) (formula.until b0 b1 b2) p =
    λ i. formula.until (truth_inj a0 b0 (at 1 p) i) (base_inj a1 b1 (at 2 p) i) (expr_inj a2 b2 (from 3 p) i)
base_inj (formula.event a0 a1 a2 a3 a4) (formula.event b0 b1 b2 b3 b4) p =
    λ i. formula.event (truth_inj a0 b0 (at 1 p) i) (expr_inj a1 b1 (at 2 p) i) (number (at 3 p) i) (number (at 4 p) i)
    (base_inj a4 b4 (from 5 p) i)
base_inj (formula.event_some a0 a1 a2 a3 a4) (formula.event_some b0 b1 b2 b3 b4) p =
    λ i. formula.event_some (truth_inj a0 b0 (at 1 p) i) (expr_inj a1 b1 (at 2 p) i) (number (at 3 p) i)
    (number (at 4 p) i) (expr_inj a4 b4 (from 5 p) i)
base_inj (formula.seq a0 a1) (formula.seq b0 b1) p =
    λ i. formula.seq (sere_inj a0 b0 (at 1 p) i) (truth_inj a1 b1 (from 2 p) i)
base_inj (formula.eventually a0) (formula.eventually b0) p = λ i. formula.eventually (sere_inj a0 b0 (from 1 p) i)
base_inj (formula.suffix a0 a1) (formula.suffix b0 b1) p =
    λ i. formula.suffix (sere_inj a0 b0 (at 1 p) i) (base_inj a1 b1 (from 2 p) i)
base_inj (formula.abort a0 a1) (formula.abort b0 b1) p =
    λ i. formula.abort (base_inj a0 b0 (at 1 p) i) (expr_inj a1 b1 (from 2 p) i)
base_inj x y p = absurd (tags_differ (base_code x) (base_code y) refl refl p)

abbrev pub coded_base : Coded formula.Base
coded_base = record { code = base_code; inj = base_inj }
