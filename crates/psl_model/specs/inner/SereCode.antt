-- How the logic stores a sequence: a code, and that no two sequences have one code.
use Rattle.std.specs.Prelude.{◌≡◌, ℕ, Option, refl}
use Rattle.std.specs.Coded.{Coded, coded_ℕ, coded_option}
use base.Stored.{Gv, gnum, gcons}
use Rattle.psl_model.specs.inner.CodeParts.{at, from, number, tags_differ}
use Rattle.psl_model.specs.inner.ExprCode.{expr_code, expr_inj}
use Rattle.psl_model.specs.Sere.{Sere, bool, concat, fuse, or, both, meet, within, repeat, goto, equal}

abbrev pub high_code : Coded (Option ℕ)
high_code = coded_option coded_ℕ

-- a range of counts
abbrev pub counts_code : (low : ℕ) (high : Option ℕ) → Gv
counts_code l h = gcons (gnum l) (high_code.code h)

abbrev pub sere_code : Sere → Gv
sere_code (bool e) = gcons (gnum 0) (expr_code e)
sere_code (concat a b) = gcons (gnum 1) (gcons (sere_code a) (sere_code b))
sere_code (fuse a b) = gcons (gnum 2) (gcons (sere_code a) (sere_code b))
sere_code (or a b) = gcons (gnum 3) (gcons (sere_code a) (sere_code b))
sere_code (both a b) = gcons (gnum 4) (gcons (sere_code a) (sere_code b))
sere_code (meet a b) = gcons (gnum 5) (gcons (sere_code a) (sere_code b))
sere_code (within a b) = gcons (gnum 6) (gcons (sere_code a) (sere_code b))
sere_code (repeat a l h) = gcons (gnum 7) (gcons (sere_code a) (counts_code l h))
sere_code (goto e l h) = gcons (gnum 8) (gcons (expr_code e) (counts_code l h))
sere_code (equal e l h) = gcons (gnum 9) (gcons (expr_code e) (counts_code l h))

pub sere_inj : (x y : Sere) → sere_code x ≡ sere_code y → x ≡ y
sere_inj (bool e) (bool e') p = λ i. bool (expr_inj e e' (from 1 p) i)
sere_inj (concat a b) (concat a' b') p = λ i. concat (sere_inj a a' (at 1 p) i) (sere_inj b b' (from 2 p) i)
sere_inj (fuse a b) (fuse a' b') p = λ i. fuse (sere_inj a a' (at 1 p) i) (sere_inj b b' (from 2 p) i)
sere_inj (or a b) (or a' b') p = λ i. or (sere_inj a a' (at 1 p) i) (sere_inj b b' (from 2 p) i)
sere_inj (both a b) (both a' b') p = λ i. both (sere_inj a a' (at 1 p) i) (sere_inj b b' (from 2 p) i)
sere_inj (meet a b) (meet a' b') p = λ i. meet (sere_inj a a' (at 1 p) i) (sere_inj b b' (from 2 p) i)
sere_inj (within a b) (within a' b') p = λ i. within (sere_inj a a' (at 1 p) i) (sere_inj b b' (from 2 p) i)
sere_inj (repeat a l h) (repeat a' l' h') p =
    λ i. repeat (sere_inj a a' (at 1 p) i) (number (at 2 p) i) (high_code.inj h h' (from 3 p) i)
sere_inj (goto e l h) (goto e' l' h') p =
    λ i. goto (expr_inj e e' (at 1 p) i) (number (at 2 p) i) (high_code.inj h h' (from 3 p) i)
sere_inj (equal e l h) (equal e' l' h') p =
    λ i. equal (expr_inj e e' (at 1 p) i) (number (at 2 p) i) (high_code.inj h h' (from 3 p) i)
sere_inj x y p = absurd (tags_differ (sere_code x) (sere_code y) refl refl p)

abbrev pub coded_sere : Coded Sere
coded_sere = record { code = sere_code; inj = sere_inj }
