-- How the logic stores raw trees: codes, and that no two trees have one code.
use Rattle.std.specs.Prelude.{◌≡◌, ℕ, Option, refl}
use Rattle.std.specs.Coded.{Coded, coded_ℕ, coded_bool, coded_option, coded×}
use base.Stored.{Gv, gnum, gcons}
use Rattle.psl_model.specs.inner.CodeParts.{at, from, number, tags_differ}
use Rattle.psl_grammar.specs.RawExpr.{RawExpr, name, literal, unary, binary, choice}
use Rattle.psl_grammar.specs.RawSere as s
use Rattle.psl_grammar.specs.RawProp as p

abbrev pub count_code : Coded (Option ℕ)
count_code = coded_option coded_ℕ

abbrev pub select_code : Coded (Option (ℕ × Option ℕ))
select_code = coded_option (coded× coded_ℕ count_code)

abbrev pub expr_code : RawExpr → Gv
expr_code (name n c) = gcons (gnum 0) (gcons (gnum n) (select_code.code c))
expr_code (literal n) = gcons (gnum 1) (gnum n)
expr_code (unary m a) = gcons (gnum 2) (gcons (gnum m) (expr_code a))
expr_code (binary m a b) = gcons (gnum 3) (gcons (gnum m) (gcons (expr_code a) (expr_code b)))
expr_code (choice m a b c) =
    gcons (gnum 4) (gcons (gnum m) (gcons (expr_code a) (gcons (expr_code b) (expr_code c))))

pub expr_inj : (x y : RawExpr) → expr_code x ≡ expr_code y → x ≡ y
expr_inj (name n c) (name n' c') e = λ i. name (number (at 1 e) i) (select_code.inj c c' (from 2 e) i)
expr_inj (literal n) (literal n') e = λ i. literal (number (from 1 e) i)
expr_inj (unary m a) (unary m' a') e = λ i. unary (number (at 1 e) i) (expr_inj a a' (from 2 e) i)
expr_inj (binary m a b) (binary m' a' b') e =
    λ i. binary (number (at 1 e) i) (expr_inj a a' (at 2 e) i) (expr_inj b b' (from 3 e) i)
expr_inj (choice m a b c) (choice m' a' b' c') e =
    λ i. choice
    (number (at 1 e) i) (expr_inj a a' (at 2 e) i) (expr_inj b b' (at 3 e) i) (expr_inj c c' (from 4 e) i)
expr_inj x y e = absurd (tags_differ (expr_code x) (expr_code y) refl refl e)

abbrev pub coded_expr : Coded RawExpr
coded_expr = record { code = expr_code; inj = expr_inj }

abbrev pub on_code : Coded (Option RawExpr)
on_code = coded_option coded_expr

abbrev pub sere_code : s.RawSere → Gv
sere_code (s.bool e) = gcons (gnum 0) (expr_code e)
sere_code (s.named n) = gcons (gnum 1) (gnum n)
sere_code (s.lone m l h) = gcons (gnum 2) (gcons (gnum m) (gcons (count_code.code l) (count_code.code h)))
sere_code (s.repeat r m l h) =
    gcons (gnum 3) (gcons (sere_code r) (gcons (gnum m) (gcons (count_code.code l) (count_code.code h))))
sere_code (s.join m a b) = gcons (gnum 4) (gcons (gnum m) (gcons (sere_code a) (sere_code b)))

pub sere_inj : (x y : s.RawSere) → sere_code x ≡ sere_code y → x ≡ y
sere_inj (s.bool e) (s.bool e') p = λ i. s.bool (expr_inj e e' (from 1 p) i)
sere_inj (s.named n) (s.named n') p = λ i. s.named (number (from 1 p) i)
sere_inj (s.lone m l h) (s.lone m' l' h') p =
    λ i. s.lone (number (at 1 p) i) (count_code.inj l l' (at 2 p) i) (count_code.inj h h' (from 3 p) i)
sere_inj (s.repeat r m l h) (s.repeat r' m' l' h') p =
    λ i. s.repeat
    (sere_inj r r' (at 1 p) i) (number (at 2 p) i) (count_code.inj l l' (at 3 p) i) (count_code.inj h h' (from 4 p) i)
sere_inj (s.join m a b) (s.join m' a' b') p =
    λ i. s.join (number (at 1 p) i) (sere_inj a a' (at 2 p) i) (sere_inj b b' (from 3 p) i)
sere_inj x y p = absurd (tags_differ (sere_code x) (sere_code y) refl refl p)

abbrev pub coded_sere : Coded s.RawSere
coded_sere = record { code = sere_code; inj = sere_inj }

abbrev pub prop_code : p.RawProp → Gv
prop_code (p.bool e) = gcons (gnum 0) (expr_code e)
prop_code (p.named n) = gcons (gnum 1) (gnum n)
prop_code (p.seq r b) = gcons (gnum 2) (gcons (sere_code r) (coded_bool.code b))
prop_code (p.prefix w f) = gcons (gnum 3) (gcons (gnum w) (prop_code f))
prop_code (p.next w o l h f) =
    gcons (gnum 4) (gcons (gnum w) (gcons (on_code.code o) (gcons (count_code.code l)
    (gcons (count_code.code h) (prop_code f)))))
prop_code (p.binary m f g) = gcons (gnum 5) (gcons (gnum m) (gcons (prop_code f) (prop_code g)))
prop_code (p.suffix m r f) = gcons (gnum 6) (gcons (gnum m) (gcons (sere_code r) (prop_code f)))
prop_code (p.abort f e) = gcons (gnum 7) (gcons (prop_code f) (expr_code e))

pub prop_inj : (x y : p.RawProp) → prop_code x ≡ prop_code y → x ≡ y
prop_inj (p.bool e) (p.bool e') q = λ i. p.bool (expr_inj e e' (from 1 q) i)
prop_inj (p.named n) (p.named n') q = λ i. p.named (number (from 1 q) i)
prop_inj (p.seq r b) (p.seq r' b') q = λ i. p.seq (sere_inj r r' (at 1 q) i) (coded_bool.inj b b' (from 2 q) i)
prop_inj (p.prefix w f) (p.prefix w' f') q = λ i. p.prefix (number (at 1 q) i) (prop_inj f f' (from 2 q) i)
prop_inj (p.next w o l h f) (p.next w' o' l' h' f') q =
    λ i. p.next
    (number (at 1 q) i) (on_code.inj o o' (at 2 q) i) (count_code.inj l l' (at 3 q) i)
    (count_code.inj h h' (at 4 q) i) (prop_inj f f' (from 5 q) i)
prop_inj (p.binary m f g) (p.binary m' f' g') q =
    λ i. p.binary (number (at 1 q) i) (prop_inj f f' (at 2 q) i) (prop_inj g g' (from 3 q) i)
prop_inj (p.suffix m r f) (p.suffix m' r' f') q =
    λ i. p.suffix (number (at 1 q) i) (sere_inj r r' (at 2 q) i) (prop_inj f f' (from 3 q) i)
prop_inj (p.abort f e) (p.abort f' e') q = λ i. p.abort (prop_inj f f' (at 1 q) i) (expr_inj e e' (from 2 q) i)
prop_inj x y q = absurd (tags_differ (prop_code x) (prop_code y) refl refl q)

abbrev pub coded_prop : Coded p.RawProp
coded_prop = record { code = prop_code; inj = prop_inj }
