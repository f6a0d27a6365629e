-- The marks that the code sets, and the numbers below a count.
use Rattle.std.proofs.Common.{◌≡◌, ◌≢◌, ◌⊎◌, inl, inr, ℕ, ◌<◌, Bool, true, false, eqb, List}
use Rattle.std.proofs.Common.{length, get_or, set, refl, sym, ap, ◌∙◌, arith, get_or-set_other}
use Rattle.std.proofs.Common.{length-set}
use Rattle.std.specs.Prelude.{◌||◌}
use Rattle.std.proofs.Math.Bool.{or_assoc}
use Rattle.std.proofs.lemmas.Bool.Decides.{eqb_tells}
use Rattle.std.proofs.lemmas.Grind.{get_or-set_at}
use Rattle.psl_model.specs.Expr.{Expr, whole, bit, part, plain, sized, unary, binary, choice}
use Rattle.psl_model.specs.Sere as sere
use Rattle.psl_model.specs.Formula as formula
use Rattle.psl_model.specs.Uses.{expr_uses, sere_uses, formula_uses}
use Rattle.port_formulas.specs.inner.Marks.{marked_expr, marked_sere, marked_formula}

or_none : (b : Bool) → (b || false) ≡ b
or_none true = refl
or_none false = refl

or_all : (b : Bool) → (b || true) ≡ true
or_all true = refl
or_all false = refl

-- the second list has a mark more where the place is used
abbrev pub Marked : (before after : List Bool) → (uses : ℕ → Bool) → Type 0
Marked before after uses =
    (length after ≡ length before)
    × ((k : ℕ) → k < length before → get_or after k false ≡ (get_or before k false || uses k))

same_marks : (ms : List Bool) → Marked ms ms (λ k. false)
same_marks ms = (refl, λ k within. sym (or_none (get_or ms k false)))

one_mark : (ms : List Bool) (s : ℕ) → Marked ms (set ms s true) (λ k. eqb s k)
one_mark ms s = (length-set ms s true, λ k within. at k within (eqb_tells s k))
  where
    at : (k : ℕ) → k < length ms → ((eqb s k ≡ true) × (s ≡ k)) ⊎ ((eqb s k ≡ false) × (s ≢ k)) →
        get_or (set ms s true) k false ≡ (get_or ms k false || eqb s k)
    at k within (inl (is, same)) =
        let there : s < length ms = omega (arith, same) in
        get_or-set_at ms s k true false (sym same) there
        ∙ sym (ap (λ (b : Bool). get_or ms k false || b) is ∙ or_all (get_or ms k false))
    at k within (inr (is, other)) =
        get_or-set_other ms s k true false (λ e. other (sym e))
        ∙ sym (ap (λ (b : Bool). get_or ms k false || b) is ∙ or_none (get_or ms k false))

both_marked : (ms ns os : List Bool) (u v : ℕ → Bool) → Marked ms ns u → Marked ns os v →
    Marked ms os (λ k. u k || v k)
both_marked ms ns os u v first second = (
  second.0 ∙ first.0,
  λ k within.
      let there : k < length ns = omega (arith, first.0) in
      second.1 k there ∙ ap (λ (b : Bool). b || v k) (first.1 k within) ∙ or_assoc (get_or ms k false) (u k) (v k),
)

expr_marked : (e : Expr) (ms : List Bool) → Marked ms (marked_expr e ms) (λ k. expr_uses k e)
expr_marked (whole s) ms = one_mark ms s
expr_marked (bit s n) ms = one_mark ms s
expr_marked (part s h l) ms = one_mark ms s
expr_marked (plain n) ms = same_marks ms
expr_marked (sized w v) ms = same_marks ms
expr_marked (unary op a) ms = expr_marked a ms
expr_marked (binary op a b) ms =
    both_marked ms (marked_expr a ms) (marked_expr b (marked_expr a ms)) (λ k. expr_uses k a) (λ k. expr_uses k b)
    (expr_marked a ms) (expr_marked b (marked_expr a ms))
expr_marked (choice t a b) ms =
    let tested = marked_expr t ms in
    let chosen = marked_expr a tested in
    both_marked ms tested (marked_expr b chosen) (λ k. expr_uses k t) (λ k. expr_uses k a || expr_uses k b)
    (expr_marked t ms)
    (both_marked tested chosen (marked_expr b chosen) (λ k. expr_uses k a) (λ k. expr_uses k b)
    (expr_marked a tested) (expr_marked b chosen))

two_seres : (r s : sere.Sere) (ms : List Bool) → Marked ms (marked_sere r ms) (λ k. sere_uses k r) →
    Marked (marked_sere r ms) (marked_sere s (marked_sere r ms)) (λ k. sere_uses k s) →
    Marked ms (marked_sere s (marked_sere r ms)) (λ k. sere_uses k r || sere_uses k s)
two_seres r s ms first second =
    both_marked ms (marked_sere r ms) (marked_sere s (marked_sere r ms)) (λ k. sere_uses k r) (λ k. sere_uses k s)
    first second

sere_marked : (r : sere.Sere) (ms : List Bool) → Marked ms (marked_sere r ms) (λ k. sere_uses k r)
sere_marked (sere.bool e) ms = expr_marked e ms
sere_marked (sere.concat r s) ms = two_seres r s ms (sere_marked r ms) (sere_marked s (marked_sere r ms))
sere_marked (sere.fuse r s) ms = two_seres r s ms (sere_marked r ms) (sere_marked s (marked_sere r ms))
sere_marked (sere.or r s) ms = two_seres r s ms (sere_marked r ms) (sere_marked s (marked_sere r ms))
sere_marked (sere.both r s) ms = two_seres r s ms (sere_marked r ms) (sere_marked s (marked_sere r ms))
sere_marked (sere.meet r s) ms = two_seres r s ms (sere_marked r ms) (sere_marked s (marked_sere r ms))
sere_marked (sere.within r s) ms = two_seres r s ms (sere_marked r ms) (sere_marked s (marked_sere r ms))
sere_marked (sere.repeat r low high) ms = sere_marked r ms
sere_marked (sere.goto e low high) ms = expr_marked e ms
sere_marked (sere.equal e low high) ms = expr_marked e ms

two_formulas : (f g : formula.Formula) (ms : List Bool) → Marked ms (marked_formula f ms) (λ k. formula_uses k f) →
    Marked (marked_formula f ms) (marked_formula g (marked_formula f ms)) (λ k. formula_uses k g) →
    Marked ms (marked_formula g (marked_formula f ms)) (λ k. formula_uses k f || formula_uses k g)
two_formulas f g ms first second =
    both_marked ms (marked_formula f ms) (marked_formula g (marked_formula f ms))
    (λ k. formula_uses k f) (λ k. formula_uses k g) first second

pub formula_marked : (f : formula.Formula) (ms : List Bool) → Marked ms (marked_formula f ms) (λ k. formula_uses k f)
formula_marked (formula.bool e) ms = expr_marked e ms
formula_marked (formula.not f) ms = formula_marked f ms
formula_marked (formula.and f g) ms = two_formulas f g ms (formula_marked f ms) (formula_marked g (marked_formula f ms))
formula_marked (formula.or f g) ms = two_formulas f g ms (formula_marked f ms) (formula_marked g (marked_formula f ms))
formula_marked (formula.implies f g) ms =
    two_formulas f g ms (formula_marked f ms) (formula_marked g (marked_formula f ms))
formula_marked (formula.iff f g) ms = two_formulas f g ms (formula_marked f ms) (formula_marked g (marked_formula f ms))
formula_marked (formula.seq r strong) ms = sere_marked r ms
formula_marked (formula.suffix r later f) ms =
    both_marked ms (marked_sere r ms) (marked_formula f (marked_sere r ms))
    (λ k. sere_uses k r) (λ k. formula_uses k f) (sere_marked r ms) (formula_marked f (marked_sere r ms))
formula_marked (formula.always f) ms = formula_marked f ms
formula_marked (formula.never f) ms = formula_marked f ms
formula_marked (formula.eventually f) ms = formula_marked f ms
formula_marked (formula.next strong reach low high f) ms = formula_marked f ms
formula_marked (formula.event on strong reach low high f) ms =
    both_marked ms (marked_expr on ms) (marked_formula f (marked_expr on ms))
    (λ k. expr_uses k on) (λ k. formula_uses k f) (expr_marked on ms) (formula_marked f (marked_expr on ms))
formula_marked (formula.until strong overlap f g) ms =
    two_formulas f g ms (formula_marked f ms) (formula_marked g (marked_formula f ms))
formula_marked (formula.before strong overlap f g) ms =
    two_formulas f g ms (formula_marked f ms) (formula_marked g (marked_formula f ms))
formula_marked (formula.abort f on) ms =
    both_marked ms (marked_formula f ms) (marked_expr on (marked_formula f ms))
    (λ k. formula_uses k f) (λ k. expr_uses k on) (formula_marked f ms) (expr_marked on (marked_formula f ms))
