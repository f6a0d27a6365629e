-- The base form of a formula of the subset is satisfied by the same words.
use Rattle.std.proofs.Common.{◌≡◌, ℕ, ◌-◌, List, Bool, true, false, refl, sym, ap, subst, arith}
use Rattle.std.specs.Prelude.{◌||◌, ◌&&◌}
use Rattle.std.proofs.lemmas.Bool.{false≢true}
use Rattle.psl_model.specs.Expr.{Expr}
use Rattle.psl_model.specs.Sere as sere
use Rattle.psl_model.specs.Formula as formula
use Rattle.psl_model.specs.Formula.{Formula}
use Rattle.psl_model.specs.declared.formulas.Reach.TheVariants as reach
use Rattle.psl_meaning.specs.SequenceSugar.{core_of, always_true}
use Rattle.psl_meaning.specs.Formula.{CoreFormula, bool, not, and, strong, strong_until, suffix}
use Rattle.psl_meaning.specs.FormulaSugar.{or, implies, everywhere, until_by, next_times, event_times, conjunction}
use Rattle.psl_meaning.specs.FormulaSugar.{disjunction, core_formula_of, sequence_by}
use Rattle.simple_subset.specs.Subset.{is_boolean, is_plain_sequence, broken_rules, InSubset}
use Rattle.psl_rewrite.specs.Meaning.{named}
use Rattle.psl_rewrite.specs.SameMeaning.{MeanTheSame}
use Rattle.psl_rewrite.specs.BaseForm.{as_expr, not_expr, and_expr, iff_expr, always_false, base_form_of}
use Rattle.psl_rewrite.proofs.WordLaws.{WordLaws}
use Rattle.psl_rewrite.proofs.Congruence.{Implied, self, then_, and_implied, or_implied, or_swaps, everywhere_implied}
use Rattle.psl_rewrite.proofs.Congruence.{until_implied, next_times_implied, event_times_implied, conjunction_implied}
use Rattle.psl_rewrite.proofs.Congruence.{disjunction_implied, suffix_implied, abort_implied}
use Rattle.psl_rewrite.proofs.Booleans.{not_boolean, boolean_not, and_boolean, boolean_and, iff_boolean, boolean_iff}
use Rattle.psl_rewrite.proofs.Bottoms.{never_suffix, suffix_never}
use Rattle.psl_rewrite.proofs.Demands.{parts, one, two, both, boolean_is}

abbrev Same : List ℕ → CoreFormula → CoreFormula → Type 0
Same widths f g = Implied widths f g × Implied widths g f

module _ (laws : WordLaws) (widths : List ℕ) where
  same_self : (f : CoreFormula) → Same widths f f
  same_self f = (self laws widths f, self laws widths f)

  same_then : (f g h : CoreFormula) → Same widths f g → Same widths g h → Same widths f h
  same_then f g h p q = (then_ laws widths f g h p.0 q.0, then_ laws widths h g f q.1 p.1)

  -- Booleans that are the expressions of formulas
  not_same : (f : CoreFormula) (a : Expr) → f ≡ bool a → Same widths (bool (not_expr a)) (not f)
  not_same f a is =
      subst (λ (g : CoreFormula). Same widths (bool (not_expr a)) (not g)) (sym is)
      (boolean_not laws widths a, not_boolean laws widths a)

  and_same : (f g : CoreFormula) (a b : Expr) → Same widths (bool a) f → Same widths (bool b) g →
      Same widths (bool (and_expr a b)) (and f g)
  and_same f g a b p q =
      same_then (bool (and_expr a b)) (and (bool a) (bool b)) (and f g)
      (boolean_and laws widths a b, and_boolean laws widths a b)
      (and_implied laws widths (bool a) (bool b) f g p.0 q.0, and_implied laws widths f g (bool a) (bool b) p.1 q.1)

  is_same : (f : CoreFormula) (a : Expr) → f ≡ bool a → Same widths (bool a) f
  is_same f a is = subst (λ (g : CoreFormula). Same widths (bool a) g) (sym is) (same_self (bool a))

  iff_same : (f g : CoreFormula) (a b : Expr) → f ≡ bool a → g ≡ bool b →
      Same widths (bool (iff_expr a b)) (and (implies f g) (implies g f))
  iff_same f g a b is too =
      subst (λ (x : CoreFormula). Same widths (bool (iff_expr a b)) (and (implies x g) (implies g x))) (sym is)
      (subst (λ (y : CoreFormula). Same widths (bool (iff_expr a b)) (and (implies (bool a) y) (implies y (bool a))))
      (sym too) (boolean_iff laws widths a b, iff_boolean laws widths a b))

  -- operators
  or_same : (f g a b : CoreFormula) → Same widths f a → Same widths g b → Same widths (or f g) (or a b)
  or_same f g a b p q = (or_implied laws widths f g a b p.0 q.0, or_implied laws widths a b f g p.1 q.1)

  implies_same : (a : Expr) (f g h : CoreFormula) → f ≡ bool a → Same widths g h →
      Same widths (implies (bool a) g) (implies f h)
  implies_same a f g h is q =
      subst (λ (x : CoreFormula). Same widths (implies (bool a) g) (implies x h)) (sym is)
      (or_same (not (bool a)) g (not (bool a)) h (same_self (not (bool a))) q)

  everywhere_same : (f a : CoreFormula) → Same widths f a → Same widths (everywhere f) (everywhere a)
  everywhere_same f a p = (everywhere_implied laws widths f a p.0, everywhere_implied laws widths a f p.1)

  until_same : (s : Bool) (f g a b : CoreFormula) → Same widths f a → Same widths g b →
      Same widths (until_by s f g) (until_by s a b)
  until_same s f g a b p q = (until_implied laws widths s f g a b p.0 q.0, until_implied laws widths s a b f g p.1 q.1)

  next_same : (s : Bool) (k : ℕ) (f a : CoreFormula) → Same widths f a →
      Same widths (next_times s k f) (next_times s k a)
  next_same s k f a p = (next_times_implied laws widths s k f a p.0, next_times_implied laws widths s k a f p.1)

  event_same : (s : Bool) (on : Expr) (k : ℕ) (f a : CoreFormula) → Same widths f a →
      Same widths (event_times s on k f) (event_times s on k a)
  event_same s on k f a p =
      (event_times_implied laws widths s on k f a p.0, event_times_implied laws widths s on k a f p.1)

  conjunction_same : (f a : ℕ → CoreFormula) → ((k : ℕ) → Same widths (f k) (a k)) → (low more : ℕ) →
      Same widths (conjunction f low more) (conjunction a low more)
  conjunction_same f a p low more = (
    conjunction_implied laws widths f a (λ k. (p k).0) low more,
    conjunction_implied laws widths a f (λ k. (p k).1) low more,
  )

  disjunction_same : (f a : ℕ → CoreFormula) → ((k : ℕ) → Same widths (f k) (a k)) → (low more : ℕ) →
      Same widths (disjunction f low more) (disjunction a low more)
  disjunction_same f a p low more = (
    disjunction_implied laws widths f a (λ k. (p k).0) low more,
    disjunction_implied laws widths a f (λ k. (p k).1) low more,
  )

  -- a range of one number
  one_number : (f : ℕ → CoreFormula) (low : ℕ) → f low ≡ conjunction f low (low - low)
  one_number f low =
      let none : 0 ≡ low - low = omega arith in
      ap (λ (n : ℕ). conjunction f low n) none

  abbrev meant : Formula → CoreFormula
  meant f = core_formula_of (named (base_form_of f))

  abbrev Kept : Formula → Type 0
  Kept f = Same widths (meant f) (core_formula_of f)

  or_right : (f g : Formula) → is_boolean g ≡ true → Kept f →
      Same widths (or (bool (as_expr g)) (meant f)) (or (core_formula_of f) (core_formula_of g))
  or_right f g h p =
      let e = bool (as_expr g) in
      same_then (or e (meant f)) (or (meant f) e) (or (core_formula_of f) (core_formula_of g))
      (or_swaps laws widths e (meant f), or_swaps laws widths (meant f) e)
      (or_same (meant f) e (core_formula_of f) (core_formula_of g) p
      (is_same (core_formula_of g) (as_expr g) (boolean_is g h)))

  or_kept : (f g : Formula) → (is_boolean f || is_boolean g) ≡ true → Kept f → Kept g → Kept (formula.or f g)
  or_kept (formula.bool e) g h p q = or_same (bool e) (meant g) (bool e) (core_formula_of g) (same_self (bool e)) q
  or_kept f g h p q = or_right f g h p

  never_kept : (f : Formula) → (is_boolean f || is_plain_sequence f) ≡ true → Kept (formula.never f)
  never_kept (formula.bool e) h = everywhere_same (bool (not_expr e)) (not (bool e)) (not_same (bool e) e refl)
  never_kept (formula.seq r s) h =
      everywhere_same (suffix (core_of r) (bool always_false)) (not (strong (core_of r)))
      (suffix_never laws widths (core_of r), never_suffix laws widths (core_of r))
  never_kept f h = absurd (false≢true h)

  eventually_kept : (f : Formula) → (is_boolean f || is_plain_sequence f) ≡ true → Kept (formula.eventually f)
  eventually_kept (formula.bool e) h = same_self (strong_until (bool always_true) (bool e))
  eventually_kept (formula.seq r s) h = same_self (strong_until (bool always_true) (strong (core_of r)))
  eventually_kept f h = absurd (false≢true h)

  pub kept : (f : Formula) → InSubset f → Kept f
  kept (formula.bool e) h = same_self (bool e)
  kept (formula.not f) h =
      not_same (core_formula_of f) (as_expr f) (boolean_is f (one (is_boolean f) 1 (broken_rules f) h).0)
  kept (formula.and f g) h =
      let in_ = parts (broken_rules f) (broken_rules g) h in
      let p = kept f in_.0 in
      let q = kept g in_.1 in (
        and_implied laws widths (meant f) (meant g) (core_formula_of f) (core_formula_of g) p.0 q.0,
        and_implied laws
            widths (core_formula_of f) (core_formula_of g) (meant f) (meant g) p.1 q.1,
      )
  kept (formula.or f g) h =
      let in_ = two (is_boolean f || is_boolean g) 4 (broken_rules f) (broken_rules g) h in
      or_kept f g in_.0 (kept f in_.1) (kept g in_.2)
  kept (formula.implies f g) h =
      let in_ = two (is_boolean f) 5 (broken_rules f) (broken_rules g) h in
      implies_same (as_expr f) (core_formula_of f) (meant g) (core_formula_of g) (boolean_is f in_.0) (kept g in_.2)
  kept (formula.iff f g) h =
      let in_ = both (is_boolean f) (is_boolean g)
      (two (is_boolean f && is_boolean g) 6 (broken_rules f) (broken_rules g) h).0 in
      iff_same (core_formula_of f) (core_formula_of g) (as_expr f) (as_expr g) (boolean_is f in_.0)
      (boolean_is g in_.1)
  kept (formula.seq r s) h = same_self (sequence_by s (core_of r))
  kept (formula.suffix r false f) h =
      let p = kept f h in (
        suffix_implied laws widths (core_of r) (meant f) (core_formula_of f) p.0,
        suffix_implied laws widths
            (core_of r) (core_formula_of f) (meant f) p.1,
      )
  kept (formula.suffix r true f) h =
      let p = kept f h in
      let c = core_of (sere.concat r (sere.bool always_true)) in (
        suffix_implied laws widths c (meant f) (core_formula_of f) p.0,
        suffix_implied laws widths c
            (core_formula_of f) (meant f) p.1,
      )
  kept (formula.always f) h = everywhere_same (meant f) (core_formula_of f) (kept f h)
  kept (formula.never f) h = never_kept f (one (is_boolean f || is_plain_sequence f) 2 (broken_rules f) h).0
  kept (formula.eventually f) h = eventually_kept f (one (is_boolean f || is_plain_sequence f) 3 (broken_rules f) h).0
  kept (formula.next s reach.One low high f) h = next_same s low (meant f) (core_formula_of f) (kept f h)
  kept (formula.next s reach.All low high f) h =
      let p = kept f h in
      conjunction_same (λ k. next_times s k (meant f)) (λ k. next_times s k (core_formula_of f))
      (λ k. next_same s k (meant f) (core_formula_of f) p) low (high - low)
  kept (formula.next s reach.Some low high f) h =
      let p = is_same (core_formula_of f) (as_expr f) (boolean_is f (one (is_boolean f) 10 (broken_rules f) h).0) in
      disjunction_same (λ k. next_times s k (bool (as_expr f))) (λ k. next_times s k (core_formula_of f))
      (λ k. next_same s k (bool (as_expr f)) (core_formula_of f) p) low (high - low)
  kept (formula.event on s reach.One low high f) h =
      subst (λ (g : CoreFormula). Same widths g (event_times s on low (core_formula_of f)))
      (one_number (λ k. event_times s on k (meant f)) low)
      (event_same s on low (meant f) (core_formula_of f) (kept f h))
  kept (formula.event on s reach.All low high f) h =
      let p = kept f h in
      conjunction_same (λ k. event_times s on k (meant f)) (λ k. event_times s on k (core_formula_of f))
      (λ k. event_same s on k (meant f) (core_formula_of f) p) low (high - low)
  kept (formula.event on s reach.Some low high f) h =
      let p = is_same (core_formula_of f) (as_expr f) (boolean_is f (one (is_boolean f) 11 (broken_rules f) h).0) in
      disjunction_same (λ k. event_times s on k (bool (as_expr f))) (λ k. event_times s on k (core_formula_of f))
      (λ k. event_same s on k (bool (as_expr f)) (core_formula_of f) p) low (high - low)
  kept (formula.until s false f g) h =
      let in_ = two (is_boolean g) 7 (broken_rules f) (broken_rules g) h in
      until_same s (meant f) (bool (as_expr g)) (core_formula_of f) (core_formula_of g) (kept f in_.1)
      (is_same (core_formula_of g) (as_expr g) (boolean_is g in_.0))
  kept (formula.until s true f g) h =
      let in_ = two (is_boolean f && is_boolean g) 8 (broken_rules f) (broken_rules g) h in
      let are = both (is_boolean f) (is_boolean g) in_.0 in
      let p = is_same (core_formula_of f) (as_expr f) (boolean_is f are.0) in
      let q = is_same (core_formula_of g) (as_expr g) (boolean_is g are.1) in
      until_same s (meant f) (bool (and_expr (as_expr f) (as_expr g))) (core_formula_of f)
      (and (core_formula_of f) (core_formula_of g)) (kept f in_.1)
      (and_same (core_formula_of f) (core_formula_of g) (as_expr f) (as_expr g) p q)
  kept (formula.before s false f g) h =
      let are = both (is_boolean f) (is_boolean g)
      (two (is_boolean f && is_boolean g) 9 (broken_rules f) (broken_rules g) h).0 in
      let p = is_same (core_formula_of f) (as_expr f) (boolean_is f are.0) in
      let n = not_same (core_formula_of g) (as_expr g) (boolean_is g are.1) in
      until_same s (bool (not_expr (as_expr g))) (bool (and_expr (as_expr f) (not_expr (as_expr g))))
      (not (core_formula_of g)) (and (core_formula_of f) (not (core_formula_of g))) n
      (and_same (core_formula_of f) (not (core_formula_of g)) (as_expr f) (not_expr (as_expr g)) p n)
  kept (formula.before s true f g) h =
      let are = both (is_boolean f) (is_boolean g)
      (two (is_boolean f && is_boolean g) 9 (broken_rules f) (broken_rules g) h).0 in
      until_same s (bool (not_expr (as_expr g))) (bool (as_expr f)) (not (core_formula_of g)) (core_formula_of f)
      (not_same (core_formula_of g) (as_expr g) (boolean_is g are.1))
      (is_same (core_formula_of f) (as_expr f) (boolean_is f are.0))
  kept (formula.abort f on) h =
      let p = kept f h in (
        abort_implied laws widths (meant f) (core_formula_of f) on p.0,
        abort_implied laws widths (core_formula_of f)
            (meant f) on p.1,
      )

pub means_the_same : (laws : WordLaws) (f : Formula) → InSubset f → MeanTheSame (named (base_form_of f)) f
means_the_same laws f simple widths w some clean =
    ((λ s. (kept laws widths f simple).0 w some clean s), (λ s. (kept laws widths f simple).1 w some clean s))
