-- What follows from one formula at each word without bottoms that isn't empty follows under each operator.
use Rattle.std.proofs.Common.{inl, inr, ℕ, zero, suc, ◌+◌, List, Bool, true, false, sym, subst, arith}
use Rattle.psl_model.specs.Expr.{Expr}
use Rattle.psl_meaning.specs.Word.{Word, with_tops, first, from, bar, Reaches}
use Rattle.psl_meaning.specs.Sequence.{CoreSere}
use Rattle.psl_meaning.specs.Formula.{CoreFormula, bool, not, and, strong_next, strong_until, abort, suffix, Satisfies}
use Rattle.psl_meaning.specs.FormulaSugar.{or, everywhere, weak_next, next_by, until_by, next_times, next_event}
use Rattle.psl_meaning.specs.FormulaSugar.{event_times, conjunction, disjunction}
use Rattle.psl_rewrite.specs.SameMeaning.{HasNoBottom}
use Rattle.psl_rewrite.proofs.Lists.{reaches_from_bar}
use Rattle.psl_rewrite.proofs.KnownLaws.{bar_from_bar}
use Rattle.psl_rewrite.proofs.KnownLaws as known
use Rattle.psl_rewrite.proofs.WordLaws.{WordLaws, reaches_from, reaches_below, no_bottom_from, no_bottom_cut}

-- of each word without bottoms that isn't empty: where the one is satisfied, the other is
abbrev pub Implied : List ℕ → CoreFormula → CoreFormula → Type 0
Implied widths f g = (w : Word) → Reaches w 0 → HasNoBottom w → Satisfies widths f w → Satisfies widths g w

module _ (laws : WordLaws) (widths : List ℕ) where
  pub self : (f : CoreFormula) → Implied widths f f
  self f w some clean s = s

  pub then_ : (f g h : CoreFormula) → Implied widths f g → Implied widths g h → Implied widths f h
  then_ f g h p q w some clean s = q w some clean (p w some clean s)

  -- at a place of the word, and seen through two bars
  at_place : (f g : CoreFormula) → Implied widths f g → (w : Word) → HasNoBottom w → (k : ℕ) → Reaches w k →
      Satisfies widths f (from k w) → Satisfies widths g (from k w)
  at_place f g p w clean k reached = p (from k w) (reaches_from laws w k reached) (no_bottom_from laws w k clean)

  through_bars : (f g : CoreFormula) → Implied widths f g → (w : Word) → HasNoBottom w → (k : ℕ) → Reaches (bar w) k →
      Satisfies widths f (bar (from k (bar w))) → Satisfies widths g (bar (from k (bar w)))
  through_bars f g p w clean k reached =
      subst (λ (v : Word). Satisfies widths f v → Satisfies widths g v) (sym (bar_from_bar laws.bar_of_bar k w))
      (at_place f g p w clean k (reaches_from_bar w k reached))

  pub and_implied : (f g a b : CoreFormula) → Implied widths f a → Implied widths g b →
      Implied widths (and f g) (and a b)
  and_implied f g a b p q w some clean (s, t) = (p w some clean s, q w some clean t)

  -- `or` without its bars
  pub or_opens : (f g : CoreFormula) (w : Word) → Satisfies widths (or f g) w →
      ¬ ((¬ Satisfies widths f w) × (¬ Satisfies widths g w))
  or_opens f g w s = known.or_opens laws.bar_of_bar widths f g w s

  pub or_closes : (f g : CoreFormula) (w : Word) → ¬ ((¬ Satisfies widths f w) × (¬ Satisfies widths g w)) →
      Satisfies widths (or f g) w
  or_closes f g w s = known.or_closes laws.bar_of_bar widths f g w s

  pub or_implied : (f g a b : CoreFormula) → Implied widths f a → Implied widths g b → Implied widths (or f g) (or a b)
  or_implied f g a b p q w some clean s =
      or_closes a b w (λ none. or_opens f g w s ((λ t. none.0 (p w some clean t)), (λ t. none.1 (q w some clean t))))

  pub or_swaps : (f g : CoreFormula) → Implied widths (or f g) (or g f)
  or_swaps f g w some clean s = or_closes g f w (λ none. or_opens f g w s (none.1, none.0))

  pub everywhere_implied : (f a : CoreFormula) → Implied widths f a → Implied widths (everywhere f) (everywhere a)
  everywhere_implied f a p w some clean all (k, reached, refuted, before) =
      all (k, reached, (λ s. refuted (through_bars f a p w clean k reached s)), before)

  pub strong_next_implied : (f a : CoreFormula) → Implied widths f a → Implied widths (strong_next f) (strong_next a)
  strong_next_implied f a p w some clean (reached, s) = (reached, at_place f a p w clean 1 reached s)

  pub weak_next_implied : (f a : CoreFormula) → Implied widths f a → Implied widths (weak_next f) (weak_next a)
  weak_next_implied f a p w some clean s (reached, refuted) =
      s (reached, λ t. refuted (through_bars f a p w clean 1 reached t))

  pub strong_until_implied : (f g a b : CoreFormula) → Implied widths f a → Implied widths g b →
      Implied widths (strong_until f g) (strong_until a b)
  strong_until_implied f g a b p q w some clean (k, reached, there, before) = (
    k,
    reached,
    at_place g b q w clean k reached there,
    λ j below. at_place f a p w clean j
        (reaches_below w k j (omega arith) reached) (before j below),
  )

  pub until_implied : (s : Bool) (f g a b : CoreFormula) → Implied widths f a → Implied widths g b →
      Implied widths (until_by s f g) (until_by s a b)
  until_implied true f g a b p q = strong_until_implied f g a b p q
  until_implied false f g a b p q =
      or_implied (strong_until f g) (everywhere f) (strong_until a b) (everywhere a)
      (strong_until_implied f g a b p q) (everywhere_implied f a p)

  pub next_implied : (s : Bool) (f a : CoreFormula) → Implied widths f a → Implied widths (next_by s f) (next_by s a)
  next_implied true f a p = strong_next_implied f a p
  next_implied false f a p = weak_next_implied f a p

  pub next_times_implied : (s : Bool) (k : ℕ) (f a : CoreFormula) → Implied widths f a →
      Implied widths (next_times s k f) (next_times s k a)
  next_times_implied s zero f a p = p
  next_times_implied s (suc k) f a p =
      next_implied s (next_times s k f) (next_times s k a) (next_times_implied s k f a p)

  pub next_event_implied : (s : Bool) (on : Expr) (f a : CoreFormula) → Implied widths f a →
      Implied widths (next_event s on f) (next_event s on a)
  next_event_implied s on f a p =
      until_implied s (not (bool on)) (and (bool on) f) (not (bool on)) (and (bool on) a) (self (not (bool on)))
      (and_implied (bool on) f (bool on) a (self (bool on)) p)

  pub event_times_implied : (s : Bool) (on : Expr) (k : ℕ) (f a : CoreFormula) → Implied widths f a →
      Implied widths (event_times s on k f) (event_times s on k a)
  event_times_implied s on zero f a p = p
  event_times_implied s on (suc zero) f a p = next_event_implied s on f a p
  event_times_implied s on (suc (suc k)) f a p =
      next_event_implied s on (next_by s (event_times s on (suc k) f)) (next_by s (event_times s on (suc k) a))
      (next_implied s (event_times s on (suc k) f) (event_times s on (suc k) a)
      (event_times_implied s on (suc k) f a p))

  pub conjunction_implied : (f a : ℕ → CoreFormula) → ((k : ℕ) → Implied widths (f k) (a k)) → (low more : ℕ) →
      Implied widths (conjunction f low more) (conjunction a low more)
  conjunction_implied f a p low zero = p low
  conjunction_implied f a p low (suc more) =
      and_implied (conjunction f low more) (f (low + suc more)) (conjunction a low more) (a (low + suc more))
      (conjunction_implied f a p low more) (p (low + suc more))

  pub disjunction_implied : (f a : ℕ → CoreFormula) → ((k : ℕ) → Implied widths (f k) (a k)) → (low more : ℕ) →
      Implied widths (disjunction f low more) (disjunction a low more)
  disjunction_implied f a p low zero = p low
  disjunction_implied f a p low (suc more) =
      or_implied (disjunction f low more) (f (low + suc more)) (disjunction a low more) (a (low + suc more))
      (disjunction_implied f a p low more) (p (low + suc more))

  pub suffix_implied : (r : CoreSere) (f a : CoreFormula) → Implied widths f a →
      Implied widths (suffix r f) (suffix r a)
  suffix_implied r f a p w some clean s j reached ends = at_place f a p w clean j reached (s j reached ends)

  pub abort_implied : (f a : CoreFormula) (on : Expr) → Implied widths f a → Implied widths (abort f on) (abort a on)
  abort_implied f a on p w some clean (inl s) = inl (p w some clean s)
  abort_implied f a on p w some clean (inr (j, here, s)) =
      inr (j, here, p (with_tops (first j w)) (laws.never_ends (first j w) 0) (no_bottom_cut laws w j clean) s)
