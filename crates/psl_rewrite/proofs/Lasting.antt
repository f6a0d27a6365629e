-- What tops for ever satisfy, and that what a list satisfies as a word that ends, it satisfies followed by tops.
use Rattle.std.proofs.Common.{◌≢◌, ◌⊎◌, inl, inr, ℕ, zero, suc, ◌+◌, ◌-◌, ◌<◌, ◌≤◌, List, [], ◌∷◌, Some, Bool}
use Rattle.std.proofs.Common.{true, false, sym, subst, drop, map, length, replicate, arith}
use Rattle.std.specs.Prelude.{slice_get}
use Rattle.std.proofs.lemmas.Bool.{cases_lt}
use Rattle.psl_model.specs.Expr.{Expr}
use Rattle.psl_meaning.specs.Word.{Letter, top, ended, tops, bottoms, Word, finite, with_tops, first, from, bar_letter}
use Rattle.psl_meaning.specs.Word.{letter_at, Reaches}
use Rattle.psl_meaning.specs.Sequence.{CoreSere, Tight}
use Rattle.psl_meaning.specs.Formula.{CoreFormula, bool, not, and, strong, weak, strong_next, strong_until, abort}
use Rattle.psl_meaning.specs.Formula.{suffix, Satisfies, SomePrefix}
use Rattle.psl_meaning.specs.FormulaSugar.{or, everywhere, weak_next, next_by, until_by, next_times, next_event}
use Rattle.psl_meaning.specs.FormulaSugar.{event_times, conjunction, disjunction}
use Rattle.psl_rewrite.proofs.Lists.{length_drop, drop_past, within, reached, first_within, top_of, more_of, some_of}
use Rattle.psl_rewrite.proofs.Lists.{cut_behind, first_tops, length_bars, reaches_from_bar, reaches_to_bar}
use Rattle.psl_rewrite.proofs.KnownLaws.{Laws, bar_from_bar, or_opens, or_closes}

module _ (laws : Laws) (widths : List ℕ) where
  abbrev pub AtTops : CoreFormula → Type 0
  AtTops f = Satisfies widths f (with_tops [])

  abbrev pub Grows : CoreFormula → Type 0
  Grows f = (xs : List Letter) → 0 < length xs → Satisfies widths f (finite xs) → Satisfies widths f (with_tops xs)

  abbrev pub Lasting : CoreFormula → Type 0
  Lasting f = AtTops f × Grows f

  -- at a suffix, which may lie behind the list
  at_suffix : (f : CoreFormula) → Lasting f → (xs : List Letter) (k : ℕ) →
      ((k < length xs) → Satisfies widths f (from k (finite xs))) → Satisfies widths f (from k (with_tops xs))
  at_suffix f p xs k s = split (cases_lt k (length xs))
    where
      split : (k < length xs) ⊎ (length xs ≤ k) → Satisfies widths f (from k (with_tops xs))
      split (inl before) = p.1 (drop k xs) (length_drop xs k before) (s before)
      split (inr past) = subst (λ (ys : List Letter). Satisfies widths f (with_tops ys)) (sym (drop_past xs k past)) p.0

  at_tops : (f : CoreFormula) → AtTops f → (k : ℕ) → Satisfies widths f (from k (with_tops []))
  at_tops f s k =
      subst (λ (ys : List Letter). Satisfies widths f (with_tops ys)) (sym (drop_past [] k (omega arith))) s

  pub bool_lasts : (e : Expr) → Lasting (bool e)
  bool_lasts e = (tt, grows)
    where
      grows : Grows (bool e)
      grows [] h s = tt
      grows (x ∷ xs) h s = s

  pub not_lasts : (e : Expr) → Lasting (not (bool e))
  not_lasts e = ((λ s. s), grows)
    where
      grows : Grows (not (bool e))
      grows [] h s = absurd (omega (arith, h))
      grows (x ∷ xs) h s = s

  pub and_lasts : (f g : CoreFormula) → Lasting f → Lasting g → Lasting (and f g)
  and_lasts f g p q = ((p.0, q.0), λ xs some s. (p.1 xs some s.0, q.1 xs some s.1))

  pub or_lasts : (f g : CoreFormula) → Lasting f → Lasting g → Lasting (or f g)
  or_lasts f g p q = (
    or_closes laws.bar_of_bar widths f g (with_tops []) (λ none. none.0 p.0),
    λ xs some s. or_closes laws.bar_of_bar widths f g (with_tops xs) (λ none.
        or_opens laws.bar_of_bar widths f g (finite xs) s
        ((λ t. none.0 (p.1 xs some t)), (λ t. none.1 (q.1 xs some t)))),
  )

  pub everywhere_lasts : (f : CoreFormula) → Lasting f → Lasting (everywhere f)
  everywhere_lasts f p = (
    (laws.each_place widths f (with_tops [])).1 (λ k there no_tops refuted. refuted (at_tops f p.0 k)),
    λ xs some s. (laws.each_place widths f (with_tops xs)).1 (λ k there no_tops refuted.
        split xs s k no_tops refuted (cases_lt k (length xs))),
  )
    where
      split : (xs : List Letter) → Satisfies widths (everywhere f) (finite xs) → (k : ℕ) →
          ((j : ℕ) → j < k → letter_at (with_tops xs) j ≢ Some top) → ¬ Satisfies widths f (from k (with_tops xs)) →
          (k < length xs) ⊎ (length xs ≤ k) → ⊥
      split xs s k no_tops refuted (inl before) =
          (laws.each_place widths f (finite xs)).0 s k (reached xs k before)
          (λ j below e. no_tops j below (top_of (slice_get xs j) e))
          (λ t. refuted (at_suffix f p xs k (λ b. t)))
      split xs s k no_tops refuted (inr past) = refuted (at_suffix f p xs k (λ b. absurd (omega (arith, b, past))))

  pub strong_next_lasts : (f : CoreFormula) → Lasting f → Lasting (strong_next f)
  strong_next_lasts f p =
      ((laws.never_ends [] 1, at_tops f p.0 1), λ xs some s. (laws.never_ends xs 1, at_suffix f p xs 1 (λ b. s.1)))

  weak_next_opens : (f : CoreFormula) (w : Word) → Satisfies widths (weak_next f) w → Reaches w 1 →
      ¬ ¬ Satisfies widths f (from 1 w)
  weak_next_opens f w s there refuted =
      s (
        reaches_to_bar w 1 there,
        λ t. refuted (subst (λ (v : Word). Satisfies widths f v) (bar_from_bar laws.bar_of_bar 1 w) t),
      )

  weak_next_closes : (f : CoreFormula) (w : Word) → (Reaches w 1 → ¬ ¬ Satisfies widths f (from 1 w)) →
      Satisfies widths (weak_next f) w
  weak_next_closes f w s t =
      s (reaches_from_bar w 1 t.0)
      (λ u. t.1 (subst (λ (v : Word). Satisfies widths f v) (sym (bar_from_bar laws.bar_of_bar 1 w)) u))

  pub weak_next_lasts : (f : CoreFormula) → Lasting f → Lasting (weak_next f)
  weak_next_lasts f p = (
    weak_next_closes f (with_tops []) (λ there refuted. refuted (at_tops f p.0 1)),
    λ xs some s. weak_next_closes f (with_tops xs) (λ there refuted. split xs s refuted (cases_lt 1 (length xs))),
  )
    where
      split : (xs : List Letter) → Satisfies widths (weak_next f) (finite xs) →
          ¬ Satisfies widths f (from 1 (with_tops xs)) → (1 < length xs) ⊎ (length xs ≤ 1) → ⊥
      split xs s refuted (inl before) =
          weak_next_opens f (finite xs) s (reached xs 1 before) (λ t. refuted (at_suffix f p xs 1 (λ b. t)))
      split xs s refuted (inr past) = refuted (at_suffix f p xs 1 (λ b. absurd (omega (arith, b, past))))

  pub strong_until_lasts : (f g : CoreFormula) → Lasting f → Lasting g → Lasting (strong_until f g)
  strong_until_lasts f g p q = (
    (0, laws.never_ends [] 0, q.0, λ j below. absurd (omega (arith, below))),
    λ xs some s. (
      s.0,
      laws.never_ends xs s.0,
      at_suffix g q xs s.0 (λ b. s.2),
      λ j below. at_suffix f p xs j (λ b. s.3 j below),
    ),
  )

  pub until_lasts : (s : Bool) (f g : CoreFormula) → Lasting f → Lasting g → Lasting (until_by s f g)
  until_lasts true f g p q = strong_until_lasts f g p q
  until_lasts false f g p q =
      or_lasts (strong_until f g) (everywhere f) (strong_until_lasts f g p q) (everywhere_lasts f p)

  pub next_lasts : (s : Bool) (f : CoreFormula) → Lasting f → Lasting (next_by s f)
  next_lasts true f p = strong_next_lasts f p
  next_lasts false f p = weak_next_lasts f p

  pub next_times_lasts : (s : Bool) (k : ℕ) (f : CoreFormula) → Lasting f → Lasting (next_times s k f)
  next_times_lasts s zero f p = p
  next_times_lasts s (suc k) f p = next_lasts s (next_times s k f) (next_times_lasts s k f p)

  pub next_event_lasts : (s : Bool) (on : Expr) (f : CoreFormula) → Lasting f → Lasting (next_event s on f)
  next_event_lasts s on f p =
      until_lasts s (not (bool on)) (and (bool on) f) (not_lasts on) (and_lasts (bool on) f (bool_lasts on) p)

  pub event_times_lasts : (s : Bool) (on : Expr) (k : ℕ) (f : CoreFormula) → Lasting f → Lasting (event_times s on k f)
  event_times_lasts s on zero f p = p
  event_times_lasts s on (suc zero) f p = next_event_lasts s on f p
  event_times_lasts s on (suc (suc k)) f p =
      next_event_lasts s on (next_by s (event_times s on (suc k) f))
      (next_lasts s (event_times s on (suc k) f) (event_times_lasts s on (suc k) f p))

  pub conjunction_lasts : (f : ℕ → CoreFormula) → ((k : ℕ) → Lasting (f k)) → (low more : ℕ) →
      Lasting (conjunction f low more)
  conjunction_lasts f p low zero = p low
  conjunction_lasts f p low (suc more) =
      and_lasts (conjunction f low more) (f (low + suc more)) (conjunction_lasts f p low more) (p (low + suc more))

  pub disjunction_lasts : (f : ℕ → CoreFormula) → ((k : ℕ) → Lasting (f k)) → (low more : ℕ) →
      Lasting (disjunction f low more)
  disjunction_lasts f p low zero = p low
  disjunction_lasts f p low (suc more) =
      or_lasts (disjunction f low more) (f (low + suc more)) (disjunction_lasts f p low more) (p (low + suc more))

  -- a sequence that some non-empty list of tops tightly satisfies
  pub strong_lasts : (r : CoreSere) → (n : ℕ) × Tight widths r (replicate (suc n) top) → Lasting (strong r)
  strong_lasts r (n, s) = (
    (n, laws.never_ends [] n, subst (Tight widths r) (sym (first_tops (suc n))) s),
    λ xs some t. (
      t.0,
      laws.never_ends xs t.0,
      subst (Tight widths r) (first_within xs ended tops (suc t.0) (within xs t.0 t.1)) t.2,
    ),
  )

  behind : (r : CoreSere) (xs : List Letter) (n : ℕ) → length xs ≤ n → SomePrefix widths r (with_tops xs) →
      SomePrefix widths r (with_tops (first n (with_tops xs)))
  behind r xs n h s =
      (laws.letters_decide widths (strong r) (with_tops (first n (with_tops xs))) (with_tops xs)
      (cut_behind xs n h)).1 s

  before_cut : (r : CoreSere) (xs : List Letter) (n : ℕ) → length xs ≤ n →
      SomePrefix widths r (with_tops (first n (with_tops xs))) → SomePrefix widths r (with_tops xs)
  before_cut r xs n h s =
      (laws.letters_decide widths (strong r) (with_tops (first n (with_tops xs))) (with_tops xs)
      (cut_behind xs n h)).0 s

  pub weak_lasts : (r : CoreSere) → (n : ℕ) × Tight widths r (replicate (suc n) top) → Lasting (weak r)
  weak_lasts r can = (
    (λ n there. behind r [] (suc n) (omega arith) (strong_lasts r can).0),
    λ xs some s n there. split xs some s n (cases_lt n (length xs)),
  )
    where
      split : (xs : List Letter) → 0 < length xs → Satisfies widths (weak r) (finite xs) → (n : ℕ) →
          (n < length xs) ⊎ (length xs ≤ n) → SomePrefix widths r (with_tops (first (suc n) (with_tops xs)))
      split xs some s n (inl before) =
          subst (λ (l : List Letter). SomePrefix widths r (with_tops l)) (first_within xs ended tops (suc n) before)
          (s n (reached xs n before))
      split xs some s n (inr past) =
          let last = length xs - 1 in
          let inside : last < length xs = omega arith in
          let whole : SomePrefix widths r (with_tops (first (suc last) (with_tops xs))) =
          subst (λ (l : List Letter). SomePrefix widths r (with_tops l)) (first_within xs ended tops (suc last) inside)
          (s last (reached xs last inside)) in
          behind r xs (suc n) (omega arith) (before_cut r xs (suc last) (omega arith) whole)

  pub suffix_lasts : (r : CoreSere) (f : CoreFormula) → Lasting f → Lasting (suffix r f)
  suffix_lasts r f p = (
    (λ j there ends. at_tops f p.0 j),
    λ xs some s j there ends. at_suffix f p xs j (λ before. s j (reached xs j before)
        (subst (Tight widths r) (first_within (map bar_letter xs) bottoms ended (suc j) (in_bars xs j before)) ends)),
  )
    where
      in_bars : (xs : List Letter) (j : ℕ) → j < length xs → suc j ≤ length (map bar_letter xs)
      in_bars xs j before = rw (length_bars xs) before

  pub abort_lasts : (f : CoreFormula) (on : Expr) → Lasting f → Lasting (abort f on)
  abort_lasts f on p = (inl p.0, grows)
    where
      less : (xs : List Letter) (j : ℕ) → j < length xs → j ≤ length xs
      less xs j h = omega arith

      grows : Grows (abort f on)
      grows xs some (inl s) = inl (p.1 xs some s)
      grows xs some (inr (j, here, s)) = inr (
        j,
        more_of widths on (slice_get xs j) here,
        subst (λ (l : List Letter). Satisfies widths f (with_tops l))
            (first_within xs ended tops j (less xs j (within xs j (some_of widths on (slice_get xs j) here)))) s,
      )
