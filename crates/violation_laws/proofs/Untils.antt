-- What satisfies the `until` forms over a list of valuations, where the right side is a Boolean.
use Rattle.std.specs.Prelude.{ℕ, zero, suc, ◌≡◌, ◌≢◌, ◌↔◌, ◌⊎◌, ◌<◌, Bool, true, false, IsTrue, List, [], ◌∷◌, Some}
use Rattle.std.specs.Prelude.{All, length, take, drop}
use Rattle.std.proofs.Common.{refl, arith, inl, inr}
use Rattle.std.proofs.lemmas.Bool.{false≢true}
use Rattle.std.proofs.lemmas.List.Elements.{All-nil, All-cons, All-head, All-tail}
use Rattle.psl_model.specs.Expr.{Expr}
use Rattle.psl_model.specs.Value.{own_value}
use Rattle.psl_meaning.specs.Word.{Valuation, top, Ending, ended, tops, Word, from, letter_at, Reaches}
use Rattle.psl_meaning.specs.Formula.{CoreFormula, bool, strong_until, Satisfies}
use Rattle.psl_meaning.specs.FormulaSugar.{everywhere, until_by}
use Rattle.violation_laws.proofs.Words.{BarOfBar, word, Kept, or_opens, or_closes}

abbrev pub EachPlace : Type 0
EachPlace = (widths : List ℕ) (f : CoreFormula) (w : Word) → Satisfies widths (everywhere f) w
    ↔ ((k : ℕ) → Reaches w k → ((j : ℕ) → j < k → letter_at w j ≢ Some top) → ¬ ¬ Satisfies widths f (from k w))

module _ (bars : BarOfBar) (places : EachPlace) (widths : List ℕ) (f : CoreFormula) (e : Expr) where
  abbrev Zero : Valuation → Type 0
  Zero v = own_value widths v e ≡ 0

  -- ---- one letter on

  abbrev Free : Ending → List Valuation → ℕ → Type 0
  Free end ls k = (j : ℕ) → j < k → letter_at (word ls end) j ≢ Some top

  everywhere_step : (end : Ending) (x : Valuation) (ls : List Valuation) →
      Satisfies widths (everywhere f) (word (x ∷ ls) end)
      ↔ (Kept widths end f (x ∷ ls) × Satisfies widths (everywhere f) (word ls end))
  everywhere_step end x ls = (
    (λ h. let each = (places widths f (word (x ∷ ls) end)).0 h in (
      each 0 refl (λ j below. absurd (omega (arith, below))),
      (places widths f (word ls end)).1 (λ k reached clean. each (suc k) reached (later k clean)),
    )),
    (λ p. (places widths f (word (x ∷ ls) end)).1 (each p.0 ((places widths f (word ls end)).0 p.1))),
  )
    where
      later : (k : ℕ) → Free end ls k → Free end (x ∷ ls) (suc k)
      later k clean zero below is = absurd (cc (is))
      later k clean (suc j) below is = clean j (omega arith) is

      each : Kept widths end f (x ∷ ls) →
          ((k : ℕ) → Reaches (word ls end) k → Free end ls k → ¬ ¬ Satisfies widths f (from k (word ls end))) →
          (k : ℕ) → Reaches (word (x ∷ ls) end) k → Free end (x ∷ ls) k →
          ¬ ¬ Satisfies widths f (from k (word (x ∷ ls) end))
      each now rest zero reached clean = now
      each now rest (suc k) reached clean = rest k reached (λ j below. clean (suc j) (omega arith))

  abbrev Strong : Ending → List Valuation → Type 0
  Strong end ls = Satisfies widths (strong_until f (bool e)) (word ls end)

  strong_opens : (end : Ending) (x : Valuation) (ls : List Valuation) → Zero x → Strong end (x ∷ ls) →
      Satisfies widths f (word (x ∷ ls) end) × Strong end ls
  strong_opens end x ls off h = split h.0 h.1 h.2 h.3
    where
      split : (k : ℕ) → Reaches (word (x ∷ ls) end) k → Satisfies widths (bool e) (from k (word (x ∷ ls) end)) →
          ((j : ℕ) → j < k → Satisfies widths f (from j (word (x ∷ ls) end))) →
          Satisfies widths f (word (x ∷ ls) end) × Strong end ls
      split zero reached stop before = absurd (stop off)
      split (suc k) reached stop before =
          (before 0 (omega arith), (k, reached, stop, λ j below. before (suc j) (omega arith)))

  strong_closes : (end : Ending) (x : Valuation) (ls : List Valuation) → Satisfies widths f (word (x ∷ ls) end) →
      Strong end ls → Strong end (x ∷ ls)
  strong_closes end x ls now h = (suc h.0, h.1, h.2, before)
    where
      before : (j : ℕ) → j < suc h.0 → Satisfies widths f (from j (word (x ∷ ls) end))
      before zero below = now
      before (suc j) below = h.3 j (omega arith)

  abbrev Until : Bool → Ending → List Valuation → Type 0
  Until s end ls = Satisfies widths (until_by s f (bool e)) (word ls end)

  of_strong : (s : Bool) (end : Ending) (ls : List Valuation) → Strong end ls → Until s end ls
  of_strong true end ls h = h
  of_strong false end ls h =
      or_closes bars widths (strong_until f (bool e)) (everywhere f) (word ls end) (λ none. none.0 h)

  of_everywhere : (end : Ending) (ls : List Valuation) → Satisfies widths (everywhere f) (word ls end) →
      Until false end ls
  of_everywhere end ls h =
      or_closes bars widths (strong_until f (bool e)) (everywhere f) (word ls end) (λ none. none.1 h)

  -- one of the two ways in which the weak form holds
  weak_cases : (end : Ending) (ls : List Valuation) → Until false end ls → (P : Type 0) → (Strong end ls → ¬ P) →
      (Satisfies widths (everywhere f) (word ls end) → ¬ P) → ¬ P
  weak_cases end ls h P strong all p =
      or_opens bars widths (strong_until f (bool e)) (everywhere f) (word ls end) h
      ((λ t. strong t p), (λ t. all t p))

  -- where the stop isn't there yet, the body is kept and so is the rest
  step : (s : Bool) (end : Ending) (x : Valuation) (ls : List Valuation) → Zero x →
      (¬ ¬ Until s end (x ∷ ls)) ↔ (Kept widths end f (x ∷ ls) × (¬ ¬ Until s end ls))
  step true end x ls off = (
    (λ h. (
      (λ r. h (λ t. r (strong_opens end x ls off t).0)),
      (λ r. h (λ t. r (strong_opens end x ls off t).1)),
    )),
    (λ p r. p.0 (λ a. p.1 (λ b. r (strong_closes end x ls a b)))),
  )
  step false end x ls off = (
    (λ h. (
      (λ r. h (λ u. weak_cases end (x ∷ ls) u (¬ Satisfies widths f (word (x ∷ ls) end))
          (λ t q. q (strong_opens end x ls off t).0)
          (λ t q. ((everywhere_step end x ls).0 t).0 q) r)),
      (λ r. h (λ u. weak_cases end (x ∷ ls) u (¬ Until false end ls)
          (λ t q. q (of_strong false end ls (strong_opens end x ls off t).1))
          (λ t q. q (of_everywhere end ls ((everywhere_step end x ls).0 t).1)) r)),
    )),
    (λ p r. p.1 (λ u. weak_cases end ls u (¬ Until false end (x ∷ ls))
        (λ t q. p.0 (λ a. q (of_strong false end (x ∷ ls) (strong_closes end x ls a t))))
        (λ t q. q (of_everywhere end (x ∷ ls) ((everywhere_step end x ls).1 (p.0, t)))) r)),
  )

  -- where it is, nothing is asked
  stopped : (s : Bool) (end : Ending) (ls : List Valuation) → Reaches (word ls end) 0 →
      Satisfies widths (bool e) (word ls end) → Until s end ls
  stopped s end ls reached stop =
      of_strong s end ls (0, reached, stop, λ j below. absurd (omega (arith, below)))

  -- ---- the whole list

  -- the body is kept from each place on up to which there is no stop
  abbrev pub UpToStop : Ending → List Valuation → Type 0
  UpToStop end ls = (k : ℕ) → k < length ls → All Zero (take (suc k) ls) → Kept widths end f (drop k ls)

  up_to_now : (end : Ending) (x : Valuation) (ls : List Valuation) → ¬ Zero x → UpToStop end (x ∷ ls)
  up_to_now end x ls on k within all = absurd (on (All-head Zero x (take k ls) all))

  up_to_opens : (end : Ending) (x : Valuation) (ls : List Valuation) → Zero x → UpToStop end (x ∷ ls) →
      Kept widths end f (x ∷ ls) × UpToStop end ls
  up_to_opens end x ls off h =
      let counted : length (x ∷ ls) ≡ suc (length ls) = refl in (
        h 0 (omega arith) (All-cons Zero x [] off (All-nil Zero)),
        (λ k within all. h (suc k) (omega arith) (All-cons Zero x (take (suc k) ls) off all)),
      )

  up_to_closes : (end : Ending) (x : Valuation) (ls : List Valuation) → Kept widths end f (x ∷ ls) →
      UpToStop end ls → UpToStop end (x ∷ ls)
  up_to_closes end x ls now rest zero within all = now
  up_to_closes end x ls now rest (suc k) within all =
      let counted : length (x ∷ ls) ≡ suc (length ls) = refl in
      rest k (omega arith) (All-tail Zero x (take (suc k) ls) all)

  -- a list that lacks the stop, where that is asked for
  abbrev pub Whole : (Asked : Type 0) → Ending → List Valuation → Type 0
  Whole Asked end ls = UpToStop end ls × (Asked → ¬ All Zero ls)

  zero_or : (x : ℕ) → (x ≡ 0) ⊎ (x ≢ 0)
  zero_or zero = inl refl
  zero_or (suc x) = inr (λ e. absurd (omega (arith, e)))

  module _ (s : Bool) (end : Ending) (Asked : Type 0)
      (none : (¬ ¬ Until s end []) ↔ Whole Asked end []) where
    whole_step : (x : Valuation) (ls : List Valuation) → (¬ ¬ Until s end ls) ↔ Whole Asked end ls →
        (own_value widths x e ≡ 0) ⊎ (own_value widths x e ≢ 0) →
        (¬ ¬ Until s end (x ∷ ls)) ↔ Whole Asked end (x ∷ ls)
    whole_step x ls rest (inr on) = (
      (λ h. (up_to_now end x ls on, λ asked all. on (All-head Zero x ls all))),
      (λ p r. r (stopped s end (x ∷ ls) refl on)),
    )
    whole_step x ls rest (inl off) = (
      (λ h.
          let p = (step s end x ls off).0 h in
          let q = rest.0 p.1 in
          (up_to_closes end x ls p.0 q.0, λ asked all. q.1 asked (All-tail Zero x ls all))),
      (λ p.
          let q = up_to_opens end x ls off p.0 in
          (step s end x ls off).1
          (q.0, rest.1 (q.1, λ asked all. p.1 asked (All-cons Zero x ls off all)))),
    )

    pub whole : (ls : List Valuation) → (¬ ¬ Until s end ls) ↔ Whole Asked end ls
    whole [] = none
    whole (x ∷ ls) = whole_step x ls (whole ls) (zero_or (own_value widths x e))

  -- ---- the two ends

  none_up_to : (end : Ending) → UpToStop end []
  none_up_to end k within all = absurd (omega (arith, within))

  pub so_far : (s : Bool) (ls : List Valuation) → (¬ ¬ Until s tops ls) ↔ UpToStop tops ls
  so_far s ls =
      let w = whole s tops ⊥
      ((λ h. (none_up_to tops, λ asked. absurd asked)), (λ p r. r (stopped s tops [] refl tt))) ls in
      ((λ h. (w.0 h).0), (λ h. w.1 (h, λ asked. absurd asked)))

  none_ended : (s : Bool) → (¬ ¬ Until s ended []) ↔ Whole (IsTrue s) ended []
  none_ended true = (
    (λ h. absurd (h (λ t. false≢true t.1))),
    (λ p. absurd (p.1 refl (All-nil Zero))),
  )
  none_ended false = (
    (λ h. (none_up_to ended, λ t. absurd (false≢true t))),
    (λ p r. r (of_everywhere ended [] ((places widths f (word [] ended)).1
        (λ k reached. absurd (false≢true reached))))),
  )

  pub at_the_end : (s : Bool) (ls : List Valuation) → (¬ ¬ Until s ended ls) ↔ Whole (IsTrue s) ended ls
  at_the_end s ls = whole s ended (IsTrue s) (none_ended s) ls
