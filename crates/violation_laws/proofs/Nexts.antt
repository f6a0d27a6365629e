-- What satisfies the `next` forms over a list of valuations.
use Rattle.std.specs.Prelude.{ℕ, zero, suc, ◌≡◌, ◌≢◌, ◌↔◌, ◌<◌, ◌≤◌, ◌+◌, ◌-◌, Bool, true, false, IsTrue}
use Rattle.std.specs.Prelude.{List, [], ◌∷◌, length, drop}
use Rattle.std.proofs.Common.{refl, sym, subst, arith, inl, inr}
use Rattle.std.proofs.lemmas.Bool.{cases_lt, false≢true}
use Rattle.psl_meaning.specs.Word.{Valuation, Ending, ended, tops, Word}
use Rattle.psl_meaning.specs.Formula.{CoreFormula, Satisfies}
use Rattle.psl_meaning.specs.FormulaSugar.{next_by, next_times, conjunction}
use Rattle.violation_laws.proofs.Words.{BarOfBar, word, Kept, into_bars, out_of_bars}

abbrev nothing : List Valuation
nothing = []

drop_none : (k : ℕ) → drop k nothing ≡ nothing
drop_none zero = refl
drop_none (suc k) = refl

module _ (bars : BarOfBar) (widths : List ℕ) where
  -- ---- one letter on

  step : (s : Bool) (f : CoreFormula) (e : Ending) (x y : Valuation) (ls : List Valuation) →
      Kept widths e (next_by s f) (x ∷ y ∷ ls) ↔ Kept widths e f (y ∷ ls)
  step true f e x y ls = ((λ h r. h (λ t. r t.1)), (λ h r. h (λ t. r (refl, t))))
  step false f e x y ls = (
    (λ h r. h (λ s. s (refl, λ t. r (out_of_bars bars widths f (word (y ∷ ls) e) t)))),
    (λ h r. r (λ p. h (λ t. p.1 (into_bars bars widths f (word (y ∷ ls) e) t)))),
  )

  step_tops : (s : Bool) (f : CoreFormula) (ls : List Valuation) →
      Kept widths tops (next_by s f) ls ↔ Kept widths tops f (drop 1 ls)
  step_tops true f [] = ((λ h r. h (λ t. r t.1)), (λ h r. h (λ t. r (refl, t))))
  step_tops true f (x ∷ []) = ((λ h r. h (λ t. r t.1)), (λ h r. h (λ t. r (refl, t))))
  step_tops false f [] = (
    (λ h r. h (λ s. s (refl, λ t. r (out_of_bars bars widths f (word [] tops) t)))),
    (λ h r. r (λ p. h (λ t. p.1 (into_bars bars widths f (word [] tops) t)))),
  )
  step_tops false f (x ∷ []) = (
    (λ h r. h (λ s. s (refl, λ t. r (out_of_bars bars widths f (word [] tops) t)))),
    (λ h r. r (λ p. h (λ t. p.1 (into_bars bars widths f (word [] tops) t)))),
  )
  step_tops s f (x ∷ y ∷ ls) = step s f tops x y ls

  -- ---- some letters on, in a list that goes on with tops

  pub next_tops : (s : Bool) (k : ℕ) (f : CoreFormula) (ls : List Valuation) →
      Kept widths tops (next_times s k f) ls ↔ Kept widths tops f (drop k ls)
  next_tops s zero f ls = ((λ h. h), (λ h. h))
  next_tops s (suc k) f [] =
      let one = step_tops s (next_times s k f) [] in
      let rest = next_tops s k f [] in
      let P : List Valuation → Type 0 = λ ls. Kept widths tops f ls in (
        (λ h. subst P (drop_none k) (rest.0 (one.0 h))),
        (λ h. one.1 (rest.1 (subst P (sym (drop_none k)) h))),
      )
  next_tops s (suc k) f (x ∷ ls) =
      let one = step_tops s (next_times s k f) (x ∷ ls) in
      let rest = next_tops s k f ls in
      ((λ h. rest.0 (one.0 h)), (λ h. one.1 (rest.1 h)))

  -- ---- and in one that ends

  -- the strong form asks for the place
  abbrev pub KeptIfThere : (s : Bool) (k : ℕ) → CoreFormula → List Valuation → Type 0
  KeptIfThere s k f ls = (IsTrue s → k < length ls) × (k < length ls → Kept widths ended f (drop k ls))

  last_letter : (s : Bool) (k : ℕ) (f g : CoreFormula) (x : Valuation) →
      Kept widths ended (next_by s g) (x ∷ []) ↔ KeptIfThere s (suc k) f (x ∷ [])
  last_letter true k f g x = (
    (λ h. absurd (h (λ t. false≢true t.0))),
    (λ p. let past : suc k < 1 = p.0 refl in absurd (omega arith)),
  )
  last_letter false k f g x = (
    (λ h. ((λ t. absurd (false≢true t)), (λ (below : suc k < 1). absurd (omega arith)))),
    (λ p r. r (λ q. false≢true q.0)),
  )

  pub next_ended : (s : Bool) (k : ℕ) (f : CoreFormula) (x : Valuation) (ls : List Valuation) →
      Kept widths ended (next_times s k f) (x ∷ ls) ↔ KeptIfThere s k f (x ∷ ls)
  next_ended s zero f x ls = (
    (λ h. ((λ t. there), (λ below. h))),
    (λ p. p.1 there),
  )
    where
      there : 0 < length (x ∷ ls)
      there = let counted : length (x ∷ ls) ≡ suc (length ls) = refl in omega arith
  next_ended s (suc k) f x [] = last_letter s k f (next_times s k f) x
  next_ended s (suc k) f x (y ∷ ls) =
      let one = step s (next_times s k f) ended x y ls in
      let rest = next_ended s k f y ls in
      let counted : length (x ∷ y ∷ ls) ≡ suc (length (y ∷ ls)) = refl in (
        (λ h.
            let p = rest.0 (one.0 h) in
            ((λ t. let below = p.0 t in omega arith), (λ below. p.1 (omega arith)))),
        (λ p. one.1 (rest.1 ((λ t. let below = p.0 t in omega arith), (λ below. p.1 (omega arith))))),
      )

  -- ---- all of several

  of_conjunction : (g : ℕ → CoreFormula) (low more : ℕ) (w : Word) → Satisfies widths (conjunction g low more) w →
      (k : ℕ) → low ≤ k → k ≤ low + more → Satisfies widths (g k) w
  of_conjunction g low zero w h k from to =
      let e : low ≡ k = omega arith in
      subst (λ (j : ℕ). Satisfies widths (g j) w) e h
  of_conjunction g low (suc more) w h k from to = elim (cases_lt k (low + suc more)) [
    | inl early ↦ of_conjunction g low more w h.0 k from (omega (arith, early))
    | inr last ↦ (let e : low + suc more ≡ k = omega (arith, last) in
        subst (λ (j : ℕ). Satisfies widths (g j) w) e h.1)
  ]

  to_conjunction : (g : ℕ → CoreFormula) (low more : ℕ) (w : Word) →
      ((k : ℕ) → low ≤ k → k ≤ low + more → ¬ ¬ Satisfies widths (g k) w) →
      ¬ ¬ Satisfies widths (conjunction g low more) w
  to_conjunction g low zero w each = each low (omega arith) (omega arith)
  to_conjunction g low (suc more) w each = λ r.
      to_conjunction g low more w (λ k from to. each k from (omega (arith, to)))
      (λ a. each (low + suc more) (omega arith) (omega arith) (λ b. r (a, b)))

  pub conjunction_kept : (g : ℕ → CoreFormula) (low high : ℕ) (w : Word) → low ≤ high →
      (¬ ¬ Satisfies widths (conjunction g low (high - low)) w)
      ↔ ((k : ℕ) → low ≤ k → k ≤ high → ¬ ¬ Satisfies widths (g k) w)
  conjunction_kept g low high w ordered = (
    (λ h k from to r. h (λ all. r (of_conjunction g low (high - low) w all k from (omega (arith, to))))),
    (λ each. to_conjunction g low (high - low) w (λ k from to. each k from (omega (arith, to)))),
  )

  -- ---- the forms

  pub all_tops : (s : Bool) (low high : ℕ) (f : CoreFormula) (ls : List Valuation) → low ≤ high →
      Kept widths tops (conjunction (λ k. next_times s k f) low (high - low)) ls
      ↔ ((k : ℕ) → low ≤ k → k ≤ high → Kept widths tops f (drop k ls))
  all_tops s low high f ls ordered =
      let each = conjunction_kept (λ k. next_times s k f) low high (word ls tops) ordered in (
        (λ h k from to. (next_tops s k f ls).0 (each.0 h k from to)),
        (λ h. each.1 (λ k from to. (next_tops s k f ls).1 (h k from to))),
      )

  abbrev pub EachIfThere : (s : Bool) (low high : ℕ) → CoreFormula → List Valuation → Type 0
  EachIfThere s low high f ls = (IsTrue s → high < length ls)
      × ((k : ℕ) → low ≤ k → k ≤ high → k < length ls → Kept widths ended f (drop k ls))

  pub one_ended : (s : Bool) (k : ℕ) (f : CoreFormula) (ls : List Valuation) → ls ≢ [] →
      Kept widths ended (next_times s k f) ls ↔ KeptIfThere s k f ls
  one_ended s k f [] some = absurd (some refl)
  one_ended s k f (x ∷ ls) some = next_ended s k f x ls

  pub all_ended : (s : Bool) (low high : ℕ) (f : CoreFormula) (ls : List Valuation) → low ≤ high → ls ≢ [] →
      Kept widths ended (conjunction (λ k. next_times s k f) low (high - low)) ls ↔ EachIfThere s low high f ls
  all_ended s low high f ls ordered some =
      let each = conjunction_kept (λ k. next_times s k f) low high (word ls ended) ordered in (
        (λ h. (
          ((one_ended s high f ls some).0 (each.0 h high ordered (omega arith))).0,
          (λ k from to. ((one_ended s k f ls some).0 (each.0 h k from to)).1),
        )),
        (λ p. each.1 (λ k from to. (one_ended s k f ls some).1
            ((λ t. let below = p.0 t in omega (arith, to)), p.1 k from to))),
      )
