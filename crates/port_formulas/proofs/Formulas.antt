-- A formula over the places is satisfied by the words over the places: each formula that the others stand for.
use Rattle.std.proofs.Common.{inl, inr, ℕ, suc, List, Option, Some, None, sym, subst}
use Rattle.std.specs.Prelude.{◌↔◌, option_map, IfSome, IsSomeAnd}
use Rattle.psl_model.specs.Expr.{Expr}
use Rattle.psl_meaning.specs.Word.{Letter, Word, with_tops, letter_at, first, from, bar}
use Rattle.psl_meaning.specs.Sequence.{CoreSere, Holds, Tight}
use Rattle.psl_meaning.specs.Formula.{CoreFormula, bool, not, and, strong, weak, strong_next, strong_until, abort}
use Rattle.psl_meaning.specs.Formula.{suffix, SomePrefix, Satisfies}
use Rattle.port_formulas.specs.Chosen.{chosen_letter, chosen_word}
use Rattle.port_formulas.proofs.Letters.{ExprSame, holds_to, holds_back, letter_at-over, reaches_to}
use Rattle.port_formulas.proofs.Letters.{reaches_back, bar-over, from-over, first-over}
use Rattle.port_formulas.proofs.Sequences.{SereSame}

module _ (us ws places : List ℕ) where
  -- the second formula says of a word over the places what the first says of the word
  abbrev pub FormulaSame : CoreFormula → CoreFormula → Type 0
  FormulaSame f g = (w : Word) → Satisfies us f w ↔ Satisfies ws g (chosen_word places w)

  -- ---- a letter at a place

  if_to : (e d : Expr) → ExprSame us ws places e d → (o : Option Letter) → IfSome o (Holds us e) →
      IfSome (option_map (chosen_letter places) o) (Holds ws d)
  if_to e d same (Some a) h = holds_to us ws places e d same a h
  if_to e d same None h = tt

  if_back : (e d : Expr) → ExprSame us ws places e d → (o : Option Letter) →
      IfSome (option_map (chosen_letter places) o) (Holds ws d) → IfSome o (Holds us e)
  if_back e d same (Some a) h = holds_back us ws places e d same a h
  if_back e d same None h = tt

  some_to : (e d : Expr) → ExprSame us ws places e d → (o : Option Letter) → IsSomeAnd o (Holds us e) →
      IsSomeAnd (option_map (chosen_letter places) o) (Holds ws d)
  some_to e d same (Some a) h = holds_to us ws places e d same a h
  some_to e d same None h = h

  some_back : (e d : Expr) → ExprSame us ws places e d → (o : Option Letter) →
      IsSomeAnd (option_map (chosen_letter places) o) (Holds ws d) → IsSomeAnd o (Holds us e)
  some_back e d same (Some a) h = holds_back us ws places e d same a h
  some_back e d same None h = h

  pub bool_same : (e d : Expr) → ExprSame us ws places e d → FormulaSame (bool e) (bool d)
  bool_same e d same w = (
    (λ h. subst (λ (o : Option Letter). IfSome o (Holds ws d)) (sym (letter_at-over places w 0))
        (if_to e d same (letter_at w 0) h)),
    (λ h. if_back e d same (letter_at w 0)
        (subst (λ (o : Option Letter). IfSome o (Holds ws d)) (letter_at-over places w 0) h)),
  )

  -- ---- the word's bar, suffixes and prefixes

  bar_to : (g : CoreFormula) (w : Word) → Satisfies ws g (chosen_word places (bar w)) →
      Satisfies ws g (bar (chosen_word places w))
  bar_to g w h = subst (λ (v : Word). Satisfies ws g v) (sym (bar-over places w)) h

  bar_back : (g : CoreFormula) (w : Word) → Satisfies ws g (bar (chosen_word places w)) →
      Satisfies ws g (chosen_word places (bar w))
  bar_back g w h = subst (λ (v : Word). Satisfies ws g v) (bar-over places w) h

  from_to : (f g : CoreFormula) → FormulaSame f g → (k : ℕ) (w : Word) → Satisfies us f (from k w) →
      Satisfies ws g (from k (chosen_word places w))
  from_to f g same k w h = subst (λ (v : Word). Satisfies ws g v) (sym (from-over places k w)) ((same (from k w)).0 h)

  from_back : (f g : CoreFormula) → FormulaSame f g → (k : ℕ) (w : Word) →
      Satisfies ws g (from k (chosen_word places w)) → Satisfies us f (from k w)
  from_back f g same k w h = (same (from k w)).1 (subst (λ (v : Word). Satisfies ws g v) (from-over places k w) h)

  cut_to : (f g : CoreFormula) → FormulaSame f g → (k : ℕ) (w : Word) → Satisfies us f (with_tops (first k w)) →
      Satisfies ws g (with_tops (first k (chosen_word places w)))
  cut_to f g same k w h =
      subst (λ (l : List Letter). Satisfies ws g (with_tops l)) (sym (first-over places k w))
      ((same (with_tops (first k w))).0 h)

  cut_back : (f g : CoreFormula) → FormulaSame f g → (k : ℕ) (w : Word) →
      Satisfies ws g (with_tops (first k (chosen_word places w))) → Satisfies us f (with_tops (first k w))
  cut_back f g same k w h =
      (same (with_tops (first k w))).1
      (subst (λ (l : List Letter). Satisfies ws g (with_tops l)) (first-over places k w) h)

  tight_to : (r s : CoreSere) → SereSame us ws places r s → (k : ℕ) (w : Word) → Tight us r (first k w) →
      Tight ws s (first k (chosen_word places w))
  tight_to r s same k w h =
      subst (λ (l : List Letter). Tight ws s l) (sym (first-over places k w)) ((same (first k w)).0 h)

  tight_back : (r s : CoreSere) → SereSame us ws places r s → (k : ℕ) (w : Word) →
      Tight ws s (first k (chosen_word places w)) → Tight us r (first k w)
  tight_back r s same k w h =
      (same (first k w)).1 (subst (λ (l : List Letter). Tight ws s l) (first-over places k w) h)

  -- ---- formulas

  pub not_same : (f g : CoreFormula) → FormulaSame f g → FormulaSame (not f) (not g)
  not_same f g same w = (
    (λ h t. h ((same (bar w)).1 (bar_back g w t))),
    (λ h t. h (bar_to g w ((same (bar w)).0 t))),
  )

  pub and_same : (f g h k : CoreFormula) → FormulaSame f h → FormulaSame g k → FormulaSame (and f g) (and h k)
  and_same f g h k left right w = (
    (λ t. ((left w).0 t.0, (right w).0 t.1)),
    (λ t. ((left w).1 t.0, (right w).1 t.1)),
  )

  prefix_to : (r s : CoreSere) → SereSame us ws places r s → (w : Word) → SomePrefix us r w →
      SomePrefix ws s (chosen_word places w)
  prefix_to r s same w (n, reached, tight) =
      (n, reaches_to places w n reached, tight_to r s same (suc n) w tight)

  prefix_back : (r s : CoreSere) → SereSame us ws places r s → (w : Word) →
      SomePrefix ws s (chosen_word places w) → SomePrefix us r w
  prefix_back r s same w (n, reached, tight) =
      (n, reaches_back places w n reached, tight_back r s same (suc n) w tight)

  pub strong_same : (r s : CoreSere) → SereSame us ws places r s → FormulaSame (strong r) (strong s)
  strong_same r s same w = (prefix_to r s same w, prefix_back r s same w)

  weak_to : (r s : CoreSere) → SereSame us ws places r s → (w : Word) → Satisfies us (weak r) w →
      Satisfies ws (weak s) (chosen_word places w)
  weak_to r s same w h n reached =
      subst (λ (l : List Letter). SomePrefix ws s (with_tops l)) (sym (first-over places (suc n) w))
      (prefix_to r s same (with_tops (first (suc n) w)) (h n (reaches_back places w n reached)))

  weak_back : (r s : CoreSere) → SereSame us ws places r s → (w : Word) →
      Satisfies ws (weak s) (chosen_word places w) → Satisfies us (weak r) w
  weak_back r s same w h n reached =
      prefix_back r s same (with_tops (first (suc n) w))
      (subst (λ (l : List Letter). SomePrefix ws s (with_tops l)) (first-over places (suc n) w)
      (h n (reaches_to places w n reached)))

  pub weak_same : (r s : CoreSere) → SereSame us ws places r s → FormulaSame (weak r) (weak s)
  weak_same r s same w = (weak_to r s same w, weak_back r s same w)

  pub next_same : (f g : CoreFormula) → FormulaSame f g → FormulaSame (strong_next f) (strong_next g)
  next_same f g same w = (
    (λ h. (reaches_to places w 1 h.0, from_to f g same 1 w h.1)),
    (λ h. (reaches_back places w 1 h.0, from_back f g same 1 w h.1)),
  )

  pub until_same : (f g h k : CoreFormula) → FormulaSame f h → FormulaSame g k →
      FormulaSame (strong_until f g) (strong_until h k)
  until_same f g h k left right w = (
    (λ (n, reached, there, before). (
      n,
      reaches_to places w n reached,
      from_to g k right n w there,
      (λ j earlier. from_to f h left j w (before j earlier)),
    )),
    (λ (n, reached, there, before). (
      n,
      reaches_back places w n reached,
      from_back g k right n w there,
      (λ j earlier. from_back f h left j w (before j earlier)),
    )),
  )

  abort_to : (f g : CoreFormula) (e d : Expr) → FormulaSame f g → ExprSame us ws places e d → (w : Word) →
      Satisfies us (abort f e) w → Satisfies ws (abort g d) (chosen_word places w)
  abort_to f g e d same on w (inl h) = inl ((same w).0 h)
  abort_to f g e d same on w (inr (j, here, h)) =
      inr (
        j,
        subst (λ (o : Option Letter). IsSomeAnd o (Holds ws d)) (sym (letter_at-over places w j))
            (some_to e d on (letter_at w j) here),
        cut_to f g same j w h,
      )

  abort_back : (f g : CoreFormula) (e d : Expr) → FormulaSame f g → ExprSame us ws places e d → (w : Word) →
      Satisfies ws (abort g d) (chosen_word places w) → Satisfies us (abort f e) w
  abort_back f g e d same on w (inl h) = inl ((same w).1 h)
  abort_back f g e d same on w (inr (j, here, h)) =
      inr (
        j,
        some_back e d on (letter_at w j)
            (subst (λ (o : Option Letter). IsSomeAnd o (Holds ws d)) (letter_at-over places w j) here),
        cut_back f g same j w h,
      )

  pub abort_same : (f g : CoreFormula) (e d : Expr) → FormulaSame f g → ExprSame us ws places e d →
      FormulaSame (abort f e) (abort g d)
  abort_same f g e d same on w = (abort_to f g e d same on w, abort_back f g e d same on w)

  ends_to : (r s : CoreSere) → SereSame us ws places r s → (k : ℕ) (w : Word) → Tight us r (first k (bar w)) →
      Tight ws s (first k (bar (chosen_word places w)))
  ends_to r s same k w h =
      subst (λ (v : Word). Tight ws s (first k v)) (sym (bar-over places w)) (tight_to r s same k (bar w) h)

  ends_back : (r s : CoreSere) → SereSame us ws places r s → (k : ℕ) (w : Word) →
      Tight ws s (first k (bar (chosen_word places w))) → Tight us r (first k (bar w))
  ends_back r s same k w h =
      tight_back r s same k (bar w) (subst (λ (v : Word). Tight ws s (first k v)) (bar-over places w) h)

  pub suffix_same : (r s : CoreSere) (f g : CoreFormula) → SereSame us ws places r s → FormulaSame f g →
      FormulaSame (suffix r f) (suffix s g)
  suffix_same r s f g starts same w = (
    (λ h j reached ends. from_to f g same j w
        (h j (reaches_back places w j reached) (ends_back r s starts (suc j) w ends))),
    (λ h j reached ends. from_back f g same j w
        (h j (reaches_to places w j reached) (ends_to r s starts (suc j) w ends))),
  )
