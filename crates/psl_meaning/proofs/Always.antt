-- What `everywhere` says of each place, and what `always` of a Boolean says of a trace.
use Rattle.std.proofs.Common.{◌≡◌, ◌⊎◌, inl, inr, ℕ, ◌<◌, ◌≤◌, ◌≢◌, List, Option, Some, None, Bool, true, false, refl}
use Rattle.std.proofs.Common.{sym, ap, ◌∙◌, subst, map, drop, length, arith, eqb, get_or}
use Rattle.std.specs.Prelude.{slice_get, option_map, is_some, IsSome, IfSome, Any}
use Rattle.std.specs.List.{list_any}
use Rattle.std.proofs.lemmas.List.Folds.{Any-from_list_any, list_any-from_Any}
use Rattle.std.proofs.lemmas.Option.{slice_get-map, slice_get_within, get_or_from_slice_get, slice_get-get_or}
use Rattle.std.proofs.lemmas.Option.{slice_get_read, slice_get_past, slice_get_cases}
use Rattle.std.proofs.lemmas.List.{drop-map}
use Rattle.std.proofs.lemmas.Bool.{false≢true, cases_lt}
use Rattle.std.proofs.lemmas.Bool.Decides.{nat_tests}
use Rattle.psl_model.specs.Expr.{Expr}
use Rattle.psl_meaning.specs.Word.{Valuation, Letter, valuation, top, bottom, Ending, ended, tops, with_tops, Word}
use Rattle.psl_meaning.specs.Word.{bar_letter, bar, from, letter_at, option_or, after_end, Reaches}
use Rattle.psl_model.specs.Value.{own_value}
use Rattle.psl_meaning.specs.Sequence.{Holds}
use Rattle.psl_meaning.specs.SequenceSugar.{always_true}
use Rattle.psl_meaning.specs.Formula.{CoreFormula, bool, Satisfies}
use Rattle.psl_meaning.specs.FormulaSugar.{everywhere}
use Rattle.psl_meaning.proofs.Words.{bar-from-bar, letter_at-from, letter_at-bar, reaches-from_bar, reaches-to_bar}

-- `true` holds of the bar of each letter but top
true_of_bar : (widths : List ℕ) (o : Option Letter) → o ≢ Some top →
    IfSome (option_map bar_letter o) (Holds widths always_true)
true_of_bar widths None h = tt
true_of_bar widths (Some (valuation values)) h = λ e. absurd (omega arith)
true_of_bar widths (Some top) h = absurd (h refl)
true_of_bar widths (Some bottom) h = tt

no_top : (widths : List ℕ) (o : Option Letter) → IfSome (option_map bar_letter o) (Holds widths always_true) →
    o ≢ Some top
no_top widths o h e = subst (λ (p : Option Letter). IfSome (option_map bar_letter p) (Holds widths always_true)) e h

-- the letter that the bar of w has at place j
bar_letter_at : (w : Word) (j : ℕ) → letter_at (from j (bar w)) 0 ≡ option_map bar_letter (letter_at w j)
bar_letter_at w j = letter_at-from j (bar w) ∙ letter_at-bar w j

pub everywhere_places : (widths : List ℕ) (f : CoreFormula) (w : Word) → Satisfies widths (everywhere f) w → (k : ℕ) →
    Reaches w k → ((j : ℕ) → j < k → letter_at w j ≢ Some top) → ¬ ¬ Satisfies widths f (from k w)
everywhere_places widths f w all k reached no_tops refuted =
    all (
      k,
      reaches-to_bar w k reached,
      (λ s. refuted (subst (λ (v : Word). Satisfies widths f v) (bar-from-bar k w) s)),
      λ j below. subst (λ (o : Option Letter). IfSome o (Holds widths always_true)) (sym (bar_letter_at w j))
          (true_of_bar widths (letter_at w j) (no_tops j below)),
    )

pub places_everywhere : (widths : List ℕ) (f : CoreFormula) (w : Word) →
    ((k : ℕ) → Reaches w k → ((j : ℕ) → j < k → letter_at w j ≢ Some top) → ¬ ¬ Satisfies widths f (from k w)) →
    Satisfies widths (everywhere f) w
places_everywhere widths f w each some =
    each some.0 (reaches-from_bar w some.0 some.1)
    (λ j below. no_top widths (letter_at w j)
    (subst (λ (o : Option Letter). IfSome o (Holds widths always_true)) (bar_letter_at w j) (some.3 j below)))
    (λ s. some.2 (subst (λ (v : Word). Satisfies widths f v) (sym (bar-from-bar some.0 w)) s))

-- a list of valuations, and what a word goes on with
abbrev run : List Valuation → Ending → Word
run trace ending = record { letters = map valuation trace; ending = ending }

-- the test for a value of 0
pub is_zero : (widths : List ℕ) (e : Expr) → Valuation → Bool
is_zero widths e v = eqb (own_value widths v e) 0

pub none_by_test : (widths : List ℕ) (e : Expr) (trace : List Valuation) → list_any (is_zero widths e) trace ≡ false →
    (k : ℕ) (v : Valuation) → slice_get trace k ≡ Some v → own_value widths v e ≢ 0
unfolding is_zero
none_by_test widths e trace missing k v at_k is0 =
    let passes : is_zero widths e v ≡ true = grind (arith, nat_tests, is0) in
    let found = list_any-from_Any (is_zero widths e) trace
    (k, v, slice_get_within trace k v at_k, get_or_from_slice_get trace k v v at_k, passes) in
    absurd (cc (found, missing))

-- e has the value 0 at some place, or at none
zero_or_none : (widths : List ℕ) (e : Expr) (trace : List Valuation) →
    Any (λ (v : Valuation). own_value widths v e ≡ 0) trace ⊎
    ((k : ℕ) (v : Valuation) → slice_get trace k ≡ Some v → own_value widths v e ≢ 0)
unfolding is_zero
zero_or_none widths e trace = tested (list_any (is_zero widths e) trace) refl
  where
    tested : (b : Bool) → list_any (is_zero widths e) trace ≡ b →
        Any (λ (v : Valuation). own_value widths v e ≡ 0) trace ⊎
        ((k : ℕ) (v : Valuation) → slice_get trace k ≡ Some v → own_value widths v e ≢ 0)
    tested true found =
        let some : Any (λ (v : Valuation). is_zero widths e v ≡ true) trace =
        Any-from_list_any (is_zero widths e) trace found in
        let zero_there : own_value widths some.1 e ≡ 0 = grind (arith, nat_tests, some.4) in
        inl (some.0, some.1, some.2, some.3, zero_there)
    tested false missing = inr (none_by_test widths e trace missing)

holds_of_letter : (widths : List ℕ) (e : Expr) (o : Option Valuation) (rest : Option Letter) →
    ((v : Valuation) → o ≡ Some v → own_value widths v e ≢ 0) → IfSome rest (Holds widths e) →
    IfSome (option_or (option_map valuation o) rest) (Holds widths e)
holds_of_letter widths e None rest each later = later
holds_of_letter widths e (Some v) rest each later = each v refl

-- with no 0 in the trace, and none after it, e holds everywhere
pub holds_everywhere : (widths : List ℕ) (e : Expr) (trace : List Valuation) (ending : Ending) →
    IfSome (after_end ending) (Holds widths e) →
    ((k : ℕ) (v : Valuation) → slice_get trace k ≡ Some v → own_value widths v e ≢ 0) →
    Satisfies widths (everywhere (bool e)) (run trace ending)
holds_everywhere widths e trace ending later each =
    let w = run trace ending in
    places_everywhere widths (bool e) w
    (λ k reached no_tops refuted. refuted
    (rw (letter_at-from k w, slice_get-map valuation trace k)
    (holds_of_letter widths e (slice_get trace k) (after_end ending) (λ v at_k. each k v at_k) later)))

-- the letter at a place of the trace
pub letter_of_run : (trace : List Valuation) (ending : Ending) (k : ℕ) (v : Valuation) → slice_get trace k ≡ Some v →
    letter_at (run trace ending) k ≡ Some (valuation v)
letter_of_run trace ending k v at_k = rw (slice_get-map valuation trace k, at_k) refl

-- past the trace it is what the word goes on with
past_run : (trace : List Valuation) (ending : Ending) (k : ℕ) → length trace ≤ k →
    letter_at (run trace ending) k ≡ after_end ending
past_run trace ending k past = rw (slice_get-map valuation trace k, slice_get_past trace k past) refl

pub letter_past_run : (trace : List Valuation) (k : ℕ) → length trace ≤ k → letter_at (run trace tops) k ≡ Some top
letter_past_run trace k past = past_run trace tops k past

pub within_ended : (trace : List Valuation) (k : ℕ) → Reaches (run trace ended) k → k < length trace
within_ended trace k reached = split (slice_get_cases trace k).1
  where
    split : ((v : Valuation) × (k < length trace) × (slice_get trace k ≡ Some v) × (get_or trace k v ≡ v)) ⊎
        ((length trace ≤ k) × (slice_get trace k ≡ None)) → k < length trace
    split (inl some) = some.1
    split (inr none) =
        let nothing = past_run trace ended k none.0 in
        absurd (false≢true (sym (ap (λ (o : Option Letter). is_some o) nothing) ∙ reached))

pub reached_ended : (trace : List Valuation) (k : ℕ) → k < length trace → Reaches (run trace ended) k
reached_ended trace k within = split (slice_get_cases trace k).1
  where
    split : ((v : Valuation) × (k < length trace) × (slice_get trace k ≡ Some v) × (get_or trace k v ≡ v)) ⊎
        ((length trace ≤ k) × (slice_get trace k ≡ None)) → Reaches (run trace ended) k
    split (inl some) = rw (letter_of_run trace ended k some.0 some.2) refl
    split (inr none) = absurd (omega (arith, none.0))

reached_or : (o : Option Letter) → IsSome (option_or o (Some top))
reached_or None = refl
reached_or (Some x) = refl

pub reached_tops : (letters : List Letter) (k : ℕ) → Reaches (with_tops letters) k
reached_tops letters k = reached_or (slice_get letters k)

-- with a 0 in the trace e does not hold everywhere
pub refuted_by_zero : (widths : List ℕ) (e : Expr) (trace : List Valuation) (ending : Ending) →
    Any (λ (v : Valuation). own_value widths v e ≡ 0) trace →
    ¬ Satisfies widths (everywhere (bool e)) (run trace ending)
refuted_by_zero widths e trace ending some all =
    let w = run trace ending in
    let k = some.0 in
    let v = some.1 in
    let here : letter_at w k ≡ Some (valuation v) =
    letter_of_run trace ending k v (slice_get_read trace (length trace) k v refl some.2 (sym some.3)) in
    everywhere_places widths (bool e) w all k (rw here refl)
    (λ j below. λ is_top.
    let there = letter_of_run trace ending j (get_or trace j v) (slice_get-get_or trace j v (omega (arith, some.2))) in
    absurd (cc (there, is_top)))
    (λ (holds : IfSome (letter_at (from k w) 0) (Holds widths e)).
    let e0 : letter_at (from k w) 0 ≡ Some (valuation v) = letter_at-from k w ∙ here in
    subst (λ (o : Option Letter). IfSome o (Holds widths e)) e0 holds some.4)

-- where e holds after the trace, it is refuted exactly by a 0 in the trace
pub refuted_exactly : (widths : List ℕ) (e : Expr) (trace : List Valuation) (ending : Ending) →
    IfSome (after_end ending) (Holds widths e) → ¬ Satisfies widths (everywhere (bool e)) (run trace ending) →
    Any (λ (v : Valuation). own_value widths v e ≡ 0) trace
refuted_exactly widths e trace ending later refuted = decided (zero_or_none widths e trace)
  where
    decided : Any (λ (v : Valuation). own_value widths v e ≡ 0) trace ⊎
        ((k : ℕ) (v : Valuation) → slice_get trace k ≡ Some v → own_value widths v e ≢ 0) →
        Any (λ (v : Valuation). own_value widths v e ≡ 0) trace
    decided (inl some) = some
    decided (inr none) = absurd (refuted (holds_everywhere widths e trace ending later none))

-- the same, where the test for a 0 computes
pub holds_by_test : (widths : List ℕ) (e : Expr) (trace : List Valuation) →
    list_any (λ v. eqb (own_value widths v e) 0) trace ≡ false → Satisfies widths (everywhere (bool e)) (run trace tops)
unfolding is_zero
holds_by_test widths e trace missing = holds_everywhere widths e trace tops tt (none_by_test widths e trace missing)

-- each place of a list of valuations has no top
no_top_in_run : (trace : List Valuation) (ending : Ending) (k : ℕ) → k ≤ length trace → (j : ℕ) → j < k →
    letter_at (run trace ending) j ≢ Some top
no_top_in_run trace ending k within j below is_top =
    let there = slice_get_cases trace j in
    elim there.1 [
      | inl some ↦ absurd (cc (letter_of_run trace ending j some.0 some.2, is_top))
      | inr none ↦ absurd
          (omega (arith, none.0))
    ]

from_run : (trace : List Valuation) (ending : Ending) (k : ℕ) → from k (run trace ending) ≡ run (drop k trace) ending
from_run trace ending k = rw (drop-map valuation k trace) refl

-- `everywhere` over a list of valuations, from each place that `inside` allows
pub run_places : (widths : List ℕ) (f : CoreFormula) (trace : List Valuation) (ending : Ending) →
    Satisfies widths (everywhere f) (run trace ending) → (k : ℕ) → k ≤ length trace → Reaches (run trace ending) k →
    ¬ ¬ Satisfies widths f (run (drop k trace) ending)
run_places widths f trace ending all k within reached refuted =
    everywhere_places widths f (run trace ending) all k reached (no_top_in_run trace ending k within)
    (λ s. refuted (subst (λ (w : Word). Satisfies widths f w) (from_run trace ending k) s))

-- past a list of valuations and a first top there is nothing to show
pub places_run_tops : (widths : List ℕ) (f : CoreFormula) (trace : List Valuation) →
    ((k : ℕ) → k ≤ length trace → ¬ ¬ Satisfies widths f (run (drop k trace) tops)) →
    Satisfies widths (everywhere f) (run trace tops)
places_run_tops widths f trace each =
    places_everywhere widths f (run trace tops)
    (λ k reached no_tops refuted. split k no_tops refuted (cases_lt (length trace) k))
  where
    split : (k : ℕ) → ((j : ℕ) → j < k → letter_at (run trace tops) j ≢ Some top) →
        ¬ Satisfies widths f (from k (run trace tops)) → (length trace < k) ⊎ (k ≤ length trace) → ⊥
    split k no_tops refuted (inr within) =
        each k within (λ s. refuted (subst (λ (w : Word). Satisfies widths f w) (sym (from_run trace tops k)) s))
    split k no_tops refuted (inl past) =
        no_tops (length trace) past (letter_past_run trace (length trace) (omega arith))

pub places_run_ended : (widths : List ℕ) (f : CoreFormula) (trace : List Valuation) →
    ((k : ℕ) → k < length trace → ¬ ¬ Satisfies widths f (run (drop k trace) ended)) →
    Satisfies widths (everywhere f) (run trace ended)
places_run_ended widths f trace each =
    places_everywhere widths f (run trace ended)
    (λ k reached no_tops refuted. each k (within_ended trace k reached)
    (λ s. refuted (subst (λ (w : Word). Satisfies widths f w) (sym (from_run trace ended k)) s)))
