-- A formula over the places is satisfied by the words over the places: each formula, by what it stands for.
use Rattle.std.proofs.Common.{◌≡◌, ℕ, zero, suc, ◌+◌, ◌-◌, Bool, true, false, List, [], ◌∷◌, map, refl, sym, ap, subst}
use Rattle.std.specs.Prelude.{◌↔◌, Contains}
use Rattle.psl_model.specs.Expr.{Expr}
use Rattle.psl_model.specs.Sere as sere
use Rattle.psl_model.specs.Formula as formula
use Rattle.psl_model.specs.Formula.{Formula}
use Rattle.psl_model.specs.Uses.{expr_uses, sere_uses, formula_uses}
use Rattle.psl_model.specs.declared.formulas.Reach.{Reach}
use Rattle.psl_model.specs.declared.formulas.Reach.TheVariants as reach
use Rattle.psl_meaning.specs.Word.{Letter, Word, Ending, valuation}
use Rattle.psl_meaning.specs.Sequence as sequence
use Rattle.psl_meaning.specs.Sequence.{CoreSere}
use Rattle.psl_meaning.specs.SequenceSugar.{always_true, core_of}
use Rattle.psl_meaning.specs.Formula.{CoreFormula, bool, not, and, strong, strong_next, strong_until}
use Rattle.psl_meaning.specs.Formula.{Satisfies}
use Rattle.psl_meaning.specs.FormulaSugar.{or, implies, somewhere, everywhere, next_by, until_by}
use Rattle.psl_meaning.specs.FormulaSugar.{sequence_by, next_times, next_event, event_times, conjunction, disjunction}
use Rattle.psl_meaning.specs.FormulaSugar.{over_reach, core_formula_of}
use Rattle.port_formulas.specs.Chosen.{chosen, UsesOnly}
use Rattle.port_formulas.specs.Over.{over_expr, over_sere, over}
use Rattle.port_formulas.proofs.Parts.{left_each, right_each}
use Rattle.port_formulas.proofs.Letters.{ExprSame, over_list}
use Rattle.port_formulas.proofs.Sequences.{SereSame, true_same, later_same, expr_over, sere_over}
use Rattle.port_formulas.proofs.Formulas.{FormulaSame, bool_same, not_same, and_same, strong_same, weak_same, next_same}
use Rattle.port_formulas.proofs.Formulas.{until_same, abort_same, suffix_same}

module _ (us ws places : List ℕ) where
  abbrev Same : CoreFormula → CoreFormula → Type 0
  Same f g = FormulaSame us ws places f g

  negated : (f g : CoreFormula) → Same f g → Same (not f) (not g)
  negated f g same = not_same us ws places f g same

  or_same : (f g h k : CoreFormula) → Same f h → Same g k → Same (or f g) (or h k)
  or_same f g h k left right =
      negated (and (not f) (not g)) (and (not h) (not k))
      (and_same us ws places (not f) (not g) (not h) (not k) (negated f h left) (negated g k right))

  implies_same : (f g h k : CoreFormula) → Same f h → Same g k → Same (implies f g) (implies h k)
  implies_same f g h k left right = or_same (not f) g (not h) k (negated f h left) right

  somewhere_same : (f g : CoreFormula) → Same f g → Same (somewhere f) (somewhere g)
  somewhere_same f g same =
      until_same us ws places (bool always_true) f (bool always_true) g
      (bool_same us ws places always_true always_true (true_same us ws places)) same

  everywhere_same : (f g : CoreFormula) → Same f g → Same (everywhere f) (everywhere g)
  everywhere_same f g same =
      negated (somewhere (not f)) (somewhere (not g)) (somewhere_same (not f) (not g) (negated f g same))

  next_by_same : (s : Bool) (f g : CoreFormula) → Same f g → Same (next_by s f) (next_by s g)
  next_by_same true f g same = next_same us ws places f g same
  next_by_same false f g same =
      negated (strong_next (not f)) (strong_next (not g)) (next_same us ws places (not f) (not g) (negated f g same))

  until_by_same : (s : Bool) (f g h k : CoreFormula) → Same f h → Same g k → Same (until_by s f g) (until_by s h k)
  until_by_same true f g h k left right = until_same us ws places f g h k left right
  until_by_same false f g h k left right =
      or_same (strong_until f g) (everywhere f) (strong_until h k) (everywhere h)
      (until_same us ws places f g h k left right) (everywhere_same f h left)

  sequence_same : (strong : Bool) (r s : CoreSere) → SereSame us ws places r s →
      Same (sequence_by strong r) (sequence_by strong s)
  sequence_same true r s same = strong_same us ws places r s same
  sequence_same false r s same = weak_same us ws places r s same

  next_times_same : (s : Bool) (k : ℕ) (f g : CoreFormula) → Same f g → Same (next_times s k f) (next_times s k g)
  next_times_same s zero f g same = same
  next_times_same s (suc k) f g same =
      next_by_same s (next_times s k f) (next_times s k g) (next_times_same s k f g same)

  next_event_same : (s : Bool) (e d : Expr) (f g : CoreFormula) → ExprSame us ws places e d → Same f g →
      Same (next_event s e f) (next_event s d g)
  next_event_same s e d f g on same =
      until_by_same s (not (bool e)) (and (bool e) f) (not (bool d)) (and (bool d) g)
      (negated (bool e) (bool d) (bool_same us ws places e d on))
      (and_same us ws places (bool e) f (bool d) g (bool_same us ws places e d on) same)

  event_times_same : (s : Bool) (e d : Expr) (k : ℕ) (f g : CoreFormula) → ExprSame us ws places e d → Same f g →
      Same (event_times s e k f) (event_times s d k g)
  event_times_same s e d zero f g on same = same
  event_times_same s e d (suc zero) f g on same = next_event_same s e d f g on same
  event_times_same s e d (suc (suc k)) f g on same =
      next_event_same s e d (next_by s (event_times s e (suc k) f)) (next_by s (event_times s d (suc k) g)) on
      (next_by_same s (event_times s e (suc k) f) (event_times s d (suc k) g)
      (event_times_same s e d (suc k) f g on same))

  conjunction_same : (f g : ℕ → CoreFormula) → ((k : ℕ) → Same (f k) (g k)) → (low more : ℕ) →
      Same (conjunction f low more) (conjunction g low more)
  conjunction_same f g same low zero = same low
  conjunction_same f g same low (suc more) =
      and_same us ws places (conjunction f low more) (f (low + suc more))
      (conjunction g low more) (g (low + suc more))
      (conjunction_same f g same low more) (same (low + suc more))

  disjunction_same : (f g : ℕ → CoreFormula) → ((k : ℕ) → Same (f k) (g k)) → (low more : ℕ) →
      Same (disjunction f low more) (disjunction g low more)
  disjunction_same f g same low zero = same low
  disjunction_same f g same low (suc more) =
      or_same (disjunction f low more) (f (low + suc more)) (disjunction g low more) (g (low + suc more))
      (disjunction_same f g same low more) (same (low + suc more))

  reach_same : (r : Reach) (f g : ℕ → CoreFormula) → ((k : ℕ) → Same (f k) (g k)) → (low high : ℕ) →
      Same (over_reach r f low high) (over_reach r g low high)
  reach_same reach.One f g same low high = same low
  reach_same reach.All f g same low high = conjunction_same f g same low (high - low)
  reach_same reach.Some f g same low high = disjunction_same f g same low (high - low)

  iff_same : (f g h k : CoreFormula) → Same f h → Same g k →
      Same (and (implies f g) (implies g f)) (and (implies h k) (implies k h))
  iff_same f g h k left right =
      and_same us ws places (implies f g) (implies g f) (implies h k) (implies k h)
      (implies_same f g h k left right) (implies_same g f k h right left)

  met : (f g h k : CoreFormula) → Same f h → Same g k → Same (and f g) (and h k)
  met f g h k left right = and_same us ws places f g h k left right

  never_same : (f g : CoreFormula) → Same f g → Same (everywhere (not f)) (everywhere (not g))
  never_same f g same = everywhere_same (not f) (not g) (negated f g same)

-- ---- formulas

module _ (us places : List ℕ) where
  abbrev ws : List ℕ
  ws = chosen places us

  abbrev core : Formula → CoreFormula
  core f = core_formula_of f

  -- what the formula says, and what its form over the places says
  abbrev pub IsOver : Formula → Type 0
  IsOver f = FormulaSame us (chosen places us) places (core_formula_of f) (core_formula_of (over places f))

  left_only : (f g : Formula) → UsesOnly places (λ k. formula_uses k (formula.and f g)) →
      UsesOnly places (λ k. formula_uses k f)
  left_only f g = left_each (Contains places) (λ k. formula_uses k f) (λ k. formula_uses k g) (λ k. true)

  right_only : (f g : Formula) → UsesOnly places (λ k. formula_uses k (formula.and f g)) →
      UsesOnly places (λ k. formula_uses k g)
  right_only f g = right_each (Contains places) (λ k. formula_uses k f) (λ k. formula_uses k g) (λ k. true)

  suffix_over : (r : sere.Sere) (later : Bool) (f : Formula) →
      SereSame us (chosen places us) places (core_of r) (core_of (over_sere places r)) → IsOver f →
      IsOver (formula.suffix r later f)
  suffix_over r false f starts same =
      suffix_same us (chosen places us) places (core_of r) (core_of (over_sere places r))
      (core f) (core (over places f)) starts same
  suffix_over r true f starts same =
      suffix_same us (chosen places us) places (sequence.concat (core_of r) (sequence.bool always_true))
      (sequence.concat (core_of (over_sere places r)) (sequence.bool always_true))
      (core f) (core (over places f))
      (later_same us (chosen places us) places (core_of r) (core_of (over_sere places r)) starts) same

  strong_over : (r : sere.Sere) → UsesOnly places (λ k. sere_uses k r) →
      FormulaSame us (chosen places us) places (strong (core_of r)) (strong (core_of (over_sere places r)))
  strong_over r only =
      strong_same us (chosen places us) places (core_of r) (core_of (over_sere places r)) (sere_over us places r only)

  until_over : (s overlap : Bool) (f g : Formula) → IsOver f → IsOver g → IsOver (formula.until s overlap f g)
  until_over s false f g left right =
      until_by_same us (chosen places us) places s (core f) (core g) (core (over places f)) (core (over places g))
      left right
  until_over s true f g left right =
      until_by_same us (chosen places us) places s (core f) (and (core f) (core g))
      (core (over places f)) (and (core (over places f)) (core (over places g))) left
      (met us (chosen places us) places (core f) (core g) (core (over places f)) (core (over places g)) left right)

  before_over : (s overlap : Bool) (f g : Formula) → IsOver f → IsOver g → IsOver (formula.before s overlap f g)
  before_over s false f g left right =
      let none = negated us (chosen places us) places (core g) (core (over places g)) right in
      until_by_same us (chosen places us) places s (not (core g)) (and (core f) (not (core g)))
      (not (core (over places g))) (and (core (over places f)) (not (core (over places g)))) none
      (met us (chosen places us) places (core f) (not (core g)) (core (over places f)) (not (core (over places g)))
      left none)
  before_over s true f g left right =
      let none = negated us (chosen places us) places (core g) (core (over places g)) right in
      until_by_same us (chosen places us) places s (not (core g)) (core f)
      (not (core (over places g))) (core (over places f)) none left

  never_over : (f : Formula) → UsesOnly places (λ k. formula_uses k f) → IsOver f → IsOver (formula.never f)
  never_over (formula.seq r s) only same =
      never_same us (chosen places us) places (strong (core_of r)) (strong (core_of (over_sere places r)))
      (strong_over r only)
  never_over f only same = never_same us (chosen places us) places (core f) (core (over places f)) same

  eventually_over : (f : Formula) → UsesOnly places (λ k. formula_uses k f) → IsOver f →
      IsOver (formula.eventually f)
  eventually_over (formula.seq r s) only same =
      somewhere_same us (chosen places us) places (strong (core_of r)) (strong (core_of (over_sere places r)))
      (strong_over r only)
  eventually_over f only same = somewhere_same us (chosen places us) places (core f) (core (over places f)) same

  pub formula_over : (f : Formula) → UsesOnly places (λ k. formula_uses k f) → IsOver f
  formula_over (formula.bool e) only =
      bool_same us (chosen places us) places e (over_expr places e) (expr_over us places e only)
  formula_over (formula.not f) only =
      negated us (chosen places us) places (core f) (core (over places f)) (formula_over f only)
  formula_over (formula.and f g) only =
      met us (chosen places us) places (core f) (core g) (core (over places f)) (core (over places g))
      (formula_over f (left_only f g only)) (formula_over g (right_only f g only))
  formula_over (formula.or f g) only =
      or_same us (chosen places us) places (core f) (core g) (core (over places f)) (core (over places g))
      (formula_over f (left_only f g only)) (formula_over g (right_only f g only))
  formula_over (formula.implies f g) only =
      implies_same us (chosen places us) places (core f) (core g) (core (over places f)) (core (over places g))
      (formula_over f (left_only f g only)) (formula_over g (right_only f g only))
  formula_over (formula.iff f g) only =
      iff_same us (chosen places us) places (core f) (core g) (core (over places f)) (core (over places g))
      (formula_over f (left_only f g only)) (formula_over g (right_only f g only))
  formula_over (formula.seq r s) only =
      sequence_same us (chosen places us) places s (core_of r) (core_of (over_sere places r))
      (sere_over us places r only)
  formula_over (formula.suffix r later f) only =
      suffix_over r later f
      (sere_over us places r
      (left_each (Contains places) (λ k. sere_uses k r) (λ k. formula_uses k f) (λ k. true) only))
      (formula_over f (right_each (Contains places) (λ k. sere_uses k r) (λ k. formula_uses k f) (λ k. true) only))
  formula_over (formula.always f) only =
      everywhere_same us (chosen places us) places (core f) (core (over places f)) (formula_over f only)
  formula_over (formula.never f) only = never_over f only (formula_over f only)
  formula_over (formula.eventually f) only = eventually_over f only (formula_over f only)
  formula_over (formula.next s r low high f) only =
      reach_same us (chosen places us) places r
      (λ k. next_times s k (core f)) (λ k. next_times s k (core (over places f)))
      (λ k. next_times_same us (chosen places us) places s k (core f) (core (over places f)) (formula_over f only))
      low high
  formula_over (formula.event on s r low high f) only =
      let at = expr_over us places on
      (left_each (Contains places) (λ k. expr_uses k on) (λ k. formula_uses k f) (λ k. true) only) in
      let body = formula_over f
      (right_each (Contains places) (λ k. expr_uses k on) (λ k. formula_uses k f) (λ k. true) only) in
      reach_same us (chosen places us) places r
      (λ k. event_times s on k (core f)) (λ k. event_times s (over_expr places on) k (core (over places f)))
      (λ k. event_times_same us (chosen places us) places s on (over_expr places on) k (core f)
      (core (over places f)) at body)
      low high
  formula_over (formula.until s overlap f g) only =
      until_over s overlap f g (formula_over f (left_only f g only)) (formula_over g (right_only f g only))
  formula_over (formula.before s overlap f g) only =
      before_over s overlap f g (formula_over f (left_only f g only)) (formula_over g (right_only f g only))
  formula_over (formula.abort f on) only =
      abort_same us (chosen places us) places (core f) (core (over places f)) on (over_expr places on)
      (formula_over f (left_each (Contains places) (λ k. formula_uses k f) (λ k. expr_uses k on) (λ k. true) only))
      (expr_over us places on
      (right_each (Contains places) (λ k. formula_uses k f) (λ k. expr_uses k on) (λ k. true) only))

  -- ---- traces

  pub trace_over : (trace : List (List ℕ)) →
      over_list places (map valuation trace) ≡ map valuation (map (chosen places) trace)
  trace_over [] = refl
  trace_over (values ∷ trace) = ap (λ (l : List Letter). valuation (chosen places values) ∷ l) (trace_over trace)

  pub violation_over : (f : Formula) (ending : Ending) (trace : List (List ℕ)) →
      UsesOnly places (λ k. formula_uses k f) →
      (¬ Satisfies us (core_formula_of f) (record { letters = map valuation trace; ending = ending }))
      ↔ (¬ Satisfies (chosen places us) (core_formula_of (over places f))
      (record { letters = map valuation (map (chosen places) trace); ending = ending }))
  violation_over f ending trace only =
      let word : Word = record { letters = map valuation trace; ending = ending } in
      let same = formula_over f only word in
      let P : List Letter → Type 0 = λ l. Satisfies (chosen places us) (core_formula_of (over places f))
      (record { letters = l; ending = ending }) in (
        (λ h t. h (same.1 (subst P (sym (trace_over trace)) t))),
        (λ h t. h (subst P (trace_over trace) (same.0 t))),
      )
