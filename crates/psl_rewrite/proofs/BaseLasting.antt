-- That of base formulas, variant by variant, whose obligations can happen.
use Rattle.std.proofs.Common.{◌≢◌, ℕ, ◌-◌, ◌<◌, List, [], ◌∷◌, Bool, true, false, refl, map, length, arith}
use Rattle.psl_model.specs.Sere.{Sere}
use Rattle.psl_model.specs.Formula as formula
use Rattle.psl_model.specs.Formula.{Formula}
use Rattle.psl_meaning.specs.Word.{Valuation, valuation}
use Rattle.psl_meaning.specs.SequenceSugar.{core_of, always_true}
use Rattle.psl_meaning.specs.Formula.{CoreFormula, bool, not, strong}
use Rattle.psl_meaning.specs.FormulaSugar.{core_formula_of, next_times, event_times}
use Rattle.psl_rewrite.specs.Base as base
use Rattle.psl_rewrite.specs.Base.{Base}
use Rattle.psl_rewrite.specs.Meaning.{named}
use Rattle.psl_rewrite.specs.Obligations.{EachObligation, CanHappen}
use Rattle.psl_rewrite.proofs.KnownLaws.{Laws}
use Rattle.psl_rewrite.proofs.Lasting.{Lasting, bool_lasts, not_lasts, and_lasts, or_lasts, everywhere_lasts}
use Rattle.psl_rewrite.proofs.Lasting.{until_lasts, strong_until_lasts, next_times_lasts, event_times_lasts}
use Rattle.psl_rewrite.proofs.Lasting.{conjunction_lasts, disjunction_lasts, strong_lasts, weak_lasts, suffix_lasts}
use Rattle.psl_rewrite.proofs.Lasting.{abort_lasts}

module _ (laws : Laws) (widths : List ℕ) where
  abbrev meaning : Base → CoreFormula
  meaning b = core_formula_of (named b)

  sequence_lasts : (r : Sere) (s : Bool) → CanHappen widths r →
      Lasting laws widths (core_formula_of (formula.seq r s))
  sequence_lasts r true can = strong_lasts laws widths (core_of r) can
  sequence_lasts r false can = weak_lasts laws widths (core_of r) can

  pub base_lasts : (b : Base) → EachObligation (CanHappen widths) (named b) → Lasting laws widths (meaning b)
  base_lasts (base.bool e) can = bool_lasts laws widths e
  base_lasts (base.and f g) can =
      and_lasts laws widths (meaning f) (meaning g) (base_lasts f can.0) (base_lasts g can.1)
  base_lasts (base.or_bool e f) can =
      or_lasts laws widths (bool e) (meaning f) (bool_lasts laws widths e) (base_lasts f can.1)
  base_lasts (base.implies e f) can =
      or_lasts laws widths (not (bool e)) (meaning f) (not_lasts laws widths e) (base_lasts f can.1)
  base_lasts (base.always f) can = everywhere_lasts laws widths (meaning f) (base_lasts f can)
  base_lasts (base.next s k f) can = next_times_lasts laws widths s k (meaning f) (base_lasts f can)
  base_lasts (base.next_all s low high f) can =
      let p = base_lasts f can in
      conjunction_lasts laws widths (λ k. next_times s k (meaning f))
      (λ k. next_times_lasts laws widths s k (meaning f) p) low (high - low)
  base_lasts (base.next_some s low high e) can =
      disjunction_lasts laws widths (λ k. next_times s k (bool e))
      (λ k. next_times_lasts laws widths s k (bool e) (bool_lasts laws widths e)) low (high - low)
  base_lasts (base.until s f e) can =
      until_lasts laws widths s (meaning f) (bool e) (base_lasts f can.0) (bool_lasts laws widths e)
  base_lasts (base.event s on low high f) can =
      let p = base_lasts f can in
      conjunction_lasts laws widths (λ k. event_times s on k (meaning f))
      (λ k. event_times_lasts laws widths s on k (meaning f) p) low (high - low)
  base_lasts (base.event_some s on low high e) can =
      disjunction_lasts laws widths (λ k. event_times s on k (bool e))
      (λ k. event_times_lasts laws widths s on k (bool e) (bool_lasts laws widths e)) low (high - low)
  base_lasts (base.seq r s) can = sequence_lasts r s can
  base_lasts (base.eventually r) can =
      strong_until_lasts laws widths (bool always_true) (strong (core_of r)) (bool_lasts laws widths always_true)
      (strong_lasts laws widths (core_of r) can)
  base_lasts (base.suffix r f) can = suffix_lasts laws widths (core_of r) (meaning f) (base_lasts f can)
  base_lasts (base.abort f on) can = abort_lasts laws widths (meaning f) on (base_lasts f can)

pub begun : (trace : List Valuation) → trace ≢ [] → 0 < length (map valuation trace)
begun [] some = absurd (some refl)
begun (v ∷ trace) some = omega arith

-- that no obligation is contradictory says that each can happen, as far as a refutation goes
module _ (P : Sere → Type 0) where
  pair : (A B : Type 0) → ¬ ¬ A → ¬ ¬ B → ¬ ¬ (A × B)
  pair A B p q none = p (λ a. q (λ b. none (a, b)))

  abbrev Each : Formula → Type 0
  Each f = EachObligation (λ r. ¬ ¬ P r) f

  some_pair : (f g : Formula) → ¬ ¬ EachObligation P f → ¬ ¬ EachObligation P g →
      ¬ ¬ (EachObligation P f × EachObligation P g)
  some_pair f g p q = pair (EachObligation P f) (EachObligation P g) p q

  pub not_refuted : (f : Formula) → Each f → ¬ ¬ EachObligation P f
  not_refuted (formula.bool e) p = λ none. none tt
  not_refuted (formula.not f) p = not_refuted f p
  not_refuted (formula.and f g) p = some_pair f g (not_refuted f p.0) (not_refuted g p.1)
  not_refuted (formula.or f g) p = some_pair f g (not_refuted f p.0) (not_refuted g p.1)
  not_refuted (formula.implies f g) p = some_pair f g (not_refuted f p.0) (not_refuted g p.1)
  not_refuted (formula.iff f g) p = some_pair f g (not_refuted f p.0) (not_refuted g p.1)
  not_refuted (formula.seq r s) p = p
  not_refuted (formula.suffix r l f) p = not_refuted f p
  not_refuted (formula.always f) p = not_refuted f p
  not_refuted (formula.never (formula.seq r s)) p = λ none. none tt
  not_refuted (formula.never f) p = not_refuted f p
  not_refuted (formula.eventually f) p = not_refuted f p
  not_refuted (formula.next s r l h f) p = not_refuted f p
  not_refuted (formula.event e s r l h f) p = not_refuted f p
  not_refuted (formula.until s o f g) p = some_pair f g (not_refuted f p.0) (not_refuted g p.1)
  not_refuted (formula.before s o f g) p = some_pair f g (not_refuted f p.0) (not_refuted g p.1)
  not_refuted (formula.abort f e) p = not_refuted f p
