-- The Booleans of the core sequence as which a sequence is counted are those of the sequence, `1'd1`, and negations.
use Rattle.std.specs.Prelude.{ℕ, zero, suc, ◌≡◌, ◌⊎◌, ◌-◌, List, [], Option, Some, None, All, Contains}
use Rattle.std.specs.Prelude.{Result, OnOk, Ok, Err}
use Rattle.std.proofs.Common.{subst, arith, inl, inr, get_or}
use Rattle.std.proofs.lemmas.List.Elements.{All-contains_itself}
use Rattle.psl_model.specs.Expr.{Expr, unary}
use Rattle.psl_model.specs.Sere as sere
use Rattle.psl_model.specs.declared.operators.UnOp.TheVariants.{Not}
use Rattle.psl_meaning.specs.SequenceSugar.{always_true}
use Rattle.psl_rewrite.specs.Conditions.{SereHas}
use Rattle.psl_rewrite.specs.CoreSere.{CoreSere, bool, empty, concat, or, both, star}
use Rattle.sequence_cores.specs.Counted.{anything, copied, ranged, counted_repeat, without, next_with, counted_as}
use Rattle.symbol_alphabet.specs.Symbols.{stripped}
use Rattle.sequence_tables.specs.Booleans.{HasBoolean}
use Rattle.circuit_core.specs.WellMade.{IsGuard}

module _ (P : Expr → Type 0) (strip : (b : Expr) → P b → P (stripped b)) (one : P always_true) where
  -- P of each Boolean
  abbrev Each : CoreSere → Type 0
  Each r = (e : Expr) → HasBoolean r e → P e

  each_bool : (b : Expr) → P b → Each (bool b)
  each_bool b p e h = subst P h (strip b p)

  each_two : (r s : CoreSere) → Each r → Each s → (e : Expr) → HasBoolean r e ⊎ HasBoolean s e → P e
  each_two r s a b e (inl h) = a e h
  each_two r s a b e (inr h) = b e h

  each_copied : (count : ℕ) (r : CoreSere) → Each r → Each (copied count r)
  each_copied zero r a = λ e h. absurd h
  each_copied (suc zero) r a = a
  each_copied (suc (suc count)) r a = a

  each_ranged : (low more : ℕ) (r : CoreSere) → Each r → Each (ranged low more r)
  each_ranged low zero r a = each_copied low r a
  each_ranged low (suc more) r a =
      each_two (copied low r) (copied (suc more) (or empty r)) (each_copied low r a)
      (each_copied (suc more) (or empty r) (each_two empty r (λ e h. absurd h) a))

  each_repeat : (low : ℕ) (high : Option ℕ) (r : CoreSere) → Each r → Each (counted_repeat low high r)
  each_repeat low (Some high) r a = each_ranged low (high - low) r a
  each_repeat zero None r a = a
  each_repeat (suc low) None r a = each_two (copied (suc low) r) (star r) (each_copied (suc low) r a) a

  each_without : (b : Expr) → P b → Each (without b)
  each_without b p e h = subst P h (strip b p)

  each_next : (b : Expr) → P b → Each (next_with b)
  each_next b p = each_two (without b) (bool b) (each_without b p) (each_bool b p)

  each_one : (e : Expr) → stripped always_true ≡ e → P e
  each_one e h = subst P h one

  each_meet : (r s : CoreSere) → Each r → Each s →
      Each (or (both r (concat s anything)) (both (concat r anything) s))
  each_meet r s a b e (inl (inl h)) = a e h
  each_meet r s a b e (inl (inr (inl h))) = b e h
  each_meet r s a b e (inl (inr (inr h))) = each_one e h
  each_meet r s a b e (inr (inl (inl h))) = a e h
  each_meet r s a b e (inr (inl (inr h))) = each_one e h
  each_meet r s a b e (inr (inr h)) = b e h

  each_within : (r s : CoreSere) → Each r → Each s → Each (both (concat (concat anything r) anything) s)
  each_within r s a b e (inl (inl (inl h))) = each_one e h
  each_within r s a b e (inl (inl (inr h))) = a e h
  each_within r s a b e (inl (inr h)) = each_one e h
  each_within r s a b e (inr h) = b e h

  pub each_counted : (r : sere.Sere) → SereHas P r → Each (counted_as r)
  each_counted (sere.bool b) p = each_bool b p
  each_counted (sere.concat r s) p =
      each_two (counted_as r) (counted_as s) (each_counted r p.0) (each_counted s p.1)
  each_counted (sere.fuse r s) p =
      each_two (counted_as r) (counted_as s) (each_counted r p.0) (each_counted s p.1)
  each_counted (sere.or r s) p =
      each_two (counted_as r) (counted_as s) (each_counted r p.0) (each_counted s p.1)
  each_counted (sere.both r s) p =
      each_two (counted_as r) (counted_as s) (each_counted r p.0) (each_counted s p.1)
  each_counted (sere.meet r s) p =
      each_meet (counted_as r) (counted_as s) (each_counted r p.0) (each_counted s p.1)
  each_counted (sere.within r s) p =
      each_within (counted_as r) (counted_as s) (each_counted r p.0) (each_counted s p.1)
  each_counted (sere.repeat r low high) p = each_repeat low high (counted_as r) (each_counted r p)
  each_counted (sere.goto b low high) p = each_repeat low high (next_with b) (each_next b p)
  each_counted (sere.equal b low high) p =
      each_two (counted_repeat low high (next_with b)) (without b)
      (each_repeat low high (next_with b) (each_next b p)) (each_without b p)

-- ---- guards

module _ (widths : List ℕ) where
  inner_guard : (e : Expr) → IsGuard widths (unary Not e) → IsGuard widths e
  inner_guard e g = (g.0, omega (arith, g.1))

  -- a guard without its leading `!` is a guard
  pub stripped_guard : (e : Expr) → IsGuard widths e → IsGuard widths (stripped e)
  stripped_guard (unary Not e) g = stripped_guard e (inner_guard e g)
  stripped_guard e g = g

  pub one_guard : IsGuard widths always_true
  one_guard = ((omega arith, omega arith, omega arith), omega arith)

  pub all_guards : (core : CoreSere) (r : sere.Sere) (old new : List Expr) → old ≡ [] → core ≡ counted_as r →
      ((e : Expr) → Contains new e → Contains old e ⊎ HasBoolean core e) → SereHas (IsGuard widths) r →
      All (IsGuard widths) new
  all_guards core r old new none is from has k d lt =
      elim (from (get_or new k d) (All-contains_itself new k d lt)) [
        | inl h ↦ absurd (no_element (subst (λ (s : List Expr). Contains s (get_or new k d)) none h))
        | inr h ↦ each_counted (IsGuard widths) stripped_guard one_guard r has (get_or new k d)
            (subst (λ (c : CoreSere). HasBoolean c (get_or new k d)) is h)
      ]
    where
      no_element : {x : Expr} → Contains [] x → ⊥
      no_element h = omega (arith, h.1)

pub on_ok : {T E Q : Type 0} (r : Result T E) → Q → OnOk r Q
on_ok (Ok x) q = q
on_ok (Err e) q = tt
