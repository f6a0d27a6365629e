use Rattle.std.proofs.Common.{◌≡◌, ◌∙◌, sym, refl, ap, subst, List, ℕ, [], ◌∷◌, length, vec_len, arith, All, ◌<◌}
use Rattle.std.proofs.lemmas.Bool.Decides.{Decides-eqb}
use Rattle.weak_determinise.proofs.Members.{Among}
use Rattle.weak_determinise.proofs.Once.{true-false}
use Rattle.weak_determinise.specs.inner.Stepping.{all_steps, AreTargets}
use Rattle.weak_determinise.proofs.Moves.{targets_owned, placed}
use Rattle.weak_determinise.proofs.moving.move_to.Goals as goal

pub has_accepting-requires : goal.has_accepting-requires
has_accepting-requires c = targets_owned c.args.steps.now c.args.bits.now c.in-Ok.next.items _
    (length c.args.bits.now) _
    c.in-Ok.ensures c.as_slice.ensures.value c.requires

pub returns-then-is_empty-clause-tells : goal.returns-then-is_empty-clause-tells
returns-then-is_empty-clause-tells c = subst (AreTargets (all_steps c.args.steps.now) c.args.bits.now)
    (nil_of c.in-Ok.next.items (let ok = c.in-Ok.next.ok in let n : vec_len c.in-Ok.next ≡ 0 = (Decides-eqb
    (vec_len c.in-Ok.next) 0).0 (sym c.is_empty.ensures ∙ c.if-is_empty.true) in omega (arith, ok, n))) c.in-Ok.ensures
  where
    nil_of : (xs : List ℕ) → length xs ≡ 0 → xs ≡ []
    nil_of [] e = refl
    nil_of (x ∷ xs) e = absurd (omega (arith, e))

pub returns-in-Ok-number-clause-tells : goal.returns-in-Ok-number-clause-tells
returns-in-Ok-number-clause-tells c = (
  c.in-Ok.next.items,
  placed c.args.seen.now.keys _ c.in-Ok.next.items c.in-Ok-number.number c.in-Ok-number.ensures.numbered
      c.in-Ok-number.ensures.named,
  record {
    targets = c.in-Ok.ensures;
    some = λ e. true-false (sym (c.is_empty.ensures ∙ (Decides-eqb (vec_len c.in-Ok.next) 0).1
        (let ok = c.in-Ok.next.ok in let n : length c.in-Ok.next.items ≡ 0 = ap (λ (s : List ℕ). length s) e in omega
        (arith, ok, n))) ∙ c.if-is_empty.false);
    none = λ t h a. true-false (sym (c.has_accepting.ensures.1 (
      t,
      subst (λ (s : List ℕ). Among s t)
          (sym c.as_slice.ensures.value) h,
      a,
    )) ∙ c.if-has_accepting.false);
  },
)

pub targets-requires-clause-owned : goal.targets-requires-clause-owned
targets-requires-clause-owned c = subst (λ (n : ℕ). All (λ row. All (λ s. s < n) row) c.args.steps.now.rows.items)
    (sym c.states.ensures) c.requires.owned
