-- The base form of a formula, also with its signals named anew: whether it is built.
use Rattle.std.proofs.Common.{◌≡◌, ℕ, Bool, true, false, refl, ap, ◌∙◌, leb-true}
use Rattle.std.specs.Prelude.{◌&&◌, nat_le, IsTrue}
use Rattle.std.proofs.lemmas.Bool.{false≢true}
use Rattle.psl_model.specs.Formula.{Formula, bool, not, and, or, implies, iff, seq, suffix, always, never, eventually}
use Rattle.psl_model.specs.Formula.{next, event, until, before, abort}
use Rattle.psl_model.specs.declared.formulas.Reach.TheVariants as reach
use Rattle.psl_rewrite.specs.Base as plain
use Rattle.psl_rewrite.specs.Base.{Base}
use Rattle.psl_rewrite.specs.BaseForm.{base_form_of, or_form}
use Rattle.port_formulas.specs.Over.{formula_named}
use Rattle.property_circuits.specs.Conditions as base
use Rattle.mbac_compile.specs.Built.{is_built}

left_of : (a b : Bool) → IsTrue (a && b) → IsTrue a
left_of true b h = refl
left_of false b h = absurd (false≢true h)

right_of : (a b : Bool) → IsTrue (a && b) → IsTrue b
right_of true b h = h
right_of false b h = absurd (false≢true h)

pub both_of : (a b : Bool) → IsTrue a → IsTrue b → IsTrue (a && b)
both_of true b p q = q
both_of false b p q = absurd (false≢true p)

pub base_built : (b : Base) → IsTrue (is_built b) → base.IsBuilt b
base_built (plain.bool e) h = tt
base_built (plain.and f g) h =
    (base_built f (left_of (is_built f) (is_built g) h), base_built g (right_of (is_built f) (is_built g) h))
base_built (plain.or_bool e f) h = base_built f h
base_built (plain.implies e f) h = base_built f h
base_built (plain.always f) h = base_built f h
base_built (plain.next s k f) h = base_built f h
base_built (plain.next_all s low high f) h = (
  leb-true low high (left_of (nat_le low high) (is_built f) h),
  base_built f (right_of (nat_le low high) (is_built f) h),
)
base_built (plain.until s f e) h = base_built f h
base_built (plain.suffix r f) h = base_built f h
base_built b h = absurd (false≢true h)

-- ---- signals named anew

module _ (name : ℕ → ℕ) where
  or_built : (f g : Formula) (l r k s : Base) → is_built l ≡ is_built k → is_built r ≡ is_built s →
      is_built (or_form (formula_named name f) (formula_named name g) l r) ≡ is_built (or_form f g k s)
  or_built (bool e) g l r k s p q = q
  or_built f g l r k s p q = p

  pub same_built : (f : Formula) → is_built (base_form_of (formula_named name f)) ≡ is_built (base_form_of f)
  same_built (bool e) = refl
  same_built (not f) = refl
  same_built (and f g) =
      ap (λ (b : Bool). b && is_built (base_form_of (formula_named name g))) (same_built f)
      ∙ ap (λ (b : Bool). is_built (base_form_of f) && b) (same_built g)
  same_built (or f g) =
      or_built f g (base_form_of (formula_named name f)) (base_form_of (formula_named name g)) (base_form_of f)
      (base_form_of g) (same_built f) (same_built g)
  same_built (implies f g) = same_built g
  same_built (iff f g) = refl
  same_built (seq r s) = refl
  same_built (suffix r later f) = same_built f
  same_built (always f) = same_built f
  same_built (never (seq r s)) = refl
  same_built (never f) = refl
  same_built (eventually (seq r s)) = refl
  same_built (eventually f) = refl
  same_built (next s reach.One low high f) = same_built f
  same_built (next s reach.All low high f) = ap (λ (b : Bool). nat_le low high && b) (same_built f)
  same_built (next s reach.Some low high f) = refl
  same_built (event on s reach.One low high f) = refl
  same_built (event on s reach.All low high f) = refl
  same_built (event on s reach.Some low high f) = refl
  same_built (until s overlap f g) = same_built f
  same_built (before s false f g) = refl
  same_built (before s true f g) = refl
  same_built (abort f on) = refl
