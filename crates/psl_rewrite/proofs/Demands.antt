-- What the rules of the subset say of one formula.
use Rattle.std.proofs.Common.{◌≡◌, ℕ, List, [], ◌∷◌, ◌++◌, Bool, true, false, refl}
use Rattle.std.specs.Prelude.{◌&&◌}
use Rattle.std.proofs.lemmas.Bool.{false≢true}
use Rattle.psl_model.specs.Formula as formula
use Rattle.psl_model.specs.Formula.{Formula}
use Rattle.psl_meaning.specs.Formula.{bool}
use Rattle.psl_meaning.specs.FormulaSugar.{core_formula_of}
use Rattle.simple_subset.specs.Subset.{is_boolean, unless}
use Rattle.psl_rewrite.specs.BaseForm.{as_expr}

pub parts : (xs ys : List ℕ) → xs ++ ys ≡ [] → (xs ≡ []) × (ys ≡ [])
parts [] ys h = (refl, h)
parts (x ∷ xs) ys h = absurd (cc (h))

pub demanded : (d : Bool) (n : ℕ) → unless d n ≡ [] → d ≡ true
demanded true n h = refl
demanded false n h = absurd (cc (h))

-- a demand and the rules of one operand, or of two
pub one : (d : Bool) (n : ℕ) (ys : List ℕ) → unless d n ++ ys ≡ [] → (d ≡ true) × (ys ≡ [])
one d n ys h = let p = parts (unless d n) ys h in (demanded d n p.0, p.1)

pub two : (d : Bool) (n : ℕ) (xs ys : List ℕ) → unless d n ++ xs ++ ys ≡ [] → (d ≡ true) × (xs ≡ []) × (ys ≡ [])
two d n xs ys h =
    let p = parts (unless d n ++ xs) ys h in
    let q = one d n xs p.0 in
    (q.0, q.1, p.1)

pub both : (b c : Bool) → (b && c) ≡ true → (b ≡ true) × (c ≡ true)
both true c h = (refl, h)
both false c h = absurd (false≢true h)

pub boolean_is : (f : Formula) → is_boolean f ≡ true → core_formula_of f ≡ bool (as_expr f)
boolean_is (formula.bool e) h = refl
boolean_is f h = absurd (false≢true h)

pub joined : (xs ys : List ℕ) → xs ≡ [] → ys ≡ [] → xs ++ ys ≡ []
joined xs ys none also = rw none also
