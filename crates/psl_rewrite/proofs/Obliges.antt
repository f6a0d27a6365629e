-- A formula of the subset and its base form have the same obligations.
use Rattle.std.proofs.Common.{◌≡◌, true, false}
use Rattle.std.specs.Prelude.{◌||◌, ◌&&◌}
use Rattle.std.proofs.lemmas.Bool.{false≢true}
use Rattle.psl_model.specs.Sere.{Sere}
use Rattle.psl_model.specs.Formula as formula
use Rattle.psl_model.specs.Formula.{Formula}
use Rattle.psl_model.specs.declared.formulas.Reach.TheVariants as reach
use Rattle.simple_subset.specs.Subset.{is_boolean, is_plain_sequence, broken_rules, InSubset}
use Rattle.psl_rewrite.specs.Meaning.{named}
use Rattle.psl_rewrite.specs.BaseForm.{base_form_of}
use Rattle.psl_rewrite.specs.Obligations.{EachObligation}
use Rattle.psl_rewrite.proofs.Demands.{parts, one, two, both}

module _ (P : Sere → Type 0) where
  abbrev Obliges : Formula → Type 0
  Obliges f = EachObligation P (named (base_form_of f))

  or_obliges : (f g : Formula) → Obliges f → Obliges g → Obliges (formula.or f g)
  or_obliges (formula.bool e) g p q = (tt, q)
  or_obliges f g p q = (tt, p)

  never_obliges : (f : Formula) → (is_boolean f || is_plain_sequence f) ≡ true → Obliges (formula.never f)
  never_obliges (formula.bool e) h = tt
  never_obliges (formula.seq r s) h = tt
  never_obliges f h = absurd (false≢true h)

  eventually_obliges : (f : Formula) → (is_boolean f || is_plain_sequence f) ≡ true → EachObligation P f →
      Obliges (formula.eventually f)
  eventually_obliges (formula.bool e) h p = (tt, tt)
  eventually_obliges (formula.seq r s) h p = p
  eventually_obliges f h p = absurd (false≢true h)

  pub obliges : (f : Formula) → InSubset f → EachObligation P f → Obliges f
  obliges (formula.bool e) h p = tt
  obliges (formula.not f) h p = tt
  obliges (formula.and f g) h p =
      let in_ = parts (broken_rules f) (broken_rules g) h in
      (obliges f in_.0 p.0, obliges g in_.1 p.1)
  obliges (formula.or f g) h p =
      let in_ = two (is_boolean f || is_boolean g) 4 (broken_rules f) (broken_rules g) h in
      or_obliges f g (obliges f in_.1 p.0) (obliges g in_.2 p.1)
  obliges (formula.implies f g) h p = (tt, obliges g (two (is_boolean f) 5 (broken_rules f) (broken_rules g) h).2 p.1)
  obliges (formula.iff f g) h p = tt
  obliges (formula.seq r s) h p = p
  obliges (formula.suffix r l f) h p = obliges f h p
  obliges (formula.always f) h p = obliges f h p
  obliges (formula.never f) h p = never_obliges f (one (is_boolean f || is_plain_sequence f) 2 (broken_rules f) h).0
  obliges (formula.eventually f) h p =
      eventually_obliges f (one (is_boolean f || is_plain_sequence f) 3 (broken_rules f) h).0 p
  obliges (formula.next s reach.One low high f) h p = obliges f h p
  obliges (formula.next s reach.All low high f) h p = obliges f h p
  obliges (formula.next s reach.Some low high f) h p = tt
  obliges (formula.event on s reach.One low high f) h p = obliges f h p
  obliges (formula.event on s reach.All low high f) h p = obliges f h p
  obliges (formula.event on s reach.Some low high f) h p = tt
  obliges (formula.until s false f g) h p =
      (obliges f (two (is_boolean g) 7 (broken_rules f) (broken_rules g) h).1 p.0, tt)
  obliges (formula.until s true f g) h p =
      (obliges f (two (is_boolean f && is_boolean g) 8 (broken_rules f) (broken_rules g) h).1 p.0, tt)
  obliges (formula.before s false f g) h p = (tt, tt)
  obliges (formula.before s true f g) h p = (tt, tt)
  obliges (formula.abort f on) h p = obliges f h p

  -- ---- and the other way round

  boolean_obliges : (f : Formula) → is_boolean f ≡ true → EachObligation P f
  boolean_obliges (formula.bool e) h = tt
  boolean_obliges f h = absurd (false≢true h)

  or_obliged : (f g : Formula) → (is_boolean f || is_boolean g) ≡ true → (Obliges f → EachObligation P f) →
      (Obliges g → EachObligation P g) → Obliges (formula.or f g) → EachObligation P (formula.or f g)
  or_obliged (formula.bool e) g h p q o = (tt, q o.1)
  or_obliged f g h p q o = (p o.1, boolean_obliges g h)

  never_obliged : (f : Formula) → (is_boolean f || is_plain_sequence f) ≡ true → EachObligation P (formula.never f)
  never_obliged (formula.bool e) h = tt
  never_obliged (formula.seq r s) h = tt
  never_obliged f h = absurd (false≢true h)

  eventually_obliged : (f : Formula) → (is_boolean f || is_plain_sequence f) ≡ true →
      Obliges (formula.eventually f) → EachObligation P f
  eventually_obliged (formula.bool e) h p = tt
  eventually_obliged (formula.seq r s) h p = p
  eventually_obliged f h p = absurd (false≢true h)

  two_booleans : (f g : Formula) → (is_boolean f && is_boolean g) ≡ true → EachObligation P f × EachObligation P g
  two_booleans f g h =
      let are = both (is_boolean f) (is_boolean g) h in
      (boolean_obliges f are.0, boolean_obliges g are.1)

  pub obliged : (f : Formula) → InSubset f → Obliges f → EachObligation P f
  obliged (formula.bool e) h p = tt
  obliged (formula.not f) h p = boolean_obliges f (one (is_boolean f) 1 (broken_rules f) h).0
  obliged (formula.and f g) h p =
      let in_ = parts (broken_rules f) (broken_rules g) h in
      (obliged f in_.0 p.0, obliged g in_.1 p.1)
  obliged (formula.or f g) h p =
      let in_ = two (is_boolean f || is_boolean g) 4 (broken_rules f) (broken_rules g) h in
      or_obliged f g in_.0 (obliged f in_.1) (obliged g in_.2) p
  obliged (formula.implies f g) h p =
      let in_ = two (is_boolean f) 5 (broken_rules f) (broken_rules g) h in
      (boolean_obliges f in_.0, obliged g in_.2 p.1)
  obliged (formula.iff f g) h p =
      two_booleans f g (two (is_boolean f && is_boolean g) 6 (broken_rules f) (broken_rules g) h).0
  obliged (formula.seq r s) h p = p
  obliged (formula.suffix r l f) h p = obliged f h p
  obliged (formula.always f) h p = obliged f h p
  obliged (formula.never f) h p = never_obliged f (one (is_boolean f || is_plain_sequence f) 2 (broken_rules f) h).0
  obliged (formula.eventually f) h p =
      eventually_obliged f (one (is_boolean f || is_plain_sequence f) 3 (broken_rules f) h).0 p
  obliged (formula.next s reach.One low high f) h p = obliged f h p
  obliged (formula.next s reach.All low high f) h p = obliged f h p
  obliged (formula.next s reach.Some low high f) h p =
      boolean_obliges f (one (is_boolean f) 10 (broken_rules f) h).0
  obliged (formula.event on s reach.One low high f) h p = obliged f h p
  obliged (formula.event on s reach.All low high f) h p = obliged f h p
  obliged (formula.event on s reach.Some low high f) h p =
      boolean_obliges f (one (is_boolean f) 11 (broken_rules f) h).0
  obliged (formula.until s false f g) h p =
      let in_ = two (is_boolean g) 7 (broken_rules f) (broken_rules g) h in
      (obliged f in_.1 p.0, boolean_obliges g in_.0)
  obliged (formula.until s true f g) h p =
      two_booleans f g (two (is_boolean f && is_boolean g) 8 (broken_rules f) (broken_rules g) h).0
  obliged (formula.before s false f g) h p =
      two_booleans f g (two (is_boolean f && is_boolean g) 9 (broken_rules f) (broken_rules g) h).0
  obliged (formula.before s true f g) h p =
      two_booleans f g (two (is_boolean f && is_boolean g) 9 (broken_rules f) (broken_rules g) h).0
  obliged (formula.abort f e) h p = obliged f h p
