-- The base form of a formula of the subset has the formula's sequences.
use Rattle.std.proofs.Common.{◌≡◌, List, [], ◌∷◌, ◌++◌, true, false, refl, sym, ap, ◌∙◌, subst}
use Rattle.std.specs.Prelude.{◌||◌, ◌&&◌}
use Rattle.std.proofs.lemmas.Bool.{false≢true}
use Rattle.psl_model.specs.Sere.{Sere}
use Rattle.psl_model.specs.Formula as formula
use Rattle.psl_model.specs.Formula.{Formula}
use Rattle.psl_model.specs.declared.formulas.Reach.TheVariants as reach
use Rattle.simple_subset.specs.Subset.{is_boolean, is_plain_sequence, broken_rules, InSubset}
use Rattle.psl_rewrite.specs.BaseForm.{suffix_sere, base_form_of}
use Rattle.psl_rewrite.specs.Conditions.{formula_sequences, base_sequences}
use Rattle.psl_rewrite.proofs.Demands.{parts, one, two, both}

nothing_behind : (xs ys : List Sere) → ys ≡ [] → xs ≡ xs ++ ys
nothing_behind [] ys h = sym h
nothing_behind (x ∷ xs) ys h = ap (λ (zs : List Sere). x ∷ zs) (nothing_behind xs ys h)

nothing_before : (xs ys : List Sere) → xs ≡ [] → ys ≡ xs ++ ys
nothing_before xs ys h = subst (λ (zs : List Sere). ys ≡ zs ++ ys) (sym h) refl

both_nothing : (xs ys : List Sere) → xs ≡ [] → ys ≡ [] → [] ≡ xs ++ ys
both_nothing xs ys h k = sym h ∙ nothing_behind xs ys k

none_in : (f : Formula) → is_boolean f ≡ true → formula_sequences f ≡ []
none_in (formula.bool e) h = refl
none_in f h = absurd (false≢true h)

two_booleans : (f g : Formula) → (is_boolean f && is_boolean g) ≡ true →
    [] ≡ formula_sequences f ++ formula_sequences g
two_booleans f g h =
    let are = both (is_boolean f) (is_boolean g) h in
    both_nothing (formula_sequences f) (formula_sequences g) (none_in f are.0) (none_in g are.1)

abbrev Kept : Formula → Type 0
Kept f = base_sequences (base_form_of f) ≡ formula_sequences f

or_kept : (f g : Formula) → (is_boolean f || is_boolean g) ≡ true → Kept f → Kept g → Kept (formula.or f g)
or_kept (formula.bool e) g h p q = q
or_kept f g h p q = p ∙ nothing_behind (formula_sequences f) (formula_sequences g) (none_in g h)

never_kept : (f : Formula) → (is_boolean f || is_plain_sequence f) ≡ true → Kept (formula.never f)
never_kept (formula.bool e) h = refl
never_kept (formula.seq r s) h = refl
never_kept f h = absurd (false≢true h)

eventually_kept : (f : Formula) → (is_boolean f || is_plain_sequence f) ≡ true → Kept (formula.eventually f)
eventually_kept (formula.bool e) h = refl
eventually_kept (formula.seq r s) h = refl
eventually_kept f h = absurd (false≢true h)

pub sequences_kept : (f : Formula) → InSubset f → Kept f
sequences_kept (formula.bool e) h = refl
sequences_kept (formula.not f) h = sym (none_in f (one (is_boolean f) 1 (broken_rules f) h).0)
sequences_kept (formula.and f g) h =
    let in_ = parts (broken_rules f) (broken_rules g) h in
    ap (λ (xs : List Sere). xs ++ base_sequences (base_form_of g)) (sequences_kept f in_.0)
    ∙ ap (λ (ys : List Sere). formula_sequences f ++ ys) (sequences_kept g in_.1)
sequences_kept (formula.or f g) h =
    let in_ = two (is_boolean f || is_boolean g) 4 (broken_rules f) (broken_rules g) h in
    or_kept f g in_.0 (sequences_kept f in_.1) (sequences_kept g in_.2)
sequences_kept (formula.implies f g) h =
    let in_ = two (is_boolean f) 5 (broken_rules f) (broken_rules g) h in
    sequences_kept g in_.2 ∙ nothing_before (formula_sequences f) (formula_sequences g) (none_in f in_.0)
sequences_kept (formula.iff f g) h =
    two_booleans f g (two (is_boolean f && is_boolean g) 6 (broken_rules f) (broken_rules g) h).0
sequences_kept (formula.seq r s) h = refl
sequences_kept (formula.suffix r later f) h =
    ap (λ (rs : List Sere). suffix_sere later r ∷ rs) (sequences_kept f h)
sequences_kept (formula.always f) h = sequences_kept f h
sequences_kept (formula.never f) h = never_kept f (one (is_boolean f || is_plain_sequence f) 2 (broken_rules f) h).0
sequences_kept (formula.eventually f) h =
    eventually_kept f (one (is_boolean f || is_plain_sequence f) 3 (broken_rules f) h).0
sequences_kept (formula.next s reach.One low high f) h = sequences_kept f h
sequences_kept (formula.next s reach.All low high f) h = sequences_kept f h
sequences_kept (formula.next s reach.Some low high f) h =
    sym (none_in f (one (is_boolean f) 10 (broken_rules f) h).0)
sequences_kept (formula.event on s reach.One low high f) h = sequences_kept f h
sequences_kept (formula.event on s reach.All low high f) h = sequences_kept f h
sequences_kept (formula.event on s reach.Some low high f) h =
    sym (none_in f (one (is_boolean f) 11 (broken_rules f) h).0)
sequences_kept (formula.until s false f g) h =
    let in_ = two (is_boolean g) 7 (broken_rules f) (broken_rules g) h in
    sequences_kept f in_.1 ∙ nothing_behind (formula_sequences f) (formula_sequences g) (none_in g in_.0)
sequences_kept (formula.until s true f g) h =
    let in_ = two (is_boolean f && is_boolean g) 8 (broken_rules f) (broken_rules g) h in
    let are = both (is_boolean f) (is_boolean g) in_.0 in
    sequences_kept f in_.1 ∙ nothing_behind (formula_sequences f) (formula_sequences g) (none_in g are.1)
sequences_kept (formula.before s false f g) h =
    two_booleans f g (two (is_boolean f && is_boolean g) 9 (broken_rules f) (broken_rules g) h).0
sequences_kept (formula.before s true f g) h =
    two_booleans f g (two (is_boolean f && is_boolean g) 9 (broken_rules f) (broken_rules g) h).0
sequences_kept (formula.abort f on) h = sequences_kept f h
