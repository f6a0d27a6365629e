-- The first fault of joined lists of faults.
use Rattle.std.proofs.Common.{◌≡◌, inl, inr, ℕ, ◌∙◌, Bool, ◌&&◌, List, [], ◌∷◌, ◌++◌, refl, ap, sym, subst}
use Rattle.std.proofs.lemmas.List.Sums.{fold-append}
use Rattle.unit_rules.specs.declared.errors.UnitError.{UnitError}
use Rattle.unit_rules.specs.declared.errors.UnitError.TheVariants.{ConstantArithmetic}
use Rattle.psl_grammar.specs.RawExpr.{RawExpr, binary}
use Rattle.psl_model.specs.Valid.{wants_width}
use Rattle.unit_rules.specs.Source.{Source, kind_at}
use Rattle.unit_rules.specs.Sites.{operator, expr_sites}
use Rattle.unit_rules.specs.Operators.{bin_op_of}
use Rattle.unit_rules.specs.Faults.{is_bare}
use Rattle.unit_rules.specs.inner.Judging.{IsFirst, State, going, stopped, visit, visit_all, visit_rule}

-- a fault of the first list is the first of both
pub first_of_joined : (e : UnitError) (xs ys : List UnitError) → IsFirst e xs → IsFirst e (xs ++ ys)
first_of_joined e [] ys (inl p) = inl p
first_of_joined e [] ys (inr p) = absurd (cc p)
first_of_joined e (x ∷ xs) ys h = h

-- where the first list has none, the first of the second is the first of both
pub first_of_second : (e : UnitError) (xs ys : List UnitError) → xs ≡ [] → IsFirst e ys → IsFirst e (xs ++ ys)
first_of_second e xs ys p h = let P : List UnitError → Type 0 = λ zs. IsFirst e (zs ++ ys) in subst P (sym p) h

pub none_of_joined : (xs ys : List UnitError) → xs ≡ [] → ys ≡ [] → xs ++ ys ≡ []
none_of_joined xs ys p q = λ i. p i ++ q i

-- an operator is one rule's place
pub operator_visited : (s : Source) (st : State) (mark : ℕ) (a b : RawExpr)
    → visit s st (operator mark a b)
    ≡ visit_rule st (wants_width (bin_op_of (kind_at s mark)) && (is_bare s a && is_bare s b))
    (ConstantArithmetic mark)
operator_visited s (going known) mark a b = refl
operator_visited s (stopped fault) mark a b = refl

-- the sites of an operator and its operands
pub binary_visited : (s : Source) (st st1 st2 st3 : State) (e a b : RawExpr) (mark : ℕ) (left broken : Bool)
    → e ≡ binary mark a b → st1 ≡ visit_all s st (expr_sites a) → left ≡ is_bare s a
    → broken ≡ (wants_width (bin_op_of (kind_at s mark)) && (left && is_bare s b))
    → st2 ≡ visit_rule st1 broken (ConstantArithmetic mark) → st3 ≡ visit_all s st2 (expr_sites b)
    → st3 ≡ visit_all s st (expr_sites e)
binary_visited s st st1 st2 st3 e a b mark left broken is one bare wrong two three =
    three
    ∙ ap (λ z. visit_all s z (expr_sites b))
    (two
    ∙ ap (λ c. visit_rule st1 c (ConstantArithmetic mark))
    (wrong ∙ ap (λ l. wants_width (bin_op_of (kind_at s mark)) && (l && is_bare s b)) bare)
    ∙ sym (operator_visited s st1 mark a b)
    ∙ ap (λ z. visit s z (operator mark a b)) one)
    ∙ sym (fold-append (visit s) st (expr_sites a) (operator mark a b ∷ expr_sites b))
    ∙ ap (λ x. visit_all s st (expr_sites x)) (sym is)
