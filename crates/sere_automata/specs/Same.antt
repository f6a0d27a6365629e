-- That a comparison of states answers true only at the same one, from the same of the parts' states.
use Rattle.std.specs.Prelude.{◌≡◌, Bool, false, refl}
use Rattle.std.proofs.Common.{◌∙◌, sym, ap}
use Rattle.std.proofs.lemmas.Bool.{false≢true}
use Rattle.automata_product.specs.Same.{IsExact}
use Rattle.sere_automata.specs.declared.states.LeafState.{LeafState}
use Rattle.sere_automata.specs.declared.states.LeafState.TheVariants.{Start, End}
use Rattle.sere_automata.specs.declared.states.Choice.{Choice}
use Rattle.sere_automata.specs.declared.states.Choice.TheVariants as choice
use Rattle.sere_automata.specs.declared.states.Round.{Round}
use Rattle.sere_automata.specs.declared.states.Round.TheVariants as round

pub same_leaf : (eq : LeafState → LeafState → Bool) → eq Start End ≡ false → eq End Start ≡ false → IsExact eq
same_leaf eq se es Start Start h = refl
same_leaf eq se es Start End h = absurd (false≢true (sym se ∙ h))
same_leaf eq se es End Start h = absurd (false≢true (sym es ∙ h))
same_leaf eq se es End End h = refl

-- the comparison of states of a repetition compares as that of the part does
pub record ComparesRounds {S : Type 0} (eq : Round S → Round S → Bool) (inners : S → S → Bool) : Type 0 where
  pub inner : (p q : S) → eq (round.Inner p) (round.Inner q) ≡ inners p q
  pub new_inner : (q : S) → eq round.New (round.Inner q) ≡ false
  pub inner_new : (p : S) → eq (round.Inner p) round.New ≡ false

pub same_round : {S : Type 0} {inners : S → S → Bool} → IsExact inners → {eq : Round S → Round S → Bool} →
    ComparesRounds eq inners → IsExact eq
same_round exact compares round.New round.New h = refl
same_round exact compares round.New (round.Inner q) h = absurd (false≢true (sym (compares.new_inner q) ∙ h))
same_round exact compares (round.Inner p) round.New h = absurd (false≢true (sym (compares.inner_new p) ∙ h))
same_round exact compares (round.Inner p) (round.Inner q) h =
    ap (λ s. round.Inner s) (exact p q (sym (compares.inner p q) ∙ h))

-- the comparison of states of a choice compares as those of the parts do
pub record ComparesChoices {S T : Type 0} (eq : Choice S T → Choice S T → Bool)
    (lefts : S → S → Bool) (rights : T → T → Bool) : Type 0 where
  pub left : (p q : S) → eq (choice.Left p) (choice.Left q) ≡ lefts p q
  pub right : (p q : T) → eq (choice.Right p) (choice.Right q) ≡ rights p q
  pub new_left : (p : S) → eq choice.New (choice.Left p) ≡ false
  pub new_right : (q : T) → eq choice.New (choice.Right q) ≡ false
  pub left_new : (p : S) → eq (choice.Left p) choice.New ≡ false
  pub right_new : (q : T) → eq (choice.Right q) choice.New ≡ false
  pub left_right : (p : S) (q : T) → eq (choice.Left p) (choice.Right q) ≡ false
  pub right_left : (q : T) (p : S) → eq (choice.Right q) (choice.Left p) ≡ false

pub same_choice : {S T : Type 0} {lefts : S → S → Bool} {rights : T → T → Bool} → IsExact lefts → IsExact rights →
    {eq : Choice S T → Choice S T → Bool} → ComparesChoices eq lefts rights → IsExact eq
same_choice first second is choice.New choice.New h = refl
same_choice first second is choice.New (choice.Left p) h = absurd (false≢true (sym (is.new_left p) ∙ h))
same_choice first second is choice.New (choice.Right q) h = absurd (false≢true (sym (is.new_right q) ∙ h))
same_choice first second is (choice.Left p) choice.New h = absurd (false≢true (sym (is.left_new p) ∙ h))
same_choice first second is (choice.Left p) (choice.Left q) h =
    ap (λ s. choice.Left s) (first p q (sym (is.left p q) ∙ h))
same_choice first second is (choice.Left p) (choice.Right q) h = absurd (false≢true (sym (is.left_right p q) ∙ h))
same_choice first second is (choice.Right q) choice.New h = absurd (false≢true (sym (is.right_new q) ∙ h))
same_choice first second is (choice.Right q) (choice.Left p) h = absurd (false≢true (sym (is.right_left q p) ∙ h))
same_choice first second is (choice.Right p) (choice.Right q) h =
    ap (λ s. choice.Right s) (second p q (sym (is.right p q) ∙ h))
