-- The edges of each machine's states as the edges of a state of one part and after them those of another.
use Rattle.std.proofs.Common.{◌≡◌, Bool, true, false, map, sym, ap, ◌∙◌}
use Rattle.auto_core.specs.Edges.{renamed}
use Rattle.auto_core.specs.Machine.{Machine}
use Rattle.automata_product.specs.declared.side.Side.{Side}
use Rattle.automata_product.specs.declared.side.Side.TheVariants as side
use Rattle.automata_product.specs.Sides.{either_edges}
use Rattle.sere_automata.specs.declared.states.Choice.{Choice}
use Rattle.sere_automata.specs.declared.states.Choice.TheVariants as choice
use Rattle.sere_automata.specs.declared.states.Round.{Round}
use Rattle.sere_automata.specs.declared.states.Round.TheVariants as round
use Rattle.sere_automata.specs.Concat.{concat_edges}
use Rattle.sere_automata.specs.OneOf.{one_of_edges}
use Rattle.sere_automata.specs.Repeat.{repeat_edges}
use Rattle.sere_automata.proofs.Follow.{followed, alone, either_renamed}

abbrev pub choice_of : {S T : Type 0} → Side S T → Choice S T
choice_of (side.Left p) = choice.Left p
choice_of (side.Right q) = choice.Right q

abbrev pub round_of : {S : Type 0} → Side S S → Round S
round_of (side.Left p) = round.Inner p
round_of (side.Right q) = round.Inner q

module _ {S T : Type 0} (m : Machine S) (n : Machine T) where
  pub concat_then : (p : S) (q : T) (b : Bool) → b ≡ m.accepts p → b ≡ true → q ≡ n.start →
      either_edges m n p q ≡ concat_edges m n (side.Left p)
  concat_then p q b same holds e =
      ap (λ (r : T). either_edges m n p r) e
      ∙ sym (followed (m.accepts p) (map (renamed side.Left) (m.edges p)) (map (renamed side.Right) (n.edges n.start))
      (sym same ∙ holds))

  pub concat_alone : (p : S) (b : Bool) → b ≡ m.accepts p → b ≡ false →
      map (renamed side.Left) (m.edges p) ≡ concat_edges m n (side.Left p)
  concat_alone p b same fails =
      sym (alone (m.accepts p) (map (renamed side.Left) (m.edges p)) (map (renamed side.Right) (n.edges n.start))
      (sym same ∙ fails))

  pub one_of_first : (p : S) (q : T) → p ≡ m.start → q ≡ n.start →
      map (renamed choice_of) (either_edges m n p q) ≡ one_of_edges m n choice.New
  one_of_first p q e h =
      ap (λ (r : S). map (renamed choice_of) (either_edges m n r q)) e
      ∙ ap (λ (r : T). map (renamed choice_of) (either_edges m n m.start r)) h
      ∙ either_renamed choice_of (m.edges m.start) (n.edges n.start)

module _ {S : Type 0} (m : Machine S) where
  pub repeat_then : (p q : S) (b : Bool) → b ≡ m.accepts p → b ≡ true → q ≡ m.start →
      map (renamed round_of) (either_edges m m p q) ≡ repeat_edges m (round.Inner p)
  repeat_then p q b same holds e =
      ap (λ (r : S). map (renamed round_of) (either_edges m m p r)) e
      ∙ either_renamed round_of (m.edges p) (m.edges m.start)
      ∙ sym (followed (m.accepts p) (map (renamed round.Inner) (m.edges p))
      (map (renamed round.Inner) (m.edges m.start))
      (sym same ∙ holds))

  pub repeat_alone : (p : S) (b : Bool) → b ≡ m.accepts p → b ≡ false →
      map (renamed round.Inner) (m.edges p) ≡ repeat_edges m (round.Inner p)
  repeat_alone p b same fails =
      sym (alone (m.accepts p) (map (renamed round.Inner) (m.edges p)) (map (renamed round.Inner) (m.edges m.start))
      (sym same ∙ fails))
