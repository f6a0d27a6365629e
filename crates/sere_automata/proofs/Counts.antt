-- How many edges a state of each machine has at most.
use Rattle.std.proofs.Common.{◌≡◌, ℕ, ◌+◌, ◌≤◌, Bool, true, false, cond, List, [], ◌++◌, map, length, arith}
use Rattle.std.proofs.Common.{length-append}
use Rattle.std.proofs.lemmas.List.{length-map}
use Rattle.auto_core.specs.declared.labels.Literal.{Literal}
use Rattle.auto_core.specs.Edges.{renamed, HasAtMost}
use Rattle.auto_core.specs.Machine.{Machine}
use Rattle.automata_product.specs.declared.side.Side.{Side}
use Rattle.automata_product.specs.declared.side.Side.TheVariants as side
use Rattle.automata_product.specs.Sides.{OfSides}
use Rattle.sere_automata.specs.declared.states.LeafState.{LeafState}
use Rattle.sere_automata.specs.declared.states.LeafState.TheVariants.{Start, End}
use Rattle.sere_automata.specs.declared.states.Choice.{Choice}
use Rattle.sere_automata.specs.declared.states.Choice.TheVariants as choice
use Rattle.sere_automata.specs.declared.states.Round.{Round}
use Rattle.sere_automata.specs.declared.states.Round.TheVariants as round
use Rattle.sere_automata.specs.Concat.{concat_machine}
use Rattle.sere_automata.specs.Leaf.{leaf_machine}
use Rattle.sere_automata.specs.OneOf.{one_of_machine}
use Rattle.sere_automata.specs.Repeat.{repeat_machine}
use Rattle.sere_automata.specs.States.{OfChoice, OfRound}

pub leaf_few : (label : List Literal) (s : LeafState) → length ((leaf_machine label).edges s) ≤ 1
leaf_few label Start = omega arith
leaf_few label End = omega arith

if_le : {X : Type 0} (b : Bool) (xs : List X) → length (cond b xs []) ≤ length xs
if_le true xs = omega arith
if_le false xs = omega arith

-- edges, and on a condition others after them
then_le : {S T U : Type 0} (f : S → U) (g : T → U) (b : Bool) (es : List (List Literal × S))
    (fs : List (List Literal × T)) →
    length (map (renamed f) es ++ cond b (map (renamed g) fs) []) ≤ length es + length fs
then_le f g b es fs =
    omega (
      arith,
      if_le b (map (renamed g) fs),
      length-map es (renamed f),
      length-map fs (renamed g),
      length-append (map (renamed f) es) (cond b (map (renamed g) fs) []),
    )

module _ {S : Type 0} (m : Machine S) where
  pub repeat_new : length ((repeat_machine m).edges round.New) ≡ length (m.edges m.start)
  repeat_new = length-map (m.edges m.start) (renamed {U = Round S} round.Inner)

  pub repeat_inner : (p : S) → length ((repeat_machine m).edges (round.Inner p)) ≤ length (m.edges p) + length
      (m.edges m.start)
  repeat_inner p = then_le {U = Round S} round.Inner round.Inner (m.accepts p) (m.edges p) (m.edges m.start)

  module _ {own : S → Type 0} (i : ℕ) (few : HasAtMost own m i) where
    repeat_each : (s : Round S) → OfRound own s → length ((repeat_machine m).edges s) ≤ i + i
    repeat_each round.New o = omega (arith, repeat_new, few.start)
    repeat_each (round.Inner p) o = omega (arith, repeat_inner p, few.start, few.each p o)

    pub repeat_few : HasAtMost (OfRound own) (repeat_machine m) (i + i)
    repeat_few = record { start = repeat_each round.New tt; each = repeat_each }

module _ {S T : Type 0} (m : Machine S) (n : Machine T) where
  pub concat_left : (p : S) →
      length ((concat_machine m n).edges (side.Left p)) ≤ length (m.edges p) + length (n.edges n.start)
  concat_left p = then_le {U = Side S T} side.Left side.Right (m.accepts p) (m.edges p) (n.edges n.start)

  pub concat_right : (q : T) → length ((concat_machine m n).edges (side.Right q)) ≡ length (n.edges q)
  concat_right q = length-map (n.edges q) (renamed {U = Side S T} side.Right)

  pub one_of_new :
      length ((one_of_machine m n).edges choice.New) ≡ length (m.edges m.start) + length (n.edges n.start)
  one_of_new =
      omega (
        arith,
        length-map (m.edges m.start) (renamed {U = Choice S T} choice.Left),
        length-map (n.edges n.start) (renamed {U = Choice S T} choice.Right),
        length-append (map (renamed {U = Choice S T} choice.Left) (m.edges m.start))
            (map (renamed {U = Choice S T} choice.Right) (n.edges n.start)),
      )

  pub one_of_left : (p : S) → length ((one_of_machine m n).edges (choice.Left p)) ≡ length (m.edges p)
  one_of_left p = length-map (m.edges p) (renamed {U = Choice S T} choice.Left)

  pub one_of_right : (q : T) → length ((one_of_machine m n).edges (choice.Right q)) ≡ length (n.edges q)
  one_of_right q = length-map (n.edges q) (renamed {U = Choice S T} choice.Right)

  module _ {own : S → Type 0} {owns : T → Type 0} (i j : ℕ) (few : HasAtMost own m i) (more : HasAtMost owns n j) where
    concat_each : (s : Side S T) → OfSides own owns s → length ((concat_machine m n).edges s) ≤ i + j
    concat_each (side.Left p) o = omega (arith, concat_left p, few.each p o, more.start)
    concat_each (side.Right q) o = omega (arith, concat_right q, more.each q o)

    pub concat_few : HasAtMost (OfSides own owns) (concat_machine m n) (i + j)
    concat_few = record { start = omega (arith, concat_left m.start, few.start, more.start); each = concat_each }

    one_of_each : (s : Choice S T) → OfChoice own owns s → length ((one_of_machine m n).edges s) ≤ i + j
    one_of_each choice.New o = omega (arith, one_of_new, few.start, more.start)
    one_of_each (choice.Left p) o = omega (arith, one_of_left p, few.each p o)
    one_of_each (choice.Right q) o = omega (arith, one_of_right q, more.each q o)

    pub one_of_few : HasAtMost (OfChoice own owns) (one_of_machine m n) (i + j)
    one_of_few = record { start = one_of_each choice.New tt; each = one_of_each }
