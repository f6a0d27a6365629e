-- Sets of literals, each as the list of its members in order: by symbol, and of one symbol the negative literal first.
use Rattle.std.specs.Prelude.{◌≡◌, Bool, true, not, cond, ◌&&◌, ◌||◌, ◌==◌, nat_lt, List, [], ◌∷◌}
use Rattle.std.specs.List.{AllByRecursion}
use Rattle.std.specs.Bool.{beq}
use Rattle.std.specs.Cmp.Lexicographic.{pointwise}
use Rattle.auto_core.specs.declared.labels.Literal.{Literal}

-- whether a stands before b in a label
abbrev pub precedes : Literal → Literal → Bool
precedes a b = nat_lt a.symbol b.symbol || ((a.symbol == b.symbol) && (not a.positive && b.positive))

-- each literal stands before all that follow it, so none stands there twice
abbrev pub IsLabel : List Literal → Type 0
IsLabel [] = Unit {0}
IsLabel (l ∷ ls) = AllByRecursion (λ m. precedes l m ≡ true) ls × IsLabel ls

-- the set with one more literal, which takes its place in the order unless it is there already
abbrev pub put_literal : Literal → List Literal → List Literal
put_literal l [] = l ∷ []
put_literal l (m ∷ ms) = cond (precedes l m) (l ∷ m ∷ ms) (cond (precedes m l) (m ∷ put_literal l ms) (m ∷ ms))

-- the set with all of these literals put in
abbrev pub put_all : List Literal → List Literal → List Literal
put_all [] ms = ms
put_all (l ∷ ls) ms = put_all ls (put_literal l ms)

-- whether two literals have the same symbol and sign, and two sets the same literals
abbrev pub same_literal : Literal → Literal → Bool
same_literal a b = (a.symbol == b.symbol) && beq a.positive b.positive

abbrev pub same_label : List Literal → List Literal → Bool
same_label = pointwise same_literal
