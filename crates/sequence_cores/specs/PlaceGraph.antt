-- The place graph of a core sequence: its places, the one where it starts, those that accept, and the labelled steps
-- between them. It serves limits alone. A power is its copies joined from the left, as what it means has it.
--
-- `label` gives the label of a Boolean, and `join` that of two labels that are read together.
use Rattle.std.specs.Prelude.{◌≡◌, ◌⊎◌, Bool, true, false, ◌&&◌, ◌||◌, IsTrue, List, [], ◌∷◌, ◌++◌, map}
use Rattle.psl_model.specs.Expr.{Expr}
use Rattle.psl_meaning.specs.Sequence.{CoreSere, bool, empty, concat, fuse, or, both, star}

pub data Place : Type 0 where
  -- where a Boolean, `[*0]`, a choice or a repetition starts
  first : Place
  -- where a Boolean ends
  last : Place
  -- a place of the left part, of the right part, of both, of what is repeated
  left : Place → Place
  right : Place → Place
  pair : (one other : Place) → Place
  inner : Place → Place

-- each place of the left part with each of the right
abbrev pub pairs : List Place → List Place → List Place
pairs [] qs = []
pairs (p ∷ ps) qs = map (pair p) qs ++ pairs ps qs

abbrev pub places_in : CoreSere → List Place
places_in (bool b) = first ∷ last ∷ []
places_in empty = first ∷ []
places_in (concat r s) = map left (places_in r) ++ map right (places_in s)
places_in (fuse r s) = map left (places_in r) ++ map right (places_in s)
places_in (or r s) = first ∷ map left (places_in r) ++ map right (places_in s)
places_in (both r s) = pairs (places_in r) (places_in s)
places_in (star r) = first ∷ map inner (places_in r)

abbrev pub start_of : CoreSere → Place
start_of (bool b) = first
start_of empty = first
start_of (concat r s) = left (start_of r)
start_of (fuse r s) = left (start_of r)
start_of (or r s) = first
start_of (both r s) = pair (start_of r) (start_of s)
start_of (star r) = first

-- the place ends a word of the sequence
abbrev pub accepts : CoreSere → Place → Bool
accepts (bool b) last = true
accepts empty first = true
accepts (concat r s) (left p) = accepts r p && accepts s (start_of s)
accepts (concat r s) (right q) = accepts s q
accepts (fuse r s) (right q) = accepts s q
accepts (or r s) first = accepts r (start_of r) || accepts s (start_of s)
accepts (or r s) (left p) = accepts r p
accepts (or r s) (right q) = accepts s q
accepts (both r s) (pair p q) = accepts r p && accepts s q
accepts (star r) first = true
accepts (star r) (inner p) = accepts r p
accepts _ _ = false

-- a step leads from the one place to the other by x
abbrev pub Step : {L : Type 0} → (label : Expr → L) → (join : L → L → L) → CoreSere → Place → L → Place → Type 0
Step label join (bool b) first x last = x ≡ label b
Step label join (concat r s) (left p) x (left p') = Step label join r p x p'
Step label join (concat r s) (right q) x (right q') = Step label join s q x q'
-- what follows begins where the left part ends
Step label join (concat r s) (left p) x (right q') = IsTrue (accepts r p) × Step label join s (start_of s) x q'
Step label join (fuse r s) (left p) x (left p') = Step label join r p x p'
Step label join (fuse r s) (right q) x (right q') = Step label join s q x q'
-- the last step of the left part and the first of the right one together
Step {L} label join (fuse r s) (left p) x (right q') = (y z : L) × (p' : Place) × Step label join r p y p' ×
    IsTrue (accepts r p') × Step label join s (start_of s) z q' × (x ≡ join y z)
Step label join (or r s) first x (left p') = Step label join r (start_of r) x p'
Step label join (or r s) first x (right q') = Step label join s (start_of s) x q'
Step label join (or r s) (left p) x (left p') = Step label join r p x p'
Step label join (or r s) (right q) x (right q') = Step label join s q x q'
Step {L} label join (both r s) (pair p q) x (pair p' q') = (y z : L) × Step label join r p y p' ×
    Step label join s q z q' × (x ≡ join y z)
Step label join (star r) first x (inner p') = Step label join r (start_of r) x p'
Step label join (star r) (inner p) x (inner p') = Step label join r p x p' ⊎
    (IsTrue (accepts r p) × Step label join r (start_of r) x p')
Step _ _ _ _ _ _ = ⊥

-- a step by which these Booleans are read together
abbrev pub Reads : CoreSere → Place → List Expr → Place → Type 0
Reads = Step (λ b. b ∷ []) (λ x y. x ++ y)
