-- The simple subset, after IEEE 1850-2010, 4.4.4: the formulas that can be checked while a trace comes in. The numbers
-- of the rules, their wording and the order in which they are read are this project's own.
--     is_boolean f       f is an expression, and no operator of formulas
--     broken_at f        the rule that f's own operator breaks: one or none
--     broken_rules f     those that its operators break, in reading order
--     first_broken f     the first of them
--     InSubset f         there is none
use Rattle.std.specs.Prelude.{◌≡◌, ℕ, List, [], ◌∷◌, ◌++◌, Option, Bool, true, false, ◌||◌, ◌&&◌, slice_get}
use Rattle.psl_model.specs.Formula.{Formula, bool, not, and, or, implies, iff, seq, suffix, always, never, eventually}
use Rattle.psl_model.specs.Formula.{next, event, until, before, abort}
use Rattle.psl_model.specs.declared.formulas.Reach.{Reach}
use Rattle.psl_model.specs.declared.formulas.Reach.TheVariants as reach

abbrev pub is_boolean : Formula → Bool
is_boolean (bool e) = true
is_boolean f = false

-- a sequence without `!`
abbrev pub is_plain_sequence : Formula → Bool
is_plain_sequence (seq r false) = true
is_plain_sequence f = false

-- the rule, where its demand isn't met
abbrev pub unless : (demand : Bool) → (rule : ℕ) → List ℕ
unless true rule = []
unless false rule = rule ∷ []

-- a demand on the `_e` forms alone
abbrev pub for_some : Reach → (demand : Bool) → (rule : ℕ) → List ℕ
for_some reach.One demand rule = []
for_some reach.All demand rule = []
for_some reach.Some demand rule = unless demand rule

abbrev pub until_rule : (overlap : Bool) → (left right : Bool) → List ℕ
until_rule false left right = unless right 7
until_rule true left right = unless (left && right) 8

abbrev pub broken_at : Formula → List ℕ
broken_at (bool e) = []
broken_at (not f) = unless (is_boolean f) 1
broken_at (and f g) = []
broken_at (or f g) = unless (is_boolean f || is_boolean g) 4
broken_at (implies f g) = unless (is_boolean f) 5
broken_at (iff f g) = unless (is_boolean f && is_boolean g) 6
broken_at (seq r strong) = []
broken_at (suffix r later f) = []
broken_at (always f) = []
broken_at (never f) = unless (is_boolean f || is_plain_sequence f) 2
broken_at (eventually f) = unless (is_boolean f || is_plain_sequence f) 3
broken_at (next strong r low high f) = for_some r (is_boolean f) 10
broken_at (event on strong r low high f) = for_some r (is_boolean f) 11
broken_at (until strong overlap f g) = until_rule overlap (is_boolean f) (is_boolean g)
broken_at (before strong overlap f g) = unless (is_boolean f && is_boolean g) 9
broken_at (abort f on) = []

-- an operator comes before what stands in its left operand, and that before what stands in its right one
abbrev pub broken_rules : Formula → List ℕ
broken_rules (bool e) = []
broken_rules (not f) = broken_at (not f) ++ broken_rules f
broken_rules (and f g) = broken_at (and f g) ++ broken_rules f ++ broken_rules g
broken_rules (or f g) = broken_at (or f g) ++ broken_rules f ++ broken_rules g
broken_rules (implies f g) = broken_at (implies f g) ++ broken_rules f ++ broken_rules g
broken_rules (iff f g) = broken_at (iff f g) ++ broken_rules f ++ broken_rules g
broken_rules (seq r strong) = []
broken_rules (suffix r later f) = broken_at (suffix r later f) ++ broken_rules f
broken_rules (always f) = broken_at (always f) ++ broken_rules f
broken_rules (never f) = broken_at (never f) ++ broken_rules f
broken_rules (eventually f) = broken_at (eventually f) ++ broken_rules f
broken_rules (next s r l h f) = broken_at (next s r l h f) ++ broken_rules f
broken_rules (event e s r l h f) = broken_at (event e s r l h f) ++ broken_rules f
broken_rules (until s o f g) = broken_at (until s o f g) ++ broken_rules f ++ broken_rules g
broken_rules (before s o f g) = broken_at (before s o f g) ++ broken_rules f ++ broken_rules g
broken_rules (abort f on) = broken_at (abort f on) ++ broken_rules f

abbrev pub first_broken : Formula → Option ℕ
first_broken f = slice_get (broken_rules f) 0

abbrev pub InSubset : Formula → Type 0
InSubset f = broken_rules f ≡ []
