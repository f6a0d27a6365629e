-- The names of sequences and properties by which bodies are found.
use Rattle.std.specs.Prelude.{◌≡◌, ℕ, ◌+◌, ◌<◌, ◌≤◌, Option, None, Some, option_map, List, All, length, take, sum_by}
use Rattle.std.specs.Prelude.{slice_get}
use Rattle.std.specs.Map.{lookup}
use Rattle.psl_grammar.specs.RawSere as sere
use Rattle.psl_grammar.specs.RawProp as prop
use Rattle.psl_grammar.specs.RawUnit as u
use Rattle.psl_grammar.specs.declared.items.RawItem.{RawItem}
use Rattle.psl_grammar.specs.UnitView.{item_of}
use Rattle.unit_rules.specs.Source.{Source}
use Rattle.unit_rules.specs.Known.{same_name}
use Rattle.unit_rules.specs.Placed.{Bodies, placed_sere, placed_prop}
use Rattle.unit_rules.specs.Fitting.{ItemFits, SereFits, PropFits}
use Rattle.psl_units.specs.declared.names.Scope.{Scope}
use Rattle.psl_units.specs.Before.{bodies_before}
use Rattle.psl_units.specs.inner.Places.{IsPlace, PlainNames, plain_names}

-- ---- the bodies that items declare

abbrev pub sequence_of : u.RawItem → Option sere.RawSere
sequence_of (u.clock token) = None
sequence_of (u.wire range names) = None
sequence_of (u.sequence token r) = Some r
sequence_of (u.property token f) = None
sequence_of (u.assert word tag f report) = None

abbrev pub property_of : u.RawItem → Option prop.RawProp
property_of (u.clock token) = None
property_of (u.wire range names) = None
property_of (u.sequence token r) = None
property_of (u.property token f) = Some f
property_of (u.assert word tag f report) = None

abbrev pub sequence_in : Option RawItem → Option sere.RawSere
sequence_in None = None
sequence_in (Some item) = sequence_of (item_of item)

abbrev pub property_in : Option RawItem → Option prop.RawProp
property_in None = None
property_in (Some item) = property_of (item_of item)

-- the sequence that the item at a place declares, names put in place
abbrev pub sequence_at : Source → List RawItem → ℕ → Option sere.RawSere
sequence_at s items place =
    option_map (placed_sere s (bodies_before s items place)) (sequence_in (slice_get items place))

abbrev pub property_at : Source → List RawItem → ℕ → Option prop.RawProp
property_at s items place =
    option_map (placed_prop s (bodies_before s items place)) (property_in (slice_get items place))

-- ---- names

-- the names are those that the first items declare
pub record AreNames (s : Source) (items : List RawItem) (count : ℕ) (names : PlainNames) : Type 0 where
  pub sequences : (name : List ℕ) → IsPlace count
      (λ upto. lookup (same_name name) (bodies_before s items upto).sequences) (sequence_at s items)
      (lookup (same_name name) names.sequences)
  pub properties : (name : List ℕ) → IsPlace count
      (λ upto. lookup (same_name name) (bodies_before s items upto).properties) (property_at s items)
      (lookup (same_name name) names.properties)

-- what a reader of bodies needs of the items and their names
pub record IsScope (s : Source) (scope : Scope) : Type 0 where
  pub within : scope.upto ≤ length scope.items.now
  pub fit : All (λ item. ItemFits s (item_of item)) scope.items.now
  pub named : AreNames s scope.items.now (length scope.items.now) (plain_names scope.names.now)

abbrev pub bodies_of : Source → Scope → Bodies
bodies_of s scope = bodies_before s scope.items.now scope.upto

-- ---- how much is left to read

abbrev pub item_size : u.RawItem → ℕ
item_size (u.clock token) = 1
item_size (u.wire range names) = 1
item_size (u.sequence token r) = 1 + sere.sere_size r
item_size (u.property token f) = 1 + prop.prop_size f
item_size (u.assert word tag f report) = 1

abbrev pub sizes_before : Scope → ℕ
sizes_before scope = sum_by (λ item. item_size (item_of item)) (take scope.upto scope.items.now)

-- ---- bodies that are found

-- a sequence that a name stands for, with the scope in which its own names are read
pub record IsFoundSequence (s : Source) (scope : Scope) (name : List ℕ) (inner : Scope) (r : sere.RawSere)
    : Type 0 where
  pub scoped : IsScope s inner
  pub body : lookup (same_name name) (bodies_of s scope).sequences ≡ Some (placed_sere s (bodies_of s inner) r)
  pub smaller : sizes_before inner + sere.sere_size r < sizes_before scope
  pub fits : SereFits s r

pub record IsFoundProperty (s : Source) (scope : Scope) (name : List ℕ) (inner : Scope) (f : prop.RawProp)
    : Type 0 where
  pub scoped : IsScope s inner
  pub body : lookup (same_name name) (bodies_of s scope).properties ≡ Some (placed_prop s (bodies_of s inner) f)
  pub smaller : sizes_before inner + prop.prop_size f < sizes_before scope
  pub fits : PropFits s f
