-- Where the bodies that names stand for are declared.
use Rattle.std.specs.Prelude.{◌≡◌, ℕ, ◌<◌, ◌≤◌, nat_lt, if◌then◌else◌, Option, None, Some, IsSome, IfSome, unwrap_or}
use Rattle.std.specs.Prelude.{List, []}
use Rattle.std.specs.Map.{lookup}
use Rattle.indexmap.specs.IndexMap.{insert_entry}
use Rattle.psl_grammar.specs.RawSere as sere
use Rattle.psl_grammar.specs.RawProp as prop
use Rattle.psl_grammar.specs.RawUnit.{RawItem, clock, wire, sequence, property, assert}
use Rattle.unit_rules.specs.Source.{Source, bytes_at}
use Rattle.unit_rules.specs.Known.{same_name}
use Rattle.psl_units.specs.declared.names.Place.{Place}
use Rattle.psl_units.specs.declared.names.Names.{Names}

-- ---- one name

-- the item whose body a name of such a place stands for, behind the first items
abbrev pub body_place : Option Place → (upto : ℕ) → Option ℕ
body_place None upto = None
body_place (Some place) upto = if nat_lt place.item upto then Some place.body else None

abbrev pub at_place : {T : Type 0} → (worth : ℕ → Option T) → Option ℕ → Option T
at_place worth None = None
at_place worth (Some place) = worth place

-- A name has this place among the first items: `stands upto` is the body that it stands for behind `upto` items, and
-- `worth place` the body that an item declares.
pub record IsPlace {T : Type 0} (count : ℕ) (stands worth : ℕ → Option T) (place : Option Place) : Type 0 where
  pub body : (upto : ℕ) → upto ≤ count → stands upto ≡ at_place worth (body_place place upto)
  pub before : IfSome place (λ p. p.item < count)
  pub earlier : IfSome place (λ p. p.body ≤ p.item)
  pub declares : IfSome place (λ p. IsSome (worth p.body))

-- ---- all names

abbrev pub Places : Type 0
Places = List (List ℕ × Place)

pub record PlainNames : Type 0 where
  pub sequences : Places
  pub properties : Places

abbrev pub plain_names : Names → PlainNames
plain_names names = record { sequences = names.sequences.entries; properties = names.properties.entries }

abbrev pub no_names : PlainNames
no_names = record { sequences = []; properties = [] }

-- the place of the name that a token is
abbrev pub place_of : Source → Places → (token : ℕ) → Option Place
place_of s places token = lookup (same_name (bytes_at s token)) places

-- the item whose body a declared one is: where it is just a name, that of the name
abbrev pub sequence_place : Source → Places → (item : ℕ) → sere.RawSere → ℕ
sequence_place s places item (sere.named token) = unwrap_or (body_place (place_of s places token) item) item
sequence_place s places item r = item

abbrev pub property_place : Source → Places → (item : ℕ) → prop.RawProp → ℕ
property_place s places item (prop.named token) = unwrap_or (body_place (place_of s places token) item) item
property_place s places item f = item

abbrev pub with_place : Source → Places → (token item body : ℕ) → Places
with_place s places token item body =
    insert_entry same_name places (bytes_at s token) (record { item = item; body = body })

abbrev pub names_after : Source → PlainNames → (item : ℕ) → RawItem → PlainNames
names_after s names item (clock token) = names
names_after s names item (wire range tokens) = names
names_after s names item (sequence token r) =
    record names { sequences = with_place s names.sequences token item (sequence_place s names.sequences item r) }
names_after s names item (property token f) =
    record names { properties = with_place s names.properties token item (property_place s names.properties item f) }
names_after s names item (assert word tag f report) = names
