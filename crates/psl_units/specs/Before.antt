-- What the items before one declare.
use Rattle.std.specs.Prelude.{◌≡◌, ℕ, None, List, [], ◌∷◌, fold, map, take}
use Rattle.std.specs.Map.{lookup}
use Rattle.psl_grammar.specs.RawUnit.{RawItem, clock, wire, sequence, property, assert}
use Rattle.psl_grammar.specs.declared.items.RawItem as declared
use Rattle.psl_grammar.specs.UnitView.{item_of}
use Rattle.unit_rules.specs.Source.{Source, bytes_at}
use Rattle.unit_rules.specs.Known.{same_name}
use Rattle.unit_rules.specs.Placed.{Bodies, no_bodies, bodies_after}

-- the bodies of the sequences and properties that the first items declare, by name
abbrev pub bodies_before : Source → List declared.RawItem → (count : ℕ) → Bodies
bodies_before s items count =
    fold (λ bodies item. bodies_after s bodies (item_of item)) no_bodies (take count items)

-- an item that declares no name of a sequence or property before it again
abbrev pub IsNew : Source → Bodies → RawItem → Type 0
IsNew s bodies (clock token) = Unit {0}
IsNew s bodies (wire range names) = Unit {0}
IsNew s bodies (sequence token r) = lookup (same_name (bytes_at s token)) bodies.sequences ≡ None
IsNew s bodies (property token f) = lookup (same_name (bytes_at s token)) bodies.properties ≡ None
IsNew s bodies (assert word tag f report) = Unit {0}

abbrev pub AreNew : Source → Bodies → List RawItem → Type 0
AreNew s bodies [] = Unit {0}
AreNew s bodies (item ∷ items) = IsNew s bodies item × AreNew s (bodies_after s bodies item) items
