-- Named sequences and properties put in place: raw trees without names.
use Rattle.std.specs.Prelude.{ℕ, Option, unwrap_or, List, [], ◌∷◌, ◌++◌}
use Rattle.std.specs.Map.{lookup}
use Rattle.indexmap.specs.IndexMap.{insert_entry}
use Rattle.psl_grammar.specs.RawSere as sere
use Rattle.psl_grammar.specs.RawProp as prop
use Rattle.psl_grammar.specs.RawUnit.{RawItem, RawUnit, clock, wire, sequence, property, assert}
use Rattle.unit_rules.specs.Source.{Source, bytes_at}
use Rattle.unit_rules.specs.Known.{same_name}

-- the bodies of the sequences and properties that some items declare, by name. A later body takes the place of an
-- earlier one of its name.
pub record Bodies : Type 0 where
  pub sequences : List (List ℕ × sere.RawSere)
  pub properties : List (List ℕ × prop.RawProp)

abbrev pub no_bodies : Bodies
no_bodies = record { sequences = []; properties = [] }

abbrev pub placed_sere : Source → Bodies → sere.RawSere → sere.RawSere
placed_sere s bodies (sere.bool e) = sere.bool e
placed_sere s bodies (sere.named token) =
    unwrap_or (lookup (same_name (bytes_at s token)) bodies.sequences) (sere.named token)
placed_sere s bodies (sere.lone mark low high) = sere.lone mark low high
placed_sere s bodies (sere.repeat r mark low high) = sere.repeat (placed_sere s bodies r) mark low high
placed_sere s bodies (sere.join mark r t) = sere.join mark (placed_sere s bodies r) (placed_sere s bodies t)

abbrev pub placed_prop : Source → Bodies → prop.RawProp → prop.RawProp
placed_prop s bodies (prop.bool e) = prop.bool e
placed_prop s bodies (prop.named token) =
    unwrap_or (lookup (same_name (bytes_at s token)) bodies.properties) (prop.named token)
placed_prop s bodies (prop.seq r strong) = prop.seq (placed_sere s bodies r) strong
placed_prop s bodies (prop.prefix word f) = prop.prefix word (placed_prop s bodies f)
placed_prop s bodies (prop.next word on low high f) = prop.next word on low high (placed_prop s bodies f)
placed_prop s bodies (prop.binary mark f g) = prop.binary mark (placed_prop s bodies f) (placed_prop s bodies g)
placed_prop s bodies (prop.suffix mark r f) = prop.suffix mark (placed_sere s bodies r) (placed_prop s bodies f)
placed_prop s bodies (prop.abort f e) = prop.abort (placed_prop s bodies f) e

-- a body is put in place with the bodies of the items before
abbrev pub bodies_after : Source → Bodies → RawItem → Bodies
bodies_after s bodies (clock token) = bodies
bodies_after s bodies (wire range names) = bodies
bodies_after s bodies (sequence token r) =
    record bodies { sequences = insert_entry same_name bodies.sequences (bytes_at s token) (placed_sere s bodies r) }
bodies_after s bodies (property token f) =
    record bodies { properties = insert_entry same_name bodies.properties (bytes_at s token) (placed_prop s bodies f) }
bodies_after s bodies (assert word tag f report) = bodies

-- a directive as it is written, names put in place
pub record Placed : Type 0 where
  pub label : Option ℕ
  pub report : Option ℕ
  pub body : prop.RawProp

abbrev pub placed_item : Source → Bodies → RawItem → List Placed
placed_item s bodies (clock token) = []
placed_item s bodies (wire range names) = []
placed_item s bodies (sequence token r) = []
placed_item s bodies (property token f) = []
placed_item s bodies (assert word tag f report) = record { label = tag; report = report; body = placed_prop s bodies f }
    ∷ []

-- the directives of some items, in their order
abbrev pub placed_items : Source → Bodies → List RawItem → List Placed
placed_items s bodies [] = []
placed_items s bodies (item ∷ items) = placed_item s bodies item ++ placed_items s (bodies_after s bodies item) items

abbrev pub placed_unit : Source → RawUnit → List Placed
placed_unit s raw = placed_items s no_bodies raw.items
