-- The limits on the depth and the nodes of directives, and the directive that passes one.
use Rattle.std.specs.Prelude.{ℕ, ◌+◌, min, nat_lt, if◌then◌else◌, Option, None, Some, List, [], ◌∷◌, slice_get}
use Rattle.psl_grammar.specs.RawUnit.{RawItem, RawUnit}
use Rattle.unit_rules.specs.declared.errors.UnitError.{UnitError}
use Rattle.unit_rules.specs.declared.errors.UnitError.TheVariants.{TooTall, TooLarge}
use Rattle.unit_rules.specs.Source.{Source}
use Rattle.unit_rules.specs.Faults.{unit_faults}
use Rattle.unit_rules.specs.Placed.{Placed, no_bodies, placed_items}
use Rattle.unit_rules.specs.Measures.{prop_depth, prop_nodes, most}

-- the most levels of a directive, and the most nodes of all directives together
abbrev pub depth_limit : ℕ
depth_limit = 512

abbrev pub node_limit : ℕ
node_limit = 65536

-- the first directive that nests too deep, of those numbered from `number` on
abbrev pub first_tall : (number : ℕ) → List Placed → Option UnitError
first_tall number [] = None
first_tall number (d ∷ ds) =
    if nat_lt depth_limit (prop_depth d.body) then Some (TooTall number (min (prop_depth d.body) most))
    else first_tall (number + 1) ds

-- the first directive up to which there are too many nodes, of those numbered from `number` on, where those before have
-- `nodes`
abbrev pub first_large : (number nodes : ℕ) → List Placed → Option UnitError
first_large number nodes [] = None
first_large number nodes (d ∷ ds) =
    if nat_lt node_limit (nodes + prop_nodes d.body) then Some (TooLarge number (min (nodes + prop_nodes d.body) most))
    else first_large (number + 1) (nodes + prop_nodes d.body) ds

abbrev pub or_else : Option UnitError → Option UnitError → Option UnitError
or_else None other = other
or_else (Some fault) other = Some fault

-- the first directive of some items that is too tall, and where there is none the first up to which they are too large
abbrev pub limit_fault : Source → List RawItem → Option UnitError
limit_fault s items = or_else (first_tall 1 (placed_items s no_bodies items))
    (first_large 1 0 (placed_items s no_bodies items))

-- why a raw tree stands for no unit: the first broken rule, and where none is broken a directive past a limit
abbrev pub refusal : Source → RawUnit → Option UnitError
refusal s raw = or_else (slice_get (unit_faults s raw) 0) (limit_fault s raw.items)
