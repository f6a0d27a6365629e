-- The limits on the depth and the nodes of directives, over their measures.
use Rattle.std.specs.Prelude.{ℕ, ◌+◌, min, nat_lt, if◌then◌else◌, Option, None, Some, List, [], ◌∷◌}
use Rattle.unit_rules.specs.declared.errors.UnitError.{UnitError}
use Rattle.unit_rules.specs.declared.errors.UnitError.TheVariants.{TooTall, TooLarge}
use Rattle.unit_rules.specs.declared.measures.Measure.{Measure}
use Rattle.unit_rules.specs.Limits.{depth_limit, node_limit}
use Rattle.unit_rules.specs.Measures.{most}

-- the first measure that is too deep, of those numbered from `number` on
abbrev pub tall_among : (number : ℕ) → List Measure → Option UnitError
tall_among number [] = None
tall_among number (m ∷ ms) = if nat_lt depth_limit m.depth then Some (TooTall number m.depth) else tall_among
    (number + 1) ms

-- the first measure up to which there are too many nodes, where those before have `nodes`
abbrev pub large_among : (number nodes : ℕ) → List Measure → Option UnitError
large_among number nodes [] = None
large_among number nodes (m ∷ ms) =
    if nat_lt node_limit (nodes + m.nodes) then Some (TooLarge number (min (nodes + m.nodes) most)) else large_among
    (number + 1) (nodes + m.nodes) ms
