-- Nodes that read earlier places of a table.
--     node_value table n         a node's value over a table
--     IsTape nodes               each node reads places before its own
--     Meets first nodes table    from the first place on, the table has each node's value at its place
use Rattle.std.specs.Prelude.{◌≡◌, ℕ, ◌/◌, ◌%◌, ◌^◌, ◌<◌, ◌≤◌, List, slice_index, slice_get, Some}
use Rattle.std.specs.Prelude.{if◌then◌else◌, ◌==◌}
use Rattle.psl_model.specs.Limits.{vector_limit}
use Rattle.psl_model.specs.Value.{unary_value, binary_value}
use Rattle.verilog_cycles.specs.declared.nodes.Node.{Node}
use Rattle.verilog_cycles.specs.declared.nodes.Node.TheVariants.{Number, Part, Unary, Binary, Choice}

abbrev pub node_value : List ℕ → Node → ℕ
node_value table (Number number) = number
node_value table (Part place low width) = slice_index table place / 2 ^ low % 2 ^ width
node_value table (Unary op width a) = unary_value op width (slice_index table a)
node_value table (Binary op context a b) = binary_value op context (slice_index table a) (slice_index table b)
node_value table (Choice test first second) =
    if slice_index table test == 0 then slice_index table second else slice_index table first

-- it reads places below `count`, and is taken at second more bits than a vector has
abbrev pub IsNode : (count : ℕ) → Node → Type 0
IsNode count (Number number) = Unit {0}
IsNode count (Part place low width) = (place < count) × (low < vector_limit) × (width ≤ vector_limit)
IsNode count (Unary op width a) = (width ≤ vector_limit) × (a < count)
IsNode count (Binary op context a b) = (context ≤ vector_limit) × (a < count) × (b < count)
IsNode count (Choice test first second) = (test < count) × (first < count) × (second < count)

abbrev pub IsTape : List Node → Type 0
IsTape nodes = (k : ℕ) (n : Node) → slice_get nodes k ≡ Some n → IsNode k n

abbrev pub Meets : (first : ℕ) → List Node → (table : List ℕ) → Type 0
Meets first nodes table =
    (k : ℕ) (n : Node) → first ≤ k → slice_get nodes k ≡ Some n → slice_index table k ≡ node_value table n
