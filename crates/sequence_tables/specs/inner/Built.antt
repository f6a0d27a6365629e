-- What the steps of building a table give.
use Rattle.std.specs.Prelude.{◌↔◌, ◌<◌, List, All, length}
use Rattle.psl_model.specs.Expr.{Expr}
use Rattle.psl_meaning.specs.Sequence.{CoreSere, bool, empty, concat, fuse, or, both, star}
use Rattle.symbol_alphabet.specs.Symbols.{label_in, HasSymbol}
use Rattle.auto_core.specs.Graph.{Graph, graph_machine, IsReachedPart}
use Rattle.auto_core.specs.Machine.{Machine, Letter, Accepts}
use Rattle.sequence_tables.specs.PlaceTable.{IsPlaceTable}
use Rattle.sequence_tables.specs.Words.{AcceptsTight}

-- the table is the reached part of the machine, whose states are its own, and accepts what the machine does
abbrev pub IsTableOf : {S : Type 0} → (S → Type 0) → Machine S → Graph → Type 0
IsTableOf {S} own m g =
    ((states : List S) × All own states × IsReachedPart m states g)
    × ((w : List Letter) → Accepts (graph_machine g) w ↔ Accepts m w)

-- the symbols have what the label of each Boolean speaks of
abbrev pub HasSymbols : (symbols : List Expr) → CoreSere → Type 0
HasSymbols symbols (bool b) = HasSymbol symbols b
HasSymbols symbols empty = Unit {0}
HasSymbols symbols (concat r s) = HasSymbols symbols r × HasSymbols symbols s
HasSymbols symbols (fuse r s) = HasSymbols symbols r × HasSymbols symbols s
HasSymbols symbols (or r s) = HasSymbols symbols r × HasSymbols symbols s
HasSymbols symbols (both r s) = HasSymbols symbols r × HasSymbols symbols s
HasSymbols symbols (star r) = HasSymbols symbols r

-- The table is that of the sequence, over these symbols.
pub record Stands (symbols : List Expr) (r : CoreSere) (g : Graph) : Type 0 where
  pub graph : IsPlaceTable (label_in symbols) r g
  pub words : AcceptsTight symbols r g
  pub booleans : HasSymbols symbols r
  -- each symbol on a label is numbered
  pub numbered : All (λ e. All (λ l. l.symbol < length symbols) e.label) g.edges

-- of the table of each sequence, whatever the symbols, it is that of another
abbrev pub Makes : (CoreSere → CoreSere) → Graph → Graph → Type 0
Makes form g t = (symbols : List Expr) (r : CoreSere) → Stands symbols r g → Stands symbols (form r) t

abbrev pub MakesOfTwo : (CoreSere → CoreSere → CoreSere) → Graph → Graph → Graph → Type 0
MakesOfTwo form g h t =
    (symbols : List Expr) (r s : CoreSere) → Stands symbols r g → Stands symbols s h → Stands symbols (form r s) t
