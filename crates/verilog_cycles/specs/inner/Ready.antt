-- When nodes stand for expressions and for the lines of a module.
--     values_at table places     the values of names, which stand at these places of a table
--     IsReady ..                 nodes were added after which a place has an expression's value
--     IsLine ..                  the same of what a target takes
--     AreFront ..                names stand at their own places
--     AreWires ..                the wires so far have places
--     AreNexts ..                the registers so far have places of what they take
use Rattle.std.specs.Prelude.{◌≡◌, ℕ, ◌+◌, ◌<◌, ◌≤◌, ◌%◌, ◌^◌, max, List, ◌++◌, map, length, slice_index, slice_get}
use Rattle.std.specs.Prelude.{Some, All}
use Rattle.psl_model.specs.Expr.{Expr}
use Rattle.psl_model.specs.Value.{width_of, value_of, FitWidths}
use Rattle.verilog_text.specs.Module.{Wire, Register}
use Rattle.verilog_cycles.specs.declared.nodes.Node.{Node}
use Rattle.verilog_cycles.specs.inner.Nodes.{IsTape, Meets}

abbrev pub values_at : (table places : List ℕ) → List ℕ
values_at table places = map (λ (place : ℕ). slice_index table place) places

-- what a target of this width takes of a right side
abbrev pub taken : (widths values : List ℕ) → (target : ℕ) → Expr → ℕ
taken widths values target e = value_of widths values (max target (width_of widths e)) e % 2 ^ target

-- a list begins with another
abbrev pub Begins : List ℕ → List ℕ → Type 0
Begins front xs = (s : ℕ) → s < length front → slice_index xs s ≡ slice_index front s

pub record Grows (old new : List Node) : Type 0 where
  pub rest : List Node
  pub gained : new ≡ old ++ rest

pub record IsReady (first : ℕ) (widths places : List ℕ) (old new : List Node) (context : ℕ) (e : Expr) (place : ℕ) :
    Type 0 where
  pub grows : Grows old new
  pub tape : IsTape new
  pub within : place < length new
  pub means : (table : List ℕ) → Meets first new table →
      slice_index table place ≡ value_of widths (values_at table places) context e

pub record IsLine (first : ℕ) (widths places : List ℕ) (old new : List Node) (target : ℕ) (e : Expr) (place : ℕ) :
    Type 0 where
  pub grows : Grows old new
  pub tape : IsTape new
  pub within : place < length new
  pub means : (table : List ℕ) → Meets first new table → FitWidths widths (values_at table places) →
      slice_index table place ≡ taken widths (values_at table places) target e

-- names that stand at their own places
pub record AreFront (widths places : List ℕ) (nodes : List Node) : Type 0 where
  pub count : length places ≡ length widths
  pub size : length nodes ≡ length widths
  pub tape : IsTape nodes
  pub ordered : (s : ℕ) → s < length widths → slice_index places s ≡ s

-- `widths` and `places` are those of all names up to the last of these wires, `front` and `fronts` those of the names
-- before the first
pub record AreWires (first : ℕ) (front fronts : List ℕ) (wires : List Wire) (widths places : List ℕ)
    (nodes : List Node) : Type 0 where
  pub fronts_count : length fronts ≡ length front
  pub all : widths ≡ front ++ map (λ (w : Wire). w.width) wires
  pub count : length places ≡ length widths
  pub begins : Begins fronts places
  pub tape : IsTape nodes
  pub room : first ≤ length nodes
  pub within : All (λ p. p < length nodes) places
  pub fits : (table : List ℕ) → Meets first nodes table → FitWidths front (values_at table fronts) →
      FitWidths widths (values_at table places)
  pub settles : (table : List ℕ) → Meets first nodes table → FitWidths front (values_at table fronts) →
      (k : ℕ) (w : Wire) → slice_get wires k ≡ Some w →
      (longer values : List ℕ) → Begins widths longer → Begins (values_at table places) values →
      slice_index values (length front + k) ≡ taken longer values w.width w.value

pub record AreNexts (first : ℕ) (widths places : List ℕ) (registers : List Register) (nexts : List ℕ)
    (old new : List Node) : Type 0 where
  pub grows : Grows old new
  pub tape : IsTape new
  pub count : length nexts ≡ length registers
  pub within : All (λ p. p < length new) nexts
  pub means : (table : List ℕ) → Meets first new table → FitWidths widths (values_at table places) →
      (k : ℕ) (r : Register) → slice_get registers k ≡ Some r →
      slice_index table (slice_index nexts k) ≡ taken widths (values_at table places) r.width r.next
