-- The lists that a loop makes of a netlist's nodes and registers, and the places that they name.
use Rattle.std.proofs.Common.{◌≡◌, ℕ, zero, suc, ◌+◌, ◌<◌, ◌≤◌, ◌^◌, List, [], ◌∷◌, ◌++◌, map, take, length}
use Rattle.std.proofs.Common.{refl, ap, sym, ◌∙◌, arith, subst, get_or, Some, None}
use Rattle.std.proofs.lemmas.List.{map-append, take_more, take_all, length-map}
use Rattle.std.proofs.lemmas.Option.{slice_get_within}
use Rattle.std.specs.Prelude.{All, Option, IsSomeAnd}
use Rattle.psl_model.specs.Expr.{Expr, whole, bit, part, plain, sized, unary, binary, choice}
use Rattle.psl_model.specs.Valid.{IsValid}
use Rattle.psl_model.specs.declared.names.Signal.{Signal}
use Rattle.circuit_core.specs.Netlist as net
use Rattle.circuit_core.specs.Netlist.{Op, eot, guard, not, and, or, register, Node, Netlist, IsNet}
use Rattle.circuit_core.specs.WellMade.{IsOpAt, IsFinished}
use Rattle.verilog_text.specs.Interface.{port_widths}
use Rattle.verilog_text.specs.Module.{Register}
use Rattle.verilog_text.specs.Stream.{HasRegistersOf}
use Rattle.verilog_text.specs.inner.Translation.{Face, Fits, SignalsFit, NodeFits, first_register, first_wire}
use Rattle.verilog_text.specs.inner.Translation.{register_of, module_for}
use Rattle.verilog_text.proofs.Tables.{all_each}

pub map_step : {X Y Z : Type 0} (f : X → Z) (g : Y → Z) (xs : List X) (x : X) (ys : List Y) (i : ℕ) (y : Y) →
    i < length ys → y ≡ get_or ys i y → map f xs ≡ map g (take i ys) → f x ≡ g y →
    map f (xs ++ x ∷ []) ≡ map g (take (i + 1) ys)
map_step f g xs x ys i y lt at before same =
    map-append f xs (x ∷ [])
    ∙ ap (λ zs. zs ++ f x ∷ []) before
    ∙ ap (λ z. map g (take i ys) ++ z ∷ []) (same ∙ ap g at)
    ∙ sym (map-append g (take i ys) (get_or ys i y ∷ []))
    ∙ ap (map g) (sym (take_more ys i y lt))

get_map : {X Y : Type 0} (f : X → Y) (xs : List X) (i : ℕ) (d : X) → i < length xs →
    get_or (map f xs) i (f d) ≡ f (get_or xs i d)
get_map f [] i d lt = absurd (omega arith)
get_map f (x ∷ xs) zero d lt = refl
get_map f (x ∷ xs) (suc i) d lt = get_map f xs i d (omega arith)

-- what holds of each item holds of the one that is read
pub all_at : {X Y : Type 0} (f : X → Y) (P : Y → Type 0) (xs : List X) (i : ℕ) (x : X) → All P (map f xs) →
    i < length xs → x ≡ get_or xs i x → P (f x)
all_at f P xs i x all lt at =
    let there : i < length (map f xs) = omega (arith, length-map xs f) in
    subst P (get_map f xs i x lt ∙ ap f (sym at)) (all i (f x) there)

map_map : {X Y Z : Type 0} (f : X → Y) (g : Y → Z) (xs : List X) → map (λ x. g (f x)) xs ≡ map g (map f xs)
map_map f g [] = refl
map_map f g (x ∷ xs) = ap (λ zs. g (f x) ∷ zs) (map_map f g xs)

-- the whole list, at the end
pub map_done : {X Y Z W : Type 0} (f : X → Y) (g : Y → Z) (h : W → Z) (ws : List W) (xs : List X) (i : ℕ) →
    map h ws ≡ map (λ x. g (f x)) (take i xs) → length xs ≤ i → map h ws ≡ map g (map f xs)
map_done f g h ws xs i before all = before ∙ ap (map (λ x. g (f x))) (take_all i xs all) ∙ map_map f g xs

-- signals that a table has, with room for two more, can be counted
pub signals_fit : (widths : List ℕ) (e : Expr) → 2 + length widths ≤ 2 ^ 64 → IsValid widths e → SignalsFit e
signals_fit widths (whole s) room valid = omega (arith, room, valid)
signals_fit widths (bit s p) room valid = omega (arith, room, valid.0)
signals_fit widths (part s h l) room valid = omega (arith, room, valid.0)
signals_fit widths (plain n) room valid = tt
signals_fit widths (sized w v) room valid = tt
signals_fit widths (unary op a) room valid = signals_fit widths a room valid
signals_fit widths (binary op a b) room valid = (signals_fit widths a room valid.1, signals_fit widths b room valid.2)
signals_fit widths (choice c a b) room valid =
    (signals_fit widths c room valid.0, signals_fit widths a room valid.1, signals_fit widths b room valid.2)

-- the places of a netlist's module, where the last of them can be counted
pub record HasRoom (m : Netlist) (rs ws : ℕ) : Type 0 where
  pub signals : 2 + length m.widths ≤ 2 ^ 64
  pub registers : rs + length m.registers ≤ ws
  pub wires : ws + length m.nodes ≤ 2 ^ 64

node_fits : (m : Netlist) (rs ws k : ℕ) → HasRoom m rs ws → k < length m.nodes → (op : Op) → IsOpAt m k op →
    NodeFits rs ws op
node_fits m rs ws k room lt (net.bit b) is = tt
node_fits m rs ws k room lt eot is = tt
node_fits m rs ws k room lt (guard e) is = signals_fit m.widths e room.signals is.0
node_fits m rs ws k room lt (not a) is = omega (arith, room.wires, lt, is)
node_fits m rs ws k room lt (and a b) is = (omega (arith, room.wires, lt, is.0), omega (arith, room.wires, lt, is.1))
node_fits m rs ws k room lt (or a b) is = (omega (arith, room.wires, lt, is.0), omega (arith, room.wires, lt, is.1))
node_fits m rs ws k room lt (register r) is = omega (arith, room.registers, room.wires, is)

pub nodes_fit : (m : Netlist) (rs ws : ℕ) → IsFinished m → HasRoom m rs ws →
    All (λ (node : Node). NodeFits rs ws node.op) m.nodes
nodes_fit m rs ws finished room = all_each m.nodes (λ (node : Node). NodeFits rs ws node.op) (λ k node at.
    node_fits m rs ws k room (slice_get_within m.nodes k node at) node.op (finished.well_made.nodes k node at).op)

pub next_fits : (m : Netlist) (rs ws : ℕ) → HasRoom m rs ws → (o : Option ℕ) → IsSomeAnd o (IsNet m) →
    IsSomeAnd o (λ next. Fits (ws + next))
next_fits m rs ws room None is = absurd is
next_fits m rs ws room (Some k) is = omega (arith, room.wires, is)

pub nexts_fit : (m : Netlist) (rs ws : ℕ) → IsFinished m → HasRoom m rs ws →
    All (λ (x : net.Register). IsSomeAnd x.next (λ next. Fits (ws + next))) m.registers
nexts_fit m rs ws finished room =
    all_each m.registers (λ (x : net.Register). IsSomeAnd x.next (λ next. Fits (ws + next))) (λ k x at.
    next_fits m rs ws room x.next (finished.nexts k x at))

pub has_registers : (m : Netlist) (face : Face) → HasRegistersOf m (module_for m face)
has_registers m face = each m.registers where
  each : (xs : List net.Register) →
      map {B = ℕ × ℕ} (λ (r : Register). (r.width, r.initial)) (map (register_of (first_wire m face.ports)) xs)
      ≡ map {B = ℕ × ℕ} (λ (x : net.Register). (x.width, x.initial)) xs
  each [] = refl
  each (x ∷ xs) = let one : ℕ × ℕ = (x.width, x.initial) in ap (λ (ys : List (ℕ × ℕ)). one ∷ ys) (each xs)

pub has_room : (m : Netlist) (ports watched : List Signal) (rs ws : ℕ) → watched ≡ ports →
    port_widths ports ≡ m.widths → rs ≡ first_register watched → ws ≡ first_wire m watched →
    ws + length m.nodes ≤ 2 ^ 64 → 2 + length watched ≤ 2 ^ 64 → HasRoom m rs ws
has_room m ports watched rs ws same widths registers wires last most =
    let count : length m.widths ≡ length watched =
    sym (ap length widths) ∙ length-map ports (λ p. p.width) ∙ sym (ap length same) in
    record {
      signals = omega (arith, count, most);
      registers = omega (arith, registers, wires);
      wires = last;
    }
