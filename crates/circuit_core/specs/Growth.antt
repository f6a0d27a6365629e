-- How a netlist grows.
--     Extends old new          each node and register and the output stay, and so does what is known of a run
--     IsSet old r next new     the new netlist is the old one with the next of this register
--     Grows old new more       extends, by so many registers, each with its next
use Rattle.std.specs.Prelude.{ℕ, suc, ◌≡◌, ◌≢◌, ◌+◌, ◌<◌, ◌≤◌, Some, None, IsSome, length, slice_get}
use Rattle.circuit_core.specs.Netlist.{Node, Register, Netlist, IsNetOf}
use Rattle.circuit_core.specs.Run.{IsRunOf, InEachRun}

pub record Extends (old new : Netlist) : Type 0 where
  pub widths : new.widths ≡ old.widths
  pub nodes : (k : ℕ) (node : Node) → slice_get old.nodes k ≡ Some node → slice_get new.nodes k ≡ Some node
  pub more_nodes : length old.nodes ≤ length new.nodes
  pub registers : (r : ℕ) (x : Register) → slice_get old.registers r ≡ Some x → slice_get new.registers r ≡ Some x
  pub more_registers : length old.registers ≤ length new.registers
  pub output : new.output ≡ old.output
  -- a run of the new netlist is one of the old
  pub runs : InEachRun new (λ inputs run. IsRunOf old inputs run)

-- a register of this width and reset value that has no next yet
abbrev pub opened : (width initial : ℕ) → Register
opened width initial = record { width = width; initial = initial; next = None }

abbrev pub closed : (width initial next : ℕ) → Register
closed width initial next = record { width = width; initial = initial; next = Some next }

-- the netlist has this register, and its next isn't set
abbrev pub HasNoNext : Netlist → (register : ℕ) → Type 0
HasNoNext m r = (width initial : ℕ) × (slice_get m.registers r ≡ Some (opened width initial))

pub record IsSet (old : Netlist) (r next : ℕ) (new : Netlist) : Type 0 where
  pub widths : new.widths ≡ old.widths
  pub nodes : new.nodes ≡ old.nodes
  pub others : (q : ℕ) (x : Register) → q ≢ r → slice_get old.registers q ≡ Some x → slice_get new.registers q ≡ Some x
  pub sets : (width initial : ℕ) → slice_get old.registers r ≡ Some (opened width initial) →
      slice_get new.registers r ≡ Some (closed width initial next)
  pub count : length new.registers ≡ length old.registers
  pub output : new.output ≡ old.output
  -- a run of the new netlist is one of the old, in which each net of the register follows
  pub runs : InEachRun new (λ inputs run. IsRunOf old inputs run)
  pub follows : (k : ℕ) → IsNetOf old r k →
      InEachRun new (λ inputs run. (n : ℕ) → suc n < length inputs.trace → run k (suc n) ≡ run next n)

-- each register from this number on has its next
abbrev pub HaveNexts : Netlist → (base : ℕ) → Type 0
HaveNexts m base = (r : ℕ) (x : Register) → base ≤ r → slice_get m.registers r ≡ Some x → IsSome x.next

pub record Grows (old new : Netlist) (more : ℕ) : Type 0 where
  pub kept : Extends old new
  pub count : length new.registers ≡ length old.registers + more
  pub nexts : HaveNexts new (length old.registers)
