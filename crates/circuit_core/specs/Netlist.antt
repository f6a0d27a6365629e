-- Netlists as plain data. Nets are numbered in the order of their nodes, registers in the order of their making.
--     IsNet m k          the netlist has this net
--     IsNetOf m r k      this net is the value of this register
use Rattle.std.specs.Prelude.{ℕ, ◌≡◌, ◌<◌, Bool, List, Option, Some, length, slice_get}
use Rattle.psl_model.specs.Expr.{Expr}

-- What gives a net its value. The numbers name nets, but for that of `register`, which names a register.
pub data Op : Type 0 where
  bit : (value : Bool) → Op
  -- the end of execution, `mbac_eot`
  eot : Op
  guard : (expr : Expr) → Op
  not : (a : ℕ) → Op
  and : (a b : ℕ) → Op
  or : (a b : ℕ) → Op
  register : (register : ℕ) → Op

pub record Node : Type 0 where
  pub width : ℕ
  pub op : Op

-- `initial` is the value after reset, and `next` the net whose value the register takes, once that is set
pub record Register : Type 0 where
  pub width : ℕ
  pub initial : ℕ
  pub next : Option ℕ

-- `widths` are those of the signals that the guards name
pub record Netlist : Type 0 where
  pub widths : List ℕ
  pub nodes : List Node
  pub registers : List Register
  pub output : Option ℕ

-- a node of one bit
abbrev pub one_bit : Op → Node
one_bit op = record { width = 1; op = op }

abbrev pub IsNet : Netlist → ℕ → Type 0
IsNet m k = k < length m.nodes

abbrev pub IsNetOf : Netlist → (register net : ℕ) → Type 0
IsNetOf m r k = slice_get m.nodes k ≡ Some (one_bit (register r))
