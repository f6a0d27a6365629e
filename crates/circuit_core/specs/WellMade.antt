-- Which netlists there are, and which are done.
--     IsWellMade m     nodes name what stands before them, and all widths and values are allowed
--     IsFinished m     well made, with the next of each register and the output set
use Rattle.std.specs.Prelude.{ℕ, ◌≡◌, ◌<◌, ◌≤◌, ◌^◌, List, Some, IfSome, IsSomeAnd, All, length, slice_get}
use Rattle.psl_model.specs.Expr.{Expr}
use Rattle.psl_model.specs.Valid.{IsValid, parentheses}
use Rattle.psl_model.specs.Limits.{vector_limit}
use Rattle.circuit_core.specs.Netlist.{Op, bit, eot, guard, not, and, or, register, Node, Register, Netlist, IsNet}

-- the most parentheses that are open at any place of a guard's text
abbrev pub guard_parentheses_limit : ℕ
guard_parentheses_limit = 516

-- an expression that a guard over signals of these widths may have
abbrev pub IsGuard : (widths : List ℕ) → Expr → Type 0
IsGuard widths e = IsValid widths e × (parentheses e ≤ guard_parentheses_limit)

-- the node at a place names earlier nets, or a register that there is
abbrev pub IsOpAt : Netlist → (place : ℕ) → Op → Type 0
IsOpAt m k (bit b) = Unit {0}
IsOpAt m k eot = Unit {0}
IsOpAt m k (guard e) = IsGuard m.widths e
IsOpAt m k (not a) = a < k
IsOpAt m k (and a b) = (a < k) × (b < k)
IsOpAt m k (or a b) = (a < k) × (b < k)
IsOpAt m k (register r) = r < length m.registers

pub record IsNodeAt (m : Netlist) (place : ℕ) (node : Node) : Type 0 where
  pub width : node.width ≡ 1
  pub op : IsOpAt m place node.op

-- one bit, for as long as no circuit counts
pub record IsRegister (m : Netlist) (r : Register) : Type 0 where
  pub width : r.width ≡ 1
  pub fits : r.initial < 2 ^ r.width
  pub next : IfSome r.next (IsNet m)

-- a width that a signal may have
abbrev pub IsWidth : ℕ → Type 0
IsWidth width = (1 ≤ width) × (width ≤ vector_limit)

pub record IsWellMade (m : Netlist) : Type 0 where
  pub widths : All IsWidth m.widths
  pub nodes : (k : ℕ) (node : Node) → slice_get m.nodes k ≡ Some node → IsNodeAt m k node
  pub registers : (r : ℕ) (x : Register) → slice_get m.registers r ≡ Some x → IsRegister m x
  pub output : IfSome m.output (IsNet m)

-- what is left to be set is set
pub record IsFinished (m : Netlist) : Type 0 where
  pub well_made : IsWellMade m
  pub nexts : (r : ℕ) (x : Register) → slice_get m.registers r ≡ Some x → IsSomeAnd x.next (IsNet m)
  pub output : IsSomeAnd m.output (IsNet m)
