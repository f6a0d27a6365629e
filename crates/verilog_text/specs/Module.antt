-- Checker modules as plain data, and which of them have a text.
--     names_of m      the table of names: `mbac_rst`, `mbac_eot`, then the ports, the registers and the wires
--     widths_of m     their widths, in the same order
--     IsLawful m      the module has a text
use Rattle.std.specs.Prelude.{◌≡◌, ◌≢◌, ℕ, suc, ◌<◌, ◌≤◌, ◌^◌, true, List, [], ◌∷◌, ◌++◌, map, take, slice_get, codes}
use Rattle.std.specs.Prelude.{decimal, Option, IfSome, AllPairs, All, nat_eq}
use Rattle.std.specs.List.{starts_with}
use Rattle.psl_model.specs.declared.names.Signal.{Signal}
use Rattle.psl_model.specs.Expr.{Expr}
use Rattle.psl_model.specs.Value.{width_of}
use Rattle.psl_model.specs.Valid.{IsValid, parentheses}
use Rattle.psl_model.specs.Limits.{vector_limit, parentheses_limit}
use Rattle.psl_model.specs.Names.{IsIdentifier, checker_prefix, IsUsableName, IsReport}

-- a register: `initial` is its value after reset, `next` the expression that it takes at a clock edge
pub record Register : Type 0 where
  pub width : ℕ
  pub initial : ℕ
  pub next : Expr

pub record Wire : Type 0 where
  pub width : ℕ
  pub value : Expr

-- `report` is a text for people, `fail` the expression of the output
pub record Module : Type 0 where
  pub name : List ℕ
  pub report : Option (List ℕ)
  pub ports : List Signal
  pub registers : List Register
  pub wires : List Wire
  pub fail : Expr

-- a name with each number from `from` on, as many as there are items
abbrev pub numbered_names : {X : Type 0} → List ℕ → (from : ℕ) → List X → List (List ℕ)
numbered_names stem from [] = []
numbered_names stem from (x ∷ xs) = (stem ++ decimal from) ∷ numbered_names stem (suc from) xs

abbrev pub register_stem : List ℕ
register_stem = codes "mbac_r"

abbrev pub wire_stem : List ℕ
wire_stem = codes "mbac_n"

abbrev pub port_names : Module → List (List ℕ)
port_names m = map (λ (p : Signal). p.name) m.ports

abbrev pub register_names : Module → List (List ℕ)
register_names m = numbered_names register_stem 0 m.registers

abbrev pub wire_names : Module → List (List ℕ)
wire_names m = numbered_names wire_stem 0 m.wires

unfoldable pub names_of : Module → List (List ℕ)
names_of m = codes "mbac_rst" ∷ codes "mbac_eot" ∷ port_names m ++ register_names m ++ wire_names m

-- the widths of the names but for the wires
abbrev pub state_widths : Module → List ℕ
state_widths m = 1 ∷ 1 ∷ map (λ (p : Signal). p.width) m.ports ++ map (λ (r : Register). r.width) m.registers

abbrev pub widths_of : Module → List ℕ
widths_of m = state_widths m ++ map (λ (w : Wire). w.width) m.wires

-- a width that a port, a register or a wire may have
abbrev pub IsWidth : ℕ → Type 0
IsWidth width = (1 ≤ width) × (width ≤ vector_limit)

-- an expression that may stand in a module's text
pub record IsExpression (widths : List ℕ) (e : Expr) : Type 0 where
  pub valid : IsValid widths e
  pub narrow : width_of widths e ≤ vector_limit
  pub shallow : parentheses e ≤ parentheses_limit

pub record IsPort (p : Signal) : Type 0 where
  pub name : IsUsableName p.name
  pub width : IsWidth p.width

pub record IsRegister (m : Module) (r : Register) : Type 0 where
  pub width : IsWidth r.width
  pub fits : r.initial < 2 ^ r.width
  pub next : IsExpression (widths_of m) r.next

pub record IsWire (m : Module) (place : ℕ) (w : Wire) : Type 0 where
  pub width : IsWidth w.width
  -- a wire names earlier wires alone
  pub value : IsExpression (state_widths m ++ take place (map (λ (v : Wire). v.width) m.wires)) w.value

pub record IsLawful (m : Module) : Type 0 where
  pub identifier : IsIdentifier m.name
  pub prefix : starts_with nat_eq m.name checker_prefix ≡ true
  pub report : IfSome m.report IsReport
  pub ports : All IsPort m.ports
  pub distinct : AllPairs (λ p q. p ≢ q) (map (λ (p : Signal). p.name) m.ports)
  pub registers : All (IsRegister m) m.registers
  pub wires : (place : ℕ) → IfSome (slice_get m.wires place) (IsWire m place)
  pub fail : IsExpression (widths_of m) m.fail
