-- How many bits the registers of a netlist have.
use Rattle.std.specs.Prelude.{ℕ, map, sum}
use Rattle.circuit_core.specs.Netlist.{Register, Netlist}

abbrev pub register_bits : Netlist → ℕ
register_bits m = sum (map (λ (r : Register). r.width) m.registers)
