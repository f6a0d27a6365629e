-- How the logic stores what contracts see of a machine. Which code is taken changes no statement's meaning.
use Rattle.std.specs.Prelude.{ℕ, List, refl}
use Rattle.std.specs.Coded.{Coded, code_by, coded_ℕ, coded_list, coded×}
use Rattle.verilog_text.specs.declared.module.Module.{Module}
use Rattle.verilog_text.specs.contracts.module.Module as stored_module
use Rattle.verilog_cycles.specs.State.{State}

abbrev pub coded_state : Coded State
coded_state = code_by (Module × List ℕ) (coded× stored_module.the_row.coded (coded_list coded_ℕ))
    (λ s. (s.loaded, s.registers)) (λ p. record { loaded = p.0; registers = p.1 }) (λ _. refl)
