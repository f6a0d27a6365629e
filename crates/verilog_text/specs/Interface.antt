-- What a module that is made may be called, tell people and watch.
--     IsInterface name report ports     a checker text may have these
--     port_widths ports                 the widths of the ports, in bits
use Rattle.std.specs.Prelude.{◌≡◌, ◌≢◌, ℕ, true, List, map, Option, IfSome, All, AllPairs, nat_eq}
use Rattle.std.specs.List.{starts_with}
use Rattle.psl_model.specs.declared.names.Signal.{Signal}
use Rattle.psl_model.specs.Names.{IsIdentifier, checker_prefix, IsReport}
use Rattle.verilog_text.specs.Module.{IsPort}

pub record IsInterface (called : List ℕ) (shown : Option (List ℕ)) (watched : List Signal) : Type 0 where
  pub identifier : IsIdentifier called
  pub prefix : starts_with nat_eq called checker_prefix ≡ true
  pub report : IfSome shown IsReport
  pub ports : All IsPort watched
  pub distinct : AllPairs (λ p q. p ≢ q) (map (λ (p : Signal). p.name) watched)

abbrev pub port_widths : List Signal → List ℕ
port_widths ports = map (λ (p : Signal). p.width) ports
