-- Facts on what a unit and a directive give, carried over to equal things that the code has made.
use Rattle.std.proofs.Common.{◌≡◌, ℕ, List, Option, sym, subst}
use Rattle.psl_model.specs.declared.names.Signal.{Signal}
use Rattle.psl_model.specs.Formula.{Formula}
use Rattle.psl_rewrite.specs.Base.{Base}
use Rattle.psl_rewrite.specs.Meaning.{named}
use Rattle.property_circuits.specs.Conditions.{HasGuards}
use Rattle.verilog_text.specs.Interface.{IsInterface}
use Rattle.checked_modules.specs.Readings.{ReadsAs}

pub guards_too : (widths made_widths : List ℕ) (b made : Base) → made_widths ≡ widths → made ≡ b →
    HasGuards widths b → HasGuards made_widths made
guards_too widths made_widths b made same is has =
    subst (λ (ws : List ℕ). HasGuards ws made) (sym same) (subst (λ (x : Base). HasGuards widths x) (sym is) has)

pub interface_too : (name made_name : List ℕ) (report made_report : Option (List ℕ)) (ports made_ports : List Signal) →
    made_name ≡ name → made_report ≡ report → made_ports ≡ ports → IsInterface name report ports →
    IsInterface made_name made_report made_ports
interface_too name made_name report made_report ports made_ports p q r has =
    subst (λ (n : List ℕ). IsInterface n made_report made_ports) (sym p)
    (subst (λ (o : Option (List ℕ)). IsInterface name o made_ports) (sym q)
    (subst (λ (l : List Signal). IsInterface name report l) (sym r) has))

pub reads_too : (all places widths made_widths : List ℕ) (f : Formula) (b made : Base) → made_widths ≡ widths →
    made ≡ b → ReadsAs all places widths f (named b) → ReadsAs all places made_widths f (named made)
reads_too all places widths made_widths f b made same is has =
    subst (λ (ws : List ℕ). ReadsAs all places ws f (named made)) (sym same)
    (subst (λ (x : Base). ReadsAs all places widths f (named x)) (sym is) has)
