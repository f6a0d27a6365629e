-- Each module of a text is lawful, the last one too.
use Rattle.std.proofs.Common.{◌≡◌, ℕ, suc, List, [], ◌∷◌, ◌++◌, map, All, subst, Some, None}
use Rattle.std.specs.Prelude.{Option, IfSome, option_to_list}
use Rattle.std.proofs.lemmas.List.Elements.{All-nil, All-cons, All-head, All-tail}
use Rattle.psl_model.specs.Unit.{PslUnit, Directive}
use Rattle.verilog_text.specs.Module.{Module, IsLawful}
use Rattle.verilog_text.specs.View.{module_of}
use Rattle.verilog_text.specs.declared.module.Module as code
use Rattle.unit_compile.specs.Made.{AreMade}

pub all_lawful : (unit : PslUnit) (from : ℕ) (ds : List Directive) (ms : List Module) → AreMade unit from ds ms →
    All IsLawful ms
all_lawful unit from [] [] made = All-nil IsLawful
all_lawful unit from [] (m ∷ ms) made = absurd made
all_lawful unit from (d ∷ ds) [] made = absurd made
all_lawful unit from (d ∷ ds) (m ∷ ms) made =
    All-cons IsLawful m ms made.0.lawful (all_lawful unit (suc from) ds ms made.1)

at_end : (front : List code.Module) (m : code.Module) → All IsLawful (map module_of (front ++ m ∷ [])) →
    IsLawful (module_of m)
at_end [] m all = All-head IsLawful (module_of m) [] all
at_end (x ∷ front) m all =
    at_end front m (All-tail IsLawful (module_of x) (map module_of (front ++ m ∷ [])) all)

pub last_lawful : (whole front : List code.Module) (m : code.Module) → whole ≡ front ++ m ∷ [] →
    All IsLawful (map module_of whole) → IsLawful (module_of m)
last_lawful whole front m e all =
    at_end front m (subst (λ (ms : List code.Module). All IsLawful (map module_of ms)) e all)

pub popped_lawful : (whole front : List code.Module) (popped : Option code.Module) →
    whole ≡ front ++ option_to_list popped → All IsLawful (map module_of whole) →
    IfSome popped (λ m. IsLawful (module_of m))
popped_lawful whole front None e all = tt
popped_lawful whole front (Some m) e all = last_lawful whole front m e all
