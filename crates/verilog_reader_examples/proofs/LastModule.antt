-- The last of several lawful modules is lawful.
use Rattle.std.proofs.Common.{◌≡◌, zero, suc, List, [], ◌∷◌, ◌++◌, map, ap, ◌∙◌, arith, subst}
use Rattle.std.proofs.Common.{Some, None}
use Rattle.std.proofs.lemmas.List.{map-append}
use Rattle.std.specs.Prelude.{Option, IfSome, All, option_to_list}
use Rattle.verilog_text.specs.declared.module.Module as code
use Rattle.verilog_text.specs.Module.{Module, IsLawful}
use Rattle.verilog_text.specs.View.{module_of}

last_of : (ms : List Module) (m : Module) → All IsLawful (ms ++ m ∷ []) → IsLawful m
last_of [] m all = all zero m (omega arith)
last_of (x ∷ xs) m all = last_of xs m (λ k d lt. all (suc k) d (omega arith))

pub last_some : (ms front : List code.Module) (last : Option code.Module) → ms ≡ front ++ option_to_list last →
    All IsLawful (map module_of ms) → IfSome last (λ m. IsLawful (module_of m))
last_some ms front None same all = tt
last_some ms front (Some m) same all =
    let parts : map module_of ms ≡ map module_of front ++ module_of m ∷ [] =
    ap (map module_of) same ∙ map-append module_of front (m ∷ []) in
    last_of (map module_of front) (module_of m) (subst (λ (xs : List Module). All IsLawful xs) parts all)
