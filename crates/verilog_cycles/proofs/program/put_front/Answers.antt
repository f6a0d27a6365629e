use Rattle.std.proofs.Common.{◌≡◌, ℕ, List, [], ◌∷◌, ◌++◌, map, ap, ◌∙◌, refl}
use Rattle.std.proofs.lemmas.Result.{IfOk-weaker}
use Rattle.psl_model.specs.declared.names.Signal.{Signal}
use Rattle.verilog_text.specs.Module.{Register, state_widths}
use Rattle.verilog_text.specs.View.{module_of, register_of}
use Rattle.verilog_text.specs.declared.module.RegDecl.{RegDecl}
use Rattle.verilog_cycles.proofs.program.put_front.Goals as goal

widths_mapped : (ds : List RegDecl) → map (λ (r : RegDecl). r.width) ds ≡ map (λ (r : Register). r.width) (map
    register_of ds)
widths_mapped [] = refl
widths_mapped (d ∷ ds) = ap (λ ws. d.width ∷ ws) (widths_mapped ds)

all_widths : (a b c d e : List ℕ) (ps : List Signal) (rs : List RegDecl) → a ≡ [] → b ≡ a ++ 1 ∷ [] → c ≡ b ++ 1 ∷ [] →
    d ≡ c ++ map (λ (p : Signal). p.width) ps → e ≡ d ++ map (λ (r : RegDecl). r.width) rs →
    e ≡ 1 ∷ 1 ∷ map (λ (p : Signal). p.width) ps ++ map (λ (r : Register). r.width) (map register_of rs)
all_widths a b c d e ps rs none one two three four =
    four
    ∙ ap (λ ws. ws ++ map (λ (r : RegDecl). r.width) rs) (three ∙ ap (λ ws. ws ++ map (λ (p : Signal). p.width) ps)
    (two ∙ ap (λ ws. ws ++ 1 ∷ []) (one ∙ ap (λ ws. ws ++ 1 ∷ []) none)))
    ∙ ap (λ ws. 1 ∷ 1 ∷ map (λ (p : Signal). p.width) ps ++ ws) (widths_mapped rs)

pub returns-clause-widths : goal.returns-clause-widths
returns-clause-widths c =
    let m = module_of c.args.checker.now in
    let ps = c.as_slice.result.now in
    let rs = c.as_slice-2.result.now in
    let d = c.put_ports.new.widths.items in
    let e = c.put_registers.new.widths.items in
    IfOk-weaker c.put_registers.result (λ _. e ≡ d ++ map (λ (r : RegDecl). r.width) rs) (λ _. e ≡ state_widths m) (λ
    x four.
    all_widths c.args.widths.now.items c.put_name.new.widths.items c.put_name-2.new.widths.items d e ps rs
    c.requires.widths
    c.in_ok-put_name.ensures.width c.in_ok-put_name-2.ensures.width c.in_ok-put_ports.ensures.widths four
    ∙ ap (λ qs. 1 ∷ 1 ∷ map (λ (p : Signal). p.width) qs ++ map (λ (r : Register). r.width) (map register_of rs))
    c.as_slice.ensures
    ∙ ap (λ qs. 1 ∷ 1 ∷ map (λ (p : Signal). p.width) m.ports ++ map (λ (r : Register). r.width) (map register_of
    qs)) c.as_slice-2.ensures)
    c.put_registers.ensures.widths
