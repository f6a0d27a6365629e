use Rattle.std.proofs.Common.{◌≡◌, ◌++◌, [], ◌∷◌, Some, None, Option, ap, sym, ◌∙◌, get_or}
use Rattle.std.specs.Prelude.{slice_get}
use Rattle.std.specs.List.{cons_option}
use Rattle.std.proofs.lemmas.List.{append-nil}
use Rattle.psl_model.specs.declared.names.Signal.{Signal}
use Rattle.mbac_compile.proofs.Ports.{there, past_the_end}
use Rattle.mbac_compile.proofs.interfaces.put_port.Goals as goal

pub returns-in-None : goal.returns-in-None
returns-in-None c =
    let none : slice_get c.args.signals.now c.args.place ≡ None =
    past_the_end c.args.signals.now c.args.place c.in-None.ensures.lookup.3 in
    sym (append-nil c.args.ports.now.items)
    ∙ ap (λ (o : Option Signal). c.args.ports.now.items ++ cons_option o []) (sym none)

pub returns-in_ok-push-in-Some : goal.returns-in_ok-push-in-Some
returns-in_ok-push-in-Some c =
    let signal : Signal = c.in-Some.signal.now in
    let found : signal ≡ get_or c.args.signals.now c.args.place signal = c.in-Some.ensures.lookup.1 in
    let some : slice_get c.args.signals.now c.args.place ≡ Some (get_or c.args.signals.now c.args.place signal) =
    there c.args.signals.now c.args.place signal c.in-Some.ensures.lookup.3.0 in
    c.in_ok-push-in-Some.ensures.items
    ∙ ap (λ (s : Signal). c.args.ports.now.items ++ s ∷ []) (c.in_ok-port-in-Some.ensures ∙ found)
    ∙ ap (λ (o : Option Signal). c.args.ports.now.items ++ cons_option o []) (sym some)
