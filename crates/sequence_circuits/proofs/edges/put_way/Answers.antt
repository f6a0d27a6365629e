use Rattle.std.proofs.Common.{[], ◌∷◌, All, length, length-append, List, refl, sym, ap, ◌∙◌, subst}
use Rattle.std.proofs.Common.{arith}
use Rattle.std.proofs.lemmas.List.{length-set}
use Rattle.std.proofs.lemmas.List.Elements.{All-push}
use Rattle.circuit_core.specs.declared.nodes.Net.{Net}
use Rattle.circuit_core.specs.Netlist.{IsNet}
use Rattle.sequence_circuits.specs.declared.edges.Way.{Way}
use Rattle.sequence_circuits.proofs.Ways.{taken_push, taken_join}
use Rattle.sequence_circuits.proofs.edges.put_way.Goals as goal

pub returns-in_ok-push-clause-size : goal.returns-in_ok-push-clause-size
returns-in_ok-push-clause-size c =
    let keys = c.args.ways.now.ways.keys in
    let sources = c.args.ways.now.sources.items in
    let a = length-append sources (c.args.live ∷ []) in
    let b = length-append keys (c.args.way ∷ []) in
    let e = ap (λ (ks : List Net). length ks) c.in_ok-push.ensures.items in
    let f = ap (λ (ws : List Way). length ws) (c.in_ok-place.ensures.new c.if-is_new.true) in
    omega (arith, c.requires.size)

pub returns-in_ok-push-clause-sources : goal.returns-in_ok-push-clause-sources
returns-in_ok-push-clause-sources c =
    let m = c.args.net.now in
    subst (All (λ k. IsNet m k.0)) (sym c.in_ok-push.ensures.items)
    (All-push (λ k. IsNet m k.0) c.args.ways.now.sources.items c.args.live c.requires.sources c.requires.live)

pub returns-in_ok-push-clause-stream : goal.returns-in_ok-push-clause-stream
returns-in_ok-push-clause-stream c inputs run h n within a s =
    taken_push run n c.args.ways.now.ways.keys c.args.ways.now.sources.items c.args.way c.args.live
    c.place_for.new.ways.keys c.push.new.self.items a s c.requires.size
    (c.in_ok-place.ensures.new c.if-is_new.true) c.in_ok-push.ensures.items

pub returns-in_ok-joined-clause-size : goal.returns-in_ok-joined-clause-size
returns-in_ok-joined-clause-size c =
    let known = c.in_ok-place.ensures.known c.if-is_new.false in
    length-set c.args.ways.now.sources.items c.in_ok-place.place c.in_ok-joined.joined ∙ c.requires.size
    ∙ ap (λ (ws : List Way). length ws) (sym known.0)

pub returns-in_ok-joined-clause-stream : goal.returns-in_ok-joined-clause-stream
returns-in_ok-joined-clause-stream c inputs run h n within a s =
    let known = c.in_ok-place.ensures.known c.if-is_new.false in
    let inside = c.in_ok-place.ensures.within c.if-is_new.false in
    taken_join run n c.args.ways.now.ways.keys c.args.ways.now.sources.items c.args.way c.args.live.0
    c.place_for.new.ways.keys _ c.in_ok-place.place c.index.result.now c.in_ok-joined.joined a s c.requires.size
    known.0 refl (omega (arith, inside, c.requires.size)) c.index.ensures known.1
    (c.in_ok-joined.ensures.stream inputs run h n within)
