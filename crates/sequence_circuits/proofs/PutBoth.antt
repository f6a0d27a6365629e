-- One more conjunction at the end of a list of nets.
use Rattle.std.proofs.Common.{◌≡◌, ℕ, ◌+◌, ◌<◌, List, [], ◌∷◌, ◌++◌, length, get_or, inl, inr, ◌↔◌, sym, ap, ◌∙◌, arith}
use Rattle.std.proofs.lemmas.Bool.{cases_lt}
use Rattle.circuit_core.specs.declared.nodes.Net.{Net}
use Rattle.circuit_core.specs.Run.{Run, On}
use Rattle.sequence_circuits.specs.Guards.{numbers}
use Rattle.sequence_circuits.specs.inner.Nets.{stream_at}
use Rattle.sequence_circuits.proofs.Nets.{no_net, number_of, number_before, number_last, on_same}

pub both_push : (run : Run) (n : ℕ) (nets onto : List Net) (old i guard : ℕ) (joined : Net) → length onto ≡ old + i
    → ((v : ℕ) → v < i → On (stream_at run (numbers onto) (old + v)) n ↔
    (On (stream_at run (numbers nets) v) n × On (run guard) n))
    → On (run joined.0) n ↔ (On (run (get_or nets i no_net).0) n × On (run guard) n)
    → (v : ℕ) → v < i + 1 → On (stream_at run (numbers (onto ++ joined ∷ [])) (old + v)) n ↔
    (On (stream_at run (numbers nets) v) n × On (run guard) n)
both_push run n nets onto old i guard joined size befores now v lt =
    elim (cases_lt v i) [
      | inl early ↦ (let same = number_before (λ (k : Net). k.0) onto (old + v) joined (omega arith) in let b =
          befores v early in
          ((λ on. b.0 (on_same run n _ _ same on)), (λ p. on_same run n _ _ (sym same) (b.1 p))))
      | inr late ↦ (let at : v ≡ i = omega arith in
          let there = number_last (λ (k : Net). k.0) onto (old + v) joined (omega arith) in
          let which : (get_or nets i no_net).0 ≡ get_or (numbers nets) v 0 = number_of nets i ∙ ap
          (λ (t : ℕ). get_or (numbers nets) t 0) (sym at) in (
            (λ on. let p = now.0 (on_same run n _ _ there on) in (on_same run n _ _ which p.0, p.1)),
            (λ p. on_same run n _ _ (sym there) (now.1 (on_same run n _ _ (sym which) p.0, p.1))),
          ))
    ]
