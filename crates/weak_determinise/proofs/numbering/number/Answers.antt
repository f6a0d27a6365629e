use Rattle.std.proofs.Common.{rules, ◌≡◌, ◌∙◌, ℕ, List, sym, ap, subst}
use Rattle.std.proofs.Common.{Result, IfOk, eqb}
use Rattle.std.specs.Cmp.Lexicographic.{pointwise}
use Rattle.weak_determinise.specs.declared.sets.DetError.{DetError}
use Rattle.std.specs.List.{position_or_len}
use Rattle.weak_determinise.proofs.numbering.number.Goals.{in-Ok+then-index-limit, in-Ok+else-index-limit, in-Err}
use Rattle.weak_determinise.proofs.numbering.number.Goals as goal

pub returns-clause-numbered : goal.returns-clause-numbered
returns-clause-numbered c = elim c.match-insert_full.branch [
  | in-Ok+then-index-limit w ↦ subst (λ (r : Result ℕ DetError). IfOk r (λ n. n ≡ position_or_len
      (pointwise eqb c.args.places.items) c.args.seen.now.keys)) (sym w.result-is)
      (w.in-Ok.ensures.index ∙ ap (λ (p : List ℕ). position_or_len (pointwise eqb p) c.args.seen.now.keys)
      c.new.ensures)
  | in-Ok+else-index-limit w ↦ search (rules, w.result-is)
  | in-Err w ↦ search (rules, w.result-is)
]
