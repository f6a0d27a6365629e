use Rattle.std.proofs.Common.{◌≡◌, ℕ, ◌<◌, get_or, List, Bor}
use Rattle.psl_lexer.proofs.words.is_among.Given as goal

abbrev pub invariant-loop-word : goal.invariant-loop-word
invariant-loop-word l = (k : ℕ) (d : Bor (List ℕ)) → k < l.word-index → (get_or l.words k d).now ≡ l.text → ⊥
