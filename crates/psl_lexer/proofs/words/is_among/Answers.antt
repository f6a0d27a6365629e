use Rattle.std.proofs.Common.{◌∙◌, sym, ap, List, ℕ, Bor}
use Rattle.psl_lexer.proofs.Rows.{passed_more, read_any, same_bytes}
use Rattle.psl_lexer.proofs.words.is_among.Goals as goal

pub loop-word-preserved : goal.loop-word-preserved
loop-word-preserved c = passed_more (λ (s : Bor (List ℕ)). s.now) c.args.words.now c.loop-word.word-index
    c.args.text.now _ c.loop-word-test.true c.loop-word.invariant (sym c.if-eq.false ∙ c.eq.ensures)

pub returns-then-eq-clause-yes : goal.returns-then-eq-clause-yes
returns-then-eq-clause-yes c = λ _. (
  c.loop-word.word-index,
  c.loop-word-test.true,
  λ d. ap (λ (s : Bor (List ℕ)). s.now) (read_any c.args.words.now c.loop-word.word-index d
      _ c.loop-word-test.true) ∙ same_bytes _ _ (sym c.eq.ensures ∙ c.if-eq.true),
)
