use Rattle.std.proofs.Common.{◌≡◌, ◌≤◌, ◌-◌, ℕ, suc, true, List, length, length-set, sym, ap, subst, ◌∙◌, arith}
use Rattle.psl_grammar.specs.declared.symbols.Symbol.{Symbol}
use Rattle.unit_reader.specs.inner.Namesakes.{named_at, IsLatest, has_before}
use Rattle.unit_reader.proofs.Learning.{Learns, learns_first, learns_next, learns_all, learned_before}
use Rattle.unit_reader.proofs.classes.learn.Goals as goal

pub returns-then-has_before : goal.returns-then-has_before
returns-then-has_before c = λ known same.
    learned_before c.args.text.now c.args.tokens.now c.args.name.now c.args.meaning known c.args.symbols.items
    c.last-latest.result same
    (subst (λ (n : ℕ). IsLatest c.args.text.now c.args.tokens.now c.args.name.now (length c.args.tokens.now) n)
    (sym c.last-latest.ensures) (c.requires.noted.last c.args.name.now))
    (subst (λ (s : List Symbol). has_before s c.last-latest.result c.args.meaning ≡ true) c.deref.ensures.value
    (sym c.if-has_before.ensures))

pub above-init : goal.above-init
above-init c =
    let latest : IsLatest c.args.text.now c.args.tokens.now c.args.name.now (length c.args.tokens.now)
    c.last-latest.result =
    subst (λ (n : ℕ). IsLatest c.args.text.now c.args.tokens.now c.args.name.now (length c.args.tokens.now) n)
    (sym c.last-latest.ensures) (c.requires.noted.last c.args.name.now) in (
      latest.before,
      latest.behind,
      λ known same. learns_first c.args.text.now c.args.tokens.now c.args.name.now c.args.meaning known
          c.last-latest.result c.args.symbols.items same latest,
      c.requires.many,
    )

pub above-smaller : goal.above-smaller
above-smaller c =
    let within : c.above.above ≤ length c.args.tokens.now = c.above.invariant.0 in
    let place : c.above.above ≡ suc (c.above.above - 1) = omega arith in
    let next : IsLatest c.args.text.now c.args.tokens.now c.args.name.now (c.above.above - 1) c.before-above.result =
    subst (λ (n : ℕ). IsLatest c.args.text.now c.args.tokens.now c.args.name.now (c.above.above - 1) n)
    (sym c.before-above.ensures)
    (c.requires.noted.each c.args.name.now (c.above.above - 1) (omega arith)
    (c.above.invariant.1 (c.above.above - 1) place)) in
    let le = next.before in omega arith

pub above-preserved : goal.above-preserved
above-preserved c =
    let within : c.above.above ≤ length c.args.tokens.now = c.above.invariant.0 in
    let place : c.above.above ≡ suc (c.above.above - 1) = omega arith in
    let named : named_at c.args.text.now c.args.tokens.now c.args.name.now (c.above.above - 1) ≡ true =
    c.above.invariant.1 (c.above.above - 1) place in
    let next : IsLatest c.args.text.now c.args.tokens.now c.args.name.now (c.above.above - 1) c.before-above.result =
    subst (λ (n : ℕ). IsLatest c.args.text.now c.args.tokens.now c.args.name.now (c.above.above - 1) n)
    (sym c.before-above.ensures)
    (c.requires.noted.each c.args.name.now (c.above.above - 1) (omega arith) named) in
    let le = next.before in (
      omega arith,
      next.behind,
      λ known same. learns_next c.args.text.now c.args.tokens.now c.args.name.now c.args.meaning known
          c.above.all.items c.with_symbol-all.result.items c.above.above (c.above.above - 1) c.before-above.result place
          within (c.above.invariant.2 known same) c.with_symbol-all.ensures named next,
      ap (λ (s : List Symbol). length s) c.with_symbol-all.ensures
          ∙ length-set c.above.all.items (c.above.above - 1) c.args.meaning ∙ c.above.invariant.3,
    )

pub returns : goal.returns
returns c = λ known same.
    let none : c.above.above ≡ 0 = omega arith in
    learns_all c.args.text.now c.args.tokens.now c.args.name.now c.args.meaning known c.above.all.items
    (subst (λ (n : ℕ).
    Learns c.args.text.now c.args.tokens.now c.args.name.now c.args.meaning known c.above.all.items n)
    none (c.above.invariant.2 known same))
