-- What is read of properties, one function a kind of phrase. `inner` reads in one more open phrase.
use Rattle.std.specs.Prelude.{ℕ, zero, suc, ◌+◌, ◌-◌, Bool, true, false, ◌||◌, List, length, Option, Some, None}
use Rattle.psl_grammar.specs.declared.symbols.Symbol.{Symbol}
use Rattle.psl_grammar.specs.declared.symbols.Symbol.TheVariants as symbol
use Rattle.psl_grammar.specs.Symbols.{symbol_at, begins_sequence, is_pick}
use Rattle.psl_grammar.specs.RawExpr.{RawExpr, unary}
use Rattle.psl_grammar.specs.RawExpr as expr
use Rattle.psl_grammar.specs.RawSere.{RawSere}
use Rattle.psl_grammar.specs.RawProp.{RawProp, bool, named, seq, prefix, next, binary, suffix, abort}
use Rattle.psl_grammar.specs.PropGrammar as phrase
use Rattle.psl_grammar.specs.PropGrammar.{Phrase}
use Rattle.unit_reader.specs.inner.Steps.{◌>>=◌, need, either_way, is_at, Read, loop}
use Rattle.unit_reader.specs.inner.ExprReaders.{levels_with, operand_in, choice_at, branches_with, bool_in}
use Rattle.unit_reader.specs.inner.SereReaders.{is_times, after_bool, tight_in}
use Rattle.unit_reader.specs.inner.FormReaders.{is_next, form_in}

-- `!` before a phrase, and `&&` or `||` between two, of any kind
abbrev pub negation : (mark : ℕ) → RawProp → RawProp
negation mark (bool e) = bool (unary mark e)
negation mark p = prefix mark p

abbrev pub combination : (mark : ℕ) → RawProp → RawProp → RawProp
combination mark (bool d) (bool e) = bool (expr.binary mark d e)
combination mark p q = binary mark p q

-- `[*`, `[+]`, `[->` and `[=`
abbrev pub is_rep : Symbol → Bool
is_rep s = is_times s || is_pick s

-- a sequence without `!`
abbrev pub sequence_of : RawProp → Option RawSere
sequence_of (seq s false) = Some s
sequence_of _ = None

abbrev pub as_bool : RawExpr × ℕ → Read RawProp
as_bool e = Some (bool e.0, e.1)

abbrev pub prefixed : ℕ → RawProp × ℕ → Read RawProp
prefixed i p = Some (prefix i p.0, p.1)

abbrev pub joined : RawProp × ℕ → RawProp × ℕ → Read RawProp
joined l r = Some (binary l.1 l.0 r.0, r.1)

abbrev pub combined : RawProp × ℕ → RawProp × ℕ → Read RawProp
combined l r = Some (combination l.1 l.0 r.0, r.1)

module _ (symbols : List Symbol) where
  -- a sequence, with `!` or without
  unfoldable pub marked : RawSere × ℕ → Read RawProp
  marked s =
      either_way (is_at symbols s.1 symbol.Exclamation) (Some (seq s.0 true, s.1 + 1)) (Some (seq s.0 false, s.1))

  -- what joins more tightly than `&&` behind a bool
  unfoldable pub tighter_of : (room : ℕ) → RawProp → ℕ → Read RawProp
  tighter_of room (bool e) m = levels_with symbols (operand_in symbols room) false 7 (e, m) >>= as_bool
  tighter_of room p m = Some (p, m)

  -- the branches of a choice behind a bool
  unfoldable pub branches_of : (room : ℕ) → RawProp → ℕ → Read RawProp
  branches_of room (bool e) m = branches_with symbols (choice_at symbols room) false (e, m) >>= as_bool
  branches_of room p m = Some (p, m)

  -- repetitions behind a bool
  unfoldable pub times_of : RawProp → ℕ → Read RawProp
  times_of (bool e) m =
      either_way (is_rep (symbol_at symbols m)) (after_bool symbols (e, m) >>= marked) (Some (bool e, m))
  times_of p m = Some (p, m)

  unfoldable pub abort_with : (room : ℕ) → RawProp × ℕ → Read RawProp
  abort_with room l = bool_in symbols room false (l.1 + 1) >>= λ e. Some (abort l.0 e.0, e.1)

  abbrev pub goes_at : Symbol → ℕ → Bool
  goes_at s m = is_at symbols m s

  unfoldable pub aborts_from : (room : ℕ) → RawProp × ℕ → Read RawProp
  aborts_from room l = loop (goes_at symbol.Abort) (abort_with room) (suc (length symbols)) l

  -- what follows a phrase that `||` doesn't go on with
  unfoldable pub settled : (room : ℕ) → RawProp × ℕ → Read RawProp
  settled room x = branches_of room x.0 x.1 >>= λ y. times_of y.0 y.1 >>= aborts_from room

  module _ (inner : Phrase → ℕ → Read RawProp) (room : ℕ) where
    unfoldable pub negation_with : ℕ → Read RawProp
    negation_with i = inner phrase.primary (i + 1) >>= λ p. Some (negation i p.0, p.1)

    unfoldable pub paren_prop_with : ℕ → Read RawProp
    paren_prop_with i =
        inner phrase.prop (i + 1) >>= λ p. need (is_at symbols p.1 symbol.CloseParenthesis) (Some (p.0, p.1 + 1))

    unfoldable pub atom_with : ℕ → Read RawProp
    atom_with i =
        either_way (is_at symbols i symbol.Exclamation) (negation_with i)
        (either_way (is_at symbols i symbol.OpenParenthesis) (paren_prop_with i)
        (either_way (is_at symbols i symbol.PropertyName) (Some (named i, i + 1))
        (either_way (begins_sequence (symbol_at symbols i)) (tight_in symbols room i >>= marked)
        (operand_in symbols room i >>= as_bool))))

    unfoldable pub factor_with : ℕ → Read RawProp
    factor_with i = atom_with i >>= λ p. tighter_of room p.0 p.1

    unfoldable pub and_with : RawProp × ℕ → Read RawProp
    and_with l = factor_with (l.1 + 1) >>= combined l

    unfoldable pub both_with : ℕ → Read RawProp
    both_with i = factor_with i >>= loop (goes_at symbol.AndAnd) and_with (suc (length symbols))

    unfoldable pub or_with : RawProp × ℕ → Read RawProp
    or_with l = both_with (l.1 + 1) >>= combined l

    unfoldable pub either_with : ℕ → Read RawProp
    either_with i = both_with i >>= loop (goes_at symbol.OrOr) or_with (suc (length symbols))

    unfoldable pub abt_with : ℕ → Read RawProp
    abt_with i = either_with i >>= settled room

    unfoldable pub eventually_with : ℕ → Read RawProp
    eventually_with i = inner phrase.occ (i + 1) >>= prefixed i

    unfoldable pub next_with : ℕ → Read RawProp
    next_with i = form_in symbols room i >>= λ f. inner phrase.occ f.1 >>= λ p. Some (next i f.0.0 f.0.1 f.0.2 p.0, p.1)

    unfoldable pub occ_with : ℕ → Read RawProp
    occ_with i =
        either_way (is_at symbols i symbol.EventuallyStrong) (eventually_with i)
        (either_way (is_next (symbol_at symbols i)) (next_with i) (abt_with i))

    unfoldable pub until_with : RawProp × ℕ → Read RawProp
    until_with l = either_way (is_at symbols l.1 symbol.Until) (occ_with (l.1 + 1) >>= joined l) (Some l)

    unfoldable pub untl_with : ℕ → Read RawProp
    untl_with i = occ_with i >>= until_with

    -- the property behind a sequence
    unfoldable pub suffix_of : RawProp → ℕ → Read RawProp
    suffix_of (seq s false) m = inner phrase.suff (m + 1) >>= λ p. Some (suffix m s p.0, p.1)
    suffix_of p m = None

    -- in parentheses a sequence is a property, and stands before no suffix
    unfoldable pub suffix_with : RawProp × ℕ → Read RawProp
    suffix_with l =
        either_way (is_at symbols l.1 symbol.Suffix)
        (either_way (is_at symbols (l.1 - 1) symbol.CloseParenthesis) None (suffix_of l.0 l.1)) (Some l)

    unfoldable pub suff_with : ℕ → Read RawProp
    suff_with i = untl_with i >>= suffix_with

    unfoldable pub implied_with : RawProp × ℕ → Read RawProp
    implied_with l =
        either_way (is_at symbols l.1 symbol.Arrow) (inner phrase.impl (l.1 + 1) >>= joined l)
        (either_way (is_at symbols l.1 symbol.DoubleArrow) (suff_with (l.1 + 1) >>= joined l) (Some l))

    unfoldable pub impl_with : ℕ → Read RawProp
    impl_with i = suff_with i >>= implied_with

    unfoldable pub always_with : ℕ → Read RawProp
    always_with i = inner phrase.prop (i + 1) >>= prefixed i

    unfoldable pub prop_with : ℕ → Read RawProp
    prop_with i = either_way (is_at symbols i symbol.Always) (always_with i) (impl_with i)

    unfoldable pub phrase_with : Phrase → ℕ → Read RawProp
    phrase_with phrase.primary i = atom_with i
    phrase_with phrase.occ i = occ_with i
    phrase_with phrase.suff i = suff_with i
    phrase_with phrase.impl i = impl_with i
    phrase_with phrase.prop i = prop_with i
    phrase_with _ i = None

  -- what is read in so many open phrases less one: nothing is left at 0
  unfoldable pub prop_at : (opens : ℕ) → Phrase → ℕ → Read RawProp
  prop_at zero phrase i = None
  prop_at (suc n) phrase i = phrase_with (prop_at n) n phrase i
