-- In which open phrases a token stands, told by symbols alone. A token stands in the phrase that an earlier one opens
-- where no token behind that one, up to and with the token itself, ends the phrase.
use Rattle.std.specs.Prelude.{ℕ, zero, suc, ◌+◌, ◌-◌, Bool, false, cond, not, ◌&&◌, ◌||◌, nat_eq, nat_lt, List}
use Rattle.std.specs.Prelude.{Option, Some, None}
use Rattle.psl_grammar.specs.declared.symbols.Symbol.{Symbol}
use Rattle.psl_grammar.specs.declared.symbols.Symbol.TheVariants.{OpenParenthesis, OpenBrace, Always, EventuallyStrong}
use Rattle.psl_grammar.specs.declared.symbols.Symbol.TheVariants.{Question, Suffix, Arrow, Exclamation, Tilde, And}
use Rattle.psl_grammar.specs.declared.symbols.Symbol.TheVariants.{Caret, Or}
use Rattle.psl_grammar.specs.Symbols.{symbol_at}
use Rattle.psl_parser.specs.Places.{count_in, none_in}
use Rattle.psl_parser.specs.Marks.{opens_bracket, closes_bracket, ends_operand, looseness, is_open_brace, is_colon}
use Rattle.psl_parser.specs.Marks.{is_open_parenthesis, is_close_parenthesis, is_exclamation, is_question, is_number}
use Rattle.psl_parser.specs.Marks.{is_open_bracket, is_close_bracket, is_next, is_event}

-- whether a token stands behind an operand, by the token before it, whether that one does, and whether it ends a form
abbrev pub behind_by : Symbol → (behind form : Bool) → Bool
behind_by before behind form = cond (is_exclamation before) behind (ends_operand before && not form)

-- How loosely tokens may be joined in the phrase that a token opens, none where it opens none: 0 in the operand of a
-- prefix operator, 10 in the right side of a `?`, 11 in the operand of a `next` form, 13 in the right side of a `|->`,
-- 14 in that of a `->` and in the operand of `always`, 15 in brackets. It is told by the token, by whether there is a
-- `{` before it, by whether it stands behind an operand, and by whether it ends a `next` form.
abbrev pub reach_by : Symbol → (braced behind form : Bool) → Option ℕ
reach_by OpenParenthesis braced behind form = Some 15
reach_by OpenBrace braced behind form = cond braced (Some 15) None
reach_by Always braced behind form = Some 14
reach_by Arrow braced behind form = Some 14
reach_by Suffix braced behind form = Some 13
reach_by EventuallyStrong braced behind form = Some 11
reach_by Question braced behind form = Some 10
reach_by Exclamation braced behind form = cond behind None (Some 0)
reach_by Tilde braced behind form = cond behind None (Some 0)
reach_by And braced behind form = cond behind None (Some 0)
reach_by Caret braced behind form = cond behind None (Some 0)
reach_by Or braced behind form = cond behind None (Some 0)
reach_by _ braced behind form = cond form (Some 11) None

module _ (symbols : List Symbol) where
  -- ---- brackets

  -- how many brackets were opened behind a token and before another
  abbrev pub opened : (behind place : ℕ) → ℕ
  opened behind place = count_in (λ n. opens_bracket (symbol_at symbols n)) (suc behind) place

  abbrev pub closed : (behind place : ℕ) → ℕ
  closed behind place = count_in (λ n. closes_bracket (symbol_at symbols n)) (suc behind) place

  -- whether none of them is open at a token
  abbrev pub is_bare : (behind place : ℕ) → Bool
  is_bare behind place = nat_eq (opened behind place) (closed behind place)

  -- whether a token closes the brackets in which the tokens behind another stand
  abbrev pub closes_round : (behind place : ℕ) → Bool
  closes_round behind place = is_bare behind place && closes_bracket (symbol_at symbols place)

  -- ---- the forms of `next`, which open a phrase behind their last token

  -- "[" number "]"
  abbrev pub is_count : ℕ → Bool
  is_count i = is_open_bracket (symbol_at symbols i) && is_number (symbol_at symbols (i + 1))
      && is_close_bracket (symbol_at symbols (i + 2))

  -- "[" number ":" number "]"
  abbrev pub is_range : ℕ → Bool
  is_range i = is_open_bracket (symbol_at symbols i) && is_number (symbol_at symbols (i + 1))
      && is_colon (symbol_at symbols (i + 2)) && is_number (symbol_at symbols (i + 3))
      && is_close_bracket (symbol_at symbols (i + 4))

  -- the `(` of a `next_event` form
  abbrev pub opens_event : ℕ → Bool
  opens_event i = is_open_parenthesis (symbol_at symbols i) && is_event (symbol_at symbols (i - 1))

  -- the `)` of a `next_event` form
  abbrev pub closes_event : ℕ → Bool
  closes_event place = is_close_parenthesis (symbol_at symbols place) && nat_lt 0
      (count_in (λ i. opens_event i && (closes_round i place && none_in (closes_round i) (suc i) place)) 0 place)

  -- what a count or a range may stand behind
  abbrev pub is_head : ℕ → Bool
  is_head i = is_next (symbol_at symbols i) || closes_event i

  -- the last token of a form
  abbrev pub ends_form : ℕ → Bool
  ends_form i = (is_head i && not (is_count (i + 1) || is_range (i + 1)))
      || ((is_head (i - 3) && is_count (i - 2)) || (is_head (i - 5) && is_range (i - 4)))

  -- ---- phrases

  -- Whether a token stands behind an operand: a `!` is part of the operand that it stands behind, and a mark that may
  -- be a prefix operator is one where it stands behind none.
  abbrev pub is_behind : ℕ → Bool
  is_behind zero = false
  is_behind (suc i) = behind_by (symbol_at symbols i) (is_behind i) (ends_form i)

  -- how loosely tokens may be joined in the phrase that a token opens; the first `{` is that of the unit
  abbrev pub reach_of : (opener : ℕ) → Option ℕ
  reach_of opener = reach_by (symbol_at symbols opener)
      (not (none_in (λ n. is_open_brace (symbol_at symbols n)) 0 opener)) (is_behind opener) (ends_form opener)

  -- the `?` and the `:` behind a token and before another that stand in no brackets between
  abbrev pub questions : (behind place : ℕ) → ℕ
  questions behind place = count_in (λ n. is_bare behind n && is_question (symbol_at symbols n)) (suc behind) place

  abbrev pub colons : (behind place : ℕ) → ℕ
  colons behind place = count_in (λ n. is_bare behind n && is_colon (symbol_at symbols n)) (suc behind) place

  -- Whether a token behind an operand joins too loosely for a phrase. In the right side of a `?` one `:` stands more
  -- than there are `?` in it: the next is too many.
  abbrev pub is_beyond : (reach opener place : ℕ) → Bool
  is_beyond reach opener place = cond (nat_eq reach 10 && is_colon (symbol_at symbols place))
      (nat_lt (questions opener place) (colons opener place)) (nat_lt reach (looseness symbols place))

  -- whether a token ends a phrase
  abbrev pub ends : (reach opener place : ℕ) → Bool
  ends reach opener place = is_bare opener place
      && (closes_bracket (symbol_at symbols place) || (is_behind place && is_beyond reach opener place))

  abbrev pub stands_by : Option ℕ → (opener place : ℕ) → Bool
  stands_by None opener place = false
  stands_by (Some reach) opener place = none_in (ends reach opener) (suc opener) (suc place)

  -- whether a token stands in the phrase that an earlier one opens
  abbrev pub stands_in : (opener place : ℕ) → Bool
  stands_in opener place = stands_by (reach_of opener) opener place

  -- in how many open phrases a token stands
  abbrev pub open_phrases : (place : ℕ) → ℕ
  open_phrases place = count_in (λ opener. stands_in opener place) 0 place
