-- Expressions as the symbols of an automaton: a list in which each has its place as its number, and labels and letters
-- read through it.
--     label_in symbols e             the label of e
--     with_symbol symbols e          the symbols after e was seen
--     HasSymbol symbols e            the symbols have what the label of e speaks of
--     seen_by widths symbols a       what an automaton sees of a letter
use Rattle.std.specs.Prelude.{◌≡◌, ◌≢◌, ◌⊎◌, ℕ, Bool, true, false, not, ◌==◌, ◌&&◌, if◌then◌else◌}
use Rattle.std.specs.Prelude.{List, [], ◌∷◌, ◌++◌, map, Some, None, AllPairs, Contains}
use Rattle.std.specs.List.{list_any, position_or_len}
use Rattle.auto_core.specs.declared.labels.Literal.{Literal}
use Rattle.auto_core.specs.Machine.{Letter, value_in}
use Rattle.psl_meaning.specs.Word.{Valuation, valuation, top, bottom}
use Rattle.psl_meaning.specs.Word as word
use Rattle.psl_model.specs.Expr.{Expr, sized, unary}
use Rattle.psl_model.specs.Value.{own_value}
use Rattle.psl_model.specs.declared.operators.UnOp.TheVariants.{Not}
use Rattle.psl_model.specs.inner.ExprCode.{expr_code}
use Rattle.psl_model.specs.inner.SameCode.{same_code}

-- ---- expressions

-- the expression without its leading `!`
abbrev pub stripped : Expr → Expr
stripped (unary Not e) = stripped e
stripped e = e

-- whether its leading `!` are even in number
abbrev pub is_positive : Expr → Bool
is_positive (unary Not e) = not (is_positive e)
is_positive e = true

-- `1'd1`
abbrev pub is_one : Expr → Bool
is_one (sized width value) = (width == 1) && (value == 1)
is_one e = false

-- whether the expression is `1'd1` but for an even number of leading `!`
abbrev pub needs_none : Expr → Bool
needs_none e = is_positive e && is_one (stripped e)

-- whether two expressions are equal
abbrev pub same : Expr → Expr → Bool
same a b = same_code (expr_code a) (expr_code b)

-- ---- symbols

-- the place of an expression, or the number of symbols where it isn't one
abbrev pub place_in : List Expr → Expr → ℕ
place_in symbols e = position_or_len (same e) symbols

-- An expression that needs no symbol has the empty label. Each other has one literal: its symbol is the place of what
-- is left without the leading `!`, and its sign is by the number of these.
abbrev pub label_in : List Expr → Expr → List Literal
label_in symbols e =
    if needs_none e
    then []
    else record { symbol = place_in symbols (stripped e); positive = is_positive e } ∷ []

-- what is left without the leading `!` is a symbol, or none is needed
abbrev pub HasSymbol : List Expr → Expr → Type 0
HasSymbol symbols e = (needs_none e ≡ true) ⊎ Contains symbols (stripped e)

-- the symbols with one more, which goes last unless it is there
abbrev pub numbered : List Expr → Expr → List Expr
numbered symbols e = if list_any (same e) symbols then symbols else symbols ++ e ∷ []

-- the symbols after an expression was seen: what is left without the leading `!` is there, unless none is needed
abbrev pub with_symbol : List Expr → Expr → List Expr
with_symbol symbols e = if needs_none e then symbols else numbered symbols (stripped e)

-- no symbol stands there twice
abbrev pub AreDifferent : List Expr → Type 0
AreDifferent symbols = AllPairs (λ a b. a ≢ b) symbols

-- ---- letters

-- whether the value of an expression by itself isn't 0
abbrev pub truth : (widths : List ℕ) → Valuation → Expr → Bool
truth widths values e = not (own_value widths values e == 0)

-- the truth value of each symbol, by its number
abbrev pub truths : (widths : List ℕ) → List Expr → Valuation → List Bool
truths widths symbols values = map (truth widths values) symbols

-- What an automaton sees of a letter. It has no letter that stands for bottom, which satisfies not even `1'd1`; so what
-- is said of letters that are seen is said of valuations and tops.
abbrev pub seen_by : (widths : List ℕ) → List Expr → word.Letter → Letter
seen_by widths symbols (valuation values) = Some (value_in (truths widths symbols values))
seen_by widths symbols top = None
seen_by widths symbols bottom = None
