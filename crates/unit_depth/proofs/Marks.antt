-- What single symbols do to phrases, brackets and items.
use Rattle.std.proofs.Common.{◌≡◌, ℕ, suc, ◌<◌, ◌≤◌, Bool, true, false, cond, Some, None, refl, arith, nat_eq}
use Rattle.std.proofs.lemmas.Bool.{ne_eqb}
use Rattle.std.specs.Prelude.{◌&&◌, IsTrue}
use Rattle.psl_grammar.specs.declared.symbols.Symbol.{Symbol}
use Rattle.psl_grammar.specs.declared.symbols.Symbol.TheVariants as symbol
use Rattle.psl_grammar.specs.Symbols.{after_level, is_prefix, is_literal, is_name, is_high, sere_level, begins_sequence}
use Rattle.psl_parser.specs.Marks.{opens_bracket, closes_bracket, ends_operand, loose, is_close_parenthesis}
use Rattle.psl_parser.specs.Marks.{is_exclamation, is_question, is_colon, is_close_bracket, is_next, is_event}
use Rattle.psl_parser.specs.OpenPhrases.{behind_by, reach_by}
use Rattle.psl_parser.specs.Depth.{begins_item, braces_behind}
use Rattle.psl_parser.specs.Seen.{is_semicolon}

-- ---- symbols that are no bracket and no word of `next`

abbrev pub is_quiet : Symbol → Bool
is_quiet symbol.OpenParenthesis = false
is_quiet symbol.CloseParenthesis = false
is_quiet symbol.OpenBracket = false
is_quiet symbol.CloseBracket = false
is_quiet symbol.OpenBrace = false
is_quiet symbol.CloseBrace = false
is_quiet symbol.RepeatOpen = false
is_quiet symbol.GotoOpen = false
is_quiet symbol.EqualRepeatOpen = false
is_quiet symbol.Next = false
is_quiet symbol.NextRange = false
is_quiet _ = true

pub record Quiet (s : Symbol) : Type 0 where
  pub opens : opens_bracket s ≡ false
  pub closes : closes_bracket s ≡ false
  pub next : is_next s ≡ false
  pub parenthesis : is_close_parenthesis s ≡ false
  pub bracket : is_close_bracket s ≡ false

pub quiet_of : (s : Symbol) → is_quiet s ≡ true → Quiet s
quiet_of symbol.OpenParenthesis e = cc
quiet_of symbol.CloseParenthesis e = cc
quiet_of symbol.OpenBracket e = cc
quiet_of symbol.CloseBracket e = cc
quiet_of symbol.OpenBrace e = cc
quiet_of symbol.CloseBrace e = cc
quiet_of symbol.RepeatOpen e = cc
quiet_of symbol.GotoOpen e = cc
quiet_of symbol.EqualRepeatOpen e = cc
quiet_of symbol.Next e = cc
quiet_of symbol.NextRange e = cc
quiet_of _ e = record { opens = refl; closes = refl; next = refl; parenthesis = refl; bracket = refl }

-- ---- symbols that leave braces and items as they are

abbrev pub is_level : Symbol → Bool
is_level symbol.OpenBrace = false
is_level symbol.CloseBrace = false
is_level symbol.Semicolon = false
is_level _ = true

pub record Level (s : Symbol) : Type 0 where
  pub braces : (b : ℕ) → braces_behind b s ≡ b
  pub item : (b : ℕ) → begins_item b s ≡ false
  pub semicolon : is_semicolon s ≡ false

pub level_of : (s : Symbol) → is_level s ≡ true → Level s
level_of symbol.OpenBrace e = cc
level_of symbol.CloseBrace e = cc
level_of symbol.Semicolon e = cc
level_of _ e = record { braces = λ b. refl; item = λ b. refl; semicolon = refl }

-- ---- symbols that open no phrase, wherever they stand

abbrev pub is_still : Symbol → Bool
is_still symbol.OpenParenthesis = false
is_still symbol.CloseParenthesis = false
is_still symbol.OpenBracket = false
is_still symbol.CloseBracket = false
is_still symbol.OpenBrace = false
is_still symbol.CloseBrace = false
is_still symbol.RepeatOpen = false
is_still symbol.GotoOpen = false
is_still symbol.EqualRepeatOpen = false
is_still symbol.Next = false
is_still symbol.NextRange = false
is_still symbol.Semicolon = false
is_still symbol.Always = false
is_still symbol.Arrow = false
is_still symbol.Suffix = false
is_still symbol.EventuallyStrong = false
is_still symbol.Question = false
is_still symbol.Exclamation = false
is_still symbol.Tilde = false
is_still symbol.And = false
is_still symbol.Caret = false
is_still symbol.Or = false
is_still _ = true

pub record Still (s : Symbol) : Type 0 where
  pub quiet : Quiet s
  pub level : Level s
  pub question : is_question s ≡ false
  pub exclamation : is_exclamation s ≡ false
  pub reach : (b h : Bool) → reach_by s b h false ≡ None
  pub after : (h : Bool) → behind_by s h false ≡ ends_operand s

operand_of : (b : Bool) → (b && true) ≡ b
operand_of true = refl
operand_of false = refl

pub still_of : (s : Symbol) → is_still s ≡ true → Still s
still_of symbol.OpenParenthesis e = cc
still_of symbol.CloseParenthesis e = cc
still_of symbol.OpenBracket e = cc
still_of symbol.CloseBracket e = cc
still_of symbol.OpenBrace e = cc
still_of symbol.CloseBrace e = cc
still_of symbol.RepeatOpen e = cc
still_of symbol.GotoOpen e = cc
still_of symbol.EqualRepeatOpen e = cc
still_of symbol.Next e = cc
still_of symbol.NextRange e = cc
still_of symbol.Semicolon e = cc
still_of symbol.Always e = cc
still_of symbol.Arrow e = cc
still_of symbol.Suffix e = cc
still_of symbol.EventuallyStrong e = cc
still_of symbol.Question e = cc
still_of symbol.Exclamation e = cc
still_of symbol.Tilde e = cc
still_of symbol.And e = cc
still_of symbol.Caret e = cc
still_of symbol.Or e = cc
still_of _ e = record {
  quiet = record { opens = refl; closes = refl; next = refl; parenthesis = refl; bracket = refl };
  level = record { braces = λ b. refl; item = λ b. refl; semicolon = refl };
  question = refl;
  exclamation = refl;
  reach = λ b h. refl;
  after = λ h. refl;
}

-- ---- words and marks that open a phrase where they stand, behind an operand or not

pub record Word (s : Symbol) (h : Bool) (r : ℕ) : Type 0 where
  pub quiet : Quiet s
  pub level : Level s
  pub colon : is_colon s ≡ false
  pub event : is_event s ≡ false
  pub reach : (b : Bool) → reach_by s b h false ≡ Some r
  pub after : behind_by s h false ≡ false

pub prefix_word : (s : Symbol) → IsTrue (is_prefix s) → Word s false 0
prefix_word symbol.Exclamation e = record {
  quiet = quiet_of symbol.Exclamation refl;
  level = level_of symbol.Exclamation refl;
  colon = refl;
  event = refl;
  reach = λ b. refl;
  after = refl;
}
prefix_word symbol.Tilde e = record {
  quiet = quiet_of symbol.Tilde refl;
  level = level_of symbol.Tilde refl;
  colon = refl;
  event = refl;
  reach = λ b. refl;
  after = refl;
}
prefix_word symbol.And e = record {
  quiet = quiet_of symbol.And refl;
  level = level_of symbol.And refl;
  colon = refl;
  event = refl;
  reach = λ b. refl;
  after = refl;
}
prefix_word symbol.Or e = record {
  quiet = quiet_of symbol.Or refl;
  level = level_of symbol.Or refl;
  colon = refl;
  event = refl;
  reach = λ b. refl;
  after = refl;
}
prefix_word symbol.Caret e = record {
  quiet = quiet_of symbol.Caret refl;
  level = level_of symbol.Caret refl;
  colon = refl;
  event = refl;
  reach = λ b. refl;
  after = refl;
}
prefix_word _ e = cc

pub always_word : (h : Bool) → Word symbol.Always h 14
always_word h = record {
  quiet = quiet_of symbol.Always refl;
  level = level_of symbol.Always refl;
  colon = refl;
  event = refl;
  reach = λ b. refl;
  after = refl;
}

pub arrow_word : (h : Bool) → Word symbol.Arrow h 14
arrow_word h = record {
  quiet = quiet_of symbol.Arrow refl;
  level = level_of symbol.Arrow refl;
  colon = refl;
  event = refl;
  reach = λ b. refl;
  after = refl;
}

pub suffix_word : (h : Bool) → Word symbol.Suffix h 13
suffix_word h = record {
  quiet = quiet_of symbol.Suffix refl;
  level = level_of symbol.Suffix refl;
  colon = refl;
  event = refl;
  reach = λ b. refl;
  after = refl;
}

pub eventually_word : (h : Bool) → Word symbol.EventuallyStrong h 11
eventually_word h = record {
  quiet = quiet_of symbol.EventuallyStrong refl;
  level = level_of symbol.EventuallyStrong refl;
  colon = refl;
  event = refl;
  reach = λ b. refl;
  after = refl;
}

pub question_word : (h : Bool) → Word symbol.Question h 10
question_word h = record {
  quiet = quiet_of symbol.Question refl;
  level = level_of symbol.Question refl;
  colon = refl;
  event = refl;
  reach = λ b. refl;
  after = refl;
}

pub prefix_question : (s : Symbol) → IsTrue (is_prefix s) → is_question s ≡ false
prefix_question symbol.Exclamation e = refl
prefix_question symbol.Tilde e = refl
prefix_question symbol.And e = refl
prefix_question symbol.Or e = refl
prefix_question symbol.Caret e = refl
prefix_question _ e = cc

-- ---- operators behind an operand

pub record Operator (s : Symbol) : Type 0 where
  pub quiet : Quiet s
  pub exclamation : is_exclamation s ≡ false
  pub question : is_question s ≡ false
  pub event : is_event s ≡ false
  pub reach : (b : Bool) → reach_by s b true false ≡ None
  pub after : (h : Bool) → behind_by s h false ≡ false

operator_by : (s : Symbol) → Quiet s → is_exclamation s ≡ false → is_question s ≡ false → is_event s ≡ false
    → ((b : Bool) → reach_by s b true false ≡ None) → ((h : Bool) → behind_by s h false ≡ false) → Operator s
operator_by s q e w v r a =
    record { quiet = q; exclamation = e; question = w; event = v; reach = r; after = a }

pub expr_operator : (s : Symbol) (k : ℕ) → after_level s ≡ suc k → k < 9 → Operator s
expr_operator symbol.Sum k e lt =
    operator_by symbol.Sum (quiet_of symbol.Sum refl) refl refl refl (λ b. refl) (λ h. refl)
expr_operator symbol.Shift k e lt =
    operator_by symbol.Shift (quiet_of symbol.Shift refl) refl refl refl (λ b. refl) (λ h. refl)
expr_operator symbol.Order k e lt =
    operator_by symbol.Order (quiet_of symbol.Order refl) refl refl refl (λ b. refl) (λ h. refl)
expr_operator symbol.Equality k e lt =
    operator_by symbol.Equality (quiet_of symbol.Equality refl) refl refl refl (λ b. refl) (λ h. refl)
expr_operator symbol.And k e lt =
    operator_by symbol.And (quiet_of symbol.And refl) refl refl refl (λ b. refl) (λ h. refl)
expr_operator symbol.Caret k e lt =
    operator_by symbol.Caret (quiet_of symbol.Caret refl) refl refl refl (λ b. refl) (λ h. refl)
expr_operator symbol.Or k e lt =
    operator_by symbol.Or (quiet_of symbol.Or refl) refl refl refl (λ b. refl) (λ h. refl)
expr_operator symbol.AndAnd k e lt =
    operator_by symbol.AndAnd (quiet_of symbol.AndAnd refl) refl refl refl (λ b. refl) (λ h. refl)
expr_operator symbol.OrOr k e lt =
    operator_by symbol.OrOr (quiet_of symbol.OrOr refl) refl refl refl (λ b. refl) (λ h. refl)
expr_operator _ k e lt = absurd (omega arith)

pub expr_level : (s : Symbol) (k : ℕ) → after_level s ≡ suc k → k < 9
    → (Level s) × (is_colon s ≡ false) × (loose s ≡ suc k)
expr_level symbol.Sum k e lt = (level_of symbol.Sum refl, refl, e)
expr_level symbol.Shift k e lt = (level_of symbol.Shift refl, refl, e)
expr_level symbol.Order k e lt = (level_of symbol.Order refl, refl, e)
expr_level symbol.Equality k e lt = (level_of symbol.Equality refl, refl, e)
expr_level symbol.And k e lt = (level_of symbol.And refl, refl, e)
expr_level symbol.Caret k e lt = (level_of symbol.Caret refl, refl, e)
expr_level symbol.Or k e lt = (level_of symbol.Or refl, refl, e)
expr_level symbol.AndAnd k e lt = (level_of symbol.AndAnd refl, refl, e)
expr_level symbol.OrOr k e lt = (level_of symbol.OrOr refl, refl, e)
expr_level _ k e lt = absurd (omega arith)

pub sere_operator : (s : Symbol) (k : ℕ) → sere_level s ≡ suc k → k < 6 → Operator s
sere_operator symbol.Within k e lt =
    operator_by symbol.Within (quiet_of symbol.Within refl) refl refl refl (λ b. refl) (λ h. refl)
sere_operator symbol.And k e lt =
    operator_by symbol.And (quiet_of symbol.And refl) refl refl refl (λ b. refl) (λ h. refl)
sere_operator symbol.AndAnd k e lt =
    operator_by symbol.AndAnd (quiet_of symbol.AndAnd refl) refl refl refl (λ b. refl) (λ h. refl)
sere_operator symbol.Or k e lt =
    operator_by symbol.Or (quiet_of symbol.Or refl) refl refl refl (λ b. refl) (λ h. refl)
sere_operator symbol.Colon k e lt =
    operator_by symbol.Colon (quiet_of symbol.Colon refl) refl refl refl (λ b. refl) (λ h. refl)
sere_operator symbol.Semicolon k e lt =
    operator_by symbol.Semicolon (quiet_of symbol.Semicolon refl) refl refl refl (λ b. refl) (λ h. refl)
sere_operator _ k e lt = absurd (omega arith)

-- in two braces no symbol that joins sequences ends an item
pub record Deep (s : Symbol) : Type 0 where
  pub braces : (b : ℕ) → braces_behind b s ≡ b
  pub item : (b : ℕ) → 2 ≤ b → begins_item b s ≡ false
  pub semicolon : (b : ℕ) → 2 ≤ b → (is_semicolon s && nat_eq b 1) ≡ false

pub deep_level : (s : Symbol) → Level s → Deep s
deep_level s l = record {
  braces = l.braces;
  item = λ b le. l.item b;
  semicolon = λ b le. off (is_semicolon s) (nat_eq b 1) l.semicolon;
}
  where
    off : (a b : Bool) → a ≡ false → (a && b) ≡ false
    off true b e = cc
    off false b e = refl

pub sere_deep : (s : Symbol) (k : ℕ) → sere_level s ≡ suc k → k < 6 → Deep s
sere_deep symbol.Within k e lt = deep_level symbol.Within (level_of symbol.Within refl)
sere_deep symbol.And k e lt = deep_level symbol.And (level_of symbol.And refl)
sere_deep symbol.AndAnd k e lt = deep_level symbol.AndAnd (level_of symbol.AndAnd refl)
sere_deep symbol.Or k e lt = deep_level symbol.Or (level_of symbol.Or refl)
sere_deep symbol.Colon k e lt = deep_level symbol.Colon (level_of symbol.Colon refl)
sere_deep symbol.Semicolon k e lt = record {
  braces = λ b. refl;
  item = λ b le. ne_eqb b 1 (λ same. omega arith);
  semicolon = λ b le. ne_eqb b 1 (λ same. omega arith);
}
sere_deep _ k e lt = absurd (omega arith)

-- ---- operands of one token

pub name_still : (s : Symbol) → IsTrue (is_name s)
    → (is_still s ≡ true) × (ends_operand s ≡ true) × (is_colon s ≡ false)
name_still symbol.Name e = (refl, refl, refl)
name_still symbol.SequenceName e = (refl, refl, refl)
name_still symbol.PropertyName e = (refl, refl, refl)
name_still _ e = cc

pub literal_still : (s : Symbol) → IsTrue (is_literal s)
    → (is_still s ≡ true) × (ends_operand s ≡ true) × (is_colon s ≡ false)
literal_still symbol.Number e = (refl, refl, refl)
literal_still symbol.Literal e = (refl, refl, refl)
literal_still _ e = cc

pub high_still : (s : Symbol) → IsTrue (is_high s) → is_still s ≡ true
high_still symbol.Number e = refl
high_still symbol.Inf e = refl
high_still _ e = cc

pub literal_apart : (s : Symbol) → IsTrue (is_literal s) → begins_sequence s ≡ false
literal_apart symbol.Number h = refl
literal_apart symbol.Literal h = refl
literal_apart _ h = cc

pub prefix_apart : (s : Symbol) → IsTrue (is_prefix s) → begins_sequence s ≡ false
prefix_apart symbol.Exclamation h = refl
prefix_apart symbol.Tilde h = refl
prefix_apart symbol.And h = refl
prefix_apart symbol.Or h = refl
prefix_apart symbol.Caret h = refl
prefix_apart _ h = cc

-- ---- how loosely symbols join

pub loose_small : (b : Bool) (s : Symbol) → cond b 11 (loose s) ≤ 15
loose_small true s = omega arith
loose_small false symbol.Until = omega arith
loose_small false _ = omega arith

pub colon_small : (b : Bool) (s : Symbol) → is_colon s ≡ true → cond b 11 (loose s) ≤ 11
colon_small true s e = omega arith
colon_small false symbol.Colon e = omega arith
colon_small false _ e = absurd (cc)

pub loose_least : (b : Bool) (s : Symbol) (n : ℕ) → loose s ≡ n → n ≤ 11 → n ≤ cond b 11 (loose s)
loose_least true s n e le = le
loose_least false s n e le = omega arith

pub closes_alone : (s : Symbol) → closes_bracket s ≡ true → opens_bracket s ≡ false
closes_alone symbol.CloseParenthesis e = refl
closes_alone symbol.CloseBracket e = refl
closes_alone symbol.CloseBrace e = refl
closes_alone _ e = cc
