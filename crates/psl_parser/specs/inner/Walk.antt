-- The open phrases at a token, each with what was counted in it, and how they go on behind one more token.
use Rattle.std.specs.Prelude.{ℕ, zero, suc, ◌≡◌, ◌+◌, ◌-◌, ◌≤◌, Bool, true, false, cond, not, ◌&&◌, ◌||◌, nat_eq, nat_lt}
use Rattle.std.specs.Prelude.{List, [], ◌∷◌, ◌++◌, length, fold, count_by, Option, Some, None, take, slice_index_or}
use Rattle.psl_grammar.specs.declared.symbols.Symbol.{Symbol}
use Rattle.psl_grammar.specs.Symbols.{symbol_at}
use Rattle.psl_parser.specs.Places.{none_in}
use Rattle.psl_parser.specs.Marks.{opens_bracket, closes_bracket, looseness, is_question, is_colon, is_next}
use Rattle.psl_parser.specs.Marks.{is_close_parenthesis, is_open_brace}
use Rattle.psl_parser.specs.OpenPhrases.{opened, closed, questions, colons, opens_event, closes_event, is_behind}
use Rattle.psl_parser.specs.OpenPhrases.{reach_of, ends, is_count, is_range}
use Rattle.psl_parser.specs.Depth.{behind_all, IsOneTooMany, NoneTooDeep, IsFirstTooDeep}
use Rattle.psl_parser.specs.declared.phrases.Phrase.{Phrase}
use Rattle.psl_parser.specs.declared.phrases.Sight.{Sight}
use Rattle.psl_parser.specs.declared.depth.Walk.{Walk}
use Rattle.psl_parser.specs.declared.depth.Deep.{Deep}

-- 1 for what is so
abbrev pub one : Bool → ℕ
one b = cond b 1 0

abbrev pub is_bare_phrase : Phrase → Bool
is_bare_phrase p = nat_eq p.opened p.closed

abbrev pub is_beyond_phrase : Sight → Phrase → Bool
is_beyond_phrase s p =
    cond (nat_eq p.reach 10 && is_colon s.symbol) (nat_lt p.questions p.colons) (nat_lt p.reach s.looseness)

abbrev pub ends_phrase : Sight → Phrase → Bool
ends_phrase s p = is_bare_phrase p && (closes_bracket s.symbol || (s.behind && is_beyond_phrase s p))

abbrev pub passed : Sight → Phrase → Phrase
passed s p = record {
  reach = p.reach;
  event = p.event;
  opened = p.opened + one (opens_bracket s.symbol);
  closed = p.closed + one (closes_bracket s.symbol);
  questions = p.questions + one (is_bare_phrase p && is_question s.symbol);
  colons = p.colons + one (is_bare_phrase p && is_colon s.symbol);
}

abbrev pub keep : Sight → List Phrase → Phrase → List Phrase
keep s kept p = cond (ends_phrase s p) kept (kept ++ passed s p ∷ [])

abbrev pub go_on : Sight → List Phrase → List Phrase
go_on s phrases = fold (keep s) [] phrases

-- what is counted in a phrase of a text that may be parsed
pub record IsSmall (p : Phrase) : Type 0 where
  pub opened : p.opened ≤ 1048576
  pub closed : p.closed ≤ 1048576
  pub questions : p.questions ≤ 1048576
  pub colons : p.colons ≤ 1048576

-- the brackets of a `next_event` form, at the `)` that closes them
abbrev pub is_event_phrase : Phrase → Bool
is_event_phrase p = p.event && is_bare_phrase p

abbrev pub closes_event_in : List Phrase → Symbol → Bool
closes_event_in phrases symbol = is_close_parenthesis symbol && nat_lt 0 (count_by is_event_phrase phrases)

abbrev pub begun : Bool → Option ℕ → List Phrase
begun event None = []
begun event (Some reach) =
    record { reach = reach; event = event; opened = 0; closed = 0; questions = 0; colons = 0 } ∷ []

module _ (symbols : List Symbol) where
  abbrev pub sight_by : (behind : Bool) → ℕ → Sight
  sight_by behind place =
      record { symbol = symbol_at symbols place; behind = behind; looseness = looseness symbols place }

  abbrev pub sight : ℕ → Sight
  sight place = sight_by (is_behind symbols place) place

  abbrev pub phrase : (place opener reach : ℕ) → Phrase
  phrase place opener reach = record {
    reach = reach;
    event = opens_event symbols opener;
    opened = opened symbols opener place;
    closed = closed symbols opener place;
    questions = questions symbols opener place;
    colons = colons symbols opener place;
  }

  abbrev pub phrase_by : Option ℕ → (place opener : ℕ) → Option Phrase
  phrase_by None place opener = None
  phrase_by (Some reach) place opener =
      cond (none_in (ends symbols reach opener) (suc opener) place) (Some (phrase place opener reach)) None

  -- the phrase that a token opens, where it is open before another
  abbrev pub phrase_at : (place opener : ℕ) → Option Phrase
  phrase_at place opener = phrase_by (reach_of symbols opener) place opener

  -- heads and ends of forms, where it is known which `)` close those of `next_event`
  abbrev pub head_by : (closers : List Bool) → ℕ → Bool
  head_by closers i = is_next (symbol_at symbols i) || slice_index_or closers i false

  abbrev pub form_by : (closers : List Bool) → ℕ → Bool
  form_by closers i = (head_by closers i && not (is_count symbols (i + 1) || is_range symbols (i + 1)))
      || ((head_by closers (i - 3) && is_count symbols (i - 2))
      || (head_by closers (i - 5) && is_range symbols (i - 4)))

abbrev pub listed : {A : Type 0} → Option A → List A
listed None = []
listed (Some x) = x ∷ []

abbrev pub collect : {A : Type 0} → (ℕ → Option A) → ℕ → List A
collect f zero = []
collect f (suc n) = collect f n ++ listed (f n)

abbrev pub first_of_all : {A : Type 0} → (ℕ → A) → ℕ → List A
first_of_all f zero = []
first_of_all f (suc n) = first_of_all f n ++ f n ∷ []

-- the phrases that are open before a token
abbrev pub phrases_at : List Symbol → ℕ → List Phrase
phrases_at symbols place = collect (phrase_at symbols place) place

-- what is carried along up to a token
pub record IsAt (symbols : List Symbol) (place : ℕ) (walk : Walk) : Type 0 where
  pub phrases : walk.phrases.items ≡ phrases_at symbols place
  pub closers : walk.closers.items ≡ first_of_all (closes_event symbols) place
  pub behind : walk.behind ≡ is_behind symbols place
  pub braced : walk.braced ≡ not (none_in (λ n. is_open_brace (symbol_at symbols n)) 0 place)
  pub item : (walk.braces, walk.own) ≡ behind_all (take place symbols)
  pub few : walk.braces ≤ place
  pub few_own : walk.own ≤ place

-- what is told of the first token that is too deep, where there is one
abbrev pub IsFirstOf : List Symbol → Option Deep → Type 0
IsFirstOf symbols None = NoneTooDeep symbols (length symbols)
IsFirstOf symbols (Some deep) =
    IsFirstTooDeep symbols deep.token × (deep.item ≡ true → IsOneTooMany symbols deep.token)
