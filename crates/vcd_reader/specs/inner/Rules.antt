-- What each token does where it stands, and which rule it breaks (IEEE 1364-2005, 18.2).
use Rattle.std.specs.Prelude.{ℕ, ◌-◌, Bool, true, false, cond, nat_lt, nat_eq, nat_le, not, List, [], ◌∷◌, ◌++◌}
use Rattle.std.specs.Prelude.{length, take, slice_index, Option, Some, None, Result, Ok, Err, ◌||◌, ◌&&◌, ◌==◌, ◌^◌}
use Rattle.std.specs.List.{list_all}
use Rattle.vcd_reader.specs.declared.reading.Place.{Place}
use Rattle.vcd_reader.specs.declared.reading.Place.TheVariants.{Declaring, Skipping, ScopeType, ScopeName}
use Rattle.vcd_reader.specs.declared.reading.Place.TheVariants.{DeclarationEnd, VarType, VarSize, VarCode, VarName}
use Rattle.vcd_reader.specs.declared.reading.Place.TheVariants.{VarRest, DefinitionsEnd, Changing, Remark, OtherCode}
use Rattle.vcd_reader.specs.declared.reading.Place.TheVariants.{VectorCode}
use Rattle.vcd_reader.specs.declared.reading.Fault.{Fault}
use Rattle.vcd_reader.specs.declared.reading.Fault.TheVariants.{Syntax, TimeGoesBack}
use Rattle.vcd_reader.specs.declared.waveform.Change.{Change}
use Rattle.vcd_reader.specs.Codes.{find_code}
use Rattle.vcd_reader.specs.Names.{within, without_range}
use Rattle.vcd_reader.specs.Numbers.{number_up_to}
use Rattle.vcd_reader.specs.inner.State.{State}
use Rattle.vcd_reader.specs.Words.{is_word, begins_skipped, is_unused, is_value_digit, begins_vector, begins_other}

abbrev pub Step : Type 0
Step = Result State Fault

abbrev pub go : Place → State → Step
go place s = Ok (record s { place = place })

-- `$end`, behind which another place is
abbrev pub at_end : Place → State → List ℕ → Step
at_end behind s text = cond (is_word "$end" text) (go behind s) (Err Syntax)

-- anything up to `$end`
abbrev pub up_to_end : Place → State → List ℕ → Step
up_to_end behind s text = cond (is_word "$end" text) (go behind s) (Ok s)

-- the end of the list `outer` is the length of the path round the innermost scope
abbrev pub at_upscope : State → Step
at_upscope s = cond (nat_eq (length s.outer) 0) (Err Syntax) (Ok (record s {
  place = DeclarationEnd;
  path = take (slice_index s.outer (length s.outer - 1)) s.path;
  outer = take (length s.outer - 1) s.outer;
}))

abbrev pub at_declaration : State → List ℕ → Step
at_declaration s text =
    cond (is_word "$var" text) (go VarType s) (
    cond (is_word "$scope" text) (go ScopeType s) (
    cond (is_word "$upscope" text) (at_upscope s) (
    cond (begins_skipped text) (go Skipping s) (
    cond (is_word "$enddefinitions" text) (go DefinitionsEnd s) (Err Syntax)))))

abbrev pub at_scope_name : State → List ℕ → Step
at_scope_name s text = cond (is_word "$end" text) (Err Syntax) (Ok (record s {
  place = DeclarationEnd;
  path = within s.path text;
  outer = s.outer ++ length s.path ∷ [];
}))

abbrev pub with_size : State → Option ℕ → Step
with_size s None = Err Syntax
with_size s (Some size) = cond (nat_lt 0 size) (go (VarCode size) s) (Err Syntax)

abbrev pub at_size : State → List ℕ → Step
at_size s text = with_size s (number_up_to 65536 text)

-- a new identifier takes the next number; one that is declared has its size already
abbrev pub with_code : ℕ → State → List ℕ → Option (ℕ × ℕ) → Step
with_code size s text None =
    Ok (record s { place = VarName size (length s.codes); codes = s.codes ++ (text, size) ∷ [] })
with_code size s text (Some known) = cond (nat_eq known.1 size) (go (VarName size known.0) s) (Err Syntax)

abbrev pub at_code : ℕ → State → List ℕ → Step
at_code size s text = cond (is_word "$end" text) (Err Syntax) (with_code size s text (find_code s.codes text))

abbrev pub at_name : ℕ → ℕ → State → List ℕ → Step
at_name size code s text =
    cond (is_word "$end" text) (Err Syntax) (Ok (record s { place = VarRest size code; joined = text }))

abbrev pub at_rest : ℕ → ℕ → State → List ℕ → Step
at_rest size code s text = cond (is_word "$end" text)
    (Ok (record s {
      place = Declaring;
      vars = s.vars ++ record { scope = s.path; name = without_range s.joined; size = size; code = code } ∷ [];
      joined = [];
    }))
    (Ok (record s { joined = s.joined ++ text }))

abbrev pub at_word : State → List ℕ → Step
at_word s text = cond (is_word "$comment" text) (go Remark s) (cond (is_unused text) (Ok s) (Err Syntax))

abbrev pub with_time : State → Option ℕ → Step
with_time s None = Err Syntax
with_time s (Some time) = cond (nat_lt time s.time) (Err TimeGoesBack) (Ok (record s { time = time }))

abbrev pub at_time : State → List ℕ → Step
at_time s digits = with_time s (number_up_to 18446744073709551615 digits)

-- the changes with one more, at the time that it is
abbrev pub with_change : State → ℕ → List ℕ → List Change
with_change s code digits = s.changes ++ record { time = s.time; code = code; digits = digits } ∷ []

abbrev pub with_scalar : ℕ → State → Option (ℕ × ℕ) → Step
with_scalar digit s None = Err Syntax
with_scalar digit s (Some known) = Ok (record s { changes = with_change s known.0 (digit ∷ []) })

abbrev pub at_scalar : ℕ → State → List ℕ → Step
at_scalar digit s id = with_scalar digit s (find_code s.codes id)

abbrev pub at_vector : State → List ℕ → Step
at_vector s digits =
    cond (nat_eq (length digits) 0 || not (list_all is_value_digit digits)) (Err Syntax)
    (Ok (record s { place = VectorCode; digits = digits }))

abbrev pub with_vector : State → Option (ℕ × ℕ) → Step
with_vector s None = Err Syntax
with_vector s (Some known) =
    cond (nat_lt known.1 (length s.digits)) (Err Syntax)
    (Ok (record s { place = Changing; digits = []; changes = with_change s known.0 s.digits }))

abbrev pub at_vector_code : State → List ℕ → Step
at_vector_code s id = with_vector s (find_code s.codes id)

abbrev pub at_change : State → List ℕ → Step
at_change s [] = Err Syntax
at_change s (first ∷ rest) =
    cond (is_value_digit first) (at_scalar first s rest) (
    cond (nat_eq first 35) (at_time s rest) (
    cond (begins_vector first) (at_vector s rest) (
    cond (begins_other first) (go OtherCode s) (at_word s (first ∷ rest)))))

abbrev pub next_at : Place → State → List ℕ → Step
next_at Declaring s text = at_declaration s text
next_at Skipping s text = up_to_end Declaring s text
next_at ScopeType s text = go ScopeName s
next_at ScopeName s text = at_scope_name s text
next_at DeclarationEnd s text = at_end Declaring s text
next_at VarType s text = go VarSize s
next_at VarSize s text = at_size s text
next_at (VarCode size) s text = at_code size s text
next_at (VarName size code) s text = at_name size code s text
next_at (VarRest size code) s text = at_rest size code s text
next_at DefinitionsEnd s text = at_end Changing s text
next_at Changing s text = at_change s text
next_at Remark s text = up_to_end Changing s text
next_at OtherCode s text = go Changing s
next_at VectorCode s text = at_vector_code s text

-- the state after a token, or the rule that the token breaks
abbrev pub next : State → List ℕ → Step
next s text = next_at s.place s text
