-- Each waveform that some bytes stand for is sound.
use Rattle.std.proofs.Common.{◌≡◌, ℕ, zero, suc, ◌+◌, ◌-◌, ◌<◌, ◌≤◌, ◌⊎◌, inl, inr, List, [], ◌∷◌, ◌++◌, Bool, true}
use Rattle.std.proofs.Common.{false, cond, Option, Some, None, length, map, refl, sym, ◌∙◌, ap, subst, Result, Ok}
use Rattle.std.proofs.Common.{Err, arith, length-append}
use Rattle.std.specs.Prelude.{nat_eq, nat_lt, nat_le, ◌||◌, ◌&&◌, not, slice_get, slice_index, take}
use Rattle.std.specs.List.{list_all}
use Rattle.std.specs.Str.{bytes_eq}
use Rattle.std.specs.Str.Parse.{digits_value}
use Rattle.std.proofs.lemmas.Option.{cond_some}
use Rattle.std.proofs.lemmas.Bool.Decides.{nat_tests}
use Rattle.vcd_reader.specs.declared.reading.Place.{Place}
use Rattle.vcd_reader.specs.declared.reading.Place.TheVariants.{Declaring, Skipping, ScopeType, ScopeName}
use Rattle.vcd_reader.specs.declared.reading.Place.TheVariants.{DeclarationEnd, VarType, VarSize, VarCode, VarName}
use Rattle.vcd_reader.specs.declared.reading.Place.TheVariants.{VarRest, DefinitionsEnd, Changing, Remark, OtherCode}
use Rattle.vcd_reader.specs.declared.reading.Place.TheVariants.{VectorCode}
use Rattle.vcd_reader.specs.declared.waveform.Var.{Var}
use Rattle.vcd_reader.specs.declared.waveform.Change.{Change}
use Rattle.vcd_reader.specs.Codes.{find_code, code_from}
use Rattle.vcd_reader.specs.Numbers.{number_up_to, is_number}
use Rattle.vcd_reader.specs.Words.{is_word, begins_skipped, is_unused, is_value_digit, begins_vector, begins_other}
use Rattle.vcd_reader.specs.Sound.{Each, IsSize, IsSizedVar, IsSizedChange, AreInOrder, IsSound}
use Rattle.vcd_reader.specs.inner.State.{State, start}
use Rattle.vcd_reader.specs.inner.Rules.{Step, next, next_at, with_size, with_code, with_scalar, with_vector, with_time}
use Rattle.vcd_reader.specs.inner.Rules.{at_vector, at_word, at_change, at_upscope, at_declaration, at_rest}
use Rattle.vcd_reader.specs.declared.waveform.VcdError.TheVariants.{VcdSyntax}
use Rattle.vcd_reader.specs.Names.{within, without_range}
use Rattle.vcd_reader.specs.Tokens.{Token}
use Rattle.vcd_reader.specs.Telling.{Outcome, Waveform, IsOutcome, StandsFor}
use Rattle.vcd_reader.specs.declared.waveform.Vcd.{Vcd}
use Rattle.vcd_reader.specs.declared.waveform.VcdError.{VcdError}
use Rattle.std.specs.Prelude.{IfOk}
use Rattle.vcd_reader.specs.inner.Outcome.{reading, behind, may_end}
use Rattle.vcd_reader.proofs.TellingLemmas.{reading_is_telling}
use Rattle.vcd_reader.proofs.TokenLaws.{some_list}
use Rattle.vcd_reader.proofs.SoundStates.{sizes_of, each_more, IsSoundPlace, IsSoundState, Leads, choice, keep, move}
use Rattle.vcd_reader.proofs.SoundStates.{sized_place, at_most, found_size, new_code, more_changes}

size_at_least_one : (s : State) (code size : ℕ) → IsSoundState s → slice_get (sizes_of s.codes) code ≡ Some size
    → 1 ≤ size
size_at_least_one s code size h at = let positive : 0 < size = (h.each_size code size at).0 in omega arith

found_place : (s : State) (id : List ℕ) (code size : ℕ) → find_code s.codes id ≡ Some (code, size)
    → slice_get (sizes_of s.codes) code ≡ Some size
found_place s id code size e =
    let found = found_size 0 s.codes id code size e in
    let place : code ≡ found.0 = omega (arith, found.1) in
    subst (λ n. slice_get (sizes_of s.codes) n ≡ Some size) (sym place) found.2

coded : (s : State) (size : ℕ) (id : List ℕ) → IsSoundState s → IsSize size → (found : Option (ℕ × ℕ))
    → find_code s.codes id ≡ found → Leads (with_code size s id found)
coded s size id h fits None e = new_code s size id h fits
coded s size id h fits (Some known) e = choice (nat_eq known.1 size) _ _
    (λ same. move s h (VarName size known.0)
    (subst (λ n. slice_get (sizes_of s.codes) known.0 ≡ Some n)
    (let is : known.1 ≡ size = grind (arith, nat_tests, same) in is) (found_place s id known.0 known.1 e)))
    (λ no. tt)

scalar_leads : (s : State) (digit : ℕ) (id : List ℕ) → IsSoundState s → IsSoundPlace s.codes s.place s.digits
    → is_value_digit digit ≡ true
    → (found : Option (ℕ × ℕ)) → find_code s.codes id ≡ found → Leads (with_scalar digit s found)
scalar_leads s digit id h here is None e = tt
scalar_leads s digit id h here is (Some known) e =
    let at = found_place s id known.0 known.1 e in
    more_changes s s.place known.0 known.1 (digit ∷ []) s.digits h at (omega arith)
    (size_at_least_one s known.0 known.1 h at) (ap (λ b. b && true) is) here

vector_leads : (s : State) (id : List ℕ) → IsSoundState s
    → (0 < length s.digits) × (list_all is_value_digit s.digits ≡ true)
    → (found : Option (ℕ × ℕ)) → find_code s.codes id ≡ found → Leads (with_vector s found)
vector_leads s id h here None e = tt
vector_leads s id h here (Some known) e = choice (nat_lt known.1 (length s.digits)) _ _ (λ no. tt)
    (λ fits. more_changes s Changing known.0 known.1 s.digits [] h (found_place s id known.0 known.1 e) here.0
    (grind (arith, nat_tests, fits)) here.1 tt)

time_leads : (s : State) → IsSoundState s → (n : Option ℕ) → Leads (with_time s n)
time_leads s h None = tt
time_leads s h (Some time) = choice (nat_lt time s.time) _ _ (λ no. tt) (λ fine.
    let later : s.time ≤ time = grind (arith, nat_tests, fine) in
    record {
      each_size = h.each_size;
      vars = h.vars;
      changes = h.changes;
      in_order = h.in_order;
      past = λ k change at. let before : change.time ≤ s.time = h.past k change at in omega arith;
      here = h.here;
    })

some_digits : (digits : List ℕ) → (nat_eq (length digits) 0 || not (list_all is_value_digit digits)) ≡ false
    → (0 < length digits) × (list_all is_value_digit digits ≡ true)
some_digits [] h = cc
some_digits (digit ∷ digits) h = (
  omega arith,
  neither (nat_eq (length (digit ∷ digits)) 0) (list_all is_value_digit (digit ∷ digits)) h,
)
  where
    neither : (x b : Bool) → (x || not b) ≡ false → b ≡ true
    neither true b e = cc
    neither false true e = refl
    neither false false e = cc

digits_lead : (s : State) (digits : List ℕ) → IsSoundState s → Leads (at_vector s digits)
digits_lead s digits h = choice (nat_eq (length digits) 0 || not (list_all is_value_digit digits)) _ _ (λ no. tt)
    (λ fine. keep s h VectorCode s.path s.outer s.joined digits (some_digits digits fine))

word_leads : (s : State) (text : List ℕ) → IsSoundState s → Leads (at_word s text)
word_leads s text h = choice (is_word "$comment" text) _ _ (λ _. move s h Remark tt)
    (λ _. choice (is_unused text) _ _ (λ _. h) (λ _. tt))

change_leads : (s : State) (text : List ℕ) → IsSoundState s → Leads (at_change s text)
change_leads s [] h = tt
change_leads s (byte ∷ bytes) h = choice (is_value_digit byte) _ _
    (λ is. scalar_leads s byte bytes h h.here is (find_code s.codes bytes) refl) (λ _.
    choice (nat_eq byte 35) _ _ (λ _. time_leads s h (number_up_to 18446744073709551615 bytes)) (λ _.
    choice (begins_vector byte) _ _ (λ _. digits_lead s bytes h) (λ _.
    choice (begins_other byte) _ _ (λ _. move s h OtherCode tt) (λ _. word_leads s (byte ∷ bytes) h))))

upscope_leads : (s : State) → IsSoundState s → Leads (at_upscope s)
upscope_leads s h = choice (nat_eq (length s.outer) 0) _ _ (λ _. tt)
    (λ _. keep s h DeclarationEnd (take (slice_index s.outer (length s.outer - 1)) s.path)
    (take (length s.outer - 1) s.outer) s.joined s.digits tt)

declaration_leads : (s : State) (text : List ℕ) → IsSoundState s → Leads (at_declaration s text)
declaration_leads s text h = choice (is_word "$var" text) _ _ (λ _. move s h VarType tt) (λ _.
    choice (is_word "$scope" text) _ _ (λ _. move s h ScopeType tt) (λ _.
    choice (is_word "$upscope" text) _ _ (λ _. upscope_leads s h) (λ _.
    choice (begins_skipped text) _ _ (λ _. move s h Skipping tt) (λ _.
    choice (is_word "$enddefinitions" text) _ _ (λ _. move s h DefinitionsEnd tt) (λ _. tt)))))

name_leads : (s : State) (size code : ℕ) (text : List ℕ) → IsSoundState s
    → slice_get (sizes_of s.codes) code ≡ Some size → Leads (at_rest size code s text)
name_leads s size code text h here = choice (is_word "$end" text) _ _
    (λ _. record {
      each_size = h.each_size;
      vars = each_more (IsSizedVar (sizes_of s.codes)) s.vars
          (record { scope = s.path; name = without_range s.joined; size = size; code = code }) h.vars here;
      changes = h.changes;
      in_order = h.in_order;
      past = h.past;
      here = tt;
    })
    (λ _. record {
      each_size = h.each_size;
      vars = h.vars;
      changes = h.changes;
      in_order = h.in_order;
      past =
          h.past;
      here = h.here;
    })

leads_at : (p : Place) (s : State) (text : List ℕ) → IsSoundState s → IsSoundPlace s.codes p s.digits
    → Leads (next_at p s text)
leads_at Declaring s text h here = declaration_leads s text h
leads_at Skipping s text h here = choice (is_word "$end" text) _ _ (λ _. move s h Declaring tt) (λ _. h)
leads_at ScopeType s text h here = move s h ScopeName tt
leads_at ScopeName s text h here = choice (is_word "$end" text) _ _ (λ _. tt)
    (λ _. keep s h DeclarationEnd (within s.path text) (s.outer ++ length s.path ∷ []) s.joined s.digits tt)
leads_at DeclarationEnd s text h here = choice (is_word "$end" text) _ _ (λ _. move s h Declaring tt) (λ _. tt)
leads_at VarType s text h here = move s h VarSize tt
leads_at VarSize s text h here = sized_place s h (number_up_to 65536 text) (at_most 65536 text)
leads_at (VarCode size) s text h here = choice (is_word "$end" text) _ _ (λ _. tt)
    (λ _. coded s size text h here (find_code s.codes text) refl)
leads_at (VarName size code) s text h here =
    choice (is_word "$end" text) _ _ (λ _. tt) (λ _. keep s h (VarRest size code) s.path s.outer text s.digits here)
leads_at (VarRest size code) s text h here = name_leads s size code text h here
leads_at DefinitionsEnd s text h here = choice (is_word "$end" text) _ _ (λ _. move s h Changing tt) (λ _. tt)
leads_at Changing s text h here = change_leads s text h
leads_at Remark s text h here = choice (is_word "$end" text) _ _ (λ _. move s h Changing tt) (λ _. h)
leads_at OtherCode s text h here = move s h Changing tt
leads_at VectorCode s text h here = vector_leads s text h here (find_code s.codes text) refl

sound_start : IsSoundState start
sound_start = record {
  each_size = λ k x at. cc;
  vars = λ k x at. cc;
  changes = λ k x at. cc;
  in_order = λ i j a b low at_i at_j. cc;
  past = λ k x at. cc;
  here = tt;
}

sound_end : (end : ℕ) (s : State) (w : Waveform) → IsSoundState s → (b : Bool)
    → cond {A = Outcome} b (Ok (record { vars = s.vars; changes = s.changes })) (Err (VcdSyntax end)) ≡ Ok w → IsSound w
sound_end end s w h true e =
    let same : record { vars = s.vars; changes = s.changes } ≡ w = cc in
    subst IsSound same (record {
      sizes = sizes_of s.codes;
      each_size = h.each_size;
      vars = h.vars;
      changes =
          h.changes;
      in_order = h.in_order;
    })
sound_end end s w h false e = cc

sound_step : (end : ℕ) (token : Token) (tokens : List Token) (w : Waveform)
    → ((after : State) → IsSoundState after → reading end after tokens ≡ Ok w → IsSound w)
    → (step : Step) → Leads step → behind step (λ after. reading end after tokens) token.at ≡ Ok w → IsSound w
sound_step end token tokens w rest (Ok after) h e = rest after h e
sound_step end token tokens w rest (Err fault) h e = cc

sound_reading : (end : ℕ) (s : State) (tokens : List Token) (w : Waveform) → IsSoundState s
    → reading end s tokens ≡ Ok w → IsSound w
sound_reading end s [] w h e = sound_end end s w h (may_end s.place) e
sound_reading end s (token ∷ tokens) w h e =
    sound_step end token tokens w (λ after g f. sound_reading end after tokens w g f) (next s token.text)
    (leads_at s.place s token.text h h.here) e

pub sound_waveform : (bytes : List ℕ) (w : Waveform) → IsOutcome bytes (Ok w) → IsSound w
sound_waveform bytes w h =
    let found = some_list bytes in
    sound_reading (length bytes) start found.0 w sound_start
    (reading_is_telling (length bytes) found.0 ∙ sym (h found.0 found.1))

pub sound_answer : (bytes : List ℕ) (answer : Result Vcd VcdError) → StandsFor bytes answer
    → IfOk answer (λ vcd. IsSound (record { vars = vcd.vars.items; changes = vcd.changes.items }))
sound_answer bytes (Ok vcd) h =
    sound_waveform bytes (record { vars = vcd.vars.items; changes = vcd.changes.items })
    (λ tokens are. sym (h tokens are))
sound_answer bytes (Err error) h = tt
