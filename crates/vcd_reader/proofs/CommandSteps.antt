-- Steps of the reader at the first token of a phrase behind the declarations.
use Rattle.std.proofs.Common.{◌≡◌, ℕ, List, [], ◌∷◌, ◌++◌, Bool, true, false, cond, Option, Some, None, length, refl}
use Rattle.std.proofs.Common.{sym, ◌∙◌, ap, Ok, Err}
use Rattle.std.specs.Prelude.{nat_eq, nat_lt, ◌||◌, not}
use Rattle.std.specs.List.{list_all}
use Rattle.vcd_reader.specs.declared.reading.Fault.TheVariants.{Syntax}
use Rattle.vcd_reader.specs.declared.reading.Place.TheVariants.{Changing, Remark, OtherCode, VectorCode}
use Rattle.vcd_reader.specs.Codes.{find_code}
use Rattle.vcd_reader.specs.Numbers.{number_up_to}
use Rattle.vcd_reader.specs.Context.{Context}
use Rattle.vcd_reader.specs.Phrases.{Judgement, whole, begins, unlawful, skipped, command, scalar, time_of, vector}
use Rattle.vcd_reader.specs.Phrases.{other, word_phrase, judge}
use Rattle.vcd_reader.specs.Words.{is_word, is_unused, is_value_digit, begins_vector, begins_other}
use Rattle.vcd_reader.specs.inner.Rules.{Step, next, at_change, at_scalar, at_time, at_vector, at_word}
use Rattle.vcd_reader.proofs.Stands.{Stand, between, remarks, others, vectors, at, Is, Follows, plain, base, open_place}
use Rattle.vcd_reader.proofs.Following.{moved}
use Rattle.vcd_reader.proofs.BeginningSteps.{judged_changing, next_changing, scalar_step, time_step}

-- the first token is judged so, whatever tokens follow
abbrev JudgedAs : Context → List ℕ → (List (List ℕ) → Judgement) → Type 0
JudgedAs c text kind = (rest : List (List ℕ)) → judge c text rest ≡ kind rest

-- a word that is no comment
unused_step : (c : Context) (text : List ℕ) → c.declaring ≡ false
    → JudgedAs c text (λ rest. cond (is_unused text) (whole c) unlawful)
    → next (at c between) text ≡ cond (is_unused text) (Ok (plain Changing c)) (Err Syntax)
    → (b : Bool) → is_unused text ≡ b → Follows c between text (judge c text [])
unused_step c text h judges goes true e =
    moved c between text _ (whole c) (judges [] ∙ ap (λ b. cond b (whole c) unlawful) e)
    (goes ∙ ap (λ b. cond b (Ok (plain Changing c)) (Err Syntax)) e ∙ ap (λ b. Ok (plain (open_place b) c)) (sym h))
unused_step c text h judges goes false e =
    moved c between text _ unlawful (judges [] ∙ ap (λ b. cond b (whole c) unlawful) e)
    (goes ∙ ap (λ b. cond b (Ok (plain Changing c)) (Err Syntax)) e)

word_step : (c : Context) (text : List ℕ) → c.declaring ≡ false → JudgedAs c text (λ rest. word_phrase c text rest)
    → next (at c between) text ≡ at_word (plain Changing c) text → (b : Bool) → is_word "$comment" text ≡ b
    → Follows c between text (judge c text [])
word_step c text h judges goes true e =
    let is : JudgedAs c text (skipped c) = λ rest. judges rest
    ∙ ap (λ b. cond b (skipped c rest) (cond (is_unused text) (whole c) unlawful)) e in
    moved c between text _ begins (is []) (record {
      to = remarks text [];
      tokens = refl;
      fits = (h, record { is = is }, refl);
      goes = goes ∙ ap (λ b. cond b (Ok (plain Remark c)) (cond (is_unused text) (Ok (plain Changing c)) (Err Syntax)))
          e;
    })
word_step c text h judges goes false e =
    unused_step c text h (λ rest. judges rest
    ∙ ap (λ b. cond b (skipped c rest) (cond (is_unused text) (whole c) unlawful)) e)
    (goes ∙ ap (λ b. cond b (Ok (plain Remark c)) (cond (is_unused text) (Ok (plain Changing c)) (Err Syntax))) e)
    (is_unused text) refl

other_step : (c : Context) (text : List ℕ) → c.declaring ≡ false → (test : Bool)
    → JudgedAs c text (λ rest. cond test (other c rest) (word_phrase c text rest))
    → next (at c between) text ≡ cond test (Ok (plain OtherCode c)) (at_word (plain Changing c) text)
    → (b : Bool) → test ≡ b → Follows c between text (judge c text [])
other_step c text h test judges goes true e =
    let is : JudgedAs c text (other c) = λ rest. judges rest
    ∙ ap (λ b. cond b (other c rest) (word_phrase c text rest)) e in
    moved c between text _ begins (is []) (record {
      to = others text;
      tokens = refl;
      fits = (h, record { is = is });
      goes = goes ∙ ap (λ b. cond b (Ok (plain OtherCode c)) (at_word (plain Changing c) text)) e;
    })
other_step c text h test judges goes false e =
    word_step c text h (λ rest. judges rest ∙ ap (λ b. cond b (other c rest) (word_phrase c text rest)) e)
    (goes ∙ ap (λ b. cond b (Ok (plain OtherCode c)) (at_word (plain Changing c) text)) e) (is_word "$comment" text)
    refl

digits_step : (c : Context) (text digits : List ℕ) → c.declaring ≡ false → JudgedAs c text (vector c digits)
    → next (at c between) text ≡ at_vector (plain Changing c) digits
    → (b : Bool) → (nat_eq (length digits) 0 || not (list_all is_value_digit digits)) ≡ b
    → Follows c between text (judge c text [])
digits_step c text digits h judges goes true e =
    moved c between text _ unlawful (judges [] ∙ ap (λ b. cond b unlawful begins) e)
    (goes ∙ ap (λ b. cond b (Err Syntax) (Ok (base VectorCode c [] digits))) e)
digits_step c text digits h judges goes false e =
    moved c between text _ begins (judges [] ∙ ap (λ b. cond b unlawful begins) e) (record {
      to = vectors text digits;
      tokens = refl;
      fits = (h, record { is = judges });
      goes = goes ∙ ap (λ b. cond b (Err Syntax) (Ok (base VectorCode c [] digits))) e;
    })

other_judgement : Context → (byte : ℕ) → (bytes : List ℕ) → List (List ℕ) → Judgement
other_judgement c byte bytes rest = cond (begins_other byte) (other c rest) (word_phrase c (byte ∷ bytes) rest)

other_go : Context → (byte : ℕ) → (bytes : List ℕ) → Step
other_go c byte bytes = cond (begins_other byte) (Ok (plain OtherCode c)) (at_word (plain Changing c) (byte ∷ bytes))

c3 : (c : Context) (byte : ℕ) (bytes : List ℕ) → c.declaring ≡ false
    → JudgedAs c (byte ∷ bytes) (λ rest. cond (begins_vector byte) (vector c bytes rest)
    (other_judgement c byte bytes rest))
    → next (at c between) (byte ∷ bytes) ≡ cond (begins_vector byte) (at_vector (plain Changing c) bytes)
    (other_go c byte bytes)
    → (b : Bool) → begins_vector byte ≡ b → Follows c between (byte ∷ bytes) (judge c (byte ∷ bytes) [])
unfolding other_judgement other_go
c3 c byte bytes h judges goes true e =
    digits_step c (byte ∷ bytes) bytes h (λ rest. judges rest
    ∙ ap (λ b. cond b (vector c bytes rest) (other_judgement c byte bytes rest)) e)
    (goes ∙ ap (λ b. cond b (at_vector (plain Changing c) bytes) (other_go c byte bytes)) e)
    (nat_eq (length bytes) 0 || not (list_all is_value_digit bytes)) refl
c3 c byte bytes h judges goes false e =
    other_step c (byte ∷ bytes) h (begins_other byte)
    (λ rest. judges rest ∙ ap (λ b. cond b (vector c bytes rest) (other_judgement c byte bytes rest)) e)
    (goes ∙ ap (λ b. cond b (at_vector (plain Changing c) bytes) (other_go c byte bytes)) e) (begins_other byte) refl

vector_judgement : Context → (byte : ℕ) → (bytes : List ℕ) → List (List ℕ) → Judgement
vector_judgement c byte bytes rest = cond (begins_vector byte) (vector c bytes rest) (other_judgement c byte bytes rest)

vector_go : Context → (byte : ℕ) → (bytes : List ℕ) → Step
vector_go c byte bytes = cond (begins_vector byte) (at_vector (plain Changing c) bytes) (other_go c byte bytes)

c2 : (c : Context) (byte : ℕ) (bytes : List ℕ) → c.declaring ≡ false
    → JudgedAs c (byte ∷ bytes) (λ rest. cond (nat_eq byte 35) (time_of c (number_up_to 18446744073709551615 bytes))
    (vector_judgement c byte bytes rest))
    → next (at c between) (byte ∷ bytes) ≡ cond (nat_eq byte 35) (at_time (plain Changing c) bytes)
    (vector_go c byte bytes)
    → (b : Bool) → nat_eq byte 35 ≡ b → Follows c between (byte ∷ bytes) (judge c (byte ∷ bytes) [])
unfolding vector_judgement vector_go
c2 c byte bytes h judges goes true e =
    moved c between (byte ∷ bytes) _ (time_of c (number_up_to 18446744073709551615 bytes))
    (judges [] ∙ ap (λ b. cond b (time_of c (number_up_to 18446744073709551615 bytes))
    (vector_judgement c byte bytes [])) e)
    (time_step c (byte ∷ bytes) (number_up_to 18446744073709551615 bytes) h
    (goes ∙ ap (λ b. cond b (at_time (plain Changing c) bytes) (vector_go c byte bytes)) e))
c2 c byte bytes h judges goes false e =
    c3 c byte bytes h (λ rest. judges rest
    ∙ ap (λ b. cond b (time_of c (number_up_to 18446744073709551615 bytes)) (vector_judgement c byte bytes rest)) e)
    (goes ∙ ap (λ b. cond b (at_time (plain Changing c) bytes) (vector_go c byte bytes)) e) (begins_vector byte) refl

c1 : (c : Context) (byte : ℕ) (bytes : List ℕ) → c.declaring ≡ false → (b : Bool) → is_value_digit byte ≡ b
    → Follows c between (byte ∷ bytes) (judge c (byte ∷ bytes) [])
unfolding vector_judgement vector_go other_judgement other_go
c1 c byte bytes h true e =
    moved c between (byte ∷ bytes) _ (scalar c byte (find_code c.codes bytes))
    (judged_changing c (byte ∷ bytes) [] h
    ∙ ap (λ b. cond b (scalar c byte (find_code c.codes bytes))
    (cond (nat_eq byte 35) (time_of c (number_up_to 18446744073709551615 bytes))
    (vector_judgement c byte bytes []))) e)
    (scalar_step c (byte ∷ bytes) byte (find_code c.codes bytes) h
    (next_changing c (byte ∷ bytes) h ∙ ap
    (λ b. cond b (at_scalar byte (plain Changing c) bytes)
    (cond (nat_eq byte 35) (at_time (plain Changing c) bytes) (vector_go c byte bytes))) e))
c1 c byte bytes h false e =
    c2 c byte bytes h
    (λ rest. judged_changing c (byte ∷ bytes) rest h
    ∙ ap (λ b. cond b (scalar c byte (find_code c.codes bytes))
    (cond (nat_eq byte 35) (time_of c (number_up_to 18446744073709551615 bytes))
    (vector_judgement c byte bytes rest))) e)
    (next_changing c (byte ∷ bytes) h ∙ ap
    (λ b. cond b (at_scalar byte (plain Changing c) bytes)
    (cond (nat_eq byte 35) (at_time (plain Changing c) bytes) (vector_go c byte bytes))) e)
    (nat_eq byte 35) refl

pub follows_command : (c : Context) (text : List ℕ) → c.declaring ≡ false → Follows c between text (judge c text [])
follows_command c [] h = moved c between [] _ unlawful (judged_changing c [] [] h) (next_changing c [] h)
follows_command c (byte ∷ bytes) h = c1 c byte bytes h (is_value_digit byte) refl
