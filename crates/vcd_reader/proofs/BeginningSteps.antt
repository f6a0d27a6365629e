-- Steps of the reader at the first token of a phrase.
use Rattle.std.proofs.Common.{◌≡◌, ℕ, ◌-◌, ◌<◌, List, [], ◌∷◌, ◌++◌, Bool, true, false, cond, Option, Some, None}
use Rattle.std.proofs.Common.{length, take, get_or, refl, sym, ◌∙◌, ap, subst, Ok, Err, append_assoc, append-nil}
use Rattle.std.proofs.Common.{length-append, arith}
use Rattle.std.proofs.Math.Seq.{take-append_seam, get_or-append_seam}
use Rattle.std.proofs.lemmas.Bool.Decides.{nat_tests}
use Rattle.std.specs.Prelude.{nat_eq, nat_lt, ◌||◌, slice_index}
use Rattle.vcd_reader.specs.declared.reading.Fault.TheVariants.{Syntax, TimeGoesBack}
use Rattle.vcd_reader.specs.declared.reading.Place.TheVariants.{Declaring, DeclarationEnd, Changing}
use Rattle.vcd_reader.specs.Codes.{find_code}
use Rattle.vcd_reader.specs.Numbers.{number_up_to}
use Rattle.vcd_reader.specs.Context.{Context, path, with_change}
use Rattle.vcd_reader.specs.Names.{within}
use Rattle.vcd_reader.specs.Phrases.{Judgement, whole, begins, breaks, unlawful, is_end, has_end, skipped, scope}
use Rattle.vcd_reader.specs.Phrases.{upscope, upscope_of, variable, definitions, declaration, command, scalar}
use Rattle.vcd_reader.specs.Phrases.{time_of, vector, other, word_phrase, judge}
use Rattle.vcd_reader.specs.Telling.{judged}
use Rattle.vcd_reader.specs.Words.{is_word, begins_skipped, is_unused, is_value_digit, begins_vector, begins_other}
use Rattle.vcd_reader.specs.inner.State.{State}
use Rattle.vcd_reader.specs.inner.Rules.{Step, next, at_upscope, at_declaration, at_change, with_scalar, with_time}
use Rattle.vcd_reader.proofs.Stands.{Stand, between, skips, remarks, scope0, up, var0, ends, others, vectors, since}
use Rattle.vcd_reader.proofs.Stands.{at, Is, Fits, Goes, Follows, plain, base, open_place, outer_of}
use Rattle.vcd_reader.proofs.Following.{moved}

-- what the steps and the judgements of declarations are, where `declaring` is known
judged_declaring : (c : Context) (word : List ℕ) (rest : List (List ℕ)) → c.declaring ≡ true
    → judge c word rest ≡ declaration c word rest
judged_declaring c word rest h = ap (λ b. cond b (declaration c word rest) (command c word rest)) h

pub judged_changing : (c : Context) (word : List ℕ) (rest : List (List ℕ)) → c.declaring ≡ false
    → judge c word rest ≡ command c word rest
judged_changing c word rest h = ap (λ b. cond b (declaration c word rest) (command c word rest)) h

next_declaring : (c : Context) (text : List ℕ) → c.declaring ≡ true
    → next (at c between) text ≡ at_declaration (plain Declaring c) text
next_declaring c text h = ap (λ b. next (plain (open_place b) c) text) h

pub next_changing : (c : Context) (text : List ℕ) → c.declaring ≡ false
    → next (at c between) text ≡ at_change (plain Changing c) text
next_changing c text h = ap (λ b. next (plain (open_place b) c) text) h

one_back : (xs : List ℕ) (y : ℕ) → length (xs ++ y ∷ []) - 1 ≡ length xs
one_back xs y = omega (arith, length-append xs (y ∷ []))

no_length : (xs : List ℕ) (y : ℕ) → nat_eq (length (xs ++ y ∷ [])) 0 ≡ false
no_length xs y = grind (arith, nat_tests, length-append xs (y ∷ []))

last_item : (xs : List ℕ) (y : ℕ) → slice_index (xs ++ y ∷ []) (length (xs ++ y ∷ []) - 1) ≡ y
last_item xs y = ap (λ n. get_or (xs ++ y ∷ []) n 0) (one_back xs y) ∙ get_or-append_seam xs y [] 0

but_last : (xs : List ℕ) (y : ℕ) → take (length (xs ++ y ∷ []) - 1) (xs ++ y ∷ []) ≡ xs
but_last xs y = ap (λ (n : ℕ). take n (xs ++ y ∷ [])) (one_back xs y) ∙ take-append_seam xs (y ∷ [])

round : (outer name : List ℕ) → take (length outer) (within outer name) ≡ outer
round [] name = refl
round (byte ∷ bytes) name = take-append_seam (byte ∷ bytes) (46 ∷ name)

popped : Context → List ℕ → List ℕ → State
popped c p o = record {
  place = DeclarationEnd;
  path = p;
  outer = o;
  codes = c.codes;
  vars = c.vars;
  joined = [];
  time = c.time;
  digits = [];
  changes = c.changes;
}

pop_scope : (c : Context) (name : List ℕ) (outer : List (List ℕ))
    → at_upscope (plain Declaring (record c { scopes = name ∷ outer }))
    ≡ Ok (plain DeclarationEnd (record c { scopes = outer }))
unfolding popped
pop_scope c name outer =
    let lengths : List ℕ = outer_of outer ++ length (path outer) ∷ [] in
    ap (λ b. cond b (Err Syntax) (Ok (popped c
    (take (slice_index lengths (length lengths - 1)) (within (path outer) name))
    (take (length lengths - 1) lengths)))) (no_length (outer_of outer) (length (path outer)))
    ∙ ap (λ (n : ℕ). Ok (popped c (take n (within (path outer) name)) (take (length lengths - 1) lengths)))
    (last_item (outer_of outer) (length (path outer)))
    ∙ ap (λ p. Ok (popped c p (take (length lengths - 1) lengths))) (round (path outer) name)
    ∙ ap (λ o. Ok (popped c (path outer) o)) (but_last (outer_of outer) (length (path outer)))

upscope_step : (c : Context) (text : List ℕ) (scopes : List (List ℕ)) → c.scopes ≡ scopes → c.declaring ≡ true
    → Is c text (upscope c)
    → next (at c between) text ≡ at_upscope (plain Declaring c) → Follows c between text (upscope_of scopes c [])
upscope_step c text [] e h is says = says ∙ ap (λ ss. at_upscope (plain Declaring (record c { scopes = ss }))) e
upscope_step c text (name ∷ outer) e h is says = record {
  to = up text name outer;
  tokens = refl;
  fits = (h, is, e);
  goes = says ∙ ap (λ ss. at_upscope (plain Declaring (record c { scopes = ss }))) e ∙ pop_scope c name outer;
}

-- the words of declarations, one after the other
d5 : (c : Context) (text : List ℕ) → c.declaring ≡ true
    → ((rest : List (List ℕ)) → declaration c text rest
    ≡ cond (is_word "$enddefinitions" text) (definitions c rest) unlawful)
    → at_declaration (plain Declaring c) text
    ≡ cond (is_word "$enddefinitions" text) (Ok (at c (ends text))) (Err Syntax)
    → (b : Bool) → is_word "$enddefinitions" text ≡ b → Follows c between text (judge c text [])
d5 c text h judges goes true e =
    let is : (rest : List (List ℕ)) → judge c text rest ≡ definitions c rest = λ rest. judged_declaring c text rest h
    ∙ judges rest ∙ ap (λ b. cond b (definitions c rest) unlawful) e in
    moved c between text _ begins (is []) (record {
      to = ends text;
      tokens = refl;
      fits = (h, record { is = is });
      goes = next_declaring c text h ∙ goes ∙ ap (λ b. cond b (Ok (at c (ends text))) (Err Syntax)) e;
    })
d5 c text h judges goes false e =
    moved c between text _ unlawful (judged_declaring c text [] h ∙ judges []
    ∙ ap (λ b. cond b (definitions c []) unlawful) e)
    (next_declaring c text h ∙ goes ∙ ap (λ b. cond b (Ok (at c (ends text))) (Err Syntax)) e)

d4 : (c : Context) (text : List ℕ) → c.declaring ≡ true → (tail : List (List ℕ) → Judgement) → (goes_tail : Step)
    → ((rest : List (List ℕ)) → tail rest ≡ cond (is_word "$enddefinitions" text) (definitions c rest) unlawful)
    → goes_tail ≡ cond (is_word "$enddefinitions" text) (Ok (at c (ends text))) (Err Syntax)
    → ((rest : List (List ℕ)) → declaration c text rest ≡ cond (begins_skipped text) (skipped c rest) (tail rest))
    → at_declaration (plain Declaring c) text ≡ cond (begins_skipped text) (Ok (at c (skips text []))) goes_tail
    → (b : Bool) → begins_skipped text ≡ b → Follows c between text (judge c text [])
d4 c text h tail goes_tail tails goes_tails judges goes true e =
    let is : (rest : List (List ℕ)) → judge c text rest ≡ skipped c rest = λ rest. judged_declaring c text rest h
    ∙ judges rest ∙ ap (λ b. cond b (skipped c rest) (tail rest)) e in
    moved c between text _ begins (is []) (record {
      to = skips text [];
      tokens = refl;
      fits = (h, record { is = is }, refl);
      goes = next_declaring c text h ∙ goes ∙ ap (λ b. cond b (Ok (at c (skips text []))) goes_tail) e;
    })
d4 c text h tail goes_tail tails goes_tails judges goes false e =
    d5 c text h (λ rest. judges rest ∙ ap (λ b. cond b (skipped c rest) (tail rest)) e ∙ tails rest)
    (goes ∙ ap (λ b. cond b (Ok (at c (skips text []))) goes_tail) e ∙ goes_tails) (is_word "$enddefinitions" text) refl

-- what is left of the words behind the first ones
left_judgement : Context → List ℕ → List (List ℕ) → Judgement
left_judgement c text rest = cond (begins_skipped text) (skipped c rest)
    (cond (is_word "$enddefinitions" text) (definitions c rest) unlawful)

left_step : Context → List ℕ → Step
left_step c text = cond (begins_skipped text) (Ok (at c (skips text [])))
    (cond (is_word "$enddefinitions" text) (Ok (at c (ends text))) (Err Syntax))

d3 : (c : Context) (text : List ℕ) → c.declaring ≡ true
    → ((rest : List (List ℕ)) → declaration c text rest
    ≡ cond (is_word "$upscope" text) (upscope c rest) (left_judgement c text rest))
    → at_declaration (plain Declaring c) text
    ≡ cond (is_word "$upscope" text) (at_upscope (plain Declaring c)) (left_step c text)
    → (b : Bool) → is_word "$upscope" text ≡ b → Follows c between text (judge c text [])
unfolding left_judgement left_step
d3 c text h judges goes true e =
    let is : (rest : List (List ℕ)) → judge c text rest ≡ upscope c rest = λ rest. judged_declaring c text rest h
    ∙ judges rest ∙ ap (λ b. cond b (upscope c rest) (left_judgement c text rest)) e in
    moved c between text _ (upscope_of c.scopes c []) (is [])
    (upscope_step c text c.scopes refl h (record { is = is })
    (next_declaring c text h ∙ goes ∙ ap (λ b. cond b (at_upscope (plain Declaring c)) (left_step c text)) e))
d3 c text h judges goes false e =
    d4 c text h (λ rest. cond (is_word "$enddefinitions" text) (definitions c rest) unlawful)
    (cond (is_word "$enddefinitions" text) (Ok (at c (ends text))) (Err Syntax)) (λ rest. refl) refl
    (λ rest. judges rest ∙ ap (λ b. cond b (upscope c rest) (left_judgement c text rest)) e)
    (goes ∙ ap (λ b. cond b (at_upscope (plain Declaring c)) (left_step c text)) e) (begins_skipped text) refl

scope_judgement : Context → List ℕ → List (List ℕ) → Judgement
scope_judgement c text rest = cond (is_word "$upscope" text) (upscope c rest) (left_judgement c text rest)

scope_step : Context → List ℕ → Step
scope_step c text = cond (is_word "$upscope" text) (at_upscope (plain Declaring c)) (left_step c text)

d2 : (c : Context) (text : List ℕ) → c.declaring ≡ true
    → ((rest : List (List ℕ)) → declaration c text rest
    ≡ cond (is_word "$scope" text) (scope c rest) (scope_judgement c text rest))
    → at_declaration (plain Declaring c) text
    ≡ cond (is_word "$scope" text) (Ok (at c (scope0 text))) (scope_step c text)
    → (b : Bool) → is_word "$scope" text ≡ b → Follows c between text (judge c text [])
unfolding scope_judgement scope_step
d2 c text h judges goes true e =
    let is : (rest : List (List ℕ)) → judge c text rest ≡ scope c rest = λ rest. judged_declaring c text rest h
    ∙ judges rest ∙ ap (λ b. cond b (scope c rest) (scope_judgement c text rest)) e in
    moved c between text _ begins (is []) (record {
      to = scope0 text;
      tokens = refl;
      fits = (h, record { is = is });
      goes = next_declaring c text h ∙ goes ∙ ap (λ b. cond b (Ok (at c (scope0 text))) (scope_step c text)) e;
    })
d2 c text h judges goes false e =
    d3 c text h (λ rest. judges rest ∙ ap (λ b. cond b (scope c rest) (scope_judgement c text rest)) e)
    (goes ∙ ap (λ b. cond b (Ok (at c (scope0 text))) (scope_step c text)) e) (is_word "$upscope" text) refl

d1 : (c : Context) (text : List ℕ) → c.declaring ≡ true → (b : Bool) → is_word "$var" text ≡ b
    → Follows c between text (judge c text [])
unfolding scope_judgement scope_step left_judgement left_step
d1 c text h true e =
    let is : (rest : List (List ℕ)) → judge c text rest ≡ variable c rest = λ rest. judged_declaring c text rest h
    ∙ ap (λ b. cond b (variable c rest) (cond (is_word "$scope" text) (scope c rest) (scope_judgement c text rest)))
    e in
    moved c between text _ begins (is []) (record {
      to = var0 text;
      tokens = refl;
      fits = (h, record { is = is });
      goes = next_declaring c text h ∙ ap
          (λ b. cond b (Ok (at c (var0 text)))
          (cond (is_word "$scope" text) (Ok (at c (scope0 text))) (scope_step c text))) e;
    })
d1 c text h false e =
    d2 c text h (λ rest. ap (λ b. cond b (variable c rest)
    (cond (is_word "$scope" text) (scope c rest) (scope_judgement c text rest))) e)
    (ap (λ b. cond b (Ok (at c (var0 text)))
    (cond (is_word "$scope" text) (Ok (at c (scope0 text))) (scope_step c text))) e) (is_word "$scope" text) refl

-- a step whose judgement doesn't look at further tokens
pub scalar_step : (c : Context) (text : List ℕ) (byte : ℕ) (found : Option (ℕ × ℕ)) → c.declaring ≡ false
    → next (at c between) text ≡ with_scalar byte (plain Changing c) found
    → Follows c between text (scalar c byte found)
scalar_step c text byte None h says = says
scalar_step c text byte (Some known) h says = says
    ∙ ap (λ b. Ok (plain (open_place b) (with_change c known.0 (byte ∷ [])))) (sym h)

pub time_step : (c : Context) (text : List ℕ) (found : Option ℕ) → c.declaring ≡ false
    → next (at c between) text ≡ with_time (plain Changing c) found → Follows c between text (time_of c found)
time_step c text None h says = says
time_step c text (Some time) h says = by (nat_lt time c.time) refl
  where
    by : (b : Bool) → nat_lt time c.time ≡ b
        → Follows c between text (cond b (breaks TimeGoesBack) (whole (record c { time = time })))
    by true e = says ∙ ap (λ b. cond b (Err TimeGoesBack) (Ok (plain Changing (record c { time = time })))) e
    by false e = says ∙ ap (λ b. cond b (Err TimeGoesBack) (Ok (plain Changing (record c { time = time })))) e
        ∙ ap (λ b. Ok (plain (open_place b) (record c { time = time }))) (sym h)

pub follows_declaration : (c : Context) (text : List ℕ) → c.declaring ≡ true → Follows c between text (judge c text [])
follows_declaration c text h = d1 c text h (is_word "$var" text) refl
