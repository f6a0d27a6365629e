-- Each text has one list of tokens.
use Rattle.std.proofs.Common.{◌≡◌, ◌≢◌, ℕ, suc, ◌+◌, ◌-◌, List, [], ◌∷◌, ◌++◌, Bool, true, false, cond, length, refl}
use Rattle.std.proofs.Common.{sym, ◌∙◌, ap, subst, arith, append_assoc, append-nil, length-append}
use Rattle.vcd_reader.specs.Tokens.{is_blank, Token, AreBlanks, HasNoBlank, IsBehindToken, Begins, AreTokens}
use Rattle.vcd_reader.specs.Telling.{Outcome, IsOutcome, telling}
use Rattle.vcd_reader.specs.Context.{nothing_yet}

-- the token that a part makes, which ends before the offset
closing : ℕ → List ℕ → List Token
closing at [] = []
closing at (byte ∷ bytes) = record { text = byte ∷ bytes; at = at - length (byte ∷ bytes) } ∷ []

collect : ℕ → List ℕ → List ℕ → List Token
collect at part [] = closing at part
collect at part (byte ∷ bytes) = cond (is_blank byte) (closing at part ++ collect (at + 1) [] bytes)
    (collect (at + 1) (part ++ byte ∷ []) bytes)

collect_blanks : (at : ℕ) (gap rest : List ℕ) → AreBlanks gap
    → collect at [] (gap ++ rest) ≡ collect (at + length gap) [] rest
unfolding collect closing
collect_blanks at [] rest h = ap (λ n. collect n [] rest) (let e : at ≡ at + 0 = omega arith in e)
collect_blanks at (byte ∷ bytes) rest h =
    ap (λ b. cond b (collect (at + 1) [] (bytes ++ rest)) (collect (at + 1) (byte ∷ []) (bytes ++ rest))) h.0
    ∙ collect_blanks (at + 1) bytes rest h.1
    ∙ ap (λ n. collect n [] rest) (let e : at + 1 + length bytes ≡ at + length (byte ∷ bytes) = omega arith in e)

collect_ink : (at : ℕ) (part text rest : List ℕ) → HasNoBlank text
    → collect at part (text ++ rest) ≡ collect (at + length text) (part ++ text) rest
unfolding collect
collect_ink at part [] rest h = ap (λ n. collect n part rest) (let e : at ≡ at + 0 = omega arith in e)
    ∙ ap (λ p. collect (at + 0) p rest) (sym (append-nil part))
collect_ink at part (byte ∷ bytes) rest h =
    ap (λ b. cond b (closing at part ++ collect (at + 1) [] (bytes ++ rest))
    (collect (at + 1) (part ++ byte ∷ []) (bytes ++ rest))) h.0
    ∙ collect_ink (at + 1) (part ++ byte ∷ []) bytes rest h.1
    ∙ ap (λ n. collect n ((part ++ byte ∷ []) ++ bytes) rest)
    (let e : at + 1 + length bytes ≡ at + length (byte ∷ bytes) = omega arith in e)
    ∙ ap (λ p. collect (at + length (byte ∷ bytes)) p rest) (append_assoc part (byte ∷ []) bytes)

collect_behind : (at : ℕ) (part rest : List ℕ) → IsBehindToken rest
    → collect at part rest ≡ closing at part ++ collect at [] rest
unfolding collect closing
collect_behind at part [] h = sym (append-nil (closing at part))
collect_behind at part (byte ∷ bytes) h =
    ap (λ b. cond b (closing at part ++ collect (at + 1) [] bytes) (collect (at + 1) (part ++ byte ∷ []) bytes)) h
    ∙ sym (ap (λ b. closing at part ++ cond b (collect (at + 1) [] bytes) (collect (at + 1) (byte ∷ []) bytes)) h)

closing_text : (at : ℕ) (text : List ℕ) (from : ℕ) → text ≢ [] → from ≡ at
    → closing (at + length text) text ≡ record { text = text; at = from } ∷ []
unfolding closing
closing_text at [] from some place = absurd (some refl)
closing_text at (byte ∷ bytes) from some place =
    ap (λ n. record { text = byte ∷ bytes; at = n } ∷ [])
    (let e : at + length (byte ∷ bytes) - length (byte ∷ bytes) ≡ from = omega arith in e)

closing_token : (at : ℕ) (token : Token) → token.text ≢ [] → token.at ≡ at
    → closing (at + length token.text) token.text ≡ token ∷ []
closing_token at token some place = by token.text token.at some place
  where
    by : (text : List ℕ) (from : ℕ) → text ≢ [] → from ≡ at → closing (at + length text) text
        ≡ record { text = text; at = from } ∷ []
    by text from s p = closing_text at text from s p

none_collected : (at : ℕ) → collect at [] [] ≡ []
unfolding collect closing
none_collected at = refl

-- the tokens of a text are those that are collected
collected : (from : ℕ) (bytes : List ℕ) (tokens : List Token) → AreTokens from bytes tokens
    → collect from [] bytes ≡ tokens
collected from bytes [] h = ap (collect from []) (sym (append-nil bytes)) ∙ collect_blanks from bytes [] h
    ∙ none (from + length bytes)
  where
    none : (at : ℕ) → collect at [] [] ≡ []
    none at = none_collected at
collected from bytes (token ∷ tokens) h =
    let at : ℕ = from + length h.0 in
    ap (collect from []) h.2.whole
    ∙ collect_blanks from h.0 (token.text ++ h.1) h.2.blanks
    ∙ collect_ink at [] token.text h.1 h.2.ink
    ∙ collect_behind (at + length token.text) token.text h.1 h.2.behind
    ∙ ap (λ ts. ts ++ collect (at + length token.text) [] h.1) (closing_token at token h.2.some h.2.place)
    ∙ ap (λ ts. token ∷ ts) (collected (at + length token.text) h.1 tokens h.3)

pub one_list : (bytes : List ℕ) (xs ys : List Token) → AreTokens 0 bytes xs → AreTokens 0 bytes ys → xs ≡ ys
one_list bytes xs ys h g = sym (collected 0 bytes xs h) ∙ collected 0 bytes ys g

-- a blank more before the tokens
behind_blank : (from : ℕ) (byte : ℕ) (bytes : List ℕ) (tokens : List Token) → is_blank byte ≡ true
    → AreTokens (from + 1) bytes tokens → AreTokens from (byte ∷ bytes) tokens
behind_blank from byte bytes [] blank h = (blank, h)
behind_blank from byte bytes (token ∷ tokens) blank h =
    let sum : from + 1 + length h.0 ≡ from + length (byte ∷ h.0) = omega arith in
    let P : ℕ → Type 0 = λ n. AreTokens (n + length token.text) h.1 tokens in (
      byte ∷ h.0,
      h.1,
      record {
        whole = ap (λ t. byte ∷ t) h.2.whole;
        blanks = (blank, h.2.blanks);
        some = h.2.some;
        ink = h.2.ink;
        behind = h.2.behind;
        place = h.2.place ∙ sum;
      },
      subst P sum h.3,
    )

ink_more : (part : List ℕ) (byte : ℕ) → HasNoBlank part → is_blank byte ≡ false → HasNoBlank (part ++ byte ∷ [])
ink_more [] byte h ink = (ink, tt)
ink_more (first ∷ rest) byte h ink = (h.0, ink_more rest byte h.1 ink)

-- the tokens of a part without blanks and of the bytes behind it
first_token : (from : ℕ) (part bytes : List ℕ) (tokens : List Token) → HasNoBlank part → IsBehindToken bytes
    → AreTokens (from + length part) bytes tokens
    → AreTokens from (part ++ bytes) (closing (from + length part) part ++ tokens)
unfolding closing
first_token from [] bytes tokens h behind rest =
    subst (λ n. AreTokens n bytes tokens) (let e : from + 0 ≡ from = omega arith in e) rest
first_token from (byte ∷ part) bytes tokens h behind rest =
    let e : from + length (byte ∷ part) ≡ from + 0 + length (byte ∷ part) = omega arith in
    let P : ℕ → Type 0 = λ n. AreTokens n bytes tokens in (
      [],
      bytes,
      record {
        whole = refl;
        blanks = tt;
        some = λ no. cc;
        ink = h;
        behind = behind;
        place = omega arith;
      },
      subst P e rest,
    )

next_byte : (from : ℕ) (part : List ℕ) (byte : ℕ) (bytes : List ℕ) → HasNoBlank part → (b : Bool) → is_blank byte ≡ b
    → ((n : ℕ) → AreTokens n bytes (collect (n + 0) [] bytes))
    → (is_blank byte ≡ false → AreTokens from ((part ++ byte ∷ []) ++ bytes)
    (collect (from + length (part ++ byte ∷ [])) (part ++ byte ∷ []) bytes))
    → AreTokens from (part ++ byte ∷ bytes)
    (cond b (closing (from + length part) part ++ collect (from + length part + 1) [] bytes)
    (collect (from + length part + 1) (part ++ byte ∷ []) bytes))
next_byte from part byte bytes h true e rest more =
    let at : ℕ = from + length part in
    let sum : at + 1 + 0 ≡ at + 1 = omega arith in
    let P : ℕ → Type 0 = λ n. AreTokens (at + 1) bytes (collect n [] bytes) in
    first_token from part (byte ∷ bytes) (collect (at + 1) [] bytes) h e
    (behind_blank at byte bytes (collect (at + 1) [] bytes) e (subst P sum (rest (at + 1))))
next_byte from part byte bytes h false e rest more =
    let sum : from + length (part ++ byte ∷ []) ≡ from + length part + 1 =
    omega (arith, length-append part (byte ∷ [])) in
    let P : ℕ → Type 0 = λ n. AreTokens from (part ++ byte ∷ bytes) (collect n (part ++ byte ∷ []) bytes) in
    let Q : List ℕ → Type 0 = λ t. AreTokens from t
    (collect (from + length (part ++ byte ∷ [])) (part ++ byte ∷ []) bytes) in
    subst P sum (subst Q (append_assoc part (byte ∷ []) bytes) (more e))

gathered : (from : ℕ) (part bytes : List ℕ) → HasNoBlank part
    → AreTokens from (part ++ bytes) (collect (from + length part) part bytes)
unfolding collect
gathered from part [] h = subst (λ ts. AreTokens from (part ++ []) ts) (append-nil (closing (from + length part) part))
    (first_token from part [] [] h tt tt)
gathered from part (byte ∷ bytes) h = next_byte from part byte bytes h (is_blank byte) refl
    (λ n. gathered n [] bytes tt) (λ ink. gathered from (part ++ byte ∷ []) bytes (ink_more part byte h ink))

pub some_list : (bytes : List ℕ) → (tokens : List Token) × AreTokens 0 bytes tokens
some_list bytes = (collect (0 + 0) [] bytes, gathered 0 [] bytes tt)

pub some_outcome : (bytes : List ℕ) → (outcome : Outcome) × IsOutcome bytes outcome
some_outcome bytes =
    let found = some_list bytes in (
      telling (length bytes) nothing_yet [] found.0,
      λ tokens are.
          ap (telling (length bytes) nothing_yet []) (one_list bytes found.0 tokens found.1 are),
    )

pub one_outcome : (bytes : List ℕ) (x y : Outcome) → IsOutcome bytes x → IsOutcome bytes y → x ≡ y
one_outcome bytes x y h g = let found = some_list bytes in h found.0 found.1 ∙ sym (g found.0 found.1)
