-- Each step of the reader follows the judgement of the tokens since the last whole phrase.
use Rattle.std.proofs.Common.{◌≡◌, ℕ, ◌-◌, List, [], ◌∷◌, ◌++◌, Bool, true, false, cond, Option, Some, None, length}
use Rattle.std.proofs.Common.{take, refl, sym, ◌∙◌, ap, subst, Result, Ok, Err, append_assoc, append-nil}
use Rattle.std.proofs.Common.{length-append, arith}
use Rattle.std.specs.Prelude.{nat_eq, nat_lt, ◌||◌, not, slice_index}
use Rattle.vcd_reader.specs.declared.reading.Fault.TheVariants.{Syntax, TimeGoesBack}
use Rattle.vcd_reader.specs.declared.reading.Place.TheVariants.{Declaring, Skipping, ScopeType, ScopeName}
use Rattle.vcd_reader.specs.declared.reading.Place.TheVariants.{DeclarationEnd, VarType, VarSize, VarCode, VarName}
use Rattle.vcd_reader.specs.declared.reading.Place.TheVariants.{VarRest, DefinitionsEnd, Changing, Remark, OtherCode}
use Rattle.vcd_reader.specs.declared.reading.Place.TheVariants.{VectorCode}
use Rattle.vcd_reader.specs.Codes.{find_code}
use Rattle.vcd_reader.specs.Context.{Context, path, joined, codes_with, number_with, with_variable, with_change}
use Rattle.vcd_reader.specs.Names.{within, without_range}
use Rattle.vcd_reader.specs.Phrases.{Judgement, whole, begins, breaks, unlawful, is_end, has_end, before_end, skipped}
use Rattle.vcd_reader.specs.Phrases.{scope, upscope, upscope_of, variable, variable_of, variable_size, agrees}
use Rattle.vcd_reader.specs.Phrases.{definitions, vector, vector_of, other, judge}
use Rattle.vcd_reader.specs.Telling.{judged}
use Rattle.vcd_reader.specs.inner.State.{State}
use Rattle.vcd_reader.specs.inner.Rules.{next, Step, go, up_to_end, at_end, at_scope_name}
use Rattle.vcd_reader.proofs.Stands.{Stand, between, skips, remarks, scope0, scope1, scope2, up, var0, var1, var2}
use Rattle.vcd_reader.proofs.Stands.{var3, var4, ends, others, vectors, since, at, Is, Fits, Goes, Follows, plain}
use Rattle.vcd_reader.proofs.Stands.{base, open_place}

-- at a judgement that equals another
pub moved : (c : Context) (p : Stand) (text : List ℕ) (x y : Judgement) → x ≡ y → Follows c p text y
    → Follows c p text x
moved c p text x y e h = subst (λ j. Follows c p text j) (sym e) h

pub has_end_more : (rest : List (List ℕ)) (text : List ℕ) → has_end rest ≡ false
    → has_end (rest ++ text ∷ []) ≡ is_end text
has_end_more [] text h = or_false (is_end text)
  where
    or_false : (b : Bool) → (b || false) ≡ b
    or_false true = refl
    or_false false = refl
has_end_more (first ∷ rest) text h = by (is_end first) (has_end rest) (has_end (rest ++ text ∷ [])) h
    (has_end_more rest text)
  where
    by : (b r m : Bool) → (b || r) ≡ false → (r ≡ false → m ≡ is_end text) → (b || m) ≡ is_end text
    by true r m h g = cc
    by false r m h g = g h

-- a skipped part, with one more token
skip_step : (c : Context) (p : Stand) (text : List ℕ) (b : Bool) → is_end text ≡ b
    → (behind : Step) → next (at c p) text ≡ cond (is_end text) behind (Ok (at c p))
    → behind ≡ Ok (at c between) → (q : Stand) → since q ≡ since p ++ text ∷ [] → (b ≡ false → Fits c q) → at c p
    ≡ at c q
    → Follows c p text (cond b (whole c) begins)
skip_step c p text true e behind says done q tokens fits same = says ∙ ap (λ b. cond b behind (Ok (at c p))) e ∙ done
skip_step c p text false e behind says done q tokens fits same = record {
  to = q;
  tokens = tokens;
  fits = fits refl;
  goes = says ∙ ap (λ b. cond b behind (Ok (at c p))) e ∙ ap Ok same;
}

pub follows_skips : (c : Context) (word : List ℕ) (rest : List (List ℕ)) (text : List ℕ) → Fits c (skips word rest)
    → Follows c (skips word rest) text (judged c ((word ∷ rest) ++ text ∷ []))
follows_skips c word rest text h =
    moved c (skips word rest) text _ (cond (is_end text) (whole c) begins)
    (h.1.is (rest ++ text ∷ []) ∙ ap (λ b. cond b (whole c) begins) (has_end_more rest text h.2))
    (skip_step c (skips word rest) text (is_end text) refl (Ok (plain Declaring c)) refl
    (ap (λ b. Ok (plain (open_place b) c)) (sym h.0))
    (skips word (rest ++ text ∷ [])) refl (λ no. (h.0, h.1, has_end_more rest text h.2 ∙ no)) refl)

pub follows_remarks : (c : Context) (word : List ℕ) (rest : List (List ℕ)) (text : List ℕ) → Fits c (remarks word rest)
    → Follows c (remarks word rest) text (judged c ((word ∷ rest) ++ text ∷ []))
follows_remarks c word rest text h =
    moved c (remarks word rest) text _ (cond (is_end text) (whole c) begins)
    (h.1.is (rest ++ text ∷ []) ∙ ap (λ b. cond b (whole c) begins) (has_end_more rest text h.2))
    (skip_step c (remarks word rest) text (is_end text) refl (Ok (plain Changing c)) refl
    (ap (λ b. Ok (plain (open_place b) c)) (sym h.0))
    (remarks word (rest ++ text ∷ [])) refl (λ no. (h.0, h.1, has_end_more rest text h.2 ∙ no)) refl)

pub follows_scope0 : (c : Context) (word text : List ℕ) → Fits c (scope0 word)
    → Follows c (scope0 word) text (judged c (word ∷ text ∷ []))
follows_scope0 c word text h = moved c (scope0 word) text _ begins (h.1.is (text ∷ []))
    (record { to = scope1 word text; tokens = refl; fits = h; goes = refl })

pub follows_scope1 : (c : Context) (word kind text : List ℕ) → Fits c (scope1 word kind)
    → Follows c (scope1 word kind) text (judged c (word ∷ kind ∷ text ∷ []))
follows_scope1 c word kind text h = moved c (scope1 word kind) text _ (cond (is_end text) unlawful begins)
    (h.1.is (kind ∷ text ∷ [])) (by (is_end text) refl)
  where
    by : (b : Bool) → is_end text ≡ b → Follows c (scope1 word kind) text (cond b unlawful begins)
    by true e = ap (λ b. cond b (Err Syntax) (Ok (at c (scope2 word kind text)))) e
    by false e = record {
      to = scope2 word kind text;
      tokens = refl;
      fits = h;
      goes =
          ap (λ b. cond b (Err Syntax) (Ok (at c (scope2 word kind text)))) e;
    }

-- `$end` behind the last part of a declaration
pub ended_by : (c : Context) (p : Stand) (after : Context) (text : List ℕ) → after.declaring ≡ true
    → next (at c p) text ≡ cond (is_end text) (Ok (plain Declaring after)) (Err Syntax)
    → (b : Bool) → is_end text ≡ b → Follows c p text (cond b (whole after) unlawful)
ended_by c p after text still says true e = says ∙ ap (λ b. cond b (Ok (plain Declaring after)) (Err Syntax)) e
    ∙ ap (λ b. Ok (plain (open_place b) after)) (sym still)
ended_by c p after text still says false e = says ∙ ap (λ b. cond b (Ok (plain Declaring after)) (Err Syntax)) e

pub follows_scope2 : (c : Context) (word kind name text : List ℕ) → Fits c (scope2 word kind name)
    → Follows c (scope2 word kind name) text (judged c (word ∷ kind ∷ name ∷ text ∷ []))
follows_scope2 c word kind name text h =
    let inner : Context = record c { scopes = name ∷ c.scopes } in
    moved c (scope2 word kind name) text _ (cond (is_end text) (whole inner) unlawful)
    (h.1.is (kind ∷ name ∷ text ∷ [])) (ended_by c (scope2 word kind name) inner text h.0 refl (is_end text) refl)

pub follows_up : (c : Context) (word name : List ℕ) (outer : List (List ℕ)) (text : List ℕ)
    → Fits c (up word name outer)
    → Follows c (up word name outer) text (judged c (word ∷ text ∷ []))
follows_up c word name outer text h =
    let after : Context = record c { scopes = outer } in
    moved c (up word name outer) text _ (cond (is_end text) (whole after) unlawful)
    (h.1.is (text ∷ []) ∙ ap (λ scopes. upscope_of scopes c (text ∷ [])) h.2)
    (ended_by c (up word name outer) after text h.0 refl (is_end text) refl)

pub follows_ends : (c : Context) (word text : List ℕ) → Fits c (ends word)
    → Follows c (ends word) text (judged c (word ∷ text ∷ []))
follows_ends c word text h = moved c (ends word) text _
    (cond (is_end text) (whole (record c { declaring = false })) unlawful) (h.1.is (text ∷ [])) (by (is_end text) refl)
  where
    by : (b : Bool) → is_end text ≡ b → Follows c (ends word) text
        (cond b (whole (record c { declaring = false })) unlawful)
    by true e = ap (λ b. cond b (Ok (plain Changing c)) (Err Syntax)) e
    by false e = ap (λ b. cond b (Ok (plain Changing c)) (Err Syntax)) e

pub follows_others : (c : Context) (word text : List ℕ) → Fits c (others word)
    → Follows c (others word) text (judged c (word ∷ text ∷ []))
follows_others c word text h = moved c (others word) text _ (whole c) (h.1.is (text ∷ []))
    (ap (λ b. Ok (plain (open_place b) c)) (sym h.0))

pub follows_var0 : (c : Context) (word text : List ℕ) → Fits c (var0 word)
    → Follows c (var0 word) text (judged c (word ∷ text ∷ []))
follows_var0 c word text h = moved c (var0 word) text _ begins (h.1.is (text ∷ []))
    (record { to = var1 word text; tokens = refl; fits = h; goes = refl })
