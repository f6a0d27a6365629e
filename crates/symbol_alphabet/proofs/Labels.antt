-- Labels and letters, read through symbols.
use Rattle.std.proofs.Common.{◌≡◌, ◌≢◌, ◌↔◌, ℕ, suc, ◌<◌, Bool, true, false, List, [], ◌∷◌, ◌++◌}
use Rattle.std.proofs.Common.{length, slice_get, Some, All, Contains, inl, inr, refl, sym, ap, subst}
use Rattle.std.proofs.Common.{◌∙◌, true≢false, if◌then◌else◌, arith, zero, option_map, append-nil}
use Rattle.std.specs.Bool.{Decides}
use Rattle.std.specs.List.{list_any, AllByRecursion}
use Rattle.std.proofs.lemmas.Bool.{cases_Bool}
use Rattle.std.proofs.lemmas.List.Elements.{Contains-append_left, Contains-push, All-nil, All-cons, recursion_from_All}
use Rattle.std.proofs.lemmas.Option.{get_or_from_slice_get, slice_get-map}
use Rattle.auto_core.specs.declared.labels.Literal.{Literal}
use Rattle.auto_core.specs.Machine.{Passes, value_in}
use Rattle.psl_meaning.specs.Sequence.{Holds}
use Rattle.psl_meaning.specs.Word.{Valuation, Letter, valuation, top, bottom}
use Rattle.psl_model.specs.Expr.{Expr}
use Rattle.psl_model.specs.inner.ExprCode.{expr_code, expr_inj}
use Rattle.psl_model.specs.inner.SameCode.{same_code-decides}
use Rattle.symbol_alphabet.specs.Symbols.{stripped, is_positive, needs_none, same, place_in, label_in, HasSymbol}
use Rattle.symbol_alphabet.specs.Symbols.{numbered, with_symbol, AreDifferent, truth, truths, seen_by}
use Rattle.symbol_alphabet.proofs.Found.{any_there, there_any, absent_any, at_place, place_stays, different_push}
use Rattle.symbol_alphabet.proofs.Truth.{as_signed, none_true, not_zero, is_true}

pub same_decides : (a b : Expr) → Decides (same a b) (a ≡ b)
same_decides a b = (
  (λ e. expr_inj a b ((same_code-decides (expr_code a) (expr_code b)).0 e)),
  (λ e. (same_code-decides (expr_code a) (expr_code b)).1 (ap expr_code e)),
)

-- ---- which symbols there are

numbered-by : (symbols : List Expr) (e : Expr) (b : Bool) → list_any (same e) symbols ≡ b →
    Contains (if b then symbols else symbols ++ e ∷ []) e
numbered-by symbols e true h = any_there same same_decides symbols e h
numbered-by symbols e false h = Contains-push symbols e

pub numbered_has : (symbols : List Expr) (e : Expr) → Contains (numbered symbols e) e
numbered_has symbols e = numbered-by symbols e (list_any (same e) symbols) refl

pub numbered_there : (symbols : List Expr) (e : Expr) → list_any (same e) symbols ≡ true → numbered symbols e ≡ symbols
numbered_there symbols e h = ap (λ (b : Bool). if b then symbols else symbols ++ e ∷ []) h

pub numbered_new : (symbols : List Expr) (e : Expr) → (Contains symbols e → ⊥) →
    numbered symbols e ≡ symbols ++ e ∷ []
numbered_new symbols e out =
    ap (λ (b : Bool). if b then symbols else symbols ++ e ∷ []) (absent_any same same_decides symbols e out)

different-by : (symbols : List Expr) (e : Expr) (b : Bool) → list_any (same e) symbols ≡ b → AreDifferent symbols →
    AreDifferent (if b then symbols else symbols ++ e ∷ [])
different-by symbols e true h all = all
different-by symbols e false h all = different_push symbols e all
    (λ there. true≢false (sym (there_any same same_decides symbols e there) ∙ h))

pub numbered_different : (symbols : List Expr) (e : Expr) → AreDifferent symbols → AreDifferent (numbered symbols e)
numbered_different symbols e all = different-by symbols e (list_any (same e) symbols) refl all

pub with_needed : (symbols : List Expr) (e : Expr) → needs_none e ≡ false →
    with_symbol symbols e ≡ numbered symbols (stripped e)
with_needed symbols e h = ap (λ (b : Bool). if b then symbols else numbered symbols (stripped e)) h

pub with_none : (symbols : List Expr) (e : Expr) → needs_none e ≡ true → with_symbol symbols e ≡ symbols
with_none symbols e h = ap (λ (b : Bool). if b then symbols else numbered symbols (stripped e)) h

pub with_has : (symbols : List Expr) (e : Expr) → HasSymbol (with_symbol symbols e) e
with_has symbols e = elim (cases_Bool (needs_none e)) [
  | inl h ↦ inl h
  | inr h ↦ inr (subst (λ (s : List Expr). Contains s (stripped e)) (sym (with_needed symbols e h))
      (numbered_has symbols (stripped e)))
]

pub with_known : (symbols : List Expr) (e : Expr) → HasSymbol symbols e → with_symbol symbols e ≡ symbols
with_known symbols e (inl h) = with_none symbols e h
with_known symbols e (inr there) = elim (cases_Bool (needs_none e)) [
  | inl h ↦ with_none symbols e h
  | inr h ↦ with_needed symbols e h
      ∙ numbered_there symbols (stripped e) (there_any same same_decides symbols (stripped e) there)
]

pub with_new : (symbols : List Expr) (e : Expr) → (HasSymbol symbols e → ⊥) →
    with_symbol symbols e ≡ symbols ++ stripped e ∷ []
with_new symbols e out = elim (cases_Bool (needs_none e)) [
  | inl h ↦ absurd (out (inl h))
  | inr h ↦ with_needed symbols e h ∙ numbered_new symbols (stripped e) (λ there. out (inr there))
]

numbered-grows : (symbols : List Expr) (e : Expr) (b : Bool) →
    (more : List Expr) × ((if b then symbols else symbols ++ e ∷ []) ≡ symbols ++ more)
numbered-grows symbols e true = ([], sym (append-nil symbols))
numbered-grows symbols e false = (e ∷ [], refl)

pub numbered_grows : (symbols : List Expr) (e : Expr) → (more : List Expr) × (numbered symbols e ≡ symbols ++ more)
numbered_grows symbols e = numbered-grows symbols e (list_any (same e) symbols)

with-grows : (symbols : List Expr) (e : Expr) (b : Bool) →
    (more : List Expr) × ((if b then symbols else numbered symbols (stripped e)) ≡ symbols ++ more)
with-grows symbols e true = ([], sym (append-nil symbols))
with-grows symbols e false = numbered_grows symbols (stripped e)

pub with_grows : (symbols : List Expr) (e : Expr) → (more : List Expr) × (with_symbol symbols e ≡ symbols ++ more)
with_grows symbols e = with-grows symbols e (needs_none e)

pub with_different : (symbols : List Expr) (e : Expr) → AreDifferent symbols → AreDifferent (with_symbol symbols e)
with_different symbols e all = elim (cases_Bool (needs_none e)) [
  | inl h ↦ subst AreDifferent (sym (with_none symbols e h)) all
  | inr h ↦ subst AreDifferent (sym (with_needed symbols e h)) (numbered_different symbols (stripped e) all)
]

-- ---- labels

pub no_literal : (symbols : List Expr) (e : Expr) → needs_none e ≡ true → label_in symbols e ≡ []
no_literal symbols e h = ap (λ (b : Bool). if b then [] else record {
  symbol = place_in symbols (stripped e);
  positive = is_positive e;
} ∷ []) h

pub one_literal : (symbols : List Expr) (e : Expr) → needs_none e ≡ false →
    label_in symbols e ≡ record { symbol = place_in symbols (stripped e); positive = is_positive e } ∷ []
one_literal symbols e h = ap (λ (b : Bool). if b then [] else record {
  symbol = place_in symbols (stripped e);
  positive = is_positive e;
} ∷ []) h

there_if_needed : (symbols : List Expr) (e : Expr) → HasSymbol symbols e → needs_none e ≡ false →
    Contains symbols (stripped e)
there_if_needed symbols e (inl h) n = absurd (true≢false (sym h ∙ n))
there_if_needed symbols e (inr there) n = there

pub literal_at : (symbols : List Expr) (e : Expr) → HasSymbol symbols e → needs_none e ≡ false →
    (n : ℕ) × (slice_get symbols n ≡ Some (stripped e)) ×
    (label_in symbols e ≡ record { symbol = n; positive = is_positive e } ∷ [])
literal_at symbols e has n = (
  place_in symbols (stripped e),
  (at_place same same_decides symbols (stripped e) (there_if_needed symbols e has n)).1,
  one_literal symbols e n,
)

pub within : (symbols : List Expr) (e : Expr) → HasSymbol symbols e →
    All (λ (l : Literal). l.symbol < length symbols) (label_in symbols e)
within symbols e has = elim (cases_Bool (needs_none e)) [
  | inl h ↦ subst (All (λ (l : Literal). l.symbol < length symbols)) (sym (no_literal symbols e h)) (All-nil _)
  | inr h ↦ subst (All (λ (l : Literal). l.symbol < length symbols)) (sym (one_literal symbols e h))
      (All-cons (λ (l : Literal). l.symbol < length symbols)
      (record { symbol = place_in symbols (stripped e); positive = is_positive e }) []
      (at_place same same_decides symbols (stripped e) (there_if_needed symbols e has h)).0 (All-nil _))
]

-- ---- letters

value_at : (widths : List ℕ) (symbols : List Expr) (values : Valuation) (n : ℕ) (e : Expr) →
    slice_get symbols n ≡ Some e → value_in (truths widths symbols values) n ≡ truth widths values e
value_at widths symbols values n e at =
    get_or_from_slice_get (truths widths symbols values) n (truth widths values e) false
    (slice_get-map (truth widths values) symbols n ∙ ap (λ o. option_map (truth widths values) o) at)

pub passes_holds : (widths : List ℕ) (symbols : List Expr) (e : Expr) (a : Letter) → HasSymbol symbols e →
    a ≢ bottom → Passes (label_in symbols e) (seen_by widths symbols a) ↔ Holds widths e a
passes_holds widths symbols e top has out = ((λ h. tt), (λ h. tt))
passes_holds widths symbols e bottom has out = absurd (out refl)
passes_holds widths symbols e (valuation values) has out =
    elim (cases_Bool (needs_none e)) [
      | inl h ↦ (
        (λ p. not_zero widths values e (none_true widths values e h)),
        (λ q. subst (λ (ls : List Literal). Passes ls (seen_by widths symbols (valuation values)))
            (sym (no_literal symbols e h)) tt),
      )
      | inr h ↦
          let found = literal_at symbols e has h in
          let at : value_in (truths widths symbols values) found.0 ≡ truth widths values (stripped e) =
          value_at widths symbols values found.0 (stripped e) found.1 in (
            (λ p.
                let k = subst (λ (ls : List Literal). Passes ls (seen_by widths symbols (valuation values)))
                found.2 p in
                not_zero widths values e ((as_signed widths values e).0 (sym at ∙ k.0))),
            (λ q. subst (λ (ls : List Literal). Passes ls (seen_by widths symbols (valuation values))) (sym found.2)
                (at ∙ (as_signed widths values e).1 (is_true widths values e q), tt)),
          )
    ]

-- ---- more symbols

pub has_more : (symbols more : List Expr) (e : Expr) → HasSymbol symbols e → HasSymbol (symbols ++ more) e
has_more symbols more e (inl h) = inl h
has_more symbols more e (inr there) = inr (Contains-append_left symbols more (stripped e) there)

pub label_more : (symbols more : List Expr) (e : Expr) → HasSymbol symbols e →
    label_in (symbols ++ more) e ≡ label_in symbols e
label_more symbols more e has = elim (cases_Bool (needs_none e)) [
  | inl h ↦ no_literal (symbols ++ more) e h ∙ sym (no_literal symbols e h)
  | inr h ↦ one_literal (symbols ++ more) e h
      ∙ ap (λ (n : ℕ). record { symbol = n; positive = is_positive e } ∷ [])
      (place_stays same same_decides symbols more (stripped e) (there_if_needed symbols e has h))
      ∙ sym (one_literal symbols e h)
]

value_more : (widths : List ℕ) (symbols more : List Expr) (values : Valuation) (n : ℕ) → n < length symbols →
    value_in (truths widths (symbols ++ more) values) n ≡ value_in (truths widths symbols values) n
value_more widths [] more values n lt = absurd (omega arith)
value_more widths (e ∷ symbols) more values zero lt = refl
value_more widths (e ∷ symbols) more values (suc n) lt = value_more widths symbols more values n (omega arith)

passes-by : (label : List Literal) (f g : ℕ → Bool) (bound : ℕ) →
    AllByRecursion (λ (l : Literal). l.symbol < bound) label → ((n : ℕ) → n < bound → f n ≡ g n) →
    Passes label (Some f) → Passes label (Some g)
passes-by [] f g bound all same p = tt
passes-by (l ∷ ls) f g bound all same p =
    (sym (same l.symbol all.0) ∙ p.0, passes-by ls f g bound all.1 same p.1)

pub passes_more : (widths : List ℕ) (symbols more : List Expr) (label : List Literal) (a : Letter) →
    All (λ (l : Literal). l.symbol < length symbols) label →
    Passes label (seen_by widths (symbols ++ more) a) ↔ Passes label (seen_by widths symbols a)
passes_more widths symbols more label top all = ((λ h. tt), (λ h. tt))
passes_more widths symbols more label bottom all = ((λ h. tt), (λ h. tt))
passes_more widths symbols more label (valuation values) all =
    let each = recursion_from_All (λ (l : Literal). l.symbol < length symbols) label all in
    let long = value_in (truths widths (symbols ++ more) values) in
    let short = value_in (truths widths symbols values) in (
      (λ p. passes-by label long short (length symbols) each (value_more widths symbols more values) p),
      (λ p. passes-by label short long (length symbols) each
          (λ n lt. sym (value_more widths symbols more values n lt)) p),
    )
