-- In how many phrases that a span opens its tokens stand, and that all of them end with it.
use Rattle.std.proofs.Common.{◌≡◌, ℕ, zero, suc, ◌<◌, ◌≤◌, ◌⊎◌, inl, inr, Bool, true, false, cond, Option, Some, None}
use Rattle.std.proofs.Common.{List, refl, sym, ap, subst, ◌∙◌, arith, nat_eq}
use Rattle.std.proofs.lemmas.Bool.{cases_lt, eqb-true}
use Rattle.std.proofs.lemmas.Bool.{eq-eqb, lt-ltb, le-ltb}
use Rattle.std.specs.Prelude.{◌&&◌, ◌||◌, nat_lt}
use Rattle.psl_grammar.specs.declared.symbols.Symbol.{Symbol}
use Rattle.psl_grammar.specs.Symbols.{symbol_at}
use Rattle.psl_parser.specs.Places.{count_in}
use Rattle.psl_parser.specs.Marks.{closes_bracket, opens_bracket, looseness, is_colon}
use Rattle.psl_parser.specs.OpenPhrases.{opened, closed, is_bare, is_behind, questions, colons, is_beyond, ends}
use Rattle.psl_parser.specs.OpenPhrases.{reach_of, stands_by, stands_in}
use Rattle.unit_depth.proofs.Counting.{by_test, one, one_small, count_split, count_first, count_zero, none_from}
use Rattle.unit_depth.proofs.Counting.{none_not, count_none}
use Rattle.unit_depth.proofs.Marks.{closes_alone}
use Rattle.unit_depth.proofs.Parts.{Part, opened_none, closed_none, opened_more, closed_more, bare_yes, bare_is}
use Rattle.unit_depth.proofs.Parts.{questions_none, colons_none}

-- how many of the phrases that the tokens from `from` on open a token stands in
abbrev pub inner : List Symbol → (from place : ℕ) → ℕ
inner symbols from place = count_in (λ o. stands_in symbols o place) from place

pub record Spanned (symbols : List Symbol) (room i j : ℕ) : Type 0 where
  pub within : (p : ℕ) → i ≤ p → p < j → inner symbols i p ≤ room
  pub ended : (o p : ℕ) → i ≤ o → o < j → j ≤ p → stands_in symbols o p ≡ false

abbrev pub Fits : List Symbol → (room i j : ℕ) → Type 0
Fits symbols room i j = (p : ℕ) → i ≤ p → p < j → inner symbols i p ≤ room

-- a token ends the phrases that reach so far
abbrev pub Over : List Symbol → (reach place : ℕ) → Type 0
Over symbols reach place = (closes_bracket (symbol_at symbols place) ≡ true) ⊎ (reach < looseness symbols place)

module _ (symbols : List Symbol) where
  pub over_less : (r s place : ℕ) → r ≤ s → Over symbols s place → Over symbols r place
  over_less r s place le over = elim over [ inl h ↦ inl h | inr h ↦ inr (omega arith) ]

  -- ---- spans one behind the other

  pub spanned_none : (room i : ℕ) → Spanned symbols room i i
  spanned_none room i = record {
    within = λ p low high. absurd (omega arith);
    ended = λ o p low high past. absurd (omega arith);
  }

  pub all_ended : (room i m : ℕ) → Spanned symbols room i m → (p : ℕ) → m ≤ p
      → count_in (λ o. stands_in symbols o p) i m ≡ 0
  all_ended room i m s p past = count_zero (λ o. stands_in symbols o p) i m (λ o low high. s.ended o p low high past)

  pub inner_past : (room i m p : ℕ) → i ≤ m → m ≤ p → Spanned symbols room i m → inner symbols i p ≡ inner symbols m p
  inner_past room i m p le past s =
      let split = count_split (λ o. stands_in symbols o p) i m p le past in
      let none = all_ended room i m s p past in
      omega arith

  pub spanned_join : (room i m j : ℕ) → i ≤ m → m ≤ j → Spanned symbols room i m → Spanned symbols room m j
      → Spanned symbols room i j
  spanned_join room i m j le le2 s t = record {
    within = λ p low high. elim (cases_lt p m) [
      | inl h ↦ s.within p low h
      | inr h ↦ let x = inner_past room i m p le h s in let y = t.within p h high in omega arith
    ];
    ended = λ o p low high past. elim (cases_lt o m) [
      | inl h ↦ s.ended o p low h (omega arith)
      | inr h ↦ t.ended o p h high past
    ];
  }

  pub spanned_more : (room more i j : ℕ) → room ≤ more → Spanned symbols room i j → Spanned symbols more i j
  spanned_more room more i j le s = record {
    within = λ p low high. let x = s.within p low high in omega arith;
    ended = s.ended;
  }

  -- ---- one token that opens no phrase

  pub stands_none : (o p : ℕ) → reach_of symbols o ≡ None → stands_in symbols o p ≡ false
  stands_none o p none = ap (λ (r : Option ℕ). stands_by symbols r o p) none

  pub spanned_token : (room n : ℕ) → reach_of symbols n ≡ None → Spanned symbols room n (suc n)
  spanned_token room n none = record {
    within = λ p low high.
        let few : inner symbols n p ≡ 0 = count_none (λ o. stands_in symbols o p) n p (omega arith) in omega arith;
    ended = λ o p low high past.
        let same : n ≡ o = omega arith in
        subst (λ (k : ℕ). stands_in symbols k p ≡ false) same (stands_none n p none);
  }

  -- ---- a phrase

  pub ends_by : (bare closes behind beyond : Bool) → bare ≡ true → (closes ≡ true) ⊎ ((behind ≡ true) × (beyond ≡ true))
      → (bare && (closes || (behind && beyond))) ≡ true
  ends_by false closes behind beyond e h = cc
  ends_by true true behind beyond e h = refl
  ends_by true false true true e h = refl
  ends_by true false false beyond e h = elim h [ inl x ↦ absurd (cc) | inr x ↦ let y = x.0 in absurd (cc) ]
  ends_by true false true false e h = elim h [ inl x ↦ absurd (cc) | inr x ↦ let y = x.1 in absurd (cc) ]

  pub ends_not : (bare closes behind beyond : Bool) → (bare ≡ true → closes ≡ false)
      → (bare ≡ true → behind ≡ true → beyond ≡ false) → (bare && (closes || (behind && beyond))) ≡ false
  ends_not false closes behind beyond c b = refl
  ends_not true true behind beyond c b = let x = c refl in absurd (cc)
  ends_not true false false beyond c b = refl
  ends_not true false true beyond c b = b refl refl

  beyond_by : (ten colon few far : Bool) → (ten ≡ true → colon ≡ true → few ≡ true) → far ≡ true
      → cond (ten && colon) few far ≡ true
  beyond_by true true few far h e = h refl refl
  beyond_by true false few far h e = e
  beyond_by false colon few far h e = e

  beyond_not : (ten colon few far : Bool) → (ten ≡ true → colon ≡ true → few ≡ false)
      → ((ten ≡ true → colon ≡ false) → far ≡ false) → cond (ten && colon) few far ≡ false
  beyond_not true true few far h e = h refl refl
  beyond_not true false few far h e = e (λ t. refl)
  beyond_not false colon few far h e = e (λ t. absurd (cc))

  -- the phrase that the token before a span opens ends with the span
  pub phrase_ends : (r t a b i j : ℕ) → Part symbols t a b (suc i) j → is_behind symbols j ≡ true → Over symbols r j
      → (r ≡ 10 → (t ≤ 10) × (b < a)) → ends symbols r i j ≡ true
  phrase_ends r t a b i j p behind over ten =
      ends_by (is_bare symbols i j) (closes_bracket (symbol_at symbols j)) (is_behind symbols j)
      (is_beyond symbols r i j)
      (bare_yes symbols i j (p.even i (omega arith) (opened_none symbols i ∙ sym (closed_none symbols i))))
      (elim over [ inl h ↦ inl h | inr h ↦ inr (behind, far h) ])
    where
      far : r < looseness symbols j → is_beyond symbols r i j ≡ true
      far lt =
          beyond_by (nat_eq r 10) (is_colon (symbol_at symbols j))
          (nat_lt (questions symbols i j) (colons symbols i j)) (nat_lt r (looseness symbols j))
          (λ e c.
          let x = ten (eqb-true r 10 e) in
          let small : t ≤ 10 = x.0 in
          let less : b < a = x.1 in
          let y = p.choices i small (omega arith) (opened_none symbols i ∙ sym (closed_none symbols i)) in
          let q = questions_none symbols i in
          let k = colons_none symbols i in
          lt-ltb (questions symbols i j) (colons symbols i j) (omega arith))
          (lt-ltb r (looseness symbols j) lt)

  -- no token closes the brackets that are open around the span
  pub open_there : (t a b i j n : ℕ) → Part symbols t a b (suc i) j → i < n → n < j
      → opened symbols i n ≡ closed symbols i n → closes_bracket (symbol_at symbols n) ≡ false
  open_there t a b i j n p low high bare =
      by_test (closes_bracket (symbol_at symbols n))
      (λ is_so.
      let x = p.low i (suc n) (omega arith) (opened_none symbols i ∙ sym (closed_none symbols i)) (omega arith) high in
      let y = opened_more symbols i n low in
      let z = closed_more symbols i n low in
      let u : one (closes_bracket (symbol_at symbols n)) ≡ one true = ap one is_so in
      let v : one (opens_bracket (symbol_at symbols n)) ≡ one false =
      ap one (closes_alone (symbol_at symbols n) is_so) in
      absurd (omega arith)) (λ not_so. not_so)

  -- no token in a span that joins as tightly as that ends it
  pub phrase_stays : (r a b i j n : ℕ) → a ≤ 1 → Part symbols r a b (suc i) j → i < n → n < j
      → ends symbols r i n ≡ false
  phrase_stays r a b i j n few p low high =
      ends_not (is_bare symbols i n) (closes_bracket (symbol_at symbols n)) (is_behind symbols n)
      (is_beyond symbols r i n) (λ bare. open_there r a b i j n p low high (bare_is symbols i n bare))
      (λ bare behind. near (bare_is symbols i n bare) behind)
    where
      start : opened symbols i (suc i) ≡ closed symbols i (suc i)
      start = opened_none symbols i ∙ sym (closed_none symbols i)

      near : opened symbols i n ≡ closed symbols i n → is_behind symbols n ≡ true → is_beyond symbols r i n ≡ false
      near bare behind =
          beyond_not (nat_eq r 10) (is_colon (symbol_at symbols n))
          (nat_lt (questions symbols i n) (colons symbols i n)) (nat_lt r (looseness symbols n))
          (λ e is_so.
          let same : r ≡ 10 = eqb-true r 10 e in
          let x = p.colon i n (omega arith) (omega arith) start low high bare is_so in
          let q = questions_none symbols i in
          let k = colons_none symbols i in
          le-ltb (questions symbols i n) (colons symbols i n) (omega arith))
          (λ not_so. le-ltb r (looseness symbols n)
          (p.tame i n (omega arith) start low high bare behind (λ same. not_so (eq-eqb r 10 same))))

  pub stands_there : (r i p : ℕ) → reach_of symbols i ≡ Some r
      → ((n : ℕ) → i < n → n ≤ p → ends symbols r i n ≡ false) → stands_in symbols i p ≡ true
  stands_there r i p reach each =
      ap (λ (o : Option ℕ). stands_by symbols o i p) reach
      ∙ none_from (ends symbols r i) (suc i) (suc p) (λ n low high. each n low (omega arith))

  pub stands_not : (r i n p : ℕ) → reach_of symbols i ≡ Some r → i < n → n ≤ p → ends symbols r i n ≡ true
      → stands_in symbols i p ≡ false
  stands_not r i n p reach low high is_so =
      ap (λ (o : Option ℕ). stands_by symbols o i p) reach
      ∙ none_not (ends symbols r i) (suc i) (suc p) n low (omega arith) is_so

  pub spanned_phrase : (room r i j : ℕ) → i < j → reach_of symbols i ≡ Some r → ends symbols r i j ≡ true
      → Spanned symbols room (suc i) j → Spanned symbols (suc room) i j
  spanned_phrase room r i j some reach is_so s = record {
    within = λ p low high. elim (cases_lt i p) [
      | inl h ↦
          let first = count_first (λ o. stands_in symbols o p) i p h in
          let few = one_small (stands_in symbols i p) in
          let x = s.within p h high in
          omega arith
      | inr h ↦
          let none : inner symbols i p ≡ 0 = count_none (λ o. stands_in symbols o p) i p h in omega arith
    ];
    ended = λ o p low high past. elim (cases_lt i o) [
      | inl h ↦ s.ended o p h high past
      | inr h ↦
          let same : i ≡ o = omega arith in
          subst (λ (k : ℕ). stands_in symbols k p ≡ false) same (stands_not r i j p reach some past is_so)
    ];
  }

  -- ---- where a span fits

  pub fits_part : (room i k m j : ℕ) → i ≤ k → m ≤ j → Fits symbols room i j → Fits symbols room k m
  fits_part room i k m j low high fits = λ p from to.
      let split = count_split (λ o. stands_in symbols o p) i k p low from in
      let whole = fits p (omega arith) (omega arith) in
      omega arith

  -- a token of the span stands in the phrase, or all those that the span opens ended before it
  abbrev pub Stays : (i j : ℕ) → Type 0
  Stays i j = (p : ℕ) → i < p → p < j → (stands_in symbols i p ≡ true) ⊎ (inner symbols (suc i) p ≡ 0)

  pub fits_phrase : (room i j : ℕ) → suc i < j → stands_in symbols i (suc i) ≡ true → Stays i j
      → Fits symbols room i j → (less : ℕ) × (room ≡ suc less) × Fits symbols less (suc i) j
  fits_phrase zero i j some here stays fits =
      let first = count_first (λ o. stands_in symbols o (suc i)) i (suc i) (omega arith) in
      let x : one (stands_in symbols i (suc i)) ≡ one true = ap one here in
      let whole = fits (suc i) (omega arith) some in
      absurd (omega arith)
  fits_phrase (suc less) i j some here stays fits = (
    less,
    refl,
    λ p low high. elim (stays p low high) [
      | inl is_so ↦
          let first = count_first (λ o. stands_in symbols o p) i p low in
          let x : one (stands_in symbols i p) ≡ one true = ap one is_so in
          let whole = fits p (omega arith) high in
          omega arith
      | inr none ↦ omega arith
    ],
  )

  pub fits_opened : (room r a b i j : ℕ) → a ≤ 1 → suc i < j → reach_of symbols i ≡ Some r
      → Part symbols r a b (suc i) j → Fits symbols room i j
      → (less : ℕ) × (room ≡ suc less) × Fits symbols less (suc i) j
  fits_opened room r a b i j few some reach p fits =
      fits_phrase room i j some (there (suc i) (omega arith) some) (λ p low high. inl (there p low high)) fits
    where
      there : (q : ℕ) → i < q → q < j → stands_in symbols i q ≡ true
      there q low high =
          stands_there r i q reach (λ n from to. phrase_stays r a b i j n few p from (omega arith))

  pub fits_after : (room r a b i k j l : ℕ) → k ≡ suc i → a ≤ 1 → k < j → j ≤ l → reach_of symbols i ≡ Some r
      → Part symbols r a b k j → Fits symbols room i l → (less : ℕ) × (room ≡ suc less) × Fits symbols less k j
  fits_after room r a b i k j l same few some le reach p fits =
      let y =
      fits_opened room r a b i j few (omega arith) reach (subst (λ (m : ℕ). Part symbols r a b m j) same p)
      (fits_part room i i j l (omega arith) le fits) in
      (y.0, y.1, subst (λ (m : ℕ). Fits symbols y.0 m j) (sym same) y.2)
