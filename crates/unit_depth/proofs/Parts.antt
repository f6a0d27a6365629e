-- A span of tokens seen from a phrase that is open around it: its brackets are closed in it, and how loosely its bare
-- tokens join.
use Rattle.std.proofs.Common.{◌≡◌, ℕ, suc, ◌+◌, ◌<◌, ◌≤◌, inl, inr, Bool, true, false, List, sym}
use Rattle.std.proofs.Common.{ap, subst, ◌∙◌, arith}
use Rattle.std.proofs.lemmas.Bool.{cases_lt, and_left, and_right, both_ways, eq-eqb, ne_eqb, eqb-true}
use Rattle.std.specs.Prelude.{◌&&◌}
use Rattle.psl_grammar.specs.declared.symbols.Symbol.{Symbol}
use Rattle.psl_grammar.specs.Symbols.{symbol_at, joins_sequences}
use Rattle.psl_parser.specs.Places.{count_in}
use Rattle.psl_parser.specs.Marks.{opens_bracket, closes_bracket, looseness, is_colon, is_question}
use Rattle.psl_parser.specs.OpenPhrases.{opened, closed, is_bare, is_behind, questions, colons}
use Rattle.unit_depth.proofs.Counting.{by_test, one, count_more, count_none, count_split, count_first, count_zero}
use Rattle.unit_depth.proofs.Marks.{loose_small, colon_small}

-- Behind `i`, where a phrase's opener stands in no bracket that is open, the tokens up to `j` close what they open;
-- each bare token behind an operand joins no more loosely than `t`, where for 10 colons don't count; and of the colons
-- that the `?` ask for there are `a` at the beginning and `b` at the end.
pub record Part (symbols : List Symbol) (t a b i j : ℕ) : Type 0 where
  pub le : i ≤ j
  pub low : (o n : ℕ) → o < i → opened symbols o i ≡ closed symbols o i → i ≤ n → n ≤ j
      → closed symbols o n ≤ opened symbols o n
  pub even : (o : ℕ) → o < i → opened symbols o i ≡ closed symbols o i → opened symbols o j ≡ closed symbols o j
  pub tame : (o n : ℕ) → o < i → opened symbols o i ≡ closed symbols o i → i ≤ n → n < j
      → opened symbols o n ≡ closed symbols o n → is_behind symbols n ≡ true
      → (t ≡ 10 → is_colon (symbol_at symbols n) ≡ false) → looseness symbols n ≤ t
  pub choices : (o : ℕ) → t ≤ 10 → o < i → opened symbols o i ≡ closed symbols o i
      → questions symbols o j + colons symbols o i + a ≡ colons symbols o j + questions symbols o i + b
  pub colon : (o n : ℕ) → t ≤ 10 → o < i → opened symbols o i ≡ closed symbols o i → i ≤ n → n < j
      → opened symbols o n ≡ closed symbols o n → is_colon (symbol_at symbols n) ≡ true
      → colons symbols o n + questions symbols o i < questions symbols o n + colons symbols o i + a

module _ (symbols : List Symbol) where
  -- ---- counts of brackets

  pub opened_more : (o n : ℕ) → o < n
      → opened symbols o (suc n) ≡ opened symbols o n + one (opens_bracket (symbol_at symbols n))
  opened_more o n lt = count_more (λ k. opens_bracket (symbol_at symbols k)) (suc o) n lt

  pub closed_more : (o n : ℕ) → o < n
      → closed symbols o (suc n) ≡ closed symbols o n + one (closes_bracket (symbol_at symbols n))
  closed_more o n lt = count_more (λ k. closes_bracket (symbol_at symbols k)) (suc o) n lt

  pub opened_none : (o : ℕ) → opened symbols o (suc o) ≡ 0
  opened_none o = count_none (λ k. opens_bracket (symbol_at symbols k)) (suc o) (suc o) (omega arith)

  pub closed_none : (o : ℕ) → closed symbols o (suc o) ≡ 0
  closed_none o = count_none (λ k. closes_bracket (symbol_at symbols k)) (suc o) (suc o) (omega arith)

  pub opened_split : (o i n : ℕ) → o < i → i < n
      → opened symbols o n ≡ opened symbols o i + one (opens_bracket (symbol_at symbols i)) + opened symbols i n
  opened_split o i n lt lt2 =
      let split = count_split (λ k. opens_bracket (symbol_at symbols k)) (suc o) i n lt (omega arith) in
      let first = count_first (λ k. opens_bracket (symbol_at symbols k)) i n lt2 in
      omega arith

  pub closed_split : (o i n : ℕ) → o < i → i < n
      → closed symbols o n ≡ closed symbols o i + one (closes_bracket (symbol_at symbols i)) + closed symbols i n
  closed_split o i n lt lt2 =
      let split = count_split (λ k. closes_bracket (symbol_at symbols k)) (suc o) i n lt (omega arith) in
      let first = count_first (λ k. closes_bracket (symbol_at symbols k)) i n lt2 in
      omega arith

  pub bare_yes : (o n : ℕ) → opened symbols o n ≡ closed symbols o n → is_bare symbols o n ≡ true
  bare_yes o n e = eq-eqb (opened symbols o n) (closed symbols o n) e

  pub bare_no : (o n : ℕ) → closed symbols o n < opened symbols o n → is_bare symbols o n ≡ false
  bare_no o n lt = ne_eqb (opened symbols o n) (closed symbols o n) (λ e. omega arith)

  pub bare_is : (o n : ℕ) → is_bare symbols o n ≡ true → opened symbols o n ≡ closed symbols o n
  bare_is o n e = eqb-true (opened symbols o n) (closed symbols o n) e

  pub questions_none : (o : ℕ) → questions symbols o (suc o) ≡ 0
  questions_none o =
      count_none (λ k. is_bare symbols o k && is_question (symbol_at symbols k)) (suc o) (suc o) (omega arith)

  pub colons_none : (o : ℕ) → colons symbols o (suc o) ≡ 0
  colons_none o = count_none (λ k. is_bare symbols o k && is_colon (symbol_at symbols k)) (suc o) (suc o) (omega arith)

  pub questions_more : (o n : ℕ) → o < n → opened symbols o n ≡ closed symbols o n
      → questions symbols o (suc n) ≡ questions symbols o n + one (is_question (symbol_at symbols n))
  questions_more o n lt bare =
      count_more (λ k. is_bare symbols o k && is_question (symbol_at symbols k)) (suc o) n lt
      ∙ ap (λ (b : Bool). questions symbols o n + one (b && is_question (symbol_at symbols n))) (bare_yes o n bare)

  pub colons_more : (o n : ℕ) → o < n → opened symbols o n ≡ closed symbols o n
      → colons symbols o (suc n) ≡ colons symbols o n + one (is_colon (symbol_at symbols n))
  colons_more o n lt bare =
      count_more (λ k. is_bare symbols o k && is_colon (symbol_at symbols k)) (suc o) n lt
      ∙ ap (λ (b : Bool). colons symbols o n + one (b && is_colon (symbol_at symbols n))) (bare_yes o n bare)

  pub looseness_small : (n : ℕ) → looseness symbols n ≤ 15
  looseness_small n = loose_small (joins_sequences symbols n) (symbol_at symbols n)

  -- ---- spans one behind the other

  pub part_none : (t a i : ℕ) → Part symbols t a a i i
  part_none t a i = record {
    le = omega arith;
    low = λ o n lt bare low high. let same : n ≡ i = omega arith in
        subst (λ (k : ℕ). closed symbols o k ≤ opened symbols o k) (sym same) (omega arith);
    even = λ o lt bare. bare;
    tame = λ o n lt bare low high. absurd (omega arith);
    choices = λ o le lt bare. omega arith;
    colon = λ o n le lt bare low high. absurd (omega arith);
  }

  pub part_join : (t a b c i m j : ℕ) → Part symbols t a b i m → Part symbols t b c m j → Part symbols t a c i j
  part_join t a b c i m j p q = record {
    le = let x = p.le in let y = q.le in omega arith;
    low = λ o n lt bare low high. elim (cases_lt m n) [
      | inl h ↦ q.low o n (let x = p.le in omega arith) (p.even o lt bare) (omega arith) high
      | inr h ↦ p.low o n lt bare low h
    ];
    even = λ o lt bare. q.even o (let x = p.le in omega arith) (p.even o lt bare);
    tame = λ o n lt bare low high here behind not_so. elim (cases_lt n m) [
      | inl h ↦ p.tame o n lt bare low h here behind not_so
      | inr h ↦ q.tame o n (let x = p.le in omega arith) (p.even o lt bare) h high here behind not_so
    ];
    choices = λ o le lt bare.
        let x = p.choices o le lt bare in
        let y = q.choices o le (let z = p.le in omega arith) (p.even o lt bare) in
        omega arith;
    colon = λ o n le lt bare low high here is_so. elim (cases_lt n m) [
      | inl h ↦ p.colon o n le lt bare low h here is_so
      | inr h ↦
          let x = p.choices o le lt bare in
          let y = q.colon o n le (let z = p.le in omega arith) (p.even o lt bare) h high here is_so in
          omega arith
    ];
  }

  -- with as many more colons that are asked for
  pub part_shift : (t a i j : ℕ) → Part symbols t 0 0 i j → Part symbols t a a i j
  part_shift t a i j p = record {
    le = p.le;
    low = p.low;
    even = p.even;
    tame = p.tame;
    choices = λ o le lt bare. let x = p.choices o le lt bare in omega arith;
    colon = λ o n le lt bare low high here is_so. let x = p.colon o n le lt bare low high here is_so in omega arith;
  }

  colon_loose : (n : ℕ) → is_colon (symbol_at symbols n) ≡ true → looseness symbols n ≤ 11
  colon_loose n is_so = colon_small (joins_sequences symbols n) (symbol_at symbols n) is_so

  pub part_loosen : (t u a b i j : ℕ) → t ≤ u → Part symbols t a b i j → Part symbols u a b i j
  part_loosen t u a b i j le p = record {
    le = p.le;
    low = p.low;
    even = p.even;
    tame = λ o n lt bare low high here behind not_so. elim (cases_lt 10 u) [
      | inl h ↦
          by_test (is_colon (symbol_at symbols n)) (λ is_so. let x = colon_loose n is_so in omega arith)
          (λ other. let x = p.tame o n lt bare low high here behind (λ e. other) in omega arith)
      | inr h ↦ let x = p.tame o n lt bare low high here behind (λ e. not_so (omega arith)) in omega arith
    ];
    choices = λ o small lt bare. p.choices o (omega arith) lt bare;
    colon = λ o n small lt bare low high here is_so. p.colon o n (omega arith) lt bare low high here is_so;
  }

  -- ---- one token that is no bracket

  abbrev pub IsTame : (t n : ℕ) → Type 0
  IsTame t n = is_behind symbols n ≡ true → (t ≡ 10 → is_colon (symbol_at symbols n) ≡ false) → looseness symbols n ≤ t

  steps : (o n : ℕ) → opens_bracket (symbol_at symbols n) ≡ false → closes_bracket (symbol_at symbols n) ≡ false
      → o < n → (opened symbols o (suc n) ≡ opened symbols o n) × (closed symbols o (suc n) ≡ closed symbols o n)
  steps o n opens closes lt =
      let x = opened_more o n lt in
      let y = closed_more o n lt in
      let v : one (opens_bracket (symbol_at symbols n)) ≡ one false = ap one opens in
      let w : one (closes_bracket (symbol_at symbols n)) ≡ one false = ap one closes in
      (omega arith, omega arith)

  one_or_next : (n k : ℕ) → n ≤ k → k ≤ suc n → (P : ℕ → Type 0) → P n → P (suc n) → P k
  one_or_next n k low high P x y =
      elim (cases_lt n k) [
        | inl h ↦ let same : suc n ≡ k = omega arith in subst P same y
        | inr h ↦ let same : n ≡ k = omega arith in subst P same x
      ]

  pub part_token : (t a b n : ℕ) → opens_bracket (symbol_at symbols n) ≡ false
      → closes_bracket (symbol_at symbols n) ≡ false → IsTame t n
      → (t ≤ 10 → one (is_question (symbol_at symbols n)) + a ≡ one (is_colon (symbol_at symbols n)) + b)
      → (t ≤ 10 → is_colon (symbol_at symbols n) ≡ true → 0 < a) → Part symbols t a b n (suc n)
  part_token t a b n opens closes tame debt some = record {
    le = omega arith;
    low = λ o k lt bare low high. one_or_next n k low high (λ (m : ℕ). closed symbols o m ≤ opened symbols o m)
        (omega arith) (let x = steps o n opens closes lt in let y = x.0 in let z = x.1 in omega arith);
    even = λ o lt bare. let x = steps o n opens closes lt in let y = x.0 in let z = x.1 in omega arith;
    tame = λ o k lt bare low high here behind not_so.
        let same : k ≡ n = omega arith in
        subst (λ (m : ℕ). looseness symbols m ≤ t) (sym same)
        (tame (subst (λ (m : ℕ). is_behind symbols m ≡ true) same behind)
        (subst (λ (m : ℕ). t ≡ 10 → is_colon (symbol_at symbols m) ≡ false) same not_so));
    choices = λ o le lt bare.
        let x = questions_more o n lt bare in
        let y = colons_more o n lt bare in
        let z = debt le in
        omega arith;
    colon = λ o k le lt bare low high here is_so.
        let same : k ≡ n = omega arith in
        let more : 0 < a = some le (subst (λ (m : ℕ). is_colon (symbol_at symbols m) ≡ true) same is_so) in
        subst (λ (m : ℕ). colons symbols o m + questions symbols o n < questions symbols o m + colons symbols o n + a)
        (sym same) (omega arith);
  }

  -- ---- brackets, and what stands in them

  abbrev pub IsClosed : (i j : ℕ) → Type 0
  IsClosed i j = (o n : ℕ) → o < i → opened symbols o i ≡ closed symbols o i → i < n → n ≤ j
      → closed symbols o n < opened symbols o n

  pub within_brackets : (t a b i j : ℕ) → opens_bracket (symbol_at symbols i) ≡ true
      → closes_bracket (symbol_at symbols i) ≡ false → Part symbols t a b (suc i) j → IsClosed i j
  within_brackets t a b i j opens closes p = λ o n lt bare low high.
      let x = opened_split o i n lt low in
      let y = closed_split o i n lt low in
      let u : one (opens_bracket (symbol_at symbols i)) ≡ one true = ap one opens in
      let v : one (closes_bracket (symbol_at symbols i)) ≡ one false = ap one closes in
      let z = p.low i n (omega arith) (opened_none i ∙ sym (closed_none i)) low high in
      omega arith

  closes_even : (t a b i j : ℕ) → opens_bracket (symbol_at symbols i) ≡ true
      → closes_bracket (symbol_at symbols i) ≡ false → Part symbols t a b (suc i) j
      → opens_bracket (symbol_at symbols j) ≡ false → closes_bracket (symbol_at symbols j) ≡ true
      → (o : ℕ) → o < i → opened symbols o i ≡ closed symbols o i → opened symbols o (suc j) ≡ closed symbols o (suc j)
  closes_even t a b i j opens closes p not_so is_so o lt bare =
      let le : suc i ≤ j = p.le in
      let x = opened_split o i j lt le in
      let y = closed_split o i j lt le in
      let u : one (opens_bracket (symbol_at symbols i)) ≡ one true = ap one opens in
      let v : one (closes_bracket (symbol_at symbols i)) ≡ one false = ap one closes in
      let z = p.even i (omega arith) (opened_none i ∙ sym (closed_none i)) in
      let f = opened_more o j (omega arith) in
      let g = closed_more o j (omega arith) in
      let h : one (opens_bracket (symbol_at symbols j)) ≡ one false = ap one not_so in
      let k : one (closes_bracket (symbol_at symbols j)) ≡ one true = ap one is_so in
      omega arith

  -- no bare token that passes a test stands in the brackets
  no_more : (i j : ℕ) (f : Symbol → Bool) → f (symbol_at symbols i) ≡ false → IsClosed i j → i ≤ j → (o : ℕ) → o < i
      → opened symbols o i ≡ closed symbols o i
      → count_in (λ k. is_bare symbols o k && f (symbol_at symbols k)) (suc o) (suc j)
      ≡ count_in (λ k. is_bare symbols o k && f (symbol_at symbols k)) (suc o) i
  no_more i j f not_so round le o lt bare =
      let split =
      count_split (λ k. is_bare symbols o k && f (symbol_at symbols k)) (suc o) i (suc j) lt (omega arith) in
      let none =
      count_zero (λ k. is_bare symbols o k && f (symbol_at symbols k)) i (suc j)
      (λ k low high. elim (cases_lt i k) [
        | inl h ↦
            and_left (is_bare symbols o k) (f (symbol_at symbols k))
            (bare_no o k (round o k lt bare h (omega arith)))
        | inr h ↦
            let same : i ≡ k = omega arith in
            and_right (is_bare symbols o k) (f (symbol_at symbols k))
            (subst (λ (m : ℕ). f (symbol_at symbols m) ≡ false) same not_so)
      ]) in
      omega arith

  pub part_brackets : (t a u x y i j : ℕ) → opens_bracket (symbol_at symbols i) ≡ true
      → closes_bracket (symbol_at symbols i) ≡ false → is_question (symbol_at symbols i) ≡ false
      → is_colon (symbol_at symbols i) ≡ false → IsTame t i → Part symbols u x y (suc i) j
      → opens_bracket (symbol_at symbols j) ≡ false → closes_bracket (symbol_at symbols j) ≡ true
      → Part symbols t a a i (suc j)
  part_brackets t a u x y i j opens closes question colon tame p not_so is_so =
      let round = within_brackets u x y i j opens closes p in
      let even = closes_even u x y i j opens closes p not_so is_so in
      let le : suc i ≤ j = p.le in
      record {
        le = omega arith;
        low = λ o n lt bare low high. elim (cases_lt i n) [
          | inl h ↦
              elim (cases_lt j n) [
                | inl past ↦
                    let same : suc j ≡ n = omega arith in
                    subst (λ (m : ℕ). closed symbols o m ≤ opened symbols o m) same
                    (let e = even o lt bare in omega arith)
                | inr before ↦ let z = round o n lt bare h before in omega arith
              ]
          | inr h ↦
              let same : i ≡ n = omega arith in
              subst (λ (m : ℕ). closed symbols o m ≤ opened symbols o m) same (omega arith)
        ];
        even = even;
        tame = λ o n lt bare low high here behind other. elim (cases_lt i n) [
          | inl h ↦ let z = round o n lt bare h (omega arith) in absurd (omega arith)
          | inr h ↦
              let same : n ≡ i = omega arith in
              subst (λ (m : ℕ). looseness symbols m ≤ t) (sym same)
              (tame (subst (λ (m : ℕ). is_behind symbols m ≡ true) same behind)
              (subst (λ (m : ℕ). t ≡ 10 → is_colon (symbol_at symbols m) ≡ false) same other))
        ];
        choices = λ o small lt bare.
            let q = no_more i j is_question question round (omega arith) o lt bare in
            let c = no_more i j is_colon colon round (omega arith) o lt bare in
            omega arith;
        colon = λ o n small lt bare low high here there. elim (cases_lt i n) [
          | inl h ↦ let z = round o n lt bare h (omega arith) in absurd (omega arith)
          | inr h ↦
              let same : n ≡ i = omega arith in
              absurd (both_ways (is_colon (symbol_at symbols i)) colon
              (subst (λ (m : ℕ). is_colon (symbol_at symbols m) ≡ true) same there))
        ];
      }
