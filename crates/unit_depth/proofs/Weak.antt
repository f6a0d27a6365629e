-- The operand of a `!`: what the tokens alone tell of it may end before its repetitions, which open no phrase.
use Rattle.std.proofs.Common.{◌≡◌, ℕ, suc, ◌+◌, ◌-◌, ◌<◌, ◌≤◌, ◌⊎◌, inl, inr, true, false, Some}
use Rattle.std.proofs.Common.{List, refl, sym, ap, subst, ◌∙◌, arith}
use Rattle.std.proofs.lemmas.Bool.{both_ways, cases_lt, le-ltb, lt-ltb}
use Rattle.psl_grammar.specs.declared.symbols.Symbol.{Symbol}
use Rattle.psl_grammar.specs.declared.symbols.Symbol.TheVariants as symbol
use Rattle.psl_grammar.specs.RawSere.{RawSere}
use Rattle.psl_grammar.specs.Symbols.{symbol_at, At}
use Rattle.psl_grammar.specs.SereGrammar.{IsSere}
use Rattle.psl_grammar.specs.SereGrammar as s
use Rattle.psl_parser.specs.Marks.{opens_bracket, closes_bracket, looseness, is_exclamation}
use Rattle.psl_parser.specs.OpenPhrases.{opened, closed, is_bare, is_behind, is_beyond, ends, reach_of, stands_in}
use Rattle.unit_depth.proofs.Counting.{one, count_first}
use Rattle.unit_depth.proofs.Parts.{Part, opened_none, closed_none, opened_split, closed_split, bare_yes, bare_is}
use Rattle.unit_depth.proofs.Parts.{within_brackets, looseness_small}
use Rattle.unit_depth.proofs.Phrases.{inner, Stays, ends_by, ends_not, open_there, stands_there, stands_not}
use Rattle.unit_depth.proofs.Phrases.{inner_past, all_ended}
use Rattle.unit_depth.proofs.Tokens.{Setting, Fresh}
use Rattle.unit_depth.proofs.Told.{Told, loose_at}
use Rattle.unit_depth.proofs.Repeats.{TimesTold, times_told, times_far}
use Rattle.unit_depth.proofs.Seres.{sere_told, fresh_brace}

module _ (symbols : List Symbol) where
  -- no bare token up to a place ends the operand of a prefix operator
  abbrev pub IsQuiet : (o i p : ℕ) → Type 0
  IsQuiet o i p = (n : ℕ) → i ≤ n → n ≤ p → opened symbols o n ≡ closed symbols o n → is_behind symbols n ≡ true
      → looseness symbols n ≤ 0

  -- one of them does, and no phrase that was opened since `i` is left
  pub record IsPast (o i p : ℕ) : Type 0 where
    pub place : ℕ
    pub low : i ≤ place
    pub high : place ≤ p
    pub bare : opened symbols o place ≡ closed symbols o place
    pub behind : is_behind symbols place ≡ true
    pub far : 0 < looseness symbols place
    pub none : inner symbols i p ≡ 0

  abbrev pub IsWeak : (i j : ℕ) → Type 0
  IsWeak i j = (o p : ℕ) → o < i → opened symbols o i ≡ closed symbols o i → i ≤ p → p < j
      → (IsQuiet o i p) ⊎ (IsPast o i p)

  -- where nothing behind the first token is bare
  pub weak_round : (i j : ℕ) → is_behind symbols i ≡ false
      → ((o n : ℕ) → o < i → opened symbols o i ≡ closed symbols o i → i < n → n < j
      → closed symbols o n < opened symbols o n) → IsWeak i j
  weak_round i j start round = λ o p lt bare low high. inl (λ n from to here behind. elim (cases_lt i n) [
    | inl h ↦ let z = round o n lt bare h (omega arith) in absurd (omega arith)
    | inr h ↦
        let same : n ≡ i = omega arith in
        absurd (both_ways (is_behind symbols i) start
        (subst (λ (m : ℕ). is_behind symbols m ≡ true) same behind))
  ])

  -- a phrase of reach 0 is ended by a bare token behind an operand that joins more loosely
  ends_there : (i n : ℕ) → opened symbols i n ≡ closed symbols i n → is_behind symbols n ≡ true
      → 0 < looseness symbols n → ends symbols 0 i n ≡ true
  ends_there i n bare behind far =
      ends_by symbols (is_bare symbols i n) (closes_bracket (symbol_at symbols n)) (is_behind symbols n)
      (is_beyond symbols 0 i n) (bare_yes symbols i n bare) (inr (behind, lt-ltb 0 (looseness symbols n) far))

  -- behind a token that is no bracket, what is bare from there is bare from before
  same_bare : (o i n : ℕ) → o < i → i < n → opens_bracket (symbol_at symbols i) ≡ false
      → closes_bracket (symbol_at symbols i) ≡ false → opened symbols o i ≡ closed symbols o i
      → opened symbols o n ≡ closed symbols o n → opened symbols i n ≡ closed symbols i n
  same_bare o i n lt lt2 opens closes bare here =
      let x = opened_split symbols o i n lt lt2 in
      let y = closed_split symbols o i n lt lt2 in
      let u : one (opens_bracket (symbol_at symbols i)) ≡ one false = ap one opens in
      let v : one (closes_bracket (symbol_at symbols i)) ≡ one false = ap one closes in
      omega arith

  next_bare : (o i : ℕ) → o < i → opens_bracket (symbol_at symbols i) ≡ false
      → closes_bracket (symbol_at symbols i) ≡ false → opened symbols o i ≡ closed symbols o i
      → opened symbols o (suc i) ≡ closed symbols o (suc i)
  next_bare o i lt opens closes bare =
      let x = opened_split symbols o i (suc i) lt (omega arith) in
      let y = closed_split symbols o i (suc i) lt (omega arith) in
      let u : one (opens_bracket (symbol_at symbols i)) ≡ one false = ap one opens in
      let v : one (closes_bracket (symbol_at symbols i)) ≡ one false = ap one closes in
      let f = opened_none symbols i in
      let g = closed_none symbols i in
      omega arith

  -- a prefix operator before such a phrase
  pub weak_prefix : (i j : ℕ) → is_behind symbols i ≡ false → opens_bracket (symbol_at symbols i) ≡ false
      → closes_bracket (symbol_at symbols i) ≡ false → reach_of symbols i ≡ Some 0 → IsWeak (suc i) j → IsWeak i j
  weak_prefix i j start opens closes reach weak = λ o p lt bare low high. elim (cases_lt i p) [
    | inl h ↦
        elim (weak o p (omega arith) (next_bare o i lt opens closes bare) h high) [
          | inl quiet ↦
              inl (λ n from to here behind. elim (cases_lt i n) [
                | inl k ↦ quiet n k to here behind
                | inr k ↦
                    let same : n ≡ i = omega arith in
                    absurd (both_ways (is_behind symbols i) start
                    (subst (λ (m : ℕ). is_behind symbols m ≡ true) same behind))
              ])
          | inr past ↦
              let from = past.low in
              let to = past.high in
              let there = same_bare o i past.place lt (omega arith) opens closes bare past.bare in
              let gone = stands_not symbols 0 i past.place p reach (omega arith) to
              (ends_there i past.place there past.behind past.far) in
              let first = count_first (λ k. stands_in symbols k p) i p h in
              let none = past.none in
              let here : one (stands_in symbols i p) ≡ one false = ap one gone in
              inr (record {
                place = past.place;
                low = omega arith;
                high = to;
                bare = past.bare;
                behind = past.behind;
                far = past.far;
                none = omega arith;
              })
        ]
    | inr h ↦
        inl (λ n from to here behind.
        let same : n ≡ i = omega arith in
        absurd (both_ways (is_behind symbols i) start
        (subst (λ (m : ℕ). is_behind symbols m ≡ true) same behind)))
  ]

  -- all that such an operand opens stands in its operator's phrase, or nothing is open
  pub weak_stays : (t a b i j : ℕ) → reach_of symbols i ≡ Some 0 → Part symbols t a b (suc i) j
      → is_behind symbols (suc i) ≡ false → IsWeak (suc i) j → suc i < j
      → Stays symbols i j × (stands_in symbols i (suc i) ≡ true)
  weak_stays t a b i j reach p start weak some = (
    λ n low high. elim (weak i n (omega arith) (opened_none symbols i ∙ sym (closed_none symbols i)) low high) [
      | inl quiet ↦
          inl (stands_there symbols 0 i n reach (λ m from to. not_ended m from (omega arith)
          (λ bare behind. quiet m from to bare behind)))
      | inr past ↦ inr past.none
    ],
    stands_there symbols 0 i (suc i) reach (λ m from to. not_ended m from (omega arith)
        (λ bare behind. absurd (both_ways (is_behind symbols (suc i)) start
        (let same : m ≡ suc i = omega arith in
        subst (λ (k : ℕ). is_behind symbols k ≡ true) same behind)))),
  )
    where
      not_ended : (m : ℕ) → i < m → m < j
          → (opened symbols i m ≡ closed symbols i m → is_behind symbols m ≡ true → looseness symbols m ≤ 0)
          → ends symbols 0 i m ≡ false
      not_ended m low high quiet =
          ends_not symbols (is_bare symbols i m) (closes_bracket (symbol_at symbols m)) (is_behind symbols m)
          (is_beyond symbols 0 i m)
          (λ bare. open_there symbols t a b i j m p low high (bare_is symbols i m bare))
          (λ bare behind. le-ltb 0 (looseness symbols m) (quiet (bare_is symbols i m bare) behind))

module _ (x : Setting) where
  weak_again : (room i m j : ℕ) → IsWeak x.symbols i m → Told x.symbols 1 room 11 i m → is_behind x.symbols m ≡ true
      → 11 ≤ looseness x.symbols m → TimesTold x m j → i ≤ m → IsWeak x.symbols i j
  weak_again room i m j weak p behind far q le = λ o n lt bare low high. elim (cases_lt n m) [
    | inl h ↦ weak o n lt bare low h
    | inr h ↦
        let past = inner_past x.symbols room i m n le h p.spanned in
        let own = q.told 0 15 (λ b c. looseness_small x.symbols m) (λ small. absurd (omega arith)) in
        let none = own.spanned.within n h high in
        inr (record {
          place = m;
          low = le;
          high = h;
          bare = p.part.even o lt bare;
          behind = behind;
          far = omega arith;
          none = omega arith;
        })
  ]

  pub sere_weak : {room : ℕ} {r : RawSere} {i j : ℕ} → IsSere x.symbols room 0 r i j → Fresh x i → 3 ≤ i
      → IsWeak x.symbols i j
  sere_weak (s.braces {room = room} {s = r} {i = i} {j = j} a p c) start le =
      let inside = sere_told x p (fresh_brace x i start a) (omega arith) (λ some. ap is_exclamation c) in
      let back : i + 1 ≡ suc i = omega arith in
      weak_round x.symbols i (j + 1) start.behind (λ o n lt bare low high.
      within_brackets x.symbols 15 0 0 i j (ap opens_bracket a) (ap closes_bracket a)
      (subst (λ (m : ℕ). Part x.symbols 15 0 0 m j) back inside.told.part) o n lt bare low (omega arith))
  sere_weak (s.name {room = room} {i = i} a) start le =
      weak_round x.symbols i (i + 1) start.behind (λ o n lt bare low high. absurd (omega arith))
  sere_weak (s.alone {room = room} {i = i} {j = j} c) start le =
      weak_round x.symbols i j start.behind (times_told x c le).round
  sere_weak (s.IsSere.again {room = room} {s = r} {i = i} {m = m} {j = j} p c) start le =
      let a = sere_told x p start le (λ some. absurd (omega arith)) in
      let lt = a.some in
      let far = times_far x c in
      weak_again room i m j (sere_weak p start le) a.told a.behind far.0 (times_told x c (omega arith)) (omega arith)

  -- the `!` behind a sequence
  pub weak_strong : (room i j : ℕ) → IsWeak x.symbols i j → Told x.symbols 1 room 11 i j → i < j
      → At x.symbols j symbol.Exclamation → IsWeak x.symbols i (j + 1)
  weak_strong room i j weak p some at = λ o n lt bare low high. elim (cases_lt n j) [
    | inl h ↦ weak o n lt bare low h
    | inr h ↦
        elim (weak o (j - 1) lt bare (omega arith) (omega arith)) [
          | inl quiet ↦
              inl (λ k from to here behind. elim (cases_lt k j) [
                | inl f ↦ quiet k from (omega arith) here behind
                | inr f ↦
                    let same : j ≡ k = omega arith in
                    let e = loose_at x.symbols j symbol.Exclamation at refl in
                    subst (λ (m : ℕ). looseness x.symbols m ≤ 0) same (omega arith)
              ])
          | inr past ↦
              let to = past.high in
              let same : j ≡ n = omega arith in
              inr (record {
                place = past.place;
                low = past.low;
                high = omega arith;
                bare = past.bare;
                behind = past.behind;
                far = past.far;
                none = subst (λ (m : ℕ). inner x.symbols i m ≡ 0) same
                    (all_ended x.symbols room i j p.spanned j (omega arith));
              })
        ]
  ]
