-- Where repetitions and sequences end, and with which symbols they begin.
use Rattle.std.proofs.Common.{◌≡◌, ℕ, ◌+◌, ◌<◌, ◌≤◌, ◌⊎◌, inl, inr, Bool, true, false, ◌||◌, Option, List, length, refl}
use Rattle.std.proofs.Common.{arith}
use Rattle.psl_grammar.specs.declared.symbols.Symbol.{Symbol}
use Rattle.psl_grammar.specs.declared.symbols.Symbol.TheVariants as symbol
use Rattle.psl_grammar.specs.Symbols.{symbol_at, begins_sequence, sere_level, is_pick}
use Rattle.psl_grammar.specs.RawSere.{RawSere}
use Rattle.psl_grammar.specs.SereGrammar.{IsCounts, single, range, IsTimes, any, some, IsPick, first, IsTimed, once}
use Rattle.psl_grammar.specs.SereGrammar.{picked, IsSere, braces, name, alone, timed, joins, looser}
use Rattle.psl_grammar.specs.SereGrammar as grammar
use Rattle.unit_reader.specs.inner.Steps.{is}
use Rattle.unit_reader.specs.inner.SereReaders.{is_times}
use Rattle.unit_reader.proofs.SymbolTests.{there, is_same, is_self}
use Rattle.unit_reader.proofs.ExprFacts as expr
use Rattle.unit_reader.proofs.ExprFacts.{begins_apart}

either_true : (a b : Bool) → a || b ≡ true → (a ≡ true) ⊎ (b ≡ true)
either_true true b h = inl refl
either_true false b h = inr h

left_true : (a b : Bool) → a ≡ true → a || b ≡ true
left_true true b h = refl
left_true false b h = absurd (cc)

right_true : (a b : Bool) → b ≡ true → a || b ≡ true
right_true true b h = refl
right_true false b h = h

pub times_are : (s : Symbol) → is_times s ≡ true → (s ≡ symbol.RepeatOpen) ⊎ (s ≡ symbol.RepeatPlus)
times_are s h =
    elim (either_true (is s symbol.RepeatOpen) (is s symbol.RepeatPlus) h)
    [ inl a ↦ inl (is_same s symbol.RepeatOpen a) | inr b ↦ inr (is_same s symbol.RepeatPlus b) ]

pub open_times : (s : Symbol) → s ≡ symbol.RepeatOpen → is_times s ≡ true
open_times s h = left_true (is s symbol.RepeatOpen) (is s symbol.RepeatPlus) (is_self s symbol.RepeatOpen h)

pub plus_times : (s : Symbol) → s ≡ symbol.RepeatPlus → is_times s ≡ true
plus_times s h = right_true (is s symbol.RepeatOpen) (is s symbol.RepeatPlus) (is_self s symbol.RepeatPlus h)

pub times_level : (s : Symbol) → is_times s ≡ true → sere_level s ≡ 0
times_level s h = elim (times_are s h) [ inl a ↦ rw a refl | inr b ↦ rw b refl ]

pub times_begin_sequence : (s : Symbol) → is_times s ≡ true → begins_sequence s ≡ true
times_begin_sequence s h = elim (times_are s h) [ inl a ↦ rw a refl | inr b ↦ rw b refl ]

pub times_no_pick : (s : Symbol) → is_times s ≡ true → is_pick s ≡ false
times_no_pick s h = elim (times_are s h) [ inl a ↦ rw a refl | inr b ↦ rw b refl ]

pick_level : (s : Symbol) → is_pick s ≡ true → sere_level s ≡ 0
pick_level symbol.GotoOpen h = refl
pick_level symbol.EqualRepeatOpen h = refl
pick_level _ h = absurd (cc)

decided : (b : Bool) → (b ≡ true → ⊥) → b ≡ false
decided true not = absurd (not refl)
decided false not = refl

pub ends_times : (s : Symbol) → 0 < sere_level s → is_times s ≡ false
ends_times s h = decided (is_times s) (λ t. let z = times_level s t in omega (arith, z))

pub ends_pick : (s : Symbol) → 0 < sere_level s → is_pick s ≡ false
ends_pick s h = decided (is_pick s) (λ t. let z = pick_level s t in omega (arith, z))

pub no_level_one : (s : Symbol) → sere_level s ≡ 1 → ⊥
no_level_one symbol.RepeatOpen h = omega (arith, h)
no_level_one symbol.RepeatPlus h = omega (arith, h)
no_level_one symbol.GotoOpen h = omega (arith, h)
no_level_one symbol.EqualRepeatOpen h = omega (arith, h)
no_level_one symbol.Within h = omega (arith, h)
no_level_one symbol.And h = omega (arith, h)
no_level_one symbol.AndAnd h = omega (arith, h)
no_level_one symbol.Or h = omega (arith, h)
no_level_one symbol.Colon h = omega (arith, h)
no_level_one symbol.Semicolon h = omega (arith, h)
no_level_one _ h = omega (arith, h)

module _ (symbols : List Symbol) where
  pub counts_bounds : {high : Option ℕ} {i j : ℕ} → IsCounts symbols high i j → (i < j) × (j ≤ length symbols)
  counts_bounds (single {i = i} a b) = (
    omega arith,
    let l = there symbols (i + 1) symbol.CloseBracket b (λ p. cc) in
        omega arith,
  )
  counts_bounds (range {i = i} a b c d) = (
    omega arith,
    let l = there symbols (i + 3) symbol.CloseBracket d (λ p. cc) in
        omega arith,
  )

  pub times_bounds : {low high : Option ℕ} {i j : ℕ} → IsTimes symbols low high i j → (i < j) × (j ≤ length symbols)
  times_bounds (any {i = i} a b) = (
    omega arith,
    let l = there symbols (i + 1) symbol.CloseBracket b (λ p. cc) in
        omega arith,
  )
  times_bounds (grammar.IsTimes.counted a c) = let b = counts_bounds c in (omega arith, b.1)
  times_bounds (some {i = i} a) = (omega arith, let l = there symbols i symbol.RepeatPlus a (λ p. cc) in omega arith)

  pub times_begin : {low high : Option ℕ} {i j : ℕ} → IsTimes symbols low high i j → is_times (symbol_at symbols i)
      ≡ true
  times_begin (any {i = i} a b) = open_times (symbol_at symbols i) a
  times_begin (grammar.IsTimes.counted {i = i} a c) = open_times (symbol_at symbols i) a
  times_begin (some {i = i} a) = plus_times (symbol_at symbols i) a

  pub pick_bounds : {low high : Option ℕ} {i j : ℕ} → IsPick symbols low high i j → (i < j) × (j ≤ length symbols)
  pick_bounds (first {i = i} a b) = (
    omega arith,
    let l = there symbols (i + 1) symbol.CloseBracket b (λ p. cc) in
        omega arith,
  )
  pick_bounds (grammar.IsPick.counted a c) = let b = counts_bounds c in (omega arith, b.1)

  pub pick_begin : {low high : Option ℕ} {i j : ℕ} → IsPick symbols low high i j → is_pick (symbol_at symbols i) ≡ true
  pick_begin (first a b) = rw a refl
  pick_begin (grammar.IsPick.counted a c) = a

  pub timed_bounds : {room : ℕ} {braced : Bool} {s : RawSere} {i j : ℕ} → IsTimed symbols room braced s i j → (i < j)
      × (j ≤ length symbols)
  timed_bounds (once {e = e} {i = i} {j = j} p) = expr.bounds symbols 10 e i j p.0
  timed_bounds (picked {e = e} {i = i} {m = m} p c) = let a = expr.bounds symbols 10 e i m p.0 in let b =
      pick_bounds c in (omega arith, b.1)
  timed_bounds (grammar.IsTimed.again p c) = let a = timed_bounds p in let b = times_bounds c in (omega arith, b.1)

  pub timed_apart : {room : ℕ} {braced : Bool} {s : RawSere} {i j : ℕ} → IsTimed symbols room braced s i j
      → begins_sequence (symbol_at symbols i) ≡ false
  timed_apart (once p) = begins_apart symbols p.0
  timed_apart (picked p c) = begins_apart symbols p.0
  timed_apart (grammar.IsTimed.again p c) = timed_apart p

  pub sere_bounds : {room level : ℕ} {s : RawSere} {i j : ℕ} → IsSere symbols room level s i j → (i < j)
      × (j ≤ length symbols)
  sere_bounds (braces {j = j} a p z) = (
    let b = sere_bounds p in omega arith,
    let l = there symbols j symbol.CloseBrace
        z (λ p. cc) in omega arith,
  )
  sere_bounds (name {i = i} a) = (omega arith, let l = there symbols i symbol.SequenceName a (λ p. cc) in omega arith)
  sere_bounds (alone c) = times_bounds c
  sere_bounds (grammar.IsSere.again p c) = let a = sere_bounds p in let b = times_bounds c in (omega arith, b.1)
  sere_bounds (timed p) = timed_bounds p
  sere_bounds (joins lt l o r) = let a = sere_bounds l in let b = sere_bounds r in (omega arith, b.1)
  sere_bounds (looser p) = sere_bounds p

  tight_starts : {room level : ℕ} {s : RawSere} {i j : ℕ} → IsSere symbols room level s i j → level ≡ 0
      → begins_sequence (symbol_at symbols i) ≡ true
  tight_starts (braces a p z) none = rw a refl
  tight_starts (name a) none = rw a refl
  tight_starts (alone {i = i} c) none = times_begin_sequence (symbol_at symbols i) (times_begin c)
  tight_starts (grammar.IsSere.again p c) none = tight_starts p refl
  tight_starts (timed p) none = absurd (omega (arith, none))
  tight_starts (joins lt l o r) none = absurd (omega (arith, none))
  tight_starts (looser p) none = absurd (omega (arith, none))

  pub tight_begins : {room : ℕ} {s : RawSere} {i j : ℕ} → IsSere symbols room 0 s i j
      → begins_sequence (symbol_at symbols i) ≡ true
  tight_begins p = tight_starts p refl
