-- How checks compose, on streams alone: no netlist, no formula.
use Rattle.std.specs.Prelude.{ℕ, zero, suc, ◌≢◌, ◌↔◌, ◌⊎◌, ◌<◌, ◌≤◌, Bool, IsTrue}
use Rattle.std.proofs.Common.{refl, subst, arith, inl, inr}
use Rattle.std.proofs.lemmas.Bool.{cases_lt}
use Rattle.circuit_core.specs.Run.{Stream, On}
use Rattle.circuit_core.specs.Starts.{Open, SomeStart, ComesBy, HasViolated, Pends, Answers}

-- of starts and letters' numbers
abbrev pub Judgement : Type 1
Judgement = (i m : ℕ) → Type 0

pub on_or_off : (s : Stream) (n : ℕ) → On s n ⊎ ¬ On s n
on_or_off s n = number (s n)
  where
    number : (x : ℕ) → (x ≢ 0) ⊎ ¬ (x ≢ 0)
    number zero = inr (λ h. h refl)
    number (suc x) = inl (λ e. omega arith)

abbrev pub NeverBy : Stream → ℕ → Type 0
NeverBy s n = (k : ℕ) → k ≤ n → ¬ On s k

pub comes_or_not : (s : Stream) (n : ℕ) → ComesBy s n ⊎ NeverBy s n
comes_or_not s zero = elim (on_or_off s 0) [
  | inl on ↦ inl (0, omega arith, on)
  | inr off ↦ inr (λ k below. subst (λ (j : ℕ). ¬ On s j) (omega arith) off)
]
comes_or_not s (suc n) = split (comes_or_not s n) (on_or_off s (suc n))
  where
    last : NeverBy s n → ¬ On s (suc n) → (k : ℕ) → k ≤ suc n → (n < k) ⊎ (k ≤ n) → ¬ On s k
    last before now k below (inl late) = subst (λ (j : ℕ). ¬ On s j) (omega arith) now
    last before now k below (inr early) = before k early

    split : ComesBy s n ⊎ NeverBy s n → On s (suc n) ⊎ ¬ On s (suc n) → ComesBy s (suc n) ⊎ NeverBy s (suc n)
    split (inl some) now = inl (some.0, omega arith, some.2)
    split (inr none) (inl on) = inl (suc n, omega arith, on)
    split (inr none) (inr off) = inr (λ k below. last none off k below (cases_lt n k))

pub open_to : (clear : Stream) (i m k : ℕ) → Open clear i m → k ≤ m → Open clear i k
open_to clear i m k all below j from to = all j from (omega arith)

pub open_from : (clear : Stream) (i m k : ℕ) → Open clear i m → i ≤ k → Open clear k m
open_from clear i m k all above j from to = all j (omega arith) to

pub open_one : (clear : Stream) (i : ℕ) → ¬ On clear i → Open clear i i
open_one clear i off k from to = subst (λ (j : ℕ). ¬ On clear j) (omega arith) off

pub open_join : (clear : Stream) (i k m : ℕ) → Open clear i k → Open clear k m → Open clear i m
open_join clear i k m before after j from to = split (cases_lt j k)
  where
    split : (j < k) ⊎ (k ≤ j) → ¬ On clear j
    split (inl early) = before j from (omega arith)
    split (inr late) = after j late to

-- ---- a Boolean: it fails at its start or never

pub bool_answers : (cycles : ℕ) (Weak Full : Judgement) (start clear fail pend : Stream) →
    ((n : ℕ) → n < cycles → On fail n ↔ (On start n × ¬ On clear n × Weak n n)) →
    ((n : ℕ) → n < cycles → ¬ On pend n) →
    ((i m : ℕ) → i ≤ m → m < cycles → Weak i m → Weak i i) →
    ((i m : ℕ) → i ≤ m → m < cycles → Full i m → Weak i i) →
    Answers cycles Weak Full start clear fail pend
bool_answers cycles Weak Full start clear fail pend fails never weak full = record {
  fails = λ n within. (
    (λ come. let now = (fails come.0 (omega arith)).0 come.2 in
        (come.0, come.1, now.0, (come.0, omega arith, come.1, open_one clear come.0 now.1, now.2))),
    (λ some. let bad = some.3 in
        let off = bad.3 some.0 (omega arith) bad.1 in
        let now = weak some.0 bad.0 bad.1 (omega arith) bad.4 in
        (some.0, some.1, (fails some.0 (omega arith)).1 (some.2, off, now))),
  );
  pends = λ n within none. (
    (λ on. absurd (never n within on)),
    (λ some.
        let open_ = open_to clear some.0 n some.0 some.3.0 some.1 in
        let now = full some.0 n some.1 within some.3.1 in
        absurd (none (some.0, some.1, some.2, (some.0, omega arith, some.1, open_, now)))),
  );
}

-- ---- both of two

-- a judgement that holds exactly if one of two does, as far as a refutation goes
abbrev pub IsEither : (P Q R : Judgement) → Type 0
IsEither P Q R = (i m : ℕ) → (Q i m → P i m) × (R i m → P i m) × (¬ Q i m → ¬ R i m → ¬ P i m)

abbrev pub AreJoined : (cycles : ℕ) → (joined one two : Stream) → Type 0
AreJoined cycles joined one two = (n : ℕ) → n < cycles → On joined n ↔ (On one n ⊎ On two n)

pub and_answers : (cycles : ℕ) (Weak Weak1 Weak2 Full Full1 Full2 : Judgement)
    (start clear fail fail1 fail2 pend pend1 pend2 : Stream) →
    Answers cycles Weak1 Full1 start clear fail1 pend1 → Answers cycles Weak2 Full2 start clear fail2 pend2 →
    AreJoined cycles fail fail1 fail2 → AreJoined cycles pend pend1 pend2 →
    IsEither Weak Weak1 Weak2 → IsEither Full Full1 Full2 → Answers cycles Weak Full start clear fail pend
and_answers cycles Weak Weak1 Weak2 Full Full1 Full2 start clear fail fail1 fail2 pend pend1 pend2
    one two fails pends weak full = record {
      fails = λ n within. (comes n within, λ some. came n within some (comes_or_not fail n));
      pends = λ n within none. (
        (λ on. elim ((pends n within).0 on) [
          | inl on1 ↦ (let some = (one.pends n within (λ some1. none (weak1 n some1))).0 on1 in
              (some.0, some.1, some.2, (some.3.0, (full some.0 n).0 some.3.1)))
          | inr on2 ↦ (let some = (two.pends n within (λ some2. none (weak2 n some2))).0 on2 in
              (some.0, some.1, some.2, (some.3.0, (full some.0 n).1 some.3.1)))
        ]),
        (λ some. pended n within none some (on_or_off pend n)),
      );
    }
  where
    weak1 : (n : ℕ) → SomeStart start n (HasViolated Weak1 clear n) → SomeStart start n (HasViolated Weak clear n)
    weak1 n s = (s.0, s.1, s.2, (s.3.0, s.3.1, s.3.2, s.3.3, (weak s.0 s.3.0).0 s.3.4))

    weak2 : (n : ℕ) → SomeStart start n (HasViolated Weak2 clear n) → SomeStart start n (HasViolated Weak clear n)
    weak2 n s = (s.0, s.1, s.2, (s.3.0, s.3.1, s.3.2, s.3.3, (weak s.0 s.3.0).1 s.3.4))

    comes : (n : ℕ) → n < cycles → ComesBy fail n → SomeStart start n (HasViolated Weak clear n)
    comes n within come = elim ((fails come.0 (omega arith)).0 come.2) [
      | inl on1 ↦ weak1 n ((one.fails n within).0 (come.0, come.1, on1))
      | inr on2 ↦ weak2 n ((two.fails n within).0 (come.0, come.1, on2))
    ]

    came : (n : ℕ) → n < cycles → SomeStart start n (HasViolated Weak clear n) → ComesBy fail n ⊎ NeverBy fail n →
        ComesBy fail n
    came n within some (inl come) = come
    came n within some (inr none) =
        let bad = some.3 in
        absurd ((weak some.0 bad.0).2
        (λ w. let c = (one.fails n within).1 (some.0, some.1, some.2, (bad.0, bad.1, bad.2, bad.3, w)) in
        none c.0 c.1 ((fails c.0 (omega arith)).1 (inl c.2)))
        (λ w. let c = (two.fails n within).1 (some.0, some.1, some.2, (bad.0, bad.1, bad.2, bad.3, w)) in
        none c.0 c.1 ((fails c.0 (omega arith)).1 (inr c.2)))
        bad.4)

    pended : (n : ℕ) → n < cycles → ¬ SomeStart start n (HasViolated Weak clear n) →
        SomeStart start n (Pends Full clear n) → On pend n ⊎ ¬ On pend n → On pend n
    pended n within none some (inl on) = on
    pended n within none some (inr off) =
        let first = (one.pends n within (λ s. none (weak1 n s))).1 in
        let second = (two.pends n within (λ s. none (weak2 n s))).1 in
        absurd ((full some.0 n).2
        (λ v. off ((pends n within).1 (inl (first (some.0, some.1, some.2, (some.3.0, v))))))
        (λ v. off ((pends n within).1 (inr (second (some.0, some.1, some.2, (some.3.0, v))))))
        some.3.1)

-- ---- a body that is started only where something holds

abbrev pub IsNarrowed : (cycles : ℕ) (Needs : ℕ → Type 0) → (P Q : Judgement) → Type 0
IsNarrowed cycles Needs P Q = (i m : ℕ) → i ≤ m → m < cycles → P i m ↔ (Needs i × Q i m)

pub narrowed_answers : (cycles : ℕ) (Needs : ℕ → Type 0) (Weak Weak1 Full Full1 : Judgement)
    (start start1 clear fail pend : Stream) → Answers cycles Weak1 Full1 start1 clear fail pend →
    ((n : ℕ) → n < cycles → On start1 n ↔ (On start n × Needs n)) →
    IsNarrowed cycles Needs Weak Weak1 → IsNarrowed cycles Needs Full Full1 →
    Answers cycles Weak Full start clear fail pend
narrowed_answers cycles Needs Weak Weak1 Full Full1 start start1 clear fail pend body starts weak full = record {
  fails = λ n within. (
    (λ come. out n within ((body.fails n within).0 come)),
    (λ some. (body.fails n within).1 (into n within some)),
  );
  pends = λ n within none.
      let same = body.pends n within (λ s. none (out n within s)) in (
        (λ on. let s = same.0 on in
            let here = (starts s.0 (omega arith)).0 s.2 in
            (s.0, s.1, here.0, (s.3.0, (full s.0 n s.1 within).1 (here.1, s.3.1)))),
        (λ s. let here = (full s.0 n s.1 within).0 s.3.1 in
            same.1 (s.0, s.1, (starts s.0 (omega arith)).1 (s.2, here.0), (s.3.0, here.1))),
      );
}
  where
    out : (n : ℕ) → n < cycles → SomeStart start1 n (HasViolated Weak1 clear n) →
        SomeStart start n (HasViolated Weak clear n)
    out n within s =
        let bad = s.3 in
        let here = (starts s.0 (omega arith)).0 s.2 in
        let now = (weak s.0 bad.0 bad.1 (omega arith)).1 (here.1, bad.4) in
        (s.0, s.1, here.0, (bad.0, bad.1, bad.2, bad.3, now))

    into : (n : ℕ) → n < cycles → SomeStart start n (HasViolated Weak clear n) →
        SomeStart start1 n (HasViolated Weak1 clear n)
    into n within s =
        let bad = s.3 in
        let here = (weak s.0 bad.0 bad.1 (omega arith)).0 bad.4 in
        (s.0, s.1, (starts s.0 (omega arith)).1 (s.2, here.0), (bad.0, bad.1, bad.2, bad.3, here.1))

-- ---- a body that is started in each cycle k to which an open start i goes, where a start may wait by itself

-- the judgement holds exactly if the body's does of some such cycle, or the start waits, as far as a refutation goes
pub record IsOfSome (cycles : ℕ) (Goes Waits P Q : Judgement) : Type 0 where
  pub hit : (i m k : ℕ) → i ≤ k → k ≤ m → m < cycles → Goes i k → Q k m → P i m
  pub waits : (i m : ℕ) → i ≤ m → m < cycles → Waits i m → P i m
  pub miss : (i m : ℕ) → i ≤ m → m < cycles → ((k : ℕ) → i ≤ k → k ≤ m → Goes i k → ¬ Q k m) → ¬ Waits i m → ¬ P i m

abbrev pub Never : Judgement
Never i m = ⊥

abbrev pub Always : Judgement
Always i m = Unit {0}

-- some open start meets the judgement
abbrev pub SomeOpen : (start clear : Stream) → Judgement → ℕ → Type 0
SomeOpen start clear P n = SomeStart start n (λ i. Open clear i n × P i n)

pub gate_answers : (cycles : ℕ) (Goes Waits Weak Weak1 Full Full1 : Judgement)
    (start go clear fail pend1 pend : Stream) → Answers cycles Weak1 Full1 go clear fail pend1 →
    ((n : ℕ) → n < cycles → On go n ↔ SomeOpen start clear Goes n) →
    ((n : ℕ) → n < cycles → On pend n ↔ (On pend1 n ⊎ SomeOpen start clear Waits n)) →
    IsOfSome cycles Goes Never Weak Weak1 → IsOfSome cycles Goes Waits Full Full1 →
    Answers cycles Weak Full start clear fail pend
gate_answers cycles Goes Waits Weak Weak1 Full Full1 start go clear fail pend1 pend body starts pends weak full =
    record {
      fails = λ n within. (
        (λ come. out n within ((body.fails n within).0 come)),
        (λ some. came n within some (comes_or_not fail n)),
      );
      pends = λ n within none.
          let same = body.pends n within (λ s. none (out n within s)) in (
            (λ on. elim ((pends n within).0 on) [
              | inl on1 ↦ (let s = same.0 on1 in
                  let from = (starts s.0 (omega arith)).0 s.2 in
                  let now = full.hit from.0 n s.0 from.1 s.1 within from.3.1 s.3.1 in
                  (from.0, omega arith, from.2, (open_join clear from.0 s.0 n from.3.0 s.3.0, now)))
              | inr s ↦ (s.0, s.1, s.2, (s.3.0, full.waits s.0 n s.1 within s.3.1))
            ]),
            (λ s. pended n within s (λ on. same.1 on) (on_or_off pend n)),
          );
    }
  where
    out : (n : ℕ) → n < cycles → SomeStart go n (HasViolated Weak1 clear n) →
        SomeStart start n (HasViolated Weak clear n)
    out n within s =
        let bad = s.3 in
        let from = (starts s.0 (omega arith)).0 s.2 in
        let now = weak.hit from.0 bad.0 s.0 from.1 bad.1 (omega arith) from.3.1 bad.4 in (
          from.0,
          omega arith,
          from.2,
          (bad.0, omega arith, bad.2, open_join clear from.0 s.0 bad.0 from.3.0 bad.3, now),
        )

    came : (n : ℕ) → n < cycles → SomeStart start n (HasViolated Weak clear n) → ComesBy fail n ⊎ NeverBy fail n →
        ComesBy fail n
    came n within s (inl come) = come
    came n within s (inr none) =
        let bad = s.3 in
        absurd (weak.miss s.0 bad.0 bad.1 (omega arith)
        (λ k from to there w.
        let begun = (starts k (omega arith)).1 (s.0, from, s.2, (open_to clear s.0 bad.0 k bad.3 to, there)) in
        let kept = open_from clear s.0 bad.0 k bad.3 from in
        let c = (body.fails n within).1 (k, omega arith, begun, (bad.0, to, bad.2, kept, w)) in
        none c.0 c.1 c.2)
        (λ never. never)
        bad.4)

    pended : (n : ℕ) → n < cycles → SomeStart start n (Pends Full clear n) →
        (SomeStart go n (Pends Full1 clear n) → On pend1 n) → On pend n ⊎ ¬ On pend n → On pend n
    pended n within s same (inl on) = on
    pended n within s same (inr off) =
        absurd (full.miss s.0 n s.1 within
        (λ k from to there v.
        let begun = (starts k (omega arith)).1 (s.0, from, s.2, (open_to clear s.0 n k s.3.0 to, there)) in
        off ((pends n within).1 (inl (same (k, to, begun, (open_from clear s.0 n k s.3.0 from, v))))))
        (λ w. off ((pends n within).1 (inr (s.0, s.1, s.2, (s.3.0, w)))))
        s.3.1)

-- ---- a body that is started in each cycle in which a start is open

pub always_answers : (cycles : ℕ) (Weak Weak1 Full Full1 : Judgement) (start start1 clear fail pend : Stream) →
    Answers cycles Weak1 Full1 start1 clear fail pend →
    ((n : ℕ) → n < cycles → On start1 n ↔ SomeStart start n (λ i. Open clear i n)) →
    IsOfSome cycles Always Never Weak Weak1 → IsOfSome cycles Always Never Full Full1 →
    Answers cycles Weak Full start clear fail pend
always_answers cycles Weak Weak1 Full Full1 start start1 clear fail pend body starts weak full =
    gate_answers cycles Always Never Weak Weak1 Full Full1 start start1 clear fail pend pend body
    (λ n within. let s = starts n within in
    ((λ on. let x = s.0 on in (x.0, x.1, x.2, (x.3, tt))), (λ x. s.1 (x.0, x.1, x.2, x.3.0))))
    (λ n within. ((λ on. inl on), (λ x. elim x [ inl on ↦ on | inr none ↦ absurd none.3.1 ])))
    weak full

-- ---- a gate's own pending, in a strong form

pub strong_waits : (strong : Bool) (Waits : Judgement) (start clear pend1 waits pend : Stream) (n : ℕ) →
    On waits n ↔ SomeOpen start clear Waits n → On pend n ↔ (On pend1 n ⊎ (IsTrue strong × On waits n)) →
    On pend n ↔ (On pend1 n ⊎ SomeOpen start clear (λ i m. IsTrue strong × Waits i m) n)
strong_waits strong Waits start clear pend1 waits pend n some joins = (
  (λ on. elim (joins.0 on) [
    | inl x ↦ inl x
    | inr x ↦ (let s = some.0 x.1 in inr (s.0, s.1, s.2, (s.3.0, (x.0, s.3.1))))
  ]),
  (λ h. joins.1 (elim h [
    | inl x ↦ inl x
    | inr s ↦ inr (s.3.1.0, some.1 (s.0, s.1, s.2, (s.3.0, s.3.1.1)))
  ])),
)
