-- Counts of events since open starts, on streams alone.
use Rattle.std.specs.Prelude.{ℕ, zero, suc, ◌≡◌, ◌≢◌, ◌⊎◌, ◌↔◌, ◌+◌, ◌-◌, ◌<◌, ◌≤◌, Bool, true, false, IsTrue}
use Rattle.std.proofs.Common.{leb, inl, inr, refl, sym, ap, ◌∙◌, subst, arith}
use Rattle.std.proofs.lemmas.Bool.{cases_lt, leb-true, le-leb}
use Rattle.circuit_core.specs.Run.{Stream, Run, On, truth}
use Rattle.circuit_core.specs.Starts.{Open, SomeStart}
use Rattle.strong_obligations.specs.Events.{times, times_to, FromEvent}
use Rattle.strong_obligations.specs.inner.Delays.{IsOpposite}
use Rattle.strong_obligations.specs.inner.Counts.{IsStage, IsCounted, IsCountedBelow, passing}
use Rattle.strong_obligations.proofs.Opens.{on_at, open_here, open_longer, open_shorter}

pub on_or_off : (s : Stream) (n : ℕ) → On s n ⊎ ¬ On s n
on_or_off s n = number (s n)
  where
    number : (x : ℕ) → (x ≢ 0) ⊎ ¬ (x ≢ 0)
    number zero = inr (λ h. h refl)
    number (suc x) = inl (λ e. omega arith)

-- ---- counts

one_if : (x : ℕ) → x ≢ 0 → truth x ≡ 1
one_if zero h = absurd (h refl)
one_if (suc x) h = refl

none_if : (x : ℕ) → ¬ (x ≢ 0) → truth x ≡ 0
none_if zero h = refl
none_if (suc x) h = absurd (h (λ e. omega arith))

-- the count with this cycle is that before it, and one more if it is on
times_now : (on : Stream) (i n : ℕ) → i ≤ n → times_to on i n ≡ times on i (n - i) + truth (on n)
times_now on i n before =
    let e : suc n - i ≡ suc (n - i) = omega arith in
    let here : i + (n - i) ≡ n = omega arith in
    ap (λ (c : ℕ). times on i c) e ∙ ap (λ (k : ℕ). times on i (n - i) + truth (on k)) here

pub times_on : (on : Stream) (i n : ℕ) → i ≤ n → On on n → times_to on i n ≡ suc (times on i (n - i))
times_on on i n before h = let t = times_now on i n before in let o = one_if (on n) h in omega arith

pub times_off : (on : Stream) (i n : ℕ) → i ≤ n → ¬ On on n → times_to on i n ≡ times on i (n - i)
times_off on i n before h = let t = times_now on i n before in let o = none_if (on n) h in omega arith

module _ (on : Stream) (low : ℕ) (P : ℕ → Type 0) (start clear : Stream) where
  -- before cycle n, and with it, an open start has come to so many events, and P held from the `low`-th on
  abbrev Before : (i n : ℕ) → Type 0
  Before i n = (m : ℕ) → i ≤ m → m < n → On on m → low ≤ times_to on i m → P m

  abbrev pub Had : (j n : ℕ) → Type 0
  Had j n = SomeStart start n (λ i. Open clear i n × (times on i (n - i) ≡ j) × Before i n)

  abbrev pub Has : (j n : ℕ) → Type 0
  Has j n = SomeStart start n (λ i. Open clear i n × (times_to on i n ≡ j) × FromEvent on low P i n)

  -- it comes to the j-th in cycle n
  abbrev pub ComesTo : (j n : ℕ) → Type 0
  ComesTo j n = (k : ℕ) × (suc k ≡ j) × Had k n × On on n × (low ≤ j → P n)

  had_new : (j n : ℕ) → ¬ On clear n → j ≡ 0 → On start n → Had j n
  had_new j n off is s =
      let e : n - n ≡ 0 = omega arith in
      (n, omega arith, s, (open_here clear n off, ap (λ (c : ℕ). times on n c) e ∙ sym is, λ m from to. absurd (omega arith)))

  had_first : (j : ℕ) → Had j 0 ↔ ((j ≡ 0 × On start 0) × ¬ On clear 0)
  had_first j = (
    (λ h. let e : 0 - h.0 ≡ 0 = omega arith in ((sym h.3.1 ∙ ap (λ (c : ℕ). times on h.0 c) e, on_at start h.0 0 (omega (arith, h.1)) h.2), h.3.0 0 h.1 (omega arith))),
    (λ p. had_new j 0 p.1 p.0.0 p.0.1),
  )

  had_later : (j n : ℕ) → Had j (suc n) ↔ ((Has j n ⊎ (j ≡ 0 × On start (suc n))) × ¬ On clear (suc n))
  had_later j n = (
    (λ h. (
      elim (cases_lt n h.0) [
        | inl new ↦ (let e : suc n - h.0 ≡ 0 = omega arith in inr (sym h.3.1 ∙ ap (λ (c : ℕ). times on h.0 c) e, on_at start h.0 (suc n) (omega (arith, h.1, new)) h.2))
        | inr old ↦ inl (h.0, old, h.2, (open_shorter clear h.0 n h.3.0, h.3.1, λ m from to. h.3.2 m from (omega arith)))
      ],
      h.3.0 (suc n) h.1 (omega arith),
    )),
    (λ p. elim p.0 [
      | inl old ↦ (old.0, omega (arith, old.1), old.2, (open_longer clear old.0 n old.3.0 p.1, old.3.1, λ m from to. old.3.2 m from (omega arith)))
      | inr new ↦ had_new j (suc n) p.1 new.0 new.1
    ]),
  )

  -- from the cycles before n to those up to n
  with_now : (i n : ℕ) → Before i n → (On on n → low ≤ times_to on i n → P n) → FromEvent on low P i n
  with_now i n before now m from to there late = elim (cases_lt m n) [
    | inl early ↦ before m from early there late
    | inr last ↦ (let e : m ≡ n = omega arith in subst P (sym e) (now (subst (On on) e there) (subst (λ (k : ℕ). low ≤ times_to on i k) e late)))
  ]

  has_now : (j n : ℕ) → Has j n ↔ ((Had j n × ¬ On on n) ⊎ ComesTo j n)
  has_now j n = (
    (λ h. elim (on_or_off on n) [
      | inl there ↦ (let t = times_on on h.0 n h.1 there in
          inr (
            times on h.0 (n - h.0),
            sym t ∙ h.3.1,
            (h.0, h.1, h.2, (h.3.0, refl, λ m from to. h.3.2 m from (omega arith))),
            there,
            λ late. h.3.2 n h.1 (omega arith) there (omega (arith, h.3.1, late)),
          ))
      | inr off ↦ inl ((h.0, h.1, h.2, (h.3.0, sym (times_off on h.0 n h.1 off) ∙ h.3.1, λ m from to. h.3.2 m from (omega arith))), off)
    ]),
    (λ h. elim h [
      | inl stay ↦ (let s = stay.0 in
          (s.0, s.1, s.2, (s.3.0, times_off on s.0 n s.1 stay.1 ∙ s.3.1, with_now s.0 n s.3.2 (λ there. absurd (stay.1 there)))))
      | inr come ↦ (let s = come.2 in
          let t : times_to on s.0 n ≡ j = times_on on s.0 n s.1 come.3 ∙ ap suc s.3.1 ∙ come.1 in
          (s.0, s.1, s.2, (s.3.0, t, with_now s.0 n s.3.2 (λ there late. come.4 (omega (arith, t, late))))))
    ]),
  )

  -- ---- one stage

  pub staged : (cycles j : ℕ) (Begins Comes : ℕ → Type 0) (uncleared quiet live stays : Stream) → IsOpposite cycles clear uncleared → IsOpposite cycles on quiet → IsStage cycles Begins Comes uncleared quiet live stays
      → ((n : ℕ) → n < cycles → Begins n ↔ (j ≡ 0 × On start n)) → ((n : ℕ) → n < cycles → Comes n ↔ ComesTo j n) → (n : ℕ) → n < cycles → (On live n ↔ Had j n) × (On stays n ↔ Has j n)
  staged cycles j Begins Comes uncleared quiet live stays opens quiets stage begins comes n within = (lives n within, stay n within (lives n within))
    where
      stay : (n : ℕ) → n < cycles → On live n ↔ Had j n → On stays n ↔ Has j n
      stay n within is =
          let k = stage.keeps n within in
          let h = has_now j n in
          let q = quiets n within in (
            (λ s. h.1 (elim (k.0 s) [ inl x ↦ inl (is.0 x.0, q.0 x.1) | inr x ↦ inr ((comes n within).0 x) ])),
            (λ s. k.1 (elim (h.0 s) [ inl x ↦ inl (is.1 x.0, q.1 x.1) | inr x ↦ inr ((comes n within).1 x) ])),
          )

      lives : (n : ℕ) → n < cycles → On live n ↔ Had j n
      lives zero within =
          let f = stage.first within in
          let b = begins 0 within in
          let o = opens 0 within in
          let h = had_first j in
          ((λ l. let p = f.0 l in h.1 (b.0 p.0, o.0 p.1)), (λ p. let q = h.0 p in f.1 (b.1 q.0, o.1 q.1)))
      lives (suc n) within =
          let f = stage.later n within in
          let b = begins (suc n) within in
          let o = opens (suc n) within in
          let h = had_later j n in
          let s = stay n (omega arith) (lives n (omega arith)) in (
            (λ l. let p = f.0 l in h.1 (elim p.0 [ inl x ↦ inl (s.0 x) | inr x ↦ inr (b.0 x) ], o.0 p.1)),
            (λ p. let q = h.0 p in f.1 (elim q.0 [ inl x ↦ inl (s.1 x) | inr x ↦ inr (b.1 x) ], o.1 q.1)),
          )

  -- ---- the events that come

  pub come_more : (j n : ℕ) (live come : Stream) (pass : Type 0) → On live n ↔ Had j n → pass ↔ (On on n × (low ≤ suc j → P n)) → On come n ↔ (On live n × pass) → On come n ↔ ComesTo (suc j) n
  come_more j n live come pass lives passes comes = (
    (λ c. let p = comes.0 c in let q = passes.0 p.1 in (j, refl, lives.0 p.0, q.0, q.1)),
    (λ h. let same : h.0 ≡ j = omega (arith, h.1) in comes.1 (lives.1 (subst (λ (k : ℕ). Had k n) same h.2), passes.1 (h.3, h.4))),
  )

  comes_has : (j n : ℕ) → ComesTo j n ↔ (On on n × Has j n)
  comes_has j n = ((λ h. (h.3, (has_now j n).1 (inr h))), (λ p. elim ((has_now j n).0 p.1) [ inl x ↦ absurd (x.1 p.0) | inr x ↦ x ]))

  -- ---- due

  pub counted_first : (first n : ℕ) (due come : Stream) (is_due : Bool) → is_due ≡ leb first 1 → On come n ↔ ComesTo 1 n → On due n ↔ (IsTrue is_due × On come n) → On due n ↔ IsCounted on low P first 1 start clear n
  counted_first first n due come is_due is comes dues = (
    (λ d. let p = dues.0 d in
        let early : first ≤ 1 = leb-true first 1 (sym is ∙ p.0) in
        let q = (comes_has 1 n).0 (comes.0 p.1) in
        let s = q.1 in
        (q.0, (s.0, s.1, s.2, (s.3.0, omega (arith, s.3.1), omega (arith, s.3.1), s.3.2)))),
    (λ h. let s = h.1 in
        let t = times_on on s.0 n s.1 h.0 in
        dues.1 (is ∙ le-leb first 1 (omega (arith, s.3.1, s.3.2)), comes.1 ((comes_has 1 n).1 (h.0, (s.0, s.1, s.2, (s.3.0, omega (arith, s.3.2), s.3.3)))))),
  )

  pub counted_more : (first j n : ℕ) (before due come : Stream) (is_due : Bool) → is_due ≡ leb first (j + 1) → On come n ↔ ComesTo (suc j) n → On before n ↔ IsCounted on low P first j start clear n
      → On due n ↔ (On before n ⊎ (IsTrue is_due × On come n)) → On due n ↔ IsCounted on low P first (suc j) start clear n
  counted_more first j n before due come is_due is comes befores dues = (
    (λ d. elim (dues.0 d) [
      | inl b ↦ (let h = befores.0 b in let s = h.1 in (h.0, (s.0, s.1, s.2, (s.3.0, s.3.1, omega (arith, s.3.2), s.3.3))))
      | inr p ↦ (let early : first ≤ j + 1 = leb-true first (j + 1) (sym is ∙ p.0) in
          let q = (comes_has (suc j) n).0 (comes.0 p.1) in
          let s = q.1 in
          (q.0, (s.0, s.1, s.2, (s.3.0, omega (arith, s.3.1), omega (arith, s.3.1), s.3.2))))
    ]),
    (λ h. let s = h.1 in dues.1 (elim (cases_lt j (times_to on s.0 n)) [
      | inl last ↦ inr (is ∙ le-leb first (j + 1) (omega (arith, s.3.1, s.3.2)), comes.1 ((comes_has (suc j) n).1 (h.0, (s.0, s.1, s.2, (s.3.0, omega (arith, s.3.2, last), s.3.3)))))
      | inr early ↦ inl (befores.1 (h.0, (s.0, s.1, s.2, (s.3.0, s.3.1, early, s.3.3))))
    ])),
  )

  -- ---- waiting

  pub below_first : (n : ℕ) (waiting stays : Stream) → On stays n ↔ Has 0 n → On waiting n ↔ On stays n → On waiting n ↔ IsCountedBelow on low P 1 start clear n
  below_first n waiting stays stay waits = (
    (λ w. let s = stay.0 (waits.0 w) in (s.0, s.1, s.2, (s.3.0, omega (arith, s.3.1), s.3.2))),
    (λ s. waits.1 (stay.1 (s.0, s.1, s.2, (s.3.0, omega (arith, s.3.1), s.3.2)))),
  )

  pub below_more : (j n : ℕ) (before waiting stays : Stream) → On stays n ↔ Has j n → On before n ↔ IsCountedBelow on low P j start clear n → On waiting n ↔ (On before n ⊎ On stays n) → On waiting n ↔ IsCountedBelow on low P (suc j) start clear n
  below_more j n before waiting stays stay befores waits = (
    (λ w. elim (waits.0 w) [
      | inl b ↦ (let s = befores.0 b in (s.0, s.1, s.2, (s.3.0, omega (arith, s.3.1), s.3.2)))
      | inr x ↦ (let s = stay.0 x in (s.0, s.1, s.2, (s.3.0, omega (arith, s.3.1), s.3.2)))
    ]),
    (λ s. waits.1 (elim (cases_lt (times_to on s.0 n) j) [
      | inl early ↦ inl (befores.1 (s.0, s.1, s.2, (s.3.0, early, s.3.2)))
      | inr last ↦ inr (stay.1 (s.0, s.1, s.2, (s.3.0, omega (arith, s.3.1, last), s.3.2)))
    ])),
  )

-- the net by which events pass
pub passes : (run : Run) (n low j late on : ℕ) (is_late : Bool) → is_late ≡ leb low (j + 1) → (On (run late) n → On (run on) n) → On (run (passing is_late late on)) n ↔ (On (run on) n × (low ≤ suc j → On (run late) n))
passes run n low j late on true is lates = ((λ h. (lates h, λ l. h)), (λ p. p.1 (let l : low ≤ j + 1 = leb-true low (j + 1) (sym is) in omega arith)))
passes run n low j late on false is lates = (
  (λ h. (h, λ l. absurd (cc (is, le-leb low (j + 1) (omega (arith, l)))))),
  (λ p. p.0),
)
