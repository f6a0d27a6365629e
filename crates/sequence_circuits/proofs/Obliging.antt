-- Runs of an automaton of rows are paths from row to row, and maybe at the end to the failure behind them.
use Rattle.std.proofs.Common.{◌≡◌, ℕ, zero, suc, ◌+◌, ◌-◌, ◌<◌, ◌≤◌, ◌^◌, Bool, List, [], ◌∷◌, length, get_or}
use Rattle.std.proofs.Common.{slice_get, Option, Some, Contains, All, inl, inr, ◌⊎◌, ◌↔◌, refl, sym, ap, ◌∙◌}
use Rattle.std.proofs.Common.{subst}
use Rattle.std.proofs.Common.{arith}
use Rattle.std.proofs.lemmas.Option.{slice_get-get_or}
use Rattle.circuit_core.specs.Run.{Stream, On}
use Rattle.circuit_core.specs.Starts.{Open, Answers}
use Rattle.first_failure.specs.declared.automaton.Next.{Next}
use Rattle.first_failure.specs.declared.automaton.Next.TheVariants.{Fail, Done, Go}
use Rattle.first_failure.specs.declared.automaton.FailRow.{FailRow}
use Rattle.first_failure.specs.declared.automaton.FailAuto.{FailAuto}
use Rattle.first_failure.specs.FirstFailure.{if_there, next_in, next_at, lead, IsWhole, IsWholeRow}
use Rattle.sequence_circuits.specs.Guards.{cycles_from}
use Rattle.sequence_circuits.specs.Obligation.{HasFailed, GoesOn}
use Rattle.sequence_circuits.specs.inner.Moves.{Targets, move_number, move_of, IsRowIn, IsMovedTo}
use Rattle.sequence_circuits.proofs.OneHot.{Path, Comes}
use Rattle.sequence_circuits.proofs.Doubling.{number_below}
use Rattle.sequence_circuits.proofs.Targeting.{target_row, target_failure}

-- ---- rows

there_or : (nexts : List Next) (v : ℕ) → if_there (slice_get nexts v) ≡ get_or nexts v Fail
there_or [] v = refl
there_or (x ∷ nexts) zero = refl
there_or (x ∷ nexts) (suc v) = there_or nexts v

-- where a row's values lead
move_at : (auto : FailAuto) (r : ℕ) (row : FailRow) (values : ℕ → Bool) → slice_get auto.rows r ≡ Some row
    → next_at auto (Go r) values ≡ move_of row values
move_at auto r row values at =
    ap (λ (o : Option FailRow). next_in o values) at ∙ there_or row.next (move_number values row.symbols)

contains_at : (nexts : List Next) (v : ℕ) (x : Next) → v < length nexts → get_or nexts v Fail ≡ x → Contains nexts x
contains_at [] v x lt is = absurd (omega arith)
contains_at (y ∷ nexts) zero x lt is = (0, omega arith, is)
contains_at (y ∷ nexts) (suc v) x lt is =
    let r = contains_at nexts v x (omega arith) is in (suc r.0, omega (arith, r.1), r.2)

pub rows_in : (auto : FailAuto) (symbols : ℕ) → IsWhole auto
    → All (λ row. All (λ s. s < symbols) row.symbols) auto.rows
    → All (IsRowIn symbols (length auto.rows)) auto.rows
rows_in auto symbols whole guarded k d lt =
    let row = get_or auto.rows k d in
    let is : IsWholeRow auto row = whole.each k d lt in
    record {
      guarded = guarded k d lt;
      size = is.entries;
      inside = λ v t below e. is.named t (contains_at row.next v (Go t) below e);
    }

-- ---- paths

next_cases : (x : Next) → (x ≡ Fail) ⊎ ((x ≡ Done) ⊎ ((t : ℕ) × (x ≡ Go t)))
next_cases Fail = inl refl
next_cases Done = inr (inl refl)
next_cases (Go t) = inr (inr (t, refl))

done_stays : (auto : FailAuto) (w : List (ℕ → Bool)) → lead auto Done w ≡ Done
done_stays auto [] = refl
done_stays auto (a ∷ w) = done_stays auto w

fail_stays : (auto : FailAuto) (w : List (ℕ → Bool)) → lead auto Fail w ≡ Fail
fail_stays auto [] = refl
fail_stays auto (a ∷ w) = fail_stays auto w

fail-done : Fail ≡ Done → ⊥
fail-done e = cc

fail-go : (t : ℕ) → Fail ≡ Go t → ⊥
fail-go t e = cc

done-go : (t : ℕ) → Done ≡ Go t → ⊥
done-go t e = cc

-- the move of row s in cycle n leads to t
abbrev pub RowSteps : FailAuto → (values : ℕ → ℕ → Bool) → (s t n : ℕ) → Type 0
RowSteps auto values s t n = Targets (next_at auto (Go s) (values n)) (length auto.rows) t

-- each row leads to rows
abbrev pub Inside : FailAuto → Type 0
Inside auto = (s t : ℕ) (a : ℕ → Bool) → s < length auto.rows → next_at auto (Go s) a ≡ Go t → t < length auto.rows

pub inside_of : (auto : FailAuto) (symbols : ℕ) → All (IsRowIn symbols (length auto.rows)) auto.rows → Inside auto
inside_of auto symbols all s t a lt goes =
    let row = get_or auto.rows s none in
    let is : IsRowIn symbols (length auto.rows) row = all s none lt in
    let m : ℕ = move_number a row.symbols in
    let below : m < 2 ^ length row.symbols = number_below a row.symbols in
    is.inside m t (omega (arith, is.size, below))
    (sym (move_at auto s row a (slice_get-get_or auto.rows s none lt)) ∙ goes)
  where
    none : FailRow
    none = record { symbols = []; next = [] }

pub rows_step : (auto : FailAuto) (values : ℕ → ℕ → Bool) (live : ℕ → Type 0) (t n : ℕ)
    → IsMovedTo (length auto.rows) auto.rows live (values n) (length auto.rows) t
    ↔ ((s : ℕ) × (s < length auto.rows) × (live s × RowSteps auto values s t n))
rows_step auto values live t n = (
  (λ x. (
    x.0,
    x.1,
    (
      x.4,
      subst (λ (y : Next). Targets y (length auto.rows) t)
          (sym (move_at auto x.0 x.2 (values n) x.3)) x.5,
    ),
  )),
  (λ x. let row = get_or auto.rows x.0 none in
      let at : slice_get auto.rows x.0 ≡ Some row = slice_get-get_or auto.rows x.0 none x.1 in (
        x.0,
        x.1,
        row,
        at,
        x.2.0,
        subst (λ (y : Next). Targets y (length auto.rows) t)
            (move_at auto x.0 row (values n) at) x.2.1,
      )),
)
  where
    none : FailRow
    none = record { symbols = []; next = [] }

module _ (auto : FailAuto) (values : ℕ → ℕ → Bool) where
  abbrev Steps : (s t n : ℕ) → Type 0
  Steps = RowSteps auto values

  -- the run from row s, with the values of cycle i and of so many cycles after it
  abbrev after : (s i count : ℕ) → Next
  after s i count = lead auto (Go s) (cycles_from values i (suc count))

  goes : Inside auto → (count s t i : ℕ) → s < length auto.rows → after s i count ≡ Go t
      → (t < length auto.rows) × Path (length auto.rows) Steps s t i count
  goes inside zero s t i below is =
      let lt : t < length auto.rows = inside s t (values i) below is in
      (lt, (target_row (next_at auto (Go s) (values i)) (length auto.rows) t lt).1 is)
  goes inside (suc count) s t i below is =
      elim (next_cases (next_at auto (Go s) (values i))) [
        | inl failed ↦ absurd (fail-go t (sym (fail_stays auto (cycles_from values (suc i) (suc count)))
            ∙ subst (λ (x : Next). lead auto x (cycles_from values (suc i) (suc count)) ≡ Go t) failed is))
        | inr other ↦ elim other [
          | inl done ↦ absurd (done-go t (sym (done_stays auto (cycles_from values (suc i) (suc count)))
              ∙ subst (λ (x : Next). lead auto x (cycles_from values (suc i) (suc count)) ≡ Go t) done is))
          | inr went ↦ (let u : ℕ = went.0 in
              let lt : u < length auto.rows = inside s u (values i) below went.1 in
              let more = goes inside count u t (suc i) lt
              (subst (λ (x : Next). lead auto x (cycles_from values (suc i) (suc count)) ≡ Go t) went.1 is) in (
                more.0,
                (
                  u,
                  lt,
                  (
                    (target_row (next_at auto (Go s) (values i)) (length auto.rows) u lt).1 went.1,
                    more.1,
                  ),
                ),
              ))
        ]
      ]

  went_to : (count s t i : ℕ) → t < length auto.rows → Path (length auto.rows) Steps s t i count
      → after s i count ≡ Go t
  went_to zero s t i lt path = (target_row (next_at auto (Go s) (values i)) (length auto.rows) t lt).0 path
  went_to (suc count) s t i lt (u, below, (step, path)) =
      let is : next_at auto (Go s) (values i) ≡ Go u =
      (target_row (next_at auto (Go s) (values i)) (length auto.rows) u below).0 step in
      subst (λ (x : Next). lead auto x (cycles_from values (suc i) (suc count)) ≡ Go t) (sym is)
      (went_to count u t (suc i) lt path)

  leads_to_fail : Inside auto → (count s i : ℕ) → s < length auto.rows → after s i count ≡ Fail
      → (j : ℕ) × (j ≤ count) × Path (length auto.rows) Steps s (length auto.rows) i j
  leads_to_fail inside zero s i below is = (
    0,
    omega arith,
    (target_failure (next_at auto (Go s) (values i)) (length auto.rows) (λ t e. inside s t (values i) below e)).1 is,
  )
  leads_to_fail inside (suc count) s i below is =
      elim (next_cases (next_at auto (Go s) (values i))) [
        | inl failed ↦ (
          0,
          omega arith,
          (target_failure (next_at auto (Go s) (values i)) (length auto.rows)
              (λ t e. inside s t (values i) below e)).1 failed,
        )
        | inr other ↦ elim other [
          | inl done ↦ absurd (fail-done (sym
              (subst (λ (x : Next). lead auto x (cycles_from values (suc i) (suc count)) ≡ Fail) done is)
              ∙ done_stays auto (cycles_from values (suc i) (suc count))))
          | inr went ↦ (let u : ℕ = went.0 in
              let lt : u < length auto.rows = inside s u (values i) below went.1 in
              let more = leads_to_fail inside count u (suc i) lt
              (subst (λ (x : Next). lead auto x (cycles_from values (suc i) (suc count)) ≡ Fail) went.1 is) in (
                suc more.0,
                omega (arith, more.1),
                (
                  u,
                  lt,
                  ((target_row (next_at auto (Go s) (values i)) (length auto.rows) u lt).1 went.1, more.2),
                ),
              ))
        ]
      ]

  failed_in : Inside auto → (count s i : ℕ) → s < length auto.rows
      → Path (length auto.rows) Steps s (length auto.rows) i count → after s i count ≡ Fail
  failed_in inside zero s i below path =
      (target_failure (next_at auto (Go s) (values i)) (length auto.rows) (λ t e. inside s t (values i) below e)).0 path
  failed_in inside (suc count) s i below (u, lt, (step, path)) =
      let is : next_at auto (Go s) (values i) ≡ Go u =
      (target_row (next_at auto (Go s) (values i)) (length auto.rows) u lt).0 step in
      subst (λ (x : Next). lead auto x (cycles_from values (suc i) (suc count)) ≡ Fail) (sym is)
      (failed_in inside count u (suc i) lt path)

  abbrev Came : (start clear : Stream) (t n : ℕ) → Type 0
  Came start clear t n = Comes (length auto.rows) Steps start clear t n

  counted : (i m : ℕ) → i ≤ m → suc m - i ≡ suc (m - i)
  counted i m le = omega arith

  pub answers : Inside auto → 0 < length auto.rows → (cycles : ℕ) (start clear fail pend : Stream) (arrive : ℕ → Stream)
      → ((t n : ℕ) → t < length auto.rows + 1 → n < cycles → On (arrive t) n ↔ Came start clear t n)
      → ((n : ℕ) → On fail n ↔ On (arrive (length auto.rows)) n)
      → ((n : ℕ) → n < cycles → On pend n ↔ ((t : ℕ) × (t < length auto.rows) × On (arrive t) n))
      → Answers cycles (HasFailed auto values) (GoesOn auto values) start clear fail pend
  answers inside some cycles start clear fail pend arrive arrives is_fail is_pend = record {
    fails = λ n within. (
      (λ come. let k : ℕ = come.0 in
          let x = (arrives (length auto.rows) k (omega arith) (omega (arith, come.1))).0 ((is_fail k).0 come.2) in
          let i : ℕ = x.0 in
          let failed : HasFailed auto values i k =
          subst (λ (c : ℕ). lead auto (Go 0) (cycles_from values i c) ≡ Fail) (sym (counted i k x.1))
          (failed_in inside (k - i) 0 i some x.3.1) in
          (i, omega (arith, x.1, come.1), x.2, (k, x.1, come.1, x.3.0, failed))),
      (λ x. let i : ℕ = x.0 in
          let m : ℕ = x.3.0 in
          let r = leads_to_fail inside (m - i) 0 i some
          (subst (λ (c : ℕ). lead auto (Go 0) (cycles_from values i c) ≡ Fail) (counted i m x.3.1) x.3.4) in
          let k : ℕ = i + r.0 in
          let up : k ≤ m = omega (arith, r.1, x.3.1) in
          let open_ : Open clear i k = (λ j from to. x.3.3 j from (omega (arith, up))) in
          let same : r.0 ≡ k - i = omega arith in (
            k,
            omega (arith, up, x.3.2),
            (is_fail k).1
                ((arrives (length auto.rows) k (omega arith) (omega (arith, up, x.3.2))).1 (
                  i,
                  omega arith,
                  x.2,
                  (
                    open_,
                    subst
                        (λ (c : ℕ). Path (length auto.rows) Steps 0 (length auto.rows) i c) same r.2,
                  ),
                )),
          )),
    );
    pends = λ n within none. (
      (λ on. let p = (is_pend n within).0 on in
          let x = (arrives p.0 n (omega (arith, p.1)) within).0 p.2 in
          let i : ℕ = x.0 in (
            i,
            x.1,
            x.2,
            (
              x.3.0,
              (
                p.0,
                subst (λ (c : ℕ). lead auto (Go 0) (cycles_from values i c) ≡ Go p.0) (sym (counted i n x.1))
                    (went_to (n - i) 0 p.0 i p.1 x.3.1),
              ),
            ),
          )),
      (λ x. let i : ℕ = x.0 in
          let t : ℕ = x.3.1.0 in
          let r = goes inside (n - i) 0 t i some
          (subst (λ (c : ℕ). lead auto (Go 0) (cycles_from values i c) ≡ Go t) (counted i n x.1) x.3.1.1) in
          (is_pend n within).1 (t, r.0, (arrives t n (omega (arith, r.0)) within).1 (i, x.1, x.2, (x.3.0, r.1)))),
    );
  }
