-- Where the moves of rows lead, in one cycle.
use Rattle.std.proofs.Common.{◌≡◌, ℕ, ◌+◌, ◌^◌, ◌<◌, Bool, List, length, get_or, slice_get, Some, inl, inr, ◌⊎◌, ◌↔◌}
use Rattle.std.proofs.Common.{refl}
use Rattle.std.proofs.Common.{sym, ap, ◌∙◌, subst, arith}
use Rattle.std.proofs.lemmas.Bool.{cases_lt}
use Rattle.std.proofs.lemmas.Option.{same_Some}
use Rattle.std.proofs.lemmas.List.{get_or-map}
use Rattle.circuit_core.specs.declared.nodes.Net.{Net}
use Rattle.circuit_core.specs.Run.{Run, On}
use Rattle.first_failure.specs.declared.automaton.Next.{Next}
use Rattle.first_failure.specs.declared.automaton.Next.TheVariants.{Fail, Done, Go}
use Rattle.first_failure.specs.declared.automaton.FailRow.{FailRow}
use Rattle.sequence_circuits.specs.declared.states.State.{State}
use Rattle.sequence_circuits.specs.Guards.{numbers}
use Rattle.sequence_circuits.specs.inner.Nets.{live_nets, stream_at}
use Rattle.sequence_circuits.specs.inner.Moves.{Targets, move_number, move_of, IsRowIn, IsMovedTo}
use Rattle.sequence_circuits.proofs.Nets.{on_same}
use Rattle.sequence_circuits.proofs.Doubling.{number_below}

-- a target is a row or the place behind the rows
pub target_inside : (x : Next) (rows s : ℕ) → ((t : ℕ) → x ≡ Go t → t < rows) → Targets x rows s → s < rows + 1
target_inside Fail rows s inside h = omega arith
target_inside Done rows s inside h = absurd h
target_inside (Go t) rows s inside h = let lt : t < rows = inside t refl in omega arith

pub targets_inside : (symbols rows size : ℕ) (row : FailRow) (nexts : List Next) → IsRowIn symbols rows row
    → size ≡ rows + 1 → nexts ≡ row.next → (v s : ℕ) → v < length nexts → Targets (get_or nexts v Fail) rows s
    → s < size
targets_inside symbols rows size row nexts is counted same v s lt h =
    let below : v < length row.next = subst (λ (xs : List Next). v < length xs) same lt in
    let there : Targets (get_or row.next v Fail) rows s =
    subst (λ (xs : List Next). Targets (get_or xs v Fail) rows s) same h in
    let inside : s < rows + 1 = target_inside (get_or row.next v Fail) rows s (λ t e. is.inside v t below e) there in
    omega arith

pub to_fail : (A B C : Type 0) (x : Next) (failure s : ℕ) → x ≡ Fail → A ↔ (B ⊎ ((failure ≡ s) × C))
    → A ↔ (B ⊎ (Targets x failure s × C))
to_fail A B C x failure s is h = subst (λ (y : Next). A ↔ (B ⊎ (Targets y failure s × C))) (sym is) h

pub to_row : (A B C : Type 0) (x : Next) (t failure s : ℕ) → x ≡ Go t → A ↔ (B ⊎ ((t ≡ s) × C))
    → A ↔ (B ⊎ (Targets x failure s × C))
to_row A B C x t failure s is h = subst (λ (y : Next). A ↔ (B ⊎ (Targets y failure s × C))) (sym is) h

pub to_done : (A C : Type 0) (x : Next) (failure s : ℕ) → x ≡ Done → A ↔ (A ⊎ (Targets x failure s × C))
to_done A C x failure s is =
    subst (λ (y : Next). A ↔ (A ⊎ (Targets y failure s × C))) (sym is)
    ((λ h. inl h), (λ h. elim h [ inl a ↦ a | inr b ↦ absurd b.0 ]))

-- the moves taken, each where its valuation is the one of the cycle, are the move of the cycle's valuation
pub row_moves : (first now Live : Type 0) (run : Run) (n : ℕ) (row : FailRow) (nexts : List Next) (symbols : List ℕ)
    (taken taken1 : List Net) (values : ℕ → Bool) (failure s : ℕ) → nexts ≡ row.next → symbols ≡ row.symbols
    → taken1 ≡ taken → length row.next ≡ 2 ^ length row.symbols
    → ((v : ℕ) → v < 2 ^ length symbols
    → On (stream_at run (numbers taken) v) n ↔ (Live × (move_number values symbols ≡ v)))
    → now ↔ (first ⊎ ((v : ℕ) × (v < length nexts) × (Targets (get_or nexts v Fail) failure s
    × On (stream_at run (numbers taken1) v) n)))
    → now ↔ (first ⊎ (Live × Targets (move_of row values) failure s))
row_moves first now Live run n row nexts symbols taken taken1 values failure s is_nexts is_symbols is_taken size
    takes_in nows_in = (
      (λ h. elim (nows.0 h) [
        | inl f ↦ inl f
        | inr x ↦ (let t = (takes x.0 (omega (arith, x.1, size))).0 x.2.1 in
            inr (t.0, subst (λ (v : ℕ). Targets (get_or row.next v Fail) failure s) (sym t.1) x.2.0))
      ]),
      (λ h. elim h [
        | inl f ↦ nows.1 (inl f)
        | inr x ↦ nows.1 (inr (m, omega (arith, inside, size), (x.1, (takes m inside).1 (x.0, refl))))
      ]),
    )
  where
    m : ℕ
    m = move_number values row.symbols

    inside : m < 2 ^ length row.symbols
    inside = number_below values row.symbols

    takes : (v : ℕ) → v < 2 ^ length row.symbols
        → On (stream_at run (numbers taken) v) n ↔ (Live × (move_number values row.symbols ≡ v))
    takes = subst (λ (ss : List ℕ). (v : ℕ) → v < 2 ^ length ss
        → On (stream_at run (numbers taken) v) n ↔ (Live × (move_number values ss ≡ v))) is_symbols takes_in

    nows : now ↔ (first ⊎ ((v : ℕ) × (v < length row.next) × (Targets (get_or row.next v Fail) failure s
        × On (stream_at run (numbers taken) v) n)))
    nows = subst (λ (xs : List Next). now ↔ (first ⊎ ((v : ℕ) × (v < length xs)
        × (Targets (get_or xs v Fail) failure s × On (stream_at run (numbers taken) v) n)))) is_nexts
        (subst (λ (ks : List Net). now ↔ (first ⊎ ((v : ℕ) × (v < length nexts)
        × (Targets (get_or nexts v Fail) failure s × On (stream_at run (numbers ks) v) n)))) is_taken nows_in)

-- a row before place i + 1 is one before place i, or the one at place i
pub rows_more : (run : Run) (n : ℕ) (rows : List FailRow) (i : ℕ) (row : FailRow) (states : List State) (d : State)
    (values : ℕ → Bool) (failure s : ℕ) (first before now : Type 0) → slice_get rows i ≡ Some row → i < length states
    → before ↔ (first ⊎ IsMovedTo i rows (λ r. On (stream_at run (live_nets states) r) n) values failure s)
    → now ↔ (before ⊎ (On (run (get_or states i d).live.0) n × Targets (move_of row values) failure s))
    → now ↔ (first ⊎ IsMovedTo (i + 1) rows (λ r. On (stream_at run (live_nets states) r) n) values failure s)
rows_more run n rows i row states d values failure s first before now at lt befores nows = (
  (λ h. elim (nows.0 h) [
    | inl b ↦ elim (befores.0 b) [ inl f ↦ inl f | inr x ↦ inr (x.0, omega (arith, x.1), x.2, x.3, x.4, x.5) ]
    | inr t ↦ inr (i, omega arith, row, at, on_same run n _ _ (sym here) t.0, t.1)
  ]),
  (λ h. elim h [
    | inl f ↦ nows.1 (inl (befores.1 (inl f)))
    | inr x ↦ elim (cases_lt x.0 i) [
      | inl below ↦ nows.1 (inl (befores.1 (inr (x.0, below, x.2, x.3, x.4, x.5))))
      | inr ge ↦ (let there : x.0 ≡ i = omega (arith, x.1, ge) in
          let same : x.2 ≡ row = same_Some x.2 row (sym x.3 ∙ ap (λ (t : ℕ). slice_get rows t) there ∙ at) in
          nows.1 (inr (
            on_same run n _ _ (ap (λ (t : ℕ). get_or (live_nets states) t 0) there ∙ here) x.4,
            subst (λ (r : FailRow). Targets (move_of r values) failure s) same x.5,
          )))
    ]
  ]),
)
  where
    here : get_or (live_nets states) i 0 ≡ (get_or states i d).live.0
    here = get_or-map (λ (h : State). h.live.0) states i d 0 lt

pub none_first : (first now rest : Type 0) → ¬ first → now ↔ (first ⊎ rest) → now ↔ rest
none_first first now rest none h =
    ((λ x. elim (h.0 x) [ inl f ↦ absurd (none f) | inr r ↦ r ]), (λ r. h.1 (inr r)))

-- below the failure's place a target is a row; at it, the failure
pub target_row : (x : Next) (rows s : ℕ) → s < rows → Targets x rows s ↔ (x ≡ Go s)
target_row Fail rows s lt = ((λ h. absurd (omega arith)), (λ e. absurd (cc)))
target_row Done rows s lt = ((λ h. absurd h), (λ e. absurd (cc)))
target_row (Go t) rows s lt = ((λ h. ap (λ (k : ℕ). Go k) h), (λ e. cc))

pub target_failure : (x : Next) (rows : ℕ) → ((t : ℕ) → x ≡ Go t → t < rows) → Targets x rows rows ↔ (x ≡ Fail)
target_failure Fail rows inside = ((λ h. refl), (λ e. refl))
target_failure Done rows inside = ((λ h. absurd h), (λ e. absurd (cc)))
target_failure (Go t) rows inside =
    let lt : t < rows = inside t refl in ((λ h. absurd (omega arith)), (λ e. absurd (cc)))
