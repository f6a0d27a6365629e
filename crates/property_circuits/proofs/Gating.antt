-- Checks behind gates: from the check of a body that a gate starts to the check of the whole.
use Rattle.std.specs.Prelude.{ℕ, suc, ◌≡◌, ◌≢◌, ◌↔◌, ◌⊎◌, ◌<◌, ◌≤◌, ◌+◌, ◌-◌, Bool, IsTrue, List, [], All, length, map, take}
use Rattle.std.specs.Prelude.{Some, slice_get, drop}
use Rattle.std.proofs.Common.{sym, subst, arith, inl, inr}
use Rattle.std.proofs.lemmas.Bool.{cases_lt}
use Rattle.std.proofs.lemmas.List.{drop_all}
use Rattle.psl_model.specs.Expr.{Expr}
use Rattle.psl_model.specs.Sere.{Sere}
use Rattle.psl_model.specs.Value.{own_value}
use Rattle.psl_meaning.specs.Word.{Valuation, valuation}
use Rattle.psl_meaning.specs.Sequence.{Tight}
use Rattle.psl_meaning.specs.SequenceSugar.{core_of}
use Rattle.psl_rewrite.specs.Base.{Base}
use Rattle.circuit_core.specs.Netlist.{Netlist}
use Rattle.circuit_core.specs.Run.{Stream, On, InEachRun}
use Rattle.circuit_core.specs.Growth.{Extends}
use Rattle.strong_obligations.specs.Next.{IsDue, IsAwaited}
use Rattle.strong_obligations.specs.Until.{IsUnstopped}
use Rattle.sequence_matches.specs.Growth.{GrowsWithin}
use Rattle.sequence_matches.specs.Matches.{letters, IsMatched}
use Rattle.property_circuits.specs.Starts.{IsCheck, IsCheckIn, IsGateOf, WaitsIfStrong, Weak, Full}
use Rattle.property_circuits.proofs.Letters.{letters_length, letters_take, letters_get, value_there}
use Rattle.property_circuits.proofs.Streams.{Judgement, Never, IsOfSome, SomeOpen, gate_answers, strong_waits}
use Rattle.property_circuits.proofs.Judging.{PlacesLaw, places_at, Already, AtLast, stable_already, stable_at_last}
use Rattle.property_circuits.proofs.Judging.{is_zero}

module _ (widths : List ℕ) (trace : List Valuation) where
  -- a strong form waits where the gate does
  abbrev WaitsBy : Bool → Judgement → Judgement
  WaitsBy s Waits i m = IsTrue s × Waits i m

  gated : (s : Bool) (Goes Waits : Judgement) (whole f : Base) (start clear go waits : Stream) →
      ((n : ℕ) → n < length trace → On go n ↔ SomeOpen start clear Goes n) →
      ((n : ℕ) → n < length trace → On waits n ↔ SomeOpen start clear Waits n) →
      IsOfSome (length trace) Goes Never (Weak widths trace whole) (Weak widths trace f) →
      IsOfSome (length trace) Goes (WaitsBy s Waits) (Full widths trace whole) (Full widths trace f) →
      IsGateOf widths trace s whole f start clear go waits
  gated s Goes Waits whole f start clear go waits goes awaits weak full fail pend1 pend body joins =
      gate_answers (length trace) Goes (WaitsBy s Waits) (Weak widths trace whole) (Weak widths trace f)
      (Full widths trace whole) (Full widths trace f) start go clear fail pend1 pend body goes
      (λ n within. strong_waits s Waits start clear pend1 waits pend n (awaits n within) (joins n within))
      weak full

  -- ---- a body some cycles later

  abbrev Within : (low high : ℕ) → List Valuation → ℕ → Type 0
  Within low high ls k = (low ≤ k) × (k ≤ high)

  abbrev Goes : (low high : ℕ) → Judgement
  Goes low high i k = (low ≤ k - i) × (k - i ≤ high)

  abbrev Awaits : (high : ℕ) → Judgement
  Awaits high i m = m - i < high

  -- what is violated already, and what is violated as a word that ends
  abbrev pub SoFarLaw : (low high : ℕ) → (whole f : Base) → Type 0
  SoFarLaw low high whole f = (ls : List Valuation) → (¬ Already widths whole ls)
      ↔ ((k : ℕ) → low ≤ k → k ≤ high → ¬ Already widths f (drop k ls))

  abbrev pub AtLastLaw : (s : Bool) (low high : ℕ) → (whole f : Base) → Type 0
  AtLastLaw s low high whole f = (ls : List Valuation) → ls ≢ [] → (¬ AtLast widths whole ls)
      ↔ ((IsTrue s → high < length ls)
      × ((k : ℕ) → low ≤ k → k ≤ high → k < length ls → ¬ AtLast widths f (drop k ls)))

  so_far_places : (low high : ℕ) (whole f : Base) → ¬ Already widths f [] → SoFarLaw low high whole f →
      PlacesLaw (Already widths) (stable_already widths) trace (Within low high) (λ ls. ⊥) whole f
  so_far_places low high whole f nothing law ls some = (
    (λ none. ((λ k inside there. (law ls).0 none k there.0 there.1), λ lack. lack)),
    (λ p. (law ls).1 (λ k from to. split p.0 k from to (cases_lt k (length ls)))),
  )
    where
      split : ((k : ℕ) → k < length ls → Within low high ls k → ¬ Already widths f (drop k ls)) → (k : ℕ) → low ≤ k →
          k ≤ high → (k < length ls) ⊎ (length ls ≤ k) → ¬ Already widths f (drop k ls)
      split each k from to (inl early) = each k early (from, to)
      split each k from to (inr late) =
          λ bad. nothing (subst (λ (xs : List Valuation). Already widths f xs) (drop_all k ls late) bad)

  at_last_places : (s : Bool) (low high : ℕ) (whole f : Base) → AtLastLaw s low high whole f →
      PlacesLaw (AtLast widths) (stable_at_last widths) trace (Within low high) (λ ls. IsTrue s × (length ls ≤ high))
      whole f
  at_last_places s low high whole f law ls some = (
    (λ none. let p = (law ls some).0 none in (
      (λ k inside there. p.1 k there.0 there.1 inside),
      (λ lack. let reached = p.0 lack.0 in let short = lack.1 in absurd (omega arith)),
    )),
    (λ p. (law ls some).1 (
      (λ strong. reached p.1 strong (cases_lt high (length ls))),
      (λ k from to inside. p.0 k inside (from, to)),
    )),
  )
    where
      reached : ¬ (IsTrue s × (length ls ≤ high)) → IsTrue s → (high < length ls) ⊎ (length ls ≤ high) →
          high < length ls
      reached not strong (inl there) = there
      reached not strong (inr short) = absurd (not (strong, short))

  pub next_gate : (s : Bool) (low high : ℕ) (whole f : Base) → ¬ Already widths f [] → SoFarLaw low high whole f →
      AtLastLaw s low high whole f → (start clear go waits : Stream) →
      ((n : ℕ) → n < length trace → On go n ↔ IsDue low high start clear n) →
      ((n : ℕ) → n < length trace → On waits n ↔ IsAwaited high start clear n) →
      IsGateOf widths trace s whole f start clear go waits
  next_gate s low high whole f nothing so_far at_last start clear go waits goes awaits =
      gated s (Goes low high) (Awaits high) whole f start clear go waits
      (λ n within. let g = goes n within in (
        (λ on. let i = g.0 on in (i.0, i.1, i.2, (i.3.0, (i.3.1, i.3.2)))),
        (λ i. g.1 (i.0, i.1, i.2, (i.3.0, i.3.1.0, i.3.1.1))),
      ))
      awaits
      (places_at (Already widths) (stable_already widths) trace (Within low high) (λ ls. ⊥) (Goes low high) Never
      whole f (so_far_places low high whole f nothing so_far)
      (λ i k m from to within. ((λ h. h), (λ h. h))) (λ i m ordered within. ((λ h. h), (λ h. h))))
      (places_at (AtLast widths) (stable_at_last widths) trace (Within low high)
      (λ ls. IsTrue s × (length ls ≤ high)) (Goes low high) (WaitsBy s (Awaits high)) whole f
      (at_last_places s low high whole f at_last)
      (λ i k m from to within. ((λ h. h), (λ h. h)))
      (λ i m ordered within.
      let counted = letters_length trace i m ordered within in (
        (λ w. let short = w.1 in (w.0, omega (arith, counted, short))),
        (λ l. let short = l.1 in (l.0, omega (arith, counted, short))),
      )))

  -- one cycle is a range of one
  pub one_so_far : (k high : ℕ) (whole f : Base) → k ≡ high →
      ((ls : List Valuation) → (¬ Already widths whole ls) ↔ (¬ Already widths f (drop k ls))) →
      SoFarLaw k high whole f
  one_so_far k high whole f one law ls = (
    (λ none j from to. subst (λ (n : ℕ). ¬ Already widths f (drop n ls)) (omega arith) ((law ls).0 none)),
    (λ each. (law ls).1 (each k (omega arith) (omega arith))),
  )

  pub one_at_last : (s : Bool) (k high : ℕ) (whole f : Base) → k ≡ high →
      ((ls : List Valuation) → ls ≢ [] → (¬ AtLast widths whole ls)
      ↔ ((IsTrue s → k < length ls) × (k < length ls → ¬ AtLast widths f (drop k ls)))) →
      AtLastLaw s k high whole f
  one_at_last s k high whole f one law ls some = (
    (λ none. let p = (law ls some).0 none in (
      (λ strong. let there = p.0 strong in omega arith),
      (λ j from to inside. subst (λ (n : ℕ). ¬ AtLast widths f (drop n ls)) (omega arith) (p.1 (omega arith))),
    )),
    (λ p. (law ls some).1 (
      (λ strong. let there = p.0 strong in omega arith),
      (λ inside. p.1 k (omega arith) (omega arith) inside),
    )),
  )

  -- ---- a body in each cycle before a stop

  abbrev Zero : Expr → Valuation → Type 0
  Zero e v = own_value widths v e ≡ 0

  abbrev BeforeStop : Expr → List Valuation → ℕ → Type 0
  BeforeStop e ls k = All (Zero e) (take (suc k) ls)

  -- the stream tells where the expression holds
  abbrev pub Tells : Expr → Stream → Type 0
  Tells e stop = (n : ℕ) (v : Valuation) → slice_get trace n ≡ Some v → On stop n ↔ (own_value widths v e ≢ 0)

  abbrev Unstopped : Stream → Judgement
  Unstopped stop i k = (j : ℕ) → i ≤ j → j ≤ k → ¬ On stop j

  unstopped_all : (e : Expr) (stop : Stream) → Tells e stop → (i k : ℕ) → i ≤ k → k < length trace →
      Unstopped stop i k → All (Zero e) (letters trace i k)
  unstopped_all e stop tells i k ordered within off j d inside =
      let counted = letters_length trace i k ordered within in
      let at = letters_get trace i k j d ordered within inside in
      subst (λ (v : Valuation). Zero e v) (sym at.2)
      (is_zero (own_value widths at.0 e)
      (λ on. off (i + j) (omega arith) (omega (arith, counted)) ((tells (i + j) at.0 at.1).1 on)))

  all_unstopped : (e : Expr) (stop : Stream) → Tells e stop → (i k : ℕ) → i ≤ k → k < length trace →
      All (Zero e) (letters trace i k) → Unstopped stop i k
  all_unstopped e stop tells i k ordered within all j from to on =
      let counted = letters_length trace i k ordered within in
      let v = value_there trace j (omega arith) in
      let place : i + (j - i) ≡ j = omega arith in
      let inside : j - i < length (letters trace i k) = omega (arith, counted) in
      let at = letters_get trace i k (j - i) v.0 ordered within inside in
      let there : slice_get trace j ≡ Some at.0 =
      subst (λ (n : ℕ). slice_get trace n ≡ Some at.0) place at.1 in
      (tells j at.0 there).0 on
      (subst (λ (u : Valuation). Zero e u) at.2 (all (j - i) v.0 inside))

  stop_at : (e : Expr) (stop : Stream) → Tells e stop → (i k m : ℕ) → i ≤ k → k ≤ m → m < length trace →
      Unstopped stop i k ↔ BeforeStop e (letters trace i m) (k - i)
  stop_at e stop tells i k m from to within =
      let same = letters_take trace i k m from to in (
        (λ off. subst (λ (xs : List Valuation). All (Zero e) xs) (sym same)
            (unstopped_all e stop tells i k from (omega arith) off)),
        (λ all. all_unstopped e stop tells i k from (omega arith)
            (subst (λ (xs : List Valuation). All (Zero e) xs) same all)),
      )

  pub until_gate : (s : Bool) (e : Expr) (whole f : Base) →
      ((ls : List Valuation) → (¬ Already widths whole ls)
      ↔ ((k : ℕ) → k < length ls → All (Zero e) (take (suc k) ls) → ¬ Already widths f (drop k ls))) →
      ((ls : List Valuation) → (¬ AtLast widths whole ls)
      ↔ (((k : ℕ) → k < length ls → All (Zero e) (take (suc k) ls) → ¬ AtLast widths f (drop k ls))
      × (IsTrue s → ¬ All (Zero e) ls))) →
      (stop start clear go waits : Stream) → Tells e stop →
      ((n : ℕ) → n < length trace → On go n ↔ IsUnstopped stop start clear n) →
      ((n : ℕ) → n < length trace → On waits n ↔ IsUnstopped stop start clear n) →
      IsGateOf widths trace s whole f start clear go waits
  until_gate s e whole f so_far at_last stop start clear go waits tells goes awaits =
      gated s (Unstopped stop) (Unstopped stop) whole f start clear go waits goes awaits
      (places_at (Already widths) (stable_already widths) trace (BeforeStop e) (λ ls. ⊥) (Unstopped stop) Never whole f
      (λ ls some. ((λ none. ((so_far ls).0 none, λ lack. lack)), (λ p. (so_far ls).1 p.0)))
      (stop_at e stop tells) (λ i m ordered within. ((λ h. h), (λ h. h))))
      (places_at (AtLast widths) (stable_at_last widths) trace (BeforeStop e) (λ ls. IsTrue s × All (Zero e) ls)
      (Unstopped stop) (WaitsBy s (Unstopped stop)) whole f
      (λ ls some. (
        (λ none. let p = (at_last ls).0 none in (p.0, λ lack. p.1 lack.0 lack.1)),
        (λ p. (at_last ls).1 (p.0, λ strong all. p.1 (strong, all))),
      ))
      (stop_at e stop tells)
      (λ i m ordered within. (
        (λ w. (w.0, unstopped_all e stop tells i m ordered within w.1)),
        (λ l. (l.0, all_unstopped e stop tells i m ordered within l.1)),
      )))

  -- ---- a body behind each match of a sequence

  abbrev Matches : Sere → Judgement
  Matches r i k = Tight widths (core_of r) (map valuation (letters trace i k))

  abbrev Ended : Sere → List Valuation → ℕ → Type 0
  Ended r ls k = Tight widths (core_of r) (map valuation (take (suc k) ls))

  -- a way to violate, by what is left behind each place at which a match ends
  abbrev pub BehindMatches : (V : Base → List Valuation → Type 0) → Sere → (whole f : Base) → Type 0
  BehindMatches V r whole f = (ls : List Valuation) →
      (¬ V whole ls) ↔ ((k : ℕ) → k < length ls → Ended r ls k → ¬ V f (drop k ls))

  behind : (V : Base → List Valuation → Type 0) (stable : (f : Base) (ls : List Valuation) → ¬ ¬ V f ls → V f ls)
      (r : Sere) (whole f : Base) → BehindMatches V r whole f →
      IsOfSome (length trace) (Matches r) Never (λ i m. V whole (letters trace i m)) (λ i m. V f (letters trace i m))
  behind V stable r whole f law =
      places_at V stable trace (Ended r) (λ ls. ⊥) (Matches r) Never whole f
      (λ ls some. ((λ none. ((law ls).0 none, λ lack. lack)), (λ p. (law ls).1 p.0)))
      (λ i k m from to within.
      let same = letters_take trace i k m from to in (
        (λ h. subst (λ (xs : List Valuation). Tight widths (core_of r) (map valuation xs)) (sym same) h),
        (λ h. subst (λ (xs : List Valuation). Tight widths (core_of r) (map valuation xs)) same h),
      ))
      (λ i m ordered within. ((λ h. h), (λ h. h)))

  pub suffix_check : (r : Sere) (whole f : Base) → BehindMatches (Already widths) r whole f →
      BehindMatches (AtLast widths) r whole f → (start clear found fail pend : Stream) →
      ((n : ℕ) → n < length trace → On found n ↔ IsMatched widths trace r start clear n) →
      IsCheck widths trace f found clear fail pend → IsCheck widths trace whole start clear fail pend
  suffix_check r whole f so_far at_last start clear found fail pend matched body =
      gate_answers (length trace) (Matches r) Never (Weak widths trace whole) (Weak widths trace f)
      (Full widths trace whole) (Full widths trace f) start found clear fail pend pend body matched
      (λ n within. ((λ on. inl on), (λ x. elim x [ inl on ↦ on | inr none ↦ absurd none.3.1 ])))
      (behind (Already widths) (stable_already widths) r whole f so_far)
      (behind (AtLast widths) (stable_at_last widths) r whole f at_last)

-- ---- inside a netlist that grows: the gate, the body, and what pends of both

pub through_gate : (m1 m2 m3 : Netlist) (widths widths1 : List ℕ) (s : Bool) (whole whole1 f : Base)
    (start clear go waits fail1 pend1 fail pend : ℕ) →
    InEachRun m1 (λ inputs run.
    IsGateOf widths inputs.trace s whole f (run start) (run clear) (run go) (run waits)) →
    Extends m1 m2 → Extends m2 m3 → widths1 ≡ widths → whole ≡ whole1 →
    IsCheckIn m2 widths1 f go clear fail1 pend1 → fail ≡ fail1 →
    InEachRun m3 (λ inputs run. WaitsIfStrong (length inputs.trace) s (run pend1) (run waits) (run pend)) →
    IsCheckIn m3 widths whole1 start clear fail pend
through_gate m1 m2 m3 widths widths1 s whole whole1 f start clear go waits fail1 pend1 fail pend gate x12 x23 same is
    body fails joins inputs run r3 =
    let r2 = x23.runs inputs run r3 in
    let r1 = x12.runs inputs run r2 in
    let each : IsCheck widths inputs.trace f (run go) (run clear) (run fail1) (run pend1) =
    subst (λ (ws : List ℕ). IsCheck ws inputs.trace f (run go) (run clear) (run fail1) (run pend1)) same
    (body inputs run r2) in
    let all : IsCheck widths inputs.trace whole (run start) (run clear) (run fail1) (run pend) =
    gate inputs run r1 (run fail1) (run pend1) (run pend) each (joins inputs run r3) in
    let named : IsCheck widths inputs.trace whole1 (run start) (run clear) (run fail1) (run pend) =
    subst (λ (g : Base). IsCheck widths inputs.trace g (run start) (run clear) (run fail1) (run pend)) is all in
    subst (λ (k : ℕ). IsCheck widths inputs.trace whole1 (run start) (run clear) (run k) (run pend)) (sym fails) named

pub grows_through : (m0 m1 m2 m3 : Netlist) (gate body whole : ℕ) →
    ((a b c : Netlist) (m n : ℕ) → GrowsWithin a b m → GrowsWithin b c n → GrowsWithin a c (m + n)) → gate + body ≡ whole →
    GrowsWithin m0 m1 gate → GrowsWithin m1 m2 body → GrowsWithin m2 m3 0 → GrowsWithin m0 m3 whole
grows_through m0 m1 m2 m3 gate body whole twice counted x y z =
    let P : ℕ → Type 0 = λ n. GrowsWithin m0 m3 n in
    let all : (gate + body) + 0 ≡ whole = omega arith in
    subst P all (twice m0 m2 m3 (gate + body) 0 (twice m0 m1 m2 gate body x y) z)
