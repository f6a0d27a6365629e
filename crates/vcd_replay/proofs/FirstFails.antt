-- The first fail of a run from reset, from the answers of steps.
use Rattle.std.proofs.Common.{◌≡◌, ◌∙◌, sym, ap, subst, refl, ℕ, zero, suc, ◌+◌, ◌<◌, Bool, true, false, List, [], ◌∷◌}
use Rattle.std.proofs.Common.{◌++◌, map, take, drop, length, replicate, All, Some, None, unwrap_or, get_or}
use Rattle.std.proofs.Common.{arith}
use Rattle.std.specs.Prelude.{slice_get, option_map}
use Rattle.std.proofs.Math.Seq.{take-suc}
use Rattle.std.proofs.lemmas.List.{take-map, take_all, replicate-append-replicate, length-append, length-map}
use Rattle.std.proofs.lemmas.List.{length-replicate}
use Rattle.std.proofs.lemmas.List.Elements.{All-take, All-map}
use Rattle.std.proofs.lemmas.Option.{slice_get_within, get_or_from_slice_get, slice_get_past, slice_get-map}
use Rattle.psl_model.specs.Value.{bit_of, FitWidths}
use Rattle.verilog_text.specs.Module.{Module, IsLawful}
use Rattle.verilog_text.specs.Run.{Cycle, IsRun, HaveInputs, IsRunFromReset, fail_stream}
use Rattle.verilog_text.specs.Interface.{port_widths}
use Rattle.verilog_cycles.specs.Steps.{reset_values, IsStep, AreSteps}
use Rattle.verilog_text.specs.View.{module_of}
use Rattle.verilog_cycles.specs.State.{State}
use Rattle.vcd_replay.specs.FirstFail.{IsFirstFail, port_row, port_rows, end_values, FitsRow, FitsRows}

pub take_next : {X : Type 0} (xs : List X) (k : ℕ) (x : X) → slice_get xs k ≡ Some x
    → take (suc k) xs ≡ take k xs ++ x ∷ []
take_next xs k x h = take-suc xs k x (slice_get_within xs k x h)
    ∙ ap (λ y. take k xs ++ y ∷ []) (get_or_from_slice_get xs k x x h)

pub replicate_next : (k : ℕ) → replicate k false ++ false ∷ [] ≡ replicate (suc k) false
replicate_next k =
    replicate-append-replicate k 1 false ∙
    (let e : k + 1 ≡ suc k = omega arith in ap (λ (n : ℕ). replicate n false) e)

-- ---- the front of a run

take_run : (m : Module) (c : Cycle) (cycles : List Cycle) (k : ℕ) → IsRun m (c ∷ cycles) → IsRun m (c ∷ take k cycles)
take_run m c [] zero h = h
take_run m c [] (suc k) h = h
take_run m c (d ∷ ds) zero h = h.0
take_run m c (d ∷ ds) (suc k) h = (h.0, h.1, take_run m d ds k h.2)

take_inputs : (k : ℕ) (inputs : List (List ℕ)) (eots : List ℕ) (cycles : List Cycle) → HaveInputs inputs eots cycles
    → HaveInputs (take k inputs) (take k eots) (take k cycles)
take_inputs zero inputs eots cycles h = tt
take_inputs (suc k) [] [] [] h = tt
take_inputs (suc k) (p ∷ ps) (e ∷ es) (c ∷ cs) h = (h.0, take_inputs k ps es cs h.1)
take_inputs (suc k) [] [] (c ∷ cs) h = absurd h
take_inputs (suc k) [] (e ∷ es) [] h = absurd h
take_inputs (suc k) [] (e ∷ es) (c ∷ cs) h = absurd h
take_inputs (suc k) (p ∷ ps) [] [] h = absurd h
take_inputs (suc k) (p ∷ ps) [] (c ∷ cs) h = absurd h
take_inputs (suc k) (p ∷ ps) (e ∷ es) [] h = absurd h

front_of_run : (m : Module) (inputs : List (List ℕ)) (eots : List ℕ) (reset : Cycle) (cycles : List Cycle) (k : ℕ)
    → IsRunFromReset m inputs eots reset cycles
    → IsRunFromReset m (take k inputs) (take k eots) reset (take k cycles)
front_of_run m inputs eots reset cycles k h = record {
  run = take_run m reset cycles k h.run;
  begins = h.begins;
  goes_on = take_inputs k inputs eots cycles h.goes_on;
}

-- ---- streams

-- a 0 in front of a stream
behind : (x : ℕ) (xs : List ℕ) (n : ℕ) → x ≡ 0 → ((cycle : ℕ) → cycle < n → ¬ (slice_get xs cycle ≡ Some 1))
    → (cycle : ℕ) → cycle < suc n → ¬ (slice_get (x ∷ xs) cycle ≡ Some 1)
behind x xs n low rest zero below is =
    let one : x ≡ 1 = ap (λ o. unwrap_or o 0) is in absurd (omega (arith, low, one))
behind x xs n low rest (suc cycle) below is = rest cycle (omega (arith, below)) is

found : (stream : List ℕ) (n : ℕ) → take (suc n) stream ≡ map bit_of (replicate n false ++ true ∷ [])
    → IsFirstFail stream (Some n)
found [] zero e = absurd (cc)
found [] (suc n) e = absurd (cc)
found (x ∷ xs) zero e =
    (ap (λ l. Some (get_or l 0 0)) e, λ cycle below. absurd (omega (arith, below)))
found (x ∷ xs) (suc n) e =
    let low : x ≡ 0 = ap (λ l. get_or l 0 0) e in
    let rest : IsFirstFail xs (Some n) = found xs n (ap (λ l. drop 1 l) e)
    in (rest.0, λ cycle below. behind x xs n low rest.1 cycle below)

nowhere : (stream : List ℕ) (n : ℕ) → stream ≡ map bit_of (replicate n false) → IsFirstFail stream None
nowhere [] n e cycle is =
    let none : None ≡ Some 1 = sym (slice_get_past [] cycle (omega arith)) ∙ is in absurd (cc)
nowhere (x ∷ xs) zero e cycle is = absurd (cc)
nowhere (x ∷ xs) (suc n) e zero is =
    let low : x ≡ 0 = ap (λ l. get_or l 0 0) e in
    let one : x ≡ 1 = ap (λ o. unwrap_or o 0) is
    in absurd (omega (arith, low, one))
nowhere (x ∷ xs) (suc n) e (suc cycle) is = nowhere xs n (ap (λ l. drop 1 l) e) cycle is

-- ---- steps

abbrev pub GoesOn : Type 0
GoesOn = (m : Module) (inputs : List (List ℕ)) (eots : List Bool) (before : List ℕ) (answers : List Bool)
    (between ports : List ℕ) (eot answer : Bool) (after : List ℕ) →
    AreSteps m inputs eots before answers between → IsStep m ports eot between after answer →
    AreSteps m (inputs ++ ports ∷ []) (eots ++ eot ∷ []) before (answers ++ answer ∷ []) after

abbrev pub AnswersRuns : Type 0
AnswersRuns = (m : Module) → IsLawful m → (inputs : List (List ℕ)) (eots answers : List Bool) (after : List ℕ) →
    All (FitWidths (port_widths m.ports)) inputs → AreSteps m inputs eots (reset_values m) answers after →
    (reset : Cycle) (cycles : List Cycle) → IsRunFromReset m inputs (map bit_of eots) reset cycles →
    fail_stream cycles ≡ map bit_of answers

pub steps_next : GoesOn → (m : Module) (inputs : List (List ℕ)) (eots : List Bool) (k : ℕ) (before : List ℕ)
    (answers : List Bool) (between ports : List ℕ) (eot answer : Bool) (after : List ℕ)
    → slice_get inputs k ≡ Some ports → slice_get eots k ≡ Some eot
    → AreSteps m (take k inputs) (take k eots) before answers between → IsStep m ports eot between after answer
    → AreSteps m (take (suc k) inputs) (take (suc k) eots) before (answers ++ answer ∷ []) after
steps_next goes m inputs eots k before answers between ports eot answer after at_inputs at_eots steps step =
    subst (λ xs. AreSteps m xs (take (suc k) eots) before (answers ++ answer ∷ []) after)
    (sym (take_next inputs k ports at_inputs))
    (subst (λ es. AreSteps m (take k inputs ++ ports ∷ []) es before (answers ++ answer ∷ []) after)
    (sym (take_next eots k eot at_eots))
    (goes m (take k inputs) (take k eots) before answers between ports eot answer after steps step))

pub fails_at : AnswersRuns → (m : Module) → IsLawful m → (inputs : List (List ℕ)) (eots : List Bool) (n : ℕ)
    (after : List ℕ) → All (FitWidths (port_widths m.ports)) inputs
    → AreSteps m (take (suc n) inputs) (take (suc n) eots) (reset_values m) (replicate n false ++ true ∷ []) after
    → (reset : Cycle) (cycles : List Cycle) → IsRunFromReset m inputs (map bit_of eots) reset cycles
    → IsFirstFail (fail_stream cycles) (Some n)
fails_at law m lawful inputs eots n after fit steps reset cycles run =
    let front : IsRunFromReset m (take (suc n) inputs) (map bit_of (take (suc n) eots)) reset (take (suc n) cycles) =
    subst (λ es. IsRunFromReset m (take (suc n) inputs) es reset (take (suc n) cycles))
    (take-map bit_of (suc n) eots) (front_of_run m inputs (map bit_of eots) reset cycles (suc n) run) in
    let says : fail_stream (take (suc n) cycles) ≡ map bit_of (replicate n false ++ true ∷ []) =
    law m lawful (take (suc n) inputs) (take (suc n) eots) (replicate n false ++ true ∷ []) after
    (All-take (FitWidths (port_widths m.ports)) (suc n) inputs fit) steps reset (take (suc n) cycles) front
    in found (fail_stream cycles) n (take-map (λ (c : Cycle). c.fail) (suc n) cycles ∙ says)

pub never_fails : AnswersRuns → (m : Module) → IsLawful m → (inputs : List (List ℕ)) (eots : List Bool) (n : ℕ)
    (after : List ℕ) → All (FitWidths (port_widths m.ports)) inputs
    → AreSteps m inputs eots (reset_values m) (replicate n false) after
    → (reset : Cycle) (cycles : List Cycle) → IsRunFromReset m inputs (map bit_of eots) reset cycles
    → IsFirstFail (fail_stream cycles) None
never_fails law m lawful inputs eots n after fit steps reset cycles run =
    nowhere (fail_stream cycles) n
    (law m lawful inputs eots (replicate n false) after fit steps reset cycles run)

-- ---- the loop

-- What holds when so many cycles have run without a fail: `before` is the machine that was handed in.
pub record HasRun (before now : State) (rows : List (List ℕ)) (from : ℕ) (end : Bool) (cycle : ℕ) : Type 0 where
  pub kept : now.loaded ≡ before.loaded
  pub steps : AreSteps (module_of before.loaded)
      (take cycle (port_rows from (length (module_of before.loaded).ports) rows))
      (take cycle (end_values end (length rows))) (reset_values (module_of before.loaded))
      (replicate cycle false) now.registers

abbrev pub Starts : Type 0
Starts = (m : Module) (state : List ℕ) → AreSteps m [] [] state [] state

pub begun : Starts → (before now : State) (rows : List (List ℕ)) (from : ℕ) (end : Bool) → now.loaded ≡ before.loaded
    → now.registers ≡ reset_values (module_of before.loaded) → HasRun before now rows from end 0
begun none before now rows from end same fresh = record {
  kept = same;
  steps = subst
      (λ registers. AreSteps (module_of before.loaded) [] [] (reset_values (module_of before.loaded)) [] registers)
      (sym fresh) (none (module_of before.loaded) (reset_values (module_of before.loaded)));
}

pub row_here : (before now : State) (rows : List (List ℕ)) (from cycle : ℕ) (row : List ℕ)
    → FitsRows (module_of before.loaded) from rows → now.loaded ≡ before.loaded → slice_get rows cycle ≡ Some row
    → FitsRow (module_of now.loaded) from row
row_here before now rows from cycle row fits same at =
    subst (λ loaded. FitsRow (module_of loaded) from row) (sym same)
    (subst (λ r. FitsRow (module_of before.loaded) from r) (get_or_from_slice_get rows cycle row row at)
    (fits cycle row (slice_get_within rows cycle row at)))

pub run_on : GoesOn → (before now after : State) (rows : List (List ℕ)) (from : ℕ) (end : Bool) (cycle : ℕ)
    (row : List ℕ) (eot answer : Bool) → HasRun before now rows from end cycle → slice_get rows cycle ≡ Some row
    → slice_get (end_values end (length rows)) cycle ≡ Some eot
    → IsStep (module_of now.loaded) (port_row from (length (module_of now.loaded).ports) row) eot
    now.registers after.registers answer
    → AreSteps (module_of before.loaded)
    (take (suc cycle) (port_rows from (length (module_of before.loaded).ports) rows))
    (take (suc cycle) (end_values end (length rows))) (reset_values (module_of before.loaded))
    (replicate cycle false ++ answer ∷ []) after.registers
run_on goes before now after rows from end cycle row eot answer has at_row at_eot step =
    let m : Module = module_of before.loaded in
    steps_next goes m (port_rows from (length m.ports) rows) (end_values end (length rows)) cycle (reset_values m)
    (replicate cycle false) now.registers (port_row from (length m.ports) row) eot answer after.registers
    (slice_get-map (port_row from (length m.ports)) rows cycle
    ∙ ap (λ o. option_map (port_row from (length m.ports)) o) at_row)
    at_eot has.steps
    (subst (λ loaded. IsStep (module_of loaded) (port_row from (length (module_of loaded).ports) row) eot
    now.registers after.registers answer) has.kept step)

pub more_run : GoesOn → (before now after : State) (rows : List (List ℕ)) (from : ℕ) (end : Bool) (cycle : ℕ)
    (row : List ℕ) (eot answer : Bool) → HasRun before now rows from end cycle → slice_get rows cycle ≡ Some row
    → slice_get (end_values end (length rows)) cycle ≡ Some eot
    → IsStep (module_of now.loaded) (port_row from (length (module_of now.loaded).ports) row) eot
    now.registers after.registers answer
    → answer ≡ false → after.loaded ≡ now.loaded → HasRun before after rows from end (suc cycle)
more_run goes before now after rows from end cycle row eot answer has at_row at_eot step fine same = record {
  kept = same ∙ has.kept;
  steps =
      let m : Module = module_of before.loaded in
      subst (λ answers. AreSteps m (take (suc cycle) (port_rows from (length m.ports) rows))
      (take (suc cycle) (end_values end (length rows))) (reset_values m) answers after.registers)
      (ap (λ a. replicate cycle false ++ a ∷ []) fine ∙ replicate_next cycle)
      (run_on goes before now after rows from end cycle row eot answer has at_row at_eot step);
}

ports_fit : (m : Module) (from : ℕ) (rows : List (List ℕ)) → FitsRows m from rows
    → All (FitWidths (port_widths m.ports)) (port_rows from (length m.ports) rows)
ports_fit m from rows fits = All-map (FitWidths (port_widths m.ports)) (port_row from (length m.ports)) rows
    (λ k d low. (fits k d low).fit)

pub first_here : AnswersRuns → GoesOn → (before now after : State) (rows : List (List ℕ)) (from : ℕ) (end : Bool)
    (cycle : ℕ) (row : List ℕ) (eot answer : Bool) → IsLawful (module_of before.loaded)
    → FitsRows (module_of before.loaded) from rows → HasRun before now rows from end cycle
    → slice_get rows cycle ≡ Some row → slice_get (end_values end (length rows)) cycle ≡ Some eot
    → IsStep (module_of now.loaded) (port_row from (length (module_of now.loaded).ports) row) eot
    now.registers after.registers answer
    → answer ≡ true → (reset : Cycle) (cycles : List Cycle)
    → IsRunFromReset (module_of before.loaded) (port_rows from (length (module_of before.loaded).ports) rows)
    (map bit_of (end_values end (length rows))) reset cycles
    → IsFirstFail (fail_stream cycles) (Some cycle)
first_here law goes before now after rows from end cycle row eot answer lawful fits has at_row at_eot step fails
    reset cycles run =
    let m : Module = module_of before.loaded in
    fails_at law m lawful (port_rows from (length m.ports) rows) (end_values end (length rows)) cycle after.registers
    (ports_fit m from rows fits)
    (subst (λ a. AreSteps m (take (suc cycle) (port_rows from (length m.ports) rows))
    (take (suc cycle) (end_values end (length rows))) (reset_values m) (replicate cycle false ++ a ∷ [])
    after.registers) fails
    (run_on goes before now after rows from end cycle row eot answer has at_row at_eot step))
    reset cycles run

length_ends : (end : Bool) (count : ℕ) → length (end_values end count) ≡ count
length_ends end zero = refl
length_ends end (suc count) = length-append (replicate count false) (end ∷ [])
    ∙ ap (λ n. n + 1) (length-replicate count false) ∙ omega arith

pub nowhere_here : AnswersRuns → (before now : State) (rows : List (List ℕ)) (from : ℕ) (end : Bool)
    → IsLawful (module_of before.loaded) → FitsRows (module_of before.loaded) from rows
    → HasRun before now rows from end (length rows) → (reset : Cycle) (cycles : List Cycle)
    → IsRunFromReset (module_of before.loaded) (port_rows from (length (module_of before.loaded).ports) rows)
    (map bit_of (end_values end (length rows))) reset cycles
    → IsFirstFail (fail_stream cycles) None
nowhere_here law before now rows from end lawful fits has reset cycles run =
    let m : Module = module_of before.loaded in
    never_fails law m lawful (port_rows from (length m.ports) rows) (end_values end (length rows)) (length rows)
    now.registers (ports_fit m from rows fits)
    (subst (λ xs. AreSteps m xs (end_values end (length rows)) (reset_values m) (replicate (length rows) false)
    now.registers)
    (take_all (length rows) (port_rows from (length m.ports) rows)
    (let long : length (port_rows from (length m.ports) rows) ≡ length rows =
    length-map rows (port_row from (length m.ports)) in omega (arith, long)))
    (subst (λ es. AreSteps m (take (length rows) (port_rows from (length m.ports) rows)) es (reset_values m)
    (replicate (length rows) false) now.registers)
    (take_all (length rows) (end_values end (length rows))
    (let long : length (end_values end (length rows)) ≡ length rows = length_ends end (length rows) in
    omega (arith, long)))
    has.steps))
    reset cycles run
