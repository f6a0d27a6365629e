-- A source has one trace, or one reason why there is none.
use Rattle.std.proofs.Common.{zero, suc, ◌≡◌, ℕ, ◌+◌, ◌<◌, inl, inr, List, [], Some, Result, Ok, Err}
use Rattle.std.proofs.Common.{length, get_or, refl, sym, ◌∙◌, ap, subst, arith}
use Rattle.std.specs.Prelude.{◌≢◌, slice_get}
use Rattle.std.proofs.lemmas.Bool.{cases_order}
use Rattle.std.proofs.lemmas.Option.{slice_get_within, slice_get-get_or}
use Rattle.std.proofs.lemmas.List.{same_lists}
use Rattle.psl_model.specs.declared.names.Signal.{Signal}
use Rattle.vcd_reader.specs.declared.waveform.Var.{Var}
use Rattle.vcd_reader.specs.declared.waveform.Change.{Change}
use Rattle.vcd_replay.specs.declared.trace.SampleError.{SampleError}
use Rattle.vcd_replay.specs.declared.trace.SampleError.TheVariants.{NoScope, MissingSignal, WidthDiffers, NoCycles}
use Rattle.vcd_replay.specs.declared.trace.SampleError.TheVariants.{UnknownValue, OutOfMemory}
use Rattle.vcd_replay.specs.Values.{AreKnown, bits_value}
use Rattle.vcd_replay.specs.Edges.{AreEdges}
use Rattle.vcd_replay.specs.Ports.{HasNoVariable, HasNoScope, HasScope, IsFor, DiffersInWidth, FirstFault}
use Rattle.vcd_replay.specs.Sampling.{Source, signals, IsThere, Samples, IsRow, IsTrace, IsUnknown, FirstUnknown}
use Rattle.vcd_replay.specs.Sampling.{HasNoCycles, ComesBefore, Answers}
use Rattle.vcd_replay.proofs.PortLists.{signal_or}
use Rattle.vcd_replay.proofs.RisingLists.{same_members}
use Rattle.vcd_replay.proofs.Answered.{same_first, one_sample}

-- ---- edges

pub one_list_of_edges : (changes : List Change) (clock : ℕ) (xs ys : List ℕ) → AreEdges changes clock xs
    → AreEdges changes clock ys → xs ≡ ys
one_list_of_edges changes clock xs ys a b = same_members xs ys a.rising b.rising
    (λ t has. (b.edges t).1 ((a.edges t).0 has)) (λ t has. (a.edges t).1 ((b.edges t).0 has))

same_times : (s : Source) (xs ys : List ℕ) → IsThere s xs → IsThere s ys → xs ≡ ys
same_times s xs ys a b =
    let clock : a.clock ≡ b.clock =
    same_first s.vars s.scope s.clock a.clock b.clock (a.clock_is).first (b.clock_is).first in
    let edges : AreEdges s.changes (b.clock).code xs =
    subst (λ (v : Var). AreEdges s.changes v.code xs) clock a.edges in
    one_list_of_edges s.changes (b.clock).code xs ys edges b.edges

-- ---- rows

pub one_row : (s : Source) (times : List ℕ) (cycle : ℕ) (a b : List ℕ) → IsRow s times cycle a → IsRow s times cycle b
    → a ≡ b
one_row s times cycle a b x y = same_lists a b (x.wide ∙ sym y.wide) (λ port d low.
    let inside : port < length b = omega (arith, low, x.wide, y.wide) in
    let u = x.values port (get_or a port d) (slice_get-get_or a port d low) in
    let v = y.values port (get_or b port d) (slice_get-get_or b port d inside) in
    u.3 ∙ ap (λ digits. bits_value digits) (one_sample s times cycle port u.0 v.0 u.1 v.1) ∙ sym v.3)

one_trace : (s : Source) (a b : List (List ℕ)) → IsTrace s a → IsTrace s b → a ≡ b
one_trace s a b x y =
    let times : x.times ≡ y.times = same_times s x.times y.times x.there y.there in
    let many : length x.times ≡ length y.times = ap (λ ts. length ts) times in
    let long : length a ≡ length b = omega (arith, x.long, y.long, many) in
    same_lists a b long (λ cycle d low.
    let row : List ℕ = get_or a cycle d in
    let is : IsRow s y.times cycle row = subst (λ ts. IsRow s ts cycle row) times
    (x.rows_are cycle row (slice_get-get_or a cycle d low)) in
    one_row s y.times cycle row (get_or b cycle d) is
    (y.rows_are cycle (get_or b cycle d) (slice_get-get_or b cycle d (omega (arith, low, long)))))

-- ---- signals

missing_is_none : (vars : List Var) (scope : List ℕ) (signal : Signal) (var : Var)
    → HasNoVariable vars scope signal.name → ¬ IsFor vars scope signal var
missing_is_none vars scope signal var none f = none (f.first).place var (f.first).stands (f.first).named

other_width_is_none : (vars : List Var) (scope : List ℕ) (signal : Signal) (var : Var)
    → DiffersInWidth vars scope signal → ¬ IsFor vars scope signal var
other_width_is_none vars scope signal var differs f =
    let same : differs.var ≡ var =
    same_first vars scope signal.name differs.var var differs.first f.first in
    differs.wide (ap (λ (v : Var). v.size) same ∙ f.wide)

missing_has_no_width : (vars : List Var) (scope : List ℕ) (signal : Signal) → HasNoVariable vars scope signal.name
    → ¬ DiffersInWidth vars scope signal
missing_has_no_width vars scope signal none differs =
    none (differs.first).place differs.var (differs.first).stands (differs.first).named

-- a fault with which a signal is no variable
abbrev IsFault : List Var → (scope : List ℕ) → (Signal → Type 0) → Type 0
IsFault vars scope Fault = (signal : Signal) (var : Var) → Fault signal → ¬ IsFor vars scope signal var

missing_is_fault : (vars : List Var) (scope : List ℕ)
    → IsFault vars scope (λ signal. HasNoVariable vars scope signal.name)
missing_is_fault vars scope signal var fault = missing_is_none vars scope signal var fault

width_is_fault : (vars : List Var) (scope : List ℕ) → IsFault vars scope (DiffersInWidth vars scope)
width_is_fault vars scope signal var fault = other_width_is_none vars scope signal var fault

-- two first faults are those of one signal
one_fault : (vars : List Var) (scope : List ℕ) (all : List Signal) (F G : Signal → Type 0) (n m : List ℕ)
    → IsFault vars scope F → IsFault vars scope G → FirstFault vars scope all F n → FirstFault vars scope all G m
    → (signal : Signal) × F signal × G signal × (n ≡ m)
one_fault vars scope all F G n m no_f no_g a b =
    let place : a.place ≡ b.place = elim (cases_order a.place b.place) [
      | inl same ↦ same
      | inr other ↦ elim other [
        | inl low ↦ let v = b.fine_before a.place a.signal low a.stands in absurd (no_f a.signal v.0 a.fault v.1)
        | inr low ↦ let v = a.fine_before b.place b.signal low b.stands in absurd (no_g b.signal v.0 b.fault v.1)
      ]
    ] in
    let both : Some a.signal ≡ Some b.signal = sym a.stands ∙ ap (slice_get all) place ∙ b.stands in
    let signal : a.signal ≡ b.signal = ap (signal_or a.signal) both in
    (b.signal, subst F signal a.fault, b.fault, sym a.named ∙ ap (λ (z : Signal). z.name) signal ∙ b.named)

each_there : (s : Source) (times : List ℕ) → IsThere s times → (k : ℕ) (signal : Signal)
    → slice_get (signals s) k ≡ Some signal → (var : Var) × IsFor s.vars s.scope signal var
each_there s times h zero signal at = subst (λ (z : Signal). (var : Var) × IsFor s.vars s.scope z var)
    (ap (signal_or (record { name = s.clock; width = 1 })) at) (h.clock, h.clock_is)
each_there s times h (suc k) signal at = h.each k signal at

-- where there are edges no signal is at fault
no_fault_there : (s : Source) (Fault : Signal → Type 0) (name times : List ℕ) → IsFault s.vars s.scope Fault
    → FirstFault s.vars s.scope (signals s) Fault name → ¬ IsThere s times
no_fault_there s Fault name times no_fault f there =
    let v = each_there s times there f.place f.signal f.stands in no_fault f.signal v.0 f.fault v.1

scope_there : (s : Source) (times : List ℕ) → IsThere s times → HasScope s.vars s.scope
scope_there s times h =
    let f = (h.clock_is).first in (f.place, h.clock, f.stands, (f.named).0)

no_scope : (s : Source) → HasNoScope s.vars s.scope → ¬ HasScope s.vars s.scope
no_scope s none (k, var, at, same) = none k var at same

-- ---- cycles

begun : (s : Source) (times digits : List ℕ) (cycle port : ℕ) → Samples s times cycle port digits
    → s.skip + cycle < length times
begun s times digits cycle port sample = slice_get_within times (s.skip + cycle) sample.time sample.begins

no_cycle_traced : (s : Source) (rows : List (List ℕ)) → HasNoCycles s → ¬ IsTrace s rows
no_cycle_traced s rows x y =
    let many : length x.times ≡ length y.times =
    ap (λ ts. length ts) (same_times s x.times y.times x.there y.there) in
    omega (arith, many, x.none, y.some)

no_cycle_unknown : (s : Source) (cycle : ℕ) (name : List ℕ) → HasNoCycles s → ¬ FirstUnknown s cycle name
no_cycle_unknown s cycle name x y =
    let many : length x.times ≡ length y.times =
    ap (λ ts. length ts) (same_times s x.times y.times x.there y.there) in
    let u = y.unknown in
    omega (arith, many, x.none, begun s y.times u.0 cycle y.port u.1)

-- a row knows its samples
known_in_row : (s : Source) (times : List ℕ) (cycle port : ℕ) (row : List ℕ) → IsRow s times cycle row
    → ¬ IsUnknown s times cycle port
known_in_row s times cycle port row r u =
    let a = u.1 in
    let inside : port < length s.wanted = slice_get_within s.wanted port a.signal a.stands in
    let v = r.values port (get_or row port 0) (slice_get-get_or row port 0 (omega (arith, inside, r.wide))) in
    u.2 (subst AreKnown (one_sample s times cycle port v.0 u.0 v.1 a) v.2)

no_unknown_traced : (s : Source) (cycle : ℕ) (name : List ℕ) (rows : List (List ℕ)) → FirstUnknown s cycle name
    → ¬ IsTrace s rows
no_unknown_traced s cycle name rows x y =
    let times : x.times ≡ y.times = same_times s x.times y.times x.there y.there in
    let u : IsUnknown s y.times cycle x.port = subst (λ ts. IsUnknown s ts cycle x.port) times x.unknown in
    let low : s.skip + cycle < length y.times = begun s y.times u.0 cycle x.port u.1 in
    let row : List ℕ = get_or rows cycle [] in
    known_in_row s y.times cycle x.port row
    (y.rows_are cycle row (slice_get-get_or rows cycle [] (omega (arith, low, y.long)))) u

-- of two first samples none comes before the other
not_before : (s : Source) (cycle other : ℕ) (name named : List ℕ) (x : FirstUnknown s cycle name)
    (y : FirstUnknown s other named) → ¬ ComesBefore cycle x.port other y.port
not_before s cycle other name named x y before =
    let times : x.times ≡ y.times = same_times s x.times y.times x.there y.there in
    y.first cycle x.port before (subst (λ ts. IsUnknown s ts cycle x.port) times x.unknown)

one_place : (n p m q : ℕ) → ¬ ComesBefore n p m q → ¬ ComesBefore m q n p → (n ≡ m) × (p ≡ q)
one_place n p m q low high = elim (cases_order n m) [
  | inl same ↦ elim (cases_order p q) [
    | inl one ↦ (same, one)
    | inr other ↦ elim other [
      | inl less ↦ absurd (low (inr (same, less)))
      | inr less ↦ absurd (high (inr (sym same, less)))
    ]
  ]
  | inr other ↦ elim other [
    | inl less ↦ absurd (low (inl less))
    | inr less ↦ absurd (high (inl less))
  ]
]

one_unknown : (s : Source) (cycle other : ℕ) (name named : List ℕ) → FirstUnknown s cycle name
    → FirstUnknown s other named → (cycle ≡ other) × (name ≡ named)
one_unknown s cycle other name named x y =
    let place = one_place cycle x.port other y.port (not_before s cycle other name named x y)
    (not_before s other cycle named name y x) in
    let both : Some x.signal ≡ Some y.signal = sym x.stands ∙ ap (slice_get s.wanted) place.1 ∙ y.stands in
    let signal : x.signal ≡ y.signal = ap (signal_or x.signal) both in
    (place.0, sym x.named ∙ ap (λ (z : Signal). z.name) signal ∙ y.named)

-- ---- answers

abbrev Answer : Type 0
Answer = Result (List (List ℕ)) SampleError

if_no_scope : (s : Source) (y : Answer) → HasNoScope s.vars s.scope → Answers s y → y ≢ Err OutOfMemory
    → Err NoScope ≡ y
if_no_scope s (Ok rows) x h some = absurd (no_scope s x (scope_there s h.times h.there))
if_no_scope s (Err NoScope) x h some = refl
if_no_scope s (Err (MissingSignal name)) x h some = absurd (no_scope s x h.0)
if_no_scope s (Err (WidthDiffers name)) x h some = absurd (no_scope s x h.0)
if_no_scope s (Err NoCycles) x h some = absurd (no_scope s x (scope_there s h.times h.there))
if_no_scope s (Err (UnknownValue cycle name)) x h some = absurd (no_scope s x (scope_there s h.times h.there))
if_no_scope s (Err OutOfMemory) x h some = absurd (some refl)

abbrev IsMissing : Source → (name : List ℕ) → Type 0
IsMissing s name = FirstFault s.vars s.scope (signals s) (λ signal. HasNoVariable s.vars s.scope signal.name) name

abbrev IsOtherWidth : Source → (name : List ℕ) → Type 0
IsOtherWidth s name = FirstFault s.vars s.scope (signals s) (DiffersInWidth s.vars s.scope) name

missing_not_there : (s : Source) (name times : List ℕ) → IsMissing s name → ¬ IsThere s times
missing_not_there s name times f =
    no_fault_there s (λ signal. HasNoVariable s.vars s.scope signal.name) name times
    (missing_is_fault s.vars s.scope) f

width_not_there : (s : Source) (name times : List ℕ) → IsOtherWidth s name → ¬ IsThere s times
width_not_there s name times f =
    no_fault_there s (DiffersInWidth s.vars s.scope) name times (width_is_fault s.vars s.scope) f

missing_not_wide : (s : Source) (name named : List ℕ) → IsMissing s name → ¬ IsOtherWidth s named
missing_not_wide s name named f g =
    let b = one_fault s.vars s.scope (signals s) (λ signal. HasNoVariable s.vars s.scope signal.name)
    (DiffersInWidth s.vars s.scope) name named (missing_is_fault s.vars s.scope) (width_is_fault s.vars s.scope) f g in
    missing_has_no_width s.vars s.scope b.0 b.1 b.2

one_missing : (s : Source) (name named : List ℕ) → IsMissing s name → IsMissing s named → name ≡ named
one_missing s name named f g =
    let b = one_fault s.vars s.scope (signals s) (λ signal. HasNoVariable s.vars s.scope signal.name)
    (λ signal. HasNoVariable s.vars s.scope signal.name) name named (missing_is_fault s.vars s.scope)
    (missing_is_fault s.vars s.scope) f g in b.3

one_other_width : (s : Source) (name named : List ℕ) → IsOtherWidth s name → IsOtherWidth s named → name ≡ named
one_other_width s name named f g =
    let b = one_fault s.vars s.scope (signals s) (DiffersInWidth s.vars s.scope) (DiffersInWidth s.vars s.scope)
    name named (width_is_fault s.vars s.scope) (width_is_fault s.vars s.scope) f g in b.3

if_missing : (s : Source) (name : List ℕ) (y : Answer) → HasScope s.vars s.scope → IsMissing s name → Answers s y
    → y ≢ Err OutOfMemory → Err (MissingSignal name) ≡ y
if_missing s name (Ok rows) scope x h some = absurd (missing_not_there s name h.times x h.there)
if_missing s name (Err NoScope) scope x h some = absurd (no_scope s h scope)
if_missing s name (Err (MissingSignal named)) scope x h some =
    ap (λ (n : List ℕ). Err (MissingSignal n)) (one_missing s name named x h.1)
if_missing s name (Err (WidthDiffers named)) scope x h some = absurd (missing_not_wide s name named x h.1)
if_missing s name (Err NoCycles) scope x h some = absurd (missing_not_there s name h.times x h.there)
if_missing s name (Err (UnknownValue cycle named)) scope x h some =
    absurd (missing_not_there s name h.times x h.there)
if_missing s name (Err OutOfMemory) scope x h some = absurd (some refl)

if_other_width : (s : Source) (name : List ℕ) (y : Answer) → HasScope s.vars s.scope → IsOtherWidth s name
    → Answers s y → y ≢ Err OutOfMemory → Err (WidthDiffers name) ≡ y
if_other_width s name (Ok rows) scope x h some = absurd (width_not_there s name h.times x h.there)
if_other_width s name (Err NoScope) scope x h some = absurd (no_scope s h scope)
if_other_width s name (Err (MissingSignal named)) scope x h some = absurd (missing_not_wide s named name h.1 x)
if_other_width s name (Err (WidthDiffers named)) scope x h some =
    ap (λ (n : List ℕ). Err (WidthDiffers n)) (one_other_width s name named x h.1)
if_other_width s name (Err NoCycles) scope x h some = absurd (width_not_there s name h.times x h.there)
if_other_width s name (Err (UnknownValue cycle named)) scope x h some =
    absurd (width_not_there s name h.times x h.there)
if_other_width s name (Err OutOfMemory) scope x h some = absurd (some refl)

if_no_cycles : (s : Source) (y : Answer) → HasNoCycles s → Answers s y → y ≢ Err OutOfMemory → Err NoCycles ≡ y
if_no_cycles s (Ok rows) x h some = absurd (no_cycle_traced s rows x h)
if_no_cycles s (Err NoScope) x h some = absurd (no_scope s h (scope_there s x.times x.there))
if_no_cycles s (Err (MissingSignal name)) x h some = absurd (missing_not_there s name x.times h.1 x.there)
if_no_cycles s (Err (WidthDiffers name)) x h some = absurd (width_not_there s name x.times h.1 x.there)
if_no_cycles s (Err NoCycles) x h some = refl
if_no_cycles s (Err (UnknownValue cycle name)) x h some = absurd (no_cycle_unknown s cycle name x h)
if_no_cycles s (Err OutOfMemory) x h some = absurd (some refl)

if_unknown : (s : Source) (cycle : ℕ) (name : List ℕ) (y : Answer) → FirstUnknown s cycle name → Answers s y
    → y ≢ Err OutOfMemory → Err (UnknownValue cycle name) ≡ y
if_unknown s cycle name (Ok rows) x h some = absurd (no_unknown_traced s cycle name rows x h)
if_unknown s cycle name (Err NoScope) x h some = absurd (no_scope s h (scope_there s x.times x.there))
if_unknown s cycle name (Err (MissingSignal named)) x h some =
    absurd (missing_not_there s named x.times h.1 x.there)
if_unknown s cycle name (Err (WidthDiffers named)) x h some =
    absurd (width_not_there s named x.times h.1 x.there)
if_unknown s cycle name (Err NoCycles) x h some = absurd (no_cycle_unknown s cycle name h x)
if_unknown s cycle name (Err (UnknownValue other named)) x h some =
    let same = one_unknown s cycle other name named x h in
    ap (λ (c : ℕ). Err (UnknownValue c name)) same.0 ∙ ap (λ (n : List ℕ). Err (UnknownValue other n)) same.1
if_unknown s cycle name (Err OutOfMemory) x h some = absurd (some refl)

if_traced : (s : Source) (rows : List (List ℕ)) (y : Answer) → IsTrace s rows → Answers s y → y ≢ Err OutOfMemory
    → Ok rows ≡ y
if_traced s rows (Ok others) x h some = ap (λ (r : List (List ℕ)). Ok r) (one_trace s rows others x h)
if_traced s rows (Err NoScope) x h some = absurd (no_scope s h (scope_there s x.times x.there))
if_traced s rows (Err (MissingSignal name)) x h some = absurd (missing_not_there s name x.times h.1 x.there)
if_traced s rows (Err (WidthDiffers name)) x h some = absurd (width_not_there s name x.times h.1 x.there)
if_traced s rows (Err NoCycles) x h some = absurd (no_cycle_traced s rows h x)
if_traced s rows (Err (UnknownValue cycle name)) x h some = absurd (no_unknown_traced s cycle name rows h x)
if_traced s rows (Err OutOfMemory) x h some = absurd (some refl)

pub one_answer : (s : Source) (x y : Answer) → Answers s x → Answers s y → x ≢ Err OutOfMemory → y ≢ Err OutOfMemory
    → x ≡ y
one_answer s (Ok rows) y a b some_x some_y = if_traced s rows y a b some_y
one_answer s (Err NoScope) y a b some_x some_y = if_no_scope s y a b some_y
one_answer s (Err (MissingSignal name)) y a b some_x some_y = if_missing s name y a.0 a.1 b some_y
one_answer s (Err (WidthDiffers name)) y a b some_x some_y = if_other_width s name y a.0 a.1 b some_y
one_answer s (Err NoCycles) y a b some_x some_y = if_no_cycles s y a b some_y
one_answer s (Err (UnknownValue cycle name)) y a b some_x some_y = if_unknown s cycle name y a b some_y
one_answer s (Err OutOfMemory) y a b some_x some_y = absurd (some_x refl)
