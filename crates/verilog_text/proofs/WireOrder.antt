-- A wire takes nothing but what stands before it.
use Rattle.std.proofs.Common.{◌≡◌, ℕ, zero, suc, ◌+◌, ◌<◌, ◌≤◌, ◌%◌, ◌^◌, List, [], ◌∷◌, ◌++◌, take, length}
use Rattle.std.proofs.Common.{refl, ap, sym, ◌∙◌, arith, subst, Some}
use Rattle.std.proofs.lemmas.List.{get_or-take, length-append, length-map, length-take-le}
use Rattle.std.proofs.lemmas.Option.{slice_get_within}
use Rattle.std.specs.Prelude.{max, slice_get, slice_index, IfSome}
use Rattle.psl_model.specs.Expr.{Expr}
use Rattle.psl_model.specs.Value.{width_of, value_of}
use Rattle.psl_model.specs.Valid.{IsValid}
use Rattle.verilog_text.specs.Interface.{port_widths}
use Rattle.verilog_text.specs.Module.{Module, Wire, state_widths, widths_of, IsWire, IsLawful}
use Rattle.verilog_text.specs.Run.{FitWidths}
use Rattle.verilog_text.specs.State.{register_widths, wire_widths, FitsModule}

-- an expression reads its own signals alone
abbrev pub ReadsItsOwn : Type 0
ReadsItsOwn = (old new old_values new_values : List ℕ) (context : ℕ) (e : Expr) →
    ((signal : ℕ) → signal < length old → slice_index new signal ≡ slice_index old signal) →
    ((signal : ℕ) → signal < length old → slice_index new_values signal ≡ slice_index old_values signal) →
    IsValid old e → value_of new new_values context e ≡ value_of old old_values context e

-- what a target of this width takes of a right side, over these values of the module's names
abbrev pub over : Module → (values : List ℕ) → (width : ℕ) → Expr → ℕ
over m values width e = value_of (widths_of m) values (max width (width_of (widths_of m) e)) e % 2 ^ width

table_agrees : (sw ww : List ℕ) (place : ℕ) (s : ℕ) → s < length (sw ++ take place ww) → place ≤ length ww →
    slice_index (sw ++ ww) s ≡ slice_index (sw ++ take place ww) s
table_agrees [] ww place s lt le = sym (get_or-take place ww s 0 (omega (arith, length-take-le place ww le)))
table_agrees (w ∷ sw) ww place zero lt le = refl
table_agrees (w ∷ sw) ww place (suc s) lt le = table_agrees sw ww place s (omega arith) le

pub append_agrees : (sv xs ys : List ℕ) (n : ℕ) → ((k : ℕ) → k < n → slice_index xs k ≡ slice_index ys k) →
    (s : ℕ) → s < length sv + n → slice_index (sv ++ xs) s ≡ slice_index (sv ++ ys) s
append_agrees [] xs ys n same s lt = same s (omega arith)
append_agrees (v ∷ sv) xs ys n same zero lt = refl
append_agrees (v ∷ sv) xs ys n same (suc s) lt = append_agrees sv xs ys n same s (omega arith)

pub fit_length : (widths values : List ℕ) → FitWidths widths values → length values ≡ length widths
fit_length [] [] fits = refl
fit_length [] (v ∷ values) fits = absurd fits
fit_length (w ∷ widths) [] fits = absurd fits
fit_length (w ∷ widths) (v ∷ values) fits = ap suc (fit_length widths values fits.1)

-- the values of the inputs and registers
abbrev pub state_of : (reset eot : ℕ) → (values state : List ℕ) → List ℕ
state_of reset eot values state = reset ∷ eot ∷ values ++ state

pub state_length : (m : Module) (reset eot : ℕ) (values state : List ℕ) → FitsModule m values state →
    length (state_of reset eot values state) ≡ length (state_widths m)
state_length m reset eot values state fits = omega (
  arith,
  length-append values state,
  length-append (port_widths m.ports) (register_widths m),
  fit_length (port_widths m.ports) values fits.ports,
  fit_length (register_widths m) state fits.registers,
)

at_some : {X : Type 0} (xs : List X) (k : ℕ) (x : X) (P : X → Type 0) → slice_get xs k ≡ Some x →
    IfSome (slice_get xs k) P → P x
at_some [] k x P at h = absurd (cc)
at_some (y ∷ xs) zero x P at h = let same : y ≡ x = cc in subst P same h
at_some (y ∷ xs) (suc k) x P at h = at_some xs k x P at h

pub wire_reads_earlier : ReadsItsOwn → (m : Module) → IsLawful m → (sv xs ys : List ℕ) →
    length sv ≡ length (state_widths m) → (place : ℕ) (w : Wire) → slice_get m.wires place ≡ Some w →
    ((k : ℕ) → k < place → slice_index xs k ≡ slice_index ys k) →
    over m (sv ++ xs) w.width w.value ≡ over m (sv ++ ys) w.width w.value
wire_reads_earlier law m lawful sv xs ys size place w at same =
    let is : IsWire m place w = at_some m.wires place w (IsWire m place) at (lawful.wires place) in
    let us = state_widths m ++ take place (wire_widths m) in
    let within : place ≤ length (wire_widths m) =
    omega (arith, slice_get_within m.wires place w at, length-map m.wires (λ (v : Wire). v.width)) in
    let count : length us ≡ length sv + place = omega (
      arith,
      size,
      length-append (state_widths m) (take place (wire_widths m)),
      length-take-le place (wire_widths m) within,
    ) in
    let context = max w.width (width_of (widths_of m) w.value) in
    let tables : (s : ℕ) → s < length us → slice_index (widths_of m) s ≡ slice_index us s =
    λ s lt. table_agrees (state_widths m) (wire_widths m) place s lt within in
    let first : value_of (widths_of m) (sv ++ xs) context w.value ≡ value_of us (sv ++ ys) context w.value =
    law us (widths_of m) (sv ++ ys) (sv ++ xs) context w.value tables
    (λ s lt. append_agrees sv xs ys place same s (omega (arith, count))) is.value.valid in
    let second : value_of (widths_of m) (sv ++ ys) context w.value ≡ value_of us (sv ++ ys) context w.value =
    law us (widths_of m) (sv ++ ys) (sv ++ ys) context w.value tables (λ s lt. refl) is.value.valid in
    ap (λ x. x % 2 ^ w.width) (first ∙ sym second)
