-- What a lawful module's widths are.
use Rattle.std.proofs.Common.{◌≡◌, ℕ, zero, suc, ◌<◌, ◌≤◌, ◌^◌, List, [], ◌∷◌, ◌++◌, map, take, length, refl, ap}
use Rattle.std.proofs.Common.{◌∙◌, arith, subst, Some, get_or}
use Rattle.std.proofs.Math.ListN.{replicate}
use Rattle.std.proofs.Math.Pow.{pow_mono}
use Rattle.std.proofs.lemmas.Nat.{pow_pos}
use Rattle.std.specs.Prelude.{slice_get, IfSome, All}
use Rattle.psl_model.specs.declared.names.Signal.{Signal}
use Rattle.psl_model.specs.Limits.{vector_limit}
use Rattle.psl_model.specs.Value.{FitWidths}
use Rattle.verilog_text.specs.Module.{Module, Wire, Register, state_widths, widths_of, IsWire, IsPort, IsRegister}
use Rattle.verilog_text.specs.Module.{IsLawful}
use Rattle.verilog_text.specs.View.{register_of}
use Rattle.verilog_text.specs.declared.module.RegDecl.{RegDecl}
use Rattle.verilog_text.specs.Interface.{port_widths}
use Rattle.verilog_text.specs.State.{register_widths}
use Rattle.verilog_cycles.specs.Steps.{reset_values}

abbrev pub wire_widths : Module → List ℕ
wire_widths m = map (λ (w : Wire). w.width) m.wires

all_map : {X : Type 0} (f : X → ℕ) (P : ℕ → Type 0) (xs : List X) → All (λ x. P (f x)) xs → All P (map f xs)
all_map f P [] all k d lt = absurd (omega arith)
all_map f P (x ∷ xs) all zero d lt = all 0 x (omega arith)
all_map f P (x ∷ xs) all (suc k) d lt = all_map f P xs (λ j e below. all (suc j) e (omega arith)) k d (omega arith)

all_than : {X : Type 0} (P Q : X → Type 0) (xs : List X) → ((x : X) → P x → Q x) → All P xs → All Q xs
all_than P Q xs weaker all k d lt = weaker (get_or xs k d) (all k d lt)

all_append : (P : ℕ → Type 0) (xs ys : List ℕ) → All P xs → All P ys → All P (xs ++ ys)
all_append P [] ys a b k d lt = b k d lt
all_append P (x ∷ xs) ys a b zero d lt = a 0 d (omega arith)
all_append P (x ∷ xs) ys a b (suc k) d lt = all_append P xs ys (λ j e below. a (suc j) e (omega arith)) b k d (omega
    arith)

all_places : {X : Type 0} (P : X → Type 0) (xs : List X) → ((k : ℕ) (x : X) → slice_get xs k ≡ Some x → P x) → All P xs
all_places P [] each k d lt = absurd (omega arith)
all_places P (x ∷ xs) each zero d lt = each 0 x refl
all_places P (x ∷ xs) each (suc k) d lt = all_places P xs (λ j y at. each (suc j) y at) k d (omega arith)

pub at_some : {X : Type 0} (xs : List X) (k : ℕ) (x : X) (P : X → Type 0) → slice_get xs k ≡ Some x → IfSome
    (slice_get xs k) P → P x
at_some [] k x P at h = absurd (cc)
at_some (y ∷ xs) zero x P at h = let same : y ≡ x = cc in subst P same h
at_some (y ∷ xs) (suc k) x P at h = at_some xs k x P at h

pub wire_at : (m : Module) → IsLawful m → (k : ℕ) (w : Wire) → slice_get m.wires k ≡ Some w → IsWire m k w
wire_at m lawful k w at = at_some m.wires k w (IsWire m k) at (lawful.wires k)

all_get : {X : Type 0} (P : X → Type 0) (xs : List X) (k : ℕ) (x : X) → All P xs → slice_get xs k ≡ Some x → P x
all_get P [] k x all at = absurd (cc)
all_get P (y ∷ xs) zero x all at = let same : y ≡ x = cc in subst P same (all 0 y (omega arith))
all_get P (y ∷ xs) (suc k) x all at = all_get P xs k x (λ j d below. all (suc j) d (omega arith)) at

pub register_at : (m : Module) → IsLawful m → (k : ℕ) (r : Register) → slice_get m.registers k ≡ Some r → IsRegister m r
register_at m lawful k r at = all_get (IsRegister m) m.registers k r lawful.registers at

ports_narrow : (m : Module) → IsLawful m → All (λ w. w ≤ vector_limit) (port_widths m.ports)
ports_narrow m lawful =
    all_map (λ (p : Signal). p.width) (λ w. w ≤ vector_limit) m.ports (all_than IsPort (λ (p : Signal). p.width ≤
    vector_limit) m.ports (λ p is. is.width.1) lawful.ports)

registers_narrow : (m : Module) → IsLawful m → All (λ w. w ≤ vector_limit) (register_widths m)
registers_narrow m lawful =
    all_map (λ (r : Register). r.width) (λ w. w ≤ vector_limit) m.registers (all_than (IsRegister m) (λ (r :
    Register). r.width ≤ vector_limit) m.registers (λ r is. is.width.1) lawful.registers)

pub wires_narrow : (m : Module) → IsLawful m → All (λ w. w ≤ vector_limit) (wire_widths m)
wires_narrow m lawful =
    all_map (λ (w : Wire). w.width) (λ w. w ≤ vector_limit) m.wires (all_places (λ (w : Wire). w.width ≤ vector_limit)
    m.wires (λ k w at. (wire_at m lawful k w at).width.1))

pub state_narrow : (m : Module) → IsLawful m → All (λ w. w ≤ vector_limit) (state_widths m)
state_narrow m lawful =
    all_append (λ w. w ≤ vector_limit) (1 ∷ 1 ∷ port_widths m.ports) (register_widths m)
    (all_append (λ w. w ≤ vector_limit) (1 ∷ 1 ∷ []) (port_widths m.ports) ones (ports_narrow m lawful))
    (registers_narrow m lawful)
  where
    ones : All (λ w. w ≤ vector_limit) (1 ∷ 1 ∷ [])
    ones zero d lt = omega arith
    ones (suc zero) d lt = omega arith
    ones (suc (suc k)) d lt = absurd (omega arith)

pub all_narrow : (m : Module) → IsLawful m → All (λ w. w ≤ vector_limit) (widths_of m)
all_narrow m lawful = all_append (λ w. w ≤ vector_limit) (state_widths m) (wire_widths m) (state_narrow m lawful)
    (wires_narrow m lawful)

-- the widths of the names before a wire
all_front : (P : ℕ → Type 0) (xs : List ℕ) (k : ℕ) → All P xs → All P (take k xs)
all_front P xs zero all j d lt = absurd (omega arith)
all_front P [] (suc k) all j d lt = absurd (omega arith)
all_front P (x ∷ xs) (suc k) all zero d lt = all 0 d (omega arith)
all_front P (x ∷ xs) (suc k) all (suc j) d lt = all_front P xs k (λ i e below. all (suc i) e (omega arith)) j d (omega
    arith)

pub narrow_before : (m : Module) → IsLawful m → (k : ℕ) → All (λ w. w ≤ vector_limit) (state_widths m ++ take k
    (wire_widths m))
narrow_before m lawful k =
    all_append (λ w. w ≤ vector_limit) (state_widths m) (take k (wire_widths m)) (state_narrow m lawful)
    (all_front (λ w. w ≤ vector_limit) (wire_widths m) k (wires_narrow m lawful))

-- values

fit_small : (widths values : List ℕ) → All (λ w. w ≤ vector_limit) widths → FitWidths widths values → All (λ x. x < 2
    ^ 64) values
fit_small [] [] all fits k d lt = absurd (omega arith)
fit_small [] (v ∷ values) all fits k d lt = absurd fits
fit_small (w ∷ widths) [] all fits k d lt = absurd fits
fit_small (w ∷ widths) (v ∷ values) all fits zero d lt = let room : 2 ^ w ≤ 2 ^ 64 = pow_mono (all 0 w (omega arith))
    in omega (arith, fits.0)
fit_small (w ∷ widths) (v ∷ values) all fits (suc k) d lt = fit_small widths values (λ j e below. all (suc j) e (omega
    arith)) fits.1 k d (omega arith)

pub ports_small : (m : Module) → IsLawful m → (values : List ℕ) → FitWidths (port_widths m.ports) values →
    All (λ x. x < 2 ^ 64) values
ports_small m lawful values fits = fit_small (port_widths m.ports) values (ports_narrow m lawful) fits

initials_fit : (m : Module) (rs : List Register) → All (IsRegister m) rs → FitWidths (map (λ (r : Register). r.width)
    rs) (map (λ (r : Register). r.initial) rs)
initials_fit m [] all = tt
initials_fit m (r ∷ rs) all = ((all 0 r (omega arith)).fits, initials_fit m rs (λ k d lt. all (suc k) d (omega arith)))

pub initial_fits : (m : Module) → IsLawful m → FitWidths (register_widths m) (reset_values m)
initial_fits m lawful = initials_fit m m.registers lawful.registers

pub initials_small : (m : Module) → IsLawful m → All (λ x. x < 2 ^ 64) (reset_values m)
initials_small m lawful = fit_small (register_widths m) (reset_values m) (registers_narrow m lawful) (initial_fits m
    lawful)

pub fit_length : (widths values : List ℕ) → FitWidths widths values → length values ≡ length widths
fit_length [] [] fits = refl
fit_length [] (v ∷ values) fits = absurd fits
fit_length (w ∷ widths) [] fits = absurd fits
fit_length (w ∷ widths) (v ∷ values) fits = ap suc (fit_length widths values fits.1)

pub fit_append : (ws us vs xs : List ℕ) → FitWidths ws vs → FitWidths us xs → FitWidths (ws ++ us) (vs ++ xs)
fit_append [] us [] xs a b = b
fit_append [] us (v ∷ vs) xs a b = absurd a
fit_append (w ∷ ws) us [] xs a b = absurd a
fit_append (w ∷ ws) us (v ∷ vs) xs a b = (a.0, fit_append ws us vs xs a.1 b)

pub zeroes_fit : (rs : List Register) → FitWidths (map (λ (r : Register). r.width) rs) (map (λ (r : Register). 0) rs)
zeroes_fit [] = tt
zeroes_fit (r ∷ rs) = (pow_pos r.width, zeroes_fit rs)

pub zeroes_are : (n : ℕ) (items : List ℕ) (ds : List RegDecl) → items ≡ replicate {A = ℕ} n 0 → n ≡ length ds →
    items ≡ map (λ (r : Register). 0) (map register_of ds)
zeroes_are n items ds is count = is ∙ ap (λ (k : ℕ). replicate {A = ℕ} k 0) count ∙ each ds
  where
    each : (rs : List RegDecl) → replicate {A = ℕ} (length rs) 0 ≡ map (λ (r : Register). 0) (map register_of rs)
    each [] = refl
    each (r ∷ rs) = ap (λ (xs : List ℕ). 0 ∷ xs) (each rs)
