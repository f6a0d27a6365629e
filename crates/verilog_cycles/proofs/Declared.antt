-- The wires and registers as the code declares them, one after the other.
use Rattle.std.proofs.Common.{◌≡◌, ℕ, zero, suc, ◌+◌, ◌<◌, ◌≤◌, List, [], ◌∷◌, ◌++◌, map, take, length, refl, ap, sym}
use Rattle.std.proofs.Common.{◌∙◌, arith, subst, Some, get_or}
use Rattle.std.proofs.lemmas.List.{map-append}
use Rattle.std.specs.Prelude.{slice_get, All}
use Rattle.psl_model.specs.Limits.{vector_limit}
use Rattle.psl_model.specs.Valid.{IsValid}
use Rattle.psl_model.specs.View.{expr_of}
use Rattle.verilog_text.specs.Module.{Module, Wire, state_widths, widths_of, IsLawful}
use Rattle.verilog_text.specs.View.{wire_of, register_of}
use Rattle.verilog_text.specs.declared.module.WireDecl.{WireDecl}
use Rattle.verilog_text.specs.declared.module.RegDecl.{RegDecl}
use Rattle.verilog_cycles.specs.declared.nodes.Node.{Node}
use Rattle.verilog_cycles.specs.inner.Ready.{IsLine, AreWires, AreNexts}
use Rattle.verilog_cycles.proofs.Names.{Reads, ReadsWidth, wires_more, nexts_more}
use Rattle.verilog_cycles.proofs.Narrow.{wire_widths, wire_at, register_at, narrow_before}

-- the item that is read is at its place
get_mapped : {X Y : Type 0} (f : X → Y) (xs : List X) (k : ℕ) (x : X) → k < length xs → x ≡ get_or xs k x →
    slice_get (map f xs) k ≡ Some (f x)
get_mapped f [] k x lt at = absurd (omega arith)
get_mapped f (y ∷ xs) zero x lt at = ap (λ z. Some (f z)) (sym at)
get_mapped f (y ∷ xs) (suc k) x lt at = get_mapped f xs k x (omega arith) at

take_suc : {X : Type 0} (xs : List X) (k : ℕ) (x : X) → k < length xs → x ≡ get_or xs k x → take (suc k) xs ≡ take k
    xs ++ x ∷ []
take_suc [] k x lt at = absurd (omega arith)
take_suc (y ∷ xs) zero x lt at = ap (λ z. z ∷ []) (sym at)
take_suc (y ∷ xs) (suc k) x lt at = ap (λ zs. y ∷ zs) (take_suc xs k x (omega arith) at)

pub take_mapped : {X Y : Type 0} (f : X → Y) (xs : List X) (k : ℕ) (x : X) → k < length xs → x ≡ get_or xs k x →
    map f (take (k + 1) xs) ≡ map f (take k xs) ++ f x ∷ []
take_mapped f xs k x lt at =
    let next : k + 1 ≡ suc k = omega arith in
    ap (λ n. map f (take n xs)) next ∙ ap (map f) (take_suc xs k x lt at) ∙ map-append f (take k xs) (x ∷ [])

take_twice : (ds : List WireDecl) (k : ℕ) → take k (map (λ (w : Wire). w.width) (map wire_of ds)) ≡ map (λ (w : Wire).
    w.width) (map wire_of (take k ds))
take_twice ds zero = refl
take_twice [] (suc k) = refl
take_twice (d ∷ ds) (suc k) = ap (λ ws. d.width ∷ ws) (take_twice ds k)

pub wire_there : (m : Module) (ds : List WireDecl) → map wire_of ds ≡ m.wires → (k : ℕ) (d : WireDecl) → k < length ds →
    d ≡ get_or ds k d → slice_get m.wires k ≡ Some (wire_of d)
wire_there m ds same k d lt at = subst (λ ws. slice_get ws k ≡ Some (wire_of d)) same (get_mapped wire_of ds k d lt at)

before : (m : Module) (ds : List WireDecl) → map wire_of ds ≡ m.wires → (k : ℕ) (widths : List ℕ) →
    widths ≡ state_widths m ++ map (λ (w : Wire). w.width) (map wire_of (take k ds)) →
    state_widths m ++ take k (wire_widths m) ≡ widths
before m ds same k widths is =
    ap (λ ws. state_widths m ++ take k (map (λ (w : Wire). w.width) ws)) (sym same)
    ∙ ap (λ ws. state_widths m ++ ws) (take_twice ds k) ∙ sym is

pub wire_valid : (m : Module) → IsLawful m → (ds : List WireDecl) → map wire_of ds ≡ m.wires → (k : ℕ) (d : WireDecl) →
    k < length ds → d ≡ get_or ds k d → (widths : List ℕ) →
    widths ≡ state_widths m ++ map (λ (w : Wire). w.width) (map wire_of (take k ds)) → IsValid widths (expr_of d.value)
wire_valid m lawful ds same k d lt at widths is =
    subst (λ ws. IsValid ws (expr_of d.value)) (before m ds same k widths is)
    (wire_at m lawful k (wire_of d) (wire_there m ds same k d lt at)).value.valid

pub widths_narrow : (m : Module) → IsLawful m → (ds : List WireDecl) → map wire_of ds ≡ m.wires → (k : ℕ) (widths :
    List ℕ) →
    widths ≡ state_widths m ++ map (λ (w : Wire). w.width) (map wire_of (take k ds)) → All (λ w. w ≤ vector_limit)
    widths
widths_narrow m lawful ds same k widths is =
    subst (λ ws. All (λ w. w ≤ vector_limit) ws) (before m ds same k widths is) (narrow_before m lawful k)

pub wire_width : (m : Module) → IsLawful m → (ds : List WireDecl) → map wire_of ds ≡ m.wires → (k : ℕ) (d : WireDecl) →
    k < length ds → d ≡ get_or ds k d → d.width ≤ vector_limit
wire_width m lawful ds same k d lt at = (wire_at m lawful k (wire_of d) (wire_there m ds same k d lt at)).width.1

pub wire_more : Reads → ReadsWidth → (first : ℕ) (front fronts : List ℕ) (ds : List WireDecl) (k : ℕ) (d : WireDecl) →
    k < length ds → d ≡ get_or ds k d → (ws ps us qs : List ℕ) (old new : List Node) (p : ℕ) →
    AreWires first front fronts (map wire_of (take k ds)) ws ps old → IsValid ws (expr_of d.value) →
    IsLine first ws ps old new d.width (expr_of d.value) p → us ≡ ws ++ d.width ∷ [] → qs ≡ ps ++ p ∷ [] →
    AreWires first front fronts (map wire_of (take (k + 1) ds)) us qs new
wire_more reads width first front fronts ds k d lt at ws ps us qs old new p is valid line us_is qs_is =
    subst (λ ws2. AreWires first front fronts ws2 us qs new) (sym (take_mapped wire_of ds k d lt at))
    (subst (λ us2. AreWires first front fronts (map wire_of (take k ds) ++ wire_of d ∷ []) us2 qs new) (sym us_is)
    (subst (λ qs2. AreWires first front fronts (map wire_of (take k ds) ++ wire_of d ∷ []) (ws ++ d.width ∷
    []) qs2 new) (sym qs_is)
    (wires_more reads width first front fronts (map wire_of (take k ds)) ws ps old new (wire_of d) p is
    valid line)))

pub register_there : (m : Module) (ds : List RegDecl) → map register_of ds ≡ m.registers → (k : ℕ) (d : RegDecl) →
    k < length ds → d ≡ get_or ds k d → slice_get m.registers k ≡ Some (register_of d)
register_there m ds same k d lt at = subst (λ rs. slice_get rs k ≡ Some (register_of d)) same (get_mapped register_of
    ds k d lt at)

pub register_valid : (m : Module) → IsLawful m → (ds : List RegDecl) → map register_of ds ≡ m.registers → (k : ℕ) (d :
    RegDecl) →
    k < length ds → d ≡ get_or ds k d → (widths : List ℕ) → widths ≡ widths_of m → IsValid widths (expr_of d.next)
register_valid m lawful ds same k d lt at widths is =
    subst (λ ws. IsValid ws (expr_of d.next)) (sym is)
    (register_at m lawful k (register_of d) (register_there m ds same k d lt at)).next.valid

pub register_width : (m : Module) → IsLawful m → (ds : List RegDecl) → map register_of ds ≡ m.registers → (k : ℕ) (d :
    RegDecl) →
    k < length ds → d ≡ get_or ds k d → d.width ≤ vector_limit
register_width m lawful ds same k d lt at = (register_at m lawful k (register_of d) (register_there m ds same k d lt
    at)).width.1

pub next_more : (first : ℕ) (ws ps : List ℕ) (ds : List RegDecl) (k : ℕ) (d : RegDecl) → k < length ds → d ≡ get_or ds
    k d →
    (nexts more : List ℕ) (old mid new : List Node) (p : ℕ) → AreNexts first ws ps (map register_of (take k ds)) nexts
    old mid →
    IsLine first ws ps mid new d.width (expr_of d.next) p → more ≡ nexts ++ p ∷ [] →
    AreNexts first ws ps (map register_of (take (k + 1) ds)) more old new
next_more first ws ps ds k d lt at nexts more old mid new p is line more_is =
    subst (λ rs. AreNexts first ws ps rs more old new) (sym (take_mapped register_of ds k d lt at))
    (subst (λ ns. AreNexts first ws ps (map register_of (take k ds) ++ register_of d ∷ []) ns old new) (sym more_is)
    (nexts_more first ws ps (map register_of (take k ds)) nexts old mid new (register_of d) p is line))
