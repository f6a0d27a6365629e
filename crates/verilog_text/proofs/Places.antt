-- The name at each place of a module's table.
use Rattle.std.proofs.Common.{◌≡◌, ℕ, zero, suc, ◌+◌, ◌-◌, ◌<◌, ◌≤◌, List, [], ◌∷◌, ◌++◌, map, length, refl, ap, ◌∙◌}
use Rattle.std.proofs.Common.{arith, Some, None, append_assoc}
use Rattle.std.proofs.lemmas.List.{length-map, length-append}
use Rattle.std.specs.Prelude.{slice_get, decimal, codes}
use Rattle.psl_model.specs.declared.names.Signal.{Signal}
use Rattle.verilog_text.specs.declared.module.Module as code
use Rattle.verilog_text.specs.Module.{numbered_names, register_stem, wire_stem, port_names, register_names, wire_names}
use Rattle.verilog_text.specs.Module.{names_of}
use Rattle.verilog_text.specs.View.{module_of, register_of, wire_of}
use Rattle.verilog_text.specs.Text.{name_at, register_name, wire_name}

first_part : (xs ys : List (List ℕ)) (place : ℕ) → place < length xs → name_at (xs ++ ys) place ≡ name_at xs place
first_part [] ys place lt = absurd (omega arith)
first_part (x ∷ xs) ys zero lt = refl
first_part (x ∷ xs) ys (suc place) lt = let lower : place < length xs = omega arith in first_part xs ys place lower

second_part : (xs ys : List (List ℕ)) (place rest : ℕ) → place ≡ length xs + rest →
    name_at (xs ++ ys) place ≡ name_at ys rest
second_part [] ys place rest e = let same : place ≡ rest = omega arith in ap (name_at ys) same
second_part (x ∷ xs) ys zero rest e = absurd (omega arith)
second_part (x ∷ xs) ys (suc place) rest e = let lower : place ≡ length xs + rest = omega arith in
    second_part xs ys place rest lower

past_the_end : (xs : List (List ℕ)) (place : ℕ) → length xs ≤ place → name_at xs place ≡ []
past_the_end [] place le = refl
past_the_end (x ∷ xs) zero le = absurd (omega arith)
past_the_end (x ∷ xs) (suc place) le = let lower : length xs ≤ place = omega arith in past_the_end xs place lower

port_in : (ports : List Signal) (place : ℕ) (port : Signal) (names : List (List ℕ)) →
    slice_get ports place ≡ Some port →
    name_at (map (λ (p : Signal). p.name) ports ++ names) place ≡ port.name
port_in [] place port names e = cc
port_in (p ∷ ports) zero port names e = let same : p ≡ port = cc in ap (λ (q : Signal). q.name) same
port_in (p ∷ ports) (suc place) port names e = port_in ports place port names e

numbered_in : {X : Type 0} (stem : List ℕ) (from : ℕ) (xs : List X) (place number : ℕ) → number ≡ from + place →
    place < length xs →
    name_at (numbered_names stem from xs) place ≡ stem ++ decimal number
numbered_in stem from [] place number e lt = absurd (omega arith)
numbered_in stem from (x ∷ xs) zero number e lt = let same : from ≡ number = omega arith in
    ap (λ (n : ℕ). stem ++ decimal n) same
numbered_in stem from (x ∷ xs) (suc place) number e lt =
    let lower : place < length xs = omega arith in
    let same : number ≡ suc from + place = omega arith in
    numbered_in stem (suc from) xs place number same lower

how_many : {X : Type 0} (stem : List ℕ) (from : ℕ) (xs : List X) → length (numbered_names stem from xs) ≡ length xs
how_many stem from [] = refl
how_many stem from (x ∷ xs) = ap suc (how_many stem (suc from) xs)

registers_of : (m : code.Module) → length (register_names (module_of m)) ≡ length m.regs
registers_of m = how_many register_stem 0 (map register_of m.regs) ∙ length-map m.regs register_of

wires_of : (m : code.Module) → length (wire_names (module_of m)) ≡ length m.wires
wires_of m = how_many wire_stem 0 (map wire_of m.wires) ∙ length-map m.wires wire_of

pub reg_at : (m : code.Module) (place : ℕ) → place < length m.regs →
    name_at (register_names (module_of m) ++ wire_names (module_of m)) place ≡ register_name place
unfolding register_name
reg_at m place lt =
    let below : place < length (register_names (module_of m)) = omega (arith, registers_of m) in
    let listed : place < length (map register_of m.regs) = omega (arith, length-map m.regs register_of) in
    first_part (register_names (module_of m)) (wire_names (module_of m)) place below
    ∙ numbered_in register_stem 0 (map register_of m.regs) place place (omega arith) listed

pub wire_at : (m : code.Module) (place : ℕ) → length m.regs ≤ place → place - length m.regs < length m.wires →
    name_at (register_names (module_of m) ++ wire_names (module_of m)) place ≡ wire_name (place - length m.regs)
unfolding wire_name
wire_at m place le lt =
    let number : ℕ = place - length m.regs in
    let sum : place ≡ length (register_names (module_of m)) + number = omega (arith, registers_of m) in
    let listed : number < length (map wire_of m.wires) = omega (arith, length-map m.wires wire_of) in
    second_part (register_names (module_of m)) (wire_names (module_of m)) place number sum
    ∙ numbered_in wire_stem 0 (map wire_of m.wires) number number (omega arith) listed

pub none_at : (m : code.Module) (place : ℕ) → length m.regs + length m.wires ≤ place →
    name_at (register_names (module_of m) ++ wire_names (module_of m)) place ≡ []
none_at m place le =
    past_the_end (register_names (module_of m) ++ wire_names (module_of m)) place
    (omega (arith, length-append (register_names (module_of m)) (wire_names (module_of m)), registers_of m, wires_of m))

pub port_at : (m : code.Module) (place : ℕ) (port : Signal) → slice_get m.ports place ≡ Some port →
    name_at (port_names (module_of m) ++ register_names (module_of m) ++ wire_names (module_of m)) place ≡ port.name
port_at m place port found =
    ap (λ names. name_at names place)
    (append_assoc (port_names (module_of m)) (register_names (module_of m)) (wire_names (module_of m)))
    ∙ port_in m.ports place port (register_names (module_of m) ++ wire_names (module_of m)) found

pub numbered_at : (m : code.Module) (place : ℕ) → length m.ports ≤ place →
    name_at (port_names (module_of m) ++ register_names (module_of m) ++ wire_names (module_of m)) place
    ≡ name_at (register_names (module_of m) ++ wire_names (module_of m)) (place - length m.ports)
numbered_at m place le =
    ap (λ names. name_at names place)
    (append_assoc (port_names (module_of m)) (register_names (module_of m)) (wire_names (module_of m)))
    ∙ second_part (port_names (module_of m)) (register_names (module_of m) ++ wire_names (module_of m)) place
    (place - length m.ports)
    (omega (arith, length-map m.ports (λ (p : Signal). p.name)))

-- a look-up that finds nothing is past the end
pub none_past : {X : Type 0} (xs : List X) (place : ℕ) → None ≡ slice_get xs place → length xs ≤ place
none_past [] place e = omega arith
none_past (x ∷ xs) zero e = cc
none_past (x ∷ xs) (suc place) e = let past : length xs ≤ place = none_past xs place e in omega arith

pub reset_at : (m : code.Module) → name_at (names_of (module_of m)) 0 ≡ codes "mbac_rst"
unfolding names_of
reset_at m = refl

pub end_at : (m : code.Module) → name_at (names_of (module_of m)) 1 ≡ codes "mbac_eot"
unfolding names_of
end_at m = refl

pub other_at : (m : code.Module) (place : ℕ) → 2 ≤ place →
    name_at (names_of (module_of m)) place
    ≡ name_at (port_names (module_of m) ++ register_names (module_of m) ++ wire_names (module_of m)) (place - 2)
unfolding names_of
other_at m zero le = absurd (omega arith)
other_at m (suc zero) le = absurd (omega arith)
other_at m (suc (suc place)) le = let same : place ≡ suc (suc place) - 2 = omega arith in
    ap (name_at (port_names (module_of m) ++ register_names (module_of m) ++ wire_names (module_of m))) same
