-- The names of a lawful module differ.
use Rattle.std.proofs.Common.{◌≡◌, ℕ, suc, ◌+◌, ◌<◌, ◌≤◌, ◌^◌, true, List, [], ◌∷◌, ◌++◌, length, map, drop, get_or}
use Rattle.std.proofs.Common.{refl, ap, sym, ◌∙◌, arith, subst, append-nil}
use Rattle.std.proofs.Math.Seq.{drop-append_seam}
use Rattle.std.proofs.lemmas.Fmt.{decimal_injective}
use Rattle.std.specs.Prelude.{◌≢◌, AllPairs, codes, decimal, nat_eq}
use Rattle.std.specs.List.{starts_with}
use Rattle.psl_model.specs.declared.names.Signal.{Signal}
use Rattle.psl_model.specs.Names.{IsUsableName, IsIdentifier, between, checker_prefix}
use Rattle.verilog_text.specs.Module.{Module, numbered_names, register_stem, wire_stem, port_names, register_names}
use Rattle.verilog_text.specs.Module.{wire_names, names_of}
use Rattle.verilog_text.specs.Text.{register_name, wire_name}
use Rattle.verilog_reader.proofs.Pieces.{decimal_begins}
use Rattle.verilog_reader.proofs.ModuleSpells.{IsPortList}
use Rattle.verilog_reader.proofs.NewNames.{Missing, Differ, differ_by_places, AreNames, both_names, register_identifier}
use Rattle.verilog_reader.proofs.NewNames.{wire_identifier}

-- lists of names, one after the other

missing_both : (name : List ℕ) (xs ys : List (List ℕ)) → Missing name xs → Missing name ys → Missing name (xs ++ ys)
missing_both name [] ys one two = two
missing_both name (x ∷ xs) ys one two = (one.0, missing_both name xs ys one.1 two)

abbrev Apart : List (List ℕ) → List (List ℕ) → Type 0
Apart [] ys = Unit {0}
Apart (x ∷ xs) ys = Missing x ys × Apart xs ys

apart_both : (xs zs ys : List (List ℕ)) → Apart xs ys → Apart zs ys → Apart (xs ++ zs) ys
apart_both [] zs ys one two = two
apart_both (x ∷ xs) zs ys one two = (one.0, apart_both xs zs ys one.1 two)

differ_both : (xs ys : List (List ℕ)) → Differ xs → Differ ys → Apart xs ys → Differ (xs ++ ys)
differ_both [] ys one two apart = two
differ_both (x ∷ xs) ys one two apart = (missing_both x xs ys one.0 apart.0, differ_both xs ys one.1 two apart.1)

-- names with numbers

missing_numbered : {X : Type 0} (name stem : List ℕ) (number : ℕ) (xs : List X) → number + length xs ≤ 2 ^ 64 →
    ((k : ℕ) → number ≤ k → k < 2 ^ 64 → name ≢ stem ++ decimal k) → Missing name (numbered_names stem number xs)
missing_numbered name stem number [] few apart = tt
missing_numbered name stem number (x ∷ xs) few apart =
    let least : number ≤ number = omega arith in
    let small : number < 2 ^ 64 = omega arith in
    let fewer : suc number + length xs ≤ 2 ^ 64 = omega arith in
    (apart number least small, missing_numbered name stem (suc number) xs fewer (λ k le lt. apart k (omega arith) lt))

same_stem : (stem xs ys : List ℕ) → stem ++ xs ≡ stem ++ ys → xs ≡ ys
same_stem stem xs ys e = sym (drop-append_seam stem xs) ∙ ap (drop (length stem)) e ∙ drop-append_seam stem ys

numbers_apart : (stem : List ℕ) (number k : ℕ) → number < 2 ^ 64 → k < 2 ^ 64 → suc number ≤ k →
    stem ++ decimal number ≢ stem ++ decimal k
numbers_apart stem number k small lt le e =
    let same : number ≡ k = decimal_injective number k small lt (same_stem stem (decimal number) (decimal k) e) in
    absurd (omega arith)

numbered_differ : {X : Type 0} (stem : List ℕ) (number : ℕ) (xs : List X) → number + length xs ≤ 2 ^ 64 →
    Differ (numbered_names stem number xs)
numbered_differ stem number [] few = tt
numbered_differ stem number (x ∷ xs) few =
    let small : number < 2 ^ 64 = omega arith in
    let fewer : suc number + length xs ≤ 2 ^ 64 = omega arith in (
      missing_numbered (stem ++ decimal number) stem (suc number) xs fewer
          (λ k le lt. numbers_apart stem number k small lt le),
      numbered_differ stem (suc number) xs fewer,
    )

-- one kind of name is none of another kind

register_no_wire : (xs ys : List ℕ) → register_stem ++ xs ≢ wire_stem ++ ys
register_no_wire xs ys e =
    let letters : ◌≡◌ {A = ℕ} 114 110 = ap (λ (l : List ℕ). get_or l 5 0) e in
    absurd (omega arith)

reset_no_wire : (ys : List ℕ) → codes "mbac_rst" ≢ wire_stem ++ ys
reset_no_wire ys e =
    let letters : ◌≡◌ {A = ℕ} 114 110 = ap (λ (l : List ℕ). get_or l 5 0) e in
    absurd (omega arith)

end_no_register : (ys : List ℕ) → codes "mbac_eot" ≢ register_stem ++ ys
end_no_register ys e =
    let letters : ◌≡◌ {A = ℕ} 101 114 = ap (λ (l : List ℕ). get_or l 5 0) e in
    absurd (omega arith)

end_no_wire : (ys : List ℕ) → codes "mbac_eot" ≢ wire_stem ++ ys
end_no_wire ys e =
    let letters : ◌≡◌ {A = ℕ} 101 110 = ap (λ (l : List ℕ). get_or l 5 0) e in
    absurd (omega arith)

reset_no_end : codes "mbac_rst" ≢ codes "mbac_eot"
reset_no_end e =
    let letters : ◌≡◌ {A = ℕ} 114 101 = ap (λ (l : List ℕ). get_or l 5 0) e in
    absurd (omega arith)

no_digit : between 48 57 115 ≡ true → ⊥
no_digit e = cc

-- a number begins with a digit
reset_no_register : (k : ℕ) → k < 2 ^ 64 → codes "mbac_rst" ≢ register_stem ++ decimal k
reset_no_register k small e =
    let begins = decimal_begins k [] small in
    let digits : decimal k ≡ begins.0 ∷ begins.1 = sym (append-nil (decimal k)) ∙ begins.2 in
    let letters : 115 ≡ begins.0 = ap (λ (l : List ℕ). get_or l 6 0) e ∙ ap (λ (l : List ℕ). get_or l 0 0) digits in
    no_digit (subst (λ (b : ℕ). between 48 57 b ≡ true) (sym letters) begins.3)

port_no_own : (name other : List ℕ) → IsUsableName name → starts_with nat_eq other checker_prefix ≡ true → name ≢ other
port_no_own name other usable own e =
    usable.no_prefix (ap (λ (n : List ℕ). starts_with nat_eq n checker_prefix) e ∙ own)

own_no_ports : (other : List ℕ) (ports : List Signal) → starts_with nat_eq other checker_prefix ≡ true →
    IsPortList ports → Missing other (map (λ (p : Signal). p.name) ports)
own_no_ports other [] own are = tt
own_no_ports other (port ∷ ports) own are =
    (λ e. port_no_own port.name other are.0.name own (sym e), own_no_ports other ports own are.1)

ports_no_numbered : {X : Type 0} (stem : List ℕ) (xs : List X) (ports : List Signal) →
    ((k : ℕ) → starts_with nat_eq (stem ++ decimal k) checker_prefix ≡ true) → 0 + length xs ≤ 2 ^ 64 →
    IsPortList ports →
    Apart (map (λ (p : Signal). p.name) ports) (numbered_names stem 0 xs)
ports_no_numbered stem xs [] own few are = tt
ports_no_numbered stem xs (port ∷ ports) own few are = (
  missing_numbered port.name stem 0 xs few (λ k le lt. port_no_own port.name (stem ++ decimal k) are.0.name (own k)),
  ports_no_numbered stem xs ports own few are.1,
)

registers_no_wires : {X Y : Type 0} (number : ℕ) (xs : List X) (ys : List Y) → 0 + length ys ≤ 2 ^ 64 →
    Apart (numbered_names register_stem number xs) (numbered_names wire_stem 0 ys)
registers_no_wires number [] ys few = tt
registers_no_wires number (x ∷ xs) ys few = (
  missing_numbered (register_stem ++ decimal number) wire_stem 0 ys few
      (λ k le lt. register_no_wire (decimal number) (decimal k)),
  registers_no_wires (suc number) xs ys few,
)

pub names_differ : (m : Module) → IsPortList m.ports → AllPairs (λ p q. p ≢ q) (map (λ (p : Signal). p.name) m.ports) →
    0 + length m.registers ≤ 2 ^ 64 → 0 + length m.wires ≤ 2 ^ 64 → Differ (names_of m)
unfolding names_of
names_differ m ports distinct registers wires =
    let p = port_names m in
    let r = register_names m in
    let w = wire_names m in
    let reset = codes "mbac_rst" in
    let eot = codes "mbac_eot" in
    let reset_later : Missing reset ((p ++ r) ++ w) = missing_both reset (p ++ r) w
    (missing_both reset p r (own_no_ports reset m.ports refl ports)
    (missing_numbered reset register_stem 0 m.registers registers (λ k le lt. reset_no_register k lt)))
    (missing_numbered reset wire_stem 0 m.wires wires (λ k le lt. reset_no_wire (decimal k))) in
    let eot_later : Missing eot ((p ++ r) ++ w) = missing_both eot (p ++ r) w
    (missing_both eot p r (own_no_ports eot m.ports refl ports)
    (missing_numbered eot register_stem 0 m.registers registers (λ k le lt. end_no_register (decimal k))))
    (missing_numbered eot wire_stem 0 m.wires wires (λ k le lt. end_no_wire (decimal k))) in
    let front : Differ (p ++ r) =
    differ_both p r (differ_by_places p distinct) (numbered_differ register_stem 0 m.registers registers)
    (ports_no_numbered register_stem m.registers m.ports (λ k. refl) registers ports) in
    let apart : Apart (p ++ r) w =
    apart_both p r w (ports_no_numbered wire_stem m.wires m.ports (λ k. refl) wires ports)
    (registers_no_wires 0 m.registers m.wires wires) in (
      (reset_no_end, reset_later),
      (eot_later, differ_both (p ++ r) w front (numbered_differ wire_stem 0 m.wires wires) apart),
    )

-- each of them is a name

numbered_are : {X : Type 0} (stem : List ℕ) (number : ℕ) (xs : List X) →
    ((k : ℕ) → k < 2 ^ 64 → IsIdentifier (stem ++ decimal k)) → number + length xs ≤ 2 ^ 64 →
    AreNames (numbered_names stem number xs)
numbered_are stem number [] is few = tt
numbered_are stem number (x ∷ xs) is few =
    let small : number < 2 ^ 64 = omega arith in
    let fewer : suc number + length xs ≤ 2 ^ 64 = omega arith in
    (is number small, numbered_are stem (suc number) xs is fewer)

ports_are : (ports : List Signal) → IsPortList ports → AreNames (map (λ (p : Signal). p.name) ports)
ports_are [] are = tt
ports_are (port ∷ ports) are = (are.0.name.identifier, ports_are ports are.1)

pub base_names : (m : Module) → IsPortList m.ports → 0 + length m.registers ≤ 2 ^ 64 →
    AreNames (codes "mbac_rst" ∷ codes "mbac_eot" ∷ port_names m ++ register_names m)
unfolding register_name
base_names m ports registers = (
  (refl, refl),
  (
    (refl, refl),
    both_names (port_names m) (register_names m) (ports_are m.ports ports)
        (numbered_are register_stem 0 m.registers register_identifier registers),
  ),
)

pub whole_are : (m : Module) → IsPortList m.ports → 0 + length m.registers ≤ 2 ^ 64 → 0 + length m.wires ≤ 2 ^ 64 →
    AreNames (names_of m)
unfolding names_of register_name wire_name
whole_are m ports registers wires = (
  (refl, refl),
  (
    (refl, refl),
    both_names (port_names m ++ register_names m) (wire_names m)
        (both_names (port_names m) (register_names m) (ports_are m.ports ports)
        (numbered_are register_stem 0 m.registers register_identifier registers))
        (numbered_are wire_stem 0 m.wires wire_identifier wires),
  ),
)
