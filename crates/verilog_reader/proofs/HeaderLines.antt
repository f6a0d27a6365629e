-- The header and the report, from both sides.
use Rattle.std.proofs.Common.{◌≡◌, ℕ, zero, suc, ◌<◌, List, [], ◌∷◌, ◌++◌, length, refl, ap, sym, ◌∙◌, arith, subst}
use Rattle.std.proofs.Common.{Some, None, append_assoc}
use Rattle.std.specs.Prelude.{Option, codes, flat_map, nat_eq}
use Rattle.std.specs.List.{starts_with}
use Rattle.psl_model.specs.declared.names.Signal.{Signal}
use Rattle.psl_model.specs.Names.{checker_prefix, IsUsableName}
use Rattle.verilog_reader.specs.inner.Pieces.{◌>>=◌, after_text, run_of, after_run}
use Rattle.verilog_reader.specs.inner.Lines.{begun, one_bit, is_port_name, port_name_at, port_names_with, port_names_at}
use Rattle.verilog_reader.proofs.Pieces.{bind_some, if_some, some_inj, none_some, after_text-text, after_text-only}
use Rattle.verilog_reader.proofs.Pieces.{run_of-front, after_run-front, run_and_rest}
use Rattle.verilog_reader.proofs.AtomReads.{name_continues}
use Rattle.verilog_reader.proofs.UsableNames.{run_continues, usable_from, usable_true}

abbrev pub names_text : List Signal → List ℕ
names_text ports = flat_map (λ (p : Signal). p.name ++ codes ", ") ports

abbrev pub AreUsable : List Signal → Type 0
AreUsable [] = Unit {0}
AreUsable (port ∷ ports) = IsUsableName port.name × AreUsable ports

abbrev IsPortName : List ℕ → List ℕ × List ℕ → Type 0
IsPortName bytes read = IsUsableName read.0 × (bytes ≡ read.0 ++ (codes ", " ++ read.1))

port_name_at-only : (bytes : List ℕ) (read : List ℕ × List ℕ) → port_name_at bytes ≡ Some read → IsPortName bytes read
unfolding port_name_at
port_name_at-only bytes read e =
    let rest = bind_some {A = List ℕ} {B = List ℕ × List ℕ} _ _ _ e in
    let tested = if_some (is_port_name (run_of bytes)) (run_of bytes, rest.0) read rest.2 in
    subst (λ (r : List ℕ × List ℕ). IsPortName bytes r) tested.1 (
      usable_from (run_of bytes) (run_continues bytes) tested.0,
      run_and_rest bytes ∙ ap (λ t. run_of bytes ++ t) (after_text-only (codes ", ") (after_run bytes) rest.0 rest.1),
    )

abbrev ArePortNames : List ℕ → List Signal × List ℕ → Type 0
ArePortNames bytes read = AreUsable read.0 × (bytes ≡ names_text read.0 ++ (codes "mbac_fail);\n" ++ read.1))

pub port_names_at-only : (most : ℕ) (bytes : List ℕ) (read : List Signal × List ℕ) →
    port_names_at most bytes ≡ Some read → ArePortNames bytes read
port_names_at-only zero bytes read e = absurd (none_some read e)
port_names_at-only (suc most) bytes read e =
    by_end (after_text (codes "mbac_fail);\n") bytes) refl e (port_names_at-only most) where
      by_end : (o : Option (List ℕ)) → after_text (codes "mbac_fail);\n") bytes ≡ o →
          port_names_with (port_names_at most) o bytes ≡ Some read →
          ((rest : List ℕ) (r : List Signal × List ℕ) → port_names_at most rest ≡ Some r → ArePortNames rest r) →
          ArePortNames bytes read
      by_end (Some rest) some e later =
          subst (λ (r : List Signal × List ℕ). ArePortNames bytes r) (some_inj ([], rest) read e)
          (tt, after_text-only (codes "mbac_fail);\n") bytes rest some)
      by_end None none e later =
          let name = bind_some {A = List ℕ × List ℕ} {B = List Signal × List ℕ} _ _ _ e in
          let more = bind_some {A = List Signal × List ℕ} {B = List Signal × List ℕ} _ _ _ name.2 in
          let is : (one_bit name.0.0 ∷ more.0.0, more.0.1) ≡ read = some_inj _ _ more.2 in
          let one = port_name_at-only bytes name.0 name.1 in
          let rest = later name.0.1 more.0 more.1 in
          let end = codes "mbac_fail);\n" ++ more.0.1 in
          let apart : (name.0.0 ++ codes ", " ++ names_text more.0.0) ++ end ≡ name.0.0
          ++ (codes ", " ++ (names_text more.0.0 ++ end)) = simp append_assoc in
          subst (λ (r : List Signal × List ℕ). ArePortNames bytes r) is
          ((one.0, rest.0), one.1 ∙ ap (λ t. name.0.0 ++ (codes ", " ++ t)) rest.1 ∙ sym apart)

-- the names that a header has are read: each as of one bit

abbrev pub in_bits : List Signal → List Signal
in_bits [] = []
in_bits (port ∷ ports) = one_bit port.name ∷ in_bits ports

port_name_reads : (name rest : List ℕ) → IsUsableName name → port_name_at (name ++ (codes ", " ++ rest))
    ≡ Some (name, rest)
unfolding port_name_at
port_name_reads name rest usable =
    let all = name_continues name usable.identifier in
    rw (
      after_run-front name (codes ", " ++ rest) all refl,
      run_of-front name (codes ", " ++ rest) all refl,
      after_text-text (codes ", ") rest,
      usable_true name usable,
    ) refl

-- a name that a unit may use doesn't begin as the output's does
no_end : (name rest : List ℕ) → IsUsableName name → after_text (codes "mbac_fail);\n") (name ++ (codes ", " ++ rest))
    ≡ None
no_end name rest usable = by_end (after_text (codes "mbac_fail);\n") (name ++ (codes ", " ++ rest))) refl where
  by_end : (o : Option (List ℕ)) → after_text (codes "mbac_fail);\n") (name ++ (codes ", " ++ rest)) ≡ o → o ≡ None
  by_end None e = refl
  by_end (Some other) e =
      let same : name ++ (codes ", " ++ rest) ≡ codes "mbac_fail" ++ (codes ");\n" ++ other) =
      after_text-only (codes "mbac_fail);\n") (name ++ (codes ", " ++ rest)) other e in
      let is : name ≡ codes "mbac_fail" =
      sym (run_of-front name (codes ", " ++ rest) (name_continues name usable.identifier) refl) ∙ ap run_of same
      ∙ run_of-front (codes "mbac_fail") (codes ");\n" ++ other) refl refl in
      absurd (usable.no_prefix (ap (λ (n : List ℕ). starts_with nat_eq n checker_prefix) is))

pub port_names_reads : (ports : List Signal) (most : ℕ) (rest : List ℕ) → length ports < most → AreUsable ports →
    port_names_at most (names_text ports ++ (codes "mbac_fail);\n" ++ rest)) ≡ Some (in_bits ports, rest)
port_names_reads ports zero rest lt usable = absurd (omega arith)
port_names_reads [] (suc most) rest lt usable = rw (after_text-text (codes "mbac_fail);\n") rest) refl
port_names_reads (port ∷ ports) (suc most) rest lt usable =
    let fewer : length ports < most = omega arith in
    let end = codes "mbac_fail);\n" ++ rest in
    let tail = names_text ports ++ end in
    let apart : (port.name ++ codes ", " ++ names_text ports) ++ end ≡ port.name
    ++ (codes ", " ++ (names_text ports ++ end)) = simp append_assoc in
    ap (port_names_at (suc most)) apart
    ∙ ap (λ (o : Option (List ℕ)). port_names_with (port_names_at most) o (port.name ++ (codes ", " ++ tail)))
    (no_end port.name tail usable.0)
    ∙ ap (λ (o : Option (List ℕ × List ℕ)). o >>= λ name. begun (one_bit name.0) (port_names_at most name.1))
    (port_name_reads port.name tail usable.0)
    ∙ ap (begun (one_bit port.name)) (port_names_reads ports most rest fewer usable.1)
