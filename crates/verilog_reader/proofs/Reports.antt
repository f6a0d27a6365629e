-- The header as a whole, and the report, from both sides.
use Rattle.std.proofs.Common.{◌≡◌, ℕ, suc, ◌<◌, ◌≤◌, true, List, [], ◌∷◌, ◌++◌, length, take, drop, refl, ap, sym, ◌∙◌}
use Rattle.std.proofs.Common.{arith, subst, Some, None, append_assoc}
use Rattle.std.proofs.Math.Seq.{take-append_seam, drop-append_seam}
use Rattle.std.proofs.lemmas.List.{take-append-drop, length-append}
use Rattle.std.proofs.lemmas.Bool.Decides.{nat_tests}
use Rattle.std.specs.Prelude.{◌≢◌, nat_le, nat_eq, Option, codes, IfSome}
use Rattle.std.specs.List.{prefix_len, starts_with}
use Rattle.psl_model.specs.declared.names.Signal.{Signal}
use Rattle.psl_model.specs.Limits.{name_limit}
use Rattle.psl_model.specs.Names.{checker_prefix, is_report_byte, IsIdentifier, IsReport}
use Rattle.verilog_text.specs.Text.{line, report_line}
use Rattle.verilog_reader.specs.inner.Pieces.{after_text, run_of, after_run}
use Rattle.verilog_reader.specs.inner.Lines.{begins_identifier, is_module_name, header_at, report_fits, report_text_at}
use Rattle.verilog_reader.specs.inner.Lines.{report_with, report_at}
use Rattle.verilog_reader.proofs.Pieces.{bind_some, if_some, some_inj, both_true, prefix_len-front, after_text-text}
use Rattle.verilog_reader.proofs.Pieces.{after_text-only, run_of-front, after_run-front, run_and_rest}
use Rattle.verilog_reader.proofs.AtomReads.{name_continues}
use Rattle.verilog_reader.proofs.UsableNames.{list_all-prefix, run_continues, identifier_from, identifier_begins}
use Rattle.verilog_reader.proofs.HeaderLines.{names_text, AreUsable, in_bits, port_names_at-only, port_names_reads}

-- the header

abbrev pub inputs_text : List ℕ
inputs_text = codes " (mbac_clk, mbac_rst, mbac_eot, "

pub record IsHeader (bytes : List ℕ) (read : (List ℕ × List Signal) × List ℕ) : Type 0 where
  pub identifier : IsIdentifier read.0.0
  pub prefix : starts_with nat_eq read.0.0 checker_prefix ≡ true
  pub usable : AreUsable read.0.1
  pub text : bytes ≡ codes "module "
      ++ (read.0.0 ++ (inputs_text ++ (names_text read.0.1 ++ (codes "mbac_fail);\n" ++ read.1))))

pub header_at-only : (bytes : List ℕ) (read : (List ℕ × List Signal) × List ℕ) → header_at bytes ≡ Some read →
    IsHeader bytes read
unfolding header_at is_module_name
header_at-only bytes read e =
    let start = bind_some {A = List ℕ} {B = (List ℕ × List Signal) × List ℕ} _ _ _ e in
    let inputs = bind_some {A = List ℕ} {B = (List ℕ × List Signal) × List ℕ} _ _ _ start.2 in
    let ports = bind_some {A = List Signal × List ℕ} {B = (List ℕ × List Signal) × List ℕ} _ _ _ inputs.2 in
    let name = run_of start.0 in
    let tested = if_some (is_module_name name) ((name, ports.0.0), ports.0.1) read ports.2 in
    let parts = both_true (begins_identifier name) (starts_with nat_eq name checker_prefix) tested.0 in
    let are = port_names_at-only (length inputs.0) inputs.0 ports.0 ports.1 in
    let rest : after_run start.0 ≡ inputs_text ++ (names_text ports.0.0 ++ (codes "mbac_fail);\n" ++ ports.0.1)) =
    after_text-only inputs_text (after_run start.0) inputs.0 inputs.1 ∙ ap (λ t. inputs_text ++ t) are.1 in
    subst (λ (r : (List ℕ × List Signal) × List ℕ). IsHeader bytes r) tested.1 record {
      identifier = identifier_from name (run_continues start.0) parts.0;
      prefix = parts.1;
      usable = are.0;
      text = after_text-only (codes "module ") bytes start.0 start.1 ∙ ap (λ t. codes "module " ++ t)
          (run_and_rest start.0 ∙ ap (λ t. name ++ t) rest);
    }

more_bytes : (ports : List Signal) (rest : List ℕ) →
    length ports < length (names_text ports ++ (codes "mbac_fail);\n" ++ rest))
more_bytes [] rest = omega arith
more_bytes (port ∷ ports) rest =
    let fewer = more_bytes ports rest in
    let end = codes "mbac_fail);\n" ++ rest in
    let apart : (port.name ++ codes ", " ++ names_text ports) ++ end ≡ port.name
    ++ (codes ", " ++ (names_text ports ++ end)) = simp append_assoc in
    let name_first = length-append port.name (codes ", " ++ (names_text ports ++ end)) in
    let all = ap length apart in
    omega arith

pub header_reads : (name : List ℕ) (ports : List Signal) (rest : List ℕ) → IsIdentifier name →
    starts_with nat_eq name checker_prefix ≡ true → AreUsable ports →
    header_at (codes "module " ++ (name ++ (inputs_text ++ (names_text ports ++ (codes "mbac_fail);\n" ++ rest)))))
    ≡ Some ((name, in_bits ports), rest)
unfolding header_at is_module_name
header_reads name ports rest is prefix usable =
    let lines = names_text ports ++ (codes "mbac_fail);\n" ++ rest) in
    let all = name_continues name is in
    rw (
      after_text-text (codes "module ") (name ++ (inputs_text ++ lines)),
      after_run-front name (inputs_text ++ lines) all refl,
      after_text-text inputs_text lines,
      port_names_reads ports (length lines) rest (more_bytes ports rest) usable,
      run_of-front name (inputs_text ++ lines) all refl,
      identifier_begins name is,
      prefix,
    ) refl

-- the report

abbrev IsReportLine : List ℕ → Option (List ℕ) × List ℕ → Type 0
IsReportLine bytes read = IfSome read.0 IsReport × (bytes ≡ report_line read.0 ++ read.1)

report_apart : (text rest : List ℕ) → line (codes "  // " ++ text) ++ rest ≡ codes "  // "
    ++ (text ++ (codes "\n" ++ rest))
report_apart text rest = simp append_assoc

pub report_at-only : (bytes : List ℕ) (read : Option (List ℕ) × List ℕ) → report_at bytes ≡ Some read →
    IsReportLine bytes read
unfolding report_at report_text_at report_line report_fits
report_at-only bytes read e = by_mark (after_text (codes "  // ") bytes) refl e where
  some_bytes : (text : List ℕ) → 1 ≤ length text → text ≢ []
  some_bytes [] le e = absurd (omega arith)
  some_bytes (b ∷ bs) le e = cc

  at_most : (m n : ℕ) → nat_le m n ≡ true → m ≤ n
  at_most m n e = grind (arith, nat_tests)

  by_mark : (o : Option (List ℕ)) → after_text (codes "  // ") bytes ≡ o → report_with o bytes ≡ Some read →
      IsReportLine bytes read
  by_mark None none e = subst (λ (r : Option (List ℕ) × List ℕ). IsReportLine bytes r) (some_inj (None, bytes) read e)
      (tt, refl)
  by_mark (Some start) some e =
      let rest = bind_some {A = List ℕ} {B = Option (List ℕ) × List ℕ} _ _ _ e in
      let n : ℕ = prefix_len is_report_byte start in
      let text : List ℕ = take n start in
      let tested = if_some (report_fits text) (Some text, rest.0) read rest.2 in
      let parts = both_true (nat_le 1 (length text)) (nat_le (length text) name_limit) tested.0 in
      let all : start ≡ text ++ (codes "\n" ++ rest.0) =
      sym (take-append-drop n start)
      ∙ ap (λ t. text ++ t) (after_text-only (codes "\n") (drop n start) rest.0 rest.1) in
      let is : IsReport text =
      record {
        not_empty = some_bytes text (at_most 1 (length text) parts.0);
        short =
            at_most (length text) name_limit parts.1;
        printable = list_all-prefix is_report_byte start;
      } in
      subst (λ (r : Option (List ℕ) × List ℕ). IsReportLine bytes r) tested.1 (
        is,
        after_text-only (codes "  // ") bytes start some ∙ ap (λ t. codes "  // " ++ t) all
            ∙ sym (report_apart text rest.0),
      )

-- what follows a report is no report
pub report_reads : (report : Option (List ℕ)) (rest : List ℕ) → IfSome report IsReport → after_text (codes "  // ") rest
    ≡ None → report_at (report_line report ++ rest) ≡ Some (report, rest)
unfolding report_at report_text_at report_line report_fits
report_reads None rest is none = rw none refl
report_reads (Some text) rest is none =
    let end : prefix_len is_report_byte (text ++ (codes "\n" ++ rest)) ≡ length text =
    prefix_len-front is_report_byte text (codes "\n" ++ rest) is.printable refl in
    let some : nat_le 1 (length text) ≡ true = at_least text is.not_empty in
    let short : nat_le (length text) name_limit ≡ true = at_most (length text) name_limit is.short in
    rw (
      report_apart text rest,
      after_text-text (codes "  // ") (text ++ (codes "\n" ++ rest)),
      end,
      drop-append_seam text (codes "\n" ++ rest),
      after_text-text (codes "\n") rest,
      take-append_seam text (codes "\n" ++ rest),
      some,
      short,
    ) refl
  where
    at_most : (m n : ℕ) → m ≤ n → nat_le m n ≡ true
    at_most m n le = grind (arith, nat_tests)

    at_least : (t : List ℕ) → t ≢ [] → nat_le 1 (length t) ≡ true
    at_least [] some = absurd (some refl)
    at_least (b ∷ bs) some = at_most 1 (suc (length bs)) (omega arith)
