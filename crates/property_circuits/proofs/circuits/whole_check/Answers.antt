use Rattle.std.proofs.Common.{◌≡◌, ℕ, ◌+◌, List, [], ap, ◌∙◌, subst, arith}
use Rattle.psl_rewrite.specs.View.{base_of}
use Rattle.psl_rewrite.specs.Meaning.{named}
use Rattle.psl_rewrite.specs.Obligations.{IsContradictory}
use Rattle.sequence_matches.specs.Growth.{GrowsWithin}
use Rattle.formula_limits.specs.Registers.{registers_of}
use Rattle.circuit_core.specs.Run.{Inputs, Run, IsRunOf}
use Rattle.property_circuits.specs.Starts.{IsCheck}
use Rattle.property_circuits.proofs.Growing.{finished, done}
use Rattle.property_circuits.proofs.Judging.{built_obliges}
use Rattle.property_circuits.proofs.Rising.{Persists, WeakIsFull, Whole, rises, ends}
use Rattle.property_circuits.proofs.circuits.whole_check.Goals as goal

pub returns-clause-checks : goal.returns-clause-checks
returns-clause-checks c =
    let m1 = c.first_cycle.new.net in
    let m4 = c.finish.new.self in
    let widths = c.args.widths.now in
    let f = base_of c.args.base.now in
    let start = c.in_ok-start.start.0 in
    let never = c.in_ok-start.never.0 in
    let fail = c.in_ok-each.each.check.fail.0 in
    let pend = c.in_ok-each.each.check.pend.0 in
    let out = c.in_ok-out.out.0 in
    let same : m1.widths ≡ widths = c.in_ok-start.ensures.kept.widths ∙ ap (λ m. m.widths) c.in_ok-net.ensures in
    let persists : Persists widths f = c.weak_violation_persists.ensures widths (named f) in
    let full : WeakIsFull widths f = λ trace some.
    c.a_weak_violation_is_a_violation.ensures widths f trace
    (built_obliges (λ r. ¬ IsContradictory widths r) f c.requires.built) some in
    let whole : (inputs : Inputs) (run : Run) → IsRunOf m4 inputs run →
    Whole widths inputs.trace f inputs.eot (run start) (run never) (run fail) (run pend) (run out) =
    λ inputs run r4.
    let r3 = c.finish.ensures.runs inputs run r4 in
    let r2 = c.in_ok-out.ensures.kept.runs inputs run r3 in
    let r1 = c.in_ok-each.ensures.kept.runs inputs run r2 in
    let P : List ℕ → Type 0 = λ ws. IsCheck ws inputs.trace f (run start) (run never) (run fail) (run pend) in
    record {
      check = subst P same (c.in_ok-each.ensures.check inputs run r2);
      starts = c.in_ok-start.ensures.first inputs run r1;
      never = c.in_ok-start.ensures.never inputs run r1;
      outs = c.in_ok-out.ensures.stream inputs run r3;
    } in
    record {
      out = out;
      is_output = ap (λ m. m.output) c.finish.ensures.output;
      rises = λ inputs run h. rises widths inputs.trace f persists full inputs.eot (run start) (run never) (run fail)
          (run pend) (run out) (whole inputs run h);
      ends = λ inputs run h. ends widths inputs.trace f persists full inputs.eot (run start) (run never) (run fail)
          (run pend) (run out) (whole inputs run h);
    }

pub returns-clause-finished : goal.returns-clause-finished
returns-clause-finished c =
    let m0 = c.in_ok-net.net in
    let m3 = c.failing.new.net in
    let m4 = c.finish.new.self in
    let k = registers_of (base_of c.args.base.now) in
    let out = c.in_ok-out.out.0 in
    let m1 = c.first_cycle.new.net in
    let m2 = c.check_variant.new.net in
    let law = c.growths_within_join.ensures in
    let grows : GrowsWithin m0 m3 (1 + k + 0) =
    law.twice m0 m2 m3 (1 + k) 0 (law.twice m0 m1 m2 1 k (law.counted m0 m1 1 c.in_ok-start.ensures.grows)
    c.in_ok-each.ensures.grows) (law.counted m2 m3 0 c.in_ok-out.ensures.grows) in
    let empty : m0.registers ≡ [] = ap (λ m. m.registers) c.in_ok-net.ensures in
    let both = done m0 m3 m4 (1 + k + 0) out empty grows c.finish.ensures.output in
    finished m4 out c.a_netlist_is_well_made.ensures both.0 (ap (λ m. m.output) c.finish.ensures.output)

pub returns-clause-bits : goal.returns-clause-bits
returns-clause-bits c =
    let m0 = c.in_ok-net.net in
    let m3 = c.failing.new.net in
    let m4 = c.finish.new.self in
    let k = registers_of (base_of c.args.base.now) in
    let m1 = c.first_cycle.new.net in
    let m2 = c.check_variant.new.net in
    let law = c.growths_within_join.ensures in
    let grows : GrowsWithin m0 m3 (1 + k + 0) =
    law.twice m0 m2 m3 (1 + k) 0 (law.twice m0 m1 m2 1 k (law.counted m0 m1 1 c.in_ok-start.ensures.grows)
    c.in_ok-each.ensures.grows) (law.counted m2 m3 0 c.in_ok-out.ensures.grows) in
    let empty : m0.registers ≡ [] = ap (λ m. m.registers) c.in_ok-net.ensures in
    let both = done m0 m3 m4 (1 + k + 0) c.in_ok-out.out.0 empty grows c.finish.ensures.output in
    omega (arith, c.each_register_has_one_bit.ensures m4 c.a_netlist_is_well_made.ensures, both.1)
