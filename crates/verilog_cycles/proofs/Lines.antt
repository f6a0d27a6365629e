-- What a target takes, made ready.
use Rattle.std.proofs.Common.{◌≡◌, ℕ, ◌%◌, ◌^◌, ◌<◌, ◌≤◌, List, [], ◌∷◌, ◌++◌, length, ap, sym, ◌∙◌, arith}
use Rattle.std.proofs.Common.{subst}
use Rattle.std.proofs.Math.Nat.{mod-eq_of_lt, div-one}
use Rattle.std.specs.Prelude.{max, slice_index}
use Rattle.psl_model.specs.Limits.{vector_limit}
use Rattle.psl_model.specs.Expr.{Expr}
use Rattle.psl_model.specs.Valid.{IsValid}
use Rattle.psl_model.specs.Value.{width_of, value_of, FitWidths}
use Rattle.verilog_cycles.specs.declared.nodes.Node.{Node}
use Rattle.verilog_cycles.specs.declared.nodes.Node.TheVariants.{Part}
use Rattle.verilog_cycles.specs.inner.Ready.{values_at, IsReady, IsLine}
use Rattle.verilog_cycles.proofs.Ready.{grows_on, grows_by, grown, meets_front, met_end, tape_on, longer}

-- a value fits its context
abbrev pub Fits : Type 0
Fits = (widths values : List ℕ) (context : ℕ) (e : Expr) → FitWidths widths values →
    IsValid widths e → width_of widths e ≤ context → value_of widths values context e < 2 ^ context

pub line_whole : Fits → (first : ℕ) (ws ps : List ℕ) (old new : List Node) (target c : ℕ) (e : Expr) (place : ℕ) →
    c ≡ max target (width_of ws e) → width_of ws e ≤ target → IsValid ws e →
    IsReady first ws ps old new c e place → IsLine first ws ps old new target e place
line_whole law first ws ps old new target c e place c_is narrow valid r = record {
  grows = r.grows;
  tape = r.tape;
  within = r.within;
  means = λ table met fits.
      let values = values_at table ps in
      let context = max target (width_of ws e) in
      let same : context ≡ target = omega arith in
      let below : value_of ws values context e < 2 ^ context = law ws values context e fits valid (omega arith) in
      let small : value_of ws values context e < 2 ^ target = subst (λ (k : ℕ). value_of ws values context e < 2 ^ k)
      same below in
      r.means table met ∙ ap (λ (k : ℕ). value_of ws values k e) c_is ∙ sym (mod-eq_of_lt small);
}

pub line_cut : (first : ℕ) (ws ps : List ℕ) (old mid new : List Node) (target c : ℕ) (e : Expr) (p place : ℕ) →
    first ≤ length old → c ≡ max target (width_of ws e) → target ≤ vector_limit →
    IsReady first ws ps old mid c e p → new ≡ mid ++ Part p 0 target ∷ [] → place ≡ length mid →
    IsLine first ws ps old new target e place
line_cut first ws ps old mid new target c e p place le c_is limit r gained at = record {
  grows = grows_on old mid new r.grows (grows_by mid new (Part p 0 target) gained);
  tape = tape_on mid new (Part p 0 target) gained r.tape (r.within, omega arith, limit);
  within = omega (arith, longer mid new (Part p 0 target) gained);
  means = λ table met fits.
      let values = values_at table ps in
      ap (slice_index table) at
      ∙ met_end first mid new (Part p 0 target) table gained (omega (arith, le, grown old mid r.grows)) met
      ∙ ap (λ (x : ℕ). x % 2 ^ target) (div-one (slice_index table p)
      ∙ r.means table (meets_front first mid new table (grows_by mid new (Part p 0 target) gained) met)
      ∙ ap (λ (k : ℕ). value_of ws values k e) c_is);
}
