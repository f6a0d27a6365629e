-- What is read as modules, one after the other, is their text.
use Rattle.std.proofs.Common.{◌≡◌, ℕ, zero, suc, ◌+◌, ◌-◌, ◌<◌, ◌≤◌, List, [], ◌∷◌, ◌++◌, length, map, refl, ap, sym}
use Rattle.std.proofs.Common.{◌∙◌, arith, subst, Some, None, append_assoc, append-nil}
use Rattle.std.specs.Prelude.{◌≢◌, Option, All, AllPairs, flat_map}
use Rattle.psl_model.specs.declared.names.Signal.{Signal}
use Rattle.verilog_text.specs.Module.{Module, IsLawful}
use Rattle.verilog_text.specs.Text.{spelling, StandsForModules}
use Rattle.verilog_reader.specs.declared.errors.Stop.{Stop}
use Rattle.verilog_reader.specs.inner.Answers.{Halts}
use Rattle.verilog_reader.specs.inner.Pieces.{◌>>=◌}
use Rattle.verilog_reader.specs.inner.Lines.{State, one_bit, add, add_ports, module_at, listed, modules_at}
use Rattle.verilog_reader.proofs.Pieces.{bind_some, some_inj, none_some}
use Rattle.verilog_reader.proofs.Steps.{stopped, stops_as}
use Rattle.verilog_reader.proofs.Distinct.{ports_differ}
use Rattle.verilog_reader.proofs.ModuleLawful.{module_at-only}

abbrev pub AreLawful : List Module → Type 0
AreLawful [] = Unit {0}
AreLawful (m ∷ ms) = IsLawful m × AreLawful ms

abbrev pub named_ports : List Module → List Signal
named_ports ms = map (λ (m : Module). one_bit m.name) ms

pub record AreModules (seen : State) (bytes : List ℕ) (ms : List Module) : Type 0 where
  pub text : bytes ≡ flat_map spelling ms
  pub lawful : AreLawful ms
  pub next : State
  pub names : add_ports seen (named_ports ms) ≡ Some next

modules_at-only : (most : ℕ) (seen : State) (bytes : List ℕ) (ms : List Module) → modules_at most seen bytes ≡ Some ms →
    AreModules seen bytes ms
modules_at-only zero seen [] ms e = subst (λ (x : List Module). AreModules seen [] x) (some_inj [] ms e) record {
  text =
      refl;
  lawful = tt;
  next = seen;
  names = refl;
}
modules_at-only (suc most) seen [] ms e =
    subst (λ (x : List Module). AreModules seen [] x) (some_inj [] ms e) record {
      text = refl;
      lawful = tt;
      next =
          seen;
      names = refl;
    }
modules_at-only zero seen (byte ∷ bytes) ms e = absurd (none_some ms e)
modules_at-only (suc most) seen (byte ∷ bytes) ms e =
    let m =
    bind_some (module_at (byte ∷ bytes))
    (λ x. add seen x.0.name 1 >>= λ next. listed x.0 (modules_at most next x.1)) ms e in
    let next = bind_some (add seen m.0.0.name 1) (λ s. listed m.0.0 (modules_at most s m.0.1)) ms m.2 in
    let more = bind_some (modules_at most next.0 m.0.1) (λ xs. Some (m.0.0 ∷ xs)) ms next.2 in
    let is : m.0.0 ∷ more.0 ≡ ms = some_inj _ _ more.2 in
    let one = module_at-only (byte ∷ bytes) m.0 m.1 in
    let rest = modules_at-only most next.0 m.0.1 more.0 more.1 in
    subst (λ (x : List Module). AreModules seen (byte ∷ bytes) x) is record {
      text = one.text ∙ ap (λ (t : List ℕ). spelling m.0.0 ++ t) rest.text;
      lawful = (one.lawful, rest.lawful);
      next = rest.next;
      names = ap (λ (o : Option State). o >>= λ s. add_ports s (named_ports more.0)) next.1 ∙ rest.names;
    }

all_lawful : (ms : List Module) → AreLawful ms → All IsLawful ms
all_lawful [] are k d lt = absurd (omega arith)
all_lawful (m ∷ ms) are zero d lt = are.0
all_lawful (m ∷ ms) are (suc k) d lt = let below : k < length ms = omega arith in all_lawful ms are.1 k d below

same_names : (ms : List Module) → map (λ (p : Signal). p.name) (named_ports ms) ≡ map (λ (m : Module). m.name) ms
same_names [] = refl
same_names (m ∷ ms) = ap (λ (ns : List (List ℕ)). m.name ∷ ns) (same_names ms)

pub stand_for : (most : ℕ) (bytes : List ℕ) (ms : List Module) → modules_at most ([], []) bytes ≡ Some ms →
    StandsForModules bytes ms
stand_for most bytes ms e =
    let are = modules_at-only most ([], []) bytes ms e in
    record {
      spelled = are.text;
      lawful = all_lawful ms are.lawful;
      distinct = subst (λ (ns : List (List ℕ)). AllPairs (λ p q. p ≢ q) ns) (same_names ms)
          (ports_differ (named_ports ms) ([], []) are.next are.names);
    }

-- modules that were read, and then the later ones

abbrev pub followed : List Module → Option (List Module) → Option (List Module)
followed done later = later >>= λ ms. Some (done ++ ms)

pub followed_none : (later : Option (List Module)) → followed [] later ≡ later
followed_none None = refl
followed_none (Some ms) = refl

followed_more : (done : List Module) (m : Module) (later : Option (List Module)) → followed done (listed m later)
    ≡ followed (done ++ m ∷ []) later
followed_more done m None = refl
followed_more done m (Some ms) = ap (λ (xs : List Module). Some xs) (sym (append_assoc done (m ∷ []) ms))

pub modules_end : (whole : Option (List Module)) (done : List Module) (most : ℕ) (seen : State) →
    followed done (modules_at most seen []) ≡ whole → whole ≡ Some done
modules_end whole done zero seen so_far = sym so_far ∙ ap Some (append-nil done)
modules_end whole done (suc most) seen so_far = sym so_far ∙ ap Some (append-nil done)

abbrev after_module : ℕ → State → Module × List ℕ → Option (List Module)
after_module most seen m = add seen m.0.name 1 >>= λ next. listed m.0 (modules_at most next m.1)

modules_step : (n i : ℕ) (seen : State) (rest : List ℕ) → i < n → 0 < length rest → modules_at (n - i) seen rest
    ≡ (module_at rest >>= after_module (n - (i + 1)) seen)
modules_step n i seen [] lt some = absurd (omega arith)
modules_step n i seen (byte ∷ rest) lt some =
    let more : n - i ≡ suc (n - (i + 1)) = omega arith in
    ap (λ (k : ℕ). modules_at k seen (byte ∷ rest)) more

module _ (whole : Option (List Module)) (done : List Module) (n i : ℕ) (seen : State) (rest : List ℕ) where
  pub module_stopped : (stop : Stop) → i < n → 0 < length rest → followed done (modules_at (n - i) seen rest) ≡ whole →
      Halts stop (module_at rest) → Halts stop whole
  module_stopped stop lt some so_far halts =
      stops_as stop (followed done (module_at rest >>= after_module (n - (i + 1)) seen)) whole
      (sym so_far ∙ ap (followed done) (modules_step n i seen rest lt some))
      (stopped stop (module_at rest >>= after_module (n - (i + 1)) seen) (λ ms. Some (done ++ ms))
      (stopped stop (module_at rest) (after_module (n - (i + 1)) seen) halts))

  module_read : (m : Module) (after : List ℕ) → i < n → 0 < length rest → followed done (modules_at (n - i) seen rest)
      ≡ whole → module_at rest ≡ Some (m, after) →
      whole ≡ followed done (after_module (n - (i + 1)) seen (m, after))
  module_read m after lt some so_far here =
      sym so_far ∙ ap (followed done)
      (modules_step n i seen rest lt some
      ∙ ap (λ (o : Option (Module × List ℕ)). o >>= after_module (n - (i + 1)) seen) here)

  pub name_stopped : (stop : Stop) (m : Module) (after : List ℕ) → i < n → 0 < length rest →
      followed done (modules_at (n - i) seen rest) ≡ whole → module_at rest ≡ Some (m, after) →
      Halts stop (add seen m.name 1) → Halts stop whole
  name_stopped stop m after lt some so_far here halts =
      stops_as stop (followed done (after_module (n - (i + 1)) seen (m, after))) whole
      (module_read m after lt some so_far here)
      (stopped stop (after_module (n - (i + 1)) seen (m, after)) (λ ms. Some (done ++ ms))
      (stopped stop (add seen m.name 1) (λ next. listed m (modules_at (n - (i + 1)) next after)) halts))

  pub module_more : (m : Module) (after : List ℕ) (next : State) → i < n → 0 < length rest →
      followed done (modules_at (n - i) seen rest) ≡ whole → module_at rest ≡ Some (m, after) →
      add seen m.name 1 ≡ Some next → followed (done ++ m ∷ []) (modules_at (n - (i + 1)) next after) ≡ whole
  module_more m after next lt some so_far here new =
      sym (followed_more done m (modules_at (n - (i + 1)) next after))
      ∙ sym (ap (λ (o : Option State). followed done (o >>= λ s. listed m (modules_at (n - (i + 1)) s after))) new)
      ∙ sym (module_read m after lt some so_far here)

pub modules_short : (whole : Option (List Module)) (done : List Module) (n i : ℕ) (seen : State) (rest : List ℕ) →
    n ≤ i → 0 < length rest → followed done (modules_at (n - i) seen rest) ≡ whole → whole ≡ None
modules_short whole done n i seen [] le some so_far = absurd (omega arith)
modules_short whole done n i seen (byte ∷ rest) le some so_far =
    let none : n - i ≡ 0 = omega arith in
    sym so_far ∙ ap (λ (k : ℕ). followed done (modules_at k seen (byte ∷ rest))) none
