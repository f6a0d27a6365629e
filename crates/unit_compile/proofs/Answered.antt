-- What an answer that is right says of each text.
use Rattle.std.proofs.Common.{◌≡◌, ◌⊎◌, inl, inr, ℕ, List, Result, Ok, Err, IfOk, IfErr, IsErrAnd}
use Rattle.std.proofs.Common.{map, flat_map, ap, ◌∙◌}
use Rattle.std.specs.Prelude.{IsOkUnless}
use Rattle.psl_model.specs.declared.refusals.Refusal.{Refusal}
use Rattle.psl_model.specs.declared.refusals.Refusal.TheVariants.{OutOfMemory}
use Rattle.verilog_text.specs.Module.{Module}
use Rattle.verilog_text.specs.Text.{spelling}
use Rattle.verilog_text.specs.View.{module_of}
use Rattle.verilog_text.specs.declared.module.Module as code
use Rattle.checker_meaning.specs.Headline.{IsCompiled}
use Rattle.psl_units.specs.StandsForUnit.{StandsForUnit}
use Rattle.unit_compile.specs.Made.{IsAccepted, AreModulesOf, IsTextOfModules}
use Rattle.unit_compile.specs.Refused.{IsRefused, ComesFor}

module _ {T : Type 0} (plain : T → List Module) (text : List ℕ) where
  pub when_accepted : ((r : Refusal) → IsRefused text r → IsAccepted text → ⊥) → (r : Result T Refusal)
      → IfErr r (λ e. (e ≡ OutOfMemory) ⊎ IsRefused text e) → IsAccepted text → IsOkUnless r OutOfMemory
  when_accepted not_both (Ok made) refused a = tt
  when_accepted not_both (Err e) (inl memory) a = memory
  when_accepted not_both (Err e) (inr h) a = absurd (not_both e h a)

  pub when_due : ((due r : Refusal) → IsRefused text due → IsRefused text r → ComesFor text due r)
      → ((r : Refusal) → IsRefused text r → IsAccepted text → ⊥) → (r : Result T Refusal)
      → IfOk r (λ made. AreModulesOf text (plain made)) → IfErr r (λ e. (e ≡ OutOfMemory) ⊎ IsRefused text e)
      → (due : Refusal) → IsRefused text due → IsErrAnd r (ComesFor text due)
  when_due one not_both (Ok made) right refused due h = not_both due h right.accepted
  when_due one not_both (Err e) right (inl memory) due h = inl memory
  when_due one not_both (Err e) right (inr g) due h = one due e h g

-- the text that is printed of right modules
pub printed : {T : Type 0} (items : T → List ℕ) (text : List ℕ) (given own : List code.Module)
    → ((text checkers : List ℕ) (modules : List Module) → AreModulesOf text modules
    → checkers ≡ flat_map spelling modules → IsCompiled StandsForUnit text checkers) → given ≡ own
    → AreModulesOf text (map module_of own) → (r : Result T Refusal)
    → IfOk r (λ t. items t ≡ flat_map spelling (map module_of given))
    → IfOk r (λ t. IsCompiled StandsForUnit text (items t))
printed items text given own law same right (Ok t) h =
    law text (items t) (map module_of own) right
    (h ∙ ap (λ (ms : List code.Module). flat_map spelling (map module_of ms)) same)
printed items text given own law same right (Err e) h = tt

-- the same text, told by the modules
pub printed_so : {T : Type 0} (items : T → List ℕ) (text : List ℕ) (given own : List code.Module) → given ≡ own
    → AreModulesOf text (map module_of own) → (r : Result T Refusal)
    → IfOk r (λ t. items t ≡ flat_map spelling (map module_of given)) → IfOk r (λ t. IsTextOfModules text (items t))
printed_so items text given own same right (Ok t) h =
    record {
      modules = map module_of own;
      made = right;
      spelled = h ∙ ap (λ (ms : List code.Module). flat_map spelling (map module_of ms)) same;
    }
printed_so items text given own same right (Err e) h = tt
