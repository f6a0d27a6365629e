-- Signals that are found keep their numbers and their widths.
use Rattle.std.proofs.Common.{◌≡◌, ℕ, ◌+◌, ◌<◌, suc, Bool, true, false, not, cond, Option, None, Some, List, [], ◌∷◌}
use Rattle.std.proofs.Common.{◌++◌, length, map, refl, ap, ◌∙◌, arith, slice_index, ◌||◌, is_some, unwrap_or}
use Rattle.std.specs.Cmp.Lexicographic.{nat_list_eq_equiv}
use Rattle.std.specs.List.{position_or_len}
use Rattle.std.specs.Map.{lookup, keys_of}
use Rattle.unit_rules.specs.Source.{Source, bytes_at}
use Rattle.unit_rules.specs.Sites.{used}
use Rattle.unit_rules.specs.Known.{Known, same_name, is_phrase, width_of_signal, with_signal}
use Rattle.unit_rules.specs.Faults.{faults_at, select_faults, where_broken, too_many}
use Rattle.unit_rules.specs.declared.errors.UnitError.TheVariants.{DuplicateName}
use Rattle.psl_units.specs.Trees.{Signals}
use Rattle.psl_units.proofs.NoFaults.{both_none, unbroken}

abbrev pub widths_of : Signals → List ℕ
widths_of signals = map (λ e. e.1) signals

-- a signal of so many bits stands at this place
pub record StandsAt (signals : Signals) (place width : ℕ) : Type 0 where
  pub within : place < length (widths_of signals)
  pub bits : slice_index (widths_of signals) place ≡ width

pub found_stands : (test : List ℕ → Bool) (es : Signals) (w : ℕ) → lookup test es ≡ Some w
    → StandsAt es (position_or_len test (keys_of es)) w
found_stands test [] w p = absurd (cc p)
found_stands test (e ∷ es) w p = by (test e.0) p (found_stands test es w)
  where
    by : (b : Bool) → cond b (Some e.1) (lookup test es) ≡ Some w
        → (lookup test es ≡ Some w → StandsAt es (position_or_len test (keys_of es)) w)
        → StandsAt (e ∷ es) (cond (not b) (1 + position_or_len test (keys_of es)) 0) w
    by true q rest = record { within = omega arith; bits = cc q }
    by false q rest =
        let r : StandsAt es (position_or_len test (keys_of es)) w = rest q in
        let next : 1 + position_or_len test (keys_of es) ≡ suc (position_or_len test (keys_of es)) = omega arith in
        let room : position_or_len test (keys_of es) < length (widths_of es) = r.within in
        record {
          within = omega arith;
          bits = ap (λ n. slice_index (widths_of (e ∷ es)) n) next ∙ r.bits;
        }

pub stays_found : (test : List ℕ → Bool) (es more : Signals) (w : ℕ) → lookup test es ≡ Some w
    → lookup test (es ++ more) ≡ Some w
stays_found test [] more w p = absurd (cc p)
stays_found test (e ∷ es) more w p = by (test e.0) p (stays_found test es more w)
  where
    by : (b : Bool) → cond b (Some e.1) (lookup test es) ≡ Some w
        → (lookup test es ≡ Some w → lookup test (es ++ more) ≡ Some w)
        → cond b (Some e.1) (lookup test (es ++ more)) ≡ Some w
    by true q rest = q
    by false q rest = rest q

new_found : (test : List ℕ → Bool) (es : Signals) (n : List ℕ) (w : ℕ) → lookup test es ≡ None → test n ≡ true
    → lookup test (es ++ (n, w) ∷ []) ≡ Some w
new_found test [] n w p q = ap (λ b. cond b (Some w) None) q
new_found test (e ∷ es) n w p q = by (test e.0) p (λ r. new_found test es n w r q)
  where
    by : (b : Bool) → cond b (Some e.1) (lookup test es) ≡ None
        → (lookup test es ≡ None → lookup test (es ++ (n, w) ∷ []) ≡ Some w)
        → cond b (Some e.1) (lookup test (es ++ (n, w) ∷ [])) ≡ Some w
    by true r rest = absurd (cc r)
    by false r rest = rest r

-- behind its place a signal has the width that it has there
signal_found : (k : Known) (name : List ℕ) → is_phrase k name ≡ false
    → lookup (same_name name) (with_signal k name 1).signals ≡ Some (width_of_signal k name)
signal_found k name p = by (lookup (same_name name) k.signals) refl
  where
    by : (o : Option ℕ) → lookup (same_name name) k.signals ≡ o
        → lookup (same_name name)
        (cond (is_some o || is_phrase k name) k (record k { signals = k.signals ++ (name, 1) ∷ [] })).signals
        ≡ Some (unwrap_or o 1)
    by (Some w) q = q
    by None q =
        ap (λ b. lookup (same_name name) (cond b k (record k { signals = k.signals ++ (name, 1) ∷ [] })).signals) p
        ∙ new_found (same_name name) k.signals name 1 q (nat_list_eq_equiv.refl name)

-- a signal's place without a fault
pub record IsUse (s : Source) (k : Known) (token : ℕ) (select : Option (ℕ × Option ℕ)) : Type 0 where
  pub found : lookup (same_name (bytes_at s token)) (with_signal k (bytes_at s token) 1).signals
      ≡ Some (width_of_signal k (bytes_at s token))
  pub none : select_faults s (width_of_signal k (bytes_at s token)) select ≡ []

pub is_use : (s : Source) (k : Known) (token : ℕ) (select : Option (ℕ × Option ℕ))
    → faults_at s k (used token select) ≡ [] → IsUse s k token select
is_use s k token select p =
    let name : List ℕ = bytes_at s token in
    let outer = both_none (where_broken (is_phrase k name) (DuplicateName token) ++ too_many s k token)
    (select_faults s (width_of_signal k name) select) p in
    let inner = both_none (where_broken (is_phrase k name) (DuplicateName token)) (too_many s k token) outer.0 in
    record {
      found = signal_found k name (unbroken (is_phrase k name) (DuplicateName token) inner.0);
      none = outer.1;
    }
