-- Sound states of the reader, and how they change.
use Rattle.std.proofs.Common.{◌≡◌, ℕ, zero, suc, ◌+◌, ◌-◌, ◌<◌, ◌≤◌, ◌⊎◌, inl, inr, List, [], ◌∷◌, ◌++◌, Bool, true}
use Rattle.std.proofs.Common.{false, cond, Option, Some, None, length, map, refl, sym, ◌∙◌, ap, subst, Result, Ok}
use Rattle.std.proofs.Common.{Err, arith, length-append}
use Rattle.std.specs.Prelude.{nat_eq, nat_lt, nat_le, ◌||◌, ◌&&◌, not, slice_get, slice_index, take}
use Rattle.std.specs.List.{list_all}
use Rattle.std.specs.Str.{bytes_eq}
use Rattle.std.specs.Str.Parse.{digits_value}
use Rattle.std.proofs.lemmas.Option.{cond_some}
use Rattle.std.proofs.lemmas.Bool.Decides.{nat_tests}
use Rattle.vcd_reader.specs.declared.reading.Place.{Place}
use Rattle.vcd_reader.specs.declared.reading.Place.TheVariants.{Declaring, Skipping, ScopeType, ScopeName}
use Rattle.vcd_reader.specs.declared.reading.Place.TheVariants.{DeclarationEnd, VarType, VarSize, VarCode, VarName}
use Rattle.vcd_reader.specs.declared.reading.Place.TheVariants.{VarRest, DefinitionsEnd, Changing, Remark, OtherCode}
use Rattle.vcd_reader.specs.declared.reading.Place.TheVariants.{VectorCode}
use Rattle.vcd_reader.specs.declared.waveform.Var.{Var}
use Rattle.vcd_reader.specs.declared.waveform.Change.{Change}
use Rattle.vcd_reader.specs.Codes.{find_code, code_from}
use Rattle.vcd_reader.specs.Numbers.{number_up_to, is_number}
use Rattle.vcd_reader.specs.Words.{is_word, begins_skipped, is_unused, is_value_digit, begins_vector, begins_other}
use Rattle.vcd_reader.specs.Sound.{Each, IsSize, IsSizedVar, IsSizedChange, AreInOrder, IsSound}
use Rattle.vcd_reader.specs.inner.State.{State, start}
use Rattle.vcd_reader.specs.inner.Rules.{Step, next, next_at, with_size, with_code, with_scalar, with_vector, with_time}
use Rattle.vcd_reader.specs.inner.Rules.{at_vector, at_word, at_change, at_upscope, at_declaration, at_rest}
use Rattle.vcd_reader.specs.declared.waveform.VcdError.TheVariants.{VcdSyntax}
use Rattle.vcd_reader.specs.Names.{within, without_range}
use Rattle.vcd_reader.specs.Tokens.{Token}
use Rattle.vcd_reader.specs.Telling.{Outcome, Waveform, IsOutcome}
use Rattle.vcd_reader.specs.inner.Outcome.{reading, behind, may_end}
use Rattle.vcd_reader.proofs.TellingLemmas.{reading_is_telling}
use Rattle.vcd_reader.proofs.TokenLaws.{some_list}

abbrev pub sizes_of : List (List ℕ × ℕ) → List ℕ
sizes_of codes = map (λ entry. entry.1) codes

-- the last element, or one before it
last_or_before : {X : Type 0} (xs : List X) (y : X) (k : ℕ) (x : X) → slice_get (xs ++ y ∷ []) k ≡ Some x
    → (slice_get xs k ≡ Some x) ⊎ ((x ≡ y) × (k ≡ length xs))
last_or_before [] y zero x h = inr (let e : Some y ≡ Some x = h in cc, refl)
last_or_before [] y (suc k) x h = cc
last_or_before (z ∷ xs) y zero x h = inl h
last_or_before (z ∷ xs) y (suc k) x h =
    elim (last_or_before xs y k x h) [ inl g ↦ inl g | inr g ↦ inr (g.0, omega (arith, g.1)) ]

stays_before : {X : Type 0} (xs : List X) (y : X) (k : ℕ) (x : X) → slice_get xs k ≡ Some x
    → slice_get (xs ++ y ∷ []) k ≡ Some x
stays_before [] y k x h = cc
stays_before (z ∷ xs) y zero x h = h
stays_before (z ∷ xs) y (suc k) x h = stays_before xs y k x h

new_last : {X : Type 0} (xs : List X) (y : X) → slice_get (xs ++ y ∷ []) (length xs) ≡ Some y
new_last [] y = refl
new_last (z ∷ xs) y = new_last xs y

within_length : {X : Type 0} (xs : List X) (k : ℕ) (x : X) → slice_get xs k ≡ Some x → k < length xs
within_length [] k x h = cc
within_length (z ∷ xs) zero x h = omega arith
within_length (z ∷ xs) (suc k) x h = let low : k < length xs = within_length xs k x h in omega arith

pub each_more : {X : Type 0} (P : X → Type 0) (xs : List X) (y : X) → Each P xs → P y → Each P (xs ++ y ∷ [])
each_more P xs y h here k x at = elim (last_or_before xs y k x at) [ inl g ↦ h k x g | inr g ↦ subst P (sym g.0) here ]

sizes_more : (codes : List (List ℕ × ℕ)) (id : List ℕ) (size : ℕ)
    → sizes_of (codes ++ (id, size) ∷ []) ≡ sizes_of codes ++ size ∷ []
sizes_more [] id size = refl
sizes_more (entry ∷ codes) id size = ap (λ t. entry.1 ∷ t) (sizes_more codes id size)

sizes_length : (codes : List (List ℕ × ℕ)) → length (sizes_of codes) ≡ length codes
sizes_length [] = refl
sizes_length (entry ∷ codes) = ap suc (sizes_length codes)

-- what is known of the place where the next token stands
abbrev pub IsSoundPlace : List (List ℕ × ℕ) → Place → List ℕ → Type 0
IsSoundPlace codes (VarCode size) digits = IsSize size
IsSoundPlace codes (VarName size code) digits = slice_get (sizes_of codes) code ≡ Some size
IsSoundPlace codes (VarRest size code) digits = slice_get (sizes_of codes) code ≡ Some size
IsSoundPlace codes VectorCode digits = (0 < length digits) × (list_all is_value_digit digits ≡ true)
IsSoundPlace codes _ digits = Unit {0}

pub record IsSoundState (s : State) : Type 0 where
  pub each_size : Each IsSize (sizes_of s.codes)
  pub vars : Each (IsSizedVar (sizes_of s.codes)) s.vars
  pub changes : Each (IsSizedChange (sizes_of s.codes)) s.changes
  pub in_order : AreInOrder s.changes
  pub past : Each (λ (change : Change). change.time ≤ s.time) s.changes
  pub here : IsSoundPlace s.codes s.place s.digits

abbrev pub Leads : Step → Type 0
Leads (Ok s) = IsSoundState s
Leads (Err fault) = Unit {0}

-- a choice of two steps
pub choice : (b : Bool) (x y : Step) → (b ≡ true → Leads x) → (b ≡ false → Leads y) → Leads (cond b x y)
choice true x y h g = h refl
choice false x y h g = g refl

-- nothing that counts has changed but the place
pub keep : (s : State) → IsSoundState s → (place : Place) (path outer joined digits : List ℕ)
    → IsSoundPlace s.codes place digits
    → IsSoundState (record s { place = place; path = path; outer = outer; joined = joined; digits = digits })
keep s h place path outer joined digits here = record {
  each_size = h.each_size;
  vars = h.vars;
  changes = h.changes;
  in_order = h.in_order;
  past = h.past;
  here = here;
}

pub move : (s : State) → IsSoundState s → (place : Place) → IsSoundPlace s.codes place s.digits
    → IsSoundState (record s { place = place })
move s h place here = keep s h place s.path s.outer s.joined s.digits here

pub sized_place : (s : State) → IsSoundState s → (n : Option ℕ) → ((size : ℕ) → n ≡ Some size → size ≤ 65536)
    → Leads (with_size s n)
sized_place s h None low = tt
sized_place s h (Some size) low = choice (nat_lt 0 size) _ _
    (λ positive. move s h (VarCode size) (grind (arith, nat_tests), low size refl)) (λ no. tt)

pub at_most : (limit : ℕ) (text : List ℕ) (size : ℕ) → number_up_to limit text ≡ Some size → size ≤ limit
at_most limit text size h =
    let got = cond_some (is_number text && nat_le (digits_value 10 text) limit) (digits_value 10 text) size h in
    let low : (is_number text && nat_le (digits_value 10 text) limit) ≡ true = got.0 in
    let is : digits_value 10 text ≡ size = got.1 in
    let le : digits_value 10 text ≤ limit = grind (arith, nat_tests, low) in
    omega arith

abbrev code_or : Option (ℕ × ℕ) → ℕ
code_or None = 0
code_or (Some known) = known.0

abbrev size_or : Option (ℕ × ℕ) → ℕ
size_or None = 0
size_or (Some known) = known.1

found_by : (b : Bool) (first known : ℕ) (codes : List (List ℕ × ℕ)) (id : List ℕ) (code size : ℕ)
    → cond b (Some (first, known)) (code_from (suc first) codes id) ≡ Some (code, size)
    → (code_from (suc first) codes id ≡ Some (code, size) → (k : ℕ) × (code ≡ suc first + k)
    × (slice_get (sizes_of codes) k ≡ Some size))
    → (k : ℕ) × (code ≡ first + k) × (slice_get (known ∷ sizes_of codes) k ≡ Some size)
found_by true first known codes id code size h rest =
    let same : first ≡ code = ap code_or h in
    let sized : known ≡ size = ap size_or h in
    (0, omega arith, ap Some sized)
found_by false first known codes id code size h rest = let found = rest h in
    (suc found.0, omega (arith, found.1), found.2)

-- an identifier that is found has the size at its number
pub found_size : (first : ℕ) (codes : List (List ℕ × ℕ)) (id : List ℕ) (code size : ℕ)
    → code_from first codes id ≡ Some (code, size)
    → (k : ℕ) × (code ≡ first + k) × (slice_get (sizes_of codes) k ≡ Some size)
found_size first [] id code size h = cc
found_size first (entry ∷ codes) id code size h =
    found_by (bytes_eq id entry.0) first entry.1 codes id code size h (found_size (suc first) codes id code size)

pub new_code : (s : State) (size : ℕ) (id : List ℕ) → IsSoundState s → IsSize size
    → IsSoundState (record s { place = VarName size (length s.codes); codes = s.codes ++ (id, size) ∷ [] })
new_code s size id h fits =
    let e : sizes_of (s.codes ++ (id, size) ∷ []) ≡ sizes_of s.codes ++ size ∷ [] = sizes_more s.codes id size in
    record {
      each_size = subst (Each IsSize) (sym e) (each_more IsSize (sizes_of s.codes) size h.each_size fits);
      vars = λ k var at. subst (λ sizes. slice_get sizes var.code ≡ Some var.size) (sym e)
          (stays_before (sizes_of s.codes) size var.code var.size (h.vars k var at));
      changes = λ k change at.
          let old = h.changes k change at in
          record {
            size = old.size;
            known = subst (λ sizes. slice_get sizes change.code ≡ Some old.size) (sym e)
                (stays_before (sizes_of s.codes) size change.code old.size old.known);
            some = old.some;
            fits = old.fits;
            digits = old.digits;
          };
      in_order = h.in_order;
      past = h.past;
      here = subst (λ sizes. slice_get sizes (length s.codes) ≡ Some size) (sym e)
          (subst (λ n. slice_get (sizes_of s.codes ++ size ∷ []) n ≡ Some size) (sizes_length s.codes)
          (new_last (sizes_of s.codes) size));
    }

-- one more change, at the time that it is
in_order_more : (changes : List Change) (change : Change) → AreInOrder changes
    → Each (λ (c : Change). c.time ≤ change.time) changes → AreInOrder (changes ++ change ∷ [])
in_order_more changes change h past i j earlier later low at_i at_j =
    elim (last_or_before changes change j later at_j) [
      | inl g ↦ both g
      | inr g ↦ last g
    ]
  where
    both : slice_get changes j ≡ Some later → earlier.time ≤ later.time
    both g = elim (last_or_before changes change i earlier at_i) [
      | inl f ↦ h i j earlier later low f g
      | inr f ↦ absurd (let end : j < length changes = within_length changes j later g in let place : i
          ≡ length changes = f.1 in omega arith)
    ]

    last : (later ≡ change) × (j ≡ length changes) → earlier.time ≤ later.time
    last g = elim (last_or_before changes change i earlier at_i) [
      | inl f ↦ subst (λ (c : Change). earlier.time ≤ c.time) (sym g.0) (past i earlier f)
      | inr f ↦ absurd (let place : i ≡ length changes = f.1 in let end : j ≡ length changes = g.1 in omega arith)
    ]

pub more_changes : (s : State) (place : Place) (code size : ℕ) (digits kept : List ℕ) → IsSoundState s
    → slice_get (sizes_of s.codes) code ≡ Some size
    → 0 < length digits → length digits ≤ size → list_all is_value_digit digits ≡ true → IsSoundPlace s.codes place kept
    → IsSoundState (record s {
      place = place;
      digits = kept;
      changes = s.changes
          ++ record { time = s.time; code = code; digits = digits } ∷ [];
    })
more_changes s place code size digits kept h known some fits all here =
    let change : Change = record { time = s.time; code = code; digits = digits } in
    record {
      each_size = h.each_size;
      vars = h.vars;
      changes = each_more (IsSizedChange (sizes_of s.codes)) s.changes change h.changes
          (record { size = size; known = known; some = some; fits = fits; digits = all });
      in_order = in_order_more s.changes change h.in_order h.past;
      past = each_more (λ (c : Change). c.time ≤ s.time) s.changes change h.past (omega arith);
      here = here;
    }
