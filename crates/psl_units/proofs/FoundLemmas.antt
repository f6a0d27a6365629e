-- The bodies that are found by their names.
use Rattle.std.proofs.Common.{◌≡◌, ℕ, suc, ◌+◌, ◌<◌, ◌≤◌, Option, None, Some, IsSome, List, length, take, ap, sym}
use Rattle.std.proofs.Common.{◌∙◌, subst, arith, get_or}
use Rattle.std.proofs.lemmas.Option.{slice_get_within, get_or_from_slice_get, slice_get-get_or}
use Rattle.std.specs.List.{All, slice_get, sum_by}
use Rattle.std.specs.Option.{option_map}
use Rattle.std.specs.Map.{lookup}
use Rattle.psl_grammar.specs.RawSere as sere
use Rattle.psl_grammar.specs.RawProp as prop
use Rattle.psl_grammar.specs.RawUnit as u
use Rattle.psl_grammar.specs.declared.items.RawItem.{RawItem}
use Rattle.psl_grammar.specs.declared.items.RawItem.TheVariants.{Clock, Wire, Sequence, Property, Assert}
use Rattle.psl_grammar.specs.declared.sequences.RawSere.{RawSere}
use Rattle.psl_grammar.specs.declared.properties.RawProp.{RawProp}
use Rattle.psl_grammar.specs.View.{sere_of, prop_of}
use Rattle.psl_grammar.specs.UnitView.{item_of}
use Rattle.unit_rules.specs.Source.{Source}
use Rattle.unit_rules.specs.Known.{same_name}
use Rattle.unit_rules.specs.Placed.{Bodies, placed_sere, placed_prop}
use Rattle.unit_rules.specs.Fitting.{ItemFits}
use Rattle.psl_units.specs.declared.names.Names.{Names}
use Rattle.psl_units.specs.declared.names.Scope.{Scope}
use Rattle.psl_units.specs.Before.{bodies_before}
use Rattle.psl_units.specs.inner.Places.{body_place, plain_names}
use Rattle.psl_units.specs.inner.Scopes.{sequence_of, property_of, sequence_in, property_in, sequence_at, property_at}
use Rattle.psl_units.specs.inner.Scopes.{AreNames, IsScope, bodies_of, item_size, sizes_before}
use Rattle.psl_units.specs.inner.Scopes.{IsFoundSequence, IsFoundProperty}
use Rattle.psl_units.proofs.Fronts.{sum_front}
use Rattle.psl_units.proofs.PlaceLemmas.{found_at}

-- a scope over the same items and names
pub record Inside (scope inner : Scope) (place : ℕ) : Type 0 where
  pub items : inner.items.now ≡ scope.items.now
  pub names : inner.names.now ≡ scope.names.now
  pub upto : inner.upto ≡ place

scope_inside : (s : Source) (scope inner : Scope) (place : ℕ) → IsScope s scope → Inside scope inner place
    → place ≤ length scope.items.now → IsScope s inner
scope_inside s scope inner place h i le =
    record {
      within = at_items (sym i.items) (sym i.upto);
      fit = let P : List RawItem → Type 0 = λ xs. All (λ item. ItemFits s (item_of item)) xs in
          subst P (sym i.items) h.fit;
      named = named_in (sym i.items) (sym i.names);
    }
  where
    at_items : scope.items.now ≡ inner.items.now → place ≡ inner.upto → inner.upto ≤ length inner.items.now
    at_items e q =
        let P : List RawItem → Type 0 = λ xs. inner.upto ≤ length xs in
        let Q : ℕ → Type 0 = λ n. n ≤ length scope.items.now in subst P e (subst Q q le)

    named_in : scope.items.now ≡ inner.items.now → scope.names.now ≡ inner.names.now
        → AreNames s inner.items.now (length inner.items.now) (plain_names inner.names.now)
    named_in e q =
        let P : List RawItem → Type 0 = λ xs. AreNames s xs (length xs) (plain_names inner.names.now) in
        let Q : Names → Type 0 = λ ns. AreNames s scope.items.now (length scope.items.now) (plain_names ns) in
        subst P e (subst Q q h.named)

bodies_inside : (s : Source) (scope inner : Scope) (place : ℕ) → Inside scope inner place
    → bodies_before s scope.items.now place ≡ bodies_of s inner
bodies_inside s scope inner place i =
    ap (λ n. bodies_before s scope.items.now n) (sym i.upto)
    ∙ ap (λ xs. bodies_before s xs inner.upto) (sym i.items)

smaller_inside : (scope inner : Scope) (place size : ℕ) (item : RawItem) → Inside scope inner place
    → slice_get scope.items.now place ≡ Some item → place < scope.upto → item_size (item_of item) ≡ 1 + size
    → sizes_before inner + size < sizes_before scope
smaller_inside scope inner place size item i at lt e =
    let f : RawItem → ℕ = λ item. item_size (item_of item) in
    let front : sum_by f (take place scope.items.now) + f item ≤ sum_by f (take scope.upto scope.items.now)
    = sum_front f scope.items.now place scope.upto item at lt in
    let same : sizes_before inner ≡ sum_by f (take place scope.items.now)
    = ap (λ xs. sum_by f (take inner.upto xs)) i.items ∙ ap (λ n. sum_by f (take n scope.items.now)) i.upto in
    omega (arith, front, same, e)

item_fits : (s : Source) (scope : Scope) (place : ℕ) (item : RawItem) → IsScope s scope
    → slice_get scope.items.now place ≡ Some item → ItemFits s (item_of item)
item_fits s scope place item h at =
    let P : RawItem → Type 0 = λ x. ItemFits s (item_of x) in
    subst P (get_or_from_slice_get scope.items.now place item item at)
    (h.fit place item (slice_get_within scope.items.now place item at))

-- ---- bodies

-- what is read at a place of a list
read_at : {X : Type 0} (xs : List X) (place : ℕ) (x : X) → place < length xs → x ≡ get_or xs place x
    → slice_get xs place ≡ Some x
read_at xs place x lt g = slice_get-get_or xs place x lt ∙ ap Some (sym g)

module _ (s : Source) (scope : Scope) (name key : List ℕ) (place : ℕ) (item : RawItem) (h : IsScope s scope)
    (same : key ≡ name) (read : item ≡ get_or scope.items.now place item) where
  sequence_there : body_place (lookup (same_name key) scope.names.now.sequences.entries) scope.upto ≡ Some place
      → (lookup (same_name name) (bodies_of s scope).sequences ≡ sequence_at s scope.items.now place)
      × IsSome (sequence_at s scope.items.now place) × (place < scope.upto)
  sequence_there e =
      found_at (length scope.items.now) scope.upto
      (λ upto. lookup (same_name name) (bodies_before s scope.items.now upto).sequences)
      (sequence_at s scope.items.now) (lookup (same_name name) scope.names.now.sequences.entries) place
      (h.named.sequences name) h.within
      (ap (λ k. body_place (lookup (same_name k) scope.names.now.sequences.entries) scope.upto) (sym same) ∙ e)

  property_there : body_place (lookup (same_name key) scope.names.now.properties.entries) scope.upto ≡ Some place
      → (lookup (same_name name) (bodies_of s scope).properties ≡ property_at s scope.items.now place)
      × IsSome (property_at s scope.items.now place) × (place < scope.upto)
  property_there e =
      found_at (length scope.items.now) scope.upto
      (λ upto. lookup (same_name name) (bodies_before s scope.items.now upto).properties)
      (property_at s scope.items.now) (lookup (same_name name) scope.names.now.properties.entries) place
      (h.named.properties name) h.within
      (ap (λ k. body_place (lookup (same_name k) scope.names.now.properties.entries) scope.upto) (sym same) ∙ e)

  item_at : place < scope.upto → slice_get scope.items.now place ≡ Some item
  item_at lt =
      let le : scope.upto ≤ length scope.items.now = h.within in
      read_at scope.items.now place item (omega (arith, lt, le)) read

  pub sequence_found : (inner : Scope) (token : ℕ) (r : RawSere) → Inside scope inner place
      → body_place (lookup (same_name key) scope.names.now.sequences.entries) scope.upto ≡ Some place
      → get_or scope.items.now place item ≡ Sequence token r → IsFoundSequence s scope name inner (sere_of r)
  sequence_found inner token r i e q =
      by (sequence_there e).0 (sequence_there e).2 (item_at (sequence_there e).2) (ap item_of (read ∙ q))
    where
      by : lookup (same_name name) (bodies_of s scope).sequences ≡ sequence_at s scope.items.now place
          → place < scope.upto → slice_get scope.items.now place ≡ Some item
          → item_of item ≡ u.sequence token (sere_of r) → IsFoundSequence s scope name inner (sere_of r)
      by there lt at q =
          let P : u.RawItem → Type 0 = λ x. ItemFits s x in
          let le : scope.upto ≤ length scope.items.now = h.within in
          record {
            scoped = scope_inside s scope inner place h i (omega (arith, lt, le));
            body = there ∙ (ap (λ o. option_map (placed_sere s (bodies_before s scope.items.now place)) o)
                (ap sequence_in at ∙ ap sequence_of q)
                ∙ ap (λ b. Some (placed_sere s b (sere_of r))) (bodies_inside s scope inner place i));
            smaller = smaller_inside scope inner place (sere.sere_size (sere_of r)) item i at lt (ap item_size q);
            fits = subst P q (item_fits s scope place item h at);
          }

  pub property_found : (inner : Scope) (token : ℕ) (f : RawProp) → Inside scope inner place
      → body_place (lookup (same_name key) scope.names.now.properties.entries) scope.upto ≡ Some place
      → get_or scope.items.now place item ≡ Property token f → IsFoundProperty s scope name inner (prop_of f)
  property_found inner token f i e q =
      by (property_there e).0 (property_there e).2 (item_at (property_there e).2) (ap item_of (read ∙ q))
    where
      by : lookup (same_name name) (bodies_of s scope).properties ≡ property_at s scope.items.now place
          → place < scope.upto → slice_get scope.items.now place ≡ Some item
          → item_of item ≡ u.property token (prop_of f) → IsFoundProperty s scope name inner (prop_of f)
      by there lt at q =
          let P : u.RawItem → Type 0 = λ x. ItemFits s x in
          let le : scope.upto ≤ length scope.items.now = h.within in
          record {
            scoped = scope_inside s scope inner place h i (omega (arith, lt, le));
            body = there ∙ (ap (λ o. option_map (placed_prop s (bodies_before s scope.items.now place)) o)
                (ap property_in at ∙ ap property_of q)
                ∙ ap (λ b. Some (placed_prop s b (prop_of f))) (bodies_inside s scope inner place i));
            smaller = smaller_inside scope inner place (prop.prop_size (prop_of f)) item i at lt (ap item_size q);
            fits = subst P q (item_fits s scope place item h at);
          }

  -- the item at the place of a sequence is no other
  pub sequence_not_missing : ((token : ℕ) (r : RawSere) → get_or scope.items.now place item ≡ Sequence token r → ⊥)
      → body_place (lookup (same_name key) scope.names.now.sequences.entries) scope.upto ≡ Some place → ⊥
  sequence_not_missing other e =
      let P : Option RawItem → Type 0
      = λ o. IsSome (option_map (placed_sere s (bodies_before s scope.items.now place)) (sequence_in o)) in
      by item read (subst P (item_at (sequence_there e).2) (sequence_there e).1)
    where
      by : (x : RawItem) → x ≡ get_or scope.items.now place item
          → IsSome (option_map (placed_sere s (bodies_before s scope.items.now place)) (sequence_of (item_of x))) → ⊥
      by (Clock n) g some = cc some
      by (Wire r ns) g some = cc some
      by (Sequence n b) g some = other n b (sym g)
      by (Property n b) g some = cc some
      by (Assert w l b r) g some = cc some

  -- nor that of a property
  pub property_not_missing : ((token : ℕ) (f : RawProp) → get_or scope.items.now place item ≡ Property token f → ⊥)
      → body_place (lookup (same_name key) scope.names.now.properties.entries) scope.upto ≡ Some place → ⊥
  property_not_missing other e =
      let P : Option RawItem → Type 0
      = λ o. IsSome (option_map (placed_prop s (bodies_before s scope.items.now place)) (property_in o)) in
      by item read (subst P (item_at (property_there e).2) (property_there e).1)
    where
      by : (x : RawItem) → x ≡ get_or scope.items.now place item
          → IsSome (option_map (placed_prop s (bodies_before s scope.items.now place)) (property_of (item_of x))) → ⊥
      by (Clock n) g some = cc some
      by (Wire r ns) g some = cc some
      by (Sequence n b) g some = cc some
      by (Property n b) g some = other n b (sym g)
      by (Assert w l b r) g some = cc some
