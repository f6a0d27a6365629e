-- The names of items, as the items come one after the other, and the bodies that are found by them.
use Rattle.std.proofs.Common.{◌≡◌, ℕ, zero, suc, ◌+◌, ◌<◌, ◌≤◌, Bool}
use Rattle.std.proofs.Common.{true, false, cond, Option, None, Some, IsSome, List, All}
use Rattle.std.proofs.Common.{[], ◌∷◌, length, map, take, refl, ap, sym, ◌∙◌, subst, arith, le_refl}
use Rattle.std.proofs.lemmas.Option.{same_Some, slice_get_within}
use Rattle.std.specs.List.{slice_get, fold}
use Rattle.std.specs.Option.{unwrap_or, option_map}
use Rattle.std.specs.Map.{lookup}
use Rattle.indexmap.specs.IndexMap.{insert_entry}
use Rattle.psl_grammar.specs.RawSere as sere
use Rattle.psl_grammar.specs.RawProp as prop
use Rattle.psl_grammar.specs.RawUnit as u
use Rattle.psl_grammar.specs.declared.items.RawItem.{RawItem}
use Rattle.psl_grammar.specs.UnitView.{item_of}
use Rattle.unit_rules.specs.Source.{Source, bytes_at}
use Rattle.unit_rules.specs.Known.{same_name}
use Rattle.unit_rules.specs.Placed.{Bodies, no_bodies, bodies_after, placed_sere, placed_prop}
use Rattle.psl_units.specs.declared.names.Place.{Place}
use Rattle.psl_units.specs.Before.{bodies_before, IsNew, AreNew}
use Rattle.psl_units.specs.inner.Places.{IsPlace, Places, PlainNames, no_names, place_of, body_place, with_place}
use Rattle.psl_units.specs.inner.Places.{sequence_place, property_place, names_after}
use Rattle.psl_units.specs.inner.Scopes.{sequence_of, property_of, sequence_in, property_in, sequence_at, property_at}
use Rattle.psl_units.specs.inner.Scopes.{AreNames}
use Rattle.psl_units.proofs.Lookups.{lookup_same, lookup_insert}
use Rattle.psl_units.proofs.Fronts.{fold_next}
use Rattle.psl_units.proofs.PlaceLemmas.{same_place, new_place, root_worth, root_within}

-- ---- one more name in a table

-- A name in a table of bodies and in a table of places, each with one more entry.
one_more : {T : Type 0} (k root : ℕ) (stands worth : ℕ → Option T) (n key : List ℕ) (places : Places)
    (old : List (List ℕ × T)) (v : T)
    → stands k ≡ lookup (same_name n) old → stands (suc k) ≡ lookup (same_name n) (insert_entry same_name old key v)
    → lookup (same_name key) old ≡ None → worth root ≡ Some v → root ≤ k
    → IsPlace k stands worth (lookup (same_name n) places)
    → IsPlace (suc k) stands worth
    (lookup (same_name n) (insert_entry same_name places key (record { item = k; body = root })))
one_more k root stands worth n key places old v before after none w le h =
    let placed : Place = record { item = k; body = root } in
    let P : Option Place → Type 0 = IsPlace (suc k) stands worth in
    subst P (sym (lookup_insert n key places placed)) (by (same_name n key) refl)
  where
    by : (b : Bool) → same_name n key ≡ b
        → IsPlace (suc k) stands worth
        (cond b (Some (record { item = k; body = root })) (lookup (same_name n) places))
    by true q =
        new_place k root stands worth (lookup (same_name n) places) v h
        (before ∙ (lookup_same n key old q ∙ none))
        (after ∙ (lookup_insert n key old v ∙ ap (λ b. cond b (Some v) (lookup (same_name n) old)) q)) w le
    by false q =
        same_place k stands worth (lookup (same_name n) places)
        (after ∙ (lookup_insert n key old v ∙ (ap (λ b. cond b (Some v) (lookup (same_name n) old)) q ∙ sym before))) h

-- ---- the body that a declared name stands for

module _ (s : Source) (items : List RawItem) (k : ℕ) (item : RawItem) where
  sequence_worth : (r : sere.RawSere) → sequence_in (slice_get items k) ≡ Some r
      → sequence_at s items k ≡ Some (placed_sere s (bodies_before s items k) r)
  sequence_worth r e = ap (λ o. option_map (placed_sere s (bodies_before s items k)) o) e

  property_worth : (f : prop.RawProp) → property_in (slice_get items k) ≡ Some f
      → property_at s items k ≡ Some (placed_prop s (bodies_before s items k) f)
  property_worth f e = ap (λ o. option_map (placed_prop s (bodies_before s items k)) o) e

  sequence_root : (names : PlainNames) → AreNames s items k names → (r : sere.RawSere)
      → sequence_in (slice_get items k) ≡ Some r
      → sequence_at s items (sequence_place s names.sequences k r) ≡ Some (placed_sere s (bodies_before s items k) r)
  sequence_root names h (sere.bool e) q = sequence_worth (sere.bool e) q
  sequence_root names h (sere.lone m low high) q = sequence_worth (sere.lone m low high) q
  sequence_root names h (sere.repeat r m low high) q = sequence_worth (sere.repeat r m low high) q
  sequence_root names h (sere.join m r t) q = sequence_worth (sere.join m r t) q
  sequence_root names h (sere.named token) q =
      root_worth k (λ upto. lookup (same_name (bytes_at s token)) (bodies_before s items upto).sequences)
      (sequence_at s items) (place_of s names.sequences token) (sere.named token) (h.sequences (bytes_at s token))
      (sequence_worth (sere.named token) q)

  property_root : (names : PlainNames) → AreNames s items k names → (f : prop.RawProp)
      → property_in (slice_get items k) ≡ Some f
      → property_at s items (property_place s names.properties k f) ≡ Some (placed_prop s (bodies_before s items k) f)
  property_root names h (prop.bool e) q = property_worth (prop.bool e) q
  property_root names h (prop.seq r strong) q = property_worth (prop.seq r strong) q
  property_root names h (prop.prefix word f) q = property_worth (prop.prefix word f) q
  property_root names h (prop.next word on low high f) q = property_worth (prop.next word on low high f) q
  property_root names h (prop.binary m f g) q = property_worth (prop.binary m f g) q
  property_root names h (prop.suffix m r f) q = property_worth (prop.suffix m r f) q
  property_root names h (prop.abort f e) q = property_worth (prop.abort f e) q
  property_root names h (prop.named token) q =
      root_worth k (λ upto. lookup (same_name (bytes_at s token)) (bodies_before s items upto).properties)
      (property_at s items) (place_of s names.properties token) (prop.named token)
      (h.properties (bytes_at s token)) (property_worth (prop.named token) q)

  sequence_root_within : (names : PlainNames) → AreNames s items k names → (r : sere.RawSere)
      → sequence_place s names.sequences k r ≤ k
  sequence_root_within names h (sere.bool e) = le_refl k
  sequence_root_within names h (sere.lone m low high) = le_refl k
  sequence_root_within names h (sere.repeat r m low high) = le_refl k
  sequence_root_within names h (sere.join m r t) = le_refl k
  sequence_root_within names h (sere.named token) =
      root_within k (place_of s names.sequences token) (h.sequences (bytes_at s token)).before
      (h.sequences (bytes_at s token)).earlier

  property_root_within : (names : PlainNames) → AreNames s items k names → (f : prop.RawProp)
      → property_place s names.properties k f ≤ k
  property_root_within names h (prop.bool e) = le_refl k
  property_root_within names h (prop.seq r strong) = le_refl k
  property_root_within names h (prop.prefix word f) = le_refl k
  property_root_within names h (prop.next word on low high f) = le_refl k
  property_root_within names h (prop.binary m f g) = le_refl k
  property_root_within names h (prop.suffix m r f) = le_refl k
  property_root_within names h (prop.abort f e) = le_refl k
  property_root_within names h (prop.named token) =
      root_within k (place_of s names.properties token) (h.properties (bytes_at s token)).before
      (h.properties (bytes_at s token)).earlier

  -- ---- one more item

  -- an item that declares no name
  none_more : (names : PlainNames) → AreNames s items k names
      → bodies_before s items (suc k) ≡ bodies_before s items k → AreNames s items (suc k) names
  none_more names h e =
      record {
        sequences = λ n. same_place k (λ upto. lookup (same_name n) (bodies_before s items upto).sequences)
            (sequence_at s items) (lookup (same_name n) names.sequences)
            (ap (λ b. lookup (same_name n) b.sequences) e) (h.sequences n);
        properties = λ n. same_place k (λ upto. lookup (same_name n) (bodies_before s items upto).properties)
            (property_at s items) (lookup (same_name n) names.properties)
            (ap (λ b. lookup (same_name n) b.properties) e) (h.properties n);
      }

  pub names_next : (names : PlainNames) → slice_get items k ≡ Some item
      → IsNew s (bodies_before s items k) (item_of item) → AreNames s items k names
      → AreNames s items (suc k) (names_after s names k (item_of item))
  names_next names at new h =
      by (item_of item) refl
      (fold_next (λ bodies item. bodies_after s bodies (item_of item)) no_bodies items k item at) new
    where
      by : (x : u.RawItem) → item_of item ≡ x
          → bodies_before s items (suc k) ≡ bodies_after s (bodies_before s items k) x
          → IsNew s (bodies_before s items k) x → AreNames s items (suc k) (names_after s names k x)
      by (u.clock token) q e new = none_more names h e
      by (u.wire range names) q e new = none_more _ h e
      by (u.assert word tag f report) q e new = none_more names h e
      by (u.sequence token r) q e new =
          let declares : sequence_in (slice_get items k) ≡ Some r = ap sequence_in at ∙ ap sequence_of q in
          record {
            sequences = λ n. one_more k (sequence_place s names.sequences k r)
                (λ upto. lookup (same_name n) (bodies_before s items upto).sequences) (sequence_at s items)
                n (bytes_at s token) names.sequences (bodies_before s items k).sequences
                (placed_sere s (bodies_before s items k) r) refl (ap (λ b. lookup (same_name n) b.sequences) e) new
                (sequence_root names h r declares) (sequence_root_within names h r) (h.sequences n);
            properties = λ n. same_place k (λ upto. lookup (same_name n) (bodies_before s items upto).properties)
                (property_at s items) (lookup (same_name n) names.properties)
                (ap (λ b. lookup (same_name n) b.properties) e) (h.properties n);
          }
      by (u.property token f) q e new =
          let declares : property_in (slice_get items k) ≡ Some f = ap property_in at ∙ ap property_of q in
          record {
            sequences = λ n. same_place k (λ upto. lookup (same_name n) (bodies_before s items upto).sequences)
                (sequence_at s items) (lookup (same_name n) names.sequences)
                (ap (λ b. lookup (same_name n) b.sequences) e) (h.sequences n);
            properties = λ n. one_more k (property_place s names.properties k f)
                (λ upto. lookup (same_name n) (bodies_before s items upto).properties) (property_at s items)
                n (bytes_at s token) names.properties (bodies_before s items k).properties
                (placed_prop s (bodies_before s items k) f) refl (ap (λ b. lookup (same_name n) b.properties) e) new
                (property_root names h f declares) (property_root_within names h f) (h.properties n);
          }

pub names_none : (s : Source) (items : List RawItem) → AreNames s items 0 no_names
names_none s items =
    record {
      sequences = λ n. record { body = λ upto le. none_at n upto le; before = tt; earlier = tt; declares = tt };
      properties = λ n. record { body = λ upto le. none_in n upto le; before = tt; earlier = tt; declares = tt };
    }
  where
    none_at : (n : List ℕ) (upto : ℕ) → upto ≤ 0 → lookup (same_name n) (bodies_before s items upto).sequences ≡ None
    none_at n zero le = refl
    none_at n (suc upto) le = absurd (omega arith)

    none_in : (n : List ℕ) (upto : ℕ) → upto ≤ 0 → lookup (same_name n) (bodies_before s items upto).properties ≡ None
    none_in n zero le = refl
    none_in n (suc upto) le = absurd (omega arith)

-- an item of a unit that declares no name again
new_at : (s : Source) (b : Bodies) (items : List RawItem) (k : ℕ) (item : RawItem) → AreNew s b (map item_of items)
    → slice_get items k ≡ Some item
    → IsNew s (fold (λ bodies item. bodies_after s bodies (item_of item)) b (take k items)) (item_of item)
new_at s b [] k item new at = absurd (cc at)
new_at s b (x ∷ xs) zero item new at =
    let P : RawItem → Type 0 = λ y. IsNew s b (item_of y) in subst P (same_Some x item at) new.0
new_at s b (x ∷ xs) (suc k) item new at = new_at s (bodies_after s b (item_of x)) xs k item new.1 at

pub names_step : (s : Source) (items : List RawItem) (k : ℕ) (item : RawItem) (names : PlainNames)
    → AreNew s no_bodies (map item_of items) → slice_get items k ≡ Some item → AreNames s items k names
    → AreNames s items (k + 1) (names_after s names k (item_of item))
names_step s items k item names new at h =
    let P : ℕ → Type 0 = λ n. AreNames s items n (names_after s names k (item_of item)) in
    subst P (omega arith) (names_next s items k item names at (new_at s no_bodies items k item new at) h)
