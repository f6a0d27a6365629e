-- Where a unit breaks no rule, no item declares a name of a sequence or property again.
use Rattle.std.proofs.Common.{◌≡◌, ℕ, Bool, true, false, cond, ◌||◌, Option, None, Some, List, [], ◌∷◌, ◌++◌, map, refl}
use Rattle.std.proofs.Common.{ap, sym, ◌∙◌, append_assoc}
use Rattle.std.specs.List.{flat_map, list_any, slice_get}
use Rattle.std.specs.Map.{lookup}
use Rattle.indexmap.specs.IndexMap.{insert_entry}
use Rattle.psl_grammar.specs.RawUnit.{RawItem, RawUnit, clock, wire, sequence, property, assert}
use Rattle.unit_rules.specs.declared.errors.UnitError.{UnitError}
use Rattle.unit_rules.specs.declared.errors.UnitError.TheVariants.{DuplicateName}
use Rattle.unit_rules.specs.Source.{Source, bytes_at}
use Rattle.unit_rules.specs.Sites.{Site, span, declared, used, phrase, label, directive, literal_at, operator, counts}
use Rattle.unit_rules.specs.Sites.{sere_sites, prop_sites, item_sites, unit_sites}
use Rattle.unit_rules.specs.Known.{Known, nothing, same_name, is_among, is_signal, is_phrase, has_meaning, with_signal}
use Rattle.unit_rules.specs.Known.{with_phrase, after_site, known_after, declared_width}
use Rattle.unit_rules.specs.Faults.{where_broken, faults_at, faults_in, unit_faults}
use Rattle.unit_rules.specs.Limits.{or_else, limit_fault, refusal}
use Rattle.unit_rules.specs.Placed.{Bodies, no_bodies, bodies_after, placed_sere, placed_prop}
use Rattle.psl_units.specs.Before.{IsNew, AreNew}
use Rattle.psl_units.proofs.Lookups.{lookup_insert}

-- ---- no fault among sites

none_left : {X : Type 0} (xs ys : List X) → xs ++ ys ≡ [] → (xs ≡ []) × (ys ≡ [])
none_left [] ys p = (refl, p)
none_left (x ∷ xs) ys p = absurd (cc p)

unbroken : (b : Bool) (e : UnitError) → where_broken b e ≡ [] → b ≡ false
unbroken true e p = absurd (cc p)
unbroken false e p = refl

neither : (a b : Bool) → a || b ≡ false → (a ≡ false) × (b ≡ false)
neither true b p = absurd (cc p)
neither false b p = (refl, p)

no_first : (fs : List UnitError) → slice_get fs 0 ≡ None → fs ≡ []
no_first [] p = refl
no_first (f ∷ fs) p = absurd (cc p)

faults_joined : (s : Source) (k : Known) (xs ys : List Site)
    → faults_in s k (xs ++ ys) ≡ faults_in s k xs ++ faults_in s (known_after s k xs) ys
faults_joined s k [] ys = refl
faults_joined s k (x ∷ xs) ys =
    ap (λ more. faults_at s k x ++ more) (faults_joined s (after_site s k x) xs ys)
    ∙ sym (append_assoc (faults_at s k x) (faults_in s (after_site s k x) xs)
    (faults_in s (known_after s (after_site s k x) xs) ys))

-- ---- the names of sequences and properties stay known

among_front : (n x : List ℕ) (names : List (List ℕ)) → is_among n (names ++ x ∷ []) ≡ false
    → (is_among n names ≡ false) × (same_name n x ≡ false)
among_front n x [] p = (refl, (neither (same_name n x) false p).0)
among_front n x (y ∷ ys) p =
    let parts : (same_name n y ≡ false) × (is_among n (ys ++ x ∷ []) ≡ false)
    = neither (same_name n y) (is_among n (ys ++ x ∷ [])) p in
    let rest : (is_among n ys ≡ false) × (same_name n x ≡ false) = among_front n x ys parts.1 in
    (ap (λ b. b || is_among n ys) parts.0 ∙ rest.0, rest.1)

kept_signal : (k : Known) (n name : List ℕ) (width : ℕ) → is_phrase (with_signal k name width) n ≡ false
    → is_phrase k n ≡ false
kept_signal k n name width = by (has_meaning k name)
  where
    by : (b : Bool) → is_phrase (cond b k (record k { signals = k.signals ++ (name, width) ∷ [] })) n ≡ false
        → is_phrase k n ≡ false
    by true p = p
    by false p = p

kept_phrase : (k : Known) (n name : List ℕ) → is_phrase (with_phrase k name) n ≡ false → is_phrase k n ≡ false
kept_phrase k n name = by (has_meaning k name)
  where
    by : (b : Bool) → is_phrase (cond b k (record k { phrases = k.phrases ++ name ∷ [] })) n ≡ false
        → is_phrase k n ≡ false
    by true p = p
    by false p = (among_front n name k.phrases p).0

kept_site : (s : Source) (k : Known) (n : List ℕ) (x : Site) → is_phrase (after_site s k x) n ≡ false
    → is_phrase k n ≡ false
kept_site s k n (span high low) p = p
kept_site s k n (declared token range) p = kept_signal k n (bytes_at s token) (declared_width s range) p
kept_site s k n (used token select) p = kept_signal k n (bytes_at s token) 1 p
kept_site s k n (phrase token) p = kept_phrase k n (bytes_at s token) p
kept_site s k n (label token) p = p
kept_site s k n (directive word) p = p
kept_site s k n (literal_at token) p = p
kept_site s k n (operator mark a b) p = p
kept_site s k n (counts mark low high) p = p

kept_sites : (s : Source) (k : Known) (n : List ℕ) (xs : List Site) → is_phrase (known_after s k xs) n ≡ false
    → is_phrase k n ≡ false
kept_sites s k n [] p = p
kept_sites s k n (x ∷ xs) p = kept_site s k n x (kept_sites s (after_site s k x) n xs p)

-- ---- each body has a known name

record Covers (k : Known) (b : Bodies) : Type 0 where
  sequences : (n : List ℕ) → is_phrase k n ≡ false → lookup (same_name n) b.sequences ≡ None
  properties : (n : List ℕ) → is_phrase k n ≡ false → lookup (same_name n) b.properties ≡ None

covers_more : (s : Source) (k : Known) (b : Bodies) (xs : List Site) → Covers k b → Covers (known_after s k xs) b
covers_more s k b xs h =
    record {
      sequences = λ n p. h.sequences n (kept_sites s k n xs p);
      properties = λ n p. h.properties n (kept_sites s k n xs p);
    }

-- what no fault at a declared name says
new_phrase : (s : Source) (k : Known) (token : ℕ) (xs : List Site) → faults_in s k (phrase token ∷ xs) ≡ []
    → has_meaning k (bytes_at s token) ≡ false
new_phrase s k token xs p =
    unbroken (has_meaning k (bytes_at s token)) (DuplicateName token)
    (none_left (where_broken (has_meaning k (bytes_at s token)) (DuplicateName token))
    (faults_in s (after_site s k (phrase token)) xs) p).0

no_phrase : (k : Known) (name : List ℕ) → has_meaning k name ≡ false → is_phrase k name ≡ false
no_phrase k name p = (neither (is_signal k name) (is_phrase k name) p).1

-- a name that isn't known behind a declaration is another one
other_phrase : (k : Known) (n name : List ℕ) → has_meaning k name ≡ false → is_phrase (with_phrase k name) n ≡ false
    → same_name n name ≡ false
other_phrase k n name new p = by (has_meaning k name) new p
  where
    by : (b : Bool) → b ≡ false → is_phrase (cond b k (record k { phrases = k.phrases ++ name ∷ [] })) n ≡ false
        → same_name n name ≡ false
    by true e p = absurd (cc e)
    by false e p = (among_front n name k.phrases p).1

not_put : {V : Type 0} (n key : List ℕ) (es : List (List ℕ × V)) (v : V) → same_name n key ≡ false
    → lookup (same_name n) es ≡ None → lookup (same_name n) (insert_entry same_name es key v) ≡ None
not_put n key es v other none =
    lookup_insert n key es v ∙ (ap (λ b. cond b (Some v) (lookup (same_name n) es)) other ∙ none)

-- ---- items

covers_item : (s : Source) (k : Known) (b : Bodies) (item : RawItem) → Covers k b
    → faults_in s k (item_sites item) ≡ [] → Covers (known_after s k (item_sites item)) (bodies_after s b item)
covers_item s k b (clock token) h p = h
covers_item s k b (wire range names) h p = covers_more s k b (item_sites (wire range names)) h
covers_item s k b (assert word tag f report) h p = covers_more s k b (item_sites (assert word tag f report)) h
covers_item s k b (sequence token r) h p =
    let name : List ℕ = bytes_at s token in
    let new : has_meaning k name ≡ false = new_phrase s k token (sere_sites r) p in
    let first : Known = with_phrase k name in
    covers_more s first (bodies_after s b (sequence token r)) (sere_sites r)
    (record {
      sequences = λ n q. not_put n name b.sequences (placed_sere s b r) (other_phrase k n name new q)
          (h.sequences n (kept_phrase k n name q));
      properties = λ n q. h.properties n (kept_phrase k n name q);
    })
covers_item s k b (property token f) h p =
    let name : List ℕ = bytes_at s token in
    let new : has_meaning k name ≡ false = new_phrase s k token (prop_sites f) p in
    let first : Known = with_phrase k name in
    covers_more s first (bodies_after s b (property token f)) (prop_sites f)
    (record {
      sequences = λ n q. h.sequences n (kept_phrase k n name q);
      properties = λ n q. not_put n name b.properties (placed_prop s b f) (other_phrase k n name new q)
          (h.properties n (kept_phrase k n name q));
    })

new_item : (s : Source) (k : Known) (b : Bodies) (item : RawItem) → Covers k b
    → faults_in s k (item_sites item) ≡ [] → IsNew s b item
new_item s k b (clock token) h p = tt
new_item s k b (wire range names) h p = tt
new_item s k b (assert word tag f report) h p = tt
new_item s k b (sequence token r) h p =
    h.sequences (bytes_at s token) (no_phrase k (bytes_at s token) (new_phrase s k token (sere_sites r) p))
new_item s k b (property token f) h p =
    h.properties (bytes_at s token) (no_phrase k (bytes_at s token) (new_phrase s k token (prop_sites f) p))

new_items : (s : Source) (k : Known) (b : Bodies) (items : List RawItem) → Covers k b
    → faults_in s k (flat_map item_sites items) ≡ [] → AreNew s b items
new_items s k b [] h p = tt
new_items s k b (item ∷ items) h p =
    let rest : List Site = flat_map item_sites items in
    let parts : (faults_in s k (item_sites item) ≡ [])
    × (faults_in s (known_after s k (item_sites item)) rest ≡ [])
    = none_left (faults_in s k (item_sites item)) (faults_in s (known_after s k (item_sites item)) rest)
    (sym (faults_joined s k (item_sites item) rest) ∙ p) in (
      new_item s k b item h parts.0,
      new_items s (known_after s k (item_sites item)) (bodies_after s b item) items
          (covers_item s k b item h parts.0) parts.1,
    )

no_refusal : (a b : Option UnitError) → or_else a b ≡ None → a ≡ None
no_refusal None b p = refl
no_refusal (Some e) b p = absurd (cc p)

-- A unit that isn't refused declares no name again.
pub unit_new : (s : Source) (raw : RawUnit) → refusal s raw ≡ None → AreNew s no_bodies raw.items
unit_new s raw p =
    new_items s nothing no_bodies raw.items (record { sequences = λ n q. refl; properties = λ n q. refl })
    (no_first (unit_faults s raw) (no_refusal (slice_get (unit_faults s raw) 0) (limit_fault s raw.items) p))
