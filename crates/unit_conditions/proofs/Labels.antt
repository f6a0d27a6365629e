-- The labels of a unit that breaks no rule are different.
use Rattle.std.proofs.Common.{◌≡◌, ℕ, suc, ◌+◌, ◌≤◌, Bool, true, false, cond, ◌||◌, Option, None, Some, option_map}
use Rattle.std.proofs.Common.{List, [], ◌∷◌, ◌++◌, length, map, All, refl, ap, sym, ◌∙◌, append_assoc, arith}
use Rattle.std.proofs.lemmas.List.{length-map}
use Rattle.std.proofs.lemmas.List.Elements.{All-nil, All-cons, All-map, All-weaker}
use Rattle.std.proofs.lemmas.List.Kept.{AllPairs-cons}
use Rattle.std.specs.Cmp.Lexicographic.{nat_list_eq_equiv}
use Rattle.std.specs.List.{AllPairs, flat_map, slice_get}
use Rattle.psl_grammar.specs.RawProp.{RawProp}
use Rattle.psl_grammar.specs.RawUnit as u
use Rattle.psl_grammar.specs.RawUnit.{RawItem, RawUnit}
use Rattle.unit_rules.specs.declared.errors.UnitError.{UnitError}
use Rattle.unit_rules.specs.declared.errors.UnitError.TheVariants.{DuplicateName}
use Rattle.unit_rules.specs.Source.{Source, bytes_at}
use Rattle.unit_rules.specs.Sites.{Site, span, declared, used, phrase, label, directive, literal_at, operator, counts}
use Rattle.unit_rules.specs.Sites.{prop_sites, label_sites, item_sites}
use Rattle.unit_rules.specs.Known.{Known, nothing, same_name, is_among, has_meaning, declared_width, with_signal}
use Rattle.unit_rules.specs.Known.{with_phrase, after_site, known_after}
use Rattle.unit_rules.specs.Faults.{where_broken, faults_at, faults_in, unit_faults}
use Rattle.unit_rules.specs.Limits.{or_else, limit_fault, refusal}
use Rattle.unit_rules.specs.Placed.{Bodies, Placed, no_bodies, bodies_after, placed_prop, placed_item, placed_items}
use Rattle.unit_rules.specs.Placed.{placed_unit}
use Rattle.psl_units.specs.Trees.{Signals}
use Rattle.psl_units.specs.Unit.{directive_for}
use Rattle.unit_conditions.specs.Labels.{Differ, HaveOwnLabels}

-- ---- no faults

none_both : {X : Type 0} (xs ys : List X) → xs ++ ys ≡ [] → (xs ≡ []) × (ys ≡ [])
none_both [] ys h = (refl, h)
none_both (x ∷ xs) ys h = absurd (cc h)

unbroken : (b : Bool) (fault : UnitError) → where_broken b fault ≡ [] → b ≡ false
unbroken true fault h = absurd (cc h)
unbroken false fault h = refl

none_first : (faults : List UnitError) (more : Option UnitError) → or_else (slice_get faults 0) more ≡ None
    → faults ≡ []
none_first [] more h = refl
none_first (fault ∷ faults) more h = absurd (cc h)

-- ---- labels that are known stay known

still_among : (name : List ℕ) (names : List (List ℕ)) (more : List ℕ) → is_among name names ≡ true
    → is_among name (names ++ more ∷ []) ≡ true
still_among name [] more h = absurd (cc h)
still_among name (n ∷ names) more h = by (same_name name n) h (λ q. still_among name names more q)
  where
    by : (b : Bool) → b || is_among name names ≡ true
        → (is_among name names ≡ true → is_among name (names ++ more ∷ []) ≡ true)
        → b || is_among name (names ++ more ∷ []) ≡ true
    by true q rest = refl
    by false q rest = rest q

now_among : (name : List ℕ) (names : List (List ℕ)) → is_among name (names ++ name ∷ []) ≡ true
now_among name [] = ap (λ b. b || false) (nat_list_eq_equiv.refl name)
now_among name (n ∷ names) = by (same_name name n) (now_among name names)
  where
    by : (b : Bool) → is_among name (names ++ name ∷ []) ≡ true → b || is_among name (names ++ name ∷ []) ≡ true
    by true rest = refl
    by false rest = rest

signal_labels : (k : Known) (name : List ℕ) (width : ℕ) → (with_signal k name width).labels ≡ k.labels
signal_labels k name width = by (has_meaning k name)
  where
    by : (b : Bool) → (cond b k (record k { signals = k.signals ++ (name, width) ∷ [] })).labels ≡ k.labels
    by true = refl
    by false = refl

phrase_labels : (k : Known) (name : List ℕ) → (with_phrase k name).labels ≡ k.labels
phrase_labels k name = by (has_meaning k name)
  where
    by : (b : Bool) → (cond b k (record k { phrases = k.phrases ++ name ∷ [] })).labels ≡ k.labels
    by true = refl
    by false = refl

module _ (s : Source) (name : List ℕ) where
  among_after : (k : Known) (site : Site) → is_among name k.labels ≡ true
      → is_among name (after_site s k site).labels ≡ true
  among_after k (span high low) h = h
  among_after k (declared token range) h =
      ap (is_among name) (signal_labels k (bytes_at s token) (declared_width s range)) ∙ h
  among_after k (used token select) h = ap (is_among name) (signal_labels k (bytes_at s token) 1) ∙ h
  among_after k (phrase token) h = ap (is_among name) (phrase_labels k (bytes_at s token)) ∙ h
  among_after k (label token) h = still_among name k.labels (bytes_at s token) h
  among_after k (directive word) h = h
  among_after k (literal_at token) h = h
  among_after k (operator mark a b) h = h
  among_after k (counts mark low high) h = h

  among_behind : (k : Known) (sites : List Site) → is_among name k.labels ≡ true
      → is_among name (known_after s k sites).labels ≡ true
  among_behind k [] h = h
  among_behind k (site ∷ sites) h = among_behind (after_site s k site) sites (among_after k site h)

  -- what isn't known later wasn't before
  new_before : (k : Known) (sites : List Site) → is_among name (known_after s k sites).labels ≡ false
      → is_among name k.labels ≡ false
  new_before k sites h = by (is_among name k.labels) refl
    where
      by : (b : Bool) → is_among name k.labels ≡ b → b ≡ false
      by true q = let z : is_among name (known_after s k sites).labels ≡ true = among_behind k sites q in absurd (cc)
      by false q = refl

-- ---- the directives of items

-- each item that comes is different from those before
abbrev pub Pairwise : {X : Type 0} → (X → X → Type 0) → List X → Type 0
Pairwise R [] = Unit {0}
Pairwise R (x ∷ xs) = All (R x) xs × Pairwise R xs

module _ (s : Source) where
  abbrev pub IsNew : Known → Option ℕ → Type 0
  IsNew k None = Unit {0}
  IsNew k (Some token) = is_among (bytes_at s token) k.labels ≡ false

  abbrev pub Apart : Placed → Placed → Type 0
  Apart d e = Differ (option_map (bytes_at s) d.label) (option_map (bytes_at s) e.label)

  pub record AreOwn (k : Known) (ds : List Placed) : Type 0 where
    pub fresh : All (λ (d : Placed). IsNew k d.label) ds
    pub apart : Pairwise Apart ds

  joined_faults : (k : Known) (xs ys : List Site)
      → faults_in s k (xs ++ ys) ≡ faults_in s k xs ++ faults_in s (known_after s k xs) ys
  joined_faults k [] ys = refl
  joined_faults k (x ∷ xs) ys =
      ap (λ more. faults_at s k x ++ more) (joined_faults (after_site s k x) xs ys)
      ∙ sym (append_assoc (faults_at s k x) (faults_in s (after_site s k x) xs)
      (faults_in s (known_after s (after_site s k x) xs) ys))

  faultless : (k : Known) (xs ys : List Site) → faults_in s k (xs ++ ys) ≡ []
      → (faults_in s k xs ≡ []) × (faults_in s (known_after s k xs) ys ≡ [])
  faultless k xs ys h =
      none_both (faults_in s k xs) (faults_in s (known_after s k xs) ys) (sym (joined_faults k xs ys) ∙ h)

  new_sooner : (k : Known) (sites : List Site) (tag : Option ℕ) → IsNew (known_after s k sites) tag → IsNew k tag
  new_sooner k sites None h = tt
  new_sooner k sites (Some token) h = new_before s (bytes_at s token) k sites h

  own_sooner : (k : Known) (sites : List Site) (ds : List Placed) → AreOwn (known_after s k sites) ds → AreOwn k ds
  own_sooner k sites ds h = record {
    fresh = All-weaker (λ (d : Placed). IsNew (known_after s k sites) d.label) (λ (d : Placed). IsNew k d.label)
        (λ d new. new_sooner k sites d.label new) ds h.fresh;
    apart = h.apart;
  }

  -- a label that is known differs from a new one
  known_differs : (k : Known) (token : ℕ) (tag : Option ℕ) → is_among (bytes_at s token) k.labels ≡ true → IsNew k tag
      → Differ (Some (bytes_at s token)) (option_map (bytes_at s) tag)
  known_differs k token None h new = tt
  known_differs k token (Some other) h new = λ same.
      let z : is_among (bytes_at s token) k.labels ≡ is_among (bytes_at s other) k.labels =
      ap (λ (n : List ℕ). is_among n k.labels) same in absurd (cc)

  own_directive : (k : Known) (tag report : Option ℕ) (body : RawProp) (sites : List Site)
      → faults_in s k (label_sites tag ++ sites) ≡ [] → (ds : List Placed)
      → AreOwn (known_after s k (label_sites tag ++ sites)) ds
      → AreOwn k (record { label = tag; report = report; body = body } ∷ ds)
  own_directive k None report body sites h ds rest =
      let sooner : AreOwn k ds = own_sooner k sites ds rest in
      record {
        fresh = All-cons (λ (d : Placed). IsNew k d.label) (record { label = None; report = report; body = body }) ds tt
            sooner.fresh;
        apart = (λ i e lt. tt, sooner.apart);
      }
  own_directive k (Some token) report body sites h ds rest =
      let name : List ℕ = bytes_at s token in
      let behind : Known = after_site s k (label token) in
      let own : Placed = record { label = Some token; report = report; body = body } in
      let sooner : AreOwn k ds = own_sooner k (label token ∷ sites) ds rest in
      let new : is_among name k.labels ≡ false =
      unbroken (is_among name k.labels) (DuplicateName token)
      (none_both (faults_at s k (label token)) (faults_in s behind sites) h).0 in
      let known : is_among name (known_after s behind sites).labels ≡ true =
      among_behind s name behind sites (now_among name k.labels) in
      record {
        fresh = All-cons (λ (d : Placed). IsNew k d.label) own ds new sooner.fresh;
        apart = (
          All-weaker (λ (e : Placed). IsNew (known_after s behind sites) e.label) (Apart own)
              (λ e fresh. known_differs (known_after s behind sites) token e.label known fresh) ds rest.fresh,
          sooner.apart,
        );
      }

  own_item : (bodies : Bodies) (k : Known) (item : RawItem) → faults_in s k (item_sites item) ≡ [] → (ds : List Placed)
      → AreOwn (known_after s k (item_sites item)) ds → AreOwn k (placed_item s bodies item ++ ds)
  own_item bodies k (u.clock n) h ds rest = own_sooner k [] ds rest
  own_item bodies k (u.wire range names) h ds rest = own_sooner k (item_sites (u.wire range names)) ds rest
  own_item bodies k (u.RawItem.sequence n r) h ds rest =
      own_sooner k (item_sites (u.RawItem.sequence n r)) ds rest
  own_item bodies k (u.RawItem.property n f) h ds rest =
      own_sooner k (item_sites (u.RawItem.property n f)) ds rest
  own_item bodies k (u.assert word tag f report) h ds rest =
      own_directive k tag report (placed_prop s bodies f) (directive word ∷ prop_sites f) h ds rest

  own_items : (bodies : Bodies) (k : Known) (items : List RawItem) → faults_in s k (flat_map item_sites items) ≡ []
      → AreOwn k (placed_items s bodies items)
  own_items bodies k [] h = record { fresh = All-nil (λ (d : Placed). IsNew k d.label); apart = tt }
  own_items bodies k (item ∷ items) h =
      let halves = faultless k (item_sites item) (flat_map item_sites items) h in
      own_item bodies k item halves.0 (placed_items s (bodies_after s bodies item) items)
      (own_items (bodies_after s bodies item) (known_after s k (item_sites item)) items halves.1)

-- ---- the directives of the unit

apart_mapped : (s : Source) (signals : Signals) (ds : List Placed) → Pairwise (Apart s) ds
    → AllPairs HaveOwnLabels (map (directive_for s signals) ds)
apart_mapped s signals [] h = λ i j d lt within. absurd (omega arith)
apart_mapped s signals (d ∷ ds) h =
    AllPairs-cons HaveOwnLabels (directive_for s signals d) (map (directive_for s signals) ds)
    (All-map (HaveOwnLabels (directive_for s signals d)) (directive_for s signals) ds
    (All-weaker (Apart s d) (λ (e : Placed). HaveOwnLabels (directive_for s signals d) (directive_for s signals e))
    (λ e apart. apart) ds h.0)) (apart_mapped s signals ds h.1)

pub unit_apart : (s : Source) (signals : Signals) (raw : RawUnit) → refusal s raw ≡ None
    → AllPairs HaveOwnLabels (map (directive_for s signals) (placed_unit s raw))
unit_apart s signals raw h =
    let none : unit_faults s raw ≡ [] = none_first (unit_faults s raw) (limit_fault s raw.items) h in
    let own : AreOwn s nothing (placed_unit s raw) = own_items s no_bodies nothing raw.items none in
    apart_mapped s signals (placed_unit s raw) own.apart

-- ---- no more directives than items

few_placed : (s : Source) (bodies : Bodies) (items : List RawItem) → length (placed_items s bodies items) ≤ length items
few_placed s bodies [] = omega arith
few_placed s bodies (item ∷ items) =
    let rest : length (placed_items s (bodies_after s bodies item) items) ≤ length items =
    few_placed s (bodies_after s bodies item) items in
    one_placed item (placed_items s (bodies_after s bodies item) items) (length items) rest
  where
    one_placed : (x : RawItem) (ds : List Placed) (n : ℕ) → length ds ≤ n
        → length (placed_item s bodies x ++ ds) ≤ suc n
    one_placed (u.clock n) ds m h = omega arith
    one_placed (u.wire range names) ds m h = omega arith
    one_placed (u.RawItem.sequence n r) ds m h = omega arith
    one_placed (u.RawItem.property n f) ds m h = omega arith
    one_placed (u.assert word tag f report) ds m h = omega arith

pub few_directives : (s : Source) (signals : Signals) (raw : RawUnit)
    → length (map (directive_for s signals) (placed_unit s raw)) ≤ length raw.items
few_directives s signals raw =
    omega (arith, length-map (placed_unit s raw) (directive_for s signals), few_placed s no_bodies raw.items)
