-- The signals of a unit have usable names, each once, and widths of vectors.
use Rattle.std.proofs.Common.{◌≡◌, ◌≢◌, ℕ, ◌+◌, ◌<◌, Bool, true, false, cond, ◌||◌, Option, None, Some, is_some, List}
use Rattle.std.proofs.Common.{[], ◌∷◌, ◌++◌, map, All, refl, ap, sym, subst, arith, nat_lt}
use Rattle.std.proofs.lemmas.Bool.Decides.{nat_tests}
use Rattle.std.proofs.lemmas.List.{map-append}
use Rattle.std.proofs.lemmas.List.Elements.{All-nil, All-cons, All-push, All-map, All-weaker}
use Rattle.std.proofs.lemmas.List.Quantifiers.{all_pairs_push}
use Rattle.std.specs.Cmp.Lexicographic.{nat_list_eq_equiv}
use Rattle.std.specs.List.{AllPairs, flat_map}
use Rattle.std.specs.Map.{lookup}
use Rattle.psl_model.specs.declared.names.Signal.{Signal}
use Rattle.psl_model.specs.Limits.{vector_limit}
use Rattle.psl_model.specs.Names.{IsUsableName}
use Rattle.psl_grammar.specs.RawExpr as e
use Rattle.psl_grammar.specs.RawExpr.{RawExpr}
use Rattle.psl_grammar.specs.RawSere as s
use Rattle.psl_grammar.specs.RawProp as p
use Rattle.psl_grammar.specs.RawUnit as u
use Rattle.psl_grammar.specs.RawUnit.{RawItem, RawUnit}
use Rattle.psl_grammar.specs.TreeNames.{ExprNames, SereNames, OnNames, PropNames}
use Rattle.unit_rules.specs.Source.{Source, bytes_at}
use Rattle.unit_rules.specs.Numbers.{number_at}
use Rattle.unit_rules.specs.Sites.{Site, span, declared, used, phrase, label, directive, literal_at, operator, counts}
use Rattle.unit_rules.specs.Sites.{expr_sites, count_sites, sere_sites, on_sites, prop_sites, span_sites, label_sites}
use Rattle.unit_rules.specs.Sites.{item_sites, unit_sites}
use Rattle.unit_rules.specs.Known.{Known, nothing, same_name, is_phrase, has_meaning, declared_width, with_signal}
use Rattle.unit_rules.specs.Known.{with_phrase, after_site, known_after, unit_signals}
use Rattle.verilog_text.specs.Module.{IsWidth, IsPort}
use Rattle.psl_units.specs.Unit.{signal_for}
use Rattle.unit_conditions.proofs.Phrases.{Any}
use Rattle.unit_conditions.proofs.Items.{AllNamed, ItemNamed, ItemsNamed}

-- ---- the places of signals are names

abbrev pub SiteNamed : (N : ℕ → Type 0) → Site → Type 0
SiteNamed N (span high low) = Unit {0}
SiteNamed N (declared token range) = N token
SiteNamed N (used token select) = N token
SiteNamed N (phrase token) = Unit {0}
SiteNamed N (label token) = Unit {0}
SiteNamed N (directive word) = Unit {0}
SiteNamed N (literal_at token) = Unit {0}
SiteNamed N (operator mark a b) = Unit {0}
SiteNamed N (counts mark low high) = Unit {0}

abbrev pub SitesNamed : (N : ℕ → Type 0) → List Site → Type 0
SitesNamed N [] = Unit {0}
SitesNamed N (x ∷ xs) = SiteNamed N x × SitesNamed N xs

module _ (N : ℕ → Type 0) where
  both : (xs ys : List Site) → SitesNamed N xs → SitesNamed N ys → SitesNamed N (xs ++ ys)
  both [] ys h g = g
  both (x ∷ xs) ys h g = (h.0, both xs ys h.1 g)

  expr_places : (x : RawExpr) → ExprNames N x → SitesNamed N (expr_sites x)
  expr_places (e.name n select) h = (h, tt)
  expr_places (e.literal n) h = (tt, tt)
  expr_places (e.unary mark a) h = expr_places a h
  expr_places (e.binary mark a b) h =
      both (expr_sites a) (operator mark a b ∷ expr_sites b) (expr_places a h.0) (tt, expr_places b h.1)
  expr_places (e.choice mark a b c) h =
      both (expr_sites a) (expr_sites b ++ expr_sites c) (expr_places a h.0)
      (both (expr_sites b) (expr_sites c) (expr_places b h.1) (expr_places c h.2))

  count_places : (mark : ℕ) (low high : Option ℕ) → SitesNamed N (count_sites mark low high)
  count_places mark None high = tt
  count_places mark (Some low) high = (tt, tt)

  sere_places : (r : s.RawSere) → SereNames N Any r → SitesNamed N (sere_sites r)
  sere_places (s.bool a) h = expr_places a h
  sere_places (s.named n) h = tt
  sere_places (s.lone mark low high) h = count_places mark low high
  sere_places (s.repeat r mark low high) h =
      both (sere_sites r) (count_sites mark low high) (sere_places r h) (count_places mark low high)
  sere_places (s.join mark r t) h = both (sere_sites r) (sere_sites t) (sere_places r h.0) (sere_places t h.1)

  on_places : (on : Option RawExpr) → OnNames N on → SitesNamed N (on_sites on)
  on_places None h = tt
  on_places (Some a) h = expr_places a h

  prop_places : (f : p.RawProp) → PropNames N Any Any f → SitesNamed N (prop_sites f)
  prop_places (p.bool a) h = expr_places a h
  prop_places (p.named n) h = tt
  prop_places (p.seq r strong) h = sere_places r h
  prop_places (p.prefix word f) h = prop_places f h
  prop_places (p.next word on low high f) h =
      both (on_sites on) (count_sites word low high ++ prop_sites f) (on_places on h.0)
      (both (count_sites word low high) (prop_sites f) (count_places word low high) (prop_places f h.1))
  prop_places (p.binary mark f g) h = both (prop_sites f) (prop_sites g) (prop_places f h.0) (prop_places g h.1)
  prop_places (p.suffix mark r f) h = both (sere_sites r) (prop_sites f) (sere_places r h.0) (prop_places f h.1)
  prop_places (p.abort f a) h = both (prop_sites f) (expr_sites a) (prop_places f h.0) (expr_places a h.1)

  span_places : (range : Option (ℕ × ℕ)) → SitesNamed N (span_sites range)
  span_places None = tt
  span_places (Some range) = (tt, tt)

  label_places : (tag : Option ℕ) → SitesNamed N (label_sites tag)
  label_places None = tt
  label_places (Some token) = (tt, tt)

  declared_places : (range : Option (ℕ × ℕ)) (names : List ℕ) → AllNamed N names
      → SitesNamed N (map (λ token. declared token range) names)
  declared_places range [] h = tt
  declared_places range (n ∷ names) h = (h.0, declared_places range names h.1)

  item_places : (T : ℕ → Type 0) (x : RawItem) → ItemNamed N T x → SitesNamed N (item_sites x)
  item_places T (u.clock n) h = tt
  item_places T (u.wire range names) h =
      both (span_sites range) (map (λ token. declared token range) names) (span_places range)
      (declared_places range names h)
  item_places T (u.RawItem.sequence n r) h = (tt, sere_places r h)
  item_places T (u.RawItem.property n f) h = (tt, prop_places f h)
  item_places T (u.assert word tag f report) h =
      both (label_sites tag) (directive word ∷ prop_sites f) (label_places tag) (tt, prop_places f h.1)

  items_places : (T : ℕ → Type 0) (xs : List RawItem) → ItemsNamed N T xs
      → SitesNamed N (flat_map item_sites xs)
  items_places T [] h = tt
  items_places T (x ∷ xs) h =
      both (item_sites x) (flat_map item_sites xs) (item_places T x h.0) (items_places T xs h.1)

-- ---- what is known of signals

abbrev pub Entry : Type 0
Entry = List ℕ × ℕ

pub record IsSignal (entry : Entry) : Type 0 where
  pub name : IsUsableName entry.0
  pub width : IsWidth entry.1

abbrev pub names_in : List Entry → List (List ℕ)
names_in entries = map (λ (x : Entry). x.0) entries

pub record AreSignals (entries : List Entry) : Type 0 where
  pub all : All IsSignal entries
  pub distinct : AllPairs (λ a b. a ≢ b) (names_in entries)

other_key : (test : List ℕ → Bool) (es : List Entry) (name : List ℕ) → test name ≡ true → lookup test es ≡ None
    → All (λ key. key ≢ name) (names_in es)
other_key test [] name own none = All-nil (λ (key : List ℕ). key ≢ name)
other_key test (x ∷ es) name own none = by (test x.0) refl none (λ r. other_key test es name own r)
  where
    differs : test x.0 ≡ false → x.0 ≢ name
    differs q = λ same. let z : test x.0 ≡ test name = ap test same in absurd (cc)

    by : (b : Bool) → test x.0 ≡ b → cond b (Some x.1) (lookup test es) ≡ None
        → (lookup test es ≡ None → All (λ key. key ≢ name) (names_in es))
        → All (λ key. key ≢ name) (names_in (x ∷ es))
    by true q r rest = absurd (cc r)
    by false q r rest = All-cons (λ (key : List ℕ). key ≢ name) x.0 (names_in es) (differs q) (rest r)

none_there : (o : Option ℕ) (b : Bool) → is_some o || b ≡ false → o ≡ None
none_there None b h = refl
none_there (Some w) b h = absurd (cc h)

push_signal : (k : Known) (name : List ℕ) (width : ℕ) → AreSignals k.signals → IsSignal (name, width)
    → has_meaning k name ≡ false → AreSignals (k.signals ++ (name, width) ∷ [])
push_signal k name width h own new =
    let none : lookup (same_name name) k.signals ≡ None =
    none_there (lookup (same_name name) k.signals) (is_phrase k name) new in
    let others : All (λ key. key ≢ name) (names_in k.signals) =
    other_key (same_name name) k.signals name (nat_list_eq_equiv.refl name) none in
    record {
      all = All-push IsSignal k.signals (name, width) h.all own;
      distinct = subst (λ (ks : List (List ℕ)). AllPairs (λ a b. a ≢ b) ks)
          (sym (map-append (λ (x : Entry). x.0) k.signals ((name, width) ∷ [])))
          (all_pairs_push (λ (a b : List ℕ). a ≢ b) (names_in k.signals) name h.distinct
          (λ i d lt. others i d lt));
    }

more_signals : (k : Known) (name : List ℕ) (width : ℕ) → AreSignals k.signals → IsSignal (name, width)
    → AreSignals (with_signal k name width).signals
more_signals k name width h own = by (has_meaning k name) refl
  where
    by : (b : Bool) → has_meaning k name ≡ b
        → AreSignals (cond b k (record k { signals = k.signals ++ (name, width) ∷ [] })).signals
    by true q = h
    by false q = push_signal k name width h own q

more_phrases : (k : Known) (name : List ℕ) → AreSignals k.signals → AreSignals (with_phrase k name).signals
more_phrases k name h = by (has_meaning k name)
  where
    by : (b : Bool) → AreSignals (cond b k (record k { phrases = k.phrases ++ name ∷ [] })).signals
    by true = h
    by false = h

below_limit : (n : ℕ) → nat_lt n vector_limit ≡ true → IsWidth (n + 1)
below_limit n q = let lt : n < 64 = grind (arith, nat_tests) in (omega arith, omega arith)

declared_fits : (x : Source) (range : Option (ℕ × ℕ)) → IsWidth (declared_width x range)
declared_fits x None = (omega arith, omega arith)
declared_fits x (Some range) = by (nat_lt (number_at x range.0) vector_limit) refl
  where
    by : (b : Bool) → nat_lt (number_at x range.0) vector_limit ≡ b → IsWidth (cond b (number_at x range.0 + 1) 1)
    by true q = below_limit (number_at x range.0) q
    by false q = (omega arith, omega arith)

module _ (x : Source) where
  abbrev pub Usable : ℕ → Type 0
  Usable n = IsUsableName (bytes_at x n)

  signals_after : (k : Known) (site : Site) → SiteNamed Usable site → AreSignals k.signals
      → AreSignals (after_site x k site).signals
  signals_after k (span high low) n h = h
  signals_after k (declared token range) n h =
      more_signals k (bytes_at x token) (declared_width x range) h
      (record { name = n; width = declared_fits x range })
  signals_after k (used token select) n h =
      more_signals k (bytes_at x token) 1 h (record { name = n; width = (omega arith, omega arith) })
  signals_after k (phrase token) n h = more_phrases k (bytes_at x token) h
  signals_after k (label token) n h = h
  signals_after k (directive word) n h = h
  signals_after k (literal_at token) n h = h
  signals_after k (operator mark a b) n h = h
  signals_after k (counts mark low high) n h = h

  signals_behind : (k : Known) (sites : List Site) → SitesNamed Usable sites → AreSignals k.signals
      → AreSignals (known_after x k sites).signals
  signals_behind k [] n h = h
  signals_behind k (site ∷ sites) n h =
      signals_behind (after_site x k site) sites n.1 (signals_after k site n.0 h)

  pub unit_has_signals : (T : ℕ → Type 0) (raw : RawUnit) → ItemsNamed Usable T raw.items
      → AreSignals (unit_signals x raw)
  unit_has_signals T raw n =
      signals_behind nothing (unit_sites raw) (items_places Usable T raw.items n)
      (record { all = All-nil IsSignal; distinct = λ i j d lt within. absurd (omega arith) })

-- ---- as signals of the unit

as_port : (entry : Entry) → IsSignal entry → IsPort (signal_for entry)
as_port entry h = record { name = h.name; width = h.width }

pub as_ports : (entries : List Entry) → AreSignals entries → All IsPort (map signal_for entries)
as_ports entries h =
    All-map IsPort signal_for entries
    (All-weaker IsSignal (λ (entry : Entry). IsPort (signal_for entry)) as_port entries h.all)

same_names : (entries : List Entry) → names_in entries ≡ map (λ (y : Signal). y.name) (map signal_for entries)
same_names [] = refl
same_names (x ∷ xs) = ap (λ ns. x.0 ∷ ns) (same_names xs)

pub as_distinct : (entries : List Entry) → AreSignals entries
    → AllPairs (λ a b. a ≢ b) (map (λ (y : Signal). y.name) (map signal_for entries))
as_distinct entries h = subst (λ (ns : List (List ℕ)). AllPairs (λ a b. a ≢ b) ns) (same_names entries) h.distinct
