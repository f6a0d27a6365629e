-- Where no rule is broken, the expression of a raw one is valid.
use Rattle.std.proofs.Common.{◌≡◌, ℕ, ◌+◌, ◌<◌, ◌≤◌, ◌^◌, nat_lt, nat_le, not, ◌&&◌, ◌||◌, Bool, true, false, cond}
use Rattle.std.proofs.Common.{Option, None, Some, List, [], ◌∷◌, ◌++◌, length, refl, ap, sym, ◌∙◌, subst, arith}
use Rattle.std.proofs.Common.{append_assoc, lit≤, lit<, slice_index}
use Rattle.std.proofs.lemmas.Bool.Decides.{nat_tests}
use Rattle.std.proofs.lemmas.Grind.{fold-append}
use Rattle.std.proofs.lemmas.List.{append-nil}
use Rattle.std.specs.Map.{lookup}
use Rattle.psl_grammar.specs.RawExpr.{RawExpr, name, literal, unary, binary, choice}
use Rattle.psl_model.specs.Expr as e
use Rattle.psl_model.specs.Limits.{vector_limit}
use Rattle.psl_model.specs.Valid as v
use Rattle.psl_model.specs.Valid.{IsValid, bare_by_both, bare_by_left, choose_bare, is_flip, wants_width}
use Rattle.unit_rules.specs.declared.errors.UnitError.{UnitError}
use Rattle.unit_rules.specs.declared.errors.UnitError.TheVariants.{BadLiteral, BadSelect, ConstantArithmetic}
use Rattle.unit_rules.specs.Source.{Source, kind_at, bytes_at, is_number, is_sized, is_true_word}
use Rattle.unit_rules.specs.Numbers.{number_at, sized_width, sized_value, sized_base, sized_digits, are_digits}
use Rattle.unit_rules.specs.Numbers.{is_lawful_sized}
use Rattle.unit_rules.specs.Operators.{un_op_of, bin_op_of}
use Rattle.unit_rules.specs.Sites.{Site, used, literal_at, operator, expr_sites}
use Rattle.unit_rules.specs.Sites.{span, declared, phrase, label, directive, counts}
use Rattle.unit_rules.specs.Known.{Known, same_name, has_meaning, with_signal, with_phrase, declared_width}
use Rattle.unit_rules.specs.Known.{width_of_signal, after_site, known_after}
use Rattle.unit_rules.specs.Faults.{where_broken, faults_at, faults_in, is_bare, is_lawful_literal, select_faults}
use Rattle.psl_units.specs.Trees.{Signals, signal_at, true_expr, false_expr, named_expr, literal_expr, expr_for}
use Rattle.psl_units.proofs.NoFaults.{both_none, unbroken, neither, joined_faults}
use Rattle.psl_units.proofs.Found.{widths_of, StandsAt, found_stands, stays_found, IsUse, is_use}

-- ---- signals only grow

pub record Grown (few many : Signals) : Type 0 where
  pub more : Signals
  pub listed : many ≡ few ++ more

same_signals : (signals : Signals) → Grown signals signals
same_signals signals = record { more = []; listed = sym (append-nil signals) }

two_growths : (a b c : Signals) → Grown a b → Grown b c → Grown a c
two_growths a b c p q = record {
  more = p.more ++ q.more;
  listed = q.listed ∙ ap (λ xs. xs ++ q.more) p.listed ∙ append_assoc a p.more q.more;
}

signal_grows : (k : Known) (n : List ℕ) (w : ℕ) → Grown k.signals (with_signal k n w).signals
signal_grows k n w = by (has_meaning k n)
  where
    by : (b : Bool) → Grown k.signals (cond b k (record k { signals = k.signals ++ (n, w) ∷ [] })).signals
    by true = same_signals k.signals
    by false = record { more = (n, w) ∷ []; listed = refl }

phrase_grows : (k : Known) (n : List ℕ) → Grown k.signals (with_phrase k n).signals
phrase_grows k n = by (has_meaning k n)
  where
    by : (b : Bool) → Grown k.signals (cond b k (record k { phrases = k.phrases ++ n ∷ [] })).signals
    by true = same_signals k.signals
    by false = same_signals k.signals

site_grows : (s : Source) (k : Known) (x : Site) → Grown k.signals (after_site s k x).signals
site_grows s k (span high low) = same_signals k.signals
site_grows s k (declared token range) = signal_grows k (bytes_at s token) (declared_width s range)
site_grows s k (used token select) = signal_grows k (bytes_at s token) 1
site_grows s k (phrase token) = phrase_grows k (bytes_at s token)
site_grows s k (label token) = same_signals k.signals
site_grows s k (directive word) = same_signals k.signals
site_grows s k (literal_at token) = same_signals k.signals
site_grows s k (operator mark a b) = same_signals k.signals
site_grows s k (counts mark low high) = same_signals k.signals

sites_grow : (s : Source) (k : Known) (xs : List Site) → Grown k.signals (known_after s k xs).signals
sites_grow s k [] = same_signals k.signals
sites_grow s k (x ∷ xs) =
    two_growths k.signals (after_site s k x).signals (known_after s (after_site s k x) xs).signals (site_grows s k x)
    (sites_grow s (after_site s k x) xs)

-- ---- sites without a fault, before all signals of a unit

pub record Clean (s : Source) (signals : Signals) (k : Known) (xs : List Site) : Type 0 where
  pub none : faults_in s k xs ≡ []
  pub grown : Grown (known_after s k xs).signals signals

module _ (s : Source) (signals : Signals) where
  split_none : (k : Known) (xs ys : List Site) → Clean s signals k (xs ++ ys)
      → (faults_in s k xs ≡ []) × (faults_in s (known_after s k xs) ys ≡ [])
  split_none k xs ys h =
      both_none (faults_in s k xs) (faults_in s (known_after s k xs) ys) (sym (joined_faults s k xs ys) ∙ h.none)

  split_grown : (k : Known) (xs ys : List Site) → Clean s signals k (xs ++ ys)
      → Grown (known_after s (known_after s k xs) ys).signals signals
  split_grown k xs ys h =
      let P : Known → Type 0 = λ m. Grown m.signals signals in
      subst P (fold-append (after_site s) k xs ys) h.grown

  pub clean_back : (k : Known) (xs ys : List Site) → Clean s signals k (xs ++ ys)
      → Clean s signals (known_after s k xs) ys
  clean_back k xs ys h = record { none = (split_none k xs ys h).1; grown = split_grown k xs ys h }

  pub clean_front : (k : Known) (xs ys : List Site) → Clean s signals k (xs ++ ys) → Clean s signals k xs
  clean_front k xs ys h = record {
    none = (split_none k xs ys h).0;
    grown = two_growths (known_after s k xs).signals (known_after s (known_after s k xs) ys).signals signals
        (sites_grow s (known_after s k xs) ys) (split_grown k xs ys h);
  }

  pub clean_site : (k : Known) (x : Site) (ys : List Site) → Clean s signals k (x ∷ ys) → faults_at s k x ≡ []
  clean_site k x ys h = (both_none (faults_at s k x) (faults_in s (after_site s k x) ys) h.none).0

  pub clean_rest : (k : Known) (x : Site) (ys : List Site) → Clean s signals k (x ∷ ys)
      → Clean s signals (after_site s k x) ys
  clean_rest k x ys h = record {
    none = (both_none (faults_at s k x) (faults_in s (after_site s k x) ys) h.none).1;
    grown = h.grown;
  }

-- ---- names

not_at_most : (a b : ℕ) → nat_le a b ≡ false → b < a
not_at_most a b p = grind (arith, nat_tests)

not_below : (a b : ℕ) → nat_lt a b ≡ false → b ≤ a
not_below a b p = grind (arith, nat_tests)

below_true : (a b : ℕ) → nat_lt a b ≡ true → a < b
below_true a b p = grind (arith, nat_tests)

at_most_true : (a b : ℕ) → nat_le a b ≡ true → a ≤ b
at_most_true a b p = grind (arith, nat_tests)

both : (a b : Bool) → a && b ≡ true → (a ≡ true) × (b ≡ true)
both true b p = (refl, p)
both false b p = absurd (cc p)

select_valid : (s : Source) (signals : Signals) (place w : ℕ) (select : Option (ℕ × Option ℕ))
    → StandsAt signals place w → select_faults s w select ≡ []
    → IsValid (widths_of signals) (named_expr s place select)
select_valid s signals place w None h p = h.within
select_valid s signals place w (Some (high, None)) h p =
    let one = neither (nat_le w 1) (nat_le w (number_at s high)) (unbroken _ _ (both_none _ _ p).0) in
    let wide : 1 < w = not_at_most w 1 one.0 in
    let inside : number_at s high < w = not_at_most w (number_at s high) one.1 in
    let bits : slice_index (widths_of signals) place ≡ w = h.bits in
    (h.within, omega arith, omega arith)
select_valid s signals place w (Some (high, Some low)) h p =
    let one = neither (nat_le w 1) (nat_le w (number_at s high)) (unbroken _ _ (both_none _ _ p).0) in
    let two : (nat_le w 1 || nat_le w (number_at s low) ≡ false) × (nat_lt (number_at s high) (number_at s low) ≡ false)
    = neither (nat_le w 1 || nat_le w (number_at s low)) (nat_lt (number_at s high) (number_at s low))
    (unbroken _ _ (both_none _ _ p).1) in
    let wide : 1 < w = not_at_most w 1 one.0 in
    let inside : number_at s high < w = not_at_most w (number_at s high) one.1 in
    let bits : slice_index (widths_of signals) place ≡ w = h.bits in
    (h.within, omega arith, omega arith, not_below (number_at s high) (number_at s low) two.1)

name_valid : (s : Source) (signals : Signals) (k : Known) (token : ℕ) (select : Option (ℕ × Option ℕ))
    → Clean s signals k (used token select ∷ [])
    → IsValid (widths_of signals) (expr_for s signals (name token select))
name_valid s signals k token select h =
    let use_here : IsUse s k token select = is_use s k token select (clean_site s signals k (used token select) [] h) in
    let test : List ℕ → Bool = same_name (bytes_at s token) in
    let w : ℕ = width_of_signal k (bytes_at s token) in
    let found : lookup test ((with_signal k (bytes_at s token) 1).signals ++ h.grown.more) ≡ Some w =
    stays_found test (with_signal k (bytes_at s token) 1).signals h.grown.more w use_here.found in
    select_valid s signals (signal_at s signals token) w select
    (found_stands test signals w (ap (λ xs. lookup test xs) h.grown.listed ∙ found)) use_here.none

-- ---- literals

sized_valid : (widths : List ℕ) (bytes : List ℕ) → is_lawful_sized bytes ≡ true
    → IsValid widths (e.sized (sized_width bytes) (sized_value bytes))
sized_valid widths bytes p =
    let halves = both (nat_le 1 (sized_width bytes) && nat_le (sized_width bytes) vector_limit)
    (are_digits (sized_base bytes) (sized_digits bytes) && nat_lt (sized_value bytes) (2 ^ sized_width bytes)) p in
    let ends = both (nat_le 1 (sized_width bytes)) (nat_le (sized_width bytes) vector_limit) halves.0 in
    let value = both (are_digits (sized_base bytes) (sized_digits bytes))
    (nat_lt (sized_value bytes) (2 ^ sized_width bytes)) halves.1 in (
      at_most_true 1 (sized_width bytes) ends.0,
      at_most_true (sized_width bytes) vector_limit ends.1,
      below_true (sized_value bytes) (2 ^ sized_width bytes) value.1,
    )

pub true_valid : (widths : List ℕ) → IsValid widths true_expr
true_valid widths = (lit≤ tt, lit≤ tt, lit< tt)

pub false_valid : (widths : List ℕ) → IsValid widths false_expr
false_valid widths = (lit≤ tt, lit≤ tt, lit< tt)

literal_valid : (s : Source) (widths : List ℕ) (token : ℕ) → is_lawful_literal s token ≡ true
    → IsValid widths (literal_expr s token)
literal_valid s widths token p =
    by (is_number (kind_at s token)) (is_sized (kind_at s token)) (is_true_word (kind_at s token)) p
  where
    by : (a b c : Bool)
        → cond a (nat_lt (number_at s token) (2 ^ 32)) (cond b (is_lawful_sized (bytes_at s token)) true) ≡ true
        → IsValid widths (cond a (e.plain (number_at s token))
        (cond b (e.sized (sized_width (bytes_at s token)) (sized_value (bytes_at s token)))
        (cond c true_expr false_expr)))
    by true b c q = below_true (number_at s token) (2 ^ 32) q
    by false true c q = sized_valid widths (bytes_at s token) q
    by false false true q = true_valid widths
    by false false false q = false_valid widths

kept : (b : Bool) (fault : UnitError) → where_broken (not b) fault ≡ [] → b ≡ true
kept true fault p = refl
kept false fault p = absurd (cc p)

-- ---- expressions without a width of their own

bare_name : (s : Source) (place : ℕ) (select : Option (ℕ × Option ℕ)) → v.is_bare (named_expr s place select) ≡ false
bare_name s place None = refl
bare_name s place (Some (high, None)) = refl
bare_name s place (Some (high, Some low)) = refl

bare_literal : (s : Source) (token : ℕ) → v.is_bare (literal_expr s token) ≡ is_number (kind_at s token)
bare_literal s token =
    by (is_number (kind_at s token)) (is_sized (kind_at s token)) (is_true_word (kind_at s token))
  where
    by : (a b c : Bool) → v.is_bare (cond a (e.plain (number_at s token))
        (cond b (e.sized (sized_width (bytes_at s token)) (sized_value (bytes_at s token)))
        (cond c true_expr false_expr))) ≡ a
    by true b c = refl
    by false true c = refl
    by false false true = refl
    by false false false = refl

pub bare_same : (s : Source) (signals : Signals) (x : RawExpr) → v.is_bare (expr_for s signals x) ≡ is_bare s x
bare_same s signals (name token select) = bare_name s (signal_at s signals token) select
bare_same s signals (literal token) = bare_literal s token
bare_same s signals (unary mark a) = ap (λ b. is_flip (un_op_of (kind_at s mark)) && b) (bare_same s signals a)
bare_same s signals (binary mark a b) =
    ap (λ l. choose_bare (bare_by_both (bin_op_of (kind_at s mark))) (bare_by_left (bin_op_of (kind_at s mark))) l
    (v.is_bare (expr_for s signals b))) (bare_same s signals a)
    ∙ ap (λ r. choose_bare (bare_by_both (bin_op_of (kind_at s mark))) (bare_by_left (bin_op_of (kind_at s mark)))
    (is_bare s a) r) (bare_same s signals b)
bare_same s signals (choice mark test first second) =
    ap (λ l. l && v.is_bare (expr_for s signals second)) (bare_same s signals first)
    ∙ ap (λ r. is_bare s first && r) (bare_same s signals second)

operator_valid : (s : Source) (signals : Signals) (k : Known) (mark : ℕ) (a b : RawExpr)
    → faults_at s k (operator mark a b) ≡ []
    → wants_width (bin_op_of (kind_at s mark))
    && (v.is_bare (expr_for s signals a) && v.is_bare (expr_for s signals b)) ≡ false
operator_valid s signals k mark a b p =
    ap (λ l. wants_width (bin_op_of (kind_at s mark)) && (l && v.is_bare (expr_for s signals b)))
    (bare_same s signals a)
    ∙ ap (λ r. wants_width (bin_op_of (kind_at s mark)) && (is_bare s a && r)) (bare_same s signals b)
    ∙ unbroken (wants_width (bin_op_of (kind_at s mark)) && (is_bare s a && is_bare s b)) (ConstantArithmetic mark) p

-- ---- expressions

pub expr_valid : (s : Source) (signals : Signals) (k : Known) (x : RawExpr) → Clean s signals k (expr_sites x)
    → IsValid (widths_of signals) (expr_for s signals x)
expr_valid s signals k (name token select) h = name_valid s signals k token select h
expr_valid s signals k (literal token) h =
    literal_valid s (widths_of signals) token
    (kept (is_lawful_literal s token) (BadLiteral token) (clean_site s signals k (literal_at token) [] h))
expr_valid s signals k (unary mark a) h = expr_valid s signals k a h
expr_valid s signals k (binary mark a b) h =
    let back = clean_back s signals k (expr_sites a) (operator mark a b ∷ expr_sites b) h in
    let m : Known = known_after s k (expr_sites a) in (
      operator_valid s signals m mark a b (clean_site s signals m (operator mark a b) (expr_sites b) back),
      expr_valid s signals k a (clean_front s signals k (expr_sites a) (operator mark a b ∷ expr_sites b) h),
      expr_valid s signals m b (clean_rest s signals m (operator mark a b) (expr_sites b) back),
    )
expr_valid s signals k (choice mark test first second) h =
    let back = clean_back s signals k (expr_sites test) (expr_sites first ++ expr_sites second) h in
    let m : Known = known_after s k (expr_sites test) in (
      expr_valid s signals k test (clean_front s signals k (expr_sites test) (expr_sites first ++ expr_sites second) h),
      expr_valid s signals m first (clean_front s signals m (expr_sites first) (expr_sites second) back),
      expr_valid s signals (known_after s m (expr_sites first)) second
          (clean_back s signals m (expr_sites first) (expr_sites second) back),
    )
