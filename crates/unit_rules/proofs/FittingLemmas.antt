-- Where no rule is broken, the numbers of a unit fit its trees.
use Rattle.std.proofs.Common.{◌≡◌, ℕ, ◌+◌, ◌<◌, ◌≤◌, ◌^◌, nat_lt, nat_le, not, ◌&&◌, ◌||◌, Bool}
use Rattle.std.proofs.Common.{true, false, cond, Option, None, Some, unwrap_or, List, [], ◌∷◌, ◌++◌, refl, ap, sym, ◌∙◌}
use Rattle.std.proofs.Common.{subst, arith, append_assoc, lit≤, lit<}
use Rattle.std.proofs.lemmas.Bool.Decides.{nat_tests}
use Rattle.std.proofs.Math.Pow.{pow_mono}
use Rattle.std.specs.Map.{lookup}
use Rattle.psl_grammar.specs.RawExpr.{RawExpr, name, literal, unary, binary, choice}
use Rattle.psl_grammar.specs.RawSere as sere
use Rattle.psl_grammar.specs.RawProp as prop
use Rattle.psl_grammar.specs.RawUnit.{RawItem, clock, wire, sequence, property, assert}
use Rattle.unit_rules.specs.declared.errors.UnitError.{UnitError}
use Rattle.unit_rules.specs.Source.{Source, kind_at, bytes_at, is_number, is_sized}
use Rattle.unit_rules.specs.Numbers.{number_at, sized_width, sized_value, sized_base, sized_digits, are_digits}
use Rattle.unit_rules.specs.Numbers.{is_lawful_sized}
use Rattle.unit_rules.specs.Sites.{Site, span, declared, used, phrase, label, directive, literal_at, counts, operator}
use Rattle.unit_rules.specs.Sites.{expr_sites, count_sites, sere_sites, on_sites, prop_sites, label_sites, item_sites}
use Rattle.psl_model.specs.Limits.{vector_limit}
use Rattle.unit_rules.specs.Known.{Known, has_meaning, with_signal, with_phrase, declared_width, width_of_signal}
use Rattle.unit_rules.specs.Known.{same_name, after_site, known_after}
use Rattle.unit_rules.specs.declared.errors.UnitError.TheVariants.{BadLiteral, BadRange, CountTooLarge}
use Rattle.unit_rules.specs.Faults.{count_limit, where_broken, faults_at, faults_in, is_lawful_literal}
use Rattle.unit_rules.specs.Faults.{second_count, select_faults}
use Rattle.unit_rules.specs.Fitting.{IsSmallSelect, IsSmallLiteral, IsSmallHigh, AreSmallCounts, ExprFits}
use Rattle.unit_rules.specs.Fitting.{SereFits, OnFits, PropFits, ItemFits}
use Rattle.psl_lexer.specs.declared.kinds.Kind.{Kind}
use Rattle.psl_lexer.specs.declared.kinds.Kind.TheVariants.{Sized}

both_none : {X : Type 0} (xs ys : List X) → xs ++ ys ≡ [] → (xs ≡ []) × (ys ≡ [])
both_none [] ys p = (refl, p)
both_none (x ∷ xs) ys p = absurd (cc p)

unbroken : (b : Bool) (e : UnitError) → where_broken b e ≡ [] → b ≡ false
unbroken true e p = absurd (cc p)
unbroken false e p = refl

kept : (b : Bool) (e : UnitError) → where_broken (not b) e ≡ [] → b ≡ true
kept true e p = refl
kept false e p = absurd (cc p)

neither : (a b : Bool) → a || b ≡ false → (a ≡ false) × (b ≡ false)
neither true b p = absurd (cc p)
neither false b p = (refl, p)

both : (a b : Bool) → a && b ≡ true → (a ≡ true) × (b ≡ true)
both true b p = (refl, p)
both false b p = absurd (cc p)

-- the widths of signals are those of vectors
abbrev pub Narrow : List (List ℕ × ℕ) → Type 0
Narrow [] = Unit {0}
Narrow (e ∷ es) = (e.1 ≤ 64) × Narrow es

narrow_found : (test : List ℕ → Bool) (es : List (List ℕ × ℕ)) → Narrow es → unwrap_or (lookup test es) 1 ≤ 64
narrow_found test [] h = lit≤ tt
narrow_found test (e ∷ es) h = by (test e.0) (narrow_found test es h.1)
  where
    by : (b : Bool) → unwrap_or (lookup test es) 1 ≤ 64 → unwrap_or (cond b (Some e.1) (lookup test es)) 1 ≤ 64
    by true rest = h.0
    by false rest = rest

narrow_more : (es : List (List ℕ × ℕ)) (e : List ℕ × ℕ) → Narrow es → e.1 ≤ 64 → Narrow (es ++ e ∷ [])
narrow_more [] e h p = (p, tt)
narrow_more (x ∷ xs) e h p = (h.0, narrow_more xs e h.1 p)

narrow_added : (k : Known) (n : List ℕ) (w : ℕ) → w ≤ 64 → Narrow k.signals → Narrow (with_signal k n w).signals
narrow_added k n w p h = by (has_meaning k n)
  where
    by : (b : Bool) → Narrow (cond b k (record k { signals = k.signals ++ (n, w) ∷ [] })).signals
    by true = h
    by false = narrow_more k.signals (n, w) h p

declared_narrow : (s : Source) (range : Option (ℕ × ℕ)) → declared_width s range ≤ 64
declared_narrow s None = lit≤ tt
declared_narrow s (Some range) = by (number_at s range.0)
  where
    by : (n : ℕ) → cond (nat_lt n vector_limit) (n + 1) 1 ≤ 64
    by n = grind (arith, nat_tests)

phrase_narrow : (k : Known) (n : List ℕ) → Narrow k.signals → Narrow (with_phrase k n).signals
phrase_narrow k n h = by (has_meaning k n)
  where
    by : (b : Bool) → Narrow (cond b k (record k { phrases = k.phrases ++ n ∷ [] })).signals
    by true = h
    by false = h

site_narrow : (s : Source) (k : Known) (x : Site) → Narrow k.signals → Narrow (after_site s k x).signals
site_narrow s k (span high low) h = h
site_narrow s k (declared token range) h =
    narrow_added k (bytes_at s token) (declared_width s range) (declared_narrow s range) h
site_narrow s k (used token select) h = narrow_added k (bytes_at s token) 1 (lit≤ tt) h
site_narrow s k (phrase token) h = phrase_narrow k (bytes_at s token) h
site_narrow s k (label token) h = h
site_narrow s k (directive word) h = h
site_narrow s k (literal_at token) h = h
site_narrow s k (operator mark a b) h = h
site_narrow s k (counts mark low high) h = h

sites_narrow : (s : Source) (k : Known) (xs : List Site) → Narrow k.signals → Narrow (known_after s k xs).signals
sites_narrow s k [] h = h
sites_narrow s k (x ∷ xs) h = sites_narrow s (after_site s k x) xs (site_narrow s k x h)

-- sites without a fault, and signals no wider than vectors
pub record Clean (s : Source) (k : Known) (xs : List Site) : Type 0 where
  pub narrow : Narrow k.signals
  pub none : faults_in s k xs ≡ []

faults_joined : (s : Source) (k : Known) (xs ys : List Site) → faults_in s k (xs ++ ys) ≡ faults_in s k xs
    ++ faults_in s (known_after s k xs) ys
faults_joined s k [] ys = refl
faults_joined s k (x ∷ xs) ys =
    ap (λ more. faults_at s k x ++ more) (faults_joined s (after_site s k x) xs ys)
    ∙ sym (append_assoc (faults_at s k x) (faults_in s (after_site s k x) xs)
    (faults_in s (known_after s (after_site s k x) xs) ys))

pub clean_front : (s : Source) (k : Known) (xs ys : List Site) → Clean s k (xs ++ ys) → Clean s k xs
clean_front s k xs ys h = record {
  narrow = h.narrow;
  none = (both_none (faults_in s k xs) (faults_in s (known_after s k xs) ys)
      (sym (faults_joined s k xs ys) ∙ h.none)).0;
}

pub clean_back : (s : Source) (k : Known) (xs ys : List Site) → Clean s k (xs ++ ys) → Clean s (known_after s k xs) ys
clean_back s k xs ys h = record {
  narrow = sites_narrow s k xs h.narrow;
  none = (both_none (faults_in s k xs) (faults_in s (known_after s k xs) ys)
      (sym (faults_joined s k xs ys) ∙ h.none)).1;
}

clean_site : (s : Source) (k : Known) (x : Site) (ys : List Site) → Clean s k (x ∷ ys) → faults_at s k x ≡ []
clean_site s k x ys h = (both_none (faults_at s k x) (faults_in s (after_site s k x) ys) h.none).0

clean_rest : (s : Source) (k : Known) (x : Site) (ys : List Site) → Clean s k (x ∷ ys) → Clean s (after_site s k x) ys
clean_rest s k x ys h = record {
  narrow = site_narrow s k x h.narrow;
  none = (both_none (faults_at s k x) (faults_in s (after_site s k x) ys) h.none).1;
}

within_width : (w n : ℕ) → w ≤ 64 → nat_le w 1 || nat_le w n ≡ false → n < 2 ^ 32
within_width w n h p = grind (arith, nat_tests)

select_small : (s : Source) (w : ℕ) (select : Option (ℕ × Option ℕ)) → w ≤ 64 → select_faults s w select ≡ []
    → IsSmallSelect s select
select_small s w None h p = tt
select_small s w (Some (high, None)) h p =
    within_width w (number_at s high) h (unbroken _ _ (both_none _ _ p).0)
select_small s w (Some (high, Some low)) h p = (
  within_width w (number_at s high) h (unbroken _ _ (both_none _ _ p).0),
  within_width w (number_at s low) h (neither (nat_le w 1 || nat_le w (number_at s low))
      (nat_lt (number_at s high) (number_at s low)) (unbroken _ _ (both_none _ _ p).1)).0,
)

sized_no_number : (k : Kind) → is_sized k ≡ true → is_number k ≡ false
sized_no_number Sized p = refl
sized_no_number _ p = absurd (cc p)

below_true : (a b : ℕ) → nat_lt a b ≡ true → a < b
below_true a b p = grind (arith, nat_tests)

at_most_true : (a b : ℕ) → nat_le a b ≡ true → a ≤ b
at_most_true a b p = grind (arith, nat_tests)

not_above : (limit n : ℕ) → limit < 2 ^ 32 → nat_lt limit n ≡ false → n < 2 ^ 32
not_above limit n h p = grind (arith, nat_tests)

lawful_sized : (s : Source) (token : ℕ) → is_sized (kind_at s token) ≡ true → is_lawful_literal s token ≡ true
    → is_lawful_sized (bytes_at s token) ≡ true
lawful_sized s token p q =
    sym (ap (λ b. cond b (nat_lt (number_at s token) (2 ^ 32))
    (cond (is_sized (kind_at s token)) (is_lawful_sized (bytes_at s token)) true))
    (sized_no_number (kind_at s token) p)
    ∙ ap (λ b. cond b (is_lawful_sized (bytes_at s token)) true) p)
    ∙ q

sized_parts : (bytes : List ℕ) → is_lawful_sized bytes ≡ true → (sized_width bytes ≤ 64)
    × (sized_value bytes < 2 ^ sized_width bytes)
sized_parts bytes p =
    let w = both (nat_le 1 (sized_width bytes) && nat_le (sized_width bytes) vector_limit)
    (are_digits (sized_base bytes) (sized_digits bytes) && nat_lt (sized_value bytes) (2 ^ sized_width bytes)) p in (
      at_most_true (sized_width bytes) 64 (both (nat_le 1 (sized_width bytes)) (nat_le (sized_width bytes) vector_limit)
          w.0).1,
      below_true (sized_value bytes) (2 ^ sized_width bytes)
          (both (are_digits (sized_base bytes) (sized_digits bytes))
          (nat_lt (sized_value bytes) (2 ^ sized_width bytes))
          w.1).1,
    )

below_power : (v w : ℕ) → w ≤ 64 → v < 2 ^ w → v < 2 ^ 64
below_power v w h p = let m : 2 ^ w ≤ 2 ^ 64 = pow_mono h in omega arith

literal_small : (s : Source) (token : ℕ) → is_lawful_literal s token ≡ true → IsSmallLiteral s token
literal_small s token h = record {
  decimal = λ p. below_true (number_at s token) (2 ^ 32)
      (sym (ap (λ b. cond b (nat_lt (number_at s token) (2 ^ 32))
      (cond (is_sized (kind_at s token)) (is_lawful_sized (bytes_at s token)) true)) p) ∙ h);
  width = λ p. (sized_parts (bytes_at s token) (lawful_sized s token p h)).0;
  value = λ p. let parts = sized_parts (bytes_at s token) (lawful_sized s token p h) in
      below_power (sized_value (bytes_at s token)) (sized_width (bytes_at s token)) parts.0 parts.1;
}

high_small : (s : Source) (low : ℕ) (high : Option ℕ) → second_count s low high ≡ [] → IsSmallHigh s high
high_small s low None p = tt
high_small s low (Some high) p = λ q.
    let P : Bool → Type 0 = λ b. (cond b (where_broken (nat_lt (number_at s high) (number_at s low)) (BadRange high)
    ++ where_broken (nat_lt count_limit (number_at s high)) (CountTooLarge high)) []) ≡ [] in
    not_above count_limit (number_at s high) (lit< tt) (unbroken _ _ (both_none _ _ (subst P q p)).1)

counts_small : (s : Source) (k : Known) (mark : ℕ) (low high : Option ℕ) → Clean s k (count_sites mark low high)
    → AreSmallCounts s low high
counts_small s k mark None high h = tt
counts_small s k mark (Some low) high h =
    let none = clean_site s k (counts mark low high) [] h in
    let split = both_none _ _ none in (
      not_above count_limit (number_at s low) (lit< tt) (unbroken _ _ (both_none _ _ split.0).1),
      high_small s low high split.1,
    )

pub expr_fits : (s : Source) (k : Known) (e : RawExpr) → Clean s k (expr_sites e) → ExprFits s e
expr_fits s k (name token select) h =
    select_small s (width_of_signal k (bytes_at s token)) select
    (narrow_found (same_name (bytes_at s token)) k.signals h.narrow)
    (both_none _ _ (clean_site s k (used token select) [] h)).1
expr_fits s k (literal token) h = literal_small s token
    (kept (is_lawful_literal s token) (BadLiteral token) (clean_site s k (literal_at token) [] h))
expr_fits s k (unary mark a) h = expr_fits s k a h
expr_fits s k (binary mark a b) h =
    let back = clean_back s k (expr_sites a) (operator mark a b ∷ expr_sites b) h in (
      expr_fits s k a (clean_front s k (expr_sites a) (operator mark a b ∷ expr_sites b) h),
      expr_fits s (known_after s k (expr_sites a)) b
          (clean_rest s (known_after s k (expr_sites a)) (operator mark a b) (expr_sites b) back),
    )
expr_fits s k (choice mark c a b) h =
    let back = clean_back s k (expr_sites c) (expr_sites a ++ expr_sites b) h in
    let m = known_after s k (expr_sites c) in (
      expr_fits s k c (clean_front s k (expr_sites c) (expr_sites a ++ expr_sites b) h),
      expr_fits s m a (clean_front s m (expr_sites a) (expr_sites b) back),
      expr_fits s (known_after s m (expr_sites a)) b (clean_back s m (expr_sites a) (expr_sites b) back),
    )

pub sere_fits : (s : Source) (k : Known) (r : sere.RawSere) → Clean s k (sere_sites r) → SereFits s r
sere_fits s k (sere.bool e) h = expr_fits s k e h
sere_fits s k (sere.named token) h = tt
sere_fits s k (sere.lone mark low high) h = counts_small s k mark low high h
sere_fits s k (sere.repeat r mark low high) h = (
  sere_fits s k r (clean_front s k (sere_sites r) (count_sites mark low high) h),
  counts_small s (known_after s k (sere_sites r)) mark low high
      (clean_back s k (sere_sites r) (count_sites mark low high) h),
)
sere_fits s k (sere.join mark r t) h = (
  sere_fits s k r (clean_front s k (sere_sites r) (sere_sites t) h),
  sere_fits s (known_after s k (sere_sites r)) t (clean_back s k (sere_sites r) (sere_sites t) h),
)

on_fits : (s : Source) (k : Known) (o : Option RawExpr) → Clean s k (on_sites o) → OnFits s o
on_fits s k None h = tt
on_fits s k (Some e) h = expr_fits s k e h

pub prop_fits : (s : Source) (k : Known) (f : prop.RawProp) → Clean s k (prop_sites f) → PropFits s f
prop_fits s k (prop.bool e) h = expr_fits s k e h
prop_fits s k (prop.named token) h = tt
prop_fits s k (prop.seq r strong) h = sere_fits s k r h
prop_fits s k (prop.prefix word f) h = prop_fits s k f h
prop_fits s k (prop.next word on low high f) h =
    let back = clean_back s k (on_sites on) (count_sites word low high ++ prop_sites f) h in
    let m = known_after s k (on_sites on) in (
      on_fits s k on (clean_front s k (on_sites on) (count_sites word low high ++ prop_sites f) h),
      counts_small s m word low high (clean_front s m (count_sites word low high) (prop_sites f) back),
      prop_fits s (known_after s m (count_sites word low high)) f
          (clean_back s m (count_sites word low high) (prop_sites f) back),
    )
prop_fits s k (prop.binary mark f g) h = (
  prop_fits s k f (clean_front s k (prop_sites f) (prop_sites g) h),
  prop_fits s (known_after s k (prop_sites f)) g (clean_back s k (prop_sites f) (prop_sites g) h),
)
prop_fits s k (prop.suffix mark r f) h = (
  sere_fits s k r (clean_front s k (sere_sites r) (prop_sites f) h),
  prop_fits s (known_after s k (sere_sites r)) f (clean_back s k (sere_sites r) (prop_sites f) h),
)
prop_fits s k (prop.abort f e) h = (
  prop_fits s k f (clean_front s k (prop_sites f) (expr_sites e) h),
  expr_fits s (known_after s k (prop_sites f)) e (clean_back s k (prop_sites f) (expr_sites e) h),
)

pub item_fits : (s : Source) (k : Known) (item : RawItem) → Clean s k (item_sites item) → ItemFits s item
item_fits s k (clock token) h = tt
item_fits s k (wire range names) h = tt
item_fits s k (sequence token r) h = sere_fits s (after_site s k (phrase token)) r
    (clean_rest s k (phrase token) (sere_sites r) h)
item_fits s k (property token f) h = prop_fits s (after_site s k (phrase token)) f
    (clean_rest s k (phrase token) (prop_sites f) h)
item_fits s k (assert word tag f report) h =
    let m = known_after s k (label_sites tag) in
    prop_fits s (after_site s m (directive word)) f
    (clean_rest s m (directive word) (prop_sites f)
    (clean_back s k (label_sites tag) (directive word ∷ prop_sites f) h))
