-- Where the tokens of the sites ascend, the first fault in the order of reading comes before all.
use Rattle.std.proofs.Common.{◌≡◌, ◌⊎◌, inl, inr, ℕ, ◌+◌, ◌*◌, ◌<◌, ◌≤◌, nat_lt, nat_le, ◌||◌, Bool, true, false, cond}
use Rattle.std.proofs.Common.{Option, None, Some, List, [], ◌∷◌, ◌++◌, refl, sym, subst, arith, append_assoc}
use Rattle.std.proofs.Common.{lit≤}
use Rattle.std.proofs.lemmas.Bool.Decides.{nat_tests}
use Rattle.std.specs.List.{flat_map, slice_get}
use Rattle.unit_rules.specs.Numbers.{number_at}
use Rattle.unit_rules.specs.declared.errors.UnitError.{UnitError}
use Rattle.unit_rules.specs.declared.errors.UnitError.TheVariants.{DuplicateName, BadRange, CountTooLarge}
use Rattle.unit_rules.specs.declared.errors.UnitError.TheVariants.{TooManyDirectives, TooManySignals, BadLiteral}
use Rattle.unit_rules.specs.declared.errors.UnitError.TheVariants.{BadSelect, TooWide, ConstantArithmetic, TooTall}
use Rattle.unit_rules.specs.declared.errors.UnitError.TheVariants.{TooLarge, OutOfMemory}
use Rattle.unit_rules.specs.Source.{Source, kind_at, bytes_at, is_number}
use Rattle.unit_rules.specs.Sites.{Site, span, declared, used, phrase, label, directive, literal_at, operator, counts}
use Rattle.unit_rules.specs.Known.{Known, after_site, width_of_signal}
use Rattle.unit_rules.specs.Faults.{count_limit, where_broken, fault_token, fault_rank, faults_at, faults_in}
use Rattle.unit_rules.specs.Faults.{second_count, select_faults}
use Rattle.psl_grammar.specs.TokenOrder.{AscendFrom, option_tokens, select_tokens}
use Rattle.unit_rules.specs.Order.{ComesBeforeAll, site_tokens}
use Rattle.unit_rules.specs.Order.{AreInOrder}

-- a fault's place in the order, as one number
abbrev pub key : UnitError → ℕ
key f = 16 * fault_token f + fault_rank f

-- faults whose keys rise, all of them at least this one
abbrev pub Sorted : (least : ℕ) → List UnitError → Type 0
Sorted least [] = Unit {0}
Sorted least (f ∷ fs) = (least ≤ key f) × Sorted (key f) fs

later : (n m : ℕ) → n ≤ m → (fs : List UnitError) → Sorted m fs → Sorted n fs
later n m h [] s = tt
later n m h (f ∷ fs) s = (let p : m ≤ key f = s.0 in omega arith, s.1)

put : (b : Bool) (f : UnitError) (rest : List UnitError) (n : ℕ) → n ≤ key f → Sorted (key f) rest
    → Sorted n (where_broken b f ++ rest)
put true f rest n h s = (h, s)
put false f rest n h s = later n (key f) h rest s

-- a fault put before the rest of two lists
put_two : (b c : Bool) (f g : UnitError) (rest : List UnitError) (n : ℕ) → n ≤ key f → key f ≤ key g
    → Sorted (key g) rest
    → Sorted n ((where_broken b f ++ where_broken c g) ++ rest)
put_two b c f g rest n h k s =
    let P : List UnitError → Type 0 = λ fs. Sorted n fs in
    subst P (sym (append_assoc (where_broken b f) (where_broken c g) rest))
    (put b f (where_broken c g ++ rest) n h (put c g rest (key f) k s))

put_three : (b c d : Bool) (f g e : UnitError) (rest : List UnitError) (n : ℕ) → n ≤ key f → key f ≤ key g
    → key g ≤ key e → Sorted (key e) rest
    → Sorted n (((where_broken b f ++ where_broken c g) ++ where_broken d e) ++ rest)
put_three b c d f g e rest n h k l s =
    let P : List UnitError → Type 0 = λ fs. Sorted n fs in
    subst P (sym (append_assoc (where_broken b f ++ where_broken c g) (where_broken d e) rest))
    (put_two b c f g (where_broken d e ++ rest) n h k (put d e rest (key g) l s))

-- two lists, the second of which is sorted before the rest
before_rest : (b c : Bool) (f g : UnitError) (more rest : List UnitError) (n : ℕ) → n ≤ key f → key f ≤ key g
    → Sorted (key g) (more ++ rest)
    → Sorted n (((where_broken b f ++ where_broken c g) ++ more) ++ rest)
before_rest b c f g more rest n h k s =
    let P : List UnitError → Type 0 = λ fs. Sorted n fs in
    subst P (sym (append_assoc (where_broken b f ++ where_broken c g) more rest))
    (put_two b c f g (more ++ rest) n h k s)

-- the rest of the faults, wherever the tokens go on
abbrev pub Rest : List ℕ → List UnitError → Type 0
Rest tokens rest = (m : ℕ) → AscendFrom m tokens → Sorted (16 * m) rest

select_sorted : (s : Source) (w t : ℕ) (select : Option (ℕ × Option ℕ)) (ts : List ℕ) (rest : List UnitError)
    → AscendFrom (t + 1) (select_tokens select ++ ts) → Rest ts rest
    → Sorted (16 * t + 4) (select_faults s w select ++ rest)
select_sorted s w t None ts rest h go = later (16 * t + 4) (16 * (t + 1)) (omega arith) rest (go (t + 1) h)
select_sorted s w t (Some (high, None)) ts rest h go =
    let a : t + 1 ≤ high = h.0 in
    let P : List UnitError → Type 0 = λ fs. Sorted (16 * t + 4) fs in
    subst P (sym (append_assoc (where_broken (nat_le w 1 || nat_le w (number_at s high)) (BadSelect high)) [] rest))
    (put (nat_le w 1 || nat_le w (number_at s high)) (BadSelect high) rest (16 * t + 4) (omega arith)
    (later (16 * high + 6) (16 * (high + 1)) (omega arith) rest (go (high + 1) h.1)))
select_sorted s w t (Some (high, Some low)) ts rest h go =
    let a : t + 1 ≤ high = h.0 in
    let b : high + 1 ≤ low = h.1.0 in
    put_two (nat_le w 1 || nat_le w (number_at s high))
    (nat_le w 1 || nat_le w (number_at s low) || nat_lt (number_at s high) (number_at s low)) (BadSelect high)
    (BadSelect low) rest (16 * t + 4)
    (omega arith) (omega arith) (later (16 * low + 6) (16 * (low + 1)) (omega arith) rest (go (low + 1) h.1.1))

second_sorted : (s : Source) (low : ℕ) (high : Option ℕ) (ts : List ℕ) (rest : List UnitError)
    → AscendFrom (low + 1) (option_tokens high ++ ts) → Rest ts rest
    → Sorted (16 * low + 2) (second_count s low high ++ rest)
second_sorted s low None ts rest h go = later (16 * low + 2) (16 * (low + 1)) (omega arith) rest (go (low + 1) h)
second_sorted s low (Some high) ts rest h go = by (is_number (kind_at s high))
  where
    by : (b : Bool) → Sorted (16 * low + 2)
        (cond b (where_broken (nat_lt (number_at s high) (number_at s low)) (BadRange high)
        ++ where_broken (nat_lt count_limit (number_at s high)) (CountTooLarge high)) [] ++ rest)
    by true =
        let a : low + 1 ≤ high = h.0 in
        put_two (nat_lt (number_at s high) (number_at s low)) (nat_lt count_limit (number_at s high)) (BadRange high)
        (CountTooLarge high) rest (16 * low + 2)
        (omega arith) (omega arith) (later (16 * high + 2) (16 * (high + 1)) (omega arith) rest (go (high + 1) h.1))
    by false =
        let a : low + 1 ≤ high = h.0 in
        later (16 * low + 2) (16 * (high + 1)) (omega arith) rest (go (high + 1) h.1)

-- one fault at one token
alone : (b : Bool) (f : UnitError) (n : ℕ) (ts : List ℕ) (rest : List UnitError) → fault_rank f ≤ 11
    → (n ≤ fault_token f) × AscendFrom (fault_token f + 1) ts → Rest ts rest
    → Sorted (16 * n) (where_broken b f ++ rest)
alone b f n ts rest r h go =
    let a : n ≤ fault_token f = h.0 in
    put b f rest (16 * n) (omega arith) (later (key f) (16 * (fault_token f + 1)) (omega arith) rest
    (go (fault_token f + 1) h.1))

site_sorted : (s : Source) (k : Known) (x : Site) (n : ℕ) (ts : List ℕ) (rest : List UnitError)
    → AscendFrom n (site_tokens x ++ ts) → Rest ts rest → Sorted (16 * n) (faults_at s k x ++ rest)
site_sorted s k (span high low) n ts rest h go =
    let a : n ≤ high = h.0 in
    let b : high + 1 ≤ low = h.1.0 in
    put_three _ _ _ (BadRange high) (TooWide high) (BadRange low) rest (16 * n) (omega arith) (omega arith)
    (omega arith)
    (later (16 * low + 1) (16 * (low + 1)) (omega arith) rest (go (low + 1) h.1.1))
site_sorted s k (declared token range) n ts rest h go =
    let a : n ≤ token = h.0 in
    put_two _ _ (DuplicateName token) (TooManySignals token) rest (16 * n) (omega arith) (omega arith)
    (later (16 * token + 4) (16 * (token + 1)) (omega arith) rest (go (token + 1) h.1))
site_sorted s k (used token select) n ts rest h go =
    let a : n ≤ token = h.0 in
    before_rest _ _ (DuplicateName token) (TooManySignals token)
    (select_faults s (width_of_signal k (bytes_at s token)) select) rest (16 * n) (omega arith) (omega arith)
    (select_sorted s (width_of_signal k (bytes_at s token)) token select ts rest h.1 go)
site_sorted s k (phrase token) n ts rest h go = alone _ (DuplicateName token) n ts rest (lit≤ tt) h go
site_sorted s k (label token) n ts rest h go = alone _ (DuplicateName token) n ts rest (lit≤ tt) h go
site_sorted s k (directive word) n ts rest h go = alone _ (TooManyDirectives word) n ts rest (lit≤ tt) h go
site_sorted s k (literal_at token) n ts rest h go = alone _ (BadLiteral token) n ts rest (lit≤ tt) h go
site_sorted s k (operator mark a b) n ts rest h go = alone _ (ConstantArithmetic mark) n ts rest (lit≤ tt) h go
site_sorted s k (counts mark low high) n ts rest h go =
    let a : n ≤ low = h.0 in
    before_rest _ _ (BadRange low) (CountTooLarge low) (second_count s low high) rest (16 * n) (omega arith)
    (omega arith)
    (second_sorted s low high ts rest h.1 go)

pub sites_sorted : (s : Source) (k : Known) (xs : List Site) (n : ℕ) → AscendFrom n (flat_map site_tokens xs)
    → Sorted (16 * n) (faults_in s k xs)
sites_sorted s k [] n h = tt
sites_sorted s k (x ∷ xs) n h =
    site_sorted s k x n (flat_map site_tokens xs) (faults_in s (after_site s k x) xs) h
    (λ m g. sites_sorted s (after_site s k x) xs m g)

small_rank : (f : UnitError) → fault_rank f ≤ 11
small_rank (DuplicateName t) = lit≤ tt
small_rank (BadRange t) = lit≤ tt
small_rank (CountTooLarge t) = lit≤ tt
small_rank (TooManyDirectives t) = lit≤ tt
small_rank (TooManySignals t) = lit≤ tt
small_rank (BadLiteral t) = lit≤ tt
small_rank (BadSelect t) = lit≤ tt
small_rank (TooWide t) = lit≤ tt
small_rank (ConstantArithmetic t) = lit≤ tt
small_rank (TooTall d n) = lit≤ tt
small_rank (TooLarge d n) = lit≤ tt
small_rank OutOfMemory = lit≤ tt

by_keys : (t u r q : ℕ) → r ≤ 11 → q ≤ 11 → 16 * t + r ≤ 16 * u + q → (t < u) ⊎ ((t ≡ u) × (r ≤ q))
by_keys t u r q a b h = choose (nat_lt t u) refl
  where
    choose : (c : Bool) → nat_lt t u ≡ c → (t < u) ⊎ ((t ≡ u) × (r ≤ q))
    choose true p = inl (grind (arith, nat_tests))
    choose false p = inr (grind (arith, nat_tests), grind (arith, nat_tests))

least_of_sorted : (f : UnitError) (fs : List UnitError) → Sorted (key f) fs → ComesBeforeAll f fs
least_of_sorted f [] h = tt
least_of_sorted f (g ∷ gs) h = (
  by_keys (fault_token f) (fault_token g) (fault_rank f) (fault_rank g) (small_rank f) (small_rank g) h.0,
  least_of_sorted f gs (later (key f) (key g) h.0 gs h.1),
)

head_least : (n : ℕ) (f : UnitError) (fs : List UnitError) → Sorted n fs → slice_get fs 0 ≡ Some f → ComesBeforeAll f fs
head_least n f [] h p = absurd (cc p)
head_least n f (g ∷ gs) h p =
    let e : g ≡ f = cc p in
    let P : UnitError → Type 0 = λ z. ComesBeforeAll z (g ∷ gs) in
    subst P e (let r : fault_rank g ≤ fault_rank g = omega arith in inr (refl, r), least_of_sorted g gs h.1)

-- the first fault of sites whose tokens ascend comes before all
pub first_is_least : (s : Source) (k : Known) (xs : List Site) (f : UnitError) → AreInOrder xs
    → slice_get (faults_in s k xs) 0 ≡ Some f → ComesBeforeAll f (faults_in s k xs)
first_is_least s k xs f h p = head_least (16 * 0) f (faults_in s k xs) (sites_sorted s k xs 0 h) p
