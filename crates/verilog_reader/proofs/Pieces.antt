-- What the pieces give of a text, from both sides.
use Rattle.std.proofs.Common.{◌≡◌, ℕ, ◌<◌, ◌^◌, Bool, true, false, cond, List, [], ◌∷◌, ◌++◌, length, take, drop, refl}
use Rattle.std.proofs.Common.{ap, sym, ◌∙◌, arith, subst, Some, None}
use Rattle.std.proofs.Math.Seq.{take-append_seam, drop-append_seam}
use Rattle.std.proofs.lemmas.List.{take-append-drop}
use Rattle.std.proofs.lemmas.Slice.Eq.{bytes_eq-Decides}
use Rattle.std.proofs.lemmas.Bool.Decides.{nat_tests}
use Rattle.std.proofs.lemmas.Fmt.{digits_decimal, digits_value-decimal, decimal_is_IsNumeral}
use Rattle.std.proofs.lemmas.Str.Parse.{IsNumeralModel, numerals_by_value, tells_all_ascii_digits}
use Rattle.std.specs.Str.{all_ascii_digits}
use Rattle.std.specs.Str.Parse.{digits_value}
use Rattle.std.specs.Char.{is_ascii_digit}
use Rattle.std.specs.Prelude.{nat_eq, nat_lt, ◌&&◌, Option, unwrap_or, decimal}
use Rattle.std.specs.List.{prefix_len, list_all}
use Rattle.std.specs.Cmp.Lexicographic.{pointwise}
use Rattle.psl_model.specs.Names.{between, continues_name}
use Rattle.verilog_reader.specs.inner.Pieces.{◌>>=◌, after_text, run_of, after_run, number_of, number_and_rest}

pub none_some : {X : Type 0} (x : X) → None ≡ Some x → ⊥
none_some x e = cc

pub some_inj : {X : Type 0} (x y : X) → Some x ≡ Some y → x ≡ y
some_inj {X} x y e = ap (λ (o : Option X). unwrap_or o x) e

pub both_true : (a b : Bool) → (a && b) ≡ true → (a ≡ true) × (b ≡ true)
both_true true b e = (refl, e)
both_true false b e = cc

-- where a step gives something, what it gave
pub bind_some : {A B : Type 0} (o : Option A) (f : A → Option B) (y : B) → (o >>= f) ≡ Some y →
    (x : A) × (o ≡ Some x) × (f x ≡ Some y)
bind_some None f y e = absurd (none_some y e)
bind_some (Some x) f y e = (x, refl, e)

pub if_some : {X : Type 0} (b : Bool) (x y : X) → cond b (Some x) None ≡ Some y → (b ≡ true) × (x ≡ y)
if_some true x y e = (refl, some_inj x y e)
if_some false x y e = absurd (none_some y e)

pub if_none_some : {X : Type 0} (b : Bool) (x y : X) → cond b None (Some x) ≡ Some y → (b ≡ false) × (x ≡ y)
if_none_some false x y e = (refl, some_inj x y e)
if_none_some true x y e = absurd (none_some y e)

-- fixed words

pub after_text-text : (text rest : List ℕ) → after_text text (text ++ rest) ≡ Some rest
unfolding after_text
after_text-text text rest =
    rw (take-append_seam text rest, (bytes_eq-Decides text text).1 refl) (ap Some (drop-append_seam text rest))

pub after_text-only : (text bytes rest : List ℕ) → after_text text bytes ≡ Some rest → bytes ≡ text ++ rest
unfolding after_text
after_text-only text bytes rest e = by_test (pointwise nat_eq (take (length text) bytes) text) refl where
  by_test : (b : Bool) → pointwise nat_eq (take (length text) bytes) text ≡ b → bytes ≡ text ++ rest
  by_test false none = absurd (none_some _ (rw none at e))
  by_test true some =
      let same : Some (drop (length text) bytes) ≡ Some rest = rw some at e in
      let is : drop (length text) bytes ≡ rest = some_inj _ _ same in
      let front : take (length text) bytes ≡ text = (bytes_eq-Decides (take (length text) bytes) text).0 some in
      sym (take-append-drop (length text) bytes) ∙ ap (λ f. f ++ drop (length text) bytes) front
      ∙ ap (λ r. text ++ r) is

-- runs of name bytes

pub prefix_len-front : {X : Type 0} (p : X → Bool) (xs ys : List X) → list_all p xs ≡ true → prefix_len p ys ≡ 0 →
    prefix_len p (xs ++ ys) ≡ length xs
prefix_len-front p [] ys all end = end
prefix_len-front p (x ∷ xs) ys all end =
    let parts = both_true (p x) (list_all p xs) all in
    rw (parts.0, prefix_len-front p xs ys parts.1 end) (omega arith)

pub run_of-front : (xs ys : List ℕ) → list_all continues_name xs ≡ true → prefix_len continues_name ys ≡ 0 →
    run_of (xs ++ ys) ≡ xs
unfolding run_of
run_of-front xs ys all end = rw (prefix_len-front continues_name xs ys all end) (take-append_seam xs ys)

pub after_run-front : (xs ys : List ℕ) → list_all continues_name xs ≡ true → prefix_len continues_name ys ≡ 0 →
    after_run (xs ++ ys) ≡ ys
unfolding after_run
after_run-front xs ys all end = rw (prefix_len-front continues_name xs ys all end) (drop-append_seam xs ys)

pub run_and_rest : (bytes : List ℕ) → bytes ≡ run_of bytes ++ after_run bytes
unfolding run_of after_run
run_and_rest bytes = sym (take-append-drop (prefix_len continues_name bytes) bytes)

-- numbers

own : IsNumeralModel (λ ds. all_ascii_digits ds ≡ true) (digits_value 10)
own = numerals_by_value (λ ds. all_ascii_digits ds ≡ true) tells_all_ascii_digits

digit_continues : (b : ℕ) → is_ascii_digit b ≡ true → continues_name b ≡ true
digit_continues b e = grind (arith, nat_tests)

digit_between : (b : ℕ) → is_ascii_digit b ≡ true → between 48 57 b ≡ true
digit_between b e = grind (arith, nat_tests)

digits_continue : (ds : List ℕ) → all_ascii_digits ds ≡ true → list_all continues_name ds ≡ true
digits_continue [] all = refl
digits_continue (d ∷ ds) all =
    let parts = both_true (is_ascii_digit d) (all_ascii_digits ds) all in
    rw (digit_continues d parts.0) (digits_continue ds parts.1)

pub decimal_continues : (n : ℕ) → n < 2 ^ 64 → list_all continues_name (decimal n) ≡ true
decimal_continues n small = digits_continue (decimal n) (digits_decimal own n small)

digits_begin : (ds rest : List ℕ) → 0 < length ds → all_ascii_digits ds ≡ true → (b : ℕ) × (tail : List ℕ)
    × (ds ++ rest ≡ b ∷ tail) × (between 48 57 b ≡ true)
digits_begin [] rest some all = absurd (omega arith)
digits_begin (d ∷ ds) rest some all =
    let parts = both_true (is_ascii_digit d) (all_ascii_digits ds) all in
    (d, ds ++ rest, refl, digit_between d parts.0)

-- a number begins with a digit
pub decimal_begins : (n : ℕ) (rest : List ℕ) → n < 2 ^ 64 → (b : ℕ) × (tail : List ℕ) × (decimal n ++ rest ≡ b ∷ tail)
    × (between 48 57 b ≡ true)
decimal_begins n rest small =
    digits_begin (decimal n) rest ((decimal_is_IsNumeral n small).0.0) (digits_decimal own n small)

pub number_of-decimal : (n : ℕ) → n < 2 ^ 64 → number_of (decimal n) ≡ Some n
unfolding number_of
number_of-decimal n small =
    let value : digits_value 10 (decimal n) ≡ n = digits_value-decimal own n small in
    let below : nat_lt n (2 ^ 64) ≡ true = grind (arith, nat_tests) in
    rw (value, (bytes_eq-Decides (decimal n) (decimal n)).1 refl, below) refl

pub number_of-only : (run : List ℕ) (n : ℕ) → number_of run ≡ Some n → (run ≡ decimal n) × (n < 2 ^ 64)
unfolding number_of
number_of-only run n e =
    let tested = if_some (pointwise nat_eq (decimal (digits_value 10 run)) run && nat_lt (digits_value 10 run) (2 ^ 64))
    (digits_value 10 run) n e in
    let parts = both_true (pointwise nat_eq (decimal (digits_value 10 run)) run) (nat_lt (digits_value 10 run) (2 ^ 64))
    tested.0 in
    let same : decimal (digits_value 10 run) ≡ run = (bytes_eq-Decides (decimal (digits_value 10 run)) run).0 parts.0 in
    let small : digits_value 10 run < 2 ^ 64 = below (digits_value 10 run) (2 ^ 64) parts.1 in
    (sym same ∙ ap decimal tested.1, subst (λ v. v < 2 ^ 64) tested.1 small)
  where
    below : (a b : ℕ) → nat_lt a b ≡ true → a < b
    below a b t = grind (arith, nat_tests)

-- the answer of the code is the number
pub number_of-is : (run : List ℕ) (o : Option ℕ) → ((n : ℕ) → o ≡ Some n → (run ≡ decimal n) × (n < 2 ^ 64)) →
    (o ≡ None → (n : ℕ) → n < 2 ^ 64 → run ≡ decimal n → ⊥) → o ≡ number_of run
number_of-is run (Some n) found only =
    let is = found n refl in
    sym (ap number_of is.0 ∙ number_of-decimal n is.1)
number_of-is run None found only = by_number (number_of run) refl where
  by_number : (o : Option ℕ) → number_of run ≡ o → None ≡ number_of run
  by_number None e = sym e
  by_number (Some n) e =
      let is = number_of-only run n e in
      absurd (only refl n is.1 is.0)

pub number_and_rest-decimal : (n : ℕ) (rest : List ℕ) → n < 2 ^ 64 → prefix_len continues_name rest ≡ 0 →
    number_and_rest (decimal n ++ rest) ≡ Some (n, rest)
unfolding number_and_rest
number_and_rest-decimal n rest small end =
    rw (
      run_of-front (decimal n) rest (decimal_continues n small) end,
      after_run-front (decimal n) rest (decimal_continues n small) end,
      number_of-decimal n small,
    ) refl

pub number_and_rest-only : (bytes : List ℕ) (read : ℕ × List ℕ) → number_and_rest bytes ≡ Some read →
    (bytes ≡ decimal read.0 ++ read.1) × (read.0 < 2 ^ 64)
unfolding number_and_rest
number_and_rest-only bytes read e =
    let number = bind_some (number_of (run_of bytes)) (λ n. Some (n, after_run bytes)) read e in
    let pair : (number.0, after_run bytes) ≡ read = some_inj _ _ number.2 in
    let is = number_of-only (run_of bytes) number.0 number.1 in (
      run_and_rest bytes ∙ ap (λ run. run ++ after_run bytes) is.0 ∙ ap (λ (p : ℕ × List ℕ). decimal p.0 ++ p.1) pair,
      subst (λ (p : ℕ × List ℕ). p.0 < 2 ^ 64) pair is.1,
    )
