-- The tests of names mean what the definitions of names say.
use Rattle.std.proofs.Common.{◌≡◌, ℕ, zero, suc, ◌+◌, ◌<◌, ◌≤◌, Bool, true, false, List, [], ◌∷◌, ◌++◌, length, take}
use Rattle.std.proofs.Common.{refl, ap, sym, ◌∙◌, arith}
use Rattle.std.proofs.lemmas.Bool.Decides.{nat_tests}
use Rattle.std.proofs.lemmas.Slice.Eq.{bytes_eq-Decides}
use Rattle.std.specs.Prelude.{◌&&◌, ◌||◌, not, nat_eq, nat_le, Contains}
use Rattle.std.specs.List.{prefix_len, list_all, list_any, starts_with}
use Rattle.std.specs.Cmp.Lexicographic.{pointwise}
use Rattle.psl_model.specs.Limits.{name_limit}
use Rattle.psl_model.specs.Names.{continues_name, checker_prefix, IsIdentifier, IsUsableName}
use Rattle.psl_model.specs.Reserved.{language_words, left_out_words, verilog_words}
use Rattle.verilog_reader.specs.inner.Pieces.{run_of}
use Rattle.verilog_reader.specs.inner.Lines.{begins_identifier, is_word, is_port_name}
use Rattle.verilog_reader.proofs.Pieces.{both_true}
use Rattle.verilog_reader.proofs.ReservedLists.{any-append}

prefix_step : (p : ℕ → Bool) (x : ℕ) (xs : List ℕ) → list_all p (take (prefix_len p xs) xs) ≡ true → (b : Bool) →
    p x ≡ b → list_all p (take (prefix_len p (x ∷ xs)) (x ∷ xs)) ≡ true
prefix_step p x xs rest true e =
    let one : 1 + prefix_len p xs ≡ suc (prefix_len p xs) = omega arith in
    rw (e, one, e, rest) refl
prefix_step p x xs rest false e = rw e refl

pub list_all-prefix : (p : ℕ → Bool) (xs : List ℕ) → list_all p (take (prefix_len p xs) xs) ≡ true
list_all-prefix p [] = refl
list_all-prefix p (x ∷ xs) = prefix_step p x xs (list_all-prefix p xs) (p x) refl

pub run_continues : (bytes : List ℕ) → list_all continues_name (run_of bytes) ≡ true
unfolding run_of
run_continues bytes = list_all-prefix continues_name bytes

pub identifier_from : (name : List ℕ) → list_all continues_name name ≡ true → begins_identifier name ≡ true →
    IsIdentifier name
identifier_from [] all e = cc
identifier_from (b ∷ bs) all e = (e, (both_true (continues_name b) (list_all continues_name bs) all).1)

pub identifier_begins : (name : List ℕ) → IsIdentifier name → begins_identifier name ≡ true
identifier_begins [] is = absurd is
identifier_begins (b ∷ bs) is = is.0

-- words

among : (name : List ℕ) (words : List (List ℕ)) → Contains words name → list_any (pointwise nat_eq name) words ≡ true
among name [] has = absurd (omega (arith, has.1))
among name (w ∷ ws) (zero, lt, e) = rw ((bytes_eq-Decides name w).1 (sym e)) refl
among name (w ∷ ws) (suc k, lt, e) =
    let below : k < length ws = omega arith in
    or_right (pointwise nat_eq name w) (list_any (pointwise nat_eq name) ws) (among name ws (k, below, e))
  where
    or_right : (a b : Bool) → b ≡ true → (a || b) ≡ true
    or_right true b e = refl
    or_right false b e = e

find_among : (name : List ℕ) (words : List (List ℕ)) → list_any (pointwise nat_eq name) words ≡ true →
    Contains words name
find_among name [] e = cc
find_among name (w ∷ ws) e = by_test (pointwise nat_eq name w) refl e (find_among name ws) where
  by_test : (b : Bool) → pointwise nat_eq name w ≡ b → (b || list_any (pointwise nat_eq name) ws) ≡ true →
      (list_any (pointwise nat_eq name) ws ≡ true → Contains ws name) → Contains (w ∷ ws) name
  by_test true same e later = (0, omega arith, sym ((bytes_eq-Decides name w).0 same))
  by_test false other e later =
      let found = later e in
      let below : suc found.0 < length (w ∷ ws) = omega (arith, found.1) in
      (suc found.0, below, found.2)

false_or : (a b : Bool) → (a || b) ≡ false → (a ≡ false) × (b ≡ false)
false_or false b e = (refl, e)
false_or true b e = cc

not_false : (b : Bool) → not b ≡ true → b ≡ false
not_false false e = refl
not_false true e = cc

false_not : (b : Bool) → b ≡ false → not b ≡ true
false_not b e = ap not e

true_is_not_false : (b : Bool) → b ≡ true → b ≡ false → ⊥
true_is_not_false b t f = cc

is_false : (b : Bool) → (b ≡ true → ⊥) → b ≡ false
is_false false none = refl
is_false true none = absurd (none refl)

word_parts : (name : List ℕ) →
    is_word name ≡ (list_any (pointwise nat_eq name) (language_words ++ left_out_words)
    || list_any (pointwise nat_eq name) verilog_words)
unfolding is_word
word_parts name = any-append (pointwise nat_eq name) (language_words ++ left_out_words) verilog_words

pub no_word : (name : List ℕ) → is_word name ≡ false → (Contains language_words name → ⊥)
    × (Contains left_out_words name → ⊥) × (Contains verilog_words name → ⊥)
no_word name e =
    let split = false_or (list_any (pointwise nat_eq name) (language_words ++ left_out_words))
    (list_any (pointwise nat_eq name) verilog_words) (sym (word_parts name) ∙ e) in
    let first =
    false_or (list_any (pointwise nat_eq name) language_words) (list_any (pointwise nat_eq name) left_out_words)
    (sym (any-append (pointwise nat_eq name) language_words left_out_words) ∙ split.0) in (
      λ has. true_is_not_false _ (among name language_words has) first.0,
      λ has. true_is_not_false _ (among name left_out_words has) first.1,
      λ has. true_is_not_false _ (among name verilog_words has) split.1,
    )

or_false : (a b : Bool) → a ≡ false → b ≡ false → (a || b) ≡ false
or_false a b e f = rw (e, f) refl

pub word_false : (name : List ℕ) → (Contains language_words name → ⊥) → (Contains left_out_words name → ⊥) →
    (Contains verilog_words name → ⊥) → is_word name ≡ false
word_false name one two three =
    let p : List ℕ → Bool = pointwise nat_eq name in
    word_parts name
    ∙ or_false (list_any p (language_words ++ left_out_words)) (list_any p verilog_words)
    (any-append p language_words left_out_words ∙ or_false (list_any p language_words) (list_any p left_out_words)
    (is_false _ (λ t. one (find_among name language_words t)))
    (is_false _ (λ t. two (find_among name left_out_words t))))
    (is_false _ (λ t. three (find_among name verilog_words t)))

-- ports' names

pub usable_from : (name : List ℕ) → list_all continues_name name ≡ true → is_port_name name ≡ true → IsUsableName name
unfolding is_port_name
usable_from name all e =
    let parts =
    both_true (begins_identifier name && nat_le (length name) name_limit)
    (not (starts_with nat_eq name checker_prefix) && not (is_word name)) e in
    let first = both_true (begins_identifier name) (nat_le (length name) name_limit) parts.0 in
    let second = both_true (not (starts_with nat_eq name checker_prefix)) (not (is_word name)) parts.1 in
    let words = no_word name (not_false (is_word name) second.1) in
    record {
      identifier = identifier_from name all first.0;
      short = at_most (length name) name_limit first.1;
      no_prefix =
          λ t. true_is_not_false (starts_with nat_eq name checker_prefix) t
          (not_false (starts_with nat_eq name checker_prefix) second.0);
      no_word = words.0;
      no_left_out_word = words.1;
      no_verilog_word = words.2;
    }
  where
    at_most : (m n : ℕ) → nat_le m n ≡ true → m ≤ n
    at_most m n e = grind (arith, nat_tests)

pub usable_true : (name : List ℕ) → IsUsableName name → is_port_name name ≡ true
unfolding is_port_name
usable_true name usable =
    let short : nat_le (length name) name_limit ≡ true = at_most (length name) name_limit usable.short in
    rw (
      identifier_begins name usable.identifier,
      short,
      is_false (starts_with nat_eq name checker_prefix) usable.no_prefix,
      word_false name usable.no_word usable.no_left_out_word usable.no_verilog_word,
    ) refl
  where
    at_most : (m n : ℕ) → m ≤ n → nat_le m n ≡ true
    at_most m n e = grind (arith, nat_tests)
