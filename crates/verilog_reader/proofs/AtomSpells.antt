-- What is read as a name with its select, or as a number, is its text.
use Rattle.std.proofs.Common.{◌≡◌, ℕ, zero, suc, ◌<◌, ◌≤◌, ◌^◌, Bool, true, false, cond, List, [], ◌∷◌, ◌++◌, length}
use Rattle.std.proofs.Common.{get_or, refl, ap, sym, ◌∙◌, arith, subst, Some, None, append_assoc}
use Rattle.std.proofs.lemmas.Bool.Decides.{nat_tests}
use Rattle.std.proofs.lemmas.Slice.Eq.{bytes_eq-Decides}
use Rattle.std.proofs.lemmas.List.Quantifiers.{position-Some}
use Rattle.std.specs.Prelude.{◌&&◌, nat_eq, nat_lt, nat_le, Option, codes, decimal, slice_index}
use Rattle.std.specs.Cmp.Lexicographic.{pointwise}
use Rattle.psl_model.specs.Expr.{Expr, whole, bit, part, plain, sized}
use Rattle.psl_model.specs.Limits.{vector_limit}
use Rattle.verilog_text.specs.Text.{name_at, sized_text}
use Rattle.verilog_reader.specs.inner.Pieces.{after_text, run_of, after_run, begins_with_digit}
use Rattle.verilog_reader.specs.inner.Phrases.{plain_fits, sized_fits, bit_fits, part_fits, literal_at, literal_with}
use Rattle.verilog_reader.specs.inner.Phrases.{sized_at, part_at, select_at, select_with, place_of, name_with}
use Rattle.verilog_reader.specs.inner.Phrases.{name_at_front, atom_at}
use Rattle.verilog_reader.specs.inner.Spelled.{IsSpelled}
use Rattle.verilog_reader.proofs.Pieces.{bind_some, if_some, some_inj, both_true, after_text-only, run_and_rest}
use Rattle.verilog_reader.proofs.Pieces.{number_and_rest-only}

abbrev Outcome : Type 0
Outcome = Expr × Bool × List ℕ

true_less : (m n : ℕ) → nat_lt m n ≡ true → m < n
true_less m n e = grind (arith, nat_tests)

true_at_most : (m n : ℕ) → nat_le m n ≡ true → m ≤ n
true_at_most m n e = grind (arith, nat_tests)

read_is : (names : List (List ℕ)) (widths : List ℕ) (bytes : List ℕ) (read other : Outcome) → read ≡ other →
    IsSpelled names widths 0 bytes read → IsSpelled names widths 0 bytes other
read_is names widths bytes read other same spelled =
    subst (λ (r : Outcome). IsSpelled names widths 0 bytes r) same spelled

sized_at-only : (names : List (List ℕ)) (widths : List ℕ) (width : ℕ) (bytes : List ℕ) (read : Outcome) →
    sized_at width bytes ≡ Some read →
    IsSpelled names widths 0 (decimal width ++ (codes "'d" ++ bytes)) read
unfolding sized_at sized_fits sized_text
sized_at-only names widths width bytes read e =
    let value = bind_some {A = ℕ × List ℕ} {B = Outcome} _ _ _ e in
    let tested = if_some (sized_fits width value.0.0) (sized width value.0.0, false, value.0.1) read value.2 in
    let parts = both_true (nat_le 1 width && nat_le width vector_limit) (nat_lt value.0.0 (2 ^ width)) tested.0 in
    let limits = both_true (nat_le 1 width) (nat_le width vector_limit) parts.0 in
    let number = number_and_rest-only bytes value.0 value.1 in
    let apart : (decimal width ++ codes "'d" ++ decimal value.0.0) ++ value.0.1 ≡ decimal width
    ++ (codes "'d" ++ (decimal value.0.0 ++ value.0.1)) = simp append_assoc in
    read_is names widths (decimal width ++ (codes "'d" ++ bytes)) (sized width value.0.0, false, value.0.1) read
    tested.1 record {
      text = ap (λ t. decimal width ++ (codes "'d" ++ t)) number.0
          ∙ sym apart;
      valid = (
        true_at_most 1 width limits.0,
        true_at_most width vector_limit limits.1,
        true_less value.0.0 (2 ^ width) parts.1,
      );
      shallow = omega arith;
      bare = refl;
    }

literal_at-only : (names : List (List ℕ)) (widths : List ℕ) (bytes : List ℕ) (read : Outcome) →
    literal_at bytes ≡ Some read → IsSpelled names widths 0 bytes read
unfolding literal_at plain_fits
literal_at-only names widths bytes read e =
    let number = bind_some {A = ℕ × List ℕ} {B = Outcome} _ _ _ e in
    let is = number_and_rest-only bytes number.0 number.1 in
    by_mark number.0 is.0 is.1 (after_text (codes "'d") number.0.1) refl number.2
  where
    by_mark : (number : ℕ × List ℕ) → bytes ≡ decimal number.0 ++ number.1 → number.0 < 2 ^ 64 → (o : Option (List ℕ)) →
        after_text (codes "'d") number.1 ≡ o →
        literal_with number.0 o number.1 ≡ Some read → IsSpelled names widths 0 bytes read
    by_mark number is small None none e =
        let tested = if_some (plain_fits number.0) (plain number.0, true, number.1) read e in
        read_is names widths bytes (plain number.0, true, number.1) read tested.1 record {
          text = is;
          valid = true_less number.0 (2 ^ 32) tested.0;
          shallow = omega arith;
          bare = refl;
        }
    by_mark number is small (Some more) some e =
        let spelled = sized_at-only names widths number.0 more read e in
        let whole_is : bytes ≡ decimal number.0 ++ (codes "'d" ++ more) =
        is ∙ ap (λ t. decimal number.0 ++ t) (after_text-only (codes "'d") number.1 more some) in
        subst (λ (t : List ℕ). IsSpelled names widths 0 t read) (sym whole_is) spelled

part_at-only : (names : List (List ℕ)) (widths : List ℕ) (signal high : ℕ) (bytes : List ℕ) (read : Outcome) →
    signal < length widths →
    part_at (slice_index widths signal) signal high bytes ≡ Some read →
    IsSpelled names widths 0 (name_at names signal ++ (codes "[" ++ (decimal high ++ bytes))) read
unfolding part_at part_fits bit_fits
part_at-only names widths signal high bytes read lt e =
    let start = bind_some {A = List ℕ} {B = Outcome} _ _ _ e in
    let low = bind_some {A = ℕ × List ℕ} {B = Outcome} _ _ _ start.2 in
    let rest = bind_some {A = List ℕ} {B = Outcome} _ _ _ low.2 in
    let width = slice_index widths signal in
    let tested = if_some (part_fits width high low.0.0) (part signal high low.0.0, false, rest.0) read rest.2 in
    let parts = both_true (bit_fits width high) (nat_le low.0.0 high) tested.0 in
    let bits = both_true (nat_lt 1 width) (nat_lt high width) parts.0 in
    let name = name_at names signal in
    let colon : bytes ≡ codes ":" ++ start.0 = after_text-only (codes ":") bytes start.0 start.1 in
    let number : start.0 ≡ decimal low.0.0 ++ low.0.1 = (number_and_rest-only start.0 low.0 low.1).0 in
    let bracket : low.0.1 ≡ codes "]" ++ rest.0 = after_text-only (codes "]") low.0.1 rest.0 rest.1 in
    let all : bytes ≡ codes ":" ++ (decimal low.0.0 ++ (codes "]" ++ rest.0)) =
    colon ∙ ap (λ t. codes ":" ++ t) (number ∙ ap (λ t. decimal low.0.0 ++ t) bracket) in
    let apart : (name ++ codes "[" ++ decimal high ++ codes ":" ++ decimal low.0.0 ++ codes "]") ++ rest.0 ≡ name
    ++ (codes "[" ++ (decimal high ++ (codes ":" ++ (decimal low.0.0 ++ (codes "]" ++ rest.0))))) =
    simp append_assoc in
    read_is names widths (name ++ (codes "[" ++ (decimal high ++ bytes))) (part signal high low.0.0, false, rest.0) read
    tested.1 record {
      text = ap (λ t. name ++ (codes "[" ++ (decimal high ++ t))) all ∙ sym apart;
      valid = (lt, true_less 1 width bits.0, true_less high width bits.1, true_at_most low.0.0 high parts.1);
      shallow = omega arith;
      bare = refl;
    }

select_at-only : (names : List (List ℕ)) (widths : List ℕ) (signal : ℕ) (bytes : List ℕ) (read : Outcome) →
    signal < length widths →
    select_at (slice_index widths signal) signal bytes ≡ Some read →
    IsSpelled names widths 0 (name_at names signal ++ (codes "[" ++ bytes)) read
unfolding select_at bit_fits
select_at-only names widths signal bytes read lt e =
    let high = bind_some {A = ℕ × List ℕ} {B = Outcome} _ _ _ e in
    let is = number_and_rest-only bytes high.0 high.1 in
    by_bracket high.0 is.0 (after_text (codes "]") high.0.1) refl high.2
  where
    by_bracket : (high : ℕ × List ℕ) → bytes ≡ decimal high.0 ++ high.1 → (o : Option (List ℕ)) →
        after_text (codes "]") high.1 ≡ o →
        select_with (slice_index widths signal) signal high.0 o high.1 ≡ Some read →
        IsSpelled names widths 0 (name_at names signal ++ (codes "[" ++ bytes)) read
    by_bracket high is None none e =
        let spelled = part_at-only names widths signal high.0 high.1 read lt e in
        subst (λ (t : List ℕ). IsSpelled names widths 0 (name_at names signal ++ (codes "[" ++ t)) read)
        (sym is) spelled
    by_bracket high is (Some rest) some e =
        let width = slice_index widths signal in
        let name = name_at names signal in
        let tested = if_some (bit_fits width high.0) (bit signal high.0, false, rest) read e in
        let bits = both_true (nat_lt 1 width) (nat_lt high.0 width) tested.0 in
        let all : bytes ≡ decimal high.0 ++ (codes "]" ++ rest) =
        is ∙ ap (λ t. decimal high.0 ++ t) (after_text-only (codes "]") high.1 rest some) in
        let apart : (name ++ codes "[" ++ decimal high.0 ++ codes "]") ++ rest ≡ name
        ++ (codes "[" ++ (decimal high.0 ++ (codes "]" ++ rest))) = simp append_assoc in
        read_is names widths (name ++ (codes "[" ++ bytes)) (bit signal high.0, false, rest) read tested.1 record {
          text = ap (λ t. name ++ (codes "[" ++ t)) all ∙ sym apart;
          valid = (lt, true_less 1 width bits.0, true_less high.0 width bits.1);
          shallow = omega arith;
          bare = refl;
        }

name_at_is : (names : List (List ℕ)) (place : ℕ) → name_at names place ≡ get_or names place []
name_at_is [] place = refl
name_at_is (n ∷ names) zero = refl
name_at_is (n ∷ names) (suc place) = name_at_is names place

-- a name's place
pub place_of-only : (names : List (List ℕ)) (name : List ℕ) (place : ℕ) → place_of names name ≡ Some place →
    (place < length names) × (name ≡ name_at names place)
unfolding place_of
place_of-only names name place e =
    let found = position-Some (pointwise nat_eq name) names place [] e in
    (found.0, (bytes_eq-Decides name (get_or names place [])).0 found.1 ∙ sym (name_at_is names place))

name_at_front-only : (names : List (List ℕ)) (widths : List ℕ) → length names ≡ length widths →
    (bytes : List ℕ) (read : Outcome) →
    name_at_front names widths bytes ≡ Some read → IsSpelled names widths 0 bytes read
unfolding name_at_front
name_at_front-only names widths lengths bytes read e =
    let place = bind_some {A = ℕ} {B = Outcome} _ _ _ e in
    let is = place_of-only names (run_of bytes) place.0 place.1 in
    let within : place.0 < length widths = omega (arith, is.0, lengths) in
    let split : bytes ≡ name_at names place.0 ++ after_run bytes =
    run_and_rest bytes ∙ ap (λ n. n ++ after_run bytes) is.1 in
    subst (λ (t : List ℕ). IsSpelled names widths 0 t read) (sym split)
    (by_bracket place.0 within (after_text (codes "[") (after_run bytes)) refl place.2)
  where
    by_bracket : (place : ℕ) → place < length widths → (o : Option (List ℕ)) → after_text (codes "[") (after_run bytes)
        ≡ o →
        name_with (slice_index widths place) place o (after_run bytes) ≡ Some read →
        IsSpelled names widths 0 (name_at names place ++ after_run bytes) read
    by_bracket place lt None none e =
        read_is names widths (name_at names place ++ after_run bytes) (whole place, false, after_run bytes) read
        (some_inj _ _ e)
        record { text = refl; valid = lt; shallow = omega arith; bare = refl }
    by_bracket place lt (Some start) some e =
        let spelled = select_at-only names widths place start read lt e in
        subst (λ (t : List ℕ). IsSpelled names widths 0 (name_at names place ++ t) read)
        (sym (after_text-only (codes "[") (after_run bytes) start some)) spelled

pub atom_at-only : (names : List (List ℕ)) (widths : List ℕ) → length names ≡ length widths →
    (bytes : List ℕ) (read : Outcome) →
    atom_at names widths bytes ≡ Some read → IsSpelled names widths 0 bytes read
unfolding atom_at
atom_at-only names widths lengths bytes read e = by_digit (begins_with_digit bytes) e where
  by_digit : (b : Bool) → cond b (literal_at bytes) (name_at_front names widths bytes) ≡ Some read →
      IsSpelled names widths 0 bytes read
  by_digit true e = literal_at-only names widths bytes read e
  by_digit false e = name_at_front-only names widths lengths bytes read e
