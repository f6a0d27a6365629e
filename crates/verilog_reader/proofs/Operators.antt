-- Operators at the front of a text.
use Rattle.std.proofs.Common.{◌≡◌, ℕ, suc, ◌+◌, ◌<◌, ◌≤◌, Bool, true, false, List, [], ◌∷◌, ◌++◌, length, drop, get_or}
use Rattle.std.proofs.Common.{refl, ap, sym, ◌∙◌, arith, add-one, drop-cons, Some, None}
use Rattle.std.proofs.Math.ListN.{drop_of_length-le}
use Rattle.std.proofs.lemmas.Bool.Decides.{nat_tests}
use Rattle.std.specs.Prelude.{◌==◌, ◌||◌, Option, codes}
use Rattle.std.specs.List.{prefix_len}
use Rattle.psl_model.specs.Names.{between, begins_name, continues_name}
use Rattle.psl_model.specs.declared.operators.UnOp.{UnOp}
use Rattle.psl_model.specs.declared.operators.UnOp.TheVariants.{Not, Flip, AllOnes, AnyOne, Parity}
use Rattle.psl_model.specs.declared.operators.BinOp.{BinOp}
use Rattle.psl_model.specs.declared.operators.BinOp.TheVariants.{Add, Sub, Shl, Shr, Lt, Le, Gt, Ge, Eq, Ne, BitAnd}
use Rattle.psl_model.specs.declared.operators.BinOp.TheVariants.{BitXor, BitOr, And, Or}
use Rattle.psl_model.specs.Operators.{unary_operators, binary_operators}
use Rattle.verilog_text.specs.Text.{unary_symbol, infix_text}
use Rattle.verilog_reader.specs.inner.Pieces.{after_text, first_of, first_with, prefix_at, infix_at}
use Rattle.verilog_reader.proofs.Pieces.{none_some, some_inj, after_text-only}

first_of-only : {X : Type 0} (spell : X → List ℕ) (xs : List X) (bytes : List ℕ) (read : X × List ℕ) →
    first_of spell xs bytes ≡ Some read → bytes ≡ spell read.0 ++ read.1
first_of-only spell [] bytes read e = absurd (none_some read e)
first_of-only {X} spell (x ∷ xs) bytes read e =
    by_front (after_text (spell x) bytes) refl e (first_of-only spell xs bytes read) where
      by_front : (o : Option (List ℕ)) → after_text (spell x) bytes ≡ o → first_with o x (first_of spell xs bytes)
          ≡ Some read →
          (first_of spell xs bytes ≡ Some read → bytes ≡ spell read.0 ++ read.1) → bytes ≡ spell read.0 ++ read.1
      by_front None none e later = later e
      by_front (Some rest) some e later =
          let is : (x, rest) ≡ read = some_inj _ _ e in
          after_text-only (spell x) bytes rest some ∙ ap (λ (p : X × List ℕ). spell p.0 ++ p.1) is

-- a search through the operators, one after the other

first_step : {X : Type 0} (spell : X → List ℕ) (xs : List X) (bytes : List ℕ) (i : ℕ) (d : X) → i < length xs →
    first_of spell (drop i xs) bytes ≡ first_with (after_text (spell (get_or xs i d)) bytes) (get_or xs i d)
    (first_of spell (drop (suc i) xs) bytes)
first_step spell xs bytes i d lt = rw (drop-cons xs i d) refl

pub first_found : {X : Type 0} (spell : X → List ℕ) (xs : List X) (bytes : List ℕ) (i : ℕ) (d : X) (rest : List ℕ) →
    i < length xs →
    first_of spell (drop i xs) bytes ≡ first_of spell xs bytes → after_text (spell (get_or xs i d)) bytes ≡ Some rest →
    Some (get_or xs i d, rest) ≡ first_of spell xs bytes
first_found spell xs bytes i d rest lt so_far found =
    sym (ap (λ (o : Option (List ℕ)). first_with o (get_or xs i d) (first_of spell (drop (suc i) xs) bytes)) found)
    ∙ sym (first_step spell xs bytes i d lt) ∙ so_far

pub first_passed : {X : Type 0} (spell : X → List ℕ) (xs : List X) (bytes : List ℕ) (i : ℕ) (d : X) → i < length xs →
    first_of spell (drop i xs) bytes ≡ first_of spell xs bytes → after_text (spell (get_or xs i d)) bytes ≡ None →
    first_of spell (drop (i + 1) xs) bytes ≡ first_of spell xs bytes
first_passed {X} spell xs bytes i d lt so_far passed =
    ap (λ (n : ℕ). first_of spell (drop n xs) bytes) (add-one i)
    ∙ sym (ap (λ (o : Option (List ℕ)). first_with o (get_or xs i d) (first_of spell (drop (suc i) xs) bytes)) passed)
    ∙ sym (first_step spell xs bytes i d lt) ∙ so_far

pub first_none : {X : Type 0} (spell : X → List ℕ) (xs : List X) (bytes : List ℕ) (i : ℕ) → length xs ≤ i →
    first_of spell (drop i xs) bytes ≡ first_of spell xs bytes → None ≡ first_of spell xs bytes
first_none {X} spell xs bytes i le so_far =
    sym (ap (λ (ys : List X). first_of spell ys bytes) (drop_of_length-le xs le)) ∙ so_far

pub prefix_at-only : (bytes : List ℕ) (read : UnOp × List ℕ) → prefix_at bytes ≡ Some read → bytes ≡ unary_symbol read.0
    ++ read.1
unfolding prefix_at
prefix_at-only bytes read e = first_of-only unary_symbol unary_operators bytes read e

pub infix_at-only : (bytes : List ℕ) (read : BinOp × List ℕ) → infix_at bytes ≡ Some read → bytes ≡ infix_text read.0
    ++ read.1
unfolding infix_at
infix_at-only bytes read e = first_of-only infix_text binary_operators bytes read e

pub prefix_at-symbol : (op : UnOp) (rest : List ℕ) → prefix_at (unary_symbol op ++ rest) ≡ Some (op, rest)
unfolding prefix_at after_text
prefix_at-symbol Not rest = refl
prefix_at-symbol Flip rest = refl
prefix_at-symbol AllOnes rest = refl
prefix_at-symbol AnyOne rest = refl
prefix_at-symbol Parity rest = refl

pub infix_at-text : (op : BinOp) (rest : List ℕ) → infix_at (infix_text op ++ rest) ≡ Some (op, rest)
unfolding infix_at after_text infix_text
infix_at-text Add rest = refl
infix_at-text Sub rest = refl
infix_at-text Shl rest = refl
infix_at-text Shr rest = refl
infix_at-text Lt rest = refl
infix_at-text Le rest = refl
infix_at-text Gt rest = refl
infix_at-text Ge rest = refl
infix_at-text Eq rest = refl
infix_at-text Ne rest = refl
infix_at-text BitAnd rest = refl
infix_at-text BitXor rest = refl
infix_at-text BitOr rest = refl
infix_at-text And rest = refl
infix_at-text Or rest = refl

-- no operator is a question mark
pub no_question : (op : BinOp) (rest : List ℕ) → after_text (codes " ? ") (infix_text op ++ rest) ≡ None
unfolding after_text infix_text
no_question Add rest = refl
no_question Sub rest = refl
no_question Shl rest = refl
no_question Shr rest = refl
no_question Lt rest = refl
no_question Le rest = refl
no_question Gt rest = refl
no_question Ge rest = refl
no_question Eq rest = refl
no_question Ne rest = refl
no_question BitAnd rest = refl
no_question BitXor rest = refl
no_question BitOr rest = refl
no_question And rest = refl
no_question Or rest = refl

-- an operator begins with a blank
pub infix_begins : (op : BinOp) (rest : List ℕ) → (tail : List ℕ) × (infix_text op ++ rest ≡ 32 ∷ tail)
unfolding infix_text
infix_begins op rest = (_, refl)

-- what an operand begins with: a parenthesis, a digit, or a letter or `_`
abbrev pub begins_operand : ℕ → Bool
begins_operand byte = (byte == 40) || (between 48 57 byte || begins_name byte)

pub no_prefix : (byte : ℕ) (rest : List ℕ) → begins_operand byte ≡ true → prefix_at (byte ∷ rest) ≡ None
unfolding prefix_at after_text
no_prefix byte rest e =
    let exclamation : (byte == 33) ≡ false = grind (arith, nat_tests) in
    let tilde : (byte == 126) ≡ false = grind (arith, nat_tests) in
    let ampersand : (byte == 38) ≡ false = grind (arith, nat_tests) in
    let bar : (byte == 124) ≡ false = grind (arith, nat_tests) in
    let caret : (byte == 94) ≡ false = grind (arith, nat_tests) in
    rw (exclamation, tilde, ampersand, bar, caret) refl

-- behind an expression stands a blank, `)` or `;`
pub record Stops (rest : List ℕ) : Type 0 where
  pub name : prefix_len continues_name rest ≡ 0
  pub bracket : after_text (codes "[") rest ≡ None
  pub quote : after_text (codes "'d") rest ≡ None

pub stops_blank : (rest : List ℕ) → Stops (32 ∷ rest)
unfolding after_text
stops_blank rest = record { name = refl; bracket = refl; quote = refl }

pub stops_parenthesis : (rest : List ℕ) → Stops (41 ∷ rest)
unfolding after_text
stops_parenthesis rest = record { name = refl; bracket = refl; quote = refl }

pub stops_semicolon : (rest : List ℕ) → Stops (59 ∷ rest)
unfolding after_text
stops_semicolon rest = record { name = refl; bracket = refl; quote = refl }
