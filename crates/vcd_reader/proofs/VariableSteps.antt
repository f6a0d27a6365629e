-- Steps of the reader in the declaration of a variable, and behind the digits of a vector.
use Rattle.std.proofs.Common.{◌≡◌, ℕ, ◌-◌, List, [], ◌∷◌, ◌++◌, Bool, true, false, cond, Option, Some, None, length}
use Rattle.std.proofs.Common.{refl, sym, ◌∙◌, ap, subst, Ok, Err, append_assoc, append-nil}
use Rattle.std.specs.Prelude.{nat_eq, nat_lt, ◌||◌}
use Rattle.vcd_reader.specs.declared.reading.Fault.TheVariants.{Syntax}
use Rattle.vcd_reader.specs.declared.reading.Place.TheVariants.{Declaring, VarSize, VarCode, VarName, VarRest}
use Rattle.vcd_reader.specs.declared.reading.Place.TheVariants.{Changing, VectorCode}
use Rattle.vcd_reader.specs.Codes.{find_code}
use Rattle.vcd_reader.specs.Numbers.{number_up_to}
use Rattle.vcd_reader.specs.Context.{Context, path, joined, codes_with, number_with, with_variable, with_change}
use Rattle.vcd_reader.specs.Names.{without_range}
use Rattle.vcd_reader.specs.Phrases.{Judgement, whole, begins, unlawful, is_end, has_end, before_end, variable}
use Rattle.vcd_reader.specs.Phrases.{variable_of, variable_size, size_of, agrees, vector, vector_of, judge}
use Rattle.vcd_reader.specs.Telling.{judged}
use Rattle.vcd_reader.specs.inner.State.{State}
use Rattle.vcd_reader.specs.inner.Rules.{Step, next, with_size, with_code, with_vector}
use Rattle.vcd_reader.proofs.Stands.{Stand, between, var1, var2, var3, var4, vectors, since, at, Is, Fits, Goes}
use Rattle.vcd_reader.proofs.Stands.{Follows, plain, base, open_place, code_in}
use Rattle.vcd_reader.proofs.Following.{moved, has_end_more}

pub follows_var1 : (c : Context) (word kind text : List ℕ) → Fits c (var1 word kind)
    → Follows c (var1 word kind) text (judged c (word ∷ kind ∷ text ∷ []))
follows_var1 c word kind text h = moved c (var1 word kind) text _ (variable_of c (variable_size text) [])
    (h.1.is (kind ∷ text ∷ [])) (by (number_up_to 65536 text) refl)
  where
    sized : (size : ℕ) (b : Bool) → nat_lt 0 size ≡ b → number_up_to 65536 text ≡ Some size
        → Follows c (var1 word kind) text (variable_of c (cond b (Some size) None) [])
    sized size true positive e = record {
      to = var2 word kind text size;
      tokens = refl;
      fits = (h.0, h.1, ap size_of e ∙ ap (λ b. cond b (Some size) None) positive);
      goes = ap (with_size (plain VarSize c)) e ∙ ap (λ b. cond b (Ok (plain (VarCode size) c)) (Err Syntax)) positive;
    }
    sized size false positive e = ap (with_size (plain VarSize c)) e
        ∙ ap (λ b. cond b (Ok (plain (VarCode size) c)) (Err Syntax)) positive

    by : (n : Option ℕ) → number_up_to 65536 text ≡ n → Follows c (var1 word kind) text (variable_of c (size_of n) [])
    by None e = ap (with_size (plain VarSize c)) e
    by (Some size) e = sized size (nat_lt 0 size) refl e

-- the state behind an identifier that was found, or not
named : Context → ℕ → List ℕ → Option (ℕ × ℕ) → State
named c size id found = plain (VarName size (number_with c.codes found))
    (record c { codes = codes_with c.codes id size found })

code_step : (c : Context) (size : ℕ) (id : List ℕ) (found : Option (ℕ × ℕ)) → agrees found size ≡ true
    → with_code size (plain (VarCode size) c) id found ≡ Ok (named c size id found)
unfolding named
code_step c size id None h = refl
code_step c size id (Some known) h = ap (λ b. cond b (Ok (plain (VarName size known.0) c)) (Err Syntax)) h

code_fault : (c : Context) (size : ℕ) (id : List ℕ) (found : Option (ℕ × ℕ)) → agrees found size ≡ false
    → with_code size (plain (VarCode size) c) id found ≡ Err Syntax
code_fault c size id None h = cc
code_fault c size id (Some known) h = ap (λ b. cond b (Ok (plain (VarName size known.0) c)) (Err Syntax)) h

pub follows_var2 : (c : Context) (word kind text : List ℕ) (size : ℕ) (id : List ℕ) → Fits c (var2 word kind text size)
    → Follows c (var2 word kind text size) id (judged c (word ∷ kind ∷ text ∷ id ∷ []))
unfolding named
follows_var2 c word kind text size id h =
    moved c (var2 word kind text size) id _ (variable_of c (Some size) (id ∷ []))
    (h.1.is (kind ∷ text ∷ id ∷ []) ∙ ap (λ n. variable_of c n (id ∷ [])) h.2) (by (is_end id) refl)
  where
    inner : (b : Bool) → agrees (find_code c.codes id) size ≡ b → is_end id ≡ false
        → Follows c (var2 word kind text size) id (cond b begins unlawful)
    inner true e none = record {
      to = var3 word kind text size id;
      tokens = refl;
      fits = (h.0, h.1, h.2);
      goes = ap (λ b. cond b (Err Syntax) (with_code size (plain (VarCode size) c) id (find_code c.codes id))) none
          ∙ code_step c size id (find_code c.codes id) e;
    }
    inner false e none = ap (λ b. cond b (Err Syntax)
        (with_code size (plain (VarCode size) c) id (find_code c.codes id))) none
        ∙ code_fault c size id (find_code c.codes id) e

    by : (b : Bool) → is_end id ≡ b → Follows c (var2 word kind text size) id
        (cond b unlawful (cond (agrees (find_code c.codes id) size) begins unlawful))
    by true e = ap (λ b. cond b (Err Syntax) (with_code size (plain (VarCode size) c) id (find_code c.codes id))) e
    by false e = inner (agrees (find_code c.codes id) size) refl e

pub follows_var3 : (c : Context) (word kind text : List ℕ) (size : ℕ) (id name : List ℕ)
    → Fits c (var3 word kind text size id)
    → Follows c (var3 word kind text size id) name (judged c (word ∷ kind ∷ text ∷ id ∷ name ∷ []))
follows_var3 c word kind text size id name h =
    moved c (var3 word kind text size id) name _ (variable_of c (Some size) (id ∷ name ∷ []))
    (h.1.is (kind ∷ text ∷ id ∷ name ∷ []) ∙ ap (λ n. variable_of c n (id ∷ name ∷ [])) h.2) (by (is_end name) refl)
  where
    by : (b : Bool) → is_end name ≡ b → Follows c (var3 word kind text size id) name (cond b unlawful begins)
    by true e = ap (λ b. cond b (Err Syntax)
        (Ok (base (VarRest size (code_in c id)) (record c { codes = codes_with c.codes id size (find_code c.codes id) })
        name []))) e
    by false e = record {
      to = var4 word kind text size id name [];
      tokens = refl;
      fits = (h.0, h.1, h.2, refl);
      goes =
          ap (λ b. cond b (Err Syntax) (Ok
          (base (VarRest size (code_in c id))
          (record c { codes = codes_with c.codes id size (find_code c.codes id) }) name []))) e
          ∙ ap (λ t. Ok (base (VarRest size (code_in c id))
          (record c { codes = codes_with c.codes id size (find_code c.codes id) }) t [])) (sym (append-nil name));
    }

parts_judged : (c : Context) (size : ℕ) (id name : List ℕ) (parts : List (List ℕ)) (text : List ℕ)
    → variable_of c (Some size) (id ∷ name ∷ (parts ++ text ∷ []))
    ≡ cond (has_end (parts ++ text ∷ [])) (whole (with_variable c size id (name ∷ before_end (parts ++ text ∷ []))))
    begins
parts_judged c size id name [] text = refl
parts_judged c size id name (part ∷ parts) text = refl

before_part : (b : Bool) (part : List ℕ) (rest ends : List (List ℕ)) → (b || has_end rest) ≡ false
    → (has_end rest ≡ false → ends ≡ rest)
    → cond b [] (part ∷ ends) ≡ part ∷ rest
before_part true part rest ends none h = cc
before_part false part rest ends none h = ap (λ t. part ∷ t) (h none)

before_last : (parts : List (List ℕ)) (text : List ℕ) → has_end parts ≡ false → is_end text ≡ true
    → before_end (parts ++ text ∷ []) ≡ parts
before_last [] text none e = ap (λ b. cond b [] (text ∷ [])) e
before_last (part ∷ parts) text none e = before_part (is_end part) part parts (before_end (parts ++ text ∷ [])) none
    (λ more. before_last parts text more e)

joined_more : (texts : List (List ℕ)) (text : List ℕ) → joined (texts ++ text ∷ []) ≡ joined texts ++ text
joined_more [] text = append-nil text
joined_more (first ∷ texts) text = ap (λ t. first ++ t) (joined_more texts text)
    ∙ sym (append_assoc first (joined texts) text)

done : Context → ℕ → List ℕ → List (List ℕ) → State
done c size id parts = plain Declaring (with_variable c size id parts)

more : Context → ℕ → List ℕ → List ℕ → State
more c size id name = base (VarRest size (code_in c id))
    (record c { codes = codes_with c.codes id size (find_code c.codes id) }) name []

rest_step : (c : Context) (word kind text : List ℕ) (size : ℕ) (id name : List ℕ) (parts : List (List ℕ))
    (last : List ℕ)
    → Fits c (var4 word kind text size id name parts) → (b : Bool) → is_end last ≡ b
    → Follows c (var4 word kind text size id name parts) last
    (cond b (whole (with_variable c size id (name ∷ before_end (parts ++ last ∷ [])))) begins)
unfolding done more
rest_step c word kind text size id name parts last h true e =
    ap (λ b. cond b (Ok (done c size id (name ∷ parts))) (Ok (more c size id (joined (name ∷ parts) ++ last)))) e
    ∙ ap (λ ps. Ok (plain Declaring (with_variable c size id (name ∷ ps)))) (sym (before_last parts last h.3 e))
    ∙ ap (λ b. Ok (plain (open_place b) (with_variable c size id (name ∷ before_end (parts ++ last ∷ []))))) (sym h.0)
rest_step c word kind text size id name parts last h false e = record {
  to = var4 word kind text size id name (parts ++ last ∷ []);
  tokens = refl;
  fits = (h.0, h.1, h.2, has_end_more parts last h.3 ∙ e);
  goes =
      ap (λ b. cond b (Ok (done c size id (name ∷ parts))) (Ok (more c size id (joined (name ∷ parts) ++ last)))) e
      ∙ ap (λ t. Ok (more c size id t)) (sym (joined_more (name ∷ parts) last));
}

pub follows_var4 : (c : Context) (word kind text : List ℕ) (size : ℕ) (id name : List ℕ) (parts : List (List ℕ))
    (last : List ℕ)
    → Fits c (var4 word kind text size id name parts)
    → Follows c (var4 word kind text size id name parts) last
    (judged c (word ∷ kind ∷ text ∷ id ∷ name ∷ (parts ++ last ∷ [])))
follows_var4 c word kind text size id name parts last h =
    moved c (var4 word kind text size id name parts) last _
    (cond (is_end last) (whole (with_variable c size id (name ∷ before_end (parts ++ last ∷ [])))) begins)
    (h.1.is (kind ∷ text ∷ id ∷ name ∷ (parts ++ last ∷ []))
    ∙ ap (λ n. variable_of c n (id ∷ name ∷ (parts ++ last ∷ []))) h.2
    ∙ parts_judged c size id name parts last
    ∙ ap (λ b. cond b (whole (with_variable c size id (name ∷ before_end (parts ++ last ∷ [])))) begins)
    (has_end_more parts last h.3))
    (rest_step c word kind text size id name parts last h (is_end last) refl)

vector_step : (c : Context) (word digits id : List ℕ) (found : Option (ℕ × ℕ)) → c.declaring ≡ false
    → find_code c.codes id ≡ found
    → Follows c (vectors word digits) id (vector_of c digits found)
vector_step c word digits id None h e = ap (with_vector (base VectorCode c [] digits)) e
vector_step c word digits id (Some known) h e = by (nat_lt known.1 (length digits)) refl
  where
    by : (b : Bool) → nat_lt known.1 (length digits) ≡ b
        → Follows c (vectors word digits) id (cond b unlawful (whole (with_change c known.0 digits)))
    by true f = ap (with_vector (base VectorCode c [] digits)) e
        ∙ ap (λ b. cond b (Err Syntax) (Ok (plain Changing (with_change c known.0 digits)))) f
    by false f =
        ap (with_vector (base VectorCode c [] digits)) e
        ∙ ap (λ b. cond b (Err Syntax) (Ok (plain Changing (with_change c known.0 digits)))) f
        ∙ ap (λ b. Ok (plain (open_place b) (with_change c known.0 digits))) (sym h)

pub follows_vectors : (c : Context) (word digits id : List ℕ) → Fits c (vectors word digits)
    → Follows c (vectors word digits) id (judged c (word ∷ id ∷ []))
follows_vectors c word digits id h =
    moved c (vectors word digits) id _ (vector_of c digits (find_code c.codes id)) (h.1.is (id ∷ []))
    (vector_step c word digits id (find_code c.codes id) h.0 refl)
