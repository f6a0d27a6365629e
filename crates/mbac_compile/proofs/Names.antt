-- What a directive's checker is called and tells.
use Rattle.std.proofs.Common.{◌≡◌, ℕ, ◌+◌, ◌<◌, ◌≤◌, ◌^◌, ◌%◌, List, [], ◌∷◌, ◌++◌, Bool, true, false, refl}
use Rattle.std.proofs.Common.{Option, Some, None, ◌∙◌, arith}
use Rattle.std.specs.Prelude.{◌||◌, ◌==◌, nat_le, nat_eq, IsTrue, IfSome, codes, decimal}
use Rattle.std.specs.List.{list_all, starts_with}
use Rattle.std.proofs.lemmas.Bool.{le-leb, false≢true}
use Rattle.std.proofs.lemmas.List.Folds.{list_all-append}
use Rattle.std.proofs.lemmas.Fmt.{decimal_by_steps}
use Rattle.psl_model.specs.Names.{IsIdentifier, begins_name, continues_name, checker_prefix, between, IsReport}
use Rattle.checker_meaning.specs.Headline.{call_name, shown_report}
use Rattle.mbac_compile.specs.Units.{IsReportText}
use Rattle.mbac_compile.proofs.Built.{both_of}

abbrev Continues : List ℕ → Type 0
Continues bytes = IsTrue (list_all continues_name bytes)

or_first : (a b : Bool) → IsTrue a → IsTrue (a || b)
or_first true b h = refl
or_first false b h = absurd (false≢true h)

or_second : (a b : Bool) → IsTrue b → IsTrue (a || b)
or_second true b h = refl
or_second false b h = h

digit : (n : ℕ) → n < 10 → IsTrue (continues_name (48 + n))
digit n small =
    let low : 48 ≤ 48 + n = omega arith in
    let high : 48 + n ≤ 57 = omega arith in
    or_first (begins_name (48 + n) || between 48 57 (48 + n)) ((48 + n) == 36)
    (or_second (begins_name (48 + n)) (between 48 57 (48 + n))
    (both_of (nat_le 48 (48 + n)) (nat_le (48 + n) 57) (le-leb 48 (48 + n) low) (le-leb (48 + n) 57 high)))

joined : (xs ys : List ℕ) → Continues xs → Continues ys → Continues (xs ++ ys)
joined xs ys p q =
    list_all-append continues_name xs ys
    ∙ both_of (list_all continues_name xs) (list_all continues_name ys) p q

one_digit : (n : ℕ) → n < 10 → Continues ((48 + n) ∷ [])
one_digit n small = both_of (continues_name (48 + n)) true (digit n small) refl

number_continues : (n : ℕ) → n < 2 ^ 64 → Continues (decimal n)
number_continues n small =
    decimal_by_steps (λ k ds. Continues ds) (λ k lt. one_digit k lt)
    (λ k ds ten before. let lt : k % 10 < 10 = omega arith in
    joined ds ((48 + k % 10) ∷ []) before (one_digit (k % 10) lt))
    n small

name_continues : (name : List ℕ) → IsIdentifier name → Continues name
name_continues [] h = absurd h
name_continues (byte ∷ bytes) h =
    both_of (continues_name byte) (list_all continues_name bytes)
    (or_first (begins_name byte || between 48 57 byte) (byte == 36)
    (or_first (begins_name byte) (between 48 57 byte) h.0)) h.1

call_continues : (number : ℕ) (label : Option (List ℕ)) → number < 2 ^ 64 → IfSome label IsIdentifier →
    Continues (call_name number label)
call_continues number (Some label) small h = name_continues label h
call_continues number None small h = number_continues number small

rest_continues : (name : List ℕ) (number : ℕ) (label : Option (List ℕ)) → number < 2 ^ 64 → IsIdentifier name →
    IfSome label IsIdentifier → Continues (name ++ codes "_" ++ call_name number label)
rest_continues name number label small named labelled =
    joined (name ++ codes "_") (call_name number label)
    (joined name (codes "_") (name_continues name named) refl) (call_continues number label small labelled)

pub identifier : (name : List ℕ) (number : ℕ) (label : Option (List ℕ)) → number < 2 ^ 64 → IsIdentifier name →
    IfSome label IsIdentifier → IsIdentifier (codes "mbac_" ++ name ++ codes "_" ++ call_name number label)
identifier name number label small named labelled = (refl, rest_continues name number label small named labelled)

pub prefix : (rest : List ℕ) → starts_with nat_eq (codes "mbac_" ++ rest) checker_prefix ≡ true
prefix rest = refl

pub shown : (report : Option (List ℕ)) → IfSome report IsReportText → IfSome (shown_report report) IsReport
shown None h = tt
shown (Some []) h = tt
shown (Some (byte ∷ bytes)) h = record { not_empty = λ e. absurd (cc (e)); short = h.short; printable = h.printable }
