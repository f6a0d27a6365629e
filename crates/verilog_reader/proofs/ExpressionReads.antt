-- The text of an expression is read as the expression.
use Rattle.std.proofs.Common.{◌≡◌, ℕ, ◌-◌, ◌<◌, ◌≤◌, ◌^◌, true, false, List, ◌∷◌, ◌++◌, length, refl, ap, sym, ◌∙◌}
use Rattle.std.proofs.Common.{arith, subst, Some, None, append_assoc}
use Rattle.std.proofs.Math.Pow.{pow_mono}
use Rattle.std.proofs.lemmas.Bool.Decides.{nat_tests}
use Rattle.std.specs.Prelude.{◌==◌, ◌&&◌, codes, decimal}
use Rattle.psl_model.specs.declared.operators.UnOp.{UnOp}
use Rattle.psl_model.specs.declared.operators.BinOp.{BinOp}
use Rattle.psl_model.specs.Expr.{Expr, whole, bit, part, plain, sized, unary, binary, choice}
use Rattle.psl_model.specs.Names.{between, begins_name}
use Rattle.psl_model.specs.Valid.{IsValid, parentheses, is_bare, wants_width}
use Rattle.verilog_text.specs.Text.{name_at, unary_symbol, infix_text, sized_text, expression_text}
use Rattle.verilog_reader.specs.inner.Pieces.{after_text, prefix_at}
use Rattle.verilog_reader.specs.inner.Phrases.{Read, expression_at, atom_at, group_at, joined_at, choice_with}
use Rattle.verilog_reader.specs.inner.Phrases.{binary_with, binary_end, unary_with}
use Rattle.verilog_reader.specs.inner.Table.{IsTable}
use Rattle.verilog_reader.proofs.Pieces.{after_text-text, decimal_begins}
use Rattle.verilog_reader.proofs.Operators.{Stops, stops_blank, stops_parenthesis, prefix_at-symbol, infix_at-text}
use Rattle.verilog_reader.proofs.Operators.{no_question, infix_begins, begins_operand, no_prefix}
use Rattle.verilog_reader.proofs.Steps.{grouped, alone}
use Rattle.verilog_reader.proofs.AtomReads.{name_begins, whole_reads, bit_reads, part_reads, plain_reads, sized_reads}

-- what an expression's text begins with

abbrev Begins : List ℕ → Type 0
Begins bytes = (b : ℕ) × (tail : List ℕ) × (bytes ≡ b ∷ tail) × (begins_operand b ≡ true)

letter_operand : (b : ℕ) → begins_name b ≡ true → begins_operand b ≡ true
letter_operand b e = grind (arith, nat_tests)

digit_operand : (b : ℕ) → between 48 57 b ≡ true → begins_operand b ≡ true
digit_operand b e = grind (arith, nat_tests)

begins_with_name : (names : List (List ℕ)) (widths : List ℕ) (table : IsTable names widths) (signal : ℕ)
    (rest : List ℕ) → signal < length widths →
    Begins (name_at names signal ++ rest)
begins_with_name names widths table signal rest lt =
    let within : signal < length names = omega (arith, table.lengths) in
    let begins = name_begins (name_at names signal) rest (table.identifiers signal within) in
    (begins.0, begins.1, begins.2, letter_operand begins.0 begins.3)

begins_with_number : (n : ℕ) (rest : List ℕ) → n < 2 ^ 64 → Begins (decimal n ++ rest)
begins_with_number n rest small =
    let begins = decimal_begins n rest small in
    (begins.0, begins.1, begins.2, digit_operand begins.0 begins.3)

regrouped : (bytes other : List ℕ) → bytes ≡ other → Begins other → Begins bytes
regrouped bytes other same begins = (begins.0, begins.1, same ∙ begins.2, begins.3)

operand_begins : (names : List (List ℕ)) (widths : List ℕ) (table : IsTable names widths) (e : Expr) (rest : List ℕ) →
    IsValid widths e → Begins (expression_text names e ++ rest)
unfolding sized_text
operand_begins names widths table (whole s) rest valid = begins_with_name names widths table s rest valid
operand_begins names widths table (bit s n) rest valid =
    let tail = codes "[" ++ (decimal n ++ (codes "]" ++ rest)) in
    let apart : (name_at names s ++ codes "[" ++ decimal n ++ codes "]") ++ rest ≡ name_at names s ++ tail =
    simp append_assoc in
    regrouped _ _ apart (begins_with_name names widths table s tail valid.0)
operand_begins names widths table (part s h l) rest valid =
    let tail = codes "[" ++ (decimal h ++ (codes ":" ++ (decimal l ++ (codes "]" ++ rest)))) in
    let apart : (name_at names s ++ codes "[" ++ decimal h ++ codes ":" ++ decimal l ++ codes "]") ++ rest
    ≡ name_at names s ++ tail = simp append_assoc in
    regrouped _ _ apart (begins_with_name names widths table s tail valid.0)
operand_begins names widths table (plain n) rest valid = begins_with_number n rest (omega (arith, valid))
operand_begins names widths table (sized w v) rest valid =
    let tail = codes "'d" ++ (decimal v ++ rest) in
    let small : w < 2 ^ 64 = omega (arith, valid.1) in
    let apart : (decimal w ++ codes "'d" ++ decimal v) ++ rest ≡ decimal w ++ tail = simp append_assoc in
    regrouped _ _ apart (begins_with_number w tail small)
operand_begins names widths table (unary op a) rest valid = (40, _, refl, refl)
operand_begins names widths table (binary op a b) rest valid = (40, _, refl, refl)
operand_begins names widths table (choice t y n) rest valid = (40, _, refl, refl)

-- a name or a number begins with no parenthesis
letter_no_paren : (b : ℕ) → begins_name b ≡ true → (b == 40) ≡ false
letter_no_paren b e = grind (arith, nat_tests)

digit_no_paren : (b : ℕ) → between 48 57 b ≡ true → (b == 40) ≡ false
digit_no_paren b e = grind (arith, nat_tests)

no_paren : (bytes : List ℕ) (b : ℕ) (tail : List ℕ) → bytes ≡ b ∷ tail → (b == 40) ≡ false →
    after_text (codes "(") bytes ≡ None
unfolding after_text
no_paren bytes b tail is other = rw (is, other) refl

name_alone : (names : List (List ℕ)) (widths : List ℕ) (table : IsTable names widths) (room signal : ℕ)
    (rest : List ℕ) → signal < length widths →
    expression_at names widths room (name_at names signal ++ rest) ≡ atom_at names widths (name_at names signal ++ rest)
name_alone names widths table room signal rest lt =
    let within : signal < length names = omega (arith, table.lengths) in
    let begins = name_begins (name_at names signal) rest (table.identifiers signal within) in
    alone names widths room (name_at names signal ++ rest)
    (no_paren (name_at names signal ++ rest) begins.0 begins.1 begins.2 (letter_no_paren begins.0 begins.3))

number_alone : (names : List (List ℕ)) (widths : List ℕ) (room n : ℕ) (rest : List ℕ) → n < 2 ^ 64 →
    expression_at names widths room (decimal n ++ rest) ≡ atom_at names widths (decimal n ++ rest)
number_alone names widths room n rest small =
    let begins = decimal_begins n rest small in
    alone names widths room (decimal n ++ rest)
    (no_paren (decimal n ++ rest) begins.0 begins.1 begins.2 (digit_no_paren begins.0 begins.3))

fits_wide : (width value : ℕ) → width ≤ 64 → value < 2 ^ width → value < 2 ^ 64
fits_wide width value limit fits =
    let wide : 2 ^ width ≤ 2 ^ 64 = pow_mono limit in omega arith

-- what stands behind an opening parenthesis

opened : (names : List (List ℕ)) (widths : List ℕ) (room : ℕ) (inner : List ℕ) → 0 < room →
    expression_at names widths room (codes "(" ++ inner) ≡ group_at (expression_at names widths (room - 1)) inner
opened names widths room inner some =
    grouped names widths room (codes "(" ++ inner) inner some (after_text-text (codes "(") inner)

unary_reads : (operand : List ℕ → Read) (op : UnOp) (a : Expr) (text rest : List ℕ) →
    operand (text ++ (codes ")" ++ rest)) ≡ Some (a, is_bare a, codes ")" ++ rest) →
    group_at operand (unary_symbol op ++ (text ++ (codes ")" ++ rest))) ≡ Some (unary op a, is_bare (unary op a), rest)
unfolding group_at unary_with
unary_reads operand op a text rest reads =
    rw (prefix_at-symbol op (text ++ (codes ")" ++ rest)), reads, after_text-text (codes ")") rest) refl

binary_reads : (operand : List ℕ → Read) (op : BinOp) (a b : Expr) (left right rest : List ℕ) →
    prefix_at (left ++ (infix_text op ++ (right ++ (codes ")" ++ rest)))) ≡ None →
    operand (left ++ (infix_text op ++ (right ++ (codes ")" ++ rest))))
    ≡ Some (a, is_bare a, infix_text op ++ (right ++ (codes ")" ++ rest))) →
    operand (right ++ (codes ")" ++ rest)) ≡ Some (b, is_bare b, codes ")" ++ rest) →
    (wants_width op && (is_bare a && is_bare b)) ≡ false →
    group_at operand (left ++ (infix_text op ++ (right ++ (codes ")" ++ rest))))
    ≡ Some (binary op a b, is_bare (binary op a b), rest)
unfolding group_at joined_at binary_with binary_end
binary_reads operand op a b left right rest begins first second joins =
    rw (
      begins,
      first,
      no_question op (right ++ (codes ")" ++ rest)),
      infix_at-text op (right ++ (codes ")" ++ rest)),
      second,
      after_text-text (codes ")") rest,
      joins,
    ) refl

choice_reads : (operand : List ℕ → Read) (t y n : Expr) (test first second rest : List ℕ) →
    prefix_at (test ++ (codes " ? " ++ (first ++ (codes " : " ++ (second ++ (codes ")" ++ rest)))))) ≡ None →
    operand (test ++ (codes " ? " ++ (first ++ (codes " : " ++ (second ++ (codes ")" ++ rest))))))
    ≡ Some (t, is_bare t, codes " ? " ++ (first ++ (codes " : " ++ (second ++ (codes ")" ++ rest))))) →
    operand (first ++ (codes " : " ++ (second ++ (codes ")" ++ rest))))
    ≡ Some (y, is_bare y, codes " : " ++ (second ++ (codes ")" ++ rest))) →
    operand (second ++ (codes ")" ++ rest)) ≡ Some (n, is_bare n, codes ")" ++ rest) →
    group_at operand (test ++ (codes " ? " ++ (first ++ (codes " : " ++ (second ++ (codes ")" ++ rest))))))
    ≡ Some (choice t y n, is_bare (choice t y n), rest)
unfolding group_at joined_at choice_with
choice_reads operand t y n test first second rest begins one two three =
    rw (
      begins,
      one,
      after_text-text (codes " ? ") (first ++ (codes " : " ++ (second ++ (codes ")" ++ rest)))),
      two,
      after_text-text (codes " : ") (second ++ (codes ")" ++ rest)),
      three,
      after_text-text (codes ")") rest,
    ) refl

-- the whole

pub expression_reads : (names : List (List ℕ)) (widths : List ℕ) (table : IsTable names widths) (e : Expr) (room : ℕ)
    (rest : List ℕ) →
    IsValid widths e → parentheses e ≤ room → Stops rest →
    expression_at names widths room (expression_text names e ++ rest) ≡ Some (e, is_bare e, rest)
unfolding sized_text
expression_reads names widths table (whole s) room rest valid shallow stops =
    name_alone names widths table room s rest valid ∙ whole_reads names widths table s rest valid stops
expression_reads names widths table (bit s n) room rest valid shallow stops =
    let apart : (name_at names s ++ codes "[" ++ decimal n ++ codes "]") ++ rest ≡ name_at names s
    ++ (codes "[" ++ (decimal n ++ (codes "]" ++ rest))) = simp append_assoc in
    ap (expression_at names widths room) apart
    ∙ name_alone names widths table room s (codes "[" ++ (decimal n ++ (codes "]" ++ rest))) valid.0
    ∙ bit_reads names widths table s n rest valid.0 valid.1 valid.2
expression_reads names widths table (part s h l) room rest valid shallow stops =
    let apart : (name_at names s ++ codes "[" ++ decimal h ++ codes ":" ++ decimal l ++ codes "]") ++ rest
    ≡ name_at names s ++ (codes "[" ++ (decimal h ++ (codes ":" ++ (decimal l ++ (codes "]" ++ rest))))) =
    simp append_assoc in
    ap (expression_at names widths room) apart
    ∙ name_alone names widths table room s
    (codes "[" ++ (decimal h ++ (codes ":" ++ (decimal l ++ (codes "]" ++ rest))))) valid.0
    ∙ part_reads names widths table s h l rest valid.0 valid.1 valid.2 valid.3
expression_reads names widths table (plain n) room rest valid shallow stops =
    let small : n < 2 ^ 64 = omega (arith, valid) in
    number_alone names widths room n rest small ∙ plain_reads names widths n rest valid stops
expression_reads names widths table (sized w v) room rest valid shallow stops =
    let apart : (decimal w ++ codes "'d" ++ decimal v) ++ rest ≡ decimal w ++ (codes "'d" ++ (decimal v ++ rest)) =
    simp append_assoc in
    let small : w < 2 ^ 64 = omega (arith, valid.1) in
    ap (expression_at names widths room) apart
    ∙ number_alone names widths room w (codes "'d" ++ (decimal v ++ rest)) small
    ∙ sized_reads names widths w v rest valid.0 valid.1 valid.2 (fits_wide w v valid.1 valid.2) stops
expression_reads names widths table (unary op a) room rest valid shallow stops =
    let text = expression_text names a in
    let some : 0 < room = omega arith in
    let less : parentheses a ≤ room - 1 = omega arith in
    let apart : (codes "(" ++ unary_symbol op ++ text ++ codes ")") ++ rest ≡ codes "("
    ++ (unary_symbol op ++ (text ++ (codes ")" ++ rest))) = simp append_assoc in
    ap (expression_at names widths room) apart
    ∙ opened names widths room (unary_symbol op ++ (text ++ (codes ")" ++ rest))) some
    ∙ unary_reads (expression_at names widths (room - 1)) op a text rest
    (expression_reads names widths table a (room - 1) (codes ")" ++ rest) valid less (stops_parenthesis rest))
expression_reads names widths table (binary op a b) room rest valid shallow stops =
    let left = expression_text names a in
    let right = expression_text names b in
    let some : 0 < room = omega arith in
    let less : parentheses a ≤ room - 1 = omega arith in
    let fewer : parentheses b ≤ room - 1 = omega arith in
    let tail = infix_text op ++ (right ++ (codes ")" ++ rest)) in
    let apart : (codes "(" ++ left ++ infix_text op ++ right ++ codes ")") ++ rest ≡ codes "("
    ++ (left ++ (infix_text op ++ (right ++ (codes ")" ++ rest)))) = simp append_assoc in
    let begins = operand_begins names widths table a tail valid.1 in
    let blank = infix_begins op (right ++ (codes ")" ++ rest)) in
    ap (expression_at names widths room) apart
    ∙ opened names widths room (left ++ tail) some
    ∙ binary_reads (expression_at names widths (room - 1)) op a b left right rest
    (ap prefix_at begins.2 ∙ no_prefix begins.0 begins.1 begins.3)
    (expression_reads names widths table a (room - 1) tail valid.1 less
    (subst Stops (sym blank.1) (stops_blank blank.0)))
    (expression_reads names widths table b (room - 1) (codes ")" ++ rest) valid.2 fewer (stops_parenthesis rest))
    valid.0
expression_reads names widths table (choice t y n) room rest valid shallow stops =
    let test = expression_text names t in
    let first = expression_text names y in
    let second = expression_text names n in
    let some : 0 < room = omega arith in
    let less : parentheses t ≤ room - 1 = omega arith in
    let fewer : parentheses y ≤ room - 1 = omega arith in
    let fewest : parentheses n ≤ room - 1 = omega arith in
    let third = second ++ (codes ")" ++ rest) in
    let later = first ++ (codes " : " ++ third) in
    let apart : (codes "(" ++ test ++ codes " ? " ++ first ++ codes " : " ++ second ++ codes ")") ++ rest ≡ codes "("
    ++ (test ++ (codes " ? " ++ (first ++ (codes " : " ++ (second ++ (codes ")" ++ rest)))))) = simp append_assoc in
    let begins = operand_begins names widths table t (codes " ? " ++ later) valid.0 in
    ap (expression_at names widths room) apart
    ∙ opened names widths room (test ++ (codes " ? " ++ later)) some
    ∙ choice_reads (expression_at names widths (room - 1)) t y n test first second rest
    (ap prefix_at begins.2 ∙ no_prefix begins.0 begins.1 begins.3)
    (expression_reads names widths table t (room - 1) (codes " ? " ++ later) valid.0 less (stops_blank _))
    (expression_reads names widths table y (room - 1) (codes " : " ++ third) valid.1 fewer (stops_blank _))
    (expression_reads names widths table n (room - 1) (codes ")" ++ rest) valid.2 fewest (stops_parenthesis rest))
