-- What is read as an expression is its text.
use Rattle.std.proofs.Common.{◌≡◌, ℕ, zero, suc, ◌≤◌, Bool, List, ◌++◌, length, refl, ap, sym, ◌∙◌, arith, subst, Some}
use Rattle.std.proofs.Common.{None, append_assoc}
use Rattle.std.specs.Prelude.{◌&&◌, Option, codes}
use Rattle.psl_model.specs.declared.operators.UnOp.{UnOp}
use Rattle.psl_model.specs.declared.operators.BinOp.{BinOp}
use Rattle.psl_model.specs.Expr.{Expr, unary, binary, choice}
use Rattle.psl_model.specs.Valid.{IsValid, parentheses, is_bare, wants_width, choose_bare, bare_by_both, bare_by_left}
use Rattle.psl_model.specs.Valid.{is_flip}
use Rattle.verilog_text.specs.Text.{unary_symbol, infix_text, expression_text}
use Rattle.verilog_reader.specs.inner.Pieces.{after_text, prefix_at}
use Rattle.verilog_reader.specs.inner.Phrases.{Read, expression_at, atom_at, group_at, group_with, joined_at}
use Rattle.verilog_reader.specs.inner.Phrases.{joined_with, choice_with, binary_with, binary_end, unary_with, either}
use Rattle.verilog_reader.specs.inner.Spelled.{IsSpelled}
use Rattle.verilog_reader.proofs.Pieces.{bind_some, if_none_some, some_inj, after_text-only}
use Rattle.verilog_reader.proofs.Operators.{prefix_at-only, infix_at-only}
use Rattle.verilog_reader.proofs.AtomSpells.{atom_at-only}

abbrev Outcome : Type 0
Outcome = Expr × Bool × List ℕ

module _ (names : List (List ℕ)) (widths : List ℕ) where
  -- an operand's reader reads what is spelled
  abbrev Sound : (room : ℕ) → (List ℕ → Read) → Type 0
  Sound room operand = (bytes : List ℕ) (read : Outcome) → operand bytes ≡ Some read →
      IsSpelled names widths room bytes read

  unary_spells : (room : ℕ) (op : UnOp) (bytes : List ℕ) (a read : Outcome) → IsSpelled names widths room bytes a →
      unary_with op a ≡ Some read →
      IsSpelled names widths (suc room) (codes "(" ++ (unary_symbol op ++ bytes)) read
  unfolding unary_with
  unary_spells room op bytes a read operand e =
      let rest = bind_some {A = List ℕ} {B = Outcome} _ _ _ e in
      let is : (unary op a.0, is_flip op && a.1, rest.0) ≡ read = some_inj _ _ rest.2 in
      let text = expression_text names a.0 in
      let all : bytes ≡ text ++ (codes ")" ++ rest.0) =
      operand.text ∙ ap (λ t. text ++ t) (after_text-only (codes ")") a.2 rest.0 rest.1) in
      let apart : (codes "(" ++ unary_symbol op ++ text ++ codes ")") ++ rest.0 ≡ codes "("
      ++ (unary_symbol op ++ (text ++ (codes ")" ++ rest.0))) = simp append_assoc in
      let shallow : parentheses a.0 ≤ room = operand.shallow in
      subst (λ (r : Outcome). IsSpelled names widths (suc room) (codes "(" ++ (unary_symbol op ++ bytes)) r) is record {
        text = ap (λ t. codes "(" ++ (unary_symbol op ++ t)) all ∙ sym apart;
        valid = operand.valid;
        shallow = omega arith;
        bare = ap (λ b. is_flip op && b) operand.bare;
      }

  choice_spells : (room : ℕ) (operand : List ℕ → Read) → Sound room operand →
      (bytes inner : List ℕ) (t : Expr) (read : Outcome) →
      inner ≡ expression_text names t ++ (codes " ? " ++ bytes) → IsValid widths t → parentheses t ≤ room →
      choice_with operand t bytes ≡ Some read → IsSpelled names widths (suc room) (codes "(" ++ inner) read
  unfolding choice_with
  choice_spells room operand sound bytes inner t read test valid shallow e =
      let first = bind_some {A = Outcome} {B = Outcome} _ _ _ e in
      let middle = bind_some {A = List ℕ} {B = Outcome} _ _ _ first.2 in
      let second = bind_some {A = Outcome} {B = Outcome} _ _ _ middle.2 in
      let rest = bind_some {A = List ℕ} {B = Outcome} _ _ _ second.2 in
      let is : (choice t first.0.0 second.0.0, first.0.1 && second.0.1, rest.0) ≡ read = some_inj _ _ rest.2 in
      let one = sound bytes first.0 first.1 in
      let two = sound middle.0 second.0 second.1 in
      let x = expression_text names t in
      let y = expression_text names first.0.0 in
      let z = expression_text names second.0.0 in
      let end : second.0.2 ≡ codes ")" ++ rest.0 = after_text-only (codes ")") second.0.2 rest.0 rest.1 in
      let colon : first.0.2 ≡ codes " : " ++ middle.0 = after_text-only (codes " : ") first.0.2 middle.0 middle.1 in
      let third : middle.0 ≡ z ++ (codes ")" ++ rest.0) = two.text ∙ ap (λ s. z ++ s) end in
      let later : bytes ≡ y ++ (codes " : " ++ (z ++ (codes ")" ++ rest.0))) =
      one.text ∙ ap (λ s. y ++ s) (colon ∙ ap (λ s. codes " : " ++ s) third) in
      let all : inner ≡ x ++ (codes " ? " ++ (y ++ (codes " : " ++ (z ++ (codes ")" ++ rest.0))))) =
      test ∙ ap (λ s. x ++ (codes " ? " ++ s)) later in
      let apart : (codes "(" ++ x ++ codes " ? " ++ y ++ codes " : " ++ z ++ codes ")") ++ rest.0 ≡ codes "("
      ++ (x ++ (codes " ? " ++ (y ++ (codes " : " ++ (z ++ (codes ")" ++ rest.0)))))) = simp append_assoc in
      let second_shallow : parentheses first.0.0 ≤ room = one.shallow in
      let third_shallow : parentheses second.0.0 ≤ room = two.shallow in
      subst (λ (r : Outcome). IsSpelled names widths (suc room) (codes "(" ++ inner) r) is record {
        text = ap (λ s. codes "(" ++ s) all ∙ sym apart;
        valid = (valid, one.valid, two.valid);
        shallow = omega arith;
        bare = ap (λ b. b && second.0.1) one.bare ∙ ap (λ b. is_bare first.0.0 && b) two.bare;
      }

  binary_spells : (room : ℕ) (operand : List ℕ → Read) → Sound room operand →
      (bytes inner : List ℕ) (a : Expr) (read : Outcome) →
      inner ≡ expression_text names a ++ bytes → IsValid widths a → parentheses a ≤ room →
      binary_with operand a (is_bare a) bytes ≡ Some read → IsSpelled names widths (suc room) (codes "(" ++ inner) read
  unfolding binary_with binary_end
  binary_spells room operand sound bytes inner a read left valid shallow e =
      let op = bind_some {A = BinOp × List ℕ} {B = Outcome} _ _ _ e in
      let right = bind_some {A = Outcome} {B = Outcome} _ _ _ op.2 in
      let rest = bind_some {A = List ℕ} {B = Outcome} _ _ _ right.2 in
      let o = op.0.0 in
      let b = right.0.0 in
      let tested =
      if_none_some (wants_width o && (is_bare a && right.0.1))
      (binary o a b, choose_bare (bare_by_both o) (bare_by_left o) (is_bare a) right.0.1, rest.0) read rest.2 in
      let two = sound op.0.1 right.0 right.1 in
      let x = expression_text names a in
      let y = expression_text names b in
      let end : right.0.2 ≡ codes ")" ++ rest.0 = after_text-only (codes ")") right.0.2 rest.0 rest.1 in
      let sign : bytes ≡ infix_text o ++ op.0.1 = infix_at-only bytes op.0 op.1 in
      let later : op.0.1 ≡ y ++ (codes ")" ++ rest.0) = two.text ∙ ap (λ s. y ++ s) end in
      let all : inner ≡ x ++ (infix_text o ++ (y ++ (codes ")" ++ rest.0))) =
      left ∙ ap (λ s. x ++ s) (sign ∙ ap (λ s. infix_text o ++ s) later) in
      let apart : (codes "(" ++ x ++ infix_text o ++ y ++ codes ")") ++ rest.0 ≡ codes "("
      ++ (x ++ (infix_text o ++ (y ++ (codes ")" ++ rest.0)))) = simp append_assoc in
      let second_shallow : parentheses b ≤ room = two.shallow in
      subst (λ (r : Outcome). IsSpelled names widths (suc room) (codes "(" ++ inner) r) tested.1 record {
        text = ap (λ s. codes "(" ++ s) all ∙ sym apart;
        valid = (ap (λ c. wants_width o && (is_bare a && c)) (sym two.bare) ∙ tested.0, valid, two.valid);
        shallow = omega arith;
        bare = ap (λ c. choose_bare (bare_by_both o) (bare_by_left o) (is_bare a) c) two.bare;
      }

  joined_spells : (room : ℕ) (operand : List ℕ → Read) → Sound room operand → (inner : List ℕ) (read : Outcome) →
      joined_at operand inner ≡ Some read → IsSpelled names widths (suc room) (codes "(" ++ inner) read
  unfolding joined_at
  joined_spells room operand sound inner read e =
      let a = bind_some {A = Outcome} {B = Outcome} _ _ _ e in
      by_mark a.0 (sound inner a.0 a.1) (after_text (codes " ? ") a.0.2) refl a.2
    where
      by_mark : (a : Outcome) → IsSpelled names widths room inner a → (o : Option (List ℕ)) →
          after_text (codes " ? ") a.2 ≡ o →
          joined_with operand a o ≡ Some read → IsSpelled names widths (suc room) (codes "(" ++ inner) read
      by_mark a one (Some more) some e =
          choice_spells room operand sound more inner a.0 read
          (one.text ∙ ap (λ s. expression_text names a.0 ++ s) (after_text-only (codes " ? ") a.2 more some))
          one.valid one.shallow e
      by_mark a one None none e =
          binary_spells room operand sound a.2 inner a.0 read one.text one.valid one.shallow
          (ap (λ b. binary_with operand a.0 b a.2) (sym one.bare) ∙ e)

  group_spells : (room : ℕ) (operand : List ℕ → Read) → Sound room operand → (inner : List ℕ) (read : Outcome) →
      group_at operand inner ≡ Some read → IsSpelled names widths (suc room) (codes "(" ++ inner) read
  unfolding group_at
  group_spells room operand sound inner read e = by_prefix (prefix_at inner) refl e where
    by_prefix : (o : Option (UnOp × List ℕ)) → prefix_at inner ≡ o → group_with operand inner o ≡ Some read →
        IsSpelled names widths (suc room) (codes "(" ++ inner) read
    by_prefix None none e = joined_spells room operand sound inner read e
    by_prefix (Some op) some e =
        let a = bind_some (operand op.1) (unary_with op.0) read e in
        let spelled = unary_spells room op.0 op.1 a.0 read (sound op.1 a.0 a.1) a.2 in
        subst (λ (t : List ℕ). IsSpelled names widths (suc room) (codes "(" ++ t) read)
        (sym (prefix_at-only inner op some)) spelled

  deeper : (bytes : List ℕ) (read : Outcome) (room : ℕ) → IsSpelled names widths 0 bytes read →
      IsSpelled names widths room bytes read
  deeper bytes read room spelled =
      let none : parentheses read.0 ≤ 0 = spelled.shallow in
      record { text = spelled.text; valid = spelled.valid; shallow = omega arith; bare = spelled.bare }

  pub expression_spells : length names ≡ length widths → (room : ℕ) (bytes : List ℕ) (read : Outcome) →
      expression_at names widths room bytes ≡ Some read → IsSpelled names widths room bytes read
  unfolding expression_at
  expression_spells lengths zero bytes read e = atom_at-only names widths lengths bytes read e
  expression_spells lengths (suc room) bytes read e =
      by_paren (after_text (codes "(") bytes) refl e (expression_spells lengths room)
    where
      by_paren : (o : Option (List ℕ)) → after_text (codes "(") bytes ≡ o →
          either o (group_at (expression_at names widths room)) (atom_at names widths bytes) ≡ Some read →
          Sound room (expression_at names widths room) → IsSpelled names widths (suc room) bytes read
      by_paren None none e sound = deeper bytes read (suc room) (atom_at-only names widths lengths bytes read e)
      by_paren (Some inner) some e sound =
          subst (λ (t : List ℕ). IsSpelled names widths (suc room) t read)
          (sym (after_text-only (codes "(") bytes inner some))
          (group_spells room (expression_at names widths room) sound inner read e)
