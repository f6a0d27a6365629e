-- What is told of the tokens of a repetition.
use Rattle.std.proofs.Common.{◌≡◌, ℕ, suc, ◌+◌, ◌-◌, ◌<◌, ◌≤◌, Bool, true, false, Option}
use Rattle.std.proofs.Common.{refl, ap, subst, ◌∙◌, arith}
use Rattle.std.proofs.lemmas.Bool.{and_right}
use Rattle.std.specs.Prelude.{IsTrue}
use Rattle.psl_grammar.specs.declared.symbols.Symbol.{Symbol}
use Rattle.psl_grammar.specs.declared.symbols.Symbol.TheVariants as symbol
use Rattle.psl_grammar.specs.Symbols.{At, is_pick}
use Rattle.psl_grammar.specs.SereGrammar.{IsCounts, IsTimes, IsPick, single, range}
use Rattle.psl_grammar.specs.SereGrammar as s
use Rattle.psl_parser.specs.Marks.{looseness, loose, is_colon, ends_operand, is_next, is_number, is_open_bracket}
use Rattle.psl_parser.specs.Marks.{is_close_bracket, is_close_parenthesis, is_exclamation}
use Rattle.psl_parser.specs.OpenPhrases.{opened, closed, is_behind, ends_form, is_head, is_count, is_range}
use Rattle.unit_depth.proofs.Marks.{is_still, high_still}
use Rattle.unit_depth.proofs.Parts.{Part, IsTame, part_none, within_brackets}
use Rattle.unit_depth.proofs.Phrases.{spanned_none}
use Rattle.unit_depth.proofs.Keeping.{kept_none}
use Rattle.unit_depth.proofs.Tokens.{Setting, sy, still_behind, form_off, form_square, head_off, there}
use Rattle.unit_depth.proofs.Tokens.{count_off_0, count_off_1, range_off_0, range_off_2, range_off_3}
use Rattle.unit_depth.proofs.Told.{Told, told_join, told_still, told_inside, told_square, square_of, is_square}
use Rattle.unit_depth.proofs.Told.{loose_least_at}
use Rattle.unit_depth.proofs.Exprs.{square_behind, behind_next}

-- the brackets that begin a repetition
abbrev pub is_rep : Symbol → Bool
is_rep symbol.RepeatOpen = true
is_rep symbol.GotoOpen = true
is_rep symbol.EqualRepeatOpen = true
is_rep _ = false

pub record Rep (s : Symbol) : Type 0 where
  pub square : is_square s ≡ true
  pub next : is_next s ≡ false
  pub parenthesis : is_close_parenthesis s ≡ false
  pub bracket : is_close_bracket s ≡ false
  pub left : is_open_bracket s ≡ false
  pub number : is_number s ≡ false
  pub colon : is_colon s ≡ false
  pub loose : loose s ≡ 11
  pub exclamation : is_exclamation s ≡ false

pub rep_of : (s : Symbol) → is_rep s ≡ true → Rep s
rep_of symbol.RepeatOpen e = record {
  square = refl;
  next = refl;
  parenthesis = refl;
  bracket = refl;
  left = refl;
  number = refl;
  colon = refl;
  loose = refl;
  exclamation = refl;
}
rep_of symbol.GotoOpen e = record {
  square = refl;
  next = refl;
  parenthesis = refl;
  bracket = refl;
  left = refl;
  number = refl;
  colon = refl;
  loose = refl;
  exclamation = refl;
}
rep_of symbol.EqualRepeatOpen e = record {
  square = refl;
  next = refl;
  parenthesis = refl;
  bracket = refl;
  left = refl;
  number = refl;
  colon = refl;
  loose = refl;
  exclamation = refl;
}
rep_of _ e = cc

pub pick_rep : (s : Symbol) → IsTrue (is_pick s) → is_rep s ≡ true
pick_rep symbol.GotoOpen e = refl
pick_rep symbol.EqualRepeatOpen e = refl
pick_rep _ e = cc

module _ (x : Setting) where
  -- what a repetition is to the phrases around it, wherever it begins
  pub record TimesTold (i j : ℕ) : Type 0 where
    pub some : i < j
    pub behind : is_behind x.symbols j ≡ true
    pub told : (room t : ℕ) → IsTame x.symbols t i → (t ≤ 10 → ⊥) → Told x.symbols 1 room t i j
    pub round : (o n : ℕ) → o < i → opened x.symbols o i ≡ closed x.symbols o i → i < n → n < j
        → closed x.symbols o n < opened x.symbols o n

  rep_form : (i : ℕ) → Rep (sy x i) → ends_form x.symbols i ≡ false
  rep_form i r = form_off x i (head_off x i r.next r.parenthesis) r.bracket

  -- "[*" and the like, what stands in the brackets, and "]"
  rep_told : (i h j k : ℕ) → h ≡ suc i → k ≡ suc j → is_rep (sy x i) ≡ true
      → ((room : ℕ) → Told x.symbols 1 room 15 h j) → h ≤ j → At x.symbols j symbol.CloseBracket
      → ends_form x.symbols j ≡ false → TimesTold i k
  rep_told i h j k same same2 rep inside le shut unformed =
      let r = rep_of (sy x i) rep in
      record {
        some = omega arith;
        behind = square_behind x j k same2 shut unformed;
        told = λ room t tame big. told_square x room t i h j k same same2 (square_of (sy x i) r.square)
            (rep_form i r) tame (inside room) shut unformed;
        round = λ o n lt bare low high.
            let square = square_of (sy x i) r.square in
            let any = inside 0 in
            within_brackets x.symbols 15 0 0 i j square.opens square.closes
            (subst (λ (m : ℕ). Part x.symbols 15 0 0 m j) same any.part) o n lt bare low (omega arith);
      }

  -- where `]` stands behind the bracket
  empty_form : (i j : ℕ) → j ≡ suc i → 3 ≤ i → is_rep (sy x i) ≡ true → At x.symbols j symbol.CloseBracket
      → ends_form x.symbols j ≡ false
  empty_form i j same some rep shut =
      let r = rep_of (sy x i) rep in
      let e : j - 2 + 1 ≡ i = omega arith in
      let f : j - 4 + 3 ≡ i = omega arith in
      form_square x j shut
      (and_right (is_head x.symbols (j - 3)) (is_count x.symbols (j - 2))
      (count_off_1 x (j - 2) (ap (λ (m : ℕ). is_number (sy x m)) e ∙ r.number)))
      (and_right (is_head x.symbols (j - 5)) (is_range x.symbols (j - 4))
      (range_off_3 x (j - 4) (ap (λ (m : ℕ). is_number (sy x m)) f ∙ r.number)))

  single_form : (i j : ℕ) → j ≡ i + 2 → 2 ≤ i → is_rep (sy x i) ≡ true → At x.symbols j symbol.CloseBracket
      → ends_form x.symbols j ≡ false
  single_form i j same some rep shut =
      let r = rep_of (sy x i) rep in
      let e : j - 2 ≡ i = omega arith in
      let f : j - 4 + 2 ≡ i = omega arith in
      form_square x j shut
      (and_right (is_head x.symbols (j - 3)) (is_count x.symbols (j - 2))
      (count_off_0 x (j - 2) (ap (λ (m : ℕ). is_open_bracket (sy x m)) e ∙ r.left)))
      (and_right (is_head x.symbols (j - 5)) (is_range x.symbols (j - 4))
      (range_off_2 x (j - 4) (ap (λ (m : ℕ). is_colon (sy x m)) f ∙ r.colon)))

  range_form : (i j c : ℕ) → j ≡ i + 4 → c ≡ i + 2 → is_rep (sy x i) ≡ true → At x.symbols c symbol.Colon
      → At x.symbols j symbol.CloseBracket → ends_form x.symbols j ≡ false
  range_form i j c same same2 rep colon shut =
      let r = rep_of (sy x i) rep in
      let e : j - 2 ≡ c = omega arith in
      let f : j - 4 ≡ i = omega arith in
      form_square x j shut
      (and_right (is_head x.symbols (j - 3)) (is_count x.symbols (j - 2))
      (count_off_0 x (j - 2) (there x is_open_bracket c (j - 2) symbol.Colon false e colon refl)))
      (and_right (is_head x.symbols (j - 5)) (is_range x.symbols (j - 4))
      (range_off_0 x (j - 4) (ap (λ (m : ℕ). is_open_bracket (sy x m)) f ∙ r.left)))

  pub counts_told : (i h : ℕ) {high : Option ℕ} {j : ℕ} → h ≡ suc i → 3 ≤ i → is_rep (sy x i) ≡ true
      → IsCounts x.symbols high h j → TimesTold i j
  counts_told i h same le rep (single a b) =
      rep_told i h (h + 1) (h + 2) same (omega arith) rep
      (λ room. told_inside x room h (h + 1) (omega arith) (ap is_still a)) (omega arith) b
      (single_form i (h + 1) (omega arith) (omega arith) rep b)
  counts_told i h same le rep (range a b c d) =
      rep_told i h (h + 3) (h + 4) same (omega arith) rep
      (λ room. told_join x.symbols 1 room 15 h (h + 1) (h + 3)
      (told_inside x room h (h + 1) (omega arith) (ap is_still a))
      (told_join x.symbols 1 room 15 (h + 1) (h + 2) (h + 3)
      (told_inside x room (h + 1) (h + 2) (omega arith) (ap is_still b))
      (told_inside x room (h + 2) (h + 3) (omega arith) (high_still (sy x (h + 2)) c)))) (omega arith) d
      (range_form i (h + 3) (h + 1) (omega arith) (omega arith) rep b d)

  empty_told : (i h k : ℕ) → h ≡ suc i → k ≡ suc h → 3 ≤ i → is_rep (sy x i) ≡ true
      → At x.symbols h symbol.CloseBracket → TimesTold i k
  empty_told i h k same same2 some rep shut =
      rep_told i h h k same same2 rep (λ room. told_none room h) (omega arith) shut
      (empty_form i h same some rep shut)
    where
      told_none : (room n : ℕ) → Told x.symbols 1 room 15 n n
      told_none room n = record {
        kept = kept_none x.symbols 1 n;
        part = part_none x.symbols 15 0 n;
        spanned = spanned_none x.symbols room n;
      }

  pub times_told : {low high : Option ℕ} {i j : ℕ} → IsTimes x.symbols low high i j → 3 ≤ i → TimesTold i j
  times_told (s.any {i = i} a b) le = empty_told i (i + 1) (i + 2) (omega arith) (omega arith) le (ap is_rep a) b
  times_told (s.IsTimes.counted {i = i} a c) le = counts_told i (i + 1) (omega arith) le (ap is_rep a) c
  times_told (s.some {i = i} a) le = record {
    some = omega arith;
    behind = behind_next x i (i + 1) true (omega arith)
        (still_behind x i (ap is_still a) ∙ ap ends_operand a);
    told = λ room t tame big. told_still x room t i (i + 1) (omega arith) (ap is_still a)
        (λ small. ap is_colon a) tame;
    round = λ o n lt bare low high. absurd (omega arith);
  }

  pub pick_told : {low high : Option ℕ} {i j : ℕ} → IsPick x.symbols low high i j → 3 ≤ i → TimesTold i j
  pick_told (s.first {i = i} a b) le = empty_told i (i + 1) (i + 2) (omega arith) (omega arith) le (ap is_rep a) b
  pick_told (s.IsPick.counted {i = i} a c) le =
      counts_told i (i + 1) (omega arith) le (pick_rep (sy x i) a) c

  -- how loosely a repetition joins behind an operand
  pub times_far : {low high : Option ℕ} {i j : ℕ} → IsTimes x.symbols low high i j
      → (11 ≤ looseness x.symbols i) × (is_exclamation (sy x i) ≡ false)
  times_far (s.any {i = i} a b) =
      (loose_least_at x.symbols i 11 symbol.RepeatOpen a refl (omega arith), ap is_exclamation a)
  times_far (s.IsTimes.counted {i = i} a c) =
      (loose_least_at x.symbols i 11 symbol.RepeatOpen a refl (omega arith), ap is_exclamation a)
  times_far (s.some {i = i} a) =
      (loose_least_at x.symbols i 11 symbol.RepeatPlus a refl (omega arith), ap is_exclamation a)

  rep_far : (i : ℕ) → is_rep (sy x i) ≡ true → (11 ≤ looseness x.symbols i) × (is_exclamation (sy x i) ≡ false)
  rep_far i rep =
      let r = rep_of (sy x i) rep in
      (loose_least_at x.symbols i 11 (sy x i) refl r.loose (omega arith), r.exclamation)

  pub pick_far : {low high : Option ℕ} {i j : ℕ} → IsPick x.symbols low high i j
      → (11 ≤ looseness x.symbols i) × (is_exclamation (sy x i) ≡ false)
  pick_far (s.first {i = i} a b) = rep_far i (ap is_rep a)
  pick_far (s.IsPick.counted {i = i} a c) = rep_far i (pick_rep (sy x i) a)

  pub times_begin : {low high : Option ℕ} {i j : ℕ} → IsTimes x.symbols low high i j
      → is_open_bracket (sy x i) ≡ false
  times_begin (s.any a b) = ap is_open_bracket a
  times_begin (s.IsTimes.counted a c) = ap is_open_bracket a
  times_begin (s.some a) = ap is_open_bracket a
