-- What is told of the tokens of an expression.
use Rattle.std.proofs.Common.{◌≡◌, ℕ, zero, suc, ◌+◌, ◌-◌, ◌<◌, ◌≤◌, inl, inr, Bool, true, false, cond, Some}
use Rattle.std.proofs.Common.{None, refl, sym, ap, subst, ◌∙◌, arith}
use Rattle.std.proofs.lemmas.Bool.{and_left, and_right, both_ways}
use Rattle.std.specs.Prelude.{IsTrue}
use Rattle.psl_grammar.specs.declared.symbols.Symbol.{Symbol}
use Rattle.psl_grammar.specs.declared.symbols.Symbol.TheVariants as symbol
use Rattle.psl_grammar.specs.RawExpr.{RawExpr, name, literal, unary, binary, choice}
use Rattle.psl_grammar.specs.Symbols.{At, joins_sequences, may_join, begins_sequence, after_level, is_prefix}
use Rattle.psl_grammar.specs.ExprGrammar.{IsExpr, whole, bit, part, literally, parens, prefixed, joined, chosen, looser}
use Rattle.psl_parser.specs.Marks.{closes_bracket, looseness, loose, is_colon, is_question, ends_operand}
use Rattle.psl_parser.specs.Marks.{is_next, is_event, is_number, is_open_bracket, is_close_bracket}
use Rattle.psl_parser.specs.Marks.{is_close_parenthesis}
use Rattle.psl_parser.specs.OpenPhrases.{is_behind, ends_form, is_head, is_count, is_range}
use Rattle.unit_depth.proofs.Counting.{one}
use Rattle.unit_depth.proofs.Marks.{still_of, is_still, Word, Operator}
use Rattle.unit_depth.proofs.Marks.{prefix_word, prefix_question, question_word, expr_operator, expr_level}
use Rattle.unit_depth.proofs.Marks.{literal_still, literal_apart, prefix_apart, loose_least}
use Rattle.unit_depth.proofs.Parts.{Part, part_join, part_loosen, part_token, part_shift}
use Rattle.unit_depth.proofs.Phrases.{Spanned, Over, Fits, spanned_join, spanned_token, spanned_phrase, phrase_ends}
use Rattle.unit_depth.proofs.Phrases.{fits_part, fits_after}
use Rattle.unit_depth.proofs.Tokens.{Setting, sy, Fresh, fresh, behind_at, behind_unformed, still_reach}
use Rattle.unit_depth.proofs.Tokens.{still_behind, form_quiet, form_off, form_square, form_round, head_off, there}
use Rattle.unit_depth.proofs.Tokens.{count_off_0, range_off_1, behind_any, reach_any}
use Rattle.unit_depth.proofs.Keeping.{Kept, kept_join, kept_token}
use Rattle.unit_depth.proofs.Told as t
use Rattle.unit_depth.proofs.Told.{Told, told_join, told_still, told_inside, told_operator, told_square, told_round}
use Rattle.unit_depth.proofs.Told.{told_word, word_reach, loose_at, loose_least_at, not_behind, tame_by, square_of}

-- how loosely the bare tokens of an expression join
abbrev pub bound : (level : ℕ) → ℕ
bound zero = 0
bound (suc k) = 10

pub bound_small : (k : ℕ) → bound k ≤ 10
bound_small zero = omega arith
bound_small (suc k) = omega arith

module _ (x : Setting) where
  pub record ExprTold (room level : ℕ) (e : RawExpr) (i j : ℕ) : Type 0 where
    pub some : i < j
    pub behind : is_behind x.symbols j ≡ true
    pub told : Told x.symbols 1 room (bound level) i j
    pub fits : (more : ℕ) → Fits x.symbols more i j → IsExpr x.symbols more level e i j

  pub begins_apart : {room k : ℕ} {e : RawExpr} {i j : ℕ} → IsExpr x.symbols room k e i j
      → begins_sequence (sy x i) ≡ false
  begins_apart (whole h) = ap begins_sequence h
  begins_apart (bit h h2 h3 h4) = ap begins_sequence h
  begins_apart (part h h2 h3 h4 h5 h6) = ap begins_sequence h
  begins_apart {i = i} (literally h) = literal_apart (sy x i) h
  begins_apart (parens h p q) = ap begins_sequence h
  begins_apart {i = i} (prefixed h p) = prefix_apart (sy x i) h
  begins_apart (joined lt l o r) = begins_apart l
  begins_apart (chosen p o v w u) = begins_apart p
  begins_apart (looser p) = begins_apart p

  pub behind_next : (n k : ℕ) (b : Bool) → k ≡ suc n → is_behind x.symbols (suc n) ≡ b → is_behind x.symbols k ≡ b
  behind_next n k b same e = ap (λ (m : ℕ). is_behind x.symbols m) same ∙ e

  -- ---- operands of one token, and selects

  single_told : (room i : ℕ) (e : RawExpr) → is_still (sy x i) ≡ true → ends_operand (sy x i) ≡ true
      → is_colon (sy x i) ≡ false → Fresh x i → ((more : ℕ) → IsExpr x.symbols more 0 e i (i + 1))
      → ExprTold room 0 e i (i + 1)
  single_told room i e still ends colon start make = record {
    some = omega arith;
    behind = behind_next i (i + 1) true (omega arith) (still_behind x i still ∙ ends);
    told = told_still x room 0 i (i + 1) (omega arith) still (λ le. colon) (not_behind x.symbols 0 i start.behind);
    fits = λ more f. make more;
  }

  select_told : (room i j k : ℕ) → Fresh x i → At x.symbols i symbol.Name → At x.symbols (i + 1) symbol.OpenBracket
      → Told x.symbols 1 room 15 (i + 2) j → At x.symbols j symbol.CloseBracket → ends_form x.symbols j ≡ false
      → k ≡ suc j → Told x.symbols 1 room 0 i k
  select_told room i j k start at opener inside shut unformed same =
      told_join x.symbols 1 room 0 i (i + 1) k
      (told_still x room 0 i (i + 1) (omega arith) (ap is_still at) (λ le. ap is_colon at)
      (not_behind x.symbols 0 i start.behind))
      (told_square x room 0 (i + 1) (i + 2) j k (omega arith) same (square_of (sy x (i + 1)) (ap t.is_square opener))
      (form_off x (i + 1) (head_off x (i + 1) (ap is_next opener) (ap is_close_parenthesis opener))
      (ap is_close_bracket opener))
      (tame_by x.symbols 0 (i + 1) (let e = loose_at x.symbols (i + 1) symbol.OpenBracket opener refl in omega arith))
      inside shut unformed)

  name_head : (i : ℕ) → At x.symbols i symbol.Name → is_head x.symbols i ≡ false
  name_head i at = head_off x i (ap is_next at) (ap is_close_parenthesis at)

  bit_unformed : (i : ℕ) → x.brace < i → At x.symbols i symbol.Name → At x.symbols (i + 3) symbol.CloseBracket
      → ends_form x.symbols (i + 3) ≡ false
  bit_unformed i lt at shut =
      let e : i + 3 - 3 ≡ i = omega arith in
      let f : i + 3 - 4 + 1 ≡ i = omega arith in
      form_square x (i + 3) shut
      (and_left (is_head x.symbols (i + 3 - 3)) (is_count x.symbols (i + 3 - 2))
      (ap (λ (m : ℕ). is_head x.symbols m) e ∙ name_head i at))
      (and_right (is_head x.symbols (i + 3 - 5)) (is_range x.symbols (i + 3 - 4))
      (range_off_1 x (i + 3 - 4) (there x is_number i (i + 3 - 4 + 1) symbol.Name false f at refl)))

  pub part_unformed : (i : ℕ) → is_head x.symbols i ≡ false → At x.symbols (i + 3) symbol.Colon
      → At x.symbols (i + 5) symbol.CloseBracket → ends_form x.symbols (i + 5) ≡ false
  part_unformed i head colon shut =
      let e : i + 5 - 5 ≡ i = omega arith in
      let f : i + 5 - 2 ≡ i + 3 = omega arith in
      form_square x (i + 5) shut
      (and_right (is_head x.symbols (i + 5 - 3)) (is_count x.symbols (i + 5 - 2))
      (count_off_0 x (i + 5 - 2) (there x is_open_bracket (i + 3) (i + 5 - 2) symbol.Colon false f colon refl)))
      (and_left (is_head x.symbols (i + 5 - 5)) (is_range x.symbols (i + 5 - 4))
      (ap (λ (m : ℕ). is_head x.symbols m) e ∙ head))

  pub square_behind : (j k : ℕ) → k ≡ suc j → At x.symbols j symbol.CloseBracket → ends_form x.symbols j ≡ false
      → is_behind x.symbols k ≡ true
  square_behind j k same shut unformed =
      behind_next j k true same (behind_at x j symbol.CloseBracket shut unformed)

  bit_told : (room i : ℕ) → Fresh x i → At x.symbols i symbol.Name → At x.symbols (i + 1) symbol.OpenBracket
      → At x.symbols (i + 2) symbol.Number → At x.symbols (i + 3) symbol.CloseBracket
      → ExprTold room 0 (name i (Some (i + 2, None))) i (i + 4)
  bit_told room i start at opener number shut =
      let unformed = bit_unformed i start.inside at shut in
      record {
        some = omega arith;
        behind = square_behind (i + 3) (i + 4) (omega arith) shut unformed;
        told = select_told room i (i + 3) (i + 4) start at opener
            (told_inside x room (i + 2) (i + 3) (omega arith) (ap is_still number)) shut unformed (omega arith);
        fits = λ more f. bit at opener number shut;
      }

  part_told : (room i : ℕ) → Fresh x i → At x.symbols i symbol.Name → At x.symbols (i + 1) symbol.OpenBracket
      → At x.symbols (i + 2) symbol.Number → At x.symbols (i + 3) symbol.Colon → At x.symbols (i + 4) symbol.Number
      → At x.symbols (i + 5) symbol.CloseBracket → ExprTold room 0 (name i (Some (i + 2, Some (i + 4)))) i (i + 6)
  part_told room i start at opener high colon low shut =
      let unformed = part_unformed i (name_head i at) colon shut in
      record {
        some = omega arith;
        behind = square_behind (i + 5) (i + 6) (omega arith) shut unformed;
        told = select_told room i (i + 5) (i + 6) start at opener
            (told_join x.symbols 1 room 15 (i + 2) (i + 3) (i + 5)
            (told_inside x room (i + 2) (i + 3) (omega arith) (ap is_still high))
            (told_join x.symbols 1 room 15 (i + 3) (i + 4) (i + 5)
            (told_inside x room (i + 3) (i + 4) (omega arith) (ap is_still colon))
            (told_inside x room (i + 4) (i + 5) (omega arith) (ap is_still low)))) shut unformed (omega arith);
        fits = λ more f. part at opener high colon low shut;
      }

  -- ---- parentheses and prefixes

  pub fresh_open : (i k : ℕ) → k ≡ suc i → x.brace ≤ i → At x.symbols i symbol.OpenParenthesis → Fresh x k
  fresh_open i k same le at =
      fresh x i k same (behind_any x i symbol.OpenParenthesis at) (ap is_event at) le

  pub fresh_word : (i r : ℕ) → x.brace ≤ i → Word (sy x i) (is_behind x.symbols i) r → Fresh x (i + 1)
  fresh_word i r le w =
      fresh x i (i + 1) (omega arith) (behind_unformed x i (form_quiet x i w.quiet) ∙ w.after) w.event le

  pub from_next : (room u i k j : ℕ) → k ≡ suc i → Told x.symbols 1 room u k j → Part x.symbols u 0 0 (suc i) j
  from_next room u i k j same p = subst (λ (m : ℕ). Part x.symbols u 0 0 m j) same p.part

  pub round_unformed : (room u i j : ℕ) → Fresh x i → At x.symbols i symbol.OpenParenthesis
      → Told x.symbols 1 room u (i + 1) j → At x.symbols j symbol.CloseParenthesis → ends_form x.symbols j ≡ false
  round_unformed room u i j start at p shut =
      form_round x u 0 0 i j at start.event (from_next room u i (i + 1) j (omega arith) p) shut

  paren_told : (room i j : ℕ) (e : RawExpr) → Fresh x i → At x.symbols i symbol.OpenParenthesis
      → At x.symbols j symbol.CloseParenthesis → ExprTold room 10 e (i + 1) j → ExprTold (suc room) 0 e i (j + 1)
  paren_told room i j e start at shut r =
      let unformed = round_unformed room 10 i j start at r.told shut in
      record {
        some = let lt = r.some in omega arith;
        behind = behind_next j (j + 1) true (omega arith) (behind_at x j symbol.CloseParenthesis shut unformed);
        told = told_round x room 0 10 i (i + 1) j (j + 1) (omega arith) (omega arith) at start.behind r.told r.behind
            shut unformed;
        fits = λ more f.
            let y =
            fits_after x.symbols more 15 0 0 i (i + 1) j (j + 1) (omega arith) (omega arith) r.some (omega arith)
            (reach_any x i symbol.OpenParenthesis at)
            (part_loosen x.symbols 10 15 0 0 (i + 1) j (omega arith) r.told.part) f in
            subst (λ (m : ℕ). IsExpr x.symbols m 0 e i (j + 1)) (sym y.1) (parens at (r.fits y.0 y.2) shut);
      }

  pub prefix_here : (i : ℕ) → Fresh x i → IsTrue (is_prefix (sy x i)) → Word (sy x i) (is_behind x.symbols i) 0
  prefix_here i start h =
      subst (λ (b : Bool). Word (sy x i) b 0) (sym start.behind) (prefix_word (sy x i) h)

  prefix_told : (room i j : ℕ) (e : RawExpr) → Fresh x i → IsTrue (is_prefix (sy x i)) → Over x.symbols 0 j
      → ExprTold room 0 e (i + 1) j → ExprTold (suc room) 0 (unary i e) i j
  prefix_told room i j e start h over r =
      let w = prefix_here i start h in
      record {
        some = let lt = r.some in omega arith;
        behind = r.behind;
        told = told_word x room 0 0 0 i (i + 1) j (omega arith) w (prefix_question (sy x i) h)
            (not_behind x.symbols 0 i start.behind) r.told (omega arith) r.behind over
            (λ e. absurd (omega (arith, e))) r.some;
        fits = λ more f.
            let y =
            fits_after x.symbols more 0 0 0 i (i + 1) j j (omega arith) (omega arith) r.some (omega arith)
            (word_reach x i 0 w) r.told.part f in
            subst (λ (m : ℕ). IsExpr x.symbols m 0 (unary i e) i j) (sym y.1) (prefixed h (r.fits y.0 y.2));
      }

  -- ---- operators

  operator_over : (m k : ℕ) → after_level (sy x m) ≡ suc k → k < 9 → Over x.symbols 0 m
  operator_over m k o lt =
      let e = (expr_level (sy x m) k o lt).2 in
      let le : suc k ≤ looseness x.symbols m =
      loose_least (joins_sequences x.symbols m) (sy x m) (suc k) e (omega arith) in
      inr (omega arith)

  operator_tame : (m k : ℕ) → after_level (sy x m) ≡ suc k → k < 9 → begins_sequence (sy x (m + 1)) ≡ false
      → looseness x.symbols m ≤ 10
  operator_tame m k o lt apart =
      let e = (expr_level (sy x m) k o lt).2 in
      let f : looseness x.symbols m ≡ loose (sy x m) =
      ap (λ (b : Bool). cond b 11 (loose (sy x m)))
      (and_right (may_join (sy x m)) (begins_sequence (sy x (m + 1))) apart) in
      omega arith

  pub fresh_operator : (m : ℕ) → x.brace ≤ m → Operator (sy x m) → Fresh x (m + 1)
  fresh_operator m le o =
      fresh x m (m + 1) (omega arith)
      (behind_unformed x m (form_quiet x m o.quiet) ∙ o.after (is_behind x.symbols m)) o.event le

  joined_told : (room k i m j : ℕ) (l r : RawExpr) → k < 9 → after_level (sy x m) ≡ suc k
      → begins_sequence (sy x (m + 1)) ≡ false → ExprTold room (suc k) l i m → ExprTold room k r (m + 1) j
      → ExprTold room (suc k) (binary m l r) i j
  joined_told room k i m j l r lt o apart a b =
      let some = a.some in
      let some2 = b.some in
      let v = expr_level (sy x m) k o lt in
      record {
        some = omega arith;
        behind = b.behind;
        told = told_join x.symbols 1 room 10 i m j a.told
            (told_join x.symbols 1 room 10 m (m + 1) j
            (told_operator x room 10 m (m + 1) (omega arith) (expr_operator (sy x m) k o lt) v.0 (λ le. v.1) a.behind
            (operator_tame m k o lt apart))
            (t.looser x.symbols room (bound k) 10 (m + 1) j (bound_small k) b.told));
        fits = λ more f.
            joined lt (a.fits more (fits_part x.symbols more i i m j (omega arith) (omega arith) f)) o
            (b.fits more (fits_part x.symbols more i (m + 1) j j (omega arith) (omega arith) f));
      }

  -- ---- choices

  record Branches (room q c j : ℕ) : Type 0 where
    kept : Kept x.symbols 1 (q + 1) j
    inner : Part x.symbols 10 1 0 (q + 1) j
    spanned : Spanned x.symbols room (q + 1) j

  branches : (room q c j : ℕ) (y n : RawExpr) → At x.symbols c symbol.Colon → ExprTold room 10 y (q + 1) c
      → ExprTold room 10 n (c + 1) j → Branches room q c j
  branches room q c j y n colon a b =
      let still = still_of (sy x c) (ap is_still colon) in
      let next : suc c ≡ c + 1 = omega arith in
      let le = a.some in
      let le2 = b.some in
      record {
        kept = kept_join x.symbols 1 (q + 1) c j a.told.kept
            (kept_join x.symbols 1 c (c + 1) j
            (subst (λ (m : ℕ). Kept x.symbols 1 c m) next (kept_token x.symbols c still.level)) b.told.kept);
        inner = part_join x.symbols 10 1 1 0 (q + 1) c j (part_shift x.symbols 10 1 (q + 1) c a.told.part)
            (part_join x.symbols 10 1 0 0 c (c + 1) j
            (subst (λ (m : ℕ). Part x.symbols 10 1 0 c m) next
            (part_token x.symbols 10 1 0 c still.quiet.opens still.quiet.closes
            (λ behind not_so. absurd (both_ways (is_colon (sy x c)) (not_so refl) (ap is_colon colon)))
            (λ small. let u : one (is_question (sy x c)) ≡ one false = ap one still.question in
            let v : one (is_colon (sy x c)) ≡ one true = ap one (ap is_colon colon) in omega arith)
            (λ small is_so. omega arith)))
            b.told.part);
        spanned = spanned_join x.symbols room (q + 1) c j (omega arith) (omega arith) a.told.spanned
            (spanned_join x.symbols room c (c + 1) j (omega arith) (omega arith)
            (subst (λ (m : ℕ). Spanned x.symbols room c m) next
            (spanned_token x.symbols room c (still_reach x c (ap is_still colon)))) b.told.spanned);
      }

  question_here : (q : ℕ) → At x.symbols q symbol.Question → Word (sy x q) (is_behind x.symbols q) 10
  question_here q at =
      subst (λ (s : Symbol). Word s (is_behind x.symbols q) 10) (sym at) (question_word (is_behind x.symbols q))

  chosen_told : (room i q c j : ℕ) (t y n : RawExpr) → At x.symbols q symbol.Question → At x.symbols c symbol.Colon
      → Over x.symbols 10 j → ExprTold (suc room) 9 t i q → ExprTold room 10 y (q + 1) c
      → ExprTold room 10 n (c + 1) j → ExprTold (suc room) 10 (choice q t y n) i j
  chosen_told room i q c j t y n at colon over a b d =
      let w = question_here q at in
      let both = branches room q c j y n colon b d in
      let next : suc q ≡ q + 1 = omega arith in
      let back : q + 1 ≡ suc q = omega arith in
      let le = a.some in
      let le2 = b.some in
      let le3 = d.some in
      let inside = subst (λ (m : ℕ). Part x.symbols 10 1 0 m j) back both.inner in
      record {
        some = omega arith;
        behind = d.behind;
        told = record {
          kept = kept_join x.symbols 1 i q j a.told.kept
              (kept_join x.symbols 1 q (q + 1) j
              (subst (λ (m : ℕ). Kept x.symbols 1 q m) next (kept_token x.symbols q w.level)) both.kept);
          part = part_join x.symbols 10 0 0 0 i q j a.told.part
              (part_join x.symbols 10 0 1 0 q (q + 1) j
              (subst (λ (m : ℕ). Part x.symbols 10 0 1 q m) next
              (part_token x.symbols 10 0 1 q w.quiet.opens w.quiet.closes
              (tame_by x.symbols 10 q (let e = loose_at x.symbols q symbol.Question at refl in omega arith))
              (λ small. let u : one (is_question (sy x q)) ≡ one true = ap one (ap is_question at) in
              let v : one (is_colon (sy x q)) ≡ one false = ap one w.colon in omega arith)
              (λ small is_so. absurd (both_ways (is_colon (sy x q)) w.colon is_so))))
              both.inner);
          spanned = spanned_join x.symbols (suc room) i q j (omega arith) (omega arith) a.told.spanned
              (spanned_phrase x.symbols room 10 q j (omega arith) (word_reach x q 10 w)
              (phrase_ends x.symbols 10 10 1 0 q j inside d.behind over (λ e. (omega arith, omega arith)))
              (subst (λ (m : ℕ). Spanned x.symbols room m j) back both.spanned));
        };
        fits = λ more f.
            let z =
            fits_after x.symbols more 10 1 0 q (q + 1) j j (omega arith) (omega arith) (omega arith) (omega arith)
            (word_reach x q 10 w) both.inner (fits_part x.symbols more i q j j (omega arith) (omega arith) f) in
            let test = a.fits more (fits_part x.symbols more i i q j (omega arith) (omega arith) f) in
            subst (λ (m : ℕ). IsExpr x.symbols m 10 (choice q t y n) i j) (sym z.1)
            (chosen (subst (λ (m : ℕ). IsExpr x.symbols m 9 t i q) z.1 test) at
            (b.fits z.0 (fits_part x.symbols z.0 (q + 1) (q + 1) c j (omega arith) (omega arith) z.2)) colon
            (d.fits z.0 (fits_part x.symbols z.0 (q + 1) (c + 1) j j (omega arith) (omega arith) z.2)));
      }

  -- ---- all expressions

  looser_told : (room k i j : ℕ) (e : RawExpr) → ExprTold room k e i j → ExprTold room (suc k) e i j
  looser_told room k i j e r = record {
    some = r.some;
    behind = r.behind;
    told = t.looser x.symbols room (bound k) 10 i j (bound_small k) r.told;
    fits = λ more f. looser (r.fits more f);
  }

  over_colon : (c r : ℕ) → r ≤ 10 → At x.symbols c symbol.Colon → Over x.symbols r c
  over_colon c r le at =
      let far : 11 ≤ looseness x.symbols c = loose_least_at x.symbols c 11 symbol.Colon at refl (omega arith) in
      inr (omega arith)

  over_question : (q : ℕ) → At x.symbols q symbol.Question → Over x.symbols 0 q
  over_question q at =
      let far : 10 ≤ looseness x.symbols q = loose_least_at x.symbols q 10 symbol.Question at refl (omega arith) in
      inr (omega arith)

  pub still_fresh : (n : ℕ) → x.brace ≤ n → is_still (sy x n) ≡ true → ends_operand (sy x n) ≡ false
      → is_event (sy x n) ≡ false → Fresh x (n + 1)
  still_fresh n le still ends event =
      fresh x n (n + 1) (omega arith) (still_behind x n still ∙ ends) event le

  pub expr_told : {room level : ℕ} {e : RawExpr} {i j : ℕ} → IsExpr x.symbols room level e i j → Fresh x i
      → Over x.symbols 0 j → (10 ≤ level → Over x.symbols 10 j) → ExprTold room level e i j
  expr_told (whole {room = room} {i = i} at) start over far =
      single_told room i (name i None) (ap is_still at) (ap ends_operand at) (ap is_colon at) start
      (λ more. whole at)
  expr_told (bit {room = room} {i = i} a b c d) start over far = bit_told room i start a b c d
  expr_told (part {room = room} {i = i} a b c d e f) start over far = part_told room i start a b c d e f
  expr_told (literally {room = room} {i = i} h) start over far =
      let s = literal_still (sy x i) h in
      single_told room i (literal i) s.0 s.1 s.2 start (λ more. literally h)
  expr_told (parens {room = room} {e = e} {i = i} {j = j} a p c) start over far =
      paren_told room i j e start a c
      (expr_told p (fresh_open i (i + 1) (omega arith) (let lt = start.inside in omega arith) a)
      (inl (ap closes_bracket c)) (λ le. inl (ap closes_bracket c)))
  expr_told (prefixed {room = room} {e = e} {i = i} {j = j} h p) start over far =
      prefix_told room i j e start h over
      (expr_told p (fresh_word i 0 (let lt = start.inside in omega arith) (prefix_here i start h)) over
      (λ le. absurd (omega arith)))
  expr_told (joined {room = room} {k = k} {l = l} {r = r} {i = i} {m = m} {j = j} lt p o q) start over far =
      let a = expr_told p start (operator_over m k o lt) (λ le. absurd (omega arith)) in
      let le : x.brace ≤ m = let some = a.some in let inside = start.inside in omega arith in
      joined_told room k i m j l r lt o (begins_apart q) a
      (expr_told q (fresh_operator m le (expr_operator (sy x m) k o lt)) over (λ le. absurd (omega arith)))
  expr_told (chosen {room = room} {t = t} {y = y} {n = n} {i = i} {q = q} {c = c} {j = j} p a v s w) start over far =
      let first = expr_told p start (over_question q a) (λ le. absurd (omega arith)) in
      let le : x.brace ≤ q = let some = first.some in let inside = start.inside in omega arith in
      let second = expr_told v (fresh_word q 10 le (question_here q a)) (over_colon c 0 (omega arith) s)
      (λ le. over_colon c 10 (omega arith) s) in
      let le2 : x.brace ≤ c = let some = second.some in omega arith in
      chosen_told room i q c j t y n a s (far (omega arith)) first second
      (expr_told w (still_fresh c le2 (ap is_still s) (ap ends_operand s) (ap is_event s)) over
      (λ le. far (omega arith)))
  expr_told (looser {room = room} {k = k} {e = e} {i = i} {j = j} p) start over far =
      looser_told room k i j e (expr_told p start over (λ le. far (omega arith)))
