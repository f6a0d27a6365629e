-- What is told of the tokens of a form of `next`: its last token opens the phrase of its operand.
use Rattle.std.proofs.Common.{◌≡◌, ℕ, suc, ◌+◌, ◌-◌, ◌<◌, ◌≤◌, inl, Bool, true, false, Option, Some}
use Rattle.std.proofs.Common.{None, refl, sym, ap, subst, ◌∙◌, arith}
use Rattle.std.proofs.lemmas.Bool.{and_from}
use Rattle.std.specs.Prelude.{not, ◌&&◌, ◌||◌}
use Rattle.psl_grammar.specs.declared.symbols.Symbol.{Symbol}
use Rattle.psl_grammar.specs.declared.symbols.Symbol.TheVariants as symbol
use Rattle.psl_grammar.specs.RawExpr.{RawExpr}
use Rattle.psl_grammar.specs.Symbols.{At}
use Rattle.psl_grammar.specs.PropGrammar as g
use Rattle.psl_grammar.specs.PropGrammar.{IsCount, IsRange, IsParen, IsNextForm}
use Rattle.psl_parser.specs.Marks.{opens_bracket, closes_bracket, is_colon, is_question, is_event, is_next}
use Rattle.psl_parser.specs.Marks.{is_number, is_open_bracket, is_close_bracket, is_close_parenthesis, ends_operand}
use Rattle.psl_parser.specs.Marks.{is_open_parenthesis}
use Rattle.psl_parser.specs.OpenPhrases.{is_behind, reach_of, reach_by, behind_by, ends_form, is_head, is_count}
use Rattle.psl_parser.specs.OpenPhrases.{is_range}
use Rattle.psl_parser.specs.OpenPhrases.{closes_event, opens_event}
use Rattle.unit_depth.proofs.Marks.{Level, level_of, is_still}
use Rattle.unit_depth.proofs.Parts.{Part, part_join, part_brackets, part_loosen, part_token, IsTame}
use Rattle.unit_depth.proofs.Phrases.{Spanned, Fits, spanned_none, spanned_join, spanned_token, fits_part}
use Rattle.unit_depth.proofs.Phrases.{fits_after}
use Rattle.unit_depth.proofs.Tokens.{Setting, sy, Fresh, fresh, behind_any, reach_at, reach_any, still_behind}
use Rattle.unit_depth.proofs.Tokens.{form_off, head_off, event_yes, count_off_0, range_off_0, count_tail, range_tail}
use Rattle.unit_depth.proofs.Tokens.{braced_at}
use Rattle.unit_depth.proofs.Keeping.{Kept, kept_join, kept_token}
use Rattle.unit_depth.proofs.Told as t
use Rattle.unit_depth.proofs.Told.{Told, told_join, told_plain, told_inside, told_still, square_of, square_kept}
use Rattle.unit_depth.proofs.Told.{square_part, square_spanned, spanned_round, loose_at, not_behind, tame_by}
use Rattle.unit_depth.proofs.Exprs.{ExprTold, expr_told, behind_next, fresh_open}

-- ---- the three ways in which a form ends

alone : (a c r : Bool) (o : Bool) → a ≡ true → c ≡ false → r ≡ false → ((a && not (c || r)) || o) ≡ true
alone true false false o x y z = refl
alone true true r o x y z = cc
alone true false true o x y z = cc
alone false c r o x y z = cc

counted : (o a c u : Bool) → a ≡ true → c ≡ true → (o || ((a && c) || u)) ≡ true
counted true a c u x y = refl
counted false true true u x y = refl
counted false true false u x y = cc
counted false false c u x y = cc

ranged : (o u a c : Bool) → a ≡ true → c ≡ true → (o || (u || (a && c))) ≡ true
ranged true u a c x y = refl
ranged false true a c x y = refl
ranged false false true true x y = refl
ranged false false true false x y = cc
ranged false false false c x y = cc

held : (a b t u : Bool) → b ≡ true → t ≡ false → u ≡ false → ((a && not b) || (t || u)) ≡ false
held true true false false x y z = refl
held false b false false x y z = refl
held true false t u x y z = cc
held a b true u x y z = cc
held a b false true x y z = cc

either_left : (a b : Bool) → a ≡ true → (a || b) ≡ true
either_left true b e = refl
either_left false b e = cc

either_right : (a b : Bool) → b ≡ true → (a || b) ≡ true
either_right true b e = refl
either_right false b e = e

module _ (x : Setting) where
  abbrev tails : ℕ → Bool
  tails n = (is_head x.symbols (n - 3) && is_count x.symbols (n - 2))
      || (is_head x.symbols (n - 5) && is_range x.symbols (n - 4))

  form_alone : (n m : ℕ) → m ≡ suc n → is_head x.symbols n ≡ true → is_open_bracket (sy x m) ≡ false
      → ends_form x.symbols n ≡ true
  form_alone n m same head not_so =
      let e : n + 1 ≡ m = omega arith in
      let f : is_open_bracket (sy x (n + 1)) ≡ false = ap (λ (k : ℕ). is_open_bracket (sy x k)) e ∙ not_so in
      alone (is_head x.symbols n) (is_count x.symbols (n + 1)) (is_range x.symbols (n + 1)) (tails n) head
      (count_off_0 x (n + 1) f) (range_off_0 x (n + 1) f)

  form_held : (n : ℕ) → (is_count x.symbols (n + 1) || is_range x.symbols (n + 1)) ≡ true
      → is_close_bracket (sy x n) ≡ false → ends_form x.symbols n ≡ false
  form_held n more not_so =
      held (is_head x.symbols n) (is_count x.symbols (n + 1) || is_range x.symbols (n + 1))
      (is_head x.symbols (n - 3) && is_count x.symbols (n - 2))
      (is_head x.symbols (n - 5) && is_range x.symbols (n - 4)) more (count_tail x n not_so) (range_tail x n not_so)

  count_is : (h : ℕ) → IsCount x.symbols h → is_count x.symbols h ≡ true
  count_is h c =
      and_from (is_open_bracket (sy x h) && is_number (sy x (h + 1))) (is_close_bracket (sy x (h + 2)))
      (and_from (is_open_bracket (sy x h)) (is_number (sy x (h + 1))) (ap is_open_bracket c.opens)
      (ap is_number c.number)) (ap is_close_bracket c.closes)

  range_is : (h : ℕ) → IsRange x.symbols h → is_range x.symbols h ≡ true
  range_is h c =
      and_from
      (is_open_bracket (sy x h) && is_number (sy x (h + 1)) && is_colon (sy x (h + 2)) && is_number (sy x (h + 3)))
      (is_close_bracket (sy x (h + 4)))
      (and_from (is_open_bracket (sy x h) && is_number (sy x (h + 1)) && is_colon (sy x (h + 2)))
      (is_number (sy x (h + 3)))
      (and_from (is_open_bracket (sy x h) && is_number (sy x (h + 1))) (is_colon (sy x (h + 2)))
      (and_from (is_open_bracket (sy x h)) (is_number (sy x (h + 1))) (ap is_open_bracket c.opens)
      (ap is_number c.low)) (ap is_colon c.colon)) (ap is_number c.high)) (ap is_close_bracket c.closes)

  -- ---- a count or a range behind what it may stand behind

  record Counts (h last k : ℕ) : Type 0 where
    ends : k ≡ suc last
    first : h ≤ last
    kept : Kept x.symbols 1 h k
    part : IsTame x.symbols 11 h → Part x.symbols 11 0 0 h k
    spanned : (room : ℕ) → Spanned x.symbols room h last
    reach : reach_of x.symbols last ≡ Some 11
    behind : Fresh x k

  formed_reach : (n : ℕ) (s : Symbol) → At x.symbols n s → ends_form x.symbols n ≡ true
      → reach_of x.symbols n ≡ reach_by s (braced_at x n) (is_behind x.symbols n) true
  formed_reach n s at e =
      reach_any x n s at ∙ ap (λ (f : Bool). reach_by s (braced_at x n) (is_behind x.symbols n) f) e

  formed_behind : (n : ℕ) (s : Symbol) → At x.symbols n s → ends_form x.symbols n ≡ true
      → is_behind x.symbols (suc n) ≡ behind_by s (is_behind x.symbols n) true
  formed_behind n s at e =
      behind_any x n s at ∙ ap (λ (f : Bool). behind_by s (is_behind x.symbols n) f) e

  bracket_form : (h : ℕ) → At x.symbols h symbol.OpenBracket → ends_form x.symbols h ≡ false
  bracket_form h at = form_off x h (head_off x h (ap is_next at) (ap is_close_parenthesis at)) (ap is_close_bracket at)

  counts_by : (h f last k : ℕ) → f ≡ suc h → k ≡ suc last → f ≤ last → x.brace ≤ h
      → At x.symbols h symbol.OpenBracket → ((room : ℕ) → Told x.symbols 1 room 15 f last)
      → At x.symbols last symbol.CloseBracket → ends_form x.symbols last ≡ true → Counts h last k
  counts_by h f last k same same2 le inside opener p shut formed =
      let square = square_of (sy x h) (ap t.is_square opener) in
      let any = p 0 in
      record {
        ends = same2;
        first = omega arith;
        kept = square_kept x h f last k same same2 square.level any.kept shut;
        part = λ tame. square_part x 11 h f last k same same2 square tame any.part shut;
        spanned = λ room. let own = p room in
            square_spanned x room h f last same le square (bracket_form h opener) own.spanned;
        reach = formed_reach last symbol.CloseBracket shut formed;
        behind = fresh x last k same2 (formed_behind last symbol.CloseBracket shut formed) (ap is_event shut)
            (omega arith);
      }

  count_counts : (n h k : ℕ) → h ≡ suc n → k ≡ h + 3 → x.brace ≤ h → is_head x.symbols n ≡ true
      → IsCount x.symbols h → Counts h (h + 2) k
  count_counts n h k same same2 le head c =
      let e : h + 2 - 3 ≡ n = omega arith in
      let f : h + 2 - 2 ≡ h = omega arith in
      counts_by h (h + 1) (h + 2) k (omega arith) (omega arith) (omega arith) le c.opens
      (λ room. told_inside x room (h + 1) (h + 2) (omega arith) (ap is_still c.number)) c.closes
      (counted (is_head x.symbols (h + 2) && not (is_count x.symbols (h + 2 + 1) || is_range x.symbols (h + 2 + 1)))
      (is_head x.symbols (h + 2 - 3)) (is_count x.symbols (h + 2 - 2))
      (is_head x.symbols (h + 2 - 5) && is_range x.symbols (h + 2 - 4))
      (ap (λ (m : ℕ). is_head x.symbols m) e ∙ head) (ap (λ (m : ℕ). is_count x.symbols m) f ∙ count_is h c))

  range_counts : (n h k : ℕ) → h ≡ suc n → k ≡ h + 5 → x.brace ≤ h → is_head x.symbols n ≡ true
      → IsRange x.symbols h → Counts h (h + 4) k
  range_counts n h k same same2 le head c =
      let e : h + 4 - 5 ≡ n = omega arith in
      let f : h + 4 - 4 ≡ h = omega arith in
      counts_by h (h + 1) (h + 4) k (omega arith) (omega arith) (omega arith) le c.opens
      (λ room. told_join x.symbols 1 room 15 (h + 1) (h + 2) (h + 4)
      (told_inside x room (h + 1) (h + 2) (omega arith) (ap is_still c.low))
      (told_join x.symbols 1 room 15 (h + 2) (h + 3) (h + 4)
      (told_inside x room (h + 2) (h + 3) (omega arith) (ap is_still c.colon))
      (told_inside x room (h + 3) (h + 4) (omega arith) (ap is_still c.high)))) c.closes
      (ranged (is_head x.symbols (h + 4) && not (is_count x.symbols (h + 4 + 1) || is_range x.symbols (h + 4 + 1)))
      (is_head x.symbols (h + 4 - 3) && is_count x.symbols (h + 4 - 2)) (is_head x.symbols (h + 4 - 5))
      (is_range x.symbols (h + 4 - 4)) (ap (λ (m : ℕ). is_head x.symbols m) e ∙ head)
      (ap (λ (m : ℕ). is_range x.symbols m) f ∙ range_is h c))

  -- ---- the parentheses of an event

  record Round (room : ℕ) (e : RawExpr) (h m : ℕ) : Type 0 where
    close : ℕ
    ends : m ≡ suc close
    first : h < close
    shut : At x.symbols close symbol.CloseParenthesis
    event : closes_event x.symbols close ≡ true
    kept : Kept x.symbols 1 h m
    part : Part x.symbols 11 0 0 h m
    spanned : Spanned x.symbols room h close
    fits : (more : ℕ) → Fits x.symbols more h close → IsParen x.symbols more e h m

  round_by : (room h j : ℕ) (e : RawExpr) → x.brace ≤ h → is_behind x.symbols h ≡ false
      → opens_event x.symbols h ≡ true → At x.symbols h symbol.OpenParenthesis
      → At x.symbols j symbol.CloseParenthesis → ExprTold x room 10 e (h + 1) j → Round (suc room) e h (j + 1)
  round_by room h j e le start event at shut r =
      let lt = r.some in
      let back : h + 1 ≡ suc h = omega arith in
      let next : suc j ≡ j + 1 = omega arith in
      let inside = subst (λ (m : ℕ). Part x.symbols 10 0 0 m j) back r.told.part in
      record {
        close = j;
        ends = omega arith;
        first = omega arith;
        shut = shut;
        event = event_yes x 10 0 0 h j event inside shut;
        kept = kept_join x.symbols 1 h (h + 1) (j + 1)
            (subst (λ (m : ℕ). Kept x.symbols 1 h m) (sym back) (kept_token x.symbols h
            (subst (λ (s : Symbol). Level s) (sym at) (level_of symbol.OpenParenthesis refl))))
            (kept_join x.symbols 1 (h + 1) j (j + 1) r.told.kept
            (subst (λ (m : ℕ). Kept x.symbols 1 j m) next (kept_token x.symbols j
            (subst (λ (s : Symbol). Level s) (sym shut) (level_of symbol.CloseParenthesis refl)))));
        part = subst (λ (m : ℕ). Part x.symbols 11 0 0 h m) next
            (part_brackets x.symbols 11 0 10 0 0 h j (ap opens_bracket at) (ap closes_bracket at) (ap is_question at)
            (ap is_colon at) (not_behind x.symbols 11 h start) inside (ap opens_bracket shut) (ap closes_bracket shut));
        spanned = spanned_round x room 10 h j at inside
            (subst (λ (m : ℕ). Spanned x.symbols room m j) back r.told.spanned) r.behind shut;
        fits = λ more f.
            let y =
            fits_after x.symbols more 15 0 0 h (h + 1) j j (omega arith) (omega arith) r.some (omega arith)
            (reach_any x h symbol.OpenParenthesis at)
            (part_loosen x.symbols 10 15 0 0 (h + 1) j (omega arith) r.told.part) f in
            subst (λ (m : ℕ). IsParen x.symbols m e h (j + 1)) (sym y.1) (g.paren at (r.fits y.0 y.2) shut);
      }

  is_event_open : (i h : ℕ) → h ≡ suc i → At x.symbols h symbol.OpenParenthesis → is_event (sy x i) ≡ true
      → opens_event x.symbols h ≡ true
  is_event_open i h same at event =
      let e : h - 1 ≡ i = omega arith in
      and_from (is_open_parenthesis (sy x h)) (is_event (sy x (h - 1))) (ap is_open_parenthesis at)
      (ap (λ (m : ℕ). is_event (sy x m)) e ∙ event)

  round_told : {room : ℕ} {e : RawExpr} {h m : ℕ} (i : ℕ) → IsParen x.symbols room e h m → h ≡ suc i → x.brace ≤ i
      → is_still (sy x i) ≡ true → ends_operand (sy x i) ≡ false → is_event (sy x i) ≡ true → Round room e h m
  round_told i (g.paren {room = room} {e = e} {i = h} {j = j} a p c) same le still ends event =
      round_by room h j e (omega arith)
      (behind_next x i h false same (still_behind x i still ∙ ends)) (is_event_open i h same a event) a c
      (expr_told x p (fresh_open x h (h + 1) (omega arith) (omega arith) a) (inl (ap closes_bracket c))
      (λ le. inl (ap closes_bracket c)))

  -- ---- forms

  pub record FormTold (room : ℕ) (on : Option RawExpr) (low high : Option ℕ) (i m : ℕ) : Type 0 where
    pub last : ℕ
    pub ends : m ≡ suc last
    pub first : i ≤ last
    pub kept : Kept x.symbols 1 i m
    pub part : Part x.symbols 11 0 0 i m
    pub spanned : Spanned x.symbols room i last
    pub reach : reach_of x.symbols last ≡ Some 11
    pub behind : Fresh x m
    pub fits : (more : ℕ) → Fits x.symbols more i last → IsNextForm x.symbols more on low high i m

  next_head : (i : ℕ) → is_next (sy x i) ≡ true → is_head x.symbols i ≡ true
  next_head i e = either_left (is_next (sy x i)) (closes_event x.symbols i) e

  close_head : (j : ℕ) → closes_event x.symbols j ≡ true → is_head x.symbols j ≡ true
  close_head j e = either_right (is_next (sy x j)) (closes_event x.symbols j) e

  next_form : (room i : ℕ) → Fresh x i → At x.symbols i symbol.Next → is_open_bracket (sy x (i + 1)) ≡ false
      → FormTold room None None None i (i + 1)
  next_form room i start at not_so =
      let next : suc i ≡ i + 1 = omega arith in
      let formed = form_alone i (i + 1) (omega arith) (next_head i (ap is_next at)) not_so in
      let level = subst (λ (s : Symbol). Level s) (sym at) (level_of symbol.Next refl) in
      record {
        last = i;
        ends = omega arith;
        first = omega arith;
        kept = subst (λ (m : ℕ). Kept x.symbols 1 i m) next (kept_token x.symbols i level);
        part = subst (λ (m : ℕ). Part x.symbols 11 0 0 i m) next
            (part_token x.symbols 11 0 0 i (ap opens_bracket at) (ap closes_bracket at)
            (not_behind x.symbols 11 i start.behind) (λ small. absurd (omega arith))
            (λ small is_so. absurd (omega arith)));
        spanned = spanned_none x.symbols room i;
        reach = formed_reach i symbol.Next at formed;
        behind = fresh x i (i + 1) (omega arith) (formed_behind i symbol.Next at formed) (ap is_event at)
            (let lt = start.inside in omega arith);
        fits = λ more f. g.IsNextForm.next at;
      }

  -- a word of `next` with its count or range
  word_told : (room i : ℕ) (s : Symbol) → Fresh x i → At x.symbols i s → is_next s ≡ true
      → opens_bracket s ≡ false → closes_bracket s ≡ false → is_question s ≡ false → is_close_bracket s ≡ false
      → Level s → ((b h : Bool) → reach_by s b h false ≡ None)
      → (is_count x.symbols (i + 1) || is_range x.symbols (i + 1)) ≡ true → Told x.symbols 1 room 11 i (i + 1)
  word_told room i s start at next opens closes question bracket level reach more =
      told_plain x room 11 i (i + 1) (omega arith) (ap opens_bracket at ∙ opens) (ap closes_bracket at ∙ closes)
      (subst (λ (t : Symbol). Level t) (sym at) level) (ap is_question at ∙ question) (λ small. absurd (omega arith))
      (reach_at x i s at (form_held i more (ap is_close_bracket at ∙ bracket))
      ∙ reach (braced_at x i) (is_behind x.symbols i)) (not_behind x.symbols 11 i start.behind)

  -- the word does not stand behind an operand, so its bracket does not either
  word_behind : (i : ℕ) (s : Symbol) → At x.symbols i s → ((h f : Bool) → behind_by s h f ≡ false)
      → is_behind x.symbols (i + 1) ≡ false
  word_behind i s at after =
      behind_next x i (i + 1) false (omega arith)
      (behind_any x i s at ∙ after (is_behind x.symbols i) (ends_form x.symbols i))

  with_counts : (room i h last k : ℕ) (on : Option RawExpr) (low high : Option ℕ) → i ≤ h
      → Told x.symbols 1 room 11 i h → IsTame x.symbols 11 h → Counts h last k
      → ((more : ℕ) → Fits x.symbols more i last → IsNextForm x.symbols more on low high i k)
      → FormTold room on low high i k
  with_counts room i h last k on low high le p tame c make =
      let le2 = c.first in
      record {
        last = last;
        ends = c.ends;
        first = omega arith;
        kept = kept_join x.symbols 1 i h k p.kept c.kept;
        part = part_join x.symbols 11 0 0 0 i h k p.part (c.part tame);
        spanned = spanned_join x.symbols room i h last le c.first p.spanned (c.spanned room);
        reach = c.reach;
        behind = c.behind;
        fits = make;
      }

  next_count_form : (room i : ℕ) → Fresh x i → At x.symbols i symbol.Next → IsCount x.symbols (i + 1)
      → FormTold room None (Some (i + 2)) None i (i + 4)
  next_count_form room i start at c =
      with_counts room i (i + 1) (i + 1 + 2) (i + 4) None (Some (i + 2)) None (omega arith)
      (word_told room i symbol.Next start at refl refl refl refl refl (level_of symbol.Next refl) (λ b h. refl)
      (either_left (is_count x.symbols (i + 1)) (is_range x.symbols (i + 1)) (count_is (i + 1) c)))
      (not_behind x.symbols 11 (i + 1) (word_behind i symbol.Next at (λ h f. refl)))
      (count_counts i (i + 1) (i + 4) (omega arith) (omega arith) (let lt = start.inside in omega arith)
      (next_head i (ap is_next at)) c) (λ more f. g.next_count at c)

  next_range_form : (room i : ℕ) → Fresh x i → At x.symbols i symbol.NextRange → IsRange x.symbols (i + 1)
      → FormTold room None (Some (i + 2)) (Some (i + 4)) i (i + 6)
  next_range_form room i start at c =
      with_counts room i (i + 1) (i + 1 + 4) (i + 6) None (Some (i + 2)) (Some (i + 4)) (omega arith)
      (word_told room i symbol.NextRange start at refl refl refl refl refl (level_of symbol.NextRange refl)
      (λ b h. refl)
      (either_right (is_count x.symbols (i + 1)) (is_range x.symbols (i + 1)) (range_is (i + 1) c)))
      (not_behind x.symbols 11 (i + 1) (word_behind i symbol.NextRange at (λ h f. refl)))
      (range_counts i (i + 1) (i + 6) (omega arith) (omega arith) (let lt = start.inside in omega arith)
      (next_head i (ap is_next at)) c) (λ more f. g.next_range at c)

  -- ---- forms of `next_event`

  event_word : (room i : ℕ) → Fresh x i → is_still (sy x i) ≡ true → is_colon (sy x i) ≡ false
      → Told x.symbols 1 room 11 i (i + 1)
  event_word room i start still colon =
      told_still x room 11 i (i + 1) (omega arith) still (λ le. colon) (not_behind x.symbols 11 i start.behind)

  event_form : (room i m : ℕ) (e : RawExpr) → Fresh x i → At x.symbols i symbol.Event
      → is_open_bracket (sy x m) ≡ false → Round room e (i + 1) m → FormTold room (Some e) None None i m
  event_form room i m e start at not_so r =
      let lt = r.first in
      let word = event_word room i start (ap is_still at) (ap is_colon at) in
      let formed = form_alone r.close m r.ends (close_head r.close r.event) not_so in
      record {
        last = r.close;
        ends = r.ends;
        first = omega arith;
        kept = kept_join x.symbols 1 i (i + 1) m word.kept r.kept;
        part = part_join x.symbols 11 0 0 0 i (i + 1) m word.part r.part;
        spanned = spanned_join x.symbols room i (i + 1) r.close (omega arith) (omega arith) word.spanned r.spanned;
        reach = formed_reach r.close symbol.CloseParenthesis r.shut formed;
        behind = fresh x r.close m r.ends (formed_behind r.close symbol.CloseParenthesis r.shut formed)
            (ap is_event r.shut) (let lt2 = start.inside in omega arith);
        fits = λ more f.
            g.event at (r.fits more
            (fits_part x.symbols more i (i + 1) r.close r.close (omega arith) (omega arith) f));
      }

  -- the word and the parentheses, where a count or a range follows
  event_told : (room i m : ℕ) (e : RawExpr) → Fresh x i → is_still (sy x i) ≡ true → is_colon (sy x i) ≡ false
      → (r : Round room e (i + 1) m) → (is_count x.symbols m || is_range x.symbols m) ≡ true
      → Told x.symbols 1 room 11 i m
  event_told room i m e start still colon r more =
      let lt = r.first in
      let word = event_word room i start still colon in
      let here : m ≡ r.close + 1 = let e = r.ends in omega arith in
      let unformed =
      form_held r.close
      (subst (λ (k : ℕ). (is_count x.symbols k || is_range x.symbols k) ≡ true) here more)
      (ap is_close_bracket r.shut) in
      let whole : Spanned x.symbols room (i + 1) m =
      spanned_join x.symbols room (i + 1) r.close m (omega arith) (let e = r.ends in omega arith) r.spanned
      (subst (λ (k : ℕ). Spanned x.symbols room r.close k) (sym r.ends)
      (spanned_token x.symbols room r.close (reach_at x r.close symbol.CloseParenthesis r.shut unformed))) in
      told_join x.symbols 1 room 11 i (i + 1) m word (record { kept = r.kept; part = r.part; spanned = whole })

  bracket_tame : (m : ℕ) → At x.symbols m symbol.OpenBracket → IsTame x.symbols 11 m
  bracket_tame m at =
      tame_by x.symbols 11 m (let e = loose_at x.symbols m symbol.OpenBracket at refl in omega arith)

  event_count_form : (room i m : ℕ) (e : RawExpr) → Fresh x i → At x.symbols i symbol.Event → IsCount x.symbols m
      → Round room e (i + 1) m → FormTold room (Some e) (Some (m + 1)) None i (m + 3)
  event_count_form room i m e start at c r =
      let lt = r.first in
      let e1 = r.ends in
      with_counts room i m (m + 2) (m + 3) (Some e) (Some (m + 1)) None (omega arith)
      (event_told room i m e start (ap is_still at) (ap is_colon at) r
      (either_left (is_count x.symbols m) (is_range x.symbols m) (count_is m c))) (bracket_tame m c.opens)
      (count_counts r.close m (m + 3) r.ends (omega arith) (let lt2 = start.inside in omega arith)
      (close_head r.close r.event) c)
      (λ more f. g.event_count at (r.fits more
      (fits_part x.symbols more i (i + 1) r.close (m + 2) (omega arith) (omega arith) f)) c)

  event_range_form : (room i m : ℕ) (e : RawExpr) → Fresh x i → At x.symbols i symbol.EventRange
      → IsRange x.symbols m → Round room e (i + 1) m → FormTold room (Some e) (Some (m + 1)) (Some (m + 3)) i (m + 5)
  event_range_form room i m e start at c r =
      let lt = r.first in
      let e1 = r.ends in
      with_counts room i m (m + 4) (m + 5) (Some e) (Some (m + 1)) (Some (m + 3)) (omega arith)
      (event_told room i m e start (ap is_still at) (ap is_colon at) r
      (either_right (is_count x.symbols m) (is_range x.symbols m) (range_is m c))) (bracket_tame m c.opens)
      (range_counts r.close m (m + 5) r.ends (omega arith) (let lt2 = start.inside in omega arith)
      (close_head r.close r.event) c)
      (λ more f. g.event_range at (r.fits more
      (fits_part x.symbols more i (i + 1) r.close (m + 4) (omega arith) (omega arith) f)) c)

  pub form_told : {room : ℕ} {on : Option RawExpr} {low high : Option ℕ} {i m : ℕ}
      → IsNextForm x.symbols room on low high i m → Fresh x i → is_open_bracket (sy x m) ≡ false
      → FormTold room on low high i m
  form_told {room = room} (g.IsNextForm.next {i = i} a) start not_so = next_form room i start a not_so
  form_told {room = room} (g.next_count {i = i} a c) start not_so = next_count_form room i start a c
  form_told {room = room} (g.next_range {i = i} a c) start not_so = next_range_form room i start a c
  form_told {room = room} (g.event {e = e} {i = i} {m = m} a p) start not_so =
      event_form room i m e start a not_so
      (round_told i p (omega arith) (let lt = start.inside in omega arith) (ap is_still a) (ap ends_operand a)
      (ap is_event a))
  form_told {room = room} (g.event_count {e = e} {i = i} {m = m} a p c) start not_so =
      event_count_form room i m e start a c
      (round_told i p (omega arith) (let lt = start.inside in omega arith) (ap is_still a) (ap ends_operand a)
      (ap is_event a))
  form_told {room = room} (g.event_range {e = e} {i = i} {m = m} a p c) start not_so =
      event_range_form room i m e start a c
      (round_told i p (omega arith) (let lt = start.inside in omega arith) (ap is_still a) (ap ends_operand a)
      (ap is_event a))
