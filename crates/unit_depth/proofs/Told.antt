-- What is told of a span of tokens: its braces, its brackets and the phrases that it opens.
use Rattle.std.proofs.Common.{◌≡◌, ℕ, suc, ◌+◌, ◌<◌, ◌≤◌, inl, Bool, true, false, cond, Some}
use Rattle.std.proofs.Common.{None, List, refl, sym, ap, subst, ◌∙◌, arith}
use Rattle.std.proofs.lemmas.Bool.{both_ways}
use Rattle.std.specs.Prelude.{◌&&◌}
use Rattle.psl_grammar.specs.declared.symbols.Symbol.{Symbol}
use Rattle.psl_grammar.specs.declared.symbols.Symbol.TheVariants as symbol
use Rattle.psl_grammar.specs.Symbols.{symbol_at, At, joins_sequences, may_join, begins_sequence}
use Rattle.psl_parser.specs.Marks.{opens_bracket, closes_bracket, looseness, loose, is_colon, is_question}
use Rattle.psl_parser.specs.Marks.{is_next, is_close_parenthesis, is_close_bracket}
use Rattle.psl_parser.specs.OpenPhrases.{is_behind, reach_of, reach_by, behind_by, ends_form}
use Rattle.unit_depth.proofs.Counting.{one}
use Rattle.unit_depth.proofs.Marks.{Quiet, Level, level_of, still_of, is_still, Word, Operator, loose_least}
use Rattle.unit_depth.proofs.Parts.{Part, part_join, part_loosen, part_token, part_brackets, IsTame, looseness_small}
use Rattle.unit_depth.proofs.Phrases.{Spanned, Over, spanned_join, spanned_more, spanned_token, spanned_phrase}
use Rattle.unit_depth.proofs.Phrases.{phrase_ends}
use Rattle.unit_depth.proofs.Tokens.{Setting, sy, braced_at, reach_unformed, reach_at, reach_any, still_reach}
use Rattle.unit_depth.proofs.Tokens.{brace_reach, form_quiet, form_off, head_off}
use Rattle.unit_depth.proofs.Keeping.{Kept, kept_join, kept_more, kept_token, kept_braces}

pub record Told (symbols : List Symbol) (d room t i j : ℕ) : Type 0 where
  pub kept : Kept symbols d i j
  pub part : Part symbols t 0 0 i j
  pub spanned : Spanned symbols room i j

abbrev pub is_square : Symbol → Bool
is_square symbol.OpenBracket = true
is_square symbol.RepeatOpen = true
is_square symbol.GotoOpen = true
is_square symbol.EqualRepeatOpen = true
is_square _ = false

-- brackets that open no phrase
pub record Square (s : Symbol) : Type 0 where
  pub opens : opens_bracket s ≡ true
  pub closes : closes_bracket s ≡ false
  pub question : is_question s ≡ false
  pub colon : is_colon s ≡ false
  pub level : Level s
  pub reach : (b h : Bool) → reach_by s b h false ≡ None
  pub after : (h f : Bool) → behind_by s h f ≡ false

pub square_of : (s : Symbol) → is_square s ≡ true → Square s
square_of symbol.OpenBracket e = record {
  opens = refl;
  closes = refl;
  question = refl;
  colon = refl;
  level = level_of symbol.OpenBracket refl;
  reach = λ b h. refl;
  after = λ h f. refl;
}
square_of symbol.RepeatOpen e = record {
  opens = refl;
  closes = refl;
  question = refl;
  colon = refl;
  level = level_of symbol.RepeatOpen refl;
  reach = λ b h. refl;
  after = λ h f. refl;
}
square_of symbol.GotoOpen e = record {
  opens = refl;
  closes = refl;
  question = refl;
  colon = refl;
  level = level_of symbol.GotoOpen refl;
  reach = λ b h. refl;
  after = λ h f. refl;
}
square_of symbol.EqualRepeatOpen e = record {
  opens = refl;
  closes = refl;
  question = refl;
  colon = refl;
  level = level_of symbol.EqualRepeatOpen refl;
  reach = λ b h. refl;
  after = λ h f. refl;
}
square_of _ e = cc

module _ (symbols : List Symbol) where
  pub told_join : (d room t i m j : ℕ) → Told symbols d room t i m → Told symbols d room t m j
      → Told symbols d room t i j
  told_join d room t i m j p q = record {
    kept = kept_join symbols d i m j p.kept q.kept;
    part = part_join symbols t 0 0 0 i m j p.part q.part;
    spanned = spanned_join symbols room i m j p.part.le q.part.le p.spanned q.spanned;
  }

  pub told_more : (d e room more t u i j : ℕ) → d ≤ e → room ≤ more → t ≤ u → Told symbols d room t i j
      → Told symbols e more u i j
  told_more d e room more t u i j le le2 le3 p = record {
    kept = kept_more symbols d e i j le p.kept;
    part = part_loosen symbols t u 0 0 i j le3 p.part;
    spanned = spanned_more symbols room more i j le2 p.spanned;
  }

  pub looser : (room t u i j : ℕ) → t ≤ u → Told symbols 1 room t i j → Told symbols 1 room u i j
  looser room t u i j le p = told_more 1 1 room room t u i j (omega arith) (omega arith) le p

  -- how loosely a symbol joins that joins no sequences
  pub loose_at : (n : ℕ) (s : Symbol) → At symbols n s → may_join s ≡ false → looseness symbols n ≡ loose s
  loose_at n s at not_so =
      ap (λ (t : Symbol). cond (may_join t && begins_sequence (symbol_at symbols (n + 1))) 11 (loose t)) at
      ∙ ap (λ (b : Bool). cond (b && begins_sequence (symbol_at symbols (n + 1))) 11 (loose s)) not_so

  pub loose_least_at : (n k : ℕ) (s : Symbol) → At symbols n s → loose s ≡ k → k ≤ 11 → k ≤ looseness symbols n
  loose_least_at n k s at e le =
      loose_least (joins_sequences symbols n) (symbol_at symbols n) k (ap loose at ∙ e) le

  pub not_behind : (t n : ℕ) → is_behind symbols n ≡ false → IsTame symbols t n
  not_behind t n not_so = λ is_so colon. absurd (both_ways (is_behind symbols n) not_so is_so)

  pub tame_by : (t n : ℕ) → looseness symbols n ≤ t → IsTame symbols t n
  tame_by t n le = λ is_so colon. le

module _ (x : Setting) where
  abbrev pub At_ : ℕ → Symbol → Type 0
  At_ n s = At x.symbols n s

  to_next : (d room t n k : ℕ) → k ≡ suc n → Told x.symbols d room t n (suc n) → Told x.symbols d room t n k
  to_next d room t n k same p = subst (λ (m : ℕ). Told x.symbols d room t n m) (sym same) p

  -- a token that is no bracket, no `?` and no `:`, and opens no phrase
  pub told_plain : (room t n k : ℕ) → k ≡ suc n → opens_bracket (sy x n) ≡ false → closes_bracket (sy x n) ≡ false
      → Level (sy x n) → is_question (sy x n) ≡ false → (t ≤ 10 → is_colon (sy x n) ≡ false)
      → reach_of x.symbols n ≡ None → IsTame x.symbols t n → Told x.symbols 1 room t n k
  told_plain room t n k same opens closes l question colon reach tame =
      to_next 1 room t n k same (record {
        kept = kept_token x.symbols n l;
        part = part_token x.symbols t 0 0 n opens closes tame
            (λ le. let y : one (is_question (sy x n)) ≡ one false = ap one question in
            let z : one (is_colon (sy x n)) ≡ one false = ap one (colon le) in omega arith)
            (λ le is_so. absurd (both_ways (is_colon (sy x n)) (colon le) is_so));
        spanned = spanned_token x.symbols room n reach;
      })

  pub told_token : (room t n k : ℕ) → k ≡ suc n → Quiet (sy x n) → Level (sy x n) → is_question (sy x n) ≡ false
      → (t ≤ 10 → is_colon (sy x n) ≡ false) → reach_of x.symbols n ≡ None → IsTame x.symbols t n
      → Told x.symbols 1 room t n k
  told_token room t n k same q l question colon reach tame =
      told_plain room t n k same q.opens q.closes l question colon reach tame

  pub told_still : (room t n k : ℕ) → k ≡ suc n → is_still (sy x n) ≡ true → (t ≤ 10 → is_colon (sy x n) ≡ false)
      → IsTame x.symbols t n → Told x.symbols 1 room t n k
  told_still room t n k same e colon tame =
      let s = still_of (sy x n) e in
      told_token room t n k same s.quiet s.level s.question colon (still_reach x n e) tame

  -- the same in brackets
  pub told_inside : (room n k : ℕ) → k ≡ suc n → is_still (sy x n) ≡ true → Told x.symbols 1 room 15 n k
  told_inside room n k same e =
      told_still room 15 n k same e (λ le. absurd (omega arith))
      (tame_by x.symbols 15 n (looseness_small x.symbols n))

  pub told_operator : (room t n k : ℕ) → k ≡ suc n → Operator (sy x n) → Level (sy x n)
      → (t ≤ 10 → is_colon (sy x n) ≡ false) → is_behind x.symbols n ≡ true → looseness x.symbols n ≤ t
      → Told x.symbols 1 room t n k
  told_operator room t n k same o l colon behind le =
      told_token room t n k same o.quiet l o.question colon (operator_reach n o behind)
      (tame_by x.symbols t n le)
    where
      operator_reach : (n : ℕ) → Operator (sy x n) → is_behind x.symbols n ≡ true → reach_of x.symbols n ≡ None
      operator_reach n o behind =
          reach_unformed x n (form_quiet x n o.quiet)
          ∙ ap (λ (h : Bool). reach_by (sy x n) (braced_at x n) h false) behind ∙ o.reach (braced_at x n)

  -- ---- brackets that open no phrase

  square_level : (j : ℕ) → At_ j symbol.CloseBracket → Level (sy x j)
  square_level j shut = subst (λ (s : Symbol). Level s) (sym shut) (level_of symbol.CloseBracket refl)

  pub square_kept : (i h j k : ℕ) → h ≡ suc i → k ≡ suc j → Level (sy x i) → Kept x.symbols 1 h j
      → At_ j symbol.CloseBracket → Kept x.symbols 1 i k
  square_kept i h j k same same2 l p shut =
      kept_join x.symbols 1 i h k
      (subst (λ (m : ℕ). Kept x.symbols 1 i m) (sym same) (kept_token x.symbols i l))
      (kept_join x.symbols 1 h j k p
      (subst (λ (m : ℕ). Kept x.symbols 1 j m) (sym same2) (kept_token x.symbols j (square_level j shut))))

  pub square_part : (t i h j k : ℕ) → h ≡ suc i → k ≡ suc j → Square (sy x i) → IsTame x.symbols t i
      → Part x.symbols 15 0 0 h j → At_ j symbol.CloseBracket → Part x.symbols t 0 0 i k
  square_part t i h j k same same2 q tame p shut =
      subst (λ (m : ℕ). Part x.symbols t 0 0 i m) (sym same2)
      (part_brackets x.symbols t 0 15 0 0 i j q.opens q.closes q.question q.colon tame
      (subst (λ (m : ℕ). Part x.symbols 15 0 0 m j) same p) (ap opens_bracket shut) (ap closes_bracket shut))

  pub square_spanned : (room i h j : ℕ) → h ≡ suc i → h ≤ j → Square (sy x i) → ends_form x.symbols i ≡ false
      → Spanned x.symbols room h j → Spanned x.symbols room i j
  square_spanned room i h j same le q form s =
      spanned_join x.symbols room i h j (omega arith) le
      (subst (λ (m : ℕ). Spanned x.symbols room i m) (sym same)
      (spanned_token x.symbols room i
      (reach_unformed x i form ∙ q.reach (braced_at x i) (is_behind x.symbols i)))) s

  pub told_square : (room t i h j k : ℕ) → h ≡ suc i → k ≡ suc j → Square (sy x i) → ends_form x.symbols i ≡ false
      → IsTame x.symbols t i → Told x.symbols 1 room 15 h j → At_ j symbol.CloseBracket
      → ends_form x.symbols j ≡ false → Told x.symbols 1 room t i k
  told_square room t i h j k same same2 q form tame p shut unformed = record {
    kept = square_kept i h j k same same2 q.level p.kept shut;
    part = square_part t i h j k same same2 q tame p.part shut;
    spanned = spanned_join x.symbols room i j k (let le = p.part.le in omega arith) (omega arith)
        (square_spanned room i h j same p.part.le q form p.spanned)
        (subst (λ (m : ℕ). Spanned x.symbols room j m) (sym same2)
        (spanned_token x.symbols room j (reach_at x j symbol.CloseBracket shut unformed)));
  }

  -- ---- a phrase in parentheses, and one in braces

  pub spanned_round : (room t i j : ℕ) → At_ i symbol.OpenParenthesis → Part x.symbols t 0 0 (suc i) j
      → Spanned x.symbols room (suc i) j → is_behind x.symbols j ≡ true → At_ j symbol.CloseParenthesis
      → Spanned x.symbols (suc room) i j
  spanned_round room t i j at p s behind shut =
      spanned_phrase x.symbols room 15 i j p.le (reach_any x i symbol.OpenParenthesis at)
      (phrase_ends x.symbols 15 t 0 0 i j p behind (inl (ap closes_bracket shut)) (λ e. absurd (omega (arith, e)))) s

  pub told_round : (room t u i k j l : ℕ) → k ≡ suc i → l ≡ suc j → At_ i symbol.OpenParenthesis
      → is_behind x.symbols i ≡ false → Told x.symbols 1 room u k j → is_behind x.symbols j ≡ true
      → At_ j symbol.CloseParenthesis → ends_form x.symbols j ≡ false → Told x.symbols 1 (suc room) t i l
  told_round room t u i k j l same same2 at start p0 behind shut unformed =
      subst (λ (m : ℕ). Told x.symbols 1 (suc room) t i m) (sym same2) (record {
        kept = kept_join x.symbols 1 i (suc i) (suc j)
            (kept_token x.symbols i (subst (λ (s : Symbol). Level s) (sym at) (level_of symbol.OpenParenthesis refl)))
            (kept_join x.symbols 1 (suc i) j (suc j) p.kept (kept_token x.symbols j
            (subst (λ (s : Symbol). Level s) (sym shut) (level_of symbol.CloseParenthesis refl))));
        part = part_brackets x.symbols t 0 u 0 0 i j (ap opens_bracket at) (ap closes_bracket at) (ap is_question at)
            (ap is_colon at) (not_behind x.symbols t i start) p.part
            (ap opens_bracket shut) (ap closes_bracket shut);
        spanned = spanned_join x.symbols (suc room) i j (suc j) (let le = p.part.le in omega arith) (omega arith)
            (spanned_round room u i j at p.part p.spanned behind shut)
            (spanned_token x.symbols (suc room) j (reach_at x j symbol.CloseParenthesis shut unformed));
      })
    where
      p : Told x.symbols 1 room u (suc i) j
      p = subst (λ (m : ℕ). Told x.symbols 1 room u m j) same p0

  pub told_curly : (room t u i k j l : ℕ) → k ≡ suc i → l ≡ suc j → x.brace < i → At_ i symbol.OpenBrace
      → is_behind x.symbols i ≡ false → Told x.symbols 2 room u k j → is_behind x.symbols j ≡ true
      → At_ j symbol.CloseBrace → Told x.symbols 1 (suc room) t i l
  told_curly room t u i k j l same same2 lt at start p0 behind shut =
      subst (λ (m : ℕ). Told x.symbols 1 (suc room) t i m) (sym same2) (record {
        kept = kept_braces x.symbols i j at p.kept shut;
        part = part_brackets x.symbols t 0 u 0 0 i j (ap opens_bracket at) (ap closes_bracket at) (ap is_question at)
            (ap is_colon at) (not_behind x.symbols t i start) p.part
            (ap opens_bracket shut) (ap closes_bracket shut);
        spanned = spanned_join x.symbols (suc room) i j (suc j) (let le = p.part.le in omega arith) (omega arith)
            (spanned_phrase x.symbols room 15 i j p.part.le (brace_reach x i lt at)
            (phrase_ends x.symbols 15 u 0 0 i j p.part behind (inl (ap closes_bracket shut))
            (λ e. absurd (omega (arith, e)))) p.spanned)
            (spanned_token x.symbols (suc room) j (reach_at x j symbol.CloseBrace shut (close_unformed j shut)));
      })
    where
      p : Told x.symbols 2 room u (suc i) j
      p = subst (λ (m : ℕ). Told x.symbols 2 room u m j) same p0

      close_unformed : (j : ℕ) → At_ j symbol.CloseBrace → ends_form x.symbols j ≡ false
      close_unformed j shut = form_off x j (head_off x j (ap is_next shut) (ap is_close_parenthesis shut))
          (ap is_close_bracket shut)

  -- ---- a word or a mark that opens a phrase

  pub word_reach : (n r : ℕ) → Word (sy x n) (is_behind x.symbols n) r → reach_of x.symbols n ≡ Some r
  word_reach n r w = reach_unformed x n (form_quiet x n w.quiet) ∙ w.reach (braced_at x n)

  pub told_word : (room r u t i k j : ℕ) → k ≡ suc i → Word (sy x i) (is_behind x.symbols i) r
      → is_question (sy x i) ≡ false → IsTame x.symbols t i → Told x.symbols 1 room u k j → u ≤ t
      → is_behind x.symbols j ≡ true → Over x.symbols r j → (r ≡ 10 → ⊥) → k < j
      → Told x.symbols 1 (suc room) t i j
  told_word room r u t i k j same w question tame p0 le behind over ten some = record {
    kept = kept_join x.symbols 1 i (suc i) j (kept_token x.symbols i w.level) p.kept;
    part = part_join x.symbols t 0 0 0 i (suc i) j
        (part_token x.symbols t 0 0 i w.quiet.opens w.quiet.closes tame
        (λ small. let y : one (is_question (sy x i)) ≡ one false = ap one question in
        let z : one (is_colon (sy x i)) ≡ one false = ap one w.colon in omega arith)
        (λ small is_so. absurd (both_ways (is_colon (sy x i)) w.colon is_so)))
        (part_loosen x.symbols u t 0 0 (suc i) j le p.part);
    spanned = spanned_phrase x.symbols room r i j (omega arith) (word_reach i r w)
        (phrase_ends x.symbols r u 0 0 i j p.part behind over (λ e. absurd (ten e))) p.spanned;
  }
    where
      p : Told x.symbols 1 room u (suc i) j
      p = subst (λ (m : ℕ). Told x.symbols 1 room u m j) same p0
