-- What is told of the tokens of a property.
use Rattle.std.proofs.Common.{◌≡◌, ℕ, suc, ◌+◌, ◌<◌, ◌≤◌, inr, Bool, true, false, cond, Option}
use Rattle.std.proofs.Common.{refl, sym, ap, subst, ◌∙◌, arith}
use Rattle.std.specs.Prelude.{IsTrue}
use Rattle.psl_grammar.specs.declared.symbols.Symbol.{Symbol}
use Rattle.psl_grammar.specs.declared.symbols.Symbol.TheVariants as symbol
use Rattle.psl_grammar.specs.RawExpr.{RawExpr}
use Rattle.psl_grammar.specs.RawSere.{RawSere}
use Rattle.psl_grammar.specs.RawProp as raw
use Rattle.psl_grammar.specs.RawProp.{RawProp}
use Rattle.psl_grammar.specs.Symbols.{At, joins_sequences, may_join, is_prefix, is_literal}
use Rattle.psl_grammar.specs.ExprGrammar.{IsExpr, whole, bit, part, literally, parens, prefixed, joined, chosen, looser}
use Rattle.psl_grammar.specs.SereGrammar as s
use Rattle.psl_grammar.specs.SereGrammar.{IsTimed, IsSere, IsSeq}
use Rattle.psl_grammar.specs.PropGrammar as g
use Rattle.psl_grammar.specs.PropGrammar.{IsNextForm, Phrase, IsProp, is_bool, are_bool}
use Rattle.psl_parser.specs.Marks.{looseness, loose, is_colon, is_question, ends_operand}
use Rattle.psl_parser.specs.Marks.{is_open_bracket}
use Rattle.psl_parser.specs.OpenPhrases.{is_behind, reach_by}
use Rattle.unit_depth.proofs.Marks.{Quiet, quiet_of, Level, level_of, is_still, Word}
use Rattle.unit_depth.proofs.Marks.{prefix_question}
use Rattle.unit_depth.proofs.Parts.{Part, part_join, part_loosen}
use Rattle.unit_depth.proofs.Phrases.{Spanned, Over, Fits, spanned_join, spanned_phrase, phrase_ends, fits_part}
use Rattle.unit_depth.proofs.Phrases.{fits_after, fits_phrase}
use Rattle.unit_depth.proofs.Tokens.{Setting, sy, Fresh, behind_at, reach_at, reach_any, still_behind, braced_at}
use Rattle.unit_depth.proofs.Tokens.{form_quiet}
use Rattle.unit_depth.proofs.Keeping.{kept_join}
use Rattle.unit_depth.proofs.Told as t
use Rattle.unit_depth.proofs.Told.{Told, told_join, told_more, told_still, told_token, told_round, told_word}
use Rattle.unit_depth.proofs.Told.{word_reach}
use Rattle.unit_depth.proofs.Told.{loose_at, loose_least_at, not_behind, tame_by}
use Rattle.unit_depth.proofs.Exprs.{ExprTold, behind_next, prefix_here}
use Rattle.unit_depth.proofs.Exprs.{round_unformed}
use Rattle.unit_depth.proofs.Repeats.{times_begin}
use Rattle.unit_depth.proofs.Forms.{FormTold}
use Rattle.unit_depth.proofs.Weak.{IsWeak, weak_stays}

-- how loosely the token behind such a phrase must join
abbrev pub need : Phrase → ℕ
need g.primary = 0
need g.factor = 0
need g.both = 0
need g.either = 0
need g.hdl = 10
need g.low = 10
need g.abt = 10
need g.occ = 11
need g.untl = 11
need g.suff = 13
need g.impl = 14
need g.prop = 14

-- how loosely its bare tokens may join
abbrev pub span : Phrase → ℕ
span g.untl = 12
span g.suff = 13
span g.impl = 14
span g.prop = 14
span _ = 11

literal_begin : (s : Symbol) → IsTrue (is_literal s) → is_open_bracket s ≡ false
literal_begin symbol.Number h = refl
literal_begin symbol.Literal h = refl
literal_begin _ h = cc

prefix_begin : (s : Symbol) → IsTrue (is_prefix s) → is_open_bracket s ≡ false
prefix_begin symbol.Exclamation h = refl
prefix_begin symbol.Tilde h = refl
prefix_begin symbol.And h = refl
prefix_begin symbol.Or h = refl
prefix_begin symbol.Caret h = refl
prefix_begin _ h = cc

module _ (x : Setting) where
  -- ---- no phrase begins with the bracket of a count

  expr_begin : {room k : ℕ} {e : RawExpr} {i j : ℕ} → IsExpr x.symbols room k e i j
      → is_open_bracket (sy x i) ≡ false
  expr_begin (whole h) = ap is_open_bracket h
  expr_begin (bit h h2 h3 h4) = ap is_open_bracket h
  expr_begin (part h h2 h3 h4 h5 h6) = ap is_open_bracket h
  expr_begin {i = i} (literally h) = literal_begin (sy x i) h
  expr_begin (parens h p q) = ap is_open_bracket h
  expr_begin {i = i} (prefixed h p) = prefix_begin (sy x i) h
  expr_begin (joined lt l o r) = expr_begin l
  expr_begin (chosen p o v w u) = expr_begin p
  expr_begin (looser p) = expr_begin p

  timed_begin : {room : ℕ} {braced : Bool} {r : RawSere} {i j : ℕ} → IsTimed x.symbols room braced r i j
      → is_open_bracket (sy x i) ≡ false
  timed_begin (s.once p) = expr_begin p.0
  timed_begin (s.picked p c) = expr_begin p.0
  timed_begin (s.IsTimed.again p c) = timed_begin p

  sere_begin : {room k : ℕ} {r : RawSere} {i j : ℕ} → IsSere x.symbols room k r i j
      → is_open_bracket (sy x i) ≡ false
  sere_begin (s.braces a p c) = ap is_open_bracket a
  sere_begin (s.name a) = ap is_open_bracket a
  sere_begin (s.alone c) = times_begin x c
  sere_begin (s.IsSere.again p c) = sere_begin p
  sere_begin (s.timed p) = timed_begin p
  sere_begin (s.joins lt p o q) = sere_begin p
  sere_begin (s.IsSere.looser p) = sere_begin p

  seq_begin : {room : ℕ} {r : RawSere} {i j : ℕ} → IsSeq x.symbols room r i j → is_open_bracket (sy x i) ≡ false
  seq_begin (s.tight p) = sere_begin p
  seq_begin (s.IsSeq.timed p) = timed_begin p

  form_begin : {room : ℕ} {on : Option RawExpr} {low high : Option ℕ} {i m : ℕ}
      → IsNextForm x.symbols room on low high i m → is_open_bracket (sy x i) ≡ false
  form_begin (g.IsNextForm.next a) = ap is_open_bracket a
  form_begin (g.next_count a c) = ap is_open_bracket a
  form_begin (g.next_range a c) = ap is_open_bracket a
  form_begin (g.event a p) = ap is_open_bracket a
  form_begin (g.event_count a p c) = ap is_open_bracket a
  form_begin (g.event_range a p c) = ap is_open_bracket a

  pub prop_begin : {room : ℕ} {phrase : Phrase} {p : RawProp} {i j : ℕ} → IsProp x.symbols room phrase p i j
      → is_open_bracket (sy x i) ≡ false
  prop_begin (g.parens a h nb c) = ap is_open_bracket a
  prop_begin (g.named a) = ap is_open_bracket a
  prop_begin (g.weak p) = sere_begin p
  prop_begin (g.strong p a) = sere_begin p
  prop_begin (g.negated a h) = ap is_open_bracket a
  prop_begin (g.factor_bool p) = expr_begin p
  prop_begin (g.factor_primary p) = prop_begin p
  prop_begin (g.both_bool p) = expr_begin p
  prop_begin (g.both_factor p) = prop_begin p
  prop_begin (g.both_and p a q nb) = prop_begin p
  prop_begin (g.either_bool p) = expr_begin p
  prop_begin (g.either_both p) = prop_begin p
  prop_begin (g.either_or p a q nb) = prop_begin p
  prop_begin (g.hdl_bool p) = expr_begin p
  prop_begin (g.hdl_either p) = prop_begin p
  prop_begin (g.low_timed p) = timed_begin p
  prop_begin (g.low_strong p a) = timed_begin p
  prop_begin (g.low_hdl p) = prop_begin p
  prop_begin (g.abt_abort h a q) = prop_begin h
  prop_begin (g.abt_low p) = prop_begin p
  prop_begin (g.occ_eventually a h) = ap is_open_bracket a
  prop_begin (g.occ_next f h) = form_begin f
  prop_begin (g.occ_abt p) = prop_begin p
  prop_begin (g.untl_until p a q) = prop_begin p
  prop_begin (g.untl_occ p) = prop_begin p
  prop_begin (g.suff_suffix q a h) = seq_begin q
  prop_begin (g.suff_untl p) = prop_begin p
  prop_begin (g.impl_implies p a q) = prop_begin p
  prop_begin (g.impl_iff p a q) = prop_begin p
  prop_begin (g.impl_suff p) = prop_begin p
  prop_begin (g.prop_always a h) = ap is_open_bracket a
  prop_begin (g.prop_impl p) = prop_begin p

  -- ---- single steps

  pub record PropTold (room : ℕ) (phrase : Phrase) (p : RawProp) (i j : ℕ) : Type 0 where
    pub some : i < j
    pub behind : is_behind x.symbols j ≡ true
    pub told : Told x.symbols 1 room (span phrase) i j
    pub fits : (more : ℕ) → Fits x.symbols more i j → IsProp x.symbols more phrase p i j

  -- as another phrase
  pub turned : (room : ℕ) (a b : Phrase) (p : RawProp) (i j : ℕ) → span a ≤ span b
      → ((more : ℕ) → IsProp x.symbols more a p i j → IsProp x.symbols more b p i j) → PropTold room a p i j
      → PropTold room b p i j
  turned room a b p i j le make r = record {
    some = r.some;
    behind = r.behind;
    told = t.looser x.symbols room (span a) (span b) i j le r.told;
    fits = λ more f. make more (r.fits more f);
  }

  pub bool_step : (room level : ℕ) (phrase : Phrase) (e : RawExpr) (i j : ℕ) → 11 ≤ span phrase
      → ((more : ℕ) → IsExpr x.symbols more (suc level) e i j → IsProp x.symbols more phrase (raw.bool e) i j)
      → ExprTold x room (suc level) e i j → PropTold room phrase (raw.bool e) i j
  bool_step room level phrase e i j le make r = record {
    some = r.some;
    behind = r.behind;
    told = t.looser x.symbols room 10 (span phrase) i j (omega arith) r.told;
    fits = λ more f. make more (r.fits more f);
  }

  -- a token between two phrases
  between : (room t m : ℕ) → is_still (sy x m) ≡ true → 11 ≤ t → looseness x.symbols m ≤ t
      → Told x.symbols 1 room t m (m + 1)
  between room t m still big le =
      told_still x room t m (m + 1) (omega arith) still (λ small. absurd (omega arith)) (tame_by x.symbols t m le)

  joined_by : (room t i m j : ℕ) → Told x.symbols 1 room t i m → Told x.symbols 1 room t m (m + 1)
      → Told x.symbols 1 room t (m + 1) j → Told x.symbols 1 room t i j
  joined_by room t i m j p q r =
      told_join x.symbols 1 room t i m j p (told_join x.symbols 1 room t m (m + 1) j q r)

  pub left_fits : (more i m j : ℕ) → m ≤ j → Fits x.symbols more i j → Fits x.symbols more i m
  left_fits more i m j le f = fits_part x.symbols more i i m j (omega arith) le f

  right_fits : (more i m j : ℕ) → i ≤ m → Fits x.symbols more i j → Fits x.symbols more (m + 1) j
  right_fits more i m j le f = fits_part x.symbols more i (m + 1) j j (omega arith) (omega arith) f

  small_joins : (b : Bool) (s : Symbol) (n : ℕ) → loose s ≤ n → 11 ≤ n → cond b 11 (loose s) ≤ n
  small_joins true s n le le2 = le2
  small_joins false s n le le2 = le

  pub joins_small : (m n : ℕ) (s : Symbol) → At x.symbols m s → loose s ≤ n → 11 ≤ n → looseness x.symbols m ≤ n
  joins_small m n s at le le2 =
      subst (λ (u : Symbol). cond (joins_sequences x.symbols m) 11 (loose u) ≤ n) (sym at)
      (small_joins (joins_sequences x.symbols m) s n le le2)

  pub over_at : (r m k : ℕ) (s : Symbol) → At x.symbols m s → loose s ≡ k → k ≤ 11 → r < k → Over x.symbols r m
  over_at r m k s at e le lt =
      let far : k ≤ looseness x.symbols m = loose_least_at x.symbols m k s at e le in inr (omega arith)

  pub over_far : (r m k : ℕ) (s : Symbol) → At x.symbols m s → may_join s ≡ false → loose s ≡ k → r < k
      → Over x.symbols r m
  over_far r m k s at not_so e lt = let same = loose_at x.symbols m s at not_so in inr (omega arith)

  pub behind_place : (i m : ℕ) → Fresh x i → i < m → x.brace ≤ m
  behind_place i m start lt = let inside = start.inside in omega arith

  -- ---- operands

  pub parens_told : (room i j : ℕ) (p : RawProp) → Fresh x i → At x.symbols i symbol.OpenParenthesis
      → At x.symbols j symbol.CloseParenthesis → is_bool p ≡ false → PropTold room g.prop p (i + 1) j
      → PropTold (suc room) g.primary p i (j + 1)
  parens_told room i j p start at shut nb r =
      let lt = r.some in
      let unformed = round_unformed x room 14 i j start at r.told shut in
      record {
        some = omega arith;
        behind = behind_next x j (j + 1) true (omega arith) (behind_at x j symbol.CloseParenthesis shut unformed);
        told = told_round x room 11 14 i (i + 1) j (j + 1) (omega arith) (omega arith) at start.behind r.told r.behind
            shut unformed;
        fits = λ more f.
            let y =
            fits_after x.symbols more 15 0 0 i (i + 1) j (j + 1) (omega arith) (omega arith) r.some (omega arith)
            (reach_any x i symbol.OpenParenthesis at)
            (part_loosen x.symbols 14 15 0 0 (i + 1) j (omega arith) r.told.part) f in
            subst (λ (m : ℕ). IsProp x.symbols m g.primary p i (j + 1)) (sym y.1)
            (g.parens at (r.fits y.0 y.2) nb shut);
      }

  pub named_told : (room i : ℕ) → Fresh x i → At x.symbols i symbol.PropertyName
      → PropTold room g.primary (raw.named i) i (i + 1)
  named_told room i start at = record {
    some = omega arith;
    behind = behind_next x i (i + 1) true (omega arith) (still_behind x i (ap is_still at) ∙ ap ends_operand at);
    told = told_still x room 11 i (i + 1) (omega arith) (ap is_still at) (λ small. ap is_colon at)
        (not_behind x.symbols 11 i start.behind);
    fits = λ more f. g.named at;
  }

  -- the `!` behind a sequence
  mark_told : (room j : ℕ) → At x.symbols j symbol.Exclamation → is_behind x.symbols j ≡ true
      → Told x.symbols 1 room 11 j (j + 1) × (is_behind x.symbols (j + 1) ≡ true)
  mark_told room j at behind =
      let q = subst (λ (s : Symbol). Quiet s) (sym at) (quiet_of symbol.Exclamation refl) in
      let l = subst (λ (s : Symbol). Level s) (sym at) (level_of symbol.Exclamation refl) in
      let unformed = form_quiet x j q in (
        told_token x room 11 j (j + 1) (omega arith) q l (ap is_question at) (λ small. ap is_colon at)
            (reach_at x j symbol.Exclamation at unformed
            ∙ ap (λ (h : Bool). reach_by symbol.Exclamation (braced_at x j) h false) behind)
            (tame_by x.symbols 11 j (joins_small j 11 symbol.Exclamation at (omega arith) (omega arith))),
        behind_next x j (j + 1) true (omega arith) (behind_at x j symbol.Exclamation at unformed ∙ behind),
      )

  pub strong_told : (room i j : ℕ) (phrase : Phrase) (p : RawProp) → span phrase ≡ 11 → i < j
      → At x.symbols j symbol.Exclamation → is_behind x.symbols j ≡ true → Told x.symbols 1 room 11 i j
      → ((more : ℕ) → Fits x.symbols more i (j + 1) → IsProp x.symbols more phrase p i (j + 1))
      → PropTold room phrase p i (j + 1)
  strong_told room i j phrase p same lt at behind told make =
      let mark = mark_told room j at behind in
      record {
        some = omega arith;
        behind = mark.1;
        told = subst (λ (n : ℕ). Told x.symbols 1 room n i (j + 1)) (sym same)
            (told_join x.symbols 1 room 11 i j (j + 1) told mark.0);
        fits = make;
      }

  pub exclaimed : (i : ℕ) → At x.symbols i symbol.Exclamation → IsTrue (is_prefix (sy x i))
  exclaimed i at = ap is_prefix at

  pub negated_told : (room i j : ℕ) (p : RawProp) → Fresh x i → At x.symbols i symbol.Exclamation → Over x.symbols 0 j
      → Fresh x (i + 1) → IsWeak x.symbols (i + 1) j → PropTold room g.primary p (i + 1) j
      → PropTold (suc room) g.primary (raw.prefix i p) i j
  negated_told room i j p start at over next weak r =
      let lt = r.some in
      let w = prefix_here x i start (exclaimed i at) in
      let back : i + 1 ≡ suc i = omega arith in
      record {
        some = omega arith;
        behind = r.behind;
        told = told_word x room 0 11 11 i (i + 1) j (omega arith) w (prefix_question (sy x i) (exclaimed i at))
            (not_behind x.symbols 11 i start.behind) r.told (omega arith) r.behind over
            (λ e. absurd (omega (arith, e))) r.some;
        fits = λ more f.
            let stays =
            weak_stays x.symbols 11 0 0 i j (word_reach x i 0 w)
            (subst (λ (m : ℕ). Part x.symbols 11 0 0 m j) back r.told.part)
            (subst (λ (m : ℕ). is_behind x.symbols m ≡ false) back next.behind)
            (subst (λ (m : ℕ). IsWeak x.symbols m j) back weak) (omega arith) in
            let y = fits_phrase x.symbols more i j (omega arith) stays.1 stays.0 f in
            subst (λ (m : ℕ). IsProp x.symbols m g.primary (raw.prefix i p) i j) (sym y.1)
            (g.negated at (r.fits y.0 (subst (λ (m : ℕ). Fits x.symbols y.0 m j) (sym back) y.2)));
      }

  -- ---- words that open a phrase

  pub opening_told : (room r i j : ℕ) (a b : Phrase) (p q : RawProp) → span a ≡ r → span b ≡ r → Fresh x i
      → Word (sy x i) (is_behind x.symbols i) r → is_question (sy x i) ≡ false → Over x.symbols r j → (r ≡ 10 → ⊥)
      → ((more : ℕ) → IsProp x.symbols more a p (i + 1) j → IsProp x.symbols (suc more) b q i j)
      → PropTold room a p (i + 1) j → PropTold (suc room) b q i j
  opening_told room r i j a b p q same same2 start w question over ten make u =
      let lt = u.some in
      let own : Told x.symbols 1 room r (i + 1) j =
      subst (λ (n : ℕ). Told x.symbols 1 room n (i + 1) j) same u.told in
      record {
        some = omega arith;
        behind = u.behind;
        told = subst (λ (n : ℕ). Told x.symbols 1 (suc room) n i j) (sym same2)
            (told_word x room r r r i (i + 1) j (omega arith) w question (not_behind x.symbols r i start.behind) own
            (omega arith) u.behind over ten u.some);
        fits = λ more f.
            let y =
            fits_after x.symbols more r 0 0 i (i + 1) j j (omega arith) (omega arith) u.some (omega arith)
            (word_reach x i r w) own.part f in
            subst (λ (m : ℕ). IsProp x.symbols m b q i j) (sym y.1) (make y.0 (u.fits y.0 y.2));
      }

  -- a mark between a left side and the right side that it opens
  pub arrow_told : (room r i m j : ℕ) (a b : Phrase) (p q : RawProp) → span a ≡ r → span b ≡ r
      → Word (sy x m) (is_behind x.symbols m) r → is_question (sy x m) ≡ false → looseness x.symbols m ≤ r
      → Over x.symbols r j → (r ≡ 10 → ⊥) → i < m → Told x.symbols 1 (suc room) r i m
      → ((more : ℕ) → Fits x.symbols (suc more) i m → IsProp x.symbols more a p (m + 1) j
      → IsProp x.symbols (suc more) b q i j)
      → PropTold room a p (m + 1) j → PropTold (suc room) b q i j
  arrow_told room r i m j a b p q same same2 w question le over ten lt left make u =
      let lt2 = u.some in
      let own : Told x.symbols 1 room r (m + 1) j =
      subst (λ (n : ℕ). Told x.symbols 1 room n (m + 1) j) same u.told in
      let right =
      told_word x room r r r m (m + 1) j (omega arith) w question (tame_by x.symbols r m le) own (omega arith)
      u.behind over ten u.some in
      record {
        some = omega arith;
        behind = u.behind;
        told = subst (λ (n : ℕ). Told x.symbols 1 (suc room) n i j) (sym same2)
            (told_join x.symbols 1 (suc room) r i m j left right);
        fits = λ more f.
            let y =
            fits_after x.symbols more r 0 0 m (m + 1) j j (omega arith) (omega arith) u.some (omega arith)
            (word_reach x m r w) own.part (fits_part x.symbols more i m j j (omega arith) (omega arith) f) in
            let before =
            subst (λ (n : ℕ). Fits x.symbols n i m) y.1 (left_fits more i m j (omega arith) f) in
            subst (λ (n : ℕ). IsProp x.symbols n b q i j) (sym y.1) (make y.0 before (u.fits y.0 y.2));
      }

  pub word_at : (n r : ℕ) (s : Symbol) → At x.symbols n s → ((h : Bool) → Word s h r)
      → Word (sy x n) (is_behind x.symbols n) r
  word_at n r s at w =
      subst (λ (u : Symbol). Word u (is_behind x.symbols n) r) (sym at) (w (is_behind x.symbols n))

  -- ---- a token between two properties

  pub pair_told : (room i m j : ℕ) (a b c : Phrase) (l r both : RawProp) → is_still (sy x m) ≡ true → span a ≤ span c
      → span b ≤ span c → 11 ≤ span c → looseness x.symbols m ≤ span c
      → ((more : ℕ) → IsProp x.symbols more a l i m → IsProp x.symbols more b r (m + 1) j
      → IsProp x.symbols more c both i j)
      → PropTold room a l i m → PropTold room b r (m + 1) j → PropTold room c both i j
  pair_told room i m j a b c l r both still le le2 big small make u v =
      let lt = u.some in
      let lt2 = v.some in
      record {
        some = omega arith;
        behind = v.behind;
        told = joined_by room (span c) i m j (t.looser x.symbols room (span a) (span c) i m le u.told)
            (between room (span c) m still big small)
            (t.looser x.symbols room (span b) (span c) (m + 1) j le2 v.told);
        fits = λ more f. make more (u.fits more (left_fits more i m j (omega arith) f))
            (v.fits more (right_fits more i m j (omega arith) f));
      }

  pub abort_told : (room i m j : ℕ) (p : RawProp) (e : RawExpr) → At x.symbols m symbol.Abort
      → PropTold room g.abt p i m → ExprTold x room 10 e (m + 1) j
      → ((more : ℕ) → IsProp x.symbols more g.abt p i m → IsExpr x.symbols more 10 e (m + 1) j
      → IsProp x.symbols more g.abt (raw.abort p e) i j) → PropTold room g.abt (raw.abort p e) i j
  abort_told room i m j p e at u v make =
      let lt = u.some in
      let lt2 = v.some in
      record {
        some = omega arith;
        behind = v.behind;
        told = joined_by room 11 i m j u.told
            (between room 11 m (ap is_still at) (omega arith)
            (joins_small m 11 symbol.Abort at (omega arith) (omega arith)))
            (t.looser x.symbols room 10 11 (m + 1) j (omega arith) v.told);
        fits = λ more f. make more (u.fits more (left_fits more i m j (omega arith) f))
            (v.fits more (right_fits more i m j (omega arith) f));
      }

  pub next_told : (room i m j : ℕ) (on : Option RawExpr) (low high : Option ℕ) (p : RawProp) → Over x.symbols 11 j
      → FormTold x (suc room) on low high i m → PropTold room g.occ p m j
      → PropTold (suc room) g.occ (raw.next i on low high p) i j
  next_told room i m j on low high p over f u =
      let lt = u.some in
      let first = f.first in
      let ends = f.ends in
      let inside = subst (λ (n : ℕ). Part x.symbols 11 0 0 n j) f.ends u.told.part in
      record {
        some = omega arith;
        behind = u.behind;
        told = record {
          kept = kept_join x.symbols 1 i m j f.kept u.told.kept;
          part = part_join x.symbols 11 0 0 0 i m j f.part u.told.part;
          spanned = spanned_join x.symbols (suc room) i f.last j f.first (omega arith) f.spanned
              (spanned_phrase x.symbols room 11 f.last j (omega arith) f.reach
              (phrase_ends x.symbols 11 11 0 0 f.last j inside u.behind over (λ e. absurd (omega (arith, e))))
              (subst (λ (n : ℕ). Spanned x.symbols room n j) f.ends u.told.spanned));
        };
        fits = λ more fit.
            let y =
            fits_after x.symbols more 11 0 0 f.last m j j f.ends (omega arith) u.some (omega arith) f.reach
            u.told.part (fits_part x.symbols more i f.last j j f.first (omega arith) fit) in
            let form = f.fits more (left_fits more i f.last j (omega arith) fit) in
            subst (λ (n : ℕ). IsProp x.symbols n g.occ (raw.next i on low high p) i j) (sym y.1)
            (g.occ_next (subst (λ (n : ℕ). IsNextForm x.symbols n on low high i m) y.1 form) (u.fits y.0 y.2));
      }
