-- What is told of the tokens of a sequence.
use Rattle.std.proofs.Common.{◌≡◌, ℕ, zero, suc, ◌+◌, ◌<◌, ◌≤◌, inr, Bool, true, false, cond, Option}
use Rattle.std.proofs.Common.{refl, sym, ap, subst, ◌∙◌, arith}
use Rattle.std.specs.Prelude.{◌&&◌, IsTrue}
use Rattle.psl_grammar.specs.declared.symbols.Symbol.{Symbol}
use Rattle.psl_grammar.specs.declared.symbols.Symbol.TheVariants as symbol
use Rattle.psl_grammar.specs.RawExpr.{RawExpr}
use Rattle.psl_grammar.specs.RawSere.{RawSere, bool, named, join}
use Rattle.psl_grammar.specs.Symbols.{At, joins_sequences, after_level, sere_level, is_pick}
use Rattle.psl_grammar.specs.ExprGrammar.{IsBool, Ends}
use Rattle.psl_grammar.specs.SereGrammar.{IsTimes, IsPick, IsTimed, IsSere, IsSeq}
use Rattle.psl_grammar.specs.SereGrammar as s
use Rattle.psl_parser.specs.Marks.{looseness, loose, is_colon, ends_operand, is_exclamation, is_event}
use Rattle.psl_parser.specs.Marks.{is_next, is_close_parenthesis, is_close_bracket}
use Rattle.psl_parser.specs.OpenPhrases.{is_behind, reach_by}
use Rattle.unit_depth.proofs.Marks.{is_still, sere_operator, sere_deep}
use Rattle.unit_depth.proofs.Parts.{part_token, looseness_small}
use Rattle.unit_depth.proofs.Phrases.{Over, Fits, spanned_token, over_less, fits_part, fits_after}
use Rattle.unit_depth.proofs.Tokens.{Setting, sy, Fresh, fresh, behind_any, behind_at, still_behind, form_off, head_off}
use Rattle.unit_depth.proofs.Tokens.{brace_reach, reach_unformed, form_quiet, braced_at}
use Rattle.unit_depth.proofs.Keeping.{kept_deep}
use Rattle.unit_depth.proofs.Told as t
use Rattle.unit_depth.proofs.Told.{Told, told_join, told_more, told_still, told_curly, not_behind, tame_by}
use Rattle.unit_depth.proofs.Exprs.{ExprTold, expr_told, behind_next, fresh_operator}
use Rattle.unit_depth.proofs.Repeats.{TimesTold, times_told, pick_told, times_far, pick_far}

-- ---- where a bool ends

level_far : (s : Symbol) → 10 < after_level s → is_exclamation s ≡ false → 10 < loose s
level_far symbol.OpenBracket lt not_so = absurd (omega arith)
level_far symbol.Sum lt not_so = absurd (omega arith)
level_far symbol.Shift lt not_so = absurd (omega arith)
level_far symbol.Order lt not_so = absurd (omega arith)
level_far symbol.Equality lt not_so = absurd (omega arith)
level_far symbol.And lt not_so = absurd (omega arith)
level_far symbol.Caret lt not_so = absurd (omega arith)
level_far symbol.Or lt not_so = absurd (omega arith)
level_far symbol.AndAnd lt not_so = absurd (omega arith)
level_far symbol.OrOr lt not_so = absurd (omega arith)
level_far symbol.Question lt not_so = absurd (omega arith)
level_far symbol.Exclamation lt not_so = absurd (cc)
level_far symbol.Until lt not_so = omega arith
level_far _ lt not_so = omega arith

bool_far : (braced joins : Bool) (s : Symbol) → 10 < cond (braced && joins) 11 (after_level s)
    → is_exclamation s ≡ false → 10 < cond joins 11 (loose s)
bool_far braced true s lt not_so = omega arith
bool_far true false s lt not_so = level_far s lt not_so
bool_far false false s lt not_so = level_far s lt not_so

module _ (x : Setting) where
  pub bool_over : (braced : Bool) (j : ℕ) → Ends x.symbols braced 10 j → is_exclamation (sy x j) ≡ false
      → Over x.symbols 10 j
  bool_over braced j ends not_so = inr (bool_far braced (joins_sequences x.symbols j) (sy x j) ends not_so)

  pub bool_told : {room : ℕ} (braced : Bool) {e : RawExpr} {i j : ℕ} → IsBool x.symbols room braced e i j
      → Fresh x i → is_exclamation (sy x j) ≡ false → ExprTold x room 10 e i j
  bool_told braced {j = j} p start not_so =
      let over = bool_over braced j p.1 not_so in
      expr_told x p.0 start (over_less x.symbols 0 10 j (omega arith) over) (λ le. over)

  -- ---- repetitions of a bool

  pub record TimedTold (room : ℕ) (braced : Bool) (r : RawSere) (i j : ℕ) : Type 0 where
    pub some : i < j
    pub behind : is_behind x.symbols j ≡ true
    pub told : Told x.symbols 1 room 11 i j
    pub fits : (more : ℕ) → Fits x.symbols more i j → IsTimed x.symbols more braced r i j

  -- a bool alone stands before no `!`
  abbrev pub After : RawSere → ℕ → Type 0
  After (bool e) j = is_exclamation (sy x j) ≡ false
  After _ j = Unit {0}

  pub after_any : (r : RawSere) (j : ℕ) → is_exclamation (sy x j) ≡ false → After r j
  after_any (bool e) j not_so = not_so
  after_any _ j not_so = tt

  times_more : (room i m j : ℕ) → Told x.symbols 1 room 11 i m → TimesTold x m j → looseness x.symbols m ≤ 11
      → Told x.symbols 1 room 11 i j
  times_more room i m j p q le =
      told_join x.symbols 1 room 11 i m j p
      (q.told room 11 (tame_by x.symbols 11 m le) (λ small. absurd (omega arith)))

  pub times_small : {low high : Option ℕ} {i j : ℕ} → IsTimes x.symbols low high i j → looseness x.symbols i ≤ 11
  times_small (s.any {i = i} a b) = let e = t.loose_at x.symbols i symbol.RepeatOpen a refl in omega arith
  times_small (s.IsTimes.counted {i = i} a c) =
      let e = t.loose_at x.symbols i symbol.RepeatOpen a refl in omega arith
  times_small (s.some {i = i} a) = let e = t.loose_at x.symbols i symbol.RepeatPlus a refl in omega arith

  pick_loose : (joins : Bool) (s : Symbol) → loose s ≡ 11 → cond joins 11 (loose s) ≤ 11
  pick_loose true s e = omega arith
  pick_loose false s e = omega arith

  pick_eleven : (s : Symbol) → IsTrue (is_pick s) → loose s ≡ 11
  pick_eleven symbol.GotoOpen e = refl
  pick_eleven symbol.EqualRepeatOpen e = refl
  pick_eleven _ e = cc

  pick_small : {low high : Option ℕ} {i j : ℕ} → IsPick x.symbols low high i j → looseness x.symbols i ≤ 11
  pick_small (s.first {i = i} a b) =
      pick_loose (joins_sequences x.symbols i) (sy x i) (ap loose a)
  pick_small (s.IsPick.counted {i = i} a c) =
      pick_loose (joins_sequences x.symbols i) (sy x i) (pick_eleven (sy x i) a)

  pub timed_told : {room : ℕ} {braced : Bool} {r : RawSere} {i j : ℕ} → IsTimed x.symbols room braced r i j
      → Fresh x i → 3 ≤ i → After r j → TimedTold room braced r i j
  timed_told {room = room} {braced = braced} (s.once {e = e} {i = i} {j = j} p) start le not_so =
      let r = bool_told braced p start not_so in
      record {
        some = r.some;
        behind = r.behind;
        told = told_more x.symbols 1 1 room room 10 11 i j (omega arith) (omega arith) (omega arith) r.told;
        fits = λ more f. s.once (r.fits more f, p.1);
      }
  timed_told {room = room} {braced = braced} (s.picked {e = e} {i = i} {m = m} {j = j} p c) start le not_so =
      let far = pick_far x c in
      let r = bool_told braced p start far.1 in
      let lt = r.some in
      let q = pick_told x c (omega arith) in
      let lt2 = q.some in
      record {
        some = omega arith;
        behind = q.behind;
        told = times_more room i m j
            (told_more x.symbols 1 1 room room 10 11 i m (omega arith) (omega arith) (omega arith) r.told) q
            (pick_small c);
        fits = λ more f. s.picked (r.fits more (fits_part x.symbols more i i m j (omega arith) (omega arith) f), p.1) c;
      }
  timed_told {room = room} (s.IsTimed.again {s = r} {i = i} {m = m} {j = j} p c) start le not_so =
      let far = times_far x c in
      let r = timed_told p start le (after_any r m far.1) in
      let lt = r.some in
      let q = times_told x c (omega arith) in
      let lt2 = q.some in
      record {
        some = omega arith;
        behind = q.behind;
        told = times_more room i m j r.told q (times_small c);
        fits = λ more f. s.IsTimed.again
            (r.fits more (fits_part x.symbols more i i m j (omega arith) (omega arith) f)) c;
      }

  -- ---- sequences

  abbrev pub depth : (level : ℕ) → ℕ
  depth zero = 1
  depth (suc k) = 2

  abbrev pub width : (level : ℕ) → ℕ
  width zero = 11
  width (suc k) = 15

  depth_small : (k : ℕ) → depth k ≤ 2
  depth_small zero = omega arith
  depth_small (suc k) = omega arith

  width_small : (k : ℕ) → width k ≤ 15
  width_small zero = omega arith
  width_small (suc k) = omega arith

  pub record SereTold (room level : ℕ) (r : RawSere) (i j : ℕ) : Type 0 where
    pub some : i < j
    pub behind : is_behind x.symbols j ≡ true
    pub told : Told x.symbols (depth level) room (width level) i j
    pub fits : (more : ℕ) → Fits x.symbols more i j → IsSere x.symbols more level r i j

  pub fresh_brace : (i : ℕ) → Fresh x i → At x.symbols i symbol.OpenBrace → Fresh x (i + 1)
  fresh_brace i start at =
      fresh x i (i + 1) (omega arith) (behind_any x i symbol.OpenBrace at) (ap is_event at)
      (let lt = start.inside in omega arith)

  close_behind : (j : ℕ) → At x.symbols j symbol.CloseBrace → is_behind x.symbols (j + 1) ≡ true
  close_behind j shut =
      behind_next x j (j + 1) true (omega arith)
      (behind_at x j symbol.CloseBrace shut
      (form_off x j (head_off x j (ap is_next shut) (ap is_close_parenthesis shut)) (ap is_close_bracket shut)))

  braces_told : (room i j : ℕ) (r : RawSere) → Fresh x i → At x.symbols i symbol.OpenBrace
      → At x.symbols j symbol.CloseBrace → SereTold room 6 r (i + 1) j → SereTold (suc room) 0 r i (j + 1)
  braces_told room i j r start at shut p =
      let lt = p.some in
      record {
        some = omega arith;
        behind = close_behind j shut;
        told = told_curly x room 11 15 i (i + 1) j (j + 1) (omega arith) (omega arith) start.inside at start.behind
            p.told p.behind shut;
        fits = λ more f.
            let y =
            fits_after x.symbols more 15 0 0 i (i + 1) j (j + 1) (omega arith) (omega arith) p.some (omega arith)
            (brace_reach x i start.inside at) p.told.part f in
            subst (λ (m : ℕ). IsSere x.symbols m 0 r i (j + 1)) (sym y.1) (s.braces at (p.fits y.0 y.2) shut);
      }

  name_told : (room i : ℕ) → Fresh x i → At x.symbols i symbol.SequenceName → SereTold room 0 (named i) i (i + 1)
  name_told room i start at = record {
    some = omega arith;
    behind = behind_next x i (i + 1) true (omega arith) (still_behind x i (ap is_still at) ∙ ap ends_operand at);
    told = told_still x room 11 i (i + 1) (omega arith) (ap is_still at) (λ le. ap is_colon at)
        (not_behind x.symbols 11 i start.behind);
    fits = λ more f. s.name at;
  }

  joins_told : (room k i m j : ℕ) (l r : RawSere) → k < 6 → sere_level (sy x m) ≡ suc k → SereTold room (suc k) l i m
      → SereTold room k r (m + 1) j → SereTold room (suc k) (join m l r) i j
  joins_told room k i m j l r lt o a b =
      let some = a.some in
      let some2 = b.some in
      let op = sere_operator (sy x m) k o lt in
      let next : suc m ≡ m + 1 = omega arith in
      let mark : Told x.symbols 2 room 15 m (m + 1) =
      subst (λ (n : ℕ). Told x.symbols 2 room 15 m n) next (record {
        kept = kept_deep x.symbols m (sere_deep (sy x m) k o lt);
        part = part_token x.symbols 15 0 0 m op.quiet.opens op.quiet.closes
            (tame_by x.symbols 15 m (looseness_small x.symbols m)) (λ small. absurd (omega arith))
            (λ small is_so. absurd (omega arith));
        spanned = spanned_token x.symbols room m (reach_unformed x m (form_quiet x m op.quiet)
            ∙ ap (λ (h : Bool). reach_by (sy x m) (braced_at x m) h false) a.behind ∙ op.reach (braced_at x m));
      }) in
      record {
        some = omega arith;
        behind = b.behind;
        told = told_join x.symbols 2 room 15 i m j a.told
            (told_join x.symbols 2 room 15 m (m + 1) j mark
            (told_more x.symbols (depth k) 2 room room (width k) 15 (m + 1) j (depth_small k) (omega arith)
            (width_small k) b.told));
        fits = λ more f.
            s.joins lt (a.fits more (fits_part x.symbols more i i m j (omega arith) (omega arith) f)) o
            (b.fits more (fits_part x.symbols more i (m + 1) j j (omega arith) (omega arith) f));
      }

  level_mark : (s : Symbol) (k : ℕ) → sere_level s ≡ suc k → k < 6 → is_exclamation s ≡ false
  level_mark s k e lt = (sere_operator s k e lt).exclamation

  pub sere_told : {room level : ℕ} {r : RawSere} {i j : ℕ} → IsSere x.symbols room level r i j → Fresh x i → 3 ≤ i
      → (1 ≤ level → is_exclamation (sy x j) ≡ false) → SereTold room level r i j
  sere_told (s.braces {room = room} {s = r} {i = i} {j = j} a p c) start le not_so =
      braces_told room i j r start a c
      (sere_told p (fresh_brace i start a) (omega arith) (λ some. ap is_exclamation c))
  sere_told (s.name {room = room} {i = i} a) start le not_so = name_told room i start a
  sere_told (s.alone {room = room} {low = low} {high = high} {i = i} {j = j} c) start le not_so =
      let q = times_told x c le in
      record {
        some = q.some;
        behind = q.behind;
        told = q.told room 11 (not_behind x.symbols 11 i start.behind) (λ small. absurd (omega arith));
        fits = λ more f. s.alone c;
      }
  sere_told (s.IsSere.again {room = room} {s = r} {i = i} {m = m} {j = j} p c) start le not_so =
      let a = sere_told p start le (λ some. absurd (omega arith)) in
      let lt = a.some in
      let q = times_told x c (omega arith) in
      let lt2 = q.some in
      record {
        some = omega arith;
        behind = q.behind;
        told = times_more room i m j a.told q (times_small c);
        fits = λ more f.
            s.IsSere.again (a.fits more (fits_part x.symbols more i i m j (omega arith) (omega arith) f)) c;
      }
  sere_told (s.timed {room = room} {s = r} {i = i} {j = j} p) start le not_so =
      let a = timed_told p start le (after_any r j (not_so (omega arith))) in
      record {
        some = a.some;
        behind = a.behind;
        told = told_more x.symbols 1 2 room room 11 15 i j (omega arith) (omega arith) (omega arith) a.told;
        fits = λ more f. s.timed (a.fits more f);
      }
  sere_told (s.joins {room = room} {k = k} {l = l} {r = r} {i = i} {m = m} {j = j} lt p o q) start le not_so =
      let a = sere_told p start le (λ some. level_mark (sy x m) k o lt) in
      let lt2 = a.some in
      let inside : x.brace ≤ m = let lt3 = start.inside in omega arith in
      joins_told room k i m j l r lt o a
      (sere_told q (fresh_operator x m inside (sere_operator (sy x m) k o lt)) (omega arith)
      (λ some. not_so (omega arith)))
  sere_told (s.IsSere.looser {room = room} {k = k} {s = r} {i = i} {j = j} p) start le not_so =
      let a = sere_told p start le (λ some. not_so (omega arith)) in
      record {
        some = a.some;
        behind = a.behind;
        told = told_more x.symbols (depth k) 2 room room (width k) 15 i j (depth_small k) (omega arith)
            (width_small k) a.told;
        fits = λ more f. s.IsSere.looser (a.fits more f);
      }

  pub record SeqTold (room : ℕ) (r : RawSere) (i j : ℕ) : Type 0 where
    pub some : i < j
    pub behind : is_behind x.symbols j ≡ true
    pub told : Told x.symbols 1 room 11 i j
    pub fits : (more : ℕ) → Fits x.symbols more i j → IsSeq x.symbols more r i j

  pub seq_told : {room : ℕ} {r : RawSere} {i j : ℕ} → IsSeq x.symbols room r i j → Fresh x i → 3 ≤ i
      → SeqTold room r i j
  seq_told (s.tight p) start le =
      let a = sere_told p start le (λ some. absurd (omega arith)) in
      record { some = a.some; behind = a.behind; told = a.told; fits = λ more f. s.tight (a.fits more f) }
  seq_told (s.IsSeq.timed p) start le =
      let a = timed_told p start le tt in
      record { some = a.some; behind = a.behind; told = a.told; fits = λ more f. s.IsSeq.timed (a.fits more f) }
