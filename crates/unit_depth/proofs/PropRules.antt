-- What is told of the tokens of a property, rule by rule.
use Rattle.std.proofs.Common.{◌≡◌, ℕ, suc, ◌+◌, ◌≤◌, inl, true, false}
use Rattle.std.proofs.Common.{refl, ap, subst, ◌∙◌, arith}
use Rattle.psl_grammar.specs.declared.symbols.Symbol.{Symbol}
use Rattle.psl_grammar.specs.declared.symbols.Symbol.TheVariants as symbol
use Rattle.psl_grammar.specs.RawSere as sere
use Rattle.psl_grammar.specs.RawProp as raw
use Rattle.psl_grammar.specs.RawProp.{RawProp}
use Rattle.psl_grammar.specs.Symbols.{At}
use Rattle.psl_grammar.specs.PropGrammar as g
use Rattle.psl_grammar.specs.PropGrammar.{Phrase, IsProp}
use Rattle.psl_parser.specs.Marks.{opens_bracket, closes_bracket, is_question, ends_operand, is_event}
use Rattle.unit_depth.proofs.Marks.{is_still, always_word, arrow_word, suffix_word, eventually_word}
use Rattle.unit_depth.proofs.Parts.{Part, within_brackets}
use Rattle.unit_depth.proofs.Phrases.{Over, over_less, fits_part}
use Rattle.unit_depth.proofs.Tokens.{Setting, Fresh}
use Rattle.unit_depth.proofs.Told as t
use Rattle.unit_depth.proofs.Told.{word_reach, loose_at}
use Rattle.unit_depth.proofs.Exprs.{expr_told, fresh_open, fresh_word, prefix_here, still_fresh}
use Rattle.unit_depth.proofs.Seres.{sere_told, seq_told, timed_told}
use Rattle.unit_depth.proofs.Forms.{form_told}
use Rattle.unit_depth.proofs.Weak.{IsWeak, sere_weak, weak_round, weak_prefix, weak_strong}
use Rattle.unit_depth.proofs.Props.{need, PropTold, turned, bool_step, parens_told, named_told, strong_told}
use Rattle.unit_depth.proofs.Props.{exclaimed, negated_told, opening_told, arrow_told, word_at, pair_told, abort_told}
use Rattle.unit_depth.proofs.Props.{next_told, prop_begin, over_at, over_far, joins_small, behind_place}

module _ (x : Setting) where
  after_still : (m : ℕ) (s : Symbol) → x.brace ≤ m → At x.symbols m s → is_still s ≡ true → ends_operand s ≡ false
      → is_event s ≡ false → Fresh x (m + 1)
  after_still m s le at still ends event =
      still_fresh x m le (ap is_still at ∙ still) (ap ends_operand at ∙ ends) (ap is_event at ∙ event)

  after_bang : (i : ℕ) → Fresh x i → At x.symbols i symbol.Exclamation → Fresh x (i + 1)
  after_bang i start a =
      fresh_word x i 0 (let lt = start.inside in omega arith) (prefix_here x i start (exclaimed x i a))

  closes_over : (r j : ℕ) → At x.symbols j symbol.CloseParenthesis → Over x.symbols r j
  closes_over r j c = inl (ap closes_bracket c)

  pub prop_told : {room : ℕ} {phrase : Phrase} {p : RawProp} {i j : ℕ} → IsProp x.symbols room phrase p i j
      → Fresh x i → 3 ≤ i → Over x.symbols (need phrase) j
      → PropTold x room phrase p i j × (phrase ≡ g.primary → IsWeak x.symbols i j)
  prop_told (g.parens {room = room} {p = p} {i = i} {j = j} a h nb c) start le over =
      let r = prop_told h (fresh_open x i (i + 1) (omega arith) (let lt = start.inside in omega arith) a) (omega arith)
      (closes_over 14 j c) in
      let inside = r.0 in
      let back : i + 1 ≡ suc i = omega arith in (
        parens_told x room i j p start a c nb inside,
        λ same. weak_round x.symbols i (j + 1) start.behind (λ o n lt bare low high.
            within_brackets x.symbols 14 0 0 i j (ap opens_bracket a) (ap closes_bracket a)
            (subst (λ (m : ℕ). Part x.symbols 14 0 0 m j) back inside.told.part) o n lt bare low (omega arith)),
      )
  prop_told (g.named {room = room} {i = i} a) start le over = (
    named_told x room i start a,
    λ same. weak_round x.symbols i (i + 1) start.behind (λ o n lt bare low high. absurd (omega arith)),
  )
  prop_told (g.weak {room = room} {s = r} {i = i} {j = j} p) start le over =
      let a = sere_told x p start le (λ some. absurd (omega arith)) in (
        record { some = a.some; behind = a.behind; told = a.told; fits = λ more f. g.weak (a.fits more f) },
        λ same. sere_weak x p start le,
      )
  prop_told (g.strong {room = room} {s = r} {i = i} {j = j} p b) start le over =
      let a = sere_told x p start le (λ some. absurd (omega arith)) in (
        strong_told x room i j g.primary (raw.seq r true) refl a.some b a.behind a.told
            (λ more f. g.strong (a.fits more (fits_part x.symbols more i i j (j + 1) (omega arith) (omega arith) f)) b),
        λ same. weak_strong x room i j (sere_weak x p start le) a.told a.some b,
      )
  prop_told (g.negated {room = room} {p = p} {i = i} {j = j} a h) start le over =
      let next = after_bang i start a in
      let r = prop_told h next (omega arith) over in
      let weak = r.1 refl in
      let back : i + 1 ≡ suc i = omega arith in (
        negated_told x room i j p start a over next weak r.0,
        λ same. weak_prefix x.symbols i j start.behind (ap opens_bracket a) (ap closes_bracket a)
            (word_reach x i 0 (prefix_here x i start (exclaimed x i a)))
            (subst (λ (m : ℕ). IsWeak x.symbols m j) back weak),
      )
  prop_told (g.factor_bool {room = room} {e = e} {i = i} {j = j} p) start le over = (
    bool_step x room 6 g.factor e i j (omega arith) (λ more q. g.factor_bool q)
        (expr_told x p start over (λ big. absurd (omega arith))),
    λ same. absurd (cc),
  )
  prop_told (g.factor_primary {room = room} {p = p} {i = i} {j = j} h) start le over = (
    turned x room g.primary g.factor p i j (omega arith) (λ more q. g.factor_primary q) (prop_told h start le over).0,
    λ same. absurd (cc),
  )
  prop_told (g.both_bool {room = room} {e = e} {i = i} {j = j} p) start le over = (
    bool_step x room 7 g.both e i j (omega arith) (λ more q. g.both_bool q)
        (expr_told x p start over (λ big. absurd (omega arith))),
    λ same. absurd (cc),
  )
  prop_told (g.both_factor {room = room} {p = p} {i = i} {j = j} h) start le over = (
    turned x room g.factor g.both p i j (omega arith) (λ more q. g.both_factor q) (prop_told h start le over).0,
    λ same. absurd (cc),
  )
  prop_told (g.both_and {room = room} {l = l} {r = r} {i = i} {m = m} {j = j} p a q nb) start le over =
      let u = (prop_told p start le (over_at x 0 m 8 symbol.AndAnd a refl (omega arith) (omega arith))).0 in
      let lt = u.some in
      let v =
      (prop_told q (after_still m symbol.AndAnd (behind_place x i m start lt) a refl refl refl) (omega arith)
      over).0 in (
        pair_told x room i m j g.both g.factor g.both l r (raw.binary m l r) (ap is_still a) (omega arith) (omega arith)
            (omega arith) (joins_small x m 11 symbol.AndAnd a (omega arith) (omega arith))
            (λ more y z. g.both_and y a z nb) u v,
        λ same. absurd (cc),
      )
  prop_told (g.either_bool {room = room} {e = e} {i = i} {j = j} p) start le over = (
    bool_step x room 8 g.either e i j (omega arith) (λ more q. g.either_bool q)
        (expr_told x p start over (λ big. absurd (omega arith))),
    λ same. absurd (cc),
  )
  prop_told (g.either_both {room = room} {p = p} {i = i} {j = j} h) start le over = (
    turned x room g.both g.either p i j (omega arith) (λ more q. g.either_both q) (prop_told h start le over).0,
    λ same. absurd (cc),
  )
  prop_told (g.either_or {room = room} {l = l} {r = r} {i = i} {m = m} {j = j} p a q nb) start le over =
      let u = (prop_told p start le (over_at x 0 m 9 symbol.OrOr a refl (omega arith) (omega arith))).0 in
      let lt = u.some in
      let v =
      (prop_told q (after_still m symbol.OrOr (behind_place x i m start lt) a refl refl refl) (omega arith)
      over).0 in (
        pair_told x room i m j g.either g.both g.either l r (raw.binary m l r) (ap is_still a) (omega arith)
            (omega arith) (omega arith) (joins_small x m 11 symbol.OrOr a (omega arith) (omega arith))
            (λ more y z. g.either_or y a z nb) u v,
        λ same. absurd (cc),
      )
  prop_told (g.hdl_bool {room = room} {e = e} {i = i} {j = j} p) start le over = (
    bool_step x room 9 g.hdl e i j (omega arith) (λ more q. g.hdl_bool q)
        (expr_told x p start (over_less x.symbols 0 10 j (omega arith) over) (λ big. over)),
    λ same. absurd (cc),
  )
  prop_told (g.hdl_either {room = room} {p = p} {i = i} {j = j} h) start le over = (
    turned x room g.either g.hdl p i j (omega arith) (λ more q. g.hdl_either q)
        (prop_told h start le (over_less x.symbols 0 10 j (omega arith) over)).0,
    λ same. absurd (cc),
  )
  prop_told (g.low_timed {room = room} {i = i} {j = j} p) start le over =
      let a = timed_told x p start le tt in (
        record { some = a.some; behind = a.behind; told = a.told; fits = λ more f. g.low_timed (a.fits more f) },
        λ same. absurd (cc),
      )
  prop_told (g.low_strong {room = room} {s = r} {mark = mark} {low_count = low} {high_count = high} {i = i} {j = j} p b)
      start le over =
      let a = timed_told x p start le tt in (
        strong_told x room i j g.low (raw.seq (sere.repeat r mark low high) true) refl a.some b a.behind a.told
            (λ more f. g.low_strong
            (a.fits more (fits_part x.symbols more i i j (j + 1) (omega arith) (omega arith) f)) b),
        λ same. absurd (cc),
      )
  prop_told (g.low_hdl {room = room} {p = p} {i = i} {j = j} h) start le over = (
    turned x room g.hdl g.low p i j (omega arith) (λ more q. g.low_hdl q) (prop_told h start le over).0,
    λ same. absurd (cc),
  )
  prop_told (g.abt_abort {room = room} {p = p} {e = e} {i = i} {m = m} {j = j} h a q) start le over =
      let u = (prop_told h start le (over_at x 10 m 11 symbol.Abort a refl (omega arith) (omega arith))).0 in
      let lt = u.some in
      let v =
      expr_told x q.0 (after_still m symbol.Abort (behind_place x i m start lt) a refl refl refl)
      (over_less x.symbols 0 10 j (omega arith) over) (λ big. over) in (
        abort_told x room i m j p e a u v (λ more y z. g.abt_abort y a (z, q.1)),
        λ same. absurd (cc),
      )
  prop_told (g.abt_low {room = room} {p = p} {i = i} {j = j} h) start le over = (
    turned x room g.low g.abt p i j (omega arith) (λ more q. g.abt_low q) (prop_told h start le over).0,
    λ same. absurd (cc),
  )
  prop_told (g.occ_eventually {room = room} {p = p} {i = i} {j = j} a h) start le over =
      let w = word_at x i 11 symbol.EventuallyStrong a eventually_word in
      let u = (prop_told h (fresh_word x i 11 (let lt = start.inside in omega arith) w) (omega arith) over).0 in (
        opening_told x room 11 i j g.occ g.occ p (raw.prefix i p) refl refl start w (ap is_question a) over
            (λ e. absurd (omega (arith, e))) (λ more q. g.occ_eventually a q) u,
        λ same. absurd (cc),
      )
  prop_told
      (g.occ_next {room = room} {on = on} {low_count = low} {high_count = high} {p = p} {i = i} {m = m} {j = j} f h)
      start le over =
      let form = form_told x f start (prop_begin x h) in
      let first = form.first in
      let ends = form.ends in
      let u = (prop_told h form.behind (omega arith) over).0 in
      (next_told x room i m j on low high p over form u, λ same. absurd (cc))
  prop_told (g.occ_abt {room = room} {p = p} {i = i} {j = j} h) start le over = (
    turned x room g.abt g.occ p i j (omega arith) (λ more q. g.occ_abt q)
        (prop_told h start le (over_less x.symbols 10 11 j (omega arith) over)).0,
    λ same. absurd (cc),
  )
  prop_told (g.untl_until {room = room} {l = l} {r = r} {i = i} {m = m} {j = j} p a q) start le over =
      let u = (prop_told p start le (over_far x 11 m 12 symbol.Until a refl refl (omega arith))).0 in
      let lt = u.some in
      let v =
      (prop_told q (after_still m symbol.Until (behind_place x i m start lt) a refl refl refl) (omega arith)
      over).0 in (
        pair_told x room i m j g.occ g.occ g.untl l r (raw.binary m l r) (ap is_still a) (omega arith) (omega arith)
            (omega arith) (joins_small x m 12 symbol.Until a (omega arith) (omega arith))
            (λ more y z. g.untl_until y a z) u v,
        λ same. absurd (cc),
      )
  prop_told (g.untl_occ {room = room} {p = p} {i = i} {j = j} h) start le over = (
    turned x room g.occ g.untl p i j (omega arith) (λ more q. g.untl_occ q) (prop_told h start le over).0,
    λ same. absurd (cc),
  )
  prop_told (g.suff_suffix {room = room} {s = r} {p = p} {i = i} {m = m} {j = j} q a h) start le over =
      let w = word_at x m 13 symbol.Suffix a suffix_word in
      let first = seq_told x q start le in
      let lt = first.some in
      let u = (prop_told h (fresh_word x m 13 (behind_place x i m start lt) w) (omega arith) over).0 in (
        arrow_told x room 13 i m j g.suff g.suff p (raw.suffix m r p) refl refl w (ap is_question a)
            (joins_small x m 13 symbol.Suffix a (omega arith) (omega arith)) over (λ e. absurd (omega (arith, e))) lt
            (t.looser x.symbols (suc room) 11 13 i m (omega arith) first.told)
            (λ more f y. g.suff_suffix (first.fits (suc more) f) a y) u,
        λ same. absurd (cc),
      )
  prop_told (g.suff_untl {room = room} {p = p} {i = i} {j = j} h) start le over = (
    turned x room g.untl g.suff p i j (omega arith) (λ more q. g.suff_untl q)
        (prop_told h start le (over_less x.symbols 11 13 j (omega arith) over)).0,
    λ same. absurd (cc),
  )
  prop_told (g.impl_implies {room = room} {l = l} {r = r} {i = i} {m = m} {j = j} p a q) start le over =
      let w = word_at x m 14 symbol.Arrow a arrow_word in
      let first = (prop_told p start le (over_far x 13 m 14 symbol.Arrow a refl refl (omega arith))).0 in
      let lt = first.some in
      let u = (prop_told q (fresh_word x m 14 (behind_place x i m start lt) w) (omega arith) over).0 in (
        arrow_told x room 14 i m j g.impl g.impl r (raw.binary m l r) refl refl w (ap is_question a)
            (joins_small x m 14 symbol.Arrow a (omega arith) (omega arith)) over (λ e. absurd (omega (arith, e))) lt
            (t.looser x.symbols (suc room) 13 14 i m (omega arith) first.told)
            (λ more f y. g.impl_implies (first.fits (suc more) f) a y) u,
        λ same. absurd (cc),
      )
  prop_told (g.impl_iff {room = room} {l = l} {r = r} {i = i} {m = m} {j = j} p a q) start le over =
      let u = (prop_told p start le (over_far x 13 m 14 symbol.DoubleArrow a refl refl (omega arith))).0 in
      let lt = u.some in
      let v =
      (prop_told q (after_still m symbol.DoubleArrow (behind_place x i m start lt) a refl refl refl) (omega arith)
      (over_less x.symbols 13 14 j (omega arith) over)).0 in (
        pair_told x room i m j g.suff g.suff g.impl l r (raw.binary m l r) (ap is_still a) (omega arith) (omega arith)
            (omega arith) (joins_small x m 14 symbol.DoubleArrow a (omega arith) (omega arith))
            (λ more y z. g.impl_iff y a z) u v,
        λ same. absurd (cc),
      )
  prop_told (g.impl_suff {room = room} {p = p} {i = i} {j = j} h) start le over = (
    turned x room g.suff g.impl p i j (omega arith) (λ more q. g.impl_suff q)
        (prop_told h start le (over_less x.symbols 13 14 j (omega arith) over)).0,
    λ same. absurd (cc),
  )
  prop_told (g.prop_always {room = room} {p = p} {i = i} {j = j} a h) start le over =
      let w = word_at x i 14 symbol.Always a always_word in
      let u = (prop_told h (fresh_word x i 14 (let lt = start.inside in omega arith) w) (omega arith) over).0 in (
        opening_told x room 14 i j g.prop g.prop p (raw.prefix i p) refl refl start w (ap is_question a) over
            (λ e. absurd (omega (arith, e))) (λ more q. g.prop_always a q) u,
        λ same. absurd (cc),
      )
  prop_told (g.prop_impl {room = room} {p = p} {i = i} {j = j} h) start le over = (
    turned x room g.impl g.prop p i j (omega arith) (λ more q. g.prop_impl q) (prop_told h start le over).0,
    λ same. absurd (cc),
  )
