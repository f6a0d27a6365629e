-- The tokens that a phrase's tree names ascend within the phrase.
use Rattle.std.proofs.Common.{ℕ, ◌+◌, ◌<◌, ◌≤◌, Bool, List, [], ◌∷◌, ◌++◌, length, length-append, All, Option}
use Rattle.std.proofs.Common.{subst, sym, arith}
use Rattle.std.proofs.lemmas.List.Elements.{All-cons}
use Rattle.psl_lexer.specs.declared.kinds.Token.{Token}
use Rattle.psl_grammar.specs.declared.symbols.Symbol.{Symbol}
use Rattle.psl_grammar.specs.RawExpr.{RawExpr}
use Rattle.psl_grammar.specs.RawSere.{RawSere}
use Rattle.psl_grammar.specs.RawProp.{RawProp}
use Rattle.psl_grammar.specs.RawUnit.{RawItem, RawUnit}
use Rattle.psl_grammar.specs.TokenOrder.{expr_tokens, sere_tokens, prop_tokens, on_tokens, option_tokens, counts_tokens}
use Rattle.psl_grammar.specs.TokenOrder.{item_tokens, items_tokens, unit_tokens, AscendFrom}
use Rattle.psl_grammar.specs.ExprGrammar.{IsExpr, whole, bit, part, literally, parens, prefixed, joined, chosen, looser}
use Rattle.psl_grammar.specs.SereGrammar as s
use Rattle.psl_grammar.specs.SereGrammar.{IsCounts, IsTimes, IsPick, IsTimed, IsSere, IsSeq}
use Rattle.psl_grammar.specs.PropGrammar as g
use Rattle.psl_grammar.specs.PropGrammar.{IsParen, IsNextForm, Phrase, IsProp}
use Rattle.psl_grammar.specs.ItemGrammar as item
use Rattle.psl_grammar.specs.ItemGrammar.{AreNames, IsReport, IsItem}
use Rattle.psl_grammar.specs.Units as units
use Rattle.psl_grammar.specs.Units.{Known, symbols_in, AreItems, IsUnit}
use Rattle.psl_grammar.proofs.Within.{Within, later, longer, inside, both, around, behind, ascends, within_le, below}
use Rattle.psl_grammar.proofs.Within.{items_snoc}

module _ (symbols : List Symbol) where
  pub expr_within : {room level : ℕ} {e : RawExpr} {i j : ℕ} → IsExpr symbols room level e i j
      → Within i j (expr_tokens e)
  expr_within (whole h) = (omega arith, omega arith)
  expr_within (bit h a b c) = (omega arith, (omega arith, omega arith))
  expr_within (part h a b c d e) = (omega arith, (omega arith, (omega arith, omega arith)))
  expr_within (literally h) = (omega arith, omega arith)
  expr_within (parens {e = e} {i = i} {j = j} h p q) =
      inside i (i + 1) j (j + 1) (expr_tokens e) (omega arith) (omega arith) (expr_within p)
  expr_within (prefixed {e = e} {i = i} {j = j} h p) = behind i j (expr_tokens e) (expr_within p)
  expr_within (joined {l = l} {r = r} {i = i} {m = m} {j = j} lt p o q) =
      around i m j (expr_tokens l) (expr_tokens r) (expr_within p) (expr_within q)
  expr_within (chosen {t = t} {y = y} {n = n} {i = i} {q = q} {c = c} {j = j} p o v w x) =
      around i q j (expr_tokens t) (expr_tokens y ++ expr_tokens n) (expr_within p)
      (both (q + 1) c j (expr_tokens y) (expr_tokens n) (expr_within v)
      (later c (c + 1) j (expr_tokens n) (omega arith) (expr_within x)))
  expr_within (looser p) = expr_within p

  counts_within : {high : Option ℕ} {i j : ℕ} → IsCounts symbols high i j → Within (i + 1) j (option_tokens high)
  counts_within (s.single a b) = omega arith
  counts_within (s.range a b c d) = (omega arith, omega arith)

  times_within : {low high : Option ℕ} {i j : ℕ} → IsTimes symbols low high i j → Within i j (counts_tokens i low high)
  times_within (s.any a b) = (omega arith, omega arith)
  times_within (s.IsTimes.counted a c) = (omega arith, (omega arith, counts_within c))
  times_within (s.some a) = (omega arith, omega arith)

  pick_within : {low high : Option ℕ} {i j : ℕ} → IsPick symbols low high i j → Within i j (counts_tokens i low high)
  pick_within (s.first a b) = (omega arith, omega arith)
  pick_within (s.IsPick.counted a c) = (omega arith, (omega arith, counts_within c))

  timed_within : {room : ℕ} {braced : Bool} {r : RawSere} {i j : ℕ} → IsTimed symbols room braced r i j
      → Within i j (sere_tokens r)
  timed_within (s.once p) = expr_within p.0
  timed_within (s.picked {e = e} {low = low} {high = high} {i = i} {m = m} {j = j} p c) =
      both i m j (expr_tokens e) (counts_tokens m low high) (expr_within p.0) (pick_within c)
  timed_within (s.IsTimed.again {s = r} {low = low} {high = high} {i = i} {m = m} {j = j} p c) =
      both i m j (sere_tokens r) (counts_tokens m low high) (timed_within p) (times_within c)

  sere_within : {room level : ℕ} {r : RawSere} {i j : ℕ} → IsSere symbols room level r i j → Within i j (sere_tokens r)
  sere_within (s.braces {s = r} {i = i} {j = j} a p z) =
      inside i (i + 1) j (j + 1) (sere_tokens r) (omega arith) (omega arith) (sere_within p)
  sere_within (s.name a) = (omega arith, omega arith)
  sere_within (s.alone c) = times_within c
  sere_within (s.IsSere.again {s = r} {low = low} {high = high} {i = i} {m = m} {j = j} p c) =
      both i m j (sere_tokens r) (counts_tokens m low high) (sere_within p) (times_within c)
  sere_within (s.timed p) = timed_within p
  sere_within (s.joins {l = l} {r = r} {i = i} {m = m} {j = j} lt p o q) =
      around i m j (sere_tokens l) (sere_tokens r) (sere_within p) (sere_within q)
  sere_within (s.IsSere.looser p) = sere_within p

  seq_within : {room : ℕ} {r : RawSere} {i j : ℕ} → IsSeq symbols room r i j → Within i j (sere_tokens r)
  seq_within (s.tight p) = sere_within p
  seq_within (s.IsSeq.timed p) = timed_within p

  paren_within : {room : ℕ} {e : RawExpr} {i j : ℕ} → IsParen symbols room e i j → Within i j (expr_tokens e)
  paren_within (g.paren {e = e} {i = i} {j = j} a p q) =
      inside i (i + 1) j (j + 1) (expr_tokens e) (omega arith) (omega arith) (expr_within p)

  form_within : {room : ℕ} {on : Option RawExpr} {low high : Option ℕ} {i m : ℕ} → IsNextForm symbols room on low high i
      m
      → (j : ℕ) (ns : List ℕ) → Within m j ns
      → Within i j (i ∷ (on_tokens on ++ (option_tokens low ++ (option_tokens high ++ ns))))
  form_within (g.IsNextForm.next {i = i} a) j ns h = behind i j ns h
  form_within (g.next_count {i = i} a c) j ns h =
      (omega arith, (omega arith, later (i + 2 + 1) (i + 4) j ns (omega arith) h))
  form_within (g.next_range {i = i} a c) j ns h =
      (omega arith, (omega arith, (omega arith, later (i + 4 + 1) (i + 6) j ns (omega arith) h)))
  form_within (g.event {e = e} {i = i} {m = m} a p) j ns h =
      behind i j (expr_tokens e ++ ns) (both (i + 1) m j (expr_tokens e) ns (paren_within p) h)
  form_within (g.event_count {e = e} {i = i} {m = m} a p c) j ns h =
      behind i j (expr_tokens e ++ (m + 1) ∷ ns)
      (both (i + 1) m j (expr_tokens e) ((m + 1) ∷ ns) (paren_within p)
      (omega arith, later (m + 1 + 1) (m + 3) j ns (omega arith) h))
  form_within (g.event_range {e = e} {i = i} {m = m} a p c) j ns h =
      behind i j (expr_tokens e ++ (m + 1) ∷ (m + 3) ∷ ns)
      (both (i + 1) m j (expr_tokens e) ((m + 1) ∷ (m + 3) ∷ ns) (paren_within p)
      (omega arith, (omega arith, later (m + 3 + 1) (m + 5) j ns (omega arith) h)))

  pub prop_within : {room : ℕ} {phrase : Phrase} {p : RawProp} {i j : ℕ} → IsProp symbols room phrase p i j
      → Within i j (prop_tokens p)
  prop_within (g.parens {p = p} {i = i} {j = j} a h nb c) =
      inside i (i + 1) j (j + 1) (prop_tokens p) (omega arith) (omega arith) (prop_within h)
  prop_within (g.named a) = (omega arith, omega arith)
  prop_within (g.weak p) = sere_within p
  prop_within (g.strong {s = r} {i = i} {j = j} p a) = longer i j (j + 1) (sere_tokens r) (omega arith) (sere_within p)
  prop_within (g.negated {p = p} {i = i} {j = j} a h) = behind i j (prop_tokens p) (prop_within h)
  prop_within (g.factor_bool p) = expr_within p
  prop_within (g.factor_primary p) = prop_within p
  prop_within (g.both_bool p) = expr_within p
  prop_within (g.both_factor p) = prop_within p
  prop_within (g.both_and {l = l} {r = r} {i = i} {m = m} {j = j} p a q nb) =
      around i m j (prop_tokens l) (prop_tokens r) (prop_within p) (prop_within q)
  prop_within (g.either_bool p) = expr_within p
  prop_within (g.either_both p) = prop_within p
  prop_within (g.either_or {l = l} {r = r} {i = i} {m = m} {j = j} p a q nb) =
      around i m j (prop_tokens l) (prop_tokens r) (prop_within p) (prop_within q)
  prop_within (g.hdl_bool p) = expr_within p
  prop_within (g.hdl_either p) = prop_within p
  prop_within (g.low_timed p) = timed_within p
  prop_within (g.low_strong {s = r} {mark = mark} {low_count = low} {high_count = high} {i = i} {j = j} p a) =
      longer i j (j + 1) (sere_tokens r ++ counts_tokens mark low high) (omega arith) (timed_within p)
  prop_within (g.low_hdl p) = prop_within p
  prop_within (g.abt_abort {p = p} {e = e} {i = i} {m = m} {j = j} h a q) =
      both i m j (prop_tokens p) (expr_tokens e) (prop_within h)
      (later m (m + 1) j (expr_tokens e) (omega arith) (expr_within q.0))
  prop_within (g.abt_low p) = prop_within p
  prop_within (g.occ_eventually {p = p} {i = i} {j = j} a h) = behind i j (prop_tokens p) (prop_within h)
  prop_within (g.occ_next {p = p} {j = j} f h) = form_within f j (prop_tokens p) (prop_within h)
  prop_within (g.occ_abt p) = prop_within p
  prop_within (g.untl_until {l = l} {r = r} {i = i} {m = m} {j = j} p a q) =
      around i m j (prop_tokens l) (prop_tokens r) (prop_within p) (prop_within q)
  prop_within (g.untl_occ p) = prop_within p
  prop_within (g.suff_suffix {s = r} {p = p} {i = i} {m = m} {j = j} q a h) =
      around i m j (sere_tokens r) (prop_tokens p) (seq_within q) (prop_within h)
  prop_within (g.suff_untl p) = prop_within p
  prop_within (g.impl_implies {l = l} {r = r} {i = i} {m = m} {j = j} p a q) =
      around i m j (prop_tokens l) (prop_tokens r) (prop_within p) (prop_within q)
  prop_within (g.impl_iff {l = l} {r = r} {i = i} {m = m} {j = j} p a q) =
      around i m j (prop_tokens l) (prop_tokens r) (prop_within p) (prop_within q)
  prop_within (g.impl_suff p) = prop_within p
  prop_within (g.prop_always {p = p} {i = i} {j = j} a h) = behind i j (prop_tokens p) (prop_within h)
  prop_within (g.prop_impl p) = prop_within p

  names_within : {names : List ℕ} {i j : ℕ} → AreNames symbols names i j → Within i j names
  names_within (item.one h) = (omega arith, omega arith)
  names_within (item.more {names = names} {i = i} {m = m} p a h) =
      both i m (m + 2) names ((m + 1) ∷ []) (names_within p) (omega arith, omega arith)

  report_within : {report : Option ℕ} {i j : ℕ} → IsReport symbols report i j → Within i j (option_tokens report)
  report_within (item.none a) = omega arith
  report_within (item.some a b c) = (omega arith, omega arith)

  -- an item has at least a token
  pub item_within : {x : RawItem} {i j : ℕ} → IsItem symbols x i j → (i < j) × Within i j (item_tokens x)
  item_within (item.clock a b c d e f) = (omega arith, (omega arith, omega arith))
  item_within (item.clock_parens a b c d e f k l) = (omega arith, (omega arith, omega arith))
  item_within (item.wire {names = names} {i = i} {j = j} a n b) =
      let all = names_within n in
      let le : i + 1 ≤ j = within_le (i + 1) j names all in
      (omega arith, inside i (i + 1) j (j + 1) names (omega arith) (omega arith) all)
  item_within (item.vector {names = names} {i = i} {j = j} a r n b) =
      let all = names_within n in
      let le : i + 6 ≤ j = within_le (i + 6) j names all in (
        omega arith,
        (
          omega arith,
          (
            omega arith,
            inside (i + 4 + 1) (i + 6) j (j + 1) names (omega arith) (omega arith) all,
          ),
        ),
      )
  item_within (item.sequence {s = r} {i = i} {j = j} a n e p z) =
      let all = seq_within p in
      let le : i + 3 ≤ j = within_le (i + 3) j (sere_tokens r) all in
      (omega arith, (omega arith, inside (i + 1 + 1) (i + 3) j (j + 1) (sere_tokens r) (omega arith) (omega arith) all))
  item_within (item.property {p = p} {i = i} {j = j} a n e h z) =
      let all = prop_within h in
      let le : i + 3 ≤ j = within_le (i + 3) j (prop_tokens p) all in
      (omega arith, (omega arith, inside (i + 1 + 1) (i + 3) j (j + 1) (prop_tokens p) (omega arith) (omega arith) all))
  item_within (item.assert {p = p} {report = report} {i = i} {m = m} {j = j} a h r) =
      let all = both (i + 1) m j (prop_tokens p) (option_tokens report) (prop_within h) (report_within r) in
      let le : i + 1 ≤ j = within_le (i + 1) j (prop_tokens p ++ option_tokens report) all in
      (omega arith, (omega arith, all))
  item_within (item.labelled {p = p} {report = report} {i = i} {m = m} {j = j} l c a h r) =
      let all = both (i + 3) m j (prop_tokens p) (option_tokens report) (prop_within h) (report_within r) in
      let le : i + 3 ≤ j = within_le (i + 3) j (prop_tokens p ++ option_tokens report) all in (
        omega arith,
        (
          omega arith,
          (
            omega arith,
            later (i + 2 + 1) (i + 3) j (prop_tokens p ++ option_tokens report) (omega arith) all,
          ),
        ),
      )

module _ (text : List ℕ) (tokens : List Token) where
  items_within : {known : Known} {items : List RawItem} {i j : ℕ} → AreItems text tokens known items i j
      → (length items + i ≤ j) × Within i j (items_tokens items)
  items_within units.none = (omega arith, omega arith)
  items_within (units.more {known = known} {items = items} {item = x} {i = i} {m = m} {j = j} p q short) =
      let before = items_within p in
      let one = item_within (symbols_in text known tokens) q in
      let few : length items + i ≤ m = before.0 in
      let some : m < j = one.0 in
      let all : Within i j (items_tokens items ++ item_tokens x) =
      both i m j (items_tokens items) (item_tokens x) before.1 one.1 in (
        omega (arith, length-append items (x ∷ [])),
        subst (λ (l : List ℕ). Within i j l) (sym (items_snoc items x)) all,
      )

  pub unit_ascends : (unit : RawUnit) → IsUnit text tokens unit → AscendFrom 0 (unit_tokens unit)
  unit_ascends _ (units.plain {items = items} {j = j} a n b p c e) = (
    omega arith,
    ascends 2 j (items_tokens items) (later 2 3 j (items_tokens items) (omega arith)
        (items_within p).1),
  )
  unit_ascends _ (units.bound {items = items} {j = j} a n b n2 c d p f e) = (
    omega arith,
    ascends 2 j (items_tokens items) (later 2 6 j (items_tokens items) (omega arith)
        (items_within p).1),
  )

  pub unit_below : (unit : RawUnit) → IsUnit text tokens unit → All (λ n. n < length tokens) (unit_tokens unit)
  unit_below _ (units.plain {items = items} {j = j} a n b p c e) =
      let all = items_within p in
      let some : length items + 3 ≤ j = all.0 in
      let one : 1 < length tokens = omega (arith, e) in
      All-cons (λ (n : ℕ). n < length tokens) 1 (items_tokens items) one
      (below 3 j (length tokens) (items_tokens items) (omega (arith, e)) all.1)
  unit_below _ (units.bound {items = items} {j = j} a n b n2 c d p f e) =
      let all = items_within p in
      let some : length items + 6 ≤ j = all.0 in
      let one : 1 < length tokens = omega (arith, e) in
      All-cons (λ (n : ℕ). n < length tokens) 1 (items_tokens items) one
      (below 6 j (length tokens) (items_tokens items) (omega (arith, e)) all.1)

  pub unit_few : (unit : RawUnit) → IsUnit text tokens unit → length unit.items ≤ length tokens
  unit_few _ (units.plain {items = items} {j = j} a n b p c e) =
      let some : length items + 3 ≤ j = (items_within p).0 in omega (arith, e)
  unit_few _ (units.bound {items = items} {j = j} a n b n2 c d p f e) =
      let some : length items + 6 ≤ j = (items_within p).0 in omega (arith, e)

-- what a unit's tree says of the order of its tokens
pub ruleset unit_in_order = (unit_ascends, unit_below, unit_few)
