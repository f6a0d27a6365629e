-- A sequence that nothing goes on with is what is read.
use Rattle.std.proofs.Common.{◌≡◌, ℕ, zero, suc, ◌+◌, ◌<◌, ◌≤◌, Bool, true, false, Option, Some, List, length, refl}
use Rattle.std.proofs.Common.{sym, ap, subst, ◌∙◌, arith}
use Rattle.std.proofs.lemmas.Bool.{eq-eqb}
use Rattle.std.proofs.lemmas.Bool.Decides.{nat_tests}
use Rattle.psl_grammar.specs.declared.symbols.Symbol.{Symbol}
use Rattle.psl_grammar.specs.declared.symbols.Symbol.TheVariants as symbol
use Rattle.psl_grammar.specs.Symbols.{symbol_at, At, begins_sequence, is_pick, sere_level}
use Rattle.psl_grammar.specs.RawExpr.{RawExpr}
use Rattle.psl_grammar.specs.RawSere.{RawSere, bool, named, lone, repeat, join}
use Rattle.psl_grammar.specs.ExprGrammar.{IsBool}
use Rattle.psl_grammar.specs.SereGrammar.{IsCounts, single, range, IsTimes, any, some, IsPick, first, IsTimed, once}
use Rattle.psl_grammar.specs.SereGrammar.{picked, IsSere, braces, name, alone, timed, joins, looser}
use Rattle.psl_grammar.specs.SereGrammar as grammar
use Rattle.unit_reader.specs.inner.Steps.{◌>>=◌, need, is_at, Read, loop}
use Rattle.unit_reader.specs.inner.SereReaders.{rep, repeated, range_end_at, counts_at, counted_at, times_at, pick_at}
use Rattle.unit_reader.specs.inner.SereReaders.{times_go, again_with, times_from, after_bool, timed_in, braces_with}
use Rattle.unit_reader.specs.inner.SereReaders.{lone_at, base_with, tight_with, elem_with, sere_joins, sere_join_with}
use Rattle.unit_reader.specs.inner.SereReaders.{levels_above, cat_at, elem_in, tight_in}
use Rattle.unit_reader.proofs.SymbolTests.{is_other}
use Rattle.unit_reader.proofs.Loops.{Turns, stops, turns}
use Rattle.unit_reader.proofs.ExprSpells.{this_way, that_way, has, then, at, bool_spelled}
use Rattle.unit_reader.proofs.SereFacts.{times_begin, times_no_pick, times_bounds, pick_begin, timed_bounds}
use Rattle.unit_reader.proofs.SereFacts.{timed_apart, sere_bounds, tight_begins, ends_times, ends_pick, no_level_one}

module _ (symbols : List Symbol) where
  apart : (i : ℕ) (s t : Symbol) → At symbols i s → (s ≡ t → ⊥) → is_at symbols i t ≡ false
  apart i s t h not = is_other (symbol_at symbols i) t (λ e. not (sym h ∙ e))

  counts_spelled : {high : Option ℕ} {i j : ℕ} → IsCounts symbols high i j → counts_at symbols i ≡ Some (high, j)
  unfolding counts_at range_end_at
  counts_spelled (single {i = i} a b) = has _ _ _ (at symbols i symbol.Number a)
      (this_way _ _ _ _ (at symbols (i + 1) symbol.CloseBracket b) refl)
  counts_spelled (range {i = i} a b c d) =
      has _ _ _ (at symbols i symbol.Number a) (that_way _ _ _ _ (apart (i + 1) symbol.Colon symbol.CloseBracket b
      (λ e. cc))
      (has _ _ _ (at symbols (i + 1) symbol.Colon b) (has _ _ _ c (has _ _ _ (at symbols (i + 3) symbol.CloseBracket d)
      refl))))

  counts_open : {high : Option ℕ} {i j : ℕ} → IsCounts symbols high i j → At symbols i symbol.Number
  counts_open (single a b) = a
  counts_open (range a b c d) = a

  counted_spelled : {high : Option ℕ} {i j : ℕ} → IsCounts symbols high (i + 1) j → counted_at symbols i
      ≡ Some (rep i (Some (i + 1)) high, j)
  unfolding counted_at
  counted_spelled {high = high} {i = i} {j = j} c = then (counts_at symbols (i + 1))
      (λ d. Some (rep i (Some (i + 1)) d.0, d.1)) (high, j) _ (counts_spelled c) refl

  pub times_spelled : {low high : Option ℕ} {i j : ℕ} → IsTimes symbols low high i j → times_at symbols i
      ≡ Some (rep i low high, j)
  unfolding times_at
  times_spelled (any {i = i} a b) =
      that_way _ _ _ _ (apart i symbol.RepeatOpen symbol.RepeatPlus a (λ e. cc))
      (has _ _ _ (at symbols i symbol.RepeatOpen a) (this_way _ _ _ _ (at symbols (i + 1) symbol.CloseBracket b) refl))
  times_spelled (grammar.IsTimes.counted {i = i} a c) =
      that_way _ _ _ _ (apart i symbol.RepeatOpen symbol.RepeatPlus a (λ e. cc))
      (has _ _ _ (at symbols i symbol.RepeatOpen a)
      (that_way _ _ _ _ (apart (i + 1) symbol.Number symbol.CloseBracket (counts_open c) (λ e. cc))
      (counted_spelled c)))
  times_spelled (some {i = i} a) = this_way _ _ _ _ (at symbols i symbol.RepeatPlus a) refl

  pub pick_spelled : {low high : Option ℕ} {i j : ℕ} → IsPick symbols low high i j → pick_at symbols i
      ≡ Some (rep i low high, j)
  unfolding pick_at
  pick_spelled (first {i = i} a b) = this_way _ _ _ _ (at symbols (i + 1) symbol.CloseBracket b)
      (has _ _ _ (at symbols i symbol.GotoOpen a) refl)
  pick_spelled (grammar.IsPick.counted {i = i} a c) =
      that_way _ _ _ _ (apart (i + 1) symbol.Number symbol.CloseBracket (counts_open c) (λ e. cc)) (counted_spelled c)

  -- ---- repetitions

  abbrev Way : (whole : Read RawSere) (s : RawSere) (j : ℕ) → Type 0
  Way whole s j = Turns (length symbols) (times_go symbols) (again_with symbols) whole (s, j)

  again_step : {low high : Option ℕ} (s : RawSere) (m j : ℕ) → IsTimes symbols low high m j
      → again_with symbols (s, m) ≡ Some (repeat s m low high, j)
  unfolding again_with
  again_step {low = low} {high = high} s m j c =
      then (times_at symbols m) (λ r. Some (repeated s r.0, r.1)) (rep m low high, j) _ (times_spelled c) refl

  again_way : {low high : Option ℕ} (whole : Read RawSere) (s : RawSere) (m j : ℕ) → Way whole s m
      → IsTimes symbols low high m j
      → m ≤ length symbols → Way whole (repeat s m low high) j
  again_way {low = low} {high = high} whole s m j w c within =
      turns (length symbols) (times_go symbols) (again_with symbols) whole (s, m) (repeat s m low high, j) w within
      (times_begin symbols c)
      (again_step s m j c) (let b = times_bounds symbols c in omega arith)

  from_way : (whole : Read RawSere) (s : RawSere) (j : ℕ) → whole ≡ times_from symbols (s, j) → Way whole s j
  unfolding times_from
  from_way whole s j e = record { left = suc (length symbols); enough = omega arith; same = e }

  after_plain : (e : RawExpr) (j : ℕ) → is_pick (symbol_at symbols j) ≡ false → after_bool symbols (e, j)
      ≡ times_from symbols (bool e, j)
  unfolding after_bool
  after_plain e j h = that_way _ _ _ _ h refl

  after_pick : {low high : Option ℕ} (e : RawExpr) (m j : ℕ) → IsPick symbols low high m j
      → after_bool symbols (e, m) ≡ times_from symbols (repeat (bool e) m low high, j)
  unfolding after_bool
  after_pick {low = low} {high = high} e m j c =
      this_way (is_pick (symbol_at symbols m)) (pick_at symbols m >>=
      λ r. times_from symbols (repeated (bool e) r.0, r.1)) (times_from symbols (bool e, m)) _ (pick_begin symbols c)
      (then (pick_at symbols m) (λ r. times_from symbols (repeated (bool e) r.0, r.1)) (rep m low high, j) _
      (pick_spelled c) refl)

  timed_starts : (room : ℕ) (braced : Bool) (e : RawExpr) (i j : ℕ) (y : Read RawSere) → IsBool symbols room braced e i
      j
      → after_bool symbols (e, j) ≡ y → timed_in symbols room braced i ≡ y
  unfolding timed_in
  timed_starts room braced e i j y p a = then _ (after_bool symbols) (e, j) y (bool_spelled symbols braced p) a

  pub timed_way : {room : ℕ} {braced : Bool} {s : RawSere} {i j : ℕ} → IsTimed symbols room braced s i j
      → is_pick (symbol_at symbols j) ≡ false
      → Way (timed_in symbols room braced i) s j
  timed_way {room = room} {braced = braced} (once {e = e} {i = i} {j = j} p) h =
      from_way (timed_in symbols room braced i) (bool e) j (timed_starts room braced e i j _ p (after_plain e j h))
  timed_way {room = room} {braced = braced} (picked {e = e} {low = low} {high = high} {i = i} {m = m} {j = j} p c) h =
      from_way (timed_in symbols room braced i) (repeat (bool e) m low high) j
      (timed_starts room braced e i m _ p (after_pick e m j c))
  timed_way {room = room} {braced = braced} (grammar.IsTimed.again {s = s} {i = i} {m = m} {j = j} p c) h =
      again_way (timed_in symbols room braced i) s m j (timed_way p
      (times_no_pick (symbol_at symbols m) (times_begin symbols c))) c (timed_bounds symbols p).1

  pub timed_spelled : {room : ℕ} {braced : Bool} {s : RawSere} {i j : ℕ} → IsTimed symbols room braced s i j
      → 0 < sere_level (symbol_at symbols j)
      → timed_in symbols room braced i ≡ Some (s, j)
  timed_spelled {room = room} {braced = braced} {s = s} {i = i} {j = j} p h =
      stops (length symbols) (times_go symbols) (again_with symbols) (timed_in symbols room braced i) (s, j)
      (timed_way p (ends_pick (symbol_at symbols j) h)) (timed_bounds symbols p).1 (ends_times (symbol_at symbols j) h)

  -- ---- levels

  abbrev JoinWay : (room k i : ℕ) (s : RawSere) (j : ℕ) → Type 0
  JoinWay room k i s j =
      Turns (length symbols) (sere_joins symbols (suc (suc k)))
      (sere_join_with symbols (levels_above symbols (elem_in symbols room) k))
      (levels_above symbols (elem_in symbols room) (suc k) i) (s, j)

  abbrev pub Spelled : (room level : ℕ) (s : RawSere) (i j : ℕ) → Type 0
  Spelled room zero s i j = Way (tight_in symbols room i) s j
  Spelled room (suc zero) s i j = 0 < sere_level (symbol_at symbols j) → elem_in symbols room i ≡ Some (s, j)
  Spelled room (suc (suc k)) s i j = suc k < sere_level (symbol_at symbols j) → JoinWay room k i s j

  joins_differ : (level n j : ℕ) → level < sere_level (symbol_at symbols j) → n ≡ level → sere_joins symbols n j ≡ false
  joins_differ level n j h same = grind (arith, nat_tests)

  pub level_read : (room k : ℕ) (s : RawSere) (i j : ℕ) → j ≤ length symbols → suc k < sere_level (symbol_at symbols j)
      → Spelled room (suc k) s i j → levels_above symbols (elem_in symbols room) k i ≡ Some (s, j)
  unfolding levels_above
  level_read room zero s i j within h p = p (omega arith)
  level_read room (suc k) s i j within h p =
      stops (length symbols) (sere_joins symbols (suc (suc k)))
      (sere_join_with symbols (levels_above symbols (elem_in symbols room) k))
      (levels_above symbols (elem_in symbols room) (suc k) i) (s, j) (p (omega arith)) within
      (joins_differ (suc (suc k)) (suc (suc k)) j h refl)

  pub tight_stops : (room : ℕ) (s : RawSere) (i j : ℕ) → Way (tight_in symbols room i) s j → j ≤ length symbols
      → 0 < sere_level (symbol_at symbols j)
      → tight_in symbols room i ≡ Some (s, j)
  tight_stops room s i j w within h =
      stops (length symbols) (times_go symbols) (again_with symbols) (tight_in symbols room i) (s, j) w within
      (ends_times (symbol_at symbols j) h)

  elem_tight : (room : ℕ) (s : RawSere) (i j : ℕ) → begins_sequence (symbol_at symbols i) ≡ true
      → tight_in symbols room i ≡ Some (s, j)
      → elem_in symbols room i ≡ Some (s, j)
  unfolding elem_with
  elem_tight room s i j h e = this_way _ _ _ _ h e

  elem_timed : (room : ℕ) (s : RawSere) (i j : ℕ) → begins_sequence (symbol_at symbols i) ≡ false
      → timed_in symbols room true i ≡ Some (s, j)
      → elem_in symbols room i ≡ Some (s, j)
  unfolding elem_with
  elem_timed room s i j h e = that_way _ _ _ _ h e

  base_way : (room : ℕ) (s : RawSere) (i j : ℕ) → base_with symbols (cat_at symbols room) i ≡ Some (s, j)
      → Way (tight_in symbols room i) s j
  unfolding tight_with
  base_way room s i j e = from_way (tight_in symbols room i) s j (then _ (times_from symbols) (s, j) _ e refl)

  base_named : (room i : ℕ) → At symbols i symbol.SequenceName → base_with symbols (cat_at symbols room) i
      ≡ Some (named i, i + 1)
  unfolding base_with
  base_named room i a =
      that_way _ _ _ _ (apart i symbol.SequenceName symbol.OpenBrace a (λ e. cc))
      (this_way _ _ _ _ (at symbols i symbol.SequenceName a) refl)

  times_other : {low high : Option ℕ} (i j : ℕ) (t : Symbol) → IsTimes symbols low high i j
      → (symbol.RepeatOpen ≡ t → ⊥) → (symbol.RepeatPlus ≡ t → ⊥)
      → is_at symbols i t ≡ false
  times_other _ _ t (any {i = i} a b) x y = apart i symbol.RepeatOpen t a x
  times_other _ _ t (grammar.IsTimes.counted {i = i} a c) x y = apart i symbol.RepeatOpen t a x
  times_other _ _ t (some {i = i} a) x y = apart i symbol.RepeatPlus t a y

  base_lone : {low high : Option ℕ} (room i j : ℕ) → IsTimes symbols low high i j
      → base_with symbols (cat_at symbols room) i ≡ Some (lone i low high, j)
  unfolding base_with lone_at
  base_lone {low = low} {high = high} room i j c =
      that_way _ _ _ _ (times_other i j symbol.OpenBrace c (λ e. cc) (λ e. cc))
      (that_way _ _ _ _ (times_other i j symbol.SequenceName c (λ e. cc) (λ e. cc))
      (then (times_at symbols i) (λ r. Some (lone r.0.mark r.0.low r.0.high, r.1)) (rep i low high, j) _
      (times_spelled c) refl))

  base_braces : (room : ℕ) (s : RawSere) (i j : ℕ) → At symbols i symbol.OpenBrace → cat_at symbols room (i + 1)
      ≡ Some (s, j) → At symbols j symbol.CloseBrace
      → base_with symbols (cat_at symbols room) i ≡ Some (s, j + 1)
  unfolding base_with braces_with
  base_braces room s i j a e z =
      this_way _ _ _ _ (at symbols i symbol.OpenBrace a) (then (cat_at symbols room (i + 1))
      (λ x. need (is_at symbols x.1 symbol.CloseBrace) (Some (x.0, x.1 + 1))) (s, j) _ e
      (has _ _ _ (at symbols j symbol.CloseBrace z) refl))

  inner_cat : (room : ℕ) (s : RawSere) (i j : ℕ) → levels_above symbols (elem_in symbols room) 5 i ≡ Some (s, j)
      → cat_at symbols (suc room) i ≡ Some (s, j)
  unfolding cat_at
  inner_cat room s i j e = e

  join_step : (room k : ℕ) (l r : RawSere) (m j : ℕ) → levels_above symbols (elem_in symbols room) k (m + 1)
      ≡ Some (r, j)
      → sere_join_with symbols (levels_above symbols (elem_in symbols room) k) (l, m) ≡ Some (join m l r, j)
  unfolding sere_join_with
  join_step room k l r m j e = then (levels_above symbols (elem_in symbols room) k (m + 1))
      (λ x. Some (join m l x.0, x.1)) (r, j) _ e refl

  join_case : (room k : ℕ) (l r : RawSere) (i m j : ℕ) → sere_level (symbol_at symbols m) ≡ suc k → (i < m)
      × (m ≤ length symbols) → (m + 1 < j) × (j ≤ length symbols)
      → Spelled room (suc k) l i m → Spelled room k r (m + 1) j → Spelled room (suc k) (join m l r) i j
  join_case room zero l r i m j o a b p q = absurd (no_level_one (symbol_at symbols m) o)
  join_case room (suc k) l r i m j o a b p q = λ h.
      turns (length symbols) (sere_joins symbols (suc (suc k)))
      (sere_join_with symbols (levels_above symbols (elem_in symbols room) k))
      (levels_above symbols (elem_in symbols room) (suc k) i) (l, m) (join m l r, j) (p (omega (arith, o))) a.1
      (eq-eqb (sere_level (symbol_at symbols m)) (suc (suc k)) o)
      (join_step room k l r m j (level_read room k r (m + 1) j b.1 h q)) (omega arith)

  way_begins : (room k : ℕ) (s : RawSere) (i j : ℕ) → levels_above symbols (elem_in symbols room) k i ≡ Some (s, j)
      → JoinWay room k i s j
  unfolding levels_above
  way_begins room k s i j r = record {
    left = suc (length symbols);
    enough = omega arith;
    same = ap (λ (o : Option (RawSere × ℕ)). o >>= loop (sere_joins symbols (suc (suc k)))
        (sere_join_with symbols (levels_above symbols (elem_in symbols room) k)) (suc (length symbols))) r;
  }

  looser_case : (room k : ℕ) (s : RawSere) (i j : ℕ) → (k ≡ 0 → begins_sequence (symbol_at symbols i) ≡ true)
      → j ≤ length symbols → Spelled room k s i j
      → Spelled room (suc k) s i j
  looser_case room zero s i j b within p = λ h. elem_tight room s i j (b refl) (tight_stops room s i j p within h)
  looser_case room (suc k) s i j b within p = λ h. way_begins room k s i j (level_read room k s i j within h p)

  close_level : (j : ℕ) → At symbols j symbol.CloseBrace → 6 < sere_level (symbol_at symbols j)
  close_level j h = let z : sere_level (symbol_at symbols j) ≡ 7 = rw h refl in omega (arith, z)

  begins_if : {room : ℕ} {s : RawSere} {i j : ℕ} (k : ℕ) → IsSere symbols room k s i j → k ≡ 0
      → begins_sequence (symbol_at symbols i) ≡ true
  begins_if {room = room} {s = s} {i = i} {j = j} k p none =
      tight_begins symbols (subst (λ (n : ℕ). IsSere symbols room n s i j) none p)

  pub spelled : {room level : ℕ} {s : RawSere} {i j : ℕ} → IsSere symbols room level s i j → Spelled room level s i j
  spelled (braces {room = r} {s = s} {i = i} {j = j} a p z) =
      base_way (suc r) s i (j + 1)
      (base_braces (suc r) s i j a (inner_cat r s (i + 1) j (level_read r 5 s (i + 1) j (sere_bounds symbols p).1
      (close_level j z) (spelled p))) z)
  spelled {room = room} (name {i = i} a) = base_way room (named i) i (i + 1) (base_named room i a)
  spelled {room = room} (alone {low = low} {high = high} {i = i} {j = j} c) = base_way room (lone i low high) i j
      (base_lone room i j c)
  spelled {room = room} (grammar.IsSere.again {s = s} {i = i} {m = m} {j = j} p c) =
      again_way (tight_in symbols room i) s m j (spelled p) c (sere_bounds symbols p).1
  spelled {room = room} (timed {s = s} {i = i} {j = j} p) = λ h. elem_timed room s i j (timed_apart symbols p)
      (timed_spelled p h)
  spelled {room = room} (joins {k = k} {l = l} {r = r} {i = i} {m = m} {j = j} lt p o q) =
      join_case room k l r i m j o (sere_bounds symbols p) (sere_bounds symbols q) (spelled p) (spelled q)
  spelled {room = room} (looser {k = k} {s = s} {i = i} {j = j} p) =
      looser_case room k s i j (begins_if k p) (sere_bounds symbols p).1 (spelled p)

  pub tight_spelled : {room : ℕ} {s : RawSere} {i j : ℕ} → IsSere symbols room 0 s i j
      → 0 < sere_level (symbol_at symbols j)
      → tight_in symbols room i ≡ Some (s, j)
  tight_spelled {room = room} {s = s} {i = i} {j = j} p h = tight_stops room s i j (spelled p) (sere_bounds symbols p).1
      h
