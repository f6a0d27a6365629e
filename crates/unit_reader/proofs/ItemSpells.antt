-- An item is what is read.
use Rattle.std.proofs.Common.{◌≡◌, ℕ, suc, ◌+◌, ◌<◌, ◌≤◌, false, IsTrue, List, [], ◌∷◌, ◌++◌, length, Option, Some}
use Rattle.std.proofs.Common.{None, refl, sym, ap, subst, ◌∙◌, arith}
use Rattle.psl_grammar.specs.declared.symbols.Symbol.{Symbol}
use Rattle.psl_grammar.specs.declared.symbols.Symbol.TheVariants as symbol
use Rattle.psl_grammar.specs.declared.symbols.Symbol.TheVariants.{Name, SequenceName, PropertyName}
use Rattle.psl_grammar.specs.Symbols.{symbol_at, At, is_name}
use Rattle.psl_grammar.specs.RawSere.{RawSere}
use Rattle.psl_grammar.specs.RawProp.{RawProp, seq}
use Rattle.psl_grammar.specs.RawUnit as raw
use Rattle.psl_grammar.specs.RawUnit.{RawItem}
use Rattle.psl_grammar.specs.SereGrammar.{IsSeq}
use Rattle.psl_grammar.specs.PropGrammar.{IsRange, IsProp, prop}
use Rattle.psl_grammar.specs.ItemGrammar.{AnyName, AreNames, one, more, IsReport, none, some, IsItem}
use Rattle.psl_grammar.specs.ItemGrammar as g
use Rattle.unit_reader.specs.inner.Steps.{◌>>=◌, is_at, Read}
use Rattle.unit_reader.specs.inner.FormReaders.{range_end}
use Rattle.unit_reader.specs.inner.ItemReaders.{comma_at, name_after, names_at, whole_prop, as_seq, whole_seq}
use Rattle.unit_reader.specs.inner.ItemReaders.{report_at, clock_parens_at, clock_at, wire_end, wire_at, sequence_end}
use Rattle.unit_reader.specs.inner.ItemReaders.{sequence_at, property_end, property_at, assert_end, labelled_at}
use Rattle.unit_reader.specs.inner.ItemReaders.{item_at}
use Rattle.unit_reader.proofs.SymbolTests.{there, is_other}
use Rattle.unit_reader.proofs.Loops.{Turns, stops, turns}
use Rattle.unit_reader.proofs.ExprSpells.{this_way, that_way, has, then, at}
use Rattle.unit_reader.proofs.PropFacts.{follow, apart, seq_end, prop_some}
use Rattle.unit_reader.proofs.SereFacts.{timed_bounds, sere_bounds}
use Rattle.psl_grammar.specs.SereGrammar as seres
use Rattle.unit_reader.proofs.PropSpells.{range_spelled, prop_spelled, seq_spelled}

module _ (symbols : List Symbol) where
  name_end : (s : Symbol) → IsTrue (is_name s) → s ≡ symbol.End → ⊥
  name_end Name h e = cc
  name_end SequenceName h e = cc
  name_end PropertyName h e = cc
  name_end _ h e = cc

  name_within : (i : ℕ) → AnyName symbols i → i < length symbols
  name_within i h = there symbols i (symbol_at symbols i) refl (name_end (symbol_at symbols i) h)

  names_within : {names : List ℕ} {i j : ℕ} → AreNames symbols names i j → j ≤ length symbols
  names_within (one {i = i} h) = let l = name_within i h in omega arith
  names_within (more {m = m} p a h) = let l = name_within (m + 1) h in omega arith

  abbrev Way : (i : ℕ) (names : List ℕ) (j : ℕ) → Type 0
  Way i names j = Turns (length symbols) (comma_at symbols) (name_after symbols) (names_at symbols i) (names, j)

  names_way : {names : List ℕ} {i j : ℕ} → AreNames symbols names i j → Way i names j
  unfolding names_at name_after
  names_way (one {i = i} h) = record { left = suc (length symbols); enough = omega arith; same = has _ _ _ h refl }
  names_way (more {names = names} {i = i} {m = m} p a h) =
      turns (length symbols) (comma_at symbols) (name_after symbols) (names_at symbols i) (names, m)
      (names ++ (m + 1) ∷ [], m + 2) (names_way p) (names_within p)
      (at symbols m symbol.Comma a) (has _ _ _ h refl) (omega arith)

  names_spelled : {names : List ℕ} {i j : ℕ} → AreNames symbols names i j → At symbols j symbol.Semicolon
      → names_at symbols i ≡ Some (names, j)
  names_spelled {names = names} {i = i} {j = j} p a =
      stops (length symbols) (comma_at symbols) (name_after symbols) (names_at symbols i) (names, j) (names_way p)
      (names_within p)
      (apart symbols j symbol.Semicolon symbol.Comma a (λ e. cc))

  semicolon_follow : (j : ℕ) → At symbols j symbol.Semicolon → 17 < follow (symbol_at symbols j)
  semicolon_follow j a = let z : follow (symbol_at symbols j) ≡ 18 = ap follow a in omega (arith, z)

  report_follow : {report : Option ℕ} {i j : ℕ} → IsReport symbols report i j → 17 < follow (symbol_at symbols i)
  report_follow (none {i = i} a) = semicolon_follow i a
  report_follow (some {i = i} a b c) = let z : follow (symbol_at symbols i) ≡ 18 = ap follow a in omega (arith, z)

  whole_spelled : {p : RawProp} {i j : ℕ} → IsProp symbols 64 prop p i j → 17 < follow (symbol_at symbols j)
      → whole_prop symbols i ≡ Some (p, j)
  unfolding whole_prop
  whole_spelled p h = prop_spelled symbols p h

  whole_seq_spelled : {s : RawSere} {i j : ℕ} → IsSeq symbols 64 s i j → 17 < follow (symbol_at symbols j)
      → whole_seq symbols i ≡ Some (s, j)
  unfolding whole_seq whole_prop
  whole_seq_spelled {s = s} {i = i} {j = j} p h =
      then (whole_prop symbols i) (as_seq symbols) (seq s false, j) _ (seq_spelled symbols p h)
      (that_way _ _ _ _ (seq_end symbols p) refl)

  report_spelled : {report : Option ℕ} {i j : ℕ} → IsReport symbols report i j → report_at symbols i ≡ Some (report, j)
  unfolding report_at
  report_spelled (none {i = i} a) = this_way _ _ _ _ (at symbols i symbol.Semicolon a) refl
  report_spelled (some {i = i} a b c) =
      that_way _ _ _ _ (apart symbols i symbol.Report symbol.Semicolon a (λ e. cc))
      (has _ _ _ (at symbols i symbol.Report a) (has _ _ _ (at symbols (i + 1) symbol.Text b)
      (has _ _ _ (at symbols (i + 2) symbol.Semicolon c) refl)))

  clock_spelled : (i : ℕ) → At symbols (i + 1) symbol.Clock → At symbols (i + 2) symbol.Equal
      → At symbols (i + 3) symbol.Posedge → AnyName symbols (i + 4)
      → At symbols (i + 5) symbol.Semicolon → clock_at symbols i ≡ Some (raw.clock (i + 4), i + 6)
  unfolding clock_at
  clock_spelled i a b c n d =
      has _ _ _ (at symbols (i + 1) symbol.Clock a) (has _ _ _ (at symbols (i + 2) symbol.Equal b)
      (this_way _ _ _ _ (at symbols (i + 3) symbol.Posedge c)
      (has _ _ _ n (has _ _ _ (at symbols (i + 5) symbol.Semicolon d) refl))))

  clock_parens_spelled : (i : ℕ) → At symbols (i + 1) symbol.Clock → At symbols (i + 2) symbol.Equal
      → At symbols (i + 3) symbol.OpenParenthesis
      → At symbols (i + 4) symbol.Posedge → AnyName symbols (i + 5) → At symbols (i + 6) symbol.CloseParenthesis
      → At symbols (i + 7) symbol.Semicolon
      → clock_at symbols i ≡ Some (raw.clock (i + 5), i + 8)
  unfolding clock_at clock_parens_at
  clock_parens_spelled i a b c d n e f =
      has _ _ _ (at symbols (i + 1) symbol.Clock a) (has _ _ _ (at symbols (i + 2) symbol.Equal b)
      (that_way _ _ _ _ (apart symbols (i + 3) symbol.OpenParenthesis symbol.Posedge c (λ e. cc))
      (has _ _ _ (at symbols (i + 3) symbol.OpenParenthesis c) (has _ _ _ (at symbols (i + 4) symbol.Posedge d)
      (has _ _ _ n
      (has _ _ _ (at symbols (i + 6) symbol.CloseParenthesis e) (has _ _ _ (at symbols (i + 7) symbol.Semicolon f)
      refl)))))))

  name_bracket : (s : Symbol) → IsTrue (is_name s) → s ≡ symbol.OpenBracket → ⊥
  name_bracket s h e = let z = rw e at h in cc

  names_begin : {names : List ℕ} {i j : ℕ} → AreNames symbols names i j → AnyName symbols i
  names_begin (one h) = h
  names_begin (more p a h) = names_begin p

  wire_spelled : {names : List ℕ} (i j : ℕ) → AreNames symbols names (i + 1) j → At symbols j symbol.Semicolon
      → wire_at symbols i ≡ Some (raw.wire None names, j + 1)
  unfolding wire_at wire_end
  wire_spelled {names = names} i j p a =
      that_way _ _ _ _ (is_other (symbol_at symbols (i + 1)) symbol.OpenBracket
      (name_bracket (symbol_at symbols (i + 1)) (names_begin p)))
      (then (names_at symbols (i + 1)) (wire_end symbols None) (names, j) _ (names_spelled p a)
      (has _ _ _ (at symbols j symbol.Semicolon a) refl))

  vector_spelled : {names : List ℕ} (i j : ℕ) → IsRange symbols (i + 1) → AreNames symbols names (i + 6) j
      → At symbols j symbol.Semicolon
      → wire_at symbols i ≡ Some (raw.wire (Some (i + 2, i + 4)) names, j + 1)
  unfolding wire_at wire_end
  vector_spelled {names = names} i j r p a =
      let same : i + 6 ≡ i + 1 + 5 = omega arith in
      this_way (is_at symbols (i + 1) symbol.OpenBracket) (range_end symbols (i + 1) >>= λ j. names_at symbols j >>=
      wire_end symbols (Some (i + 2, i + 4))) _ _ (at symbols (i + 1) symbol.OpenBracket r.opens)
      (then (range_end symbols (i + 1)) (λ j. names_at symbols j >>= wire_end symbols (Some (i + 2, i + 4))) (i + 1 + 5)
      _ (range_spelled symbols (i + 1) r)
      (then (names_at symbols (i + 1 + 5)) (wire_end symbols (Some (i + 2, i + 4))) (names, j) _
      (subst (λ (n : ℕ). names_at symbols n ≡ Some (names, j)) same (names_spelled p a))
      (has _ _ _ (at symbols j symbol.Semicolon a) refl)))

  sequence_spelled : {s : RawSere} (i j : ℕ) → AnyName symbols (i + 1) → At symbols (i + 2) symbol.Equal
      → IsSeq symbols 64 s (i + 3) j
      → At symbols j symbol.Semicolon → sequence_at symbols i ≡ Some (raw.RawItem.sequence (i + 1) s, j + 1)
  unfolding sequence_at
  sequence_spelled {s = s} i j n a p c =
      has _ _ _ n (has _ _ _ (at symbols (i + 2) symbol.Equal a)
      (then (whole_seq symbols (i + 3)) (sequence_end symbols (i + 1)) (s, j) _
      (whole_seq_spelled p (semicolon_follow j c)) (has _ _ _ (at symbols j symbol.Semicolon c) refl)))

  property_spelled : {p : RawProp} (i j : ℕ) → AnyName symbols (i + 1) → At symbols (i + 2) symbol.Equal
      → IsProp symbols 64 prop p (i + 3) j
      → At symbols j symbol.Semicolon → property_at symbols i ≡ Some (raw.RawItem.property (i + 1) p, j + 1)
  unfolding property_at
  property_spelled {p = q} i j n a p c =
      has _ _ _ n (has _ _ _ (at symbols (i + 2) symbol.Equal a)
      (then (whole_prop symbols (i + 3)) (property_end symbols (i + 1)) (q, j) _
      (whole_spelled p (semicolon_follow j c)) (has _ _ _ (at symbols j symbol.Semicolon c) refl)))

  assert_spelled : {p : RawProp} {report : Option ℕ} (i m j word : ℕ) (label : Option ℕ) → IsProp symbols 64 prop p i m
      → IsReport symbols report m j
      → (whole_prop symbols i >>= assert_end symbols word label) ≡ Some (raw.assert word label p report, j)
  unfolding assert_end
  assert_spelled {p = q} {report = report} i m j word label p r =
      then (whole_prop symbols i) (assert_end symbols word label) (q, m) _ (whole_spelled p (report_follow r))
      (then (report_at symbols m) (λ r. Some (raw.assert word label q r.0, r.1)) (report, j) _ (report_spelled r) refl)

  labelled_spelled : {p : RawProp} {report : Option ℕ} (i m j : ℕ) → AnyName symbols i → At symbols (i + 1) symbol.Colon
      → At symbols (i + 2) symbol.Assert
      → IsProp symbols 64 prop p (i + 3) m → IsReport symbols report m j → labelled_at symbols i
      ≡ Some (raw.assert (i + 2) (Some i) p report, j)
  unfolding labelled_at
  labelled_spelled i m j n a b p r =
      has _ _ _ n (has _ _ _ (at symbols (i + 1) symbol.Colon a)
      (has _ _ _ (at symbols (i + 2) symbol.Assert b) (assert_spelled (i + 3) m j (i + 2) (Some i) p r)))

  other : (i : ℕ) (s t : Symbol) → At symbols i s → (s ≡ t → ⊥) → is_at symbols i t ≡ false
  other i s t a not = apart symbols i s t a not

  name_other : (i : ℕ) (t : Symbol) → AnyName symbols i → is_name t ≡ false → is_at symbols i t ≡ false
  name_other i t n h = is_other (symbol_at symbols i) t (λ e. let z = sym n ∙ ap is_name e ∙ h in cc)

  is_clock : (i : ℕ) (y : Read RawItem) → At symbols i symbol.Default → clock_at symbols i ≡ y → item_at symbols i ≡ y
  unfolding item_at
  is_clock i y a e = this_way _ _ _ y (at symbols i symbol.Default a) e

  is_wire : (i : ℕ) (y : Read RawItem) → At symbols i symbol.Wire → wire_at symbols i ≡ y → item_at symbols i ≡ y
  unfolding item_at
  is_wire i y a e = that_way _ _ _ y (other i symbol.Wire symbol.Default a (λ e. cc))
      (this_way _ _ _ y (at symbols i symbol.Wire a) e)

  is_sequence : (i : ℕ) (y : Read RawItem) → At symbols i symbol.Sequence → sequence_at symbols i ≡ y
      → item_at symbols i ≡ y
  unfolding item_at
  is_sequence i y a e =
      that_way _ _ _ y (other i symbol.Sequence symbol.Default a (λ e. cc))
      (that_way _ _ _ y (other i symbol.Sequence symbol.Wire a (λ e. cc))
      (this_way _ _ _ y (at symbols i symbol.Sequence a) e))

  is_property : (i : ℕ) (y : Read RawItem) → At symbols i symbol.Property → property_at symbols i ≡ y
      → item_at symbols i ≡ y
  unfolding item_at
  is_property i y a e =
      that_way _ _ _ y (other i symbol.Property symbol.Default a (λ e. cc))
      (that_way _ _ _ y (other i symbol.Property symbol.Wire a (λ e. cc))
      (that_way _ _ _ y (other i symbol.Property symbol.Sequence a (λ e. cc))
      (this_way _ _ _ y (at symbols i symbol.Property a) e)))

  is_assert : (i : ℕ) (y : Read RawItem) → At symbols i symbol.Assert
      → (whole_prop symbols (i + 1) >>= assert_end symbols i None) ≡ y → item_at symbols i ≡ y
  unfolding item_at
  is_assert i y a e =
      that_way _ _ _ y (other i symbol.Assert symbol.Default a (λ e. cc))
      (that_way _ _ _ y (other i symbol.Assert symbol.Wire a (λ e. cc))
      (that_way _ _ _ y (other i symbol.Assert symbol.Sequence a (λ e. cc))
      (that_way _ _ _ y (other i symbol.Assert symbol.Property a (λ e. cc))
      (this_way (is_at symbols i symbol.Assert) (whole_prop symbols (i + 1) >>= assert_end symbols i None) _ y
      (at symbols i symbol.Assert a) e))))

  is_labelled : (i : ℕ) (y : Read RawItem) → AnyName symbols i → labelled_at symbols i ≡ y → item_at symbols i ≡ y
  unfolding item_at
  is_labelled i y n e =
      that_way _ _ _ y (name_other i symbol.Default n refl) (that_way _ _ _ y (name_other i symbol.Wire n refl)
      (that_way _ _ _ y (name_other i symbol.Sequence n refl) (that_way _ _ _ y (name_other i symbol.Property n refl)
      (that_way (is_at symbols i symbol.Assert) (whole_prop symbols (i + 1) >>= assert_end symbols i None) _ y
      (name_other i symbol.Assert n refl) e))))

  pub item_spelled : {item : RawItem} {i j : ℕ} → IsItem symbols item i j → item_at symbols i ≡ Some (item, j)
  item_spelled (g.clock {i = i} a b c d n e) = is_clock i _ a (clock_spelled i b c d n e)
  item_spelled (g.clock_parens {i = i} a b c d e n f h) = is_clock i _ a (clock_parens_spelled i b c d e n f h)
  item_spelled (g.wire {i = i} {j = j} a p b) = is_wire i _ a (wire_spelled i j p b)
  item_spelled (g.vector {i = i} {j = j} a r p b) = is_wire i _ a (vector_spelled i j r p b)
  item_spelled (g.IsItem.sequence {i = i} {j = j} a n b p c) = is_sequence i _ a (sequence_spelled i j n b p c)
  item_spelled (g.IsItem.property {i = i} {j = j} a n b p c) = is_property i _ a (property_spelled i j n b p c)
  item_spelled (g.assert {i = i} {m = m} {j = j} a p r) = is_assert i _ a (assert_spelled (i + 1) m j i None p r)
  item_spelled (g.labelled {i = i} {m = m} {j = j} n a b p r) = is_labelled i _ n (labelled_spelled i m j n a b p r)

  -- ---- where an item begins and ends

  names_some : {names : List ℕ} {i j : ℕ} → AreNames symbols names i j → i < j
  names_some (one h) = omega arith
  names_some (more p a h) = let l = names_some p in omega arith

  seq_some : {s : RawSere} {i j : ℕ} → IsSeq symbols 64 s i j → i < j
  seq_some (seres.tight p) = (sere_bounds symbols p).0
  seq_some (seres.IsSeq.timed p) = (timed_bounds symbols p).0

  report_some : {report : Option ℕ} {i j : ℕ} → IsReport symbols report i j → i < j
  report_some (none a) = omega arith
  report_some (some a b c) = omega arith

  report_within : {report : Option ℕ} {i j : ℕ} → IsReport symbols report i j → j ≤ length symbols
  report_within (none {i = i} a) = let l = there symbols i symbol.Semicolon a (λ p. cc) in omega arith
  report_within (some {i = i} a b c) = let l = there symbols (i + 2) symbol.Semicolon c (λ p. cc) in omega arith

  closed_within : (j : ℕ) → At symbols j symbol.Semicolon → j + 1 ≤ length symbols
  closed_within j a = let l = there symbols j symbol.Semicolon a (λ p. cc) in omega arith

  pub item_some : {item : RawItem} {i j : ℕ} → IsItem symbols item i j → i < j
  item_some (g.clock a b c d n e) = omega arith
  item_some (g.clock_parens a b c d e n f h) = omega arith
  item_some (g.wire a p b) = let l = names_some p in omega arith
  item_some (g.vector a r p b) = let l = names_some p in omega arith
  item_some (g.IsItem.sequence a n b p c) = let l = seq_some p in omega arith
  item_some (g.IsItem.property a n b p c) = let l = prop_some symbols p in omega arith
  item_some (g.assert a p r) = let l = prop_some symbols p in let k = report_some r in omega arith
  item_some (g.labelled n a b p r) = let l = prop_some symbols p in let k = report_some r in omega arith

  pub item_within : {item : RawItem} {i j : ℕ} → IsItem symbols item i j → j ≤ length symbols
  item_within (g.clock {i = i} a b c d n e) = let l = closed_within (i + 5) e in omega arith
  item_within (g.clock_parens {i = i} a b c d e n f h) = let l = closed_within (i + 7) h in omega arith
  item_within (g.wire {j = j} a p b) = closed_within j b
  item_within (g.vector {j = j} a r p b) = closed_within j b
  item_within (g.IsItem.sequence {j = j} a n b p c) = closed_within j c
  item_within (g.IsItem.property {j = j} a n b p c) = closed_within j c
  item_within (g.assert a p r) = report_within r
  item_within (g.labelled n a b p r) = report_within r

  pub item_starts : {item : RawItem} {i j : ℕ} → IsItem symbols item i j → is_at symbols i symbol.CloseBrace ≡ false
  item_starts (g.clock {i = i} a b c d n e) = other i symbol.Default symbol.CloseBrace a (λ e. cc)
  item_starts (g.clock_parens {i = i} a b c d e n f h) = other i symbol.Default symbol.CloseBrace a (λ e. cc)
  item_starts (g.wire {i = i} a p b) = other i symbol.Wire symbol.CloseBrace a (λ e. cc)
  item_starts (g.vector {i = i} a r p b) = other i symbol.Wire symbol.CloseBrace a (λ e. cc)
  item_starts (g.IsItem.sequence {i = i} a n b p c) = other i symbol.Sequence symbol.CloseBrace a (λ e. cc)
  item_starts (g.IsItem.property {i = i} a n b p c) = other i symbol.Property symbol.CloseBrace a (λ e. cc)
  item_starts (g.assert {i = i} a p r) = other i symbol.Assert symbol.CloseBrace a (λ e. cc)
  item_starts (g.labelled {i = i} n a b p r) = name_other i symbol.CloseBrace n refl
