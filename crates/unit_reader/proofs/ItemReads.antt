-- What is read is an item.
use Rattle.std.proofs.Common.{◌≡◌, ℕ, suc, ◌+◌, ◌-◌, false, List, [], ◌∷◌, length, Option, Some, None, refl, subst}
use Rattle.std.proofs.Common.{arith}
use Rattle.psl_grammar.specs.declared.symbols.Symbol.{Symbol}
use Rattle.psl_grammar.specs.declared.symbols.Symbol.TheVariants as symbol
use Rattle.psl_grammar.specs.Symbols.{At}
use Rattle.psl_grammar.specs.RawSere.{RawSere}
use Rattle.psl_grammar.specs.RawProp.{RawProp, seq}
use Rattle.psl_grammar.specs.RawUnit as raw
use Rattle.psl_grammar.specs.RawUnit.{RawItem}
use Rattle.psl_grammar.specs.SereGrammar.{IsSeq}
use Rattle.psl_grammar.specs.PropGrammar.{IsProp, prop}
use Rattle.psl_grammar.specs.ItemGrammar.{AreNames, one, more, IsReport, none, some, IsItem}
use Rattle.psl_grammar.specs.ItemGrammar as g
use Rattle.unit_reader.specs.inner.Steps.{◌>>=◌, is_at}
use Rattle.unit_reader.specs.inner.FormReaders.{range_end}
use Rattle.unit_reader.specs.inner.PropReaders.{sequence_of}
use Rattle.unit_reader.specs.inner.ItemReaders.{comma_at, name_after, names_at, whole_prop, as_seq, whole_seq}
use Rattle.unit_reader.specs.inner.ItemReaders.{report_at, clock_parens_at, clock_at, wire_end, wire_at, sequence_end}
use Rattle.unit_reader.specs.inner.ItemReaders.{sequence_at, property_end, property_at, assert_end, labelled_at}
use Rattle.unit_reader.specs.inner.ItemReaders.{item_at}
use Rattle.unit_reader.proofs.SymbolTests.{bound, needed, one_way, given, loop_reads}
use Rattle.unit_reader.proofs.PropReads.{at, range_read, seq_from}
use Rattle.unit_reader.proofs.PropSound.{prop_is}

module _ (symbols : List Symbol) where
  abbrev Names : ℕ → List ℕ × ℕ → Type 0
  Names i y = AreNames symbols y.0 i y.1

  names_read : (i : ℕ) (y : List ℕ × ℕ) → names_at symbols i ≡ Some y → Names i y
  unfolding names_at name_after
  names_read i y e =
      needed _ _ y e
      λ h e1. loop_reads (comma_at symbols) (name_after symbols) (Names i)
      (λ a b go pa step. needed _ _ b step λ k e2. given (Names i) e2 (more pa (at symbols a.1 symbol.Comma go) k))
      (suc (length symbols)) (i ∷ [], i + 1) y (one h) e1

  whole_read : (i : ℕ) (y : RawProp × ℕ) → whole_prop symbols i ≡ Some y → IsProp symbols 64 prop y.0 i y.1
  unfolding whole_prop
  whole_read i y e = prop_is symbols 64 i y e

  sequence_is : (p : RawProp) (s : RawSere) → sequence_of p ≡ Some s → p ≡ seq s false
  sequence_is (seq r false) s e = let same : r ≡ s = cc in subst (λ (x : RawSere). seq r false ≡ seq x false) same refl
  sequence_is p s e = absurd (cc)

  seq_read : (i : ℕ) (y : RawSere × ℕ) → whole_seq symbols i ≡ Some y → IsSeq symbols 64 y.0 i y.1
  unfolding whole_seq
  seq_read i y e =
      bound (whole_prop symbols i) (as_seq symbols) y e
      λ p e1 e2. one_way (is_at symbols (p.1 - 1) symbol.CloseParenthesis) None (sequence_of p.0 >>= λ s. Some (s, p.1))
      y e2
      (λ _ e3. absurd (cc))
      λ h e3. bound (sequence_of p.0) (λ s. Some (s, p.1)) y e3
      λ s e4 e5. given (λ (z : RawSere × ℕ). IsSeq symbols 64 z.0 i z.1) e5
      (seq_from symbols (subst (λ (x : RawProp). IsProp symbols 64 prop x i p.1) (sequence_is p.0 s e4)
      (whole_read i p e1)) h)

  report_read : (i : ℕ) (y : Option ℕ × ℕ) → report_at symbols i ≡ Some y → IsReport symbols y.0 i y.1
  unfolding report_at
  report_read i y e =
      one_way _ _ _ y e (λ h e1. given (λ (z : Option ℕ × ℕ). IsReport symbols z.0 i z.1) e1
      (none (at symbols i symbol.Semicolon h)))
      λ _ e1. needed _ _ y e1 λ a e2. needed _ _ y e2 λ b e3. needed _ _ y e3
      λ c e4. given (λ (z : Option ℕ × ℕ). IsReport symbols z.0 i z.1) e4
      (some (at symbols i symbol.Report a) (at symbols (i + 1) symbol.Text b) (at symbols (i + 2) symbol.Semicolon c))

  abbrev Item : ℕ → RawItem × ℕ → Type 0
  Item i y = IsItem symbols y.0 i y.1

  clock_read : (i : ℕ) (y : RawItem × ℕ) → At symbols i symbol.Default → clock_at symbols i ≡ Some y → Item i y
  unfolding clock_at clock_parens_at
  clock_read i y d e =
      needed _ _ y e λ a e1. needed _ _ y e1
      λ b e2. one_way _ _ _ y e2
      (λ c e3. needed _ _ y e3 λ n e4. needed _ _ y e4
      λ f e5. given (Item i) e5 (g.clock d (at symbols (i + 1) symbol.Clock a) (at symbols (i + 2) symbol.Equal b)
      (at symbols (i + 3) symbol.Posedge c) n (at symbols (i + 5) symbol.Semicolon f)))
      λ _ e3. needed _ _ y e3 λ c e4. needed _ _ y e4 λ f e5. needed _ _ y e5 λ n e6. needed _ _ y e6 λ k e7. needed _ _
      y e7
      λ m e8. given (Item i) e8
      (g.clock_parens d (at symbols (i + 1) symbol.Clock a) (at symbols (i + 2) symbol.Equal b)
      (at symbols (i + 3) symbol.OpenParenthesis c) (at symbols (i + 4) symbol.Posedge f) n
      (at symbols (i + 6) symbol.CloseParenthesis k) (at symbols (i + 7) symbol.Semicolon m))

  wire_read : (i : ℕ) (y : RawItem × ℕ) → At symbols i symbol.Wire → wire_at symbols i ≡ Some y → Item i y
  unfolding wire_at wire_end
  wire_read i y d e =
      one_way (is_at symbols (i + 1) symbol.OpenBracket) (range_end symbols (i + 1) >>= λ j. names_at symbols j >>=
      wire_end symbols (Some (i + 2, i + 4))) (names_at symbols (i + 1) >>= wire_end symbols None) y e
      (λ _ e1. bound (range_end symbols (i + 1)) (λ j. names_at symbols j >>= wire_end symbols (Some (i + 2, i + 4))) y
      e1
      λ j e2 e3. bound (names_at symbols j) (wire_end symbols (Some (i + 2, i + 4))) y e3
      λ l e4 e5. needed _ _ y e5
      λ h e6. given (Item i) e6
      (let r = range_read symbols (i + 1) j e2 in
      let same : j ≡ i + 6 = omega (arith, r.1) in
      g.vector d r.0 (subst (λ (n : ℕ). AreNames symbols l.0 n l.1) same (names_read j l e4))
      (at symbols l.1 symbol.Semicolon h)))
      λ _ e1. bound (names_at symbols (i + 1)) (wire_end symbols None) y e1
      λ l e2 e3. needed _ _ y e3 λ h e4. given (Item i) e4 (g.wire d (names_read (i + 1) l e2)
      (at symbols l.1 symbol.Semicolon h))

  sequence_read : (i : ℕ) (y : RawItem × ℕ) → At symbols i symbol.Sequence → sequence_at symbols i ≡ Some y → Item i y
  unfolding sequence_at
  sequence_read i y d e =
      needed _ _ y e λ n e1. needed _ _ y e1
      λ a e2. bound (whole_seq symbols (i + 3)) (sequence_end symbols (i + 1)) y e2
      λ s e3 e4. needed _ _ y e4 λ h e5. given (Item i) e5 (g.IsItem.sequence d n (at symbols (i + 2) symbol.Equal a)
      (seq_read (i + 3) s e3) (at symbols s.1 symbol.Semicolon h))

  property_read : (i : ℕ) (y : RawItem × ℕ) → At symbols i symbol.Property → property_at symbols i ≡ Some y → Item i y
  unfolding property_at
  property_read i y d e =
      needed _ _ y e λ n e1. needed _ _ y e1
      λ a e2. bound (whole_prop symbols (i + 3)) (property_end symbols (i + 1)) y e2
      λ s e3 e4. needed _ _ y e4 λ h e5. given (Item i) e5 (g.IsItem.property d n (at symbols (i + 2) symbol.Equal a)
      (whole_read (i + 3) s e3) (at symbols s.1 symbol.Semicolon h))

  assert_read : (i : ℕ) (y : RawItem × ℕ) → At symbols i symbol.Assert
      → (whole_prop symbols (i + 1) >>= assert_end symbols i None) ≡ Some y → Item i y
  unfolding assert_end
  assert_read i y d e =
      bound (whole_prop symbols (i + 1)) (assert_end symbols i None) y e
      λ p e1 e2. bound (report_at symbols p.1) (λ r. Some (raw.assert i None p.0 r.0, r.1)) y e2
      λ r e3 e4. given (Item i) e4 (g.assert d (whole_read (i + 1) p e1) (report_read p.1 r e3))

  labelled_read : (i : ℕ) (y : RawItem × ℕ) → labelled_at symbols i ≡ Some y → Item i y
  unfolding labelled_at assert_end
  labelled_read i y e =
      needed _ _ y e λ n e1. needed _ _ y e1 λ a e2. needed _ _ y e2
      λ b e3. bound (whole_prop symbols (i + 3)) (assert_end symbols (i + 2) (Some i)) y e3
      λ p e4 e5. bound (report_at symbols p.1) (λ r. Some (raw.assert (i + 2) (Some i) p.0 r.0, r.1)) y e5
      λ r e6 e7. given (Item i) e7 (g.labelled n (at symbols (i + 1) symbol.Colon a)
      (at symbols (i + 2) symbol.Assert b) (whole_read (i + 3) p e4) (report_read p.1 r e6))

  pub item_read : (i : ℕ) (y : RawItem × ℕ) → item_at symbols i ≡ Some y → IsItem symbols y.0 i y.1
  unfolding item_at
  item_read i y e =
      one_way _ _ _ y e (λ h e1. clock_read i y (at symbols i symbol.Default h) e1)
      λ _ e1. one_way _ _ _ y e1 (λ h e2. wire_read i y (at symbols i symbol.Wire h) e2)
      λ _ e2. one_way _ _ _ y e2 (λ h e3. sequence_read i y (at symbols i symbol.Sequence h) e3)
      λ _ e3. one_way _ _ _ y e3 (λ h e4. property_read i y (at symbols i symbol.Property h) e4)
      λ _ e4. one_way (is_at symbols i symbol.Assert) (whole_prop symbols (i + 1) >>= assert_end symbols i None)
      (labelled_at symbols i) y e4
      (λ h e5. assert_read i y (at symbols i symbol.Assert h) e5) λ _ e5. labelled_read i y e5
