-- From the items of a unit to those that are spelled, and back.
use Rattle.std.proofs.Common.{◌≡◌, ℕ, suc, ◌+◌, ◌-◌, ◌<◌, ◌≤◌, inl, inr, false, cond}
use Rattle.std.proofs.Common.{None, List, [], ◌∷◌, ◌++◌, length, take, refl, sym, ap, subst, ◌∙◌, arith, nat_eq}
use Rattle.std.proofs.lemmas.Bool.{cases_lt, and_left, both_ways}
use Rattle.psl_lexer.specs.declared.kinds.Token.{Token}
use Rattle.psl_grammar.specs.declared.symbols.Symbol.{Symbol}
use Rattle.psl_grammar.specs.declared.symbols.Symbol.TheVariants as symbol
use Rattle.psl_grammar.specs.RawUnit.{RawItem}
use Rattle.psl_grammar.specs.Symbols.{symbol_at, At}
use Rattle.psl_grammar.specs.ItemGrammar as item
use Rattle.psl_grammar.specs.ItemGrammar.{AnyName, IsItem, IsShort, item_limit}
use Rattle.psl_grammar.specs.Units as units
use Rattle.psl_grammar.specs.Units.{Known, symbols_in, outside, known_after, AreItems, IsUnit}
use Rattle.psl_parser.specs.Marks.{is_next, is_close_parenthesis, is_close_bracket}
use Rattle.psl_parser.specs.OpenPhrases.{reach_of, stands_in, open_phrases}
use Rattle.psl_parser.specs.Depth.{begins_item, braces_behind, behind, behind_all, is_wire, IsOneTooMany}
use Rattle.psl_parser.specs.Depth.{NoneTooDeep}
use Rattle.psl_parser.specs.Seen.{is_semicolon, way_to, seen}
use Rattle.unit_depth.specs.Spelled as spell
use Rattle.unit_depth.specs.Spelled.{SpellItem, SpellItems, SpellUnit, Spell}
use Rattle.unit_depth.proofs.Counting.{count_split}
use Rattle.unit_depth.proofs.Phrases.{inner, Spanned, spanned_none, spanned_join, spanned_token}
use Rattle.unit_depth.proofs.Tokens.{reach_at, form_off, head_off}
use Rattle.unit_depth.proofs.Keeping.{way}
use Rattle.unit_depth.proofs.Blanks.{way_same}
use Rattle.unit_depth.proofs.Seeing.{way_is, seen_length}
use Rattle.unit_depth.proofs.Steps.{moved, plain_seen, Boundary, known_on, seen_setting, StepTold, step_told}

-- ---- an item at the limit

to_spell : (symbols : List Symbol) {it : RawItem} {m e : ℕ} → IsItem symbols it m e → SpellItem symbols 64 it m e
to_spell symbols (item.clock a b c d n f) = spell.clock (item.clock a b c d n f)
to_spell symbols (item.clock_parens a b c o d n s f) = spell.clock (item.clock_parens a b c o d n s f)
to_spell symbols (item.wire a n c) = spell.wire (item.wire a n c)
to_spell symbols (item.vector a r n c) = spell.wire (item.vector a r n c)
to_spell symbols (item.sequence a n c p z) = spell.sequence a n c p z
to_spell symbols (item.property a n c p z) = spell.property a n c p z
to_spell symbols (item.assert a p r) = spell.assert a p r
to_spell symbols (item.labelled n c a p r) = spell.labelled n c a p r

from_spell : (symbols : List Symbol) {it : RawItem} {m e : ℕ} → SpellItem symbols 64 it m e → IsItem symbols it m e
from_spell symbols (spell.clock p) = p
from_spell symbols (spell.wire p) = p
from_spell symbols (spell.sequence a n c p z) = item.sequence a n c p z
from_spell symbols (spell.property a n c p z) = item.property a n c p z
from_spell symbols (spell.assert a p r) = item.assert a p r
from_spell symbols (spell.labelled n c a p r) = item.labelled n c a p r

-- what is no more than the limit isn't above it
not_above : (n k : ℕ) → (k < n → ⊥) → n ≤ k
not_above n k not_so = elim (cases_lt k n) [ inl h ↦ absurd (not_so h) | inr h ↦ h ]

module _ (text : List ℕ) (tokens : List Token) (brace : ℕ) (start : At (outside text tokens) 0 symbol.Vunit)
    (braced : At (outside text tokens) brace symbol.OpenBrace) (big : 2 ≤ brace) where
  abbrev pub S : List Symbol
  S = seen text tokens

  full_way : (n : ℕ) → n ≤ length tokens → way S n ≡ behind_all (take n S)
  full_way n le = let e = seen_length text tokens in way_is S n (omega arith)

  seen_is : (n : ℕ) → way (outside text tokens) n ≡ way S n
  seen_is n = way_same (outside text tokens) S (plain_seen text tokens) n

  -- ---- items that are too long

  short_none : (room : ℕ) (known : Known) (it : RawItem) (m e : ℕ)
      → StepTold text tokens brace start braced room known it m e → IsShort it m e → (p : ℕ) → m ≤ p → p < e
      → ¬ IsOneTooMany S p
  short_none room known it m e s short p low high many =
      let own = s.own p low high in
      let fits = s.within in
      let way_of = ap (λ (w : ℕ × ℕ). w.1) (full_way p (omega arith)) in
      let full : (behind_all (take p S)).1 ≡ 2048 = many.0.1 in
      let same : p - 2048 ≡ m = omega arith in
      let not_so : is_wire (symbol_at S m) ≡ false =
      sym (ap (λ (k : ℕ). is_wire (symbol_at S k)) same) ∙ many.1 in
      elim s.long [
        | inl h ↦ both_ways (is_wire (symbol_at S m)) not_so h.0
        | inr h ↦ let le : e ≤ m + 2048 = h.1 short in omega arith
      ]

  none_short : (room : ℕ) (known : Known) (it : RawItem) (m e : ℕ)
      → StepTold text tokens brace start braced room known it m e → NoneTooDeep S (length tokens) → IsShort it m e
  none_short room known it m e s none =
      elim s.long [
        | inl h ↦ h.1
        | inr h ↦
            h.2 (not_above e (m + 2048) (λ over.
            let le = s.within in
            let same : m + 2048 - 2048 ≡ m = omega arith in
            let own = s.own (m + 2048) (omega arith) over in
            let opener = s.nested (m + 2048) (omega arith) over in
            let way_of = full_way (m + 2048) (omega arith) in
            let full = ap (λ (w : ℕ × ℕ). w.1) way_of in
            let some = ap (λ (w : ℕ × ℕ). w.0) way_of in
            let long = seen_length text tokens in
            none (m + 2048) (omega arith) (
              omega arith,
              inr (
                (omega arith, omega arith),
                ap (λ (k : ℕ). is_wire (symbol_at S k)) same ∙ h.0,
              ),
            )))
      ]

  -- ---- from a unit

  pub record Made (known : Known) (items : List RawItem) (i j : ℕ) : Type 0 where
    pub le : i ≤ j
    pub boundary : Boundary text tokens known j
    pub spelled : SpellItems text tokens 64 known items i j
    pub spanned : Spanned S 64 i j
    pub short : (p : ℕ) → i ≤ p → p < j → ¬ IsOneTooMany S p

  made_more : (known : Known) (items : List RawItem) (it : RawItem) (i m j : ℕ) → Made known items i m → brace < i
      → IsItem (symbols_in text known tokens) it m j → IsShort it m j
      → Made (known_after text tokens known it) (items ++ it ∷ []) i j
  made_more known items it i m j r lt p short =
      let le = r.le in
      let q = to_spell (symbols_in text known tokens) p in
      let s =
      step_told text tokens brace start braced 64 known it m j r.boundary q (omega arith) (omega arith) in
      let some = s.some in
      record {
        le = omega arith;
        boundary = s.next;
        spelled = spell.more r.spelled q;
        spanned = spanned_join S 64 i m j le (omega arith) r.spanned (s.spanned (omega arith));
        short = λ n low high. elim (cases_lt n m) [
          | inl h ↦ r.short n low h
          | inr h ↦ short_none 64 known it m j s short n h high
        ];
      }

  pub made : {known : Known} {items : List RawItem} {i j : ℕ} → AreItems text tokens known items i j → brace < i
      → Boundary text tokens [] i → Made known items i j
  made (units.none {i = i}) lt b = record {
    le = omega arith;
    boundary = b;
    spelled = spell.none;
    spanned = spanned_none S 64 i;
    short = λ p low high. absurd (omega arith);
  }
  made (units.more {known = known} {items = items} {item = it} {i = i} {m = m} {j = j} p q short) lt b =
      made_more known items it i m j (made p lt b) lt q short

  -- ---- to a unit

  pub record Read (known : Known) (items : List RawItem) (i j : ℕ) : Type 0 where
    pub le : i ≤ j
    pub boundary : Boundary text tokens known j
    pub spelled : AreItems text tokens known items i j

  few_open : NoneTooDeep S (length tokens) → (m p : ℕ) → m ≤ p → p < length tokens → inner S m p ≤ 64
  few_open none m p low high =
      let split = count_split (λ o. stands_in S o p) 0 m p (omega arith) low in
      let long = seen_length text tokens in
      let few : open_phrases S p ≤ 64 =
      not_above (open_phrases S p) 64 (λ over. none p high (omega arith, inl over)) in
      omega arith

  read_more : (room : ℕ) (known : Known) (items : List RawItem) (it : RawItem) (i m j : ℕ)
      → NoneTooDeep S (length tokens) → Read known items i m → brace < i
      → SpellItem (symbols_in text known tokens) room it m j
      → Read (known_after text tokens known it) (items ++ it ∷ []) i j
  read_more room known items it i m j none r lt p =
      let le = r.le in
      let s =
      step_told text tokens brace start braced room known it m j r.boundary p (omega arith) (omega arith) in
      let some = s.some in
      let fits = s.within in
      record {
        le = omega arith;
        boundary = s.next;
        spelled = units.more r.spelled
            (from_spell (symbols_in text known tokens)
            (s.fits 64 (λ n low high. few_open none m n low (omega arith))))
            (none_short room known it m j s none);
      }

  pub read : {room : ℕ} {known : Known} {items : List RawItem} {i j : ℕ} → SpellItems text tokens room known items i j
      → NoneTooDeep S (length tokens) → brace < i → Boundary text tokens [] i → Read known items i j
  read (spell.none {i = i}) none lt b = record { le = omega arith; boundary = b; spelled = units.none }
  read {room = room} (spell.more {known = known} {items = items} {item = it} {i = i} {m = m} {j = j} p q) none lt b =
      read_more room known items it i m j none (read p none lt b) lt q

  -- ---- the tokens before the items

  pub record Header (i : ℕ) : Type 0 where
    pub same : i ≡ suc brace
    pub quiet : (n : ℕ) → n < i → is_semicolon (symbol_at (outside text tokens) n) ≡ false
    pub flat : (n : ℕ) → n ≤ brace → (way (outside text tokens) n).0 ≡ 0
    pub spanned : Spanned S 64 0 i

  pub header_boundary : (i : ℕ) → Header i → Boundary text tokens [] i
  header_boundary i h =
      let zero_braces = h.flat brace (omega arith) in
      subst (λ (k : ℕ). Boundary text tokens [] k) (sym h.same) (record {
        before = sym (known_on text tokens [] 0 (suc brace)
            (λ k low high. and_left (is_semicolon (symbol_at (outside text tokens) k))
            (nat_eq (way_to text tokens k).0 1) (h.quiet k (let e = h.same in omega arith)))
            refl (suc brace) (omega arith) (omega arith));
        braces = ap (λ (s : Symbol). braces_behind (way (outside text tokens) brace).0 s) braced
            ∙ (let e : (way (outside text tokens) brace).0 + 1 ≡ 1 = omega arith in e);
        own = ap (λ (s : Symbol). cond (begins_item (way (outside text tokens) brace).0 s) 0
            ((way (outside text tokens) brace).1 + 1)) braced
            ∙ ap (λ (n : ℕ). cond (nat_eq n 0) 0 ((way (outside text tokens) brace).1 + 1)) zero_braces;
      })

  -- ---- all tokens

  close_reach : (j : ℕ) → At S j symbol.CloseBrace → reach_of S j ≡ None
  close_reach j at =
      let x = seen_setting text tokens brace start braced in
      reach_at x j symbol.CloseBrace at
      (form_off x j (head_off x j (ap is_next at) (ap is_close_parenthesis at)) (ap is_close_bracket at))

  pub none_deep : (known : Known) (items : List RawItem) (i j : ℕ) → Header i → Made known items i j
      → At (outside text tokens) j symbol.CloseBrace → length tokens ≡ j + 1 → NoneTooDeep S (length tokens)
  none_deep known items i j h r close long n lt deep =
      let le = r.le in
      let shut : At S j symbol.CloseBrace =
      moved (outside text tokens) S (plain_seen text tokens) j symbol.CloseBrace refl (λ e. cc) close in
      let whole =
      spanned_join S 64 0 i (suc j) (omega arith) (omega arith) h.spanned
      (spanned_join S 64 i j (suc j) le (omega arith) r.spanned
      (spanned_token S 64 j (close_reach j shut))) in
      let few = whole.within n (omega arith) (omega arith) in
      elim deep.1 [
        | inl over ↦ omega arith
        | inr many ↦
            elim (cases_lt n i) [
              | inl before ↦
                  let e = h.same in
                  let flat = h.flat n (omega arith) in
                  let seen_way = ap (λ (w : ℕ × ℕ). w.0) (seen_is n) in
                  let full_of = ap (λ (w : ℕ × ℕ). w.0) (full_way n (omega arith)) in
                  let some : 0 < (behind_all (take n S)).0 = many.0.0 in
                  omega arith
              | inr behind ↦
                  elim (cases_lt n j) [
                    | inl inside ↦ r.short n behind inside many
                    | inr last ↦
                        let b = r.boundary in
                        let own = b.own in
                        let same : n ≡ j = omega arith in
                        let seen_way = ap (λ (w : ℕ × ℕ). w.1) (seen_is j) in
                        let full_of = ap (λ (w : ℕ × ℕ). w.1) (full_way j (omega arith)) in
                        let full : (behind_all (take j S)).1 ≡ 2048 =
                        subst (λ (k : ℕ). (behind_all (take k S)).1 ≡ 2048) same many.0.1 in
                        omega arith
                  ]
            ]
      ]
