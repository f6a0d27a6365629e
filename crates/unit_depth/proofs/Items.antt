-- What is told of the tokens of an item, whatever room its body takes.
use Rattle.std.proofs.Common.{◌≡◌, ℕ, suc, ◌+◌, ◌<◌, ◌≤◌, ◌⊎◌, inl, inr, true, false, Option, Some, None}
use Rattle.std.proofs.Common.{List, refl, sym, ap, subst, ◌∙◌, arith}
use Rattle.psl_grammar.specs.declared.symbols.Symbol.{Symbol}
use Rattle.psl_grammar.specs.declared.symbols.Symbol.TheVariants as symbol
use Rattle.psl_grammar.specs.RawUnit as raw
use Rattle.psl_grammar.specs.RawUnit.{RawItem}
use Rattle.psl_grammar.specs.Symbols.{At}
use Rattle.psl_grammar.specs.PropGrammar.{IsRange}
use Rattle.psl_grammar.specs.ItemGrammar as item
use Rattle.psl_grammar.specs.ItemGrammar.{AnyName, AreNames, IsReport, IsItem, IsShort, item_limit}
use Rattle.psl_parser.specs.Marks.{ends_operand, is_event, is_next, is_close_parenthesis}
use Rattle.psl_parser.specs.Marks.{is_close_bracket}
use Rattle.psl_parser.specs.Depth.{is_wire}
use Rattle.unit_depth.specs.Spelled as spell
use Rattle.unit_depth.specs.Spelled.{SpellItem}
use Rattle.unit_depth.proofs.Marks.{is_still, name_still}
use Rattle.unit_depth.proofs.Parts.{looseness_small}
use Rattle.unit_depth.proofs.Phrases.{Spanned, Fits, Over, spanned_none, spanned_join, spanned_more, fits_part}
use Rattle.unit_depth.proofs.Tokens.{Setting, sy, Fresh, still_behind, form_off, head_off}
use Rattle.unit_depth.proofs.Keeping.{Kept, kept_none, kept_join}
use Rattle.unit_depth.proofs.Told as t
use Rattle.unit_depth.proofs.Told.{Told, told_join, told_still, told_inside, told_square, told_round, square_of}
use Rattle.unit_depth.proofs.Told.{tame_by}
use Rattle.unit_depth.proofs.Exprs.{still_fresh, behind_next, part_unformed, round_unformed}
use Rattle.unit_depth.proofs.Seres.{seq_told}
use Rattle.unit_depth.proofs.Props.{over_far}
use Rattle.unit_depth.proofs.PropRules.{prop_told}

pub name_event : (s : Symbol) → is_still s ≡ true → ends_operand s ≡ true → is_event s ≡ false
name_event symbol.Event still ends = cc
name_event symbol.EventRange still ends = cc
name_event _ still ends = refl

name_wire : (s : Symbol) → ends_operand s ≡ true → is_wire s ≡ false
name_wire symbol.Wire e = cc
name_wire _ e = refl

module _ (x : Setting) where
  -- ---- spans of an item

  record Lined (room i j : ℕ) : Type 0 where
    kept : Kept x.symbols 1 i j
    spanned : Spanned x.symbols room i j

  lined_join : (room i m j : ℕ) → Lined room i m → Lined room m j → Lined room i j
  lined_join room i m j p q = record {
    kept = kept_join x.symbols 1 i m j p.kept q.kept;
    spanned = spanned_join x.symbols room i m j p.kept.le q.kept.le p.spanned q.spanned;
  }

  lined_told : (room t i j : ℕ) → Told x.symbols 1 room t i j → Lined room i j
  lined_told room t i j p = record { kept = p.kept; spanned = p.spanned }

  lined_still : (room n k : ℕ) → k ≡ suc n → is_still (sy x n) ≡ true → Lined room n k
  lined_still room n k same still = lined_told room 15 n k (told_inside x room n k same still)

  lined_at : (room n k : ℕ) (s : Symbol) → k ≡ suc n → At x.symbols n s → is_still s ≡ true → Lined room n k
  lined_at room n k s same at still = lined_still room n k same (ap is_still at ∙ still)

  lined_name : (room n k : ℕ) → k ≡ suc n → AnyName x.symbols n → Lined room n k
  lined_name room n k same name = lined_still room n k same (name_still (sy x n) name).0

  after_at : (n k : ℕ) (s : Symbol) → k ≡ n + 1 → x.brace ≤ n → At x.symbols n s → is_still s ≡ true
      → ends_operand s ≡ false → is_event s ≡ false → Fresh x k
  after_at n k s same le at still ends event =
      subst (λ (m : ℕ). Fresh x m) (sym same)
      (still_fresh x n le (ap is_still at ∙ still) (ap ends_operand at ∙ ends) (ap is_event at ∙ event))

  -- ---- items

  abbrev pub Length : RawItem → (m e : ℕ) → Type 0
  Length it m e =
      ((is_wire (sy x m) ≡ true) × IsShort it m e)
      ⊎ ((is_wire (sy x m) ≡ false) × (IsShort it m e → e ≤ m + item_limit) × (e ≤ m + item_limit → IsShort it m e))

  pub record ItemTold (room : ℕ) (it : RawItem) (m e : ℕ) : Type 0 where
    pub last : ℕ
    pub ends : e ≡ suc last
    pub first : m ≤ last
    pub shut : At x.symbols last symbol.Semicolon
    pub kept : Kept x.symbols 1 m last
    pub spanned : 1 ≤ room → Spanned x.symbols room m last
    pub fits : (more : ℕ) → Fits x.symbols more m last → SpellItem x.symbols more it m e
    pub long : Length it m e

  -- ---- names

  names_told : {names : List ℕ} {i j : ℕ} (room : ℕ) → AreNames x.symbols names i j → Lined room i j
  names_told room (item.one {i = i} h) = lined_name room i (i + 1) (omega arith) h
  names_told room (item.more {i = i} {m = m} p a h) =
      lined_join room i m (m + 2) (names_told room p)
      (lined_join room m (m + 1) (m + 2) (lined_at room m (m + 1) symbol.Comma (omega arith) a refl)
      (lined_name room (m + 1) (m + 2) (omega arith) h))

  wire_told : (room m j e : ℕ) (range : Option (ℕ × ℕ)) (names : List ℕ) → e ≡ suc j → At x.symbols m symbol.Wire
      → At x.symbols j symbol.Semicolon → ((room : ℕ) → Lined room m j)
      → IsItem x.symbols (raw.wire range names) m e → ItemTold room (raw.wire range names) m e
  wire_told room m j e range names same at shut lined make =
      let own = lined room in
      record {
        last = j;
        ends = same;
        first = own.kept.le;
        shut = shut;
        kept = own.kept;
        spanned = λ some. own.spanned;
        fits = λ more f. spell.wire make;
        long = inl (ap is_wire at, tt);
      }

  range_told : (room m : ℕ) → At x.symbols m symbol.Wire → IsRange x.symbols (m + 1) → Lined room (m + 1) (m + 6)
  range_told room m at r =
      let high : At x.symbols (m + 2) symbol.Number =
      subst (λ (k : ℕ). At x.symbols k symbol.Number) (omega arith) r.low in
      let colon : At x.symbols (m + 3) symbol.Colon =
      subst (λ (k : ℕ). At x.symbols k symbol.Colon) (omega arith) r.colon in
      let low : At x.symbols (m + 4) symbol.Number =
      subst (λ (k : ℕ). At x.symbols k symbol.Number) (omega arith) r.high in
      let shut : At x.symbols (m + 5) symbol.CloseBracket =
      subst (λ (k : ℕ). At x.symbols k symbol.CloseBracket) (omega arith) r.closes in
      let head = head_off x m (ap is_next at) (ap is_close_parenthesis at) in
      lined_told room 15 (m + 1) (m + 6)
      (told_square x room 15 (m + 1) (m + 2) (m + 5) (m + 6) (omega arith) (omega arith)
      (square_of (sy x (m + 1)) (ap t.is_square r.opens))
      (form_off x (m + 1) (head_off x (m + 1) (ap is_next r.opens) (ap is_close_parenthesis r.opens))
      (ap is_close_bracket r.opens))
      (tame_by x.symbols 15 (m + 1) (looseness_small x.symbols (m + 1)))
      (told_join x.symbols 1 room 15 (m + 2) (m + 3) (m + 5)
      (told_inside x room (m + 2) (m + 3) (omega arith) (ap is_still high))
      (told_join x.symbols 1 room 15 (m + 3) (m + 4) (m + 5)
      (told_inside x room (m + 3) (m + 4) (omega arith) (ap is_still colon))
      (told_inside x room (m + 4) (m + 5) (omega arith) (ap is_still low)))) shut (part_unformed x m head colon shut))

  wires_told : {range : Option (ℕ × ℕ)} {names : List ℕ} {m e : ℕ} (room : ℕ)
      → IsItem x.symbols (raw.wire range names) m e → ItemTold room (raw.wire range names) m e
  wires_told room (item.wire {names = names} {i = i} {j = j} a n c) =
      wire_told room i j (j + 1) None names (omega arith) a c
      (λ r. lined_join r i (i + 1) j (lined_at r i (i + 1) symbol.Wire (omega arith) a refl) (names_told r n))
      (item.wire a n c)
  wires_told room (item.vector {names = names} {i = i} {j = j} a r n c) =
      wire_told room i j (j + 1) (Some (i + 2, i + 4)) names (omega arith) a c
      (λ own. lined_join own i (i + 1) j (lined_at own i (i + 1) symbol.Wire (omega arith) a refl)
      (lined_join own (i + 1) (i + 6) j (range_told own i a r) (names_told own n))) (item.vector a r n c)

  -- ---- clocks

  clock_told : (room m j e name : ℕ) → e ≡ suc j → is_wire (sy x m) ≡ false → At x.symbols j symbol.Semicolon
      → Kept x.symbols 1 m j → (1 ≤ room → Spanned x.symbols room m j) → IsItem x.symbols (raw.clock name) m e
      → ItemTold room (raw.clock name) m e
  clock_told room m j e name same not_so shut kept spanned make = record {
    last = j;
    ends = same;
    first = kept.le;
    shut = shut;
    kept = kept;
    spanned = spanned;
    fits = λ more f. spell.clock make;
    long = inr (not_so, λ le. le, λ le. le);
  }

  head_told : (room i : ℕ) → At x.symbols i symbol.Default → At x.symbols (i + 1) symbol.Clock
      → At x.symbols (i + 2) symbol.Equal → Lined room i (i + 3)
  head_told room i a b c =
      lined_join room i (i + 1) (i + 3) (lined_at room i (i + 1) symbol.Default (omega arith) a refl)
      (lined_join room (i + 1) (i + 2) (i + 3) (lined_at room (i + 1) (i + 2) symbol.Clock (omega arith) b refl)
      (lined_at room (i + 2) (i + 3) symbol.Equal (omega arith) c refl))

  edge_told : (room n k l : ℕ) → k ≡ suc n → l ≡ suc k → At x.symbols n symbol.Posedge → AnyName x.symbols k
      → Told x.symbols 1 room 15 n l
  edge_told room n k l same same2 a name =
      told_join x.symbols 1 room 15 n k l (told_inside x room n k same (ap is_still a))
      (told_inside x room k l same2 (name_still (sy x k) name).0)

  clocks_told : {name m e : ℕ} (room : ℕ) → IsItem x.symbols (raw.clock name) m e → x.brace < m
      → ItemTold room (raw.clock name) m e
  clocks_told room (item.clock {i = i} a b c d n f) lt =
      let lined = λ (r : ℕ). lined_join r i (i + 3) (i + 5) (head_told r i a b c)
      (lined_told r 15 (i + 3) (i + 5) (edge_told r (i + 3) (i + 4) (i + 5) (omega arith) (omega arith) d n)) in
      let own = lined room in
      clock_told room i (i + 5) (i + 6) (i + 4) (omega arith) (ap is_wire a) f own.kept (λ some. own.spanned)
      (item.clock a b c d n f)
  clocks_told room (item.clock_parens {i = i} a b c o d n s f) lt =
      let start : Fresh x (i + 3) =
      after_at (i + 2) (i + 3) symbol.Equal (omega arith) (omega arith) c refl refl refl in
      let behind =
      behind_next x (i + 5) (i + 6) true (omega arith)
      (still_behind x (i + 5) (name_still (sy x (i + 5)) n).0 ∙ (name_still (sy x (i + 5)) n).1) in
      let inside = λ (r : ℕ). edge_told r (i + 4) (i + 5) (i + 6) (omega arith) (omega arith) d n in
      let round = λ (r : ℕ). told_round x r 15 15 (i + 3) (i + 4) (i + 6) (i + 7) (omega arith) (omega arith) o
      start.behind (inside r) behind s
      (round_unformed x r 15 (i + 3) (i + 6) start o
      (subst (λ (k : ℕ). Told x.symbols 1 r 15 k (i + 6)) (omega arith) (inside r)) s) in
      let whole = λ (r : ℕ). lined_join (suc r) i (i + 3) (i + 7) (head_told (suc r) i a b c)
      (lined_told (suc r) 15 (i + 3) (i + 7) (round r)) in
      let any = whole 0 in
      clock_told room i (i + 7) (i + 8) (i + 5) (omega arith) (ap is_wire a) f any.kept
      (λ some. spanned_more x.symbols 1 room i (i + 7) some any.spanned) (item.clock_parens a b c o d n s f)

  -- ---- bodies

  -- behind a body its item ends, or tells its report
  record Tail (m e : ℕ) : Type 0 where
    last : ℕ
    ends : e ≡ suc last
    shut : At x.symbols last symbol.Semicolon
    lined : (room : ℕ) → Lined room m last
    over : Over x.symbols 14 m

  tail_told : {report : Option ℕ} {m e : ℕ} → IsReport x.symbols report m e → Tail m e
  tail_told (item.none {i = i} a) = record {
    last = i;
    ends = omega arith;
    shut = a;
    lined = λ room. record { kept = kept_none x.symbols 1 i; spanned = spanned_none x.symbols room i };
    over = over_far x 14 i 15 symbol.Semicolon a refl refl (omega arith);
  }
  tail_told (item.some {i = i} a b c) = record {
    last = i + 2;
    ends = omega arith;
    shut = c;
    lined = λ room. lined_join room i (i + 1) (i + 2) (lined_at room i (i + 1) symbol.Report (omega arith) a refl)
        (lined_at room (i + 1) (i + 2) symbol.Text (omega arith) b refl);
    over = over_far x 14 i 15 symbol.Report a refl refl (omega arith);
  }

  body_told : (room m e last : ℕ) (it : RawItem) → e ≡ suc last → At x.symbols last symbol.Semicolon
      → Lined room m last → ((more : ℕ) → Fits x.symbols more m last → SpellItem x.symbols more it m e)
      → Length it m e → ItemTold room it m e
  body_told room m e last it same shut lined make long = record {
    last = last;
    ends = same;
    first = lined.kept.le;
    shut = shut;
    kept = lined.kept;
    spanned = λ some. lined.spanned;
    fits = make;
    long = long;
  }

  named_told : (room i : ℕ) (s : Symbol) → At x.symbols i s → is_still s ≡ true → AnyName x.symbols (i + 1)
      → At x.symbols (i + 2) symbol.Equal → Lined room i (i + 3)
  named_told room i s a still n c =
      lined_join room i (i + 1) (i + 3) (lined_at room i (i + 1) s (omega arith) a still)
      (lined_join room (i + 1) (i + 2) (i + 3) (lined_name room (i + 1) (i + 2) (omega arith) n)
      (lined_at room (i + 2) (i + 3) symbol.Equal (omega arith) c refl))

  over_semicolon : (j : ℕ) → At x.symbols j symbol.Semicolon → Over x.symbols 14 j
  over_semicolon j a = over_far x 14 j 15 symbol.Semicolon a refl refl (omega arith)

  pub item_told : {room : ℕ} {it : RawItem} {m e : ℕ} → SpellItem x.symbols room it m e → x.brace < m → 3 ≤ m
      → ItemTold room it m e
  item_told {room = room} (spell.clock p) lt le = clocks_told room p lt
  item_told {room = room} (spell.wire p) lt le = wires_told room p
  item_told {room = room} (spell.sequence {s = r} {i = i} {j = j} a n c p z) lt le =
      let start = after_at (i + 2) (i + 3) symbol.Equal (omega arith) (omega arith) c refl refl refl in
      let body = seq_told x p start (omega arith) in
      let some = body.some in
      body_told room i (j + 1) j (raw.RawItem.sequence (i + 1) r) (omega arith) z
      (lined_join room i (i + 3) j (named_told room i symbol.Sequence a refl n c)
      (lined_told room 11 (i + 3) j body.told))
      (λ more f. spell.sequence a n c
      (body.fits more (fits_part x.symbols more i (i + 3) j j (omega arith) (omega arith) f)) z)
      (inr (ap is_wire a, λ le. le, λ le. le))
  item_told {room = room} (spell.property {p = q} {i = i} {j = j} a n c p z) lt le =
      let start = after_at (i + 2) (i + 3) symbol.Equal (omega arith) (omega arith) c refl refl refl in
      let body = (prop_told x p start (omega arith) (over_semicolon j z)).0 in
      let some = body.some in
      body_told room i (j + 1) j (raw.RawItem.property (i + 1) q) (omega arith) z
      (lined_join room i (i + 3) j (named_told room i symbol.Property a refl n c)
      (lined_told room 14 (i + 3) j body.told))
      (λ more f. spell.property a n c
      (body.fits more (fits_part x.symbols more i (i + 3) j j (omega arith) (omega arith) f)) z)
      (inr (ap is_wire a, λ le. le, λ le. le))
  item_told {room = room} (spell.assert {p = q} {report = report} {i = i} {m = m} {j = j} a p r) lt le =
      let tail = tail_told r in
      let start = after_at i (i + 1) symbol.Assert (omega arith) (omega arith) a refl refl refl in
      let body = (prop_told x p start (omega arith) tail.over).0 in
      let some = body.some in
      let rest = tail.lined room in
      let le2 = rest.kept.le in
      body_told room i j tail.last (raw.assert i None q report) tail.ends tail.shut
      (lined_join room i (i + 1) tail.last (lined_at room i (i + 1) symbol.Assert (omega arith) a refl)
      (lined_join room (i + 1) m tail.last (lined_told room 14 (i + 1) m body.told) rest))
      (λ more f. spell.assert a
      (body.fits more (fits_part x.symbols more i (i + 1) m tail.last (omega arith) (omega arith) f)) r)
      (inr (ap is_wire a, λ le. le, λ le. le))
  item_told {room = room} (spell.labelled {p = q} {report = report} {i = i} {m = m} {j = j} n c a p r) lt le =
      let tail = tail_told r in
      let name = name_still (sy x i) n in
      let start = after_at (i + 2) (i + 3) symbol.Assert (omega arith) (omega arith) a refl refl refl in
      let body = (prop_told x p start (omega arith) tail.over).0 in
      let some = body.some in
      let rest = tail.lined room in
      let le2 = rest.kept.le in
      body_told room i j tail.last (raw.assert (i + 2) (Some i) q report) tail.ends tail.shut
      (lined_join room i (i + 1) tail.last (lined_name room i (i + 1) (omega arith) n)
      (lined_join room (i + 1) (i + 2) tail.last (lined_at room (i + 1) (i + 2) symbol.Colon (omega arith) c refl)
      (lined_join room (i + 2) (i + 3) tail.last (lined_at room (i + 2) (i + 3) symbol.Assert (omega arith) a refl)
      (lined_join room (i + 3) m tail.last (lined_told room 14 (i + 3) m body.told) rest))))
      (λ more f. spell.labelled n c a
      (body.fits more (fits_part x.symbols more i (i + 3) m tail.last (omega arith) (omega arith) f)) r)
      (inr (name_wire (sy x i) name.1, λ le. le, λ le. le))
