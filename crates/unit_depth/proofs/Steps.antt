-- One more item of a unit: what the grammar sees of its tokens is what it sees by all items before.
use Rattle.std.proofs.Common.{◌≡◌, ℕ, zero, suc, ◌+◌, ◌<◌, ◌≤◌, ◌⊎◌, inl, inr, Bool, true, false, cond, Option, Some}
use Rattle.std.proofs.Common.{None, List, [], ◌∷◌, length, refl, sym, ap, subst, ◌∙◌, arith, nat_eq}
use Rattle.std.proofs.lemmas.Bool.{cases_lt, and_from, both_ways, eq-eqb}
use Rattle.std.specs.Prelude.{◌&&◌, IsTrue}
use Rattle.psl_lexer.specs.declared.kinds.Token.{Token}
use Rattle.psl_grammar.specs.declared.symbols.Symbol.{Symbol}
use Rattle.psl_grammar.specs.declared.symbols.Symbol.TheVariants as symbol
use Rattle.psl_grammar.specs.RawUnit as raw
use Rattle.psl_grammar.specs.RawUnit.{RawItem}
use Rattle.psl_grammar.specs.Symbols.{symbol_at, At, is_name, may_join, begins_sequence}
use Rattle.psl_grammar.specs.ItemGrammar as item
use Rattle.psl_grammar.specs.ItemGrammar.{IsItem, IsShort, item_limit}
use Rattle.psl_grammar.specs.Units.{Known, symbols_in, outside, known_after, name_at}
use Rattle.psl_parser.specs.Places.{none_in}
use Rattle.psl_parser.specs.Marks.{looseness, loose, is_next, is_close_parenthesis, is_close_bracket}
use Rattle.psl_parser.specs.OpenPhrases.{reach_of, ends, stands_by, stands_in}
use Rattle.psl_parser.specs.Depth.{begins_item, braces_behind, is_wire}
use Rattle.psl_parser.specs.Seen.{is_semicolon, declared_as, way_to, item_at, ends_item, with_declared, known_before}
use Rattle.psl_parser.specs.Seen.{seen}
use Rattle.unit_depth.specs.Spelled as spell
use Rattle.unit_depth.specs.Spelled.{SpellItem}
use Rattle.unit_depth.proofs.Counting.{by_test, count_same, none_from, none_at}
use Rattle.unit_depth.proofs.Phrases.{inner, Spanned, spanned_join, spanned_token}
use Rattle.unit_depth.proofs.Tokens.{Setting, reach_at, form_off, head_off}
use Rattle.unit_depth.proofs.Keeping.{way, ends_here}
use Rattle.unit_depth.proofs.Told.{loose_at}
use Rattle.unit_depth.proofs.Items.{ItemTold, item_told}
use Rattle.unit_depth.proofs.Blanks.{blank, blanked, blank_back, by, stands_same, way_same, semicolon_same}
use Rattle.unit_depth.proofs.Seeing.{IsNaming, naming_before, blank_local, local_is, way_to_is, past_in}

-- ---- a phrase that has ended stays so

ended_by : (symbols : List Symbol) (r : Option ℕ) (o p q : ℕ) → p ≤ q → stands_by symbols r o p ≡ false
    → stands_by symbols r o q ≡ false
ended_by symbols None o p q le e = refl
ended_by symbols (Some r) o p q le e =
    by_test (none_in (ends symbols r o) (suc o) (suc q))
    (λ is_so. absurd (both_ways (none_in (ends symbols r o) (suc o) (suc p)) e
    (none_from (ends symbols r o) (suc o) (suc p)
    (λ k low high. none_at (ends symbols r o) (suc o) (suc q) k is_so low (omega arith))))) (λ not_so. not_so)

stays_ended : (symbols : List Symbol) (o p q : ℕ) → p ≤ q → stands_in symbols o p ≡ false
    → stands_in symbols o q ≡ false
stays_ended symbols o p q le e = ended_by symbols (reach_of symbols o) o p q le e

-- ---- symbols that are the same but for the meaning of names

same_loose : (a b : List Symbol) (n : ℕ) → symbol_at a n ≡ symbol_at b n → symbol_at a (n + 1) ≡ symbol_at b (n + 1)
    → looseness a n ≡ looseness b n
same_loose a b n e f =
    ap (λ (s : Symbol). cond (may_join s && begins_sequence (symbol_at a (n + 1))) 11 (loose s)) e
    ∙ ap (λ (s : Symbol). cond (may_join (symbol_at b n) && begins_sequence s) 11 (loose (symbol_at b n))) f

pub moved : (a b : List Symbol) → ((n : ℕ) → blank (symbol_at a n) ≡ blank (symbol_at b n)) → (n : ℕ) (s : Symbol)
    → blank s ≡ s → (s ≡ symbol.Name → ⊥) → At a n s → At b n s
moved a b same n s e not_so at = blank_back (symbol_at b n) s (sym (same n) ∙ ap blank at ∙ e) not_so

name_undeclared : (s : Symbol) → IsTrue (is_name s) → declared_as s ≡ None
name_undeclared symbol.Name e = refl
name_undeclared symbol.SequenceName e = refl
name_undeclared symbol.PropertyName e = refl
name_undeclared _ e = cc

module _ (text : List ℕ) (tokens : List Token) where
  abbrev pub plain : List Symbol
  plain = outside text tokens

  abbrev pub local : Known → List Symbol
  local known = symbols_in text known tokens

  abbrev pub all_seen : List Symbol
  all_seen = seen text tokens

  pub plain_seen : (n : ℕ) → blank (symbol_at plain n) ≡ blank (symbol_at all_seen n)
  plain_seen n = blank_local text tokens [] (λ name. refl) n

  pub plain_local : (known : Known) → IsNaming known → (n : ℕ)
      → blank (symbol_at plain n) ≡ blank (symbol_at (local known) n)
  plain_local known all n = plain_seen n ∙ sym (blank_local text tokens known all n)

  -- behind as many items as make these names known
  pub record Boundary (known : Known) (m : ℕ) : Type 0 where
    pub before : known ≡ known_before text tokens m
    pub braces : (way plain m).0 ≡ 1
    pub own : (way plain m).1 ≡ 0

  pub naming : (known : Known) (m : ℕ) → Boundary known m → IsNaming known
  naming known m b = subst (λ (k : Known). IsNaming k) (sym b.before) (naming_before text tokens m)

  -- no item ends between
  pub known_on : (known : Known) (m last : ℕ) → ((k : ℕ) → m ≤ k → k < last → ends_item text tokens k ≡ false)
      → known_before text tokens m ≡ known → (n : ℕ) → m ≤ n → n ≤ last → known_before text tokens n ≡ known
  known_on known m last on here zero low high =
      let same : m ≡ zero = omega arith in subst (λ (k : ℕ). known_before text tokens k ≡ known) same here
  known_on known m last on here (suc n) low high =
      elim (cases_lt n m) [
        | inl h ↦
            let same : m ≡ suc n = omega arith in
            subst (λ (k : ℕ). known_before text tokens k ≡ known) same here
        | inr h ↦
            ap (λ (b : Bool). cond b (with_declared text tokens (item_at text tokens n)
            (declared_as (symbol_at plain (item_at text tokens n))) (known_before text tokens n))
            (known_before text tokens n)) (on n h high)
            ∙ known_on known m last on here n h (omega arith)
      ]

  -- ---- what an item declares

  learned_is : (i : ℕ) (known : Known) (b c : Bool) (s : Symbol) (o : Option Symbol) → b ≡ true → c ≡ true
      → o ≡ Some s → is_name (symbol_at plain (i + 1)) ≡ c
      → cond b ((name_at text tokens (i + 1), s) ∷ known) known ≡ with_declared text tokens i o known
  learned_is i known b c s o e f g h =
      ap (λ (t : Bool). cond t ((name_at text tokens (i + 1), s) ∷ known) known) e
      ∙ sym (ap (λ (t : Bool). cond t ((name_at text tokens (i + 1), s) ∷ known) known) (h ∙ f))
      ∙ sym (ap (λ (q : Option Symbol). with_declared text tokens i q known) g)

  unlearned : (i : ℕ) (known : Known) (o : Option Symbol) → o ≡ None → known ≡ with_declared text tokens i o known
  unlearned i known o e = sym (ap (λ (q : Option Symbol). with_declared text tokens i q known) e)

  declared_here : (known : Known) → IsNaming known → (m : ℕ)
      → declared_as (symbol_at plain m) ≡ declared_as (symbol_at (local known) m)
  declared_here known all m = by plain (local known) (plain_local known all) declared_as (λ s. (blanked s).declared) m

  name_here : (known : Known) → IsNaming known → (m : ℕ)
      → is_name (symbol_at plain m) ≡ is_name (symbol_at (local known) m)
  name_here known all m = by plain (local known) (plain_local known all) is_name (λ s. (blanked s).name) m

  clock_declared : {name m e : ℕ} (known : Known) → IsItem (local known) (raw.clock name) m e
      → declared_as (symbol_at (local known) m) ≡ None
  clock_declared known (item.clock a b c d n f) = ap declared_as a
  clock_declared known (item.clock_parens a b c o d n s f) = ap declared_as a

  wire_declared : {range : Option (ℕ × ℕ)} {names : List ℕ} {m e : ℕ} (known : Known)
      → IsItem (local known) (raw.wire range names) m e → declared_as (symbol_at (local known) m) ≡ None
  wire_declared known (item.wire a n c) = ap declared_as a
  wire_declared known (item.vector a r n c) = ap declared_as a

  declared_is : {room : ℕ} {it : RawItem} {m e : ℕ} (known : Known) → IsNaming known
      → SpellItem (local known) room it m e
      → known_after text tokens known it ≡ with_declared text tokens m (declared_as (symbol_at plain m)) known
  declared_is {m = m} known all (spell.clock p) =
      unlearned m known (declared_as (symbol_at plain m)) (declared_here known all m ∙ clock_declared known p)
  declared_is {m = m} known all (spell.wire p) =
      unlearned m known (declared_as (symbol_at plain m)) (declared_here known all m ∙ wire_declared known p)
  declared_is known all (spell.sequence {i = i} a n c p z) =
      learned_is i known (is_name (symbol_at (local known) (i + 1))) (is_name (symbol_at (local known) (i + 1)))
      symbol.SequenceName (declared_as (symbol_at plain i)) n n (declared_here known all i ∙ ap declared_as a)
      (name_here known all (i + 1))
  declared_is known all (spell.property {i = i} a n c p z) =
      learned_is i known (is_name (symbol_at (local known) (i + 1))) (is_name (symbol_at (local known) (i + 1)))
      symbol.PropertyName (declared_as (symbol_at plain i)) n n (declared_here known all i ∙ ap declared_as a)
      (name_here known all (i + 1))
  declared_is known all (spell.assert {i = i} a p r) =
      unlearned i known (declared_as (symbol_at plain i)) (declared_here known all i ∙ ap declared_as a)
  declared_is known all (spell.labelled {i = i} n c a p r) =
      unlearned i known (declared_as (symbol_at plain i))
      (declared_here known all i ∙ name_undeclared (symbol_at (local known) i) n)

pub vunit_apart : symbol.Vunit ≡ symbol.Name → ⊥
vunit_apart e = cc

pub brace_apart : symbol.OpenBrace ≡ symbol.Name → ⊥
brace_apart e = cc

module _ (text : List ℕ) (tokens : List Token) (brace : ℕ) (start : At (outside text tokens) 0 symbol.Vunit)
    (braced : At (outside text tokens) brace symbol.OpenBrace) where
  abbrev pub local_setting : (known : Known) → IsNaming known → Setting
  local_setting known all = record {
    symbols = symbols_in text known tokens;
    start = moved (outside text tokens) (symbols_in text known tokens) (plain_local text tokens known all) 0
        symbol.Vunit refl vunit_apart start;
    brace = brace;
    braced = moved (outside text tokens) (symbols_in text known tokens) (plain_local text tokens known all) brace
        symbol.OpenBrace refl brace_apart braced;
  }

  abbrev pub seen_setting : Setting
  seen_setting = record {
    symbols = seen text tokens;
    start = moved (outside text tokens) (seen text tokens) (plain_seen text tokens) 0 symbol.Vunit refl vunit_apart
        start;
    brace = brace;
    braced = moved (outside text tokens) (seen text tokens) (plain_seen text tokens) brace symbol.OpenBrace refl
        brace_apart braced;
  }

  abbrev pub Length : RawItem → (m e : ℕ) → Type 0
  Length it m e =
      ((is_wire (symbol_at (seen text tokens) m) ≡ true) × IsShort it m e)
      ⊎ ((is_wire (symbol_at (seen text tokens) m) ≡ false) × (IsShort it m e → e ≤ m + item_limit)
      × (e ≤ m + item_limit → IsShort it m e))

  pub record StepTold (room : ℕ) (known : Known) (it : RawItem) (m e : ℕ) : Type 0 where
    pub some : m < e
    pub next : Boundary text tokens (known_after text tokens known it) e
    pub within : e ≤ length tokens
    pub spanned : 1 ≤ room → Spanned (seen text tokens) room m e
    pub fits : (more : ℕ) → ((p : ℕ) → m ≤ p → p < e → inner (seen text tokens) m p ≤ more)
        → SpellItem (symbols_in text known tokens) more it m e
    pub own : (n : ℕ) → m ≤ n → n < e → (way (seen text tokens) n).1 + m ≡ n
    pub nested : (n : ℕ) → m ≤ n → n < e → 0 < (way (seen text tokens) n).0
    pub long : Length it m e

  -- a semicolon is a token of the text
  token_there : (known : Known) (n : ℕ) → At (symbols_in text known tokens) n symbol.Semicolon → n < length tokens
  token_there known n at =
      elim (cases_lt n (length tokens)) [
        | inl h ↦ h
        | inr h ↦ let e = past_in text tokens known n h in let f = sym at ∙ e in absurd (cc)
      ]

  module _ (room : ℕ) (known : Known) (it : RawItem) (m e : ℕ) (b : Boundary text tokens known m)
      (p : SpellItem (symbols_in text known tokens) room it m e) (lt : brace < m) (le : 3 ≤ m) where
    all : IsNaming known
    all = naming text tokens known m b

    abbrev there : List Symbol
    there = symbols_in text known tokens

    told : ItemTold (local_setting known all) room it m e
    told = item_told (local_setting known all) p lt le

    same : (n : ℕ) → blank (symbol_at there n) ≡ blank (symbol_at (seen text tokens) n)
    same n = blank_local text tokens known all n

    way_plain : (n : ℕ) → way there n ≡ way (outside text tokens) n
    way_plain n = sym (way_same (outside text tokens) there (plain_local text tokens known all) n)

    braces_here : (way there m).0 ≡ 1
    braces_here = ap (λ (w : ℕ × ℕ). w.0) (way_plain m) ∙ b.braces

    own_here : (way there m).1 ≡ 0
    own_here = ap (λ (w : ℕ × ℕ). w.1) (way_plain m) ∙ b.own

    enough : 1 ≤ (way there m).0
    enough = let x = braces_here in omega arith

    last_there : told.last < length tokens
    last_there = token_there known told.last told.shut

    ends_is : (k : ℕ) → k ≤ length tokens → ends_item text tokens k ≡ ends_here there k
    ends_is k few =
        ap (λ (t : Bool). t && nat_eq (way_to text tokens k).0 1)
        (semicolon_same (outside text tokens) there (plain_local text tokens known all) k)
        ∙ ap (λ (w : ℕ × ℕ). is_semicolon (symbol_at there k) && nat_eq w.0 1)
        (sym (way_to_is text tokens k few) ∙ sym (way_plain k))

    before : (n : ℕ) → m ≤ n → n ≤ told.last → known_before text tokens n ≡ known
    before n low high =
        known_on text tokens known m told.last
        (λ k from to. ends_is k (let x = last_there in omega arith) ∙ told.kept.on enough k from to) (sym b.before) n
        low
        high

    exact : (n : ℕ) → m ≤ n → n ≤ told.last → symbol_at there n ≡ symbol_at (seen text tokens) n
    exact n low high =
        local_is text tokens known n (let x = last_there in omega arith) (before n low high)

    shut_seen : At (seen text tokens) told.last symbol.Semicolon
    shut_seen = sym (exact told.last told.first (omega arith)) ∙ told.shut

    loose_is : (n : ℕ) → m ≤ n → n ≤ told.last → looseness there n ≡ looseness (seen text tokens) n
    loose_is n low high =
        elim (cases_lt n told.last) [
          | inl h ↦
              same_loose there (seen text tokens) n (exact n low high) (exact (n + 1) (omega arith) (omega arith))
          | inr h ↦
              let at_end : told.last ≡ n = omega arith in
              subst (λ (k : ℕ). looseness there k ≡ looseness (seen text tokens) k) at_end
              (loose_at there told.last symbol.Semicolon told.shut refl
              ∙ sym (loose_at (seen text tokens) told.last symbol.Semicolon shut_seen refl))
        ]

    stands_is : (o q : ℕ) → m ≤ o → q ≤ told.last → stands_in there o q ≡ stands_in (seen text tokens) o q
    stands_is o q low high =
        stands_same there (seen text tokens) same o q
        (λ k from to. loose_is k (omega arith) (omega arith))

    inner_is : (q : ℕ) → q ≤ told.last → inner there m q ≡ inner (seen text tokens) m q
    inner_is q high =
        count_same (λ o. stands_in there o q) (λ o. stands_in (seen text tokens) o q) m q
        (λ o from to. stands_is o q from high)

    body_spanned : 1 ≤ room → Spanned (seen text tokens) room m told.last
    body_spanned some =
        let s = told.spanned some in
        record {
          within = λ q low high. let x = s.within q low high in let y = inner_is q (omega arith) in omega arith;
          ended = λ o q low high past.
              stays_ended (seen text tokens) o told.last q past
              (sym (stands_is o told.last low (omega arith)) ∙ s.ended o told.last low high (omega arith));
        }

    end_reach : reach_of (seen text tokens) told.last ≡ None
    end_reach =
        reach_at seen_setting told.last symbol.Semicolon shut_seen
        (form_off seen_setting told.last
        (head_off seen_setting told.last (ap is_next shut_seen) (ap is_close_parenthesis shut_seen))
        (ap is_close_bracket shut_seen))

    whole_spanned : 1 ≤ room → Spanned (seen text tokens) room m e
    whole_spanned some =
        subst (λ (k : ℕ). Spanned (seen text tokens) room m k) (sym told.ends)
        (spanned_join (seen text tokens) room m told.last (suc told.last) told.first (omega arith) (body_spanned some)
        (spanned_token (seen text tokens) room told.last end_reach))

    way_seen : (n : ℕ) → way (seen text tokens) n ≡ way there n
    way_seen n = sym (way_same there (seen text tokens) same n)

    own_at : (n : ℕ) → m ≤ n → n < e → (way there n).1 + m ≡ n
    own_at n low high =
        elim (cases_lt n told.last) [
          | inl h ↦ let x = told.kept.own enough n low h in let y = own_here in omega arith
          | inr h ↦
              let ends = told.ends in
              let at_end : told.last ≡ n = omega arith in
              let x = told.kept.behind enough in
              let y = own_here in
              let z : (way there told.last).1 + m ≡ told.last = omega arith in
              subst (λ (k : ℕ). (way there k).1 + m ≡ k) at_end z
        ]

    open_at : (n : ℕ) → m ≤ n → n < e → 0 < (way there n).0
    open_at n low high =
        elim (cases_lt n told.last) [
          | inl h ↦ told.kept.nested enough n low h
          | inr h ↦
              let ends = told.ends in
              let at_end : told.last ≡ n = omega arith in
              let x = told.kept.braces enough in
              subst (λ (k : ℕ). 0 < (way there k).0) at_end (let y = enough in omega arith)
        ]

    last_braces : (way there told.last).0 ≡ 1
    last_braces = told.kept.braces enough ∙ braces_here

    ends_last : ends_item text tokens told.last ≡ true
    ends_last =
        ends_is told.last (let x = last_there in omega arith)
        ∙ and_from (is_semicolon (symbol_at there told.last)) (nat_eq (way there told.last).0 1)
        (ap is_semicolon told.shut) (eq-eqb (way there told.last).0 1 last_braces)

    first_is : item_at text tokens told.last ≡ m
    first_is =
        let x : (way there told.last).1 + m ≡ told.last =
        own_at told.last told.first (let y = told.ends in omega arith) in
        let same_way = ap (λ (w : ℕ × ℕ). w.1)
        (sym (way_to_is text tokens told.last (let y = last_there in omega arith))
        ∙ sym (way_plain told.last)) in
        omega arith

    abbrev declared_from : ℕ → Known → Known
    declared_from i k = with_declared text tokens i (declared_as (symbol_at (outside text tokens) i)) k

    known_next : known_before text tokens (suc told.last) ≡ known_after text tokens known it
    known_next =
        ap (λ (t : Bool). cond t (declared_from (item_at text tokens told.last) (known_before text tokens told.last))
        (known_before text tokens told.last)) ends_last
        ∙ ap (λ (i : ℕ). declared_from i (known_before text tokens told.last)) first_is
        ∙ ap (λ (k : Known). declared_from m k) (before told.last told.first (omega arith))
        ∙ sym (declared_is text tokens known all p)

    plain_shut : At (outside text tokens) told.last symbol.Semicolon
    plain_shut =
        moved there (outside text tokens) (λ n. sym (plain_local text tokens known all n)) told.last symbol.Semicolon
        refl
        (λ e. cc) told.shut

    plain_braces : (way (outside text tokens) told.last).0 ≡ 1
    plain_braces = ap (λ (w : ℕ × ℕ). w.0) (sym (way_plain told.last)) ∙ last_braces

    boundary : Boundary text tokens (known_after text tokens known it) (suc told.last)
    boundary = record {
      before = sym known_next;
      braces = ap (λ (s : Symbol). braces_behind (way (outside text tokens) told.last).0 s) plain_shut ∙ plain_braces;
      own = ap (λ (s : Symbol). cond (begins_item (way (outside text tokens) told.last).0 s) 0
          ((way (outside text tokens) told.last).1 + 1)) plain_shut
          ∙ ap (λ (t : Bool). cond t 0 ((way (outside text tokens) told.last).1 + 1))
          (eq-eqb (way (outside text tokens) told.last).0 1 plain_braces);
    }

    wire_is : is_wire (symbol_at there m) ≡ is_wire (symbol_at (seen text tokens) m)
    wire_is = by there (seen text tokens) same is_wire (λ s. (blanked s).wire) m

    pub step_told : StepTold room known it m e
    step_told = record {
      some = let x = told.first in let y = told.ends in omega arith;
      next = subst (λ (k : ℕ). Boundary text tokens (known_after text tokens known it) k) (sym told.ends) boundary;
      within = let x = last_there in let y = told.ends in omega arith;
      spanned = whole_spanned;
      fits = λ more f. told.fits more (λ q low high.
          let x = inner_is q (omega arith) in
          let y = f q low (let z = told.ends in omega arith) in
          omega arith);
      own = λ n low high. ap (λ (w : ℕ × ℕ). w.1 + m) (way_seen n) ∙ own_at n low high;
      nested = λ n low high. subst (λ (w : ℕ × ℕ). 0 < w.0) (sym (way_seen n)) (open_at n low high);
      long = elim told.long [
        | inl h ↦ inl (sym wire_is ∙ h.0, h.1)
        | inr h ↦ inr (sym wire_is ∙ h.0, h.1, h.2)
      ];
    }
