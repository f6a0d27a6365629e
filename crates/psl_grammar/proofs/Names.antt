-- Each name of a unit stands for what the items before make of it.
use Rattle.std.proofs.Common.{◌≡◌, ℕ, zero, suc, ◌+◌, Bool, true, false, cond, nat_eq, List, [], ◌∷◌, ◌++◌, All, Option}
use Rattle.std.proofs.Common.{Some, None, refl, sym, ap, subst, ◌∙◌, append_assoc}
use Rattle.std.proofs.lemmas.List.{append-nil}
use Rattle.std.proofs.lemmas.List.Elements.{All-nil, All-cons, All-append}
use Rattle.std.proofs.lemmas.Slice.Eq.{bytes_eq-Decides}
use Rattle.std.specs.Cmp.Lexicographic.{pointwise}
use Rattle.psl_lexer.specs.declared.kinds.Key.{Key}
use Rattle.psl_lexer.specs.declared.kinds.Mark.{Mark}
use Rattle.psl_lexer.specs.declared.kinds.Key.TheVariants as key
use Rattle.psl_lexer.specs.declared.kinds.Mark.TheVariants as mark
use Rattle.psl_lexer.specs.declared.kinds.Kind.{Kind}
use Rattle.psl_lexer.specs.declared.kinds.Kind.TheVariants as kind
use Rattle.psl_lexer.specs.declared.kinds.Token.{Token}
use Rattle.psl_grammar.specs.declared.symbols.Symbol.{Symbol}
use Rattle.psl_grammar.specs.declared.symbols.Symbol.TheVariants as symbol
use Rattle.psl_grammar.specs.Symbols.{symbol_at, At, is_name}
use Rattle.psl_grammar.specs.RawExpr as e
use Rattle.psl_grammar.specs.RawExpr.{RawExpr}
use Rattle.psl_grammar.specs.RawSere as r
use Rattle.psl_grammar.specs.RawSere.{RawSere}
use Rattle.psl_grammar.specs.RawProp as p
use Rattle.psl_grammar.specs.RawProp.{RawProp}
use Rattle.psl_grammar.specs.RawUnit as raw
use Rattle.psl_grammar.specs.RawUnit.{RawItem, RawUnit}
use Rattle.psl_grammar.specs.TreeNames.{ExprNames, SereNames, OnNames, PropNames}
use Rattle.psl_grammar.specs.ExprGrammar.{IsExpr, whole, bit, part, literally, parens, prefixed, joined, chosen, looser}
use Rattle.psl_grammar.specs.SereGrammar as s
use Rattle.psl_grammar.specs.SereGrammar.{IsTimed, IsSere, IsSeq}
use Rattle.psl_grammar.specs.PropGrammar as g
use Rattle.psl_grammar.specs.PropGrammar.{IsParen, IsNextForm, Phrase, IsProp}
use Rattle.psl_grammar.specs.ItemGrammar as item
use Rattle.psl_grammar.specs.ItemGrammar.{IsItem}
use Rattle.psl_grammar.specs.Units as units
use Rattle.psl_grammar.specs.Units.{Known, word_symbol, mark_symbol, kind_symbol, meaning_of, bytes_of}
use Rattle.psl_grammar.specs.Units.{symbols_in}
use Rattle.psl_grammar.specs.Units.{name_at, learned, known_after, AreItems, IsUnit}
use Rattle.psl_grammar.specs.DeclaredNames.{SameName, Spares, IsSignal, IsSequence, IsProperty, ItemNames}
use Rattle.psl_grammar.specs.DeclaredNames.{NamesDeclared}

-- ---- the names of a phrase, by their symbols

module _ (symbols : List Symbol) where
  abbrev Signal : ℕ → Type 0
  Signal n = At symbols n symbol.Name

  abbrev Sequence : ℕ → Type 0
  Sequence n = At symbols n symbol.SequenceName

  abbrev Property : ℕ → Type 0
  Property n = At symbols n symbol.PropertyName

  expr_names : {room level : ℕ} {a : RawExpr} {i j : ℕ} → IsExpr symbols room level a i j → ExprNames Signal a
  expr_names (whole h) = h
  expr_names (bit h a b c) = h
  expr_names (part h a b c d e) = h
  expr_names (literally h) = tt
  expr_names (parens h p q) = expr_names p
  expr_names (prefixed h p) = expr_names p
  expr_names (joined lt p o q) = (expr_names p, expr_names q)
  expr_names (chosen p o v w x) = (expr_names p, expr_names v, expr_names x)
  expr_names (looser p) = expr_names p

  timed_names : {room : ℕ} {braced : Bool} {t : RawSere} {i j : ℕ} → IsTimed symbols room braced t i j
      → SereNames Signal Sequence t
  timed_names (s.once p) = expr_names p.0
  timed_names (s.picked p c) = expr_names p.0
  timed_names (s.IsTimed.again p c) = timed_names p

  sere_names : {room level : ℕ} {t : RawSere} {i j : ℕ} → IsSere symbols room level t i j → SereNames Signal Sequence t
  sere_names (s.braces a p z) = sere_names p
  sere_names (s.name a) = a
  sere_names (s.alone c) = tt
  sere_names (s.IsSere.again p c) = sere_names p
  sere_names (s.timed p) = timed_names p
  sere_names (s.joins lt p o q) = (sere_names p, sere_names q)
  sere_names (s.IsSere.looser p) = sere_names p

  seq_names : {room : ℕ} {t : RawSere} {i j : ℕ} → IsSeq symbols room t i j → SereNames Signal Sequence t
  seq_names (s.tight p) = sere_names p
  seq_names (s.IsSeq.timed p) = timed_names p

  paren_names : {room : ℕ} {a : RawExpr} {i j : ℕ} → IsParen symbols room a i j → ExprNames Signal a
  paren_names (g.paren a p q) = expr_names p

  form_names : {room : ℕ} {on : Option RawExpr} {low high : Option ℕ} {i j : ℕ} → IsNextForm symbols room on low high i
      j
      → OnNames Signal on
  form_names (g.IsNextForm.next a) = tt
  form_names (g.next_count a c) = tt
  form_names (g.next_range a c) = tt
  form_names (g.event a p) = paren_names p
  form_names (g.event_count a p c) = paren_names p
  form_names (g.event_range a p c) = paren_names p

  prop_names : {room : ℕ} {phrase : Phrase} {f : RawProp} {i j : ℕ} → IsProp symbols room phrase f i j
      → PropNames Signal Sequence Property f
  prop_names (g.parens a h nb c) = prop_names h
  prop_names (g.named a) = a
  prop_names (g.weak p) = sere_names p
  prop_names (g.strong p a) = sere_names p
  prop_names (g.negated a h) = prop_names h
  prop_names (g.factor_bool p) = expr_names p
  prop_names (g.factor_primary p) = prop_names p
  prop_names (g.both_bool p) = expr_names p
  prop_names (g.both_factor p) = prop_names p
  prop_names (g.both_and p a q nb) = (prop_names p, prop_names q)
  prop_names (g.either_bool p) = expr_names p
  prop_names (g.either_both p) = prop_names p
  prop_names (g.either_or p a q nb) = (prop_names p, prop_names q)
  prop_names (g.hdl_bool p) = expr_names p
  prop_names (g.hdl_either p) = prop_names p
  prop_names (g.low_timed p) = timed_names p
  prop_names (g.low_strong p a) = timed_names p
  prop_names (g.low_hdl p) = prop_names p
  prop_names (g.abt_abort h a q) = (prop_names h, expr_names q.0)
  prop_names (g.abt_low p) = prop_names p
  prop_names (g.occ_eventually a h) = prop_names h
  prop_names (g.occ_next f h) = (form_names f, prop_names h)
  prop_names (g.occ_abt p) = prop_names p
  prop_names (g.untl_until p a q) = (prop_names p, prop_names q)
  prop_names (g.untl_occ p) = prop_names p
  prop_names (g.suff_suffix q a h) = (seq_names q, prop_names h)
  prop_names (g.suff_untl p) = prop_names p
  prop_names (g.impl_implies p a q) = (prop_names p, prop_names q)
  prop_names (g.impl_iff p a q) = (prop_names p, prop_names q)
  prop_names (g.impl_suff p) = prop_names p
  prop_names (g.prop_always a h) = prop_names h
  prop_names (g.prop_impl p) = prop_names p

-- ---- what holds of each name by another fact

module _ (P Q R P' Q' R' : ℕ → Type 0) (f : (n : ℕ) → P n → P' n) (h : (n : ℕ) → Q n → Q' n) (k : (n : ℕ) → R n → R' n)
  where
    expr_all : (a : RawExpr) → ExprNames P a → ExprNames P' a
    expr_all (e.name n select) x = f n x
    expr_all (e.literal n) x = tt
    expr_all (e.unary mark a) x = expr_all a x
    expr_all (e.binary mark a b) x = (expr_all a x.0, expr_all b x.1)
    expr_all (e.choice mark a b c) x = (expr_all a x.0, expr_all b x.1, expr_all c x.2)

    sere_all : (t : RawSere) → SereNames P Q t → SereNames P' Q' t
    sere_all (r.bool a) x = expr_all a x
    sere_all (r.named n) x = h n x
    sere_all (r.lone mark low high) x = tt
    sere_all (r.repeat t mark low high) x = sere_all t x
    sere_all (r.join mark t u) x = (sere_all t x.0, sere_all u x.1)

    on_all : (on : Option RawExpr) → OnNames P on → OnNames P' on
    on_all None x = tt
    on_all (Some a) x = expr_all a x

    prop_all : (b : RawProp) → PropNames P Q R b → PropNames P' Q' R' b
    prop_all (p.bool a) x = expr_all a x
    prop_all (p.named n) x = k n x
    prop_all (p.seq t strong) x = sere_all t x
    prop_all (p.prefix word b) x = prop_all b x
    prop_all (p.next word on low high b) x = (on_all on x.0, prop_all b x.1)
    prop_all (p.binary mark b c) x = (prop_all b x.0, prop_all c x.1)
    prop_all (p.suffix mark t b) x = (sere_all t x.0, prop_all b x.1)
    prop_all (p.abort b a) x = (prop_all b x.0, expr_all a x.1)

-- ---- what a name means

word_no_name : (w : Key) → is_name (word_symbol w) ≡ false
word_no_name key.Vunit = refl
word_no_name _ = refl

mark_no_name : (m : Mark) → is_name (mark_symbol m) ≡ false
mark_no_name mark.OpenBrace = refl
mark_no_name _ = refl

is_no_name : (s t : Symbol) → is_name t ≡ false → is_name s ≡ true → t ≡ s → ⊥
is_no_name s t other name e = let z : is_name t ≡ is_name s = ap is_name e in cc

kind_name : (meaning s : Symbol) (k : Kind) → is_name s ≡ true → kind_symbol meaning k ≡ s → meaning ≡ s
kind_name meaning s (kind.Word w) name e = absurd (is_no_name s (word_symbol w) (word_no_name w) name e)
kind_name meaning s (kind.Mark m) name e = absurd (is_no_name s (mark_symbol m) (mark_no_name m) name e)
kind_name meaning s kind.Name name e = e
kind_name meaning s kind.Number name e = absurd (is_no_name s symbol.Number refl name e)
kind_name meaning s kind.Sized name e = absurd (is_no_name s symbol.Literal refl name e)
kind_name meaning s kind.Text name e = absurd (is_no_name s symbol.Text refl name e)

meaning_at : (text : List ℕ) (known : Known) (tokens : List Token) (n : ℕ) (s : Symbol) → is_name s ≡ true
    → At (symbols_in text known tokens) n s → meaning_of known (name_at text tokens n) ≡ s
meaning_at text known [] n s name e = absurd (is_no_name s symbol.End refl name e)
meaning_at text known (t ∷ ts) zero s name e = kind_name (meaning_of known (bytes_of text t)) s t.kind name e
meaning_at text known (t ∷ ts) (suc n) s name e = meaning_at text known ts n s name e

by_cases : {P : Type 0} (b : Bool) (x y z : Symbol) → cond b x y ≡ z → (b ≡ true → x ≡ z → P) → (b ≡ false → y ≡ z → P)
    → P
by_cases true x y z e f g = f refl e
by_cases false x y z e f g = g refl e

-- ---- what items make of names

module _ (text : List ℕ) (tokens : List Token) where
  same_bytes : (m n : ℕ) → pointwise nat_eq (name_at text tokens m) (name_at text tokens n) ≡ true
      → SameName text tokens m n
  same_bytes m n t = (bytes_eq-Decides (name_at text tokens m) (name_at text tokens n)).0 t

  other_bytes : (m n : ℕ) → pointwise nat_eq (name_at text tokens m) (name_at text tokens n) ≡ false
      → ¬ SameName text tokens m n
  other_bytes m n t same =
      let same_test : pointwise nat_eq (name_at text tokens m) (name_at text tokens n) ≡ true =
      (bytes_eq-Decides (name_at text tokens m) (name_at text tokens n)).1 same in cc

  record Explains (known : Known) (items : List RawItem) : Type 0 where
    signal : (n : ℕ) → meaning_of known (name_at text tokens n) ≡ symbol.Name → IsSignal text tokens items n
    sequence : (n : ℕ) → meaning_of known (name_at text tokens n) ≡ symbol.SequenceName → IsSequence text tokens items n
    property : (n : ℕ) → meaning_of known (name_at text tokens n) ≡ symbol.PropertyName → IsProperty text tokens items n

  one_more : (n : ℕ) (items : List RawItem) (x : RawItem) → Spares text tokens n x → All (Spares text tokens n) items
      → All (Spares text tokens n) (items ++ x ∷ [])
  one_more n items x spares all =
      All-append (Spares text tokens n) items (x ∷ []) all
      (All-cons (Spares text tokens n) x [] spares (All-nil (Spares text tokens n)))

  sequence_more : (n : ℕ) (items : List RawItem) (x : RawItem) → Spares text tokens n x → IsSequence text tokens items n
      → IsSequence text tokens (items ++ x ∷ []) n
  sequence_more n items x spares old =
      let item = raw.RawItem.sequence old.name old.body in
      record {
        name = old.name;
        body = old.body;
        earlier = old.earlier;
        later = old.later ++ x ∷ [];
        listed = ap (λ (l : List RawItem). l ++ x ∷ []) old.listed ∙ append_assoc old.earlier (item ∷ old.later)
            (x ∷ []);
        same = old.same;
        latest = one_more n old.later x spares old.latest;
      }

  property_more : (n : ℕ) (items : List RawItem) (x : RawItem) → Spares text tokens n x → IsProperty text tokens items n
      → IsProperty text tokens (items ++ x ∷ []) n
  property_more n items x spares old =
      let item = raw.RawItem.property old.name old.body in
      record {
        name = old.name;
        body = old.body;
        earlier = old.earlier;
        later = old.later ++ x ∷ [];
        listed = ap (λ (l : List RawItem). l ++ x ∷ []) old.listed ∙ append_assoc old.earlier (item ∷ old.later)
            (x ∷ []);
        same = old.same;
        latest = one_more n old.later x spares old.latest;
      }

  -- an item that declares nothing
  kept : (known : Known) (items : List RawItem) (x : RawItem) → ((n : ℕ) → Spares text tokens n x)
      → Explains known items
      → Explains known (items ++ x ∷ [])
  kept known items x spares old =
      record {
        signal = λ n e. one_more n items x (spares n) (old.signal n e);
        sequence = λ n e. sequence_more n items x (spares n) (old.sequence n e);
        property = λ n e. property_more n items x (spares n) (old.property n e);
      }

  sequence_learned : (known : Known) (items : List RawItem) (m : ℕ) (body : RawSere) → Explains known items
      → Explains ((name_at text tokens m, symbol.SequenceName) ∷ known) (items ++ raw.RawItem.sequence m body ∷ [])
  sequence_learned known items m body old =
      record {
        signal = λ n e. split n symbol.Name e (λ t z. absurd (cc))
            (λ t z. one_more n items (raw.RawItem.sequence m body) (other_bytes m n t) (old.signal n z));
        sequence = λ n e. split n symbol.SequenceName e
            (λ t z. record {
              name = m;
              body = body;
              earlier = items;
              later = [];
              listed = refl;
              same = same_bytes m n t;
              latest = All-nil (Spares text tokens n);
            })
            (λ t z. sequence_more n items (raw.RawItem.sequence m body) (other_bytes m n t) (old.sequence n z));
        property = λ n e. split n symbol.PropertyName e (λ t z. absurd (cc))
            (λ t z. property_more n items (raw.RawItem.sequence m body) (other_bytes m n t) (old.property n z));
      }
    where
      split : {P : Type 0} (n : ℕ) (s : Symbol)
          → cond (pointwise nat_eq (name_at text tokens m) (name_at text tokens n)) symbol.SequenceName
          (meaning_of known (name_at text tokens n)) ≡ s
          → (pointwise nat_eq (name_at text tokens m) (name_at text tokens n) ≡ true → symbol.SequenceName ≡ s → P)
          → (pointwise nat_eq (name_at text tokens m) (name_at text tokens n) ≡ false
          → meaning_of known (name_at text tokens n) ≡ s → P) → P
      split n s e f g =
          by_cases (pointwise nat_eq (name_at text tokens m) (name_at text tokens n)) symbol.SequenceName
          (meaning_of known (name_at text tokens n)) s e f g

  property_learned : (known : Known) (items : List RawItem) (m : ℕ) (body : RawProp) → Explains known items
      → Explains ((name_at text tokens m, symbol.PropertyName) ∷ known) (items ++ raw.RawItem.property m body ∷ [])
  property_learned known items m body old =
      record {
        signal = λ n e. split n symbol.Name e (λ t z. absurd (cc))
            (λ t z. one_more n items (raw.RawItem.property m body) (other_bytes m n t) (old.signal n z));
        sequence = λ n e. split n symbol.SequenceName e (λ t z. absurd (cc))
            (λ t z. sequence_more n items (raw.RawItem.property m body) (other_bytes m n t) (old.sequence n z));
        property = λ n e. split n symbol.PropertyName e
            (λ t z. record {
              name = m;
              body = body;
              earlier = items;
              later = [];
              listed = refl;
              same = same_bytes m n t;
              latest = All-nil (Spares text tokens n);
            })
            (λ t z. property_more n items (raw.RawItem.property m body) (other_bytes m n t) (old.property n z));
      }
    where
      split : {P : Type 0} (n : ℕ) (s : Symbol)
          → cond (pointwise nat_eq (name_at text tokens m) (name_at text tokens n)) symbol.PropertyName
          (meaning_of known (name_at text tokens n)) ≡ s
          → (pointwise nat_eq (name_at text tokens m) (name_at text tokens n) ≡ true → symbol.PropertyName ≡ s → P)
          → (pointwise nat_eq (name_at text tokens m) (name_at text tokens n) ≡ false
          → meaning_of known (name_at text tokens n) ≡ s → P) → P
      split n s e f g =
          by_cases (pointwise nat_eq (name_at text tokens m) (name_at text tokens n)) symbol.PropertyName
          (meaning_of known (name_at text tokens n)) s e f g

  learned_is : (known : Known) (m : ℕ) (s : Symbol) → is_name (symbol_at (symbols_in text known tokens) m) ≡ true
      → (name_at text tokens m, s) ∷ known ≡ learned text tokens known m s
  learned_is known m s h = sym (ap (λ (b : Bool). cond b ((name_at text tokens m, s) ∷ known) known) h)

  explains_more : {known : Known} {items : List RawItem} {x : RawItem} {i j : ℕ} → IsItem (symbols_in text known tokens)
      x i j
      → Explains known items → Explains (known_after text tokens known x) (items ++ x ∷ [])
  explains_more {known = known} {items = items} (item.clock {i = i} a b c d e f) old =
      kept known items (raw.clock (i + 4)) (λ n. tt) old
  explains_more {known = known} {items = items} (item.clock_parens {i = i} a b c d e f g h) old =
      kept known items (raw.clock (i + 5)) (λ n. tt) old
  explains_more {known = known} {items = items} (item.wire {names = names} a n b) old =
      kept known items (raw.wire None names) (λ n. tt) old
  explains_more {known = known} {items = items} (item.vector {names = names} {i = i} a c n b) old =
      kept known items (raw.wire (Some (i + 2, i + 4)) names) (λ n. tt) old
  explains_more {known = known} {items = items} (item.sequence {s = t} {i = i} a n e p z) old =
      subst (λ (k : Known). Explains k (items ++ raw.RawItem.sequence (i + 1) t ∷ []))
      (learned_is known (i + 1) symbol.SequenceName n) (sequence_learned known items (i + 1) t old)
  explains_more {known = known} {items = items} (item.property {p = b} {i = i} a n e p z) old =
      subst (λ (k : Known). Explains k (items ++ raw.RawItem.property (i + 1) b ∷ []))
      (learned_is known (i + 1) symbol.PropertyName n) (property_learned known items (i + 1) b old)
  explains_more {known = known} {items = items} (item.assert {p = b} {report = report} {i = i} a h c) old =
      kept known items (raw.assert i None b report) (λ n. tt) old
  explains_more {known = known} {items = items} (item.labelled {p = b} {report = report} {i = i} l c a h d) old =
      kept known items (raw.assert (i + 2) (Some i) b report) (λ n. tt) old

  module _ (known : Known) (items : List RawItem) (old : Explains known items) where
    signal_is : (n : ℕ) → At (symbols_in text known tokens) n symbol.Name → IsSignal text tokens items n
    signal_is n a = old.signal n (meaning_at text known tokens n symbol.Name refl a)

    sequence_is : (n : ℕ) → At (symbols_in text known tokens) n symbol.SequenceName → IsSequence text tokens items n
    sequence_is n a = old.sequence n (meaning_at text known tokens n symbol.SequenceName refl a)

    property_is : (n : ℕ) → At (symbols_in text known tokens) n symbol.PropertyName → IsProperty text tokens items n
    property_is n a = old.property n (meaning_at text known tokens n symbol.PropertyName refl a)

    sere_declared : (t : RawSere) → SereNames (Signal (symbols_in text known tokens))
        (Sequence (symbols_in text known tokens)) t
        → SereNames (IsSignal text tokens items) (IsSequence text tokens items) t
    sere_declared t x =
        sere_all (Signal (symbols_in text known tokens)) (Sequence (symbols_in text known tokens))
        (Property (symbols_in text known tokens))
        (IsSignal text tokens items) (IsSequence text tokens items) (IsProperty text tokens items)
        signal_is sequence_is property_is t x

    prop_declared : (b : RawProp)
        → PropNames (Signal (symbols_in text known tokens)) (Sequence (symbols_in text known tokens))
        (Property (symbols_in text known tokens)) b
        → PropNames (IsSignal text tokens items) (IsSequence text tokens items) (IsProperty text tokens items) b
    prop_declared b x =
        prop_all (Signal (symbols_in text known tokens)) (Sequence (symbols_in text known tokens))
        (Property (symbols_in text known tokens))
        (IsSignal text tokens items) (IsSequence text tokens items) (IsProperty text tokens items)
        signal_is sequence_is property_is b x

    item_declared : {x : RawItem} {i j : ℕ} → IsItem (symbols_in text known tokens) x i j
        → ItemNames text tokens items x
    item_declared (item.clock a b c d e f) = tt
    item_declared (item.clock_parens a b c d e f g h) = tt
    item_declared (item.wire a n b) = tt
    item_declared (item.vector a c n b) = tt
    item_declared (item.sequence {s = t} a n e p z) = sere_declared t (seq_names (symbols_in text known tokens) p)
    item_declared (item.property {p = b} a n e p z) = prop_declared b (prop_names (symbols_in text known tokens) p)
    item_declared (item.assert {p = b} a h c) = prop_declared b (prop_names (symbols_in text known tokens) h)
    item_declared (item.labelled {p = b} l c a h d) = prop_declared b (prop_names (symbols_in text known tokens) h)

  declared_snoc : (before items : List RawItem) (x : RawItem) → NamesDeclared text tokens before items
      → ItemNames text tokens (before ++ items) x → NamesDeclared text tokens before (items ++ x ∷ [])
  declared_snoc before [] x all one =
      (subst (λ (l : List RawItem). ItemNames text tokens l x) (append-nil before) one, tt)
  declared_snoc before (y ∷ ys) x all one = (
    all.0,
    declared_snoc (before ++ y ∷ []) ys x all.1
        (subst (λ (l : List RawItem). ItemNames text tokens l x) (sym (append_assoc before (y ∷ []) ys)) one),
  )

  items_declared : {known : Known} {items : List RawItem} {i j : ℕ} → AreItems text tokens known items i j
      → Explains known items × NamesDeclared text tokens [] items
  items_declared units.none = (
    record {
      signal = λ n e. All-nil (Spares text tokens n);
      sequence = λ n e. absurd (cc);
      property = λ n e. absurd (cc);
    },
    tt,
  )
  items_declared (units.more {known = known} {items = items} {item = x} p q short) =
      let before = items_declared p in
      (explains_more q before.0, declared_snoc [] items x before.1 (item_declared known items before.0 q))

  pub unit_declared : (unit : RawUnit) → IsUnit text tokens unit → NamesDeclared text tokens [] unit.items
  unit_declared _ (units.plain a n b p c e) = (items_declared p).1
  unit_declared _ (units.bound a n b n2 c d p f e) = (items_declared p).1
