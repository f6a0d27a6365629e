-- What a symbol says of the bytes of its token.
use Rattle.std.proofs.Common.{◌≡◌, ℕ, zero, suc, Bool, true, false, cond, List, [], ◌∷◌, All, refl, ap, subst, nat_eq}
use Rattle.std.proofs.Common.{slice_range}
use Rattle.std.proofs.lemmas.List.Elements.{All-head, All-tail}
use Rattle.std.specs.Cmp.Lexicographic.{pointwise}
use Rattle.psl_model.specs.Names.{IsUsableName}
use Rattle.psl_lexer.specs.declared.kinds.Key.{Key}
use Rattle.psl_lexer.specs.declared.kinds.Key.TheVariants as key
use Rattle.psl_lexer.specs.declared.kinds.Mark.{Mark}
use Rattle.psl_lexer.specs.declared.kinds.Mark.TheVariants as mark
use Rattle.psl_lexer.specs.declared.kinds.Kind.{Kind}
use Rattle.psl_lexer.specs.declared.kinds.Kind.TheVariants as kind
use Rattle.psl_lexer.specs.declared.kinds.Token.{Token}
use Rattle.psl_lexer.specs.Shapes.{IsToken, IsText}
use Rattle.psl_lexer.specs.Order.{IsSpelled}
use Rattle.psl_grammar.specs.declared.symbols.Symbol.{Symbol}
use Rattle.psl_grammar.specs.declared.symbols.Symbol.TheVariants as symbol
use Rattle.psl_grammar.specs.Symbols.{symbol_at, At, is_name}
use Rattle.psl_grammar.specs.RawUnit as raw
use Rattle.psl_grammar.specs.RawUnit.{RawItem}
use Rattle.psl_grammar.specs.Units.{Known, word_symbol, mark_symbol, kind_symbol, meaning_of, bytes_of, symbols_in}
use Rattle.psl_grammar.specs.Units.{name_at, learned, known_after}
use Rattle.unit_rules.specs.Source.{source, bytes_at}

-- ---- kinds

word_no_name : (w : Key) → is_name (word_symbol w) ≡ false
word_no_name key.Vunit = refl
word_no_name _ = refl

mark_no_name : (m : Mark) → is_name (mark_symbol m) ≡ false
mark_no_name mark.OpenBrace = refl
mark_no_name _ = refl

is_no_name : (t : Symbol) → is_name t ≡ false → is_name t ≡ true → ⊥
is_no_name t other name = cc

kind_is_name : (meaning : Symbol) (k : Kind) → is_name (kind_symbol meaning k) ≡ true → k ≡ kind.Name
kind_is_name meaning (kind.Word w) name = absurd (is_no_name (word_symbol w) (word_no_name w) name)
kind_is_name meaning (kind.Mark m) name = absurd (is_no_name (mark_symbol m) (mark_no_name m) name)
kind_is_name meaning kind.Name name = refl
kind_is_name meaning kind.Number name = absurd (is_no_name symbol.Number refl name)
kind_is_name meaning kind.Sized name = absurd (is_no_name symbol.Literal refl name)
kind_is_name meaning kind.Text name = absurd (is_no_name symbol.Text refl name)

is_text : Symbol → Bool
is_text symbol.Text = true
is_text _ = false

word_no_text : (w : Key) → is_text (word_symbol w) ≡ false
unfolding is_text
word_no_text key.Vunit = refl
word_no_text _ = refl

mark_no_text : (m : Mark) → is_text (mark_symbol m) ≡ false
unfolding is_text
mark_no_text mark.OpenBrace = refl
mark_no_text _ = refl

is_no_text : (t : Symbol) → is_text t ≡ false → t ≡ symbol.Text → ⊥
unfolding is_text
is_no_text t other e = let z : is_text t ≡ true = ap is_text e in cc

kind_is_text : (meaning : Symbol) (k : Kind) → is_name meaning ≡ true → kind_symbol meaning k ≡ symbol.Text
    → k ≡ kind.Text
kind_is_text meaning (kind.Word w) name e = absurd (is_no_text (word_symbol w) (word_no_text w) e)
kind_is_text meaning (kind.Mark m) name e = absurd (is_no_text (mark_symbol m) (mark_no_text m) e)
kind_is_text meaning kind.Name name e =
    let z : is_name meaning ≡ false = ap is_name e in absurd (is_no_name meaning z name)
kind_is_text meaning kind.Number name e = absurd (cc e)
kind_is_text meaning kind.Sized name e = absurd (cc e)
kind_is_text meaning kind.Text name e = refl

-- ---- what items make of names is a name

abbrev pub MeanNames : Known → Type 0
MeanNames known = (name : List ℕ) → is_name (meaning_of known name) ≡ true

meant_more : (known : Known) (own : List ℕ) (m : Symbol) → is_name m ≡ true → MeanNames known
    → MeanNames ((own, m) ∷ known)
meant_more known own m p h name = by (pointwise nat_eq own name)
  where
    by : (b : Bool) → is_name (cond b m (meaning_of known name)) ≡ true
    by true = p
    by false = h name

meant_learned : (text : List ℕ) (tokens : List Token) (known : Known) (n : ℕ) (m : Symbol) → is_name m ≡ true
    → MeanNames known → MeanNames (learned text tokens known n m)
meant_learned text tokens known n m p h = by (is_name (symbol_at (symbols_in text known tokens) n))
  where
    by : (b : Bool) → MeanNames (cond b ((name_at text tokens n, m) ∷ known) known)
    by true = meant_more known (name_at text tokens n) m p h
    by false = h

pub meant_after : (text : List ℕ) (tokens : List Token) (known : Known) (item : RawItem) → MeanNames known
    → MeanNames (known_after text tokens known item)
meant_after text tokens known (raw.clock n) h = h
meant_after text tokens known (raw.wire range names) h = h
meant_after text tokens known (raw.RawItem.sequence n body) h =
    meant_learned text tokens known n symbol.SequenceName refl h
meant_after text tokens known (raw.RawItem.property n body) h =
    meant_learned text tokens known n symbol.PropertyName refl h
meant_after text tokens known (raw.assert word label body report) h = h

-- ---- bytes

abbrev pub NameAt : (text : List ℕ) → List Token → ℕ → Type 0
NameAt text tokens n = IsUsableName (bytes_at (source text tokens) n)

abbrev pub TextAt : (text : List ℕ) → List Token → ℕ → Type 0
TextAt text tokens n = IsText (bytes_at (source text tokens) n)

pub name_in : (text : List ℕ) (known : Known) (tokens : List Token) → All (IsSpelled text) tokens → (n : ℕ)
    → is_name (symbol_at (symbols_in text known tokens) n) ≡ true → NameAt text tokens n
name_in text known [] spelled n e = absurd (is_no_name symbol.End refl e)
name_in text known (t ∷ ts) spelled zero e =
    subst (λ (k : Kind). IsToken k (slice_range text t.start t.«end»))
    (kind_is_name (meaning_of known (bytes_of text t)) t.kind e) (All-head (IsSpelled text) t ts spelled)
name_in text known (t ∷ ts) spelled (suc n) e = name_in text known ts (All-tail (IsSpelled text) t ts spelled) n e

pub signal_in : (text : List ℕ) (known : Known) (tokens : List Token) → All (IsSpelled text) tokens → (n : ℕ)
    → At (symbols_in text known tokens) n symbol.Name → NameAt text tokens n
signal_in text known tokens spelled n e = name_in text known tokens spelled n (ap is_name e)

pub text_in : (text : List ℕ) (known : Known) (tokens : List Token) → MeanNames known → All (IsSpelled text) tokens
    → (n : ℕ) → At (symbols_in text known tokens) n symbol.Text → TextAt text tokens n
text_in text known [] meant spelled n e = absurd (cc e)
text_in text known (t ∷ ts) meant spelled zero e =
    subst (λ (k : Kind). IsToken k (slice_range text t.start t.«end»))
    (kind_is_text (meaning_of known (bytes_of text t)) t.kind (meant (bytes_of text t)) e)
    (All-head (IsSpelled text) t ts spelled)
text_in text known (t ∷ ts) meant spelled (suc n) e =
    text_in text known ts meant (All-tail (IsSpelled text) t ts spelled) n e
