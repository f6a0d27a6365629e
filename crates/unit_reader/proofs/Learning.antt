-- How names get their meanings.
use Rattle.std.proofs.Common.{◌≡◌, ◌≢◌, ℕ, zero, suc, ◌<◌, ◌≤◌, Bool, true, false, cond, List, [], ◌∷◌, length, set}
use Rattle.std.proofs.Common.{nat_eq, refl, sym, ap, subst, ◌∙◌, arith}
use Rattle.std.proofs.lemmas.List.{length-map, length-set, get_or-set_same, get_or-set_other}
use Rattle.std.specs.Prelude.{◌&&◌}
use Rattle.std.specs.Cmp.Lexicographic.{pointwise, bytes_decides}
use Rattle.psl_lexer.specs.declared.kinds.Token.{Token}
use Rattle.psl_lexer.specs.declared.kinds.Kind.{Kind}
use Rattle.psl_lexer.specs.declared.kinds.Kind.TheVariants as kind
use Rattle.psl_grammar.specs.declared.symbols.Symbol.{Symbol}
use Rattle.psl_grammar.specs.declared.symbols.Symbol.TheVariants as symbol
use Rattle.psl_grammar.specs.Symbols.{symbol_at, is_name}
use Rattle.psl_grammar.specs.Units.{Known, kind_symbol, meaning_of, bytes_of, symbols_in}
use Rattle.unit_reader.specs.inner.Namesakes.{is_name_kind, named_at, IsLatest, has_before}
use Rattle.unit_reader.proofs.SymbolTests.{is_same}
use Rattle.unit_reader.proofs.Noting.{by_test, side_of, earlier, here, later}

-- a token with the name has the new meaning
kind_learns : (known : Known) (bytes name : List ℕ) (meaning : Symbol) (k : Kind)
    → (is_name_kind k && pointwise nat_eq name bytes) ≡ true
    → kind_symbol (meaning_of ((name, meaning) ∷ known) bytes) k ≡ meaning
kind_learns known bytes name meaning (kind.Word w) h = absurd (cc)
kind_learns known bytes name meaning (kind.Mark m) h = absurd (cc)
kind_learns known bytes name meaning kind.Name h =
    ap (λ (b : Bool). cond b meaning (meaning_of known bytes)) h
kind_learns known bytes name meaning kind.Number h = absurd (cc)
kind_learns known bytes name meaning kind.Sized h = absurd (cc)
kind_learns known bytes name meaning kind.Text h = absurd (cc)

-- another token is seen as before
kind_keeps : (known : Known) (bytes name : List ℕ) (meaning : Symbol) (k : Kind)
    → (is_name_kind k && pointwise nat_eq name bytes) ≡ false
    → kind_symbol (meaning_of ((name, meaning) ∷ known) bytes) k ≡ kind_symbol (meaning_of known bytes) k
kind_keeps known bytes name meaning (kind.Word w) h = refl
kind_keeps known bytes name meaning (kind.Mark m) h = refl
kind_keeps known bytes name meaning kind.Name h =
    ap (λ (b : Bool). cond b meaning (meaning_of known bytes)) h
kind_keeps known bytes name meaning kind.Number h = refl
kind_keeps known bytes name meaning kind.Sized h = refl
kind_keeps known bytes name meaning kind.Text h = refl

-- a token with the name had this meaning
kind_had : (known : Known) (bytes name : List ℕ) (k : Kind) → (is_name_kind k && pointwise nat_eq name bytes) ≡ true
    → kind_symbol (meaning_of known bytes) k ≡ meaning_of known name
kind_had known bytes name (kind.Word w) h = absurd (cc)
kind_had known bytes name (kind.Mark m) h = absurd (cc)
kind_had known bytes name kind.Name h =
    ap (λ (q : List ℕ). meaning_of known q) (sym ((bytes_decides name bytes).0 h))
kind_had known bytes name kind.Number h = absurd (cc)
kind_had known bytes name kind.Sized h = absurd (cc)
kind_had known bytes name kind.Text h = absurd (cc)

module _ (text : List ℕ) where
  symbol_learns : (tokens : List Token) (known : Known) (name : List ℕ) (meaning : Symbol) (k : ℕ)
      → named_at text tokens name k ≡ true → symbol_at (symbols_in text ((name, meaning) ∷ known) tokens) k ≡ meaning
  symbol_learns [] known name meaning k h = absurd (cc)
  symbol_learns (t ∷ ts) known name meaning zero h = kind_learns known (bytes_of text t) name meaning t.kind h
  symbol_learns (t ∷ ts) known name meaning (suc k) h = symbol_learns ts known name meaning k h

  symbol_keeps : (tokens : List Token) (known : Known) (name : List ℕ) (meaning : Symbol) (k : ℕ)
      → named_at text tokens name k ≡ false
      → symbol_at (symbols_in text ((name, meaning) ∷ known) tokens) k ≡ symbol_at (symbols_in text known tokens) k
  symbol_keeps [] known name meaning k h = refl
  symbol_keeps (t ∷ ts) known name meaning zero h = kind_keeps known (bytes_of text t) name meaning t.kind h
  symbol_keeps (t ∷ ts) known name meaning (suc k) h = symbol_keeps ts known name meaning k h

  symbol_had : (tokens : List Token) (known : Known) (name : List ℕ) (k : ℕ) → named_at text tokens name k ≡ true
      → symbol_at (symbols_in text known tokens) k ≡ meaning_of known name
  symbol_had [] known name k h = absurd (cc)
  symbol_had (t ∷ ts) known name zero h = kind_had known (bytes_of text t) name t.kind h
  symbol_had (t ∷ ts) known name (suc k) h = symbol_had ts known name k h

  -- no name stands behind the last token
  none_named : (tokens : List Token) (name : List ℕ) (k : ℕ) → length tokens ≤ k → named_at text tokens name k ≡ false
  none_named [] name k le = refl
  none_named (t ∷ ts) name zero le = absurd (omega arith)
  none_named (t ∷ ts) name (suc k) le = none_named ts name k (omega arith)

same_symbols : (xs ys : List Symbol) → length xs ≡ length ys → ((k : ℕ) → symbol_at xs k ≡ symbol_at ys k) → xs ≡ ys
same_symbols [] [] long each = refl
same_symbols [] (y ∷ ys) long each = absurd (omega arith)
same_symbols (x ∷ xs) [] long each = absurd (omega arith)
same_symbols (x ∷ xs) (y ∷ ys) long each =
    let rest : xs ≡ ys = same_symbols xs ys (omega arith) (λ k. each (suc k)) in
    let first : x ≡ y = each 0 in λ i. first i ∷ rest i

module _ (text : List ℕ) (tokens : List Token) (name : List ℕ) (meaning : Symbol) where
  abbrev pub new_symbols : Known → List Symbol
  new_symbols known = symbols_in text ((name, meaning) ∷ known) tokens

  -- the tokens from a place on have learned the meaning
  pub record Learns (known : Known) (all : List Symbol) (above : ℕ) : Type 0 where
    pub many : length all ≡ length tokens
    pub earlier : (k : ℕ) → k < above → symbol_at all k ≡ symbol_at (symbols_in text known tokens) k
    pub later : (k : ℕ) → above ≤ k → symbol_at all k ≡ symbol_at (new_symbols known) k

  pub learns_first : (known : Known) (latest : ℕ) (symbols : List Symbol) → symbols ≡ symbols_in text known tokens
      → IsLatest text tokens name (length tokens) latest → Learns known symbols latest
  learns_first known latest symbols same l = record {
    many = ap (λ (s : List Symbol). length s) same ∙ long;
    earlier = λ k lt. ap (λ (s : List Symbol). symbol_at s k) same;
    later = λ k le. ap (λ (s : List Symbol). symbol_at s k) same ∙ sym (symbol_keeps text tokens known name meaning k
        (elim (side_of k (length tokens)) [
          | earlier h ↦ l.no_later k le h
          | here h ↦ none_named text tokens name k (omega arith)
          | later h ↦ none_named text tokens name k (omega arith)
        ]));
  }
    where
      long : length (symbols_in text known tokens) ≡ length tokens
      long = simp length-map

  pub learns_next : (known : Known) (all more : List Symbol) (above place next : ℕ) → above ≡ suc place
      → above ≤ length tokens → Learns known all above → more ≡ set all place meaning
      → named_at text tokens name place ≡ true → IsLatest text tokens name place next → Learns known more next
  learns_next known all more above place next is_next within l written named n = record {
    many = ap (λ (s : List Symbol). length s) written ∙ length-set all place meaning ∙ l.many;
    earlier = λ k lt. let le = n.before in let below : k < place = omega arith in
        there k ∙ get_or-set_other all place k meaning symbol.End (other k below) ∙ l.earlier k (omega arith);
    later = λ k le. elim (side_of k place) [
      | earlier h ↦ there k ∙ get_or-set_other all place k meaning symbol.End (other k h) ∙ l.earlier k (omega arith)
          ∙ sym (symbol_keeps text tokens known name meaning k (n.no_later k le h))
      | here h ↦ there k ∙ subst (λ (m : ℕ). symbol_at (set all place meaning) m ≡ symbol_at (new_symbols known) m)
          (sym h) (get_or-set_same all place meaning symbol.End
          (subst (λ (m : ℕ). place < m) (sym l.many) (omega arith))
          ∙ sym (symbol_learns text tokens known name meaning place named))
      | later h ↦ there k ∙ get_or-set_other all place k meaning symbol.End (other_later k h) ∙ l.later k (omega arith)
    ];
  }
    where
      there : (k : ℕ) → symbol_at more k ≡ symbol_at (set all place meaning) k
      there k = ap (λ (s : List Symbol). symbol_at s k) written

      other : (k : ℕ) → k < place → k ≢ place
      other k lt e = omega arith

      other_later : (k : ℕ) → place < k → k ≢ place
      other_later k lt e = omega arith

  pub learns_all : (known : Known) (all : List Symbol) → Learns known all 0 → all ≡ new_symbols known
  learns_all known all l =
      same_symbols all (new_symbols known) (l.many ∙ sym long) (λ k. l.later k (omega arith))
    where
      long : length (new_symbols known) ≡ length tokens
      long = simp length-map

  -- where the latest token with the name has the meaning, each has
  pub learned_before : (known : Known) (symbols : List Symbol) (latest : ℕ) → symbols ≡ symbols_in text known tokens
      → IsLatest text tokens name (length tokens) latest → has_before symbols latest meaning ≡ true
      → symbols ≡ new_symbols known
  learned_before known symbols zero same l had = learns_all known symbols (learns_first known 0 symbols same l)
  learned_before known symbols (suc latest) same l had =
      same_symbols symbols (new_symbols known) (ap (λ (s : List Symbol). length s) same ∙ long) each
    where
      long : length (symbols_in text known tokens) ≡ length (new_symbols known)
      long = simp length-map

      mean : meaning_of known name ≡ meaning
      mean = sym (symbol_had text tokens known name latest (l.behind latest refl))
          ∙ sym (ap (λ (s : List Symbol). symbol_at s latest) same) ∙ is_same (symbol_at symbols latest) meaning had

      each : (k : ℕ) → symbol_at symbols k ≡ symbol_at (new_symbols known) k
      each k = ap (λ (s : List Symbol). symbol_at s k) same
          ∙ by_test (named_at text tokens name k)
          (λ h. symbol_had text tokens known name k h ∙ mean
          ∙ sym (symbol_learns text tokens known name meaning k h))
          λ h. sym (symbol_keeps text tokens known name meaning k h)

-- a name is a token
pub name_within : (text : List ℕ) (known : Known) (tokens : List Token) (i : ℕ) → length tokens ≤ i
    → is_name (symbol_at (symbols_in text known tokens) i) ≡ false
name_within text known [] i le = refl
name_within text known (t ∷ ts) zero le = absurd (omega arith)
name_within text known (t ∷ ts) (suc i) le = name_within text known ts i (omega arith)
