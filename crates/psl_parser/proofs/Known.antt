-- The names that are known behind one more token, and the symbols that they make.
use Rattle.std.proofs.Common.{◌≡◌, ℕ, zero, suc, ◌+◌, ◌-◌, ◌<◌, ◌≤◌, Bool, true, false, cond, Option, Some, List, []}
use Rattle.std.proofs.Common.{◌∷◌, ◌++◌, length, refl, sym, ap, subst, ◌∙◌, arith, take, nat_eq}
use Rattle.std.proofs.lemmas.List.{length-map, length_push}
use Rattle.std.proofs.lemmas.List.Sums.{fold_push}
use Rattle.std.proofs.Math.Seq.{take-suc}
use Rattle.std.specs.Prelude.{◌&&◌, map, unwrap_or, slice_index_or}
use Rattle.std.specs.Cmp.Lexicographic.{pointwise}
use Rattle.indexmap.specs.IndexMap.{get, Updates}
use Rattle.psl_lexer.specs.declared.kinds.Kind.{Kind}
use Rattle.psl_lexer.specs.declared.kinds.Kind.TheVariants as kind
use Rattle.psl_lexer.specs.declared.kinds.Token.{Token}
use Rattle.psl_grammar.specs.declared.symbols.Symbol.{Symbol}
use Rattle.psl_grammar.specs.declared.symbols.Symbol.TheVariants as symbol
use Rattle.psl_grammar.specs.Symbols.{symbol_at}
use Rattle.psl_grammar.specs.Units.{Known, meaning_of, bytes_of, kind_symbol, symbol_in, symbols_in, outside, no_token}
use Rattle.psl_parser.specs.Depth.{behind, behind_all}
use Rattle.psl_parser.specs.Seen.{is_semicolon, declared_as, way_to, item_at, ends_item, with_declared, known_before}
use Rattle.psl_parser.specs.Seen.{seen_at, seen_to, seen}
use Rattle.psl_parser.specs.inner.Names.{is_name_kind, Knows, AreKnown}
use Rattle.psl_parser.specs.declared.names.Names.{Names}

-- ---- symbols

by_kind : (s : Symbol) (k : Kind) → is_name_kind k ≡ false → kind_symbol symbol.Name k ≡ kind_symbol s k
by_kind s kind.Name e = absurd (cc)
by_kind s _ e = refl

name_kind : (s : Symbol) (k : Kind) → is_name_kind k ≡ true → kind_symbol s k ≡ s
name_kind s kind.Name e = refl
name_kind s _ e = absurd (cc)

-- what is no name has one symbol
pub other_is : (text : List ℕ) (known : Known) (token : Token) → is_name_kind token.kind ≡ false
    → symbol_in text [] token ≡ symbol_in text known token
other_is text known token e = by_kind (meaning_of known (bytes_of text token)) token.kind e

pub named_is : (text : List ℕ) (known : Known) (token : Token) → is_name_kind token.kind ≡ true
    → symbol_in text known token ≡ meaning_of known (bytes_of text token)
named_is text known token e = name_kind (meaning_of known (bytes_of text token)) token.kind e

mapped : (f : Token → Symbol) (ts : List Token) (k : ℕ) → k < length ts → slice_index_or (map f ts) k symbol.End
    ≡ f (slice_index_or ts k no_token)
mapped f [] k lt = absurd (omega arith)
mapped f (t ∷ ts) zero lt = refl
mapped f (t ∷ ts) (suc k) lt = mapped f ts k (omega arith)

pub plain_at : (text : List ℕ) (tokens : List Token) (k : ℕ) → k < length tokens
    → symbol_at (outside text tokens) k ≡ symbol_in text [] (slice_index_or tokens k no_token)
plain_at text tokens k lt = mapped (symbol_in text []) tokens k lt

-- ---- names

newer : (b : Bool) (o : Option Symbol) (meaning rest : Symbol) → unwrap_or o symbol.Name ≡ rest
    → unwrap_or (cond b (Some meaning) o) symbol.Name ≡ cond b meaning rest
newer true o meaning rest e = refl
newer false o meaning rest e = e

pub knows_more : (known : Known) (key : List ℕ) (meaning : Symbol) (names more : Names)
    → Updates (pointwise nat_eq) names.known more.known key (Some meaning) → Knows known names
    → Knows ((key, meaning) ∷ known) more
knows_more known key meaning names more updates knows = λ name.
    ap (λ (o : Option Symbol). unwrap_or o symbol.Name) (updates.0 name)
    ∙ newer (pointwise nat_eq key name) (get (pointwise nat_eq) names.known name) meaning (meaning_of known name)
    (knows name)

module _ (text : List ℕ) (tokens : List Token) where
  -- whether the token ends an item is told by the braces that were counted
  ending : (place : ℕ) (names : Names) → AreKnown text tokens place names
      → ends_item text tokens place ≡ (is_semicolon (symbol_at (outside text tokens) place) && nat_eq names.braces 1)
  ending place names at =
      ap (λ (w : ℕ × ℕ). is_semicolon (symbol_at (outside text tokens) place) && nat_eq w.0 1) (sym at.way)

  first_is : (place : ℕ) (names : Names) → AreKnown text tokens place names
      → place - names.own ≡ item_at text tokens place
  first_is place names at = ap (λ (w : ℕ × ℕ). place - w.1) at.way

  next_known : (place : ℕ) (b : Bool) → ends_item text tokens place ≡ b → known_before text tokens (suc place)
      ≡ cond b (with_declared text tokens (item_at text tokens place)
      (declared_as (symbol_at (outside text tokens) (item_at text tokens place))) (known_before text tokens place))
      (known_before text tokens place)
  next_known place b e = ap (λ (c : Bool). cond c (with_declared text tokens (item_at text tokens place)
      (declared_as (symbol_at (outside text tokens) (item_at text tokens place))) (known_before text tokens place))
      (known_before text tokens place)) e

  after : (place : ℕ) (known : Known) (more : Names) → known_before text tokens (suc place) ≡ known → Knows known more
      → Knows (known_before text tokens (place + 1)) more
  after place known more same knows =
      let next : suc place ≡ place + 1 = omega arith in
      subst (λ (n : ℕ). Knows (known_before text tokens n) more) next
      (subst (λ (k : Known). Knows k more) (sym same) knows)

  pub declared_more : (place : ℕ) (names more : Names) → AreKnown text tokens place names
      → (is_semicolon (symbol_at (outside text tokens) place) && nat_eq names.braces 1) ≡ true
      → Knows (with_declared text tokens (place - names.own)
      (declared_as (symbol_at (outside text tokens) (place - names.own))) (known_before text tokens place)) more
      → Knows (known_before text tokens (place + 1)) more
  declared_more place names more at ends knows =
      after place (with_declared text tokens (item_at text tokens place)
      (declared_as (symbol_at (outside text tokens) (item_at text tokens place))) (known_before text tokens place)) more
      (next_known place true (ending place names at ∙ ends))
      (subst (λ (n : ℕ). Knows (with_declared text tokens n
      (declared_as (symbol_at (outside text tokens) n)) (known_before text tokens place)) more)
      (first_is place names at) knows)

  -- the same for what is known of the steps
  pub declared_known : (place : ℕ) (names more : Names) (symbol_now : Symbol) (first : ℕ)
      → symbol_now ≡ symbol_at (outside text tokens) place → first ≡ place - names.own
      → AreKnown text tokens place names → (is_semicolon symbol_now && nat_eq names.braces 1) ≡ true
      → Knows (with_declared text tokens first (declared_as (symbol_at (outside text tokens) first))
      (known_before text tokens place)) more
      → Knows (known_before text tokens (place + 1)) more
  declared_known place names more symbol_now first symbol_is first_at at ends knows =
      declared_more place names more at
      (ap (λ (s : Symbol). is_semicolon s && nat_eq names.braces 1) (sym symbol_is) ∙ ends)
      (subst (λ (n : ℕ). Knows (with_declared text tokens n
      (declared_as (symbol_at (outside text tokens) n)) (known_before text tokens place)) more) first_at knows)

  pub undeclared_more : (place : ℕ) (names : Names) → AreKnown text tokens place names
      → (is_semicolon (symbol_at (outside text tokens) place) && nat_eq names.braces 1) ≡ false
      → Knows (known_before text tokens (place + 1)) names
  undeclared_more place names at ends =
      after place (known_before text tokens place) names (next_known place false (ending place names at ∙ ends))
      at.known

  pub known_on : (place : ℕ) (names more next : Names) → place < length tokens → AreKnown text tokens place names
      → Knows (known_before text tokens (place + 1)) more → next.known ≡ more.known
      → (next.braces, next.own) ≡ behind (names.braces, names.own) (symbol_at (outside text tokens) place)
      → next.braces ≤ names.braces + 1 → next.own ≤ names.own + 1 → AreKnown text tokens (place + 1) next
  known_on place names more following within at knows same way few few_own = record {
    known = λ name. ap (λ m. unwrap_or (get (pointwise nat_eq) m name) symbol.Name) same ∙ knows name;
    way = way ∙ ap (λ (w : ℕ × ℕ). behind w (symbol_at (outside text tokens) place)) at.way
        ∙ sym (fold_push behind (0, 0) (take place (outside text tokens)) (symbol_at (outside text tokens) place))
        ∙ ap (λ (l : List Symbol). behind_all l) (sym (take-suc (outside text tokens) place symbol.End inside))
        ∙ ap (λ (n : ℕ). way_to text tokens n) next;
    few = let le = at.few in omega arith;
    few_own = let le = at.few_own in omega arith;
  }
    where
      next : suc place ≡ place + 1
      next = omega arith

      inside : place < length (outside text tokens)
      inside =
          let long : length (symbols_in text [] tokens) ≡ length tokens = simp length-map in
          omega arith

  pub seen_more : (place : ℕ) (symbols all : List Symbol) (symbol_now : Symbol) (token : Token)
      → symbols ≡ seen_to text tokens place → token ≡ slice_index_or tokens place no_token
      → symbol_now ≡ symbol_in text (known_before text tokens place) token → all ≡ symbols ++ symbol_now ∷ []
      → all ≡ seen_to text tokens (place + 1)
  seen_more place symbols all symbol_now token before token_is symbol_is all_are =
      let next : suc place ≡ place + 1 = omega arith in
      all_are ∙ ap (λ (l : List Symbol). l ++ symbol_now ∷ []) before
      ∙ ap (λ (s : Symbol). seen_to text tokens place ++ s ∷ [])
      (symbol_is ∙ ap (λ (t : Token). symbol_in text (known_before text tokens place) t) token_is)
      ∙ ap (λ (n : ℕ). seen_to text tokens n) next

  seen_to_length : (n : ℕ) → length (seen_to text tokens n) ≡ n
  seen_to_length zero = refl
  seen_to_length (suc n) =
      let more : n + 1 ≡ suc n = omega arith in
      length_push (seen_to text tokens n) (seen_at text tokens n) ∙ ap (λ (m : ℕ). m + 1) (seen_to_length n) ∙ more

  pub seen_length : (symbols : List Symbol) → symbols ≡ seen text tokens → length symbols ≡ length tokens
  seen_length symbols same = ap (λ (l : List Symbol). length l) same ∙ seen_to_length (length tokens)
