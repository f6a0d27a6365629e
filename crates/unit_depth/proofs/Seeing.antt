-- What the grammar sees of tokens by the names that are known, and by all items before.
use Rattle.std.proofs.Common.{◌≡◌, ℕ, zero, suc, ◌+◌, ◌<◌, ◌≤◌, inl, inr, Bool, true, false, cond}
use Rattle.std.proofs.Common.{List, [], ◌∷◌, length, take, refl, sym, ap, subst, ◌∙◌, arith, nat_eq}
use Rattle.std.proofs.lemmas.Bool.{cases_lt}
use Rattle.std.proofs.lemmas.List.{length-map, length_push, get_or_append_left, get_or_at, get_or-map, get_or_past}
use Rattle.std.proofs.lemmas.List.Sums.{fold_push}
use Rattle.std.proofs.Math.Seq.{take-suc}
use Rattle.std.specs.Prelude.{slice_index_or}
use Rattle.std.specs.Cmp.Lexicographic.{pointwise}
use Rattle.psl_lexer.specs.declared.kinds.Kind.{Kind}
use Rattle.psl_lexer.specs.declared.kinds.Kind.TheVariants as kind
use Rattle.psl_lexer.specs.declared.kinds.Token.{Token}
use Rattle.psl_grammar.specs.declared.symbols.Symbol.{Symbol}
use Rattle.psl_grammar.specs.declared.symbols.Symbol.TheVariants as symbol
use Rattle.psl_grammar.specs.Symbols.{symbol_at, is_name}
use Rattle.psl_grammar.specs.Units.{Known, meaning_of, bytes_of, kind_symbol, symbol_in, symbols_in, outside, no_token}
use Rattle.psl_grammar.specs.Units.{name_at}
use Rattle.psl_parser.specs.Depth.{behind, behind_all}
use Rattle.psl_parser.specs.Seen.{declared_as, way_to, item_at, ends_item, with_declared, known_before, seen_at}
use Rattle.psl_parser.specs.Seen.{seen_to, seen}
use Rattle.unit_depth.proofs.Keeping.{way}
use Rattle.unit_depth.proofs.Blanks.{blank}

-- a known name is one of a sequence or a property, or none
abbrev pub IsNaming : Known → Type 0
IsNaming known = (name : List ℕ) → blank (meaning_of known name) ≡ symbol.Name

one_naming : (b : Bool) (s t : Symbol) → blank s ≡ symbol.Name → blank t ≡ symbol.Name
    → blank (cond b s t) ≡ symbol.Name
one_naming true s t e f = e
one_naming false s t e f = f

naming_more : (key : List ℕ) (s : Symbol) (known : Known) → blank s ≡ symbol.Name → IsNaming known
    → IsNaming ((key, s) ∷ known)
naming_more key s known e all = λ name.
    one_naming (pointwise nat_eq key name) s (meaning_of known name) e (all name)

naming_cond : (b : Bool) (k l : Known) → IsNaming k → IsNaming l → IsNaming (cond b k l)
naming_cond true k l e f = e
naming_cond false k l e f = f

by_kind : (s : Symbol) (k : Kind) → blank s ≡ symbol.Name
    → blank (kind_symbol s k) ≡ blank (kind_symbol symbol.Name k)
by_kind s kind.Name e = e
by_kind s _ e = refl

pub way_is : (symbols : List Symbol) (n : ℕ) → n ≤ length symbols → way symbols n ≡ behind_all (take n symbols)
way_is symbols zero le = refl
way_is symbols (suc n) le =
    ap (λ (w : ℕ × ℕ). behind w (symbol_at symbols n)) (way_is symbols n (omega arith))
    ∙ sym (fold_push behind (0, 0) (take n symbols) (symbol_at symbols n))
    ∙ ap (λ (l : List Symbol). behind_all l) (sym (take-suc symbols n symbol.End le))

module _ (text : List ℕ) (tokens : List Token) where
  -- ---- names

  naming_declared : (first : ℕ) (s : Symbol) (known : Known) → IsNaming known
      → IsNaming (with_declared text tokens first (declared_as s) known)
  naming_declared first symbol.Sequence known all =
      naming_cond (is_name (symbol_at (outside text tokens) (first + 1)))
      ((name_at text tokens (first + 1), symbol.SequenceName) ∷ known) known
      (naming_more (name_at text tokens (first + 1)) symbol.SequenceName known refl all) all
  naming_declared first symbol.Property known all =
      naming_cond (is_name (symbol_at (outside text tokens) (first + 1)))
      ((name_at text tokens (first + 1), symbol.PropertyName) ∷ known) known
      (naming_more (name_at text tokens (first + 1)) symbol.PropertyName known refl all) all
  naming_declared first _ known all = all

  pub naming_before : (n : ℕ) → IsNaming (known_before text tokens n)
  naming_before zero = λ name. refl
  naming_before (suc i) =
      naming_cond (ends_item text tokens i)
      (with_declared text tokens (item_at text tokens i)
      (declared_as (symbol_at (outside text tokens) (item_at text tokens i))) (known_before text tokens i))
      (known_before text tokens i)
      (naming_declared (item_at text tokens i) (symbol_at (outside text tokens) (item_at text tokens i))
      (known_before text tokens i) (naming_before i)) (naming_before i)

  -- ---- symbols

  pub at_in : (known : Known) (n : ℕ) → n < length tokens
      → symbol_at (symbols_in text known tokens) n ≡ symbol_in text known (slice_index_or tokens n no_token)
  at_in known n lt = get_or-map (symbol_in text known) tokens n no_token symbol.End lt

  pub long_in : (known : Known) → length (symbols_in text known tokens) ≡ length tokens
  long_in known = simp length-map

  pub past_in : (known : Known) (n : ℕ) → length tokens ≤ n → symbol_at (symbols_in text known tokens) n ≡ symbol.End
  past_in known n le =
      let e = long_in known in get_or_past (symbols_in text known tokens) n symbol.End (omega arith)

  seen_long : (n : ℕ) → length (seen_to text tokens n) ≡ n
  seen_long zero = refl
  seen_long (suc n) =
      let more : n + 1 ≡ suc n = omega arith in
      length_push (seen_to text tokens n) (seen_at text tokens n) ∙ ap (λ (m : ℕ). m + 1) (seen_long n) ∙ more

  seen_there : (k n : ℕ) → n < k → symbol_at (seen_to text tokens k) n ≡ seen_at text tokens n
  seen_there zero n lt = absurd (omega arith)
  seen_there (suc k) n lt =
      elim (cases_lt n k) [
        | inl h ↦
            get_or_append_left (seen_to text tokens k) (seen_at text tokens k ∷ []) symbol.End n
            (subst (λ (m : ℕ). n < m) (sym (seen_long k)) h) ∙ seen_there k n h
        | inr h ↦
            let same : k ≡ n = omega arith in
            get_or_at (seen_to text tokens k) (seen_at text tokens k) [] symbol.End n (seen_long k ∙ same)
            ∙ ap (λ (m : ℕ). seen_at text tokens m) same
      ]

  pub seen_in : (n : ℕ) → n < length tokens → symbol_at (seen text tokens) n ≡ seen_at text tokens n
  seen_in n lt = seen_there (length tokens) n lt

  pub seen_length : length (seen text tokens) ≡ length tokens
  seen_length = seen_long (length tokens)

  seen_past : (n : ℕ) → length tokens ≤ n → symbol_at (seen text tokens) n ≡ symbol.End
  seen_past n le = let e = seen_length in get_or_past (seen text tokens) n symbol.End (omega arith)

  blank_in : (known : Known) (token : Token) → IsNaming known
      → blank (symbol_in text known token) ≡ blank (symbol_in text [] token)
  blank_in known token all =
      by_kind (meaning_of known (bytes_of text token)) token.kind (all (bytes_of text token))

  pub blank_local : (known : Known) → IsNaming known → (n : ℕ)
      → blank (symbol_at (symbols_in text known tokens) n) ≡ blank (symbol_at (seen text tokens) n)
  blank_local known all n =
      elim (cases_lt n (length tokens)) [
        | inl h ↦
            ap blank (at_in known n h) ∙ blank_in known (slice_index_or tokens n no_token) all
            ∙ sym (blank_in (known_before text tokens n) (slice_index_or tokens n no_token) (naming_before n))
            ∙ sym (ap blank (seen_in n h))
        | inr h ↦ ap blank (past_in known n h) ∙ sym (ap blank (seen_past n h))
      ]

  -- where the names that are known before a token are those
  pub local_is : (known : Known) (n : ℕ) → n < length tokens → known_before text tokens n ≡ known
      → symbol_at (symbols_in text known tokens) n ≡ symbol_at (seen text tokens) n
  local_is known n lt same =
      at_in known n lt
      ∙ ap (λ (k : Known). symbol_in text k (slice_index_or tokens n no_token)) (sym same) ∙ sym (seen_in n lt)

  pub way_to_is : (n : ℕ) → n ≤ length tokens → way (outside text tokens) n ≡ way_to text tokens n
  way_to_is n le = let e = long_in [] in way_is (outside text tokens) n (omega arith)
