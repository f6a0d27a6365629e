-- The tokens of a text are a unit exactly if they spell a tree and none of them is too deep.
use Rattle.std.proofs.Common.{◌≡◌, ℕ, zero, suc, ◌<◌, ◌≤◌, ◌↔◌, Bool, true, false, List}
use Rattle.std.proofs.Common.{length, refl, sym, ap, subst, ◌∙◌, arith}
use Rattle.std.specs.Prelude.{not, IsTrue}
use Rattle.psl_lexer.specs.declared.kinds.Token.{Token}
use Rattle.psl_grammar.specs.declared.symbols.Symbol.{Symbol}
use Rattle.psl_grammar.specs.declared.symbols.Symbol.TheVariants as symbol
use Rattle.psl_grammar.specs.RawUnit.{RawUnit}
use Rattle.psl_grammar.specs.Symbols.{symbol_at, At, is_name}
use Rattle.psl_grammar.specs.ItemGrammar.{AnyName}
use Rattle.psl_grammar.specs.Units as units
use Rattle.psl_grammar.specs.Units.{outside, IsUnit}
use Rattle.psl_parser.specs.Marks.{is_open_brace}
use Rattle.psl_parser.specs.OpenPhrases.{reach_by, is_behind, ends_form}
use Rattle.psl_parser.specs.Depth.{NoneTooDeep}
use Rattle.psl_parser.specs.Seen.{is_semicolon, seen}
use Rattle.unit_depth.specs.Spelled as spell
use Rattle.unit_depth.specs.Spelled.{SpellUnit, Spell}
use Rattle.unit_depth.proofs.Counting.{none_from}
use Rattle.unit_depth.proofs.Marks.{Level, level_of, still_of, is_still, name_still}
use Rattle.unit_depth.proofs.Phrases.{Spanned, spanned_join, spanned_token}
use Rattle.unit_depth.proofs.Tokens.{Setting, still_reach, still_behind, reach_any, reach_at, form_round}
use Rattle.unit_depth.proofs.Tokens.{no_event}
use Rattle.unit_depth.proofs.Keeping.{way}
use Rattle.unit_depth.proofs.Told.{Told, told_inside, spanned_round}
use Rattle.unit_depth.proofs.Items.{name_event}
use Rattle.unit_depth.proofs.Blanks.{blank, blanked, by}
use Rattle.unit_depth.proofs.Steps.{moved, plain_seen, seen_setting}
use Rattle.unit_depth.proofs.Units.{Header, header_boundary, made, none_deep, read}

name_level : (s : Symbol) → IsTrue (is_name s) → Level s
name_level s h = let still = still_of s (name_still s h).0 in still.level

name_unbraced : (s : Symbol) → IsTrue (is_name s) → is_open_brace s ≡ false
name_unbraced symbol.Name h = refl
name_unbraced symbol.SequenceName h = refl
name_unbraced symbol.PropertyName h = refl
name_unbraced _ h = cc

small_2 : 2 ≤ 2
small_2 = omega arith

small_5 : 2 ≤ 5
small_5 = omega arith

module _ (text : List ℕ) (tokens : List Token) where
  abbrev P : List Symbol
  P = outside text tokens

  abbrev S : List Symbol
  S = seen text tokens

  flat_more : (n : ℕ) → Level (symbol_at P n) → (way P n).0 ≡ 0 → (way P (suc n)).0 ≡ 0
  flat_more n l e = l.braces (way P n).0 ∙ e

  level_at : (n : ℕ) (s : Symbol) → At P n s → Level s → Level (symbol_at P n)
  level_at n s at l = subst (λ (t : Symbol). Level t) (sym at) l

  at_seen : (n : ℕ) (s : Symbol) → At P n s → ((s ≡ symbol.Name) → ⊥) → blank s ≡ s → At S n s
  at_seen n s at not_so e = moved P S (plain_seen text tokens) n s e not_so at

  name_seen : (n : ℕ) → AnyName P n → IsTrue (is_name (symbol_at S n))
  name_seen n h = sym (by P S (plain_seen text tokens) is_name (λ s. (blanked s).name) n) ∙ h

  still_token : (x : Setting) (n : ℕ) → is_still (symbol_at x.symbols n) ≡ true → Spanned x.symbols 64 n (suc n)
  still_token x n still = spanned_token x.symbols 64 n (still_reach x n still)

  -- the unit's own brace opens no phrase
  brace_token : (x : Setting) (n : ℕ) → At x.symbols n symbol.OpenBrace
      → ((k : ℕ) → k < n → is_open_brace (symbol_at x.symbols k) ≡ false) → Spanned x.symbols 64 n (suc n)
  brace_token x n at none =
      spanned_token x.symbols 64 n
      (reach_any x n symbol.OpenBrace at
      ∙ ap (λ (b : Bool). reach_by symbol.OpenBrace (not b) (is_behind x.symbols n) (ends_form x.symbols n))
      (none_from (λ k. is_open_brace (symbol_at x.symbols k)) 0 n (λ k low high. none k high)))

  module _ (a : At P 0 symbol.Vunit) (n : AnyName P 1) where
    vunit_still : is_still (symbol_at S 0) ≡ true
    vunit_still = ap is_still (at_seen 0 symbol.Vunit a (λ e. cc) refl)

    name_still_seen : is_still (symbol_at S 1) ≡ true
    name_still_seen = (name_still (symbol_at S 1) (name_seen 1 n)).0

    -- ---- a unit that is bound to no module

    module _ (b : At P 2 symbol.OpenBrace) where
      abbrev own : Setting
      own = seen_setting text tokens 2 a b

      plain_quiet : (k : ℕ) → k < 3 → is_semicolon (symbol_at P k) ≡ false
      plain_quiet zero lt = ap is_semicolon a
      plain_quiet (suc zero) lt = (name_level (symbol_at P 1) n).semicolon
      plain_quiet (suc (suc zero)) lt = ap is_semicolon b
      plain_quiet (suc (suc (suc k))) lt = absurd (omega arith)

      flat_1 : (way P 1).0 ≡ 0
      flat_1 = flat_more 0 (level_at 0 symbol.Vunit a (level_of symbol.Vunit refl)) refl

      flat_2 : (way P 2).0 ≡ 0
      flat_2 = flat_more 1 (name_level (symbol_at P 1) n) flat_1

      plain_flat : (k : ℕ) → k ≤ 2 → (way P k).0 ≡ 0
      plain_flat zero le = refl
      plain_flat (suc zero) le = flat_1
      plain_flat (suc (suc zero)) le = flat_2
      plain_flat (suc (suc (suc k))) le = absurd (omega arith)

      plain_unbraced : (k : ℕ) → k < 2 → is_open_brace (symbol_at S k) ≡ false
      plain_unbraced zero lt = ap is_open_brace (at_seen 0 symbol.Vunit a (λ e. cc) refl)
      plain_unbraced (suc zero) lt = name_unbraced (symbol_at S 1) (name_seen 1 n)
      plain_unbraced (suc (suc k)) lt = absurd (omega arith)

      plain_header : Header text tokens 2 a b small_2 3
      plain_header = record {
        same = refl;
        quiet = plain_quiet;
        flat = plain_flat;
        spanned = spanned_join S 64 0 1 3 (omega arith) (omega arith) (still_token own 0 vunit_still)
            (spanned_join S 64 1 2 3 (omega arith) (omega arith) (still_token own 1 name_still_seen)
            (brace_token own 2 own.braced plain_unbraced));
      }

    -- ---- a unit that is bound to a module

    module _ (o : At P 2 symbol.OpenParenthesis) (m : AnyName P 3) (c : At P 4 symbol.CloseParenthesis)
        (b : At P 5 symbol.OpenBrace) where
      abbrev all : Setting
      all = seen_setting text tokens 5 a b

      open_seen : At S 2 symbol.OpenParenthesis
      open_seen = at_seen 2 symbol.OpenParenthesis o (λ e. cc) refl

      close_seen : At S 4 symbol.CloseParenthesis
      close_seen = at_seen 4 symbol.CloseParenthesis c (λ e. cc) refl

      bound_quiet : (k : ℕ) → k < 6 → is_semicolon (symbol_at P k) ≡ false
      bound_quiet zero lt = ap is_semicolon a
      bound_quiet (suc zero) lt = (name_level (symbol_at P 1) n).semicolon
      bound_quiet (suc (suc zero)) lt = ap is_semicolon o
      bound_quiet (suc (suc (suc zero))) lt = (name_level (symbol_at P 3) m).semicolon
      bound_quiet (suc (suc (suc (suc zero)))) lt = ap is_semicolon c
      bound_quiet (suc (suc (suc (suc (suc zero))))) lt = ap is_semicolon b
      bound_quiet (suc (suc (suc (suc (suc (suc k)))))) lt = absurd (omega arith)

      level_1 : (way P 1).0 ≡ 0
      level_1 = flat_more 0 (level_at 0 symbol.Vunit a (level_of symbol.Vunit refl)) refl

      level_2 : (way P 2).0 ≡ 0
      level_2 = flat_more 1 (name_level (symbol_at P 1) n) level_1

      level_3 : (way P 3).0 ≡ 0
      level_3 = flat_more 2 (level_at 2 symbol.OpenParenthesis o (level_of symbol.OpenParenthesis refl)) level_2

      level_4 : (way P 4).0 ≡ 0
      level_4 = flat_more 3 (name_level (symbol_at P 3) m) level_3

      level_5 : (way P 5).0 ≡ 0
      level_5 = flat_more 4 (level_at 4 symbol.CloseParenthesis c (level_of symbol.CloseParenthesis refl)) level_4

      bound_flat : (k : ℕ) → k ≤ 5 → (way P k).0 ≡ 0
      bound_flat zero le = refl
      bound_flat (suc zero) le = level_1
      bound_flat (suc (suc zero)) le = level_2
      bound_flat (suc (suc (suc zero))) le = level_3
      bound_flat (suc (suc (suc (suc zero)))) le = level_4
      bound_flat (suc (suc (suc (suc (suc zero))))) le = level_5
      bound_flat (suc (suc (suc (suc (suc (suc k)))))) le = absurd (omega arith)

      bound_unbraced : (k : ℕ) → k < 5 → is_open_brace (symbol_at S k) ≡ false
      bound_unbraced zero lt = ap is_open_brace (at_seen 0 symbol.Vunit a (λ e. cc) refl)
      bound_unbraced (suc zero) lt = name_unbraced (symbol_at S 1) (name_seen 1 n)
      bound_unbraced (suc (suc zero)) lt = ap is_open_brace open_seen
      bound_unbraced (suc (suc (suc zero))) lt = name_unbraced (symbol_at S 3) (name_seen 3 m)
      bound_unbraced (suc (suc (suc (suc zero)))) lt = ap is_open_brace close_seen
      bound_unbraced (suc (suc (suc (suc (suc k))))) lt = absurd (omega arith)

      inside : Told S 1 63 15 3 4
      inside = told_inside all 63 3 4 refl (name_still (symbol_at S 3) (name_seen 3 m)).0

      behind_name : is_behind S 4 ≡ true
      behind_name =
          let name = name_still (symbol_at S 3) (name_seen 3 m) in still_behind all 3 name.0 ∙ name.1

      unformed : ends_form S 4 ≡ false
      unformed =
          let name = name_still (symbol_at S 1) (name_seen 1 n) in
          form_round all 15 0 0 2 4 open_seen
          (no_event all 1 2 refl (name_event (symbol_at S 1) name.0 name.1)) inside.part close_seen

      bound_header : Header text tokens 5 a b small_5 6
      bound_header = record {
        same = refl;
        quiet = bound_quiet;
        flat = bound_flat;
        spanned = spanned_join S 64 0 1 6 (omega arith) (omega arith) (still_token all 0 vunit_still)
            (spanned_join S 64 1 2 6 (omega arith) (omega arith) (still_token all 1 name_still_seen)
            (spanned_join S 64 2 4 6 (omega arith) (omega arith)
            (spanned_round all 63 15 2 4 open_seen inside.part inside.spanned behind_name close_seen)
            (spanned_join S 64 4 5 6 (omega arith) (omega arith)
            (spanned_token S 64 4 (reach_at all 4 symbol.CloseParenthesis close_seen unformed))
            (brace_token all 5 all.braced bound_unbraced))));
      }

  -- ---- both ways

  to_spelled : (unit : RawUnit) → IsUnit text tokens unit → Spell text tokens unit × NoneTooDeep S (length tokens)
  to_spelled _ (units.plain {known = known} {items = items} {j = j} a n b p c e) =
      let h = plain_header a n b in
      let r = made text tokens 2 a b small_2 p (omega arith) (header_boundary text tokens 2 a b small_2 3 h) in (
        (64, spell.plain a n b r.spelled c e),
        none_deep text tokens 2 a b small_2 known items 3 j h r c e,
      )
  to_spelled _ (units.bound {known = known} {items = items} {j = j} a n o m q b p c e) =
      let h = bound_header a n o m q b in
      let r = made text tokens 5 a b small_5 p (omega arith) (header_boundary text tokens 5 a b small_5 6 h) in (
        (64, spell.bound a n o m q b r.spelled c e),
        none_deep text tokens 5 a b small_5 known items 6 j h r c e,
      )

  from_spelled : {room : ℕ} (unit : RawUnit) → SpellUnit text tokens room unit → NoneTooDeep S (length tokens)
      → IsUnit text tokens unit
  from_spelled _ (spell.plain {known = known} {items = items} {j = j} a n b p c e) none =
      let h = plain_header a n b in
      let r =
      read text tokens 2 a b small_2 p none (omega arith)
      (header_boundary text tokens 2 a b small_2 3 h) in
      units.plain a n b r.spelled c e
  from_spelled _ (spell.bound {known = known} {items = items} {j = j} a n o m q b p c e) none =
      let h = bound_header a n o m q b in
      let r =
      read text tokens 5 a b small_5 p none (omega arith)
      (header_boundary text tokens 5 a b small_5 6 h) in
      units.bound a n o m q b r.spelled c e

pub unit_is : (text : List ℕ) (tokens : List Token) (unit : RawUnit)
    → IsUnit text tokens unit ↔ (Spell text tokens unit × NoneTooDeep (seen text tokens) (length tokens))
unit_is text tokens unit = (to_spelled text tokens unit, λ w. from_spelled text tokens unit w.0.1 w.1)
