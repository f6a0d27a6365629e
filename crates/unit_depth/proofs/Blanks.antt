-- What stands open is the same for symbols that differ only in what names mean, where they join as loosely.
use Rattle.std.proofs.Common.{◌≡◌, ℕ, zero, suc, ◌+◌, ◌-◌, ◌<◌, ◌≤◌, inl, inr, Bool, cond, Option, Some}
use Rattle.std.proofs.Common.{None, List, refl, sym, ap, ◌∙◌, arith, nat_eq}
use Rattle.std.proofs.lemmas.Bool.{cases_lt, lt-leb}
use Rattle.std.specs.Prelude.{not, ◌&&◌, ◌||◌, nat_lt, nat_le}
use Rattle.psl_grammar.specs.declared.symbols.Symbol.{Symbol}
use Rattle.psl_grammar.specs.declared.symbols.Symbol.TheVariants as symbol
use Rattle.psl_grammar.specs.Symbols.{symbol_at, is_name}
use Rattle.psl_parser.specs.Places.{count_in, none_in}
use Rattle.psl_parser.specs.Marks.{opens_bracket, closes_bracket, is_open_brace, is_open_parenthesis}
use Rattle.psl_parser.specs.Marks.{is_close_parenthesis, is_question, is_colon, is_number, is_open_bracket}
use Rattle.psl_parser.specs.Marks.{is_close_bracket, is_next, is_event, looseness}
use Rattle.psl_parser.specs.OpenPhrases.{opened, closed, is_bare, closes_round, opens_event, closes_event, is_head}
use Rattle.psl_parser.specs.OpenPhrases.{ends_form, is_count, is_range, is_behind, behind_by, reach_by, reach_of}
use Rattle.psl_parser.specs.OpenPhrases.{questions, colons, is_beyond, ends, stands_by, stands_in}
use Rattle.psl_parser.specs.Depth.{begins_item, braces_behind, behind, is_wire}
use Rattle.psl_parser.specs.Seen.{is_semicolon, declared_as}
use Rattle.unit_depth.proofs.Counting.{count_same}
use Rattle.unit_depth.proofs.Keeping.{way}

-- a name, whatever it means
abbrev pub blank : Symbol → Symbol
blank symbol.SequenceName = symbol.Name
blank symbol.PropertyName = symbol.Name
blank s = s

pub record Blanked (s : Symbol) : Type 0 where
  pub opens : opens_bracket s ≡ opens_bracket (blank s)
  pub closes : closes_bracket s ≡ closes_bracket (blank s)
  pub next : is_next s ≡ is_next (blank s)
  pub event : is_event s ≡ is_event (blank s)
  pub open_parenthesis : is_open_parenthesis s ≡ is_open_parenthesis (blank s)
  pub close_parenthesis : is_close_parenthesis s ≡ is_close_parenthesis (blank s)
  pub open_bracket : is_open_bracket s ≡ is_open_bracket (blank s)
  pub close_bracket : is_close_bracket s ≡ is_close_bracket (blank s)
  pub number : is_number s ≡ is_number (blank s)
  pub colon : is_colon s ≡ is_colon (blank s)
  pub question : is_question s ≡ is_question (blank s)
  pub open_brace : is_open_brace s ≡ is_open_brace (blank s)
  pub semicolon : is_semicolon s ≡ is_semicolon (blank s)
  pub wire : is_wire s ≡ is_wire (blank s)
  pub declared : declared_as s ≡ declared_as (blank s)
  pub name : is_name s ≡ is_name (blank s)
  pub reach : (b h f : Bool) → reach_by s b h f ≡ reach_by (blank s) b h f
  pub after : (h f : Bool) → behind_by s h f ≡ behind_by (blank s) h f
  pub braces : (n : ℕ) → braces_behind n s ≡ braces_behind n (blank s)
  pub item : (n : ℕ) → begins_item n s ≡ begins_item n (blank s)

pub blanked : (s : Symbol) → Blanked s
blanked symbol.SequenceName = record {
  opens = refl;
  closes = refl;
  next = refl;
  event = refl;
  open_parenthesis = refl;
  close_parenthesis = refl;
  open_bracket = refl;
  close_bracket = refl;
  number = refl;
  colon = refl;
  question = refl;
  open_brace = refl;
  semicolon = refl;
  wire = refl;
  declared = refl;
  name = refl;
  reach = λ b h f. refl;
  after = λ h f. refl;
  braces = λ n. refl;
  item = λ n. refl;
}
blanked _ = record {
  opens = refl;
  closes = refl;
  next = refl;
  event = refl;
  open_parenthesis = refl;
  close_parenthesis = refl;
  open_bracket = refl;
  close_bracket = refl;
  number = refl;
  colon = refl;
  question = refl;
  open_brace = refl;
  semicolon = refl;
  wire = refl;
  declared = refl;
  name = refl;
  reach = λ b h f. refl;
  after = λ h f. refl;
  braces = λ n. refl;
  item = λ n. refl;
}

-- what is no name is told by its blank
pub blank_back : (s t : Symbol) → blank s ≡ t → (t ≡ symbol.Name → ⊥) → s ≡ t
blank_back symbol.SequenceName t e not_so = absurd (not_so (sym e))
blank_back symbol.PropertyName t e not_so = absurd (not_so (sym e))
blank_back _ t e not_so = e

both_same : (x y u v : Bool) → x ≡ y → u ≡ v → (x && u) ≡ (y && v)
both_same x y u v e f = ap (λ (t : Bool). t && u) e ∙ ap (λ (t : Bool). y && t) f

either_same : (x y u v : Bool) → x ≡ y → u ≡ v → (x || u) ≡ (y || v)
either_same x y u v e f = ap (λ (t : Bool). t || u) e ∙ ap (λ (t : Bool). y || t) f

pub none_same : (s t : ℕ → Bool) (a c : ℕ) → ((k : ℕ) → a ≤ k → k < c → s k ≡ t k) → none_in s a c ≡ none_in t a c
none_same s t a zero same = refl
none_same s t a (suc k) same =
    ap (λ (n : Bool). n && not (nat_le a k && s k)) (none_same s t a k (λ n low high. same n low (omega arith)))
    ∙ ap (λ (b : Bool). none_in t a k && not b) (here s t a k (λ le. same k le (omega arith)))
  where
    here : (s t : ℕ → Bool) (a k : ℕ) → (a ≤ k → s k ≡ t k) → (nat_le a k && s k) ≡ (nat_le a k && t k)
    here s t a k same = elim (cases_lt k a) [
      | inl h ↦
          ap (λ (b : Bool). b && s k) (lt-leb a k h) ∙ sym (ap (λ (b : Bool). b && t k) (lt-leb a k h))
      | inr h ↦ ap (λ (b : Bool). nat_le a k && b) (same h)
    ]

module _ (a b : List Symbol) (same : (n : ℕ) → blank (symbol_at a n) ≡ blank (symbol_at b n)) where
  pub by : {A : Type 0} (f : Symbol → A) → ((s : Symbol) → f s ≡ f (blank s)) → (n : ℕ)
      → f (symbol_at a n) ≡ f (symbol_at b n)
  by f inv n = inv (symbol_at a n) ∙ ap f (same n) ∙ sym (inv (symbol_at b n))

  opened_same : (o n : ℕ) → opened a o n ≡ opened b o n
  opened_same o n =
      count_same (λ k. opens_bracket (symbol_at a k)) (λ k. opens_bracket (symbol_at b k)) (suc o) n
      (λ k low high. by opens_bracket (λ s. (blanked s).opens) k)

  closed_same : (o n : ℕ) → closed a o n ≡ closed b o n
  closed_same o n =
      count_same (λ k. closes_bracket (symbol_at a k)) (λ k. closes_bracket (symbol_at b k)) (suc o) n
      (λ k low high. by closes_bracket (λ s. (blanked s).closes) k)

  bare_same : (o n : ℕ) → is_bare a o n ≡ is_bare b o n
  bare_same o n =
      ap (λ (m : ℕ). nat_eq m (closed a o n)) (opened_same o n)
      ∙ ap (λ (m : ℕ). nat_eq (opened b o n) m) (closed_same o n)

  round_same : (o n : ℕ) → closes_round a o n ≡ closes_round b o n
  round_same o n =
      both_same (is_bare a o n) (is_bare b o n) (closes_bracket (symbol_at a n)) (closes_bracket (symbol_at b n))
      (bare_same o n) (by closes_bracket (λ s. (blanked s).closes) n)

  event_open_same : (i : ℕ) → opens_event a i ≡ opens_event b i
  event_open_same i =
      both_same (is_open_parenthesis (symbol_at a i)) (is_open_parenthesis (symbol_at b i))
      (is_event (symbol_at a (i - 1))) (is_event (symbol_at b (i - 1)))
      (by is_open_parenthesis (λ s. (blanked s).open_parenthesis) i) (by is_event (λ s. (blanked s).event) (i - 1))

  abbrev matches : List Symbol → (n i : ℕ) → Bool
  matches l n i = opens_event l i && (closes_round l i n && none_in (closes_round l i) (suc i) n)

  matches_same : (n i : ℕ) → matches a n i ≡ matches b n i
  matches_same n i =
      both_same (opens_event a i) (opens_event b i) (closes_round a i n && none_in (closes_round a i) (suc i) n)
      (closes_round b i n && none_in (closes_round b i) (suc i) n) (event_open_same i)
      (both_same (closes_round a i n) (closes_round b i n) (none_in (closes_round a i) (suc i) n)
      (none_in (closes_round b i) (suc i) n) (round_same i n)
      (none_same (closes_round a i) (closes_round b i) (suc i) n (λ k low high. round_same i k)))

  event_close_same : (n : ℕ) → closes_event a n ≡ closes_event b n
  event_close_same n =
      both_same (is_close_parenthesis (symbol_at a n)) (is_close_parenthesis (symbol_at b n))
      (nat_lt 0 (count_in (λ i. matches a n i) 0 n)) (nat_lt 0 (count_in (λ i. matches b n i) 0 n))
      (by is_close_parenthesis (λ s. (blanked s).close_parenthesis) n)
      (ap (λ (m : ℕ). nat_lt 0 m)
      (count_same (λ i. matches a n i) (λ i. matches b n i) 0 n (λ i low high. matches_same n i)))

  head_same : (n : ℕ) → is_head a n ≡ is_head b n
  head_same n =
      either_same (is_next (symbol_at a n)) (is_next (symbol_at b n)) (closes_event a n) (closes_event b n)
      (by is_next (λ s. (blanked s).next) n) (event_close_same n)

  open_same : (n : ℕ) → is_open_bracket (symbol_at a n) ≡ is_open_bracket (symbol_at b n)
  open_same n = by is_open_bracket (λ s. (blanked s).open_bracket) n

  number_same : (n : ℕ) → is_number (symbol_at a n) ≡ is_number (symbol_at b n)
  number_same n = by is_number (λ s. (blanked s).number) n

  close_same : (n : ℕ) → is_close_bracket (symbol_at a n) ≡ is_close_bracket (symbol_at b n)
  close_same n = by is_close_bracket (λ s. (blanked s).close_bracket) n

  colon_same : (n : ℕ) → is_colon (symbol_at a n) ≡ is_colon (symbol_at b n)
  colon_same n = by is_colon (λ s. (blanked s).colon) n

  abbrev pair_of : List Symbol → ℕ → Bool
  pair_of l i = is_open_bracket (symbol_at l i) && is_number (symbol_at l (i + 1))

  pair_same : (i : ℕ) → pair_of a i ≡ pair_of b i
  pair_same i =
      both_same (is_open_bracket (symbol_at a i)) (is_open_bracket (symbol_at b i)) (is_number (symbol_at a (i + 1)))
      (is_number (symbol_at b (i + 1))) (open_same i) (number_same (i + 1))

  count_is_same : (i : ℕ) → is_count a i ≡ is_count b i
  count_is_same i =
      both_same (pair_of a i) (pair_of b i) (is_close_bracket (symbol_at a (i + 2)))
      (is_close_bracket (symbol_at b (i + 2))) (pair_same i) (close_same (i + 2))

  range_is_same : (i : ℕ) → is_range a i ≡ is_range b i
  range_is_same i =
      both_same (pair_of a i && is_colon (symbol_at a (i + 2)) && is_number (symbol_at a (i + 3)))
      (pair_of b i && is_colon (symbol_at b (i + 2)) && is_number (symbol_at b (i + 3)))
      (is_close_bracket (symbol_at a (i + 4))) (is_close_bracket (symbol_at b (i + 4)))
      (both_same (pair_of a i && is_colon (symbol_at a (i + 2))) (pair_of b i && is_colon (symbol_at b (i + 2)))
      (is_number (symbol_at a (i + 3))) (is_number (symbol_at b (i + 3)))
      (both_same (pair_of a i) (pair_of b i) (is_colon (symbol_at a (i + 2))) (is_colon (symbol_at b (i + 2)))
      (pair_same i) (colon_same (i + 2))) (number_same (i + 3))) (close_same (i + 4))

  form_same : (n : ℕ) → ends_form a n ≡ ends_form b n
  form_same n =
      either_same (is_head a n && not (is_count a (n + 1) || is_range a (n + 1)))
      (is_head b n && not (is_count b (n + 1) || is_range b (n + 1)))
      ((is_head a (n - 3) && is_count a (n - 2)) || (is_head a (n - 5) && is_range a (n - 4)))
      ((is_head b (n - 3) && is_count b (n - 2)) || (is_head b (n - 5) && is_range b (n - 4)))
      (both_same (is_head a n) (is_head b n) (not (is_count a (n + 1) || is_range a (n + 1)))
      (not (is_count b (n + 1) || is_range b (n + 1))) (head_same n)
      (ap (λ (t : Bool). not t)
      (either_same (is_count a (n + 1)) (is_count b (n + 1)) (is_range a (n + 1)) (is_range b (n + 1))
      (count_is_same (n + 1)) (range_is_same (n + 1)))))
      (either_same (is_head a (n - 3) && is_count a (n - 2)) (is_head b (n - 3) && is_count b (n - 2))
      (is_head a (n - 5) && is_range a (n - 4)) (is_head b (n - 5) && is_range b (n - 4))
      (both_same (is_head a (n - 3)) (is_head b (n - 3)) (is_count a (n - 2)) (is_count b (n - 2)) (head_same (n - 3))
      (count_is_same (n - 2)))
      (both_same (is_head a (n - 5)) (is_head b (n - 5)) (is_range a (n - 4)) (is_range b (n - 4)) (head_same (n - 5))
      (range_is_same (n - 4))))

  behind_same : (n : ℕ) → is_behind a n ≡ is_behind b n
  behind_same zero = refl
  behind_same (suc n) =
      by (λ (s : Symbol). behind_by s (is_behind a n) (ends_form a n))
      (λ s. (blanked s).after (is_behind a n) (ends_form a n)) n
      ∙ ap (λ (h : Bool). behind_by (symbol_at b n) h (ends_form a n)) (behind_same n)
      ∙ ap (λ (f : Bool). behind_by (symbol_at b n) (is_behind b n) f) (form_same n)

  abbrev braced_in : List Symbol → ℕ → Bool
  braced_in l n = not (none_in (λ k. is_open_brace (symbol_at l k)) 0 n)

  braced_same : (n : ℕ) → braced_in a n ≡ braced_in b n
  braced_same n =
      ap (λ (t : Bool). not t)
      (none_same (λ k. is_open_brace (symbol_at a k)) (λ k. is_open_brace (symbol_at b k)) 0 n
      (λ k low high. by is_open_brace (λ s. (blanked s).open_brace) k))

  reach_same : (n : ℕ) → reach_of a n ≡ reach_of b n
  reach_same n =
      by (λ (s : Symbol). reach_by s (braced_in a n) (is_behind a n) (ends_form a n))
      (λ s. (blanked s).reach (braced_in a n) (is_behind a n) (ends_form a n)) n
      ∙ ap (λ (t : Bool). reach_by (symbol_at b n) t (is_behind a n) (ends_form a n)) (braced_same n)
      ∙ ap (λ (h : Bool). reach_by (symbol_at b n) (braced_in b n) h (ends_form a n)) (behind_same n)
      ∙ ap (λ (f : Bool). reach_by (symbol_at b n) (braced_in b n) (is_behind b n) f) (form_same n)

  questions_same : (o n : ℕ) → questions a o n ≡ questions b o n
  questions_same o n =
      count_same (λ k. is_bare a o k && is_question (symbol_at a k)) (λ k. is_bare b o k && is_question (symbol_at b k))
      (suc o) n (λ k low high.
      both_same (is_bare a o k) (is_bare b o k) (is_question (symbol_at a k)) (is_question (symbol_at b k))
      (bare_same o k) (by is_question (λ s. (blanked s).question) k))

  colons_same : (o n : ℕ) → colons a o n ≡ colons b o n
  colons_same o n =
      count_same (λ k. is_bare a o k && is_colon (symbol_at a k)) (λ k. is_bare b o k && is_colon (symbol_at b k))
      (suc o) n (λ k low high.
      both_same (is_bare a o k) (is_bare b o k) (is_colon (symbol_at a k)) (is_colon (symbol_at b k)) (bare_same o k)
      (colon_same k))

  beyond_same : (r o n : ℕ) → looseness a n ≡ looseness b n → is_beyond a r o n ≡ is_beyond b r o n
  beyond_same r o n loose =
      ap (λ (t : Bool).
      cond (nat_eq r 10 && t) (nat_lt (questions a o n) (colons a o n)) (nat_lt r (looseness a n))) (colon_same n)
      ∙ ap (λ (q : ℕ). cond (nat_eq r 10 && is_colon (symbol_at b n)) (nat_lt q (colons a o n))
      (nat_lt r (looseness a n))) (questions_same o n)
      ∙ ap (λ (k : ℕ). cond (nat_eq r 10 && is_colon (symbol_at b n)) (nat_lt (questions b o n) k)
      (nat_lt r (looseness a n))) (colons_same o n)
      ∙ ap (λ (m : ℕ). cond (nat_eq r 10 && is_colon (symbol_at b n)) (nat_lt (questions b o n) (colons b o n))
      (nat_lt r m)) loose

  ends_same : (r o n : ℕ) → looseness a n ≡ looseness b n → ends a r o n ≡ ends b r o n
  ends_same r o n loose =
      both_same (is_bare a o n) (is_bare b o n)
      (closes_bracket (symbol_at a n) || (is_behind a n && is_beyond a r o n))
      (closes_bracket (symbol_at b n) || (is_behind b n && is_beyond b r o n)) (bare_same o n)
      (either_same (closes_bracket (symbol_at a n)) (closes_bracket (symbol_at b n))
      (is_behind a n && is_beyond a r o n)
      (is_behind b n && is_beyond b r o n) (by closes_bracket (λ s. (blanked s).closes) n)
      (both_same (is_behind a n) (is_behind b n) (is_beyond a r o n) (is_beyond b r o n) (behind_same n)
      (beyond_same r o n loose)))

  stands_by_same : (r : Option ℕ) (o p : ℕ) → ((k : ℕ) → o < k → k ≤ p → looseness a k ≡ looseness b k)
      → stands_by a r o p ≡ stands_by b r o p
  stands_by_same None o p loose = refl
  stands_by_same (Some r) o p loose =
      none_same (ends a r o) (ends b r o) (suc o) (suc p)
      (λ k low high. ends_same r o k (loose k low (omega arith)))

  pub stands_same : (o p : ℕ) → ((k : ℕ) → o < k → k ≤ p → looseness a k ≡ looseness b k)
      → stands_in a o p ≡ stands_in b o p
  stands_same o p loose =
      stands_by_same (reach_of a o) o p loose ∙ ap (λ (r : Option ℕ). stands_by b r o p) (reach_same o)

  -- ---- braces and items

  behind_at_same : (w : ℕ × ℕ) (n : ℕ) → behind w (symbol_at a n) ≡ behind w (symbol_at b n)
  behind_at_same w n =
      ap (λ (m : ℕ). let v : ℕ × ℕ = (m, cond (begins_item w.0 (symbol_at a n)) 0 (w.1 + 1)) in v)
      (by (λ (s : Symbol). braces_behind w.0 s) (λ s. (blanked s).braces w.0) n)
      ∙ ap (λ (t : Bool). let v : ℕ × ℕ = (braces_behind w.0 (symbol_at b n), cond t 0 (w.1 + 1)) in v)
      (by (λ (s : Symbol). begins_item w.0 s) (λ s. (blanked s).item w.0) n)

  pub way_same : (n : ℕ) → way a n ≡ way b n
  way_same zero = refl
  way_same (suc n) =
      ap (λ (w : ℕ × ℕ). behind w (symbol_at a n)) (way_same n) ∙ behind_at_same (way b n) n

  pub semicolon_same : (n : ℕ) → is_semicolon (symbol_at a n) ≡ is_semicolon (symbol_at b n)
  semicolon_same n = by is_semicolon (λ s. (blanked s).semicolon) n
