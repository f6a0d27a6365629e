-- Whether a token stands behind an operand, whether it ends a form of `next`, and which phrase it opens.
use Rattle.std.proofs.Common.{◌≡◌, ℕ, zero, suc, ◌+◌, ◌-◌, ◌<◌, ◌≤◌, ◌⊎◌, inl, inr, Bool, true, false, Some}
use Rattle.std.proofs.Common.{None, List, refl, sym, ap, subst, ◌∙◌, arith}
use Rattle.std.proofs.lemmas.Bool.{cases_lt, cases_order, and_left, and_right, and_from, ne_eqb, lt-ltb, le-ltb}
use Rattle.std.specs.Prelude.{not, ◌&&◌, ◌||◌, nat_lt}
use Rattle.psl_grammar.specs.declared.symbols.Symbol.{Symbol}
use Rattle.psl_grammar.specs.declared.symbols.Symbol.TheVariants as symbol
use Rattle.psl_grammar.specs.Symbols.{symbol_at, At}
use Rattle.psl_parser.specs.Places.{count_in, none_in}
use Rattle.psl_parser.specs.Marks.{opens_bracket, closes_bracket, ends_operand, is_open_brace, is_open_parenthesis}
use Rattle.psl_parser.specs.Marks.{is_close_parenthesis, is_open_bracket, is_close_bracket, is_number, is_colon}
use Rattle.psl_parser.specs.Marks.{is_next}
use Rattle.psl_parser.specs.Marks.{is_event}
use Rattle.psl_parser.specs.OpenPhrases.{opened, closed, is_bare, closes_round, opens_event, closes_event, is_head}
use Rattle.psl_parser.specs.OpenPhrases.{ends_form, is_count, is_range, is_behind, behind_by, reach_by, reach_of}
use Rattle.unit_depth.proofs.Counting.{by_test, one, one_small, count_zero, count_some, none_from, none_at, none_not}
use Rattle.unit_depth.proofs.Marks.{Quiet, still_of, is_still}
use Rattle.unit_depth.proofs.Parts.{Part, opened_none, closed_none, opened_more, closed_more, opened_split}
use Rattle.unit_depth.proofs.Parts.{closed_split, bare_yes, bare_is}
use Rattle.unit_depth.proofs.Phrases.{open_there}

-- the symbols of a unit, and the place of the brace behind its name
pub record Setting : Type 0 where
  pub symbols : List Symbol
  pub start : At symbols 0 symbol.Vunit
  pub brace : ℕ
  pub braced : At symbols brace symbol.OpenBrace

parts_off : (a c b d e f : Bool) → a ≡ false → (b && d) ≡ false → (e && f) ≡ false
    → ((a && c) || ((b && d) || (e && f))) ≡ false
parts_off true c b d e f x y z = cc
parts_off false c b d e f x y z = ap (λ (t : Bool). t || (e && f)) y ∙ z

is_parenthesis : (s : Symbol) → is_open_parenthesis s ≡ true → opens_bracket s ≡ true
is_parenthesis symbol.OpenParenthesis e = refl
is_parenthesis _ e = cc

parenthesis_alone : (s : Symbol) → is_open_parenthesis s ≡ true → closes_bracket s ≡ false
parenthesis_alone symbol.OpenParenthesis e = refl
parenthesis_alone _ e = cc

module _ (x : Setting) where
  abbrev pub sy : ℕ → Symbol
  sy n = symbol_at x.symbols n

  -- ---- what ends no form of `next`

  pub head_off : (n : ℕ) → is_next (sy n) ≡ false → is_close_parenthesis (sy n) ≡ false → is_head x.symbols n ≡ false
  head_off n a b =
      ap (λ (t : Bool). t || closes_event x.symbols n) a
      ∙ and_left (is_close_parenthesis (sy n)) (nat_lt 0 (count_in
      (λ i. opens_event x.symbols i
      && (closes_round x.symbols i n && none_in (closes_round x.symbols i) (suc i) n)) 0 n)) b

  head_start : is_head x.symbols 0 ≡ false
  head_start = head_off 0 (ap is_next x.start) (ap is_close_parenthesis x.start)

  head_before : (n k : ℕ) → n ≤ k → is_head x.symbols (n - k) ≡ false
  head_before n k le =
      let e : n - k ≡ 0 = omega arith in ap (λ (m : ℕ). is_head x.symbols m) e ∙ head_start

  pub count_tail : (n : ℕ) → is_close_bracket (sy n) ≡ false
      → (is_head x.symbols (n - 3) && is_count x.symbols (n - 2)) ≡ false
  count_tail n not_so =
      elim (cases_lt n 2) [
        | inl h ↦
            and_left (is_head x.symbols (n - 3)) (is_count x.symbols (n - 2)) (head_before n 3 (omega arith))
        | inr h ↦
            let e : n - 2 + 2 ≡ n = omega arith in
            and_right (is_head x.symbols (n - 3)) (is_count x.symbols (n - 2))
            (and_right (is_open_bracket (sy (n - 2)) && is_number (sy (n - 2 + 1))) (is_close_bracket (sy (n - 2 + 2)))
            (ap (λ (m : ℕ). is_close_bracket (sy m)) e ∙ not_so))
      ]

  pub range_tail : (n : ℕ) → is_close_bracket (sy n) ≡ false
      → (is_head x.symbols (n - 5) && is_range x.symbols (n - 4)) ≡ false
  range_tail n not_so =
      elim (cases_lt n 4) [
        | inl h ↦
            and_left (is_head x.symbols (n - 5)) (is_range x.symbols (n - 4)) (head_before n 5 (omega arith))
        | inr h ↦
            let e : n - 4 + 4 ≡ n = omega arith in
            and_right (is_head x.symbols (n - 5)) (is_range x.symbols (n - 4))
            (and_right
            (is_open_bracket (sy (n - 4)) && is_number (sy (n - 4 + 1)) && is_colon (sy (n - 4 + 2))
            && is_number (sy (n - 4 + 3))) (is_close_bracket (sy (n - 4 + 4)))
            (ap (λ (m : ℕ). is_close_bracket (sy m)) e ∙ not_so))
      ]

  pub form_off : (n : ℕ) → is_head x.symbols n ≡ false → is_close_bracket (sy n) ≡ false
      → ends_form x.symbols n ≡ false
  form_off n a b =
      parts_off (is_head x.symbols n) (not (is_count x.symbols (n + 1) || is_range x.symbols (n + 1)))
      (is_head x.symbols (n - 3)) (is_count x.symbols (n - 2)) (is_head x.symbols (n - 5))
      (is_range x.symbols (n - 4)) a (count_tail n b) (range_tail n b)

  pub form_square : (n : ℕ) → At x.symbols n symbol.CloseBracket
      → (is_head x.symbols (n - 3) && is_count x.symbols (n - 2)) ≡ false
      → (is_head x.symbols (n - 5) && is_range x.symbols (n - 4)) ≡ false → ends_form x.symbols n ≡ false
  form_square n at a b =
      parts_off (is_head x.symbols n) (not (is_count x.symbols (n + 1) || is_range x.symbols (n + 1)))
      (is_head x.symbols (n - 3)) (is_count x.symbols (n - 2)) (is_head x.symbols (n - 5))
      (is_range x.symbols (n - 4)) (head_off n (ap is_next at) (ap is_close_parenthesis at)) a b

  pub form_quiet : (n : ℕ) → Quiet (sy n) → ends_form x.symbols n ≡ false
  form_quiet n q = form_off n (head_off n q.next q.parenthesis) q.bracket

  -- ---- what is no count and no range

  pub count_off_0 : (i : ℕ) → is_open_bracket (sy i) ≡ false → is_count x.symbols i ≡ false
  count_off_0 i not_so =
      and_left (is_open_bracket (sy i) && is_number (sy (i + 1))) (is_close_bracket (sy (i + 2)))
      (and_left (is_open_bracket (sy i)) (is_number (sy (i + 1))) not_so)

  pub count_off_1 : (i : ℕ) → is_number (sy (i + 1)) ≡ false → is_count x.symbols i ≡ false
  count_off_1 i not_so =
      and_left (is_open_bracket (sy i) && is_number (sy (i + 1))) (is_close_bracket (sy (i + 2)))
      (and_right (is_open_bracket (sy i)) (is_number (sy (i + 1))) not_so)

  range_off : (i : ℕ)
      → (is_open_bracket (sy i) && is_number (sy (i + 1)) && is_colon (sy (i + 2)) && is_number (sy (i + 3))) ≡ false
      → is_range x.symbols i ≡ false
  range_off i not_so =
      and_left
      (is_open_bracket (sy i) && is_number (sy (i + 1)) && is_colon (sy (i + 2)) && is_number (sy (i + 3)))
      (is_close_bracket (sy (i + 4))) not_so

  pub range_off_0 : (i : ℕ) → is_open_bracket (sy i) ≡ false → is_range x.symbols i ≡ false
  range_off_0 i not_so =
      range_off i (and_left (is_open_bracket (sy i) && is_number (sy (i + 1)) && is_colon (sy (i + 2)))
      (is_number (sy (i + 3)))
      (and_left (is_open_bracket (sy i) && is_number (sy (i + 1))) (is_colon (sy (i + 2)))
      (and_left (is_open_bracket (sy i)) (is_number (sy (i + 1))) not_so)))

  pub range_off_1 : (i : ℕ) → is_number (sy (i + 1)) ≡ false → is_range x.symbols i ≡ false
  range_off_1 i not_so =
      range_off i (and_left (is_open_bracket (sy i) && is_number (sy (i + 1)) && is_colon (sy (i + 2)))
      (is_number (sy (i + 3)))
      (and_left (is_open_bracket (sy i) && is_number (sy (i + 1))) (is_colon (sy (i + 2)))
      (and_right (is_open_bracket (sy i)) (is_number (sy (i + 1))) not_so)))

  pub range_off_2 : (i : ℕ) → is_colon (sy (i + 2)) ≡ false → is_range x.symbols i ≡ false
  range_off_2 i not_so =
      range_off i (and_left (is_open_bracket (sy i) && is_number (sy (i + 1)) && is_colon (sy (i + 2)))
      (is_number (sy (i + 3)))
      (and_right (is_open_bracket (sy i) && is_number (sy (i + 1))) (is_colon (sy (i + 2))) not_so))

  pub range_off_3 : (i : ℕ) → is_number (sy (i + 3)) ≡ false → is_range x.symbols i ≡ false
  range_off_3 i not_so =
      range_off i (and_right (is_open_bracket (sy i) && is_number (sy (i + 1)) && is_colon (sy (i + 2)))
      (is_number (sy (i + 3))) not_so)

  -- a fact of one symbol at a place that is told in two ways
  pub there : (f : Symbol → Bool) (n k : ℕ) (s : Symbol) (b : Bool) → k ≡ n → At x.symbols n s → f s ≡ b
      → f (sy k) ≡ b
  there f n k s b same at e = ap (λ (m : ℕ). f (sy m)) same ∙ ap f at ∙ e

  -- ---- what a token opens and what stands behind it

  abbrev pub braced_at : ℕ → Bool
  braced_at n = not (none_in (λ k. is_open_brace (symbol_at x.symbols k)) 0 n)

  pub reach_unformed : (n : ℕ) → ends_form x.symbols n ≡ false
      → reach_of x.symbols n ≡ reach_by (sy n) (braced_at n) (is_behind x.symbols n) false
  reach_unformed n e = ap (λ (f : Bool). reach_by (sy n) (braced_at n) (is_behind x.symbols n) f) e

  pub behind_unformed : (n : ℕ) → ends_form x.symbols n ≡ false
      → is_behind x.symbols (suc n) ≡ behind_by (sy n) (is_behind x.symbols n) false
  behind_unformed n e = ap (λ (f : Bool). behind_by (sy n) (is_behind x.symbols n) f) e

  -- the same where the symbol is known
  pub reach_at : (n : ℕ) (s : Symbol) → At x.symbols n s → ends_form x.symbols n ≡ false
      → reach_of x.symbols n ≡ reach_by s (braced_at n) (is_behind x.symbols n) false
  reach_at n s at e =
      reach_unformed n e ∙ ap (λ (t : Symbol). reach_by t (braced_at n) (is_behind x.symbols n) false) at

  pub behind_at : (n : ℕ) (s : Symbol) → At x.symbols n s → ends_form x.symbols n ≡ false
      → is_behind x.symbols (suc n) ≡ behind_by s (is_behind x.symbols n) false
  behind_at n s at e =
      behind_unformed n e ∙ ap (λ (t : Symbol). behind_by t (is_behind x.symbols n) false) at

  -- whatever form it may end
  pub reach_any : (n : ℕ) (s : Symbol) → At x.symbols n s
      → reach_of x.symbols n ≡ reach_by s (braced_at n) (is_behind x.symbols n) (ends_form x.symbols n)
  reach_any n s at =
      ap (λ (t : Symbol). reach_by t (braced_at n) (is_behind x.symbols n) (ends_form x.symbols n)) at

  pub behind_any : (n : ℕ) (s : Symbol) → At x.symbols n s
      → is_behind x.symbols (suc n) ≡ behind_by s (is_behind x.symbols n) (ends_form x.symbols n)
  behind_any n s at = ap (λ (t : Symbol). behind_by t (is_behind x.symbols n) (ends_form x.symbols n)) at

  pub still_reach : (n : ℕ) → is_still (sy n) ≡ true → reach_of x.symbols n ≡ None
  still_reach n e =
      let s = still_of (sy n) e in
      reach_unformed n (form_quiet n s.quiet) ∙ s.reach (braced_at n) (is_behind x.symbols n)

  pub still_behind : (n : ℕ) → is_still (sy n) ≡ true → is_behind x.symbols (suc n) ≡ ends_operand (sy n)
  still_behind n e =
      let s = still_of (sy n) e in
      behind_unformed n (form_quiet n s.quiet) ∙ s.after (is_behind x.symbols n)

  pub braced_behind : (n : ℕ) → x.brace < n → braced_at n ≡ true
  braced_behind n lt =
      ap not (none_not (λ k. is_open_brace (symbol_at x.symbols k)) 0 n x.brace (omega arith) lt
      (ap is_open_brace x.braced))

  pub brace_reach : (n : ℕ) → x.brace < n → At x.symbols n symbol.OpenBrace → reach_of x.symbols n ≡ Some 15
  brace_reach n lt at =
      reach_any n symbol.OpenBrace at
      ∙ ap (λ (b : Bool). reach_by symbol.OpenBrace b (is_behind x.symbols n) (ends_form x.symbols n))
      (braced_behind n lt)

  -- ---- where an operand may begin

  pub record Fresh (i : ℕ) : Type 0 where
    pub behind : is_behind x.symbols i ≡ false
    pub event : opens_event x.symbols i ≡ false
    pub inside : x.brace < i

  pub no_event : (n k : ℕ) → k ≡ suc n → is_event (sy n) ≡ false → opens_event x.symbols k ≡ false
  no_event n k same not_so =
      let e : k - 1 ≡ n = omega arith in
      and_right (is_open_parenthesis (sy k)) (is_event (sy (k - 1))) (ap (λ (m : ℕ). is_event (sy m)) e ∙ not_so)

  pub fresh : (n k : ℕ) → k ≡ suc n → is_behind x.symbols (suc n) ≡ false → is_event (sy n) ≡ false → x.brace ≤ n
      → Fresh k
  fresh n k same behind event le = record {
    behind = ap (λ (m : ℕ). is_behind x.symbols m) same ∙ behind;
    event = no_event n k same event;
    inside = omega arith;
  }

  -- ---- the parentheses of an event

  round_off : (t a b i j n : ℕ) → Part x.symbols t a b (suc i) j → i < n → n < j
      → closes_round x.symbols i n ≡ false
  round_off t a b i j n p low high =
      by_test (is_bare x.symbols i n)
      (λ is_so. and_right (is_bare x.symbols i n) (closes_bracket (sy n))
      (open_there x.symbols t a b i j n p low high (bare_is x.symbols i n is_so)))
      (λ not_so. and_left (is_bare x.symbols i n) (closes_bracket (sy n)) not_so)

  abbrev matches : (j o : ℕ) → Bool
  matches j o = opens_event x.symbols o
      && (closes_round x.symbols o j && none_in (closes_round x.symbols o) (suc o) j)

  pub event_yes : (t a b i j : ℕ) → opens_event x.symbols i ≡ true → Part x.symbols t a b (suc i) j
      → At x.symbols j symbol.CloseParenthesis → closes_event x.symbols j ≡ true
  event_yes t a b i j event p at =
      let le : suc i ≤ j = p.le in
      let even = p.even i (omega arith) (opened_none x.symbols i ∙ sym (closed_none x.symbols i)) in
      let round : closes_round x.symbols i j ≡ true =
      and_from (is_bare x.symbols i j) (closes_bracket (sy j)) (bare_yes x.symbols i j even) (ap closes_bracket at) in
      let none = none_from (closes_round x.symbols i) (suc i) j (λ n low high. round_off t a b i j n p low high) in
      let here : matches j i ≡ true =
      and_from (opens_event x.symbols i)
      (closes_round x.symbols i j && none_in (closes_round x.symbols i) (suc i) j) event
      (and_from (closes_round x.symbols i j) (none_in (closes_round x.symbols i) (suc i) j) round none) in
      and_from (is_close_parenthesis (sy j)) (nat_lt 0 (count_in (λ o. matches j o) 0 j)) (ap is_close_parenthesis at)
      (lt-ltb 0 (count_in (λ o. matches j o) 0 j) (count_some (λ o. matches j o) 0 j i (omega arith) le here))

  -- up to a token that closes the brackets around, at most as many were closed as were opened
  low_more : (o n : ℕ) → o < n → closes_round x.symbols o n ≡ false → closed x.symbols o n ≤ opened x.symbols o n
      → closed x.symbols o (suc n) ≤ opened x.symbols o (suc n)
  low_more o n lt not_so le =
      let y = opened_more x.symbols o n lt in
      let z = closed_more x.symbols o n lt in
      let few = one_small (closes_bracket (sy n)) in
      elim (cases_lt (closed x.symbols o n) (opened x.symbols o n)) [
        | inl h ↦ omega arith
        | inr h ↦
            let bare = bare_yes x.symbols o n (omega arith) in
            let off : closes_bracket (sy n) ≡ false =
            sym (ap (λ (t : Bool). t && closes_bracket (sy n)) bare) ∙ not_so in
            let none : one (closes_bracket (sy n)) ≡ one false = ap one off in
            omega arith
      ]

  low_while : (o n : ℕ) → o < n → ((k : ℕ) → o < k → k < n → closes_round x.symbols o k ≡ false)
      → closed x.symbols o n ≤ opened x.symbols o n
  low_while o zero lt each = absurd (omega arith)
  low_while o (suc n) lt each =
      elim (cases_lt o n) [
        | inl h ↦
            low_more o n h (each n h (omega arith)) (low_while o n h (λ k low high. each k low (omega arith)))
        | inr h ↦
            let same : o ≡ n = omega arith in
            let y = closed_none x.symbols o in
            subst (λ (m : ℕ). closed x.symbols o (suc m) ≤ opened x.symbols o (suc m)) same (omega arith)
      ]

  pub event_no : (t a b i j : ℕ) → At x.symbols i symbol.OpenParenthesis → opens_event x.symbols i ≡ false
      → Part x.symbols t a b (suc i) j → closes_event x.symbols j ≡ false
  event_no t a b i j opener event p =
      let none = count_zero (λ o. matches j o) 0 j (λ o low high. each o high (cases_order o i)) in
      and_right (is_close_parenthesis (sy j)) (nat_lt 0 (count_in (λ o. matches j o) 0 j))
      (le-ltb 0 (count_in (λ o. matches j o) 0 j) (omega arith))
    where
      le : suc i ≤ j
      le = p.le

      even : opened x.symbols i j ≡ closed x.symbols i j
      even = p.even i (omega arith) (opened_none x.symbols i ∙ sym (closed_none x.symbols i))

      unmatched : (o : ℕ) → closes_round x.symbols o j ≡ false → matches j o ≡ false
      unmatched o not_so =
          and_right (opens_event x.symbols o)
          (closes_round x.symbols o j && none_in (closes_round x.symbols o) (suc o) j)
          (and_left (closes_round x.symbols o j) (none_in (closes_round x.symbols o) (suc o) j) not_so)

      uneven : (o : ℕ) → (opened x.symbols o j ≡ closed x.symbols o j → ⊥) → matches j o ≡ false
      uneven o not_so =
          unmatched o (and_left (is_bare x.symbols o j) (closes_bracket (sy j))
          (ne_eqb (opened x.symbols o j) (closed x.symbols o j) not_so))

      later : (o : ℕ) → i < o → o < j → matches j o ≡ false
      later o low high =
          by_test (is_open_parenthesis (sy o))
          (λ is_so. uneven o (λ same.
          let y = opened_split x.symbols i o j low high in
          let z = closed_split x.symbols i o j low high in
          let u : one (opens_bracket (sy o)) ≡ one true = ap one (is_parenthesis (sy o) is_so) in
          let v = p.low i o (omega arith) (opened_none x.symbols i ∙ sym (closed_none x.symbols i)) low (omega arith) in
          let w = even in
          let f : one (closes_bracket (sy o)) ≡ one false = ap one (parenthesis_alone (sy o) is_so) in
          omega arith))
          (λ not_so. and_left (opens_event x.symbols o)
          (closes_round x.symbols o j && none_in (closes_round x.symbols o) (suc o) j)
          (and_left (is_open_parenthesis (sy o)) (is_event (sy (o - 1))) not_so))

      earlier : (o : ℕ) → o < i → matches j o ≡ false
      earlier o lt =
          by_test (none_in (closes_round x.symbols o) (suc o) j)
          (λ is_so. uneven o (λ same.
          let low = low_while o i lt
          (λ k from to. none_at (closes_round x.symbols o) (suc o) j k is_so from (let e = le in omega arith)) in
          let y = opened_split x.symbols o i j lt le in
          let z = closed_split x.symbols o i j lt le in
          let u : one (opens_bracket (sy i)) ≡ one true = ap one (ap opens_bracket opener) in
          let v : one (closes_bracket (sy i)) ≡ one false = ap one (ap closes_bracket opener) in
          let w = even in
          omega arith))
          (λ not_so. and_right (opens_event x.symbols o)
          (closes_round x.symbols o j && none_in (closes_round x.symbols o) (suc o) j)
          (and_right (closes_round x.symbols o j) (none_in (closes_round x.symbols o) (suc o) j) not_so))

      each : (o : ℕ) → o < j → (o ≡ i) ⊎ ((o < i) ⊎ (i < o)) → matches j o ≡ false
      each o lt (inl same) =
          and_left (opens_event x.symbols o)
          (closes_round x.symbols o j && none_in (closes_round x.symbols o) (suc o) j)
          (subst (λ (m : ℕ). opens_event x.symbols m ≡ false) (sym same) event)
      each o lt (inr (inl h)) = earlier o h
      each o lt (inr (inr h)) = later o h lt

  pub form_round : (t a b i j : ℕ) → At x.symbols i symbol.OpenParenthesis → opens_event x.symbols i ≡ false
      → Part x.symbols t a b (suc i) j → At x.symbols j symbol.CloseParenthesis → ends_form x.symbols j ≡ false
  form_round t a b i j opener event p at =
      form_off j (ap (λ (b : Bool). b || closes_event x.symbols j) (ap is_next at) ∙ event_no t a b i j opener event p)
      (ap is_close_bracket at)
