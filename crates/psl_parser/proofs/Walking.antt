-- What is carried along is right behind one more token.
use Rattle.std.proofs.Common.{◌≡◌, ℕ, suc, ◌+◌, ◌-◌, ◌<◌, ◌≤◌, Bool, true, false, cond, Option, Some, None, List, []}
use Rattle.std.proofs.Common.{◌∷◌, ◌++◌, length, refl, sym, ap, subst, ◌∙◌, arith, take}
use Rattle.std.proofs.lemmas.Bool.{ltb-true, ltb-false}
use Rattle.std.proofs.lemmas.List.Sums.{fold_push}
use Rattle.std.proofs.Math.Seq.{take-suc}
use Rattle.std.specs.Prelude.{All, not, ◌&&◌, ◌||◌, nat_lt, is_some, IfSome, count_by, slice_index_or}
use Rattle.psl_grammar.specs.declared.symbols.Symbol.{Symbol}
use Rattle.psl_grammar.specs.declared.symbols.Symbol.TheVariants.{End, OpenParenthesis, CloseParenthesis}
use Rattle.psl_grammar.specs.Symbols.{symbol_at, joins_sequences}
use Rattle.psl_parser.specs.Places.{count_in, none_in}
use Rattle.psl_parser.specs.Marks.{opens_bracket, closes_bracket, loose, is_open_brace, is_colon, is_question}
use Rattle.psl_parser.specs.Marks.{is_open_parenthesis, is_close_parenthesis, is_next, is_event}
use Rattle.psl_parser.specs.OpenPhrases.{opened, closed, is_bare, closes_round, opens_event, closes_event, is_head}
use Rattle.psl_parser.specs.OpenPhrases.{ends_form, is_count, is_range, is_behind, behind_by, reach_by, reach_of}
use Rattle.psl_parser.specs.OpenPhrases.{questions, colons, ends, stands_by, stands_in, open_phrases}
use Rattle.psl_parser.specs.Depth.{behind, behind_all, IsOneTooMany, IsTooDeep, NoneTooDeep}
use Rattle.psl_parser.specs.Depth.{IsFirstTooDeep}
use Rattle.psl_parser.specs.declared.depth.Deep.{Deep}
use Rattle.psl_parser.specs.declared.phrases.Phrase.{Phrase}
use Rattle.psl_parser.specs.declared.phrases.Sight.{Sight}
use Rattle.psl_parser.specs.declared.depth.Walk.{Walk}
use Rattle.psl_parser.specs.inner.Walk.{IsSmall, ends_phrase, passed, go_on, is_event_phrase, closes_event_in, begun}
use Rattle.psl_parser.specs.inner.Walk.{sight_by, sight, phrase, phrase_by, phrase_at, head_by, form_by, listed, collect}
use Rattle.psl_parser.specs.inner.Walk.{first_of_all, phrases_at, IsAt, IsFirstOf}
use Rattle.psl_parser.proofs.Tests.{by_test, closes_alone, none_or, event_order, never_event}
use Rattle.psl_parser.proofs.Counted.{count_more, none_more, count_none, none_none, count_small, count_same, none_same}
use Rattle.psl_parser.proofs.Collected.{gone, collect_gone, collect_length, passes, collect_count, collect_all, first_at}

-- ---- what symbols tell

-- nothing is looser than brackets
loose_within : (s : Symbol) → nat_lt 15 (loose s) ≡ false
loose_within End = refl
loose_within _ = refl

joined_within : (b : Bool) (s : Symbol) → nat_lt 15 (cond b 11 (loose s)) ≡ false
joined_within true s = refl
joined_within false s = loose_within s

parenthesis_reach : (s : Symbol) (braced behind form : Bool) → is_open_parenthesis s ≡ true
    → reach_by s braced behind form ≡ Some 15
parenthesis_reach OpenParenthesis braced behind form e = refl
parenthesis_reach _ braced behind form e = absurd (cc)

closing : (s : Symbol) → is_close_parenthesis s ≡ true → closes_bracket s ≡ true
closing CloseParenthesis e = refl
closing _ e = absurd (cc)

first_true : (a b : Bool) → (a && b) ≡ true → a ≡ true
first_true true b e = refl
first_true false b e = absurd (cc)

-- ---- a phrase behind one more token

abbrev pub shaped : (reach : ℕ) (event : Bool) (o c q k : ℕ) → Phrase
shaped reach event o c q k =
    record { reach = reach; event = event; opened = o; closed = c; questions = q; colons = k }

made : (reach : ℕ) (event : Bool) (o p c d q r k l : ℕ) → o ≡ p → c ≡ d → q ≡ r → k ≡ l
    → shaped reach event o c q k ≡ shaped reach event p d r l
made reach event o p c d q r k l e f g h =
    ap (λ (x : ℕ). shaped reach event x c q k) e ∙ ap (λ (x : ℕ). shaped reach event p x q k) f
    ∙ ap (λ (x : ℕ). shaped reach event p d x k) g ∙ ap (λ (x : ℕ). shaped reach event p d r x) h

gone_by : (s : Sight) (x : Phrase) (n : Bool) → cond (n && not (ends_phrase s x)) (Some (passed s x)) None
    ≡ gone s (cond n (Some x) None)
gone_by s x false = refl
gone_by s x true = turned (ends_phrase s x)
  where
    turned : (t : Bool) → cond (not t) (Some (passed s x)) None ≡ cond t None (Some (passed s x))
    turned true = refl
    turned false = refl

some_of : (n : Bool) (x : Phrase) → is_some (cond n (Some x) None) ≡ n
some_of true x = refl
some_of false x = refl

event_of : (n : Bool) (x : Phrase) → passes is_event_phrase (cond n (Some x) None) ≡ (n && is_event_phrase x)
event_of true x = refl
event_of false x = refl

module _ (symbols : List Symbol) where
  passed_is : (k e r : ℕ) → e < k → phrase symbols (suc k) e r ≡ passed (sight symbols k) (phrase symbols k e r)
  passed_is k e r lt =
      made r (opens_event symbols e) (opened symbols e (suc k))
      (opened symbols e k + cond (opens_bracket (symbol_at symbols k)) 1 0) (closed symbols e (suc k))
      (closed symbols e k + cond (closes_bracket (symbol_at symbols k)) 1 0) (questions symbols e (suc k))
      (questions symbols e k + cond (is_bare symbols e k && is_question (symbol_at symbols k)) 1 0)
      (colons symbols e (suc k))
      (colons symbols e k + cond (is_bare symbols e k && is_colon (symbol_at symbols k)) 1 0)
      (count_more (λ n. opens_bracket (symbol_at symbols n)) (suc e) k (omega arith))
      (count_more (λ n. closes_bracket (symbol_at symbols n)) (suc e) k (omega arith))
      (count_more (λ n. is_bare symbols e n && is_question (symbol_at symbols n)) (suc e) k (omega arith))
      (count_more (λ n. is_bare symbols e n && is_colon (symbol_at symbols n)) (suc e) k (omega arith))

  phrase_more : (k e : ℕ) → e < k → phrase_at symbols (suc k) e ≡ gone (sight symbols k) (phrase_at symbols k e)
  phrase_more k e lt = by_reach (reach_of symbols e)
    where
      by_reach : (o : Option ℕ) → phrase_by symbols o (suc k) e ≡ gone (sight symbols k) (phrase_by symbols o k e)
      by_reach None = refl
      by_reach (Some r) =
          ap (λ (n : Bool). cond n (Some (phrase symbols (suc k) e r)) None)
          (none_more (ends symbols r e) (suc e) k (omega arith))
          ∙ ap (λ (x : Phrase). cond (none_in (ends symbols r e) (suc e) k && not (ends symbols r e k)) (Some x) None)
          (passed_is k e r lt)
          ∙ gone_by (sight symbols k) (phrase symbols k e r) (none_in (ends symbols r e) (suc e) k)

  gone_all : (k : ℕ) → collect (phrase_at symbols (suc k)) k ≡ go_on (sight symbols k) (phrases_at symbols k)
  gone_all k =
      collect_gone (sight symbols k) (phrase_at symbols (suc k)) (phrase_at symbols k) k λ e lt. phrase_more k e lt

  phrases_more : (k : ℕ) → phrases_at symbols (suc k)
      ≡ go_on (sight symbols k) (phrases_at symbols k) ++ begun (opens_event symbols k) (reach_of symbols k)
  phrases_more k =
      ap (λ (l : List Phrase). l ++ listed (phrase_at symbols (suc k) k)) (gone_all k)
      ∙ ap (λ (l : List Phrase). go_on (sight symbols k) (phrases_at symbols k) ++ l) (new (reach_of symbols k))
    where
      new : (o : Option ℕ) → listed (phrase_by symbols o (suc k) k) ≡ begun (opens_event symbols k) o
      new None = refl
      new (Some r) =
          ap (λ (n : Bool). listed (cond n (Some (phrase symbols (suc k) k r)) None))
          (none_none (ends symbols r k) (suc k) (suc k) (omega arith))
          ∙ ap (λ (x : Phrase). x ∷ [])
          (made r (opens_event symbols k) (opened symbols k (suc k)) 0 (closed symbols k (suc k)) 0
          (questions symbols k (suc k)) 0 (colons symbols k (suc k)) 0
          (count_none (λ n. opens_bracket (symbol_at symbols n)) (suc k) (suc k) (omega arith))
          (count_none (λ n. closes_bracket (symbol_at symbols n)) (suc k) (suc k) (omega arith))
          (count_none (λ n. is_bare symbols k n && is_question (symbol_at symbols n)) (suc k) (suc k) (omega arith))
          (count_none (λ n. is_bare symbols k n && is_colon (symbol_at symbols n)) (suc k) (suc k) (omega arith)))

  pub open_is : (k : ℕ) → length (go_on (sight symbols k) (phrases_at symbols k)) ≡ open_phrases symbols k
  open_is k =
      ap (λ (l : List Phrase). length l) (sym (gone_all k)) ∙ collect_length (phrase_at symbols (suc k)) k
      ∙ count_same (λ e. is_some (phrase_at symbols (suc k) e)) (λ e. stands_in symbols e k) 0 k
      λ e lt. stood e (reach_of symbols e)
    where
      stood : (e : ℕ) (o : Option ℕ) → is_some (phrase_by symbols o (suc k) e) ≡ stands_by symbols o e k
      stood e None = refl
      stood e (Some r) = some_of (none_in (ends symbols r e) (suc e) (suc k)) (phrase symbols (suc k) e r)

  -- ---- brackets of `next_event` forms

  ends_brackets : (e n : ℕ) → ends symbols 15 e n ≡ closes_round symbols e n
  ends_brackets e n =
      ap (λ (t : Bool).
      is_bare symbols e n && (closes_bracket (symbol_at symbols n) || (is_behind symbols n && t)))
      (joined_within (joins_sequences symbols n) (symbol_at symbols n))
      ∙ closes_alone (is_bare symbols e n) (closes_bracket (symbol_at symbols n)) (is_behind symbols n)

  event_is : (k e : ℕ) → closes_bracket (symbol_at symbols k) ≡ true → passes is_event_phrase (phrase_at symbols k e)
      ≡ (opens_event symbols e
      && (closes_round symbols e k && none_in (closes_round symbols e) (suc e) k))
  event_is k e c = by_test (opens_event symbols e) yes no
    where
      never : opens_event symbols e ≡ false → (o : Option ℕ) → passes is_event_phrase (phrase_by symbols o k e) ≡ false
      never f None = refl
      never f (Some r) =
          event_of (none_in (ends symbols r e) (suc e) k) (phrase symbols k e r)
          ∙ ap (λ (b : Bool). none_in (ends symbols r e) (suc e) k && (b && is_bare symbols e k)) f
          ∙ never_event (is_bare symbols e k) (none_in (ends symbols r e) (suc e) k)

      no : opens_event symbols e ≡ false → passes is_event_phrase (phrase_at symbols k e)
          ≡ (opens_event symbols e
          && (closes_round symbols e k && none_in (closes_round symbols e) (suc e) k))
      no f =
          never f (reach_of symbols e)
          ∙ sym (ap (λ (b : Bool). b && (closes_round symbols e k && none_in (closes_round symbols e) (suc e) k)) f)

      reached : opens_event symbols e ≡ true → reach_of symbols e ≡ Some 15
      reached t =
          parenthesis_reach (symbol_at symbols e) (not (none_in (λ n. is_open_brace (symbol_at symbols n)) 0 e))
          (is_behind symbols e) (ends_form symbols e)
          (first_true (is_open_parenthesis (symbol_at symbols e)) (is_event (symbol_at symbols (e - 1))) t)

      yes : opens_event symbols e ≡ true → passes is_event_phrase (phrase_at symbols k e)
          ≡ (opens_event symbols e
          && (closes_round symbols e k && none_in (closes_round symbols e) (suc e) k))
      yes t =
          ap (λ (o : Option ℕ). passes is_event_phrase (phrase_by symbols o k e)) (reached t)
          ∙ event_of (none_in (ends symbols 15 e) (suc e) k) (phrase symbols k e 15)
          ∙ ap (λ (n : Bool). n && (opens_event symbols e && is_bare symbols e k))
          (none_same (ends symbols 15 e) (closes_round symbols e) (suc e) k (λ n. ends_brackets e n))
          ∙ event_order (opens_event symbols e) (is_bare symbols e k) (none_in (closes_round symbols e) (suc e) k)
          ∙ ap (λ (b : Bool).
          opens_event symbols e && ((is_bare symbols e k && b) && none_in (closes_round symbols e) (suc e) k)) (sym c)

  -- an event's bracket that a token closes
  abbrev closed_there : (k e : ℕ) → Bool
  closed_there k e = opens_event symbols e && (closes_round symbols e k && none_in (closes_round symbols e) (suc e) k)

  pub closes_is : (k : ℕ) → closes_event_in (phrases_at symbols k) (symbol_at symbols k) ≡ closes_event symbols k
  closes_is k = by_test (is_close_parenthesis (symbol_at symbols k)) yes no
    where
      yes : is_close_parenthesis (symbol_at symbols k) ≡ true → closes_event_in (phrases_at symbols k)
          (symbol_at symbols k) ≡ closes_event symbols k
      yes t =
          ap (λ (n : ℕ). is_close_parenthesis (symbol_at symbols k) && nat_lt 0 n)
          (collect_count is_event_phrase (phrase_at symbols k) k
          ∙ count_same (λ e. passes is_event_phrase (phrase_at symbols k e)) (closed_there k) 0 k
          (λ e lt. event_is k e (closing (symbol_at symbols k) t)))

      no : is_close_parenthesis (symbol_at symbols k) ≡ false → closes_event_in (phrases_at symbols k)
          (symbol_at symbols k) ≡ closes_event symbols k
      no f =
          ap (λ (b : Bool). b && nat_lt 0 (count_by is_event_phrase (phrases_at symbols k))) f
          ∙ sym (ap (λ (b : Bool). b && nat_lt 0 (count_in (closed_there k) 0 k)) f)

  abbrev form_of : (k : ℕ) → Bool → Bool → Bool → Bool
  form_of k a b c = (a && not (is_count symbols (k + 1) || is_range symbols (k + 1)))
      || ((b && is_count symbols (k - 2)) || (c && is_range symbols (k - 4)))

  form_is : (k : ℕ) (closers : List Bool) → closers ≡ first_of_all (closes_event symbols) (suc k)
      → form_by symbols closers k ≡ ends_form symbols k
  form_is k closers same =
      ap (λ (b : Bool). form_of k b (head_by symbols closers (k - 3)) (head_by symbols closers (k - 5))) (head_is k (omega arith))
      ∙ ap (λ (b : Bool). form_of k (is_head symbols k) b (head_by symbols closers (k - 5))) (head_is (k - 3) (omega arith))
      ∙ ap (λ (b : Bool). form_of k (is_head symbols k) (is_head symbols (k - 3)) b) (head_is (k - 5) (omega arith))
    where
      head_is : (i : ℕ) → i ≤ k → head_by symbols closers i ≡ is_head symbols i
      head_is i le =
          ap (λ (b : Bool). is_next (symbol_at symbols i) || b)
          (ap (λ (l : List Bool). slice_index_or l i false) same
          ∙ first_at (closes_event symbols) false (suc k) i (omega arith))

  -- ---- what is carried along

  pub all_small : (k : ℕ) → k < 1048576 → All IsSmall (phrases_at symbols k)
  all_small k few = collect_all IsSmall (phrase_at symbols k) k λ e x lt same. small e x (reach_of symbols e) same
    where
      bound : (test : ℕ → Bool) (e : ℕ) → count_in test (suc e) k ≤ 1048576
      bound test e = let le : count_in test (suc e) k ≤ k = count_small test (suc e) k in omega arith

      counted : (e r : ℕ) → IsSmall (phrase symbols k e r)
      counted e r = record {
        opened = bound (λ n. opens_bracket (symbol_at symbols n)) e;
        closed = bound (λ n. closes_bracket (symbol_at symbols n)) e;
        questions = bound (λ n. is_bare symbols e n && is_question (symbol_at symbols n)) e;
        colons = bound (λ n. is_bare symbols e n && is_colon (symbol_at symbols n)) e;
      }

      chosen : (n : Bool) (p x : Phrase) → IsSmall p → cond n (Some p) None ≡ Some x → IsSmall x
      chosen true p x small same = let e : p ≡ x = cc in subst IsSmall e small
      chosen false p x small same = absurd (cc)

      small : (e : ℕ) (x : Phrase) (o : Option ℕ) → phrase_by symbols o k e ≡ Some x → IsSmall x
      small e x None same = absurd (cc)
      small e x (Some r) same =
          chosen (none_in (ends symbols r e) (suc e) k) (phrase symbols k e r) x (counted e r) same

  pub walk_small : (k : ℕ) (walk : Walk) → k < 1048576 → IsAt symbols k walk → All IsSmall walk.phrases.items
  walk_small k walk few at = subst (λ (l : List Phrase). All IsSmall l) (sym at.phrases) (all_small k few)

  pub went_on : (k : ℕ) (walk : Walk) (kept : List Phrase) → IsAt symbols k walk
      → kept ≡ go_on (sight_by symbols walk.behind k) walk.phrases.items
      → kept ≡ go_on (sight symbols k) (phrases_at symbols k)
  went_on k walk kept at same =
      same ∙ ap (λ (b : Bool). go_on (sight_by symbols b k) walk.phrases.items) at.behind
      ∙ ap (λ (l : List Phrase). go_on (sight symbols k) l) at.phrases

  pub moved_at : (k : ℕ) (walk next : Walk) (kept : List Phrase) (closer form : Bool) (reach : Option ℕ)
      → k < length symbols → IsAt symbols k walk → kept ≡ go_on (sight symbols k) (phrases_at symbols k)
      → closer ≡ closes_event_in walk.phrases.items (symbol_at symbols k)
      → next.closers.items ≡ walk.closers.items ++ closer ∷ []
      → form ≡ form_by symbols next.closers.items k
      → reach ≡ reach_by (symbol_at symbols k) walk.braced walk.behind form
      → next.phrases.items ≡ kept ++ begun (opens_event symbols k) reach
      → next.behind ≡ behind_by (symbol_at symbols k) walk.behind form
      → next.braced ≡ (walk.braced || is_open_brace (symbol_at symbols k))
      → (next.braces, next.own) ≡ behind (walk.braces, walk.own) (symbol_at symbols k)
      → next.braces ≤ walk.braces + 1 → next.own ≤ walk.own + 1 → IsAt symbols (k + 1) next
  moved_at k walk next kept closer form reach within at kept_is closer_is closers_are form_is_by reach_is phrases_are
      behind_is braced_is item_is few few_own =
      subst (λ (n : ℕ). IsAt symbols n next) (omega arith) whole
    where
      closers : next.closers.items ≡ first_of_all (closes_event symbols) (suc k)
      closers =
          closers_are ∙ ap (λ (l : List Bool). l ++ closer ∷ []) at.closers
          ∙ ap (λ (b : Bool). first_of_all (closes_event symbols) k ++ b ∷ [])
          (closer_is ∙ ap (λ (l : List Phrase). closes_event_in l (symbol_at symbols k)) at.phrases ∙ closes_is k)

      form_ends : form ≡ ends_form symbols k
      form_ends = form_is_by ∙ form_is k next.closers.items closers

      reached : reach ≡ reach_of symbols k
      reached =
          reach_is ∙ ap (λ (b : Bool). reach_by (symbol_at symbols k) b walk.behind form) at.braced
          ∙ ap (λ (b : Bool). reach_by (symbol_at symbols k)
          (not (none_in (λ n. is_open_brace (symbol_at symbols n)) 0 k)) b form) at.behind
          ∙ ap (λ (b : Bool). reach_by (symbol_at symbols k)
          (not (none_in (λ n. is_open_brace (symbol_at symbols n)) 0 k)) (is_behind symbols k) b) form_ends

      whole : IsAt symbols (suc k) next
      whole = record {
        phrases = phrases_are ∙ ap (λ (l : List Phrase). l ++ begun (opens_event symbols k) reach) kept_is
            ∙ ap (λ (o : Option ℕ). go_on (sight symbols k) (phrases_at symbols k) ++ begun (opens_event symbols k) o)
            reached ∙ sym (phrases_more k);
        closers = closers;
        behind = behind_is ∙ ap (λ (b : Bool). behind_by (symbol_at symbols k) b form) at.behind
            ∙ ap (λ (b : Bool). behind_by (symbol_at symbols k) (is_behind symbols k) b) form_ends;
        braced = braced_is ∙ ap (λ (b : Bool). b || is_open_brace (symbol_at symbols k)) at.braced
            ∙ sym (none_or (none_in (λ n. is_open_brace (symbol_at symbols n)) 0 k) (is_open_brace (symbol_at symbols k)))
            ∙ sym (ap (λ (b : Bool). not b)
            (none_more (λ n. is_open_brace (symbol_at symbols n)) 0 k (omega arith)));
        item = item_is ∙ ap (λ (w : ℕ × ℕ). behind w (symbol_at symbols k)) at.item
            ∙ sym (fold_push behind (0, 0) (take k symbols) (symbol_at symbols k))
            ∙ ap (λ (l : List Symbol). behind_all l) (sym (take-suc symbols k End within));
        few = let le = at.few in omega arith;
        few_own = let le = at.few_own in omega arith;
      }

  -- the same for what is known of the steps
  pub moved_by : (k : ℕ) (walk next : Walk) (kept : List Phrase) (symbol : Symbol) (closer form event brace : Bool)
      (reach : Option ℕ) → k < length symbols → IsAt symbols k walk
      → kept ≡ go_on (sight symbols k) (phrases_at symbols k) → symbol ≡ symbol_at symbols k
      → closer ≡ closes_event_in walk.phrases.items symbol → next.closers.items ≡ walk.closers.items ++ closer ∷ []
      → form ≡ form_by symbols next.closers.items k → reach ≡ reach_by symbol walk.braced walk.behind form
      → event ≡ opens_event symbols k → next.phrases.items ≡ kept ++ begun event reach
      → next.behind ≡ behind_by symbol walk.behind form → brace ≡ is_open_brace symbol
      → next.braced ≡ (walk.braced || brace) → (next.braces, next.own) ≡ behind (walk.braces, walk.own) symbol
      → next.braces ≤ walk.braces + 1 → next.own ≤ walk.own + 1 → IsAt symbols (k + 1) next
  moved_by k walk next kept symbol closer form event brace reach within at kept_is symbol_is closer_is closers_are
      form_is_by reach_is event_is_by phrases_are behind_is brace_is braced_is item_is few few_own =
      moved_at k walk next kept closer form reach within at kept_is
      (closer_is ∙ ap (λ (s : Symbol). closes_event_in walk.phrases.items s) symbol_is) closers_are form_is_by
      (reach_is ∙ ap (λ (s : Symbol). reach_by s walk.braced walk.behind form) symbol_is)
      (phrases_are ∙ ap (λ (e : Bool). kept ++ begun e reach) event_is_by)
      (behind_is ∙ ap (λ (s : Symbol). behind_by s walk.behind form) symbol_is)
      (braced_is ∙ ap (λ (b : Bool). walk.braced || b) (brace_is ∙ ap (λ (s : Symbol). is_open_brace s) symbol_is))
      (item_is ∙ ap (λ (s : Symbol). behind (walk.braces, walk.own) s) symbol_is) few few_own

  pub first_of : (k : ℕ) (o : Option Deep) → is_some o ≡ true → NoneTooDeep symbols k
      → IfSome o (λ d. IsTooDeep symbols k) → IfSome o (λ d. d.token ≡ k)
      → IfSome o (λ d. d.item ≡ true → IsOneTooMany symbols k) → IsFirstOf symbols o
  first_of k None some none deep token item = absurd (cc)
  first_of k (Some d) some none deep token item =
      subst (λ (n : ℕ). IsFirstTooDeep symbols n × (d.item ≡ true → IsOneTooMany symbols n)) (sym token)
      ((deep, none), item)

  pub one_more : (k : ℕ) → NoneTooDeep symbols k → ¬ IsTooDeep symbols k → NoneTooDeep symbols (k + 1)
  one_more k none here = λ n lt. by_test (nat_lt n k) (λ yes. none n (ltb-true n k yes))
      λ no. subst (λ (m : ℕ). ¬ IsTooDeep symbols m) (last n lt (ltb-false n k no)) here
    where
      last : (n : ℕ) → n < k + 1 → k ≤ n → k ≡ n
      last n lt le = omega arith
