-- Phrases that are collected over the tokens that open them.
use Rattle.std.proofs.Common.{◌≡◌, ℕ, zero, suc, ◌+◌, ◌<◌, ◌≤◌, Bool, true, false, cond, Option, Some, None, List, []}
use Rattle.std.proofs.Common.{◌∷◌, ◌++◌, length, fold, refl, sym, ap, subst, ◌∙◌, arith}
use Rattle.std.proofs.lemmas.Bool.{ltb-true, ltb-false}
use Rattle.std.proofs.lemmas.List.{append-nil, length-append, length_push, get_or_append_left, get_or_at}
use Rattle.std.proofs.lemmas.List.Sums.{fold-append}
use Rattle.std.proofs.lemmas.List.Elements.{All-append, All-push}
use Rattle.std.specs.Prelude.{All, count_by, is_some, slice_index_or, nat_lt}
use Rattle.psl_parser.specs.Places.{count_in}
use Rattle.psl_parser.specs.declared.phrases.Phrase.{Phrase}
use Rattle.psl_parser.specs.declared.phrases.Sight.{Sight}
use Rattle.psl_parser.specs.inner.Walk.{ends_phrase, passed, keep, go_on, listed, collect, first_of_all}
use Rattle.psl_parser.proofs.Counted.{count_more}
use Rattle.psl_parser.proofs.Tests.{by_test}

-- a phrase behind a token, where there was one before
abbrev pub gone : Sight → Option Phrase → Option Phrase
gone s None = None
gone s (Some p) = cond (ends_phrase s p) None (Some (passed s p))

kept_by : (kept : List Phrase) (p : Phrase) (b : Bool) → cond b kept (kept ++ p ∷ [])
    ≡ kept ++ listed (cond b None (Some p))
kept_by kept p true = sym (append-nil kept)
kept_by kept p false = refl

keep_listed : (s : Sight) (kept : List Phrase) (o : Option Phrase) → fold (keep s) kept (listed o)
    ≡ kept ++ listed (gone s o)
keep_listed s kept None = sym (append-nil kept)
keep_listed s kept (Some p) = kept_by kept (passed s p) (ends_phrase s p)

-- what goes on of all is all that goes on
pub collect_gone : (s : Sight) (f g : ℕ → Option Phrase) (n : ℕ) → ((e : ℕ) → e < n → f e ≡ gone s (g e))
    → collect f n ≡ go_on s (collect g n)
collect_gone s f g zero each = refl
collect_gone s f g (suc n) each =
    ap (λ (l : List Phrase). l ++ listed (f n)) (collect_gone s f g n (λ e lt. each e (omega arith)))
    ∙ ap (λ (o : Option Phrase). go_on s (collect g n) ++ listed o) (each n (omega arith))
    ∙ sym (keep_listed s (go_on s (collect g n)) (g n)) ∙ sym (fold-append (keep s) [] (collect g n) (listed (g n)))

module _ {A : Type 0} where
  listed_length : (o : Option A) → length (listed o) ≡ cond (is_some o) 1 0
  listed_length None = refl
  listed_length (Some x) = refl

  pub collect_length : (f : ℕ → Option A) (n : ℕ) → length (collect f n) ≡ count_in (λ e. is_some (f e)) 0 n
  collect_length f zero = refl
  collect_length f (suc n) =
      length-append (collect f n) (listed (f n)) ∙ ap (λ (m : ℕ). m + length (listed (f n))) (collect_length f n)
      ∙ ap (λ (m : ℕ). count_in (λ e. is_some (f e)) 0 n + m) (listed_length (f n))
      ∙ sym (count_more (λ e. is_some (f e)) 0 n (omega arith))

  abbrev counting : (A → Bool) → ℕ → A → ℕ
  counting test a x = a + cond (test x) 1 0

  -- whether there is one that passes
  abbrev pub passes : (A → Bool) → Option A → Bool
  passes test None = false
  passes test (Some x) = test x

  pub collect_count : (test : A → Bool) (f : ℕ → Option A) (n : ℕ) → count_by test (collect f n)
      ≡ count_in (λ e. passes test (f e)) 0 n
  collect_count test f zero = refl
  collect_count test f (suc n) =
      fold-append (counting test) 0 (collect f n) (listed (f n))
      ∙ ap (λ (m : ℕ). fold (counting test) m (listed (f n)))
      (collect_count test f n) ∙ here (count_in (λ e. passes test (f e)) 0 n) (f n)
      ∙ sym (count_more (λ e. passes test (f e)) 0 n (omega arith))
    where
      here : (m : ℕ) (o : Option A) → fold (counting test) m (listed o) ≡ m + cond (passes test o) 1 0
      here m None = omega arith
      here m (Some x) = refl

  pub collect_all : (P : A → Type 0) (f : ℕ → Option A) (n : ℕ)
      → ((e : ℕ) (x : A) → e < n → f e ≡ Some x → P x) → All P (collect f n)
  collect_all P f zero each = λ k d lt. absurd (omega arith)
  collect_all P f (suc n) each =
      All-append P (collect f n) (listed (f n)) (collect_all P f n (λ e x lt. each e x (omega arith)))
      (here (f n) (λ x same. each n x (omega arith) same))
    where
      none : All P []
      none = λ k d lt. absurd (omega arith)

      here : (o : Option A) → ((x : A) → o ≡ Some x → P x) → All P (listed o)
      here None each = none
      here (Some x) each = All-push P [] x none (each x refl)

  first_length : (f : ℕ → A) (n : ℕ) → length (first_of_all f n) ≡ n
  first_length f zero = refl
  first_length f (suc n) =
      let more : n + 1 ≡ suc n = omega arith in
      length_push (first_of_all f n) (f n) ∙ ap (λ (m : ℕ). m + 1) (first_length f n) ∙ more

  pub first_at : (f : ℕ → A) (d : A) (n k : ℕ) → k < n → slice_index_or (first_of_all f n) k d ≡ f k
  first_at f d zero k lt = absurd (omega arith)
  first_at f d (suc n) k lt =
      by_test (nat_lt k n)
      (λ yes. get_or_append_left (first_of_all f n) (f n ∷ []) d k (long (ltb-true k n yes))
      ∙ first_at f d n k (ltb-true k n yes))
      (λ no. get_or_at (first_of_all f n) (f n) [] d k (first_length f n ∙ last (ltb-false k n no))
      ∙ ap f (last (ltb-false k n no)))
    where
      long : k < n → k < length (first_of_all f n)
      long less = subst (λ (m : ℕ). k < m) (sym (first_length f n)) less

      last : n ≤ k → n ≡ k
      last le = omega arith
