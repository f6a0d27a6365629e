-- Letters, lists and words over the signals at the places.
use Rattle.std.proofs.Common.{◌≡◌, ℕ, zero, suc, ◌-◌, List, [], ◌∷◌, ◌++◌, Option, Some, None, map, take}
use Rattle.std.proofs.Common.{length, replicate, refl, sym, ap, ◌∙◌, subst}
use Rattle.std.specs.Prelude.{slice_get, option_map, IsSome}
use Rattle.std.proofs.lemmas.List.{drop-map, take-map, length-map, map-append}
use Rattle.std.proofs.lemmas.Option.{slice_get-map}
use Rattle.psl_model.specs.Expr.{Expr}
use Rattle.psl_model.specs.Value.{own_value}
use Rattle.psl_meaning.specs.Word.{Letter, valuation, top, bottom, Ending, ended, tops, bottoms, Word, letter_at}
use Rattle.psl_meaning.specs.Word.{Reaches}
use Rattle.psl_meaning.specs.Word.{first, from, filling, after_end, option_or, bar, bar_letter, bar_ending}
use Rattle.psl_meaning.specs.Sequence.{Holds}
use Rattle.port_formulas.specs.Chosen.{chosen, chosen_letter, chosen_word}

module _ (us ws places : List ℕ) where
  -- the second expression is worth over the chosen values what the first is worth
  abbrev pub ExprSame : Expr → Expr → Type 0
  ExprSame e d = (values : List ℕ) → own_value ws (chosen places values) d ≡ own_value us values e

  pub holds_to : (e d : Expr) → ExprSame e d → (a : Letter) → Holds us e a → Holds ws d (chosen_letter places a)
  holds_to e d same (valuation values) h = λ none. h (sym (same values) ∙ none)
  holds_to e d same top h = tt
  holds_to e d same bottom h = h

  pub holds_back : (e d : Expr) → ExprSame e d → (a : Letter) → Holds ws d (chosen_letter places a) → Holds us e a
  holds_back e d same (valuation values) h = λ none. h (same values ∙ none)
  holds_back e d same top h = tt
  holds_back e d same bottom h = h

module _ (places : List ℕ) where
  abbrev pub onto : Letter → Letter
  onto a = chosen_letter places a

  abbrev pub over_list : List Letter → List Letter
  over_list w = map (chosen_letter places) w

  pub none_back : (w : List Letter) → over_list w ≡ [] → w ≡ []
  none_back [] e = refl
  none_back (a ∷ w) e = absurd (cc)

  -- where the list over the places is in two parts, so is the list
  pub parts : (w u v : List Letter) → over_list w ≡ u ++ v →
      (x y : List Letter) × (w ≡ x ++ y) × (over_list x ≡ u) × (over_list y ≡ v)
  parts w [] v e = ([], w, refl, refl, e)
  parts [] (a ∷ u) v e = absurd (cc)
  parts (b ∷ w) (a ∷ u) v e =
      let head : onto b ≡ a = cc in
      let tail : over_list w ≡ u ++ v = cc in
      let rest = parts w u v tail in
      (b ∷ rest.0, rest.1, ap (λ (l : List Letter). b ∷ l) rest.2, (λ i. head i ∷ rest.3 i), rest.4)

  pub over_append : (u v : List Letter) → over_list (u ++ v) ≡ over_list u ++ over_list v
  over_append u v = map-append (chosen_letter places) u v

  -- ---- words

  after_over : (e : Ending) → after_end e ≡ option_map (chosen_letter places) (after_end e)
  after_over ended = refl
  after_over tops = refl
  after_over bottoms = refl

  or_over : (o : Option Letter) (e : Ending) →
      option_or (option_map (chosen_letter places) o) (after_end e)
      ≡ option_map (chosen_letter places) (option_or o (after_end e))
  or_over (Some a) e = refl
  or_over None e = after_over e

  pub letter_at-over : (w : Word) (k : ℕ) →
      letter_at (chosen_word places w) k ≡ option_map (chosen_letter places) (letter_at w k)
  letter_at-over w k =
      ap (λ (o : Option Letter). option_or o (after_end w.ending)) (slice_get-map (chosen_letter places) w.letters k)
      ∙ or_over (slice_get w.letters k) w.ending

  some_to : (o : Option Letter) → IsSome o → IsSome (option_map (chosen_letter places) o)
  some_to (Some a) h = refl
  some_to None h = h

  some_back : (o : Option Letter) → IsSome (option_map (chosen_letter places) o) → IsSome o
  some_back (Some a) h = refl
  some_back None h = h

  pub reaches_to : (w : Word) (k : ℕ) → Reaches w k → Reaches (chosen_word places w) k
  reaches_to w k h =
      subst (λ (o : Option Letter). IsSome o) (sym (letter_at-over w k)) (some_to (letter_at w k) h)

  pub reaches_back : (w : Word) (k : ℕ) → Reaches (chosen_word places w) k → Reaches w k
  reaches_back w k h =
      some_back (letter_at w k) (subst (λ (o : Option Letter). IsSome o) (letter_at-over w k) h)

  bar_letter-over : (a : Letter) → bar_letter (chosen_letter places a) ≡ chosen_letter places (bar_letter a)
  bar_letter-over (valuation values) = refl
  bar_letter-over top = refl
  bar_letter-over bottom = refl

  bar_letters-over : (xs : List Letter) → map bar_letter (over_list xs) ≡ over_list (map bar_letter xs)
  bar_letters-over [] = refl
  bar_letters-over (x ∷ xs) = λ i. bar_letter-over x i ∷ bar_letters-over xs i

  pub bar-over : (w : Word) → bar (chosen_word places w) ≡ chosen_word places (bar w)
  bar-over w = λ i. record { letters = bar_letters-over w.letters i; ending = bar_ending w.ending }

  pub from-over : (k : ℕ) (w : Word) → from k (chosen_word places w) ≡ chosen_word places (from k w)
  from-over k w = λ i. record { letters = drop-map (chosen_letter places) k w.letters i; ending = w.ending }

  repeated-over : (a : Letter) (n : ℕ) → over_list (replicate n a) ≡ replicate n (chosen_letter places a)
  repeated-over a zero = refl
  repeated-over a (suc n) = ap (λ (l : List Letter). chosen_letter places a ∷ l) (repeated-over a n)

  filling-over : (e : Ending) (n : ℕ) → over_list (filling e n) ≡ filling e n
  filling-over ended n = refl
  filling-over tops n = repeated-over top n
  filling-over bottoms n = repeated-over bottom n

  pub first-over : (n : ℕ) (w : Word) → first n (chosen_word places w) ≡ over_list (first n w)
  first-over n w =
      (λ i. take-map (chosen_letter places) n w.letters i
      ++ filling w.ending (n - length-map w.letters (chosen_letter places) i))
      ∙ ap (λ (l : List Letter). over_list (take n w.letters) ++ l)
      (sym (filling-over w.ending (n - length w.letters)))
      ∙ sym (over_append (take n w.letters) (filling w.ending (n - length w.letters)))
