-- Sequences that are counted one after the other.
use Rattle.std.specs.Prelude.{ℕ, zero, suc, ◌≡◌, ◌<◌, ◌≤◌, ◌+◌, List, [], ◌∷◌, ◌++◌, All, length}
use Rattle.std.proofs.Common.{refl, sym, ap, ◌∙◌, subst, arith, length-append}
use Rattle.std.specs.declared.result.Result.{Result}
use Rattle.std.proofs.lemmas.List.{append_assoc}
use Rattle.std.proofs.lemmas.Result.{MatchResult-weaker}
use Rattle.std.proofs.lemmas.List.Elements.{All-nil, All-append}
use Rattle.psl_model.specs.Sere.{Sere}
use Rattle.psl_rewrite.specs.Base.{Base, and, suffix}
use Rattle.psl_rewrite.specs.Conditions.{base_sequences}
use Rattle.sequence_cores.specs.Places.{places_of, place_limit, told}
use Rattle.formula_limits.specs.Places.{IsSmall, HasTooManyPlaces, told_number}
use Rattle.formula_limits.specs.inner.Counted.{HasLargeBehind, AreCounted, Tells}
use Rattle.formula_limits.specs.declared.places.LargeSequence.{LargeSequence}

pub none_counted : (before : ℕ) → AreCounted [] before before
none_counted before = record {
  small = All-nil IsSmall;
  counted = λ n is. is ∙ ap told_number (omega arith);
}

pub one_large : (r : Sere) (n number places : ℕ) → place_limit < places_of r → number ≡ told_number (n + 1) →
    places ≡ told (places_of r) → HasLargeBehind n (r ∷ []) number places
one_large r n number places above is told = record {
  before = [];
  large = r;
  later = [];
  split = refl;
  small = All-nil IsSmall;
  above = above;
  is_number = is;
  is_places = told;
}

pub both_counted : (rs ss : List Sere) (a b c : ℕ) → AreCounted rs a b → AreCounted ss b c → AreCounted (rs ++ ss) a c
both_counted rs ss a b c first second = record {
  small = All-append IsSmall rs ss first.small second.small;
  counted = λ n is.
      second.counted (n + length rs) (first.counted n is)
      ∙ ap told_number (omega (arith, length-append rs ss));
}

split_first : (rs ss before later : List Sere) (large : Sere) → rs ≡ before ++ large ∷ later →
    rs ++ ss ≡ before ++ large ∷ (later ++ ss)
split_first rs ss before later large split =
    ap (λ (xs : List Sere). xs ++ ss) split ∙ append_assoc before (large ∷ later) ss

split_second : (rs ss before later : List Sere) (large : Sere) → ss ≡ before ++ large ∷ later →
    rs ++ ss ≡ (rs ++ before) ++ large ∷ later
split_second rs ss before later large split =
    ap (λ (xs : List Sere). rs ++ xs) split ∙ sym (append_assoc rs before (large ∷ later))

pub large_in_first : (rs ss : List Sere) (n number places : ℕ) → HasLargeBehind n rs number places →
    HasLargeBehind n (rs ++ ss) number places
large_in_first rs ss n number places h = record {
  before = h.before;
  large = h.large;
  later = h.later ++ ss;
  split = split_first rs ss h.before h.later h.large h.split;
  small = h.small;
  above = h.above;
  is_number = h.is_number;
  is_places = h.is_places;
}

pub large_in_head : (r : Sere) (ss : List Sere) (n number places : ℕ) → HasLargeBehind n (r ∷ []) number places →
    HasLargeBehind n (r ∷ ss) number places
large_in_head r ss n number places h = large_in_first (r ∷ []) ss n number places h

pub large_in_second : (rs ss : List Sere) (a b n number places : ℕ) → AreCounted rs a b → a ≡ told_number n →
    ((m : ℕ) → b ≡ told_number m → HasLargeBehind m ss number places) → HasLargeBehind n (rs ++ ss) number places
large_in_second rs ss a b n number places counted is later =
    let h : HasLargeBehind (n + length rs) ss number places = later (n + length rs) (counted.counted n is) in
    record {
      before = rs ++ h.before;
      large = h.large;
      later = h.later;
      split = split_second rs ss h.before h.later h.large h.split;
      small = All-append IsSmall rs h.before counted.small h.small;
      above = h.above;
      is_number = h.is_number ∙ ap told_number (omega (arith, length-append rs h.before));
      is_places = h.is_places;
    }

pub too_many : (f : Base) (number places : ℕ) → HasLargeBehind 0 (base_sequences f) number places →
    HasTooManyPlaces f number places
too_many f number places h = record {
  before = h.before;
  large = h.large;
  later = h.later;
  sequences = h.split;
  small = h.small;
  above = h.above;
  is_number = h.is_number ∙ ap told_number (omega arith);
  is_places = h.is_places;
}

told_both : (rs ss : List Sere) (a b : ℕ) (r : Result ℕ LargeSequence) → AreCounted rs a b → Tells ss b r →
    Tells (rs ++ ss) a r
told_both rs ss a b r counted told =
    MatchResult-weaker r told (λ (after : ℕ) later. both_counted rs ss a b after counted later)
    (λ (large : LargeSequence) later n is.
    large_in_second rs ss a b n large.sequence large.places counted is later)

-- behind a formula that is counted, and behind a sequence
pub told_and : (f g f_made g_made : Base) (a b : ℕ) (r : Result ℕ LargeSequence) → f_made ≡ f → g_made ≡ g →
    AreCounted (base_sequences f_made) a b → Tells (base_sequences g_made) b r → Tells (base_sequences (and f g)) a r
told_and f g f_made g_made a b r p q counted told =
    told_both (base_sequences f) (base_sequences g) a b r
    (subst (λ (x : Base). AreCounted (base_sequences x) a b) p counted)
    (subst (λ (x : Base). Tells (base_sequences x) b r) q told)

pub told_suffix : (s : Sere) (f f_made : Base) (a b : ℕ) (r : Result ℕ LargeSequence) → f_made ≡ f →
    AreCounted (s ∷ []) a b → Tells (base_sequences f_made) b r → Tells (base_sequences (suffix s f)) a r
told_suffix s f f_made a b r p counted told =
    told_both (s ∷ []) (base_sequences f) a b r counted (subst (λ (x : Base). Tells (base_sequences x) b r) p told)
