-- Words: what bar, suffixes and the letter at a place have to do with each other.
use Rattle.std.proofs.Common.{◌≡◌, ℕ, zero, suc, List, [], ◌∷◌, Option, Some, None, refl, ap, ◌∙◌, map, drop}
use Rattle.std.specs.Prelude.{slice_get, option_map, IsSome}
use Rattle.std.proofs.lemmas.List.{drop-map}
use Rattle.std.proofs.lemmas.Option.{slice_get-map}
use Rattle.psl_meaning.specs.Word.{Letter, valuation, top, bottom, Ending, ended, tops, bottoms, Word, bar_letter}
use Rattle.psl_meaning.specs.Word.{bar_ending, bar, from, letter_at, option_or, after_end, Reaches}

pub bar_letter-bar_letter : (a : Letter) → bar_letter (bar_letter a) ≡ a
bar_letter-bar_letter (valuation values) = refl
bar_letter-bar_letter top = refl
bar_letter-bar_letter bottom = refl

pub bar_ending-bar_ending : (e : Ending) → bar_ending (bar_ending e) ≡ e
bar_ending-bar_ending ended = refl
bar_ending-bar_ending tops = refl
bar_ending-bar_ending bottoms = refl

pub bar_letters-bar_letters : (xs : List Letter) → map bar_letter (map bar_letter xs) ≡ xs
bar_letters-bar_letters [] = refl
bar_letters-bar_letters (x ∷ xs) = rw (bar_letter-bar_letter x, bar_letters-bar_letters xs) refl

pub bar-bar : (w : Word) → bar (bar w) ≡ w
bar-bar w = rw (bar_letters-bar_letters w.letters, bar_ending-bar_ending w.ending) refl

pub from-bar : (k : ℕ) (w : Word) → from k (bar w) ≡ bar (from k w)
from-bar k w = rw (drop-map bar_letter k w.letters) refl

-- a place of the bar of a suffix of the bar is a place of the suffix
pub bar-from-bar : (k : ℕ) (w : Word) → bar (from k (bar w)) ≡ from k w
bar-from-bar k w = ap bar (from-bar k w) ∙ bar-bar (from k w)

pub slice_get-drop : (xs : List Letter) (k : ℕ) → slice_get (drop k xs) 0 ≡ slice_get xs k
slice_get-drop xs zero = refl
slice_get-drop [] (suc k) = refl
slice_get-drop (x ∷ xs) (suc k) = slice_get-drop xs k

pub letter_at-from : (k : ℕ) (w : Word) → letter_at (from k w) 0 ≡ letter_at w k
letter_at-from k w = rw (slice_get-drop w.letters k) refl

after_end-bar : (e : Ending) → after_end (bar_ending e) ≡ option_map bar_letter (after_end e)
after_end-bar ended = refl
after_end-bar tops = refl
after_end-bar bottoms = refl

or-bar : (o p : Option Letter) → option_or (option_map bar_letter o) (option_map bar_letter p) ≡ option_map bar_letter
    (option_or o p)
or-bar (Some a) p = refl
or-bar None p = refl

pub letter_at-bar : (w : Word) (k : ℕ) → letter_at (bar w) k ≡ option_map bar_letter (letter_at w k)
letter_at-bar w k =
    rw (slice_get-map bar_letter w.letters k, after_end-bar w.ending)
    (or-bar (slice_get w.letters k) (after_end w.ending))

is_some-bar : (o : Option Letter) → IsSome (option_map bar_letter o) → IsSome o
is_some-bar (Some a) h = refl
is_some-bar None h = h

is_some-to_bar : (o : Option Letter) → IsSome o → IsSome (option_map bar_letter o)
is_some-to_bar (Some a) h = refl
is_some-to_bar None h = h

pub reaches-from_bar : (w : Word) (k : ℕ) → Reaches (bar w) k → Reaches w k
reaches-from_bar w k h = is_some-bar (letter_at w k) (rw (letter_at-bar w k) at h)

pub reaches-to_bar : (w : Word) (k : ℕ) → Reaches w k → Reaches (bar w) k
reaches-to_bar w k h = rw (letter_at-bar w k) (is_some-to_bar (letter_at w k) h)
