-- Lists of letters, and how words go on after them.
use Rattle.std.proofs.Common.{◌≡◌, ℕ, zero, suc, ◌-◌, ◌<◌, ◌≤◌, List, [], ◌∷◌, ◌++◌, Option, Some, None, refl, sym}
use Rattle.std.proofs.Common.{ap, ◌∙◌, take, drop, map, length, replicate, arith}
use Rattle.std.specs.Prelude.{slice_get, option_map, IsSome, IsSomeAnd}
use Rattle.std.proofs.lemmas.List.{drop-map, take_all}
use Rattle.std.proofs.lemmas.Option.{slice_get-map}
use Rattle.psl_model.specs.Expr.{Expr}
use Rattle.psl_meaning.specs.Word.{Letter, top, Ending, ended, tops, bottoms, Word, finite, with_tops, filling, first}
use Rattle.psl_meaning.specs.Word.{from, bar, bar_ending, bar_letter, letter_at, after_end, option_or, Reaches}
use Rattle.psl_meaning.specs.Sequence.{Holds}

pub length_drop : (xs : List Letter) (k : ℕ) → k < length xs → 0 < length (drop k xs)
length_drop [] k h = absurd (omega arith)
length_drop (x ∷ xs) zero h = omega arith
length_drop (x ∷ xs) (suc k) h = length_drop xs k (omega arith)

pub drop_past : (xs : List Letter) (k : ℕ) → length xs ≤ k → drop k xs ≡ []
drop_past [] zero h = refl
drop_past [] (suc k) h = refl
drop_past (x ∷ xs) zero h = absurd (omega arith)
drop_past (x ∷ xs) (suc k) h = drop_past xs k (omega arith)

pub length_bars : (xs : List Letter) → length (map bar_letter xs) ≡ length xs
length_bars [] = refl
length_bars (x ∷ xs) = ap suc (length_bars xs)

pub within : (xs : List Letter) (k : ℕ) → Reaches (finite xs) k → k < length xs
within [] k h = absurd (cc (h))
within (x ∷ xs) zero h = omega arith
within (x ∷ xs) (suc k) h = let shorter = within xs k h in omega (arith, shorter)

pub reached : (xs : List Letter) (k : ℕ) → k < length xs → Reaches (finite xs) k
reached [] k h = absurd (omega arith)
reached (x ∷ xs) zero h = refl
reached (x ∷ xs) (suc k) h = reached xs k (omega arith)

none_left : (d : Ending) → filling d 0 ≡ []
none_left ended = refl
none_left tops = refl
none_left bottoms = refl

-- within the list its first letters are the same however it goes on
pub first_within : (xs : List Letter) (d e : Ending) (n : ℕ) → n ≤ length xs →
    first n (record { letters = xs; ending = d }) ≡ first n (record { letters = xs; ending = e })
first_within xs d e n h =
    let none : n - length xs ≡ 0 = omega arith in
    ap (λ (m : ℕ). take n xs ++ filling d m) none
    ∙ ap (λ (ys : List Letter). take n xs ++ ys) (none_left d ∙ sym (none_left e))
    ∙ sym (ap (λ (m : ℕ). take n xs ++ filling e m) none)

pub top_of : (o : Option Letter) → option_or o None ≡ Some top → option_or o (Some top) ≡ Some top
top_of (Some x) h = h
top_of None h = refl

pub more_of : (widths : List ℕ) (e : Expr) (o : Option Letter) → IsSomeAnd (option_or o None) (Holds widths e) →
    IsSomeAnd (option_or o (Some top)) (Holds widths e)
more_of widths e (Some x) h = h
more_of widths e None h = absurd h

pub some_of : (widths : List ℕ) (e : Expr) (o : Option Letter) → IsSomeAnd (option_or o None) (Holds widths e) →
    IsSome (option_or o None)
some_of widths e (Some x) h = refl
some_of widths e None h = absurd h

-- tops written behind a list change no letter of the word that goes on with tops
padded : (xs : List Letter) (more k : ℕ) →
    option_or (slice_get (xs ++ replicate more top) k) (Some top) ≡ option_or (slice_get xs k) (Some top)
padded [] zero k = refl
padded [] (suc more) zero = refl
padded [] (suc more) (suc k) = padded [] more k
padded (x ∷ xs) more zero = refl
padded (x ∷ xs) more (suc k) = padded xs more k

-- cut behind its list, a word that goes on with tops has the same letters
pub cut_behind : (xs : List Letter) (n : ℕ) → length xs ≤ n → (k : ℕ) →
    letter_at (with_tops (first n (with_tops xs))) k ≡ letter_at (with_tops xs) k
cut_behind xs n h k =
    ap (λ (ys : List Letter). option_or (slice_get (ys ++ replicate (n - length xs) top) k) (Some top))
    (take_all n xs h) ∙ padded xs (n - length xs) k

pub first_tops : (n : ℕ) → first n (with_tops []) ≡ replicate n top
first_tops zero = refl
first_tops (suc n) = let all : suc n - 0 ≡ suc n = omega arith in ap (λ (m : ℕ). replicate m top) all

-- ---- the bar of a word

after_end_bar : (e : Ending) → after_end (bar_ending e) ≡ option_map bar_letter (after_end e)
after_end_bar ended = refl
after_end_bar tops = refl
after_end_bar bottoms = refl

or_bar : (o p : Option Letter) →
    option_or (option_map bar_letter o) (option_map bar_letter p) ≡ option_map bar_letter (option_or o p)
or_bar (Some a) p = refl
or_bar None p = refl

letter_at_bar : (w : Word) (k : ℕ) → letter_at (bar w) k ≡ option_map bar_letter (letter_at w k)
letter_at_bar w k =
    rw (slice_get-map bar_letter w.letters k, after_end_bar w.ending)
    (or_bar (slice_get w.letters k) (after_end w.ending))

some_there : (o : Option Letter) → IsSome (option_map bar_letter o) → IsSome o
some_there (Some a) h = refl
some_there None h = h

some_barred : (o : Option Letter) → IsSome o → IsSome (option_map bar_letter o)
some_barred (Some a) h = refl
some_barred None h = h

pub reaches_from_bar : (w : Word) (k : ℕ) → Reaches (bar w) k → Reaches w k
reaches_from_bar w k h = some_there (letter_at w k) (rw (letter_at_bar w k) at h)

pub reaches_to_bar : (w : Word) (k : ℕ) → Reaches w k → Reaches (bar w) k
reaches_to_bar w k h = rw (letter_at_bar w k) (some_barred (letter_at w k) h)

pub from_bar : (k : ℕ) (w : Word) → from k (bar w) ≡ bar (from k w)
from_bar k w = rw (drop-map bar_letter k w.letters) refl
