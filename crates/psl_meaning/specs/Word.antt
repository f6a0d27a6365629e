-- Words, after IEEE 1850-2010, Annex B: a list of letters, and how it goes on.
--     Reaches w n         place n is below the length of w
--     letter_at w n       the letter at place n, if w reaches it
--     first n w           the first n letters, fewer where w ends before
--     from n w            the suffix from place n on
--     bar w               w with tops and bottoms exchanged
use Rattle.std.specs.Prelude.{ℕ, ◌-◌, List, [], ◌++◌, Option, Some, None, IsSome, map, take, drop, length, replicate}
use Rattle.std.specs.Prelude.{slice_get}

-- the value of each signal, by its place
abbrev pub Valuation : Type 0
Valuation = List ℕ

pub data Letter : Type 0 where
  valuation : (values : Valuation) → Letter
  top : Letter
  bottom : Letter

-- after its letters a word ends, or goes on with tops or with bottoms for ever
pub data Ending : Type 0 where
  ended : Ending
  tops : Ending
  bottoms : Ending

pub record Word : Type 0 where
  pub letters : List Letter
  pub ending : Ending

-- the word with these letters that then ends, and the one that then goes on with tops for ever
abbrev pub finite : List Letter → Word
finite letters = record { letters = letters; ending = ended }

abbrev pub with_tops : List Letter → Word
with_tops letters = record { letters = letters; ending = tops }

-- the letters that repeat after the end: for n places, none where the word has ended
abbrev pub filling : Ending → ℕ → List Letter
filling ended n = []
filling tops n = replicate n top
filling bottoms n = replicate n bottom

abbrev pub after_end : Ending → Option Letter
after_end ended = None
after_end tops = Some top
after_end bottoms = Some bottom

abbrev pub option_or : {X : Type 0} → Option X → Option X → Option X
option_or (Some x) other = Some x
option_or None other = other

abbrev pub letter_at : Word → ℕ → Option Letter
letter_at w n = option_or (slice_get w.letters n) (after_end w.ending)

abbrev pub Reaches : Word → ℕ → Type 0
Reaches w n = IsSome (letter_at w n)

abbrev pub first : ℕ → Word → List Letter
first n w = take n w.letters ++ filling w.ending (n - length w.letters)

abbrev pub from : ℕ → Word → Word
from n w = record { letters = drop n w.letters; ending = w.ending }

abbrev pub bar_letter : Letter → Letter
bar_letter (valuation values) = valuation values
bar_letter top = bottom
bar_letter bottom = top

abbrev pub bar_ending : Ending → Ending
bar_ending ended = ended
bar_ending tops = bottoms
bar_ending bottoms = tops

abbrev pub bar : Word → Word
bar w = record { letters = map bar_letter w.letters; ending = bar_ending w.ending }
