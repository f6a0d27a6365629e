-- The signals at some places of a table of signals.
--     chosen places values        the values of the signals at these places, in their order; also their widths
--     position_in places signal   where a signal first stands among the places; as many as there are, where it doesn't
--     UsesOnly places uses        what is used stands among the places
--     chosen_letter, chosen_word  a letter and a word over the signals at these places
use Rattle.std.specs.Prelude.{ℕ, ◌==◌, Bool, List, map, slice_index, Contains, IsTrue}
use Rattle.std.specs.List.{position_or_len}
use Rattle.psl_meaning.specs.Word.{Letter, valuation, top, bottom, Word}

abbrev pub chosen : (places values : List ℕ) → List ℕ
chosen places values = map (λ place. slice_index values place) places

abbrev pub position_in : (places : List ℕ) → (signal : ℕ) → ℕ
position_in places signal = position_or_len (λ place. place == signal) places

abbrev pub UsesOnly : (places : List ℕ) → (uses : ℕ → Bool) → Type 0
UsesOnly places uses = (signal : ℕ) → IsTrue (uses signal) → Contains places signal

abbrev pub chosen_letter : (places : List ℕ) → Letter → Letter
chosen_letter places (valuation values) = valuation (chosen places values)
chosen_letter places top = top
chosen_letter places bottom = bottom

abbrev pub chosen_word : (places : List ℕ) → Word → Word
chosen_word places w = record { letters = map (chosen_letter places) w.letters; ending = w.ending }
