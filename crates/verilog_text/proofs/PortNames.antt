-- The name `a` is usable.
use Rattle.std.proofs.Common.{◌≡◌, ℕ, zero, suc, true, Bool, List, [], ◌∷◌, refl, ap, arith}
use Rattle.std.specs.Prelude.{◌≢◌, not, bytes_eq, Contains, codes, All, AllPairs, Option, IfSome, slice_index}
use Rattle.std.specs.List.{list_all}
use Rattle.std.proofs.lemmas.List.Elements.{All-contains}
use Rattle.std.proofs.lemmas.List.Sums.{AllPass-from_list_all}
use Rattle.psl_model.specs.Reserved.{language_words, left_out_words, verilog_words}
use Rattle.psl_model.specs.Names.{IsUsableName, IsReport}
use Rattle.verilog_text.specs.Interface.{IsInterface}
use Rattle.verilog_text.specs.Module.{IsPort}

abbrev is_another : (name word : List ℕ) → Bool
is_another name word = not (bytes_eq word name)

not_among : (name : List ℕ) → bytes_eq name name ≡ true → (words : List (List ℕ)) →
    list_all (is_another name) words ≡ true → ¬ Contains words name
not_among name itself words others found =
    let each = AllPass-from_list_all (is_another name) words others in
    let refused : is_another name name ≡ true =
    All-contains (λ (word : List ℕ). is_another name word ≡ true) words name each found in
    cc

a_no_language_word : list_all (is_another (codes "a")) language_words ≡ true
unfolding language_words
a_no_language_word = refl

a_no_left_out_word : list_all (is_another (codes "a")) left_out_words ≡ true
unfolding left_out_words
a_no_left_out_word = refl

a_no_verilog_word : list_all (is_another (codes "a")) verilog_words ≡ true
unfolding verilog_words
a_no_verilog_word = refl

pub a_is_usable : IsUsableName (codes "a")
a_is_usable = record {
  identifier = (refl, refl);
  short = omega arith;
  no_prefix = λ e. cc;
  no_word = not_among (codes "a") refl language_words a_no_language_word;
  no_left_out_word = not_among (codes "a") refl left_out_words a_no_left_out_word;
  no_verilog_word = not_among (codes "a") refl verilog_words a_no_verilog_word;
}
