-- The name `cnt` is usable, and the ports of the tests may be those of a module.
use Rattle.std.proofs.Common.{◌≡◌, ℕ, zero, suc, true, Bool, List, [], ◌∷◌, refl, arith}
use Rattle.std.specs.Prelude.{◌≢◌, not, bytes_eq, Contains, codes, All, AllPairs, None}
use Rattle.std.specs.List.{list_all}
use Rattle.std.proofs.lemmas.List.Elements.{All-contains}
use Rattle.std.proofs.lemmas.List.Sums.{AllPass-from_list_all}
use Rattle.psl_model.specs.Reserved.{language_words, left_out_words, verilog_words}
use Rattle.psl_model.specs.Names.{IsUsableName}
use Rattle.verilog_text.specs.Interface.{IsInterface}
use Rattle.verilog_text.specs.Module.{IsPort}
use Rattle.compile_examples.specs.Ports.{module_name, counter}

abbrev pub is_another : (name word : List ℕ) → Bool
is_another name word = not (bytes_eq word name)

pub not_among : (name : List ℕ) → bytes_eq name name ≡ true → (words : List (List ℕ)) →
    list_all (is_another name) words ≡ true → ¬ Contains words name
not_among name itself words others found =
    let each = AllPass-from_list_all (is_another name) words others in
    let refused : is_another name name ≡ true =
    All-contains (λ (word : List ℕ). is_another name word ≡ true) words name each found in
    cc

no_language_word : list_all (is_another (codes "cnt")) language_words ≡ true
unfolding language_words
no_language_word = refl

no_left_out_word : list_all (is_another (codes "cnt")) left_out_words ≡ true
unfolding left_out_words
no_left_out_word = refl

no_verilog_word : list_all (is_another (codes "cnt")) verilog_words ≡ true
unfolding verilog_words
no_verilog_word = refl

pub is_usable : IsUsableName (codes "cnt")
is_usable = record {
  identifier = (refl, refl);
  short = omega arith;
  no_prefix = λ e. cc;
  no_word = not_among (codes "cnt") refl language_words no_language_word;
  no_left_out_word = not_among (codes "cnt") refl left_out_words no_left_out_word;
  no_verilog_word = not_among (codes "cnt") refl verilog_words no_verilog_word;
}

are_ports : All IsPort counter
are_ports zero d lt = record { name = is_usable; width = (omega arith, omega arith) }
are_ports (suc k) d lt = absurd (omega arith)

distinct : AllPairs (λ p q. p ≢ q) (codes "cnt" ∷ [])
distinct zero zero d lt within = absurd (omega arith)
distinct zero (suc j) d lt within = absurd (omega arith)
distinct (suc i) j d lt within = absurd (omega arith)

pub interface : IsInterface module_name None counter
interface = record {
  identifier = (refl, refl);
  prefix = refl;
  report = tt;
  ports = are_ports;
  distinct = distinct;
}
