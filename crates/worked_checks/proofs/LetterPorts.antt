-- The names `a` and `b` are usable, and the ports of the tests may be those of a module.
use Rattle.std.proofs.Common.{◌≡◌, ℕ, zero, suc, true, Bool, List, [], ◌∷◌, refl, ap, arith}
use Rattle.std.specs.Prelude.{◌≢◌, not, bytes_eq, Contains, codes, All, AllPairs, Option, IfSome, slice_index}
use Rattle.std.specs.List.{list_all}
use Rattle.psl_model.specs.Reserved.{language_words, left_out_words, verilog_words}
use Rattle.psl_model.specs.Names.{IsUsableName, IsReport}
use Rattle.verilog_text.specs.Interface.{IsInterface}
use Rattle.verilog_text.specs.Module.{IsPort}
use Rattle.worked_checks.proofs.PortNames.{is_another, not_among}
use Rattle.worked_checks.specs.Ports.{a_and_b}

a_no_language_word : list_all (is_another (codes "a")) language_words ≡ true
unfolding language_words
a_no_language_word = refl

a_no_left_out_word : list_all (is_another (codes "a")) left_out_words ≡ true
unfolding left_out_words
a_no_left_out_word = refl

a_no_verilog_word : list_all (is_another (codes "a")) verilog_words ≡ true
unfolding verilog_words
a_no_verilog_word = refl

pub a_is_usable : IsUsableName (codes "a")
a_is_usable = record {
  identifier = (refl, refl);
  short = omega arith;
  no_prefix = λ e. cc;
  no_word = not_among (codes "a") refl language_words a_no_language_word;
  no_left_out_word = not_among (codes "a") refl left_out_words a_no_left_out_word;
  no_verilog_word = not_among (codes "a") refl verilog_words a_no_verilog_word;
}

b_no_language_word : list_all (is_another (codes "b")) language_words ≡ true
unfolding language_words
b_no_language_word = refl

b_no_left_out_word : list_all (is_another (codes "b")) left_out_words ≡ true
unfolding left_out_words
b_no_left_out_word = refl

b_no_verilog_word : list_all (is_another (codes "b")) verilog_words ≡ true
unfolding verilog_words
b_no_verilog_word = refl

b_is_usable : IsUsableName (codes "b")
b_is_usable = record {
  identifier = (refl, refl);
  short = omega arith;
  no_prefix = λ e. cc;
  no_word = not_among (codes "b") refl language_words b_no_language_word;
  no_left_out_word = not_among (codes "b") refl left_out_words b_no_left_out_word;
  no_verilog_word = not_among (codes "b") refl verilog_words b_no_verilog_word;
}

are_ports : All IsPort a_and_b
are_ports zero d lt = record { name = a_is_usable; width = (omega arith, omega arith) }
are_ports (suc zero) d lt = record { name = b_is_usable; width = (omega arith, omega arith) }
are_ports (suc (suc k)) d lt = absurd (omega arith)

distinct : AllPairs (λ p q. p ≢ q) (codes "a" ∷ codes "b" ∷ [])
distinct zero (suc zero) d lt within = λ e. omega (arith, ap (λ (name : List ℕ). slice_index name 0) e)
distinct zero zero d lt within = absurd (omega arith)
distinct zero (suc (suc j)) d lt within = absurd (omega arith)
distinct (suc i) zero d lt within = absurd (omega arith)
distinct (suc i) (suc zero) d lt within = absurd (omega arith)
distinct (suc i) (suc (suc j)) d lt within = absurd (omega arith)

pub interface : (report : Option (List ℕ)) → IfSome report IsReport → IsInterface (codes "mbac_u_1") report a_and_b
interface report shown = record {
  identifier = (refl, refl);
  prefix = refl;
  report = shown;
  ports = are_ports;
  distinct = distinct;
}
