-- The unit of the tests is one that the compiler may be given.
use Rattle.std.proofs.Common.{◌≡◌, ℕ, zero, suc, true, Bool, List, [], ◌∷◌, refl, ap, arith}
use Rattle.std.specs.Prelude.{◌≢◌, codes, All, AllPairs, slice_index}
use Rattle.std.specs.List.{list_all}
use Rattle.psl_model.specs.Reserved.{language_words, left_out_words, verilog_words}
use Rattle.psl_model.specs.Names.{IsUsableName}
use Rattle.verilog_text.specs.Module.{IsPort}
use Rattle.mbac_compile.specs.Units.{IsWellNamed, IsWellWorded, IsWellFormed}
use Rattle.compile_examples.proofs.PortNames.{is_another, not_among, is_usable}
use Rattle.compile_examples.specs.Units.{signals, directive, whole_unit}

go_is_no_language_word : list_all (is_another (codes "go")) language_words ≡ true
unfolding language_words
go_is_no_language_word = refl

go_is_no_left_out_word : list_all (is_another (codes "go")) left_out_words ≡ true
unfolding left_out_words
go_is_no_left_out_word = refl

go_is_no_verilog_word : list_all (is_another (codes "go")) verilog_words ≡ true
unfolding verilog_words
go_is_no_verilog_word = refl

go_is_usable : IsUsableName (codes "go")
go_is_usable = record {
  identifier = (refl, refl);
  short = omega arith;
  no_prefix = λ e. cc;
  no_word = not_among (codes "go") refl language_words go_is_no_language_word;
  no_left_out_word = not_among (codes "go") refl left_out_words go_is_no_left_out_word;
  no_verilog_word = not_among (codes "go") refl verilog_words go_is_no_verilog_word;
}

are_ports : All IsPort signals
are_ports zero d lt = record { name = go_is_usable; width = (omega arith, omega arith) }
are_ports (suc zero) d lt = record { name = is_usable; width = (omega arith, omega arith) }
are_ports (suc (suc k)) d lt = absurd (omega arith)

distinct : AllPairs (λ p q. p ≢ q) (codes "go" ∷ codes "cnt" ∷ [])
distinct zero (suc zero) d lt within = λ e. omega (arith, ap (λ (name : List ℕ). slice_index name 0) e)
distinct zero zero d lt within = absurd (omega arith)
distinct zero (suc (suc j)) d lt within = absurd (omega arith)
distinct (suc i) zero d lt within = absurd (omega arith)
distinct (suc i) (suc zero) d lt within = absurd (omega arith)
distinct (suc i) (suc (suc j)) d lt within = absurd (omega arith)

pub names : IsWellNamed whole_unit
names = record { name = (refl, refl); signals = are_ports; distinct = distinct }

pub words : IsWellWorded directive
words = record {
  label = (refl, refl);
  report = record { short = omega arith; printable = refl };
}

pub expressions : IsWellFormed whole_unit directive
expressions =
    (((omega arith, omega arith, omega arith), omega arith), ((omega arith, omega arith, omega arith), omega arith))
