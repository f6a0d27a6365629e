use Rattle.std.proofs.Common.{◌≡◌, drop, map}
use Rattle.std.specs.Prelude.{nat_eq}
use Rattle.std.specs.List.{list_any}
use Rattle.std.specs.Cmp.Lexicographic.{pointwise}
use Rattle.verilog_reader.proofs.words.is_among.Given as goal

abbrev pub invariant-loop-word : goal.invariant-loop-word
invariant-loop-word l = list_any (pointwise nat_eq l.name) (map (λ w. w.now) (drop l.word-index l.words))
    ≡ list_any (pointwise nat_eq l.name) (map (λ w. w.now) l.words)
