use Rattle.std.proofs.Common.{◌≡◌, ℕ, ◌<◌, ◌^◌, Some, None}
use Rattle.std.specs.Prelude.{Option, IfSome, IfNone, decimal, List, ◌≢◌}
use Rattle.verilog_reader.proofs.Pieces.{number_of-is}
use Rattle.verilog_reader.proofs.bytes.number_of.Goals as goal

given : (run : List ℕ) (o : Option ℕ) → IfSome o (λ n. (run ≡ decimal n) × (n < 2 ^ 64)) → (n : ℕ) → o ≡ Some n →
    (run ≡ decimal n) × (n < 2 ^ 64)
given run o found n e = rw e at found

given_none : (run : List ℕ) (o : Option ℕ) → IfNone o ((n : ℕ) → n < 2 ^ 64 → run ≢ decimal n) → o ≡ None → (n : ℕ) →
    n < 2 ^ 64 → run ≡ decimal n → ⊥
given_none run o only e = rw e at only

pub returns : goal.returns
returns c =
    let run = c.args.run.now in
    let o = c.parse_number.result in
    number_of-is run o (given run o c.parse_number.ensures.found) (given_none run o c.parse_number.ensures.only)
