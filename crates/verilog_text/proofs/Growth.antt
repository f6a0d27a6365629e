-- Bytes that grew twice have grown.
use Rattle.std.proofs.Common.{ℕ, List, [], ◌++◌, ap, ◌∙◌, append_assoc, sym}
use Rattle.std.proofs.lemmas.List.{append-nil}
use Rattle.verilog_text.specs.Growth.{Extends}

pub extends_twice : (before between after : List ℕ) → Extends before between → Extends between after →
    Extends before after
extends_twice before between after first second = record {
  rest = first.rest ++ second.rest;
  gained = second.gained ∙ ap (λ bytes. bytes ++ second.rest) first.gained ∙ append_assoc before first.rest second.rest;
}

pub extends_none : (bytes : List ℕ) → Extends bytes bytes
extends_none bytes = record { rest = []; gained = sym (append-nil bytes) }
