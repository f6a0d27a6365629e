use Rattle.std.proofs.Common.{subst, sym}
use Rattle.psl_lexer.specs.Order.{LiesWithin}
use Rattle.psl_lexer.specs.declared.kinds.Token.{Token}
use Rattle.psl_grammar.specs.Units.{no_token}
use Rattle.unit_reader.proofs.classes.bytes_at.Goals as goal

pub token_bytes-requires : goal.token_bytes-requires
token_bytes-requires c = record {
  within = subst (λ (t : Token). LiesWithin c.args.text.now t) (sym c.token_at.ensures)
      (c.requires.within c.args.place no_token c.requires.place);
}
