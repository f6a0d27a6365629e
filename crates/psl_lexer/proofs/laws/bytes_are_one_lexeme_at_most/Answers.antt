use Rattle.std.proofs.Common.{◌≡◌}
use Rattle.psl_lexer.specs.declared.kinds.Lexeme.TheVariants as lexeme
use Rattle.psl_lexer.proofs.OneKind.{one_kind}
use Rattle.psl_lexer.proofs.laws.bytes_are_one_lexeme_at_most.Goals as goal

pub returns-clause-one_kind : goal.returns-clause-one_kind
returns-clause-one_kind c k j bytes a b = let same : lexeme.Token k ≡ lexeme.Token j =
    one_kind (lexeme.Token k) (lexeme.Token j) bytes a b in cc

pub returns-clause-not_left_out : goal.returns-clause-not_left_out
returns-clause-not_left_out c k bytes a b = let same : lexeme.Token k ≡ lexeme.LeftOut =
    one_kind (lexeme.Token k) lexeme.LeftOut bytes a b in cc

pub returns-clause-not_too_long : goal.returns-clause-not_too_long
returns-clause-not_too_long c k bytes a b = let same : lexeme.Token k ≡ lexeme.NameTooLong =
    one_kind (lexeme.Token k) lexeme.NameTooLong bytes a b in cc

pub returns-clause-one_fault : goal.returns-clause-one_fault
returns-clause-one_fault c bytes a b = let same : lexeme.LeftOut ≡ lexeme.NameTooLong =
    one_kind lexeme.LeftOut lexeme.NameTooLong bytes a b in cc
