use Rattle.std.proofs.Common.{◌∙◌, ap, position}
use Rattle.psl_model.specs.View.{expr_of}
use Rattle.symbol_alphabet.specs.Symbols.{same}
use Rattle.symbol_alphabet.proofs.Found.{position_of_map}
use Rattle.symbol_alphabet.proofs.symbols.Symbols.number.Goals as goal

pub returns : goal.returns
returns c =
    let test = same (expr_of c.args.expr.now) in
    c.get_index_of.ensures.index ∙ position_of_map expr_of test c.self.inside.numbered.keys
    ∙ ap (position test) c.self.view_is
