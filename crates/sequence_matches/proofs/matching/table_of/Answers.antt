use Rattle.std.proofs.lemmas.Result.{IfOk-weaker}
use Rattle.psl_model.specs.View.{sere_of}
use Rattle.psl_meaning.specs.SequenceSugar as sugar
use Rattle.psl_rewrite.specs.Meaning.{meant_core}
use Rattle.psl_rewrite.specs.View.{core_of}
use Rattle.sequence_matches.proofs.Accepting.{table_words}
use Rattle.sequence_matches.proofs.Origins.{all_guards, on_ok}
use Rattle.sequence_matches.proofs.matching.table_of.Goals as goal

pub returns-clause-guards : goal.returns-clause-guards
returns-clause-guards c =
    on_ok c.build.result
    (λ widths has. all_guards widths (core_of c.in_ok-core.core) (sere_of c.args.sere.now) c.args.symbols.now
    c.build.new.symbols c.requires c.in_ok-core.ensures.counted c.build.ensures.origins has)

pub returns-clause-words : goal.returns-clause-words
returns-clause-words c =
    IfOk-weaker c.build.result _ _
    (λ g law. table_words c.build.new.symbols (meant_core (core_of c.in_ok-core.core))
    (sugar.core_of (sere_of c.args.sere.now)) g law c.in_ok-core.ensures.words)
    c.build.ensures.words
