-- The kinds of phrases that open, as the code names them.
use Rattle.psl_grammar.specs.PropGrammar as phrase
use Rattle.psl_grammar.specs.PropGrammar.{Phrase}
use Rattle.unit_reader.specs.declared.bodies.Body.{Body}
use Rattle.unit_reader.specs.declared.bodies.Body.TheVariants.{Operand, Occurrence, Suffixed, Implication, Property}

abbrev pub phrase_of : Body → Phrase
phrase_of Operand = phrase.primary
phrase_of Occurrence = phrase.occ
phrase_of Suffixed = phrase.suff
phrase_of Implication = phrase.impl
phrase_of Property = phrase.prop
