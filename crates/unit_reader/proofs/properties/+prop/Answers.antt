use Rattle.std.proofs.Common.{◌<◌, ap, ◌∙◌, arith}
use Rattle.psl_grammar.specs.View.{sere_of, prop_of}
use Rattle.unit_reader.proofs.Loops.{gives_as, halt, turn, stop}
use Rattle.psl_grammar.specs.PropGrammar.{primary, occ, suff, impl, prop}
use Rattle.unit_reader.specs.inner.ReadViews.{prop_read}
use Rattle.unit_reader.specs.inner.PropReaders.{phrase_with, prop_at}
use Rattle.unit_reader.specs.inner.Bodies.{phrase_of}
use Rattle.unit_reader.specs.declared.bodies.Body.{Body}
use Rattle.unit_reader.proofs.Levels.{opens_is, suffix_known, suffix_none}
use Rattle.unit_reader.proofs.properties.+prop.Goals as goal

pub read_ands-returns-in-Err-clause-gives : goal.read_ands-returns-in-Err-clause-gives
read_ands-returns-in-Err-clause-gives t c =
    halt c.in-Err.error c.joins.invariant.0 c.joins.invariant.2 c.joins-test.ensures c.in-Err.ensures.gives

pub read_ands-joins-preserved : goal.read_ands-joins-preserved
read_ands-joins-preserved t c =
    let further : c.joins.to < c.in-Ok.after = c.in-Ok.ensures.some in (
      turn (prop_of c.in-Ok.whole, c.in-Ok.after) c.joins.invariant.0 c.joins.invariant.2 c.joins-test.ensures
          c.in-Ok.ensures.gives further,
      omega arith,
      c.in-Ok.ensures.end,
    )

pub read_ands-returns-clause-gives : goal.read_ands-returns-clause-gives
read_ands-returns-clause-gives t c = stop c.joins.invariant.0 c.joins.invariant.2 c.joins-test.ensures

pub read_ors-returns-in-Err-clause-gives : goal.read_ors-returns-in-Err-clause-gives
read_ors-returns-in-Err-clause-gives t c =
    halt c.in-Err.error c.joins.invariant.0 c.joins.invariant.2 c.joins-test.ensures c.in-Err.ensures.gives

pub read_ors-joins-preserved : goal.read_ors-joins-preserved
read_ors-joins-preserved t c =
    let further : c.joins.to < c.in-Ok.after = c.in-Ok.ensures.some in (
      turn (prop_of c.in-Ok.whole, c.in-Ok.after) c.joins.invariant.0 c.joins.invariant.2 c.joins-test.ensures
          c.in-Ok.ensures.gives further,
      omega arith,
      c.in-Ok.ensures.end,
    )

pub read_ors-returns-clause-gives : goal.read_ors-returns-clause-gives
read_ors-returns-clause-gives t c = stop c.joins.invariant.0 c.joins.invariant.2 c.joins-test.ensures

pub open_body-returns-in-Operand-clause-gives : goal.open_body-returns-in-Operand-clause-gives
unfolding phrase_with
open_body-returns-in-Operand-clause-gives t c =
    let some : 0 < c.args.room = omega arith in
    gives_as prop_read c.read_atom.result _ _
    (ap (λ (b : Body). prop_at c.args.symbols.now c.args.room (phrase_of b) c.args.from) c.in-Operand.is
    ∙ opens_is c.args.symbols.now c.args.room some primary c.args.from) c.read_atom.ensures.gives

pub open_body-returns-in-Occurrence-clause-gives : goal.open_body-returns-in-Occurrence-clause-gives
unfolding phrase_with
open_body-returns-in-Occurrence-clause-gives t c =
    let some : 0 < c.args.room = omega arith in
    gives_as prop_read c.read_occ.result _ _
    (ap (λ (b : Body). prop_at c.args.symbols.now c.args.room (phrase_of b) c.args.from) c.in-Occurrence.is
    ∙ opens_is c.args.symbols.now c.args.room some occ c.args.from) c.read_occ.ensures.gives

pub open_body-returns-in-Suffixed-clause-gives : goal.open_body-returns-in-Suffixed-clause-gives
unfolding phrase_with
open_body-returns-in-Suffixed-clause-gives t c =
    let some : 0 < c.args.room = omega arith in
    gives_as prop_read c.read_suff.result _ _
    (ap (λ (b : Body). prop_at c.args.symbols.now c.args.room (phrase_of b) c.args.from) c.in-Suffixed.is
    ∙ opens_is c.args.symbols.now c.args.room some suff c.args.from) c.read_suff.ensures.gives

pub open_body-returns-in-Implication-clause-gives : goal.open_body-returns-in-Implication-clause-gives
unfolding phrase_with
open_body-returns-in-Implication-clause-gives t c =
    let some : 0 < c.args.room = omega arith in
    gives_as prop_read c.read_impl.result _ _
    (ap (λ (b : Body). prop_at c.args.symbols.now c.args.room (phrase_of b) c.args.from) c.in-Implication.is
    ∙ opens_is c.args.symbols.now c.args.room some impl c.args.from) c.read_impl.ensures.gives

pub open_body-returns-in-Property-clause-gives : goal.open_body-returns-in-Property-clause-gives
unfolding phrase_with
open_body-returns-in-Property-clause-gives t c =
    let some : 0 < c.args.room = omega arith in
    gives_as prop_read c.read_prop.result _ _
    (ap (λ (b : Body). prop_at c.args.symbols.now c.args.room (phrase_of b) c.args.from) c.in-Property.is
    ∙ opens_is c.args.symbols.now c.args.room some prop c.args.from) c.read_prop.ensures.gives

pub read_suffix_of-returns-in-Some-clause-gives : goal.read_suffix_of-returns-in-Some-clause-gives
read_suffix_of-returns-in-Some-clause-gives t c =
    gives_as prop_read c.read_suffix_body.result _ _
    (suffix_known c.args.symbols.now (prop_at c.args.symbols.now c.args.room) c.args.room (prop_of c.args.left)
    (sere_of c.in-Some.sere) c.args.mark c.in-Some.ensures) c.read_suffix_body.ensures.gives

pub read_suffix_of-returns-in-None-clause-gives : goal.read_suffix_of-returns-in-None-clause-gives
read_suffix_of-returns-in-None-clause-gives t c =
    suffix_none c.args.symbols.now (prop_at c.args.symbols.now c.args.room) c.args.room (prop_of c.args.left)
    c.args.mark
    c.in-None.ensures
