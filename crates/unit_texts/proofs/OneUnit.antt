-- Bytes stand for one unit at most, since they have one list of tokens and these are one tree.
use Rattle.std.proofs.Common.{◌≡◌, ℕ, List, subst, sym, ap, ◌∙◌}
use Rattle.psl_lexer.specs.declared.kinds.Token.{Token}
use Rattle.psl_lexer.specs.Splits.{Splits}
use Rattle.psl_grammar.specs.RawUnit.{RawUnit}
use Rattle.psl_grammar.specs.Units.{IsUnit}
use Rattle.psl_model.specs.Unit.{PslUnit}
use Rattle.unit_rules.specs.Source.{source}
use Rattle.psl_units.specs.Unit.{unit_for}
use Rattle.psl_units.specs.StandsForUnit.{StandsForUnit}

pub one_unit : ((text : List ℕ) (tokens others : List Token) → Splits 0 text tokens → Splits 0 text others
    → tokens ≡ others) → ((text : List ℕ) (tokens : List Token) (unit other : RawUnit) → IsUnit text tokens unit
    → IsUnit text tokens other → unit ≡ other) → (bytes : List ℕ) (unit other : PslUnit)
    → StandsForUnit bytes unit → StandsForUnit bytes other → unit ≡ other
one_unit one_list one_tree bytes unit other s t =
    let list : s.tokens ≡ t.tokens = one_list bytes s.tokens t.tokens s.split t.split in
    let again : IsUnit bytes t.tokens s.raw = subst (λ (ts : List Token). IsUnit bytes ts s.raw) list s.written in
    let tree : s.raw ≡ t.raw = one_tree bytes t.tokens s.raw t.raw again t.written in
    s.meant ∙ ap (λ (ts : List Token). unit_for (source bytes ts) s.raw) list
    ∙ ap (λ (r : RawUnit). unit_for (source bytes t.tokens) r) tree ∙ sym t.meant
