use Rattle.automata_examples.proofs.constructors.composed.Goals as goal

pub returns : goal.returns
returns c = λ w.
    let whole = c.new-3.ensures.words w in
    let left = c.new.ensures.words w in
    let right = c.new-2.ensures.words w in
    ((λ h. let both = whole.0 h in (left.0 both.0, right.0 both.1)), (λ h. whole.1 (left.1 h.0, right.1 h.1)))
