use Rattle.std.proofs.Common.{◌∙◌, suc, sym}
use Rattle.strong_obligations.proofs.chains.later.Goals as goal

pub returns-clause-first : goal.returns-clause-first
returns-clause-first c inputs run h some on =
    let d = c.in_ok-held.ensures.stream inputs run (c.in_ok-open.ensures.kept.runs inputs run h) in
    ((c.in_ok-open.ensures.stream inputs run h 0 some).0 on).0 (d.begins some)

pub returns-clause-later : goal.returns-clause-later
returns-clause-later c inputs run h n within =
    let d = c.in_ok-held.ensures.stream inputs run (c.in_ok-open.ensures.kept.runs inputs run h) in
    let follows = d.goes_on n within in
    let both = c.in_ok-open.ensures.stream inputs run h (suc n) within in (
      (λ on. let p = both.0 on in ((λ e. p.0 (follows ∙ e)), p.1)),
      (λ p. both.1 ((λ e. p.0 (sym follows ∙ e)), p.1)),
    )
