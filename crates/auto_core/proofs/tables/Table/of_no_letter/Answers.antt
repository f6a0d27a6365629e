use Rattle.std.proofs.Common.{◌≡◌, ◌∙◌, ◌<◌, true, List, [], ◌∷◌, ◌++◌, map, refl, sym, ap, subst, arith}
use Rattle.std.specs.Prelude.{◌↔◌}
use Rattle.auto_core.specs.declared.tables.Row.{Row}
use Rattle.auto_core.specs.Graph.{Graph, graph_machine}
use Rattle.auto_core.specs.Machine.{Letter, Accepts}
use Rattle.auto_core.proofs.tables.Table.of_no_letter.Goals as goal

abbrev no_letter : Graph
no_letter = record { accepting = true ∷ []; edges = [] }

accepts_none : (w : List Letter) → Accepts (graph_machine no_letter) w ↔ (w ≡ [])
accepts_none [] = (λ _. refl, λ _. refl)
accepts_none (a ∷ w) = (λ x. let lt : x.2.0 < 0 = x.2.1 in absurd (omega (arith, lt)), λ e. absurd (cc))

abbrev row : Row
row = record { accepts = true; first = 0; end = 0 }

pub returns-clause-words : goal.returns-clause-words
returns-clause-words c =
    let rows = c.in_ok-push.ensures.items ∙ ap (λ (s : List Row). s ++ row ∷ []) c.new-rows.ensures.items in
    let accepting = c.from_rows.ensures.accepting ∙ ap (λ (s : List Row). map (λ r. r.accepts) s) rows in
    let edges = c.from_rows.ensures.edges ∙ c.new.ensures.empty in
    let same : c.from_rows.result ≡ no_letter = λ i. record { accepting = accepting i; edges = edges i } in
    subst (λ (g : Graph). (w : List Letter) → Accepts (graph_machine g) w ↔ (w ≡ [])) (sym same) accepts_none
