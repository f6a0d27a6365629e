-- A table accepts along paths: what it accepts from a state leads from there to an accepting state.
use Rattle.std.proofs.Common.{◌≡◌, ℕ, zero, suc, ◌-◌, ◌<◌, Bool, true, false, eqb, IsTrue, List, [], ◌∷◌, length}
use Rattle.std.proofs.Common.{filter, map, get_or, Contains, cond, All, inl, inr, ◌⊎◌, ◌↔◌, refl, sym, ap, subst}
use Rattle.std.proofs.Common.{arith}
use Rattle.std.proofs.lemmas.Bool.Decides.{Decides-eqb}
use Rattle.std.proofs.lemmas.List.Elements.{All-contains}
use Rattle.auto_core.specs.declared.labels.Literal.{Literal}
use Rattle.auto_core.specs.declared.tables.Edge.{Edge}
use Rattle.auto_core.specs.Machine.{Letter, Passes, AcceptsFrom, Accepts}
use Rattle.auto_core.specs.Graph.{Graph, graph_machine, edges_from}
use Rattle.circuit_core.specs.Run.{Stream, On}
use Rattle.sequence_circuits.specs.Guards.{cycles_from}
use Rattle.sequence_circuits.specs.Detection.{IsDetected}
use Rattle.sequence_circuits.specs.inner.Edges.{Among, Arrives}
use Rattle.sequence_circuits.proofs.OneHot.{Path, Comes}

-- ---- members of lists

told : (b : Bool) → (b ≡ true) ⊎ (b ≡ false)
told true = inl refl
told false = inr refl

contains_among : {X : Type 0} (xs : List X) (x : X) → Contains xs x → Among xs x
contains_among [] x h = absurd (omega (arith, h.1))
contains_among (y ∷ xs) x (zero, lt, e) = inl e
contains_among (y ∷ xs) x (suc k, lt, e) = inr (contains_among xs x (k, omega arith, e))

among_contains : {X : Type 0} (xs : List X) (x : X) → Among xs x → Contains xs x
among_contains [] x h = absurd h
among_contains (y ∷ xs) x (inl e) = (0, omega arith, e)
among_contains (y ∷ xs) x (inr h) = let r = among_contains xs x h in (suc r.0, omega (arith, r.1), r.2)

-- ---- the edges that leave a state

abbrev leaves : ℕ → Edge → Bool
leaves s e = eqb e.from s

abbrev step_of : Edge → List Literal × ℕ
step_of e = (e.label, e.to)

abbrev IsOf : (edges : List Edge) (s : ℕ) (label : List Literal) (next : ℕ) → Type 0
IsOf edges s label next =
    (e : Edge) × Among edges e × (e.from ≡ s) × (e.label ≡ label) × (e.to ≡ next)

of_step : (s : ℕ) (edges : List Edge) (label : List Literal) (next : ℕ) → Among (edges_from s edges) (label, next)
    → IsOf edges s label next
of_step s [] label next h = absurd h
of_step s (d ∷ edges) label next h =
    elim (told (leaves s d)) [
      | inl holds ↦ elim (subst (λ (b : Bool). Among (map step_of (cond b (d ∷ rest) rest)) (label, next)) holds h) [
        | inl same ↦ (
          d,
          inl refl,
          (Decides-eqb d.from s).0 holds,
          ap (λ (p : List Literal × ℕ). p.0) same,
          ap (λ (p : List Literal × ℕ). p.1) same,
        )
        | inr more ↦ further (of_step s edges label next more)
      ]
      | inr fails ↦ further (of_step s edges label next
          (subst (λ (b : Bool). Among (map step_of (cond b (d ∷ rest) rest)) (label, next)) fails h))
    ]
  where
    rest : List Edge
    rest = filter (leaves s) edges

    further : IsOf edges s label next → IsOf (d ∷ edges) s label next
    further x = (x.0, inr x.1, x.2, x.3, x.4)

to_step : (edges : List Edge) (e : Edge) → Among edges e → Among (edges_from e.from edges) (e.label, e.to)
to_step [] e h = absurd h
to_step (d ∷ edges) e (inl same) =
    subst (λ (x : Edge). Among (edges_from x.from (d ∷ edges)) (x.label, x.to)) same
    (subst (λ (b : Bool). Among (map step_of (cond b (d ∷ rest) rest)) (d.label, d.to))
    (sym ((Decides-eqb d.from d.from).1 refl)) (inl refl))
  where
    rest : List Edge
    rest = filter (leaves d.from) edges
to_step (d ∷ edges) e (inr h) =
    elim (told (leaves e.from d)) [
      | inl holds ↦ subst (λ (b : Bool). Among (map step_of (cond b (d ∷ rest) rest)) (e.label, e.to)) (sym holds)
          (inr (to_step edges e h))
      | inr fails ↦ subst (λ (b : Bool). Among (map step_of (cond b (d ∷ rest) rest)) (e.label, e.to)) (sym fails)
          (to_step edges e h)
    ]
  where
    rest : List Edge
    rest = filter (leaves e.from) edges

-- ---- paths

-- an edge leads from s to t under a label that the letter passes
abbrev pub EdgeSteps : (edges : List Edge) → (ℕ → Letter) → (s t n : ℕ) → Type 0
EdgeSteps edges letter s t n =
    (e : Edge) × Among edges e × (e.from ≡ s) × (e.to ≡ t) × Passes e.label (letter n)

-- each edge leads from a state to a state
abbrev pub AreBetween : (states : ℕ) → List Edge → Type 0
AreBetween states edges = All (λ e. e.from < states × e.to < states) edges

ends : (states : ℕ) (edges : List Edge) → AreBetween states edges → (e : Edge) → Among edges e
    → e.from < states × e.to < states
ends states edges between e in_ =
    All-contains (λ e. e.from < states × e.to < states) edges e between (among_contains edges e in_)

pub edges_step : (states : ℕ) (edges : List Edge) (letter : ℕ → Letter) (live : ℕ → Stream) (t n : ℕ)
    → AreBetween states edges
    → Arrives edges live (letter n) t n
    ↔ ((s : ℕ) × (s < states) × (On (live s) n × EdgeSteps edges letter s t n))
edges_step states edges letter live t n between = (
  (λ a. (a.0.from, (ends states edges between a.0 a.1).0, (a.2.1, (a.0, a.1, refl, a.2.0, a.2.2)))),
  (λ x. let e = x.2.1 in
      (e.0, e.1, (e.3, subst (λ (s : ℕ). On (live s) n) (sym e.2) x.2.0, e.4))),
)

module _ (g : Graph) (letter : ℕ → Letter) where
  -- a path leads from s to an accepting state
  abbrev Leads : (s i count : ℕ) → Type 0
  Leads s i count =
      (t : ℕ) × (t < length g.accepting) × (IsTrue (get_or g.accepting t false)
      × Path (length g.accepting) (EdgeSteps g.edges letter) s t i count)

  step_at : (s next i : ℕ) (label : List Literal) → Contains (edges_from s g.edges) (label, next)
      → Passes label (letter i) → EdgeSteps g.edges letter s next i
  step_at s next i label in_ passes =
      let e = of_step s g.edges label next (contains_among (edges_from s g.edges) (label, next) in_) in
      (e.0, e.1, e.2, e.4, subst (λ (l : List Literal). Passes l (letter i)) (sym e.3) passes)

  step_there : (s next i : ℕ) → EdgeSteps g.edges letter s next i
      → (label : List Literal) × Contains (edges_from s g.edges) (label, next) × Passes label (letter i)
  step_there s next i (e, in_, from, to, passes) = (
    e.label,
    among_contains (edges_from s g.edges) (e.label, next)
        (subst (λ (r : ℕ). Among (edges_from r g.edges) (e.label, next)) from
        (subst (λ (u : ℕ). Among (edges_from e.from g.edges) (e.label, u)) to (to_step g.edges e in_))),
    passes,
  )

  inside : AreBetween (length g.accepting) g.edges → (s t i : ℕ) → EdgeSteps g.edges letter s t i
      → t < length g.accepting
  inside between s t i (e, in_, from, to, passes) =
      subst (λ (u : ℕ). u < length g.accepting) to (ends (length g.accepting) g.edges between e in_).1

  leads : AreBetween (length g.accepting) g.edges → (count s i : ℕ)
      → AcceptsFrom (graph_machine g) s (cycles_from letter i (suc count)) → Leads s i count
  leads between zero s i (label, next, in_, passes, last) =
      let step = step_at s next i label in_ passes in
      (next, inside between s next i step, (last, step))
  leads between (suc count) s i (label, next, in_, passes, more) =
      let step = step_at s next i label in_ passes in
      let r = leads between count next (suc i) more in
      (r.0, r.1, (r.2.0, (next, inside between s next i step, (step, r.2.1))))

  accepts : (count s i : ℕ) → Leads s i count → AcceptsFrom (graph_machine g) s (cycles_from letter i (suc count))
  accepts zero s i (t, lt, (last, step)) =
      let e = step_there s t i step in (e.0, t, e.1, e.2, last)
  accepts (suc count) s i (t, lt, (last, (u, below, (step, path)))) =
      let e = step_there s u i step in (e.0, u, e.1, e.2, accepts count u (suc i) (t, lt, (last, path)))

  pub detects : AreBetween (length g.accepting) g.edges → (start clear : Stream) (n : ℕ) (found : Type 0)
      (arrive : ℕ → Type 0)
      → found ↔ ((s : ℕ) × (s < length g.accepting) × (IsTrue (get_or g.accepting s false) × arrive s))
      → ((t : ℕ) → t < length g.accepting
      → arrive t ↔ Comes (length g.accepting) (EdgeSteps g.edges letter) start clear t n)
      → found ↔ IsDetected (graph_machine g) letter start clear n
  detects between start clear n found arrive finds arrives = (
    (λ on. let f = finds.0 on in
        let x = (arrives f.0 f.1).0 f.2.1 in
        let i : ℕ = x.0 in
        let e : suc (n - i) ≡ suc n - i = omega (arith, x.1) in (
          i,
          x.1,
          x.2,
          (
            x.3.0,
            subst (λ (k : ℕ). Accepts (graph_machine g) (cycles_from letter i k)) e
                (accepts (n - i) 0 i (f.0, f.1, (f.2.0, x.3.1))),
          ),
        )),
    (λ x. let i : ℕ = x.0 in
        let e : suc n - i ≡ suc (n - i) = omega (arith, x.1) in
        let r = leads between (n - i) 0 i
        (subst (λ (k : ℕ). Accepts (graph_machine g) (cycles_from letter i k)) e x.3.1) in
        finds.1 (r.0, r.1, (r.2.0, (arrives r.0 r.1).1 (i, x.1, x.2, (x.3.0, r.2.1))))),
  )
