-- What a table accepts of what the guards show is what the sequence's letters tightly satisfy.
use Rattle.std.specs.Prelude.{ℕ, zero, suc, ◌≡◌, ◌≢◌, ◌↔◌, ◌<◌, ◌≤◌, ◌+◌, ◌-◌, ◌==◌, Bool, true, false, List, []}
use Rattle.std.specs.Prelude.{◌∷◌, ◌++◌, Some, All, map, filter, take, drop, length, slice_get}
use Rattle.std.proofs.Common.{refl, sym, ap, ◌∙◌, subst, arith, get_or, cond}
use Rattle.std.proofs.Math.Seq.{drop-cons}
use Rattle.std.proofs.lemmas.List.{append-nil}
use Rattle.std.proofs.lemmas.Option.{slice_get-get_or}
use Rattle.std.specs.List.{AllByRecursion}
use Rattle.psl_model.specs.Expr.{Expr}
use Rattle.psl_model.specs.Sere.{Sere}
use Rattle.psl_meaning.specs.Sequence.{CoreSere, Tight}
use Rattle.psl_meaning.specs.SequenceSugar.{core_of}
use Rattle.psl_meaning.specs.Word.{Valuation, valuation, bottom}
use Rattle.psl_meaning.specs.Word as word
use Rattle.auto_core.specs.declared.labels.Literal.{Literal}
use Rattle.auto_core.specs.declared.tables.Edge.{Edge}
use Rattle.auto_core.specs.Graph.{Graph, graph_machine, edges_from}
use Rattle.auto_core.specs.Machine.{Letter, Accepts, AcceptsFrom, value_in}
use Rattle.symbol_alphabet.specs.Symbols.{truths, seen_by}
use Rattle.sequence_tables.specs.Words.{AcceptsTight}
use Rattle.circuit_core.specs.Run.{Stream, Run}
use Rattle.sequence_circuits.specs.Guards.{values_at, cycles_from}
use Rattle.sequence_circuits.specs.Detection.{letter_at, IsDetected}
use Rattle.sequence_matches.specs.Matches.{letters, IsMatched}

-- ---- what acceptance depends on

module _ (k : ℕ) where
  -- the label speaks of the first symbols alone
  abbrev Below : List Literal → Type 0
  Below label = All (λ l. l.symbol < k) label

  -- the values agree at the first symbols
  abbrev Agree : (ℕ → Bool) → (ℕ → Bool) → Type 0
  Agree v u = (s : ℕ) → s < k → v s ≡ u s

  pub passes_same : (v u : ℕ → Bool) → Agree v u → (label : List Literal) → Below label →
      AllByRecursion (λ l. v l.symbol ≡ l.positive) label → AllByRecursion (λ l. u l.symbol ≡ l.positive) label
  passes_same v u same [] below h = tt
  passes_same v u same (l ∷ ls) below h = (
    sym (same l.symbol (below 0 l (omega arith))) ∙ h.0,
    passes_same v u same ls (λ j d lt. below (suc j) d (omega (arith, lt))) h.1,
  )

  -- the labels and targets of some edges
  abbrev pairs_of : List Edge → List (List Literal × ℕ)
  pairs_of edges = map (λ (e : Edge). (e.label, e.to)) edges

  edge_below : (s : ℕ) (edges : List Edge) → All (λ e. Below e.label) edges → (label : List Literal) (next : ℕ)
      (d : List Literal × ℕ) (place : ℕ) → place < length (edges_from s edges) →
      get_or (edges_from s edges) place d ≡ (label, next) → Below label
  edge_below s [] all label next d place lt is = absurd (omega (arith, lt))
  edge_below s (e ∷ edges) all label next d place lt is =
      cases (e.from == s) (edge_below s edges (λ j x more. all (suc j) x (omega (arith, more))) label next d) place lt is
    where
      cases : (b : Bool) → ((place : ℕ) → place < length (edges_from s edges) →
          get_or (edges_from s edges) place d ≡ (label, next) → Below label) → (place : ℕ) →
          place < length (pairs_of (cond b (e ∷ filter (λ x. x.from == s) edges) (filter (λ x. x.from == s) edges))) →
          get_or (pairs_of (cond b (e ∷ filter (λ x. x.from == s) edges) (filter (λ x. x.from == s) edges))) place d
          ≡ (label, next) → Below label
      cases true rest zero lt is = subst Below (ap (λ (x : List Literal × ℕ). x.0) is) (all 0 e (omega arith))
      cases true rest (suc place) lt is = rest place (omega (arith, lt)) is
      cases false rest place lt is = rest place lt is

  module _ (g : Graph) (numbered : All (λ e. Below e.label) g.edges) (a b : ℕ → ℕ → Bool) where
    -- what two lists of letters show of the first symbols decides
    accepts_same : (s i count : ℕ) → ((j : ℕ) → i ≤ j → j < i + count → Agree (a j) (b j)) →
        AcceptsFrom (graph_machine g) s (cycles_from (λ j. Some (a j)) i count) →
        AcceptsFrom (graph_machine g) s (cycles_from (λ j. Some (b j)) i count)
    accepts_same s i zero same h = h
    accepts_same s i (suc count) same h = (
      h.0,
      h.1,
      h.2,
      passes_same (a i) (b i) (same i (omega arith) (omega arith)) h.0
          (edge_below s g.edges numbered h.0 h.1 (h.0, h.1) h.2.0 h.2.1 h.2.2) h.3,
      accepts_same h.1 (suc i) count (λ j low high. same j (omega (arith, low)) (omega (arith, high))) h.4,
    )

-- ---- letters

real : (vs : List Valuation) → All (λ a. a ≢ bottom) (map valuation vs)
real [] k d lt = absurd (omega (arith, lt))
real (v ∷ vs) zero d lt = λ e. absurd (cc)
real (v ∷ vs) (suc k) d lt = real vs k d (omega (arith, lt))

cycles_are : (f : word.Letter → Letter) (trace : List Valuation) (i count : ℕ) → i + count ≤ length trace →
    map f (map valuation (take count (drop i trace)))
    ≡ cycles_from (λ j. f (valuation (get_or trace j []))) i count
cycles_are f trace i zero lt = refl
cycles_are f trace i (suc count) lt =
    ap (λ (vs : List Valuation). map f (map valuation (take (suc count) vs)))
    (drop-cons trace i [] (omega (arith, lt)))
    ∙ ap (λ (w : List Letter). f (valuation (get_or trace i [])) ∷ w)
    (cycles_are f trace (suc i) count (omega (arith, lt)))

module _ (widths : List ℕ) (symbols : List Expr) (g : Graph) (r : Sere)
    (numbered : All (λ e. All (λ l. l.symbol < length symbols) e.label) g.edges)
    (words : (widths : List ℕ) (w : List word.Letter) → All (λ a. a ≢ bottom) w →
    Accepts (graph_machine g) (map (seen_by widths symbols) w) ↔ Tight widths (core_of r) w)
    (trace : List Valuation) (run : Run) (guards : List ℕ)
    (shown : (n : ℕ) (values : List ℕ) → slice_get trace n ≡ Some values → (s : ℕ) → s < length symbols →
    values_at run guards n s ≡ value_in (truths widths symbols values) s) where
  -- what the symbols show of a cycle
  abbrev seen : ℕ → ℕ → Bool
  seen j = value_in (truths widths symbols (get_or trace j []))

  agree : (i n : ℕ) → n < length trace → i ≤ n → (j : ℕ) → i ≤ j → j < i + (suc n - i) →
      Agree (length symbols) (values_at run guards j) (seen j)
  agree i n lt le j low high s below =
      shown j (get_or trace j []) (slice_get-get_or trace j [] (omega (arith, lt, le, low, high))) s below

  whole : (i n : ℕ) → n < length trace → i ≤ n →
      map (seen_by widths symbols) (map valuation (letters trace i n))
      ≡ cycles_from (λ j. Some (seen j)) i (suc n - i)
  whole i n lt le = cycles_are (seen_by widths symbols) trace i (suc n - i) (omega (arith, lt, le))

  matched_from : (i n : ℕ) → n < length trace → i ≤ n →
      AcceptsFrom (graph_machine g) 0 (cycles_from (letter_at run guards) i (suc n - i)) ↔
      Tight widths (core_of r) (map valuation (letters trace i n))
  matched_from i n lt le =
      let law = words widths (map valuation (letters trace i n)) (real (letters trace i n)) in (
        (λ h. law.0 (subst (AcceptsFrom (graph_machine g) 0) (sym (whole i n lt le))
            (accepts_same (length symbols) g numbered (values_at run guards) seen 0 i (suc n - i)
            (agree i n lt le) h))),
        (λ h. accepts_same (length symbols) g numbered seen (values_at run guards) 0 i (suc n - i)
            (λ j low high s below. sym (agree i n lt le j low high s below))
            (subst (AcceptsFrom (graph_machine g) 0) (whole i n lt le) (law.1 h))),
      )

  pub matched : (start clear : Stream) (n : ℕ) → n < length trace →
      IsDetected (graph_machine g) (letter_at run guards) start clear n ↔ IsMatched widths trace r start clear n
  matched start clear n lt = (
    (λ h. (h.0, h.1, h.2, (h.3.0, (matched_from h.0 n lt h.1).0 h.3.1))),
    (λ h. (h.0, h.1, h.2, (h.3.0, (matched_from h.0 n lt h.1).1 h.3.1))),
  )

-- a table of the sequence as it is counted is one of the sequence
pub table_words : (symbols : List Expr) (core s : CoreSere) (g : Graph) →
    ((later : List Expr) → AcceptsTight (symbols ++ later) core g) →
    ((widths : List ℕ) (w : List word.Letter) → Tight widths core w ↔ Tight widths s w) →
    (widths : List ℕ) (w : List word.Letter) → All (λ a. a ≢ bottom) w →
    Accepts (graph_machine g) (map (seen_by widths symbols) w) ↔ Tight widths s w
table_words symbols core s g law same widths w all =
    let now : AcceptsTight symbols core g =
    subst (λ (z : List Expr). AcceptsTight z core g) (append-nil symbols) (law []) in
    let here = now widths w all in
    let there = same widths w in
    ((λ h. there.0 (here.0 h)), (λ h. here.1 (there.1 h)))
