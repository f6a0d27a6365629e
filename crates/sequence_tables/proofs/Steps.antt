-- The edges of a sequence's table are its steps.
use Rattle.std.proofs.Common.{◌≡◌, ◌↔◌, ◌≢◌, ◌∙◌, refl, sym, ap, subst, ℕ, ◌≤◌, Bool, true, false, cond}
use Rattle.std.proofs.Common.{List, [], ◌∷◌, ◌++◌, map, length, Some, slice_get, inl, inr, ◌⊎◌, arith}
use Rattle.std.proofs.Common.{Contains}
use Rattle.std.specs.Prelude.{Any}
use Rattle.std.proofs.lemmas.List.{length-map}
use Rattle.std.proofs.lemmas.Option.{same_Some, slice_get-get_or}
use Rattle.psl_model.specs.Expr.{Expr}
use Rattle.psl_meaning.specs.Sequence.{CoreSere, bool, empty, concat, fuse, or, both, star}
use Rattle.sequence_cores.specs.PlaceGraph.{Place, start_of, accepts, Step, places_in}
use Rattle.symbol_alphabet.specs.Symbols.{label_in, place_in, HasSymbol, needs_none, stripped, is_positive}
use Rattle.auto_core.specs.declared.labels.Literal.{Literal}
use Rattle.auto_core.specs.declared.tables.Edge.{Edge}
use Rattle.auto_core.specs.Graph.{Graph}
use Rattle.auto_core.specs.LiteralSets.{IsLabel, put_all}
use Rattle.sequence_tables.specs.PlaceTable.{ReachedBy, by_step, IsPartOf, IsPlaceTable, joined_label}
use Rattle.sequence_tables.specs.Steps.{BooleanLiteral, LabelledStep, literals_of, IsSameStep, Reading, IsReachedStep}
use Rattle.sequence_tables.specs.Steps.{AreSteps, HasSteps}
use Rattle.sequence_tables.specs.inner.Built.{HasSymbols}
use Rattle.sequence_tables.proofs.Counting.{Pairwise, Pairwise-from_AllPairs, AllPairs-from_Pairwise, no_more, chosen}
use Rattle.sequence_tables.proofs.Counting.{chosen_length, chosen_back, chosen_there, chosen_pairwise}
use Rattle.sequence_tables.proofs.LabelSets.{same_label, put_append}
use Rattle.sequence_tables.proofs.Members.{Among, Apart, Apart-from_AllPairs, Contains-from_Among, Among-from_Contains}
use Rattle.sequence_tables.proofs.Members.{Among-slice_get, Among-map, map-Among, map-append, one_place}
use Rattle.sequence_tables.proofs.Members.{All-from_among, Among-append}
use Rattle.sequence_tables.proofs.StepLabels.{Suits, suits_back, steps_suit, reached_suits, reached_place}

-- ---- no more states than places

pub few_states : (label : Expr → List Literal) (r : CoreSere) (g : Graph) → IsPlaceTable label r g →
    length g.accepting ≤ length (places_in r)
few_states label r g (places, part) =
    let fewer : length places ≤ length (places_in r) =
    no_more (λ (p q : Place). p ≡ q) places (places_in r)
    (apart places (Pairwise-from_AllPairs (λ (p q : Place). p ≢ q) places part.different))
    (λ p k. (
      p,
      reached_place label joined_label r p ((part.reached p).0 (Contains-from_Among places p k)),
      refl,
    )) in
    omega (arith, fewer, ap (λ (s : List Bool). length s) part.accepts, length-map places (accepts r))
  where
    apart : (xs : List Place) → Pairwise (λ p q. p ≢ q) xs →
        Pairwise (λ p q. (y : Place) → p ≡ y → q ≡ y → ⊥) xs
    apart [] h = tt
    apart (x ∷ xs) h = ((λ z k y e f. h.0 z k (e ∙ sym f)), apart xs h.1)

-- ---- one number of steps

same_step : (s t u : LabelledStep) → IsSameStep s u → IsSameStep t u → IsSameStep s t
same_step s t u a b = (
  a.0 ∙ sym b.0,
  a.1 ∙ sym b.1,
  λ l. ((λ h. (b.2 l).1 ((a.2 l).0 h)), (λ h. (a.2 l).1 ((b.2 l).0 h))),
)

pub found : (P : LabelledStep → Type 0) (xs : List LabelledStep) → Any P xs →
    (x : LabelledStep) × Among xs x × P x
found P xs h = (h.1, Among-from_Contains xs h.1 (h.0, h.2, h.3), h.4)

as_few : (r : CoreSere) (steps others : List LabelledStep) → AreSteps r steps → AreSteps r others →
    length steps ≤ length others
as_few r steps others a b =
    no_more IsSameStep steps others
    (apart steps (Pairwise-from_AllPairs (λ (s t : LabelledStep). ¬ IsSameStep s t) steps a.once))
    (λ s k. found (IsSameStep s) others (b.every s (All-at s k)))
  where
    apart : (xs : List LabelledStep) → Pairwise (λ s t. ¬ IsSameStep s t) xs →
        Pairwise (λ s t. (u : LabelledStep) → IsSameStep s u → IsSameStep t u → ⊥) xs
    apart [] h = tt
    apart (x ∷ xs) h = ((λ t k u e f. h.0 t k (same_step x t u e f)), apart xs h.1)

    All-at : (s : LabelledStep) → Among steps s → IsReachedStep r s
    All-at s k =
        let at = Contains-from_Among steps s k in
        subst (IsReachedStep r) at.2 (a.each at.0 s at.1)

pub one_number : (r : CoreSere) (k l : ℕ) → HasSteps r k → HasSteps r l → k ≡ l
one_number r k l (steps, a, e) (others, b, f) =
    omega (arith, as_few r steps others a b, as_few r others steps b a, e, f)

-- ---- the literals of labels

abbrev first_symbol : List Literal → ℕ
first_symbol [] = 0
first_symbol (l ∷ ls) = l.symbol

module _ (symbols : List Expr) where
  -- a literal and a label by the numbers of the symbols
  abbrev code : BooleanLiteral → Literal
  code l = record { symbol = place_in symbols l.expr; positive = l.positive }

  abbrev read : List BooleanLiteral → List Literal
  read y = put_all (map code y) []

  -- the expression of each literal is a symbol
  abbrev Known : List BooleanLiteral → Type 0
  Known y = (l : BooleanLiteral) → Among y l → slice_get symbols (place_in symbols l.expr) ≡ Some l.expr

  abbrev pub Reads : List BooleanLiteral → List Literal → Type 0
  Reads y x = (read y ≡ x) × Known y

  -- ---- the label of a Boolean

  reads_by : (b : Bool) (e : Expr) →
      (b ≡ false → slice_get symbols (place_in symbols (stripped e)) ≡ Some (stripped e)) →
      Reads (cond b [] (record { expr = stripped e; positive = is_positive e } ∷ []))
      (cond b [] (record { symbol = place_in symbols (stripped e); positive = is_positive e } ∷ []))
  reads_by true e h = (refl, λ l k. absurd k)
  reads_by false e h = (
    refl,
    (λ l k. elim k [
      | inl same ↦ subst (λ (x : BooleanLiteral). slice_get symbols (place_in symbols x.expr) ≡ Some x.expr) same
          (h refl)
      | inr none ↦ absurd none
    ]),
  )

  same_symbol : (m n : ℕ) (p : Bool) → ◌≡◌ {A = List Literal} (record { symbol = m; positive = p } ∷ [])
      (record { symbol = n; positive = p } ∷ []) → m ≡ n
  same_symbol m n p e = ap first_symbol e

  module _ (one : (symbols : List Expr) (e : Expr) → HasSymbol symbols e → needs_none e ≡ false →
      (n : ℕ) × (slice_get symbols n ≡ Some (stripped e)) ×
      (label_in symbols e ≡ record { symbol = n; positive = is_positive e } ∷ [])) where
    numbered : (e : Expr) → HasSymbol symbols e → needs_none e ≡ false →
        slice_get symbols (place_in symbols (stripped e)) ≡ Some (stripped e)
    numbered e has some =
        let (n, there, is) = one symbols e has some in
        let here : Literal = record { symbol = place_in symbols (stripped e); positive = is_positive e } in
        let label : label_in symbols e ≡ here ∷ [] = ap (λ (b : Bool). cond b [] (here ∷ [])) some in
        let same : place_in symbols (stripped e) ≡ n =
        same_symbol (place_in symbols (stripped e)) n (is_positive e) (sym label ∙ is) in
        subst (λ (k : ℕ). slice_get symbols k ≡ Some (stripped e)) (sym same) there

    pub reads_suit : (r : CoreSere) → HasSymbols symbols r →
        Suits literals_of (λ x y. x ++ y) (label_in symbols) joined_label Reads r
    reads_suit (bool b) h = reads_by (needs_none b) b (numbered b h)
    reads_suit empty h = tt
    reads_suit (concat r s) h = (reads_suit r h.0, reads_suit s h.1)
    reads_suit (fuse r s) h = (reads_suit r h.0, reads_suit s h.1)
    reads_suit (or r s) h = (reads_suit r h.0, reads_suit s h.1)
    reads_suit (both r s) h = (reads_suit r h.0, reads_suit s h.1)
    reads_suit (star r) h = reads_suit r h

  -- ---- labels that are read together, and labels with the same literals

  pub reads_joined :
      ((ys xs zs : List Literal) → put_all (put_all ys xs) zs ≡ put_all ys (put_all xs zs)) →
      (y z : List BooleanLiteral) (x w : List Literal) → Reads y x → Reads z w → Reads (y ++ z) (joined_label x w)
  reads_joined joined y z x w a b =
      let parts : read (y ++ z) ≡ put_all (map code z) (read y) =
      ap (λ (s : List Literal). put_all s []) (map-append code y z) ∙ put_append (map code y) (map code z) [] in
      let whole : put_all (read z) (read y) ≡ put_all (map code z) (read y) = joined (map code z) [] (read y) in
      let ends : put_all (read z) (read y) ≡ put_all w x = λ i. put_all (b.0 i) (a.0 i) in (
        parts ∙ sym whole ∙ ends,
        (λ l k. elim (Among-append y z l k) [ inl h ↦ a.1 l h | inr h ↦ b.1 l h ]),
      )

  module _ (members : (ls ms : List Literal) (l : Literal) →
      Contains (put_all ls ms) l ↔ (Contains ls l ⊎ Contains ms l)) where
    to_read : (y : List BooleanLiteral) (x : Literal) → Among (map code y) x → Among (read y) x
    to_read y x k =
        Among-from_Contains (read y) x ((members (map code y) [] x).1 (inl (Contains-from_Among (map code y) x k)))

    from_read : (y : List BooleanLiteral) (x : Literal) → Among (read y) x → Among (map code y) x
    from_read y x k =
        elim ((members (map code y) [] x).0 (Contains-from_Among (read y) x k)) [
          | inl h ↦ Among-from_Contains (map code y) x h
          | inr h ↦ absurd (Among-from_Contains [] x h)
        ]

    same_literal : (l m : BooleanLiteral) → slice_get symbols (place_in symbols l.expr) ≡ Some l.expr →
        slice_get symbols (place_in symbols m.expr) ≡ Some m.expr → code l ≡ code m → l ≡ m
    same_literal l m h k e =
        let place : place_in symbols l.expr ≡ place_in symbols m.expr = ap (λ (x : Literal). x.symbol) e in
        let expr : l.expr ≡ m.expr =
        same_Some l.expr m.expr (sym h ∙ ap (λ (n : ℕ). slice_get symbols n) place ∙ k) in
        let positive : l.positive ≡ m.positive = ap (λ (x : Literal). x.positive) e in
        (λ i. record { expr = expr i; positive = positive i })

    same_literals : (y z : List BooleanLiteral) → Known y → Known z → read y ≡ read z → (l : BooleanLiteral) →
        Contains y l → Contains z l
    same_literals y z known seen e l h =
        let here : Among y l = Among-from_Contains y l h in
        let there : Among (read z) (code l) =
        subst (λ (s : List Literal). Among s (code l)) e (to_read y (code l) (Among-map code y l here)) in
        let (m, k, f) = map-Among code z (code l) (from_read z (code l) there) in
        let same : m ≡ l = same_literal m l (seen m k) (known l here) f in
        subst (Contains z) same (Contains-from_Among z m k)

    moved : (y z : List BooleanLiteral) → ((l : BooleanLiteral) → Contains y l → Contains z l) → (x : Literal) →
        Among (read y) x → Among (read z) x
    moved y z f x k =
        let (l, h, e) = map-Among code y x (from_read y x k) in
        let there : Among z l = Among-from_Contains z l (f l (Contains-from_Among y l h)) in
        to_read z x (subst (Among (map code z)) e (Among-map code z l there))

    same_read : ((ls ms : List Literal) → IsLabel ms → IsLabel (put_all ls ms)) → (y z : List BooleanLiteral) →
        ((l : BooleanLiteral) → Contains y l ↔ Contains z l) → read y ≡ read z
    same_read ordered y z f =
        same_label (read y) (read z) (ordered (map code y) [] tt) (ordered (map code z) [] tt)
        (moved y z (λ l. (f l).0)) (moved z y (λ l. (f l).1))

-- ---- the steps of a table

module _ (symbols : List Expr)
    (one : (symbols : List Expr) (e : Expr) → HasSymbol symbols e → needs_none e ≡ false →
    (n : ℕ) × (slice_get symbols n ≡ Some (stripped e)) ×
    (label_in symbols e ≡ record { symbol = n; positive = is_positive e } ∷ []))
    (members : (ls ms : List Literal) (l : Literal) → Contains (put_all ls ms) l ↔ (Contains ls l ⊎ Contains ms l))
    (ordered : (ls ms : List Literal) → IsLabel ms → IsLabel (put_all ls ms))
    (joined : (ys xs zs : List Literal) → put_all (put_all ys xs) zs ≡ put_all ys (put_all xs zs))
    (r : CoreSere) (has : HasSymbols symbols r) where
  abbrev Numbered : Place → List Literal → Place → Type 0
  Numbered = Step (label_in symbols) joined_label r

  to_numbers : (p : Place) (y : List BooleanLiteral) (q : Place) → Reading r p y q →
      (x : List Literal) × Numbered p x q × Reads symbols y x
  to_numbers =
      steps_suit literals_of (λ x y. x ++ y) (label_in symbols) joined_label (Reads symbols)
      (reads_joined symbols joined) r (reads_suit symbols one r has)

  from_numbers : (p : Place) (x : List Literal) (q : Place) → Numbered p x q →
      (y : List BooleanLiteral) × Reading r p y q × Reads symbols y x
  from_numbers =
      steps_suit (label_in symbols) joined_label literals_of (λ x y. x ++ y) (λ x y. Reads symbols y x)
      (λ x w y z a b. reads_joined symbols joined y z x w a b) r
      (suits_back literals_of (λ x y. x ++ y) (label_in symbols) joined_label (Reads symbols) r
      (reads_suit symbols one r has))

  module _ (g : Graph) (places : List Place) (part : IsPartOf (start_of r) (accepts r) Numbered places g) where
    abbrev Matches : Edge → LabelledStep → Type 0
    Matches e s =
        (slice_get places e.from ≡ Some s.from) × (slice_get places e.to ≡ Some s.to) × Reads symbols s.label e.label
        × IsReachedStep r s

    step_of : (e : Edge) → Among g.edges e → (s : LabelledStep) × Matches e s
    step_of e h =
        let (p, q, from, to, step) = (part.edges e).0 (Contains-from_Among g.edges e h) in
        let (y, reading, reads) = from_numbers p e.label q step in
        let there : ReachedBy (start_of r) Numbered p =
        (part.reached p).0 (Contains-from_Among places p (Among-slice_get places e.from p from)) in
        let reached : ReachedBy (start_of r) (Reading r) p =
        reached_suits (start_of r) Numbered (Reading r)
        (λ p x q k. let t = from_numbers p x q k in (t.0, t.1)) p there in
        (record { from = p; label = y; to = q }, (from, to, reads, (reached, reading)))

    stands_at : (p : Place) → ReachedBy (start_of r) Numbered p → (i : ℕ) × (slice_get places i ≡ Some p)
    stands_at p h =
        let (i, lt, e) = (part.reached p).1 h in (i, slice_get-get_or places i p lt ∙ ap (λ (q : Place). Some q) e)

    edge_of : (s : LabelledStep) → IsReachedStep r s →
        (e : Edge) × Among g.edges e × (slice_get places e.from ≡ Some s.from) × (slice_get places e.to ≡ Some s.to)
        × Reads symbols s.label e.label
    edge_of s h =
        let (x, step, reads) = to_numbers s.from s.label s.to h.1 in
        let reached : ReachedBy (start_of r) Numbered s.from =
        reached_suits (start_of r) (Reading r) Numbered
        (λ p y q k. let t = to_numbers p y q k in (t.0, t.1)) s.from h.0 in
        let (i, from) = stands_at s.from reached in
        let (j, to) = stands_at s.to (by_step x s.to reached step) in
        let e : Edge = record { from = i; label = x; to = j } in
        (e, Among-from_Contains g.edges e ((part.edges e).1 (s.from, s.to, from, to, step)), from, to, reads)

    apart : Apart places
    apart = Apart-from_AllPairs places part.different

    same_edge : (d e : Edge) (s t : LabelledStep) → Matches d s → Matches e t → IsSameStep s t → d ≡ e
    same_edge d e s t m n same =
        let from : d.from ≡ e.from =
        one_place places d.from e.from s.from apart m.0 (n.0 ∙ ap (λ (p : Place). Some p) (sym same.0)) in
        let to : d.to ≡ e.to =
        one_place places d.to e.to s.to apart m.1 (n.1 ∙ ap (λ (p : Place). Some p) (sym same.1)) in
        let label : d.label ≡ e.label =
        sym m.2.0 ∙ same_read symbols members ordered s.label t.label same.2 ∙ n.2.0 in
        (λ i. record { from = from i; label = label i; to = to i })

    abbrev listed : List LabelledStep
    listed = chosen Matches g.edges step_of

    table_has_steps : HasSteps r (length g.edges)
    table_has_steps = (
      listed,
      record {
        each = All-from_among (IsReachedStep r) listed
            (λ s k. (chosen_back Matches g.edges step_of s k).2.3);
        every = λ s h.
            let (e, k, from, to, reads) = edge_of s h in
            let (t, l, m) = chosen_there Matches g.edges step_of e k in
            let labels : read symbols s.label ≡ read symbols t.label = reads.0 ∙ sym m.2.0 in
            let same : IsSameStep s t = (
              same_Some s.from t.from (sym from ∙ m.0),
              same_Some s.to t.to (sym to ∙ m.1),
              (λ x. (
                same_literals symbols members s.label t.label reads.1 m.2.1 labels x,
                same_literals symbols members t.label s.label m.2.1 reads.1 (sym labels) x,
              )),
            ) in
            let at = Contains-from_Among listed t l in
            (at.0, t, at.1, at.2, same);
        once = AllPairs-from_Pairwise (λ (s t : LabelledStep). ¬ IsSameStep s t) listed
            (chosen_pairwise Matches (λ (d e : Edge). d ≢ e) (λ (s t : LabelledStep). ¬ IsSameStep s t)
            (λ d e s t other m n same. other (same_edge d e s t m n same)) g.edges step_of
            (Pairwise-from_AllPairs (λ (d e : Edge). d ≢ e) g.edges part.once));
      },
      chosen_length Matches g.edges step_of,
    )

  pub edges_are_steps : (g : Graph) → IsPlaceTable (label_in symbols) r g → HasSteps r (length g.edges)
  edges_are_steps g (places, part) = table_has_steps g places part
