-- What is known at each call of the expansion, and when no set is left.
use Rattle.std.proofs.Common.{◌≡◌, ℕ, zero, suc, ◌<◌, ◌≤◌, ◌^◌, Bool, IsTrue, List, [], ◌∷◌, length}
use Rattle.std.proofs.Common.{map, get_or, slice_get, Some, Result, Ok, Err, IfOk, OnOk, All, AllPairs}
use Rattle.std.proofs.Common.{inl, inr, refl, sym, ap, ◌∙◌, subst, arith}
use Rattle.std.specs.List.{position_or_len}
use Rattle.std.proofs.lemmas.List.{take_all}
use Rattle.std.proofs.lemmas.Option.{same_Some}
use Rattle.indexmap.specs.IndexSet.{insert_key}
use Rattle.auto_core.specs.Machine.{Machine}
use Rattle.auto_core.specs.Graph.{Graph, graph_machine}
use Rattle.weak_determinise.proofs.Members.{Among, Contains-from_Among, Among-from_Contains, ByRecursion-among}
use Rattle.weak_determinise.proofs.Once.{AllPairs-from_Apart}
use Rattle.weak_determinise.proofs.Lists.{Among-map, All-from_among}
use Rattle.auto_core.specs.declared.labels.Literal.{Literal}
use Rattle.auto_core.specs.declared.tables.Edge.{Edge}
use Rattle.weak_determinise.specs.declared.marking.Steps.{Steps}
use Rattle.weak_determinise.specs.inner.Stepping.{steps_in, all_steps, IsGathered, AreSymbolsOf, AreRenamedLabels}
use Rattle.weak_determinise.specs.declared.sets.SetNode.{SetNode}
use Rattle.weak_determinise.specs.declared.sets.DetError.{DetError}
use Rattle.weak_determinise.specs.declared.sets.Move.{Move}
use Rattle.weak_determinise.specs.declared.sets.Move.TheVariants.{Empty, Accepting, Set}
use Rattle.weak_determinise.specs.inner.Numbers.{IsRising}
use Rattle.weak_determinise.specs.Nodes.{IsMove, IsNode, AreReachedSets}
use Rattle.weak_determinise.specs.inner.Stepping.{AreSteps}
use Rattle.weak_determinise.specs.inner.Moving.{same_places, AreMoves, IsFull}
use Rattle.weak_determinise.specs.ReachedSets.{HasSameStates, Gives, IsReachedSet, at_start}
use Rattle.weak_determinise.specs.ReachedSets.{IsTooLarge}
use Rattle.weak_determinise.specs.inner.Expanding.{Widens, TellsSet, IsNodeOf, IsTooLargeAt, IsPrepared}
use Rattle.weak_determinise.specs.inner.Expanding.{IsPartWay}
use Rattle.weak_determinise.proofs.Digits.{number_below}
use Rattle.weak_determinise.proofs.Closing.{symbols_leave, each, not_too_large}
use Rattle.weak_determinise.proofs.Expansion.{widens, node_made, too_large_at}
use Rattle.weak_determinise.proofs.Preparing.{prepared_by, different_sets}

abbrev OnceApart : List ℕ → Type 0
OnceApart [] = Unit {0}
OnceApart (x ∷ xs) = (Among xs x → ⊥) × OnceApart xs

rising-apart : (xs : List ℕ) → IsRising xs → OnceApart xs
rising-apart [] h = tt
rising-apart (x ∷ xs) h = (
  (λ k. let l : x < x = ByRecursion-among (λ y. x < y) xs x h.0 k in omega
      (arith, l)),
  rising-apart xs h.1,
)

at-index : (P : ℕ → Type 0) (xs : List ℕ) → ((x : ℕ) → Among xs x → P x) → (j d : ℕ) → j < length xs → P (get_or xs j d)
at-index P [] f j d lt = absurd (omega arith)
at-index P (x ∷ xs) f zero d lt = f x (inl refl)
at-index P (x ∷ xs) f (suc j) d lt = at-index P xs (λ y h. f y (inr h)) j d (omega arith)

pairs-below : (x : ℕ) (xs : List ℕ) → ((y : ℕ) → Among xs y → x < y) → AllPairs (λ x y. x < y) xs →
    AllPairs (λ x y. x < y) (x ∷ xs)
pairs-below x xs above rest zero zero d lt within = absurd (omega arith)
pairs-below x xs above rest zero (suc j) d lt within = at-index (λ y. x < y) xs above j d (omega arith)
pairs-below x xs above rest (suc i) zero d lt within = absurd (omega arith)
pairs-below x xs above rest (suc i) (suc j) d lt within = rest i j d (omega arith) (omega arith)

rising-pairs : (xs : List ℕ) → IsRising xs → AllPairs (λ x y. x < y) xs
rising-pairs [] h = λ i j d lt within. absurd (omega arith)
rising-pairs (x ∷ xs) h = pairs-below x xs (λ y k. ByRecursion-among (λ y. x < y) xs y h.0 k) (rising-pairs xs h.1)

pub ok_any : (P : Type 0) (r : Result SetNode DetError) → P → OnOk r P
ok_any P (Ok n) h = h
ok_any P (Err e) h = tt

pub made_of : (P Q R S : SetNode → Type 0) (r : Result SetNode DetError) → IfOk r P → IfOk r Q → IfOk r R →
    ((n : SetNode) → P n → Q n → R n → S n) → IfOk r S
made_of P Q R S (Ok n) p q s f = f n p q s
made_of P Q R S (Err e) p q s f = tt

pub prepared_from : (g : Graph) (edges : List Edge) → edges ≡ g.edges →
    All (λ e. e.from < length g.accepting × e.to < length g.accepting) edges →
    (set symbols symbols1 : List ℕ) (labels labels1 labels2 : List (List Literal)) (rows : List (List ℕ))
    (prepared : Steps) → IsGathered labels rows → AreSteps (graph_machine g) set (steps_in labels rows) →
    labels1 ≡ labels → AreSymbolsOf labels1 symbols → symbols1 ≡ symbols → labels2 ≡ labels →
    AreRenamedLabels symbols1 labels2 prepared.labels.items → prepared.rows.items ≡ rows →
    IsPrepared (graph_machine g) (length g.accepting) set symbols prepared
prepared_from g edges e between set symbols symbols1 labels labels1 labels2 rows prepared gathered are e1 known e2 e3
    renamed same =
    prepared_by g (subst (All (λ e. e.from < length g.accepting × e.to < length g.accepting)) e between) set symbols
    labels rows prepared gathered are (subst (λ (s : List (List Literal)). AreSymbolsOf s symbols) e1 known)
    (subst (λ (s : List (List Literal)). AreRenamedLabels symbols s prepared.labels.items) e3
    (subst (λ (s : List ℕ). AreRenamedLabels s labels2 prepared.labels.items) e2 renamed)) same

module _ (m : Machine ℕ) (n limit max_symbols : ℕ) (set symbols : List ℕ) (prepared : Steps)
    (p : IsPrepared m n set symbols prepared) where
  pub many_leave : (symbols1 : List ℕ) (names : List (List ℕ)) → symbols1 ≡ symbols → max_symbols < length symbols1 →
      IsTooLargeAt m limit max_symbols set names
  many_leave symbols1 names e many = inl (
    symbols,
    AllPairs-from_Apart symbols (rising-apart symbols p.known.rising),
    All-from_among _ symbols (λ x h.
        (symbols_leave m set p.steps symbols (all_steps prepared) p.are p.known p.same x).0
        (Contains-from_Among symbols x h)),
    subst (λ (s : List ℕ). max_symbols < length s) e many,
  )

  pub full_at : (symbols1 : List ℕ) (names : List (List ℕ)) → symbols1 ≡ symbols →
      IsFull m (all_steps prepared) (length symbols1) limit names → IsTooLargeAt m limit max_symbols set names
  full_at symbols1 names e full =
      too_large_at m set p.steps symbols (all_steps prepared) p.are p.known p.same limit max_symbols names
      (subst (λ (s : List ℕ). IsFull m (all_steps prepared) (length s) limit names) e full)

  moved : (symbols1 : List ℕ) (names names' : List (List ℕ)) (moves : List Move) → symbols1 ≡ symbols →
      AreMoves m (all_steps prepared) (length symbols1) limit (2 ^ length symbols1) names names' moves →
      AreMoves m (all_steps prepared) (length symbols) limit (2 ^ length symbols) names names' moves
  moved symbols1 names names' moves e are = subst
      (λ (s : List ℕ). AreMoves m (all_steps prepared) (length s) limit (2 ^ length s) names names' moves) e are

  pub widened : (symbols1 : List ℕ) (names names' : List (List ℕ)) (moves : List Move) → symbols1 ≡ symbols →
      AreMoves m (all_steps prepared) (length symbols1) limit (2 ^ length symbols1) names names' moves →
      Widens m set limit names names'
  widened symbols1 names names' moves e are =
      widens m set p.steps symbols (all_steps prepared) p.are p.known p.same limit names names'
      (moved symbols1 names names' moves e are).extends

  pub node_at : (symbols1 : List ℕ) (names names' : List (List ℕ)) (moves : List Move) → symbols1 ≡ symbols →
      length symbols1 ≤ max_symbols →
      AreMoves m (all_steps prepared) (length symbols1) limit (2 ^ length symbols1) names names' moves →
      (node : SetNode) → node.places ≡ set → node.leaving ≡ symbols1 → node.moves ≡ moves →
      IsNodeOf m names' max_symbols set node
  node_at symbols1 names names' moves e small are node places leaving same_moves =
      node_made m set p.steps symbols (all_steps prepared) p.are p.known p.same limit max_symbols names names' node
      places (leaving ∙ e) (subst (λ (s : List ℕ). length s ≤ max_symbols) e small)
      (subst (λ (s : List Move). AreMoves m (all_steps prepared) (length symbols) limit (2 ^ length symbols) names
      names'
      s) (sym same_moves) (moved symbols1 names names' moves e are)) number_below

-- ---- the start

module _ (m : Machine ℕ) (count limit max_symbols : ℕ) where
  start_reached : IsReachedSet m (m.start ∷ [])
  start_reached = at_start (m.start ∷ []) (λ s. (
    (λ h. elim (Among-from_Contains (m.start ∷ []) s h) [ inl e ↦ sym e | inr n ↦ absurd n ]),
    (λ e. Contains-from_Among (m.start ∷ []) s (inl (sym e))),
  ))

  pub none_allowed : (names : List (List ℕ)) (next : List ℕ) → names ≡ [] → limit ≤ position_or_len
      (same_places next) names → IsTooLarge m limit max_symbols
  none_allowed names next none full =
      let nowhere : position_or_len (same_places next) names ≡ 0 = ap (position_or_len (same_places next)) none in
      inl (
        (m.start ∷ []) ∷ [],
        (λ i j d lt within. absurd (omega arith)),
        All-from_among (IsReachedSet m) ((m.start ∷ []) ∷ []) (λ s h. elim h [
          | inl e ↦ subst
              (IsReachedSet m) e start_reached
          | inr n ↦ absurd n
        ]),
        omega (arith, nowhere, full),
      )

  pub begun : (names0 names : List (List ℕ)) (start : ℕ) (places : List ℕ) → names0 ≡ [] → places ≡ start ∷ [] →
      start ≡ m.start → start < count → position_or_len (same_places places) names0 < limit
      → names ≡ insert_key same_places names0 places → IsPartWay m count limit max_symbols 0 names []
  begun names0 names start places none is same owned room named =
      let set_is : places ≡ m.start ∷ [] = is ∙ ap (λ (s : ℕ). s ∷ []) same in
      let alone : names ≡ (m.start ∷ []) ∷ [] = named ∙ ap (λ (s : List (List ℕ)). insert_key same_places s places) none
      ∙ ap (λ (s : List ℕ). s ∷ []) set_is in
      let nowhere : position_or_len (same_places places) names0 ≡ 0 = ap (position_or_len (same_places places)) none in
      let start_owned : m.start < count = subst (λ (s : ℕ). s < count) same owned in
      subst (λ (s : List (List ℕ)). IsPartWay m count limit max_symbols 0 s []) (sym alone) (record {
        first = refl;
        reached = λ s h. elim h [ inl e ↦ subst (IsReachedSet m) e start_reached | inr n ↦ absurd n ];
        rising = λ s h. elim h [ inl e ↦ subst IsRising e (tt, tt) | inr n ↦ absurd n ];
        owned = λ s h. elim h [
          | inl e ↦ subst (All (λ p. p < count)) e (All-from_among (λ p. p < count) (m.start ∷ [])
              (λ t k. elim k [ inl f ↦ subst (λ (s : ℕ). s < count) f start_owned | inr n ↦ absurd n ]))
          | inr n ↦ absurd n
        ];
        apart = ((λ h. h), tt);
        few = omega (arith, nowhere, room);
        places = refl;
        made = λ node h. absurd h;
      })

-- ---- no set is left

get_or-map : (f : SetNode → List ℕ) (xs : List SetNode) (i : ℕ) (d : SetNode) →
    get_or (map f xs) i (f d) ≡ f (get_or xs i d)
get_or-map f [] i d = refl
get_or-map f (x ∷ xs) zero d = refl
get_or-map f (x ∷ xs) (suc i) d = get_or-map f xs i d

slice_get-mapped : (f : SetNode → List ℕ) (xs : List SetNode) (i : ℕ) (s : List ℕ) → slice_get (map f xs) i ≡ Some s →
    (x : SetNode) × (slice_get xs i ≡ Some x) × (f x ≡ s)
slice_get-mapped f [] i s h = absurd (let e = h in cc)
slice_get-mapped f (x ∷ xs) zero s h = (x, refl, same_Some (f x) s h)
slice_get-mapped f (x ∷ xs) (suc i) s h = slice_get-mapped f xs i s h

length-map : (f : SetNode → List ℕ) (xs : List SetNode) → length (map f xs) ≡ length xs
length-map f [] = refl
length-map f (x ∷ xs) = ap suc (length-map f xs)

module _ (g : Graph) (between : All (λ e. e.from < length g.accepting × e.to < length g.accepting) g.edges)
    (count limit max_symbols from : ℕ) (names : List (List ℕ)) (nodes : List SetNode) (part : IsPartWay
    (graph_machine g) count limit max_symbols from names nodes) (none : length names ≤ from) where
  all_named : map (λ (n : SetNode). n.places) nodes ≡ names
  all_named = part.places ∙ take_all from names none

  named : (node : SetNode) → Among nodes node → Among names node.places
  named node h = subst (λ (s : List (List ℕ)). Among s node.places) all_named (Among-map (λ
      (n : SetNode). n.places) nodes node h)

  node_of_name : (i : ℕ) (set : List ℕ) → slice_get names i ≡ Some set → (node : SetNode) ×
      (slice_get nodes i ≡ Some node) × (node.places ≡ set)
  node_of_name i set at = slice_get-mapped (λ (n : SetNode). n.places) nodes i set (ap (λ (s : List
      (List ℕ)). slice_get s i) all_named ∙ at)

  move_is : (set : List ℕ) (values : ℕ → Bool) (move : Move) → TellsSet (graph_machine g) names set values move →
      IsMove (graph_machine g) nodes set values move
  move_is set values Empty h = h
  move_is set values Accepting h = h
  move_is set values (Set n) (next, at, gives, some, clean) =
      let (node, there, same) = node_of_name n next at in (
        node,
        there,
        move_to_node node.places next set values same gives,
        (λ e. some (sym same ∙ e)),
        subst (All
            (λ t. ¬ IsTrue ((graph_machine g).accepts t))) (sym same) clean,
      )
    where
      move_to_node : (a b set : List ℕ) (values : ℕ → Bool) → a ≡ b → Gives (graph_machine g) set values b →
          Gives (graph_machine g) set values a
      move_to_node a b set values same gives = subst (Gives (graph_machine g) set values) (sym same) gives

  all_done_nodes : All (IsNode (graph_machine g) nodes) nodes
  all_done_nodes = All-from_among (IsNode (graph_machine g) nodes) nodes (λ node h.
      let is = part.made node h in
      record {
        places = rising-pairs node.places (part.rising node.places (named node h));
        leaving = rising-pairs node.leaving is.rising;
        leaves = is.leaves;
        count = is.count;
        moves = λ values. let (move, at, tells) = is.moves values in (move, at, move_is node.places values move tells);
      })

  start_node : (node : SetNode) × (slice_get nodes 0 ≡ Some node) × (node.places ≡ (graph_machine g).start ∷ [])
  start_node = node_of_name 0 (0 ∷ []) part.first

  pub are_reached : AreReachedSets (graph_machine g) nodes
  are_reached = record {
    start = start_node;
    reached = All-from_among (λ node. IsReachedSet (graph_machine g) node.places) nodes (λ node h. part.reached
        node.places (named node h));
    each = each (graph_machine g) nodes start_node all_done_nodes;
    once = λ i j d lt within same.
        let all : AllPairs (λ a b. ¬ HasSameStates a b) (map (λ (n : SetNode). n.places) nodes) = subst (AllPairs
        (λ a b. ¬ HasSameStates a b)) (sym all_named) (different_sets g between limit max_symbols names part.apart
        part.rising) in
        let long = length-map (λ (n : SetNode). n.places) nodes in
        all i j d.places lt (omega (arith, long, within))
        (subst (λ (s : List ℕ). HasSameStates s (get_or (map (λ (n : SetNode). n.places) nodes) j d.places)) (sym
        (get_or-map (λ (n : SetNode). n.places) nodes i d))
        (subst (HasSameStates (get_or nodes i d).places) (sym (get_or-map (λ (n : SetNode). n.places) nodes j d))
        same));
    all_nodes = all_done_nodes;
  }

  pub small_enough : ¬ IsTooLarge (graph_machine g) limit max_symbols
  small_enough = not_too_large (graph_machine g) nodes start_node all_done_nodes limit max_symbols
      (let long = length-map (λ (n : SetNode). n.places) nodes in let same : length (map (λ
      (n : SetNode). n.places) nodes) ≡ length names = ap (λ (s : List (List ℕ)). length s) all_named in omega
      (arith, long, same, part.few))
      (All-from_among (λ node. length node.leaving ≤ max_symbols) nodes (λ node h. (part.made node h).small))
