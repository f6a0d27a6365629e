-- Labels that speak of the first symbols alone, and what is made of them.
use Rattle.std.proofs.Common.{◌≡◌, ap, subst, ℕ, zero, suc, ◌<◌, Bool, true, false, cond, List, [], ◌∷◌, ◌++◌, map}
use Rattle.std.proofs.Common.{filter, inl, inr, ◌⊎◌, All, eqb, refl}
use Rattle.auto_core.specs.declared.labels.Literal.{Literal}
use Rattle.auto_core.specs.declared.tables.Edge.{Edge}
use Rattle.auto_core.specs.Edges.{renamed, products}
use Rattle.auto_core.specs.Graph.{Graph, graph_machine, IsReachedPart}
use Rattle.auto_core.specs.LiteralSets.{precedes, put_literal, put_all}
use Rattle.auto_core.specs.Machine.{Machine}
use Rattle.automata_product.specs.declared.side.Side.TheVariants.{Left, Right}
use Rattle.automata_product.specs.Both.{both_machine}
use Rattle.automata_product.specs.Fuse.{fuse_machine}
use Rattle.sere_automata.specs.declared.states.Choice.TheVariants as choice
use Rattle.sere_automata.specs.declared.states.LeafState.{LeafState}
use Rattle.sere_automata.specs.declared.states.LeafState.TheVariants as leaf
use Rattle.sere_automata.specs.declared.states.Round.TheVariants as round
use Rattle.sere_automata.specs.Concat.{concat_machine}
use Rattle.sere_automata.specs.Leaf.{leaf_machine}
use Rattle.sere_automata.specs.OneOf.{one_of_machine}
use Rattle.sere_automata.specs.Repeat.{repeat_machine}
use Rattle.sequence_tables.specs.inner.Copies.{firsts, chain_machine}
use Rattle.sequence_tables.proofs.Leads.{products_back}
use Rattle.sequence_tables.proofs.Maps.{renamed_back}
use Rattle.sequence_tables.proofs.Members.{Among, Among-append, Among-filter, Among-from_Contains, Contains-from_Among}
use Rattle.sequence_tables.proofs.Members.{map-Among, All-among, All-from_among}

module _ (n : ℕ) where
  -- each symbol of the label is below n
  abbrev pub Below : List Literal → Type 0
  Below label = (l : Literal) → Among label l → l.symbol < n

  put-among : (l : Literal) (ms : List Literal) (x : Literal) → Among (put_literal l ms) x → (l ≡ x) ⊎ Among ms x
  put-among l [] x (inl e) = inl e
  put-among l [] x (inr h) = absurd h
  put-among l (m ∷ ms) x h = cases (precedes l m) (precedes m l) (λ k. put-among l ms x k) h
    where
      cases : (b c : Bool) → (Among (put_literal l ms) x → (l ≡ x) ⊎ Among ms x) →
          Among (cond b (l ∷ m ∷ ms) (cond c (m ∷ put_literal l ms) (m ∷ ms))) x → (l ≡ x) ⊎ Among (m ∷ ms) x
      cases true c rest (inl e) = inl e
      cases true c rest (inr k) = inr k
      cases false true rest (inl e) = inr (inl e)
      cases false true rest (inr k) = elim (rest k) [ inl e ↦ inl e | inr o ↦ inr (inr o) ]
      cases false false rest k = inr k

  below-union : (ls ms : List Literal) → Below ls → Below ms → Below (put_all ls ms)
  below-union [] ms a b x h = b x h
  below-union (l ∷ ls) ms a b x h =
      below-union ls (put_literal l ms) (λ y k. a y (inr k))
      (λ y k. elim (put-among l ms y k)
      [ inl e ↦ subst (λ (z : Literal). z.symbol < n) e (a l (inl refl)) | inr o ↦ b y o ])
      x h

  module _ {S : Type 0} where
    abbrev pub AllBelow : List (List Literal × S) → Type 0
    AllBelow xs = (l : List Literal) (t : S) → Among xs (l, t) → Below l

    abbrev pub BelowIn : Machine S → Type 0
    BelowIn m = (s : S) → AllBelow (m.edges s)

    below-append : (xs ys : List (List Literal × S)) → AllBelow xs → AllBelow ys → AllBelow (xs ++ ys)
    below-append xs ys a b l t h = elim (Among-append xs ys (l, t) h) [ inl k ↦ a l t k | inr k ↦ b l t k ]

    below-if : (b : Bool) (xs : List (List Literal × S)) → AllBelow xs → AllBelow (cond b xs [])
    below-if true xs a l t h = a l t h
    below-if false xs a l t h = absurd h

    below-filter : (p : List Literal × S → Bool) (xs : List (List Literal × S)) → AllBelow xs → AllBelow (filter p xs)
    below-filter p xs a l t h = a l t (Among-filter p xs (l, t) h).0

  module _ {S T : Type 0} where
    below-renamed : (f : S → T) (xs : List (List Literal × S)) → AllBelow xs → AllBelow (map (renamed f) xs)
    below-renamed f xs a l u h = let r = renamed_back f xs l u h in a l r.0 r.1

  module _ {S T U : Type 0} where
    below-products : (f : S → T → U) (xs : List (List Literal × S)) (ys : List (List Literal × T)) →
        AllBelow xs → AllBelow ys → AllBelow (products f xs ys)
    below-products f xs ys a b l u h =
        let r = products_back f xs ys (l, u) h in
        subst Below (ap (λ (e : List Literal × U). e.0) r.4)
        (below-union r.1.0 r.0.0 (b r.1.0 r.1.1 r.3) (a r.0.0 r.0.1 r.2))

  -- ---- machines

  pub below-leaf : (label : List Literal) → Below label → BelowIn (leaf_machine label)
  below-leaf label a leaf.Start l t (inl e) = subst Below (ap (λ (x : List Literal × LeafState). x.0) e) a
  below-leaf label a leaf.Start l t (inr h) = absurd h
  below-leaf label a leaf.End l t h = absurd h

  module _ {S T : Type 0} (m : Machine S) (k : Machine T) (a : BelowIn m) (b : BelowIn k) where
    pub below-concat : BelowIn (concat_machine m k)
    below-concat (Left p) =
        below-append _ _ (below-renamed Left (m.edges p) (a p))
        (below-if (m.accepts p) _ (below-renamed Right (k.edges k.start) (b k.start)))
    below-concat (Right q) = below-renamed Right (k.edges q) (b q)

    pub below-fuse : BelowIn (fuse_machine m k)
    below-fuse (Left p) =
        below-append _ _ (below-renamed Left (m.edges p) (a p))
        (below-products (λ last q. Right q) _ (k.edges k.start)
        (below-filter (λ x. m.accepts x.1) (m.edges p) (a p)) (b k.start))
    below-fuse (Right q) = below-renamed Right (k.edges q) (b q)

    pub below-one_of : BelowIn (one_of_machine m k)
    below-one_of choice.New =
        below-append _ _ (below-renamed choice.Left (m.edges m.start) (a m.start))
        (below-renamed choice.Right (k.edges k.start) (b k.start))
    below-one_of (choice.Left p) = below-renamed choice.Left (m.edges p) (a p)
    below-one_of (choice.Right q) = below-renamed choice.Right (k.edges q) (b q)

    pub below-both : BelowIn (both_machine m k)
    below-both s = below-products (λ p q. (p, q)) (m.edges s.0) (k.edges s.1) (a s.0) (b s.1)

  module _ {S : Type 0} (m : Machine S) (a : BelowIn m) where
    pub below-repeat : BelowIn (repeat_machine m)
    below-repeat round.New = below-renamed round.Inner (m.edges m.start) (a m.start)
    below-repeat (round.Inner p) =
        below-append _ _ (below-renamed round.Inner (m.edges p) (a p))
        (below-if (m.accepts p) _ (below-renamed round.Inner (m.edges m.start) (a m.start)))

    below-firsts : (i c : ℕ) → AllBelow (firsts m i c)
    below-firsts i zero = λ l t h. absurd h
    below-firsts i (suc c) =
        below-append _ _ (below-renamed (λ q. (suc i, q)) (m.edges m.start) (a m.start)) (below-firsts (suc i) c)

    pub below-chain : (k : ℕ) → BelowIn (chain_machine m k)
    below-chain k s =
        below-append _ _ (below-renamed (λ q. (s.0, q)) (m.edges s.1) (a s.1))
        (below-if (m.accepts s.1) _ (below-firsts s.0 _))

  -- ---- tables

  abbrev pub BelowOn : Graph → Type 0
  BelowOn g = (e : Edge) → Among g.edges e → Below e.label

  below-graph : (g : Graph) → BelowOn g → BelowIn (graph_machine g)
  below-graph g a s l t h =
      let r = map-Among (λ (e : Edge). (e.label, e.to)) (filter (λ e. eqb e.from s) g.edges) (l, t) h in
      subst Below (ap (λ (x : List Literal × ℕ). x.0) r.2)
      (a r.0 (Among-filter (λ (e : Edge). eqb e.from s) g.edges r.0 r.1).0)

  pub below-part : {S : Type 0} (m : Machine S) (states : List S) (g : Graph) → IsReachedPart m states g →
      BelowIn m → BelowOn g
  below-part m states g part a e h =
      let (p, q, from, to, there) = (part.edges e).0 (Contains-from_Among g.edges e h) in
      a p e.label q (Among-from_Contains (m.edges p) (e.label, q) there)

  abbrev pub EachBelow : Graph → Type 0
  EachBelow g = All (λ e. All (λ l. l.symbol < n) e.label) g.edges

  pub to_each : (g : Graph) → BelowOn g → EachBelow g
  to_each g a =
      All-from_among (λ (e : Edge). All (λ (l : Literal). l.symbol < n) e.label) g.edges
      (λ e h. All-from_among (λ (l : Literal). l.symbol < n) e.label (a e h))

  pub from_each : (g : Graph) → EachBelow g → BelowIn (graph_machine g)
  from_each g a =
      below-graph g (λ e h l k. All-among (λ (l : Literal). l.symbol < n) e.label l
      (All-among (λ (e : Edge). All (λ (l : Literal). l.symbol < n) e.label) g.edges e a h) k)

  pub below_label : (label : List Literal) → All (λ l. l.symbol < n) label → Below label
  below_label label a l h = All-among (λ (l : Literal). l.symbol < n) label l a h
