-- A sequence whose Booleans are named anew has as many steps.
use Rattle.std.proofs.Common.{◌≡◌, ◌↔◌, ◌∙◌, refl, sym, ap, subst, ℕ, Bool, true, false, ◌&&◌, ◌||◌, cond, IsTrue, List}
use Rattle.std.proofs.Common.{[], ◌∷◌, ◌++◌, map, inl, inr, Contains}
use Rattle.psl_model.specs.Expr.{Expr}
use Rattle.psl_meaning.specs.Sequence.{CoreSere, bool, empty, concat, fuse, or, both, star}
use Rattle.sequence_cores.specs.PlaceGraph.{Place, first, last, left, right, pair, inner, start_of, accepts, Step}
use Rattle.symbol_alphabet.specs.Symbols.{needs_none, stripped, is_positive, is_one}
use Rattle.sequence_tables.specs.PlaceTable.{ReachedBy}
use Rattle.sequence_tables.specs.Renamed.{renamed, booleans_of, KeepsLiterals, TellsApart}
use Rattle.sequence_tables.specs.Steps.{BooleanLiteral, LabelledStep, literals_of, IsSameStep, Reading, IsReachedStep}
use Rattle.sequence_tables.specs.Steps.{HasSteps}
use Rattle.sequence_tables.proofs.Counting.{Pairwise-from_AllPairs, AllPairs-from_Pairwise, chosen, chosen_length}
use Rattle.sequence_tables.proofs.Counting.{chosen_back, chosen_there, chosen_pairwise}
use Rattle.sequence_tables.proofs.Members.{Among, Contains-from_Among, Among-from_Contains, Among-map, map-Among}
use Rattle.sequence_tables.proofs.Members.{map-append, Among-append, Among-left, Among-right, All-from_among, All-among}
use Rattle.sequence_tables.proofs.StepLabels.{Suits, suits_back, steps_suit, reached_suits}
use Rattle.sequence_tables.proofs.Steps.{found}

-- ---- steps that belong together

module _ (r s : CoreSere) (C : LabelledStep → LabelledStep → Type 0)
    (there : (x : LabelledStep) → IsReachedStep r x → (y : LabelledStep) × IsReachedStep s y × C x y)
    (back : (y : LabelledStep) → IsReachedStep s y → (x : LabelledStep) × IsReachedStep r x × C x y)
    (keeps : (x x' y y' : LabelledStep) → C x y → C x' y' → IsSameStep x x' → IsSameStep y y')
    (tells : (x x' y y' : LabelledStep) → C x y → C x' y' → IsSameStep y y' → IsSameStep x x') where
  abbrev Belongs : LabelledStep → LabelledStep → Type 0
  Belongs x y = IsReachedStep s y × C x y

  pub as_many_steps : (k : ℕ) → HasSteps r k → HasSteps s k
  as_many_steps k (steps, are, e) =
      let step_of : (x : LabelledStep) → Among steps x → (y : LabelledStep) × Belongs x y =
      λ x h. let t = there x (All-among (IsReachedStep r) steps x are.each h) in (t.0, (t.1, t.2)) in (
        chosen Belongs steps step_of,
        record {
          each = All-from_among (IsReachedStep s) (chosen Belongs steps step_of)
              (λ y h. (chosen_back Belongs steps step_of y h).2.0);
          every = λ y h.
              let (x, reached, c) = back y h in
              let (x', among, same) = found (IsSameStep x) steps (are.every x reached) in
              let (y', l, b) = chosen_there Belongs steps step_of x' among in
              let at = Contains-from_Among (chosen Belongs steps step_of) y' l in
              (at.0, y', at.1, at.2, keeps x x' y y' c b.1 same);
          once = AllPairs-from_Pairwise (λ (x y : LabelledStep). ¬ IsSameStep x y) (chosen Belongs steps step_of)
              (chosen_pairwise Belongs (λ (x y : LabelledStep). ¬ IsSameStep x y)
              (λ (x y : LabelledStep). ¬ IsSameStep x y)
              (λ x x' y y' other b b' same. other (tells x x' y y' b.1 b'.1 same)) steps step_of
              (Pairwise-from_AllPairs (λ (x y : LabelledStep). ¬ IsSameStep x y) steps are.once));
        },
        chosen_length Belongs steps step_of ∙ e,
      )

-- ---- the place graph of a renamed sequence

module _ (f : Expr → Expr) where
  same_start : (r : CoreSere) → start_of (renamed f r) ≡ start_of r
  same_start (bool b) = refl
  same_start empty = refl
  same_start (concat r s) = ap left (same_start r)
  same_start (fuse r s) = ap left (same_start r)
  same_start (or r s) = refl
  same_start (both r s) = λ i. pair (same_start r i) (same_start s i)
  same_start (star r) = refl

  same_accepts : (r : CoreSere) (p : Place) → accepts (renamed f r) p ≡ accepts r p
  same_accepts (concat r s) (left p) =
      λ i. same_accepts r p i && (ap (accepts (renamed f s)) (same_start s) ∙ same_accepts s (start_of s)) i
  same_accepts (concat r s) (right q) = same_accepts s q
  same_accepts (fuse r s) (right q) = same_accepts s q
  same_accepts (or r s) first =
      λ i. (ap (accepts (renamed f r)) (same_start r) ∙ same_accepts r (start_of r)) i
      || (ap (accepts (renamed f s)) (same_start s) ∙ same_accepts s (start_of s)) i
  same_accepts (or r s) (left p) = same_accepts r p
  same_accepts (or r s) (right q) = same_accepts s q
  same_accepts (both r s) (pair p q) = λ i. same_accepts r p i && same_accepts s q i
  same_accepts (star r) (inner p) = same_accepts r p
  same_accepts r p = refl

  module _ {L : Type 0} (label : Expr → L) (join : L → L → L) where
    abbrev Old : CoreSere → Place → L → Place → Type 0
    Old = Step (λ b. label (f b)) join

    abbrev New : CoreSere → Place → L → Place → Type 0
    New r = Step label join (renamed f r)

    to_start : (r : CoreSere) (x : L) (q : Place) → New r (start_of r) x q → New r (start_of (renamed f r)) x q
    to_start r x q h = subst (λ (z : Place). Step label join (renamed f r) z x q) (sym (same_start r)) h

    from_start : (r : CoreSere) (x : L) (q : Place) → New r (start_of (renamed f r)) x q → New r (start_of r) x q
    from_start r x q h = subst (λ (z : Place). Step label join (renamed f r) z x q) (same_start r) h

    to_renamed : (r : CoreSere) (p : Place) (x : L) (q : Place) → Old r p x q → New r p x q
    to_renamed (bool b) first x last h = h
    to_renamed (concat r s) (left p) x (left q) h = to_renamed r p x q h
    to_renamed (concat r s) (right p) x (right q) h = to_renamed s p x q h
    to_renamed (concat r s) (left p) x (right q) h =
        (subst IsTrue (sym (same_accepts r p)) h.0, to_start s x q (to_renamed s (start_of s) x q h.1))
    to_renamed (fuse r s) (left p) x (left q) h = to_renamed r p x q h
    to_renamed (fuse r s) (right p) x (right q) h = to_renamed s p x q h
    to_renamed (fuse r s) (left p) x (right q) h = (
      h.0,
      h.1,
      h.2,
      to_renamed r p h.0 h.2 h.3,
      subst IsTrue (sym (same_accepts r h.2)) h.4,
      to_start s h.1 q (to_renamed s (start_of s) h.1 q h.5),
      h.6,
    )
    to_renamed (or r s) first x (left q) h = to_start r x q (to_renamed r (start_of r) x q h)
    to_renamed (or r s) first x (right q) h = to_start s x q (to_renamed s (start_of s) x q h)
    to_renamed (or r s) (left p) x (left q) h = to_renamed r p x q h
    to_renamed (or r s) (right p) x (right q) h = to_renamed s p x q h
    to_renamed (both r s) (pair p q) x (pair p' q') h =
        (h.0, h.1, to_renamed r p h.0 p' h.2, to_renamed s q h.1 q' h.3, h.4)
    to_renamed (star r) first x (inner q) h = to_start r x q (to_renamed r (start_of r) x q h)
    to_renamed (star r) (inner p) x (inner q) (inl h) = inl (to_renamed r p x q h)
    to_renamed (star r) (inner p) x (inner q) (inr h) =
        inr (subst IsTrue (sym (same_accepts r p)) h.0, to_start r x q (to_renamed r (start_of r) x q h.1))
    to_renamed r p x q h = absurd h

    from_renamed : (r : CoreSere) (p : Place) (x : L) (q : Place) → New r p x q → Old r p x q
    from_renamed (bool b) first x last h = h
    from_renamed (concat r s) (left p) x (left q) h = from_renamed r p x q h
    from_renamed (concat r s) (right p) x (right q) h = from_renamed s p x q h
    from_renamed (concat r s) (left p) x (right q) h =
        (subst IsTrue (same_accepts r p) h.0, from_renamed s (start_of s) x q (from_start s x q h.1))
    from_renamed (fuse r s) (left p) x (left q) h = from_renamed r p x q h
    from_renamed (fuse r s) (right p) x (right q) h = from_renamed s p x q h
    from_renamed (fuse r s) (left p) x (right q) h = (
      h.0,
      h.1,
      h.2,
      from_renamed r p h.0 h.2 h.3,
      subst IsTrue (same_accepts r h.2) h.4,
      from_renamed s (start_of s) h.1 q (from_start s h.1 q h.5),
      h.6,
    )
    from_renamed (or r s) first x (left q) h = from_renamed r (start_of r) x q (from_start r x q h)
    from_renamed (or r s) first x (right q) h = from_renamed s (start_of s) x q (from_start s x q h)
    from_renamed (or r s) (left p) x (left q) h = from_renamed r p x q h
    from_renamed (or r s) (right p) x (right q) h = from_renamed s p x q h
    from_renamed (both r s) (pair p q) x (pair p' q') h =
        (h.0, h.1, from_renamed r p h.0 p' h.2, from_renamed s q h.1 q' h.3, h.4)
    from_renamed (star r) first x (inner q) h = from_renamed r (start_of r) x q (from_start r x q h)
    from_renamed (star r) (inner p) x (inner q) (inl h) = inl (from_renamed r p x q h)
    from_renamed (star r) (inner p) x (inner q) (inr h) =
        inr (subst IsTrue (same_accepts r p) h.0, from_renamed r (start_of r) x q (from_start r x q h.1))
    from_renamed r p x q h = absurd h

-- ---- literals

module _ (f : Expr → Expr) (keep : KeepsLiterals f) where
  abbrev named : BooleanLiteral → BooleanLiteral
  named l = record { expr = f l.expr; positive = l.positive }

  named_literals : (b : Expr) → map named (literals_of b) ≡ literals_of (f b)
  named_literals b =
      let need : needs_none b ≡ needs_none (f b) =
      λ i. sym (keep.sign b) i && (sym (keep.one (stripped b)) ∙ ap is_one (sym (keep.expression b))) i in
      push (needs_none b) ∙ (λ i. cond (need i) [] (record {
        expr = sym (keep.expression b) i;
        positive = sym (keep.sign b) i;
      } ∷ []))
    where
      push : (c : Bool) → map named (cond c [] (record { expr = stripped b; positive = is_positive b } ∷ []))
          ≡ cond c [] (record { expr = f (stripped b); positive = is_positive b } ∷ [])
      push true = refl
      push false = refl

  module _ (all : List Expr) where
    -- the expressions of the literals are Booleans of the sequence
    abbrev Within : List BooleanLiteral → Type 0
    Within y = (l : BooleanLiteral) → Among y l → Among all l.expr

    abbrev Named : List BooleanLiteral → List BooleanLiteral → Type 0
    Named y x = (map named y ≡ x) × Within y

    named_joined : (y z x w : List BooleanLiteral) → Named y x → Named z w → Named (y ++ z) (x ++ w)
    named_joined y z x w a b = (
      map-append named y z ∙ (λ i. a.0 i ++ b.0 i),
      (λ l k. elim (Among-append y z l k) [ inl h ↦ a.1 l h | inr h ↦ b.1 l h ]),
    )

    within_one : (b : Expr) → Among all (stripped b) → Within (literals_of b)
    within_one b there = go (needs_none b)
      where
        go : (c : Bool) → Within (cond c [] (record { expr = stripped b; positive = is_positive b } ∷ []))
        go true l k = absurd k
        go false l (inl e) = subst (λ (z : BooleanLiteral). Among all z.expr) e there
        go false l (inr k) = absurd k

    abbrev Among-all : CoreSere → Type 0
    Among-all r = (e : Expr) → Among (booleans_of r) e → Among all e

    of_left : (r s : CoreSere) → ((e : Expr) → Among (booleans_of r ++ booleans_of s) e → Among all e) → Among-all r
    of_left r s h e k = h e (Among-left (booleans_of r) (booleans_of s) e k)

    of_right : (r s : CoreSere) → ((e : Expr) → Among (booleans_of r ++ booleans_of s) e → Among all e) → Among-all s
    of_right r s h e k = h e (Among-right (booleans_of r) (booleans_of s) e k)

    named_suit : (r : CoreSere) → Among-all r →
        Suits literals_of (λ x y. x ++ y) (λ b. literals_of (f b)) (λ x y. x ++ y) Named r
    named_suit (bool b) h = (named_literals b, within_one b (h (stripped b) (inl refl)))
    named_suit empty h = tt
    named_suit (concat r s) h = (named_suit r (of_left r s h), named_suit s (of_right r s h))
    named_suit (fuse r s) h = (named_suit r (of_left r s h), named_suit s (of_right r s h))
    named_suit (or r s) h = (named_suit r (of_left r s h), named_suit s (of_right r s h))
    named_suit (both r s) h = (named_suit r (of_left r s h), named_suit s (of_right r s h))
    named_suit (star r) h = named_suit r h

    mapped : (y z x w : List BooleanLiteral) → Named y x → Named z w →
        ((l : BooleanLiteral) → Contains y l → Contains z l) → (l : BooleanLiteral) → Contains x l → Contains w l
    mapped y z x w a b f l h =
        let (m, k, e) = map-Among named y l
        (Among-from_Contains (map named y) l (subst (λ (s : List BooleanLiteral). Contains s l) (sym a.0) h)) in
        let there : Among z m = Among-from_Contains z m (f m (Contains-from_Among y m k)) in
        let named_there : Among (map named z) l = subst (Among (map named z)) e (Among-map named z m there) in
        subst (λ (s : List BooleanLiteral). Contains s l) b.0 (Contains-from_Among (map named z) l named_there)

    module _ (apart : (a b : Expr) → Contains all a → Contains all b → f a ≡ f b → a ≡ b) where
      unmapped : (y z x w : List BooleanLiteral) → Named y x → Named z w →
          ((l : BooleanLiteral) → Contains x l → Contains w l) → (l : BooleanLiteral) → Contains y l → Contains z l
      unmapped y z x w a b g l h =
          let here : Among y l = Among-from_Contains y l h in
          let moved : Contains x (named l) = subst (λ (s : List BooleanLiteral). Contains s (named l)) a.0
          (Contains-from_Among (map named y) (named l) (Among-map named y l here)) in
          let there : Among (map named z) (named l) = Among-from_Contains (map named z) (named l)
          (subst (λ (s : List BooleanLiteral). Contains s (named l)) (sym b.0) (g (named l) moved)) in
          let (m, k, e) = map-Among named z (named l) there in
          let expr : m.expr ≡ l.expr =
          apart m.expr l.expr (Contains-from_Among all m.expr (b.1 m k)) (Contains-from_Among all l.expr (a.1 l here))
          (ap (λ (v : BooleanLiteral). v.expr) e) in
          let positive : m.positive ≡ l.positive = ap (λ (v : BooleanLiteral). v.positive) e in
          let same : m ≡ l = λ i. record { expr = expr i; positive = positive i } in
          subst (Contains z) same (Contains-from_Among z m k)

-- ---- steps

module _ (f : Expr → Expr) (keep : KeepsLiterals f) (r : CoreSere) (apart : TellsApart f r) where
  abbrev Label : List BooleanLiteral → List BooleanLiteral → Type 0
  Label = Named f keep (booleans_of r)

  there : (p : Place) (y : List BooleanLiteral) (q : Place) → Reading r p y q →
      (x : List BooleanLiteral) × Reading (renamed f r) p x q × Label y x
  there p y q h =
      let t = steps_suit literals_of (λ x y. x ++ y) (λ b. literals_of (f b)) (λ x y. x ++ y) Label
      (named_joined f keep (booleans_of r)) r (named_suit f keep (booleans_of r) r (λ e k. k)) p y q h in
      (t.0, to_renamed f literals_of (λ x y. x ++ y) r p t.0 q t.1, t.2)

  back : (p : Place) (x : List BooleanLiteral) (q : Place) → Reading (renamed f r) p x q →
      (y : List BooleanLiteral) × Reading r p y q × Label y x
  back p x q h =
      steps_suit (λ b. literals_of (f b)) (λ x y. x ++ y) literals_of (λ x y. x ++ y) (λ x y. Label y x)
      (λ x w y z a b. named_joined f keep (booleans_of r) y z x w a b) r
      (suits_back literals_of (λ x y. x ++ y) (λ b. literals_of (f b)) (λ x y. x ++ y) Label r
      (named_suit f keep (booleans_of r) r (λ e k. k))) p x q (from_renamed f literals_of (λ x y. x ++ y) r p x q h)

  abbrev Matches : LabelledStep → LabelledStep → Type 0
  Matches s t = (s.from ≡ t.from) × (s.to ≡ t.to) × Label s.label t.label

  step_there : (s : LabelledStep) → IsReachedStep r s →
      (t : LabelledStep) × IsReachedStep (renamed f r) t × Matches s t
  step_there s h =
      let (x, reading, label) = there s.from s.label s.to h.1 in
      let reached : ReachedBy (start_of (renamed f r)) (Reading (renamed f r)) s.from =
      subst (λ (p : Place). ReachedBy p (Reading (renamed f r)) s.from) (sym (same_start f r))
      (reached_suits (start_of r) (Reading r) (Reading (renamed f r))
      (λ p y q k. let t = there p y q k in (t.0, t.1)) s.from h.0) in
      (record { from = s.from; label = x; to = s.to }, (reached, reading), (refl, refl, label))

  step_back : (t : LabelledStep) → IsReachedStep (renamed f r) t →
      (s : LabelledStep) × IsReachedStep r s × Matches s t
  step_back t h =
      let (y, reading, label) = back t.from t.label t.to h.1 in
      let reached : ReachedBy (start_of r) (Reading r) t.from =
      reached_suits (start_of r) (Reading (renamed f r)) (Reading r)
      (λ p x q k. let s = back p x q k in (s.0, s.1)) t.from
      (subst (λ (p : Place). ReachedBy p (Reading (renamed f r)) t.from) (same_start f r) h.0) in
      (record { from = t.from; label = y; to = t.to }, (reached, reading), (refl, refl, label))

  keeps : (s s' t t' : LabelledStep) → Matches s t → Matches s' t' → IsSameStep s s' → IsSameStep t t'
  keeps s s' t t' m n e = (
    sym m.0 ∙ e.0 ∙ n.0,
    sym m.1 ∙ e.1 ∙ n.1,
    (λ l. (
      mapped f keep (booleans_of r) s.label s'.label t.label t'.label m.2 n.2 (λ x. (e.2 x).0) l,
      mapped f keep (booleans_of r) s'.label s.label t'.label t.label n.2 m.2 (λ x. (e.2 x).1) l,
    )),
  )

  tells : (s s' t t' : LabelledStep) → Matches s t → Matches s' t' → IsSameStep t t' → IsSameStep s s'
  tells s s' t t' m n e = (
    m.0 ∙ e.0 ∙ sym n.0,
    m.1 ∙ e.1 ∙ sym n.1,
    (λ l. (
      unmapped f keep (booleans_of r) apart s.label s'.label t.label t'.label m.2 n.2 (λ x. (e.2 x).0) l,
      unmapped f keep (booleans_of r) apart s'.label s.label t'.label t.label n.2 m.2 (λ x. (e.2 x).1) l,
    )),
  )

  pub renamed_steps : (k : ℕ) → HasSteps r k ↔ HasSteps (renamed f r) k
  renamed_steps k = (
    as_many_steps r (renamed f r) Matches step_there step_back keeps tells k,
    as_many_steps (renamed f r) r (λ t s. Matches s t) step_back step_there
        (λ t t' s s' m n e. tells s s' t t' m n e) (λ t t' s s' m n e. keeps s s' t t' m n e) k,
  )
