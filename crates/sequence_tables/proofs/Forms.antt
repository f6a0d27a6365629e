-- What is made of parts of place graphs is part of the place graph of what is made of their sequences.
use Rattle.std.proofs.Common.{◌≡◌, refl, sym, ap, subst, ◌&&◌, ◌||◌, IsTrue, List}
use Rattle.std.proofs.Common.{inl, inr, ◌⊎◌}
use Rattle.psl_model.specs.Expr.{Expr}
use Rattle.psl_meaning.specs.Sequence.{CoreSere, bool, concat, fuse, or, both, star}
use Rattle.sequence_cores.specs.PlaceGraph.{Place, first, last, left, right, pair, inner, start_of, accepts, Step}
use Rattle.auto_core.specs.declared.labels.Literal.{Literal}
use Rattle.auto_core.specs.LiteralSets.{put_all}
use Rattle.auto_core.specs.Machine.{Machine}
use Rattle.automata_product.specs.declared.side.Side.{Side}
use Rattle.automata_product.specs.declared.side.Side.TheVariants.{Left, Right}
use Rattle.automata_product.specs.Both.{both_machine, OfPair}
use Rattle.automata_product.specs.Fuse.{fuse_machine}
use Rattle.automata_product.specs.Sides.{OfSides}
use Rattle.sere_automata.specs.declared.states.Choice.{Choice}
use Rattle.sere_automata.specs.declared.states.Choice.TheVariants as choice
use Rattle.sere_automata.specs.declared.states.LeafState.{LeafState}
use Rattle.sere_automata.specs.declared.states.LeafState.TheVariants as leaf
use Rattle.sere_automata.specs.declared.states.Round.{Round}
use Rattle.sere_automata.specs.declared.states.Round.TheVariants as round
use Rattle.sere_automata.specs.Concat.{concat_machine}
use Rattle.sere_automata.specs.Leaf.{leaf_machine}
use Rattle.sere_automata.specs.OneOf.{one_of_machine}
use Rattle.sere_automata.specs.Repeat.{repeat_machine}
use Rattle.sere_automata.specs.States.{OfChoice, OfRound}
use Rattle.sequence_tables.specs.PlaceTable.{joined_label}
use Rattle.sequence_tables.proofs.Into.{Into, first_steps, first_accepts}
use Rattle.sequence_tables.proofs.Leads.{Leads, leads_same, leads_append, leads_if, leads_filter, leads_renamed}
use Rattle.sequence_tables.proofs.Leads.{leads_products}

-- ---- the renamed states

module _ {S T : Type 0} (f : S → Place) (g : T → Place) where
  abbrev pub sides : Side S T → Place
  sides (Left p) = left (f p)
  sides (Right q) = right (g q)

  abbrev pub choices : Choice S T → Place
  choices choice.New = first
  choices (choice.Left p) = left (f p)
  choices (choice.Right q) = right (g q)

  abbrev pub pairs : S × T → Place
  pairs s = pair (f s.0) (g s.1)

abbrev pub rounds : {S : Type 0} → (S → Place) → Round S → Place
rounds f round.New = first
rounds f (round.Inner p) = inner (f p)

abbrev pub ends : LeafState → Place
ends leaf.Start = first
ends leaf.End = last

-- the one edge of a Boolean
abbrev Only : List Literal → List Literal → LeafState → Type 0
Only label l t = ◌≡◌ {A = List Literal × LeafState} (label, leaf.End) (l, t)

-- the place inside another one
under : Place → Place
under first = first
under last = last
under (left p) = p
under (right p) = p
under (pair p q) = p
under (inner p) = p

beside : Place → Place
beside first = first
beside last = last
beside (left p) = p
beside (right p) = p
beside (pair p q) = q
beside (inner p) = p

same_left : (p q : Place) → left p ≡ left q → p ≡ q
unfolding under
same_left p q e = ap under e

same_right : (p q : Place) → right p ≡ right q → p ≡ q
unfolding under
same_right p q e = ap under e

same_inner : (p q : Place) → inner p ≡ inner q → p ≡ q
unfolding under
same_inner p q e = ap under e

same_one : (p q p' q' : Place) → pair p q ≡ pair p' q' → p ≡ p'
unfolding under
same_one p q p' q' e = ap under e

same_other : (p q p' q' : Place) → pair p q ≡ pair p' q' → q ≡ q'
unfolding beside
same_other p q p' q' e = ap beside e

module _ (label : Expr → List Literal) where
  abbrev St : CoreSere → Place → List Literal → Place → Type 0
  St r = Step label joined_label r

  -- the machine is part of the place graph of the sequence
  abbrev pub InPlaces : {S : Type 0} → (S → Type 0) → Machine S → CoreSere → (S → Place) → Type 0
  InPlaces own m r f = Into own m (start_of r) (accepts r) (Step label joined_label r) f

  -- ---- a Boolean

  leaf_steps : (e : Expr) (s : LeafState) →
      Leads (λ _. Unit {0}) ends ((leaf_machine (label e)).edges s) (St (bool e) (ends s))
  leaf_steps e leaf.Start = record {
    owned = λ l t k. tt;
    there = there;
    back = back;
  }
    where
      there : (l : List Literal) (t : LeafState) →
          Only (label e) l t ⊎ ⊥ → St (bool e) first l (ends t)
      there l leaf.Start (inl k) = absurd (let f : leaf.End ≡ leaf.Start =
          ap (λ (x : List Literal × LeafState). x.1) k in cc)
      there l leaf.Start (inr k) = absurd k
      there l leaf.End (inl k) = sym (ap (λ (x : List Literal × LeafState). x.0) k)
      there l leaf.End (inr k) = absurd k

      back : (l : List Literal) (u : Place) → St (bool e) first l u →
          (t : LeafState) × (Only (label e) l t ⊎ ⊥) × (ends t ≡ u)
      back l last k = (leaf.End, inl (ap (λ (x : List Literal). (x, leaf.End)) (sym k)), refl)
      back l first k = absurd k
      back l (left u) k = absurd k
      back l (right u) k = absurd k
      back l (pair u v) k = absurd k
      back l (inner u) k = absurd k
  leaf_steps e leaf.End = record {
    owned = λ l t k. tt;
    there = λ l t k. absurd k;
    back = back;
  }
    where
      back : (l : List Literal) (u : Place) → St (bool e) last l u → (t : LeafState) × ⊥ × (ends t ≡ u)
      back l last k = absurd k
      back l first k = absurd k
      back l (left u) k = absurd k
      back l (right u) k = absurd k
      back l (pair u v) k = absurd k
      back l (inner u) k = absurd k

  leaf_different : (s t : LeafState) → ends s ≡ ends t → s ≡ t
  leaf_different leaf.Start leaf.Start k = refl
  leaf_different leaf.Start leaf.End k = absurd (cc)
  leaf_different leaf.End leaf.Start k = absurd (cc)
  leaf_different leaf.End leaf.End k = refl

  leaf_accepts_same : (e : Expr) (s : LeafState) → (leaf_machine (label e)).accepts s ≡ accepts (bool e) (ends s)
  leaf_accepts_same e leaf.Start = refl
  leaf_accepts_same e leaf.End = refl

  pub leaf_into : (e : Expr) → InPlaces (λ _. Unit {0}) (leaf_machine (label e)) (bool e) ends
  leaf_into e = record {
    begins = refl;
    owned = tt;
    different = λ s t o k h. leaf_different s t h;
    accepts = λ s o. leaf_accepts_same e s;
    steps = λ s o. leaf_steps e s;
  }

  -- ---- one part

  module _ {S : Type 0} {own : S → Type 0} {m : Machine S} {f : S → Place} (r : CoreSere) (a : InPlaces own m r f) where
    star_first_to : (l : List Literal) (u : Place) →
        ((v : Place) × St r (start_of r) l v × (inner v ≡ u)) → St (star r) first l u
    star_first_to l u h = subst (St (star r) first l) h.2 h.1

    star_first_from : (l : List Literal) (u : Place) → St (star r) first l u →
        ((v : Place) × St r (start_of r) l v × (inner v ≡ u))
    star_first_from l (inner v) h = (v, h, refl)
    star_first_from l first h = absurd h
    star_first_from l last h = absurd h
    star_first_from l (left v) h = absurd h
    star_first_from l (right v) h = absurd h
    star_first_from l (pair v w) h = absurd h

    star_to : (p : Place) (l : List Literal) (u : Place) →
        (((v : Place) × St r p l v × (inner v ≡ u))
        ⊎ (IsTrue (accepts r p) × ((v : Place) × St r (start_of r) l v × (inner v ≡ u)))) → St (star r) (inner p) l u
    star_to p l u (inl h) = subst (St (star r) (inner p) l) h.2 (inl h.1)
    star_to p l u (inr h) = subst (St (star r) (inner p) l) h.1.2 (inr (h.0, h.1.1))

    star_from : (p : Place) (l : List Literal) (u : Place) → St (star r) (inner p) l u →
        (((v : Place) × St r p l v × (inner v ≡ u))
        ⊎ (IsTrue (accepts r p) × ((v : Place) × St r (start_of r) l v × (inner v ≡ u))))
    star_from p l (inner v) (inl h) = inl (v, h, refl)
    star_from p l (inner v) (inr h) = inr (h.0, (v, h.1, refl))
    star_from p l first h = absurd h
    star_from p l last h = absurd h
    star_from p l (left v) h = absurd h
    star_from p l (right v) h = absurd h
    star_from p l (pair v w) h = absurd h

    star_steps : (s : Round S) → OfRound own s →
        Leads (OfRound own) (rounds f) ((repeat_machine m).edges s) (St (star r) (rounds f s))
    star_steps round.New o =
        leads_same star_first_to star_first_from
        (leads_renamed (λ s. round.Inner s) inner (rounds f) (λ s o. o) (λ s. refl) (first_steps a))
    star_steps (round.Inner p) o =
        leads_same (star_to (f p)) (star_from (f p))
        (leads_append (leads_renamed (λ s. round.Inner s) inner (rounds f) (λ s o. o) (λ s. refl) (a.steps p o))
        (leads_if (m.accepts p) (accepts r (f p)) _ _ (a.accepts p o)
        (leads_renamed (λ s. round.Inner s) inner (rounds f) (λ s o. o) (λ s. refl) (first_steps a))))

    star_different : (s t : Round S) → OfRound own s → OfRound own t → rounds f s ≡ rounds f t → s ≡ t
    star_different round.New round.New o k e = refl
    star_different round.New (round.Inner q) o k e = absurd (cc)
    star_different (round.Inner p) round.New o k e = absurd (cc)
    star_different (round.Inner p) (round.Inner q) o k e =
        ap (λ (s : S). round.Inner s) (a.different p q o k (same_inner (f p) (f q) e))

    star_accepts_same : (s : Round S) → OfRound own s → (repeat_machine m).accepts s ≡ accepts (star r) (rounds f s)
    star_accepts_same round.New o = refl
    star_accepts_same (round.Inner p) o = a.accepts p o

    pub star_into : InPlaces (OfRound own) (repeat_machine m) (star r) (rounds f)
    star_into = record {
      begins = refl;
      owned = tt;
      different = star_different;
      accepts = star_accepts_same;
      steps = star_steps;
    }

  -- ---- two parts

  module _ {S T : Type 0} {own : S → Type 0} {owns : T → Type 0} {m : Machine S} {n : Machine T} {f : S → Place}
      {g : T → Place} (r s : CoreSere) (a : InPlaces own m r f) (b : InPlaces owns n s g) where
    sides_different : (x y : Side S T) → OfSides own owns x → OfSides own owns y → sides f g x ≡ sides f g y → x ≡ y
    sides_different (Left p) (Left q) o k e = ap (λ (x : S). Left x) (a.different p q o k (same_left (f p) (f q) e))
    sides_different (Left p) (Right q) o k e = absurd (cc)
    sides_different (Right p) (Left q) o k e = absurd (cc)
    sides_different (Right p) (Right q) o k e = ap (λ (x : T). Right x) (b.different p q o k (same_right (g p) (g q) e))

    -- concatenation

    concat_to : (p : Place) (l : List Literal) (u : Place) →
        (((v : Place) × St r p l v × (left v ≡ u))
        ⊎ (IsTrue (accepts r p) × ((v : Place) × St s (start_of s) l v × (right v ≡ u)))) →
        St (concat r s) (left p) l u
    concat_to p l u (inl h) = subst (St (concat r s) (left p) l) h.2 h.1
    concat_to p l u (inr h) = subst (St (concat r s) (left p) l) h.1.2 (h.0, h.1.1)

    concat_from : (p : Place) (l : List Literal) (u : Place) → St (concat r s) (left p) l u →
        (((v : Place) × St r p l v × (left v ≡ u))
        ⊎ (IsTrue (accepts r p) × ((v : Place) × St s (start_of s) l v × (right v ≡ u))))
    concat_from p l (left v) h = inl (v, h, refl)
    concat_from p l (right v) h = inr (h.0, (v, h.1, refl))
    concat_from p l first h = absurd h
    concat_from p l last h = absurd h
    concat_from p l (pair v w) h = absurd h
    concat_from p l (inner v) h = absurd h

    concat_right_to : (q : Place) (l : List Literal) (u : Place) →
        ((v : Place) × St s q l v × (right v ≡ u)) → St (concat r s) (right q) l u
    concat_right_to q l u h = subst (St (concat r s) (right q) l) h.2 h.1

    concat_right_from : (q : Place) (l : List Literal) (u : Place) → St (concat r s) (right q) l u →
        ((v : Place) × St s q l v × (right v ≡ u))
    concat_right_from q l (right v) h = (v, h, refl)
    concat_right_from q l (left v) h = absurd h
    concat_right_from q l first h = absurd h
    concat_right_from q l last h = absurd h
    concat_right_from q l (pair v w) h = absurd h
    concat_right_from q l (inner v) h = absurd h

    concat_steps : (x : Side S T) → OfSides own owns x →
        Leads (OfSides own owns) (sides f g) ((concat_machine m n).edges x) (St (concat r s) (sides f g x))
    concat_steps (Left p) o =
        leads_same (concat_to (f p)) (concat_from (f p))
        (leads_append (leads_renamed (λ x. Left x) left (sides f g) (λ x o. o) (λ x. refl) (a.steps p o))
        (leads_if (m.accepts p) (accepts r (f p)) _ _ (a.accepts p o)
        (leads_renamed (λ x. Right x) right (sides f g) (λ x o. o) (λ x. refl) (first_steps b))))
    concat_steps (Right q) o =
        leads_same (concat_right_to (g q)) (concat_right_from (g q))
        (leads_renamed (λ x. Right x) right (sides f g) (λ x o. o) (λ x. refl) (b.steps q o))

    concat_accepts_same : (x : Side S T) → OfSides own owns x →
        (concat_machine m n).accepts x ≡ accepts (concat r s) (sides f g x)
    concat_accepts_same (Left p) o = λ i. a.accepts p o i && first_accepts b i
    concat_accepts_same (Right q) o = b.accepts q o

    pub concat_into : InPlaces (OfSides own owns) (concat_machine m n) (concat r s) (sides f g)
    concat_into = record {
      begins = ap left a.begins;
      owned = a.owned;
      different = sides_different;
      accepts = concat_accepts_same;
      steps = concat_steps;
    }

    -- fusion

    abbrev Last : Place → List Literal → Place → Type 0
    Last p l u = St r p l u × IsTrue (accepts r u)

    fuse_to : (p : Place) (l : List Literal) (u : Place) →
        (((v : Place) × St r p l v × (left v ≡ u))
        ⊎ ((y : List Literal) × (z : List Literal) × (v : Place) × (w : Place) × Last p y v × St s (start_of s) z w
        × (l ≡ put_all z y) × (right w ≡ u))) →
        St (fuse r s) (left p) l u
    fuse_to p l u (inl h) = subst (St (fuse r s) (left p) l) h.2 h.1
    fuse_to p l u (inr h) = subst (St (fuse r s) (left p) l) h.7 (h.0, h.1, h.2, h.4.0, h.4.1, h.5, h.6)

    fuse_from : (p : Place) (l : List Literal) (u : Place) → St (fuse r s) (left p) l u →
        (((v : Place) × St r p l v × (left v ≡ u))
        ⊎ ((y : List Literal) × (z : List Literal) × (v : Place) × (w : Place) × Last p y v × St s (start_of s) z w
        × (l ≡ put_all z y) × (right w ≡ u)))
    fuse_from p l (left v) h = inl (v, h, refl)
    fuse_from p l (right w) h = inr (h.0, h.1, h.2, w, (h.3, h.4), h.5, h.6, refl)
    fuse_from p l first h = absurd h
    fuse_from p l last h = absurd h
    fuse_from p l (pair v w) h = absurd h
    fuse_from p l (inner v) h = absurd h

    fuse_right_to : (q : Place) (l : List Literal) (u : Place) →
        ((v : Place) × St s q l v × (right v ≡ u)) → St (fuse r s) (right q) l u
    fuse_right_to q l u h = subst (St (fuse r s) (right q) l) h.2 h.1

    fuse_right_from : (q : Place) (l : List Literal) (u : Place) → St (fuse r s) (right q) l u →
        ((v : Place) × St s q l v × (right v ≡ u))
    fuse_right_from q l (right v) h = (v, h, refl)
    fuse_right_from q l (left v) h = absurd h
    fuse_right_from q l first h = absurd h
    fuse_right_from q l last h = absurd h
    fuse_right_from q l (pair v w) h = absurd h
    fuse_right_from q l (inner v) h = absurd h

    fuse_steps : (x : Side S T) → OfSides own owns x →
        Leads (OfSides own owns) (sides f g) ((fuse_machine m n).edges x) (St (fuse r s) (sides f g x))
    fuse_steps (Left p) o =
        leads_same (fuse_to (f p)) (fuse_from (f p))
        (leads_append (leads_renamed (λ x. Left x) left (sides f g) (λ x o. o) (λ x. refl) (a.steps p o))
        (leads_products (λ x y. Right y) (λ v w. right w) (sides f g) (λ x y o k. k) (λ x y. refl)
        (leads_filter m.accepts (accepts r) (m.edges p) (St r (f p)) a.accepts (a.steps p o)) (first_steps b)))
    fuse_steps (Right q) o =
        leads_same (fuse_right_to (g q)) (fuse_right_from (g q))
        (leads_renamed (λ x. Right x) right (sides f g) (λ x o. o) (λ x. refl) (b.steps q o))

    fuse_accepts_same : (x : Side S T) → OfSides own owns x →
        (fuse_machine m n).accepts x ≡ accepts (fuse r s) (sides f g x)
    fuse_accepts_same (Left p) o = refl
    fuse_accepts_same (Right q) o = b.accepts q o

    pub fuse_into : InPlaces (OfSides own owns) (fuse_machine m n) (fuse r s) (sides f g)
    fuse_into = record {
      begins = ap left a.begins;
      owned = a.owned;
      different = sides_different;
      accepts = fuse_accepts_same;
      steps = fuse_steps;
    }

    -- choice

    or_first_to : (l : List Literal) (u : Place) →
        (((v : Place) × St r (start_of r) l v × (left v ≡ u))
        ⊎ ((v : Place) × St s (start_of s) l v × (right v ≡ u))) → St (or r s) first l u
    or_first_to l u (inl h) = subst (St (or r s) first l) h.2 h.1
    or_first_to l u (inr h) = subst (St (or r s) first l) h.2 h.1

    or_first_from : (l : List Literal) (u : Place) → St (or r s) first l u →
        (((v : Place) × St r (start_of r) l v × (left v ≡ u))
        ⊎ ((v : Place) × St s (start_of s) l v × (right v ≡ u)))
    or_first_from l (left v) h = inl (v, h, refl)
    or_first_from l (right v) h = inr (v, h, refl)
    or_first_from l first h = absurd h
    or_first_from l last h = absurd h
    or_first_from l (pair v w) h = absurd h
    or_first_from l (inner v) h = absurd h

    or_left_to : (p : Place) (l : List Literal) (u : Place) →
        ((v : Place) × St r p l v × (left v ≡ u)) → St (or r s) (left p) l u
    or_left_to p l u h = subst (St (or r s) (left p) l) h.2 h.1

    or_left_from : (p : Place) (l : List Literal) (u : Place) → St (or r s) (left p) l u →
        ((v : Place) × St r p l v × (left v ≡ u))
    or_left_from p l (left v) h = (v, h, refl)
    or_left_from p l (right v) h = absurd h
    or_left_from p l first h = absurd h
    or_left_from p l last h = absurd h
    or_left_from p l (pair v w) h = absurd h
    or_left_from p l (inner v) h = absurd h

    or_right_to : (q : Place) (l : List Literal) (u : Place) →
        ((v : Place) × St s q l v × (right v ≡ u)) → St (or r s) (right q) l u
    or_right_to q l u h = subst (St (or r s) (right q) l) h.2 h.1

    or_right_from : (q : Place) (l : List Literal) (u : Place) → St (or r s) (right q) l u →
        ((v : Place) × St s q l v × (right v ≡ u))
    or_right_from q l (right v) h = (v, h, refl)
    or_right_from q l (left v) h = absurd h
    or_right_from q l first h = absurd h
    or_right_from q l last h = absurd h
    or_right_from q l (pair v w) h = absurd h
    or_right_from q l (inner v) h = absurd h

    or_steps : (x : Choice S T) → OfChoice own owns x →
        Leads (OfChoice own owns) (choices f g) ((one_of_machine m n).edges x) (St (or r s) (choices f g x))
    or_steps choice.New o =
        leads_same or_first_to or_first_from
        (leads_append (leads_renamed (λ x. choice.Left x) left (choices f g) (λ x o. o) (λ x. refl) (first_steps a))
        (leads_renamed (λ x. choice.Right x) right (choices f g) (λ x o. o) (λ x. refl) (first_steps b)))
    or_steps (choice.Left p) o =
        leads_same (or_left_to (f p)) (or_left_from (f p))
        (leads_renamed (λ x. choice.Left x) left (choices f g) (λ x o. o) (λ x. refl) (a.steps p o))
    or_steps (choice.Right q) o =
        leads_same (or_right_to (g q)) (or_right_from (g q))
        (leads_renamed (λ x. choice.Right x) right (choices f g) (λ x o. o) (λ x. refl) (b.steps q o))

    or_different : (x y : Choice S T) → OfChoice own owns x → OfChoice own owns y →
        choices f g x ≡ choices f g y → x ≡ y
    or_different choice.New choice.New o k e = refl
    or_different choice.New (choice.Left q) o k e = absurd (cc)
    or_different choice.New (choice.Right q) o k e = absurd (cc)
    or_different (choice.Left p) choice.New o k e = absurd (cc)
    or_different (choice.Left p) (choice.Left q) o k e =
        ap (λ (x : S). choice.Left x) (a.different p q o k (same_left (f p) (f q) e))
    or_different (choice.Left p) (choice.Right q) o k e = absurd (cc)
    or_different (choice.Right p) choice.New o k e = absurd (cc)
    or_different (choice.Right p) (choice.Left q) o k e = absurd (cc)
    or_different (choice.Right p) (choice.Right q) o k e =
        ap (λ (x : T). choice.Right x) (b.different p q o k (same_right (g p) (g q) e))

    or_accepts_same : (x : Choice S T) → OfChoice own owns x →
        (one_of_machine m n).accepts x ≡ accepts (or r s) (choices f g x)
    or_accepts_same choice.New o = λ i. first_accepts a i || first_accepts b i
    or_accepts_same (choice.Left p) o = a.accepts p o
    or_accepts_same (choice.Right q) o = b.accepts q o

    pub or_into : InPlaces (OfChoice own owns) (one_of_machine m n) (or r s) (choices f g)
    or_into = record {
      begins = refl;
      owned = tt;
      different = or_different;
      accepts = or_accepts_same;
      steps = or_steps;
    }

    -- both

    both_to : (p q : Place) (l : List Literal) (u : Place) →
        ((y : List Literal) × (z : List Literal) × (v : Place) × (w : Place) × St r p y v × St s q z w
        × (l ≡ put_all z y) × (pair v w ≡ u)) → St (both r s) (pair p q) l u
    both_to p q l u h = subst (St (both r s) (pair p q) l) h.7 (h.0, h.1, h.4, h.5, h.6)

    both_from : (p q : Place) (l : List Literal) (u : Place) → St (both r s) (pair p q) l u →
        ((y : List Literal) × (z : List Literal) × (v : Place) × (w : Place) × St r p y v × St s q z w
        × (l ≡ put_all z y) × (pair v w ≡ u))
    both_from p q l (pair v w) h = (h.0, h.1, v, w, h.2, h.3, h.4, refl)
    both_from p q l first h = absurd h
    both_from p q l last h = absurd h
    both_from p q l (left v) h = absurd h
    both_from p q l (right v) h = absurd h
    both_from p q l (inner v) h = absurd h

    both_steps : (x : S × T) → OfPair own owns x →
        Leads (OfPair own owns) (pairs f g) ((both_machine m n).edges x) (St (both r s) (pairs f g x))
    both_steps x o =
        leads_same (both_to (f x.0) (g x.1)) (both_from (f x.0) (g x.1))
        (leads_products (λ p q. (p, q)) (λ v w. pair v w) (pairs f g) (λ p q o k. (o, k)) (λ p q. refl)
        (a.steps x.0 o.0) (b.steps x.1 o.1))

    both_different : (x y : S × T) → OfPair own owns x → OfPair own owns y → pairs f g x ≡ pairs f g y → x ≡ y
    both_different x y o k e =
        let one = a.different x.0 y.0 o.0 k.0 (same_one (f x.0) (g x.1) (f y.0) (g y.1) e) in
        let other = b.different x.1 y.1 o.1 k.1 (same_other (f x.0) (g x.1) (f y.0) (g y.1) e) in
        λ i. (one i, other i)

    pub both_into : InPlaces (OfPair own owns) (both_machine m n) (both r s) (pairs f g)
    both_into = record {
      begins = λ i. pair (a.begins i) (b.begins i);
      owned = (a.owned, b.owned);
      different = both_different;
      accepts = λ x o. λ i. a.accepts x.0 o.0 i && b.accepts x.1 o.1 i;
      steps = both_steps;
    }
