-- The steps of a sequence under two labellings whose labels belong together.
use Rattle.std.proofs.Common.{refl, sym, subst, List, [], ◌∷◌, ◌++◌, map, inl, inr}
use Rattle.psl_model.specs.Expr.{Expr}
use Rattle.psl_meaning.specs.Sequence.{CoreSere, bool, empty, concat, fuse, or, both, star}
use Rattle.sequence_cores.specs.PlaceGraph.{Place, first, last, left, right, pair, inner, start_of, Step}
use Rattle.sequence_cores.specs.PlaceGraph.{pairs, places_in}
use Rattle.sequence_tables.specs.PlaceTable.{ReachedBy, at_start, by_step}
use Rattle.sequence_tables.proofs.Members.{Among, Among-left, Among-right, Among-map}

module _ {L M : Type 0} (label : Expr → L) (join : L → L → L) (label' : Expr → M) (join' : M → M → M)
    (R : L → M → Type 0) where
  -- the labels of each of the sequence's Booleans belong together
  abbrev pub Suits : CoreSere → Type 0
  Suits (bool b) = R (label b) (label' b)
  Suits empty = Unit {0}
  Suits (concat r s) = Suits r × Suits s
  Suits (fuse r s) = Suits r × Suits s
  Suits (or r s) = Suits r × Suits s
  Suits (both r s) = Suits r × Suits s
  Suits (star r) = Suits r

  -- if labels that are read together belong to labels that are, each step belongs to one
  pub steps_suit : ((x y : L) (x' y' : M) → R x x' → R y y' → R (join x y) (join' x' y')) →
      (r : CoreSere) → Suits r → (p : Place) (x : L) (q : Place) → Step label join r p x q →
      (y : M) × Step label' join' r p y q × R x y
  steps_suit j (bool b) a first x last h = (label' b, refl, subst (λ (z : L). R z (label' b)) (sym h) a)
  steps_suit j (concat r s) a (left p) x (left q) h = steps_suit j r a.0 p x q h
  steps_suit j (concat r s) a (right p) x (right q) h = steps_suit j s a.1 p x q h
  steps_suit j (concat r s) a (left p) x (right q) h =
      let t = steps_suit j s a.1 (start_of s) x q h.1 in (t.0, (h.0, t.1), t.2)
  steps_suit j (fuse r s) a (left p) x (left q) h = steps_suit j r a.0 p x q h
  steps_suit j (fuse r s) a (right p) x (right q) h = steps_suit j s a.1 p x q h
  steps_suit j (fuse r s) a (left p) x (right q) h =
      let t = steps_suit j r a.0 p h.0 h.2 h.3 in
      let u = steps_suit j s a.1 (start_of s) h.1 q h.5 in (
        join' t.0 u.0,
        (t.0, u.0, h.2, t.1, h.4, u.1, refl),
        subst (λ (z : L). R z (join' t.0 u.0)) (sym h.6)
            (j h.0 h.1 t.0 u.0 t.2 u.2),
      )
  steps_suit j (or r s) a first x (left q) h = steps_suit j r a.0 (start_of r) x q h
  steps_suit j (or r s) a first x (right q) h = steps_suit j s a.1 (start_of s) x q h
  steps_suit j (or r s) a (left p) x (left q) h = steps_suit j r a.0 p x q h
  steps_suit j (or r s) a (right p) x (right q) h = steps_suit j s a.1 p x q h
  steps_suit j (both r s) a (pair p q) x (pair p' q') h =
      let t = steps_suit j r a.0 p h.0 p' h.2 in
      let u = steps_suit j s a.1 q h.1 q' h.3 in (
        join' t.0 u.0,
        (t.0, u.0, t.1, u.1, refl),
        subst (λ (z : L). R z (join' t.0 u.0)) (sym h.4)
            (j h.0 h.1 t.0 u.0 t.2 u.2),
      )
  steps_suit j (star r) a first x (inner q) h = steps_suit j r a (start_of r) x q h
  steps_suit j (star r) a (inner p) x (inner q) (inl h) =
      let t = steps_suit j r a p x q h in (t.0, inl t.1, t.2)
  steps_suit j (star r) a (inner p) x (inner q) (inr h) =
      let t = steps_suit j r a (start_of r) x q h.1 in (t.0, inr (h.0, t.1), t.2)
  steps_suit j r a p x q h = absurd h

module _ {L M : Type 0} (label : Expr → L) (join : L → L → L) (label' : Expr → M) (join' : M → M → M)
    (R : L → M → Type 0) where
  pub suits_back : (r : CoreSere) → Suits label join label' join' R r →
      Suits label' join' label join (λ y x. R x y) r
  suits_back (bool b) h = h
  suits_back empty h = tt
  suits_back (concat r s) h = (suits_back r h.0, suits_back s h.1)
  suits_back (fuse r s) h = (suits_back r h.0, suits_back s h.1)
  suits_back (or r s) h = (suits_back r h.0, suits_back s h.1)
  suits_back (both r s) h = (suits_back r h.0, suits_back s h.1)
  suits_back (star r) h = suits_back r h

-- where each step has one of the other graph, each reached place is reached there
pub reached_suits : {P L M : Type 0} (start : P) (step : P → L → P → Type 0) (step' : P → M → P → Type 0) →
    ((p : P) (x : L) (q : P) → step p x q → (y : M) × step' p y q) → (p : P) → ReachedBy start step p →
    ReachedBy start step' p
reached_suits start step step' f p at_start = at_start
reached_suits start step step' f p (by_step {p = o} x next r h) =
    let t = f o x p h in by_step t.0 p (reached_suits start step step' f o r) t.1

-- ---- where steps lead

among-pairs : (ps qs : List Place) (p q : Place) → Among ps p → Among qs q → Among (pairs ps qs) (pair p q)
among-pairs [] qs p q h k = absurd h
among-pairs (o ∷ ps) qs p q (inl e) k =
    Among-left (map (pair o) qs) (pairs ps qs) (pair p q)
    (subst (λ (z : Place). Among (map (pair o) qs) (pair z q)) e (Among-map (pair o) qs q k))
among-pairs (o ∷ ps) qs p q (inr h) k =
    Among-right (map (pair o) qs) (pairs ps qs) (pair p q) (among-pairs ps qs p q h k)

on_left : (ps qs : List Place) (p : Place) → Among ps p → Among (map left ps ++ map right qs) (left p)
on_left ps qs p h = Among-left (map left ps) (map right qs) (left p) (Among-map left ps p h)

on_right : (ps qs : List Place) (q : Place) → Among qs q → Among (map left ps ++ map right qs) (right q)
on_right ps qs q h = Among-right (map left ps) (map right qs) (right q) (Among-map right qs q h)

start_place : (r : CoreSere) → Among (places_in r) (start_of r)
start_place (bool b) = inl refl
start_place empty = inl refl
start_place (concat r s) = on_left (places_in r) (places_in s) (start_of r) (start_place r)
start_place (fuse r s) = on_left (places_in r) (places_in s) (start_of r) (start_place r)
start_place (or r s) = inl refl
start_place (both r s) =
    among-pairs (places_in r) (places_in s) (start_of r) (start_of s) (start_place r) (start_place s)
start_place (star r) = inl refl

module _ {L : Type 0} (label : Expr → L) (join : L → L → L) where
  next_place : (r : CoreSere) (p : Place) (x : L) (q : Place) → Step label join r p x q → Among (places_in r) q
  next_place (bool b) first x last h = inr (inl refl)
  next_place (concat r s) (left p) x (left q) h =
      on_left (places_in r) (places_in s) q (next_place r p x q h)
  next_place (concat r s) (right p) x (right q) h =
      on_right (places_in r) (places_in s) q (next_place s p x q h)
  next_place (concat r s) (left p) x (right q) h =
      on_right (places_in r) (places_in s) q (next_place s (start_of s) x q h.1)
  next_place (fuse r s) (left p) x (left q) h =
      on_left (places_in r) (places_in s) q (next_place r p x q h)
  next_place (fuse r s) (right p) x (right q) h =
      on_right (places_in r) (places_in s) q (next_place s p x q h)
  next_place (fuse r s) (left p) x (right q) h =
      on_right (places_in r) (places_in s) q (next_place s (start_of s) h.1 q h.5)
  next_place (or r s) first x (left q) h =
      inr (on_left (places_in r) (places_in s) q (next_place r (start_of r) x q h))
  next_place (or r s) first x (right q) h =
      inr (on_right (places_in r) (places_in s) q (next_place s (start_of s) x q h))
  next_place (or r s) (left p) x (left q) h =
      inr (on_left (places_in r) (places_in s) q (next_place r p x q h))
  next_place (or r s) (right p) x (right q) h =
      inr (on_right (places_in r) (places_in s) q (next_place s p x q h))
  next_place (both r s) (pair p q) x (pair p' q') h =
      among-pairs (places_in r) (places_in s) p' q' (next_place r p h.0 p' h.2) (next_place s q h.1 q' h.3)
  next_place (star r) first x (inner q) h = inr (Among-map inner (places_in r) q (next_place r (start_of r) x q h))
  next_place (star r) (inner p) x (inner q) (inl h) =
      inr (Among-map inner (places_in r) q (next_place r p x q h))
  next_place (star r) (inner p) x (inner q) (inr h) =
      inr (Among-map inner (places_in r) q (next_place r (start_of r) x q h.1))
  next_place r p x q h = absurd h

  -- each reached place is one of the sequence's
  pub reached_place : (r : CoreSere) (p : Place) → ReachedBy (start_of r) (Step label join r) p → Among (places_in r) p
  reached_place r p at_start = start_place r
  reached_place r p (by_step {p = o} x next h k) = next_place r o x p k
