-- Which edges a list has that is made of other lists of edges.
use Rattle.std.proofs.Common.{Bool, List, [], ◌∷◌, map, filter, inl, inr, refl, sym, ap, subst, Contains}
use Rattle.std.specs.Prelude.{flat_map}
use Rattle.auto_core.specs.declared.labels.Literal.{Literal}
use Rattle.auto_core.specs.Edges.{renamed, joined_edge, products, HasRenamed, HasJoined, HasTested}
use Rattle.auto_core.proofs.Members.{Among, Contains-from_Among, Among-from_Contains}
use Rattle.auto_core.proofs.Once.{Among-append, Among-left, Among-right, Among-filter, Among-filter_back}
use Rattle.auto_core.proofs.Steps.{Among-map, map-Among}

pub has_renamed : {S U : Type 0} (f : S → U) → HasRenamed f
has_renamed {S} {U} f edges label u = (
  (λ h.
      let r = map-Among (renamed f) edges (label, u) (Among-from_Contains (map (renamed f) edges) (label, u) h) in
      let there : Among edges (label, r.0.1) =
      subst (λ (l : List Literal). Among edges (l, r.0.1)) (ap (λ (e : List Literal × U). e.0) r.2) r.1 in
      (r.0.1, Contains-from_Among edges (label, r.0.1) there, ap (λ (e : List Literal × U). e.1) r.2)),
  (λ h.
      let there = Among-map (renamed f) edges (label, h.0) (Among-from_Contains edges (label, h.0) h.1) in
      subst (λ (v : U). Contains (map (renamed f) edges) (label, v)) h.2
      (Contains-from_Among (map (renamed f) edges) (label, f h.0) there)),
)

Among-flat_map : {X Y : Type 0} (f : X → List Y) (xs : List X) (x : X) (y : Y) →
    Among xs x → Among (f x) y → Among (flat_map f xs) y
Among-flat_map f [] x y h k = absurd h
Among-flat_map {X} {Y} f (z ∷ xs) x y (inl e) k =
    Among-left (f z) (flat_map f xs) y (subst (λ (w : X). Among (f w) y) (sym e) k)
Among-flat_map f (z ∷ xs) x y (inr h) k = Among-right (f z) (flat_map f xs) y (Among-flat_map f xs x y h k)

flat_map-Among : {X Y : Type 0} (f : X → List Y) (xs : List X) (y : Y) →
    Among (flat_map f xs) y → (x : X) × Among xs x × Among (f x) y
flat_map-Among f [] y h = absurd h
flat_map-Among f (x ∷ xs) y h =
    elim (Among-append (f x) (flat_map f xs) y h) [
      | inl k ↦ (x, inl refl, k)
      | inr k ↦ let r = flat_map-Among f xs y k in (r.0, inr r.1, r.2)
    ]

pub has_joined : {S T U : Type 0} (f : S → T → U) → HasJoined f
has_joined {S} {T} {U} f xs ys z =
    let from : List Literal × S → List (List Literal × U) = λ x. map (λ y. joined_edge f x y) ys in (
      (λ h.
          let r = flat_map-Among from xs z (Among-from_Contains (products f xs ys) z h) in
          let s = map-Among (λ y. joined_edge f r.0 y) ys z r.2 in
          (r.0, s.0, Contains-from_Among xs r.0 r.1, Contains-from_Among ys s.0 s.1, s.2)),
      (λ (x, y, h, k, e).
          let row = Among-map (λ y. joined_edge f x y) ys y (Among-from_Contains ys y k) in
          let there = Among-flat_map from xs x (joined_edge f x y) (Among-from_Contains xs x h) row in
          subst (λ (v : List Literal × U). Contains (products f xs ys) v) e
          (Contains-from_Among (products f xs ys) (joined_edge f x y) there)),
    )

pub has_tested : {S : Type 0} (test : S → Bool) → HasTested test
has_tested {S} test edges x =
    let tested : List Literal × S → Bool = λ y. test y.1 in (
      (λ h.
          let r = Among-filter tested edges x (Among-from_Contains (filter tested edges) x h) in
          (Contains-from_Among edges x r.0, r.1)),
      (λ h. Contains-from_Among (filter tested edges) x
          (Among-filter_back tested edges x (Among-from_Contains edges x h.0) h.1)),
    )
