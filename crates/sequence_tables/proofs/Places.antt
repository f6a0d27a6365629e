-- Which edge stands at a place of a list that is made of others.
use Rattle.std.proofs.Common.{◌≡◌, ◌↔◌, ◌∙◌, sym, ap, subst, ℕ, zero, suc, ◌+◌, ◌*◌, ◌/◌, ◌%◌, ◌<◌, Some, List}
use Rattle.std.proofs.Common.{[]}
use Rattle.std.proofs.Common.{◌∷◌, ◌++◌, map, length, slice_get, arith}
use Rattle.std.specs.Option.{option_map}
use Rattle.std.proofs.lemmas.Option.{slice_get-map}
use Rattle.auto_core.specs.declared.labels.Literal.{Literal}
use Rattle.auto_core.specs.Edges.{renamed, LeadsTo, PutsEdge, PassesEdge}
use Rattle.auto_core.specs.LiteralSets.{IsLabel, put_all}
use Rattle.auto_core.specs.Machine.{Letter, Passes}

get-append_left : {X : Type 0} (xs ys : List X) (k : ℕ) (x : X) → slice_get xs k ≡ Some x →
    slice_get (xs ++ ys) k ≡ Some x
get-append_left [] ys k x e = absurd (cc)
get-append_left (z ∷ zs) ys zero x e = e
get-append_left (z ∷ zs) ys (suc k) x e = get-append_left zs ys k x e

-- the place k is j further than the first list
get-append_right : {X : Type 0} (xs ys : List X) (j k : ℕ) (x : X) → k ≡ length xs + j →
    slice_get ys j ≡ Some x → slice_get (xs ++ ys) k ≡ Some x
get-append_right [] ys j k x e h = subst (λ i. slice_get ys i ≡ Some x) (let s : j ≡ k = omega arith in s) h
get-append_right (z ∷ zs) ys j zero x e h = absurd (omega arith)
get-append_right (z ∷ zs) ys j (suc k) x e h = get-append_right zs ys j k x (omega arith) h

-- a place is the quotient's row and the remainder's column
pub place_split : (k n : ℕ) → 0 < n → k ≡ k / n * n + k % n
place_split k n h = omega arith

-- what `PutsEdge` says of the label
abbrev pub Puts : List Literal → List Literal → List Literal → Type 0
Puts old new label = IsLabel label × (new ≡ put_all label old)

module _ {S : Type 0} where
  pub leads-left : (xs ys : List (List Literal × S)) (k : ℕ) (next : S) → LeadsTo xs k next → LeadsTo (xs ++ ys) k next
  leads-left xs ys k next h = (h.0, get-append_left xs ys k (h.0, next) h.1)

  pub leads-right : (xs ys : List (List Literal × S)) (j k : ℕ) (next : S) →
      k ≡ length xs + j → LeadsTo ys j next → LeadsTo (xs ++ ys) k next
  leads-right xs ys j k next e h = (h.0, get-append_right xs ys j k (h.0, next) e h.1)

  pub puts-left : (xs ys : List (List Literal × S)) (k : ℕ) (old new : List Literal) →
      PutsEdge xs k old new → PutsEdge (xs ++ ys) k old new
  puts-left xs ys k old new h = (h.0, h.1, get-append_left xs ys k (h.0, h.1) h.2, h.3)

  pub puts-right : (xs ys : List (List Literal × S)) (j k : ℕ) (old new : List Literal) →
      k ≡ length xs + j → PutsEdge ys j old new → PutsEdge (xs ++ ys) k old new
  puts-right xs ys j k old new e h = (h.0, h.1, get-append_right xs ys j k (h.0, h.1) e h.2, h.3)

  pub passes-puts :
      ((ls ms : List Literal) (a : Letter) → Passes (put_all ls ms) a ↔ (Passes ls a × Passes ms a)) →
      (edges : List (List Literal × S)) (k : ℕ) (old new : List Literal) → PutsEdge edges k old new →
      PassesEdge edges k old new
  passes-puts both edges k old new h =
      let passing : (a : Letter) → Passes new a ↔ (Passes h.0 a × Passes old a) =
      λ a. subst (λ s. Passes s a ↔ (Passes h.0 a × Passes old a)) (sym h.3.1) (both h.0 old a) in
      (h.0, h.1, h.2, passing)

module _ {S T : Type 0} (f : S → T) where
  pub leads-renamed : (xs : List (List Literal × S)) (k : ℕ) (next : S) →
      LeadsTo xs k next → LeadsTo (map (renamed f) xs) k (f next)
  leads-renamed xs k next h = (h.0, slice_get-map (renamed f) xs k ∙ ap (option_map (renamed f)) h.1)

  pub puts-renamed : (xs : List (List Literal × S)) (k : ℕ) (old new : List Literal) →
      PutsEdge xs k old new → PutsEdge (map (renamed f) xs) k old new
  puts-renamed xs k old new h =
      (h.0, f h.1, slice_get-map (renamed f) xs k ∙ ap (option_map (renamed f)) h.2, h.3)
