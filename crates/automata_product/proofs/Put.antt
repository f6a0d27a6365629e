-- The edge at a place of a list that is made of others: where it leads, and what its label is.
use Rattle.std.proofs.Common.{◌≡◌, ◌↔◌, ℕ, zero, suc, [], ◌∷◌, arith, ◌+◌, ◌-◌, ◌*◌, ◌/◌, ◌%◌, ◌<◌, ◌≤◌, List}
use Rattle.std.proofs.Common.{◌++◌}
use Rattle.std.proofs.Common.{map, length, slice_get, refl, sym, ap, ◌∙◌, subst, length-append}
use Rattle.std.specs.Option.{option_map}
use Rattle.std.proofs.lemmas.List.{length-map}
use Rattle.std.proofs.lemmas.Option.{slice_get-map}
use Rattle.auto_core.specs.declared.labels.Literal.{Literal}
use Rattle.auto_core.specs.Edges.{renamed, products, LeadsTo, HasLabelAt, PutsEdge, PassesEdge}
use Rattle.auto_core.specs.LiteralSets.{IsLabel, put_all}
use Rattle.auto_core.specs.Machine.{Letter, Passes}
use Rattle.automata_product.proofs.Places.{get-append_left, get-append_right, get-products, place_split, place_within}

-- what `PutsEdge` and `PassesEdge` say of the label
abbrev pub Puts : List Literal → List Literal → List Literal → Type 0
Puts old new label = IsLabel label × (new ≡ put_all label old)

abbrev pub Passing : List Literal → List Literal → List Literal → Type 0
Passing old new label = (a : Letter) → Passes new a ↔ (Passes label a × Passes old a)

module _ {S : Type 0} where
  pub leads-left : (xs ys : List (List Literal × S)) (k : ℕ) (next : S) → LeadsTo xs k next → LeadsTo (xs ++ ys) k next
  leads-left xs ys k next h = (h.0, get-append_left xs ys k (h.0, next) h.1)

  pub leads-right : (xs ys : List (List Literal × S)) (j k : ℕ) (next : S) →
      k ≡ length xs + j → LeadsTo ys j next → LeadsTo (xs ++ ys) k next
  leads-right xs ys j k next e h = (h.0, get-append_right xs ys j k (h.0, next) e h.1)

  -- some edge stands at each place below the length
  pub edge_there : (xs : List (List Literal × S)) (k : ℕ) → k < length xs → (next : S) × LeadsTo xs k next
  edge_there [] k h = absurd (omega arith)
  edge_there (x ∷ xs) zero h = (x.1, (x.0, refl))
  edge_there (x ∷ xs) (suc k) h = edge_there xs k (omega arith)

module _ {S : Type 0} (P : List Literal → Type 0) where
  pub at-left : (xs ys : List (List Literal × S)) (k : ℕ) → HasLabelAt xs k P → HasLabelAt (xs ++ ys) k P
  at-left xs ys k h = (h.0, h.1, get-append_left xs ys k (h.0, h.1) h.2, h.3)

  pub at-right : (xs ys : List (List Literal × S)) (j k : ℕ) →
      k ≡ length xs + j → HasLabelAt ys j P → HasLabelAt (xs ++ ys) k P
  at-right xs ys j k e h = (h.0, h.1, get-append_right xs ys j k (h.0, h.1) e h.2, h.3)

  -- the label is the same where the two lists have the same edge at their places
  pub at-same : (xs ys : List (List Literal × S)) (j k : ℕ) →
      slice_get xs j ≡ slice_get ys k → HasLabelAt xs j P → HasLabelAt ys k P
  at-same xs ys j k e h = (h.0, h.1, sym e ∙ h.2, h.3)

module _ {S T : Type 0} (f : S → T) where
  pub leads-renamed : (xs : List (List Literal × S)) (k : ℕ) (next : S) →
      LeadsTo xs k next → LeadsTo (map (renamed f) xs) k (f next)
  leads-renamed xs k next h = (h.0, slice_get-map (renamed f) xs k ∙ ap (option_map (renamed f)) h.1)

  pub at-renamed : (P : List Literal → Type 0) (xs : List (List Literal × S)) (k : ℕ) →
      HasLabelAt xs k P → HasLabelAt (map (renamed f) xs) k P
  at-renamed P xs k h = (h.0, f h.1, slice_get-map (renamed f) xs k ∙ ap (option_map (renamed f)) h.2, h.3)

-- ---- the edges of one part, and after them others

module _ {S T U : Type 0} (f : S → U) (g : T → U) (es : List (List Literal × S)) (fs : List (List Literal × T)) where
  first_length : length (map (renamed f) es) ≡ length es
  first_length = length-map es (renamed f)

  pub then_count : (a c : ℕ) → a ≡ length es → c ≡ length fs → a + c ≡ length (map (renamed f) es ++ map (renamed g) fs)
  then_count a c e h =
      let last = length-map fs (renamed g) in
      omega (arith, e, h, first_length, last, length-append (map (renamed f) es) (map (renamed g) fs))

  -- a place past the first edges is one of what follows
  pub then_within : (a k : ℕ) → a ≡ length es → a ≤ k → k < length (map (renamed f) es ++ map (renamed g) fs) →
      k - a < length fs
  then_within a k e low h =
      let last = length-map fs (renamed g) in
      omega (arith, e, low, h, first_length, last, length-append (map (renamed f) es) (map (renamed g) fs))

  pub first_leads : (k : ℕ) (p : S) → LeadsTo es k p → LeadsTo (map (renamed f) es ++ map (renamed g) fs) k (f p)
  first_leads k p h = leads-left (map (renamed f) es) (map (renamed g) fs) k (f p) (leads-renamed f es k p h)

  pub then_leads : (a k : ℕ) (q : T) → a ≡ length es → a ≤ k → LeadsTo fs (k - a) q →
      LeadsTo (map (renamed f) es ++ map (renamed g) fs) k (g q)
  then_leads a k q e low h =
      leads-right (map (renamed f) es) (map (renamed g) fs) (k - a) k (g q) (omega (arith, e, low, first_length))
      (leads-renamed g fs (k - a) q h)

  pub first_at : (P : List Literal → Type 0) (k : ℕ) → HasLabelAt es k P →
      HasLabelAt (map (renamed f) es ++ map (renamed g) fs) k P
  first_at P k h = at-left P (map (renamed f) es) (map (renamed g) fs) k (at-renamed f P es k h)

  pub then_at : (P : List Literal → Type 0) (a k : ℕ) → a ≡ length es → a ≤ k → HasLabelAt fs (k - a) P →
      HasLabelAt (map (renamed f) es ++ map (renamed g) fs) k P
  then_at P a k e low h =
      at-right P (map (renamed f) es) (map (renamed g) fs) (k - a) k (omega (arith, e, low, first_length))
      (at-renamed g P fs (k - a) h)

-- ---- products

module _ {S T U : Type 0} (f : S → T → U) (xs : List (List Literal × S)) (ys : List (List Literal × T)) where
  pub leads-split : (k n : ℕ) (p : S) (q : T) → n ≡ length ys → 0 < n →
      LeadsTo xs (k / n) p → LeadsTo ys (k % n) q → LeadsTo (products f xs ys) k (f p q)
  leads-split k n p q e some h l =
      let place = place_split k n some ∙ ap (λ i. k / n * i + k % n) e in
      (put_all l.0 h.0, get-products f xs ys (k / n) (k % n) k (h.0, p) (l.0, q) place h.1 l.1)

  pub puts-split : ((ls ms : List Literal) → IsLabel ms → IsLabel (put_all ls ms)) →
      ((ls ms ns : List Literal) → put_all (put_all ls ms) ns ≡ put_all ls (put_all ms ns)) →
      (k n : ℕ) (old mid new : List Literal) → n ≡ length ys → 0 < n →
      PutsEdge xs (k / n) old mid → PutsEdge ys (k % n) mid new → PutsEdge (products f xs ys) k old new
  puts-split ordered union k n old mid new e some h l =
      let place = place_split k n some ∙ ap (λ i. k / n * i + k % n) e in (
        put_all l.0 h.0,
        f h.1 l.1,
        get-products f xs ys (k / n) (k % n) k (h.0, h.1) (l.0, l.1) place h.2 l.2,
        (ordered l.0 h.0 h.3.0, l.3.1 ∙ ap (λ s. put_all l.0 s) h.3.1 ∙ sym (union l.0 h.0 old)),
      )

pub passes-puts : {S : Type 0} →
    ((ls ms : List Literal) (a : Letter) → Passes (put_all ls ms) a ↔ (Passes ls a × Passes ms a)) →
    (edges : List (List Literal × S)) (k : ℕ) (old new : List Literal) → PutsEdge edges k old new →
    PassesEdge edges k old new
passes-puts both edges k old new h =
    let passing : Passing old new h.0 =
    λ a. subst (λ s. Passes s a ↔ (Passes h.0 a × Passes old a)) (sym h.3.1) (both h.0 old a) in
    (h.0, h.1, h.2, passing)

-- the target of a joined edge by its column, where it is the second edge's alone
pub leads-column : {S T U : Type 0} (f : T → U) (xs : List (List Literal × S)) (ys : List (List Literal × T))
    (k n : ℕ) (q : T) →
    n ≡ length ys → k < length (products (λ p q. f q) xs ys) → LeadsTo ys (k % n) q →
    LeadsTo (products (λ p q. f q) xs ys) k (f q)
leads-column f xs ys k n q e within l =
    let at = place_within (λ p q. f q) xs ys k n e within in
    let row = edge_there xs (k / n) at.1 in
    leads-split (λ p q. f q) xs ys k n row.0 q e at.0 row.1 l
