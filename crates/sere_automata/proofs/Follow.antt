-- The edges of a state, and on a condition after them the first edges of what follows.
use Rattle.std.proofs.Common.{◌≡◌, ℕ, Bool, true, false, cond, IsTrue, List, [], ◌∷◌, ◌++◌, map}
use Rattle.std.proofs.Common.{Contains}
use Rattle.std.proofs.Common.{refl, ap, ◌∙◌, arith}
use Rattle.std.specs.Option.{option_map}
use Rattle.std.proofs.lemmas.Option.{slice_get-map}
use Rattle.auto_core.specs.declared.labels.Literal.{Literal}
use Rattle.auto_core.specs.Edges.{renamed, LeadsTo, PutsEdge, PassesEdge}
use Rattle.automata_product.specs.declared.side.Side.{Side}
use Rattle.automata_product.specs.declared.side.Side.TheVariants.{Left, Right}

pub append-nil : {X : Type 0} (xs : List X) → xs ++ [] ≡ xs
append-nil [] = refl
append-nil (x ∷ xs) = ap (λ (t : List _). x ∷ t) (append-nil xs)

-- what follows is there where the condition holds, and else nothing is
pub followed : {X : Type 0} (b : Bool) (xs ys : List X) → b ≡ true → xs ++ cond b ys [] ≡ xs ++ ys
followed b xs ys e = ap (λ (c : Bool). xs ++ cond c ys []) e

pub alone : {X : Type 0} (b : Bool) (xs ys : List X) → b ≡ false → xs ++ cond b ys [] ≡ xs
alone b xs ys e = ap (λ (c : Bool). xs ++ cond c ys []) e ∙ append-nil xs

-- what a list that is there only on a condition holds
pub contains-if : {X : Type 0} (b : Bool) (xs : List X) (x : X) → IsTrue b → Contains xs x → Contains (cond b xs []) x
contains-if true xs x t h = h
contains-if false xs x t h = absurd (cc)

pub none : {X : Type 0} (x : X) → Contains [] x → ⊥
none x h = omega (arith, h.1)

pub contains-if_cases : {X : Type 0} (b : Bool) (xs : List X) (x : X) →
    Contains (cond b xs []) x → IsTrue b × Contains xs x
contains-if_cases true xs x h = (refl, h)
contains-if_cases false xs x h = absurd (none x h)

-- ---- renamed edges by their places

module _ {S U : Type 0} (f : S → U) where
  pub leads-renamed : (xs : List (List Literal × S)) (k : ℕ) (next : S) →
      LeadsTo xs k next → LeadsTo (map (renamed f) xs) k (f next)
  leads-renamed xs k next h = (h.0, slice_get-map (renamed f) xs k ∙ ap (option_map (renamed f)) h.1)

  pub puts-renamed : (xs : List (List Literal × S)) (k : ℕ) (old new : List Literal) →
      PutsEdge xs k old new → PutsEdge (map (renamed f) xs) k old new
  puts-renamed xs k old new h = (h.0, f h.1, slice_get-map (renamed f) xs k ∙ ap (option_map (renamed f)) h.2, h.3)

  pub passes-renamed : (xs : List (List Literal × S)) (k : ℕ) (old new : List Literal) →
      PassesEdge xs k old new → PassesEdge (map (renamed f) xs) k old new
  passes-renamed xs k old new h = (h.0, f h.1, slice_get-map (renamed f) xs k ∙ ap (option_map (renamed f)) h.2, h.3)

-- the edges of two states, their targets renamed by side
pub either_renamed : {S T U : Type 0} (h : Side S T → U) (es : List (List Literal × S)) (fs : List (List Literal × T)) →
    map (renamed h) (map (renamed Left) es ++ map (renamed Right) fs)
    ≡ map (renamed (λ (p : S). h (Left p))) es ++ map (renamed (λ (q : T). h (Right q))) fs
either_renamed h [] [] = refl
either_renamed {U = U} h [] (y ∷ fs) =
    ap (λ (t : List (List Literal × U)). (y.0, h (Right y.1)) ∷ t) (either_renamed h [] fs)
either_renamed {U = U} h (x ∷ es) fs =
    ap (λ (t : List (List Literal × U)). (x.0, h (Left x.1)) ∷ t) (either_renamed h es fs)
