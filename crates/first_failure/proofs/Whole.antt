-- Rows made of reached sets have all their entries, and these name rows.
use Rattle.std.proofs.Common.{◌≡◌, ◌≢◌, ℕ, zero, suc, ◌+◌, ◌*◌, ◌^◌, ◌<◌, ◌⊎◌, Bool, true, false, eqb, cond, List, []}
use Rattle.std.proofs.Common.{◌∷◌, Some, All, AllPairs, Contains, length, map, get_or, slice_get, inl, inr, refl, sym}
use Rattle.std.proofs.Common.{ap, ◌∙◌, subst, arith}
use Rattle.std.specs.List.{AllByRecursion}
use Rattle.std.proofs.Math.Nat.{pow-suc}
use Rattle.std.proofs.lemmas.Bool.Decides.{Decides-eqb}
use Rattle.std.proofs.lemmas.List.{length-map}
use Rattle.std.proofs.lemmas.List.Elements.{All-contains}
use Rattle.std.proofs.lemmas.Option.{same_Some, slice_get_within}
use Rattle.auto_core.specs.Machine.{Machine}
use Rattle.weak_determinise.specs.declared.sets.SetNode.{SetNode}
use Rattle.weak_determinise.specs.declared.sets.Move.{Move}
use Rattle.weak_determinise.specs.declared.sets.Move.TheVariants.{Empty, Accepting, Set}
use Rattle.weak_determinise.specs.Nodes.{number_of, IsMove, IsNode, AreReachedSets}
use Rattle.first_failure.specs.declared.automaton.Next.TheVariants.{Go}
use Rattle.first_failure.specs.declared.automaton.FailRow.{FailRow}
use Rattle.first_failure.specs.FirstFailure.{next_of, row_of, IsWholeRow, IsWhole}

-- ---- digits of a number

parity : (v : ℕ) → (h : ℕ) × ((v ≡ 2 * h) ⊎ (v ≡ 1 + 2 * h))
parity zero = (0, inl refl)
parity (suc v) =
    let (h, is) = parity v in
    elim is [ inl e ↦ (h, inr (omega (arith, e))) | inr e ↦ (suc h, inl (omega (arith, e))) ]

digits : (n v : ℕ) → v < 2 ^ n → (bits : List Bool) × (length bits ≡ n) × (number_of bits ≡ v)
digits zero v lt = ([], refl, (let one : 2 ^ 0 ≡ 1 = refl in omega (arith, lt, one)))
digits (suc n) v lt =
    let (h, is) = parity v in
    let power : 2 ^ suc n ≡ 2 ^ n * 2 = pow-suc 2 n in
    let small : h < 2 ^ n = elim is [ inl e ↦ omega (arith, e, power, lt) | inr e ↦ omega (arith, e, power, lt) ] in
    let (bits, l, number) = digits n h small in
    elim is [
      | inl e ↦ (false ∷ bits, ap suc l, omega (arith, e, number))
      | inr e ↦ (true ∷ bits, ap suc l, omega (arith, e, number))
    ]

-- ---- values with given digits

abbrev Rising : List ℕ → Type 0
Rising [] = Unit {0}
Rising (x ∷ xs) = AllByRecursion (λ y. x < y) xs × Rising xs

above : (x : ℕ) (xs : List ℕ) → ((j : ℕ) → j < length xs → x < get_or xs j 0) → AllByRecursion (λ y. x < y) xs
above x [] h = tt
above x (y ∷ ys) h = (h 0 (omega arith), above x ys (λ j lt. h (suc j) (omega arith)))

rising : (xs : List ℕ) → AllPairs (λ x y. x < y) xs → Rising xs
rising [] h = tt
rising (x ∷ xs) h = (
  above x xs (λ j lt. h 0 (suc j) 0 (omega arith) (omega arith)),
  rising xs (λ i j d lt within. h (suc i) (suc j) d (omega arith) (omega arith)),
)

values_for : List ℕ → List Bool → ℕ → Bool
values_for [] bits x = false
values_for (s ∷ ss) [] x = false
values_for (s ∷ ss) (b ∷ bs) x = cond (eqb x s) b (values_for ss bs x)

told : (b : Bool) → (b ≡ true) ⊎ (b ≡ false)
told true = inl refl
told false = inr refl

differs : (x y : ℕ) → x ≢ y → eqb x y ≡ false
differs x y apart = elim (told (eqb x y)) [ inl e ↦ absurd (apart ((Decides-eqb x y).0 e)) | inr e ↦ e ]

agree : (P : ℕ → Type 0) (f g : ℕ → Bool) (xs : List ℕ) → AllByRecursion P xs → ((x : ℕ) → P x → f x ≡ g x) →
    map f xs ≡ map g xs
agree P f g [] all h = refl
agree P f g (x ∷ xs) all h = ap (λ (b : Bool). b ∷ map f xs) (h x all.0)
    ∙ ap (λ (s : List Bool). g x ∷ s) (agree P f g xs all.1 h)

values_are : (symbols : List ℕ) (bits : List Bool) → Rising symbols → length bits ≡ length symbols →
    map (values_for symbols bits) symbols ≡ bits
unfolding values_for
values_are [] [] up l = refl
values_are [] (b ∷ bs) up l = absurd (omega arith)
values_are (s ∷ ss) [] up l = absurd (omega arith)
values_are (s ∷ ss) (b ∷ bs) up l =
    let first : cond (eqb s s) b (values_for ss bs s) ≡ b =
    ap (λ (t : Bool). cond t b (values_for ss bs s)) ((Decides-eqb s s).1 refl) in
    let rest : map (λ x. cond (eqb x s) b (values_for ss bs x)) ss ≡ map (values_for ss bs) ss =
    agree (λ y. s < y) (λ x. cond (eqb x s) b (values_for ss bs x)) (values_for ss bs) ss up.0 (λ x over.
    let apart : x ≢ s = λ e. omega (arith, e, over) in
    ap (λ (t : Bool). cond t b (values_for ss bs x)) (differs x s apart)) in
    let tail : map (values_for ss bs) ss ≡ bs = values_are ss bs up.1 (omega arith) in
    ap (λ (c : Bool). c ∷ map (λ x. cond (eqb x s) b (values_for ss bs x)) ss) first
    ∙ ap (λ (t : List Bool). b ∷ t) (rest ∙ tail)

-- ---- the rows

go_from : (move : Move) (n : ℕ) → next_of move ≡ Go n → move ≡ Set n
go_from Empty n e = absurd (let f = e in cc)
go_from Accepting n e = absurd (let f = e in cc)
go_from (Set k) n e = ap (λ (i : ℕ). Set i) (let f : k ≡ n = cc in f)

-- a mapped list has a value where the list has a move of it
from_mapped : (moves : List Move) (n : ℕ) → Contains (map next_of moves) (Go n) →
    (k : ℕ) × (k < length moves) × (slice_get moves k ≡ Some (Set n))
from_mapped [] n (k, lt, e) = absurd (omega arith)
from_mapped (move ∷ moves) n (zero, lt, e) =
    (0, omega arith, ap (λ (m : Move). Some m) (go_from move n e))
from_mapped (move ∷ moves) n (suc k, lt, e) =
    let (i, below, at) = from_mapped moves n (k, omega arith, e) in (suc i, omega (arith, below), at)

-- what holds of each element of a list holds of the mapped ones
all_mapped : (P : FailRow → Type 0) (nodes : List SetNode) → ((node : SetNode) → Contains nodes node →
    P (row_of node)) →
    All P (map row_of nodes)
all_mapped P [] f i d lt = absurd (omega arith)
all_mapped P (node ∷ nodes) f zero d lt = f node (0, omega arith, refl)
all_mapped P (node ∷ nodes) f (suc i) d lt =
    all_mapped P nodes (λ other h. f other (suc h.0, (let below = h.1 in omega (arith, below)), h.2)) i d (omega arith)

module _ (m : Machine ℕ) (nodes : List SetNode) (sets : AreReachedSets m nodes) where
  rows_there : (n : ℕ) → n < length nodes → n < length (map row_of nodes)
  rows_there n lt = let long = length-map nodes row_of in omega (arith, lt, long)

  named : (node : SetNode) → IsNode m nodes node → (n : ℕ) → Contains (map next_of node.moves) (Go n) →
      n < length nodes
  named node is n h =
      let (k, lt, at) = from_mapped node.moves n h in
      let (bits, l, number) = digits (length node.leaving) k (let count = is.count in omega (arith, lt, count)) in
      let same : map (values_for node.leaving bits) node.leaving ≡ bits =
      values_are node.leaving bits (rising node.leaving is.leaving) l in
      let (move, there, tells) = is.moves (values_for node.leaving bits) in
      let place : number_of (map (values_for node.leaving bits) node.leaving) ≡ k = ap number_of same ∙ number in
      let one : move ≡ Set n = same_Some move (Set n) (sym there ∙ ap (slice_get node.moves) place ∙ at) in
      let (next, stands, gives, some, none) =
      subst (IsMove m nodes node.places (values_for node.leaving bits)) one tells in
      slice_get_within nodes n next stands

  pub is_whole : IsWhole (record { rows = map row_of nodes })
  is_whole = record {
    first = let (node, at, alone) = sets.start in rows_there 0 (slice_get_within nodes 0 node at);
    each = all_mapped (IsWholeRow (record { rows = map row_of nodes })) nodes (λ node h.
        let is = All-contains (IsNode m nodes) nodes node sets.all_nodes h in
        record {
          entries = length-map node.moves next_of ∙ is.count;
          named = λ n there. rows_there n (named node is n there);
        });
  }
