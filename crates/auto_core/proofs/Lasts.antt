-- The places of the elements that pass a test, one more element at a time, and those of each state of a table.
use Rattle.std.proofs.Common.{◌≡◌, ℕ, zero, suc, ◌+◌, ◌<◌, Bool, true, false, Some, List, [], ◌∷◌, ◌++◌, get_or, subst}
use Rattle.std.proofs.Common.{◌⊎◌, inl, inr, filter, map, length, slice_get, take, take_all, refl, sym, ap, ◌∙◌, arith}
use Rattle.std.proofs.Common.{length-append}
use Rattle.std.proofs.lemmas.List.{map-append, length-map}
use Rattle.std.proofs.lemmas.Option.{slice_get_within, slice_get_read, slice_get-map, slice_get-get_or}
use Rattle.std.specs.Option.{option_map}
use Rattle.auto_core.specs.declared.labels.Literal.{Literal}
use Rattle.auto_core.specs.Edges.{last_edges}
use Rattle.auto_core.specs.Graph.{Graph, graph_machine, edges_from}
use Rattle.auto_core.specs.inner.Lasts.{HasPlaces, ListsLasts, KnowsLasts}
use Rattle.auto_core.proofs.Filtered.{counted_more, filtered_at}

-- an element of a list with one more at its end is one of the list, or that one
pub of_snoc : {X : Type 0} (xs : List X) (y x : X) (i : ℕ) → slice_get (xs ++ y ∷ []) i ≡ Some x →
    (slice_get xs i ≡ Some x) ⊎ ((i ≡ length xs) × (y ≡ x))
of_snoc [] y x zero e = inr (refl, (cc))
of_snoc [] y x (suc i) e = absurd (cc)
of_snoc (z ∷ xs) y x zero e = inl e
of_snoc (z ∷ xs) y x (suc i) e = elim (of_snoc xs y x i e) [
  | inl h ↦ inl h
  | inr h ↦ inr (ap suc h.0, h.1)
]

module _ {X : Type 0} (test : X → Bool) (xs : List X) (i : ℕ) (x : X) (places : List ℕ) (at : slice_get xs i ≡ Some x)
    (has : HasPlaces test xs i places) where
  at_last : test x ≡ true → (rank place : ℕ) → (rank ≡ length places) → i ≡ place →
      (place < length xs) × (slice_get xs place ≡ slice_get (filter test xs) rank)
  at_last passes rank place last same =
      let found : slice_get (filter test xs) (length (filter test (take i xs))) ≡ Some x =
      filtered_at test xs i x at passes in (
        (let within : i < length xs = slice_get_within xs i x at in omega (arith, within, same)),
        ap (λ n. slice_get xs n) (sym same) ∙ at ∙ sym found
            ∙ ap (λ n. slice_get (filter test xs) n) (sym has.count ∙ sym last),
      )

  pub one_more : test x ≡ true → HasPlaces test xs (i + 1) (places ++ i ∷ [])
  one_more passes = record {
    count = counted_more test xs i x true (length places) (length (places ++ i ∷ [])) at passes has.count
        (length-append places (i ∷ []));
    each = λ rank place e. elim (of_snoc places i place rank e) [
      | inl h ↦ has.each rank place h
      | inr h ↦ at_last passes rank place h.0 h.1
    ];
  }

  pub none_more : test x ≡ false → HasPlaces test xs (i + 1) places
  none_more fails = record {
    count = counted_more test xs i x false (length places) (length places) at fails has.count (omega arith);
    each = has.each;
  }

-- no place is listed before the first
pub none_yet : {X : Type 0} (test : X → Bool) (xs : List X) → HasPlaces test xs 0 []
none_yet test xs = record { count = refl; each = λ rank place e. absurd (cc) }

-- the list of one more state
pub one_more_state : {X : Type 0} (f : X → List ℕ) (g : Graph) (states : ℕ) (lasts more : List X) (x : X)
    → KnowsLasts g states (map f lasts) → more ≡ lasts ++ x ∷ []
    → ListsLasts g states (length (edges_from states g.edges)) (f x) → KnowsLasts g (states + 1) (map f more)
one_more_state f g states lasts more x knows longer lists =
    let mapped : map f more ≡ map f lasts ++ f x ∷ [] = ap (λ s. map f s) longer ∙ map-append f lasts (x ∷ []) in
    subst (λ (s : List (List ℕ)). KnowsLasts g (states + 1) s) (sym mapped) (record {
      count = length-append (map f lasts) (f x ∷ []) ∙ ap (λ n. n + 1) knows.count;
      each = λ n places e. elim (of_snoc (map f lasts) (f x) places n e) [
        | inl h ↦ knows.each n places h
        | inr h ↦ subst (λ (s : List ℕ). ListsLasts g n (length (edges_from n g.edges)) s) h.1
            (subst (λ m. ListsLasts g m (length (edges_from m g.edges)) (f x)) (sym (h.0 ∙ knows.count)) lists)
      ];
    })

-- the list of a state, found by its number
pub known_at : {X : Type 0} (f : X → List ℕ) (table g : Graph) (lasts : List X) (n : ℕ) (x : X) (places : List ℕ)
    → table ≡ g → KnowsLasts table (length table.accepting) (map f lasts) → n < length g.accepting
    → x ≡ get_or lasts n x → places ≡ f x → ListsLasts g n (length (edges_from n g.edges)) places
known_at f table g lasts n x places same knows below is shown =
    let counted : length (map f lasts) ≡ length lasts = length-map lasts f in
    let reached : length table.accepting ≡ length g.accepting = ap (λ (h : Graph). length h.accepting) same in
    let within : n < length lasts = omega (arith, knows.count, counted, reached, below) in
    let read : slice_get lasts n ≡ Some x = slice_get_read lasts (length lasts) n x refl within is in
    let found : slice_get (map f lasts) n ≡ Some (f x) = slice_get-map f lasts n ∙ ap (option_map f) read in
    subst (λ (s : List ℕ). ListsLasts g n (length (edges_from n g.edges)) s) (sym shown)
    (subst (λ (h : Graph). ListsLasts h n (length (edges_from n h.edges)) (f x)) same (knows.each n (f x) found))

module _ (g : Graph) (n : ℕ) (places : List ℕ) (lists : ListsLasts g n (length (edges_from n g.edges)) places) where
  -- as many places as last edges
  pub count_of_lasts : length places ≡ length (last_edges (graph_machine g) n)
  count_of_lasts =
      lists.count ∙ ap (λ (s : List (List Literal × ℕ)). length (filter (λ x. (graph_machine g).accepts x.1) s))
      (take_all (length (edges_from n g.edges)) (edges_from n g.edges) (omega arith))

  pub place_of_last : (rank : ℕ) → rank < length (last_edges (graph_machine g) n) →
      (get_or places rank 0 < length (edges_from n g.edges))
      × (slice_get (edges_from n g.edges) (get_or places rank 0) ≡ slice_get (last_edges (graph_machine g) n) rank)
  place_of_last rank there =
      let within : rank < length places = omega (arith, count_of_lasts, there) in
      lists.each rank (get_or places rank 0) (slice_get-get_or places rank 0 within)
