-- What a search has seen after one more edge, and after one more state.
use Rattle.std.proofs.Common.{◌≡◌, ℕ, zero, suc, ◌+◌, ◌<◌, Bool, List, [], ◌∷◌, ◌++◌, length, get_or, map, take}
use Rattle.std.proofs.Common.{slice_get, Some, inl, inr, refl, sym, ap, ◌∙◌, subst, arith, All, append_assoc}
use Rattle.std.proofs.Common.{length-append}
use Rattle.std.specs.Bool.{Decides}
use Rattle.std.specs.List.{position_or_len}
use Rattle.std.proofs.lemmas.List.Elements.{All-push, All-same, All-contains}
use Rattle.indexmap.specs.IndexSet.{insert_key}
use Rattle.auto_core.specs.declared.tables.Edge.{Edge}
use Rattle.auto_core.specs.Machine.{Machine}
use Rattle.auto_core.specs.Graph.{Reached, by_edge, ReachesMoreThan}
use Rattle.auto_core.specs.inner.Order.{Step, once_each, numbered, same_edge, steps_from, steps_of}
use Rattle.auto_core.specs.inner.Exploring.{IsExplored, TakesEdge, FindsTooMany}
use Rattle.auto_core.proofs.Members.{Among, Contains-from_Among}
use Rattle.auto_core.proofs.SameLabel.{same_edge-Decides}
use Rattle.auto_core.proofs.Once.{Apart, Among-slice_get, Apart-push, AllPairs-from_Apart, Apart-once, Among-once}
use Rattle.auto_core.proofs.Once.{insert_key-there, insert_key-new, among_or_not, once_each-push, position-Among}
use Rattle.auto_core.proofs.Once.{position-absent, position-more, position-inserted}

pub map-append : {X Y : Type 0} (f : X → Y) (xs ys : List X) → map f (xs ++ ys) ≡ map f xs ++ map f ys
map-append f [] ys = refl
map-append f (x ∷ xs) ys = ap (λ (s : List _). f x ∷ s) (map-append f xs ys)

pub map-agree : {X Y : Type 0} (f g : X → Y) (xs : List X) → ((x : X) → Among xs x → f x ≡ g x) → map f xs ≡ map g xs
map-agree f g [] h = refl
map-agree f g (x ∷ xs) h = ap (λ (y : _). y ∷ map f xs) (h x (inl refl))
    ∙ ap (λ (s : List _). g x ∷ s) (map-agree f g xs (λ y k. h y (inr k)))

pub Among-map : {X Y : Type 0} (f : X → Y) (xs : List X) (x : X) → Among xs x → Among (map f xs) (f x)
Among-map f [] x h = h
Among-map f (y ∷ xs) x (inl e) = inl (ap f e)
Among-map f (y ∷ xs) x (inr h) = inr (Among-map f xs x h)

pub map-Among : {X Y : Type 0} (f : X → Y) (xs : List X) (y : Y) → Among (map f xs) y → (x : X) × Among xs x × (f x ≡ y)
map-Among f [] y h = absurd h
map-Among f (x ∷ xs) y (inl e) = (x, inl refl, e)
map-Among f (x ∷ xs) y (inr h) = let (z, k, e) = map-Among f xs y h in (z, inr k, e)

pub All-among : {X : Type 0} (P : X → Type 0) (xs : List X) (x : X) → All P xs → Among xs x → P x
All-among P xs x all h = All-contains P xs x all (Contains-from_Among xs x h)

pub All-from_among : {X : Type 0} (P : X → Type 0) (xs : List X) → ((x : X) → Among xs x → P x) → All P xs
All-from_among P xs f k d lt = f (get_or xs k d) (at xs k d lt)
  where
    at : {X : Type 0} (xs : List X) (k : ℕ) (d : X) → k < length xs → Among xs (get_or xs k d)
    at [] k d lt = absurd (omega arith)
    at (y ∷ xs) zero d lt = inl refl
    at (y ∷ xs) (suc k) d lt = inr (at xs k d (omega arith))

-- the steps of states one after the other
pub steps_from-push : {S : Type 0} (m : Machine S) (n : ℕ) (ss : List S) (s : S) →
    steps_from m n (ss ++ s ∷ []) ≡ steps_from m n ss ++ steps_of m (n + length ss) s
steps_from-push m n [] s =
    let e : n ≡ n + 0 = omega arith in
    nil_right (steps_of m n s) ∙ ap (λ (k : ℕ). steps_of m k s) e
  where
    nil_right : {X : Type 0} (xs : List X) → xs ++ [] ≡ xs
    nil_right [] = refl
    nil_right (x ∷ xs) = ap (λ (t : List _). x ∷ t) (nil_right xs)
steps_from-push m n (x ∷ ss) s =
    let e : suc n + length ss ≡ n + suc (length ss) = omega arith in
    ap (λ (t : List (Step _)). steps_of m n x ++ t) (steps_from-push m (suc n) ss s)
    ∙ sym (append_assoc (steps_of m n x) (steps_from m (suc n) ss) (steps_of m (suc n + length ss) s))
    ∙ ap (λ (k : ℕ). (steps_of m n x ++ steps_from m (suc n) ss) ++ steps_of m k s) e

pub take-next : {X : Type 0} (xs : List X) (i : ℕ) (x : X) → slice_get xs i ≡ Some x →
    take (i + 1) xs ≡ take i xs ++ x ∷ []
take-next [] i x h = absurd (let e = h in cc)
take-next (y ∷ xs) zero x h = let e : y ≡ x = cc in ap (λ (z : _). z ∷ []) e
take-next (y ∷ xs) (suc i) x h = let e : suc i + 1 ≡ suc (i + 1) = omega arith in ap (λ (k : ℕ). take k (y ∷ xs)) e
    ∙ ap (λ (t : List _). y ∷ t) (take-next xs i x h)

module _ {S : Type 0} (eq : S → S → Bool) (decides : (x y : S) → Decides (eq x y) (x ≡ y)) (own : S → Type 0)
    (m : Machine S) (limit : ℕ) where
  pub names-among : (steps : List (Step S)) (names : List S) (edges : List Edge) →
      IsExplored eq own m limit steps names edges → (x : S) → Among (m.start ∷ map (λ e. e.to) steps) x → Among names x
  names-among steps names edges seen x h = subst (λ (s : List S). Among s x) (sym seen.named)
      (Among-once eq decides (m.start ∷ map (λ e. e.to) steps) x h)

  pub names-apart : (steps : List (Step S)) (names : List S) (edges : List Edge) →
      IsExplored eq own m limit steps names edges → Apart names
  names-apart steps names edges seen = subst Apart (sym seen.named)
      (Apart-once eq decides (m.start ∷ map (λ e. e.to) steps))

  -- the numbers of the targets stay when a name is put in
  numbers-stay : (steps : List (Step S)) (names : List S) (edges : List Edge) (next : S) →
      IsExplored eq own m limit steps names edges → map (numbered eq (insert_key eq names next)) steps ≡ map
      (numbered eq names) steps
  numbers-stay steps names edges next seen =
      elim (among_or_not eq decides names next) [
        | inl h ↦ ap (λ (s : List S). map (numbered eq s) steps) (insert_key-there eq decides names next h)
        | inr out ↦ map-agree (numbered eq (insert_key eq names next)) (numbered eq names) steps (λ step k.
            let same : position_or_len (eq step.to) (insert_key eq names next) ≡ position_or_len (eq step.to) names =
            ap (position_or_len (eq step.to)) (insert_key-new eq decides names next out)
            ∙ position-more eq decides names (next ∷ []) step.to
            (names-among steps names edges seen step.to (inr (Among-map (λ (e : Step S). e.to) steps step k))) in
            ap (λ (n : ℕ). record { from = step.from; label = step.label; to = n }) same)
      ]

  -- one more edge of a state that is reached
  pub step_taken : (steps : List (Step S)) (names : List S) (edges : List Edge) (state : S) (from place : ℕ)
      (names' : List S) (edges' : List Edge)
      → IsExplored eq own m limit steps names edges → Reached m state →
      (taken : TakesEdge eq own m limit state from place names edges names' edges')
      → IsExplored eq own m limit (steps ++ (record { from = from; label = taken.label; to = taken.next }) ∷ [])
      names' edges'
  step_taken steps names edges state from place names' edges' seen reached taken =
      let step : Step S = record { from = from; label = taken.label; to = taken.next } in
      record {
        named =
            taken.named ∙ ap (λ (s : List S). insert_key eq s taken.next) seen.named
            ∙ sym (once_each-push eq decides (m.start ∷ map (λ e. e.to) steps) taken.next)
            ∙ ap (λ (s : List S). once_each eq (m.start ∷ s))
            (sym (map-append (λ (e : Step S). e.to) steps (step ∷ [])));
        owned = inserted own taken.owned seen.owned;
        reached = inserted (Reached m)
            (by_edge taken.label taken.next reached
            (Contains-from_Among (m.edges state) (taken.label, taken.next)
            (Among-slice_get (m.edges state) place (taken.label, taken.next) taken.there))) seen.reached;
        few = elim (among_or_not eq decides names taken.next) [
          | inl h ↦ let e : length names' ≡ length names = ap (λ (s : List S). length s)
              (taken.named ∙ insert_key-there eq decides names taken.next h) in omega (arith, seen.few)
          | inr out ↦
              let e : length names' ≡ length (names ++ taken.next ∷ []) = ap (λ (s : List S). length s)
              (taken.named ∙ insert_key-new eq decides names taken.next out) in
              let l : length (names ++ taken.next ∷ []) ≡ length names + 1 = length-append names (taken.next ∷ []) in
              let p : position_or_len (eq taken.next) names ≡ length names = position-absent eq decides names
              taken.next out in
              omega (arith, taken.room)
        ];
        joined =
            taken.added ∙ ap (λ (s : List Edge). insert_key same_edge s
            (record { from = from; label = taken.label; to = position_or_len (eq taken.next) names })) seen.joined
            ∙ sym (once_each-push same_edge same_edge-Decides (map (numbered eq names) steps)
            (record { from = from; label = taken.label; to = position_or_len (eq taken.next) names }))
            ∙ ap (once_each same_edge)
            (ap (λ (s : List Edge). s ++
            (record { from = from; label = taken.label; to = position_or_len (eq taken.next) names }) ∷ [])
            (sym (numbers-stay steps names edges taken.next seen) ∙ ap (λ (s : List S). map (numbered eq s) steps)
            (sym taken.named))
            ∙ ap (λ (n : ℕ). map (numbered eq names') steps ++ (record { from = from; label = taken.label; to = n })
            ∷ [])
            (sym (position-inserted eq decides names taken.next) ∙ ap (position_or_len (eq taken.next))
            (sym taken.named))
            ∙ sym (map-append (numbered eq names') steps (step ∷ [])));
      }
    where
      inserted : (P : S → Type 0) → P taken.next → All P names → All P names'
      inserted P here all = elim (among_or_not eq decides names taken.next) [
        | inl h ↦ All-same P names' names (taken.named ∙ insert_key-there eq decides names taken.next h) all
        | inr out ↦ All-same P names' (names ++ taken.next ∷ [])
            (taken.named ∙ insert_key-new eq decides names taken.next out) (All-push P names taken.next all here)
      ]

  -- a state for which there is no number is one too many
  pub too_many_after : (steps : List (Step S)) (names : List S) (edges : List Edge) (state : S) (place : ℕ)
      → IsExplored eq own m limit steps names edges → Reached m state → FindsTooMany eq m limit state place names →
      ReachesMoreThan m limit
  too_many_after steps names edges state place seen reached found =
      elim (among_or_not eq decides names found.next) [
        | inl h ↦ let p = (position-Among eq decides names found.next h).0 in
            absurd (omega (arith, found.full, seen.few))
        | inr out ↦
            let l : length (names ++ found.next ∷ []) ≡ length names + 1 = length-append names (found.next ∷ []) in
            let p : position_or_len (eq found.next) names ≡ length names = position-absent eq decides names
            found.next out in (
              names ++ found.next ∷ [],
              AllPairs-from_Apart (names ++ found.next ∷ [])
                  (Apart-push names found.next (names-apart steps names edges seen) out),
              All-push (Reached m) names found.next seen.reached
                  (by_edge found.label found.next reached
                  (Contains-from_Among (m.edges state) (found.label, found.next)
                  (Among-slice_get (m.edges state) place (found.label, found.next) found.there))),
              omega (arith, found.full),
            )
      ]
