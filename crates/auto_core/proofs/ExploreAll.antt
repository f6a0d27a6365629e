-- The states one after the other, and the rows in which their edges are filed.
use Rattle.std.proofs.Common.{◌≡◌, ◌≢◌, ℕ, zero, suc, ◌+◌, ◌-◌, ◌<◌, ◌≤◌, Bool, eqb, cond, List, [], ◌∷◌, ◌++◌}
use Rattle.std.proofs.Common.{length, map, filter, take, drop, slice_get, Some, inl, inr, ◌⊎◌, refl, sym, ap, ◌∙◌}
use Rattle.std.proofs.Common.{subst, arith, All, length-append, length-drop}
use Rattle.std.proofs.lemmas.Bool.Decides.{Decides-eqb}
use Rattle.std.proofs.lemmas.List.{take-append-le, drop-append-le, take_all}
use Rattle.std.proofs.lemmas.List.Elements.{All-nil, All-append, All-weaker, All-head, All-tail, filter-append}
use Rattle.std.proofs.lemmas.Option.{slice_get_within}
use Rattle.auto_core.specs.declared.tables.Edge.{Edge}
use Rattle.auto_core.specs.declared.tables.Row.{Row}
use Rattle.auto_core.specs.Machine.{Machine}
use Rattle.auto_core.specs.inner.Rows.{HasEdgesOf}
use Rattle.auto_core.specs.inner.Order.{steps_from}
use Rattle.auto_core.specs.inner.Exploring.{IsExplored, AddsEdgesOf, AreFiled}
use Rattle.auto_core.proofs.Once.{append-nil, told}
use Rattle.auto_core.proofs.Steps.{map-append, take-next}

-- the states before the place have been explored, and a row filed for each
pub record IsPartWay {S : Type 0} (eq : S → S → Bool) (own : S → Type 0) (m : Machine S) (limit : ℕ) (from : ℕ)
    (names : List S) (edges : List Edge) (rows : List Row) : Type 0 where
  pub explored : IsExplored eq own m limit (steps_from m 0 (take from names)) names edges
  pub filed : AreFiled m names edges rows
  pub counted : length rows ≡ from
  pub within : from ≤ length names

filter-none : (n k : ℕ) (edges : List Edge) → k ≢ n → All (λ e. e.from ≡ k) edges →
    filter (λ e. eqb e.from n) edges ≡ []
filter-none n k [] other all = refl
filter-none n k (e ∷ edges) other all =
    elim (told (eqb e.from n)) [
      | inl t ↦ absurd (other (sym (All-head (λ e. e.from ≡ k) e edges all) ∙ (Decides-eqb e.from n).0 t))
      | inr f ↦ ap (λ (b : Bool). cond b (e ∷ filter (λ e. eqb e.from n) edges) (filter (λ e. eqb e.from n) edges))
          f ∙ filter-none n k edges other (All-tail (λ e. e.from ≡ k) e edges all)
    ]

filter-below : (n : ℕ) (edges : List Edge) → All (λ e. e.from < n) edges → filter (λ e. eqb e.from n) edges ≡ []
filter-below n [] all = refl
filter-below n (e ∷ edges) all =
    elim (told (eqb e.from n)) [
      | inl t ↦ absurd (omega (arith, All-head (λ e. e.from < n) e edges all, (Decides-eqb e.from n).0 t))
      | inr f ↦ ap (λ (b : Bool). cond b (e ∷ filter (λ e. eqb e.from n) edges) (filter (λ e. eqb e.from n) edges))
          f ∙ filter-below n edges (All-tail (λ e. e.from < n) e edges all)
    ]

filter-all : (n : ℕ) (edges : List Edge) → All (λ e. e.from ≡ n) edges → filter (λ e. eqb e.from n) edges ≡ edges
filter-all n [] all = refl
filter-all n (e ∷ edges) all =
    ap (λ (b : Bool). cond b (e ∷ filter (λ e. eqb e.from n) edges) (filter (λ e. eqb e.from n) edges))
    ((Decides-eqb e.from n).1 (All-head (λ e. e.from ≡ n) e edges all))
    ∙ ap (λ (s : List Edge). e ∷ s) (filter-all n edges (All-tail (λ e. e.from ≡ n) e edges all))

drop-length : {X : Type 0} (xs ys : List X) → drop (length xs) (xs ++ ys) ≡ ys
drop-length [] ys = drop_zero ys
  where
    drop_zero : {X : Type 0} (ys : List X) → drop 0 ys ≡ ys
    drop_zero [] = refl
    drop_zero (y ∷ ys) = refl
drop-length (x ∷ xs) ys = drop-length xs ys

-- a row keeps its edges when more are filed behind
kept_row : (edges more : List Edge) (n from : ℕ) (row : Row) → n < from → All (λ e. e.from ≡ from) more →
    HasEdgesOf edges n row → HasEdgesOf (edges ++ more) n row
kept_row edges more n from row lt all has =
    let l : length (edges ++ more) ≡ length edges + length more = length-append edges more in
    let d : length (drop row.first edges) ≡ length edges - row.first = length-drop row.first edges in
    record {
      in_order = has.in_order;
      within = omega (arith, has.within);
      there =
          ap (take (row.end - row.first))
          (drop-append-le row.first edges more (omega (arith, has.in_order, has.within)))
          ∙ take-append-le (row.end - row.first) (drop row.first edges) more (omega (arith, has.in_order, has.within))
          ∙ has.there
          ∙ sym (append-nil (filter (λ e. eqb e.from n) edges))
          ∙ ap (λ (s : List Edge). filter (λ e. eqb e.from n) edges ++ s)
          (sym (filter-none n from more (λ e. omega arith) all))
          ∙ sym (filter-append (λ e. eqb e.from n) edges more);
    }

-- the row of the newest state
new_row : (edges more : List Edge) (from : ℕ) (row : Row) → All (λ e. e.from < from) edges →
    All (λ e. e.from ≡ from) more → row.first ≡ length edges → row.end ≡ length (edges ++ more) →
    HasEdgesOf (edges ++ more) from row
new_row edges more from row before all first end =
    let l : length (edges ++ more) ≡ length edges + length more = length-append edges more in
    let n : row.end - row.first ≡ length more = omega arith in
    record {
      in_order = omega arith;
      within = omega arith;
      there =
          ap (λ (k : ℕ). take k (drop row.first (edges ++ more))) n
          ∙ ap (λ (k : ℕ). take (length more) (drop k (edges ++ more))) first
          ∙ ap (take (length more)) (drop-length edges more)
          ∙ take_all (length more) more (omega arith)
          ∙ sym (filter-all from more all)
          ∙ ap (λ (s : List Edge). s ++ filter (λ e. eqb e.from from) more) (sym (filter-below from edges before))
          ∙ sym (filter-append (λ e. eqb e.from from) edges more);
    }

slice_get-push_cases : {X : Type 0} (xs : List X) (x : X) (n : ℕ) (y : X) → slice_get (xs ++ x ∷ []) n ≡ Some y →
    ((n < length xs) × (slice_get xs n ≡ Some y)) ⊎ ((n ≡ length xs) × (x ≡ y))
slice_get-push_cases [] x zero y h = inr (refl, (let e : x ≡ y = cc in e))
slice_get-push_cases [] x (suc n) y h = absurd (let e = h in cc)
slice_get-push_cases (z ∷ xs) x zero y h = inl (omega arith, h)
slice_get-push_cases (z ∷ xs) x (suc n) y h = elim (slice_get-push_cases xs x n y h)
    [ inl k ↦ inl (omega (arith, k.0), k.1) | inr k ↦ inr (ap suc k.0, k.1) ]

module _ {S : Type 0} (eq : S → S → Bool) (own : S → Type 0) (m : Machine S) (limit : ℕ) where
  pub all_begun : (names : List S) (edges : List Edge) (rows : List Row) →
      IsExplored eq own m limit [] names edges → rows ≡ [] → IsPartWay eq own m limit 0 names edges rows
  all_begun names edges rows seen none = subst (λ (r : List Row). IsPartWay eq own m limit 0 names edges r)
      (sym none) (record {
        explored = subst (λ (s : List S). IsExplored eq own m limit (steps_from m 0 s) names edges)
            (sym (nothing names)) seen;
        filed = record {
          accepting = sym (ap (map m.accepts) (nothing names));
          rows_there = λ n row h. absurd (let e = h in cc);
          below = subst (All (λ e. e.from < 0)) (sym seen.joined) (All-nil (λ e. e.from < 0));
        };
        counted = refl;
        within = omega arith;
      })
    where
      nothing : {X : Type 0} (xs : List X) → take 0 xs ≡ []
      nothing [] = refl
      nothing (x ∷ xs) = refl

  pub state_filed : (from : ℕ) (names : List S) (edges : List Edge) (rows : List Row) (state : S) (row : Row)
      (names' : List S) (edges' : List Edge)
      → IsPartWay eq own m limit from names edges rows → slice_get names from ≡ Some state
      → IsExplored eq own m limit (steps_from m 0 (take (from + 1) names')) names' edges'
      → (more : List S) × (names' ≡ names ++ more) → AddsEdgesOf from edges edges'
      → row.accepts ≡ m.accepts state → row.first ≡ length edges → row.end ≡ length edges'
      → IsPartWay eq own m limit (from + 1) names' edges' (rows ++ row ∷ [])
  state_filed from names edges rows state row names' edges' before named explored grows adds accepts first end =
      let within : from < length names = slice_get_within names from state named in
      let longer : length names' ≡ length (names ++ grows.0) = ap (λ (s : List S). length s) grows.1 in
      let long : length (names ++ grows.0) ≡ length names + length grows.0 = length-append names grows.0 in
      let count : length (rows ++ row ∷ []) ≡ length rows + 1 = length-append rows (row ∷ []) in
      let front : take from names' ≡ take from names = ap (take from) grows.1 ∙ take-append-le from names grows.0
      (omega arith) in
      let here : slice_get names' from ≡ Some state = ap (λ (s : List S). slice_get s from) grows.1
      ∙ still names grows.0 from state named in
      let next : take (from + 1) names' ≡ take from names ++ state ∷ [] = take-next names' from state here
      ∙ ap (λ (s : List S). s ++ state ∷ []) front in
      record {
        explored = explored;
        filed = record {
          accepting =
              map-append (λ (r : Row). r.accepts) rows (row ∷ [])
              ∙ ap (λ (s : List Bool). s ++ row.accepts ∷ [])
              (before.filed.accepting ∙ ap (λ (k : ℕ). map m.accepts (take k names)) before.counted)
              ∙ ap (λ (b : Bool). map m.accepts (take from names) ++ b ∷ []) accepts
              ∙ sym (map-append m.accepts (take from names) (state ∷ []))
              ∙ ap (map m.accepts) (sym next)
              ∙ ap (λ (k : ℕ). map m.accepts (take k names'))
              (let e : from + 1 ≡ length (rows ++ row ∷ []) = omega (arith, before.counted) in e);
          rows_there = λ n r h. subst (λ (s : List Edge). HasEdgesOf s n r) (sym adds.1)
              (elim (slice_get-push_cases rows row n r h) [
                | inl k ↦ kept_row edges adds.0 n from r (omega (arith, k.0, before.counted)) adds.2
                    (before.filed.rows_there n r k.1)
                | inr k ↦ subst (λ (q : Row). HasEdgesOf (edges ++ adds.0) n q) k.1
                    (subst (λ (i : ℕ). HasEdgesOf (edges ++ adds.0) i row)
                    (let e : from ≡ n = omega (arith, k.0, before.counted) in e)
                    (new_row edges adds.0 from row
                    (All-weaker (λ e. e.from < length rows) (λ e. e.from < from)
                    (λ e lt. omega (arith, lt, before.counted)) edges before.filed.below) adds.2 first
                    (end ∙ ap (λ (s : List Edge). length s) adds.1)))
              ]);
          below = subst (All (λ e. e.from < length (rows ++ row ∷ []))) (sym adds.1)
              (All-append (λ e. e.from < length (rows ++ row ∷ [])) edges adds.0
              (All-weaker (λ e. e.from < length rows) (λ e. e.from < length (rows ++ row ∷ []))
              (λ e lt. omega (arith, lt)) edges before.filed.below)
              (All-weaker (λ e. e.from ≡ from) (λ e. e.from < length (rows ++ row ∷ []))
              (λ e is. omega (arith, is, before.counted)) adds.0 adds.2));
        };
        counted = omega (arith, before.counted);
        within = omega arith;
      }
    where
      still : {X : Type 0} (xs ys : List X) (i : ℕ) (x : X) → slice_get xs i ≡ Some x → slice_get (xs ++ ys) i ≡ Some x
      still [] ys i x h = absurd (let e = h in cc)
      still (y ∷ xs) ys zero x h = h
      still (y ∷ xs) ys (suc i) x h = still xs ys i x h

  -- the same, for a list of rows that is known by an equation
  pub state_filed_in : (from : ℕ) (names : List S) (edges : List Edge) (rows : List Row) (state : S) (row : Row)
      (names' : List S) (edges' : List Edge) (rows' : List Row)
      → rows' ≡ rows ++ row ∷ []
      → IsPartWay eq own m limit from names edges rows → slice_get names from ≡ Some state
      → IsExplored eq own m limit (steps_from m 0 (take (from + 1) names')) names' edges'
      → (more : List S) × (names' ≡ names ++ more) → AddsEdgesOf from edges edges'
      → row.accepts ≡ m.accepts state → row.first ≡ length edges → row.end ≡ length edges'
      → IsPartWay eq own m limit (from + 1) names' edges' rows'
  state_filed_in from names edges rows state row names' edges' rows' same before named explored grows adds accepts
      first end =
      subst (λ (r : List Row). IsPartWay eq own m limit (from + 1) names' edges' r) (sym same)
      (state_filed from names edges rows state row names' edges' before named explored grows adds accepts first end)

  -- no state is left
  pub all_done : (from : ℕ) (names : List S) (edges : List Edge) (rows : List Row) →
      IsPartWay eq own m limit from names edges rows → length names ≤ from
      → IsExplored eq own m limit (steps_from m 0 names) names edges × (length rows ≡ length names)
  all_done from names edges rows part none = (
    subst (λ (s : List S). IsExplored eq own m limit (steps_from m 0 s) names edges) (take_all from names none)
        part.explored,
    omega (arith, part.counted, part.within),
  )
