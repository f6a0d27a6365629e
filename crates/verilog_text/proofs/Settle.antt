-- The wires in their order, and that no others settle.
use Rattle.std.proofs.Common.{◌≡◌, ℕ, zero, suc, ◌+◌, ◌<◌, ◌≤◌, List, [], ◌∷◌, ◌++◌, map, length}
use Rattle.std.proofs.Common.{refl, ap, sym, ◌∙◌, arith, Some, inl, inr}
use Rattle.std.proofs.lemmas.List.{ext_get_or, length-map, length-append}
use Rattle.std.proofs.lemmas.List.{get_or_append_left, get_or_push, get_or_past}
use Rattle.std.specs.Prelude.{◌⊎◌, slice_get, slice_index}
use Rattle.verilog_text.specs.Module.{Module, Wire, state_widths, IsLawful}
use Rattle.verilog_text.proofs.WireOrder.{ReadsItsOwn, over, wire_reads_earlier}

abbrev pub settle : Module → (sv done : List ℕ) → List Wire → List ℕ
settle m sv done [] = done
settle m sv done (w ∷ ws) = settle m sv (done ++ over m (sv ++ done) w.width w.value ∷ []) ws

abbrev pub wires_over : Module → (values : List ℕ) → List ℕ
wires_over m values = map (λ (w : Wire). over m values w.width w.value) m.wires

settle_keeps : (m : Module) (sv done : List ℕ) (ws : List Wire) (k : ℕ) → k < length done →
    slice_index (settle m sv done ws) k ≡ slice_index done k
settle_keeps m sv done [] k lt = refl
settle_keeps m sv done (w ∷ ws) k lt =
    let x = over m (sv ++ done) w.width w.value in
    settle_keeps m sv (done ++ x ∷ []) ws k (omega (arith, length-append done (x ∷ [])))
    ∙ get_or_append_left done (x ∷ []) 0 k lt

settle_length : (m : Module) (sv done : List ℕ) (ws : List Wire) →
    length (settle m sv done ws) ≡ length done + length ws
settle_length m sv done [] = omega arith
settle_length m sv done (w ∷ ws) =
    let x = over m (sv ++ done) w.width w.value in
    omega (arith, settle_length m sv (done ++ x ∷ []) ws, length-append done (x ∷ []))

settle_at : ReadsItsOwn → (m : Module) → IsLawful m → (sv done : List ℕ) → length sv ≡ length (state_widths m) →
    (ws : List Wire) (j k : ℕ) (w : Wire) → length done + j ≡ k → slice_get ws j ≡ Some w →
    slice_get m.wires k ≡ Some w →
    slice_index (settle m sv done ws) k ≡ over m (sv ++ settle m sv done ws) w.width w.value
settle_at law m lawful sv done size [] j k w e at there = absurd (cc)
settle_at law m lawful sv done size (v ∷ ws) zero k w e at there =
    let x = over m (sv ++ done) v.width v.value in
    let all = settle m sv (done ++ x ∷ []) ws in
    let is : v ≡ w = cc in
    let more : length (done ++ x ∷ []) ≡ suc (length done) = omega (arith, length-append done (x ∷ [])) in
    let here : slice_index all k ≡ x =
    settle_keeps m sv (done ++ x ∷ []) ws k (omega (arith, more)) ∙ get_or_push done x 0 k (omega arith) in
    here
    ∙ ap (λ (u : Wire). over m (sv ++ done) u.width u.value) is
    ∙ wire_reads_earlier law m lawful sv done all size k w there
    (λ l below. sym (settle_keeps m sv (done ++ x ∷ []) ws l (omega (arith, more))
    ∙ get_or_append_left done (x ∷ []) 0 l (omega arith)))
settle_at law m lawful sv done size (v ∷ ws) (suc j) k w e at there =
    let x = over m (sv ++ done) v.width v.value in
    let more : length (done ++ x ∷ []) + j ≡ k = omega (arith, length-append done (x ∷ [])) in
    settle_at law m lawful sv (done ++ x ∷ []) size ws j k w more at there

get_here : {X : Type 0} (xs : List X) (k : ℕ) → k < length xs → (x : X) × (slice_get xs k ≡ Some x)
get_here [] k lt = absurd (omega arith)
get_here (x ∷ xs) zero lt = (x, refl)
get_here (x ∷ xs) (suc k) lt = get_here xs k (omega arith)

index_mapped : {X : Type 0} (f : X → ℕ) (xs : List X) (k : ℕ) (x : X) → slice_get xs k ≡ Some x →
    slice_index (map f xs) k ≡ f x
index_mapped f [] k x at = absurd (cc)
index_mapped f (y ∷ xs) zero x at = let same : y ≡ x = cc in ap f same
index_mapped f (y ∷ xs) (suc k) x at = index_mapped f xs k x at

lt_or_le : (k n : ℕ) → (k < n) ⊎ (n ≤ k)
lt_or_le k zero = inr (omega arith)
lt_or_le zero (suc n) = inl (omega arith)
lt_or_le (suc k) (suc n) = elim (lt_or_le k n) [ inl lt ↦ inl (omega arith) | inr le ↦ inr (omega arith) ]

-- they settle
pub settled : ReadsItsOwn → (m : Module) → IsLawful m → (sv : List ℕ) → length sv ≡ length (state_widths m) →
    settle m sv [] m.wires ≡ wires_over m (sv ++ settle m sv [] m.wires)
settled law m lawful sv size =
    let all = settle m sv [] m.wires in
    let f : Wire → ℕ = λ (w : Wire). over m (sv ++ all) w.width w.value in
    let count : length all ≡ length m.wires = omega (arith, settle_length m sv [] m.wires) in
    ext_get_or 0 all (map f m.wires) (omega (arith, count, length-map m.wires f)) (λ k lt.
    let w = get_here m.wires k (omega (arith, count)) in
    settle_at law m lawful sv [] size m.wires k k w.0 (omega arith) w.1 w.1
    ∙ sym (index_mapped f m.wires k w.0 w.1))

-- and no others do
pub unique : ReadsItsOwn → (m : Module) → IsLawful m → (sv xs ys : List ℕ) → length sv ≡ length (state_widths m) →
    xs ≡ wires_over m (sv ++ xs) → ys ≡ wires_over m (sv ++ ys) → xs ≡ ys
unique law m lawful sv xs ys size is_x is_y =
    ext_get_or 0 xs ys (count xs is_x ∙ sym (count ys is_y)) (λ k lt. upto (suc k) k (omega arith))
  where
    count : (zs : List ℕ) → zs ≡ wires_over m (sv ++ zs) → length zs ≡ length m.wires
    count zs is = ap length is ∙ length-map m.wires (λ (w : Wire). over m (sv ++ zs) w.width w.value)

    value : (zs : List ℕ) → zs ≡ wires_over m (sv ++ zs) → (k : ℕ) (w : Wire) → slice_get m.wires k ≡ Some w →
        slice_index zs k ≡ over m (sv ++ zs) w.width w.value
    value zs is k w at = ap (λ (vs : List ℕ). slice_index vs k) is
        ∙ index_mapped (λ (v : Wire). over m (sv ++ zs) v.width v.value) m.wires k w at

    step : (k : ℕ) → ((j : ℕ) → j < k → slice_index xs j ≡ slice_index ys j) →
        (k < length m.wires) ⊎ (length m.wires ≤ k) → slice_index xs k ≡ slice_index ys k
    step k before (inl lt) =
        let w = get_here m.wires k lt in
        value xs is_x k w.0 w.1 ∙ wire_reads_earlier law m lawful sv xs ys size k w.0 w.1 before
        ∙ sym (value ys is_y k w.0 w.1)
    step k before (inr le) =
        get_or_past xs k 0 (omega (arith, count xs is_x)) ∙ sym (get_or_past ys k 0 (omega (arith, count ys is_y)))

    upto : (n k : ℕ) → k < n → slice_index xs k ≡ slice_index ys k
    upto zero k lt = absurd (omega arith)
    upto (suc n) k lt = elim (lt_or_le k n) [
      | inl less ↦ upto n k less
      | inr le ↦ step k (λ j below. upto n j (omega arith)) (lt_or_le k (length m.wires))
    ]
