-- How many edges a state of a product or of a fusion has at most.
use Rattle.std.proofs.Common.{◌≡◌, ℕ, ◌+◌, ◌*◌, ◌<◌, ◌≤◌, ◌^◌, map, length, arith, length-append}
use Rattle.std.proofs.lemmas.List.{length-map}
use Rattle.std.proofs.lemmas.List.Sums.{length-filter, count_by-le-length}
use Rattle.std.proofs.lemmas.Nat.{mul-le}
use Rattle.auto_core.specs.Edges.{renamed, last_edges, HasAtMost}
use Rattle.auto_core.specs.Machine.{Machine}
use Rattle.automata_product.specs.declared.side.Side.{Side}
use Rattle.automata_product.specs.declared.side.Side.TheVariants.{Left, Right}
use Rattle.automata_product.specs.Both.{both_machine, OfPair}
use Rattle.automata_product.specs.Fuse.{fuse_machine, joint_edges}
use Rattle.automata_product.specs.Sides.{OfSides}
use Rattle.automata_product.proofs.Places.{length-products}

pub product_below : (i j : ℕ) → i < 2 ^ 32 → j < 2 ^ 32 → i + i * j < 2 ^ 64
product_below i j h k =
    omega (arith, h, mul-le i j 4294967295 4294967295 (omega (arith, h)) (omega (arith, k)))

module _ {S T : Type 0} (m : Machine S) (n : Machine T) where
  pub both_count : (p : S) (q : T) → length ((both_machine m n).edges (p, q)) ≡ length (m.edges p) * length (n.edges q)
  both_count p q = length-products (λ p q. (p, q)) (m.edges p) (n.edges q)

  pub fuse_right : (q : T) → length ((fuse_machine m n).edges (Right q)) ≡ length (n.edges q)
  fuse_right q = length-map (n.edges q) (renamed {U = Side S T} Right)

  pub fuse_left : (p : S) → length ((fuse_machine m n).edges (Left p))
      ≤ length (m.edges p) + length (m.edges p) * length (n.edges n.start)
  fuse_left p =
      let lasts : length (last_edges m p) ≤ length (m.edges p) =
      omega (
        arith,
        length-filter (λ x. m.accepts x.1) (m.edges p),
        count_by-le-length (λ x. m.accepts x.1)
            (m.edges p),
      ) in
      let firsts : length (n.edges n.start) ≤ length (n.edges n.start) = omega arith in
      omega (
        arith,
        mul-le (length (last_edges m p)) (length (n.edges n.start)) (length (m.edges p)) (length (n.edges n.start))
            lasts firsts,
        length-products {U = Side S T} (λ last q. Right q) (last_edges m p) (n.edges n.start),
        length-map (m.edges p) (renamed {U = Side S T} Left),
        length-append (map (renamed {U = Side S T} Left) (m.edges p)) (joint_edges m n p),
      )

  module _ {own : S → Type 0} {owns : T → Type 0} (i j : ℕ) (few : HasAtMost own m i) (more : HasAtMost owns n j) where
    pub both_few : HasAtMost (OfPair own owns) (both_machine m n) (i * j)
    both_few = record {
      start = omega (arith, both_count m.start n.start, mul-le _ _ i j few.start more.start);
      each = λ s o. omega (arith, both_count s.0 s.1, mul-le _ _ i j (few.each s.0 o.0) (more.each s.1 o.1));
    }

    left_few : (p : S) → length (m.edges p) ≤ i → length ((fuse_machine m n).edges (Left p)) ≤ i + i * j
    left_few p h = omega (arith, h, fuse_left p, mul-le _ _ i j h more.start)

    pub fuse_left_few : (p : S) → own p → length ((fuse_machine m n).edges (Left p)) ≤ i + i * j
    fuse_left_few p o = left_few p (few.each p o)

    fuse_each : (s : Side S T) → OfSides own owns s → length ((fuse_machine m n).edges s) ≤ i + j + i * j
    fuse_each (Left p) o = omega (arith, fuse_left_few p o)
    fuse_each (Right q) o = omega (arith, fuse_right q, more.each q o)

    pub fuse_few : HasAtMost (OfSides own owns) (fuse_machine m n) (i + j + i * j)
    fuse_few = record { start = omega (arith, left_few m.start few.start); each = fuse_each }
