-- The edges of a left state of a fusion, by their places.
use Rattle.std.proofs.Common.{◌≡◌, ℕ, ◌+◌, ◌*◌, ◌/◌, ◌%◌, ◌<◌, List, map, length, slice_get, sym, ap, ◌∙◌, subst}
use Rattle.std.proofs.Common.{arith, length-append}
use Rattle.std.proofs.lemmas.List.{length-map}
use Rattle.auto_core.specs.declared.labels.Literal.{Literal}
use Rattle.auto_core.specs.Machine.{Machine}
use Rattle.automata_product.specs.declared.side.Side.{Side}
use Rattle.automata_product.specs.declared.side.Side.TheVariants.{Left, Right}
use Rattle.auto_core.specs.Edges.{renamed, last_edges, LeadsTo, HasLabelAt, PutsEdge}
use Rattle.auto_core.specs.LiteralSets.{IsLabel, put_all}
use Rattle.automata_product.specs.Fuse.{joint_edges, fuse_edges}
use Rattle.automata_product.proofs.Places.{place_within, count_products}
use Rattle.automata_product.proofs.Put.{leads-column, puts-split, Puts, at-same, at-left, at-right, at-renamed}

module _ {S T : Type 0} (m : Machine S) (n : Machine T) (p : S) where
  -- where c is the number of the edges of s, the right part's start
  at_start : (s : T) (c : ℕ) → s ≡ n.start → c ≡ length (n.edges s) → c ≡ length (n.edges n.start)
  at_start s c e h = h ∙ ap (λ t. length (n.edges t)) e

  pub joint_within : (s : T) (c k : ℕ) → s ≡ n.start → c ≡ length (n.edges s) → k < length (joint_edges m n p) →
      (0 < c) × (k / c < length (last_edges m p)) × (k % c < length (n.edges s))
  joint_within s c k e h within =
      let at = place_within (λ last q. Right q) (last_edges m p) (n.edges n.start) k c (at_start s c e h) within in
      (at.0, at.1, subst (λ t. k % c < length (n.edges t)) (sym e) at.2)

  pub joint_leads : (s : T) (c k : ℕ) (q : T) → s ≡ n.start → c ≡ length (n.edges s) →
      k < length (joint_edges m n p) → LeadsTo (n.edges s) (k % c) q → LeadsTo (joint_edges m n p) k (Right q)
  joint_leads s c k q e h within l =
      leads-column (λ q. Right q) (last_edges m p) (n.edges n.start) k c q (at_start s c e h) within
      (subst (λ t. LeadsTo (n.edges t) (k % c) q) e l)

  pub joint_puts : ((ls ms : List Literal) → IsLabel ms → IsLabel (put_all ls ms)) →
      ((ls ms ns : List Literal) → put_all (put_all ls ms) ns ≡ put_all ls (put_all ms ns)) →
      (s : T) (c k last : ℕ) (old mid new : List Literal) → s ≡ n.start → c ≡ length (n.edges s) → 0 < c →
      slice_get (m.edges p) last ≡ slice_get (last_edges m p) (k / c) →
      PutsEdge (m.edges p) last old mid → PutsEdge (n.edges s) (k % c) mid new → PutsEdge (joint_edges m n p) k old new
  joint_puts ordered union s c k last old mid new e h some same first second =
      puts-split (λ last q. Right q) (last_edges m p) (n.edges n.start) ordered union k c old mid new
      (at_start s c e h) some
      (at-same (Puts old mid) (m.edges p) (last_edges m p) last (k / c) same first)
      (subst (λ t. PutsEdge (n.edges t) (k % c) mid new) e second)

  pub fuse_count : (s : T) (a b c : ℕ) → a ≡ length (m.edges p) → b ≡ length (last_edges m p) → s ≡ n.start →
      c ≡ length (n.edges s) → a + b * c ≡ length (fuse_edges m n (Left p))
  fuse_count s a b c own lasts e h =
      let joint : b * c ≡ length (joint_edges m n p) = count_products (λ last q. Right q) (last_edges m p)
      (n.edges n.start) b c lasts (at_start s c e h) in
      let front : length (map (renamed {U = Side S T} Left) (m.edges p)) ≡ length (m.edges p) =
      length-map (m.edges p) (renamed Left) in
      omega (
        arith,
        joint,
        own,
        front,
        length-append (map (renamed {U = Side S T} Left) (m.edges p))
            (joint_edges m n p),
      )

  pub left_at : (P : List Literal → Type 0) (k : ℕ) → HasLabelAt (m.edges p) k P →
      HasLabelAt (fuse_edges m n (Left p)) k P
  left_at P k h = at-left P (map (renamed Left) (m.edges p)) (joint_edges m n p) k (at-renamed Left P (m.edges p) k h)

  pub after_left_at : (P : List Literal → Type 0) (k j a : ℕ) → a ≡ length (m.edges p) → k ≡ a + j →
      HasLabelAt (joint_edges m n p) j P → HasLabelAt (fuse_edges m n (Left p)) k P
  after_left_at P k j a own e h =
      at-right P (map (renamed Left) (m.edges p)) (joint_edges m n p) j k
      (e ∙ ap (λ i. i + j) (own ∙ sym (length-map (m.edges p) (renamed Left)))) h
