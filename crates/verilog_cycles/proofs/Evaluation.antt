-- Evaluating the nodes in their order.
use Rattle.std.proofs.Common.{◌≡◌, ℕ, zero, suc, ◌+◌, ◌/◌, ◌%◌, ◌^◌, ◌<◌, ◌≤◌, List, [], ◌∷◌, length, set, cond, refl}
use Rattle.std.proofs.Common.{ap}
use Rattle.std.proofs.Common.{sym, ◌∙◌, arith, subst, Some, get_or, inl, inr}
use Rattle.std.proofs.lemmas.List.{get_or-set_same, get_or-set_other}
use Rattle.std.specs.Prelude.{slice_get, slice_index, slice_index_or, ◌≢◌, ◌⊎◌, ◌==◌}
use Rattle.psl_model.specs.Value.{unary_value, binary_value}
use Rattle.verilog_cycles.specs.declared.nodes.Node.{Node}
use Rattle.verilog_cycles.specs.declared.nodes.Node.TheVariants.{Number, Part, Unary, Binary, Choice}
use Rattle.verilog_cycles.specs.inner.Nodes.{node_value, IsNode, IsTape}

-- the places so far
abbrev pub MeetsBelow : (end first : ℕ) → List Node → (table : List ℕ) → Type 0
MeetsBelow end first nodes table =
    (k : ℕ) (n : Node) → first ≤ k → k < end → slice_get nodes k ≡ Some n → slice_index table k ≡ node_value table n

-- a node takes the same of tables that agree before its place
pub same_value : (count : ℕ) (n : Node) (xs ys : List ℕ) → IsNode count n →
    ((s : ℕ) → s < count → slice_index xs s ≡ slice_index ys s) → node_value xs n ≡ node_value ys n
same_value count (Number v) xs ys is same = refl
same_value count (Part p l w) xs ys is same = ap (λ (x : ℕ). x / 2 ^ l % 2 ^ w) (same p is.0)
same_value count (Unary op w a) xs ys is same = ap (unary_value op w) (same a is.1)
same_value count (Binary op c a b) xs ys is same =
    ap (λ (x : ℕ). binary_value op c x (slice_index xs b)) (same a is.1)
    ∙ ap (binary_value op c (slice_index ys a)) (same b is.2)
same_value count (Choice t a b) xs ys is same =
    ap (λ (x : ℕ). cond (x == 0) (slice_index xs b) (slice_index xs a)) (same t is.0)
    ∙ ap (λ (x : ℕ). cond (slice_index ys t == 0) x (slice_index xs a)) (same b is.2)
    ∙ ap (λ (x : ℕ). cond (slice_index ys t == 0) (slice_index ys b) x) (same a is.1)

other : (xs : List ℕ) (k v s : ℕ) → s < k → slice_index (set xs k v) s ≡ slice_index xs s
other xs k v s lt = let apart : s ≢ k = λ e. omega arith in get_or-set_other xs k s v 0 apart

same_or_below : (s n : ℕ) → s < n + 1 → (s ≡ n) ⊎ (s < n)
same_or_below zero zero lt = inl refl
same_or_below zero (suc n) lt = inr (omega arith)
same_or_below (suc s) zero lt = absurd (omega arith)
same_or_below (suc s) (suc n) lt = elim (same_or_below s n (omega arith)) [
  | inl e ↦ inl (omega arith)
  | inr below ↦
      inr (omega arith)
]

pub met_more : (end first : ℕ) (nodes : List Node) (table : List ℕ) (n : Node) (v : ℕ) → IsTape nodes →
    end < length table → slice_get nodes end ≡ Some n → v ≡ node_value table n →
    MeetsBelow end first nodes table → MeetsBelow (end + 1) first nodes (set table end v)
met_more end first nodes table n v tape lt at is met k m le below here = elim (same_or_below k end below) [
  | inr less ↦ other table end v k less ∙ met k m le less here
      ∙ sym (same_value k m (set table end v) table (tape k m here) (λ s before. other table end v s (omega arith)))
  | inl e ↦ (
      let m_at : slice_get nodes end ≡ Some m = subst (λ (j : ℕ). slice_get nodes j ≡ Some m) e here in
      let m_is : n ≡ m = cc in
      ap (λ (j : ℕ). get_or (set table end v) j 0) e ∙ get_or-set_same table end v 0 lt ∙ is ∙ ap (node_value table)
      m_is
      ∙ sym (same_value end m (set table end v) table (tape end m m_at) (λ s before. other table end v s before)))
]

pub kept_more : (first end v : ℕ) (old table : List ℕ) → first ≤ end →
    ((s : ℕ) → s < first → slice_index table s ≡ slice_index old s) →
    (s : ℕ) → s < first → slice_index (set table end v) s ≡ slice_index old s
kept_more first end v old table le kept s lt = other table end v s (omega arith) ∙ kept s lt

pub node_more : (a b : ℕ) (n : Node) → a ≤ b → IsNode a n → IsNode b n
node_more a b (Number v) le is = tt
node_more a b (Part p l w) le is = (omega (arith, is.0), is.1, is.2)
node_more a b (Unary op w p) le is = (is.0, omega (arith, is.1))
node_more a b (Binary op c p q) le is = (is.0, omega (arith, is.1), omega (arith, is.2))
node_more a b (Choice t p q) le is = (omega (arith, is.0), omega (arith, is.1), omega (arith, is.2))

pub node_there : (nodes : List Node) (k : ℕ) → k < length nodes → slice_get nodes k ≡ Some (slice_index_or nodes k
    (Number 0))
node_there [] k lt = absurd (omega arith)
node_there (x ∷ nodes) zero lt = refl
node_there (x ∷ nodes) (suc k) lt = node_there nodes k (omega arith)
