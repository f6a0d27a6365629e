-- Each netlist whose nodes name earlier nets has a run over any inputs.
use Rattle.std.specs.Prelude.{ℕ, zero, suc, ◌≡◌, ◌<◌, ◌+◌, ◌++◌, List, [], ◌∷◌, Option, Some, None, IfSome}
use Rattle.std.specs.Prelude.{length, get_or, slice_get}
use Rattle.std.proofs.Common.{refl, sym, ap, ◌∙◌, arith, length-append}
use Rattle.std.proofs.lemmas.List.{get_or_append_left, get_or_push}
use Rattle.std.proofs.lemmas.Option.{same_Some, get_or_from_slice_get}
use Rattle.psl_model.specs.Value.{own_value}
use Rattle.circuit_core.specs.Netlist.{Op, bit, eot, guard, not, and, or, register, Node, Register, Netlist}
use Rattle.circuit_core.specs.Run.{Run, Inputs, number, truth, flipped, both, either}
use Rattle.circuit_core.specs.Run.{Equation, IsRunOf}
use Rattle.circuit_core.specs.WellMade.{IsOpAt, IsWellMade}

-- what is known in a cycle before its nets are
pub record Cycle : Type 0 where
  pub widths : List ℕ
  pub values : List ℕ
  pub end : ℕ
  pub state : ℕ → ℕ

abbrev pub value : Cycle → List ℕ → Op → ℕ
value c nets (bit b) = number b
value c nets eot = truth c.end
value c nets (guard e) = truth (own_value c.widths c.values e)
value c nets (not a) = flipped (get_or nets a 0)
value c nets (and a b) = both (get_or nets a 0) (get_or nets b 0)
value c nets (or a b) = either (get_or nets a 0) (get_or nets b 0)
value c nets (register r) = c.state r

abbrev pub settle : Cycle → List ℕ → List Node → List ℕ
settle c nets [] = nets
settle c nets (node ∷ nodes) = settle c (nets ++ value c nets node.op ∷ []) nodes

settle_keeps : (c : Cycle) (nets : List ℕ) (ops : List Node) (k : ℕ) → k < length nets →
    get_or (settle c nets ops) k 0 ≡ get_or nets k 0
settle_keeps c nets [] k within = refl
settle_keeps c nets (op ∷ ops) k within =
    let more = nets ++ value c nets op.op ∷ [] in
    settle_keeps c more ops k (omega (arith, length-append nets (value c nets op.op ∷ [])))
    ∙ get_or_append_left nets (value c nets op.op ∷ []) 0 k within

same_value : (m : Netlist) (c : Cycle) (xs ys : List ℕ) (k : ℕ) (op : Op) → IsOpAt m k op →
    ((j : ℕ) → j < k → get_or xs j 0 ≡ get_or ys j 0) → value c xs op ≡ value c ys op
same_value m c xs ys k (bit b) early same = refl
same_value m c xs ys k eot early same = refl
same_value m c xs ys k (guard e) early same = refl
same_value m c xs ys k (not a) early same = ap (λ x. flipped x) (same a early)
same_value m c xs ys k (and a b) early same = ap (λ x. both x (get_or xs b 0)) (same a early.0)
    ∙ ap (λ y. both (get_or ys a 0) y) (same b early.1)
same_value m c xs ys k (or a b) early same = ap (λ x. either x (get_or xs b 0)) (same a early.0)
    ∙ ap (λ y. either (get_or ys a 0) y) (same b early.1)
same_value m c xs ys k (register r) early same = refl

settled : (m : Netlist) (c : Cycle) (nets : List ℕ) (nodes : List Node) (j k : ℕ) (node : Node) →
    length nets + j ≡ k → slice_get nodes j ≡ Some node → IsOpAt m k node.op →
    get_or (settle c nets nodes) k 0 ≡ value c (settle c nets nodes) node.op
settled m c nets [] j k node e at early = absurd (cc)
settled m c nets (o ∷ nodes) zero k node e at early =
    let is : o ≡ node = same_Some o node at in
    let more = nets ++ value c nets o.op ∷ [] in
    let longer : length more ≡ length nets + 1 = length-append nets (value c nets o.op ∷ []) in
    let here : get_or (settle c more nodes) k 0 ≡ value c nets o.op =
    settle_keeps c more nodes k (omega (arith, longer)) ∙ get_or_push nets (value c nets o.op) 0 k (omega arith) in
    here
    ∙ ap (λ (p : Node). value c nets p.op) is
    ∙ same_value m c nets (settle c more nodes) k node.op early
    (λ l below. sym (settle_keeps c more nodes l (omega (arith, longer))
    ∙ get_or_append_left nets (value c nets o.op ∷ []) 0 l (omega arith)))
settled m c nets (o ∷ nodes) (suc j) k node e at early =
    settled m c (nets ++ value c nets o.op ∷ []) nodes j k node
    (omega (arith, length-append nets (value c nets o.op ∷ []))) at early

abbrev pub first_value : Option Register → ℕ
first_value None = 0
first_value (Some x) = x.initial

abbrev pub next_value : Option Register → List ℕ → ℕ
next_value None nets = 0
next_value (Some x) nets = of x.next
  where
    of : Option ℕ → ℕ
    of None = 0
    of (Some k) = get_or nets k 0

abbrev pub cycle : Netlist → Inputs → ℕ → (ℕ → ℕ) → Cycle
cycle m inputs n state =
    record { widths = m.widths; values = get_or inputs.trace n []; end = inputs.eot n; state = state }

-- the registers in a cycle
abbrev pub state : Netlist → Inputs → (n r : ℕ) → ℕ
state m inputs zero r = first_value (slice_get m.registers r)
state m inputs (suc n) r =
    next_value (slice_get m.registers r) (settle (cycle m inputs n (λ q. state m inputs n q)) [] m.nodes)

abbrev pub the_run : Netlist → Inputs → Run
the_run m inputs k n = get_or (settle (cycle m inputs n (λ q. state m inputs n q)) [] m.nodes) k 0

follows : (m : Netlist) (inputs : Inputs) (r : ℕ) (x : Register) (n : ℕ) (o : Option ℕ) →
    slice_get m.registers r ≡ Some x → x.next ≡ o →
    IfSome o (λ next. state m inputs (suc n) r ≡ the_run m inputs next n)
follows m inputs r x n None at e = tt
follows m inputs r x n (Some next) at e = rw at (rw e refl)

pub runs : (m : Netlist) (inputs : Inputs) → IsWellMade m → IsRunOf m inputs (the_run m inputs)
runs m inputs well = record {
  nets = λ k node at. equation k node.op
      (λ n. settled m (cycle m inputs n (λ q. state m inputs n q)) [] m.nodes k k node (omega arith) at
      (well.nodes k node at).op);
}
  where
    first : (r : ℕ) (x : Register) → slice_get m.registers r ≡ Some x → state m inputs 0 r ≡ x.initial
    first r x there = ap (λ o. first_value o) there

    next : (k r : ℕ) (x : Register) → ((n : ℕ) → the_run m inputs k n ≡ state m inputs n r) →
        slice_get m.registers r ≡ Some x → (o : Option ℕ) → x.next ≡ o →
        IfSome o (λ next. (n : ℕ) → suc n < length inputs.trace → the_run m inputs k (suc n) ≡ the_run m inputs next n)
    next k r x is there None e = tt
    next k r x is there (Some p) e = λ n within. is (suc n) ∙ follows m inputs r x n (Some p) there e

    equation : (k : ℕ) (op : Op) →
        ((n : ℕ) → the_run m inputs k n ≡ value (cycle m inputs n (λ q. state m inputs n q))
        (settle (cycle m inputs n (λ q. state m inputs n q)) [] m.nodes) op) →
        Equation m inputs (the_run m inputs) (the_run m inputs k) op
    equation k (bit b) is = λ n within. is n
    equation k eot is = λ n within. is n
    equation k (guard e) is =
        λ n values here. is n ∙ ap (λ (v : List ℕ). truth (own_value m.widths v e))
        (get_or_from_slice_get inputs.trace n values [] here)
    equation k (not a) is = λ n within. is n
    equation k (and a b) is = λ n within. is n
    equation k (or a b) is = λ n within. is n
    equation k (register r) is = λ x there. record {
      begins = λ some. is 0 ∙ first r x there;
      goes_on = next k r x is there x.next refl;
    }
