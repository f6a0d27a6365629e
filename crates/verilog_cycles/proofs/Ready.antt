-- Expressions that were made ready, form by form.
use Rattle.std.proofs.Common.{◌≡◌, ℕ, ◌+◌, ◌-◌, ◌/◌, ◌%◌, ◌^◌, ◌<◌, ◌≤◌, List, [], ◌∷◌, ◌++◌, length}
use Rattle.std.proofs.Common.{cond, ap, sym, ◌∙◌, arith, subst, Some, inl, inr, append_assoc, append-nil}
use Rattle.std.proofs.Common.{length-append}
use Rattle.std.specs.Prelude.{slice_get, slice_index, All, ◌==◌, Result, Ok, Err, IfOk}
use Rattle.psl_model.specs.Limits.{vector_limit}
use Rattle.psl_model.specs.declared.operators.UnOp.{UnOp}
use Rattle.psl_model.specs.declared.operators.BinOp.{BinOp}
use Rattle.psl_model.specs.Expr.{Expr, whole, bit, part, plain, sized, unary, binary, choice}
use Rattle.psl_model.specs.Value.{width_of, value_of, unary_context, unary_value, left_context, right_context}
use Rattle.psl_model.specs.Value.{binary_value}
use Rattle.verilog_cycles.specs.declared.nodes.Node.{Node}
use Rattle.verilog_cycles.specs.declared.nodes.Node.TheVariants.{Number, Part, Unary, Binary, Choice}
use Rattle.verilog_cycles.specs.inner.Nodes.{node_value, IsNode, IsTape, Meets}
use Rattle.verilog_cycles.specs.inner.Ready.{values_at, Grows, IsReady}
use Rattle.verilog_cycles.proofs.Lists.{get_front, get_end, get_more, index_map, all_at}

pub grows_same : (xs : List Node) → Grows xs xs
grows_same xs = record { rest = []; gained = sym (append-nil xs) }

pub grows_on : (xs ys zs : List Node) → Grows xs ys → Grows ys zs → Grows xs zs
grows_on xs ys zs a b = record {
  rest = a.rest ++ b.rest;
  gained = b.gained ∙ ap (λ (ns : List Node). ns ++ b.rest) a.gained ∙ append_assoc xs a.rest b.rest;
}

pub grows_by : (xs ys : List Node) (n : Node) → ys ≡ xs ++ n ∷ [] → Grows xs ys
grows_by xs ys n is = record { rest = n ∷ []; gained = is }

pub grown : (xs ys : List Node) → Grows xs ys → length xs ≤ length ys
grown xs ys g = omega (arith, ap length g.gained, length-append xs g.rest)

pub meets_front : (first : ℕ) (xs ys : List Node) (table : List ℕ) → Grows xs ys → Meets first ys table → Meets first
    xs table
meets_front first xs ys table g met k n le at =
    met k n le (subst (λ (ns : List Node). slice_get ns k ≡ Some n) (sym g.gained) (get_front xs g.rest k n at))

pub met_end : (first : ℕ) (xs ys : List Node) (n : Node) (table : List ℕ) → ys ≡ xs ++ n ∷ [] → first ≤ length xs →
    Meets first ys table → slice_index table (length xs) ≡ node_value table n
met_end first xs ys n table is le met =
    met (length xs) n le (subst (λ (ns : List Node). slice_get ns (length xs) ≡ Some n) (sym is) (get_end xs n))

pub tape_on : (xs ys : List Node) (n : Node) → ys ≡ xs ++ n ∷ [] → IsTape xs → IsNode (length xs) n → IsTape ys
tape_on xs ys n is tape node k m at = elim (get_more xs n k m (subst (λ (ns : List Node). slice_get ns k ≡ Some m) is
    at)) [
      | inl before ↦ tape k m before
      | inr last ↦ subst (λ (j : ℕ). IsNode j m) (sym last.0) (subst (λ (o : Node). IsNode (length xs) o) last.1 node)
    ]

pub longer : (xs ys : List Node) (n : Node) → ys ≡ xs ++ n ∷ [] → length ys ≡ length xs + 1
longer xs ys n is = omega (arith, ap length is, length-append xs (n ∷ []))

-- one more node
more : (first : ℕ) (ws ps : List ℕ) (old mid new : List Node) (n : Node) (context : ℕ) (e : Expr) (place : ℕ) →
    first ≤ length old → Grows old mid → IsTape mid → IsNode (length mid) n → new ≡ mid ++ n ∷ [] → place ≡ length mid →
    ((table : List ℕ) → Meets first mid table → node_value table n ≡ value_of ws (values_at table ps) context e) →
    IsReady first ws ps old new context e place
more first ws ps old mid new n context e place le grows tape node is at value = record {
  grows = grows_on old mid new grows (grows_by mid new n is);
  tape = tape_on mid new n is tape node;
  within = omega (arith, longer mid new n is);
  means = λ table met.
      ap (slice_index table) at
      ∙ met_end first mid new n table is (omega (arith, le, grown old mid grows)) met
      ∙ value table (meets_front first mid new table (grows_by mid new n is) met);
}

-- the value of a name
pub at_name : (table ps : List ℕ) (s : ℕ) → s < length ps → slice_index (values_at table ps) s ≡ slice_index table
    (slice_index ps s)
at_name table ps s lt = index_map (λ (p : ℕ). slice_index table p) ps s lt

pub ready_whole : (first : ℕ) (ws ps : List ℕ) (old : List Node) (context s place : ℕ) → IsTape old →
    All (λ p. p < length old) ps → s < length ps → place ≡ slice_index ps s →
    IsReady first ws ps old old context (whole s) place
ready_whole first ws ps old context s place tape within lt is = record {
  grows = grows_same old;
  tape = tape;
  within = subst (λ (p : ℕ). p < length old) (sym is) (all_at (λ p. p < length old) ps s lt within);
  means = λ table met. ap (slice_index table) is ∙ sym (at_name table ps s lt);
}

pub ready_bit : (first : ℕ) (ws ps : List ℕ) (old new : List Node) (context s b p place : ℕ) → first ≤ length old →
    IsTape old → All (λ p. p < length old) ps → s < length ps → b < vector_limit → p ≡ slice_index ps s →
    new ≡ old ++ Part p b 1 ∷ [] → place ≡ length old → IsReady first ws ps old new context (bit s b) place
ready_bit first ws ps old new context s b p place le tape within lt small is gained at =
    let below : p < length old = subst (λ (q : ℕ). q < length old) (sym is) (all_at (λ q. q < length old) ps s lt
    within) in
    more first ws ps old old new (Part p b 1) context (bit s b) place le (grows_same old) tape (
      below,
      small,
      omega
          arith,
    ) gained at
    (λ table met. ap (λ (x : ℕ). x / 2 ^ b % 2) (ap (slice_index table) is ∙ sym (at_name table ps s lt)))

pub ready_part : (first : ℕ) (ws ps : List ℕ) (old new : List Node) (context s h l p w place : ℕ) → first ≤ length old →
    IsTape old → All (λ p. p < length old) ps → s < length ps → h < vector_limit → l ≤ h → w ≡ h - l + 1 → p ≡
    slice_index ps s →
    new ≡ old ++ Part p l w ∷ [] → place ≡ length old → IsReady first ws ps old new context (part s h l) place
ready_part first ws ps old new context s h l p w place le tape within lt small order count is gained at =
    let below : p < length old = subst (λ (q : ℕ). q < length old) (sym is) (all_at (λ q. q < length old) ps s lt
    within) in
    more first ws ps old old new (Part p l w) context (part s h l) place le (grows_same old) tape (
      below,
      omega arith,
      omega arith,
    ) gained at
    (λ table met. ap (λ (x : ℕ). x / 2 ^ l % 2 ^ w) (ap (slice_index table) is ∙ sym (at_name table ps s lt))
    ∙ ap (λ (v : ℕ). slice_index (values_at table ps) s / 2 ^ l % 2 ^ v) count)

pub ready_plain : (first : ℕ) (ws ps : List ℕ) (old new : List Node) (context n m place : ℕ) → first ≤ length old →
    IsTape old → m ≡ n → new ≡ old ++ Number m ∷ [] → place ≡ length old → IsReady first ws ps old new context (plain
    n) place
ready_plain first ws ps old new context n m place le tape is gained at =
    more first ws ps old old new (Number m) context (plain n) place le (grows_same old) tape tt gained at (λ table
    met. is)

pub ready_sized : (first : ℕ) (ws ps : List ℕ) (old new : List Node) (context w v m place : ℕ) → first ≤ length old →
    IsTape old → m ≡ v → new ≡ old ++ Number m ∷ [] → place ≡ length old → IsReady first ws ps old new context (sized
    w v) place
ready_sized first ws ps old new context w v m place le tape is gained at =
    more first ws ps old old new (Number m) context (sized w v) place le (grows_same old) tape tt gained at (λ table
    met. is)

pub ready_unary : (first : ℕ) (ws ps : List ℕ) (old mid new : List Node) (context : ℕ) (op : UnOp) (a : Expr) (c p
    place : ℕ) →
    first ≤ length old → c ≤ vector_limit → c ≡ unary_context op context (width_of ws a) →
    IsReady first ws ps old mid c a p → new ≡ mid ++ Unary op c p ∷ [] → place ≡ length mid →
    IsReady first ws ps old new context (unary op a) place
ready_unary first ws ps old mid new context op a c p place le limit is r gained at =
    more first ws ps old mid new (Unary op c p) context (unary op a) place le r.grows r.tape (limit, r.within) gained
    at (λ table met.
    ap (unary_value op c) (r.means table met)
    ∙ ap (λ (d : ℕ). unary_value op d (value_of ws (values_at table ps) d a)) is)

pub ready_binary : (first : ℕ) (ws ps : List ℕ) (old left mid new : List Node) (context : ℕ) (op : BinOp) (a b : Expr)
    (c d p q place : ℕ) → first ≤ length old → context ≤ vector_limit →
    c ≡ left_context op context (width_of ws a) (width_of ws b) → d ≡ right_context op context (width_of ws a)
    (width_of ws b) →
    IsReady first ws ps old left c a p → IsReady first ws ps left mid d b q →
    new ≡ mid ++ Binary op context p q ∷ [] → place ≡ length mid → IsReady first ws ps old new context (binary op a b)
    place
ready_binary first ws ps old left mid new context op a b c d p q place le limit is_c is_d r s gained at =
    more first ws ps old mid new (Binary op context p q) context (binary op a b) place le (grows_on old left mid
    r.grows s.grows)
    s.tape (limit, omega (arith, r.within, grown left mid s.grows), s.within) gained at (λ table met.
    let values = values_at table ps in
    ap (λ (x : ℕ). binary_value op context x (slice_index table q)) (r.means table (meets_front first left mid
    table s.grows met)
    ∙ ap (λ (k : ℕ). value_of ws values k a) is_c)
    ∙ ap (binary_value op context (value_of ws values (left_context op context (width_of ws a) (width_of ws b)) a))
    (s.means table met ∙ ap (λ (k : ℕ). value_of ws values k b) is_d))

pub ready_choice : (first : ℕ) (ws ps : List ℕ) (old test next mid new : List Node) (context : ℕ) (t a b : Expr)
    (own o p q place : ℕ) → first ≤ length old → own ≡ width_of ws t →
    IsReady first ws ps old test own t o → IsReady first ws ps test next context a p → IsReady first ws ps next mid
    context b q →
    new ≡ mid ++ Choice o p q ∷ [] → place ≡ length mid → IsReady first ws ps old new context (choice t a b) place
ready_choice first ws ps old test next mid new context t a b own o p q place le is r s u gained at =
    more first ws ps old mid new (Choice o p q) context (choice t a b) place le
    (grows_on old test mid r.grows (grows_on test next mid s.grows u.grows)) u.tape (
      omega (arith, r.within, grown test next s.grows, grown next mid u.grows),
      omega (
        arith,
        s.within,
        grown next
            mid u.grows,
      ),
      u.within,
    )
    gained at (λ table met.
    let values = values_at table ps in
    let at_yes = meets_front first next mid table u.grows met in
    let at_test = meets_front first test next table s.grows at_yes in
    let x : slice_index table o ≡ value_of ws values (width_of ws t) t = r.means table at_test ∙ ap (λ (k : ℕ).
    value_of ws values k t) is in
    ap (λ (n : ℕ). cond (n == 0) (slice_index table q) (slice_index table p)) x
    ∙ ap (λ (n : ℕ). cond (value_of ws values (width_of ws t) t == 0) n (slice_index table p)) (u.means table met)
    ∙ ap (λ (n : ℕ). cond (value_of ws values (width_of ws t) t == 0) (value_of ws values context b) n) (s.means
    table at_yes))

-- the same, where the code holds a layer of the expression and gets its operands out of it

pub if_both : {T E : Type 0} (r : Result T E) (P Q R : T → Type 0) → IfOk r P → IfOk r Q → ((x : T) → P x → Q x → R x)
    → IfOk r R
if_both (Ok x) P Q R p q f = f x p q
if_both (Err e) P Q R p q f = tt

-- the places of names are places of a longer list too
pub within_grown : (ps : List ℕ) (old new : List Node) → Grows old new → All (λ p. p < length old) ps → All (λ p. p <
    length new) ps
within_grown ps old new grows within k d lt = omega (arith, within k d lt, grown old new grows)

pub case_unary : (first : ℕ) (ws ps : List ℕ) (old mid new : List Node) (context : ℕ) (e : Expr) (op : UnOp) (a a1 a2
    : Expr)
    (own c p place : ℕ) → first ≤ length old → e ≡ unary op a → a1 ≡ a → a2 ≡ a → own ≡ width_of ws a1 →
    c ≡ unary_context op context own → c ≤ vector_limit →
    IsReady first ws ps old mid c a2 p → new ≡ mid ++ Unary op c p ∷ [] → place ≡ length mid →
    IsReady first ws ps old new context e place
case_unary first ws ps old mid new context e op a a1 a2 own c p place le is is1 is2 own_is c_is limit r gained at =
    subst (λ (x : Expr). IsReady first ws ps old new context x place) (sym is)
    (ready_unary first ws ps old mid new context op a c p place le limit
    (c_is ∙ ap (unary_context op context) (own_is ∙ ap (width_of ws) is1))
    (subst (λ (x : Expr). IsReady first ws ps old mid c x p) is2 r) gained at)

pub case_binary : (first : ℕ) (ws ps : List ℕ) (old left mid new : List Node) (context : ℕ) (e : Expr) (op : BinOp)
    (a a1 a2 b b1 b2 : Expr) (v w c d p q place : ℕ) → first ≤ length old → e ≡ binary op a b →
    a1 ≡ a → a2 ≡ a → b1 ≡ b → b2 ≡ b → v ≡ width_of ws a1 → w ≡ width_of ws b1 →
    c ≡ left_context op context v w → d ≡ right_context op context v w → context ≤ vector_limit →
    IsReady first ws ps old left c a2 p → IsReady first ws ps left mid d b2 q →
    new ≡ mid ++ Binary op context p q ∷ [] → place ≡ length mid →
    IsReady first ws ps old new context e place
case_binary first ws ps old left mid new context e op a a1 a2 b b1 b2 v w c d p q place le is is1 is2 is3 is4 v_is
    w_is c_is d_is limit r s gained at =
    let v_of : v ≡ width_of ws a = v_is ∙ ap (width_of ws) is1 in
    let w_of : w ≡ width_of ws b = w_is ∙ ap (width_of ws) is3 in
    subst (λ (x : Expr). IsReady first ws ps old new context x place) (sym is)
    (ready_binary first ws ps old left mid new context op a b c d p q place le limit
    (c_is ∙ ap (λ (n : ℕ). left_context op context n w) v_of ∙ ap (left_context op context (width_of ws a))
    w_of)
    (d_is ∙ ap (λ (n : ℕ). right_context op context n w) v_of ∙ ap (right_context op context (width_of ws a))
    w_of)
    (subst (λ (x : Expr). IsReady first ws ps old left c x p) is2 r)
    (subst (λ (x : Expr). IsReady first ws ps left mid d x q) is4 s) gained at)

pub case_choice : (first : ℕ) (ws ps : List ℕ) (old test next mid new : List Node) (context : ℕ) (e : Expr)
    (t t1 t2 a a1 b b1 : Expr) (own o p q place : ℕ) → first ≤ length old → e ≡ choice t a b →
    t1 ≡ t → t2 ≡ t → a1 ≡ a → b1 ≡ b → own ≡ width_of ws t1 →
    IsReady first ws ps old test own t2 o → IsReady first ws ps test next context a1 p →
    IsReady first ws ps next mid context b1 q → new ≡ mid ++ Choice o p q ∷ [] → place ≡ length mid →
    IsReady first ws ps old new context e place
case_choice first ws ps old test next mid new context e t t1 t2 a a1 b b1 own o p q place le is is1 is2 is3 is4 own_is
    r s u gained at =
    subst (λ (x : Expr). IsReady first ws ps old new context x place) (sym is)
    (ready_choice first ws ps old test next mid new context t a b own o p q place le
    (own_is ∙ ap (width_of ws) is1)
    (subst (λ (x : Expr). IsReady first ws ps old test own x o) is2 r)
    (subst (λ (x : Expr). IsReady first ws ps test next context x p) is3 s)
    (subst (λ (x : Expr). IsReady first ws ps next mid context x q) is4 u) gained at)
