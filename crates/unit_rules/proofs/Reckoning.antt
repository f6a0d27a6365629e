-- The numbers that are reckoned without names put in place are those with names put in place.
use Rattle.std.proofs.Common.{◌≡◌, ℕ, ◌+◌, min, max, Bool, true, false, cond, Option, None, Some, unwrap_or, option_map}
use Rattle.std.proofs.Common.{List, [], ◌∷◌, refl, ap, ◌∙◌, arith}
use Rattle.std.specs.Map.{lookup}
use Rattle.indexmap.specs.IndexMap.{insert_entry}
use Rattle.psl_grammar.specs.RawExpr.{RawExpr, name, literal, unary, binary, choice}
use Rattle.psl_grammar.specs.RawSere as sere
use Rattle.psl_grammar.specs.RawProp as prop
use Rattle.psl_grammar.specs.RawUnit.{RawItem, clock, wire, sequence, property, assert}
use Rattle.unit_rules.specs.declared.measures.Measure.{Measure}
use Rattle.unit_rules.specs.Source.{Source, bytes_at}
use Rattle.unit_rules.specs.Known.{same_name}
use Rattle.unit_rules.specs.Placed.{Bodies, placed_sere, placed_prop, bodies_after}
use Rattle.unit_rules.specs.Measures.{most, expr_depth, expr_nodes, sere_depth, sere_nodes, prop_depth, prop_nodes}
use Rattle.unit_rules.specs.Measures.{on_depth, on_nodes}
use Rattle.unit_rules.specs.inner.Reckoned.{measure, leaf, beside, above, expr_measure, sere_measure}
use Rattle.unit_rules.specs.inner.Reckoned.{prop_measure, Numbers, reckoned_expr, reckoned_on, reckoned_sere}
use Rattle.unit_rules.specs.inner.Reckoned.{reckoned_prop, numbers_after}

min_above : (m a : ℕ) → min (1 + min a m) m ≡ min (1 + a) m
min_above m a = omega arith

min_beside : (m a b : ℕ) → min (min a m + min b m) m ≡ min (a + b) m
min_beside m a b = omega arith

max_beside : (m a b : ℕ) → max (min a m) (min b m) ≡ min (max a b) m
max_beside m a b = omega arith

pub above-measure : (d n : ℕ) → above (measure d n) ≡ measure (1 + d) (1 + n)
above-measure d n = λ i. record { depth = min_above most d i; nodes = min_above most n i }

pub beside-measure : (d n e m : ℕ) → beside (measure d n) (measure e m) ≡ measure (max d e) (n + m)
beside-measure d n e m = λ i. record { depth = max_beside most d e i; nodes = min_beside most n m i }

-- an operator above two operands
over_two : (a b : Measure) (d n e m : ℕ) → a ≡ measure d n → b ≡ measure e m → above (beside a b)
    ≡ measure (1 + max d e) (1 + (n + m))
over_two a b d n e m p q = (λ i. above (beside (p i) (q i)))
    ∙ (ap above (beside-measure d n e m) ∙ above-measure (max d e) (n + m))

pub expr_reckoned : (e : RawExpr) → reckoned_expr e ≡ expr_measure e
expr_reckoned (name token select) = refl
expr_reckoned (literal token) = refl
expr_reckoned (unary mark a) = ap above (expr_reckoned a) ∙ above-measure (expr_depth a) (expr_nodes a)
expr_reckoned (binary mark a b) = over_two (reckoned_expr a) (reckoned_expr b) (expr_depth a) (expr_nodes a)
    (expr_depth b) (expr_nodes b) (expr_reckoned a) (expr_reckoned b)
expr_reckoned (choice mark c a b) =
    over_two (reckoned_expr c) (beside (reckoned_expr a) (reckoned_expr b)) (expr_depth c) (expr_nodes c)
    (max (expr_depth a) (expr_depth b)) (expr_nodes a + expr_nodes b)
    (expr_reckoned c)
    ((λ i. beside (expr_reckoned a i) (expr_reckoned b i))
    ∙ beside-measure (expr_depth a) (expr_nodes a) (expr_depth b) (expr_nodes b))

on_reckoned : (o : Option RawExpr) → reckoned_on o ≡ measure (on_depth o) (on_nodes o)
on_reckoned None = refl
on_reckoned (Some e) = expr_reckoned e

-- entries with their values changed
abbrev pub changed : {K V W : Type 0} → (V → W) → List (K × V) → List (K × W)
changed f [] = []
changed f (e ∷ es) = (e.0, f e.1) ∷ changed f es

pub lookup-changed : {K V W : Type 0} (f : V → W) (test : K → Bool) (es : List (K × V)) → lookup test (changed f es)
    ≡ option_map f (lookup test es)
lookup-changed f test [] = refl
lookup-changed f test (e ∷ es) = by (lookup-changed f test es) (test e.0)
  where
    by : lookup test (changed f es) ≡ option_map f (lookup test es) → (b : Bool)
        → cond b (Some (f e.1)) (lookup test (changed f es)) ≡ option_map f (cond b (Some e.1) (lookup test es))
    by rest true = refl
    by rest false = rest

insert_entry-changed : {K V W : Type 0} (f : V → W) (eq : K → K → Bool) (es : List (K × V)) (k : K) (v : V)
    → insert_entry eq (changed f es) k (f v) ≡ changed f (insert_entry eq es k v)
insert_entry-changed f eq [] k v = refl
insert_entry-changed f eq (e ∷ es) k v = by (insert_entry-changed f eq es k v) (eq k e.0)
  where
    by : insert_entry eq (changed f es) k (f v) ≡ changed f (insert_entry eq es k v) → (b : Bool)
        → cond b ((e.0, f v) ∷ changed f es) ((e.0, f e.1) ∷ insert_entry eq (changed f es) k (f v))
        ≡ changed f (cond b ((e.0, v) ∷ es) (e ∷ insert_entry eq es k v))
    by rest true = refl
    by rest false = ap (λ more. (e.0, f e.1) ∷ more) rest

-- the numbers are those of the bodies
pub record AreNumbersOf (bodies : Bodies) (numbers : Numbers) : Type 0 where
  pub sequences : numbers.sequences ≡ changed sere_measure bodies.sequences
  pub properties : numbers.properties ≡ changed prop_measure bodies.properties

unwrap_or-mapped : {V W : Type 0} (f : V → W) (o : Option V) (d : V) → unwrap_or (option_map f o) (f d)
    ≡ f (unwrap_or o d)
unwrap_or-mapped f None d = refl
unwrap_or-mapped f (Some v) d = refl

pub sere_reckoned : (s : Source) (bodies : Bodies) (numbers : Numbers) → AreNumbersOf bodies numbers
    → (r : sere.RawSere)
    → reckoned_sere s numbers.sequences r ≡ sere_measure (placed_sere s bodies r)
sere_reckoned s bodies numbers h (sere.bool e) = expr_reckoned e
sere_reckoned s bodies numbers h (sere.named token) =
    ap (λ ns. unwrap_or (lookup (same_name (bytes_at s token)) ns) leaf) h.sequences
    ∙ (ap (λ o. unwrap_or o leaf) (lookup-changed sere_measure (same_name (bytes_at s token)) bodies.sequences)
    ∙ unwrap_or-mapped sere_measure (lookup (same_name (bytes_at s token)) bodies.sequences) (sere.named token))
sere_reckoned s bodies numbers h (sere.lone mark low high) = refl
sere_reckoned s bodies numbers h (sere.repeat r mark low high) =
    let t = placed_sere s bodies r in
    ap above (sere_reckoned s bodies numbers h r) ∙ above-measure (sere_depth t) (sere_nodes t)
sere_reckoned s bodies numbers h (sere.join mark r t) =
    let a = placed_sere s bodies r in
    let b = placed_sere s bodies t in
    over_two (reckoned_sere s numbers.sequences r) (reckoned_sere s numbers.sequences t) (sere_depth a) (sere_nodes a)
    (sere_depth b) (sere_nodes b)
    (sere_reckoned s bodies numbers h r) (sere_reckoned s bodies numbers h t)

pub prop_reckoned : (s : Source) (bodies : Bodies) (numbers : Numbers) → AreNumbersOf bodies numbers
    → (f : prop.RawProp)
    → reckoned_prop s numbers f ≡ prop_measure (placed_prop s bodies f)
prop_reckoned s bodies numbers h (prop.bool e) = expr_reckoned e
prop_reckoned s bodies numbers h (prop.named token) =
    ap (λ ns. unwrap_or (lookup (same_name (bytes_at s token)) ns) leaf) h.properties
    ∙ (ap (λ o. unwrap_or o leaf) (lookup-changed prop_measure (same_name (bytes_at s token)) bodies.properties)
    ∙ unwrap_or-mapped prop_measure (lookup (same_name (bytes_at s token)) bodies.properties) (prop.named token))
prop_reckoned s bodies numbers h (prop.seq r strong) = sere_reckoned s bodies numbers h r
prop_reckoned s bodies numbers h (prop.prefix word f) =
    let t = placed_prop s bodies f in
    ap above (prop_reckoned s bodies numbers h f) ∙ above-measure (prop_depth t) (prop_nodes t)
prop_reckoned s bodies numbers h (prop.next word on low high f) =
    let t = placed_prop s bodies f in
    over_two (reckoned_on on) (reckoned_prop s numbers f) (on_depth on) (on_nodes on) (prop_depth t) (prop_nodes t)
    (on_reckoned on) (prop_reckoned s bodies numbers h f)
prop_reckoned s bodies numbers h (prop.binary mark f g) =
    let a = placed_prop s bodies f in
    let b = placed_prop s bodies g in
    over_two (reckoned_prop s numbers f) (reckoned_prop s numbers g) (prop_depth a) (prop_nodes a) (prop_depth b)
    (prop_nodes b)
    (prop_reckoned s bodies numbers h f) (prop_reckoned s bodies numbers h g)
prop_reckoned s bodies numbers h (prop.suffix mark r f) =
    let a = placed_sere s bodies r in
    let b = placed_prop s bodies f in
    over_two (reckoned_sere s numbers.sequences r) (reckoned_prop s numbers f) (sere_depth a) (sere_nodes a)
    (prop_depth b) (prop_nodes b)
    (sere_reckoned s bodies numbers h r) (prop_reckoned s bodies numbers h f)
prop_reckoned s bodies numbers h (prop.abort f e) =
    let a = placed_prop s bodies f in
    over_two (reckoned_prop s numbers f) (reckoned_expr e) (prop_depth a) (prop_nodes a) (expr_depth e) (expr_nodes e)
    (prop_reckoned s bodies numbers h f) (expr_reckoned e)

-- an item keeps this
pub item_reckoned : (s : Source) (bodies : Bodies) (numbers : Numbers) → AreNumbersOf bodies numbers → (item : RawItem)
    → AreNumbersOf (bodies_after s bodies item) (numbers_after s numbers item)
item_reckoned s bodies numbers h (clock token) = h
item_reckoned s bodies numbers h (wire range names) = h
item_reckoned s bodies numbers h (sequence token r) = record {
  sequences =
      (λ i. insert_entry same_name (h.sequences i) (bytes_at s token) (sere_reckoned s bodies numbers h r i))
      ∙ insert_entry-changed sere_measure same_name bodies.sequences (bytes_at s token) (placed_sere s bodies r);
  properties = h.properties;
}
item_reckoned s bodies numbers h (property token f) = record {
  sequences = h.sequences;
  properties =
      (λ i. insert_entry same_name (h.properties i) (bytes_at s token) (prop_reckoned s bodies numbers h f i))
      ∙ insert_entry-changed prop_measure same_name bodies.properties (bytes_at s token) (placed_prop s bodies f);
}
item_reckoned s bodies numbers h (assert word tag f report) = h
