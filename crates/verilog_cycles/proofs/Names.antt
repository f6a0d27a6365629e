-- Names and wires, one after the other.
use Rattle.std.proofs.Common.{◌≡◌, ℕ, zero, suc, ◌+◌, ◌%◌, ◌^◌, ◌<◌, ◌≤◌, List, [], ◌∷◌, ◌++◌, map, length, refl, ap}
use Rattle.std.proofs.Common.{sym}
use Rattle.std.proofs.Common.{◌∙◌, arith, subst, Some, inl, inr, get_or, append_assoc, append-nil, length-append}
use Rattle.std.proofs.Math.Nat.{mod-lt}
use Rattle.std.proofs.lemmas.Nat.{pow_pos}
use Rattle.std.proofs.lemmas.List.{map-append, length-map}
use Rattle.std.specs.Prelude.{◌⊎◌, max, slice_get, slice_index}
use Rattle.psl_model.specs.Expr.{Expr}
use Rattle.psl_model.specs.Valid.{IsValid}
use Rattle.psl_model.specs.Value.{width_of, value_of, FitWidths}
use Rattle.verilog_text.specs.Module.{Wire, Register}
use Rattle.verilog_cycles.specs.declared.nodes.Node.{Node}
use Rattle.verilog_cycles.specs.declared.nodes.Node.TheVariants.{Number}
use Rattle.verilog_cycles.specs.inner.Nodes.{IsTape, Meets}
use Rattle.verilog_cycles.specs.inner.Ready.{values_at, taken, Begins, Grows, IsLine, AreFront, AreWires, AreNexts}
use Rattle.verilog_cycles.proofs.Lists.{get_more, get_within, index_front, index_end, all_push}
use Rattle.verilog_cycles.proofs.Narrow.{fit_append}
use Rattle.verilog_cycles.proofs.Ready.{grows_same, grows_on, grown, meets_front, tape_on, longer, within_grown}

-- an expression reads its own signals alone
abbrev pub Reads : Type 0
Reads = (old new old_values new_values : List ℕ) (context : ℕ) (e : Expr) →
    ((signal : ℕ) → signal < length old → slice_index new signal ≡ slice_index old signal) →
    ((signal : ℕ) → signal < length old → slice_index new_values signal ≡ slice_index old_values signal) →
    IsValid old e → value_of new new_values context e ≡ value_of old old_values context e

abbrev pub ReadsWidth : Type 0
ReadsWidth = (old new : List ℕ) (e : Expr) →
    ((signal : ℕ) → signal < length old → slice_index new signal ≡ slice_index old signal) →
    IsValid old e → width_of new e ≡ width_of old e

pub front_none : (ws ps : List ℕ) (nodes : List Node) → ws ≡ [] → ps ≡ [] → nodes ≡ [] → AreFront ws ps nodes
front_none ws ps nodes no_ws no_ps no_nodes = record {
  count = omega (arith, ap length no_ws, ap length no_ps);
  size = omega (arith, ap length no_ws, ap length no_nodes);
  tape = λ k n at. absurd (let none : slice_get [] k ≡ Some n = subst (λ (ns : List Node). slice_get ns k ≡ Some n)
      no_nodes at in cc);
  ordered = λ s lt. absurd (omega (arith, ap length no_ws));
}

same_or_below : (s n : ℕ) → s < n + 1 → (s ≡ n) ⊎ (s < n)
same_or_below zero zero lt = inl refl
same_or_below zero (suc n) lt = inr (omega arith)
same_or_below (suc s) zero lt = absurd (omega arith)
same_or_below (suc s) (suc n) lt = elim (same_or_below s n (omega arith)) [
  | inl e ↦ inl (omega arith)
  | inr below ↦
      inr (omega arith)
]

pub front_more : (ws ps : List ℕ) (nodes : List Node) (w p : ℕ) → p ≡ length nodes → AreFront ws ps nodes →
    AreFront (ws ++ w ∷ []) (ps ++ p ∷ []) (nodes ++ Number 0 ∷ [])
front_more ws ps nodes w p at front = record {
  count = omega (arith, length-append ps (p ∷ []), length-append ws (w ∷ []), front.count);
  size = omega (arith, length-append nodes (Number 0 ∷ []), length-append ws (w ∷ []), front.size);
  tape = tape_on nodes (nodes ++ Number 0 ∷ []) (Number 0) refl front.tape tt;
  ordered = λ s lt. elim (same_or_below s (length ws) (omega (arith, length-append ws (w ∷ [])))) [
    | inr less ↦ index_front ps (p ∷ []) s (omega (arith, front.count)) ∙ front.ordered s less
    | inl e ↦ (let last : s ≡ length ps = omega (arith, front.count) in
        ap (slice_index (ps ++ p ∷ [])) last ∙ index_end ps p ∙ at ∙ front.size ∙ sym e)
  ];
}

get_any : (xs : List ℕ) (k d e : ℕ) → k < length xs → get_or xs k d ≡ get_or xs k e
get_any [] k d e lt = absurd (omega arith)
get_any (x ∷ xs) zero d e lt = refl
get_any (x ∷ xs) (suc k) d e lt = get_any xs k d e (omega arith)

pub wires_none : (front fronts : List ℕ) (nodes : List Node) → AreFront front fronts nodes →
    AreWires (length nodes) front fronts [] front fronts nodes
wires_none front fronts nodes is = record {
  fronts_count = is.count;
  all = sym (append-nil front);
  count = is.count;
  begins = λ s lt. refl;
  tape = is.tape;
  room = omega arith;
  within = λ k d lt.
      let here : get_or fronts k d ≡ k = get_any fronts k d 0 lt ∙ is.ordered k (omega (arith, is.count)) in
      omega (arith, is.count, is.size);
  fits = λ table met fit. fit;
  settles = λ table met fit k w at longer values a b. absurd (cc);
}

pub begins_front : (xs ys zs : List ℕ) → Begins (xs ++ ys) zs → Begins xs zs
begins_front xs ys zs begins s lt = begins s (omega (arith, length-append xs ys)) ∙ index_front xs ys s lt

values_push : (table ps : List ℕ) (p : ℕ) → values_at table (ps ++ p ∷ []) ≡ values_at table ps ++ slice_index table p
    ∷ []
values_push table ps p = map-append (λ (q : ℕ). slice_index table q) ps (p ∷ [])

taken_same : Reads → ReadsWidth → (ws longer vs values : List ℕ) (target : ℕ) (e : Expr) → length vs ≡ length ws →
    Begins ws longer → Begins vs values → IsValid ws e → taken longer values target e ≡ taken ws vs target e
taken_same reads width ws longer vs values target e count a b valid =
    ap (λ (k : ℕ). value_of longer values (max target k) e % 2 ^ target) (width ws longer e a valid)
    ∙ ap (λ (x : ℕ). x % 2 ^ target) (reads ws longer vs values (max target (width_of ws e)) e a
    (λ s lt. b s (omega (arith, count))) valid)

pub wires_more : Reads → ReadsWidth → (first : ℕ) (front fronts : List ℕ) (wires : List Wire) (ws ps : List ℕ)
    (old new : List Node) (w : Wire) (p : ℕ) → AreWires first front fronts wires ws ps old → IsValid ws w.value →
    IsLine first ws ps old new w.width w.value p →
    AreWires first front fronts (wires ++ w ∷ []) (ws ++ w.width ∷ []) (ps ++ p ∷ []) new
wires_more reads width first front fronts wires ws ps old new w p is valid line = record {
  fronts_count = is.fronts_count;
  all = ap (λ (xs : List ℕ). xs ++ w.width ∷ []) is.all
      ∙ append_assoc front (map (λ (v : Wire). v.width) wires) (w.width ∷ [])
      ∙ ap (λ (xs : List ℕ). front ++ xs) (sym (map-append (λ (v : Wire). v.width) wires (w ∷ [])));
  count = omega (arith, length-append ps (p ∷ []), length-append ws (w.width ∷ []), is.count);
  begins = λ s lt. index_front ps (p ∷ []) s (omega (arith, fronts_within)) ∙ is.begins s lt;
  tape = line.tape;
  room = omega (arith, is.room, grown old new line.grows);
  within = all_push (λ q. q < length new) ps p (within_grown ps old new line.grows is.within) line.within;
  fits = λ table met fit.
      let before = is.fits table (meets_front first old new table line.grows met) fit in
      subst (λ (vs : List ℕ). FitWidths (ws ++ w.width ∷ []) vs) (sym (values_push table ps p))
      (fit_append ws (w.width ∷ []) (values_at table ps) (slice_index table p ∷ []) before (
        small table met before,
        tt,
      ));
  settles = λ table met fit k u at longer values a b.
      let met_old = meets_front first old new table line.grows met in
      let before = is.fits table met_old fit in
      elim (get_more wires w k u at) [
        | inl here ↦ is.settles table met_old fit k u here longer values (begins_front ws (w.width ∷ []) longer a)
            (begins_front (values_at table ps) (slice_index table p ∷ []) values (subst (λ (vs : List ℕ). Begins vs
            values) (values_push table ps p) b))
        | inr last ↦ subst (λ (v : Wire). slice_index values (length front + k) ≡ taken longer values v.width v.value)
            last.1 (the_last table met before k last.0 longer values a b)
      ];
}
  where
    wire_count : length ps ≡ length front + length wires
    wire_count = omega (
      arith,
      is.count,
      ap length is.all,
      length-append front (map (λ (v : Wire). v.width) wires),
      length-map wires (λ (v : Wire). v.width),
    )

    fronts_within : length fronts ≤ length ps
    fronts_within = omega (arith, wire_count, is.fronts_count)

    small : (table : List ℕ) → Meets first new table → FitWidths ws (values_at table ps) → slice_index table p < 2 ^
        w.width
    small table met before = subst (λ (x : ℕ). x < 2 ^ w.width) (sym (line.means table met before))
        (mod-lt (value_of ws (values_at table ps) (max w.width (width_of ws w.value)) w.value) (pow_pos w.width))

    the_last : (table : List ℕ) → Meets first new table → FitWidths ws (values_at table ps) → (k : ℕ) → k ≡ length
        wires →
        (longer values : List ℕ) → Begins (ws ++ w.width ∷ []) longer → Begins (values_at table (ps ++ p ∷ [])) values →
        slice_index values (length front + k) ≡ taken longer values w.width w.value
    the_last table met before k at longer values a b =
        let vs = values_at table ps in
        let x = slice_index table p in
        let c : Begins (vs ++ x ∷ []) values = subst (λ (us : List ℕ). Begins us values) (values_push table ps p) b in
        let count : length vs ≡ length ps = length-map ps (λ (q : ℕ). slice_index table q) in
        let place : length front + k ≡ length vs = omega (arith, wire_count, count) in
        ap (slice_index values) place
        ∙ c (length vs) (omega (arith, length-append vs (x ∷ [])))
        ∙ index_end vs x
        ∙ line.means table met before
        ∙ sym (taken_same reads width ws longer vs values w.width w.value (omega (arith, count, is.count))
        (begins_front ws (w.width ∷ []) longer a) (begins_front vs (x ∷ []) values c) valid)

pub wires_grown : (first : ℕ) (front fronts : List ℕ) (wires : List Wire) (ws ps : List ℕ) (old new : List Node) →
    AreWires first front fronts wires ws ps old → Grows old new → IsTape new → AreWires first front fronts wires ws ps
    new
wires_grown first front fronts wires ws ps old new is grows tape = record {
  fronts_count = is.fronts_count;
  all = is.all;
  count = is.count;
  begins = is.begins;
  tape = tape;
  room = omega (arith, is.room, grown old new grows);
  within = within_grown ps old new grows is.within;
  fits = λ table met fit. is.fits table (meets_front first old new table grows met) fit;
  settles = λ table met fit. is.settles table (meets_front first old new table grows met) fit;
}

pub nexts_none : (first : ℕ) (ws ps nexts : List ℕ) (old : List Node) → IsTape old → nexts ≡ [] → AreNexts first ws ps
    [] nexts old old
nexts_none first ws ps nexts old tape none = record {
  grows = grows_same old;
  tape = tape;
  count = ap length none;
  within = λ k d lt. absurd (omega (arith, ap length none));
  means = λ table met fit k r at. absurd (cc);
}

pub nexts_more : (first : ℕ) (ws ps : List ℕ) (rs : List Register) (nexts : List ℕ) (old mid new : List Node) (r :
    Register) (p : ℕ) →
    AreNexts first ws ps rs nexts old mid → IsLine first ws ps mid new r.width r.next p →
    AreNexts first ws ps (rs ++ r ∷ []) (nexts ++ p ∷ []) old new
nexts_more first ws ps rs nexts old mid new r p is line = record {
  grows = grows_on old mid new is.grows line.grows;
  tape = line.tape;
  count = omega (arith, length-append nexts (p ∷ []), length-append rs (r ∷ []), is.count);
  within = all_push (λ q. q < length new) nexts p (within_grown nexts mid new line.grows is.within) line.within;
  means = λ table met fit k u at. elim (get_more rs r k u at) [
    | inl here ↦ (let lt = get_within rs k u here in
        ap (slice_index table) (index_front nexts (p ∷ []) k (omega (arith, lt, is.count)))
        ∙ is.means table (meets_front first mid new table line.grows met) fit k u here)
    | inr last ↦ (let place : k ≡ length nexts = omega (arith, last.0, is.count) in
        ap (slice_index table) (ap (slice_index (nexts ++ p ∷ [])) place ∙ index_end nexts p)
        ∙ line.means table met fit
        ∙ ap (λ (v : Register). taken ws (values_at table ps) v.width v.next) last.1)
  ];
}
