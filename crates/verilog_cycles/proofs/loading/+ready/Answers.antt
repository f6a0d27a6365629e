use Rattle.std.proofs.Common.{◌≡◌, ℕ, ◌+◌, ◌-◌, ◌≤◌, [], ◌∷◌, ◌++◌, length, arith, sym, subst, ap}
use Rattle.std.proofs.Common.{rules, refl}
use Rattle.std.specs.Prelude.{slice_index}
use Rattle.psl_model.specs.Expr.{Expr, bit, part, plain, sized}
use Rattle.psl_model.specs.View.{expr_of}
use Rattle.psl_model.specs.declared.expressions.Expr.TheVariants as code
use Rattle.psl_model.specs.Valid.{IsValid}
use Rattle.verilog_cycles.specs.declared.nodes.Node.{Node}
use Rattle.verilog_cycles.specs.declared.nodes.Node.TheVariants.{Number, Part, Unary, Binary, Choice}
use Rattle.verilog_cycles.specs.inner.Ready.{IsReady}
use Rattle.verilog_cycles.proofs.Ready.{if_both, within_grown, ready_bit, ready_part, ready_plain}
use Rattle.verilog_cycles.proofs.Ready.{ready_sized, case_unary, case_binary, case_choice, grows_on, grown}
use Rattle.verilog_cycles.proofs.loading.+ready.Goals as goal

pub returns-in-Bit : goal.returns-in-Bit
returns-in-Bit t c =
    let ws = c.args.widths.now in
    let ps = c.args.places.now in
    let old = c.args.nodes.now.items in
    let e = expr_of c.args.expr.now in
    let new = c.put.new.nodes.items in
    let n : Node = Part (slice_index ps c.in-Bit.name) c.in-Bit.number 1 in
    let is : e ≡ bit c.in-Bit.name c.in-Bit.number = ap expr_of c.in-Bit.is in
    let valid : IsValid ws (bit c.in-Bit.name c.in-Bit.number) = subst (λ (x : Expr). IsValid ws x) is
    c.requires.valid in
    if_both c.put.result (λ _. new ≡ old ++ n ∷ []) (λ place. place ≡ length old)
    (λ place. (first : ℕ) → first ≤ length old → IsReady first ws ps old new c.args.context e place)
    c.put.ensures.gained c.put.ensures.place (λ place gained at first le.
    subst (λ (x : Expr). IsReady first ws ps old new c.args.context x place) (sym is)
    (ready_bit first ws ps old new c.args.context c.in-Bit.name c.in-Bit.number (slice_index ps c.in-Bit.name)
    place le
    c.requires.tape c.requires.within (omega (arith, valid.0, c.requires.count))
    (let narrow = c.requires.narrow c.in-Bit.name 0 valid.0 in omega (arith, valid.2, narrow)) refl gained
    at))

pub returns-in-Part : goal.returns-in-Part
returns-in-Part t c =
    let ws = c.args.widths.now in
    let ps = c.args.places.now in
    let old = c.args.nodes.now.items in
    let e = expr_of c.args.expr.now in
    let new = c.put-in-Part.new.nodes.items in
    let n : Node = Part (slice_index ps c.in-Part.name) c.in-Part.low (c.in-Part.high - c.in-Part.low + 1) in
    let is : e ≡ part c.in-Part.name c.in-Part.high c.in-Part.low = ap expr_of c.in-Part.is in
    let valid : IsValid ws (part c.in-Part.name c.in-Part.high c.in-Part.low) = subst (λ (x : Expr). IsValid ws x) is
    c.requires.valid in
    if_both c.put-in-Part.result (λ _. new ≡ old ++ n ∷ []) (λ place. place ≡ length old)
    (λ place. (first : ℕ) → first ≤ length old → IsReady first ws ps old new c.args.context e place)
    c.put-in-Part.ensures.gained c.put-in-Part.ensures.place (λ place gained at first le.
    subst (λ (x : Expr). IsReady first ws ps old new c.args.context x place) (sym is)
    (ready_part first ws ps old new c.args.context c.in-Part.name c.in-Part.high c.in-Part.low (slice_index ps
    c.in-Part.name)
    (c.in-Part.high - c.in-Part.low + 1) place le c.requires.tape c.requires.within
    (omega (arith, valid.0, c.requires.count))
    (let narrow = c.requires.narrow c.in-Part.name 0 valid.0 in omega (arith, valid.2, narrow))
    valid.3 refl refl gained at))

pub returns-in-Plain : goal.returns-in-Plain
returns-in-Plain t c =
    let ws = c.args.widths.now in
    let ps = c.args.places.now in
    let old = c.args.nodes.now.items in
    let e = expr_of c.args.expr.now in
    let new = c.put-in-Plain.new.nodes.items in
    let n : Node = Number c.from.result in
    let is : e ≡ plain c.in-Plain.number = ap expr_of c.in-Plain.is in
    let valid : IsValid ws (plain c.in-Plain.number) = subst (λ (x : Expr). IsValid ws x) is c.requires.valid in
    if_both c.put-in-Plain.result (λ _. new ≡ old ++ n ∷ []) (λ place. place ≡ length old)
    (λ place. (first : ℕ) → first ≤ length old → IsReady first ws ps old new c.args.context e place)
    c.put-in-Plain.ensures.gained c.put-in-Plain.ensures.place (λ place gained at first le.
    subst (λ (x : Expr). IsReady first ws ps old new c.args.context x place) (sym is)
    (ready_plain first ws ps old new c.args.context c.in-Plain.number c.from.result place le c.requires.tape
    c.from.ensures gained at))

pub returns-in-Sized : goal.returns-in-Sized
returns-in-Sized t c =
    let ws = c.args.widths.now in
    let ps = c.args.places.now in
    let old = c.args.nodes.now.items in
    let e = expr_of c.args.expr.now in
    let new = c.put-in-Sized.new.nodes.items in
    let n : Node = Number c.in-Sized.value in
    let is : e ≡ sized c.in-Sized.field-0 c.in-Sized.value = ap expr_of c.in-Sized.is in
    let valid : IsValid ws (sized c.in-Sized.field-0 c.in-Sized.value) = subst (λ (x : Expr). IsValid ws x) is
    c.requires.valid in
    if_both c.put-in-Sized.result (λ _. new ≡ old ++ n ∷ []) (λ place. place ≡ length old)
    (λ place. (first : ℕ) → first ≤ length old → IsReady first ws ps old new c.args.context e place)
    c.put-in-Sized.ensures.gained c.put-in-Sized.ensures.place (λ place gained at first le.
    subst (λ (x : Expr). IsReady first ws ps old new c.args.context x place) (sym is)
    (ready_sized first ws ps old new c.args.context c.in-Sized.field-0 c.in-Sized.value c.in-Sized.value place
    le c.requires.tape refl gained at))

pub returns-in_ok-place-in-Unary : goal.returns-in_ok-place-in-Unary
returns-in_ok-place-in-Unary t c =
    let ws = c.args.widths.now in
    let ps = c.args.places.now in
    let old = c.args.nodes.now.items in
    let mid = c.ready.new.nodes.items in
    let new = c.put-in-Unary.new.nodes.items in
    let e = expr_of c.args.expr.now in
    let op = c.in-Unary.op in
    let taken = c.operand_context-taken.result in
    let p = c.in_ok-place-in-Unary.place in
    let is : e ≡ expr_of (code.Unary op c.in-Unary.operand) = ap expr_of c.in-Unary.is in
    if_both c.put-in-Unary.result (λ _. new ≡ mid ++ Unary op taken p ∷ []) (λ place. place ≡ length mid)
    (λ place. (first : ℕ) → first ≤ length old → IsReady first ws ps old new c.args.context e place)
    c.put-in-Unary.ensures.gained c.put-in-Unary.ensures.place (λ place gained at first le.
    case_unary first ws ps old mid new c.args.context e op c.in-Unary.operand (expr_of c.get.result.now) (expr_of
    c.get-in-Unary.result.now)
    c.own_width.result taken p place le is c.get.ensures.whole_tree c.get-in-Unary.ensures.whole_tree
    c.own_width.ensures.width
    c.operand_context-taken.ensures.context c.operand_context-taken.ensures.limit
    (c.in_ok-place-in-Unary.ensures first le) gained at)

pub returns-in_ok-second-in-Binary : goal.returns-in_ok-second-in-Binary
returns-in_ok-second-in-Binary t c =
    let ws = c.args.widths.now in
    let ps = c.args.places.now in
    let old = c.args.nodes.now.items in
    let e = expr_of c.args.expr.now in
    let left = c.ready-in-Binary.new.nodes.items in
    let mid = c.ready-in-Binary-2.new.nodes.items in
    let new = c.put-in-Binary.new.nodes.items in
    let op = c.in-Binary.op in
    let p = c.in_ok-first-in-Binary.first in
    let q = c.in_ok-second-in-Binary.second in
    let is : e ≡ expr_of (code.Binary op c.in-Binary.left c.in-Binary.right) = ap expr_of c.in-Binary.is in
    if_both c.put-in-Binary.result (λ _. new ≡ mid ++ Binary op c.args.context p q ∷ []) (λ place. place ≡ length mid)
    (λ place. (first : ℕ) → first ≤ length old → IsReady first ws ps old new c.args.context e place)
    c.put-in-Binary.ensures.gained c.put-in-Binary.ensures.place (λ place gained at first le.
    let one = c.in_ok-first-in-Binary.ensures first le in
    case_binary first ws ps old left mid new c.args.context e op
    c.in-Binary.left (expr_of c.get-in-Binary.result.now) (expr_of c.get-in-Binary-3.result.now)
    c.in-Binary.right (expr_of c.get-in-Binary-2.result.now) (expr_of c.get-in-Binary-4.result.now)
    c.own_width-left_width.result c.own_width-right_width.result c.left_of-at_left.result
    c.right_of-at_right.result
    p q place le is c.get-in-Binary.ensures.whole_tree c.get-in-Binary-3.ensures.whole_tree
    c.get-in-Binary-2.ensures.whole_tree c.get-in-Binary-4.ensures.whole_tree
    c.own_width-left_width.ensures.width c.own_width-right_width.ensures.width
    c.left_of-at_left.ensures.context c.right_of-at_right.ensures.context c.requires.context
    one (c.in_ok-second-in-Binary.ensures first (omega (arith, le, grown old left one.grows))) gained at)

pub returns-in_ok-second-in-Choice : goal.returns-in_ok-second-in-Choice
returns-in_ok-second-in-Choice t c =
    let ws = c.args.widths.now in
    let ps = c.args.places.now in
    let old = c.args.nodes.now.items in
    let e = expr_of c.args.expr.now in
    let test = c.ready-in-Choice.new.nodes.items in
    let next = c.ready-in-Choice-2.new.nodes.items in
    let mid = c.ready-in-Choice-3.new.nodes.items in
    let new = c.put-in-Choice.new.nodes.items in
    let o = c.in_ok-test-in-Choice.test in
    let p = c.in_ok-first-in-Choice.first in
    let q = c.in_ok-second-in-Choice.second in
    let is : e ≡ expr_of (code.Choice c.in-Choice.test c.in-Choice.yes c.in-Choice.no) = ap expr_of c.in-Choice.is in
    if_both c.put-in-Choice.result (λ _. new ≡ mid ++ Choice o p q ∷ []) (λ place. place ≡ length mid)
    (λ place. (first : ℕ) → first ≤ length old → IsReady first ws ps old new c.args.context e place)
    c.put-in-Choice.ensures.gained c.put-in-Choice.ensures.place (λ place gained at first le.
    let one = c.in_ok-test-in-Choice.ensures first le in
    let more : first ≤ length test = omega (arith, le, grown old test one.grows) in
    let two = c.in_ok-first-in-Choice.ensures first more in
    case_choice first ws ps old test next mid new c.args.context e
    c.in-Choice.test (expr_of c.get-in-Choice.result.now) (expr_of c.get-in-Choice-2.result.now)
    c.in-Choice.yes (expr_of c.get-in-Choice-3.result.now) c.in-Choice.no (expr_of c.get-in-Choice-4.result.now)
    c.own_width-own.result o p q place le is c.get-in-Choice.ensures.whole_tree
    c.get-in-Choice-2.ensures.whole_tree
    c.get-in-Choice-3.ensures.whole_tree c.get-in-Choice-4.ensures.whole_tree c.own_width-own.ensures.width
    one two (c.in_ok-second-in-Choice.ensures first (omega (arith, more, grown test next two.grows))) gained at)

pub ready-requires-in-Choice-3 : goal.ready-requires-in-Choice-3
ready-requires-in-Choice-3 t c =
    let ws = c.args.widths.now in
    let ps = c.args.places.now in
    let old = c.args.nodes.now.items in
    let test = c.ready-in-Choice.new.nodes.items in
    let next = c.ready-in-Choice-2.new.nodes.items in
    let is : expr_of c.args.expr.now ≡ expr_of (code.Choice c.in-Choice.test c.in-Choice.yes c.in-Choice.no) = ap
    expr_of c.in-Choice.is in
    let valid = subst (λ (x : Expr). IsValid ws x) is c.requires.valid in
    let one = c.in_ok-test-in-Choice.ensures 0 (omega arith) in
    let two = c.in_ok-first-in-Choice.ensures 0 (omega arith) in (
      search rules,
      (
        subst (λ (x : Expr). IsValid ws x) (sym c.get-in-Choice-4.ensures.whole_tree) valid.2,
        (
          c.requires.narrow,
          (
            c.requires.context,
            (
              c.requires.count,
              (
                within_grown ps old next (grows_on old test next one.grows two.grows) c.requires.within,
                two.tape,
              ),
            ),
          ),
        ),
      ),
    )
