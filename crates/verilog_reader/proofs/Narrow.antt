-- A valid expression is no wider than the widest of its signals and literals, so none is wider than the limit.
use Rattle.std.proofs.Common.{ℕ, ◌<◌, ◌≤◌, max, List, arith}
use Rattle.std.specs.Prelude.{slice_index}
use Rattle.psl_model.specs.declared.operators.UnOp.{UnOp}
use Rattle.psl_model.specs.declared.operators.UnOp.TheVariants.{Not, Flip, AllOnes, AnyOne, Parity}
use Rattle.psl_model.specs.declared.operators.BinOp.{BinOp}
use Rattle.psl_model.specs.declared.operators.BinOp.TheVariants.{Add, Sub, Shl, Shr, Lt, Le, Gt, Ge, Eq, Ne, BitAnd}
use Rattle.psl_model.specs.declared.operators.BinOp.TheVariants.{BitXor, BitOr, And, Or}
use Rattle.psl_model.specs.Expr.{Expr, whole, bit, part, plain, sized, unary, binary, choice}
use Rattle.psl_model.specs.Limits.{vector_limit}
use Rattle.psl_model.specs.Value.{unary_width, binary_width, width_of}
use Rattle.psl_model.specs.Valid.{IsValid}

unary_narrow : (op : UnOp) (w : ℕ) → w ≤ 64 → unary_width op w ≤ 64
unary_narrow Not w le = omega arith
unary_narrow Flip w le = le
unary_narrow AllOnes w le = omega arith
unary_narrow AnyOne w le = omega arith
unary_narrow Parity w le = omega arith

max_narrow : (v w : ℕ) → v ≤ 64 → w ≤ 64 → max v w ≤ 64
max_narrow v w l m = omega arith

binary_narrow : (op : BinOp) (v w : ℕ) → v ≤ 64 → w ≤ 64 → binary_width op v w ≤ 64
binary_narrow Add v w l m = max_narrow v w l m
binary_narrow Sub v w l m = max_narrow v w l m
binary_narrow BitAnd v w l m = max_narrow v w l m
binary_narrow BitXor v w l m = max_narrow v w l m
binary_narrow BitOr v w l m = max_narrow v w l m
binary_narrow Shl v w l m = l
binary_narrow Shr v w l m = l
binary_narrow Lt v w l m = omega arith
binary_narrow Le v w l m = omega arith
binary_narrow Gt v w l m = omega arith
binary_narrow Ge v w l m = omega arith
binary_narrow Eq v w l m = omega arith
binary_narrow Ne v w l m = omega arith
binary_narrow And v w l m = omega arith
binary_narrow Or v w l m = omega arith

pub narrow : (widths : List ℕ) → ((place : ℕ) → slice_index widths place ≤ vector_limit) → (e : Expr) →
    IsValid widths e → width_of widths e ≤ vector_limit
narrow widths bounded (whole s) valid = bounded s
narrow widths bounded (bit s n) valid = omega arith
narrow widths bounded (part s h l) valid =
    let has : h < slice_index widths s = valid.2 in
    let le : slice_index widths s ≤ 64 = bounded s in
    omega arith
narrow widths bounded (plain n) valid = omega arith
narrow widths bounded (sized w v) valid = valid.1
narrow widths bounded (unary op a) valid = unary_narrow op (width_of widths a) (narrow widths bounded a valid)
narrow widths bounded (binary op a b) valid =
    binary_narrow op (width_of widths a) (width_of widths b) (narrow widths bounded a valid.1)
    (narrow widths bounded b valid.2)
narrow widths bounded (choice t y n) valid =
    max_narrow (width_of widths y) (width_of widths n) (narrow widths bounded y valid.1)
    (narrow widths bounded n valid.2)
