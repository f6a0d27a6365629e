-- A list of numbered items, item by item.
use Rattle.std.proofs.Common.{◌≡◌, ℕ, suc, ◌+◌, ◌<◌, List, [], ◌∷◌, ◌++◌, map, length, take, get_or, ap, sym, ◌∙◌}
use Rattle.std.proofs.Common.{arith, append_assoc, add-one}
use Rattle.std.proofs.lemmas.List.{append-nil, map-append}
use Rattle.std.proofs.lemmas.Grind.{common_steps}
use Rattle.std.proofs.Math.Seq.{take-suc}
use Rattle.verilog_text.specs.Text.{each_numbered}

each_numbered-more : {X : Type 0} (f : ℕ → X → List ℕ) (from : ℕ) (xs : List X) (x : X) (n : ℕ) → n ≡ from + length xs →
    each_numbered f from (xs ++ x ∷ []) ≡ each_numbered f from xs ++ f n x
each_numbered-more f from [] x n e =
    let same : n ≡ from = omega arith in rw same (append-nil (f from x))
each_numbered-more f from (y ∷ ys) x n e =
    let rest : n ≡ suc from + length ys = omega arith in
    ap (λ (t : List ℕ). f from y ++ t) (each_numbered-more f (suc from) ys x n rest)
    ∙ sym (append_assoc (f from y) (each_numbered f (suc from) ys) (f n x))

-- one more item of the list
pub one_more : {X Y : Type 0} (f : ℕ → Y → List ℕ) (g : X → Y) (xs : List X) (i : ℕ) (x : X) → i < length xs →
    get_or xs i x ≡ x →
    each_numbered f 0 (map g (take (suc i) xs)) ≡ each_numbered f 0 (map g (take i xs)) ++ f i (g x)
one_more {X} {Y} f g xs i x lt is =
    ap (λ (ys : List X). each_numbered f 0 (map g ys)) (take-suc xs i x lt)
    ∙ ap (λ (ys : List Y). each_numbered f 0 ys) (map-append g (take i xs) (get_or xs i x ∷ []))
    ∙ each_numbered-more f 0 (map g (take i xs)) (g (get_or xs i x)) i (grind (arith, common_steps))
    ∙ ap (λ (y : X). each_numbered f 0 (map g (take i xs)) ++ f i (g y)) is

-- bytes that had the first items gain the next one
pub gain_one : {X Y : Type 0} (f : ℕ → Y → List ℕ) (g : X → Y) (xs : List X) (i : ℕ) (x : X)
    (first before after : List ℕ) →
    i < length xs → x ≡ get_or xs i x → before ≡ first ++ each_numbered f 0 (map g (take i xs)) →
    after ≡ before ++ f i (g x) →
    after ≡ first ++ each_numbered f 0 (map g (take (i + 1) xs))
gain_one f g xs i x first before after lt is had gains =
    gains ∙ ap (λ (t : List ℕ). t ++ f i (g x)) had
    ∙ append_assoc first (each_numbered f 0 (map g (take i xs))) (f i (g x))
    ∙ ap (λ (t : List ℕ). first ++ t) (sym (one_more f g xs i x lt (sym is)))
    ∙ ap (λ (n : ℕ). first ++ each_numbered f 0 (map g (take n xs))) (sym (add-one i))
