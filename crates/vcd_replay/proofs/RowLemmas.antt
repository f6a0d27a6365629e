-- Rows that lie one behind the other.
use Rattle.std.proofs.Common.{◌≡◌, ℕ, zero, suc, ◌+◌, ◌*◌, ◌<◌, ◌≤◌, List, Some, length, take, drop, refl, sym, ◌∙◌, ap}
use Rattle.std.proofs.Common.{arith}
use Rattle.std.specs.Prelude.{slice_get}
use Rattle.std.proofs.lemmas.List.{drop-drop}
use Rattle.std.proofs.Math.Nat.{zero-mul, mul-le-mul_right, suc-mul}
use Rattle.vcd_replay.specs.inner.Rows.{rows}

pub rows_length : (ports count : ℕ) (values : List ℕ) → length (rows ports count values) ≡ count
rows_length ports zero values = refl
rows_length ports (suc count) values = ap suc (rows_length ports count (drop ports values))

drop-drop_sum : (cycle ports : ℕ) (values : List ℕ) → drop (cycle * ports) (drop ports values)
    ≡ drop (suc cycle * ports) values
drop-drop_sum cycle ports values = drop-drop (cycle * ports) ports values
    ∙ ap (λ (n : ℕ). drop n values) (let e : ports + cycle * ports ≡ suc cycle * ports =
    omega (arith, suc-mul cycle ports) in e)

pub row_fits : (ports count cycle : ℕ) → cycle < count → cycle * ports + ports ≤ count * ports
row_fits ports count cycle h = let le : suc cycle * ports ≤ count * ports =
    mul-le-mul_right ports (let more : suc cycle ≤ count = omega arith in more) in omega (arith, suc-mul cycle ports)

pub row_at : (ports count : ℕ) (values : List ℕ) (cycle : ℕ) → cycle < count
    → slice_get (rows ports count values) cycle ≡ Some (take ports (drop (cycle * ports) values))
row_at ports zero values cycle h = absurd (omega arith)
row_at ports (suc count) values zero h = ap (λ v. Some (take ports v))
    (sym (ap (λ (n : ℕ). drop n values) (zero-mul ports)))
row_at ports (suc count) values (suc cycle) h = row_at ports count (drop ports values) cycle (omega arith)
    ∙ ap (λ v. Some (take ports v)) (drop-drop_sum cycle ports values)
