-- What the nets of each kind are in a run.
use Rattle.std.specs.Prelude.{ℕ, zero, suc, ◌≡◌, ◌≢◌, ◌↔◌, ◌⊎◌, ◌<◌, List, Some, Bool, length, slice_get}
use Rattle.std.proofs.Common.{refl, ap, ◌∙◌, arith, inl, inr}
use Rattle.psl_model.specs.Expr.{Expr}
use Rattle.psl_model.specs.Value.{own_value}
use Rattle.circuit_core.specs.Netlist.{bit, eot, guard, not, and, or, register, one_bit, Register, Netlist, IsNetOf}
use Rattle.circuit_core.specs.Run.{On, truth, flipped, both, either, number, Throughout, InEachRun, InEachCycle}
use Rattle.circuit_core.specs.Growth.{Extends}

flipped_on : (x y : ℕ) → x ≡ flipped y → (x ≢ 0) ↔ ¬ (y ≢ 0)
flipped_on x zero e = ((λ on y_on. y_on refl), (λ h. omega arith))
flipped_on x (suc y) e = ((λ on. absurd (on e)), (λ h. absurd (h (omega arith))))

truth_on : (x y : ℕ) → x ≡ truth y → (x ≢ 0) ↔ (y ≢ 0)
truth_on x zero e = ((λ on. absurd (on e)), (λ on. absurd (on refl)))
truth_on x (suc y) e = ((λ on. omega arith), (λ on. omega arith))

both_on : (x y z : ℕ) → x ≡ both y z → (x ≢ 0) ↔ ((y ≢ 0) × (z ≢ 0))
both_on x zero z e = ((λ on. absurd (on e)), (λ on. absurd (on.0 refl)))
both_on x (suc y) z e = let t = truth_on x z e in ((λ on. (omega arith, t.0 on)), (λ on. t.1 on.1))

either_on : (x y z : ℕ) → x ≡ either y z → (x ≢ 0) ↔ ((y ≢ 0) ⊎ (z ≢ 0))
either_on x zero z e =
    let t = truth_on x z e in
    ((λ on. inr (t.0 on)), (λ on. elim on [ inl h ↦ absurd (h refl) | inr h ↦ t.1 h ]))
either_on x (suc y) z e = ((λ on. inl (omega arith)), (λ on. omega arith))

pub bit_stream : (m : Netlist) (k : ℕ) (b : Bool) → slice_get m.nodes k ≡ Some (one_bit (bit b)) →
    InEachCycle m (λ run n. run k n ≡ number b)
bit_stream m k b at inputs run h = h.nets k (one_bit (bit b)) at

pub eot_stream : (m : Netlist) (k : ℕ) → slice_get m.nodes k ≡ Some (one_bit eot) →
    InEachRun m (λ inputs run. Throughout inputs (λ n. run k n ≡ truth (inputs.eot n)))
eot_stream m k at inputs run h = h.nets k (one_bit eot) at

pub guard_stream : (old m : Netlist) (k : ℕ) (e : Expr) → Extends old m →
    slice_get m.nodes k ≡ Some (one_bit (guard e)) →
    InEachRun m (λ inputs run. (n : ℕ) (values : List ℕ) → slice_get inputs.trace n ≡ Some values →
    On (run k) n ↔ (own_value old.widths values e ≢ 0))
guard_stream old m k e kept at inputs run h n values here =
    truth_on (run k n) (own_value old.widths values e)
    (h.nets k (one_bit (guard e)) at n values here ∙ ap (λ (ws : List ℕ). truth (own_value ws values e)) kept.widths)

pub not_stream : (m : Netlist) (k a : ℕ) → slice_get m.nodes k ≡ Some (one_bit (not a)) →
    InEachCycle m (λ run n. On (run k) n ↔ ¬ On (run a) n)
not_stream m k a at inputs run h n within = flipped_on (run k n) (run a n) (h.nets k (one_bit (not a)) at n within)

pub and_stream : (m : Netlist) (k a b : ℕ) → slice_get m.nodes k ≡ Some (one_bit (and a b)) →
    InEachCycle m (λ run n. On (run k) n ↔ (On (run a) n × On (run b) n))
and_stream m k a b at inputs run h n within =
    both_on (run k n) (run a n) (run b n) (h.nets k (one_bit (and a b)) at n within)

pub or_stream : (m : Netlist) (k a b : ℕ) → slice_get m.nodes k ≡ Some (one_bit (or a b)) →
    InEachCycle m (λ run n. On (run k) n ↔ (On (run a) n ⊎ On (run b) n))
or_stream m k a b at inputs run h n within =
    either_on (run k n) (run a n) (run b n) (h.nets k (one_bit (or a b)) at n within)

pub register_begins : (m : Netlist) (r k : ℕ) (x : Register) → IsNetOf m r k → slice_get m.registers r ≡ Some x →
    InEachRun m (λ inputs run. 0 < length inputs.trace → run k 0 ≡ x.initial)
register_begins m r k x at there inputs run h = (h.nets k (one_bit (register r)) at x there).begins
