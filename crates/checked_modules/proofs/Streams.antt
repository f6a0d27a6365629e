-- The output of a module as a stream of bits, and the streams of `mbac_eot`.
use Rattle.std.specs.Prelude.{ℕ, zero, suc, ◌≡◌, ◌≢◌, ◌↔◌, ◌<◌, ◌≤◌, ◌-◌, ◌++◌, List, [], ◌∷◌, Some, Contains, length}
use Rattle.std.specs.Prelude.{replicate, slice_get, slice_index}
use Rattle.std.proofs.Common.{refl, sym, ap, ◌∙◌, subst, arith, get_or}
use Rattle.std.proofs.lemmas.Option.{same_Some, slice_get-get_or, get_or_from_slice_get, slice_get_within}
use Rattle.circuit_core.specs.Run.{Stream}
use Rattle.circuit_core.specs.Starts.{ComesBy}
use Rattle.verilog_text.specs.Module.{Module}
use Rattle.verilog_text.specs.Run.{Cycle, FitWidths, IsSettled, IsRun, fail_stream, RisesBy}
use Rattle.verilog_text.specs.State.{wire_widths}

-- the output of a settled cycle has one bit
abbrev pub HasOneBit : Type 0
HasOneBit = (m : Module) (c : Cycle) → IsSettled m c → FitWidths (wire_widths m) c.wires × (c.fail < 2)

first_settled : (m : Module) (c : Cycle) (cycles : List Cycle) → IsRun m (c ∷ cycles) → IsSettled m c
first_settled m c [] run = run
first_settled m c (d ∷ cycles) run = run.0

pub small_output : HasOneBit → (m : Module) (c : Cycle) (cycles : List Cycle) → IsRun m (c ∷ cycles) → (k x : ℕ) →
    slice_get (fail_stream cycles) k ≡ Some x → x < 2
small_output law m c [] run k x at = absurd (cc (at))
small_output law m c (d ∷ cycles) run zero x at =
    let is : d.fail ≡ x = same_Some d.fail x at in
    subst (λ (n : ℕ). n < 2) is (law m d (first_settled m d cycles run.2)).1
small_output law m c (d ∷ cycles) run (suc k) x at = small_output law m d cycles run.2 k x at

-- a list that shows a stream of bits in so many cycles
pub record Shows (cycles : ℕ) (shown : List ℕ) (out : Stream) : Type 0 where
  pub at : (n : ℕ) → n < cycles → slice_get shown n ≡ Some (out n)
  pub small : (n : ℕ) → n < cycles → out n < 2

pub rises_as_it_comes : (cycles : ℕ) (shown : List ℕ) (out : Stream) → Shows cycles shown out → (n : ℕ) → n < cycles →
    RisesBy shown n ↔ ComesBy out n
rises_as_it_comes cycles shown out shows n within = (
  (λ r.
      let is : out r.0 ≡ 1 = same_Some (out r.0) 1 (sym (shows.at r.0 (omega (arith, r.1))) ∙ r.2) in
      (r.0, r.1, λ off. omega (arith, is, off))),
  (λ c.
      let inside : c.0 < cycles = omega (arith, c.1) in
      let is : out c.0 ≡ 1 = omega (arith, shows.small c.0 inside, c.2) in
      (c.0, c.1, shows.at c.0 inside ∙ ap Some is)),
)

pub contains_as_it_rises : (shown : List ℕ) (last : ℕ) → suc last ≡ length shown → Contains shown 1 ↔ RisesBy shown last
contains_as_it_rises shown last is_last = (
  (λ c.
      let at : slice_get shown c.0 ≡ Some 1 = slice_get-get_or shown c.0 1 c.1 ∙ ap Some c.2 in
      (c.0, omega (arith, c.1, is_last), at)),
  (λ r. (r.0, slice_get_within shown r.0 1 r.2, get_or_from_slice_get shown r.0 1 1 r.2)),
)

-- ---- `mbac_eot`

pub never_marked : (count n : ℕ) → slice_index (replicate count 0) n ≡ 0
never_marked zero n = refl
never_marked (suc count) zero = refl
never_marked (suc count) (suc n) = never_marked count n

pub last_marked : (last n : ℕ) → (slice_index (replicate last 0 ++ 1 ∷ []) n ≢ 0) ↔ (n ≡ last)
last_marked zero zero = ((λ on. refl), (λ is off. omega (arith, off)))
last_marked zero (suc n) = ((λ on. absurd (on refl)), (λ is. absurd (omega (arith, is))))
last_marked (suc last) zero = ((λ on. absurd (on refl)), (λ is. absurd (omega (arith, is))))
last_marked (suc last) (suc n) =
    let before = last_marked last n in
    ((λ on. omega (arith, before.0 on)), (λ is. before.1 (omega (arith, is))))
