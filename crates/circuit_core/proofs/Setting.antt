-- What it is to set the next of a register.
use Rattle.std.specs.Prelude.{ℕ, ◌≡◌, ◌≢◌, ◌⊎◌, ◌<◌, ◌≤◌, List, Some, None, length}
use Rattle.std.specs.Prelude.{slice_get, map, option_map}
use Rattle.std.proofs.Common.{refl, sym, ap, ◌∙◌, subst, arith, inl, inr, get_or}
use Rattle.std.proofs.Math.ListN.{set, length-set}
use Rattle.std.proofs.lemmas.Option.{same_Some, slice_get-map, slice_get-get_or, slice_get_cases}
use Rattle.circuit_core.specs.declared.nodes.NetReg.{NetReg}
use Rattle.circuit_core.specs.View.{register_of}
use Rattle.circuit_core.specs.Netlist.{register, one_bit, Register, Netlist, IsNet}
use Rattle.circuit_core.specs.WellMade.{IsRegister, IsWellMade}
use Rattle.circuit_core.specs.Growth.{opened, closed, HasNoNext, IsSet}
use Rattle.circuit_core.proofs.Lists.{get_set, get_set_other, same_or_not}
use Rattle.circuit_core.proofs.Growth.{Keeps, keeps_self, runs_kept}
use Rattle.circuit_core.proofs.Making.{made_registers}

pub opened_same : (a b : Register) → a ≡ b → (a.width ≡ b.width) × (a.initial ≡ b.initial) × (a.next ≡ b.next)
opened_same a b e =
    (ap (λ (x : Register). x.width) e, ap (λ (x : Register). x.initial) e, ap (λ (x : Register). x.next) e)

-- the register that is there now, which has no next
pub open_now : (regs : List NetReg) (r : ℕ) (x : NetReg) (width initial : ℕ) →
    slice_get (map register_of regs) r ≡ Some (opened width initial) → x ≡ get_or regs r x →
    slice_get (map register_of regs) r ≡ Some (opened x.width x.init)
open_now regs r x width initial there is = split (slice_get_cases regs r).1
  where
    split : ((y : NetReg) × (r < length regs) × (slice_get regs r ≡ Some y) × (get_or regs r y ≡ y)) ⊎
        ((length regs ≤ r) × (slice_get regs r ≡ None)) →
        slice_get (map register_of regs) r ≡ Some (opened x.width x.init)
    split (inl some) =
        let here : slice_get regs r ≡ Some x =
        slice_get-get_or regs r x some.1 ∙ ap (λ (y : NetReg). Some y) (sym is) in
        let seen : slice_get (map register_of regs) r ≡ Some (register_of x) =
        slice_get-map register_of regs r ∙ ap (option_map register_of) here in
        let both : register_of x ≡ opened width initial =
        same_Some (register_of x) (opened width initial) (sym seen ∙ there) in
        let parts = opened_same (register_of x) (opened width initial) both in
        there ∙ ap (λ (w : ℕ). Some (opened w initial)) (sym parts.0) ∙ ap (λ (i : ℕ). Some (opened x.width i))
        (sym parts.1)
    split (inr none) = absurd (cc (slice_get-map register_of regs r, ap (option_map register_of) none.1, there))

module _ (old : Netlist) (r next width initial : ℕ) (there : slice_get old.registers r ≡ Some (opened width initial))
  where
    abbrev pub changed : List Register
    changed = set old.registers r (closed width initial next)

    at_r : slice_get changed r ≡ Some (closed width initial next)
    at_r = get_set old.registers r (opened width initial) (closed width initial next) there

    at_others : (q : ℕ) → q ≢ r → slice_get changed q ≡ slice_get old.registers q
    at_others q other = get_set_other old.registers r q (closed width initial next) other

    kept_at : (q : ℕ) (x : Register) → slice_get old.registers q ≡ Some x → (q ≡ r) ⊎ (q ≢ r) →
        (y : Register) × (slice_get changed q ≡ Some y) × Keeps x y
    kept_at q x at (inr other) = (x, at_others q other ∙ at, keeps_self x)
    kept_at q x at (inl same) =
        let is : opened width initial ≡ x =
        same_Some (opened width initial) x (sym there ∙ ap (λ (k : ℕ). slice_get old.registers k) (sym same) ∙ at) in
        let at_q : slice_get changed q ≡ Some (closed width initial next) =
        ap (λ (k : ℕ). slice_get changed k) same ∙ at_r in (
          closed width initial next,
          at_q,
          subst (λ (z : Register). Keeps z (closed width initial next)) is (record { initial = refl; next = tt }),
        )

    pub set_is : (registers : List Register) → registers ≡ changed →
        IsSet old r next (record old { registers = registers })
    set_is registers e = subst (λ (xs : List Register). IsSet old r next (record old { registers = xs })) (sym e)
        (record {
          widths = refl;
          nodes = refl;
          others = λ q x other at. at_others q other ∙ at;
          sets = λ w i at. let parts = opened_same (opened width initial) (opened w i)
              (same_Some (opened width initial) (opened w i) (sym there ∙ at)) in
              at_r ∙ ap (λ (v : ℕ). Some (closed v initial next)) parts.0
              ∙ ap (λ (v : ℕ). Some (closed w v next)) parts.1;
          count = length-set old.registers r (closed width initial next);
          output = refl;
          runs = runs_kept old (record old { registers = changed }) refl (λ k node at. at)
              (λ q x at. kept_at q x at (same_or_not q r));
          follows = λ k at inputs run h n within.
              (h.nets k (one_bit (register r)) at (closed width initial next) at_r).goes_on n within;
        })

    pub set_made : (registers : List Register) → registers ≡ changed → IsWellMade old → IsNet old next →
        IsWellMade (record old { registers = registers })
    set_made registers e well is = made_registers old registers well
        (omega (
          arith,
          ap (λ (xs : List Register). length xs) e,
          length-set old.registers r (closed width initial next),
        ))
        (λ q x at. each q x (ap (λ (xs : List Register). slice_get xs q) (sym e) ∙ at) (same_or_not q r))
      where
        each : (q : ℕ) (x : Register) → slice_get changed q ≡ Some x → (q ≡ r) ⊎ (q ≢ r) → IsRegister old x
        each q x at (inr other) = well.registers q x (sym (at_others q other) ∙ at)
        each q x at (inl same) =
            let was = well.registers r (opened width initial) there in
            let is_x : closed width initial next ≡ x = same_Some (closed width initial next) x
            (sym at_r ∙ ap (λ (k : ℕ). slice_get changed k) (sym same) ∙ at) in
            subst (λ (y : Register). IsRegister old y) is_x (record { width = was.width; fits = was.fits; next = is })

-- The same of the netlist's parts as a call sees them: `seen` is what its fields show when the call begins.
module _ (regs : List NetReg) (old seen : Netlist) (view : seen ≡ old) (held : seen.registers ≡ map register_of regs)
    (r next : ℕ) (x : NetReg) (is : x ≡ get_or regs r x) (unset : HasNoNext old r) where
  now_open : slice_get seen.registers r ≡ Some (opened x.width x.init)
  now_open =
      let at_old : slice_get seen.registers r ≡ Some (opened unset.0 unset.1) =
      ap (λ (m : Netlist). slice_get m.registers r) view ∙ unset.2 in
      let at_regs : slice_get (map register_of regs) r ≡ Some (opened unset.0 unset.1) =
      ap (λ (xs : List Register). slice_get xs r) (sym held) ∙ at_old in
      ap (λ (xs : List Register). slice_get xs r) held ∙ open_now regs r x unset.0 unset.1 at_regs is

  pub seen_set : (registers : List Register) → registers ≡ set seen.registers r (closed x.width x.init next) →
      IsSet old r next (record seen { registers = registers })
  seen_set registers e =
      subst (λ (m : Netlist). IsSet m r next (record seen { registers = registers })) view
      (set_is seen r next x.width x.init now_open registers e)

  pub seen_made : (registers : List Register) → registers ≡ set seen.registers r (closed x.width x.init next) →
      IsWellMade seen → IsNet old next → IsWellMade (record seen { registers = registers })
  seen_made registers e well net =
      set_made seen r next x.width x.init now_open registers e well
      (subst (λ (m : Netlist). IsNet m next) (sym view) net)
