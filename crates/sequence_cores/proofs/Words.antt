-- A counted sequence has the words of the sequence.
use Rattle.std.proofs.Common.{◌≡◌, ◌⊎◌, inl, inr, ℕ, zero, suc, ◌+◌, ◌-◌, ◌≤◌, List, [], ◌++◌, Option, Some, None, refl}
use Rattle.std.proofs.Common.{sym, ap, subst, arith}
use Rattle.std.specs.Prelude.{◌↔◌}
use Rattle.psl_model.specs.Sere as sere
use Rattle.psl_meaning.specs.Word.{Letter}
use Rattle.psl_meaning.specs.Sequence.{CoreSere, empty, concat, fuse, or, both, star, Copies, Tight}
use Rattle.psl_meaning.specs.SequenceSugar as sugar
use Rattle.psl_meaning.specs.SequenceSugar.{copies, union_of_copies, repeated}
use Rattle.psl_rewrite.specs.CoreSere as core
use Rattle.psl_rewrite.specs.Meaning.{meant_core}
use Rattle.sequence_cores.specs.Counted as counted
use Rattle.sequence_cores.specs.Counted.{copied, ranged, counted_repeat, counted_as}
use Rattle.sequence_cores.proofs.Copies.{more_copies, fewer_copies, left_over, filled_up, copies_keep}

-- the words of a counted repetition, and of one without an upper count
abbrev pub Between : List ℕ → Type 0
Between widths = (r : CoreSere) (low high : ℕ) (w : List Letter) → low ≤ high →
    Tight widths (repeated low (Some high) r) w
    ↔ ((k : ℕ) × (low ≤ k) × (k ≤ high) × Copies (Tight widths r) k w)

abbrev pub AtLeast : List ℕ → Type 0
AtLeast widths = (r : CoreSere) (low : ℕ) (w : List Letter) → Tight widths (repeated low None r) w
    ↔ ((k : ℕ) × (low ≤ k) × Copies (Tight widths r) k w)

module _ (widths : List ℕ) (between : Between widths) (at_least : AtLeast widths) where
  -- each word of the one is one of the other
  abbrev Keeps : CoreSere → CoreSere → Type 0
  Keeps r s = (w : List Letter) → Tight widths r w → Tight widths s w

  concat_keeps : (r r' s s' : CoreSere) → Keeps r r' → Keeps s s' → Keeps (concat r s) (concat r' s')
  concat_keeps r r' s s' f g w (u, v, split, p, q) = (u, v, split, f u p, g v q)

  both_keep : (r r' s s' : CoreSere) → Keeps r r' → Keeps s s' → Keeps (both r s) (both r' s')
  both_keep r r' s s' f g w (p, q) = (f w p, g w q)

  or_keeps : (r r' s s' : CoreSere) → Keeps r r' → Keeps s s' → Keeps (or r s) (or r' s')
  or_keeps r r' s s' f g w (inl p) = inl (f w p)
  or_keeps r r' s s' f g w (inr q) = inr (g w q)

  fuse_keeps : (r r' s s' : CoreSere) → Keeps r r' → Keeps s s' → Keeps (fuse r s) (fuse r' s')
  fuse_keeps r r' s s' f g w (u, v, a, split, p, q) = (u, v, a, split, f _ p, g _ q)

  itself_keeps : (r : CoreSere) → Keeps r r
  itself_keeps r w p = p

  -- so many copies, at least low and at most more behind them
  abbrev Ranges : CoreSere → (low more : ℕ) → List Letter → Type 0
  Ranges r low more w = (k : ℕ) × (low ≤ k) × (k ≤ low + more) × Copies (Tight widths r) k w

  ranges_keep : (r s : CoreSere) (low more : ℕ) (w : List Letter) → Keeps r s → Ranges r low more w →
      Ranges s low more w
  ranges_keep r s low more w f (k, above, below, all) =
      (k, above, below, copies_keep (Tight widths r) (Tight widths s) f k w all)

  union_ranges : (r : CoreSere) (low more : ℕ) (w : List Letter) → Tight widths (union_of_copies low more r) w →
      Ranges r low more w
  union_ranges r low more w p =
      let count : more ≡ (low + more) - low = omega arith in
      (between r low (low + more) w (omega arith)).0
      (subst (λ (n : ℕ). Tight widths (union_of_copies low n r) w) count p)

  ranges_union : (r : CoreSere) (low more : ℕ) (w : List Letter) → Ranges r low more w →
      Tight widths (union_of_copies low more r) w
  ranges_union r low more w all =
      let count : (low + more) - low ≡ more = omega arith in
      subst (λ (n : ℕ). Tight widths (union_of_copies low n r) w) count
      ((between r low (low + more) w (omega arith)).1 all)

  copies_are : (r : CoreSere) (k : ℕ) (w : List Letter) → Tight widths (copies k r) w → Copies (Tight widths r) k w
  copies_are r k w p = pick (union_ranges r k zero w p)
    where
      pick : Ranges r k zero w → Copies (Tight widths r) k w
      pick (n, above, below, all) =
          let same : n ≡ k = omega arith in
          subst (λ (m : ℕ). Copies (Tight widths r) m w) same all

  are_copies : (r : CoreSere) (k : ℕ) (w : List Letter) → Copies (Tight widths r) k w → Tight widths (copies k r) w
  are_copies r k w all = ranges_union r k zero w (k, omega arith, omega arith, all)

  copied_means : (k : ℕ) (r : core.CoreSere) → meant_core (copied k r) ≡ copies k (meant_core r)
  copied_means zero r = refl
  copied_means (suc zero) r = refl
  copied_means (suc (suc k)) r = refl

  copied_are : (r : core.CoreSere) (k : ℕ) (w : List Letter) → Tight widths (meant_core (copied k r)) w →
      Copies (Tight widths (meant_core r)) k w
  copied_are r k w p =
      copies_are (meant_core r) k w (subst (λ (s : CoreSere). Tight widths s w) (copied_means k r) p)

  are_copied : (r : core.CoreSere) (k : ℕ) (w : List Letter) → Copies (Tight widths (meant_core r)) k w →
      Tight widths (meant_core (copied k r)) w
  are_copied r k w all =
      subst (λ (s : CoreSere). Tight widths s w) (sym (copied_means k r)) (are_copies (meant_core r) k w all)

  ranged_ranges : (r : core.CoreSere) (low more : ℕ) (w : List Letter) → Tight widths (meant_core (ranged low more r)) w →
      Ranges (meant_core r) low more w
  ranged_ranges r low zero w p = (low, omega arith, omega arith, copied_are r low w p)
  ranged_ranges r low (suc more) w (u, v, split, p, q) =
      let P : List Letter → Type 0 = Tight widths (meant_core r) in
      let rest = left_over P (suc more) v (copied_are (core.or core.empty r) (suc more) v q) in
      let below = rest.1 in (
        low + rest.0,
        omega arith,
        omega (arith, below),
        subst (λ (l : List Letter). Copies P (low + rest.0) l) (sym split)
            (more_copies P low rest.0 u v (copied_are r low u p) rest.2),
      )

  ranges_ranged : (r : core.CoreSere) (low more : ℕ) (w : List Letter) → Ranges (meant_core r) low more w →
      Tight widths (meant_core (ranged low more r)) w
  ranges_ranged r low zero w (k, above, below, all) =
      let same : k ≡ low = omega arith in
      are_copied r low w (subst (λ (n : ℕ). Copies (Tight widths (meant_core r)) n w) same all)
  ranges_ranged r low (suc more) w (k, above, below, all) =
      let P : List Letter → Type 0 = Tight widths (meant_core r) in
      let sum : k ≡ low + (k - low) = omega arith in
      let two = fewer_copies P low (k - low) w (subst (λ (n : ℕ). Copies P n w) sum all) in (
        two.0,
        two.1,
        two.2,
        are_copied r low two.0 two.3,
        are_copied (core.or core.empty r) (suc more) two.1
            (filled_up P (suc more) (k - low) two.1 (omega arith) two.4),
      )

  repeat_kept : (r : core.CoreSere) (s : CoreSere) (low : ℕ) (high : Option ℕ) → Keeps (meant_core r) s →
      Keeps (meant_core (counted_repeat low high r)) (repeated low high s)
  repeat_kept r s low (Some high) f w p =
      ranges_union s low (high - low) w
      (ranges_keep (meant_core r) s low (high - low) w f (ranged_ranges r low (high - low) w p))
  repeat_kept r s zero None f w (n, all) = (n, copies_keep (Tight widths (meant_core r)) (Tight widths s) f n w all)
  repeat_kept r s (suc low) None f w (u, v, split, p, (n, all)) =
      let P : List Letter → Type 0 = Tight widths (meant_core r) in
      let Q : List Letter → Type 0 = Tight widths s in (
        u,
        v,
        split,
        are_copies s (suc low) u (copies_keep P Q f (suc low) u (copied_are r (suc low) u p)),
        (n, copies_keep P Q f n v all),
      )

  kept_repeat : (r : core.CoreSere) (s : CoreSere) (low : ℕ) (high : Option ℕ) → Keeps s (meant_core r) →
      Keeps (repeated low high s) (meant_core (counted_repeat low high r))
  kept_repeat r s low (Some high) f w p =
      ranges_ranged r low (high - low) w
      (ranges_keep s (meant_core r) low (high - low) w f (union_ranges s low (high - low) w p))
  kept_repeat r s zero None f w (n, all) = (n, copies_keep (Tight widths s) (Tight widths (meant_core r)) f n w all)
  kept_repeat r s (suc low) None f w (u, v, split, p, (n, all)) =
      let P : List Letter → Type 0 = Tight widths s in
      let Q : List Letter → Type 0 = Tight widths (meant_core r) in (
        u,
        v,
        split,
        are_copied r (suc low) u (copies_keep P Q f (suc low) u (copies_are s (suc low) u p)),
        (n, copies_keep P Q f n v all),
      )

  -- the words of a padded part
  padded_kept : (r s : CoreSere) → Keeps r s → Keeps (concat r sugar.anything) (concat s sugar.anything)
  padded_kept r s f = concat_keeps r s sugar.anything sugar.anything f (itself_keeps sugar.anything)

  later_kept : (r s : CoreSere) → Keeps r s → Keeps (concat sugar.anything r) (concat sugar.anything s)
  later_kept r s f = concat_keeps sugar.anything sugar.anything r s (itself_keeps sugar.anything) f

  meets_kept : (r r' s s' : CoreSere) → Keeps r r' → Keeps s s' →
      Keeps (or (both r (concat s sugar.anything)) (both (concat r sugar.anything) s))
      (or (both r' (concat s' sugar.anything)) (both (concat r' sugar.anything) s'))
  meets_kept r r' s s' f g =
      or_keeps (both r (concat s sugar.anything)) (both r' (concat s' sugar.anything))
      (both (concat r sugar.anything) s) (both (concat r' sugar.anything) s')
      (both_keep r r' (concat s sugar.anything) (concat s' sugar.anything) f (padded_kept s s' g))
      (both_keep (concat r sugar.anything) (concat r' sugar.anything) s s' (padded_kept r r' f) g)

  within_kept : (r r' s s' : CoreSere) → Keeps r r' → Keeps s s' →
      Keeps (both (concat (concat sugar.anything r) sugar.anything) s)
      (both (concat (concat sugar.anything r') sugar.anything) s')
  within_kept r r' s s' f g =
      both_keep (concat (concat sugar.anything r) sugar.anything) (concat (concat sugar.anything r') sugar.anything) s s'
      (padded_kept (concat sugar.anything r) (concat sugar.anything r') (later_kept r r' f)) g

  pub counted_kept : (r : sere.Sere) → Keeps (meant_core (counted_as r)) (sugar.core_of r)
  counted_kept (sere.bool e) = itself_keeps (sugar.core_of (sere.bool e))
  counted_kept (sere.concat r s) =
      concat_keeps (meant_core (counted_as r)) (sugar.core_of r) (meant_core (counted_as s)) (sugar.core_of s)
      (counted_kept r) (counted_kept s)
  counted_kept (sere.fuse r s) =
      fuse_keeps (meant_core (counted_as r)) (sugar.core_of r) (meant_core (counted_as s)) (sugar.core_of s)
      (counted_kept r) (counted_kept s)
  counted_kept (sere.or r s) =
      or_keeps (meant_core (counted_as r)) (sugar.core_of r) (meant_core (counted_as s)) (sugar.core_of s)
      (counted_kept r) (counted_kept s)
  counted_kept (sere.both r s) =
      both_keep (meant_core (counted_as r)) (sugar.core_of r) (meant_core (counted_as s)) (sugar.core_of s)
      (counted_kept r) (counted_kept s)
  counted_kept (sere.meet r s) =
      meets_kept (meant_core (counted_as r)) (sugar.core_of r) (meant_core (counted_as s)) (sugar.core_of s)
      (counted_kept r) (counted_kept s)
  counted_kept (sere.within r s) =
      within_kept (meant_core (counted_as r)) (sugar.core_of r) (meant_core (counted_as s)) (sugar.core_of s)
      (counted_kept r) (counted_kept s)
  counted_kept (sere.repeat r low high) = repeat_kept (counted_as r) (sugar.core_of r) low high (counted_kept r)
  counted_kept (sere.goto e low high) =
      repeat_kept (counted.next_with e) (sugar.next_with e) low high (itself_keeps (sugar.next_with e))
  counted_kept (sere.equal e low high) =
      concat_keeps (meant_core (counted_repeat low high (counted.next_with e)))
      (repeated low high (sugar.next_with e)) (meant_core (counted.without e)) (meant_core (counted.without e))
      (repeat_kept (counted.next_with e) (sugar.next_with e) low high (itself_keeps (sugar.next_with e)))
      (itself_keeps (meant_core (counted.without e)))

  pub kept_counted : (r : sere.Sere) → Keeps (sugar.core_of r) (meant_core (counted_as r))
  kept_counted (sere.bool e) = itself_keeps (sugar.core_of (sere.bool e))
  kept_counted (sere.concat r s) =
      concat_keeps (sugar.core_of r) (meant_core (counted_as r)) (sugar.core_of s) (meant_core (counted_as s))
      (kept_counted r) (kept_counted s)
  kept_counted (sere.fuse r s) =
      fuse_keeps (sugar.core_of r) (meant_core (counted_as r)) (sugar.core_of s) (meant_core (counted_as s))
      (kept_counted r) (kept_counted s)
  kept_counted (sere.or r s) =
      or_keeps (sugar.core_of r) (meant_core (counted_as r)) (sugar.core_of s) (meant_core (counted_as s))
      (kept_counted r) (kept_counted s)
  kept_counted (sere.both r s) =
      both_keep (sugar.core_of r) (meant_core (counted_as r)) (sugar.core_of s) (meant_core (counted_as s))
      (kept_counted r) (kept_counted s)
  kept_counted (sere.meet r s) =
      meets_kept (sugar.core_of r) (meant_core (counted_as r)) (sugar.core_of s) (meant_core (counted_as s))
      (kept_counted r) (kept_counted s)
  kept_counted (sere.within r s) =
      within_kept (sugar.core_of r) (meant_core (counted_as r)) (sugar.core_of s) (meant_core (counted_as s))
      (kept_counted r) (kept_counted s)
  kept_counted (sere.repeat r low high) = kept_repeat (counted_as r) (sugar.core_of r) low high (kept_counted r)
  kept_counted (sere.goto e low high) =
      kept_repeat (counted.next_with e) (sugar.next_with e) low high (itself_keeps (sugar.next_with e))
  kept_counted (sere.equal e low high) =
      concat_keeps (repeated low high (sugar.next_with e))
      (meant_core (counted_repeat low high (counted.next_with e)))
      (meant_core (counted.without e)) (meant_core (counted.without e))
      (kept_repeat (counted.next_with e) (sugar.next_with e) low high (itself_keeps (sugar.next_with e)))
      (itself_keeps (meant_core (counted.without e)))
