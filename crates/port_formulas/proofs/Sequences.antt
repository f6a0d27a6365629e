-- A sequence over the places is tightly satisfied by the lists over the places: each core sequence, and each other one
-- by what it stands for.
use Rattle.std.proofs.Common.{◌≡◌, inl, inr, ℕ, zero, suc, ◌+◌, ◌-◌, List, [], ◌∷◌, ◌++◌, Option, Some, None}
use Rattle.std.proofs.Common.{refl, sym, ap, ◌∙◌, subst}
use Rattle.std.specs.Prelude.{◌↔◌, ◌==◌, Contains}
use Rattle.psl_model.specs.Expr.{Expr, unary}
use Rattle.psl_model.specs.declared.operators.UnOp.TheVariants.{Not}
use Rattle.psl_model.specs.Sere as sere
use Rattle.psl_model.specs.Uses.{sere_uses, expr_uses}
use Rattle.psl_model.specs.Value.{bit_of}
use Rattle.psl_meaning.specs.Word.{Letter}
use Rattle.psl_meaning.specs.Sequence.{CoreSere, bool, empty, concat, fuse, or, both, star, Holds, Copies, Tight}
use Rattle.psl_meaning.specs.SequenceSugar.{always_true, anything, copies, union_of_copies, repeated, next_with}
use Rattle.psl_meaning.specs.SequenceSugar.{core_of}
use Rattle.port_formulas.specs.Chosen.{chosen, UsesOnly}
use Rattle.port_formulas.specs.Over.{over_expr, over_sere}
use Rattle.port_formulas.proofs.Parts.{left_each, right_each}
use Rattle.port_formulas.proofs.Named.{own_value_over}
use Rattle.port_formulas.proofs.Letters.{ExprSame, holds_to, holds_back, onto, over_list, none_back, parts, over_append}

module _ (us ws places : List ℕ) where
  -- the second sequence says of a list over the places what the first says of the list
  abbrev pub SereSame : CoreSere → CoreSere → Type 0
  SereSame r s = (w : List Letter) → Tight us r w ↔ Tight ws s (over_list places w)

  one_back : (e d : Expr) → ExprSame us ws places e d → (w : List Letter) (b : Letter) →
      over_list places w ≡ b ∷ [] → Holds ws d b → Tight us (bool e) w
  one_back e d same [] b one h = absurd (cc)
  one_back e d same (a ∷ []) b one h =
      let here : onto places a ≡ b = cc in
      (a, refl, holds_back us ws places e d same a (subst (λ (c : Letter). Holds ws d c) (sym here) h))
  one_back e d same (a ∷ c ∷ w) b one h = absurd (cc)

  bool_same : (e d : Expr) → ExprSame us ws places e d → SereSame (bool e) (bool d)
  bool_same e d same w = (
    (λ (a, one, h). (onto places a, ap (over_list places) one, holds_to us ws places e d same a h)),
    (λ (b, one, h). one_back e d same w b one h),
  )

  empty_same : SereSame empty empty
  empty_same w = ((λ e. ap (over_list places) e), none_back places w)

  concat_back : (r s t u : CoreSere) → SereSame r t → SereSame s u → (w x y : List Letter) →
      over_list places w ≡ x ++ y → Tight ws t x → Tight ws u y → Tight us (concat r s) w
  concat_back r s t u first second w x y split left right =
      let two = parts places w x y split in (
        two.0,
        two.1,
        two.2,
        (first two.0).1 (subst (λ (l : List Letter). Tight ws t l) (sym two.3) left),
        (second two.1).1 (subst (λ (l : List Letter). Tight ws u l) (sym two.4) right),
      )

  concat_same : (r s t u : CoreSere) → SereSame r t → SereSame s u → SereSame (concat r s) (concat t u)
  concat_same r s t u first second w = (
    (λ (x, y, split, left, right). (
      over_list places x,
      over_list places y,
      ap (over_list places) split ∙ over_append places x y,
      (first x).0 left,
      (second y).0 right,
    )),
    (λ (x, y, split, left, right). concat_back r s t u first second w x y split left right),
  )

  fuse_parts : (r s t u : CoreSere) → SereSame r t → SereSame s u → (w x z m n : List Letter) (a : Letter) →
      w ≡ x ++ z → over_list places x ≡ m → over_list places z ≡ a ∷ n → Tight ws t (m ++ a ∷ []) →
      Tight ws u (a ∷ n) → Tight us (fuse r s) w
  fuse_parts r s t u first second w x [] m n a split is rest left right = absurd (cc)
  fuse_parts r s t u first second w x (b ∷ z) m n a split is rest left right =
      let here : onto places b ≡ a = cc in
      let front : over_list places (x ++ b ∷ []) ≡ m ++ a ∷ [] =
      over_append places x (b ∷ []) ∙ (λ i. is i ++ here i ∷ []) in (
        x,
        z,
        b,
        split,
        (first (x ++ b ∷ [])).1 (subst (λ (l : List Letter). Tight ws t l) (sym front) left),
        (second (b ∷ z)).1 (subst (λ (l : List Letter). Tight ws u l) (sym rest) right),
      )

  fuse_back : (r s t u : CoreSere) → SereSame r t → SereSame s u → (w m n : List Letter) (a : Letter) →
      over_list places w ≡ m ++ a ∷ n → Tight ws t (m ++ a ∷ []) → Tight ws u (a ∷ n) → Tight us (fuse r s) w
  fuse_back r s t u first second w m n a split left right =
      let two = parts places w m (a ∷ n) split in
      fuse_parts r s t u first second w two.0 two.1 m n a two.2 two.3 two.4 left right

  fuse_same : (r s t u : CoreSere) → SereSame r t → SereSame s u → SereSame (fuse r s) (fuse t u)
  fuse_same r s t u first second w = (
    (λ (x, y, a, split, left, right). (
      over_list places x,
      over_list places y,
      onto places a,
      ap (over_list places) split ∙ over_append places x (a ∷ y),
      subst (λ (l : List Letter). Tight ws t l) (over_append places x (a ∷ [])) ((first (x ++ a ∷ [])).0 left),
      (second (a ∷ y)).0 right,
    )),
    (λ (m, n, a, split, left, right). fuse_back r s t u first second w m n a split left right),
  )

  or_to : (r s t u : CoreSere) → SereSame r t → SereSame s u → (w : List Letter) → Tight us (or r s) w →
      Tight ws (or t u) (over_list places w)
  or_to r s t u first second w (inl h) = inl ((first w).0 h)
  or_to r s t u first second w (inr h) = inr ((second w).0 h)

  or_back : (r s t u : CoreSere) → SereSame r t → SereSame s u → (w : List Letter) →
      Tight ws (or t u) (over_list places w) → Tight us (or r s) w
  or_back r s t u first second w (inl h) = inl ((first w).1 h)
  or_back r s t u first second w (inr h) = inr ((second w).1 h)

  or_same : (r s t u : CoreSere) → SereSame r t → SereSame s u → SereSame (or r s) (or t u)
  or_same r s t u first second w = (or_to r s t u first second w, or_back r s t u first second w)

  both_same : (r s t u : CoreSere) → SereSame r t → SereSame s u → SereSame (both r s) (both t u)
  both_same r s t u first second w = (
    (λ h. ((first w).0 h.0, (second w).0 h.1)),
    (λ h. ((first w).1 h.0, (second w).1 h.1)),
  )

  copies_to : (r s : CoreSere) → SereSame r s → (n : ℕ) (w : List Letter) → Copies (Tight us r) n w →
      Copies (Tight ws s) n (over_list places w)
  copies_to r s same zero w none = ap (over_list places) none
  copies_to r s same (suc n) w (u, v, split, one, rest) = (
    over_list places u,
    over_list places v,
    ap (over_list places) split ∙ over_append places u v,
    (same u).0 one,
    copies_to r s same n v rest,
  )

  copies_back : (r s : CoreSere) → SereSame r s → (n : ℕ) (w : List Letter) →
      Copies (Tight ws s) n (over_list places w) → Copies (Tight us r) n w
  copies_back r s same zero w none = none_back places w none
  copies_back r s same (suc n) w (u, v, split, one, rest) =
      let two = parts places w u v split in (
        two.0,
        two.1,
        two.2,
        (same two.0).1 (subst (λ (l : List Letter). Tight ws s l) (sym two.3) one),
        copies_back r s same n two.1 (subst (λ (l : List Letter). Copies (Tight ws s) n l) (sym two.4) rest),
      )

  star_same : (r s : CoreSere) → SereSame r s → SereSame (star r) (star s)
  star_same r s same w = (
    (λ h. (h.0, copies_to r s same h.0 w h.1)),
    (λ h. (h.0, copies_back r s same h.0 w h.1)),
  )

  -- ---- what the other sequences stand for

  pub true_same : ExprSame us ws places always_true always_true
  true_same values = refl

  pub not_expr_same : (e d : Expr) → ExprSame us ws places e d → ExprSame us ws places (unary Not e) (unary Not d)
  not_expr_same e d same values = ap (λ (x : ℕ). bit_of (x == 0)) (same values)

  anything_same : SereSame anything anything
  anything_same = star_same (bool always_true) (bool always_true) (bool_same always_true always_true true_same)

  pub later_same : (r s : CoreSere) → SereSame r s →
      SereSame (concat r (bool always_true)) (concat s (bool always_true))
  later_same r s same =
      concat_same r (bool always_true) s (bool always_true) same (bool_same always_true always_true true_same)

  some_copies_same : (r s : CoreSere) → SereSame r s → (k : ℕ) → SereSame (copies k r) (copies k s)
  some_copies_same r s same zero = empty_same
  some_copies_same r s same (suc zero) = same
  some_copies_same r s same (suc (suc k)) =
      concat_same (copies (suc k) r) r (copies (suc k) s) s (some_copies_same r s same (suc k)) same

  union_same : (r s : CoreSere) → SereSame r s → (low more : ℕ) →
      SereSame (union_of_copies low more r) (union_of_copies low more s)
  union_same r s same low zero = some_copies_same r s same low
  union_same r s same low (suc more) =
      or_same (union_of_copies low more r) (copies (low + suc more) r)
      (union_of_copies low more s) (copies (low + suc more) s)
      (union_same r s same low more) (some_copies_same r s same (low + suc more))

  repeated_same : (r s : CoreSere) → SereSame r s → (low : ℕ) (high : Option ℕ) →
      SereSame (repeated low high r) (repeated low high s)
  repeated_same r s same low (Some high) = union_same r s same low (high - low)
  repeated_same r s same zero None = star_same r s same
  repeated_same r s same (suc low) None =
      concat_same (copies (suc low) r) (star r) (copies (suc low) s) (star s)
      (some_copies_same r s same (suc low)) (star_same r s same)

  without_same : (e d : Expr) → ExprSame us ws places e d →
      SereSame (star (bool (unary Not e))) (star (bool (unary Not d)))
  without_same e d same =
      star_same (bool (unary Not e)) (bool (unary Not d))
      (bool_same (unary Not e) (unary Not d) (not_expr_same e d same))

  next_with_same : (e d : Expr) → ExprSame us ws places e d → SereSame (next_with e) (next_with d)
  next_with_same e d same =
      concat_same (star (bool (unary Not e))) (bool e) (star (bool (unary Not d))) (bool d)
      (without_same e d same) (bool_same e d same)

  equal_same : (e d : Expr) → ExprSame us ws places e d → (low : ℕ) (high : Option ℕ) →
      SereSame (core_of (sere.equal e low high)) (core_of (sere.equal d low high))
  equal_same e d same low high =
      concat_same (repeated low high (next_with e)) (star (bool (unary Not e)))
      (repeated low high (next_with d)) (star (bool (unary Not d)))
      (repeated_same (next_with e) (next_with d) (next_with_same e d same) low high) (without_same e d same)

  meet_same : (r s t u : CoreSere) → SereSame r t → SereSame s u →
      SereSame (or (both r (concat s anything)) (both (concat r anything) s))
      (or (both t (concat u anything)) (both (concat t anything) u))
  meet_same r s t u first second =
      or_same (both r (concat s anything)) (both (concat r anything) s)
      (both t (concat u anything)) (both (concat t anything) u)
      (both_same r (concat s anything) t (concat u anything) first
      (concat_same s anything u anything second anything_same))
      (both_same (concat r anything) s (concat t anything) u
      (concat_same r anything t anything first anything_same) second)

  within_same : (r s t u : CoreSere) → SereSame r t → SereSame s u →
      SereSame (both (concat (concat anything r) anything) s) (both (concat (concat anything t) anything) u)
  within_same r s t u first second =
      both_same (concat (concat anything r) anything) s (concat (concat anything t) anything) u
      (concat_same (concat anything r) anything (concat anything t) anything
      (concat_same anything r anything t anything_same first) anything_same) second

module _ (us places : List ℕ) where
  abbrev Here : CoreSere → CoreSere → Type 0
  Here r s = SereSame us (chosen places us) places r s

  pub expr_over : (e : Expr) → UsesOnly places (λ s. expr_uses s e) →
      ExprSame us (chosen places us) places e (over_expr places e)
  expr_over e only values = own_value_over places us values e only

  left_only : (r s : sere.Sere) → UsesOnly places (λ k. sere_uses k (sere.concat r s)) →
      UsesOnly places (λ k. sere_uses k r)
  left_only r s = left_each (Contains places) (λ k. sere_uses k r) (λ k. sere_uses k s) (λ k. sere_uses k s)

  right_only : (r s : sere.Sere) → UsesOnly places (λ k. sere_uses k (sere.concat r s)) →
      UsesOnly places (λ k. sere_uses k s)
  right_only r s = right_each (Contains places) (λ k. sere_uses k r) (λ k. sere_uses k s) (λ k. sere_uses k s)

  pub sere_over : (r : sere.Sere) → UsesOnly places (λ k. sere_uses k r) →
      Here (core_of r) (core_of (over_sere places r))
  sere_over (sere.bool e) only =
      bool_same us (chosen places us) places e (over_expr places e) (expr_over e only)
  sere_over (sere.concat r s) only =
      concat_same us (chosen places us) places (core_of r) (core_of s)
      (core_of (over_sere places r)) (core_of (over_sere places s))
      (sere_over r (left_only r s only)) (sere_over s (right_only r s only))
  sere_over (sere.fuse r s) only =
      fuse_same us (chosen places us) places (core_of r) (core_of s)
      (core_of (over_sere places r)) (core_of (over_sere places s))
      (sere_over r (left_only r s only)) (sere_over s (right_only r s only))
  sere_over (sere.or r s) only =
      or_same us (chosen places us) places (core_of r) (core_of s)
      (core_of (over_sere places r)) (core_of (over_sere places s))
      (sere_over r (left_only r s only)) (sere_over s (right_only r s only))
  sere_over (sere.both r s) only =
      both_same us (chosen places us) places (core_of r) (core_of s)
      (core_of (over_sere places r)) (core_of (over_sere places s))
      (sere_over r (left_only r s only)) (sere_over s (right_only r s only))
  sere_over (sere.meet r s) only =
      meet_same us (chosen places us) places (core_of r) (core_of s)
      (core_of (over_sere places r)) (core_of (over_sere places s))
      (sere_over r (left_only r s only)) (sere_over s (right_only r s only))
  sere_over (sere.within r s) only =
      within_same us (chosen places us) places (core_of r) (core_of s)
      (core_of (over_sere places r)) (core_of (over_sere places s))
      (sere_over r (left_only r s only)) (sere_over s (right_only r s only))
  sere_over (sere.repeat r low high) only =
      repeated_same us (chosen places us) places (core_of r) (core_of (over_sere places r)) (sere_over r only) low high
  sere_over (sere.goto e low high) only =
      repeated_same us (chosen places us) places (next_with e) (next_with (over_expr places e))
      (next_with_same us (chosen places us) places e (over_expr places e) (expr_over e only)) low high
  sere_over (sere.equal e low high) only =
      equal_same us (chosen places us) places e (over_expr places e) (expr_over e only) low high
