-- What a list of letters that is seen through the symbols is made of is what the list is made of.
use Rattle.std.proofs.Common.{◌≡◌, ◌↔◌, ◌≢◌, ◌∙◌, refl, sym, ap, subst, ℕ, zero, suc, List, [], ◌∷◌, ◌++◌, map, get_or}
use Rattle.std.proofs.Common.{inl, inr, All}
use Rattle.std.specs.List.{AllByRecursion}
use Rattle.psl_model.specs.Expr.{Expr}
use Rattle.psl_meaning.specs.Sequence.{Holds, Copies}
use Rattle.psl_meaning.specs.Word as word
use Rattle.auto_core.specs.declared.labels.Literal.{Literal}
use Rattle.auto_core.specs.Machine.{Letter, Passes}
use Rattle.auto_core.specs.Splits.{IsConcatenation, IsFusion, IsRepetition, joined}
use Rattle.sequence_tables.proofs.Members.{Among, Among-append, Among-left, Among-right, Among-get_or, All-among}
use Rattle.sequence_tables.proofs.Members.{map-append}

module _ {X Y : Type 0} (f : X → Y) where
  pub map-nil : (w : List X) → map f w ≡ [] → w ≡ []
  map-nil [] e = refl
  map-nil (x ∷ w) e = absurd (cc)

  pub map-cons : (w : List X) (a : Y) (v : List Y) → map f w ≡ a ∷ v →
      (x : X) × (u : List X) × (w ≡ x ∷ u) × (f x ≡ a) × (map f u ≡ v)
  map-cons [] a v e = absurd (cc)
  map-cons (x ∷ w) a v e =
      let h : f x ≡ a = cc in
      let t : map f w ≡ v = cc in
      (x, w, refl, h, t)

  pub map-split : (w : List X) (u v : List Y) → map f w ≡ u ++ v →
      (u' : List X) × (v' : List X) × (w ≡ u' ++ v') × (map f u' ≡ u) × (map f v' ≡ v)
  map-split w [] v e = ([], w, refl, refl, e)
  map-split w (a ∷ u) v e =
      let c = map-cons w a (u ++ v) e in
      let r = map-split c.1 u v c.4 in
      (c.0 ∷ r.0, r.1, c.2 ∙ ap (λ (z : List X). c.0 ∷ z) r.2, (λ i. c.3 i ∷ r.3 i), r.4)

-- ---- lists without bottoms

abbrev pub Seen : List word.Letter → Type 0
Seen w = (a : word.Letter) → Among w a → a ≢ word.bottom

pub all_seen : (w : List word.Letter) → Seen w → All (λ a. a ≢ word.bottom) w
all_seen w h = λ k d lt. h (get_or w k d) (Among-get_or w k d lt)

pub seen_all : (w : List word.Letter) → All (λ a. a ≢ word.bottom) w → Seen w
seen_all w all a h = All-among (λ (x : word.Letter). x ≢ word.bottom) w a all h

module _ (w u v : List word.Letter) (e : w ≡ u ++ v) (seen : Seen w) where
  front_seen : Seen u
  front_seen a h = seen a (subst (λ (z : List word.Letter). Among z a) (sym e) (Among-left u v a h))

  back_seen : Seen v
  back_seen a h = seen a (subst (λ (z : List word.Letter). Among z a) (sym e) (Among-right u v a h))

overlap_seen : (w u : List word.Letter) (x : word.Letter) (v : List word.Letter) → w ≡ u ++ x ∷ v → Seen w →
    Seen (u ++ x ∷ [])
overlap_seen w u x v e seen a h =
    elim (Among-append u (x ∷ []) a h) [
      | inl k ↦ front_seen w u (x ∷ v) e seen a k
      | inr k ↦ elim k [ inl k ↦ back_seen w u (x ∷ v) e seen a (inl k) | inr k ↦ absurd k ]
    ]

module _ (f : word.Letter → Letter) where
  -- the list is in P exactly if it is in P' as it is seen
  abbrev pub Reads : (List Letter → Type 0) → (List word.Letter → Type 0) → Type 0
  Reads P' P = (w : List word.Letter) → Seen w → P' (map f w) ↔ P w

  module _ (P' : List Letter → Type 0) (P : List word.Letter → Type 0) (Q' : List Letter → Type 0)
      (Q : List word.Letter → Type 0) (a : Reads P' P) (b : Reads Q' Q) where
    abbrev Concatenation : List word.Letter → Type 0
    Concatenation w = (u : List word.Letter) × (v : List word.Letter) × (w ≡ u ++ v) × P u × Q v

    pub concat_reads : Reads (IsConcatenation P' Q') Concatenation
    concat_reads w seen = (
      (λ h.
          let r = map-split f w h.0 h.1 h.2 in (
            r.0,
            r.1,
            r.2,
            (a r.0 (front_seen w r.0 r.1 r.2 seen)).0 (subst P' (sym r.3) h.3),
            (b r.1 (back_seen w r.0 r.1 r.2 seen)).0 (subst Q' (sym r.4) h.4),
          )),
      (λ h. (
        map f h.0,
        map f h.1,
        ap (map f) h.2 ∙ map-append f h.0 h.1,
        (a h.0 (front_seen w h.0 h.1 h.2 seen)).1 h.3,
        (b h.1 (back_seen w h.0 h.1 h.2 seen)).1 h.4,
      )),
    )

    abbrev Fusion : List word.Letter → Type 0
    Fusion w = (u : List word.Letter) × (v : List word.Letter) × (x : word.Letter) × (w ≡ u ++ x ∷ v)
        × P (u ++ x ∷ []) × Q (x ∷ v)

    pub fusion_reads : Reads (IsFusion P' Q') Fusion
    fusion_reads w seen = (
      (λ h.
          let r = map-split f w h.0 (h.1 ∷ h.2) h.3 in
          let c = map-cons f r.1 h.1 h.2 r.4 in
          let whole : w ≡ r.0 ++ c.0 ∷ c.1 = r.2 ∙ ap (λ (z : List word.Letter). r.0 ++ z) c.2 in
          let first : map f (r.0 ++ c.0 ∷ []) ≡ h.0 ++ h.1 ∷ [] =
          map-append f r.0 (c.0 ∷ []) ∙ (λ i. r.3 i ++ c.3 i ∷ []) in
          let then : map f (c.0 ∷ c.1) ≡ h.1 ∷ h.2 = λ i. c.3 i ∷ c.4 i in (
            r.0,
            c.1,
            c.0,
            whole,
            (a (r.0 ++ c.0 ∷ []) (overlap_seen w r.0 c.0 c.1 whole seen)).0 (subst P' (sym first) h.4),
            (b (c.0 ∷ c.1) (back_seen w r.0 (c.0 ∷ c.1) whole seen)).0 (subst Q' (sym then) h.5),
          )),
      (λ h. (
        map f h.0,
        f h.2,
        map f h.1,
        ap (map f) h.3 ∙ map-append f h.0 (h.2 ∷ h.1),
        subst P' (map-append f h.0 (h.2 ∷ []))
            ((a (h.0 ++ h.2 ∷ []) (overlap_seen w h.0 h.2 h.1 h.3 seen)).1 h.4),
        (b (h.2 ∷ h.1) (back_seen w h.0 (h.2 ∷ h.1) h.3 seen)).1 h.5,
      )),
    )

  module _ (P' : List Letter → Type 0) (P : List word.Letter → Type 0) (a : Reads P' P) where
    to_copies : (parts : List (List Letter)) (w : List word.Letter) → Seen w →
        AllByRecursion (λ u. (u ≢ []) × P' u) parts → map f w ≡ joined parts → (n : ℕ) × Copies P n w
    to_copies [] w seen all e = (0, map-nil f w e)
    to_copies (u ∷ parts) w seen all e =
        let r = map-split f w u (joined parts) e in
        let rest = to_copies parts r.1 (back_seen w r.0 r.1 r.2 seen) all.1 r.4 in
        let here = (a r.0 (front_seen w r.0 r.1 r.2 seen)).0 (subst P' (sym r.3) all.0.1) in
        (suc rest.0, (r.0, r.1, r.2, here, rest.1))

    one_more : (u v w : List word.Letter) → Seen u → w ≡ u ++ v → P u → IsRepetition P' (map f v) →
        IsRepetition P' (map f w)
    one_more [] v w seen e p r = subst (λ (z : List word.Letter). IsRepetition P' (map f z)) (sym e) r
    one_more (x ∷ u) v w seen e p r = (
      map f (x ∷ u) ∷ r.0,
      (((λ k. absurd (cc)), (a (x ∷ u) seen).1 p), r.1),
      ap (map f) e ∙ map-append f (x ∷ u) v ∙ ap (λ (z : List Letter). map f (x ∷ u) ++ z) r.2,
    )

    from_copies : (n : ℕ) (w : List word.Letter) → Seen w → Copies P n w → IsRepetition P' (map f w)
    from_copies zero w seen c = ([], tt, ap (map f) c)
    from_copies (suc n) w seen c =
        one_more c.0 c.1 w (front_seen w c.0 c.1 c.2 seen) c.2 c.3
        (from_copies n c.1 (back_seen w c.0 c.1 c.2 seen) c.4)

    pub repetition_reads : Reads (IsRepetition P') (λ w. (n : ℕ) × Copies P n w)
    repetition_reads w seen = ((λ h. to_copies h.0 w seen h.1 h.2), (λ h. from_copies h.0 w seen h.1))

  pub letter_reads : (widths : List ℕ) (e : Expr) (label : List Literal) →
      ((x : word.Letter) → x ≢ word.bottom → Passes label (f x) ↔ Holds widths e x) →
      Reads (λ w. (y : Letter) × (w ≡ y ∷ []) × Passes label y)
      (λ w. (x : word.Letter) × (w ≡ x ∷ []) × Holds widths e x)
  letter_reads widths e label passes w seen = (
    (λ h.
        let c = map-cons f w h.0 [] h.1 in
        let one : w ≡ c.0 ∷ [] = c.2 ∙ ap (λ (z : List word.Letter). c.0 ∷ z) (map-nil f c.1 c.4) in
        let real : c.0 ≢ word.bottom = seen c.0 (subst (λ (z : List word.Letter). Among z c.0) (sym one) (inl refl)) in
        (c.0, one, (passes c.0 real).0 (subst (Passes label) (sym c.3) h.2))),
    (λ h.
        let real : h.0 ≢ word.bottom =
        seen h.0 (subst (λ (z : List word.Letter). Among z h.0) (sym h.1) (inl refl)) in
        (f h.0, ap (map f) h.1, (passes h.0 real).1 h.2)),
  )

  pub nothing_reads : Reads (λ w. w ≡ []) (λ w. w ≡ [])
  nothing_reads w seen = ((λ h. map-nil f w h), (λ h. ap (map f) h))
