-- The composition of checks, variant by variant: from the checks of the parts to the check of the whole, on streams.
-- What violates a formula is given by laws over lists of valuations.
use Rattle.std.specs.Prelude.{ℕ, zero, suc, ◌≡◌, ◌≢◌, ◌↔◌, ◌⊎◌, ◌<◌, ◌≤◌, ◌+◌, ◌-◌, List, [], ◌∷◌, length, drop, Some}
use Rattle.std.specs.Prelude.{slice_get}
use Rattle.std.proofs.Common.{refl, sym, ap, ◌∙◌, subst, arith, inl, inr}
use Rattle.std.proofs.lemmas.Bool.{cases_lt}
use Rattle.std.proofs.lemmas.List.{drop_all}
use Rattle.psl_model.specs.Expr.{Expr}
use Rattle.psl_model.specs.Sere.{Sere}
use Rattle.psl_model.specs.Value.{own_value}
use Rattle.psl_meaning.specs.Word.{Valuation}
use Rattle.psl_meaning.specs.Violation.{WeaklyViolates, Violates}
use Rattle.psl_rewrite.specs.Base.{Base, bool, and, or_bool, implies, always, next, next_all, next_some, until, event}
use Rattle.psl_rewrite.specs.Base.{event_some, seq, eventually, suffix, abort}
use Rattle.psl_rewrite.specs.Obligations.{EachObligation}
use Rattle.psl_rewrite.specs.Meaning.{named}
use Rattle.circuit_core.specs.Run.{Stream, On}
use Rattle.circuit_core.specs.Starts.{Open, SomeStart}
use Rattle.property_circuits.specs.Conditions.{IsBuilt}
use Rattle.sequence_matches.specs.Matches.{letters}
use Rattle.property_circuits.specs.Starts.{Weak, Full, IsCheck}
use Rattle.property_circuits.proofs.Letters.{value_there, letters_begin, letters_later, letters_length}
use Rattle.property_circuits.proofs.Streams.{Judgement, Always, Never, IsEither, AreJoined, IsNarrowed, IsOfSome}
use Rattle.property_circuits.proofs.Streams.{bool_answers, and_answers, narrowed_answers, always_answers}

-- P of the value in a cycle
abbrev pub Needs : (trace : List Valuation) → (Valuation → Type 0) → ℕ → Type 0
Needs trace P n = (v : Valuation) → slice_get trace n ≡ Some v → P v

needs_at : (trace : List Valuation) (n : ℕ) (v : Valuation) (P : Valuation → Type 0) → slice_get trace n ≡ Some v →
    P v → Needs trace P n
needs_at trace n v P at p u there = let e : v ≡ u = cc in subst P e p

-- One way to violate: already, or as a word that ends. What violates is refuted, so not to be refuted is to violate.
module _ (V : Base → List Valuation → Type 0) (stable : (f : Base) (ls : List Valuation) → ¬ ¬ V f ls → V f ls)
    (trace : List Valuation) where
  -- by the letters i to m
  abbrev pub By : Base → (i m : ℕ) → Type 0
  By f i m = V f (letters trace i m)

  abbrev pub BooleanLaw : (Valuation → Type 0) → Base → Type 0
  BooleanLaw P f = (v : Valuation) (rest : List Valuation) → V f (v ∷ rest) ↔ P v

  pub boolean_at : (P : Valuation → Type 0) (f : Base) → BooleanLaw P f → (i m : ℕ) (v : Valuation) → i ≤ m →
      slice_get trace i ≡ Some v → By f i m ↔ P v
  boolean_at P f law i m v ordered at =
      let b = letters_begin trace i m v ordered at in
      subst (λ (ls : List Valuation). V f ls ↔ P v) (sym b.1) (law v b.0)

  abbrev pub NarrowedLaw : (Valuation → Type 0) → (whole body : Base) → Type 0
  NarrowedLaw P whole f = (v : Valuation) (rest : List Valuation) → V whole (v ∷ rest) ↔ (P v × V f (v ∷ rest))

  pub narrowed_at : (cycles : ℕ) (P : Valuation → Type 0) (whole f : Base) → cycles ≡ length trace →
      NarrowedLaw P whole f → IsNarrowed cycles (Needs trace P) (By whole) (By f)
  narrowed_at cycles P whole f is law i m ordered within =
      let v = value_there trace i (omega (arith, is)) in
      let b = letters_begin trace i m v.0 ordered v.1 in
      let here : V whole (letters trace i m) ↔ (P v.0 × V f (letters trace i m)) =
      subst (λ (ls : List Valuation). V whole ls ↔ (P v.0 × V f ls)) (sym b.1) (law v.0 b.0) in
      ((λ bad. let p = here.0 bad in (needs_at trace i v.0 P v.1 p.0, p.1)), (λ p. here.1 (p.0 v.0 v.1, p.1)))

  abbrev pub EitherLaw : (f g : Base) → Type 0
  EitherLaw f g = (ls : List Valuation) → (¬ V (and f g) ls) ↔ ((¬ V f ls) × (¬ V g ls))

  pub either_at : (f g : Base) → EitherLaw f g → IsEither (By (and f g)) (By f) (By g)
  either_at f g law i m =
      let ls = letters trace i m in (
        (λ bad. stable (and f g) ls (λ none. ((law ls).0 none).0 bad)),
        (λ bad. stable (and f g) ls (λ none. ((law ls).0 none).1 bad)),
        (λ left right. (law ls).1 (left, right)),
      )

  along : (f : Base) (xs ys : List Valuation) → xs ≡ ys → V f xs → V f ys
  along f xs ys e h = subst (λ (ls : List Valuation). V f ls) e h

  -- A body is started at the places `Started` of a list, and a list may lack something by itself: that the whole isn't
  -- violated is that the list doesn't lack it, and that the body isn't violated from any of these places on.
  abbrev pub PlacesLaw : (Started : List Valuation → ℕ → Type 0) (Lacks : List Valuation → Type 0) →
      (whole body : Base) → Type 0
  PlacesLaw Started Lacks whole f = (ls : List Valuation) → ls ≢ [] →
      (¬ V whole ls) ↔ (((k : ℕ) → k < length ls → Started ls k → ¬ V f (drop k ls)) × ¬ Lacks ls)

  module _ (Started : List Valuation → ℕ → Type 0) (Lacks : List Valuation → Type 0) (Goes Waits : Judgement)
      (whole f : Base) (law : PlacesLaw Started Lacks whole f)
      (starts : (i k m : ℕ) → i ≤ k → k ≤ m → m < length trace → Goes i k ↔ Started (letters trace i m) (k - i))
      (lacks : (i m : ℕ) → i ≤ m → m < length trace → Waits i m ↔ Lacks (letters trace i m)) where
    law_at : (i m : ℕ) → i ≤ m → m < length trace → (¬ By whole i m)
        ↔ (((k : ℕ) → k < length (letters trace i m) → Started (letters trace i m) k →
        ¬ V f (drop k (letters trace i m))) × ¬ Lacks (letters trace i m))
    law_at i m ordered within =
        let counted = letters_length trace i m ordered within in
        law (letters trace i m)
        (λ none. let nothing = ap (λ (xs : List Valuation). length xs) none in absurd (omega (arith, counted, nothing)))

    hit : (i m k : ℕ) → i ≤ k → k ≤ m → m < length trace → Goes i k → By f k m → By whole i m
    hit i m k from to within goes bad =
        let counted = letters_length trace i m (omega arith) within in
        let here = along f (letters trace k m) (drop (k - i) (letters trace i m))
        (sym (letters_later trace i k m from (omega arith))) bad in
        stable whole (letters trace i m)
        (λ none. ((law_at i m (omega arith) within).0 none).0 (k - i) (omega (arith, counted))
        ((starts i k m from to within).0 goes) here)

    waits : (i m : ℕ) → i ≤ m → m < length trace → Waits i m → By whole i m
    waits i m ordered within w =
        stable whole (letters trace i m)
        (λ none. ((law_at i m ordered within).0 none).1 ((lacks i m ordered within).0 w))

    miss : (i m : ℕ) → i ≤ m → m < length trace → ((k : ℕ) → i ≤ k → k ≤ m → Goes i k → ¬ By f k m) → ¬ Waits i m →
        ¬ By whole i m
    miss i m ordered within each done =
        (law_at i m ordered within).1 (none, λ l. done ((lacks i m ordered within).1 l))
      where
        none : (j : ℕ) → j < length (letters trace i m) → Started (letters trace i m) j →
            ¬ V f (drop j (letters trace i m))
        none j inside begun bad =
            let counted = letters_length trace i m ordered within in
            let there : i + j ≤ m = omega (arith, counted) in
            let place : (i + j) - i ≡ j = omega arith in
            let same : drop j (letters trace i m) ≡ letters trace (i + j) m =
            ap (λ (n : ℕ). drop n (letters trace i m)) (sym place)
            ∙ letters_later trace i (i + j) m (omega arith) (omega arith) in
            each (i + j) (omega arith) there
            ((starts i (i + j) m (omega arith) there within).1
            (subst (λ (n : ℕ). Started (letters trace i m) n) (sym place) begun))
            (along f (drop j (letters trace i m)) (letters trace (i + j) m) same bad)

    pub places_at : IsOfSome (length trace) Goes Waits (By whole) (By f)
    places_at = record { hit = hit; waits = waits; miss = miss }

  -- the body of `always f` is started at each place below a number
  abbrev pub AlwaysLaw : (places : ℕ → ℕ) → Base → Type 0
  AlwaysLaw places f = (ls : List Valuation) →
      (¬ V (always f) ls) ↔ ((k : ℕ) → k < places (length ls) → ¬ V f (drop k ls))

  abbrev Anywhere : List Valuation → ℕ → Type 0
  Anywhere ls k = Unit {0}

  abbrev Nothing : List Valuation → Type 0
  Nothing ls = ⊥

  always_places : (places : ℕ → ℕ) (f : Base) → ((n : ℕ) → n ≤ places n) → ((n : ℕ) → places n ≤ suc n) →
      ((n : ℕ) → n < places n → ¬ V f []) → AlwaysLaw places f → PlacesLaw Anywhere Nothing (always f) f
  always_places places f more few last law ls some = (
    (λ none. ((λ k inside begun. (law ls).0 none k (omega (arith, more (length ls)))), λ lack. lack)),
    (λ p. (law ls).1 (λ k inside. split p.0 k inside (cases_lt k (length ls)))),
  )
    where
      split : ((k : ℕ) → k < length ls → Anywhere ls k → ¬ V f (drop k ls)) → (k : ℕ) → k < places (length ls) →
          (k < length ls) ⊎ (length ls ≤ k) → ¬ V f (drop k ls)
      split each k inside (inl early) = each k early tt
      split each k inside (inr late) =
          let is : length ls ≡ k = omega (arith, few (length ls)) in
          let behind : length ls < places (length ls) = subst (λ (n : ℕ). n < places (length ls)) (sym is) inside in
          λ bad. last (length ls) behind (along f (drop k ls) [] (drop_all k ls late) bad)

  pub always_at : (places : ℕ → ℕ) (f : Base) → ((n : ℕ) → n ≤ places n) →
      ((n : ℕ) → places n ≤ suc n) → ((n : ℕ) → n < places n → ¬ V f []) → AlwaysLaw places f →
      IsOfSome (length trace) Always Never (By (always f)) (By f)
  always_at places f more few last law =
      places_at Anywhere Nothing Always Never (always f) f (always_places places f more few last law)
      (λ i k m from to within. ((λ h. h), (λ h. h))) (λ i m ordered within. ((λ h. h), (λ h. h)))

-- a formula of the variants that are built obliges to no sequence
pub built_obliges : (P : Sere → Type 0) (f : Base) → IsBuilt f → EachObligation P (named f)
built_obliges P (bool e) built = tt
built_obliges P (and f g) built = (built_obliges P f built.0, built_obliges P g built.1)
built_obliges P (or_bool e f) built = (tt, built_obliges P f built)
built_obliges P (implies e f) built = (tt, built_obliges P f built)
built_obliges P (always f) built = built_obliges P f built
built_obliges P (next s k f) built = built_obliges P f built
built_obliges P (next_all s low high f) built = built_obliges P f built.1
built_obliges P (next_some s low high e) built = absurd built
built_obliges P (until s f e) built = (built_obliges P f built, tt)
built_obliges P (event s on low high f) built = absurd built
built_obliges P (event_some s on low high e) built = absurd built
built_obliges P (seq r s) built = absurd built
built_obliges P (eventually r) built = absurd built
built_obliges P (suffix r f) built = built_obliges P f built
built_obliges P (abort f on) built = absurd built

pub is_zero : (x : ℕ) → ¬ (x ≢ 0) → x ≡ 0
is_zero zero h = refl
is_zero (suc x) h = absurd (h (λ e. omega arith))

module _ (widths : List ℕ) where
  abbrev pub Already : Base → List Valuation → Type 0
  Already f ls = WeaklyViolates widths (named f) ls

  abbrev pub AtLast : Base → List Valuation → Type 0
  AtLast f ls = Violates widths (named f) ls

  pub stable_already : (f : Base) (ls : List Valuation) → ¬ ¬ Already f ls → Already f ls
  stable_already f ls h = λ s. h (λ r. r s)

  pub stable_at_last : (f : Base) (ls : List Valuation) → ¬ ¬ AtLast f ls → AtLast f ls
  stable_at_last f ls h = λ s. h (λ r. r s)

  module _ (trace : List Valuation) where
    pub bool_check : (e : Expr) (start clear fail pend : Stream) →
        BooleanLaw Already stable_already trace (λ v. own_value widths v e ≡ 0) (bool e) →
        BooleanLaw AtLast stable_at_last trace (λ v. own_value widths v e ≡ 0) (bool e) →
        ((n : ℕ) (v : Valuation) → n < length trace → slice_get trace n ≡ Some v →
        On fail n ↔ (On start n × ¬ On clear n × (own_value widths v e ≡ 0))) →
        ((n : ℕ) → n < length trace → ¬ On pend n) → IsCheck widths trace (bool e) start clear fail pend
    bool_check e start clear fail pend already at_last fails never =
        bool_answers (length trace) (Weak widths trace (bool e)) (Full widths trace (bool e)) start clear fail pend
        (λ n within.
        let v = value_there trace n within in
        let f = fails n v.0 within v.1 in
        let w = weak n n v.0 (omega arith) v.1 in
        ((λ on. let p = f.0 on in (p.0, p.1, w.1 p.2)), (λ p. f.1 (p.0, p.1, w.0 p.2))))
        never
        (λ i m ordered within bad.
        let v = value_there trace i (omega arith) in
        (weak i i v.0 (omega arith) v.1).1 ((weak i m v.0 ordered v.1).0 bad))
        (λ i m ordered within bad.
        let v = value_there trace i (omega arith) in
        (weak i i v.0 (omega arith) v.1).1 ((full i m v.0 ordered v.1).0 bad))
      where
        weak : (i m : ℕ) (v : Valuation) → i ≤ m → slice_get trace i ≡ Some v →
            Weak widths trace (bool e) i m ↔ (own_value widths v e ≡ 0)
        weak = boolean_at Already stable_already trace (λ v. own_value widths v e ≡ 0) (bool e) already

        full : (i m : ℕ) (v : Valuation) → i ≤ m → slice_get trace i ≡ Some v →
            Full widths trace (bool e) i m ↔ (own_value widths v e ≡ 0)
        full = boolean_at AtLast stable_at_last trace (λ v. own_value widths v e ≡ 0) (bool e) at_last

    pub and_check : (f g : Base) (start clear fail fail1 fail2 pend pend1 pend2 : Stream) →
        EitherLaw Already stable_already trace f g → EitherLaw AtLast stable_at_last trace f g →
        IsCheck widths trace f start clear fail1 pend1 → IsCheck widths trace g start clear fail2 pend2 →
        AreJoined (length trace) fail fail1 fail2 → AreJoined (length trace) pend pend1 pend2 →
        IsCheck widths trace (and f g) start clear fail pend
    and_check f g start clear fail fail1 fail2 pend pend1 pend2 already at_last one two fails pends =
        and_answers (length trace) (Weak widths trace (and f g)) (Weak widths trace f) (Weak widths trace g)
        (Full widths trace (and f g)) (Full widths trace f) (Full widths trace g) start clear fail fail1 fail2
        pend pend1 pend2 one two fails pends
        (either_at Already stable_already trace f g already)
        (either_at AtLast stable_at_last trace f g at_last)

    pub narrowed_check : (P : Valuation → Type 0) (whole f : Base) (start start1 clear fail pend : Stream) →
        NarrowedLaw Already stable_already trace P whole f → NarrowedLaw AtLast stable_at_last trace P whole f →
        ((n : ℕ) (v : Valuation) → slice_get trace n ≡ Some v → On start1 n ↔ (On start n × P v)) →
        IsCheck widths trace f start1 clear fail pend → IsCheck widths trace whole start clear fail pend
    narrowed_check P whole f start start1 clear fail pend already at_last starts body =
        narrowed_answers (length trace) (Needs trace P) (Weak widths trace whole) (Weak widths trace f)
        (Full widths trace whole) (Full widths trace f) start start1 clear fail pend body
        (λ n within.
        let v = value_there trace n within in
        let s = starts n v.0 v.1 in
        ((λ on. let p = s.0 on in (p.0, needs_at trace n v.0 P v.1 p.1)), (λ p. s.1 (p.0, p.1 v.0 v.1))))
        (narrowed_at Already stable_already trace (length trace) P whole f refl already)
        (narrowed_at AtLast stable_at_last trace (length trace) P whole f refl at_last)

    pub always_check : (f : Base) (start start1 clear fail pend : Stream) →
        AlwaysLaw Already stable_already trace (λ n. suc n) f → ¬ Already f [] →
        AlwaysLaw AtLast stable_at_last trace (λ n. n) f →
        ((n : ℕ) → n < length trace → On start1 n ↔ SomeStart start n (λ i. Open clear i n)) →
        IsCheck widths trace f start1 clear fail pend → IsCheck widths trace (always f) start clear fail pend
    always_check f start start1 clear fail pend already nothing at_last starts body =
        always_answers (length trace) (Weak widths trace (always f)) (Weak widths trace f)
        (Full widths trace (always f)) (Full widths trace f) start start1 clear fail pend body starts
        (always_at Already stable_already trace (λ n. suc n) f (λ n. omega arith) (λ n. omega arith)
        (λ n behind. nothing) already)
        (always_at AtLast stable_at_last trace (λ n. n) f (λ n. omega arith) (λ n. omega arith)
        (λ n behind. absurd (omega arith)) at_last)
