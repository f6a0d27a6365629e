-- The moves of a set, made one after the other.
use Rattle.std.proofs.Common.{◌≡◌, ℕ, zero, suc, ◌+◌, ◌<◌, Bool, List, [], ◌∷◌}
use Rattle.std.proofs.Common.{◌++◌, length, slice_get, Some, All, inl, inr, ◌⊎◌, refl, sym, ap, ◌∙◌}
use Rattle.std.proofs.Common.{subst, arith, append_assoc, length-append}
use Rattle.std.specs.Bool.{Decides}
use Rattle.std.specs.List.{position_or_len}
use Rattle.std.proofs.lemmas.Bool.Decides.{Decides-eqb}
use Rattle.std.proofs.lemmas.Slice.Eq.{slice_eq-Decides}
use Rattle.indexmap.specs.IndexSet.{insert_key}
use Rattle.auto_core.specs.Machine.{Machine}
use Rattle.weak_determinise.proofs.Members.{Among}
use Rattle.weak_determinise.proofs.Once.{Apart-push, append-nil, Among-append}
use Rattle.weak_determinise.proofs.Once.{insert_key-there, insert_key-new, among_or_not, position-Among}
use Rattle.weak_determinise.proofs.Once.{position-absent, Among-slice_get}
use Rattle.weak_determinise.proofs.Lists.{All-from_among, All-among}
use Rattle.weak_determinise.specs.declared.marking.Steps.{Steps}
use Rattle.weak_determinise.specs.inner.Stepping.{Step, all_steps, IsFor}
use Rattle.weak_determinise.proofs.Gathering.{Among-steps_in}
use Rattle.weak_determinise.specs.declared.sets.Move.{Move}
use Rattle.weak_determinise.specs.declared.sets.Move.TheVariants.{Empty, Accepting, Set}
use Rattle.weak_determinise.specs.Nodes.{number_of}
use Rattle.weak_determinise.specs.inner.Stepping.{AreTargets}
use Rattle.weak_determinise.specs.inner.Moving.{same_places, IsNext, Tells, Grows, Extends, AreMoves}
use Rattle.weak_determinise.proofs.Digits.{digits_determined}

pub same_places-Decides : (a b : List ℕ) → Decides (same_places a b) (a ≡ b)
same_places-Decides a b = slice_eq-Decides Decides-eqb a b (same_places a b) refl

pub targets_owned : (steps : Steps) (bits : List Bool) (next states : List ℕ) (symbols n : ℕ) →
    AreTargets (all_steps steps) bits next → states ≡ next → IsFor symbols n steps → All (λ s. s < n) states
targets_owned steps bits next states symbols n targets same fits = All-from_among (λ s. s < n) states (λ t h.
    let (step, there, passes, e) = (targets.members t).0 (subst (λ (s : List ℕ). Among s t) same h) in
    let (k, row, at, stands, member) = Among-steps_in steps.labels.items steps.rows.items step there in
    let owned : All (λ s. s < n) row = All-among (λ row. All (λ s. s < n) row) steps.rows.items row fits.owned
    (Among-slice_get steps.rows.items k row stands) in
    subst (λ (k : ℕ). k < n) e (All-among (λ s. s < n) row step.to owned member))

pub placed : (names new : List (List ℕ)) (next : List ℕ) (n : ℕ) → n ≡ position_or_len (same_places next) names →
    new ≡ insert_key same_places names next → slice_get new n ≡ Some next
placed names new next n at is = elim (among_or_not same_places same_places-Decides names next) [
  | inl h ↦ subst (λ (s : List (List ℕ)). slice_get s n ≡ Some next) (sym (is ∙ insert_key-there same_places
      same_places-Decides names next h))
      (ap (slice_get names) at ∙ (position-Among same_places same_places-Decides names next h).1)
  | inr out ↦ subst (λ (s : List (List ℕ)). slice_get s n ≡ Some next) (sym (is ∙ insert_key-new same_places
      same_places-Decides names next out))
      (ap (slice_get (names ++ next ∷ [])) (at ∙ position-absent same_places same_places-Decides names next out) ∙ last
      names next)
]
  where
    last : (xs : List (List ℕ)) (x : List ℕ) → slice_get (xs ++ x ∷ []) (length xs) ≡ Some x
    last [] x = refl
    last (y ∷ ys) x = last ys x

slice_get-left : {X : Type 0} (xs ys : List X) (i : ℕ) (x : X) → slice_get xs i ≡ Some x →
    slice_get (xs ++ ys) i ≡ Some x
slice_get-left [] ys i x h = absurd (let e = h in cc)
slice_get-left (y ∷ xs) ys zero x h = h
slice_get-left (y ∷ xs) ys (suc i) x h = slice_get-left xs ys i x h

slice_get-last : {X : Type 0} (xs : List X) (x : X) → slice_get (xs ++ x ∷ []) (length xs) ≡ Some x
slice_get-last [] x = refl
slice_get-last (y ∷ ys) x = slice_get-last ys x

module _ (m : Machine ℕ) (steps : List Step) (count limit : ℕ) where
  extends_none : (names : List (List ℕ)) → Extends m steps count limit names names
  extends_none names = record {
    kept = ([], sym (append-nil names));
    new = λ set h. inl h;
    apart = λ h. h;
    few = λ h. h;
  }

  extends_more : (names now new : List (List ℕ)) (bits : List Bool) → length bits ≡ count →
      Extends m steps count limit names now → Grows m steps bits limit now new → Extends m steps count limit names new
  extends_more names now new bits l before grows = elim (grows.kept) [
    | inl e ↦ subst (Extends m steps count limit names) (sym e) before
    | inr (next, is, room, named) ↦ elim (among_or_not same_places same_places-Decides now next) [
      | inl h ↦ subst (Extends m steps count limit names) (sym (named ∙ insert_key-there same_places same_places-Decides
          now next h)) before
      | inr out ↦ subst (Extends m steps count limit names) (sym (named ∙ insert_key-new same_places same_places-Decides
          now next out))
          (record {
            kept = (
              before.kept.0 ++ next ∷ [],
              ap (λ (s : List (List ℕ)). s ++ next ∷ []) before.kept.1 ∙ append_assoc
                  names before.kept.0 (next ∷ []),
            );
            new = λ set h. elim (Among-append now (next ∷ []) set h) [
              | inl k ↦ before.new set k
              | inr k ↦ elim k [ inl e ↦ inr (bits, l, subst (IsNext m steps bits) e is) | inr n ↦ absurd n ]
            ];
            apart = λ h. Apart-push now next (before.apart h) out;
            few = λ h. let at = position-absent same_places same_places-Decides now next out in let long = length-append
                now (next ∷ []) in omega (arith, at, long, room);
          })
    ]
  ]

  tells_more : (bits : List Bool) (names more : List (List ℕ)) (move : Move) → Tells m steps bits names move →
      Tells m steps bits (names ++ more) move
  tells_more bits names more Empty h = h
  tells_more bits names more Accepting h = h
  tells_more bits names more (Set n) (next, at, is) = (next, slice_get-left names more n next at, is)

  grown : (bits : List Bool) (now new : List (List ℕ)) → Grows m steps bits limit now new →
      (more : List (List ℕ)) × (new ≡ now ++ more)
  grown bits now new grows = elim (grows.kept) [
    | inl e ↦ ([], e ∙ sym (append-nil now))
    | inr (next, is, room, named) ↦ elim (among_or_not same_places same_places-Decides now next) [
      | inl h ↦ ([], named ∙ insert_key-there same_places same_places-Decides now next h ∙ sym (append-nil now))
      | inr out ↦ (next ∷ [], named ∙ insert_key-new same_places same_places-Decides now next out)
    ]
  ]

  pub no_moves : (names : List (List ℕ)) (moves : List Move) → moves ≡ [] → AreMoves m steps count limit 0 names names
      moves
  no_moves names moves e = record {
    each = ap (λ (s : List Move). length s) e;
    extends = extends_none names;
    tells = λ
        bits l lt. absurd (omega (arith, lt));
  }

  pub move_more : (v : ℕ) (names now new : List (List ℕ)) (moves moves' : List Move) (move : Move) →
      AreMoves m steps count limit v names now moves
      → ((bits : List Bool) × (length bits ≡ count) × (number_of bits ≡ v) × Tells m steps bits new move × Grows m steps
      bits limit now new) → moves' ≡ moves ++ move ∷ []
      → AreMoves m steps count limit (v + 1) names new moves'
  move_more v names now new moves moves' move before (bits, l, number, tells, grows) pushed = subst
      (AreMoves m steps count limit (v + 1) names new) (sym pushed) (record {
        each = let long = length-append moves (move ∷ []) in omega (arith, long, before.each);
        extends = extends_more names now new bits l before.extends grows;
        tells = λ other k lt. elim (below (number_of other) v lt) [
          | inl less ↦
              let (found, at, is) = before.tells other k less in
              let (more, e) = grown bits now new grows in (
                found,
                slice_get-left moves (move ∷ []) (number_of other) found at,
                subst (λ (s : List
                    (List ℕ)). Tells m steps other s found) (sym e) (tells_more other now more found is),
              )
          | inr same ↦
              let one : bits ≡ other = digits_determined bits other (l ∙ sym k) (number ∙ sym same) in
              let place : length moves ≡ number_of other = before.each ∙ sym same in (
                move,
                subst (λ (n : ℕ). slice_get (moves ++ move ∷ []) n ≡ Some move) place (slice_get-last moves move),
                subst (λ (b : List Bool). Tells m steps b new move) one tells,
              )
        ];
      })
    where
      below : (n v : ℕ) → n < v + 1 → (n < v) ⊎ (n ≡ v)
      below zero zero lt = inr refl
      below zero (suc v) lt = inl (omega arith)
      below (suc n) zero lt = absurd (omega arith)
      below (suc n) (suc v) lt = elim (below n v (omega arith)) [
        | inl l ↦ inl (omega (arith, l))
        | inr e ↦ inr
            (ap suc e)
      ]
