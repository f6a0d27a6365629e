-- The moves of a set's steps are those of the set.
use Rattle.std.proofs.Common.{◌≡◌, ◌≢◌, ℕ, suc, ◌<◌, ◌≤◌, ◌^◌, Bool, false, eqb, IsTrue, List, [], ◌∷◌}
use Rattle.std.proofs.Common.{length, map, slice_get, Some, Contains, inl, inr, ◌↔◌, refl}
use Rattle.std.proofs.Common.{sym, ap, ◌∙◌, subst, arith, cond}
use Rattle.std.proofs.lemmas.Bool.Decides.{Decides-eqb}
use Rattle.auto_core.specs.Machine.{Machine}
use Rattle.weak_determinise.proofs.Members.{Contains-from_Among, Among-from_Contains, ByRecursion-among}
use Rattle.weak_determinise.proofs.Once.{told}
use Rattle.weak_determinise.proofs.Lists.{All-from_among, map-agree}
use Rattle.weak_determinise.specs.inner.Stepping.{Step}
use Rattle.weak_determinise.specs.declared.sets.Move.{Move}
use Rattle.weak_determinise.specs.declared.sets.Move.TheVariants.{Empty, Accepting, Set}
use Rattle.weak_determinise.specs.declared.sets.SetNode.{SetNode}
use Rattle.weak_determinise.specs.Nodes.{number_of}
use Rattle.weak_determinise.specs.inner.Numbers.{IsRising}
use Rattle.weak_determinise.specs.inner.Stepping.{AreSteps, AreSymbols, AreRenamed, AreTargets}
use Rattle.weak_determinise.specs.inner.Moving.{IsNext, Tells, Extends, AreMoves, IsFull}
use Rattle.weak_determinise.specs.ReachedSets.{Gives, Leaves}
use Rattle.weak_determinise.specs.inner.Expanding.{IsNextSet, Widens, TellsSet, IsNodeOf, IsTooLargeAt}
use Rattle.weak_determinise.proofs.Closing.{targets_given, symbols_leave}

length-map : {X Y : Type 0} (f : X → Y) (xs : List X) → length (map f xs) ≡ length xs
length-map f [] = refl
length-map f (x ∷ xs) = ap suc (length-map f xs)

-- ---- values with given digits

values_for : List ℕ → List Bool → ℕ → Bool
values_for [] bits x = false
values_for (s ∷ ss) [] x = false
values_for (s ∷ ss) (b ∷ bs) x = cond (eqb x s) b (values_for ss bs x)

differs : (x y : ℕ) → x ≢ y → eqb x y ≡ false
differs x y apart = elim (told (eqb x y)) [ inl e ↦ absurd (apart ((Decides-eqb x y).0 e)) | inr e ↦ e ]

values_are : (symbols : List ℕ) (bits : List Bool) → IsRising symbols → length bits ≡ length symbols →
    map (values_for symbols bits) symbols ≡ bits
unfolding values_for
values_are [] [] rising l = refl
values_are [] (b ∷ bs) rising l = absurd (omega arith)
values_are (s ∷ ss) [] rising l = absurd (omega arith)
values_are (s ∷ ss) (b ∷ bs) rising l =
    let first : cond (eqb s s) b (values_for ss bs s) ≡ b = ap (λ (t : Bool). cond t b (values_for ss bs s))
    ((Decides-eqb s s).1 refl) in
    let rest : map (λ x. cond (eqb x s) b (values_for ss bs x)) ss ≡ map (values_for ss bs) ss =
    map-agree (λ x. cond (eqb x s) b (values_for ss bs x)) (values_for ss bs) ss (λ x h.
    let above : s < x = ByRecursion-among (λ y. s < y) ss x rising.0 h in
    let apart : x ≢ s = λ e. omega (arith, e, above) in
    ap (λ (t : Bool). cond t b (values_for ss bs x)) (differs x s apart)) in
    let tail : map (values_for ss bs) ss ≡ bs = values_are ss bs rising.1 (omega arith) in
    ap (λ (c : Bool). c ∷ map (λ x. cond (eqb x s) b (values_for ss bs x)) ss) first ∙ ap (λ (t : List Bool). b ∷ t)
    (rest ∙ tail)

module _ (m : Machine ℕ) (set : List ℕ) (steps : List Step) (symbols : List ℕ) (renamed : List Step)
    (are : AreSteps m set steps) (known : AreSymbols steps symbols) (same : AreRenamed symbols steps renamed) where
  given : (values : ℕ → Bool) (next : List ℕ) → AreTargets renamed (map values symbols) next → Gives m set values next
  given = targets_given m set steps symbols renamed are known same

  next_set : (bits : List Bool) (next : List ℕ) → length bits ≡ length symbols → IsNext m renamed bits next →
      IsNextSet m set next
  next_set bits next l is = record {
    values = values_for symbols bits;
    gives = given (values_for symbols bits) next (subst (λ (b : List Bool). AreTargets renamed b next) (sym
        (values_are symbols bits known.rising l)) is.targets);
    some = is.some;
    none = All-from_among (λ t. ¬ IsTrue (m.accepts t)) next is.none;
    rising = is.targets.rising;
  }

  pub widens : (limit : ℕ) (names names' : List (List ℕ)) → Extends m renamed (length symbols) limit names names' →
      Widens m set limit names names'
  widens limit names names' e = record {
    kept = e.kept;
    new = λ next h. elim (e.new next h) [ inl k ↦ inl k | inr (bits, l, is) ↦ inr (next_set bits next l is) ];
    apart = e.apart;
    few = e.few;
  }

  tells_set : (values : ℕ → Bool) (names : List (List ℕ)) (move : Move) → Tells m renamed (map values symbols) names
      move → TellsSet m names set values move
  tells_set values names Empty targets = λ t leads. absurd (Among-from_Contains [] t ((given values [] targets t).1
      leads))
  tells_set values names Accepting (next, targets, (t, there, accepts)) = (
    t,
    (given values next targets t).0
        (Contains-from_Among next t there),
    accepts,
  )
  tells_set values names (Set n) (next, at, is) = (
    next,
    at,
    given values next is.targets,
    is.some,
    All-from_among
        (λ t. ¬ IsTrue (m.accepts t)) next is.none,
  )

  pub node_made : (limit max_symbols : ℕ) (names names' : List (List ℕ)) (node : SetNode) → node.places ≡ set →
      node.leaving ≡ symbols → length symbols ≤ max_symbols
      → AreMoves m renamed (length symbols) limit (2 ^ length symbols) names names' node.moves → ((bits : List Bool) →
      number_of bits < 2 ^ length bits) → IsNodeOf m names' max_symbols set node
  node_made limit max_symbols names names' node places leaving small moves below = record {
    places = places;
    rising = subst IsRising (sym leaving) known.rising;
    leaves = subst (λ (s : List ℕ). (x : ℕ) → Contains s x ↔ Leaves m set x) (sym leaving) (symbols_leave m set steps
        symbols renamed are known same);
    small = subst (λ (s : List ℕ). length s ≤ max_symbols) (sym leaving) small;
    count = moves.each ∙ ap (λ (s : List ℕ). 2 ^ length s) (sym leaving);
    moves = subst (λ (s : List ℕ). (values : ℕ → Bool) → (move : Move) × (slice_get node.moves (number_of
        (map values s)) ≡ Some move) × TellsSet m names' set values move) (sym leaving) (λ values.
        let l : length (map values symbols) ≡ length symbols = length-map values symbols in
        let lt : number_of (map values symbols) < 2 ^ length symbols = subst (λ (n : ℕ). number_of
        (map values symbols) < 2 ^ n) l (below (map values symbols)) in
        let (move, at, tells) = moves.tells (map values symbols) l lt in
        (move, at, tells_set values names' move tells));
  }

  pub too_large_at : (limit max_symbols : ℕ) (names : List (List ℕ)) → IsFull m renamed (length symbols) limit names →
      IsTooLargeAt m limit max_symbols set names
  too_large_at limit max_symbols names (names', extends, (bits, l, (next, is, full))) = inr
      (names', widens limit names names' extends, (next, next_set bits next l is, full))
