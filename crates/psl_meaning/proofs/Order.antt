-- An order of words, place by place: bottom is below each letter and top above each. What satisfies a formula, and each
-- word above it, go together.
use Rattle.std.proofs.Common.{◌≡◌, ◌⊎◌, inl, inr, ℕ, zero, suc, ◌+◌, ◌-◌, ◌<◌, ◌≤◌, List, [], ◌∷◌, ◌++◌, Option, Some}
use Rattle.std.proofs.Common.{None, refl, sym, ap, ◌∙◌, subst, take, drop, replicate, length, arith}
use Rattle.std.specs.Prelude.{slice_get, option_map, IsSome, IfSome, IsSomeAnd}
use Rattle.std.proofs.lemmas.Bool.{cases_lt}
use Rattle.psl_model.specs.Expr.{Expr}
use Rattle.psl_meaning.specs.Word.{Letter, valuation, top, bottom, Ending, ended, tops, bottoms, Word, with_tops}
use Rattle.psl_meaning.specs.Word.{filling, first, from, bar, bar_letter, letter_at, option_or, after_end}
use Rattle.psl_meaning.specs.Sequence as sequence
use Rattle.psl_meaning.specs.Sequence.{CoreSere, Holds, Copies, Tight}
use Rattle.psl_meaning.specs.Formula as formula
use Rattle.psl_meaning.specs.Formula.{CoreFormula, SomePrefix, Satisfies}
use Rattle.psl_meaning.proofs.Words.{letter_at-bar}

abbrev pub Below : Letter → Letter → Type 0
Below bottom y = Unit {0}
Below (valuation v) bottom = ⊥
Below (valuation v) (valuation u) = v ≡ u
Below (valuation v) top = Unit {0}
Below top bottom = ⊥
Below top (valuation u) = ⊥
Below top top = Unit {0}

abbrev pub BelowAt : Option Letter → Option Letter → Type 0
BelowAt None None = Unit {0}
BelowAt None (Some y) = ⊥
BelowAt (Some x) None = ⊥
BelowAt (Some x) (Some y) = Below x y

-- words of one length, and each letter is below the other's
abbrev pub WordBelow : Word → Word → Type 0
WordBelow w v = (k : ℕ) → BelowAt (letter_at w k) (letter_at v k)

abbrev pub ListBelow : List Letter → List Letter → Type 0
ListBelow [] [] = Unit {0}
ListBelow [] (y ∷ ys) = ⊥
ListBelow (x ∷ xs) [] = ⊥
ListBelow (x ∷ xs) (y ∷ ys) = Below x y × ListBelow xs ys

abbrev pub EachBelow : List Letter → List Letter → Type 0
EachBelow xs ys = (k : ℕ) → BelowAt (slice_get xs k) (slice_get ys k)

below_self : (x : Letter) → Below x x
below_self bottom = tt
below_self (valuation v) = refl
below_self top = tt

below_at_self : (o : Option Letter) → BelowAt o o
below_at_self None = tt
below_at_self (Some x) = below_self x

pub same_below : (w v : Word) → ((k : ℕ) → letter_at w k ≡ letter_at v k) → WordBelow w v
same_below w v same k =
    subst (λ (o : Option Letter). BelowAt (letter_at w k) o) (same k) (below_at_self (letter_at w k))

-- ---- letters

below_bar : (x y : Letter) → Below x y → Below (bar_letter y) (bar_letter x)
below_bar bottom bottom h = tt
below_bar bottom (valuation u) h = tt
below_bar bottom top h = tt
below_bar (valuation v) bottom h = absurd h
below_bar (valuation v) (valuation u) h = sym h
below_bar (valuation v) top h = tt
below_bar top bottom h = absurd h
below_bar top (valuation u) h = absurd h
below_bar top top h = tt

below_at_bar : (o p : Option Letter) → BelowAt o p → BelowAt (option_map bar_letter p) (option_map bar_letter o)
below_at_bar None None h = tt
below_at_bar None (Some y) h = absurd h
below_at_bar (Some x) None h = absurd h
below_at_bar (Some x) (Some y) h = below_bar x y h

holds_above : (widths : List ℕ) (e : Expr) (x y : Letter) → Below x y → Holds widths e x → Holds widths e y
holds_above widths e bottom y h s = absurd s
holds_above widths e (valuation v) bottom h s = absurd h
holds_above widths e (valuation v) (valuation u) h s = subst (λ (x : List ℕ). Holds widths e (valuation x)) h s
holds_above widths e (valuation v) top h s = tt
holds_above widths e top bottom h s = absurd h
holds_above widths e top (valuation u) h s = absurd h
holds_above widths e top top h s = tt

if_some_above : (widths : List ℕ) (e : Expr) (o p : Option Letter) → BelowAt o p → IfSome o (Holds widths e) →
    IfSome p (Holds widths e)
if_some_above widths e None None h s = tt
if_some_above widths e None (Some y) h s = absurd h
if_some_above widths e (Some x) None h s = absurd h
if_some_above widths e (Some x) (Some y) h s = holds_above widths e x y h s

some_above : (widths : List ℕ) (e : Expr) (o p : Option Letter) → BelowAt o p → IsSomeAnd o (Holds widths e) →
    IsSomeAnd p (Holds widths e)
some_above widths e None None h s = absurd s
some_above widths e None (Some y) h s = absurd h
some_above widths e (Some x) None h s = absurd h
some_above widths e (Some x) (Some y) h s = holds_above widths e x y h s

reached_above : (o p : Option Letter) → BelowAt o p → IsSome o → IsSome p
reached_above None None h s = s
reached_above None (Some y) h s = absurd h
reached_above (Some x) None h s = absurd h
reached_above (Some x) (Some y) h s = refl

reached_below : (o p : Option Letter) → BelowAt o p → IsSome p → IsSome o
reached_below None None h s = s
reached_below None (Some y) h s = absurd h
reached_below (Some x) None h s = absurd h
reached_below (Some x) (Some y) h s = refl

-- ---- lists

each_list : (xs ys : List Letter) → EachBelow xs ys → ListBelow xs ys
each_list [] [] h = tt
each_list [] (y ∷ ys) h = h 0
each_list (x ∷ xs) [] h = h 0
each_list (x ∷ xs) (y ∷ ys) h = (h 0, each_list xs ys (λ k. h (suc k)))

-- a list above one in two parts is in two parts
parts : (u v ys : List Letter) → ListBelow (u ++ v) ys → (t : List Letter) × (z : List Letter) × (ys ≡ t ++ z) ×
    ListBelow u t × ListBelow v z
parts [] v ys h = ([], ys, refl, tt, h)
parts (x ∷ u) v [] h = absurd h
parts (x ∷ u) v (y ∷ ys) h =
    let rest = parts u v ys h.1 in
    (y ∷ rest.0, rest.1, ap (λ (l : List Letter). y ∷ l) rest.2, (h.0, rest.3), rest.4)

joined : (u v t z : List Letter) → ListBelow u t → ListBelow v z → ListBelow (u ++ v) (t ++ z)
joined [] v [] z h k = k
joined [] v (y ∷ t) z h k = absurd h
joined (x ∷ u) v [] z h k = absurd h
joined (x ∷ u) v (y ∷ t) z h k = (h.0, joined u v t z h.1 k)

copies_above : (P : List Letter → Type 0) → ((xs ys : List Letter) → ListBelow xs ys → P xs → P ys) →
    (n : ℕ) (xs ys : List Letter) → ListBelow xs ys → Copies P n xs → Copies P n ys
copies_above P above zero xs [] h s = refl
copies_above P above zero xs (y ∷ ys) h s = absurd (subst (λ (l : List Letter). ListBelow l (y ∷ ys)) s h)
copies_above P above (suc n) xs ys h (u, v, split, first_one, others) =
    let two = parts u v ys (subst (λ (l : List Letter). ListBelow l ys) split h) in
    (two.0, two.1, two.2, above u two.0 two.3 first_one, copies_above P above n v two.1 two.4 others)

one_above : (widths : List ℕ) (e : Expr) (x : Letter) (ys : List Letter) → ListBelow (x ∷ []) ys → Holds widths e x →
    Tight widths (sequence.bool e) ys
one_above widths e x [] h s = absurd h
one_above widths e x (y ∷ []) h s = (y, refl, holds_above widths e x y h.0 s)
one_above widths e x (y ∷ z ∷ ys) h s = absurd h.1

none_above : (ys : List Letter) → ListBelow [] ys → ys ≡ []
none_above [] h = refl
none_above (y ∷ ys) h = absurd h

fused_above : (widths : List ℕ) (r s : CoreSere) (u v : List Letter) (x : Letter) (ys : List Letter) →
    ((us vs : List Letter) → ListBelow us vs → Tight widths r us → Tight widths r vs) →
    ((us vs : List Letter) → ListBelow us vs → Tight widths s us → Tight widths s vs) → (t : List Letter) ×
    (z : List Letter) × (ys ≡ t ++ z) × ListBelow u t × ListBelow (x ∷ v) z → Tight widths r (u ++ x ∷ []) →
    Tight widths s (x ∷ v) → Tight widths (sequence.fuse r s) ys
fused_above widths r s u v x ys r_above s_above (t, [], is, before, after) left right = absurd after
fused_above widths r s u v x ys r_above s_above (t, y ∷ z, is, before, after) left right = (
  t,
  z,
  y,
  is,
  r_above (u ++ x ∷ []) (t ++ y ∷ []) (joined u (x ∷ []) t (y ∷ []) before (after.0, tt)) left,
  s_above (x ∷ v) (y ∷ z) after right,
)

pub tight_above : (widths : List ℕ) (r : CoreSere) (xs ys : List Letter) → ListBelow xs ys → Tight widths r xs →
    Tight widths r ys
tight_above widths (sequence.bool e) xs ys h (x, one, s) =
    one_above widths e x ys (subst (λ (l : List Letter). ListBelow l ys) one h) s
tight_above widths sequence.empty xs ys h s = none_above ys (subst (λ (l : List Letter). ListBelow l ys) s h)
tight_above widths (sequence.concat r s) xs ys h (u, v, split, left, right) =
    let two = parts u v ys (subst (λ (l : List Letter). ListBelow l ys) split h) in
    (two.0, two.1, two.2, tight_above widths r u two.0 two.3 left, tight_above widths s v two.1 two.4 right)
tight_above widths (sequence.fuse r s) xs ys h (u, v, x, split, left, right) =
    fused_above widths r s u v x ys (λ us vs below t. tight_above widths r us vs below t)
    (λ us vs below t. tight_above widths s us vs below t)
    (parts u (x ∷ v) ys (subst (λ (l : List Letter). ListBelow l ys) split h)) left right
tight_above widths (sequence.or r s) xs ys h (inl left) = inl (tight_above widths r xs ys h left)
tight_above widths (sequence.or r s) xs ys h (inr right) = inr (tight_above widths s xs ys h right)
tight_above widths (sequence.both r s) xs ys h (left, right) =
    (tight_above widths r xs ys h left, tight_above widths s xs ys h right)
tight_above widths (sequence.star r) xs ys h (n, copies) =
    (n, copies_above (Tight widths r) (λ us vs below s. tight_above widths r us vs below s) n xs ys h copies)

-- ---- words

pub slice_get-drop_at : (xs : List Letter) (k j : ℕ) → slice_get (drop k xs) j ≡ slice_get xs (k + j)
slice_get-drop_at xs zero j = ap (λ (i : ℕ). slice_get xs i) (let e : j ≡ 0 + j = omega arith in e)
slice_get-drop_at [] (suc k) j = refl
slice_get-drop_at (x ∷ xs) (suc k) j =
    let e : suc k + j ≡ suc (k + j) = omega arith in
    rw e (slice_get-drop_at xs k j)

from_below : (w v : Word) (k : ℕ) → WordBelow w v → WordBelow (from k w) (from k v)
from_below w v k h j = rw (slice_get-drop_at w.letters k j, slice_get-drop_at v.letters k j) (h (k + j))

bar_below : (w v : Word) → WordBelow w v → WordBelow (bar v) (bar w)
bar_below w v h k = rw (letter_at-bar v k, letter_at-bar w k) (below_at_bar (letter_at w k) (letter_at v k) (h k))

slice_get-replicate : (x : Letter) (n k : ℕ) → k < n → slice_get (replicate n x) k ≡ Some x
slice_get-replicate x zero k within = absurd (omega arith)
slice_get-replicate x (suc n) zero within = refl
slice_get-replicate x (suc n) (suc k) within = slice_get-replicate x n k (omega arith)

slice_get-replicate_past : (x : Letter) (n k : ℕ) → n ≤ k → slice_get (replicate n x) k ≡ None
slice_get-replicate_past x zero k past = refl
slice_get-replicate_past x (suc n) zero past = absurd (omega arith)
slice_get-replicate_past x (suc n) (suc k) past = slice_get-replicate_past x n k (omega arith)

slice_get-filling : (e : Ending) (n k : ℕ) → k < n → slice_get (filling e n) k ≡ after_end e
slice_get-filling ended n k within = refl
slice_get-filling tops n k within = slice_get-replicate top n k within
slice_get-filling bottoms n k within = slice_get-replicate bottom n k within

slice_get-filling_past : (e : Ending) (n k : ℕ) → n ≤ k → slice_get (filling e n) k ≡ None
slice_get-filling_past ended n k past = refl
slice_get-filling_past tops n k past = slice_get-replicate_past top n k past
slice_get-filling_past bottoms n k past = slice_get-replicate_past bottom n k past

pub first_of : (xs : List Letter) (e : Ending) (n k : ℕ) → k < n →
    slice_get (take n xs ++ filling e (n - length xs)) k ≡ option_or (slice_get xs k) (after_end e)
first_of xs e zero k within = absurd (omega arith)
first_of [] e (suc n) k within =
    let all : suc n - 0 ≡ suc n = omega arith in
    ap (λ (m : ℕ). slice_get (filling e m) k) all ∙ slice_get-filling e (suc n) k within
first_of (x ∷ xs) e (suc n) zero within = refl
first_of (x ∷ xs) e (suc n) (suc k) within =
    let less : suc n - suc (length xs) ≡ n - length xs = omega arith in
    ap (λ (m : ℕ). slice_get (take n xs ++ filling e m) k) less ∙ first_of xs e n k (omega arith)

pub first_past : (xs : List Letter) (e : Ending) (n k : ℕ) → n ≤ k →
    slice_get (take n xs ++ filling e (n - length xs)) k ≡ None
first_past xs e zero k past =
    let none : 0 - length xs ≡ 0 = omega arith in
    ap (λ (m : ℕ). slice_get (filling e m) k) none ∙ slice_get-filling_past e 0 k (omega arith)
first_past [] e (suc n) k past =
    let all : suc n - 0 ≡ suc n = omega arith in
    ap (λ (m : ℕ). slice_get (filling e m) k) all ∙ slice_get-filling_past e (suc n) k past
first_past (x ∷ xs) e (suc n) zero past = absurd (omega arith)
first_past (x ∷ xs) e (suc n) (suc k) past =
    let less : suc n - suc (length xs) ≡ n - length xs = omega arith in
    ap (λ (m : ℕ). slice_get (take n xs ++ filling e m) k) less ∙ first_past xs e n k (omega arith)

first_below : (w v : Word) (n : ℕ) → WordBelow w v → EachBelow (first n w) (first n v)
first_below w v n h k = split (cases_lt k n)
  where
    split : (k < n) ⊎ (n ≤ k) → BelowAt (slice_get (first n w) k) (slice_get (first n v) k)
    split (inl within) = rw (first_of w.letters w.ending n k within, first_of v.letters v.ending n k within) (h k)
    split (inr past) = rw (first_past w.letters w.ending n k past, first_past v.letters v.ending n k past) tt

or_top : (o p : Option Letter) → BelowAt o p → BelowAt (option_or o (Some top)) (option_or p (Some top))
or_top None None h = tt
or_top None (Some y) h = absurd h
or_top (Some x) None h = absurd h
or_top (Some x) (Some y) h = h

tops_below : (xs ys : List Letter) → EachBelow xs ys → WordBelow (with_tops xs) (with_tops ys)
tops_below xs ys h k = or_top (slice_get xs k) (slice_get ys k) (h k)

prefix_above : (widths : List ℕ) (r : CoreSere) (w v : Word) → WordBelow w v → SomePrefix widths r w →
    SomePrefix widths r v
prefix_above widths r w v h (n, reached, s) = (
  n,
  reached_above (letter_at w n) (letter_at v n) (h n) reached,
  tight_above widths r (first (suc n) w) (first (suc n) v)
      (each_list (first (suc n) w) (first (suc n) v) (first_below w v (suc n) h)) s,
)

pub satisfied_above : (widths : List ℕ) (f : CoreFormula) (w v : Word) → WordBelow w v → Satisfies widths f w →
    Satisfies widths f v
satisfied_above widths (formula.bool e) w v h s = if_some_above widths e (letter_at w 0) (letter_at v 0) (h 0) s
satisfied_above widths (formula.not f) w v h s = λ t. s (satisfied_above widths f (bar v) (bar w) (bar_below w v h) t)
satisfied_above widths (formula.and f g) w v h (s, t) =
    (satisfied_above widths f w v h s, satisfied_above widths g w v h t)
satisfied_above widths (formula.strong r) w v h s = prefix_above widths r w v h s
satisfied_above widths (formula.weak r) w v h s =
    λ n reached. prefix_above widths r (with_tops (first (suc n) w)) (with_tops (first (suc n) v))
    (tops_below (first (suc n) w) (first (suc n) v) (first_below w v (suc n) h))
    (s n (reached_below (letter_at w n) (letter_at v n) (h n) reached))
satisfied_above widths (formula.strong_next f) w v h (reached, s) = (
  reached_above (letter_at w 1) (letter_at v 1) (h 1) reached,
  satisfied_above widths f (from 1 w) (from 1 v) (from_below w v 1 h) s,
)
satisfied_above widths (formula.strong_until f g) w v h (k, reached, there, before) = (
  k,
  reached_above (letter_at w k) (letter_at v k) (h k) reached,
  satisfied_above widths g (from k w) (from k v) (from_below w v k h) there,
  λ j below. satisfied_above widths f (from j w) (from j v) (from_below w v j h) (before j below),
)
satisfied_above widths (formula.abort f on) w v h (inl s) = inl (satisfied_above widths f w v h s)
satisfied_above widths (formula.abort f on) w v h (inr (j, here, s)) =
    inr (
      j,
      some_above widths on (letter_at w j) (letter_at v j) (h j) here,
      satisfied_above widths f (with_tops (first j w)) (with_tops (first j v))
          (tops_below (first j w) (first j v) (first_below w v j h)) s,
    )
satisfied_above widths (formula.suffix r f) w v h s = λ j reached ends.
    satisfied_above widths f (from j w) (from j v) (from_below w v j h)
    (s j (reached_below (letter_at w j) (letter_at v j) (h j) reached)
    (tight_above widths r (first (suc j) (bar v)) (first (suc j) (bar w))
    (each_list (first (suc j) (bar v)) (first (suc j) (bar w))
    (first_below (bar v) (bar w) (suc j) (bar_below w v h))) ends))

-- ---- a longer trace is below

longer_below : (xs ys : List Letter) (k : ℕ) → ((x : Letter) → Below x top) →
    BelowAt (option_or (slice_get (xs ++ ys) k) (Some top)) (option_or (slice_get xs k) (Some top))
longer_below [] ys k any = under (slice_get ys k)
  where
    under : (o : Option Letter) → BelowAt (option_or o (Some top)) (Some top)
    under None = tt
    under (Some x) = any x
longer_below (x ∷ xs) ys zero any = below_self x
longer_below (x ∷ xs) ys (suc k) any = longer_below xs ys k any

below_top : (x : Letter) → Below x top
below_top bottom = tt
below_top (valuation v) = tt
below_top top = tt

pub tops_above_longer : (xs ys : List Letter) → WordBelow (with_tops (xs ++ ys)) (with_tops xs)
tops_above_longer xs ys k = longer_below xs ys k below_top
