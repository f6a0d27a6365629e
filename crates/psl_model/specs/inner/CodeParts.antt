-- The parts of a code. Which codes are taken changes no statement's meaning: the logic asks only that no two values have
-- one code. The code of a node is its tag, followed by the codes of its fields, the last of which ends it.
use Rattle.std.specs.Prelude.{◌≡◌, ℕ, zero, suc, Bool, true, false, ◌==◌, refl}
use mathlib.Core.Path.{ap, sym, ◌∙◌}
use mathlib.Core.Bool.{true≢false}
use base.Stored.{Gv, gnil, gnum, gcons, num}
use denote.Enum.Declared.{Declared, tag_of}
use denote.Enum.Bare.{Bare, tag_one}

abbrev pub head : Gv → Gv
head gnil = gnil
head (gnum n) = gnil
head (gcons a b) = a

abbrev pub tail : Gv → Gv
tail gnil = gnil
tail (gnum n) = gnil
tail (gcons a b) = b

-- what is left behind so many parts
abbrev pub behind : ℕ → Gv → Gv
behind zero g = g
behind (suc n) g = behind n (tail g)

-- equal codes have equal parts: the n-th, counted from the tag at 0, and all from the n-th on
abbrev pub at : (n : ℕ) {g h : Gv} → g ≡ h → head (behind n g) ≡ head (behind n h)
at n p = ap (λ g. head (behind n g)) p

abbrev pub from : (n : ℕ) {g h : Gv} → g ≡ h → behind n g ≡ behind n h
from n p = ap (λ g. behind n g) p

abbrev pub number : {m n : ℕ} → gnum m ≡ gnum n → m ≡ n
number p = ap num p

-- codes whose tags differ do
abbrev pub same_tag : Gv → Gv → Bool
same_tag g h = num (head g) == num (head h)

pub tags_differ : (g h : Gv) → same_tag g g ≡ true → same_tag g h ≡ false → g ≡ h → ⊥
tags_differ g h own other p = true≢false (sym own ∙ ap (same_tag g) p ∙ other)

-- an enum without fields is told by the place of its variant
abbrev pub variant_code : (D : Declared) → D.D → Gv
variant_code D o = gnum (tag_of D o)

pub variant_inj : (D : Declared) → Bare D.parts → (o p : D.D) → variant_code D o ≡ variant_code D p → o ≡ p
variant_inj D bare o p e = tag_one D bare o p (number e)

-- a truth value is 1 or 0
abbrev pub truth : Bool → ℕ
truth true = 1
truth false = 0

abbrev pub truth_code : Bool → Gv
truth_code b = gnum (truth b)

abbrev untruth : ℕ → Bool
untruth zero = false
untruth (suc n) = true

untruth-truth : (b : Bool) → untruth (truth b) ≡ b
untruth-truth true = refl
untruth-truth false = refl

pub truth_inj : (a b : Bool) → truth_code a ≡ truth_code b → a ≡ b
truth_inj a b e = sym (untruth-truth a) ∙ ap untruth (number e) ∙ untruth-truth b
