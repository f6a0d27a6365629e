-- What the tests on symbols tell, and what a step that gives something was given.
use Rattle.std.proofs.Common.{◌≡◌, ℕ, zero, suc, ◌<◌, Bool, true, false, Option, Some, None, List, [], ◌∷◌, length}
use Rattle.std.proofs.Common.{refl, sym, ap, subst, ◌∙◌, arith}
use Rattle.std.proofs.lemmas.Bool.{eqb-true, eq-eqb}
use denote.Enum.Declared.{tag_of}
use denote.Enum.Bare.{tag_one}
use Rattle.psl_grammar.specs.contracts.symbols.Symbol as symbol
use Rattle.psl_grammar.specs.declared.symbols.Symbol.{Symbol}
use Rattle.psl_grammar.specs.declared.symbols.Symbol.TheVariants.{End}
use Rattle.psl_grammar.specs.Symbols.{symbol_at}
use Rattle.unit_reader.specs.inner.Steps.{◌>>=◌, need, either_way, is, Read, loop}

pub is_same : (s t : Symbol) → is s t ≡ true → s ≡ t
is_same s t e = tag_one symbol.the_type tt s t (eqb-true (tag_of symbol.the_type s) (tag_of symbol.the_type t) e)

pub is_self : (s t : Symbol) → s ≡ t → is s t ≡ true
is_self s t e = eq-eqb (tag_of symbol.the_type s) (tag_of symbol.the_type t)
    (ap (λ (x : Symbol). tag_of symbol.the_type x) e)

-- ---- a step that gives something

pub bound : {A B P : Type 0} (o : Option A) (f : A → Option B) (y : B) → (o >>= f) ≡ Some y
    → ((x : A) → o ≡ Some x → f x ≡ Some y → P) → P
bound None f y e k = absurd (cc)
bound (Some x) f y e k = k x refl e

pub needed : {A P : Type 0} (b : Bool) (o : Option A) (y : A) → need b o ≡ Some y → (b ≡ true → o ≡ Some y → P) → P
needed true o y e k = k refl e
needed false o y e k = absurd (cc)

pub one_way : {A P : Type 0} (b : Bool) (o p : Option A) (y : A) → either_way b o p ≡ Some y
    → (b ≡ true → o ≡ Some y → P) → (b ≡ false → p ≡ Some y → P) → P
one_way true o p y e k l = k refl e
one_way false o p y e k l = l refl e

pub given : {A : Type 0} (P : A → Type 0) {x y : A} → Some x ≡ Some y → P x → P y
given {A} P {x} {y} e p = let same : x ≡ y = cc in subst P same p

pub loop_reads : {T : Type 0} (goes : ℕ → Bool) (step : T × ℕ → Read T) (P : T × ℕ → Type 0)
    → ((x y : T × ℕ) → goes x.1 ≡ true → P x → step x ≡ Some y → P y)
    → (n : ℕ) (x y : T × ℕ) → P x → loop goes step n x ≡ Some y → P y
unfolding loop
loop_reads goes step P keeps zero x y p e = absurd (cc)
loop_reads goes step P keeps (suc n) x y p e =
    one_way (goes x.1) (step x >>= loop goes step n) (Some x) y e
    (λ more e1. bound (step x) (loop goes step n) y e1
    λ z e2 e3. loop_reads goes step P keeps n z y (keeps x z more p e2) e3)
    (λ over e1. given P e1 p)

-- ---- places

data OrEnd (symbols : List Symbol) (i : ℕ) : Type 0 where
  here : i < length symbols → OrEnd symbols i
  ended : symbol_at symbols i ≡ End → OrEnd symbols i

or_end : (symbols : List Symbol) (i : ℕ) → OrEnd symbols i
or_end [] i = ended refl
or_end (x ∷ xs) zero = here (omega arith)
or_end (x ∷ xs) (suc i) = elim (or_end xs i) [ here h ↦ here (omega arith) | ended h ↦ ended h ]

-- a symbol that isn't the end stands before it
pub there : (symbols : List Symbol) (i : ℕ) (t : Symbol) → symbol_at symbols i ≡ t → (t ≡ End → ⊥) → i < length symbols
there symbols i t e not = elim (or_end symbols i) [ here h ↦ h | ended h ↦ absurd (not (sym e ∙ h)) ]

pub is_other : (s t : Symbol) → (s ≡ t → ⊥) → is s t ≡ false
is_other s t not = go (is s t) refl
  where
    go : (b : Bool) → is s t ≡ b → b ≡ false
    go true e = absurd (not (is_same s t e))
    go false e = refl
