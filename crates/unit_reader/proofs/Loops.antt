-- Steps of readers that stop, and loops.
use Rattle.std.proofs.Common.{◌≡◌, ℕ, zero, suc, ◌+◌, ◌<◌, ◌≤◌, Bool, true, false, Option, Some, None, refl, sym, ap}
use Rattle.std.proofs.Common.{subst, ◌∙◌, arith, Result}
use Rattle.unit_reader.specs.declared.errors.ParseError.{ParseError}
use Rattle.unit_reader.specs.declared.errors.ParseError.TheVariants.{Syntax, TooDeep, OutOfMemory}
use Rattle.unit_reader.specs.inner.Steps.{◌>>=◌, either_way, Read, loop}
use Rattle.unit_reader.specs.inner.Answers.{Halts, Gives}

-- where a step stops, all that is bound to it stops
pub stopped : {A B : Type 0} (error : ParseError) (o : Option A) (f : A → Option B) → Halts error o
    → Halts error (o >>= f)
stopped (Syntax token) o f none = ap (λ p. p >>= f) none
stopped (TooDeep token) o f none = ap (λ p. p >>= f) none
stopped OutOfMemory o f none = tt

-- the same for an equal value
pub stops_as : {A : Type 0} (error : ParseError) (o p : Option A) → p ≡ o → Halts error o → Halts error p
stops_as (Syntax token) o p same none = same ∙ none
stops_as (TooDeep token) o p same none = same ∙ none
stops_as OutOfMemory o p same none = tt

-- so many turns are left, and what they give is the whole
pub record Turns {T : Type 0} (count : ℕ) (goes : ℕ → Bool) (step : T × ℕ → Read T) (whole : Read T) (x : T × ℕ) : Type
    0 where
  pub left : ℕ
  pub enough : count < left + x.1
  pub same : whole ≡ loop goes step left x

module _ {T : Type 0} (count : ℕ) (goes : ℕ → Bool) (step : T × ℕ → Read T) where
  pub begins : (x : T × ℕ) → Turns count goes step (loop goes step (suc count) x) x
  begins x = record { left = suc count; enough = omega arith; same = refl }

  pub stops : (whole : Read T) (x : T × ℕ) → Turns count goes step whole x → x.1 ≤ count → goes x.1 ≡ false → whole
      ≡ Some x
  unfolding loop
  stops whole x t within stop = go t.left t.enough t.same
    where
      go : (n : ℕ) → count < n + x.1 → whole ≡ loop goes step n x → whole ≡ Some x
      go zero enough same = absurd (omega arith)
      go (suc n) enough same = same ∙ ap (λ (b : Bool). either_way b (step x >>= loop goes step n) (Some x)) stop

  turned : (whole : Read T) (x : T × ℕ) → Turns count goes step whole x → x.1 ≤ count → goes x.1 ≡ true
      → (n : ℕ) × (count < suc n + x.1) × (whole ≡ (step x >>= loop goes step n))
  unfolding loop
  turned whole x t within more = go t.left t.enough t.same
    where
      go : (n : ℕ) → count < n + x.1 → whole ≡ loop goes step n x
          → (n : ℕ) × (count < suc n + x.1) × (whole ≡ (step x >>= loop goes step n))
      go zero enough same = absurd (omega arith)
      go (suc n) enough same =
          (n, enough, same ∙ ap (λ (b : Bool). either_way b (step x >>= loop goes step n) (Some x)) more)

  pub turns : (whole : Read T) (x y : T × ℕ) → Turns count goes step whole x → x.1 ≤ count → goes x.1 ≡ true
      → step x ≡ Some y → x.1 < y.1 → Turns count goes step whole y
  turns whole x y t within more stepped further =
      let (n, enough, same) = turned whole x t within more in
      record { left = n; enough = omega arith; same = same ∙ ap (λ (o : Read T). o >>= loop goes step n) stepped }

  pub fails : (whole : Read T) (x : T × ℕ) → Turns count goes step whole x → x.1 ≤ count → goes x.1 ≡ true
      → step x ≡ None → whole ≡ None
  fails whole x t within more stepped =
      let (n, enough, same) = turned whole x t within more in
      same ∙ ap (λ (o : Read T). o >>= loop goes step n) stepped

-- an answer is that of an equal value
pub gives_as : {A B : Type 0} (view : A → B) (r : Result A ParseError) (o p : Option B) → p ≡ o → Gives view r o
    → Gives view r p
gives_as {A} {B} view r o p same given = subst (λ (q : Option B). Gives view r q) (sym same) given

module _ {T : Type 0} (count : ℕ) (goes : ℕ → Bool) (step : T × ℕ → Read T) where
  pub halts : (error : ParseError) (whole : Read T) (x : T × ℕ) → Turns count goes step whole x → x.1 ≤ count
      → goes x.1 ≡ true → Halts error (step x) → Halts error whole
  halts (Syntax token) whole x t within more none = fails count goes step whole x t within more none
  halts (TooDeep token) whole x t within more none = fails count goes step whole x t within more none
  halts OutOfMemory whole x t within more none = tt

-- the same, found by the turns
module _ {T : Type 0} {count : ℕ} {goes : ℕ → Bool} {step : T × ℕ → Read T} {whole : Read T} {x : T × ℕ} where
  pub turn : (y : T × ℕ) → Turns count goes step whole x → x.1 ≤ count → true ≡ goes x.1 → step x ≡ Some y → x.1 < y.1
      → Turns count goes step whole y
  turn y t within more stepped further = turns count goes step whole x y t within (sym more) stepped further

  pub stop : Turns count goes step whole x → x.1 ≤ count → false ≡ goes x.1 → whole ≡ Some x
  stop t within over = stops count goes step whole x t within (sym over)

  pub halt : (error : ParseError) → Turns count goes step whole x → x.1 ≤ count → true ≡ goes x.1 → Halts error (step x)
      → Halts error whole
  halt error t within more none = halts count goes step error whole x t within (sym more) none
