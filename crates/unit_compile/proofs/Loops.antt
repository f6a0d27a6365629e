-- One directive after the other.
use Rattle.std.proofs.Common.{◌≡◌, ℕ, suc, ◌+◌, ◌<◌, ◌≤◌, List, []}
use Rattle.std.proofs.Common.{◌∷◌, ◌++◌, length, map, drop, get_or, ap, sym, subst, ◌∙◌, append_assoc, add-one}
use Rattle.std.proofs.Common.{All, arith, inl, inr}
use Rattle.std.proofs.Math.Seq.{drop-cons, drop-length}
use Rattle.std.proofs.lemmas.List.{append-nil, get_or-map, length-map}
use Rattle.psl_model.specs.declared.refusals.Refusal.{Refusal}
use Rattle.psl_model.specs.declared.units.Directive as declared
use Rattle.psl_model.specs.Unit.{PslUnit, Directive}
use Rattle.psl_model.specs.UnitView.{directive_of}
use Rattle.verilog_text.specs.Module.{Module}
use Rattle.formula_limits.specs.Steps.{step_limit}
use Rattle.unit_compile.specs.Directives.{IsTakenAt, FirstRefusal, AreTaken}
use Rattle.unit_compile.specs.Made.{AreMade}
use Rattle.unit_compile.specs.inner.Unmade.{HasOneMore, IsUnmade, AreUnmade}

abbrev pub plain : List declared.Directive → List Directive
plain xs = map directive_of xs

-- the directives from a place on
abbrev pub plain_from : List declared.Directive → (i : ℕ) → List Directive
plain_from xs i = drop i (plain xs)

-- a directive that stands at a place
pub record StandsAt (xs : List declared.Directive) (i : ℕ) (x : declared.Directive) : Type 0 where
  pub within : i < length xs
  pub read : x ≡ get_or xs i x

pub has_at : (P : declared.Directive → Type 0) (xs : List declared.Directive) (i : ℕ) (x : declared.Directive)
    → StandsAt xs i x → All P xs → P x
has_at P xs i x at all = subst P (sym at.read) (all i x at.within)

pub unmapped : (P : Directive → Type 0) (xs : List declared.Directive) → All P (plain xs)
    → All (λ (d : declared.Directive). P (directive_of d)) xs
unmapped P xs all = λ k d lt.
    let inside : k < length (plain xs) = omega (arith, length-map xs directive_of) in
    subst P (get_or-map directive_of xs k d (directive_of d) lt) (all k (directive_of d) inside)

next_at : (xs : List declared.Directive) (i : ℕ) (x : declared.Directive) → StandsAt xs i x
    → plain_from xs i ≡ directive_of x ∷ plain_from xs (i + 1)
next_at xs i x at =
    let lt : i < length xs = at.within in
    let inside : i < length (plain xs) = omega (arith, length-map xs directive_of) in
    drop-cons (plain xs) i (directive_of x) inside
    ∙ ap (λ (y : Directive). y ∷ drop (suc i) (plain xs))
    (get_or-map directive_of xs i x (directive_of x) lt ∙ ap directive_of (sym at.read))
    ∙ ap (λ (n : ℕ). directive_of x ∷ drop n (plain xs)) (sym (add-one i))

none_at : (xs : List declared.Directive) (i : ℕ) → i ≡ length xs → plain_from xs i ≡ []
none_at xs i e =
    ap (λ (n : ℕ). drop n (plain xs)) (e ∙ sym (length-map xs directive_of)) ∙ drop-length (plain xs)

-- ---- their checkers

abbrev pub MadeSoFar : PslUnit → List declared.Directive → (i : ℕ) → List Module → Type 0
MadeSoFar unit xs i ms =
    (rest : List Module) → AreMade unit (i + 1) (plain_from xs i) rest → AreMade unit 1 (plain xs) (ms ++ rest)

pub made_next : (unit : PslUnit) (xs : List declared.Directive) (i : ℕ) (x : declared.Directive) (old new : List Module)
    → StandsAt xs i x → MadeSoFar unit xs i old → HasOneMore unit (i + 1) (directive_of x) old new
    → MadeSoFar unit xs (i + 1) new
made_next unit xs i x old new at so_far more = λ rest h.
    let tail : AreMade unit (suc (i + 1)) (plain_from xs (i + 1)) rest =
    subst (λ (n : ℕ). AreMade unit n (plain_from xs (i + 1)) rest) (add-one (i + 1)) h in
    let here : AreMade unit (i + 1) (directive_of x ∷ plain_from xs (i + 1)) (more.last ∷ rest) =
    (more.made, tail) in
    let listed : AreMade unit 1 (plain xs) (old ++ (more.last ∷ rest)) =
    so_far (more.last ∷ rest)
    (subst (λ (ds : List Directive). AreMade unit (i + 1) ds (more.last ∷ rest)) (sym (next_at xs i x at)) here) in
    subst (λ (ms : List Module). AreMade unit 1 (plain xs) ms)
    (sym (ap (λ (ms : List Module). ms ++ rest) more.listed ∙ append_assoc old (more.last ∷ []) rest)) listed

pub made_whole : (unit : PslUnit) (xs : List declared.Directive) (i : ℕ) (ms : List Module) → i ≡ length xs
    → MadeSoFar unit xs i ms → AreMade unit 1 (plain xs) ms
made_whole unit xs i ms e so_far =
    let none : AreMade unit (i + 1) [] [] = tt in
    subst (λ (all : List Module). AreMade unit 1 (plain xs) all) (append-nil ms)
    (so_far [] (subst (λ (ds : List Directive). AreMade unit (i + 1) ds []) (sym (none_at xs i e)) none))

-- ---- what is judged of them

-- what is so of the rest is so of all, where so many steps are counted
pub record JudgedSoFar (xs : List declared.Directive) (i steps : ℕ) : Type 0 where
  pub within : steps ≤ step_limit
  pub taken : AreTaken steps (plain_from xs i) → AreTaken 0 (plain xs)
  pub refused : (r : Refusal) → FirstRefusal (i + 1) steps (plain_from xs i) r → FirstRefusal 1 0 (plain xs) r

pub none_judged : (xs : List declared.Directive) → JudgedSoFar xs 0 0
none_judged xs = record { within = omega arith; taken = λ h. h; refused = λ r h. h }

pub judged_next : (xs : List declared.Directive) (i steps after : ℕ) (x : declared.Directive) → StandsAt xs i x
    → IsTakenAt steps (directive_of x) after → JudgedSoFar xs i steps → JudgedSoFar xs (i + 1) after
judged_next xs i steps after x at here so_far = record {
  within = here.within;
  taken = λ h.
      so_far.taken (subst (λ (ds : List Directive). AreTaken steps ds) (sym (next_at xs i x at)) (after, here, h));
  refused = λ r h.
      let rest : FirstRefusal (suc (i + 1)) after (plain_from xs (i + 1)) r =
      subst (λ (n : ℕ). FirstRefusal n after (plain_from xs (i + 1)) r) (add-one (i + 1)) h in
      so_far.refused r
      (subst (λ (ds : List Directive). FirstRefusal (i + 1) steps ds r) (sym (next_at xs i x at))
      (inr (after, here, rest)));
}

pub taken_whole : (xs : List declared.Directive) (i steps : ℕ) → i ≡ length xs → JudgedSoFar xs i steps
    → AreTaken 0 (plain xs)
taken_whole xs i steps e so_far =
    so_far.taken (subst (λ (ds : List Directive). AreTaken steps ds) (sym (none_at xs i e)) tt)

-- why there are no more
pub unmade_here : (xs : List declared.Directive) (i steps : ℕ) (x : declared.Directive) (r : Refusal)
    → StandsAt xs i x → IsUnmade (i + 1) steps (directive_of x) r → JudgedSoFar xs i steps → AreUnmade (plain xs) r
unmade_here xs i steps x r at (inl memory) so_far = inl memory
unmade_here xs i steps x r at (inr h) so_far =
    inr (so_far.refused r
    (subst (λ (ds : List Directive). FirstRefusal (i + 1) steps ds r) (sym (next_at xs i x at)) (inl h)))
