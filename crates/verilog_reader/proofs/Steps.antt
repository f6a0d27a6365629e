-- Steps of the reader that stop.
use Rattle.std.proofs.Common.{◌≡◌, ℕ, zero, suc, ◌-◌, ◌<◌, ◌≤◌, ◌^◌, List, Result, Some, None, refl, sym, subst, ◌∙◌}
use Rattle.std.proofs.Common.{ap, arith}
use Rattle.std.proofs.Common.{true}
use Rattle.std.proofs.lemmas.Bool.Decides.{nat_tests}
use Rattle.std.specs.Prelude.{Option, codes, nat_lt}
use Rattle.verilog_reader.specs.declared.errors.Stop.{Stop}
use Rattle.verilog_reader.specs.declared.errors.Stop.TheVariants.{Wrong, OutOfMemory}
use Rattle.verilog_reader.specs.inner.Pieces.{◌>>=◌, after_text}
use Rattle.verilog_reader.specs.inner.Phrases.{expression_at, atom_at, group_at, either}
use Rattle.std.proofs.Math.Pow.{pow_mono}
use Rattle.verilog_text.specs.Text.{register_name}
use Rattle.verilog_reader.specs.inner.Lines.{update_head_at}
use Rattle.verilog_reader.specs.inner.Answers.{Halts, Gives}

-- where a step stops, all that is bound to it stops
pub stopped : {A B : Type 0} (stop : Stop) (o : Option A) (f : A → Option B) → Halts stop o → Halts stop (o >>= f)
stopped (Wrong left) o f none = ap (λ p. p >>= f) none
stopped OutOfMemory o f none = tt

-- the same for an equal value
pub stops_as : {A : Type 0} (stop : Stop) (o p : Option A) → p ≡ o → Halts stop o → Halts stop p
stops_as (Wrong left) o p same none = same ∙ none
stops_as OutOfMemory o p same none = tt

-- an answer is that of an equal value
pub gives_as : {A B : Type 0} (view : A → B) (r : Result A Stop) (o p : Option B) → p ≡ o → Gives view r o →
    Gives view r p
gives_as {A} {B} view r o p same given = subst (λ (q : Option B). Gives view r q) (sym same) given

pub no_room : (names : List (List ℕ)) (widths : List ℕ) (room : ℕ) (bytes : List ℕ) → room ≡ 0 →
    expression_at names widths room bytes ≡ atom_at names widths bytes
unfolding expression_at
no_room names widths room bytes none = ap (λ (n : ℕ). expression_at names widths n bytes) none

pub grouped : (names : List (List ℕ)) (widths : List ℕ) (room : ℕ) (bytes inner : List ℕ) → 0 < room →
    after_text (codes "(") bytes ≡ Some inner →
    expression_at names widths room bytes ≡ group_at (expression_at names widths (room - 1)) inner
unfolding expression_at
grouped names widths zero bytes inner some here = absurd (omega arith)
grouped names widths (suc room) bytes inner some here =
    let less : room ≡ suc room - 1 = omega arith in
    ap (λ (o : Option (List ℕ)). either o (group_at (expression_at names widths room)) (atom_at names widths bytes))
    here
    ∙ ap (λ (n : ℕ). group_at (expression_at names widths n) inner) less

pub alone : (names : List (List ℕ)) (widths : List ℕ) (room : ℕ) (bytes : List ℕ) → after_text (codes "(") bytes
    ≡ None →
    expression_at names widths room bytes ≡ atom_at names widths bytes
unfolding expression_at
alone names widths zero bytes none = refl
alone names widths (suc room) bytes none =
    ap (λ (o : Option (List ℕ)). either o (group_at (expression_at names widths room)) (atom_at names widths bytes))
    none

-- a value of 64 bits fits any larger width
pub fits_wide : (value width : ℕ) → value < 2 ^ 64 → 64 ≤ width → value < 2 ^ width
fits_wide value width small le =
    let wide : 2 ^ 64 ≤ 2 ^ width = pow_mono le in omega arith

-- the start of a register's line
pub head_is : (number : ℕ) (bytes start named : List ℕ) → after_text (codes "  always @(posedge mbac_clk) ") bytes
    ≡ Some start → after_text (register_name number) start ≡ Some named →
    update_head_at number bytes ≡ after_text (codes " <= (mbac_rst ? ") named
unfolding update_head_at
head_is number bytes start named first second = rw (first, second) refl

pub fits_true : (value width : ℕ) → value < 2 ^ 64 → 64 ≤ width → true ≡ nat_lt value (2 ^ width)
fits_true value width small le =
    let less : value < 2 ^ width = fits_wide value width small le in
    sym (less_true value (2 ^ width) less)
  where
    less_true : (m n : ℕ) → m < n → nat_lt m n ≡ true
    less_true m n lt = grind (arith, nat_tests)
