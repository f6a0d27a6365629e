-- The text of lawful modules whose names differ is read as those modules.
use Rattle.std.proofs.Common.{◌≡◌, ℕ, zero, suc, ◌+◌, ◌<◌, ◌≤◌, ◌^◌, List, [], ◌∷◌, ◌++◌, length, map, refl, ap, sym}
use Rattle.std.proofs.Common.{◌∙◌, arith, subst, Some, None}
use Rattle.std.proofs.lemmas.List.{length-append}
use Rattle.std.specs.Prelude.{Option, All, flat_map}
use Rattle.verilog_text.specs.Module.{Module, IsLawful}
use Rattle.verilog_text.specs.Text.{header_line, interface_lines, spelling, StandsForModules}
use Rattle.verilog_reader.specs.inner.Pieces.{◌>>=◌}
use Rattle.verilog_reader.specs.inner.Phrases.{place_of}
use Rattle.verilog_reader.specs.inner.Lines.{State, added, add, module_at, listed, modules_at}
use Rattle.verilog_reader.proofs.Pieces.{some_inj, none_some}
use Rattle.verilog_reader.proofs.ListReads.{add_new}
use Rattle.verilog_reader.proofs.ModuleLists.{AreLawful}
use Rattle.verilog_reader.proofs.NewNames.{Differ, no_place, middle_new, step_on, differ_by_places}
use Rattle.verilog_reader.proofs.WholeModules.{module_reads}

-- the bytes of a module begin with the word `module`
begins : (m : Module) (rest : List ℕ) → (tail : List ℕ) × (spelling m ++ rest ≡ 109 ∷ tail)
unfolding interface_lines header_line
begins m rest = (_, refl)

some_bytes : (m : Module) (rest : List ℕ) → 0 < length (spelling m ++ rest)
some_bytes m rest =
    let is = begins m rest in
    let all : length (spelling m ++ rest) ≡ length (109 ∷ is.0) = ap length is.1 in
    omega arith

abbrev after_module : ℕ → State → Module × List ℕ → Option (List Module)
after_module most seen m = add seen m.0.name 1 >>= λ next. listed m.0 (modules_at most next m.1)

one_more : (most : ℕ) (seen : State) (bytes : List ℕ) → 0 < length bytes → modules_at (suc most) seen bytes
    ≡ (module_at bytes >>= after_module most seen)
one_more most seen [] some = absurd (omega arith)
one_more most seen (byte ∷ bytes) some = refl

abbrev pub names_of_modules : List Module → List (List ℕ)
names_of_modules ms = map (λ (m : Module). m.name) ms

pub modules_reads : (ms : List Module) (most : ℕ) (seen : State) → length (flat_map spelling ms) ≤ most →
    most < 2 ^ 64 → AreLawful ms → Differ (seen.0 ++ names_of_modules ms) →
    modules_at most seen (flat_map spelling ms) ≡ Some ms
modules_reads [] zero seen few short lawful apart = refl
modules_reads [] (suc most) seen few short lawful apart = refl
modules_reads (m ∷ ms) zero seen few short lawful apart =
    let some = some_bytes m (flat_map spelling ms) in
    absurd (omega arith)
modules_reads (m ∷ ms) (suc most) seen few short lawful apart =
    let rest = flat_map spelling ms in
    let some = some_bytes m rest in
    let own = some_bytes m [] in
    let sum : length (spelling m ++ rest) ≡ length (spelling m) + length rest = length-append (spelling m) rest in
    let alone : length (spelling m ++ []) ≡ length (spelling m) + 0 = length-append (spelling m) [] in
    let small : length (spelling m ++ rest) < 2 ^ 64 = omega arith in
    let fewer : length rest ≤ most = omega arith in
    let less : most < 2 ^ 64 = omega arith in
    let new : place_of seen.0 m.name ≡ None =
    no_place m.name seen.0 (middle_new seen.0 m.name (names_of_modules ms) apart) in
    let next : State = added seen m.name 1 in
    one_more most seen (spelling m ++ rest) some
    ∙ ap (λ (o : Option (Module × List ℕ)). o >>= after_module most seen) (module_reads m rest lawful.0 small)
    ∙ ap (λ (o : Option State). o >>= λ s. listed m (modules_at most s rest)) (add_new seen m.name 1 new)
    ∙ ap (listed m) (modules_reads ms most next fewer less lawful.1 (step_on seen.0 m.name (names_of_modules ms) apart))

are_lawful : (ms : List Module) → All IsLawful ms → AreLawful ms
are_lawful [] all = tt
are_lawful (m ∷ ms) all = (all zero m (omega arith), are_lawful ms (λ k d lt. all (suc k) d (omega arith)))

-- bytes that stand for modules are read as those
pub stands_reads : (bytes : List ℕ) (ms : List Module) → length bytes < 2 ^ 64 → StandsForModules bytes ms →
    modules_at (length bytes) ([], []) bytes ≡ Some ms
stands_reads bytes ms short stands =
    let text : List ℕ = flat_map spelling ms in
    let fits : length text < 2 ^ 64 = subst (λ (t : List ℕ). length t < 2 ^ 64) stands.spelled short in
    let least : length text ≤ length text = omega arith in
    let apart : Differ ([] ++ names_of_modules ms) = differ_by_places (names_of_modules ms) stands.distinct in
    ap (λ (t : List ℕ). modules_at (length t) ([], []) t) stands.spelled
    ∙ modules_reads ms (length text) ([], []) least fits (are_lawful ms stands.lawful) apart

-- so they stand for at most one list
pub one_list : (bytes : List ℕ) (ms ns : List Module) → length bytes < 2 ^ 64 → StandsForModules bytes ms →
    StandsForModules bytes ns → ms ≡ ns
one_list bytes ms ns short one two =
    some_inj ms ns (sym (stands_reads bytes ms short one) ∙ stands_reads bytes ns short two)

-- and where nothing is read they stand for none
pub no_list : (bytes : List ℕ) → length bytes < 2 ^ 64 → modules_at (length bytes) ([], []) bytes ≡ None →
    (ms : List Module) → StandsForModules bytes ms → ⊥
no_list bytes short none ms stands = none_some ms (sym none ∙ stands_reads bytes ms short stands)
