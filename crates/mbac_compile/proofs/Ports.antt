-- The signals that a directive uses as the ports of its checker.
use Rattle.std.proofs.Common.{◌≡◌, ◌≢◌, ℕ, zero, suc, ◌<◌, List, [], ◌∷◌, map, length, get_or, refl, ap, sym, subst}
use Rattle.std.proofs.Common.{◌∙◌, arith, Some, None, Option, ◌+◌, ◌++◌, ◌≤◌, take}
use Rattle.std.specs.Prelude.{All, AllPairs, slice_get, slice_index}
use Rattle.std.specs.List.{filter_map, cons_option}
use Rattle.std.specs.List.Sorted.{IsStrictlyIncreasing}
use Rattle.std.proofs.lemmas.List.{get_or-map, length-map, take_more}
use Rattle.std.proofs.lemmas.List.Elements.{All-map, filter_map-append}
use Rattle.std.proofs.lemmas.List.Kept.{AllPairs-from_increasing}
use Rattle.std.proofs.Math.Seq.{take-length}
use Rattle.psl_model.specs.declared.names.Signal.{Signal}
use Rattle.port_formulas.specs.Chosen.{chosen}
use Rattle.verilog_text.specs.Module.{IsPort}
use Rattle.verilog_text.specs.Interface.{port_widths}

-- the signals at some places, one place after the other
pub one_more : (signals : List Signal) (places : List ℕ) (i : ℕ) → i < length places →
    filter_map (slice_get signals) (take (i + 1) places)
    ≡ filter_map (slice_get signals) (take i places) ++ cons_option (slice_get signals (get_or places i 0)) []
one_more signals places i lt =
    ap (filter_map (slice_get signals)) (take_more places i 0 lt)
    ∙ filter_map-append (slice_get signals) (take i places) (get_or places i 0 ∷ [])

pub all_taken : (signals : List Signal) (places : List ℕ) (i : ℕ) → i ≡ length places →
    filter_map (slice_get signals) (take i places) ≡ filter_map (slice_get signals) places
all_taken signals places i e =
    ap (filter_map (slice_get signals)) (ap (λ (n : ℕ). take n places) e ∙ take-length places)

-- what stands for a signal where there is none
abbrev nowhere : Signal
nowhere = record { name = []; width = 0 }

abbrev pub at : List Signal → ℕ → Signal
at signals place = get_or signals place nowhere

pub there : {X : Type 0} (xs : List X) (place : ℕ) (d : X) → place < length xs →
    slice_get xs place ≡ Some (get_or xs place d)
there [] place d lt = absurd (omega arith)
there (x ∷ xs) zero d lt = refl
there (x ∷ xs) (suc place) d lt = let lower : place < length xs = omega arith in there xs place d lower

pub past_the_end : {X : Type 0} (xs : List X) (place : ℕ) → length xs ≤ place → slice_get xs place ≡ None
past_the_end [] place le = refl
past_the_end (x ∷ xs) zero le = absurd (omega arith)
past_the_end (x ∷ xs) (suc place) le = let lower : length xs ≤ place = omega arith in past_the_end xs place lower

tail : (P : ℕ → Type 0) (place : ℕ) (places : List ℕ) → All P (place ∷ places) → All P places
tail P place places h = λ k d lt. let higher : suc k < length (place ∷ places) = omega arith in h (suc k) d higher

pub ports_are : (signals : List Signal) (places : List ℕ) → All (λ place. place < length signals) places →
    filter_map (slice_get signals) places ≡ map (at signals) places
ports_are signals [] inside = refl
ports_are signals (place ∷ places) inside =
    let first : 0 < length (place ∷ places) = omega arith in
    ap (λ (o : Option Signal). cons_option o (filter_map (slice_get signals) places))
    (there signals place nowhere (inside 0 0 first))
    ∙ ap (λ (ports : List Signal). at signals place ∷ ports)
    (ports_are signals places (tail (λ p. p < length signals) place places inside))

width_at : (signals : List Signal) (place : ℕ) → place < length signals →
    (at signals place).width ≡ slice_index (port_widths signals) place
width_at signals place lt = sym (get_or-map (λ (p : Signal). p.width) signals place nowhere 0 lt)

pub widths_are : (signals : List Signal) (places : List ℕ) → All (λ place. place < length signals) places →
    port_widths (map (at signals) places) ≡ chosen places (port_widths signals)
widths_are signals [] inside = refl
widths_are signals (place ∷ places) inside =
    let first : 0 < length (place ∷ places) = omega arith in
    ap (λ (w : ℕ). w ∷ port_widths (map (at signals) places)) (width_at signals place (inside 0 0 first))
    ∙ ap (λ (ws : List ℕ). slice_index (port_widths signals) place ∷ ws)
    (widths_are signals places (tail (λ p. p < length signals) place places inside))

pub ports_fit : (signals : List Signal) (places : List ℕ) → All (λ place. place < length signals) places →
    All IsPort signals → All IsPort (map (at signals) places)
ports_fit signals places inside are =
    All-map IsPort (at signals) places
    (λ k d lt. are (get_or places k d) nowhere (inside k d lt))

abbrev names : List Signal → List (List ℕ)
names signals = map (λ (s : Signal). s.name) signals

name_at : (signals : List Signal) (place : ℕ) (d : List ℕ) → place < length signals →
    get_or (names signals) place d ≡ (at signals place).name
name_at signals place d lt = get_or-map (λ (s : Signal). s.name) signals place nowhere d lt

port_name_at : (signals : List Signal) (places : List ℕ) (k : ℕ) (d : List ℕ) → k < length places →
    get_or (names (map (at signals) places)) k d ≡ (at signals (get_or places k 0)).name
port_name_at signals places k d lt =
    let long : k < length (map (at signals) places) =
    subst (λ (n : ℕ). k < n) (sym (length-map places (at signals))) lt in
    name_at (map (at signals) places) k d long
    ∙ ap (λ (s : Signal). s.name) (get_or-map (at signals) places k 0 nowhere lt)

pub ports_differ : (signals : List Signal) (places : List ℕ) → All (λ place. place < length signals) places →
    IsStrictlyIncreasing places → AllPairs (λ p q. p ≢ q) (names signals) →
    AllPairs (λ p q. p ≢ q) (names (map (at signals) places))
ports_differ signals places inside rising differ = λ i j d before lt same.
    let short : j < length places = subst (λ (n : ℕ). j < n)
    (length-map (map (at signals) places) (λ (s : Signal). s.name) ∙ length-map places (at signals)) lt in
    let shorter : i < length places = omega arith in
    let lower : get_or places i 0 < get_or places j 0 = AllPairs-from_increasing places rising i j 0 before short in
    let within : get_or places j 0 < length (names signals) =
    subst (λ (n : ℕ). get_or places j 0 < n) (sym (length-map signals (λ (s : Signal). s.name))) (inside j 0 short) in
    differ (get_or places i 0) (get_or places j 0) d lower within
    (name_at signals (get_or places i 0) d (inside i 0 shorter)
    ∙ sym (port_name_at signals places i d shorter)
    ∙ same
    ∙ port_name_at signals places j d short
    ∙ sym (name_at signals (get_or places j 0) d (inside j 0 short)))
