-- A file in the list of files is replaced by another.
use Rattle.std.proofs.Common.{◌≡◌, ◌≢◌, ℕ, ◌<◌, List, [], ◌++◌, length, take, drop, get_or, set, sym, ◌∙◌, ap}
use Rattle.std.proofs.Common.{arith, get_or-set_same, get_or-set_other}
use Rattle.std.proofs.lemmas.List.{take-append-drop, map-set, get_or-map, length-map}
use Rattle.std.proofs.lemmas.Option.{unwrap_or-slice_get}
use Rattle.std.specs.Prelude.{Vec}
use Rattle.std.specs.declared.alloc.Global.{Global}
use Rattle.mbac_io.specs.MemoryDevices.{contents, file_at}

file_at-get_or : (files : List (List ℕ)) (place : ℕ) → file_at files place ≡ get_or files place []
file_at-get_or files place = unwrap_or-slice_get files place []

contents-set : (files : List (Vec ℕ Global)) (place : ℕ) (file : Vec ℕ Global) →
    contents (set files place file) ≡ set (contents files) place file.items
contents-set files place file = map-set (λ (each : Vec ℕ Global). each.items) files place file

pub file_at-set_other : (files : List (Vec ℕ Global)) (place other : ℕ) (file : Vec ℕ Global) → other ≢ place →
    file_at (contents (set files place file)) other ≡ file_at (contents files) other
file_at-set_other files place other file differs =
    ap (λ all. file_at all other) (contents-set files place file)
    ∙ (file_at-get_or (set (contents files) place file.items) other
    ∙ (get_or-set_other (contents files) place other file.items [] differs
    ∙ sym (file_at-get_or (contents files) other)))

file_at-set_same : (files : List (Vec ℕ Global)) (place : ℕ) (file : Vec ℕ Global) → place < length files →
    file_at (contents (set files place file)) place ≡ file.items
file_at-set_same files place file within =
    let inside : place < length (contents files) =
    omega (arith, length-map files (λ (each : Vec ℕ Global). each.items)) in
    ap (λ all. file_at all place) (contents-set files place file)
    ∙ (file_at-get_or (set (contents files) place file.items) place
    ∙ get_or-set_same (contents files) place file.items [] inside)

file_at-contents : (files : List (Vec ℕ Global)) (place : ℕ) (file : Vec ℕ Global) → place < length files →
    file ≡ get_or files place file → file_at (contents files) place ≡ file.items
file_at-contents files place file within found =
    file_at-get_or (contents files) place
    ∙ (get_or-map (λ (each : Vec ℕ Global). each.items) files place file [] within
    ∙ ap (λ (each : Vec ℕ Global). each.items) (sym found))

-- the file loses its first bytes: before, it was these and what is left
pub file_at-front_taken : (files : List (Vec ℕ Global)) (place count : ℕ) (before after : Vec ℕ Global)
    (front : List ℕ) → place < length files → before ≡ get_or files place before → front ≡ take count before.items →
    after.items ≡ drop count before.items →
    file_at (contents files) place ≡ front ++ file_at (contents (set files place after)) place
file_at-front_taken files place count before after front within found taken rest =
    file_at-contents files place before within found
    ∙ (sym (take-append-drop count before.items)
    ∙ (ap (λ bytes. bytes ++ drop count before.items) (sym taken)
    ∙ (ap (λ bytes. front ++ bytes) (sym rest)
    ∙ ap (λ bytes. front ++ bytes) (sym (file_at-set_same files place after within)))))
