use Rattle.std.proofs.Common.{◌≡◌, ◌≢◌, [], ◌∷◌, ◌∙◌, ℕ, ◌<◌, ◌≤◌, false, length, List, get_or, map, refl, ap}
use Rattle.std.proofs.Common.{arith, sym, string_bytes, subst}
use Rattle.std.specs.Prelude.{◌==◌, codes}
use Rattle.std.proofs.lemmas.Slice.Eq.{bytes_eq-Decides}
use Rattle.mbac_top.specs.Words.{IsCompile}
use Rattle.mbac_top.proofs.words.compile_file.Goals as goal

-- a list of two elements
pair_of : {X : Type 0} (xs : List X) (first second : X) → 2 ≤ length xs → length xs < 3 →
    first ≡ get_or xs 0 first → second ≡ get_or xs 1 second → xs ≡ first ∷ second ∷ []
pair_of [] first second low high is_first is_second = absurd (omega arith)
pair_of (x ∷ []) first second low high is_first is_second = absurd (omega arith)
pair_of (x ∷ y ∷ []) first second low high is_first is_second = cc
pair_of (x ∷ y ∷ z ∷ xs) first second low high is_first is_second = absurd (omega arith)

not_empty : (xs : List ℕ) → (length xs == 0) ≡ false → xs ≢ []
not_empty [] e = cc
not_empty (x ∷ xs) e = λ nil. cc

-- the words of a command are those that it tests
words_are : (words : List (List ℕ)) (command file shown : List ℕ) → words ≡ command ∷ file ∷ [] →
    command ≡ codes "compile" → shown ≡ file → words ≡ codes "compile" ∷ shown ∷ []
words_are words command file shown e f h = cc

is_compile : (words : List (List ℕ)) (file : List ℕ) → words ≡ codes "compile" ∷ file ∷ [] → file ≢ [] → IsCompile words
is_compile words file e some = subst IsCompile (sym e) (refl, some)

pub returns-then-not-is_empty-clause-found : goal.returns-then-not-is_empty-clause-found
returns-then-not-is_empty-clause-found c =
    let words =
    pair_of c.args.words.now c.command-item.result c.file-item.result c.in-len2.len_at_least c.in-len2.len_below
    c.command-item.is c.file-item.is in
    let bytes = ap (map string_bytes) words in
    let same = (bytes_eq-Decides c.as_str.result.now (codes "compile")).0 (sym c.eq.ensures ∙ c.if-eq.true) in
    let shown = c.as_str-file.ensures.value in
    let some = not_empty c.as_str-file.result.now (sym c.is_empty.ensures ∙ c.if-not-is_empty.true) in
    (words_are _ _ _ _ bytes (sym c.as_str.ensures.value ∙ same) shown, some)

pub returns-then-not-is_empty-clause-exactly : goal.returns-then-not-is_empty-clause-exactly
returns-then-not-is_empty-clause-exactly c =
    let found = returns-then-not-is_empty-clause-found c in
    (λ _. is_compile _ _ found.0 found.1, λ _. refl)
