-- Lists of token numbers that ascend within a span.
use Rattle.std.proofs.Common.{◌≡◌, ℕ, ◌+◌, ◌<◌, ◌≤◌, List, [], ◌∷◌, ◌++◌, All, sym, ap, ◌∙◌, append_assoc, arith}
use Rattle.std.proofs.lemmas.List.{append-nil}
use Rattle.std.proofs.lemmas.List.Elements.{All-nil, All-cons}
use Rattle.psl_grammar.specs.RawUnit.{RawItem}
use Rattle.psl_grammar.specs.TokenOrder.{item_tokens, items_tokens, AscendFrom}

-- from i on and below j
abbrev pub Within : (i j : ℕ) → List ℕ → Type 0
Within i j [] = i ≤ j
Within i j (n ∷ ns) = (i ≤ n) × Within (n + 1) j ns

pub later : (i m j : ℕ) (ns : List ℕ) → i ≤ m → Within m j ns → Within i j ns
later i m j [] le h = omega arith
later i m j (n ∷ ns) le h = let first : m ≤ n = h.0 in (omega arith, h.1)

pub longer : (i m j : ℕ) (ns : List ℕ) → m ≤ j → Within i m ns → Within i j ns
longer i m j [] le h = omega arith
longer i m j (n ∷ ns) le h = (h.0, longer (n + 1) m j ns le h.1)

pub inside : (i k m j : ℕ) (ns : List ℕ) → i ≤ k → m ≤ j → Within k m ns → Within i j ns
inside i k m j ns low high h = later i k j ns low (longer k m j ns high h)

pub both : (i m j : ℕ) (xs ys : List ℕ) → Within i m xs → Within m j ys → Within i j (xs ++ ys)
both i m j [] ys h k = later i m j ys h k
both i m j (n ∷ ns) ys h k = (h.0, both (n + 1) m j ns ys h.1 k)

-- a mark between two
pub around : (i m j : ℕ) (xs ys : List ℕ) → Within i m xs → Within (m + 1) j ys → Within i j (xs ++ m ∷ ys)
around i m j xs ys h k = let le : m ≤ m = omega arith in both i m j xs (m ∷ ys) h (le, k)

-- a mark before one
pub behind : (i j : ℕ) (ns : List ℕ) → Within (i + 1) j ns → Within i j (i ∷ ns)
behind i j ns h = (omega arith, h)

pub ascends : (i j : ℕ) (ns : List ℕ) → Within i j ns → AscendFrom i ns
ascends i j [] h = tt
ascends i j (n ∷ ns) h = (h.0, ascends (n + 1) j ns h.1)

pub within_le : (i j : ℕ) (ns : List ℕ) → Within i j ns → i ≤ j
within_le i j [] h = h
within_le i j (n ∷ ns) h =
    let first : i ≤ n = h.0 in let rest : n + 1 ≤ j = within_le (n + 1) j ns h.1 in omega arith

pub below : (i j k : ℕ) (ns : List ℕ) → j ≤ k → Within i j ns → All (λ n. n < k) ns
below i j k [] le h = All-nil (λ (n : ℕ). n < k)
below i j k (n ∷ ns) le h =
    let rest : n + 1 ≤ j = within_le (n + 1) j ns h.1 in
    let one : n < k = omega arith in
    All-cons (λ (n : ℕ). n < k) n ns one (below (n + 1) j k ns le h.1)

pub items_snoc : (items : List RawItem) (item : RawItem)
    → items_tokens (items ++ item ∷ []) ≡ items_tokens items ++ item_tokens item
items_snoc [] item = append-nil (item_tokens item)
items_snoc (x ∷ xs) item =
    ap (λ (l : List ℕ). item_tokens x ++ l) (items_snoc xs item)
    ∙ sym (append_assoc (item_tokens x) (items_tokens xs) (item_tokens item))
