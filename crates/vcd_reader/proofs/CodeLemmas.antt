-- Identifiers in a map, and their numbers.
use Rattle.std.proofs.Common.{◌≡◌, ℕ, suc, ◌+◌, List, [], ◌∷◌, ◌++◌, Bool, true, false, cond, Option, Some, None}
use Rattle.std.proofs.Common.{length, map, refl, sym, ◌∙◌, ap, arith, Vec}
use Rattle.std.specs.declared.alloc.Global.{Global}
use Rattle.std.specs.List.{position_or_len, position}
use Rattle.std.specs.Map.{lookup, keys_of}
use Rattle.std.specs.Str.{bytes_eq}
use Rattle.std.proofs.lemmas.Option.{cond_some}
use Rattle.vcd_reader.specs.Codes.{code_from, find_code}
use Rattle.vcd_reader.specs.inner.CodesView.{codes_of}

abbrev Entries : Type 0
Entries = List (Vec ℕ Global × ℕ)

abbrev pub test : List ℕ → Vec ℕ Global → Bool
test id key = bytes_eq id key.items

pub code_none : (first : ℕ) (es : List (Vec ℕ Global × ℕ)) (id : List ℕ) → lookup (test id) es ≡ None
    → code_from first (codes_of es) id ≡ None
code_none first [] id h = refl
code_none first (e ∷ es) id h = grind (arith, code_none (suc first) es id)

pub lookup_none : (first : ℕ) (es : List (Vec ℕ Global × ℕ)) (id : List ℕ) → code_from first (codes_of es) id ≡ None
    → lookup (test id) es ≡ None
lookup_none first [] id h = refl
lookup_none first (e ∷ es) id h = grind (arith, lookup_none (suc first) es id)

code_cases : (first : ℕ) (e : Vec ℕ Global × ℕ) (es : List (Vec ℕ Global × ℕ)) (id : List ℕ) (size : ℕ) (b : Bool)
    → test id e.0 ≡ b
    → (lookup (test id) es ≡ Some size → code_from (suc first) (codes_of es) id
    ≡ Some (suc first + position_or_len (test id) (keys_of es), size))
    → lookup (test id) (e ∷ es) ≡ Some size
    → code_from first (codes_of (e ∷ es)) id ≡ Some (first + position_or_len (test id) (keys_of (e ∷ es)), size)
code_cases first e es id size true p rest h = grind arith
code_cases first e es id size false p rest h = grind (arith, rest)

pub code_at : (first : ℕ) (es : List (Vec ℕ Global × ℕ)) (id : List ℕ) (size : ℕ)
    → lookup (test id) es ≡ Some size → code_from first (codes_of es) id
    ≡ Some (first + position_or_len (test id) (keys_of es), size)
code_at first [] id size h = cc
code_at first (e ∷ es) id size h = code_cases first e es id size (test id e.0) refl (code_at (suc first) es id size) h

pub code_found : (es : List (Vec ℕ Global × ℕ)) (id : List ℕ) (code size : ℕ)
    → position (test id) (keys_of es) ≡ Some code → lookup (test id) es ≡ Some size → find_code (codes_of es) id
    ≡ Some (code, size)
code_found es id code size at is =
    let place : position_or_len (test id) (keys_of es) ≡ code = (cond_some _ _ _ at).1 in
    grind (arith, code_at 0 es id size is)

pub codes_push : (es : List (Vec ℕ Global × ℕ)) (key : Vec ℕ Global) (size : ℕ)
    → codes_of (es ++ (key, size) ∷ []) ≡ codes_of es ++ (key.items, size) ∷ []
codes_push [] key size = refl
codes_push (e ∷ es) key size = ap (λ rest. (e.0.items, e.1) ∷ rest) (codes_push es key size)
