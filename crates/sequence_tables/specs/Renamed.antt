-- Core sequences whose Booleans are named anew.
--     renamed f r              each Boolean of r is what f gives for it
--     booleans_of r            the Booleans of r, without their leading `!`
--     KeepsLiterals f          f keeps the leading `!` and `1'd1`, and gives `1'd1` for nothing else
--     TellsApart f r           f gives different Booleans of r different names
use Rattle.std.specs.Prelude.{◌≡◌, List, [], ◌∷◌, ◌++◌, Contains}
use Rattle.psl_model.specs.Expr.{Expr}
use Rattle.psl_meaning.specs.Sequence.{CoreSere, bool, empty, concat, fuse, or, both, star}
use Rattle.symbol_alphabet.specs.Symbols.{stripped, is_positive, is_one}

abbrev pub renamed : (f : Expr → Expr) → CoreSere → CoreSere
renamed f (bool b) = bool (f b)
renamed f empty = empty
renamed f (concat r s) = concat (renamed f r) (renamed f s)
renamed f (fuse r s) = fuse (renamed f r) (renamed f s)
renamed f (or r s) = or (renamed f r) (renamed f s)
renamed f (both r s) = both (renamed f r) (renamed f s)
renamed f (star r) = star (renamed f r)

abbrev pub booleans_of : CoreSere → List Expr
booleans_of (bool b) = stripped b ∷ []
booleans_of empty = []
booleans_of (concat r s) = booleans_of r ++ booleans_of s
booleans_of (fuse r s) = booleans_of r ++ booleans_of s
booleans_of (or r s) = booleans_of r ++ booleans_of s
booleans_of (both r s) = booleans_of r ++ booleans_of s
booleans_of (star r) = booleans_of r

pub record KeepsLiterals (f : Expr → Expr) : Type 0 where
  pub expression : (e : Expr) → stripped (f e) ≡ f (stripped e)
  pub sign : (e : Expr) → is_positive (f e) ≡ is_positive e
  pub one : (e : Expr) → is_one (f e) ≡ is_one e

abbrev pub TellsApart : (f : Expr → Expr) → CoreSere → Type 0
TellsApart f r =
    (a b : Expr) → Contains (booleans_of r) a → Contains (booleans_of r) b → f a ≡ f b → a ≡ b
