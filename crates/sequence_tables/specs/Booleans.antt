-- The Booleans of a core sequence as it is told, where a power names its part once.
--     HasBoolean r e    some Boolean of r is e without its leading `!`
use Rattle.std.specs.Prelude.{◌≡◌, ◌⊎◌}
use Rattle.psl_model.specs.Expr.{Expr}
use Rattle.psl_rewrite.specs.CoreSere.{CoreSere, bool, empty, concat, fuse, or, both, star, power}
use Rattle.symbol_alphabet.specs.Symbols.{stripped}

abbrev pub HasBoolean : CoreSere → Expr → Type 0
HasBoolean (bool b) e = stripped b ≡ e
HasBoolean empty e = ⊥
HasBoolean (concat r s) e = HasBoolean r e ⊎ HasBoolean s e
HasBoolean (fuse r s) e = HasBoolean r e ⊎ HasBoolean s e
HasBoolean (or r s) e = HasBoolean r e ⊎ HasBoolean s e
HasBoolean (both r s) e = HasBoolean r e ⊎ HasBoolean s e
HasBoolean (star r) e = HasBoolean r e
-- even of no copies, since the part is read
HasBoolean (power r count) e = HasBoolean r e
