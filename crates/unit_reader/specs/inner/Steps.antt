-- Steps of readers. A reader gives nothing where the symbols are at fault.
use Rattle.std.specs.Prelude.{ℕ, zero, suc, Bool, true, false, ◌==◌, List, Option, Some, None}
use denote.Enum.Declared.{tag_of}
use Rattle.psl_grammar.specs.contracts.symbols.Symbol as symbol
use Rattle.psl_grammar.specs.declared.symbols.Symbol.{Symbol}
use Rattle.psl_grammar.specs.Symbols.{symbol_at}

infixl 10 ◌>>=◌
abbrev pub ◌>>=◌ : {A B : Type 0} → Option A → (A → Option B) → Option B
None >>= f = None
(Some x) >>= f = f x

-- the answer where a test holds, and nothing elsewhere
abbrev pub need : {A : Type 0} → Bool → Option A → Option A
need true o = o
need false o = None

abbrev pub either_way : {A : Type 0} → Bool → Option A → Option A → Option A
either_way true o p = o
either_way false o p = p

abbrev pub is : Symbol → Symbol → Bool
is s t = tag_of symbol.the_type s == tag_of symbol.the_type t

abbrev pub is_at : List Symbol → ℕ → Symbol → Bool
is_at symbols place s = is (symbol_at symbols place) s

-- a phrase and its end
abbrev pub Read : Type 0 → Type 0
Read T = Option (T × ℕ)

-- what is read as often as the symbol behind goes on with it, but at most so often
unfoldable pub loop : {T : Type 0} (goes : ℕ → Bool) (step : T × ℕ → Read T) → ℕ → T × ℕ → Read T
loop goes step zero x = None
loop goes step (suc n) x = either_way (goes x.1) (step x >>= loop goes step n) (Some x)
