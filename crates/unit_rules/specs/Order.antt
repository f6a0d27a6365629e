-- The order in which a unit's broken rules are answered: by token, and at one token by the answers' list.
use Rattle.std.specs.Prelude.{◌≡◌, ◌⊎◌, ℕ, ◌<◌, ◌≤◌, List, [], ◌∷◌}
use Rattle.std.specs.List.{flat_map}
use Rattle.psl_grammar.specs.TokenOrder.{AscendFrom, option_tokens, select_tokens}
use Rattle.unit_rules.specs.declared.errors.UnitError.{UnitError}
use Rattle.unit_rules.specs.Sites.{Site, span, declared, used, phrase, label, directive, literal_at, operator, counts}
use Rattle.unit_rules.specs.Faults.{fault_token, fault_rank}

-- the first fault is answered rather than the second, or they are at one token by one rule
abbrev pub ComesFirst : UnitError → UnitError → Type 0
ComesFirst f g = (fault_token f < fault_token g) ⊎ ((fault_token f ≡ fault_token g) × (fault_rank f ≤ fault_rank g))

abbrev pub ComesBeforeAll : UnitError → List UnitError → Type 0
ComesBeforeAll f [] = Unit {0}
ComesBeforeAll f (g ∷ gs) = ComesFirst f g × ComesBeforeAll f gs

-- the tokens of a site at which a rule may be broken
abbrev pub site_tokens : Site → List ℕ
site_tokens (span high low) = high ∷ low ∷ []
site_tokens (declared token range) = token ∷ []
site_tokens (used token select) = token ∷ select_tokens select
site_tokens (phrase token) = token ∷ []
site_tokens (label token) = token ∷ []
site_tokens (directive word) = word ∷ []
site_tokens (literal_at token) = token ∷ []
site_tokens (operator mark a b) = mark ∷ []
site_tokens (counts mark low high) = low ∷ option_tokens high

-- the tokens of the sites stand in the order of reading, as the parser leaves them
abbrev pub AreInOrder : List Site → Type 0
AreInOrder sites = AscendFrom 0 (flat_map site_tokens sites)
