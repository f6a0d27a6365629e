-- What bytes stand for: a waveform, or the first fault.
use Rattle.std.specs.Prelude.{◌≡◌, ℕ, Bool, true, false, cond, List, [], ◌∷◌, length, Result, Ok, Err}
use Rattle.vcd_reader.specs.declared.reading.Place.{Place}
use Rattle.vcd_reader.specs.declared.reading.Place.TheVariants.{Changing}
use Rattle.vcd_reader.specs.declared.reading.Fault.{Fault}
use Rattle.vcd_reader.specs.declared.reading.Fault.TheVariants as fault
use Rattle.vcd_reader.specs.declared.waveform.Var.{Var}
use Rattle.vcd_reader.specs.declared.waveform.Change.{Change}
use Rattle.vcd_reader.specs.declared.waveform.Vcd.{Vcd}
use Rattle.vcd_reader.specs.declared.waveform.VcdError.{VcdError}
use Rattle.vcd_reader.specs.declared.waveform.VcdError.TheVariants.{VcdSyntax, TimeGoesBack, OutOfMemory}
use Rattle.vcd_reader.specs.Tokens.{Token, AreTokens}
use Rattle.vcd_reader.specs.Telling.{Outcome, Waveform, fault_at}
use Rattle.vcd_reader.specs.inner.State.{State, start}
use Rattle.vcd_reader.specs.inner.Rules.{Step, next}

-- the text may end here
abbrev pub may_end : Place → Bool
may_end Changing = true
may_end _ = false

abbrev pub at_text_end : ℕ → State → Outcome
at_text_end end s = cond (may_end s.place) (Ok (record { vars = s.vars; changes = s.changes })) (Err (VcdSyntax end))

-- what follows a step; a fault is that of the token at the offset
abbrev pub behind : Step → (State → Outcome) → (at : ℕ) → Outcome
behind (Ok after) rest at = rest after
behind (Err fault) rest at = Err (fault_at at fault)

-- the outcome of the tokens from a state on; `end` is the length of the whole text
abbrev pub reading : (end : ℕ) → State → List Token → Outcome
reading end s [] = at_text_end end s
reading end s (token ∷ tokens) = behind (next s token.text) (λ after. reading end after tokens) token.at
