-- The reader's steps, token by token, and what the phrases of a text tell.
use Rattle.std.proofs.Common.{◌≡◌, ℕ, List, [], ◌∷◌, ◌++◌, Bool, true, false, cond, refl, sym, ◌∙◌, ap, subst, Result}
use Rattle.std.proofs.Common.{Ok, Err}
use Rattle.vcd_reader.specs.declared.reading.Fault.TheVariants.{Syntax}
use Rattle.vcd_reader.specs.Tokens.{Token}
use Rattle.vcd_reader.specs.Context.{Context, nothing_yet}
use Rattle.vcd_reader.specs.Phrases.{Judgement, whole, begins, breaks, judge}
use Rattle.vcd_reader.specs.Telling.{Outcome, Waveform, fault_at, at_end_of_text, judged, upon, telling}
use Rattle.vcd_reader.specs.inner.Outcome.{at_text_end, behind, reading, may_end}
use Rattle.vcd_reader.specs.inner.State.{State, start}
use Rattle.vcd_reader.specs.inner.Rules.{Step, next}
use Rattle.vcd_reader.proofs.Stands.{Stand, between, skips, remarks, scope0, scope1, scope2, up, var0, var1, var2}
use Rattle.vcd_reader.proofs.Stands.{var3, var4, ends, others, vectors, since, at, Fits, Goes, Follows, plain}
use Rattle.vcd_reader.proofs.Stands.{open_place}
use Rattle.vcd_reader.proofs.Following.{follows_skips, follows_remarks, follows_scope0, follows_scope1}
use Rattle.vcd_reader.proofs.Following.{follows_scope2, follows_up, follows_ends, follows_others, follows_var0}
use Rattle.vcd_reader.proofs.VariableSteps.{follows_var1, follows_var2, follows_var3, follows_var4, follows_vectors}
use Rattle.vcd_reader.proofs.BeginningSteps.{follows_declaration}
use Rattle.vcd_reader.proofs.CommandSteps.{follows_command}

follows_between : (c : Context) (text : List ℕ) (b : Bool) → c.declaring ≡ b → Follows c between text (judge c text [])
follows_between c text true h = follows_declaration c text h
follows_between c text false h = follows_command c text h

follows : (c : Context) (p : Stand) (text : List ℕ) → Fits c p → Follows c p text (judged c (since p ++ text ∷ []))
follows c between text h = follows_between c text c.declaring refl
follows c (skips word rest) text h = follows_skips c word rest text h
follows c (remarks word rest) text h = follows_remarks c word rest text h
follows c (scope0 word) text h = follows_scope0 c word text h
follows c (scope1 word kind) text h = follows_scope1 c word kind text h
follows c (scope2 word kind name) text h = follows_scope2 c word kind name text h
follows c (up word name outer) text h = follows_up c word name outer text h
follows c (var0 word) text h = follows_var0 c word text h
follows c (var1 word kind) text h = follows_var1 c word kind text h
follows c (var2 word kind t size) text h = follows_var2 c word kind t size text h
follows c (var3 word kind t size id) text h = follows_var3 c word kind t size id text h
follows c (var4 word kind t size id name parts) text h = follows_var4 c word kind t size id name parts text h
follows c (ends word) text h = follows_ends c word text h
follows c (others word) text h = follows_others c word text h
follows c (vectors word digits) text h = follows_vectors c word digits text h

end_between : (end : ℕ) (c : Context) (b : Bool)
    → cond {A = Outcome} (may_end (open_place b)) (Ok (record { vars = c.vars; changes = c.changes }))
    (Err (fault_at end Syntax))
    ≡ cond {A = Outcome} b (Err (fault_at end Syntax)) (Ok (record { vars = c.vars; changes = c.changes }))
end_between end c true = refl
end_between end c false = refl

ends_alike : (end : ℕ) (c : Context) (p : Stand) → at_text_end end (at c p) ≡ at_end_of_text end c (since p)
ends_alike end c between = end_between end c c.declaring
ends_alike end c (skips word rest) = refl
ends_alike end c (remarks word rest) = refl
ends_alike end c (scope0 word) = refl
ends_alike end c (scope1 word kind) = refl
ends_alike end c (scope2 word kind name) = refl
ends_alike end c (up word name outer) = refl
ends_alike end c (var0 word) = refl
ends_alike end c (var1 word kind) = refl
ends_alike end c (var2 word kind t size) = refl
ends_alike end c (var3 word kind t size id) = refl
ends_alike end c (var4 word kind t size id name parts) = refl
ends_alike end c (ends word) = refl
ends_alike end c (others word) = refl
ends_alike end c (vectors word digits) = refl

-- the outcomes of the tokens behind, wherever the reader stands
abbrev Alike : ℕ → List Token → Type 0
Alike end tokens = (c : Context) (p : Stand) → Fits c p → reading end (at c p) tokens ≡ telling end c (since p) tokens

step_alike : (end : ℕ) (c : Context) (p : Stand) (token : Token) (tokens : List Token) → Alike end tokens
    → (j : Judgement) → Follows c p token.text j
    → behind (next (at c p) token.text) (λ after. reading end after tokens) token.at
    ≡ upon j (λ after. telling end after [] tokens) (telling end c (since p ++ token.text ∷ []) tokens) token.at
step_alike end c p token tokens rest (whole after) h = ap (λ s. behind s (λ after. reading end after tokens) token.at) h
    ∙ rest after between tt
step_alike end c p token tokens rest begins h =
    ap (λ s. behind s (λ after. reading end after tokens) token.at) h.goes ∙ rest c h.to h.fits
    ∙ ap (λ texts. telling end c texts tokens) h.tokens
step_alike end c p token tokens rest (breaks fault) h =
    ap (λ s. behind s (λ after. reading end after tokens) token.at) h

pub alike : (end : ℕ) (tokens : List Token) → Alike end tokens
alike end [] c p h = ends_alike end c p
alike end (token ∷ tokens) c p h = step_alike end c p token tokens (alike end tokens)
    (judged c (since p ++ token.text ∷ [])) (follows c p token.text h)

pub reading_is_telling : (end : ℕ) (tokens : List Token) → reading end start tokens ≡ telling end nothing_yet [] tokens
reading_is_telling end tokens = alike end tokens nothing_yet between tt
