-- Why a unit isn't compiled, told by a cause.
use Rattle.std.proofs.Common.{◌≡◌, ◌⊎◌, inl, inr, ℕ, List, subst, sym}
use Rattle.psl_model.specs.declared.refusals.Refusal.{Refusal}
use Rattle.psl_model.specs.declared.refusals.Refusal.TheVariants as refusal
use Rattle.unit_compile.specs.Refused.{IsRefused}
use Rattle.mbac_top.specs.declared.outcome.Cause.{Cause}
use Rattle.mbac_top.specs.inner.Ending.{IsCauseOf, IsWhyUncompiled}

pub why_uncompiled : (bytes : List ℕ) (r : Refusal) (cause : Cause) → (r ≡ refusal.OutOfMemory) ⊎ IsRefused bytes r →
    IsCauseOf r cause → IsWhyUncompiled bytes cause
why_uncompiled bytes r cause either (inl (memory, same)) = subst (IsWhyUncompiled bytes) (sym same) tt
why_uncompiled bytes r cause (inl memory) (inr (other, same)) = absurd (other memory)
why_uncompiled bytes r cause (inr is) (inr (other, same)) = subst (IsWhyUncompiled bytes) (sym same) (is, other)
