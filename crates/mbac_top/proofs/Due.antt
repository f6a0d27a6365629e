-- What the bytes of slot 0 demand of `compile` is one answer, and so each answer that says why it comes meets it.
use Rattle.std.proofs.Common.{◌≡◌, ℕ, zero, suc, ◌<◌, ◌≤◌, ◌⊎◌, List, length, refl, ap, arith, subst, sym, ◌∙◌}
use Rattle.std.proofs.Common.{Some, None, inl, inr}
use Rattle.std.specs.Prelude.{◌≢◌, Option, IfSome, IsSome}
use Rattle.psl_model.specs.Limits.{unit_text_limit}
use Rattle.psl_model.specs.declared.refusals.Refusal.{Refusal}
use Rattle.psl_model.specs.declared.refusals.Refusal.TheVariants as refusal
use Rattle.unit_compile.specs.Made.{IsAccepted}
use Rattle.unit_compile.specs.Refused.{IsRefused}
use Rattle.unit_compile.specs.Refused as compiler
use Rattle.mbac_top.specs.declared.outcome.Cause.{Cause}
use Rattle.mbac_top.specs.declared.outcome.Cause.TheVariants.{Done, Usage, ReadFault, WriteFault, OutOfMemory}
use Rattle.mbac_top.specs.declared.outcome.Cause.TheVariants.{InputTooLong, Refused}
use Rattle.mbac_top.specs.Words.{slots_of}
use Rattle.mbac_top.specs.Words.Command.{compile}
use Rattle.mbac_top.specs.Call.{Call, Contents, MayHave, Had}
use Rattle.mbac_top.specs.Compile.{IsUnit, IsRefusedUnit, IsOtherFault}
use Rattle.mbac_top.specs.Causes.{IsCause, IsDue, slots_for, ComesFor, MeetsBytes}

-- What the laws of the compiler say: a text is refused for one reason at most, but that any fault of the grammar may be
-- told for another; and none is refused that is compiled.
abbrev pub OneReason : Type 0
OneReason = (text : List ℕ) (due r : Refusal) → IsRefused text due → IsRefused text r → compiler.ComesFor text due r

abbrev pub NotBoth : Type 0
NotBoth = (text : List ℕ) (r : Refusal) → IsRefused text r → IsAccepted text → ⊥

-- the same answer, or another fault of the grammar
abbrev IsSame : List ℕ → (due answer : Cause) → Type 0
IsSame bytes due answer = (answer ≡ due) ⊎ IsOtherFault bytes due answer

reason : (bytes : List ℕ) (due r : Refusal) → r ≢ refusal.OutOfMemory → compiler.ComesFor bytes due r →
    IsSame bytes (Refused due) (Refused r)
reason bytes due r told (inl memory) = absurd (told memory)
reason bytes due r told (inr (inl same)) = inl (ap (λ q. Refused q) same)
reason bytes due r told (inr (inr faults)) = inr (record {
  wanted = due;
  due_is = refl;
  wanted_fault = faults.0;
  told = r;
  answer_is = refl;
  told_fault = faults.1;
})

-- what is due of the bytes of slot 0
abbrev Stands : List ℕ → Cause → Type 0
Stands bytes (InputTooLong slot) = (slot ≡ 0) × (unit_text_limit < length bytes)
Stands bytes Done = (length bytes ≤ unit_text_limit) × IsUnit bytes
Stands bytes Usage = ⊥
Stands bytes (ReadFault slot) = ⊥
Stands bytes OutOfMemory = ⊥
Stands bytes WriteFault = ⊥
Stands bytes (Refused r) = (length bytes ≤ unit_text_limit) × IsRefusedUnit bytes (Refused r)

stands-due : (bytes : Contents) (due : Cause) → IsDue compile bytes due → Stands (bytes 0) due
stands-due bytes (InputTooLong zero) (reads, fit, long) = (refl, long)
stands-due bytes (InputTooLong (suc slot)) (reads, fit, long) = absurd (omega (arith, reads))
stands-due bytes Done (fit, unit) = (fit 0 (omega arith), unit)
stands-due bytes Usage due = absurd due
stands-due bytes (ReadFault slot) due = absurd due
stands-due bytes OutOfMemory due = absurd due
stands-due bytes WriteFault due = absurd due
stands-due bytes (Refused r) (fit, refused) = (fit 0 (omega arith), refused)

long_short : (bytes : List ℕ) → unit_text_limit < length bytes → length bytes ≤ unit_text_limit → ⊥
long_short bytes long short = omega (arith, long, short)

-- slot 0 decides on each answer that is due
first_decides : (due : Cause) → 0 < slots_for compile due
first_decides (InputTooLong slot) = omega arith
first_decides Done = omega arith
first_decides Usage = omega arith
first_decides (ReadFault slot) = omega arith
first_decides WriteFault = omega arith
first_decides OutOfMemory = omega arith
first_decides (Refused r) = omega arith

-- what a slot tells is what it may have had
told : (before after : Option (List ℕ)) (bytes others : List ℕ) → IsSome after → before ≡ Some bytes →
    IfSome after (λ _. before ≡ Some others) → bytes ≡ others
told before None bytes others some had may = cc
told before (Some rest) bytes others some had may = cc

-- both sides at once: the answer stands on the bytes that slot 0 tells
answer_stands : (call : Call) (bytes others : Contents) (due answer : Cause) →
    ((slot : ℕ) → slot < slots_for compile due → Had (call.slots slot) (bytes slot)) →
    ((slot : ℕ) → slot < slots_of compile → MayHave (call.slots slot) (others slot)) → Stands (others 0) answer →
    Stands (bytes 0) answer
answer_stands call bytes others due answer had may stands =
    let first = had 0 (first_decides due) in
    let same =
    told (call.slots 0).before (call.slots 0).after (bytes 0) (others 0) first.0 first.1 (may 0 (omega arith)) in
    subst (λ (b : List ℕ). Stands b answer) (sym same) stands

module _ (one : OneReason) (not_both : NotBoth) where
  once : (bytes : List ℕ) (due answer : Cause) → Stands bytes due → Stands bytes answer → IsSame bytes due answer
  once bytes (InputTooLong slot) (InputTooLong last) (at, long) (is, _) = inl (ap (λ s. InputTooLong s) (is ∙ sym at))
  once bytes (InputTooLong slot) Done (at, long) (short, _) = absurd (long_short bytes long short)
  once bytes (InputTooLong slot) (Refused r) (at, long) (short, _) = absurd (long_short bytes long short)
  once bytes (InputTooLong slot) _ stands absent = absurd absent
  once bytes Done (InputTooLong slot) (short, _) (at, long) = absurd (long_short bytes long short)
  once bytes Done Done _ _ = inl refl
  once bytes Done (Refused r) (_, unit) (_, (refused, told)) = absurd (not_both bytes r refused unit)
  once bytes Done _ stands absent = absurd absent
  once bytes (Refused r) (InputTooLong slot) (short, _) (at, long) = absurd (long_short bytes long short)
  once bytes (Refused r) Done (_, (refused, told)) (_, unit) = absurd (not_both bytes r refused unit)
  once bytes (Refused r) (Refused q) (_, (due, _)) (_, (refused, told)) =
      reason bytes r q told (one bytes r q due refused)
  once bytes (Refused r) _ stands absent = absurd absent
  once bytes _ _ absent _ = absurd absent

  -- the answer that stands is the one that is due, or another fault of the grammar
  same_answer : (call : Call) (bytes others : Contents) (due answer : Cause) →
      ((slot : ℕ) → slot < slots_for compile due → Had (call.slots slot) (bytes slot)) →
      ((slot : ℕ) → slot < slots_of compile → MayHave (call.slots slot) (others slot)) →
      IsDue compile bytes due → IsDue compile others answer → IsSame (bytes 0) due answer
  same_answer call bytes others due answer had may demand is =
      let stands = answer_stands call bytes others due answer had may (stands-due others answer is) in
      once (bytes 0) due answer (stands-due bytes due demand) stands

  comes : (bytes : Contents) (due answer : Cause) → IsSame (bytes 0) due answer → ComesFor compile bytes due answer
  comes bytes due answer (inl same) = inl same
  comes bytes due answer (inr other) = inr (inr (inr (inr other)))

  -- where `Done` stands nothing else is due
  due_done : (bytes : List ℕ) (due : Cause) → IsSame bytes due Done → due ≡ Done
  due_done bytes due (inl same) = sym same
  due_done bytes due (inr other) = absurd (cc (other.answer_is))

  pub meets : (call : Call) (answer : Cause) → IsCause call answer → MeetsBytes call answer
  meets call Usage is compile bytes due says had demand = absurd (is (compile, says))
  meets call OutOfMemory is compile bytes due says had demand = inr (inl refl)
  meets call (ReadFault slot) (compile, others, _, may, (reads, fit, rose)) compile bytes due says had demand =
      inr (inr (inl (slot, omega (arith, reads, first_decides due), refl)))
  meets call Done (compile, others, _, may, (is, wrote)) compile bytes due says had demand =
      comes bytes due Done (same_answer call bytes others due Done had may demand is)
  meets call WriteFault (compile, others, _, may, (is, wrote, rose)) compile bytes due says had demand =
      let same = same_answer call bytes others due Done had may demand is in
      inr (inr (inr (inl (due_done (bytes 0) due same, refl))))
  meets call (InputTooLong slot) (compile, others, _, may, is) compile bytes due says had demand =
      comes bytes due (InputTooLong slot) (same_answer call bytes others due (InputTooLong slot) had may demand is)
  meets call (Refused r) (compile, others, _, may, is) compile bytes due says had demand =
      comes bytes due (Refused r) (same_answer call bytes others due (Refused r) had may demand is)
