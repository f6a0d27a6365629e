-- From how the parts of `run` end to the table of causes.
use Rattle.std.proofs.Common.{◌≡◌, ℕ, zero, suc, ◌<◌, ◌≤◌, List, [], ◌++◌, length, replicate}
use Rattle.std.proofs.Common.{refl, arith, subst, sym, Some, None}
use Rattle.std.proofs.Math.ListN.{length-replicate}
use Rattle.std.specs.Prelude.{Option, Result, Ok, Err, IfErr, IfSome}
use Rattle.psl_model.specs.Limits.{unit_text_limit}
use Rattle.mbac_io.specs.Device.{WhereTold, Keeps, TakesAll, TakesSome}
use Rattle.mbac_top.specs.declared.outcome.Cause.{Cause}
use Rattle.mbac_top.specs.declared.outcome.Cause.TheVariants.{Done, Usage, ReadFault, WriteFault, OutOfMemory}
use Rattle.mbac_top.specs.declared.outcome.Cause.TheVariants.{InputTooLong, Refused}
use Rattle.mbac_top.specs.Words.{IsCompile, limit_of}
use Rattle.mbac_top.specs.Words.Command.{compile}
use Rattle.mbac_top.specs.Call.{Change, Call, Contents, MayHave}
use Rattle.mbac_top.specs.Compile.{IsUnit}
use Rattle.mbac_top.specs.Causes.{IsCause, IsDue}
use Rattle.mbac_top.specs.inner.Ending.{IsWhyUncompiled, IsTextOf, IsWhyUnread, WritesText, ReadsOnly}

-- Bytes that a slot may have had.

-- some bytes came off the front
pub may_have-some : (before after : Option (List ℕ)) → TakesSome before after →
    (bytes : List ℕ) × IfSome after (λ _. before ≡ Some bytes)
may_have-some before None takes = ([], tt)
may_have-some before (Some rest) (bytes, takes) = (bytes ++ rest, takes)

-- these were all
pub may_have-all : (before after : Option (List ℕ)) (bytes : List ℕ) → TakesAll before after bytes →
    IfSome after (λ _. before ≡ Some bytes)
may_have-all before None bytes takes = tt
may_have-all before (Some rest) bytes takes = takes.1

-- where the slot tells nothing, it may have had too many
pub may_have-long : (limit : ℕ) (before after : Option (List ℕ)) →
    WhereTold before after (λ bytes. limit < length bytes) →
    (bytes : List ℕ) × IfSome after (λ _. before ≡ Some bytes) × (limit < length bytes)
may_have-long limit before None long =
    (replicate (suc limit) 0, tt, omega (arith, length-replicate {A = ℕ} (suc limit) 0))
may_have-long limit None (Some rest) long = absurd long
may_have-long limit (Some bytes) (Some rest) long = (bytes, refl, long)

-- nothing was taken
pub takes_some-none : (left : Option (List ℕ)) → TakesSome left left
takes_some-none None = ([], tt)
takes_some-none (Some bytes) = ([], refl)

pub takes_some-keeps : (before after : Option (List ℕ)) → Keeps before after → TakesSome before after
takes_some-keeps before None keeps = ([], tt)
takes_some-keeps before (Some bytes) keeps = ([], keeps)

-- where slot 0 alone was read, each slot lost bytes from its front alone
pub front_taken : (changes : ℕ → Change) → ReadsOnly changes 0 → (slot : ℕ) →
    TakesSome (changes slot).before (changes slot).after
front_taken changes reads zero = reads.front_taken
front_taken changes reads (suc slot) =
    let left = reads.others_left (suc slot) (omega arith) in
    takes_some-keeps (changes (suc slot)).before (changes (suc slot)).after left.0

pub keeps-same : (left : Option (List ℕ)) → Keeps left left
keeps-same None = tt
keeps-same (Some bytes) = refl

-- `compile_slot`: why there is no text, where the bytes were read whole

pub why_unread : (input : Change) (bytes : List ℕ) → MayHave input bytes → length bytes ≤ unit_text_limit →
    (cause : Cause) → IsWhyUncompiled bytes cause → IsWhyUnread input cause
why_unread input bytes may short OutOfMemory why = tt
why_unread input bytes may short Done why = absurd why
why_unread input bytes may short Usage why = absurd why
why_unread input bytes may short WriteFault why = absurd why
why_unread input bytes may short (ReadFault slot) why = absurd why
why_unread input bytes may short (InputTooLong slot) why = absurd why
why_unread input bytes may short (Refused r) why = (bytes, may, short, why)

pub why_unread-error : {T : Type 0} (r : Result T Cause) (input : Change) (bytes : List ℕ) → MayHave input bytes →
    length bytes ≤ unit_text_limit →
    IfErr r (IsWhyUncompiled bytes) → IfErr r (IsWhyUnread input)
why_unread-error (Ok text) input bytes may short why = tt
why_unread-error (Err cause) input bytes may short why = why_unread input bytes may short cause why

-- `answer`: the words say `compile`, which reads slot 0 alone

at_zero : (P : ℕ → Type 0) → P 0 → (slot : ℕ) → slot < 1 → P slot
at_zero P holds zero below = holds
at_zero P holds (suc slot) below = absurd (omega arith)

none_before : (bytes : Contents) (earlier : ℕ) → earlier < 0 → length (bytes earlier) ≤ limit_of compile earlier
none_before bytes earlier below = absurd (omega arith)

pub usage : (call : Call) → ¬ IsCompile call.words → IsCause call Usage
usage call none (compile, says) = none says

pub refused : (call : Call) → IsCompile call.words → (cause : Cause) → IsWhyUnread (call.slots 0) cause →
    IsCause call cause
refused call says (ReadFault slot) (at, (bytes, may), rose) =
    let first : IsCause call (ReadFault 0) = (
      compile,
      (λ _. bytes),
      says,
      at_zero (λ slot. MayHave (call.slots slot) bytes) may,
      (omega arith, none_before (λ _. bytes), rose),
    ) in subst (λ (s : ℕ). IsCause call (ReadFault s)) (sym at) first
refused call says (InputTooLong slot) (at, (bytes, may, long)) =
    let first : IsCause call (InputTooLong 0) = (
      compile,
      (λ _. bytes),
      says,
      at_zero (λ slot. MayHave (call.slots slot) bytes) may,
      (omega arith, none_before (λ _. bytes), long),
    ) in subst (λ (s : ℕ). IsCause call (InputTooLong s)) (sym at) first
refused call says OutOfMemory why = (compile, says)
refused call says Usage why = absurd why
refused call says WriteFault why = absurd why
refused call says Done why = absurd why
refused call says (Refused r) (bytes, may, short, why) = (
  compile,
  (λ _. bytes),
  says,
  at_zero (λ slot. MayHave (call.slots slot) bytes) may,
  (at_zero (λ slot. length bytes ≤ limit_of compile slot) short, why),
)

fits : (bytes : List ℕ) → length bytes ≤ unit_text_limit → IsUnit bytes → IsDue compile (λ _. bytes) Done
fits bytes short unit = (at_zero (λ slot. length bytes ≤ limit_of compile slot) short, unit)

pub written : (call : Call) → IsCompile call.words → (text : List ℕ) → IsTextOf (call.slots 0) text →
    (cause : Cause) → WritesText call.out text cause → IsCause call cause
written call says text (bytes, may, short, right) Done wrote = (
  compile,
  (λ _. bytes),
  says,
  at_zero (λ slot. MayHave (call.slots slot) bytes) may,
  (fits bytes short right.1.made.accepted, (text, right, wrote)),
)
written call says text (bytes, may, short, right) WriteFault (part, rose) = (
  compile,
  (λ _. bytes),
  says,
  at_zero (λ slot. MayHave (call.slots slot) bytes) may,
  (fits bytes short right.1.made.accepted, (text, right, part), rose),
)
written call says text is Usage wrote = absurd wrote
written call says text is (ReadFault slot) wrote = absurd wrote
written call says text is (InputTooLong slot) wrote = absurd wrote
written call says text is OutOfMemory wrote = absurd wrote
written call says text is (Refused r) wrote = absurd wrote
