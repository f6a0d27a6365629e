-- One call after another: what they do together to the bytes and to the count of faults.
use Rattle.std.proofs.Common.{ℕ, ◌≤◌, ◌+◌, ◌-◌, List, [], ◌++◌, length, take, drop, Option, None, Some, inl, inr}
use Rattle.std.proofs.Common.{refl, sym, ◌∙◌, ap, subst, arith, append_assoc, append-nil, length-append, length-drop}
use Rattle.std.proofs.lemmas.List.{take_all, take-append-le}
use Rattle.std.proofs.Math.Seq.{take-add, take-append-add}
use Rattle.mbac_io.specs.Device.{Rose, Keeps, Takes, Appends, AppendsPart}

-- a count that doesn't fall, and then rises, has risen
pub rose-after : (first second third : ℕ) → first ≤ second → Rose second third → Rose first third
rose-after first second third keeps rises =
    elim rises [ inl above ↦ inl (omega arith) | inr last ↦ inr last ]

pub keeps-refl : (first : Option (List ℕ)) → Keeps first first
keeps-refl None = tt
keeps-refl (Some bytes) = refl

pub keeps-keeps : (first second third : Option (List ℕ)) → Keeps first second → Keeps second third → Keeps first third
keeps-keeps first second None _ _ = tt
keeps-keeps first second (Some bytes) earlier later =
    let P : Option (List ℕ) → Type 0 = λ told. Keeps first told in subst P later earlier

pub takes-nothing : (first : Option (List ℕ)) → Takes first first []
takes-nothing None = tt
takes-nothing (Some bytes) = refl

pub takes-takes : (first second third : Option (List ℕ)) (xs ys : List ℕ) → Takes first second xs →
    Takes second third ys → Takes first third (xs ++ ys)
takes-takes first second None xs ys _ _ = tt
takes-takes first second (Some rest) xs ys earlier later =
    let P : Option (List ℕ) → Type 0 = λ told. Takes first told xs in
    subst P later earlier ∙ ap (λ bytes. Some bytes) (sym (append_assoc xs ys rest))

pub appends-nothing : (first : Option (List ℕ)) → Appends first first []
appends-nothing None = tt
appends-nothing (Some bytes) = sym (append-nil bytes)

pub appends-keeps : (first second third : Option (List ℕ)) (xs : List ℕ) → Appends first second xs →
    Keeps second third → Appends first third xs
appends-keeps first second None xs _ _ = tt
appends-keeps first second (Some bytes) xs earlier later =
    let P : Option (List ℕ) → Type 0 = λ told. Appends first told xs in subst P later earlier

pub appends-appends : (first second third : Option (List ℕ)) (xs ys : List ℕ) → Appends first second xs →
    Appends second third ys → Appends first third (xs ++ ys)
appends-appends first second None xs ys _ _ = tt
appends-appends first None (Some after) xs ys _ later = absurd later
appends-appends None (Some between) (Some after) xs ys earlier _ = absurd earlier
appends-appends (Some before) (Some between) (Some after) xs ys earlier later =
    later ∙ (ap (λ bytes. bytes ++ ys) earlier ∙ append_assoc before xs ys)

-- the first bytes, and then more of the rest of the text
pub appends-further : (first second third : Option (List ℕ)) (written more : ℕ) (bytes : List ℕ) →
    Appends first second (take written bytes) →
    Appends second third (take more (take (length bytes - written) (drop written bytes))) →
    Appends first third (take (written + more) bytes)
appends-further first second third written more bytes earlier later =
    let fits : length (drop written bytes) ≤ length bytes - written = omega (arith, length-drop written bytes) in
    let whole = take_all (length bytes - written) (drop written bytes) fits in
    let Part : List ℕ → Type 0 = λ rest. Appends second third (take more rest) in
    let All : List ℕ → Type 0 = λ all. Appends first third all in
    subst All (sym (take-add written more bytes))
    (appends-appends first second third (take written bytes) (take more (drop written bytes)) earlier
    (subst Part whole later))

-- a part of the first piece is a part of the text
pub part-first : (first second : Option (List ℕ)) (xs ys : List ℕ) →
    AppendsPart first second xs → AppendsPart first second (xs ++ ys)
part-first first second xs ys (count, below, part) =
    let same = take-append-le count xs ys (omega arith) in
    let P : List ℕ → Type 0 = λ bytes. Appends first second bytes in
    (count, omega (arith, length-append xs ys), subst P (sym same) part)

-- the first piece and a part of the next are a part of the text
pub part-next : (first second third : Option (List ℕ)) (xs ys : List ℕ) →
    Appends first second xs → AppendsPart second third ys → AppendsPart first third (xs ++ ys)
part-next first second third xs ys whole (count, below, part) =
    let P : List ℕ → Type 0 = λ bytes. Appends first third bytes in
    let both = appends-appends first second third xs (take count ys) whole part in
    (length xs + count, omega (arith, length-append xs ys), subst P (sym (take-append-add xs ys count)) both)
