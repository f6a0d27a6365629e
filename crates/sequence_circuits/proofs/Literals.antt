-- Conjunctions of literals, in one cycle.
use Rattle.std.proofs.Common.{◌≡◌, ◌≢◌, ℕ, zero, suc, ◌+◌, ◌<◌, Bool, true, false, List, [], ◌∷◌, ◌++◌, length, take}
use Rattle.std.proofs.Common.{get_or, ◌↔◌, refl, sym, ◌∙◌, subst, arith}
use Rattle.std.specs.List.{AllByRecursion}
use Rattle.std.proofs.lemmas.List.{take_more}
use Rattle.auto_core.specs.declared.labels.Literal.{Literal}
use Rattle.auto_core.specs.Machine.{Passes}
use Rattle.circuit_core.specs.declared.nodes.Net.{Net}
use Rattle.circuit_core.specs.Run.{Run, On}
use Rattle.sequence_circuits.specs.Guards.{numbers, is_on, values_at}
use Rattle.sequence_circuits.specs.Detection.{letter_at}
use Rattle.sequence_circuits.proofs.Nets.{no_net, number_of, on_same}

is_on-true : (x : ℕ) → (x ≢ 0) ↔ (is_on x ≡ true)
is_on-true zero = ((λ h. absurd (h refl)), (λ e. absurd (cc)))
is_on-true (suc x) = ((λ h. refl), (λ e f. omega arith))

is_on-false : (x : ℕ) → ¬ (x ≢ 0) ↔ (is_on x ≡ false)
is_on-false zero = ((λ h. refl), (λ e h. h refl))
is_on-false (suc x) = ((λ h. absurd (h (λ f. omega arith))), (λ e. absurd (cc)))

pub literal_on : (run : Run) (n : ℕ) (guards : List Net) (symbol : ℕ) (positive : Bool) → positive ≡ true
    → On (run (get_or guards symbol no_net).0) n ↔ (values_at run (numbers guards) n symbol ≡ positive)
literal_on run n guards symbol positive sign =
    let t = is_on-true (run (get_or (numbers guards) symbol 0) n) in (
      (λ on. t.0 (on_same run n _ _ (number_of guards symbol) on) ∙ sym sign),
      (λ e. on_same run n _ _ (sym (number_of guards symbol)) (t.1 (e ∙ sign))),
    )

pub literal_off : (run : Run) (n : ℕ) (guards : List Net) (symbol : ℕ) (positive : Bool) (negated : ℕ)
    → positive ≡ false → On (run negated) n ↔ ¬ On (run (get_or guards symbol no_net).0) n
    → On (run negated) n ↔ (values_at run (numbers guards) n symbol ≡ positive)
literal_off run n guards symbol positive negated sign nots =
    let f = is_on-false (run (get_or (numbers guards) symbol 0) n) in (
      (λ on. f.0 (λ there. nots.0 on (on_same run n _ _ (sym (number_of guards symbol)) there)) ∙ sym sign),
      (λ e. nots.1 (λ there. f.1 (e ∙ sign) (on_same run n _ _ (number_of guards symbol) there))),
    )

all_push : {X : Type 0} (P : X → Type 0) (xs : List X) (x : X)
    → AllByRecursion P (xs ++ x ∷ []) ↔ (AllByRecursion P xs × P x)
all_push P [] x = ((λ h. (tt, h.0)), (λ h. (h.1, tt)))
all_push P (y ∷ xs) x =
    let r = all_push P xs x in
    ((λ h. let q = r.0 h.1 in ((h.0, q.0), q.1)), (λ h. (h.0.0, r.1 (h.0.1, h.1))))

pub label_more : (run : Run) (n : ℕ) (guards : List Net) (literals : List Literal) (i : ℕ) (d : Literal)
    (from before now : ℕ) → i < length literals
    → On (run before) n ↔ (On (run from) n × Passes (take i literals) (letter_at run (numbers guards) n))
    → On (run now) n ↔ (On (run before) n
    × (values_at run (numbers guards) n (get_or literals i d).symbol ≡ (get_or literals i d).positive))
    → On (run now) n ↔ (On (run from) n × Passes (take (i + 1) literals) (letter_at run (numbers guards) n))
label_more run n guards literals i d from before now lt befores nows =
    let more = take_more literals i d lt in
    let P = λ (l : Literal). values_at run (numbers guards) n l.symbol ≡ l.positive in
    let push = all_push P (take i literals) (get_or literals i d) in (
      (λ on. let a = nows.0 on in let b = befores.0 a.0 in
          (b.0, subst (λ (ls : List Literal). AllByRecursion P ls) (sym more) (push.1 (b.1, a.1)))),
      (λ h. let q = push.0 (subst (λ (ls : List Literal). AllByRecursion P ls) more h.1) in
          nows.1 (befores.1 (h.0, q.0), q.1)),
    )
