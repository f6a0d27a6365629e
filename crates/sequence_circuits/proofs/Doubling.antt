-- The nets of all valuations of some symbols, which double with each symbol.
use Rattle.std.proofs.Common.{◌≡◌, ℕ, suc, ◌+◌, ◌-◌, ◌*◌, ◌^◌, ◌<◌, Bool, true, false, List, [], ◌∷◌, ◌++◌, length}
use Rattle.std.proofs.Common.{take, get_or, inl, inr, ◌⊎◌, ◌↔◌, refl, sym, ap, ◌∙◌, subst, arith}
use Rattle.std.specs.Prelude.{if◌then◌else◌}
use Rattle.std.proofs.lemmas.Bool.{cases_lt}
use Rattle.std.proofs.lemmas.List.{take_more, length-take-le}
use Rattle.circuit_core.specs.declared.nodes.Net.{Net}
use Rattle.circuit_core.specs.Run.{Run, On}
use Rattle.sequence_circuits.specs.Guards.{values_at}
use Rattle.sequence_circuits.specs.inner.Moves.{move_number}
use Rattle.sequence_circuits.specs.Guards.{numbers}
use Rattle.sequence_circuits.specs.inner.Nets.{stream_at}
use Rattle.sequence_circuits.proofs.Nets.{on_same}

abbrev bit : Bool → ℕ
bit b = if b then 1 else 0

abbrev pub when : Bool → ℕ → ℕ
when false x = 0
when true x = x

pub power : (k : ℕ) → 2 ^ (k + 1) ≡ 2 * 2 ^ k
power k = let e : k + 1 ≡ suc k = omega arith in let p : 2 ^ suc k ≡ 2 * 2 ^ k = omega arith in ap (λ (j : ℕ). 2 ^ j)
    e ∙ p

pub number_append : (values : ℕ → Bool) (ss : List ℕ) (s : ℕ) → move_number values (ss ++ s ∷ []) ≡ move_number values
    ss + when (values s) (2 ^ length ss)
number_append values [] s = first (values s)
  where
    first : (b : Bool) → bit b + 2 * 0 ≡ 0 + when b 1
    first true = omega arith
    first false = omega arith
number_append values (t ∷ ss) s = more (values s) (bit (values t)) (move_number values (ss ++ s ∷ []))
    (move_number values ss) (length ss) (number_append values ss s)
  where
    more : (b : Bool) (low x y k : ℕ) → x ≡ y + when b (2 ^ k) → low + 2 * x ≡ (low + 2 * y) + when b (2 ^ suc k)
    more true low x y k r = let p : 2 ^ suc k ≡ 2 * 2 ^ k = omega arith in omega arith
    more false low x y k r = omega arith

pub number_below : (values : ℕ → Bool) (ss : List ℕ) → move_number values ss < 2 ^ length ss
number_below values [] = omega arith
number_below values (s ∷ ss) = below (values s) (move_number values ss) (length ss) (number_below values ss)
  where
    below : (b : Bool) (x k : ℕ) → x < 2 ^ k → bit b + 2 * x < 2 ^ suc k
    below true x k r = let p : 2 ^ suc k ≡ 2 * 2 ^ k = omega arith in omega arith
    below false x k r = let p : 2 ^ suc k ≡ 2 * 2 ^ k = omega arith in omega arith

pub doubled : (Live Guard : Type 0) (Old New : ℕ → Type 0) (size m : ℕ) (b : Bool) → m < size → Guard ↔ (b ≡ true) →
    ((v : ℕ) → v < size → Old v ↔ (Live × (m ≡ v)))
    → ((v : ℕ) → v < size → New v ↔ (Old v × ¬ Guard)) → ((v : ℕ) → v < size → New (size + v) ↔ (Old v × Guard)) →
    (v : ℕ) → v < 2 * size → New v ↔ (Live × (m + when b size ≡ v))
doubled Live Guard Old New size m true lt guard olds offs ons v below =
    elim (cases_lt v size) [
      | inl low ↦ ((λ h. absurd (((offs v low).0 h).1 (guard.1 refl))), (λ p. absurd (omega (arith, p.1))))
      | inr high ↦ (let w : ℕ = v - size in
          let e : size + w ≡ v = omega arith in
          let in_ : w < size = omega arith in (
            (λ h. let p = (ons w in_).0 (subst New (sym e) h) in let q = (olds w in_).0 p.0 in
                (q.0, omega (arith, q.1))),
            (λ p. subst New e ((ons w in_).1 ((olds w in_).1 (p.0, omega (arith, p.1)), guard.1 refl))),
          ))
    ]
doubled Live Guard Old New size m false lt guard olds offs ons v below =
    elim (cases_lt v size) [
      | inl low ↦ (
        (λ h. let p = (offs v low).0 h in let q = (olds v low).0 p.0 in (q.0, omega (arith, q.1))),
        (λ p. (offs v low).1 (
          (olds v low).1 (p.0, omega (arith, p.1)),
          (λ g. let e : false ≡ true = guard.0 g in absurd (cc)),
        )),
      )
      | inr high ↦ (let w : ℕ = v - size in
          let e : size + w ≡ v = omega arith in
          let in_ : w < size = omega arith in (
            (λ h. let e2 : false ≡ true = guard.0 ((ons w in_).0 (subst New (sym e) h)).1 in absurd (cc)),
            (λ p. absurd (omega (arith, p.1))),
          ))
    ]

pub valuation_first : (run : Run) (n : ℕ) (live : Net) (nets : List Net) (values : ℕ → Bool) (v : ℕ) → nets ≡ live ∷
    [] → v < 1 → On (stream_at run (numbers nets) v) n ↔ (On (run live.0) n × (0 ≡ v))
valuation_first run n live nets values v is lt =
    let zero_ : v ≡ 0 = omega arith in
    let e : get_or (numbers nets) v 0 ≡ live.0 = ap (λ (ks : List Net). get_or (numbers ks) v 0) is ∙ ap
    (λ (t : ℕ). get_or (numbers (live ∷ [])) t 0) zero_ in
    ((λ on. (on_same run n _ _ e on, sym zero_)), (λ p. on_same run n _ _ (sym e) p.0))

pub valuation_more : (run : Run) (n : ℕ) (guards symbols : List ℕ) (j live guard : ℕ) (old new : List Net) → j <
    length symbols → length old ≡ 2 ^ j → On (run guard) n ↔ (values_at run guards n (get_or symbols j 0) ≡ true)
    → ((v : ℕ) → v < 2 ^ j → On (stream_at run (numbers old) v) n ↔
    (On (run live) n × (move_number (values_at run guards n) (take j symbols) ≡ v)))
    → ((v : ℕ) → v < length old → On (stream_at run (numbers new) v) n ↔
    (On (stream_at run (numbers old) v) n × ¬ On (run guard) n))
    → ((v : ℕ) → v < length old → On (stream_at run (numbers new) (length old + v)) n ↔
    (On (stream_at run (numbers old) v) n × On (run guard) n))
    → (v : ℕ) → v < 2 ^ (j + 1) → On (stream_at run (numbers new) v) n ↔
    (On (run live) n × (move_number (values_at run guards n) (take (j + 1) symbols) ≡ v))
valuation_more run n guards symbols j live guard old new lt size known olds offs ons v below =
    let values = values_at run guards n in
    let m : ℕ = move_number values (take j symbols) in
    let counted : length (take j symbols) ≡ j = length-take-le j symbols (omega arith) in
    let inside : m < 2 ^ j = subst (λ (k : ℕ). m < 2 ^ k) counted (number_below values (take j symbols)) in
    let more : move_number values (take (j + 1) symbols) ≡ m + when (values (get_or symbols j 0)) (2 ^ j) =
    ap (λ (ss : List ℕ). move_number values ss) (take_more symbols j 0 lt) ∙ number_append values (take j symbols)
    (get_or symbols j 0) ∙ ap (λ (k : ℕ). m + when (values (get_or symbols j 0)) (2 ^ k)) counted in
    let p = power j in
    subst (λ (k : ℕ). On (stream_at run (numbers new) v) n ↔ (On (run live) n × (k ≡ v))) (sym more)
    (doubled (On (run live) n) (On (run guard) n) (λ w. On (stream_at run (numbers old) w) n)
    (λ w. On (stream_at run (numbers new) w) n) (2 ^ j) m (values (get_or symbols j 0)) inside known olds
    (λ w inside_. offs w (omega arith))
    (λ w inside_. subst (λ (k : ℕ). On (stream_at run (numbers new) (k + w)) n ↔
    (On (stream_at run (numbers old) w) n × On (run guard) n)) size (ons w (omega arith)))
    v (omega arith))

-- some place below i, after what was there first
pub below_more : (i : ℕ) (P : ℕ → Type 0) (first before now here : Type 0)
    → before ↔ (first ⊎ ((v : ℕ) × (v < i) × P v)) → now ↔ (before ⊎ here) → here ↔ P i
    → now ↔ (first ⊎ ((v : ℕ) × (v < i + 1) × P v))
below_more i P first before now here befores nows is = (
  (λ h. elim (nows.0 h) [
    | inl b ↦ elim (befores.0 b) [ inl f ↦ inl f | inr x ↦ inr (x.0, omega (arith, x.1), x.2) ]
    | inr y ↦ inr (i, omega arith, is.0 y)
  ]),
  (λ h. elim h [
    | inl f ↦ nows.1 (inl (befores.1 (inl f)))
    | inr x ↦ nows.1 (elim (cases_lt x.0 i) [
      | inl lt ↦ inl (befores.1 (inr (x.0, lt, x.2)))
      | inr ge ↦ inr (is.1 (subst P (omega (arith, x.1)) x.2))
    ])
  ]),
)
