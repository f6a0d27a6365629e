-- Items that were read, and then the later ones.
use Rattle.std.proofs.Common.{◌≡◌, ℕ, suc, ◌+◌, ◌-◌, ◌<◌, ◌≤◌, List, [], ◌∷◌, ◌++◌, refl, ap, sym, ◌∙◌, arith, Some}
use Rattle.std.proofs.Common.{None, append_assoc, append-nil}
use Rattle.std.specs.Prelude.{Option, codes}
use Rattle.verilog_reader.specs.inner.Pieces.{◌>>=◌, after_text}
use Rattle.psl_model.specs.declared.names.Signal.{Signal}
use Rattle.verilog_reader.specs.declared.errors.Stop.{Stop}
use Rattle.verilog_reader.specs.inner.Answers.{Halts}
use Rattle.verilog_reader.proofs.Steps.{stopped, stops_as}
use Rattle.verilog_reader.specs.inner.Lines.{State, port_name_at, one_bit, Declared, begun, declared, port_names_with}
use Rattle.verilog_reader.specs.inner.Lines.{port_names_at, declaration_with, declarations_at}

abbrev pub continued : {X : Type 0} → List X → Option (List X × List ℕ) → Option (List X × List ℕ)
continued done later = later >>= λ m. Some (done ++ m.0, m.1)

pub continued_none : {X : Type 0} (later : Option (List X × List ℕ)) → continued [] later ≡ later
continued_none None = refl
continued_none (Some m) = refl

pub continued_more : {X : Type 0} (done : List X) (x : X) (later : Option (List X × List ℕ)) →
    continued done (begun x later) ≡ continued (done ++ x ∷ []) later
continued_more done x None = refl
continued_more {X} done x (Some m) = ap (λ (xs : List X). Some (xs, m.1)) (sym (append_assoc done (x ∷ []) m.0))

pub continued_all : {X : Type 0} (done : List X) (rest : List ℕ) → continued done (Some ([], rest)) ≡ Some (done, rest)
continued_all {X} done rest = ap (λ (xs : List X). Some (xs, rest)) (append-nil done)

-- the ports' names, one after the other

pub names_step : (n i : ℕ) (bytes : List ℕ) → i < n →
    port_names_at (n - i) bytes ≡ port_names_with (port_names_at (n - (i + 1)))
    (after_text (codes "mbac_fail);\n") bytes) bytes
names_step n i bytes lt =
    let more : n - i ≡ suc (n - (i + 1)) = omega arith in
    ap (λ (k : ℕ). port_names_at k bytes) more

pub names_end : (n i : ℕ) (bytes : List ℕ) → n ≤ i → port_names_at (n - i) bytes ≡ None
names_end n i bytes le =
    let none : n - i ≡ 0 = omega arith in
    ap (λ (k : ℕ). port_names_at k bytes) none

-- registers or wires that were read, and then the later ones

abbrev pub pending : {X : Type 0} → List X → Declared X → Declared X
pending done later = later >>= λ m. Some ((done ++ m.0.0, m.0.1), m.1)

pub pending_none : {X : Type 0} (later : Declared X) → pending [] later ≡ later
pending_none None = refl
pending_none (Some m) = refl

pub pending_more : {X : Type 0} (done : List X) (x : X) (later : Declared X) → pending done (declared x later)
    ≡ pending (done ++ x ∷ []) later
pending_more done x None = refl
pending_more {X} done x (Some m) =
    ap (λ (xs : List X). Some ((xs, m.0.1), m.1)) (sym (append_assoc done (x ∷ []) m.0.0))

pub pending_all : {X : Type 0} (done : List X) (state : State) (rest : List ℕ) → pending done (Some (([], state), rest))
    ≡ Some ((done, state), rest)
pending_all {X} done state rest = ap (λ (xs : List X). Some ((xs, state), rest)) (append-nil done)

module _ {X : Type 0} (word : List ℕ) (item : State → ℕ → List ℕ → Option ((X × State) × List ℕ)) where
  pub declarations_step : (n i : ℕ) (state : State) (bytes : List ℕ) → i < n →
      declarations_at word item (n - i) state i bytes ≡ declaration_with word item
      (λ next rest. declarations_at word item (n - (i + 1)) next (i + 1) rest) state i (after_text word bytes) bytes
  declarations_step n i state bytes lt =
      let more : n - i ≡ suc (n - (i + 1)) = omega arith in
      let next : suc i ≡ i + 1 = omega arith in
      ap (λ (k : ℕ). declarations_at word item k state i bytes) more
      ∙ ap (λ (k : ℕ). declaration_with word item (λ s rest. declarations_at word item (n - (i + 1)) s k rest) state i
      (after_text word bytes) bytes) next

  pub declarations_end : (n i : ℕ) (state : State) (bytes : List ℕ) → n ≤ i →
      declarations_at word item (n - i) state i bytes ≡ Some (([], state), bytes)
  declarations_end n i state bytes le =
      let none : n - i ≡ 0 = omega arith in
      ap (λ (k : ℕ). declarations_at word item k state i bytes) none

-- the exits of the loops

pub names_found : (whole : Option (List Signal × List ℕ)) (done : List Signal) (n i : ℕ) (rest after : List ℕ) → i < n →
    continued done (port_names_at (n - i) rest) ≡ whole → after_text (codes "mbac_fail);\n") rest ≡ Some after →
    whole ≡ Some (done, after)
names_found whole done n i rest after lt so_far here =
    sym so_far
    ∙ ap (continued done) (names_step n i rest lt
    ∙ ap (λ (o : Option (List ℕ)). port_names_with (port_names_at (n - (i + 1))) o rest) here)
    ∙ continued_all done after

names_next : (done : List Signal) (n i : ℕ) (rest : List ℕ) → i < n → after_text (codes "mbac_fail);\n") rest ≡ None →
    continued done (port_names_at (n - i) rest)
    ≡ continued done (port_name_at rest >>= λ name. begun (one_bit name.0) (port_names_at (n - (i + 1)) name.1))
names_next done n i rest lt none =
    ap (continued done) (names_step n i rest lt
    ∙ ap (λ (o : Option (List ℕ)). port_names_with (port_names_at (n - (i + 1))) o rest) none)

pub names_stopped : (stop : Stop) (whole : Option (List Signal × List ℕ)) (done : List Signal) (n i : ℕ)
    (rest : List ℕ) → i < n →
    continued done (port_names_at (n - i) rest) ≡ whole → after_text (codes "mbac_fail);\n") rest ≡ None →
    Halts stop (port_name_at rest) → Halts stop whole
names_stopped stop whole done n i rest lt so_far none halts =
    stops_as stop (continued done
    (port_name_at rest >>= λ name. begun (one_bit name.0) (port_names_at (n - (i + 1)) name.1))) whole
    (sym so_far ∙ names_next done n i rest lt none)
    (stopped stop (port_name_at rest >>= λ name. begun (one_bit name.0) (port_names_at (n - (i + 1)) name.1))
    (λ m. Some (done ++ m.0, m.1))
    (stopped stop (port_name_at rest) (λ name. begun (one_bit name.0) (port_names_at (n - (i + 1)) name.1)) halts))

pub names_more : (whole : Option (List Signal × List ℕ)) (done : List Signal) (n i : ℕ) (rest name after : List ℕ) →
    i < n →
    continued done (port_names_at (n - i) rest) ≡ whole → after_text (codes "mbac_fail);\n") rest ≡ None →
    port_name_at rest ≡ Some (name, after) →
    continued (done ++ one_bit name ∷ []) (port_names_at (n - (i + 1)) after) ≡ whole
names_more whole done n i rest name after lt so_far none here =
    sym (continued_more done (one_bit name) (port_names_at (n - (i + 1)) after))
    ∙ sym (ap
    (λ (o : Option (List ℕ × List ℕ)). continued done
    (o >>= λ m. begun (one_bit m.0) (port_names_at (n - (i + 1)) m.1))) here)
    ∙ sym (names_next done n i rest lt none) ∙ so_far

module _ {X : Type 0} (word : List ℕ) (item : State → ℕ → List ℕ → Option ((X × State) × List ℕ)) (whole : Declared X)
    (done : List X) (n i : ℕ) (state : State) (rest : List ℕ) where
  pub declared_found : i < n → pending done (declarations_at word item (n - i) state i rest) ≡ whole →
      after_text word rest ≡ None → whole ≡ Some ((done, state), rest)
  declared_found lt so_far none =
      sym so_far
      ∙ ap (pending done) (declarations_step word item n i state rest lt
      ∙ ap (λ (o : Option (List ℕ)). declaration_with word item
      (λ next r. declarations_at word item (n - (i + 1)) next (i + 1) r) state i o rest) none)
      ∙ pending_all done state rest

  declared_next : (start : List ℕ) → i < n → after_text word rest ≡ Some start →
      pending done (declarations_at word item (n - i) state i rest)
      ≡ pending done (item state i start >>= λ x. declared x.0.0
      (declarations_at word item (n - (i + 1)) x.0.1 (i + 1) x.1))
  declared_next start lt some =
      ap (pending done) (declarations_step word item n i state rest lt
      ∙ ap (λ (o : Option (List ℕ)). declaration_with word item
      (λ next r. declarations_at word item (n - (i + 1)) next (i + 1) r) state i o rest) some)

  pub declared_stopped : (stop : Stop) (start : List ℕ) → i < n →
      pending done (declarations_at word item (n - i) state i rest) ≡ whole → after_text word rest ≡ Some start →
      Halts stop (item state i start) → Halts stop whole
  declared_stopped stop start lt so_far some halts =
      stops_as stop (pending done
      (item state i start >>= λ x. declared x.0.0 (declarations_at word item (n - (i + 1)) x.0.1 (i + 1) x.1)))
      whole
      (sym so_far ∙ declared_next start lt some)
      (stopped stop
      (item state i start >>= λ x. declared x.0.0 (declarations_at word item (n - (i + 1)) x.0.1 (i + 1) x.1))
      (λ m. Some ((done ++ m.0.0, m.0.1), m.1))
      (stopped stop (item state i start)
      (λ x. declared x.0.0 (declarations_at word item (n - (i + 1)) x.0.1 (i + 1) x.1)) halts))

  pub declared_more : (start : List ℕ) (x : X) (next : State) (after : List ℕ) → i < n →
      pending done (declarations_at word item (n - i) state i rest) ≡ whole → after_text word rest ≡ Some start →
      item state i start ≡ Some ((x, next), after) →
      pending (done ++ x ∷ []) (declarations_at word item (n - (i + 1)) next (i + 1) after) ≡ whole
  declared_more start x next after lt so_far some here =
      sym (pending_more done x (declarations_at word item (n - (i + 1)) next (i + 1) after))
      ∙ sym (ap
      (λ (o : Option ((X × State) × List ℕ)). pending done
      (o >>= λ y. declared y.0.0 (declarations_at word item (n - (i + 1)) y.0.1 (i + 1) y.1))) here)
      ∙ sym (declared_next start lt some) ∙ so_far
