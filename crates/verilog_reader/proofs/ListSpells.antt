-- What is read as several lines is their text.
use Rattle.std.proofs.Common.{◌≡◌, ℕ, zero, suc, ◌<◌, ◌^◌, List, [], ◌∷◌, ◌++◌, length, refl, ap, sym, ◌∙◌, subst, Some}
use Rattle.std.proofs.Common.{None, append_assoc}
use Rattle.std.specs.Prelude.{Option, codes, flat_map}
use Rattle.psl_model.specs.declared.names.Signal.{Signal}
use Rattle.verilog_text.specs.Module.{Register, IsWidth}
use Rattle.verilog_text.specs.Text.{line, range_text, port_line, register_name, always_line, each_numbered}
use Rattle.verilog_reader.specs.inner.Pieces.{after_text}
use Rattle.verilog_reader.specs.inner.Lines.{State, added, add, ports_at, register_at, registers_at, declaration_with}
use Rattle.verilog_reader.specs.inner.Lines.{declarations_at, updates_at}
use Rattle.verilog_reader.proofs.Pieces.{bind_some, some_inj, if_none_some, after_text-only}
use Rattle.verilog_reader.proofs.LineSpells.{port_at-only, declaration_at-only, IsPhrase, update_at-only}

-- ports

-- the ports' names are those of the header, and their widths are widths
abbrev pub ArePorts : List Signal → List Signal → Type 0
ArePorts [] [] = Unit {0}
ArePorts (port ∷ ports) (given ∷ others) = (port.name ≡ given.name) × IsWidth port.width × ArePorts ports others
ArePorts [] (given ∷ others) = ⊥
ArePorts (port ∷ ports) [] = ⊥

abbrev IsPortLines : List Signal → List ℕ → List Signal × List ℕ → Type 0
IsPortLines header bytes read = ArePorts read.0 header × (bytes ≡ flat_map port_line read.0 ++ read.1)

pub ports_at-only : (header : List Signal) (bytes : List ℕ) (read : List Signal × List ℕ) →
    ports_at header bytes ≡ Some read → IsPortLines header bytes read
ports_at-only [] bytes read e =
    subst (λ (r : List Signal × List ℕ). IsPortLines [] bytes r) (some_inj ([], bytes) read e) (tt, refl)
ports_at-only (given ∷ header) bytes read e =
    let first = bind_some {A = Signal × List ℕ} {B = List Signal × List ℕ} _ _ _ e in
    let later = bind_some {A = List Signal × List ℕ} {B = List Signal × List ℕ} _ _ _ first.2 in
    let is : (first.0.0 ∷ later.0.0, later.0.1) ≡ read = some_inj _ _ later.2 in
    let one = port_at-only given bytes first.0 first.1 in
    let more = ports_at-only header first.0.1 later.0 later.1 in
    subst (λ (r : List Signal × List ℕ). IsPortLines (given ∷ header) bytes r) is (
      (one.name, one.width, more.0),
      one.text ∙ ap (λ t. port_line first.0.0 ++ t) more.1
          ∙ sym (append_assoc (port_line first.0.0) (flat_map port_line later.0.0) later.0.1),
    )

-- a further name

pub add-only : (state : State) (name : List ℕ) (width : ℕ) (next : State) → add state name width ≡ Some next →
    next ≡ added state name width
unfolding add
add-only state name width next e = sym (if_none_some _ _ _ e).1

-- registers: their widths

unfoldable pub width_line : (number width : ℕ) → List ℕ
width_line number width = line (codes "  reg " ++ range_text width ++ register_name number ++ codes ";")

-- the states that further registers make
abbrev pub after_widths : State → (number : ℕ) → List ℕ → State
after_widths state number [] = state
after_widths state number (width ∷ widths) = after_widths (added state (register_name number) width) (suc number) widths

abbrev pub AreWidths : List ℕ → Type 0
AreWidths [] = Unit {0}
AreWidths (width ∷ widths) = IsWidth width × AreWidths widths

abbrev IsRegisterLines : State → ℕ → List ℕ → (List ℕ × State) × List ℕ → Type 0
IsRegisterLines state number bytes read = AreWidths read.0.0 × (read.0.1 ≡ after_widths state number read.0.0)
    × (bytes ≡ each_numbered width_line number read.0.0 ++ read.1)

register_at-only : (state : State) (number : ℕ) (bytes : List ℕ) (read : (ℕ × State) × List ℕ) →
    register_at state number bytes ≡ Some read →
    IsWidth read.0.0 × (read.0.1 ≡ added state (register_name number) read.0.0)
    × (codes "  reg " ++ bytes ≡ width_line number read.0.0 ++ read.1)
unfolding register_at width_line
register_at-only state number bytes read e =
    let width = bind_some {A = ℕ × List ℕ} {B = (ℕ × State) × List ℕ} _ _ _ e in
    let next = bind_some {A = State} {B = (ℕ × State) × List ℕ} _ _ _ width.2 in
    let is : ((width.0.0, next.0), width.0.1) ≡ read = some_inj _ _ next.2 in
    let name = register_name number in
    let declared = declaration_at-only name (codes ";\n") bytes width.0 width.1 in
    let apart : line (codes "  reg " ++ range_text width.0.0 ++ name ++ codes ";") ++ width.0.1 ≡ codes "  reg "
    ++ (range_text width.0.0 ++ (name ++ (codes ";\n" ++ width.0.1))) = simp append_assoc in
    subst (λ (r : (ℕ × State) × List ℕ). IsWidth r.0.0 × (r.0.1 ≡ added state name r.0.0)
    × (codes "  reg " ++ bytes ≡ width_line number r.0.0 ++ r.1)) is
    (declared.0, add-only state name width.0.0 next.0 next.1, ap (λ t. codes "  reg " ++ t) declared.1 ∙ sym apart)

registers-only : (most : ℕ) (state : State) (number : ℕ) (bytes : List ℕ) (read : (List ℕ × State) × List ℕ) →
    declarations_at (codes "  reg ") register_at most state number bytes ≡ Some read →
    IsRegisterLines state number bytes read
registers-only zero state number bytes read e =
    subst (λ (r : (List ℕ × State) × List ℕ). IsRegisterLines state number bytes r)
    (some_inj (([], state), bytes) read e) (tt, refl, refl)
registers-only (suc most) state number bytes read e =
    by_word (after_text (codes "  reg ") bytes) refl e (λ next rest. registers-only most next (suc number) rest) where
      by_word : (o : Option (List ℕ)) → after_text (codes "  reg ") bytes ≡ o →
          declaration_with (codes "  reg ") register_at
          (λ next rest. declarations_at (codes "  reg ") register_at most next (suc number) rest) state number o bytes
          ≡ Some read →
          ((next : State) (rest : List ℕ) (r : (List ℕ × State) × List ℕ) →
          declarations_at (codes "  reg ") register_at most next (suc number) rest ≡ Some r →
          IsRegisterLines next (suc number) rest r) →
          IsRegisterLines state number bytes read
      by_word None none e later =
          subst (λ (r : (List ℕ × State) × List ℕ). IsRegisterLines state number bytes r)
          (some_inj (([], state), bytes) read e) (tt, refl, refl)
      by_word (Some start) some e later =
          let first = bind_some {A = (ℕ × State) × List ℕ} {B = (List ℕ × State) × List ℕ} _ _ _ e in
          let rest = bind_some {A = (List ℕ × State) × List ℕ} {B = (List ℕ × State) × List ℕ} _ _ _ first.2 in
          let is : ((first.0.0.0 ∷ rest.0.0.0, rest.0.0.1), rest.0.1) ≡ read = some_inj _ _ rest.2 in
          let one = register_at-only state number start first.0 first.1 in
          let more = later first.0.0.1 first.0.1 rest.0 rest.1 in
          let state_is : rest.0.0.1 ≡ after_widths (added state (register_name number) first.0.0.0)
          (suc number) rest.0.0.0 = more.1 ∙ ap (λ (s : State). after_widths s (suc number) rest.0.0.0) one.1 in
          let text : bytes ≡ width_line number first.0.0.0
          ++ (each_numbered width_line (suc number) rest.0.0.0 ++ rest.0.1) =
          after_text-only (codes "  reg ") bytes start some ∙ one.2
          ∙ ap (λ t. width_line number first.0.0.0 ++ t) more.2 in
          subst (λ (r : (List ℕ × State) × List ℕ). IsRegisterLines state number bytes r) is (
            (one.0, more.0),
            state_is,
            text ∙ sym (append_assoc (width_line number first.0.0.0) (each_numbered width_line (suc number) rest.0.0.0)
                rest.0.1),
          )

pub registers_at-only : (most : ℕ) (state : State) (bytes : List ℕ) (read : (List ℕ × State) × List ℕ) →
    registers_at most state 0 bytes ≡ Some read → IsRegisterLines state 0 bytes read
unfolding registers_at
registers_at-only most state bytes read e = registers-only most state 0 bytes read e

-- the registers' next values

abbrev pub AreUpdates : State → List ℕ → List Register → Type 0
AreUpdates state [] [] = Unit {0}
AreUpdates state (width ∷ widths) (r ∷ rs) = (r.width ≡ width) × (r.initial < 2 ^ r.width) × IsPhrase state r.next
    × AreUpdates state widths rs
AreUpdates state [] (r ∷ rs) = ⊥
AreUpdates state (width ∷ widths) [] = ⊥

abbrev IsUpdateLines : State → ℕ → List ℕ → List ℕ → List Register × List ℕ → Type 0
IsUpdateLines state number widths bytes read =
    AreUpdates state widths read.0 × (bytes ≡ each_numbered (always_line state.0) number read.0 ++ read.1)

pub updates_at-only : (state : State) → length state.0 ≡ length state.1 →
    (number : ℕ) (widths bytes : List ℕ) (read : List Register × List ℕ) →
    updates_at state number widths bytes ≡ Some read → IsUpdateLines state number widths bytes read
updates_at-only state lengths number [] bytes read e =
    subst (λ (r : List Register × List ℕ). IsUpdateLines state number [] bytes r) (some_inj ([], bytes) read e)
    (tt, refl)
updates_at-only state lengths number (width ∷ widths) bytes read e =
    let first = bind_some {A = Register × List ℕ} {B = List Register × List ℕ} _ _ _ e in
    let later = bind_some {A = List Register × List ℕ} {B = List Register × List ℕ} _ _ _ first.2 in
    let is : (first.0.0 ∷ later.0.0, later.0.1) ≡ read = some_inj _ _ later.2 in
    let one = update_at-only state lengths number width bytes first.0 first.1 in
    let more = updates_at-only state lengths (suc number) widths first.0.1 later.0 later.1 in
    subst (λ (r : List Register × List ℕ). IsUpdateLines state number (width ∷ widths) bytes r) is (
      (one.same, one.fits, one.next, more.0),
      one.text ∙ ap (λ t. always_line state.0 number first.0.0 ++ t) more.1
          ∙ sym (append_assoc (always_line state.0 number first.0.0)
          (each_numbered (always_line state.0) (suc number) later.0.0) later.0.1),
    )
