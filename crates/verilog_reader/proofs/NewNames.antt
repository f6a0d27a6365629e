-- Names that differ make a table, and each is new to those before it.
use Rattle.std.proofs.Common.{◌≡◌, ℕ, zero, suc, ◌+◌, ◌<◌, ◌≤◌, ◌^◌, Bool, true, false, List, [], ◌∷◌, ◌++◌, length}
use Rattle.std.proofs.Common.{map, get_or, refl, ap, sym, ◌∙◌, arith, subst, Some, None, append_assoc}
use Rattle.std.proofs.lemmas.Iterator.Adapters.{position_from-zero}
use Rattle.std.proofs.lemmas.Slice.Eq.{bytes_eq-Decides}
use Rattle.std.specs.List.{position_from}
use Rattle.std.specs.Prelude.{◌≢◌, Option, AllPairs, nat_eq}
use Rattle.std.specs.Cmp.Lexicographic.{pointwise}
use Rattle.psl_model.specs.declared.names.Signal.{Signal}
use Rattle.psl_model.specs.Names.{IsIdentifier}
use Rattle.verilog_text.specs.Module.{Wire, IsWidth, numbered_names, register_stem}
use Rattle.verilog_text.specs.Text.{name_at, register_name, wire_name}
use Rattle.verilog_reader.specs.inner.Pieces.{◌>>=◌}
use Rattle.verilog_reader.specs.inner.Phrases.{place_of}
use Rattle.verilog_reader.specs.inner.Table.{IsTable}
use Rattle.verilog_reader.specs.inner.Lines.{State, added, add_ports}
use Rattle.verilog_reader.proofs.Pieces.{decimal_continues}
use Rattle.verilog_reader.proofs.ListSpells.{AreWidths}
use Rattle.verilog_reader.proofs.WireSpells.{AreWires}
use Rattle.verilog_reader.proofs.ListReads.{AreNew, AreTables, add_new}
use Rattle.verilog_reader.proofs.States.{extended, extended_more, extended_none}
use Rattle.verilog_reader.proofs.LongerTables.{numbered_wires, longer}
use Rattle.verilog_reader.proofs.ModuleLawful.{bounded, both_lists}

-- the name is none of these
abbrev pub Missing : List ℕ → List (List ℕ) → Type 0
Missing name [] = Unit {0}
Missing name (n ∷ names) = (name ≢ n) × Missing name names

-- each name is none of the later ones
abbrev pub Differ : List (List ℕ) → Type 0
Differ [] = Unit {0}
Differ (name ∷ names) = Missing name names × Differ names

is_false : (b : Bool) → (b ≡ true → ⊥) → b ≡ false
is_false false none = refl
is_false true none = absurd (none refl)

other_name : (m n : List ℕ) → m ≢ n → pointwise nat_eq m n ≡ false
other_name m n apart = is_false (pointwise nat_eq m n) (λ t. apart ((bytes_eq-Decides m n).0 t))

missing_from : (name : List ℕ) (names : List (List ℕ)) (i : ℕ) → Missing name names →
    position_from (pointwise nat_eq name) i names ≡ None
missing_from name [] i apart = refl
missing_from name (n ∷ names) i apart = rw (other_name name n apart.0) (missing_from name names (i + 1) apart.1)

pub no_place : (name : List ℕ) (names : List (List ℕ)) → Missing name names → place_of names name ≡ None
unfolding place_of
no_place name names apart = position_from-zero (pointwise nat_eq name) names ∙ missing_from name names 0 apart

missing_at : (name : List ℕ) (names : List (List ℕ)) (place : ℕ) → Missing name names → place < length names →
    name_at names place ≢ name
missing_at name [] place apart lt e = absurd (omega arith)
missing_at name (n ∷ names) zero apart lt e = apart.0 (sym e)
missing_at name (n ∷ names) (suc place) apart lt e = let below : place < length names =
    omega arith in missing_at name names place apart.1 below e

found_from : (names : List (List ℕ)) (place i : ℕ) → Differ names → place < length names →
    position_from (pointwise nat_eq (name_at names place)) i names ≡ Some (i + place)
found_from [] place i apart lt = absurd (omega arith)
found_from (n ∷ names) zero i apart lt =
    let here : i ≡ i + 0 = omega arith in
    rw ((bytes_eq-Decides n n).1 refl) (ap (λ (k : ℕ). Some k) here)
found_from (n ∷ names) (suc place) i apart lt =
    let below : place < length names = omega arith in
    let there : i + 1 + place ≡ i + suc place = omega arith in
    rw (other_name (name_at names place) n (missing_at n names place apart.0 below))
    (found_from names place (i + 1) apart.1 below ∙ ap (λ (k : ℕ). Some k) there)

found_place : (names : List (List ℕ)) (place : ℕ) → Differ names → place < length names →
    place_of names (name_at names place) ≡ Some place
unfolding place_of
found_place names place apart lt =
    let same : 0 + place ≡ place = omega arith in
    position_from-zero (pointwise nat_eq (name_at names place)) names ∙ found_from names place 0 apart lt
    ∙ ap (λ (k : ℕ). Some k) same

-- parts of a list of names

missing_front : (name : List ℕ) (front back : List (List ℕ)) → Missing name (front ++ back) → Missing name front
missing_front name [] back apart = tt
missing_front name (n ∷ front) back apart = (apart.0, missing_front name front back apart.1)

missing_middle : (name : List ℕ) (front : List (List ℕ)) (other : List ℕ) (back : List (List ℕ)) →
    Missing name (front ++ other ∷ back) → name ≢ other
missing_middle name [] other back apart = apart.0
missing_middle name (n ∷ front) other back apart = missing_middle name front other back apart.1

pub front_differs : (front back : List (List ℕ)) → Differ (front ++ back) → Differ front
front_differs [] back apart = tt
front_differs (n ∷ front) back apart = (missing_front n front back apart.0, front_differs front back apart.1)

pub middle_new : (front : List (List ℕ)) (name : List ℕ) (back : List (List ℕ)) → Differ (front ++ name ∷ back) →
    Missing name front
middle_new [] name back apart = tt
middle_new (n ∷ front) name back apart =
    (λ e. missing_middle n front name back apart.0 (sym e), middle_new front name back apart.1)

pub step_on : (front : List (List ℕ)) (name : List ℕ) (back : List (List ℕ)) → Differ (front ++ name ∷ back) →
    Differ ((front ++ name ∷ []) ++ back)
step_on front name back apart = subst Differ (sym (append_assoc front (name ∷ []) back)) apart

-- from the telling by places

missing_by_places : (name : List ℕ) (names : List (List ℕ)) →
    ((k : ℕ) (d : List ℕ) → k < length names → name ≢ get_or names k d) → Missing name names
missing_by_places name [] apart = tt
missing_by_places name (n ∷ names) apart =
    (apart zero [] (omega arith), missing_by_places name names (λ k d lt. apart (suc k) d (omega arith)))

pub differ_by_places : (names : List (List ℕ)) → AllPairs (λ p q. p ≢ q) names → Differ names
differ_by_places [] apart = tt
differ_by_places (n ∷ names) apart = (
  missing_by_places n names (λ k d lt. apart zero (suc k) d (omega arith) (omega arith)),
  differ_by_places names (λ i j d lt below. apart (suc i) (suc j) d (omega arith) (omega arith)),
)

-- names that stand for something, and their widths

abbrev pub AreNames : List (List ℕ) → Type 0
AreNames [] = Unit {0}
AreNames (name ∷ names) = IsIdentifier name × AreNames names

abbrev pub Known : State → Type 0
Known state = (length state.0 ≡ length state.1) × AreNames state.0 × AreWidths state.1

pub both_names : (xs ys : List (List ℕ)) → AreNames xs → AreNames ys → AreNames (xs ++ ys)
both_names [] ys one two = two
both_names (x ∷ xs) ys one two = (one.0, both_names xs ys one.1 two)

identifier_at : (names : List (List ℕ)) → AreNames names → (place : ℕ) → place < length names →
    IsIdentifier (name_at names place)
identifier_at [] are place lt = absurd (omega arith)
identifier_at (n ∷ names) are zero lt = are.0
identifier_at (n ∷ names) are (suc place) lt = let below : place < length names =
    omega arith in identifier_at names are.1 place below

pub table_from : (state : State) → Known state → Differ state.0 → IsTable state.0 state.1
table_from state known apart = record {
  lengths = known.0;
  identifiers = identifier_at state.0 known.1;
  places = λ place lt. found_place state.0 place apart lt;
  bounded = bounded state.1 known.2;
}

known_added : (state : State) (name : List ℕ) (width : ℕ) → Known state → IsIdentifier name → IsWidth width →
    Known (added state name width)
known_added state name width known is wide = (
  longer state name width known.0,
  both_names state.0 (name ∷ []) known.1 (is, tt),
  both_lists state.1 (width ∷ []) known.2 (wide, tt),
)

pub register_identifier : (k : ℕ) → k < 2 ^ 64 → IsIdentifier (register_name k)
unfolding register_name
register_identifier k small = (refl, decimal_continues k small)

pub wire_identifier : (k : ℕ) → k < 2 ^ 64 → IsIdentifier (wire_name k)
unfolding wire_name
wire_identifier k small = (refl, decimal_continues k small)

-- ports, registers and wires whose names differ

pub ports_added : (ports : List Signal) (state : State) → Differ (state.0 ++ map (λ (p : Signal). p.name) ports) →
    add_ports state ports ≡ Some
    (extended state (map (λ (p : Signal). p.name) ports) (map (λ (p : Signal). p.width) ports))
ports_added [] state apart = ap (λ (s : State). Some s) (extended_none state)
ports_added (port ∷ ports) state apart =
    let names = map (λ (p : Signal). p.name) ports in
    let widths = map (λ (p : Signal). p.width) ports in
    let new : place_of state.0 port.name ≡ None =
    no_place port.name state.0 (middle_new state.0 port.name names apart) in
    let next : State = added state port.name port.width in
    ap (λ (o : Option State). o >>= λ s. add_ports s ports) (add_new state port.name port.width new)
    ∙ ports_added ports next (step_on state.0 port.name names apart)
    ∙ ap (λ (s : State). Some s) (extended_more state port.name port.width names widths)

pub new_registers : (widths : List ℕ) (state : State) (number : ℕ) →
    Differ (state.0 ++ numbered_names register_stem number widths) → AreNew register_name state number widths
unfolding register_name
new_registers [] state number apart = tt
new_registers (width ∷ widths) state number apart =
    let later = numbered_names register_stem (suc number) widths in (
      no_place (register_name number) state.0 (middle_new state.0 (register_name number) later apart),
      new_registers widths (added state (register_name number) width) (suc number)
          (step_on state.0 (register_name number) later apart),
    )

pub new_tables : (ws : List Wire) (state : State) (number : ℕ) → Known state → AreWires state number ws →
    number + length ws ≤ 2 ^ 64 → Differ (state.0 ++ numbered_wires number ws) →
    AreTables state number ws
new_tables [] state number known wires few apart = tt
new_tables (w ∷ ws) state number known wires few apart =
    let name = wire_name number in
    let later = numbered_wires (suc number) ws in
    let small : number < 2 ^ 64 = omega arith in
    let fewer : suc number + length ws ≤ 2 ^ 64 = omega arith in (
      table_from state known (front_differs state.0 (name ∷ later) apart),
      no_place name state.0 (middle_new state.0 name later apart),
      new_tables ws (added state name w.width) (suc number)
          (known_added state name w.width known (wire_identifier number small) wires.0) wires.2 fewer
          (step_on state.0 name later apart),
    )
