-- The values of a sampled row fit their signals.
use Rattle.std.proofs.Common.{◌≡◌, ◌∙◌, sym, ap, subst, refl, ℕ, zero, suc, ◌+◌, ◌-◌, ◌*◌, ◌^◌, ◌<◌, ◌≤◌, ◌⊎◌, inl, inr}
use Rattle.std.proofs.Common.{List, [], ◌∷◌, map, take, drop, length, Some, None, unwrap_or, get_or}
use Rattle.std.proofs.Common.{arith}
use Rattle.std.proofs.Common.{length-append}
use Rattle.std.proofs.lemmas.List.{length-map, take-map, drop-map}
use Rattle.std.specs.Prelude.{fold, slice_get, slice_range}
use Rattle.std.specs.List.{repeat}
use Rattle.std.proofs.Math.Nat.{mul-le-mul_right, mul_assoc, pow-succ', lt_of_lt_of_le}
use Rattle.std.proofs.lemmas.Option.{slice_get-get_or, slice_get_past}
use Rattle.psl_model.specs.declared.names.Signal.{Signal}
use Rattle.psl_model.specs.Value.{FitWidths}
use Rattle.vcd_reader.specs.declared.waveform.Change.{Change}
use Rattle.vcd_reader.specs.declared.waveform.Var.{Var}
use Rattle.vcd_reader.specs.Sound.{IsSound, IsSizedChange}
use Rattle.vcd_replay.specs.Values.{HasDigits, Before, AreKnown, bits_value, extended, extension}
use Rattle.verilog_text.specs.Module.{Module}
use Rattle.vcd_replay.specs.FirstFail.{FitsRow, FitsRows, ArePortsFrom}
use Rattle.vcd_replay.specs.Sampling.{Source, IsTrace, IsRow, Samples}

-- ---- digits

length_repeat : (n d : ℕ) → length (repeat n (d ∷ [])) ≡ n
length_repeat zero d = refl
length_repeat (suc n) d = ap suc (length_repeat n d)

length_extended : (size : ℕ) (digits : List ℕ) → length digits ≤ size → length (extended size digits) ≡ size
length_extended size digits fits =
    length-append (repeat (size - length digits) (extension digits ∷ [])) digits
    ∙ ap (λ n. n + length digits) (length_repeat (size - length digits) (extension digits))
    ∙ omega (arith, fits)

tail_known : (digit : ℕ) (digits : List ℕ) → AreKnown (digit ∷ digits) → AreKnown digits
tail_known digit digits h k d low = h (suc k) d (omega (arith, low))

digit_below_two : (digit : ℕ) → (digit ≡ 48) ⊎ (digit ≡ 49) → digit - 48 < 2
digit_below_two digit (inl e) = omega (arith, e)
digit_below_two digit (inr e) = omega (arith, e)

-- a number of known digits behind a number is below the next one
value_below : (start : ℕ) (digits : List ℕ) → AreKnown digits
    → fold (λ value digit. 2 * value + (digit - 48)) start digits < (start + 1) * 2 ^ length digits
value_below start [] h = omega arith
value_below start (digit ∷ digits) h =
    let low : digit - 48 < 2 = digit_below_two digit (h 0 0 (omega arith)) in
    let next : ℕ = 2 * start + (digit - 48) in
    let rest : fold (λ value d. 2 * value + (d - 48)) next digits < (next + 1) * 2 ^ length digits =
    value_below next digits (tail_known digit digits h) in
    let steps : (next + 1) * 2 ^ length digits ≤ ((start + 1) * 2) * 2 ^ length digits =
    mul-le-mul_right (2 ^ length digits) (omega (arith, low)) in
    let same : ((start + 1) * 2) * 2 ^ length digits ≡ (start + 1) * 2 ^ suc (length digits) =
    mul_assoc (start + 1) 2 (2 ^ length digits) ∙ ap (λ p. (start + 1) * p) (sym (pow-succ' 2 (length digits)))
    in subst (λ n. fold (λ value d. 2 * value + (d - 48)) next digits < n) same (lt_of_lt_of_le rest steps)

number_below : (digits : List ℕ) → AreKnown digits → bits_value digits < 2 ^ length digits
number_below digits h = subst (λ n. bits_value digits < n) (omega arith) (value_below 0 digits h)

-- ---- samples

one_size : (sizes : List ℕ) (code a b : ℕ) → slice_get sizes code ≡ Some a → slice_get sizes code ≡ Some b → a ≡ b
one_size sizes code a b at_a at_b = ap (λ o. unwrap_or o 0) (sym at_a ∙ at_b)

-- the digits of a variable are as many as its bits
digits_fill : (vars : List Var) (changes : List Change) → IsSound (record { vars = vars; changes = changes })
    → (place : ℕ) (var : Var) → slice_get vars place ≡ Some var → (t : ℕ) (digits : List ℕ)
    → HasDigits changes var.code var.size (Before t) digits → length digits ≡ var.size
digits_fill vars changes sound place var stands t digits (inl none) =
    ap (λ d. length d) none.1 ∙ length_repeat var.size 120
digits_fill vars changes sound place var stands t digits (inr (change, last, is)) =
    let sized : IsSizedChange sound.sizes change = sound.changes last.place change last.stands in
    let same : sized.size ≡ var.size = one_size sound.sizes var.code sized.size var.size
    (subst (λ code. slice_get sound.sizes code ≡ Some sized.size) last.same_code sized.known)
    (sound.vars place var stands)
    in ap (λ d. length d) is ∙ length_extended var.size change.digits
    (subst (λ n. length change.digits ≤ n) same sized.fits)

-- ---- rows

fit_by_place : (widths values : List ℕ) → length values ≡ length widths
    → ((k w v : ℕ) → slice_get widths k ≡ Some w → slice_get values k ≡ Some v → v < 2 ^ w) → FitWidths widths values
fit_by_place [] [] long each = tt
fit_by_place [] (v ∷ vs) long each = absurd (omega (arith, long))
fit_by_place (w ∷ ws) [] long each = absurd (omega (arith, long))
fit_by_place (w ∷ ws) (v ∷ vs) long each =
    (each 0 w v refl refl, fit_by_place ws vs (omega (arith, long)) (λ k w v at_w at_v. each (suc k) w v at_w at_v))

fit_drop : (n : ℕ) (widths values : List ℕ) → FitWidths widths values → FitWidths (drop n widths) (drop n values)
fit_drop zero widths values h = h
fit_drop (suc n) [] [] h = tt
fit_drop (suc n) [] (v ∷ vs) h = absurd h
fit_drop (suc n) (w ∷ ws) [] h = absurd h
fit_drop (suc n) (w ∷ ws) (v ∷ vs) h = fit_drop n ws vs h.1

fit_take : (n : ℕ) (widths values : List ℕ) → FitWidths widths values → FitWidths (take n widths) (take n values)
fit_take zero widths values h = tt
fit_take (suc n) [] [] h = tt
fit_take (suc n) [] (v ∷ vs) h = absurd h
fit_take (suc n) (w ∷ ws) [] h = absurd h
fit_take (suc n) (w ∷ ws) (v ∷ vs) h = (h.0, fit_take n ws vs h.1)

value_fits : (s : Source) → IsSound (record { vars = s.vars; changes = s.changes })
    → (times : List ℕ) (cycle port value : ℕ) (signal : Signal) → slice_get s.wanted port ≡ Some signal
    → (digits : List ℕ) → Samples s times cycle port digits → AreKnown digits → value ≡ bits_value digits
    → value < 2 ^ signal.width
value_fits s sound times cycle port value signal at digits sample known is =
    let same : sample.signal ≡ signal = one_of s.wanted port sample.signal signal sample.stands at in
    let long : length digits ≡ signal.width = digits_fill s.vars s.changes sound sample.is.first.place sample.var
    sample.is.first.stands sample.time digits sample.holds ∙ sample.is.wide ∙ ap (λ x. x.width) same
    in subst (λ n. value < 2 ^ n) long (subst (λ v. v < 2 ^ length digits) (sym is) (number_below digits known))
  where
    one_of : (signals : List Signal) (k : ℕ) (x y : Signal) → slice_get signals k ≡ Some x
        → slice_get signals k ≡ Some y → x ≡ y
    one_of signals k x y at_x at_y = ap (λ o. unwrap_or o x) (sym at_x ∙ at_y)

signal_at : (signals : List Signal) (k w : ℕ) → slice_get (map (λ (signal : Signal). signal.width) signals) k ≡ Some w
    → (signal : Signal) × (slice_get signals k ≡ Some signal) × (signal.width ≡ w)
signal_at [] k w h = let none : None ≡ Some w = sym (slice_get_past [] k (omega arith)) ∙ h in absurd (cc)
signal_at (x ∷ xs) zero w h = (x, refl, ap (λ o. unwrap_or o 0) h)
signal_at (x ∷ xs) (suc k) w h = signal_at xs k w h

row_fits_all : (s : Source) → IsSound (record { vars = s.vars; changes = s.changes }) → (times : List ℕ)
    (cycle : ℕ) (row : List ℕ) → IsRow s times cycle row
    → FitWidths (map (λ (signal : Signal). signal.width) s.wanted) row
row_fits_all s sound times cycle row is =
    fit_by_place (map (λ (signal : Signal). signal.width) s.wanted) row
    (is.wide ∙ sym (length-map s.wanted (λ (signal : Signal). signal.width)))
    (λ k w v at_w at_v. each k w v (signal_at s.wanted k w at_w) (is.values k v at_v))
  where
    each : (k w v : ℕ) → (signal : Signal) × (slice_get s.wanted k ≡ Some signal) × (signal.width ≡ w)
        → (digits : List ℕ) × Samples s times cycle k digits × AreKnown digits × (v ≡ bits_value digits)
        → v < 2 ^ w
    each k w v (signal, at, wide) (digits, sample, known, value) =
        subst (λ n. v < 2 ^ n) wide (value_fits s sound times cycle k v signal at digits sample known value)

port_fits : (m : Module) (from : ℕ) (wanted : List Signal) (row : List ℕ) → ArePortsFrom m from wanted
    → length row ≡ length wanted → FitWidths (map (λ (signal : Signal). signal.width) wanted) row → FitsRow m from row
port_fits m from wanted row are wide fit = record {
  there = subst (λ n. from + length m.ports ≤ n) (sym wide) are.there;
  fit = subst (λ ws. FitWidths ws (slice_range row from (from + length m.ports)))
      (sym (ap (λ ports. map (λ (signal : Signal). signal.width) ports) are.same
      ∙ sym (take-map (λ (signal : Signal). signal.width) (from + length m.ports - from) (drop from wanted))
      ∙ ap (λ ws. take (from + length m.ports - from) ws)
      (sym (drop-map (λ (signal : Signal). signal.width) from wanted))))
      (fit_take (from + length m.ports - from) (drop from (map (λ (signal : Signal). signal.width) wanted))
      (drop from row)
      (fit_drop from (map (λ (signal : Signal). signal.width) wanted) row fit));
}

pub rows_fit : (s : Source) (rows : List (List ℕ)) → IsSound (record { vars = s.vars; changes = s.changes })
    → IsTrace s rows → (m : Module) (from : ℕ) → ArePortsFrom m from s.wanted → FitsRows m from rows
rows_fit s rows sound trace m from are k d low =
    let row : IsRow s trace.times k (get_or rows k d) =
    trace.rows_are k (get_or rows k d) (slice_get-get_or rows k d low)
    in port_fits m from s.wanted (get_or rows k d) are row.wide
    (row_fits_all s sound trace.times k (get_or rows k d) row)
