-- A span of tokens that leaves as many braces open as it found, and ends no item.
use Rattle.std.proofs.Common.{◌≡◌, ℕ, zero, suc, ◌+◌, ◌-◌, ◌<◌, ◌≤◌, ◌⊎◌, inl, inr, Bool, false, cond, List, refl}
use Rattle.std.proofs.Common.{sym, ap, subst, ◌∙◌, arith, nat_eq}
use Rattle.std.proofs.lemmas.Bool.{cases_lt, and_left, ne_eqb}
use Rattle.std.specs.Prelude.{◌&&◌}
use Rattle.psl_grammar.specs.declared.symbols.Symbol.{Symbol}
use Rattle.psl_grammar.specs.declared.symbols.Symbol.TheVariants as symbol
use Rattle.psl_grammar.specs.Symbols.{symbol_at, At}
use Rattle.psl_parser.specs.Depth.{begins_item, braces_behind, behind}
use Rattle.psl_parser.specs.Seen.{is_semicolon}
use Rattle.unit_depth.proofs.Marks.{Level, Deep}

-- how many braces are open before a token, and how many tokens of its item stand before it
abbrev pub way : List Symbol → ℕ → ℕ × ℕ
way symbols zero = (0, 0)
way symbols (suc n) = behind (way symbols n) (symbol_at symbols n)

abbrev pub ends_here : List Symbol → ℕ → Bool
ends_here symbols n = is_semicolon (symbol_at symbols n) && nat_eq (way symbols n).0 1

-- where at least `d` braces are open before the span
pub record Kept (symbols : List Symbol) (d i j : ℕ) : Type 0 where
  pub le : i ≤ j
  pub own : d ≤ (way symbols i).0 → (n : ℕ) → i ≤ n → n < j → (way symbols n).1 + i ≡ (way symbols i).1 + n
  pub nested : d ≤ (way symbols i).0 → (n : ℕ) → i ≤ n → n < j → 0 < (way symbols n).0
  pub on : d ≤ (way symbols i).0 → (n : ℕ) → i ≤ n → n < j → ends_here symbols n ≡ false
  pub braces : d ≤ (way symbols i).0 → (way symbols j).0 ≡ (way symbols i).0
  pub behind : d ≤ (way symbols i).0 → (way symbols j).1 + i ≡ (way symbols i).1 + j

module _ (symbols : List Symbol) where
  pub kept_none : (d i : ℕ) → Kept symbols d i i
  kept_none d i = record {
    le = omega arith;
    own = λ enough n low high. absurd (omega arith);
    nested = λ enough n low high. absurd (omega arith);
    on = λ enough n low high. absurd (omega arith);
    braces = λ enough. refl;
    behind = λ enough. refl;
  }

  pub kept_join : (d i m j : ℕ) → Kept symbols d i m → Kept symbols d m j → Kept symbols d i j
  kept_join d i m j p q = record {
    le = let x = p.le in let y = q.le in omega arith;
    own = λ enough n low high. elim (cases_lt n m) [
      | inl h ↦ p.own enough n low h
      | inr h ↦
          let x = p.braces enough in
          let y = p.behind enough in let z = q.own (omega arith) n h high in omega arith
    ];
    nested = λ enough n low high. elim (cases_lt n m) [
      | inl h ↦ p.nested enough n low h
      | inr h ↦ q.nested (let x = p.braces enough in omega arith) n h high
    ];
    on = λ enough n low high. elim (cases_lt n m) [
      | inl h ↦ p.on enough n low h
      | inr h ↦ q.on (let x = p.braces enough in omega arith) n h high
    ];
    braces = λ enough. let x = p.braces enough in let y = q.braces (omega arith) in omega arith;
    behind = λ enough.
        let x = p.braces enough in
        let y = p.behind enough in
        let z = q.behind (omega arith) in
        omega arith;
  }

  pub kept_more : (d e i j : ℕ) → d ≤ e → Kept symbols d i j → Kept symbols e i j
  kept_more d e i j le p = record {
    le = p.le;
    own = λ enough n low high. p.own (omega arith) n low high;
    nested = λ enough n low high. p.nested (omega arith) n low high;
    on = λ enough n low high. p.on (omega arith) n low high;
    braces = λ enough. p.braces (omega arith);
    behind = λ enough. p.behind (omega arith);
  }

  -- ---- one token

  pub kept_by : (d n : ℕ) → 1 ≤ d → ((b : ℕ) → braces_behind b (symbol_at symbols n) ≡ b)
      → ((b : ℕ) → d ≤ b → begins_item b (symbol_at symbols n) ≡ false)
      → ((b : ℕ) → d ≤ b → (is_semicolon (symbol_at symbols n) && nat_eq b 1) ≡ false) → Kept symbols d n (suc n)
  kept_by d n some same none on = record {
    le = omega arith;
    own = λ enough k low high. let e : k ≡ n = omega arith in
        ap (λ (m : ℕ). (way symbols m).1 + n) e ∙ ap (λ (m : ℕ). (way symbols n).1 + m) (sym e);
    nested = λ enough k low high. let e : n ≡ k = omega arith in
        subst (λ (m : ℕ). 0 < (way symbols m).0) e (omega arith);
    on = λ enough k low high. let e : n ≡ k = omega arith in
        subst (λ (m : ℕ). ends_here symbols m ≡ false) e (on (way symbols n).0 enough);
    braces = λ enough. same (way symbols n).0;
    behind = λ enough.
        let e : cond (begins_item (way symbols n).0 (symbol_at symbols n)) 0 ((way symbols n).1 + 1)
        ≡ (way symbols n).1 + 1 =
        ap (λ (b : Bool). cond b 0 ((way symbols n).1 + 1)) (none (way symbols n).0 enough) in
        ap (λ (m : ℕ). m + n) e ∙ (omega arith);
  }

  pub kept_token : (n : ℕ) → Level (symbol_at symbols n) → Kept symbols 1 n (suc n)
  kept_token n l =
      kept_by 1 n (omega arith) l.braces (λ b le. l.item b)
      (λ b le. and_left (is_semicolon (symbol_at symbols n)) (nat_eq b 1) l.semicolon)

  pub kept_deep : (n : ℕ) → Deep (symbol_at symbols n) → Kept symbols 2 n (suc n)
  kept_deep n l = kept_by 2 n (omega arith) l.braces l.item l.semicolon

  -- ---- braces

  opened_way : (i : ℕ) → At symbols i symbol.OpenBrace → 1 ≤ (way symbols i).0
      → ((way symbols (suc i)).0 ≡ (way symbols i).0 + 1) × ((way symbols (suc i)).1 ≡ (way symbols i).1 + 1)
  opened_way i at some =
      let e : begins_item (way symbols i).0 (symbol_at symbols i) ≡ false =
      ap (λ (s : Symbol). begins_item (way symbols i).0 s) at
      ∙ ne_eqb (way symbols i).0 0 (λ same. omega arith) in (
        ap (λ (s : Symbol). braces_behind (way symbols i).0 s) at,
        ap (λ (b : Bool). cond b 0 ((way symbols i).1 + 1)) e,
      )

  closed_way : (j : ℕ) → At symbols j symbol.CloseBrace
      → ((way symbols (suc j)).0 ≡ (way symbols j).0 - 1) × ((way symbols (suc j)).1 ≡ (way symbols j).1 + 1)
  closed_way j at = (
    ap (λ (s : Symbol). braces_behind (way symbols j).0 s) at,
    ap (λ (s : Symbol). cond (begins_item (way symbols j).0 s) 0 ((way symbols j).1 + 1)) at,
  )

  brace_on : (n : ℕ) (s : Symbol) → At symbols n s → is_semicolon s ≡ false → ends_here symbols n ≡ false
  brace_on n s at not_so =
      and_left (is_semicolon (symbol_at symbols n)) (nat_eq (way symbols n).0 1)
      (ap (λ (t : Symbol). is_semicolon t) at ∙ not_so)

  pub kept_braces : (i j : ℕ) → At symbols i symbol.OpenBrace → Kept symbols 2 (suc i) j
      → At symbols j symbol.CloseBrace → Kept symbols 1 i (suc j)
  kept_braces i j at p shut = record {
    le = let x = p.le in omega arith;
    own = λ enough n low high. let w = start enough in let w1 = w.1 in elim (place n low high) [
      | inl e ↦ ap (λ (m : ℕ). (way symbols m).1 + i) (sym e) ∙ ap (λ (m : ℕ). (way symbols i).1 + m) e
      | inr h ↦
          elim h [
            | inl k ↦ let x = p.own (deep enough) n k.0 k.1 in omega arith
            | inr e ↦
                ap (λ (m : ℕ). (way symbols m).1 + i) (sym e)
                ∙ (let x = p.behind (deep enough) in
                let y : (way symbols j).1 + i ≡ (way symbols i).1 + j = omega arith in y)
                ∙ ap (λ (m : ℕ). (way symbols i).1 + m) e
          ]
    ];
    nested = λ enough n low high. let w = start enough in let w0 = w.0 in elim (place n low high) [
      | inl e ↦ subst (λ (m : ℕ). 0 < (way symbols m).0) e (omega arith)
      | inr h ↦
          elim h [
            | inl k ↦ p.nested (deep enough) n k.0 k.1
            | inr e ↦
                subst (λ (m : ℕ). 0 < (way symbols m).0) e (let x = p.braces (deep enough) in omega arith)
          ]
    ];
    on = λ enough n low high. elim (place n low high) [
      | inl e ↦
          subst (λ (m : ℕ). ends_here symbols m ≡ false) e (brace_on i symbol.OpenBrace at refl)
      | inr h ↦
          elim h [
            | inl k ↦ p.on (deep enough) n k.0 k.1
            | inr e ↦
                subst (λ (m : ℕ). ends_here symbols m ≡ false) e (brace_on j symbol.CloseBrace shut refl)
          ]
    ];
    braces = λ enough.
        let w = start enough in
        let w0 = w.0 in
        let z = closed_way j shut in
        let z0 = z.0 in
        let x = p.braces (deep enough) in
        omega arith;
    behind = λ enough.
        let w = start enough in
        let w1 = w.1 in
        let z = closed_way j shut in
        let z1 = z.1 in
        let x = p.behind (deep enough) in
        omega arith;
  }
    where
      start : 1 ≤ (way symbols i).0
          → ((way symbols (suc i)).0 ≡ (way symbols i).0 + 1) × ((way symbols (suc i)).1 ≡ (way symbols i).1 + 1)
      start enough = opened_way i at enough

      deep : 1 ≤ (way symbols i).0 → 2 ≤ (way symbols (suc i)).0
      deep enough = let w = start enough in let w0 = w.0 in omega arith

      place : (n : ℕ) → i ≤ n → n < suc j → (i ≡ n) ⊎ (((suc i ≤ n) × (n < j)) ⊎ (j ≡ n))
      place n low high =
          elim (cases_lt i n) [
            | inl h ↦
                elim (cases_lt n j) [ inl k ↦ inr (inl (h, k)) | inr k ↦ inr (inr (omega arith)) ]
            | inr h ↦ inl (omega arith)
          ]
