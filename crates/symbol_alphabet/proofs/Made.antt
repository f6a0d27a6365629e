-- What the code makes, as the definitions say it.
use Rattle.std.proofs.Common.{◌≡◌, Bool, false, List, [], ◌∷◌, ◌++◌, map, Contains, Result, IfOk, OnOk, OnErr, Ok}
use Rattle.std.proofs.Common.{Err}
use Rattle.std.proofs.Common.{sym, ap, subst, ◌∙◌, if◌then◌else◌, append-nil}
use Rattle.std.specs.List.{list_any}
use Rattle.std.proofs.lemmas.List.{map-append}
use Rattle.indexmap.specs.IndexSet.{insert_key}
use Rattle.auto_core.specs.declared.labels.Literal.{Literal}
use Rattle.psl_model.specs.Expr.{Expr}
use Rattle.psl_model.specs.View.{expr_of}
use Rattle.psl_model.specs.declared.expressions.Expr as code
use Rattle.psl_model.specs.inner.ViewCode.{same_expr}
use Rattle.symbol_alphabet.specs.Symbols.{stripped, is_positive, needs_none, same, place_in, label_in, HasSymbol}
use Rattle.symbol_alphabet.specs.Symbols.{numbered, with_symbol}
use Rattle.symbol_alphabet.proofs.Found.{any_of_map, absent_any}
use Rattle.symbol_alphabet.proofs.Labels.{same_decides, numbered_grows, with_needed, with_has, one_literal}

pub on_ok : {T E P : Type 0} (r : Result T E) → P → OnOk r P
on_ok (Ok x) p = p
on_ok (Err e) p = tt

pub if_both : {T E Q : Type 0} {P R : T → Type 0} (r : Result T E) → ((x : T) → P x → Q → R x) → IfOk r P → OnOk r Q →
    IfOk r R
if_both (Ok x) f p q = f x p q
if_both (Err e) f p q = tt

-- a key that is not there goes to the end
pub pushed : (keys new : List code.Expr) (e : code.Expr) → (Contains (map expr_of keys) (expr_of e) → ⊥) →
    new ≡ insert_key same_expr keys e → map expr_of new ≡ map expr_of keys ++ expr_of e ∷ []
pushed keys new e out is =
    let none : list_any (same_expr e) keys ≡ false =
    sym (any_of_map expr_of (same (expr_of e)) keys)
    ∙ absent_any same same_decides (map expr_of keys) (expr_of e) out in
    ap (map expr_of) (is ∙ ap (λ (b : Bool). if b then keys else keys ++ e ∷ []) none)
    ∙ map-append expr_of keys (e ∷ [])

-- on want of memory too there are at most more symbols
pub made_grows : {T E : Type 0} (r : Result T E) (old new : List Expr) (rest : Expr) →
    OnOk r (new ≡ numbered old rest) → OnErr r (new ≡ old) → (more : List Expr) × (new ≡ old ++ more)
made_grows (Ok x) old new rest s u = let g = numbered_grows old rest in (g.0, s ∙ g.1)
made_grows (Err x) old new rest s u = ([], u ∙ sym (append-nil old))

pub made_symbols : (old new : List Expr) (e rest : Expr) → needs_none e ≡ false → rest ≡ stripped e →
    new ≡ numbered old rest → new ≡ with_symbol old e
made_symbols old new e rest h r s = s ∙ ap (numbered old) r ∙ sym (with_needed old e h)

pub made_has : (old new : List Expr) (e rest : Expr) → needs_none e ≡ false → rest ≡ stripped e →
    new ≡ numbered old rest → HasSymbol new e
made_has old new e rest h r s =
    subst (λ (symbols : List Expr). HasSymbol symbols e) (sym (made_symbols old new e rest h r s)) (with_has old e)

pub made_label : (symbols : List Expr) (e rest : Expr) (positive : Bool) (label : List Literal) →
    needs_none e ≡ false → rest ≡ stripped e → positive ≡ is_positive e →
    label ≡ record { symbol = place_in symbols rest; positive = positive } ∷ [] → label ≡ label_in symbols e
made_label symbols e rest positive label h r p l =
    l ∙ (λ i. record { symbol = place_in symbols (r i); positive = p i } ∷ []) ∙ sym (one_literal symbols e h)
