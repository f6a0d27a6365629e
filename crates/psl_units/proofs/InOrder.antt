-- The tokens of a unit's places are some of the tokens that its tree names, in their order.
use Rattle.std.proofs.Common.{◌≡◌, ℕ, Option, None, Some, List, [], ◌∷◌, ◌++◌, map, refl, sym, subst, append_assoc}
use Rattle.std.proofs.lemmas.Grind.{flat_map-append}
use Rattle.std.proofs.lemmas.List.{append-nil}
use Rattle.std.specs.List.{flat_map}
use Rattle.psl_grammar.specs.RawExpr as e
use Rattle.psl_grammar.specs.RawExpr.{RawExpr}
use Rattle.psl_grammar.specs.RawSere as s
use Rattle.psl_grammar.specs.RawProp as p
use Rattle.psl_grammar.specs.RawUnit as u
use Rattle.psl_grammar.specs.RawUnit.{RawItem, RawUnit}
use Rattle.psl_grammar.specs.TokenOrder.{AscendFrom, option_tokens, select_tokens, expr_tokens, counts_tokens}
use Rattle.psl_grammar.specs.TokenOrder.{sere_tokens, on_tokens, prop_tokens, range_tokens, item_tokens, items_tokens}
use Rattle.psl_grammar.specs.TokenOrder.{unit_tokens}
use Rattle.unit_rules.specs.Sites.{Site, declared, directive, operator, expr_sites, count_sites, sere_sites, on_sites}
use Rattle.unit_rules.specs.Sites.{prop_sites, span_sites, label_sites, item_sites, unit_sites}
use Rattle.unit_rules.specs.Order.{site_tokens, AreInOrder}
use Rattle.psl_units.proofs.Parts.{IsPart, none, left_out, kept, whole, nothing, joined, behind, ascend_part}

-- the tokens of some places are some of these
abbrev pub Name : List Site → List ℕ → Type 0
Name sites tokens = IsPart (flat_map site_tokens sites) tokens

both : (xs ys : List Site) (us vs : List ℕ) → Name xs us → Name ys vs → Name (xs ++ ys) (us ++ vs)
both xs ys us vs a b =
    let P : List ℕ → Type 0 = λ ts. IsPart ts (us ++ vs) in
    subst P (sym (flat_map-append site_tokens xs ys)) (joined a b)

expr_part : (x : RawExpr) → Name (expr_sites x) (expr_tokens x)
expr_part (e.name n None) = whole (n ∷ [])
expr_part (e.name n (Some (high, None))) = whole (n ∷ high ∷ [])
expr_part (e.name n (Some (high, Some low))) = whole (n ∷ high ∷ low ∷ [])
expr_part (e.literal n) = whole (n ∷ [])
expr_part (e.unary mark a) = left_out mark (expr_part a)
expr_part (e.binary mark a b) =
    both (expr_sites a) (operator mark a b ∷ expr_sites b) (expr_tokens a) (mark ∷ expr_tokens b) (expr_part a)
    (kept mark (expr_part b))
expr_part (e.choice mark c a b) =
    both (expr_sites c) (expr_sites a ++ expr_sites b) (expr_tokens c) (mark ∷ (expr_tokens a ++ expr_tokens b))
    (expr_part c)
    (left_out mark (both (expr_sites a) (expr_sites b) (expr_tokens a) (expr_tokens b) (expr_part a) (expr_part b)))

count_part : (mark : ℕ) (low high : Option ℕ)
    → Name (count_sites mark low high) (option_tokens low ++ option_tokens high)
count_part mark None high = nothing (option_tokens high)
count_part mark (Some low) None = whole (low ∷ [])
count_part mark (Some low) (Some high) = whole (low ∷ high ∷ [])

sere_part : (r : s.RawSere) → Name (sere_sites r) (sere_tokens r)
sere_part (s.bool x) = expr_part x
sere_part (s.named n) = nothing (n ∷ [])
sere_part (s.lone mark low high) = left_out mark (count_part mark low high)
sere_part (s.repeat r mark low high) =
    both (sere_sites r) (count_sites mark low high) (sere_tokens r) (counts_tokens mark low high) (sere_part r)
    (left_out mark (count_part mark low high))
sere_part (s.join mark r t) =
    both (sere_sites r) (sere_sites t) (sere_tokens r) (mark ∷ sere_tokens t) (sere_part r)
    (left_out mark (sere_part t))

on_part : (on : Option RawExpr) → Name (on_sites on) (on_tokens on)
on_part None = none
on_part (Some x) = expr_part x

-- counts before other places
count_before : (mark : ℕ) (low high : Option ℕ) (sites : List Site) (ts : List ℕ) → Name sites ts
    → Name (count_sites mark low high ++ sites) (option_tokens low ++ (option_tokens high ++ ts))
count_before mark low high sites ts h =
    let P : List ℕ → Type 0 = λ us. IsPart (flat_map site_tokens (count_sites mark low high ++ sites)) us in
    subst P (append_assoc (option_tokens low) (option_tokens high) ts)
    (both (count_sites mark low high) sites (option_tokens low ++ option_tokens high) ts
    (count_part mark low high) h)

prop_part : (f : p.RawProp) → Name (prop_sites f) (prop_tokens f)
prop_part (p.bool x) = expr_part x
prop_part (p.named n) = nothing (n ∷ [])
prop_part (p.seq r strong) = sere_part r
prop_part (p.prefix word f) = left_out word (prop_part f)
prop_part (p.next word on low high f) =
    left_out word (both (on_sites on) (count_sites word low high ++ prop_sites f) (on_tokens on)
    (option_tokens low ++ (option_tokens high ++ prop_tokens f)) (on_part on)
    (count_before word low high (prop_sites f) (prop_tokens f) (prop_part f)))
prop_part (p.binary mark f g) =
    both (prop_sites f) (prop_sites g) (prop_tokens f) (mark ∷ prop_tokens g) (prop_part f)
    (left_out mark (prop_part g))
prop_part (p.suffix mark r f) =
    both (sere_sites r) (prop_sites f) (sere_tokens r) (mark ∷ prop_tokens f) (sere_part r)
    (left_out mark (prop_part f))
prop_part (p.abort f x) =
    both (prop_sites f) (expr_sites x) (prop_tokens f) (expr_tokens x) (prop_part f) (expr_part x)

span_part : (range : Option (ℕ × ℕ)) → Name (span_sites range) (range_tokens range)
span_part None = none
span_part (Some range) = whole (range.0 ∷ range.1 ∷ [])

names_part : (range : Option (ℕ × ℕ)) (names : List ℕ) → Name (map (λ n. declared n range) names) names
names_part range [] = none
names_part range (n ∷ ns) = kept n (names_part range ns)

label_part : (label : Option ℕ) → Name (label_sites label) (option_tokens label)
label_part None = none
label_part (Some n) = whole (n ∷ [])

before_more : (sites : List Site) (ts more : List ℕ) → Name sites ts → Name sites (ts ++ more)
before_more sites ts more h =
    let P : List ℕ → Type 0 = λ us. IsPart us (ts ++ more) in
    subst P (append-nil (flat_map site_tokens sites)) (joined h (nothing more))

item_part : (x : RawItem) → Name (item_sites x) (item_tokens x)
item_part (u.clock n) = nothing (n ∷ [])
item_part (u.wire range names) =
    both (span_sites range) (map (λ n. declared n range) names) (range_tokens range) names (span_part range)
    (names_part range names)
item_part (u.RawItem.sequence n body) = kept n (sere_part body)
item_part (u.RawItem.property n body) = kept n (prop_part body)
item_part (u.assert word label body report) =
    both (label_sites label) (directive word ∷ prop_sites body) (option_tokens label)
    (word ∷ (prop_tokens body ++ option_tokens report)) (label_part label)
    (kept word (before_more (prop_sites body) (prop_tokens body) (option_tokens report) (prop_part body)))

items_part : (xs : List RawItem) → Name (flat_map item_sites xs) (items_tokens xs)
items_part [] = none
items_part (x ∷ xs) =
    both (item_sites x) (flat_map item_sites xs) (item_tokens x) (items_tokens xs) (item_part x) (items_part xs)

pub unit_in_order : (raw : RawUnit) → AscendFrom 0 (unit_tokens raw) → AreInOrder (unit_sites raw)
unit_in_order raw h = ascend_part 0 (left_out raw.name (items_part raw.items)) h
