-- The directives of a unit, item by item.
use Rattle.std.proofs.Common.{◌≡◌, ℕ, ◌+◌, ◌<◌, suc, Option, List, [], ◌∷◌, ◌++◌, length, map, fold, take, drop, get_or}
use Rattle.std.proofs.Common.{refl, ap, sym, ◌∙◌, append_assoc, add-one}
use Rattle.std.proofs.Math.Seq.{take-suc, drop-cons, drop-length}
use Rattle.std.proofs.lemmas.Grind.{fold-append}
use Rattle.std.proofs.lemmas.List.{map-append, append-nil}
use Rattle.psl_grammar.specs.declared.items.RawItem as declared
use Rattle.psl_grammar.specs.UnitView.{item_of}
use Rattle.psl_grammar.specs.RawProp.{RawProp}
use Rattle.psl_grammar.specs.RawUnit.{assert}
use Rattle.psl_model.specs.Unit.{Directive}
use Rattle.unit_rules.specs.Source.{Source}
use Rattle.unit_rules.specs.Placed.{Bodies, Placed, no_bodies, bodies_after, placed_item, placed_items}
use Rattle.unit_rules.specs.Placed.{placed_prop}
use Rattle.psl_units.specs.Before.{bodies_before}
use Rattle.psl_units.specs.Trees.{Signals, formula_for}
use Rattle.psl_units.specs.Unit.{directive_for}
use Rattle.psl_units.specs.inner.Directives.{IsDirective}

-- what one item more declares
bodies_next : (s : Source) (items : List declared.RawItem) (i : ℕ) (d : declared.RawItem) → i < length items
    → bodies_before s items (i + 1) ≡ bodies_after s (bodies_before s items i) (item_of (get_or items i d))
bodies_next s items i d lt =
    let step : Bodies → declared.RawItem → Bodies = λ bodies item. bodies_after s bodies (item_of item) in
    ap (λ n. fold step no_bodies (take n items)) (add-one i)
    ∙ ap (λ xs. fold step no_bodies xs) (take-suc items i d lt)
    ∙ fold-append step no_bodies (take i items) (get_or items i d ∷ [])

-- the directives from an item on, told by a function of each
module _ {D : Type 0} (told : Placed → D) (s : Source) (items : List declared.RawItem) where
  abbrev pub told_from : ℕ → List D
  told_from i = map told (placed_items s (bodies_before s items i) (map item_of (drop i items)))

  abbrev pub told_at : ℕ → declared.RawItem → List D
  told_at i item = map told (placed_item s (bodies_before s items i) (item_of item))

  told_next : (i : ℕ) (d : declared.RawItem) → i < length items
      → told_from i ≡ told_at i (get_or items i d) ++ told_from (i + 1)
  told_next i d lt =
      let x : declared.RawItem = get_or items i d in
      let here : Bodies = bodies_before s items i in
      ap (λ xs. map told (placed_items s here (map item_of xs)))
      (drop-cons items i d lt ∙ ap (λ n. x ∷ drop n items) (sym (add-one i)))
      ∙ map-append told (placed_item s here (item_of x))
      (placed_items s (bodies_after s here (item_of x)) (map item_of (drop (i + 1) items)))
      ∙ ap (λ bodies. told_at i x ++ map told (placed_items s bodies (map item_of (drop (i + 1) items))))
      (sym (bodies_next s items i d lt))

  pub told_more : (old new all : List D) (i : ℕ) (d : declared.RawItem) → i < length items
      → new ≡ old ++ told_at i (get_or items i d) → old ++ told_from i ≡ all → new ++ told_from (i + 1) ≡ all
  told_more old new all i d lt made so_far =
      ap (λ xs. xs ++ told_from (i + 1)) made
      ∙ append_assoc old (told_at i (get_or items i d)) (told_from (i + 1))
      ∙ ap (λ xs. old ++ xs) (sym (told_next i d lt))
      ∙ so_far

  pub told_whole : (old all : List D) → old ++ told_from (length items) ≡ all → old ≡ all
  told_whole old all so_far =
      sym (append-nil old)
      ∙ ap (λ xs. old ++ map told (placed_items s (bodies_before s items (length items)) (map item_of xs)))
      (sym (drop-length items))
      ∙ so_far

-- ---- one directive

made_of : (s : Source) (signals : Signals) (bodies : Bodies) (label report : Option ℕ) (body : RawProp) (d : Directive)
    → IsDirective s label report (formula_for s signals (placed_prop s bodies body)) d
    → d ≡ directive_for s signals (record { label = label; report = report; body = placed_prop s bodies body })
made_of s signals bodies label report body d h =
    λ i. record { label = h.named i; report = h.reported i; formula = h.meant i }

pub put_one : (s : Source) (signals : Signals) (bodies : Bodies) (word : ℕ) (label report : Option ℕ) (body : RawProp)
    (d : Directive) (old new : List Directive) → new ≡ old ++ d ∷ []
    → IsDirective s label report (formula_for s signals (placed_prop s bodies body)) d
    → new ≡ old ++ map (directive_for s signals) (placed_item s bodies (assert word label body report))
put_one s signals bodies word label report body d old new p h =
    p ∙ ap (λ x. old ++ x ∷ []) (made_of s signals bodies label report body d h)
