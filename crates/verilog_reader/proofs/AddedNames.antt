-- A table to which a new name is added.
use Rattle.std.proofs.Common.{◌≡◌, ℕ, false, List, [], ◌∷◌, ◌++◌, refl, ap, sym, ◌∙◌, Some, None, map}
use Rattle.std.proofs.lemmas.List.{map-append}
use Rattle.std.specs.Prelude.{Option, is_some, nat_eq}
use Rattle.std.specs.Cmp.Lexicographic.{pointwise}
use Rattle.indexmap.specs.IndexMap.{IndexMap, keys, values, get, insert_entry}
use Rattle.indexmap.proofs.MapLemmas.{some_index}
use Rattle.indexmap.proofs.CallerLemmas.{insert_entry-new}
use Rattle.verilog_reader.specs.inner.Phrases.{place_of}

none_from : {X : Type 0} (o : Option X) → is_some o ≡ false → o ≡ None
none_from None e = refl
none_from (Some x) e = cc

module _ {S : Type 0} (m n : IndexMap (List ℕ) ℕ S) (name : List ℕ) (width : ℕ) where
  entries : place_of (keys m) name ≡ None → n.entries ≡ insert_entry (pointwise nat_eq) m.entries name width →
      n.entries ≡ m.entries ++ (name, width) ∷ []
  unfolding place_of
  entries absent inserted =
      let gone : is_some (get (pointwise nat_eq) m name) ≡ false = sym (some_index (pointwise nat_eq name) m.entries)
      ∙ ap is_some absent in
      inserted ∙ insert_entry-new (pointwise nat_eq) m name width (none_from (get (pointwise nat_eq) m name) gone)

  pub pushed_keys : place_of (keys m) name ≡ None → n.entries ≡ insert_entry (pointwise nat_eq) m.entries name width →
      keys n ≡ keys m ++ name ∷ []
  pushed_keys absent inserted =
      ap (λ (es : List (List ℕ × ℕ)). map (λ (e : List ℕ × ℕ). e.0) es) (entries absent inserted)
      ∙ map-append (λ (e : List ℕ × ℕ). e.0) m.entries ((name, width) ∷ [])

  pub pushed_values : place_of (keys m) name ≡ None → n.entries ≡ insert_entry (pointwise nat_eq) m.entries name width →
      values n ≡ values m ++ width ∷ []
  pushed_values absent inserted =
      ap (λ (es : List (List ℕ × ℕ)). map (λ (e : List ℕ × ℕ). e.1) es) (entries absent inserted)
      ∙ map-append (λ (e : List ℕ × ℕ). e.1) m.entries ((name, width) ∷ [])
