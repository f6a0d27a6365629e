-- Literals put into a set in another order, or at once, leave the same set.
use Rattle.std.proofs.Common.{◌≡◌, true, List, [], ◌∷◌, inl, inr, refl, sym, ap, ◌∙◌, arith}
use Rattle.auto_core.specs.declared.labels.Literal.{Literal}
use Rattle.auto_core.specs.LiteralSets.{precedes, put_literal, put_all}
use Rattle.auto_core.proofs.LabelOrder.{rank, rank-below}
use Rattle.auto_core.proofs.LabelLemmas.{compared, put_literal-before, put_literal-after, put_literal-there}

again : (l : Literal) (ms : List Literal) → put_literal l (put_literal l ms) ≡ put_literal l ms
again l [] = put_literal-there l l [] refl
again l (m ∷ ms) =
    elim (compared l m) [
      | inl e ↦ ap (λ s. put_literal l s) (put_literal-before l m ms e) ∙ put_literal-there l l (m ∷ ms) refl
          ∙ sym (put_literal-before l m ms e)
      | inr two ↦ elim two [
        | inl e ↦
            ap (λ s. put_literal l s) (put_literal-after l m ms e) ∙ put_literal-after l m (put_literal l ms) e
            ∙ ap (λ s. m ∷ s) (again l ms) ∙ sym (put_literal-after l m ms e)
        | inr e ↦ ap (λ s. put_literal l s) (put_literal-there l m ms e)
      ]
    ]

above : (a b c : Literal) → precedes a b ≡ true → precedes b c ≡ true → precedes a c ≡ true
above a b c h k =
    elim (compared a c) [
      | inl e ↦ e
      | inr two ↦ elim two [
        | inl e ↦ absurd (omega (arith, rank-below a b h, rank-below b c k, rank-below c a e))
        | inr e ↦ absurd (omega (arith, rank-below a b h, rank-below b c k, ap rank e))
      ]
    ]

-- two literals, the lower one put last or first
swapped_below : (a b : Literal) → precedes a b ≡ true → (ms : List Literal) →
    put_literal a (put_literal b ms) ≡ put_literal b (put_literal a ms)
swapped_below a b ab [] = put_literal-before a b [] ab ∙ sym (put_literal-after b a [] ab)
swapped_below a b ab (m ∷ ms) =
    elim (compared b m) [
      | inl bm ↦
          let am : precedes a m ≡ true = above a b m ab bm in
          ap (λ s. put_literal a s) (put_literal-before b m ms bm) ∙ put_literal-before a b (m ∷ ms) ab
          ∙ sym (ap (λ s. put_literal b s) (put_literal-before a m ms am) ∙ put_literal-after b a (m ∷ ms) ab
          ∙ ap (λ s. a ∷ s) (put_literal-before b m ms bm))
      | inr more ↦ elim more [
        | inl mb ↦ elim (compared a m) [
          | inl am ↦
              ap (λ s. put_literal a s) (put_literal-after b m ms mb) ∙ put_literal-before a m (put_literal b ms) am
              ∙ sym (ap (λ s. put_literal b s) (put_literal-before a m ms am) ∙ put_literal-after b a (m ∷ ms) ab
              ∙ ap (λ s. a ∷ s) (put_literal-after b m ms mb))
          | inr rest ↦ elim rest [
            | inl ma ↦
                ap (λ s. put_literal a s) (put_literal-after b m ms mb) ∙ put_literal-after a m (put_literal b ms) ma
                ∙ ap (λ s. m ∷ s) (swapped_below a b ab ms)
                ∙ sym (ap (λ s. put_literal b s) (put_literal-after a m ms ma)
                ∙ put_literal-after b m (put_literal a ms) mb)
            | inr same ↦
                ap (λ s. put_literal a s) (put_literal-after b m ms mb) ∙ put_literal-there a m (put_literal b ms) same
                ∙ sym (ap (λ s. put_literal b s) (put_literal-there a m ms same) ∙ put_literal-after b m ms mb)
          ]
        ]
        | inr same ↦
            let am : precedes a m ≡ true = ap (λ l. precedes a l) (sym same) ∙ ab in
            ap (λ s. put_literal a s) (put_literal-there b m ms same) ∙ put_literal-before a m ms am
            ∙ sym (ap (λ s. put_literal b s) (put_literal-before a m ms am) ∙ put_literal-after b a (m ∷ ms) ab
            ∙ ap (λ s. a ∷ s) (put_literal-there b m ms same))
      ]
    ]

swapped : (a b : Literal) (ms : List Literal) → put_literal a (put_literal b ms) ≡ put_literal b (put_literal a ms)
swapped a b ms =
    elim (compared a b) [
      | inl e ↦ swapped_below a b e ms
      | inr two ↦ elim two [
        | inl e ↦ sym (swapped_below b a e ms)
        | inr e ↦ ap (λ l. put_literal l (put_literal b ms)) e ∙ ap (λ l. put_literal b (put_literal l ms)) (sym e)
      ]
    ]

put_all-put_literal : (l : Literal) (ls ms : List Literal) → put_all ls (put_literal l ms) ≡ put_literal l
    (put_all ls ms)
put_all-put_literal l [] ms = refl
put_all-put_literal l (k ∷ ls) ms = ap (λ s. put_all ls s) (swapped k l ms)
    ∙ put_all-put_literal l ls (put_literal k ms)

put_literal-into : (l : Literal) (ls ms : List Literal) → put_all (put_literal l ls) ms ≡ put_literal l (put_all ls ms)
put_literal-into l [] ms = refl
put_literal-into l (k ∷ ls) ms =
    elim (compared l k) [
      | inl e ↦ ap (λ s. put_all s ms) (put_literal-before l k ls e) ∙ put_all-put_literal l (k ∷ ls) ms
      | inr two ↦ elim two [
        | inl e ↦ ap (λ s. put_all s ms) (put_literal-after l k ls e) ∙ put_literal-into l ls (put_literal k ms)
        | inr e ↦
            ap (λ s. put_all s ms) (put_literal-there l k ls e)
            ∙ sym (sym (put_all-put_literal l ls (put_literal k ms))
            ∙ ap (λ s. put_all ls s) (ap (λ x. put_literal x (put_literal k ms)) e ∙ again k ms))
      ]
    ]

-- a union put into a set is one part after the other
pub put_union : (ys xs zs : List Literal) → put_all (put_all ys xs) zs ≡ put_all ys (put_all xs zs)
put_union [] xs zs = refl
put_union (y ∷ ys) xs zs = put_union ys (put_literal y xs) zs ∙ ap (λ s. put_all ys s) (put_literal-into y xs zs)
