-- What is put into a label is in it, and a label is determined by its members.
use Rattle.std.proofs.Common.{◌≡◌, ℕ, ◌<◌, Bool, true, cond, List, [], ◌∷◌, ◌++◌, Contains, ◌⊎◌, ◌↔◌}
use Rattle.std.proofs.Common.{inl, inr, refl, sym, ap, ◌∙◌, subst, Some, None, arith}
use Rattle.auto_core.specs.declared.labels.Literal.{Literal}
use Rattle.auto_core.specs.LiteralSets.{precedes, IsLabel, put_literal, put_all}
use Rattle.auto_core.specs.Machine.{Letter, Passes}
use Rattle.auto_core.specs.Edges.{PutsEdge, PassesEdge}
use Rattle.auto_core.proofs.Members.{Among, Contains-from_Among, Among-from_Contains, ByRecursion-among}
use Rattle.auto_core.proofs.Members.{ByRecursion-from}
use Rattle.auto_core.proofs.Once.{told}
use Rattle.auto_core.proofs.LabelOrder.{rank, rank-below, rank-not_below, precedes-from_rank, rank-same}

-- the three cases of `put_literal`
pub put_literal-before : (l m : Literal) (ms : List Literal) → precedes l m ≡ true → put_literal l (m ∷ ms) ≡ l ∷ m ∷ ms
put_literal-before l m ms h =
    ap (λ (b : Bool). cond b (l ∷ m ∷ ms) (cond (precedes m l) (m ∷ put_literal l ms) (m ∷ ms))) h

pub put_literal-after : (l m : Literal) (ms : List Literal) → precedes m l ≡ true →
    put_literal l (m ∷ ms) ≡ m ∷ put_literal l ms
put_literal-after l m ms h =
    elim (told (precedes l m)) [
      | inl e ↦ absurd (omega (arith, rank-below l m e, rank-below m l h))
      | inr e ↦ ap (λ (b : Bool). cond b (l ∷ m ∷ ms) (cond (precedes m l) (m ∷ put_literal l ms) (m ∷ ms))) e
          ∙ ap (λ (b : Bool). cond b (m ∷ put_literal l ms) (m ∷ ms)) h
    ]

pub put_literal-there : (l m : Literal) (ms : List Literal) → l ≡ m → put_literal l (m ∷ ms) ≡ m ∷ ms
put_literal-there l m ms same =
    elim (told (precedes l m)) [
      | inl e ↦ absurd (omega (arith, rank-below l m e, ap rank same))
      | inr e ↦ elim (told (precedes m l)) [
        | inl f ↦ absurd (omega (arith, rank-below m l f, ap rank same))
        | inr f ↦ ap (λ (b : Bool). cond b (l ∷ m ∷ ms) (cond (precedes m l) (m ∷ put_literal l ms) (m ∷ ms))) e
            ∙ ap (λ (b : Bool). cond b (m ∷ put_literal l ms) (m ∷ ms)) f
      ]
    ]

-- two literals stand in order, or are one
pub compared : (l m : Literal) → (precedes l m ≡ true) ⊎ (precedes m l ≡ true) ⊎ (l ≡ m)
compared l m =
    elim (told (precedes l m)) [
      | inl e ↦ inl e
      | inr e ↦ elim (told (precedes m l)) [
        | inl f ↦ inr (inl f)
        | inr f ↦ inr (inr (let g : rank l ≡ rank m = omega (arith, rank-not_below l m e, rank-not_below m l f) in
            rank-same l m g))
      ]
    ]

-- ---- the members

pub Among-put_literal : (l : Literal) (ms : List Literal) (x : Literal) → Among (put_literal l ms) x →
    (l ≡ x) ⊎ Among ms x
Among-put_literal l [] x h = h
Among-put_literal l (m ∷ ms) x h =
    elim (compared l m) [
      | inl e ↦ subst (λ (s : List Literal). Among s x) (put_literal-before l m ms e) h
      | inr two ↦ elim two [
        | inl e ↦ elim (subst (λ (s : List Literal). Among s x) (put_literal-after l m ms e) h) [
          | inl f ↦ inr (inl f)
          | inr more ↦ elim (Among-put_literal l ms x more) [ inl f ↦ inl f | inr f ↦ inr (inr f) ]
        ]
        | inr e ↦ inr (subst (λ (s : List Literal). Among s x) (put_literal-there l m ms e) h)
      ]
    ]

pub Among-put_literal_back : (l : Literal) (ms : List Literal) (x : Literal) → (l ≡ x) ⊎ Among ms x →
    Among (put_literal l ms) x
Among-put_literal_back l [] x h = h
Among-put_literal_back l (m ∷ ms) x h =
    elim (compared l m) [
      | inl e ↦ subst (λ (s : List Literal). Among s x) (sym (put_literal-before l m ms e)) h
      | inr two ↦ elim two [
        | inl e ↦ subst (λ (s : List Literal). Among s x) (sym (put_literal-after l m ms e)) (elim h [
          | inl f ↦ inr (Among-put_literal_back l ms x (inl f))
          | inr more ↦ elim more [ inl f ↦ inl f | inr f ↦ inr (Among-put_literal_back l ms x (inr f)) ]
        ])
        | inr e ↦ subst (λ (s : List Literal). Among s x) (sym (put_literal-there l m ms e))
            (elim h [ inl f ↦ inl (sym e ∙ f) | inr f ↦ f ])
      ]
    ]

pub Among-put_all : (ls ms : List Literal) (x : Literal) → Among (put_all ls ms) x → Among ls x ⊎ Among ms x
Among-put_all [] ms x h = inr h
Among-put_all (l ∷ ls) ms x h =
    elim (Among-put_all ls (put_literal l ms) x h) [
      | inl f ↦ inl (inr f)
      | inr f ↦ elim (Among-put_literal l ms x f) [ inl g ↦ inl (inl g) | inr g ↦ inr g ]
    ]

pub Among-put_all_back : (ls ms : List Literal) (x : Literal) → Among ls x ⊎ Among ms x → Among (put_all ls ms) x
Among-put_all_back [] ms x (inl h) = absurd h
Among-put_all_back [] ms x (inr h) = h
Among-put_all_back (l ∷ ls) ms x (inl (inl h)) = Among-put_all_back ls (put_literal l ms) x
    (inr (Among-put_literal_back l ms x (inl h)))
Among-put_all_back (l ∷ ls) ms x (inl (inr h)) = Among-put_all_back ls (put_literal l ms) x (inl h)
Among-put_all_back (l ∷ ls) ms x (inr h) = Among-put_all_back ls (put_literal l ms) x
    (inr (Among-put_literal_back l ms x (inr h)))

pub Contains-put_literal : (l : Literal) (ms : List Literal) (x : Literal) → Contains (put_literal l ms) x
    ↔ ((x ≡ l) ⊎ Contains ms x)
Contains-put_literal l ms x = (
  λ h. elim (Among-put_literal l ms x (Among-from_Contains _ x h))
      [ inl e ↦ inl (sym e) | inr f ↦ inr (Contains-from_Among ms x f) ],
  λ h. Contains-from_Among _ x
      (Among-put_literal_back l ms x (elim h [ inl e ↦ inl (sym e) | inr f ↦ inr (Among-from_Contains ms x f) ])),
)

pub Contains-put_all : (ls ms : List Literal) (x : Literal) → Contains (put_all ls ms) x
    ↔ (Contains ls x ⊎ Contains ms x)
Contains-put_all ls ms x = (
  λ h. elim (Among-put_all ls ms x (Among-from_Contains _ x h))
      [ inl f ↦ inl (Contains-from_Among ls x f) | inr f ↦ inr (Contains-from_Among ms x f) ],
  λ h. Contains-from_Among _ x
      (Among-put_all_back ls ms x
      (elim h [ inl f ↦ inl (Among-from_Contains ls x f) | inr f ↦ inr (Among-from_Contains ms x f) ])),
)

-- a letter passes the two sets exactly if it passes their union
pub Passes-put_all : (ls ms : List Literal) (a : Letter) → Passes (put_all ls ms) a ↔ (Passes ls a × Passes ms a)
Passes-put_all ls ms None = (λ h. (tt, tt), λ h. tt)
Passes-put_all ls ms (Some values) =
    let P : Literal → Type 0 = λ l. values l.symbol ≡ l.positive in (
      λ h. (
        ByRecursion-from P ls (λ x f. ByRecursion-among P _ x h (Among-put_all_back ls ms x (inl f))),
        ByRecursion-from P ms (λ x f. ByRecursion-among P _ x h (Among-put_all_back ls ms x (inr f))),
      ),
      λ h. ByRecursion-from P _ (λ x f. elim (Among-put_all ls ms x f) [
        | inl g ↦ ByRecursion-among P ls x h.0 g
        | inr g ↦ ByRecursion-among P ms x h.1 g
      ]),
    )

-- ---- the order

pub IsLabel-put_literal : (l : Literal) (ms : List Literal) → IsLabel ms → IsLabel (put_literal l ms)
IsLabel-put_literal l [] h = (tt, tt)
IsLabel-put_literal l (m ∷ ms) h =
    elim (compared l m) [
      | inl e ↦ subst IsLabel (sym (put_literal-before l m ms e)) (
        (
          e,
          ByRecursion-from (λ x. precedes l x ≡ true) ms (λ x f. precedes-from_rank l x
              (omega (
                arith,
                rank-below l m e,
                rank-below m x (ByRecursion-among (λ x. precedes m x ≡ true) ms x h.0 f),
              ))),
        ),
        h,
      )
      | inr two ↦ elim two [
        | inl e ↦ subst IsLabel (sym (put_literal-after l m ms e)) (
          ByRecursion-from (λ x. precedes m x ≡ true) (put_literal l ms) (λ x f. elim (Among-put_literal l ms x f) [
            | inl g ↦ subst (λ (y : Literal). precedes m y ≡ true) g e
            | inr g ↦ ByRecursion-among (λ x. precedes m x ≡ true) ms x h.0 g
          ]),
          IsLabel-put_literal l ms h.1,
        )
        | inr e ↦ subst IsLabel (sym (put_literal-there l m ms e)) h
      ]
    ]

pub IsLabel-put_all : (ls ms : List Literal) → IsLabel ms → IsLabel (put_all ls ms)
IsLabel-put_all [] ms h = h
IsLabel-put_all (l ∷ ls) ms h = IsLabel-put_all ls (put_literal l ms) (IsLabel-put_literal l ms h)

-- ---- two labels with the same members are one

pub same_label : (xs ys : List Literal) → IsLabel xs → IsLabel ys → ((l : Literal) → Among xs l → Among ys l) →
    ((l : Literal) → Among ys l → Among xs l) → xs ≡ ys
same_label [] [] h k there back = refl
same_label [] (y ∷ ys) h k there back = absurd (back y (inl refl))
same_label (x ∷ xs) [] h k there back = absurd (there x (inl refl))
same_label (x ∷ xs) (y ∷ ys) h k there back =
    let after_x : (l : Literal) → Among xs l → rank x < rank l = λ l f. rank-below x l
    (ByRecursion-among (λ m. precedes x m ≡ true) xs l h.0 f) in
    let after_y : (l : Literal) → Among ys l → rank y < rank l = λ l f. rank-below y l
    (ByRecursion-among (λ m. precedes y m ≡ true) ys l k.0 f) in
    let heads : rank x ≡ rank y = elim (there x (inl refl)) [
      | inl e ↦ ap rank (sym e)
      | inr f ↦ elim (back y (inl refl))
          [ inl e ↦ ap rank e | inr g ↦ absurd (omega (arith, after_y x f, after_x y g)) ]
    ] in
    let tails : xs ≡ ys = same_label xs ys h.1 k.1
    (λ l f. elim (there l (inr f)) [ inl e ↦ absurd (omega (arith, after_x l f, ap rank e, heads)) | inr g ↦ g ])
    (λ l f. elim (back l (inr f)) [ inl e ↦ absurd (omega (arith, after_y l f, ap rank e, heads)) | inr g ↦ g ]) in
    ap (λ (l : Literal). l ∷ xs) (rank-same x y heads) ∙ ap (λ (s : List Literal). y ∷ s) tails

-- a label put into the empty set is itself
pub put_all-nil : (ls : List Literal) → IsLabel ls → put_all ls [] ≡ ls
put_all-nil ls h = same_label (put_all ls []) ls (IsLabel-put_all ls [] tt) h
    (λ l f. elim (Among-put_all ls [] l f) [ inl g ↦ g | inr g ↦ absurd g ])
    (λ l f. Among-put_all_back ls [] l (inl f))

-- a union put into a third set is one part after the other
pub put_all-put_all : (ys xs zs : List Literal) → IsLabel xs → IsLabel ys → IsLabel zs →
    put_all (put_all ys xs) zs ≡ put_all ys (put_all xs zs)
put_all-put_all ys xs zs hx hy hz = same_label (put_all (put_all ys xs) zs) (put_all ys (put_all xs zs))
    (IsLabel-put_all (put_all ys xs) zs hz) (IsLabel-put_all ys (put_all xs zs) (IsLabel-put_all xs zs hz))
    (λ l f. Among-put_all_back ys (put_all xs zs) l (elim (Among-put_all (put_all ys xs) zs l f) [
      | inl g ↦ elim (Among-put_all ys xs l g) [ inl i ↦ inl i | inr i ↦ inr (Among-put_all_back xs zs l (inl i)) ]
      | inr g ↦ inr (Among-put_all_back xs zs l (inr g))
    ]))
    (λ l f. Among-put_all_back (put_all ys xs) zs l (elim (Among-put_all ys (put_all xs zs) l f) [
      | inl g ↦ inl (Among-put_all_back ys xs l (inl g))
      | inr g ↦ elim (Among-put_all xs zs l g) [ inl i ↦ inl (Among-put_all_back ys xs l (inr i)) | inr i ↦ inr i ]
    ]))

-- the clause `passes` of `Auto::label` follows from its clause `edge`
pub passes_by_edge : {S : Type 0} (edges : List (List Literal × S)) (place : ℕ) (old new : List Literal)
    → PutsEdge edges place old new → PassesEdge edges place old new
passes_by_edge edges place old new (label, next, there, (ordered, same)) = (
  label,
  next,
  there,
  λ a. subst (λ (s : List Literal). Passes s a ↔ (Passes label a × Passes old a)) (sym same)
      (Passes-put_all label old a),
)

-- what was there stays
pub kept_by_put_all : (ls old new : List Literal) → new ≡ put_all ls old → (l : Literal) → Contains old l →
    Contains new l
kept_by_put_all ls old new same l h = subst (λ (s : List Literal). Contains s l) (sym same)
    ((Contains-put_all ls old l).1 (inr h))

-- one more literal of a list put in
pub put_all-push : (ls : List Literal) (l : Literal) (ms : List Literal) → put_all (ls ++ l ∷ []) ms ≡ put_literal l
    (put_all ls ms)
put_all-push [] l ms = refl
put_all-push (k ∷ ls) l ms = put_all-push ls l (put_literal k ms)
