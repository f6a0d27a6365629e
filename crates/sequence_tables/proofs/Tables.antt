-- The table of a sequence from those of its parts.
use Rattle.std.proofs.Common.{◌≡◌, ◌↔◌, ◌≢◌, ◌∙◌, refl, sym, ap, subst, ℕ, zero, suc, ◌<◌, Bool, true, false, cond}
use Rattle.std.proofs.Common.{List, [], ◌∷◌, ◌++◌, map, length, inl, inr, ◌⊎◌, arith, append_assoc, All}
use Rattle.psl_model.specs.Expr.{Expr}
use Rattle.psl_meaning.specs.Sequence.{CoreSere, bool, empty, concat, fuse, or, both, star, Holds, Tight}
use Rattle.psl_meaning.specs.SequenceSugar.{copies}
use Rattle.psl_meaning.specs.Word as word
use Rattle.sequence_cores.specs.PlaceGraph.{Place, first, start_of, Step}
use Rattle.symbol_alphabet.specs.Symbols.{label_in, seen_by, HasSymbol, needs_none, same, stripped, with_symbol}
use Rattle.auto_core.specs.declared.labels.Literal.{Literal}
use Rattle.auto_core.specs.Graph.{Graph, graph_machine, IsReachedPart}
use Rattle.auto_core.specs.Machine.{Machine, Letter, Passes, Accepts}
use Rattle.auto_core.specs.Splits.{IsConcatenation, IsFusion, IsRepetition}
use Rattle.automata_product.specs.Both.{both_machine, OfPair}
use Rattle.automata_product.specs.Fuse.{fuse_machine}
use Rattle.automata_product.specs.Sides.{OfSides}
use Rattle.sere_automata.specs.Concat.{concat_machine}
use Rattle.sere_automata.specs.Leaf.{leaf_machine}
use Rattle.sere_automata.specs.OneOf.{one_of_machine}
use Rattle.sere_automata.specs.Repeat.{repeat_machine}
use Rattle.sere_automata.specs.States.{OfChoice, OfRound}
use Rattle.std.specs.List.{list_any}
use Rattle.sequence_tables.specs.PlaceTable.{ReachedBy, at_start, by_step, joined_label}
use Rattle.sequence_tables.specs.PlaceTable.{IsPlaceTable}
use Rattle.sequence_tables.specs.Words.{AcceptsTight}
use Rattle.sequence_tables.specs.inner.Built.{IsTableOf, HasSymbols, Stands, Makes, MakesOfTwo}
use Rattle.sequence_tables.specs.inner.Copies.{chain_machine}
use Rattle.sequence_tables.proofs.Forms.{InPlaces, sides, choices, pairs, rounds, ends, leaf_into, star_into}
use Rattle.sequence_tables.proofs.Forms.{concat_into, fuse_into, or_into, both_into}
use Rattle.sequence_tables.proofs.Members.{Among, append-nil, Contains-from_Among, Among-from_Contains}
use Rattle.sequence_tables.proofs.Parts.{place_at, into_of_part, part_through}
use Rattle.sequence_tables.proofs.Powers.{OwnCopy, unrolled, copies_into, one_copy_words, more_copies_words}
use Rattle.sequence_tables.proofs.Words.{Reads, all_seen, concat_reads, fusion_reads, repetition_reads}
use Rattle.sequence_tables.proofs.Words.{letter_reads, nothing_reads, seen_all}
use Rattle.sequence_tables.proofs.Within.{EachBelow, BelowIn, to_each, from_each, below-part, below_label, below-leaf}
use Rattle.sequence_tables.proofs.Within.{below-concat, below-fuse, below-one_of, below-both, below-repeat, below-chain}

-- the states of a table
abbrev pub Own : Graph → ℕ → Type 0
Own g i = i < length g.accepting

-- the letters of a list, one by one
reads_of : (symbols : List Expr) (r : CoreSere) (g : Graph) → AcceptsTight symbols r g → (widths : List ℕ) →
    Reads (seen_by widths symbols) (Accepts (graph_machine g)) (Tight widths r)
reads_of symbols r g law widths w seen = law widths w (all_seen w seen)

-- ---- graphs

module _ (label : Expr → List Literal) where
  -- a table of what is part of a place graph is a table of that
  through : {S : Type 0} {own : S → Type 0} {m : Machine S} (r : CoreSere) (f : S → Place) (t : Graph) →
      InPlaces label own m r f → IsTableOf own m t → IsPlaceTable label r t
  through r f t e made = (map f made.0.0, part_through f e made.0.0 t made.0.1 made.0.2)

  -- the places of a table's states
  abbrev named : (r : CoreSere) (g : Graph) → IsPlaceTable label r g → ℕ → Place
  named r g a = place_at (start_of r) a.0

  known : (r : CoreSere) (g : Graph) (a : IsPlaceTable label r g) →
      InPlaces label (Own g) (graph_machine g) r (named r g a)
  known r g a = into_of_part a.0 g a.1

  concat_graph : (r s : CoreSere) (g h t : Graph) → IsPlaceTable label r g → IsPlaceTable label s h →
      IsTableOf (OfSides (Own g) (Own h)) (concat_machine (graph_machine g) (graph_machine h)) t →
      IsPlaceTable label (concat r s) t
  concat_graph r s g h t a b made =
      through (concat r s) (sides (named r g a) (named s h b)) t
      (concat_into label r s (known r g a) (known s h b)) made

  fuse_graph : (r s : CoreSere) (g h t : Graph) → IsPlaceTable label r g → IsPlaceTable label s h →
      IsTableOf (OfSides (Own g) (Own h)) (fuse_machine (graph_machine g) (graph_machine h)) t →
      IsPlaceTable label (fuse r s) t
  fuse_graph r s g h t a b made =
      through (fuse r s) (sides (named r g a) (named s h b)) t (fuse_into label r s (known r g a) (known s h b)) made

  or_graph : (r s : CoreSere) (g h t : Graph) → IsPlaceTable label r g → IsPlaceTable label s h →
      IsTableOf (OfChoice (Own g) (Own h)) (one_of_machine (graph_machine g) (graph_machine h)) t →
      IsPlaceTable label (or r s) t
  or_graph r s g h t a b made =
      through (or r s) (choices (named r g a) (named s h b)) t (or_into label r s (known r g a) (known s h b)) made

  both_graph : (r s : CoreSere) (g h t : Graph) → IsPlaceTable label r g → IsPlaceTable label s h →
      IsTableOf (OfPair (Own g) (Own h)) (both_machine (graph_machine g) (graph_machine h)) t →
      IsPlaceTable label (both r s) t
  both_graph r s g h t a b made =
      through (both r s) (pairs (named r g a) (named s h b)) t (both_into label r s (known r g a) (known s h b)) made

  star_graph : (r : CoreSere) (g t : Graph) → IsPlaceTable label r g →
      IsTableOf (OfRound (Own g)) (repeat_machine (graph_machine g)) t → IsPlaceTable label (star r) t
  star_graph r g t a made = through (star r) (rounds (named r g a)) t (star_into label r (known r g a)) made

  copies_graph : (r : CoreSere) (g t : Graph) (k : ℕ) → IsPlaceTable label r g →
      IsTableOf (OwnCopy (Own g) (suc k)) (chain_machine (graph_machine g) (suc k)) t →
      IsPlaceTable label (copies (suc k) r) t
  copies_graph r g t k a made =
      through (copies (suc k) r) (unrolled label r (known r g a) k) t (copies_into label r (known r g a) k) made

  empty_graph : IsPlaceTable label empty (record { accepting = true ∷ []; edges = [] })
  empty_graph = (
    first ∷ [],
    record {
      first = refl;
      different = λ i j d lt below. absurd (omega (arith, lt, below));
      reached = λ p. (
        (λ h. subst (ReachedBy first (Step label joined_label empty))
            (elim (Among-from_Contains (first ∷ []) p h) [ inl e ↦ e | inr k ↦ absurd k ]) at_start),
        (λ h. Contains-from_Among (first ∷ []) p (inl (only p h))),
      );
      accepts = refl;
      edges = λ e. (
        (λ h. absurd (Among-from_Contains [] e h)),
        (λ h. absurd h.4),
      );
      once = λ i j d lt below. absurd (omega (arith, lt, below));
    },
  )
    where
      only : (p : Place) → ReachedBy first (Step label joined_label empty) p → first ≡ p
      only p at_start = refl
      only p (by_step {p = q} l next r step) = absurd step

-- ---- the symbols on labels

made_below : {S : Type 0} (n : ℕ) (m : Machine S) (states : List S) (t : Graph) → IsReachedPart m states t →
    BelowIn n m → EachBelow n t
made_below n m states t part a = to_each n t (below-part n m states t part a)

from_same : (n : ℕ) (g x : Graph) → x ≡ g → EachBelow n g → BelowIn n (graph_machine x)
from_same n g x e a = from_each n x (subst (EachBelow n) (sym e) a)

-- ---- tables

module _ (x y g h t : Graph) (e : x ≡ g) (k : y ≡ h) where
  pub concat_stands :
      ((w : List Letter) → Accepts (concat_machine (graph_machine x) (graph_machine y)) w
      ↔ IsConcatenation (Accepts (graph_machine g)) (Accepts (graph_machine h)) w) →
      IsTableOf (OfSides (Own x) (Own y)) (concat_machine (graph_machine x) (graph_machine y)) t →
      MakesOfTwo (λ r s. concat r s) g h t
  concat_stands law made symbols r s a b = record {
    booleans = (a.booleans, b.booleans);
    numbered = made_below (length symbols) (concat_machine (graph_machine x) (graph_machine y)) made.0.0 t made.0.2
        (below-concat (length symbols) (graph_machine x) (graph_machine y)
        (from_same (length symbols) g x e a.numbered) (from_same (length symbols) h y k b.numbered));
    graph = concat_graph (label_in symbols) r s x y t
        (subst (IsPlaceTable (label_in symbols) r) (sym e) a.graph)
        (subst (IsPlaceTable (label_in symbols) s) (sym k) b.graph) made;
    words = λ widths w all.
        let read = concat_reads (seen_by widths symbols) (Accepts (graph_machine g)) (Tight widths r)
        (Accepts (graph_machine h)) (Tight widths s) (reads_of symbols r g a.words widths)
        (reads_of symbols s h b.words widths) w (seen_all w all) in
        let v = map (seen_by widths symbols) w in
        ((λ n. read.0 ((law v).0 ((made.1 v).0 n))), (λ n. (made.1 v).1 ((law v).1 (read.1 n))));
  }

  pub fuse_stands :
      ((w : List Letter) → Accepts (fuse_machine (graph_machine x) (graph_machine y)) w
      ↔ IsFusion (Accepts (graph_machine g)) (Accepts (graph_machine h)) w) →
      IsTableOf (OfSides (Own x) (Own y)) (fuse_machine (graph_machine x) (graph_machine y)) t →
      MakesOfTwo (λ r s. fuse r s) g h t
  fuse_stands law made symbols r s a b = record {
    booleans = (a.booleans, b.booleans);
    numbered = made_below (length symbols) (fuse_machine (graph_machine x) (graph_machine y)) made.0.0 t made.0.2
        (below-fuse (length symbols) (graph_machine x) (graph_machine y)
        (from_same (length symbols) g x e a.numbered) (from_same (length symbols) h y k b.numbered));
    graph = fuse_graph (label_in symbols) r s x y t
        (subst (IsPlaceTable (label_in symbols) r) (sym e) a.graph)
        (subst (IsPlaceTable (label_in symbols) s) (sym k) b.graph) made;
    words = λ widths w all.
        let read = fusion_reads (seen_by widths symbols) (Accepts (graph_machine g)) (Tight widths r)
        (Accepts (graph_machine h)) (Tight widths s) (reads_of symbols r g a.words widths)
        (reads_of symbols s h b.words widths) w (seen_all w all) in
        let v = map (seen_by widths symbols) w in
        ((λ n. read.0 ((law v).0 ((made.1 v).0 n))), (λ n. (made.1 v).1 ((law v).1 (read.1 n))));
  }

  pub or_stands :
      ((w : List Letter) → Accepts (one_of_machine (graph_machine x) (graph_machine y)) w
      ↔ (Accepts (graph_machine g) w ⊎ Accepts (graph_machine h) w)) →
      IsTableOf (OfChoice (Own x) (Own y)) (one_of_machine (graph_machine x) (graph_machine y)) t →
      MakesOfTwo (λ r s. or r s) g h t
  or_stands law made symbols r s a b = record {
    booleans = (a.booleans, b.booleans);
    numbered = made_below (length symbols) (one_of_machine (graph_machine x) (graph_machine y)) made.0.0 t made.0.2
        (below-one_of (length symbols) (graph_machine x) (graph_machine y)
        (from_same (length symbols) g x e a.numbered) (from_same (length symbols) h y k b.numbered));
    graph = or_graph (label_in symbols) r s x y t
        (subst (IsPlaceTable (label_in symbols) r) (sym e) a.graph)
        (subst (IsPlaceTable (label_in symbols) s) (sym k) b.graph) made;
    words = λ widths w all.
        let v = map (seen_by widths symbols) w in (
          (λ n. elim ((law v).0 ((made.1 v).0 n))
              [ inl o ↦ inl ((a.words widths w all).0 o) | inr o ↦ inr ((b.words widths w all).0 o) ]),
          (λ n. (made.1 v).1 ((law v).1 (elim n
              [ inl o ↦ inl ((a.words widths w all).1 o) | inr o ↦ inr ((b.words widths w all).1 o) ]))),
        );
  }

  pub both_stands :
      ((w : List Letter) → Accepts (both_machine (graph_machine x) (graph_machine y)) w
      ↔ (Accepts (graph_machine g) w × Accepts (graph_machine h) w)) →
      IsTableOf (OfPair (Own x) (Own y)) (both_machine (graph_machine x) (graph_machine y)) t →
      MakesOfTwo (λ r s. both r s) g h t
  both_stands law made symbols r s a b = record {
    booleans = (a.booleans, b.booleans);
    numbered = made_below (length symbols) (both_machine (graph_machine x) (graph_machine y)) made.0.0 t made.0.2
        (below-both (length symbols) (graph_machine x) (graph_machine y)
        (from_same (length symbols) g x e a.numbered) (from_same (length symbols) h y k b.numbered));
    graph = both_graph (label_in symbols) r s x y t
        (subst (IsPlaceTable (label_in symbols) r) (sym e) a.graph)
        (subst (IsPlaceTable (label_in symbols) s) (sym k) b.graph) made;
    words = λ widths w all.
        let v = map (seen_by widths symbols) w in (
          (λ n. let o = (law v).0 ((made.1 v).0 n) in ((a.words widths w all).0 o.0, (b.words widths w all).0 o.1)),
          (λ n. (made.1 v).1 ((law v).1 ((a.words widths w all).1 n.0, (b.words widths w all).1 n.1))),
        );
  }

module _ (x g t : Graph) (e : x ≡ g) where
  pub star_stands :
      ((w : List Letter) → Accepts (repeat_machine (graph_machine x)) w ↔ IsRepetition (Accepts (graph_machine g)) w) →
      IsTableOf (OfRound (Own x)) (repeat_machine (graph_machine x)) t → Makes (λ r. star r) g t
  star_stands law made symbols r a = record {
    booleans = a.booleans;
    numbered = made_below (length symbols) (repeat_machine (graph_machine x)) made.0.0 t made.0.2
        (below-repeat (length symbols) (graph_machine x) (from_same (length symbols) g x e a.numbered));
    graph = star_graph (label_in symbols) r x t (subst (IsPlaceTable (label_in symbols) r) (sym e) a.graph) made;
    words = λ widths w all.
        let read = repetition_reads (seen_by widths symbols) (Accepts (graph_machine g)) (Tight widths r)
        (reads_of symbols r g a.words widths) w (seen_all w all) in
        let v = map (seen_by widths symbols) w in
        ((λ n. read.0 ((law v).0 ((made.1 v).0 n))), (λ n. (made.1 v).1 ((law v).1 (read.1 n))));
  }

-- ---- copies

copies_have_symbols : (symbols : List Expr) (r : CoreSere) (k : ℕ) → HasSymbols symbols r →
    HasSymbols symbols (copies k r)
copies_have_symbols symbols r zero h = tt
copies_have_symbols symbols r (suc zero) h = h
copies_have_symbols symbols r (suc (suc k)) h = (copies_have_symbols symbols r (suc k) h, h)

module _ (g : Graph) (law : (n : Machine (ℕ × ℕ)) (m : Machine ℕ) (w : List Letter) →
    Accepts (concat_machine n m) w ↔ IsConcatenation (Accepts n) (Accepts m) w) where
  copies_reads : (symbols : List Expr) (r : CoreSere) → AcceptsTight symbols r g → (widths : List ℕ) → (k : ℕ) →
      Reads (seen_by widths symbols) (Accepts (chain_machine (graph_machine g) (suc k)))
      (Tight widths (copies (suc k) r))
  copies_reads symbols r words widths zero w seen =
      let one = one_copy_words (graph_machine g) (map (seen_by widths symbols) w) in
      let read = reads_of symbols r g words widths w seen in
      ((λ n. read.0 (one.0 n)), (λ n. one.1 (read.1 n)))
  copies_reads symbols r words widths (suc k) w seen =
      let v = map (seen_by widths symbols) w in
      let more = more_copies_words (graph_machine g) (λ n. law n (graph_machine g)) k v in
      let read = concat_reads (seen_by widths symbols) (Accepts (chain_machine (graph_machine g) (suc k)))
      (Tight widths (copies (suc k) r)) (Accepts (graph_machine g)) (Tight widths r)
      (copies_reads symbols r words widths k) (reads_of symbols r g words widths) w seen in
      ((λ n. read.0 (more.0 n)), (λ n. more.1 (read.1 n)))

  pub copies_stand : (t : Graph) (k : ℕ) → 0 < k →
      IsTableOf (OwnCopy (Own g) k) (chain_machine (graph_machine g) k) t → Makes (λ r. copies k r) g t
  copies_stand t zero some made symbols r a = absurd (omega arith)
  copies_stand t (suc k) some made symbols r a = record {
    booleans = copies_have_symbols symbols r (suc k) a.booleans;
    numbered = made_below (length symbols) (chain_machine (graph_machine g) (suc k)) made.0.0 t made.0.2
        (below-chain (length symbols) (graph_machine g) (from_each (length symbols) g a.numbered) (suc k));
    graph = copies_graph (label_in symbols) r g t k a.graph made;
    words = λ widths w all.
        let v = map (seen_by widths symbols) w in
        let read = copies_reads symbols r a.words widths k w (seen_all w all) in
        ((λ n. read.0 ((made.1 v).0 n)), (λ n. (made.1 v).1 (read.1 n)));
  }

-- ---- the smallest tables

pub empty_stands : (t : Graph) → t ≡ record { accepting = true ∷ []; edges = [] } →
    ((w : List Letter) → Accepts (graph_machine t) w ↔ (w ≡ [])) → (symbols : List Expr) → Stands symbols empty t
empty_stands t e law symbols = record {
  booleans = tt;
  numbered = subst (EachBelow (length symbols)) (sym e) (λ i d lt. absurd (omega (arith, lt)));
  graph = subst (IsPlaceTable (label_in symbols) empty) (sym e) (empty_graph (label_in symbols));
  words = λ widths w all.
      let v = map (seen_by widths symbols) w in
      let read = nothing_reads (seen_by widths symbols) w (seen_all w all) in
      ((λ n. read.0 ((law v).0 n)), (λ n. (law v).1 (read.1 n)));
}

pub no_copies_stand : (g t : Graph) (k : ℕ) → k ≡ 0 → ((symbols : List Expr) → Stands symbols empty t) →
    Makes (λ r. copies k r) g t
no_copies_stand g t k e made symbols r a = subst (λ (n : ℕ). Stands symbols (copies n r) t) (sym e) (made symbols)

module _ (e : Expr) (symbols : List Expr) (has : HasSymbol symbols e)
    (stays : (symbols more : List Expr) (e : Expr) → HasSymbol symbols e →
    label_in (symbols ++ more) e ≡ label_in symbols e)
    (numbered : (symbols more : List Expr) (e : Expr) → HasSymbol symbols e → HasSymbol (symbols ++ more) e)
    (within : (symbols : List Expr) (e : Expr) → HasSymbol symbols e →
    All (λ l. l.symbol < length symbols) (label_in symbols e))
    (holds : (widths : List ℕ) (symbols : List Expr) (e : Expr) (a : word.Letter) → HasSymbol symbols e →
    a ≢ word.bottom → Passes (label_in symbols e) (seen_by widths symbols a) ↔ Holds widths e a) where
  pub leaf_stands : (x label : List Literal) (t : Graph) → x ≡ label → label ≡ label_in symbols e →
      ((w : List Letter) → Accepts (leaf_machine x) w ↔ ((a : Letter) × (w ≡ a ∷ []) × Passes label a)) →
      IsTableOf (λ _. Unit {0}) (leaf_machine x) t → (later : List Expr) → Stands (symbols ++ later) (bool e) t
  leaf_stands x label t same is law made later =
      let now : label ≡ label_in (symbols ++ later) e = is ∙ sym (stays symbols later e has) in
      let below = below_label (length (symbols ++ later)) (label_in (symbols ++ later) e)
      (within (symbols ++ later) e (numbered symbols later e has)) in
      record {
        booleans = numbered symbols later e has;
        numbered = made_below (length (symbols ++ later)) (leaf_machine x) made.0.0 t made.0.2
            (below-leaf (length (symbols ++ later)) x
            (λ l among. below l (subst (λ (z : List Literal). Among z l) (same ∙ now) among)));
        graph = through (label_in (symbols ++ later)) (bool e) ends t (leaf_into (label_in (symbols ++ later)) e)
            (subst (λ (l : List Literal). IsTableOf (λ _. Unit {0}) (leaf_machine l) t) (same ∙ now) made);
        words = λ widths w all.
            let f = seen_by widths (symbols ++ later) in
            let v = map f w in
            let passes : (a : word.Letter) → a ≢ word.bottom → Passes label (f a) ↔ Holds widths e a =
            λ a real. subst (λ (l : List Literal). Passes l (f a) ↔ Holds widths e a) (sym now)
            (holds widths (symbols ++ later) e a (numbered symbols later e has) real) in
            let read = letter_reads f widths e label passes w (seen_all w all) in
            ((λ n. read.0 ((law v).0 ((made.1 v).0 n))), (λ n. (made.1 v).1 ((law v).1 (read.1 n))));
      }

-- ---- more symbols

-- a list that goes on from another
abbrev pub GoesOn : List Expr → List Expr → Type 0
GoesOn old new = (more : List Expr) × (new ≡ old ++ more)

pub goes_on : (a b c : List Expr) → GoesOn a b → GoesOn b c → GoesOn a c
goes_on a b c (x, e) (y, f) = (x ++ y, f ∙ ap (λ (s : List Expr). s ++ y) e ∙ append_assoc a x y)

pub goes_on_same : (a b : List Expr) → b ≡ a → GoesOn a b
goes_on_same a b e = ([], e ∙ sym (append-nil a))

-- at most one more symbol
pub goes_on_seen : (a b : List Expr) (e : Expr) → b ≡ with_symbol a e → GoesOn a b
goes_on_seen a b e h =
    let grown = two (needs_none e) (list_any (same (stripped e)) a) a (stripped e ∷ []) in
    (grown.0, h ∙ grown.1)
  where
    two : (b c : Bool) (xs ys : List Expr) → (more : List Expr) × (cond b xs (cond c xs (xs ++ ys)) ≡ xs ++ more)
    two true c xs ys = ([], sym (append-nil xs))
    two false true xs ys = ([], sym (append-nil xs))
    two false false xs ys = (ys, refl)

-- what stands whatever symbols come later stands over the later ones
stands-more : (r : CoreSere) (g : Graph) (s s' : List Expr) → GoesOn s s' →
    ((later : List Expr) → Stands (s ++ later) r g) → (later : List Expr) → Stands (s' ++ later) r g
stands-more r g s s' (more, e) stands later =
    let same : s ++ (more ++ later) ≡ s' ++ later =
    sym (append_assoc s more later) ∙ ap (λ (z : List Expr). z ++ later) (sym e) in
    subst (λ (z : List Expr). Stands z r g) same (stands (more ++ later))

-- ---- the arms

pub one_stands : (form : CoreSere → CoreSere) (core a a' : CoreSere) (s : List Expr) (g t : Graph) →
    core ≡ form a → a' ≡ a → ((later : List Expr) → Stands (s ++ later) a' g) → Makes form g t →
    (later : List Expr) → Stands (s ++ later) core t
one_stands form core a a' s g t e i x made later =
    subst (λ (c : CoreSere). Stands (s ++ later) c t) (sym e)
    (made (s ++ later) a (subst (λ (c : CoreSere). Stands (s ++ later) c g) i (x later)))

pub two_stand : (form : CoreSere → CoreSere → CoreSere) (core a b a' b' : CoreSere) (s s' : List Expr)
    (g h t : Graph) → core ≡ form a b → a' ≡ a → b' ≡ b → GoesOn s s' →
    ((later : List Expr) → Stands (s ++ later) a' g) → ((later : List Expr) → Stands (s' ++ later) b' h) →
    MakesOfTwo form g h t → (later : List Expr) → Stands (s' ++ later) core t
two_stand form core a b a' b' s s' g h t e i k more x y made later =
    subst (λ (c : CoreSere). Stands (s' ++ later) c t) (sym e)
    (made (s' ++ later) a b
    (subst (λ (c : CoreSere). Stands (s' ++ later) c g) i (stands-more a' g s s' more x later))
    (subst (λ (c : CoreSere). Stands (s' ++ later) c h) k (y later)))

pub numbered_now : (s : List Expr) (r : CoreSere) (t : Graph) → ((later : List Expr) → Stands (s ++ later) r t) →
    EachBelow (length s) t
numbered_now s r t stands =
    subst (λ (z : List Expr). EachBelow (length z) t) (append-nil s) (stands []).numbered
