-- How the places of names are noted.
use Rattle.std.proofs.Common.{◌≡◌, ℕ, zero, suc, ◌+◌, ◌<◌, Bool, true, false, cond, Some, List, [], ◌∷◌, ◌++◌, length}
use Rattle.std.proofs.Common.{nat_eq, Option, refl, sym, ap, subst, ◌∙◌, arith}
use Rattle.std.proofs.lemmas.Grind.{common_steps}
use Rattle.std.proofs.lemmas.List.{get_or_append_left}
use Rattle.std.specs.Prelude.{slice_index_or, unwrap_or, ◌&&◌}
use Rattle.std.specs.Cmp.Lexicographic.{pointwise, bytes_decides}
use Rattle.indexmap.specs.IndexMap.{get, Updates}
use Rattle.psl_lexer.specs.declared.kinds.Token.{Token}
use Rattle.psl_grammar.specs.Units.{no_token, name_at}
use Rattle.unit_reader.specs.declared.namesakes.Namesakes.{Namesakes}
use Rattle.unit_reader.specs.inner.Namesakes.{is_name_kind, named_at, IsLatest, AreNoted}

pub data Side (k place : ℕ) : Type 0 where
  earlier : k < place → Side k place
  here : k ≡ place → Side k place
  later : place < k → Side k place

pub side_of : (k place : ℕ) → Side k place
side_of zero zero = here refl
side_of zero (suc p) = earlier (omega arith)
side_of (suc k) zero = later (omega arith)
side_of (suc k) (suc p) = elim (side_of k p) [
  | earlier h ↦ earlier (omega arith)
  | here h ↦ here (omega arith)
  | later h ↦ later (omega arith)
]

same_bytes : (a b : List ℕ) → pointwise nat_eq a b ≡ true → a ≡ b
same_bytes a b h = (bytes_decides a b).0 h

self_bytes : (a : List ℕ) → pointwise nat_eq a a ≡ true
self_bytes a = (bytes_decides a a).1 refl

-- what holds for each of two answers of a test
pub by_test : {P : Type 0} (b : Bool) → (b ≡ true → P) → (b ≡ false → P) → P
by_test true k l = k refl
by_test false k l = l refl

module _ (text : List ℕ) (tokens : List Token) where
  abbrev pub token : ℕ → Token
  token k = slice_index_or tokens k no_token

  -- a name is named as its bytes say
  named_is : (name : List ℕ) (k : ℕ) → is_name_kind (token k).kind ≡ true
      → named_at text tokens name k ≡ pointwise nat_eq name (name_at text tokens k)
  named_is name k h = ap (λ (b : Bool). b && pointwise nat_eq name (name_at text tokens k)) h

  not_named : (name : List ℕ) (k : ℕ) → is_name_kind (token k).kind ≡ false → named_at text tokens name k ≡ false
  not_named name k h = ap (λ (b : Bool). b && pointwise nat_eq name (name_at text tokens k)) h

  -- a token of another name changes nothing
  wider : (name : List ℕ) (place latest : ℕ) → IsLatest text tokens name place latest
      → named_at text tokens name place ≡ false → IsLatest text tokens name (place + 1) latest
  wider name place latest l other = record {
    before = let le = l.before in omega arith;
    behind = l.behind;
    no_later = λ k le lt. elim (side_of k place) [
      | earlier h ↦ l.no_later k le h
      | here h ↦ subst (λ (n : ℕ). named_at text tokens name n ≡ false) (sym h) other
      | later h ↦ absurd (omega arith)
    ];
  }

  -- a name is the latest with its bytes
  newest : (name : List ℕ) (place : ℕ) → named_at text tokens name place ≡ true
      → IsLatest text tokens name (place + 1) (place + 1)
  newest name place named = record {
    before = omega arith;
    behind = λ k e. let same : place ≡ k = omega arith in
        subst (λ (n : ℕ). named_at text tokens name n ≡ true) same named;
    no_later = λ k le lt. absurd (omega arith);
  }

  -- one more place
  noted : (place x : ℕ) (names more : Namesakes) → AreNoted text tokens place names
      → more.earlier.items ≡ names.earlier.items ++ x ∷ []
      → ((name : List ℕ) → named_at text tokens name place ≡ true → IsLatest text tokens name place x)
      → ((name : List ℕ) → IsLatest text tokens name (place + 1)
      (unwrap_or (get (pointwise nat_eq) more.latest name) 0))
      → AreNoted text tokens (place + 1) more
  noted place x names more n pushed found lasts = record {
    many = ap (λ (l : List ℕ). length l) pushed ∙ longer names.earlier.items n.many;
    each = λ name k lt named. elim (side_of k place) [
      | earlier h ↦ subst (λ (m : ℕ). IsLatest text tokens name k m)
          (sym (ap (λ (l : List ℕ). slice_index_or l k 0) pushed ∙ kept names.earlier.items k n.many h))
          (n.each name k h named)
      | here h ↦ subst (λ (m : ℕ). IsLatest text tokens name k m)
          (sym (ap (λ (l : List ℕ). slice_index_or l k 0) pushed ∙ put names.earlier.items k (n.many ∙ sym h)))
          (subst (λ (m : ℕ). IsLatest text tokens name m x) (sym h)
          (found name (subst (λ (m : ℕ). named_at text tokens name m ≡ true) h named)))
      | later h ↦ absurd (omega arith)
    ];
    last = lasts;
  }
    where
      longer : (xs : List ℕ) → length xs ≡ place → length (xs ++ x ∷ []) ≡ place + 1
      longer xs e = grind (arith, common_steps)

      kept : (xs : List ℕ) (k : ℕ) → length xs ≡ place → k < place → slice_index_or (xs ++ x ∷ []) k 0
          ≡ slice_index_or xs k 0
      kept xs k e lt = get_or_append_left xs (x ∷ []) 0 k (omega arith)

      put : (xs : List ℕ) (k : ℕ) → length xs ≡ k → slice_index_or (xs ++ x ∷ []) k 0 ≡ x
      put xs k e = grind (arith, common_steps)

  pub other_noted : (place : ℕ) (names more : Namesakes) → is_name_kind (token place).kind ≡ false
      → AreNoted text tokens place names → more.earlier.items ≡ names.earlier.items ++ 0 ∷ []
      → more.latest ≡ names.latest → AreNoted text tokens (place + 1) more
  other_noted place names more other n pushed same =
      noted place 0 names more n pushed
      (λ name named. absurd (no_name (sym named ∙ not_named name place other)))
      λ name. subst (λ l. IsLatest text tokens name (place + 1) (unwrap_or (get (pointwise nat_eq) l name) 0))
      (sym same)
      (wider name place _ (n.last name) (not_named name place other))
    where
      no_name : true ≡ false → ⊥
      no_name e = cc

  pub name_noted : (place x : ℕ) (key : List ℕ) (names more : Namesakes)
      → is_name_kind (token place).kind ≡ true → AreNoted text tokens place names → key ≡ name_at text tokens place
      → x ≡ unwrap_or (get (pointwise nat_eq) names.latest key) 0
      → Updates (pointwise nat_eq) names.latest more.latest key (Some (place + 1))
      → more.earlier.items ≡ names.earlier.items ++ x ∷ [] → AreNoted text tokens (place + 1) more
  name_noted place x key names more is_name n same x_is updates pushed =
      noted place x names more n pushed found lasts
    where
      found : (name : List ℕ) → named_at text tokens name place ≡ true → IsLatest text tokens name place x
      found name named =
          let alike : name ≡ key = same_bytes name (name_at text tokens place)
          (sym (named_is name place is_name) ∙ named) ∙ sym same in
          subst (λ (m : ℕ). IsLatest text tokens name place m)
          (ap (λ (q : List ℕ). unwrap_or (get (pointwise nat_eq) names.latest q) 0) alike ∙ sym x_is) (n.last name)

      name_key : (name : List ℕ) → pointwise nat_eq key name ≡ true → named_at text tokens name place ≡ true
      name_key name h =
          let alike : name ≡ name_at text tokens place = sym (same_bytes key name h) ∙ same in
          named_is name place is_name ∙ ap (λ (q : List ℕ). pointwise nat_eq q (name_at text tokens place)) alike
          ∙ self_bytes (name_at text tokens place)

      not_key : (name : List ℕ) → pointwise nat_eq key name ≡ false → named_at text tokens name place ≡ false
      not_key name h =
          by_test (named_at text tokens name place)
          (λ named. absurd (both (sym (self_key name named) ∙ h)))
          λ other. other
        where
          both : true ≡ false → ⊥
          both e = cc

          self_key : (name : List ℕ) → named_at text tokens name place ≡ true → pointwise nat_eq key name ≡ true
          self_key name named =
              let alike : name ≡ key = same_bytes name (name_at text tokens place)
              (sym (named_is name place is_name) ∙ named) ∙ sym same in
              ap (λ (q : List ℕ). pointwise nat_eq key q) alike ∙ self_bytes key

      lasts : (name : List ℕ) → IsLatest text tokens name (place + 1)
          (unwrap_or (get (pointwise nat_eq) more.latest name) 0)
      lasts name =
          subst (λ (o : Option ℕ). IsLatest text tokens name (place + 1) (unwrap_or o 0)) (sym (updates.0 name))
          (by_test (pointwise nat_eq key name)
          (λ h. subst (λ (b : Bool). IsLatest text tokens name (place + 1)
          (unwrap_or (cond b (Some (place + 1)) (get (pointwise nat_eq) names.latest name)) 0)) (sym h)
          (newest name place (name_key name h)))
          λ h. subst (λ (b : Bool). IsLatest text tokens name (place + 1)
          (unwrap_or (cond b (Some (place + 1)) (get (pointwise nat_eq) names.latest name)) 0)) (sym h)
          (wider name place _ (n.last name) (not_key name h)))
