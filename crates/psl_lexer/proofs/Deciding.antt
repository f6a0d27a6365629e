-- What stands at the front of a text can be decided.
use Rattle.std.proofs.Common.{subst, ◌≡◌, ◌≤◌, ℕ, zero, suc, ◌+◌, ◌<◌, sym, ap, refl, true, false, nat_eq}
use Rattle.std.proofs.Common.{Some, None, List, [], ◌∷◌, take, drop, length, slice_index, arith, inl, inr, ◌⊎◌}
use Rattle.std.proofs.Common.{codes, Contains, bytes_eq}
use Rattle.std.specs.List.{prefix_len, starts_with}
use Rattle.std.proofs.lemmas.Bool.{both_ways, cases_Bool, cases_lt, cases_eq}
use Rattle.std.proofs.lemmas.List.Sums.{prefix_len-le-length}
use Rattle.std.proofs.lemmas.Slice.Eq.{bytes_eq-Decides}
use Rattle.psl_model.specs.Names.{begins_name, continues_name, IsIdentifier, is_report_byte, checker_prefix}
use Rattle.psl_model.specs.Reserved.{left_out_words, verilog_words}
use Rattle.psl_lexer.specs.Shapes.{is_digit, is_base, is_base_digit, continues_number, IsLeftOutWord}
use Rattle.psl_lexer.specs.Gaps.{ClosesAt, IsGap, OpensComment, is_blank, is_in_line}
use Rattle.psl_lexer.specs.inner.Lexemes.{IsFixed, Spells, SpellsLongest, HasNoMore}
use Rattle.psl_lexer.specs.inner.Places.{fixed}
use Rattle.psl_lexer.specs.inner.Steps.{HasNoFixed, IsLongestFixed, Stands}
use Rattle.psl_lexer.specs.declared.kinds.Kind.TheVariants as kind
use Rattle.psl_lexer.specs.declared.kinds.Lexeme.{Lexeme}
use Rattle.psl_lexer.specs.declared.kinds.Lexeme.TheVariants as lexeme
use Rattle.psl_lexer.specs.declared.stepping.Step.{Step}
use Rattle.psl_lexer.specs.declared.stepping.Step.TheVariants as step
use Rattle.psl_lexer.proofs.Members.{no_member, member_here, member_there, member_cases}
use Rattle.psl_lexer.proofs.Fixed.{fixed_sound, fixed_complete}
use Rattle.psl_lexer.proofs.Fronts.{fixed_lexeme, fixed_longest, fixed_none, strong_fixed, mark_fixed}
use Rattle.psl_lexer.proofs.Names.{name_part, number_part, usable}
use Rattle.psl_lexer.proofs.Sized.{SizedFront, no_sized, sized_longest}
use Rattle.psl_lexer.proofs.Texts.{no_text, text_longest}
use Rattle.psl_lexer.proofs.Gaps.{nothing_here, opened_by}
use Rattle.psl_lexer.proofs.Taken.{taken}

-- one of a list, or none of it
member : (text : List ℕ) (xs : List (List ℕ)) → Contains xs text ⊎ (Contains xs text → ⊥)
member text [] = inr (no_member text)
member text (x ∷ xs) =
    let rest : Contains xs text ⊎ (Contains xs text → ⊥) = member text xs in
    elim (cases_Bool (bytes_eq x text)) [
      | inl here ↦ inl (member_here x text xs ((bytes_eq-Decides x text).0 here))
      | inr other ↦ elim rest [
        | inl there ↦ inl (member_there x text xs there)
        | inr none ↦ inr (λ m. elim (member_cases x text xs m) [
          | inl same ↦ both_ways (bytes_eq x text) other ((bytes_eq-Decides x text).1 same)
          | inr there ↦ none there
        ])
      ]
    ]

abbrev HasText : List ℕ → List (List ℕ × Lexeme) → Type 0
HasText text pairs =
    ((x : Lexeme) × Contains pairs (text, x)) ⊎ ((x : Lexeme) → Contains pairs (text, x) → ⊥)

pair_or_none : (text : List ℕ) (pairs : List (List ℕ × Lexeme)) → HasText text pairs
pair_or_none text [] = inr (λ x m. no_member (text, x) m)
pair_or_none text (p ∷ pairs) =
    let rest : HasText text pairs = pair_or_none text pairs in
    elim (cases_Bool (bytes_eq p.0 text)) [
      | inl here ↦ let same : p.0 ≡ text = (bytes_eq-Decides p.0 text).0 here in
          inl (p.1, member_here p (text, p.1) pairs (ap (λ (s : List ℕ). (s, p.1)) same))
      | inr other ↦ elim rest [
        | inl there ↦ inl (there.0, member_there p (text, there.0) pairs there.1)
        | inr none ↦ inr (λ x m. elim (member_cases p (text, x) pairs m) [
          | inl same ↦ both_ways (bytes_eq p.0 text) other ((bytes_eq-Decides p.0 text).1 (ap (λ (q : List ℕ
              × Lexeme). q.0) same))
          | inr there ↦ none x there
        ])
      ]
    ]

fixed_or_none : (text : List ℕ) → ((x : Lexeme) × IsFixed x text) ⊎ ((x : Lexeme) → IsFixed x text → ⊥)
fixed_or_none text = elim (pair_or_none text fixed) [
  | inl found ↦ inl (found.0, fixed_sound found.0 text found.1)
  | inr none ↦ inr (λ x f. none x (fixed_complete x text f))
]

one_more : (bytes : List ℕ) (low high : ℕ) → HasNoFixed bytes low high
    → (suc high ≤ length bytes → (x : Lexeme) → IsFixed x (take (suc high) bytes) → ⊥)
    → HasNoFixed bytes low (suc high)
one_more bytes low high before here more above top within x is = elim (cases_lt high more) [
  | inl beyond ↦
      let same : more ≡ suc high = omega arith in
      let P : ℕ → Type 0 = λ (k : ℕ). IsFixed x (take k bytes) in here (omega arith) x (subst P same is)
  | inr up_to ↦ before more above up_to within x is
]

abbrev FixedSearch : List ℕ → ℕ → ℕ → Type 0
FixedSearch bytes low high =
    ((found : Lexeme × ℕ) × IsLongestFixed bytes low high found.0 found.1) ⊎ HasNoFixed bytes low high

extended : (bytes : List ℕ) (low high : ℕ) → FixedSearch bytes low high
    → (suc high ≤ length bytes → (x : Lexeme) → IsFixed x (take (suc high) bytes) → ⊥)
    → FixedSearch bytes low (suc high)
extended bytes low high (inl found) here = inl (
  found.0,
  record {
    above = found.1.above;
    within = found.1.within;
    is_fixed = found.1.is_fixed;
    none_longer = one_more bytes found.0.1 high found.1.none_longer here;
  },
)
extended bytes low high (inr none) here = inr (one_more bytes low high none here)

fixed_search : (bytes : List ℕ) (low extra : ℕ) → FixedSearch bytes low (extra + low)
fixed_search bytes low zero = inr (λ more above top within x is. absurd (omega arith))
fixed_search bytes low (suc extra) =
    let high : ℕ = extra + low in
    let next : suc extra + low ≡ suc high = omega arith in
    let before : FixedSearch bytes low high = fixed_search bytes low extra in
    let P : ℕ → Type 0 = λ (k : ℕ). FixedSearch bytes low k in
    subst P (sym next) (elim (cases_lt high (length bytes)) [
      | inl within ↦ elim (fixed_or_none (take (suc high) bytes)) [
        | inl found ↦ inl (
          (found.0, suc high),
          record {
            above = omega arith;
            within = omega arith;
            is_fixed = found.1;
            none_longer = λ more above top within x is. absurd (omega arith);
          },
        )
        | inr none ↦ extended bytes low high before (λ room. none)
      ]
      | inr beyond ↦ extended bytes low high before (λ room. absurd (omega arith))
    ])

neither : (text : List ℕ) → (Contains left_out_words text → ⊥) → (Contains verilog_words text → ⊥)
    → IsLeftOutWord text → ⊥
neither text left verilog (inl m) = left m
neither text left verilog (inr m) = verilog m

-- what a name is that is no word
unlisted : (text : List ℕ) → IsIdentifier text → ((x : Lexeme) → IsFixed x text → ⊥) → (x : Lexeme) × Spells x text
unlisted text i no_fixed = elim (member text left_out_words) [
  | inl m ↦ (lexeme.LeftOut, inr (inl (inl m)))
  | inr left ↦ elim (member text verilog_words) [
    | inl m ↦ (lexeme.LeftOut, inr (inl (inr m)))
    | inr verilog ↦ elim (cases_Bool (starts_with nat_eq text checker_prefix)) [
      | inl kept ↦ (lexeme.LeftOut, inr (inr (i, kept)))
      | inr free ↦ elim (cases_lt 255 (length text)) [
        | inl long ↦ (
          lexeme.NameTooLong,
          record {
            identifier = i;
            long = long;
            not_kept = λ k. both_ways (starts_with nat_eq text checker_prefix) free k.1;
            not_left_out = neither text left verilog;
          },
        )
        | inr short ↦ (lexeme.Token kind.Name, usable text i no_fixed (neither text left verilog) free short)
      ]
    ]
  ]
]

named : (text : List ℕ) → IsIdentifier text → (x : Lexeme) × Spells x text
named text i = elim (fixed_or_none text) [
  | inl found ↦ (found.0, fixed_lexeme found.0 text found.1)
  | inr none ↦ unlisted text i none
]

abbrev Here : List ℕ → Type 0
Here bytes = (x : Lexeme) × (n : ℕ) × SpellsLongest x bytes n

name_here : (bytes : List ℕ) → 0 < length bytes → begins_name (slice_index bytes 0) ≡ true → Here bytes
name_here bytes some first =
    let count : ℕ = prefix_len continues_name bytes in
    let two : 2 + count ≡ count + 2 = omega arith in
    let P : ℕ → Type 0 = λ (k : ℕ). FixedSearch bytes count k in
    elim (subst P two (fixed_search bytes count 2)) [
      | inl found ↦ (
        found.0.0,
        found.0.1,
        fixed_longest bytes count (count + 2) (strong_fixed bytes count first refl)
            (Some found.0) found.1,
      )
      | inr none ↦
          let name : (x : Lexeme) × Spells x (take count bytes) =
          named (take count bytes) (name_part bytes count some first refl) in (
            name.0,
            count,
            record {
              within = prefix_len-le-length continues_name bytes;
              is_lexeme = name.1;
              no_more = fixed_none bytes count (count + 2) (strong_fixed bytes count first refl) None none;
            },
          )
    ]

number_here : (bytes : List ℕ) → 0 < length bytes → is_digit (slice_index bytes 0) ≡ true → Here bytes
number_here bytes some first =
    let count : ℕ = prefix_len continues_number bytes in
    let digits : ℕ = prefix_len is_base_digit (drop (count + 2) bytes) in
    let plain : ((more : ℕ) → more ≤ length bytes → SizedFront bytes count more → ⊥) → Here bytes = λ none. (
      lexeme.Token kind.Number,
      count,
      record {
        within = prefix_len-le-length continues_number bytes;
        is_lexeme = number_part bytes count some first refl;
        no_more = no_sized bytes count first refl none;
      },
    ) in
    elim (cases_lt (count + 2) (length bytes)) [
      | inl room ↦ elim (cases_eq (slice_index bytes count) 39) [
        | inl quote ↦ elim (cases_Bool (is_base (slice_index bytes (count + 1)))) [
          | inl base ↦ elim (cases_lt 0 digits) [
            | inl more ↦ (
              lexeme.Token kind.Sized,
              count + 2 + digits,
              sized_longest bytes count digits some first refl
                  room quote base refl (prefix_len-le-length is_base_digit (drop (count + 2) bytes)) more,
            )
            | inr no_digit ↦ plain (λ more within front. let above : count + 2 < more = front.some in
                let short : more ≤ count + 2 + digits = front.short in omega arith)
          ]
          | inr no_base ↦ plain (λ more within front. both_ways (is_base (slice_index bytes (count + 1))) no_base
              front.base)
        ]
        | inr other ↦ plain (λ more within front. other front.quote)
      ]
      | inr short ↦ plain (λ more within front. let above : count + 2 < more = front.some in omega arith)
    ]

text_here : (bytes : List ℕ) → 0 < length bytes → slice_index bytes 0 ≡ 34 → Here bytes ⊎ HasNoMore bytes 0
text_here bytes some first =
    let inside : ℕ = prefix_len is_report_byte (drop 1 bytes) in
    elim (cases_lt 255 inside) [
      | inl long ↦ inr (no_text bytes first (λ more within front. let short : inside ≤ 255 =
          front.short in omega arith))
      | inr short ↦ elim (cases_lt (inside + 1) (length bytes)) [
        | inl room ↦ elim (cases_eq (slice_index bytes (inside + 1)) 34) [
          | inl quote ↦ inl (lexeme.Token kind.Text, inside + 2, text_longest bytes inside first refl short room quote)
          | inr other ↦ inr (no_text bytes first (λ more within front. other front.quote))
        ]
        | inr ended ↦ inr (no_text bytes first (λ more within front. let all : more ≡ inside + 2 =
            front.all in omega arith))
      ]
    ]

mark_here : (bytes : List ℕ) → begins_name (slice_index bytes 0) ≡ false → is_digit (slice_index bytes 0) ≡ false
    → (slice_index bytes 0 ≡ 34 → ⊥) → Here bytes ⊎ HasNoMore bytes 0
mark_here bytes name digit quote = elim (fixed_search bytes 0 3) [
  | inl found ↦ inl (
    found.0.0,
    found.0.1,
    fixed_longest bytes 0 3 (mark_fixed bytes name digit quote) (Some found.0)
        found.1,
  )
  | inr none ↦ inr (fixed_none bytes 0 3 (mark_fixed bytes name digit quote) None none)
]

lexeme_here : (bytes : List ℕ) → 0 < length bytes → Here bytes ⊎ HasNoMore bytes 0
lexeme_here bytes some = elim (cases_Bool (begins_name (slice_index bytes 0))) [
  | inl name ↦ inl (name_here bytes some name)
  | inr no_name ↦ elim (cases_Bool (is_digit (slice_index bytes 0))) [
    | inl digit ↦ inl (number_here bytes some digit)
    | inr no_digit ↦ elim (cases_eq (slice_index bytes 0) 34) [
      | inl quote ↦ text_here bytes some quote
      | inr no_quote ↦ mark_here bytes no_name no_digit no_quote
    ]
  ]
]

closes : (bytes : List ℕ) (place : ℕ) → ClosesAt bytes place ⊎ (ClosesAt bytes place → ⊥)
closes bytes place = elim (cases_lt place 2) [
  | inl before ↦ inr (λ c. let behind : 2 ≤ place = c.behind in omega arith)
  | inr behind ↦ elim (cases_lt (place + 1) (length bytes)) [
    | inl within ↦ elim (cases_eq (slice_index bytes place) 42) [
      | inl star ↦ elim (cases_eq (slice_index bytes (place + 1)) 47) [
        | inl slash ↦ inl (record { behind = behind; within = within; star = star; slash = slash })
        | inr other ↦ inr (λ c. other c.slash)
      ]
      | inr other ↦ inr (λ c. other c.star)
    ]
    | inr ended ↦ inr (λ c. let within : place + 1 < length bytes = c.within in omega arith)
  ]
]

abbrev FirstClose : List ℕ → ℕ → Type 0
FirstClose bytes n =
    ((place : ℕ) × ClosesAt bytes place × ((sooner : ℕ) → sooner < place → ClosesAt bytes sooner → ⊥))
    ⊎ ((place : ℕ) → place < n → ClosesAt bytes place → ⊥)

first_close : (bytes : List ℕ) (n : ℕ) → FirstClose bytes n
first_close bytes zero = inr (λ place h c. absurd (omega arith))
first_close bytes (suc n) =
    let before : FirstClose bytes n = first_close bytes n in
    elim before [
      | inl found ↦ inl found
      | inr none ↦ elim (closes bytes n) [
        | inl here ↦ inl (n, here, none)
        | inr not_here ↦ inr (λ place h c. elim (cases_lt place n) [
          | inl sooner ↦ none place sooner c
          | inr later ↦ let same : place ≡ n = omega arith in
              let P : ℕ → Type 0 = λ (k : ℕ). ClosesAt bytes k in not_here (subst P same c)
        ])
      ]
    ]

blank_slash : (b : ℕ) → is_blank b ≡ true → b ≡ 47 → ⊥
blank_slash b blank slash = let e : is_blank 47 ≡ true = subst (λ (x : ℕ). is_blank x ≡ true) slash blank in cc

-- a comment that isn't closed
no_gap_open : (bytes : List ℕ) → starts_with nat_eq bytes (codes "/*") ≡ true
    → ((place : ℕ) → place < length bytes → ClosesAt bytes place → ⊥) → (count : ℕ) → IsGap bytes count → ⊥
no_gap_open bytes opened none count (inl b) = blank_slash (slice_index bytes 0) b.blank (opened_by bytes 47 42
    opened).1
no_gap_open bytes opened none count (inr (inl l)) =
    let block : (2 ≤ length bytes) × (slice_index bytes 0 ≡ 47)
    × (slice_index bytes 1 ≡ 42) = opened_by bytes 47 42 opened in
    let line : (2 ≤ length bytes) × (slice_index bytes 0 ≡ 47)
    × (slice_index bytes 1 ≡ 47) = opened_by bytes 47 47 l.opened in
    let second : slice_index bytes 1 ≡ 42 = block.2 in
    let other : slice_index bytes 1 ≡ 47 = line.2 in
    omega arith
no_gap_open bytes opened none count (inr (inr b)) =
    let within : b.last + 1 < length bytes = b.closed.within in none b.last (omega arith) b.closed

block_here : (bytes : List ℕ) → 0 < length bytes → starts_with nat_eq bytes (codes "/*") ≡ true
    → (s : Step) × Stands s bytes
block_here bytes some opened = elim (first_close bytes (length bytes)) [
  | inl found ↦ (
    step.Gap (found.0 + 2),
    inr (inr (record {
      opened = opened;
      last = found.0;
      closed = found.1;
      first = found.2;
      all = refl;
    })),
  )
  | inr none ↦ (
    step.Bad,
    record {
      some_byte = some;
      no_gap = no_gap_open bytes opened none;
      no_lexeme = λ count t. t.no_comment (inr opened);
    },
  )
]

no_comment : (bytes : List ℕ) → starts_with nat_eq bytes (codes "//") ≡ false
    → starts_with nat_eq bytes (codes "/*") ≡ false → OpensComment bytes → ⊥
no_comment bytes line block (inl l) = both_ways (starts_with nat_eq bytes (codes "//")) line l
no_comment bytes line block (inr b) = both_ways (starts_with nat_eq bytes (codes "/*")) block b

pub step_here : (bytes : List ℕ) → 0 < length bytes → (s : Step) × Stands s bytes
step_here bytes some = elim (cases_Bool (is_blank (slice_index bytes 0))) [
  | inl blank ↦ (step.Gap 1, inl (record { one = refl; within = omega arith; blank = blank }))
  | inr no_blank ↦ elim (cases_Bool (starts_with nat_eq bytes (codes "//"))) [
    | inl opened ↦ (step.Gap (prefix_len is_in_line bytes), inr (inl (record { opened = opened; line = refl })))
    | inr no_line ↦ elim (cases_Bool (starts_with nat_eq bytes (codes "/*"))) [
      | inl opened ↦ block_here bytes some opened
      | inr no_block ↦ elim (lexeme_here bytes some) [
        | inl found ↦ (
          step.Taken found.0 found.1,
          taken found.0 bytes found.1 (no_comment bytes no_line no_block)
              found.2,
        )
        | inr none ↦ (step.Bad, nothing_here bytes some no_blank (no_comment bytes no_line no_block) none)
      ]
    ]
  ]
]
