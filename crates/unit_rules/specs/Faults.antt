-- The rules on names, ranges, counts, literals, selects, widths and operators: which rule which token breaks, each with
-- its answer. Each site is judged by what is known from the sites before it. The faults of a site stand in the order of
-- their tokens, and at one token in the order of the answers' list.
use Rattle.std.specs.Prelude.{ℕ, ◌^◌, Bool, true, false, not, ◌&&◌, ◌||◌, ◌==◌, nat_lt, nat_le, if◌then◌else◌, Option}
use Rattle.std.specs.Prelude.{None, Some, List, [], ◌∷◌, ◌++◌, length}
use Rattle.psl_grammar.specs.RawExpr.{RawExpr, name, literal, unary, binary, choice}
use Rattle.psl_grammar.specs.RawUnit.{RawUnit}
use Rattle.psl_model.specs.Limits.{vector_limit}
use Rattle.psl_model.specs.Valid.{bare_by_both, bare_by_left, choose_bare, is_flip, wants_width}
use Rattle.unit_rules.specs.declared.errors.UnitError.{UnitError}
use Rattle.unit_rules.specs.declared.errors.UnitError.TheVariants.{DuplicateName, BadRange, CountTooLarge}
use Rattle.unit_rules.specs.declared.errors.UnitError.TheVariants.{TooManyDirectives, TooManySignals, BadLiteral}
use Rattle.unit_rules.specs.declared.errors.UnitError.TheVariants.{BadSelect, TooWide, ConstantArithmetic, TooTall}
use Rattle.unit_rules.specs.declared.errors.UnitError.TheVariants.{TooLarge, OutOfMemory}
use Rattle.unit_rules.specs.Source.{Source, kind_at, bytes_at, is_number, is_sized}
use Rattle.unit_rules.specs.Numbers.{number_at, is_lawful_sized}
use Rattle.unit_rules.specs.Operators.{un_op_of, bin_op_of, refuses_zero}
use Rattle.unit_rules.specs.Sites.{Site, span, declared, used, phrase, label, directive, literal_at, operator, counts}
use Rattle.unit_rules.specs.Sites.{unit_sites}
use Rattle.unit_rules.specs.Known.{Known, nothing, has_meaning, is_phrase, is_among, width_of_signal, after_site}

-- the most signals of a unit, the most directives, and the largest count
abbrev pub signal_limit : ℕ
signal_limit = 1024

abbrev pub directive_limit : ℕ
directive_limit = 256

abbrev pub count_limit : ℕ
count_limit = 4096

-- the fault, where the rule is broken
abbrev pub where_broken : Bool → UnitError → List UnitError
where_broken broken fault = if broken then fault ∷ [] else []

-- whether an expression takes its width from unsized decimals alone
abbrev pub is_bare : Source → RawExpr → Bool
is_bare s (name token select) = false
is_bare s (literal token) = is_number (kind_at s token)
is_bare s (unary mark a) = is_flip (un_op_of (kind_at s mark)) && is_bare s a
is_bare s (binary mark a b) =
    choose_bare (bare_by_both (bin_op_of (kind_at s mark))) (bare_by_left (bin_op_of (kind_at s mark))) (is_bare s a)
    (is_bare s b)
is_bare s (choice mark test first second) = is_bare s first && is_bare s second

-- a decimal has at most 32 bits
abbrev pub is_lawful_literal : Source → ℕ → Bool
is_lawful_literal s token =
    if is_number (kind_at s token) then nat_lt (number_at s token) (2 ^ 32)
    else if is_sized (kind_at s token) then is_lawful_sized (bytes_at s token)
    else true

-- a signal that has no number yet, and no number is left
abbrev pub too_many : Source → Known → ℕ → List UnitError
too_many s known token =
    where_broken (not (has_meaning known (bytes_at s token)) && nat_le signal_limit (length known.signals))
    (TooManySignals token)

abbrev pub second_count : Source → (low : ℕ) → Option ℕ → List UnitError
second_count s low None = []
second_count s low (Some high) =
    if is_number (kind_at s high)
    then where_broken (nat_lt (number_at s high) (number_at s low)) (BadRange high)
    ++ where_broken (nat_lt count_limit (number_at s high)) (CountTooLarge high)
    else []

abbrev pub low_end : Source → (width high : ℕ) → Option ℕ → List UnitError
low_end s width high None = []
low_end s width high (Some low) =
    where_broken (nat_le width 1 || nat_le width (number_at s low) || nat_lt (number_at s high) (number_at s low))
    (BadSelect low)

-- the faults of a select from a signal of some bits
abbrev pub select_faults : Source → (width : ℕ) → Option (ℕ × Option ℕ) → List UnitError
select_faults s width None = []
select_faults s width (Some select) =
    where_broken (nat_le width 1 || nat_le width (number_at s select.0)) (BadSelect select.0)
    ++ low_end s width select.0 select.1

-- the range of a `wire` ends at 0, isn't one of a single bit, and is no wider than a vector may be
abbrev pub span_faults : Source → (high low : ℕ) → List UnitError
span_faults s high low =
    where_broken (number_at s high == 0 && number_at s low == 0) (BadRange high)
    ++ where_broken (nat_le vector_limit (number_at s high)) (TooWide high)
    ++ where_broken (not (number_at s low == 0)) (BadRange low)

abbrev pub count_faults : Source → (mark low : ℕ) → Option ℕ → List UnitError
count_faults s mark low high =
    where_broken (refuses_zero (kind_at s mark) && number_at s low == 0) (BadRange low)
    ++ where_broken (nat_lt count_limit (number_at s low)) (CountTooLarge low)
    ++ second_count s low high

abbrev pub operator_faults : Source → (mark : ℕ) → (left right : RawExpr) → List UnitError
operator_faults s mark a b =
    where_broken (wants_width (bin_op_of (kind_at s mark)) && (is_bare s a && is_bare s b)) (ConstantArithmetic mark)

abbrev pub faults_at : Source → Known → Site → List UnitError
faults_at s known (span high low) = span_faults s high low
faults_at s known (declared token range) =
    where_broken (has_meaning known (bytes_at s token)) (DuplicateName token) ++ too_many s known token
faults_at s known (used token select) =
    where_broken (is_phrase known (bytes_at s token)) (DuplicateName token)
    ++ too_many s known token
    ++ select_faults s (width_of_signal known (bytes_at s token)) select
faults_at s known (phrase token) = where_broken (has_meaning known (bytes_at s token)) (DuplicateName token)
faults_at s known (label token) = where_broken (is_among (bytes_at s token) known.labels) (DuplicateName token)
faults_at s known (directive word) = where_broken (nat_le directive_limit known.directives) (TooManyDirectives word)
faults_at s known (literal_at token) = where_broken (not (is_lawful_literal s token)) (BadLiteral token)
faults_at s known (operator mark a b) = operator_faults s mark a b
faults_at s known (counts mark low high) = count_faults s mark low high

-- the faults of some sites, in their order
abbrev pub faults_in : Source → Known → List Site → List UnitError
faults_in s known [] = []
faults_in s known (site ∷ sites) = faults_at s known site ++ faults_in s (after_site s known site) sites

-- all broken rules of a unit, in the order of reading
abbrev pub unit_faults : Source → RawUnit → List UnitError
unit_faults s raw = faults_in s nothing (unit_sites raw)

-- the token of a fault, and its place in the answers' list
abbrev pub fault_token : UnitError → ℕ
fault_token (DuplicateName t) = t
fault_token (BadRange t) = t
fault_token (CountTooLarge t) = t
fault_token (TooManyDirectives t) = t
fault_token (TooManySignals t) = t
fault_token (BadLiteral t) = t
fault_token (BadSelect t) = t
fault_token (TooWide t) = t
fault_token (ConstantArithmetic t) = t
fault_token (TooTall d n) = 0
fault_token (TooLarge d n) = 0
fault_token OutOfMemory = 0

abbrev pub fault_rank : UnitError → ℕ
fault_rank (DuplicateName t) = 0
fault_rank (BadRange t) = 1
fault_rank (CountTooLarge t) = 2
fault_rank (TooManyDirectives t) = 3
fault_rank (TooManySignals t) = 4
fault_rank (BadLiteral t) = 5
fault_rank (BadSelect t) = 6
fault_rank (TooWide t) = 7
fault_rank (ConstantArithmetic t) = 8
fault_rank (TooTall d n) = 9
fault_rank (TooLarge d n) = 10
fault_rank OutOfMemory = 11
