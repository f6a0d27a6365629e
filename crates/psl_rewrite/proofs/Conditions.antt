-- What a base form takes over from its formula: what holds of its expressions, and its counts and ranges.
use Rattle.std.proofs.Common.{◌≤◌, ◌+◌, ℕ, List, Bool, true, false, refl, arith}
use Rattle.std.specs.Prelude.{max}
use Rattle.psl_model.specs.Expr.{Expr}
use Rattle.psl_model.specs.Valid.{parentheses}
use Rattle.psl_model.specs.Sere as sere
use Rattle.psl_model.specs.Formula as formula
use Rattle.psl_model.specs.Formula.{Formula}
use Rattle.psl_model.specs.declared.formulas.Reach.{Reach}
use Rattle.psl_model.specs.declared.formulas.Reach.TheVariants as reach
use Rattle.psl_meaning.specs.SequenceSugar.{always_true}
use Rattle.psl_rewrite.specs.Base.{Base}
use Rattle.psl_rewrite.specs.BaseForm.{always_false, as_expr, not_expr, and_expr, iff_expr, or_form, suffix_sere}
use Rattle.psl_rewrite.specs.BaseForm.{never_form, eventually_form, next_form, event_form, stop_of, before_form}
use Rattle.psl_rewrite.specs.BaseForm.{base_form_of}
use Rattle.psl_rewrite.specs.Conditions.{IsAllowed, SereHas, FormulaHas, BaseHas, count_limit, IsReach}
use Rattle.psl_rewrite.specs.Conditions.{SereCounts, FormulaCounts, BaseCounts}

-- what P of the expressions of a formula gives Q of those that are made of them
pub record Closes (P Q : Expr → Type 0) : Type 0 where
  pub keeps : (e : Expr) → P e → Q e
  pub nothing : P always_false
  pub anything : Q always_true
  pub negates : (e : Expr) → P e → Q (not_expr e)
  pub joins : (a b : Expr) → P a → P b → Q (and_expr a b)
  pub joins_not : (a b : Expr) → P a → P b → Q (and_expr a (not_expr b))
  pub equates : (a b : Expr) → P a → P b → Q (iff_expr a b)

module _ (P Q : Expr → Type 0) (c : Closes P Q) where
  sere_has : (r : sere.Sere) → SereHas P r → SereHas Q r
  sere_has (sere.bool e) h = c.keeps e h
  sere_has (sere.concat r s) h = (sere_has r h.0, sere_has s h.1)
  sere_has (sere.fuse r s) h = (sere_has r h.0, sere_has s h.1)
  sere_has (sere.or r s) h = (sere_has r h.0, sere_has s h.1)
  sere_has (sere.both r s) h = (sere_has r h.0, sere_has s h.1)
  sere_has (sere.meet r s) h = (sere_has r h.0, sere_has s h.1)
  sere_has (sere.within r s) h = (sere_has r h.0, sere_has s h.1)
  sere_has (sere.repeat r low high) h = sere_has r h
  sere_has (sere.goto e low high) h = c.keeps e h
  sere_has (sere.equal e low high) h = c.keeps e h

  as_has : (f : Formula) → FormulaHas P f → P (as_expr f)
  as_has (formula.bool e) h = h
  as_has f h = c.nothing

  or_has : (f g : Formula) (left right : Base) → FormulaHas P f → FormulaHas P g → BaseHas Q left → BaseHas Q right →
      BaseHas Q (or_form f g left right)
  or_has (formula.bool e) g left right h k p q = (c.keeps e h, q)
  or_has f g left right h k p q = (c.keeps (as_expr g) (as_has g k), p)

  suffix_has : (later : Bool) (r : sere.Sere) → SereHas P r → SereHas Q (suffix_sere later r)
  suffix_has false r h = sere_has r h
  suffix_has true r h = (sere_has r h, c.anything)

  never_has : (f : Formula) → FormulaHas P f → BaseHas Q (never_form f)
  never_has (formula.seq r s) h = (sere_has r h, c.keeps always_false c.nothing)
  never_has f h = c.negates (as_expr f) (as_has f h)

  eventually_has : (f : Formula) → FormulaHas P f → BaseHas Q (eventually_form f)
  eventually_has (formula.seq r s) h = sere_has r h
  eventually_has f h = (c.anything, c.keeps (as_expr f) (as_has f h))

  next_has : (r : Reach) (s : Bool) (low high : ℕ) (f : Formula) (body : Base) → FormulaHas P f → BaseHas Q body →
      BaseHas Q (next_form r s low high f body)
  next_has reach.One s low high f body h p = p
  next_has reach.All s low high f body h p = p
  next_has reach.Some s low high f body h p = c.keeps (as_expr f) (as_has f h)

  event_has : (r : Reach) (s : Bool) (on : Expr) (low high : ℕ) (f : Formula) (body : Base) → P on →
      FormulaHas P f → BaseHas Q body → BaseHas Q (event_form r s on low high f body)
  event_has reach.One s on low high f body o h p = (c.keeps on o, p)
  event_has reach.All s on low high f body o h p = (c.keeps on o, p)
  event_has reach.Some s on low high f body o h p = (c.keeps on o, c.keeps (as_expr f) (as_has f h))

  stop_has : (overlap : Bool) (f g : Formula) → FormulaHas P f → FormulaHas P g → Q (stop_of overlap f g)
  stop_has false f g h k = c.keeps (as_expr g) (as_has g k)
  stop_has true f g h k = c.joins (as_expr f) (as_expr g) (as_has f h) (as_has g k)

  before_has : (s overlap : Bool) (f g : Formula) → FormulaHas P f → FormulaHas P g →
      BaseHas Q (before_form s overlap f g)
  before_has s false f g h k =
      (c.negates (as_expr g) (as_has g k), c.joins_not (as_expr f) (as_expr g) (as_has f h) (as_has g k))
  before_has s true f g h k = (c.negates (as_expr g) (as_has g k), c.keeps (as_expr f) (as_has f h))

  pub base_has : (f : Formula) → FormulaHas P f → BaseHas Q (base_form_of f)
  base_has (formula.bool e) h = c.keeps e h
  base_has (formula.not f) h = c.negates (as_expr f) (as_has f h)
  base_has (formula.and f g) h = (base_has f h.0, base_has g h.1)
  base_has (formula.or f g) h =
      or_has f g (base_form_of f) (base_form_of g) h.0 h.1 (base_has f h.0) (base_has g h.1)
  base_has (formula.implies f g) h = (c.keeps (as_expr f) (as_has f h.0), base_has g h.1)
  base_has (formula.iff f g) h = c.equates (as_expr f) (as_expr g) (as_has f h.0) (as_has g h.1)
  base_has (formula.seq r s) h = sere_has r h
  base_has (formula.suffix r later f) h = (suffix_has later r h.0, base_has f h.1)
  base_has (formula.always f) h = base_has f h
  base_has (formula.never f) h = never_has f h
  base_has (formula.eventually f) h = eventually_has f h
  base_has (formula.next s r low high f) h = next_has r s low high f (base_form_of f) h (base_has f h)
  base_has (formula.event on s r low high f) h =
      event_has r s on low high f (base_form_of f) h.0 h.1 (base_has f h.1)
  base_has (formula.until s overlap f g) h = (base_has f h.0, stop_has overlap f g h.0 h.1)
  base_has (formula.before s overlap f g) h = before_has s overlap f g h.0 h.1
  base_has (formula.abort f on) h = (base_has f h.0, c.keeps on h.1)

module _ (widths : List ℕ) (limit : ℕ) where
  abbrev Before : Expr → Type 0
  Before e = IsAllowed widths limit e

  abbrev After : Expr → Type 0
  After e = IsAllowed widths (limit + 3) e

  keeps : (e : Expr) → Before e → After e
  keeps e h =
      let more : parentheses e ≤ limit + 3 = omega (arith, h.1) in
      (h.0, more)

  negates : (e : Expr) → Before e → After (not_expr e)
  negates e h =
      let more : parentheses e + 1 ≤ limit + 3 = omega (arith, h.1) in
      (h.0, more)

  joins : (a b : Expr) → Before a → Before b → After (and_expr a b)
  joins a b h k =
      let more : max (parentheses a) (parentheses b) + 1 ≤ limit + 3 = omega (arith, h.1, k.1) in
      ((refl, h.0, k.0), more)

  joins_not : (a b : Expr) → Before a → Before b → After (and_expr a (not_expr b))
  joins_not a b h k =
      let more : max (parentheses a) (parentheses b + 1) + 1 ≤ limit + 3 = omega (arith, h.1, k.1) in
      ((refl, h.0, k.0), more)

  equates : (a b : Expr) → Before a → Before b → After (iff_expr a b)
  equates a b h k =
      let more : max (parentheses a + 1) (parentheses b + 1) + 1 ≤ limit + 3 = omega (arith, h.1, k.1) in
      ((refl, h.0, k.0), more)

  pub allowed : Closes (IsAllowed widths limit) (IsAllowed widths (limit + 3))
  allowed = record {
    keeps = keeps;
    nothing = ((omega arith, omega arith, omega arith), omega arith);
    anything = ((omega arith, omega arith, omega arith), omega arith);
    negates = negates;
    joins = joins;
    joins_not = joins_not;
    equates = equates;
  }

-- ---- counts and ranges

or_counts : (f g : Formula) (left right : Base) → BaseCounts left → BaseCounts right →
    BaseCounts (or_form f g left right)
or_counts (formula.bool e) g left right p q = q
or_counts f g left right p q = p

suffix_counts : (later : Bool) (r : sere.Sere) → SereCounts r → SereCounts (suffix_sere later r)
suffix_counts false r h = h
suffix_counts true r h = (h, tt)

never_counts : (f : Formula) → FormulaCounts f → BaseCounts (never_form f)
never_counts (formula.seq r s) h = (h, tt)
never_counts f h = tt

eventually_counts : (f : Formula) → FormulaCounts f → BaseCounts (eventually_form f)
eventually_counts (formula.seq r s) h = h
eventually_counts f h = tt

next_counts : (r : Reach) (s : Bool) (low high : ℕ) (f : Formula) (body : Base) → IsReach r 0 low high →
    BaseCounts body → BaseCounts (next_form r s low high f body)
next_counts reach.One s low high f body h p =
    let few : low ≤ count_limit = omega (arith, h.0, h.1.2) in
    (few, p)
next_counts reach.All s low high f body h p = (h, p)
next_counts reach.Some s low high f body h p = h

event_counts : (r : Reach) (s : Bool) (on : Expr) (low high : ℕ) (f : Formula) (body : Base) → IsReach r 1 low high →
    BaseCounts body → BaseCounts (event_form r s on low high f body)
event_counts reach.One s on low high f body h p =
    let few : low ≤ count_limit = omega (arith, h.0, h.1.2) in
    let same : low ≤ low = omega arith in
    ((h.1.0, same, few), p)
event_counts reach.All s on low high f body h p = (h, p)
event_counts reach.Some s on low high f body h p = h

before_counts : (s overlap : Bool) (f g : Formula) → BaseCounts (before_form s overlap f g)
before_counts s false f g = tt
before_counts s true f g = tt

pub base_counts : (f : Formula) → FormulaCounts f → BaseCounts (base_form_of f)
base_counts (formula.bool e) h = tt
base_counts (formula.not f) h = tt
base_counts (formula.and f g) h = (base_counts f h.0, base_counts g h.1)
base_counts (formula.or f g) h =
    or_counts f g (base_form_of f) (base_form_of g) (base_counts f h.0) (base_counts g h.1)
base_counts (formula.implies f g) h = base_counts g h.1
base_counts (formula.iff f g) h = tt
base_counts (formula.seq r s) h = h
base_counts (formula.suffix r later f) h = (suffix_counts later r h.0, base_counts f h.1)
base_counts (formula.always f) h = base_counts f h
base_counts (formula.never f) h = never_counts f h
base_counts (formula.eventually f) h = eventually_counts f h
base_counts (formula.next s r low high f) h = next_counts r s low high f (base_form_of f) h.0 (base_counts f h.1)
base_counts (formula.event on s r low high f) h =
    event_counts r s on low high f (base_form_of f) h.0 (base_counts f h.1)
base_counts (formula.until s overlap f g) h = base_counts f h.0
base_counts (formula.before s overlap f g) h = before_counts s overlap f g
base_counts (formula.abort f on) h = base_counts f h
