-- A list of valuations is a word without bottoms, whether it ends or goes on with tops.
use Rattle.std.proofs.Common.{◌≢◌, ℕ, zero, suc, List, [], ◌∷◌, Option, Some, None, refl, map}
use Rattle.std.specs.Prelude.{slice_get}
use Rattle.psl_meaning.specs.Word.{Valuation, Letter, valuation, top, bottom, finite, with_tops, option_or, Reaches}
use Rattle.psl_rewrite.specs.SameMeaning.{HasNoBottom}

clean_letters : (trace : List Valuation) (o : Option Letter) (k : ℕ) → o ≢ Some bottom →
    option_or (slice_get (map valuation trace) k) o ≢ Some bottom
clean_letters [] o k h = h
clean_letters (v ∷ trace) o zero h = λ e. absurd (cc (e))
clean_letters (v ∷ trace) o (suc k) h = clean_letters trace o k h

pub no_bottom_finite : (trace : List Valuation) → HasNoBottom (finite (map valuation trace))
no_bottom_finite trace k = clean_letters trace None k (λ e. absurd (cc (e)))

pub no_bottom_tops : (trace : List Valuation) → HasNoBottom (with_tops (map valuation trace))
no_bottom_tops trace k = clean_letters trace (Some top) k (λ e. absurd (cc (e)))

pub begun_reaches : (trace : List Valuation) → trace ≢ [] → Reaches (finite (map valuation trace)) 0
begun_reaches [] some = absurd (some refl)
begun_reaches (v ∷ trace) some = refl
