-- Tests that are joined, and the two answers of one.
use Rattle.std.proofs.Common.{◌≡◌, ◌≤◌, Bool, true, false, cond, refl, arith}
use Rattle.std.specs.Prelude.{not, ◌&&◌, ◌||◌}

pub by_test : {P : Type 0} (b : Bool) → (b ≡ true → P) → (b ≡ false → P) → P
by_test true k l = k refl
by_test false k l = l refl

pub and_true : (a : Bool) → (a && true) ≡ a
and_true true = refl
and_true false = refl

pub one_small : (b : Bool) → cond b 1 0 ≤ 1
one_small true = omega arith
one_small false = omega arith

-- a phrase that nothing loose ends is ended by what closes its brackets
pub closes_alone : (b c h : Bool) → (b && (c || (h && false))) ≡ (b && c)
closes_alone true true h = refl
closes_alone true false true = refl
closes_alone true false false = refl
closes_alone false c h = refl

-- one more that isn't so
pub none_or : (a b : Bool) → not (a && not b) ≡ (not a || b)
none_or true true = refl
none_or true false = refl
none_or false b = refl

pub event_order : (e b n : Bool) → (n && (e && b)) ≡ (e && ((b && true) && n))
event_order true true true = refl
event_order true true false = refl
event_order true false true = refl
event_order true false false = refl
event_order false b true = refl
event_order false b false = refl

pub never_event : (b n : Bool) → (n && (false && b)) ≡ false
never_event b true = refl
never_event b false = refl
