-- The modules of the tests are lawful.
use Rattle.std.proofs.Common.{◌≡◌, ℕ, zero, suc, ◌<◌, ◌≤◌, ◌^◌, List, [], ◌∷◌, refl, arith, Bool, true, false}
use Rattle.std.specs.Prelude.{All, AllPairs, IfSome, slice_get, ◌&&◌, ◌≢◌}
use Rattle.psl_model.specs.declared.operators.BinOp.{BinOp}
use Rattle.psl_model.specs.declared.operators.BinOp.TheVariants.{Add, Sub, Shl, Shr, BitAnd}
use Rattle.psl_model.specs.declared.operators.BinOp.TheVariants.{BitXor, BitOr}
use Rattle.psl_model.specs.Expr.{Expr, whole, plain, binary}
use Rattle.psl_model.specs.Value.{width_of}
use Rattle.psl_model.specs.Valid.{wants_width}
use Rattle.psl_model.specs.Limits.{vector_limit}
use Rattle.verilog_text.specs.Module.{Register, state_widths, IsExpression, IsLawful, IsPort}
use Rattle.verilog_text.specs.Module.{IsRegister, IsWire}
use Rattle.worked_checks.specs.Modules.{exchange, comparison, counter}

none : {X : Type 0} (P : X → Type 0) → All P []
none P k d lt = absurd (omega arith)

no_pairs : {X : Type 0} (R : X → X → Type 0) → AllPairs R []
no_pairs R i j d lt within = absurd (omega arith)

more : {X : Type 0} (P : X → Type 0) (x : X) (xs : List X) → P x → All P xs → All P (x ∷ xs)
more P x xs is all zero d lt = is
more P x xs is all (suc k) d lt = all k d (omega arith)

abbrev line : (width initial : ℕ) → Expr → Register
line width initial next = record { width = width; initial = initial; next = next }

pub exchange_is_lawful : IsLawful exchange
exchange_is_lawful = record {
  identifier = (refl, refl);
  prefix = refl;
  report = tt;
  ports = none IsPort;
  distinct = no_pairs (λ p q. p ≢ q);
  registers = more (IsRegister exchange) (line 4 5 (whole 3)) (line 4 9 (whole 2) ∷ []) (record {
    width = (omega arith, omega arith);
    fits = omega arith;
    next = record { valid = omega arith; narrow = omega arith; shallow = omega arith };
  }) (more (IsRegister exchange) (line 4 9 (whole 2)) [] (record {
    width = (omega arith, omega arith);
    fits = omega arith;
    next = record { valid = omega arith; narrow = omega arith; shallow = omega arith };
  }) (none (IsRegister exchange)));
  wires = λ place. tt;
  fail = record {
    valid = (refl, omega arith, (omega arith, omega arith, omega arith));
    narrow = omega arith;
    shallow
        = omega arith;
  };
}

no_accident : (b : Bool) → b && false ≡ false
no_accident true = refl
no_accident false = refl

of_64 : (op : BinOp) → width_of (state_widths (comparison op 0 0 0)) (binary op (whole 2) (whole 3)) ≤ vector_limit
of_64 Add = omega arith
of_64 Sub = omega arith
of_64 Shl = omega arith
of_64 Shr = omega arith
of_64 BitAnd = omega arith
of_64 BitXor = omega arith
of_64 BitOr = omega arith
of_64 _ = omega arith

register : (op : BinOp) (x y z v : ℕ) (e : Expr) → v < 2 ^ 64 → IsExpression (1 ∷ 1 ∷ 64 ∷ 64 ∷ 64 ∷ 64 ∷ []) e →
    IsRegister (comparison op x y z) (record { width = 64; initial = v; next = e })
register op x y z v e fits is = record { width = (omega arith, omega arith); fits = fits; next = is }

pub comparison_is_lawful : (op : BinOp) (x y z : ℕ) → x < 2 ^ 64 → y < 2 ^ 64 → z < 2 ^ 64 → IsLawful (comparison op x
    y z)
comparison_is_lawful op x y z a b c = record {
  identifier = (refl, refl);
  prefix = refl;
  report = tt;
  ports = none IsPort;
  distinct = no_pairs (λ p q. p ≢ q);
  registers = more (IsRegister (comparison op x y z)) (line 64 x (whole 2)) (line 64 y (whole 3) ∷ line 64 z (whole 4)
      ∷ [])
      (register op x y z x (whole 2) a (record { valid = omega arith; narrow = omega arith; shallow = omega arith }))
      (more (IsRegister (comparison op x y z)) (line 64 y (whole 3)) (line 64 z (whole 4) ∷ [])
      (register op x y z y (whole 3) b (record { valid = omega arith; narrow = omega arith; shallow = omega arith }))
      (more (IsRegister (comparison op x y z)) (line 64 z (whole 4)) []
      (register op x y z z (whole 4) c (record { valid = omega arith; narrow = omega arith; shallow = omega arith }))
      (none (IsRegister (comparison op x y z)))));
  wires = wires;
  fail = record { valid = (refl, omega arith, omega arith); narrow = omega arith; shallow = omega arith };
}
  where
    wires : (place : ℕ) → IfSome (slice_get (comparison op x y z).wires place) (IsWire (comparison op x y z) place)
    wires zero = record {
      width = (omega arith, omega arith);
      value = record {
        valid = (no_accident (wants_width op), omega arith, omega arith);
        narrow = of_64 op;
        shallow =
            omega arith;
      };
    }
    wires (suc place) = tt

pub counter_is_lawful : IsLawful counter
counter_is_lawful = record {
  identifier = (refl, refl);
  prefix = refl;
  report = tt;
  ports = none IsPort;
  distinct = no_pairs (λ p q. p ≢ q);
  registers = more (IsRegister counter) (line 4 15 (binary Add (whole 2) (plain 1))) [] (record {
    width = (omega arith, omega arith);
    fits = omega arith;
    next = record { valid = (refl, omega arith, omega arith); narrow = omega arith; shallow = omega arith };
  }) (none (IsRegister counter));
  wires = wires;
  fail = record { valid = (omega arith, omega arith, omega arith); narrow = omega arith; shallow = omega arith };
}
  where
    wires : (place : ℕ) → IfSome (slice_get counter.wires place) (IsWire counter place)
    wires zero = record {
      width = (omega arith, omega arith);
      value = record {
        valid = (refl, (refl, omega arith, omega arith), omega arith);
        narrow = omega arith;
        shallow =
            omega arith;
      };
    }
    wires (suc zero) = record {
      width = (omega arith, omega arith);
      value = record {
        valid = (
          refl,
          (refl, omega arith, (omega arith, omega arith, omega arith)),
          (
            omega arith,
            omega arith,
            omega
                arith,
          ),
        );
        narrow = omega arith;
        shallow = omega arith;
      };
    }
    wires (suc (suc place)) = tt
