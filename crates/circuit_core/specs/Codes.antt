-- How the logic stores netlists. Which codes are taken changes no statement's meaning: the logic asks only that no two
-- values have one code.
use Rattle.std.specs.Prelude.{ℕ, ◌≡◌, ◌⊎◌, Bool, List, Option, Some, None, refl}
use Rattle.std.proofs.Common.{inl, inr}
use Rattle.std.specs.Coded.{Coded, code_by, coded_ℕ, coded_bool, coded_list, coded_option, coded×, coded⊎}
use Rattle.psl_model.specs.Expr.{Expr}
use Rattle.psl_model.specs.inner.Codes.{coded_expr}
use Rattle.circuit_core.specs.Netlist.{Op, bit, eot, guard, not, and, or, register, Node, Register, Netlist}

-- a constant or none for the end of execution, an expression, and the nets and registers of the other variants
abbrev pub Stored : Type 0
Stored = Option Bool ⊎ (Expr ⊎ (ℕ ⊎ ((ℕ × ℕ) ⊎ ((ℕ × ℕ) ⊎ ℕ))))

abbrev pub stored : Op → Stored
stored (bit b) = inl (Some b)
stored eot = inl None
stored (guard e) = inr (inl e)
stored (not a) = inr (inr (inl a))
stored (and a b) = inr (inr (inr (inl (a, b))))
stored (or a b) = inr (inr (inr (inr (inl (a, b)))))
stored (register r) = inr (inr (inr (inr (inr r))))

abbrev pub restored : Stored → Op
restored (inl (Some b)) = bit b
restored (inl None) = eot
restored (inr (inl e)) = guard e
restored (inr (inr (inl a))) = not a
restored (inr (inr (inr (inl p)))) = and p.0 p.1
restored (inr (inr (inr (inr (inl p))))) = or p.0 p.1
restored (inr (inr (inr (inr (inr r))))) = register r

pub restored_is : (op : Op) → restored (stored op) ≡ op
restored_is (bit b) = refl
restored_is eot = refl
restored_is (guard e) = refl
restored_is (not a) = refl
restored_is (and a b) = refl
restored_is (or a b) = refl
restored_is (register r) = refl

abbrev pub coded_op : Coded Op
coded_op = code_by Stored
    (coded⊎ (coded_option coded_bool) (coded⊎ coded_expr (coded⊎ coded_ℕ (coded⊎ (coded× coded_ℕ coded_ℕ)
    (coded⊎ (coded× coded_ℕ coded_ℕ) coded_ℕ)))))
    stored restored restored_is

abbrev pub coded_node : Coded Node
coded_node = code_by (ℕ × Op) (coded× coded_ℕ coded_op) (λ n. (n.width, n.op))
    (λ p. record { width = p.0; op = p.1 }) (λ _. refl)

abbrev pub coded_register : Coded Register
coded_register = code_by (ℕ × (ℕ × Option ℕ)) (coded× coded_ℕ (coded× coded_ℕ (coded_option coded_ℕ)))
    (λ r. (r.width, (r.initial, r.next))) (λ p. record { width = p.0; initial = p.1.0; next = p.1.1 }) (λ _. refl)

abbrev pub coded_netlist : Coded Netlist
coded_netlist = code_by ((List ℕ × List Node) × (List Register × Option ℕ))
    (coded× (coded× (coded_list coded_ℕ) (coded_list coded_node))
    (coded× (coded_list coded_register) (coded_option coded_ℕ)))
    (λ m. ((m.widths, m.nodes), (m.registers, m.output)))
    (λ p. record { widths = p.0.0; nodes = p.0.1; registers = p.1.0; output = p.1.1 }) (λ _. refl)
