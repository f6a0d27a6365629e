-- From one layer of the code's types, whose children are plain trees already, to the plain tree.
pub use Rattle.psl_model.specs.ExprView.{expr_of}
pub use Rattle.psl_model.specs.SereView.{sere_of}
pub use Rattle.psl_model.specs.FormulaView.{formula_of}
