-- How the logic stores the trees.
pub use Rattle.psl_model.specs.inner.ExprCode.{coded_expr}
pub use Rattle.psl_model.specs.inner.SereCode.{coded_sere}
pub use Rattle.psl_model.specs.inner.FormulaCode.{coded_formula}
