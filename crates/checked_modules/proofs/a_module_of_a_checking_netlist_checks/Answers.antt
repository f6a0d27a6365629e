use Rattle.checked_modules.proofs.Joining.{joined}
use Rattle.checked_modules.proofs.a_module_of_a_checking_netlist_checks.Goals as goal

pub returns : goal.returns
returns c m made widths places f inner reads checks keeps =
    joined c.wires_fit_their_widths.ensures m made widths places f inner reads checks keeps
