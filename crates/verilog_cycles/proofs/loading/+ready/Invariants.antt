use Rattle.verilog_cycles.proofs.loading.+ready.Given as goal

abbrev pub decreases-ready : goal.decreases-ready
decreases-ready l = goal.size-ready l
