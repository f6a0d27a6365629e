use Rattle.strong_obligations.proofs.chains.delayed.Goals as goal

pub returns-clause-stream : goal.returns-clause-stream
returns-clause-stream c inputs run h = record {
  begins = c.in_ok-register.ensures.begins inputs run (c.set_next.ensures.runs inputs run h);
  goes_on = c.set_next.ensures.follows c.in_ok-register.held.0 c.in_ok-register.ensures.net_of inputs run h;
}
