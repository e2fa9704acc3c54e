use Rattle.simulator.proofs.serve.serve.Goals as goal

pub returns-in-Grant-clause-serves : goal.returns-in-Grant-clause-serves
returns-in-Grant-clause-serves g c = rw c.in-Grant.is c.grant.ensures.calls

pub returns-in-Settle-clause-serves : goal.returns-in-Settle-clause-serves
returns-in-Settle-clause-serves g c = rw c.in-Settle.is c.settle.ensures.calls
