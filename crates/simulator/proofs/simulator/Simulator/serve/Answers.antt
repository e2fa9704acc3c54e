use Rattle.std.proofs.Common.{refl}
use Rattle.simulator.specs.declared.simulator.Simulator.TheVariants.{Empty, Single, Layered, Cells}
use Rattle.node.proofs.Reaching.{run_sound}
use Rattle.simulator.proofs.Reach.{served, same_node}
use Rattle.simulator.proofs.simulator.Simulator.serve.Goals as goal

pub returns-in-Empty-clause-run : goal.returns-in-Empty-clause-run
returns-in-Empty-clause-run c =
    rw c.in-Empty.is (served Empty c.args.frame.now c.begin.result c.begin.new.self c.begin.ensures.serves)

pub returns-in-Single : goal.returns-in-Single
returns-in-Single c = rw c.in-Single.is (record {
  run = served (Single c.in-Single.node) c.args.frame.now c.serve.result (Single c.serve.new.node) (c.serve.new.node, refl, c.serve.ensures.serves);
  serves = (c.serve.new.node, refl, c.serve.ensures.serves);
  same = λ at. same_node Single c.in-Single.node c.serve.new.node c.serve.result (c.serve.ensures.same (run_sound at.2));
})

pub returns-in-Layered : goal.returns-in-Layered
returns-in-Layered c = rw c.in-Layered.is (record {
  run = served (Layered c.in-Layered.node) c.args.frame.now c.serve-in-Layered.result (Layered c.serve-in-Layered.new.node) (c.serve-in-Layered.new.node, refl, c.serve-in-Layered.ensures.serves);
  serves = (c.serve-in-Layered.new.node, refl, c.serve-in-Layered.ensures.serves);
  same = λ at. same_node Layered c.in-Layered.node c.serve-in-Layered.new.node c.serve-in-Layered.result (c.serve-in-Layered.ensures.same (run_sound at.2));
})

pub returns-in-Cells : goal.returns-in-Cells
returns-in-Cells c = rw c.in-Cells.is (record {
  run = served (Cells c.in-Cells.node) c.args.frame.now c.serve-in-Cells.result (Cells c.serve-in-Cells.new.node) (c.serve-in-Cells.new.node, refl, c.serve-in-Cells.ensures.serves);
  serves = (c.serve-in-Cells.new.node, refl, c.serve-in-Cells.ensures.serves);
  same = λ at. same_node Cells c.in-Cells.node c.serve-in-Cells.new.node c.serve-in-Cells.result (c.serve-in-Cells.ensures.same (run_sound at.2));
})
