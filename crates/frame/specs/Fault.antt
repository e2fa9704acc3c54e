-- Why a frame is refused: each refusal's number, and the values told with it. Assumes nothing.
--     number_of f       the number of the refusal f, which is the node's own where the node refused
--     values_of f       the bytes that follow the number in an answer
use Rattle.std.specs.Prelude.{ℕ, List, []}
use Rattle.node.specs.Denial.{number_of as denial_number, values_of as denial_values}
use Rattle.frame.specs.declared.fault.FrameFault.{FrameFault}
use Rattle.frame.specs.declared.fault.FrameFault.TheVariants.{ShortAnswer, BadLine, UnknownFrame, OutOfTurn, Denied}

abbrev pub number_of : FrameFault → ℕ
number_of ShortAnswer = 1
number_of BadLine = 2
number_of UnknownFrame = 3
number_of OutOfTurn = 4
number_of (Denied d) = denial_number d

abbrev pub values_of : FrameFault → List ℕ
values_of ShortAnswer = []
values_of BadLine = []
values_of UnknownFrame = []
values_of OutOfTurn = []
values_of (Denied d) = denial_values d
