use Rattle.std.proofs.Common.{◌≡◌, ◌+◌, ◌*◌, length, take}
use Rattle.frame.specs.Digits.{prepend, bytes_of}
use Rattle.frame.proofs.digits.read_digits.Given as goal

abbrev pub invariant-loop-rest : goal.invariant-loop-rest
invariant-loop-rest l =
    (prepend (take l.len l.array) (bytes_of l.rest) ≡ bytes_of l.digits)
    × (2 * l.len + length l.rest ≡ length l.digits)
    × (length l.array ≡ 40)

abbrev pub decreases-loop-rest : goal.decreases-loop-rest
decreases-loop-rest l = length l.rest
