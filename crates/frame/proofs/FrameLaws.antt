-- The frame of a line that is cut. Assumes nothing.
use Rattle.std.proofs.Common.{◌≡◌, ℕ, List, Ok, Err, Result, refl, ap, ◌∙◌}
use Rattle.frame.specs.declared.fault.FrameFault.{FrameFault}
use Rattle.frame.specs.declared.frame.Frame.{Frame}
use Rattle.frame.specs.Digits.{line_of}
use Rattle.frame.specs.Frame.{frame_in, frame_of}
use Rattle.frame.specs.Prefix.{cut}
use Rattle.frame.proofs.DigitsLaws.{line_from_cut}

-- it is the frame of the whole line, since the bytes are those of the whole line
pub frame_from_cut : (r : Result Frame FrameFault) (line : List ℕ) → r ≡ frame_in line → (xs : List ℕ) → line ≡ cut xs → r ≡ frame_in xs
frame_from_cut r line e xs c = e ∙ ap (λ l. elim l [ Ok bs ↦ frame_of bs | Err f ↦ Err f ]) (line_from_cut (line_of line) line refl xs c)
