-- Frames: a first byte that names the kind, then that kind's fields, numbers high byte first. Assumes nothing.
--     two fs i, four fs i      the number of the two bytes, or the four, of fs from place i on
--     sized fs n f             the frame f, where its fields fs are n bytes
--     open_of fs, close_of fs, tap_of fs, shut_of fs, grant_of fs, settle_of fs, tick_of fs, audit_of fs      the call of each kind with the fields fs
--     capacitor_of fs, layered_of fs, bank_of fs      the frame with the fields fs that builds a node over each store
--     frame_of bs              the frame whose bytes are bs
--     frame_in line            the frame that a line is, or why it is none
use Rattle.std.specs.Prelude.{ℕ, ◌+◌, ◌*◌, cond, List, [], ◌∷◌, length, Ok, Err, Result, ◌==◌, slice_index}
use Rattle.frame.specs.Digits.{line_of}
use Rattle.frame.specs.declared.fault.FrameFault.{FrameFault}
use Rattle.frame.specs.declared.fault.FrameFault.TheVariants.{UnknownFrame}
use Rattle.frame.specs.declared.frame.Frame.{Frame}
use Rattle.frame.specs.declared.frame.Frame.TheVariants.{Capacitor, Layered, Bank, Open, Close, Tap, Shut, Grant, Settle, Tick, Audit}

abbrev pub two : List ℕ → ℕ → ℕ
two fs i = slice_index fs i * 256 + slice_index fs (i + 1)

abbrev pub four : List ℕ → ℕ → ℕ
four fs i = slice_index fs i * 16777216 + slice_index fs (i + 1) * 65536 + slice_index fs (i + 2) * 256 + slice_index fs (i + 3)

abbrev pub sized : List ℕ → ℕ → Frame → Result Frame FrameFault
sized fs n f = cond (length fs == n) (Ok f) (Err UnknownFrame)

-- task, parent, number, owner, limit, amount
abbrev pub open_of : List ℕ → Result Frame FrameFault
open_of fs = sized fs 12 (Open (slice_index fs 0) (record { parent = slice_index fs 1; number = slice_index fs 2; owner = slice_index fs 3; limit = four fs 4; amount = four fs 8 }))

-- task, number
abbrev pub close_of : List ℕ → Result Frame FrameFault
close_of fs = sized fs 2 (Close (slice_index fs 0) (slice_index fs 1))

-- task, tap, source, sink, n, d
abbrev pub tap_of : List ℕ → Result Frame FrameFault
tap_of fs = sized fs 10 (Tap (slice_index fs 0) (record { number = slice_index fs 1; source = slice_index fs 2; sink = slice_index fs 3; n = four fs 4; d = two fs 8 }))

-- task, tap
abbrev pub shut_of : List ℕ → Result Frame FrameFault
shut_of fs = sized fs 2 (Shut (slice_index fs 0) (slice_index fs 1))

-- task, reserve, amount
abbrev pub grant_of : List ℕ → Result Frame FrameFault
grant_of fs = sized fs 6 (Grant (slice_index fs 0) (slice_index fs 1) (four fs 2))

-- task, serial, used
abbrev pub settle_of : List ℕ → Result Frame FrameFault
settle_of fs = sized fs 9 (Settle (slice_index fs 0) (four fs 1) (four fs 5))

-- harvest
abbrev pub tick_of : List ℕ → Result Frame FrameFault
tick_of fs = sized fs 4 (Tick (four fs 0))

-- no field
abbrev pub audit_of : List ℕ → Result Frame FrameFault
audit_of fs = sized fs 0 Audit

-- capacity
abbrev pub capacitor_of : List ℕ → Result Frame FrameFault
capacitor_of fs = sized fs 4 (Capacitor (four fs 0))

-- capacity, floor, part
abbrev pub layered_of : List ℕ → Result Frame FrameFault
layered_of fs = sized fs 10 (Layered (four fs 0) (four fs 4) (two fs 8))

-- three capacities
abbrev pub bank_of : List ℕ → Result Frame FrameFault
bank_of fs = sized fs 12 (Bank (four fs 0 ∷ four fs 4 ∷ four fs 8 ∷ []))

abbrev pub frame_of : List ℕ → Result Frame FrameFault
frame_of [] = Err UnknownFrame
frame_of (k ∷ fs) =
    cond (k == 1) (open_of fs)
    (cond (k == 2) (close_of fs)
    (cond (k == 3) (tap_of fs)
    (cond (k == 5) (shut_of fs)
    (cond (k == 6) (grant_of fs)
    (cond (k == 7) (settle_of fs)
    (cond (k == 8) (tick_of fs)
    (cond (k == 9) (audit_of fs)
    (cond (k == 16) (capacitor_of fs)
    (cond (k == 17) (layered_of fs)
    (cond (k == 18) (bank_of fs)
    (Err UnknownFrame)))))))))))

abbrev pub frame_in : List ℕ → Result Frame FrameFault
frame_in line = elim (line_of line) [ Ok bs ↦ frame_of bs | Err f ↦ Err f ]
