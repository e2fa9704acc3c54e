-- What a frame is about. Assumes nothing.
--     asker_of f      the task that asks, where the frame f names one
use Rattle.std.specs.Prelude.{ℕ, Some, None, Option}
use Rattle.frame.specs.declared.frame.Frame.{Frame}
use Rattle.frame.specs.declared.frame.Frame.TheVariants.{Capacitor, Layered, Bank, Open, Close, Tap, Shut, Grant, Settle, Tick, Audit}

-- a frame that builds a node, a tick and an audit name none
abbrev pub asker_of : Frame → Option ℕ
asker_of (Capacitor c) = None
asker_of (Layered c f p) = None
asker_of (Bank cs) = None
asker_of (Open task reserve) = Some task
asker_of (Close task number) = Some task
asker_of (Tap task tap) = Some task
asker_of (Shut task tap) = Some task
asker_of (Grant task reserve amount) = Some task
asker_of (Settle task serial used) = Some task
asker_of (Tick harvest) = None
asker_of Audit = None
