-- How long a mote is idle, and when something of it is due (docs/SCRIPTS.md, "What events do").
use Rattle.std.specs.Prelude.{◌≡◌, ℕ, ◌+◌, ◌-◌, ◌^◌, ◌<◌, ◌&&◌, nat_le, min, if◌then◌else◌}
use Rattle.dg_trickle.specs.Timer.{Timer}
use Rattle.dg_volume.specs.Store.{Store}
use Rattle.dg_volume.specs.Start.{order_waits}
use Rattle.dg_mote.specs.Sizes.{long_run}
use Rattle.dg_mote.specs.Model.{MoteState, Mode, Maintain, Receive, Transmit}
use Rattle.dg_mote.specs.Ticks.{idle, tick_of}

-- before this time a tick changes nothing and sends nothing
abbrev pub RestsUntil : MoteState → Store → (moment : ℕ) → Type 0
RestsUntil m s moment = (now word : ℕ) → now < moment → tick_of m s now word ≡ idle m s

-- the largest time that there is: it stands for one that does not come
abbrev pub never : ℕ
never = 2 ^ 64 - 1

-- when the count of short starts is cleared: after a long run, if there is one to clear and room for it
abbrev pub clears_at : MoteState → Store → ℕ
clears_at m s = if nat_le 1 s.gesture && nat_le 1 s.room then min (m.since + long_run) never else never

-- when a Trickle timer fires or, if it has, when its interval is over
abbrev pub timer_due : Timer → ℕ
timer_due t = if t.fired then t.begin + t.interval else t.begin + t.t

-- when the mode of a mote does something. An order that is pending is obeyed at once
abbrev pub mode_due : Mode → Store → ℕ
mode_due (Maintain timer) s = if order_waits s then 0 else timer_due timer
mode_due (Receive r) s = r.due
mode_due (Transmit t) s = t.owed.due

-- when something of a mote is due
unfoldable pub due_of : MoteState → Store → ℕ
due_of m s = min (clears_at m s) (mode_due m.mode s)
