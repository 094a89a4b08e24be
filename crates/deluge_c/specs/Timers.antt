-- Which timer the fields of a C struct are (RFC 6206, section 4.2; docs/C.md, "The timer").
use Rattle.std.specs.Prelude.{ℕ, ◌^◌, ◌<◌}
use Rattle.dg_trickle.specs.Timer.{Timer}
use Rattle.dg_trickle.specs.Steps.{IsRunning}
use Rattle.dg_trickle.specs.declared.Act.{Act}
use Rattle.dg_trickle.specs.declared.Act.TheVariants.{Send, Quiet, Expired, Nothing}
use Rattle.deluge_c.specs.declared.timers.TimerFields.{TimerFields}

abbrev pub timer_of_fields : TimerFields → Timer
timer_of_fields t = record { interval = t.interval; begin = t.begin; t = t.fires_after; count = t.heard; fired = t.fired }

-- the fields are those of a timer that runs, and the clock is far from its end
pub record RunsAt (t : TimerFields) (now : ℕ) : Type 0 where
  pub running : IsRunning (timer_of_fields t)
  pub begun : t.begin < 2 ^ 62
  pub moment : now < 2 ^ 62

abbrev pub act_number : Act → ℕ
act_number Nothing = 0
act_number Send = 1
act_number Quiet = 2
act_number Expired = 3
