-- The steps of RFC 6206, section 4.2. The time and a word, which is a random number, are arguments.
use Rattle.std.specs.Prelude.{ℕ, ◌+◌, ◌*◌, ◌/◌, ◌%◌, ◌≤◌, ◌<◌, min, Bool, true, false, not, ◌&&◌, nat_le, nat_lt, if◌then◌else◌}
use Rattle.dg_trickle.specs.declared.Act.{Act}
use Rattle.dg_trickle.specs.declared.Act.TheVariants.{Send, Quiet, Expired, Nothing}
use Rattle.dg_trickle.specs.Times.{shortest_interval, longest_interval, redundancy}
use Rattle.dg_trickle.specs.Timer.{Timer}

-- step 2: an interval begins, and t is drawn from its second half
abbrev pub interval_begun : ℕ → ℕ → ℕ → Timer
interval_begun size moment word =
    record { interval = size; begin = moment; t = size / 2 + word % (size / 2); count = 0; fired = false }

-- step 1: the first interval
abbrev pub started : ℕ → ℕ → Timer
started moment word = interval_begun shortest_interval moment word

-- step 3: a consistent transmission is heard. The count saturates at the largest `u16`
abbrev pub after_same : Timer → Timer
after_same s = record s { count = min (s.count + 1) 65535 }

-- t is reached
abbrev pub is_due : Timer → ℕ → Bool
is_due s moment = not s.fired && nat_le (s.begin + s.t) moment

-- the interval is over. A timer that has not fired yet when its interval is over fires first
abbrev pub is_over : Timer → ℕ → Bool
is_over s moment = s.fired && nat_le (s.begin + s.interval) moment

-- step 4: at t the timer sends if fewer than k were heard. Step 5: the interval expires
abbrev pub act_of : Timer → ℕ → Act
act_of s moment =
    if is_due s moment then (if nat_lt s.count redundancy then Send else Quiet)
    else (if is_over s moment then Expired else Nothing)

-- step 5: an interval that is over gives way to one twice as long, up to the longest
abbrev pub after_tick : Timer → ℕ → ℕ → Timer
after_tick s moment word =
    if is_due s moment then record s { fired = true }
    else (if is_over s moment then interval_begun (min (2 * s.interval) longest_interval) moment word else s)

-- step 6: an inconsistent transmission is heard, and the shortest interval begins unless it is running
abbrev pub after_other : Timer → ℕ → ℕ → Timer
after_other s moment word = if nat_lt shortest_interval s.interval then interval_begun shortest_interval moment word else s

-- the interval lies within its bounds, and t in its second half
pub record IsRunning (s : Timer) : Type 0 where
  pub shortest : shortest_interval ≤ s.interval
  pub longest : s.interval ≤ longest_interval
  pub second_half : s.interval / 2 ≤ s.t
  pub before_end : s.t < s.interval
