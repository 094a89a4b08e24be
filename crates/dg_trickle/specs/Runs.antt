-- Whole runs of a Trickle timer: any calls, at any times (RFC 6206, section 4.2).
use Rattle.std.specs.Prelude.{◌≡◌, ℕ, ◌+◌, ◌*◌, ◌^◌, ◌≤◌, ◌⊎◌, List, [], ◌∷◌, nat_lt, if◌then◌else◌}
use Rattle.dg_trickle.specs.declared.Act.{Act}
use Rattle.dg_trickle.specs.declared.Act.TheVariants.{Send, Quiet, Expired, Nothing}
use Rattle.dg_trickle.specs.Times.{shortest_interval}
use Rattle.dg_trickle.specs.Timer.{Timer}
use Rattle.dg_trickle.specs.Steps.{started, after_same, after_other, after_tick, act_of}

-- the calls on a timer after it was started, with the time and the word
pub data Call : Type 0 where
  Same : Call
  Other : (moment word : ℕ) → Call
  Tick : (moment word : ℕ) → Call

abbrev pub after : Timer → Call → Timer
after s Same = after_same s
after s (Other moment word) = after_other s moment word
after s (Tick moment word) = after_tick s moment word

-- the timer after a history, the newest call first
abbrev pub timer : ℕ → ℕ → List Call → Timer
timer start word [] = started start word
timer start word (call ∷ earlier) = after (timer start word earlier) call

-- what can happen within an interval: a consistent transmission is heard, and at t the timer sends or is suppressed
pub data Mark : Type 0 where
  Heard : Mark
  Sent : Mark
  Kept : Mark

abbrev pub noted_of : Act → List Mark → List Mark
noted_of Send marks = Sent ∷ marks
noted_of Quiet marks = Kept ∷ marks
noted_of Expired marks = []
noted_of Nothing marks = marks

abbrev pub noted : Timer → Call → List Mark → List Mark
noted s Same marks = Heard ∷ marks
noted s (Other moment word) marks = if nat_lt shortest_interval s.interval then [] else marks
noted s (Tick moment word) marks = noted_of (act_of s moment) marks

-- what has happened since the current interval began, the newest first
abbrev pub current_marks : ℕ → ℕ → List Call → List Mark
current_marks start word [] = []
current_marks start word (call ∷ earlier) = noted (timer start word earlier) call (current_marks start word earlier)

-- how often the timer sent
abbrev pub sends : List Mark → ℕ
sends [] = 0
sends (Sent ∷ marks) = sends marks + 1
sends (Heard ∷ marks) = sends marks
sends (Kept ∷ marks) = sends marks

-- the interval is the shortest, doubled up to seven times
abbrev pub IsDoubled : Timer → Type 0
IsDoubled s = (k : ℕ) × (k ≤ 7) × (s.interval ≡ shortest_interval * 2 ^ k)

-- an interval stays, doubles, or falls to the shortest
abbrev pub DoublesOrFalls : Timer → Timer → Type 0
DoublesOrFalls old new =
    (new.interval ≡ old.interval) ⊎ ((new.interval ≡ 2 * old.interval) ⊎ (new.interval ≡ shortest_interval))
