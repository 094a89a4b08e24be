-- The state of a Trickle timer, in the words of RFC 6206, section 4.2.
use Rattle.std.specs.Prelude.{ℕ, Bool}

pub record Timer : Type 0 where
  -- the size of the current interval, I
  pub interval : ℕ
  -- when it began
  pub begin : ℕ
  -- how long after that the timer fires
  pub t : ℕ
  -- how many consistent transmissions were heard in it, c
  pub count : ℕ
  -- t was reached
  pub fired : Bool
