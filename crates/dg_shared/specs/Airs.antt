-- The frames that the code keeps are those that were sent (docs/ARCHITECTURE.md, "The way of a script line").
use Rattle.std.specs.Prelude.{◌≡◌, ℕ, ◌-◌, ◌<◌, ◌≤◌, nat_le, if◌then◌else◌, List, [], ◌∷◌, length, map, slice_get, slice_index_or}
use Rattle.std.specs.Prelude.{Option, Some, None}
use Rattle.dg_frame.specs.Spelling.{frame_of}
use Rattle.dg_rules.specs.Sizes.{most_motes}
use Rattle.dg_rules.specs.World.{Sent, last_by}
use Rattle.dg_shared.specs.declared.sent.SentFrame.{SentFrame}
use Rattle.dg_shared.specs.declared.air.Air.{Air}

abbrev pub sent_of : SentFrame → Sent
sent_of f = record { by = f.by; bytes = frame_of f.message }

-- a frame that a mote sends, if it does
abbrev pub sent_now : ℕ → Option (List ℕ) → List Sent
sent_now m None = []
sent_now m (Some bytes) = record { by = m; bytes = bytes } ∷ []

-- the frame with a number: the first one has number 1
abbrev pub frame_in : List Sent → ℕ → Option Sent
frame_in sent number = if nat_le 1 number then slice_get sent (number - 1) else None

-- the number of the last frame of a mote
abbrev pub last_number : Air → ℕ → ℕ
last_number a m = slice_index_or a.last m 0

pub record Carries (a : Air) (sent : List Sent) : Type 0 where
  pub frames : map sent_of a.frames.items ≡ sent
  pub motes : length a.last ≡ most_motes
  pub numbers : (m : ℕ) → m < most_motes → last_number a m ≤ length sent
  pub last : (m : ℕ) → m < most_motes → frame_in sent (last_number a m) ≡ last_by m sent None
