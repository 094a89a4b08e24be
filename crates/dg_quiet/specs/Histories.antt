-- Whole histories of overheard frames (the suppression of Deluge: Hui and Culler, SenSys 2004).
use Rattle.std.specs.Prelude.{ℕ, ◌==◌, if◌then◌else◌, Option, None, Some, List, [], ◌∷◌}
use Rattle.dg_quiet.specs.Noted.{Noted, nothing_noted, with_request, with_packet}

-- what is overheard, with its time and its image
pub data Note : Type 0 where
  Request : (moment image : ℕ) → Note
  Packet : (moment image : ℕ) → Note

abbrev pub with_note : Noted → Note → Noted
with_note n (Request moment image) = with_request n moment image
with_note n (Packet moment image) = with_packet n moment image

-- what is noted after a history, the newest note first
abbrev pub noted_after : List Note → Noted
noted_after [] = nothing_noted
noted_after (note ∷ earlier) = with_note (noted_after earlier) note

-- the newest request of an image, and the newest packet
abbrev pub last_request : List Note → ℕ → Option ℕ
last_request [] image = None
last_request (Request moment i ∷ earlier) image = if image == i then Some moment else last_request earlier image
last_request (Packet moment i ∷ earlier) image = last_request earlier image

abbrev pub last_packet_heard : List Note → ℕ → Option ℕ
last_packet_heard [] image = None
last_packet_heard (Packet moment i ∷ earlier) image = if image == i then Some moment else last_packet_heard earlier image
last_packet_heard (Request moment i ∷ earlier) image = last_packet_heard earlier image
