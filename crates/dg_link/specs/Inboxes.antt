-- The frames that wait at motes, if a link exposes them (docs/COMMANDS.md, "Serve").
use Rattle.std.specs.Prelude.{◌≡◌, ℕ, ◌-◌, List, [], ◌∷◌, ◌++◌, length, take, drop, replicate, slice_index_or, slice_set, Option}
use Rattle.std.specs.Prelude.{Some, None}

-- how many frames an inbox holds at most, and for each mote the frames in its inbox, the oldest first
pub record Inboxes : Type 0 where
  pub capacity : ℕ
  pub frames : List (List (List ℕ))

-- the frames that wait at a mote
abbrev pub inbox_of : Inboxes → ℕ → List (List ℕ)
inbox_of boxes mote = slice_index_or boxes.frames mote []

-- this many motes, with empty inboxes
abbrev pub emptied : ℕ → Inboxes → Inboxes
emptied motes boxes = record { capacity = boxes.capacity; frames = replicate motes [] }

-- the inboxes with these frames at a mote
abbrev pub with_inbox : ℕ → List (List ℕ) → Inboxes → Inboxes
with_inbox mote frames boxes = record { capacity = boxes.capacity; frames = slice_set boxes.frames mote frames }

-- a frame arrived last at a mote. If its inbox was full, the oldest is lost
abbrev pub delivered : ℕ → List ℕ → Inboxes → Inboxes
delivered mote frame boxes =
    let frames = inbox_of boxes mote ++ frame ∷ [] in with_inbox mote (drop (length frames - boxes.capacity) frames) boxes

-- No frame waits at the mote; nothing is claimed if the inboxes are not exposed.
abbrev pub IsEmptyAt : ℕ → Option Inboxes → Type 0
IsEmptyAt mote None = Unit {0}
IsEmptyAt mote (Some boxes) = inbox_of boxes mote ≡ []

-- The oldest frame at a mote was taken, and it was this one; or the inboxes are not exposed, before and after.
abbrev pub TakesFrame : ℕ → List ℕ → Option Inboxes → Option Inboxes → Type 0
TakesFrame mote frame None after = after ≡ None
TakesFrame mote frame (Some boxes) after = (rest : List (List ℕ)) × (inbox_of boxes mote ≡ frame ∷ rest)
    × (after ≡ Some (with_inbox mote rest boxes))

-- A frame of n bytes was taken, which is at the beginning of `into`; or there was no frame.
abbrev pub ReceivesFrame : ℕ → List ℕ → Option ℕ → Option Inboxes → Option Inboxes → Type 0
ReceivesFrame mote into (Some n) before after = TakesFrame mote (take n into) before after
ReceivesFrame mote into None before after = IsEmptyAt mote before × (after ≡ before)

-- Each of this many motes has an inbox; nothing is claimed if the inboxes are not exposed.
abbrev pub HasInboxes : Option Inboxes → ℕ → Type 0
HasInboxes None motes = Unit {0}
HasInboxes (Some boxes) motes = length boxes.frames ≡ motes
