-- A mote as the rules see it: beside the store of its chip (docs/SCRIPTS.md, "What events do", after Deluge: Hui and Culler,
-- SenSys 2004).
use Rattle.std.specs.Prelude.{ℕ, ◌≤◌, Bool, Option, is_some}
use Rattle.std.specs.List.{filter, range_with_len}
use Rattle.std.specs.FinSet as set
use Rattle.dg_nor.specs.Trail.{Trail}
use Rattle.dg_bits.specs.Sets.{Numbers}
use Rattle.dg_trickle.specs.Timer.{Timer}
use Rattle.dg_trickle.specs.Steps.{started}
use Rattle.dg_quiet.specs.Noted.{Noted, nothing_noted}
use Rattle.dg_recv.specs.Reception.{Reception}
use Rattle.dg_send.specs.Owed.{Owed}
use Rattle.dg_slot.specs.Layout.{packets}
use Rattle.dg_slot.specs.Jobs.{Packets, packet}
use Rattle.dg_volume.specs.Store.{Store}
use Rattle.dg_frame.specs.Sizes.{known_images}
use Rattle.dg_frame.specs.declared.Message.{Message}

-- It asks a server for a page of an image, and these packets of it came.
pub record Receiving : Type 0 where
  pub image : ℕ
  pub version : ℕ
  pub page : ℕ
  pub server : ℕ
  pub tries : ℕ
  pub due : ℕ
  pub packets : Packets

-- It serves a page.
pub record Sending : Type 0 where
  pub image : ℕ
  pub version : ℕ
  pub page : ℕ
  pub owed : Owed

pub data Mode : Type 0 where
  Maintain : (timer : Timer) → Mode
  Receive : (r : Receiving) → Mode
  Transmit : (t : Sending) → Mode

-- the image that it asks for, or serves, is one that its frames name
abbrev pub NamesKnown : (wide : Bool) → Mode → Type 0
NamesKnown wide (Maintain timer) = Unit {0}
NamesKnown wide (Receive r) = (1 ≤ r.image) × (r.image ≤ known_images wide)
NamesKnown wide (Transmit t) = (1 ≤ t.image) × (t.image ≤ known_images wide)

pub record MoteState : Type 0 where
  pub id : ℕ
  -- whether its radio is wide: that never changes
  pub wide : Bool
  -- when it started
  pub since : ℕ
  pub noted : Noted
  pub mode : Mode

-- a mote that was started, and one that returns to maintaining
abbrev pub begun_mote : (id : ℕ) (wide : Bool) (now word : ℕ) → MoteState
begun_mote id wide now word =
    record { id = id; wide = wide; since = now; noted = nothing_noted; mode = Maintain (started now word) }

abbrev pub maintains : MoteState → (now word : ℕ) → MoteState
maintains m now word = record m { mode = Maintain (started now word) }

-- the numbers of the packets that came
unfoldable pub came : Packets → Numbers
came ps = set.from_list (filter (λ q. is_some (packet ps q)) (range_with_len 0 packets))

abbrev pub reception : Receiving → Reception
reception r = record { got = came r.packets; tries = r.tries; due = r.due }

-- what a step does to a mote over a store, and what it answers
pub record MoteStep (A : Type 0) : Type 0 where
  pub mote : MoteState
  pub trail : Trail Store
  pub sent : Option Message
  pub answer : A
