-- Motes that agree with a table, and frames that are honest by it (docs/PROMISES.md, "The report and what it tells").
use Rattle.std.specs.Prelude.{◌≡◌, ◌≢◌, ◌⊎◌, ℕ, ◌<◌, ◌≤◌, List, length, slice_index_or, [], Some, Result, Ok, Err, true}
use Rattle.std.specs.FinSet as set
use Rattle.dg_object.specs.Object.{Row, object, profile}
use Rattle.dg_slot.specs.Layout.{packets}
use Rattle.dg_slot.specs.Kept.{Held}
use Rattle.dg_slot.specs.Jobs.{packet}
use Rattle.dg_volume.specs.Store.{Store, held}
use Rattle.dg_volume.specs.Table.{row_at}
use Rattle.dg_frame.specs.Grammar.{message_of}
use Rattle.dg_frame.specs.declared.Entry.{Entry}
use Rattle.dg_frame.specs.declared.Message.{Message}
use Rattle.dg_frame.specs.declared.Message.TheVariants.{Advert, Request, Packet, Wide}
use Rattle.dg_frame.specs.declared.FrameFault.{FrameFault}
use Rattle.dg_mote.specs.Model.{Mode, Maintain, Receive, Transmit, Receiving, Sending, came}
use Rattle.dg_mote.specs.Summary.{entry_for, no_entry}
use Rattle.dg_volume.specs.Filling.{packet_of}

-- ---- modes, over a store that agrees

-- a page that is being received is the next one, and the row's, and some of its packets are missing
pub record ReceivesRow (table : List Row) (s : Store) (r : Receiving) : Type 0 where
  pub not_golden : 1 ≤ r.image
  pub row : Row
  pub in_table : row_at table r.image r.version ≡ Some row
  pub kept : Held
  pub held_here : held s r.image ≡ Some kept
  pub version : kept.version ≡ r.version
  pub next : length kept.complete ≡ r.page
  pub more : r.page < kept.pages
  pub count : length r.packets ≡ packets
  pub missing : set.len (came r.packets) < packets
  pub honest : (q : ℕ) (bytes : List ℕ) → packet r.packets q ≡ Some bytes
      → bytes ≡ packet_of (slice_index_or (object row) r.page []) q

-- a page that is served is kept, and some of its packets are still owed
pub record Serves (s : Store) (t : Sending) : Type 0 where
  pub not_golden : 1 ≤ t.image
  pub kept : Held
  pub held_here : held s t.image ≡ Some kept
  pub version : kept.version ≡ t.version
  pub complete : t.page < length kept.complete
  pub owed : set.len t.owed.left ≢ 0

abbrev pub ModeAgrees : List Row → Store → Mode → Type 0
ModeAgrees table s (Maintain timer) = Unit {0}
ModeAgrees table s (Receive r) = ReceivesRow table s r
ModeAgrees table s (Transmit t) = Serves s t

-- ---- honesty

-- an entry is empty, or carries the profile of a row
abbrev pub HonestEntry : List Row → ℕ → Entry → Type 0
HonestEntry table i e = (e ≡ no_entry) ⊎ ((row : Row) × (row_at table i e.version ≡ Some row)
    × (e.pages ≡ (profile row).pages) × (e.crc ≡ (profile row).crc))

abbrev pub HonestMessage : List Row → Result Message FrameFault → Type 0
HonestMessage table (Err fault) = Unit {0}
HonestMessage table (Ok (Request source to image version page want)) = Unit {0}
HonestMessage table (Ok (Advert source entries order)) =
    (i : ℕ) → 1 ≤ i → i ≤ length entries → HonestEntry table i (entry_for entries i)
HonestMessage table (Ok (Wide source entries order)) =
    (i : ℕ) → 1 ≤ i → i ≤ length entries → HonestEntry table i (entry_for entries i)
HonestMessage table (Ok (Packet source image version page q bytes)) =
    (row : Row) × (row_at table image version ≡ Some row) × (page < length (object row))
    × (bytes ≡ packet_of (slice_index_or (object row) page []) q)

-- by the wide reading: a narrow reader reads no more
abbrev pub IsHonest : List Row → List ℕ → Type 0
IsHonest table bytes = HonestMessage table (message_of bytes true)
