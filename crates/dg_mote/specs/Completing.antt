-- What a round does at each of its two motes: they are drained, one advertises what it keeps, the other asks for a page, and
-- the page is transferred (docs/PROMISES.md, "Laws over the definitions alone").
use Rattle.std.specs.Prelude.{◌≡◌, ◌≢◌, ◌⊎◌, Bool, ℕ, ◌+◌, ◌*◌, ◌<◌, ◌≤◌, List, [], ◌∷◌, length, map, slice_index_or, Option}
use Rattle.std.specs.Prelude.{Some, None}
use Rattle.std.specs.List.{range_with_len}
use Rattle.dg_bits.specs.Sets.{below}
use Rattle.dg_recv.specs.Times.{next_wait}
use Rattle.dg_object.specs.Object.{Row, object}
use Rattle.dg_slot.specs.Layout.{packets}
use Rattle.dg_slot.specs.Kept.{Held}
use Rattle.dg_slot.specs.Jobs.{no_packets}
use Rattle.dg_volume.specs.Store.{Store, held, fresh}
use Rattle.dg_volume.specs.Changes.{paged}
use Rattle.dg_volume.specs.Table.{row_at, IsTable}
use Rattle.dg_volume.specs.Agreement.{Agrees}
pub use Rattle.dg_rounds.specs.Rounds.{drain_ticks, advert_ticks}
use Rattle.dg_frame.specs.declared.Message.{Message}
use Rattle.dg_frame.specs.declared.Message.TheVariants.{Request, Packet}
use Rattle.dg_mote.specs.Model.{Receive, Receiving, begun_mote, maintains}
use Rattle.dg_mote.specs.Summary.{advert_of, entries_of, ahead_in}
use Rattle.dg_mote.specs.Spots.{Spot, SpotIsWell, pace, ticked, tick_at, after_ticks, last_sent, hears, hears_all}
use Rattle.dg_mote.specs.Drained.{Drained, SameKept, KeptBut, HasRoom}
use Rattle.dg_volume.specs.Filling.{packet_of}

-- ---- draining

-- it is drained then, keeps what it kept, and has the same id and width
pub record IsDrained (table : List Row) (x : Spot) (now : ℕ) : Type 0 where
  pub drained : Drained (after_ticks drain_ticks x now) (now + drain_ticks * pace)
  pub well : SpotIsWell table (after_ticks drain_ticks x now) (now + drain_ticks * pace)
  pub kept : SameKept x.store (after_ticks drain_ticks x now).store
  pub id : (after_ticks drain_ticks x now).mote.id ≡ x.mote.id
  pub wide : (after_ticks drain_ticks x now).mote.wide ≡ x.mote.wide

-- A well mote, whatever it was doing, is drained in this many ticks, if it has room at their end.
abbrev pub DrainLaw : Type 0
DrainLaw = (table : List Row) (x : Spot) (now : ℕ) → IsTable table → SpotIsWell table x now
    → HasRoom (after_ticks drain_ticks x now) → IsDrained table x now

-- the commits that ticks may make: one clears the short starts, and two start the order
abbrev pub tick_commits : ℕ
tick_commits = 3

-- A well mote that only ticks makes no more, however many ticks there are. So it has room at the end if it has that much more
-- at first.
abbrev pub TickSpendLaw : Type 0
TickSpendLaw = (table : List Row) (x : Spot) (now n : ℕ) → IsTable table → SpotIsWell table x now
    → x.store.room ≤ (after_ticks n x now).store.room + tick_commits

-- it stays drained over the same store
pub record StaysDrained (table : List Row) (x : Spot) (now n : ℕ) : Type 0 where
  pub drained : Drained (after_ticks n x now) (now + n * pace)
  pub well : SpotIsWell table (after_ticks n x now) (now + n * pace)
  pub store : (after_ticks n x now).store ≡ x.store
  pub id : (after_ticks n x now).mote.id ≡ x.mote.id
  pub wide : (after_ticks n x now).mote.wide ≡ x.mote.wide

-- A drained mote that only ticks stays so, however many ticks there are.
abbrev pub RestLaw : Type 0
RestLaw = (table : List Row) (x : Spot) (now n : ℕ) → SpotIsWell table x now → Drained x now → StaysDrained table x now n

-- a mote that has just started, over a chip that was formatted with this many commits declared as spent
abbrev pub fresh_spot : (name bytes : List ℕ) → (used id : ℕ) → (wide : Bool) → (now word : ℕ) → Spot
fresh_spot name bytes used id wide now word = record { store = fresh name bytes used; mote = begun_mote id wide now word }

-- ---- advertising

-- it stays drained over the same store, and the last message that it sends is its own advert
pub record Advertises (table : List Row) (x : Spot) (now : ℕ) : Type 0 where
  pub drained : Drained (after_ticks advert_ticks x now) (now + advert_ticks * pace)
  pub well : SpotIsWell table (after_ticks advert_ticks x now) (now + advert_ticks * pace)
  pub store : (after_ticks advert_ticks x now).store ≡ x.store
  pub id : (after_ticks advert_ticks x now).mote.id ≡ x.mote.id
  pub wide : (after_ticks advert_ticks x now).mote.wide ≡ x.mote.wide
  pub sent : (before : Option Message) → last_sent advert_ticks x now before ≡ Some (advert_of x.mote.id x.mote.wide x.store)

-- A well and drained mote advertises what it keeps within this many ticks.
abbrev pub AdvertLaw : Type 0
AdvertLaw = (table : List Row) (x : Spot) (now : ℕ) → SpotIsWell table x now → Drained x now → Advertises table x now

-- ---- asking

-- the profile of an image that another mote keeps, and no page yet
pub record TookProfile (ahead kept : Held) : Type 0 where
  pub version : kept.version ≡ ahead.version
  pub pages : kept.pages ≡ ahead.pages
  pub crc : kept.crc ≡ ahead.crc
  pub complete : kept.complete ≡ []

-- What is kept of an image once a page of this version is asked for: as before if the version is kept, and otherwise no page
-- of it yet, in place of an older version.
abbrev pub KeepsNext : Option Held → Held → Held → Type 0
KeepsNext None ahead kept = TookProfile ahead kept
KeepsNext (Some h) ahead kept =
    ((h.version ≡ ahead.version) × (kept ≡ h)) ⊎ ((h.version < ahead.version) × TookProfile ahead kept)

-- it asks for the next page of the image, and none of its packets came
pub record AsksPage (x : Spot) (image : ℕ) (kept : Held) : Type 0 where
  pub r : Receiving
  pub receives : x.mote.mode ≡ Receive r
  pub image_is : r.image ≡ image
  pub version_is : r.version ≡ kept.version
  pub page_is : r.page ≡ length kept.complete
  pub fresh : r.packets ≡ no_packets
  pub held_now : held x.store image ≡ Some kept

-- x has become y: it asks the mote `id`, which keeps `ahead` of the image, and so more pages of it
pub record Asked (table : List Row) (x y : Spot) (now id image : ℕ) (ahead : Held) : Type 0 where
  pub kept : Held
  pub asks : AsksPage y image kept
  pub server : asks.r.server ≡ id
  pub tries : asks.r.tries ≡ 0
  pub due : asks.r.due ≤ now + next_wait
  pub next : KeepsNext (held x.store image) ahead kept
  pub version : kept.version ≡ ahead.version
  pub less : length kept.complete < length ahead.complete
  pub others : KeptBut image x.store y.store
  pub gesture : y.store.gesture ≡ 0
  pub id_is : y.mote.id ≡ x.mote.id
  pub wide_is : y.mote.wide ≡ x.mote.wide
  pub well : SpotIsWell table y now

-- A drained mote that hears the advert of a mote of its width that is ahead of it asks that mote for the first image in which
-- it is ahead.
abbrev pub AskLaw : Type 0
AskLaw = (table : List Row) (x : Spot) (now id : ℕ) (s : Store) (image : ℕ) → SpotIsWell table x now → Drained x now
    → Agrees table s → id ≢ x.mote.id
    → ahead_in (entries_of x.mote.wide s) x.store ≡ Some image → HasRoom (hears x now (advert_of id x.mote.wide s))
    → (ahead : Held) × (held s image ≡ Some ahead) × Asked table x (hears x now (advert_of id x.mote.wide s)) now id image ahead

-- x has become y in one tick: it still asks, and has sent a request for all packets of the page
pub record Requested (x y : Spot) (now image : ℕ) (kept : Held) (server : ℕ) : Type 0 where
  pub asks : AsksPage y image kept
  pub store : y.store ≡ x.store
  pub id_is : y.mote.id ≡ x.mote.id
  pub wide_is : y.mote.wide ≡ x.mote.wide
  pub sent : (tick_at x (now + pace)).sent ≡ Some
      (Request x.mote.id server image kept.version (length kept.complete) (below packets))

-- A mote that has begun to ask sends its request in the next tick.
abbrev pub RequestLaw : Type 0
RequestLaw = (x : Spot) (now server image : ℕ) (kept : Held) → (a : AsksPage x image kept) → a.r.server ≡ server
    → a.r.tries ≡ 0 → a.r.due ≤ now + next_wait → x.store.gesture ≡ 0
    → Requested x (ticked x (now + pace)) now image kept server

-- ---- serving

-- packet q of a page
abbrev pub packet_message : (id image version page : ℕ) → List ℕ → ℕ → Message
packet_message id image version page bytes q = Packet id image version page q (packet_of bytes q)

-- all of them, in order
abbrev pub page_messages : (id image version page : ℕ) → List ℕ → List Message
page_messages id image version page bytes = map (packet_message id image version page bytes) (range_with_len 0 packets)

-- each of this many ticks sends one of the messages
unfoldable pub SendsEach : List Message → Spot → (now : ℕ) → Type 0
SendsEach [] x now = Unit {0}
SendsEach (m ∷ ms) x now = ((tick_at x (now + pace)).sent ≡ Some m) × SendsEach ms (ticked x (now + pace)) (now + pace)

-- x has become y: it sends the page, one packet per tick, and after the last one maintains over the same store
pub record ServesPage (x y : Spot) (now image version page : ℕ) (bytes : List ℕ) : Type 0 where
  pub sends : SendsEach (page_messages x.mote.id image version page bytes) y now
  pub ends : after_ticks packets y now ≡ record { store = x.store; mote = maintains x.mote (now + packets * pace) 0 }

-- A drained mote that keeps a page serves it to one that asks for all of it.
abbrev pub ServeLaw : Type 0
ServeLaw = (x : Spot) (now from image page : ℕ) (h : Held) → Drained x now → from ≢ x.mote.id → held x.store image ≡ Some h
    → page < length h.complete
    → ServesPage x (hears x now (Request from x.mote.id image h.version page (below packets))) now image h.version page
    (slice_index_or h.complete page [])

-- ---- taking

-- A mote that asks for a page, and hears the packets of the row's page in order, has one more page and maintains.
abbrev pub TakeLaw : Type 0
TakeLaw = (table : List Row) (x : Spot) (now sender image : ℕ) (kept : Held) (row : Row) → IsTable table
    → SpotIsWell table x now → AsksPage x image kept → sender ≢ x.mote.id
    → row_at table image kept.version ≡ Some row
    → let bytes = slice_index_or (object row) (length kept.complete) [] in
    hears_all (page_messages sender image kept.version (length kept.complete) bytes) x now
    ≡ record { store = paged image bytes x.store; mote = maintains x.mote (now + packets * pace) 0 }
