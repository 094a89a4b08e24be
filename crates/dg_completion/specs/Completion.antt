-- Bounded completion: what free events keep, what a round brings, and how many sweeps bring every page to every mote
-- (docs/SCRIPTS.md, "Sweeps that are enough").
use Rattle.std.specs.Prelude.{◌≡◌, ◌≢◌, ℕ, zero, suc, ◌+◌, ◌-◌, ◌<◌, ◌≤◌, ◌==◌, ◌&&◌, ◌||◌, nat_le, nat_lt, min, max, Bool, true}
use Rattle.std.specs.Prelude.{false, if◌then◌else◌, List, [], ◌∷◌, length, Option, Some, None}
use Rattle.std.specs.List.{list_any, find}
use Rattle.dg_object.specs.Object.{Row, pages_for}
use Rattle.dg_slot.specs.Kept.{Held}
use Rattle.dg_volume.specs.Sizes.{images}
use Rattle.dg_volume.specs.Store.{Store, held, held_whole}
use Rattle.dg_volume.specs.Table.{row_at}
use Rattle.dg_volume.specs.Changes.{is_version}
use Rattle.dg_volume.specs.Trails.{done_of}
use Rattle.dg_mote.specs.Sizes.{shared}
use Rattle.dg_mote.specs.Drained.{spare_room, SameKept, KeptBut}
use Rattle.dg_rules.specs.World.{World, Running, site, wide_at, store_at, linked}
use Rattle.dg_rules.specs.Steps.{WorldStep}
use Rattle.dg_rules.specs.Premises.{WorldAgrees, OneWidth}
use Rattle.dg_rounds.specs.Rounds.{round}
use Rattle.dg_base.specs.declared.events.Event.{Event}
use Rattle.dg_script.specs.declared.report.Report.{Report}
use Rattle.dg_completion.specs.Rests.{IsFree, IsRest}

-- ---- runs without cuts

-- from world w these events may lead to world v, with no cut of power
unfoldable pub Follows : World → List Event → World → Type 0
Follows w [] v = w ≡ v
Follows w (e ∷ es) v =
    (u : World) × (reports : List Report) × WorldStep w (record { event = e; cut = None }) u reports × Follows u es v

-- a mote is on
pub record IsOn (w : World) (m : ℕ) : Type 0 where
  pub running : Running
  pub runs : (site w m).runs ≡ Some running

-- ---- rows

-- the largest version of an image
unfoldable pub largest : List Row → ℕ → ℕ
largest [] i = 0
largest (r ∷ rs) i = if r.image == i then max r.version (largest rs i) else largest rs i

-- the row of an image with the largest version
unfoldable pub newest : List Row → ℕ → Option Row
newest rows i = row_at rows i (largest rows i)

abbrev pub page_count : Row → ℕ
page_count row = pages_for (length row.bytes)

-- the pages of the row that a chip holds
abbrev pub pages_kept : Store → Row → ℕ
pages_kept s row = if is_version (held s row.image) row.version then done_of (held s row.image) else 0

-- ---- free events

-- The world still agrees with its table. The table, the links and which motes are narrow stay unchanged, motes that are on stay
-- on, room does not grow, and no page of a newest version is lost.
pub record Grows (w v : World) : Type 0 where
  pub good : WorldAgrees v
  pub table : v.table ≡ w.table
  pub links : v.links ≡ w.links
  pub narrow : v.narrow ≡ w.narrow
  pub count : length v.sites ≡ length w.sites
  pub on : (m : ℕ) → IsOn w m → IsOn v m
  pub room : (m : ℕ) → (store_at v m).room ≤ (store_at w m).room
  pub pages : (m : ℕ) (row : Row) → newest w.table row.image ≡ Some row
      → pages_kept (store_at w m) row ≤ pages_kept (store_at v m) row

-- This holds after each tick and each heard frame, at any moment and with any word, also a refused one.
abbrev pub FreeLaw : Type 0
FreeLaw = (w v : World) (e : Event) (reports : List Report) → WorldAgrees w → IsFree e
    → WorldStep w (record { event = e; cut = None }) v reports → Grows w v

-- ---- a round

-- the first copy is ahead of the second: it has a page, and the second is missing, or an older version, or has fewer pages
abbrev pub is_ahead : Option Held → Option Held → Bool
is_ahead None b = false
is_ahead (Some h) None = nat_le 1 (length h.complete)
is_ahead (Some h) (Some g) =
    nat_le 1 (length h.complete) && (nat_lt g.version h.version
    || ((g.version == h.version) && nat_lt (length g.complete) (length h.complete)))

-- the lowest image in which the first store is ahead of the second, of those that wide motes forward, or narrow ones
unfoldable pub least_ahead : (wide : Bool) → Store → Store → Option ℕ
least_ahead wide s t = find (λ i. is_ahead (held s i) (held t i)) (shared wide)

-- one more page of the version that is ahead, or its first page
abbrev pub RaisedFrom : Option Held → Held → Held → Type 0
RaisedFrom None ahead now = (now.version ≡ ahead.version) × (length now.complete ≡ 1)
RaisedFrom (Some h) ahead now =
    (now.version ≡ ahead.version) × (length now.complete ≡ (if h.version == ahead.version then length h.complete + 1 else 1))

-- t becomes `after` by one page of image i, of the version that s keeps; what is kept of other images stays
pub record Raises (s t : Store) (i : ℕ) (after : Store) : Type 0 where
  pub ahead : Held
  pub held_there : held s i ≡ Some ahead
  pub now : Held
  pub held_now : held after i ≡ Some now
  pub raised : RaisedFrom (held t i) ahead now
  pub others : KeptBut i t after

-- the least room that both motes of a round need to have at its end
abbrev pub HasRoomAt : World → ℕ → Type 0
HasRoomAt w m = spare_room ≤ (store_at w m).room

-- A round from a to its neighbour b, both on, and both wide or both narrow: if a is ahead, b has one more page of the lowest
-- image in which a is ahead. What a keeps and all other motes are unchanged.
abbrev pub RoundLaw : Type 0
RoundLaw = (w v : World) (a b i : ℕ) → WorldAgrees w → linked w a b ≡ true → wide_at w a ≡ wide_at w b → IsOn w a → IsOn w b
    → Follows w (round a b) v → HasRoomAt v a → HasRoomAt v b
    → least_ahead (wide_at w a) (store_at w a) (store_at w b) ≡ Some i
    → Raises (store_at w a) (store_at w b) i (store_at v b) × SameKept (store_at w a) (store_at v a)
    × ((m : ℕ) → m ≢ a → m ≢ b → site v m ≡ site w m)

-- ---- sweeps

-- mote m is within h links of one that keeps the row whole
unfoldable pub within : World → Row → ℕ → ℕ → Bool
within w row zero m = nat_le (page_count row) (pages_kept (store_at w m) row) && nat_lt m (length w.sites)
within w row (suc h) m =
    within w row h m || list_any (λ l. ((l.1 == m) && within w row h l.0) || ((l.0 == m) && within w row h l.1)) w.links

abbrev pub AllWithin : World → Row → ℕ → Type 0
AllWithin w row h = (m : ℕ) → m < length w.sites → within w row h m ≡ true

-- the least number of links, at least 1, within which all motes are
pub record IsHops (w : World) (row : Row) (h : ℕ) : Type 0 where
  pub some : 1 ≤ h
  pub all : AllWithin w row h
  pub least : (k : ℕ) → 1 ≤ k → AllWithin w row k → h ≤ k

-- the sweeps for an image: one for each page, and one for each link except the first
abbrev pub IsEnoughFor : World → Option Row → ℕ → Type 0
IsEnoughFor w None n = n ≡ 0
IsEnoughFor w (Some row) n = (h : ℕ) × IsHops w row h × (n ≡ page_count row + h - 1)

-- the sweeps for these images, one after the other
unfoldable pub IsEnoughOver : World → List ℕ → ℕ → Type 0
IsEnoughOver w [] n = n ≡ 0
IsEnoughOver w (i ∷ is) n = (x y : ℕ) × IsEnoughFor w (newest w.table i) x × IsEnoughOver w is y × (n ≡ x + y)

-- this many sweeps are enough: those for each image that wide motes forward
abbrev pub IsEnough : World → ℕ → Type 0
IsEnough w n = IsEnoughOver w (shared true) n

-- A rest of n sweeps from world w to world v: w agrees with its table, every mote is on, all are of one width, and each has
-- room at the end.
pub record Rests (w : World) (n : ℕ) (es : List Event) (v : World) : Type 0 where
  pub good : WorldAgrees w
  pub rest : IsRest w.links n es
  pub run : Follows w es v
  pub on : (m : ℕ) → m < length w.sites → IsOn w m
  pub widths : OneWidth w
  pub room : (m : ℕ) → m < length w.sites → HasRoomAt v m

-- the newest row of every smaller image is whole at every mote
abbrev pub DoneBelow : World → ℕ → Type 0
DoneBelow w i = (j : ℕ) (row : Row) (m : ℕ) → 1 ≤ j → j < i → newest w.table j ≡ Some row → m < length w.sites
    → pages_kept (store_at w m) row ≡ page_count row

-- Pages travel along the links, as in a pipeline: after t sweeps a mote within j links of a whole image has t + 1 - j pages of
-- it, or all.
abbrev pub PipelineLaw : Type 0
PipelineLaw = (w v : World) (t : ℕ) (es : List Event) (i : ℕ) (row : Row) → Rests w t es v → DoneBelow w i → 1 ≤ i
    → i < images → newest w.table i ≡ Some row
    → (m j : ℕ) → m < length w.sites → 1 ≤ j → within w row j m ≡ true
    → min (page_count row) (t + 1 - j) ≤ pages_kept (store_at v m) row

-- After enough sweeps every mote keeps the newest version of each image whole.
abbrev pub CompletionLaw : Type 0
CompletionLaw = (w v : World) (n k : ℕ) (es : List Event) → Rests w n es v → IsEnough w k → k ≤ n
    → (i : ℕ) (row : Row) (m : ℕ) → 1 ≤ i → i < images → newest w.table i ≡ Some row → m < length w.sites
    → held (store_at v m) i ≡ Some (held_whole row)
