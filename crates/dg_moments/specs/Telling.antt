-- What the lines of an event tell of the images that its mote keeps, and how that is noted.
use Rattle.std.specs.Prelude.{◌≡◌, ◌≢◌, ℕ, ◌<◌, ◌≤◌, nat_lt, true, false, if◌then◌else◌, List, [], ◌∷◌, ◌++◌, length, slice_get}
use Rattle.std.specs.Prelude.{Option, Some, None, MatchOption}
use Rattle.std.specs.Option.{option_flatten}
use Rattle.std.specs.List.{AllByRecursion, count_by}
use Rattle.dg_nor.specs.Device.{Device}
use Rattle.dg_volume.specs.Sizes.{images}
use Rattle.dg_volume.specs.Stands.{Stands}
use Rattle.dg_volume.specs.Store.{Store, held}
use Rattle.dg_base.specs.declared.events.Event.{Event}
use Rattle.dg_rules.specs.Begins.{store_of}
use Rattle.dg_rules.specs.Events.{mote_of}
use Rattle.dg_rules.specs.Runs.{Played}
use Rattle.dg_rules.specs.Sizes.{most_events}
use Rattle.dg_rules.specs.World.{store_at}
use Rattle.dg_script.specs.declared.report.Report.{Report}
use Rattle.dg_script.specs.declared.report.Report.TheVariants.{Order, Lost, Have, Start, Off, SentAdvert, SentRequest, SentData}
use Rattle.dg_script.specs.declared.report.Report.TheVariants.{Refused, Taken, End, MoteOn, MoteOff, Kept}
use Rattle.dg_cost_text.specs.declared.moment.Moment.{Moment}
use Rattle.dg_events.specs.HaveLines.{is_held_line}
use Rattle.dg_events.specs.Noted.{IsEventPlayed}
use Rattle.dg_events.specs.Keeps.{keeps_whole, HaveTells}
use Rattle.dg_moments.specs.Moments.{event_moment, store_after, is_loaded, whole_version}
use Rattle.dg_moments.specs.Looking.{ReadsBoards}
use Rattle.dg_moments.specs.Wholes.{HasWholes, GivenTells, KnowsImage, ChangesKept, KeepsOthers, Begins, with_kept, given_kept}
use Rattle.dg_moments.specs.declared.given.Given.{Given}
use Rattle.dg_moments.specs.declared.wholes.Wholes.{Wholes}

-- the image of which a line tells what is kept
abbrev pub image_told : Report → Option ℕ
image_told (Have mote image version pages) = Some image
image_told (Lost mote image) = Some image
image_told (Order mote number image version) = None
image_told (Start mote image version length crc) = None
image_told (Off mote) = None
image_told (SentAdvert mote) = None
image_told (SentRequest mote to image version page count) = None
image_told (SentData mote image version page packet) = None
image_told (Refused mote cause) = None
image_told (Taken image version) = None
image_told (End events) = None
image_told (MoteOn mote image version) = None
image_told (MoteOff mote) = None
image_told (Kept mote image version pages) = None

-- What a law of dg_events says of the lines of events: an event changes only what its mote keeps, and an image of which no line
-- tells stays as whole as it was.
pub record LinesTell : Type 0 where
  pub others : (e : Event) (lines : List Report) (p : Played) → IsEventPlayed e lines p
      → (m : ℕ) → m ≢ mote_of e → store_at p.after m ≡ store_at p.before m
  pub untold : (e : Event) (lines : List Report) (p : Played) → IsEventPlayed e lines p
      → (m image version : ℕ) → image < images → count_by (is_held_line image) p.reports ≡ 0
      → keeps_whole p.after m image version ≡ keeps_whole p.before m image version

-- An event at the mote of a board was played after these, at motes whose chips began with these stores. Where no line tells of an
-- image, the mote keeps of it what it kept.
pub record IsTold (mote : ℕ) (d : Device) (stores : List Store) (past : List Played) (p : Played) : Type 0 where
  pub within : mote < length stores
  pub few : length past < most_events
  pub tells : AllByRecursion (HaveTells mote (store_at p.after mote)) p.reports
  pub stands : Stands d.image (store_at p.after mote)
  pub awake : d.stopped ≡ false
  pub before : (m : ℕ) → m < length stores → store_at p.before m ≡ store_after (store_of stores m) m past
  pub others : (m : ℕ) → m < length stores → m ≢ mote → store_at p.after m ≡ store_at p.before m
  pub untold : (image version : ℕ) → image < images → count_by (is_held_line image) p.reports ≡ 0
      → keeps_whole p.after mote image version ≡ keeps_whole p.before mote image version

-- An event at a mote was played after these, at motes whose chips began with these stores, and left a world for which the boards
-- stand. Where no line tells of an image, the mote keeps of it what it kept.
pub record IsTelling (mote : ℕ) (boards : List Device) (stores : List Store) (past : List Played) (p : Played) : Type 0 where
  pub few : length past < most_events
  pub enough : length stores ≤ length boards
  pub before : (m : ℕ) → m < length stores → store_at p.before m ≡ store_after (store_of stores m) m past
  pub tells : mote < length stores → AllByRecursion (HaveTells mote (store_at p.after mote)) p.reports
  pub stands : (d : Device) → mote < length stores → slice_get boards mote ≡ Some d → Stands d.image (store_at p.after mote)
  pub awake : (d : Device) → mote < length stores → slice_get boards mote ≡ Some d → d.stopped ≡ false
  pub others : (m : ℕ) → m < length stores → m ≢ mote → store_at p.after m ≡ store_at p.before m
  pub untold : (image version : ℕ) → mote < length stores → image < images → count_by (is_held_line image) p.reports ≡ 0
      → keeps_whole p.after mote image version ≡ keeps_whole p.before mote image version

abbrev pub KnowsAll : Wholes → List Store → List Played → Type 0
KnowsAll w stores events = (image : ℕ) → KnowsImage w stores events image

-- every moment was noted, and what was told of the boards with which the replay began is what they keep
abbrev pub HasNoted : Wholes → (initial : List Device) → List Store → List Played → Type 0
HasNoted w initial stores events = ReadsBoards w.given.items initial × HasWholes w stores events

-- what was told before the run stays, and once moments are missing, they are missing
pub record StaysTold (before after : Wholes) : Type 0 where
  pub lost : after.lost ≡ false → before.lost ≡ false
  pub mounted : after.mounted ≡ before.mounted
  pub given : after.given ≡ before.given

-- from this moment on a mote keeps this version of an image whole, or none: golden is left out
pub record NotesKept (before after : Wholes) (motes mote image : ℕ) (version : Option ℕ) (at : Moment) : Type 0 where
  pub changes : after.lost ≡ false → ChangesKept before after motes mote image version at
  pub others : after.lost ≡ false → KeepsOthers before after image
  pub golden : image ≡ 0 → after ≡ before
  pub stays : StaysTold before after

-- what a line tells of the mote of a board is noted
abbrev pub NotesLine : (before after : Wholes) → (motes mote : ℕ) → Device → Report → Moment → Type 0
NotesLine before after motes mote d line at = (s : Store) → HaveTells mote s line → Stands d.image s → d.stopped ≡ false
    → MatchOption (image_told line) (after ≡ before)
    (λ image. NotesKept before after motes mote image (whole_version (held s image)) at)

-- what the lines of an event at the mote of a board tell is noted
abbrev pub NotesLines : (before after : Wholes) → (motes mote : ℕ) → Device → List Report → Moment → Type 0
NotesLines before after motes mote d lines now =
    (stores : List Store) (past : List Played) (p : Played) → motes ≡ length stores → p.reports ≡ lines
    → now ≡ event_moment (past ++ p ∷ []) → IsTold mote d stores past p → KnowsAll before stores past → after.lost ≡ false
    → KnowsAll after stores (past ++ p ∷ [])

-- what such an event makes whole is noted, after what was noted before it
abbrev pub BringsWholes : (before after : Wholes) → (motes mote : ℕ) → List Device → List Report → Moment → Type 0
BringsWholes before after motes mote boards lines now =
    (initial : List Device) (stores : List Store) (past : List Played) (p : Played) → motes ≡ length stores → p.reports ≡ lines
    → now ≡ event_moment (past ++ p ∷ []) → IsTelling mote boards stores past p
    → HasNoted before initial stores past → HasNoted after initial stores (past ++ p ∷ [])

-- what was told of a mote's board is noted, which kept nothing until now
abbrev pub GivesMote : (before after : Wholes) → (motes mote : ℕ) → Option Given → Type 0
GivesMote before after motes mote given = (image : ℕ) (kept : ℕ → Option ℕ) → after.lost ≡ false → mote < motes
    → kept mote ≡ None → Begins before motes image kept
    → Begins after motes image (with_kept kept mote (given_kept given image))

-- what was told of this many boards is noted, which kept nothing until now
abbrev pub GivesAll : (before after : Wholes) → (motes : ℕ) → Type 0
GivesAll before after motes = (image : ℕ) → after.lost ≡ false → Begins before motes image (λ m. None)
    → Begins after motes image
    (λ m. if nat_lt m motes then given_kept (option_flatten (slice_get before.given.items m)) image else None)

-- What was told of the boards is noted, if they are used as they are, since it is what the stores keep: else nothing but golden
-- is kept.
abbrev pub PlacesWholes : (before after : Wholes) → (motes : ℕ) → Type 0
PlacesWholes before after motes = (initial : List Device) (stores : List Store) → motes ≡ length stores
    → (after.mounted ≡ false → (m image : ℕ) → m < length stores → is_loaded image ≡ true → held (store_of stores m) image ≡ None)
    → (after.mounted ≡ true → ReadsBoards after.given.items initial → GivenTells after.given.items stores)
    → HasNoted before initial [] [] → HasNoted after initial stores []
