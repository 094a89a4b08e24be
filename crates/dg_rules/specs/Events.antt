-- What events do by the rules: each is refused, or its mote's chip goes through the stores of a trail (docs/SCRIPTS.md, "What
-- events do").
use Rattle.std.specs.Prelude.{ℕ, ◌+◌, ◌==◌, ◌||◌, nat_le, Bool, if◌then◌else◌, List, length, Option, Some, None, option_map}
use Rattle.dg_nor.specs.Trail.{Trail, resting}
use Rattle.dg_object.specs.Object.{Row}
use Rattle.dg_control.specs.declared.snapshot.Order.{Order}
use Rattle.dg_volume.specs.Store.{Store}
use Rattle.dg_volume.specs.Start.{Runs}
use Rattle.dg_volume.specs.Changes.{inject_refusal, order_refusal}
use Rattle.dg_volume.specs.Trails.{order_trail, inject_trail}
use Rattle.dg_volume.specs.declared.volume.InjectFault.{InjectFault}
use Rattle.dg_volume.specs.declared.volume.InjectFault.TheVariants as inject
use Rattle.dg_volume.specs.declared.volume.OrderFault.{OrderFault}
use Rattle.dg_volume.specs.declared.volume.OrderFault.TheVariants as order_fault
use Rattle.dg_frame.specs.Sizes.{narrow_images}
use Rattle.dg_frame.specs.declared.Message.{Message}
use Rattle.dg_mote.specs.Model.{MoteState, maintains}
use Rattle.dg_mote.specs.Effects.{Effect, reset_effect, tick_effect, frame_effect}
use Rattle.dg_volume.specs.Table.{row_at, with_row}
use Rattle.dg_rules.specs.World.{World, Running, Sent, site, store_at, wide_at, linked, frame_at, last_frame}
use Rattle.dg_base.specs.declared.events.ImageVersion.{ImageVersion}
use Rattle.dg_base.specs.declared.events.Event.{Event}
use Rattle.dg_base.specs.declared.events.Event.TheVariants.{Tick, Hear, Last, Reset, Inject, Order as OrderEvent, Frame}
use Rattle.dg_script.specs.declared.report.Cause.{Cause}
use Rattle.dg_script.specs.declared.report.Cause.TheVariants as cause

-- What an event that is not refused does, unless its power is cut: the stores of its trail, the table after it, what was started
-- and sent, and the mote after it. The mote is None if there was no image to start.
pub record EventEffect : Type 0 where
  pub trail : Trail Store
  pub table : List Row
  pub started : Option Runs
  pub sent : Option Message
  pub runs : Option (Option Running)

pub data Does : Type 0 where
  Refuses : (why : Cause) → Does
  Goes : (effect : EventEffect) → Does

-- the rules take an event: they do not refuse it
abbrev pub IsTaken : Does → Type 0
IsTaken (Refuses why) = ⊥
IsTaken (Goes effect) = Unit {0}

-- the stores that the chip of its mote goes through
abbrev pub trail_of : Does → Store → Trail Store
trail_of (Refuses why) s = resting s 0
trail_of (Goes d) s = d.trail

-- the mote at which an event happens, and the milliseconds since the event before
abbrev pub mote_of : Event → ℕ
mote_of (Tick mote dt word) = mote
mote_of (Hear mote dt word frame) = mote
mote_of (Last from to dt word) = to
mote_of (Reset mote dt word) = mote
mote_of (Inject mote image version dt word) = mote
mote_of (OrderEvent mote number image version dt word) = mote
mote_of (Frame mote dt word bytes) = mote

abbrev pub dt_of : Event → ℕ
dt_of (Tick mote dt word) = dt
dt_of (Hear mote dt word frame) = dt
dt_of (Last from to dt word) = dt
dt_of (Reset mote dt word) = dt
dt_of (Inject mote image version dt word) = dt
dt_of (OrderEvent mote number image version dt word) = dt
dt_of (Frame mote dt word bytes) = dt

-- ---- events of the mote itself

abbrev pub image_version_of : Runs → ImageVersion
image_version_of r = record { image = r.image; version = r.version }

-- what runs after an effect: what was started, or what ran before
abbrev pub runs_by : Option Runs → Option ImageVersion → MoteState → Option Running
runs_by (Some r) old m = Some (record { image_version = image_version_of r; mote = m })
runs_by None (Some image_version) m = Some (record { image_version = image_version; mote = m })
runs_by None None m = None

abbrev pub of_effect : World → Effect → Option ImageVersion → Does
of_effect w e old =
    let runs = option_map (runs_by e.started old) e.mote in
    Goes (record { trail = e.trail; table = w.table; started = e.started; sent = e.sent; runs = runs })

abbrev pub tick_does : World → Store → Option Running → (now word : ℕ) → Does
tick_does w s None now word = Refuses cause.Off
tick_does w s (Some r) now word = of_effect w (tick_effect r.mote s now word) (Some r.image_version)

abbrev pub hear_by : World → Store → Option Running → (now word : ℕ) → List ℕ → Does
hear_by w s None now word bytes = Refuses cause.Off
hear_by w s (Some r) now word bytes = of_effect w (frame_effect r.mote s now word bytes) (Some r.image_version)

abbrev pub heard_sent : World → ℕ → (now word : ℕ) → Option Sent → Does
heard_sent w m now word None = Refuses cause.Frame
heard_sent w m now word (Some f) =
    if linked w f.by m then hear_by w (store_at w m) (site w m).runs now word f.bytes else Refuses cause.Link

abbrev pub unless_off : Option Running → Does → Does
unless_off None d = Refuses cause.Off
unless_off (Some r) d = d

abbrev pub heard_last : World → (from to now word : ℕ) → Option Sent → Does
heard_last w from to now word None = Refuses cause.Frame
heard_last w from to now word (Some f) = hear_by w (store_at w to) (site w to).runs now word f.bytes

-- ---- injections and orders

-- The cause that is reported of a refused injection. `inject_refusal` never says Stopped, since a stop is not a refusal: a board
-- that stops ends the run, and nothing is reported of the event. The first line is therefore never used.
abbrev pub inject_cause : Row → InjectFault → Cause
inject_cause row inject.Stopped = cause.Empty
inject_cause row inject.Empty = cause.Empty
inject_cause row inject.TooLarge = cause.TooLarge (length row.bytes)
inject_cause row (inject.Stale kept) = cause.Stale kept
inject_cause row inject.Reserved = cause.Reserved
inject_cause row (inject.Worn room) = cause.Worn room
inject_cause row inject.Taken = cause.Taken

-- a mote that is on continues with its new volume
abbrev pub reloaded : Option Running → (now word : ℕ) → Option Running
reloaded None now word = None
reloaded (Some r) now word = Some (record r { mote = maintains r.mote now word })

abbrev pub acts : World → ℕ → Trail Store → List Row → (now word : ℕ) → Does
acts w m t table now word =
    Goes (record { trail = t; table = table; started = None; sent = None; runs = Some (reloaded (site w m).runs now word) })

abbrev pub inject_unless : Option InjectFault → World → ℕ → Row → (now word : ℕ) → Does
inject_unless (Some fault) w m row now word = Refuses (inject_cause row fault)
inject_unless None w m row now word = acts w m (inject_trail (store_at w m) row) (with_row w.table row) now word

abbrev pub inject_row : World → ℕ → Option Row → (now word : ℕ) → Does
inject_row w m None now word = Refuses cause.Image
inject_row w m (Some row) now word = inject_unless (inject_refusal (store_at w m) row) w m row now word

-- The cause that is reported of a refused order. `order_refusal` never says Stopped either.
abbrev pub order_cause : OrderFault → Cause
order_cause order_fault.Stopped = cause.Empty
order_cause (order_fault.Worn room) = cause.Worn room
order_cause (order_fault.OldOrder kept) = cause.OldOrder kept

abbrev pub order_unless : Option OrderFault → World → ℕ → Order → (now word : ℕ) → Does
order_unless (Some fault) w m order now word = Refuses (order_cause fault)
order_unless None w m order now word = acts w m (order_trail (store_at w m) order) w.table now word

-- A narrow mote knows only the images that its frames speak of, and golden.
abbrev pub knows : (wide : Bool) → ℕ → Bool
knows wide image = wide || nat_le image narrow_images

abbrev pub injects : World → (m image version now word : ℕ) → Does
injects w m image version now word =
    if image == 0 then Refuses cause.Reserved else inject_row w m (row_at w.declared image version) now word

abbrev pub orders : World → ℕ → Order → (now word : ℕ) → Does
orders w m order now word = order_unless (order_refusal (store_at w m) order) w m order now word

-- ---- every event

unfoldable pub does : World → Event → Does
does w (Tick m dt word) = tick_does w (store_at w m) (site w m).runs (w.moment + dt) word
does w (Hear m dt word frame) = unless_off (site w m).runs (heard_sent w m (w.moment + dt) word (frame_at w frame))
does w (Last from to dt word) =
    unless_off (site w to).runs
    (if linked w from to then heard_last w from to (w.moment + dt) word (last_frame w from) else Refuses cause.Link)
does w (Reset m dt word) = of_effect w (reset_effect (store_at w m) m (wide_at w m) (w.moment + dt) word) None
does w (Inject m image version dt word) =
    if knows (wide_at w m) image then injects w m image version (w.moment + dt) word else Refuses cause.Image
does w (OrderEvent m number image version dt word) =
    if knows (wide_at w m) image
    then orders w m (record { number = number; image = image; version = version }) (w.moment + dt) word
    else Refuses cause.Image
does w (Frame m dt word bytes) = hear_by w (store_at w m) (site w m).runs (w.moment + dt) word bytes
