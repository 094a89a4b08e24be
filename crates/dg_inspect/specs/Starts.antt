-- What the next start runs, and what becomes of the order (docs/IMAGES.md, "The start").
use Rattle.std.specs.Prelude.{◌≡◌, ℕ, ◌==◌, ◌&&◌, nat_le, nat_lt, not, Bool, false, if◌then◌else◌, Option, Some, None}
use Rattle.dg_nor.specs.Trail.{last}
use Rattle.dg_slot.specs.Kept.{Held}
use Rattle.dg_volume.specs.Store.{App, Store, held}
use Rattle.dg_volume.specs.Start.{Runs, boot, count_trail, by_gesture, order_waits, sound, is_set_to, is_whole}
use Rattle.dg_volume.specs.declared.volume.StartCause.TheVariants as cause
use Rattle.dg_inspect.specs.declared.seen.ImageVersion.{ImageVersion}
use Rattle.dg_inspect.specs.declared.seen.StartReason.{StartReason}
use Rattle.dg_inspect.specs.declared.seen.StartReason.TheVariants as reason
use Rattle.dg_inspect.specs.declared.seen.OrderState.{OrderState}
use Rattle.dg_inspect.specs.declared.seen.OrderState.TheVariants as order
use Rattle.dg_inspect.specs.declared.seen.NextStart.{NextStart}

-- ---- the next start

-- the store once the start by power is counted
abbrev pub once_counted : Store → Store
once_counted s = last (count_trail cause.Power s)

abbrev pub version_of : Option Runs → Option ImageVersion
version_of None = None
version_of (Some r) = Some (record { image = r.image; version = r.version })

abbrev pub reason_by : Option App → StartReason
reason_by None = reason.Blank
reason_by (Some app) = reason.Program

-- why it runs: the cases of a start, in their order
abbrev pub reason_of : Store → StartReason
reason_of t =
    if by_gesture t then reason.ShortStarts
    else if order_waits t && sound t t.order.image then reason.Order
    else reason_by t.app

-- an order that waits is waived, since its image is not sound
abbrev pub waives : Store → Bool
waives t = not (by_gesture t) && (order_waits t && not (sound t t.order.image))

pub record ShowsNext (s : Store) (x : NextStart) : Type 0 where
  pub runs : x.runs ≡ version_of (boot cause.Power s).runs
  pub reason : x.reason ≡ reason_of (once_counted s)
  pub waives : x.waives ≡ waives (once_counted s)

-- ---- the order

-- a larger version is kept
abbrev pub is_overtaken : Option Held → ℕ → Bool
is_overtaken None version = false
is_overtaken (Some h) version = nat_lt version h.version

abbrev pub order_state : Store → OrderState
order_state s =
    if s.order.number == 0 then order.Absent
    else if s.waived then order.Waived
    else if is_set_to s.app s.order.image s.order.version then order.Started
    else if not (nat_le 2 s.room) then order.Never
    else if is_whole (held s s.order.image) s.order.version then order.Waits
    else if is_overtaken (held s s.order.image) s.order.version then order.Never
    else order.Incomplete
