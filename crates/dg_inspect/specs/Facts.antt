-- What a start chooses by, and what it chooses, once it is counted (docs/IMAGES.md, "The start").
use Rattle.std.specs.Prelude.{◌≡◌, ℕ, ◌+◌, ◌-◌, ◌==◌, ◌&&◌, ◌||◌, nat_le, nat_lt, not, Bool, if◌then◌else◌}
use Rattle.std.specs.Prelude.{Option, Some, None, is_some}
use Rattle.dg_volume.specs.Sizes.{golden_version, short_starts}
use Rattle.dg_volume.specs.Store.{App, Store}
use Rattle.dg_volume.specs.Told.{program_told}
use Rattle.dg_volume.specs.Start.{boot_counted, by_gesture, order_waits, sound, is_set_to}
use Rattle.dg_inspect.specs.Starts.{version_of, reason_of, waives}
use Rattle.dg_inspect.specs.declared.seen.ImageVersion.{ImageVersion}
use Rattle.dg_inspect.specs.declared.seen.NextStart.{NextStart}
use Rattle.dg_inspect.specs.declared.starting.StartFacts.{StartFacts}

-- golden, where it can be started
abbrev pub golden_if : Bool → Option ImageVersion
golden_if starts = if starts then Some (record { image = 0; version = golden_version }) else None

pub record TellsFacts (t : Store) (f : StartFacts) : Type 0 where
  pub short_starts : f.short_starts ≡ by_gesture t
  pub waits : f.waits ≡ order_waits t
  pub order_sound : f.order_sound ≡ sound t t.order.image
  pub golden_sound : f.golden_sound ≡ sound t 0
  pub program : f.program ≡ program_told t.app
  pub order : f.order ≡ t.order

-- what a start of this store runs, once it is counted
pub record Chooses (t : Store) (x : NextStart) : Type 0 where
  pub runs : x.runs ≡ version_of (boot_counted t).runs
  pub reason : x.reason ≡ reason_of t
  pub waives : x.waives ≡ waives t

-- short starts, and commits that are left, once a start by power is counted
abbrev pub counted_gesture : (gesture room : ℕ) → ℕ
counted_gesture gesture room = if nat_lt gesture short_starts && nat_lt 0 room then gesture + 1 else gesture

abbrev pub counted_room : (gesture room : ℕ) → ℕ
counted_room gesture room = if nat_lt gesture short_starts && nat_lt 0 room then room - 1 else room

abbrev pub blank_or_golden : Option App → Bool
blank_or_golden app = not (is_some app) || is_set_to app 0 golden_version

-- an order is started, where its image is kept whole or not
abbrev pub orders_start : Store → Bool → ℕ → Bool
orders_start s whole room =
    not (s.order.number == 0) && (not s.waived && (whole
    && (not (is_set_to s.app s.order.image s.order.version) && nat_le 2 room)))
