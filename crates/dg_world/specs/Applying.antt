-- All that is promised of a step of a world (docs/PROMISES.md, "What other calls promise").
use Rattle.std.specs.Prelude.{◌≡◌, ◌⊎◌, ℕ, true, Bool, slice_get, Some, IfSome, OnOk, OnErr, Result, Err, Option}
use Rattle.dg_nor.specs.Device.{Device}
use Rattle.dg_object.specs.Object.{Row}
use Rattle.dg_base.specs.declared.events.Step.{Step}
use Rattle.dg_rules.specs.Sizes.{most_events}
use Rattle.dg_rules.specs.World.{World as RuleWorld}
use Rattle.dg_rules.specs.Events.{does, mote_of}
use Rattle.dg_world.specs.Applied.{Applied, FlashAt, RunEnded, BoardsAreConsistent, BoardIsConsistent}
use Rattle.dg_world.specs.Known.{known_of, OrderTakes, InjectTakes}
use Rattle.dg_world.specs.Knows.{KnowsThen}
use Rattle.dg_shared.specs.Unseen.{RefusesUnseen}
use Rattle.dg_world.specs.Worlds.{IsWorld}
use Rattle.dg_world.specs.Deployments.{Deployment}
use Rattle.dg_world.specs.declared.world.WorldFault.{WorldFault}
use Rattle.dg_world.specs.declared.world.WorldFault.TheVariants.{Memory, Flash, TooMany, NotAVolume, NoImage}
use Rattle.dg_base.specs.declared.events.Cut.{Cut as PowerCut}
use Rattle.dg_base.specs.declared.events.Event.{Event}

-- the step that an event and its cut make
abbrev pub step_of : Event → Option PowerCut → Step
step_of event cut = record { event = event; cut = cut }

-- it stands for world w of the rules
abbrev pub IsOf : Deployment → RuleWorld → Type 0
IsOf a w = IsWorld a.world a.boards w

-- What a step made of a, which is b afterwards, and what it answers.
pub record ApplyDone (r : Result (Unit {0}) WorldFault) (x : Step) (reported : Bool) (a b : Deployment) : Type 0 where
  pub applied : OnOk r ((w : RuleWorld) → IsOf a w → Applied w x reported a b)
  -- exactly a world that has applied all its events answers `TooMany`
  pub too_many : r ≡ Err TooMany → (w : RuleWorld) → IsOf a w → w.events ≡ most_events
  pub full : (w : RuleWorld) → IsOf a w → w.events ≡ most_events → r ≡ Err TooMany
  pub unchanged : (r ≡ Err TooMany) ⊎ (r ≡ Err Memory) → ((w : RuleWorld) → IsOf a w → IsOf b w) × (b.boards ≡ a.boards)
  pub known_kept : (r ≡ Err TooMany) ⊎ (r ≡ Err Memory) → (m : ℕ) → known_of b.world m ≡ known_of a.world m
  pub unreported : OnErr r (b.reported ≡ a.reported)
  pub flash : (board : ℕ) → r ≡ Err (Flash board) → (w : RuleWorld) → IsOf a w → FlashAt w x board a.boards b.boards
  pub no_image : r ≡ Err NoImage → (w : RuleWorld) → IsOf a w → RunEnded w x a.boards b.boards
  pub a_volume : r ≡ Err NotAVolume → ⊥
  -- after it a board is known exactly if it is orderly then, and was known before or made known by the step
  pub known : OnOk r ((w : RuleWorld) → IsOf a w → KnowsThen w x.event a.world b.world b.boards)
  -- an order, whatever it answers, and a refused injection mount a known board again by binary search; an order does so
  -- once more after a cut that fired
  pub order_reads : (w : RuleWorld) (m : ℕ) (old new : Device) → IsOf a w → m ≡ mote_of x.event → known_of a.world m ≡ true
      → slice_get a.boards m ≡ Some old → slice_get b.boards m ≡ Some new → OrderTakes x.event old new
  pub inject_reads : OnOk r ((w : RuleWorld) (m : ℕ) (old new : Device) → IsOf a w → m ≡ mote_of x.event
      → known_of a.world m ≡ true → slice_get a.boards m ≡ Some old → slice_get b.boards m ≡ Some new
      → InjectTakes w x.event old new)
  -- an event that is refused without a look at the chip, as at a mote that is off, uses no board, and never answers `Flash`
  pub unseen : (w : RuleWorld) → IsOf a w → RefusesUnseen (does w x.event)
      → (b.boards ≡ a.boards) × ((board : ℕ) → r ≡ Err (Flash board) → ⊥)
  -- whatever bytes a frame carries and wherever power is cut: boards whose stores are consistent stay so, and so does a board
  -- that stops
  pub consistent : OnOk r ((golden : Row) → BoardsAreConsistent golden a.world a.boards
      → BoardsAreConsistent golden b.world b.boards)
  pub stops_consistent : (golden : Row) (board : ℕ) → r ≡ Err (Flash board) → BoardsAreConsistent golden a.world a.boards
      → IfSome (slice_get b.boards board) (BoardIsConsistent golden)
