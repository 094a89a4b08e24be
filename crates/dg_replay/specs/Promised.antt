-- What is promised of a script that was played so far, each with its premises (docs/PROMISES.md, "The report and what it
-- tells").
use Rattle.std.specs.Prelude.{◌≡◌, ◌≤◌, ℕ, Bool, List, [], ◌∷◌, ◌++◌, map, Option, Some, IfSome}
use Rattle.std.specs.List.{AllByRecursion}
use Rattle.dg_base.specs.declared.events.Step.{Step}
use Rattle.dg_object.specs.Object.{Row}
use Rattle.dg_script.specs.Script.{Script}
use Rattle.dg_script.specs.Items.{Item, Applies}
use Rattle.dg_rules.specs.World.{World}
use Rattle.dg_rules.specs.Runs.{Played, EachAfter}
use Rattle.dg_rules.specs.Promises.{IsLegal, KeepsAll, StartsRow, StopsAgree}
use Rattle.dg_rules.specs.Premises.{IsHonestThen, HonestEvent, LeavesAgreement, WorldAgrees}
use Rattle.dg_rules.specs.Consistency.{WorldConsistent, LeavesConsistent, StartsSound, StopsConsistent}
use Rattle.dg_completion.specs.Completion.{IsEnough}
use Rattle.dg_completion.specs.Ends.{EndsInRest, PagesCome, KeepsNewest}
use Rattle.dg_completion.specs.Played.{RoundsBring}
use Rattle.dg_rules.specs.Begins.{StoresAgree, HoldsTo, HoldsToThen}
use Rattle.dg_replay.specs.Items.{IsNoFrame, UsesBoards, beginning_of}
use Rattle.dg_replay.specs.Replayed.{Progress, RunsTo, item_played}

-- A first part of what was played of a script, or all of it, and the world that it leads to. What is promised of honest events is
-- promised of each such part: an event that breaks the premise does not affect what was played before it.
pub record PlayedFirst {table : List Row} {script : Script} (c : Progress table script) : Type 0 where
  pub played : List Played
  pub rest : List Played
  pub last : Option World
  pub parts : c.played ≡ played ++ rest
  pub run : RunsTo (beginning_of c.ground c.done).world played last

-- Each frame from outside is honest by the table of its moment. If the boards are used as they are, what they stood for agrees
-- with the table, and no image version of that table is injected with another content, unless the rules refuse it. A script with
-- golden meets this second premise.
pub record FramesAreHonest {table : List Row} {script : Script} {c : Progress table script} (f : PlayedFirst c) : Type 0 where
  pub frames : AllByRecursion IsHonestThen f.played
  pub agree : UsesBoards c.done → StoresAgree c.ground.table c.ground.stores
  pub hold : UsesBoards c.done → AllByRecursion (HoldsToThen c.ground.table) f.played

-- What holds of what was played first, with honest frames.
pub record HonestRun {table : List Row} {script : Script} {c : Progress table script} (f : PlayedFirst c) : Type 0 where
  -- each step is legal after those before it
  pub legal : EachAfter IsLegal [] f.played
  -- no version falls, and a complete page stays unless a newer version of its image replaces it,
  -- which a cut may have left half done
  pub keeps : AllByRecursion KeepsAll f.played
  -- what starts is a row of the table of images, byte for byte
  pub starts : AllByRecursion StartsRow f.played
  -- Every chip, also one that a cut left half done, every mote that is on and every frame that was sent agrees with the table:
  -- after each item, and in the last world.
  pub agrees : AllByRecursion LeavesAgreement f.played × IfSome f.last WorldAgrees
  -- the store of each half-done chip agrees too, wherever a stop comes in the next event, if that event is honest
  pub halves : (w : World) (step : Step) (reported : Bool) (more : List Item) → f.last ≡ Some w
      → map item_played f.rest ++ c.left ≡ Applies step reported ∷ more → HonestEvent w.table step.event
      → (UsesBoards c.done → HoldsTo c.ground.table w step.event) → StopsAgree w step.event
  -- Each round that was played between two neighbours, both wide or both narrow, brought the second one a page of the lowest
  -- image in which the first was ahead. Both were on, and had room for three commits at its end, and no power was cut in it. The
  -- 50 ticks with which a round begins brought their mote to rest.
  pub rounds : RoundsBring f.played
  -- Suppose it ends with an undisturbed rest of t sweeps, every mote is on and has room for three commits at its end, and all
  -- motes are wide, or all are narrow and no image above 3 has a row. If every smaller image was whole everywhere, a mote within
  -- j links of a whole image then has t + 1 - j pages of it, or all.
  pub pipeline : (w v : World) (t : ℕ) → f.last ≡ Some v → EndsInRest f.played w t v → PagesCome w t v
  -- If such a rest has enough sweeps, every mote keeps the newest version of every image whole.
  pub completes : (w v : World) (n k : ℕ) → f.last ≡ Some v → EndsInRest f.played w n v → IsEnough w k → k ≤ n → KeepsNewest v

-- After each item, and in the last world, every store is consistent. What starts is golden, or an object that fits its own
-- descriptor. And wherever a stop comes in the next event, each store that the chip may then stand for is consistent.
pub record StaysConsistent (golden : Row) (played : List Played) (last : Option World) (left : List Item) : Type 0 where
  pub stores : AllByRecursion (LeavesConsistent golden) played
  pub ends : IfSome last (WorldConsistent golden)
  pub starts : AllByRecursion (StartsSound golden) played
  pub halves : (w : World) (step : Step) (reported : Bool) (more : List Item) → last ≡ Some w
      → left ≡ Applies step reported ∷ more → StopsConsistent golden w step.event

-- All parts of it, for a script that was played so far.
pub record Headline {table : List Row} {script : Script} (c : Progress table script) : Type 0 where
  pub honest : (f : PlayedFirst c) → FramesAreHonest f → HonestRun f
  -- without a `boards` line, lines that bring no frame from outside meet these premises
  pub frames : AllByRecursion IsNoFrame c.done → (UsesBoards c.done → ⊥) → (f : PlayedFirst c) → FramesAreHonest f
  -- Whatever bytes its frames carry, every store is consistent: after each item, in the last world, and wherever a stop comes in
  -- the next event. What starts is golden byte for byte, or an object that fits its own descriptor.
  pub consistent : (UsesBoards c.done → ⊥) → (golden : Row) (w : World) → (beginning_of c.ground c.done).world ≡ Some w
      → w.table ≡ golden ∷ [] → StaysConsistent golden c.played c.last c.left
