-- Rests whose premises are met: what a world needs so that a rest may follow (docs/SCRIPTS.md, "Sweeps that are enough").
use Rattle.std.specs.Prelude.{◌≡◌, ℕ, ◌+◌, ◌<◌, ◌≤◌, ◌==◌, Bool, if◌then◌else◌, List, ◌++◌, length, map, None}
use Rattle.std.specs.List.{AllByRecursion, sum_by}
use Rattle.dg_base.specs.declared.events.Event.{Event}
use Rattle.dg_script.specs.Items.{Item, Applies}
use Rattle.dg_script.specs.declared.report.Report.{Report}
use Rattle.dg_rules.specs.World.{World, store_at}
use Rattle.dg_rules.specs.Events.{mote_of}
use Rattle.dg_rules.specs.Steps.{WorldStep}
use Rattle.dg_rules.specs.Runs.{Played}
use Rattle.dg_script.specs.Ranges.{EventInRange}
use Rattle.dg_rules.specs.Premises.{WorldAgrees, OneWidth}
use Rattle.dg_rules.specs.Begins.{PlaysFrom}
use Rattle.dg_mote.specs.Drained.{spare_room}
use Rattle.dg_completion.specs.Rests.{IsFree, IsRest}
use Rattle.dg_completion.specs.Completion.{IsOn, Rests}
use Rattle.dg_completion.specs.Ends.{EndsInRest}

-- From a world that agrees with its table a tick or a heard frame leads to a world, also where it is refused.
abbrev pub AppliesLaw : Type 0
AppliesLaw = (w : World) (e : Event) → WorldAgrees w → IsFree e → (v : World) × (reports : List Report)
    × WorldStep w (record { event = e; cut = None }) v reports

-- The most commits of a tick or a heard frame: an advert brings an order, which takes one, and a version of an image in
-- place of an older one, which takes two.
abbrev pub most_commits : ℕ
most_commits = 3

-- this many at its mote, and none elsewhere
abbrev pub commits_at : ℕ → Event → ℕ
commits_at m e = if mote_of e == m then most_commits else 0

-- A tick or a heard frame makes no more commits than these.
abbrev pub SpendLaw : Type 0
SpendLaw = (w v : World) (e : Event) (reports : List Report) → WorldAgrees w → IsFree e
    → WorldStep w (record { event = e; cut = None }) v reports
    → (m : ℕ) → (store_at w m).room ≤ (store_at v m).room + commits_at m e

-- Every mote is on, all are of one width, and each has room for whatever these events may commit there.
pub record MayRest (w : World) (n : ℕ) (es : List Event) : Type 0 where
  pub good : WorldAgrees w
  pub rest : IsRest w.links n es
  pub on : (m : ℕ) → m < length w.sites → IsOn w m
  pub widths : OneWidth w
  pub room : (m : ℕ) → m < length w.sites → spare_room + sum_by (commits_at m) es ≤ (store_at w m).room

-- Such a rest can be applied, and meets the premises of completion.
abbrev pub MetLaw : Type 0
MetLaw = (w : World) (n : ℕ) (es : List Event) → MayRest w n es → (v : World) × Rests w n es v

-- ---- scripts

-- an event without a cut, as an item of a script
abbrev pub applying : Bool → Event → Item
applying reported e = Applies (record { event = e; cut = None }) reported

-- Every number is in its range, every mote is on, all are of one width, and each has room for whatever these events may commit
-- there.
pub record MayGoOn (motes : ℕ) (w : World) (n : ℕ) (es : List Event) : Type 0 where
  pub rest : IsRest w.links n es
  pub ranges : AllByRecursion (EventInRange motes) es
  pub on : (m : ℕ) → m < length w.sites → IsOn w m
  pub widths : OneWidth w
  pub room : (m : ℕ) → m < length w.sites → spare_room + sum_by (commits_at m) es ≤ (store_at w m).room

-- What was played before continues with these events, and so ends with a rest of n sweeps that begins in world w.
pub record GoesOnInRest (u : World) (before : List Played) (w : World) (n : ℕ) (es : List Event) (reported : Bool) : Type 0 where
  pub rest : List Played
  pub items : map (λ p. p.item) rest ≡ map (applying reported) es
  pub v : World
  pub plays : PlaysFrom u (before ++ rest) v
  pub ends : EndsInRest (before ++ rest) w n v

-- Every run of true events from a world that agrees with its table can continue like this.
abbrev pub GoesOnLaw : Type 0
GoesOnLaw = (u : World) (before : List Played) (w : World) (n : ℕ) (es : List Event) (reported : Bool) → PlaysFrom u before w
    → MayGoOn (length u.sites) w n es → GoesOnInRest u before w n es reported
