-- What a rehearsal knows, and what an event makes of it (docs/COMMANDS.md, "Rehearsing by the clock").
use Rattle.std.specs.Prelude.{◌≡◌, ℕ, ◌+◌, ◌-◌, ◌^◌, ◌==◌, ◌&&◌, nat_le, min, Bool, true, false, if◌then◌else◌}
use Rattle.std.specs.Prelude.{Option, Some, None, List, [], ◌∷◌, ◌++◌, length, slice_set}
use Rattle.std.specs.List.{filter}
use Rattle.rand_pcg.specs.Lcg.{Lcg}
use Rattle.rand_pcg.specs.Pcg.{pcg32}
use Rattle.dg_base.specs.declared.events.Cut.{Cut}
use Rattle.dg_base.specs.declared.events.Event.{Event}
use Rattle.dg_base.specs.declared.events.Step.{Step}
use Rattle.dg_nor.specs.Device.{Device}
use Rattle.dg_nor.specs.Trail.{operations}
use Rattle.dg_netcfg.specs.declared.profile.NetProfile.{NetProfile}
use Rattle.dg_seed.specs.Draws.{generator_of}
use Rattle.dg_volume.specs.Store.{Store}
use Rattle.dg_script.specs.declared.report.Report.{Report}
use Rattle.dg_script.specs.declared.report.Report.TheVariants.{Have, Start, Off, Refused}
use Rattle.dg_rules.specs.Changes.{changes, is_reported}
use Rattle.dg_rules.specs.Events.{EventEffect, Does, Refuses, Goes, does, mote_of, dt_of}
use Rattle.dg_rules.specs.Steps.{done_world, done_reports, cut_world}
use Rattle.dg_rules.specs.World.{World, Running, store_at, counted}
use Rattle.dg_world.specs.Alone.{uncut}
use Rattle.dg_world.specs.Due.{due_at}
use Rattle.dg_world.specs.Worlds.{IsWorld}
use Rattle.dg_rehearse.specs.Rehearsed.{Staging, staging, rehearsed_lines, written_lines}
use Rattle.dg_rehearse.specs.declared.plan.Plan.{Plan}
use Rattle.dg_rehearse.specs.declared.progress.Progress.{Progress}
use Rattle.dg_rehearse.specs.declared.schedule.Schedule.{Schedule}
use Rattle.dg_rehearse.specs.declared.stage.Stage.{Stage}

-- ---- what it knows

-- what is still to happen
pub record Agenda : Type 0 where
  -- the generator of the draws that are left
  pub generator : Lcg
  -- for each mote, the moment from which on it has a turn
  pub turns : List ℕ
  -- how many pages the image has, which motes were reported to have all of them, and which to run it
  pub pages : ℕ
  pub whole : List Bool
  pub runs : List Bool
  -- how many resets with a cut are left, and the moment of the next
  pub cuts : ℕ
  pub next_cut : ℕ

-- a rehearsal after these steps, which led to this world
pub record Course : Type 0 where
  pub agenda : Agenda
  pub steps : List Step
  pub world : World

-- the next draw, and a rehearsal after it
abbrev pub drawn_word : Agenda → ℕ
drawn_word a = (pcg32 a.generator).0

abbrev pub past_draw : Agenda → Agenda
past_draw a = record a { generator = (pcg32 a.generator).1 }

abbrev pub drawn_course : Course → Course
drawn_course c = record c { agenda = past_draw c.agenda }

-- ---- what an event does

pub record StepOutcome : Type 0 where
  pub world : World
  pub reports : List Report

abbrev pub started_runs : Option (Option Running) → Option Running
started_runs None = None
started_runs (Some runs) = runs

-- an event that is not cut: the rules leave nothing open
abbrev pub whole_outcome : Does → World → Event → StepOutcome
whole_outcome (Refuses why) w e = record { world = counted w (dt_of e); reports = Refused (mote_of e) why ∷ [] }
whole_outcome (Goes d) w e =
    record { world = done_world w (mote_of e) (dt_of e) d (started_runs d.runs); reports = done_reports w (mote_of e) d }

-- an event whose cut leaves this store, if it fires
abbrev pub cut_outcome : Does → World → Event → Cut → (left : Store) → StepOutcome
cut_outcome (Refuses why) w e cut left = whole_outcome (Refuses why) w e
cut_outcome (Goes d) w e cut left =
    if nat_le cut.after (operations d.trail)
    then record {
      world = cut_world w (mote_of e) (dt_of e) d left;
      reports = changes (mote_of e) (store_at w (mote_of e)) left ++ Off (mote_of e) ∷ [];
    }
    else whole_outcome (Goes d) w e

-- ---- what is noted of it

-- a report line that says how many pages of the image a mote has, what it starts, or that it is off
abbrev pub noted_line : Plan → Agenda → Report → Agenda
noted_line p a (Have m image version pages) =
    if (image == p.image) && (version == p.version) then record a { whole = slice_set a.whole m (pages == a.pages) } else a
noted_line p a (Start m image version size crc) =
    record a { runs = slice_set a.runs m ((image == p.image) && (version == p.version)) }
noted_line p a (Off m) = record a { runs = slice_set a.runs m false }
noted_line p a line = a

unfoldable pub noted_lines : Plan → Agenda → List Report → Agenda
noted_lines p a [] = a
noted_lines p a (line ∷ lines) = noted_lines p (noted_line p a line) lines

-- the largest moment that there is, in milliseconds
abbrev pub last_moment : ℕ
last_moment = 2 ^ 64 - 1

abbrev pub moment_after : (now dt : ℕ) → ℕ
moment_after now dt = min (now + dt) last_moment

-- how long a mote is off, in milliseconds
abbrev pub off_time : ℕ
off_time = 1000

abbrev pub turn_after : Option ℕ → (now : ℕ) → ℕ
turn_after None now = moment_after now off_time
turn_after (Some moment) now = moment

-- the next turn of a mote comes when something of it is due or, if it is off, when it powers on again
abbrev pub next_turn : World → ℕ → ℕ
next_turn w m = turn_after (due_at w m) w.moment

abbrev pub set_turn : ℕ → (moment : ℕ) → Agenda → Agenda
set_turn m moment a = record a { turns = slice_set a.turns m moment }

unfoldable pub noted_event : Plan → ℕ → List Report → World → Agenda → Agenda
noted_event p m lines w a = set_turn m (next_turn w m) (noted_lines p a lines)

-- ---- a rehearsal after one more step

abbrev pub and_step : Plan → Step → StepOutcome → Course → Course
and_step p x o c =
    record {
      agenda = noted_event p (mote_of x.event) (filter (is_reported false) o.reports) o.world c.agenda;
      steps = c.steps ++ x ∷ [];
      world = o.world;
    }

unfoldable pub event_course : Plan → Event → Course → Course
event_course p e c = and_step p (uncut e) (whole_outcome (does c.world e) c.world e) c

unfoldable pub cut_course : Plan → Cut → Event → (left : Store) → Course → Course
cut_course p cut e left c =
    and_step p (record { event = e; cut = Some cut }) (cut_outcome (does c.world e) c.world e cut left) c

-- ---- what the code keeps of it

-- an agenda with what was noted of each mote
abbrev pub with_progress : Agenda → Progress → Agenda
with_progress a x = record a { pages = x.pages; whole = x.whole; runs = x.runs }

abbrev pub agenda_of : Schedule → Agenda
agenda_of s =
    record {
      generator = generator_of s.draws;
      turns = s.due;
      pages = s.progress.pages;
      whole = s.progress.whole;
      runs = s.progress.runs;
      cuts = s.cuts;
      next_cut = s.next_cut;
    }

pub record Scene : Type 0 where
  pub agenda : Agenda
  pub staging : Staging

abbrev pub scene : Schedule → Stage → List Device → Scene
scene schedule stage boards = record { agenda = agenda_of schedule; staging = staging stage boards }

-- a scene is that of a course
pub record IsCourse (n : NetProfile) (p : Plan) (x : Scene) (c : Course) : Type 0 where
  pub agenda : x.agenda ≡ c.agenda
  pub is : IsWorld x.staging.kept x.staging.boards c.world
  pub moment : x.staging.moment ≡ c.world.moment
  pub count : length c.world.sites ≡ n.motes
  pub spelled : x.staging.script ≡ written_lines (rehearsed_lines n p c.steps)

-- from one scene to another the course went on by this
abbrev pub Moves : (Course → Course) → NetProfile → Plan → (x y : Scene) → Type 0
Moves f n p x y = (c : Course) → IsCourse n p x c → IsCourse n p y (f c)

-- One step led from one staging to another, with this outcome. These lines were reported of it.
pub record IsStepMade (n : NetProfile) (p : Plan) (x : Step) (s t : Staging) (reports : List Report) (o : StepOutcome) : Type
    0 where
  pub is : IsWorld t.kept t.boards o.world
  pub moment : t.moment ≡ o.world.moment
  pub count : length o.world.sites ≡ n.motes
  pub lines : reports ≡ filter (is_reported false) o.reports
  pub spelled : (steps : List Step) → s.script ≡ written_lines (rehearsed_lines n p steps)
      → t.script ≡ written_lines (rehearsed_lines n p (steps ++ x ∷ []))

-- what a staging stands for
pub record IsStagedWorld (n : NetProfile) (s : Staging) (w : World) : Type 0 where
  pub is : IsWorld s.kept s.boards w
  pub moment : s.moment ≡ w.moment
  pub count : length w.sites ≡ n.motes
