-- The step of a world: whole, or cut in one of its operations (docs/SCRIPTS.md, "Cuts").
use Rattle.std.specs.Prelude.{◌≡◌, ℕ, ◌-◌, nat_le, Bool, true, false, List, [], ◌∷◌, ◌++◌, Option, Some, None}
use Rattle.dg_nor.specs.Trail.{Trail, operations, last, Leaves}
use Rattle.dg_object.specs.Object.{Row}
use Rattle.dg_volume.specs.Store.{Store, IsNear}
use Rattle.dg_volume.specs.Table.{row_at}
use Rattle.dg_frame.specs.declared.Message.{Message}
use Rattle.dg_frame.specs.Spelling.{frame_of}
use Rattle.dg_rules.specs.World.{World, Running, store_at, with_site, counted}
use Rattle.dg_rules.specs.Changes.{changes, start_line, sent_line, declared_lines}
use Rattle.dg_rules.specs.Events.{EventEffect, Does, Refuses, Goes, does, mote_of, dt_of}
use Rattle.dg_base.specs.declared.events.Cut.{Cut}
use Rattle.dg_base.specs.declared.events.Step.{Step}
use Rattle.dg_script.specs.declared.report.Report.{Report}
use Rattle.dg_script.specs.declared.report.Report.TheVariants.{Off, Refused}

-- A cut fires in the operation with its number, if the event makes this many.
abbrev pub blows : Option Cut → Trail Store → Bool
blows None t = false
blows (Some cut) t = nat_le cut.after (operations t)

-- the operations that are made before it
abbrev pub before_cut : Option Cut → ℕ
before_cut None = 0
before_cut (Some cut) = cut.after - 1

-- a frame that was sent gets the next number
abbrev pub and_sent : World → ℕ → Option Message → World
and_sent w m None = w
and_sent w m (Some message) = record w { sent = w.sent ++ record { by = m; bytes = frame_of message } ∷ [] }

-- the world after an event at mote m that was not stopped
abbrev pub done_world : World → (m dt : ℕ) → EventEffect → Option Running → World
done_world w m dt d runs =
    and_sent (with_site (record (counted w dt) { table = d.table }) m (record { store = last d.trail; runs = runs })) m d.sent

-- the world after one whose cut left store s: the mote is off, and nothing was sent
abbrev pub cut_world : World → (m dt : ℕ) → EventEffect → Store → World
cut_world w m dt d s = with_site (record (counted w dt) { table = d.table }) m (record { store = s; runs = None })

abbrev pub done_reports : World → ℕ → EventEffect → List Report
done_reports w m d = changes m (store_at w m) (last d.trail) ++ start_line m d.started ++ sent_line m d.sent

-- the event was not stopped: the outcome is a function of the world and the event
abbrev pub IsDone : World → (m dt : ℕ) → EventEffect → World → List Report → Type 0
IsDone w m dt d v reports =
    (runs : Option Running) × (d.runs ≡ Some runs) × (v ≡ done_world w m dt d runs) × (reports ≡ done_reports w m d)

-- the cut fired: the chip stands for one of the stores that the trail leaves there
pub record IsCut (w : World) (m dt : ℕ) (d : EventEffect) (k : ℕ) (v : World) (reports : List Report) : Type 0 where
  pub store : Store
  pub allowed : Leaves IsNear d.trail k store
  pub world : v ≡ cut_world w m dt d store
  pub report : reports ≡ changes m (store_at w m) store ++ Off m ∷ []

abbrev pub Ended : Bool → World → Step → EventEffect → World → List Report → Type 0
Ended true w x d v reports = IsCut w (mote_of x.event) (dt_of x.event) d (before_cut x.cut) v reports
Ended false w x d v reports = IsDone w (mote_of x.event) (dt_of x.event) d v reports

abbrev pub StepDoes : Does → World → Step → World → List Report → Type 0
StepDoes (Refuses why) w x v reports = (v ≡ counted w (dt_of x.event)) × (reports ≡ Refused (mote_of x.event) why ∷ [])
StepDoes (Goes d) w x v reports = Ended (blows x.cut d.trail) w x d v reports

-- from world w, a step may lead to world v with these report lines
unfoldable pub WorldStep : World → Step → World → List Report → Type 0
WorldStep w x v reports = StepDoes (does w x.event) w x v reports

-- A start that found no image ends the run: the mote is off, and its store is the last of the trail.
pub record EndsRun (w : World) (x : Step) (v : World) : Type 0 where
  pub effect : EventEffect
  pub goes : does w x.event ≡ Goes effect
  pub whole : blows x.cut effect.trail ≡ false
  pub none : effect.runs ≡ None
  pub world : v ≡ cut_world w (mote_of x.event) (dt_of x.event) effect (last effect.trail)

-- ---- declarations

abbrev pub declared_as : Option Row → World → Row → World
declared_as None w row = record w { declared = w.declared ++ row ∷ [] }
declared_as (Some kept) w row = w

-- A row is declared: it is added if its image version is not declared yet. If that is declared with another name or content, this
-- is reported and nothing changes
pub record DeclareStep (w : World) (row : Row) (v : World) (reports : List Report) : Type 0 where
  pub world : v ≡ declared_as (row_at w.declared row.image row.version) w row
  pub told : reports ≡ declared_lines (row_at w.declared row.image row.version) row
