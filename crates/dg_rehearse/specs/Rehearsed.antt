-- A rehearsal: the script that was written, and its run (docs/COMMANDS.md, "Rehearsing by the clock").
use Rattle.std.specs.Prelude.{◌≡◌, ◌⊎◌, ℕ, ◌+◌, ◌<◌, ◌≤◌, true, false, Option, Some, None, IfSome, IsSomeAnd}
use Rattle.std.specs.Prelude.{List, slice_get, [], ◌∷◌, ◌++◌, map, replicate, length, codes}
use Rattle.std.specs.List.{AllByRecursion, flat_map}
use Rattle.std.specs.Str.Lines.{lines}
use Rattle.dg_base.specs.declared.events.Cut.{Cut}
use Rattle.dg_base.specs.declared.events.Event.{Event}
use Rattle.dg_base.specs.declared.events.Event.TheVariants.{Tick, Hear, Last, Reset, Inject, Order, Frame}
use Rattle.dg_base.specs.declared.events.Step.{Step}
use Rattle.dg_nor.specs.Device.{Device}
use Rattle.dg_object.specs.Object.{Row, row_of}
use Rattle.dg_object.specs.Sizes.{most_bytes}
use Rattle.dg_volume.specs.Store.{Store, golden_row, fresh}
use Rattle.dg_netcfg.specs.declared.profile.NetProfile.{NetProfile}
use Rattle.dg_script.specs.Fitting.{FitsEvent, FitsCut}
use Rattle.dg_script.specs.Ranges.{IsDeclared}
use Rattle.dg_script.specs.Items.{Item, Declares, Applies}
use Rattle.dg_script.specs.Places.{first_place, none_narrow}
use Rattle.dg_script.specs.Script.{script_from}
use Rattle.dg_script.specs.Spelling.{line_text}
use Rattle.dg_script.specs.declared.line.Line.{Line}
use Rattle.dg_script.specs.declared.line.Line.TheVariants.{Motes, Golden, Link, Image, Cut as CutLine, Happens as EventLine}
use Rattle.dg_rules.specs.Runs.{Played, Plays}
use Rattle.dg_rules.specs.Sizes.{most_events}
use Rattle.dg_rules.specs.World.{World, Sent, first_world, frame_at}
use Rattle.dg_netcfg.specs.Readings.{IsAllowed}
use Rattle.dg_volume.specs.Stands.{Stands}
use Rattle.dg_volume.specs.Table.{row_at}
use Rattle.dg_world.specs.Boards.{WorldStands}
use Rattle.dg_world.specs.Counts.{AreSteady}
use Rattle.dg_world.specs.Formatted.{FirstBoards}
use Rattle.dg_world.specs.Worlds.{IsWorld}
use Rattle.dg_world.specs.declared.world.World.{World as KeptWorld}
use Rattle.dg_rehearse.specs.declared.plan.Plan.{Plan}
use Rattle.dg_rehearse.specs.declared.stage.Stage.{Stage}
use Rattle.dg_rehearse.specs.Along.{IsAlong, IsAlongEvent}

-- ---- where it begins

-- golden of a rehearsal, and a chip formatted with it
abbrev pub base_row : Row
base_row = golden_row (codes "base") (codes "A")

abbrev pub base_chip : Store
base_chip = fresh (codes "base") (codes "A") 0

-- the image that is injected
abbrev pub planned_row : Plan → Row
planned_row p = row_of p.image p.version p.name p.content

-- all motes are off, their chips were formatted, and nothing is declared
abbrev pub rehearsed_world : NetProfile → World
rehearsed_world n = first_world (base_row ∷ []) n.links none_narrow (replicate n.motes base_chip)

-- the image of the plan is declared in a world that has none
abbrev pub declared_world : World → Plan → World
declared_world w p = record w { declared = planned_row p ∷ [] }

-- The chips of this many motes were formatted with golden, and did not come stopped. All others are as before, and none stopped.
pub record AreFormatted (motes : ℕ) (old new : List Device) : Type 0 where
  pub stands : (m : ℕ) (d : Device) → m < motes → slice_get new m ≡ Some d → Stands d.image base_chip
  pub awake : (m : ℕ) (d : Device) → m < motes → slice_get old m ≡ Some d → d.stopped ≡ false
  pub calm : AreSteady old new
  pub boards : FirstBoards motes old new

-- ---- the script

-- the lines before the first event
abbrev pub opening_lines : NetProfile → Plan → List Line
opening_lines n p =
    Motes n.motes ∷ Golden (codes "base") 0 (codes "A") ∷ map (λ l. Link l.0 l.1) n.links
    ++ Image p.image p.version p.name p.content ∷ []

abbrev pub cut_lines : Option Cut → List Line
cut_lines None = []
cut_lines (Some cut) = CutLine cut ∷ []

-- the lines of a step: its cut, if it has one, and its event
abbrev pub step_lines : Step → List Line
step_lines x = cut_lines x.cut ++ EventLine x.event ∷ []

abbrev pub rehearsed_lines : NetProfile → Plan → List Step → List Line
rehearsed_lines n p steps = opening_lines n p ++ flat_map step_lines steps

-- a line as it is written, with its line end
abbrev pub written : Line → List ℕ
written l = line_text l ++ 10 ∷ []

abbrev pub written_lines : List Line → List ℕ
written_lines ls = flat_map written ls

-- the bytes are a script of these lines, whole and without a fault
abbrev pub SpellsScript : (bytes : List ℕ) → List Line → Type 0
SpellsScript bytes ls = script_from true first_place 1 (lines bytes) ≡ record { lines = ls; fault = None }

-- ---- what is played

-- An event of a rehearsal at one of this many motes: no frame comes from outside.
abbrev pub IsRehearsed : ℕ → Event → Type 0
IsRehearsed motes (Tick m dt word) = FitsEvent motes (Tick m dt word)
IsRehearsed motes (Hear m dt word frame) = FitsEvent motes (Hear m dt word frame)
IsRehearsed motes (Last from to dt word) = ⊥
IsRehearsed motes (Reset m dt word) = FitsEvent motes (Reset m dt word)
IsRehearsed motes (Inject m image version dt word) = FitsEvent motes (Inject m image version dt word)
IsRehearsed motes (Order m number image version dt word) = FitsEvent motes (Order m number image version dt word)
IsRehearsed motes (Frame m dt word bytes) = ⊥

pub record IsRehearsedStep (motes : ℕ) (x : Step) : Type 0 where
  pub event : IsRehearsed motes x.event
  pub cut : IfSome x.cut FitsCut

abbrev pub played_item : Played → Item
played_item p = p.item

-- the items of the script: the image is declared, and then each step is applied
abbrev pub rehearsed_items : Plan → List Step → List Item
rehearsed_items p steps = Declares (planned_row p) ∷ map (λ x. Applies x true) steps

-- These steps were played from the beginning, and lead to this world.
pub record Rehearses (n : NetProfile) (p : Plan) (steps : List Step) (w : World) : Type 0 where
  pub fits : AllByRecursion (IsRehearsedStep n.motes) steps
  pub played : List Played
  pub items : map played_item played ≡ rehearsed_items p steps
  pub plays : Plays (rehearsed_world n) played w

-- A plan for this many motes: an image that may be declared, and injected into one of them.
pub record IsPlanned (motes : ℕ) (p : Plan) : Type 0 where
  pub declared : IsDeclared (planned_row p)
  pub some : 1 ≤ length p.content
  pub fits : length p.content ≤ most_bytes
  pub at : p.at < motes

-- ---- what is promised

-- a world as the code keeps it, the boards, the script so far, and the moment in milliseconds
pub record Staging : Type 0 where
  pub kept : KeptWorld
  pub boards : List Device
  pub script : List ℕ
  pub moment : ℕ

abbrev pub staging : Stage → List Device → Staging
staging stage boards = record { kept = stage.world; boards = boards; script = stage.script.items; moment = stage.moment }

-- the table of images has no rows but golden and those that were declared
abbrev pub OnlyDeclared : World → Type 0
OnlyDeclared w = (image version : ℕ) (row : Row) → 1 ≤ image → row_at w.table image version ≡ Some row
    → row_at w.declared image version ≡ Some row

-- The script spells the steps that were played so far, and the boards, which were `initial` before they were formatted, stand
-- for the world then.
pub record IsStaged (n : NetProfile) (p : Plan) (initial : List Device) (s : Staging) : Type 0 where
  pub steps : List Step
  pub world : World
  pub run : Rehearses n p steps world
  pub along : AllByRecursion (IsAlong n) run.played
  pub count : length world.sites ≡ n.motes
  pub links : world.links ≡ n.links
  pub declared : world.declared ≡ planned_row p ∷ []
  pub table : OnlyDeclared world
  pub moment : s.moment ≡ world.moment
  pub is : IsWorld s.kept s.boards world
  pub stands : WorldStands world initial s.boards
  pub spelled : s.script ≡ written_lines (rehearsed_lines n p steps)

-- a rehearsal of a plan is under way
pub record IsUnderWay (n : NetProfile) (p : Plan) (s : Staging) : Type 0 where
  pub allowed : IsAllowed n
  pub planned : IsPlanned n.motes p
  pub initial : List Device
  pub staged : IsStaged n p initial s

-- A staging was continued: these further steps were played, and these frames were sent.
pub record Onward (n : NetProfile) (p : Plan) (initial : List Device) (s : Staging) (x : IsStaged n p initial s)
    (t : Staging) : Type 0 where
  pub staged : IsStaged n p initial t
  pub more : List Step
  pub steps : staged.steps ≡ x.steps ++ more
  pub frames : List Sent
  pub sent : staged.world.sent ≡ x.world.sent ++ frames

-- It was continued, whatever the boards were before, by steps to a world such that P holds of both.
pub record IsContinuedBy (P : List Step → World → Type 0) (n : NetProfile) (p : Plan) (s t : Staging) : Type 0 where
  pub goes : (initial : List Device) (x : IsStaged n p initial s) → (o : Onward n p initial s x t) × P o.more o.staged.world
  pub events : s.kept.events ≤ t.kept.events

abbrev pub Any : List Step → World → Type 0
Any more w = Unit {0}

abbrev pub IsContinued : NetProfile → Plan → (s t : Staging) → Type 0
IsContinued n p s t = IsContinuedBy Any n p s t

-- at least one more event was played
abbrev pub MoreEvents : (s t : Staging) → Type 0
MoreEvents s t = s.kept.events + 1 ≤ t.kept.events

-- a million events were played, the most there may be
abbrev pub IsFull : Staging → Type 0
IsFull t = t.kept.events ≡ most_events

-- exactly this step was played
abbrev pub Makes : Step → NetProfile → Plan → (s t : Staging) → Type 0
Makes x n p s t = IsContinuedBy (λ more w. more ≡ x ∷ []) n p s t × MoreEvents s t

-- ---- frames

-- mote m sent at most one frame
abbrev pub SendsAtMost : ℕ → (old new : List Sent) → Type 0
SendsAtMost m old new = (new ≡ old) ⊎ ((bytes : List ℕ) × (new ≡ old ++ record { by = m; bytes = bytes } ∷ []))

abbrev pub SendsOnly : ℕ → (s t : Staging) → Type 0
SendsOnly m s t = (w v : World) → IsWorld s.kept s.boards w → IsWorld t.kept t.boards v → SendsAtMost m w.sent v.sent

-- the frame with this number was sent by mote m
abbrev pub IsSentBy : ℕ → ℕ → World → Type 0
IsSentBy m number w = IsSomeAnd (frame_at w number) (λ f. f.by ≡ m)

abbrev pub SentBy : ℕ → ℕ → Staging → Type 0
SentBy m number s = (w : World) → IsWorld s.kept s.boards w → IsSentBy m number w

-- if there are more than this many frames, the last one was sent by mote m
abbrev pub LastSentBy : ℕ → (before : ℕ) → Staging → Type 0
LastSentBy m before s = (w : World) → IsWorld s.kept s.boards w → before < length w.sent → IsSentBy m (length w.sent) w

-- an event may be played: a frame that it delivers goes along a link
abbrev pub GoesAlong : NetProfile → Event → Staging → Type 0
GoesAlong n event s = (w : World) → IsWorld s.kept s.boards w → IsAlongEvent n w event

-- A rehearsal was written: the bytes are a script of the steps that were played, and the boards stand for the world to which its
-- run leads.
pub record Rehearsed (n : NetProfile) (p : Plan) (initial boards : List Device) (script : List ℕ) : Type 0 where
  pub steps : List Step
  pub world : World
  pub run : Rehearses n p steps world
  pub spells : SpellsScript script (rehearsed_lines n p steps)
  pub stands : WorldStands world initial boards
