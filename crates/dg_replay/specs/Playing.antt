-- What playing the items of a line, and the line itself, does (docs/ARCHITECTURE.md, "The way of a script line").
use Rattle.std.specs.Prelude.{◌≡◌, ◌⊎◌, ℕ, ◌<◌, ◌≤◌, true, false, List, [], ◌∷◌, ◌++◌, length, map, Option, Some, None, slice_get}
use Rattle.std.specs.Prelude.{IfSome, OnOk, Result, Ok, Err}
use Rattle.std.specs.List.{AllByRecursion}
use Rattle.dg_nor.specs.Device.{Device}
use Rattle.dg_script.specs.Fitting.{FitsCut, FitsLine, StandsAt, IsPlayed, UsesBoard}
use Rattle.dg_script.specs.Places.{first_place, place_after}
use Rattle.dg_script.specs.declared.place.Place.{Place}
use Rattle.dg_script.specs.declared.line.Line.{Line}
use Rattle.dg_script.specs.declared.line.Line.TheVariants.{Motes, Boards}
use Rattle.dg_object.specs.Object.{Row}
use Rattle.dg_rules.specs.Sizes.{most_motes, most_events}
use Rattle.dg_rules.specs.World.{World}
use Rattle.dg_rules.specs.Premises.{LinkFits}
use Rattle.dg_rules.specs.Runs.{Played, Plays}
use Rattle.dg_volume.specs.Store.{Store}
use Rattle.dg_volume.specs.Stands.{Stands}
use Rattle.dg_volume.specs.Shaped.{IsShaped}
use Rattle.dg_rules.specs.Begins.{store_of}
use Rattle.dg_world.specs.Applied.{SameBoards}
use Rattle.dg_world.specs.Mounted.{StandFor, MountStops, NoVolumeAt}
use Rattle.dg_world.specs.declared.mount.MountStopped.{MountStopped}
use Rattle.dg_world.specs.declared.mount.MountStopped.TheVariants.{Flash, NotAVolume as NoVolume}
use Rattle.dg_world.specs.Counts.{AreSteady}
use Rattle.dg_world.specs.Formatted.{FirstBoards, FormatStops}
use Rattle.dg_world.specs.declared.format.FormatStopped.{FormatStopped}
use Rattle.dg_world.specs.Worlds.{IsWorld}
use Rattle.dg_world.specs.declared.world.World.{World as KeptWorld}
use Rattle.dg_world.specs.Boards.{WorldStands, BoardStopped}
use Rattle.dg_replay.specs.Boards.{BoardsStand, ItemStops, StoppedIn, EventNext, InSome, NoVolumeIn}
use Rattle.dg_replay.specs.Boards.{LacksImage}
use Rattle.dg_script.specs.Items.{Item, Declares, Applies, item_by, items_of, place_behind}
use Rattle.dg_replay.specs.Items.{StartState, UsesBoards, beginning_of, motes_in, lacking_by}
use Rattle.dg_replay.specs.Replayed.{IsGround, item_played, played_text, RunsTo}
use Rattle.dg_replay.specs.Shown.{Saw, Shows, StaysSeen, StaysUnshown, GoesOnSeen, going_on, ended_saw}
use Rattle.dg_replay.specs.Stages.{Baseline, based_on, DoneSoFar, Told, LineTold, line_told, BoardsTold}
use Rattle.dg_replay.specs.declared.player.Player.{Player}
use Rattle.dg_replay.specs.declared.stop.Stop.{Stop}
use Rattle.dg_replay.specs.declared.stop.Stop.TheVariants.{Memory, BadInput, WriteFault, FlashFault, TooMany, NoBoard, NoImage}
use Rattle.dg_replay.specs.declared.stop.Stop.TheVariants.{NotAVolume}

-- ---- items

-- Items were played from a world to a world, and this is reported of them. There were no more than a million events afterwards.
pub record ItemsRun (w : World) (items : List Item) (v : World) (text : List ℕ) : Type 0 where
  pub played : List Played
  pub are : map item_played played ≡ items
  pub run : Plays w played v
  pub reported : text ≡ played_text played
  pub few : v.events ≤ most_events

-- Items were played, and the boards, which were `initial` when the replay began, stand for the world after them. A watcher was
-- shown what was played.
pub record ItemsPlayed (w : World) (items : List Item) (kept : KeptWorld) (initial now : List Device)
    (told_before told : Told) : Type 0 where
  pub world : World
  pub text : List ℕ
  pub runs : ItemsRun w items world text
  pub kept_now : IsWorld kept now world
  pub boards : WorldStands world initial now
  pub report_now : told.text ≡ told_before.text ++ text
  pub shown : Shows told_before.saw told.saw w runs.played

-- The first of these items were played, and a watcher was shown them. P holds of the world after them, of the items that are
-- left, and of what is reported of those that were played.
pub record ItemsBegun (w : World) (items : List Item) (before : Saw) (after : Option World → (left : List Item) → Saw)
    (P : World → (left : List Item) → (text : List ℕ) → Type 0) : Type 0 where
  pub begun : List Item
  pub left : List Item
  pub parts : items ≡ begun ++ left
  pub world : World
  pub text : List ℕ
  pub runs : ItemsRun w begun world text
  pub shown : Shows before (after (Some world) left) w runs.played
  pub there : P world left text

-- an event was not played, since there were a million before it
pub record IsOneTooMany (w : World) (left : List Item) : Type 0 where
  pub full : w.events ≡ most_events
  pub next : EventNext left

-- a board stopped in the first of the items that are left
pub record StopsInItem (w : World) (left : List Item) (initial now : List Device) : Type 0 where
  pub stopped : BoardStopped (length w.sites) initial now
  pub there : ItemStops left (Some w) stopped.board stopped.after.image initial now

-- The result of playing items. `before` is what was reported and shown before it, and b has the boards and what is reported and
-- shown after it.
abbrev pub ItemsPlayedAs : Result (Unit {0}) Stop → World → List Item → KeptWorld → (initial : List Device)
    → (before : Told) → (b : BoardsTold) → Type 0
ItemsPlayedAs (Ok u) w items kept initial before b = ItemsPlayed w items kept initial b.boards before b.told
ItemsPlayedAs (Err Memory) w items kept initial before b =
    ItemsBegun w items before.saw (going_on b.told.saw) (λ v left text. WorldStands v initial b.boards)
ItemsPlayedAs (Err TooMany) w items kept initial before b =
    ItemsBegun w items before.saw (going_on b.told.saw) (λ v left text. IsOneTooMany v left × WorldStands v initial b.boards
    × (b.told.text ≡ before.text ++ text))
ItemsPlayedAs (Err FlashFault) w items kept initial before b =
    ItemsBegun w items before.saw (going_on b.told.saw) (λ v left text. StopsInItem v left initial b.boards
    × (b.told.text ≡ before.text ++ text))
ItemsPlayedAs (Err NoImage) w items kept initial before b =
    ItemsBegun w items before.saw (ended_saw b.told.saw) (λ v left text. LacksImage v left initial b.boards
    × (b.told.text ≡ before.text ++ text))
ItemsPlayedAs (Err NotAVolume) w items kept initial before b = ⊥
ItemsPlayedAs (Err (NoBoard motes boards)) w items kept initial before b = ⊥
ItemsPlayedAs (Err (BadInput n fault)) w items kept initial before b = ⊥
ItemsPlayedAs (Err WriteFault) w items kept initial before b = ⊥

-- the world that is kept stands for one with the same number of motes as before
abbrev pub KeepsMotes : Result (Unit {0}) Stop → (before after : KeptWorld) → (old new : List Device) → Type 0
KeepsMotes result before after old new =
    OnOk result ((w : World) → IsWorld before old w → (v : World) × IsWorld after new v × (length v.sites ≡ length w.sites))

-- ---- the player

-- there are this many motes, and this many boards
abbrev pub Counted : ℕ → ℕ → Type 0
Counted motes boards = (1 ≤ motes) × (motes ≤ most_motes) × (motes ≤ boards)

-- there are boards for the motes
abbrev pub Seated : Place → ℕ → Type 0
Seated place boards = 0 < place.motes → Counted place.motes boards

-- the world that is kept is this one, None before the boards are used
abbrev pub InWorld : Player → Option World → List Device → Type 0
InWorld p None boards = p.place.ready ≡ false
InWorld p (Some w) boards =
    IsWorld p.world boards w × (length w.sites ≡ p.place.motes) × (p.place.ready ≡ true) × (0 < p.place.motes)

-- every link joins two motes
abbrev pub Joined : Place → Type 0
Joined place = AllByRecursion (LinkFits place.motes) place.links

-- an item that declares an image
abbrev pub IsDeclaration : Item → Type 0
IsDeclaration (Declares row) = Unit {0}
IsDeclaration (Applies step reported) = ⊥

-- The player and the boards, which were `initial` when the replay began, stand for this world, after these lines.
pub record Stood (p : Player) (done : List Line) (w : Option World) (initial now : List Device) : Type 0 where
  pub seats : Seated p.place (length now)
  pub place : p.place ≡ place_behind first_place done
  pub links : Joined p.place
  pub cut_fits : IfSome p.place.cut FitsCut
  pub motes : p.place.motes ≡ motes_in done
  -- before the first event, only declarations were played
  pub early : p.place.events ≡ false → AllByRecursion IsDeclaration (items_of done)
  pub world : InWorld p w now
  pub boards : BoardsStand w initial now

-- the code's side alone: some world is kept, if one has to be
pub record Ready (p : Player) (boards : List Device) : Type 0 where
  pub seats : Seated p.place (length boards)
  pub links : Joined p.place
  pub cut_fits : IfSome p.place.cut FitsCut
  pub world : Option World
  pub kept : InWorld p world boards

-- A line may be played where the player stands.
pub record MayPlay (line : Line) (p : Player) (boards : List Device) : Type 0 where
  pub ready : Ready p boards
  pub stands : StandsAt p.place line
  pub fits : FitsLine p.place.motes line
  pub played : IsPlayed line

-- the player after its place moved past a line
abbrev pub gone_on : Player → Line → Player
gone_on p line = record p { place = place_after p.place line }

-- ---- a line

-- If these lines use the boards as they are, the boards stood for the stores of g, which are checked against this table.
abbrev pub Grounded : (table : List Row) → (initial : List Device) → StartState → List Line → Type 0
Grounded table initial g done = UsesBoards done → IsGround g table (motes_in done) × StandFor (motes_in done) g.stores initial

-- The run after a line: its items are those of the lines up to this one, and it reports this text after what was reported
-- before.
pub record RunsOn (table : List Row) (initial : List Device) (done : List Line) (line : Line) (v : Option World)
    (text : List ℕ) (played : List Played) : Type 0 where
  pub now : List Played
  pub items : map item_played now ≡ items_of (done ++ line ∷ [])
  pub ground : StartState
  pub grounded : Grounded table initial ground (done ++ line ∷ [])
  pub run : RunsTo (beginning_of ground (done ++ line ∷ [])).world now v
  pub reported : played_text now ≡ played_text played ++ text
  -- if anything is reported, what was played now begins with what was played before
  pub on : (text ≡ []) ⊎ ((more : List Played) × (now ≡ played ++ more))

-- A line leads to such a run, and a watcher that saw what was played before has seen what was played now.
pub record GoesOn (basis : Baseline) (done : List Line) (line : Line) (v : Option World) (told : LineTold) (g : StartState)
    (played : List Played) : Type 0 where
  pub on : RunsOn basis.table basis.boards done line v told.text played
  pub shown : GoesOnSeen told.before told.after (beginning_of g done).world played
      (beginning_of on.ground (done ++ line ∷ [])).world on.now

-- What a line after others makes of a run that leads to a world. After a `link` or `narrow` line it is the run of the same items
-- from a world with this link or narrow mote.
abbrev pub LineRuns : (table : List Row) → (initial : List Device) → (done : List Line) → (line : Line)
    → (w v : Option World) → (told : LineTold) → Type 0
LineRuns table initial done line w v told = (g : StartState) (played : List Played) → Grounded table initial g done
    → map item_played played ≡ items_of done → RunsTo (beginning_of g done).world played w
    → GoesOn (based_on table initial) done line v told g played

-- A line was played after others, and this is reported and shown of it.
pub record PlayedLine (basis : Baseline) (q : Player) (behind : DoneSoFar) (line : Line) (before : Told)
    (b : BoardsTold) : Type 0 where
  pub world : Option World
  pub text : List ℕ
  pub report_now : b.told.text ≡ before.text ++ text
  pub runs : LineRuns basis.table basis.boards behind.lines line behind.world world (line_told text before.saw b.told.saw)
  pub stood : Stood q (behind.lines ++ line ∷ []) world basis.boards b.boards
  pub boards_enough : lacking_by (length basis.boards) line None ≡ None

-- items run from a world, which a watcher was shown; before there is a world, there are no items
abbrev pub RunsFrom : Option World → List Item → Option World → LineTold → Type 0
RunsFrom None items v told = (items ≡ []) × (v ≡ None) × (told.text ≡ []) × StaysUnshown told.before told.after
RunsFrom (Some w) items v told =
    (u : World) × (v ≡ Some u) × (x : ItemsRun w items u told.text) × Shows told.before told.after w x.played

-- A line after others was begun: the first of its items were played, and a watcher was shown them. P holds of the world after
-- them, of the items that are left, and of what is reported of those that were played.
pub record LineBegun (done : List Line) (line : Line) (w : Option World) (before : Saw)
    (after : Option World → (left : List Item) → Saw)
    (P : Option World → (left : List Item) → (text : List ℕ) → Type 0) : Type 0 where
  pub begun : List Item
  pub left : List Item
  pub parts : item_by (place_behind first_place done) line ≡ begun ++ left
  pub world : Option World
  pub text : List ℕ
  pub runs : RunsFrom w begun world (line_told text before (after world left))
  pub there : P world left text

-- the line that says how many motes there are was not played, since boards are missing
pub record LacksBoards (line : Line) (motes boards : ℕ) (initial old new : List Device) : Type 0 where
  pub is_motes : line ≡ Motes motes
  pub have : boards ≡ length initial
  pub missing : boards < motes
  pub same : new ≡ old

-- The result of playing a line, from a player and boards that stand for the world after other lines. The boards and what is
-- reported and shown are a before it, and b after it.
abbrev pub PlayedAs : Baseline → Result (Unit {0}) Stop → Player → (behind : DoneSoFar) → Line → (a b : BoardsTold) → Type 0
PlayedAs basis (Ok u) q behind line a b = PlayedLine basis q behind line a.told b
PlayedAs basis (Err Memory) q behind line a b =
    LineBegun behind.lines line behind.world a.told.saw (going_on b.told.saw)
    (λ v left text. BoardsStand v basis.boards b.boards)
PlayedAs basis (Err (NoBoard motes boards)) q behind line a b =
    LacksBoards line motes boards basis.boards a.boards b.boards × StaysSeen a.told.saw b.told.saw
PlayedAs basis (Err FlashFault) q behind line a b = UsesBoard line
    × LineBegun behind.lines line behind.world a.told.saw (going_on b.told.saw) (λ v left text.
    StoppedIn (motes_in behind.lines) (line ∷ []) left v basis.boards b.boards × (b.told.text ≡ a.told.text ++ text))
PlayedAs basis (Err TooMany) q behind line a b =
    LineBegun behind.lines line behind.world a.told.saw (going_on b.told.saw) (λ v left text. InSome v (λ u. IsOneTooMany u left)
    × BoardsStand v basis.boards b.boards × (b.told.text ≡ a.told.text ++ text))
PlayedAs basis (Err NoImage) q behind line a b =
    LineBegun behind.lines line behind.world a.told.saw (ended_saw b.told.saw) (λ v left text.
    InSome v (λ u. LacksImage u left basis.boards b.boards) × (b.told.text ≡ a.told.text ++ text))
PlayedAs basis (Err NotAVolume) q behind line a b =
    (line ≡ Boards) × NoVolumeIn (motes_in behind.lines) basis.boards b.boards × StaysSeen a.told.saw b.told.saw
PlayedAs basis (Err (BadInput n fault)) q behind line a b = ⊥
PlayedAs basis (Err WriteFault) q behind line a b = ⊥

-- ---- the parts of a line

-- the result of formatting the boards of this many motes
pub record FormattedAs (result : Result (Unit {0}) FormatStopped) (motes : ℕ) (chip : Store) (old new : List Device) : Type
    0 where
  pub formatted : OnOk result ((m : ℕ) (d : Device) → m < motes → slice_get new m ≡ Some d → Stands d.image chip)
  pub calm : OnOk result (AreSteady old new)
  pub awake : OnOk result ((m : ℕ) (d : Device) → m < motes → slice_get old m ≡ Some d → d.stopped ≡ false)
  pub others : FirstBoards motes old new
  pub stopped : (e : FormatStopped) → result ≡ Err e → FormatStops e.board motes chip old new

-- why a replay stops whose boards cannot be used as they are
abbrev pub mount_stop : MountStopped → Stop
mount_stop (Flash board) = FlashFault
mount_stop (NoVolume board) = NotAVolume

-- the result of mounting the boards of this many motes
pub record MountedAs (result : Result (Unit {0}) MountStopped) (motes : ℕ) (old new : List Device) : Type 0 where
  pub stands : OnOk result ((stores : List Store) × StandFor motes stores new
      × ((m : ℕ) → m < motes → IsShaped (store_of stores m)))
  pub calm : OnOk result (AreSteady old new)
  pub awake : OnOk result ((m : ℕ) (d : Device) → m < motes → slice_get old m ≡ Some d → d.stopped ≡ false)
  pub read : SameBoards old new
  pub others : (m : ℕ) → motes ≤ m → slice_get new m ≡ slice_get old m
  pub stopped : (board : ℕ) → result ≡ Err (Flash board) → MountStops board motes old new
  pub no_volume : (board : ℕ) → result ≡ Err (NoVolume board) → NoVolumeAt board motes old new × AreSteady old new
