-- What the program does, by what its words ask for (docs/COMMANDS.md, "How a command ends").
use Rattle.std.specs.Prelude.{◌≡◌, ◌≢◌, ◌⊎◌, ℕ, List, [], codes, Ok}
use Rattle.dg_base.specs.declared.answers.Status.{Status}
use Rattle.dg_base.specs.declared.answers.Status.TheVariants.{Done, Usage, Memory}
use Rattle.dg_object.specs.Object.{Row}
use Rattle.dg_volume.specs.Store.{Store, held}
use Rattle.dg_outside.specs.Outside.{Outside}
use Rattle.dg_tool.specs.Endings.{Acting}
use Rattle.dg_tool.specs.Verbs.{ping_text, dump_by}
use Rattle.dg_tool.specs.Done.{FirstDone, InputDone}
use Rattle.dg_tool.specs.Rules.{reading_rule, format_rule, InjectDone, OrderDone, BootDone, MigrateDone}
use Rattle.dg_chain_tool.specs.Done.{WrapDone, ReceiveDone}
use Rattle.dg_replay.specs.Done.{ReplayDone}
use Rattle.dg_rules.specs.Begins.{AreShaped}
use Rattle.dg_netcfg.specs.Readings.{IsAllowed}
use Rattle.dg_netcfg.specs.declared.profile.NetProfile.{NetProfile}
use Rattle.dg_serve.specs.Endings.{StoresOf}
use Rattle.dg_serve.specs.Served.{Began}
use Rattle.dg_serve.specs.Traces.{trace, trace_lines}
use Rattle.dg_serve.specs.Promised.{KeepsRules, ReplaysTo}
use Rattle.dg_serve.specs.Networks.{NetworkServed}
use Rattle.dg_trial.specs.Trials.{TrialDone}
use Rattle.dg_drip_run.specs.Dripped.{Dripped, played}
use Rattle.dg_drip_run.specs.Causes.{DripEnds}
use Rattle.dg_drip_run.specs.Promised.{GreatestIsKept, NothingFalls, SetsMakeAll, RoundsRaise, SweepsBringTheGreatest}
use Rattle.dg_command.specs.Asking.{Said, Replay, Serve, Format, Inject, Order as OrderSaid, Boot, Ping, Dump, Migrate, Trial}
use Rattle.dg_command.specs.Asking.{Wrap, Check, Receive, Drip, Base, Asking, Asks, Helps, TellsVersion, Misuses}
use Rattle.dg_end.specs.Texts.{line}
use Rattle.dg_cli.specs.Words.{TextDone}
use Rattle.dg_cli.specs.Basing.{BasedOver}
use Rattle.dg_cli.specs.Chained.{root_in, Checked}

-- ---- serving

-- The network that the input spells was served over the link, by the clock, with the draws of the seed.
pub record ServeDone (turns seed : ℕ) (status : Status) (a b : Outside) : Type 0 where
  pub served : NetworkServed status seed turns a b
  -- For whichever table its boards are checked against: what agrees stays so if the frames that came are honest, as they are over
  -- a link that exposes its inboxes. What is consistent stays so with any frames.
  pub keeps : (profile : NetProfile) → IsAllowed profile → (x : Began status profile seed turns a b) (table : List Row)
      (stores : List Store) → (fits : StoresOf profile.motes a.boards stores) → AreShaped stores
      → KeepsRules a.link.inboxes table stores profile.links profile.motes x.ran.events (x.ran.came table stores fits).last
  -- the trace of its events is a script of them, and its replay over boards that stand for the same stores leads to the same
  -- world
  pub replayed : (profile : NetProfile) → IsAllowed profile → (x : Began status profile seed turns a b) (table : List Row)
      (stores : List Store) → (fits : StoresOf profile.motes a.boards stores)
      → ReplaysTo (trace profile x.ran.events) (trace_lines profile x.ran.events) profile.motes table stores
      (x.ran.came table stores fits).last.world

-- ---- the trial

-- ---- nodes

-- no board is used, and the laws of how values spread hold of the run that was played
pub record DripDone (status : Status) (a b : Outside) : Type 0 where
  pub replayed : Dripped status a b
  -- each status comes where the rules say, by the bytes of the input
  pub ends : DripEnds status a b
  pub boards : b.boards ≡ a.boards
  pub greatest : GreatestIsKept (played replayed.came.script)
  pub rises : NothingFalls (played replayed.came.script)
  pub made : SetsMakeAll (played replayed.came.script)
  pub rounds : RoundsRaise (played replayed.came.script)
  pub sweeps : SweepsBringTheGreatest (played replayed.came.script)

-- ---- all commands

abbrev pub CommandOutcome : Said → Status → Outside → Outside → Type 0
CommandOutcome (Replay flashes) status a b = ReplayDone status a b
CommandOutcome (Serve turns seed flashes) status a b = ServeDone turns seed status a b
CommandOutcome (Format name used form flash) status a b = InputDone status (format_rule name used form) a b
CommandOutcome (Inject image version name flash) status a b = InjectDone image version name status a b
CommandOutcome (OrderSaid number image version flash) status a b =
    OrderDone (record { number = number; image = image; version = version }) status a b
CommandOutcome (Boot flash) status a b = BootDone status a b
CommandOutcome (Ping flash) status a b = FirstDone status (reading_rule a.boards (λ s. Acting (Ok (ping_text s)))) a b
CommandOutcome (Dump image flash) status a b = FirstDone status (reading_rule a.boards (λ s. dump_by (held s image))) a b
CommandOutcome (Migrate flash) status a b = MigrateDone status a b
CommandOutcome (Trial motes pages seed) status a b = TrialDone motes pages seed status a b
CommandOutcome Wrap status a b = WrapDone status a b
CommandOutcome (Check image root flash) status a b = Checked image (root_in root) status a b
CommandOutcome (Receive image version name root flash) status a b = ReceiveDone image version name (root_in root) status a b
CommandOutcome Drip status a b = DripDone status a b
CommandOutcome (Base id step seed flash) status a b =
    BasedOver (record { id = id; step = step; seed = seed }) status a b a.boards b.boards

-- by what the words ask for: some text of help, the version, or one line if the words are invalid
abbrev pub CommandLineOutcome : Asking → Status → Outside → Outside → Type 0
CommandLineOutcome (Asks said) status a b = CommandOutcome said status a b
CommandLineOutcome Helps status a b = (text : List ℕ) × (text ≢ []) × TextDone text Done status a b
CommandLineOutcome TellsVersion status a b = TextDone (line (codes "deluge 0.9")) Done status a b
CommandLineOutcome Misuses status a b = TextDone (line (codes "usage")) Usage status a b

-- the words themselves may take more memory than there is, and then nothing is done
abbrev pub CommandDone : Asking → Status → Outside → Outside → Type 0
CommandDone asking status a b = CommandLineOutcome asking status a b ⊎ ((status ≡ Memory) × (b ≡ a))

-- the words ask for what reads the input
abbrev pub ReadsInput : Asking → Type 0
ReadsInput (Asks (Replay flashes)) = Unit {0}
ReadsInput (Asks (Serve turns seed flashes)) = Unit {0}
ReadsInput (Asks (Format name used form flash)) = Unit {0}
ReadsInput (Asks (Inject image version name flash)) = Unit {0}
ReadsInput (Asks Wrap) = Unit {0}
ReadsInput (Asks Drip) = Unit {0}
ReadsInput (Asks (Receive image version name root flash)) = Unit {0}
ReadsInput (Asks (Base id step seed flash)) = Unit {0}
ReadsInput _ = ⊥

-- the words ask for what uses the link and the clock
abbrev pub UsesLink : Asking → Type 0
UsesLink (Asks (Serve turns seed flashes)) = Unit {0}
UsesLink _ = ⊥
