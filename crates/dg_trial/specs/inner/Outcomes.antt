-- The outcomes of the parts of a trial: definitions for the inner functions.
use Rattle.std.specs.Prelude.{◌≡◌, ◌⊎◌, ℕ, ◌≤◌, List, length, Result, Ok, Err}
use Rattle.dg_nor.specs.Device.{Device}
use Rattle.dg_rules.specs.World.{World}
use Rattle.dg_world.specs.Boards.{WorldStands}
use Rattle.dg_world.specs.Worlds.{IsWorld}
use Rattle.dg_world.specs.declared.world.World.{World as KeptWorld}
use Rattle.dg_end.specs.Lines.{Outcome}
use Rattle.dg_end.specs.declared.ends.End.{End}
use Rattle.dg_end.specs.declared.ends.End.TheVariants as ends
use Rattle.rand_pcg.specs.Pcg.{pcg32}
use Rattle.dg_seed.specs.Draws.{first_generator, generator_of}
use Rattle.dg_trial.specs.Schedule.{line_links, row_of_seed, sweep_count}
use Rattle.dg_trial.specs.Playing.{StopsInPart}
use Rattle.dg_trial.specs.Trials.{TrialRun, TrialPlayed, Formatted, StopsFormatting, Front, Unplayed, TrialBoardStops}
use Rattle.dg_trial.specs.Trials.{trial_start}
use Rattle.dg_trial.specs.Trials.{TrialLacksBoards, trial_text, wholes}
use Rattle.dg_trial.specs.declared.beginning.Begun.{Begun}
use Rattle.dg_trial.specs.declared.summary.Summary.{Summary}

abbrev pub FormatEnds : Result (Unit {0}) End → (motes : ℕ) → (old new : List Device) → Type 0
FormatEnds (Ok u) motes old new = Formatted motes old new
FormatEnds (Err ends.FlashFault) motes old new = StopsFormatting motes old new
FormatEnds (Err end) motes old new = ⊥

-- The boards were formatted, and stand for the world in which the trial begins. One word was drawn.
pub record TrialBegun (motes pages seed : ℕ) (b : Begun) (old new : List Device) : Type 0 where
  pub word : (b.word, generator_of b.draws) ≡ pcg32 (first_generator seed)
  pub links : b.links.items ≡ line_links motes
  pub formatted : Formatted motes old new
  pub is : IsWorld b.world new (trial_start motes pages seed)

abbrev pub BeginEnds : Result Begun End → (motes pages seed : ℕ) → (old new : List Device) → Type 0
BeginEnds (Ok b) motes pages seed old new = TrialBegun motes pages seed b old new
BeginEnds (Err ends.Memory) motes pages seed old new = Unplayed motes pages seed old new
BeginEnds (Err ends.FlashFault) motes pages seed old new = StopsFormatting motes old new
BeginEnds (Err end) motes pages seed old new = ⊥

-- the whole schedule was played, and the boards, which were `old` before it, stand for the world at its end
pub record SchedulePlayed (motes pages seed : ℕ) (kept : KeptWorld) (old new : List Device) : Type 0 where
  pub world : World
  pub run : TrialRun motes pages seed world
  pub kept_now : IsWorld kept new world
  pub boards : WorldStands world old new
  pub count : length world.sites ≡ motes

abbrev pub ScheduleEnds : Result KeptWorld End → (motes pages seed : ℕ) → (old new : List Device) → Type 0
ScheduleEnds (Ok kept) motes pages seed old new = SchedulePlayed motes pages seed kept old new
ScheduleEnds (Err ends.Memory) motes pages seed old new = Unplayed motes pages seed old new
ScheduleEnds (Err ends.FlashFault) motes pages seed old new =
    StopsFormatting motes old new ⊎ Front motes pages seed (λ w left. StopsInPart w left old new)
ScheduleEnds (Err end) motes pages seed old new = ⊥

-- what the numbers of a trial that was played report
pub record TellsTrial (motes pages seed : ℕ) (last : World) (s : Summary) : Type 0 where
  pub motes_reported : s.motes ≡ motes
  pub pages_reported : s.pages ≡ pages
  pub sweeps_reported : s.sweeps ≡ sweep_count motes pages
  pub events_reported : s.events ≡ last.events
  pub whole_reported : s.whole ≡ wholes (row_of_seed pages seed) last

abbrev pub TrialOutcome : Result Summary End → (motes pages seed : ℕ) → (old new : List Device) → Type 0
TrialOutcome (Ok s) motes pages seed old new = (t : TrialPlayed motes pages seed old new) × TellsTrial motes pages seed t.last s
TrialOutcome (Err ends.Memory) motes pages seed old new = Unplayed motes pages seed old new
TrialOutcome (Err ends.FlashFault) motes pages seed old new = TrialBoardStops motes pages seed old new
TrialOutcome (Err end) motes pages seed old new = ⊥

-- the line of a trial that was played, or how it ends without one
abbrev pub TrialComesTo : Outcome → (motes pages seed : ℕ) → (old new : List Device) → Type 0
TrialComesTo (Ok text) motes pages seed old new =
    (motes ≤ length old) × ((t : TrialPlayed motes pages seed old new) × (text ≡ trial_text motes pages seed t.last))
TrialComesTo (Err ends.Memory) motes pages seed old new = Unplayed motes pages seed old new
TrialComesTo (Err ends.FlashFault) motes pages seed old new = (motes ≤ length old) × TrialBoardStops motes pages seed old new
TrialComesTo (Err (ends.NoBoard need have)) motes pages seed old new =
    TrialLacksBoards motes old new × (need ≡ motes) × (have ≡ length old)
TrialComesTo (Err end) motes pages seed old new = ⊥
