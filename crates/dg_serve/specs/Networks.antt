-- A service of the network that an input spells (docs/COMMANDS.md, "Serve").
use Rattle.std.specs.Prelude.{◌≡◌, ◌⊎◌, ℕ, ◌+◌, ◌<◌, ◌≤◌, nat_lt, if◌then◌else◌, List, length, Result, Ok, Err}
use Rattle.dg_words.specs.Counts.{Rose}
use Rattle.dg_base.specs.Outside.{Takes, AtEnd}
use Rattle.dg_base.specs.declared.answers.Status.{Status}
use Rattle.dg_netcfg.specs.Profile.{netprofile}
use Rattle.dg_netcfg.specs.declared.profile.NetProfile.{NetProfile}
use Rattle.dg_netcfg.specs.declared.profile.ProfileFault.{ProfileFault}
use Rattle.dg_script.specs.Sizes.{most_used_bytes}
use Rattle.dg_outside.specs.Outside.{Outside, InputState}
use Rattle.dg_end.specs.Conversions.{end_of_profile}
use Rattle.dg_end.specs.Lines.{status_of, last_line}
use Rattle.dg_end.specs.Writes.{WritesLast}
use Rattle.dg_end.specs.declared.ends.End.{End}
use Rattle.dg_end.specs.declared.ends.End.TheVariants as ends
use Rattle.dg_serve.specs.Served.{Began, DidNotBegin}

-- ---- the profile by the rules, from the input and the number of boards alone

abbrev pub profile_or_end : Result NetProfile ProfileFault → Result NetProfile End
profile_or_end (Ok profile) = Ok profile
profile_or_end (Err fault) = Err (end_of_profile fault)

-- an input that is longer than what is used is refused whatever it spells
abbrev pub profile_in : (input : List ℕ) → Result NetProfile End
profile_in input = if nat_lt most_used_bytes (length input) then Err ends.TooLong else profile_or_end (netprofile input)

-- the boards are counted last: a profile may have more motes than there are
abbrev pub with_boards_for : (boards : ℕ) → Result NetProfile End → Result NetProfile End
with_boards_for boards (Ok profile) =
    if nat_lt boards profile.motes then Err (ends.NoBoard profile.motes boards) else Ok profile
with_boards_for boards (Err end) = Err end

-- ---- how it is read

-- Memory ran out, or a read failed; or the input was read to its end, or one byte past those that are used.
abbrev pub ReadsProfile : Result NetProfile End → (input : List ℕ) → (a b : InputState) → Type 0
ReadsProfile outcome input a b =
    ((outcome ≡ Err ends.Memory) × (b.reads ≡ a.reads)) ⊎ ((outcome ≡ Err ends.ReadFault) × Rose a.reads b.reads)
    ⊎ ((outcome ≡ profile_in input) × (AtEnd b.left ⊎ (most_used_bytes < length input)) × (b.reads ≡ a.reads))

pub record NetworkRead (outcome : Result NetProfile End) (a b : InputState) : Type 0 where
  pub input : List ℕ
  pub taken : Takes a.left b.left input
  pub few_bytes : length input ≤ most_used_bytes + 1
  pub reads : ReadsProfile outcome input a b

-- ---- what was done

-- Nothing was done but to write the last line.
pub record EndsAtOnce (end : End) (answer : Status) (a b : Outside) : Type 0 where
  pub told : WritesLast answer (status_of end) (last_line end) a.output b.output
  pub same : b ≡ record a { input = b.input; output = b.output }

abbrev pub DoneBy : Result NetProfile End → (answer : Status) → (seed turns : ℕ) → (a b : Outside) → Type 0
DoneBy (Ok profile) answer seed turns a b = DidNotBegin answer profile a b ⊎ Began answer profile seed turns a b
DoneBy (Err end) answer seed turns a b = EndsAtOnce end answer a b

-- of a profile that was read, or of the end without one
abbrev pub NetworkDone : Result NetProfile End → (answer : Status) → (seed turns : ℕ) → (a b : Outside) → Type 0
NetworkDone outcome answer seed turns a b = DoneBy (with_boards_for (length a.boards) outcome) answer seed turns a b

pub record NetworkServed (answer : Status) (seed turns : ℕ) (a b : Outside) : Type 0 where
  pub outcome : Result NetProfile End
  pub read : NetworkRead outcome a.input b.input
  pub done : DoneBy (with_boards_for (length a.boards) outcome) answer seed turns a b
