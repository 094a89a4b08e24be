-- A service of one mote of the network in an input (docs/COMMANDS.md, "One mote a process").
use Rattle.std.specs.Prelude.{ℕ, nat_lt, if◌then◌else◌, Result, Ok, Err}
use Rattle.dg_base.specs.declared.answers.Status.{Status}
use Rattle.dg_netcfg.specs.declared.profile.NetProfile.{NetProfile}
use Rattle.dg_netcfg.specs.declared.profile.ProfileFault.TheVariants as fault
use Rattle.dg_outside.specs.Outside.{Outside}
use Rattle.dg_end.specs.declared.ends.End.{End}
use Rattle.dg_end.specs.declared.ends.End.TheVariants as ends
use Rattle.dg_serve.specs.Networks.{NetworkRead, EndsAtOnce}
use Rattle.dg_single.specs.Singles.{MoteServed}

-- a profile without the mote is refused
abbrev pub with_mote : ℕ → Result NetProfile End → Result NetProfile End
with_mote mote (Ok profile) = if nat_lt mote profile.motes then Ok profile else Err (ends.BadProfile fault.Id)
with_mote mote (Err end) = Err end

abbrev pub MoteDoneBy : Result NetProfile End → (answer : Status) → (mote seed turns : ℕ) → (a b : Outside) → Type 0
MoteDoneBy (Ok profile) answer mote seed turns a b = MoteServed answer profile mote seed turns a b
MoteDoneBy (Err end) answer mote seed turns a b = EndsAtOnce end answer a b

-- of a profile that was read, or of the end without one
abbrev pub MoteDone : Result NetProfile End → (answer : Status) → (mote seed turns : ℕ) → (a b : Outside) → Type 0
MoteDone outcome answer mote seed turns a b = MoteDoneBy (with_mote mote outcome) answer mote seed turns a b

pub record MoteOfNetworkServed (answer : Status) (mote seed turns : ℕ) (a b : Outside) : Type 0 where
  pub outcome : Result NetProfile End
  pub read : NetworkRead outcome a.input b.input
  pub done : MoteDone outcome answer mote seed turns a b
