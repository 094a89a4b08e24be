-- A service of one mote of the network that an input spells.
use Rattle.std.proofs.Common.{◌≡◌, ℕ, ◌<◌, ◌≤◌, Bool, true, false, List, set, ap, sym, subst, arith}
use Rattle.std.specs.Prelude.{nat_lt, cond, slice_get, Some, Result, Ok, Err}
use Rattle.std.proofs.lemmas.Bool.Decides.{nat_tests}
use Rattle.dg_base.specs.declared.answers.Status.{Status}
use Rattle.dg_netcfg.specs.declared.profile.NetProfile.{NetProfile}
use Rattle.dg_netcfg.specs.declared.profile.ProfileFault.TheVariants as fault
use Rattle.dg_nor.specs.Device.{Device}
use Rattle.dg_outside.specs.Outside.{Outside, InputState, OutputState}
use Rattle.dg_end.specs.Lines.{status_of, last_line}
use Rattle.dg_end.specs.Writes.{WritesLast}
use Rattle.dg_end.specs.declared.ends.End.{End}
use Rattle.dg_end.specs.declared.ends.End.TheVariants as ends
use Rattle.dg_serve.specs.Networks.{EndsAtOnce}
use Rattle.dg_single.specs.Networks.{with_mote, MoteDoneBy}
use Rattle.dg_single.specs.Singles.{MoteServed}
use Rattle.dg_single.specs.Overs.{Owns}
use Rattle.dg_single.proofs.PlaceLemmas.{put_same}

lt_true : (k n : ℕ) → k < n → nat_lt k n ≡ true
lt_true k n h = grind (arith, nat_tests)

lt_false : (k n : ℕ) → n ≤ k → nat_lt k n ≡ false
lt_false k n h = grind (arith, nat_tests)

here_by : (mote : ℕ) (profile : NetProfile) → mote < profile.motes → with_mote mote (Ok profile) ≡ Ok profile
here_by mote profile h = ap (λ (b : Bool). cond b (Ok profile) (Err (ends.BadProfile fault.Id))) (lt_true mote profile.motes h)

not_here_by : (mote : ℕ) (profile : NetProfile) → profile.motes ≤ mote → with_mote mote (Ok profile) ≡ Err (ends.BadProfile fault.Id)
not_here_by mote profile h = ap (λ (b : Bool). cond b (Ok profile) (Err (ends.BadProfile fault.Id))) (lt_false mote profile.motes h)

pub served_here : (mote : ℕ) (profile : NetProfile) (answer : Status) (seed turns : ℕ) (a b : Outside) → mote < profile.motes → MoteServed answer profile mote seed turns a b → MoteDoneBy (with_mote mote (Ok profile)) answer mote seed turns a b
served_here mote profile answer seed turns a b h s = subst (λ (o : Result NetProfile End). MoteDoneBy o answer mote seed turns a b) (sym (here_by mote profile h)) s

-- nothing was done but to write the last line
pub ended_over : (end : End) (answer : Status) (mote : ℕ) (a : Outside) (d : Device) (input : InputState) (told : OutputState) → slice_get a.boards mote ≡ Some d → WritesLast answer (status_of end) (last_line end) a.output told → EndsAtOnce end answer a (record a { input = input; output = told; boards = set a.boards mote d })
ended_over end answer mote a d input told was written = record { told = written; same = ap (λ (bs : List Device). record a { input = input; output = told; boards = bs }) (put_same a.boards mote d was) }

pub refused_here : (mote : ℕ) (profile : NetProfile) (answer : Status) (seed turns : ℕ) (a b : Outside) → profile.motes ≤ mote → EndsAtOnce (ends.BadProfile fault.Id) answer a b → MoteDoneBy (with_mote mote (Ok profile)) answer mote seed turns a b
refused_here mote profile answer seed turns a b h ended = subst (λ (o : Result NetProfile End). MoteDoneBy o answer mote seed turns a b) (sym (not_here_by mote profile h)) ended

-- a mote of the largest network is one of a smaller one
pub owns_fewer : (most motes mote : ℕ) (d : Device) (boards : List Device) → motes ≤ most → Owns most mote d boards → Owns motes mote d boards
owns_fewer most motes mote d boards few o = record { is = o.is; enough = omega (arith, few, o.enough) }
