-- The mode of a mote by the rules, where the code's mode is known.
use Rattle.std.proofs.Common.{◌≡◌, ℕ, List, subst}
use Rattle.dg_trickle.specs.Timer.{Timer}
use Rattle.dg_recv.specs.Reception.{Reception}
use Rattle.dg_send.specs.Owed.{Owed}
use Rattle.dg_slot.specs.declared.states.PageJob.{PageJob}
use Rattle.dg_volume.specs.Store.{Store}
use Rattle.dg_mote.specs.Model.{MoteState}
use Rattle.dg_mote.specs.Motes.{ModeStands, IsMote}
use Rattle.dg_mote.specs.declared.mote.Mote.{Mote}
use Rattle.dg_mote.specs.declared.mote.Mode.{Mode as ModeValue}
use Rattle.dg_mote.specs.declared.mote.Mode.TheVariants as value
use Rattle.dg_mote.proofs.ModeLemmas.{AtMaintain, at_maintain, AtReceive, at_receive, AtTransmit, at_transmit}

pub maintains_here : (c : List ℕ) (v : Mote) (m : MoteState) (s : Store) (trickle : Timer) → IsMote c v m s → v.mode ≡ value.Maintain trickle → AtMaintain v.volume trickle m.mode
maintains_here c v m s trickle is e = at_maintain c v.volume s trickle m.mode (subst (λ (x : ModeValue). ModeStands c v.volume s x m.mode) e is.mode)

pub receives_here : (c : List ℕ) (v : Mote) (m : MoteState) (s : Store) (version server : ℕ) (asking : Reception) (job : PageJob) → IsMote c v m s → v.mode ≡ value.Receive version server asking job → AtReceive c v.volume s version server asking job m.mode
receives_here c v m s version server asking job is e = at_receive c v.volume s version server asking job m.mode (subst (λ (x : ModeValue). ModeStands c v.volume s x m.mode) e is.mode)

pub transmits_here : (c : List ℕ) (v : Mote) (m : MoteState) (s : Store) (image version page : ℕ) (serving : Owed) → IsMote c v m s → v.mode ≡ value.Transmit image version page serving → AtTransmit v.volume s image version page serving m.mode
transmits_here c v m s image version page serving is e = at_transmit c v.volume s image version page serving m.mode (subst (λ (x : ModeValue). ModeStands c v.volume s x m.mode) e is.mode)
