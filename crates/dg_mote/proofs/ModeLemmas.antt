-- A mode of the code stands for one of the rules, of its own kind.
use Rattle.std.proofs.Common.{◌≡◌, ◌≢◌, ℕ, false, List, Some, refl, sym, ap, subst, ◌∙◌, ⊎_elim}
use Rattle.std.proofs.lemmas.Bool.{cases_eq}
use Rattle.dg_trickle.specs.Timer.{Timer}
use Rattle.dg_recv.specs.Reception.{Reception}
use Rattle.dg_send.specs.Owed.{Owed}
use Rattle.dg_slot.specs.Kept.{Held}
use Rattle.dg_slot.specs.Jobs.{Opens, outline_of_slot, slot_of}
use Rattle.dg_slot.specs.declared.states.OpenSlot.{OpenSlot}
use Rattle.dg_slot.specs.declared.states.PageJob.{PageJob}
use Rattle.dg_volume.specs.Store.{Store, held}
use Rattle.dg_volume.specs.Stands.{Mounted, MountedBut, NothingLent, is_lent}
use Rattle.dg_volume.specs.declared.volume.Volume.{Volume}
use Rattle.dg_mote.specs.Model.{Mode, Maintain, Receive, Transmit, Receiving, Sending, reception}
use Rattle.dg_mote.specs.Motes.{ModeStands, Receives, Transmits}
use Rattle.dg_mote.specs.declared.mote.Mode.{Mode as ModeValue}
use Rattle.dg_mote.specs.declared.mote.Mode.TheVariants as value

pub record AtMaintain (v : Volume) (trickle : Timer) (mode : Mode) : Type 0 where
  pub is : mode ≡ Maintain trickle
  pub free : NothingLent v

pub at_maintain : (c : List ℕ) (v : Volume) (s : Store) (trickle : Timer) (mode : Mode) → ModeStands c v s (value.Maintain trickle) mode → AtMaintain v trickle mode
at_maintain c v s trickle (Maintain timer) h = record { is = ap Maintain (sym h.0); free = h.1 }
at_maintain c v s trickle (Receive r) h = absurd h
at_maintain c v s trickle (Transmit t) h = absurd h

pub record AtReceive (c : List ℕ) (v : Volume) (s : Store) (version server : ℕ) (asking : Reception) (job : PageJob) (mode : Mode) : Type 0 where
  pub r : Receiving
  pub is : mode ≡ Receive r
  pub asks : asking ≡ reception r
  pub from_server : server ≡ r.server
  pub of_version : version ≡ r.version
  pub receives : Receives c v s job r

pub at_receive : (c : List ℕ) (v : Volume) (s : Store) (version server : ℕ) (asking : Reception) (job : PageJob) (mode : Mode)
    → ModeStands c v s (value.Receive version server asking job) mode → AtReceive c v s version server asking job mode
at_receive c v s version server asking job (Receive r) h = record { r = r; is = refl; asks = h.0; from_server = h.1; of_version = h.2; receives = h.3 }
at_receive c v s version server asking job (Maintain timer) h = absurd h
at_receive c v s version server asking job (Transmit t) h = absurd h

pub record AtTransmit (v : Volume) (s : Store) (image version page : ℕ) (owed : Owed) (mode : Mode) : Type 0 where
  pub t : Sending
  pub is : mode ≡ Transmit t
  pub of_image : image ≡ t.image
  pub of_version : version ≡ t.version
  pub of_page : page ≡ t.page
  pub owes : owed ≡ t.owed
  pub transmits : Transmits v s t

pub at_transmit : (c : List ℕ) (v : Volume) (s : Store) (image version page : ℕ) (owed : Owed) (mode : Mode)
    → ModeStands c v s (value.Transmit image version page owed) mode → AtTransmit v s image version page owed mode
at_transmit c v s image version page owed (Transmit t) h = record { t = t; is = refl; of_image = h.0; of_version = h.1; of_page = h.2; owes = h.3; transmits = h.4 }
at_transmit c v s image version page owed (Maintain timer) h = absurd h
at_transmit c v s image version page owed (Receive r) h = absurd h

-- ---- the slot of a page that is given up is returned

-- a volume that exposes a store exposes it whatever slots are left out
pub mounted_but : {P : ℕ → Type 0} (c : List ℕ) (v : Volume) (s : Store) → Mounted c v s → MountedBut P c v s
mounted_but c v s m = record {
  control = m.control;
  stands = m.stands;
  tells = record { says = m.tells.says; room = m.tells.room; kept = λ i known other. m.tells.kept i known (λ h. h) };
}

-- what the return of a slot does to the volume
pub record GoesBack (v w : Volume) (slot : OpenSlot) : Type 0 where
  pub mounted : (c : List ℕ) (s : Store) (h : Held) → MountedBut (λ i. i ≡ (outline_of_slot slot).image) c v s → held s (outline_of_slot slot).image ≡ Some h → Opens slot h → Mounted c w s
  pub back : is_lent w (outline_of_slot slot).image ≡ false
  pub others : (i : ℕ) → i ≢ (outline_of_slot slot).image → is_lent w i ≡ is_lent v i

pub record IsFree (c : List ℕ) (v : Volume) (s : Store) : Type 0 where
  pub mounted : Mounted c v s
  pub free : NothingLent v

given_up : (c : List ℕ) (v w : Volume) (s : Store) (job : PageJob) (r : Receiving) → GoesBack v w (slot_of job) → Receives c v s job r → Mounted c v s → IsFree c w s
given_up c v w s job r back receives m = record {
  mounted = back.mounted c s receives.kept (mounted_but c v s m) (ap (held s) receives.image ∙ receives.held_here) receives.stands.slot.opens;
  free = λ i. ⊎_elim
      (λ e. ap (is_lent w) (e ∙ sym receives.image) ∙ back.back)
      (λ other. back.others i (λ e. other (e ∙ receives.image)) ∙ receives.others i other)
      (cases_eq i r.image);
}

pub job_given_up : (c : List ℕ) (v w : Volume) (s : Store) (version server : ℕ) (asking : Reception) (job : PageJob) (slot : OpenSlot) (x : ModeValue) (mode : Mode)
    → x ≡ value.Receive version server asking job → slot ≡ slot_of job → GoesBack v w slot → ModeStands c v s x mode → Mounted c v s → IsFree c w s
job_given_up c v w s version server asking job slot x mode is same back stands m =
    let at = at_receive c v s version server asking job mode (subst (λ (y : ModeValue). ModeStands c v s y mode) is stands) in
    given_up c v w s job at.r (subst (GoesBack v w) same back) at.receives m
