-- A mote that clears its count of short starts, and one that does not.
use Rattle.std.proofs.Common.{◌≡◌, ℕ, ◌≤◌, Bool, true, false, cond, List, None, Result, Ok, Err, IfOk, OnOk, OnErr, refl, ap, ◌∙◌, arith}
use Rattle.std.proofs.lemmas.Bool.Decides.{nat_tests}
use Rattle.dg_nor.specs.Device.{Device}
use Rattle.dg_nor.specs.Trail.{last}
use Rattle.dg_nor.proofs.TrailLemmas.{last-stepping}
use Rattle.dg_slot.specs.Kept.{Held}
use Rattle.dg_slot.specs.Jobs.{IsJob, Packets}
use Rattle.dg_slot.specs.declared.states.PageJob.{PageJob}
use Rattle.dg_volume.specs.Store.{Store, held}
use Rattle.dg_volume.specs.Stands.{is_lent, Tells, room_of}
use Rattle.dg_volume.specs.Trails.{clear_trail}
use Rattle.dg_volume.specs.Acts.{Acted}
use Rattle.dg_volume.specs.declared.volume.Volume.{Volume}
use Rattle.dg_mote.specs.Model.{MoteState, Mode, Maintain, Receive, Transmit, MoteStep}
use Rattle.dg_mote.specs.Ticks.{clears, mode_tick, tick_of}
use Rattle.dg_mote.specs.Motes.{IsMote, ModeStands, Done}
use Rattle.dg_mote.specs.declared.mote.Did.{Did}
use Rattle.dg_mote.specs.declared.mote.Did.TheVariants.{Idle}
use Rattle.dg_mote.specs.declared.mote.Mote.{Mote}
use Rattle.dg_mote.specs.declared.mote.Mode.{Mode as ModeValue}
use Rattle.dg_mote.specs.declared.mote.Mode.TheVariants as value

-- ---- which row it is

abbrev pub clear_turn : MoteState → Store → MoteStep Did
clear_turn m s = record { mote = m; trail = clear_trail s; sent = None; answer = Idle }

pub tick_clears : (m : MoteState) (s : Store) (now word : ℕ) → clears m s now ≡ true → tick_of m s now word ≡ clear_turn m s
unfolding tick_of
tick_clears m s now word e = ap (λ (b : Bool). cond b (clear_turn m s) (mode_tick m.mode m s now word)) e

pub tick_acts : (m : MoteState) (s : Store) (now word : ℕ) → clears m s now ≡ false → tick_of m s now word ≡ mode_tick m.mode m s now word
unfolding tick_of
tick_acts m s now word e = ap (λ (b : Bool). cond b (clear_turn m s) (mode_tick m.mode m s now word)) e

pub clears_room : (m : MoteState) (s : Store) (v : Volume) (now : ℕ) → clears m s now ≡ true → Tells v s → 1 ≤ room_of v
clears_room m s v now e tells = let room = tells.room in grind (arith, nat_tests)

-- ---- what its commit leaves unchanged

-- no slot is lent or returned; jobs and what is kept stay
pub record IsSame (c d : List ℕ) (v w : Volume) (s t : Store) : Type 0 where
  pub lent : (i : ℕ) → is_lent w i ≡ is_lent v i
  pub job : (j : PageJob) (h : Held) (ps : Packets) → IsJob c j h ps → IsJob d j h ps
  pub held_there : (i : ℕ) → held t i ≡ held s i

mode_stays : (c d : List ℕ) (v w : Volume) (s t : Store) (x : ModeValue) (mode : Mode) → IsSame c d v w s t → ModeStands c v s x mode → ModeStands d w t x mode
mode_stays c d v w s t (value.Maintain trickle) (Maintain timer) same h = (h.0, λ i. same.lent i ∙ h.1 i)
mode_stays c d v w s t (value.Receive version server asking job) (Receive r) same h =
    let x = h.3 in (
      h.0,
      h.1,
      h.2,
      record {
        image = x.image;
        not_golden = x.not_golden;
        lent = same.lent r.image ∙ x.lent;
        others = λ i other. same.lent i ∙ x.others i other;
        kept = x.kept;
        held_here = same.held_there r.image ∙ x.held_here;
        version = x.version;
        next = x.next;
        stands = same.job job x.kept r.packets x.stands;
        missing = x.missing;
      },
    )
mode_stays c d v w s t (value.Transmit image version page owed) (Transmit u) same h =
    let x = h.4.serves in (
      h.0,
      h.1,
      h.2,
      h.3,
      record {
        free = λ i. same.lent i ∙ h.4.free i;
        serves = record { not_golden = x.not_golden; kept = x.kept; held_here = same.held_there u.image ∙ x.held_here; version = x.version; complete = x.complete; owed = x.owed };
      },
    )
mode_stays c d v w s t (value.Maintain trickle) (Receive r) same h = absurd h
mode_stays c d v w s t (value.Maintain trickle) (Transmit u) same h = absurd h
mode_stays c d v w s t (value.Receive version server asking job) (Maintain timer) same h = absurd h
mode_stays c d v w s t (value.Receive version server asking job) (Transmit u) same h = absurd h
mode_stays c d v w s t (value.Transmit image version page owed) (Maintain timer) same h = absurd h
mode_stays c d v w s t (value.Transmit image version page owed) (Receive r) same h = absurd h

pub cleared : (a b : Device) (v : Mote) (w : Volume) (m : MoteState) (s : Store) → IsMote a.image v m s → Acted (clear_trail s) a b w → ((i : ℕ) → is_lent w i ≡ is_lent v.volume i)
    → ((j : PageJob) (h : Held) (ps : Packets) → IsJob a.image j h ps → IsJob b.image j h ps) → Done (clear_turn m s) a b (record v { volume = w }) Idle
cleared a b v w m s is acted lent job = record {
  ran = acted.ran;
  mote = record {
    id = is.id;
    since = is.since;
    wide = is.wide;
    noted = is.noted;
    mounted = acted.mounted;
    mode = mode_stays a.image b.image v.volume w s (last (clear_trail s)) v.mode m.mode (record { lent = lent; job = job; held_there = λ i. ap (λ (x : Store). held x i) (last-stepping s _ _) }) is.mode;
    known = is.known;
  };
  answers = refl;
}

-- ---- one clause for another

pub if_ok : {A E : Type 0} {P Q : A → Type 0} (r : Result A E) → ((x : A) → P x → Q x) → IfOk r P → IfOk r Q
if_ok (Ok x) f h = f x h
if_ok (Err e) f h = h

pub on_ok : {A E P Q : Type 0} (r : Result A E) → (P → Q) → OnOk r P → OnOk r Q
on_ok (Ok x) f h = f h
on_ok (Err e) f h = h

pub on_err : {A E P Q : Type 0} (r : Result A E) → (P → Q) → OnErr r P → OnErr r Q
on_err (Ok x) f h = h
on_err (Err e) f h = f h
