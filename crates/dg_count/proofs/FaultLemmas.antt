-- Why a mote refuses the frame that an event brings, by the world after the event.
use Rattle.std.proofs.Common.{◌≡◌, ℕ, Bool, true, false, List, refl, sym, ap, ◌∙◌, Option, Some, None, option_map, Ok, Err}
use Rattle.std.specs.Prelude.{IfSome, IfNone}
use Rattle.dg_nor.specs.Device.{Device}
use Rattle.dg_frame.specs.Grammar.{message_of}
use Rattle.dg_frame.specs.declared.Message.{Message}
use Rattle.dg_frame.specs.declared.FrameFault.{FrameFault}
use Rattle.dg_base.specs.declared.events.Event.{Event}
use Rattle.dg_base.specs.declared.events.Step.{Step}
use Rattle.dg_rules.specs.World.{World, Sent, is_wide_mote, wide_at, frame_at}
use Rattle.dg_rules.specs.Events.{Does, Refuses, Goes, does, mote_of}
use Rattle.dg_rules.specs.Steps.{StepDoes, Ended, blows, and_sent}
use Rattle.dg_rules.specs.Past.{brought}
use Rattle.dg_rules.specs.Runs.{Played}
use Rattle.dg_script.specs.declared.report.Report.{Report}
use Rattle.dg_world.specs.Worlds.{IsWorld}
use Rattle.dg_world.specs.declared.world.World.{World as CodeWorld}
use Rattle.dg_events.specs.Frames.{is_hearing, is_outside}
use Rattle.dg_events.specs.FrameCounters.{IsBringing, IsBringingBytes}
use Rattle.dg_events.specs.Noted.{IsEventPlayed}
use Rattle.dg_events.specs.RefusedFrames.{reader_fault, fault_brought}
use Rattle.dg_count.specs.Shown.{IsShown, IsNumberOf}
use Rattle.dg_count.proofs.FrameLemmas.{played_step, played_still, bytes_still, same_brought}

-- ---- an event changes no mote's width

sent_narrow : (w : World) (m : ℕ) (o : Option Message) → (and_sent w m o).narrow ≡ w.narrow
sent_narrow w m None = refl
sent_narrow w m (Some message) = refl

step_narrow : (d : Does) (w : World) (x : Step) (v : World) (all : List Report) → StepDoes d w x v all → v.narrow ≡ w.narrow
step_narrow (Refuses why) w x v all step = ap (λ (u : World). u.narrow) step.0
step_narrow (Goes d) w x v all step = by (blows x.cut d.trail) step
  where
    by : (b : Bool) → Ended b w x d v all → v.narrow ≡ w.narrow
    by true e = ap (λ (u : World). u.narrow) e.world
    by false e = ap (λ (u : World). u.narrow) e.2 ∙ sent_narrow _ (mote_of x.event) d.sent

event_narrow : {e : Event} {lines : List Report} {p : Played} → IsEventPlayed e lines p → p.after.narrow ≡ p.before.narrow
event_narrow {e} {lines} {p} h =
    let s = played_step h in step_narrow (does p.before e) p.before (record { event = e; cut = h.cut }) p.after s.0 s.1

-- ---- the frame that an event brings

-- the fault that a reader reports
pub refusal_is : (bytes : List ℕ) (message : Message) (wide : Bool) (o : Option FrameFault) → IfNone o (message_of bytes wide ≡ Ok message)
    → IfSome o (λ (fault : FrameFault). message_of bytes wide ≡ Err fault) → reader_fault (message_of bytes wide) ≡ o
refusal_is bytes message wide None read refused = ap reader_fault read
refusal_is bytes message wide (Some fault) read refused = ap reader_fault refused

-- by the frame with its number, and the mote's width
pub fault_at : (w : World) (m number : ℕ) (wide : Bool) (bytes : List ℕ) (o : Option FrameFault)
    → Some bytes ≡ option_map (λ (s : Sent). s.bytes) (frame_at w number) → wide ≡ wide_at w m → reader_fault (message_of bytes wide) ≡ o
    → fault_brought (wide_at w m) (option_map (λ (s : Sent). s.bytes) (frame_at w number)) ≡ o
fault_at w m number wide bytes o told same is =
    ap (λ (bs : Option (List ℕ)). fault_brought (wide_at w m) bs) (sym told) ∙ ap (λ (b : Bool). reader_fault (message_of bytes b)) (sym same) ∙ is

pub no_fault_at : (w : World) (m number : ℕ) → None ≡ option_map (λ (s : Sent). s.bytes) (frame_at w number)
    → fault_brought (wide_at w m) (option_map (λ (s : Sent). s.bytes) (frame_at w number)) ≡ None
no_fault_at w m number told = ap (λ (bs : Option (List ℕ)). fault_brought (wide_at w m) bs) (sym told)

-- the frame that an event brings, and why its mote refuses it
pub one_brought : {world : CodeWorld} {e : Event} {lines : List Report} {past : List Played} {p : Played} (number m : ℕ) (fault : Option FrameFault)
    → is_hearing e ≡ true → m ≡ mote_of e → IsNumberOf world e number
    → ((boards : List Device) (w : World) → IsWorld world boards w
    → fault_brought (wide_at w m) (option_map (λ (s : Sent). s.bytes) (frame_at w number)) ≡ fault)
    → IsShown world e lines past p → IsBringing e lines number fault past p
one_brought {e = e} {past = past} {p = p} number m fault hears here is why h =
    let still : p.after.sent ≡ p.before.sent = played_still h.played hears in
    let there : brought p.before e ≡ option_map (λ (s : Sent). s.bytes) (frame_at p.after number) =
    same_brought p.before p.after e (sym still) hears ∙ is h.boards p.after h.stands in
    record {
      played = h.played;
      hears = hears;
      brings = there ∙ ap (λ (fs : List Sent). option_map (λ (s : Sent). s.bytes) (frame_at (record p.after { sent = fs }) number)) still;
      refuses = ap (λ (bs : Option (List ℕ)). fault_brought (wide_at p.before (mote_of e)) bs) there
          ∙ ap (λ (ns : List Bool). fault_brought (is_wide_mote ns (mote_of e)) (option_map (λ (s : Sent). s.bytes) (frame_at p.after number)))
          (sym (event_narrow h.played))
          ∙ ap (λ (k : ℕ). fault_brought (wide_at p.after k) (option_map (λ (s : Sent). s.bytes) (frame_at p.after number))) (sym here)
          ∙ why h.boards p.after h.stands;
      before = h.before;
      sent = still ∙ h.before;
    }

-- the bytes that an event brings from outside, and why its mote refuses them
pub bytes_brought_in : {world : CodeWorld} {e : Event} {lines : List Report} {past : List Played} {p : Played} (m : ℕ) (wide : Bool) (bytes : List ℕ)
    (fault : Option FrameFault) → is_outside e ≡ true → ((w : World) → brought w e ≡ Some bytes) → m ≡ mote_of e
    → ((boards : List Device) (w : World) → IsWorld world boards w → wide ≡ wide_at w m) → fault_brought wide (Some bytes) ≡ fault
    → IsShown world e lines past p → IsBringingBytes e lines bytes fault past p
bytes_brought_in {e = e} {past = past} {p = p} m wide bytes fault outside brings here same why h = record {
  played = h.played;
  outside = outside;
  brings = brings p.before;
  refuses = ap (λ (bs : Option (List ℕ)). fault_brought (wide_at p.before (mote_of e)) bs) (brings p.before)
      ∙ ap (λ (ns : List Bool). fault_brought (is_wide_mote ns (mote_of e)) (Some bytes)) (sym (event_narrow h.played))
      ∙ ap (λ (k : ℕ). fault_brought (wide_at p.after k) (Some bytes)) (sym here)
      ∙ ap (λ (b : Bool). fault_brought b (Some bytes)) (sym (same h.boards p.after h.stands)) ∙ why;
  sent = bytes_still h.played outside ∙ h.before;
}
