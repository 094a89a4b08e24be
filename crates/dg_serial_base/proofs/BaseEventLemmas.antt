-- A base mote does one more event, or stops in it.
use Rattle.std.proofs.Common.{◌≡◌, ℕ, suc, ◌+◌, ◌≤◌, List, [], ◌∷◌, ◌++◌, length, refl, ap, sym, ◌∙◌, subst, append_assoc, append-nil, length-append, arith}
use Rattle.std.specs.Prelude.{Option, Some, None, option_map, map, Result, Ok, Err, OnOk, IfSome}
use Rattle.std.proofs.lemmas.Result.{IfOk-at_ok}
use Rattle.dg_base.specs.Outside.{Puts}
use Rattle.dg_nor.specs.Device.{Device}
use Rattle.dg_volume.specs.Store.{Store}
use Rattle.dg_volume.specs.Stands.{Stands}
use Rattle.dg_volume.specs.Acts.{Stops}
use Rattle.std.specs.Int.{to_be_bytes, w16, w32}
use Rattle.std.specs.List.{flat_map, AllByRecursion}
use Rattle.dg_base.specs.Crc.{crc_of}
use Rattle.dg_bits.specs.ByteForm.{byte_form}
use Rattle.dg_control.specs.Snapshot.{order_bytes}
use Rattle.dg_frame.specs.Sizes.{advert_kind, request_kind, packet_kind, wide_kind, set_bytes}
use Rattle.dg_frame.specs.Spelling.{entry_bytes, unchecked, frame_of}
use Rattle.dg_frame.specs.declared.Message.{Message}
use Rattle.dg_frame.specs.declared.Message.TheVariants.{Advert, Request, Packet, Wide}
use Rattle.dg_mote.specs.Model.{MoteState}
use Rattle.dg_mote.specs.Effects.{Effect, tick_effect, frame_effect}
use Rattle.dg_mote.specs.Hears.{heard_of}
use Rattle.dg_mote.specs.Motes.{Done, IsMote}
use Rattle.dg_mote.specs.Timely.{Timely}
use Rattle.dg_mote.specs.declared.mote.Heard.{Heard}
use Rattle.dg_mote.specs.declared.mote.Mote.{Mote}
use Rattle.dg_serial.specs.Line.{stuffed_line, IsOnLine}
use Rattle.dg_serial_base.specs.inner.Words.{IsPrefixOfInput}
use Rattle.dg_serial_base.specs.BaseEvents.{Base, At, BaseEvent, Hears, Ticks, powered, moment_at, effect_of, after_base_event, sent_too, line_sent}
use Rattle.dg_serial_base.specs.inner.Words.{draw_at}
use Rattle.dg_serial_base.specs.inner.Standing.{Outset, code_at, BaseEventLeft, base_event_left, IsLeft, LeavesNone, StopsOn, FailedBy, EffectEnds, IsTime, Stood, IsStood, one_if, DoneOne, LacksIn, StopsInBaseEvent, BaseEventFails, BaseEventEnds, SendFails, StoppedBy, AreOnLine, BaseEventsHalted, CompletedOn}
use Rattle.dg_serial_base.specs.declared.running.Running.{Running}
use Rattle.dg_end.specs.declared.ends.End.{End}
use Rattle.dg_end.specs.declared.ends.End.TheVariants as ends
use Rattle.dg_serial_base.proofs.RunLemmas.{run_goes, sent_one, said_one}
use Rattle.dg_serial_base.proofs.StartLemmas.{effect_ends, frame_said}
use Rattle.dg_node.specs.Hosts.{host}
use Rattle.dg_node.specs.Nodes.{node_mote}
use Rattle.dg_node.specs.Ends.{NodeEnd, NodeDone}
use Rattle.dg_serial_base.specs.inner.Ends.{result_of}
use Rattle.dg_serial_base.proofs.WriteLemmas.{puts_then, puts_front_then}

-- ---- one event

module _ (b : Base) (s : Store) (done : List BaseEvent) (d : BaseEvent) (before : At) (v : Running) (c : List ℕ) (stood : Stood b s done v c before) where
  abbrev e : Effect
  e = effect_of b stood.state before d

  pub one_done : (u : Running) (new : Device) (frame : Option (List ℕ)) → IsTime u.timeline b (suc before.events) → frame ≡ option_map frame_of e.sent → IsLeft e new.image (node_mote u.node) u.timeline.moment
      → DoneOne b s done d before (base_event_left u new frame)
  one_done u new frame time sent left =
      record {
        there = after_base_event b stood.state before d;
        stood = record {
          state = left.state;
          run = run_goes b done (powered b s) before d stood.state stood.run stood.on;
          on = left.on;
          mote = left.mote;
          timely = left.timely;
          time = time;
        };
        sent = sent_one before.sent e.sent frame sent;
      }

  lacks : (new : Device) → LeavesNone e new.image → LacksIn b s done d before new.image
  lacks new l =
      record {
        there = after_base_event b stood.state before d;
        run = run_goes b done (powered b s) before d stood.state stood.run stood.on;
        none = l.none;
        sent = ap (sent_too before.sent) l.silent;
        stands = l.stands;
      }

  fails : (why : End) (new : Device) → FailedBy why before.store e new → BaseEventFails why b s done d before new
  fails ends.FlashFault new x = record { state = stood.state; on = stood.on; stops = x }
  fails ends.NoImage new x = lacks new x
  fails end new x = x

  pub base_event_ends : (r : Result (Unit {0}) End) (u : Running) (new : Device) (frame : Option (List ℕ)) → IsTime u.timeline b (suc before.events)
      → ((x : Unit {0}) → r ≡ Ok x → frame ≡ option_map frame_of e.sent) → EffectEnds r before.store e u.timeline.moment new (node_mote u.node) → BaseEventEnds r b s done d before (base_event_left u new frame)
  base_event_ends (Ok x) u new frame time sent h = one_done u new frame time (sent x refl) h
  base_event_ends (Err why) u new frame time sent h = fails why new h

  -- by what the node did
  pub base_event_done : (r : NodeEnd) (u : Running) (a new : Device) (frame : Option (List ℕ)) → IsTime u.timeline b (suc before.events) → Stands a.image before.store → NodeDone r frame e (host a (Some v.node)) (host new (Some u.node))
      → IfSome e.mote (λ m. Timely m u.timeline.moment) → BaseEventEnds (result_of r) b s done d before (base_event_left u new frame)
  base_event_done r u a new frame time stands x timely =
      base_event_ends (result_of r) u new frame time (frame_said frame e (Some v.node) a new r (Some u.node) x) (effect_ends frame e (Some v.node) a new r before.store u.node u.timeline.moment x stands timely)

-- ---- an event at the next moment

pub timely_next : ((m : MoteState) (now then : ℕ) → now ≤ then → Timely m now → Timely m then) → (m : MoteState) (moment step new now : ℕ) → Timely m moment → now ≡ new → new ≡ moment + step → Timely m now
timely_next law m moment step new now t p q = let le : moment ≤ now = omega (arith, p, q) in law m moment now le t

-- the node did this at that moment
module _ (b : Base) (s : Store) (done : List BaseEvent) (before : At) (v : Running) (c : List ℕ) (stood : Stood b s done v c before) (d : BaseEvent) (at : ℕ → ℕ → Effect) (now word : ℕ)
    (drawn : (now ≡ moment_at b before.events) × (word ≡ draw_at b before.events)) (means : at (moment_at b before.events) (draw_at b before.events) ≡ effect_of b stood.state before d) where
  effect_is : at now word ≡ effect_of b stood.state before d
  effect_is = ap (λ (x : ℕ). at x word) drawn.0 ∙ ap (λ (x : ℕ). at (moment_at b before.events) x) drawn.1 ∙ means

  pub done_at : (r : NodeEnd) (u : Running) (a new : Device) (frame : Option (List ℕ)) → now ≡ u.timeline.moment → IsTime u.timeline b (suc before.events) → Stands a.image before.store → NodeDone r frame (at now word) (host a (Some v.node)) (host new (Some u.node))
      → IfSome (at now word).mote (λ m. Timely m now) → BaseEventEnds (result_of r) b s done d before (base_event_left u new frame)
  done_at r u a new frame is time stands x timely =
      base_event_done b s done d before v c stood r u a new frame time stands (subst (λ (e : Effect). NodeDone r frame e (host a (Some v.node)) (host new (Some u.node))) effect_is x)
      (subst (λ (n : ℕ). IfSome (effect_of b stood.state before d).mote (λ m. Timely m n)) is (subst (λ (e : Effect). IfSome e.mote (λ m. Timely m now)) effect_is timely))

pub ends_stood : (r : Result (Unit {0}) End) (b : Base) (s : Store) (done : List BaseEvent) (d : BaseEvent) (before : At) (u : Running) (new : Device) (frame : Option (List ℕ))
    → BaseEventEnds r b s done d before (base_event_left u new frame) → OnOk r (IsStood u new.image)
ends_stood (Ok x) b s done d before u new frame one = (b, s, done ++ d ∷ [], one.there, one.stood)
ends_stood (Err why) b s done d before u new frame one = tt

-- a frame has some bytes
cons_long : (x : ℕ) (xs : List ℕ) → 1 ≤ length (x ∷ xs)
cons_long x xs = omega arith

unchecked_long : (m : Message) → 1 ≤ length (unchecked m)
unchecked_long (Advert source entries order) = cons_long advert_kind (to_be_bytes w16 source ++ flat_map entry_bytes entries ++ order_bytes order)
unchecked_long (Request source to image version page want) =
    cons_long request_kind (to_be_bytes w16 source ++ to_be_bytes w16 to ++ image ∷ to_be_bytes w32 version ++ page ∷ byte_form set_bytes want)
unchecked_long (Packet source image version page packet bytes) = cons_long packet_kind (to_be_bytes w16 source ++ image ∷ to_be_bytes w32 version ++ page ∷ packet ∷ bytes)
unchecked_long (Wide source entries order) = cons_long wide_kind (to_be_bytes w16 source ++ flat_map entry_bytes entries ++ order_bytes order)

more_long : (xs ys : List ℕ) → 1 ≤ length xs → 1 ≤ length (xs ++ ys)
more_long xs ys long = omega (arith, length-append xs ys, long)

frame_long : (m : Message) → 1 ≤ length (frame_of m)
unfolding frame_of
frame_long m = more_long (unchecked m) (to_be_bytes w16 (crc_of (unchecked m))) (unchecked_long m)

frame_some : (o : Option Message) → IfSome (option_map frame_of o) (λ f. 1 ≤ length f)
frame_some None = tt
frame_some (Some m) = frame_long m

pub frame_longs : {o : Option (List ℕ)} (sent : Option Message) → o ≡ option_map frame_of sent → IfSome o (λ f. 1 ≤ length f)
frame_longs {o} sent is = subst (λ (x : Option (List ℕ)). IfSome x (λ f. 1 ≤ length f)) (sym is) (frame_some sent)

-- ---- and what is written

-- an event that failed is the last one
pub base_event_halts : (why : End) (a : Outset) (done : List BaseEvent) (d : BaseEvent) (before : At) (v : Running) (c : List ℕ) (now : Option (List ℕ)) (new : Device)
    → Stood a.base a.store done v c before → Puts a.written now (line_sent before) → AreOnLine before → BaseEventFails why a.base a.store done d before new → BaseEventsHalted why a (done ++ d ∷ []) now new
base_event_halts ends.FlashFault a done d before v c now new stood put fits x =
    record { done = done; rest = d ∷ []; parts = refl; there = before; run = stood.run; fits = fits; by = (x.state, d, [], x.on, refl, put, x.stops) }
base_event_halts ends.NoImage a done d before v c now new stood put fits x =
    record {
      done = done ++ d ∷ [];
      rest = [];
      parts = append-nil (done ++ d ∷ []);
      there = x.there;
      run = x.run;
      fits = subst (λ (sent : List Message). AllByRecursion IsOnLine (map frame_of sent)) (sym x.sent) fits;
      by = (x.none, subst (λ (sent : List Message). Puts a.written now (stuffed_line (map frame_of sent))) (sym x.sent) put, x.stands);
    }
base_event_halts end a done d before v c now new stood put fits x = absurd x

stopped_more : (why : End) (b : Base) (there : At) (rest more : List BaseEvent) (first now : Option (List ℕ)) (new : Device) → StoppedBy why b there rest first now new → StoppedBy why b there (rest ++ more) first now new
stopped_more ends.Memory b there rest more first now new x = x
stopped_more ends.WriteFault b there rest more first now new x = x
stopped_more ends.NoImage b there rest more first now new x = x
stopped_more ends.FlashFault b there rest more first now new x = (x.0, x.1, x.2 ++ more, x.3, ap (λ (ds : List BaseEvent). ds ++ more) x.4, x.5, x.6)
stopped_more end b there rest more first now new x = absurd x

-- it halted, whatever events were to follow
pub halted_more : (why : End) (a : Outset) (all more : List BaseEvent) (now : Option (List ℕ)) (new : Device) → BaseEventsHalted why a all now new → BaseEventsHalted why a (all ++ more) now new
halted_more why a all more now new h =
    record {
      done = h.done;
      rest = h.rest ++ more;
      parts = sym (append_assoc h.done h.rest more) ∙ ap (λ (x : List BaseEvent). x ++ more) h.parts;
      there = h.there;
      run = h.run;
      fits = h.fits;
      by = stopped_more why a.base h.there h.rest more a.written now new h.by;
    }

-- ---- an event, and what it sent is written to the line

all_and_one : (frames : List (List ℕ)) (frame : Option (List ℕ)) → AllByRecursion IsOnLine frames → IfSome frame IsOnLine → AllByRecursion IsOnLine (frames ++ one_if frame)
all_and_one [] None all one = tt
all_and_one [] (Some frame) all one = (one, tt)
all_and_one (f ∷ frames) frame all one = (all.0, all_and_one frames frame all.1 one)

module _ (a : Outset) (done : List BaseEvent) (d : BaseEvent) (before : At) (old now : Option (List ℕ)) (put : Puts a.written old (line_sent before)) (fits : AreOnLine before) where
  -- what is on the line after the event
  said_then : (there : At) (frame : Option (List ℕ)) → map frame_of there.sent ≡ map frame_of before.sent ++ one_if frame → line_sent there ≡ line_sent before ++ stuffed_line (one_if frame)
  said_then there frame e = ap stuffed_line e ∙ said_one (map frame_of before.sent) (one_if frame)

  -- and what was sent fits
  fits_then : (there : At) (frame : Option (List ℕ)) → map frame_of there.sent ≡ map frame_of before.sent ++ one_if frame → IfSome frame IsOnLine → AreOnLine there
  fits_then there frame e one = subst (AllByRecursion IsOnLine) (sym e) (all_and_one (map frame_of before.sent) frame fits one)

  pub sent_goes : (left : BaseEventLeft) → IfSome left.frame IsOnLine → DoneOne a.base a.store done d before left → Puts old now (stuffed_line (one_if left.frame)) → CompletedOn a (done ++ d ∷ []) (code_at now left.mote left.chip)
  sent_goes left frame one w =
      record {
        there = one.there;
        stood = one.stood;
        put = subst (λ (text : List ℕ). Puts a.written now text) (sym (said_then one.there left.frame one.sent)) (puts_then a.written old now (line_sent before) (stuffed_line (one_if left.frame)) put w);
        fits = fits_then one.there left.frame one.sent frame;
      }

  halts_behind : (why : End) (left : BaseEventLeft) → IfSome left.frame IsOnLine → (one : DoneOne a.base a.store done d before left) → StoppedBy why a.base one.there [] a.written now left.chip → BaseEventsHalted why a (done ++ d ∷ []) now left.chip
  halts_behind why left frame one by =
      record { done = done ++ d ∷ []; rest = []; parts = append-nil (done ++ d ∷ []); there = one.there; run = one.stood.run; fits = fits_then one.there left.frame one.sent frame; by = by }

  pub send_fails : (why : End) (left : BaseEventLeft) → IfSome left.frame IsOnLine → DoneOne a.base a.store done d before left → SendFails why (stuffed_line (one_if left.frame)) old now → BaseEventsHalted why a (done ++ d ∷ []) now left.chip
  send_fails ends.WriteFault left frame one w =
      let x = puts_front_then a.written old now (line_sent before) (stuffed_line (one_if left.frame)) put w in
      halts_behind ends.WriteFault left frame one
      (x.text, x.put, subst (IsPrefixOfInput x.text) (sym (said_then one.there left.frame one.sent)) x.front, one.stood.mote.mounted.stands)
  send_fails ends.Memory left frame one w =
      halts_behind ends.Memory left frame one
      (line_sent before, w ∙ put, (stuffed_line (one_if left.frame), sym (said_then one.there left.frame one.sent)), one.stood.mote.mounted.stands)
  send_fails end left frame one w = absurd w
