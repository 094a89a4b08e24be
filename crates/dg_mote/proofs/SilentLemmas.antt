-- A heard frame sends nothing, and one that is refused or dropped changes nothing.
use Rattle.std.proofs.Common.{◌≡◌, ℕ, Bool, true, false, List, Option, Some, None, Result, Ok, Err, refl, ap, subst}
use Rattle.std.proofs.lemmas.Bool.{cond_both}
use Rattle.std.specs.Prelude.{◌==◌}
use Rattle.std.specs.FinSet as set
use Rattle.dg_nor.specs.Trail.{Trail, last, resting}
use Rattle.dg_trickle.specs.Timer.{Timer}
use Rattle.dg_bits.specs.Sets.{Numbers}
use Rattle.dg_control.specs.declared.snapshot.Order.{Order}
use Rattle.dg_slot.specs.Layout.{packets}
use Rattle.dg_slot.specs.Kept.{Held}
use Rattle.dg_slot.specs.Jobs.{page_from}
use Rattle.dg_slot.specs.Fits.{may_seal}
use Rattle.dg_volume.specs.Store.{Store, held}
use Rattle.dg_frame.specs.Grammar.{message_of}
use Rattle.dg_frame.specs.declared.Entry.{Entry}
use Rattle.dg_frame.specs.declared.Message.{Message}
use Rattle.dg_frame.specs.declared.Message.TheVariants.{Advert, Request, Packet, Wide}
use Rattle.dg_frame.specs.declared.FrameFault.{FrameFault}
use Rattle.dg_mote.specs.Model.{MoteState, Mode, Maintain, Receive, Transmit, Receiving, came, MoteStep}
use Rattle.dg_mote.specs.Summary.{entry_for, is_own, ahead_in}
use Rattle.dg_mote.specs.Adverts.{better_trail, asks, noting, by_ahead, turn_behind, advert_heard, dropped, on_advert, offer}
use Rattle.dg_mote.specs.Requests.{concerns, can_serve, is_served, to_it, on_request, page_request}
use Rattle.dg_mote.specs.Packets.{is_wanted, accepted, seal_by, takes, on_packet, page_packet}
use Rattle.dg_mote.specs.Hears.{source_of, on_message, by_message, heard_of}
use Rattle.dg_mote.specs.declared.mote.Heard.{Heard}
use Rattle.dg_mote.specs.declared.mote.Heard.TheVariants.{Refused, Dropped, Noted, Same, Other, Asks, Serves, Merged, Took, Sealed, Bad}

-- by the answer to a message: it is not Refused, and if it is Dropped nothing changed
abbrev Unchanged : MoteState → Store → MoteStep Heard → Heard → Type 0
Unchanged m s step (Refused cause) = ⊥
Unchanged m s step Dropped = (step.mote ≡ m) × (step.trail ≡ resting s 0)
Unchanged m s step Noted = Unit {0}
Unchanged m s step Same = Unit {0}
Unchanged m s step Other = Unit {0}
Unchanged m s step (Asks image page) = Unit {0}
Unchanged m s step (Serves image page) = Unit {0}
Unchanged m s step Merged = Unit {0}
Unchanged m s step (Took packet) = Unit {0}
Unchanged m s step (Sealed image page) = Unit {0}
Unchanged m s step (Bad image page) = Unit {0}

pub record IsPlain (m : MoteState) (s : Store) (step : MoteStep Heard) : Type 0 where
  pub silent : step.sent ≡ None
  pub unchanged : Unchanged m s step step.answer

dropped_plain : (m : MoteState) (s : Store) → IsPlain m s (dropped m s)
dropped_plain m s = record { silent = refl; unchanged = (refl, refl) }

noting_plain : (own : Bool) (m : MoteState) (timer : Timer) (s from : Store) (now word : ℕ) (t : Trail Store) → IsPlain m from (turn_behind t (noting m timer s now word own))
noting_plain true m timer s from now word t = record { silent = refl; unchanged = tt }
noting_plain false m timer s from now word t = record { silent = refl; unchanged = tt }

ahead_plain : (o : Option ℕ) (m : MoteState) (timer : Timer) (s from : Store) (now word source : ℕ) (entries : List Entry) (own : Bool) (t : Trail Store) → IsPlain m from (turn_behind t (by_ahead o m s now word (offer source entries) (noting m timer s now word own)))
ahead_plain None m timer s from now word source entries own t = noting_plain own m timer s from now word t
ahead_plain (Some i) m timer s from now word source entries own t =
    cond_both (asks m s now i (entry_for entries i)) _ _ (λ (x : MoteStep Heard). IsPlain m from (turn_behind t x)) (λ _. record { silent = refl; unchanged = tt }) (λ _. noting_plain own m timer s from now word t)

advert_plain : (mode : Mode) (m : MoteState) (s : Store) (now word source : ℕ) (entries : List Entry) (order : Order) → IsPlain m s (on_advert mode m s now word (offer source entries) order)
unfolding advert_heard
advert_plain (Maintain timer) m s now word source entries order =
    let t = better_trail s order in ahead_plain (ahead_in entries (last t)) m timer (last t) s now word source entries (is_own entries order m.wide s) t
advert_plain (Receive r) m s now word source entries order = dropped_plain m s
advert_plain (Transmit t) m s now word source entries order = dropped_plain m s

to_it_plain : (mode : Mode) (m : MoteState) (s : Store) (now image version page : ℕ) (want : Numbers) → IsPlain m s (to_it mode m s now (page_request image version page want))
to_it_plain (Maintain timer) m s now image version page want =
    cond_both (can_serve s image version page) _ _ (IsPlain m s) (λ _. record { silent = refl; unchanged = tt }) (λ _. dropped_plain m s)
to_it_plain (Transmit t) m s now image version page want =
    cond_both (is_served t image version page) _ _ (IsPlain m s) (λ _. record { silent = refl; unchanged = tt }) (λ _. dropped_plain m s)
to_it_plain (Receive r) m s now image version page want = dropped_plain m s

request_plain : (m : MoteState) (s : Store) (now to image version page : ℕ) (want : Numbers) → IsPlain m s (on_request m s now to (page_request image version page want))
request_plain m s now to image version page want =
    cond_both (to == m.id) _ _ (IsPlain m s) (λ _. to_it_plain m.mode m s now image version page want)
    (λ _. cond_both (concerns s image version page) _ _ (IsPlain m s) (λ _. record { silent = refl; unchanged = tt }) (λ _. dropped_plain m s))

seal_plain : (o : Option Held) (m : MoteState) (r : Receiving) (s : Store) (now word : ℕ) (page : List ℕ) → IsPlain m s (seal_by o m r s now word page)
seal_plain None m r s now word page = dropped_plain m s
seal_plain (Some h) m r s now word page =
    cond_both (may_seal r.image h page) _ _ (IsPlain m s) (λ _. record { silent = refl; unchanged = tt }) (λ _. record { silent = refl; unchanged = tt })

packet_plain : (mode : Mode) (m : MoteState) (s : Store) (now word image version page q : ℕ) (bytes : List ℕ) → IsPlain m s (on_packet mode m s now word (page_packet image version page q bytes))
packet_plain (Receive r) m s now word image version page q bytes =
    let a = accepted r now q bytes in
    cond_both (is_wanted r image version page q) (takes m r s now word q bytes) (dropped m s) (IsPlain m s)
    (λ _. cond_both (set.len (came a.packets) == packets) _ _ (IsPlain m s) (λ _. seal_plain (held s r.image) m r s now word (page_from a.packets)) (λ _. record { silent = refl; unchanged = tt }))
    (λ _. dropped_plain m s)
packet_plain (Maintain timer) m s now word image version page q bytes =
    cond_both (concerns s image version page) _ _ (IsPlain m s) (λ _. record { silent = refl; unchanged = tt }) (λ _. dropped_plain m s)
packet_plain (Transmit t) m s now word image version page q bytes = dropped_plain m s

message_plain : (message : Message) (m : MoteState) (s : Store) (now word : ℕ) → IsPlain m s (on_message m s now word message)
message_plain (Advert source entries order) m s now word = advert_plain m.mode m s now word source entries order
message_plain (Request source to image version page want) m s now word = request_plain m s now to image version page want
message_plain (Packet source image version page packet bytes) m s now word = packet_plain m.mode m s now word image version page packet bytes
message_plain (Wide source entries order) m s now word = advert_plain m.mode m s now word source entries order

read_plain : (message : Message) (m : MoteState) (s : Store) (now word : ℕ) → IsPlain m s (by_message (Ok message) m s now word)
read_plain message m s now word = cond_both (source_of message == m.id) _ _ (IsPlain m s) (λ _. dropped_plain m s) (λ _. message_plain message m s now word)

-- ---- frames

by_silent : (r : Result Message FrameFault) (m : MoteState) (s : Store) (now word : ℕ) → (by_message r m s now word).sent ≡ None
by_silent (Err cause) m s now word = refl
by_silent (Ok message) m s now word = (read_plain message m s now word).silent

pub heard_silent : (m : MoteState) (s : Store) (now word : ℕ) (bytes : List ℕ) → (heard_of m s now word bytes).sent ≡ None
unfolding heard_of
heard_silent m s now word bytes = by_silent (message_of bytes m.wide) m s now word

-- a refusal is reported
by_told : (r : Result Message FrameFault) (m : MoteState) (s : Store) (now word : ℕ) (cause : FrameFault) → r ≡ Err cause → by_message r m s now word ≡ record { mote = m; trail = resting s 0; sent = None; answer = Refused cause }
by_told r m s now word cause e = ap (λ (x : Result Message FrameFault). by_message x m s now word) e

pub refused_is : (m : MoteState) (s : Store) (now word : ℕ) (bytes : List ℕ) (cause : FrameFault) → message_of bytes m.wide ≡ Err cause → heard_of m s now word bytes ≡ record { mote = m; trail = resting s 0; sent = None; answer = Refused cause }
unfolding heard_of
refused_is m s now word bytes cause e = by_told (message_of bytes m.wide) m s now word cause e

by_cause : (r : Result Message FrameFault) (m : MoteState) (s : Store) (now word : ℕ) (cause : FrameFault) → (by_message r m s now word).answer ≡ Refused cause → r ≡ Err cause
by_cause (Err other) m s now word cause e = cc
by_cause (Ok message) m s now word cause e =
    let p = read_plain message m s now word in absurd (subst (Unchanged m s (by_message (Ok message) m s now word)) e p.unchanged)

pub refused_by : (m : MoteState) (s : Store) (now word : ℕ) (bytes : List ℕ) (cause : FrameFault) → (heard_of m s now word bytes).answer ≡ Refused cause → message_of bytes m.wide ≡ Err cause
unfolding heard_of
refused_by m s now word bytes cause e = by_cause (message_of bytes m.wide) m s now word cause e

by_dropped : (r : Result Message FrameFault) (m : MoteState) (s : Store) (now word : ℕ) → (by_message r m s now word).answer ≡ Dropped → ((by_message r m s now word).mote ≡ m) × ((by_message r m s now word).trail ≡ resting s 0)
by_dropped (Err cause) m s now word e = (refl, refl)
by_dropped (Ok message) m s now word e = let p = read_plain message m s now word in subst (Unchanged m s (by_message (Ok message) m s now word)) e p.unchanged

pub dropped_is : (m : MoteState) (s : Store) (now word : ℕ) (bytes : List ℕ) → (heard_of m s now word bytes).answer ≡ Dropped → ((heard_of m s now word bytes).mote ≡ m) × ((heard_of m s now word bytes).trail ≡ resting s 0)
unfolding heard_of
dropped_is m s now word bytes e = by_dropped (message_of bytes m.wide) m s now word e
