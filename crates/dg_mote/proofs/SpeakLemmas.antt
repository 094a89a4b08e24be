-- Motes whose messages fit into frames, through steps and events.
use Rattle.std.proofs.Common.{◌≡◌, ℕ, ◌<◌, ◌≤◌, ◌^◌, Bool, true, false, List, length, Option, Some, None, IfSome, IfOk, Result, Ok, Err, refl, sym, ap, subst, ◌∙◌, arith}
use Rattle.std.specs.Prelude.{◌==◌, ◌&&◌, nat_lt, nat_le}
use Rattle.std.proofs.lemmas.Bool.{cond_both}
use Rattle.std.specs.FinSet as set
use Rattle.dg_nor.specs.Trail.{Trail, last, joined, resting, stepping}
use Rattle.dg_nor.specs.Through.{Through}
use Rattle.dg_nor.proofs.TrailLemmas.{last-joined}
use Rattle.dg_nor.proofs.ThroughLemmas.{Through-joined, Through-resting, Through-stepping, Through-last}
use Rattle.dg_trickle.specs.Timer.{Timer}
use Rattle.dg_trickle.specs.Steps.{act_of, after_tick, after_same, after_other}
use Rattle.dg_trickle.specs.declared.Act.{Act}
use Rattle.dg_trickle.specs.declared.Act.TheVariants as act
use Rattle.dg_recv.specs.Steps.{ask_of}
use Rattle.dg_recv.specs.declared.Ask.{Ask}
use Rattle.dg_recv.specs.declared.Ask.TheVariants as ask
use Rattle.dg_send.specs.Steps.{serve_of, after_next, owed_begun, after_merge}
use Rattle.dg_send.specs.declared.Serve.{Serve}
use Rattle.dg_send.specs.declared.Serve.TheVariants as serve
use Rattle.dg_quiet.specs.Noted.{with_request, with_packet}
use Rattle.dg_bits.specs.Sets.{Numbers}
use Rattle.dg_control.specs.Store.{commit_operations}
use Rattle.dg_control.specs.declared.snapshot.Order.{Order}
use Rattle.dg_object.specs.Object.{Outline}
use Rattle.dg_slot.specs.Layout.{packets}
use Rattle.dg_slot.specs.Kept.{Held, held_begun}
use Rattle.dg_slot.specs.Jobs.{page_from}
use Rattle.dg_slot.specs.Fits.{may_seal}
use Rattle.dg_volume.specs.Store.{Store, held}
use Rattle.dg_volume.specs.Changes.{spent, keeping, paged, ordered, gesture_cleared, is_version}
use Rattle.dg_volume.specs.Trails.{BeginsAt, committing, clear_trail, drop_by, drop_trail, open_trail, take_trail}
use Rattle.dg_volume.specs.Start.{Runs, boot, order_waits}
use Rattle.dg_volume.specs.Ends.{OnTheWay, Boots}
use Rattle.dg_volume.specs.declared.volume.StartCause.{StartCause}
use Rattle.dg_volume.specs.declared.volume.StartCause.TheVariants as start_cause
use Rattle.dg_frame.specs.Grammar.{message_of, in_range}
use Rattle.dg_frame.specs.Ranges.{IsInRange}
use Rattle.dg_frame.specs.Sizes.{known_images}
use Rattle.dg_frame.specs.Spelling.{FitsTypes}
use Rattle.dg_frame.specs.declared.Entry.{Entry}
use Rattle.dg_frame.specs.declared.Message.{Message}
use Rattle.dg_frame.specs.declared.Message.TheVariants.{Advert, Request, Packet, Wide}
use Rattle.dg_frame.specs.declared.FrameFault.{FrameFault}
use Rattle.dg_mote.specs.Model.{MoteState, Mode, Maintain, Receive, Transmit, NamesKnown, Receiving, Sending, came, reception, maintains, MoteStep}
use Rattle.dg_mote.specs.Summary.{entry_for, is_own, ahead_in}
use Rattle.dg_mote.specs.Ticks.{clears, maintain_by, asked, receive_by, serving, transmit_by, mode_tick, tick_of}
use Rattle.dg_mote.specs.Adverts.{outline, better_trail, ask_trail, asks, asking, noting, by_ahead, advert_heard, dropped, on_advert, offer}
use Rattle.dg_mote.specs.Requests.{concerns, can_serve, is_served, to_it, on_request, page_request}
use Rattle.dg_mote.specs.Packets.{is_wanted, accepted, seal_by, takes, on_packet, page_packet}
use Rattle.dg_mote.specs.Hears.{source_of, on_message, by_message, heard_of}
use Rattle.dg_mote.specs.Effects.{Effect, boot_by, boots, reset_effect, tick_by, tick_effect, frame_effect}
use Rattle.dg_mote.specs.Speaking.{OrderFits, ServerFits, Speaks, TurnSpeaks, EffectSpeaks}
use Rattle.dg_mote.specs.declared.mote.Did.{Did}
use Rattle.dg_mote.specs.declared.mote.Did.TheVariants.{Sent, Idle, Restart}
use Rattle.dg_mote.specs.declared.mote.Heard.{Heard}
use Rattle.dg_mote.proofs.ReadLemmas.{IsWellRead, well_read}
use Rattle.dg_mote.proofs.WideLemmas.{names_few, names_many, narrow_order}
use Rattle.dg_mote.proofs.AdvertLemmas.{is_ahead}
use Rattle.dg_mote.proofs.KeepLemmas.{through_then}

abbrev pub TellsOrder : Store → Type 0
TellsOrder s = OrderFits s.order

-- ---- trails

pub tells_clear : (s : Store) → TellsOrder s → Through TellsOrder (clear_trail s)
tells_clear s o = Through-stepping TellsOrder s (commit_operations s.room) (gesture_cleared s) o o

tells_drop : (kept : Option Held) (s : Store) (i : ℕ) → TellsOrder s → Through TellsOrder (drop_by kept s i)
tells_drop None s i o = Through-resting TellsOrder s 0 o
tells_drop (Some h) s i o = Through-stepping TellsOrder s (commit_operations s.room) (keeping i None (spent s)) o o

tells_open : (s : Store) (p : Outline) → TellsOrder s → Through TellsOrder (open_trail s p)
tells_open s p o =
    let next = keeping p.image (Some (held_begun p)) (spent s) in
    Through-joined TellsOrder (resting s 2) (committing s next) (Through-resting TellsOrder s 2 o) (Through-stepping TellsOrder s (commit_operations s.room) next o o)

tells_take : (s : Store) (p : Outline) → TellsOrder s → Through TellsOrder (take_trail s p)
unfolding take_trail drop_trail
tells_take s p o =
    let t = drop_by (held s p.image) s p.image in
    let first = tells_drop (held s p.image) s p.image o in
    Through-joined TellsOrder t (open_trail (last t) p) first (tells_open (last t) p (Through-last TellsOrder t first))

tells_ask : (s : Store) (i : ℕ) (e : Entry) → TellsOrder s → Through TellsOrder (ask_trail s i e)
unfolding ask_trail
tells_ask s i e o =
    let t = take_trail s (outline i e) in
    let way = tells_take s (outline i e) o in
    cond_both (is_version (held s i) e.version) (resting s 1) (joined t (resting (last t) 1)) (Through TellsOrder)
    (λ _. Through-resting TellsOrder s 1 o)
    (λ _. Through-joined TellsOrder t (resting (last t) 1) way (Through-resting TellsOrder (last t) 1 (Through-last TellsOrder t way)))

-- an order that is kept is one that was read
pub tells_better : (s : Store) (order : Order) → OrderFits order → TellsOrder s → Through TellsOrder (better_trail s order)
unfolding better_trail
tells_better s order fits o =
    cond_both (nat_lt s.order.number order.number && nat_le 1 s.room) _ _ (Through TellsOrder)
    (λ _. Through-stepping TellsOrder s (commit_operations s.room) (ordered s order) o fits) (λ _. Through-resting TellsOrder s 0 o)

pub tells_boot : (k : StartCause) (s : Store) → Boots s (boot k s) → TellsOrder s → Through TellsOrder (boot k s).trail
tells_boot k s b o = through_then (OnTheWay s (boot k s).runs) TellsOrder (λ t way. subst OrderFits (sym way.order) o) (boot k s).trail b.way

-- ---- steps

-- a mode names a server that fits into a frame, and an image that the mote's frames can name, if any
abbrev pub ModeFits : (wide : Bool) → Mode → Type 0
ModeFits wide mode = ServerFits mode × NamesKnown wide mode

pub record Says {A : Type 0} (before : MoteState) (step : MoteStep A) : Type 0 where
  pub way : Through TellsOrder step.trail
  pub id_is : step.mote.id ≡ before.id
  pub wide_is : step.mote.wide ≡ before.wide
  pub mode : ModeFits before.wide step.mote.mode

pub turn_speaks : {A : Type 0} (before : MoteState) (step : MoteStep A) → before.id < 2 ^ 16 → Says before step → TurnSpeaks before.id before.wide step
turn_speaks before step small says =
    record {
      way = says.way;
      id_is = says.id_is;
      wide_is = says.wide_is;
      mote = record {
        id = subst (λ n. n < 2 ^ 16) (sym says.id_is) small;
        server = says.mode.0;
        known = subst (λ w. NamesKnown w step.mote.mode) (sym says.wide_is) says.mode.1;
        order = Through-last TellsOrder step.trail says.way;
      };
    }

rests : {A : Type 0} (m : MoteState) (s : Store) (n : ℕ) (sent : Option Message) (answer : A) → TellsOrder s → ModeFits m.wide m.mode → Says m (record { mote = m; trail = resting s n; sent = sent; answer = answer })
rests m s n sent answer o server = record { way = Through-resting TellsOrder s n o; id_is = refl; wide_is = refl; mode = server }

-- another mode, or other windows
rests_as : {A : Type 0} (before m : MoteState) (s : Store) (n : ℕ) (sent : Option Message) (answer : A) → (m.id ≡ before.id) × (m.wide ≡ before.wide) → TellsOrder s → ModeFits before.wide m.mode
    → Says before (record { mote = m; trail = resting s n; sent = sent; answer = answer })
rests_as before m s n sent answer same o server = record { way = Through-resting TellsOrder s n o; id_is = same.0; wide_is = same.1; mode = server }

-- ---- ticks

maintain_says : (a : Act) (before m : MoteState) (s : Store) → (m.id ≡ before.id) × (m.wide ≡ before.wide) → TellsOrder s → ModeFits before.wide m.mode → Says before (maintain_by a m s)
maintain_says act.Send before m s same o server = rests_as before m s 0 _ _ same o server
maintain_says act.Quiet before m s same o server = rests_as before m s 0 None _ same o server
maintain_says act.Expired before m s same o server = rests_as before m s 0 None _ same o server
maintain_says act.Nothing before m s same o server = rests_as before m s 0 None _ same o server

receive_says : (a : Ask) (m : MoteState) (r : Receiving) (s : Store) (now word : ℕ) → TellsOrder s → ModeFits m.wide m.mode → ModeFits m.wide (Receive r) → Says m (receive_by a m r s now word)
receive_says (ask.Request want) m r s now word o own server = rests_as m (record m { mode = Receive (asked r now) }) s 0 _ _ (refl, refl) o server
receive_says ask.GiveUp m r s now word o own server = rests_as m (maintains m now word) s 0 None _ (refl, refl) o (tt, tt)
receive_says ask.Wait m r s now word o own server = rests m s 0 None _ o own

serving_says : (m : MoteState) (t : Sending) (now word : ℕ) → ModeFits m.wide (Transmit t) → (((serving m t now word).id ≡ m.id) × ((serving m t now word).wide ≡ m.wide)) × ModeFits m.wide (serving m t now word).mode
serving_says m t now word fits =
    let owed = after_next t.owed now in
    cond_both (set.len owed.left == 0) (maintains m now word) (record m { mode = Transmit (record t { owed = owed }) }) (λ (x : MoteState). ((x.id ≡ m.id) × (x.wide ≡ m.wide)) × ModeFits m.wide x.mode)
    (λ _. ((refl, refl), (tt, tt))) (λ _. ((refl, refl), fits))

transmit_says : (a : Serve) (m : MoteState) (t : Sending) (s : Store) (now word : ℕ) → TellsOrder s → ModeFits m.wide m.mode → ModeFits m.wide (Transmit t) → Says m (transmit_by a m t s now word)
transmit_says (serve.Send q) m t s now word o own fits = let k = serving_says m t now word fits in rests_as m (serving m t now word) s 0 _ _ k.0 o k.1
transmit_says serve.Done m t s now word o own fits = rests m s 0 None _ o own
transmit_says serve.Wait m t s now word o own fits = rests m s 0 None _ o own

mode_says : (mode : Mode) (m : MoteState) (s : Store) (now word : ℕ) → TellsOrder s → ModeFits m.wide m.mode → ModeFits m.wide mode → Says m (mode_tick mode m s now word)
mode_says (Maintain timer) m s now word o own server =
    cond_both (order_waits s) _ _ (λ (x : MoteStep Did). Says m x) (λ _. rests m s 0 None _ o own)
    (λ _. maintain_says (act_of timer now) m (record m { mode = Maintain (after_tick timer now word) }) s (refl, refl) o (tt, tt))
mode_says (Receive r) m s now word o own server = receive_says (ask_of (reception r) now) m r s now word o own server
mode_says (Transmit t) m s now word o own server = transmit_says (serve_of t.owed now) m t s now word o own server

pub tick_says : (m : MoteState) (s : Store) (now word : ℕ) → TellsOrder s → ModeFits m.wide m.mode → Says m (tick_of m s now word)
unfolding tick_of
tick_says m s now word o own =
    cond_both (clears m s now) _ _ (λ (x : MoteStep Did). Says m x) (λ _. record { way = tells_clear s o; id_is = refl; wide_is = refl; mode = own }) (λ _. mode_says m.mode m s now word o own own)

-- ---- frames

noting_says : (own : Bool) (m : MoteState) (timer : Timer) (s : Store) (now word : ℕ) → TellsOrder s → Says m (noting m timer s now word own)
noting_says true m timer s now word o = rests_as m (record m { mode = Maintain (after_same timer) }) s 0 None _ (refl, refl) o (tt, tt)
noting_says false m timer s now word o = rests_as m (record m { mode = Maintain (after_other timer now word) }) s 0 None _ (refl, refl) o (tt, tt)

ahead_says : (x : Option ℕ) (m : MoteState) (timer : Timer) (s : Store) (now word source : ℕ) (entries : List Entry) (own : Bool) → source < 2 ^ 16 → length entries ≤ known_images m.wide → ahead_in entries s ≡ x → TellsOrder s
    → Says m (by_ahead x m s now word (offer source entries) (noting m timer s now word own))
ahead_says None m timer s now word source entries own small few is o = noting_says own m timer s now word o
ahead_says (Some i) m timer s now word source entries own small few is o =
    let a = is_ahead entries s i is in
    cond_both (asks m s now i (entry_for entries i)) (asking m s now word source i (entry_for entries i)) (noting m timer s now word own) (λ (x : MoteStep Heard). Says m x)
    (λ _. record { way = tells_ask s i (entry_for entries i) o; id_is = refl; wide_is = refl; mode = (small, (a.low, omega (arith, a.high, few))) })
    (λ _. noting_says own m timer s now word o)

advert_says : (mode : Mode) (m : MoteState) (s : Store) (now word source : ℕ) (entries : List Entry) (order : Order) → source < 2 ^ 16 → length entries ≤ known_images m.wide → OrderFits order → TellsOrder s → ModeFits m.wide m.mode → Says m (on_advert mode m s now word (offer source entries) order)
unfolding advert_heard
advert_says (Maintain timer) m s now word source entries order small few fits o server =
    let t = better_trail s order in
    let way = tells_better s order fits o in
    let step = ahead_says (ahead_in entries (last t)) m timer (last t) now word source entries (is_own entries order m.wide s) small few refl (Through-last TellsOrder t way) in
    record { way = Through-joined TellsOrder t _ way step.way; id_is = step.id_is; wide_is = step.wide_is; mode = step.mode }
advert_says (Receive r) m s now word source entries order small few fits o server = rests m s 0 None _ o server
advert_says (Transmit t) m s now word source entries order small few fits o server = rests m s 0 None _ o server

to_it_says : (mode : Mode) (m : MoteState) (s : Store) (now image version page : ℕ) (want : Numbers) → (1 ≤ image) × (image ≤ known_images m.wide) → TellsOrder s → ModeFits m.wide m.mode → ModeFits m.wide mode → Says m (to_it mode m s now (page_request image version page want))
to_it_says (Maintain timer) m s now image version page want known o server fits =
    cond_both (can_serve s image version page) _ _ (λ (x : MoteStep Heard). Says m x)
    (λ _. rests_as m (record m { mode = Transmit (record { image = image; version = version; page = page; owed = owed_begun now want }) }) s 0 None _ (refl, refl) o (tt, known)) (λ _. rests m s 0 None _ o server)
to_it_says (Transmit t) m s now image version page want known o server fits =
    cond_both (is_served t image version page) _ _ (λ (x : MoteStep Heard). Says m x)
    (λ _. rests_as m (record m { mode = Transmit (record t { owed = after_merge t.owed want }) }) s 0 None _ (refl, refl) o fits) (λ _. rests m s 0 None _ o server)
to_it_says (Receive r) m s now image version page want known o server fits = rests m s 0 None _ o server

request_says : (m : MoteState) (s : Store) (now to image version page : ℕ) (want : Numbers) → (1 ≤ image) × (image ≤ known_images m.wide) → TellsOrder s → ModeFits m.wide m.mode → Says m (on_request m s now to (page_request image version page want))
request_says m s now to image version page want known o server =
    cond_both (to == m.id) _ _ (λ (x : MoteStep Heard). Says m x) (λ _. to_it_says m.mode m s now image version page want known o server server)
    (λ _. cond_both (concerns s image version page) _ _ (λ (x : MoteStep Heard). Says m x)
    (λ _. rests_as m (record m { noted = with_request m.noted now image }) s 0 None _ (refl, refl) o server) (λ _. rests m s 0 None _ o server))

seal_says : (kept : Option Held) (m : MoteState) (r : Receiving) (s : Store) (now word : ℕ) (page : List ℕ) → TellsOrder s → ModeFits m.wide m.mode → Says m (seal_by kept m r s now word page)
seal_says None m r s now word page o server = rests m s 0 None _ o server
seal_says (Some h) m r s now word page o server =
    cond_both (may_seal r.image h page) _ _ (λ (x : MoteStep Heard). Says m x)
    (λ _. record {
      way = Through-joined TellsOrder (resting s 1) (stepping s 1 (paged r.image page s)) (Through-resting TellsOrder s 1 o) (Through-stepping TellsOrder s 1 (paged r.image page s) o o);
      id_is = refl;
      wide_is = refl;
      mode = (tt, tt);
    })
    (λ _. rests_as m (maintains m now word) s 1 None _ (refl, refl) o (tt, tt))

packet_says : (mode : Mode) (m : MoteState) (s : Store) (now word image version page q : ℕ) (bytes : List ℕ) → TellsOrder s → ModeFits m.wide m.mode → ModeFits m.wide mode → Says m (on_packet mode m s now word (page_packet image version page q bytes))
packet_says (Receive r) m s now word image version page q bytes o own server =
    let a = accepted r now q bytes in
    cond_both (is_wanted r image version page q) (takes m r s now word q bytes) (dropped m s) (λ (x : MoteStep Heard). Says m x)
    (λ _. cond_both (set.len (came a.packets) == packets) _ _ (λ (x : MoteStep Heard). Says m x)
    (λ _. seal_says (held s r.image) m r s now word (page_from a.packets) o own)
    (λ _. rests_as m (record m { mode = Receive a }) s 1 None _ (refl, refl) o server))
    (λ _. rests m s 0 None _ o own)
packet_says (Maintain timer) m s now word image version page q bytes o own server =
    cond_both (concerns s image version page) _ _ (λ (x : MoteStep Heard). Says m x)
    (λ _. rests_as m (record m { noted = with_packet m.noted now image }) s 0 None _ (refl, refl) o own) (λ _. rests m s 0 None _ o own)
packet_says (Transmit t) m s now word image version page q bytes o own server = rests m s 0 None _ o own

message_says : ((wide : Bool) (m : Message) → in_range wide m ≡ true → IsInRange wide m) → (message : Message) (m : MoteState) (s : Store) (now word : ℕ) → IsWellRead m.wide (Ok message) → FitsTypes message → TellsOrder s → ModeFits m.wide m.mode
    → Says m (on_message m s now word message)
message_says ranges (Advert source entries order) m s now word read fits o server =
    let range = ranges m.wide (Advert source entries order) read.0 in
    advert_says m.mode m s now word source entries order fits.0 (names_few m.wide entries read.1) (record { in_range = narrow_order order range.1; number = fits.3; version = fits.4 }) o server
message_says ranges (Request source to image version page want) m s now word read fits o server =
    let range = ranges m.wide (Request source to image version page want) read.0 in
    request_says m s now to image version page want (range.0.first, range.0.last) o server
message_says ranges (Packet source image version page packet bytes) m s now word read fits o server = packet_says m.mode m s now word image version page packet bytes o server server
message_says ranges (Wide source entries order) m s now word read fits o server =
    let range = ranges m.wide (Wide source entries order) read.0 in
    advert_says m.mode m s now word source entries order fits.0 (names_many m.wide entries range.0 read.1) (record { in_range = range.1.1; number = fits.3; version = fits.4 }) o server

-- what was read fits the types
abbrev pub ReadFits : Result Message FrameFault → Type 0
ReadFits r = IfOk r FitsTypes

frame_says : ((wide : Bool) (m : Message) → in_range wide m ≡ true → IsInRange wide m) → (r : Result Message FrameFault) (m : MoteState) (s : Store) (now word : ℕ) → IsWellRead m.wide r → ReadFits r → TellsOrder s → ModeFits m.wide m.mode → Says m (by_message r m s now word)
frame_says ranges (Err cause) m s now word read fits o server = rests m s 0 None _ o server
frame_says ranges (Ok message) m s now word read fits o server =
    cond_both (source_of message == m.id) _ _ (λ (x : MoteStep Heard). Says m x) (λ _. rests m s 0 None _ o server) (λ _. message_says ranges message m s now word read fits o server)

pub heard_says : ((wide : Bool) (m : Message) → in_range wide m ≡ true → IsInRange wide m) → (m : MoteState) (s : Store) (now word : ℕ) (bytes : List ℕ) → ReadFits (message_of bytes m.wide) → TellsOrder s → ModeFits m.wide m.mode → Says m (heard_of m s now word bytes)
unfolding heard_of
heard_says ranges m s now word bytes fits o server = frame_says ranges (message_of bytes m.wide) m s now word (well_read bytes m.wide) fits o server

-- ---- events

boots_by : (o : Option Runs) (t : Trail Store) (id : ℕ) (wide : Bool) (now word : ℕ) → id < 2 ^ 16 → Through TellsOrder t → EffectSpeaks id wide (boot_by o t id wide now word)
boots_by None t id wide now word small way = record { way = way; mote = tt }
boots_by (Some r) t id wide now word small way = record { way = way; mote = (refl, refl, record { id = small; server = tt; known = tt; order = Through-last TellsOrder t way }) }

module _ (ends : (k : StartCause) (s : Store) → Boots s (boot k s)) where
  pub boots_speak : (k : StartCause) (s : Store) (id : ℕ) (wide : Bool) (now word : ℕ) → id < 2 ^ 16 → TellsOrder s → EffectSpeaks id wide (boots k s id wide now word)
  boots_speak k s id wide now word small o = boots_by (boot k s).runs (boot k s).trail id wide now word small (tells_boot k s (ends k s) o)

  pub reset_speaks : (s : Store) (id : ℕ) (wide : Bool) (now word : ℕ) → id < 2 ^ 16 → TellsOrder s → EffectSpeaks id wide (reset_effect s id wide now word)
  unfolding reset_effect
  reset_speaks s id wide now word small o = boots_speak start_cause.Power s id wide now word small o

pub joined_speaks : (id : ℕ) (wide : Bool) (t : Trail Store) (e : Effect) → Through TellsOrder t → e.trail.first ≡ last t → EffectSpeaks id wide e → EffectSpeaks id wide (record e { trail = joined t e.trail })
joined_speaks id wide t e way first speaks =
    record {
      way = Through-joined TellsOrder t e.trail way speaks.way;
      mote = subst (λ (x : Store). IfSome e.mote (λ m. (m.id ≡ id) × (m.wide ≡ wide) × Speaks m x)) (sym (last-joined t e.trail (sym first))) speaks.mote;
    }

begins_by : (o : Option Runs) (t : Trail Store) (id : ℕ) (wide : Bool) (now word : ℕ) → (boot_by o t id wide now word).trail ≡ t
begins_by None t id wide now word = refl
begins_by (Some r) t id wide now word = refl

-- the id and the width by other names
speaks_as : (a b : ℕ) (v w : Bool) (e : Effect) → a ≡ b → v ≡ w → EffectSpeaks a v e → EffectSpeaks b w e
speaks_as a b v w e same alike speaks = subst (λ n. EffectSpeaks n w e) same (subst (λ u. EffectSpeaks a u e) alike speaks)

module _ (ends : (k : StartCause) (s : Store) → Boots s (boot k s)) (begins : (k : StartCause) (s : Store) → BeginsAt s (boot k s).trail) where
  tick_by_speaks : (a : Did) (id : ℕ) (wide : Bool) (step : MoteStep Did) (now word : ℕ) → TurnSpeaks id wide step → EffectSpeaks id wide (tick_by a step now word)
  tick_by_speaks Sent id wide step now word t = record { way = t.way; mote = (t.id_is, t.wide_is, t.mote) }
  tick_by_speaks Idle id wide step now word t = record { way = t.way; mote = (t.id_is, t.wide_is, t.mote) }
  tick_by_speaks Restart id wide step now word t =
      let s = last step.trail in
      let b = boot start_cause.Order s in
      let m = step.mote in
      let e = boots start_cause.Order s m.id m.wide now word in
      joined_speaks id wide step.trail e t.way (ap (λ (x : Trail Store). x.first) (begins_by b.runs b.trail m.id m.wide now word) ∙ (begins start_cause.Order s).first)
      (speaks_as m.id id m.wide wide e t.id_is t.wide_is (boots_speak ends start_cause.Order s m.id m.wide now word t.mote.id t.mote.order))

  pub tick_effect_speaks : (m : MoteState) (s : Store) (now word : ℕ) → TurnSpeaks m.id m.wide (tick_of m s now word) → EffectSpeaks m.id m.wide (tick_effect m s now word)
  unfolding tick_effect
  tick_effect_speaks m s now word t = tick_by_speaks (tick_of m s now word).answer m.id m.wide (tick_of m s now word) now word t

pub frame_effect_speaks : (m : MoteState) (s : Store) (now word : ℕ) (bytes : List ℕ) → TurnSpeaks m.id m.wide (heard_of m s now word bytes) → EffectSpeaks m.id m.wide (frame_effect m s now word bytes)
unfolding frame_effect
frame_effect_speaks m s now word bytes t = record { way = t.way; mote = (t.id_is, t.wide_is, t.mote) }
