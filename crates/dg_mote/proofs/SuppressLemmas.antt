-- A mote that heard an advert equal to its own stays silent in that interval.
use Rattle.std.proofs.Common.{◌≡◌, ◌≢◌, ℕ, ◌+◌, ◌*◌, ◌<◌, ◌≤◌, min, Bool, true, false, ◌&&◌, ◌||◌, cond, List, [], ◌∷◌, Option, Some, None, Result, Ok, Err, find, refl, sym, ap, subst, ◌∙◌, inl, inr, arith}
use Rattle.std.specs.Prelude.{◌==◌, nat_le, nat_lt}
use Rattle.std.specs.List.{list_all}
use Rattle.std.proofs.lemmas.Bool.{cond_both, cases_Bool, cond-false, and_parts, eqb-true, ne_eqb, le-ltb, leb-true, ltb-true}
use Rattle.dg_nor.specs.Trail.{Trail, last, last_of, resting}
use Rattle.dg_nor.proofs.TrailLemmas.{joined_none, last-resting}
use Rattle.dg_trickle.specs.Times.{shortest_interval, longest_interval, redundancy}
use Rattle.dg_trickle.specs.Timer.{Timer}
use Rattle.dg_trickle.specs.Steps.{interval_begun, is_due, is_over, act_of, after_tick, after_same, after_other}
use Rattle.dg_trickle.specs.declared.Act.{Act}
use Rattle.dg_trickle.specs.declared.Act.TheVariants as act
use Rattle.dg_bits.specs.Sets.{Numbers}
use Rattle.dg_control.specs.declared.snapshot.Order.{Order}
use Rattle.dg_slot.specs.Kept.{Held}
use Rattle.dg_volume.specs.Store.{Store, held}
use Rattle.dg_volume.specs.Trails.{order_trail}
use Rattle.dg_volume.specs.Start.{order_waits}
use Rattle.dg_frame.specs.Sizes.{narrow_images}
use Rattle.dg_frame.specs.Ranges.{no_order}
use Rattle.dg_frame.specs.Grammar.{message_of}
use Rattle.dg_frame.specs.declared.Entry.{Entry}
use Rattle.dg_frame.specs.declared.Message.{Message}
use Rattle.dg_frame.specs.declared.Message.TheVariants.{Advert, Request, Packet, Wide}
use Rattle.dg_frame.specs.declared.FrameFault.{FrameFault}
use Rattle.dg_mote.specs.Model.{MoteState, Mode, Maintain, Receive, Transmit, MoteStep}
use Rattle.dg_mote.specs.Summary.{entry_for, entry_by, named, same_entry, same_order, own_order, advert_by, is_own, advertiser_ahead, ahead_in}
use Rattle.dg_mote.specs.Ticks.{clears, maintain_by, mode_tick, tick_of}
use Rattle.dg_mote.specs.Adverts.{better_trail, asks, asking, noting, by_ahead, turn_behind, advert_heard, on_advert, dropped, offer}
use Rattle.dg_mote.specs.Requests.{concerns, can_serve, to_it, page_request}
use Rattle.dg_mote.specs.Packets.{on_packet, page_packet}
use Rattle.dg_mote.specs.Hears.{source_of, on_message, by_message, heard_of}
use Rattle.dg_mote.specs.Rules.{MoteEvent, Ticks, Hears, sent_while, IsSilent, IsInInterval, AllInInterval}
use Rattle.dg_mote.specs.declared.mote.Did.{Did}
use Rattle.dg_mote.specs.declared.mote.Heard.{Heard}
use Rattle.dg_mote.specs.declared.mote.Heard.TheVariants.{Same}
use Rattle.dg_mote.proofs.AdvertLemmas.{some_page, more_pages}

-- ---- frames as their messages

pub read_as : (message : Message) (m : MoteState) (s : Store) (now word : ℕ) (bytes : List ℕ) → message_of bytes m.wide ≡ Ok message → source_of message ≢ m.id → heard_of m s now word bytes ≡ on_message m s now word message
unfolding heard_of
read_as message m s now word bytes e other =
    ap (λ (r : Result Message FrameFault). by_message r m s now word) e
    ∙ cond-false (source_of message == m.id) (dropped m s) (on_message m s now word message) (ne_eqb (source_of message) m.id other)

-- an advert of either kind does the same
pub advert_from : (wide : Bool) (source : ℕ) (entries : List Entry) (order : Order) → source_of (advert_by wide source entries order) ≡ source
advert_from true source entries order = refl
advert_from false source entries order = refl

pub advert_does : (m : MoteState) (s : Store) (now word : ℕ) (wide : Bool) (source : ℕ) (entries : List Entry) (order : Order)
    → on_message m s now word (advert_by wide source entries order) ≡ on_advert m.mode m s now word (offer source entries) order
advert_does m s now word true source entries order = refl
advert_does m s now word false source entries order = refl

-- ---- an advert that equals the mote's own

none_found : {X : Type 0} (p q : X → Bool) (xs : List X) → ((x : X) → q x ≡ true → p x ≡ false) → list_all q xs ≡ true → find p xs ≡ None
none_found p q [] not_both all = refl
none_found p q (x ∷ xs) not_both all =
    let parts = and_parts (q x) (list_all q xs) all in
    cond-false (p x) (Some x) (find p xs) (not_both x parts.0) ∙ none_found p q xs not_both parts.1

same_not_ahead : (e : Entry) (o : Option Held) → same_entry e (entry_by o) ≡ true → advertiser_ahead e o ≡ false
same_not_ahead e o same =
    let k = entry_by o in
    let a = and_parts ((e.version == k.version) && (e.pages == k.pages) && (e.have == k.have)) (e.crc == k.crc) same in
    let b = and_parts ((e.version == k.version) && (e.pages == k.pages)) (e.have == k.have) a.0 in
    let c = and_parts (e.version == k.version) (e.pages == k.pages) b.0 in
    by_kept o (eqb-true e.version k.version c.0) (eqb-true e.have k.have b.1)
  where
    by_kept : (o : Option Held) → e.version ≡ (entry_by o).version → e.have ≡ (entry_by o).have → advertiser_ahead e o ≡ false
    by_kept None version have = elim (cases_Bool (advertiser_ahead e None)) [ inl is ↦ absurd (omega (arith, have, some_page e None is)) | inr not_ahead ↦ not_ahead ]
    by_kept (Some h) version have =
        elim (cases_Bool (advertiser_ahead e (Some h))) [
          | inl is ↦ absurd (omega (arith, have, (more_pages e h is (sym version)).1))
          | inr not_ahead ↦ not_ahead
        ]

-- the order that a mote advertises is not better than the one that it keeps
own_not_better : (wide : Bool) (s : Store) → (own_order wide s).number ≤ s.order.number
unfolding own_order
own_not_better wide s = cond_both (wide || nat_le s.order.image narrow_images) s.order no_order (λ (o : Order). o.number ≤ s.order.number) (λ _. omega arith) (λ _. omega arith)

own_not_ahead : (entries : List Entry) (order : Order) (wide : Bool) (s : Store) → is_own entries order wide s ≡ true → (ahead_in entries s ≡ None) × (order.number ≤ s.order.number)
unfolding is_own ahead_in
own_not_ahead entries order wide s own =
    let told = own_order wide s in
    let parts = and_parts (list_all (λ i. same_entry (entry_for entries i) (entry_by (held s i))) (named entries)) (same_order order told) own in
    let two = and_parts ((order.number == told.number) && (order.image == told.image)) (order.version == told.version) parts.1 in
    let same = eqb-true order.number told.number (and_parts (order.number == told.number) (order.image == told.image) two.0).0 in (
      none_found (λ i. advertiser_ahead (entry_for entries i) (held s i)) (λ i. same_entry (entry_for entries i) (entry_by (held s i))) (named entries) (λ i same. same_not_ahead (entry_for entries i) (held s i) same) parts.0,
      omega (arith, same, own_not_better wide s),
    )

own_order_stays : (s : Store) (order : Order) → order.number ≤ s.order.number → better_trail s order ≡ resting s 0
unfolding better_trail
own_order_stays s order same =
    ap (λ b. cond (b && nat_le 1 s.room) (order_trail s order) (resting s 0)) (le-ltb s.order.number order.number (omega (arith, same)))

-- the empty trail before it changes nothing
behind_none : (s : Store) (m : MoteState) (answer : Heard) → turn_behind (resting s 0) (record { mote = m; trail = resting (last (resting s 0)) 0; sent = None; answer = answer }) ≡ record { mote = m; trail = resting s 0; sent = None; answer = answer }
unfolding last_of
behind_none s m answer = ap (λ (t : Trail Store). record { mote = m; trail = t; sent = None; answer = answer }) (joined_none (resting s 0))

own_heard : (m : MoteState) (timer : Timer) (s : Store) (now word source : ℕ) (entries : List Entry) (order : Order) → is_own entries order m.wide s ≡ true
    → advert_heard m timer s now word (offer source entries) order ≡ record { mote = record m { mode = Maintain (after_same timer) }; trail = resting s 0; sent = None; answer = Same }
unfolding advert_heard
own_heard m timer s now word source entries order own =
    let facts = own_not_ahead entries order m.wide s own in
    ap (λ (t : Trail Store). turn_behind t (by_ahead (ahead_in entries (last t)) m (last t) now word (offer source entries) (noting m timer (last t) now word (is_own entries order m.wide s)))) (own_order_stays s order facts.1)
    ∙ ap (λ o. turn_behind (resting s 0) (by_ahead o m (last (resting s 0)) now word (offer source entries) (noting m timer (last (resting s 0)) now word (is_own entries order m.wide s)))) (ap (ahead_in entries) (last-resting s 0) ∙ facts.0)
    ∙ ap (λ b. turn_behind (resting s 0) (noting m timer (last (resting s 0)) now word b)) own
    ∙ behind_none s (record m { mode = Maintain (after_same timer) }) Same

pub equal_heard : (m : MoteState) (s : Store) (timer : Timer) (now word : ℕ) (bytes : List ℕ) (wide : Bool) (source : ℕ) (entries : List Entry) (order : Order) → message_of bytes m.wide ≡ Ok (advert_by wide source entries order) → source ≢ m.id → m.mode ≡ Maintain timer → is_own entries order m.wide s ≡ true
    → heard_of m s now word bytes ≡ record { mote = record m { mode = Maintain (after_same timer) }; trail = resting s 0; sent = None; answer = Same }
equal_heard m s timer now word bytes wide source entries order e other is own =
    read_as (advert_by wide source entries order) m s now word bytes e (λ same. other (sym (advert_from wide source entries order) ∙ same))
    ∙ advert_does m s now word wide source entries order
    ∙ ap (λ mode. on_advert mode m s now word (offer source entries) order) is
    ∙ own_heard m timer s now word source entries order own

-- ---- the rest of the interval

-- it maintains in the interval, and heard something equal in it
abbrev Suppressed : Timer → Mode → Type 0
Suppressed timer (Maintain t) = (t.begin ≡ timer.begin) × (t.interval ≡ timer.interval) × (1 ≤ t.count)
Suppressed timer (Receive r) = ⊥
Suppressed timer (Transmit t) = ⊥

record StaysQuiet (timer : Timer) (step : MoteStep Did) : Type 0 where
  silent : step.sent ≡ None
  mode : Suppressed timer step.mote.mode

not_over : (t : Timer) (now : ℕ) → now < t.begin + t.interval → is_over t now ≡ true → ⊥
not_over t now early over = omega (arith, early, leb-true (t.begin + t.interval) now (and_parts t.fired (nat_le (t.begin + t.interval) now) over).1)

ticks_on : (timer t : Timer) (now word : ℕ) → Suppressed timer (Maintain t) → now < timer.begin + timer.interval → Suppressed timer (Maintain (after_tick t now word))
ticks_on timer t now word q early =
    cond_both (is_due t now) (record t { fired = true }) _ (λ x. Suppressed timer (Maintain x)) (λ _. q)
    (λ _. cond_both (is_over t now) (interval_begun (min (2 * t.interval) longest_interval) now word) t (λ x. Suppressed timer (Maintain x)) (λ over. absurd (not_over t now (omega (arith, early, q.0, q.1)) over)) (λ _. q))

-- at t it stays silent
no_send : (t : Timer) (now : ℕ) (m : MoteState) (s : Store) → 1 ≤ t.count → (maintain_by (act_of t now) m s).sent ≡ None
no_send t now m s heard =
    let P : Act → Type 0 = λ a. (maintain_by a m s).sent ≡ None in
    cond_both (is_due t now) _ _ P
    (λ _. cond_both (nat_lt t.count redundancy) act.Send act.Quiet P (λ few. absurd (omega (arith, heard, ltb-true t.count redundancy few))) (λ _. refl))
    (λ _. cond_both (is_over t now) act.Expired act.Nothing P (λ _. refl) (λ _. refl))

acts_alike : (a : Act) (m : MoteState) (s : Store) → (maintain_by a m s).mote ≡ m
acts_alike act.Send m s = refl
acts_alike act.Quiet m s = refl
acts_alike act.Expired m s = refl
acts_alike act.Nothing m s = refl

mode_quiet : (timer : Timer) (mode : Mode) (m : MoteState) (s : Store) (now word : ℕ) → Suppressed timer m.mode → Suppressed timer mode → now < timer.begin + timer.interval → StaysQuiet timer (mode_tick mode m s now word)
mode_quiet timer (Maintain t) m s now word own q early =
    let next = record m { mode = Maintain (after_tick t now word) } in
    cond_both (order_waits s) _ _ (StaysQuiet timer) (λ _. record { silent = refl; mode = own })
    (λ _. record {
      silent = no_send t now next s q.2;
      mode = subst (λ (x : MoteState). Suppressed timer x.mode) (sym (acts_alike (act_of t now) next s)) (ticks_on timer t now word q early);
    })
mode_quiet timer (Receive r) m s now word own q early = absurd q
mode_quiet timer (Transmit t) m s now word own q early = absurd q

tick_quiet : (timer : Timer) (m : MoteState) (s : Store) (now word : ℕ) → Suppressed timer m.mode → now < timer.begin + timer.interval → StaysQuiet timer (tick_of m s now word)
unfolding tick_of
tick_quiet timer m s now word q early =
    cond_both (clears m s now) _ _ (StaysQuiet timer) (λ _. record { silent = refl; mode = q }) (λ _. mode_quiet timer m.mode m s now word q q early)

-- a frame that leaves it in the interval leaves it suppressed
abbrev Counts : Timer → MoteStep Heard → Type 0
Counts timer step = IsInInterval timer step.mote.mode → Suppressed timer step.mote.mode

other_counts : (timer t : Timer) (now word : ℕ) → Suppressed timer (Maintain t) → IsInInterval timer (Maintain (after_other t now word)) → Suppressed timer (Maintain (after_other t now word))
other_counts timer t now word q =
    cond_both (nat_lt shortest_interval t.interval) (interval_begun shortest_interval now word) t (λ x. IsInInterval timer (Maintain x) → Suppressed timer (Maintain x))
    (λ longer within. absurd (omega (arith, ltb-true shortest_interval t.interval longer, within.1, q.1)))
    (λ _ _. q)

noting_counts : (timer : Timer) (own : Bool) (m : MoteState) (t : Timer) (s : Store) (now word : ℕ) → Suppressed timer (Maintain t) → Counts timer (noting m t s now word own)
noting_counts timer true m t s now word q within = (within.0, within.1, omega arith)
noting_counts timer false m t s now word q within = other_counts timer t now word q within

ahead_counts : (timer : Timer) (o : Option ℕ) (m : MoteState) (t : Timer) (s : Store) (now word source : ℕ) (entries : List Entry) (own : Bool) → Suppressed timer (Maintain t) → Counts timer (by_ahead o m s now word (offer source entries) (noting m t s now word own))
ahead_counts timer None m t s now word source entries own q = noting_counts timer own m t s now word q
ahead_counts timer (Some i) m t s now word source entries own q =
    cond_both (asks m s now i (entry_for entries i)) (asking m s now word source i (entry_for entries i)) (noting m t s now word own) (Counts timer) (λ _ within. absurd within) (λ _. noting_counts timer own m t s now word q)

advert_counts : (timer : Timer) (mode : Mode) (m : MoteState) (s : Store) (now word source : ℕ) (entries : List Entry) (order : Order) → Suppressed timer mode → Counts timer (on_advert mode m s now word (offer source entries) order)
unfolding advert_heard
advert_counts timer (Maintain t) m s now word source entries order q =
    let u = last (better_trail s order) in ahead_counts timer (ahead_in entries u) m t u now word source entries (is_own entries order m.wide s) q
advert_counts timer (Receive r) m s now word source entries order q = absurd q
advert_counts timer (Transmit t) m s now word source entries order q = absurd q

to_it_counts : (timer : Timer) (mode : Mode) (m : MoteState) (s : Store) (now image version page : ℕ) (want : Numbers) → Suppressed timer m.mode → Suppressed timer mode → Counts timer (to_it mode m s now (page_request image version page want))
to_it_counts timer (Maintain t) m s now image version page want own q = cond_both (can_serve s image version page) _ _ (Counts timer) (λ _ within. absurd within) (λ _ _. own)
to_it_counts timer (Receive r) m s now image version page want own q = absurd q
to_it_counts timer (Transmit t) m s now image version page want own q = absurd q

packet_counts : (timer : Timer) (mode : Mode) (m : MoteState) (s : Store) (now word image version page k : ℕ) (bytes : List ℕ) → Suppressed timer m.mode → Suppressed timer mode → Counts timer (on_packet mode m s now word (page_packet image version page k bytes))
packet_counts timer (Maintain t) m s now word image version page k bytes own q = cond_both (concerns s image version page) _ _ (Counts timer) (λ _ _. own) (λ _ _. own)
packet_counts timer (Receive r) m s now word image version page k bytes own q = absurd q
packet_counts timer (Transmit t) m s now word image version page k bytes own q = absurd q

message_counts : (timer : Timer) (message : Message) (m : MoteState) (s : Store) (now word : ℕ) → Suppressed timer m.mode → Counts timer (on_message m s now word message)
message_counts timer (Advert source entries order) m s now word q = advert_counts timer m.mode m s now word source entries order q
message_counts timer (Request source to image version page want) m s now word q =
    cond_both (to == m.id) _ _ (Counts timer) (λ _. to_it_counts timer m.mode m s now image version page want q q) (λ _. cond_both (concerns s image version page) _ _ (Counts timer) (λ _ _. q) (λ _ _. q))
message_counts timer (Packet source image version page packet bytes) m s now word q = packet_counts timer m.mode m s now word image version page packet bytes q q
message_counts timer (Wide source entries order) m s now word q = advert_counts timer m.mode m s now word source entries order q

frame_counts : (timer : Timer) (r : Result Message FrameFault) (m : MoteState) (s : Store) (now word : ℕ) → Suppressed timer m.mode → Counts timer (by_message r m s now word)
frame_counts timer (Err cause) m s now word q = λ _. q
frame_counts timer (Ok message) m s now word q = cond_both (source_of message == m.id) _ _ (Counts timer) (λ _ _. q) (λ _. message_counts timer message m s now word q)

heard_counts : (timer : Timer) (m : MoteState) (s : Store) (now word : ℕ) (bytes : List ℕ) → Suppressed timer m.mode → Counts timer (heard_of m s now word bytes)
unfolding heard_of
heard_counts timer m s now word bytes q = frame_counts timer (message_of bytes m.wide) m s now word q

silent_in : ((m : MoteState) (s : Store) (now word : ℕ) (bytes : List ℕ) → (heard_of m s now word bytes).sent ≡ None) → (timer : Timer) (events : List MoteEvent) (m : MoteState) (s : Store) → Suppressed timer m.mode → AllInInterval timer events m s → IsSilent (sent_while events m s)
unfolding sent_while AllInInterval
silent_in silent timer [] m s q inside = tt
silent_in silent timer (Ticks now word ∷ rest) m s q inside =
    let step = tick_of m s now word in
    let stays = tick_quiet timer m s now word q inside.0 in
    (stays.silent, silent_in silent timer rest step.mote (last step.trail) stays.mode inside.1)
silent_in silent timer (Hears now word bytes ∷ rest) m s q inside =
    let step = heard_of m s now word bytes in
    (silent m s now word bytes, silent_in silent timer rest step.mote (last step.trail) (heard_counts timer m s now word bytes q inside.0) inside.1)

pub suppressed_in : ((m : MoteState) (s : Store) (now word : ℕ) (bytes : List ℕ) → (heard_of m s now word bytes).sent ≡ None) → (m : MoteState) (s : Store) (timer : Timer) (events : List MoteEvent) → m.mode ≡ Maintain timer → 1 ≤ timer.count → AllInInterval timer events m s → IsSilent (sent_while events m s)
suppressed_in silent m s timer events is heard inside = silent_in silent timer events m s (subst (Suppressed timer) (sym is) (refl, refl, heard)) inside
