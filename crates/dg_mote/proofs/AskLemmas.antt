-- Adverts that are heard: an order is kept, and a page is asked for.
use Rattle.std.proofs.Common.{◌≡◌, ◌≢◌, ℕ, zero, suc, ◌+◌, ◌-◌, ◌<◌, ◌≤◌, Bool, true, false, ◌&&◌, ◌||◌, cond, is_some, List, length, replicate, get_or, Option, Some, None, All, refl, sym, ap, subst, ◌∙◌, ⊎_elim, arith}
use Rattle.std.specs.Prelude.{◌==◌, nat_lt, nat_le}
use Rattle.std.specs.FinSet as set
use Rattle.std.specs.Ordering.{nat_cmp}
use Rattle.std.proofs.lemmas.Bool.{and_parts, false≢true}
use Rattle.std.proofs.Math.ListN.{length-set}
use Rattle.std.proofs.lemmas.List.Elements.{All-get_or}
use Rattle.std.proofs.lemmas.Bool.Decides.{nat_tests}
use Rattle.dg_nor.specs.Chip.{Touches}
use Rattle.dg_nor.specs.Device.{Device, Ran, Halts}
use Rattle.dg_nor.specs.Trail.{Trail, last, last_of, delayed, rest_of, joined, resting}
use Rattle.dg_nor.proofs.ChipLemmas.{Touches_wider}
use Rattle.dg_nor.proofs.DeviceLemmas.{Ran-none}
use Rattle.dg_nor.proofs.TrailLemmas.{last-resting, last-joined, EachWorks-resting, EachWorks-joined, Halted-joined_second}
use Rattle.dg_trickle.specs.Timer.{Timer}
use Rattle.dg_recv.specs.Reception.{Reception}
use Rattle.dg_recv.specs.Steps.{reception_begun}
use Rattle.dg_bits.proofs.SetLaws.{same_numbers, contains-none}
use Rattle.dg_control.specs.declared.snapshot.Order.{Order}
use Rattle.dg_frame.specs.Sizes.{known_images}
use Rattle.dg_frame.specs.Ranges.{unused, EntryInRange, TellsVersion}
use Rattle.dg_quiet.specs.Noted.{may_ask}
use Rattle.dg_frame.specs.declared.Entry.{Entry}
use Rattle.dg_object.specs.Object.{Outline}
use Rattle.dg_slot.specs.Layout.{packets, page_sector, header_sector, slot_end}
use Rattle.dg_slot.specs.Kept.{Held, KeepsImage, held_begun}
use Rattle.dg_slot.specs.Jobs.{IsOpen, IsJob, packet, no_packets, outline_of_slot, done_of_slot, slot_of}
use Rattle.dg_slot.specs.declared.states.OpenSlot.{OpenSlot}
use Rattle.dg_slot.specs.declared.states.PageJob.{PageJob}
use Rattle.dg_volume.specs.Sizes.{images}
use Rattle.dg_volume.specs.Store.{Store, held, IsNear}
use Rattle.dg_volume.specs.Stands.{Stands, Mounted, NothingLent, is_lent}
use Rattle.dg_volume.specs.Changes.{is_version, order_refusal, stale_or_worn, take_refusal}
use Rattle.dg_volume.specs.Ends.{taken}
use Rattle.dg_volume.specs.Acts.{Acted, Stops}
use Rattle.dg_volume.specs.Trails.{BeginsAt, order_trail, take_trail, done_of}
use Rattle.dg_volume.specs.declared.volume.OrderFault.{OrderFault}
use Rattle.dg_volume.specs.declared.volume.OrderFault.TheVariants as order_fault
use Rattle.dg_volume.specs.declared.volume.TakeFault.{TakeFault}
use Rattle.dg_volume.specs.declared.volume.TakeFault.TheVariants as take_fault
use Rattle.dg_volume.specs.declared.volume.Volume.{Volume}
use Rattle.dg_mote.specs.Model.{MoteState, Mode, Maintain, came}
use Rattle.dg_mote.specs.Summary.{no_entry, entry_for, is_own, advertiser_ahead, ahead_in}
use Rattle.dg_mote.specs.Adverts.{outline, better_trail, ask_trail, asks, asking, noting, by_ahead, turn_behind, advert_heard, offer}
use Rattle.dg_mote.specs.Motes.{IsMote, ModeStands, Done}
use Rattle.dg_mote.specs.Hearing.{MayTake, slot_trail, Opened, Begun}
use Rattle.dg_mote.specs.declared.mote.Heard.TheVariants as heard
use Rattle.dg_mote.specs.declared.mote.Mote.{Mote}
use Rattle.dg_mote.specs.declared.mote.Mode.{Mode as ModeValue}
use Rattle.dg_mote.specs.declared.mote.Mode.TheVariants as value
use Rattle.dg_mote.proofs.LentLemmas.{SlotStays, FillingStops, TakeEnds, TakenHeld, TakeBegins, rest_acted, acted_then, stops_first}
use Rattle.dg_mote.proofs.ModeLemmas.{mounted_but}
use Rattle.dg_mote.proofs.BeginLemmas.{resting_begins}
use Rattle.dg_mote.proofs.CameLemmas.{came_has}
use Rattle.dg_mote.proofs.ServeLemmas.{chosen, passed}

-- ---- an order

abbrev pub is_kept_better : Store → Order → Bool
is_kept_better s order = nat_lt s.order.number order.number && nat_le 1 s.room

pub kept_better : (s : Store) (order : Order) → is_kept_better s order ≡ true → better_trail s order ≡ order_trail s order
unfolding better_trail
kept_better s order e = chosen (is_kept_better s order) _ _ e

pub not_kept_better : (s : Store) (order : Order) → is_kept_better s order ≡ false → better_trail s order ≡ resting s 0
unfolding better_trail
not_kept_better s order e = passed (is_kept_better s order) _ _ e

pub order_free : (s : Store) (order : Order) → is_kept_better s order ≡ true → order_refusal s order ≡ None
order_free s order e =
    let better : s.order.number < order.number = grind (arith, nat_tests) in
    let room : 1 ≤ s.room = grind (arith, nat_tests) in
    passed (nat_le order.number s.order.number) _ _ (grind (arith, nat_tests)) ∙ passed (s.room == 0) _ _ (grind (arith, nat_tests))

pub order_stops_alone : (fault : OrderFault) → (fault ≢ order_fault.Stopped → ⊥) → fault ≡ order_fault.Stopped
order_stops_alone order_fault.Stopped none = refl
order_stops_alone (order_fault.Worn room) none = absurd (none (λ e. cc))
order_stops_alone (order_fault.OldOrder kept) none = absurd (none (λ e. cc))

-- ---- a slot that is opened

-- if a slot may be taken, taking it fails only by a stop
pub take_stops_alone : (fault : TakeFault) → (fault ≢ take_fault.Stopped → ⊥) → fault ≡ take_fault.Stopped
take_stops_alone take_fault.Stopped none = refl
take_stops_alone (take_fault.Stale kept) none = absurd (none (λ e. cc))
take_stops_alone take_fault.Reserved none = absurd (none (λ e. cc))
take_stops_alone (take_fault.Worn room) none = absurd (none (λ e. cc))

pub not_both : {A : Type 0} (o : Option A) (x : A) → o ≡ Some x → o ≡ None → ⊥
not_both o x some none = cc

pub record KeepsVersion (s : Store) (i : ℕ) (e : Entry) : Type 0 where
  pub kept : Held
  pub held_here : held s i ≡ Some kept
  pub version : kept.version ≡ e.version
  pub more : length kept.complete < kept.pages

more_by : (h : Held) (e : Entry) → h.version ≡ e.version → advertiser_ahead e (Some h) ≡ true → e.have ≤ e.pages → length h.complete < h.pages
more_by h e same ahead within =
    let n = length h.complete in
    less h.version e.version h.pages e.pages h.crc e.crc n e.have same within ahead
  where
    less : (a b x y u v n k : ℕ) → a ≡ b → k ≤ y → nat_le 1 k && (nat_lt a b || ((b == a) && (y == x) && (v == u) && nat_lt n k)) ≡ true → n < x
    less a b x y u v n k same within t = grind (arith, nat_tests)

keeps_by : (s : Store) (i : ℕ) (e : Entry) (o : Option Held) → held s i ≡ o → is_version o e.version ≡ true → advertiser_ahead e o ≡ true → e.have ≤ e.pages → KeepsVersion s i e
keeps_by s i e None here is ahead within = cc
keeps_by s i e (Some h) here is ahead within =
    let same : h.version ≡ e.version = grind (arith, nat_tests) in
    record { kept = h; held_here = here; version = same; more = more_by h e same ahead within }

pub keeps_version_of : (s : Store) (i : ℕ) (e : Entry) → MayTake s i e → is_version (held s i) e.version ≡ true → KeepsVersion s i e
keeps_version_of s i e may is = keeps_by s i e (held s i) refl is may.ahead may.tells.have

pub opened_kept : (s : Store) (i : ℕ) (e : Entry) (a : Device) (w : Volume) (o : OpenSlot) → MayTake s i e → is_version (held s i) e.version ≡ true → Mounted a.image w s → (outline_of_slot o).image ≡ i → ((h : Held) → held s i ≡ Some h → IsOpen a.image o h)
    → Acted (slot_trail s i e) a a w × Opened a.image (last (slot_trail s i e)) i e o
opened_kept s i e a w o may is m image open_by =
    let keeps = keeps_version_of s i e may is in
    let trail : resting s 0 ≡ slot_trail s i e = sym (chosen (is_version (held s i) e.version) _ _ is) in
    let Both : Trail Store → Type 0 = λ t. Acted t a a w × Opened a.image (last t) i e o in
    subst Both trail (rest_acted s 0 a a w m (Ran-none a), subst (λ (x : Store). Opened a.image x i e o) (sym (last-resting s 0)) (record { of_image = image; kept = keeps.kept; held_here = keeps.held_here; version = keeps.version; more = keeps.more; stands = open_by keeps.kept keeps.held_here }))

taking_by : (s : Store) (i : ℕ) (e : Entry) (o : Option Held) → is_version o e.version ≡ false → advertiser_ahead e o ≡ true → is_version o e.version || nat_le 2 s.room ≡ true → stale_or_worn o e.version s ≡ None
taking_by s i e None none ahead free =
    let room : nat_lt s.room 2 ≡ false = grind (arith, nat_tests) in
    passed (nat_lt s.room 2) _ _ room
taking_by s i e (Some h) none ahead free =
    let room : nat_lt s.room 2 ≡ false = few (h.version == e.version) s.room none free in
    let newer : nat_le e.version h.version ≡ false = later h.version e.version (e.pages == h.pages) (e.crc == h.crc) (nat_lt (length h.complete) e.have) (nat_le 1 e.have) none ahead in
    passed (nat_le e.version h.version) _ _ newer ∙ passed (nat_lt s.room 2) _ _ room
  where
    few : (b : Bool) (n : ℕ) → b ≡ false → b || nat_le 2 n ≡ true → nat_lt n 2 ≡ false
    few b n e t = grind (arith, nat_tests)

    later : (a b : ℕ) (x y z u : Bool) → (a == b) ≡ false → u && (nat_lt a b || ((b == a) && x && y && z)) ≡ true → nat_le b a ≡ false
    later a b x y z u e t = grind (arith, nat_tests)

pub take_free : (s : Store) (i : ℕ) (e : Entry) → MayTake s i e → is_version (held s i) e.version ≡ false → take_refusal s (outline i e) ≡ None
take_free s i e may none =
    let some = may.not_golden in
    passed (i == 0) _ _ (grind (arith, nat_tests)) ∙ taking_by s i e (held s i) none may.ahead may.free

pub opened_taken : TakeEnds → TakenHeld → (s : Store) (i : ℕ) (e : Entry) (a b : Device) (w : Volume) (o : OpenSlot) → MayTake s i e → is_version (held s i) e.version ≡ false → Acted (take_trail s (outline i e)) a b w → outline_of_slot o ≡ outline i e → IsOpen b.image o (held_begun (outline i e))
    → Acted (slot_trail s i e) a b w × Opened b.image (last (slot_trail s i e)) i e o
opened_taken ends begun_held s i e a b w o may none acted same opened =
    let p = outline i e in
    let trail : take_trail s p ≡ slot_trail s i e = sym (passed (is_version (held s i) e.version) _ _ none) in
    let Both : Trail Store → Type 0 = λ t. Acted t a b w × Opened b.image (last t) i e o in
    let count : length (taken s p).kept ≡ images = subst (λ (x : Store). length x.kept ≡ images) (ends s p) acted.mounted.stands.contains.count in
    let kept : length s.kept ≡ images = sym (length-set s.kept i (Some (held_begun p))) ∙ count in
    let here : held (last (take_trail s p)) i ≡ Some (held_begun p) = ap (λ (x : Store). held x i) (ends s p) ∙ begun_held s p (omega (arith, kept, may.known)) in
    subst Both trail (acted, record { of_image = ap (λ (x : Outline). x.image) same; kept = held_begun p; held_here = here; version = refl; more = omega (arith, may.tells.pages); stands = opened })

pub taken_stops : (s : Store) (i : ℕ) (e : Entry) (a b : Device) → is_version (held s i) e.version ≡ false → Stops (take_trail s (outline i e)) a b → Stops (slot_trail s i e) a b
taken_stops s i e a b none stops = subst (λ (t : Trail Store). Stops t a b) (sym (passed (is_version (held s i) e.version) _ _ none)) stops

-- ---- the next page is begun

pub ask_is : (s : Store) (i : ℕ) (e : Entry) → ask_trail s i e ≡ joined (slot_trail s i e) (resting (last (slot_trail s i e)) 1)
unfolding ask_trail joined delayed rest_of last_of
ask_is s i e = by_version (is_version (held s i) e.version)
  where
    by_version : (b : Bool) → cond b (resting s 1) (joined (take_trail s (outline i e)) (resting (last (take_trail s (outline i e))) 1)) ≡ joined (cond b (resting s 0) (take_trail s (outline i e))) (resting (last (cond b (resting s 0) (take_trail s (outline i e)))) 1)
    by_version true = refl
    by_version false = refl

pub ask_stops_first : (s : Store) (i : ℕ) (e : Entry) (a b : Device) → Stops (slot_trail s i e) a b → Stops (ask_trail s i e) a b
ask_stops_first s i e a b stops =
    let t = slot_trail s i e in
    subst (λ (x : Trail Store). Stops x a b) (sym (ask_is s i e)) (stops_first t (resting (last t) 1) a b (EachWorks-resting (last t) 1) refl stops)

-- what an erase of the next page leaves
pub record PageErased (c d : List ℕ) (o : OpenSlot) : Type 0 where
  pub touches : let k = page_sector (outline_of_slot o).image (done_of_slot o) in Touches k (k + 1) c d
  pub kept : (h : Held) → IsOpen c o h → IsOpen d o h

pub record Erased (c d : List ℕ) (w : Volume) (x : Store) (i : ℕ) (h : Held) : Type 0 where
  pub touches : Touches (header_sector i) (slot_end i) c d
  pub keeps : KeepsImage d i h
  pub mounted : Mounted d w x

pub erased_in : SlotStays → (c d : List ℕ) (w : Volume) (x : Store) (i : ℕ) (e : Entry) (o : OpenSlot) → 1 ≤ i → i < images → (opened : Opened c x i e o) → Mounted c w x → PageErased c d o → Erased c d w x i opened.kept
erased_in stays c d w x i e o low known opened m erased =
    let h = opened.kept in
    let j = (outline_of_slot o).image in
    let k = page_sector j (done_of_slot o) in
    let wide : Touches (header_sector j) (slot_end j) c d = Touches_wider k (k + 1) (header_sector j) (slot_end j) erased.touches (omega arith) (omega (arith, opened.stands.opens.done, opened.more, opened.stands.keeps.header.most)) in
    let touches : Touches (header_sector i) (slot_end i) c d = subst (λ (n : ℕ). Touches (header_sector n) (slot_end n) c d) opened.of_image wide in
    let keeps : KeepsImage d i h = subst (λ (n : ℕ). KeepsImage d n h) opened.of_image (erased.kept h opened.stands).keeps in
    record { touches = touches; keeps = keeps; mounted = stays c d w x i h low known opened.held_here touches keeps m }

pub ask_begun : SlotStays → (s : Store) (i : ℕ) (e : Entry) (a b d : Device) (w : Volume) (o : OpenSlot) (job : PageJob) → MayTake s i e → Acted (slot_trail s i e) a b w → (opened : Opened b.image (last (slot_trail s i e)) i e o) → PageErased b.image d.image o → Ran 1 b d → slot_of job ≡ o
    → ((h : Held) → IsOpen b.image o h → IsJob d.image job h no_packets) → Acted (ask_trail s i e) a d w × Begun d.image (last (ask_trail s i e)) i e job
ask_begun stays s i e a b d w o job may acted opened erased ran same begins =
    let t = slot_trail s i e in
    let x = last t in
    let inside = erased_in stays b.image d.image w x i e o may.not_golden may.known opened acted.mounted erased in
    let whole : Acted (joined t (resting x 1)) a d w = acted_then t (resting x 1) a b d w w refl acted (rest_acted x 1 b d w inside.mounted ran) in
    let ends : last (joined t (resting x 1)) ≡ x = last-joined t (resting x 1) refl ∙ last-resting x 1 in
    let begun_here : Begun d.image x i e job = record { of_image = ap (λ (p : OpenSlot). (outline_of_slot p).image) same ∙ opened.of_image; kept = opened.kept; held_here = opened.held_here; version = opened.version; stands = begins opened.kept opened.stands } in
    subst (λ (u : Trail Store). Acted u a d w × Begun d.image (last u) i e job) (sym (ask_is s i e)) (whole, subst (λ (y : Store). Begun d.image y i e job) (sym ends) begun_here)

pub ask_stops_then : SlotStays → FillingStops → (s : Store) (i : ℕ) (e : Entry) (a b d : Device) (w : Volume) (o : OpenSlot) → MayTake s i e → Acted (slot_trail s i e) a b w → Opened b.image (last (slot_trail s i e)) i e o → PageErased b.image d.image o → Halts 1 0 b d → Stops (ask_trail s i e) a d
ask_stops_then stays stops_by s i e a b d w o may acted opened erased halts =
    let t = slot_trail s i e in
    let x = last t in
    let inside = erased_in stays b.image d.image w x i e o may.not_golden may.known opened acted.mounted erased in
    let stops : Stops (resting x 1) b d = stops_by 1 0 b d w x i opened.kept may.not_golden may.known opened.held_here inside.touches inside.keeps (mounted_but b.image w x acted.mounted) halts in
    subst (λ (u : Trail Store). Stops u a d) (sym (ask_is s i e)) (Halted-joined_second Stands IsNear t (resting x 1) refl acted.ran stops)

-- ---- the mote asks

none_in : (q : ℕ) → packet no_packets q ≡ None
unfolding no_packets
none_in q = nothing packets q
  where
    nothing : (n q : ℕ) → get_or (replicate {A = Option (List ℕ)} n None) q None ≡ None
    nothing zero q = refl
    nothing (suc n) zero = refl
    nothing (suc n) (suc q) = nothing n q

none_came : came no_packets ≡ set.empty
none_came = same_numbers (came no_packets) set.empty (λ q. came_has no_packets q ∙ ap (λ (o : Option (List ℕ)). is_some o && nat_lt q packets) (none_in q) ∙ sym (contains-none q))

pub maintain_free : (c : List ℕ) (v : Mote) (m : MoteState) (s : Store) (timer : Timer) → IsMote c v m s → m.mode ≡ Maintain timer → NothingLent v.volume
maintain_free c v m s timer is mode = free_by v.mode (subst (λ (y : Mode). ModeStands c v.volume s v.mode y) mode is.mode)
  where
    free_by : (x : ModeValue) → ModeStands c v.volume s x (Maintain timer) → NothingLent v.volume
    free_by (value.Maintain trickle) stands = stands.1
    free_by (value.Receive a b d f) stands = absurd stands
    free_by (value.Transmit a b d f) stands = absurd stands

pub asking_done : (a b : Device) (v : Mote) (w : Volume) (m : MoteState) (s : Store) (timer : Timer) (now word source i page : ℕ) (e : Entry) (asks : Reception) (job : PageJob) → IsMote a.image v m s → m.mode ≡ Maintain timer → MayTake s i e → i ≤ known_images m.wide
    → Acted (ask_trail s i e) a b w → Begun b.image (last (ask_trail s i e)) i e job → is_lent w i ≡ true → ((k : ℕ) → k ≢ i → is_lent w k ≡ is_lent v.volume k) → asks ≡ reception_begun now word → page ≡ done_of_slot (slot_of job)
    → Done (asking m s now word source i e) a b (record v { volume = w; mode = value.Receive e.version source asks job }) (heard.Asks i page)
asking_done a b v w m s timer now word source i page e asks job is mode may high acted started lent others asked pages =
    let t = last (ask_trail s i e) in
    let free = maintain_free a.image v m s timer is mode in
    let done : length started.kept.complete ≡ done_of (held t i) = sym (ap done_of started.held_here) in
    let reception_is : reception_begun now word ≡ record { got = came no_packets; tries = 0; due = (reception_begun now word).due } = ap (λ g. record { got = g; tries = 0; due = (reception_begun now word).due }) (sym none_came) in
    let none : set.len (came no_packets) ≡ 0 = ap set.len none_came ∙ set.len-empty nat_cmp in
    record {
      ran = acted.ran;
      mote = record {
        id = is.id;
        since = is.since;
        wide = is.wide;
        noted = is.noted;
        mounted = acted.mounted;
        mode = (
          asked ∙ reception_is,
          refl,
          refl,
          record {
            image = started.of_image;
            not_golden = may.not_golden;
            lent = lent;
            others = λ k other. others k other ∙ free k;
            kept = started.kept;
            held_here = started.held_here;
            version = started.version;
            next = done;
            stands = started.stands;
            missing = omega (arith, none);
          },
        );
        known = (may.not_golden, high);
      };
      answers = ap (λ (n : ℕ). heard.Asks i n) (pages ∙ started.stands.slot.opens.done ∙ done);
    }

-- ---- whether it asks

idle_entry : (o : Option Held) → advertiser_ahead unused o ≡ false
idle_entry None = refl
idle_entry (Some h) = refl

tells_ahead : (e : Entry) (o : Option Held) → EntryInRange e → advertiser_ahead e o ≡ true → TellsVersion e
tells_ahead e o range ahead = ⊎_elim (λ is. absurd (false≢true (sym (idle_entry o) ∙ ap (λ x. advertiser_ahead x o) (sym is) ∙ ahead))) (λ tells. tells) range

pub may_take : (m : MoteState) (s : Store) (entries : List Entry) (now i : ℕ) (e : Entry) → length entries < images → All EntryInRange entries → 1 ≤ i → i ≤ length entries → e ≡ entry_for entries i → advertiser_ahead (entry_for entries i) (held s i) ≡ true → asks m s now i e ≡ true → MayTake s i e
may_take m s entries now i e count range low high is ahead can =
    let here : advertiser_ahead e (held s i) ≡ true = ap (λ x. advertiser_ahead x (held s i)) is ∙ ahead in
    let fits : EntryInRange e = subst EntryInRange (sym is) (All-get_or EntryInRange entries (i - 1) no_entry (omega (arith, low, high)) range) in
    record { not_golden = low; known = omega (arith, high, count); tells = tells_ahead e (held s i) fits here; ahead = here; free = (and_parts (may_ask m.noted now i) (is_version (held s i) e.version || nat_le 2 s.room) can).1 }

pub follows_none : (m : MoteState) (timer : Timer) (s : Store) (now word source : ℕ) (entries : List Entry) (own : Bool) → ahead_in entries s ≡ None → by_ahead (ahead_in entries s) m s now word (offer source entries) (noting m timer s now word own) ≡ noting m timer s now word own
follows_none m timer s now word source entries own none = ap (λ (o : Option ℕ). by_ahead o m s now word (offer source entries) (noting m timer s now word own)) none

pub follows_noted : (m : MoteState) (timer : Timer) (s : Store) (now word source i : ℕ) (entries : List Entry) (e : Entry) (own : Bool) → ahead_in entries s ≡ Some i → e ≡ entry_for entries i → asks m s now i e ≡ false → by_ahead (ahead_in entries s) m s now word (offer source entries) (noting m timer s now word own) ≡ noting m timer s now word own
follows_noted m timer s now word source i entries e own found is cannot =
    ap (λ (o : Option ℕ). by_ahead o m s now word (offer source entries) (noting m timer s now word own)) found ∙ passed (asks m s now i (entry_for entries i)) _ _ (ap (λ x. asks m s now i x) (sym is) ∙ cannot)

pub follows_asking : (m : MoteState) (timer : Timer) (s : Store) (now word source i : ℕ) (entries : List Entry) (e : Entry) (own : Bool) → ahead_in entries s ≡ Some i → e ≡ entry_for entries i → asks m s now i e ≡ true → by_ahead (ahead_in entries s) m s now word (offer source entries) (noting m timer s now word own) ≡ asking m s now word source i e
follows_asking m timer s now word source i entries e own found is can =
    ap (λ (o : Option ℕ). by_ahead o m s now word (offer source entries) (noting m timer s now word own)) found ∙ chosen (asks m s now i (entry_for entries i)) _ _ (ap (λ x. asks m s now i x) (sym is) ∙ can) ∙ ap (λ x. asking m s now word source i x) (sym is)

-- ---- an advert that is compared

slot_begins : TakeBegins → (s : Store) (i : ℕ) (e : Entry) → BeginsAt s (slot_trail s i e)
slot_begins takes s i e = by_version (is_version (held s i) e.version)
  where
    by_version : (b : Bool) → BeginsAt s (cond b (resting s 0) (take_trail s (outline i e)))
    by_version true = resting_begins s 0
    by_version false = takes s (outline i e)

ask_begins : TakeBegins → (s : Store) (i : ℕ) (e : Entry) → BeginsAt s (ask_trail s i e)
unfolding joined
ask_begins takes s i e =
    let t = slot_trail s i e in
    let first = slot_begins takes s i e in
    subst (BeginsAt s) (sym (ask_is s i e)) (record { first = first.first; works = EachWorks-joined t (resting (last t) 1) first.works (EachWorks-resting (last t) 1) })

noting_begins : (m : MoteState) (timer : Timer) (s : Store) (now word : ℕ) (own : Bool) → BeginsAt s (noting m timer s now word own).trail
noting_begins m timer s now word true = resting_begins s 0
noting_begins m timer s now word false = resting_begins s 0

pub follow_begins : TakeBegins → (o : Option ℕ) (m : MoteState) (timer : Timer) (s : Store) (now word source : ℕ) (entries : List Entry) (own : Bool) → BeginsAt s (by_ahead o m s now word (offer source entries) (noting m timer s now word own)).trail
follow_begins takes None m timer s now word source entries own = noting_begins m timer s now word own
follow_begins takes (Some i) m timer s now word source entries own = by_test (asks m s now i (entry_for entries i))
  where
    by_test : (b : Bool) → BeginsAt s (cond b (asking m s now word source i (entry_for entries i)) (noting m timer s now word own)).trail
    by_test true = ask_begins takes s i (entry_for entries i)
    by_test false = noting_begins m timer s now word own

maintains_still : (c d : List ℕ) (v w : Volume) (s t : Store) (timer : Timer) (x : ModeValue) → NothingLent w → ModeStands c v s x (Maintain timer) → ModeStands d w t x (Maintain timer)
maintains_still c d v w s t timer (value.Maintain trickle) free stands = (stands.0, free)
maintains_still c d v w s t timer (value.Receive a b e f) free stands = absurd stands
maintains_still c d v w s t timer (value.Transmit a b e f) free stands = absurd stands

pub better_mote : (a b : Device) (v : Mote) (w : Volume) (m : MoteState) (s : Store) (timer : Timer) (order : Order) → IsMote a.image v m s → m.mode ≡ Maintain timer → Acted (better_trail s order) a b w → ((i : ℕ) → is_lent w i ≡ is_lent v.volume i) → IsMote b.image (record v { volume = w }) m (last (better_trail s order))
better_mote a b v w m s timer order is mode acted lent =
    let t = last (better_trail s order) in
    let free = maintain_free a.image v m s timer is mode in
    let stands : ModeStands a.image v.volume s v.mode (Maintain timer) = subst (λ (y : Mode). ModeStands a.image v.volume s v.mode y) mode is.mode in
    let still : ModeStands b.image w t v.mode (Maintain timer) = maintains_still a.image b.image v.volume w s t timer v.mode (λ i. lent i ∙ free i) stands in
    record { id = is.id; since = is.since; wide = is.wide; noted = is.noted; mounted = acted.mounted; mode = subst (λ (y : Mode). ModeStands b.image w t v.mode y) (sym mode) still; known = is.known }

-- it is compared with what the mote advertises, by its width
pub said_same : (own : Bool) (entries : List Entry) (order : Order) (wide : Bool) (m : MoteState) (s : Store) → wide ≡ m.wide → own ≡ is_own entries order wide s → own ≡ is_own entries order m.wide s
said_same own entries order wide m s alike e = e ∙ ap (λ w. is_own entries order w s) alike

pub advert_is : (m : MoteState) (timer : Timer) (s : Store) (now word source : ℕ) (entries : List Entry) (order : Order) (own : Bool) → own ≡ is_own entries order m.wide s
    → advert_heard m timer s now word (offer source entries) order ≡ turn_behind (better_trail s order) (by_ahead (ahead_in entries (last (better_trail s order))) m (last (better_trail s order)) now word (offer source entries) (noting m timer (last (better_trail s order)) now word own))
unfolding advert_heard
advert_is m timer s now word source entries order own e =
    let t = better_trail s order in
    ap (λ (b : Bool). turn_behind t (by_ahead (ahead_in entries (last t)) m (last t) now word (offer source entries) (noting m timer (last t) now word b))) (sym e)
