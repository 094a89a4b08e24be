-- Packets that are heard: a page fills, and a whole one is sealed.
use Rattle.std.proofs.Common.{◌≡◌, ◌≢◌, ℕ, ◌+◌, ◌<◌, ◌≤◌, Bool, true, false, ◌&&◌, ◌||◌, cond, eqb, ltb, is_some, List, length, Option, Some, None, refl, sym, ap, subst, ◌∙◌, ⊎_elim, arith}
use Rattle.std.specs.Prelude.{◌==◌}
use Rattle.std.specs.FinSet as set
use Rattle.std.specs.Ordering.{nat_cmp}
use Rattle.std.proofs.lemmas.Bool.{cases_eq, eq-eqb, ne_eqb, lt-ltb}
use Rattle.std.proofs.lemmas.List.{get_or-set_other, get_or-set_same}
use Rattle.dg_base.specs.Crc.{crc_of}
use Rattle.dg_nor.specs.Chip.{Touches}
use Rattle.dg_nor.specs.Device.{Device, Ran, Halts}
use Rattle.dg_nor.specs.Trail.{Trail, operations, last, delayed, rest_of, joined, resting, stepping}
use Rattle.dg_nor.proofs.ChipLemmas.{Touches_wider}
use Rattle.dg_nor.proofs.TrailLemmas.{Ran-joined, Halted-joined_second, last-joined, operations-resting, operations-stepping, last-resting, last-stepping, EachWorks-resting, EachWorks-stepping}
use Rattle.dg_bits.proofs.SetLaws.{same_numbers, contains-put}
use Rattle.dg_recv.specs.Reception.{Reception}
use Rattle.dg_recv.specs.Steps.{after_accept}
use Rattle.dg_recv.specs.Times.{next_wait}
use Rattle.dg_trickle.specs.Timer.{Timer}
use Rattle.dg_trickle.specs.Steps.{started}
use Rattle.dg_slot.specs.Layout.{packets, header_sector, slot_end}
use Rattle.dg_slot.specs.Kept.{Held, with_page, KeepsImage, kept_crc}
use Rattle.dg_slot.specs.Fits.{may_seal, first_fits}
use Rattle.dg_slot.specs.Jobs.{Opens, IsOpen, IsJob, Packets, packet, put_packet, page_from, outline_of_slot, slot_of, got_of_job, sector_of, slot_in, Seals}
use Rattle.dg_slot.specs.declared.states.OpenSlot.{OpenSlot}
use Rattle.dg_slot.specs.declared.states.PageJob.{PageJob}
use Rattle.dg_slot.specs.declared.states.Sealing.{Sealing}
use Rattle.dg_slot.specs.declared.states.Sealing.TheVariants as sealing
use Rattle.dg_object.specs.Object.{Outline}
use Rattle.dg_volume.specs.Sizes.{images}
use Rattle.dg_volume.specs.Store.{Store, held, IsNear}
use Rattle.dg_volume.specs.Stands.{Stands, MountedBut, Mounted, NothingLent, is_lent}
use Rattle.dg_volume.specs.Changes.{paged}
use Rattle.dg_volume.specs.Acts.{Acted, Stops}
use Rattle.dg_volume.specs.Trails.{BeginsAt, sealing_trail}
use Rattle.dg_volume.specs.declared.volume.Volume.{Volume}
use Rattle.dg_mote.specs.Model.{MoteState, Mode, Receive, NamesKnown, Receiving, came, reception, maintains, MoteStep}
use Rattle.dg_mote.specs.Adverts.{turn_behind}
use Rattle.dg_mote.specs.Packets.{accepted, seal_by, takes}
use Rattle.dg_mote.specs.Motes.{IsMote, ModeStands, Receives, Done}
use Rattle.dg_mote.specs.Hearing.{Fills, PageIsWhole, is_sealed, page_ends}
use Rattle.dg_mote.specs.declared.mote.Heard.{Heard}
use Rattle.dg_mote.specs.declared.mote.Heard.TheVariants as heard
use Rattle.dg_mote.specs.declared.mote.Mote.{Mote}
use Rattle.dg_mote.specs.declared.mote.Mode.{Mode as ModeValue}
use Rattle.dg_mote.specs.declared.mote.Mode.TheVariants as value
use Rattle.dg_mote.proofs.LentLemmas.{SlotStays, Filling, FillingStops, PageCounts, PageHeld, rest_acted, stops_first}
use Rattle.dg_mote.proofs.ModeLemmas.{mounted_but}
use Rattle.dg_mote.proofs.CameLemmas.{came_has, came_few, came_all}
use Rattle.dg_mote.proofs.ServeLemmas.{chosen, passed}

-- ---- a turn that follows a trail

pub done_behind : (t : Trail Store) (x : MoteStep Heard) (a b c : Device) (v : Mote) (answer : Heard) → last t ≡ x.trail.first → Ran (operations t) a b → Done x b c v answer → Done (turn_behind t x) a c v answer
done_behind t x a b c v answer same ran done = record {
  ran = Ran-joined t x.trail ran done.ran;
  mote = subst (IsMote c.image v x.mote) (sym (last-joined t x.trail same)) done.mote;
  answers = done.answers;
}

pub stops_behind : (t : Trail Store) (x : MoteStep Heard) (a b c : Device) → last t ≡ x.trail.first → Ran (operations t) a b → Stops x.trail b c → Stops (turn_behind t x).trail a c
stops_behind t x a b c same ran stops = Halted-joined_second Stands IsNear t x.trail same ran stops

pub stops_before : (t : Trail Store) (x : MoteStep Heard) (a b : Device) → BeginsAt (last t) x.trail → Stops t a b → Stops (turn_behind t x).trail a b
stops_before t x a b begins stops = stops_first t x.trail a b begins.works (sym begins.first) stops

-- ---- a whole page is sealed

abbrev ended : MoteState → (now word : ℕ) → Trail Store → Heard → MoteStep Heard
ended m now word t answer = record { mote = maintains m now word; trail = t; sent = None; answer = answer }

sealed_is : (m : MoteState) (r : Receiving) (h : Held) (s : Store) (now word : ℕ) (page : List ℕ) → seal_by (Some h) m r s now word page ≡ turn_behind (resting s 1) (page_ends m r h s now word page)
unfolding joined delayed rest_of
sealed_is m r h s now word page = by_fit (may_seal r.image h page)
  where
    by_fit : (fits : Bool) → ◌≡◌ {A = MoteStep Heard} (cond fits (ended m now word (joined (resting s 1) (stepping s 1 (paged r.image page s))) (heard.Sealed r.image r.page)) (ended m now word (resting s 1) (heard.Bad r.image r.page)))
        (turn_behind (resting s 1) (cond fits (ended m now word (stepping s 1 (paged r.image page s)) (heard.Sealed r.image r.page)) (ended m now word (resting s 0) (heard.Bad r.image r.page))))
    by_fit true = refl
    by_fit false = refl

trail_by : (fits : Bool) (x y : MoteStep Heard) → (cond fits x y).trail ≡ cond fits x.trail y.trail
trail_by true x y = refl
trail_by false x y = refl

mote_by : (fits : Bool) (x y : MoteStep Heard) → (cond fits x y).mote ≡ cond fits x.mote y.mote
mote_by true x y = refl
mote_by false x y = refl

answer_by : (fits : Bool) (x y : MoteStep Heard) → (cond fits x y).answer ≡ cond fits x.answer y.answer
answer_by true x y = refl
answer_by false x y = refl

same_by : {A : Type 0} (fits : Bool) (x : A) → cond fits x x ≡ x
same_by true x = refl
same_by false x = refl

pub ends_trail : (m : MoteState) (r : Receiving) (h : Held) (s : Store) (now word : ℕ) (page : List ℕ) → (page_ends m r h s now word page).trail ≡ sealing_trail s r.image h page
ends_trail m r h s now word page = trail_by (may_seal r.image h page) _ _

ends_mote : (m : MoteState) (r : Receiving) (h : Held) (s : Store) (now word : ℕ) (page : List ℕ) → (page_ends m r h s now word page).mote ≡ maintains m now word
ends_mote m r h s now word page = mote_by (may_seal r.image h page) _ _ ∙ same_by (may_seal r.image h page) _

ends_answer : (m : MoteState) (r : Receiving) (h : Held) (s : Store) (now word : ℕ) (page : List ℕ) → (page_ends m r h s now word page).answer ≡ cond (may_seal r.image h page) (heard.Sealed r.image r.page) (heard.Bad r.image r.page)
ends_answer m r h s now word page = answer_by (may_seal r.image h page) _ _

sealing_begins : (s : Store) (i : ℕ) (h : Held) (page : List ℕ) → BeginsAt s (sealing_trail s i h page)
sealing_begins s i h page = by_fit (may_seal i h page)
  where
    by_fit : (fits : Bool) → BeginsAt s (cond fits (stepping s 1 (paged i page s)) (resting s 0))
    by_fit true = record { first = refl; works = EachWorks-stepping s 1 (paged i page s) (omega arith) }
    by_fit false = record { first = refl; works = EachWorks-resting s 0 }

pub ends_begin : (m : MoteState) (r : Receiving) (h : Held) (s : Store) (now word : ℕ) (page : List ℕ) → BeginsAt s (page_ends m r h s now word page).trail
ends_begin m r h s now word page = subst (BeginsAt s) (sym (ends_trail m r h s now word page)) (sealing_begins s r.image h page)

-- ---- the packet is taken

pub takes_whole : (m : MoteState) (r : Receiving) (h : Held) (s : Store) (now word q : ℕ) (bytes : List ℕ) → held s r.image ≡ Some h → set.len (came (put_packet r.packets q bytes)) ≡ packets
    → takes m r s now word q bytes ≡ turn_behind (resting s 1) (page_ends m r h s now word (page_from (put_packet r.packets q bytes)))
takes_whole m r h s now word q bytes here all =
    let n = set.len (came (put_packet r.packets q bytes)) in
    let page = page_from (put_packet r.packets q bytes) in
    let e : n == packets ≡ true = eq-eqb n packets all in
    chosen (n == packets) _ _ e ∙ ap (λ (o : Option Held). seal_by o m r s now word page) here ∙ sealed_is m r h s now word page

abbrev pub took : MoteState → Receiving → Store → (now q : ℕ) → List ℕ → MoteStep Heard
took m r s now q bytes = record { mote = record m { mode = Receive (accepted r now q bytes) }; trail = resting s 1; sent = None; answer = heard.Took q }

pub takes_part : (m : MoteState) (r : Receiving) (s : Store) (now word q : ℕ) (bytes : List ℕ) → set.len (came (put_packet r.packets q bytes)) < packets → takes m r s now word q bytes ≡ took m r s now q bytes
takes_part m r s now word q bytes less =
    let n = set.len (came (put_packet r.packets q bytes)) in
    let e : n == packets ≡ false = ne_eqb n packets (λ x. omega arith) in
    passed (n == packets) _ _ e

-- it was not programmed: the store stays
pub takes_stopped : (m : MoteState) (r : Receiving) (h : Held) (s : Store) (now word q : ℕ) (bytes : List ℕ) (a b : Device) → held s r.image ≡ Some h → Stops (resting s 1) a b → Stops (takes m r s now word q bytes).trail a b
takes_stopped m r h s now word q bytes a b here stops =
    let ps = put_packet r.packets q bytes in
    let Goal : MoteStep Heard → Type 0 = λ x. Stops x.trail a b in
    ⊎_elim
    (λ all. subst Goal (sym (takes_whole m r h s now word q bytes here all)) (stops_before (resting s 1) (page_ends m r h s now word (page_from ps)) a b (subst (λ (x : Store). BeginsAt x (page_ends m r h s now word (page_from ps)).trail) (sym (last-resting s 1)) (ends_begin m r h s now word (page_from ps))) stops))
    (λ other. subst Goal (sym (takes_part m r s now word q bytes (omega (arith, came_few ps, other)))) stops)
    (cases_eq (set.len (came ps)) packets)

-- with one more
pub came_put : (ps : Packets) (q : ℕ) (bytes : List ℕ) → q < packets → length ps ≡ packets → came (put_packet ps q bytes) ≡ set.insert (came ps) q
came_put ps q bytes known count = same_numbers _ _ (λ k.
    came_has (put_packet ps q bytes) k
    ∙ ⊎_elim (here k) (beside k) (cases_eq k q)
    ∙ ap (λ b. eqb k q || b) (sym (came_has ps k))
    ∙ sym (contains-put (came ps) q k))
  where
    here : (k : ℕ) → k ≡ q → (is_some (packet (put_packet ps q bytes) k) && ltb k packets) ≡ (eqb k q || (is_some (packet ps k) && ltb k packets))
    here k e =
        let first : packet (put_packet ps q bytes) k ≡ Some bytes = ap (packet (put_packet ps q bytes)) e ∙ get_or-set_same ps q (Some bytes) None (omega arith) in
        let less : k < packets = omega arith in
        ap (λ (o : Option (List ℕ)). is_some o && ltb k packets) first ∙ lt-ltb k packets less ∙ sym (ap (λ b. b || (is_some (packet ps k) && ltb k packets)) (eq-eqb k q e))

    beside : (k : ℕ) → k ≢ q → (is_some (packet (put_packet ps q bytes) k) && ltb k packets) ≡ (eqb k q || (is_some (packet ps k) && ltb k packets))
    beside k other =
        ap (λ (o : Option (List ℕ)). is_some o && ltb k packets) (get_or-set_other ps q k (Some bytes) None other)
        ∙ sym (ap (λ b. b || (is_some (packet ps k) && ltb k packets)) (ne_eqb k q other))

-- what is asked for follows
pub accepted_asks : (r : Receiving) (now q : ℕ) (bytes : List ℕ) → q < packets → length r.packets ≡ packets → set.contains (came r.packets) q ≡ false → after_accept (reception r) now q ≡ reception (accepted r now q bytes)
accepted_asks r now q bytes known count missing =
    let Put : set.FinSet nat_cmp → ℕ → Reception = λ got due. record { got = got; tries = r.tries; due = due } in
    let e : after_accept (reception r) now q ≡ Put (set.insert (came r.packets) q) (now + next_wait) = passed (set.contains (came r.packets) q) _ _ missing in
    e ∙ ap (λ g. Put g (now + next_wait)) (sym (came_put r.packets q bytes known count)) ∙ ap (λ d. Put (came (put_packet r.packets q bytes)) d) (sym (ap (λ (x : Reception). x.due) e))

missing_came : (r : Receiving) (c : List ℕ) (job : PageJob) (h : Held) (q : ℕ) → q < packets → IsJob c job h r.packets → set.contains (got_of_job job) q ≡ false → set.contains (came r.packets) q ≡ false
missing_came r c job h q known stands missing = came_has r.packets q ∙ ap (λ b. b && ltb q packets) (sym (stands.got q known) ∙ missing)

-- ---- the slot of a page that is being filled

pub slot_known : (job : PageJob) → (outline_of_slot (slot_of job)).image < images
slot_known job = omega (arith, job.slot.known)

pub record InSlot (c : List ℕ) (v : Volume) (s : Store) (job : PageJob) (r : Receiving) (d : List ℕ) : Type 0 where
  pub known : r.image < images
  pub touches : Touches (header_sector r.image) (slot_end r.image) c d
  pub keeps : (h : Held) → IsOpen c (slot_of job) h → KeepsImage d r.image h
  pub mounted : Mounted d v s

pub in_slot : SlotStays → (c d : List ℕ) (v : Volume) (s : Store) (job : PageJob) (r : Receiving) → Receives c v s job r → Mounted c v s → Touches (sector_of job) (sector_of job + 1) c d → ((h : Held) → IsOpen c (slot_of job) h → IsOpen d (slot_of job) h) → InSlot c v s job r d
in_slot stays c d v s job r receives m touches kept =
    let i = (outline_of_slot (slot_of job)).image in
    let stands = receives.stands in
    let wide : Touches (header_sector i) (slot_end i) c d = Touches_wider (sector_of job) (sector_of job + 1) (header_sector i) (slot_end i) touches (omega arith) (omega (arith, stands.slot.opens.done, stands.more, stands.slot.keeps.header.most)) in
    let here : Touches (header_sector r.image) (slot_end r.image) c d = subst (λ (n : ℕ). Touches (header_sector n) (slot_end n) c d) receives.image wide in
    let known : r.image < images = omega (arith, slot_known job, receives.image) in
    let keeps : (h : Held) → IsOpen c (slot_of job) h → KeepsImage d r.image h = λ h o. subst (λ (n : ℕ). KeepsImage d n h) receives.image (kept h o).keeps in
    record { known = known; touches = here; keeps = keeps; mounted = stays c d v s r.image receives.kept receives.not_golden known receives.held_here here (keeps receives.kept stands.slot) m }

pub put_stops : FillingStops → (a b : Device) (v : Volume) (s : Store) (job : PageJob) (r : Receiving) → Receives a.image v s job r → Mounted a.image v s → InSlot a.image v s job r b.image → Halts 1 0 a b → Stops (resting s 1) a b
put_stops stops a b v s job r receives m inside halts =
    stops 1 0 a b v s r.image receives.kept receives.not_golden inside.known receives.held_here inside.touches (inside.keeps receives.kept receives.stands.slot) (mounted_but a.image v s m) halts

-- ---- by the code's mode

same_receiving : (r t : Receiving) → Receive r ≡ Receive t → r ≡ t
same_receiving r t e = cc

pub record AsksThis (c : List ℕ) (v : Volume) (s : Store) (r : Receiving) (version server : ℕ) (asking : Reception) (job : PageJob) : Type 0 where
  pub asks : asking ≡ reception r
  pub of_server : server ≡ r.server
  pub of_version : version ≡ r.version
  pub receives : Receives c v s job r

pub asks_this : (c : List ℕ) (v : Mote) (m : MoteState) (s : Store) (r : Receiving) (version server : ℕ) (asking : Reception) (job : PageJob) → IsMote c v m s → m.mode ≡ Receive r → v.mode ≡ value.Receive version server asking job → AsksThis c v.volume s r version server asking job
asks_this c v m s r version server asking job is mode code =
    let stands : ModeStands c v.volume s (value.Receive version server asking job) (Receive r) =
    subst (λ (x : ModeValue). ModeStands c v.volume s x (Receive r)) code (subst (λ (x : Mode). ModeStands c v.volume s v.mode x) mode is.mode) in
    record { asks = stands.0; of_server = stands.1; of_version = stands.2; receives = stands.3 }

-- ---- a packet that is programmed

pub record Takes (m : MoteState) (r : Receiving) (s : Store) (now q : ℕ) (bytes : List ℕ) (a b : Device) (v : Mote) : Type 0 where
  pub few : set.len (came (put_packet r.packets q bytes)) < packets
  pub done : Done (took m r s now q bytes) a b v (heard.Took q)

pub took_done : (a b : Device) (v : Mote) (m : MoteState) (s : Store) (r : Receiving) (version server now q : ℕ) (asking new : Reception) (job filled : PageJob) (bytes : List ℕ) → q < packets → NamesKnown m.wide (Receive r) → IsMote a.image v m s → AsksThis a.image v.volume s r version server asking job
    → InSlot a.image v.volume s job r b.image → set.contains (got_of_job job) q ≡ false → new ≡ after_accept asking now q → slot_of filled ≡ slot_of job → ((h : Held) (ps : Packets) → IsJob a.image job h ps → IsJob b.image filled h (put_packet ps q bytes)) → Ran 1 a b → set.len new.got < packets
    → Takes m r s now q bytes a b (record v { mode = value.Receive version server new filled })
took_done a b v m s r version server now q asking new job filled bytes known named is this inside missing accepts same put ran less =
    let receives = this.receives in
    let gone = missing_came r a.image job receives.kept q known receives.stands missing in
    let asks : new ≡ reception (accepted r now q bytes) = accepts ∙ ap (λ (x : Reception). after_accept x now q) this.asks ∙ accepted_asks r now q bytes known receives.stands.count gone in
    let few : set.len (came (put_packet r.packets q bytes)) < packets = subst (λ (x : Reception). set.len x.got < packets) asks less in
    record {
      few = few;
      done = record {
        ran = subst (λ (n : ℕ). Ran n a b) (sym (operations-resting s 1)) ran;
        mote = subst (IsMote b.image (record v { mode = value.Receive version server new filled }) (took m r s now q bytes).mote) (sym (last-resting s 1)) (record {
          id = is.id;
          since = is.since;
          wide = is.wide;
          noted = is.noted;
          mounted = inside.mounted;
          mode = (
            asks,
            this.of_server,
            this.of_version,
            record {
              image = ap (λ (o : OpenSlot). (outline_of_slot o).image) same ∙ receives.image;
              not_golden = receives.not_golden;
              lent = receives.lent;
              others = receives.others;
              kept = receives.kept;
              held_here = receives.held_here;
              version = receives.version;
              next = receives.next;
              stands = put receives.kept r.packets receives.stands;
              missing = few;
            },
          );
          known = named;
        });
        answers = refl;
      };
    }

-- with the last one the page is whole
pub record MadeWhole (b : Device) (v : Mote) (m : MoteState) (s : Store) (r : Receiving) (h : Held) (ps : Packets) : Type 0 where
  pub held_here : held s r.image ≡ Some h
  pub all : set.len (came ps) ≡ packets
  pub whole : PageIsWhole b.image v m s r h ps

pub made_whole : (a b : Device) (v : Mote) (m : MoteState) (s : Store) (r : Receiving) (version server now q : ℕ) (asking new : Reception) (job filled : PageJob) (bytes : List ℕ) → q < packets → IsMote a.image v m s → (this : AsksThis a.image v.volume s r version server asking job)
    → InSlot a.image v.volume s job r b.image → set.contains (got_of_job job) q ≡ false → new ≡ after_accept asking now q → slot_of filled ≡ slot_of job → ((h : Held) (ps : Packets) → IsJob a.image job h ps → IsJob b.image filled h (put_packet ps q bytes)) → packets ≤ set.len new.got
    → MadeWhole b (record v { mode = value.Receive version server new filled }) m s r this.receives.kept (put_packet r.packets q bytes)
made_whole a b v m s r version server now q asking new job filled bytes known is this inside missing accepts same put more =
    let receives = this.receives in
    let ps = put_packet r.packets q bytes in
    let gone = missing_came r a.image job receives.kept q known receives.stands missing in
    let asks : new ≡ reception (accepted r now q bytes) = accepts ∙ ap (λ (x : Reception). after_accept x now q) this.asks ∙ accepted_asks r now q bytes known receives.stands.count gone in
    let many : packets ≤ set.len (came ps) = subst (λ (x : Reception). packets ≤ set.len x.got) asks more in
    let all : set.len (came ps) ≡ packets = omega (arith, many, came_few ps) in
    record {
      held_here = receives.held_here;
      all = all;
      whole = record {
        id = is.id;
        since = is.since;
        wide = is.wide;
        noted = is.noted;
        mounted = inside.mounted;
        code = (
          version,
          server,
          new,
          filled,
          refl,
          record {
            not_golden = receives.not_golden;
            of_image = ap (λ (o : OpenSlot). (outline_of_slot o).image) same ∙ receives.image;
            held_here = receives.held_here;
            stands = put receives.kept r.packets receives.stands;
          },
        );
        lent = receives.lent;
        others = receives.others;
        next = receives.next;
        all = λ k less. let x = came_all ps all k less in ap is_some x.1;
      };
    }

-- ---- the slot is returned

pub whole_fills : (c : List ℕ) (v : Mote) (m : MoteState) (s : Store) (r : Receiving) (h : Held) (ps : Packets) (version server : ℕ) (asking : Reception) (job : PageJob) → PageIsWhole c v m s r h ps → v.mode ≡ value.Receive version server asking job → Fills c s r.image job h ps
whole_fills c v m s r h ps version server asking job whole code =
    let x = whole.code in
    let here = x.4 in
    let e : x.3 ≡ job = cc in
    subst (λ (j : PageJob). Fills c s r.image j h ps) e x.5

unfit_by : (page : List ℕ) (i found kept : ℕ) (h : Held) → kept ≡ kept_crc h → found ≡ crc_of page → (found ≡ kept → ⊥) → may_seal i h page ≡ false
unfolding may_seal
unfit_by page i found kept h is other differ = ap (λ b. b && first_fits i h page (length h.complete)) (ne_eqb (crc_of page) (kept_crc h) (λ e. differ (other ∙ e ∙ sym is)))

pub record Sealed (s : Store) (i : ℕ) (h : Held) (page : List ℕ) (a b : Device) (w : Volume) (fits : Bool) : Type 0 where
  pub fits_is : fits ≡ may_seal i h page
  pub acted : Acted (sealing_trail s i h page) a b w

unsealed : Filling → (o : OpenSlot) (a b : Device) (v w : Volume) (s : Store) (i : ℕ) (job : PageJob) (h : Held) (ps : Packets) → Mounted a.image v s → Fills a.image s i job h ps → Touches (header_sector i) (slot_end i) a.image b.image → outline_of_slot o ≡ outline_of_slot (slot_of job)
    → may_seal i h (page_from ps) ≡ false → IsOpen b.image o h → Ran 0 a b → ((t : Store) (g : Held) → MountedBut (λ j. j ≡ (outline_of_slot o).image) b.image v t → held t (outline_of_slot o).image ≡ Some g → Opens o g → Mounted b.image w t)
    → Sealed s i h (page_from ps) a b w false
unsealed filling o a b v w s i job h ps m fills touches same unfit opened ran back =
    let known : i < images = omega (arith, slot_known job, fills.of_image) in
    let image : (outline_of_slot o).image ≡ i = ap (λ (p : Outline). p.image) same ∙ fills.of_image in
    let keeps : KeepsImage b.image i h = subst (λ (n : ℕ). KeepsImage b.image n h) image opened.keeps in
    let still : MountedBut (λ j. j ≡ i) b.image v s = filling a.image b.image v s i h fills.not_golden known fills.held_here touches keeps (mounted_but a.image v s m) in
    let mounted : Mounted b.image w s = back s h (subst (λ (n : ℕ). MountedBut (λ j. j ≡ n) b.image v s) (sym image) still) (ap (held s) image ∙ fills.held_here) opened.opens in
    record { fits_is = sym unfit; acted = subst (λ (t : Trail Store). Acted t a b w) (sym (passed (may_seal i h (page_from ps)) _ _ unfit)) (rest_acted s 0 a b w mounted ran) }

pub sealed_ends : Filling → PageCounts → PageHeld → (answer : Sealing) (a b : Device) (v w : Volume) (s : Store) (i : ℕ) (job : PageJob) (h : Held) (ps : Packets) → Mounted a.image v s → Fills a.image s i job h ps → Touches (header_sector i) (slot_end i) a.image b.image → outline_of_slot (slot_in answer) ≡ outline_of_slot (slot_of job)
    → Seals i h (page_from ps) a b answer → ((t : Store) (g : Held) → MountedBut (λ j. j ≡ (outline_of_slot (slot_in answer)).image) b.image v t → held t (outline_of_slot (slot_in answer)).image ≡ Some g → Opens (slot_in answer) g → Mounted b.image w t)
    → Sealed s i h (page_from ps) a b w (is_sealed answer)
sealed_ends filling counts held_more (sealing.Sealed o) a b v w s i job h ps m fills touches same seals back =
    let page = page_from ps in
    let known : i < images = omega (arith, slot_known job, fills.of_image) in
    let image : (outline_of_slot o).image ≡ i = ap (λ (p : Outline). p.image) same ∙ fills.of_image in
    let t = paged i page s in
    let keeps : KeepsImage b.image i (with_page h page) = subst (λ (n : ℕ). KeepsImage b.image n (with_page h page)) image seals.1.keeps in
    let but : MountedBut (λ j. j ≡ i) b.image v t = counts a.image b.image v s i h page fills.not_golden known fills.held_here touches keeps (mounted_but a.image v s m) in
    let kept : held t i ≡ Some (with_page h page) = held_more s i h page (omega (arith, m.stands.contains.count)) fills.held_here in
    let mounted : Mounted b.image w t = back t (with_page h page) (subst (λ (n : ℕ). MountedBut (λ j. j ≡ n) b.image v t) (sym image) but) (ap (held t) image ∙ kept) seals.1.opens in
    record {
      fits_is = sym seals.0;
      acted = subst (λ (t : Trail Store). Acted t a b w) (sym (chosen (may_seal i h page) _ _ seals.0)) (record {
        ran = subst (λ (n : ℕ). Ran n a b) (sym (operations-stepping s 1 (paged i page s))) seals.2;
        mounted = subst (Mounted b.image w) (sym (last-stepping s 1 (paged i page s))) mounted;
      });
    }
sealed_ends filling counts held_more (sealing.Bad kept found o) a b v w s i job h ps m fills touches same seals back =
    unsealed filling o a b v w s i job h ps m fills touches same (unfit_by (page_from ps) i found kept h seals.0 seals.1 seals.2) seals.3 seals.4.ran back
sealed_ends filling counts held_more (sealing.Unfit o) a b v w s i job h ps m fills touches same seals back =
    unsealed filling o a b v w s i job h ps m fills touches same seals.1 seals.2 seals.3.ran back

-- ---- how it ends

pub page_done : (a b : Device) (v : Mote) (w : Volume) (m : MoteState) (s : Store) (r : Receiving) (h : Held) (ps : Packets) (now word : ℕ) (trickle : Timer) (fits : Bool) (answer : Heard) → PageIsWhole a.image v m s r h ps → Sealed s r.image h (page_from ps) a b w fits → trickle ≡ started now word
    → is_lent w r.image ≡ false → ((i : ℕ) → i ≢ r.image → is_lent w i ≡ is_lent v.volume i) → answer ≡ cond fits (heard.Sealed r.image r.page) (heard.Bad r.image r.page)
    → Done (page_ends m r h s now word (page_from ps)) a b (record v { volume = w; mode = value.Maintain trickle }) answer
page_done a b v w m s r h ps now word trickle fits answer whole sealed starts back others answers =
    let page = page_from ps in
    let after : Mote = record v { volume = w; mode = value.Maintain trickle } in
    let free : NothingLent w = λ i. ⊎_elim (λ e. ap (is_lent w) e ∙ back) (λ other. others i other ∙ whole.others i other) (cases_eq i r.image) in
    let trail = ends_trail m r h s now word page in
    let t = sealing_trail s r.image h page in
    let mote : IsMote b.image after (maintains m now word) (last t) = record { id = whole.id; since = whole.since; wide = whole.wide; noted = whole.noted; mounted = sealed.acted.mounted; mode = (starts, free); known = tt } in
    record {
      ran = subst (λ (x : Trail Store). Ran (operations x) a b) (sym trail) sealed.acted.ran;
      mote = subst (λ (x : Trail Store). IsMote b.image after (page_ends m r h s now word page).mote (last x)) (sym trail) (subst (λ (x : MoteState). IsMote b.image after x (last t)) (sym (ends_mote m r h s now word page)) mote);
      answers = answers ∙ ap (λ b. cond b (heard.Sealed r.image r.page) (heard.Bad r.image r.page)) sealed.fits_is ∙ sym (ends_answer m r h s now word page);
    }
