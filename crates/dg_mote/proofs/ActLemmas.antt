-- What a mote that does not clear its short starts does, by its mode.
use Rattle.std.proofs.Common.{◌≡◌, ◌≢◌, ◌⊎◌, ℕ, Bool, true, false, cond, List, Option, Some, None, refl, sym, ap, subst, ◌∙◌, inl, ⊎_elim, arith}
use Rattle.std.proofs.lemmas.Bool.Decides.{nat_tests}
use Rattle.std.specs.Prelude.{◌==◌, nat_le, nat_lt}
use Rattle.std.specs.FinSet as set
use Rattle.dg_nor.specs.Device.{Device, Ran, Halted}
use Rattle.dg_nor.specs.Trail.{Trail, operations, last, resting, MayLeave, LeavesFrom}
use Rattle.dg_nor.specs.Reads.{Looked, ReadStopped}
use Rattle.dg_nor.proofs.DeviceLemmas.{Halted_once}
use Rattle.dg_nor.proofs.TrailLemmas.{operations-resting, last-resting}
use Rattle.dg_bits.specs.Sets.{Numbers, least}
use Rattle.dg_recv.specs.Reception.{Reception}
use Rattle.dg_recv.specs.Steps.{ask_of, after_ask}
use Rattle.dg_recv.specs.declared.Ask.{Ask}
use Rattle.dg_recv.specs.declared.Ask.TheVariants as ask
use Rattle.dg_recv.specs.Times.{most_requests}
use Rattle.dg_send.specs.Owed.{Owed}
use Rattle.dg_send.specs.Steps.{serve_by, serve_of, next_by, after_next}
use Rattle.dg_send.specs.declared.Serve.{Serve}
use Rattle.dg_send.specs.declared.Serve.TheVariants as serve
use Rattle.dg_slot.specs.declared.states.PageJob.{PageJob}
use Rattle.dg_volume.specs.Store.{Store, IsNear}
use Rattle.dg_volume.specs.Stands.{Stands}
use Rattle.dg_volume.specs.Acts.{Stops}
use Rattle.dg_volume.specs.declared.volume.Volume.{Volume}
use Rattle.dg_frame.specs.declared.Message.{Message}
use Rattle.dg_mote.specs.Model.{MoteState, Mode, Receive, Transmit, NamesKnown, Receiving, Sending, reception, maintains, MoteStep}
use Rattle.dg_mote.specs.Ticks.{idle, asked, receive_by, serving, transmit_by, mode_tick}
use Rattle.dg_mote.specs.Motes.{IsMote, ModeStands, Receives, Transmits, Done}
use Rattle.dg_mote.specs.declared.mote.Did.{Did}
use Rattle.dg_mote.specs.declared.mote.Mote.{Mote}
use Rattle.dg_mote.specs.declared.mote.Mode.{Mode as ModeValue}
use Rattle.dg_mote.specs.declared.mote.Mode.TheVariants as value

-- ---- steps that leave the chip unchanged

pub rests_done : (t : MoteStep Did) (old new : Device) (v : Mote) (n : MoteState) (s : Store) (did : Did) → t.mote ≡ n → t.trail ≡ resting s 0 → did ≡ t.answer → Looked old new → IsMote new.image v n s → Done t old new v did
rests_done t old new v n s did mote trail answer looked is = record {
  ran = subst (λ (x : Trail Store). Ran (operations x) old new) (sym trail) (subst (λ (k : ℕ). Ran k old new) (sym (operations-resting s 0)) looked.ran);
  mote = subst (λ (x : MoteState). IsMote new.image v x (last t.trail)) (sym mote)
      (subst (λ (x : Trail Store). IsMote new.image v n (last x)) (sym trail) (subst (IsMote new.image v n) (sym (last-resting s 0)) is));
  answers = answer;
}

-- a mote with another mode, over the same bytes
pub with_mode : (c d : List ℕ) (v : Mote) (m : MoteState) (s : Store) (x : ModeValue) (mode : Mode) → d ≡ c → IsMote c v m s → ModeStands c v.volume s x mode → NamesKnown m.wide mode → IsMote d (record v { mode = x }) (record m { mode = mode }) s
with_mode c d v m s x mode same is stands known =
    subst (λ (b : List ℕ). IsMote b (record v { mode = x }) (record m { mode = mode }) s) (sym same)
    (record { id = is.id; since = is.since; wide = is.wide; noted = is.noted; mounted = is.mounted; mode = stands; known = known })

-- ---- it asks for packets

pub receive_turn : (m : MoteState) (s : Store) (r : Receiving) (asking : Reception) (x : Ask) (now word : ℕ) → m.mode ≡ Receive r → asking ≡ reception r → x ≡ ask_of asking now → mode_tick m.mode m s now word ≡ receive_by x m r s now word
receive_turn m s r asking x now word is asks e =
    ap (λ (mode : Mode). mode_tick mode m s now word) is ∙ ap (λ (a : Ask). receive_by a m r s now word) (sym (e ∙ ap (λ (a : Reception). ask_of a now) asks))

got_by : (x y : Bool) (a b : Reception) → b.got ≡ a.got → (cond x a (cond y a b)).got ≡ a.got
got_by true y a b e = refl
got_by false true a b e = refl
got_by false false a b e = e

asked_reception : (r : Receiving) (now : ℕ) → after_ask (reception r) now ≡ reception (asked r now)
asked_reception r now =
    let a = after_ask (reception r) now in
    ap (λ (g : Numbers). record { got = g; tries = a.tries; due = a.due }) (got_by (nat_lt now r.due) (nat_le most_requests r.tries) (reception r) _ refl)

pub asked_stands : (c : List ℕ) (v : Volume) (s : Store) (version server now : ℕ) (asking after : Reception) (job : PageJob) (r : Receiving)
    → asking ≡ reception r → after ≡ after_ask asking now → server ≡ r.server → version ≡ r.version → Receives c v s job r → ModeStands c v s (value.Receive version server after job) (Receive (asked r now))
asked_stands c v s version server now asking after job r asks e from_server of_version x = (
  e ∙ ap (λ (a : Reception). after_ask a now) asks ∙ asked_reception r now,
  from_server,
  of_version,
  record { image = x.image; not_golden = x.not_golden; lent = x.lent; others = x.others; kept = x.kept; held_here = x.held_here; version = x.version; next = x.next; stands = x.stands; missing = x.missing },
)

wait_by : (x y : Bool) (a b : Reception) (want : Numbers) → ask.Wait ≡ cond x ask.Wait (cond y ask.GiveUp (ask.Request want)) → cond x a (cond y a b) ≡ a
wait_by true y a b want e = refl
wait_by false true a b want e = cc
wait_by false false a b want e = cc

pub waits_same : (a after : Reception) (now : ℕ) → ask.Wait ≡ ask_of a now → after ≡ after_ask a now → after ≡ a
waits_same a after now is e = e ∙ wait_by (nat_lt now a.due) (nat_le most_requests a.tries) a _ _ is

give_up_by : (x y : Bool) (a b : Reception) (want : Numbers) → ask.GiveUp ≡ cond x ask.Wait (cond y ask.GiveUp (ask.Request want)) → cond x a (cond y a b) ≡ a
give_up_by true y a b want e = refl
give_up_by false true a b want e = refl
give_up_by false false a b want e = cc

pub gives_up_same : (a after : Reception) (now : ℕ) → ask.GiveUp ≡ ask_of a now → after ≡ after_ask a now → after ≡ a
gives_up_same a after now is e = e ∙ give_up_by (nat_lt now a.due) (nat_le most_requests a.tries) a _ _ is

-- ---- it sends packets

pub transmit_turn : (m : MoteState) (s : Store) (t : Sending) (owed : Owed) (x : Serve) (now word : ℕ) → m.mode ≡ Transmit t → owed ≡ t.owed → x ≡ serve_of owed now → mode_tick m.mode m s now word ≡ transmit_by x m t s now word
transmit_turn m s t owed x now word is owes e =
    ap (λ (mode : Mode). mode_tick mode m s now word) is ∙ ap (λ (a : Serve). transmit_by a m t s now word) (sym (e ∙ ap (λ (o : Owed). serve_of o now) owes))

pub last_sent : (m : MoteState) (t : Sending) (owed after : Owed) (n now word : ℕ) → owed ≡ t.owed → after ≡ after_next owed now → n ≡ set.len after.left → n ≡ 0 → serving m t now word ≡ maintains m now word
last_sent m t owed after n now word owes e count none =
    let same : after ≡ after_next t.owed now = e ∙ ap (λ (o : Owed). after_next o now) owes in
    let zero : set.len (after_next t.owed now).left ≡ 0 = ap (λ (o : Owed). set.len o.left) (sym same) ∙ sym count ∙ none in
    ap (λ (k : ℕ). cond (k == 0) (maintains m now word) (record m { mode = Transmit (record t { owed = after_next t.owed now }) })) zero

not_zero : (k : ℕ) → k ≢ 0 → (k == 0) ≡ false
not_zero k h = grind (arith, nat_tests)

-- some are left
pub record SentOn (c : List ℕ) (v : Volume) (s : Store) (m : MoteState) (t : Sending) (image version page : ℕ) (after : Owed) (now word : ℕ) : Type 0 where
  pub mode : Mode
  pub is : serving m t now word ≡ record m { mode = mode }
  pub stands : ModeStands c v s (value.Transmit image version page after) mode
  pub known : NamesKnown m.wide mode

pub sent_on : (c : List ℕ) (v : Volume) (s : Store) (m : MoteState) (t : Sending) (image version page : ℕ) (owed after : Owed) (n now word : ℕ) → image ≡ t.image → version ≡ t.version → page ≡ t.page → owed ≡ t.owed → Transmits v s t → NamesKnown m.wide (Transmit t)
    → after ≡ after_next owed now → n ≡ set.len after.left → n ≢ 0 → SentOn c v s m t image version page after now word
sent_on c v s m t image version page owed after n now word of_image of_version of_page owes transmits known e count some =
    let next = after_next t.owed now in
    let same : after ≡ next = e ∙ ap (λ (o : Owed). after_next o now) owes in
    let left : n ≡ set.len next.left = count ∙ ap (λ (o : Owed). set.len o.left) same in
    let more : set.len next.left ≢ 0 = λ zero. some (left ∙ zero) in
    let x = transmits.serves in
    record {
      mode = Transmit (record t { owed = next });
      is = ap (λ (b : Bool). cond b (maintains m now word) (record m { mode = Transmit (record t { owed = next }) })) (not_zero (set.len next.left) more);
      stands = (of_image, of_version, of_page, same, record { free = transmits.free; serves = record { not_golden = x.not_golden; kept = x.kept; held_here = x.held_here; version = x.version; complete = x.complete; owed = more } });
      known = known;
    }

-- nothing is sent
early_by : (o : Option ℕ) (b : Bool) (a : Owed) (x : Serve) (now : ℕ) → (x ≡ serve.Done) ⊎ (x ≡ serve.Wait) → x ≡ serve_by o b → next_by o b a now ≡ a
early_by None b a x now is e = refl
early_by (Some q) true a x now is e = refl
early_by (Some q) false a x now is e = ⊎_elim (λ h. cc) (λ h. cc) is

pub nothing_sent : (a after : Owed) (x : Serve) (now : ℕ) → (x ≡ serve.Done) ⊎ (x ≡ serve.Wait) → x ≡ serve_of a now → after ≡ after_next a now → after ≡ a
nothing_sent a after x now is e next = next ∙ early_by (least a.left) (nat_lt now a.due) a x now is e

idle_by : (m : MoteState) (s : Store) (t : Sending) (x : Serve) (now word : ℕ) → (x ≡ serve.Done) ⊎ (x ≡ serve.Wait) → transmit_by x m t s now word ≡ idle m s
idle_by m s t (serve.Send q) now word is = ⊎_elim (λ h. cc) (λ h. cc) is
idle_by m s t serve.Done now word is = refl
idle_by m s t serve.Wait now word is = refl

pub idle_turn : (m : MoteState) (s : Store) (t : Sending) (owed : Owed) (x : Serve) (now word : ℕ) → m.mode ≡ Transmit t → owed ≡ t.owed → (x ≡ serve.Done) ⊎ (x ≡ serve.Wait) → x ≡ serve_of owed now → mode_tick m.mode m s now word ≡ idle m s
idle_turn m s t owed x now word is owes none e = transmit_turn m s t owed x now word is owes e ∙ idle_by m s t x now word none

-- ---- the same mote, and one turn

pub same_mote : (c : List ℕ) (v : Mote) (m : MoteState) (s : Store) (x : ModeValue) → x ≡ v.mode → IsMote c v m s → IsMote c (record v { mode = x }) m s
same_mote c v m s x e is =
    record { id = is.id; since = is.since; wide = is.wide; noted = is.noted; mounted = is.mounted; mode = subst (λ (y : ModeValue). ModeStands c v.volume s y m.mode) (sym e) is.mode; known = is.known }

pub turn_done : (t : MoteStep Did) (old new : Device) (v : Mote) (n : MoteState) (s : Store) (sent : Option Message) (did : Did) → t ≡ record { mote = n; trail = resting s 0; sent = sent; answer = did } → Looked old new → IsMote new.image v n s → Done t old new v did
turn_done t old new v n s sent did e looked is = rests_done t old new v n s did (ap (λ (x : MoteStep Did). x.mote) e) (ap (λ (x : MoteStep Did). x.trail) e) (sym (ap (λ (x : MoteStep Did). x.answer) e)) looked is

-- ---- a read that was stopped

read_leaves : (s : Store) (image : List ℕ) → Stands image s → MayLeave Stands IsNear (resting s 0) 0 image
unfolding LeavesFrom
read_leaves s image stands = record { store = s; stands_for = stands; allowed = record { same = refl; room = inl refl } }

pub read_stops : (t : MoteStep Did) (old new : Device) (n : MoteState) (s : Store) (sent : Option Message) (did : Did) → t ≡ record { mote = n; trail = resting s 0; sent = sent; answer = did } → Stands old.image s → ReadStopped old new → Stops t.trail old new
read_stops t old new n s sent did e stands stopped =
    let May : ℕ → List ℕ → Type 0 = MayLeave Stands IsNear (resting s 0) in
    let here : Halted 0 May old new = Halted_once May stopped.halts (read_leaves s new.image (subst (λ (c : List ℕ). Stands c s) (sym stopped.same_image) stands)) in
    subst (λ (x : Trail Store). Stops x old new) (sym (ap (λ (x : MoteStep Did). x.trail) e)) (subst (λ (k : ℕ). Halted k May old new) (sym (operations-resting s 0)) here)
