-- Requests that are heard.
use Rattle.std.proofs.Common.{◌≡◌, ◌≢◌, ◌⊎◌, ℕ, ◌<◌, ◌≤◌, Bool, true, false, ◌&&◌, ◌||◌, cond, List, length, Option, Some, None, Result, Ok, Err, IfOk, OnOk, OnErr, refl, sym, ap, ⊎_elim, inl, inr, subst, ◌∙◌, arith}
use Rattle.std.specs.Prelude.{◌==◌, nat_lt}
use Rattle.std.specs.FinSet as set
use Rattle.std.specs.Ordering.{nat_cmp}
use Rattle.std.proofs.lemmas.Bool.Decides.{nat_tests}
use Rattle.dg_nor.specs.Device.{Device, Ran}
use Rattle.dg_nor.specs.Trail.{Trail, operations, last}
use Rattle.dg_nor.proofs.DeviceLemmas.{Ran-none}
use Rattle.dg_nor.proofs.TrailLemmas.{operations-resting, last-resting}
use Rattle.dg_bits.specs.Sets.{Numbers}
use Rattle.dg_bits.proofs.SetLaws.{same_numbers, contains-none, contains-both}
use Rattle.dg_trickle.specs.Timer.{Timer}
use Rattle.dg_send.specs.Owed.{Owed}
use Rattle.dg_send.specs.Steps.{owed_begun, after_merge}
use Rattle.dg_slot.specs.Kept.{Held}
use Rattle.dg_volume.specs.Store.{Store, held}
use Rattle.dg_volume.specs.Stands.{NothingLent}
use Rattle.dg_volume.specs.Changes.{is_version}
use Rattle.dg_volume.specs.Trails.{done_of}
use Rattle.dg_frame.specs.Sizes.{known_images}
use Rattle.dg_mote.specs.Model.{MoteState, Mode, Maintain, Receive, Transmit, NamesKnown, Sending, MoteStep}
use Rattle.dg_mote.specs.Adverts.{dropped}
use Rattle.dg_mote.specs.Agreement.{Serves}
use Rattle.dg_mote.specs.Requests.{can_serve, is_served, to_it, page_request}
use Rattle.dg_mote.specs.Motes.{IsMote, Transmits, ModeStands, Done}
use Rattle.dg_mote.specs.Hearing.{ChipStays, StaysIf}
use Rattle.dg_mote.specs.declared.mote.Heard.{Heard}
use Rattle.dg_mote.specs.declared.mote.Heard.TheVariants as heard
use Rattle.dg_mote.specs.declared.mote.Mote.{Mote}
use Rattle.dg_mote.specs.declared.mote.Mode.TheVariants as value
use Rattle.dg_mote.specs.declared.mote.Mode.{Mode as ModeValue}
use Rattle.dg_mote.proofs.HereLemmas.{transmits_here}

-- ---- the rows of a choice

pub chosen : {A : Type 0} (b : Bool) (x y : A) → b ≡ true → cond b x y ≡ x
chosen b x y e = ap (λ (c : Bool). cond c x y) e

pub passed : {A : Type 0} (b : Bool) (x y : A) → b ≡ false → cond b x y ≡ y
passed b x y e = ap (λ (c : Bool). cond c x y) e

pub rests_chosen : (b : Bool) (x y : MoteStep Heard) (c : List ℕ) (s : Store) (v : Mote) (a : Heard) → b ≡ true → ChipStays x c s v a → ChipStays (cond b x y) c s v a
rests_chosen b x y c s v a e rests = subst (λ (t : MoteStep Heard). ChipStays t c s v a) (sym (chosen b x y e)) rests

pub rests_passed : (b : Bool) (x y : MoteStep Heard) (c : List ℕ) (s : Store) (v : Mote) (a : Heard) → b ≡ false → ChipStays y c s v a → ChipStays (cond b x y) c s v a
rests_passed b x y c s v a e rests = subst (λ (t : MoteStep Heard). ChipStays t c s v a) (sym (passed b x y e)) rests

pub rests_dropped : (c : List ℕ) (v : Mote) (m : MoteState) (s : Store) → IsMote c v m s → ChipStays (dropped m s) c s v heard.Dropped
rests_dropped c v m s is = record { trail = refl; mote = is; answers = refl }

-- ---- it begins to serve

serves_by : (s : Store) (o : Option Held) (i version page : ℕ) (owed : Owed) → held s i ≡ o → 1 ≤ i → is_version o version && nat_lt page (done_of o) ≡ true → (set.len owed.left ≡ 0 → ⊥) → Serves s (record { image = i; version = version; page = page; owed = owed })
serves_by s None i version page owed is some can owes = cc
serves_by s (Some h) i version page owed is some can owes =
    let same : h.version ≡ version = grind (arith, nat_tests) in
    let less : page < length h.complete = grind (arith, nat_tests) in
    record { not_golden = some; kept = h; held_here = is; version = same; complete = less; owed = owes }

pub serving_now : (c : List ℕ) (v : Mote) (m : MoteState) (s : Store) (timer : Timer) (i version page now : ℕ) (want : Numbers) → 1 ≤ i → i ≤ known_images m.wide → want ≢ set.empty → IsMote c v m s → m.mode ≡ Maintain timer → can_serve s i version page ≡ true
    → ChipStays (to_it (Maintain timer) m s now (page_request i version page want)) c s (record v { mode = value.Transmit i version page (owed_begun now want) }) (heard.Serves i page)
serving_now c v m s timer i version page now want some high asks is mode can =
    let t : Sending = record { image = i; version = version; page = page; owed = owed_begun now want } in
    let free : NothingLent v.volume = free_by v.mode m.mode mode is.mode in
    rests_chosen (can_serve s i version page) _ _ c s (record v { mode = value.Transmit i version page (owed_begun now want) }) (heard.Serves i page) can (record {
      trail = refl;
      mote = record {
        id = is.id;
        since = is.since;
        wide = is.wide;
        noted = is.noted;
        mounted = is.mounted;
        mode = (refl, refl, refl, refl, record { free = free; serves = serves_by s (held s i) i version page (owed_begun now want) refl some can (λ e. asks (set.empty_of_len want e)) });
        known = (some, high);
      };
      answers = refl;
    })
  where
    free_by : (x : ModeValue) (y : Mode) → y ≡ Maintain timer → ModeStands c v.volume s x y → NothingLent v.volume
    free_by (value.Maintain trickle) (Maintain other) e stands = stands.1
    free_by (value.Receive a b d f) (Maintain other) e stands = absurd stands
    free_by (value.Transmit a b d f) (Maintain other) e stands = absurd stands
    free_by x (Receive r) e stands = cc
    free_by x (Transmit t) e stands = cc

-- ---- it serves more

same_sending : (t u : Sending) → Transmit t ≡ Transmit u → t ≡ u
same_sending t u e = cc

pub record SendsThis (c : List ℕ) (v : Mote) (s : Store) (t : Sending) (i version page : ℕ) (owed : Owed) : Type 0 where
  pub of_image : i ≡ t.image
  pub of_version : version ≡ t.version
  pub of_page : page ≡ t.page
  pub owes : owed ≡ t.owed
  pub transmits : Transmits v.volume s t

pub sends_this : (c : List ℕ) (v : Mote) (m : MoteState) (s : Store) (t : Sending) (i version page : ℕ) (owed : Owed) → IsMote c v m s → m.mode ≡ Transmit t → v.mode ≡ value.Transmit i version page owed → SendsThis c v s t i version page owed
sends_this c v m s t i version page owed is mode code =
    let here = transmits_here c v m s i version page owed is code in
    let e : here.t ≡ t = same_sending here.t t (sym here.is ∙ mode) in
    subst (λ (u : Sending). SendsThis c v s u i version page owed) e (record { of_image = here.of_image; of_version = here.of_version; of_page = here.of_page; owes = here.owes; transmits = here.transmits })

some_left : (s t : Numbers) → (set.len s ≡ 0 → ⊥) → set.len (set.union s t) ≡ 0 → ⊥
some_left s t some none = some (ap set.len (nothing (set.empty_of_len (set.union s t) none)) ∙ set.len-empty nat_cmp)
  where
    either_false : (a b : Bool) → (a || b) ≡ false → a ≡ false
    either_false true b e = e
    either_false false b e = refl

    nothing : set.union s t ≡ set.empty → s ≡ set.empty
    nothing e = same_numbers s set.empty (λ q. either_false (set.contains s q) (set.contains t q) (sym (contains-both s t q) ∙ ap (λ x. set.contains x q) e ∙ contains-none q) ∙ sym (contains-none q))

pub serving_more : (c : List ℕ) (v : Mote) (m : MoteState) (s : Store) (t : Sending) (i version page a b d now : ℕ) (owed : Owed) (want : Numbers) → IsMote c v m s → m.mode ≡ Transmit t → v.mode ≡ value.Transmit i version page owed
    → i ≡ a → version ≡ b → page ≡ d → ChipStays (to_it (Transmit t) m s now (page_request a b d want)) c s (record v { mode = value.Transmit i version page (after_merge owed want) }) heard.Merged
serving_more c v m s t i version page a b d now owed want is mode code one two three =
    let this = sends_this c v m s t i version page owed is mode code in
    let serves = this.transmits.serves in
    let e : is_served t a b d ≡ true = same_page t.image t.version t.page a b d (sym this.of_image ∙ one) (sym this.of_version ∙ two) (sym this.of_page ∙ three) in
    rests_chosen (is_served t a b d) _ _ c s (record v { mode = value.Transmit i version page (after_merge owed want) }) heard.Merged e (record {
      trail = refl;
      mote = record {
        id = is.id;
        since = is.since;
        wide = is.wide;
        noted = is.noted;
        mounted = is.mounted;
        mode = (this.of_image, this.of_version, this.of_page, ap (λ (o : Owed). after_merge o want) this.owes, record { free = this.transmits.free; serves = record { not_golden = serves.not_golden; kept = serves.kept; held_here = serves.held_here; version = serves.version; complete = serves.complete; owed = some_left t.owed.left want serves.owed } });
        known = subst (NamesKnown m.wide) mode is.known;
      };
      answers = refl;
    })
  where
    same_page : (a b d x y z : ℕ) → a ≡ x → b ≡ y → d ≡ z → (a == x) && (b == y) && (d == z) ≡ true
    same_page a b d x y z e f h = grind (arith, nat_tests)

-- it does not, if another page is requested
pub serving_other : (c : List ℕ) (v : Mote) (m : MoteState) (s : Store) (t : Sending) (i version page a b d now : ℕ) (owed : Owed) (want : Numbers) → IsMote c v m s → m.mode ≡ Transmit t → v.mode ≡ value.Transmit i version page owed
    → (i ≢ a) ⊎ ((version ≢ b) ⊎ (page ≢ d)) → ChipStays (to_it (Transmit t) m s now (page_request a b d want)) c s v heard.Dropped
serving_other c v m s t i version page a b d now owed want is mode code other =
    let this = sends_this c v m s t i version page owed is mode code in
    let e : is_served t a b d ≡ false = other_page t.image t.version t.page (⊎_elim (λ n. inl (λ x. n (this.of_image ∙ x))) (λ r. inr (⊎_elim (λ n. inl (λ x. n (this.of_version ∙ x))) (λ n. inr (λ x. n (this.of_page ∙ x))) r)) other) in
    rests_passed (is_served t a b d) _ _ c s v heard.Dropped e (rests_dropped c v m s is)
  where
    other_page : (x y z : ℕ) → (x ≢ a) ⊎ ((y ≢ b) ⊎ (z ≢ d)) → (x == a) && (y == b) && (z == d) ≡ false
    other_page x y z o = grind (arith, nat_tests)

-- ---- a call that makes no operation

pub rests_done : (turn : MoteStep Heard) (a : Device) (s : Store) (v : Mote) (answer : Heard) → ChipStays turn a.image s v answer → Done turn a a v answer
rests_done turn a s v answer rests = record {
  ran = subst (λ (t : Trail Store). Ran (operations t) a a) (sym rests.trail) (subst (λ (n : ℕ). Ran n a a) (sym (operations-resting s 0)) (Ran-none a));
  mote = subst (λ (t : Trail Store). IsMote a.image v turn.mote (last t)) (sym rests.trail) (subst (IsMote a.image v turn.mote) (sym (last-resting s 0)) rests.mote);
  answers = rests.answers;
}

pub dropped_done : (a : Device) (v : Mote) (m : MoteState) (s : Store) → IsMote a.image v m s → Done (dropped m s) a a v heard.Dropped
dropped_done a v m s is = rests_done (dropped m s) a s v heard.Dropped (rests_dropped a.image v m s is)

pub if_ok : {T E : Type 0} {P Q : T → Type 0} (r : Result T E) → IfOk r P → ((x : T) → P x → Q x) → IfOk r Q
if_ok (Ok x) p f = f x p
if_ok (Err e) p f = tt

pub on_err : {T E P Q : Type 0} (r : Result T E) → OnErr r P → (P → Q) → OnErr r Q
on_err (Ok x) p f = tt
on_err (Err e) p f = f p

pub if_ok3 : {T E : Type 0} {P Q S : T → Type 0} {R : Type 0} (r : Result T E) → IfOk r P → IfOk r Q → OnOk r R → ((x : T) → P x → Q x → R → S x) → IfOk r S
if_ok3 (Ok x) p q o f = f x p q o
if_ok3 (Err e) p q o f = tt

-- ---- frames that are refused or dropped

never_dropped : (P : Type 0) (answer : Heard) → StaysIf answer ⊥ → StaysIf answer P
never_dropped P (heard.Refused fault) stays = absurd stays
never_dropped P heard.Dropped stays = absurd stays
never_dropped P heard.Noted stays = tt
never_dropped P heard.Same stays = tt
never_dropped P heard.Other stays = tt
never_dropped P (heard.Asks image page) stays = tt
never_dropped P (heard.Serves image page) stays = tt
never_dropped P heard.Merged stays = tt
never_dropped P (heard.Took packet) stays = tt
never_dropped P (heard.Sealed image page) stays = tt
never_dropped P (heard.Bad image page) stays = tt

pub not_dropped : {E : Type 0} (P : Type 0) (r : Result Heard E) → IfOk r (λ answer. StaysIf answer ⊥) → IfOk r (λ answer. StaysIf answer P)
not_dropped P (Ok answer) stays = never_dropped P answer stays
not_dropped P (Err e) stays = tt
