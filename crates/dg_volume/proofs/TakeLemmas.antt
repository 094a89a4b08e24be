-- The slot of an image is given up, and taken for another profile.
use Rattle.std.specs.Prelude.{⊤, is_none}
use Rattle.dg_volume.proofs.HeldLemmas.{golden_held, each_keeping}
use Rattle.std.proofs.Common.{◌≡◌, ◌≢◌, ℕ, Bool, ◌+◌, ◌<◌, ◌≤◌, List, length, get_or, Option, Some, None, IfSome, IfNone, IsSomeAnd, Result, Ok, Err, OnOk, OnErr, false, refl, sym, ap, subst, ◌∙◌, arith}
use Rattle.std.proofs.Math.ListN.{length-set}
use Rattle.dg_nor.specs.Chip.{Touches}
use Rattle.dg_nor.specs.Device.{Device, Ran, Halted}
use Rattle.dg_nor.proofs.ChipLemmas.{Touches_wider}
use Rattle.dg_nor.specs.Trail.{Trail, last, resting, MayLeave, LeavesFrom}
use Rattle.dg_nor.proofs.DeviceLemmas.{Halted-weaker}
use Rattle.dg_nor.proofs.TrailLemmas.{operations-resting, last-resting}
use Rattle.dg_control.specs.declared.snapshot.Snapshot.{Snapshot}
use Rattle.dg_control.specs.declared.snapshot.SlotState.{SlotState}
use Rattle.dg_control.specs.declared.snapshot.SlotState.TheVariants.{Dirty, Live}
use Rattle.dg_slot.specs.Layout.{header_sector, slot_end}
use Rattle.dg_object.specs.Object.{Outline}
use Rattle.dg_slot.specs.Kept.{Held, KeepsImage, held_begun}
use Rattle.dg_slot.specs.Jobs.{IsOpen, outline_of_slot}
use Rattle.dg_slot.specs.declared.states.OpenSlot.{OpenSlot}
use Rattle.dg_volume.specs.Sizes.{images, golden_version, control_sectors}
use Rattle.dg_volume.specs.Store.{Store, held, IsNear}
use Rattle.dg_volume.specs.Told.{told, slot_told}
use Rattle.dg_volume.specs.Stands.{Stands, Tells, Mounted, kept_at, snapshot_of}
use Rattle.dg_volume.specs.Changes.{keeping, spent, UnlessTakeRefused}
use Rattle.dg_volume.specs.declared.volume.TakeFault.{TakeFault}
use Rattle.dg_volume.specs.declared.volume.TakeFault.TheVariants.{Stopped, Stale, Reserved, Worn}
use Rattle.dg_volume.specs.Trails.{committing, drop_by, drop_trail, open_trail, take_trail}
use Rattle.dg_volume.specs.Acts.{Acted, Stops, TouchesBut}
use Rattle.dg_volume.specs.declared.volume.Kept.{Kept}
use Rattle.dg_volume.specs.declared.volume.Volume.{Volume}
use Rattle.dg_volume.proofs.ActLemmas.{acted_none, acted_then, stops_first, stops_then}
use Rattle.dg_volume.proofs.BeginLemmas.{begins_committing, open_begins}
use Rattle.dg_volume.proofs.BehindLemmas.{slot_free}
use Rattle.dg_volume.proofs.CommitLemmas.{Commits, near_same}

-- ---- what is kept of one image changes

-- the state of a slot, for what is reported of it
pub record StateOf (x : SlotState) (kept : Option Kept) : Type 0 where
  pub dirty : IfNone kept (x ≡ Dirty)
  pub live : IfSome kept (λ k. x ≡ Live k.version)

pub state_is : (x : SlotState) (kept : Option Kept) (h : Option Held) → told h ≡ kept → StateOf x kept → x ≡ slot_told h
state_is x kept None e state = (subst (λ (k : Option Kept). StateOf x k) (sym e) state).dirty
state_is x kept (Some h) e state = (subst (λ (k : Option Kept). StateOf x k) (sym e) state).live

-- the snapshot has this state of one slot, and is otherwise unchanged
pub record SaysSlot (r p : Snapshot) (i : ℕ) (x : SlotState) : Type 0 where
  pub slot : get_or r.slots i Dirty ≡ x
  pub others : (j : ℕ) → j ≢ i → get_or r.slots j Dirty ≡ get_or p.slots j Dirty
  pub program : r.program ≡ p.program
  pub order : r.order ≡ p.order
  pub waived : r.waived ≡ p.waived
  pub gesture : r.gesture ≡ p.gesture

pub slot_commits : (c : List ℕ) (v : Volume) (s : Store) (next : Snapshot) (i : ℕ) (h : Option Held) → 1 ≤ i → i < images → Stands c s → Tells v s → SaysSlot next (snapshot_of v) i (slot_told h) → IfSome h (KeepsImage c i)
    → Commits c v.control next s (keeping i h (spent s))
slot_commits c v s next i h not_golden known stands tells says keeps =
    let t = keeping i h (spent s) in
    let contains = stands.contains in
    let within : i < length s.kept = omega (arith, contains.count) in
    record {
      says = tells.says;
      room = tells.room;
      contains = contains;
      says_next = record {
        slots = each_keeping (λ j x. j < images → get_or next.slots j Dirty ≡ slot_told x) (spent s) i h within (λ k. says.slot) (λ j other k. says.others j other ∙ tells.says.slots j k);
        program = says.program ∙ tells.says.program;
        order = says.order ∙ tells.says.order;
        waived = says.waived ∙ tells.says.waived;
        gesture = says.gesture ∙ tells.says.gesture;
      };
      contains_next = record {
        count = length-set s.kept i h ∙ contains.count;
        kept = each_keeping (λ j x. j < images → IfSome x (KeepsImage c j)) (spent s) i h within (λ k. keeps) (λ j other k. contains.kept j k);
        golden = record { whole = subst (λ (o : Option Held). IsSomeAnd o (λ x. (x.version ≡ golden_version) × (length x.complete ≡ x.pages))) (sym (golden_held (spent s) i h not_golden)) contains.golden.whole };
        app = contains.app;
      };
      spent = refl;
    }

-- what the volume exposes then
pub kept_next : (v w : Volume) (s : Store) (i : ℕ) (h : Option Held) (kept : Option Kept) → length s.kept ≡ images → i < images → ((j : ℕ) → j < images → kept_at v j ≡ told (held s j)) → kept_at w i ≡ kept → ((j : ℕ) → j ≢ i → kept_at w j ≡ kept_at v j)
    → told h ≡ kept → (j : ℕ) → j < images → kept_at w j ≡ told (held (keeping i h (spent s)) j)
kept_next v w s i h kept count known tells here others is =
    each_keeping (λ j x. j < images → kept_at w j ≡ told x) (spent s) i h (omega (arith, known, count)) (λ k. here ∙ sym is) (λ j other k. others j other ∙ tells j k)

-- ---- operations that leave the store unchanged

pub rest_stops : (s : Store) (n : ℕ) (a b : Device) → Stands b.image s → Halted n (λ k c. ⊤) a b → Stops (resting s n) a b
unfolding LeavesFrom
rest_stops s n a b stands h =
    subst (λ (m : ℕ). Halted m (MayLeave Stands IsNear (resting s n)) a b) (sym (operations-resting s n))
    (Halted-weaker (λ k within may. record { store = s; stands_for = stands; allowed = near_same s }) h)

pub rest_acted : (s : Store) (n : ℕ) (a b : Device) (v : Volume) → Mounted b.image v s → Ran n a b → Acted (resting s n) a b v
rest_acted s n a b v mounted ran = record {
  ran = subst (λ (m : ℕ). Ran m a b) (sym (operations-resting s n)) ran;
  mounted = subst (Mounted b.image v) (sym (last-resting s n)) mounted;
}

-- ---- a header is written in the slot of an image of which nothing is kept

none_by : (o : Option Held) → told o ≡ None → o ≡ None
none_by None e = refl
none_by (Some h) e = cc

pub none_held : (v : Volume) (s : Store) (i : ℕ) → i < images → Tells v s → kept_at v i ≡ None → held s i ≡ None
none_held v s i known tells none = none_by (held s i) (sym (tells.kept i known (λ x. x)) ∙ none)

pub header_free : (c d : List ℕ) (v : Volume) (s : Store) (i j : ℕ) → i < images → j ≡ i → kept_at v i ≡ None → Touches (header_sector j) (header_sector j + 1) c d → Mounted c v s → Mounted d v s
header_free c d v s i j known same none touches m =
    slot_free c d v s i known (none_held v s i known m.tells none) (Touches_wider (header_sector j) (header_sector j + 1) (header_sector i) (slot_end i) touches (omega arith) (omega arith)) m

pub begun_stands : (c : List ℕ) (o : OpenSlot) (p : Outline) → outline_of_slot o ≡ p → IsOpen c o (held_begun p) → KeepsImage c p.image (held_begun p)
begun_stands c o p same opened = subst (λ (q : Outline). KeepsImage c q.image (held_begun p)) same opened.keeps

abbrev begun_store : Store → Outline → Store
begun_store s p = keeping p.image (Some (held_begun p)) (spent s)

pub open_first : (s : Store) (p : Outline) (a b : Device) → Stands b.image s → Halted 2 (λ k c. ⊤) a b → Stops (open_trail s p) a b
open_first s p a b stands h = stops_first (resting s 2) (committing s (begun_store s p)) a b (begins_committing s (begun_store s p)).works (last-resting s 2) (rest_stops s 2 a b stands h)

pub open_then : (s : Store) (p : Outline) (a b c : Device) (v : Volume) → Mounted b.image v s → Ran 2 a b → Stops (committing s (begun_store s p)) b c → Stops (open_trail s p) a c
open_then s p a b c v mounted ran h = stops_then (resting s 2) (committing s (begun_store s p)) a b c v (last-resting s 2) (rest_acted s 2 a b v mounted ran) h

pub open_acted : (s : Store) (p : Outline) (a b c : Device) (v w : Volume) → Mounted b.image v s → Ran 2 a b → Acted (committing s (begun_store s p)) b c w → Acted (open_trail s p) a c w
open_acted s p a b c v w mounted ran h = acted_then (resting s 2) (committing s (begun_store s p)) a b c v w (last-resting s 2) (rest_acted s 2 a b v mounted ran) h

-- what is lent does not count
pub acted_lent : (t : Trail Store) (a b : Device) (v : Volume) (lent : List Bool) → Acted t a b v → Acted t a b (record v { lent = lent })
acted_lent t a b v lent acted =
    let m = acted.mounted in
    record { ran = acted.ran; mounted = record { control = m.control; stands = m.stands; tells = record { says = m.tells.says; room = m.tells.room; kept = m.tells.kept } } }

-- ---- what was kept is given up

pub on_ok : {T E P Q : Type 0} (r : Result T E) → (P → Q) → OnOk r P → OnOk r Q
on_ok (Ok x) f h = f h
on_ok (Err e) f h = tt

pub on_err : {T E P Q : Type 0} (r : Result T E) → (P → Q) → OnErr r P → OnErr r Q
on_err (Ok x) f h = tt
on_err (Err e) f h = f h

pub drop_none : (s : Store) (i : ℕ) → held s i ≡ None → drop_trail s i ≡ resting s 0
unfolding drop_trail
drop_none s i e = ap (λ (o : Option Held). drop_by o s i) e

given_up_by : (s : Store) (i : ℕ) (o : Option Held) → is_none (told o) ≡ false → drop_by o s i ≡ committing s (keeping i None (spent s))
given_up_by s i None some = cc
given_up_by s i (Some h) some = refl

pub given_up : (v : Volume) (s : Store) (i : ℕ) → i < images → Tells v s → is_none (kept_at v i) ≡ false → drop_trail s i ≡ committing s (keeping i None (spent s))
unfolding drop_trail
given_up v s i known tells some = given_up_by s i (held s i) (subst (λ (k : Option Kept). is_none k ≡ false) (tells.kept i known (λ x. x)) some)

pub dropped_none : (a : Device) (v : Volume) (s : Store) (i : ℕ) → i < images → kept_at v i ≡ None → Mounted a.image v s → Acted (drop_trail s i) a a v
dropped_none a v s i known none m = subst (λ (t : Trail Store). Acted t a a v) (sym (drop_none s i (none_held v s i known m.tells none))) (acted_none s a v m)

pub given_up_acted : (a b : Device) (v w : Volume) (s : Store) (i : ℕ) → i < images → is_none (kept_at v i) ≡ false → Mounted a.image v s → ((t : Store) (h : Option Held) → Mounted a.image v t → told h ≡ None → IfSome h (KeepsImage a.image i) → Acted (committing t (keeping i h (spent t))) a b w)
    → Acted (drop_trail s i) a b w
given_up_acted a b v w s i known some m acted = subst (λ (t : Trail Store). Acted t a b w) (sym (given_up v s i known m.tells some)) (acted s None m refl tt)

pub given_up_stops : (a b : Device) (v : Volume) (s : Store) (i : ℕ) → i < images → is_none (kept_at v i) ≡ false → Mounted a.image v s → ((t : Store) (h : Option Held) → Mounted a.image v t → told h ≡ None → IfSome h (KeepsImage a.image i) → Stops (committing t (keeping i h (spent t))) a b)
    → Stops (drop_trail s i) a b
given_up_stops a b v s i known some m stops = subst (λ (t : Trail Store). Stops t a b) (sym (given_up v s i known m.tells some)) (stops s None m refl tt)

-- ---- a take: what was kept is given up, and then the image is begun

pub take_first : (s : Store) (p : Outline) (a b : Device) → Stops (drop_trail s p.image) a b → Stops (take_trail s p) a b
unfolding take_trail
take_first s p a b h =
    let t = drop_trail s p.image in
    let begins = open_begins (last t) p in
    stops_first t (open_trail (last t) p) a b begins.works (sym begins.first) h

pub take_then : (s : Store) (p : Outline) (a b c : Device) (v : Volume) → Acted (drop_trail s p.image) a b v → Stops (open_trail (last (drop_trail s p.image)) p) b c → Stops (take_trail s p) a c
unfolding take_trail
take_then s p a b c v acted h =
    let t = drop_trail s p.image in
    stops_then t (open_trail (last t) p) a b c v (sym (open_begins (last t) p).first) acted h

pub take_acted : (s : Store) (p : Outline) (a b c : Device) (v w : Volume) → Acted (drop_trail s p.image) a b v → Acted (open_trail (last (drop_trail s p.image)) p) b c w → Acted (take_trail s p) a c w
unfolding take_trail
take_acted s p a b c v w first second =
    let t = drop_trail s p.image in
    acted_then t (open_trail (last t) p) a b c v w (sym (open_begins (last t) p).first) first second

-- ---- the sectors that are touched

pub but_control : (a b : ℕ) (c d : List ℕ) → Touches 0 control_sectors c d → TouchesBut a b c d
but_control a b c d t = record { before = λ k low less known. t.behind k low known; behind = λ k low more known. t.behind k low known }

pub but_slot : (a b : ℕ) (c d : List ℕ) → Touches a b c d → TouchesBut a b c d
but_slot a b c d t = record { before = λ k low less known. t.before k less known; behind = λ k low more known. t.behind k more known }

pub but_then : (a b : ℕ) (c d e : List ℕ) → TouchesBut a b c d → TouchesBut a b d e → TouchesBut a b c e
but_then a b c d e t u = record { before = λ k low less known. u.before k low less known ∙ t.before k low less known; behind = λ k low more known. u.behind k low more known ∙ t.behind k low more known }

pub take_allowed : {T : Type 0} (r : Result T TakeFault) (refusal : Option TakeFault) → refusal ≡ None → UnlessTakeRefused r refusal
take_allowed (Ok x) refusal e = e
take_allowed (Err Stopped) refusal e = e
take_allowed (Err (Stale kept)) refusal e = tt
take_allowed (Err Reserved) refusal e = tt
take_allowed (Err (Worn room)) refusal e = tt
