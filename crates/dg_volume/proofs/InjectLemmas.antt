-- An injection is refused, resumed, or started from page 0.
use Rattle.std.proofs.Common.{◌≡◌, ◌≢◌, ◌⊎◌, ℕ, ◌+◌, ◌<◌, ◌≤◌, Bool, true, false, cond, List, [], ◌∷◌, length, drop, Option, Some, None, Result, Ok, Err, IsErrAnd, refl, sym, ap, subst, ◌∙◌, inl, inr, arith}
use Rattle.dg_volume.proofs.HeldLemmas.{held_here}
use Rattle.std.proofs.lemmas.Bool.{cond-true, cond-false}
use Rattle.std.specs.Prelude.{◌==◌, ◌||◌, not, nat_lt}
use Rattle.std.proofs.Math.ListN.{length-set}
use Rattle.std.proofs.lemmas.Bool.Decides.{nat_tests}
use Rattle.dg_nor.specs.Device.{Device, Halts, Halted}
use Rattle.dg_nor.specs.Reads.{Looked}
use Rattle.dg_nor.specs.Trail.{Stage, Trail, operations, last, joined, resting, EachWorks, MayLeave, LeavesFrom}
use Rattle.dg_nor.proofs.DeviceLemmas.{Halts_first, Ran_then}
use Rattle.dg_nor.proofs.TrailLemmas.{last-joined, last-resting, last-stepping}
use Rattle.dg_object.specs.Object.{Row, Outline, IsRow, object, profile}
use Rattle.dg_slot.specs.Layout.{most_bytes}
use Rattle.dg_slot.specs.Kept.{Held, held_begun}
use Rattle.dg_slot.specs.Jobs.{Opens, IsOpen, outline_of_slot}
use Rattle.dg_slot.specs.declared.states.OpenSlot.{OpenSlot}
use Rattle.dg_volume.specs.Sizes.{images}
use Rattle.dg_volume.specs.Store.{Store, held, IsNear}
use Rattle.dg_volume.specs.Told.{told, told_held}
use Rattle.dg_volume.specs.Stands.{Stands, Mounted, MountedBut, Tells, kept_at}
use Rattle.dg_volume.specs.declared.volume.Kept.{Kept}
use Rattle.dg_volume.specs.Changes.{spent, keeping, is_version, differs_from_kept, other_profile, refusal_by, inject_refusal, UnlessInjectRefused, SameProfile, FitAll}
use Rattle.dg_volume.specs.Trails.{BeginsAt, committing, drop_trail, take_trail, fill_trail, inject_by, inject_trail, done_of}
use Rattle.dg_volume.specs.Acts.{Acted, Stops}
use Rattle.dg_volume.specs.Injecting.{InjectEnds}
use Rattle.dg_volume.specs.declared.volume.InjectFault.{InjectFault}
use Rattle.dg_volume.specs.declared.volume.InjectFault.TheVariants.{Stopped, Taken, Worn}
use Rattle.dg_volume.specs.declared.volume.Injected.{Injected}
use Rattle.dg_volume.specs.declared.volume.Volume.{Volume}
use Rattle.dg_volume.proofs.ActLemmas.{acted_then, stops_first, stops_then}
use Rattle.dg_volume.proofs.CommitLemmas.{near_same}
use Rattle.dg_volume.proofs.FillLemmas.{fill_first, fill_works}
use Rattle.dg_volume.proofs.PartLemmas.{NextFits, part_begun, rest_part}

-- ---- how it ends

result_stopped : (r : Result Injected InjectFault) → IsErrAnd r (λ e. e ≡ Stopped) → r ≡ Err Stopped
result_stopped (Ok x) h = absurd h
result_stopped (Err e) h = ap Err h

stopped_here : (s : Store) (row : Row) (a b : Device) (v : Volume) → (inject_refusal s row ≡ None) ⊎ (inject_refusal s row ≡ Some Taken) → SameProfile (held s row.image) row → Stops (inject_trail s row) a b → InjectEnds (Err Stopped) s row a b v
stopped_here s row a b v allowed fits stops = record { acted = tt; allowed = allowed; refused = λ e is other. absurd (other (same e is)); stopped = λ is. stops; unread = λ is. fits }
  where
    same : (e : InjectFault) → ◌≡◌ {A = Result Injected InjectFault} (Err Stopped) (Err e) → e ≡ Stopped
    same e is = cc

pub ends_stopped : (r : Result Injected InjectFault) (s : Store) (row : Row) (a b : Device) (v : Volume) → IsErrAnd r (λ e. e ≡ Stopped) → (inject_refusal s row ≡ None) ⊎ (inject_refusal s row ≡ Some Taken) → SameProfile (held s row.image) row → Stops (inject_trail s row) a b → InjectEnds r s row a b v
ends_stopped r s row a b v is allowed fits stops = subst (λ (x : Result Injected InjectFault). InjectEnds x s row a b v) (sym (result_stopped r is)) (stopped_here s row a b v allowed fits stops)

pub ends_taken : (s : Store) (row : Row) (a b : Device) (v : Volume) → inject_refusal s row ≡ Some Taken → InjectEnds (Err Taken) s row a b v
ends_taken s row a b v refusal = record { acted = tt; allowed = tt; refused = λ e is other. refusal ∙ ap Some (same e is); stopped = λ is. absurd (no is); unread = λ is. absurd (no is) }
  where
    same : (e : InjectFault) → ◌≡◌ {A = Result Injected InjectFault} (Err Taken) (Err e) → Taken ≡ e
    same e is = cc

    no : ◌≡◌ {A = Result Injected InjectFault} (Err Taken) (Err Stopped) → ⊥
    no e = cc

-- refused before anything is read
pub ends_refused : (fault : InjectFault) (s : Store) (row : Row) (a b : Device) (v : Volume) → inject_refusal s row ≡ Some fault → fault ≢ Stopped → InjectEnds (Err fault) s row a b v
ends_refused fault s row a b v refusal other = record { acted = tt; allowed = allowed fault other; refused = λ e is other. refusal ∙ ap Some (same e is); stopped = λ is. absurd (other (same Stopped is)); unread = λ is. absurd (other (same Stopped is)) }
  where
    same : (e : InjectFault) → ◌≡◌ {A = Result Injected InjectFault} (Err fault) (Err e) → fault ≡ e
    same e is = cc

    allowed : (f : InjectFault) → f ≢ Stopped → UnlessInjectRefused {T = Injected} (Err f) (inject_refusal s row)
    allowed Stopped differs = absurd (differs refl)
    allowed f differs = tt

pub ends_worn : (s : Store) (row : Row) (a b : Device) (v : Volume) (room : ℕ) → inject_refusal s row ≡ Some (Worn room) → InjectEnds (Err (Worn room)) s row a b v
ends_worn s row a b v room refusal = record { acted = tt; allowed = tt; refused = λ e is other. refusal ∙ ap Some (same e is); stopped = λ is. absurd (no is); unread = λ is. absurd (no is) }
  where
    same : (e : InjectFault) → ◌≡◌ {A = Result Injected InjectFault} (Err (Worn room)) (Err e) → Worn room ≡ e
    same e is = cc

    no : ◌≡◌ {A = Result Injected InjectFault} (Err (Worn room)) (Err Stopped) → ⊥
    no e = cc

pub ends_ok : (x : Injected) (s : Store) (row : Row) (a b : Device) (v : Volume) → inject_refusal s row ≡ None → Acted (inject_trail s row) a b v → InjectEnds (Ok x) s row a b v
ends_ok x s row a b v refusal acted = record { acted = acted; allowed = refusal; refused = λ e is other. absurd (no e is); stopped = λ is. absurd (no Stopped is); unread = λ is. absurd (no Stopped is) }
  where
    no : (e : InjectFault) → ◌≡◌ {A = Result Injected InjectFault} (Ok x) (Err e) → ⊥
    no e is = cc

-- ---- a stop before the first operation

early : (s first : Store) (stages : List (Stage Store)) → first ≡ s → EachWorks stages → LeavesFrom IsNear first stages 0 s
unfolding LeavesFrom EachWorks
early s first [] e works = subst (λ (x : Store). IsNear x s) (sym e) (near_same s)
early s first (stage ∷ stages) e works = inr (works.0, inl (subst (λ (x : Store). IsNear x s) (sym e) (near_same s)))

pub stops_early : (t : Trail Store) (s : Store) (a b : Device) → BeginsAt s t → Stands b.image s → Halts 0 0 a b → Stops t a b
stops_early t s a b begins stands halts =
    let n = operations t in
    let e : 0 + n ≡ n = omega arith in
    record {
      done = 0;
      halts = subst (λ (k : ℕ). Halts k 0 a b) e (Halts_first n halts);
      leaves = record { store = s; stands_for = stands; allowed = early s t.first t.stages begins.first begins.works };
    }

-- reads come before an act
pub looked_acted : (t : Trail Store) (a b c : Device) (v : Volume) → Looked a b → Acted t b c v → Acted t a c v
looked_acted t a b c v looked acted =
    let e : 0 + operations t ≡ operations t = omega arith in
    record { ran = subst (λ (n : ℕ). Rattle.dg_nor.specs.Device.Ran n a c) e (Ran_then looked.ran acted.ran); mounted = acted.mounted }

pub looked_stops : (t : Trail Store) (a b c : Device) → Looked a b → Stops t b c → Stops t a c
looked_stops t a b c looked stops =
    let n = operations t in
    let e : 0 + n ≡ n = omega arith in
    let May : ℕ → List ℕ → Type 0 = MayLeave Stands IsNear t in
    subst (λ (k : ℕ). Halted k May a c) e (Rattle.dg_nor.proofs.DeviceLemmas.Halted_second {may = May} May looked.ran (λ k within may. subst (λ (j : ℕ). May j c.image) (zero_plus k) may) stops)
  where
    zero_plus : (k : ℕ) → k ≡ 0 + k
    zero_plus k = omega arith

-- ---- refusals

pub refusal_is : (s : Store) (row : Row) → IsRow row → 1 ≤ row.image → inject_refusal s row ≡ refusal_by (held s row.image) s row
refusal_is s row is some =
    let n = length row.bytes in
    let least = is.some in
    let most = is.fits in
    cond-false (n == 0) _ _ (grind (arith, nat_tests)) ∙ cond-false (nat_lt most_bytes n) _ _ (grind (arith, nat_tests)) ∙ cond-false (row.image == 0) _ _ (grind (arith, nat_tests))

kept_by : (s : Store) (row : Row) (h : Held) → h.version ≡ row.version → refusal_by (Some h) s row ≡ cond (differs_from_kept h row) (Some Taken) None
kept_by s row h same = cond-false (nat_lt row.version h.version) _ _ (grind (arith, nat_tests)) ∙ cond-true (h.version == row.version) _ _ (grind (arith, nat_tests))

pub kept_refusal : (s : Store) (row : Row) (h : Held) → IsRow row → 1 ≤ row.image → held s row.image ≡ Some h → h.version ≡ row.version → inject_refusal s row ≡ cond (differs_from_kept h row) (Some Taken) None
kept_refusal s row h is some here same = refusal_is s row is some ∙ ap (λ (o : Option Held). refusal_by o s row) here ∙ kept_by s row h same

refusal_split : (b : Bool) (x : Option InjectFault) → x ≡ cond b (Some Taken) None → (x ≡ None) ⊎ (x ≡ Some Taken)
refusal_split true x e = inr e
refusal_split false x e = inl e

pub kept_split : (s : Store) (row : Row) (h : Held) → IsRow row → 1 ≤ row.image → held s row.image ≡ Some h → h.version ≡ row.version → (inject_refusal s row ≡ None) ⊎ (inject_refusal s row ≡ Some Taken)
kept_split s row h is some here same = refusal_split (differs_from_kept h row) _ (kept_refusal s row h is some here same)

pub kept_free : (s : Store) (row : Row) (h : Held) → IsRow row → 1 ≤ row.image → held s row.image ≡ Some h → h.version ≡ row.version → differs_from_kept h row ≡ false → inject_refusal s row ≡ None
kept_free s row h is some here same free = kept_refusal s row h is some here same ∙ cond-false (differs_from_kept h row) _ _ free

pub kept_taken : (s : Store) (row : Row) (h : Held) → IsRow row → 1 ≤ row.image → held s row.image ≡ Some h → h.version ≡ row.version → differs_from_kept h row ≡ true → inject_refusal s row ≡ Some Taken
kept_taken s row h is some here same other = kept_refusal s row h is some here same ∙ cond-true (differs_from_kept h row) _ _ other

-- ---- the profile that is kept

or_front : (a b c : Bool) → (a || b || c) ≡ false → (a || b) ≡ false
or_front true b c h = h
or_front false true c h = h
or_front false false c h = refl

profile_of_free : (h : Held) (row : Row) → differs_from_kept h row ≡ false → other_profile h row ≡ false
profile_of_free h row free = or_front (not (h.pages == (profile row).pages)) (not (h.crc == (profile row).crc)) _ free

some_same : (a b : Held) → ◌≡◌ {A = Option Held} (Some a) (Some b) → a ≡ b
some_same a b e = cc

pub same_profile_kept : (s : Store) (row : Row) (k : Held) → held s row.image ≡ Some k → other_profile k row ≡ false → SameProfile (held s row.image) row
same_profile_kept s row k here fits h is same = subst (λ (x : Held). other_profile x row ≡ false) (some_same k h (sym here ∙ is)) fits

-- what is not refused has the same profile
pub same_profile_free : (s : Store) (row : Row) → IsRow row → 1 ≤ row.image → inject_refusal s row ≡ None → SameProfile (held s row.image) row
same_profile_free s row is some none h here same = by (differs_from_kept h row) refl
  where
    by : (b : Bool) → differs_from_kept h row ≡ b → other_profile h row ≡ false
    by false e = profile_of_free h row e
    by true e = absurd (no (sym none ∙ kept_taken s row h is some here same e))
      where
        no : ◌≡◌ {A = Option InjectFault} None (Some Taken) → ⊥
        no e = cc

-- ---- the trail of a version that is kept

pub kept_trail : (s : Store) (row : Row) (h : Held) (n : ℕ) → inject_refusal s row ≡ None → held s row.image ≡ Some h → h.version ≡ row.version → n ≡ length h.complete → inject_trail s row ≡ fill_trail s row.image (drop n (object row))
unfolding inject_trail
kept_trail s row h n free here same count =
    ap (λ (o : Option InjectFault). inject_by o s row) free
    ∙ cond-true (is_version (held s row.image) row.version) _ _ (ap (λ (o : Option Held). is_version o row.version) here ∙ version)
    ∙ ap (λ (k : ℕ). fill_trail s row.image (drop k (object row))) (ap done_of here ∙ sym count)
  where
    version : h.version == row.version ≡ true
    version = grind (arith, nat_tests)

-- ---- the trail of a version that is started from page 0

abbrev pub Older : Store → Row → Type 0
Older s row = (h : Held) → held s row.image ≡ Some h → h.version < row.version

older_by : (s : Store) (row : Row) (o : Option Held) → ((h : Held) → o ≡ Some h → h.version < row.version) → refusal_by o s row ≡ cond (nat_lt s.room 2) (Some (Worn s.room)) None
older_by s row None older = refl
older_by s row (Some h) older =
    let less = older h refl in
    cond-false (nat_lt row.version h.version) _ _ (grind (arith, nat_tests)) ∙ cond-false (h.version == row.version) _ _ (grind (arith, nat_tests))

other_version : (version : ℕ) (o : Option Held) → ((h : Held) → o ≡ Some h → h.version < version) → is_version o version ≡ false
other_version version None older = refl
other_version version (Some h) older = let less = older h refl in grind (arith, nat_tests)

older_refusal : (s : Store) (row : Row) → IsRow row → 1 ≤ row.image → Older s row → inject_refusal s row ≡ cond (nat_lt s.room 2) (Some (Worn s.room)) None
older_refusal s row is some older = refusal_is s row is some ∙ older_by s row (held s row.image) older

pub older_worn : (s : Store) (row : Row) (room : ℕ) → IsRow row → 1 ≤ row.image → Older s row → s.room ≡ room → room < 2 → inject_refusal s row ≡ Some (Worn room)
older_worn s row room is some older same less = older_refusal s row is some older ∙ cond-true (nat_lt s.room 2) _ _ (grind (arith, nat_tests)) ∙ ap (λ (n : ℕ). Some (Worn n)) same

pub older_free : (s : Store) (row : Row) → IsRow row → 1 ≤ row.image → Older s row → 2 ≤ s.room → inject_refusal s row ≡ None
older_free s row is some older room = older_refusal s row is some older ∙ cond-false (nat_lt s.room 2) _ _ (grind (arith, nat_tests))

abbrev pub anew_trail : Store → Row → Trail Store
anew_trail s row = joined (take_trail s (profile row)) (fill_trail (last (take_trail s (profile row))) row.image (object row))

pub anew_is : (s : Store) (row : Row) → inject_refusal s row ≡ None → Older s row → inject_trail s row ≡ anew_trail s row
unfolding inject_trail
anew_is s row free older = ap (λ (o : Option InjectFault). inject_by o s row) free ∙ cond-false (is_version (held s row.image) row.version) _ _ (other_version row.version (held s row.image) older)

-- ---- what a take leaves

take_last : (s : Store) (p : Outline) → last (take_trail s p) ≡ keeping p.image (Some (held_begun p)) (spent (last (drop_trail s p.image)))
unfolding take_trail joined
take_last s p =
    let t = drop_trail s p.image in
    let x = last t in
    let next = keeping p.image (Some (held_begun p)) (spent x) in
    last-joined t (joined (resting x 2) (committing x next)) refl ∙ last-joined (resting x 2) (committing x next) (last-resting x 2) ∙ last-stepping x _ next

pub take_held : (c : List ℕ) (v : Volume) (s : Store) (p : Outline) → p.image < images → Mounted c v (last (take_trail s p)) → held (last (take_trail s p)) p.image ≡ Some (held_begun p)
take_held c v s p known m =
    let x = last (drop_trail s p.image) in
    let e = take_last s p in
    let count : length (keeping p.image (Some (held_begun p)) (spent x)).kept ≡ images = subst (λ (t : Store). length t.kept ≡ images) e m.stands.contains.count in
    ap (λ (t : Store). held t p.image) e ∙ held_here (spent x) p.image (Some (held_begun p)) (omega (arith, known, count, length-set x.kept p.image (Some (held_begun p))))

-- a volume that exposes the whole store exposes all but one slot
pub but_one : (P : ℕ → Type 0) (c : List ℕ) (v : Volume) (s : Store) → Mounted c v s → MountedBut P c v s
but_one P c v s m = record { control = m.control; stands = m.stands; tells = record { says = m.tells.says; room = m.tells.room; kept = λ i known other. m.tells.kept i known (λ x. x) } }

-- ---- the acts of a version that is started from page 0

pub anew_taking : (s : Store) (row : Row) (a b : Device) → Stops (take_trail s (profile row)) a b → Stops (anew_trail s row) a b
anew_taking s row a b h =
    let t = take_trail s (profile row) in
    stops_first t (fill_trail (last t) row.image (object row)) a b (fill_works (last t) row.image (object row)) (sym (fill_first (last t) row.image (object row))) h

pub anew_filling : (s : Store) (row : Row) (a b c : Device) (v : Volume) → Acted (take_trail s (profile row)) a b v → Stops (fill_trail (last (take_trail s (profile row))) row.image (object row)) b c → Stops (anew_trail s row) a c
anew_filling s row a b c v acted h =
    let t = take_trail s (profile row) in
    stops_then t (fill_trail (last t) row.image (object row)) a b c v (sym (fill_first (last t) row.image (object row))) acted h

pub anew_acted : (s : Store) (row : Row) (a b c : Device) (v w : Volume) → Acted (take_trail s (profile row)) a b v → Acted (fill_trail (last (take_trail s (profile row))) row.image (object row)) b c w → Acted (anew_trail s row) a c w
anew_acted s row a b c v w first second =
    let t = take_trail s (profile row) in
    acted_then t (fill_trail (last t) row.image (object row)) a b c v w (sym (fill_first (last t) row.image (object row))) first second

-- the slot was taken for the row, and is no longer lent
pub record Begun (s : Store) (row : Row) (a b : Device) (v w : Volume) : Type 0 where
  pub acted : Acted (take_trail s (profile row)) a b v
  pub mounted : Mounted b.image w (last (take_trail s (profile row)))
  pub here : held (last (take_trail s (profile row))) row.image ≡ Some (held_begun (profile row))

begun_by : (s : Store) (row : Row) (a b : Device) (v w : Volume) (slot : OpenSlot) → row.image < images → Acted (take_trail s (profile row)) a b v → outline_of_slot slot ≡ profile row → IsOpen b.image slot (held_begun (profile row))
    → ((c : List ℕ) (t : Store) (h : Held) → MountedBut (λ i. i ≡ (outline_of_slot slot).image) c v t → held t (outline_of_slot slot).image ≡ Some h → Opens slot h → Mounted c w t) → Begun s row a b v w
begun_by s row a b v w slot known acted same opened back =
    let x = last (take_trail s (profile row)) in
    let here : held x row.image ≡ Some (held_begun (profile row)) = take_held b.image v s (profile row) known acted.mounted in
    let image : (outline_of_slot slot).image ≡ row.image = ap (λ (p : Outline). p.image) same in
    record {
      acted = acted;
      mounted = back b.image x (held_begun (profile row)) (but_one (λ i. i ≡ (outline_of_slot slot).image) b.image v x acted.mounted) (subst (λ (n : ℕ). held x n ≡ Some (held_begun (profile row))) (sym image) here) opened.opens;
      here = here;
    }

pub begun_anew : (s : Store) (row : Row) (q : Outline) (a b : Device) (v w : Volume) (slot : OpenSlot) → row.image < images → q ≡ profile row → Acted (take_trail s q) a b v → outline_of_slot slot ≡ q → IsOpen b.image slot (held_begun q)
    → ((c : List ℕ) (t : Store) (h : Held) → MountedBut (λ i. i ≡ (outline_of_slot slot).image) c v t → held t (outline_of_slot slot).image ≡ Some h → Opens slot h → Mounted c w t) → Begun s row a b v w
begun_anew s row q a b v w slot known e acted same opened back =
    begun_by s row a b v w slot known (subst (λ (p : Outline). Acted (take_trail s p) a b v) e acted) (same ∙ e) (subst (λ (p : Outline). IsOpen b.image slot (held_begun p)) e opened) back

pub anew_fits : NextFits → (s : Store) (row : Row) (a b : Device) (v w : Volume) → IsRow row → row.image < images → Begun s row a b v w → FitAll row.image (object row) (last (take_trail s (profile row)))
anew_fits next s row a b v w is known begun =
    rest_part next row (length (object row)) 0 (held_begun (profile row)) (last (take_trail s (profile row))) (omega arith) refl is (part_begun row) (omega (arith, known, begun.mounted.stands.contains.count)) begun.here

pub older_told : (v : Volume) (s : Store) (row : Row) → row.image < images → Tells v s → ((k : Kept) → kept_at v row.image ≡ Some k → k.version < row.version) → Older s row
older_told v s row known tells older h here = older (told_held h) (tells.kept row.image known (λ x. x) ∙ ap told here)
