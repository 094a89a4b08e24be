-- What a start chooses, and what it leaves in program memory.
use Rattle.std.proofs.Common.{◌≡◌, ◌⊎◌, ℕ, Bool, true, false, not, List, take, Option, Some, None, option_map, IfSome, refl, sym, ap, subst, ◌∙◌, inl, inr, eqb-true, eq-eqb, ◌-◌, ltb-false, leb-true, arith, ⊎_elim}
use Rattle.std.proofs.Math.Seq.{take-length}
use Rattle.std.proofs.lemmas.Bool.{cond_both, cond-true, cond-false, and_parts, and_left, cases_Bool, and_cases, or_parts, or_right, true≢false}
use Rattle.std.specs.Prelude.{◌==◌, ◌&&◌, ◌||◌, ◌+◌, ◌*◌, ◌≤◌, nat_lt, nat_le, if◌then◌else◌, length}
use Rattle.dg_words.proofs.ListLemmas.{length-tabulate}
use Rattle.dg_nor.specs.Trail.{Trail, last, joined, resting}
use Rattle.dg_nor.proofs.TrailLemmas.{last-joined, last-resting, last-stepping}
use Rattle.dg_control.specs.Store.{commit_operations}
use Rattle.dg_control.specs.declared.snapshot.Order.{Order}
use Rattle.dg_object.specs.Object.{Row, object, pages_for, page_of_row}
use Rattle.dg_slot.specs.Kept.{Held}
use Rattle.dg_volume.specs.Sizes.{golden_version, short_starts, copy_operations}
use Rattle.dg_volume.specs.Store.{Store, App, held}
use Rattle.dg_volume.specs.Changes.{spent}
use Rattle.dg_volume.specs.Trails.{committing}
use Rattle.dg_volume.specs.Table.{row_at}
use Rattle.dg_volume.specs.Agreement.{KeepsRow, HoldsRow, Agrees}
use Rattle.dg_volume.specs.Start.{Runs, Boot, behind, counts, count_trail, by_gesture, order_waits, complete_pages, is_whole, is_set_to, blank_by, blank_trail, copy_trail, app_of, kept_runs, order_boot, golden_done, finish_trail, golden_copied, golden_stays, golden_by, golden_boot, kept_by, kept_boot, waived_once, boot_counted, boot, sound}
use Rattle.dg_volume.specs.declared.volume.StartCause.{StartCause}
use Rattle.dg_volume.specs.declared.volume.StartCause.TheVariants as cause
use Rattle.dg_base.specs.declared.events.ImageVersion.{ImageVersion}
use Rattle.dg_rules.specs.Small.{app_image_version}
use Rattle.dg_rules.specs.Events.{image_version_of}

abbrev pub golden_image_version : ImageVersion
golden_image_version = record { image = 0; version = golden_version }

-- the order's image, whole
pub record IsWaiting (order : Order) (kept : Option Held) (r : Runs) : Type 0 where
  pub some : order.number ≡ 0 → ⊥
  pub image : order.image ≡ r.image
  pub version : order.version ≡ r.version
  pub whole : is_whole kept order.version ≡ true

-- golden, what program memory was Set to, or the order's image
abbrev pub MayRun : Store → Runs → Type 0
MayRun s r = (image_version_of r ≡ golden_image_version) ⊎ ((option_map app_image_version s.app ≡ Some (image_version_of r)) ⊎ IsWaiting s.order (held s s.order.image) r)

-- program memory is Set to what runs, or is blank under golden
abbrev pub InMemory : Option App → Runs → Type 0
InMemory app r = (option_map app_image_version app ≡ Some (image_version_of r)) ⊎ ((app ≡ None) × (image_version_of r ≡ golden_image_version))

-- where the third short start is counted, no room is left
abbrev pub IsSettled : Store → Type 0
IsSettled s = s.gesture ≡ short_starts → s.room ≡ 0

-- what holds of a start of this store
pub record IsStart (s : Store) (b : Boot) : Type 0 where
  pub first : b.trail.first ≡ s
  pub chosen : (r : Runs) → b.runs ≡ Some r → MayRun s r
  pub memory : (r : Runs) → b.runs ≡ Some r → InMemory (last b.trail).app r
  pub settled : (r : Runs) → b.runs ≡ Some r → IsSettled (last b.trail)
  pub found : sound s 0 ≡ true → b.runs ≡ None → ⊥
  pub row : (table : List Row) → Agrees table s → (r : Runs) → b.runs ≡ Some r → HoldsRow table (app_of r)

same_runs : (a b : Runs) → Some a ≡ Some b → a ≡ b
same_runs a b e = cc

not_both : (r : Runs) → ◌≡◌ {A = Option Runs} None (Some r) → ⊥
not_both r e = cc

not_neither : (r : Runs) → ◌≡◌ {A = Option Runs} (Some r) None → ⊥
not_neither r e = cc

-- ---- the parts of a start

blank_app_by : (s : Store) (o : Option App) → s.app ≡ o → (last (blank_by o s)).app ≡ None
unfolding Rattle.dg_nor.specs.Trail.last_of
blank_app_by s None is = is
blank_app_by s (Some app) is = refl

blank_app : (s : Store) → (last (blank_trail s)).app ≡ None
unfolding blank_trail
blank_app s = blank_app_by s s.app refl

blank_first_by : (s : Store) (o : Option App) → (blank_by o s).first ≡ s
blank_first_by s None = refl
blank_first_by s (Some app) = refl

blank_first : (s : Store) → (blank_trail s).first ≡ s
unfolding blank_trail
blank_first s = blank_first_by s s.app

blank_settled_by : (s : Store) (o : Option App) → IsSettled s → IsSettled (last (blank_by o s))
unfolding Rattle.dg_nor.specs.Trail.last_of
blank_settled_by s None old = old
blank_settled_by s (Some app) old = λ e. let none : s.room ≡ 0 = old e in omega (arith, none)

blank_settled : (s : Store) → IsSettled s → IsSettled (last (blank_trail s))
unfolding blank_trail
blank_settled s old = blank_settled_by s s.app old

copied_last : (s : Store) (r : Runs) (u : Trail Store) → u.first ≡ last (blank_trail s) → last (joined (blank_trail s) (joined (copy_trail (last (blank_trail s)) r.pages) u)) ≡ last u
unfolding joined
copied_last s r u e =
    let b = last (blank_trail s) in
    last-joined (blank_trail s) (joined (copy_trail b r.pages) u) refl
    ∙ last-joined (copy_trail b r.pages) u (last-resting b (copy_operations * length r.pages) ∙ sym e)

copied_first : (s : Store) (r : Runs) (u : Trail Store) → (joined (blank_trail s) (joined (copy_trail (last (blank_trail s)) r.pages) u)).first ≡ s
unfolding joined
copied_first s r u = blank_first s

finish_first : (s : Store) (r : Runs) (three : Bool) → (finish_trail s r three).first ≡ s
unfolding finish_trail
finish_first s r three =
    cond_both (nat_lt 0 s.room && (not (is_set_to s.app 0 golden_version) || three)) (committing s (golden_done s r three)) (resting s 0) (λ (t : Trail Store). t.first ≡ s) (λ _. refl) (λ _. refl)

finish_memory : (s : Store) (r : Runs) (three : Bool) → InMemory s.app r → InMemory (last (finish_trail s r three)).app r
unfolding finish_trail Rattle.dg_nor.specs.Trail.last_of
finish_memory s r three m =
    cond_both (nat_lt 0 s.room && (not (is_set_to s.app 0 golden_version) || three)) (committing s (golden_done s r three)) (resting s 0) (λ (t : Trail Store). InMemory (last t).app r) (λ _. inl refl) (λ _. m)

no_room : (n : ℕ) (b : Bool) → (nat_lt 0 n && (b || true)) ≡ false → n ≡ 0
no_room n b e =
    ⊎_elim
    (λ low. let none = ltb-false 0 n low in omega (arith, none))
    (λ other. absurd (true≢false (sym (or_right b true refl) ∙ other)))
    (and_cases (nat_lt 0 n) (b || true) e)

finish_settled : (s : Store) (r : Runs) (three : Bool) → (three ≡ false → IsSettled s) → IsSettled (last (finish_trail s r three))
unfolding finish_trail Rattle.dg_nor.specs.Trail.last_of
finish_settled s r true old =
    cond_both (nat_lt 0 s.room && (not (is_set_to s.app 0 golden_version) || true)) (committing s (golden_done s r true)) (resting s 0) (λ (t : Trail Store). IsSettled (last t))
    (λ _ e. absurd (omega (arith, e))) (λ f _. no_room s.room (not (is_set_to s.app 0 golden_version)) f)
finish_settled s r false old =
    cond_both (nat_lt 0 s.room && (not (is_set_to s.app 0 golden_version) || false)) (committing s (golden_done s r false)) (resting s 0) (λ (t : Trail Store). IsSettled (last t))
    (λ _ e. let none : s.room ≡ 0 = old refl e in omega (arith, none)) (λ _. old refl)

-- ---- golden

golden_row_by : (table : List Row) (s : Store) → Agrees table s → HoldsRow table (app_of (kept_runs s 0 golden_version))
golden_row_by table s a = record { row = a.golden.0; in_table = a.golden.1; pages = ap complete_pages a.golden.2 }

golden_copied_start : (s : Store) (three : Bool) → (three ≡ false → IsSettled s) → IsStart s (golden_copied s three)
unfolding Rattle.dg_nor.specs.Trail.last_of
golden_copied_start s three old =
    let r = kept_runs s 0 golden_version in
    let b = last (blank_trail s) in
    let f = finish_trail b r three in
    let copied : Boot = record { runs = Some r; trail = joined (blank_trail s) (joined (copy_trail b r.pages) f) } in
    let none : Boot = record { runs = None; trail = resting s 0 } in
    let at : last copied.trail ≡ last f = copied_last s r f (finish_first b r three) in
    cond_both (sound s 0) copied none (IsStart s)
    (λ _. record {
      first = copied_first s r f;
      chosen = λ q e. inl (ap image_version_of (sym (same_runs r q e)));
      memory = λ q e. subst (InMemory (last copied.trail).app) (same_runs r q e) (subst (λ (x : Store). InMemory x.app r) (sym at) (finish_memory b r three (inr (blank_app s, refl))));
      settled = λ q e. subst IsSettled (sym at) (finish_settled b r three (λ no. blank_settled s (old no)));
      found = λ _ e. not_neither r e;
      row = λ table a q e. subst (λ (x : Runs). HoldsRow table (app_of x)) (same_runs r q e) (golden_row_by table s a);
    })
    (λ lost. record {
      first = refl;
      chosen = λ q e. absurd (not_both q e);
      memory = λ q e. absurd (not_both q e);
      settled = λ q e. absurd (not_both q e);
      found = λ is _. true≢false (sym is ∙ lost);
      row = λ table a q e. absurd (not_both q e);
    })

set_version : (app : App) (image version : ℕ) → is_set_to (Some app) image version ≡ true → (app.image ≡ image) × (app.version ≡ version)
set_version app image version is =
    let parts = and_parts (app.image == image) (app.version == version) is in
    (eqb-true app.image image parts.0, eqb-true app.version version parts.1)

same_app_version : (app : App) (image_version : ImageVersion) → app.image ≡ image_version.image → app.version ≡ image_version.version → app_image_version app ≡ image_version
same_app_version app image_version image version i = record { image = image i; version = version i }

golden_stays_start : (s : Store) (app : App) (three : Bool) → s.app ≡ Some app → is_set_to (Some app) 0 golden_version ≡ true → (three ≡ false → IsSettled s) → IsStart s (golden_stays s app three)
golden_stays_start s app three here is old =
    let r : Runs = record { image = 0; version = golden_version; pages = app.pages } in
    let own = set_version app 0 golden_version is in
    record {
      first = finish_first s r three;
      chosen = λ q e. inl (ap image_version_of (sym (same_runs r q e)));
      memory = λ q e. subst (InMemory (last (finish_trail s r three)).app) (same_runs r q e)
          (finish_memory s r three (inl (ap (option_map app_image_version) here ∙ ap (λ (k : ImageVersion). Some k) (same_app_version app golden_image_version own.0 own.1))));
      settled = λ q e. finish_settled s r three old;
      found = λ _ e. not_neither r e;
      row = λ table a q e. subst (λ (x : Runs). HoldsRow table (app_of x)) (same_runs r q e)
          (let h : HoldsRow table app = subst (λ (o : Option App). IfSome o (HoldsRow table)) here a.app in
          record { row = h.row; in_table = ap (λ (i : ℕ). row_at table i golden_version) (sym own.0) ∙ ap (row_at table app.image) (sym own.1) ∙ h.in_table; pages = h.pages });
    }

golden_start_by : (s : Store) (three : Bool) (o : Option App) → s.app ≡ o → (three ≡ false → IsSettled s) → IsStart s (golden_by o s three)
golden_start_by s three None here old = golden_copied_start s three old
golden_start_by s three (Some app) here old =
    cond_both (is_set_to (Some app) 0 golden_version) (golden_stays s app three) (golden_copied s three) (IsStart s)
    (λ is. golden_stays_start s app three here is old) (λ _. golden_copied_start s three old)

golden_start : (s : Store) (three : Bool) → (three ≡ false → IsSettled s) → IsStart s (golden_boot s three)
unfolding golden_boot
golden_start s three old = golden_start_by s three s.app refl old

-- ---- what is kept in program memory

kept_start_by : (s : Store) (three : Bool) (o : Option App) → s.app ≡ o → IsSettled s → IsStart s (kept_by o s three)
unfolding Rattle.dg_nor.specs.Trail.last_of
kept_start_by s three None here old = golden_start s three (λ _. old)
kept_start_by s three (Some app) here old =
    let r : Runs = record { image = app.image; version = app.version; pages = app.pages } in
    let own : option_map app_image_version s.app ≡ Some (image_version_of r) = ap (option_map app_image_version) here in
    record {
      first = refl;
      chosen = λ q e. subst (MayRun s) (same_runs r q e) (inr (inl own));
      memory = λ q e. subst (InMemory s.app) (same_runs r q e) (inl own);
      settled = λ q e. old;
      found = λ _ e. not_neither r e;
      row = λ table a q e. subst (λ (x : Runs). HoldsRow table (app_of x)) (same_runs r q e)
          (subst (λ (o : Option App). IfSome o (HoldsRow table)) here a.app);
    }

kept_start : (s : Store) (three : Bool) → IsSettled s → IsStart s (kept_boot s three)
unfolding kept_boot
kept_start s three old = kept_start_by s three s.app refl old

-- ---- the order's image

whole_row_by : (table : List Row) (image version : ℕ) (o : Option Held) → is_whole o version ≡ true → IfSome o (KeepsRow table image) → HoldsRow table (record { image = image; version = version; pages = complete_pages o })
whole_row_by table image version None is keeps = cc
whole_row_by table image version (Some h) is keeps =
    let parts = and_parts (h.version == version) (length h.complete == h.pages) is in
    let same : h.version ≡ version = eqb-true h.version version parts.0 in
    let all : length h.complete ≡ h.pages = eqb-true (length h.complete) h.pages parts.1 in
    let many : length h.complete ≡ length (object keeps.row) = all ∙ keeps.pages ∙ sym (length-tabulate (pages_for (length keeps.row.bytes)) (page_of_row keeps.row)) in
    record {
      row = keeps.row;
      in_table = ap (row_at table image) (sym same) ∙ keeps.in_table;
      pages = keeps.first ∙ ap (λ (n : ℕ). take n (object keeps.row)) many ∙ take-length (object keeps.row);
    }

pub waits_whole : (s : Store) → order_waits s ≡ true → is_whole (held s s.order.image) s.order.version ≡ true
waits_whole s waits =
    let one = and_parts (not (s.order.number == 0)) _ waits in
    let two = and_parts (not s.waived) _ one.1 in
    (and_parts (is_whole (held s s.order.image) s.order.version) _ two.1).0

pub waits_some : (s : Store) → order_waits s ≡ true → s.order.number ≡ 0 → ⊥
waits_some s waits e =
    let one = and_parts (not (s.order.number == 0)) _ waits in
    true≢false (sym one.0 ∙ ap not (eq-eqb s.order.number 0 e))

pub waits_room : (s : Store) → order_waits s ≡ true → 2 ≤ s.room
waits_room s waits =
    let one = and_parts (not (s.order.number == 0)) _ waits in
    let two = and_parts (not s.waived) _ one.1 in
    let three = and_parts (is_whole (held s s.order.image) s.order.version) _ two.1 in
    leb-true 2 s.room (and_parts (not (is_set_to s.app s.order.image s.order.version)) (nat_le 2 s.room) three.1).1

order_start : (s : Store) → order_waits s ≡ true → IsSettled s → IsStart s (order_boot s)
unfolding order_boot
order_start s waits old =
    let r = kept_runs s s.order.image s.order.version in
    let b = last (blank_trail s) in
    let t : Store = record (spent b) { app = Some (app_of r) } in
    let way = joined (blank_trail s) (joined (copy_trail b r.pages) (committing b t)) in
    let at : last way ≡ t = copied_last s r (committing b t) refl ∙ last-stepping b (commit_operations b.room) t in
    let settled : IsSettled t = λ e. let none : b.room ≡ 0 = blank_settled s old e in omega (arith, none) in
    record {
      first = copied_first s r (committing b t);
      chosen = λ q e. subst (MayRun s) (same_runs r q e) (inr (inr (record { some = waits_some s waits; image = refl; version = refl; whole = waits_whole s waits })));
      memory = λ q e. subst (InMemory (last way).app) (same_runs r q e) (subst (λ (x : Store). InMemory x.app r) (sym at) (inl refl));
      settled = λ q e. subst IsSettled (sym at) settled;
      found = λ _ e. not_neither r e;
      row = λ table a q e. subst (λ (x : Runs). HoldsRow table (app_of x)) (same_runs r q e)
          (whole_row_by table s.order.image s.order.version (held s s.order.image) (waits_whole s waits) (a.kept s.order.image));
    }

-- ---- a start

-- the start of a store that differs in no more than this, after a trail that makes it
behind_start : (s : Store) (gesture : ℕ) (waived : Bool) (room : ℕ) (t : Trail Store) (b : Boot) → t.first ≡ s → last t ≡ record s { gesture = gesture; waived = waived; room = room }
    → IsStart (record s { gesture = gesture; waived = waived; room = room }) b → IsStart s (behind t b)
unfolding joined
behind_start s gesture waived room t b begins ends start =
    let at : last (joined t b.trail) ≡ last b.trail = last-joined t b.trail (ends ∙ sym start.first) in
    record {
      first = begins;
      chosen = λ q e. start.chosen q e;
      memory = λ q e. subst (λ (x : Store). InMemory x.app q) (sym at) (start.memory q e);
      settled = λ q e. subst IsSettled (sym at) (start.settled q e);
      found = λ is none. start.found is none;
      row = λ table a q e. start.row table (record { golden = a.golden; kept = a.kept; app = a.app }) q e;
    }

by_gesture_settled : (s : Store) → by_gesture s ≡ false → IsSettled s
by_gesture_settled s e three =
    ⊎_elim
    (λ other. absurd (true≢false (sym (eq-eqb s.gesture short_starts three) ∙ other)))
    (λ none. let low = ltb-false 0 s.room (or_parts (nat_lt 0 s.room) _ none).0 in omega (arith, low))
    (and_cases (s.gesture == short_starts) _ e)

waived_start : (s : Store) (three : Bool) → IsSettled s → IsStart s (behind (committing s (waived_once s)) (kept_boot (waived_once s) three))
waived_start s three old =
    behind_start s s.gesture true (s.room - 1) (committing s (waived_once s)) (kept_boot (waived_once s) three) refl (last-stepping s (commit_operations s.room) (waived_once s))
    (kept_start (waived_once s) three (λ e. let none : s.room ≡ 0 = old e in omega (arith, none)))

counted_start : (s : Store) → IsStart s (boot_counted s)
unfolding boot_counted
counted_start s =
    let three = s.gesture == short_starts in
    let waived = behind (committing s (waived_once s)) (kept_boot (waived_once s) three) in
    let ordered = if sound s s.order.image then order_boot s else waived in
    cond_both (by_gesture s) (golden_boot s true) (if order_waits s then ordered else kept_boot s three) (IsStart s) (λ _. golden_start s true (λ e. absurd (true≢false e)))
    (λ calm. let old = by_gesture_settled s calm in
    cond_both (order_waits s) ordered (kept_boot s three) (IsStart s)
    (λ waits. cond_both (sound s s.order.image) (order_boot s) waived (IsStart s) (λ _. order_start s waits old) (λ _. waived_start s three old))
    (λ _. kept_start s three old))

pub boot_start : (k : StartCause) (s : Store) → IsStart s (boot k s)
unfolding boot count_trail Rattle.dg_nor.specs.Trail.last_of
boot_start k s =
    let t : Store = record (spent s) { gesture = s.gesture + 1 } in
    cond_both (counts k s) (committing s t) (resting s 0) (λ (x : Trail Store). IsStart s (behind x (boot_counted (last x))))
    (λ _. behind_start s (s.gesture + 1) s.waived (s.room - 1) (committing s t) (boot_counted t) refl refl (counted_start t))
    (λ _. behind_start s s.gesture s.waived s.room (resting s 0) (boot_counted s) refl refl (counted_start s))

-- an order that waits is started, where its image is sound and short starts do not choose golden
pub order_alone : (s : Store) → order_waits s ≡ true → IsSettled s → sound s s.order.image ≡ true → (boot cause.Order s).runs ≡ Some (kept_runs s s.order.image s.order.version)
unfolding boot count_trail boot_counted order_boot Rattle.dg_nor.specs.Trail.last_of
order_alone s waits old is =
    let three = s.gesture == short_starts in
    let waived = behind (committing s (waived_once s)) (kept_boot (waived_once s) three) in
    let ordered = if sound s s.order.image then order_boot s else waived in
    let room = waits_room s waits in
    let calm : by_gesture s ≡ false =
    ⊎_elim
    (λ three. let none = old (eqb-true s.gesture short_starts three) in absurd (omega (arith, room, none)))
    (λ other. and_left (s.gesture == short_starts) _ other)
    (cases_Bool (s.gesture == short_starts)) in
    ap (λ (b : Boot). b.runs)
    (cond-false (by_gesture s) (golden_boot s true) (if order_waits s then ordered else kept_boot s three) calm
    ∙ cond-true (order_waits s) ordered (kept_boot s three) waits
    ∙ cond-true (sound s s.order.image) (order_boot s) waived is)
