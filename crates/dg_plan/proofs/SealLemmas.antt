-- A page that is sealed as it is in its sector.
use Rattle.std.proofs.Common.{◌≡◌, ◌≢◌, ◌⊎◌, ℕ, zero, suc, ◌<◌, ◌≤◌, Bool, true, false, List, length, Option, Some, None, ⊎_elim, refl, sym, ap, subst, ◌∙◌, arith}
use Rattle.std.specs.Prelude.{IsSomeAnd, if◌then◌else◌}
use Rattle.std.specs.FinSet as set
use Rattle.std.proofs.lemmas.Bool.{both_ways, lt-ltb}
use Rattle.dg_bits.specs.Sets.{Numbers, below}
use Rattle.dg_bits.proofs.SetLaws.{contains-below}
use Rattle.dg_base.specs.Crc.{crc_of}
use Rattle.dg_nor.specs.Sizes.{sectors, chip_size}
use Rattle.dg_nor.specs.Device.{Ran}
use Rattle.dg_nor.specs.Reads.{Looked}
use Rattle.dg_nor.specs.Trail.{operations, last, stepping, resting}
use Rattle.dg_nor.proofs.TrailLemmas.{operations-stepping, last-stepping}
use Rattle.dg_slot.specs.Layout.{packets, most_pages, page_sector}
use Rattle.dg_slot.specs.Pages.{page_in}
use Rattle.dg_slot.specs.Kept.{Held, KeepsImage, with_page, kept_crc}
use Rattle.dg_slot.specs.Fits.{may_seal}
use Rattle.dg_slot.specs.Jobs.{outline_of_slot, done_of_slot, slot_of, sector_of, IsOpen, IsJob, Packets, packets_of, page_from, ArePut}
use Rattle.dg_slot.specs.declared.states.OpenSlot.{OpenSlot}
use Rattle.dg_slot.specs.declared.states.PageJob.{PageJob}
use Rattle.dg_volume.specs.Sizes.{images, golden_version}
use Rattle.dg_volume.specs.Store.{Store, KeepsGolden, held}
use Rattle.dg_volume.specs.Told.{told, told_held}
use Rattle.dg_volume.specs.Stands.{Stands, Mounted, kept_at, is_lent}
use Rattle.dg_volume.specs.Changes.{paged}
use Rattle.dg_volume.specs.Trails.{sealing_trail}
use Rattle.dg_volume.specs.Acts.{Stops}
use Rattle.dg_volume.specs.declared.volume.Kept.{Kept}
use Rattle.dg_volume.specs.declared.volume.Volume.{Volume}
use Rattle.dg_plan.specs.declared.pages.PageName.{PageName}
use Rattle.dg_plan.specs.Packets.{sector_named, its_page, IsSealed}
use Rattle.dg_plan.specs.declared.plan.Plan.{Plan}
use Rattle.dg_plan.specs.Plans.{planned, plan_device}
use Rattle.dg_plan.specs.Acts.{IsPlanOf}
use Rattle.dg_plan.proofs.PlanLemmas.{looked_ran, looked_halted, plan_by}
use Rattle.dg_plan.proofs.PacketLemmas.{same_sector}

-- ---- what is kept

pub record IsHeld (s : Store) (i : ℕ) : Type 0 where
  pub kept : Held
  pub here : held s i ≡ Some kept

held_by : (s : Store) (i : ℕ) (k : Kept) (o : Option Held) → held s i ≡ o → told o ≡ Some k → IsHeld s i
held_by s i k None is e = cc
held_by s i k (Some h) is e = record { kept = h; here = is }

pub held_told : (c : List ℕ) (v : Volume) (s : Store) (i : ℕ) (k : Kept) → i < images → Mounted c v s → kept_at v i ≡ Some k → IsHeld s i
held_told c v s i k known m is = held_by s i k (held s i) refl (sym (m.tells.kept i known (λ x. x)) ∙ is)

pub not_told : (c : List ℕ) (v : Volume) (s : Store) (i : ℕ) (h : Held) → i < images → Mounted c v s → held s i ≡ Some h → (kept_at v i ≡ None) ⊎ (is_lent v i ≡ true) → is_lent v i ≡ false → ⊥
not_told c v s i h known m here either free =
    ⊎_elim
    (λ none. let e : Some (told_held h) ≡ None = sym (m.tells.kept i known (λ x. x) ∙ ap told here) ∙ none in cc)
    (λ lent. both_ways (is_lent v i) free lent)
    either

golden_whole : (s : Store) (h : Held) → KeepsGolden s → held s 0 ≡ Some h → length h.complete < h.pages → ⊥
golden_whole s h golden here more =
    let whole = subst (λ (o : Option Held). IsSomeAnd o (λ x. (x.version ≡ golden_version) × (length x.complete ≡ x.pages))) here golden.whole in
    let same = whole.1 in
    absurd (omega (arith, same, more))

-- golden has no next page
pub not_golden : (c : List ℕ) (s : Store) (i : ℕ) (h : Held) → Stands c s → held s i ≡ Some h → length h.complete < h.pages → 1 ≤ i
not_golden c s zero h stands here more = absurd (golden_whole s h stands.contains.golden here more)
not_golden c s (suc i) h stands here more = omega arith

-- ---- the trail

pub sealing_operations : (s : Store) (i : ℕ) (h : Held) (page : List ℕ) → may_seal i h page ≡ true → operations (sealing_trail s i h page) ≡ 1
sealing_operations s i h page fits =
    subst (λ (b : Bool). operations (if b then stepping s 1 (paged i page s) else resting s 0) ≡ 1) (sym fits) (operations-stepping s 1 (paged i page s))

pub sealing_last : (s : Store) (i : ℕ) (h : Held) (page : List ℕ) → may_seal i h page ≡ true → last (sealing_trail s i h page) ≡ paged i page s
sealing_last s i h page fits =
    subst (λ (b : Bool). last (if b then stepping s 1 (paged i page s) else resting s 0) ≡ paged i page s) (sym fits) (last-stepping s 1 (paged i page s))

-- ---- the page in its sector

pub all_in : (got : Numbers) → got ≡ below packets → (q : ℕ) → q < packets → set.contains got q ≡ true
all_in got e q l = ap (λ (s : Numbers). set.contains s q) e ∙ contains-below packets q ∙ lt-ltb q packets l

abbrev pub Resumes : OpenSlot → Numbers → PageJob → Type 0
Resumes o got j = (c : List ℕ) (h : Held) (ps : Packets) → IsOpen c o h → ArePut c (sector_of j) got ps → IsJob c j h ps

abbrev pub AllPut : Type 0
AllPut = (c : List ℕ) (k : ℕ) (got : Numbers) → length c ≡ chip_size → k < sectors → ((q : ℕ) → q < packets → set.contains got q ≡ true) → ArePut c k got (packets_of (page_in c k))

abbrev pub PutPage : Type 0
PutPage = (c : List ℕ) (k : ℕ) (got : Numbers) (ps : Packets) → length c ≡ chip_size → k < sectors → ((q : ℕ) → q < packets → set.contains got q ≡ true) → ArePut c k got ps → page_from ps ≡ page_in c k

-- all packets are there: they make the page in the sector
pub record IsReady (c : List ℕ) (j : PageJob) (name : PageName) (h : Held) : Type 0 where
  pub packets_there : Packets
  pub is_job : IsJob c j h packets_there
  pub page : page_from packets_there ≡ its_page c name
  pub image : (outline_of_slot (slot_of j)).image ≡ name.image

pub ready : (all_put : AllPut) (put_page : PutPage) (c : List ℕ) (o : OpenSlot) (j : PageJob) (got : Numbers) (name : PageName) (h : Held) → length c ≡ chip_size → name.image < images → name.page < most_pages → slot_of j ≡ o → got ≡ below packets → Resumes o got j
    → (outline_of_slot o).image ≡ name.image → done_of_slot o ≡ name.page → IsOpen c o h → IsReady c j name h
ready all_put put_page c o j got name h whole known few slot every resumes image page opened =
    let k = sector_named name in
    let in_chip : k < sectors = omega (arith, known, few) in
    let all = all_in got every in
    let put = all_put c k got whole in_chip all in
    let ps = packets_of (page_in c k) in
    let sector : sector_of j ≡ k = ap (λ (x : OpenSlot). page_sector (outline_of_slot x).image (done_of_slot x)) slot ∙ same_sector o name image page in
    record {
      packets_there = ps;
      is_job = resumes c h ps opened (subst (λ (n : ℕ). ArePut c n got ps) (sym sector) put);
      page = put_page c k got ps whole in_chip all put;
      image = ap (λ (x : OpenSlot). (outline_of_slot x).image) slot ∙ image;
    }

-- ---- a chip that was only read before

same_page : (old mid : Plan) (name : PageName) → Looked (plan_device old) (plan_device mid) → its_page (planned mid) name ≡ its_page (planned old) name
same_page old mid name looked = ap (λ (c : List ℕ). its_page c name) looked.same_image

abbrev pub SealedIn : PageName → Store → (mid new : Plan) → List ℕ → Type 0
SealedIn name s mid new p =
    (h : Held) × IsSealed name h p s × Ran (operations (sealing_trail s name.image h p)) (plan_device mid) (plan_device new)
    × Stands (planned new) (last (sealing_trail s name.image h p))

pub sealed_before : (old mid new : Plan) (name : PageName) (s : Store) → Looked (plan_device old) (plan_device mid) → SealedIn name s mid new (its_page (planned mid) name)
    → (h : Held) × IsSealed name h (its_page (planned old) name) s × IsPlanOf (sealing_trail s name.image h (its_page (planned old) name)) old new
sealed_before old mid new name s looked x =
    let y = subst (SealedIn name s mid new) (same_page old mid name looked) x in
    (y.0, y.1, plan_by (sealing_trail s name.image y.0 (its_page (planned old) name)) old new y.3 (looked_ran looked y.2))

pub bad_before : (old mid : Plan) (name : PageName) (h : Held) (kept found : ℕ) → Looked (plan_device old) (plan_device mid) → (kept ≡ kept_crc h) × (found ≡ crc_of (its_page (planned mid) name)) × (found ≢ kept)
    → (kept ≡ kept_crc h) × (found ≡ crc_of (its_page (planned old) name)) × (found ≢ kept)
bad_before old mid name h kept found looked x = (x.0, x.1 ∙ ap crc_of (same_page old mid name looked), x.2)

pub unfit_before : (old mid : Plan) (name : PageName) (h : Held) → Looked (plan_device old) (plan_device mid) → (name.page ≡ 0) × (may_seal name.image h (its_page (planned mid) name) ≡ false)
    → (name.page ≡ 0) × (may_seal name.image h (its_page (planned old) name) ≡ false)
unfit_before old mid name h looked x = (x.0, subst (λ (p : List ℕ). may_seal name.image h p ≡ false) (same_page old mid name looked) x.1)

pub stopped_before : (old mid new : Plan) (name : PageName) (s : Store) (h : Held) → Looked (plan_device old) (plan_device mid) → Stops (sealing_trail s name.image h (its_page (planned mid) name)) (plan_device mid) (plan_device new)
    → Stops (sealing_trail s name.image h (its_page (planned old) name)) (plan_device old) (plan_device new)
stopped_before old mid new name s h looked x =
    looked_halted looked (subst (λ (p : List ℕ). Stops (sealing_trail s name.image h p) (plan_device mid) (plan_device new)) (same_page old mid name looked) x)

-- ---- a slot with one more page

pub keeps_more : (new : List ℕ) (o : OpenSlot) (i : ℕ) (h : Held) (p q : List ℕ) → (outline_of_slot o).image ≡ i → p ≡ q → IsOpen new o (with_page h p) → KeepsImage new i (with_page h q)
keeps_more new o i h p q image page opened = subst (λ (n : ℕ). KeepsImage new n (with_page h q)) image (subst (λ (x : List ℕ). KeepsImage new (outline_of_slot o).image (with_page h x)) page opened.keeps)
