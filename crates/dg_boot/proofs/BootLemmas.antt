-- Parts of a start that follow one another.
use Rattle.std.proofs.Common.{◌≡◌, ℕ, ◌*◌, ◌<◌, ◌≤◌, List, [], ◌∷◌, length, Some, None, Result, Ok, Err, IfOk, OnOk, OnErr, refl, sym, ap, subst, ◌∙◌, inl, inr, arith}
use Rattle.std.specs.Bool.{⊤}
use Rattle.std.specs.Prelude.{IsErrAnd}
use Rattle.dg_words.proofs.ListLemmas.{length-tabulate}
use Rattle.dg_words.specs.Cells.{part}
use Rattle.dg_nor.specs.Chip.{Touches, sector}
use Rattle.dg_nor.specs.Device.{Device, Ran, Halts, Halted}
use Rattle.dg_nor.specs.Reads.{Looked, ReadStopped}
use Rattle.dg_nor.specs.Trail.{Trail, Stage, last, operations, resting, EachWorks, LeavesFrom, Leaves}
use Rattle.dg_nor.proofs.TrailLemmas.{operations-joined, operations-resting, last-joined, last-resting, Ran-joined}
use Rattle.dg_object.proofs.RowLemmas.{pages_for-most}
use Rattle.dg_slot.specs.Layout.{page_size, most_pages, program_sector, program_end}
use Rattle.dg_slot.specs.Pages.{page_in, program}
use Rattle.dg_volume.specs.Sizes.{control_sectors, copy_operations}
use Rattle.dg_volume.specs.Store.{App, Store, IsNear}
use Rattle.dg_volume.specs.Stands.{Stands, Mounted, HoldsApp, NothingLent}
use Rattle.dg_volume.specs.Trails.{BeginsAt}
use Rattle.dg_volume.specs.Start.{Runs, Boot, behind, copy_trail}
use Rattle.dg_volume.specs.Acts.{Acted, Stops, TouchesBut}
use Rattle.dg_volume.specs.declared.volume.Volume.{Volume}
use Rattle.dg_volume.proofs.ActLemmas.{acted_then, stops_then}
use Rattle.dg_volume.proofs.BehindLemmas.{memory_free}
use Rattle.dg_boot.specs.Loads.{Measures}
use Rattle.dg_boot.specs.Started.{NoImageFound}
use Rattle.dg_boot.specs.Ends.{TrailWent, BootOutcome}
use Rattle.dg_boot.specs.declared.Started.{Started}
use Rattle.dg_boot.specs.declared.loaded.Loaded.{Loaded}
use Rattle.dg_boot.specs.declared.BootFault.{BootFault}
use Rattle.dg_boot.specs.declared.BootFault.TheVariants as faults
use Rattle.dg_boot.proofs.ReadLemmas.{ran_after, halts_after, halts_within}
use Rattle.dg_boot.proofs.DescriptorLemmas.{same_tables}

-- ---- results

pub if_ok_both : {T E Q : Type 0} (P R : T → Type 0) (r : Result T E) → IfOk r P → OnOk r Q → ((x : T) → P x → Q → R x) → IfOk r R
if_ok_both P R (Ok x) p q f = f x p q
if_ok_both P R (Err e) p q f = tt

pub on_err_map : {T E P Q : Type 0} (r : Result T E) → OnErr r P → (P → Q) → OnErr r Q
on_err_map (Ok x) p f = tt
on_err_map (Err e) p f = f p

-- ---- an act, and what comes after it

pub boots_then : (r : Result Started BootFault) (t : Trail Store) (b : Boot) (x y z : Device) (v : Volume) → last t ≡ b.trail.first → TrailWent t x y v → BootOutcome r b y z → BootOutcome r (behind t b) x z
boots_then (Ok told) t b x y z v same went h =
    let s = h.0 in (
      record {
        runs = s.runs;
        chosen = s.chosen;
        image = s.image;
        version = s.version;
        pages = s.pages;
        length = s.length;
        crc = s.crc;
        acted = acted_then t b.trail x y z v told.volume same went.acted s.acted;
        free = s.free;
        memory = s.memory;
      },
      λ none.
          let sum = operations-joined t b.trail in
          h.1 (omega (arith, sum, none)) ∙ went.idle (omega (arith, sum, none)),
    )
boots_then (Err faults.NoImage) t b x y z v same went h =
    record { none = h.none; ran = Ran-joined t b.trail went.acted.ran h.ran; stands = subst (Stands z.image) (sym (last-joined t b.trail same)) h.stands }
boots_then (Err faults.Stopped) t b x y z v same went h = stops_then t b.trail x y z v same went.acted h
boots_then (Err faults.NotAVolume) t b x y z v same went h = h

-- ---- a read before it

pub went_looked : (t : Trail Store) (x y z : Device) (v : Volume) → Looked x y → TrailWent t y z v → TrailWent t x z v
went_looked t x y z v looked went = record {
  acted = record { ran = ran_after looked.ran went.acted.ran; mounted = went.acted.mounted };
  idle = λ none. went.idle none ∙ looked.same_image;
}

pub mounted_looked : (s : Store) (x y : Device) (v : Volume) → Looked x y → Mounted x.image v s → Mounted y.image v s
mounted_looked s x y v looked m = subst (λ (c : List ℕ). Mounted c v s) (sym looked.same_image) m

pub went_read : (s : Store) (x y : Device) (v : Volume) → Looked x y → Mounted x.image v s → TrailWent (resting s 0) x y v
went_read s x y v looked m = record {
  acted = record {
    ran = subst (λ (n : ℕ). Ran n x y) (sym (operations-resting s 0)) looked.ran;
    mounted = subst (Mounted y.image v) (sym (last-resting s 0)) (mounted_looked s x y v looked m);
  };
  idle = λ _. looked.same_image;
}

pub stops_looked : (t : Trail Store) (x y z : Device) → Looked x y → Stops t y z → Stops t x z
stops_looked t x y z looked h = record { done = h.done; halts = halts_after looked.ran h.halts; leaves = h.leaves }

pub boots_looked : (r : Result Started BootFault) (b : Boot) (x y z : Device) → Looked x y → BootOutcome r b y z → BootOutcome r b x z
boots_looked (Ok told) b x y z looked h =
    let s = h.0 in (
      record {
        runs = s.runs;
        chosen = s.chosen;
        image = s.image;
        version = s.version;
        pages = s.pages;
        length = s.length;
        crc = s.crc;
        acted = record { ran = ran_after looked.ran s.acted.ran; mounted = s.acted.mounted };
        free = s.free;
        memory = s.memory;
      },
      λ none. h.1 none ∙ looked.same_image,
    )
boots_looked (Err faults.NoImage) b x y z looked h = record { none = h.none; ran = ran_after looked.ran h.ran; stands = h.stands }
boots_looked (Err faults.Stopped) b x y z looked h = stops_looked b.trail x y z looked h
boots_looked (Err faults.NotAVolume) b x y z looked h = h

-- ---- a read that stopped

near_self : (s : Store) → IsNear s s
near_self s = record { same = refl; room = inl refl }

leaves_first : (s : Store) (stages : List (Stage Store)) → EachWorks stages → LeavesFrom IsNear s stages 0 s
unfolding LeavesFrom EachWorks
leaves_first s [] works = near_self s
leaves_first s (stage ∷ stages) works = inr (works.0, inl (near_self s))

leaves_begin : (s : Store) (t : Trail Store) → BeginsAt s t → Leaves IsNear t 0 s
leaves_begin s t b = subst (λ (x : Store). LeavesFrom IsNear x t.stages 0 s) (sym b.first) (leaves_first s t.stages b.works)

pub read_stops : (s : Store) (t : Trail Store) (x y : Device) → BeginsAt s t → Stands x.image s → ReadStopped x y → Stops t x y
read_stops s t x y b stands h = record {
  done = 0;
  halts = halts_within (operations t) h.halts (omega arith);
  leaves = record { store = s; stands_for = subst (λ (c : List ℕ). Stands c s) (sym h.same_image) stands; allowed = leaves_begin s t b };
}

-- ---- a copy, which leaves the store unchanged

pub copy_went : (s : Store) (pages : List (List ℕ)) (a b : Device) (v : Volume) → s.app ≡ None → 0 < length pages → Mounted a.image v s → Touches (program_sector 0) program_end a.image b.image → Ran (copy_operations * length pages) a b → TrailWent (copy_trail s pages) a b v
copy_went s pages a b v none some m touches ran =
    let n = copy_operations * length pages in
    record {
      acted = record {
        ran = subst (λ (k : ℕ). Ran k a b) (sym (operations-resting s n)) ran;
        mounted = subst (Mounted b.image v) (sym (last-resting s n)) (memory_free a.image b.image v s none touches m);
      };
      idle = λ e. let count = operations-resting s n in absurd (omega (arith, count, e, some));
    }

leaves_resting : (s : Store) (n k : ℕ) → Leaves IsNear (resting s n) k s
unfolding LeavesFrom
leaves_resting s n k = near_self s

pub copy_stops : (s : Store) (pages : List (List ℕ)) (a b : Device) (v : Volume) → s.app ≡ None → Mounted a.image v s → Touches (program_sector 0) program_end a.image b.image → Halted (copy_operations * length pages) (λ _ _. ⊤) a b → Stops (copy_trail s pages) a b
copy_stops s pages a b v none m touches h =
    let n = copy_operations * length pages in
    record {
      done = h.done;
      halts = subst (λ (k : ℕ). Halts k h.done a b) (sym (operations-resting s n)) h.halts;
      leaves = record { store = s; stands_for = (memory_free a.image b.image v s none touches m).stands; allowed = leaves_resting s n h.done };
    }

-- ---- touched sectors

pub TouchesBut-commit : (a b : ℕ) {c d : List ℕ} → Touches 0 control_sectors c d → TouchesBut a b c d
TouchesBut-commit a b t = record { before = λ k low _ l. t.behind k low l; behind = λ k low _ l. t.behind k low l }

pub TouchesBut-memory : (a b : ℕ) {c d : List ℕ} → Touches a b c d → TouchesBut a b c d
TouchesBut-memory a b t = record { before = λ k _ h l. t.before k h l; behind = λ k _ h l. t.behind k h l }

pub TouchesBut-looked : (a b : ℕ) {x y : Device} → Looked x y → TouchesBut a b x.image y.image
TouchesBut-looked a b looked = record { before = λ k _ _ _. ap (λ (c : List ℕ). sector c k) looked.same_image; behind = λ k _ _ _. ap (λ (c : List ℕ). sector c k) looked.same_image }

pub TouchesBut-same : (a b : ℕ) {c d : List ℕ} → d ≡ c → TouchesBut a b c d
TouchesBut-same a b e = record { before = λ k _ _ _. ap (λ (c : List ℕ). sector c k) e; behind = λ k _ _ _. ap (λ (c : List ℕ). sector c k) e }

pub TouchesBut_then : {a b : ℕ} {c d e : List ℕ} → TouchesBut a b c d → TouchesBut a b d e → TouchesBut a b c e
TouchesBut_then p q = record { before = λ k low h l. q.before k low h l ∙ p.before k low h l; behind = λ k low h l. q.behind k low h l ∙ p.behind k low h l }

-- ---- what runs, once the last commit was made

pub app_most : (c : List ℕ) (app : App) → HoldsApp c app → length app.pages ≤ most_pages
app_most c app holds =
    let x = holds.described in
    let count : length app.pages ≡ x.0.pages = ap length x.4 ∙ length-tabulate x.0.pages (λ p. page_in c (program_sector p)) in
    omega (arith, count, x.1.head.range.pages, pages_for-most x.0.length x.1.head.range.fits)

program_stays : (c d : List ℕ) (n : ℕ) → n ≤ most_pages → Touches 0 control_sectors c d → program d n ≡ program c n
program_stays c d n most t =
    same_tables n (λ p. page_in d (program_sector p)) (λ p. page_in c (program_sector p)) (λ p l. ap (λ s. part s 0 page_size) (t.behind (program_sector p) (omega arith) (omega arith)))

-- the result reports this
pub record Tells (told : Started) (v : Volume) (image version : ℕ) (l : Loaded) : Type 0 where
  pub volume : told.volume ≡ v
  pub image_is : told.image ≡ image
  pub version_is : told.version ≡ version
  pub pages : told.pages ≡ l.pages
  pub bytes : told.length ≡ l.length
  pub crc : told.crc ≡ l.crc

pub started_is : (b : Boot) (r : Runs) (a c d : Device) (v : Volume) (l : Loaded) (told : Started) → b.runs ≡ Some r → TrailWent b.trail a d v → NothingLent v → Tells told v r.image r.version l → Measures r.pages l → program c.image l.pages ≡ r.pages
    → length r.pages ≤ most_pages → Touches 0 control_sectors c.image d.image → BootOutcome (Ok told) b a d
started_is b r a c d v l told chosen went free tells measures memory most touches =
    let count : l.pages ≤ most_pages = omega (arith, measures.pages, most) in (
      record {
        runs = r;
        chosen = chosen;
        image = tells.image_is;
        version = tells.version_is;
        pages = tells.pages ∙ measures.pages;
        length = tells.bytes ∙ measures.bytes;
        crc = tells.crc ∙ measures.crc ∙ ap (λ (n : ℕ). Rattle.dg_base.specs.Crc.crc_of (Rattle.dg_object.specs.Object.content n r.pages)) measures.bytes;
        acted = subst (λ (w : Volume). Acted b.trail a d w) (sym tells.volume) went.acted;
        free = subst (λ (w : Volume). NothingLent w) (sym tells.volume) free;
        memory = ap (program d.image) tells.pages ∙ program_stays c.image d.image l.pages count touches ∙ memory;
      },
      went.idle,
    )

-- ---- a stop that is forwarded, and no image

pub stopped_boots : (r : Result Started BootFault) (b : Boot) (x y : Device) → IsErrAnd r (λ e. e ≡ faults.Stopped) → Stops b.trail x y → BootOutcome r b x y
stopped_boots (Ok told) b x y h stops = absurd h
stopped_boots (Err e) b x y h stops = subst (λ (f : BootFault). BootOutcome (Err f) b x y) (sym h) stops

pub lacks_read : (s : Store) (x y : Device) (v : Volume) → Looked x y → Mounted x.image v s → NoImageFound (record { runs = None; trail = resting s 0 }) x y
lacks_read s x y v looked m = let went = went_read s x y v looked m in record { none = refl; ran = went.acted.ran; stands = went.acted.mounted.stands }
