-- A version of an image that a mote keeps before and after an event has the same number of pages, whatever frames come.
use Rattle.std.proofs.Common.{◌≡◌, ◌⊎◌, ℕ, ◌<◌, Bool, true, false, List, [], ◌∷◌, drop, length, get_or, Option, Some, None, option_map, Result, Ok, Err, IfSome, refl, sym, ap, subst, ◌∙◌, ⊎_elim, arith}
use Rattle.std.specs.Prelude.{◌==◌, slice_index_or, slice_set}
use Rattle.std.proofs.lemmas.Bool.{cond_both, cases_eq, cases_lt, eqb-false}
use Rattle.std.proofs.lemmas.List.{get_or-set_other, get_or_past, length-set}
use Rattle.std.proofs.lemmas.Grind.{get_or-set_at}
use Rattle.dg_nor.specs.Trail.{last, joined, resting, stepping}
use Rattle.dg_nor.specs.Through.{Through}
use Rattle.dg_nor.proofs.ThroughLemmas.{Through-joined, Through-resting, Through-stepping, Through-last}
use Rattle.dg_control.specs.Store.{commit_operations}
use Rattle.dg_control.specs.declared.snapshot.Order.{Order}
use Rattle.dg_object.specs.Object.{Row, Outline, object, profile}
use Rattle.dg_slot.specs.Layout.{page_operations}
use Rattle.dg_slot.specs.Kept.{Held, held_begun, with_page}
use Rattle.dg_volume.specs.Store.{Store, held}
use Rattle.dg_volume.specs.Changes.{spent, keeping, paged, ordered, is_version, inject_refusal}
use Rattle.dg_volume.specs.Trails.{committing, order_trail, drop_by, drop_trail, open_trail, take_trail, fill_trail, inject_by, inject_trail, done_of}
use Rattle.dg_volume.specs.Start.{boot}
use Rattle.dg_volume.specs.Ends.{OnTheWay}
use Rattle.dg_volume.specs.declared.volume.InjectFault.{InjectFault}
use Rattle.dg_volume.specs.declared.volume.StartCause.{StartCause}
use Rattle.dg_frame.specs.Grammar.{message_of}
use Rattle.dg_frame.specs.declared.Entry.{Entry}
use Rattle.dg_frame.specs.declared.FrameFault.{FrameFault}
use Rattle.dg_frame.specs.declared.Message.{Message}
use Rattle.dg_frame.specs.declared.Message.TheVariants.{Advert, Request, Packet, Wide}
use Rattle.dg_mote.specs.Model.{MoteState}
use Rattle.dg_mote.specs.Summary.{advert_by, entry_for}
use Rattle.dg_mote.specs.Adverts.{outline}
use Rattle.dg_mote.specs.Ticks.{tick_of}
use Rattle.dg_mote.specs.Hears.{heard_of}
use Rattle.dg_mote.specs.Changes.{MayClear, TakesAdvert, Completes}
use Rattle.dg_rules.proofs.ThroughLemmas.{Through-map}
use Rattle.dg_rules.proofs.ChangesLemmas.{ChangeLaws, StepLaws, refused_trail}
use Rattle.dg_events.specs.HaveLines.{KeepsPageCounts}

same_some : (a b : Held) → Some a ≡ Some b → a ≡ b
same_some a b e = cc

no_some : (b : Held) → ◌≡◌ {A = Option Held} None (Some b) → ⊥
no_some b e = cc

-- ---- one image

-- what is kept of an image before and after: the same version has the same number of pages
abbrev pub SamePages : Option Held → Option Held → Type 0
SamePages old new = (a b : Held) → old ≡ Some a → new ≡ Some b → a.version ≡ b.version → a.pages ≡ b.pages

same_stays : (o n : Option Held) → n ≡ o → SamePages o n
same_stays o n e a b is also same = ap (λ (h : Held). h.pages) (same_some a b (sym is ∙ sym e ∙ also))

none_stays : (o : Option Held) → SamePages o None
none_stays o a b is also same = absurd (no_some b also)

-- another version is begun
begun_stays : (o : Option Held) (p : Outline) → is_version o p.version ≡ false → SamePages o (Some (held_begun p))
begun_stays o p other a b is also same =
    let apart : (a.version == p.version) ≡ false = ap (λ (x : Option Held). is_version x p.version) (sym is) ∙ other in
    let at : p.version ≡ b.version = ap (λ (h : Held). h.version) (same_some (held_begun p) b also) in
    absurd (eqb-false a.version p.version apart (same ∙ sym at))

newer_stays : (o : Option Held) (p : Outline) → IfSome o (λ h. h.version < p.version) → SamePages o (Some (held_begun p))
newer_stays o p older a b is also same =
    let low : a.version < p.version = subst (λ (x : Option Held). IfSome x (λ h. h.version < p.version)) is older in
    let at : p.version ≡ b.version = ap (λ (h : Held). h.version) (same_some (held_begun p) b also) in
    absurd (omega (arith, low, at, same))

-- one more page is complete
paged_stays : (o n : Option Held) (page : List ℕ) → SamePages o n → SamePages o (option_map (λ (h : Held). with_page h page) n)
paged_stays o None page p = none_stays o
paged_stays o (Some h) page p = λ a b is also same.
    let at : with_page h page ≡ b = same_some (with_page h page) b also in
    p a h is refl (same ∙ sym (ap (λ (x : Held). x.version) at)) ∙ ap (λ (x : Held). x.pages) at

-- ---- stores

set_at : (P : Option Held → Type 0) (xs : List (Option Held)) (i j : ℕ) (o : Option Held) → P None → (j ≡ i → P o) → P (get_or xs j None) → P (get_or (slice_set xs i o) j None)
set_at P xs i j o none here rest =
    ⊎_elim
    (λ same. ⊎_elim
    (λ low. subst P (sym (get_or-set_at xs i j o None same low)) (here same))
    (λ past. subst P (sym (get_or_past (slice_set xs i o) j None (let many = length-set xs i o in omega (arith, past, many, same)))) none)
    (cases_lt i (length xs)))
    (λ other. subst P (sym (get_or-set_other xs i j o None other)) rest)
    (cases_eq j i)

pub stays : (s t : Store) → t.kept ≡ s.kept → KeepsPageCounts s t
stays s t e = record { same = λ i. same_stays (held s i) (held t i) (ap (λ (xs : List (Option Held)). slice_index_or xs i None) e) }

-- what is kept of one image changes
changes_one : (s t u : Store) (i : ℕ) (o : Option Held) → KeepsPageCounts s t → u.kept ≡ slice_set t.kept i o → SamePages (held s i) o → KeepsPageCounts s u
changes_one s t u i o before set new = record {
  same = λ j. subst (λ (xs : List (Option Held)). SamePages (held s j) (slice_index_or xs j None)) (sym set)
      (set_at (SamePages (held s j)) t.kept i j o (none_stays (held s j)) (λ here. subst (λ (k : ℕ). SamePages (held s k) o) (sym here) new) (before.same j));
}

page_more : (s t : Store) (image : ℕ) (page : List ℕ) → KeepsPageCounts s t → KeepsPageCounts s (paged image page t)
page_more s t image page k =
    changes_one s t (paged image page t) image (option_map (λ (h : Held). with_page h page) (held t image)) k refl (paged_stays (held s image) (held t image) page (k.same image))

-- ---- an injection

module _ (s0 : Store) (row : Row) where
  abbrev W : Store → Type 0
  W t = KeepsPageCounts s0 t

  begins : W s0
  begins = stays s0 s0 refl

  drop_way : (o : Option Held) → Through W (drop_by o s0 row.image)
  drop_way None = Through-resting W s0 0 begins
  drop_way (Some h) =
      let next = keeping row.image None (spent s0) in
      Through-stepping W s0 (commit_operations s0.room) next begins (changes_one s0 s0 next row.image None begins refl (none_stays (held s0 row.image)))

  take_way : is_version (held s0 row.image) row.version ≡ false → Through W (take_trail s0 (profile row))
  unfolding take_trail drop_trail
  take_way other =
      let t = drop_by (held s0 row.image) s0 row.image in
      let first = drop_way (held s0 row.image) in
      let d = last t in
      let here = Through-last W t first in
      let next = keeping row.image (Some (held_begun (profile row))) (spent d) in
      Through-joined W t (open_trail d (profile row)) first
      (Through-joined W (resting d 2) (committing d next) (Through-resting W d 2 here)
      (Through-stepping W d (commit_operations d.room) next here
      (changes_one s0 d next row.image (Some (held_begun (profile row))) here refl (begun_stays (held s0 row.image) (profile row) other))))

  fill_way : (pages : List (List ℕ)) (t : Store) → W t → Through W (fill_trail t row.image pages)
  unfolding fill_trail
  fill_way [] t w = Through-resting W t 0 w
  fill_way (page ∷ pages) t w =
      let next = paged row.image page t in
      let step = page_more s0 t row.image page w in
      Through-joined W (stepping t page_operations next) (fill_trail next row.image pages) (Through-stepping W t page_operations next w step) (fill_way pages next step)

  inject_by_way : (o : Option InjectFault) → Through W (inject_by o s0 row)
  inject_by_way (Some fault) = Through-resting W s0 0 begins
  inject_by_way None =
      let t = take_trail s0 (profile row) in
      cond_both (is_version (held s0 row.image) row.version)
      (fill_trail s0 row.image (drop (done_of (held s0 row.image)) (object row)))
      (joined t (fill_trail (last t) row.image (object row)))
      (Through W)
      (λ _. fill_way (drop (done_of (held s0 row.image)) (object row)) s0 begins)
      (λ other. Through-joined W t (fill_trail (last t) row.image (object row)) (take_way other) (fill_way (object row) (last t) (Through-last W t (take_way other))))

  pub inject_way : Through W (inject_trail s0 row)
  unfolding inject_trail
  inject_way = inject_by_way (inject_refusal s0 row)

pub order_way : (s : Store) (order : Order) → Through (KeepsPageCounts s) (order_trail s order)
order_way s order = Through-stepping (KeepsPageCounts s) s (commit_operations s.room) (ordered s order) (stays s s refl) (stays s (ordered s order) refl)

-- ---- starts, ticks and frames

pub boot_way : StepLaws → (k : StartCause) (s : Store) → Through (KeepsPageCounts s) (boot k s).trail
boot_way laws k s = Through-map (OnTheWay s (boot k s).runs) (KeepsPageCounts s) (λ t way. stays s t way.kept) (boot k s).trail (laws.ends k s).way

module _ (laws : ChangeLaws) (m : MoteState) (s : Store) (now word : ℕ) where
  abbrev Counts : Store → Type 0
  Counts t = KeepsPageCounts s t

  pub tick_way : Through Counts (tick_of m s now word).trail
  tick_way =
      Through-map (MayClear s) Counts
      (λ t may. stays s t (⊎_elim (λ same. ap (λ (x : Store). x.kept) same) (λ cleared. ap (λ (x : Store). x.kept) cleared) may))
      (tick_of m s now word).trail (laws.ticks m s now word)

  rests_way : (bytes : List ℕ) → (heard_of m s now word bytes).trail ≡ resting s 0 → Through Counts (heard_of m s now word bytes).trail
  rests_way bytes rests = subst (Through Counts) (sym rests) (Through-resting Counts s 0 (stays s s refl))

  taken : (entries : List Entry) (order : Order) (t : Store) → TakesAdvert entries order true s t → Counts t
  taken entries order t h =
      let old = held s h.image in
      changes_one s s t h.image h.here (stays s s refl) h.kept
      (⊎_elim
      (λ same. same_stays old h.here same)
      (λ other. ⊎_elim
      (λ begun. subst (SamePages old) (sym begun) (newer_stays old (outline h.image (entry_for entries h.image)) other.0.older))
      (λ gone. subst (SamePages old) (sym gone.1) (none_stays old))
      other.1)
      h.change)

  advert_way : (bytes : List ℕ) (wide : Bool) (source : ℕ) (entries : List Entry) (order : Order) → message_of bytes m.wide ≡ Ok (advert_by wide source entries order) → Through Counts (heard_of m s now word bytes).trail
  advert_way bytes wide source entries order is =
      Through-map (TakesAdvert entries order true s) Counts (taken entries order) (heard_of m s now word bytes).trail (laws.adverts m s now word bytes wide source entries order is).0

  packet_way : (bytes : List ℕ) (source image version page q : ℕ) (content : List ℕ) → message_of bytes m.wide ≡ Ok (Packet source image version page q content)
      → Through Counts (heard_of m s now word bytes).trail
  packet_way bytes source image version page q content is =
      Through-map (λ t. (t ≡ s) ⊎ Completes m.mode image version page q s t) Counts
      (λ t may. ⊎_elim (λ same. stays s t (ap (λ (x : Store). x.kept) same)) (λ c. subst Counts (sym c.paged_is) (page_more s s image c.content (stays s s refl))) may)
      (heard_of m s now word bytes).trail (laws.packets m s now word bytes source image version page q content is)

  message_way : (bytes : List ℕ) (r : Result Message FrameFault) → message_of bytes m.wide ≡ r → Through Counts (heard_of m s now word bytes).trail
  message_way bytes (Err fault) is = rests_way bytes (refused_trail laws m s now word bytes fault is)
  message_way bytes (Ok (Advert source entries order)) is = advert_way bytes false source entries order is
  message_way bytes (Ok (Request source to image version page want)) is = rests_way bytes (laws.requests m s now word bytes source to image version page want is)
  message_way bytes (Ok (Wide source entries order)) is = advert_way bytes true source entries order is
  message_way bytes (Ok (Packet source image version page q content)) is = packet_way bytes source image version page q content is

  pub heard_way : (bytes : List ℕ) → Through Counts (heard_of m s now word bytes).trail
  heard_way bytes = message_way bytes (message_of bytes m.wide) refl
