-- The page of a slot is filled, or its filling is stopped.
use Rattle.std.proofs.Common.{◌≡◌, ℕ, ◌+◌, ◌<◌, ◌≤◌, Bool, true, List, length, refl, sym, ap, subst, ◌∙◌, inl, inr, ⊎_elim, arith}
use Rattle.std.specs.Prelude.{⊤, ◌==◌, ◌&&◌}
use Rattle.dg_base.specs.Crc.{crc_of}
use Rattle.std.proofs.lemmas.Bool.{eqb-true, and_parts, true≢false}
use Rattle.dg_nor.specs.Device.{Device, Ran, Halts, Halted}
use Rattle.dg_nor.specs.Trail.{Trail, stepping, MayLeave, Leaves, LeavesFrom}
use Rattle.dg_nor.proofs.DeviceLemmas.{Halted_once, Halted_first, Halted_second, Halted-weaker}
use Rattle.dg_nor.proofs.TrailLemmas.{operations-stepping, Leaves-stepping}
use Rattle.dg_slot.specs.Layout.{page_size, packets, page_operations}
use Rattle.dg_slot.specs.Kept.{Held, KeepsImage, with_page, kept_crc}
use Rattle.dg_slot.specs.Pages.{slot_pages}
use Rattle.dg_slot.specs.Fits.{may_seal, first_fits}
use Rattle.dg_slot.specs.Jobs.{IsOpen, outline_of_slot, packets_of, page_from, seal_trail, SlotStops, Seals}
use Rattle.dg_slot.specs.declared.states.Sealing.{Sealing}
use Rattle.dg_slot.specs.declared.states.Sealing.TheVariants.{Sealed, Bad, Unfit}
use Rattle.dg_slot.specs.declared.states.OpenSlot.{OpenSlot}
use Rattle.dg_slot.proofs.JobLemmas.{packets_make}
use Rattle.dg_volume.specs.Filling.{page_trail}

-- ---- an open slot keeps one thing

pub one_open : (c : List ℕ) (o : OpenSlot) (h g : Held) → IsOpen c o h → IsOpen c o g → h ≡ g
one_open c o h g a b =
    let version : h.version ≡ g.version = sym a.opens.version ∙ b.opens.version in
    let pages : h.pages ≡ g.pages = sym a.opens.pages ∙ b.opens.pages in
    let crc : h.crc ≡ g.crc = sym a.opens.crc ∙ b.opens.crc in
    let count : length h.complete ≡ length g.complete = sym a.opens.done ∙ b.opens.done in
    let complete : h.complete ≡ g.complete = a.keeps.stored ∙ ap (slot_pages c (outline_of_slot o).image) count ∙ sym b.keeps.stored in
    ap (λ (n : ℕ). record { version = n; pages = h.pages; crc = h.crc; complete = h.complete }) version
    ∙ ap (λ (n : ℕ). record { version = g.version; pages = n; crc = h.crc; complete = h.complete }) pages
    ∙ ap (λ (n : ℕ). record { version = g.version; pages = g.pages; crc = n; complete = h.complete }) crc
    ∙ ap (λ (l : List (List ℕ)). record { version = g.version; pages = g.pages; crc = g.crc; complete = l }) complete

-- ---- a stop before the gate, and one at it

abbrev PageMay : ℕ → Held → List ℕ → ℕ → List ℕ → Type 0
PageMay image h page = MayLeave (λ c g. KeepsImage c image g) (λ a b. b ≡ a) (page_trail h page)

before_gate : (image : ℕ) (h : Held) (page : List ℕ) (k : ℕ) (c : List ℕ) → k < page_operations → KeepsImage c image h → PageMay image h page k c
before_gate image h page k c early keeps = record {
  store = h;
  stands_for = keeps;
  allowed = (Leaves-stepping (λ a b. b ≡ a) h page_operations (with_page h page) k h early).1 (inl refl);
}

-- the page's act stopped, counted by its operations
stops_page : (image : ℕ) (h : Held) (page : List ℕ) (a b : Device) → Halted page_operations (PageMay image h page) a b → SlotStops image (page_trail h page) a b
stops_page image h page a b = subst (λ (n : ℕ). Halted n (PageMay image h page) a b) (sym (operations-stepping h page_operations (with_page h page)))

pub erase_stops : (image : ℕ) (h : Held) (page : List ℕ) (a b : Device) → KeepsImage b.image image h → Halts 1 0 a b → SlotStops image (page_trail h page) a b
erase_stops image h page a b keeps halts =
    stops_page image h page a b (Halted_first {m = 1} {may = PageMay image h page} (packets + 1) (Halted_once (PageMay image h page) halts (before_gate image h page 0 b.image (omega arith) keeps)))

pub packet_stops : (image : ℕ) (h : Held) (page : List ℕ) (a b c : Device) → KeepsImage c.image image h → Ran 1 a b → Halted packets (λ _ _. ⊤) b c → SlotStops image (page_trail h page) a c
packet_stops image h page a b c keeps ran halted =
    stops_page image h page a c (Halted_first {m = packets + 1} {may = PageMay image h page} 1
    (Halted_second {m = 1} {n = packets} {may = PageMay image h page} (λ _ _. ⊤) ran (λ k within x. before_gate image h page (1 + k) c.image (omega arith) keeps) halted))

-- what a stop at the gate leaves
later : (h g x : Held) (k : ℕ) → k ≤ 1 → Leaves (λ a b. b ≡ a) (stepping h 1 g) k x → Leaves (λ a b. b ≡ a) (stepping h page_operations g) (packets + 1 + k) x
unfolding LeavesFrom
later h g x k within l = ⊎_elim
    (λ over. inl (omega (arith, over.0), over.1))
    (λ inside. inr (omega (arith, inside.0), ⊎_elim (λ near. inl near) (λ done. inr (omega (arith, done.0), done.1)) inside.1))
    l

at_gate : (image : ℕ) (h : Held) (page : List ℕ) (k : ℕ) (c : List ℕ) → k ≤ 1 → MayLeave (λ c g. KeepsImage c image g) (λ a b. b ≡ a) (stepping h 1 (with_page h page)) k c → PageMay image h page (packets + 1 + k) c
at_gate image h page k c within may = record { store = may.store; stands_for = may.stands_for; allowed = later h (with_page h page) may.store k within may.allowed }

seal_is : (image : ℕ) (h : Held) (page : List ℕ) → may_seal image h page ≡ true → seal_trail image h page ≡ stepping h 1 (with_page h page)
seal_is image h page may = ap (λ (b : Bool). Rattle.std.specs.Prelude.if◌then◌else◌ b (stepping h 1 (with_page h page)) (Rattle.dg_nor.specs.Trail.resting h 0)) may

gate_stops_here : (image : ℕ) (h : Held) (page : List ℕ) (a b c : Device) → may_seal image h page ≡ true → Ran (packets + 1) a b → SlotStops image (seal_trail image h page) b c → SlotStops image (page_trail h page) a c
gate_stops_here image h page a b c may ran stops =
    let one : SlotStops image (stepping h 1 (with_page h page)) b c = subst (λ (t : Trail Held). SlotStops image t b c) (seal_is image h page may) stops in
    let May : ℕ → List ℕ → Type 0 = MayLeave (λ c g. KeepsImage c image g) (λ a b. b ≡ a) (stepping h 1 (with_page h page)) in
    let here : Halted 1 May b c = subst (λ (n : ℕ). Halted n May b c) (operations-stepping h 1 (with_page h page)) one in
    stops_page image h page a c (Halted_second {m = packets + 1} {n = 1} {may = PageMay image h page} May ran (λ k within x. at_gate image h page k c.image within x) here)

-- the job is one of this slot, and its packets make the page
pub gate_stops : (o p : OpenSlot) (h : Held) (page : List ℕ) (a b c : Device) → p ≡ o → length page ≡ page_size → may_seal (outline_of_slot o).image h page ≡ true → Ran (packets + 1) a b
    → SlotStops (outline_of_slot p).image (seal_trail (outline_of_slot p).image h (page_from (packets_of page))) b c → SlotStops (outline_of_slot o).image (page_trail h page) a c
gate_stops o p h page a b c same long may ran stops =
    let image = (outline_of_slot o).image in
    let here = subst (λ (x : OpenSlot). SlotStops (outline_of_slot x).image (seal_trail (outline_of_slot x).image h (page_from (packets_of page))) b c) same stops in
    gate_stops_here image h page a b c may ran (subst (λ (l : List ℕ). SlotStops image (seal_trail image h l) b c) (packets_make page long) here)

pub halted_page : (image : ℕ) (h : Held) (page : List ℕ) (a b : Device) → SlotStops image (page_trail h page) a b → Halted page_operations (λ _ _. ⊤) a b
halted_page image h page a b stops =
    subst (λ (n : ℕ). Halted n (λ _ _. ⊤) a b) (operations-stepping h page_operations (with_page h page)) (Halted-weaker {may' = λ _ _. ⊤} (λ k within x. tt) stops)

-- ---- a page that fits is sealed

pub record SealedTo (h : Held) (page : List ℕ) (b c : Device) (answer : Sealing) : Type 0 where
  pub slot : OpenSlot
  pub is : answer ≡ Sealed slot
  pub opened : IsOpen c.image slot (with_page h page)
  pub ran : Ran 1 b c

pub may_crc : (image : ℕ) (h : Held) (page : List ℕ) → may_seal image h page ≡ true → crc_of page ≡ kept_crc h
unfolding may_seal
may_crc image h page may = eqb-true (crc_of page) (kept_crc h) (and_parts (crc_of page == kept_crc h) (first_fits image h page (length h.complete)) may).0

sealed_by : (image : ℕ) (h : Held) (page : List ℕ) (b c : Device) (answer : Sealing) → may_seal image h page ≡ true → Seals image h page b c answer → SealedTo h page b c answer
sealed_by image h page b c (Sealed o) may seals = record { slot = o; is = refl; opened = seals.1; ran = seals.2 }
sealed_by image h page b c (Bad kept found o) may seals = absurd (seals.2 (seals.1 ∙ may_crc image h page may ∙ sym seals.0))
sealed_by image h page b c (Unfit o) may seals = absurd (true≢false (sym may ∙ seals.1))

pub sealed_to : (o p : OpenSlot) (h : Held) (page : List ℕ) (b c : Device) (answer : Sealing) → p ≡ o → length page ≡ page_size → may_seal (outline_of_slot o).image h page ≡ true
    → Seals (outline_of_slot p).image h (page_from (packets_of page)) b c answer → SealedTo h page b c answer
sealed_to o p h page b c answer same long may seals =
    let image = (outline_of_slot o).image in
    let here = subst (λ (x : OpenSlot). Seals (outline_of_slot x).image h (page_from (packets_of page)) b c answer) same seals in
    sealed_by image h page b c answer may (subst (λ (l : List ℕ). Seals image h l b c answer) (packets_make page long) here)
