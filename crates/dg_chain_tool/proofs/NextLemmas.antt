-- One data page is received.
use Rattle.std.proofs.Common.{◌≡◌, ℕ, ◌<◌, ◌≤◌, Bool, true, false, ◌&&◌, List, Some, sym, subst, ◌∙◌, cond}
use Rattle.sha2.specs.Sha256.{sha256}
use Rattle.dg_nor.specs.Chip.{Touches}
use Rattle.dg_nor.specs.Device.{Device, Ran, Halts}
use Rattle.dg_nor.specs.Trail.{resting, stepping}
use Rattle.dg_nor.proofs.TrailLemmas.{operations-resting, last-resting, Leaves-resting}
use Rattle.dg_slot.specs.Layout.{header_sector, slot_end, page_operations}
use Rattle.dg_slot.specs.Kept.{Held, KeepsImage, with_page}
use Rattle.dg_slot.specs.Fits.{may_seal}
use Rattle.dg_slot.specs.Jobs.{Opens, IsOpen, outline_of_slot, SlotStops}
use Rattle.dg_slot.specs.declared.states.OpenSlot.{OpenSlot}
use Rattle.dg_volume.specs.Sizes.{images}
use Rattle.dg_volume.specs.Store.{Store, held}
use Rattle.dg_volume.specs.Stands.{Mounted, MountedBut}
use Rattle.dg_volume.specs.Changes.{paged}
use Rattle.dg_volume.specs.Acts.{Acted, Stops}
use Rattle.dg_volume.specs.declared.volume.Volume.{Volume}
use Rattle.dg_volume.proofs.BehindLemmas.{told_but, slot_same}
use Rattle.dg_volume.proofs.CompareLemmas.{bytes_same, bytes_other}
use Rattle.dg_volume.proofs.PageLemmas.{may_crc}
use Rattle.dg_volume.proofs.PagedLemmas.{page_mounted, page_acted, page_stops, fill_stops}
use Rattle.dg_chain.specs.Receiving.{fill_operations, receive_page_trail, ReceivesDataPage}
use Rattle.dg_chain.specs.declared.sealing.ChainSealing.TheVariants.{Sealed, Foreign, Bad}
use Rattle.dg_chain_tool.specs.inner.Filling.{fits_root, next_trail}

abbrev Back : List ℕ → Volume → Volume → OpenSlot → Type 0
Back d v w o = (t : Store) (g : Held) → MountedBut (λ j. j ≡ (outline_of_slot o).image) d v t → held t (outline_of_slot o).image ≡ Some g → Opens o g → Mounted d w t

module _ (a b : Device) (v v1 w : Volume) (s : Store) (i : ℕ) (h : Held) (expected page : List ℕ) (slot : OpenSlot) (not_golden : 1 ≤ i) (known : i < images) (here : held s i ≡ Some h) (there : (outline_of_slot slot).image ≡ i)
    (touches : Touches (header_sector (outline_of_slot slot).image) (slot_end (outline_of_slot slot).image) a.image b.image) (before : Mounted a.image v s) (lent : Mounted a.image v1 s) (opened : IsOpen a.image slot h) where
  touched : Touches (header_sector i) (slot_end i) a.image b.image
  touched = subst (λ (n : ℕ). Touches (header_sector n) (slot_end n) a.image b.image) there touches

  pub sealed_next : (o : OpenSlot) (next : List ℕ) → (outline_of_slot o).image ≡ i → ReceivesDataPage expected (outline_of_slot slot).image h page a b (Sealed o next) → Back b.image v1 w o
      → (fits_root expected page ≡ true) × Acted (stepping s page_operations (paged i page s)) a b w
  sealed_next o next image r back =
      (bytes_same (sha256 page) expected r.0, page_acted a b w s (paged i page s) r.4 (page_mounted a.image b.image v1 w s i h page o not_golden known image here touched r.3 lent back))

  pub foreign_next : (o : OpenSlot) (found : List ℕ) → (outline_of_slot o).image ≡ i → ReceivesDataPage expected (outline_of_slot slot).image h page a b (Foreign found o) → Back b.image v1 w o
      → (fits_root expected page ≡ false) × Acted (resting s fill_operations) a b w
  foreign_next o found image r back =
      let keeps : KeepsImage b.image i h = subst (λ (n : ℕ). KeepsImage b.image n h) image r.2.keeps in
      let but : MountedBut (λ j. j ≡ i) b.image v1 s = slot_same (λ j. j ≡ i) a.image b.image v1 s i h not_golden known here touched keeps (told_but a.image v1 s i lent) in
      let mounted : Mounted b.image w s = back s h (subst (λ (n : ℕ). MountedBut (λ j. j ≡ n) b.image v1 s) (sym image) but) (subst (λ (n : ℕ). held s n ≡ Some h) (sym image) here) r.2.opens in (
        bytes_other (sha256 page) expected (λ e. r.1 (r.0 ∙ e)),
        record { ran = subst (λ (n : ℕ). Ran n a b) (sym (operations-resting s fill_operations)) r.3; mounted = subst (Mounted b.image w) (sym (last-resting s fill_operations)) mounted },
      )

  pub bad_next : (o : OpenSlot) (kept found : ℕ) → may_seal (outline_of_slot slot).image h page ≡ true → ReceivesDataPage expected (outline_of_slot slot).image h page a b (Bad kept found o) → ⊥
  bad_next o kept found halted r = r.3 (r.2 ∙ may_crc (outline_of_slot slot).image h page halted ∙ sym r.1)

  rest_stops : SlotStops i (resting h fill_operations) a b → Stops (resting s fill_operations) a b
  rest_stops stops =
      let still : stops.leaves.store ≡ h = (Leaves-resting (λ x y. y ≡ x) h fill_operations stops.done stops.leaves.store).0 stops.leaves.allowed in
      let keeps : KeepsImage b.image i h = subst (KeepsImage b.image i) still stops.leaves.stands_for in
      fill_stops fill_operations stops.done a b v s i h not_golden known here touched keeps (told_but a.image v s i before) (subst (λ (k : ℕ). Halts k stops.done a b) (operations-resting h fill_operations) stops.halts)

  stops_by : (f m : Bool) → m ≡ true → SlotStops i (cond (f && m) (stepping h 50 (with_page h page)) (resting h fill_operations)) a b → Stops (next_trail f s i page) a b
  stops_by true true e stops = page_stops page_operations a b v s i h page not_golden known here touched (told_but a.image v s i before) stops
  stops_by true false e stops = let no : false ≡ true = e in absurd cc
  stops_by false m e stops = rest_stops stops

  pub stopped_next : may_seal (outline_of_slot slot).image h page ≡ true → SlotStops (outline_of_slot slot).image (receive_page_trail expected (outline_of_slot slot).image h page) a b → Stops (next_trail (fits_root expected page) s i page) a b
  stopped_next halted stops =
      let at : may_seal i h page ≡ true = subst (λ (n : ℕ). may_seal n h page ≡ true) there halted in
      stops_by (fits_root expected page) (may_seal i h page) at (subst (λ (n : ℕ). SlotStops n (receive_page_trail expected n h page) a b) there stops)
