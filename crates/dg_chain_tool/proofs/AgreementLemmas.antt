-- After a receipt, a first board that agreed with a table still agrees with it.
use Rattle.std.proofs.Common.{◌≡◌, ℕ, zero, suc, ◌-◌, ◌<◌, Bool, true, false, List, [], ◌∷◌, ◌++◌, length, take, drop, Option, Some, None, refl, sym, ap, subst, ◌∙◌, arith}
use Rattle.std.specs.Prelude.{if◌then◌else◌}
use Rattle.std.proofs.lemmas.List.{take_all}
use Rattle.dg_nor.specs.Trail.{Stage, Trail, last_of, last, joined, resting, stepping, delayed}
use Rattle.dg_nor.specs.Through.{AllAfter, Through}
use Rattle.dg_nor.proofs.ThroughLemmas.{Through-joined, Through-resting, Through-stepping, Through-last}
use Rattle.dg_object.specs.Object.{Row, object, profile, row_of}
use Rattle.dg_slot.specs.Layout.{page_operations}
use Rattle.dg_volume.specs.Agreement.{Agrees}
use Rattle.dg_volume.specs.Changes.{paged, is_version, inject_refusal}
use Rattle.dg_volume.specs.Shaped.{IsShaped}
use Rattle.dg_volume.specs.Sizes.{images}
use Rattle.dg_volume.specs.Store.{Store, held}
use Rattle.dg_volume.specs.Trails.{take_trail, fill_trail, inject_by, inject_trail, done_of}
use Rattle.dg_volume.specs.declared.volume.InjectFault.{InjectFault}
use Rattle.dg_base.specs.declared.answers.Status.{Status}
use Rattle.dg_outside.specs.Outside.{Outside}
use Rattle.dg_chain.specs.Checking.{Break}
use Rattle.dg_chain.specs.Receiving.{fill_operations}
use Rattle.dg_tool.specs.Endings.{content_in}
use Rattle.dg_tool.specs.Done.{InputDone}
use Rattle.dg_tool.specs.Agreement.{HasNewRow}
use Rattle.dg_tool.proofs.AgreementLemmas.{ShapedLaw, InjectLaw, trail_kept, inject_goes}
use Rattle.dg_chain_tool.specs.Receiving.{foreign_in, keep_trail, with_foreign, trail_by, receive_trail}
use Rattle.dg_chain_tool.specs.Done.{receive_rule, ReceiveDone}

-- ---- a trail's parts

module _ (P : Store → Type 0) where
  back_after : (xs ys : List (Stage Store)) → AllAfter P (xs ++ ys) → AllAfter P xs × AllAfter P ys
  unfolding AllAfter
  back_after [] ys h = (tt, h)
  back_after (x ∷ xs) ys h = let k = back_after xs ys h.1 in ((h.0, k.0), k.1)

  undelayed : (n : ℕ) (ys : List (Stage Store)) → AllAfter P (delayed n ys) → AllAfter P ys
  unfolding AllAfter delayed
  undelayed n [] h = tt
  undelayed n (y ∷ ys) h = (h.0, h.1)

  front_through : (t u : Trail Store) → Through P (joined t u) → Through P t
  unfolding joined
  front_through t u h = (h.0, (back_after t.stages (delayed t.rest u.stages) h.1).0)

  back_through : (t u : Trail Store) → P u.first → Through P (joined t u) → Through P u
  unfolding joined
  back_through t u first h = (first, undelayed t.rest u.stages (back_after t.stages (delayed t.rest u.stages) h.1).1)

  fill_first : (s : Store) (image : ℕ) (pages : List (List ℕ)) → (fill_trail s image pages).first ≡ s
  unfolding fill_trail joined
  fill_first s image [] = refl
  fill_first s image (page ∷ pages) = refl

  -- filling a prefix of the pages goes through stores that filling all of them goes through too
  front_filled : (n : ℕ) (s : Store) (image : ℕ) (pages : List (List ℕ)) → Through P (fill_trail s image pages) → Through P (fill_trail s image (take n pages))
  unfolding fill_trail last_of
  front_filled zero s image pages h = Through-resting P s 0 (subst P (fill_first s image pages) h.0)
  front_filled (suc n) s image [] h = h
  front_filled (suc n) s image (page ∷ pages) h =
      let next = paged image page s in
      let one = front_through (stepping s page_operations next) (fill_trail next image pages) h in
      let there : P next = Through-last P (stepping s page_operations next) one in
      let rest = back_through (stepping s page_operations next) (fill_trail next image pages) (subst P (sym (fill_first next image pages)) there) h in
      Through-joined P (stepping s page_operations next) (fill_trail next image (take n pages)) one (front_filled n next image pages rest)

drop_taken : (d n : ℕ) (xs : List (List ℕ)) → drop d (take n xs) ≡ take (n - d) (drop d xs)
drop_taken zero n xs = let e : n ≡ n - 0 = omega arith in ap (λ (k : ℕ). take k xs) e
drop_taken (suc d) zero xs = let e : 0 ≡ 0 - suc d = omega arith in ap (λ (k : ℕ). take k (drop (suc d) xs)) e
drop_taken (suc d) (suc n) [] = sym (take_all (suc n - suc d) [] (omega arith))
drop_taken (suc d) (suc n) (x ∷ xs) = let e : n - d ≡ suc n - suc d = omega arith in drop_taken d n xs ∙ ap (λ (k : ℕ). take k (drop d xs)) e

-- ---- a receipt

module _ (P : Store → Type 0) (s : Store) (row : Row) where
  -- the first pages are kept as all are
  front_kept : (n : ℕ) (b : Bool)
      → Through P (if b then fill_trail s row.image (drop (done_of (held s row.image)) (object row)) else joined (take_trail s (profile row)) (fill_trail (last (take_trail s (profile row))) row.image (object row)))
      → Through P (if b then fill_trail s row.image (drop (done_of (held s row.image)) (take n (object row))) else joined (take_trail s (profile row)) (fill_trail (last (take_trail s (profile row))) row.image (take n (object row))))
  front_kept n true h =
      let d = done_of (held s row.image) in
      subst (λ (pages : List (List ℕ)). Through P (fill_trail s row.image pages)) (sym (drop_taken d n (object row))) (front_filled P (n - d) s row.image (drop d (object row)) h)
  front_kept n false h =
      let t = take_trail s (profile row) in
      let u = fill_trail (last t) row.image (object row) in
      let one = front_through P t u h in
      let rest = back_through P t u (subst P (sym (fill_first P (last t) row.image (object row))) (Through-last P t one)) h in
      Through-joined P t (fill_trail (last t) row.image (take n (object row))) one (front_filled P n (last t) row.image (object row) rest)

  foreign_through : (t : Trail Store) → Through P t → Through P (with_foreign t)
  foreign_through t h = Through-joined P t (resting (last t) fill_operations) h (Through-resting P (last t) fill_operations (Through-last P t h))

  received_by : (o : Option InjectFault) (found : Option Break) → inject_refusal s row ≡ o → P s → Through P (inject_trail s row) → Through P (trail_by o found s row)
  unfolding inject_trail
  received_by (Some fault) found is here h = Through-resting P s 0 here
  received_by None None is here h = h
  received_by None (Some at) is here h =
      let taken : Through P (inject_by None s row) = subst (λ (x : Option InjectFault). Through P (inject_by x s row)) is h in
      foreign_through (keep_trail s row (take at.page (object row))) (front_kept at.page (is_version (held s row.image) row.version) taken)

  pub receive_through : (root : List ℕ) → P s → Through P (inject_trail s row) → Through P (receive_trail root s row)
  unfolding receive_trail
  receive_through root here h = received_by (inject_refusal s row) (foreign_in root s row) refl here h

pub receive_agrees : InjectLaw → ShapedLaw → (image version : ℕ) (name root : List ℕ) (status : Status) (a b : Outside) → image < images → (done : InputDone status (receive_rule a.boards root (row_of image version name)) a b) → ReceiveDone image version name root status a b
receive_agrees law shaped image version name root status a b known done =
    let row = row_of image version name (content_in done.allowed.bytes) in
    record {
      done = done;
      agrees = trail_kept (λ s. receive_trail root s row) done.outcome _ _ (HasNewRow row) a.boards b.boards shaped
          (λ table s is agrees fits. receive_through (Agrees table) s row root agrees (inject_goes law table s row known is agrees fits)) done.allowed.did;
    }
