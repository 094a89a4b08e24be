-- A frame that is heard makes only legal changes, and the count of short starts does not rise.
use Rattle.std.proofs.Common.{◌≡◌, ◌⊎◌, ℕ, ◌≤◌, Bool, true, false, List, Option, Result, Ok, Err, refl, sym, ap, subst, ◌∙◌, inl, inr, ⊎_elim, arith}
use Rattle.dg_nor.specs.Trail.{Trail, last, resting}
use Rattle.dg_nor.specs.Through.{Through}
use Rattle.dg_nor.proofs.TrailLemmas.{last-resting}
use Rattle.dg_nor.proofs.ThroughLemmas.{Through-resting, Through-last}
use Rattle.dg_object.specs.Object.{Row}
use Rattle.dg_control.specs.declared.snapshot.Order.{Order}
use Rattle.dg_volume.specs.Store.{Store}
use Rattle.dg_frame.specs.Grammar.{message_of}
use Rattle.dg_frame.specs.declared.Entry.{Entry}
use Rattle.dg_frame.specs.declared.FrameFault.{FrameFault}
use Rattle.dg_frame.specs.declared.Message.{Message}
use Rattle.dg_frame.specs.declared.Message.TheVariants.{Advert, Request, Packet, Wide}
use Rattle.dg_mote.specs.Model.{MoteState}
use Rattle.dg_mote.specs.Summary.{advert_by}
use Rattle.dg_mote.specs.Ticks.{tick_of}
use Rattle.dg_mote.specs.Hears.{heard_of}
use Rattle.dg_mote.specs.Agreement.{ModeAgrees}
use Rattle.dg_mote.specs.Changes.{MayClear, TakesAdvert, Completes, IfReceives}
use Rattle.dg_rules.specs.World.{Site, Running}
use Rattle.dg_rules.specs.Small.{small_mote}
use Rattle.dg_rules.specs.Legal.{Past, Came, LegalMessage}
use Rattle.dg_rules.proofs.ThroughLemmas.{Through-map}
use Rattle.dg_rules.proofs.BootLemmas.{IsSettled}
use Rattle.dg_rules.proofs.LegalLemmas.{mote}
use Rattle.dg_rules.proofs.ChangesLemmas.{ChangeLaws, refused_trail}
use Rattle.dg_rules.proofs.MessageLemmas.{AllThere, advert_legal, packet_legal}

-- the count of short starts is as before, or 0, and room does not grow
pub record IsCalm (s t : Store) : Type 0 where
  pub gesture : (t.gesture ≡ s.gesture) ⊎ (t.gesture ≡ 0)
  pub room : t.room ≤ s.room

pub calm_settled : (s t : Store) → IsCalm s t → IsSettled s → IsSettled t
calm_settled s t calm old three =
    let low = calm.room in
    ⊎_elim (λ same. let none = old (sym same ∙ three) in omega (arith, low, none)) (λ zero_is. absurd (omega (arith, zero_is, three))) calm.gesture

same_calm : (s t : Store) → t ≡ s → IsCalm s t
same_calm s t same = subst (IsCalm s) (sym same) (record { gesture = inl refl; room = omega arith })

-- a tick leaves the small state unchanged
pub tick_calm : (laws : ChangeLaws) (m : MoteState) (s : Store) (now word : ℕ) → IsCalm s (last (tick_of m s now word).trail)
tick_calm laws m s now word =
    let t = (tick_of m s now word).trail in
    ⊎_elim (λ same. same_calm s (last t) same) (λ cleared. subst (IsCalm s) (sym cleared) (record { gesture = inr refl; room = omega arith })) (Through-last (MayClear s) t (laws.ticks m s now word))

pub clear_small : (x : Site) (t : Store) (runs : Option Running) → MayClear x.store t → mote t runs ≡ mote x.store runs
clear_small x t runs may = ⊎_elim (λ same. ap (λ (s : Store). mote s runs) same) (λ cleared. ap (λ (s : Store). mote s runs) cleared) may

-- ---- frames

module _ (laws : ChangeLaws) (table : List Row) (past : Past) (m : ℕ) (x : Site) (n : MoteState) (wide : Bool) (same : n.wide ≡ wide) (now word : ℕ) (bytes : List ℕ)
    (agrees : ModeAgrees table x.store n.mode) (there : IfReceives (AllThere m wide past) n.mode) where
  abbrev Step : Trail Store
  Step = (heard_of n x.store now word bytes).trail

  -- this store may be left, by how the frame is read and by whether the power was cut
  abbrev May : Result Message FrameFault → Bool → Store → Type 0
  May r fired t = LegalMessage (Came m bytes past) fired m wide r (small_mote x) (mote t x.runs) × IsCalm x.store t

  pub record Ends (r : Result Message FrameFault) : Type 0 where
    pub cut : Through (May r true) Step
    pub whole : May r false (last Step)

  rests_ends : (r : Result Message FrameFault) → ((fired : Bool) → May r fired x.store) → Step ≡ resting x.store 0 → Ends r
  rests_ends r may rests = record {
    cut = subst (Through (May r true)) (sym rests) (Through-resting (May r true) x.store 0 (may true));
    whole = subst (λ (t : Trail Store). May r false (last t)) (sym rests) (subst (May r false) (sym (last-resting x.store 0)) (may false));
  }

  calm_here : IsCalm x.store x.store
  calm_here = same_calm x.store x.store refl

  takes_calm : (entries : List Entry) (order : Order) (stopped : Bool) (t : Store) → TakesAdvert entries order stopped x.store t → IsCalm x.store t
  takes_calm entries order stopped t h = record { gesture = inl h.gesture; room = h.room }

  completes_calm : (image version page q : ℕ) (t : Store) → (t ≡ x.store) ⊎ Completes n.mode image version page q x.store t → IsCalm x.store t
  completes_calm image version page q t may =
      ⊎_elim (λ same. same_calm x.store t same) (λ c. subst (IsCalm x.store) (sym c.paged_is) (record { gesture = inl refl; room = omega arith })) may

  -- the wide kind, or the narrow one
  advert_ends : (kind : Bool) (source : ℕ) (entries : List Entry) (order : Order) (r : Result Message FrameFault) → message_of bytes n.wide ≡ Ok (advert_by kind source entries order)
      → ((fired : Bool) (t : Store) → TakesAdvert entries order fired x.store t → May r fired t) → Ends r
  advert_ends kind source entries order r is may =
      let known = laws.adverts n x.store now word bytes kind source entries order is in
      record { cut = Through-map (TakesAdvert entries order true x.store) (May r true) (may true) Step known.0; whole = may false (last Step) known.1 }

  ends_by : (r : Result Message FrameFault) → message_of bytes n.wide ≡ r → Ends r
  ends_by (Err fault) is = rests_ends (Err fault) (λ fired. (refl, calm_here)) (refused_trail laws n x.store now word bytes fault is)
  ends_by (Ok (Advert source entries order)) is =
      advert_ends false source entries order (Ok (Advert source entries order)) is (λ fired t h. (advert_legal fired entries order x t h, takes_calm entries order fired t h))
  ends_by (Ok (Request source to image version page want)) is =
      rests_ends (Ok (Request source to image version page want)) (λ fired. (refl, calm_here)) (laws.requests n x.store now word bytes source to image version page want is)
  ends_by (Ok (Wide source entries order)) is =
      advert_ends true source entries order (Ok (Wide source entries order)) is (λ fired t h. (advert_legal fired entries order x t h, takes_calm entries order fired t h))
  ends_by (Ok (Packet source image version page q content)) is =
      let r : Result Message FrameFault = Ok (Packet source image version page q content) in
      let Q : Store → Type 0 = λ t. (t ≡ x.store) ⊎ Completes n.mode image version page q x.store t in
      let known : Through Q Step = laws.packets n x.store now word bytes source image version page q content is in
      let may : (fired : Bool) (t : Store) → Q t → May r fired t =
      λ fired t c. (packet_legal past m wide bytes x source image version page q content (ap (message_of bytes) (sym same) ∙ is) table n.mode agrees there t c, completes_calm image version page q t c) in
      record { cut = Through-map Q (May r true) (may true) Step known; whole = may false (last Step) (Through-last Q Step known) }

  pub heard_ends : Ends (message_of bytes wide)
  heard_ends = ends_by (message_of bytes wide) (ap (message_of bytes) same)
