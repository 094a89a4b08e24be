-- What a frame that is heard may change of the small state.
use Rattle.std.proofs.Common.{◌≡◌, ◌⊎◌, ℕ, ◌+◌, ◌<◌, Bool, true, List, map, Option, Some, None, option_map, IfSome, is_some, Ok, refl, sym, ap, subst, ◌∙◌, inl, inr, ⊎_elim, arith}
use Rattle.std.proofs.lemmas.List.{map-set, length_push, set-get_or}
use Rattle.std.specs.Prelude.{slice_set}
use Rattle.dg_object.specs.Object.{Row}
use Rattle.dg_slot.specs.Kept.{Held, with_page}
use Rattle.dg_slot.specs.Jobs.{packet}
use Rattle.dg_volume.specs.Store.{Store, held}
use Rattle.dg_frame.specs.Grammar.{message_of}
use Rattle.dg_frame.specs.declared.Entry.{Entry}
use Rattle.dg_frame.specs.declared.Message.TheVariants.{Packet}
use Rattle.dg_control.specs.declared.snapshot.Order.{Order}
use Rattle.dg_mote.specs.Model.{Mode, Receiving}
use Rattle.dg_mote.specs.Summary.{entry_for}
use Rattle.dg_mote.specs.Agreement.{ReceivesRow, ModeAgrees}
use Rattle.dg_mote.specs.Changes.{TakesAdvert, Completes, IfReceives}
use Rattle.dg_rules.specs.World.{Site}
use Rattle.dg_rules.specs.Small.{Holding, SmallMote, holding, app_image_version, running_image_version, small_mote, holds}
use Rattle.dg_rules.specs.Legal.{Past, Came, CameTo, AllCame, IsOlder, LegalAdvert, LegalPacket, taking}
use Rattle.dg_rules.proofs.LegalLemmas.{mote, holds_at}

-- each packet of a page that is asked for came to the mote since its last start
abbrev pub AllThere : ℕ → (wide : Bool) → Past → Receiving → Type 0
AllThere m wide past r = (q : ℕ) → is_some (packet r.packets q) ≡ true → CameTo m wide r.image r.version r.page q past

-- ---- nothing changes

pub stays_small : (x : Site) (t : Store) → t ≡ x.store → mote t x.runs ≡ small_mote x
stays_small x t same = ap (λ (s : Store). mote s x.runs) same

-- one holding is unchanged
pub same_holding_stays : (x : SmallMote) (i : ℕ) → x ≡ taking x i (holds x i)
same_holding_stays x i = λ j. record { holdings = sym (set-get_or x.holdings i None) j; app = x.app; order = x.order; runs = x.runs }

-- ---- adverts

older_holding : (o : Option Held) (version : ℕ) → IfSome o (λ h. h.version < version) → IsOlder (option_map holding o) version
older_holding None version older = tt
older_holding (Some h) version older = older

pub advert_legal : (fired : Bool) (entries : List Entry) (order : Order) (x : Site) (t : Store) → TakesAdvert entries order fired x.store t → LegalAdvert fired entries order (small_mote x) (mote t x.runs)
advert_legal fired entries order x t h =
    let i = h.image in
    let f : Option Held → Option Holding = option_map holding in
    let old : holds (small_mote x) i ≡ f (held x.store i) = holds_at x i in
    let holdings : map f t.kept ≡ slice_set (map f x.store.kept) i (f h.here) = ap (map f) h.kept ∙ map-set f x.store.kept i h.here in
    record {
      kept_order = t.order;
      order_change = h.order_is;
      image = i;
      known = h.not_golden;
      held = f h.here;
      held_change =
          ⊎_elim
          (λ same. inl (ap f same ∙ sym old))
          (λ other. inr (
            other.0.some,
            subst (λ (o : Option Holding). IsOlder o (entry_for entries i).version) (sym old) (older_holding (held x.store i) (entry_for entries i).version other.0.older),
            ⊎_elim (λ begun. inl (ap f begun)) (λ gone. inr (gone.0, ap f gone.1)) other.1,
          ))
          h.change;
      change = λ j. record { holdings = holdings j; app = option_map app_image_version (h.app j); order = t.order; runs = running_image_version x.runs };
    }

-- ---- packets

module _ (past : Past) (m : ℕ) (wide : Bool) (bytes : List ℕ) (x : Site) (source image version page q : ℕ) (content : List ℕ) (is : message_of bytes wide ≡ Ok (Packet source image version page q content)) where
  packet_stays : (t : Store) → t ≡ x.store → LegalPacket (AllCame m wide image version page (Came m bytes past)) image version page (small_mote x) (mote t x.runs)
  packet_stays t same = record { held = holds (small_mote x) image; held_change = inl refl; change = stays_small x t same ∙ same_holding_stays (small_mote x) image }

  module _ (table : List Row) (mode : Mode) (agrees : ModeAgrees table x.store mode) (there : IfReceives (AllThere m wide past) mode) (t : Store) (c : Completes mode image version page q x.store t) where
    row : ReceivesRow table x.store c.r
    row = subst (ModeAgrees table x.store) c.receives agrees

    came : AllThere m wide past c.r
    came = subst (IfReceives (AllThere m wide past)) c.receives there

    came_here : (p : ℕ) → is_some (packet c.r.packets p) ≡ true → CameTo m wide image version page p past
    came_here p some =
        subst (λ (k : ℕ). CameTo m wide image version k p past) c.page_is
        (subst (λ (k : ℕ). CameTo m wide image k c.r.page p past) c.version_is (subst (λ (k : ℕ). CameTo m wide k c.r.version c.r.page p past) c.image_is (came p some)))

    all_came : AllCame m wide image version page (Came m bytes past)
    unfolding CameTo
    all_came p low =
        ⊎_elim
        (λ some. inr (came_here p some))
        (λ last_one. subst (λ (k : ℕ). CameTo m wide image version page k (Came m bytes past)) (sym last_one) (inl (refl, (source, content, is))))
        (c.all p low)

    here : held x.store image ≡ Some row.kept
    here = ap (held x.store) (sym c.image_is) ∙ row.held_here

    old_holding : holding row.kept ≡ record { version = version; pages = page }
    old_holding = λ j. record { version = (row.version ∙ c.version_is) j; pages = (row.next ∙ c.page_is) j }

    new_holding : holding (with_page row.kept c.content) ≡ record { version = version; pages = page + 1 }
    new_holding = λ j. record { version = (row.version ∙ c.version_is) j; pages = (length_push row.kept.complete c.content ∙ ap (λ (n : ℕ). n + 1) (row.next ∙ c.page_is)) j }

    packet_completes : LegalPacket (AllCame m wide image version page (Came m bytes past)) image version page (small_mote x) (mote t x.runs)
    packet_completes =
        let f : Option Held → Option Holding = option_map holding in
        let next = option_map (λ (h : Held). with_page h c.content) (held x.store image) in
        let kept : t.kept ≡ slice_set x.store.kept image next = ap (λ (s : Store). s.kept) c.paged_is in
        let holdings : map f t.kept ≡ slice_set (map f x.store.kept) image (f next) = ap (map f) kept ∙ map-set f x.store.kept image next in
        let app : t.app ≡ x.store.app = ap (λ (s : Store). s.app) c.paged_is in
        let order : t.order ≡ x.store.order = ap (λ (s : Store). s.order) c.paged_is in
        record {
          held = f next;
          held_change = inr (
            (let low = row.not_golden in let same = c.image_is in omega (arith, low, same)),
            holds_at x image ∙ ap f here ∙ ap (λ (h : Holding). Some h) old_holding,
            ap (λ (o : Option Held). f (option_map (λ (h : Held). with_page h c.content) o)) here ∙ ap (λ (h : Holding). Some h) new_holding,
            all_came,
          );
          change = λ j. record { holdings = holdings j; app = option_map app_image_version (app j); order = order j; runs = running_image_version x.runs };
        }

  pub packet_legal : (table : List Row) (mode : Mode) → ModeAgrees table x.store mode → IfReceives (AllThere m wide past) mode → (t : Store) → (t ≡ x.store) ⊎ Completes mode image version page q x.store t
      → LegalPacket (AllCame m wide image version page (Came m bytes past)) image version page (small_mote x) (mote t x.runs)
  packet_legal table mode agrees there t may = ⊎_elim (λ same. packet_stays t same) (λ c. packet_completes table mode agrees there t c) may
