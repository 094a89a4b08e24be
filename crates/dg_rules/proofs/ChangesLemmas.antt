-- What is known of the changes of a mote, and what they keep of golden.
use Rattle.std.proofs.Common.{◌≡◌, ◌⊎◌, ℕ, ◌≤◌, Bool, List, Option, None, option_map, Result, Ok, Err, refl, sym, ap, subst, ◌∙◌, ⊎_elim, arith, true, false}
use Rattle.std.specs.Prelude.{slice_set, slice_index_or}
use Rattle.std.proofs.lemmas.List.{get_or-set_other}
use Rattle.dg_nor.specs.Trail.{last, resting}
use Rattle.dg_nor.specs.Through.{Through}
use Rattle.dg_nor.proofs.ThroughLemmas.{Through-resting}
use Rattle.dg_bits.specs.Sets.{Numbers}
use Rattle.dg_control.specs.declared.snapshot.Order.{Order}
use Rattle.dg_object.specs.Object.{Row, IsRow}
use Rattle.dg_slot.specs.Kept.{Held, with_page}
use Rattle.dg_volume.specs.Store.{Store, held}
use Rattle.dg_volume.specs.Start.{boot}
use Rattle.dg_volume.specs.Ends.{Boots}
use Rattle.dg_volume.specs.RowLaws.{RowLaws}
use Rattle.dg_volume.specs.declared.volume.StartCause.{StartCause}
use Rattle.dg_frame.specs.Grammar.{message_of}
use Rattle.dg_frame.specs.declared.Entry.{Entry}
use Rattle.dg_frame.specs.declared.FrameFault.{FrameFault}
use Rattle.dg_frame.specs.declared.Message.{Message}
use Rattle.dg_frame.specs.declared.Message.TheVariants.{Advert, Request, Packet, Wide}
use Rattle.dg_mote.specs.Model.{MoteState, Mode, Maintain, Receive, Transmit, Receiving, MoteStep}
use Rattle.dg_mote.specs.Summary.{advert_by}
use Rattle.dg_mote.specs.Ticks.{tick_of}
use Rattle.dg_mote.specs.Hears.{heard_of}
use Rattle.dg_mote.specs.Changes.{MayClear, TakesAdvert, Completes, IfReceives, Brings, IsBegun, Continues}
use Rattle.dg_mote.specs.declared.mote.Heard.{Heard}
use Rattle.dg_mote.specs.declared.mote.Heard.TheVariants.{Refused}
use Rattle.dg_rules.specs.Golden.{KeepsGoldenRow, AsksForOthers}
use Rattle.dg_rules.proofs.ThroughLemmas.{Through-map}
use Rattle.dg_rules.proofs.EventLemmas.{RestartLaws}

pub record ChangeLaws : Type 0 where
  pub ticks : (m : MoteState) (s : Store) (now word : ℕ) → Through (MayClear s) (tick_of m s now word).trail
  pub adverts : (m : MoteState) (s : Store) (now word : ℕ) (bytes : List ℕ) (wide : Bool) (source : ℕ) (entries : List Entry) (order : Order) → message_of bytes m.wide ≡ Ok (advert_by wide source entries order)
      → Through (TakesAdvert entries order true s) (heard_of m s now word bytes).trail × TakesAdvert entries order false s (last (heard_of m s now word bytes).trail)
  pub requests : (m : MoteState) (s : Store) (now word : ℕ) (bytes : List ℕ) (source to image version page : ℕ) (want : Numbers)
      → message_of bytes m.wide ≡ Ok (Request source to image version page want) → (heard_of m s now word bytes).trail ≡ resting s 0
  pub packets : (m : MoteState) (s : Store) (now word : ℕ) (bytes : List ℕ) (source image version page q : ℕ) (content : List ℕ)
      → message_of bytes m.wide ≡ Ok (Packet source image version page q content) → Through (λ t. (t ≡ s) ⊎ Completes m.mode image version page q s t) (heard_of m s now word bytes).trail
  pub refusals : (m : MoteState) (s : Store) (now word : ℕ) (bytes : List ℕ) (fault : FrameFault) → message_of bytes m.wide ≡ Err fault
      → heard_of m s now word bytes ≡ record { mote = m; trail = resting s 0; sent = None; answer = Refused fault }
  pub comes_not : (m : MoteState) (s : Store) (now word : ℕ) → IfReceives (Continues m.mode (λ image version page q. ⊥)) (tick_of m s now word).mote.mode
  pub comes : (m : MoteState) (s : Store) (now word : ℕ) (bytes : List ℕ) → IfReceives (λ r. IsBegun r ⊎ Continues m.mode (Brings bytes m.wide) r) (heard_of m s now word bytes).mote.mode

-- what is known of steps: of restarts, of what a mote changes, and of starts
pub record StepLaws : Type 0 where
  pub restarts : RestartLaws
  pub changes : ChangeLaws
  pub ends : (cause : StartCause) (s : Store) → Boots s (boot cause s)
  pub rows : (row : Row) → IsRow row → RowLaws row

pub refused_trail : ChangeLaws → (m : MoteState) (s : Store) (now word : ℕ) (bytes : List ℕ) (fault : FrameFault) → message_of bytes m.wide ≡ Err fault → (heard_of m s now word bytes).trail ≡ resting s 0
refused_trail laws m s now word bytes fault is = ap (λ (step : MoteStep Heard). step.trail) (laws.refusals m s now word bytes fault is)

-- ---- golden

-- another image changes
pub keeps_other : (s t : Store) (i : ℕ) (o : Option Held) → 1 ≤ i → t.kept ≡ slice_set s.kept i o → KeepsGoldenRow s → KeepsGoldenRow t
keeps_other s t i o low kept g = record {
  row = g.row;
  is_row = g.is_row;
  whole = ap (λ (xs : List (Option Held)). slice_index_or xs 0 None) kept ∙ get_or-set_other s.kept i 0 o None (λ e. absurd (omega (arith, e, low))) ∙ g.whole;
}

module _ (laws : ChangeLaws) (m : MoteState) (s : Store) (now word : ℕ) (golden : KeepsGoldenRow s) where
  pub golden_ticked : Through KeepsGoldenRow (tick_of m s now word).trail
  golden_ticked =
      Through-map (MayClear s) KeepsGoldenRow
      (λ t may. ⊎_elim (λ same. subst KeepsGoldenRow (sym same) golden) (λ cleared. subst KeepsGoldenRow (sym cleared) (record { row = golden.row; is_row = golden.is_row; whole = golden.whole })) may)
      (tick_of m s now word).trail (laws.ticks m s now word)

  golden_rests : (bytes : List ℕ) → (heard_of m s now word bytes).trail ≡ resting s 0 → Through KeepsGoldenRow (heard_of m s now word bytes).trail
  golden_rests bytes rests = subst (Through KeepsGoldenRow) (sym rests) (Through-resting KeepsGoldenRow s 0 golden)

  pub golden_heard : (bytes : List ℕ) → AsksForOthers m.mode → Through KeepsGoldenRow (heard_of m s now word bytes).trail
  golden_heard bytes asks = by_message (message_of bytes m.wide) refl
    where
      by_advert : (wide : Bool) (source : ℕ) (entries : List Entry) (order : Order) → message_of bytes m.wide ≡ Ok (advert_by wide source entries order) → Through KeepsGoldenRow (heard_of m s now word bytes).trail
      by_advert wide source entries order is =
          Through-map (TakesAdvert entries order true s) KeepsGoldenRow (λ t h. keeps_other s t h.image h.here h.not_golden h.kept golden)
          (heard_of m s now word bytes).trail (laws.adverts m s now word bytes wide source entries order is).0

      by_message : (r : Result Message FrameFault) → message_of bytes m.wide ≡ r → Through KeepsGoldenRow (heard_of m s now word bytes).trail
      by_message (Err fault) is = golden_rests bytes (refused_trail laws m s now word bytes fault is)
      by_message (Ok (Advert source entries order)) is = by_advert false source entries order is
      by_message (Ok (Request source to image version page want)) is = golden_rests bytes (laws.requests m s now word bytes source to image version page want is)
      by_message (Ok (Wide source entries order)) is = by_advert true source entries order is
      by_message (Ok (Packet source image version page q content)) is =
          Through-map (λ t. (t ≡ s) ⊎ Completes m.mode image version page q s t) KeepsGoldenRow
          (λ t may. ⊎_elim (λ same. subst KeepsGoldenRow (sym same) golden)
          (λ c. let low : 1 ≤ c.r.image = subst AsksForOthers c.receives asks in let same = c.image_is in
          keeps_other s t image (option_map (λ (h : Held). with_page h c.content) (held s image)) (omega (arith, low, same)) (ap (λ (x : Store). x.kept) c.paged_is) golden)
          may)
          (heard_of m s now word bytes).trail (laws.packets m s now word bytes source image version page q content is)

continues_asks : (comes : (image version page q : ℕ) → Type 0) (old : Mode) (r : Receiving) → AsksForOthers old → Continues old comes r → 1 ≤ r.image
continues_asks comes old r asks c = let low : 1 ≤ c.before.image = subst AsksForOthers c.was asks in let same = c.image in omega (arith, low, same)

ticked_mode : (old new : Mode) → AsksForOthers old → IfReceives (Continues old (λ image version page q. ⊥)) new → AsksForOthers new
ticked_mode old (Maintain timer) asks c = tt
ticked_mode old (Receive r) asks c = continues_asks (λ image version page q. ⊥) old r asks c
ticked_mode old (Transmit t) asks c = tt

heard_mode : (bytes : List ℕ) (wide : Bool) (old new : Mode) → AsksForOthers old → IfReceives (λ r. IsBegun r ⊎ Continues old (Brings bytes wide) r) new → AsksForOthers new
heard_mode bytes wide old (Maintain timer) asks c = tt
heard_mode bytes wide old (Receive r) asks c = ⊎_elim (λ begun. begun.not_golden) (λ more. continues_asks (Brings bytes wide) old r asks more) c
heard_mode bytes wide old (Transmit t) asks c = tt

pub ticked_asks : ChangeLaws → (m : MoteState) (s : Store) (now word : ℕ) → AsksForOthers m.mode → AsksForOthers (tick_of m s now word).mote.mode
ticked_asks laws m s now word asks = ticked_mode m.mode (tick_of m s now word).mote.mode asks (laws.comes_not m s now word)

pub heard_asks : ChangeLaws → (m : MoteState) (s : Store) (now word : ℕ) (bytes : List ℕ) → AsksForOthers m.mode → AsksForOthers (heard_of m s now word bytes).mote.mode
heard_asks laws m s now word bytes asks = heard_mode bytes m.wide m.mode (heard_of m s now word bytes).mote.mode asks (laws.comes m s now word bytes)
