-- Worlds that agree, in which no short starts wait and the packets of each page that is asked for came: through items.
use Rattle.std.proofs.Common.{◌≡◌, ℕ, ◌<◌, Bool, List, [], ◌∷◌, length, get_or, Option, Some, None, IfSome, refl, sym, ap, subst, ◌∙◌}
use Rattle.std.specs.List.{AllByRecursion}
use Rattle.dg_object.specs.Object.{Row}
use Rattle.dg_volume.specs.Table.{row_at}
use Rattle.dg_mote.specs.Changes.{IfReceives}
use Rattle.dg_rules.specs.World.{World, Site, Running, store_at, is_wide_mote, wide_at, no_site}
use Rattle.dg_rules.specs.Small.{small}
use Rattle.dg_rules.specs.Events.{does}
use Rattle.dg_rules.specs.Steps.{WorldStep, DeclareStep, declared_as}
use Rattle.dg_script.specs.Ranges.{IsDeclared, EventInRange, StepInRange}
use Rattle.dg_base.specs.declared.events.Event.{Event}
use Rattle.dg_base.specs.declared.events.Step.{Step}
use Rattle.dg_rules.specs.Legal.{Past}
use Rattle.dg_rules.specs.Past.{past_item, past_of}
use Rattle.dg_rules.specs.Premises.{WorldAgrees, TrueEvent, ItemFits, PlayedFits, LeavesAgreement, AllOff}
use Rattle.dg_rules.specs.Promises.{IsLegal, LegalItem, KeepsAll, StartsDoes, StartsRow, StartsItem}
use Rattle.dg_script.specs.Items.{Item, Declares, Applies}
use Rattle.dg_rules.specs.Runs.{Played, ItemStep, Plays, EachAfter}
use Rattle.dg_script.specs.declared.report.Report.{Report}
use Rattle.dg_rules.proofs.BootLemmas.{IsSettled}
use Rattle.dg_rules.proofs.ChangesLemmas.{StepLaws}
use Rattle.dg_rules.proofs.EffectLemmas.{CameTo, WorldSettled, WorldCame, step_legal, step_settled}
use Rattle.dg_rules.proofs.MessageLemmas.{AllThere}
use Rattle.dg_rules.proofs.CameLemmas.{step_came}
use Rattle.dg_rules.proofs.WidthLemmas.{declare_narrow}
use Rattle.dg_rules.proofs.PlayLemmas.{plays, each_then, all_then}

-- ---- declarations change no mote

pub declared_sites : (o : Option Row) (w : World) (row : Row) → (declared_as o w row).sites ≡ w.sites
declared_sites None w row = refl
declared_sites (Some kept) w row = refl

declared_small : (o : Option Row) (w : World) (row : Row) → small (declared_as o w row) ≡ small w
declared_small None w row = refl
declared_small (Some kept) w row = refl

-- what depends on the sites alone holds of every world with the same sites
abbrev pub At : (ℕ → Site → Type 0) → List Site → Type 0
At P sites = (m : ℕ) → m < length sites → P m (get_or sites m no_site)

-- ---- items

pub record IsSound (past : Past) (w : World) : Type 0 where
  pub agrees : WorldAgrees w
  pub settled : WorldSettled w
  pub came : WorldCame past w

abbrev pub Sound : List Played → World → Type 0
Sound past w = IsSound (past_of past) w

pub record Holds (past : List Played) (p : Played) : Type 0 where
  pub agrees : LeavesAgreement p
  pub legal : IsLegal past p
  pub starts : StartsRow p

-- what is known of agreement, of starts and of what is kept
pub record RunLaws : Type 0 where
  pub steps : StepLaws
  pub stepped : (w v : World) (x : Step) (reports : List Report) → WorldAgrees w → StepInRange (length w.sites) x → TrueEvent w x.event → WorldStep w x v reports → WorldAgrees v
  pub declared : (w v : World) (row : Row) (reports : List Report) → WorldAgrees w → IsDeclared row → DeclareStep w row v reports → WorldAgrees v
  pub starts : (w : World) (e : Event) → WorldAgrees w → EventInRange (length w.sites) e → StartsDoes (does w e) w.table
  pub keeps : (past : List Played) (p : Played) → IsLegal past p → KeepsAll p

module _ (laws : RunLaws) where
  sound_item : (past : Past) (item : Item) (w v : World) (reports : List Report) → IsSound past w → ItemFits item w → ItemStep w item v reports
      → IsSound (past_item item w past) v × LegalItem item past w v × StartsItem item w
  sound_item past (Declares row) w v reports i fits did =
      let o = row_at w.declared row.image row.version in
      let sites : v.sites ≡ w.sites = ap (λ (u : World). u.sites) did.world ∙ declared_sites o w row in (
        record {
          agrees = laws.declared w v row reports i.agrees fits did;
          settled = subst (At (λ m y. IfSome y.runs (λ r. IsSettled y.store))) (sym sites) i.settled;
          came = subst (λ (narrow : List Bool). At (λ m y. CameTo past m (is_wide_mote narrow m) y) v.sites) (sym (declare_narrow w v row reports did))
              (subst (At (λ m y. CameTo past m (wide_at w m) y)) (sym sites) i.came);
        },
        ap small did.world ∙ declared_small o w row,
        tt,
      )
  sound_item past (Applies x reported) w v reports i fits did = (
    record {
      agrees = laws.stepped w v x did.0 i.agrees fits.0 fits.1 did.1;
      settled = step_settled laws.steps past w i.agrees i.settled i.came x v did.0 fits.0 fits.1 did.1;
      came = step_came laws.steps.restarts laws.steps.changes past w i.agrees i.came x v did.0 fits.0 did.1;
    },
    step_legal laws.steps past w i.agrees i.settled i.came x v did.0 fits.0 fits.1 did.1,
    laws.starts w x.event i.agrees fits.0.event,
  )

  pub sound_played : (past : List Played) (p : Played) → Sound past p.before → PlayedFits p → ItemStep p.before p.item p.after p.reports → Sound (p ∷ past) p.after × Holds past p
  unfolding past_of
  sound_played past p i fits did =
      let one = sound_item (past_of past) p.item p.before p.after p.reports i fits did in
      (one.0, record { agrees = one.0.agrees; legal = one.1; starts = one.2 })

  -- ---- runs

  off_sound : (w : World) → WorldAgrees w → AllOff w → Sound [] w
  off_sound w agrees off = record {
    agrees = agrees;
    settled = λ m low. subst (λ (o : Option Running). IfSome o (λ r. IsSettled (store_at w m))) (sym (off m)) tt;
    came = λ m low. subst (λ (o : Option Running). IfSome o (λ r. IfReceives (AllThere m (wide_at w m) (past_of [])) r.mote.mode)) (sym (off m)) tt;
  }

  module _ (w v : World) (played : List Played) (agrees : WorldAgrees w) (off : AllOff w) (run : Plays w played v) (fits : AllByRecursion PlayedFits played) where
    run_holds : EachAfter Holds [] played
    run_holds = (plays Sound PlayedFits Holds sound_played [] played w v run fits (off_sound w agrees off)).1

    pub run_legal : EachAfter IsLegal [] played
    run_legal = each_then Holds IsLegal (λ past p h. h.legal) [] played run_holds

    pub run_agrees : AllByRecursion LeavesAgreement played
    run_agrees = all_then Holds LeavesAgreement (λ past p h. h.agrees) [] played run_holds

    pub run_keeps : AllByRecursion KeepsAll played
    run_keeps = all_then Holds KeepsAll (λ past p h. laws.keeps past p h.legal) [] played run_holds

    pub run_starts : AllByRecursion StartsRow played
    run_starts = all_then Holds StartsRow (λ past p h. h.starts) [] played run_holds
