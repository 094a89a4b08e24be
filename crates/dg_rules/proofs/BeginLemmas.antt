-- What is played from a world that agrees with its table: each item fits, and the number of motes stays.
use Rattle.std.proofs.Common.{◌≡◌, ℕ, List, [], ◌∷◌, length, refl, sym, ap, subst, ◌∙◌}
use Rattle.std.specs.List.{AllByRecursion}
use Rattle.dg_volume.specs.Table.{row_at}
use Rattle.dg_rules.specs.World.{World}
use Rattle.dg_script.specs.Ranges.{EventInRange, StepInRange}
use Rattle.dg_rules.specs.Premises.{WorldAgrees, TrueEvent, ItemFits, PlayedFits, ItemInRange, PlayedInRange, TrueItem, IsTrueThen, LeavesAgreement}
use Rattle.dg_rules.specs.Begins.{PlaysFrom}
use Rattle.dg_rules.specs.Promises.{StopsAgree}
use Rattle.dg_script.specs.Items.{Item, Declares, Applies}
use Rattle.dg_rules.specs.Runs.{Played, ItemStep, Plays, EachAfter}
use Rattle.dg_base.specs.declared.events.Event.{Event}
use Rattle.dg_script.specs.declared.report.Report.{Report}
use Rattle.dg_rules.proofs.StepLemmas.{step_count}
use Rattle.dg_rules.proofs.SoundLemmas.{declared_sites}
use Rattle.dg_rules.proofs.PlayLemmas.{Ended, plays, all_then, all_both}

item_count : (motes : ℕ) (item : Item) (w v : World) (reports : List Report) → length w.sites ≡ motes → ItemInRange motes item → ItemStep w item v reports → length v.sites ≡ motes
item_count motes (Declares row) w v reports count range did = ap length (ap (λ (u : World). u.sites) did.world ∙ declared_sites (row_at w.declared row.image row.version) w row) ∙ count
item_count motes (Applies x reported) w v reports count range did = step_count w x v did.0 (subst (λ (n : ℕ). StepInRange n x) (sym count) range) did.1 ∙ count

item_fits : (motes : ℕ) (item : Item) (w : World) → length w.sites ≡ motes → ItemInRange motes item → TrueItem item w → ItemFits item w
item_fits motes (Declares row) w count range is_true = range
item_fits motes (Applies x reported) w count range is_true = (subst (λ (n : ℕ). StepInRange n x) (sym count) range, is_true)

fits_played : (motes : ℕ) (past : List Played) (p : Played) → length p.before.sites ≡ motes → PlayedInRange motes p × IsTrueThen p → ItemStep p.before p.item p.after p.reports
    → (length p.after.sites ≡ motes) × PlayedFits p
fits_played motes past p count range did = (item_count motes p.item p.before p.after p.reports count range.0 did, item_fits motes p.item p.before count range.0 range.1)

-- the last world agrees if each item keeps agreement
ends_agree : (played : List Played) (w v : World) → Plays w played v → WorldAgrees w → AllByRecursion LeavesAgreement played → WorldAgrees v
unfolding Plays
ends_agree [] w v run agrees all = subst WorldAgrees run agrees
ends_agree (p ∷ ps) w v run agrees all = ends_agree ps p.after v run.2 all.0 all.1

module _ (u v : World) (played : List Played) (from : PlaysFrom u played v) where
  run : Ended (λ past w. length w.sites ≡ length u.sites) v × EachAfter (λ past p. PlayedFits p) [] played
  run =
      plays (λ past w. length w.sites ≡ length u.sites) (λ p. PlayedInRange (length u.sites) p × IsTrueThen p) (λ past p. PlayedFits p) (fits_played (length u.sites)) [] played u v from.plays
      (all_both (PlayedInRange (length u.sites)) IsTrueThen played from.ranges from.are_true) refl

  pub from_fits : AllByRecursion PlayedFits played
  from_fits = all_then (λ past p. PlayedFits p) PlayedFits (λ past p fits. fits) [] played run.1

  pub from_ends : AllByRecursion LeavesAgreement played → WorldAgrees v
  from_ends all = ends_agree played u v from.plays from.agrees all

  pub from_halves : ((w : World) (e : Event) → WorldAgrees w → EventInRange (length w.sites) e → TrueEvent w e → StopsAgree w e) → AllByRecursion LeavesAgreement played
      → (e : Event) → EventInRange (length u.sites) e → TrueEvent v e → StopsAgree v e
  from_halves stopped all e fits is_true = stopped v e (from_ends all) (subst (λ (n : ℕ). EventInRange n e) (sym run.0.holds) fits) is_true
