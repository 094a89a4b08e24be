use Rattle.std.proofs.Common.{◌≡◌, ◌∷◌, [], ◌++◌, ℕ, sym, ap, ◌∙◌, Err, subst}
use Rattle.std.specs.Prelude.{codes}
use Rattle.std.proofs.lemmas.Bool.{eqb-true}
use Rattle.dg_nor.specs.Trail.{last}
use Rattle.dg_control.specs.Store.{HasForm}
use Rattle.dg_volume.specs.Trails.{migrate_trail}
use Rattle.dg_volume.specs.Stands.{form_of}
use Rattle.dg_volume.proofs.BeginLemmas.{migrate_begins}
use Rattle.dg_boot.proofs.BootLemmas.{stops_looked}
use Rattle.dg_end.specs.Texts.{numbers, line}
use Rattle.dg_end.specs.Conversions.{end_of_mount, end_of_commit}
use Rattle.dg_end.specs.declared.ends.End.TheVariants as ends
use Rattle.dg_tool.specs.Verbs.{migrate_by}
use Rattle.dg_tool.specs.Done.{VerbStopsOn}
use Rattle.dg_tool.specs.inner.OnChip.{MigratedOn}
use Rattle.dg_tool.proofs.BoardLemmas.{some_of, no_boards, at_boards}
use Rattle.dg_tool.proofs.InputLemmas.{ok_unlike}
use Rattle.dg_tool.proofs.TrailLemmas.{stops_before, unmounted_first, acted_first, volume_of}
use Rattle.dg_tool.proofs.StartLemmas.{migrate_needs, migrate_made, migrate_wants, migrate_fails, migrated_looked, first_in_form, in_one_form}
use Rattle.dg_tool.proofs.migrating.migrate_first.Goals as goal

pub returns-then-is_empty : goal.returns-then-is_empty
returns-then-is_empty g c = λ form is. no_boards g.N.Nor.device c.args.boards.now _ _ _ _ _ (eqb-true _ _ (sym c.is_empty.ensures ∙ c.if-is_empty.true))

pub returns-in_err-volume : goal.returns-in_err-volume
returns-in_err-volume g c = λ form is.
    let x = c.in_err-volume in
    at_boards _ c.from_residual.result (end_of_mount x.field-0.0) _ _ _ _ c.from_residual.ensures.1
    (unmounted_first g.N.Nor.device c.args.boards.now _ _ ⊥ (migrate_by form) (MigratedOn form) (VerbStopsOn (migrate_trail form)) (some_of _ (sym c.is_empty.ensures ∙ c.if-is_empty.false)) (migrate_needs form)
    x.field-0.0 (stops_before (migrate_trail form) _ _ (migrate_begins form)) (λ e. x.ensures.stopped (ap (λ f. Err f) e)) (λ e. x.ensures.not_a_volume (ap (λ f. Err f) e)) (λ e. x.ensures.refused (ap (λ f. Err f) e)))

pub returns-in_err-migrate : goal.returns-in_err-migrate
returns-in_err-migrate g c = λ form is.
    let x = c.in_err-migrate in
    let v = c.in_ok-volume.volume in
    let m = c.in_ok-volume.ensures in
    let some = some_of _ (sym c.is_empty.ensures ∙ c.if-is_empty.false) in
    let one : form_of v ≡ form = c.a_volume_has_one_form.ensures.one _ (form_of v) form (c.a_volume_has_one_form.ensures.told _ v m.volume) (first_in_form g.N.Nor.device c.args.boards.now _ form some is (volume_of _ v m.volume)) in
    at_boards _ c.from_residual-in_err-migrate.result (end_of_commit x.field-0.0) _ _ _ _ c.from_residual-in_err-migrate.ensures.1
    (acted_first g.N.Nor.device c.args.boards.now _ _ ⊥ (migrate_by form) (MigratedOn form) (VerbStopsOn (migrate_trail form)) some (migrate_needs form)
    _ _ v m.looked m.same_image m.volume m.mounted (λ s. migrated_looked form s _ _ _ m.looked) (λ s. stops_looked (migrate_trail form s) _ _ _ m.looked)
    (λ s there.
    in_one_form (form_of v) form s _ _ _ one
    (migrate_fails (form_of v) s _ _ x.field-0.0 (λ e. (x.ensures.worn.0 (ap (λ f. Err f) e)).0) (λ e. sym there.tells.room ∙ (x.ensures.worn.0 (ap (λ f. Err f) e)).1) (λ e. (x.ensures.unchanged (ap (λ f. Err f) e)).0) (λ e. x.ensures.stopped (ap (λ f. Err f) e) s there))))

pub returns-in_err-line : goal.returns-in_err-line
returns-in_err-line g c = λ form is.
    let v = c.in_ok-volume.volume in
    let m = c.in_ok-volume.ensures in
    let x = c.in_ok-migrate.ensures in
    let some = some_of _ (sym c.is_empty.ensures ∙ c.if-is_empty.false) in
    let one : form_of v ≡ form = c.a_volume_has_one_form.ensures.one _ (form_of v) form (c.a_volume_has_one_form.ensures.told _ v m.volume) (first_in_form g.N.Nor.device c.args.boards.now _ form some is (volume_of _ v m.volume)) in
    at_boards _ c.from_residual-in_err-line.result ends.Memory _ _ _ _ c.from_residual-in_err-line.ensures.1
    (acted_first g.N.Nor.device c.args.boards.now _ _ ⊥ (migrate_by form) (MigratedOn form) (VerbStopsOn (migrate_trail form)) some (migrate_needs form)
    _ _ v m.looked m.same_image m.volume m.mounted (λ s. migrated_looked form s _ _ _ m.looked) (λ s. stops_looked (migrate_trail form s) _ _ _ m.looked)
    (λ s there.
    let acted = x.acted s there in
    let written = c.a_volume_has_one_form.ensures.told (g.N.Nor.device c.migrate.new.nor).image c.migrate.new.self (last (migrate_trail (form_of v) s), acted.mounted) in
    in_one_form (form_of v) form s _ _ _ one
    (migrate_wants (form_of v) s _ _ c.migrate.new.self (λ old none. ok_unlike _ _ (x.worn.1 (old, there.tells.room ∙ none))) acted (subst (HasForm (g.N.Nor.device c.migrate.new.nor).image) x.form written))))

pub returns : goal.returns
returns g c = λ form is.
    let v = c.in_ok-volume.volume in
    let m = c.in_ok-volume.ensures in
    let x = c.in_ok-migrate.ensures in
    let some = some_of _ (sym c.is_empty.ensures ∙ c.if-is_empty.false) in
    let one : form_of v ≡ form = c.a_volume_has_one_form.ensures.one _ (form_of v) form (c.a_volume_has_one_form.ensures.told _ v m.volume) (first_in_form g.N.Nor.device c.args.boards.now _ form some is (volume_of _ v m.volume)) in
    acted_first g.N.Nor.device c.args.boards.now _ _ ⊥ (migrate_by form) (MigratedOn form) (VerbStopsOn (migrate_trail form)) some (migrate_needs form)
    _ _ v m.looked m.same_image m.volume m.mounted (λ s. migrated_looked form s _ _ _ m.looked) (λ s. stops_looked (migrate_trail form s) _ _ _ m.looked)
    (λ s there.
    let acted = x.acted s there in
    let written = c.a_volume_has_one_form.ensures.told (g.N.Nor.device c.migrate.new.nor).image c.migrate.new.self (last (migrate_trail (form_of v) s), acted.mounted) in
    in_one_form (form_of v) form s _ _ _ one
    (migrate_made (form_of v) s _ _ c.migrate.new.self c.in_ok-line.line.items (λ old none. ok_unlike _ _ (x.worn.1 (old, there.tells.room ∙ none)))
    (c.in_ok-line.ensures ∙ ap (λ (n : ℕ). line (codes "form" ++ numbers (n ∷ []))) (c.from.ensures ∙ c.form.ensures.value ∙ x.form)) acted (subst (HasForm (g.N.Nor.device c.migrate.new.nor).image) x.form written)))
