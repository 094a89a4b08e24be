use Rattle.std.proofs.Common.{◌≡◌, ℕ, None, Some, Ok, Err, refl, sym, ap, subst, ◌∙◌}
use Rattle.dg_nor.specs.Trail.{last}
use Rattle.dg_object.specs.Object.{Outline, object, profile}
use Rattle.dg_object.specs.Records.{outline_of}
use Rattle.dg_slot.specs.Kept.{held_begun}
use Rattle.dg_volume.specs.Store.{Store, held}
use Rattle.dg_volume.specs.Stands.{is_lent}
use Rattle.dg_volume.specs.Changes.{FitAll, take_refusal, UnlessTakeRefused}
use Rattle.dg_volume.specs.Trails.{take_trail}
use Rattle.dg_volume.specs.Acts.{Stops}
use Rattle.dg_volume.proofs.InjectLemmas.{older_told, begun_anew, anew_fits}
use Rattle.dg_volume.proofs.StoreLemmas.{one_store}
use Rattle.dg_volume.specs.Filling.{new_row}
use Rattle.dg_chain_tool.specs.inner.Filling.{fill_to}
use Rattle.dg_end.specs.Conversions.{end_of_take}
use Rattle.dg_tool.proofs.OutcomeLemmas.{at_end}
use Rattle.dg_chain_tool.specs.inner.Words.{first_foreign}
use Rattle.dg_chain_tool.proofs.FillLemmas.{to_first}
use Rattle.dg_chain_tool.proofs.ReceiveLemmas.{Received, received_whole, received_part, take_fails, take_free, anew_done, anew_fill, ends_then}
use Rattle.dg_chain_tool.proofs.receiving.receive_anew.Goals as goal

pub take-requires-clause-names_it : goal.take-requires-clause-names_it
take-requires-clause-names_it g c = ap (λ (p : Outline). p.image) c.profile.ensures

pub put_back-requires : goal.put_back-requires
put_back-requires g c = ap (is_lent c.take.new.self) (ap (λ (p : Outline). p.image) (c.in_ok-slot.ensures.open.0 ∙ c.profile.ensures)) ∙ c.in_ok-slot.ensures.open.2

pub receive_rest-requires-clause-mounted : goal.receive_rest-requires-clause-mounted
receive_rest-requires-clause-mounted g c =
    let s = c.requires.mounted.0 in
    let mounted = c.requires.mounted.1 in
    let row = new_row c.args.new.now in
    let is = c.args.new.now.is_row in
    let opened = c.in_ok-slot.ensures.open in
    let begun = begun_anew s row (outline_of c.profile.result) (g.N.Nor.device c.args.nor.now) (g.N.Nor.device c.take.new.nor) c.take.new.self c.put_back.new.self c.in_ok-slot.slot c.requires.known_image c.profile.ensures (c.in_ok-slot.ensures.acted s mounted) opened.0 opened.1 c.put_back.ensures.mounted in
    (last (take_trail s (profile row)), begun.mounted)

pub receive_rest-requires-clause-not_lent : goal.receive_rest-requires-clause-not_lent
receive_rest-requires-clause-not_lent g c = ap (is_lent c.put_back.new.self) (sym (ap (λ (p : Outline). p.image) (c.in_ok-slot.ensures.open.0 ∙ c.profile.ensures))) ∙ c.put_back.ensures.back

pub receive_rest-requires-clause-fit : goal.receive_rest-requires-clause-fit
receive_rest-requires-clause-fit g c = λ t there.
    let s = c.requires.mounted.0 in
    let mounted = c.requires.mounted.1 in
    let row = new_row c.args.new.now in
    let is = c.args.new.now.is_row in
    let opened = c.in_ok-slot.ensures.open in
    let begun = begun_anew s row (outline_of c.profile.result) (g.N.Nor.device c.args.nor.now) (g.N.Nor.device c.take.new.nor) c.take.new.self c.put_back.new.self c.in_ok-slot.slot c.requires.known_image c.profile.ensures (c.in_ok-slot.ensures.acted s mounted) opened.0 opened.1 c.put_back.ensures.mounted in
    let same = one_store _ t (last (take_trail s (profile row))) there.stands begun.mounted.stands in
    subst (λ (x : Store). FitAll row.image (object row) x) (sym same) (anew_fits c.a_row_is_filled_page_by_page.ensures.next s row _ _ _ _ is c.requires.known_image begun)

pub receive_rest-requires-clause-complete : goal.receive_rest-requires-clause-complete
receive_rest-requires-clause-complete g c = λ t there.
    let s = c.requires.mounted.0 in
    let mounted = c.requires.mounted.1 in
    let row = new_row c.args.new.now in
    let is = c.args.new.now.is_row in
    let opened = c.in_ok-slot.ensures.open in
    let begun = begun_anew s row (outline_of c.profile.result) (g.N.Nor.device c.args.nor.now) (g.N.Nor.device c.take.new.nor) c.take.new.self c.put_back.new.self c.in_ok-slot.slot c.requires.known_image c.profile.ensures (c.in_ok-slot.ensures.acted s mounted) opened.0 opened.1 c.put_back.ensures.mounted in
    let same = one_store _ t (last (take_trail s (profile row))) there.stands begun.mounted.stands in
    (held_begun (profile row), ap (λ (x : Store). held x row.image) same ∙ begun.here, refl)

pub returns-in_err-receive_rest : goal.returns-in_err-receive_rest
returns-in_err-receive_rest g c = record {
  ends = λ s mounted.
      let row = new_row c.args.new.now in
      let is = c.args.new.now.is_row in
      let opened = c.in_ok-slot.ensures.open in
      let begun = begun_anew s row (outline_of c.profile.result) (g.N.Nor.device c.args.nor.now) (g.N.Nor.device c.take.new.nor) c.take.new.self c.put_back.new.self c.in_ok-slot.slot c.requires.known_image c.profile.ensures (c.in_ok-slot.ensures.acted s mounted) opened.0 opened.1 c.put_back.ensures.mounted in
      let older = older_told c.args.volume.now s row c.requires.known_image mounted.tells c.requires.older in
      let root = c.args.root.now in
      let found = first_foreign root (object row) 0 in
      let t = take_trail s (profile row) in
      let u = fill_to found 0 (last t) row.image (object row) in
      let none = take_free s row is c.requires.not_golden older (subst (λ (p : Outline). take_refusal s p ≡ None) c.profile.ensures (c.in_ok-slot.ensures.allowed s mounted)) in
      let as_found = ap (first_foreign root (object row)) (sym (anew_done s row older)) in
      let whole = anew_fill root s row none older in
      let fault = c.in_err-receive_rest.field-0.0 in
      at_end _ (Received root s row _ _) c.from_residual-in_err-receive_rest.result fault c.from_residual-in_err-receive_rest.ensures.1
      (received_part root s row _ _ ℕ fault found _ c.receive_rest.new.volume none as_found whole
      (ends_then {T = ℕ} (Err fault) found t u _ _ _ c.take.new.self c.receive_rest.new.volume (sym (to_first found 0 (last t) row.image (object row))) begun.acted (c.in_err-receive_rest.ensures.ends (last t) begun.mounted)));
}

pub returns : goal.returns
returns g c = record {
  ends = λ s mounted.
      let row = new_row c.args.new.now in
      let is = c.args.new.now.is_row in
      let opened = c.in_ok-slot.ensures.open in
      let begun = begun_anew s row (outline_of c.profile.result) (g.N.Nor.device c.args.nor.now) (g.N.Nor.device c.take.new.nor) c.take.new.self c.put_back.new.self c.in_ok-slot.slot c.requires.known_image c.profile.ensures (c.in_ok-slot.ensures.acted s mounted) opened.0 opened.1 c.put_back.ensures.mounted in
      let older = older_told c.args.volume.now s row c.requires.known_image mounted.tells c.requires.older in
      let root = c.args.root.now in
      let found = first_foreign root (object row) 0 in
      let t = take_trail s (profile row) in
      let u = fill_to found 0 (last t) row.image (object row) in
      let none = take_free s row is c.requires.not_golden older (subst (λ (p : Outline). take_refusal s p ≡ None) c.profile.ensures (c.in_ok-slot.ensures.allowed s mounted)) in
      let as_found = ap (first_foreign root (object row)) (sym (anew_done s row older)) in
      let whole = anew_fill root s row none older in
      received_whole root s row _ _ ℕ 0 found _ c.receive_rest.new.volume none as_found whole
      (ends_then {T = ℕ} (Ok 0) found t u _ _ _ c.take.new.self c.receive_rest.new.volume (sym (to_first found 0 (last t) row.image (object row))) begun.acted (c.in_ok-receive_rest.ensures.ends (last t) begun.mounted));
}

pub returns-in_err-slot : goal.returns-in_err-slot
returns-in_err-slot g c = record {
  ends = λ s mounted.
      let row = new_row c.args.new.now in
      let is = c.args.new.now.is_row in
      let x = c.in_err-slot in
      let fault = x.field-0.0 in
      let root = c.args.root.now in
      let older = older_told c.args.volume.now s row c.requires.known_image mounted.tells c.requires.older in
      let same = c.profile.ensures in
      at_end _ (Received root s row _ _) c.from_residual.result (end_of_take fault) c.from_residual.ensures.1
      (take_fails root s row (g.N.Nor.device c.args.nor.now) (g.N.Nor.device c.take.new.nor) fault is c.requires.not_golden older
      (subst (λ (p : Outline). UnlessTakeRefused {T = ℕ} (Err fault) (take_refusal s p)) same (x.ensures.allowed s mounted))
      (λ other. subst (λ (p : Outline). take_refusal s p ≡ Some fault) same (x.ensures.refused fault refl other s mounted))
      (λ other. (x.ensures.unchanged fault refl other).0)
      (λ e. subst (λ (p : Outline). Stops (take_trail s p) (g.N.Nor.device c.args.nor.now) (g.N.Nor.device c.take.new.nor)) same (x.ensures.stopped (ap (λ f. Err f) e) s mounted)));
}
