use Rattle.std.proofs.Common.{◌≡◌, ℕ, ◌*◌, List, length, refl, sym, ap, subst, ◌∙◌}
use Rattle.std.specs.Bool.{⊤}
use Rattle.dg_nor.specs.Trail.{last}
use Rattle.dg_nor.specs.Device.{Ran, Halted}
use Rattle.dg_nor.proofs.DeviceLemmas.{OnErr_from}
use Rattle.dg_slot.specs.Layout.{program_sector, program_end}
use Rattle.dg_volume.specs.Sizes.{copy_operations}
use Rattle.dg_volume.specs.Store.{held}
use Rattle.dg_volume.specs.Start.{complete_pages, blank_trail, copy_trail}
use Rattle.dg_volume.proofs.ActLemmas.{stops_first, stops_then}
use Rattle.dg_boot.proofs.BeginLemmas.{copy_begins}
use Rattle.dg_boot.proofs.CommitLemmas.{went_then}
use Rattle.dg_boot.proofs.BootLemmas.{if_ok_both, on_err_map, copy_went, copy_stops, TouchesBut-commit, TouchesBut-memory, TouchesBut_then}
use Rattle.dg_boot.proofs.CaseLemmas.{blank_app, blank_held, keeps_found, whole_pages}
use Rattle.dg_boot.proofs.starting.copy_in.Goals as goal

pub returns-in_err-blank-clause-stopped : goal.returns-in_err-blank-clause-stopped
returns-in_err-blank-clause-stopped g c =
    OnErr_from c.from_residual.result (λ s mounted.
    let b = last (blank_trail s) in
    let copy = copy_trail b (complete_pages (held s c.args.image)) in
    stops_first (blank_trail s) copy _ _ (copy_begins b (complete_pages (held s c.args.image))).works refl (c.in_err-blank.ensures.goes s mounted))

pub load-requires-clause-kept : goal.load-requires-clause-kept
load-requires-clause-kept g c =
    let s = c.requires.mounted.0 in
    let m = c.requires.mounted.1 in
    let x = c.requires.whole s m in
    let went = c.in_ok-blank.ensures.goes s m in
    (x.found, keeps_found _ (last (blank_trail s)) c.args.image x.found c.requires.known_image went.acted.mounted.stands (blank_held s c.args.image ∙ x.here), x.whole)

pub returns-clause-copied : goal.returns-clause-copied
returns-clause-copied g c =
    if_ok_both _ _ c.load.result c.load.ensures.loaded c.load.ensures.ran (λ told loads ran s m.
    let i = c.args.image in
    let b = last (blank_trail s) in
    let pages = complete_pages (held s i) in
    let x = c.requires.whole s m in
    let blanked = c.in_ok-blank.ensures.goes s m in
    let there = blanked.acted.mounted in
    let here = blank_held s i ∙ x.here in
    let keeps = keeps_found _ b i x.found c.requires.known_image there.stands here in
    let done = loads x.found keeps x.whole in
    let same : x.found.complete ≡ pages = sym (ap complete_pages x.here) in
    let copied : Ran (copy_operations * length pages) (g.N.Nor.device c.blank.new.nor) (g.N.Nor.device c.load.new.nor) =
    subst (λ (ps : List (List ℕ)). Ran (copy_operations * length ps) (g.N.Nor.device c.blank.new.nor) (g.N.Nor.device c.load.new.nor)) same (ran x.found keeps x.whole) in
    record {
      went = went_then (blank_trail s) (copy_trail b pages) _ _ _ _ _ refl blanked
          (copy_went b pages _ _ c.blank.new.volume (blank_app s) (whole_pages _ s i x.found c.requires.known_image m.stands x.here x.whole) there c.load.ensures.touches copied);
      found = x.found;
      here = x.here;
      holds = done.0;
      measures = done.1;
      memory = done.2;
    })

pub returns-clause-stopped : goal.returns-clause-stopped
returns-clause-stopped g c =
    on_err_map c.load.result c.load.ensures.stopped (λ halted s m.
    let i = c.args.image in
    let b = last (blank_trail s) in
    let pages = complete_pages (held s i) in
    let x = c.requires.whole s m in
    let blanked = c.in_ok-blank.ensures.goes s m in
    let there = blanked.acted.mounted in
    let keeps = keeps_found _ b i x.found c.requires.known_image there.stands (blank_held s i ∙ x.here) in
    let same : x.found.complete ≡ pages = sym (ap complete_pages x.here) in
    let stopped : Halted (copy_operations * length pages) (λ _ _. ⊤) (g.N.Nor.device c.blank.new.nor) (g.N.Nor.device c.load.new.nor) =
    subst (λ (ps : List (List ℕ)). Halted (copy_operations * length ps) (λ _ _. ⊤) (g.N.Nor.device c.blank.new.nor) (g.N.Nor.device c.load.new.nor)) same (halted x.found keeps x.whole) in
    stops_then (blank_trail s) (copy_trail b pages) _ _ _ c.blank.new.volume refl blanked.acted (copy_stops b pages _ _ c.blank.new.volume (blank_app s) there c.load.ensures.touches stopped))

pub returns-clause-touches : goal.returns-clause-touches
returns-clause-touches g c =
    TouchesBut_then (TouchesBut-commit (program_sector 0) program_end c.in_ok-blank.ensures.touches) (TouchesBut-memory (program_sector 0) program_end c.load.ensures.touches)
