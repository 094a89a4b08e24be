use Rattle.std.proofs.Common.{◌≡◌, ◌<◌, ℕ, List, Option, None, IfSome, get_or, sym, ap, subst, ◌∙◌}
use Rattle.dg_control.specs.declared.snapshot.Snapshot.{Snapshot}
use Rattle.dg_nor.proofs.ReadLemmas.{Looked_then, ReadStopped_after}
use Rattle.dg_volume.specs.Store.{held}
use Rattle.dg_volume.specs.Told.{program_told}
use Rattle.dg_volume.specs.Stands.{HoldsApp}
use Rattle.dg_inspect.specs.Pages.{ShowsKept}
use Rattle.dg_inspect.specs.declared.seen.ImageSeen.{ImageSeen}
use Rattle.dg_inspect.proofs.SeenLemmas.{look_stopped}
use Rattle.dg_inspect.proofs.looking.see_volume.Goals as goal

pub returns-clause-shows : goal.returns-clause-shows
returns-clause-shows g c s mounted =
    let image = (g.N.Nor.device c.args.nor.now).image in
    let says = mounted.tells.says in
    let now : Snapshot = c.snapshot-now.result in
    let program : now.program ≡ program_told s.app = ap (λ (p : Snapshot). p.program) c.snapshot-now.ensures ∙ says.program in
    let shown = c.in_ok-images.ensures.shows s mounted in
    let same = c.in_ok-images.ensures.ends.same_image in
    record {
      room = c.room.ensures ∙ mounted.tells.room;
      order = ap (λ (p : Snapshot). p.order) c.snapshot-now.ensures ∙ says.order;
      order_state = c.order_state.ensures s mounted.tells;
      gesture = ap (λ (p : Snapshot). p.gesture) c.snapshot-now.ensures ∙ says.gesture;
      next = c.next_start.ensures image s mounted (subst (λ (xs : List (Option ImageSeen)). (i : ℕ) → i < 7 → ShowsKept (held s i) (get_or xs i None)) (sym c.deref.ensures.value) shown);
      program = c.in_ok-program.ensures.shows s.app program (subst (λ (x : List ℕ). IfSome s.app (HoldsApp x)) (sym same) mounted.stands.contains.app);
      count = c.in_ok-images.ensures.count;
      images = shown;
    }

pub returns-clause-form : goal.returns-clause-form
returns-clause-form g c = c.form.ensures.told (g.N.Nor.device c.args.nor.now).image c.requires.mounted

pub returns-clause-ends : goal.returns-clause-ends
returns-clause-ends g c = Looked_then c.in_ok-images.ensures.ends c.in_ok-program.ensures.ends

pub returns-in_err-program-clause-ends : goal.returns-in_err-program-clause-ends
returns-in_err-program-clause-ends g c = look_stopped c.from_residual-in_err-program.result _ _ c.from_residual-in_err-program.ensures.1 (ReadStopped_after c.in_ok-images.ensures.ends c.in_err-program.ensures.ends)
