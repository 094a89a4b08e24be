use Rattle.std.proofs.Common.{◌≡◌, List, ℕ, ◌∙◌, sym, subst, ap, arith}
use Rattle.std.specs.Prelude.{Err, length}
use Rattle.dg_volume.specs.Stands.{Stands}
use Rattle.dg_volume.specs.declared.volume.Kept.{Kept}
use Rattle.deluge_c.proofs.PlanLemmas.{told_some}
use Rattle.deluge_c.proofs.looks.deluge_kept.Goals as goal

pub returns-in-Err-NotAVolume-clause-no_volume : goal.returns-in-Err-NotAVolume-clause-no_volume
returns-in-Err-NotAVolume-clause-no_volume c = λ is s stands. c.in-Err-NotAVolume.ensures.not_a_volume (ap Err c.in-Err-NotAVolume.field-0-is) s (subst (λ (x : List ℕ). Stands x s) (sym c.new-plan.ensures.same) stands)

pub returns-in-Some-clause-found : goal.returns-in-Some-clause-found
returns-in-Some-clause-found c = λ is s stands.
    let m = c.in-Ok.ensures.mounted s (subst (λ (x : List ℕ). Stands x s) (sym c.new-plan.ensures.same) stands) in
    let h = told_some _ _ (sym (m.tells.kept c.args.image (omega arith) (λ x. x)) ∙ sym c.in-Some.ensures) in (
      h.0,
      h.1,
      record {
        version = ap (λ (k : Kept). k.version) (sym h.2);
        crc = ap (λ (k : Kept). k.crc) (sym h.2);
        pages = ap (λ (k : Kept). k.pages) (sym h.2);
        done = ap (λ (k : Kept). k.done) (sym h.2);
      },
    )
