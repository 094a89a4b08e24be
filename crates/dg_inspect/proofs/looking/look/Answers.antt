use Rattle.std.proofs.Common.{List, ℕ, sym, subst, rules}
use Rattle.dg_control.specs.Store.{HasForm}
use Rattle.dg_nor.proofs.ReadLemmas.{Looked_then}
use Rattle.dg_volume.specs.Stands.{IsNoVolume, Mounted}
use Rattle.dg_breaks.specs.Breaks.{BreaksAt}
use Rattle.dg_inspect.proofs.SeenLemmas.{look_fails_after}
use Rattle.dg_inspect.proofs.looking.look.Goals as goal

pub first_break-requires : goal.first_break-requires
first_break-requires g c = subst IsNoVolume (sym c.mount.ensures.same_image) (c.mount.ensures.not_a_volume (search rules))

pub returns-in_ok-seen-in-Ok-clause-shows : goal.returns-in_ok-seen-in-Ok-clause-shows
returns-in_ok-seen-in-Ok-clause-shows g c =
    let same = c.mount.ensures.same_image in
    let v = c.in-Ok.volume in
    let volume = c.in-Ok.ensures.volume in
    let mounted = c.in-Ok.ensures.mounted in
    let seen = c.in_ok-seen-in-Ok.ensures in (
      (volume.0, volume.1.stands),
      (λ s stands. seen.shows s (subst (λ (x : List ℕ). Mounted x v s) (sym same) (mounted s stands))),
      subst (λ (x : List ℕ). HasForm x c.in_ok-seen-in-Ok.seen.form) same seen.form,
    )

pub returns-in_ok-seen-in-Ok-clause-ends : goal.returns-in_ok-seen-in-Ok-clause-ends
returns-in_ok-seen-in-Ok-clause-ends g c = Looked_then c.in-Ok.ensures.looked c.in_ok-seen-in-Ok.ensures.ends

pub returns-in_ok-first_break-in-Err-NotAVolume-clause-shows : goal.returns-in_ok-first_break-in-Err-NotAVolume-clause-shows
returns-in_ok-first_break-in-Err-NotAVolume-clause-shows g c =
    let found = c.in_ok-first_break-in-Err-NotAVolume in
    (c.mount.ensures.not_a_volume (search rules), subst (λ (x : List ℕ). BreaksAt x found.field-0) c.mount.ensures.same_image found.ensures.breaks)

pub returns-in_err-seen-in-Ok-clause-ends : goal.returns-in_err-seen-in-Ok-clause-ends
returns-in_err-seen-in-Ok-clause-ends g c = look_fails_after c.from_residual.result c.see_volume.result _ _ _ _ c.from_residual.ensures.1 c.in_err-seen-in-Ok.was c.in-Ok.ensures.looked c.see_volume.ensures.ends
