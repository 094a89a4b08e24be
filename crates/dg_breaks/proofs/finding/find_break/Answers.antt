use Rattle.std.proofs.Common.{ℕ, List, sym, subst, rules}
use Rattle.dg_volume.specs.Stands.{IsNoVolume}
use Rattle.dg_breaks.specs.Breaks.{BreaksAt}
use Rattle.dg_breaks.proofs.finding.find_break.Goals as goal

pub first_break-requires : goal.first_break-requires
first_break-requires g c = subst IsNoVolume (sym c.mount.ensures.same_image) (c.mount.ensures.not_a_volume (search rules))

pub returns-in_ok-first_break-in-Err-NotAVolume-clause-first : goal.returns-in_ok-first_break-in-Err-NotAVolume-clause-first
returns-in_ok-first_break-in-Err-NotAVolume-clause-first g c =
    let found = c.in_ok-first_break-in-Err-NotAVolume in
    subst (λ (x : List ℕ). BreaksAt x found.field-0) c.mount.ensures.same_image found.ensures.breaks
