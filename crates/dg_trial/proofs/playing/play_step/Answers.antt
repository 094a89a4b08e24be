use Rattle.std.proofs.Common.{Err, ap, arith, inr, ◌∷◌, []}
use Rattle.dg_trial.proofs.PartLemmas.{applied_played, nothing_played, stopped_in, may_apply, not_lacking}
use Rattle.dg_trial.proofs.playing.play_step.Goals as goal

pub apply-requires : goal.apply-requires
apply-requires g c = record { world = may_apply c.requires.0 _ _ c.args.step.now c.requires.1 }

pub returns-in-Ok : goal.returns-in-Ok
returns-in-Ok g c = λ part at w initial is stands.
    applied_played c.requires.0 w c.args.step.now part c.args.world.now c.apply.new.self initial _ _ c.clear.new.self.items c.apply.new.out.items c.requires.1 (at w is) (c.in-Ok.ensures.applied w is) is stands

pub returns-in-Err-Memory : goal.returns-in-Err-Memory
returns-in-Err-Memory g c = λ part at w initial is stands.
    nothing_played w (part ∷ []) initial _ _ (c.in-Err-Memory.ensures.unchanged (inr (ap Err c.in-Err-Memory.field-0-is))).1 stands

pub returns-in-Err-Flash : goal.returns-in-Err-Flash
returns-in-Err-Flash g c = λ part at w initial is stands.
    stopped_in c.requires.0 w c.args.step.now part c.args.world.now c.in-Err-Flash.field-0-0 initial _ _ c.requires.1 (at w is) is (c.in-Err-Flash.ensures.flash c.in-Err-Flash.field-0-0 (ap Err c.in-Err-Flash.field-0-is) w is) stands

pub returns-in-Err-NoImage : goal.returns-in-Err-NoImage
returns-in-Err-NoImage g c = λ part at w initial is stands.
    not_lacking c.golden_is_found.ensures.goes_on c.requires.0 _ _ _ c.args.step.now c.requires.1 (c.in-Err-NoImage.ensures.no_image (ap Err c.in-Err-NoImage.field-0-is) c.requires.1.world c.requires.1.is)

pub returns-in-Err-TooMany : goal.returns-in-Err-TooMany
returns-in-Err-TooMany g c = λ part at w initial is stands.
    let m = c.requires.1 in
    let full = c.in-Err-TooMany.ensures.too_many (ap Err c.in-Err-TooMany.field-0-is) m.world m.is in
    absurd (omega (arith, full, m.may.few))

pub returns-in-Err-NotAVolume : goal.returns-in-Err-NotAVolume
returns-in-Err-NotAVolume g c = λ part at w initial is stands. absurd (c.in-Err-NotAVolume.ensures.a_volume (ap Err c.in-Err-NotAVolume.field-0-is))
