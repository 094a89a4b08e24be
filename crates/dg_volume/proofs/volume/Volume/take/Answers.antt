use Rattle.std.proofs.Common.{refl, sym}
use Rattle.dg_object.specs.Records.{outline_of}
use Rattle.dg_volume.proofs.TakeLemmas.{take_allowed}
use Rattle.dg_volume.proofs.volume.Volume.take.Goals as goal

pub returns-in-Some-clause-refused : goal.returns-in-Some-clause-refused
returns-in-Some-clause-refused g c e is other s mounted =
    let r = c.in-Some.ensures.refusal s (outline_of c.args.profile.now) mounted.tells c.requires.names_it refl in cc

pub returns-in_err-replace-in-None-clause-allowed : goal.returns-in_err-replace-in-None-clause-allowed
returns-in_err-replace-in-None-clause-allowed g c s mounted = take_allowed c.from_residual.result _ (sym (c.in-None.ensures.refusal s (outline_of c.args.profile.now) mounted.tells c.requires.names_it refl))

pub returns-in_ok-replace-in-None-clause-allowed : goal.returns-in_ok-replace-in-None-clause-allowed
returns-in_ok-replace-in-None-clause-allowed g c s mounted = sym (c.in-None.ensures.refusal s (outline_of c.args.profile.now) mounted.tells c.requires.names_it refl)
