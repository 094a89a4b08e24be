use Rattle.std.proofs.Common.{Some, ap, subst, ◌∙◌}
use Rattle.dg_frame.specs.Spelling.{frame_of}
use Rattle.dg_frame.specs.declared.Message.{Message}
use Rattle.dg_mote.specs.Motes.{IsRead}
use Rattle.dg_mote.proofs.ticking.put_advert.Goals as goal

pub returns-clause-sent : goal.returns-clause-sent
returns-clause-sent c s tells = c.put.ensures.sent ∙ ap (λ (x : Message). Some (frame_of x)) (c.advert_message.ensures.says s tells)

pub returns-clause-read : goal.returns-clause-read
returns-clause-read c s tells = subst (IsRead c.args.wide) (c.advert_message.ensures.says s tells) (c.put.ensures.read c.args.wide c.advert_message.ensures.fits)
