use Rattle.std.proofs.Common.{Bool, Some, refl, sym, ap, subst, ◌∙◌}
use Rattle.dg_frame.specs.Spelling.{frame_of}
use Rattle.dg_frame.specs.declared.Message.{Message}
use Rattle.dg_mote.specs.Summary.{advert_of}
use Rattle.dg_mote.specs.Motes.{IsRead}
use Rattle.dg_mote.proofs.ShowLemmas.{advert_shows, idle_shows}
use Rattle.dg_mote.proofs.ticking.advertise.Goals as goal

pub returns-in-Send : goal.returns-in-Send
returns-in-Send c m s id alike is tells =
    let said = ap (λ n. advert_of n c.args.wide s) (sym id) ∙ ap (λ w. advert_of m.id w s) (sym alike) in
    advert_shows m s c.args.trickle.now c.tick.new.self c.args.now c.args.word c.put_advert.new.out (c.requires.none s tells) c.in-Send.ensures.act c.tick.ensures.value
    (c.put_advert.ensures.sent s tells ∙ ap (λ (x : Message). Some (frame_of x)) said)
    (subst (λ (w : Bool). IsRead w (advert_of m.id m.wide s)) (sym alike) (subst (IsRead c.args.wide) said (c.put_advert.ensures.read s tells)))

pub returns-in-Quiet : goal.returns-in-Quiet
returns-in-Quiet c m s id alike is tells =
    idle_shows m s c.args.trickle.now c.tick.new.self c.tick.result c.args.now c.args.word c.args.out.now (c.requires.none s tells) c.tick.ensures.act c.in-Quiet.is c.tick.ensures.value c.requires.empty
