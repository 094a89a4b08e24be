use Rattle.std.proofs.Common.{refl}
use Rattle.dg_drip_run.proofs.LineLemmas.{link_played}
use Rattle.dg_drip_run.proofs.player.Player.play_link.Goals as goal

pub returns : goal.returns
returns c =
    link_played c.remembered.result c.link.result c.args.self.now (record { network = c.link.new.self; standing = c.args.self.now.standing; events = c.args.self.now.events; text = c.args.self.now.text }) c.args.a c.args.b
    c.remembered.ensures.ok c.remembered.ensures.stop c.link.ensures.links c.link.ensures.passes c.requires.early c.requires.within.0 c.requires.within.1 refl refl refl
