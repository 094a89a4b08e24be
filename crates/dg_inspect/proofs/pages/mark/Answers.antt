use Rattle.dg_inspect.proofs.PageLemmas.{marked_is}
use Rattle.dg_inspect.proofs.pages.mark.Goals as goal

pub returns-then-not-sound : goal.returns-then-not-sound
returns-then-not-sound c q = marked_is c.args.unsound.now c.set.new.self c.args.page q c.args.sound c.if-not-sound.true c.set.ensures
