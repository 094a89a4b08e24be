use Rattle.std.proofs.Common.{List, ℕ, inr, subst}
use Rattle.dg_picture.specs.Followed.{Shows}
use Rattle.dg_picture.proofs.FollowLemmas.{front_shown}
use Rattle.dg_picture.proofs.following.show_so_far.Goals as goal

pub returns-in-Ok-show-clause-shown : goal.returns-in-Ok-show-clause-shown
returns-in-Ok-show-clause-shown g c =
    let shown = g.W.Screen.shown c.show.new.self in
    let text = c.in-Ok.text.items in
    inr (front_shown c.args.bytes.now text c.length_of_lines.result shown c.in-Ok.ensures.ok (subst (λ (t : List ℕ). Shows shown t) c.deref.ensures.value c.in-Ok-show.ensures.ok))
