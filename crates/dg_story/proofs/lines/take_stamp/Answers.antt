use Rattle.std.proofs.Common.{◌≡◌, ◌∷◌, ◌++◌, drop, decimal, sym, ◌∙◌, arith, rules}
use Rattle.std.proofs.lemmas.List.{take_all, length-drop}
use Rattle.dg_story.proofs.LineLemmas.{no_ms}
use Rattle.dg_story.proofs.lines.take_stamp.Goals as goal

pub returns-in_default : goal.returns-in_default
returns-in_default c =
    let n = length-drop 1 c.args.line.now in
    let h : drop 1 c.args.line.now ≡ decimal c.in_ok-event.event ++ 32 ∷ c.in_ok-event.behind.now =
    sym (take_all _ (drop 1 c.args.line.now) (omega (arith, n))) ∙ c.in_ok-event.ensures in
    no_ms c.args.line.now c.in_ok-event.behind.now c.in_ok-event.event (search rules) h c.in_default.ensures
