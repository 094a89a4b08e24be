use Rattle.std.proofs.Common.{◌++◌, map, refl, ap, ◌∙◌}
use Rattle.dg_rehearse.specs.Rehearsed.{opening_lines, written_lines}
use Rattle.dg_rehearse.proofs.BeginLemmas.{staged_first, enough_formatted, nothing_written}
use Rattle.dg_rehearse.proofs.stage.Stage.set.Goals as goal

pub returns-clause-staged : goal.returns-clause-staged
returns-clause-staged g c =
    staged_first c.args.profile.now c.args.plan.now c.declare.new.world (map g.N.Nor.device c.args.boards.now.items) (map g.N.Nor.device c.format_chips.new.boards.items) c.write_opening.new.script.items c.in_ok-format_chips.ensures
    (c.in_ok-declare.ensures _ _
    (c.in_ok-world.ensures _ (enough_formatted g.N.Nor.device c.args.profile.now.motes c.args.boards.now.items _ c.requires.boards c.in_ok-format_chips.ensures) c.in_ok-format_chips.ensures.stands) refl)
    (c.in_ok-write_opening.ensures ∙ ap (λ items. items ++ written_lines (opening_lines c.args.profile.now c.args.plan.now)) c.new-script.ensures.items)

pub returns-clause-begins : goal.returns-clause-begins
returns-clause-begins g c = record {
  is = c.in_ok-declare.ensures _ _
      (c.in_ok-world.ensures _ (enough_formatted g.N.Nor.device c.args.profile.now.motes c.args.boards.now.items _ c.requires.boards c.in_ok-format_chips.ensures) c.in_ok-format_chips.ensures.stands) refl;
  moment = refl;
  spelled = nothing_written c.args.profile.now c.args.plan.now c.write_opening.new.script.items (c.in_ok-write_opening.ensures ∙ ap (λ items. items ++ written_lines (opening_lines c.args.profile.now c.args.plan.now)) c.new-script.ensures.items);
}
