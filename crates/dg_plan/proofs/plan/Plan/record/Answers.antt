use Rattle.std.proofs.Common.{List, [], ◌∷◌, ◌++◌, take, sym, ap, subst, ◌∙◌}
use Rattle.std.proofs.lemmas.List.{take_more_set}
use Rattle.dg_nor.specs.Chip.{IsChip}
use Rattle.dg_plan.specs.declared.command.Command.{Command}
use Rattle.dg_plan.specs.Commands.{carried_out, CommandsFit}
use Rattle.dg_plan.proofs.CommandLemmas.{each_of, all_of, carried_more, fit_more, IsChip-command_done}
use Rattle.dg_plan.proofs.plan.Plan.record.Goals as goal

pub invariant_of-self-clause-fit : goal.invariant_of-self-clause-fit
invariant_of-self-clause-fit c =
    let p = c.args.self.now in
    let cs = take p.count p.commands.now in
    subst (λ (xs : List Command). CommandsFit p.chip.now p.bytes.now p.used xs p.chip.now) (sym (take_more_set p.commands.now p.count c.args.command c.requires.room))
    (all_of p.chip.now p.bytes.now p.used (cs ++ c.args.command ∷ []) p.chip.now
    (fit_more p.chip.now p.bytes.now p.used cs c.args.command p.chip.now (each_of p.chip.now p.bytes.now p.used cs p.chip.now p.fit) c.requires.fits))

pub invariant_of-self-clause-cells : goal.invariant_of-self-clause-cells
invariant_of-self-clause-cells c =
    let p = c.args.self.now in
    let cs = take p.count p.commands.now in
    subst IsChip (sym (ap (λ (xs : List Command). carried_out p.bytes.now xs p.chip.now) (take_more_set p.commands.now p.count c.args.command c.requires.room)
    ∙ carried_more p.bytes.now cs c.args.command p.chip.now))
    (IsChip-command_done p.chip.now p.bytes.now p.used c.args.command (carried_out p.bytes.now cs p.chip.now) p.within c.requires.fits p.cells)

pub returns-clause-planned : goal.returns-clause-planned
returns-clause-planned c =
    let p = c.args.self.now in
    let cs = take p.count p.commands.now in
    ap (λ (xs : List Command). carried_out p.bytes.now xs p.chip.now) (take_more_set p.commands.now p.count c.args.command c.requires.room)
    ∙ carried_more p.bytes.now cs c.args.command p.chip.now
