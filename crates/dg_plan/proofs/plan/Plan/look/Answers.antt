use Rattle.std.proofs.Common.{◌≡◌, ℕ, ◌+◌, List, length, get_or, take, sym, ap, ◌∙◌, arith}
use Rattle.dg_words.specs.Cells.{part}
use Rattle.dg_words.proofs.CellLemmas.{between-part}
use Rattle.dg_plan.specs.Commands.{carried_out, command_done}
use Rattle.dg_plan.proofs.CommandLemmas.{each_of, fits_at, fit_front, carried_next, length-carried_out}
use Rattle.dg_plan.proofs.plan.Plan.look.Goals as goal

pub loop-k-init : goal.loop-k-init
unfolding carried_out
loop-k-init c =
    let n = length c.args.into.now in
    c.copy_from_slice.ensures.after ∙ between-part c.args.self.now.chip.now c.args.at (c.args.at + n) n (omega arith)

pub lay-requires-clause-fits : goal.lay-requires-clause-fits
lay-requires-clause-fits c =
    let p = c.args.self.now in
    let k = c.loop-k.k in (
      carried_out p.bytes.now (take k p.commands.now) p.chip.now,
      p.used,
      p.within,
      fits_at p.chip.now p.bytes.now p.used p.commands.now p.chip.now p.count k _ (each_of p.chip.now p.bytes.now p.used (take p.count p.commands.now) p.chip.now p.fit) (omega arith) (omega arith),
    )

pub loop-k-preserved : goal.loop-k-preserved
loop-k-preserved c =
    let p = c.args.self.now in
    let k = c.loop-k.k in
    let at = c.args.at in
    let n = length c.args.into.now in
    let image = carried_out p.bytes.now (take k p.commands.now) p.chip.now in
    let size = length-carried_out p.chip.now p.bytes.now p.used (take k p.commands.now) p.chip.now p.size p.within
    (fit_front p.chip.now p.bytes.now p.used p.commands.now p.chip.now p.count k (each_of p.chip.now p.bytes.now p.used (take p.count p.commands.now) p.chip.now p.fit) (omega arith)) in
    let len : length c.loop-k.into ≡ n = omega arith in
    c.lay.ensures image p.used p.within size (fits_at p.chip.now p.bytes.now p.used p.commands.now p.chip.now p.count k _ (each_of p.chip.now p.bytes.now p.used (take p.count p.commands.now) p.chip.now p.fit) (omega arith) (omega arith)) (omega arith)
    (c.loop-k.invariant ∙ ap (part image at) (sym len))
    ∙ ap (part (command_done p.bytes.now (get_or p.commands.now k _) image) at) len
    ∙ ap (λ (xs : List ℕ). part xs at n) (sym (carried_next p.bytes.now p.commands.now p.chip.now k _ (omega arith)))

pub returns : goal.returns
returns c =
    let p = c.args.self.now in
    let e : c.loop-k.k ≡ p.count = omega (arith, c.loop-k-test.false, c.loop-k.auto.k-end) in
    c.loop-k.invariant ∙ ap (λ (k : ℕ). part (carried_out p.bytes.now (take k p.commands.now) p.chip.now) c.args.at (length c.args.into.now)) e
