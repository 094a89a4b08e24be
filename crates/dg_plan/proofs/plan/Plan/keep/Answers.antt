use Rattle.std.proofs.Common.{ℕ, ◌+◌, ◌-◌, ◌≤◌, List, length, take, inl, sym, ap, subst, ◌∙◌, arith}
use Rattle.dg_words.specs.Cells.{part, overwritten}
use Rattle.dg_words.proofs.CellLemmas.{put_mid-overwritten, part-overwritten_apart, part-overwritten_at}
use Rattle.dg_nor.specs.Chip.{IsChip}
use Rattle.dg_plan.specs.Commands.{carried_out, CommandsFit}
use Rattle.dg_plan.proofs.CommandLemmas.{each_of, all_of, SameUsed, carried_same, fit_same}
use Rattle.dg_plan.proofs.plan.Plan.keep.Goals as goal

-- what was used is unchanged
used_stays : (xs bs : List ℕ) (used : ℕ) → used + length bs ≤ length xs → SameUsed xs (overwritten xs used bs) used
used_stays xs bs used room = λ at n l. part-overwritten_apart xs used bs at n room (omega (arith, l, room)) (inl l)

pub invariant_of-self-clause-fit : goal.invariant_of-self-clause-fit
invariant_of-self-clause-fit c =
    let p = c.args.self.now in
    let cs = take p.count p.commands.now in
    let bs = c.args.bytes.now in
    let n = length bs in
    let is = put_mid-overwritten p.used (p.used + n - p.used) p.bytes.now c.copy_from_slice.new.self (omega arith) ∙ ap (overwritten p.bytes.now p.used) c.copy_from_slice.ensures.after in
    subst (λ (b : List ℕ). CommandsFit p.chip.now b (p.used + n) cs p.chip.now) (sym is)
    (all_of p.chip.now (overwritten p.bytes.now p.used bs) (p.used + n) cs p.chip.now
    (fit_same p.chip.now p.bytes.now (overwritten p.bytes.now p.used bs) p.used (p.used + n) cs p.chip.now (used_stays p.bytes.now bs p.used c.requires.room) (omega arith)
    (each_of p.chip.now p.bytes.now p.used cs p.chip.now p.fit)))

pub invariant_of-self-clause-cells : goal.invariant_of-self-clause-cells
invariant_of-self-clause-cells c =
    let p = c.args.self.now in
    let cs = take p.count p.commands.now in
    let bs = c.args.bytes.now in
    let n = length bs in
    let is = put_mid-overwritten p.used (p.used + n - p.used) p.bytes.now c.copy_from_slice.new.self (omega arith) ∙ ap (overwritten p.bytes.now p.used) c.copy_from_slice.ensures.after in
    subst (λ (b : List ℕ). IsChip (carried_out b cs p.chip.now)) (sym is)
    (subst IsChip (sym (carried_same p.chip.now p.bytes.now (overwritten p.bytes.now p.used bs) p.used cs p.chip.now (used_stays p.bytes.now bs p.used c.requires.room) (each_of p.chip.now p.bytes.now p.used cs p.chip.now p.fit))) p.cells)

pub returns-clause-planned : goal.returns-clause-planned
returns-clause-planned c =
    let p = c.args.self.now in
    let cs = take p.count p.commands.now in
    let bs = c.args.bytes.now in
    let n = length bs in
    let is = put_mid-overwritten p.used (p.used + n - p.used) p.bytes.now c.copy_from_slice.new.self (omega arith) ∙ ap (overwritten p.bytes.now p.used) c.copy_from_slice.ensures.after in
    ap (λ (b : List ℕ). carried_out b cs p.chip.now) is
    ∙ carried_same p.chip.now p.bytes.now (overwritten p.bytes.now p.used bs) p.used cs p.chip.now (used_stays p.bytes.now bs p.used c.requires.room) (each_of p.chip.now p.bytes.now p.used cs p.chip.now p.fit)

pub returns-clause-stands : goal.returns-clause-stands
returns-clause-stands c =
    let p = c.args.self.now in
    let bs = c.args.bytes.now in
    let n = length bs in
    let is = put_mid-overwritten p.used (p.used + n - p.used) p.bytes.now c.copy_from_slice.new.self (omega arith) ∙ ap (overwritten p.bytes.now p.used) c.copy_from_slice.ensures.after in
    ap (λ (b : List ℕ). part b p.used n) is ∙ part-overwritten_at p.bytes.now p.used bs c.requires.room
