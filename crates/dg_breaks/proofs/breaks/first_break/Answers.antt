use Rattle.std.proofs.Common.{◌∙◌, ℕ, List, subst, rules}
use Rattle.dg_control.specs.Store.{Controls}
use Rattle.dg_nor.proofs.ReadLemmas.{Looked_then, read_after}
use Rattle.dg_breaks.proofs.BreakLemmas.{breaks_behind, breaks_before, not_all_hold}
use Rattle.dg_breaks.proofs.breaks.first_break.Goals as goal

pub snapshot_break-requires-clause-none : goal.snapshot_break-requires-clause-none
snapshot_break-requires-clause-none g c = λ p room controls.
    c.in_ok-snapshot.ensures.none (search rules) p room (subst (λ (x : List ℕ). Controls x p room) c.in_ok-snapshot.ensures.ends.same_image controls)

pub break_behind-requires : goal.break_behind-requires
break_behind-requires g c = λ holds.
    let found = rw c.in-Some-2.is at c.in_ok-snapshot.ensures.snapshot in
    let same = c.in_ok-snapshot.ensures.ends.same_image ∙ c.in_ok-count.ensures.ends.same_image in
    not_all_hold (g.N.Nor.device c.args.nor.now).image (g.N.Nor.device c.ledger_count.new.nor).image (g.N.Nor.device c.chip_snapshot.new.nor).image c.in-Some-2.snapshot found.0 c.in_ok-count.ensures.ends.same_image same found.1 c.requires holds

pub returns-in_default-2-clause-breaks : goal.returns-in_default-2-clause-breaks
returns-in_default-2-clause-breaks g c =
    let same = c.in_ok-snapshot.ensures.ends.same_image ∙ c.in_ok-count.ensures.ends.same_image in
    breaks_before _ _ c.snapshot_break.result same c.snapshot_break.ensures.breaks

pub returns-clause-breaks : goal.returns-clause-breaks
returns-clause-breaks g c =
    let found = rw c.in-Some-2.is at c.in_ok-snapshot.ensures.snapshot in
    let same = c.in_ok-snapshot.ensures.ends.same_image ∙ c.in_ok-count.ensures.ends.same_image in
    breaks_behind (g.N.Nor.device c.args.nor.now).image (g.N.Nor.device c.ledger_count.new.nor).image (g.N.Nor.device c.chip_snapshot.new.nor).image c.in-Some-2.snapshot found.0 c.break_behind.result c.in_ok-count.ensures.ends.same_image same found.1 c.break_behind.ensures.fails c.break_behind.ensures.sector c.break_behind.ensures.byte

pub returns-in_default-clause-ends : goal.returns-in_default-clause-ends
returns-in_default-clause-ends g c = read_after c.ledger_break.result _ _ _ c.in_ok-count.ensures.ends c.ledger_break.ensures.ends

pub returns-in_default-2-clause-ends : goal.returns-in_default-2-clause-ends
returns-in_default-2-clause-ends g c =
    read_after c.snapshot_break.result _ _ _ (Looked_then c.in_ok-count.ensures.ends c.in_ok-snapshot.ensures.ends) c.snapshot_break.ensures.ends

pub returns-clause-ends : goal.returns-clause-ends
returns-clause-ends g c =
    read_after c.break_behind.result _ _ _ (Looked_then c.in_ok-count.ensures.ends c.in_ok-snapshot.ensures.ends) c.break_behind.ensures.ends
