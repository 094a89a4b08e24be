use Rattle.std.proofs.Common.{◌+◌, refl, sym, ◌∙◌}
use Rattle.dg_bits.specs.Sets.{least}
use Rattle.dg_nor.proofs.ReadLemmas.{Looked-none}
use Rattle.dg_plan.specs.Plans.{plan_device}
use Rattle.dg_plan.specs.Packets.{erases}
use Rattle.dg_plan.proofs.PlanLemmas.{lists_lent, chip_lent, planned_rest, act_stopped}
use Rattle.dg_plan.proofs.packets.packet.Goals as goal

pub returns-then-name-clause-looked : goal.returns-then-name-clause-looked
returns-then-name-clause-looked c = λ e r ne. Looked-none (plan_device c.args.plan.now)

pub returns-then-name-eq0-clause-looked : goal.returns-then-name-eq0-clause-looked
returns-then-name-eq0-clause-looked c = λ e r ne. Looked-none (plan_device c.args.plan.now)

pub returns-then-packet-clause-looked : goal.returns-then-packet-clause-looked
returns-then-packet-clause-looked c = λ e r ne. Looked-none (plan_device c.args.plan.now)

pub returns-then-has-clause-looked : goal.returns-then-has-clause-looked
returns-then-has-clause-looked c = λ e r ne. Looked-none (plan_device c.args.plan.now)

pub returns-then-has-clause-put_before : goal.returns-then-has-clause-put_before
returns-then-has-clause-put_before c = λ r. sym c.has.ensures.value ∙ c.if-has.true

pub put_packet-requires-clause-missing : goal.put_packet-requires-clause-missing
put_packet-requires-clause-missing c = sym c.has.ensures.value ∙ c.if-has.false

pub returns-clause-planned : goal.returns-clause-planned
returns-clause-planned c = planned_rest c.put_packet.result (erases (least c.args.got) + 1) c.args.plan.now c.put_packet.new.nor c.put_packet.ensures.ran c.put_packet.ensures.stands

pub returns-clause-put : goal.returns-clause-put
returns-clause-put c = c.put_packet.ensures.put

pub returns-clause-next : goal.returns-clause-next
returns-clause-next c = c.put_packet.ensures.next

pub returns-clause-same_lists : goal.returns-clause-same_lists
returns-clause-same_lists c = lists_lent c.put_packet.new.nor c.args.plan.now c.put_packet.ensures.same_reference

pub returns-clause-same_chip : goal.returns-clause-same_chip
returns-clause-same_chip c = chip_lent c.put_packet.new.nor c.args.plan.now c.put_packet.ensures.same_reference

pub returns-clause-out_of_range : goal.returns-clause-out_of_range
returns-clause-out_of_range c = λ r. absurd ((c.put_packet.ensures.only _ r).0 refl)

pub returns-clause-put_before : goal.returns-clause-put_before
returns-clause-put_before c = λ r. absurd ((c.put_packet.ensures.only _ r).1 refl)

pub returns-clause-not_kept : goal.returns-clause-not_kept
returns-clause-not_kept c = c.put_packet.ensures.not_kept

pub returns-clause-not_next : goal.returns-clause-not_next
returns-clause-not_next c = c.put_packet.ensures.not_next

pub returns-clause-looked : goal.returns-clause-looked
returns-clause-looked c = c.put_packet.ensures.looked

pub returns-clause-cause : goal.returns-clause-cause
returns-clause-cause c = λ r. let h = c.put_packet.ensures.stopped r in act_stopped h.halts

pub returns-clause-stopped : goal.returns-clause-stopped
returns-clause-stopped c = λ r s st.
    let h = c.put_packet.ensures.stopped r in
    c.a_slot_is_written_alone.ensures.stopped (erases (least c.args.got) + 1) h.done (plan_device c.args.plan.now) (plan_device c.put_packet.new.nor) s (c.put_packet.ensures.stands s st) h.halts
