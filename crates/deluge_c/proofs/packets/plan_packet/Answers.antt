use Rattle.std.proofs.Common.{◌≡◌, List, ℕ, true, sym, subst, ◌∙◌}
use Rattle.std.specs.FinSet as set
use Rattle.dg_bits.specs.Sets.{Numbers}
use Rattle.dg_bits.specs.ByteForm.{numbers_of}
use Rattle.dg_slot.specs.Jobs.{ArePut, put_packet}
use Rattle.dg_volume.specs.Stands.{Stands}
use Rattle.dg_plan.specs.Plans.{planned}
use Rattle.dg_plan.specs.Packets.{sector_named, HadPut, packet_trail}
use Rattle.deluge_c.specs.Plans.{made, AreActOf, BeginActOf, page_of_packet}
use Rattle.deluge_c.proofs.PlanLemmas.{when_ok, commands_named, bytes_named, act_of, begin_of, made_is}
use Rattle.deluge_c.proofs.packets.plan_packet.Goals as goal

pub returns-clause-planned : goal.returns-clause-planned
returns-clause-planned c = when_ok c.packet-told.result c.packet-told.ensures.planned (λ f. λ s stands.
    let p = c.new-plan.result in
    let q = c.packet-told.new.plan in
    let cs = c.commands-1.given.1.1 (sym (commands_named p q c.packet-told.ensures.same_lists ∙ c.new-plan.ensures.same_commands)) in
    let bs = c.bytes-1.given.1.1 (sym (bytes_named p q c.packet-told.ensures.same_lists ∙ c.new-plan.ensures.same_bytes)) in
    let here = subst (λ (x : List ℕ). Stands x s) (sym c.new-plan.ensures.same) stands in
    subst (λ (g : Numbers). AreActOf (packet_trail s g) c.args.chip.now c.commands-1.given.0 c.bytes-1.given.0 c.count.result) c.set_in-got.ensures
    (act_of (packet_trail s c.set_in-got.result) c.args.chip.now p q _ _ c.count.result cs bs c.count.ensures c.new-plan.ensures.none c.new-plan.ensures.chip c.packet-told.ensures.same_chip (f s here)))

pub returns-clause-put : goal.returns-clause-put
returns-clause-put c = when_ok c.packet-told.result c.packet-told.ensures.put (λ f. λ s h ps stands held had.
    let p = c.new-plan.result in
    let q = c.packet-told.new.plan in
    let cs = c.commands-1.given.1.1 (sym (commands_named p q c.packet-told.ensures.same_lists ∙ c.new-plan.ensures.same_commands)) in
    let bs = c.bytes-1.given.1.1 (sym (bytes_named p q c.packet-told.ensures.same_lists ∙ c.new-plan.ensures.same_bytes)) in
    let here = subst (λ (x : List ℕ). Stands x s) (sym c.new-plan.ensures.same) stands in
    let g = c.set_in-got.ensures in
    let k = sector_named (page_of_packet c.args.fields.now) in
    let before = subst (λ (x : Numbers). HadPut (planned p) k x ps) (sym g) (subst (λ (x : List ℕ). HadPut x k (numbers_of c.args.fields.now.got) ps) (sym c.new-plan.ensures.same) had) in
    let after = f s h ps here held before in
    subst (λ (x : Numbers). ArePut (made c.args.chip.now c.commands-1.given.0 c.bytes-1.given.0 c.count.result) k (set.insert x c.args.fields.now.packet) (put_packet ps c.args.fields.now.packet c.args.fields.now.bytes)) g
    (subst (λ (x : List ℕ). ArePut x k (set.insert c.set_in-got.result c.args.fields.now.packet) (put_packet ps c.args.fields.now.packet c.args.fields.now.bytes)) (made_is (packet_trail s c.set_in-got.result) c.args.chip.now p q _ _ c.count.result cs bs c.count.ensures c.new-plan.ensures.none c.new-plan.ensures.chip c.packet-told.ensures.same_chip) after))

pub returns-clause-put_before : goal.returns-clause-put_before
returns-clause-put_before c = λ is. subst (λ (g : Numbers). set.contains g c.args.fields.now.packet ≡ true) c.set_in-got.ensures (c.packet-told.ensures.put_before is)

pub returns-clause-not_kept : goal.returns-clause-not_kept
returns-clause-not_kept c = λ e s h stands held. c.packet-told.ensures.not_kept e s h (subst (λ (x : List ℕ). Stands x s) (sym c.new-plan.ensures.same) stands) held

pub returns-clause-not_next : goal.returns-clause-not_next
returns-clause-not_next c = λ next e s h stands held. c.packet-told.ensures.not_next next e s h (subst (λ (x : List ℕ). Stands x s) (sym c.new-plan.ensures.same) stands) held

pub returns-clause-room : goal.returns-clause-room
returns-clause-room c = λ e s stands.
    let p = c.new-plan.result in
    let q = c.packet-told.new.plan in
    let cs = c.commands-1.given.1.1 (sym (commands_named p q c.packet-told.ensures.same_lists ∙ c.new-plan.ensures.same_commands)) in
    let bs = c.bytes-1.given.1.1 (sym (bytes_named p q c.packet-told.ensures.same_lists ∙ c.new-plan.ensures.same_bytes)) in
    let here = subst (λ (x : List ℕ). Stands x s) (sym c.new-plan.ensures.same) stands in
    subst (λ (g : Numbers). BeginActOf (packet_trail s g) c.args.chip.now c.commands-1.given.0 c.bytes-1.given.0 c.count.result) c.set_in-got.ensures
    (begin_of (packet_trail s c.set_in-got.result) c.args.chip.now p q _ _ c.count.result cs bs c.count.ensures c.new-plan.ensures.none c.new-plan.ensures.chip c.packet-told.ensures.same_chip (c.packet-told.ensures.stopped e s here))
