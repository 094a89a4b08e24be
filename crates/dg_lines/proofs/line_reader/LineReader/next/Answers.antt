use Rattle.std.proofs.Common.{subst}
use Rattle.dg_words.specs.Counts.{Rose}
use Rattle.dg_base.specs.Outside.{AtEnd}
use Rattle.dg_lines.specs.LineReading.{Reading}
use Rattle.dg_lines.proofs.PassingLemmas.{few_used, few_kept, looking_begun, looking_gives, Looking}
use Rattle.dg_lines.proofs.line_reader.LineReader.next.Goals as goal

pub returns-in-Some-clause-answer : goal.returns-in-Some-clause-answer
returns-in-Some-clause-answer g c =
    let r = c.self.inside in
    let i = c.self.invariant in
    let left = g.S.Source.left c.args.input.now in
    let faults = g.S.Source.faults c.args.input.now in
    let begun : Looking left left c.args.self.now c.args.self.now 0 =
    subst (λ (v : Reading). Looking left left v v 0) c.self.view_is
    (looking_begun left _ (few_used r.buffer.items r.from r.to r.taken r.number r.text_from r.text_to i.0 i.2 i.3 i.4) (few_kept r.buffer.items r.from r.to r.taken r.number r.text_from r.text_to i.0 i.2)) in
    looking_gives c.give.result left left c.args.self.now c.args.self.now c.give.new.self 0 (AtEnd left) (Rose faults faults) begun c.give.ensures
