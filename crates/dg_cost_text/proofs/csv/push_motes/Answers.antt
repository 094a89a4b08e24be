use Rattle.std.proofs.Common.{sym, append-nil}
use Rattle.dg_cost_text.specs.Csv.{motes_text}
use Rattle.dg_cost_text.proofs.CsvLemmas.{motes_next}
use Rattle.dg_cost_text.proofs.csv.push_motes.Goals as goal

pub loop-number-init : goal.loop-number-init
unfolding motes_text
loop-number-init c = sym (append-nil c.args.text.now.items)

pub loop-number-preserved : goal.loop-number-preserved
loop-number-preserved c =
    motes_next c.args.motes.now c.loop-number.number c.index-motes-number.result c.args.text.now.items c.loop-number.text.items c.push_mote.new.text.items
    c.loop-number-test.true c.index-motes-number.is c.loop-number.invariant c.in_ok-push_mote.ensures
