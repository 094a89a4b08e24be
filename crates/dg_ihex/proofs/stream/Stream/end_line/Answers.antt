use Rattle.std.proofs.Common.{ℕ, ◌++◌, Vec, Global, arith, sym, ap, ◌∙◌}
use Rattle.dg_ihex.proofs.StreamLemmas.{line_told_of, no_items}
use Rattle.dg_ihex.proofs.stream.Stream.end_line.Goals as goal

pub returns-then-is_empty : goal.returns-then-is_empty
returns-then-is_empty c input g few bare =
    let old = c.args.self.now in
    let none = no_items old.kept.items _ c.is_empty.result (omega (arith, old.kept.ok)) c.is_empty.ensures c.if-is_empty.true in
    line_told_of c.take_ended.result old _ input c.args.bytes.now c.args.bytes.now g bare none
    (sym (ap (λ t. t ++ c.args.bytes.now) none)) (c.take_ended.ensures g.before g.behind (omega (arith, g.counted, few)))

pub returns : goal.returns
returns c input g few bare =
    let line = c.deref.ensures.value ∙ c.in_ok-extend_from_slice.ensures.items ∙ ap (λ (v : Vec ℕ Global). v.items ++ c.args.bytes.now) c.replace-line.ensures.value in
    let none = ap (λ (v : Vec ℕ Global). v.items) c.replace-line.ensures.after ∙ c.new.ensures.items in
    line_told_of c.take_ended-2.result c.args.self.now _ input c.args.bytes.now c.deref.result.now g bare none
    line (c.take_ended-2.ensures g.before g.behind (omega (arith, g.counted, few)))
