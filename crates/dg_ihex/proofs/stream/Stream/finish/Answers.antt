use Rattle.std.proofs.Common.{arith, sym, subst}
use Rattle.std.proofs.lemmas.Result.{err_from_is_err_and}
use Rattle.dg_ihex.specs.Reading.{ReadsFile}
use Rattle.dg_ihex.proofs.StreamLemmas.{file_ended, last_faulty, last_fine, no_items, some_items}
use Rattle.dg_ihex.proofs.stream.Stream.finish.Goals as goal

pub returns-then-is_empty-clause-read : goal.returns-then-is_empty-clause-read
returns-then-is_empty-clause-read c input g few =
    let none = no_items c.args.self.now.kept.items _ c.is_empty.result (omega (arith, c.args.self.now.kept.ok)) c.is_empty.ensures c.if-is_empty.true in
    subst (ReadsFile (λ image. image.items) c.image.result) (sym (file_ended c.args.self.now input g none)) (c.image.ensures.read g.before g.behind)

pub returns-in_err-take_line-clause-read : goal.returns-in_err-take_line-clause-read
returns-in_err-take_line-clause-read c input g few =
    let some = some_items c.args.self.now.kept.items _ c.is_empty.result (omega (arith, c.args.self.now.kept.ok)) c.is_empty.ensures c.if-is_empty.false in
    let told = c.in_err-take_line.ensures g.before g.behind (omega (arith, g.counted, few)) in
    let p = err_from_is_err_and c.from_residual.result c.from_residual.ensures.1 in
    rw (p.1, p.2) (λ other. last_faulty c.args.self.now input c.deref.result.now c.in_err-take_line.field-0.0 g c.deref.ensures.value some (told.0 other))

pub returns-in_err-take_line-clause-memory : goal.returns-in_err-take_line-clause-memory
returns-in_err-take_line-clause-memory c input g few =
    let told = c.in_err-take_line.ensures g.before g.behind (omega (arith, g.counted, few)) in
    let p = err_from_is_err_and c.from_residual.result c.from_residual.ensures.1 in
    rw (p.1, p.2) told.1

pub returns-clause-read : goal.returns-clause-read
returns-clause-read c input g few =
    let some = some_items c.args.self.now.kept.items _ c.is_empty.result (omega (arith, c.args.self.now.kept.ok)) c.is_empty.ensures c.if-is_empty.false in
    let told = c.in_ok-take_line.ensures g.before g.behind (omega (arith, g.counted, few)) in
    let l = last_fine c.args.self.now c.take_line.new.self input c.deref.result.now g c.deref.ensures.value some told.0 told.1 in
    subst (ReadsFile (λ image. image.items) c.image-2.result) (sym l.0) (c.image-2.ensures.read _ l.1)
