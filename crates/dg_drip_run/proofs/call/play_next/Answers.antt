use Rattle.std.proofs.Common.{◌+◌, ◌++◌, ◌∙◌, refl, sym, subst, Ok, Err}
use Rattle.dg_outside.specs.Outside.{input_of, output_of}
use Rattle.dg_end.specs.declared.ends.End.{End}
use Rattle.dg_drip_run.specs.inner.Lines.{NextPlays, drip_stage}
use Rattle.dg_drip_run.proofs.NextLemmas.{some_given, text_at, next_ok, next_err, next_long}
use Rattle.dg_drip_run.proofs.call.play_next.Goals as goal

pub returns-in-Ok-clause-answer : goal.returns-in-Ok-clause-answer
returns-in-Ok-clause-answer g c =
    let p = drip_stage c.args.reader.now c.args.player.now (input_of (g.S.Source, c.args.input.now)) (output_of (g.K.Sink, c.args.out.now)) in
    let q = drip_stage c.next.new.self c.play_text.new.player (input_of (g.S.Source, c.next.new.input)) (output_of (g.K.Sink, c.play_text.new.out)) in
    let a = c.in-Ok-Some.ensures.answer in
    let bytes = p.reader.ahead ++ a.0 in
    let k = some_given c.in-Ok-Some.field-0 c.in-Ok-Some.number bytes p.reader q.reader _ _ c.in-Ok-Some.field-0-is a.2 in (
      a.0,
      a.1,
      λ s before h. next_ok s bytes (p.reader.number + 1) p q k.1
          (text_at (Ok tt) s c.text.result.now q.reader.text c.in-Ok-Some.number (p.reader.number + 1) q.player p.output q.output c.text.ensures (k.0 ∙ k.1.number) (c.in-Ok.ensures.answer s before h)),
    )

pub returns-in-Err-clause-answer : goal.returns-in-Err-clause-answer
returns-in-Err-clause-answer g c =
    let p = drip_stage c.args.reader.now c.args.player.now (input_of (g.S.Source, c.args.input.now)) (output_of (g.K.Sink, c.args.out.now)) in
    let q = drip_stage c.next.new.self c.play_text.new.player (input_of (g.S.Source, c.next.new.input)) (output_of (g.K.Sink, c.play_text.new.out)) in
    let a = c.in-Ok-Some.ensures.answer in
    let bytes = p.reader.ahead ++ a.0 in
    let k = some_given c.in-Ok-Some.field-0 c.in-Ok-Some.number bytes p.reader q.reader _ _ c.in-Ok-Some.field-0-is a.2 in (
      a.0,
      a.1,
      λ s before h. next_err c.in-Err.end s bytes p q k.1
          (text_at (Err c.in-Err.end) s c.text.result.now q.reader.text c.in-Ok-Some.number (p.reader.number + 1) q.player p.output q.output c.text.ensures (k.0 ∙ k.1.number) (c.in-Err.ensures.answer s before h)),
    )

pub returns-in-Err-Long-clause-answer : goal.returns-in-Err-Long-clause-answer
returns-in-Err-Long-clause-answer g c =
    let p = drip_stage c.args.reader.now c.args.player.now (input_of (g.S.Source, c.args.input.now)) (output_of (g.K.Sink, c.args.out.now)) in
    let q = drip_stage c.next.new.self c.args.player.now (input_of (g.S.Source, c.next.new.input)) (output_of (g.K.Sink, c.args.out.now)) in
    let a = c.in-Err-Long.ensures.answer in
    let is = rw c.in-Err-Long.field-0-is at c.long_line.ensures in (
      a.0,
      a.1,
      λ s before h.
          subst (λ (x : End). NextPlays (Err x) (p.reader.ahead ++ a.0) s p q) (sym is)
          (next_long s c.in-Err-Long.field-0 c.in-Err-Long.line (p.reader.ahead ++ a.0) p q _ c.in-Err-Long.field-0-is a.2 refl),
    )
