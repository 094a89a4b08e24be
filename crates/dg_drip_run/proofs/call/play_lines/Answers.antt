use Rattle.std.proofs.Common.{◌≡◌, ◌++◌, true, false, refl, sym, ◌∙◌, arith}
use Rattle.dg_outside.specs.Outside.{input_of, output_of}
use Rattle.dg_drip_run.specs.inner.Lines.{drip_stage}
use Rattle.dg_drip_run.proofs.ReadLemmas.{lines_first, lines_halt, lines_last, lines_next, lines_end, passes, true_of, false_of}
use Rattle.dg_drip_run.proofs.call.play_lines.Goals as goal

pub loop-number-init : goal.loop-number-init
loop-number-init g c =
    let now = drip_stage c.args.reader.now c.args.player.now (input_of (g.S.Source, c.args.input.now)) (output_of (g.K.Sink, c.args.out.now)) in
    (lines_first now c.requires.none c.requires.unread c.requires.first c.requires.playing, refl, refl)

pub play_next-requires : goal.play_next-requires
play_next-requires g c = let i = c.loop-number.invariant.0 in (i.script, i.reported, i.plays)

pub returns-in_err-play_next-clause-answer : goal.returns-in_err-play_next-clause-answer
returns-in_err-play_next-clause-answer g c =
    let first = drip_stage c.args.reader.now c.args.player.now (input_of (g.S.Source, c.args.input.now)) (output_of (g.K.Sink, c.args.out.now)) in
    let p = drip_stage c.loop-number.reader c.loop-number.player (input_of (g.S.Source, c.loop-number.input)) (output_of (g.K.Sink, c.loop-number.out)) in
    let q = drip_stage c.play_next.new.reader c.play_next.new.player (input_of (g.S.Source, c.play_next.new.input)) (output_of (g.K.Sink, c.play_next.new.out)) in
    let i = c.loop-number.invariant in
    let a = c.in_err-play_next.ensures.answer in
    lines_halt c.from_residual.result c.in_err-play_next.field-0.0 first p q a.0 c.loop-number.number c.from_residual.ensures.1
    (λ rose. omega (arith, rose, i.1)) i.2 i.0 a.1 a.2

pub returns-then-is_last-clause-answer : goal.returns-then-is_last-clause-answer
returns-then-is_last-clause-answer g c =
    let first = drip_stage c.args.reader.now c.args.player.now (input_of (g.S.Source, c.args.input.now)) (output_of (g.K.Sink, c.args.out.now)) in
    let p = drip_stage c.loop-number.reader c.loop-number.player (input_of (g.S.Source, c.loop-number.input)) (output_of (g.K.Sink, c.loop-number.out)) in
    let q = drip_stage c.play_next.new.reader c.play_next.new.player (input_of (g.S.Source, c.play_next.new.input)) (output_of (g.K.Sink, c.play_next.new.out)) in
    let i = c.loop-number.invariant.0 in
    let a = c.in_ok-play_next.ensures.answer in
    let given = true_of c.in_ok-play_next.field-0 i.script (p.reader.ahead ++ a.0) p q c.if-branch.true (a.2 i.script i.reported i.plays) in
    let last : q.reader.last ≡ true = sym c.is_last.ensures ∙ c.if-is_last.true in
    lines_last first p q a.0 c.loop-number.number i a.1 given last

pub loop-number-smaller : goal.loop-number-smaller
loop-number-smaller g c =
    let p = drip_stage c.loop-number.reader c.loop-number.player (input_of (g.S.Source, c.loop-number.input)) (output_of (g.K.Sink, c.loop-number.out)) in
    let q = drip_stage c.play_next.new.reader c.play_next.new.player (input_of (g.S.Source, c.play_next.new.input)) (output_of (g.K.Sink, c.play_next.new.out)) in
    let i = c.loop-number.invariant.0 in
    let a = c.in_ok-play_next.ensures.answer in
    let given = true_of c.in_ok-play_next.field-0 i.script (p.reader.ahead ++ a.0) p q c.if-branch.true (a.2 i.script i.reported i.plays) in
    passes (p.reader.ahead ++ a.0) p.reader q.reader _ given.0

pub loop-number-preserved : goal.loop-number-preserved
loop-number-preserved g c =
    let first = drip_stage c.args.reader.now c.args.player.now (input_of (g.S.Source, c.args.input.now)) (output_of (g.K.Sink, c.args.out.now)) in
    let p = drip_stage c.loop-number.reader c.loop-number.player (input_of (g.S.Source, c.loop-number.input)) (output_of (g.K.Sink, c.loop-number.out)) in
    let q = drip_stage c.play_next.new.reader c.play_next.new.player (input_of (g.S.Source, c.play_next.new.input)) (output_of (g.K.Sink, c.play_next.new.out)) in
    let j = c.loop-number.invariant in
    let i = c.loop-number.invariant.0 in
    let a = c.in_ok-play_next.ensures.answer in
    let given = true_of c.in_ok-play_next.field-0 i.script (p.reader.ahead ++ a.0) p q c.if-branch.true (a.2 i.script i.reported i.plays) in
    let more_lines : q.reader.last ≡ false = sym c.is_last.ensures ∙ c.if-is_last.false in (
      lines_next first p q a.0 c.loop-number.number i a.1 given more_lines,
      c.in_ok-play_next.ensures.unread ∙ j.1,
      c.in_ok-play_next.ensures.still ∙ j.2,
    )

pub returns-clause-answer : goal.returns-clause-answer
returns-clause-answer g c =
    let first = drip_stage c.args.reader.now c.args.player.now (input_of (g.S.Source, c.args.input.now)) (output_of (g.K.Sink, c.args.out.now)) in
    let p = drip_stage c.loop-number.reader c.loop-number.player (input_of (g.S.Source, c.loop-number.input)) (output_of (g.K.Sink, c.loop-number.out)) in
    let q = drip_stage c.play_next.new.reader c.play_next.new.player (input_of (g.S.Source, c.play_next.new.input)) (output_of (g.K.Sink, c.play_next.new.out)) in
    let i = c.loop-number.invariant.0 in
    let a = c.in_ok-play_next.ensures.answer in
    let none = false_of c.in_ok-play_next.field-0 i.script (p.reader.ahead ++ a.0) p q c.if-branch.false (a.2 i.script i.reported i.plays) in
    lines_end first p q a.0 c.loop-number.number i a.1 none
