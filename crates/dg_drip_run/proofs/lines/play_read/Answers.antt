use Rattle.std.proofs.Common.{refl}
use Rattle.std.proofs.lemmas.Result.{err_from_is_err_and}
use Rattle.dg_outside.specs.Outside.{output_of}
use Rattle.dg_drip_script.specs.Scripts.{with_drip_line, report_of}
use Rattle.dg_drip_run.proofs.ReportLemmas.{cleared_plays, cleared_playing, line_ok, line_cut, line_full, full_cut}
use Rattle.dg_drip_run.proofs.lines.play_read.Goals as goal

pub play_line-requires-clause-playing : goal.play_line-requires-clause-playing
play_line-requires-clause-playing g c =
    cleared_playing c.args.player.now (record { network = c.args.player.now.network; standing = c.args.player.now.standing; events = c.args.player.now.events; text = c.clear.new.self }) c.requires.playing refl refl refl c.clear.ensures.items

pub returns-in_ok-put_text-in-Ok-clause-answer : goal.returns-in_ok-put_text-in-Ok-clause-answer
returns-in_ok-put_text-in-Ok-clause-answer g c = λ s before h.
    let k = cleared_plays c.args.player.now (record { network = c.args.player.now.network; standing = c.args.player.now.standing; events = c.args.player.now.events; text = c.clear.new.self }) s before h refl refl refl c.clear.ensures.items in
    line_ok c.play_line.new.self s (with_drip_line s c.args.line.now) c.deref.result.now (g.K.Sink.written c.args.out.now) (g.K.Sink.written c.put_text.new.out) (c.in-Ok.ensures s (report_of s) k) c.deref.ensures.value c.in_ok-put_text-in-Ok.ensures.ok

pub returns-in_err-put_text-in-Ok-clause-answer : goal.returns-in_err-put_text-in-Ok-clause-answer
returns-in_err-put_text-in-Ok-clause-answer g c = λ s before h.
    let k = cleared_plays c.args.player.now (record { network = c.args.player.now.network; standing = c.args.player.now.standing; events = c.args.player.now.events; text = c.clear.new.self }) s before h refl refl refl c.clear.ensures.items in
    let p = err_from_is_err_and c.from_residual.result c.from_residual.ensures.1 in
    rw (p.1, p.2)
    (line_cut c.play_line.new.self s (with_drip_line s c.args.line.now) c.deref.result.now (output_of (g.K.Sink, c.args.out.now)) (output_of (g.K.Sink, c.put_text.new.out)) (c.in-Ok.ensures s (report_of s) k) c.deref.ensures.value c.in_err-put_text-in-Ok.ensures.failed c.in_err-put_text-in-Ok.ensures.err)

pub returns-in_ok-put_text-in-Err-TooMany-clause-answer : goal.returns-in_ok-put_text-in-Err-TooMany-clause-answer
returns-in_ok-put_text-in-Err-TooMany-clause-answer g c = λ s before h.
    let k = cleared_plays c.args.player.now (record { network = c.args.player.now.network; standing = c.args.player.now.standing; events = c.args.player.now.events; text = c.clear.new.self }) s before h refl refl refl c.clear.ensures.items in
    line_full c.in-Err-TooMany.field-0 (record { network = c.args.player.now.network; standing = c.args.player.now.standing; events = c.args.player.now.events; text = c.clear.new.self }) c.play_line.new.self c.args.line.now s c.deref-in-Err-TooMany.result.now (output_of (g.K.Sink, c.args.out.now)) (output_of (g.K.Sink, c.put_text-in-Err-TooMany.new.out)) c.in-Err-TooMany.field-0-is c.in-Err-TooMany.ensures k c.deref-in-Err-TooMany.ensures.value
    c.in_ok-put_text-in-Err-TooMany.ensures.ok c.in_ok-put_text-in-Err-TooMany.ensures.unfailed

pub returns-in_err-put_text-in-Err-TooMany-clause-answer : goal.returns-in_err-put_text-in-Err-TooMany-clause-answer
returns-in_err-put_text-in-Err-TooMany-clause-answer g c = λ s before h.
    let k = cleared_plays c.args.player.now (record { network = c.args.player.now.network; standing = c.args.player.now.standing; events = c.args.player.now.events; text = c.clear.new.self }) s before h refl refl refl c.clear.ensures.items in
    let p = err_from_is_err_and c.from_residual-in_err-put_text-in-Err-TooMany.result c.from_residual-in_err-put_text-in-Err-TooMany.ensures.1 in
    rw (p.1, p.2)
    (full_cut c.in-Err-TooMany.field-0 (record { network = c.args.player.now.network; standing = c.args.player.now.standing; events = c.args.player.now.events; text = c.clear.new.self }) c.play_line.new.self c.args.line.now s c.deref-in-Err-TooMany.result.now (output_of (g.K.Sink, c.args.out.now)) (output_of (g.K.Sink, c.put_text-in-Err-TooMany.new.out)) c.in-Err-TooMany.field-0-is c.in-Err-TooMany.ensures k c.deref-in-Err-TooMany.ensures.value
    c.in_err-put_text-in-Err-TooMany.ensures.failed c.in_err-put_text-in-Err-TooMany.ensures.err)
