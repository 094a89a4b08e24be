use Rattle.std.proofs.Common.{◌≡◌, ◌≤◌, Ok, length, take, sym, ap, ◌∙◌, arith}
use Rattle.std.proofs.lemmas.List.{length-take}
use Rattle.dg_lines.proofs.ReaderLemmas.{put_behind, at_end_then}
use Rattle.dg_lines.proofs.line_reader.read_behind.Goals as goal

pub returns-in-Ok-clause-answer : goal.returns-in-Ok-clause-answer
returns-in-Ok-clause-answer g c =
    let n = c.in-Ok.count in
    let new = c.read.new.into in
    let few : n ≤ length new = omega (arith, c.in-Ok.ensures.count) in
    let long : length (take n new) ≡ n = length-take n new ∙ omega (arith, few) in (
      take n new,
      c.in-Ok.ensures.bytes,
      omega (arith, long, c.in-Ok.ensures.count),
      (sym long, put_behind c.args.at c.args.most n c.args.bytes.now new (omega (arith, c.requires.within)) few, λ none. at_end_then (g.S.Source.left c.args.input.now) (g.S.Source.left c.read.new.self) (take n new) c.in-Ok.ensures.bytes (c.in-Ok.ensures.end (ap Ok none))),
      tt,
    )
