use Rattle.dg_base.proofs.LineLemmas.{none_in, first_at, lacks_feed, lines-none, lines-feed, text_lacks, ended}
use Rattle.dg_base.proofs.texts.next_line.Goals as goal

pub returns-in-None-clause-line : goal.returns-in-None-clause-line
returns-in-None-clause-line c more = lines-none c.args.bytes.now c.args.from more c.in-None.ensures

pub returns-in-None-clause-text : goal.returns-in-None-clause-text
returns-in-None-clause-text c = lacks_feed _ (none_in _ c.in-None.ensures)

pub returns-in-Some-clause-line : goal.returns-in-Some-clause-line
returns-in-Some-clause-line c more =
    lines-feed c.args.bytes.now c.args.from c.in-Some.at c.text_end.result c.requires (first_at _ _ c.in-Some.ensures) c.text_end.ensures.text

pub returns-in-Some-clause-text : goal.returns-in-Some-clause-text
returns-in-Some-clause-text c =
    text_lacks c.args.bytes.now c.args.from c.in-Some.at c.text_end.result c.requires (first_at _ _ c.in-Some.ensures) c.text_end.ensures.end

pub returns-in-Some-clause-ended : goal.returns-in-Some-clause-ended
returns-in-Some-clause-ended c _ =
    ended c.args.bytes.now c.args.from c.in-Some.at c.text_end.result c.requires (first_at _ _ c.in-Some.ensures) c.text_end.ensures.start c.text_end.ensures.end c.text_end.ensures.carriage_return
