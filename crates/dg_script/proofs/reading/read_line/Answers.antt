use Rattle.std.proofs.Common.{sym}
use Rattle.dg_script.specs.Words.{words_of}
use Rattle.dg_script.proofs.LineLemmas.{played_verb-plays, read_stands, read_fits, read_plays}
use Rattle.dg_script.proofs.reading.read_line.Goals as goal

pub returns-in_ok-verb-in-Some-clause-stands : goal.returns-in_ok-verb-in-Some-clause-stands
returns-in_ok-verb-in-Some-clause-stands c =
    read_stands c.in_ok-verb-in-Some.verb c.args.place.now (words_of c.in-Some.fields.now) c.verb_line.result c.verb_line.ensures

pub returns-in_ok-verb-in-Some-clause-fits : goal.returns-in_ok-verb-in-Some-clause-fits
returns-in_ok-verb-in-Some-clause-fits c =
    read_fits c.in_ok-verb-in-Some.verb c.args.place.now (words_of c.in-Some.fields.now) c.verb_line.result c.verb_line.ensures

pub returns-in_ok-verb-in-Some-clause-played : goal.returns-in_ok-verb-in-Some-clause-played
returns-in_ok-verb-in-Some-clause-played c =
    let plays = played_verb-plays c.in-Some.word.now c.in_ok-verb-in-Some.verb (sym c.in_ok-verb-in-Some.ensures) in
    read_plays c.in_ok-verb-in-Some.verb c.args.place.now (words_of c.in-Some.fields.now) c.verb_line.result plays c.verb_line.ensures
