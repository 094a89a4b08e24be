use Rattle.dg_script.specs.declared.line.Line.TheVariants.{Happens as EventLine}
use Rattle.dg_replay.proofs.lines.next_line.Goals as goal

pub returns-in-Some : goal.returns-in-Some
returns-in-Some c =
    let law = c.what_is_spelled_fits.ensures in
    let line = EventLine c.in-Some.event in
    record {
      spelled = c.in-Some.ensures;
      stands = law.stands c.args.place.now c.args.text.now line c.in-Some.ensures;
      fits = law.fits c.args.place.now c.args.text.now line c.in-Some.ensures;
      played = law.played c.args.place.now c.args.text.now line c.in-Some.ensures;
    }
