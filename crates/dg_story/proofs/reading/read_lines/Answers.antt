use Rattle.dg_story.proofs.ReadLemmas.{begun_reading, so_far_more, split_whole, went_well}
use Rattle.std.proofs.Common.{sym, ◌∙◌, rules}
use Rattle.dg_story.proofs.reading.read_lines.Goals as goal

pub loop-rest-init : goal.loop-rest-init
loop-rest-init c = begun_reading _ _ _ _ _ c.new-story.ensures

pub loop-rest-preserved : goal.loop-rest-preserved
loop-rest-preserved c =
    let line = c.split_at.result.0.now in
    let behind = c.split_at.result.1.now in
    so_far_more _ _ line behind _ _ _ _ _ _ _ _ c.loop-rest.invariant (search rules)
    (split_whole c.loop-rest.rest.now line behind c.first_line.result c.split_at.ensures.front c.split_at.ensures.back)
    c.in-Ok.ensures.ok.0 c.in-Ok.ensures.ok.1
    (went_well c.tell.result (sym c.is_err.ensures.value ∙ c.if-is_err.false) c.tell.ensures)
