use Rattle.std.proofs.Common.{List, ap, ◌∙◌}
use Rattle.dg_story.specs.declared.told.Told.{Told}
use Rattle.dg_picture.specs.Picture.{drawing_of}
use Rattle.dg_picture.proofs.DrawnLemmas.{pictured, text_of}
use Rattle.dg_picture.proofs.call.draw.Goals as goal

pub returns-clause-ok : goal.returns-clause-ok
returns-clause-ok c =
    let story = c.in_ok-story.story in
    let words = c.in_ok-story.words.now in
    let timed = c.begins_timed-timed.result in
    pictured c.args.bytes.now c.in-Ok.text.items words story.told.items story.last story.count timed c.in_ok-story.ensures.ok c.begins_timed-timed.ensures
    (text_of c.drawn.result c.in-Ok.text _ c.in-Ok.is c.drawn.ensures
    ∙ ap (λ (told : List Told). drawing_of timed story.last told words) c.deref.ensures.value)
