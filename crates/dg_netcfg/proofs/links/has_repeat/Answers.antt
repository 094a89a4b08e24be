use Rattle.std.proofs.Common.{true, false, ◌∙◌, sym}
use Rattle.dg_netcfg.proofs.ProfileLemmas.{has_repeat-cons}
use Rattle.dg_netcfg.proofs.links.has_repeat.Goals as goal

pub returns-then-is_among : goal.returns-then-is_among
returns-then-is_among c = sym (c.loop-link.invariant ∙ has_repeat-cons c.loop-link.rest.now c.in-Some.others.now c.in-Some.link.now true c.in-Some.ensures.cases.0 c.if-is_among.ensures)

pub loop-link-preserved : goal.loop-link-preserved
loop-link-preserved c = c.loop-link.invariant ∙ has_repeat-cons c.loop-link.rest.now c.in-Some.others.now c.in-Some.link.now false c.in-Some.ensures.cases.0 c.if-is_among.ensures
