use Rattle.std.proofs.Common.{refl, Some, None}
use Rattle.std.proofs.lemmas.List.{nil_from_length}
use Rattle.dg_rounds.proofs.SweepLemmas.{back_begun, link_begun, all_over}
use Rattle.dg_rounds.proofs.sweeps.SweepEvents.begin_round.Goals as goal

pub returns-in-Some-clause-more : goal.returns-in-Some-clause-more
returns-in-Some-clause-more c _ =
    let s = c.args.self.now in
    back_begun s (record { current = c.round-self.result; back = None; links = s.links }) c.in-Some.a c.in-Some.b c.requires c.in-Some.is c.round-self.ensures.events refl refl

pub returns-in-Some-split_first-clause-more : goal.returns-in-Some-split_first-clause-more
returns-in-Some-split_first-clause-more c _ =
    let s = c.args.self.now in
    let x = c.in-Some-split_first in
    link_begun s (record { current = c.round-self-in-Some-split_first.result; back = Some x.link.now; links = x.others }) x.link.now c.requires c.in_default.is x.ensures.cases.0 c.round-self-in-Some-split_first.ensures.events refl

pub returns-clause-none : goal.returns-clause-none
returns-clause-none c _ =
    let s = c.args.self.now in
    let e = all_over s c.requires c.in_default.is (nil_from_length s.links.now c.in_default-split_first.ensures.cases) in
    (e, e)
