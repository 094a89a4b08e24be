use Rattle.std.proofs.Common.{refl}
use Rattle.dg_inspect.specs.Chip.{still_device}
use Rattle.dg_compare.proofs.AlikeLemmas.{set_some, shared_set}
use Rattle.dg_compare.proofs.programs.shared_pages.Goals as goal

pub returns : goal.returns
returns c a b holds holds_other shown other =
    let x = c.in-Some.set in
    let y = c.in-Some-other_set.other_set in
    let p = set_some a c.args.set.now x c.in-Some.is shown in
    let q = set_some b c.args.other_set.now y c.in-Some-other_set.is other in
    shared_set (still_device c.args.one.now).image (still_device c.args.other.now).image 3 c.min-both.result a b p.0 q.0 x y c.compare_pages.result refl p.1 q.1 p.2 q.2 holds holds_other
    (c.is_one_version-one_version.ensures.0 c.if-not-one_version.false) c.min-both.ensures c.compare_pages.ensures
