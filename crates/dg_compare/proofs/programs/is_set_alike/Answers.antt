use Rattle.std.proofs.Common.{◌≡◌, Bool, subst}
use Rattle.std.specs.Prelude.{◌==◌, ◌&&◌, ◌↔◌, IsTrue}
use Rattle.dg_compare.proofs.AlikeLemmas.{set_some, set_both}
use Rattle.dg_compare.proofs.programs.is_set_alike.Goals as goal

pub returns-then-is_equal : goal.returns-then-is_equal
returns-then-is_equal c c' d a b holds holds_other shown other shares =
    let x = c.in-Some.one in
    let y = c.in-Some-other.other in
    let p = set_some a c.args.one.now x c.in-Some.is shown in
    let q = set_some b c.args.other.now y c.in-Some-other.is other in
    let found = set_both c' d a b p.0 q.0 x y c.args.shared c.is_equal.result p.1 q.1 p.2 q.2 holds holds_other shares c.is_equal.ensures in
    subst (λ (z : Bool). IsTrue (z && (x.pages.descriptor.pages == y.pages.descriptor.pages)) ↔ (a ≡ b)) c.if-is_equal.true found
