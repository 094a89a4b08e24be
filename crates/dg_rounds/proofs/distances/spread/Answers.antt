use Rattle.std.proofs.Common.{ℕ, ◌<◌, ◌||◌, length, get_or, take, sym, subst, arith}
use Rattle.std.proofs.lemmas.List.{take_more}
use Rattle.std.proofs.lemmas.List.Elements.{All-get_or}
use Rattle.dg_rounds.specs.LinkPaths.{IsLinked}
use Rattle.dg_rounds.specs.Marks.{Spreads}
use Rattle.dg_rounds.proofs.WayLemmas.{spreads_more, told_more, marks_at, marks_length}
use Rattle.dg_rounds.proofs.distances.spread.Goals as goal

pub loop-a-preserved : goal.loop-a-preserved
loop-a-preserved c =
    let links = c.args.links.now in
    let level = c.args.level in
    let old = c.args.levels.now in
    let mid = c.loop-a.levels in
    let between = c.mark-marked.new.levels in
    let new = c.mark-marked-in-loop-a.new.levels in
    let link : ℕ × ℕ = get_or links c.loop-a.a-index (0, 0) in
    let inside = All-get_or (λ (l : ℕ × ℕ). (l.0 < length old) × (l.1 < length old)) links c.loop-a.a-index (0, 0) c.loop-a-test.true c.requires.linked in
    let s = c.loop-a.invariant.spreads in
    let there = marks_at _ link.0 _ link.1 level mid between c.mark-marked.result c.from.ensures c.from-in-loop-a.ensures c.mark-marked.ensures in
    let back = marks_at _ link.1 _ link.0 level between new c.mark-marked-in-loop-a.result c.from-in-loop-a-2.ensures c.from-in-loop-a-3.ensures c.mark-marked-in-loop-a.ensures in
    let p : link.0 < length mid = omega (arith, inside.0, s.same_length) in
    let q : link.1 < length mid = omega (arith, inside.1, s.same_length) in
    let r : link.0 < length between = omega (arith, p, marks_length link.0 link.1 level mid between c.mark-marked.result there) in
    let first = told_more link.0 link.1 level old mid between c.loop-a.marked c.mark-marked.result q c.loop-a.invariant.more c.loop-a.invariant.none there in
    let both = told_more link.1 link.0 level old between new (c.loop-a.marked || c.mark-marked.result) c.mark-marked-in-loop-a.result r first.0 first.1 back in
    record {
      spreads = subst (λ ls. Spreads (IsLinked ls) level old new) (sym (take_more links c.loop-a.a-index (0, 0) c.loop-a-test.true))
          (spreads_more (take c.loop-a.a-index links) link.0 link.1 level old mid between new c.mark-marked.result c.mark-marked-in-loop-a.result p q s there back);
      more = both.0;
      none = both.1;
    }
