use Rattle.std.proofs.Common.{◌≡◌, ◌+◌, ◌<◌, ◌++◌, length, take, drop, replicate, Some, rules, sym, ap, ◌∙◌, subst, arith}
use Rattle.std.proofs.lemmas.List.{take_at}
use Rattle.std.specs.Prelude.{slice_set}
use Rattle.dg_rounds.specs.Marks.{mark_of, unmarked, Spreads}
use Rattle.dg_rounds.specs.LinkPaths.{IsLevel, IsLinked}
use Rattle.dg_rounds.proofs.WayLemmas.{Reached, nothing, reached_first, unmarked_first, reached_more, are_levels}
use Rattle.dg_rounds.proofs.distances.levels.Goals as goal

pub loop-level-init : goal.loop-level-init
loop-level-init c =
    let items : c.in_ok-levels.levels.items ≡ replicate c.from.result nothing = c.in_ok-levels.ensures.items_if_clones_equal (λ y h. search rules) in
    let same : slice_set c.in_ok-levels.levels.items c.from-2.result (Some 0) ≡ slice_set (replicate c.args.motes nothing) c.args.from (Some 0) =
    ap (λ xs. slice_set xs c.from-2.result (Some 0)) (items ∙ ap (λ n. replicate n nothing) c.from.ensures) ∙ ap (λ n. slice_set (replicate c.args.motes nothing) n (Some 0)) c.from-2.ensures in
    let few : unmarked (slice_set c.in_ok-levels.levels.items c.from-2.result (Some 0)) < c.args.motes = subst (λ xs. unmarked xs < c.args.motes) (sym same) (unmarked_first c.args.motes c.args.from c.requires.inside) in
    record {
      len = c.in_ok-levels.ensures.len ∙ c.from.ensures;
      reached = subst (Reached c.args.links.now c.args.from 0) (sym same) (reached_first c.args.links.now c.args.from c.args.motes c.requires.inside);
      room = omega (arith, few);
    }

pub loop-level-preserved : goal.loop-level-preserved
loop-level-preserved c =
    let links = c.args.links.now in
    let level = c.loop-level.level in
    let old = c.loop-level.levels.items in
    let new = c.spread.new.levels in
    let s = subst (λ xs. Spreads (IsLinked links) level xs new) c.deref_mut.ensures.value c.spread.ensures.spreads in
    let long : length new ≡ c.loop-level.levels.len = s.same_length ∙ sym c.loop-level.levels.ok.0 in
    let same : take c.loop-level.levels.len (new ++ drop (length new) old) ≡ new = take_at new (drop (length new) old) c.loop-level.levels.len long in
    let few : unmarked new < unmarked old = subst (λ xs. unmarked new < unmarked xs) c.deref_mut.ensures.value (c.spread.ensures.more c.loop-level-test.true) in
    let room : level + 1 + unmarked new < c.args.motes = omega (arith, few, c.loop-level.invariant.room) in
    record {
      len = c.loop-level.invariant.len;
      reached = subst (Reached links c.args.from (level + 1)) (sym same) (reached_more links c.args.from level old new c.loop-level.invariant.reached s);
      room = subst (λ xs. level + 1 + unmarked xs < c.args.motes) (sym same) room;
    }

pub returns-clause-each : goal.returns-clause-each
returns-clause-each c m _ =
    let links = c.args.links.now in
    let level = c.loop-level.level in
    let old = c.loop-level.levels.items in
    let new = c.spread.new.levels in
    let s = subst (λ xs. Spreads (IsLinked links) level xs new) c.deref_mut.ensures.value c.spread.ensures.spreads in
    let none : new ≡ old = c.spread.ensures.none c.loop-level-test.false ∙ c.deref_mut.ensures.value in
    let long : length new ≡ c.loop-level.levels.len = s.same_length ∙ sym c.loop-level.levels.ok.0 in
    let same : take c.loop-level.levels.len (new ++ drop (length new) old) ≡ old = take_at new (drop (length new) old) c.loop-level.levels.len long ∙ none in
    let rests = subst (Spreads (IsLinked links) level old) none s in
    subst (λ xs. IsLevel links c.args.from m (mark_of xs m)) (sym same) (are_levels links c.args.from level old c.loop-level.invariant.reached rests m)
