use Rattle.std.proofs.Common.{◌≡◌, ◌≤◌, length, map, refl, inl, inr, ap, subst, ◌∙◌, arith}
use Rattle.std.proofs.lemmas.Result.{err_from_is_err_and}
use Rattle.std.proofs.lemmas.List.{length-map}
use Rattle.rand_pcg.specs.Pcg.{pcg32}
use Rattle.dg_object.specs.Object.{Row}
use Rattle.dg_world.specs.Worlds.{IsWorld}
use Rattle.dg_seed.specs.Draws.{generator_of}
use Rattle.dg_trial.specs.Schedule.{line_links}
use Rattle.dg_trial.specs.Playing.{first}
use Rattle.dg_trial.specs.Trials.{Formatted}
use Rattle.dg_trial.proofs.TrialLemmas.{row_drawn, unstarted, linked_is}
use Rattle.dg_trial.proofs.RecordLemmas.{format_begun, unbegun}
use Rattle.dg_trial.proofs.beginning.begin.Goals as goal

pub returns-in_err-links : goal.returns-in_err-links
returns-in_err-links g c =
    let p = err_from_is_err_and c.from_residual.result c.from_residual.ensures.1 in
    rw (p.1, p.2) (inl refl)

pub returns-in_err-world : goal.returns-in_err-world
returns-in_err-world g c =
    let p = err_from_is_err_and c.from_residual-in_err-world.result c.from_residual-in_err-world.ensures.1 in
    rw (p.1, p.2) (inl refl)

pub returns-in_err-format : goal.returns-in_err-format
returns-in_err-format g c =
    let p = err_from_is_err_and c.from_residual-in_err-format.result c.from_residual-in_err-format.ensures.1 in
    rw (p.1, p.2) (format_begun c.in_err-format.field-0.0 c.args.motes c.args.pages c.args.seed _ _ c.in_err-format.ensures)

pub declare-requires-clause-world : goal.declare-requires-clause-world
declare-requires-clause-world g c =
    let n = c.args.motes in
    let old = map g.N.Nor.device c.args.boards.now.items in
    let mid = map g.N.Nor.device c.format.new.boards.items in
    let enough : n ≤ length old = let e = length-map c.args.boards.now.items g.N.Nor.device in omega (arith, e, c.requires.boards) in
    let links_is : c.deref.result.now ≡ line_links n = c.deref.ensures.value ∙ c.in_ok-links.ensures in
    let f : Formatted n old mid = c.in_ok-format.ensures in
    let made = linked_is n c.in_ok-world.world c.deref.result.now old mid enough links_is f c.in_ok-world.ensures in
    (mid, _, made, refl)

pub returns-in_err-declare : goal.returns-in_err-declare
returns-in_err-declare g c =
    let p = err_from_is_err_and c.from_residual-in_err-declare.result c.from_residual-in_err-declare.ensures.1 in
    rw (p.1, p.2)
    (unbegun c.in_err-declare.field-0.0 c.args.motes c.args.pages c.args.seed _ _ c.in_err-declare.ensures.memory (inr (unstarted c.args.motes c.args.pages c.args.seed _ _ c.in_ok-format.ensures)))

pub returns : goal.returns
returns g c =
    let n = c.args.motes in
    let old = map g.N.Nor.device c.args.boards.now.items in
    let mid = map g.N.Nor.device c.format.new.boards.items in
    let enough : n ≤ length old = let e = length-map c.args.boards.now.items g.N.Nor.device in omega (arith, e, c.requires.boards) in
    let links_is : c.deref.result.now ≡ line_links n = c.deref.ensures.value ∙ c.in_ok-links.ensures in
    let f : Formatted n old mid = c.in_ok-format.ensures in
    let made = linked_is n c.in_ok-world.world c.deref.result.now old mid enough links_is f c.in_ok-world.ensures in
    let drawn = row_drawn c.args.pages c.args.seed c.next-word.result (generator_of c.next-word.new.self) (generator_of c.of_seed-draws.result) c.next-word.ensures.step c.of_seed-draws.ensures.first in
    record {
      word = c.next-word.ensures.step ∙ ap pcg32 c.of_seed-draws.ensures.first;
      links = c.in_ok-links.ensures;
      formatted = f;
      is = subst (λ (row : Row). IsWorld c.declare.new.world mid (first n row)) drawn.0 (c.in_ok-declare.ensures.declared mid _ made refl);
    }
