use Rattle.std.proofs.Common.{◌≡◌, ℕ, ◌<◌, length, take, sym, ap, ◌∙◌, arith}
use Rattle.std.proofs.lemmas.List.{take_all}
use Rattle.dg_script.specs.Contents.{generated}
use Rattle.dg_script.proofs.ContentLemmas.{generated_none, generated_more}
use Rattle.dg_script.proofs.content.fill.Goals as goal

pub loop-at-init : goal.loop-at-init
loop-at-init c = sym (generated_none c.args.seed)

pub loop-at-preserved : goal.loop-at-preserved
loop-at-preserved c =
    let within : c.loop-at.at < length c.loop-at.into = omega arith in
    generated_more c.loop-at.into c.args.seed c.loop-at.at within c.loop-at.invariant

pub returns : goal.returns
returns c =
    let all : take c.loop-at.at c.loop-at.into ≡ c.loop-at.into = take_all c.loop-at.at c.loop-at.into (omega arith) in
    let far : c.loop-at.at ≡ length c.args.into.now = omega arith in
    sym all ∙ c.loop-at.invariant ∙ ap (λ (n : ℕ). generated n c.args.seed) far
