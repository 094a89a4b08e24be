use Rattle.std.proofs.Common.{◌≡◌, ◌≤◌, ◌<◌, length, refl, ap, sym, ◌∙◌, arith}
use Rattle.std.proofs.lemmas.Result.{err_from_is_err_and}
use Rattle.dg_drip_run.proofs.FinishLemmas.{text_made}
use Rattle.dg_drip_run.proofs.finish.end_script.Goals as goal

pub push_final-requires : goal.push_final-requires
push_final-requires c =
    let h = c.requires.2 in
    let e : c.args.player.now.standing.nodes ≡ length c.args.player.now.network.nodes.items = ap (λ t. t.nodes) h.standing ∙ sym h.nodes in
    omega (arith, e)

pub returns-then-player-eq0 : goal.returns-then-player-eq0
returns-then-player-eq0 c = λ s before h. (refl, refl, sym (ap (λ t. t.nodes) h.standing) ∙ c.if-player-eq0.true)

pub returns-in_err-push_final : goal.returns-in_err-push_final
returns-in_err-push_final c = λ s before h.
    let p = err_from_is_err_and c.from_residual.result c.from_residual.ensures.1 in
    rw (p.1, p.2) tt

pub returns : goal.returns
returns c = λ s before h.
    let e : c.args.player.now.standing.nodes ≡ s.nodes = ap (λ t. t.nodes) h.standing in
    let some : 0 < s.nodes = omega (arith, e, c.if-player-eq0.false) in
    (some, text_made _ _ _ c.new-text.ensures.items (c.in_ok-push_final.ensures s before h))
