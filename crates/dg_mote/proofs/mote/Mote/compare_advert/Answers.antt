use Rattle.std.proofs.Common.{true, false, refl, sym, ap, subst, ◌∙◌}
use Rattle.dg_nor.specs.Trail.{last}
use Rattle.dg_nor.proofs.DeviceLemmas.{OnErr_from}
use Rattle.dg_volume.specs.Acts.{Stops}
use Rattle.dg_mote.specs.Model.{MoteStep}
use Rattle.dg_mote.specs.Summary.{ahead_in}
use Rattle.dg_mote.specs.Adverts.{better_trail, by_ahead, turn_behind, offer, noting}
use Rattle.dg_mote.specs.Motes.{Done}
use Rattle.dg_mote.specs.declared.mote.Heard.{Heard}
use Rattle.dg_mote.proofs.ServeLemmas.{rests_done, if_ok, on_err}
use Rattle.dg_mote.proofs.FillLemmas.{done_behind, stops_behind, stops_before}
use Rattle.dg_mote.proofs.AskLemmas.{follow_begins, follows_none, better_mote, advert_is, said_same}
use Rattle.dg_mote.proofs.AheadLemmas.{own_is_level}
use Rattle.dg_mote.proofs.mote.Mote.compare_advert.Goals as goal

pub returns-in_err-keep_better-clause-stopped : goal.returns-in_err-keep_better-clause-stopped
returns-in_err-keep_better-clause-stopped g c = OnErr_from c.from_residual.result (λ m s timer is mode.
    let a = g.N.Nor.device c.args.nor.now in
    let b = g.N.Nor.device c.keep_better.new.nor in
    let t = better_trail s c.args.order.now in
    let rest = by_ahead (ahead_in c.args.entries.now (last t)) m (last t) c.args.now c.args.word (offer c.args.source c.args.entries.now) (noting m timer (last t) c.args.now c.args.word c.would_say-same.result) in
    subst (λ (x : MoteStep Heard). Stops x.trail a b) (sym (advert_is m timer s c.args.now c.args.word c.args.source c.args.entries.now c.args.order.now c.would_say-same.result (said_same c.would_say-same.result c.args.entries.now c.args.order.now c.args.self.now.wide m s is.wide (c.would_say-same.ensures s is.mounted.tells))))
    (stops_before t rest a b (follow_begins c.trails_begin.ensures.take (ahead_in c.args.entries.now (last t)) m timer (last t) c.args.now c.args.word c.args.source c.args.entries.now c.would_say-same.result) (c.in_err-keep_better.ensures.stopped s is.mounted)))

pub note_advert-requires-clause-mote : goal.note_advert-requires-clause-mote
note_advert-requires-clause-mote g c =
    let a = g.N.Nor.device c.args.nor.now in
    let b = g.N.Nor.device c.keep_better.new.nor in
    let m = c.requires.mote.0 in
    let s = c.requires.mote.1 in
    let timer = c.requires.mote.2 in
    let is = c.requires.mote.3 in
    let mode = c.requires.mote.4 in
    (b.image, m, last (better_trail s c.args.order.now), timer, better_mote a b c.args.self.now c.keep_better.new.volume m s timer c.args.order.now is mode (c.in_ok-keep_better.ensures.acted s is.mounted) c.keep_better.ensures.lent, mode)

pub returns-then-same-clause-done : goal.returns-then-same-clause-done
returns-then-same-clause-done g c m s timer is mode =
    let a = g.N.Nor.device c.args.nor.now in
    let b = g.N.Nor.device c.keep_better.new.nor in
    let entries = c.args.entries.now in
    let order = c.args.order.now in
    let t = better_trail s order in
    let acted = c.in_ok-keep_better.ensures.acted s is.mounted in
    let now_is = better_mote a b c.args.self.now c.keep_better.new.volume m s timer order is mode acted c.keep_better.ensures.lent in
    let own = sym c.if-same.true ∙ said_same c.would_say-same.result entries order c.args.self.now.wide m s is.wide (c.would_say-same.ensures s is.mounted.tells) in
    let noted = noting m timer (last t) c.args.now c.args.word true in
    let level = follows_none m timer (last t) c.args.now c.args.word c.args.source entries true (own_is_level entries order m.wide s (sym own)) in
    subst (λ (x : MoteStep Heard). Done x a b c.note_advert.new.self c.note_advert.result) (sym (advert_is m timer s c.args.now c.args.word c.args.source entries order true own ∙ ap (turn_behind t) level))
    (done_behind t noted a b b c.note_advert.new.self c.note_advert.result refl acted.ran (rests_done noted b (last t) c.note_advert.new.self c.note_advert.result (c.note_advert.ensures.rests b.image m (last t) timer now_is mode)))

pub follow-requires-clause-mote : goal.follow-requires-clause-mote
follow-requires-clause-mote g c =
    let a = g.N.Nor.device c.args.nor.now in
    let b = g.N.Nor.device c.keep_better.new.nor in
    let m = c.requires.mote.0 in
    let s = c.requires.mote.1 in
    let timer = c.requires.mote.2 in
    let is = c.requires.mote.3 in
    let mode = c.requires.mote.4 in
    (m, last (better_trail s c.args.order.now), timer, better_mote a b c.args.self.now c.keep_better.new.volume m s timer c.args.order.now is mode (c.in_ok-keep_better.ensures.acted s is.mounted) c.keep_better.ensures.lent, mode)

pub returns-clause-done : goal.returns-clause-done
returns-clause-done g c = if_ok c.follow.result c.follow.ensures.done (λ answer done m s timer is mode.
    let a = g.N.Nor.device c.args.nor.now in
    let b = g.N.Nor.device c.keep_better.new.nor in
    let d = g.N.Nor.device c.follow.new.nor in
    let t = better_trail s c.args.order.now in
    let rest = by_ahead (ahead_in c.args.entries.now (last t)) m (last t) c.args.now c.args.word (offer c.args.source c.args.entries.now) (noting m timer (last t) c.args.now c.args.word false) in
    let acted = c.in_ok-keep_better.ensures.acted s is.mounted in
    let now_is = better_mote a b c.args.self.now c.keep_better.new.volume m s timer c.args.order.now is mode acted c.keep_better.ensures.lent in
    let begins = follow_begins c.trails_begin.ensures.take (ahead_in c.args.entries.now (last t)) m timer (last t) c.args.now c.args.word c.args.source c.args.entries.now false in
    subst (λ (x : MoteStep Heard). Done x a d c.follow.new.self answer) (sym (advert_is m timer s c.args.now c.args.word c.args.source c.args.entries.now c.args.order.now false (sym c.if-same.false ∙ said_same c.would_say-same.result c.args.entries.now c.args.order.now c.args.self.now.wide m s is.wide (c.would_say-same.ensures s is.mounted.tells))))
    (done_behind t rest a b d c.follow.new.self answer (sym begins.first) acted.ran (done m (last t) timer now_is mode)))

pub returns-clause-stopped : goal.returns-clause-stopped
returns-clause-stopped g c = on_err c.follow.result c.follow.ensures.stopped (λ stopped m s timer is mode.
    let a = g.N.Nor.device c.args.nor.now in
    let b = g.N.Nor.device c.keep_better.new.nor in
    let d = g.N.Nor.device c.follow.new.nor in
    let t = better_trail s c.args.order.now in
    let rest = by_ahead (ahead_in c.args.entries.now (last t)) m (last t) c.args.now c.args.word (offer c.args.source c.args.entries.now) (noting m timer (last t) c.args.now c.args.word false) in
    let acted = c.in_ok-keep_better.ensures.acted s is.mounted in
    let now_is = better_mote a b c.args.self.now c.keep_better.new.volume m s timer c.args.order.now is mode acted c.keep_better.ensures.lent in
    let begins = follow_begins c.trails_begin.ensures.take (ahead_in c.args.entries.now (last t)) m timer (last t) c.args.now c.args.word c.args.source c.args.entries.now false in
    subst (λ (x : MoteStep Heard). Stops x.trail a d) (sym (advert_is m timer s c.args.now c.args.word c.args.source c.args.entries.now c.args.order.now false (sym c.if-same.false ∙ said_same c.would_say-same.result c.args.entries.now c.args.order.now c.args.self.now.wide m s is.wide (c.would_say-same.ensures s is.mounted.tells))))
    (stops_behind t rest a b d (sym begins.first) acted.ran (stopped m (last t) timer now_is mode)))
