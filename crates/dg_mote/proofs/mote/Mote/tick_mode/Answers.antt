use Rattle.std.proofs.Common.{IfSome, refl, sym, ap, subst, ◌∙◌}
use Rattle.dg_nor.proofs.ReadLemmas.{Looked-none}
use Rattle.dg_mote.specs.Model.{Mode, Maintain}
use Rattle.dg_mote.specs.Ticks.{mode_tick}
use Rattle.dg_mote.specs.Motes.{ModeStands, IsRead}
use Rattle.dg_mote.specs.declared.mote.Mode.{Mode as ModeValue}
use Rattle.dg_mote.specs.declared.mote.Mode.TheVariants as value
use Rattle.dg_mote.proofs.ModeLemmas.{at_maintain}
use Rattle.dg_mote.proofs.ActLemmas.{rests_done, with_mode}
use Rattle.dg_mote.proofs.mote.Mote.tick_mode.Goals as goal

pub returns-in-Maintain-clause-done : goal.returns-in-Maintain-clause-done
returns-in-Maintain-clause-done g c m s h =
    let a = g.N.Nor.device c.args.nor.now in
    let v = c.args.self.now in
    let arm = c.in-Maintain in
    let new = c.advertise.new.trickle in
    let at = at_maintain a.image v.volume s arm.trickle m.mode (subst (λ (x : ModeValue). ModeStands a.image v.volume s x m.mode) arm.is h.mode) in
    let shows = c.advertise.ensures m s (sym h.id) (sym h.wide) at.is h.mounted.tells in
    let turn = ap (λ (mode : Mode). mode_tick mode m s c.args.now c.args.word) at.is in
    rests_done _ a a _ (record m { mode = Maintain new }) s c.advertise.result (ap (λ t. t.mote) turn ∙ shows.mote) (ap (λ t. t.trail) turn ∙ shows.trail) (shows.answer ∙ sym (ap (λ t. t.answer) turn)) (Looked-none a)
    (with_mode a.image a.image v m s (value.Maintain new) (Maintain new) refl h (refl, at.free) tt)

pub returns-in-Maintain-clause-read : goal.returns-in-Maintain-clause-read
returns-in-Maintain-clause-read g c m s h =
    let a = g.N.Nor.device c.args.nor.now in
    let v = c.args.self.now in
    let arm = c.in-Maintain in
    let at = at_maintain a.image v.volume s arm.trickle m.mode (subst (λ (x : ModeValue). ModeStands a.image v.volume s x m.mode) arm.is h.mode) in
    let shows = c.advertise.ensures m s (sym h.id) (sym h.wide) at.is h.mounted.tells in
    subst (λ (mode : Mode). IfSome (mode_tick mode m s c.args.now c.args.word).sent (IsRead m.wide)) (sym at.is) shows.read

pub advertise-requires-clause-none : goal.advertise-requires-clause-none
advertise-requires-clause-none g c = λ s tells. c.has_order.ensures s tells c.if-has_order.false
