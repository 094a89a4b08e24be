use Rattle.std.proofs.Common.{false, sym, subst, ◌∙◌}
use Rattle.dg_volume.specs.Acts.{Stops}
use Rattle.dg_mote.specs.Model.{MoteStep}
use Rattle.dg_mote.specs.Motes.{Done}
use Rattle.dg_mote.specs.declared.mote.Heard.{Heard}
use Rattle.dg_mote.proofs.ServeLemmas.{rests_done, if_ok, on_err}
use Rattle.dg_mote.proofs.AskLemmas.{may_take, follows_none, follows_noted, follows_asking}
use Rattle.dg_mote.proofs.WideLemmas.{kept_few}
use Rattle.dg_mote.proofs.mote.Mote.follow.Goals as goal

pub returns-in_default-clause-done : goal.returns-in_default-clause-done
returns-in_default-clause-done g c m s timer is mode =
    let a = g.N.Nor.device c.args.nor.now in
    let v = c.note_advert.new.self in
    let e = follows_none m timer s c.args.now c.args.word c.args.source c.args.entries.now false (sym (c.first_ahead.ensures.least s is.mounted.tells) ∙ c.in_default.is) in
    subst (λ (t : MoteStep Heard). Done t a a v c.note_advert.result) (sym e) (rests_done _ a s v c.note_advert.result (c.note_advert.ensures.rests a.image m s timer is mode))

pub returns-then-not-may_ask-clause-done : goal.returns-then-not-may_ask-clause-done
returns-then-not-may_ask-clause-done g c m s timer is mode =
    let a = g.N.Nor.device c.args.nor.now in
    let x = c.in-Some in
    let note = c.note_advert-then-not-may_ask in
    let cannot = sym (c.may_ask.ensures a.image m s is) ∙ c.if-not-may_ask.true in
    let e = follows_noted m timer s c.args.now c.args.word c.args.source x.image c.args.entries.now c.entry_for-entry.result false (sym (x.ensures.least s is.mounted.tells)) c.entry_for-entry.ensures cannot in
    subst (λ (t : MoteStep Heard). Done t a a note.new.self note.result) (sym e) (rests_done _ a s note.new.self note.result (note.ensures.rests a.image m s timer is mode))

pub ask-requires-clause-mote : goal.ask-requires-clause-mote
ask-requires-clause-mote g c =
    let a = g.N.Nor.device c.args.nor.now in
    let x = c.in-Some in
    let m = c.requires.mote.0 in
    let s = c.requires.mote.1 in
    let is = c.requires.mote.3 in
    let can = sym (c.may_ask.ensures a.image m s is) ∙ c.if-not-may_ask.false in (
      m,
      s,
      c.requires.mote.2,
      is,
      c.requires.mote.4,
      may_take m s c.args.entries.now c.args.now x.image c.entry_for-entry.result (kept_few c.args.self.now.wide c.args.entries.now c.requires.known) c.requires.entries x.ensures.within.0 x.ensures.within.1 c.entry_for-entry.ensures (x.ensures.ahead s is.mounted.tells) can,
    )

pub returns-clause-done : goal.returns-clause-done
returns-clause-done g c = if_ok c.ask.result c.ask.ensures.done (λ answer done m s timer is mode.
    let a = g.N.Nor.device c.args.nor.now in
    let b = g.N.Nor.device c.ask.new.nor in
    let x = c.in-Some in
    let can = sym (c.may_ask.ensures a.image m s is) ∙ c.if-not-may_ask.false in
    let may = may_take m s c.args.entries.now c.args.now x.image c.entry_for-entry.result (kept_few c.args.self.now.wide c.args.entries.now c.requires.known) c.requires.entries x.ensures.within.0 x.ensures.within.1 c.entry_for-entry.ensures (x.ensures.ahead s is.mounted.tells) can in
    let e = follows_asking m timer s c.args.now c.args.word c.args.source x.image c.args.entries.now c.entry_for-entry.result false (sym (x.ensures.least s is.mounted.tells)) c.entry_for-entry.ensures can in
    subst (λ (t : MoteStep Heard). Done t a b c.ask.new.self answer) (sym e) (done m s timer is mode may))

pub returns-clause-stopped : goal.returns-clause-stopped
returns-clause-stopped g c = on_err c.ask.result c.ask.ensures.stopped (λ stopped m s timer is mode.
    let a = g.N.Nor.device c.args.nor.now in
    let b = g.N.Nor.device c.ask.new.nor in
    let x = c.in-Some in
    let can = sym (c.may_ask.ensures a.image m s is) ∙ c.if-not-may_ask.false in
    let may = may_take m s c.args.entries.now c.args.now x.image c.entry_for-entry.result (kept_few c.args.self.now.wide c.args.entries.now c.requires.known) c.requires.entries x.ensures.within.0 x.ensures.within.1 c.entry_for-entry.ensures (x.ensures.ahead s is.mounted.tells) can in
    let e = follows_asking m timer s c.args.now c.args.word c.args.source x.image c.args.entries.now c.entry_for-entry.result false (sym (x.ensures.least s is.mounted.tells)) c.entry_for-entry.ensures can in
    subst (λ (t : MoteStep Heard). Stops t.trail a b) (sym e) (stopped m s timer is mode may))
