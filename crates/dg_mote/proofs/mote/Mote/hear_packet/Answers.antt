use Rattle.std.proofs.Common.{◌≡◌, ℕ, ◌<◌, ◌≤◌, sym, ap, subst, ◌∙◌, arith}
use Rattle.std.specs.FinSet as set
use Rattle.dg_nor.specs.Device.{Ran}
use Rattle.dg_nor.specs.Trail.{resting}
use Rattle.dg_nor.proofs.DeviceLemmas.{OnErr_from}
use Rattle.dg_nor.proofs.TrailLemmas.{last-resting, operations-resting}
use Rattle.dg_slot.specs.Layout.{packets}
use Rattle.dg_slot.specs.Jobs.{put_packet, page_from}
use Rattle.dg_volume.specs.Acts.{Stops}
use Rattle.dg_mote.specs.Model.{Mode, NamesKnown, MoteStep}
use Rattle.dg_mote.specs.Adverts.{dropped}
use Rattle.dg_mote.specs.Packets.{is_wanted, takes, on_packet, page_packet}
use Rattle.dg_mote.specs.Motes.{Done}
use Rattle.dg_mote.specs.Hearing.{page_ends}
use Rattle.dg_mote.specs.declared.mote.Heard.{Heard}
use Rattle.dg_mote.specs.declared.mote.Heard.TheVariants as heard
use Rattle.dg_mote.specs.declared.mote.Mote.{Mote}
use Rattle.dg_mote.specs.declared.mote.Mode.{Mode as ModeValue}
use Rattle.dg_mote.specs.declared.mote.Mode.TheVariants as value
use Rattle.dg_mote.proofs.HereLemmas.{maintains_here, receives_here, transmits_here}
use Rattle.dg_mote.proofs.ServeLemmas.{chosen, passed, rests_done, dropped_done, if_ok, on_err, not_dropped}
use Rattle.dg_mote.proofs.FillLemmas.{asks_this, in_slot, put_stops, takes_stopped, takes_part, takes_whole, took_done, made_whole, ends_begin, done_behind, stops_behind}
use Rattle.dg_mote.proofs.mote.Mote.hear_packet.Goals as goal

pub returns-in-Maintain-clause-done : goal.returns-in-Maintain-clause-done
returns-in-Maintain-clause-done g c m s is =
    let n = c.args.name in
    let a = g.N.Nor.device c.args.nor.now in
    let here = maintains_here a.image c.args.self.now m s c.in-Maintain.field-0 is c.in-Maintain.is in
    subst (λ (x : Mode). Done (on_packet x m s c.args.now c.args.word (page_packet n.image n.version n.page c.args.packet c.args.bytes.now)) a a c.overhear_packet.new.self c.overhear_packet.result) (sym here.is)
    (rests_done _ a s c.overhear_packet.new.self c.overhear_packet.result (c.overhear_packet.ensures.rests a.image m s c.in-Maintain.field-0 c.args.word c.args.packet c.args.bytes.now is))

pub returns-in-Transmit-clause-done : goal.returns-in-Transmit-clause-done
returns-in-Transmit-clause-done g c m s is =
    let x = c.in-Transmit in
    let n = c.args.name in
    let a = g.N.Nor.device c.args.nor.now in
    let here = transmits_here a.image c.args.self.now m s x.image x.version x.page x.serving is x.is in
    subst (λ (y : Mode). Done (on_packet y m s c.args.now c.args.word (page_packet n.image n.version n.page c.args.packet c.args.bytes.now)) a a c.args.self.now heard.Dropped) (sym here.is) (dropped_done a c.args.self.now m s is)

pub returns-then-not-is_wanted-clause-done : goal.returns-then-not-is_wanted-clause-done
returns-then-not-is_wanted-clause-done g c m s is =
    let x = c.in-Receive in
    let a = g.N.Nor.device c.args.nor.now in
    let v = c.args.self.now in
    let n = c.args.name in
    let here = receives_here a.image v m s x.version x.server x.asking x.job is x.is in
    let r = here.r in
    let mode = here.is in
    let this = asks_this a.image v m s r x.version x.server x.asking x.job is mode x.is in
    let e = sym (c.is_wanted.ensures.value a.image this.receives.kept r this.receives.stands this.receives.image this.of_version this.receives.next) ∙ c.if-not-is_wanted.true in
    let full = takes m r s c.args.now c.args.word c.args.packet c.args.bytes.now in
    let done = subst (λ (t : MoteStep Heard). Done t a a v heard.Dropped) (sym (passed (is_wanted r n.image n.version n.page c.args.packet) full (dropped m s) e)) (dropped_done a v m s is) in
    subst (λ (y : ModeValue). Done (on_packet m.mode m s c.args.now c.args.word (page_packet n.image n.version n.page c.args.packet c.args.bytes.now)) a a (record v { mode = y }) heard.Dropped) x.is
    (subst (λ (k : Mode). Done (on_packet k m s c.args.now c.args.word (page_packet n.image n.version n.page c.args.packet c.args.bytes.now)) a a v heard.Dropped) (sym mode) done)

pub returns-in_err-put-in-Receive-clause-stopped : goal.returns-in_err-put-in-Receive-clause-stopped
returns-in_err-put-in-Receive-clause-stopped g c = OnErr_from c.from_residual.result (λ m s is.
    let x = c.in-Receive in
    let a = g.N.Nor.device c.args.nor.now in
    let b = g.N.Nor.device c.put.new.nor in
    let v = c.args.self.now in
    let n = c.args.name in
    let here = receives_here a.image v m s x.version x.server x.asking x.job is x.is in
    let r = here.r in
    let mode = here.is in
    let this = asks_this a.image v m s r x.version x.server x.asking x.job is mode x.is in
    let e = sym (c.is_wanted.ensures.value a.image this.receives.kept r this.receives.stands this.receives.image this.of_version this.receives.next) ∙ c.if-not-is_wanted.false in
    let inside = in_slot c.what_is_after_the_commits_does_not_count.ensures.same a.image b.image v.volume s x.job r this.receives is.mounted c.put.ensures.touches (λ h o. c.put.ensures.kept h o) in
    let stops = put_stops c.a_lent_slot_is_filled.ensures.filling_stopped a b v.volume s x.job r this.receives is.mounted inside c.in_err-put-in-Receive.ensures.stopped in
    subst (λ (k : Mode). Stops (on_packet k m s c.args.now c.args.word (page_packet n.image n.version n.page c.args.packet c.args.bytes.now)).trail a b) (sym mode)
    (subst (λ (t : MoteStep Heard). Stops t.trail a b) (sym (chosen (is_wanted r n.image n.version n.page c.args.packet) (takes m r s c.args.now c.args.word c.args.packet c.args.bytes.now) (dropped m s) e))
    (takes_stopped m r this.receives.kept s c.args.now c.args.word c.args.packet c.args.bytes.now a b this.receives.held_here stops)))

pub returns-then-from-lt-PACKETS-clause-done : goal.returns-then-from-lt-PACKETS-clause-done
returns-then-from-lt-PACKETS-clause-done g c m s is =
    let x = c.in-Receive in
    let a = g.N.Nor.device c.args.nor.now in
    let b = g.N.Nor.device c.put.new.nor in
    let v = c.args.self.now in
    let n = c.args.name in
    let here = receives_here a.image v m s x.version x.server x.asking x.job is x.is in
    let r = here.r in
    let mode = here.is in
    let q = c.args.packet in
    let bytes = c.args.bytes.now in
    let new = c.accept.new.self in
    let this = asks_this a.image v m s r x.version x.server x.asking x.job is mode x.is in
    let e = sym (c.is_wanted.ensures.value a.image this.receives.kept r this.receives.stands this.receives.image this.of_version this.receives.next) ∙ c.if-not-is_wanted.false in
    let inside = in_slot c.what_is_after_the_commits_does_not_count.ensures.same a.image b.image v.volume s x.job r this.receives is.mounted c.put.ensures.touches (λ h o. c.put.ensures.kept h o) in
    let known : q < packets = omega (arith, c.requires.in_page) in
    let missing = c.is_wanted.ensures.missing c.if-not-is_wanted.false in
    let count : c.count.result ≡ set.len new.got = c.count.ensures.value ∙ ap set.len c.got.ensures.value in
    let less : set.len new.got < packets = omega (arith, count, c.from.ensures, c.if-from-lt-PACKETS.true) in
    let done = took_done a b v m s r x.version x.server c.args.now q x.asking new x.job c.put.new.self bytes known (subst (NamesKnown m.wide) mode is.known) is this inside missing c.accept.ensures.after c.put.ensures.same_slot (λ h ps j. c.in_ok-put-in-Receive.ensures.put h ps j) c.in_ok-put-in-Receive.ensures.ran less in
    let full = takes m r s c.args.now c.args.word q bytes in
    let after : Mote = record v { mode = value.Receive x.version x.server new c.put.new.self } in
    subst (λ (k : Mode). Done (on_packet k m s c.args.now c.args.word (page_packet n.image n.version n.page q bytes)) a b after (heard.Took q)) (sym mode)
    (subst (λ (t : MoteStep Heard). Done t a b after (heard.Took q)) (sym (chosen (is_wanted r n.image n.version n.page q) full (dropped m s) e))
    (subst (λ (t : MoteStep Heard). Done t a b after (heard.Took q)) (sym (takes_part m r s c.args.now c.args.word q bytes done.few)) done.done))

pub end_page-requires-clause-whole : goal.end_page-requires-clause-whole
end_page-requires-clause-whole g c =
    let x = c.in-Receive in
    let a = g.N.Nor.device c.args.nor.now in
    let b = g.N.Nor.device c.put.new.nor in
    let v = c.args.self.now in
    let q = c.args.packet in
    let bytes = c.args.bytes.now in
    let new = c.accept.new.self in
    let m = c.requires.mote.0 in
    let s = c.requires.mote.1 in
    let is = c.requires.mote.2 in
    let here = receives_here a.image v m s x.version x.server x.asking x.job is x.is in
    let r = here.r in
    let mode = here.is in
    let this = asks_this a.image v m s r x.version x.server x.asking x.job is mode x.is in
    let inside = in_slot c.what_is_after_the_commits_does_not_count.ensures.same a.image b.image v.volume s x.job r this.receives is.mounted c.put.ensures.touches (λ h o. c.put.ensures.kept h o) in
    let known : q < packets = omega (arith, c.requires.in_page) in
    let missing = c.is_wanted.ensures.missing c.if-not-is_wanted.false in
    let count : c.count.result ≡ set.len new.got = c.count.ensures.value ∙ ap set.len c.got.ensures.value in
    let more : packets ≤ set.len new.got = omega (arith, count, c.from.ensures, c.if-from-lt-PACKETS.false) in
    let made = made_whole a b v m s r x.version x.server c.args.now q x.asking new x.job c.put.new.self bytes known is this inside missing c.accept.ensures.after c.put.ensures.same_slot (λ h ps j. c.in_ok-put-in-Receive.ensures.put h ps j) more in
    (m, s, r, this.receives.kept, put_packet r.packets q bytes, made.whole)

pub returns-else-from-lt-PACKETS-clause-done : goal.returns-else-from-lt-PACKETS-clause-done
returns-else-from-lt-PACKETS-clause-done g c = if_ok c.end_page.result c.end_page.ensures.done (λ answer done m s is.
    let x = c.in-Receive in
    let a = g.N.Nor.device c.args.nor.now in
    let b = g.N.Nor.device c.put.new.nor in
    let d = g.N.Nor.device c.end_page.new.nor in
    let v = c.args.self.now in
    let n = c.args.name in
    let here = receives_here a.image v m s x.version x.server x.asking x.job is x.is in
    let r = here.r in
    let mode = here.is in
    let q = c.args.packet in
    let bytes = c.args.bytes.now in
    let new = c.accept.new.self in
    let this = asks_this a.image v m s r x.version x.server x.asking x.job is mode x.is in
    let e = sym (c.is_wanted.ensures.value a.image this.receives.kept r this.receives.stands this.receives.image this.of_version this.receives.next) ∙ c.if-not-is_wanted.false in
    let inside = in_slot c.what_is_after_the_commits_does_not_count.ensures.same a.image b.image v.volume s x.job r this.receives is.mounted c.put.ensures.touches (λ h o. c.put.ensures.kept h o) in
    let known : q < packets = omega (arith, c.requires.in_page) in
    let missing = c.is_wanted.ensures.missing c.if-not-is_wanted.false in
    let count : c.count.result ≡ set.len new.got = c.count.ensures.value ∙ ap set.len c.got.ensures.value in
    let more : packets ≤ set.len new.got = omega (arith, count, c.from.ensures, c.if-from-lt-PACKETS.false) in
    let made = made_whole a b v m s r x.version x.server c.args.now q x.asking new x.job c.put.new.self bytes known is this inside missing c.accept.ensures.after c.put.ensures.same_slot (λ h ps j. c.in_ok-put-in-Receive.ensures.put h ps j) more in
    let h = this.receives.kept in
    let ps = put_packet r.packets q bytes in
    let page = page_from ps in
    let full = takes m r s c.args.now c.args.word q bytes in
    let ends = page_ends m r h s c.args.now c.args.word page in
    let turn = chosen (is_wanted r n.image n.version n.page q) full (dropped m s) e ∙ takes_whole m r h s c.args.now c.args.word q bytes made.held_here made.all in
    let ran = subst (λ (k : ℕ). Ran k a b) (sym (operations-resting s 1)) c.in_ok-put-in-Receive.ensures.ran in
    let same = last-resting s 1 ∙ sym (ends_begin m r h s c.args.now c.args.word page).first in
    subst (λ (k : Mode). Done (on_packet k m s c.args.now c.args.word (page_packet n.image n.version n.page q bytes)) a d c.end_page.new.self answer) (sym mode)
    (subst (λ (t : MoteStep Heard). Done t a d c.end_page.new.self answer) (sym turn)
    (done_behind (resting s 1) ends a b d c.end_page.new.self answer same ran (done m s r h ps made.whole))))

pub returns-else-from-lt-PACKETS-clause-stopped : goal.returns-else-from-lt-PACKETS-clause-stopped
returns-else-from-lt-PACKETS-clause-stopped g c = on_err c.end_page.result c.end_page.ensures.stopped (λ stopped m s is.
    let x = c.in-Receive in
    let a = g.N.Nor.device c.args.nor.now in
    let b = g.N.Nor.device c.put.new.nor in
    let d = g.N.Nor.device c.end_page.new.nor in
    let v = c.args.self.now in
    let n = c.args.name in
    let here = receives_here a.image v m s x.version x.server x.asking x.job is x.is in
    let r = here.r in
    let mode = here.is in
    let q = c.args.packet in
    let bytes = c.args.bytes.now in
    let new = c.accept.new.self in
    let this = asks_this a.image v m s r x.version x.server x.asking x.job is mode x.is in
    let e = sym (c.is_wanted.ensures.value a.image this.receives.kept r this.receives.stands this.receives.image this.of_version this.receives.next) ∙ c.if-not-is_wanted.false in
    let inside = in_slot c.what_is_after_the_commits_does_not_count.ensures.same a.image b.image v.volume s x.job r this.receives is.mounted c.put.ensures.touches (λ h o. c.put.ensures.kept h o) in
    let known : q < packets = omega (arith, c.requires.in_page) in
    let missing = c.is_wanted.ensures.missing c.if-not-is_wanted.false in
    let count : c.count.result ≡ set.len new.got = c.count.ensures.value ∙ ap set.len c.got.ensures.value in
    let more : packets ≤ set.len new.got = omega (arith, count, c.from.ensures, c.if-from-lt-PACKETS.false) in
    let made = made_whole a b v m s r x.version x.server c.args.now q x.asking new x.job c.put.new.self bytes known is this inside missing c.accept.ensures.after c.put.ensures.same_slot (λ h ps j. c.in_ok-put-in-Receive.ensures.put h ps j) more in
    let h = this.receives.kept in
    let ps = put_packet r.packets q bytes in
    let page = page_from ps in
    let full = takes m r s c.args.now c.args.word q bytes in
    let ends = page_ends m r h s c.args.now c.args.word page in
    let turn = chosen (is_wanted r n.image n.version n.page q) full (dropped m s) e ∙ takes_whole m r h s c.args.now c.args.word q bytes made.held_here made.all in
    let ran = subst (λ (k : ℕ). Ran k a b) (sym (operations-resting s 1)) c.in_ok-put-in-Receive.ensures.ran in
    let same = last-resting s 1 ∙ sym (ends_begin m r h s c.args.now c.args.word page).first in
    subst (λ (k : Mode). Stops (on_packet k m s c.args.now c.args.word (page_packet n.image n.version n.page q bytes)).trail a d) (sym mode)
    (subst (λ (t : MoteStep Heard). Stops t.trail a d) (sym turn)
    (stops_behind (resting s 1) ends a b d same ran (stopped m s r h ps made.whole))))

pub returns-else-from-lt-PACKETS-clause-unchanged : goal.returns-else-from-lt-PACKETS-clause-unchanged
returns-else-from-lt-PACKETS-clause-unchanged g c = not_dropped ((g.N.Nor.device c.end_page.new.nor ≡ g.N.Nor.device c.args.nor.now) × (c.end_page.new.self ≡ c.args.self.now)) c.end_page.result c.end_page.ensures.not_dropped
