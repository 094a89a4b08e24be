use Rattle.std.proofs.Common.{◌≡◌, ℕ, List, Result, Ok, Err, IfOk, OnErr, refl, sym, ap, subst, ◌∙◌}
use Rattle.dg_frame.specs.Grammar.{message_of}
use Rattle.dg_frame.specs.declared.Message.{Message}
use Rattle.dg_frame.specs.declared.FrameFault.{FrameFault}
use Rattle.dg_volume.specs.Store.{Store}
use Rattle.dg_volume.specs.Acts.{Stops}
use Rattle.dg_mote.specs.Model.{MoteState, MoteStep}
use Rattle.dg_mote.specs.Hears.{by_message, heard_of}
use Rattle.dg_mote.specs.Motes.{IsMote, Done}
use Rattle.dg_mote.specs.declared.mote.Heard.{Heard}
use Rattle.dg_mote.specs.declared.mote.Heard.TheVariants as heard
use Rattle.dg_mote.proofs.ServeLemmas.{rests_done}
use Rattle.dg_mote.proofs.mote.Mote.hear.Goals as goal

heard_is : (m : MoteState) (s : Store) (now word : ℕ) (bytes : List ℕ) (r : Result Message FrameFault) → r ≡ message_of bytes m.wide → by_message r m s now word ≡ heard_of m s now word bytes
unfolding heard_of
heard_is m s now word bytes r e = ap (λ (x : Result Message FrameFault). by_message x m s now word) e

pub hear_sent-requires-clause-range : goal.hear_sent-requires-clause-range
hear_sent-requires-clause-range g c =
    let law = c.one_reading.ensures in
    let wide = c.args.self.now.wide in
    let message = c.in-Ok.message in
    let in_its = ((law.reading c.args.bytes.now wide (Ok message)).0 (sym c.read.ensures.value ∙ c.in-Ok.is)) in
    law.wider_range wide message ((law.ranges wide message).1 in_its.5)

pub returns-in-Err-clause-done : goal.returns-in-Err-clause-done
returns-in-Err-clause-done g c m s is =
    let a = g.N.Nor.device c.args.nor.now in
    let v = c.args.self.now in
    let fault = c.in-Err.fault in
    subst (λ (t : MoteStep Heard). Done t a a v (heard.Refused fault))
    (heard_is m s c.args.now c.args.word c.args.bytes.now (Err fault) (sym c.in-Err.is ∙ c.read.ensures.value ∙ ap (message_of c.args.bytes.now) is.wide))
    (rests_done (by_message (Err fault) m s c.args.now c.args.word) a s v (heard.Refused fault) (record { trail = refl; mote = is; answers = refl }))

pub returns-in-Ok-clause-done : goal.returns-in-Ok-clause-done
returns-in-Ok-clause-done g c =
    let x = c.hear_sent in
    let a = g.N.Nor.device c.args.nor.now in
    let b = g.N.Nor.device x.new.nor in
    subst (λ bytes. IfOk x.result (λ heard. (m : MoteState) (s : Store) → IsMote a.image c.args.self.now m s → Done (heard_of m s c.args.now c.args.word bytes) a b x.new.self heard))
    (sym c.in-Ok.ensures.spelled) x.ensures.done

pub returns-in-Ok-clause-stopped : goal.returns-in-Ok-clause-stopped
returns-in-Ok-clause-stopped g c =
    let x = c.hear_sent in
    let a = g.N.Nor.device c.args.nor.now in
    let b = g.N.Nor.device x.new.nor in
    subst (λ bytes. OnErr x.result ((m : MoteState) (s : Store) → IsMote a.image c.args.self.now m s → Stops (heard_of m s c.args.now c.args.word bytes).trail a b))
    (sym c.in-Ok.ensures.spelled) x.ensures.stopped
