use Rattle.std.proofs.Common.{◌≡◌, ◌≢◌, ℕ, true, false, List, Result, Ok, Err, refl, sym, ap, subst, ◌∙◌, arith}
use Rattle.std.specs.Prelude.{◌==◌}
use Rattle.std.proofs.lemmas.Bool.Decides.{nat_tests}
use Rattle.dg_frame.specs.Grammar.{message_of}
use Rattle.dg_frame.specs.Spelling.{frame_of}
use Rattle.dg_frame.specs.declared.Message.{Message}
use Rattle.dg_frame.specs.declared.FrameFault.{FrameFault}
use Rattle.dg_volume.specs.Store.{Store}
use Rattle.dg_mote.specs.Model.{MoteState, MoteStep}
use Rattle.dg_mote.specs.Adverts.{dropped}
use Rattle.dg_mote.specs.Hears.{source_of, on_message, by_message, heard_of}
use Rattle.dg_mote.specs.Hearing.{ChipStays}
use Rattle.dg_mote.specs.declared.mote.Heard.{Heard}
use Rattle.dg_mote.specs.declared.mote.Heard.TheVariants as heard
use Rattle.dg_mote.proofs.MessageLemmas.{if_none_by}
use Rattle.dg_mote.proofs.ServeLemmas.{chosen, passed, rests_dropped}
use Rattle.dg_mote.proofs.mote.Mote.unheard.Goals as goal

heard_is : (m : MoteState) (s : Store) (now word : ℕ) (bytes : List ℕ) (r : Result Message FrameFault) → r ≡ message_of bytes m.wide → by_message r m s now word ≡ heard_of m s now word bytes
unfolding heard_of
heard_is m s now word bytes r e = ap (λ (x : Result Message FrameFault). by_message x m s now word) e

own_source : (x y z w : ℕ) → x ≡ y → z ≡ w → x ≡ z → (y == w) ≡ true
own_source x y z w e f same = grind (arith, nat_tests)

other_source : (x y z w : ℕ) → x ≡ y → z ≡ w → x ≢ z → (y == w) ≡ false
other_source x y z w e f other = grind (arith, nat_tests)

pub returns-in-Some-clause-unheard : goal.returns-in-Some-clause-unheard
returns-in-Some-clause-unheard c cells m s now word is =
    let bytes = frame_of c.args.message.now in
    subst (λ (t : MoteStep Heard). ChipStays t cells s c.args.self.now (heard.Refused c.in-Some.fault))
    (heard_is m s now word bytes (Err c.in-Some.fault) (sym c.in-Some.ensures.refused ∙ ap (message_of bytes) is.wide))
    (record { trail = refl; mote = is; answers = refl })

pub returns-then-source-self-clause-unheard : goal.returns-then-source-self-clause-unheard
returns-then-source-self-clause-unheard c cells m s now word is =
    let bytes = frame_of c.args.message.now in
    let e = own_source _ (source_of c.args.message.now) _ m.id c.source.ensures is.id c.if-source-self.true in
    subst (λ (t : MoteStep Heard). ChipStays t cells s c.args.self.now heard.Dropped)
    (sym (chosen (source_of c.args.message.now == m.id) (dropped m s) (on_message m s now word c.args.message.now) e)
    ∙ heard_is m s now word bytes (Ok c.args.message.now) (sym (if_none_by c.refusal.result _ c.in_default.not-Some c.refusal.ensures.read) ∙ ap (message_of bytes) is.wide))
    (rests_dropped cells c.args.self.now m s is)

pub returns-clause-heard : goal.returns-clause-heard
returns-clause-heard c m s now word id wide =
    let bytes = frame_of c.args.message.now in
    let e = other_source _ (source_of c.args.message.now) _ m.id c.source.ensures (sym id) c.if-source-self.false in
    sym (heard_is m s now word bytes (Ok c.args.message.now) (sym (if_none_by c.refusal.result _ c.in_default.not-Some c.refusal.ensures.read) ∙ ap (message_of bytes) (sym wide)))
    ∙ passed (source_of c.args.message.now == m.id) (dropped m s) (on_message m s now word c.args.message.now) e

pub returns-clause-range : goal.returns-clause-range
returns-clause-range c = if_none_by c.refusal.result _ c.in_default.not-Some c.refusal.ensures.range
