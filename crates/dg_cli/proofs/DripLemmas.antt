-- A replay of nodes never ends by a fault of the link.
use Rattle.std.proofs.Common.{◌≡◌, ◌≢◌, ℕ, List, length, Ok, Err, sym, ◌∙◌}
use Rattle.dg_words.specs.Counts.{Rose}
use Rattle.dg_base.specs.Outside.{AtEnd}
use Rattle.dg_base.specs.declared.answers.Status.{Status}
use Rattle.dg_base.specs.declared.answers.Status.TheVariants as statuses
use Rattle.dg_outside.specs.Outside.{Outside}
use Rattle.dg_end.specs.Lines.{Outcome}
use Rattle.dg_end.specs.declared.ends.End.TheVariants as ends
use Rattle.dg_end.proofs.AnswerLemmas.{answered_status, link_came}
use Rattle.dg_drip_script.specs.Scripts.{DripScript}
use Rattle.dg_drip_run.specs.Dripped.{DripEndsBy, Dripped}

no_link_why : (o : Outcome) (s : DripScript) (lines passed : ℕ) (ahead : List ℕ) (at_end r : Type 0) → DripEndsBy o s lines passed ahead at_end r → o ≢ Err ends.LinkFault
no_link_why (Err ends.LinkFault) s lines passed ahead at_end r h is = h
no_link_why (Ok text) s lines passed ahead at_end r h is = cc
no_link_why (Err end) s lines passed ahead at_end r h is = cc

pub no_link_of_nodes : (status : Status) (a b : Outside) → Dripped status a b → status ≢ statuses.LinkFault
no_link_of_nodes status a b d is =
    let came = answered_status status d.outcome d.between b.output d.answered (λ w. let x : statuses.LinkFault ≡ statuses.WriteFault = sym is ∙ w in cc) (λ m. let x : statuses.LinkFault ≡ statuses.Memory = sym is ∙ m in cc) in
    no_link_why d.outcome d.came.script (length d.came.texts) (length d.came.given) d.came.ahead (AtEnd b.input.left) (Rose a.input.reads b.input.reads) d.came.why (link_came d.outcome (sym is ∙ came))
