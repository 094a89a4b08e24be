use Rattle.std.proofs.Common.{sym, subst}
use Rattle.dg_trickle.specs.Steps.{started}
use Rattle.dg_mote.specs.Model.{Maintain}
use Rattle.dg_mote.specs.Motes.{ModeStands}
use Rattle.dg_mote.specs.declared.mote.Mode.{Mode as ModeValue}
use Rattle.dg_mote.proofs.ModeLemmas.{job_given_up}
use Rattle.dg_mote.proofs.mote.Mote.maintain_anew.Goals as goal

pub returns-in-Receive : goal.returns-in-Receive
returns-in-Receive c d m s h =
    let w = c.put_back.new.self in
    let arm = c.in-Receive in
    let freed = job_given_up d c.args.self.now.volume w s arm.version arm.server arm.asking arm.job c.drop_job.result c.args.self.now.mode m.mode (sym arm.ensures.value) c.drop_job.ensures
    (record { mounted = c.put_back.ensures.mounted; back = c.put_back.ensures.back; others = c.put_back.ensures.others }) h.mode h.mounted in
    record {
      id = h.id;
      since = h.since;
      wide = h.wide;
      noted = h.noted;
      mounted = freed.mounted;
      mode = subst (λ (x : ModeValue). ModeStands d w s x (Maintain (started c.args.now c.args.word))) (sym c.replace.ensures.after) (c.new.ensures.value, freed.free);
      known = tt;
    }
