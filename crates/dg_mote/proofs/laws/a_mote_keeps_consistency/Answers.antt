use Rattle.dg_object.specs.Object.{Row}
use Rattle.dg_mote.proofs.ConsistentLemmas.{ActLaws, tick_consistent, heard_consistent, stopped_consistent}
use Rattle.dg_mote.proofs.laws.a_mote_keeps_consistency.Goals as goal

pub returns : goal.returns
returns c =
    let keep = c.trails_keep_consistency.ensures in
    let acts : (golden : Row) → ActLaws golden = λ golden. record { order = keep.order golden; clear = keep.clear golden; take = keep.take golden; page = keep.page golden } in
    record {
      begins = λ id now word wide. tt;
      reloaded = λ m now word. tt;
      ticked = λ golden m s now word here asks. tick_consistent golden (acts golden) now word s here m asks;
      heard = λ golden m s now word bytes here asks. heard_consistent golden (acts golden) now word s here m bytes asks;
      stopped = stopped_consistent;
    }
