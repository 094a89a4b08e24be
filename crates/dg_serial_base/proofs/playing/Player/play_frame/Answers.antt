use Rattle.std.proofs.Common.{◌∷◌, [], ◌++◌, append_assoc}
use Rattle.dg_serial_base.specs.BaseEvents.{Hears, Ticks}
use Rattle.dg_serial_base.proofs.LineLemmas.{goes_along, hear_goes, hear_halts}
use Rattle.dg_serial_base.proofs.PlayLemmas.{write_calm, read_calm}
use Rattle.dg_serial_base.proofs.ResultLemmas.{counts_after}
use Rattle.dg_serial_base.proofs.playing.Player.play_frame.Goals as goal

pub returns-in-Ok-clause-ends : goal.returns-in-Ok-clause-ends
returns-in-Ok-clause-ends g c = λ a done went.
    let bytes = c.args.bytes.now in
    goes_along c.pass.result a ((done ++ Hears bytes ∷ []) ++ Ticks ∷ []) (done ++ Hears bytes ∷ Ticks ∷ []) _ (append_assoc done (Hears bytes ∷ []) (Ticks ∷ []))
    (c.pass.ensures.ends a (done ++ Hears bytes ∷ [])
    (hear_goes a done bytes _ c.hear.new.self _ went (c.in-Ok.ensures.ends a.base a.store done went.there went.stood)))

pub returns-in-Ok-clause-counts : goal.returns-in-Ok-clause-counts
returns-in-Ok-clause-counts g c = counts_after c.pass.result _ _ _ c.in-Ok.ensures.counts c.pass.ensures.counts

pub returns-in-Err-clause-ends : goal.returns-in-Err-clause-ends
returns-in-Err-clause-ends g c = λ a done went.
    hear_halts c.in-Err.end a done c.args.bytes.now _ _ went (c.in-Err.ensures.ends a.base a.store done went.there went.stood)

pub returns-in-Err-clause-writes : goal.returns-in-Err-clause-writes
returns-in-Err-clause-writes g c = let r = c.requires.stood in write_calm c.in-Err.end r.0 r.1 r.2 _ r.3 _ _ (c.in-Err.ensures.ends r.0 r.1 r.2 r.3 r.4)

pub returns-in-Err-clause-reads : goal.returns-in-Err-clause-reads
returns-in-Err-clause-reads g c = λ n. let r = c.requires.stood in read_calm c.in-Err.end r.0 r.1 r.2 _ r.3 _ n (c.in-Err.ensures.ends r.0 r.1 r.2 r.3 r.4)
