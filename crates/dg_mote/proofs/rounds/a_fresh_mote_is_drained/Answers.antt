use Rattle.std.proofs.Common.{◌≤◌, sym, subst, arith}
use Rattle.dg_volume.specs.Store.{Store, fresh}
use Rattle.dg_mote.specs.Drained.{spare_room}
use Rattle.dg_mote.specs.Completing.{fresh_spot}
use Rattle.dg_mote.proofs.RoundFresh.{fresh_well, fresh_drained}
use Rattle.dg_mote.proofs.rounds.a_fresh_mote_is_drained.Goals as goal

pub returns-clause-well : goal.returns-clause-well
returns-clause-well c table name bytes used id now word wide in_table = c.a_mote_stays_well.ensures.begins table (fresh name bytes used) id now word wide (fresh_well table name bytes used in_table)

pub returns-clause-drained : goal.returns-clause-drained
returns-clause-drained c name bytes used id now word wide = fresh_drained name bytes used id wide now word

pub returns-clause-room : goal.returns-clause-room
returns-clause-room c table name bytes used id now word n wide in_table room =
    let rest = c.a_drained_mote_rests.ensures table (fresh_spot name bytes used id wide now word) now n (returns-clause-well c table name bytes used id now word wide in_table) (fresh_drained name bytes used id wide now word) in
    subst (λ (s : Store). spare_room ≤ s.room) (sym rest.store) (omega (arith, room))
