-- How a step that leaves its chip unchanged shows in the code (the type `Mote` of this crate).
use Rattle.std.specs.Prelude.{◌≡◌, IfSome, option_map}
use Rattle.dg_nor.specs.Trail.{resting}
use Rattle.dg_volume.specs.Store.{Store}
use Rattle.dg_frame.specs.Spelling.{frame_of}
use Rattle.dg_mote.specs.Model.{MoteState, Mode, MoteStep}
use Rattle.dg_mote.specs.Motes.{sent_in, IsRead}
use Rattle.dg_mote.specs.declared.mote.Did.{Did}
use Rattle.dg_mote.specs.declared.outbox.Outbox.{Outbox}

-- it ends in this mode, with this outbox and this answer
pub record EndsInMode (turn : MoteStep Did) (m : MoteState) (s : Store) (mode : Mode) (out : Outbox) (did : Did) : Type 0 where
  pub mote : turn.mote ≡ record m { mode = mode }
  pub trail : turn.trail ≡ resting s 0
  pub sent : sent_in out ≡ option_map frame_of turn.sent
  pub read : IfSome turn.sent (IsRead m.wide)
  pub answer : did ≡ turn.answer
