use Rattle.std.proofs.Common.{ℕ, Bool, true, false, List, Option, Some, None, IfSome, refl, sym, subst}
use Rattle.dg_nor.proofs.ThroughLemmas.{Leaves-through}
use Rattle.dg_object.specs.Object.{Row}
use Rattle.dg_volume.specs.Store.{Store, IsNear}
use Rattle.dg_frame.specs.Spelling.{frame_of}
use Rattle.dg_frame.specs.declared.Message.{Message}
use Rattle.dg_frame.proofs.ReadingLemmas.{wider}
use Rattle.dg_mote.specs.Agreement.{HonestMessage, IsHonest}
use Rattle.dg_mote.specs.Well.{SendsHonest}
use Rattle.dg_mote.specs.Speaking.{IsSaid}
use Rattle.dg_mote.proofs.SpeakLemmas.{TellsOrder, turn_speaks, tick_says, heard_says, reset_speaks, tick_effect_speaks, frame_effect_speaks}
use Rattle.dg_mote.proofs.SaidLemmas.{SpellLaws, tick_said}
use Rattle.dg_mote.proofs.laws.what_is_sent_is_read.Goals as goal

pub returns-clause-said : goal.returns-clause-said
returns-clause-said c table m s now word is_table w speaks =
    let rows = c.a_row_is_its_pages.ensures in
    let laws : SpellLaws =
    record {
      rows = record { image_version = c.a_table_holds_sound_rows.ensures.image_version; row = c.a_table_holds_sound_rows.ensures.row };
      some = rows.some;
      most = rows.most;
      count = rows.count;
      page = rows.page;
      long = rows.long;
      bytes = rows.bytes;
      first = c.a_row_has_a_descriptor.ensures.first;
      crc = c.checksum_is_a_remainder.ensures.degree;
      ranges = λ wide message. (c.one_reading.ensures.ranges wide message).1;
      written = c.one_spelling.ensures.written;
    } in
    tick_said laws table is_table s w.store m.id speaks.id m.wide m now word refl refl speaks.order w.mode w.timely.mode (speaks.server, speaks.known)

-- an honest message that is read back unchanged makes an honest frame
honest_frames : (table : List Row) (id : ℕ) (wide : Bool) (sent : Option Message) → SendsHonest table sent → IfSome sent (IsSaid id wide) → IfSome sent (λ message. IsHonest table (frame_of message))
honest_frames table id wide None honest said = tt
honest_frames table id true (Some message) honest said = subst (HonestMessage table) (sym said.is_read) honest
honest_frames table id false (Some message) honest said = subst (HonestMessage table) (sym (wider (frame_of message) message said.is_read)) honest

pub returns-clause-honest : goal.returns-clause-honest
returns-clause-honest c table m s now word is_table w speaks =
    honest_frames table m.id m.wide _ (c.a_mote_keeps_agreement.ensures.honest table m s now word w.store.agrees w.mode) (returns-clause-said c table m s now word is_table w speaks)

pub returns-clause-begins : goal.returns-clause-begins
returns-clause-begins c s id now word wide small fits = record { id = small; server = tt; known = tt; order = fits }

pub returns-clause-ticked : goal.returns-clause-ticked
returns-clause-ticked c m s now word speaks = turn_speaks m _ speaks.id (tick_says m s now word speaks.order (speaks.server, speaks.known))

pub returns-clause-heard : goal.returns-clause-heard
returns-clause-heard c m s now word bytes fits speaks =
    turn_speaks m _ speaks.id (heard_says (λ wide message. (c.one_reading.ensures.ranges wide message).0) m s now word bytes fits speaks.order (speaks.server, speaks.known))

pub returns-clause-tick_effect : goal.returns-clause-tick_effect
returns-clause-tick_effect c m s now word speaks = tick_effect_speaks c.a_start_ends.ensures c.trails_begin.ensures.boot m s now word (returns-clause-ticked c m s now word speaks)

pub returns-clause-frame_effect : goal.returns-clause-frame_effect
returns-clause-frame_effect c m s now word bytes fits speaks = frame_effect_speaks m s now word bytes (returns-clause-heard c m s now word bytes fits speaks)

pub returns-clause-reset_effect : goal.returns-clause-reset_effect
returns-clause-reset_effect c s id now word wide small fits = reset_speaks c.a_start_ends.ensures s id wide now word small fits

near_tells : (a s : Store) → TellsOrder a → IsNear a s → TellsOrder s
near_tells a s o near = let like : TellsOrder (record a { room = s.room }) = o in subst TellsOrder (sym near.same) like

pub returns-clause-stopped : goal.returns-clause-stopped
returns-clause-stopped c t k s way left = Leaves-through IsNear TellsOrder near_tells t k s way left
