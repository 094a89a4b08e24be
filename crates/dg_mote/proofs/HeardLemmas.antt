-- Honest frames that are heard over agreeing stores.
use Rattle.std.proofs.Common.{◌≡◌, ℕ, ◌-◌, ◌≤◌, true, Bool, false, List, length, None, Result, Ok, Err, refl, subst, arith}
use Rattle.std.specs.Prelude.{◌==◌, All}
use Rattle.std.proofs.lemmas.Bool.{cond_both}
use Rattle.dg_object.specs.Object.{Row}
use Rattle.dg_volume.specs.Store.{Store}
use Rattle.dg_volume.specs.Table.{IsTable}
use Rattle.dg_frame.specs.Grammar.{in_range, message_of}
use Rattle.dg_frame.specs.Ranges.{IsInRange, EntryInRange}
use Rattle.dg_frame.proofs.ReadingLemmas.{wider}
use Rattle.dg_frame.specs.declared.Entry.{Entry}
use Rattle.dg_frame.specs.declared.Message.{Message}
use Rattle.dg_frame.specs.declared.Message.TheVariants.{Advert, Request, Packet, Wide}
use Rattle.dg_frame.specs.declared.FrameFault.{FrameFault}
use Rattle.dg_mote.specs.Model.{MoteState}
use Rattle.dg_mote.specs.Summary.{entry_for, no_entry}
use Rattle.dg_mote.specs.Agreement.{ModeAgrees, HonestMessage, IsHonest}
use Rattle.dg_mote.specs.Hears.{source_of, on_message, by_message, heard_of}
use Rattle.dg_mote.specs.Well.{StoreIsWell}
use Rattle.dg_mote.proofs.ReadLemmas.{IsWellRead, HasShape, well_read}
use Rattle.dg_mote.proofs.KeepLemmas.{Keeps, rests}
use Rattle.dg_mote.proofs.AdvertLemmas.{TakeLaws, advert_keeps}
use Rattle.dg_mote.proofs.RequestLemmas.{request_keeps}
use Rattle.dg_mote.proofs.PacketLemmas.{PageLaws, packet_keeps}

entry_in_range : (entries : List Entry) → All EntryInRange entries → (i : ℕ) → 1 ≤ i → i ≤ length entries → EntryInRange (entry_for entries i)
entry_in_range entries all i low high = all (i - 1) no_entry (omega (arith, low, high))

-- what is read by a mote is honest, as what is read by a wide one is
pub honest_read : (table : List Row) (wide : Bool) (bytes : List ℕ) (r : Result Message FrameFault) → message_of bytes wide ≡ r → IsHonest table bytes → HonestMessage table r
honest_read table wide bytes (Err fault) is honest = tt
honest_read table true bytes (Ok m) is honest = subst (HonestMessage table) is honest
honest_read table false bytes (Ok m) is honest = subst (HonestMessage table) (wider bytes m is) honest

module _ (table : List Row) (is_table : IsTable table) (takes : TakeLaws table) (pages : PageLaws table) (ranges : (wide : Bool) (m : Message) → in_range wide m ≡ true → IsInRange wide m) (s : Store) (well : StoreIsWell table s) (now word : ℕ) where
  message_keeps : (message : Message) (m : MoteState) → ModeAgrees table s m.mode → IsInRange m.wide message → HasShape message → HonestMessage table (Ok message) → Keeps (StoreIsWell table) table (on_message m s now word message)
  message_keeps (Advert source entries order) m own fits shape honest =
      advert_keeps table takes now word source entries (omega (arith, shape)) (entry_in_range entries fits.0) honest m.mode m s order well own
  message_keeps (Request source to image version page want) m own fits shape honest = request_keeps (StoreIsWell table) table s well now m to image version page want fits.0 fits.1 own
  message_keeps (Packet source image version page q bytes) m own fits shape honest = packet_keeps table is_table pages s well now word m.mode m source image version page q bytes honest own own
  message_keeps (Wide source entries order) m own fits shape honest =
      advert_keeps table takes now word source entries (omega (arith, shape)) (entry_in_range entries fits.1.0) honest m.mode m s order well own

  frame_keeps : (r : Result Message FrameFault) (m : MoteState) → ModeAgrees table s m.mode → IsWellRead m.wide r → HonestMessage table r → Keeps (StoreIsWell table) table (by_message r m s now word)
  frame_keeps (Err fault) m own read honest = rests (StoreIsWell table) table m s 0 None _ well own tt
  frame_keeps (Ok message) m own read honest =
      cond_both (source_of message == m.id) _ _ (Keeps (StoreIsWell table) table) (λ _. rests (StoreIsWell table) table m s 0 None _ well own tt)
      (λ _. message_keeps message m own (ranges m.wide message read.0) read.1 honest)

  pub heard_keeps : (m : MoteState) (bytes : List ℕ) → ModeAgrees table s m.mode → IsHonest table bytes → Keeps (StoreIsWell table) table (heard_of m s now word bytes)
  unfolding heard_of
  heard_keeps m bytes own honest = frame_keeps (message_of bytes m.wide) m own (well_read bytes m.wide) (honest_read table m.wide bytes (message_of bytes m.wide) refl honest)
