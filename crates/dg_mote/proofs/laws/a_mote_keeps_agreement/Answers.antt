use Rattle.std.proofs.Common.{List, length, ap, ◌∙◌}
use Rattle.dg_object.specs.Object.{Row}
use Rattle.dg_volume.specs.Agreement.{Agrees}
use Rattle.dg_mote.proofs.RowLemmas.{TableLaws}
use Rattle.dg_mote.proofs.WellStores.{order_well, take_well, paged_well}
use Rattle.dg_mote.proofs.TickLemmas.{tick_keeps}
use Rattle.dg_mote.proofs.AdvertLemmas.{TakeLaws}
use Rattle.dg_mote.proofs.PacketLemmas.{PageLaws}
use Rattle.dg_mote.proofs.HeardLemmas.{heard_keeps}
use Rattle.dg_mote.proofs.SealLemmas.{heard_fine}
use Rattle.dg_mote.proofs.laws.a_mote_keeps_agreement.Goals as goal

pub returns : goal.returns
returns c =
    let keep = c.trails_keep_agreement.ensures in
    let begin = c.trails_begin.ensures in
    let rows = c.an_agreeing_store_keeps_rows.ensures in
    let pages = c.a_row_is_its_pages.ensures in
    let found : TableLaws = record { image_version = c.a_table_holds_sound_rows.ensures.image_version; row = c.a_table_holds_sound_rows.ensures.row } in
    let takes : (table : List Row) → TakeLaws table = λ table.
    record {
      rows = found;
      order = order_well table (keep.order table);
      take = take_well table (keep.take table);
      end = c.acts_end.ensures.take;
      order_begins = begin.order;
      clear_begins = begin.clear;
      take_begins = begin.take;
    } in
    let fills : (table : List Row) → PageLaws table = λ table.
    record {
      rows = found;
      next = paged_well table (rows.next table);
      kept = rows.pages table;
      whole = c.a_page_is_its_packets.ensures;
      count = pages.count;
      long = λ row p is less. ap length (pages.page row p less) ∙ pages.long row p is;
    } in
    record {
      begins = λ table s id now word wide. tt;
      ticked = λ table m s now word a mode. let k = tick_keeps (Agrees table) (keep.clear table) table s a a now word m mode in (k.way, k.mode);
      honest = λ table m s now word a mode. (tick_keeps (Agrees table) (keep.clear table) table s a a now word m mode).sent;
      heard = λ table m s now word bytes is_table honest w mode.
          let k = heard_keeps table is_table (takes table) (fills table) (λ wide message. (c.one_reading.ensures.ranges wide message).0) s w now word m bytes mode honest in (k.way, k.mode);
      sealed = λ table m s now word bytes is_table honest w mode. heard_fine table is_table (fills table) c.a_row_is_filled_page_by_page.ensures.next s w now word m bytes mode honest;
    }
