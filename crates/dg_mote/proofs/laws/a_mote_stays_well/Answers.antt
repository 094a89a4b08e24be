use Rattle.std.proofs.Common.{List}
use Rattle.dg_object.specs.Object.{Row}
use Rattle.dg_volume.specs.Table.{IsTable}
use Rattle.dg_mote.proofs.TimelyLemmas.{timely_begins, timely_later, timely_maintains}
use Rattle.dg_mote.proofs.WellLemmas.{StartLaws, ticks_well, hears_well, stopped_well, reset_well, tick_effect_well, frame_effect_well}
use Rattle.dg_mote.proofs.laws.a_mote_stays_well.Goals as goal

pub returns : goal.returns
returns c =
    let keep = c.trails_keep_agreement.ensures in
    let heard = c.a_mote_keeps_agreement.ensures.heard in
    let ends = c.starts_end.ensures in
    let starts : (table : List Row) → IsTable table → StartLaws table = λ table is_table.
    record {
      way = keep.boot table;
      ends = c.a_start_ends.ensures;
      begins = c.trails_begin.ensures.boot;
      boots =
          record {
            count = ends.count;
            counted = ends.counted;
            gesture = ends.by_gesture;
            order = ends.order;
            kept = ends.kept;
            blank = ends.blank;
            copied = ends.golden_copied;
            stays = ends.golden_stays;
            rows_sound = c.a_table_holds_sound_rows.ensures.sound table is_table;
            pages = c.a_row_is_its_pages.ensures.count;
          };
    } in
    record {
      begins = λ table s id now word wide w. record { store = w; mode = tt; timely = timely_begins id now word wide };
      later = λ table m s now then h w. record { store = w.store; mode = w.mode; timely = timely_later m now then h w.timely };
      reloaded = λ table m s now word timely w. record { store = w; mode = tt; timely = timely_maintains m now word timely };
      ticked = λ table m s now word w. ticks_well table (keep.clear table) m s now word w;
      heard = λ table m s now word bytes is_table honest w. hears_well table m s now word bytes (heard table m s now word bytes is_table honest w.store w.mode) w;
      tick_effect = λ table m s now word is_table w. tick_effect_well table (starts table is_table) m s now word (ticks_well table (keep.clear table) m s now word w);
      frame_effect = λ table m s now word bytes is_table honest w.
          frame_effect_well table m s now word bytes (hears_well table m s now word bytes (heard table m s now word bytes is_table honest w.store w.mode) w);
      reset_effect = λ table s id now word wide is_table w. reset_well table (starts table is_table) s id wide now word w;
      stopped = stopped_well;
    }
