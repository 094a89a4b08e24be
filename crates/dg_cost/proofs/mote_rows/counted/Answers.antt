use Rattle.std.proofs.Common.{ℕ, List, Option, subst, sym, ap, ◌∙◌}
use Rattle.std.specs.Prelude.{slice_index_or}
use Rattle.dg_cost_text.specs.Table.{table_of_rows}
use Rattle.dg_cost_text.specs.declared.rows.Rows.{Rows}
use Rattle.dg_count.specs.Ended.{all_until}
use Rattle.dg_count.specs.declared.place.EventPlace.{EventPlace}
use Rattle.dg_events.specs.Uptimes.{never_on}
use Rattle.dg_events.specs.declared.uptime.Uptimes.{Uptimes}
use Rattle.dg_cost.specs.Counting.{IsCountWith}
use Rattle.dg_cost.specs.EventRows.{HasRows}
use Rattle.dg_cost.specs.MomentRows.{SumsNoMoment}
use Rattle.dg_cost.specs.TimeRows.{rows_of_power, rows_of_moment}
use Rattle.dg_cost.proofs.mote_rows.counted.Goals as goal

pub returns : goal.returns
returns c =
    let motes = c.in_ok-motes.ensures in
    let counter = c.args.counter.now in
    let ended : Option EventPlace = c.ended_event-ended.result in
    let unsummed : SumsNoMoment c.in_ok-motes.motes.items = λ m rows there. (motes.moments m rows there).unsummed in
    let all : List (List ℕ × ℕ) = table_of_rows c.in_ok-all.all in
    subst (λ (e : Option EventPlace). IsCountWith counter e (record { motes = c.in_ok-motes.motes; all = c.in_ok-all.all; scheduled = counter.costs.scheduled }))
    c.ended_event-ended.ensures
    (record {
      motes = motes.length;
      fits = c.times_until-times.ensures.fits;
      last = subst (λ (rows : List (List ℕ × ℕ)). HasRows rows all)
          (ap (λ (n : ℕ). rows_of_moment n c.last.result.ms) c.last.ensures.events
          ∙ ap (λ (n : ℕ). rows_of_moment (all_until ended counter.events.all) n) c.last.ensures.ms) c.in_ok-all.ensures.last;
      power = λ m rows there. subst (λ (t : Uptimes). HasRows (rows_of_power (slice_index_or t.motes m never_on) t.ms) (table_of_rows rows))
          c.times_until-times.ensures.times (motes.power m rows there);
      each = motes.each;
      frames = motes.frames;
      flash = motes.flash;
      wholes = λ m rows there. (motes.moments m rows there).has;
      all_kept = c.in_ok-all.ensures.moments (subst (λ (xs : List Rows). SumsNoMoment xs) (sym c.deref.ensures.value) unsummed);
    })
