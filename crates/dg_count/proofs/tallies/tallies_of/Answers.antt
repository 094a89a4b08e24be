use Rattle.std.proofs.Common.{◌∙◌, length, map, refl, sym, ap, arith}
use Rattle.std.proofs.lemmas.List.{length-set}
use Rattle.std.proofs.lemmas.Option.{slice_get_read}
use Rattle.std.specs.Prelude.{Some}
use Rattle.dg_meter.specs.Meters.{metered_device}
use Rattle.dg_meter.specs.Tallies.{counts_of}
use Rattle.dg_meter.specs.declared.tally.Tally.{Tally}
use Rattle.dg_count.proofs.TallyLemmas.{tally_more, tally_all, board_made}
use Rattle.dg_count.proofs.tallies.tallies_of.Goals as goal

pub loop-index-preserved : goal.loop-index-preserved
loop-index-preserved g c = (
  length-set c.loop-index.tallies c.loop-index.index c.tally.result.now ∙ c.loop-index.invariant.0,
  tally_more c.loop-index.tallies (map (metered_device g.N.Nor.device) c.args.boards.now) c.loop-index.index c.tally.result.now
      (omega (arith, c.loop-index-test.true, c.min-index-end.ensures, c.loop-index.invariant.0))
      (board_made (metered_device g.N.Nor.device) c.args.boards.now c.loop-index.index c.index-boards-index.result (counts_of c.tally.result.now)
      (slice_get_read c.args.boards.now (length c.args.boards.now) c.loop-index.index c.index-boards-index.result refl (omega (arith, c.loop-index-test.true, c.min-index-end.ensures)) c.index-boards-index.is)
      (ap (λ (t : Tally). Some (counts_of t)) (sym c.tally.ensures))) c.loop-index.invariant.1,
)

pub returns : goal.returns
returns g c m b few there =
    c.loop-index.invariant.1 m b
    (tally_all (metered_device g.N.Nor.device) c.args.boards.now c.loop-index.index m b (omega (arith, c.loop-index-test.false, c.min-index-end.ensures)) few there) there
