use Rattle.std.proofs.Common.{length, map, sym, ap, ◌∙◌, not, arith}
use Rattle.dg_meter.specs.Meters.{metered_device}
use Rattle.dg_count.proofs.ChipLemmas.{have_placed}
use Rattle.dg_count.proofs.RunLemmas.{seen_placed}
use Rattle.dg_count.proofs.watching.CounterWatcherMetered.placed.Goals as goal

pub returns : goal.returns
returns g c = record {
  seen = λ initial before stores is seen.
      let both = seen_placed stores is c.place.ensures.places (λ formatted. c.is_none.ensures ∙ ap not (sym c.place.ensures.mounted ∙ formatted))
      (λ mounted. c.is_none.ensures ∙ ap not (sym c.place.ensures.mounted ∙ mounted)) (seen.0, seen.1) in (
        both.0,
        both.1,
        have_placed (record { motes = c.args.motes; formatted = c.tallies_of-self.result; ended = c.args.self.now.ended }) (length stores) (map (metered_device g.N.Nor.device) c.args.boards.now) seen.2.0 (omega (arith, is.stand.count, is.few)) c.tallies_of-self.ensures,
      );
}
