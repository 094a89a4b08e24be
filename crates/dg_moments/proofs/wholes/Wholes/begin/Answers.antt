use Rattle.std.proofs.Common.{ap}
use Rattle.std.specs.Option.{option_flatten}
use Rattle.std.specs.Prelude.{slice_get}
use Rattle.dg_moments.proofs.TellingLemmas.{stays_through, stays_same}
use Rattle.dg_moments.proofs.BeginLemmas.{first_mote, next_mote, last_mote}
use Rattle.dg_moments.proofs.wholes.Wholes.begin.Goals as goal

pub loop-mote-init : goal.loop-mote-init
loop-mote-init c = (stays_same c.args.self.now, λ image kept_on h. first_mote c.args.self.now c.args.motes image c.args.self.now.given.items h)

pub loop-mote-preserved : goal.loop-mote-preserved
loop-mote-preserved c = (
  stays_through c.args.self.now c.loop-mote.self c.begin_mote.new.self c.loop-mote.invariant.0 c.begin_mote.ensures.stays,
  λ image kept_on h. next_mote c.loop-mote.self c.begin_mote.new.self c.args.motes c.loop-mote.mote image c.args.self.now.given.items
      (option_flatten (slice_get c.loop-mote.self.given.items c.loop-mote.mote))
      (ap (λ g. option_flatten (slice_get g.items c.loop-mote.mote)) c.loop-mote.invariant.0.given)
      c.begin_mote.ensures.gives kept_on c.loop-mote-test.true (c.loop-mote.invariant.1 image (c.begin_mote.ensures.stays.lost kept_on) h),
)

pub returns-clause-gives : goal.returns-clause-gives
returns-clause-gives c image kept_on h =
    last_mote c.loop-mote.self c.args.motes c.loop-mote.mote image c.args.self.now.given.items c.loop-mote-test.false
    (c.loop-mote.invariant.1 image kept_on h)
