use Rattle.std.proofs.Common.{subst}
use Rattle.std.specs.Prelude.{Option}
use Rattle.dg_moments.specs.declared.given.Given.{Given}
use Rattle.dg_moments.specs.Wholes.{Begins, with_kept, given_kept}
use Rattle.dg_moments.proofs.TellingLemmas.{stays_through, stays_same}
use Rattle.dg_moments.proofs.BeginLemmas.{first_image, next_image, last_image}
use Rattle.dg_moments.proofs.wholes.Wholes.begin_mote.Goals as goal

pub loop-image-init : goal.loop-image-init
loop-image-init c = (
  stays_same c.args.self.now,
  λ image kept kept_on lt none h. first_image c.args.self.now c.args.motes c.args.mote image kept c.given_at-given.result none h,
)

pub loop-image-preserved : goal.loop-image-preserved
loop-image-preserved c = (
  stays_through c.args.self.now c.loop-image.self c.note_kept.new.self c.loop-image.invariant.0 c.note_kept.ensures.stays,
  λ image kept kept_on lt none h. next_image c.loop-image.self c.note_kept.new.self c.args.motes c.args.mote c.loop-image.image image kept c.given_at-given.result
      c.whole_given.result c.whole_given.ensures c.note_kept.ensures c.loop-image.auto.image c.loop-image-test.true kept_on lt none
      (c.loop-image.invariant.1 image kept (c.note_kept.ensures.stays.lost kept_on) lt none h),
)

pub returns-clause-gives : goal.returns-clause-gives
returns-clause-gives c image kept kept_on lt none h =
    subst (λ (g : Option Given). Begins c.loop-image.self c.args.motes image (with_kept kept c.args.mote (given_kept g image))) c.given_at-given.ensures
    (last_image c.loop-image.self c.args.motes c.args.mote image kept c.given_at-given.result c.loop-image.image c.loop-image-test.false
    (c.loop-image.invariant.1 image kept kept_on lt none h))
