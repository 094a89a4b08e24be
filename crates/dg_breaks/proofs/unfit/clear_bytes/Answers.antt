use Rattle.std.proofs.Common.{◌≡◌, length, refl, sym, subst, arith}
use Rattle.dg_breaks.specs.Bytes.{AreCleared}
use Rattle.dg_breaks.proofs.ByteLemmas.{no_bits, clear_more, clear_back}
use Rattle.dg_breaks.proofs.unfit.clear_bytes.Goals as goal

pub loop-at-init : goal.loop-at-init
loop-at-init c = record { within = omega arith; few = omega arith; fits = no_bits c.args.bits.now }

pub loop-at-preserved : goal.loop-at-preserved
loop-at-preserved c =
    let before = c.loop-at.invariant in
    let fits = rw c.in-Some.is at c.count_byte.ensures.fits in
    record { within = fits.0; few = fits.1; fits = clear_more c.args.bits.now c.loop-at.at c.loop-at.count c.in-Some.more c.loop-at-test.true before.fits fits.2 }

pub returns-in-None-clause-before : goal.returns-in-None-clause-before
returns-in-None-clause-before c = (c.loop-at.count, c.loop-at.invariant.few, c.loop-at.invariant.fits)

pub returns-in-None-clause-here : goal.returns-in-None-clause-here
returns-in-None-clause-here c = λ low clear.
    let no_fit = rw c.in-None.is at c.count_byte.ensures.no_fit in
    no_fit refl clear.0 clear.1 (clear_back c.args.bits.now c.loop-at.at c.loop-at.count clear.0 c.loop-at-test.true c.loop-at.invariant.fits clear.2)

pub returns-clause-before : goal.returns-clause-before
returns-clause-before c =
    let end : c.loop-at.at ≡ length c.args.bits.now = omega arith in
    subst (AreCleared c.args.bits.now c.args.most) end (c.loop-at.count, c.loop-at.invariant.few, c.loop-at.invariant.fits)
