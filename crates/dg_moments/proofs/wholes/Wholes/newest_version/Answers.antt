use Rattle.std.proofs.Common.{◌≡◌, ℕ, sym, ap, ◌∙◌, arith}
use Rattle.std.specs.Prelude.{Option}
use Rattle.dg_moments.specs.Moments.{newer, newest_of}
use Rattle.dg_moments.specs.Wholes.{kept_in}
use Rattle.dg_moments.proofs.MotesLemmas.{newest_more}
use Rattle.dg_moments.proofs.wholes.Wholes.newest_version.Goals as goal

pub loop-mote-preserved : goal.loop-mote-preserved
loop-mote-preserved c =
    c.newer-newest.ensures ∙ ap (λ (o : Option ℕ). newer o c.kept_at.result) c.loop-mote.invariant
    ∙ ap (newer (newest_of c.loop-mote.mote (λ m. kept_in c.args.self.now.kept m c.args.image))) c.kept_at.ensures
    ∙ sym (newest_more c.loop-mote.mote (λ m. kept_in c.args.self.now.kept m c.args.image))

pub returns : goal.returns
returns c =
    let all : c.loop-mote.mote ≡ c.args.motes = omega (arith, c.loop-mote.auto.mote-end, c.loop-mote-test.false) in
    c.loop-mote.invariant ∙ ap (λ (n : ℕ). newest_of n (λ m. kept_in c.args.self.now.kept m c.args.image)) all
