use Rattle.std.proofs.Common.{◌||◌, ap}
use Rattle.dg_nor.specs.Fuse.{fused_device}
use Rattle.dg_nor.proofs.DeviceLemmas.{Halts-before}
use Rattle.dg_nor.proofs.fuse.FusedNor.read.Goals as goal

pub returns-then-self-clause-stopped : goal.returns-then-self-clause-stopped
returns-then-self-clause-stopped g c =
    Halts-before 0 (fused_device g.N.Nor.device c.args.self.now) (ap (λ b. b || (g.N.Nor.device c.args.self.now.inner.now).stopped) c.if-self.true)
