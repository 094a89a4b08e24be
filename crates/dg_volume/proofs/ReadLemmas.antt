-- Reads that follow one another.
use Rattle.std.proofs.Common.{◌≡◌, Result, Ok, Err, IsErrAnd, sym, subst}
use Rattle.dg_nor.specs.Device.{Device}
use Rattle.dg_nor.specs.Reads.{Looked}
use Rattle.dg_nor.proofs.ReadLemmas.{Looked_then, ReadStopped_after}
use Rattle.dg_volume.specs.Reading.{MountEnds}
use Rattle.dg_volume.specs.declared.volume.MountFault.{MountFault}
use Rattle.dg_volume.specs.declared.volume.MountFault.TheVariants as mount

failed_after : (T U : Type 0) (e : MountFault) (a b c : Device) → Looked a b → MountEnds {T = T} (Err e) b c → MountEnds {T = U} (Err e) a c
failed_after T U mount.NotAVolume a b c looked ends = Looked_then looked ends
failed_after T U mount.Stopped a b c looked ends = ReadStopped_after looked ends

-- a mount that failed after reads
pub mount_after : {T U : Type 0} (r : Result U MountFault) (q : Result T MountFault) (e : MountFault) (a b c : Device) → IsErrAnd r (λ f. f ≡ e) → q ≡ Err e → Looked a b → MountEnds q b c → MountEnds r a c
mount_after (Ok x) q e a b c is was looked ends = absurd is
mount_after {T} {U} (Err f) q e a b c is was looked ends =
    let here : MountEnds {T = T} (Err e) b c = subst (λ (z : Result T MountFault). MountEnds z b c) was ends in
    subst (λ (g : MountFault). MountEnds {T = U} (Err g) a c) (sym is) (failed_after T U e a b c looked here)
