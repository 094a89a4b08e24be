-- Acts that follow one another.
use Rattle.std.proofs.Common.{◌≡◌, ℕ, sym, subst}
use Rattle.dg_nor.specs.Device.{Device, Ran}
use Rattle.dg_nor.specs.Trail.{Trail, last, EachWorks, joined, resting}
use Rattle.dg_nor.proofs.DeviceLemmas.{Ran-none}
use Rattle.dg_nor.proofs.TrailLemmas.{Ran-joined, Halted-joined_first, Halted-joined_second, last-joined, operations-resting, last-resting}
use Rattle.dg_volume.specs.Store.{Store, IsNear}
use Rattle.dg_volume.specs.Stands.{Stands, Mounted}
use Rattle.dg_volume.specs.Acts.{Acted, Stops}
use Rattle.dg_volume.specs.declared.volume.Volume.{Volume}

pub acted_none : (s : Store) (a : Device) (v : Volume) → Mounted a.image v s → Acted (resting s 0) a a v
acted_none s a v mounted = record {
  ran = subst (λ (n : ℕ). Ran n a a) (sym (operations-resting s 0)) (Ran-none a);
  mounted = subst (Mounted a.image v) (sym (last-resting s 0)) mounted;
}

pub acted_then : (t u : Trail Store) (a b c : Device) (v w : Volume) → last t ≡ u.first → Acted t a b v → Acted u b c w → Acted (joined t u) a c w
acted_then t u a b c v w same first second = record {
  ran = Ran-joined t u first.ran second.ran;
  mounted = subst (Mounted c.image w) (sym (last-joined t u same)) second.mounted;
}

pub stops_first : (t u : Trail Store) (a b : Device) → EachWorks u.stages → last t ≡ u.first → Stops t a b → Stops (joined t u) a b
stops_first t u a b works same h = Halted-joined_first Stands IsNear t u works same h

pub stops_then : (t u : Trail Store) (a b c : Device) (v : Volume) → last t ≡ u.first → Acted t a b v → Stops u b c → Stops (joined t u) a c
stops_then t u a b c v same acted h = Halted-joined_second Stands IsNear t u same acted.ran h
