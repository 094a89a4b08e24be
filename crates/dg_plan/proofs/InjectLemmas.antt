-- What a refused injection leaves.
use Rattle.std.proofs.Common.{◌≡◌, refl, sym, subst}
use Rattle.dg_nor.specs.Device.{Device}
use Rattle.dg_nor.specs.Reads.{Looked}
use Rattle.dg_nor.proofs.ReadLemmas.{Looked_then}
use Rattle.dg_volume.specs.declared.volume.InjectFault.{InjectFault}
use Rattle.dg_volume.specs.declared.volume.InjectFault.TheVariants.{Stopped, Empty, TooLarge, Stale, Reserved, Worn, Taken}

-- the device was only read before, and a refusal leaves it unchanged, or reads its page 0
pub refused_by : (e : InjectFault) (a b c : Device) → Looked a b → (e ≡ Stopped → ⊥) → ((e ≡ Taken → ⊥) → c ≡ b) → (e ≡ Taken → Looked b c) → Looked a c
refused_by Stopped a b c looked ne same taken = absurd (ne refl)
refused_by Empty a b c looked ne same taken = subst (Looked a) (sym (same (λ w. cc))) looked
refused_by TooLarge a b c looked ne same taken = subst (Looked a) (sym (same (λ w. cc))) looked
refused_by (Stale kept) a b c looked ne same taken = subst (Looked a) (sym (same (λ w. cc))) looked
refused_by Reserved a b c looked ne same taken = subst (Looked a) (sym (same (λ w. cc))) looked
refused_by (Worn room) a b c looked ne same taken = subst (Looked a) (sym (same (λ w. cc))) looked
refused_by Taken a b c looked ne same taken = Looked_then looked (taken refl)
