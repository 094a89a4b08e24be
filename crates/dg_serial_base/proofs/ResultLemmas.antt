-- What holds of results holds after they are passed on.
use Rattle.std.proofs.Common.{◌≡◌, ℕ, sym, ◌∙◌, subst, inl, inr}
use Rattle.std.specs.Prelude.{Result, Ok, Err, OnOk, IsErr, IsErrAnd}
use Rattle.dg_words.specs.Counts.{Rose}
use Rattle.dg_nor.specs.Device.{Device}
use Rattle.dg_serial_base.specs.inner.Standing.{Calm, WhyStopped, CountsBy, Counts, WriteCounts}
use Rattle.dg_end.specs.declared.ends.End.{End}
use Rattle.dg_end.specs.declared.ends.End.TheVariants as ends
use Rattle.dg_serial_base.proofs.StartLemmas.{calm_then}

pub on_ok : {T P : Type 0} (r : Result T End) → P → OnOk r P
on_ok (Ok x) p = p
on_ok (Err e) p = tt

-- what holds of the fault that is passed on holds of the answer
pub handed : {T : Type 0} (P : Result T End → Type 0) (r : Result T End) (f : End) → IsErrAnd r (λ e. e ≡ f) → P (Err f) → P r
handed P (Ok x) f is p = absurd is
handed P (Err e) f is p = subst (λ (x : End). P (Err x)) (sym is) p

why_after : (a b c : Device) → Calm a b → WhyStopped b c → WhyStopped a c
why_after a b c x (inl was) = inl (sym x.stopped ∙ was)
why_after a b c x (inr rose) = inr (subst (λ (n : ℕ). Rose n c.faults) x.faults rose)

pub counts_by_after : (why : End) (a b c : Device) → Calm a b → CountsBy why b c → CountsBy why a c
counts_by_after ends.FlashFault a b c l r = why_after a b c l r
counts_by_after end a b c l r = calm_then a b c l r

pub counts_after : {T : Type 0} (r : Result T End) (a b c : Device) → Calm a b → Counts r b c → Counts r a c
counts_after (Ok x) a b c l r = calm_then a b c l r
counts_after (Err why) a b c l r = counts_by_after why a b c l r

-- out of memory, as a fault that is passed on
pub handed_memory : {T : Type 0} (P : Result T End → Type 0) (r : Result T End) → IsErr r × IsErrAnd r (λ x. x ≡ ends.Memory) → P (Err ends.Memory) → P r
handed_memory P (Ok x) is p = absurd is.1
handed_memory P (Err f) is p = subst (λ (x : End). P (Err x)) (sym is.1) p
