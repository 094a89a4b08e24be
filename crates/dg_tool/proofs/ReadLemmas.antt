-- Reads of a board that is a volume.
use Rattle.std.proofs.Common.{◌≡◌, Result, Ok, Err, IsErrAnd, sym, subst}
use Rattle.dg_nor.specs.Device.{Device}
use Rattle.dg_nor.specs.Reads.{Looked, ReadStopped}
use Rattle.dg_nor.proofs.ReadLemmas.{Looked_then, ReadStopped_after}
use Rattle.dg_end.specs.declared.ends.End.{End}
use Rattle.dg_end.specs.declared.ends.End.TheVariants as ends
use Rattle.dg_tool.specs.Endings.{VerbEnding}
use Rattle.dg_tool.specs.Done.{NeedsBoard}
use Rattle.dg_tool.specs.inner.OneBoard.{ReadsOn, OnStore}
use Rattle.dg_tool.proofs.OutcomeLemmas.{memory_read, stopped_store, halts_stopped}

abbrev pub page_err : (T : Type 0) → End → Result T End
page_err T e = Err e

fails_after : (T U : Type 0) (e : End) (a m b : Device) → Looked a m → ReadsOn (page_err T e) m b → ReadsOn (page_err U e) a b
fails_after T U ends.Memory a m b l h = Looked_then l h
fails_after T U ends.FlashFault a m b l h = ReadStopped_after l h
fails_after T U end a m b l h = absurd h

pub reads_after : {T : Type 0} (r : Result T End) (a m b : Device) → Looked a m → ReadsOn r m b → ReadsOn r a b
reads_after (Ok x) a m b l h = Looked_then l h
reads_after {T} (Err e) a m b l h = fails_after T T e a m b l h

-- a read that failed after others
pub reads_err : {T : Type 0} (U : Type 0) (r : Result T End) (e : End) (a m b : Device) → IsErrAnd r (λ x. x ≡ e) → Looked a m → ReadsOn (page_err U e) m b → ReadsOn r a b
reads_err U (Ok x) e a m b is l h = absurd is
reads_err {T} U (Err x) e a m b is l h = subst (λ (y : End). ReadsOn (page_err T y) a b) (sym is) (fails_after U T e a m b l h)

-- memory ran out after reads
pub reads_wants : {T : Type 0} (r : Result T End) (a b : Device) → IsErrAnd r (λ x. x ≡ ends.Memory) → Looked a b → ReadsOn r a b
reads_wants (Ok x) a b is l = absurd is
reads_wants {T} (Err x) a b is l = subst (λ (y : End). ReadsOn (page_err T y) a b) (sym is) l

fails_image : (T : Type 0) (e : End) (a b : Device) → ReadsOn (page_err T e) a b → b.image ≡ a.image
fails_image T ends.Memory a b h = h.same_image
fails_image T ends.FlashFault a b h = h.same_image
fails_image T end a b h = absurd h

-- reads change no byte
pub reads_image : {T : Type 0} (r : Result T End) (a b : Device) → ReadsOn r a b → b.image ≡ a.image
reads_image (Ok x) a b h = h.same_image
reads_image {T} (Err e) a b h = fails_image T e a b h

-- a verb that only reads a volume, and could not
pub reads_fail : (T : Type 0) (e : End) (ending : VerbEnding) (acted : Device → Device → Type 0) (a b : Device) → NeedsBoard ending → ReadsOn (page_err T e) a b → OnStore (Err e) ending acted ReadStopped a b
reads_fail T ends.Memory ending acted a b needs h = memory_read acted ReadStopped a b ending h
reads_fail T ends.FlashFault ending acted a b needs h = stopped_store acted ReadStopped a b ending needs h (halts_stopped h.halts)
reads_fail T end ending acted a b needs h = absurd h
