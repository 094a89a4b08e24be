-- The outcome of an injection.
use Rattle.std.proofs.Common.{◌≡◌, ◌≢◌, ◌<◌, map, ℕ, List, length, Option, Some, None, Ok, Err, refl, sym, subst, ⊎_elim, ◌⊎◌}
use Rattle.dg_nor.specs.Device.{Device}
use Rattle.dg_nor.specs.Reads.{Looked}
use Rattle.dg_object.specs.Object.{Row}
use Rattle.dg_volume.specs.Store.{Store}
use Rattle.dg_volume.specs.Acts.{Acted, Stops}
use Rattle.dg_volume.specs.Changes.{inject_refusal, UnlessInjectRefused}
use Rattle.dg_volume.specs.Trails.{inject_trail}
use Rattle.dg_volume.specs.declared.volume.Volume.{Volume}
use Rattle.dg_volume.specs.declared.volume.InjectFault.{InjectFault}
use Rattle.dg_volume.specs.declared.volume.InjectFault.TheVariants as inject
use Rattle.dg_end.specs.Lines.{Outcome}
use Rattle.dg_end.specs.Conversions.{end_of_injection}
use Rattle.dg_end.specs.declared.ends.End.TheVariants as ends
use Rattle.dg_end.specs.declared.refusal.Refusal.{Refusal}
use Rattle.dg_end.specs.declared.refusal.Refusal.TheVariants as refusals
use Rattle.dg_words.specs.Counts.{Rose}
use Rattle.dg_outside.specs.Outside.{InputState}
use Rattle.dg_end.specs.declared.ends.End.{End}
use Rattle.dg_tool.specs.declared.input.ImageFault.{ImageFault}
use Rattle.dg_tool.specs.Input.{ImageRead, end_of_image}
use Rattle.dg_tool.specs.Rules.{trail_rule, inject_rule}
use Rattle.dg_tool.specs.Endings.{FirstAs}
use Rattle.dg_tool.specs.Verbs.{have_text, inject_ending_by}
use Rattle.dg_tool.specs.inner.OnChip.{inject_into}
use Rattle.dg_tool.specs.Done.{Completed, VerbStopsOn, NeedsBoard, NeedsInput, OnBoards, FedBoards}
use Rattle.dg_tool.specs.inner.OnChip.{CompletedOn}
use Rattle.dg_tool.specs.inner.OneBoard.{OnStore}
use Rattle.dg_tool.proofs.OutcomeLemmas.{made_store, memory_store, refused_store, stopped_store, halts_stopped}
use Rattle.dg_tool.proofs.BoardLemmas.{some_mapped}
use Rattle.dg_tool.proofs.InputLemmas.{fed, fed_none}
use Rattle.dg_tool.proofs.TrailLemmas.{went, looked_same}

pub inject_needs : (row : Row) (refusal : Option InjectFault) → NeedsBoard (inject_ending_by row refusal)
inject_needs row None = tt
inject_needs row (Some fault) = tt

by_needs : (row : Row) (refusal : Option InjectFault) → NeedsInput (inject_ending_by row refusal)
by_needs row None = tt
by_needs row (Some fault) = tt

pub into_needs : (row : Row) (chip : Option Store) → NeedsInput (inject_into row chip)
into_needs row None = tt
into_needs row (Some s) = by_needs row (inject_refusal s row)

module _ (s : Store) (row : Row) (a b : Device) where
  abbrev pub Injected : Outcome → Type 0
  Injected outcome = OnStore outcome (inject_ending_by row (inject_refusal s row)) (Completed (inject_trail s row)) (Stops (inject_trail s row)) a b

  by_refusal : (outcome : Outcome) (refusal : Option InjectFault) → inject_refusal s row ≡ refusal → OnStore outcome (inject_ending_by row refusal) (Completed (inject_trail s row)) (Stops (inject_trail s row)) a b → Injected outcome
  by_refusal outcome refusal e h = subst (λ (x : Option InjectFault). OnStore outcome (inject_ending_by row x) (Completed (inject_trail s row)) (Stops (inject_trail s row)) a b) (sym e) h

  pub inject_kept : (v : Volume) (text : List ℕ) → inject_refusal s row ≡ None → text ≡ have_text row → Acted (inject_trail s row) a b v → Injected (Ok text)
  inject_kept v text none is acted = by_refusal (Ok text) None none (made_store (Completed (inject_trail s row)) (Stops (inject_trail s row)) a b text (have_text row) is (went (inject_trail s row) a b v acted))

  pub inject_wants : (v : Volume) → inject_refusal s row ≡ None → Acted (inject_trail s row) a b v → Injected (Err ends.Memory)
  inject_wants v none acted = by_refusal (Err ends.Memory) None none (memory_store (Completed (inject_trail s row)) (Stops (inject_trail s row)) a b (inject_ending_by row None) (went (inject_trail s row) a b v acted))

  refused : (fault : InjectFault) (cause : Refusal) → end_of_injection (length row.bytes) fault ≡ ends.Refused cause → inject_refusal s row ≡ Some fault → Looked a b → Injected (Err (ends.Refused cause))
  refused fault cause is e looked =
      by_refusal (Err (ends.Refused cause)) (Some fault) e (subst (λ x. OnStore (Err (ends.Refused cause)) (Rattle.dg_tool.specs.Endings.Reading x) (Completed (inject_trail s row)) (Stops (inject_trail s row)) a b) (sym is) (refused_store (Completed (inject_trail s row)) (Stops (inject_trail s row)) a b cause looked))

  stopped : (inject_refusal s row ≡ None) ⊎ (inject_refusal s row ≡ Some inject.Taken) → Stops (inject_trail s row) a b → Injected (Err ends.FlashFault)
  stopped allowed h =
      ⊎_elim
      (λ none. by_refusal (Err ends.FlashFault) None none (stopped_store (Completed (inject_trail s row)) (Stops (inject_trail s row)) a b (inject_ending_by row None) tt h (halts_stopped h.halts)))
      (λ taken. by_refusal (Err ends.FlashFault) (Some inject.Taken) taken (stopped_store (Completed (inject_trail s row)) (Stops (inject_trail s row)) a b (inject_ending_by row (Some inject.Taken)) tt h (halts_stopped h.halts)))
      allowed

  -- it was refused, or stopped
  pub inject_fails : (U : Type 0) (fault : InjectFault) → UnlessInjectRefused {T = U} (Err fault) (inject_refusal s row) → (fault ≢ inject.Stopped → inject_refusal s row ≡ Some fault) → (fault ≢ inject.Stopped → fault ≢ inject.Taken → b ≡ a) → (fault ≡ inject.Taken → Looked a b) → (fault ≡ inject.Stopped → Stops (inject_trail s row) a b)
      → Injected (Err (end_of_injection (length row.bytes) fault))
  inject_fails U inject.Stopped allowed none same taken stop = stopped allowed (stop refl)
  inject_fails U inject.Taken allowed none same taken stop = refused inject.Taken refusals.Taken refl (none (λ e. cc)) (taken refl)
  inject_fails U inject.Empty allowed none same taken stop = refused inject.Empty refusals.Empty refl (none (λ e. cc)) (looked_same a b (same (λ e. cc) (λ e. cc)))
  inject_fails U inject.TooLarge allowed none same taken stop = refused inject.TooLarge (refusals.TooLarge (length row.bytes)) refl (none (λ e. cc)) (looked_same a b (same (λ e. cc) (λ e. cc)))
  inject_fails U (inject.Stale kept) allowed none same taken stop = refused (inject.Stale kept) (refusals.Stale kept) refl (none (λ e. cc)) (looked_same a b (same (λ e. cc) (λ e. cc)))
  inject_fails U inject.Reserved allowed none same taken stop = refused inject.Reserved refusals.Reserved refl (none (λ e. cc)) (looked_same a b (same (λ e. cc) (λ e. cc)))
  inject_fails U (inject.Worn room) allowed none same taken stop = refused (inject.Worn room) (refusals.Worn room) refl (none (λ e. cc)) (looked_same a b (same (λ e. cc) (λ e. cc)))

-- an injection of the image that the input spells
pub fed_inject : {N T : Type 0} (f : N → Device) (items : List N) (row : List ℕ → Row) (view : T → List ℕ) (image : T) (outcome : Outcome) (a b : InputState) (new : List Device) → 0 < length items → ImageRead view (Ok image) a b
    → OnBoards outcome (trail_rule (map f items) (λ s. inject_ending_by (row (view image)) (inject_refusal s (row (view image)))) (λ s. inject_trail s (row (view image)))) (Rose a.reads b.reads) (map f items) new → FedBoards outcome (inject_rule (map f items) row) a b (map f items) new
fed_inject f items row view image outcome a b new some read did =
    fed (FirstAs (map f items)) (λ bytes chip. inject_into (row bytes) chip) (λ bytes. CompletedOn (λ s. inject_trail s (row bytes))) (λ bytes. VerbStopsOn (λ s. inject_trail s (row bytes))) (λ bytes chip. into_needs (row bytes) chip) view image outcome a b (map f items) new (some_mapped f items some) read did

pub unfed_inject : {N T : Type 0} (f : N → Device) (items : List N) (row : List ℕ → Row) (view : T → List ℕ) (fault : ImageFault) (a b : InputState) → 0 < length items → ImageRead view (Err fault) a b → FedBoards (Err (end_of_image fault)) (inject_rule (map f items) row) a b (map f items) (map f items)
unfed_inject f items row view fault a b some read =
    fed_none (FirstAs (map f items)) (λ bytes chip. inject_into (row bytes) chip) (λ bytes. CompletedOn (λ s. inject_trail s (row bytes))) (λ bytes. VerbStopsOn (λ s. inject_trail s (row bytes))) (λ bytes chip. into_needs (row bytes) chip) view fault a b (map f items) (some_mapped f items some) read

-- it was refused, with the cause for an image of this many bytes
pub inject_sized : (size m : ℕ) (end : End) (fault : InjectFault) (P : Outcome → Type 0) → size ≡ m → end ≡ end_of_injection size fault → P (Err (end_of_injection m fault)) → P (Err end)
inject_sized size m end fault P same is h = subst (λ (e : End). P (Err e)) (sym is) (subst (λ (n : ℕ). P (Err (end_of_injection n fault))) (sym same) h)
