-- After a verb, a first board that agreed with a table still agrees with it.
use Rattle.std.proofs.Common.{◌≡◌, ◌⊎◌, ⊎_elim, inr, ℕ, ◌<◌, List, [], ◌∷◌, length, Option, Some, None, Ok, Err, refl, sym, ap, subst, ◌∙◌, arith}
use Rattle.std.specs.Prelude.{slice_get}
use Rattle.dg_nor.specs.Device.{Device}
use Rattle.dg_nor.specs.Reads.{Looked}
use Rattle.dg_nor.specs.Trail.{Trail, last}
use Rattle.dg_nor.specs.Through.{Through}
use Rattle.dg_nor.proofs.ThroughLemmas.{Leaves-through, Through-last, Through-resting}
use Rattle.dg_control.specs.Store.{HasForm}
use Rattle.dg_control.specs.declared.snapshot.Order.{Order}
use Rattle.dg_object.specs.Object.{Row, row_of}
use Rattle.dg_volume.specs.Acts.{Stops}
use Rattle.dg_volume.specs.Agreement.{Agrees}
use Rattle.dg_volume.specs.Changes.{inject_refusal, order_refusal}
use Rattle.dg_volume.specs.Shaped.{IsShaped}
use Rattle.dg_volume.specs.Sizes.{images, old_form, new_form}
use Rattle.dg_volume.specs.Stands.{Stands}
use Rattle.dg_volume.specs.Store.{Store, IsNear}
use Rattle.dg_volume.specs.Table.{row_at}
use Rattle.dg_volume.specs.Trails.{inject_by, inject_trail, order_trail, migrate_trail}
use Rattle.dg_volume.specs.declared.volume.InjectFault.{InjectFault}
use Rattle.dg_base.specs.declared.answers.Status.{Status}
use Rattle.dg_outside.specs.Outside.{Outside}
use Rattle.dg_end.specs.Lines.{Outcome}
use Rattle.dg_end.specs.Writes.{CommandEnds}
use Rattle.dg_end.specs.declared.ends.End.TheVariants as ends
use Rattle.dg_tool.specs.Endings.{VerbEnding, Before, Reading, Acting, FirstAs, FirstInForm, content_in}
use Rattle.dg_tool.specs.inner.OnChip.{verb_by_boards}
use Rattle.dg_tool.specs.Verbs.{order_by, power_boot}
use Rattle.dg_tool.specs.Done.{verb_rule, Completed, VerbStopsOn, ActsAs, EndsAs, AtFirst, OnBoards, FirstDone, InputDone}
use Rattle.dg_tool.specs.inner.OnChip.{CompletedOn, BootedOn, MigratedOn}
use Rattle.dg_tool.specs.Agreement.{HasNewRow, KeepsAgreement}
use Rattle.dg_tool.specs.Rules.{trail_rule, inject_rule, boot_rule, migrate_rule, InjectDone, OrderDone, BootDone, MigrateDone}
use Rattle.dg_tool.proofs.BoardLemmas.{same_some}
use Rattle.dg_tool.proofs.OutcomeLemmas.{acts_as, ends_as}

-- ---- what a stop leaves

agrees_room : (table : List Row) (s : Store) (room : ℕ) → Agrees table s → Agrees table (record s { room = room })
agrees_room table s room a = record { golden = a.golden; kept = a.kept; app = a.app }

near_agrees : (table : List Row) (a s : Store) → Agrees table a → IsNear a s → Agrees table s
near_agrees table a s agrees near = subst (Agrees table) (sym near.same) (agrees_room table a s.room agrees)

-- ---- however a verb ends

acts_some : (ending : VerbEnding) (G : Type 0) → ActsAs ending G G G → G
acts_some (Before end) G h = h
acts_some (Reading end) G h = h
acts_some (Acting outcome) G h = h

ends_some : (outcome : Outcome) (ending : VerbEnding) (G : Type 0) → EndsAs outcome ending G G G G → G
ends_some (Ok text) ending G h = acts_some ending G h.1
ends_some (Err ends.Memory) ending G h = ⊎_elim (λ x. x) (λ x. acts_some ending G x) h
ends_some (Err ends.ReadFault) ending G h = h.1
ends_some (Err ends.FlashFault) ending G h = h.1
ends_some (Err ends.WriteFault) ending G h = acts_some ending G h.1
ends_some (Err ends.LinkFault) ending G h = acts_some ending G h.1
ends_some (Err ends.NotAVolume) ending G h = acts_some ending G h.1
ends_some (Err ends.NoImage) ending G h = acts_some ending G h.1
ends_some (Err ends.TooLong) ending G h = acts_some ending G h.1
ends_some (Err ends.TooMany) ending G h = acts_some ending G h.1
ends_some (Err (ends.NoBoard need have)) ending G h = acts_some ending G h.1
ends_some (Err (ends.BadHex fault)) ending G h = acts_some ending G h.1
ends_some (Err (ends.BadLine number fault)) ending G h = acts_some ending G h.1
ends_some (Err (ends.BadProfile fault)) ending G h = acts_some ending G h.1
ends_some (Err (ends.Refused cause)) ending G h = acts_some ending G h.1

-- a chip is a volume, and what it stands for agrees with a table
abbrev BoardAgrees : List Row → (image : List ℕ) → Type 0
BoardAgrees table image = (t : Store) × Stands image t × Agrees table t

module _ (table : List Row) (t : Trail Store) (acted halted : Device → Device → Type 0) (old new : List Device) (a b : Device) (s : Store) (was : slice_get old 0 ≡ Some a) (is : slice_get new 0 ≡ Some b) (stands : Stands a.image s) (agrees : Agrees table s) (through : Through (Agrees table) t)
    (completes : acted a b → Completed t a b) (stops : halted a b → Stops t a b) where
  on_same : b.image ≡ a.image → BoardAgrees table b.image
  on_same same = (s, subst (λ (c : List ℕ). Stands c s) (sym same) stands, agrees)

  on_boards : new ≡ old → BoardAgrees table b.image
  on_boards same =
      let one : b ≡ a = same_some b a (sym is ∙ (ap (λ (ds : List Device). slice_get ds 0) same ∙ was)) in
      on_same (ap (λ (d : Device). d.image) one)

  on_looked : AtFirst Looked old new → BoardAgrees table b.image
  on_looked l = on_same (l a b was is).same_image

  on_acted : AtFirst acted old new → BoardAgrees table b.image
  on_acted x =
      let c = completes (x a b was is) in
      (last t, c.stands, Through-last (Agrees table) t through)

  on_halted : AtFirst halted old new → BoardAgrees table b.image
  on_halted x =
      let h = stops (x a b was is) in
      (h.leaves.store, h.leaves.stands_for, Leaves-through IsNear (Agrees table) (near_agrees table) t h.done h.leaves.store through h.leaves.allowed)

  pub first_kept : (outcome : Outcome) (ending : VerbEnding) → EndsAs outcome ending (new ≡ old) (AtFirst Looked old new) (AtFirst acted old new) (AtFirst halted old new) → BoardAgrees table b.image
  first_kept outcome ending h =
      let G = BoardAgrees table b.image in
      ends_some outcome ending G
      (ends_as ending (new ≡ old) (AtFirst Looked old new) (AtFirst acted old new) (AtFirst halted old new) G G G G
      (acts_as ending (new ≡ old) (AtFirst Looked old new) (AtFirst acted old new) G G G (inr on_boards) on_looked on_acted)
      on_looked on_halted outcome (λ _. on_boards) h)

first_as : (old : List Device) (a : Device) (s : Store) → slice_get old 0 ≡ Some a → Stands a.image s → FirstAs old (Some s)
first_as [] a s was stands = tt
first_as (board ∷ boards) a s was stands = subst (λ (d : Device). Stands d.image s) (sym (same_some board a was)) stands

abbrev pub ShapedLaw : Type 0
ShapedLaw = (c : List ℕ) (s : Store) → Stands c s → IsShaped s

-- the trail of whatever store the board stands for goes through stores that agree
pub boards_kept : (trail : Store → Trail Store) (outcome : Outcome) (ending : Option Store → VerbEnding) (acted halted : Option Store → Device → Device → Type 0) (failed : Type 0) (suits : List Row → Store → Type 0) (old new : List Device) → ShapedLaw
    → ((s : Store) (a b : Device) → acted (Some s) a b → Completed (trail s) a b) → ((s : Store) (a b : Device) → halted (Some s) a b → Stops (trail s) a b)
    → ((table : List Row) (s : Store) → IsShaped s → Agrees table s → suits table s → Through (Agrees table) (trail s))
    → OnBoards outcome (verb_rule (FirstAs old) ending acted halted) failed old new → KeepsAgreement suits old new
boards_kept trail outcome ending acted halted failed suits old new shaped completes stops through h = λ a b was is table s stands agrees fits.
    first_kept table (trail s) (acted (Some s)) (halted (Some s)) old new a b s was is stands agrees (through table s (shaped a.image s stands) agrees fits) (completes s a b) (stops s a b) outcome (verb_by_boards (length old) (ending (Some s)))
    (h.rules (Some s) (first_as old a s was stands))

-- the same of a rule that is a trail
pub trail_kept : (trail : Store → Trail Store) (outcome : Outcome) (ending : Option Store → VerbEnding) (failed : Type 0) (suits : List Row → Store → Type 0) (old new : List Device) → ShapedLaw
    → ((table : List Row) (s : Store) → IsShaped s → Agrees table s → suits table s → Through (Agrees table) (trail s))
    → OnBoards outcome (verb_rule (FirstAs old) ending (λ chip. CompletedOn trail chip) (λ chip. VerbStopsOn trail chip)) failed old new → KeepsAgreement suits old new
trail_kept trail outcome ending failed suits old new shaped through h =
    boards_kept trail outcome ending (λ chip. CompletedOn trail chip) (λ chip. VerbStopsOn trail chip) failed suits old new shaped (λ s a b x. x) (λ s a b x. x) through h

-- ---- injections

abbrev pub InjectLaw : Type 0
InjectLaw = (table : List Row) (s : Store) (row : Row) → row.image < length s.kept → row_at table row.image row.version ≡ Some row → Agrees table s → Through (Agrees table) (inject_trail s row)

inject_by_refusal : InjectLaw → (table : List Row) (s : Store) (row : Row) (o : Option InjectFault) → inject_refusal s row ≡ o → row.image < length s.kept → Agrees table s → HasNewRow row table s → Through (Agrees table) (inject_trail s row)
unfolding inject_trail
inject_by_refusal law table s row (Some fault) is within agrees fits =
    subst (λ (x : Option InjectFault). Through (Agrees table) (inject_by x s row)) (sym is) (Through-resting (Agrees table) s 0 agrees)
inject_by_refusal law table s row None is within agrees fits = law table s row within (fits is) agrees

pub inject_goes : InjectLaw → (table : List Row) (s : Store) (row : Row) → row.image < images → IsShaped s → Agrees table s → HasNewRow row table s → Through (Agrees table) (inject_trail s row)
inject_goes law table s row known shaped agrees fits =
    let count = shaped.count in
    inject_by_refusal law table s row (inject_refusal s row) refl (omega (arith, known, count)) agrees fits

pub inject_agrees : InjectLaw → ShapedLaw → (image version : ℕ) (name : List ℕ) (status : Status) (a b : Outside) → image < images → (done : InputDone status (inject_rule a.boards (row_of image version name)) a b)
    → InjectDone image version name status a b
inject_agrees law shaped image version name status a b known done =
    let row = row_of image version name (content_in done.allowed.bytes) in
    record {
      done = done;
      agrees = trail_kept (λ s. inject_trail s row) done.outcome _ _ (HasNewRow row) a.boards b.boards shaped (λ table s is agrees fits. inject_goes law table s row known is agrees fits) done.allowed.did;
    }

-- ---- orders, starts and migrations

pub order_agrees : ((table : List Row) (s : Store) (o : Order) → Agrees table s → Through (Agrees table) (order_trail s o)) → ShapedLaw → (o : Order) (status : Status) (a b : Outside) → FirstDone status (trail_rule a.boards (λ s. order_by o (order_refusal s o)) (λ s. order_trail s o)) a b → OrderDone o status a b
order_agrees law shaped o status a b done = record {
  done = done;
  agrees = trail_kept (λ s. order_trail s o) done.outcome _ _ (λ table s. Unit {0}) a.boards b.boards shaped (λ table s is agrees fits. law table s o agrees) done.allowed.0;
}

pub boot_agrees : ((table : List Row) (s : Store) → Agrees table s → Through (Agrees table) (power_boot s).trail) → ShapedLaw → (status : Status) (a b : Outside) → FirstDone status (boot_rule a.boards) a b → BootDone status a b
boot_agrees law shaped status a b done = record {
  done = done;
  agrees = boards_kept (λ s. (power_boot s).trail) done.outcome _ (λ chip. BootedOn power_boot chip) (λ chip. VerbStopsOn (λ s. (power_boot s).trail) chip) _ (λ table s. Unit {0}) a.boards b.boards shaped (λ s c d x. x.went) (λ s c d x. x) (λ table s is agrees fits. law table s agrees) done.allowed.0;
}

abbrev pub FormLaw : Type 0
FormLaw = (c : List ℕ) (s : Store) → Stands c s → HasForm c old_form ⊎ HasForm c new_form

first_in_form : (form : ℕ) (old : List Device) (a : Device) → slice_get old 0 ≡ Some a → HasForm a.image form → FirstInForm form old
first_in_form form [] a was h = tt
first_in_form form (board ∷ boards) a was h = λ v. subst (λ (d : Device). HasForm d.image form) (sym (same_some board a was)) h

module _ (law : (table : List Row) (form : ℕ) (s : Store) → Agrees table s → Through (Agrees table) (migrate_trail form s)) (shaped : ShapedLaw) (old new : List Device) (outcome : Outcome) where
  by_form : (form : ℕ) → OnBoards outcome (migrate_rule old form) ⊥ old new → KeepsAgreement (λ table s. Unit {0}) old new
  by_form form h =
      boards_kept (λ s. migrate_trail form s) outcome _ (λ chip. MigratedOn form chip) (λ chip. VerbStopsOn (migrate_trail form) chip) _ (λ table s. Unit {0}) old new shaped (λ s x y k. k.went) (λ s x y k. k) (λ table s is agrees fits. law table form s agrees) h

  pub any_form : FormLaw → ((form : ℕ) → FirstInForm form old → OnBoards outcome (migrate_rule old form) ⊥ old new) → KeepsAgreement (λ table s. Unit {0}) old new
  any_form forms h = λ a b was is table s stands agrees fits.
      ⊎_elim
      (λ has. by_form old_form (h old_form (first_in_form old_form old a was has)) a b was is table s stands agrees fits)
      (λ has. by_form new_form (h new_form (first_in_form new_form old a was has)) a b was is table s stands agrees fits)
      (forms a.image s stands)

pub migrate_agrees : ((table : List Row) (form : ℕ) (s : Store) → Agrees table s → Through (Agrees table) (migrate_trail form s)) → ShapedLaw → FormLaw → (status : Status) (a b : Outside)
    → CommandEnds status (λ outcome. ((form : ℕ) → FirstInForm form a.boards → OnBoards outcome (migrate_rule a.boards form) ⊥ a.boards b.boards) × (b.input ≡ a.input)) a b → MigrateDone status a b
migrate_agrees law shaped forms status a b done = record { done = done; agrees = any_form law shaped a.boards b.boards done.outcome forms done.allowed.0 }
