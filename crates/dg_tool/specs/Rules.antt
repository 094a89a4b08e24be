-- The verbs over the first board: what each did, by what it was given (docs/COMMANDS.md, "Over one chip").
use Rattle.std.specs.Prelude.{◌≡◌, ℕ, List}
use Rattle.dg_base.specs.declared.answers.Status.{Status}
use Rattle.dg_nor.specs.Device.{Device}
use Rattle.dg_nor.specs.Reads.{Looked, ReadStopped}
use Rattle.dg_nor.specs.Trail.{Trail}
use Rattle.dg_object.specs.Object.{Row, row_of}
use Rattle.dg_control.specs.declared.snapshot.Order.{Order}
use Rattle.dg_volume.specs.Store.{Store}
use Rattle.dg_volume.specs.Changes.{inject_refusal, order_refusal}
use Rattle.dg_volume.specs.Trails.{inject_trail, order_trail, migrate_trail}
use Rattle.dg_outside.specs.Outside.{Outside}
use Rattle.dg_tool.specs.Endings.{VerbEnding, FirstAs, FirstInForm, by_input, by_store, content_in}
use Rattle.dg_tool.specs.Verbs.{format_sized, inject_ending_by, order_by, power_boot, start_by, migrate_by}
use Rattle.dg_tool.specs.Done.{VerbRule, verb_rule, Completed, OnVolume, VerbStopsOn, IsFormatted, FormattingStops, Booted}
use Rattle.dg_end.specs.Writes.{CommandEnds}
use Rattle.dg_tool.specs.Done.{Migrated, OnBoards, FirstDone, InputDone}
use Rattle.dg_tool.specs.Agreement.{HasNewRow, KeepsAgreement}

-- a volume is acted on, as the rules say of its store
abbrev pub acting_rule : List Device → (Store → VerbEnding) → (acted : Store → Device → Device → Type 0) → (Store → Trail Store)
    → VerbRule
acting_rule boards ending acted trail =
    verb_rule (FirstAs boards) (λ chip. by_store chip ending) (OnVolume acted) (VerbStopsOn trail)

-- a volume completes a trail of stores
abbrev pub trail_rule : List Device → (Store → VerbEnding) → (Store → Trail Store) → VerbRule
trail_rule boards ending trail = acting_rule boards ending (λ s. Completed (trail s)) trail

-- a volume is only read
abbrev pub reading_rule : List Device → (Store → VerbEnding) → VerbRule
reading_rule boards ending = verb_rule (FirstAs boards) (λ chip. by_store chip ending) (λ chip. Looked) (λ chip. ReadStopped)

-- a rule for the image that an input spells, if it spells one
abbrev pub image_rule : (List ℕ → VerbRule) → (input : List ℕ) → VerbRule
image_rule rule input = record (rule (content_in input)) { ending = λ chip. by_input input (λ image. (rule image).ending chip) }

-- any board is formatted in this form, whatever it stands for
abbrev pub format_rule : (name : List ℕ) → (used form : ℕ) → (input : List ℕ) → VerbRule
format_rule name used form =
    image_rule (λ golden. verb_rule (λ chip. Unit {0}) (λ chip. format_sized used golden)
    (λ chip. IsFormatted name golden used form) (λ chip. FormattingStops name golden used))

-- `row` is the image with its bytes
abbrev pub inject_rule : List Device → (row : List ℕ → Row) → (input : List ℕ) → VerbRule
inject_rule boards row =
    image_rule (λ bytes. trail_rule boards (λ s. inject_ending_by (row bytes) (inject_refusal s (row bytes)))
    (λ s. inject_trail s (row bytes)))

abbrev pub boot_rule : List Device → VerbRule
boot_rule boards =
    acting_rule boards (λ s. start_by (power_boot s).runs) (λ s. Booted (power_boot s)) (λ s. (power_boot s).trail)

abbrev pub migrate_rule : List Device → (form : ℕ) → VerbRule
migrate_rule boards form = acting_rule boards (migrate_by form) (Migrated form) (migrate_trail form)

-- The table has the row of the image that was injected, unless that was refused.
pub record InjectDone (image version : ℕ) (name : List ℕ) (status : Status) (a b : Outside) : Type 0 where
  pub done : InputDone status (inject_rule a.boards (row_of image version name)) a b
  pub agrees : KeepsAgreement (HasNewRow (row_of image version name (content_in done.allowed.bytes))) a.boards b.boards

pub record OrderDone (o : Order) (status : Status) (a b : Outside) : Type 0 where
  pub done : FirstDone status (trail_rule a.boards (λ s. order_by o (order_refusal s o)) (λ s. order_trail s o)) a b
  pub agrees : KeepsAgreement (λ table s. Unit {0}) a.boards b.boards

pub record BootDone (status : Status) (a b : Outside) : Type 0 where
  pub done : FirstDone status (boot_rule a.boards) a b
  pub agrees : KeepsAgreement (λ table s. Unit {0}) a.boards b.boards

-- the first board is committed again, unchanged, if its last commit is written in the older form
pub record MigrateDone (status : Status) (a b : Outside) : Type 0 where
  pub done : CommandEnds status (λ outcome.
      ((form : ℕ) → FirstInForm form a.boards → OnBoards outcome (migrate_rule a.boards form) ⊥ a.boards b.boards)
      × (b.input ≡ a.input)) a b
  pub agrees : KeepsAgreement (λ table s. Unit {0}) a.boards b.boards
