-- The outcomes of a start, of formatting and of a migration.
use Rattle.std.proofs.Common.{◌≡◌, ◌<◌, ℕ, Bool, true, false, List, [], ◌∷◌, length, map, get_or, set, Option, Some, None, Ok, Err, IfSome, refl, sym, ap, subst, ◌∙◌, inl, inr, arith, cond, ◌⊎◌}
use Rattle.std.specs.Prelude.{◌==◌, ◌&&◌, nat_lt, ◌-◌}
use Rattle.std.proofs.lemmas.Bool.{cond_both, and_parts, eqb-true}
use Rattle.std.proofs.lemmas.Bool.Decides.{nat_tests}
use Rattle.dg_words.specs.Counts.{Rose}
use Rattle.dg_nor.specs.Device.{Device}
use Rattle.dg_nor.specs.Reads.{Looked, ReadStopped, ActStopped}
use Rattle.dg_slot.specs.Layout.{most_bytes}
use Rattle.dg_slot.specs.Pages.{program}
use Rattle.dg_control.specs.Store.{HasForm}
use Rattle.dg_control.specs.declared.faults.CommitFault.{CommitFault}
use Rattle.dg_control.specs.declared.faults.CommitFault.TheVariants as commit
use Rattle.dg_volume.specs.Sizes.{most_room, old_form, new_form}
use Rattle.dg_volume.specs.Store.{Store}
use Rattle.dg_volume.specs.Stands.{Stands, IsVolume, IsNoVolume}
use Rattle.dg_volume.specs.Acts.{Acted, Stops}
use Rattle.dg_volume.specs.Trails.{migrate_trail}
use Rattle.dg_volume.specs.Start.{Boot, Runs}
use Rattle.dg_volume.specs.declared.volume.Volume.{Volume}
use Rattle.dg_volume.specs.declared.volume.FormatFault.{FormatFault}
use Rattle.dg_volume.specs.declared.volume.FormatFault.TheVariants as format
use Rattle.dg_boot.specs.Started.{Starts, NoImageFound}
use Rattle.dg_boot.specs.declared.Started.{Started}
use Rattle.dg_boot.specs.declared.BootFault.{BootFault}
use Rattle.dg_boot.specs.declared.BootFault.TheVariants as boot_fault
use Rattle.dg_outside.specs.Outside.{InputState}
use Rattle.dg_end.specs.Lines.{Outcome}
use Rattle.dg_end.specs.Conversions.{end_of_boot, end_of_commit, end_of_format}
use Rattle.dg_end.specs.declared.ends.End.{End}
use Rattle.dg_end.specs.declared.ends.End.TheVariants as ends
use Rattle.dg_end.specs.declared.refusal.Refusal.{Refusal}
use Rattle.dg_end.specs.declared.refusal.Refusal.TheVariants as refusals
use Rattle.dg_tool.specs.declared.input.ImageFault.{ImageFault}
use Rattle.dg_tool.specs.Input.{ImageRead, end_of_image}
use Rattle.dg_tool.specs.Rules.{boot_rule, format_rule}
use Rattle.dg_tool.specs.Endings.{VerbEnding, Before, Reading, Acting, by_store, StandsAs, FirstInForm}
use Rattle.dg_tool.specs.Verbs.{format_sized, start_text, power_boot, start_by, migrate_by}
use Rattle.dg_tool.specs.inner.OnChip.{room_text, form_text}
use Rattle.dg_tool.specs.inner.Started.{TellsStarted}
use Rattle.dg_tool.specs.Done.{verb_rule, NeedsInput, NeedsBoard, VerbStopsOn, Booted, Migrated, IsFormatted, FormattingStops, IsBoardStopped, OnBoards, FedBoards}
use Rattle.dg_tool.specs.inner.OnChip.{BootedOn}
use Rattle.dg_tool.specs.inner.OneBoard.{OnStore, OnBoard}
use Rattle.dg_tool.proofs.OutcomeLemmas.{made_store, memory_store, refused_store, stopped_store, image_store, halts_stopped, on_volume, stopped_board, no_volume}
use Rattle.dg_tool.proofs.BoardLemmas.{some_mapped, on_first, on_any}
use Rattle.dg_tool.proofs.InputLemmas.{fed, fed_none}
use Rattle.dg_tool.proofs.TrailLemmas.{looked_same, went, went_looked}

-- ---- boot

booted : (t : Boot) (a b : Device) (told : Started) → Starts t a b told → Booted t a b
booted t a b told h = record {
  went = went t.trail a b told.volume h.acted;
  memory = subst (λ (x : Option Runs). IfSome x (λ r. program b.image (length r.pages) ≡ r.pages)) (sym h.chosen) (subst (λ (n : ℕ). program b.image n ≡ h.runs.pages) h.pages h.memory);
}

boot_needs : (x : Option Runs) → NeedsBoard (start_by x)
boot_needs None = tt
boot_needs (Some r) = tt

module _ (s : Store) (a b : Device) where
  abbrev pub StartDone : Outcome → Type 0
  StartDone outcome = OnStore outcome (start_by (power_boot s).runs) (Booted (power_boot s)) (Stops (power_boot s).trail) a b

  by_runs : (outcome : Outcome) (runs : Option Runs) → (power_boot s).runs ≡ runs → OnStore outcome (start_by runs) (Booted (power_boot s)) (Stops (power_boot s).trail) a b → StartDone outcome
  by_runs outcome runs e h = subst (λ (x : Option Runs). OnStore outcome (start_by x) (Booted (power_boot s)) (Stops (power_boot s).trail) a b) (sym e) h

  pub boot_started : (told : Started) (text : List ℕ) → ((x : Runs) → TellsStarted told x → text ≡ start_text x) → Starts (power_boot s) a b told → StartDone (Ok text)
  boot_started told text is h =
      by_runs (Ok text) (Some h.runs) h.chosen
      (made_store (Booted (power_boot s)) (Stops (power_boot s).trail) a b text (start_text h.runs) (is h.runs (record { image = h.image; version = h.version; length = h.length; crc = h.crc })) (booted (power_boot s) a b told h))

  pub boot_wants : (told : Started) → Starts (power_boot s) a b told → StartDone (Err ends.Memory)
  boot_wants told h = by_runs (Err ends.Memory) (Some h.runs) h.chosen (memory_store (Booted (power_boot s)) (Stops (power_boot s).trail) a b (start_by (Some h.runs)) (booted (power_boot s) a b told h))

  boot_lacks : NoImageFound (power_boot s) a b → StartDone (Err ends.NoImage)
  boot_lacks h = by_runs (Err ends.NoImage) None h.none (image_store (Booted (power_boot s)) (Stops (power_boot s).trail) a b (record {
    went = record { ran = h.ran; stands = h.stands };
    memory = subst (λ (x : Option Runs). IfSome x (λ r. program b.image (length r.pages) ≡ r.pages)) (sym h.none) tt;
  }))

module _ {N : Type 0} (f : N → Device) (items : List N) (x y : N) (some : 0 < length items) where
  abbrev was : Device
  was = f (get_or items 0 x)

  abbrev pub BootComes : Outcome → Type 0
  BootComes outcome = OnBoards outcome (boot_rule (map f items)) ⊥ (map f items) (map f (set items 0 y))

  boot_board : (outcome : Outcome) → OnBoard outcome (verb_rule (StandsAs was.image) (λ chip. by_store chip (λ s. start_by (power_boot s).runs)) (BootedOn power_boot) (VerbStopsOn (λ s. (power_boot s).trail))) was (f y) → BootComes outcome
  boot_board outcome h = on_first ⊥ f items x y outcome (λ chip. by_store chip (λ s. start_by (power_boot s).runs)) (BootedOn power_boot) (VerbStopsOn (λ s. (power_boot s).trail)) some h

  pub boot_done : (outcome : Outcome) → ((s : Store) → Stands was.image s → StartDone s was (f y) outcome) → IsVolume was.image → BootComes outcome
  boot_done outcome h v = boot_board outcome (on_volume (λ s. start_by (power_boot s).runs) (BootedOn power_boot) (VerbStopsOn (λ s. (power_boot s).trail)) was (f y) outcome h v)

  stops_chip : ((s : Store) → Stands was.image s → Stops (power_boot s).trail was (f y)) → (IsNoVolume was.image → ReadStopped was (f y)) → (chip : Option Store) → StandsAs was.image chip → VerbStopsOn (λ s. (power_boot s).trail) chip was (f y)
  stops_chip volume none None is = none is
  stops_chip volume none (Some s) is = volume s is

  pub boot_fails : (fault : BootFault) → (fault ≡ boot_fault.Stopped → (s : Store) → Stands was.image s → Stops (power_boot s).trail was (f y)) → (fault ≡ boot_fault.Stopped → IsNoVolume was.image → ReadStopped was (f y)) → (fault ≡ boot_fault.Stopped → ActStopped was (f y))
      → (fault ≡ boot_fault.NotAVolume → IsNoVolume was.image × Looked was (f y)) → (fault ≡ boot_fault.NoImage → (s : Store) → Stands was.image s → NoImageFound (power_boot s) was (f y)) → (fault ≡ boot_fault.NoImage → IsVolume was.image) → BootComes (Err (end_of_boot fault))
  boot_fails boot_fault.Stopped volume none cause other lacks found =
      boot_board (Err ends.FlashFault) (stopped_board (λ s. start_by (power_boot s).runs) (BootedOn power_boot) (VerbStopsOn (λ s. (power_boot s).trail)) was (f y) (λ s. boot_needs (power_boot s).runs) (stops_chip (volume refl) (none refl)) (record { stopped = (cause refl).stopped; cause = (cause refl).cause }))
  boot_fails boot_fault.NotAVolume volume none cause other lacks found =
      boot_board (Err ends.NotAVolume) (no_volume (λ s. start_by (power_boot s).runs) (BootedOn power_boot) (VerbStopsOn (λ s. (power_boot s).trail)) was (f y) (other refl).0 (other refl).1)
  boot_fails boot_fault.NoImage volume none cause other lacks found = boot_done (Err ends.NoImage) (λ s stands. boot_lacks s was (f y) (lacks refl s stands)) (found refl)

-- ---- format

unfit_store : (cause : Refusal) (acted halted : Device → Device → Type 0) (a b : Device) → b ≡ a → OnStore (Err (ends.Refused cause)) (Before (ends.Refused cause)) acted halted a b
unfit_store cause acted halted a b e = record { rules = (refl, e); stops = λ s. cc; of_verb = tt; on_board = λ h. h }

sized_empty : (used : ℕ) (golden : List ℕ) → length golden ≡ 0 → format_sized used golden ≡ Before (ends.Refused refusals.Empty)
sized_empty used golden e =
    let test : (length golden == 0) ≡ true = grind (arith, nat_tests) in
    ap (λ (b : Bool). cond b (Before (ends.Refused refusals.Empty)) (cond (nat_lt most_bytes (length golden)) (Before (ends.Refused (refusals.TooLarge (length golden)))) (Acting (Ok (room_text (most_room - used)))))) test

some_test : (n : ℕ) → (n ≡ 0 → ⊥) → (n == 0) ≡ false
some_test n h = grind (arith, nat_tests)

large_test : (most n : ℕ) → most < n → nat_lt most n ≡ true
large_test most n h = grind (arith, nat_tests)

fits_test : (most n : ℕ) → (most < n → ⊥) → nat_lt most n ≡ false
fits_test most n h = grind (arith, nat_tests)

sized_some : (used : ℕ) (golden : List ℕ) → (length golden ≡ 0 → ⊥) → format_sized used golden ≡ cond (nat_lt most_bytes (length golden)) (Before (ends.Refused (refusals.TooLarge (length golden)))) (Acting (Ok (room_text (most_room - used))))
sized_some used golden some =
    ap (λ (b : Bool). cond b (Before (ends.Refused refusals.Empty)) (cond (nat_lt most_bytes (length golden)) (Before (ends.Refused (refusals.TooLarge (length golden)))) (Acting (Ok (room_text (most_room - used)))))) (some_test (length golden) some)

sized_large : (used : ℕ) (golden : List ℕ) → (length golden ≡ 0 → ⊥) → most_bytes < length golden → format_sized used golden ≡ Before (ends.Refused (refusals.TooLarge (length golden)))
sized_large used golden some large =
    sized_some used golden some ∙ ap (λ (b : Bool). cond b (Before (ends.Refused (refusals.TooLarge (length golden)))) (Acting (Ok (room_text (most_room - used))))) (large_test most_bytes (length golden) large)

sized_fits : (used : ℕ) (golden : List ℕ) → (length golden ≡ 0 → ⊥) → (most_bytes < length golden → ⊥) → format_sized used golden ≡ Acting (Ok (room_text (most_room - used)))
sized_fits used golden some fits =
    sized_some used golden some ∙ ap (λ (b : Bool). cond b (Before (ends.Refused (refusals.TooLarge (length golden)))) (Acting (Ok (room_text (most_room - used))))) (fits_test most_bytes (length golden) fits)

two_needs : (b d : Bool) (x y z : VerbEnding) → NeedsInput x → NeedsInput y → NeedsInput z → NeedsInput (cond b x (cond d y z))
two_needs true d x y z p q r = p
two_needs false true x y z p q r = q
two_needs false false x y z p q r = r

sized_needs : (used : ℕ) (golden : List ℕ) → NeedsInput (format_sized used golden)
sized_needs used golden = two_needs (length golden == 0) (nat_lt most_bytes (length golden)) (Before (ends.Refused refusals.Empty)) (Before (ends.Refused (refusals.TooLarge (length golden)))) (Acting (Ok (room_text (most_room - used)))) tt tt tt

module _ (used : ℕ) (golden : List ℕ) (acted halted : Device → Device → Type 0) (a b : Device) where
  abbrev pub Formatted : Outcome → Type 0
  Formatted outcome = OnStore outcome (format_sized used golden) acted halted a b

  by_size : (outcome : Outcome) (ending : VerbEnding) → format_sized used golden ≡ ending → OnStore outcome ending acted halted a b → Formatted outcome
  by_size outcome ending e h = subst (λ (x : VerbEnding). OnStore outcome x acted halted a b) (sym e) h

  pub format_made : (text : List ℕ) → (length golden ≡ 0 → ⊥) → (most_bytes < length golden → ⊥) → text ≡ room_text (most_room - used) → acted a b → Formatted (Ok text)
  format_made text some fits is did = by_size (Ok text) (Acting (Ok (room_text (most_room - used)))) (sized_fits used golden some fits) (made_store acted halted a b text (room_text (most_room - used)) is did)

  pub format_wants : (length golden ≡ 0 → ⊥) → (most_bytes < length golden → ⊥) → acted a b → Formatted (Err ends.Memory)
  format_wants some fits did = by_size (Err ends.Memory) (Acting (Ok (room_text (most_room - used)))) (sized_fits used golden some fits) (memory_store acted halted a b (Acting (Ok (room_text (most_room - used)))) did)

  pub format_fails : (fault : FormatFault) → (fault ≡ format.Empty → length golden ≡ 0) → (length golden ≡ 0 → fault ≡ format.Empty) → (fault ≡ format.TooLarge → most_bytes < length golden) → (most_bytes < length golden → fault ≡ format.TooLarge) → ((fault ≡ format.Empty) ⊎ (fault ≡ format.TooLarge) → b ≡ a)
      → (fault ≡ format.Stopped → halted a b) → (fault ≡ format.Stopped → IsBoardStopped a b) → Formatted (Err (end_of_format (length golden) fault))
  format_fails format.Stopped empty none large fits same held stopped =
      let some : length golden ≡ 0 → ⊥ = λ e. let f : format.Stopped ≡ format.Empty = none e in cc in
      let less : most_bytes < length golden → ⊥ = λ e. let f : format.Stopped ≡ format.TooLarge = fits e in cc in
      by_size (Err ends.FlashFault) (Acting (Ok (room_text (most_room - used)))) (sized_fits used golden some less) (stopped_store acted halted a b (Acting (Ok (room_text (most_room - used)))) tt (held refl) (stopped refl))
  format_fails format.Empty empty none large fits same held stopped = by_size (Err (ends.Refused refusals.Empty)) (Before (ends.Refused refusals.Empty)) (sized_empty used golden (empty refl)) (unfit_store refusals.Empty acted halted a b (same (inl refl)))
  format_fails format.TooLarge empty none large fits same held stopped =
      let some : length golden ≡ 0 → ⊥ = λ e. let f : format.TooLarge ≡ format.Empty = none e in cc in
      by_size (Err (ends.Refused (refusals.TooLarge (length golden)))) (Before (ends.Refused (refusals.TooLarge (length golden)))) (sized_large used golden some (large refl)) (unfit_store (refusals.TooLarge (length golden)) acted halted a b (same (inr refl)))

pub format_sizes : (size m : ℕ) (end : End) (fault : FormatFault) (P : Outcome → Type 0) → size ≡ m → end ≡ end_of_format size fault → P (Err (end_of_format m fault)) → P (Err end)
format_sizes size m end fault P same is h = subst (λ (e : End). P (Err e)) (sym is) (subst (λ (n : ℕ). P (Err (end_of_format n fault))) (sym same) h)

any_board : (outcome : Outcome) (ending : VerbEnding) (acted halted : Device → Device → Type 0) (a b : Device) → OnStore outcome ending acted halted a b → OnBoard outcome (verb_rule (λ chip. Unit {0}) (λ chip. ending) (λ chip. acted) (λ chip. halted)) a b
any_board outcome ending acted halted a b h = record { rules = λ chip _. h.rules; found = λ _. (None, tt); stops = h.stops; of_verb = h.of_verb; on_board = h.on_board }

-- formatting with the image that the input spells
pub fed_format : {N T : Type 0} (f : N → Device) (items : List N) (x y : N) (name : List ℕ) (used form : ℕ) (view : T → List ℕ) (image : T) (outcome : Outcome) (a b : InputState) → 0 < length items → ImageRead view (Ok image) a b
    → Formatted used (view image) (IsFormatted name (view image) used form) (FormattingStops name (view image) used) (f (get_or items 0 x)) (f y) outcome → FedBoards outcome (format_rule name used form) a b (map f items) (map f (set items 0 y))
fed_format f items x y name used form view image outcome a b some read did =
    fed (λ chip. Unit {0}) (λ bytes chip. format_sized used bytes) (λ bytes chip. IsFormatted name bytes used form) (λ bytes chip. FormattingStops name bytes used) (λ bytes chip. sized_needs used bytes) view image outcome a b (map f items) (map f (set items 0 y)) (some_mapped f items some) read
    (on_any (Rose a.reads b.reads) f items x y outcome (λ chip. format_sized used (view image)) (λ chip. IsFormatted name (view image) used form) (λ chip. FormattingStops name (view image) used) some
    (any_board outcome (format_sized used (view image)) (IsFormatted name (view image) used form) (FormattingStops name (view image) used) (f (get_or items 0 x)) (f y) did))

pub unfed_format : {N T : Type 0} (f : N → Device) (items : List N) (name : List ℕ) (used form : ℕ) (view : T → List ℕ) (fault : ImageFault) (a b : InputState) → 0 < length items → ImageRead view (Err fault) a b → FedBoards (Err (end_of_image fault)) (format_rule name used form) a b (map f items) (map f items)
unfed_format f items name used form view fault a b some read =
    fed_none (λ chip. Unit {0}) (λ bytes chip. format_sized used bytes) (λ bytes chip. IsFormatted name bytes used form) (λ bytes chip. FormattingStops name bytes used) (λ bytes chip. sized_needs used bytes) view fault a b (map f items) (some_mapped f items some) read

-- ---- migrate

fine_by : (form : ℕ) (s : Store) → (form ≡ old_form → s.room ≡ 0 → ⊥) → (b : Bool) → ((form == old_form) && (s.room == 0)) ≡ b → migrate_by form s ≡ Acting (Ok form_text)
fine_by form s fine true e =
    let parts = and_parts (form == old_form) (s.room == 0) e in
    absurd (fine (eqb-true form old_form parts.0) (eqb-true s.room 0 parts.1))
fine_by form s fine false e = ap (λ (b : Bool). cond b (Reading (ends.Refused (refusals.Worn s.room))) (Acting (Ok form_text))) e

migrate_fine : (form : ℕ) (s : Store) → (form ≡ old_form → s.room ≡ 0 → ⊥) → migrate_by form s ≡ Acting (Ok form_text)
migrate_fine form s fine = fine_by form s fine ((form == old_form) && (s.room == 0)) refl

migrate_worn : (form : ℕ) (s : Store) → form ≡ old_form → s.room ≡ 0 → migrate_by form s ≡ Reading (ends.Refused (refusals.Worn 0))
migrate_worn form s old none =
    ap (λ (n : ℕ). cond ((n == old_form) && (s.room == 0)) (Reading (ends.Refused (refusals.Worn s.room))) (Acting (Ok form_text))) old
    ∙ ap (λ (n : ℕ). cond (n == 0) (Reading (ends.Refused (refusals.Worn n))) (Acting (Ok form_text))) none

pub migrate_needs : (form : ℕ) (s : Store) → NeedsBoard (migrate_by form s)
migrate_needs form s = cond_both ((form == old_form) && (s.room == 0)) _ _ NeedsBoard (λ _. tt) (λ _. tt)

module _ (form : ℕ) (s : Store) (a b : Device) where
  abbrev pub MigrationDone : Outcome → Type 0
  MigrationDone outcome = OnStore outcome (migrate_by form s) (Migrated form s) (Stops (migrate_trail form s)) a b

  by_room : (outcome : Outcome) (ending : VerbEnding) → migrate_by form s ≡ ending → OnStore outcome ending (Migrated form s) (Stops (migrate_trail form s)) a b → MigrationDone outcome
  by_room outcome ending e h = subst (λ (x : VerbEnding). OnStore outcome x (Migrated form s) (Stops (migrate_trail form s)) a b) (sym e) h

  pub migrate_made : (v : Volume) (text : List ℕ) → (form ≡ old_form → s.room ≡ 0 → ⊥) → text ≡ form_text → Acted (migrate_trail form s) a b v → HasForm b.image new_form → MigrationDone (Ok text)
  migrate_made v text fine is acted written = by_room (Ok text) (Acting (Ok form_text)) (migrate_fine form s fine) (made_store (Migrated form s) (Stops (migrate_trail form s)) a b text form_text is (record { went = went (migrate_trail form s) a b v acted; written = written }))

  pub migrate_wants : (v : Volume) → (form ≡ old_form → s.room ≡ 0 → ⊥) → Acted (migrate_trail form s) a b v → HasForm b.image new_form → MigrationDone (Err ends.Memory)
  migrate_wants v fine acted written = by_room (Err ends.Memory) (Acting (Ok form_text)) (migrate_fine form s fine) (memory_store (Migrated form s) (Stops (migrate_trail form s)) a b (Acting (Ok form_text)) (record { went = went (migrate_trail form s) a b v acted; written = written }))

  pub migrate_fails : (fault : CommitFault) → (fault ≡ commit.Worn → form ≡ old_form) → (fault ≡ commit.Worn → s.room ≡ 0) → (fault ≡ commit.Worn → b ≡ a) → (fault ≡ commit.Stopped → Stops (migrate_trail form s) a b) → MigrationDone (Err (end_of_commit fault))
  migrate_fails commit.Stopped old none same stopped = stopped_store (Migrated form s) (Stops (migrate_trail form s)) a b (migrate_by form s) (migrate_needs form s) (stopped refl) (halts_stopped (stopped refl).halts)
  migrate_fails commit.Worn old none same stopped = by_room (Err (ends.Refused (refusals.Worn 0))) (Reading (ends.Refused (refusals.Worn 0))) (migrate_worn form s (old refl) (none refl)) (refused_store (Migrated form s) (Stops (migrate_trail form s)) a b (refusals.Worn 0) (looked_same a b (same refl)))

pub migrated_looked : (form : ℕ) (s : Store) (a m b : Device) → Looked a m → Migrated form s m b → Migrated form s a b
migrated_looked form s a m b looked h = record { went = went_looked (migrate_trail form s) a m b looked h.went; written = h.written }

-- the form of the first of the boards
pub first_in_form : {N : Type 0} (f : N → Device) (items : List N) (x : N) (form : ℕ) → 0 < length items → FirstInForm form (map f items) → IsVolume (f (get_or items 0 x)).image → HasForm (f (get_or items 0 x)).image form
first_in_form f [] x form some h = absurd (omega (arith, some))
first_in_form f (z ∷ zs) x form some h = h

-- a form is the other by its number
pub in_one_form : (m n : ℕ) (s : Store) (a b : Device) (outcome : Outcome) → m ≡ n → MigrationDone m s a b outcome → MigrationDone n s a b outcome
in_one_form m n s a b outcome e h = subst (λ (k : ℕ). MigrationDone k s a b outcome) e h
