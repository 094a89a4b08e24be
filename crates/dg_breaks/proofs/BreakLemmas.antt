-- A chip that meets all conditions is a volume.
use Rattle.std.proofs.Common.{◌≡◌, ℕ, ◌<◌, Bool, true, List, length, Option, Some, None, Result, Ok, Err, IfOk, IsSomeAnd, IsTrue, refl, sym, ap, subst, ◌∙◌, arith, eq-eqb, eqb-true}
use Rattle.std.specs.Prelude.{◌↔◌, nat_eq}
use Rattle.dg_nor.specs.declared.device.Stopped.{Stopped}
use Rattle.dg_words.specs.Cells.{part}
use Rattle.dg_words.proofs.ListLemmas.{length-tabulate}
use Rattle.dg_nor.specs.Chip.{sector}
use Rattle.dg_ledger.specs.Ledger.{HasCount}
use Rattle.dg_ledger.proofs.NextLemmas.{one_HasCount}
use Rattle.dg_control.specs.Store.{Controls, current}
use Rattle.dg_control.specs.declared.snapshot.Program.{Program}
use Rattle.dg_control.specs.declared.snapshot.Program.TheVariants.{Blank, Set}
use Rattle.dg_control.specs.declared.snapshot.SlotState.{SlotState}
use Rattle.dg_control.specs.declared.snapshot.SlotState.TheVariants.{Dirty, Live}
use Rattle.dg_control.specs.declared.snapshot.Snapshot.{Snapshot}
use Rattle.dg_slot.specs.Layout.{header_sector, page_sector, header_size, gates_at, gates_size}
use Rattle.dg_slot.specs.Header.{IsHeader}
use Rattle.dg_slot.specs.Pages.{page_in, slot_pages, program}
use Rattle.dg_slot.specs.Kept.{Held, HasDescriptor}
use Rattle.dg_slot.proofs.HeaderLemmas.{one_header}
use Rattle.dg_volume.specs.Sizes.{images, golden_version}
use Rattle.dg_volume.specs.Store.{App, Store, held}
use Rattle.dg_volume.specs.Stands.{IsVolume, IsNoVolume}
use Rattle.dg_volume.specs.Reading.{SlotKeeps, ProgramHolds}
use Rattle.dg_volume.proofs.MountLemmas.{gathered}
use Rattle.dg_breaks.specs.Breaks.{slot_state, HoldsGolden, HoldsHeader, HoldsDescriptor, HoldsSet, HoldsBehind, FailsBehind, FailsAt, IsSectorOf, BreaksBehind, IsByteOf, BreaksAt}
use Rattle.dg_breaks.specs.Bytes.{BreaksPlace}
use Rattle.dg_breaks.specs.declared.condition.Break.{Break}
use Rattle.dg_breaks.specs.declared.condition.Condition.{Condition}
use Rattle.dg_breaks.specs.declared.condition.Condition.TheVariants as condition

-- what a slot whose header and descriptor fit keeps
kept_by : (c : List ℕ) (i : ℕ) (x : SlotState) → HoldsHeader c i x → HoldsDescriptor c i x → (h : Option Held) × SlotKeeps c i x h
kept_by c i Dirty header first = (None, record { state = refl; keeps = tt })
kept_by c i (Live v) header first =
    let done = header.2 in
    let pages : List (List ℕ) = slot_pages c i done in
    let count : length pages ≡ done = length-tabulate done (λ p. page_in c (page_sector i p)) in
    let h : Held = record { version = v; pages = header.0; crc = header.1; complete = pages } in (
      Some h,
      record {
        state = refl;
        keeps = record {
          header = subst (λ (n : ℕ). IsHeader (sector c (header_sector i)) i v header.0 header.1 n) (sym count) header.3;
          stored = ap (slot_pages c i) (sym count);
          first = λ some. first header.0 header.1 done header.3 (subst (λ (n : ℕ). 0 < n) count some);
        };
      },
    )

golden_by : (c : List ℕ) (x : SlotState) (h : Option Held) → HoldsGolden c x → SlotKeeps c 0 x h → IsSomeAnd h (λ k. (k.version ≡ golden_version) × (length k.complete ≡ k.pages))
golden_by c x None golden keeps = let no : Dirty ≡ Live golden_version = sym keeps.state ∙ golden.0 in absurd cc
golden_by c x (Some h) golden keeps =
    let told : Live h.version ≡ Live golden_version = sym keeps.state ∙ golden.0 in
    let version : h.version ≡ golden_version = cc in
    let there : IsHeader (sector c (header_sector 0)) 0 golden_version h.pages h.crc (length h.complete) = subst (λ (v : ℕ). IsHeader (sector c (header_sector 0)) 0 v h.pages h.crc (length h.complete)) version keeps.keeps.header in
    let cells = sector c (header_sector 0) in
    let same = one_header (part cells 0 header_size) (part cells gates_at gates_size) 0 golden_version h.pages h.crc (length h.complete) golden.1.0 golden.1.1 golden.1.0 there golden.1.2 in
    (version, same.done ∙ sym same.pages)

program_by : (c : List ℕ) (x : Program) → HoldsSet c x → (app : Option App) × ProgramHolds c x app
program_by c Blank set = (None, record { state = refl; holds = tt })
program_by c (Set i v) set = (
  Some (record { image = i; version = v; pages = program c set.0.pages }),
  record { state = refl; holds = record { described = (set.0, set.1, set.2, set.3, refl) } },
)

pub all_hold : (c : List ℕ) (p : Snapshot) (room : ℕ) → Controls c p room → HoldsBehind c p → IsVolume c
all_hold c p room controls holds =
    let hs = gathered (λ i h. SlotKeeps c i (slot_state p i) h) images (λ i low. kept_by c i (slot_state p i) (holds.headers i low) (holds.descriptors i low)) in
    let app = program_by c p.program holds.program in
    let s : Store = record { kept = hs.all; app = app.0; order = p.order; waived = p.waived; gesture = p.gesture; room = room } in (
      s,
      record {
        snapshot = p;
        controls = controls;
        says = record { slots = λ i low. (hs.each i low).state; program = app.1.state; order = refl; waived = refl; gesture = refl };
        contains = record {
          count = hs.count;
          kept = λ i low. (hs.each i low).keeps;
          golden = record { whole = golden_by c (slot_state p 0) (held s 0) holds.golden (hs.each 0 (omega arith)) };
          app = app.1.holds;
        };
      },
    )

-- ---- single conditions

live_is : (v w : ℕ) → Live v ≡ Live w → v ≡ w
live_is v w e = cc

-- no page is complete
pub nothing_described : (c : List ℕ) (i v : ℕ) (x : SlotState) (pages crc done : ℕ) → x ≡ Live v → IsHeader (sector c (header_sector i)) i v pages crc done → done ≡ 0 → (IsTrue true → HoldsDescriptor c i x) × (HoldsDescriptor c i x → IsTrue true)
nothing_described c i v x pages crc done e header none =
    let cells = sector c (header_sector i) in (
      λ _. subst (HoldsDescriptor c i) (sym e) (λ p k d other some.
          let same = one_header (part cells 0 header_size) (part cells gates_at gates_size) i v pages crc done p k d header other in
          absurd (omega (arith, same.done, none, some))),
      λ _. refl,
    )

-- page 0 was looked at
pub described_by : (c d : List ℕ) (i v : ℕ) (x : SlotState) (pages crc done : ℕ) (r : Result Bool Stopped) → x ≡ Live v → IsHeader (sector c (header_sector i)) i v pages crc done → 0 < done → d ≡ c
    → IfOk r (λ b. IsTrue b ↔ HasDescriptor (page_in d (page_sector i 0)) i v pages crc) → IfOk r (λ b. IsTrue b ↔ HoldsDescriptor c i x)
described_by c d i v x pages crc done (Err e) is header some same fits = tt
described_by c d i v x pages crc done (Ok b) is header some same fits =
    let cells = sector c (header_sector i) in
    let P : List ℕ → Type 0 = λ y. HasDescriptor (page_in y (page_sector i 0)) i v pages crc in (
      λ t. subst (HoldsDescriptor c i) (sym is) (λ p k n other low.
          let one = one_header (part cells 0 header_size) (part cells gates_at gates_size) i v pages crc done p k n header other in
          subst (λ (m : ℕ). HasDescriptor (page_in c (page_sector i 0)) i v m k) one.pages (subst (λ (m : ℕ). HasDescriptor (page_in c (page_sector i 0)) i v pages m) one.crc (subst P same (fits.0 t)))),
      λ h. fits.1 (subst P (sym same) (subst (HoldsDescriptor c i) is h pages crc done header some)),
    )

-- golden is kept whole where as many pages are complete as there are
pub golden_holds : (c : List ℕ) (x : SlotState) (pages crc done : ℕ) → x ≡ Live golden_version → IsHeader (sector c (header_sector 0)) 0 golden_version pages crc done → IsTrue (nat_eq done pages) ↔ HoldsGolden c x
golden_holds c x pages crc done e header =
    let cells = sector c (header_sector 0) in (
      λ t.
          let same : done ≡ pages = eqb-true done pages t in
          (e, (pages, crc, subst (λ (n : ℕ). IsHeader cells 0 golden_version pages crc n) same header)),
      λ h.
          let one = one_header (part cells 0 header_size) (part cells gates_at gates_size) 0 golden_version pages crc done h.1.0 h.1.1 h.1.0 header h.1.2 in
          eq-eqb done pages (one.done ∙ sym one.pages),
    )

-- ---- the first condition that is not met

fails_with : (c : List ℕ) (p : Snapshot) (room : ℕ) (x : Condition) → Controls c p room → FailsBehind c p x → FailsAt c x
fails_with c p room condition.Ledger controls fails = absurd fails
fails_with c p room condition.Snapshot controls fails = absurd fails
fails_with c p room condition.Golden controls fails = (p, room, controls, fails)
fails_with c p room (condition.Header i) controls fails = (p, room, controls, fails)
fails_with c p room (condition.Descriptor i) controls fails = (p, room, controls, fails)
fails_with c p room condition.Program controls fails = (p, room, controls, fails)

bytes_with : (c : List ℕ) (p : Snapshot) (room : ℕ) (x : Condition) (y : ℕ) → Controls c p room → BreaksBehind c p x y → IsByteOf c x y
bytes_with c p room condition.Ledger y controls breaks = absurd breaks
bytes_with c p room condition.Snapshot y controls breaks = absurd breaks
bytes_with c p room condition.Golden y controls breaks = (p, room, controls, breaks)
bytes_with c p room (condition.Header i) y controls breaks = (p, room, controls, breaks)
bytes_with c p room (condition.Descriptor i) y controls breaks = (p, room, controls, breaks)
bytes_with c p room condition.Program y controls breaks = (p, room, controls, breaks)

pub breaks_behind : (c d e : List ℕ) (p : Snapshot) (room : ℕ) (r : Result Break Stopped) → d ≡ c → e ≡ c → Controls d p room
    → IfOk r (λ b. FailsBehind e p b.condition) → IfOk r (λ b. IsSectorOf e b.condition b.sector)
    → IfOk r (λ b. BreaksBehind e p b.condition b.byte) → IfOk r (BreaksAt c)
breaks_behind c d e p room (Err x) s t controls fails place byte = tt
breaks_behind c d e p room (Ok b) s t controls fails place byte =
    let held : Controls c p room = subst (λ (x : List ℕ). Controls x p room) s controls in
    record {
      fails = fails_with c p room b.condition held (subst (λ (x : List ℕ). FailsBehind x p b.condition) t fails);
      sector = subst (λ (x : List ℕ). IsSectorOf x b.condition b.sector) t place;
      byte = bytes_with c p room b.condition b.byte held (subst (λ (x : List ℕ). BreaksBehind x p b.condition b.byte) t byte);
    }

-- a chip that is not a volume does not meet all of them
pub not_all_hold : (c d e : List ℕ) (p : Snapshot) (room : ℕ) → d ≡ c → e ≡ c → Controls d p room → IsNoVolume c → HoldsBehind e p → ⊥
not_all_hold c d e p room s t controls none holds =
    let volume = all_hold c p room (subst (λ (x : List ℕ). Controls x p room) s controls) (subst (λ (x : List ℕ). HoldsBehind x p) t holds) in
    none volume.0 volume.1

-- the control sectors have no snapshot
pub snapshot_breaks : (c : List ℕ) (n k y : ℕ) → k ≡ current n → HasCount c n → ((p : Snapshot) (room : ℕ) → Controls c p room → ⊥) → BreaksPlace (sector c k) y
    → BreaksAt c (record { condition = condition.Snapshot; sector = k; byte = y })
snapshot_breaks c n k y at counted none breaks = record {
  fails = ((n, counted), none);
  sector = λ m other. at ∙ ap current (one_HasCount c n m counted other);
  byte = λ m other. subst (λ (j : ℕ). BreaksPlace (sector c j) y) (at ∙ ap current (one_HasCount c n m counted other)) breaks;
}

-- of a chip that was read on
pub breaks_before : (c d : List ℕ) (r : Result Break Stopped) → d ≡ c → IfOk r (BreaksAt d) → IfOk r (BreaksAt c)
breaks_before c d r same h = subst (λ (x : List ℕ). IfOk r (BreaksAt x)) same h
