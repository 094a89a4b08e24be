-- A chip that was mounted stands for the store of what was read.
use Rattle.std.proofs.Common.{◌≡◌, ◌⊎◌, ℕ, ◌<◌, ◌≤◌, List, length, get_or, Option, Some, None, IsSomeAnd, refl, sym, ap, subst, ◌∙◌, inl, inr, arith}
use Rattle.std.proofs.lemmas.Bool.{cases_lt}
use Rattle.dg_words.specs.Lists.{tabulate}
use Rattle.dg_words.proofs.ListLemmas.{length-tabulate, get_or-tabulate}
use Rattle.dg_control.specs.Mounted.{IsControlOf}
use Rattle.dg_control.specs.declared.snapshot.SlotState.TheVariants.{Dirty}
use Rattle.dg_slot.specs.Kept.{Held}
use Rattle.dg_volume.specs.Sizes.{images, golden_version}
use Rattle.dg_volume.specs.Store.{Store, App, held}
use Rattle.dg_volume.specs.Told.{Says, told, told_held}
use Rattle.dg_volume.specs.Stands.{Stands, snapshot_of, room_of, kept_at, Mounted, IsMounted}
use Rattle.dg_volume.specs.Reading.{SlotKeeps, ProgramHolds}
use Rattle.dg_volume.specs.declared.volume.Kept.{Kept}
use Rattle.dg_volume.specs.declared.volume.Volume.{Volume}
use Rattle.dg_volume.proofs.CommitLemmas.{controls_of}
use Rattle.dg_volume.proofs.StoreLemmas.{one_store}

-- ---- golden, and what is reported of it

pub golden_told : (h : Option Held) → IsSomeAnd h (λ x. (x.version ≡ golden_version) × (length x.complete ≡ x.pages)) → IsSomeAnd (told h) (λ k. (k.version ≡ golden_version) × (k.done ≡ k.pages))
golden_told None h = absurd h
golden_told (Some x) h = h

golden_of_told : (h : Option Held) → IsSomeAnd (told h) (λ k. (k.version ≡ golden_version) × (k.done ≡ k.pages)) → IsSomeAnd h (λ x. (x.version ≡ golden_version) × (length x.complete ≡ x.pages))
golden_of_told None h = absurd h
golden_of_told (Some x) h = h

-- ---- what was found of each slot, as a list

pick : {P : ℕ → Option Held → Type 0} (n i : ℕ) → ((j : ℕ) → j < n → (h : Option Held) × P j h) → (i < n) ⊎ (n ≤ i) → Option Held
pick n i found (inl h) = (found i h).0
pick n i found (inr h) = None

pick_is : {P : ℕ → Option Held → Type 0} (n i : ℕ) (found : (j : ℕ) → j < n → (h : Option Held) × P j h) (side : (i < n) ⊎ (n ≤ i)) → i < n → P i (pick {P = P} n i found side)
unfolding pick
pick_is n i found (inl h) k = (found i h).1
pick_is n i found (inr h) k = absurd (omega (arith, h, k))

-- a list of what there is at each place
pub record Gathered (P : ℕ → Option Held → Type 0) (n : ℕ) : Type 0 where
  pub all : List (Option Held)
  pub count : length all ≡ n
  pub each : (i : ℕ) → i < n → P i (get_or all i None)

pub gathered : (P : ℕ → Option Held → Type 0) (n : ℕ) → ((i : ℕ) → i < n → (h : Option Held) × P i h) → Gathered P n
gathered P n found =
    let f : ℕ → Option Held = λ i. pick {P = P} n i found (cases_lt i n) in
    record {
      all = tabulate n f;
      count = length-tabulate n f;
      each = λ i h. subst (P i) (sym (get_or-tabulate n i f None h)) (pick_is {P = P} n i found (cases_lt i n) h);
    }

-- ---- a volume that was mounted

abbrev pub Found : List ℕ → Volume → ℕ → Option Held → Type 0
Found c v i h = SlotKeeps c i (get_or (snapshot_of v).slots i Dirty) h × (kept_at v i ≡ told h)

pub mounted_at : (c : List ℕ) (v : Volume) → IsControlOf c v.control → ((i : ℕ) → i < images → (h : Option Held) × Found c v i h)
    → IsSomeAnd (kept_at v 0) (λ k. (k.version ≡ golden_version) × (k.done ≡ k.pages)) → (app : Option App) × ProgramHolds c (snapshot_of v).program app → IsMounted c v
mounted_at c v control found golden app =
    let p = snapshot_of v in
    let hs = gathered (Found c v) images found in
    let first = hs.each 0 (omega arith) in
    let s : Store = record { kept = hs.all; app = app.0; order = p.order; waived = p.waived; gesture = p.gesture; room = room_of v } in
    let says : Says p s = record { slots = λ i h. (hs.each i h).0.state; program = app.1.state; order = refl; waived = refl; gesture = refl } in (
      s,
      record {
        control = control;
        stands = record {
          snapshot = p;
          controls = controls_of c v.control control;
          says = says;
          contains = record {
            count = hs.count;
            kept = λ i h. (hs.each i h).0.keeps;
            golden = record { whole = golden_of_told (held s 0) (subst (λ (o : Option Kept). IsSomeAnd o (λ k. (k.version ≡ golden_version) × (k.done ≡ k.pages))) first.1 golden) };
            app = app.1.holds;
          };
        };
        tells = record { says = says; room = refl; kept = λ i h free. (hs.each i h).1 };
      },
    )

-- so it exposes every store that the chip stands for
pub mounted_each : (c : List ℕ) (v : Volume) → IsMounted c v → (s : Store) → Stands c s → Mounted c v s
mounted_each c v m s stands = subst (λ (x : Store). Mounted c v x) (one_store c m.0 s m.1.stands stands) m.1

-- ---- what an open slot reports

pub told_by : (k : Kept) (h : Held) → k.version ≡ h.version → k.pages ≡ h.pages → k.done ≡ length h.complete → k.crc ≡ h.crc → k ≡ told_held h
told_by k h a b c d =
    ap (λ (n : ℕ). record { version = n; pages = k.pages; done = k.done; crc = k.crc }) a
    ∙ ap (λ (n : ℕ). record { version = h.version; pages = n; done = k.done; crc = k.crc }) b
    ∙ ap (λ (n : ℕ). record { version = h.version; pages = h.pages; done = n; crc = k.crc }) c
    ∙ ap (λ (n : ℕ). record { version = h.version; pages = h.pages; done = length h.complete; crc = n }) d
