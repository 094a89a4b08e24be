-- Steps that keep a mode in agreement with its store: what all acts share.
use Rattle.std.proofs.Common.{◌≡◌, ℕ, ◌-◌, ◌≤◌, Bool, true, false, List, [], ◌∷◌, length, Option, Some, None, IfSome, Ok, refl, sym, ap, subst, ◌∙◌, inl, inr, arith}
use Rattle.std.specs.Prelude.{slice_index_or}
use Rattle.std.proofs.lemmas.List.FromFn.{get_or-map-range_with_len}
use Rattle.dg_nor.specs.Trail.{Trail, Stage, last, last_of, resting}
use Rattle.dg_nor.specs.Through.{AllAfter, Through}
use Rattle.dg_nor.proofs.ThroughLemmas.{Through-resting}
use Rattle.dg_object.specs.Object.{Row}
use Rattle.dg_slot.specs.Kept.{Held}
use Rattle.dg_volume.specs.Store.{Store, held}
use Rattle.dg_volume.specs.Agreement.{KeepsRow, Agrees}
use Rattle.dg_frame.specs.Sizes.{known_images}
use Rattle.dg_frame.specs.declared.Message.{Message}
use Rattle.dg_mote.specs.Model.{MoteState, Mode, Maintain, Receive, Transmit, MoteStep}
use Rattle.dg_mote.specs.Summary.{no_entry, entry_by, entries_of, advert_of, entry_for}
use Rattle.dg_mote.specs.Agreement.{ModeAgrees, HonestEntry, HonestMessage}
use Rattle.dg_mote.specs.Well.{SendsHonest}

-- a step goes through stores of P, leaves a mode that agrees, and sends only what is honest
pub record Keeps {A : Type 0} (P : Store → Type 0) (table : List Row) (step : MoteStep A) : Type 0 where
  pub way : Through P step.trail
  pub mode : ModeAgrees table (last step.trail) step.mote.mode
  pub sent : SendsHonest table step.sent

-- ---- trails

all_both : {S : Type 0} (P Q : S → Type 0) (stages : List (Stage S)) → AllAfter P stages → AllAfter Q stages → AllAfter (λ s. P s × Q s) stages
unfolding AllAfter
all_both P Q [] p q = tt
all_both P Q (stage ∷ stages) p q = ((p.0, q.0), all_both P Q stages p.1 q.1)

pub through_both : {S : Type 0} (P Q : S → Type 0) (t : Trail S) → Through P t → Through Q t → Through (λ s. P s × Q s) t
through_both P Q t p q = ((p.0, q.0), all_both P Q t.stages p.1 q.1)

all_then : {S : Type 0} (P Q : S → Type 0) (then_q : (s : S) → P s → Q s) (stages : List (Stage S)) → AllAfter P stages → AllAfter Q stages
unfolding AllAfter
all_then P Q f [] p = tt
all_then P Q f (stage ∷ stages) p = (f stage.after p.0, all_then P Q f stages p.1)

pub through_then : {S : Type 0} (P Q : S → Type 0) (then_q : (s : S) → P s → Q s) (t : Trail S) → Through P t → Through Q t
through_then P Q f t p = (f t.first p.0, all_then P Q f t.stages p.1)

-- ---- a step that leaves the store unchanged

pub rests : {A : Type 0} (P : Store → Type 0) (table : List Row) (m : MoteState) (s : Store) (n : ℕ) (sent : Option Message) (answer : A) → P s → ModeAgrees table s m.mode → SendsHonest table sent
    → Keeps P table (record { mote = m; trail = resting s n; sent = sent; answer = answer })
unfolding last_of
rests P table m s n sent answer p mode honest = record { way = Through-resting P s n p; mode = mode; sent = honest }

-- ---- a mode over another store that keeps the same

pub mode_same : (table : List Row) (s t : Store) → t.kept ≡ s.kept → (mode : Mode) → ModeAgrees table s mode → ModeAgrees table t mode
mode_same table s t e (Maintain timer) a = tt
mode_same table s t e (Receive r) a = record {
  not_golden = a.not_golden;
  row = a.row;
  in_table = a.in_table;
  kept = a.kept;
  held_here = ap (λ (xs : List (Option Held)). slice_index_or xs r.image None) e ∙ a.held_here;
  version = a.version;
  next = a.next;
  more = a.more;
  count = a.count;
  missing = a.missing;
  honest = a.honest;
}
mode_same table s t e (Transmit x) a = record {
  not_golden = a.not_golden;
  kept = a.kept;
  held_here = ap (λ (xs : List (Option Held)). slice_index_or xs x.image None) e ∙ a.held_here;
  version = a.version;
  complete = a.complete;
  owed = a.owed;
}

-- ---- the mote's own advert

pub entry_is : (wide : Bool) (s : Store) (i : ℕ) → 1 ≤ i → i ≤ known_images wide → entry_for (entries_of wide s) i ≡ entry_by (held s i)
entry_is wide s i low high = get_or-map-range_with_len (λ j. entry_by (held s j)) 1 (known_images wide) (i - 1) i no_entry (omega (arith, low, high)) (omega (arith, low))

pub length_entries : (wide : Bool) (s : Store) → length (entries_of wide s) ≡ known_images wide
length_entries true s = refl
length_entries false s = refl

entry_honest : (table : List Row) (i : ℕ) (o : Option Held) → IfSome o (KeepsRow table i) → HonestEntry table i (entry_by o)
entry_honest table i None k = inl refl
entry_honest table i (Some h) k = inr (k.row, k.in_table, k.pages, k.crc)

pub summary_honest : (table : List Row) (wide : Bool) (s : Store) → Agrees table s → (i : ℕ) → 1 ≤ i → i ≤ length (entries_of wide s) → HonestEntry table i (entry_for (entries_of wide s) i)
summary_honest table wide s a i low high = subst (HonestEntry table i) (sym (entry_is wide s i low (omega (arith, high, length_entries wide s)))) (entry_honest table i (held s i) (a.kept i))

pub advert_honest : (table : List Row) (wide : Bool) (s : Store) (id : ℕ) → Agrees table s → HonestMessage table (Ok (advert_of id wide s))
advert_honest table true s id a = summary_honest table true s a
advert_honest table false s id a = summary_honest table false s a
