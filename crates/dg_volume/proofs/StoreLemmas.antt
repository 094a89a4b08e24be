-- A chip stands for one store at most.
use Rattle.std.proofs.Common.{◌≡◌, ℕ, ◌<◌, ◌≤◌, Bool, List, take, drop, length, get_or, Option, Some, None, IfSome, refl, sym, ap, subst, ◌∙◌, arith}
use Rattle.std.specs.List.{sum_by}
use Rattle.std.specs.Int.{from_be_bytes, count_zeros, w8, w16}
use Rattle.std.proofs.lemmas.List.{same_lists, get_or_default}
use Rattle.std.proofs.lemmas.Nat.{from_be_bytes-to_be_bytes_2}
use Rattle.dg_words.proofs.BitsLemmas.{zeros_are}
use Rattle.dg_words.proofs.ListLemmas.{length-tabulate}
use Rattle.dg_words.specs.Cells.{part}
use Rattle.dg_nor.specs.Chip.{sector}
use Rattle.dg_object.specs.Descriptor.{Details}
use Rattle.dg_object.proofs.HeadLemmas.{one_head}
use Rattle.dg_control.proofs.CommitLemmas.{one_control}
use Rattle.dg_control.specs.Store.{Controls}
use Rattle.dg_control.specs.declared.snapshot.Order.{Order}
use Rattle.dg_control.specs.declared.snapshot.Program.{Program}
use Rattle.dg_control.specs.declared.snapshot.Program.TheVariants.{Blank, Set}
use Rattle.dg_control.specs.declared.snapshot.SlotState.{SlotState}
use Rattle.dg_control.specs.declared.snapshot.SlotState.TheVariants.{Dirty, Live}
use Rattle.dg_control.specs.declared.snapshot.Snapshot.{Snapshot}
use Rattle.dg_slot.specs.Layout.{header_sector, program_sector}
use Rattle.dg_slot.specs.Header.{EncodesHeader, gates_of}
use Rattle.dg_slot.specs.Pages.{page_in, program, slot_pages}
use Rattle.dg_slot.specs.Kept.{Held, KeepsImage}
use Rattle.dg_volume.specs.Sizes.{images}
use Rattle.dg_volume.specs.Store.{Store, App, held}
use Rattle.dg_volume.specs.Told.{Says, slot_told, program_told}
use Rattle.dg_volume.specs.Stands.{HoldsApp, Stands, Tells, IsMounted}
use Rattle.dg_volume.specs.Reading.{SlotKeeps, ProgramHolds}
use Rattle.dg_volume.specs.declared.volume.Volume.{Volume}

-- ---- one reading of a header

pages_read : (first gates : List ℕ) (image version pages crc done : ℕ) → EncodesHeader first gates image version pages crc done → get_or first 3 0 ≡ pages
pages_read first gates image version pages crc done h = ap (λ x. get_or x 3 0) h.spelled

crc_read : (first gates : List ℕ) (image version pages crc done : ℕ) → EncodesHeader first gates image version pages crc done → from_be_bytes w16 (drop 8 first) ≡ crc
crc_read first gates image version pages crc done h = ap (λ x. from_be_bytes w16 (drop 8 x)) h.spelled ∙ from_be_bytes-to_be_bytes_2 crc h.crc_fits

cleared_in : (n : ℕ) → n ≤ 72 → sum_by (λ gate. count_zeros w8 gate) (gates_of n) ≡ n
unfolding gates_of
cleared_in n h = zeros_are 9 n h

done_read : (first gates : List ℕ) (image version pages crc done : ℕ) → EncodesHeader first gates image version pages crc done → sum_by (λ gate. count_zeros w8 gate) gates ≡ done
done_read first gates image version pages crc done h =
    let in_range : done ≤ 72 = omega (arith, h.within, h.most) in
    ap (λ x. sum_by (λ gate. count_zeros w8 gate) x) h.cleared ∙ cleared_in done in_range

-- ---- one content of a slot

same_held : (h k : Held) → h.version ≡ k.version → h.pages ≡ k.pages → h.crc ≡ k.crc → h.complete ≡ k.complete → h ≡ k
same_held h k a b c d =
    ap (λ (x : ℕ). record { version = x; pages = h.pages; crc = h.crc; complete = h.complete }) a
    ∙ ap (λ (x : ℕ). record { version = k.version; pages = x; crc = h.crc; complete = h.complete }) b
    ∙ ap (λ (x : ℕ). record { version = k.version; pages = k.pages; crc = x; complete = h.complete }) c
    ∙ ap (λ (x : List (List ℕ)). record { version = k.version; pages = k.pages; crc = k.crc; complete = x }) d

one_image : (c : List ℕ) (i : ℕ) (h k : Held) → h.version ≡ k.version → KeepsImage c i h → KeepsImage c i k → h ≡ k
one_image c i h k version p q =
    let cells = sector c (header_sector i) in
    let first = part cells 0 10 in
    let gates = part cells 16 9 in
    let hp = p.header in
    let hq = q.header in
    let pages = sym (pages_read first gates i h.version h.pages h.crc (length h.complete) hp) ∙ pages_read first gates i k.version k.pages k.crc (length k.complete) hq in
    let crc = sym (crc_read first gates i h.version h.pages h.crc (length h.complete) hp) ∙ crc_read first gates i k.version k.pages k.crc (length k.complete) hq in
    let done = sym (done_read first gates i h.version h.pages h.crc (length h.complete) hp) ∙ done_read first gates i k.version k.pages k.crc (length k.complete) hq in
    same_held h k version pages crc (p.stored ∙ ap (slot_pages c i) done ∙ sym q.stored)

abbrev version_in : SlotState → ℕ
version_in Dirty = 0
version_in (Live v) = v

abbrev is_live : SlotState → ℕ
is_live Dirty = 0
is_live (Live v) = 1

same_held_told : (c : List ℕ) (i : ℕ) (h k : Option Held) → slot_told h ≡ slot_told k → IfSome h (KeepsImage c i) → IfSome k (KeepsImage c i) → h ≡ k
same_held_told c i None None e p q = refl
same_held_told c i None (Some k) e p q = absurd (omega (arith, ap is_live e))
same_held_told c i (Some h) None e p q = absurd (omega (arith, ap is_live e))
same_held_told c i (Some h) (Some k) e p q = ap Some (one_image c i h k (ap version_in e) p q)

-- a slot in one state keeps one thing
pub one_held : (c : List ℕ) (i : ℕ) (x : SlotState) (h k : Option Held) → SlotKeeps c i x h → SlotKeeps c i x k → h ≡ k
one_held c i x h k p q = same_held_told c i h k (sym p.state ∙ q.state) p.keeps q.keeps

-- ---- one content of program memory

same_app : (a b : App) → a.image ≡ b.image → a.version ≡ b.version → a.pages ≡ b.pages → a ≡ b
same_app a b p q r =
    ap (λ (x : ℕ). record { image = x; version = a.version; pages = a.pages }) p
    ∙ ap (λ (x : ℕ). record { image = b.image; version = x; pages = a.pages }) q
    ∙ ap (λ (x : List (List ℕ)). record { image = b.image; version = b.version; pages = x }) r

abbrev is_set : Program → ℕ
is_set Blank = 0
is_set (Set i v) = 1

app_in : (c : List ℕ) (a b : App) → HoldsApp c a → HoldsApp c b → a ≡ b
app_in c a b p q =
    let d = p.described in
    let e = q.described in
    let same : d.0 ≡ e.0 = one_head (take 28 (page_in c (program_sector 0))) d.0 e.0 d.1.head e.1.head in
    same_app a b
    (sym d.2 ∙ ap (λ (x : Details). x.image) same ∙ e.2)
    (sym d.3 ∙ ap (λ (x : Details). x.version) same ∙ e.3)
    (d.4 ∙ ap (λ (x : Details). program c x.pages) same ∙ sym e.4)

same_app_told : (c : List ℕ) (a b : Option App) → program_told a ≡ program_told b → IfSome a (HoldsApp c) → IfSome b (HoldsApp c) → a ≡ b
same_app_told c None None e p q = refl
same_app_told c None (Some b) e p q = absurd (omega (arith, ap is_set e))
same_app_told c (Some a) None e p q = absurd (omega (arith, ap is_set e))
same_app_told c (Some a) (Some b) e p q = ap Some (app_in c a b p q)

pub one_app : (c : List ℕ) (x : Program) (a b : Option App) → ProgramHolds c x a → ProgramHolds c x b → a ≡ b
one_app c x a b p q = same_app_told c a b (sym p.state ∙ q.state) p.holds q.holds

-- ---- a store, seen from any snapshot that its chip's control sectors say

says_of : (c : List ℕ) (s : Store) (p : Snapshot) (room : ℕ) → Controls c p room → Stands c s → Says p s
says_of c s p room controls stands = subst (λ (x : Snapshot). Says x s) (one_control c stands.snapshot p s.room room stands.controls controls).0 stands.says

pub slot_of : (c : List ℕ) (s : Store) (p : Snapshot) (room : ℕ) → Controls c p room → Stands c s → (i : ℕ) → i < images → SlotKeeps c i (get_or p.slots i Dirty) (held s i)
slot_of c s p room controls stands i known = record { state = (says_of c s p room controls stands).slots i known; keeps = stands.contains.kept i known }

pub program_of : (c : List ℕ) (s : Store) (p : Snapshot) (room : ℕ) → Controls c p room → Stands c s → ProgramHolds c p.program s.app
program_of c s p room controls stands = record { state = (says_of c s p room controls stands).program; holds = stands.contains.app }

-- ---- one store

same_store : (s t : Store) → s.kept ≡ t.kept → s.app ≡ t.app → s.order ≡ t.order → s.waived ≡ t.waived → s.gesture ≡ t.gesture → s.room ≡ t.room → s ≡ t
same_store s t p q r w g m =
    ap (λ (x : List (Option Held)). record { kept = x; app = s.app; order = s.order; waived = s.waived; gesture = s.gesture; room = s.room }) p
    ∙ ap (λ (x : Option App). record { kept = t.kept; app = x; order = s.order; waived = s.waived; gesture = s.gesture; room = s.room }) q
    ∙ ap (λ (x : Order). record { kept = t.kept; app = t.app; order = x; waived = s.waived; gesture = s.gesture; room = s.room }) r
    ∙ ap (λ (x : Bool). record { kept = t.kept; app = t.app; order = t.order; waived = x; gesture = s.gesture; room = s.room }) w
    ∙ ap (λ (x : ℕ). record { kept = t.kept; app = t.app; order = t.order; waived = t.waived; gesture = x; room = s.room }) g
    ∙ ap (λ (x : ℕ). record { kept = t.kept; app = t.app; order = t.order; waived = t.waived; gesture = t.gesture; room = x }) m

pub one_store : (c : List ℕ) (s t : Store) → Stands c s → Stands c t → s ≡ t
one_store c s t p q =
    let r = p.snapshot in
    let here = p.says in
    let there = says_of c t r s.room p.controls q in
    let kept : (i : ℕ) → i < images → held s i ≡ held t i = λ i h. one_held c i (get_or r.slots i Dirty) (held s i) (held t i) (slot_of c s r s.room p.controls p i h) (slot_of c t r s.room p.controls q i h) in
    let app : s.app ≡ t.app = one_app c r.program s.app t.app (program_of c s r s.room p.controls p) (program_of c t r s.room p.controls q) in
    let count = p.contains.count in
    let count2 = q.contains.count in
    same_store s t
    (same_lists s.kept t.kept (count ∙ sym count2) (λ i d h. get_or_default s.kept i d None h ∙ kept i (omega (arith, count, h)) ∙ sym (get_or_default t.kept i d None (omega (arith, count, count2, h)))))
    app (sym here.order ∙ there.order) (sym here.waived ∙ there.waived) (sym here.gesture ∙ there.gesture)
    (one_control c r q.snapshot s.room t.room p.controls q.controls).1

-- a mounted volume exposes each store that its chip stands for
pub tells_store : (c : List ℕ) (v : Volume) (s : Store) → IsMounted c v → Stands c s → Tells v s
tells_store c v s m stands = subst (λ (x : Store). Tells v x) (one_store c m.0 s m.1.stands stands) m.1.tells

-- ---- program memory holds the pages of the app

app_pages : (c : List ℕ) (app : App) → HoldsApp c app → program c (length app.pages) ≡ app.pages
app_pages c app p =
    let d = p.described in
    ap (program c) (ap length d.4 ∙ length-tabulate d.0.pages (λ p. page_in c (program_sector p))) ∙ sym d.4

pub app_stands : (c : List ℕ) (s : Store) (app : App) → Stands c s → s.app ≡ Some app → program c (length app.pages) ≡ app.pages
app_stands c s app stands e = app_pages c app (subst (λ (x : Option App). IfSome x (HoldsApp c)) e stands.contains.app)
