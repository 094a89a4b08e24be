-- What a start chooses by, once it is counted; and which slots are sound.
use Rattle.std.proofs.Common.{◌≡◌, ℕ, zero, suc, ◌+◌, ◌-◌, ◌<◌, ◌≤◌, Bool, true, false, List, [], ◌∷◌, length, get_or, Option, Some, None, IfSome, refl, sym, ap, ◌∙◌, ⊎_elim, subst, arith, eq-eqb}
use Rattle.std.specs.Prelude.{◌==◌, ◌&&◌, ◌||◌, not, nat_lt, nat_le, if◌then◌else◌, IsTrue, MatchOption, ◌↔◌}
use Rattle.std.specs.FinSet as set
use Rattle.std.specs.List.{list_all, range_with_len}
use Rattle.std.proofs.lemmas.Bool.{cases_lt}
use Rattle.dg_base.specs.Crc.{crc_of}
use Rattle.dg_bits.specs.Sets.{Numbers, IsLeast, least}
use Rattle.dg_bits.proofs.SetLaws.{contains-none, least_cases}
use Rattle.dg_object.specs.Descriptor.{crc_in}
use Rattle.dg_slot.specs.Kept.{Held, KeepsImage}
use Rattle.dg_slot.specs.Layout.{page_sector}
use Rattle.dg_slot.specs.Pages.{page_in}
use Rattle.dg_volume.specs.Sizes.{short_starts}
use Rattle.dg_volume.specs.Store.{Store, held}
use Rattle.dg_volume.specs.Changes.{spent}
use Rattle.dg_volume.specs.Start.{counts, by_gesture, order_waits, sound, held_sound, pages_sound, is_whole}
use Rattle.dg_volume.specs.declared.volume.StartCause.TheVariants as cause
use Rattle.dg_boot.proofs.DescriptorLemmas.{first_of}
use Rattle.dg_inspect.specs.Pages.{is_unsound, ShowsPages, ShowsComplete, ShowsKept}
use Rattle.dg_inspect.specs.declared.seen.PagesSeen.{PagesSeen}
use Rattle.dg_inspect.specs.declared.seen.ImageSeen.{ImageSeen}
use Rattle.dg_inspect.specs.Starts.{once_counted}
use Rattle.dg_inspect.specs.Facts.{counted_gesture, counted_room, orders_start, blank_or_golden}
use Rattle.dg_inspect.proofs.PageLemmas.{lt_true, le_true, lt_of, le_of}
use Rattle.dg_inspect.proofs.StartingLemmas.{once_counted_is, counted_field}

waits_by : (b : Bool) (s : Store) → orders_start s (is_whole (held s s.order.image) s.order.version) (if b then s.room - 1 else s.room) ≡ order_waits (if b then record (spent s) { gesture = s.gesture + 1 } else s)
waits_by true s = refl
waits_by false s = refl

pub waits_counted : (s : Store) (whole : Bool) (room : ℕ) → whole ≡ is_whole (held s s.order.image) s.order.version → room ≡ counted_room s.gesture s.room → orders_start s whole room ≡ order_waits (once_counted s)
waits_counted s whole room w r =
    ap (λ b. orders_start s b room) w ∙ ap (orders_start s (is_whole (held s s.order.image) s.order.version)) r
    ∙ waits_by (counts cause.Power s) s ∙ ap order_waits (sym (once_counted_is s))

gesture_by : (b : Bool) (s : Store) → (((if b then s.gesture + 1 else s.gesture) == short_starts) && (nat_lt 0 (if b then s.room - 1 else s.room) || blank_or_golden s.app)) ≡ by_gesture (if b then record (spent s) { gesture = s.gesture + 1 } else s)
gesture_by true s = refl
gesture_by false s = refl

pub by_gesture_counted : (s : Store) (gesture room : ℕ) (golden : Bool) → gesture ≡ counted_gesture s.gesture s.room → room ≡ counted_room s.gesture s.room → golden ≡ blank_or_golden s.app
    → ((gesture == short_starts) && (nat_lt 0 room || golden)) ≡ by_gesture (once_counted s)
by_gesture_counted s gesture room golden e r g =
    ap (λ n. (n == short_starts) && (nat_lt 0 room || golden)) e
    ∙ ap (λ n. (counted_gesture s.gesture s.room == short_starts) && (nat_lt 0 n || golden)) r
    ∙ ap (λ b. (counted_gesture s.gesture s.room == short_starts) && (nat_lt 0 (counted_room s.gesture s.room) || b)) g
    ∙ gesture_by (counts cause.Power s) s ∙ ap by_gesture (sym (once_counted_is s))

pub sound_counted : (s : Store) (i : ℕ) → sound (once_counted s) i ≡ sound s i
sound_counted s i = counted_field (λ (x : Store). sound x i) s refl

-- ---- sound slots

all_true : (p : ℕ → Bool) (a n : ℕ) → ((k : ℕ) → a ≤ k → k < a + n → p k ≡ true) → list_all p (range_with_len a n) ≡ true
all_true p a zero h = refl
all_true p a (suc n) h =
    ap (λ b. b && list_all p (range_with_len (a + 1) n)) (h a (omega arith) (omega arith)) ∙ all_true p (a + 1) n (λ k l m. h k (omega arith) (omega arith))

and_false : (b : Bool) → b && false ≡ false
and_false true = refl
and_false false = refl

all_fails : (p : ℕ → Bool) (a n k : ℕ) → a ≤ k → k < a + n → p k ≡ false → list_all p (range_with_len a n) ≡ false
all_fails p a zero k l m e = absurd (omega arith)
all_fails p a (suc n) k l m e =
    ⊎_elim
    (λ lt. let rest = all_fails p (a + 1) n k (omega arith) (omega arith) e in ap (λ b. p a && b) rest ∙ and_false (p a))
    (λ ge. let same : a ≡ k = omega arith in ap (λ x. p x && list_all p (range_with_len (a + 1) n)) same ∙ ap (λ b. b && list_all p (range_with_len (a + 1) n)) e)
    (cases_lt a k)

not_bad : (a b x : Bool) → (a && b) && not x ≡ false → a ≡ true → b ≡ true → x ≡ true
not_bad true true true h e f = refl
not_bad true true false h e f = absurd cc
not_bad true false x h e f = absurd cc
not_bad false b x h e f = absurd cc

bad_parts : (a b x : Bool) → (a && b) && not x ≡ true → (a ≡ true) × (b ≡ true) × (x ≡ false)
bad_parts true true false h = (refl, refl, refl)
bad_parts true true true h = absurd cc
bad_parts true false x h = absurd cc
bad_parts false b x h = absurd cc

-- no page is unsound
pub sound_none : (crc : ℕ) (ps : List (List ℕ)) → 0 < length ps → crc_of (get_or ps 0 []) ≡ crc → ((q : ℕ) → is_unsound ps q ≡ false) → true ≡ pages_sound crc ps
sound_none crc [] some first none = absurd (omega arith)
sound_none crc (p ∷ rest) some first none =
    let here : (crc_of p == crc) ≡ true = eq-eqb (crc_of p) crc first in
    let all = all_true (λ q. crc_of (get_or (p ∷ rest) q []) == crc_in p q) 1 (length rest)
    (λ k l m. not_bad (nat_le 1 k) (nat_lt k (length (p ∷ rest))) _ (none k) (le_true 1 k l) (lt_true k (length (p ∷ rest)) (omega arith))) in
    sym (ap (λ b. b && list_all (λ q. crc_of (get_or (p ∷ rest) q []) == crc_in p q) (range_with_len 1 (length rest))) here ∙ all)

-- a page is unsound
pub sound_some : (crc : ℕ) (ps : List (List ℕ)) (q : ℕ) → is_unsound ps q ≡ true → false ≡ pages_sound crc ps
sound_some crc [] q bad = refl
sound_some crc (p ∷ rest) q bad =
    let parts = bad_parts (nat_le 1 q) (nat_lt q (length (p ∷ rest))) _ bad in
    let low : 1 ≤ q = le_of 1 q parts.0 in
    let high : q < length (p ∷ rest) = lt_of q (length (p ∷ rest)) parts.1 in
    sym (ap (λ b. (crc_of p == crc) && b) (all_fails (λ k. crc_of (get_or (p ∷ rest) k []) == crc_in p k) 1 (length rest) q low (omega arith) parts.2) ∙ and_false (crc_of p == crc))

-- no page is there
pub sound_empty : (crc : ℕ) (ps : List (List ℕ)) → length ps ≡ 0 → false ≡ pages_sound crc ps
sound_empty crc [] e = refl
sound_empty crc (p ∷ rest) e = absurd (omega arith)

-- page 0 of what is kept has the CRC of the header
pub first_crc : (c : List ℕ) (i : ℕ) (h : Held) → KeepsImage c i h → 0 < length h.complete → crc_of (get_or h.complete 0 []) ≡ h.crc
first_crc c i h keeps some =
    ap (λ (ps : List (List ℕ)). crc_of (get_or ps 0 [])) keeps.stored ∙ ap crc_of (first_of (λ p. page_in c (page_sector i p)) (length h.complete) some) ∙ (keeps.first some).same_crc

-- ---- what is seen of a slot shows whether it is sound

-- what is seen is of what is kept
pub record SeenOf (c : List ℕ) (i : ℕ) (h : Option Held) (p : PagesSeen) : Type 0 where
  pub kept : Held
  pub here : h ≡ Some kept
  pub keeps : KeepsImage c i kept
  pub some : 0 < length kept.complete
  pub pages : ShowsPages kept.complete p

held_by : (c : List ℕ) (i : ℕ) (h : Option Held) (o : Option ImageSeen) (x : ImageSeen) (p : PagesSeen) → o ≡ Some x → x.complete ≡ Some p → IfSome h (KeepsImage c i) → ShowsKept h o → SeenOf c i h p
held_by c i None o x p e f keeps shown = let no : None ≡ Some x = sym shown ∙ e in absurd cc
held_by c i (Some g) None x p e f keeps shown = absurd cc
held_by c i (Some g) (Some y) x p e f keeps shown =
    let same : y ≡ x = cc in
    let there : y.complete ≡ Some p = ap (λ (z : ImageSeen). z.complete) same ∙ f in
    let seen : ShowsComplete g.complete (Some p) = subst (ShowsComplete g.complete) there shown.complete in
    record { kept = g; here = refl; keeps = keeps; some = seen.0; pages = seen.1 }

by_least : (o : Option ℕ) (b : Bool) (s : Numbers) (crc : ℕ) (ps : List (List ℕ)) → IsTrue b ↔ (s ≡ set.empty) → MatchOption o (s ≡ set.empty) (IsLeast s) → ((q : ℕ) → set.contains s q ≡ is_unsound ps q)
    → 0 < length ps → crc_of (get_or ps 0 []) ≡ crc → b ≡ pages_sound crc ps
by_least o true s crc ps iff m same some first =
    let none : s ≡ set.empty = iff.0 refl in
    sound_none crc ps some first (λ q. sym (same q) ∙ ap (λ (t : Numbers). set.contains t q) none ∙ contains-none q)
by_least None false s crc ps iff m same some first = let no : false ≡ true = iff.1 m in absurd cc
by_least (Some q) false s crc ps iff m same some first = sound_some crc ps q (sym (same q) ∙ m.member)

pub sound_by_set : (c : List ℕ) (i : ℕ) (h : Option Held) (o : Option ImageSeen) (x : ImageSeen) (p : PagesSeen) (b : Bool) → o ≡ Some x → x.complete ≡ Some p → IfSome h (KeepsImage c i) → ShowsKept h o
    → IsTrue b ↔ (p.unsound ≡ set.empty) → b ≡ held_sound h
sound_by_set c i h o x p b e f keeps shown iff =
    let seen = held_by c i h o x p e f keeps shown in
    by_least (least p.unsound) b p.unsound seen.kept.crc seen.kept.complete iff (least_cases p.unsound) seen.pages.unsound seen.some (first_crc c i seen.kept seen.keeps seen.some) ∙ ap held_sound (sym seen.here)
