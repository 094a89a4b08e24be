-- Slots and program memory as pages from a sector on.
use Rattle.std.proofs.Common.{◌≡◌, ℕ, ◌+◌, ◌<◌, ◌≤◌, List, [], ◌∷◌, length, get_or, drop, Option, Some, None, Result, Ok, Err, IfOk, IsSomeAnd, refl, sym, ap, subst, ◌∙◌, arith}
use Rattle.dg_words.proofs.ListLemmas.{get_or-tabulate}
use Rattle.sha2.specs.Sha256.{sha256}
use Rattle.dg_object.specs.Descriptor.{Details, IsDescriptor}
use Rattle.dg_slot.specs.Layout.{page_sector, program_sector}
use Rattle.dg_slot.specs.Pages.{page_in, slot_pages, program}
use Rattle.dg_slot.specs.Kept.{Held, KeepsImage}
use Rattle.dg_boot.proofs.DescriptorLemmas.{same_tables}
use Rattle.dg_nor.specs.declared.device.Stopped.{Stopped}
use Rattle.dg_volume.specs.Told.{told_held}
use Rattle.dg_volume.specs.declared.volume.Kept.{Kept}
use Rattle.dg_inspect.specs.Pages.{pages_from, root_in, ShowsPages, ShowsComplete}
use Rattle.dg_inspect.specs.declared.seen.PagesSeen.{PagesSeen}

-- the pages of a slot stand from that of page 0 on
pub slot_from : (c : List ℕ) (i k n : ℕ) → k ≡ page_sector i 0 → pages_from c k n ≡ slot_pages c i n
slot_from c i k n e = same_tables n (λ p. page_in c (k + p)) (λ p. page_in c (page_sector i p)) (λ p l. let at : k + p ≡ page_sector i p = omega arith in ap (page_in c) at)

pub program_from : (c : List ℕ) (k n : ℕ) → k ≡ program_sector 0 → pages_from c k n ≡ program c n
program_from c k n e = same_tables n (λ p. page_in c (k + p)) (λ p. page_in c (program_sector p)) (λ p l. let at : k + p ≡ program_sector p = omega arith in ap (page_in c) at)

-- page 0 of what is kept is a descriptor
pub kept_described : (c : List ℕ) (i k : ℕ) (h : Held) → k ≡ page_sector i 0 → KeepsImage c i h → 0 < length h.complete → (d : Details) × IsDescriptor (page_in c k) d
kept_described c i k h at keeps some =
    let has = (keeps.first some).described in
    (has.0, subst (λ (n : ℕ). IsDescriptor (page_in c n) has.0) (sym at) has.1)

-- the pages that are kept
pub kept_from : (c : List ℕ) (i k n : ℕ) (h : Held) → k ≡ page_sector i 0 → n ≡ length h.complete → KeepsImage c i h → pages_from c k n ≡ h.complete
kept_from c i k n h at count keeps = slot_from c i k n at ∙ ap (slot_pages c i) count ∙ sym keeps.stored

-- they are seen where page 0 is a descriptor
pub complete_shown : (r : Result (Option PagesSeen) Stopped) (c : List ℕ) (i k : ℕ) (kept : Kept) → k ≡ page_sector i 0 → 0 < kept.done
    → IfOk r (λ seen. (d : Details) → IsDescriptor (page_in c k) d → IsSomeAnd seen (ShowsPages (pages_from c k kept.done)))
    → IfOk r (λ seen. (h : Held) → KeepsImage c i h → kept ≡ told_held h → ShowsComplete h.complete seen)
complete_shown (Err e) c i k kept at some shows = tt
complete_shown (Ok None) c i k kept at some shows = λ h keeps told.
    let done : kept.done ≡ length h.complete = ap (λ (k : Kept). k.done) told in
    let d = kept_described c i k h at keeps (omega (arith, done, some)) in
    absurd (shows d.0 d.1)
complete_shown (Ok (Some x)) c i k kept at some shows = λ h keeps told.
    let done : kept.done ≡ length h.complete = ap (λ (k : Kept). k.done) told in
    let d = kept_described c i k h at keeps (omega (arith, done, some)) in
    (omega (arith, done, some), subst (λ (ps : List (List ℕ)). ShowsPages ps x) (kept_from c i k kept.done h at done keeps) (shows d.0 d.1))

-- the root of what is kept is the digest of data page 1
pub root_kept : (c : List ℕ) (i : ℕ) (h : Held) → KeepsImage c i h → 2 ≤ length h.complete → sha256 (page_in c (page_sector i 1)) ≡ root_in (drop 1 h.complete)
root_kept c i h keeps some =
    ap sha256 (sym (get_or-tabulate (length h.complete) 1 (λ p. page_in c (page_sector i p)) [] (omega arith)) ∙ ap (λ (ps : List (List ℕ)). get_or ps 1 []) (sym keeps.stored) ∙ behind h.complete)
  where
    behind : (ps : List (List ℕ)) → get_or ps 1 [] ≡ get_or (drop 1 ps) 0 []
    behind [] = refl
    behind (p ∷ ps) = refl
