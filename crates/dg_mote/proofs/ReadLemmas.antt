-- What is read of bytes: messages in their ranges, and of the shape of their kind.
use Rattle.std.proofs.Common.{◌≡◌, ◌↔◌, ℕ, ◌≤◌, ◌-◌, Bool, true, not, ◌&&◌, IfSome, List, take, drop, length, Option, Some, None, Result, Ok, Err, refl, ap, arith}
use Rattle.std.proofs.lemmas.Bool.{cond_both}
use Rattle.std.proofs.lemmas.Option.{same_Some}
use Rattle.std.proofs.lemmas.List.{length-take}
use Rattle.std.specs.Prelude.{◌==◌, nat_lt, slice_index}
use Rattle.dg_bits.specs.Sets.{AllBelow}
use Rattle.dg_bits.specs.ByteForm.{numbers_of}
use Rattle.dg_bits.proofs.ByteFormLaws.{unmarked_past, AllBelow-packed}
use Rattle.dg_base.specs.Crc.{crc_of}
use Rattle.dg_slot.specs.Layout.{packets}
use Rattle.dg_frame.specs.Sizes.{narrow_images, wide_images, set_bytes, frame_bytes, advert_frame_size, request_frame_size, packet_frame_size, wide_frame_size}
use Rattle.dg_frame.specs.Readings.{IsReading}
use Rattle.dg_frame.specs.Grammar.{half_at, message_of, by_kind, kind_of, ranged, in_range, entries_in, advert_in, request_in, packet_in_frame, wide_in}
use Rattle.dg_frame.specs.declared.Message.{Message}
use Rattle.dg_frame.specs.declared.Message.TheVariants.{Advert, Request, Packet, Wide}
use Rattle.dg_frame.specs.declared.FrameFault.{FrameFault}
use Rattle.dg_frame.specs.declared.FrameFault.TheVariants as fault

-- an advert has its entries, and a request asks for packets of a page
abbrev pub HasShape : Message → Type 0
HasShape (Advert source entries order) = length entries ≡ narrow_images
HasShape (Request source to image version page want) = AllBelow packets want
HasShape (Packet source image version page packet bytes) = Unit {0}
HasShape (Wide source entries order) = length entries ≡ wide_images

abbrev pub IsWellRead : (wide : Bool) → Result Message FrameFault → Type 0
IsWellRead wide (Err cause) = Unit {0}
IsWellRead wide (Ok m) = (in_range wide m ≡ true) × HasShape m

set_below : (b : List ℕ) → AllBelow packets (numbers_of (take set_bytes b))
set_below b = AllBelow-packed packets (take set_bytes b) _ refl (λ n high. unmarked_past (take set_bytes b) n (omega (arith, length-take set_bytes b)))

ranged_well : (wide : Bool) (m : Message) → HasShape m → IsWellRead wide (ranged wide m)
ranged_well wide m h = cond_both (in_range wide m) _ _ (IsWellRead wide) (λ fits. (fits, h)) (λ _. tt)

kind_well : (b : List ℕ) (wide : Bool) (k : Option (ℕ × (List ℕ → Message))) → IfSome k (λ x. HasShape (x.1 b)) → IsWellRead wide (by_kind b wide k)
kind_well b wide None h = tt
kind_well b wide (Some k) h =
    cond_both (not (length b == k.0)) _ _ (IsWellRead wide) (λ _. tt)
    (λ _. cond_both (not (half_at b (length b - 2) == crc_of (take (length b - 2) b))) (Err fault.Check) (ranged wide (k.1 b)) (IsWellRead wide) (λ _. tt) (λ _. ranged_well wide (k.1 b) h))

kinds_shape : (b : List ℕ) (wide : Bool) (n : ℕ) → IfSome (kind_of wide n) (λ x. HasShape (x.1 b))
unfolding entries_in
kinds_shape b wide n =
    let P : Option (ℕ × (List ℕ → Message)) → Type 0 = λ k. IfSome k (λ x. HasShape (x.1 b)) in
    cond_both (n == 1) _ _ P (λ _. refl)
    (λ _. cond_both (n == 2) _ _ P (λ _. set_below (drop 11 b))
    (λ _. cond_both (n == 3) _ _ P (λ _. tt)
    (λ _. cond_both (wide && (n == 4)) _ _ P (λ _. refl) (λ _. tt))))

pub well_read : (b : List ℕ) (wide : Bool) → IsWellRead wide (message_of b wide)
unfolding message_of
well_read b wide = cond_both (nat_lt (length b) 5) _ _ (IsWellRead wide) (λ _. tt) (λ _. kind_well b wide (kind_of wide (slice_index b 0)) (kinds_shape b wide (slice_index b 0)))

-- ---- how long frames are

same_size : (k x : ℕ × (List ℕ → Message)) → Some k ≡ Some x → k.0 ≡ x.0
same_size k x e = ap (λ (y : ℕ × (List ℕ → Message)). y.0) (same_Some k x e)

size_by : (wide : Bool) (n size : ℕ) (fields : List ℕ → Message) → kind_of wide n ≡ Some (size, fields) → size ≤ frame_bytes
size_by wide n size fields =
    let P : Option (ℕ × (List ℕ → Message)) → Type 0 = λ k. k ≡ Some (size, fields) → size ≤ frame_bytes in
    cond_both (n == 1) _ _ P (λ _ e. omega (arith, same_size (advert_frame_size, advert_in) (size, fields) e))
    (λ _. cond_both (n == 2) _ _ P (λ _ e. omega (arith, same_size (request_frame_size, request_in) (size, fields) e))
    (λ _. cond_both (n == 3) _ _ P (λ _ e. omega (arith, same_size (packet_frame_size, packet_in_frame) (size, fields) e))
    (λ _. cond_both (wide && (n == 4)) _ _ P (λ _ e. omega (arith, same_size (wide_frame_size, wide_in) (size, fields) e)) (λ _ e. cc))))

pub frame_short : (wide : Bool) → ((b : List ℕ) (r : Result Message FrameFault) → (message_of b wide ≡ r) ↔ IsReading b wide r) → (b : List ℕ) (m : Message) → message_of b wide ≡ Ok m → length b ≤ frame_bytes
frame_short wide law b m e =
    let r = (law b (Ok m)).0 e in
    omega (arith, r.3, size_by wide (slice_index b 0) r.0 r.1 r.2.kind)
