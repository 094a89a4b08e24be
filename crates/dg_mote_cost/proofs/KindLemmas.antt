-- The kind and the size of a message's frame.
use Rattle.std.proofs.Common.{◌≡◌, ℕ, ◌==◌, ◌&&◌, Bool, true, false, cond, List, [], ◌∷◌, length, take, refl, ap, ◌∙◌, Ok, Err}
use Rattle.std.specs.Prelude.{◌-◌, not, nat_lt, Some, None}
use Rattle.std.proofs.lemmas.Bool.{eqb-true}
use Rattle.dg_base.specs.Crc.{crc_of}
use Rattle.dg_frame.specs.Grammar.{message_of, by_kind, ranged, half_at, advert_in, request_in, packet_in_frame, wide_in}
use Rattle.dg_frame.specs.Spelling.{frame_of}
use Rattle.dg_frame.specs.declared.Message.{Message}
use Rattle.dg_frame.specs.declared.Message.TheVariants.{Advert, Request, Packet, Wide}
use Rattle.dg_frame.specs.declared.FrameFault.{FrameFault}
use Rattle.dg_frame.specs.declared.FrameFault.TheVariants.{Short, Kind, Length, Check}
use Rattle.dg_events.specs.Frames.{frame_number, frame_size}

abbrev pub number_of : Message → ℕ
number_of (Advert source entries order) = 0
number_of (Request source to image version page want) = 1
number_of (Packet source image version page packet bytes) = 2
number_of (Wide source entries order) = 3

-- the first byte of a frame is that of its message's kind
pub frame_kind : (m : Message) → frame_number (frame_of m) ≡ number_of m
unfolding frame_of
frame_kind (Advert source entries order) = refl
frame_kind (Request source to image version page want) = refl
frame_kind (Packet source image version page packet bytes) = refl
frame_kind (Wide source entries order) = refl

err_ok : (fault : FrameFault) (m : Message) → Err fault ≡ Ok m → ⊥
err_ok fault m e = absurd cc

sized : (b : List ℕ) (wide : Bool) (n : ℕ) (f : List ℕ → Message) (m : Message) → by_kind b wide (Some (n, f)) ≡ Ok m → length b ≡ n
sized b wide n f m e = by (length b == n) refl e
  where
    by : (c : Bool) → (length b == n) ≡ c
        → cond (not c) (Err Length) (cond (not (half_at b (length b - 2) == crc_of (take (length b - 2) b))) (Err Check) (ranged wide (f b))) ≡ Ok m → length b ≡ n
    by true is e = eqb-true (length b) n is
    by false is e = absurd (err_ok Length m e)

by_first : (b : List ℕ) (m : Message) (p q r s : Bool)
    → by_kind b true (cond p (Some (38, advert_in)) (cond q (Some (19, request_in)) (cond r (Some (35, packet_in_frame)) (cond (true && s) (Some (62, wide_in)) None)))) ≡ Ok m
    → length b ≡ frame_size (cond p 0 (cond q 1 (cond r 2 (cond s 3 4))))
by_first b m true q r s e = sized b true 38 advert_in m e
by_first b m false true r s e = sized b true 19 request_in m e
by_first b m false false true s e = sized b true 35 packet_in_frame m e
by_first b m false false false true e = sized b true 62 wide_in m e
by_first b m false false false false e = absurd (err_ok Kind m e)

-- what a wide reader reads has the size of its kind
read_size : (b : List ℕ) (m : Message) → message_of b true ≡ Ok m → length b ≡ frame_size (frame_number b)
unfolding message_of
read_size [] m e = absurd (err_ok Short m e)
read_size (x ∷ rest) m e = by (nat_lt (length (x ∷ rest)) 5) e
  where
    by : (c : Bool) → cond c (Err Short) (by_kind (x ∷ rest) true (cond (x == 1) (Some (38, advert_in)) (cond (x == 2) (Some (19, request_in)) (cond (x == 3) (Some (35, packet_in_frame)) (cond (true && (x == 4)) (Some (62, wide_in)) None))))) ≡ Ok m
        → length (x ∷ rest) ≡ frame_size (frame_number (x ∷ rest))
    by true e = absurd (err_ok Short m e)
    by false e = by_first (x ∷ rest) m (x == 1) (x == 2) (x == 3) (x == 4) e

pub frame_sized : (m : Message) → message_of (frame_of m) true ≡ Ok m → length (frame_of m) ≡ frame_size (number_of m)
frame_sized m e = read_size (frame_of m) m e ∙ ap frame_size (frame_kind m)
