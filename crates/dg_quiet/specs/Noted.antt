-- What was overheard of each image, and when a mote may ask for it again (the suppression of Deluge: Hui and Culler, SenSys
-- 2004).
use Rattle.std.specs.Prelude.{ℕ, ◌+◌, ◌≤◌, Bool, true, ◌&&◌, nat_le, Option, None, Some, IfSome, List, [], ◌∷◌, refl}
use Rattle.std.specs.Coded.{Coded, code_by, coded×, coded_ℕ}
use Rattle.std.specs.Ordering.{nat_cmp}
use Rattle.std.specs.FinMap as map
use Rattle.dg_quiet.specs.Times.{request_window, packet_window}

-- the time that was noted last for each image
abbrev pub Moments : Type 0
Moments = map.FinMap nat_cmp ℕ

-- the last overheard requests, and the last overheard packets
pub record Noted : Type 0 where
  pub requests : Moments
  pub packets : Moments

abbrev pub noted_code : Coded Noted
noted_code =
    code_by (Moments × Moments) (coded× (map.code coded_ℕ coded_ℕ) (map.code coded_ℕ coded_ℕ))
    (λ n. (n.requests, n.packets)) (λ p. record { requests = p.0; packets = p.1 }) (λ _. refl)

abbrev pub nothing_noted : Noted
nothing_noted = record { requests = map.empty; packets = map.empty }

-- a request for the image, or a packet of it, is overheard at this time
abbrev pub with_request : Noted → ℕ → ℕ → Noted
with_request n moment image = record n { requests = map.insert n.requests image moment }

abbrev pub with_packet : Noted → ℕ → ℕ → Noted
with_packet n moment image = record n { packets = map.insert n.packets image moment }

-- what was noted, if anything, is at least this long ago
abbrev pub IsPast : Option ℕ → ℕ → ℕ → Type 0
IsPast last quiet moment = IfSome last (λ m. m + quiet ≤ moment)

abbrev pub is_past : Option ℕ → ℕ → ℕ → Bool
is_past None quiet moment = true
is_past (Some m) quiet moment = nat_le (m + quiet) moment

-- both windows of the image are over
abbrev pub may_ask : Noted → ℕ → ℕ → Bool
may_ask n moment image =
    is_past (map.get n.requests image) request_window moment && is_past (map.get n.packets image) packet_window moment

-- the map of a list that has the time of each image from `image` on
abbrev pub moments_from : ℕ → List (Option ℕ) → Moments
moments_from image [] = map.empty
moments_from image (None ∷ rest) = moments_from (image + 1) rest
moments_from image (Some moment ∷ rest) = map.insert (moments_from (image + 1) rest) image moment

-- images are numbered from 1 on
unfoldable pub moments_of : List (Option ℕ) → Moments
moments_of places = moments_from 1 places
