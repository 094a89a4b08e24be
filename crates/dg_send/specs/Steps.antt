-- What each call does to what is owed, and what it answers (the state TX of Deluge: Hui and Culler, SenSys 2004).
use Rattle.std.specs.Prelude.{ℕ, ◌+◌, Bool, true, false, nat_lt, Option, None, Some}
use Rattle.std.specs.FinSet as set
use Rattle.dg_bits.specs.Sets.{Numbers, least}
use Rattle.dg_send.specs.declared.Serve.{Serve}
use Rattle.dg_send.specs.declared.Serve.TheVariants.{Send, Done, Wait}
use Rattle.dg_send.specs.Times.{packet_gap}
use Rattle.dg_send.specs.Owed.{Owed}

-- what the first request asks for, due at once
abbrev pub owed_begun : ℕ → Numbers → Owed
owed_begun moment want = record { left = want; due = moment }

-- a further request adds what it asks for
abbrev pub after_merge : Owed → Numbers → Owed
after_merge o want = record o { left = set.union o.left want }

-- nothing is left, or the next packet is not due, or the lowest one is sent
abbrev pub serve_by : Option ℕ → Bool → Serve
serve_by None early = Done
serve_by (Some packet) true = Wait
serve_by (Some packet) false = Send packet

abbrev pub serve_of : Owed → ℕ → Serve
serve_of o moment = serve_by (least o.left) (nat_lt moment o.due)

-- a packet that is sent leaves the set, and delays the next one
abbrev pub next_by : Option ℕ → Bool → Owed → ℕ → Owed
next_by None early o moment = o
next_by (Some packet) true o moment = o
next_by (Some packet) false o moment = record { left = set.remove o.left packet; due = moment + packet_gap }

abbrev pub after_next : Owed → ℕ → Owed
after_next o moment = next_by (least o.left) (nat_lt moment o.due) o moment
