-- Whole histories of a reception: any calls, at any times (the state RX of Deluge: Hui and Culler, SenSys 2004).
use Rattle.std.specs.Prelude.{ℕ, ◌+◌, List, [], ◌∷◌}
use Rattle.std.specs.FinSet as set
use Rattle.dg_bits.specs.Sets.{Numbers}
use Rattle.dg_recv.specs.declared.Ask.{Ask}
use Rattle.dg_recv.specs.declared.Ask.TheVariants.{Request, GiveUp, Wait}
use Rattle.dg_recv.specs.Reception.{Reception}
use Rattle.dg_recv.specs.Steps.{reception_begun, ask_of, after_ask, after_accept}

-- the clock is read, or a packet of the page arrives
pub data ReceptionCall : Type 0 where
  Next : (moment : ℕ) → ReceptionCall
  Comes : (moment packet : ℕ) → ReceptionCall

abbrev pub after_reception_call : Reception → ReceptionCall → Reception
after_reception_call r (Next moment) = after_ask r moment
after_reception_call r (Comes moment packet) = after_accept r moment packet

-- the reception after a history, the newest call first
abbrev pub reception_after : ℕ → ℕ → List ReceptionCall → Reception
reception_after start word [] = reception_begun start word
reception_after start word (call ∷ earlier) = after_reception_call (reception_after start word earlier) call

-- the packets that came in
abbrev pub came_in : List ReceptionCall → Numbers
came_in [] = set.empty
came_in (Next moment ∷ earlier) = came_in earlier
came_in (Comes moment packet ∷ earlier) = set.insert (came_in earlier) packet

-- the requests that were made
abbrev pub request_count : Ask → ℕ
request_count (Request want) = 1
request_count GiveUp = 0
request_count Wait = 0

abbrev pub requests : ℕ → ℕ → List ReceptionCall → ℕ
requests start word [] = 0
requests start word (Next moment ∷ earlier) =
    requests start word earlier + request_count (ask_of (reception_after start word earlier) moment)
requests start word (Comes moment packet ∷ earlier) = requests start word earlier
