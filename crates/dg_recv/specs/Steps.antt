-- What each call does to a reception, and what it answers (the state RX of Deluge: Hui and Culler, SenSys 2004).
use Rattle.std.specs.Prelude.{ℕ, ◌+◌, ◌%◌, nat_le, nat_lt, if◌then◌else◌}
use Rattle.std.specs.FinSet as set
use Rattle.dg_bits.specs.Sets.{Numbers, below}
use Rattle.dg_recv.specs.declared.Ask.{Ask}
use Rattle.dg_recv.specs.declared.Ask.TheVariants.{Request, GiveUp, Wait}
use Rattle.dg_recv.specs.declared.Accept.{Accept}
use Rattle.dg_recv.specs.declared.Accept.TheVariants.{New, Known}
use Rattle.dg_object.specs.Sizes.{packets}
use Rattle.dg_recv.specs.Times.{most_requests, first_wait, next_wait}
use Rattle.dg_recv.specs.Reception.{Reception}

-- nothing is accepted, and the first request waits for a random time
abbrev pub reception_begun : ℕ → ℕ → Reception
reception_begun moment word = record { got = set.empty; tries = 0; due = moment + 1 + word % first_wait }

-- the packets of the page that were not accepted
abbrev pub missing : Reception → Numbers
missing r = set.difference (below packets) r.got

-- it waits until the request is due, and gives up after this many requests
abbrev pub ask_of : Reception → ℕ → Ask
ask_of r moment = if nat_lt moment r.due then Wait else (if nat_le most_requests r.tries then GiveUp else Request (missing r))

-- a request is counted, and delays the next one
abbrev pub after_ask : Reception → ℕ → Reception
after_ask r moment =
    if nat_lt moment r.due then r else (if nat_le most_requests r.tries then r
    else record r { tries = r.tries + 1; due = moment + next_wait })

abbrev pub accept_of : Reception → ℕ → Accept
accept_of r packet = if set.contains r.got packet then Known else New

-- a new packet delays the next request
abbrev pub after_accept : Reception → ℕ → ℕ → Reception
after_accept r moment packet =
    if set.contains r.got packet then r else record r { got = set.insert r.got packet; due = moment + next_wait }
