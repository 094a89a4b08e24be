-- When a page is asked for, and how often. The states and the requests are in Hui and Culler, SenSys 2004; the numbers are of
-- this profile.
use Rattle.std.specs.Prelude.{ℕ}

-- the first request waits for 1 to this many milliseconds
abbrev pub first_wait : ℕ
first_wait = 512

-- after a request, and after a new packet, the next request waits for this many milliseconds
abbrev pub next_wait : ℕ
next_wait = 1024

-- the requests for one page
abbrev pub most_requests : ℕ
most_requests = 8
