-- Whole histories of a serving: any calls, at any times (the state TX of Deluge: Hui and Culler, SenSys 2004).
use Rattle.std.specs.Prelude.{ℕ, ◌+◌, ◌==◌, if◌then◌else◌, List, [], ◌∷◌}
use Rattle.std.specs.FinSet as set
use Rattle.dg_bits.specs.Sets.{Numbers}
use Rattle.dg_send.specs.declared.Serve.{Serve}
use Rattle.dg_send.specs.declared.Serve.TheVariants.{Send, Done, Wait}
use Rattle.dg_send.specs.Owed.{Owed}
use Rattle.dg_send.specs.Steps.{owed_begun, after_merge, serve_of, after_next}

-- a further request arrives, or the clock is read
pub data ServeCall : Type 0 where
  Asks : (want : Numbers) → ServeCall
  Next : (moment : ℕ) → ServeCall

abbrev pub after_serve_call : Owed → ServeCall → Owed
after_serve_call o (Asks want) = after_merge o want
after_serve_call o (Next moment) = after_next o moment

-- what is owed after a history that began with a request, the newest call first
abbrev pub owed : ℕ → Numbers → List ServeCall → Owed
owed start first [] = owed_begun start first
owed start first (call ∷ earlier) = after_serve_call (owed start first earlier) call

-- the union of all requests
abbrev pub all_asked : Numbers → List ServeCall → Numbers
all_asked first [] = first
all_asked first (Asks want ∷ earlier) = set.union (all_asked first earlier) want
all_asked first (Next moment ∷ earlier) = all_asked first earlier

abbrev pub sent_by : Serve → Numbers → Numbers
sent_by (Send packet) before = set.insert before packet
sent_by Done before = before
sent_by Wait before = before

-- the packets that were sent
abbrev pub sent : ℕ → Numbers → List ServeCall → Numbers
sent start first [] = set.empty
sent start first (Asks want ∷ earlier) = sent start first earlier
sent start first (Next moment ∷ earlier) = sent_by (serve_of (owed start first earlier) moment) (sent start first earlier)

-- 1 if a set names the packet
abbrev pub names : Numbers → ℕ → ℕ
names s packet = if set.contains s packet then 1 else 0

-- how many requests asked for a packet
abbrev pub times_asked : Numbers → List ServeCall → ℕ → ℕ
times_asked first [] packet = names first packet
times_asked first (Asks want ∷ earlier) packet = times_asked first earlier packet + names want packet
times_asked first (Next moment ∷ earlier) packet = times_asked first earlier packet

-- 1 if the packet is sent
abbrev pub packets_sent : Serve → ℕ → ℕ
packets_sent (Send q) packet = if packet == q then 1 else 0
packets_sent Done packet = 0
packets_sent Wait packet = 0

-- how often a packet was sent
abbrev pub times_sent : ℕ → Numbers → List ServeCall → ℕ → ℕ
times_sent start first [] packet = 0
times_sent start first (Asks want ∷ earlier) packet = times_sent start first earlier packet
times_sent start first (Next moment ∷ earlier) packet =
    times_sent start first earlier packet + packets_sent (serve_of (owed start first earlier) moment) packet
