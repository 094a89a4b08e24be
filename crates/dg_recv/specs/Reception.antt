-- What a mote that asks for a page keeps: what it has, and the progress of its requests (the state RX of Deluge: Hui and
-- Culler, SenSys 2004).
use Rattle.std.specs.Prelude.{ℕ, refl}
use Rattle.std.specs.Coded.{Coded, code_by, coded×, coded_ℕ}
use Rattle.std.specs.FinSet as set
use Rattle.dg_bits.specs.Sets.{Numbers}

pub record Reception : Type 0 where
  -- the packets that were accepted
  pub got : Numbers
  -- how many requests were made
  pub tries : ℕ
  -- the time from which on the next request is due
  pub due : ℕ

abbrev pub reception_code : Coded Reception
reception_code =
    code_by (Numbers × (ℕ × ℕ)) (coded× (set.code coded_ℕ) (coded× coded_ℕ coded_ℕ))
    (λ r. (r.got, (r.tries, r.due))) (λ p. record { got = p.0; tries = p.1.0; due = p.1.1 }) (λ _. refl)
