-- What a mote that serves a page keeps: the packets that are still to be sent, and when the next one is due (the state TX of
-- Deluge: Hui and Culler, SenSys 2004).
use Rattle.std.specs.Prelude.{ℕ, refl}
use Rattle.std.specs.Coded.{Coded, code_by, coded×, coded_ℕ}
use Rattle.std.specs.FinSet as set
use Rattle.dg_bits.specs.Sets.{Numbers}

pub record Owed : Type 0 where
  pub left : Numbers
  pub due : ℕ

abbrev pub owed_code : Coded Owed
owed_code =
    code_by (Numbers × ℕ) (coded× (set.code coded_ℕ) coded_ℕ) (λ o. (o.left, o.due)) (λ p. record { left = p.0; due = p.1 })
    (λ _. refl)
