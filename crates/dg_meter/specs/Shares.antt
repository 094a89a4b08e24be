-- How many of something there were, and their bytes, in each part of a chip (the types `Share` and `Shares`).
use Rattle.std.specs.Prelude.{ℕ, ◌+◌, ◌-◌, ◌^◌, min, List, [], ◌∷◌}
use Rattle.dg_meter.specs.declared.share.Share.{Share}
use Rattle.dg_meter.specs.declared.shares.Shares.{Shares}
use Rattle.dg_meter.specs.declared.region.Region.{Region}
use Rattle.dg_meter.specs.declared.region.Region.TheVariants.{Ledger, Control, Program, Head, Page}

-- a count saturates at the greatest u64
abbrev pub capped_sum : ℕ → ℕ → ℕ
capped_sum n more = min (n + more) (2 ^ 64 - 1)

abbrev pub no_share : Share
no_share = record { count = 0; bytes = 0 }

abbrev pub one_more : Share → ℕ → Share
one_more s bytes = record { count = capped_sum s.count 1; bytes = capped_sum s.bytes bytes }

abbrev pub both : Share → Share → Share
both s t = record { count = capped_sum s.count t.count; bytes = capped_sum s.bytes t.bytes }

abbrev pub those_since : Share → Share → Share
those_since before s = record { count = s.count - before.count; bytes = s.bytes - before.bytes }

abbrev pub no_shares : Shares
no_shares = record { ledger = no_share; control = no_share; program = no_share; head = no_share; page = no_share }

abbrev pub share_at : Shares → Region → Share
share_at s Ledger = s.ledger
share_at s Control = s.control
share_at s Program = s.program
share_at s Head = s.head
share_at s Page = s.page

-- one more in a part, of this many bytes
abbrev pub share_noted : Shares → Region → ℕ → Shares
share_noted s Ledger bytes = record s { ledger = one_more s.ledger bytes }
share_noted s Control bytes = record s { control = one_more s.control bytes }
share_noted s Program bytes = record s { program = one_more s.program bytes }
share_noted s Head bytes = record s { head = one_more s.head bytes }
share_noted s Page bytes = record s { page = one_more s.page bytes }

-- how many there were in each part
abbrev pub counts_in : Shares → List ℕ
counts_in s = s.ledger.count ∷ s.control.count ∷ s.program.count ∷ s.head.count ∷ s.page.count ∷ []
