use Rattle.std.proofs.Common.{◌≡◌, true, ap, ◌∙◌, arith}
use Rattle.std.proofs.lemmas.Bool.{both_ways}
use Rattle.std.specs.FinSet as set
use Rattle.dg_bits.specs.Sets.{Numbers}
use Rattle.dg_bits.proofs.SetLaws.{contains-put, contains-none}
use Rattle.dg_frame.proofs.ReadingLemmas.{ranges}
use Rattle.dg_tests.proofs.frames.a_request_is_spelled.Goals as goal

-- a set to which a number was put is not empty
not_empty : (s t : Numbers) → t ≡ set.insert s 47 → t ≡ set.empty → ⊥
not_empty s t e empty = both_ways (set.contains t 47) (ap (λ x. set.contains x 47) empty ∙ contains-none 47) (ap (λ x. set.contains x 47) e ∙ contains-put s 47 47)

pub write-requires : goal.write-requires
write-requires g c =
    (ranges true _).1 (record { first = omega arith; last = omega arith; of_version = omega arith; in_object = omega arith }, not_empty _ _ c.set-2.ensures)
