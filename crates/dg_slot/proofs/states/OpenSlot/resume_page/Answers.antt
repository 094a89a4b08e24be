use Rattle.std.proofs.Common.{arith}
use Rattle.dg_slot.proofs.states.OpenSlot.resume_page.Goals as goal

pub returns-clause-resumed : goal.returns-clause-resumed
returns-clause-resumed c = λ x h ps opened put. record { slot = opened; more = omega (arith, c.requires, opened.opens.done, opened.opens.pages); count = put.count; got = put.told; stands = put.stands }
