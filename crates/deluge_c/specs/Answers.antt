-- The numbers that report to C how a call ended (docs/C.md, "Answers").
use Rattle.std.specs.Prelude.{ℕ, ◌≤◌}
use Rattle.dg_frame.specs.declared.FrameFault.{FrameFault}
use Rattle.dg_frame.specs.declared.FrameFault.TheVariants as frame
use Rattle.dg_volume.specs.declared.volume.InjectFault.{InjectFault}
use Rattle.dg_volume.specs.declared.volume.InjectFault.TheVariants as inject_fault
use Rattle.dg_volume.specs.declared.volume.OrderFault.{OrderFault}
use Rattle.dg_volume.specs.declared.volume.OrderFault.TheVariants as order_fault
use Rattle.dg_volume.specs.declared.volume.TakeFault.{TakeFault}
use Rattle.dg_volume.specs.declared.volume.TakeFault.TheVariants as take_fault

-- the call was done
abbrev pub done : ℕ
done = 0

-- bytes are not a frame, by the first cause
abbrev pub frame_answer : FrameFault → ℕ
frame_answer frame.Short = 1
frame_answer frame.Kind = 2
frame_answer frame.Length = 3
frame_answer frame.Check = 4
frame_answer frame.Range = 5

-- the answers from here on are refusals, each of its acts
abbrev pub IsRefusal : ℕ → Type 0
IsRefusal n = 13 ≤ n

-- why a slot is not taken; a list without room stops it
abbrev pub take_answer : TakeFault → ℕ
take_answer take_fault.Stopped = 6
take_answer (take_fault.Stale kept) = 14
take_answer take_fault.Reserved = 13
take_answer (take_fault.Worn room) = 15

abbrev pub order_answer : OrderFault → ℕ
order_answer order_fault.Stopped = 6
order_answer (order_fault.OldOrder kept) = 19
order_answer (order_fault.Worn room) = 15

abbrev pub inject_answer : InjectFault → ℕ
inject_answer inject_fault.Stopped = 6
inject_answer inject_fault.Empty = 16
inject_answer inject_fault.TooLarge = 17
inject_answer (inject_fault.Stale kept) = 14
inject_answer inject_fault.Reserved = 13
inject_answer inject_fault.Taken = 18
inject_answer (inject_fault.Worn room) = 15
