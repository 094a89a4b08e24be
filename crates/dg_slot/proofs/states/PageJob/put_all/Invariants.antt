use Rattle.std.proofs.Common.{◌≡◌, ℕ, ◌<◌, ◌≤◌, ◌+◌, true, false}
use Rattle.std.specs.FinSet as set
use Rattle.dg_nor.specs.Chip.{Touches}
use Rattle.dg_nor.specs.Device.{Ran}
use Rattle.dg_slot.specs.Kept.{Held}
use Rattle.dg_slot.specs.Jobs.{IsOpen, IsJob, no_packets, slot_of, got_of_job, sector_of}
use Rattle.dg_slot.proofs.FillLemmas.{first_packets}
use Rattle.dg_slot.proofs.states.PageJob.put_all.Given as goal

abbrev pub invariant-loop-packet : goal.invariant-loop-packet
invariant-loop-packet g l =
    let old = g.N.Nor.device l.fn.nor in
    let now = g.N.Nor.device l.nor in
    record {
      put : (h : Held) → IsJob old.image l.fn.self h no_packets → IsJob now.image l.self h (first_packets l.page l.packet);
      got : (q : ℕ) → q < l.packet → set.contains (got_of_job l.self) q ≡ true;
      missing : (q : ℕ) → l.packet ≤ q → set.contains (got_of_job l.self) q ≡ false;
      same_slot : slot_of l.self ≡ slot_of l.fn.self;
      index : l.index ≡ sector_of l.fn.self;
      ran : Ran l.packet old now;
      kept : (h : Held) → IsOpen old.image (slot_of l.fn.self) h → IsOpen now.image (slot_of l.fn.self) h;
      references : now.references ≡ old.references;
      touches : Touches (sector_of l.fn.self) (sector_of l.fn.self + 1) old.image now.image;
    }
