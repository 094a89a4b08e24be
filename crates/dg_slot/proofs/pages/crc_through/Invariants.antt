use Rattle.std.proofs.Common.{◌≡◌, ◌<◌, ◌≤◌, ◌-◌, false}
use Rattle.dg_words.specs.Cells.{part}
use Rattle.dg_base.specs.Crc.{crc_more}
use Rattle.dg_nor.specs.Chip.{sector}
use Rattle.dg_nor.specs.Reads.{Looked}
use Rattle.dg_slot.proofs.pages.crc_through.Given as goal

abbrev pub invariant-loop-at : goal.invariant-loop-at
invariant-loop-at g l = record {
  within : l.at ≤ l.count;
  summed : l.crc ≡ crc_more l.fn.before (part (sector (g.N.Nor.device l.initial.nor).image l.index) 0 l.at);
  awake : 0 < l.at → (g.N.Nor.device l.initial.nor).stopped ≡ false;
  looked : Looked (g.N.Nor.device l.initial.nor) (g.N.Nor.device l.nor);
}

abbrev pub decreases-loop-at : goal.decreases-loop-at
decreases-loop-at g l = l.count - l.at
