use Rattle.std.proofs.Common.{◌≡◌, ◌+◌, ◌*◌, ◌-◌, ℕ, List, min, ap, ◌∙◌, subst, arith}
use Rattle.dg_words.specs.Cells.{part, overwritten}
use Rattle.dg_base.specs.Crc.{crc_more}
use Rattle.dg_nor.specs.Sizes.{sector_size}
use Rattle.dg_nor.specs.Chip.{sector, blank}
use Rattle.dg_nor.specs.Device.{Ran}
use Rattle.dg_nor.proofs.ChipLemmas.{length-sector, sector_kept, Touches_then}
use Rattle.dg_nor.proofs.DeviceLemmas.{Ran_then, OnErr_from}
use Rattle.dg_slot.specs.Layout.{page_size}
use Rattle.dg_volume.specs.Sizes.{copy_operations}
use Rattle.dg_boot.specs.Sizes.{copy_piece_size}
use Rattle.dg_boot.proofs.ReadLemmas.{halted_after}
use Rattle.dg_boot.proofs.PageLemmas.{sum_none, sum_more}
use Rattle.dg_boot.proofs.CopyLemmas.{copy_none, copy_more, copy_all, apart, AreBytes-sector}
use Rattle.dg_boot.proofs.pieces.copy_page.Goals as goal

pub loop-k-init : goal.loop-k-init
loop-k-init g c =
    let erased = c.in_ok-erase_sector.ensures in
    record {
      copied = copy_none _ _ erased.cells;
      summed = sum_none _ (min 0 c.args.count) c.args.before (omega arith);
      touches = erased.touches;
      ran = erased.ran;
    }

pub returns-in_err-crc-clause-stopped : goal.returns-in_err-crc-clause-stopped
returns-in_err-crc-clause-stopped g c = OnErr_from _ (halted_after copy_operations c.loop-k.invariant.ran c.in_err-crc.ensures.stopped (omega arith))

pub loop-k-preserved : goal.loop-k-preserved
loop-k-preserved g c =
    let from = c.args.from in
    let k = c.loop-k.k in
    let before = c.loop-k.invariant in
    let done = c.in_ok-crc.ensures in
    let chip = g.met.N.Nor.is_chip c.args.nor.now in
    let image = (g.N.Nor.device c.args.nor.now).image in
    let cells = sector image from in
    let whole = length-sector image from chip.cells c.requires.from_in in
    let same = sector_kept from before.touches c.requires.from_in (apart from c.args.to c.requires.apart) in
    let more : copy_piece_size * k + copy_piece_size ≡ copy_piece_size * (k + 1) = omega arith in
    let at = copy_piece_size * k in
    record {
      copied = copy_more cells _ _ _ at copy_piece_size (copy_piece_size * (k + 1)) whole (AreBytes-sector image from chip.bytes)
          before.copied done.cells (ap (λ s. part s at copy_piece_size) same) more (omega arith);
      summed = sum_more cells c.args.count c.args.before c.loop-k.crc c.in_ok-crc.crc at copy_piece_size (copy_piece_size * (k + 1)) before.summed
          (done.crc ∙ ap (λ (s : List ℕ). crc_more c.loop-k.crc (part s at (min (c.args.count - at) copy_piece_size))) same) more (omega (arith, whole));
      touches = Touches_then before.touches done.touches;
      ran = let e : 1 + k + 1 ≡ 1 + (k + 1) = omega arith in subst (λ (n : ℕ). Ran n (g.N.Nor.device c.args.nor.now) (g.N.Nor.device c.copy_piece.new.nor)) e (Ran_then before.ran done.ran);
    }

pub returns-clause-page : goal.returns-clause-page
returns-clause-page g c =
    let from = c.args.from in
    let chip = g.met.N.Nor.is_chip c.args.nor.now in
    let image = (g.N.Nor.device c.args.nor.now).image in
    let all : copy_piece_size * c.loop-k.k ≡ page_size = omega arith in
    copy_all (sector image from) _ page_size (length-sector image from chip.cells c.requires.from_in) (omega arith)
    (c.loop-k.invariant.copied ∙ ap (λ n. overwritten (blank sector_size) 0 (part (sector image from) 0 n)) all)
