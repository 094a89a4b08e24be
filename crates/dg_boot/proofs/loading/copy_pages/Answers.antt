use Rattle.std.proofs.Common.{◌≡◌, ℕ, suc, ◌+◌, ◌-◌, ◌*◌, ◌<◌, ◌≤◌, List, map, take, length, sym, ap, ◌∙◌, subst, arith, below_more}
use Rattle.std.specs.List.{range_with_len}
use Rattle.dg_words.specs.Lists.{concatenated}
use Rattle.dg_words.specs.Cells.{part}
use Rattle.dg_base.specs.Crc.{crc_of, crc_more}
use Rattle.dg_nor.specs.Sizes.{sectors, sector_size}
use Rattle.dg_nor.specs.Chip.{sector}
use Rattle.dg_nor.specs.Device.{Ran}
use Rattle.dg_nor.proofs.ChipLemmas.{length-sector, Touches_then, Touches_wider}
use Rattle.dg_nor.proofs.DeviceLemmas.{OnErr_from, Ran_then}
use Rattle.dg_object.specs.Object.{pages_for}
use Rattle.dg_slot.specs.Layout.{page_size, most_pages, page_sector, program_sector, program_end}
use Rattle.dg_slot.specs.Pages.{page_in}
use Rattle.dg_volume.specs.Sizes.{copy_operations}
use Rattle.dg_boot.proofs.ReadLemmas.{halted_more}
use Rattle.dg_boot.proofs.ContentLemmas.{page_summed, content-tabulate, all_summed, pages_begun, page_inside}
use Rattle.dg_boot.proofs.loading.copy_pages.Goals as goal

pub returns-in_err-crc-clause-stopped : goal.returns-in_err-crc-clause-stopped
returns-in_err-crc-clause-stopped g c =
    let p = c.loop-p.p in
    let all = c.div_ceil-p-end.result in
    let begun : pages_for c.args.length ≡ suc all = pages_begun c.args.length all c.div_ceil-p-end.ensures in
    let within : copy_operations * (p + 1) + copy_operations ≤ copy_operations * pages_for c.args.length = omega (arith, begun, c.loop-p-test.true) in
    OnErr_from _ (halted_more (copy_operations * pages_for c.args.length) c.loop-p.invariant.ran c.in_err-crc.ensures.stopped within)

pub loop-p-preserved : goal.loop-p-preserved
loop-p-preserved g c =
    let old = g.N.Nor.device c.args.nor.now in
    let image = old.image in
    let i = c.args.image in
    let page = λ (q : ℕ). page_in image (page_sector i q) in
    let p = c.loop-p.p in
    let all = c.div_ceil-p-end.result in
    let left = c.args.length - page_size * p in
    let total = crc_of (take c.args.length (concatenated (map page (range_with_len 1 all)))) in
    let before = c.loop-p.invariant in
    let done = c.in_ok-crc.ensures in
    let chip = g.met.N.Nor.is_chip c.args.nor.now in
    let inside : p + 2 ≤ most_pages = page_inside c.args.length all p c.div_ceil-p-end.ensures c.requires.fits (omega arith) in
    let from = c.page_sector-first.result + 1 + p in
    let place : page_sector i (p + 1) ≡ from = omega (arith, c.page_sector-first.ensures) in
    let known : from < sectors = omega (arith, c.page_sector-first.ensures) in
    let past : program_end ≤ from = omega (arith, c.page_sector-first.ensures) in
    let whole : length (sector image from) ≡ sector_size = length-sector image from chip.cells known in
    let same = before.touches.behind from past known in
    let count : all - p ≡ suc (all - (p + 1)) = omega arith in
    let after : left - page_size ≡ c.args.length - page_size * (p + 1) = omega arith in
    let now : crc_more c.loop-p.crc (take left (concatenated (map page (range_with_len (p + 1) (suc (all - (p + 1))))))) ≡ total =
    ap (λ n. crc_more c.loop-p.crc (take left (concatenated (map page (range_with_len (p + 1) n))))) (sym count) ∙ before.summed in
    let read = done.crc ∙ ap (λ (s : List ℕ). crc_more c.loop-p.crc (part s 0 c.min-count.result)) same in
    let next = page_summed page (sector image from) left c.min-count.result (p + 1) (all - (p + 1)) c.loop-p.crc c.in_ok-crc.crc total
    (ap (page_in image) place) (omega arith) c.min-count.ensures read now in
    let to : program_sector (p + 1) ≡ 3 + 1 + p = omega arith in
    record {
      copied = below_more _ _
          (λ q h. ap (λ s. part s 0 page_size) (done.touches.before (program_sector q) (omega arith) (omega arith)) ∙ before.copied q h)
          (ap (page_in (g.N.Nor.device c.copy_page-in-loop-p.new.nor).image) to ∙ done.page ∙ ap (λ s. part s 0 page_size) same ∙ ap (page_in image) (sym place));
      summed = ap (λ n. crc_more c.in_ok-crc.crc (take n (concatenated (map page (range_with_len (p + 1 + 1) (all - (p + 1))))))) (sym after) ∙ next;
      touches = Touches_then before.touches (Touches_wider (3 + 1 + p) (3 + 1 + p + 1) (program_sector 0) program_end done.touches (omega arith) (omega arith));
      ran = let e : copy_operations * (p + 1) + copy_operations ≡ copy_operations * (p + 1 + 1) = omega arith in subst (λ (n : ℕ). Ran n old (g.N.Nor.device c.copy_page-in-loop-p.new.nor)) e (Ran_then before.ran done.ran);
    }

pub returns-clause-crc : goal.returns-clause-crc
returns-clause-crc g c =
    let image = (g.N.Nor.device c.args.nor.now).image in
    let page = λ (q : ℕ). page_in image (page_sector c.args.image q) in
    let p = c.loop-p.p in
    let all = c.div_ceil-p-end.result in
    let none : all - p ≡ 0 = omega arith in
    all_summed page (c.args.length - page_size * p) (p + 1) (all - p) c.loop-p.crc _ none c.loop-p.invariant.summed
    ∙ ap crc_of (sym (content-tabulate c.args.length (pages_for c.args.length) all page (pages_begun c.args.length all c.div_ceil-p-end.ensures)))
